-- Which commands can be written.
use Rattle.std.specs.Prelude.{ℕ, ◌+◌, ◌*◌, ◌%◌, ◌≡◌, ◌<◌, ◌≤◌, ◌⊎◌, List, [], length}
use Rattle.norm_base.specs.Sizes.{datagram_room}
use Rattle.norm_ext.specs.Places.{word_size, most_header_words, node_size, object_size, encoding_at, command_words, command_header, naming_header}
use Rattle.norm_ext.specs.Numbers.{sub_type_number}
use Rattle.norm_ext.specs.declared.kinds.SubType.TheVariants as commands
use Rattle.norm_ext.specs.Extensions.{Extension}
use Rattle.norm_ext.specs.Octets.{extensions_octets, requests_octets}
use Rattle.norm_ext.specs.declared.head.CmdHead.{CmdHead}
use Rattle.norm_cmdmsg.specs.declared.command.CommandMsg.{CommandMsg}
use Rattle.norm_cmdmsg.specs.declared.command.CommandMsg.TheVariants as lent

pub record IsNarrow (head : CmdHead) : Type 0 where
  pub backoff : head.backoff < 16
  pub gsize : head.gsize < 16

-- behind so many octets of fixed fields: a header of at most 255 words, and 1,500 octets in all
pub record HasRoom (fixed : ℕ) (extensions : List Extension) (content : List ℕ) : Type 0 where
  pub header : fixed + length (extensions_octets extensions) ≤ word_size * most_header_words
  pub most : fixed + length (extensions_octets extensions) + length content ≤ datagram_room

-- a command that is not read: its sub-type, and a header that its octets have
pub record IsUnread (kind words : ℕ) (rest : List ℕ) : Type 0 where
  pub sub_type : (kind ≡ sub_type_number commands.CongestionControl) ⊎ (kind ≡ sub_type_number commands.Application)
  pub least : command_words ≤ words
  pub header : word_size * words ≤ encoding_at + length rest
  pub most : encoding_at + length rest ≤ datagram_room

abbrev pub CanWrite : CommandMsg → Type 0
CanWrite (lent.Flush head object id exts nodes) = IsNarrow head × HasRoom naming_header exts nodes.now × (length nodes.now % node_size ≡ 0)
CanWrite (lent.Eot head exts) = IsNarrow head × HasRoom command_header exts []
CanWrite (lent.Squelch head object id exts invalid) = IsNarrow head × HasRoom naming_header exts invalid.now × (length invalid.now % object_size ≡ 0)
CanWrite (lent.RepairAdv head flags exts requests) = IsNarrow head × HasRoom command_header exts (requests_octets requests)
CanWrite (lent.AckReq head ack_type ack_id exts nodes) = IsNarrow head × HasRoom command_header exts nodes.now × (length nodes.now % node_size ≡ 0)
CanWrite (lent.Opaque head sub_type words rest) = IsNarrow head × IsUnread sub_type words rest.now
