-- What is looked at in every message: its header, its extensions, its nodes and its lists, and the fields that several
-- messages share (RFC 5740 section 4).
use Rattle.std.specs.Prelude.{ℕ, ◌*◌, ◌/◌, ◌%◌, ◌==◌, nat_lt, not, ◌||◌, List, length, drop, Result, Ok, Err, if◌then◌else◌}
use Rattle.norm_ext.specs.Steps.{◌>>=◌, refused_if}
use Rattle.norm_ext.specs.Places.{word_size, words_at, sequence_at, source_at, node_size, common, common_words, instance_at, grtt_at, sizes_at, flags_at, sub_type_at, object_at, object_size, info_words, data_words, command_words, naming_words, feedback_words}
use Rattle.norm_ext.specs.Numbers.{octet, number, part, type_number, sub_type_number, encoding_id}
use Rattle.norm_ext.specs.Extensions.{extensions_checked}
use Rattle.norm_ext.specs.declared.kinds.MessageType.{MessageType}
use Rattle.norm_ext.specs.declared.kinds.MessageType.TheVariants as types
use Rattle.norm_ext.specs.declared.kinds.SubType.TheVariants as commands
use Rattle.norm_ext.specs.declared.head.ObjHead.{ObjHead}
use Rattle.norm_ext.specs.declared.head.CmdHead.{CmdHead}
use Rattle.norm_ext.specs.declared.refusal.ExtFault.{ExtFault}
use Rattle.norm_ext.specs.declared.refusal.ExtFault.TheVariants.{ZeroLength, Overrun}
use Rattle.norm_ext.specs.declared.refusal.Refusal.{Refusal}
use Rattle.norm_ext.specs.declared.refusal.Refusal.TheVariants.{Short, Version, BadType, HeaderLength, PastEnd, FecId, Ext, BadNode, BadList}

-- the header's length in words, which octet 1 says
abbrev pub words_of : List ℕ → ℕ
words_of octets = octet words_at octets

-- the type, which is the lower half of octet 0
abbrev pub type_in : List ℕ → ℕ
type_in octets = octet 0 octets % 16

-- what stands behind the header
abbrev pub content_of : List ℕ → List ℕ
content_of octets = drop (word_size * words_of octets) octets

-- the header's octets from a place on
abbrev pub header_from : ℕ → List ℕ → List ℕ
header_from at octets = part at (word_size * words_of octets) octets

-- the least words of a message's header: a flush and a squelch name a symbol
abbrev pub least_words : MessageType → List ℕ → ℕ
least_words types.Info octets = info_words
least_words types.Data octets = data_words
least_words types.Command octets =
    if (octet sub_type_at octets == sub_type_number commands.Flush) || (octet sub_type_at octets == sub_type_number commands.Squelch) then naming_words
    else command_words
least_words types.Nack octets = feedback_words
least_words types.Ack octets = feedback_words
least_words types.Report octets = common_words

-- the version, which is the upper half of octet 0
abbrev pub version_checked : List ℕ → Result (Unit {0}) Refusal
version_checked octets =
    if nat_lt (length octets) common then Err (Short (length octets)) else
    refused_if (not (octet 0 octets / 16 == 1)) (Version (octet 0 octets / 16))

-- the header of a message of a type
unfoldable pub header_checked : MessageType → List ℕ → Result (Unit {0}) Refusal
header_checked kind octets = do
  version ← version_checked octets
  type ← refused_if (not (type_in octets == type_number kind)) (BadType (type_in octets))
  least ← refused_if (nat_lt (words_of octets) (least_words kind octets)) (HeaderLength (words_of octets) (least_words kind octets))
  refused_if (nat_lt (length octets) (word_size * words_of octets)) (PastEnd (words_of octets) (length octets))

-- the FEC Encoding ID, at a place
abbrev pub encoding_checked : ℕ → Result (Unit {0}) Refusal
encoding_checked id = refused_if (not (id == encoding_id)) (FecId id)

-- a datagram with an extension that is wrong
abbrev pub extension_refused : Result (Unit {0}) ExtFault → Result (Unit {0}) Refusal
extension_refused (Ok x) = Ok tt
extension_refused (Err (ZeroLength at)) = Err (Ext at)
extension_refused (Err (Overrun at)) = Err (Ext at)

-- the header's extensions, which begin at a place
abbrev pub header_extensions_checked : ℕ → List ℕ → Result (Unit {0}) Refusal
header_extensions_checked from octets = extension_refused (extensions_checked from (header_from from octets))

-- a node's id names a member
abbrev pub member_checked : ℕ → Result (Unit {0}) Refusal
member_checked n = refused_if ((n == 0) || (n == 4294967295)) BadNode

-- a list of numbers of so many octets has no octet over
abbrev pub list_checked : ℕ → List ℕ → Result (Unit {0}) Refusal
list_checked width octets = refused_if (not (length octets % width == 0)) (BadList (length octets % width))

-- the source, which stands behind the sequence number
abbrev pub source_of : List ℕ → ℕ
source_of octets = number node_size source_at octets

abbrev pub sequence_of : List ℕ → ℕ
sequence_of octets = number 2 sequence_at octets

-- the fields that INFO and DATA begin with
abbrev pub object_head_of : List ℕ → ObjHead
object_head_of octets =
    record {
      source = source_of octets;
      sequence = sequence_of octets;
      instance = number 2 instance_at octets;
      grtt = octet grtt_at octets;
      backoff = octet sizes_at octets / 16;
      gsize = octet sizes_at octets % 16;
      flags = octet flags_at octets;
      object = number object_size object_at octets;
    }

-- the fields that a command begins with
abbrev pub command_head_of : List ℕ → CmdHead
command_head_of octets =
    record {
      source = source_of octets;
      sequence = sequence_of octets;
      instance = number 2 instance_at octets;
      grtt = octet grtt_at octets;
      backoff = octet sizes_at octets / 16;
      gsize = octet sizes_at octets % 16;
    }
