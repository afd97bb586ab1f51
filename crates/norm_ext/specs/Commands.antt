-- What octets say that are a command: the command that they spell, or the first thing that is wrong with them (RFC 5740
-- section 4.2.3).
use Rattle.std.specs.Prelude.{ℕ, ◌*◌, ◌==◌, not, List, length, drop, Result, Ok}
use Rattle.norm_ext.specs.Steps.{◌>>=◌, refused_if, some_or}
use Rattle.norm_ext.specs.Places.{word_size, node_size, object_size, sub_type_at, encoding_at, adv_flags_at, object_at, symbol_at, ack_type_at, ack_id_at, command_header, naming_header}
use Rattle.norm_ext.specs.Numbers.{octet, number, name_at, sub_type_of}
use Rattle.norm_ext.specs.Extensions.{extensions_of}
use Rattle.norm_ext.specs.Requests.{requests_of, requests_checked}
use Rattle.norm_ext.specs.Lists.{nodes_of, objects_of}
use Rattle.norm_ext.specs.Message.{Message, Flush, Eot, Squelch, RepairAdv, AckReq, Opaque}
use Rattle.norm_ext.specs.declared.kinds.MessageType.TheVariants as types
use Rattle.norm_ext.specs.declared.kinds.SubType.{SubType as CommandType}
use Rattle.norm_ext.specs.declared.kinds.SubType.TheVariants as commands
use Rattle.norm_ext.specs.declared.refusal.Refusal.{Refusal}
use Rattle.norm_ext.specs.declared.refusal.Refusal.TheVariants.{SubType, BadList}
use Rattle.norm_ext.specs.Headers.{words_of, content_of, header_from, header_checked, encoding_checked, header_extensions_checked, member_checked, list_checked, source_of, command_head_of}

-- FLUSH, a command of sub-type 1
unfoldable pub flush_read : List ℕ → Result Message Refusal
flush_read octets = do
  encoding ← encoding_checked (octet encoding_at octets)
  extensions ← header_extensions_checked naming_header octets
  source ← member_checked (source_of octets)
  nodes ← list_checked node_size (content_of octets)
  Ok (Flush (
      record {
        head = command_head_of octets;
        object = number object_size object_at octets;
        id = name_at symbol_at octets;
        extensions = extensions_of (header_from naming_header octets);
        nodes = nodes_of (content_of octets);
      }))

-- EOT, a command of sub-type 2
unfoldable pub eot_read : List ℕ → Result Message Refusal
eot_read octets = do
  extensions ← header_extensions_checked command_header octets
  source ← member_checked (source_of octets)
  content ← refused_if (not (length (content_of octets) == 0)) (BadList (length (content_of octets)))
  Ok (Eot (record { head = command_head_of octets; extensions = extensions_of (header_from command_header octets) }))

-- SQUELCH, a command of sub-type 3
unfoldable pub squelch_read : List ℕ → Result Message Refusal
squelch_read octets = do
  encoding ← encoding_checked (octet encoding_at octets)
  extensions ← header_extensions_checked naming_header octets
  source ← member_checked (source_of octets)
  objects ← list_checked object_size (content_of octets)
  Ok (Squelch (
      record {
        head = command_head_of octets;
        object = number object_size object_at octets;
        id = name_at symbol_at octets;
        extensions = extensions_of (header_from naming_header octets);
        invalid = objects_of (content_of octets);
      }))

-- REPAIR_ADV, a command of sub-type 5
unfoldable pub repair_adv_read : List ℕ → Result Message Refusal
repair_adv_read octets = do
  extensions ← header_extensions_checked command_header octets
  requests ← requests_checked (word_size * words_of octets) (content_of octets)
  source ← member_checked (source_of octets)
  Ok (RepairAdv (
      record {
        head = command_head_of octets;
        flags = octet adv_flags_at octets;
        extensions = extensions_of (header_from command_header octets);
        requests = requests_of (content_of octets);
      }))

-- ACK_REQ, a command of sub-type 6
unfoldable pub ack_req_read : List ℕ → Result Message Refusal
ack_req_read octets = do
  extensions ← header_extensions_checked command_header octets
  source ← member_checked (source_of octets)
  nodes ← list_checked node_size (content_of octets)
  Ok (AckReq (
      record {
        head = command_head_of octets;
        ack_type = octet ack_type_at octets;
        ack_id = octet ack_id_at octets;
        extensions = extensions_of (header_from command_header octets);
        nodes = nodes_of (content_of octets);
      }))

-- a command of sub-type 4 or 7, which is not read
unfoldable pub opaque_read : List ℕ → Result Message Refusal
opaque_read octets = do
  source ← member_checked (source_of octets)
  Ok (Opaque (record { head = command_head_of octets; sub_type = octet sub_type_at octets; words = words_of octets; rest = drop encoding_at octets }))

-- a command whose sub-type is known
abbrev pub command_by : CommandType → List ℕ → Result Message Refusal
command_by commands.Flush octets = flush_read octets
command_by commands.EndOfTransmission octets = eot_read octets
command_by commands.Squelch octets = squelch_read octets
command_by commands.CongestionControl octets = opaque_read octets
command_by commands.RepairAdvertisement octets = repair_adv_read octets
command_by commands.AckRequest octets = ack_req_read octets
command_by commands.Application octets = opaque_read octets

-- the sub-type of a command
abbrev pub sub_type_in : List ℕ → Result CommandType Refusal
sub_type_in octets = some_or (sub_type_of (octet sub_type_at octets)) (SubType (octet sub_type_at octets))

-- a command
unfoldable pub command_read : List ℕ → Result Message Refusal
command_read octets = do
  header ← header_checked types.Command octets
  sub_type ← sub_type_in octets
  command_by sub_type octets
