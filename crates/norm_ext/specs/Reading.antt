-- What octets say: the message that they spell, or the first thing that is wrong with them (RFC 5740 section 4).
use Rattle.std.specs.Prelude.{ℕ, ◌*◌, ◌==◌, not, ◌&&◌, List, length, drop, Result, Ok, if◌then◌else◌}
use Rattle.norm_ext.specs.Steps.{◌>>=◌, refused_if, some_or}
use Rattle.norm_ext.specs.Places.{word_size, node_size, object_size, common, encoding_at, symbol_at, ack_type_at, ack_id_at, sender_at, feedback_instance_at, info_header, data_header, feedback_header, item_width, item_object_at, item_name_at}
use Rattle.norm_ext.specs.Numbers.{octet, number, name_at, type_of, encoding_id, flush_ack}
use Rattle.norm_ext.specs.Extensions.{extensions_of}
use Rattle.norm_ext.specs.Requests.{requests_of, requests_checked}
use Rattle.norm_ext.specs.Message.{Message, Info, Data, Nack, Ack, Report, AckContent, Mark, Unread}
use Rattle.norm_ext.specs.declared.kinds.MessageType.{MessageType}
use Rattle.norm_ext.specs.declared.kinds.MessageType.TheVariants as types
use Rattle.norm_ext.specs.declared.refusal.Refusal.{Refusal}
use Rattle.norm_ext.specs.declared.refusal.Refusal.TheVariants.{BadType, ItemFec, BadList}
unfoldable pub use Rattle.norm_ext.specs.Commands.{flush_read, eot_read, squelch_read, repair_adv_read, ack_req_read, opaque_read, command_by, sub_type_in, command_read}
unfoldable pub use Rattle.norm_ext.specs.Headers.{words_of, type_in, content_of, header_from, least_words, version_checked, header_checked, encoding_checked, extension_refused, header_extensions_checked, member_checked, list_checked, source_of, sequence_of, object_head_of, command_head_of}

-- INFO
unfoldable pub info_read : List ℕ → Result Message Refusal
info_read octets = do
  header ← header_checked types.Info octets
  encoding ← encoding_checked (octet encoding_at octets)
  extensions ← header_extensions_checked info_header octets
  source ← member_checked (source_of octets)
  Ok (Info (record { head = object_head_of octets; extensions = extensions_of (header_from info_header octets); info = content_of octets }))

-- DATA
unfoldable pub data_read : List ℕ → Result Message Refusal
data_read octets = do
  header ← header_checked types.Data octets
  encoding ← encoding_checked (octet encoding_at octets)
  extensions ← header_extensions_checked data_header octets
  source ← member_checked (source_of octets)
  Ok (Data (record { head = object_head_of octets; id = name_at symbol_at octets; extensions = extensions_of (header_from data_header octets); payload = content_of octets }))

-- NACK
unfoldable pub nack_read : List ℕ → Result Message Refusal
nack_read octets = do
  header ← header_checked types.Nack octets
  extensions ← header_extensions_checked feedback_header octets
  requests ← requests_checked (word_size * words_of octets) (content_of octets)
  source ← member_checked (source_of octets)
  sender ← member_checked (number node_size sender_at octets)
  Ok (Nack (
      record {
        source = source_of octets;
        sequence = sequence_of octets;
        sender = number node_size sender_at octets;
        instance = number 2 feedback_instance_at octets;
        extensions = extensions_of (header_from feedback_header octets);
        requests = requests_of (content_of octets);
      }))

-- what an acknowledgement of a type holds; the one item of a flush's is looked at where it has eight octets
abbrev pub ack_encoding_checked : ℕ → ℕ → List ℕ → Result (Unit {0}) Refusal
ack_encoding_checked ack_type at content =
    refused_if ((ack_type == flush_ack) && (length content == item_width) && not (octet 0 content == encoding_id)) (ItemFec at (octet 0 content))

-- the content of a flush's acknowledgement is one item
abbrev pub ack_length_checked : ℕ → List ℕ → Result (Unit {0}) Refusal
ack_length_checked ack_type content = refused_if ((ack_type == flush_ack) && not (length content == item_width)) (BadList (length content))

abbrev pub ack_content_of : ℕ → List ℕ → AckContent
ack_content_of ack_type content =
    if ack_type == flush_ack then Mark (record { object = number object_size item_object_at content; id = name_at item_name_at content }) else Unread content

-- ACK
unfoldable pub ack_read : List ℕ → Result Message Refusal
ack_read octets = do
  header ← header_checked types.Ack octets
  extensions ← header_extensions_checked feedback_header octets
  encoding ← ack_encoding_checked (octet ack_type_at octets) (word_size * words_of octets) (content_of octets)
  source ← member_checked (source_of octets)
  sender ← member_checked (number node_size sender_at octets)
  content ← ack_length_checked (octet ack_type_at octets) (content_of octets)
  Ok (Ack (
      record {
        source = source_of octets;
        sequence = sequence_of octets;
        sender = number node_size sender_at octets;
        instance = number 2 feedback_instance_at octets;
        ack_type = octet ack_type_at octets;
        ack_id = octet ack_id_at octets;
        extensions = extensions_of (header_from feedback_header octets);
        content = ack_content_of (octet ack_type_at octets) (content_of octets);
      }))

-- REPORT, which is not read
unfoldable pub report_read : List ℕ → Result Message Refusal
report_read octets = do
  header ← header_checked types.Report octets
  source ← member_checked (source_of octets)
  Ok (Report (record { source = source_of octets; sequence = sequence_of octets; words = words_of octets; rest = drop common octets }))

-- a message of a type
abbrev pub read_as : MessageType → List ℕ → Result Message Refusal
read_as types.Info octets = info_read octets
read_as types.Data octets = data_read octets
read_as types.Command octets = command_read octets
read_as types.Nack octets = nack_read octets
read_as types.Ack octets = ack_read octets
read_as types.Report octets = report_read octets

-- the type of a message
abbrev pub known_type : List ℕ → Result MessageType Refusal
known_type octets = some_or (type_of (type_in octets)) (BadType (type_in octets))

-- the message that the octets spell, or the first refusal
unfoldable pub decoded : List ℕ → Result Message Refusal
decoded octets = do
  version ← version_checked octets
  kind ← known_type octets
  read_as kind octets
