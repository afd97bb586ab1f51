-- How a message is spelled (RFC 5740 section 4).
use Rattle.std.specs.Prelude.{ℕ, ◌+◌, ◌*◌, ◌/◌, List, [], ◌∷◌, ◌++◌, length, take, drop}
use Rattle.std.specs.List.{flat_map, repeat}
use Rattle.byteorder.specs.Endian.{big_bytes}
use Rattle.fec_plan.specs.Payload.{name_octets}
use Rattle.norm_ext.specs.Places.{word_size, node_size, object_size, info_words, data_words, command_words, naming_words, feedback_words}
use Rattle.norm_ext.specs.Numbers.{encoding_id, type_number, sub_type_number}
use Rattle.norm_ext.specs.declared.kinds.MessageType.TheVariants as types
use Rattle.norm_ext.specs.declared.kinds.SubType.TheVariants as commands
use Rattle.norm_ext.specs.Extensions.{Extension, extension_octets}
use Rattle.norm_ext.specs.Requests.{Request, request_octets, item_octets}
use Rattle.norm_ext.specs.Message.{Message, Info, Data, Flush, Eot, Squelch, RepairAdv, AckReq, Opaque, Nack, Ack, Report, AckContent, Mark, Unread}
use Rattle.norm_ext.specs.declared.head.ObjHead.{ObjHead}
use Rattle.norm_ext.specs.declared.head.CmdHead.{CmdHead}

-- the common header: version 1 and the type, the header's length in words, the sequence number, the source
abbrev pub front_octets : ℕ → ℕ → ℕ → ℕ → List ℕ
front_octets kind words sequence source = (16 + kind) ∷ words ∷ big_bytes 2 sequence ++ big_bytes 4 source

-- the back-off factor and the group's size, four bits each
abbrev pub sizes_octet : ℕ → ℕ → ℕ
sizes_octet backoff gsize = 16 * backoff + gsize

-- of INFO and DATA: the instance, the round trip time, the sizes, the flags, the FEC Encoding ID, the object
abbrev pub object_octets : ObjHead → List ℕ
object_octets h =
    big_bytes 2 h.instance ++ h.grtt ∷ sizes_octet h.backoff h.gsize ∷ h.flags ∷ encoding_id ∷ big_bytes 2 h.object

-- of a command: the instance, the round trip time, the sizes, the sub-type
abbrev pub command_octets : CmdHead → ℕ → List ℕ
command_octets h sub_type = big_bytes 2 h.instance ++ h.grtt ∷ sizes_octet h.backoff h.gsize ∷ sub_type ∷ []

abbrev pub extensions_octets : List Extension → List ℕ
extensions_octets extensions = flat_map extension_octets extensions

abbrev pub requests_octets : List Request → List ℕ
requests_octets requests = flat_map request_octets requests

abbrev pub nodes_octets : List ℕ → List ℕ
nodes_octets nodes = flat_map (big_bytes node_size) nodes

abbrev pub objects_octets : List ℕ → List ℕ
objects_octets objects = flat_map (big_bytes object_size) objects

-- a header of so many words and its extensions
abbrev pub words_with : ℕ → List Extension → ℕ
words_with words extensions = words + length (extensions_octets extensions) / word_size

-- what an acknowledgement holds
abbrev pub content_octets : AckContent → List ℕ → List ℕ
content_octets (Mark item) reserved = flat_map (λ octet. item_octets (record { reserved = octet; item = item })) reserved
content_octets (Unread octets) reserved = octets

-- how many reserved octets a message has, time stamps included
abbrev pub reserved_octets : Message → ℕ
reserved_octets (Info m) = 0
reserved_octets (Data m) = 0
reserved_octets (Flush m) = 0
reserved_octets (Eot m) = 3
reserved_octets (Squelch m) = 0
reserved_octets (RepairAdv m) = 2
reserved_octets (AckReq m) = 1
reserved_octets (Opaque m) = 0
reserved_octets (Nack m) = 10
reserved_octets (Ack m) = elim m.content [ Mark item ↦ 9 | Unread octets ↦ 8 ]
reserved_octets (Report m) = 0

-- The octets of a message: its fields, extensions and lists put together in their order, with these octets in the
-- reserved places.
abbrev pub octets_with : Message → List ℕ → List ℕ
octets_with (Info m) reserved =
    front_octets (type_number types.Info) (words_with info_words m.extensions) m.head.sequence m.head.source ++ object_octets m.head
    ++ extensions_octets m.extensions ++ m.info
octets_with (Data m) reserved =
    front_octets (type_number types.Data) (words_with data_words m.extensions) m.head.sequence m.head.source ++ object_octets m.head
    ++ name_octets m.id ++ extensions_octets m.extensions ++ m.payload
octets_with (Flush m) reserved =
    front_octets (type_number types.Command) (words_with naming_words m.extensions) m.head.sequence m.head.source ++ command_octets m.head (sub_type_number commands.Flush)
    ++ encoding_id ∷ big_bytes 2 m.object ++ name_octets m.id ++ extensions_octets m.extensions ++ nodes_octets m.nodes
octets_with (Eot m) reserved =
    front_octets (type_number types.Command) (words_with command_words m.extensions) m.head.sequence m.head.source ++ command_octets m.head (sub_type_number commands.EndOfTransmission)
    ++ reserved ++ extensions_octets m.extensions
octets_with (Squelch m) reserved =
    front_octets (type_number types.Command) (words_with naming_words m.extensions) m.head.sequence m.head.source ++ command_octets m.head (sub_type_number commands.Squelch)
    ++ encoding_id ∷ big_bytes 2 m.object ++ name_octets m.id ++ extensions_octets m.extensions ++ objects_octets m.invalid
octets_with (RepairAdv m) reserved =
    front_octets (type_number types.Command) (words_with command_words m.extensions) m.head.sequence m.head.source ++ command_octets m.head (sub_type_number commands.RepairAdvertisement)
    ++ m.flags ∷ reserved ++ extensions_octets m.extensions ++ requests_octets m.requests
octets_with (AckReq m) reserved =
    front_octets (type_number types.Command) (words_with command_words m.extensions) m.head.sequence m.head.source ++ command_octets m.head (sub_type_number commands.AckRequest)
    ++ reserved ++ m.ack_type ∷ m.ack_id ∷ extensions_octets m.extensions ++ nodes_octets m.nodes
octets_with (Opaque m) reserved =
    front_octets (type_number types.Command) m.words m.head.sequence m.head.source ++ command_octets m.head m.sub_type ++ m.rest
octets_with (Nack m) reserved =
    front_octets (type_number types.Nack) (words_with feedback_words m.extensions) m.sequence m.source ++ big_bytes 4 m.sender ++ big_bytes 2 m.instance
    ++ reserved ++ extensions_octets m.extensions ++ requests_octets m.requests
octets_with (Ack m) reserved =
    front_octets (type_number types.Ack) (words_with feedback_words m.extensions) m.sequence m.source ++ big_bytes 4 m.sender ++ big_bytes 2 m.instance
    ++ m.ack_type ∷ m.ack_id ∷ take 8 reserved ++ extensions_octets m.extensions ++ content_octets m.content (drop 8 reserved)
octets_with (Report m) reserved = front_octets (type_number types.Report) m.words m.sequence m.source ++ m.rest

-- the octets of a message, with zeros in the reserved places
abbrev pub octets_of : Message → List ℕ
octets_of m = octets_with m (repeat (reserved_octets m) (0 ∷ []))
