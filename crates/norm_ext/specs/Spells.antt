-- Which octets spell which message (RFC 5740 section 4).
use Rattle.std.specs.Prelude.{◌≡◌, ◌≢◌, ℕ, ◌+◌, ◌*◌, ◌<◌, ◌≤◌, ◌⊎◌, List, length}
use Rattle.std.specs.List.{AllByRecursion}
use Rattle.norm_base.specs.Member.{IsMember}
use Rattle.fec_plan.specs.Payload.{IsName}
use Rattle.norm_base.specs.Sizes.{id_count}
use Rattle.norm_ext.specs.Places.{word_size, common, common_words, encoding_at, info_words, data_words, command_words, naming_words, feedback_words}
use Rattle.norm_ext.specs.Numbers.{flush_ack, sub_type_number}
use Rattle.norm_ext.specs.Extensions.{Extension, IsExtension}
use Rattle.norm_ext.specs.Requests.{IsRequest, IsItem}
use Rattle.norm_ext.specs.Message.{InfoMessage, DataMessage, FlushCommand, EotCommand, SquelchCommand, RepairAdvCommand, AckReqCommand, OpaqueCommand, NackMessage, AckMessage, AckContent, Mark, Unread, ReportMessage, Message, Info, Data, Flush, Eot, Squelch, RepairAdv, AckReq, Opaque, Nack, Ack, Report}
use Rattle.norm_ext.specs.Octets.{words_with, octets_with, reserved_octets}
use Rattle.norm_ext.specs.declared.kinds.SubType.TheVariants as commands
use Rattle.norm_ext.specs.declared.head.ObjHead.{ObjHead}
use Rattle.norm_ext.specs.declared.head.CmdHead.{CmdHead}

-- each field of a head is within its width, and the source is a member
pub record IsObjectHead (h : ObjHead) : Type 0 where
  pub source : IsMember h.source
  pub sequence : h.sequence < id_count
  pub instance : h.instance < id_count
  pub grtt : h.grtt < 256
  pub backoff : h.backoff < 16
  pub gsize : h.gsize < 16
  pub flags : h.flags < 256
  pub object : h.object < id_count

pub record IsCommandHead (h : CmdHead) : Type 0 where
  pub source : IsMember h.source
  pub sequence : h.sequence < id_count
  pub instance : h.instance < id_count
  pub grtt : h.grtt < 256
  pub backoff : h.backoff < 16
  pub gsize : h.gsize < 16

-- whole extensions, in a header of at most 255 words, of which so many stand before them
pub record AreExtensions (words : ℕ) (extensions : List Extension) : Type 0 where
  pub each : AllByRecursion IsExtension extensions
  pub most : words_with words extensions < 256

pub record IsInfo (m : InfoMessage) : Type 0 where
  pub head : IsObjectHead m.head
  pub extensions : AreExtensions info_words m.extensions

pub record IsData (m : DataMessage) : Type 0 where
  pub head : IsObjectHead m.head
  pub id : IsName m.id
  pub extensions : AreExtensions data_words m.extensions

pub record IsFlush (m : FlushCommand) : Type 0 where
  pub head : IsCommandHead m.head
  pub object : m.object < id_count
  pub id : IsName m.id
  pub extensions : AreExtensions naming_words m.extensions
  pub nodes : AllByRecursion (λ n. n < 4294967296) m.nodes

pub record IsEot (m : EotCommand) : Type 0 where
  pub head : IsCommandHead m.head
  pub extensions : AreExtensions command_words m.extensions

pub record IsSquelch (m : SquelchCommand) : Type 0 where
  pub head : IsCommandHead m.head
  pub object : m.object < id_count
  pub id : IsName m.id
  pub extensions : AreExtensions naming_words m.extensions
  pub invalid : AllByRecursion (λ n. n < id_count) m.invalid

pub record IsRepairAdv (m : RepairAdvCommand) : Type 0 where
  pub head : IsCommandHead m.head
  pub flags : m.flags < 256
  pub extensions : AreExtensions command_words m.extensions
  pub requests : AllByRecursion IsRequest m.requests

pub record IsAckReq (m : AckReqCommand) : Type 0 where
  pub head : IsCommandHead m.head
  pub ack_type : m.ack_type < 256
  pub ack_id : m.ack_id < 256
  pub extensions : AreExtensions command_words m.extensions
  pub nodes : AllByRecursion (λ n. n < 4294967296) m.nodes

pub record IsOpaque (m : OpaqueCommand) : Type 0 where
  pub head : IsCommandHead m.head
  pub sub_type : (m.sub_type ≡ sub_type_number commands.CongestionControl) ⊎ (m.sub_type ≡ sub_type_number commands.Application)
  pub least : command_words ≤ m.words
  pub most : m.words < 256
  pub whole : word_size * m.words ≤ encoding_at + length m.rest

pub record IsNack (m : NackMessage) : Type 0 where
  pub source : IsMember m.source
  pub sequence : m.sequence < id_count
  pub sender : IsMember m.sender
  pub instance : m.instance < id_count
  pub extensions : AreExtensions feedback_words m.extensions
  pub requests : AllByRecursion IsRequest m.requests

-- a flush's acknowledgement, and no other, holds an item
abbrev pub IsContent : ℕ → AckContent → Type 0
IsContent ack_type (Mark item) = (ack_type ≡ flush_ack) × IsItem item
IsContent ack_type (Unread octets) = ack_type ≢ flush_ack

pub record IsAck (m : AckMessage) : Type 0 where
  pub source : IsMember m.source
  pub sequence : m.sequence < id_count
  pub sender : IsMember m.sender
  pub instance : m.instance < id_count
  pub ack_type : m.ack_type < 256
  pub ack_id : m.ack_id < 256
  pub extensions : AreExtensions feedback_words m.extensions
  pub content : IsContent m.ack_type m.content

pub record IsReport (m : ReportMessage) : Type 0 where
  pub source : IsMember m.source
  pub sequence : m.sequence < id_count
  pub least : common_words ≤ m.words
  pub most : m.words < 256
  pub whole : word_size * m.words ≤ common + length m.rest

-- a message whose fields fit
abbrev pub IsMessage : Message → Type 0
IsMessage (Info m) = IsInfo m
IsMessage (Data m) = IsData m
IsMessage (Flush m) = IsFlush m
IsMessage (Eot m) = IsEot m
IsMessage (Squelch m) = IsSquelch m
IsMessage (RepairAdv m) = IsRepairAdv m
IsMessage (AckReq m) = IsAckReq m
IsMessage (Opaque m) = IsOpaque m
IsMessage (Nack m) = IsNack m
IsMessage (Ack m) = IsAck m
IsMessage (Report m) = IsReport m

-- The octets spell the message: its fields fit, and the octets are these put together in their order, with any octets
-- in the reserved places.
pub record Spells (m : Message) (octets : List ℕ) : Type 0 where
  pub fits : IsMessage m
  pub reserved : List ℕ
  pub many : length reserved ≡ reserved_octets m
  pub spelled : octets ≡ octets_with m reserved
