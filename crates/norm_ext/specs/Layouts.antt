-- The parts that a message of each kind has, and that can be wrong (RFC 5740 section 4): one table.
use Rattle.std.specs.Prelude.{ℕ, ◌==◌, Bool, true, false, List, Option, None, Some, if◌then◌else◌}
use Rattle.norm_ext.specs.Places.{node_size, object_size, common_words, sub_type_at, ack_type_at, info_words, data_words, command_words, naming_words, feedback_words}
use Rattle.norm_ext.specs.Numbers.{octet, type_of, sub_type_of, flush_ack}
use Rattle.norm_ext.specs.Reading.{type_in}
use Rattle.norm_ext.specs.declared.kinds.MessageType.{MessageType}
use Rattle.norm_ext.specs.declared.kinds.MessageType.TheVariants as types
use Rattle.norm_ext.specs.declared.kinds.SubType.{SubType}
use Rattle.norm_ext.specs.declared.kinds.SubType.TheVariants as commands

-- what stands behind the header: anything, nothing, numbers of so many octets, repair requests, or one item
pub data Content : Type 0 where
  Anything : Content
  Nothing : Content
  Numbers : ℕ → Content
  Requests : Content
  OneItem : Content

-- The least words of the header; whether octet 13 is a FEC Encoding ID; whether header extensions follow the least
-- words; whether octets 8 to 11 name a sender; and what stands behind the header.
pub record Layout : Type 0 where
  pub least : ℕ
  pub encoded : Bool
  pub extended : Bool
  pub sender : Bool
  pub content : Content

abbrev pub layout : ℕ → Bool → Bool → Bool → Content → Layout
layout least encoded extended sender content =
    record { least = least; encoded = encoded; extended = extended; sender = sender; content = content }

-- of a command, by its sub-type; one of no known sub-type has its header alone
abbrev pub command_layout : Option SubType → Layout
command_layout (Some commands.Flush) = layout naming_words true true false (Numbers node_size)
command_layout (Some commands.EndOfTransmission) = layout command_words false true false Nothing
command_layout (Some commands.Squelch) = layout naming_words true true false (Numbers object_size)
command_layout (Some commands.CongestionControl) = layout command_words false false false Anything
command_layout (Some commands.RepairAdvertisement) = layout command_words false true false Requests
command_layout (Some commands.AckRequest) = layout command_words false true false (Numbers node_size)
command_layout (Some commands.Application) = layout command_words false false false Anything
command_layout None = layout command_words false false false Anything

-- of any message, by its type; one of no known type has nothing that is looked at
abbrev pub layout_as : Option MessageType → List ℕ → Layout
layout_as (Some types.Info) octets = layout info_words true true false Anything
layout_as (Some types.Data) octets = layout data_words true true false Anything
layout_as (Some types.Command) octets = command_layout (sub_type_of (octet sub_type_at octets))
layout_as (Some types.Nack) octets = layout feedback_words false true true Requests
layout_as (Some types.Ack) octets = layout feedback_words false true true (if octet ack_type_at octets == flush_ack then OneItem else Anything)
layout_as (Some types.Report) octets = layout common_words false false false Anything
layout_as None octets = layout 0 false false false Anything

-- the layout that octets say they have
abbrev pub layout_of : List ℕ → Layout
layout_of octets = layout_as (type_of (type_in octets)) octets
