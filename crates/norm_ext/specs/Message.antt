-- What NORM messages say (RFC 5740 section 4).
use Rattle.std.specs.Prelude.{ℕ, List}
use Rattle.fec_plan.specs.Payload.{Name}
use Rattle.norm_ext.specs.Extensions.{Extension}
use Rattle.norm_ext.specs.Requests.{Request}
use Rattle.norm_ext.specs.declared.head.ObjHead.{ObjHead}
use Rattle.norm_ext.specs.declared.head.CmdHead.{CmdHead}
use Rattle.norm_ext.specs.declared.head.Item.{Item}

-- an object's info
pub record InfoMessage : Type 0 where
  pub head : ObjHead
  pub extensions : List Extension
  pub info : List ℕ

-- one symbol of an object
pub record DataMessage : Type 0 where
  pub head : ObjHead
  pub id : Name
  pub extensions : List Extension
  pub payload : List ℕ

-- all was sent up to a symbol, and these nodes are asked to acknowledge it
pub record FlushCommand : Type 0 where
  pub head : CmdHead
  pub object : ℕ
  pub id : Name
  pub extensions : List Extension
  pub nodes : List ℕ

-- the transmission ends
pub record EotCommand : Type 0 where
  pub head : CmdHead
  pub extensions : List Extension

-- what stands before a symbol is not repaired any more, nor are these objects
pub record SquelchCommand : Type 0 where
  pub head : CmdHead
  pub object : ℕ
  pub id : Name
  pub extensions : List Extension
  pub invalid : List ℕ

-- the sender heard these requests
pub record RepairAdvCommand : Type 0 where
  pub head : CmdHead
  pub flags : ℕ
  pub extensions : List Extension
  pub requests : List Request

-- these nodes are asked for an acknowledgement
pub record AckReqCommand : Type 0 where
  pub head : CmdHead
  pub ack_type : ℕ
  pub ack_id : ℕ
  pub extensions : List Extension
  pub nodes : List ℕ

-- a command that is not read: congestion control or an application's. Its header has so many words, and the rest is
-- all behind the sub-type.
pub record OpaqueCommand : Type 0 where
  pub head : CmdHead
  pub sub_type : ℕ
  pub words : ℕ
  pub rest : List ℕ

-- a receiver asks for repair
pub record NackMessage : Type 0 where
  pub source : ℕ
  pub sequence : ℕ
  pub sender : ℕ
  pub instance : ℕ
  pub extensions : List Extension
  pub requests : List Request

-- what an acknowledgement holds: of a flush the symbol up to which all has come, else what is not read
pub data AckContent : Type 0 where
  Mark : Item → AckContent
  Unread : List ℕ → AckContent

-- a receiver acknowledges
pub record AckMessage : Type 0 where
  pub source : ℕ
  pub sequence : ℕ
  pub sender : ℕ
  pub instance : ℕ
  pub ack_type : ℕ
  pub ack_id : ℕ
  pub extensions : List Extension
  pub content : AckContent

-- a report, which is not read. Its header has so many words, and the rest is all behind the common header.
pub record ReportMessage : Type 0 where
  pub source : ℕ
  pub sequence : ℕ
  pub words : ℕ
  pub rest : List ℕ

-- a message
pub data Message : Type 0 where
  Info : InfoMessage → Message
  Data : DataMessage → Message
  Flush : FlushCommand → Message
  Eot : EotCommand → Message
  Squelch : SquelchCommand → Message
  RepairAdv : RepairAdvCommand → Message
  AckReq : AckReqCommand → Message
  Opaque : OpaqueCommand → Message
  Nack : NackMessage → Message
  Ack : AckMessage → Message
  Report : ReportMessage → Message
