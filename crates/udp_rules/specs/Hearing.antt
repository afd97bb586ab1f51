-- What a datagram of a sender says of where it comes from (RFC 5740 section 4.2): INFO, DATA and commands have a sender and its instance.
use Rattle.std.specs.Prelude.{ℕ, List, Option, None, Some, Result, Ok, Err}
use Rattle.norm_ext.specs.Extensions.{Extension, fti_of}
use Rattle.norm_ext.specs.Message.{Message, Info, Data, Flush, Eot, Squelch, RepairAdv, AckReq, Opaque, Nack, Ack, Report}
use Rattle.norm_ext.specs.Reading.{decoded}
use Rattle.norm_ext.specs.declared.head.CmdHead.{CmdHead}
use Rattle.norm_ext.specs.declared.head.ObjHead.{ObjHead}
use Rattle.udp_rules.specs.declared.heard.Heard.{Heard}

-- INFO or DATA, by its head and its extensions
abbrev pub object_heard : ObjHead → List Extension → Heard
object_heard head extensions =
    record { sender = head.source; instance = head.instance; object = Some head.object; fti = fti_of extensions; flags = head.flags }

-- a command, and the object that it names, if it does
abbrev pub command_heard : CmdHead → Option ℕ → Heard
command_heard head object = record { sender = head.source; instance = head.instance; object = object; fti = None; flags = 0 }

-- a message: feedback and reports are no sender's
abbrev pub message_heard : Message → Option Heard
message_heard (Info m) = Some (object_heard m.head m.extensions)
message_heard (Data m) = Some (object_heard m.head m.extensions)
message_heard (Flush m) = Some (command_heard m.head (Some m.object))
message_heard (Eot m) = Some (command_heard m.head None)
message_heard (Squelch m) = Some (command_heard m.head (Some m.object))
message_heard (RepairAdv m) = Some (command_heard m.head None)
message_heard (AckReq m) = Some (command_heard m.head None)
message_heard (Opaque m) = Some (command_heard m.head None)
message_heard (Nack m) = None
message_heard (Ack m) = None
message_heard (Report m) = None

-- what octets spell, if they spell a message
abbrev pub reading_heard : {E : Type 0} → Result Message E → Option Heard
reading_heard (Ok m) = message_heard m
reading_heard (Err e) = None

-- a datagram
abbrev pub heard_in : List ℕ → Option Heard
heard_in octets = reading_heard (decoded octets)
