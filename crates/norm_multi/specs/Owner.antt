-- Which sender a datagram belongs to (RFC 5740 section 4): a message of a sender to its source, and feedback to the sender that it names.
use Rattle.std.specs.Prelude.{ℕ, List, Option, None, Some, Result, Ok}
use Rattle.norm_ext.specs.Message.{Message, Info, Data, Flush, Eot, Squelch, RepairAdv, AckReq, Opaque, Nack, Ack}
use Rattle.norm_ext.specs.Reading.{decoded}

-- of what a datagram spells; a report belongs to nobody
abbrev pub owner_of_message : {E : Type 0} → Result Message E → Option ℕ
owner_of_message (Ok (Info m)) = Some m.head.source
owner_of_message (Ok (Data m)) = Some m.head.source
owner_of_message (Ok (Flush m)) = Some m.head.source
owner_of_message (Ok (Eot m)) = Some m.head.source
owner_of_message (Ok (Squelch m)) = Some m.head.source
owner_of_message (Ok (RepairAdv m)) = Some m.head.source
owner_of_message (Ok (AckReq m)) = Some m.head.source
owner_of_message (Ok (Opaque m)) = Some m.head.source
owner_of_message (Ok (Nack m)) = Some m.sender
owner_of_message (Ok (Ack m)) = Some m.sender
owner_of_message _ = None

-- Octets that spell no message belong to nobody.
abbrev pub owner_of : List ℕ → Option ℕ
owner_of bytes = owner_of_message (decoded bytes)
