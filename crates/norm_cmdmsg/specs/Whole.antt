-- What a command lends is whole, so that it may be walked. Its extensions and requests are, by their types.
use Rattle.std.specs.Prelude.{◌%◌, ◌≡◌, length, ⊤}
use Rattle.norm_ext.specs.Places.{node_size, object_size}
use Rattle.norm_cmdmsg.specs.declared.command.CommandMsg.{CommandMsg}
use Rattle.norm_cmdmsg.specs.declared.command.CommandMsg.TheVariants as lent

-- a list of node ids is a multiple of four octets, one of object ids of two
abbrev pub IsWhole : CommandMsg → Type 0
IsWhole (lent.Flush head object id exts nodes) = length nodes.now % node_size ≡ 0
IsWhole (lent.Eot head exts) = ⊤
IsWhole (lent.Squelch head object id exts invalid) = length invalid.now % object_size ≡ 0
IsWhole (lent.RepairAdv head flags exts requests) = ⊤
IsWhole (lent.AckReq head ack_type ack_id exts nodes) = length nodes.now % node_size ≡ 0
IsWhole (lent.Opaque head sub_type words rest) = ⊤
