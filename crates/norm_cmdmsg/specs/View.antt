-- A command that is lent, as what it says.
use Rattle.norm_ext.specs.Message.{Message, Flush, Eot, Squelch, RepairAdv, AckReq, Opaque}
use Rattle.norm_ext.specs.Lists.{nodes_of, objects_of}
use Rattle.norm_cmdmsg.specs.declared.command.CommandMsg.{CommandMsg}
use Rattle.norm_cmdmsg.specs.declared.command.CommandMsg.TheVariants as lent

abbrev pub command_of : CommandMsg → Message
command_of (lent.Flush head object id exts nodes) =
    Flush (record { head = head; object = object; id = id; extensions = exts; nodes = nodes_of nodes.now })
command_of (lent.Eot head exts) = Eot (record { head = head; extensions = exts })
command_of (lent.Squelch head object id exts invalid) =
    Squelch (record { head = head; object = object; id = id; extensions = exts; invalid = objects_of invalid.now })
command_of (lent.RepairAdv head flags exts requests) =
    RepairAdv (record { head = head; flags = flags; extensions = exts; requests = requests })
command_of (lent.AckReq head ack_type ack_id exts nodes) =
    AckReq (record { head = head; ack_type = ack_type; ack_id = ack_id; extensions = exts; nodes = nodes_of nodes.now })
command_of (lent.Opaque head sub_type words rest) = Opaque (record { head = head; sub_type = sub_type; words = words; rest = rest.now })
