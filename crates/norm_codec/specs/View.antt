-- A message that is lent, as what it says.
use Rattle.norm_ext.specs.Message.{Message, Report}
use Rattle.norm_objmsg.specs.MessageView.{info_of, data_of}
use Rattle.norm_cmdmsg.specs.View.{command_of}
use Rattle.norm_fbmsg.specs.View.{nack_of, ack_of}
use Rattle.norm_codec.specs.declared.message.Message.{Message as Lent}
use Rattle.norm_codec.specs.declared.message.Message.TheVariants as lent

abbrev pub message_of : Lent → Message
message_of (lent.Info m) = info_of m
message_of (lent.Data m) = data_of m
message_of (lent.Command m) = command_of m
message_of (lent.Nack m) = nack_of m
message_of (lent.Ack m) = ack_of m
message_of (lent.Report source sequence words rest) = Report (record { source = source; sequence = sequence; words = words; rest = rest.now })
