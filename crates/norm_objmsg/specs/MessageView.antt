-- A message that is lent, as what it says.
use Rattle.norm_ext.specs.Message.{Message, Info, Data, Flush, Eot, Squelch, RepairAdv, AckReq, Opaque, Nack, Ack, Report}
use Rattle.norm_ext.specs.Segment.{Segment}
use Rattle.norm_objmsg.specs.declared.grammar.InfoMsg.{InfoMsg}
use Rattle.norm_objmsg.specs.declared.grammar.DataMsg.{DataMsg}
use Rattle.norm_objmsg.specs.declared.grammar.StreamPart.{StreamPart}

abbrev pub info_of : InfoMsg → Message
info_of m = Info (record { head = m.head; extensions = m.exts; info = m.info.now })

abbrev pub data_of : DataMsg → Message
data_of m = Data (record { head = m.head; id = m.id; extensions = m.exts; payload = m.payload.now })

abbrev pub part_of : StreamPart → Segment
part_of p = record { size = p.len; msg_start = p.msg_start; offset = p.offset; octets = p.octets.now }
