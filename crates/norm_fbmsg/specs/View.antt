-- Feedback that is lent, as what it says.
use Rattle.norm_ext.specs.Message.{Message, Nack, Ack, AckContent, Mark, Unread}
use Rattle.norm_fbmsg.specs.declared.message.NackMsg.{NackMsg}
use Rattle.norm_fbmsg.specs.declared.message.AckMsg.{AckMsg}
use Rattle.norm_fbmsg.specs.declared.message.AckBody.{AckBody}
use Rattle.norm_fbmsg.specs.declared.message.AckBody.TheVariants as lent

abbrev pub nack_of : NackMsg → Message
nack_of m =
    Nack (
    record {
      source = m.source;
      sequence = m.sequence;
      sender = m.sender;
      instance = m.instance;
      extensions = m.exts;
      requests = m.requests;
    })

abbrev pub content_of : AckBody → AckContent
content_of (lent.Mark item) = Mark item
content_of (lent.Opaque octets) = Unread octets.now

abbrev pub ack_of : AckMsg → Message
ack_of m =
    Ack (
    record {
      source = m.source;
      sequence = m.sequence;
      sender = m.sender;
      instance = m.instance;
      ack_type = m.ack_type;
      ack_id = m.ack_id;
      extensions = m.exts;
      content = content_of m.body;
    })
