-- Feedback that is lent, as what a sender hears of it.
use Rattle.std.specs.Prelude.{ℕ}
use Rattle.norm_base.specs.Settings.{Settings}
use Rattle.norm_ext.specs.Asking.{item_named}
use Rattle.norm_ext.specs.Message.{NackMessage, AckMessage, AckContent, Mark, Unread}
use Rattle.norm_fbmsg.specs.View.{content_of}
use Rattle.norm_send_rules.specs.SenderState.{SenderState}
use Rattle.norm_send_rules.specs.InWindow.{last_index}
use Rattle.norm_send_rules.specs.Hearing.{credited_by}
use Rattle.norm_fbmsg.specs.declared.message.NackMsg.{NackMsg}
use Rattle.norm_fbmsg.specs.declared.message.AckMsg.{AckMsg}

abbrev pub nack_message : NackMsg → NackMessage
nack_message m = record {
  source = m.source;
  sequence = m.sequence;
  sender = m.sender;
  instance = m.instance;
  extensions = m.exts;
  requests = m.requests;
}

abbrev pub ack_message : AckMsg → AckMessage
ack_message m = record {
  source = m.source;
  sequence = m.sequence;
  sender = m.sender;
  instance = m.instance;
  ack_type = m.ack_type;
  ack_id = m.ack_id;
  extensions = m.exts;
  content = content_of m.body;
}

-- what an acknowledgement holds is heard: of a flush the position counts
abbrev pub content_heard : Settings → ℕ → SenderState → AckContent → SenderState
content_heard p node s content = elim content [ Mark item ↦ credited_by p node (item_named p (last_index s) item) s | Unread octets ↦ s ]
