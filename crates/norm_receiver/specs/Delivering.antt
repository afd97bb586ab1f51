-- What is heard of what others ask for.
use Rattle.std.specs.Prelude.{◌==◌, ◌&&◌, List, Bool, true, false}
use Rattle.norm_base.specs.Settings.{Settings}
use Rattle.norm_ext.specs.Message.{NackMessage}
use Rattle.norm_ext.specs.Requests.{Request}
use Rattle.norm_ext.specs.declared.head.CmdHead.{CmdHead}
use Rattle.norm_fbmsg.specs.declared.message.NackMsg.{NackMsg}
use Rattle.norm_receive_rules.specs.Leaving.{is_in}
use Rattle.norm_receive_rules.specs.Overhearing.{overheard, nack_counts, nack_overheard}
use Rattle.norm_receive_rules.specs.ReceiverState.{ReceiverState}
use Rattle.norm_receive_rules.specs.Wanting.{is_hearing}

-- a NACK that is lent, as the rules have it
abbrev pub nack_in : NackMsg → NackMessage
nack_in m = record {
  source = m.source;
  sequence = m.sequence;
  sender = m.sender;
  instance = m.instance;
  extensions = m.exts;
  requests = m.requests;
}

-- it is heard
abbrev pub nack_heard : Settings → NackMsg → ReceiverState → ReceiverState
nack_heard p m s = nack_overheard p (nack_in m) s

-- memory may be wanted for it
abbrev pub nack_wants : Settings → NackMsg → ReceiverState → Bool
nack_wants p m s = nack_counts p (nack_in m) s && is_hearing s

-- the sender's own word of what it was asked for, where it is the profile's sender and the receiver is in its instance
abbrev pub adv_heard : Settings → CmdHead → List Request → ReceiverState → ReceiverState
adv_heard p head requests s = elim (head.source == p.sender) [
  | true ↦ elim (is_in s head.instance) [ true ↦ overheard p requests s | false ↦ s ]
  | false ↦ s
]

-- memory may be wanted for that
abbrev pub adv_wants : Settings → CmdHead → ReceiverState → Bool
adv_wants p head s = head.source == p.sender && is_in s head.instance && is_hearing s
