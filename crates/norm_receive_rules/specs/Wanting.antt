-- Which datagrams a receiver may want memory for (RFC 5740 section 5.2): those of which it may keep something. For any other, as for
-- octets that spell no message, an ACK, a REPORT and the other commands, it wants none.
use Rattle.std.specs.Prelude.{ℕ, ◌==◌, ◌&&◌, List, Bool, false, is_some, Result, Ok}
use Rattle.norm_base.specs.Settings.{Settings}
use Rattle.norm_ext.specs.Message.{Message, Info, Data, Flush, Squelch, RepairAdv, Nack}
use Rattle.norm_ext.specs.Reading.{decoded}
use Rattle.norm_receive_rules.specs.Leaving.{entered, is_in}
use Rattle.norm_receive_rules.specs.Overhearing.{nack_counts}
use Rattle.norm_receive_rules.specs.ReceiverState.{ReceiverState}

-- a message of the profile's sender, in the receiver's instance or in one that it goes on to
abbrev pub comes_in : Settings → ReceiverState → ℕ → ℕ → Bool
comes_in p s source instance = source == p.sender && is_some (entered s instance)

-- what others ask for is kept while a back-off runs
abbrev pub is_hearing : ReceiverState → Bool
is_hearing s = is_some s.knows.backoff

-- of what a datagram spells
abbrev pub message_wants : {E : Type 0} → Settings → Result Message E → ReceiverState → Bool
message_wants p (Ok (Info m)) s = comes_in p s m.head.source m.head.instance
message_wants p (Ok (Data m)) s = comes_in p s m.head.source m.head.instance
message_wants p (Ok (Flush m)) s = comes_in p s m.head.source m.head.instance
message_wants p (Ok (Squelch m)) s = comes_in p s m.head.source m.head.instance
message_wants p (Ok (RepairAdv m)) s = m.head.source == p.sender && is_in s m.head.instance && is_hearing s
message_wants p (Ok (Nack m)) s = nack_counts p m s && is_hearing s
message_wants p _ s = false

-- a receiver may want memory for these octets
abbrev pub may_want : Settings → ReceiverState → List ℕ → Bool
may_want p s bytes = message_wants p (decoded bytes) s
