-- What a member hears that it has brings it nothing: the reverse of what `LeftHeard` says.
use Rattle.std.specs.Prelude.{◌≡◌, ◌==◌, ◌++◌, ◌&&◌, ℕ, List, [], ◌∷◌, Contains, Bool, true, false, Some}
use Rattle.norm_base.specs.Settings.{Settings, InRange}
use Rattle.norm_base.specs.declared.kinds.Mode.TheVariants.{Hold}
use Rattle.fec_plan.specs.Points.{point, same_point, position}
use Rattle.norm_ext.specs.Message.{Message, Info, Data, Flush, Squelch}
use Rattle.norm_ext.specs.Written.{Written}
use Rattle.norm_receive_rules.specs.ReceiverState.{ReceiverState}
use Rattle.norm_receive_rules.specs.Receiving.{received}
use Rattle.norm_send_rules.specs.InWindow.{stands_behind}
use Rattle.norm_send_rules.specs.Repairable.{streams}
use Rattle.norm_send_rules.specs.SenderState.{SenderState}
use Rattle.norm_send_rules.specs.Watermarks.{has_member}
use Rattle.norm_send_rules.specs.declared.want.Want.{Want}
use Rattle.norm_send_rules.specs.declared.want.Want.TheVariants as want
use Rattle.norm_safety.specs.Events.{Event, Delivered}
use Rattle.norm_safety.specs.Said.{first_index}
use Rattle.norm_safety.specs.World.{receiver_at}
use Rattle.norm_safety.specs.WorldStep.{run}
use Rattle.norm_recovery.specs.Left.{held_for, has}
use Rattle.norm_recovery.specs.MembersEnter.{IsOwn}
use Rattle.norm_recovery.specs.TailLawful.{MayGoOn}

-- a receiver has an info or a symbol, and that is of the window
abbrev pub has_of_window : Settings → SenderState → ReceiverState → Want → Bool
has_of_window p s r y = stands_behind s.current.drop y && has p s r y

-- A message about the object with an index says nothing that a receiver has to keep: an info or a symbol of the window that it has, a flush, or a squelch
-- up to where the window begins.
abbrev pub says_nothing_more : Settings → SenderState → ReceiverState → ℕ → Message → Bool
says_nothing_more p s r index (Info m) = has_of_window p s r (want.Info index)
says_nothing_more p s r index (Data m) = has_of_window p s r (want.Symbol (position index m.id.block m.id.symbol))
says_nothing_more p s r index (Flush m) = true
says_nothing_more p s r index (Squelch m) = same_point (point index m.id.block) s.current.drop
says_nothing_more p s r index _ = false

-- In `hold` mode, with no stream in the window, a run that may go on ends with the delivery to a member of a datagram of the sender's current instance
-- that was offered. If that says nothing more to it, the member holds of that instance what it held.
abbrev pub HadBringsNothing : Type 0
HadBringsNothing = (p : Settings) → InRange p → p.mode ≡ Hold → (events : List Event) (node now draw from : ℕ) (d : Written)
    → MayGoOn p (events ++ Delivered node d.octets now draw ∷ []) → streams (run p events).sender ≡ 0 → (node == p.sender) ≡ false
    → (r : ReceiverState) → receiver_at (run p events) node ≡ Some r → has_member node (run p events).sender ≡ true → Contains (run p events).offered (from, d)
    → IsOwn p (run p events).sender.current.id d → says_nothing_more p (run p events).sender r (first_index d.indices) d.message ≡ true
    → held_for (run p events).sender (received p r d.octets now draw) ≡ held_for (run p events).sender r
