-- What a member hears of the window it has then.
use Rattle.std.specs.Prelude.{◌≡◌, ◌==◌, ◌++◌, ℕ, List, [], ◌∷◌, Contains, true, false, Option, None, Some}
use Rattle.norm_base.specs.Settings.{Settings, InRange}
use Rattle.norm_base.specs.declared.kinds.Mode.TheVariants.{Hold}
use Rattle.fec_plan.specs.Points.{position}
use Rattle.norm_ext.specs.Message.{Message, Info, Data}
use Rattle.norm_ext.specs.Written.{Written}
use Rattle.norm_receive_rules.specs.ReceiverState.{ReceiverState}
use Rattle.norm_receive_rules.specs.Receiving.{received}
use Rattle.norm_send_rules.specs.InWindow.{stands_behind}
use Rattle.norm_send_rules.specs.Repairable.{streams}
use Rattle.norm_send_rules.specs.Watermarks.{has_member}
use Rattle.norm_send_rules.specs.declared.want.Want.{Want}
use Rattle.norm_send_rules.specs.declared.want.Want.TheVariants as want
use Rattle.norm_safety.specs.Events.{Event, Delivered}
use Rattle.norm_safety.specs.Said.{first_index}
use Rattle.norm_safety.specs.World.{receiver_at}
use Rattle.norm_safety.specs.WorldStep.{run}
use Rattle.norm_recovery.specs.Left.{held_for, is_had}
use Rattle.norm_recovery.specs.MembersEnter.{IsOwn}
use Rattle.norm_recovery.specs.TailLawful.{MayGoOn}

-- the info or the symbol that a message about the object with an index brings
abbrev pub brings : ℕ → Message → Option Want
brings index (Info m) = Some (want.Info index)
brings index (Data m) = Some (want.Symbol (position index m.id.block m.id.symbol))
brings index _ = None

-- In `hold` mode, with no stream in the window, a run that may go on ends with the delivery to a member of a datagram of the sender's current
-- instance that was offered. If that brings an info or a symbol of the window, the member has it then, whatever is there beside.
abbrev pub LeftHeard : Type 0
LeftHeard = (p : Settings) → InRange p → p.mode ≡ Hold → (events : List Event) (node now draw from : ℕ) (d : Written)
    → MayGoOn p (events ++ Delivered node d.octets now draw ∷ []) → streams (run p events).sender ≡ 0 → (node == p.sender) ≡ false
    → (r : ReceiverState) → receiver_at (run p events) node ≡ Some r → has_member node (run p events).sender ≡ true → Contains (run p events).offered (from, d)
    → IsOwn p (run p events).sender.current.id d → (y : Want) → brings (first_index d.indices) d.message ≡ Some y
    → stands_behind (run p events).sender.current.drop y ≡ true → (wants : List Want)
    → is_had wants p (run p events).sender (held_for (run p events).sender (received p r d.octets now draw)) y ≡ true
