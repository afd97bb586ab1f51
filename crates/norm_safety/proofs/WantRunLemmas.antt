-- In each run the sender's wants hold.
use Rattle.std.proofs.Common.{ℕ, List, [], ◌∷◌, Option, None, Some}
use Rattle.std.specs.Prelude.{find}
use Rattle.norm_base.specs.Settings.{Settings, InRange}
use Rattle.norm_ext.specs.Written.{Written}
use Rattle.norm_send_rules.specs.SenderStep.{sender_step}
use Rattle.norm_send_rules.specs.Laws.{WantsHold}
use Rattle.norm_send_rules.proofs.StepLemmas.{want_laws}
use Rattle.norm_receive_rules.specs.ReceiverStep.{receiver_step}
use Rattle.norm_safety.specs.Events.{Event, Answer, Gave, Sent, Took, Told, Silent}
use Rattle.norm_safety.specs.World.{World, world_opening, with_receiver, with_given, is_of, offers}
use Rattle.norm_safety.specs.WorldStep.{Move, OfSender, OfReceiver, OfNetwork, OfNobody, move_of, moved, answered, of_sender, of_receiver, world_step, run_from}
use Rattle.norm_safety.specs.Laws.{WantsHoldInRuns}

abbrev Hold : Settings → World → Type 0
Hold p w = WantsHold p w.sender

given_holds : (p : Settings) (node : ℕ) (datagram : Option Written) (w : World) → Hold p w → Hold p (with_given node datagram w)
given_holds p node None w h = h
given_holds p node (Some datagram) w h = h

answered_holds : (p : Settings) (node : ℕ) (answer : Answer) (w : World) → Hold p w → Hold p (answered node answer w).0
answered_holds p node (Sent datagram) w h = given_holds p node datagram w h
answered_holds p node (Gave result) w h = h
answered_holds p node (Took up) w h = h
answered_holds p node (Told news) w h = h
answered_holds p node Silent w h = h

offers_holds : (p : Settings) (found : Option (ℕ × Written)) (node : ℕ) (w : World) → Hold p w → Hold p (offers found node w)
offers_holds p None node w h = h
offers_holds p (Some datagram) node w h = h

move_holds : (p : Settings) → InRange p → (w : World) (move : Move) → Hold p w → Hold p (moved p w move).0
move_holds p range w (OfSender event) h =
    let step = sender_step p w.sender event in
    answered_holds p p.sender (of_sender step.1) (record w { sender = step.0 }) (want_laws.always p w.sender event range h)
move_holds p range w (OfReceiver r event) h =
    let step = receiver_step p r event in answered_holds p r.node (of_receiver step.1) (with_receiver step.0 w) h
move_holds p range w (OfNetwork node octets) h = offers_holds p (find (is_of node octets) w.given) node w h
move_holds p range w OfNobody h = h

from_holds : (p : Settings) → InRange p → (happening : List Event) (w : World) → Hold p w → Hold p (run_from p w happening)
from_holds p range [] w h = h
from_holds p range (e ∷ happening) w h = from_holds p range happening (world_step p w e).0 (move_holds p range w (move_of p w e) h)

pub wants_hold_in_runs : WantsHoldInRuns
wants_hold_in_runs p happening range = from_holds p range happening (world_opening p) (want_laws.at_first p p.instance)
