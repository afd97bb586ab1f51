-- Over a turn that leaves no less, once all is spent, a member holds of the sender's instance what it held.
use Rattle.std.proofs.Common.{◌≡◌, ℕ, ◌+◌, List, [], length, true, false, Some, ap, ◌∙◌}
use Rattle.std.specs.Prelude.{◌==◌}
use Rattle.std.proofs.lemmas.Bool.Decides.{Decides-eqb}
use Rattle.norm_base.specs.Settings.{Settings}
use Rattle.norm_receive_rules.specs.Holding.{Holding}
use Rattle.norm_receive_rules.specs.ReceiverState.{ReceiverState}
use Rattle.norm_send_rules.specs.SenderState.{SenderState, Instance}
use Rattle.norm_send_rules.specs.Ticking.{closed_where_due}
use Rattle.norm_send_rules.specs.Watermarks.{has_member}
use Rattle.norm_send_rules.specs.declared.want.Want.{Want}
use Rattle.norm_safety.specs.Events.{Event}
use Rattle.norm_safety.specs.World.{receiver_at}
use Rattle.norm_safety.specs.WorldStep.{run}
use Rattle.norm_recovery.specs.Asking.{have_wanted}
use Rattle.norm_recovery.specs.Left.{held_for, is_had, has}
use Rattle.norm_recovery.specs.RunsOut.{all_new}
use Rattle.norm_recovery.specs.Watch.{Phase, is_spent}
use Rattle.norm_recovery.specs.WatchKeeps.{turn_after}
use Rattle.norm_recovery.proofs.CleanSteps.{both}
use Rattle.norm_recovery.proofs.HeldTurn.{SameHeld, member_turn}
use Rattle.norm_recovery.proofs.PhaseTurn.{InPhase}
use Rattle.norm_recovery.proofs.WatchSpent.{stays, closed_have}

-- it stands where it stood, and has what it had
pub record SameAfter (p : Settings) (s u : SenderState) (r t : ReceiverState) : Type 0 where
  pub point : (held_for u t).point ≡ (held_for s r).point
  pub has : (y : Want) → has p u t y ≡ has p s r y

pub member_same : (p : Settings) (events : List Event) (last : ℕ) (draws : ℕ → ℕ) (ph : Phase) → InPhase p events last ph → is_spent p (run p events) ≡ true
    → (node : ℕ) → (node == p.sender) ≡ false → has_member node (run p events).sender ≡ true → (r t : ReceiverState) → receiver_at (run p events) node ≡ Some r
    → receiver_at (turn_after p draws events last).world node ≡ Some t → SameAfter p (run p events).sender (turn_after p draws events last).world.sender r t
member_same p events last draws ph h spent node other member r t found is = record {
  point = ap (λ (i : Instance). (held_for (record u { current = i }) t).point) same ∙ ap (λ (x : Holding). x.point) (turned.held);
  has = λ y. ap (λ (i : Instance). is_had [] p (record u { current = i }) (held_for (record u { current = i }) t) y) same
      ∙ ap (λ (x : Holding). is_had [] p (run p events).sender x y) turned.held;
}
  where
    u : SenderState
    u = (turn_after p draws events last).world.sender

    same : (turn_after p draws events last).world.sender.current ≡ (run p events).sender.current
    same = (stays p events last draws h.follows h.may h.no_less).current

    parts : ((length (all_new p (run p events).sender) == 0) ≡ true) × (have_wanted p (run p events) ≡ true)
    parts = both (length (all_new p (run p events).sender) == 0) (have_wanted p (run p events)) spent

    have : have_wanted p (record (run p events) { sender = closed_where_due p (last + p.step) (run p events).sender }) ≡ true
    have = closed_have p events last draws h.follows h.may h.no_less parts.1

    new : length (all_new p (run p events).sender) ≡ 0
    new = (Decides-eqb (length (all_new p (run p events).sender)) 0).0 parts.0

    turned : SameHeld p h.follows.profile h.holds events h.may h.none draws (last + p.step) have new node other r found member t
    turned = member_turn p h.follows.profile h.holds events h.may h.none draws (last + p.step) have new node other r found member t is
