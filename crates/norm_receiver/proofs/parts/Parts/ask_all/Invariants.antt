-- What is asked for of all objects is what is asked for here, and then of the objects that are left.
use Rattle.std.proofs.Common.{◌≤◌, ℕ, ◌-◌, List}
use Rattle.norm_receive_rules.specs.AllNeeds.{needs, needs_from}
use Rattle.norm_receive_rules.specs.ReceiverState.{ReceiverState}
use Rattle.norm_receive_rules.specs.HeardNeeds.{is_heard}
use Rattle.norm_receiver.specs.Inside.{kept_of}
use Rattle.norm_receiver.specs.ReceiverKept.{Stands}
use Rattle.norm_receiver.specs.Walking.{Walked, HasRoom, IsAt}
use Rattle.norm_receiver.proofs.WalkLemmas.{GoesOn}
use Rattle.norm_receiver.proofs.parts.Parts.ask_all.Given as goal

abbrev pub invariant-loop-index : goal.invariant-loop-index
invariant-loop-index l = record {
  reached : l.self.hold.point.index ≤ l.index;
  room : HasRoom l.asking.writer l.out;
  walked : (s : ReceiverState) (front : List ℕ) (w : Walked) → Stands (kept_of l.self) s
      → IsAt l.self.profile (is_heard s.knows.heard s.holding) l.initial.asking l.initial.out front w
      → GoesOn l.self.profile (is_heard s.knows.heard s.holding) l.asking l.out front
      (needs l.self.profile s) (needs_from (l.last - l.index) l.self.profile s.knows.farthest s.knows.flush s.holding l.index) w;
}

abbrev pub decreases-loop-index : goal.decreases-loop-index
decreases-loop-index l = l.last - l.index
