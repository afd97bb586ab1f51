-- What is asked for of the source symbols is what is asked for here, and then of those that are left.
use Rattle.std.proofs.Common.{◌≡◌, ℕ, ◌-◌, List, false}
use Rattle.std.specs.Prelude.{IfSome}
use Rattle.fec_plan.specs.Points.{point, point_before, point_of}
use Rattle.norm_receive_rules.specs.HeardNeeds.{is_heard}
use Rattle.norm_receive_rules.specs.Plans.{plan_of}
use Rattle.norm_receive_rules.specs.ReceiverState.{ReceiverState}
use Rattle.norm_receiver.specs.Inside.{kept_of}
use Rattle.norm_receiver.specs.ReceiverKept.{Stands}
use Rattle.norm_receiver.specs.Streams.{missing_in, sources, unheld}
use Rattle.norm_receiver.specs.Walking.{Walked, HasRoom, IsAt}
use Rattle.norm_receiver.proofs.WalkLemmas.{GoesOn}
use Rattle.norm_receiver.proofs.parts.Parts.ask_run.Given as goal

abbrev pub invariant-loop-symbol : goal.invariant-loop-symbol
invariant-loop-symbol l = record {
  ahead : point_before (point l.index l.block) (point_of l.self.hold.point) ≡ false;
  room : HasRoom l.asking.writer l.out;
  walked : (s : ReceiverState) (front : List ℕ) (w : Walked) → Stands (kept_of l.self) s
      → IsAt l.self.profile (is_heard s.knows.heard s.holding) l.initial.asking l.initial.out front w
      → IfSome (plan_of s.holding l.index) (λ found. GoesOn l.self.profile (is_heard s.knows.heard s.holding) l.asking l.out front
      (sources (missing_in s.holding found l.run)) (sources (unheld s.holding l.index l.block l.symbol (l.run.behind - l.symbol))) w);
}

abbrev pub decreases-loop-symbol : goal.decreases-loop-symbol
decreases-loop-symbol l = l.run.behind - l.symbol
