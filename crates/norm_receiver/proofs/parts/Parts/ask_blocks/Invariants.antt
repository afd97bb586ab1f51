-- What is asked for of all blocks is what is asked for here, and then from the next block on that lacks symbols.
use Rattle.std.proofs.Common.{◌≡◌, ℕ, List, false}
use Rattle.std.specs.Prelude.{IfSome}
use Rattle.fec_plan.specs.Points.{point, point_before, point_of}
use Rattle.norm_receive_rules.specs.ReceiverState.{ReceiverState}
use Rattle.norm_receive_rules.specs.HeardNeeds.{is_heard}
use Rattle.norm_receive_rules.specs.Needs.{counts_from}
use Rattle.norm_receive_rules.specs.Plans.{plan_of}
use Rattle.rx_hold.specs.Asked.{IsShortIn}
use Rattle.norm_receiver.specs.Inside.{kept_of}
use Rattle.norm_receiver.specs.ReceiverKept.{Stands}
use Rattle.norm_receiver.specs.Walking.{Walked, HasRoom, IsAt}
use Rattle.norm_receiver.proofs.AskLemmas.{blocks_left, counts_left}
use Rattle.norm_receiver.proofs.WalkLemmas.{GoesOn}
use Rattle.norm_receiver.proofs.parts.Parts.ask_blocks.Given as goal

abbrev pub invariant-loop-short : goal.invariant-loop-short
invariant-loop-short l = record {
  ahead : IfSome l.short (λ block. point_before (point l.index block) (point_of l.self.hold.point) ≡ false);
  lacks : IfSome l.short (λ block. IsShortIn l.self.hold l.index block);
  room : HasRoom l.asking.writer l.out;
  walked : (s : ReceiverState) (front : List ℕ) (w : Walked) → Stands (kept_of l.self) s
      → IsAt l.self.profile (is_heard s.knows.heard s.holding) l.initial.asking l.initial.out front w
      → IfSome (plan_of s.holding l.index) (λ found. GoesOn l.self.profile (is_heard s.knows.heard s.holding) l.asking l.out front
      (counts_from s.holding found l.due 0) (counts_left s.holding found l.due l.short) w);
}

abbrev pub decreases-loop-short : goal.decreases-loop-short
decreases-loop-short l = blocks_left l.due l.short
