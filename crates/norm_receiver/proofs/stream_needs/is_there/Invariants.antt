-- None is missing exactly where none is from this symbol on.
use Rattle.std.proofs.Common.{◌≡◌, ◌-◌, false}
use Rattle.fec_plan.specs.Points.{point, point_before, point_of}
use Rattle.norm_receive_rules.specs.Holding.{Holding}
use Rattle.norm_receive_rules.specs.Plans.{plan_of}
use Rattle.std.specs.Prelude.{IfSome}
use Rattle.rx_hold.specs.EntryHold.{StandsFor as HoldStands}
use Rattle.norm_receiver.specs.Quiet.{is_nil}
use Rattle.norm_receiver.specs.Streams.{missing_in, sources, unheld}
use Rattle.norm_receiver.proofs.stream_needs.is_there.Given as goal

abbrev pub invariant-loop-symbol : goal.invariant-loop-symbol
invariant-loop-symbol l = record {
  ahead : point_before (point l.index l.block) (point_of l.hold.point) ≡ false;
  there : (s : Holding) → HoldStands l.hold s → IfSome (plan_of s l.index) (λ found.
      is_nil (sources (missing_in s found l.run)) ≡ is_nil (sources (unheld s l.index l.block l.symbol (l.run.behind - l.symbol))));
}

abbrev pub decreases-loop-symbol : goal.decreases-loop-symbol
decreases-loop-symbol l = l.run.behind - l.symbol
