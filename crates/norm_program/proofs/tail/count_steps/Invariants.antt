use Rattle.std.proofs.Common.{◌≡◌, fold, take}
use Rattle.norm_program.specs.TailEnds.{with_step}
use Rattle.norm_program.proofs.tail.count_steps.Given as goal

-- the steps so far are counted
abbrev pub invariant-loop-step : goal.invariant-loop-step
invariant-loop-step l = l.counts ≡ fold with_step l.initial.counts (take l.step-index l.steps)
