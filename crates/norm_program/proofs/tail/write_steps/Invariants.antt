use Rattle.std.proofs.Common.{◌≡◌, take}
use Rattle.norm_base.specs.Told.{gained}
use Rattle.norm_send_rules.specs.SenderState.{SenderState}
use Rattle.norm_sender.specs.SenderKept.{Stands}
use Rattle.norm_program.specs.TailEnds.{lines_of}
use Rattle.norm_program.proofs.tail.write_steps.Given as goal

-- the lines of the steps so far are written
abbrev pub invariant-loop-step : goal.invariant-loop-step
invariant-loop-step g l = record {
  lines : (s : SenderState) → Stands l.sender s
      → g.K.Sink.pieces l.output ≡ gained (g.K.Sink.pieces l.initial.output) (lines_of s (take l.step-index l.steps));
  writes : g.K.Sink.fault_count l.output ≡ g.K.Sink.fault_count l.initial.output;
}
