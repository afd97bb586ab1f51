use Rattle.std.proofs.Common.{◌≡◌, take}
use Rattle.norm_base.specs.Told.{gained}
use Rattle.norm_script.specs.Generated.{generated_pieces}
use Rattle.norm_script.proofs.generator.generate.Given as goal

-- the lines so far were written, and no write failed
abbrev pub invariant-loop-k : goal.invariant-loop-k
invariant-loop-k g l =
    (g.K.Sink.pieces l.output ≡ gained (g.K.Sink.pieces l.fn.output) (take l.k (generated_pieces l.n)))
    × (g.K.Sink.fault_count l.output ≡ g.K.Sink.fault_count l.fn.output)
