use Rattle.std.proofs.Common.{sym, subst, ◌≤◌}
use Rattle.fec_plan.proofs.PartitionLemmas.{some_sources, sources_fit}
use Rattle.obj_buffer.proofs.codes.code_of.Goals as goal

pub code-requires-clause-some : goal.code-requires-clause-some
code-requires-clause-some c = subst (λ n. 1 ≤ n) (sym c.source_len.ensures.exact) (some_sources c.args.plan.now c.args.block c.source_len.ensures.sound)

pub code-requires-clause-fits : goal.code-requires-clause-fits
code-requires-clause-fits c =
    subst (λ n. n ≤ c.encoded_len.result) (sym c.source_len.ensures.exact)
    (subst (λ n. Rattle.fec_plan.specs.Partition.source_symbols c.args.plan.now c.args.block ≤ n) (sym c.encoded_len.ensures)
    (sources_fit c.args.plan.now c.args.block c.source_len.ensures.sound))
