use Rattle.fec_plan.proofs.CutLemmas.{large_most}
use Rattle.fec_plan.proofs.plan.large_size.Goals as goal

pub returns-clause-most : goal.returns-clause-most
returns-clause-most c =
    rw (c.div_ceil-2.ensures, c.div_ceil.ensures, c.from.ensures) (large_most c.args.symbols c.args.b c.requires.some c.requires.block)
