use Rattle.std.proofs.Common.{arith}
use Rattle.norm_order.specs.Symbols.{padded}
use Rattle.rx_object.proofs.FreePlaces.{some_places}
use Rattle.rx_object.proofs.SolvedLemmas.{put_last}
use Rattle.rx_object.proofs.block.put.Goals as goal

pub solve-requires-clause-some : goal.solve-requires-clause-some
solve-requires-clause-some c =
    let some = some_places c.args.ids.now (omega (arith, c.requires.lacks, c.requires.some)) in
    omega (arith, some, c.keep.auto.ids)

pub returns-clause-symbols : goal.returns-clause-symbols
returns-clause-symbols c =
    put_last c.args.solver.now.size c.args.size c.args.symbol c.args.ids.now c.keep.new.ids c.args.row.now c.keep.new.row c.solve.new.row
    (padded c.args.size c.args.payload.now) c.requires.size c.requires.most c.keep.auto.ids c.solve.ensures.different
    c.keep.ensures.lacks (omega (arith, c.keep.ensures.lacks, c.requires.lacks, c.if-lacking-gt1.false)) c.requires.row c.keep.auto.row c.solve.auto.row
    (λ i. let byte = c.type_inv.row i in byte.fits) c.solve.ensures.sources c.keep.ensures.symbols
