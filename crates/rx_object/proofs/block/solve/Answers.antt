use Rattle.std.proofs.Common.{refl}
use Rattle.rx_object.proofs.SolvedLemmas.{own_sources, taken_ids}
use Rattle.rx_object.proofs.block.solve.Goals as goal

pub solve_in-requires-clause-ids : goal.solve_in-requires-clause-ids
solve_in-requires-clause-ids c = taken_ids c.args.ids.now c.requires.apart (λ i. let byte = c.type_inv.ids i in byte.fits) c.requires.full

pub returns-then-are_own-clause-different : goal.returns-then-are_own-clause-different
returns-then-are_own-clause-different c = taken_ids c.args.ids.now c.requires.apart (λ i. let byte = c.type_inv.ids i in byte.fits) c.requires.full

pub returns-then-are_own-clause-sources : goal.returns-then-are_own-clause-sources
returns-then-are_own-clause-sources c =
    own_sources _ _ c.args.ids.now c.args.row.now
    (taken_ids c.args.ids.now c.requires.apart (λ i. let byte = c.type_inv.ids i in byte.fits) c.requires.full)
    (c.if-are_own.ensures.0 refl) (λ i. let byte = c.type_inv.row i in byte.fits)

pub returns-clause-different : goal.returns-clause-different
returns-clause-different c = taken_ids c.args.ids.now c.requires.apart (λ i. let byte = c.type_inv.ids i in byte.fits) c.requires.full
