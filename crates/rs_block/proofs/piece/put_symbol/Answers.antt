use Rattle.std.proofs.Common.{◌∙◌, ap, arith, length}
use Rattle.rs_block.proofs.InPlace.{others_stay}
use Rattle.rs_block.proofs.piece.put_symbol.Goals as goal

pub returns-clause-others : goal.returns-clause-others
returns-clause-others c = λ m t differ lt.
    others_stay c.args.size c.args.i _ m t c.args.row.now c.copy_from_slice.new.self
    (omega arith) c.requires.within (ap (λ xs. length xs) c.copy_from_slice.ensures.after ∙ c.requires.size) differ lt
