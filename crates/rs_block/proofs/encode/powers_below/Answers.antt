use Rattle.std.proofs.Common.{◌∙◌, sym, ap, [], ◌∷◌, ◌++◌}
use Rattle.std.proofs.lemmas.Slice.{pushed}
use Rattle.rs_block.specs.Points.{powers}
use Rattle.rs_block.proofs.Words.{powers_more}
use Rattle.rs_block.proofs.encode.powers_below.Goals as goal

pub loop-j-preserved : goal.loop-j-preserved
loop-j-preserved c =
    pushed (c.place_of.result ∷ []) c.loop-j.invariant c.in_ok-push.was c.push.ensures.items
    ∙ ap (λ n. powers c.loop-j.j ++ n ∷ []) c.place_of.ensures
    ∙ sym (powers_more c.loop-j.j)
