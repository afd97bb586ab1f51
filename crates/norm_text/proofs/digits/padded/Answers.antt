use Rattle.std.proofs.Common.{◌∙◌, ◌++◌, ap, drop, length, replicate, List, ℕ}
use Rattle.std.proofs.lemmas.List.{drop-replicate}
use Rattle.norm_text.proofs.digits.padded.Goals as goal

pub returns : goal.returns
returns c =
    ap (λ (xs : List ℕ). xs ++ drop (length c.args.octets.now) (replicate 64 0)) c.copy_from_slice.ensures.after
    ∙ ap (λ (ys : List ℕ). c.args.octets.now ++ ys) (drop-replicate (length c.args.octets.now) 64 0)
