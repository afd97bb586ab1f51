use Rattle.std.proofs.Common.{◌≡◌, ℕ, List, [], ◌∷◌, Result, Ok, Err, inl, inr}
use Rattle.std.specs.Prelude.{OnOk, OnErr, is_err}
use Rattle.norm_base.specs.Faults.{Counts}
use Rattle.norm_base.specs.Told.{Pieces, gained, GainsFront}
use Rattle.norm_endings.specs.Outside.{Says}

-- whether a write failed or not, it says its line
pub says : {T E : Type 0} → (result : Result T E) (old new : Pieces) (before now : ℕ) (line : List ℕ)
    → OnOk result (new ≡ gained old (line ∷ [])) → OnErr result (GainsFront old new line)
    → Counts before now (is_err result) → Says old new before now line
says (Ok t) old new before now line ok err counts = inl (ok, counts.exact)
says (Err e) old new before now line ok err counts = inr (err, counts.exact)
