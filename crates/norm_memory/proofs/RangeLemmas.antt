use Rattle.std.proofs.Common.{◌≡◌, ◌∙◌, ap, ℕ, ◌+◌, ◌-◌, ◌≤◌, List, ◌++◌, length, take, drop, arith, length-drop}
use Rattle.std.specs.List.{slice_range}
use Rattle.std.proofs.lemmas.List.{take-append-le, drop-append-le, take_all}
use Rattle.std.proofs.Math.Seq.{drop-append_seam}

-- a range within the front
pub range-append : (xs more : List ℕ) (start stop : ℕ) → start ≤ stop → stop ≤ length xs → slice_range (xs ++ more) start stop ≡ slice_range xs start stop
range-append xs more start stop up within =
    let fits : stop - start ≤ length (drop start xs) = rw length-drop (omega arith) in
    ap (λ rest. take (stop - start) rest) (drop-append-le start xs more (omega arith)) ∙ take-append-le (stop - start) (drop start xs) more fits

-- the range that was appended
pub range-appended : (xs more : List ℕ) (stop : ℕ) → stop ≡ length xs + length more → slice_range (xs ++ more) (length xs) stop ≡ more
range-appended xs more stop e =
    ap (λ rest. take (stop - length xs) rest) (drop-append_seam xs more) ∙ take_all (stop - length xs) more (omega arith)
