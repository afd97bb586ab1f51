-- The paths that a folder's files were told.
use Rattle.std.proofs.Common.{◌≡◌, ap, Bool, List, [], ◌∷◌, map, refl}
use Rattle.std.specs.Prelude.{◌||◌}
use Rattle.std.specs.List.{list_any}

-- a test of what is shown of each
pub any_shown : {X Y : Type 0} (test : Y → Bool) (show : X → Y) (xs : List X) → list_any (λ x. test (show x)) xs ≡ list_any test (map show xs)
any_shown test show [] = refl
any_shown test show (x ∷ xs) = ap (λ b. test (show x) || b) (any_shown test show xs)
