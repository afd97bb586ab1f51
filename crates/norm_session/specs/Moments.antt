-- The moments of turns, and what the clock was asked for them.
use Rattle.std.specs.Prelude.{◌≡◌, ℕ, ◌+◌, ◌==◌, max, List, [], ◌∷◌, Option}
use Rattle.norm_turns.specs.Moments.{Either, Gave}

-- A moment is the greatest of those that the clock gave so far.
abbrev pub greatest : ℕ → List ℕ → List ℕ
greatest so_far [] = []
greatest so_far (given ∷ more) = max so_far given ∷ greatest (max so_far given) more

-- the last moment, if there is one
abbrev pub last_moment : ℕ → List ℕ → ℕ
last_moment so_far [] = so_far
last_moment so_far (now ∷ more) = last_moment now more

-- how many turns there were
abbrev pub count_of : List ℕ → ℕ
count_of [] = 0
count_of (now ∷ more) = count_of more + 1

-- The moments of the turns after that one, by the clock: each is the greatest that it gave.
pub record ByClock (so_far : ℕ) (before now : Option (List ℕ)) (moments : List ℕ) : Type 0 where
  pub given : List ℕ
  pub gave : Gave before now given
  pub greatest_are : moments ≡ greatest so_far given

-- Moments of turns: where the profile's step is 0 they are the clock's; else it was not asked.
abbrev pub HaveMoments : ℕ → ℕ → Option (List ℕ) → Option (List ℕ) → List ℕ → Type 0
HaveMoments step so_far before now moments = Either (step == 0) (ByClock so_far before now moments) (now ≡ before)
