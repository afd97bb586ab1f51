-- The moment of a turn, and what the clock was asked for it.
use Rattle.std.specs.Prelude.{◌≡◌, ℕ, ◌*◌, ◌==◌, max, Bool, List, [], ◌∷◌, Option, Some, IfSome, true, false}
use Rattle.norm_base.specs.Told.{gained}

-- The clock gave these, and still tells so, or tells nothing.
abbrev pub Gave : Option (List ℕ) → Option (List ℕ) → List ℕ → Type 0
Gave before now given = IfSome now (λ told. gained before given ≡ Some told)

-- one of two sentences
abbrev pub Either : Bool → Type 0 → Type 0 → Type 0
Either true One Other = One
Either false One Other = Other

-- The clock gave the moment, if it did not fall.
pub record IsGiven (so_far now : ℕ) (before after : Option (List ℕ)) : Type 0 where
  pub given : ℕ
  pub gave : Gave before after (given ∷ [])
  pub now_is : now ≡ max so_far given

-- The moment is the turn's number times the step, and the clock was not asked.
pub record IsStepped (turn step now : ℕ) (before after : Option (List ℕ)) : Type 0 where
  pub now_is : now ≡ turn * step
  pub unasked : after ≡ before

-- The moment of a turn.
abbrev pub IsNextMoment : (turn step so_far now : ℕ) → Option (List ℕ) → Option (List ℕ) → Type 0
IsNextMoment turn step so_far now before after = Either (step == 0) (IsGiven so_far now before after) (IsStepped turn step now before after)
