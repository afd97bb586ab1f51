-- Which of the blocks of a window are short: not done.
use Rattle.std.specs.Prelude.{ℕ, ◌≡◌, ◌<◌, ◌≤◌, ◌+◌, ◌-◌, Bool, true, false, List, [], ◌∷◌, ◌++◌, length, drop, replicate, slice_index_or, slice_set, Option, IfSome, unwrap_or}

-- a window: its first block, and of each block from that one on whether it is short
pub record ShortsState : Type 0 where
  pub start : ℕ
  pub short : List Bool

-- the number behind the window
abbrev pub end_of : ShortsState → ℕ
end_of s = s.start + length s.short

-- a block from the window's first one on is one of the window's and short
abbrev pub is_short : ShortsState → ℕ → Bool
is_short s block = slice_index_or s.short (block - s.start) false

-- What an answer of the first short block from one on says: each one before it is done, and it is short; or no block is short,
-- where there is none.
pub record IsFirstFrom (s : ShortsState) (from : ℕ) (found : Option ℕ) : Type 0 where
  pub before : (block : ℕ) → from ≤ block → block < unwrap_or found (end_of s) → is_short s block ≡ false
  pub short : IfSome found (λ block. (from ≤ block) × (block < end_of s) × (is_short s block ≡ true))

-- a window from block 0 on of which all are short
abbrev pub all_short : ℕ → ShortsState
all_short count = record { start = 0; short = replicate count true }

-- a block is done, and all others are as they were
abbrev pub settled : ℕ → ShortsState → ShortsState
settled block s = record s { short = slice_set s.short (block - s.start) false }

-- the window goes on by one block, which is short
abbrev pub gone_on : ShortsState → ShortsState
gone_on s = record { start = s.start + 1; short = drop 1 s.short ++ true ∷ [] }
