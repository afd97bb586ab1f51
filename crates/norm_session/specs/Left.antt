-- The lines that are left to pull, by their places in the script.
use Rattle.std.specs.Prelude.{◌≡◌, ◌≢◌, ◌==◌, ℕ, List, All, Bool, false, None, Some, take, slice_get}
use Rattle.std.specs.List.{flat_map}
use Rattle.std.specs.Option.{option_to_list}
use Rattle.norm_script.specs.declared.script.Line.{Line}
use Rattle.norm_journal.specs.Follows.{IsFirstLeft}
use Rattle.norm_journal.specs.Pulling.{origin_of}

-- the lines at these places, where the script has them
abbrev pub lines_at : List Line → List ℕ → List Line
lines_at lines places = flat_map (λ place. option_to_list (slice_get lines place)) places

-- a line of this producer is at a place
abbrev pub is_of : List Line → ℕ → ℕ → Bool
is_of lines producer place = elim (slice_get lines place) [ Some line ↦ line.producer == producer | None ↦ false ]

-- So many places are passed by until the first line of a producer.
pub record IsFirstOf (lines : List Line) (places : List ℕ) (producer at : ℕ) : Type 0 where
  pub place : ℕ
  pub line : Line
  pub there : slice_get places at ≡ Some place
  pub line_is : slice_get lines place ≡ Some line
  pub its : line.producer ≡ producer
  pub before : All (λ (l : Line). l.producer ≢ producer) (lines_at lines (take at places))

-- The line at a place was the first that was left of its producer, and is left no more.
pub record IsTaken (lines : List Line) (old new : List ℕ) (producer place : ℕ) : Type 0 where
  pub line : Line
  pub line_is : slice_get lines place ≡ Some line
  pub its : line.producer ≡ producer
  pub first : IsFirstLeft (origin_of line) (lines_at lines old) line (lines_at lines new)
