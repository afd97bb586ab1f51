-- The rule of the board's words: the count, and behind it two words for each entry that is published, which each seat that
-- reads knows a beginning of.
use Rattle.std.specs.Prelude.{◌≡◌, ℕ, ◌+◌, ◌*◌, ◌<◌, ◌≤◌, List, length, slice_index, slice_index_or}
use mathlib.Core.Option.{some}
use mathlib.Core.List.{IsPrefix}
use lib.ListN.{get_elem?}
use Rattle.atomic_table.specs.Table.{State}
use Rattle.producer_gate.specs.declared.words.Role.{Role}
use Rattle.producer_gate.specs.declared.words.Role.TheVariants.{Writes, Reads, Gone}

-- the two words of an entry
abbrev pub words_at : List (ℕ × ℕ) → ℕ → ℕ × ℕ
words_at log k = slice_index_or log k (0, 0)

-- the words hold these entries
pub record Holds (words : List ℕ) (log : List (ℕ × ℕ)) : Type 0 where
  pub wide : length words ≡ 8193
  pub few : length log ≤ 4096
  pub count : slice_index words 0 ≡ length log
  pub first : (k : ℕ) → k < length log → slice_index words (2 * k + 1) ≡ (words_at log k).0
  pub second : (k : ℕ) → k < length log → slice_index words (2 * k + 2) ≡ (words_at log k).1

-- what a seat knows is so
abbrev pub Fits : List ℕ → List (ℕ × ℕ) → ℕ → ℕ → Role → Type 0
Fits words log writer seat (Writes own first second asked) =
    (seat ≡ writer) × (own ≡ log)
    × (first ≡ slice_index words (2 * length log + 1)) × (second ≡ slice_index words (2 * length log + 2))
    × IsPrefix asked log
Fits words log writer seat (Reads known told) = IsPrefix known log × IsPrefix told log
Fits words log writer seat Gone = Unit {0}

-- the rule: some entries are published, one seat at most writes, and each seat's view fits them
abbrev pub Posts : State ℕ Role → Type 0
Posts s =
    (log : List (ℕ × ℕ)) × (writer : ℕ) × Holds s.words log
    × ((seat : ℕ) (v : Role) → get_elem? s.views seat ≡ some v → Fits s.words log writer seat v)
