-- Entries of the board: a mark and an outcome, each kept as a word, and what is found of a mark.
use Rattle.std.specs.Prelude.{ℕ, ◌+◌, ◌*◌, ◌/◌, ◌%◌, ◌^◌, ◌==◌, List, find, reverse, Option, Some, None, if◌then◌else◌}
use Rattle.norm_send_rules.specs.declared.news.Outcome.{Outcome}
use Rattle.norm_send_rules.specs.declared.news.Outcome.TheVariants.{Open, Satisfied, Expired, Cut}
use Rattle.producer_gate.specs.declared.entries.Seen.{Seen}
use Rattle.producer_gate.specs.declared.entries.Seen.TheVariants.{Unknown, Known}

-- an entry: what became of a request
pub record Entry : Type 0 where
  pub mark : ℕ
  pub outcome : Outcome

abbrev pub entry : ℕ → Outcome → Entry
entry mark outcome = record { mark = mark; outcome = outcome }

-- an outcome as a word: its kind, and above that its count
abbrev pub code_of : Outcome → ℕ
code_of (Open left) = 4 * left
code_of Satisfied = 1
code_of (Expired left) = 4 * left + 2
code_of Cut = 3

abbrev pub outcome_with : ℕ → ℕ → Outcome
outcome_with kind left =
    if kind == 0 then Open left else (if kind == 1 then Satisfied else (if kind == 2 then Expired left else Cut))

-- the outcome that a word stands for
abbrev pub outcome_in : ℕ → Outcome
outcome_in code = outcome_with (code % 4) (code / 4 % 2 ^ 32)

-- the entry that two words stand for
abbrev pub entry_in : ℕ × ℕ → Entry
entry_in words = entry words.0 (outcome_in words.1)

-- what is found of a mark in a list of entries: the last entry of it
abbrev pub found_in : Option Entry → Seen
found_in None = Unknown
found_in (Some e) = Known e.outcome

abbrev pub last_of : ℕ → List Entry → Seen
last_of mark entries = found_in (find (λ (e : Entry). e.mark == mark) (reverse entries))
