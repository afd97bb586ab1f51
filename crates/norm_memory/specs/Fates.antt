use Rattle.std.specs.Prelude.{◌≢◌, ℕ, ◌+◌, ◌==◌, List, [], ◌∷◌, ◌++◌, replicate, if◌then◌else◌}
use Rattle.std.specs.List.{AllByRecursion}
use Rattle.norm_memory.specs.declared.fate.Fate.{Fate}
use Rattle.norm_memory.specs.declared.copy.WaitingCopy.{WaitingCopy}

-- A plan says what becomes of an offer: a fate for each member but the one that offered.

-- it comes once, at once
abbrev pub once : Fate
once = record { copies = 1; after = 0 }

-- it is lost
abbrev pub lost : Fate
lost = record { copies = 0; after = 0 }

-- the plan in which a member's fate is a function of it
abbrev pub plan_by : (ℕ → Fate) → ℕ → List ℕ → List (ℕ × Fate)
plan_by fate from [] = []
plan_by fate from (m ∷ members) = if m == from then plan_by fate from members else (m, fate m) ∷ plan_by fate from members

-- no fate is that of the member which offered
abbrev pub AreForOthers : ℕ → List (ℕ × Fate) → Type 0
AreForOthers from plan = AllByRecursion (λ p. p.0 ≢ from) plan

-- the copies of the offer at a place: for each member as many as its fate says, ready after so many further offers
abbrev pub copies_of : ℕ → List (ℕ × Fate) → List WaitingCopy
copies_of place [] = []
copies_of place (p ∷ plan) =
    replicate p.1.copies (record { ready = place + 1 + p.1.after; offer = place; to = p.0 }) ++ copies_of place plan
