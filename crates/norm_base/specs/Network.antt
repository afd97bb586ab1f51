use Rattle.std.specs.Prelude.{◌≡◌, ◌≢◌, ℕ, List, [], ◌∷◌, ◌++◌, length, filter_map, Option, Bool, IsTrue, IfSome, Contains}
use Rattle.std.specs.Option.{option_map}
use Rattle.norm_base.specs.Copies.{members_at, next_copy}
use Rattle.norm_base.specs.Settings.{Settings}
use Rattle.norm_base.specs.Told.{gained}
use Rattle.norm_base.specs.declared.kinds.Local.{Local}

-- What a network tells: each start that was Ok; since the last start, who offered what, and what each take
-- answered, None included; whether it is honest; and whether it is direct.
pub record Network : Type 0 where
  pub starts : Option (List (Settings × Local))
  pub offered : Option (List (ℕ × List ℕ))
  pub answers : Option (List (Option (ℕ × List ℕ)))
  pub honest : Bool
  pub direct : Bool

-- a start begins both lists anew; whether anything is told may change there
pub record Starts (old new : Network) (profile : Settings) (local : Local) : Type 0 where
  pub started : IfSome old.starts (λ before. IfSome new.starts (λ now. now ≡ before ++ (profile, local) ∷ []))
  pub offered : IfSome new.offered (λ now. now ≡ [])
  pub answers : IfSome new.answers (λ now. now ≡ [])

-- a member's datagram joins what is offered
abbrev pub with_offer : Network → ℕ → List ℕ → Network
with_offer n from bytes = record {
  starts = n.starts;
  offered = gained n.offered ((from, bytes) ∷ []);
  answers = n.answers;
  honest = n.honest;
  direct = n.direct;
}

-- an answer joins those that were given
abbrev pub with_answer : Network → Option (ℕ × List ℕ) → Network
with_answer n answer = record {
  starts = n.starts;
  offered = n.offered;
  answers = gained n.answers (answer ∷ []);
  honest = n.honest;
  direct = n.direct;
}

-- what a take answered: the member and the datagram, or nothing
abbrev pub answer_of : Option ℕ → List ℕ → Option (ℕ × List ℕ)
answer_of node bytes = option_map (λ n. (n, bytes)) node

-- another member offered this datagram
abbrev pub WasOffered : List (ℕ × List ℕ) → ℕ → List ℕ → Type 0
WasOffered offered to bytes = (from : ℕ) × (from ≢ to) × Contains offered (from, bytes)

-- an honest network gives a member only what another member offered
abbrev pub IsHonestAnswer : Network → Option (ℕ × List ℕ) → Type 0
IsHonestAnswer n answer =
    IsTrue n.honest → IfSome answer (λ a. IfSome n.offered (λ offered. WasOffered offered a.0 a.1))

-- the copies that were taken
abbrev pub taken_of : List (Option (ℕ × List ℕ)) → List (ℕ × List ℕ)
taken_of answers = filter_map (λ answer. answer) answers

-- a direct network gives the first copy that was not taken yet, and nothing only if there is none
abbrev pub IsDirectAnswer : Network → Option (ℕ × List ℕ) → Type 0
IsDirectAnswer n answer =
    IsTrue n.direct
    → IfSome n.starts (λ starts.
    IfSome n.offered (λ offered. IfSome n.answers (λ answers. answer ≡ next_copy (members_at starts) offered (length (taken_of answers)))))
