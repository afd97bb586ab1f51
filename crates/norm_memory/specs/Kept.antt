use Rattle.std.specs.Prelude.{◌≢◌, ℕ, ◌<◌, List, length, map, Option, IfSome}
use Rattle.std.specs.Option.{option_map}
use Rattle.std.specs.List.{AllByRecursion}
use Rattle.norm_memory.specs.declared.copy.WaitingCopy.{WaitingCopy}
use Rattle.norm_memory.specs.Offers.{offer_at}

-- What a network in memory keeps of its answers and copies: places among the offers.

-- an answer, kept as the member and the place of the offer
abbrev pub answer_in : List (ℕ × List ℕ) → Option (ℕ × ℕ) → Option (ℕ × List ℕ)
answer_in offered answer = option_map (λ a. (a.0, (offer_at offered a.1).1)) answer

abbrev pub answers_in : List (ℕ × List ℕ) → List (Option (ℕ × ℕ)) → List (Option (ℕ × List ℕ))
answers_in offered answers = map (answer_in offered) answers

-- a copy is one of an offer, for a member that did not make it
pub record IsCopyOf (offered : List (ℕ × List ℕ)) (c : WaitingCopy) : Type 0 where
  pub inside : c.offer < length offered
  pub other : (offer_at offered c.offer).0 ≢ c.to

abbrev pub AnswersFrom : List (ℕ × List ℕ) → Option (ℕ × ℕ) → Type 0
AnswersFrom offered answer = IfSome answer (λ a. a.1 < length offered)

-- each copy and each answer is of an offer
pub record IsOfOffers (offered : List (ℕ × List ℕ)) (waits : List WaitingCopy) (gave : List (Option (ℕ × ℕ))) : Type 0 where
  pub copies : AllByRecursion (IsCopyOf offered) waits
  pub answers : AllByRecursion (AnswersFrom offered) gave
