-- The names of what was pulled: how many are a producer's, and which numbers these have.
use Rattle.std.proofs.Common.{◌≡◌, ℕ, ◌+◌, ◌==◌, true, false, cond, eqb, List, [], ◌∷◌, length, take, map, filter, All, count_by, sym, refl, ap, ◌∙◌, length-take-le}
use Rattle.std.specs.List.{range_with_len}
use Rattle.std.proofs.lemmas.List.{length-map}
use Rattle.std.proofs.lemmas.List.Sums.{length-filter}
use Rattle.std.proofs.lemmas.List.Elements.{All-weaker}
use Rattle.producer_gate.specs.declared.command.Submitted.{Submitted}
use Rattle.producer_gate.specs.Commands.{of_producer, numbered, named}
use Rattle.producer_gate.specs.Seats.{SeatState, IsFront, HasNumbers}

names_are : (p : ℕ) (cs : List Submitted) → filter (λ (e : ℕ × ℕ). eqb e.0 p) (map named cs) ≡ map named (of_producer p cs)
names_are p [] = refl
names_are p (c ∷ cs) =
    let rest : List (ℕ × ℕ) = filter (λ (e : ℕ × ℕ). eqb e.0 p) (map named cs) in
    elim (eqb c.producer p) as (λ b. cond b (named c ∷ rest) rest ≡ map named (cond b (c ∷ of_producer p cs) (of_producer p cs))) [
      | true ↦ ap (λ (l : List (ℕ × ℕ)). named c ∷ l) (names_are p cs)
      | false ↦ names_are p cs
    ]

pub count_is : (p : ℕ) (cs : List Submitted) → count_by (λ (e : ℕ × ℕ). e.0 == p) (map named cs) ≡ length (of_producer p cs)
count_is p cs = sym (length-filter (λ (e : ℕ × ℕ). eqb e.0 p) (map named cs)) ∙ ap length (names_are p cs) ∙ length-map (of_producer p cs) named

numbers_are : (cs : List Submitted) → map (λ (e : ℕ × ℕ). e.1) (map named cs) ≡ map (λ (c : Submitted). c.number) cs
numbers_are [] = refl
numbers_are (c ∷ cs) = ap (λ (l : List ℕ). c.number ∷ l) (numbers_are cs)

numbers_rise : (p n : ℕ) (xs : List ℕ) → map (λ (c : Submitted). c.number) (numbered p n xs) ≡ range_with_len n (length xs)
numbers_rise p n [] = refl
numbers_rise p n (x ∷ xs) = ap (λ (l : List ℕ). n ∷ l) (numbers_rise p (n + 1) xs)

has_numbers : (pulled : List Submitted) (s : SeatState) → IsFront pulled s → HasNumbers (map named pulled) s
has_numbers pulled s h =
    let p : ℕ = s.producer in
    let m : ℕ = length (of_producer p pulled) in (
      m,
      h.0,
      ap (map (λ (e : ℕ × ℕ). e.1)) (names_are p pulled) ∙ numbers_are (of_producer p pulled) ∙ ap (map (λ (c : Submitted). c.number)) h.1
          ∙ numbers_rise p 1 (take m s.items) ∙ ap (range_with_len 1) (length-take-le m s.items h.0),
    )

pub all_have_numbers : (pulled : List Submitted) (seats : List SeatState) → All (IsFront pulled) seats → All (HasNumbers (map named pulled)) seats
all_have_numbers pulled seats h = All-weaker (IsFront pulled) (HasNumbers (map named pulled)) (has_numbers pulled) seats h
