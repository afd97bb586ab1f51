-- A reading as a list of steps, of which each refuses exactly with the refusals of its turn that apply.
use Rattle.std.proofs.Common.{◌≡◌, ℕ, suc, ◌+◌, ◌<◌, ◌≤◌, inl, inr, List, [], ◌∷◌, length, Result, Ok, Err, refl, ap, ◌∙◌, arith}
use Rattle.std.proofs.lemmas.Bool.{cases_lt}
use Rattle.norm_ext.specs.Pieces.{checked_then}
use Rattle.norm_ext.specs.Applies.{Applies, turn_of, IsFirst}
use Rattle.norm_ext.specs.declared.refusal.Refusal.{Refusal}
use Rattle.norm_ext.specs.declared.refusal.Refusal.TheVariants.{Short, Version, BadType, HeaderLength, PastEnd, FecId, SubType, Ext, RequestForm, RequestLength, ItemFec, BadNode, BadList}

-- a step refuses with these, and with no other
pub record Refuses (octets : List ℕ) (turn : ℕ) (step : Result (Unit {0}) Refusal) : Type 0 where
  pub found : (r : Refusal) → step ≡ Err r → (turn_of r ≡ turn) × Applies r octets
  pub fails : (r : Refusal) → turn_of r ≡ turn → Applies r octets → step ≡ Err r

-- the first refusal of a list of steps
abbrev pub first_of : List (Result (Unit {0}) Refusal) → Result (Unit {0}) Refusal
first_of [] = Ok tt
first_of (step ∷ steps) = checked_then step (first_of steps)

-- steps of one turn after the other
abbrev pub AllRefuse : List ℕ → ℕ → List (Result (Unit {0}) Refusal) → Type 0
AllRefuse octets turn [] = Unit {0}
AllRefuse octets turn (step ∷ steps) = Refuses octets turn step × AllRefuse octets (suc turn) steps

record First (octets : List ℕ) (turn : ℕ) (r : Refusal) : Type 0 where
  from : turn ≤ turn_of r
  applies : Applies r octets
  none : (q : Refusal) → turn ≤ turn_of q → turn_of q < turn_of r → Applies q octets → ⊥

not_ok : (r : Result (Unit {0}) Refusal) (x : Unit {0}) (q : Refusal) → r ≡ Ok x → r ≡ Err q → ⊥
not_ok r x q e f = cc

ok_not : (x : Unit {0}) (q : Refusal) → let r : Result (Unit {0}) Refusal = Ok x in r ≡ Err q → ⊥
ok_not x q e = cc

by_step : (octets : List ℕ) (turn : ℕ) (step rest : Result (Unit {0}) Refusal) → Refuses octets turn step
    → ((r : Refusal) → rest ≡ Err r → First octets (suc turn) r)
    → (r : Refusal) → checked_then step rest ≡ Err r → First octets turn r
by_step octets turn (Err q) rest is others r e =
    let f = is.found r e in
    record { from = omega (arith, f.0); applies = f.1; none = λ p from before applies. absurd (omega (arith, f.0, from, before)) }
by_step octets turn (Ok x) rest is others r e =
    let f = others r e in
    record {
      from = omega (arith, f.from);
      applies = f.applies;
      none = λ q from before applies.
          elim (cases_lt turn (turn_of q)) [
            | inl later ↦ f.none q (omega (arith, later)) before applies
            | inr now ↦ ok_not x q (is.fails q (omega (arith, now, from)) applies)
          ];
    }

first_is : (octets : List ℕ) (turn : ℕ) (steps : List (Result (Unit {0}) Refusal)) → AllRefuse octets turn steps → (r : Refusal) → first_of steps ≡ Err r → First octets turn r
first_is octets turn [] all r e = absurd (ok_not tt r e)
first_is octets turn (step ∷ steps) all r e =
    by_step octets turn step (first_of steps) all.0 (λ q f. first_is octets (suc turn) steps all.1 q f) r e

-- a step that refuses nothing
none_by : (octets : List ℕ) (turn : ℕ) (step rest : Result (Unit {0}) Refusal) (many : ℕ) → Refuses octets turn step
    → (rest ≡ Ok tt → (q : Refusal) → suc turn ≤ turn_of q → turn_of q < suc turn + many → Applies q octets → ⊥)
    → checked_then step rest ≡ Ok tt → (q : Refusal) → turn ≤ turn_of q → turn_of q < turn + suc many → Applies q octets → ⊥
none_by octets turn (Err p) rest many is others e q from until applies = absurd cc
none_by octets turn (Ok x) rest many is others e q from until applies =
    elim (cases_lt turn (turn_of q)) [
      | inl later ↦ others e q (omega (arith, later)) (omega (arith, until)) applies
      | inr now ↦ ok_not x q (is.fails q (omega (arith, now, from)) applies)
    ]

none_applies : (octets : List ℕ) (turn : ℕ) (steps : List (Result (Unit {0}) Refusal)) → AllRefuse octets turn steps → first_of steps ≡ Ok tt
    → (q : Refusal) → turn ≤ turn_of q → turn_of q < turn + length steps → Applies q octets → ⊥
none_applies octets turn [] all e q from until applies = absurd (omega (arith, from, until))
none_applies octets turn (step ∷ steps) all e q from until applies =
    none_by octets turn step (first_of steps) (length steps) all.0 (λ f p later before a. none_applies octets (suc turn) steps all.1 f p later before a) e q from until applies

-- of one turn at most one applies
same_err : (step : Result (Unit {0}) Refusal) (p q : Refusal) → step ≡ Err p → step ≡ Err q → p ≡ q
same_err step p q e f = cc

one_applies : (octets : List ℕ) (turn : ℕ) (steps : List (Result (Unit {0}) Refusal)) → AllRefuse octets turn steps
    → (p q : Refusal) → turn ≤ turn_of p → turn_of p < turn + length steps → turn_of p ≡ turn_of q → Applies p octets → Applies q octets → p ≡ q
one_applies octets turn [] all p q from until same a b = absurd (omega (arith, from, until))
one_applies octets turn (step ∷ steps) all p q from until same a b =
    elim (cases_lt turn (turn_of p)) [
      | inl later ↦ one_applies octets (suc turn) steps all.1 p q (omega (arith, later)) (omega (arith, until)) same a b
      | inr now ↦ same_err step p q (all.0.fails p (omega (arith, now, from)) a) (all.0.fails q (omega (arith, now, from, same)) b)
    ]

eleven : (r : Refusal) → turn_of r < 11
eleven (Short len) = omega arith
eleven (Version v) = omega arith
eleven (BadType t) = omega arith
eleven (HeaderLength words least) = omega arith
eleven (PastEnd words len) = omega arith
eleven (FecId id) = omega arith
eleven (SubType s) = omega arith
eleven (Ext at) = omega arith
eleven (RequestForm at) = omega arith
eleven (RequestLength at) = omega arith
eleven (ItemFec at id) = omega arith
eleven BadNode = omega arith
eleven (BadList rest) = omega arith

pub refused_first : (octets : List ℕ) (steps : List (Result (Unit {0}) Refusal)) → AllRefuse octets 0 steps → (r : Refusal) → first_of steps ≡ Err r → IsFirst r octets
refused_first octets steps all r e =
    let f = first_is octets 0 steps all r e in
    record { applies = f.applies; none = λ q before a. f.none q (omega arith) before a }

-- which of two is the first
same_first : (octets : List ℕ) (steps : List (Result (Unit {0}) Refusal)) → AllRefuse octets 0 steps → length steps ≡ 11 → (p q : Refusal) → IsFirst p octets → IsFirst q octets → p ≡ q
same_first octets steps all many p q a b =
    elim (cases_lt (turn_of p) (turn_of q)) [
      | inl before ↦ absurd (b.none p before a.applies)
      | inr from ↦ elim (cases_lt (turn_of q) (turn_of p)) [
        | inl before ↦ absurd (a.none q before b.applies)
        | inr to ↦ one_applies octets 0 steps all p q (omega arith) (let h = eleven p in omega (arith, h, many)) (omega (arith, from, to)) a.applies b.applies
      ]
    ]

by_outcome : (octets : List ℕ) (steps : List (Result (Unit {0}) Refusal)) → AllRefuse octets 0 steps → length steps ≡ 11 → (r : Refusal) → IsFirst r octets
    → (x : Result (Unit {0}) Refusal) → first_of steps ≡ x → first_of steps ≡ Err r
by_outcome octets steps all many r is (Ok u) e = absurd (none_applies octets 0 steps all e r (omega arith) (let h = eleven r in omega (arith, h, many)) is.applies)
by_outcome octets steps all many r is (Err q) e = e ∙ ap (λ (x : Refusal). Err x) (same_first octets steps all many q r (refused_first octets steps all q e) is)

pub first_refused : (octets : List ℕ) (steps : List (Result (Unit {0}) Refusal)) → AllRefuse octets 0 steps → length steps ≡ 11 → (r : Refusal) → IsFirst r octets → first_of steps ≡ Err r
first_refused octets steps all many r is = by_outcome octets steps all many r is (first_of steps) refl

pub none_refused : (octets : List ℕ) (steps : List (Result (Unit {0}) Refusal)) → AllRefuse octets 0 steps → length steps ≡ 11 → first_of steps ≡ Ok tt → (r : Refusal) → Applies r octets → ⊥
none_refused octets steps all many e r applies = none_applies octets 0 steps all e r (omega arith) (let h = eleven r in omega (arith, h, many)) applies
