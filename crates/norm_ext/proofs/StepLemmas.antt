-- Each step of a reading refuses exactly with the refusals of its turn that apply.
use Rattle.std.proofs.Common.{◌≡◌, ◌≢◌, ℕ, ◌*◌, ◌/◌, inl, inr, eqb, ltb, not, Bool, true, false, List, length, Option, Some, None, Result, Err, refl, sym, ap, subst, ◌∙◌, arith, ne_eqb, lt-ltb}
use Rattle.std.proofs.lemmas.Bool.{cases_lt, ltb-true, eqb-false}
use Rattle.norm_ext.specs.Steps.{refused_if}
use Rattle.norm_ext.specs.Numbers.{octet, type_of, sub_type_of, sub_type_number}
use Rattle.norm_ext.specs.Reading.{words_of, type_in, encoding_checked}
use Rattle.norm_ext.specs.Layouts.{layout_of}
use Rattle.norm_ext.specs.Applies.{Applies, turn_of, IsOutside}
use Rattle.norm_ext.specs.declared.kinds.MessageType.{MessageType}
use Rattle.norm_ext.specs.declared.kinds.MessageType.TheVariants as types
use Rattle.norm_ext.specs.declared.kinds.SubType.{SubType as CommandType}
use Rattle.norm_ext.specs.declared.kinds.SubType.TheVariants as commands
use Rattle.norm_ext.specs.declared.refusal.Refusal.{Refusal}
use Rattle.norm_ext.specs.declared.refusal.Refusal.TheVariants.{Short, Version, BadType, HeaderLength, PastEnd, FecId, SubType}
use Rattle.norm_ext.proofs.RequestLemmas.{chosen}
use Rattle.norm_ext.proofs.TurnLemmas.{Refuses}
use Rattle.norm_ext.proofs.ReadIsSpelled.{sub_type_is}
use Rattle.norm_ext.proofs.ReadingSteps.{where_so, short_step, version_step, type_step, least_step, past_step, named_step, sub_type_step, type_is}

-- ---- tests

pub refused_is : (b : Bool) (p q : Refusal) → refused_if b p ≡ Err q → (b ≡ true) × (p ≡ q)
refused_is true p q e = (refl, cc)
refused_is false p q e = absurd cc

pub refuses : (b : Bool) (p : Refusal) → b ≡ true → refused_if b p ≡ Err p
refuses true p e = refl
refuses false p e = absurd cc

pub not_true : (b : Bool) → not b ≡ true → b ≡ false
not_true true e = absurd cc
not_true false e = refl

pub so_true : (b : Bool) → b ≡ false → not b ≡ true
so_true true e = absurd cc
so_true false e = refl

pub where_is : (b : Bool) (step : Result (Unit {0}) Refusal) (r : Refusal) → where_so b step ≡ Err r → (b ≡ true) × (step ≡ Err r)
where_is true step r e = (refl, e)
where_is false step r e = absurd cc

pub where_there : (b : Bool) (step : Result (Unit {0}) Refusal) (r : Refusal) → b ≡ true → step ≡ Err r → where_so b step ≡ Err r
where_there true step r is e = e
where_there false step r is e = absurd cc

pub different : (n k : ℕ) → (n ≡ k → ⊥) → not (eqb n k) ≡ true
different n k apart = so_true (eqb n k) (ne_eqb n k apart)

pub differs : (n k : ℕ) → not (eqb n k) ≡ true → n ≢ k
differs n k e = eqb-false n k (not_true (eqb n k) e)

-- ---- the header's length

short_fails : (octets : List ℕ) (r : Refusal) → turn_of r ≡ 0 → Applies r octets → short_step octets ≡ Err r
short_fails octets (Short len) turn a =
    refuses (ltb (length octets) 8) (Short (length octets)) (lt-ltb (length octets) 8 (omega (arith, a.0, a.1))) ∙ ap (λ (n : ℕ). Err (Short n)) (sym a.0)
short_fails octets _ turn a = absurd (omega (arith, turn))

pub short_refuses : (octets : List ℕ) → Refuses octets 0 (short_step octets)
short_refuses octets = record {
  found = λ r e.
      let t = refused_is (ltb (length octets) 8) (Short (length octets)) r e in
      subst (λ (x : Refusal). (turn_of x ≡ 0) × Applies x octets) t.1 (refl, (refl, ltb-true _ _ t.0));
  fails = λ r turn a. short_fails octets r turn a;
}

version_fails : (octets : List ℕ) (r : Refusal) → turn_of r ≡ 1 → Applies r octets → version_step octets ≡ Err r
version_fails octets (Version v) turn a =
    refuses (not (eqb (octet 0 octets / 16) 1)) (Version (octet 0 octets / 16)) (different (octet 0 octets / 16) 1 (λ e. a.1 (a.0 ∙ e))) ∙ ap (λ (n : ℕ). Err (Version n)) (sym a.0)
version_fails octets _ turn a = absurd (omega (arith, turn))

pub version_refuses : (octets : List ℕ) → Refuses octets 1 (version_step octets)
version_refuses octets = record {
  found = λ r e.
      let t = refused_is (not (eqb (octet 0 octets / 16) 1)) (Version (octet 0 octets / 16)) r e in
      subst (λ (x : Refusal). (turn_of x ≡ 1) × Applies x octets) t.1 (refl, (refl, differs (octet 0 octets / 16) 1 t.0));
  fails = λ r turn a. version_fails octets r turn a;
}

outside_type : (n : ℕ) → type_of n ≡ None → IsOutside 1 6 n
outside_type n e =
    elim (chosen (eqb n 1) (Some types.Info) _ None e) [
      | inl w ↦ absurd (let no : Some types.Info ≡ None = w.1 in cc)
      | inr v1 ↦ elim (chosen (eqb n 2) (Some types.Data) _ None v1.1) [
        | inl w ↦ absurd (let no : Some types.Data ≡ None = w.1 in cc)
        | inr v2 ↦ elim (chosen (eqb n 3) (Some types.Command) _ None v2.1) [
          | inl w ↦ absurd (let no : Some types.Command ≡ None = w.1 in cc)
          | inr v3 ↦ elim (chosen (eqb n 4) (Some types.Nack) _ None v3.1) [
            | inl w ↦ absurd (let no : Some types.Nack ≡ None = w.1 in cc)
            | inr v4 ↦ elim (chosen (eqb n 5) (Some types.Ack) _ None v4.1) [
              | inl w ↦ absurd (let no : Some types.Ack ≡ None = w.1 in cc)
              | inr v5 ↦ elim (chosen (eqb n 6) (Some types.Report) _ None v5.1) [
                | inl w ↦ absurd (let no : Some types.Report ≡ None = w.1 in cc)
                | inr v6 ↦ elim (cases_lt n 1) [
                  | inl low ↦ inl low
                  | inr high ↦ inr (omega (arith, high, eqb-false n 1 v1.0, eqb-false n 2 v2.0, eqb-false n 3 v3.0, eqb-false n 4 v4.0, eqb-false n 5 v5.0, eqb-false n 6 v6.0))
                ]
              ]
            ]
          ]
        ]
      ]
    ]

outside_sub_type : (n : ℕ) → sub_type_of n ≡ None → IsOutside 1 7 n
outside_sub_type n e =
    elim (chosen (eqb n 1) (Some commands.Flush) _ None e) [
      | inl w ↦ absurd (let no : Some commands.Flush ≡ None = w.1 in cc)
      | inr v1 ↦ elim (chosen (eqb n 2) (Some commands.EndOfTransmission) _ None v1.1) [
        | inl w ↦ absurd (let no : Some commands.EndOfTransmission ≡ None = w.1 in cc)
        | inr v2 ↦ elim (chosen (eqb n 3) (Some commands.Squelch) _ None v2.1) [
          | inl w ↦ absurd (let no : Some commands.Squelch ≡ None = w.1 in cc)
          | inr v3 ↦ elim (chosen (eqb n 4) (Some commands.CongestionControl) _ None v3.1) [
            | inl w ↦ absurd (let no : Some commands.CongestionControl ≡ None = w.1 in cc)
            | inr v4 ↦ elim (chosen (eqb n 5) (Some commands.RepairAdvertisement) _ None v4.1) [
              | inl w ↦ absurd (let no : Some commands.RepairAdvertisement ≡ None = w.1 in cc)
              | inr v5 ↦ elim (chosen (eqb n 6) (Some commands.AckRequest) _ None v5.1) [
                | inl w ↦ absurd (let no : Some commands.AckRequest ≡ None = w.1 in cc)
                | inr v6 ↦ elim (chosen (eqb n 7) (Some commands.Application) _ None v6.1) [
                  | inl w ↦ absurd (let no : Some commands.Application ≡ None = w.1 in cc)
                  | inr v7 ↦ elim (cases_lt n 1) [
                    | inl low ↦ inl low
                    | inr high ↦ inr (omega (arith, high, eqb-false n 1 v1.0, eqb-false n 2 v2.0, eqb-false n 3 v3.0, eqb-false n 4 v4.0, eqb-false n 5 v5.0, eqb-false n 6 v6.0, eqb-false n 7 v7.0))
                  ]
                ]
              ]
            ]
          ]
        ]
      ]
    ]

-- the numbers of types and of sub-types lie within
within_type : (kind : MessageType) (n : ℕ) → type_of n ≡ Some kind → IsOutside 1 6 n → ⊥
within_type types.Info n e out = let is = type_is n types.Info e in elim out [ inl low ↦ omega arith | inr high ↦ omega arith ]
within_type types.Data n e out = let is = type_is n types.Data e in elim out [ inl low ↦ omega arith | inr high ↦ omega arith ]
within_type types.Command n e out = let is = type_is n types.Command e in elim out [ inl low ↦ omega arith | inr high ↦ omega arith ]
within_type types.Nack n e out = let is = type_is n types.Nack e in elim out [ inl low ↦ omega arith | inr high ↦ omega arith ]
within_type types.Ack n e out = let is = type_is n types.Ack e in elim out [ inl low ↦ omega arith | inr high ↦ omega arith ]
within_type types.Report n e out = let is = type_is n types.Report e in elim out [ inl low ↦ omega arith | inr high ↦ omega arith ]

within_sub_type : (s : CommandType) (n : ℕ) → sub_type_number s ≡ n → IsOutside 1 7 n → ⊥
within_sub_type commands.Flush n is out = elim out [ inl low ↦ omega arith | inr high ↦ omega arith ]
within_sub_type commands.EndOfTransmission n is out = elim out [ inl low ↦ omega arith | inr high ↦ omega arith ]
within_sub_type commands.Squelch n is out = elim out [ inl low ↦ omega arith | inr high ↦ omega arith ]
within_sub_type commands.CongestionControl n is out = elim out [ inl low ↦ omega arith | inr high ↦ omega arith ]
within_sub_type commands.RepairAdvertisement n is out = elim out [ inl low ↦ omega arith | inr high ↦ omega arith ]
within_sub_type commands.AckRequest n is out = elim out [ inl low ↦ omega arith | inr high ↦ omega arith ]
within_sub_type commands.Application n is out = elim out [ inl low ↦ omega arith | inr high ↦ omega arith ]

type_found : (k : Option MessageType) (octets : List ℕ) (r : Refusal) → type_of (type_in octets) ≡ k → type_step k (type_in octets) ≡ Err r → (turn_of r ≡ 2) × Applies r octets
type_found (Some kind) octets r is e = absurd cc
type_found None octets r is e =
    let same : BadType (type_in octets) ≡ r = cc in
    subst (λ (x : Refusal). (turn_of x ≡ 2) × Applies x octets) same (refl, (refl, outside_type (type_in octets) is))

type_fails : (k : Option MessageType) (octets : List ℕ) (r : Refusal) → type_of (type_in octets) ≡ k → turn_of r ≡ 2 → Applies r octets → type_step k (type_in octets) ≡ Err r
type_fails (Some kind) octets (BadType t) is turn a =
    absurd (within_type kind (type_in octets) is (subst (λ (n : ℕ). IsOutside 1 6 n) a.0 a.1))
type_fails None octets (BadType t) is turn a = ap (λ (n : ℕ). Err (BadType n)) (sym a.0)
type_fails k octets _ is turn a = absurd (omega (arith, turn))

pub type_refuses : (octets : List ℕ) → Refuses octets 2 (type_step (type_of (type_in octets)) (type_in octets))
type_refuses octets = record {
  found = λ r e. type_found (type_of (type_in octets)) octets r refl e;
  fails = λ r turn a. type_fails (type_of (type_in octets)) octets r refl turn a;
}

least_fails : (octets : List ℕ) (r : Refusal) → turn_of r ≡ 3 → Applies r octets → least_step (layout_of octets).least octets ≡ Err r
least_fails octets (HeaderLength words least) turn a =
    refuses (ltb (words_of octets) (layout_of octets).least) (HeaderLength (words_of octets) (layout_of octets).least)
    (lt-ltb (words_of octets) (layout_of octets).least (omega (arith, a.0, a.1, a.2)))
    ∙ ap (λ (n : ℕ). Err (HeaderLength n (layout_of octets).least)) (sym a.0)
    ∙ ap (λ (n : ℕ). Err (HeaderLength words n)) (sym a.1)
least_fails octets _ turn a = absurd (omega (arith, turn))

pub least_refuses : (octets : List ℕ) → Refuses octets 3 (least_step (layout_of octets).least octets)
least_refuses octets = record {
  found = λ r e.
      let t = refused_is (ltb (words_of octets) (layout_of octets).least) (HeaderLength (words_of octets) (layout_of octets).least) r e in
      subst (λ (x : Refusal). (turn_of x ≡ 3) × Applies x octets) t.1 (refl, (refl, refl, ltb-true _ _ t.0));
  fails = λ r turn a. least_fails octets r turn a;
}

past_fails : (octets : List ℕ) (r : Refusal) → turn_of r ≡ 4 → Applies r octets → past_step octets ≡ Err r
past_fails octets (PastEnd words len) turn a =
    refuses (ltb (length octets) (4 * words_of octets)) (PastEnd (words_of octets) (length octets))
    (lt-ltb (length octets) (4 * words_of octets) (omega (arith, a.0, a.1, a.2)))
    ∙ ap (λ (n : ℕ). Err (PastEnd n (length octets))) (sym a.0)
    ∙ ap (λ (n : ℕ). Err (PastEnd words n)) (sym a.1)
past_fails octets _ turn a = absurd (omega (arith, turn))

pub past_refuses : (octets : List ℕ) → Refuses octets 4 (past_step octets)
past_refuses octets = record {
  found = λ r e.
      let t = refused_is (ltb (length octets) (4 * words_of octets)) (PastEnd (words_of octets) (length octets)) r e in
      subst (λ (x : Refusal). (turn_of x ≡ 4) × Applies x octets) t.1 (refl, (refl, refl, ltb-true _ _ t.0));
  fails = λ r turn a. past_fails octets r turn a;
}

-- ---- the encoding and the sub-type

encoding_fails : (octets : List ℕ) (r : Refusal) → turn_of r ≡ 5 → Applies r octets → where_so (layout_of octets).encoded (encoding_checked (octet 13 octets)) ≡ Err r
encoding_fails octets (FecId id) turn a =
    where_there (layout_of octets).encoded (encoding_checked (octet 13 octets)) (FecId id) a.0
    (refuses (not (eqb (octet 13 octets) 5)) (FecId (octet 13 octets)) (different (octet 13 octets) 5 (λ e. a.2 (a.1 ∙ e))) ∙ ap (λ (n : ℕ). Err (FecId n)) (sym a.1))
encoding_fails octets _ turn a = absurd (omega (arith, turn))

pub encoding_refuses : (octets : List ℕ) → Refuses octets 5 (where_so (layout_of octets).encoded (encoding_checked (octet 13 octets)))
encoding_refuses octets = record {
  found = λ r e.
      let w = where_is (layout_of octets).encoded (encoding_checked (octet 13 octets)) r e in
      let t = refused_is (not (eqb (octet 13 octets) 5)) (FecId (octet 13 octets)) r w.1 in
      subst (λ (x : Refusal). (turn_of x ≡ 5) × Applies x octets) t.1 (refl, (w.0, refl, differs (octet 13 octets) 5 t.0));
  fails = λ r turn a. encoding_fails octets r turn a;
}

command_number : (octets : List ℕ) → type_of (type_in octets) ≡ Some types.Command → type_in octets ≡ 3
command_number octets is = sym (type_is (type_in octets) types.Command is)

named_found : (s : Option CommandType) (octets : List ℕ) (r : Refusal) → type_of (type_in octets) ≡ Some types.Command → sub_type_of (octet 12 octets) ≡ s
    → named_step s (octet 12 octets) ≡ Err r → (turn_of r ≡ 6) × Applies r octets
named_found (Some s) octets r is named e = absurd cc
named_found None octets r is named e =
    let same : SubType (octet 12 octets) ≡ r = cc in
    subst (λ (x : Refusal). (turn_of x ≡ 6) × Applies x octets) same (refl, (command_number octets is, refl, outside_sub_type (octet 12 octets) named))

sub_type_found : (k : Option MessageType) (octets : List ℕ) (r : Refusal) → type_of (type_in octets) ≡ k → sub_type_step k octets ≡ Err r → (turn_of r ≡ 6) × Applies r octets
sub_type_found (Some types.Command) octets r is e = named_found (sub_type_of (octet 12 octets)) octets r is refl e
sub_type_found (Some types.Info) octets r is e = absurd cc
sub_type_found (Some types.Data) octets r is e = absurd cc
sub_type_found (Some types.Nack) octets r is e = absurd cc
sub_type_found (Some types.Ack) octets r is e = absurd cc
sub_type_found (Some types.Report) octets r is e = absurd cc
sub_type_found None octets r is e = absurd cc

named_fails : (o : Option CommandType) (octets : List ℕ) (s : ℕ) → sub_type_of (octet 12 octets) ≡ o → s ≡ octet 12 octets → IsOutside 1 7 s → named_step o (octet 12 octets) ≡ Err (SubType s)
named_fails (Some t) octets s named is out =
    absurd (within_sub_type t (octet 12 octets) (sub_type_is (octet 12 octets) t named) (subst (λ (n : ℕ). IsOutside 1 7 n) is out))
named_fails None octets s named is out = ap (λ (n : ℕ). Err (SubType n)) (sym is)

sub_type_fails : (octets : List ℕ) (r : Refusal) → turn_of r ≡ 6 → Applies r octets → sub_type_step (type_of (type_in octets)) octets ≡ Err r
sub_type_fails octets (SubType s) turn a =
    ap (λ (k : Option MessageType). sub_type_step k octets) (ap type_of a.0)
    ∙ named_fails (sub_type_of (octet 12 octets)) octets s refl a.1 a.2
sub_type_fails octets _ turn a = absurd (omega (arith, turn))

pub sub_type_refuses : (octets : List ℕ) → Refuses octets 6 (sub_type_step (type_of (type_in octets)) octets)
sub_type_refuses octets = record {
  found = λ r e. sub_type_found (type_of (type_in octets)) octets r refl e;
  fails = λ r turn a. sub_type_fails octets r turn a;
}
