-- Members of rising lists of wants.
use Rattle.std.proofs.Common.{◌≡◌, ℕ, suc, ◌+◌, ◌<◌, ◌⊎◌, inl, inr, List, [], ◌∷◌, map, length, Bool, true, false, refl, sym, ap, subst, ◌∙◌, arith}
use Rattle.std.specs.Prelude.{not}
use Rattle.norm_order.specs.Sets.{with_member, with_members, is_member}
use Rattle.norm_send_rules.specs.Laws.{Rise}
use Rattle.norm_send_rules.specs.Wants.{want_before}
use Rattle.norm_send_rules.specs.declared.want.Want.{Want}
use Rattle.norm_send_rules.proofs.ClosingLemmas.{Each}
use Rattle.nack_union.specs.Slots.{want_at}
use Rattle.nack_union.specs.Kept.{Marked, listed}
use Rattle.nack_union.proofs.Dropped.{front}
use Rattle.nack_union.proofs.Lists.{In, in_either}
use Rattle.nack_union.proofs.Sources.{in_map}
use Rattle.nack_union.proofs.Unions.{Side, side, put_last, in_front, further, there, alone, not_itself}

-- a set has what was put in
in_one : (w x : Want) (ws : List Want) → In w (with_member want_before x ws) → (w ≡ x) ⊎ In w ws
in_one w x [] here = subst (In w) (alone x) here
in_one w x (y ∷ ws) here = go (side x y) (in_one w x ws)
  where
    late : ((w ≡ y) ⊎ In w (with_member want_before x ws)) → (In w (with_member want_before x ws) → (w ≡ x) ⊎ In w ws) → (w ≡ x) ⊎ ((w ≡ y) ⊎ In w ws)
    late (inl same) rest = inr (inl same)
    late (inr more) rest = elim (rest more) [ inl same ↦ inl same | inr old ↦ inr (inr old) ]

    go : Side x y → (In w (with_member want_before x ws) → (w ≡ x) ⊎ In w ws) → (w ≡ x) ⊎ ((w ≡ y) ⊎ In w ws)
    go (inl h) rest = subst (In w) (in_front x y ws h.0) here
    go (inr (inl same)) rest = inr (subst (In w) (ap (λ v. with_member want_before v (y ∷ ws)) same ∙ there y ws) here)
    go (inr (inr h)) rest = late (subst (In w) (further x y ws h.0 h.1) here) rest

one_in : (w x : Want) (ws : List Want) → (w ≡ x) ⊎ In w ws → In w (with_member want_before x ws)
one_in w x [] h = subst (In w) (sym (alone x)) h
one_in w x (y ∷ ws) h = go (side x y) (one_in w x ws)
  where
    late : (w ≡ x) ⊎ ((w ≡ y) ⊎ In w ws) → ((w ≡ x) ⊎ In w ws → In w (with_member want_before x ws)) → (w ≡ y) ⊎ In w (with_member want_before x ws)
    late (inl same) rest = inr (rest (inl same))
    late (inr (inl same)) rest = inl same
    late (inr (inr old)) rest = inr (rest (inr old))

    own : x ≡ y → (w ≡ x) ⊎ ((w ≡ y) ⊎ In w ws) → (w ≡ y) ⊎ In w ws
    own same (inl mine) = inl (mine ∙ same)
    own same (inr old) = old

    go : Side x y → ((w ≡ x) ⊎ In w ws → In w (with_member want_before x ws)) → In w (with_member want_before x (y ∷ ws))
    go (inl k) rest = subst (In w) (sym (in_front x y ws k.0)) h
    go (inr (inl same)) rest = subst (In w) (sym (ap (λ v. with_member want_before v (y ∷ ws)) same ∙ there y ws)) (own same h)
    go (inr (inr k)) rest = subst (In w) (sym (further x y ws k.0 k.1)) (late h rest)

pub in_set : (w : Want) (xs ws : List Want) → In w (with_members want_before xs ws) → In w xs ⊎ In w ws
in_set w [] ws here = inr here
in_set w (x ∷ xs) ws here = go (in_set w xs (with_member want_before x ws) here) (in_one w x ws)
  where
    go : In w xs ⊎ In w (with_member want_before x ws) → (In w (with_member want_before x ws) → (w ≡ x) ⊎ In w ws) → ((w ≡ x) ⊎ In w xs) ⊎ In w ws
    go (inl l) one = inl (inr l)
    go (inr r) one = elim (one r) [ inl same ↦ inl (inl same) | inr old ↦ inr old ]

pub set_in : (w : Want) (xs ws : List Want) → In w xs ⊎ In w ws → In w (with_members want_before xs ws)
set_in w [] ws (inl l) = absurd l
set_in w [] ws (inr r) = r
set_in w (x ∷ xs) ws (inl (inl same)) = set_in w xs (with_member want_before x ws) (inr (one_in w x ws (inl same)))
set_in w (x ∷ xs) ws (inl (inr later)) = set_in w xs (with_member want_before x ws) (inl later)
set_in w (x ∷ xs) ws (inr r) = set_in w xs (with_member want_before x ws) (inr (one_in w x ws (inr r)))

-- a rising list is its own set
pub rising_self : (ws : List Want) → Rise ws → with_members want_before ws [] ≡ ws
rising_self [] rise = refl
rising_self (w ∷ ws) rise = put_last ws w [] ∙ ap (with_member want_before w) (rising_self ws rise.1) ∙ front w ws rise.0

-- what is found stands in the list
pub found_in : (w : Want) (ws : List Want) → is_member want_before w ws ≡ true → In w ws
unfolding is_member
found_in w [] e = absurd (cc)
found_in w (y ∷ ws) e = go (side y w) (want_before y w) (want_before w y) refl refl e (found_in w ws)
  where
    go : Side y w → (b c : Bool) → want_before y w ≡ b → want_before w y ≡ c → elim b as (λ _. Bool) [ true ↦ is_member want_before w ws | false ↦ not c ] ≡ true
        → (is_member want_before w ws ≡ true → In w ws) → (w ≡ y) ⊎ In w ws
    go s true c f g is later = inr (later is)
    go s false true f g is later = absurd (cc)
    go (inl h) false false f g is later = let k = h.0 in absurd (cc)
    go (inr (inl same)) false false f g is later = inl (sym same)
    go (inr (inr h)) false false f g is later = let k = h.1 in absurd (cc)

before_each : (v w : Want) (ws : List Want) → Each (want_before v) ws → In w ws → want_before v w ≡ true
before_each v w [] all here = absurd here
before_each v w (y ∷ ws) all (inl same) = ap (want_before v) same ∙ all.0
before_each v w (y ∷ ws) all (inr later) = before_each v w ws all.1 later

-- and what stands in a rising list is found
pub is_found : (w : Want) (ws : List Want) → Rise ws → In w ws → is_member want_before w ws ≡ true
unfolding is_member
is_found w [] rise here = absurd here
is_found w (y ∷ ws) rise (inl same) =
    go (want_before y w) (want_before w y) (ap (want_before y) same ∙ not_itself y) (ap (λ v. want_before v y) same ∙ not_itself y)
  where
    go : (b c : Bool) → b ≡ false → c ≡ false → elim b as (λ _. Bool) [ true ↦ is_member want_before w ws | false ↦ not c ] ≡ true
    go true c e f = absurd (cc)
    go false true e f = absurd (cc)
    go false false e f = refl
is_found w (y ∷ ws) rise (inr later) = go (want_before y w) (before_each y w ws rise.0 later) (is_found w ws rise.1 later)
  where
    go : (b : Bool) → b ≡ true → is_member want_before w ws ≡ true → elim b as (λ _. Bool) [ true ↦ is_member want_before w ws | false ↦ not (want_before w y) ] ≡ true
    go true e rest = rest
    go false e rest = absurd (cc)

-- what is listed of objects stands at a slot of one
pub in_listed : (slots : Marked → List ℕ) (index : ℕ) (ms : List Marked) (w : Want) → In w (listed slots index ms)
    → (k : ℕ) × (a : ℕ) × (k < length ms) × (w ≡ want_at (index + k) a)
in_listed slots index [] w here = absurd here
in_listed slots index (m ∷ ms) w here = go (in_either w (map (want_at index) (slots m)) (listed slots (suc index) ms) here) (in_listed slots (suc index) ms w)
  where
    go : In w (map (want_at index) (slots m)) ⊎ In w (listed slots (suc index) ms)
        → (In w (listed slots (suc index) ms) → (k : ℕ) × (a : ℕ) × (k < length ms) × (w ≡ want_at (suc index + k) a))
        → (k : ℕ) × (a : ℕ) × (k < suc (length ms)) × (w ≡ want_at (index + k) a)
    go (inl l) later = let found = in_map (want_at index) w (slots m) l in (0, found.0, omega arith, found.2 ∙ ap (λ i. want_at i found.0) (let e : index ≡ index + 0 = omega arith in e))
    go (inr r) later =
        let found = later r in
        let lt = found.2 in
        (suc found.0, found.1, omega (arith, lt), found.3 ∙ ap (λ i. want_at i found.1) (let e : suc index + found.0 ≡ index + suc found.0 = omega arith in e))
