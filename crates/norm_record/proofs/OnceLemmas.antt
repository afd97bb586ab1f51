-- Each hand-up is kept once.
use Rattle.std.proofs.Common.{◌≡◌, ℕ, zero, suc, ◌<◌, List, [], ◌∷◌, ◌++◌, length, get_or, nat_eq, Bool, true, false, Some, refl, sym, subst, ap, ◌∙◌, ⊎_elim, arith}
use Rattle.std.specs.Prelude.{slice_get, slice_index, map, Contains, ◌||◌}
use Rattle.std.specs.List.{list_any, IsDistinct}
use Rattle.std.specs.Set.{is_member}
use Rattle.std.specs.Cmp.{nat_eq_equiv}
use Rattle.std.proofs.lemmas.List.{append-nil, map-append, length-map}
use Rattle.std.proofs.lemmas.List.Concat.{flat_map-append}
use Rattle.std.proofs.lemmas.List.Elements.{Contains-get_or, Contains-append_left, Contains-push, Contains-push_cases}
use Rattle.std.proofs.lemmas.List.Folds.{list_any-append}
use Rattle.std.proofs.lemmas.Map.Keys.{IsDistinct-push, any_passes_from_place}
use Rattle.std.proofs.lemmas.Option.{slice_get-map, slice_get-get_or, slice_get_within, same_Some}
use Rattle.std.specs.Option.{option_map}
use Rattle.std.proofs.lemmas.Bool.{cases_eq, eqb-true, eq-eqb}
use Rattle.norm_order.specs.declared.up.Up.{Up}
use Rattle.norm_journal.specs.declared.event.Event.{Event}
use Rattle.norm_record.specs.declared.ups.HandUp.{HandUp}
use Rattle.norm_record.specs.Events.{up_event}
use Rattle.norm_record.specs.HandUps.{up_name, kept_name, kept_names, IsLatestUp}
use Rattle.norm_record.specs.Latest.{IsLast}
use Rattle.norm_record.specs.Once.{up_in, ups_in, names_in, UpsAgree, UpsKept}

-- a hand-up of a pair
abbrev hand_up : ℕ × Up → HandUp
hand_up u = record { instance = u.0; up = u.1 }

-- an event that hands nothing up
pub other_event : (ups : List HandUp) (es : List Event) (e : Event) → up_in e ≡ [] → UpsKept ups es → UpsKept ups (es ++ e ∷ [])
other_event ups es e none kept = record {
  of = λ h there. subst (λ xs. Contains xs (h.instance, h.up)) (sym same) (kept.of h there);
  named = λ q. kept.named q ∙ ap (λ xs. is_member nat_eq (map (λ (u : ℕ × Up). up_name u.0 u.1) xs) q) (sym same);
  once = λ agree. kept.once (λ a b one other. agree a b (subst (λ xs. Contains xs a) (sym same) one) (subst (λ xs. Contains xs b) (sym same) other));
}
  where
    same : ups_in (es ++ e ∷ []) ≡ ups_in es
    same = flat_map-append up_in es (e ∷ []) ∙ ap (λ xs. ups_in es ++ (xs ++ [])) none ∙ append-nil (ups_in es)

-- one hand-up more
one_up : (es : List Event) (node : ℕ) (h : HandUp) → ups_in (es ++ up_event node h ∷ []) ≡ ups_in es ++ (h.instance, h.up) ∷ []
one_up es node h = flat_map-append up_in es (up_event node h ∷ [])

one_name : (es : List Event) (node : ℕ) (h : HandUp) → names_in (es ++ up_event node h ∷ []) ≡ names_in es ++ kept_name h ∷ []
one_name es node h =
    ap (map (λ (u : ℕ × Up). up_name u.0 u.1)) (one_up es node h)
    ∙ map-append (λ (u : ℕ × Up). up_name u.0 u.1) (ups_in es) ((h.instance, h.up) ∷ [])

-- what agrees with more agrees
agreed : (es : List Event) (node : ℕ) (h : HandUp) → UpsAgree (es ++ up_event node h ∷ []) → UpsAgree es
agreed es node h agree a b one other = agree a b (more a one) (more b other)
  where
    more : (x : ℕ × Up) → Contains (ups_in es) x → Contains (ups_in (es ++ up_event node h ∷ [])) x
    more x there = subst (λ xs. Contains xs x) (sym (one_up es node h)) (Contains-append_left (ups_in es) ((h.instance, h.up) ∷ []) x there)

earlier_still : (es : List Event) (node : ℕ) (h : HandUp) (x : ℕ × Up) → Contains (ups_in es) x → Contains (ups_in (es ++ up_event node h ∷ [])) x
earlier_still es node h x there = subst (λ xs. Contains xs x) (sym (one_up es node h)) (Contains-append_left (ups_in es) ((h.instance, h.up) ∷ []) x there)

or_false : (a b : Bool) → b ≡ false → a ≡ (a || b)
or_false true b e = refl
or_false false b e = sym e

or_true : (a b : Bool) → a ≡ true → a ≡ (a || b)
or_true true b e = refl
or_true false b e = absurd (cc)

differs : (q n : ℕ) → (q ≡ n → ⊥) → list_any (nat_eq q) (n ∷ []) ≡ false
differs q n ne = go (nat_eq q n) refl
  where
    go : (b : Bool) → nat_eq q n ≡ b → (b || false) ≡ false
    go true is = absurd (ne (eqb-true q n is))
    go false is = refl

-- a hand-up that is kept already
pub same_up : (ups : List HandUp) (es : List Event) (node : ℕ) (h : HandUp) (at : ℕ) → slice_get ups at ≡ Some h → UpsKept ups es
    → UpsKept ups (es ++ up_event node h ∷ [])
same_up ups es node h at there kept = record {
  of = λ x in_ups. earlier_still es node h (x.instance, x.up) (kept.of x in_ups);
  named = λ q. kept.named q ∙ one_more q ∙ ap (λ names. is_member nat_eq names q) (sym (one_name es node h));
  once = λ agree. kept.once (agreed es node h agree);
}
  where
    place : slice_get (kept_names ups) at ≡ Some (kept_name h)
    place = slice_get-map kept_name ups at ∙ ap (option_map kept_name) there

    is_there : (q : ℕ) → q ≡ kept_name h → is_member nat_eq (names_in es) q ≡ true
    is_there q e = sym (kept.named q) ∙ any_passes_from_place (nat_eq q) (kept_names ups) at (kept_name h) place (eq-eqb q (kept_name h) e)

    one_more : (q : ℕ) → is_member nat_eq (names_in es) q ≡ is_member nat_eq (names_in es ++ kept_name h ∷ []) q
    one_more q =
        ⊎_elim
        (λ e. or_true (is_member nat_eq (names_in es) q) (list_any (nat_eq q) (kept_name h ∷ [])) (is_there q e))
        (λ ne. or_false (is_member nat_eq (names_in es) q) (list_any (nat_eq q) (kept_name h ∷ [])) (differs q (kept_name h) ne))
        (cases_eq q (kept_name h))
        ∙ sym (list_any-append (nat_eq q) (names_in es) (kept_name h ∷ []))

-- a name has a last place
record LastPlace (names : List ℕ) (name : ℕ) : Type 0 where
  at : ℕ
  is : IsLast names name at

not_there : (names : List ℕ) (name : ℕ) → is_member nat_eq names name ≡ false → (at : ℕ) → at < length names → slice_index names at ≡ name → ⊥
not_there names name none at lt e =
    let t = any_passes_from_place (nat_eq name) names at (slice_index names at) (slice_get-get_or names at 0 lt) (eq-eqb name (slice_index names at) (sym e)) in
    absurd (cc)

last_place : (names : List ℕ) (name : ℕ) → is_member nat_eq names name ≡ true → LastPlace names name
last_place [] name e = absurd (cc)
last_place (x ∷ xs) name e = go (is_member nat_eq xs name) refl (λ there. last_place xs name there)
  where
    here : (b c : Bool) → (b || c) ≡ true → c ≡ false → b ≡ true
    here true c s f = refl
    here false c s f = absurd (cc)

    go : (b : Bool) → is_member nat_eq xs name ≡ b → (is_member nat_eq xs name ≡ true → LastPlace xs name) → LastPlace (x ∷ xs) name
    go true there rest = let r = rest there in record {
      at = suc r.at;
      is = record { has = r.is.has; last = later_on r.at r.is.last };
    }
      where
        later_on : (at : ℕ) → ((later : ℕ) → at < later → later < length xs → slice_index xs later ≡ name → ⊥)
            → (later : ℕ) → suc at < later → later < length (x ∷ xs) → slice_index (x ∷ xs) later ≡ name → ⊥
        later_on at last zero behind within = absurd (omega (arith, behind))
        later_on at last (suc n) behind within = last n (omega (arith, behind)) (omega (arith, within))
    go false none rest = record {
      at = 0;
      is = record { has = ap Some (sym (eqb-true name x (here (nat_eq name x) (is_member nat_eq xs name) e none))); last = nowhere };
    }
      where
        nowhere : (later : ℕ) → 0 < later → later < length (x ∷ xs) → slice_index (x ∷ xs) later ≡ name → ⊥
        nowhere zero behind within = absurd (omega (arith, behind))
        nowhere (suc n) behind within = not_there xs name none n (omega (arith, within))

-- a hand-up that is new
pub new_up : (ups : List HandUp) (es : List Event) (node : ℕ) (h : HandUp) → ((at : ℕ) → IsLatestUp ups h at → ⊥) → UpsKept ups es
    → UpsKept (ups ++ h ∷ []) (es ++ up_event node h ∷ [])
new_up ups es node h never kept = record {
  of = λ x in_ups. ⊎_elim
      (λ before. earlier_still es node h (x.instance, x.up) (kept.of x before))
      (λ (e : h ≡ x). subst (λ y. Contains (ups_in (es ++ up_event node h ∷ [])) (y.instance, y.up)) e now)
      (Contains-push_cases ups h x in_ups);
  named = λ q.
      ap (λ names. is_member nat_eq names q) names
      ∙ list_any-append (nat_eq q) (kept_names ups) (kept_name h ∷ [])
      ∙ ap (λ b. b || list_any (nat_eq q) (kept_name h ∷ [])) (kept.named q)
      ∙ sym (list_any-append (nat_eq q) (names_in es) (kept_name h ∷ []))
      ∙ ap (λ names. is_member nat_eq names q) (sym (one_name es node h));
  once = λ agree. subst (IsDistinct nat_eq) (sym names)
      (IsDistinct-push nat_eq_equiv (kept_names ups) (kept_name h) (kept.once (agreed es node h agree)) (fresh agree (is_member nat_eq (kept_names ups) (kept_name h)) refl));
}
  where
    names : kept_names (ups ++ h ∷ []) ≡ kept_names ups ++ kept_name h ∷ []
    names = map-append kept_name ups (h ∷ [])

    now : Contains (ups_in (es ++ up_event node h ∷ [])) (h.instance, h.up)
    now = subst (λ xs. Contains xs (h.instance, h.up)) (sym (one_up es node h)) (Contains-push (ups_in es) (h.instance, h.up))

    met : UpsAgree (es ++ up_event node h ∷ []) → LastPlace (kept_names ups) (kept_name h) → ⊥
    met agree p =
        let lt : p.at < length ups = let l = slice_get_within (kept_names ups) p.at (kept_name h) p.is.has in let m = length-map ups kept_name in omega (arith, l, m) in
        let there = slice_get-get_or ups p.at h lt in
        let named : kept_name (get_or ups p.at h) ≡ kept_name h
        = same_Some (kept_name (get_or ups p.at h)) (kept_name h) (sym (ap (option_map kept_name) there) ∙ sym (slice_get-map kept_name ups p.at) ∙ p.is.has) in
        let pair = agree ((get_or ups p.at h).instance, (get_or ups p.at h).up) (h.instance, h.up)
        (earlier_still es node h ((get_or ups p.at h).instance, (get_or ups p.at h).up) (kept.of (get_or ups p.at h) (Contains-get_or ups p.at h lt))) now named in
        never p.at (record { is = there ∙ ap (λ (u : ℕ × Up). Some (hand_up u)) pair; last = p.is })

    fresh : UpsAgree (es ++ up_event node h ∷ []) → (b : Bool) → is_member nat_eq (kept_names ups) (kept_name h) ≡ b → is_member nat_eq (kept_names ups) (kept_name h) ≡ false
    fresh agree true is = absurd (met agree (last_place (kept_names ups) (kept_name h) is))
    fresh agree false is = is

-- nothing was handed up
pub no_ups : UpsKept [] []
unfolding IsDistinct
no_ups = record {
  of = λ h there. absurd (omega (arith, there.1));
  named = λ q. refl;
  once = λ agree. tt;
}
