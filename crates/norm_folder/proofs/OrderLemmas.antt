-- Names in order: where a name is put, and that they rise.
use Rattle.std.proofs.Common.{◌≡◌, ◌∙◌, ℕ, ◌+◌, ◌≤◌, ◌<◌, Ordering, Less, Equal, Greater, List, [], ◌∷◌, ◌++◌, length, take, drop, get_or, true, refl, sym, ap, arith, append_assoc}
use Rattle.std.specs.Prelude.{fold}
use Rattle.std.specs.Cmp.Lexicographic.{slice_cmp}
use Rattle.std.specs.List.{AllByRecursion}
use Rattle.std.specs.Ordering.{is_lt, match_ordering, nat_cmp, ordering_reverse}
use Rattle.std.proofs.lemmas.Cmp.{nat_list_cmp_total}
use Rattle.std.proofs.lemmas.List.{drop_all, drop_more, map-append, take_more, take_all, take-append-drop}
use Rattle.std.proofs.lemmas.List.Sums.{fold-append}
use Rattle.norm_mirror.specs.Manifest.{name_before}
use Rattle.norm_script.specs.Words.{is_file_name}
use Rattle.norm_script.specs.declared.folder.Named.{Named}
use Rattle.norm_folder.specs.Entries.{put_name, in_order, names_of}

-- ---- where a name is put

-- how it goes on where the first of the rest is looked at
put_at : (x : List ℕ) (rest : List (List ℕ)) (name : List ℕ) (o : Ordering) → slice_cmp nat_cmp name x ≡ o
    → put_name (x ∷ rest) name ≡ match_ordering o (name ∷ x ∷ rest) (x ∷ rest) (x ∷ put_name rest name)
put_at x rest name o is = ap (λ r. match_ordering r (name ∷ x ∷ rest) (x ∷ rest) (x ∷ put_name rest name)) is

-- the name stands there
abbrev pub PutsAt : List (List ℕ) → ℕ → List ℕ → Type 0
PutsAt names i name = put_name names name ≡ take i names ++ put_name (drop i names) name

pub puts_less : (names : List (List ℕ)) (i : ℕ) (x name : List ℕ) → i < length names → x ≡ get_or names i x → PutsAt names i name
    → slice_cmp nat_cmp name x ≡ Less → put_name names name ≡ take i names ++ name ∷ drop i names
puts_less names i x name lt is at less =
    let here : drop i names ≡ x ∷ drop (i + 1) names = drop_more names i x lt ∙ ap (λ y. y ∷ drop (i + 1) names) (sym is) in
    at ∙ ap (λ l. take i names ++ put_name l name) here ∙ ap (λ l. take i names ++ l) (put_at x (drop (i + 1) names) name Less less)
    ∙ ap (λ l. take i names ++ name ∷ l) (sym here)

pub puts_equal : (names : List (List ℕ)) (i : ℕ) (x name : List ℕ) → i < length names → x ≡ get_or names i x → PutsAt names i name
    → slice_cmp nat_cmp name x ≡ Equal → put_name names name ≡ names
puts_equal names i x name lt is at equal =
    let here : drop i names ≡ x ∷ drop (i + 1) names = drop_more names i x lt ∙ ap (λ y. y ∷ drop (i + 1) names) (sym is) in
    at ∙ ap (λ l. take i names ++ put_name l name) here ∙ ap (λ l. take i names ++ l) (put_at x (drop (i + 1) names) name Equal equal)
    ∙ ap (λ l. take i names ++ l) (sym here) ∙ take-append-drop i names

pub puts_greater : (names : List (List ℕ)) (i : ℕ) (x name : List ℕ) → i < length names → x ≡ get_or names i x → PutsAt names i name
    → slice_cmp nat_cmp name x ≡ Greater → PutsAt names (i + 1) name
puts_greater names i x name lt is at greater =
    let here : drop i names ≡ x ∷ drop (i + 1) names = drop_more names i x lt ∙ ap (λ y. y ∷ drop (i + 1) names) (sym is) in
    let these : take (i + 1) names ≡ take i names ++ x ∷ [] = take_more names i x lt ∙ ap (λ y. take i names ++ y ∷ []) (sym is) in
    at ∙ ap (λ l. take i names ++ put_name l name) here ∙ ap (λ l. take i names ++ l) (put_at x (drop (i + 1) names) name Greater greater)
    ∙ sym (append_assoc (take i names) (x ∷ []) (put_name (drop (i + 1) names) name))
    ∙ ap (λ l. l ++ put_name (drop (i + 1) names) name) (sym these)

drop_end : (names : List (List ℕ)) (i : ℕ) → length names ≤ i → drop i names ≡ []
drop_end names i le = drop_all i names le

pub puts_last : (names : List (List ℕ)) (i : ℕ) (name : List ℕ) → length names ≤ i → PutsAt names i name
    → put_name names name ≡ take (length names) names ++ name ∷ drop (length names) names
puts_last names i name past at =
    at ∙ ap (λ l. take i names ++ put_name l name) (drop_end names i past)
    ∙ ap (λ l. l ++ name ∷ []) (take_all i names past ∙ sym (take_all (length names) names (omega arith)))
    ∙ ap (λ l. take (length names) names ++ name ∷ l) (sym (drop_end names (length names) (omega arith)))

-- ---- names rise

-- each name is above the one before
abbrev pub Rise : List ℕ → List (List ℕ) → Type 0
Rise last [] = Unit {0}
Rise last (x ∷ names) = (name_before last x ≡ true) × Rise x names

-- what the two comparisons of two names answer
turned : (a b : List ℕ) → slice_cmp nat_cmp a b ≡ Greater → name_before b a ≡ true
turned a b is = ap is_lt (nat_list_cmp_total.antisymm b a ∙ ap ordering_reverse is)

pub put_rises : (last : List ℕ) (names : List (List ℕ)) (name : List ℕ) → Rise last names → name_before last name ≡ true → Rise last (put_name names name)
put_rises last [] name rise above = (above, tt)
put_rises last (x ∷ names) name rise above = go (slice_cmp nat_cmp name x) refl (put_rises x names name rise.1)
  where
    go : (o : Ordering) → slice_cmp nat_cmp name x ≡ o → (name_before x name ≡ true → Rise x (put_name names name)) → Rise last (match_ordering o (name ∷ x ∷ names) (x ∷ names) (x ∷ put_name names name))
    go Less is on = (above, (ap is_lt is, rise.1))
    go Equal is on = rise
    go Greater is on = (rise.0, on (turned name x is))

-- what holds of each name holds of each that is put
pub put_each : (P : List ℕ → Type 0) (names : List (List ℕ)) (name : List ℕ) → AllByRecursion P names → P name → AllByRecursion P (put_name names name)
put_each P [] name each is = (is, tt)
put_each P (x ∷ names) name each is = go (slice_cmp nat_cmp name x) (put_each P names name each.1 is)
  where
    go : (o : Ordering) → AllByRecursion P (put_name names name) → AllByRecursion P (match_ordering o (name ∷ x ∷ names) (x ∷ names) (x ∷ put_name names name))
    go Less on = (is, each)
    go Equal on = each
    go Greater on = (each.0, on)

pub put_some : (names : List (List ℕ)) (name : List ℕ) → 1 ≤ length (put_name names name)
put_some [] name = omega arith
put_some (x ∷ names) name = go (slice_cmp nat_cmp name x)
  where
    go : (o : Ordering) → 1 ≤ length (match_ordering o (name ∷ x ∷ names) (x ∷ names) (x ∷ put_name names name))
    go Less = omega arith
    go Equal = omega arith
    go Greater = omega arith

pub put_few : (names : List (List ℕ)) (name : List ℕ) → length (put_name names name) ≤ length names + 1
put_few [] name = omega arith
put_few (x ∷ names) name = go (slice_cmp nat_cmp name x) (put_few names name)
  where
    go : (o : Ordering) → length (put_name names name) ≤ length names + 1
        → length (match_ordering o (name ∷ x ∷ names) (x ∷ names) (x ∷ put_name names name)) ≤ length (x ∷ names) + 1
    go Less h = omega arith
    go Equal h = omega arith
    go Greater h = omega (arith, h)

-- ---- all names

abbrev IsName : List ℕ → Type 0
IsName name = is_file_name name ≡ true

above_none : (name : List ℕ) → IsName name → name_before [] name ≡ true
above_none [] is = absurd (cc)
above_none (x ∷ name) is = refl

pub record InOrder (names : List (List ℕ)) (count : ℕ) : Type 0 where
  pub rise : Rise [] names
  pub each : AllByRecursion IsName names
  pub few : length names ≤ count

fold_in_order : (sorted : List (List ℕ)) (more : List Named) (count : ℕ) → InOrder sorted count → AllByRecursion (λ (x : Named). is_file_name x.name ≡ true) more
    → InOrder (fold put_name sorted (names_of more)) (count + length more)
fold_in_order sorted [] count h each = record { rise = h.rise; each = h.each; few = let few = h.few in omega (arith, few) }
fold_in_order sorted (x ∷ more) count h each =
    let few = h.few in
    let put = put_few sorted x.name in
    let on = fold_in_order (put_name sorted x.name) more (count + 1) (record {
      rise = put_rises [] sorted x.name h.rise (above_none x.name each.0);
      each = put_each IsName sorted x.name h.each each.0;
      few = omega (arith, few, put);
    }) each.1 in
    let most = on.few in
    record { rise = on.rise; each = on.each; few = omega (arith, most) }

pub in_order_is : (named : List Named) → AllByRecursion (λ (x : Named). is_file_name x.name ≡ true) named → InOrder (in_order (names_of named)) (length named)
in_order_is named each =
    let h = fold_in_order [] named 0 (record { rise = tt; each = tt; few = omega arith }) each in
    let few = h.few in record { rise = h.rise; each = h.each; few = omega (arith, few) }

some_stay : (sorted : List (List ℕ)) (more : List (List ℕ)) → 1 ≤ length sorted → 1 ≤ length (fold put_name sorted more)
some_stay sorted [] h = h
some_stay sorted (x ∷ more) h = some_stay (put_name sorted x) more (put_some sorted x)

pub in_order_some : (named : List Named) → 1 ≤ length named → 1 ≤ length (in_order (names_of named))
in_order_some [] h = absurd (omega (arith, h))
in_order_some (x ∷ named) h = some_stay (put_name [] x.name) (names_of named) (put_some [] x.name)

-- one more name
pub in_order_more : (named : List Named) (i : ℕ) (x : Named) (names : List (List ℕ)) → i < length named → x ≡ get_or named i x
    → names ≡ in_order (names_of (take i named)) → put_name names x.name ≡ in_order (names_of (take (i + 1) named))
in_order_more named i x names lt is at =
    let these : take (i + 1) named ≡ take i named ++ x ∷ [] = take_more named i x lt ∙ ap (λ y. take i named ++ y ∷ []) (sym is) in
    ap (λ l. put_name l x.name) at
    ∙ sym (ap (λ l. fold put_name [] l) (map-append (λ (y : Named). y.name) (take i named) (x ∷ [])) ∙ fold-append put_name [] (names_of (take i named)) (x.name ∷ []))
    ∙ ap (λ l. in_order (names_of l)) (sym these)
