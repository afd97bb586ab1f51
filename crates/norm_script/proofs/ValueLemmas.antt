-- Which values settings give a profile; and the laws of the texts of one script.
use Rattle.std.proofs.Common.{◌≡◌, ◌∙◌, sym, ap, ◌≤◌, ◌<◌, ◌==◌, ℕ, zero, suc, List, [], ◌∷◌, ◌++◌, length, Option, Some, None, Ok, Bool, true, false, refl, arith, nat_le, cond, map, fold, lit<}
use Rattle.std.specs.Prelude.{find, unwrap_or, slice_get, slice_index_or}
use Rattle.std.specs.List.{IsDistinct, AllByRecursion, list_all}
use Rattle.std.proofs.lemmas.Bool.Decides.{Decides-eqb}
use Rattle.std.proofs.lemmas.Grind.{get_or-set_at}
use Rattle.std.proofs.lemmas.List.{get_or-set_other, length-set}
use Rattle.norm_base.specs.Given.{nothing_given, give, given_at, default_beside, value_in, are_values, meets_rules, are_in_range, profile_given}
use Rattle.norm_base.specs.Keys.{row_of, keys, is_value}
use Rattle.norm_base.specs.Settings.{Settings, mode_at, fabric_at, settings_with}
use Rattle.norm_base.specs.declared.key.Key.{Key}
use Rattle.norm_base.specs.declared.key.Key.TheVariants as key
use Rattle.norm_script.specs.Commands.{Commands}
use Rattle.norm_script.specs.Head.{given_by}
use Rattle.norm_script.specs.OneScript.{same_key, value_set, value_where, Makes, IsTextOf, AreAlike, OneScriptLaws}
use Rattle.norm_script.specs.Reading.{script_of}
use Rattle.norm_script.specs.Written.{setting_line, ended, mode_value, fabric_value, value_of_key}
use Rattle.norm_script.specs.declared.setting.Setting.{Setting}
use Rattle.norm_script.proofs.TextLemmas.{line_of, same_set, IsOnce, command_of_line, text_of}
use Rattle.norm_script.proofs.WordLemmas.{both}

-- a setting without its line
abbrev pair : Setting → Key × ℕ
pair s = (s.key, s.value)

abbrev pairs : List Setting → List (Key × ℕ)
pairs settings = map pair settings

place_small : (k : Key) → (row_of k).place < 26
place_small key.Instance = lit< tt
place_small _ = lit< tt

-- Settings of each key at most once.

once_pairs : (settings : List Setting) → IsOnce settings → IsDistinct same_key (pairs settings)
unfolding IsDistinct
once_pairs [] once = tt
once_pairs (s ∷ settings) once = (others settings once.0, once_pairs settings once.1)
  where
    others : (xs : List Setting) → AllByRecursion (λ t. same_set s t ≡ false) xs → AllByRecursion (λ t. same_key (pair s) t ≡ false) (pairs xs)
    others [] all = tt
    others (x ∷ xs) all = (all.0, others xs all.1)

abbrev value_found : Option (Key × ℕ) → Option ℕ
value_found found = elim found [ Some s ↦ Some s.1 | None ↦ None ]

-- a key that is set is not set again
not_again : (s : Setting) (k : Key) (settings : List Setting) → (row_of s.key).place ≡ (row_of k).place → AllByRecursion (λ t. same_set s t ≡ false) settings
    → value_set (pairs settings) k ≡ None
not_again s k [] same all = refl
not_again s k (t ∷ settings) same all =
    ap (λ b. value_found (cond b (Some (pair t)) (find (λ (x : Key × ℕ). (row_of x.0).place == (row_of k).place) (pairs settings)))) (apart t all.0)
    ∙ not_again s k settings same all.1
  where
    clash : false ≡ true → ⊥
    clash e = cc

    apart : (x : Setting) → same_set s x ≡ false → ((row_of x.key).place == (row_of k).place) ≡ false
    apart x other = go ((row_of x.key).place == (row_of k).place) refl
      where
        go : (b : Bool) → ((row_of x.key).place == (row_of k).place) ≡ b → b ≡ false
        go false e = refl
        go true e = absurd (clash (sym other ∙ (Decides-eqb (row_of s.key).place (row_of x.key).place).1
            (same ∙ sym ((Decides-eqb (row_of x.key).place (row_of k).place).0 e))))

abbrev or_else : Option ℕ → Option ℕ → Option ℕ
or_else o other = elim o [ Some v ↦ Some v | None ↦ other ]

given_after : (settings : List Setting) (given : List (Option ℕ)) (k : Key) → length given ≡ 26 → IsOnce settings
    → given_at (fold (λ given s. give given s.key s.value) given settings) k ≡ or_else (value_set (pairs settings) k) (given_at given k)
unfolding IsDistinct
given_after [] given k long once = refl
given_after (s ∷ settings) given k long once =
    given_after settings (give given s.key s.value) k (length-set given (row_of s.key).place (Some s.value) ∙ long) once.1
    ∙ go ((row_of s.key).place == (row_of k).place) refl
  where
    clash : false ≡ true → ⊥
    clash e = cc

    rest : Option (Key × ℕ)
    rest = find (λ (x : Key × ℕ). (row_of x.0).place == (row_of k).place) (pairs settings)

    go : (b : Bool) → ((row_of s.key).place == (row_of k).place) ≡ b
        → or_else (value_found rest) (given_at (give given s.key s.value) k) ≡ or_else (value_found (cond b (Some (pair s)) rest)) (given_at given k)
    go true e =
        let same = (Decides-eqb (row_of s.key).place (row_of k).place).0 e in
        ap (λ o. or_else o (given_at (give given s.key s.value) k)) (not_again s k settings same once.0)
        ∙ get_or-set_at given (row_of s.key).place (row_of k).place (Some s.value) None (sym same)
        (let small = place_small s.key in let h : (row_of s.key).place < length given = omega (arith, small, long) in h)
    go false e = ap (or_else (value_found rest)) (get_or-set_other given (row_of s.key).place (row_of k).place (Some s.value) None
        (λ is. clash (sym e ∙ (Decides-eqb (row_of s.key).place (row_of k).place).1 (sym is))))

abbrev none_of : Option ℕ
none_of = None

none_given : (ks : List Key) (i : ℕ) → slice_index_or (map (λ (k : Key). none_of) ks) i None ≡ None
none_given [] zero = refl
none_given [] (suc i) = refl
none_given (k ∷ ks) zero = refl
none_given (k ∷ ks) (suc i) = none_given ks i

given_is : (settings : List Setting) (k : Key) → IsOnce settings → given_at (given_by settings) k ≡ value_set (pairs settings) k
given_is settings k once =
    given_after settings nothing_given k refl once
    ∙ ap (or_else (value_set (pairs settings) k)) (none_given keys (row_of k).place)
    ∙ itself (value_set (pairs settings) k)
  where
    itself : (o : Option ℕ) → or_else o None ≡ o
    itself (Some v) = refl
    itself None = refl

value_is : (settings : List Setting) (k : Key) → IsOnce settings → value_in (given_by settings) k ≡ value_where (pairs settings) k
value_is settings k once =
    ap (λ o. unwrap_or o (default_beside (unwrap_or (given_at (given_by settings) key.B) (row_of key.B).default) k)) (given_is settings k once)
    ∙ ap (λ o. unwrap_or (value_set (pairs settings) k) (default_beside (unwrap_or o (row_of key.B).default) k)) (given_is settings key.B once)

-- The profile of values in their ranges has these values.

mode_again : (n : ℕ) → n ≤ 1 → mode_value (mode_at n) ≡ n
mode_again zero le = refl
mode_again (suc zero) le = refl
mode_again (suc (suc n)) le = absurd (omega arith)

fabric_again : (n : ℕ) → n ≤ 2 → fabric_value (fabric_at n) ≡ n
fabric_again zero le = refl
fabric_again (suc zero) le = refl
fabric_again (suc (suc zero)) le = refl
fabric_again (suc (suc (suc n))) le = absurd (omega arith)

all_at : (test : Key → Bool) (ks : List Key) (n : ℕ) (k : Key) → slice_get ks n ≡ Some k → list_all test ks ≡ true → test k ≡ true
all_at test [] n k found all = absurd (none found)
  where
    none : None ≡ Some k → ⊥
    none e = cc
all_at test (x ∷ ks) zero k found all = ap test (sym (same x found)) ∙ (both (test x) (list_all test ks) all).0
  where
    same : (y : Key) → Some y ≡ Some k → y ≡ k
    same y e = cc
all_at test (x ∷ ks) (suc n) k found all = all_at test ks n k found (both (test x) (list_all test ks) all).1

at_most : (n most : ℕ) → nat_le n most ≡ true → n ≤ most
at_most n most e = grind arith

value_again : (f : Key → ℕ) → are_values f keys ≡ true → (k : Key) → value_of_key (settings_with f) k ≡ f k
value_again f right key.Mode =
    mode_again (f key.Mode) (at_most (f key.Mode) 1 (both (nat_le 0 (f key.Mode)) (nat_le (f key.Mode) 1) (all_at (λ k. is_value k (f k)) keys 12 key.Mode refl right)).1)
value_again f right key.Fabric =
    fabric_again (f key.Fabric) (at_most (f key.Fabric) 2 (both (nat_le 0 (f key.Fabric)) (nat_le (f key.Fabric) 2) (all_at (λ k. is_value k (f k)) keys 20 key.Fabric refl right)).1)
value_again f right _ = refl

was_given : (f : Key → ℕ) (profile : Settings) → cond (are_in_range f) (Some (settings_with f)) None ≡ Some profile
    → (are_values f keys ≡ true) × (settings_with f ≡ profile)
was_given f profile e = go (are_in_range f) refl e
  where
    none : None ≡ Some profile → ⊥
    none h = cc

    same : (x : Settings) → Some x ≡ Some profile → x ≡ profile
    same x h = cc

    go : (b : Bool) → are_in_range f ≡ b → cond b (Some (settings_with f)) None ≡ Some profile → (are_values f keys ≡ true) × (settings_with f ≡ profile)
    go true is found = ((both (are_values f keys) (meets_rules f) is).0, same (settings_with f) found)
    go false is found = absurd (none found)

makes : (settings : List Setting) (profile : Settings) → IsOnce settings → profile_given (given_by settings) ≡ Some profile → Makes (pairs settings) profile
makes settings profile once given =
    let f = value_in (given_by settings) in
    let was = was_given f profile given in
    record {
      once = once_pairs settings once;
      values = λ k. ap (λ (s : Settings). value_of_key s k) (sym was.1) ∙ value_again f was.0 k ∙ value_is settings k once;
    }

-- The laws.

lines_again : (settings : List Setting) → map line_of settings ≡ map (λ (s : Key × ℕ). setting_line s.0 s.1) (pairs settings)
lines_again [] = refl
lines_again (s ∷ settings) = ap (λ lines. setting_line s.key s.value ∷ lines) (lines_again settings)

of_one : (text : List ℕ) (script : Commands) → script_of text ≡ Ok script → IsTextOf script text
of_one text script e = let is = text_of text script e in (
  pairs is.settings,
  ap ended (is.lines ∙ ap (λ lines. lines ++ map command_of_line script.lines) (lines_again is.settings)),
  makes is.settings script.profile is.once is.given,
)

of_two : (one other : List ℕ) (script : Commands) → script_of one ≡ Ok script → script_of other ≡ Ok script → AreAlike one other
of_two one other script e f = let a = of_one one script e in let b = of_one other script f in record {
  lines = script.lines;
  settings = a.0;
  others = b.0;
  one_is = a.1;
  other_is = b.1;
  once = (a.2.once, b.2.once);
  values = λ k. sym (a.2.values k) ∙ b.2.values k;
}

pub one_script_laws : OneScriptLaws
one_script_laws = record { of_one = of_one; of_two = of_two }
