-- Loops over a part of a list.
use Rattle.std.proofs.Common.{◌≡◌, ℕ, ◌+◌, ◌-◌, ◌<◌, ◌≤◌, List, [], ◌∷◌, ◌++◌, length, map, take, drop, get_or, set, Bool, true, false, refl, sym, ap, subst, ◌∙◌, arith}
use Rattle.std.specs.Prelude.{◌&&◌, not, is_some, is_none, Option, None, Some, option_map, option_and_then, IfNone, Vec, vec_len}
use Rattle.std.specs.List.{list_all}
use Rattle.std.specs.Vec.{with_items}
use Rattle.std.proofs.lemmas.Bool.{and_parts}
use Rattle.std.proofs.lemmas.List.{append-nil, map-append, take-append-drop, drop_all, take_rest, at_drop_more, with_items_is, length-map}
use Rattle.std.proofs.lemmas.List.Edits.{map_over_more}
use borrow.Rule.Slice.PartMut.{mid_of, post_of, Post-is}
use Rattle.fec_plan.specs.declared.position.Position.{Position}
use Rattle.fec_plan.specs.Points.{reaches, reached_by}
use Rattle.norm_send_rules.specs.declared.news.Outcome.{Outcome}
use Rattle.mark_book.specs.BookState.{Kept}
use Rattle.mark_book.specs.BookMoves.{ended_where, is_finished}

-- one more element is written over, by what a call gave
pub written_more : {X : Type 0} (f : X → X) (xs ys : List X) (i : ℕ) (x z : X) → z ≡ f (get_or ys i x) → i < length xs → ys ≡ map f (take i xs) ++ drop i xs → x ≡ get_or ys i x
    → set ys i z ≡ map f (take (i + 1) xs) ++ drop (i + 1) xs
written_more f xs ys i x z is lt done at = rw is (map_over_more f xs ys i (get_or ys i x) lt done (ap (get_or ys i) at))

not_open : (some here untold test : Bool) → (some && not untold) ≡ true → (not some && test) ≡ false
not_open true here untold test e = refl
not_open false here untold test e = absurd (cc)

other : {X : Type 0} (b : Bool) (x y : X) → b ≡ false → elim b as (λ _. X) [ true ↦ x | false ↦ y ] ≡ y
other true x y e = absurd (cc)
other false x y e = refl

-- a finished watermark stays as it is
pub finished_stays : (test : Kept → Bool) (outcome : Kept → Outcome) (k : Kept) → is_finished k ≡ true → ended_where test outcome k ≡ k
finished_stays test outcome k e = other (is_none k.ended && test k) _ _ (not_open (is_some k.ended) true k.untold (test k) e)

pub front_stays : (f : Kept → Kept) → ((k : Kept) → is_finished k ≡ true → f k ≡ k) → (ks : List Kept) → list_all is_finished ks ≡ true → map f ks ≡ ks
front_stays f stays [] all = refl
front_stays f stays (k ∷ ks) all =
    let parts = and_parts (is_finished k) (list_all is_finished ks) all in
    rw (stays k parts.0, front_stays f stays ks parts.1)

-- what is done to all behind a finished front is done to all
pub done_to_all : (f : Kept → Kept) → ((k : Kept) → is_finished k ≡ true → f k ≡ k) → (from : ℕ) (ks new : List Kept)
    → from ≤ length ks → list_all is_finished (take from ks) ≡ true → new ≡ map f (mid_of from (length ks - from) ks)
    → take from ks ++ (new ++ post_of from (length ks - from) ks) ≡ map f ks
done_to_all f stays from ks new within finished is =
    let rest : mid_of from (length ks - from) ks ≡ drop from ks = take_rest ks from in
    let behind : post_of from (length ks - from) ks ≡ [] = Post-is from (length ks) ks within ∙ drop_all (length ks) ks (omega arith) in
    ap (λ p. take from ks ++ (new ++ p)) behind
    ∙ ap (λ p. take from ks ++ p) (append-nil new ∙ is ∙ ap (map f) rest)
    ∙ ap (λ p. p ++ map f (drop from ks)) (sym (front_stays f stays (take from ks) finished))
    ∙ sym (map-append f (take from ks) (drop from ks))
    ∙ ap (map f) (take-append-drop from ks)

-- what is found and then read, where nothing was found, and where something was
pub found_none : {R X Y : Type 0} (now : R → X) (f : X → Option Y) (r : Option R) (o : Option X) → option_map now r ≡ o → r ≡ None → option_and_then f o ≡ None
found_none now f r o e is = ap (option_and_then f) (sym e) ∙ ap (λ r. option_and_then f (option_map now r)) is

pub found_some : {R X Y : Type 0} (now : R → X) (f : X → Option Y) (r : Option R) (o : Option X) (x : R) → option_map now r ≡ o → r ≡ Some x → option_and_then f o ≡ f (now x)
found_some now f r o x e is = ap (option_and_then f) (sym e) ∙ ap (λ r. option_and_then f (option_map now r)) is

swapped : (l p r : Bool) → (l && (p && r)) ≡ ((p && l) && r)
swapped true true r = refl
swapped true false r = refl
swapped false true r = refl
swapped false false r = refl

-- one more listing counts in the least position
pub least_step : (xs : List (Option Position)) (i : ℕ) (d : Option Position) (at least past new : Position) (all : Bool) → i < length xs → get_or xs i d ≡ Some past
    → reaches new at ≡ (reaches past at && reaches least at) → all ≡ (reaches least at && list_all (λ o. reached_by o at) (drop i xs))
    → all ≡ (reaches new at && list_all (λ o. reached_by o at) (drop (i + 1) xs))
least_step xs i d at least past new all lt found lower so_far =
    so_far
    ∙ ap (λ b. reaches least at && b) (
    at_drop_more (list_all (λ o. reached_by o at)) xs i d lt
    ∙ ap (λ (y : Option Position). reached_by y at && list_all (λ o. reached_by o at) (drop (i + 1) xs)) found)
    ∙ swapped (reaches least at) (reaches past at) (list_all (λ o. reached_by o at) (drop (i + 1) xs))
    ∙ ap (λ b. b && list_all (λ o. reached_by o at) (drop (i + 1) xs)) (sym lower)

-- after a loop over the rest of a vector of watermarks
pub rest_written : {Z : Type 0} (v : Vec Kept Z) (now new : List Kept) (from : ℕ) (f : Kept → Kept) → ((k : Kept) → is_finished k ≡ true → f k ≡ k)
    → now ≡ v.items → length now ≡ vec_len v → from ≤ length v.items → list_all is_finished (take from v.items) ≡ true
    → new ≡ map f (mid_of from (length now - from) now)
    → (with_items v (take from now ++ (new ++ post_of from (length now - from) now))).items ≡ map f v.items
rest_written v now new from f stays same len within finished is =
    let e : take from now ++ (new ++ post_of from (length now - from) now) ≡ map f now =
    done_to_all f stays from now new (subst (λ (ks : List Kept). from ≤ length ks) (sym same) within)
    (ap (λ (ks : List Kept). list_all is_finished (take from ks)) same ∙ finished) is in
    with_items_is v _ (ap length e ∙ length-map now f ∙ len) ∙ e ∙ ap (map f) same

-- after a loop over a vector
pub all_written : {X Z : Type 0} (v : Vec X Z) (now new : List X) (f : X → X) → now ≡ v.items → length now ≡ vec_len v → new ≡ map f now
    → (with_items v new).items ≡ map f v.items
all_written v now new f same len is = with_items_is v new (ap length is ∙ length-map now f ∙ len) ∙ is ∙ ap (map f) same

-- what was found, behind its reference
pub nothing_found : {R X : Type 0} (now : R → X) (r : Option R) (o : Option X) → option_map now r ≡ o → r ≡ None → o ≡ None
nothing_found now r o e is = sym e ∙ ap (option_map now) is

pub thing_found : {R X : Type 0} (now : R → X) (r : Option R) (o : Option X) (x : R) → option_map now r ≡ o → r ≡ Some x → o ≡ Some (now x)
thing_found now r o x e is = sym e ∙ ap (option_map now) is

-- what holds holds where nothing is answered
pub if_none : {X : Type 0} (r : Option X) (P : Type 0) → P → IfNone r P
if_none None P holds = holds
if_none (Some x) P holds = tt
