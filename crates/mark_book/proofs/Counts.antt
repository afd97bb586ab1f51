-- How many watermarks are open.
use Rattle.std.proofs.Common.{◌≡◌, ℕ, ◌+◌, ◌-◌, ◌<◌, ◌≤◌, List, [], ◌∷◌, ◌++◌, length, map, take, drop, set, Bool, true, false, refl, sym, ap, ◌∙◌, cond, arith, zero, suc}
use Rattle.std.specs.Prelude.{not, filter, is_none, is_some, Option, None, Some}
use Rattle.std.specs.List.{list_all}
use Rattle.std.proofs.lemmas.Bool.{and_parts}
use Rattle.std.proofs.lemmas.List.{length-append, length-take-le, take_more_set, take_rest}
use Rattle.std.proofs.lemmas.List.Elements.{filter-append}
use borrow.Rule.Slice.PartMut.{mid_of}
use Rattle.fec_plan.specs.declared.position.Position.{Position}
use Rattle.norm_send_rules.specs.declared.news.Outcome.{Outcome}
use Rattle.mark_book.specs.BookState.{Kept}
use Rattle.mark_book.specs.BookMoves.{cut_off, is_finished, open_count, opened, told_first}
use Rattle.mark_book.proofs.Lookups.{filter_at_most, not_open}

counts_add : (ks js : List Kept) → open_count (ks ++ js) ≡ open_count ks + open_count js
counts_add ks js =
    ap length (filter-append (λ (k : Kept). is_none k.ended) ks js)
    ∙ length-append (filter (λ (k : Kept). is_none k.ended) ks) (filter (λ (k : Kept). is_none k.ended) js)

pub count_at_most : (ks : List Kept) → open_count ks ≤ length ks
count_at_most ks = filter_at_most (λ (k : Kept). is_none k.ended) ks

-- of so many at the front no more are open
pub count_front : (ks : List Kept) (i n : ℕ) → i ≤ length ks → n ≡ open_count (take i ks) → n ≤ i
count_front ks i n le is =
    let most = count_at_most (take i ks) in
    let few = length-take-le i ks le in
    omega (arith, is, most, few)

-- one more is counted, as it was written
pub count_more : (ks : List Kept) (i n m : ℕ) (k : Kept) → i < length ks → n ≡ open_count (take i ks) → m ≡ open_count (k ∷ []) → n + m ≡ open_count (take (i + 1) (set ks i k))
count_more ks i n m k lt so_far one =
    let more = ap open_count (take_more_set ks i k lt) ∙ counts_add (take i ks) (k ∷ []) in
    omega (arith, so_far, one, more)

-- what is open behind a finished front is what is open of all, also once some ended
count_behind : (f : Kept → Kept) → ((k : Kept) → is_finished k ≡ true → f k ≡ k) → (from : ℕ) (ks : List Kept) → list_all is_finished (take from ks) ≡ true
    → open_count (map f (drop from ks)) ≡ open_count (map f ks)
count_behind f stays zero ks all = refl
count_behind f stays (suc from) [] all = refl
count_behind f stays (suc from) (k ∷ ks) all =
    let parts = and_parts (is_finished k) (list_all is_finished (take from ks)) all in
    go (is_none k.ended) (not_open (is_some k.ended) (not k.untold) parts.0) (count_behind f stays from ks parts.1)
    ∙ ap (λ (x : Kept). open_count (x ∷ map f ks)) (sym (stays k parts.0))
  where
    go : (b : Bool) → b ≡ false → open_count (map f (drop from ks)) ≡ open_count (map f ks)
        → open_count (map f (drop from ks)) ≡ length (cond b (k ∷ filter (λ (k : Kept). is_none k.ended) (map f ks)) (filter (λ (k : Kept). is_none k.ended) (map f ks)))
    go true e rest = absurd (cc)
    go false e rest = rest

pub count_of_rest : (f : Kept → Kept) → ((k : Kept) → is_finished k ≡ true → f k ≡ k) → (now ks new : List Kept) (from n : ℕ) → now ≡ ks
    → list_all is_finished (take from ks) ≡ true → new ≡ map f (mid_of from (length now - from) now) → n ≡ open_count new → n ≡ open_count (map f ks)
count_of_rest f stays now ks new from n same finished is count =
    count ∙ ap open_count (is ∙ ap (map f) (take_rest now from ∙ ap (drop from) same)) ∙ count_behind f stays from ks finished

-- one more is open
pub count_pushed : (ks : List Kept) (mark : ℕ) (at : Position) (quorum : Option ℕ) → open_count (ks ++ opened mark at quorum ∷ []) ≡ open_count ks + 1
count_pushed ks mark at quorum = counts_add ks (opened mark at quorum ∷ [])

-- none is open behind a cut
pub count_cut : (ks : List Kept) → open_count (map cut_off ks) ≡ 0
count_cut [] = refl
count_cut (k ∷ ks) = go k.ended (count_cut ks)
  where
    go : (o : Option Outcome) → open_count (map cut_off ks) ≡ 0 → open_count (cut_off (record k { ended = o }) ∷ map cut_off ks) ≡ 0
    go None rest = rest
    go (Some x) rest = rest

-- telling ends nothing
pub count_told : (ks : List Kept) → open_count (told_first ks) ≡ open_count ks
count_told [] = refl
count_told (k ∷ ks) = go k.untold (behind (is_none k.ended) (count_told ks))
  where
    behind : (b : Bool) → open_count (told_first ks) ≡ open_count ks
        → length (cond b (k ∷ filter (λ (k : Kept). is_none k.ended) (told_first ks)) (filter (λ (k : Kept). is_none k.ended) (told_first ks)))
        ≡ length (cond b (k ∷ filter (λ (k : Kept). is_none k.ended) ks) (filter (λ (k : Kept). is_none k.ended) ks))
    behind true rest = ap suc rest
    behind false rest = rest

    go : (b : Bool) → open_count (k ∷ told_first ks) ≡ open_count (k ∷ ks)
        → open_count (elim b as (λ _. List Kept) [ true ↦ record k { untold = false } ∷ ks | false ↦ k ∷ told_first ks ]) ≡ open_count (k ∷ ks)
    go true rest = untold_head (is_none k.ended)
      where
        untold_head : (b : Bool)
            → length (cond b (record k { untold = false } ∷ filter (λ (k : Kept). is_none k.ended) ks) (filter (λ (k : Kept). is_none k.ended) ks))
            ≡ length (cond b (k ∷ filter (λ (k : Kept). is_none k.ended) ks) (filter (λ (k : Kept). is_none k.ended) ks))
        untold_head true = refl
        untold_head false = refl
    go false rest = rest
