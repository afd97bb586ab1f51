-- What is looked up in a book is what is looked up in the state that it stands for.
use Rattle.std.proofs.Common.{◌≡◌, ℕ, ◌+◌, ◌-◌, ◌<◌, ◌≤◌, List, [], ◌∷◌, length, map, take, drop, get_or, Bool, true, false, refl, sym, ap, ◌∙◌, cond, arith, zero, suc}
use Rattle.std.specs.Prelude.{◌&&◌, ◌==◌, not, filter, find, is_none, is_some, Option, None, Some, option_map, option_and_then}
use Rattle.std.specs.List.{list_all}
use Rattle.std.proofs.lemmas.Bool.{and_parts, not-true, eq-eqb, ne_eqb}
use Rattle.std.proofs.lemmas.List.{take_rest, length-map}
use borrow.Rule.Slice.PartMut.{mid_of}
use Rattle.norm_base.specs.Settings.{Settings}
use Rattle.norm_send_rules.specs.SenderState.{SenderState, Watermark, Listing}
use Rattle.norm_send_rules.specs.Watermarks.{open_watermarks, is_past}
use Rattle.norm_send_rules.specs.declared.news.Outcome.{Outcome}
use Rattle.norm_send_rules.specs.declared.news.Outcome.TheVariants.{Open}
use Rattle.mark_book.specs.BookState.{MarkState, Kept, BookState, mark_state, kept_state, Stands}
use Rattle.mark_book.specs.BookMoves.{is_finished, left_of, left_count, outcome_by}
use Rattle.mark_book.specs.BookSound.{AreNumbered}

pub find_through : {X : Type 0} (p : X → MarkState) (test : MarkState → Bool) (xs : List X) → option_map p (find (λ x. test (p x)) xs) ≡ find test (map p xs)
find_through p test [] = refl
find_through p test (x ∷ xs) = go (test (p x)) (find_through p test xs)
  where
    go : (b : Bool) → option_map p (find (λ x. test (p x)) xs) ≡ find test (map p xs)
        → option_map p (cond b (Some x) (find (λ x. test (p x)) xs)) ≡ cond b (Some (p x)) (find test (map p xs))
    go true rest = refl
    go false rest = rest

count_through : {X : Type 0} (p : X → MarkState) (test : MarkState → Bool) (xs : List X) → length (filter (λ x. test (p x)) xs) ≡ length (filter test (map p xs))
count_through p test [] = refl
count_through p test (x ∷ xs) = go (test (p x)) (count_through p test xs)
  where
    go : (b : Bool) → length (filter (λ x. test (p x)) xs) ≡ length (filter test (map p xs))
        → length (cond b (x ∷ filter (λ x. test (p x)) xs) (filter (λ x. test (p x)) xs)) ≡ length (cond b (p x ∷ filter test (map p xs)) (filter test (map p xs)))
    go true rest = ap suc rest
    go false rest = rest

-- what a test finds in both
pub found_in_both : (test : MarkState → Bool) (p : Settings) (b : BookState) (s : SenderState) → Stands p b s
    → option_map kept_state (find (λ k. test (kept_state k)) b.watermarks) ≡ option_map mark_state (find (λ w. test (mark_state w)) s.watermarks)
found_in_both test p b s stands =
    find_through kept_state test b.watermarks ∙ ap (find test) stands.watermarks ∙ sym (find_through mark_state test s.watermarks)

pub open_in_both : (p : Settings) (b : BookState) (s : SenderState) → Stands p b s → length (filter (λ k. is_none k.ended) b.watermarks) ≡ length (open_watermarks s)
open_in_both p b s stands =
    count_through kept_state (λ a. is_none a.ended) b.watermarks ∙ ap (λ both. length (filter (λ (a : MarkState). is_none a.ended) both)) stands.watermarks
    ∙ sym (count_through mark_state (λ a. is_none a.ended) s.watermarks)

pub untold_in_both : (p : Settings) (b : BookState) (s : SenderState) → Stands p b s → length (filter (λ k. k.untold) b.watermarks) ≡ length s.untold_marks
untold_in_both p b s stands = sym (length-map (filter (λ k. k.untold) b.watermarks) (λ (k : Kept). k.mark)) ∙ ap length stands.marks

pub many_in_both : (p : Settings) (b : BookState) (s : SenderState) → Stands p b s → length b.watermarks ≡ length s.watermarks
many_in_both p b s stands = sym (length-map b.watermarks kept_state) ∙ ap length stands.watermarks ∙ length-map s.watermarks mark_state

map_through : {Y : Type 0} (g : MarkState → Y) (o : Option Watermark) → option_map (λ w. g (mark_state w)) o ≡ option_map g (option_map mark_state o)
map_through g None = refl
map_through g (Some w) = refl

then_through : {Y : Type 0} (g : MarkState → Option Y) (o : Option Watermark) → option_and_then (λ w. g (mark_state w)) o ≡ option_and_then g (option_map mark_state o)
then_through g None = refl
then_through g (Some w) = refl

-- what is read off what is found
pub read_none : {Y : Type 0} (g : MarkState → Y) (o : Option Kept) (p : Option Watermark) → option_map kept_state o ≡ option_map mark_state p → o ≡ None
    → None ≡ option_map (λ w. g (mark_state w)) p
read_none g o p both is = ap (λ o. option_map g (option_map kept_state o)) (sym is) ∙ ap (option_map g) both ∙ sym (map_through g p)

pub read_some : {Y : Type 0} (g : MarkState → Y) (o : Option Kept) (p : Option Watermark) (k : Kept) → option_map kept_state o ≡ option_map mark_state p → o ≡ Some k
    → Some (g (kept_state k)) ≡ option_map (λ w. g (mark_state w)) p
read_some g o p k both is = ap (λ o. option_map g (option_map kept_state o)) (sym is) ∙ ap (option_map g) both ∙ sym (map_through g p)

pub then_none : {Y : Type 0} (g : MarkState → Option Y) (o : Option Kept) (p : Option Watermark) → option_map kept_state o ≡ option_map mark_state p → o ≡ None
    → None ≡ option_and_then (λ w. g (mark_state w)) p
then_none g o p both is = ap (λ o. option_and_then g (option_map kept_state o)) (sym is) ∙ ap (option_and_then g) both ∙ sym (then_through g p)

pub then_some : {Y : Type 0} (g : MarkState → Option Y) (o : Option Kept) (p : Option Watermark) (k : Kept) → option_map kept_state o ≡ option_map mark_state p → o ≡ Some k
    → g (kept_state k) ≡ option_and_then (λ w. g (mark_state w)) p
then_some g o p k both is = ap (λ o. option_and_then g (option_map kept_state o)) (sym is) ∙ ap (option_and_then g) both ∙ sym (then_through g p)

-- the outcome of a watermark
abbrev pub outcome_at : List Listing → MarkState → Outcome
outcome_at ls a = elim a.ended [ Some outcome ↦ outcome | None ↦ Open (length (left_of ls a.at)) ]

pub outcome_is : (ls : List Listing) (k : Kept) → outcome_by ls k ≡ outcome_at ls (kept_state k)
outcome_is ls k = go k.ended
  where
    go : (o : Option Outcome) → elim o as (λ _. Outcome) [ Some outcome ↦ outcome | None ↦ Open (left_count ls k.at) ]
        ≡ elim o as (λ _. Outcome) [ Some outcome ↦ outcome | None ↦ Open (length (left_of ls k.at)) ]
    go (Some outcome) = refl
    go None = ap Open (sym (length-map (filter (λ l. not (is_past k.at l)) ls) (λ (l : Listing). l.node)))

-- a number that was not given
pub number_below : (m n : ℕ) (ks : List Kept) → AreNumbered n ks → m < n → find (λ (k : Kept). k.mark == m) ks ≡ None
number_below m n [] all lt = refl
number_below m n (k ∷ ks) all lt = go (k.mark == m) (let is : k.mark ≡ n = all.0 in ne_eqb k.mark m (λ same. omega arith)) (number_below m (n + 1) ks all.1 (omega arith))
  where
    go : (b : Bool) → b ≡ false → find (λ (k : Kept). k.mark == m) ks ≡ None → cond b (Some k) (find (λ (k : Kept). k.mark == m) ks) ≡ None
    go true e rest = absurd (cc)
    go false e rest = rest

pub number_above : (m n : ℕ) (ks : List Kept) → AreNumbered n ks → n + length ks ≤ m → find (λ (k : Kept). k.mark == m) ks ≡ None
number_above m n [] all le = refl
number_above m n (k ∷ ks) all le = go (k.mark == m) (let is : k.mark ≡ n = all.0 in ne_eqb k.mark m (λ same. omega arith)) (number_above m (n + 1) ks all.1 (omega arith))
  where
    go : (b : Bool) → b ≡ false → find (λ (k : Kept). k.mark == m) ks ≡ None → cond b (Some k) (find (λ (k : Kept). k.mark == m) ks) ≡ None
    go true e rest = absurd (cc)
    go false e rest = rest

-- a number that was given
pub number_at : (i n m : ℕ) (ks : List Kept) (d : Kept) → AreNumbered n ks → i < length ks → m ≡ n + i → find (λ (k : Kept). k.mark == m) ks ≡ Some (get_or ks i d)
number_at i n m [] d all lt is = absurd (omega arith)
number_at zero n m (k ∷ ks) d all lt is = go (k.mark == m) (let e : k.mark ≡ n = all.0 in eq-eqb k.mark m (omega arith))
  where
    go : (b : Bool) → b ≡ true → cond b (Some k) (find (λ (k : Kept). k.mark == m) ks) ≡ Some k
    go true e = refl
    go false e = absurd (cc)
number_at (suc i) n m (k ∷ ks) d all lt is =
    go (k.mark == m) (let e : k.mark ≡ n = all.0 in ne_eqb k.mark m (λ same. omega arith)) (number_at i (n + 1) m ks d all.1 (omega arith) (omega arith))
  where
    go : (b : Bool) → b ≡ false → find (λ (k : Kept). k.mark == m) ks ≡ Some (get_or ks i d) → cond b (Some k) (find (λ (k : Kept). k.mark == m) ks) ≡ Some (get_or ks i d)
    go true e rest = absurd (cc)
    go false e rest = rest

-- a front without open watermarks does not matter
pub not_open : (some told : Bool) → (some && told) ≡ true → not some ≡ false
not_open true told e = refl
not_open false told e = absurd (cc)

find_behind : (ks : List Kept) (from : ℕ) → list_all is_finished (take from ks) ≡ true
    → find (λ (k : Kept). is_none k.ended) (drop from ks) ≡ find (λ (k : Kept). is_none k.ended) ks
find_behind ks zero all = refl
find_behind [] (suc from) all = refl
find_behind (k ∷ ks) (suc from) all =
    let parts = and_parts (is_finished k) (list_all is_finished (take from ks)) all in
    go (is_none k.ended) (not_open (is_some k.ended) (not k.untold) parts.0) (find_behind ks from parts.1)
  where
    go : (b : Bool) → b ≡ false → find (λ (k : Kept). is_none k.ended) (drop from ks) ≡ find (λ (k : Kept). is_none k.ended) ks
        → find (λ (k : Kept). is_none k.ended) (drop from ks) ≡ cond b (Some k) (find (λ (k : Kept). is_none k.ended) ks)
    go true e rest = absurd (cc)
    go false e rest = rest

pub untold_behind_count : (ks : List Kept) (from : ℕ) → list_all is_finished (take from ks) ≡ true
    → length (filter (λ (k : Kept). k.untold) (drop from ks)) ≡ length (filter (λ (k : Kept). k.untold) ks)
untold_behind_count ks zero all = refl
untold_behind_count [] (suc from) all = refl
untold_behind_count (k ∷ ks) (suc from) all =
    let parts = and_parts (is_finished k) (list_all is_finished (take from ks)) all in
    go k.untold (not-true k.untold (and_parts (is_some k.ended) (not k.untold) parts.0).1) (untold_behind_count ks from parts.1)
  where
    go : (b : Bool) → b ≡ false → length (filter (λ (k : Kept). k.untold) (drop from ks)) ≡ length (filter (λ (k : Kept). k.untold) ks)
        → length (filter (λ (k : Kept). k.untold) (drop from ks)) ≡ length (cond b (k ∷ filter (λ (k : Kept). k.untold) ks) (filter (λ (k : Kept). k.untold) ks))
    go true e rest = absurd (cc)
    go false e rest = rest

-- the first open watermark of the rest of a list, and how many are to be told there
pub open_of_rest : (now ks : List Kept) (from : ℕ) (r : Option Kept) → now ≡ ks → list_all is_finished (take from ks) ≡ true
    → r ≡ find (λ (k : Kept). is_none k.ended) (mid_of from (length now - from) now) → r ≡ find (λ (k : Kept). is_none k.ended) ks
open_of_rest now ks from r same finished is =
    is ∙ ap (find (λ (k : Kept). is_none k.ended)) (take_rest now from ∙ ap (drop from) same) ∙ find_behind ks from finished

pub untold_of_rest : (now ks : List Kept) (from n : ℕ) → now ≡ ks → list_all is_finished (take from ks) ≡ true
    → n ≡ length (filter (λ (k : Kept). k.untold) (mid_of from (length now - from) now)) → n ≡ length (filter (λ (k : Kept). k.untold) ks)
untold_of_rest now ks from n same finished is =
    is ∙ ap (λ xs. length (filter (λ (k : Kept). k.untold) xs)) (take_rest now from ∙ ap (drop from) same) ∙ untold_behind_count ks from finished

pub filter_at_most : {X : Type 0} (test : X → Bool) (xs : List X) → length (filter test xs) ≤ length xs
filter_at_most test [] = omega arith
filter_at_most test (x ∷ xs) = go (test x) (filter_at_most test xs)
  where
    go : (b : Bool) → length (filter test xs) ≤ length xs → length (cond b (x ∷ filter test xs) (filter test xs)) ≤ suc (length xs)
    go true rest = omega (arith, rest)
    go false rest = omega (arith, rest)
