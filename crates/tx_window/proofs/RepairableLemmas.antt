-- How many infos and encoded symbols a window has, entry by entry.
use Rattle.std.proofs.Common.{◌≡◌, ℕ, zero, suc, ◌+◌, ◌-◌, ◌<◌, ◌≤◌, ◌⊎◌, inl, inr, Bool, true, false, refl, sym, ap, ◌∙◌, subst, arith, Some, List, [], ◌∷◌, ◌++◌, length, length-append, map, drop}
use Rattle.std.specs.Prelude.{slice_get, nat_lt, not, filter, cond, flat_map, ◌||◌, ◌&&◌, ◌==◌, if◌then◌else◌}
use Rattle.std.specs.List.{sum_by, range_with_len}
use Rattle.std.proofs.lemmas.Bool.{cases_lt, lt-ltb, le-ltb}
use Rattle.std.proofs.lemmas.List.{map-append}
use Rattle.std.proofs.lemmas.List.Concat.{flat_map-cons}
use Rattle.std.proofs.lemmas.List.Elements.{filter-append}
use Rattle.std.proofs.lemmas.List.FromFn.{length-range_with_len}
use Rattle.std.proofs.lemmas.List.Sums.{sum_by-cons}
use Rattle.norm_base.specs.Settings.{Settings}
use Rattle.fec_plan.specs.Points.{Point, Position, point, position, point_before}
use Rattle.norm_order.specs.Entries.{Entry}
use Rattle.norm_order.specs.Shapes.{Shape, shape_of, shapes_of, symbols_of, encoded_in, closed_blocks}
use Rattle.norm_send_rules.specs.SenderState.{SenderState}
use Rattle.norm_send_rules.specs.InWindow.{stands_behind, current_shapes}
use Rattle.norm_send_rules.specs.Repairable.{encoded_of, encoded_from, repairable}
use Rattle.norm_send_rules.specs.Room.{window}
use Rattle.norm_send_rules.specs.declared.want.Want.{Want}
use Rattle.norm_send_rules.specs.declared.want.Want.TheVariants.{Info, Symbol}
use Rattle.tx_window.specs.EntryState.{first_of}
use Rattle.tx_window.specs.EntryRepairable.{repairable_from}
use Rattle.tx_window.specs.declared.entry.HeldEntry.{HeldEntry}
use Rattle.tx_window.specs.WindowState.{first_block, OnlyFirstLacks}
use Rattle.tx_window.proofs.ListLemmas.{drop_one, map_drop}

-- how many of some infos and symbols stand behind a point
abbrev pub behind : Point → List Want → ℕ
behind d ws = length (filter (stands_behind d) ws)

behind_both : (d : Point) (xs ys : List Want) → behind d (xs ++ ys) ≡ behind d xs + behind d ys
behind_both d xs ys = ap length (filter-append (stands_behind d) xs ys) ∙ length-append (filter (stands_behind d) xs) (filter (stands_behind d) ys)

-- ---- one object's

-- a block is kept whole or not at all
abbrev is_kept : Point → ℕ → ℕ → Bool
is_kept d index block = not (point_before (point index block) d)

in_block : (d : Point) (index block : ℕ) (xs : List ℕ) (b : Bool) → is_kept d index block ≡ b
    → behind d (map Symbol (map (λ symbol. position index block symbol) xs)) ≡ elim b as (λ v. ℕ) [ true ↦ length xs | false ↦ 0 ]
in_block d index block [] true is = refl
in_block d index block [] false is = refl
in_block d index block (x ∷ xs) b is = go (is_kept d index block) b is (in_block d index block xs b is)
  where
    rest : List Want
    rest = filter (stands_behind d) (map Symbol (map (λ symbol. position index block symbol) xs))

    go : (t u : Bool) → t ≡ u → length rest ≡ (elim u as (λ v. ℕ) [ true ↦ length xs | false ↦ 0 ])
        → length (cond t (Symbol (position index block x) ∷ rest) rest) ≡ (elim u as (λ v. ℕ) [ true ↦ length (x ∷ xs) | false ↦ 0 ])
    go true true e more = omega (arith, more)
    go false false e more = more
    go true false e more = absurd (cc)
    go false true e more = absurd (cc)

-- the encoded symbols of so many blocks
abbrev in_blocks : ℕ → Shape → ℕ → ℕ → List Want
in_blocks index s from count = map Symbol (flat_map (λ block. symbols_of index (encoded_in s block) block) (range_with_len from count))

one_more : (d : Point) (index : ℕ) (s : Shape) (from count : ℕ) (b : Bool) → is_kept d index from ≡ b
    → behind d (in_blocks index s from (suc count)) ≡ (elim b as (λ v. ℕ) [ true ↦ encoded_in s from | false ↦ 0 ]) + behind d (in_blocks index s (from + 1) count)
one_more d index s from count b is =
    ap (λ xs. behind d (map Symbol xs)) (flat_map-cons blocks from (range_with_len (from + 1) count))
    ∙ ap (behind d) (map-append Symbol (blocks from) (flat_map blocks (range_with_len (from + 1) count)))
    ∙ behind_both d (map Symbol (blocks from)) (in_blocks index s (from + 1) count)
    ∙ ap (λ n. n + behind d (in_blocks index s (from + 1) count))
    (in_block d index from (range_with_len 0 (encoded_in s from)) b is
    ∙ ap (λ n. elim b as (λ v. ℕ) [ true ↦ n | false ↦ 0 ]) (length-range_with_len 0 (encoded_in s from)))
  where
    blocks : ℕ → List Position
    blocks block = symbols_of index (encoded_in s block) block

all_kept : (d : Point) (index : ℕ) (s : Shape) (from count : ℕ) → ((block : ℕ) → from ≤ block → is_kept d index block ≡ true)
    → behind d (in_blocks index s from count) ≡ sum_by (encoded_in s) (range_with_len from count)
all_kept d index s from zero kept = refl
all_kept d index s from (suc count) kept =
    one_more d index s from count true (kept from (omega arith))
    ∙ ap (λ n. encoded_in s from + n) (all_kept d index s (from + 1) count (λ block le. kept block (omega (arith, le))))
    ∙ sym (sum_by-cons (encoded_in s) from (range_with_len (from + 1) count))

-- nothing of the blocks before the first that is kept
passed_over : (d : Point) (index : ℕ) (s : Shape) (from gone count : ℕ) → ((block : ℕ) → block < from + gone → is_kept d index block ≡ false)
    → behind d (in_blocks index s from count) ≡ behind d (in_blocks index s (from + gone) (count - gone))
passed_over d index s from zero count none =
    ap (λ k. behind d (in_blocks index s k count)) (let z : from ≡ from + 0 = omega arith in z)
    ∙ ap (λ k. behind d (in_blocks index s (from + 0) k)) (let z : count ≡ count - 0 = omega arith in z)
passed_over d index s from (suc gone) zero none = ap (λ k. behind d (in_blocks index s (from + suc gone) k)) (let z : 0 ≡ 0 - suc gone = omega arith in z)
passed_over d index s from (suc gone) (suc count) none =
    one_more d index s from count false (none from (omega arith))
    ∙ (let z : 0 + behind d (in_blocks index s (from + 1) count) ≡ behind d (in_blocks index s (from + 1) count) = omega arith in z)
    ∙ passed_over d index s (from + 1) gone count (λ block lt. none block (omega (arith, lt)))
    ∙ ap (λ k. behind d (in_blocks index s k (count - gone))) (let z : from + 1 + gone ≡ from + suc gone = omega arith in z)
    ∙ ap (λ k. behind d (in_blocks index s (from + suc gone) k)) (let z : count - gone ≡ suc count - suc gone = omega arith in z)

-- which blocks are kept, by index and block of the point
kept_later : (d : Point) (index block : ℕ) → d.index < index → is_kept d index block ≡ true
kept_later d index block lt = by_tests (nat_lt block d.block) (le-ltb index d.index (omega (arith, lt))) (apart index d.index lt)
  where
    apart : (m n : ℕ) → n < m → (m == n) ≡ false
    apart m n less = grind (arith)

    by_tests : (b : Bool) → nat_lt index d.index ≡ false → (index == d.index) ≡ false → not (nat_lt index d.index || (index == d.index && b)) ≡ true
    by_tests b before same = rw (before, same) refl

kept_here : (d : Point) (index block : ℕ) → index ≡ d.index → d.block ≤ block → is_kept d index block ≡ true
kept_here d index block same le = by_tests (index == d.index) (le-ltb index d.index (omega (arith, same))) (le-ltb block d.block le)
  where
    none : (t : Bool) → not (false || (t && false)) ≡ true
    none true = refl
    none false = refl

    by_tests : (t : Bool) → nat_lt index d.index ≡ false → nat_lt block d.block ≡ false → not (nat_lt index d.index || (t && nat_lt block d.block)) ≡ true
    by_tests t before earlier = rw (before, earlier) (none t)

gone_here : (d : Point) (index block : ℕ) → index ≡ d.index → block < d.block → is_kept d index block ≡ false
gone_here d index block same lt = by_tests (le-ltb index d.index (omega (arith, same))) (equal index d.index same) (lt-ltb block d.block lt)
  where
    equal : (m n : ℕ) → m ≡ n → (m == n) ≡ true
    equal m n e = grind (arith, e)

    by_tests : nat_lt index d.index ≡ false → (index == d.index) ≡ true → nat_lt block d.block ≡ true → not (nat_lt index d.index || (index == d.index && nat_lt block d.block)) ≡ false
    by_tests before is earlier = rw (before, is, earlier) refl

gone_before : (d : Point) (index block : ℕ) → index < d.index → is_kept d index block ≡ false
gone_before d index block lt = by_tests (index == d.index && nat_lt block d.block) (lt-ltb index d.index lt)
  where
    by_tests : (t : Bool) → nat_lt index d.index ≡ true → not (nat_lt index d.index || t) ≡ false
    by_tests t before = rw before refl

-- its info stands behind a point exactly where its index does
info_behind : (d : Point) (index : ℕ) (info b : Bool) → not (nat_lt index d.index) ≡ b
    → behind d (if info then Info index ∷ [] else []) ≡ elim b as (λ v. ℕ) [ true ↦ (elim info as (λ x. ℕ) [ true ↦ 1 | false ↦ 0 ]) | false ↦ 0 ]
info_behind d index true b is = go (not (nat_lt index d.index)) b is
  where
    go : (t u : Bool) → t ≡ u → length (cond t (Info index ∷ []) []) ≡ elim u as (λ v. ℕ) [ true ↦ 1 | false ↦ 0 ]
    go true true e = refl
    go false false e = refl
    go true false e = absurd (cc)
    go false true e = absurd (cc)
info_behind d index false true is = refl
info_behind d index false false is = refl

-- the first block of an entry that is kept, by the point before which all was dropped
abbrev pub kept_first : Point → ℕ → ℕ
kept_first d index = elim (nat_lt d.index index) as (λ v. ℕ) [ true ↦ 0 | false ↦ d.block ]

entry_behind : (d : Point) (index : ℕ) (s : Shape) → d.index ≤ index → behind d (encoded_of index s) ≡ repairable_from s (kept_first d index)
entry_behind d index s from =
    behind_both d (if s.info then Info index ∷ [] else []) (in_blocks index s 0 (closed_blocks s))
    ∙ ap (λ n. n + behind d (in_blocks index s 0 (closed_blocks s))) (info_behind d index s.info true (ap not (le-ltb index d.index from)))
    ∙ ap (λ n. info + n) (go (cases_lt d.index index))
  where
    info : ℕ
    info = elim s.info as (λ x. ℕ) [ true ↦ 1 | false ↦ 0 ]

    summed : ℕ → ℕ
    summed first = sum_by (encoded_in s) (range_with_len first (closed_blocks s - first))

    go : (d.index < index) ⊎ (index ≤ d.index) → behind d (in_blocks index s 0 (closed_blocks s)) ≡ summed (kept_first d index)
    go (inl lt) =
        all_kept d index s 0 (closed_blocks s) (λ block le. kept_later d index block lt)
        ∙ ap (λ n. sum_by (encoded_in s) (range_with_len 0 n)) (let z : closed_blocks s ≡ closed_blocks s - 0 = omega arith in z)
        ∙ ap (λ (b : Bool). summed (elim b as (λ v. ℕ) [ true ↦ 0 | false ↦ d.block ])) (sym (lt-ltb d.index index lt))
    go (inr le) =
        let same : index ≡ d.index = omega (arith, le, from) in
        passed_over d index s 0 d.block (closed_blocks s) (λ block lt. gone_here d index block same (omega (arith, lt)))
        ∙ ap (λ n. behind d (in_blocks index s n (closed_blocks s - d.block))) (let z : 0 + d.block ≡ d.block = omega arith in z)
        ∙ all_kept d index s d.block (closed_blocks s - d.block) (λ block up. kept_here d index block same up)
        ∙ ap (λ (b : Bool). summed (elim b as (λ v. ℕ) [ true ↦ 0 | false ↦ d.block ])) (sym (le-ltb d.index index le))

entry_gone : (d : Point) (index : ℕ) (s : Shape) → index < d.index → behind d (encoded_of index s) ≡ 0
entry_gone d index s lt =
    behind_both d (if s.info then Info index ∷ [] else []) (in_blocks index s 0 (closed_blocks s))
    ∙ ap (λ n. n + behind d (in_blocks index s 0 (closed_blocks s))) (info_behind d index s.info false (ap not (lt-ltb index d.index lt)))
    ∙ ap (λ n. 0 + n)
    (passed_over d index s 0 (closed_blocks s) (closed_blocks s) (λ block less. gone_before d index block lt)
    ∙ ap (λ n. behind d (in_blocks index s (0 + closed_blocks s) n)) (let z : closed_blocks s - closed_blocks s ≡ 0 = omega arith in z))

-- ---- those of a row

front : (d : Point) (index : ℕ) (shapes : List Shape) (count : ℕ) → index + count ≤ d.index
    → behind d (encoded_from index shapes) ≡ behind d (encoded_from (index + count) (drop count shapes))
unfolding encoded_from
front d index shapes zero le = ap (λ n. behind d (encoded_from n shapes)) (let z : index ≡ index + 0 = omega arith in z)
front d index [] (suc count) le = refl
front d index (s ∷ shapes) (suc count) le =
    behind_both d (encoded_of index s) (encoded_from (index + 1) shapes)
    ∙ ap (λ n. n + behind d (encoded_from (index + 1) shapes)) (entry_gone d index s (omega (arith, le)))
    ∙ (let z : 0 + behind d (encoded_from (index + 1) shapes) ≡ behind d (encoded_from (index + 1) shapes) = omega arith in z)
    ∙ front d (index + 1) shapes count (omega (arith, le))
    ∙ ap (λ n. behind d (encoded_from n (drop count shapes))) (let z : index + 1 + count ≡ index + suc count = omega arith in z)

-- those of the window, whose first entry has the point's index
pub of_window : (p : Settings) (s : SenderState) → repairable p s ≡ behind s.current.drop (encoded_from s.current.drop.index (shapes_of p (window s)))
of_window p s =
    let d = s.current.drop in
    front d 0 (current_shapes p s) d.index (omega arith)
    ∙ ap (λ n. behind d (encoded_from n (drop d.index (current_shapes p s)))) (let z : 0 + d.index ≡ d.index = omega arith in z)
    ∙ ap (λ xs. behind d (encoded_from d.index xs)) (sym (map_drop (λ (entry : Entry). shape_of p entry.object) d.index s.current.order))

pub none_left : (d : Point) (index : ℕ) (shapes : List Shape) → shapes ≡ [] → behind d (encoded_from index shapes) ≡ 0
unfolding encoded_from
none_left d index [] is = refl
none_left d index (x ∷ xs) is = absurd (cc)

-- those from a place on, by the entry there
pub one_entry : (p : Settings) (d : Point) (entries : List Entry) (n : ℕ) (entry : Entry) → slice_get entries n ≡ Some entry
    → behind d (encoded_from (d.index + n) (shapes_of p (drop n entries)))
    ≡ repairable_from (shape_of p entry.object) (kept_first d (d.index + n)) + behind d (encoded_from (d.index + suc n) (shapes_of p (drop (suc n) entries)))
unfolding encoded_from
one_entry p d entries n entry there =
    ap (λ (xs : List Entry). behind d (encoded_from (d.index + n) (shapes_of p xs))) (drop_one n entries entry there)
    ∙ behind_both d (encoded_of (d.index + n) (shape_of p entry.object)) (encoded_from (d.index + n + 1) (shapes_of p (drop (suc n) entries)))
    ∙ ap (λ k. k + behind d (encoded_from (d.index + n + 1) (shapes_of p (drop (suc n) entries)))) (entry_behind d (d.index + n) (shape_of p entry.object) (omega arith))
    ∙ ap (λ k. repairable_from (shape_of p entry.object) (kept_first d (d.index + n)) + behind d (encoded_from k (shapes_of p (drop (suc n) entries))))
    (let z : d.index + n + 1 ≡ d.index + suc n = omega arith in z)

-- the first kept block of the entry at a place
pub first_at : (first n : ℕ) (items : List HeldEntry) (e : HeldEntry) → slice_get items n ≡ Some e → OnlyFirstLacks items
    → first_of e ≡ kept_first (point first (first_block items)) (first + n)
first_at first n [] e here only = absurd (cc)
first_at first zero (x ∷ items) e here only =
    ap first_of (let z : e ≡ x = cc in z)
    ∙ ap (λ (b : Bool). elim b as (λ v. ℕ) [ true ↦ 0 | false ↦ first_of x ]) (sym (le-ltb first (first + 0) (omega arith)))
first_at first (suc n) (x ∷ items) e here only =
    only n e here ∙ ap (λ (b : Bool). elim b as (λ v. ℕ) [ true ↦ 0 | false ↦ first_of x ]) (sym (lt-ltb first (first + suc n) (omega arith)))
