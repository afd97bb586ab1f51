-- What stands behind a drop point that lies within an object.
use Rattle.std.proofs.Common.{◌≡◌, ℕ, zero, suc, ◌+◌, ◌/◌, ◌<◌, ◌≤◌, ◌⊎◌, inl, inr, List, [], ◌∷◌, ◌++◌, map, length, set, get_or, drop, take, cond, Some, Bool, true, false, refl, sym, ap, subst, ◌∙◌, arith}
use Rattle.std.specs.Prelude.{nat_lt, not, filter, slice_get, ◌||◌}
use Rattle.std.specs.List.{list_any, AllByRecursion}
use Rattle.std.proofs.lemmas.List.Folds.{list_any-append}
use Rattle.std.proofs.lemmas.Bool.{cases_lt, lt-ltb, le-ltb}
use Rattle.std.proofs.lemmas.Bool.Decides.{nat_tests}
use Rattle.std.proofs.lemmas.List.Elements.{filter-append}
use Rattle.std.proofs.lemmas.List.{length-drop}
use Rattle.std.proofs.Math.Seq.{map-set_same}
use Rattle.fec_plan.specs.Points.{Point, point_before}
use Rattle.fec_plan.specs.declared.position.Position.{Position}
use Rattle.norm_order.specs.Sets.{with_member}
use Rattle.norm_send_rules.specs.Laws.{Rise}
use Rattle.norm_send_rules.specs.Wants.{want_before}
use Rattle.norm_send_rules.specs.InWindow.{stands_behind}
use Rattle.norm_send_rules.specs.declared.want.Want.{Want}
use Rattle.norm_send_rules.specs.declared.want.Want.TheVariants.{Info, Symbol}
use Rattle.norm_send_rules.proofs.AskingLemmas.{all_filtered}
use Rattle.nack_union.specs.Slots.{want_at, stands_from}
use Rattle.nack_union.specs.Kept.{Marked, FrontsAre, listed, moved_on, moved_front, any_gone, first_block, closed_marks}
use Rattle.nack_union.proofs.Dropped.{front, first_of, not_behind, behind_later, behind_block, block_behind, index_behind, index_at}
use Rattle.nack_union.proofs.Unions.{Side, side}

-- what stands behind a drop point, with one more that does
pub filter_with_want : (d : Point) (w : Want) (xs : List Want) → stands_behind d w ≡ true → Rise xs
    → filter (stands_behind d) (with_member want_before w xs) ≡ with_member want_before w (filter (stands_behind d) xs)
unfolding with_member
filter_with_want d w [] is rise = ap (λ b. cond b (w ∷ []) []) is
filter_with_want d w (y ∷ ys) is rise =
    go (want_before w y) (want_before y w) (stands_behind d y) refl refl refl (filter_with_want d w ys is rise.1)
  where
    go : (b c q : Bool) → want_before w y ≡ b → want_before y w ≡ c → stands_behind d y ≡ q
        → filter (stands_behind d) (with_member want_before w ys) ≡ with_member want_before w (filter (stands_behind d) ys)
        → filter (stands_behind d) (elim b as (λ _. List Want) [ true ↦ w ∷ y ∷ ys | false ↦ elim c [ true ↦ y ∷ with_member want_before w ys | false ↦ y ∷ ys ] ])
        ≡ with_member want_before w (filter (stands_behind d) (y ∷ ys))
    go true c q f g h rest =
        ap (λ t. cond t (w ∷ filter (stands_behind d) (y ∷ ys)) (filter (stands_behind d) (y ∷ ys))) is
        ∙ sym (front w (filter (stands_behind d) (y ∷ ys)) (all_filtered (λ v. want_before w v ≡ true) (stands_behind d) (y ∷ ys) (first_of w y ys f rise)))
    go false true true f g h rest =
        ap (λ t. cond t (y ∷ filter (stands_behind d) (with_member want_before w ys)) (filter (stands_behind d) (with_member want_before w ys))) h
        ∙ ap (λ zs. y ∷ zs) rest
        ∙ sym (after (want_before w y) (want_before y w) f g)
        ∙ sym (ap (λ t. with_member want_before w (cond t (y ∷ filter (stands_behind d) ys) (filter (stands_behind d) ys))) h)
      where
        after : (b c : Bool) → b ≡ false → c ≡ true → elim b as (λ _. List Want) [ true ↦ w ∷ y ∷ filter (stands_behind d) ys | false ↦ elim c [ true ↦ y ∷ with_member want_before w (filter (stands_behind d) ys) | false ↦ y ∷ filter (stands_behind d) ys ] ]
            ≡ y ∷ with_member want_before w (filter (stands_behind d) ys)
        after true c f g = absurd (cc)
        after false true f g = refl
        after false false f g = absurd (cc)
    go false true false f g h rest =
        ap (λ t. cond t (y ∷ filter (stands_behind d) (with_member want_before w ys)) (filter (stands_behind d) (with_member want_before w ys))) h
        ∙ rest
        ∙ sym (ap (λ t. with_member want_before w (cond t (y ∷ filter (stands_behind d) ys) (filter (stands_behind d) ys))) h)
    go false false true f g h rest =
        ap (λ t. cond t (y ∷ filter (stands_behind d) ys) (filter (stands_behind d) ys)) h
        ∙ sym (same (want_before w y) (want_before y w) f g)
        ∙ sym (ap (λ t. with_member want_before w (cond t (y ∷ filter (stands_behind d) ys) (filter (stands_behind d) ys))) h)
      where
        same : (b c : Bool) → b ≡ false → c ≡ false → elim b as (λ _. List Want) [ true ↦ w ∷ y ∷ filter (stands_behind d) ys | false ↦ elim c [ true ↦ y ∷ with_member want_before w (filter (stands_behind d) ys) | false ↦ y ∷ filter (stands_behind d) ys ] ]
            ≡ y ∷ filter (stands_behind d) ys
        same true c f g = absurd (cc)
        same false true f g = absurd (cc)
        same false false f g = refl
    go false false false f g h rest =
        absurd (apart (side w y))
      where
        clash : false ≡ true → ⊥
        clash e = cc

        apart : Side w y → ⊥
        apart (inl k) = clash (sym f ∙ k.0)
        apart (inr (inl same)) = clash (sym h ∙ sym (ap (stands_behind d) same) ∙ is)
        apart (inr (inr k)) = clash (sym g ∙ k.1)

-- what stands at a slot of the point's object, of a later one, and of an earlier one
same_test : (d : Point) (i slot : ℕ) → d.index ≡ i → stands_behind d (want_at i slot) ≡ stands_from d.block slot
same_test d i zero e = ap not (le-ltb i d.index (omega (arith, e)))
same_test d i (suc n) e = ap not (plain d.index d.block (n / 256) e)
  where
    plain : (index block b : ℕ) → index ≡ i → point_before (record { index = i; block = b }) (record { index = index; block = block }) ≡ nat_lt b block
    plain index block b same = grind (arith, nat_tests)

-- what is kept of an object stands behind the point with which the window begins
pub behind_at : (d : Point) (i slot : ℕ) → d.index ≤ i → (i ≡ d.index → stands_from d.block slot ≡ true) → stands_behind d (want_at i slot) ≡ true
behind_at d i slot le from = go (cases_lt d.index i)
  where
    go : (d.index < i) ⊎ (i ≤ d.index) → stands_behind d (want_at i slot) ≡ true
    go (inl lt) = behind_later d (want_at i slot) (let f = index_at i slot in omega (arith, f, lt))
    go (inr more) =
        let same : i ≡ d.index = omega (arith, le, more) in
        same_test d i slot (sym same) ∙ from same

-- and what stands behind it is kept
pub from_at : (d : Point) (i slot : ℕ) → i ≡ d.index → stands_behind d (want_at i slot) ≡ true → stands_from d.block slot ≡ true
from_at d i slot same e = sym (same_test d i slot (sym same)) ∙ e

-- all stands from block 0 on
pub from_start : (slot : ℕ) → stands_from 0 slot ≡ true
from_start zero = refl
from_start (suc n) = ap not (le-ltb (n / 256) 0 (omega arith))

pub all_from_start : (xs : List ℕ) → filter (stands_from 0) xs ≡ xs
all_from_start [] = refl
all_from_start (x ∷ xs) = ap (λ b. cond b (x ∷ filter (stands_from 0) xs) (filter (stands_from 0) xs)) (from_start x) ∙ ap (λ ys. x ∷ ys) (all_from_start xs)

here_behind : (d : Point) (i : ℕ) (xs : List ℕ) → d.index ≡ i → filter (stands_behind d) (map (want_at i) xs) ≡ map (want_at i) (filter (stands_from d.block) xs)
here_behind d i [] e = refl
here_behind d i (x ∷ xs) e =
    ap (λ t. cond t (want_at i x ∷ filter (stands_behind d) (map (want_at i) xs)) (filter (stands_behind d) (map (want_at i) xs))) (same_test d i x e)
    ∙ go (stands_from d.block x) (here_behind d i xs e)
  where
    go : (t : Bool) → filter (stands_behind d) (map (want_at i) xs) ≡ map (want_at i) (filter (stands_from d.block) xs)
        → cond t (want_at i x ∷ filter (stands_behind d) (map (want_at i) xs)) (filter (stands_behind d) (map (want_at i) xs))
        ≡ map (want_at i) (cond t (x ∷ filter (stands_from d.block) xs) (filter (stands_from d.block) xs))
    go true rest = ap (λ zs. want_at i x ∷ zs) rest
    go false rest = rest

all_behind : (d : Point) (i : ℕ) (xs : List ℕ) → d.index < i → filter (stands_behind d) (map (want_at i) xs) ≡ map (want_at i) xs
all_behind d i [] lt = refl
all_behind d i (x ∷ xs) lt =
    ap (λ t. cond t (want_at i x ∷ filter (stands_behind d) (map (want_at i) xs)) (filter (stands_behind d) (map (want_at i) xs)))
    (behind_later d (want_at i x) (let f = index_at i x in omega (arith, f, lt)))
    ∙ ap (λ zs. want_at i x ∷ zs) (all_behind d i xs lt)

none_behind : (d : Point) (i : ℕ) (xs : List ℕ) → i < d.index → filter (stands_behind d) (map (want_at i) xs) ≡ []
none_behind d i [] lt = refl
none_behind d i (x ∷ xs) lt =
    ap (λ t. cond t (want_at i x ∷ filter (stands_behind d) (map (want_at i) xs)) (filter (stands_behind d) (map (want_at i) xs)))
    (not_behind d (want_at i x) (let f = index_at i x in omega (arith, f, lt)))
    ∙ none_behind d i xs lt

all_later : (slots : Marked → List ℕ) (d : Point) (i : ℕ) (ms : List Marked) → d.index < i → filter (stands_behind d) (listed slots i ms) ≡ listed slots i ms
all_later slots d i [] lt = refl
all_later slots d i (m ∷ ms) lt =
    filter-append (stands_behind d) (map (want_at i) (slots m)) (listed slots (suc i) ms)
    ∙ ap (λ zs. zs ++ filter (stands_behind d) (listed slots (suc i) ms)) (all_behind d i (slots m) lt)
    ∙ ap (λ zs. map (want_at i) (slots m) ++ zs) (all_later slots d (suc i) ms (omega (arith, lt)))

-- of the first object what stands from a block on
front_listed : (slots : Marked → List ℕ) (block index : ℕ) (ms : List Marked) (m : Marked)
    → ((n : ℕ) (x : Marked) → slots (moved_on n x) ≡ filter (stands_from n) (slots x))
    → listed slots index (moved_front block (m ∷ ms)) ≡ map (want_at index) (filter (stands_from block) (slots m)) ++ listed slots (suc index) ms
front_listed slots zero index ms m moved = ap (λ xs. map (want_at index) xs ++ listed slots (suc index) ms) (sym (all_from_start (slots m)))
front_listed slots (suc block) index ms m moved = ap (λ xs. map (want_at index) xs ++ listed slots (suc index) ms) (moved (suc block) m)

no_front : (slots : Marked → List ℕ) (block index : ℕ) → listed slots index (moved_front block []) ≡ []
no_front slots zero index = refl
no_front slots (suc block) index = refl

-- the first n objects are dropped, and what lies before the block of the next
pub listed_front : (slots : Marked → List ℕ) (d : Point) (i n : ℕ) (ms : List Marked) → ((n : ℕ) (x : Marked) → slots (moved_on n x) ≡ filter (stands_from n) (slots x))
    → d.index ≡ i + n → filter (stands_behind d) (listed slots i ms) ≡ listed slots d.index (moved_front d.block (drop n ms))
listed_front slots d i zero [] moved f = sym (no_front slots d.block d.index)
listed_front slots d i zero (m ∷ ms) moved f =
    filter-append (stands_behind d) (map (want_at i) (slots m)) (listed slots (suc i) ms)
    ∙ ap (λ zs. zs ++ filter (stands_behind d) (listed slots (suc i) ms)) (here_behind d i (slots m) (omega (arith, f)))
    ∙ ap (λ zs. map (want_at i) (filter (stands_from d.block) (slots m)) ++ zs) (all_later slots d (suc i) ms (omega (arith, f)))
    ∙ sym (front_listed slots d.block i ms m moved)
    ∙ ap (λ j. listed slots j (moved_front d.block (m ∷ ms))) (let g : i ≡ d.index = omega (arith, f) in g)
listed_front slots d i (suc n) [] moved f = sym (no_front slots d.block d.index)
listed_front slots d i (suc n) (m ∷ ms) moved f =
    filter-append (stands_behind d) (map (want_at i) (slots m)) (listed slots (suc i) ms)
    ∙ ap (λ zs. zs ++ filter (stands_behind d) (listed slots (suc i) ms)) (none_behind d i (slots m) (omega (arith, f)))
    ∙ listed_front slots d (suc i) n ms moved (omega (arith, f))

-- a drop takes away a want where a dropped object has one, or one that lies before the block
any_of : (d : Point) (i : ℕ) (xs : List ℕ) → i < d.index
    → list_any (λ w. not (stands_behind d w)) (map (want_at i) xs) ≡ nat_lt 0 (length xs)
any_of d i [] lt = sym (le-ltb 0 0 (omega arith))
any_of d i (x ∷ xs) lt =
    ap (λ t. not t || list_any (λ w. not (stands_behind d w)) (map (want_at i) xs)) (not_behind d (want_at i x) (let f = index_at i x in omega (arith, f, lt)))
    ∙ sym (lt-ltb 0 (suc (length xs)) (omega arith))

any_here : (d : Point) (i : ℕ) (xs : List ℕ) → d.index ≡ i
    → list_any (λ w. not (stands_behind d w)) (map (want_at i) xs) ≡ list_any (λ slot. not (stands_from d.block slot)) xs
any_here d i [] e = refl
any_here d i (x ∷ xs) e =
    ap (λ t. not t || list_any (λ w. not (stands_behind d w)) (map (want_at i) xs)) (same_test d i x e)
    ∙ ap (λ t. not (stands_from d.block x) || t) (any_here d i xs e)

none_of : (d : Point) (i : ℕ) (xs : List ℕ) → d.index < i → list_any (λ w. not (stands_behind d w)) (map (want_at i) xs) ≡ false
none_of d i [] lt = refl
none_of d i (x ∷ xs) lt =
    ap (λ t. not t || list_any (λ w. not (stands_behind d w)) (map (want_at i) xs)) (behind_later d (want_at i x) (let f = index_at i x in omega (arith, f, lt)))
    ∙ none_of d i xs lt

none_later : (d : Point) (i : ℕ) (ms : List Marked) → d.index < i → list_any (λ w. not (stands_behind d w)) (listed (λ m. m.wants) i ms) ≡ false
none_later d i [] lt = refl
none_later d i (m ∷ ms) lt =
    list_any-append (λ w. not (stands_behind d w)) (map (want_at i) m.wants) (listed (λ m. m.wants) (suc i) ms)
    ∙ ap (λ t. t || list_any (λ w. not (stands_behind d w)) (listed (λ m. m.wants) (suc i) ms)) (none_of d i m.wants lt)
    ∙ none_later d (suc i) ms (omega (arith, lt))

none_gone : (xs : List ℕ) → list_any (λ slot. not (stands_from 0 slot)) xs ≡ false
none_gone [] = refl
none_gone (x ∷ xs) = ap (λ t. not t || list_any (λ slot. not (stands_from 0 slot)) xs) (from_start x) ∙ none_gone xs

or_none : (a b : Bool) → b ≡ false → (a || b) ≡ a
or_none true b e = refl
or_none false b e = e

front_gone : (block : ℕ) (m : Marked) (ms : List Marked) → list_any (λ slot. not (stands_from block slot)) m.wants ≡ any_gone block (m ∷ ms)
front_gone zero m ms = none_gone m.wants
front_gone (suc block) m ms = refl

no_gone : (block : ℕ) → false ≡ any_gone block []
no_gone zero = refl
no_gone (suc block) = refl

or_assoc : (a b c : Bool) → (a || (b || c)) ≡ ((a || b) || c)
or_assoc true b c = refl
or_assoc false b c = refl

pub any_front : (d : Point) (i n : ℕ) (ms : List Marked) → d.index ≡ i + n
    → list_any (λ w. not (stands_behind d w)) (listed (λ m. m.wants) i ms) ≡ (list_any (λ m. nat_lt 0 (length m.wants)) (take n ms) || any_gone d.block (drop n ms))
any_front d i zero [] f = no_gone d.block
any_front d i zero (m ∷ ms) f =
    list_any-append (λ w. not (stands_behind d w)) (map (want_at i) m.wants) (listed (λ m. m.wants) (suc i) ms)
    ∙ or_none _ _ (none_later d (suc i) ms (omega (arith, f)))
    ∙ any_here d i m.wants (omega (arith, f))
    ∙ front_gone d.block m ms
any_front d i (suc n) [] f = no_gone d.block
any_front d i (suc n) (m ∷ ms) f =
    list_any-append (λ w. not (stands_behind d w)) (map (want_at i) m.wants) (listed (λ m. m.wants) (suc i) ms)
    ∙ ap (λ t. t || list_any (λ w. not (stands_behind d w)) (listed (λ m. m.wants) (suc i) ms)) (any_of d i m.wants (omega (arith, f)))
    ∙ ap (λ t. nat_lt 0 (length m.wants) || t) (any_front d (suc i) n ms (omega (arith, f)))
    ∙ or_assoc (nat_lt 0 (length m.wants)) _ _

-- this point does not lie behind the other
abbrev pub NotBehind : Point → Point → Type 0
NotBehind d e = (d.index ≤ e.index) × (e.index ≡ d.index → d.block ≤ e.block)

-- what stands behind a later point stands behind an earlier one
pub behind_both : (d e : Point) → NotBehind d e → (w : Want) → stands_behind e w ≡ true → stands_behind d w ≡ true
behind_both d e on (Info i) h = let le = index_behind e (Info i) h in ap not (le-ltb i d.index (let low = on.0 in omega (arith, le, low)))
behind_both d e on (Symbol at) h =
    let both = block_behind e at h in
    let low = on.0 in
    let le = both.0 in
    behind_block d at (omega (arith, le, low)) (λ same.
    let here : at.index ≡ e.index = omega (arith, same, le, low) in
    let there : e.index ≡ d.index = omega (arith, same, here) in
    let one = both.1 here in let two = on.1 there in omega (arith, one, two))

-- The fronts of the objects of a window.

zeros_at : (ms : List Marked) (k : ℕ) (d : Marked) → k < length ms → AllByRecursion (λ other. other ≡ 0) (map (λ (m : Marked). m.first) ms) → (get_or ms k d).first ≡ 0
zeros_at [] k d lt all = absurd (omega (arith, lt))
zeros_at (m ∷ ms) zero d lt all = all.0
zeros_at (m ∷ ms) (suc k) d lt all = zeros_at ms k d (omega (arith, lt)) all.1

pub front_at : (block : ℕ) (ms : List Marked) (k : ℕ) (d : Marked) → k < length ms → FrontsAre block (map (λ m. m.first) ms)
    → (0 < k → (get_or ms k d).first ≡ 0) × (k ≡ 0 → (get_or ms k d).first ≡ block)
front_at block [] k d lt fronts = absurd (omega (arith, lt))
front_at block (m ∷ ms) zero d lt fronts = (λ some. absurd (omega (arith, some)), λ e. fronts.0)
front_at block (m ∷ ms) (suc k) d lt fronts = (λ some. zeros_at ms k d (omega (arith, lt)) fronts.1, λ e. absurd (omega (arith, e)))

-- a symbol of a block that is kept stands behind the drop point
pub symbol_behind : (d : Point) (first k : ℕ) (at : Position) (ms : List Marked) (x : Marked) → FrontsAre d.block (map (λ m. m.first) ms) → first ≡ d.index → k < length ms
    → at.index ≡ first + k → (get_or ms k x).first ≤ at.block → stands_behind d (Symbol at) ≡ true
symbol_behind d first k at ms x fronts starts lt index from =
    behind_block d at (omega (arith, starts, index))
    (λ same. let e = (front_at d.block ms k x lt fronts).1 (omega (arith, same, starts, index)) in omega (arith, e, from))

-- and what stands behind it is of a block that is kept
pub block_kept : (d : Point) (first k : ℕ) (at : Position) (ms : List Marked) (x : Marked) → FrontsAre d.block (map (λ m. m.first) ms) → first ≡ d.index → k < length ms
    → at.index ≡ first + k → stands_behind d (Symbol at) ≡ true → (get_or ms k x).first ≤ at.block
block_kept d first k at ms x fronts starts lt index behind = go (cases_lt 0 k)
  where
    go : (0 < k) ⊎ (k ≤ 0) → (get_or ms k x).first ≤ at.block
    go (inl some) = let e = (front_at d.block ms k x lt fronts).0 some in omega (arith, e)
    go (inr none) =
        let e = (front_at d.block ms k x lt fronts).1 (omega (arith, none)) in
        let le = (block_behind d at behind).1 (omega (arith, none, starts, index)) in
        omega (arith, e, le)

-- the same of slots
pub slot_behind : (d : Point) (first k slot : ℕ) (ms : List Marked) (x : Marked) → FrontsAre d.block (map (λ m. m.first) ms) → first ≡ d.index → k < length ms
    → stands_from (get_or ms k x).first slot ≡ true → stands_behind d (want_at (first + k) slot) ≡ true
slot_behind d first k slot ms x fronts starts lt from =
    behind_at d (first + k) slot (omega (arith, starts))
    (λ same. ap (λ n. stands_from n slot) (sym ((front_at d.block ms k x lt fronts).1 (omega (arith, same, starts)))) ∙ from)

pub slot_kept : (d : Point) (first k slot : ℕ) (ms : List Marked) (x : Marked) → FrontsAre d.block (map (λ m. m.first) ms) → first ≡ d.index → k < length ms
    → stands_behind d (want_at (first + k) slot) ≡ true → stands_from (get_or ms k x).first slot ≡ true
slot_kept d first k slot ms x fronts starts lt behind = go (cases_lt 0 k)
  where
    go : (0 < k) ⊎ (k ≤ 0) → stands_from (get_or ms k x).first slot ≡ true
    go (inl some) = ap (λ n. stands_from n slot) ((front_at d.block ms k x lt fronts).0 some) ∙ from_start slot
    go (inr none) =
        ap (λ n. stands_from n slot) ((front_at d.block ms k x lt fronts).1 (omega (arith, none)))
        ∙ from_at d (first + k) slot (omega (arith, none, starts)) behind

-- they stay where one object's marks become others of the same front, and as another joins
pub fronts_set : (block : ℕ) (ms : List Marked) (k : ℕ) (new d : Marked) → new.first ≡ (get_or ms k d).first → FrontsAre block (map (λ m. m.first) ms)
    → FrontsAre block (map (λ m. m.first) (set ms k new))
fronts_set block ms k new d same fronts = subst (FrontsAre block) (sym (map-set_same (λ (m : Marked). m.first) ms k new d same)) fronts

more_zeros : (ms : List Marked) (m : Marked) → m.first ≡ 0 → AllByRecursion (λ other. other ≡ 0) (map (λ (x : Marked). x.first) ms)
    → AllByRecursion (λ other. other ≡ 0) (map (λ (x : Marked). x.first) (ms ++ m ∷ []))
more_zeros [] m whole all = (whole, tt)
more_zeros (x ∷ ms) m whole all = (all.0, more_zeros ms m whole all.1)

pub fronts_joined : (block : ℕ) (ms : List Marked) (m : Marked) → m.first ≡ 0 → FrontsAre block (map (λ x. x.first) ms) → FrontsAre block (map (λ x. x.first) (ms ++ m ∷ []))
fronts_joined block [] m whole fronts = (whole ∙ sym fronts, tt)
fronts_joined block (x ∷ ms) m whole fronts = (fronts.0, more_zeros ms m whole fronts.1)

-- and of the objects that are left, the first is kept from its block on
fewer_zeros : (n : ℕ) (ms : List Marked) → AllByRecursion (λ other. other ≡ 0) (map (λ (x : Marked). x.first) ms)
    → AllByRecursion (λ other. other ≡ 0) (map (λ (x : Marked). x.first) (drop n ms))
fewer_zeros zero ms all = all
fewer_zeros (suc n) [] all = tt
fewer_zeros (suc n) (m ∷ ms) all = fewer_zeros n ms all.1

front_moved : (block : ℕ) (ms : List Marked) (k : ℕ) → ms ≡ ms → (length ms ≡ 0 → block ≡ 0) → (block ≡ 0 → (m : Marked) (rest : List Marked) → ms ≡ m ∷ rest → m.first ≡ 0)
    → ((m : Marked) (rest : List Marked) → ms ≡ m ∷ rest → AllByRecursion (λ other. other ≡ 0) (map (λ (x : Marked). x.first) rest))
    → FrontsAre block (map (λ x. x.first) (moved_front block ms))
front_moved zero [] k e empty whole rest = refl
front_moved zero (m ∷ ms) k e empty whole rest = (whole refl m ms refl, rest m ms refl)
front_moved (suc block) [] k e empty whole rest = absurd (let none = empty refl in omega (arith, none))
front_moved (suc block) (m ∷ ms) k e empty whole rest = (refl, rest m ms refl)

pub some_first : (ms : List Marked) (n : ℕ) (m : Marked) (rest : List Marked) → drop n ms ≡ m ∷ rest → slice_get ms n ≡ Some m
some_first [] zero m rest e = absurd (cc)
some_first (x ∷ ms) zero m rest e = ap Some (same e)
  where
    same : x ∷ ms ≡ m ∷ rest → x ≡ m
    same f = cc
some_first [] (suc n) m rest e = absurd (cc)
some_first (x ∷ ms) (suc n) m rest e = some_first ms n m rest e

rest_zeros : (ms : List Marked) (n old : ℕ) (m : Marked) (rest : List Marked) → FrontsAre old (map (λ x. x.first) ms) → drop n ms ≡ m ∷ rest
    → AllByRecursion (λ other. other ≡ 0) (map (λ (x : Marked). x.first) rest)
rest_zeros [] zero old m rest fronts e = absurd (cc)
rest_zeros [] (suc n) old m rest fronts e = absurd (cc)
rest_zeros (x ∷ ms) zero old m rest fronts e = subst (λ xs. AllByRecursion (λ other. other ≡ 0) (map (λ (y : Marked). y.first) xs)) (tail e) fronts.1
  where
    tail : x ∷ ms ≡ m ∷ rest → ms ≡ rest
    tail f = cc
rest_zeros (x ∷ ms) (suc n) old m rest fronts e =
    (subst (λ xs. AllByRecursion (λ other. other ≡ 0) (map (λ (y : Marked). y.first) xs)) e (fewer_zeros n ms fronts.1)).1

pub fronts_retired : (block n old : ℕ) (ms : List Marked) → FrontsAre old (map (λ x. x.first) ms) → n ≤ length ms → (0 < block → n < length ms)
    → ((m : Marked) → slice_get ms n ≡ Some m → m.first ≤ block) → FrontsAre block (map (λ x. x.first) (moved_front block (drop n ms)))
fronts_retired block n old ms fronts within some onward =
    front_moved block (drop n ms) n refl
    (λ none. by none (cases_lt 0 block))
    (λ start m rest e. let le = onward m (some_first ms n m rest e) in omega (arith, le, start))
    (λ m rest e. rest_zeros ms n old m rest fronts e)
  where
    by : length (drop n ms) ≡ 0 → (0 < block) ⊎ (block ≤ 0) → block ≡ 0
    by none (inl later) = let less = some later in absurd (omega (arith, none, less, length-drop n ms))
    by none (inr le) = omega (arith, le)

pub first_front : (block : ℕ) (ms : List Marked) → FrontsAre block (map (λ m. m.first) ms) → first_block ms ≡ block
first_front block [] fronts = sym fronts
first_front block (m ∷ ms) fronts = fronts.0

pub block_closed : (ms : List Marked) → first_block (map closed_marks ms) ≡ first_block ms
block_closed [] = refl
block_closed (m ∷ ms) = refl
