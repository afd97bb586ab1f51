-- What is new next, object by object.
use Rattle.std.proofs.Common.{◌≡◌, ℕ, zero, suc, ◌+◌, ◌-◌, ◌<◌, ◌≤◌, cond, List, [], ◌∷◌, ◌++◌, length, drop, get_or, Bool, true, false, None, Some, refl, sym, ap, ◌∙◌, subst, arith, ◌⊎◌, inl, inr}
use Rattle.std.specs.Prelude.{◌==◌, map, find, flat_map, ◌&&◌, ◌||◌, not, nat_lt, nat_le, Option, slice_get}
use Rattle.std.specs.List.{AllByRecursion, range_with_len}
use Rattle.std.proofs.lemmas.Bool.Decides.{Decides-ltb, leb_tells}
use Rattle.std.proofs.lemmas.List.{map-append}
use Rattle.std.proofs.lemmas.Option.{slice_get_cases}
use Rattle.norm_base.specs.Settings.{Settings}
use Rattle.fec_plan.specs.Points.{Point, position, position_before}
use Rattle.norm_order.specs.Entries.{Entry}
use Rattle.norm_order.specs.Shapes.{Shape, shape_of, shapes_of, symbols_of, closed_blocks}
use Rattle.norm_send_rules.specs.SenderState.{SenderState}
use Rattle.norm_send_rules.specs.InWindow.{stands_behind}
use Rattle.norm_send_rules.specs.Sending.{sent_once, new_of, new_from, next_new}
use Rattle.norm_send_rules.specs.Wants.{want_before, want_index}
use Rattle.norm_send_rules.specs.Laws.{NextLaws, first_standing, next_at}
use Rattle.norm_send_rules.specs.declared.want.Want.{Want}
use Rattle.norm_send_rules.specs.declared.want.Want.TheVariants.{Info as WantedInfo, Symbol}
use Rattle.fec_plan.proofs.PositionLemmas.{Before, before_decides}
use Rattle.norm_send_rules.proofs.NewLemmas.{all_append, all_implied, new_past}

-- ---- what is new of an object has its index

of_index_symbols : (index block from count : ℕ)
    → AllByRecursion (λ w. want_index w ≡ index) (map Symbol (map (λ symbol. position index block symbol) (range_with_len from count)))
of_index_symbols index block from zero = tt
of_index_symbols index block from (suc count) = (refl, of_index_symbols index block (from + 1) count)

of_index_blocks : (p : Settings) (index : ℕ) (s : Shape) (from count : ℕ)
    → AllByRecursion (λ w. want_index w ≡ index) (map Symbol (flat_map (λ block. symbols_of index (sent_once p s block) block) (range_with_len from count)))
of_index_blocks p index s from zero = tt
of_index_blocks p index s from (suc count) =
    let A : List Want → Type 0 = λ ws. AllByRecursion (λ w. want_index w ≡ index) ws in
    subst A (sym (map-append Symbol (symbols_of index (sent_once p s from) from) _))
    (all_append (λ w. want_index w ≡ index) _ _ (of_index_symbols index from 0 (sent_once p s from)) (of_index_blocks p index s (from + 1) count))

of_index : (p : Settings) (index : ℕ) (s : Shape) → AllByRecursion (λ w. want_index w ≡ index) (new_of p index s)
of_index p index s =
    all_append (λ w. want_index w ≡ index) _ _ (infos s.info) (of_index_blocks p index s 0 (closed_blocks s))
  where
    infos : (b : Bool) → AllByRecursion (λ w. want_index w ≡ index) (cond b (WantedInfo index ∷ []) [])
    infos true = (refl, tt)
    infos false = tt

from_index : (p : Settings) (index : ℕ) (shapes : List Shape) → AllByRecursion (λ w. index ≤ want_index w) (new_from p index shapes)
unfolding new_from
from_index p index [] = tt
from_index p index (s ∷ shapes) =
    all_append (λ w. index ≤ want_index w) _ _
    (all_implied (λ w. want_index w ≡ index) (λ w. index ≤ want_index w) _ (λ w e. omega arith) (of_index p index s))
    (all_implied (λ w. index + 1 ≤ want_index w) (λ w. index ≤ want_index w) _ (λ w le. omega arith) (from_index p (index + 1) shapes))

-- ---- the tests by the index of a want

is_false : (b : Bool) → (b ≡ true → ⊥) → b ≡ false
is_false true never = absurd (never refl)
is_false false _ = refl

not_before : (a b : Want) → want_index b < want_index a → want_before a b ≡ false
not_before (WantedInfo i) (WantedInfo j) lt = is_false (nat_lt i j) (λ e. let less = (Decides-ltb i j).0 e in omega arith)
not_before (WantedInfo i) (Symbol at) lt = go (leb_tells i at.index)
  where
    go : ((nat_le i at.index ≡ true) × (i ≤ at.index)) ⊎ ((nat_le i at.index ≡ false) × (at.index < i)) → nat_le i at.index ≡ false
    go (inl tells) = absurd (omega (arith, tells.1))
    go (inr tells) = tells.0
not_before (Symbol at) (WantedInfo j) lt = is_false (nat_lt at.index j) (λ e. let less = (Decides-ltb at.index j).0 e in omega arith)
not_before (Symbol at) (Symbol other) lt = is_false (position_before at other) (λ e. go ((before_decides at other).0 e))
  where
    go : Before at other → ⊥
    go (inl (inl less)) = omega arith
    go (inl (inr (same, less))) = omega arith
    go (inr ((same, too), less)) = omega arith

-- an object's infos and symbols are not before its own info
not_before_info : (index : ℕ) (w : Want) → index ≤ want_index w → want_before w (WantedInfo index) ≡ false
not_before_info index (WantedInfo i) le = is_false (nat_lt i index) (λ e. let less = (Decides-ltb i index).0 e in omega arith)
not_before_info index (Symbol at) le = is_false (nat_lt at.index index) (λ e. let less = (Decides-ltb at.index index).0 e in omega arith)

lost_before : (point : Point) (w : Want) → want_index w < point.index → stands_behind point w ≡ false
lost_before point (WantedInfo i) lt = ap not ((Decides-ltb i point.index).1 lt)
lost_before point (Symbol at) lt =
    ap (λ b. not (b || (at.index == point.index && nat_lt at.block point.block))) ((Decides-ltb at.index point.index).1 lt)

-- ---- the first that passes a test

-- where there is none in the front, that of the rest
abbrev either : Option Want → Option Want → Option Want
either front rest = elim front [ Some w ↦ Some w | None ↦ rest ]

found_along : (test : Want → Bool) (front rest : List Want) → find test (front ++ rest) ≡ either (find test front) (find test rest)
found_along test [] rest = refl
found_along test (w ∷ front) rest = go (test w) (found_along test front rest)
  where
    go : (b : Bool) → find test (front ++ rest) ≡ either (find test front) (find test rest)
        → cond b (Some w) (find test (front ++ rest)) ≡ either (cond b (Some w) (find test front)) (find test rest)
    go true more = refl
    go false more = more

found_alike : (f g : Want → Bool) (wants : List Want) → AllByRecursion (λ w. f w ≡ g w) wants → find f wants ≡ find g wants
found_alike f g [] all = refl
found_alike f g (w ∷ wants) all =
    ap (λ b. cond b (Some w) (find f wants)) all.0 ∙ ap (λ found. cond (g w) (Some w) found) (found_alike f g wants all.1)

found_nowhere : (test : Want → Bool) (wants : List Want) → AllByRecursion (λ w. test w ≡ false) wants → find test wants ≡ None
found_nowhere test [] all = refl
found_nowhere test (w ∷ wants) all = ap (λ b. cond b (Some w) (find test wants)) all.0 ∙ found_nowhere test wants all.1

-- ---- object by object

entry_first : (i : ℕ) (order : List Entry) (entry : Entry) → slice_get order i ≡ Some entry → drop i order ≡ entry ∷ drop (i + 1) order
entry_first i [] entry e = absurd (none_some e)
  where
    none_some : None ≡ Some entry → ⊥
    none_some e = cc
entry_first zero (x ∷ order) entry e = ap (λ (y : Entry). y ∷ order) (same x entry e)
  where
    same : (x y : Entry) → Some x ≡ Some y → x ≡ y
    same x y e = cc
entry_first (suc i) (x ∷ order) entry e =
    entry_first i order entry e ∙ ap (λ n. entry ∷ drop n (x ∷ order)) (let e : suc (i + 1) ≡ suc i + 1 = omega arith in e)

nothing_past : (p : Settings) (s : SenderState) → length s.current.order ≤ want_index s.next → next_new p s ≡ None
nothing_past p s le =
    ap (λ wants. find (λ w. not (want_before w s.next) && stands_behind s.current.drop w) wants) (new_past p (want_index s.next) (want_index s.next) s.current.order le)

object_by_object : (p : Settings) (s : SenderState) (entry : Entry) → slice_get s.current.order (want_index s.next) ≡ Some entry
    → next_new p s ≡ either (first_standing s (new_of p (want_index s.next) (shape_of p entry.object))) (next_new p (next_at (want_index s.next + 1) s))
unfolding new_from
object_by_object p s entry e =
    ap (λ (order : List Entry). find test (new_from p index (shapes_of p order))) (entry_first index s.current.order entry e)
    ∙ found_along test (new_of p index (shape_of p entry.object)) rest
    ∙ ap (λ found. either (first_standing s (new_of p index (shape_of p entry.object))) found)
    (found_alike test test_behind rest (all_implied (λ w. index + 1 ≤ want_index w) (λ w. test w ≡ test_behind w) rest alike (from_index p (index + 1) shapes)))
  where
    index : ℕ
    index = want_index s.next

    shapes : List Shape
    shapes = shapes_of p (drop (index + 1) s.current.order)

    rest : List Want
    rest = new_from p (index + 1) shapes

    test : Want → Bool
    test w = not (want_before w s.next) && stands_behind s.current.drop w

    test_behind : Want → Bool
    test_behind w = not (want_before w (WantedInfo (index + 1))) && stands_behind s.current.drop w

    alike : (w : Want) → index + 1 ≤ want_index w → test w ≡ test_behind w
    alike w le = ap (λ b. not b && stands_behind s.current.drop w)
        (not_before w s.next (omega arith) ∙ sym (not_before_info (index + 1) w le))

one_dropped : (p : Settings) (s : SenderState) → want_index s.next < s.current.drop.index → next_new p s ≡ next_new p (next_at (want_index s.next + 1) s)
one_dropped p s lt = go (slice_get_cases s.current.order (want_index s.next))
  where
    none : (entry : Entry) → first_standing s (new_of p (want_index s.next) (shape_of p entry.object)) ≡ None
    none entry = found_nowhere (λ w. not (want_before w s.next) && stands_behind s.current.drop w) _
        (all_implied (λ w. want_index w ≡ want_index s.next) (λ w. (not (want_before w s.next) && stands_behind s.current.drop w) ≡ false) _
        (λ w e. neither (not (want_before w s.next)) _ (lost_before s.current.drop w (omega arith)))
        (of_index p (want_index s.next) (shape_of p entry.object)))
      where
        neither : (a b : Bool) → b ≡ false → (a && b) ≡ false
        neither true b e = e
        neither false b e = refl

    go : (slice_get s.current.order (want_index s.next) ≡ slice_get s.current.order (want_index s.next))
        × (((x : Entry) × (want_index s.next < length s.current.order) × (slice_get s.current.order (want_index s.next) ≡ Some x) × (get_or s.current.order (want_index s.next) x ≡ x))
        ⊎ ((length s.current.order ≤ want_index s.next) × (slice_get s.current.order (want_index s.next) ≡ None)))
        → next_new p s ≡ next_new p (next_at (want_index s.next + 1) s)
    go (again, inl (entry, within, is, same)) =
        object_by_object p s entry is ∙ ap (λ found. either found (next_new p (next_at (want_index s.next + 1) s))) (none entry)
    go (again, inr (past, is)) = nothing_past p s past ∙ sym (nothing_past p (next_at (want_index s.next + 1) s) (omega arith))

all_dropped : (p : Settings) (n : ℕ) (s : SenderState) → want_index s.next + suc n ≡ s.current.drop.index → next_new p s ≡ next_new p (next_at s.current.drop.index s)
all_dropped p zero s e =
    one_dropped p s (omega arith) ∙ ap (λ n. next_new p (next_at n s)) (let is : want_index s.next + 1 ≡ s.current.drop.index = omega arith in is)
all_dropped p (suc n) s e =
    one_dropped p s (omega arith) ∙ all_dropped p n (next_at (want_index s.next + 1) s) (omega arith)

pub next_laws : NextLaws
next_laws = record {
  at_end = λ p s le. nothing_past p s le;
  at_hand = λ p s entry e. object_by_object p s entry e;
  dropped = λ p s lt. all_dropped p (s.current.drop.index - want_index s.next - 1) s (omega arith);
}
