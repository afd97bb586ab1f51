-- What is new of an order stands in the order of wants.
use Rattle.std.proofs.Common.{◌≡◌, ℕ, zero, suc, ◌+◌, ◌<◌, ◌≤◌, cond, List, [], ◌∷◌, ◌++◌, length, take, drop, Bool, true, false, None, Some, refl, sym, ap, ◌∙◌, subst, append_assoc, arith, ◌⊎◌, inl, inr}
use Rattle.std.specs.Prelude.{map, find, flat_map, nat_le}
use Rattle.std.specs.Bool.{Decides}
use Rattle.std.specs.List.{AllByRecursion, range_with_len}
use Rattle.std.proofs.lemmas.Bool.Decides.{Decides-ltb, leb_tells}
use Rattle.std.proofs.lemmas.List.{map-append}
use Rattle.norm_base.specs.Settings.{Settings}
use Rattle.fec_plan.specs.Points.{position}
use Rattle.fec_plan.specs.declared.position.Position.{Position}
use Rattle.fec_plan.proofs.PositionLemmas.{Before, before_decides}
use Rattle.norm_order.specs.Entries.{Entry}
use Rattle.norm_order.specs.Shapes.{Shape, shape_of, shapes_of, symbols_of, closed_blocks}
use Rattle.norm_send_rules.specs.Sending.{sent_once, new_of, new_from, behind}
use Rattle.norm_send_rules.specs.Wants.{want_before, want_index}
use Rattle.norm_send_rules.specs.Laws.{Rise}
use Rattle.norm_send_rules.specs.declared.want.Want.{Want}
use Rattle.norm_send_rules.specs.declared.want.Want.TheVariants.{Info, Symbol}

pub clash : false ≡ true → ⊥
clash e = cc

-- ---- the order of wants, as numbers

abbrev pub Earlier : Want → Want → Type 0
Earlier (Info i) (Info j) = i < j
Earlier (Info i) (Symbol at) = i ≤ at.index
Earlier (Symbol at) (Info j) = at.index < j
Earlier (Symbol at) (Symbol other) = Before at other

le_decides : (a b : ℕ) → Decides (nat_le a b) (a ≤ b)
le_decides a b = go (leb_tells a b)
  where
    go : ((nat_le a b ≡ true) × (a ≤ b)) ⊎ ((nat_le a b ≡ false) × (b < a)) → Decides (nat_le a b) (a ≤ b)
    go (inl tells) = (λ e. tells.1, λ le. tells.0)
    go (inr tells) = (λ e. absurd (clash (sym tells.0 ∙ e)), λ le. absurd (let lt = tells.1 in omega (arith, lt, le)))

pub earlier_decides : (a b : Want) → Decides (want_before a b) (Earlier a b)
earlier_decides (Info i) (Info j) = Decides-ltb i j
earlier_decides (Info i) (Symbol at) = le_decides i at.index
earlier_decides (Symbol at) (Info j) = Decides-ltb at.index j
earlier_decides (Symbol at) (Symbol other) = before_decides at other

index_of_before : (a b : Position) → Before a b → a.index ≤ b.index
index_of_before a b h = omega (arith, h)

earlier_index : (a b : Want) → Earlier a b → want_index a ≤ want_index b
earlier_index (Info i) (Info j) h = omega (arith, h)
earlier_index (Info i) (Symbol at) h = h
earlier_index (Symbol at) (Info j) h = omega (arith, h)
earlier_index (Symbol at) (Symbol other) h = index_of_before at other h

-- a want of a lower index comes first
pub lower_first : (a b : Want) → want_index a < want_index b → want_before a b ≡ true
lower_first a b lt = (earlier_decides a b).1 (go a b lt)
  where
    go : (a b : Want) → want_index a < want_index b → Earlier a b
    go (Info i) (Info j) lt = lt
    go (Info i) (Symbol at) lt = omega (arith, lt)
    go (Symbol at) (Info j) lt = lt
    go (Symbol at) (Symbol other) lt = inl (inl lt)

-- what comes first has no higher index
pub first_lower : (a b : Want) → want_before a b ≡ true → want_index a ≤ want_index b
first_lower a b e = earlier_index a b ((earlier_decides a b).0 e)

-- nothing comes before the first info
pub none_first : (w : Want) → want_before w (Info 0) ≡ true → ⊥
none_first (Info i) e = (let lt = (Decides-ltb i 0).0 e in omega (arith, lt))
none_first (Symbol at) e = (let lt = (Decides-ltb at.index 0).0 e in omega (arith, lt))

-- nothing lies between a want and the place behind it
pub none_between : (w x : Want) → want_before w x ≡ true → want_before x (behind w) ≡ true → ⊥
none_between w x e f = go w x ((earlier_decides w x).0 e) ((earlier_decides x (behind w)).0 f)
  where
    go : (w x : Want) → Earlier w x → Earlier x (behind w) → ⊥
    go (Info i) (Info j) h g = omega (arith, h, g)
    go (Info i) (Symbol at) h g = omega (arith, h, g)
    go (Symbol at) (Info j) h g = omega (arith, h, g)
    go (Symbol at) (Symbol other) h g = omega (arith, h, g)

-- ---- rising lists

pub all_implied : {X : Type 0} (P Q : X → Type 0) (xs : List X) → ((x : X) → P x → Q x) → AllByRecursion P xs → AllByRecursion Q xs
all_implied P Q [] f all = tt
all_implied P Q (x ∷ xs) f all = (f x all.0, all_implied P Q xs f all.1)

pub all_two : {X : Type 0} (P Q : X → Type 0) (xs : List X) → AllByRecursion P xs → AllByRecursion Q xs → AllByRecursion (λ x. P x × Q x) xs
all_two P Q [] f g = tt
all_two P Q (x ∷ xs) f g = ((f.0, g.0), all_two P Q xs f.1 g.1)

pub all_append : {X : Type 0} (P : X → Type 0) (xs ys : List X) → AllByRecursion P xs → AllByRecursion P ys → AllByRecursion P (xs ++ ys)
all_append P [] ys h g = g
all_append P (x ∷ xs) ys h g = (h.0, all_append P xs ys h.1 g)

-- each of some wants comes before each of others
rise_append : (P Q : Want → Type 0) (xs ys : List Want) → ((x y : Want) → P x → Q y → want_before x y ≡ true) → AllByRecursion P xs → AllByRecursion Q ys
    → Rise xs → Rise ys → Rise (xs ++ ys)
rise_append P Q [] ys apart all others h g = g
rise_append P Q (x ∷ xs) ys apart all others h g = (
  all_append (λ y. want_before x y ≡ true) xs ys h.0 (all_implied Q (λ y. want_before x y ≡ true) ys (λ y is. apart x y all.0 is) others),
  rise_append P Q xs ys apart all.1 others h.1 g,
)

-- ---- the symbols of a block

-- a symbol of a block, from one on
abbrev IsIn : ℕ → ℕ → ℕ → Want → Type 0
IsIn index block from (Info i) = ⊥
IsIn index block from (Symbol at) = (at.index ≡ index) × (at.block ≡ block) × (from ≤ at.symbol)

abbrev row : ℕ → ℕ → ℕ → ℕ → List Want
row index block from count = map Symbol (map (λ symbol. position index block symbol) (range_with_len from count))

later_in : (index block from : ℕ) (w : Want) → IsIn index block (from + 1) w → IsIn index block from w
later_in index block from (Info i) h = h
later_in index block from (Symbol at) h = (h.0, h.1, (let le = h.2 in omega (arith, le)))

row_in : (index block from count : ℕ) → AllByRecursion (IsIn index block from) (row index block from count)
row_in index block from zero = tt
row_in index block from (suc count) = (
  (refl, refl, omega arith),
  all_implied (IsIn index block (from + 1)) (IsIn index block from) (row index block (from + 1) count) (later_in index block from) (row_in index block (from + 1) count),
)

next_before : (index block from : ℕ) (w : Want) → IsIn index block (from + 1) w → want_before (Symbol (position index block from)) w ≡ true
next_before index block from (Info i) h = absurd h
next_before index block from (Symbol at) h =
    (before_decides (position index block from) at).1 (inr ((sym h.0, sym h.1), (let le = h.2 in omega (arith, le))))

row_rises : (index block from count : ℕ) → Rise (row index block from count)
row_rises index block from zero = tt
row_rises index block from (suc count) = (
  all_implied (IsIn index block (from + 1)) (λ w. want_before (Symbol (position index block from)) w ≡ true) (row index block (from + 1) count)
      (next_before index block from) (row_in index block (from + 1) count),
  row_rises index block (from + 1) count,
)

-- a symbol of an object, from a block on
abbrev IsFrom : ℕ → ℕ → Want → Type 0
IsFrom index from (Info i) = ⊥
IsFrom index from (Symbol at) = (at.index ≡ index) × (from ≤ at.block)

abbrev rows : (ℕ → ℕ) → ℕ → ℕ → ℕ → List Want
rows n index from count = map Symbol (flat_map (λ block. symbols_of index (n block) block) (range_with_len from count))

in_block : (index block from : ℕ) (w : Want) → IsIn index block from w → IsFrom index block w
in_block index block from (Info i) h = h
in_block index block from (Symbol at) h = (h.0, (let e = h.1 in omega (arith, e)))

later_from : (index from : ℕ) (w : Want) → IsFrom index (from + 1) w → IsFrom index from w
later_from index from (Info i) h = h
later_from index from (Symbol at) h = (h.0, (let le = h.1 in omega (arith, le)))

rows_from : (n : ℕ → ℕ) (index from count : ℕ) → AllByRecursion (IsFrom index from) (rows n index from count)
rows_from n index from zero = tt
rows_from n index from (suc count) =
    subst (AllByRecursion (IsFrom index from)) (sym (map-append Symbol (symbols_of index (n from) from) _))
    (all_append (IsFrom index from) (row index from 0 (n from)) (rows n index (from + 1) count)
    (all_implied (IsIn index from 0) (IsFrom index from) (row index from 0 (n from)) (in_block index from 0) (row_in index from 0 (n from)))
    (all_implied (IsFrom index (from + 1)) (IsFrom index from) (rows n index (from + 1) count) (later_from index from) (rows_from n index (from + 1) count)))

block_before : (index from : ℕ) (x y : Want) → IsIn index from 0 x → IsFrom index (from + 1) y → want_before x y ≡ true
block_before index from (Info i) y h g = absurd h
block_before index from (Symbol at) (Info i) h g = absurd g
block_before index from (Symbol at) (Symbol other) h g =
    (before_decides at other).1 (inl (inr (h.0 ∙ sym g.0, (let e = h.1 in let le = g.1 in omega (arith, e, le)))))

rows_rise : (n : ℕ → ℕ) (index from count : ℕ) → Rise (rows n index from count)
rows_rise n index from zero = tt
rows_rise n index from (suc count) =
    subst Rise (sym (map-append Symbol (symbols_of index (n from) from) _))
    (rise_append (IsIn index from 0) (IsFrom index (from + 1)) (row index from 0 (n from)) (rows n index (from + 1) count) (block_before index from)
    (row_in index from 0 (n from)) (rows_from n index (from + 1) count) (row_rises index from 0 (n from)) (rows_rise n index (from + 1) count))

-- ---- what is new of objects

from_index : (index from : ℕ) (w : Want) → IsFrom index from w → want_index w ≡ index
from_index index from (Info i) h = absurd h
from_index index from (Symbol at) h = h.0

info_before : (index : ℕ) (w : Want) → IsFrom index 0 w → want_before (Info index) w ≡ true
info_before index (Info i) h = absurd h
info_before index (Symbol at) h = (le_decides index at.index).1 (let e = h.0 in omega (arith, e))

object_index : (p : Settings) (index : ℕ) (s : Shape) → AllByRecursion (λ w. want_index w ≡ index) (new_of p index s)
object_index p index s = go s.info
  where
    symbols : AllByRecursion (λ w. want_index w ≡ index) (rows (sent_once p s) index 0 (closed_blocks s))
    symbols = all_implied (IsFrom index 0) (λ w. want_index w ≡ index) (rows (sent_once p s) index 0 (closed_blocks s)) (from_index index 0)
        (rows_from (sent_once p s) index 0 (closed_blocks s))

    go : (b : Bool) → AllByRecursion (λ w. want_index w ≡ index) (cond b (Info index ∷ []) [] ++ rows (sent_once p s) index 0 (closed_blocks s))
    go true = (refl, symbols)
    go false = symbols

object_rises : (p : Settings) (index : ℕ) (s : Shape) → Rise (new_of p index s)
object_rises p index s = go s.info
  where
    symbols : Rise (rows (sent_once p s) index 0 (closed_blocks s))
    symbols = rows_rise (sent_once p s) index 0 (closed_blocks s)

    go : (b : Bool) → Rise (cond b (Info index ∷ []) [] ++ rows (sent_once p s) index 0 (closed_blocks s))
    go true = (
      all_implied (IsFrom index 0) (λ w. want_before (Info index) w ≡ true) (rows (sent_once p s) index 0 (closed_blocks s)) (info_before index)
          (rows_from (sent_once p s) index 0 (closed_blocks s)),
      symbols,
    )
    go false = symbols

-- the index is one of so many
abbrev pub IsAmong : ℕ → ℕ → Want → Type 0
IsAmong index count w = (index ≤ want_index w) × (want_index w < index + count)

pub new_among : (p : Settings) (index : ℕ) (shapes : List Shape) → AllByRecursion (IsAmong index (length shapes)) (new_from p index shapes)
unfolding new_from
new_among p index [] = tt
new_among p index (s ∷ shapes) =
    all_append (IsAmong index (length (s ∷ shapes))) (new_of p index s) (new_from p (index + 1) shapes)
    (all_implied (λ w. want_index w ≡ index) (IsAmong index (length (s ∷ shapes))) (new_of p index s) (λ w e. (omega (arith, e), omega (arith, e))) (object_index p index s))
    (all_implied (IsAmong (index + 1) (length shapes)) (IsAmong index (length (s ∷ shapes))) (new_from p (index + 1) shapes)
    (λ w is. (let le = is.0 in let lt = is.1 in (omega (arith, le), omega (arith, lt)))) (new_among p (index + 1) shapes))

pub new_rises : (p : Settings) (index : ℕ) (shapes : List Shape) → Rise (new_from p index shapes)
unfolding new_from
new_rises p index [] = tt
new_rises p index (s ∷ shapes) =
    rise_append (λ w. want_index w ≡ index) (IsAmong (index + 1) (length shapes)) (new_of p index s) (new_from p (index + 1) shapes)
    (λ x y e is. lower_first x y (let le = is.0 in omega (arith, e, le))) (object_index p index s) (new_among p (index + 1) shapes) (object_rises p index s)
    (new_rises p (index + 1) shapes)

none : (n : ℕ) → n ≡ n + 0
none n = omega arith

-- what is new of the first so many, and of the others
pub new_split : (p : Settings) (index k : ℕ) (shapes : List Shape)
    → new_from p index shapes ≡ new_from p index (take k shapes) ++ new_from p (index + k) (drop k shapes)
unfolding new_from
new_split p index zero shapes = ap (λ n. new_from p n shapes) (none index)
new_split p index (suc k) [] = refl
new_split p index (suc k) (s ∷ shapes) =
    ap (λ ws. new_of p index s ++ ws) (new_split p (index + 1) k shapes)
    ∙ ap (λ n. new_of p index s ++ (new_from p (index + 1) (take k shapes) ++ new_from p n (drop k shapes))) (next index k)
    ∙ sym (append_assoc (new_of p index s) (new_from p (index + 1) (take k shapes)) (new_from p (index + suc k) (drop k shapes)))
  where
    next : (i n : ℕ) → i + 1 + n ≡ i + suc n
    next i n = omega arith

-- what is new with more behind
pub new_more : (p : Settings) (index : ℕ) (shapes more : List Shape)
    → new_from p index (shapes ++ more) ≡ new_from p index shapes ++ new_from p (index + length shapes) more
unfolding new_from
new_more p index [] more = ap (λ n. new_from p n more) (none index)
new_more p index (s ∷ shapes) more =
    ap (λ ws. new_of p index s ++ ws) (new_more p (index + 1) shapes more)
    ∙ ap (λ n. new_of p index s ++ (new_from p (index + 1) shapes ++ new_from p n more)) (next index (length shapes))
    ∙ sym (append_assoc (new_of p index s) (new_from p (index + 1) shapes) (new_from p (index + length (s ∷ shapes)) more))
  where
    next : (i n : ℕ) → i + 1 + n ≡ i + suc n
    next i n = omega arith

-- ---- the first of a rising list

same_want : (x y : Want) → Some x ≡ Some y → x ≡ y
same_want x y e = cc

-- what passes a test is the first that does, or comes behind it
pub first_found : (test : Want → Bool) (ws : List Want) (w : Want) → Rise ws → find test ws ≡ Some w
    → AllByRecursion (λ x. test x ≡ true → (x ≡ w) ⊎ (want_before w x ≡ true)) ws
first_found test [] w rise e = tt
first_found test (x ∷ ws) w rise e = go (test x) refl (λ e. first_found test ws w rise.1 e) e
  where
    go : (b : Bool) → test x ≡ b → (find test ws ≡ Some w → AllByRecursion (λ x. test x ≡ true → (x ≡ w) ⊎ (want_before w x ≡ true)) ws)
        → cond b (Some x) (find test ws) ≡ Some w
        → (test x ≡ true → (x ≡ w) ⊎ (want_before w x ≡ true)) × AllByRecursion (λ x. test x ≡ true → (x ≡ w) ⊎ (want_before w x ≡ true)) ws
    go true is later e =
        let same = same_want x w e in (
          λ passes. inl same,
          all_implied (λ y. want_before x y ≡ true) (λ y. test y ≡ true → (y ≡ w) ⊎ (want_before w y ≡ true)) ws
              (λ y before passes. inr (subst (λ v. want_before v y ≡ true) same before)) rise.0,
        )
    go false is later e = (λ passes. absurd (clash (sym is ∙ passes)), later e)

pub none_found : (test : Want → Bool) (ws : List Want) → find test ws ≡ None → AllByRecursion (λ x. test x ≡ false) ws
none_found test [] e = tt
none_found test (x ∷ ws) e = go (test x) refl (λ e. none_found test ws e) e
  where
    go : (b : Bool) → test x ≡ b → (find test ws ≡ None → AllByRecursion (λ x. test x ≡ false) ws) → cond b (Some x) (find test ws) ≡ None
        → (test x ≡ false) × AllByRecursion (λ x. test x ≡ false) ws
    go true is later e = absurd (cc)
    go false is later e = (is, later e)

pub shapes_drop : (p : Settings) (n : ℕ) (order : List Entry) → shapes_of p (drop n order) ≡ drop n (shapes_of p order)
shapes_drop p zero order = refl
shapes_drop p (suc n) [] = refl
shapes_drop p (suc n) (x ∷ order) = shapes_drop p n order

pub shapes_more : (p : Settings) (order more : List Entry) → shapes_of p (order ++ more) ≡ shapes_of p order ++ shapes_of p more
shapes_more p [] more = refl
shapes_more p (x ∷ order) more = ap (λ (xs : List Shape). shape_of p x.object ∷ xs) (shapes_more p order more)

pub shapes_many : (p : Settings) (order : List Entry) → length (shapes_of p order) ≡ length order
shapes_many p [] = refl
shapes_many p (x ∷ order) = ap suc (shapes_many p order)
