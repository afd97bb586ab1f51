-- What is new next: the first info or symbol of the order from a place on that was not dropped.
use Rattle.std.proofs.Common.{◌≡◌, ℕ, zero, suc, ◌+◌, ◌-◌, ◌<◌, ◌≤◌, ◌⊎◌, inl, inr, Bool, true, false, refl, ap, ◌∙◌, arith, Some, None, List, [], ◌∷◌, ◌++◌, map}
use Rattle.std.specs.Prelude.{find, cond, flat_map, if◌then◌else◌}
use Rattle.std.specs.List.{range_with_len}
use Rattle.std.proofs.lemmas.Bool.{cases_lt}
use Rattle.std.proofs.lemmas.List.{map-append}
use Rattle.norm_base.specs.Settings.{Settings}
use Rattle.fec_plan.specs.Points.{position}
use Rattle.fec_plan.specs.declared.position.Position.{Position}
use Rattle.norm_order.specs.Shapes.{Shape, symbols_of, closed_blocks}
use Rattle.norm_send_rules.specs.Sending.{sent_once, new_from}
use Rattle.norm_send_rules.specs.declared.want.Want.{Want}
use Rattle.norm_send_rules.specs.declared.want.Want.TheVariants.{Info, Symbol}

passed : {X : Type 0} (b : Bool) (x y : X) → b ≡ true → cond b x y ≡ x
passed true x y e = refl
passed false x y e = absurd (cc)

failed : {X : Type 0} (b : Bool) (x y : X) → b ≡ false → cond b x y ≡ y
failed true x y e = absurd (cc)
failed false x y e = refl

-- behind a front in which none passes
find_behind : {X : Type 0} (f : X → Bool) (xs ys : List X) → find f xs ≡ None → find f (xs ++ ys) ≡ find f ys
find_behind f [] ys none = refl
find_behind f (x ∷ xs) ys none = go (f x) refl none (find_behind f xs ys)
  where
    go : (b : Bool) → f x ≡ b → cond b (Some x) (find f xs) ≡ None → (find f xs ≡ None → find f (xs ++ ys) ≡ find f ys)
        → cond (f x) (Some x) (find f (xs ++ ys)) ≡ find f ys
    go true is e more = absurd (cc)
    go false is e more = failed (f x) (Some x) (find f (xs ++ ys)) is ∙ more e

-- in a front in which one passes
find_front : {X : Type 0} (f : X → Bool) (xs ys : List X) (y : X) → find f xs ≡ Some y → find f (xs ++ ys) ≡ Some y
find_front f [] ys y some = absurd (cc)
find_front f (x ∷ xs) ys y some = go (f x) refl some (find_front f xs ys y)
  where
    go : (b : Bool) → f x ≡ b → cond b (Some x) (find f xs) ≡ Some y → (find f xs ≡ Some y → find f (xs ++ ys) ≡ Some y)
        → cond (f x) (Some x) (find f (xs ++ ys)) ≡ Some y
    go true is e more = passed (f x) (Some x) (find f (xs ++ ys)) is ∙ e
    go false is e more = failed (f x) (Some x) (find f (xs ++ ys)) is ∙ more e

-- of what n numbers from one on give, none passes
none_of : {X : Type 0} (f : X → Bool) (g : ℕ → X) (a n : ℕ) → ((k : ℕ) → a ≤ k → k < a + n → f (g k) ≡ false) → find f (map g (range_with_len a n)) ≡ None
none_of f g a zero fails = refl
none_of f g a (suc n) fails =
    failed (f (g a)) (Some (g a)) (find f (map g (range_with_len (a + 1) n))) (fails a (omega arith) (omega arith))
    ∙ none_of f g (a + 1) n (λ k le lt. fails k (omega arith) (omega arith))

-- of what n numbers from one on give, this one is the first that passes
one_of : {X : Type 0} (f : X → Bool) (g : ℕ → X) (a n s : ℕ) → ((k : ℕ) → a ≤ k → k < s → f (g k) ≡ false) → f (g s) ≡ true → a ≤ s → s < a + n
    → find f (map g (range_with_len a n)) ≡ Some (g s)
one_of f g a zero s fails passes le lt = absurd (omega arith)
one_of f g a (suc n) s fails passes le lt = go (cases_lt a s) (one_of f g (a + 1) n s)
  where
    go : (a < s) ⊎ (s ≤ a)
        → (((k : ℕ) → a + 1 ≤ k → k < s → f (g k) ≡ false) → f (g s) ≡ true → a + 1 ≤ s → s < a + 1 + n → find f (map g (range_with_len (a + 1) n)) ≡ Some (g s))
        → cond (f (g a)) (Some (g a)) (find f (map g (range_with_len (a + 1) n))) ≡ Some (g s)
    go (inl before) more =
        failed (f (g a)) (Some (g a)) (find f (map g (range_with_len (a + 1) n))) (fails a (omega arith) before)
        ∙ more (λ k le less. fails k (omega arith) less) passes (omega arith) (omega arith)
    go (inr past) more =
        let same : a ≡ s = omega arith in
        passed (f (g a)) (Some (g a)) (find f (map g (range_with_len (a + 1) n))) (ap (λ k. f (g k)) same ∙ passes) ∙ ap (λ k. Some (g k)) same

-- the symbols of some blocks from one on, as wants
abbrev in_blocks : ℕ → (ℕ → ℕ) → ℕ → ℕ → List Want
in_blocks index size from count = map Symbol (flat_map (λ block. symbols_of index (size block) block) (range_with_len from count))

-- those of one
abbrev in_block : ℕ → (ℕ → ℕ) → ℕ → List Want
in_block index size block = map (λ symbol. Symbol (position index block symbol)) (range_with_len 0 (size block))

block_first : (index : ℕ) (size : ℕ → ℕ) (from count : ℕ) → in_blocks index size from (suc count) ≡ in_block index size from ++ in_blocks index size (from + 1) count
block_first index size from count =
    map-append Symbol (symbols_of index (size from) from) (flat_map (λ block. symbols_of index (size block) block) (range_with_len (from + 1) count))
    ∙ ap (λ xs. xs ++ in_blocks index size (from + 1) count) (twice (range_with_len 0 (size from)))
  where
    twice : (ns : List ℕ) → map Symbol (map (λ symbol. position index from symbol) ns) ≡ map (λ symbol. Symbol (position index from symbol)) ns
    twice [] = refl
    twice (n ∷ ns) = ap (λ xs. Symbol (position index from n) ∷ xs) (twice ns)

-- blocks in which none passes
skip_blocks : (f : Want → Bool) (index : ℕ) (size : ℕ → ℕ) (from count n : ℕ)
    → ((block symbol : ℕ) → from ≤ block → block < from + n → f (Symbol (position index block symbol)) ≡ false) → n ≤ count
    → find f (in_blocks index size from count) ≡ find f (in_blocks index size (from + n) (count - n))
skip_blocks f index size from count zero fails le =
    ap (λ n. find f (in_blocks index size from n)) (let e : count ≡ count - 0 = omega arith in e)
    ∙ ap (λ k. find f (in_blocks index size k (count - 0))) (let e : from ≡ from + 0 = omega arith in e)
skip_blocks f index size from zero (suc n) fails le = absurd (omega arith)
skip_blocks f index size from (suc count) (suc n) fails le =
    ap (find f) (block_first index size from count)
    ∙ find_behind f (in_block index size from) (in_blocks index size (from + 1) count)
    (none_of f (λ symbol. Symbol (position index from symbol)) 0 (size from) (λ k low high. fails from k (omega arith) (omega arith)))
    ∙ skip_blocks f index size (from + 1) count n (λ block symbol low high. fails block symbol (omega arith) (omega arith)) (omega arith)
    ∙ ap (λ k. find f (in_blocks index size k (count - n))) (let e : from + 1 + n ≡ from + suc n = omega arith in e)
    ∙ ap (λ m. find f (in_blocks index size (from + suc n) m)) (let e : count - n ≡ suc count - suc n = omega arith in e)

-- the first symbol of a block that has one
block_begins : (f : Want → Bool) (index : ℕ) (size : ℕ → ℕ) (from count symbol : ℕ)
    → ((k : ℕ) → k < symbol → f (Symbol (position index from k)) ≡ false) → f (Symbol (position index from symbol)) ≡ true → symbol < size from → 0 < count
    → find f (in_blocks index size from count) ≡ Some (Symbol (position index from symbol))
block_begins f index size from zero symbol fails passes some more = absurd (omega arith)
block_begins f index size from (suc count) symbol fails passes some more =
    ap (find f) (block_first index size from count)
    ∙ find_front f (in_block index size from) (in_blocks index size (from + 1) count) (Symbol (position index from symbol))
    (one_of f (λ k. Symbol (position index from k)) 0 (size from) symbol (λ k low high. fails k high) passes (omega arith) (omega arith))

pub none_left : (p : Settings) (f : Want → Bool) (index : ℕ) → find f (new_from p index []) ≡ None
unfolding new_from
none_left p f index = refl

-- of an object, the symbols before a place fail and those from there on pass, and its info fails
pub record Splits (f : Want → Bool) (at : Position) : Type 0 where
  pub info : f (Info at.index) ≡ false
  pub blocks : (block symbol : ℕ) → block < at.block → f (Symbol (position at.index block symbol)) ≡ false
  pub before : (symbol : ℕ) → symbol < at.symbol → f (Symbol (position at.index at.block symbol)) ≡ false
  pub here : f (Symbol at) ≡ true
  pub behind : (block : ℕ) → at.block < block → f (Symbol (position at.index block 0)) ≡ true

pub past_info : (p : Settings) (f : Want → Bool) (at : Position) (s : Shape) (shapes : List Shape) → Splits f at
    → find f (new_from p at.index (s ∷ shapes)) ≡ find f (in_blocks at.index (sent_once p s) 0 (closed_blocks s) ++ new_from p (at.index + 1) shapes)
unfolding new_from
past_info p f at s shapes splits = go s.info
  where
    go : (b : Bool) → find f (((if b then Info at.index ∷ [] else []) ++ in_blocks at.index (sent_once p s) 0 (closed_blocks s)) ++ new_from p (at.index + 1) shapes)
        ≡ find f (in_blocks at.index (sent_once p s) 0 (closed_blocks s) ++ new_from p (at.index + 1) shapes)
    go true = failed (f (Info at.index)) (Some (Info at.index)) (find f (in_blocks at.index (sent_once p s) 0 (closed_blocks s) ++ new_from p (at.index + 1) shapes)) splits.info
    go false = refl

-- the symbol itself is one that is sent
pub itself_next : (p : Settings) (f : Want → Bool) (at : Position) (s : Shape) (shapes : List Shape) → Splits f at → at.block < closed_blocks s → at.symbol < sent_once p s at.block
    → find f (new_from p at.index (s ∷ shapes)) ≡ Some (Symbol at)
itself_next p f at s shapes splits there less =
    past_info p f at s shapes splits
    ∙ find_front f (in_blocks at.index (sent_once p s) 0 (closed_blocks s)) (new_from p (at.index + 1) shapes) (Symbol at)
    (skip_blocks f at.index (sent_once p s) 0 (closed_blocks s) at.block (λ block symbol low high. splits.blocks block symbol (omega arith)) (omega arith)
    ∙ block_begins f at.index (sent_once p s) (0 + at.block) (closed_blocks s - at.block) at.symbol
    (λ k lt. ap (λ b. f (Symbol (position at.index b k))) (let e : 0 + at.block ≡ at.block = omega arith in e) ∙ splits.before k lt)
    (ap (λ b. f (Symbol (position at.index b at.symbol))) (let e : 0 + at.block ≡ at.block = omega arith in e) ∙ splits.here)
    (let e = ap (sent_once p s) (let z : 0 + at.block ≡ at.block = omega arith in z) in omega (arith, e, less)) (omega arith)
    ∙ ap (λ b. Some (Symbol (position at.index b at.symbol))) (let e : 0 + at.block ≡ at.block = omega arith in e))

-- the block of the symbol, where none is left of it
through_block : (f : Want → Bool) (at : Position) (size : ℕ → ℕ) (count : ℕ) → Splits f at → size at.block ≤ at.symbol → 0 < count
    → find f (in_blocks at.index size (0 + at.block) count) ≡ find f (in_blocks at.index size (at.block + 1) (count - 1))
through_block f at size zero splits past some = absurd (omega arith)
through_block f at size (suc count) splits past some =
    ap (λ b. find f (in_blocks at.index size b (suc count))) (let e : 0 + at.block ≡ at.block = omega arith in e)
    ∙ ap (find f) (block_first at.index size at.block count)
    ∙ find_behind f (in_block at.index size at.block) (in_blocks at.index size (at.block + 1) count)
    (none_of f (λ symbol. Symbol (position at.index at.block symbol)) 0 (size at.block) (λ k low high. splits.before k (omega (arith, high, past))))
    ∙ ap (λ n. find f (in_blocks at.index size (at.block + 1) n)) (let e : count ≡ suc count - 1 = omega arith in e)

-- the first symbol of the next block is
pub block_next : (p : Settings) (f : Want → Bool) (at : Position) (s : Shape) (shapes : List Shape) → Splits f at → at.block + 1 < closed_blocks s
    → sent_once p s at.block ≤ at.symbol → 0 < sent_once p s (at.block + 1)
    → find f (new_from p at.index (s ∷ shapes)) ≡ Some (Symbol (position at.index (at.block + 1) 0))
block_next p f at s shapes splits there past some =
    past_info p f at s shapes splits
    ∙ find_front f (in_blocks at.index (sent_once p s) 0 (closed_blocks s)) (new_from p (at.index + 1) shapes) (Symbol (position at.index (at.block + 1) 0))
    (skip_blocks f at.index (sent_once p s) 0 (closed_blocks s) at.block (λ block symbol low high. splits.blocks block symbol (omega arith)) (omega arith)
    ∙ through_block f at (sent_once p s) (closed_blocks s - at.block) splits past (omega arith)
    ∙ block_begins f at.index (sent_once p s) (at.block + 1) (closed_blocks s - at.block - 1) 0 (λ k lt. absurd (omega arith)) (splits.behind (at.block + 1) (omega arith)) some (omega arith))

-- behind the symbol there is none
pub object_over : (p : Settings) (f : Want → Bool) (at : Position) (s : Shape) (shapes : List Shape) → Splits f at → closed_blocks s ≤ at.block + 1
    → (closed_blocks s ≤ at.block) ⊎ (sent_once p s at.block ≤ at.symbol)
    → find f (new_from p at.index (s ∷ shapes)) ≡ find f (new_from p (at.index + 1) shapes)
object_over p f at s shapes splits last over =
    past_info p f at s shapes splits
    ∙ find_behind f (in_blocks at.index (sent_once p s) 0 (closed_blocks s)) (new_from p (at.index + 1) shapes) (go (cases_lt at.block (closed_blocks s)) over)
  where
    before : closed_blocks s ≤ at.block → find f (in_blocks at.index (sent_once p s) 0 (closed_blocks s)) ≡ None
    before le =
        skip_blocks f at.index (sent_once p s) 0 (closed_blocks s) (closed_blocks s) (λ block symbol low high. splits.blocks block symbol (omega arith)) (omega arith)
        ∙ ap (λ n. find f (in_blocks at.index (sent_once p s) (0 + closed_blocks s) n)) (let e : closed_blocks s - closed_blocks s ≡ 0 = omega arith in e)

    go : (at.block < closed_blocks s) ⊎ (closed_blocks s ≤ at.block) → (closed_blocks s ≤ at.block) ⊎ (sent_once p s at.block ≤ at.symbol)
        → find f (in_blocks at.index (sent_once p s) 0 (closed_blocks s)) ≡ None
    go (inr le) any = before le
    go (inl lt) (inl le) = before le
    go (inl lt) (inr past) =
        skip_blocks f at.index (sent_once p s) 0 (closed_blocks s) at.block (λ block symbol low high. splits.blocks block symbol (omega arith)) (omega arith)
        ∙ through_block f at (sent_once p s) (closed_blocks s - at.block) splits past (omega arith)
        ∙ ap (λ n. find f (in_blocks at.index (sent_once p s) (at.block + 1) n)) (let e : closed_blocks s - at.block - 1 ≡ 0 = omega arith in e)
