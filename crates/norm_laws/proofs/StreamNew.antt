-- Of a stream that goes on, what is new and lies before the next place was new before.
use Rattle.std.proofs.Common.{◌≡◌, ℕ, zero, suc, ◌+◌, ◌-◌, ◌*◌, ◌<◌, ◌≤◌, cond, List, [], ◌∷◌, ◌++◌, length, drop, Bool, true, false, Some, refl, sym, ap, ◌∙◌, subst, arith, ◌⊎◌, inl, inr}
use Rattle.std.specs.Prelude.{◌==◌, map, flat_map, min, slice_get}
use Rattle.std.specs.Int.{div_ceil}
use Rattle.std.specs.List.{AllByRecursion, range_with_len}
use Rattle.std.proofs.lemmas.Bool.{eqb-true}
use Rattle.std.proofs.lemmas.Bool.Decides.{Decides-eqb}
use Rattle.std.proofs.lemmas.Grind.{div_ceil_times}
use Rattle.std.proofs.lemmas.List.{map-append}
use Rattle.std.proofs.Math.Nat.{mul-le-mul_right}
use Rattle.norm_base.specs.Settings.{Settings}
use Rattle.fec_plan.specs.Partition.{encoding_symbols, stream_cut}
use Rattle.fec_plan.specs.Points.{position}
use Rattle.fec_plan.specs.declared.position.Position.{Position}
use Rattle.fec_plan.proofs.PositionLemmas.{Before, before_decides}
use Rattle.norm_order.specs.Entries.{Part, Stream}
use Rattle.norm_order.specs.Segments.{closed_from}
use Rattle.norm_order.specs.Shapes.{Shape, shape_of, symbols_of, closed_blocks}
use Rattle.norm_send_rules.specs.Sending.{sent_once, new_of, new_from, behind}
use Rattle.norm_send_rules.specs.Wants.{want_before, want_index}
use Rattle.norm_send_rules.specs.declared.want.Want.{Want}
use Rattle.norm_send_rules.specs.declared.want.Want.TheVariants.{Info, Symbol}
use Rattle.norm_send_rules.proofs.CutNames.{CutRange}
use Rattle.norm_safety.proofs.SymbolLater.{stream_encoding}
use Rattle.norm_laws.proofs.NewOrder.{clash, all_implied, all_append, none_first}

-- ---- a stream that goes on

-- how many segments are closed
abbrev many : Settings → List Part → ℕ
many p parts = length (closed_from p.e [] parts)

-- how many of a block are
abbrev in_block : Settings → List Part → ℕ → ℕ
in_block p parts block = min p.b (many p parts - (block * p.b + 0))

-- so many symbols of a block are sent once
abbrev once_of : Settings → Bool → ℕ → ℕ → ℕ
once_of p full block closed = elim full [ true ↦ min (p.b + p.auto) (encoding_symbols (stream_cut p.e p.b p.max_n) block) | false ↦ closed ]

not_full : (n b : ℕ) → (n == b) ≡ false → n ≡ b → ⊥
not_full n b e same = clash (sym e ∙ (Decides-eqb n b).1 same)

more_sent : (p : Settings) → CutRange p → (parts now : List Part) (block : ℕ) → many p parts ≤ many p now
    → sent_once p (shape_of p (Stream parts)) block ≤ sent_once p (shape_of p (Stream now)) block
more_sent p range parts now block le = go (in_block p parts block == p.b) (in_block p now block == p.b) refl refl
  where
    count : encoding_symbols (stream_cut p.e p.b p.max_n) block ≡ p.max_n
    count = stream_encoding p range block

    go : (a b : Bool) → (in_block p parts block == p.b) ≡ a → (in_block p now block == p.b) ≡ b
        → once_of p a block (in_block p parts block) ≤ once_of p b block (in_block p now block)
    go true true e f = omega arith
    go true false e f =
        let all : min p.b (many p parts - (block * p.b + 0)) ≡ p.b = eqb-true _ p.b e in
        absurd (not_full (in_block p now block) p.b f (let z : min p.b (many p now - (block * p.b + 0)) ≡ p.b = omega (arith, all, le) in z))
    go false true e f = let is = count in let most = range.max_n in omega (arith, is, most)
    go false false e f = omega (arith, le)

-- of a block that is full no more
none_more : (p : Settings) → CutRange p → (parts now : List Part) (block : ℕ) → block * p.b + p.b ≤ many p parts
    → sent_once p (shape_of p (Stream now)) block ≤ sent_once p (shape_of p (Stream parts)) block
none_more p range parts now block full = go (in_block p parts block == p.b) (in_block p now block == p.b) refl
  where
    count : encoding_symbols (stream_cut p.e p.b p.max_n) block ≡ p.max_n
    count = stream_encoding p range block

    go : (a b : Bool) → (in_block p parts block == p.b) ≡ a → once_of p b block (in_block p now block) ≤ once_of p a block (in_block p parts block)
    go true true e = omega arith
    go true false e = let is = count in let most = range.max_n in omega (arith, is, most)
    go false b e = absurd (not_full (in_block p parts block) p.b e (let z : min p.b (many p parts - (block * p.b + 0)) ≡ p.b = omega (arith, full) in z))

-- a block below the blocks begins below what is closed
begins_below : (p : Settings) → CutRange p → (c block : ℕ) → block < div_ceil c p.b → block * p.b < c
begins_below p range c block lt =
    let some : 0 < p.b = (let least = range.least_b in omega (arith, least)) in
    let times = (div_ceil_times c p.b some).1 in
    let more : (block + 1) * p.b ≤ div_ceil c p.b * p.b = mul-le-mul_right p.b (let z : block + 1 ≤ div_ceil c p.b = omega (arith, lt) in z) in
    omega (arith, times, more)

full_before : (b one other c : ℕ) → one < other → other * b < c → one * b + b ≤ c
full_before b one other c lt below =
    let more : (one + 1) * b ≤ other * b = mul-le-mul_right b (let z : one + 1 ≤ other = omega (arith, lt) in z) in
    omega (arith, more, below)

more_blocks : (p : Settings) → CutRange p → (c n : ℕ) → c ≤ n → div_ceil c p.b ≤ div_ceil n p.b
more_blocks p range c n le =
    let some : 0 < p.b = (let least = range.least_b in omega (arith, least)) in
    let down = (div_ceil_times c p.b some).1 in
    let up = (div_ceil_times n p.b some).0 in
    let no : div_ceil n p.b < div_ceil c p.b → ⊥ =
    λ lt. (
    let more : (div_ceil n p.b + 1) * p.b ≤ div_ceil c p.b * p.b = mul-le-mul_right p.b (let z : div_ceil n p.b + 1 ≤ div_ceil c p.b = omega (arith, lt) in z) in
    omega (arith, down, up, more, le)
    ) in
    omega (arith, no)

-- ---- what is new of a shape

-- an info or a symbol of it
abbrev pub IsNewOf : Settings → ℕ → Shape → Want → Type 0
IsNewOf p index shape (Info i) = (i ≡ index) × (shape.info ≡ true)
IsNewOf p index shape (Symbol at) = (at.index ≡ index) × (at.block < closed_blocks shape) × (at.symbol < sent_once p shape at.block)

abbrev pub row : ℕ → ℕ → ℕ → ℕ → List Want
row index block from count = map Symbol (map (λ symbol. position index block symbol) (range_with_len from count))

abbrev pub rows : (ℕ → ℕ) → ℕ → ℕ → ℕ → List Want
rows n index from count = map Symbol (flat_map (λ block. symbols_of index (n block) block) (range_with_len from count))

row_new : (p : Settings) (index : ℕ) (shape : Shape) (block from count : ℕ) → block < closed_blocks shape → from + count ≤ sent_once p shape block
    → AllByRecursion (IsNewOf p index shape) (row index block from count)
row_new p index shape block from zero lt le = tt
row_new p index shape block from (suc count) lt le =
    ((refl, lt, (let z : from < sent_once p shape block = omega (arith, le) in z)), row_new p index shape block (from + 1) count lt (omega (arith, le)))

rows_new : (p : Settings) (index : ℕ) (shape : Shape) (from count : ℕ) → from + count ≤ closed_blocks shape
    → AllByRecursion (IsNewOf p index shape) (rows (sent_once p shape) index from count)
rows_new p index shape from zero le = tt
rows_new p index shape from (suc count) le =
    subst (AllByRecursion (IsNewOf p index shape)) (sym (map-append Symbol (symbols_of index (sent_once p shape from) from) _))
    (all_append (IsNewOf p index shape) (row index from 0 (sent_once p shape from)) (rows (sent_once p shape) index (from + 1) count)
    (row_new p index shape from 0 (sent_once p shape from) (omega (arith, le)) (omega arith))
    (rows_new p index shape (from + 1) count (omega (arith, le))))

new_is : (p : Settings) (index : ℕ) (shape : Shape) → AllByRecursion (IsNewOf p index shape) (new_of p index shape)
new_is p index shape =
    all_append (IsNewOf p index shape) (cond shape.info (Info index ∷ []) []) (rows (sent_once p shape) index 0 (closed_blocks shape)) (infos shape.info refl)
    (rows_new p index shape 0 (closed_blocks shape) (omega arith))
  where
    infos : (b : Bool) → shape.info ≡ b → AllByRecursion (IsNewOf p index shape) (cond b (Info index ∷ []) [])
    infos true e = ((refl, e), tt)
    infos false e = tt

-- a want is new of an order of such shapes
abbrev pub IsNew : Settings → List Shape → Want → Type 0
IsNew p shapes w = (shape : Shape) × (slice_get shapes (want_index w) ≡ Some shape) × IsNewOf p (want_index w) shape w

new_in : (p : Settings) (all : List Shape) (index : ℕ) (rest : List Shape) → ((k : ℕ) → slice_get rest k ≡ slice_get all (index + k))
    → AllByRecursion (IsNew p all) (new_from p index rest)
unfolding new_from
new_in p all index [] same = tt
new_in p all index (s ∷ rest) same =
    all_append (IsNew p all) (new_of p index s) (new_from p (index + 1) rest)
    (all_implied (IsNewOf p index s) (IsNew p all) (new_of p index s) here (new_is p index s))
    (new_in p all (index + 1) rest (λ k. same (suc k) ∙ ap (slice_get all) (next index k)))
  where
    next : (i n : ℕ) → i + suc n ≡ i + 1 + n
    next i n = omega arith

    own : slice_get all index ≡ Some s
    own = ap (slice_get all) (let z : index ≡ index + 0 = omega arith in z) ∙ sym (same 0)

    here : (w : Want) → IsNewOf p index s w → IsNew p all w
    here (Info i) h = (s, ap (slice_get all) h.0 ∙ own, (refl, h.1))
    here (Symbol at) h = (s, ap (slice_get all) h.0 ∙ own, (refl, h.1, h.2))

dropped_at : (n : ℕ) (shapes : List Shape) (k : ℕ) → slice_get (drop n shapes) k ≡ slice_get shapes (n + k)
dropped_at zero shapes k = ap (slice_get shapes) (let z : k ≡ 0 + k = omega arith in z)
dropped_at (suc n) [] k = refl
dropped_at (suc n) (s ∷ shapes) k = dropped_at n shapes k ∙ ap (slice_get (s ∷ shapes)) (let z : suc (n + k) ≡ suc n + k = omega arith in z)

-- what is new from an index on is new of the order
pub new_of_all : (p : Settings) (n : ℕ) (shapes : List Shape) → AllByRecursion (IsNew p shapes) (new_from p n (drop n shapes))
new_of_all p n shapes = new_in p shapes n (drop n shapes) (dropped_at n shapes)

-- each symbol of it is there
pub row_get : (P : Want → Type 0) (index block from count j : ℕ) → from ≤ j → j < from + count → AllByRecursion P (row index block from count)
    → P (Symbol (position index block j))
row_get P index block from zero j le lt all = absurd (omega (arith, le, lt))
row_get P index block from (suc count) j le lt all = go (j == from) refl (λ more. row_get P index block (from + 1) count j more (omega (arith, lt)) all.1)
  where
    go : (b : Bool) → (j == from) ≡ b → (from + 1 ≤ j → P (Symbol (position index block j))) → P (Symbol (position index block j))
    go true e more = (let Q : ℕ → Type 0 = λ n. P (Symbol (position index block n)) in subst Q (sym (eqb-true j from e)) all.0)
    go false e more = let other : j ≡ from → ⊥ = not_full j from e in more (omega (arith, le, other))

pub all_parts : {X : Type 0} (P : X → Type 0) (xs ys : List X) → AllByRecursion P (xs ++ ys) → AllByRecursion P xs × AllByRecursion P ys
all_parts P [] ys all = (tt, all)
all_parts P (x ∷ xs) ys all = let rest = all_parts P xs ys all.1 in ((all.0, rest.0), rest.1)

pub rows_get : (P : Want → Type 0) (n : ℕ → ℕ) (index from count block j : ℕ) → from ≤ block → block < from + count → j < n block
    → AllByRecursion P (rows n index from count) → P (Symbol (position index block j))
rows_get P n index from zero block j le lt less all = absurd (omega (arith, le, lt))
rows_get P n index from (suc count) block j le lt less all =
    let both = all_parts P (row index from 0 (n from)) (rows n index (from + 1) count)
    (subst (AllByRecursion P) (map-append Symbol (symbols_of index (n from) from) _) all) in
    go both (block == from) refl (λ more. rows_get P n index (from + 1) count block j more (omega (arith, lt)) less both.1)
  where
    go : AllByRecursion P (row index from 0 (n from)) × AllByRecursion P (rows n index (from + 1) count) → (b : Bool) → (block == from) ≡ b
        → (from + 1 ≤ block → P (Symbol (position index block j))) → P (Symbol (position index block j))
    go both true e more =
        let Q : ℕ → Type 0 = λ m. j < n m → P (Symbol (position index m j)) in
        (subst Q (sym (eqb-true block from e)) (λ lt. row_get P index from 0 (n from) j (omega arith) (omega (arith, lt)) both.0)) less
    go both false e more = let other : block ≡ from → ⊥ = not_full block from e in more (omega (arith, le, other))

pub new_get : (P : Want → Type 0) (p : Settings) (index : ℕ) (shape : Shape) (block j : ℕ) → block < closed_blocks shape → j < sent_once p shape block
    → AllByRecursion P (new_of p index shape) → P (Symbol (position index block j))
new_get P p index shape block j lt less all =
    rows_get P (sent_once p shape) index 0 (closed_blocks shape) block j (omega arith) (omega (arith, lt)) less
    (all_parts P (cond shape.info (Info index ∷ []) []) (rows (sent_once p shape) index 0 (closed_blocks shape)) all).1

-- ---- the next place

-- it lies at the begin of a shape, or right behind a symbol that is sent once
abbrev IsReached : Settings → Shape → Position → Type 0
IsReached p shape at = ((at.block ≡ 0) × (at.symbol ≡ 0)) ⊎ ((at.block < closed_blocks shape) × (at.symbol ≤ sent_once p shape at.block))

-- The next place is the first, or lies in an order at most right behind a symbol that is sent once.
abbrev pub IsPlace : Settings → List Shape → Want → Type 0
IsPlace p shapes next =
    (next ≡ Info 0) ⊎ ((at : Position) × (shape : Shape) × (next ≡ Symbol at) × (slice_get shapes at.index ≡ Some shape) × IsReached p shape at)

pub place_behind : (p : Settings) (shapes : List Shape) (w : Want) → IsNew p shapes w → IsPlace p shapes (behind w)
place_behind p shapes (Info i) h = inr (position i 0 0, h.0, refl, h.1, inl (refl, refl))
place_behind p shapes (Symbol at) h =
    inr (position at.index at.block (at.symbol + 1), h.0, refl, h.1, inr (h.2.1, (let lt = h.2.2 in omega (arith, lt))))

found_more : (shapes more : List Shape) (i : ℕ) (s : Shape) → slice_get shapes i ≡ Some s → slice_get (shapes ++ more) i ≡ Some s
found_more [] more i s e = absurd (cc)
found_more (x ∷ shapes) more zero s e = e
found_more (x ∷ shapes) more (suc i) s e = found_more shapes more i s e

pub place_more : (p : Settings) (shapes more : List Shape) (next : Want) → IsPlace p shapes next → IsPlace p (shapes ++ more) next
place_more p shapes more next (inl is) = inl is
place_more p shapes more next (inr (at, shape, is, found, reached)) = inr (at, shape, is, found_more shapes more at.index shape found, reached)

-- a shape is one of those in front, or the last
last_or : (front : List Shape) (x y : Shape) (i : ℕ) (s : Shape) → slice_get (front ++ x ∷ []) i ≡ Some s
    → ((i < length front) × (slice_get (front ++ y ∷ []) i ≡ Some s)) ⊎ ((i ≡ length front) × (x ≡ s) × (slice_get (front ++ y ∷ []) i ≡ Some y))
last_or [] x y zero s e = inr (refl, same e, refl)
  where
    same : Some x ≡ Some s → x ≡ s
    same e = cc
last_or [] x y (suc i) s e = absurd (cc)
last_or (z ∷ front) x y zero s e = inl (omega arith, e)
last_or (z ∷ front) x y (suc i) s e = go (last_or front x y i s e)
  where
    go : ((i < length front) × (slice_get (front ++ y ∷ []) i ≡ Some s)) ⊎ ((i ≡ length front) × (x ≡ s) × (slice_get (front ++ y ∷ []) i ≡ Some y))
        → ((suc i < suc (length front)) × (slice_get (front ++ y ∷ []) i ≡ Some s)) ⊎ ((suc i ≡ suc (length front)) × (x ≡ s) × (slice_get (front ++ y ∷ []) i ≡ Some y))
    go (inl h) = inl ((let lt = h.0 in omega (arith, lt)), h.1)
    go (inr h) = inr (ap suc h.0, h.1, h.2)

pub place_grown : (p : Settings) → CutRange p → (front : List Shape) (parts now : List Part) (next : Want) → many p parts ≤ many p now
    → IsPlace p (front ++ shape_of p (Stream parts) ∷ []) next → IsPlace p (front ++ shape_of p (Stream now) ∷ []) next
place_grown p range front parts now next le (inl is) = inl is
place_grown p range front parts now next le (inr (at, shape, is, found, reached)) =
    go (last_or front (shape_of p (Stream parts)) (shape_of p (Stream now)) at.index shape found)
  where
    x : Shape
    x = shape_of p (Stream parts)

    y : Shape
    y = shape_of p (Stream now)

    further : IsReached p x at → IsReached p y at
    further (inl h) = inl h
    further (inr h) =
        let lt : at.block < div_ceil (many p parts) p.b = h.0 in
        let blocks = more_blocks p range (many p parts) (many p now) le in
        let sent = more_sent p range parts now at.block le in
        let most = h.1 in
        inr ((let z : at.block < div_ceil (many p now) p.b = omega (arith, lt, blocks) in z), omega (arith, most, sent))

    go : ((at.index < length front) × (slice_get (front ++ y ∷ []) at.index ≡ Some shape))
        ⊎ ((at.index ≡ length front) × (x ≡ shape) × (slice_get (front ++ y ∷ []) at.index ≡ Some y))
        → IsPlace p (front ++ y ∷ []) next
    go (inl h) = inr (at, shape, is, h.1, reached)
    go (inr h) = inr (at, y, is, h.2, further (subst (λ s. IsReached p s at) (sym h.1) reached))

-- What is new of a stream that went on, and lies before the next place, was new of it before.
pub grown_new : (p : Settings) → CutRange p → (front : List Shape) (parts now : List Part) (next : Want) → many p parts ≤ many p now
    → IsPlace p (front ++ shape_of p (Stream parts) ∷ []) next → (P : Want → Type 0) → AllByRecursion P (new_of p (length front) (shape_of p (Stream parts)))
    → AllByRecursion (λ w. want_before w next ≡ true → P w) (new_of p (length front) (shape_of p (Stream now)))
grown_new p range front parts now next le place P all =
    all_implied (IsNewOf p (length front) y) (λ w. want_before w next ≡ true → P w) (new_of p (length front) y) each (new_is p (length front) y)
  where
    x : Shape
    x = shape_of p (Stream parts)

    y : Shape
    y = shape_of p (Stream now)

    -- a symbol before the place
    own : (at np : Position) → at.index ≡ length front → at.symbol < sent_once p y at.block → Before at np → np.index ≡ length front → IsReached p x np
        → (at.block < closed_blocks x) × (at.symbol < sent_once p x at.block)
    own at np here less before same (inl (none, first)) = absurd (go before)
      where
        go : Before at np → ⊥
        go (inl (inl lt)) = omega (arith, lt, here, same)
        go (inl (inr h)) = (let lt = h.1 in omega (arith, lt, none))
        go (inr h) = (let lt = h.1 in omega (arith, lt, first))
    own at np here less before same (inr (lt, most)) = go before
      where
        blocks : np.block < div_ceil (many p parts) p.b
        blocks = lt

        go : Before at np → (at.block < closed_blocks x) × (at.symbol < sent_once p x at.block)
        go (inl (inl lower)) = absurd (omega (arith, lower, here, same))
        go (inl (inr h)) =
            let earlier = h.1 in
            let below = begins_below p range (many p parts) np.block blocks in
            let full = full_before p.b at.block np.block (many p parts) earlier below in
            let none = none_more p range parts now at.block full in
            let bs = blocks in
            ((let z : at.block < div_ceil (many p parts) p.b = omega (arith, earlier, bs) in z), omega (arith, less, none))
        go (inr h) =
            let one : at.block ≡ np.block = h.0.1 in
            let symbol = h.1 in
            let N : ℕ → Type 0 = λ block. (block < closed_blocks x) × (np.symbol ≤ sent_once p x block) in
            let there = subst N (sym one) (lt, most) in
            let enough = there.1 in
            (there.0, omega (arith, symbol, enough))

    symbols : (at : Position) → IsNewOf p (length front) y (Symbol at) → want_before (Symbol at) next ≡ true → IsPlace p (front ++ x ∷ []) next → P (Symbol at)
    symbols at is before (inl first) = absurd (none_first (Symbol at) (ap (λ (w : Want). want_before (Symbol at) w) (sym first) ∙ before))
    symbols at is before (inr (np, shape, next_is, found, reached)) = go (last_or front x y np.index shape found)
      where
        lies : Before at np
        lies = (before_decides at np).0 (ap (λ (w : Want). want_before (Symbol at) w) (sym next_is) ∙ before)

        lower : Before at np → at.index ≤ np.index
        lower b = omega (arith, b)

        go : ((np.index < length front) × (slice_get (front ++ y ∷ []) np.index ≡ Some shape))
            ⊎ ((np.index ≡ length front) × (x ≡ shape) × (slice_get (front ++ y ∷ []) np.index ≡ Some y))
            → P (Symbol at)
        go (inl h) = (let lt = h.0 in let ge = lower lies in let here = is.0 in absurd (omega (arith, lt, ge, here)))
        go (inr h) =
            let one = own at np is.0 is.2 lies h.0 (subst (λ s. IsReached p s np) (sym h.1) reached) in
            let Q : ℕ → Type 0 = λ n. P (Symbol (position n at.block at.symbol)) in
            subst Q (sym is.0) (new_get P p (length front) x at.block at.symbol one.0 one.1 all)

    each : (w : Want) → IsNewOf p (length front) y w → want_before w next ≡ true → P w
    each (Info i) is before = absurd (clash is.1)
    each (Symbol at) is before = symbols at is before place
