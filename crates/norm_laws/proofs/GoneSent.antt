-- What was dropped was sent: each closed source symbol of it, and each info.
use Rattle.std.proofs.Common.{◌≡◌, ℕ, zero, suc, ◌+◌, ◌-◌, ◌*◌, ◌<◌, ◌≤◌, List, [], ◌∷◌, ◌++◌, length, take, drop, Bool, true, false, None, Some, refl, sym, ap, ◌∙◌, subst, arith, ◌⊎◌, inl, inr}
use Rattle.std.specs.Prelude.{map, slice_get, min, nat_lt, ◌&&◌, ◌||◌, not}
use Rattle.std.specs.Int.{div_ceil}
use Rattle.std.specs.List.{AllByRecursion, range_with_len, list_all}
use Rattle.std.proofs.lemmas.Bool.{cases_lt}
use Rattle.std.proofs.lemmas.Bool.Decides.{Decides-ltb}
use Rattle.std.proofs.lemmas.Grind.{div_ceil_times}
use Rattle.std.proofs.lemmas.List.{length-drop}
use Rattle.std.proofs.Math.Nat.{mul-le-mul_right}
use Rattle.norm_base.specs.Settings.{Settings, InRange}
use Rattle.fec_plan.specs.Partition.{source_symbols, encoding_symbols, blocks_in, symbols_in, symbols_before, block_size}
use Rattle.fec_plan.specs.Points.{Point, point, position, position_before}
use Rattle.fec_plan.specs.declared.position.Position.{Position}
use Rattle.fec_plan.proofs.CoverLemmas.{all_before, before_step}
use Rattle.norm_order.specs.Entries.{Part, Object, Whole, Stream, Entry}
use Rattle.norm_order.specs.Sets.{is_member}
use Rattle.norm_order.specs.Shapes.{Shape, shape_of, symbols_of, sources_in, closed_in, is_full, closed_blocks}
use Rattle.norm_send_rules.specs.SenderState.{SenderState}
use Rattle.norm_send_rules.specs.Room.{drop_after, all_sent, may_go, block_may_go, may_all_go, window, first_kept, blocks_may_go}
use Rattle.norm_send_rules.specs.Sending.{sent_once}
use Rattle.norm_send_rules.specs.declared.want.Want.{Want}
use Rattle.norm_send_rules.specs.declared.want.Want.TheVariants.{Info, Symbol}
use Rattle.norm_send_rules.proofs.ShapeLemmas.{blocks_of, shape_parity}
use Rattle.norm_laws.proofs.NewOrder.{clash}
use Rattle.norm_laws.proofs.StreamNew.{row_get, rows_get}

-- ---- what was sent of an object

-- each closed source symbol of a shape, and its info
pub record ShapeSent (sent : List Position) (infos : List ℕ) (index : ℕ) (shape : Shape) : Type 0 where
  pub symbols : (block symbol : ℕ) → block < closed_blocks shape → symbol < closed_in shape block → is_member position_before (position index block symbol) sent ≡ true
  pub info : shape.info ≡ true → is_member nat_lt index infos ≡ true

-- What was dropped of an order was sent: objects before the drop point's, and the blocks of a stream before the drop point's.
pub record GoneSent (p : Settings) (order : List Entry) (d : Point) (sent : List Position) (infos : List ℕ) : Type 0 where
  pub objects : (n : ℕ) (x : Entry) → slice_get order n ≡ Some x → n < d.index → ShapeSent sent infos n (shape_of p x.object)
  pub blocks : (block symbol : ℕ) → block < d.block → symbol < p.b → is_member position_before (position d.index block symbol) sent ≡ true
  pub stream : 0 < d.block → (x : Entry) × (parts : List Part) × (slice_get order d.index ≡ Some x) × (x.object ≡ Stream parts)

shape_more : (sent more : List Position) (infos others : List ℕ) (index : ℕ) (shape : Shape)
    → ((at : Position) → is_member position_before at sent ≡ true → is_member position_before at more ≡ true)
    → ((n : ℕ) → is_member nat_lt n infos ≡ true → is_member nat_lt n others ≡ true) → ShapeSent sent infos index shape → ShapeSent more others index shape
shape_more sent more infos others index shape f g h = record {
  symbols = λ block symbol lt less. f (position index block symbol) (h.symbols block symbol lt less);
  info = λ e. g index (h.info e);
}

pub gone_more : (p : Settings) (order : List Entry) (d : Point) (sent more : List Position) (infos others : List ℕ)
    → ((at : Position) → is_member position_before at sent ≡ true → is_member position_before at more ≡ true)
    → ((n : ℕ) → is_member nat_lt n infos ≡ true → is_member nat_lt n others ≡ true) → GoneSent p order d sent infos → GoneSent p order d more others
gone_more p order d sent more infos others f g h = record {
  objects = λ n x found lt. shape_more sent more infos others n (shape_of p x.object) f g (h.objects n x found lt);
  blocks = λ block symbol lt less. f (position d.index block symbol) (h.blocks block symbol lt less);
  stream = h.stream;
}

-- of an order that begins nothing was dropped
pub gone_none : (p : Settings) (order : List Entry) → GoneSent p order (point 0 0) [] []
gone_none p order = record {
  objects = λ n x found lt. absurd (omega (arith, lt));
  blocks = λ block symbol lt less. absurd (omega (arith, lt));
  stream = λ lt. absurd (omega (arith, lt));
}

-- ---- what may go was sent

both_true : (a b : Bool) → (a && b) ≡ true → (a ≡ true) × (b ≡ true)
both_true true b e = (refl, e)
both_true false b e = absurd (clash e)

none_is : {X : Type 0} (x : X) → None ≡ Some x → ⊥
none_is x e = cc

some_is : {X : Type 0} (x y : X) → Some x ≡ Some y → x ≡ y
some_is x y e = cc

-- a want is a symbol that was sent
abbrev IsSent : List Position → Want → Type 0
IsSent sent (Info i) = ⊥
IsSent sent (Symbol at) = is_member position_before at sent ≡ true

all_listed : (sent : List Position) (xs : List Position) → list_all (λ at. is_member position_before at sent) xs ≡ true
    → AllByRecursion (IsSent sent) (map Symbol xs)
all_listed sent [] e = tt
all_listed sent (x ∷ xs) e =
    let both = both_true (is_member position_before x sent) (list_all (λ at. is_member position_before at sent) xs) e in (both.0, all_listed sent xs both.1)

may_sent : (p : Settings) (s : SenderState) (index : ℕ) (shape : Shape) → may_go p s index shape ≡ true → ShapeSent s.sent s.sent_infos index shape
may_sent p s index shape e =
    let infos : Bool = not shape.info || is_member nat_lt index s.sent_infos in
    let first = both_true (all_sent s (sources_in index shape) && infos) _ e in
    let second = both_true (all_sent s (sources_in index shape)) infos first.0 in
    let all = all_listed s.sent (sources_in index shape) second.0 in
    record {
      symbols = λ block symbol lt less. rows_get (IsSent s.sent) (closed_in shape) index 0 (closed_blocks shape) block symbol (omega arith) (omega (arith, lt)) less all;
      info = λ is. by_info shape.info is second.1;
    }
  where
    by_info : (b : Bool) → b ≡ true → (not b || is_member nat_lt index s.sent_infos) ≡ true → is_member nat_lt index s.sent_infos ≡ true
    by_info true is e = e
    by_info false is e = absurd (clash is)

block_sent : (p : Settings) (s : SenderState) (index : ℕ) (shape : Shape) (block symbol : ℕ) → block_may_go p s index shape block ≡ true → symbol < p.b
    → is_member position_before (position index block symbol) s.sent ≡ true
block_sent p s index shape block symbol e lt =
    let first = both_true (is_full shape block && all_sent s (symbols_of index p.b block)) _ e in
    let second = both_true (is_full shape block) (all_sent s (symbols_of index p.b block)) first.0 in
    row_get (IsSent s.sent) index block 0 p.b symbol (omega arith) (omega (arith, lt)) (all_listed s.sent (symbols_of index p.b block) second.1)

gone_at : (p : Settings) (s : SenderState) (first k : ℕ) (entries : List Entry) (x : Entry) → may_all_go p s first entries ≡ true → slice_get entries k ≡ Some x
    → may_go p s (first + k) (shape_of p x.object) ≡ true
unfolding may_all_go
gone_at p s first k [] x all found = absurd (none_is x found)
gone_at p s first zero (y ∷ entries) x all found =
    let both = both_true (may_go p s first (shape_of p y.object)) (may_all_go p s (suc first) entries) all in
    let E : Entry → Type 0 = λ z. may_go p s (first + 0) (shape_of p z.object) ≡ true in
    let N : ℕ → Type 0 = λ n. may_go p s n (shape_of p y.object) ≡ true in
    subst E (some_is y x found) (subst N (let z : first ≡ first + 0 = omega arith in z) both.0)
gone_at p s first (suc k) (y ∷ entries) x all found =
    let both = both_true (may_go p s first (shape_of p y.object)) (may_all_go p s (suc first) entries) all in
    let N : ℕ → Type 0 = λ n. may_go p s n (shape_of p x.object) ≡ true in
    subst N (let z : suc first + k ≡ first + suc k = omega arith in z) (gone_at p s (suc first) k entries x both.1 found)

each_of : (test : ℕ → Bool) (from count n : ℕ) → list_all test (range_with_len from count) ≡ true → from ≤ n → n < from + count → test n ≡ true
each_of test from zero n all le lt = absurd (omega (arith, le, lt))
each_of test from (suc count) n all le lt =
    let both = both_true (test from) (list_all test (range_with_len (from + 1) count)) all in
    go both.0 (cases_lt from n) (λ more. each_of test (from + 1) count n both.1 more (omega (arith, lt)))
  where
    go : test from ≡ true → (from < n) ⊎ (n ≤ from) → (from + 1 ≤ n → test n ≡ true) → test n ≡ true
    go own (inl less) more = more (omega (arith, less))
    go own (inr ge) more = ap test (let z : n ≡ from = omega (arith, ge, le) in z) ∙ own

-- ---- entries of an order

window_at : (order : List Entry) (d k n : ℕ) (x : Entry) → n ≡ d + k → slice_get order n ≡ Some x → slice_get (drop d order) k ≡ Some x
window_at order zero k n x is found = ap (slice_get order) (let z : k ≡ n = omega (arith, is) in z) ∙ found
window_at [] (suc d) k n x is found = absurd (none_is x found)
window_at (y ∷ order) (suc d) k zero x is found = absurd (omega (arith, is))
window_at (y ∷ order) (suc d) k (suc n) x is found = window_at order d k n x (omega (arith, is)) found

take_at : (entries : List Entry) (m k : ℕ) (x : Entry) → k < m → slice_get entries k ≡ Some x → slice_get (take m entries) k ≡ Some x
take_at [] m k x lt found = absurd (none_is x found)
take_at (y ∷ entries) zero k x lt found = absurd (omega (arith, lt))
take_at (y ∷ entries) (suc m) zero x lt found = found
take_at (y ∷ entries) (suc m) (suc k) x lt found = take_at entries m k x (omega (arith, lt)) found

front_at : (order more : List Entry) (n : ℕ) (x : Entry) → n < length order → slice_get (order ++ more) n ≡ Some x → slice_get order n ≡ Some x
front_at [] more n x lt found = absurd (omega (arith, lt))
front_at (y ∷ order) more zero x lt found = found
front_at (y ∷ order) more (suc n) x lt found = front_at order more n x (omega (arith, lt)) found

still_at : (order more : List Entry) (n : ℕ) (x : Entry) → slice_get order n ≡ Some x → slice_get (order ++ more) n ≡ Some x
still_at [] more n x found = absurd (none_is x found)
still_at (y ∷ order) more zero x found = found
still_at (y ∷ order) more (suc n) x found = still_at order more n x found

last_at : (front : List Entry) (x : Entry) → slice_get (front ++ x ∷ []) (length front) ≡ Some x
last_at [] x = refl
last_at (y ∷ front) x = last_at front x

-- ---- an object joins

pub gone_joined : (p : Settings) (s : SenderState) (x : Entry) (n : ℕ) → s.current.drop.index ≤ length s.current.order → n ≤ length (window s)
    → may_all_go p s s.current.drop.index (take n (window s)) ≡ true → GoneSent p s.current.order s.current.drop s.sent s.sent_infos
    → GoneSent p (s.current.order ++ x ∷ []) (drop_after s.current.drop n) s.sent s.sent_infos
gone_joined p s x zero within few may h = record {
  objects = λ n y found lt. h.objects n y (front_at s.current.order (x ∷ []) n y (omega (arith, within, lt)) found) lt;
  blocks = h.blocks;
  stream = λ lt. (let was = h.stream lt in (was.0, was.1, still_at s.current.order (x ∷ []) s.current.drop.index was.0 was.2, was.3));
}
gone_joined p s x (suc n) within few may h = record {
  objects = λ m y found lt. (
      let left = length-drop s.current.drop.index s.current.order in
      let there = front_at s.current.order (x ∷ []) m y (omega (arith, within, few, left, lt)) found in
      by_place m y there lt (cases_lt m s.current.drop.index)
      );
  blocks = λ block symbol lt less. absurd (omega (arith, lt));
  stream = λ lt. absurd (omega (arith, lt));
}
  where
    by_place : (m : ℕ) (y : Entry) → slice_get s.current.order m ≡ Some y → m < s.current.drop.index + suc n → (m < s.current.drop.index) ⊎ (s.current.drop.index ≤ m)
        → ShapeSent s.sent s.sent_infos m (shape_of p y.object)
    by_place m y there lt (inl before) = h.objects m y there before
    by_place m y there lt (inr ge) =
        let k : ℕ = m - s.current.drop.index in
        let is : m ≡ s.current.drop.index + k = omega (arith, ge) in
        let found = take_at (window s) (suc n) k y (omega (arith, lt, ge)) (window_at s.current.order s.current.drop.index k m y is there) in
        let S : ℕ → Type 0 = λ i. ShapeSent s.sent s.sent_infos i (shape_of p y.object) in
        subst S (sym is) (may_sent p s (s.current.drop.index + k) (shape_of p y.object) (gone_at p s s.current.drop.index k (take (suc n) (window s)) y may found))

-- ---- the open stream goes on

pub gone_last : (p : Settings) (front : List Entry) (x y : Entry) (parts : List Part) (d : Point) (sent : List Position) (infos : List ℕ)
    → y.object ≡ Stream parts → d.index ≤ length front → GoneSent p (front ++ x ∷ []) d sent infos → GoneSent p (front ++ y ∷ []) d sent infos
gone_last p front x y parts d sent infos is within h = record {
  objects = λ n z found lt. (
      let there = front_at front (y ∷ []) n z (omega (arith, lt, within)) found in h.objects n z (still_at front (x ∷ []) n z there) lt
      );
  blocks = h.blocks;
  stream = λ lt. by_place (h.stream lt) (cases_lt d.index (length front));
}
  where
    by_place : (z : Entry) × (was : List Part) × (slice_get (front ++ x ∷ []) d.index ≡ Some z) × (z.object ≡ Stream was) → (d.index < length front) ⊎ (length front ≤ d.index)
        → (z : Entry) × (now : List Part) × (slice_get (front ++ y ∷ []) d.index ≡ Some z) × (z.object ≡ Stream now)
    by_place was (inl lt) = (was.0, was.1, still_at front (y ∷ []) d.index was.0 (front_at front (x ∷ []) d.index was.0 lt was.2), was.3)
    by_place was (inr ge) =
        (y, parts, ap (slice_get (front ++ y ∷ [])) (let z : d.index ≡ length front = omega (arith, ge, within) in z) ∙ last_at front y, is)

pub gone_blocks : (p : Settings) (s : SenderState) (front : List Entry) (x y : Entry) (parts : List Part) (last least : ℕ) (shape : Shape)
    → s.current.order ≡ front ++ x ∷ [] → last ≡ length front → y.object ≡ Stream parts → s.current.drop.index ≤ last
    → blocks_may_go p s last shape least ≡ true → GoneSent p s.current.order s.current.drop s.sent s.sent_infos
    → GoneSent p (front ++ y ∷ []) (point last least) s.sent s.sent_infos
gone_blocks p s front x y parts last least shape was end is within may h = record {
  objects = λ n z found lt. (
      let there = front_at front (y ∷ []) n z (omega (arith, lt, end)) found in
      by_place n z (ap (λ xs. slice_get xs n) was ∙ still_at front (x ∷ []) n z there) lt (cases_lt n s.current.drop.index)
      );
  blocks = λ block symbol lt less. of_block block symbol lt less (cases_lt block (first_kept s last));
  stream = λ lt. (y, parts, ap (slice_get (front ++ y ∷ [])) end ∙ last_at front y, is);
}
  where
    d : Point
    d = s.current.drop

    both : (may_all_go p s d.index (take (last - d.index) (window s)) ≡ true)
        × (list_all (block_may_go p s last shape) (range_with_len (first_kept s last) (least - first_kept s last)) ≡ true)
    both = both_true (may_all_go p s d.index (take (last - d.index) (window s))) _ may

    by_place : (n : ℕ) (z : Entry) → slice_get s.current.order n ≡ Some z → n < last → (n < d.index) ⊎ (d.index ≤ n)
        → ShapeSent s.sent s.sent_infos n (shape_of p z.object)
    by_place n z there lt (inl before) = h.objects n z there before
    by_place n z there lt (inr ge) =
        let k : ℕ = n - d.index in
        let same : n ≡ d.index + k = omega (arith, ge) in
        let found = take_at (window s) (last - d.index) k z (omega (arith, lt, ge)) (window_at s.current.order d.index k n z same there) in
        let S : ℕ → Type 0 = λ i. ShapeSent s.sent s.sent_infos i (shape_of p z.object) in
        subst S (sym same) (may_sent p s (d.index + k) (shape_of p z.object) (gone_at p s d.index k (take (last - d.index) (window s)) z both.0 found))

    earlier : (block symbol : ℕ) (b : Bool) → nat_lt d.index last ≡ b → block < elim b [ true ↦ 0 | false ↦ d.block ] → symbol < p.b
        → is_member position_before (position last block symbol) s.sent ≡ true
    earlier block symbol true e lt less = absurd (omega (arith, lt))
    earlier block symbol false e lt less =
        let ge : last ≤ d.index = by_cases (cases_lt d.index last) in
        let I : ℕ → Type 0 = λ i. is_member position_before (position i block symbol) s.sent ≡ true in
        subst I (let z : d.index ≡ last = omega (arith, ge, within) in z) (h.blocks block symbol lt less)
      where
        by_cases : (d.index < last) ⊎ (last ≤ d.index) → last ≤ d.index
        by_cases (inl lt) = absurd (clash (sym e ∙ (Decides-ltb d.index last).1 lt))
        by_cases (inr ge) = ge

    of_block : (block symbol : ℕ) → block < least → symbol < p.b → (block < first_kept s last) ⊎ (first_kept s last ≤ block)
        → is_member position_before (position last block symbol) s.sent ≡ true
    of_block block symbol lt less (inl before) = earlier block symbol (nat_lt d.index last) refl before less
    of_block block symbol lt less (inr ge) =
        block_sent p s last shape block symbol
        (each_of (block_may_go p s last shape) (first_kept s last) (least - first_kept s last) block both.1 ge (omega (arith, lt, ge))) less

-- ---- a closed source symbol is sent once by itself

pub once_more : (p : Settings) → InRange p → (object : Object) (block : ℕ)
    → closed_in (shape_of p object) block ≤ sent_once p (shape_of p object) block
once_more p range object block = go (is_full s block)
  where
    s : Shape
    s = shape_of p object

    parity : source_symbols s.cut block ≤ encoding_symbols s.cut block
    parity = shape_parity p (blocks_of p range) object block

    go : (b : Bool) → closed_in s block ≤ elim b [ true ↦ min (source_symbols s.cut block + p.auto) (encoding_symbols s.cut block) | false ↦ closed_in s block ]
    go true = let le = parity in omega (arith, le)
    go false = omega arith

-- all source symbols stand before what is behind the last block
past_all : (t n j : ℕ) → 0 < n → t ≤ symbols_before t n (n + j)
past_all t n zero some = let all = all_before t n some in let same = ap (symbols_before t n) (let z : n + 0 ≡ n = omega arith in z) in omega (arith, all, same)
past_all t n (suc j) some =
    let before = past_all t n j some in
    let step = before_step t n (n + j) in
    let same = ap (symbols_before t n) (let z : n + suc j ≡ n + j + 1 = omega arith in z) in
    omega (arith, before, step, same)

-- a block with a closed source symbol is one of the blocks
pub block_there : (p : Settings) → InRange p → (object : Object) (block : ℕ) → 0 < closed_in (shape_of p object) block → block < closed_blocks (shape_of p object)
block_there p range (Stream parts) block some = go (cases_lt block n)
  where
    c : ℕ
    c = (shape_of p (Stream parts)).closed

    n : ℕ
    n = div_ceil c p.b

    go : (block < n) ⊎ (n ≤ block) → block < n
    go (inl lt) = lt
    go (inr ge) =
        let b_pos : 0 < p.b = (let least = range.b.0 in omega (arith, least)) in
        let up = (div_ceil_times c p.b b_pos).0 in
        let more : n * p.b ≤ block * p.b = mul-le-mul_right p.b ge in
        let some_here : 0 < min p.b (c - (block * p.b + 0)) = some in
        absurd (omega (arith, up, more, some_here))
block_there p range (Whole kind info octets) block some = go (cases_lt block n)
  where
    t : ℕ
    t = symbols_in (length octets) p.e

    n : ℕ
    n = blocks_in t p.b

    go : (block < n) ⊎ (n ≤ block) → block < n
    go (inl lt) = lt
    go (inr ge) = by_some (cases_lt 0 n)
      where
        some_here : 0 < min (block_size t n block) (t - (symbols_before t n block + 0))
        some_here = some

        by_some : (0 < n) ⊎ (n ≤ 0) → block < n
        by_some (inl pos) =
            let past = past_all t n (block - n) pos in
            let same = ap (symbols_before t n) (let z : n + (block - n) ≡ block = omega (arith, ge) in z) in
            let here = some_here in
            absurd (omega (arith, past, same, here))
        by_some (inr none) =
            let b_pos : 0 < p.b = (let least = range.b.0 in omega (arith, least)) in
            let up : t ≤ n * p.b = (div_ceil_times t p.b b_pos).0 in
            let zero_is : n * p.b ≡ 0 * p.b = ap (λ m. m * p.b) (let z : n ≡ 0 = omega (arith, none) in z) in
            let here = some_here in
            absurd (omega (arith, up, zero_is, here))
