-- Which blocks may go, whether all was sent, and which segment is the last.
use Rattle.std.proofs.Common.{◌≡◌, ℕ, zero, suc, ◌+◌, ◌-◌, ◌*◌, ◌/◌, ◌%◌, ◌<◌, ◌≤◌, ◌⊎◌, inl, inr, Bool, true, false, refl, sym, ap, ◌∙◌, arith, List, length, take, drop, Option, Some, None}
use Rattle.std.specs.Prelude.{min, ◌==◌, ◌&&◌, flat_map}
use Rattle.std.specs.List.{range_with_len, list_all}
use Rattle.std.specs.Int.{div_ceil}
use Rattle.std.proofs.lemmas.Bool.{cases_lt}
use Rattle.std.proofs.lemmas.List.Folds.{list_all-append, list_all-map}
use Rattle.std.proofs.lemmas.List.FromFn.{length-map-range_with_len}
use Rattle.std.proofs.lemmas.List.Sums.{prefix_len-le-length}
use Rattle.std.proofs.lemmas.Nat.{div-mul-add, mod-mul-add, div-add-mod'}
use Rattle.std.proofs.Math.Nat.{mod-lt}
use Rattle.std.proofs.lemmas.Grind.{div_ceil_times}
use Rattle.std.proofs.Math.Nat.{mul-le-mul_right, div-mul-le_self}
use Rattle.norm_base.specs.Settings.{Settings}
use Rattle.norm_base.specs.declared.kinds.Mode.{Mode}
use Rattle.norm_base.specs.declared.kinds.Mode.TheVariants as mode
use Rattle.fec_plan.specs.Points.{Position, position, position_before, reached_by}
use Rattle.fec_plan.proofs.PositionLemmas.{Behind, behind, reached, behind_both}
use Rattle.norm_order.specs.Entries.{Part, Stream}
use Rattle.norm_order.specs.Sets.{is_member}
use Rattle.norm_order.specs.Shapes.{shape_of, symbols_of, sources_in, last_in, is_full}
use Rattle.norm_send_rules.specs.SenderState.{SenderState}
use Rattle.norm_send_rules.specs.Watermarks.{all_past}
use Rattle.norm_send_rules.specs.Room.{all_sent, is_released, block_may_go}
use Rattle.stream_buffer.specs.StreamState.{StreamState, closed_segments}
use Rattle.stream_buffer.specs.HeldState.{HeldState, Knows, place_of, was_sent, run_of}
use Rattle.stream_buffer.proofs.RangeLemmas.{place_is, range_split, marks_dropped, marks_taken, all_pass, all_same, times_less}
use Rattle.stream_buffer.proofs.MarkLemmas.{run_set, run_covers}
use Rattle.stream_buffer.proofs.GrowingLemmas.{both_left, both_right, one_of_all, gone_sent}
use Rattle.stream_buffer.proofs.KnowsLemmas.{closed_of, counted, full_is, not_full, first_by}

-- ---- one block

-- the marks of a full block are whether its segments were sent
block_sent : (p : Settings) (index : ℕ) (parts : List Part) (sent : List Position) (h : HeldState) (block : ℕ) → Knows p index parts sent h
    → h.buffer.first * p.b ≤ block * p.b → block * p.b + p.b ≤ closed_of p parts
    → list_all (λ b. b) (take p.b (drop (block * p.b - h.buffer.first * p.b) h.sent)) ≡ list_all (λ at. is_member position_before at sent) (symbols_of index p.b block)
block_sent p index parts sent h block knows low full =
    ap (λ (bs : List Bool). list_all (λ b. b) (take p.b (drop gone bs))) knows.marks
    ∙ ap (λ (bs : List Bool). list_all (λ b. b) (take p.b bs)) (marks_dropped index p.b sent from (length h.buffer.rows) gone (omega (arith, long, full)))
    ∙ ap (list_all (λ (b : Bool). b)) (marks_taken index p.b sent (from + gone) (length h.buffer.rows - gone) p.b (omega (arith, long, full, low)))
    ∙ list_all-map (λ b. b) (was_sent index p.b sent) (range_with_len (from + gone) p.b)
    ∙ all_same (was_sent index p.b sent) (λ symbol. is_member position_before (position index block symbol) sent) (from + gone) 0 p.b
    (λ k lt. ap (λ (at : Position). is_member position_before at sent)
    (ap (place_of index p.b) (let e : from + gone + k ≡ block * p.b + k = omega (arith, low) in e) ∙ place_is index p.b block k lt
    ∙ ap (position index block) (let e : k ≡ 0 + k = omega arith in e)))
    ∙ sym (list_all-map (λ (at : Position). is_member position_before at sent) (λ symbol. position index block symbol) (range_with_len 0 p.b))
  where
    from : ℕ
    from = h.buffer.first * p.b

    gone : ℕ
    gone = block * p.b - h.buffer.first * p.b

    long : h.buffer.first * p.b + length h.buffer.rows ≡ closed_of p parts
    long = omega (arith, counted p parts h.buffer knows.buffer, first_by p parts h.buffer knows.buffer)

passes_last : (x y : Bool) → y ≡ true → (x && y) ≡ x
passes_last true y e = e
passes_last false y e = refl

-- a block that the mode lets go goes where its segments are closed and were sent
goes_sent : (p : Settings) (s : SenderState) (index : ℕ) (parts : List Part) (h : HeldState) (block : ℕ) → Knows p index parts s.sent h
    → h.buffer.first * p.b ≤ block * p.b → block * p.b + p.b ≤ closed_of p parts → is_released p s (Some (position index block (p.b - 1))) ≡ true
    → block_may_go p s index (shape_of p (Stream parts)) block ≡ list_all (λ b. b) (take p.b (drop (block * p.b - h.buffer.first * p.b) h.sent))
goes_sent p s index parts h block knows low full released =
    passes_last (is_full (shape_of p (Stream parts)) block && all_sent s (symbols_of index p.b block)) (is_released p s (Some (position index block (p.b - 1)))) released
    ∙ ap (λ b. b && all_sent s (symbols_of index p.b block)) (full_is p parts block full)
    ∙ sym (block_sent p index parts s.sent h block knows low full)

-- what the mode asks, by the position that all are listed past
pub released : (p : Settings) (s : SenderState) (past : Option Position) (at : Position) → ((q : Position) → all_past s q ≡ reached_by past q)
    → is_released p s (Some at) ≡ (elim p.mode as (λ v. Bool) [ mode.Hold ↦ reached_by past at | mode.Drop ↦ true ])
released p s past at is = ap (λ (b : Bool). elim p.mode as (λ v. Bool) [ mode.Hold ↦ b | mode.Drop ↦ true ]) (is at)

-- the number of a block that is closed has 24 bits
pub block_below : (block g segments b : ℕ) → block * g + g ≤ segments → segments ≤ 16777216 * b → g ≡ b → 1 ≤ g → block < 16777216
block_below block g segments b le few same some = go (cases_lt block 16777216)
  where
    go : (block < 16777216) ⊎ (16777216 ≤ block) → block < 16777216
    go (inl lt) = lt
    go (inr past) = absurd (let many : 16777216 * g ≤ block * g = mul-le-mul_right g past in omega (arith, many, le, few, same, some))

-- of so many segments, in blocks of b, those that are kept have room
pub room_is : (first blocks b rows : ℕ) → rows ≤ blocks * b → first * b + rows ≤ (first + blocks) * b
room_is first blocks b rows le = let both : (first + blocks) * b ≡ first * b + blocks * b = omega arith in omega (arith, both, le)

-- the number of the first block that is kept has 24 bits, or is the one behind
pub first_below : (first b rows : ℕ) → 1 ≤ b → first * b + rows ≤ 16777216 * b → first ≤ 16777216
first_below first b rows some few = go (cases_lt 16777216 first)
  where
    go : (16777216 < first) ⊎ (first ≤ 16777216) → first ≤ 16777216
    go (inr le) = le
    go (inl past) = absurd (let many : 16777217 * b ≤ first * b = mul-le-mul_right b (let z : 16777217 ≤ first = omega (arith, past) in z) in omega (arith, many, few, some))

pub last_below : (n g b : ℕ) → 1 ≤ g → g ≡ b → n ≤ 16777216 * b → (n ≡ 0 → ⊥) → (n - 1) / g < 16777216
last_below n g b some same few more = go (cases_lt ((n - 1) / g) 16777216)
  where
    go : ((n - 1) / g < 16777216) ⊎ (16777216 ≤ (n - 1) / g) → (n - 1) / g < 16777216
    go (inl lt) = lt
    go (inr past) = absurd (
        let many : 16777216 * g ≤ (n - 1) / g * g = mul-le-mul_right g past in
        let low : (n - 1) / g * g ≤ n - 1 = div-mul-le_self (n - 1) g in
        go_on (cases_lt 0 n) many low)
      where
        go_on : (0 < n) ⊎ (n ≤ 0) → 16777216 * g ≤ (n - 1) / g * g → (n - 1) / g * g ≤ n - 1 → ⊥
        go_on (inl lt) many low = omega (arith, many, low, few, same, lt)
        go_on (inr le) many low = more (omega (arith, le))

-- ---- blocks in a row

-- who is past a block's last symbol is past that of each before it
released_before : (p : Settings) (s : SenderState) (index : ℕ) (past : Option Position) (block last symbol : ℕ) → ((q : Position) → all_past s q ≡ reached_by past q) → block ≤ last
    → is_released p s (Some (position index last symbol)) ≡ true → is_released p s (Some (position index block symbol)) ≡ true
released_before p s index past block last symbol is le = go p.mode
  where
    nearer_by : (block < last) ⊎ (last ≤ block) → Behind (position index last symbol) (position index block symbol)
    nearer_by (inl lt) = inr (refl, inl lt)
    nearer_by (inr ge) = inr (refl, inr (let same : block ≡ last = omega (arith, le, ge) in same, let e : symbol ≤ symbol = omega arith in e))

    passes : (o : Option Position) → reached_by o (position index last symbol) ≡ true → reached_by o (position index block symbol) ≡ true
    passes None e = absurd (cc)
    passes (Some q) e =
        reached q (position index block symbol)
        (behind_both q (position index last symbol) (position index block symbol) (behind q (position index last symbol) e) (nearer_by (cases_lt block last)))

    go : (m : Mode) → (elim m as (λ v. Bool) [ mode.Hold ↦ all_past s (position index last symbol) | mode.Drop ↦ true ]) ≡ true
        → (elim m as (λ v. Bool) [ mode.Hold ↦ all_past s (position index block symbol) | mode.Drop ↦ true ]) ≡ true
    go mode.Hold e = is (position index block symbol) ∙ passes past (sym (is (position index last symbol)) ∙ e)
    go mode.Drop e = refl

-- how many segments the kept blocks before one have
front_long : (p : Settings) (index : ℕ) (parts : List Part) (sent : List Position) (h : HeldState) (to : ℕ) → Knows p index parts sent h → h.buffer.first < to
    → h.buffer.first * p.b + (to - h.buffer.first) * p.b ≡ to * p.b
front_long p index parts sent h to knows some =
    let less : (to - h.buffer.first) * p.b ≡ to * p.b - h.buffer.first * p.b = times_less to h.buffer.first p.b (omega (arith, some)) in
    let le : h.buffer.first * p.b ≤ to * p.b = mul-le-mul_right p.b (omega (arith, some)) in
    omega (arith, less, le)

-- there is a mark for each segment from the first kept one on
marks_long : (p : Settings) (index : ℕ) (parts : List Part) (sent : List Position) (h : HeldState) → Knows p index parts sent h → h.buffer.first * p.b + length h.sent ≡ closed_of p parts
marks_long p index parts sent h knows =
    omega (
      arith,
      ap length knows.marks,
      length-map-range_with_len (was_sent index p.b sent) (h.buffer.first * p.b) (length h.buffer.rows),
      counted p parts h.buffer knows.buffer,
      first_by p parts h.buffer knows.buffer,
    )

-- the kept blocks before one, as the rules ask of each
abbrev pub front : Settings → SenderState → ℕ → List Part → HeldState → ℕ → Bool
front p s index parts h to = list_all (block_may_go p s index (shape_of p (Stream parts))) (range_with_len h.buffer.first (to - h.buffer.first))

-- where they may all go, the last of them may
last_goes : (p : Settings) (s : SenderState) (index : ℕ) (parts : List Part) (h : HeldState) (to : ℕ) → h.buffer.first < to → front p s index parts h to ≡ true
    → block_may_go p s index (shape_of p (Stream parts)) (to - 1) ≡ true
last_goes p s index parts h to some all =
    one_of_all (block_may_go p s index (shape_of p (Stream parts))) h.buffer.first (to - h.buffer.first) (to - 1) all (omega (arith, some)) (omega (arith, some))

-- where their segments were all sent, they may go exactly where the mode lets the last of them go
pub front_released : (p : Settings) (s : SenderState) (index : ℕ) (parts : List Part) (h : HeldState) (past : Option Position) (to : ℕ) → 0 < p.b → Knows p index parts s.sent h
    → ((q : Position) → all_past s q ≡ reached_by past q) → h.buffer.first < to → (to - h.buffer.first) * p.b ≤ run_of h.sent
    → front p s index parts h to ≡ is_released p s (Some (position index (to - 1) (p.b - 1)))
front_released p s index parts h past to some knows is more sent = go (is_released p s (Some (position index (to - 1) (p.b - 1)))) refl
  where
    closed : to * p.b ≤ closed_of p parts
    closed = omega (arith, sent, prefix_len-le-length (λ b. b) h.sent, marks_long p index parts s.sent h knows, front_long p index parts s.sent h to knows more)

    one : is_released p s (Some (position index (to - 1) (p.b - 1))) ≡ true → (block : ℕ) → h.buffer.first ≤ block → block < h.buffer.first + (to - h.buffer.first)
        → block_may_go p s index (shape_of p (Stream parts)) block ≡ true
    one e block low high =
        let next : (block + 1) * p.b ≡ block * p.b + p.b = omega arith in
        let up : (block + 1) * p.b ≤ to * p.b = mul-le-mul_right p.b (omega (arith, high, more)) in
        let from : h.buffer.first * p.b ≤ block * p.b = mul-le-mul_right p.b low in
        goes_sent p s index parts h block knows from (omega (arith, next, up, closed))
        (released_before p s index past block (to - 1) (p.b - 1) is (omega (arith, high, more)) e)
        ∙ run_set h.sent (block * p.b - h.buffer.first * p.b) p.b (omega (arith, next, up, from, sent, front_long p index parts s.sent h to knows more))

    go : (b : Bool) → is_released p s (Some (position index (to - 1) (p.b - 1))) ≡ b → front p s index parts h to ≡ b
    go true e = all_pass (block_may_go p s index (shape_of p (Stream parts))) h.buffer.first (to - h.buffer.first) (one e)
    go false e = by (front p s index parts h to) refl
      where
        by : (b : Bool) → front p s index parts h to ≡ b → b ≡ false
        by false f = refl
        by true f = absurd (
            let may = both_right (is_full (shape_of p (Stream parts)) (to - 1) && all_sent s (symbols_of index p.b (to - 1))) (is_released p s (Some (position index (to - 1) (p.b - 1))))
            (last_goes p s index parts h to more f) in
            cc)

-- and where one was not, they may not all go
pub front_unsent : (p : Settings) (s : SenderState) (index : ℕ) (parts : List Part) (h : HeldState) (to : ℕ) → 0 < p.b → Knows p index parts s.sent h
    → h.buffer.first < to → run_of h.sent < (to - h.buffer.first) * p.b → front p s index parts h to ≡ false
front_unsent p s index parts h to some knows more short = go (front p s index parts h to) refl
  where
    n : ℕ
    n = (to - h.buffer.first) * p.b

    closed : front p s index parts h to ≡ true → to * p.b ≤ closed_of p parts
    closed all = by (cases_lt (closed_of p parts) ((to - 1) * p.b + p.b))
      where
        full : is_full (shape_of p (Stream parts)) (to - 1) ≡ true
        full =
            both_left (is_full (shape_of p (Stream parts)) (to - 1)) (all_sent s (symbols_of index p.b (to - 1)))
            (both_left (is_full (shape_of p (Stream parts)) (to - 1) && all_sent s (symbols_of index p.b (to - 1))) (is_released p s (Some (position index (to - 1) (p.b - 1))))
            (last_goes p s index parts h to more all))

        by : (closed_of p parts < (to - 1) * p.b + p.b) ⊎ ((to - 1) * p.b + p.b ≤ closed_of p parts) → to * p.b ≤ closed_of p parts
        by (inl lt) = absurd (let whole = full in let open_ = not_full p parts (to - 1) some lt in cc)
        by (inr le) =
            let whole : to * p.b ≡ (to - 1 + 1) * p.b = ap (λ k. k * p.b) (let e : to ≡ to - 1 + 1 = omega (arith, more) in e) in
            let next : (to - 1 + 1) * p.b ≡ (to - 1) * p.b + p.b = omega arith in
            omega (arith, le, whole, next)

    covered : front p s index parts h to ≡ true → n ≤ run_of h.sent
    covered all =
        let within : h.buffer.first * p.b + n ≤ closed_of p parts = omega (arith, closed all, front_long p index parts s.sent h to knows more) in
        let there : n ≤ length h.buffer.rows = omega (arith, within, counted p parts h.buffer knows.buffer, first_by p parts h.buffer knows.buffer) in
        run_covers h.sent n (omega (arith, within, marks_long p index parts s.sent h knows))
        (ap (λ (bs : List Bool). list_all (λ b. b) (take n bs)) knows.marks
        ∙ ap (list_all (λ (b : Bool). b)) (marks_taken index p.b s.sent (h.buffer.first * p.b) (length h.buffer.rows) n there)
        ∙ list_all-map (λ b. b) (was_sent index p.b s.sent) (range_with_len (h.buffer.first * p.b) n)
        ∙ all_pass (was_sent index p.b s.sent) (h.buffer.first * p.b) n
        (λ number low high. gone_sent p s index parts h to some knows all number (omega (arith, high, front_long p index parts s.sent h to knows more))))

    go : (b : Bool) → front p s index parts h to ≡ b → b ≡ false
    go false e = refl
    go true e = absurd (let le = covered e in omega (arith, le, short))

-- how many segments the code counts
pub front_count : (s : StreamState) (to x g : ℕ) → x ≡ s.first → g ≡ s.cut.b → (to - x) * g ≡ (to - s.first) * s.cut.b
front_count s to x g x-is g-is = ap (λ n. (to - n) * g) x-is ∙ ap (λ n. (to - s.first) * n) g-is

-- the segments of blocks that were sent are closed
pub front_closed : (h : HeldState) (to run : ℕ) → (to - h.buffer.first) * h.buffer.cut.b ≤ run → run ≤ length h.buffer.rows → h.buffer.first < to → to * h.buffer.cut.b ≤ closed_segments h.buffer
front_closed h to run sent le some =
    let less : (to - h.buffer.first) * h.buffer.cut.b ≡ to * h.buffer.cut.b - h.buffer.first * h.buffer.cut.b = times_less to h.buffer.first h.buffer.cut.b (omega (arith, some)) in
    omega (arith, less, sent, le)

-- ---- all segments

-- the closed segments of the blocks from one on are those from its first number on
blocks_all : (f : Position → Bool) (index b closed from n : ℕ) → 0 < b → closed ≤ (from + n) * b
    → list_all f (flat_map (λ block. symbols_of index (min b (closed - (block * b + 0))) block) (range_with_len from n))
    ≡ list_all (λ number. f (place_of index b number)) (range_with_len (from * b) (closed - from * b))
blocks_all f index b closed from zero some le =
    sym (ap (λ n. list_all (λ number. f (place_of index b number)) (range_with_len (from * b) n))
    (let e : closed - from * b ≡ zero = omega (arith, le, ap (λ n. n * b) (let z : from + zero ≡ from = omega arith in z)) in e))
blocks_all f index b closed from (suc n) some le =
    list_all-append f (symbols_of index m from) (flat_map (λ block. symbols_of index (min b (closed - (block * b + 0))) block) (range_with_len (from + 1) n))
    ∙ ap (λ x. x && list_all f (flat_map (λ block. symbols_of index (min b (closed - (block * b + 0))) block) (range_with_len (from + 1) n)))
    (list_all-map f (λ symbol. position index from symbol) (range_with_len 0 m)
    ∙ all_same (λ symbol. f (position index from symbol)) F 0 (from * b) m (λ k lt. ap f (ap (position index from) (let e : 0 + k ≡ k = omega arith in e)
    ∙ sym (place_is index b from k (omega (arith, lt))))))
    ∙ ap (λ x. list_all F (range_with_len (from * b) m) && x) (blocks_all f index b closed (from + 1) n some (omega (arith, le, ap (λ k. k * b) (let z : from + suc n ≡ from + 1 + n = omega arith in z))))
    ∙ ap (λ x. list_all F (range_with_len (from * b) m) && x) (behind (cases_lt closed (from * b + b)))
    ∙ sym (list_all-append F (range_with_len (from * b) m) (range_with_len (from * b + m) (closed - from * b - m)))
    ∙ ap (list_all F) (sym (range_split (from * b) m (closed - from * b - m)))
    ∙ ap (λ k. list_all F (range_with_len (from * b) k)) (let e : m + (closed - from * b - m) ≡ closed - from * b = omega arith in e)
  where
    m : ℕ
    m = min b (closed - (from * b + 0))

    F : ℕ → Bool
    F number = f (place_of index b number)

    next : (from + 1) * b ≡ from * b + b
    next = omega arith

    behind : (closed < from * b + b) ⊎ (from * b + b ≤ closed)
        → list_all F (range_with_len ((from + 1) * b) (closed - (from + 1) * b)) ≡ list_all F (range_with_len (from * b + m) (closed - from * b - m))
    behind (inl lt) =
        ap (λ k. list_all F (range_with_len ((from + 1) * b) k)) (let e : closed - (from + 1) * b ≡ 0 = omega (arith, lt, next) in e)
        ∙ sym (ap (λ k. list_all F (range_with_len (from * b + m) k)) (let e : closed - from * b - m ≡ 0 = omega (arith, lt) in e))
    behind (inr le2) =
        ap (λ k. list_all F (range_with_len k (closed - (from + 1) * b))) (let e : (from + 1) * b ≡ from * b + m = omega (arith, le2, next) in e)
        ∙ ap (λ k. list_all F (range_with_len (from * b + m) k)) (let e : closed - (from + 1) * b ≡ closed - from * b - m = omega (arith, le2, next) in e)

-- all closed segments were sent where those are that are kept
pub all_sent_is : (p : Settings) (s : SenderState) (index : ℕ) (parts : List Part) (h : HeldState) → 0 < p.b → Knows p index parts s.sent h
    → list_all (λ b. b) h.sent ≡ all_sent s (sources_in index (shape_of p (Stream parts)))
all_sent_is p s index parts h some knows =
    ap (list_all (λ (b : Bool). b)) knows.marks
    ∙ list_all-map (λ b. b) F (range_with_len from (length h.buffer.rows))
    ∙ ap (λ x. x && list_all F (range_with_len from (length h.buffer.rows)))
    (sym (all_pass F 0 from (λ k low high. knows.gone k (omega (arith, high)))))
    ∙ ap (λ k. list_all F (range_with_len 0 from) && list_all F (range_with_len k (length h.buffer.rows))) (let e : from ≡ 0 + from = omega arith in e)
    ∙ sym (list_all-append F (range_with_len 0 from) (range_with_len (0 + from) (length h.buffer.rows)))
    ∙ ap (list_all F) (sym (range_split 0 from (length h.buffer.rows)))
    ∙ ap (λ n. list_all F (range_with_len 0 n)) (let e : from + length h.buffer.rows ≡ closed_of p parts - 0 = omega (arith, counted p parts h.buffer knows.buffer, first_by p parts h.buffer knows.buffer) in e)
    ∙ ap (λ n. list_all F (range_with_len n (closed_of p parts - n))) (let e : 0 ≡ 0 * p.b = omega arith in e)
    ∙ sym (blocks_all (λ at. is_member position_before at s.sent) index p.b (closed_of p parts) 0 (div_ceil (closed_of p parts) p.b) some
    (omega (arith, (div_ceil_times (closed_of p parts) p.b some).0, ap (λ n. n * p.b) (let z : 0 + div_ceil (closed_of p parts) p.b ≡ div_ceil (closed_of p parts) p.b = omega arith in z))))
  where
    from : ℕ
    from = h.buffer.first * p.b

    F : ℕ → Bool
    F = was_sent index p.b s.sent

-- ---- the last segment

last_block : (q r b : ℕ) → 0 < b → r < b → div_ceil (q * b + r + 1) b ≡ q + 1
last_block q r b some lt = go (cases_lt (r + 1) b)
  where
    go : (r + 1 < b) ⊎ (b ≤ r + 1) → div_ceil (q * b + r + 1) b ≡ q + 1
    go (inl less) =
        ap (λ n. div_ceil n b) (let e : q * b + r + 1 ≡ q * b + (r + 1) = omega arith in e)
        ∙ (let e : (q * b + (r + 1)) / b + min 1 ((q * b + (r + 1)) % b) ≡ q + 1 = omega (arith, div-mul-add q b (r + 1) less, mod-mul-add q b (r + 1) less) in e)
    go (inr le) =
        ap (λ n. div_ceil n b) (let e : q * b + r + 1 ≡ (q + 1) * b + 0 = omega (arith, le, lt, (let z : (q + 1) * b ≡ q * b + b = omega arith in z)) in e)
        ∙ (let e : ((q + 1) * b + 0) / b + min 1 (((q + 1) * b + 0) % b) ≡ q + 1 = omega (arith, div-mul-add (q + 1) b 0 some, mod-mul-add (q + 1) b 0 some) in e)

pub none_last : (p : Settings) (index : ℕ) (parts : List Part) → closed_of p parts ≡ 0 → last_in index (shape_of p (Stream parts)) ≡ None
none_last p index parts none = ap (λ n. last_in index (record (shape_of p (Stream parts)) { closed = n })) none

pub last_is : (p : Settings) (index : ℕ) (parts : List Part) (last : ℕ) → 0 < p.b → closed_of p parts ≡ last + 1
    → last_in index (shape_of p (Stream parts)) ≡ Some (place_of index p.b last)
last_is p index parts last some is =
    ap (λ n. last_in index (record (shape_of p (Stream parts)) { closed = n })) (is ∙ more)
    ∙ by ((q * p.b + r + 1) == 0) (let e : (q * p.b + r + 1 == 0) ≡ false = grind (arith) in e)
  where
    q : ℕ
    q = last / p.b

    r : ℕ
    r = last % p.b

    more : last + 1 ≡ last / p.b * p.b + last % p.b + 1
    more = ap (λ n. n + 1) (sym (div-add-mod' last p.b))

    below : last % p.b < p.b
    below = mod-lt last some

    at : Position
    at = position index (div_ceil (q * p.b + r + 1) p.b - 1) (min p.b (q * p.b + r + 1 - ((div_ceil (q * p.b + r + 1) p.b - 1) * p.b + 0)) - 1)

    block : div_ceil (q * p.b + r + 1) p.b - 1 ≡ q
    block = omega (arith, last_block q r p.b some below)

    same : at ≡ place_of index p.b last
    same =
        ap (λ k. position index k (min p.b (q * p.b + r + 1 - (k * p.b + 0)) - 1)) block
        ∙ ap (position index q) (let e : min p.b (q * p.b + r + 1 - (q * p.b + 0)) - 1 ≡ r = omega (arith, below) in e)

    by : (b : Bool) → b ≡ false → (elim b as (λ v. Option Position) [ true ↦ None | false ↦ Some at ]) ≡ Some (place_of index p.b last)
    by true e = absurd (cc)
    by false e = ap Some same
