-- Once all that was enqueued is confirmed, all of the window may go: no hand-up is refused for want of room.
use Rattle.std.proofs.Common.{◌≡◌, ℕ, zero, suc, ◌+◌, ◌-◌, ◌*◌, ◌/◌, ◌%◌, ◌<◌, ◌≤◌, ◌⊎◌, inl, inr, List, [], ◌∷◌, ◌++◌, length, take, drop, Bool, true, false, Option, None, Some, refl, sym, ap, ◌∙◌, subst, arith}
use Rattle.std.specs.Prelude.{◌==◌, ◌&&◌, ◌||◌, ⊤, min, not, nat_le, nat_lt, is_none, flat_map, slice_get}
use Rattle.std.specs.Int.{div_ceil}
use Rattle.std.specs.List.{list_all, range_with_len}
use Rattle.std.proofs.lemmas.Bool.{cases_lt}
use Rattle.std.proofs.lemmas.Bool.Decides.{Decides-eqb}
use Rattle.std.proofs.lemmas.Grind.{div_ceil_times}
use Rattle.std.proofs.lemmas.List.{length-append}
use Rattle.std.proofs.lemmas.List.Folds.{list_all-append}
use Rattle.std.proofs.Math.Nat.{zero-mod}
use Rattle.norm_base.specs.Settings.{Settings, InRange}
use Rattle.norm_base.specs.declared.kinds.Kind.TheVariants as kind
use Rattle.norm_base.specs.declared.kinds.Mode.{Mode}
use Rattle.norm_base.specs.declared.kinds.Mode.TheVariants as mode
use Rattle.norm_base.specs.declared.node.Origin.{Origin}
use Rattle.fec_plan.specs.Points.{position, position_before, reaches}
use Rattle.fec_plan.specs.declared.position.Position.{Position}
use Rattle.fec_plan.proofs.PositionLemmas.{Behind, behind, behind_both, reached}
use Rattle.norm_order.specs.Entries.{Part, Write, Cut, End, Object, Whole, Stream, Entry}
use Rattle.norm_order.specs.First.{first_where}
use Rattle.norm_order.specs.Sets.{is_member}
use Rattle.norm_order.specs.Segments.{pieces, all_pieces, closed_from, since_cut, has_end}
use Rattle.norm_order.specs.Shapes.{Shape, shape_of, shapes_of, is_full, closed_in, closed_blocks, last_in, last_from, symbols_of, sources_in}
use Rattle.norm_send_rules.specs.Commanding.{commanded}
use Rattle.norm_send_rules.specs.Enqueuing.{object_fault, joined, open_stream}
use Rattle.norm_send_rules.specs.InWindow.{last_index}
use Rattle.norm_send_rules.specs.Room.{size_of, all_sent, is_released, may_go, block_may_go, window, has_to_go, may_all_go, first_kept, least_kept, blocks_may_go, stream_has_room}
use Rattle.norm_send_rules.specs.SenderState.{SenderState, Listing}
use Rattle.norm_send_rules.specs.Streaming.{open_fault, write_fault, close_fault, parts_now, used_segments, grown}
use Rattle.norm_send_rules.specs.Waiting.{may_wait}
use Rattle.norm_send_rules.specs.Watermarks.{all_past, is_past}
use Rattle.norm_send_rules.specs.declared.fault.EnqueueFault.{EnqueueFault}
use Rattle.norm_send_rules.specs.declared.fault.SendFault.TheVariants.{Enqueue}
use Rattle.norm_send_rules.specs.declared.job.Job.{Job}
use Rattle.norm_send_rules.specs.declared.job.Job.TheVariants as job
use Rattle.norm_send_rules.specs.declared.job.Receipt.{Receipt}
use Rattle.norm_safety.proofs.EntryLemmas.{clash}
use Rattle.norm_safety.proofs.CommandSteps.{where_free}
use Rattle.norm_safety.proofs.FrontLemmas.{both, of_both}
use Rattle.norm_safety.proofs.SenderHolds.{OpenEnds, open_ends, ends_found, some_octets}
use Rattle.norm_safety.proofs.SizedOrders.{not_less}
use Rattle.norm_relay.specs.RelayState.{next_origin}
use Rattle.norm_relay.specs.TakeLaws.{IsConfirmed, IsTaken, TakesOnceConfirmed}
use Rattle.norm_relay.proofs.GoesOnLemmas.{IsContent, job_content}

-- ---- positions

-- the last source symbol from an index on is at one found before, or after it
last_after : (first : ℕ) (shapes : List Shape) (at : Position) → at.index < first
    → (last : Position) × (last_from first (Some at) shapes ≡ Some last) × Behind last at
unfolding last_from
last_after first [] at before = (at, refl, inr (refl, inr (refl, omega arith)))
last_after first (s ∷ shapes) at before = go (s.closed == 0) (λ a less. last_after (first + 1) shapes a less)
  where
    here : Position
    here = position first (closed_blocks s - 1) (closed_in s (closed_blocks s - 1) - 1)

    own : Bool → Option Position
    own b = elim b [ true ↦ None | false ↦ Some here ]

    by : Bool → Option Position
    by b = elim (own b) [ Some found ↦ Some found | None ↦ Some at ]

    go : (b : Bool) → ((a : Position) → a.index < first + 1 → (last : Position) × (last_from (first + 1) (Some a) shapes ≡ Some last) × Behind last a)
        → (last : Position) × (last_from (first + 1) (by b) shapes ≡ Some last) × Behind last at
    go true later = later at (omega (arith, before))
    go false later = let more = later here (omega arith) in (more.0, more.1, behind_both more.0 here at more.2 (inl before))

in_index : (index : ℕ) (s : Shape) (at : Position) → last_in index s ≡ Some at → at.index ≡ index
in_index index s at e = go (s.closed == 0) e
  where
    go : (b : Bool) → (elim b [ true ↦ None | false ↦ Some (position index (closed_blocks s - 1) (closed_in s (closed_blocks s - 1) - 1)) ]) ≡ Some at
        → at.index ≡ index
    go true e = absurd (cc)
    go false e = sym (ap (λ (a : Position). a.index) (same _ at e))
      where
        same : (a b : Position) → Some a ≡ Some b → a ≡ b
        same a b e = cc

-- and at the last one of each entry, or after it
last_of_all : (first : ℕ) (found : Option Position) (shapes : List Shape) (i : ℕ) (s : Shape) (at : Position) → slice_get shapes i ≡ Some s
    → last_in (first + i) s ≡ Some at → (last : Position) × (last_from first found shapes ≡ Some last) × Behind last at
unfolding last_from
last_of_all first found [] i s at is e = absurd (nothing is)
  where
    nothing : None ≡ Some s → ⊥
    nothing is = cc
last_of_all first found (x ∷ shapes) zero s at is e =
    let same : x ≡ s = inside x is in
    let here : last_in first x ≡ Some at =
    ap (last_in first) same ∙ ap (λ n. last_in n s) (let z : first ≡ first + 0 = omega arith in z) ∙ e in
    let index : at.index ≡ first = in_index first x at here in
    let more = last_after (first + 1) shapes at (omega (arith, index)) in
    (more.0, ap (λ (o : Option Position). last_from (first + 1) (by o) shapes) here ∙ more.1, more.2)
  where
    inside : (a : Shape) → Some a ≡ Some s → a ≡ s
    inside a e = cc

    by : Option Position → Option Position
    by own = elim own [ Some at ↦ Some at | None ↦ found ]
last_of_all first found (x ∷ shapes) (suc i) s at is e =
    last_of_all (first + 1) (by (last_in first x)) shapes i s at is (ap (λ n. last_in n s) (let z : first + 1 + i ≡ first + suc i = omega arith in z) ∙ e)
  where
    by : Option Position → Option Position
    by own = elim own [ Some at ↦ Some at | None ↦ found ]

-- the shape of an entry
shape_at : (p : Settings) (order : List Entry) (i : ℕ) (x : Entry) → slice_get order i ≡ Some x → slice_get (shapes_of p order) i ≡ Some (shape_of p x.object)
shape_at p [] i x e = absurd (nothing e)
  where
    nothing : None ≡ Some x → ⊥
    nothing e = cc
shape_at p (y ∷ order) zero x e = ap (λ (z : Entry). Some (shape_of p z.object)) (inside y e)
  where
    inside : (a : Entry) → Some a ≡ Some x → a ≡ x
    inside a e = cc
shape_at p (y ∷ order) (suc i) x e = shape_at p order i x e

-- whoever is listed past a position is past each one before
all_past_before : (last at : Position) (ls : List Listing) → Behind last at → list_all (is_past last) ls ≡ true → list_all (is_past at) ls ≡ true
all_past_before last at [] after e = refl
all_past_before last at (l ∷ ls) after e = go l.past e (λ more. all_past_before last at ls after more)
  where
    test : Position → Option Position → Bool
    test at past = elim past [ Some past ↦ reaches past at | None ↦ false ]

    go : (past : Option Position) → (test last past && list_all (is_past last) ls) ≡ true
        → (list_all (is_past last) ls ≡ true → list_all (is_past at) ls ≡ true) → (test at past && list_all (is_past at) ls) ≡ true
    go None e later = absurd (clash e)
    go (Some past) e later =
        let two = both (reaches past last) (list_all (is_past last) ls) e in
        of_both (reaches past at) (list_all (is_past at) ls) (reached past at (behind_both past last at (behind past last two.0) after))
        (later two.1)

-- ---- objects

-- every member is past what is at the last source symbol of an entry, or before it
released : (p : Settings) (s : SenderState) (index : ℕ) (x : Entry) (at : Position) → IsConfirmed p s → slice_get s.current.order index ≡ Some x
    → last_in index (shape_of p x.object) ≡ Some at → (goal : Position) → Behind at goal → is_released p s (Some goal) ≡ true
released p s index x at h found e goal after = go p.mode
  where
    past : all_past s goal ≡ true
    past =
        let last = last_of_all 0 None (shapes_of p s.current.order) index (shape_of p x.object) at (shape_at p s.current.order index x found)
        (ap (λ n. last_in n (shape_of p x.object)) (let z : 0 + index ≡ index = omega arith in z) ∙ e) in
        all_past_before last.0 goal s.listings (behind_both last.0 at goal last.2 after) (h.past last.0 last.1)

    go : (m : Mode) → (elim m [ mode.Hold ↦ all_past s goal | mode.Drop ↦ true ]) ≡ true
    go mode.Hold = past
    go mode.Drop = refl

goes : (p : Settings) (s : SenderState) (index : ℕ) (x : Entry) → IsConfirmed p s → slice_get s.current.order index ≡ Some x
    → may_go p s index (shape_of p x.object) ≡ true
goes p s index x h found =
    of_both (all_sent s (sources_in index shape) && (not shape.info || is_member nat_lt index s.sent_infos)) (is_released p s (last_in index shape))
    (of_both (all_sent s (sources_in index shape)) (not shape.info || is_member nat_lt index s.sent_infos) (h.symbols index x found) (info shape.info refl))
    (last (last_in index shape) refl)
  where
    shape : Shape
    shape = shape_of p x.object

    info : (b : Bool) → (shape_of p x.object).info ≡ b → (not b || is_member nat_lt index s.sent_infos) ≡ true
    info true e = h.infos index x found e
    info false e = refl

    none : (m : Mode) → (elim m [ mode.Hold ↦ true | mode.Drop ↦ true ]) ≡ true
    none mode.Hold = refl
    none mode.Drop = refl

    last : (o : Option Position) → last_in index (shape_of p x.object) ≡ o → is_released p s o ≡ true
    last None e = none p.mode
    last (Some at) e = released p s index x at h found e at (inr (refl, inr (refl, omega arith)))

-- each of these entries may go
AllGo : Settings → SenderState → ℕ → List Entry → Type 0
AllGo p s index [] = ⊤
AllGo p s index (x ∷ entries) = (may_go p s index (shape_of p x.object) ≡ true) × AllGo p s (suc index) entries

all_go : (p : Settings) (s : SenderState) (index : ℕ) (entries : List Entry)
    → ((i : ℕ) (x : Entry) → slice_get entries i ≡ Some x → may_go p s (index + i) (shape_of p x.object) ≡ true) → AllGo p s index entries
unfolding AllGo
all_go p s index [] each = tt
all_go p s index (x ∷ entries) each = (
  ap (λ n. may_go p s n (shape_of p x.object)) (let z : index ≡ index + 0 = omega arith in z) ∙ each 0 x refl,
  all_go p s (suc index) entries
      (λ i y found. ap (λ n. may_go p s n (shape_of p y.object)) (let z : suc index + i ≡ index + suc i = omega arith in z) ∙ each (suc i) y found),
)

drop_goes : (p : Settings) (s : SenderState) (index n to : ℕ) (entries : List Entry) → to ≡ index + n → AllGo p s index entries → AllGo p s to (drop n entries)
unfolding AllGo
drop_goes p s index zero to entries e h = subst (λ m. AllGo p s m entries) (let z : index ≡ to = omega (arith, e) in z) h
drop_goes p s index (suc n) to [] e h = tt
drop_goes p s index (suc n) to (x ∷ entries) e h = drop_goes p s (suc index) n to entries (omega (arith, e)) h.1

take_goes : (p : Settings) (s : SenderState) (index n : ℕ) (entries : List Entry) → AllGo p s index entries → may_all_go p s index (take n entries) ≡ true
unfolding AllGo may_all_go
take_goes p s index zero entries h = refl
take_goes p s index (suc n) [] h = refl
take_goes p s index (suc n) (x ∷ entries) h =
    of_both (may_go p s index (shape_of p x.object)) (may_all_go p s (suc index) (take n entries)) h.0 (take_goes p s (suc index) n entries h.1)

-- so all of the window may go
window_goes : (p : Settings) (s : SenderState) (n : ℕ) → IsConfirmed p s → may_all_go p s s.current.drop.index (take n (window s)) ≡ true
window_goes p s n h =
    take_goes p s s.current.drop.index n (window s)
    (drop_goes p s 0 s.current.drop.index s.current.drop.index s.current.order (omega arith)
    (all_go p s 0 s.current.order (λ i x found. (
    ap (λ m. may_go p s m (shape_of p x.object)) (let z : 0 + i ≡ i = omega arith in z) ∙ goes p s i x h found
    ))))

-- ---- an open stream

-- a test that holds of each number of a range
each_in : (test : ℕ → Bool) (first n : ℕ) → ((k : ℕ) → first ≤ k → k < first + n → test k ≡ true) → list_all test (range_with_len first n) ≡ true
each_in test first zero each = refl
each_in test first (suc n) each =
    of_both (test first) (list_all test (range_with_len (first + 1) n)) (each first (omega arith) (omega arith))
    (each_in test (first + 1) n (λ k le lt. each k (omega (arith, le)) (omega (arith, lt))))

-- the closed symbols of a block are among those of its object
block_sent : (s : SenderState) (index block count first : ℕ) (closed : ℕ → ℕ) → first ≤ block → block < first + count
    → all_sent s (flat_map (λ b. symbols_of index (closed b) b) (range_with_len first count)) ≡ true → all_sent s (symbols_of index (closed block) block) ≡ true
block_sent s index block zero first closed le lt e = absurd (omega (arith, le, lt))
block_sent s index block (suc count) first closed le lt e =
    let two = both (all_sent s (symbols_of index (closed first) first))
    (all_sent s (flat_map (λ b. symbols_of index (closed b) b) (range_with_len (first + 1) count)))
    (sym (list_all-append (λ at. is_member position_before at s.sent) (symbols_of index (closed first) first)
    (flat_map (λ b. symbols_of index (closed b) b) (range_with_len (first + 1) count))) ∙ e) in
    go (first == block) refl two.0 two.1 (λ from to rest. block_sent s index block count (first + 1) closed from to rest)
  where
    go : (b : Bool) → (first == block) ≡ b → all_sent s (symbols_of index (closed first) first) ≡ true
        → all_sent s (flat_map (λ b. symbols_of index (closed b) b) (range_with_len (first + 1) count)) ≡ true
        → (first + 1 ≤ block → block < first + 1 + count → all_sent s (flat_map (λ b. symbols_of index (closed b) b) (range_with_len (first + 1) count)) ≡ true
        → all_sent s (symbols_of index (closed block) block) ≡ true) → all_sent s (symbols_of index (closed block) block) ≡ true
    go true same here rest later = subst (λ n. all_sent s (symbols_of index (closed n) n) ≡ true) ((Decides-eqb first block).0 same) here
    go false same here rest later =
        let other : first ≡ block → ⊥ = λ e. clash (sym same ∙ (Decides-eqb first block).1 e) in
        later (omega (arith, le, other)) (omega (arith, lt)) rest

mul_mono : (a b e : ℕ) → a ≤ b → a * e ≤ b * e
mul_mono zero b e le = let none : 0 * e ≡ 0 = omega arith in omega (arith, none)
mul_mono (suc a) zero e le = absurd (omega (arith, le))
mul_mono (suc a) (suc b) e le =
    let more = mul_mono a b e (omega (arith, le)) in
    let left : suc a * e ≡ e + a * e = omega arith in
    let right : suc b * e ≡ e + b * e = omega arith in
    omega (arith, more, left, right)

mul_less : (a b e : ℕ) → a * e < b * e → a < b
mul_less a b e lt = go (cases_lt a b)
  where
    go : (a < b) ⊎ (b ≤ a) → a < b
    go (inl less) = less
    go (inr le) = absurd (let more = mul_mono b a e le in omega (arith, lt, more))

-- a block of the open stream may go, if all its segments are closed
block_goes : (p : Settings) (s : SenderState) (index : ℕ) (x : Entry) (parts : List Part) (block : ℕ) → 0 < p.b → IsConfirmed p s
    → slice_get s.current.order index ≡ Some x → x.object ≡ Stream parts → suc block * p.b ≤ length (closed_from p.e [] parts)
    → block_may_go p s index (shape_of p (Stream parts)) block ≡ true
block_goes p s index x parts block some h found is le =
    of_both (is_full shape block && all_sent s (symbols_of index p.b block)) (is_released p s (Some (position index block (p.b - 1))))
    (of_both (is_full shape block) (all_sent s (symbols_of index p.b block)) ((Decides-eqb (closed_in shape block) p.b).1 full) sent)
    (released p s index x at h found last (position index block (p.b - 1)) after)
  where
    shape : Shape
    shape = shape_of p (Stream parts)

    closed : ℕ
    closed = length (closed_from p.e [] parts)

    next : suc block * p.b ≡ p.b + block * p.b
    next = omega arith

    full : min p.b (closed - (block * p.b + 0)) ≡ p.b
    full = omega (arith, le, next)

    many : closed ≤ div_ceil closed p.b * p.b
    many = (div_ceil_times closed p.b some).0

    within : block < div_ceil closed p.b
    within = mul_less block (div_ceil closed p.b) p.b (omega (arith, le, next, many, some))

    of_shape : (o : Object) → Stream parts ≡ o → all_sent s (sources_in index (shape_of p o)) ≡ true → all_sent s (sources_in index shape) ≡ true
    of_shape o same e = subst (λ (o : Object). all_sent s (sources_in index (shape_of p o)) ≡ true) (sym same) e

    sent : all_sent s (symbols_of index p.b block) ≡ true
    sent =
        subst (λ n. all_sent s (symbols_of index n block) ≡ true) full
        (block_sent s index block (div_ceil closed p.b) 0 (λ b. closed_in shape b) (omega arith) (let w = within in omega (arith, w))
        (of_shape x.object (sym is) (h.symbols index x found)))

    end : ℕ
    end = div_ceil closed p.b - 1

    at : Position
    at = position index end (closed_in shape end - 1)

    last_by : (b : Bool) → (closed == 0) ≡ b → (elim b [ true ↦ None | false ↦ Some at ]) ≡ Some at
    last_by true e = absurd (let none = (Decides-eqb closed 0).0 e in omega (arith, le, next, none, some))
    last_by false e = refl

    last : last_in index (shape_of p x.object) ≡ Some at
    last = ap (λ (o : Object). last_in index (shape_of p o)) is ∙ last_by (closed == 0) refl

    after : Behind at (position index block (p.b - 1))
    after = go (cases_lt block end)
      where
        go : (block < end) ⊎ (end ≤ block) → Behind at (position index block (p.b - 1))
        go (inl less) = inr (refl, inl less)
        go (inr more) =
            let same : block ≡ end = let w = within in omega (arith, more, w) in
            let here : closed_in shape end ≡ p.b = ap (closed_in shape) (sym same) ∙ full in
            inr (refl, inr (same, omega (arith, here)))

blocks_times : (n b : ℕ) → 0 < n → (n - 1) * b + b ≡ n * b
blocks_times zero b some = absurd (omega (arith, some))
blocks_times (suc n) b some = let less : suc n - 1 ≡ n = omega arith in ap (λ m. m * b + b) less ∙ omega arith

-- so the open stream has room for that many segments
room_for : (p : Settings) (s : SenderState) (segments : ℕ) → InRange p → IsConfirmed p s → is_none (open_stream s) ≡ false
    → segments ≤ length (closed_from p.e [] (parts_now s)) + 1 + (p.blocks - 1) * p.b → not (stream_has_room p s (last_index s) (shape_of p (Stream (parts_now s))) segments) ≡ false
room_for p s segments range h there le =
    ap not (or_right (nat_le (least_kept p segments) (first_kept s index)) (blocks_may_go p s index shape (least_kept p segments))
    (of_both (may_all_go p s s.current.drop.index (take (index - s.current.drop.index) (window s)))
    (list_all (block_may_go p s index shape) (range_with_len kept (least_kept p segments - kept)))
    (window_goes p s (index - s.current.drop.index) h)
    (each_in (block_may_go p s index shape) kept (least_kept p segments - kept)
    (λ block from to. block_goes p s index x (parts_now s) block some h (ends_found s ends) refl (closed_block block (omega (arith, from, to)))))))
  where
    index : ℕ
    index = last_index s

    shape : Shape
    shape = shape_of p (Stream (parts_now s))

    kept : ℕ
    kept = first_kept s (last_index s)

    ends : OpenEnds s
    ends = open_ends s there

    x : Entry
    x = record { by = ends.own; object = Stream (parts_now s) }

    some : 0 < p.b
    some = omega (arith, range.b.0)

    two : 1 < p.blocks
    two = omega (arith, range.blocks.0)

    or_right : (a b : Bool) → b ≡ true → (a || b) ≡ true
    or_right true b e = refl
    or_right false b e = e

    closed_block : (block : ℕ) → block < div_ceil segments p.b - p.blocks → suc block * p.b ≤ length (closed_from p.e [] (parts_now s))
    closed_block block lt =
        let times = (div_ceil_times segments p.b some).1 in
        let more = mul_mono (suc block + p.blocks) (div_ceil segments p.b) p.b (omega (arith, lt)) in
        let sum : (suc block + p.blocks) * p.b ≡ suc block * p.b + p.blocks * p.b = omega arith in
        let fewer : (p.blocks - 1) * p.b + p.b ≡ p.blocks * p.b = blocks_times p.blocks p.b (let t = two in omega (arith, t)) in
        omega (arith, times, more, sum, fewer, le)

-- ---- segments of a write or an end

pieces_many : (e n : ℕ) (octets : List ℕ) → length (pieces e n octets) ≡ n
unfolding pieces
pieces_many e zero octets = refl
pieces_many e (suc n) octets = ap suc (pieces_many e n (drop e octets))

-- the segments that a stream takes room for, from octets since its last cut on
abbrev used_from : ℕ → List ℕ → List Part → ℕ
used_from e since parts = length (closed_from e since parts) + min 1 (length (since_cut since parts) % e)

write_used : (e n : ℕ) (since : List ℕ) (parts : List Part) (by : Origin) (octets : List ℕ) → 0 < e → length octets ≤ n * e → has_end parts ≡ false
    → used_from e since (parts ++ Write by octets ∷ []) ≤ length (closed_from e since parts) + 1 + n
unfolding closed_from since_cut has_end
write_used e n since [] by octets some few unended =
    let long = length-append since octets in
    let now = pieces_many e (length (since ++ octets) / e) (since ++ octets) in
    let was = pieces_many e (length since / e) since in
    let times = (div_ceil_times (length (since ++ octets)) e some).1 in
    let before = (div_ceil_times (length since) e some).0 in
    let most = mul_mono (length since / e + min 1 (length since % e)) (length since / e + 1) e (omega arith) in
    let sum : (length since / e + n + 2) * e ≡ (length since / e + 1) * e + n * e + e = omega arith in
    let less = mul_less (length (since ++ octets) / e + min 1 (length (since ++ octets) % e)) (length since / e + n + 2) e
    (omega (arith, long, times, before, most, sum, few)) in
    omega (arith, now, was, less)
write_used e n since (Write own more ∷ parts) by octets some few unended = write_used e n (since ++ more) parts by octets some few unended
write_used e n since (Cut ∷ parts) by octets some few unended =
    let h = write_used e n [] parts by octets some few unended in
    let before = length-append (all_pieces e since) (closed_from e [] parts) in
    let after = length-append (all_pieces e since) (closed_from e [] (parts ++ Write by octets ∷ [])) in
    omega (arith, h, before, after)
write_used e n since (End ∷ parts) by octets some few unended = absurd (clash (sym unended))

end_used : (e : ℕ) (since : List ℕ) (parts : List Part) → 0 < e → has_end parts ≡ false
    → used_from e since (parts ++ End ∷ []) ≤ length (closed_from e since parts) + 2
unfolding closed_from since_cut has_end
end_used e since [] some unended =
    let long = length-append (all_pieces e since) ([] ∷ []) in
    let now = pieces_many e (div_ceil (length since) e) since in
    let was = pieces_many e (length since / e) since in
    let nothing : 0 % e ≡ 0 = zero-mod e in
    omega (arith, long, now, was, nothing)
end_used e since (Write own more ∷ parts) some unended = end_used e (since ++ more) parts some unended
end_used e since (Cut ∷ parts) some unended =
    let h = end_used e [] parts some unended in
    let before = length-append (all_pieces e since) (closed_from e [] parts) in
    let after = length-append (all_pieces e since) (closed_from e [] (parts ++ End ∷ [])) in
    omega (arith, h, before, after)
end_used e since (End ∷ parts) some unended = absurd (clash (sym unended))

-- ---- a job

-- a fault that is no want of room
abbrev FreeFault : Option EnqueueFault → Type 0
FreeFault None = ⊤
FreeFault (Some fault) = may_wait (Enqueue fault) ≡ false

row : (b : Bool) (fault : EnqueueFault) (rows : List (Bool × EnqueueFault)) → may_wait (Enqueue fault) ≡ false
    → (b ≡ false → FreeFault (first_where rows)) → FreeFault (first_where ((b, fault) ∷ rows))
unfolding first_where
row true fault rows h more = h
row false fault rows h more = more refl

room_row : (b : Bool) (fault : EnqueueFault) → b ≡ false → FreeFault (first_where ((b, fault) ∷ []))
unfolding first_where
room_row true fault e = absurd (clash (sym e))
room_row false fault e = tt

taken_if : (found : Option EnqueueFault) (s after : SenderState) (receipt : Receipt) → FreeFault found → IsTaken (where_free found s after receipt).1
taken_if None s after receipt h = tt
taken_if (Some fault) s after receipt h = h

object_taken : (p : Settings) (s : SenderState) (info : Option (List ℕ)) (octets : List ℕ) → IsConfirmed p s → FreeFault (object_fault p s info octets)
object_taken p s info octets h =
    row _ _ _ refl (λ some. row _ _ _ refl (λ fits. row _ _ _ refl (λ named. row _ _ _ refl (λ closed. row _ _ _ refl (λ ids.
    room_row _ _ (ap not (window_goes p s (has_to_go p (length octets) (window s)) h)))))))

job_taken : (p : Settings) (s : SenderState) (by : Origin) (given : Job) → InRange p → IsConfirmed p s → IsContent given → IsTaken (commanded p s by given).1
job_taken p s by (job.Data info bytes) range h content =
    taken_if (object_fault p s info bytes) s (joined p by (Whole kind.Data info bytes) s) _ (object_taken p s info bytes h)
job_taken p s by (job.File name bytes) range h content =
    taken_if (object_fault p s (Some name) bytes) s (joined p by (Whole kind.File (Some name) bytes) s) _ (object_taken p s (Some name) bytes h)
job_taken p s by job.Open range h content =
    taken_if (open_fault p s) s (joined p by (Stream []) s) _
    (row _ _ _ refl (λ fits. row _ _ _ refl (λ closed. row _ _ _ refl (λ ids.
    room_row _ _ (ap not (window_goes p s (has_to_go p (size_of p (Stream [])) (window s)) h))))))
job_taken p s by (job.Write bytes) range h content =
    taken_if (write_fault p s bytes (parts_now s ++ Write by bytes ∷ [])) s (grown p s (parts_now s ++ Write by bytes ∷ [])) _
    (row _ _ _ refl (λ some. row _ _ _ refl (λ fits. row _ _ _ refl (λ there. row _ _ _ refl (λ spent.
    room_row _ _ (room_for p s (used_segments p (parts_now s ++ Write by bytes ∷ [])) range h there
    (write_used p.e ((p.blocks - 1) * p.b) [] (parts_now s) by bytes (some_octets p range) (not_less ((p.blocks - 1) * p.b * p.e) (length bytes) fits)
    (open_ends s there).unended)))))))
job_taken p s by job.Close range h content =
    taken_if (close_fault p s (parts_now s ++ End ∷ [])) s (grown p s (parts_now s ++ End ∷ [])) _
    (row _ _ _ refl (λ there. row _ _ _ refl (λ spent.
    room_row _ _ (room_for p s (used_segments p (parts_now s ++ End ∷ [])) range h there
    (more p.blocks p.b (omega (arith, range.blocks.0)) (omega (arith, range.b.0)) (end_used p.e [] (parts_now s) (some_octets p range) (open_ends s there).unended))))))
  where
    more : (blocks b : ℕ) → 1 < blocks → 0 < b → used_segments p (parts_now s ++ End ∷ []) ≤ length (closed_from p.e [] (parts_now s)) + 2
        → used_segments p (parts_now s ++ End ∷ []) ≤ length (closed_from p.e [] (parts_now s)) + 1 + (blocks - 1) * b
    more blocks b two some le = let least = mul_mono 1 (blocks - 1) b (omega (arith, two)) in omega (arith, le, least, some)
job_taken p s by (job.Mark quorum) range h content = absurd content
job_taken p s by (job.Restart id) range h content = absurd content
job_taken p s by (job.Strike node) range h content = absurd content

pub takes_once_confirmed : TakesOnceConfirmed
takes_once_confirmed now x u given range h is =
    job_taken x.lower.p x.lower.world.sender (next_origin x) given range h (job_content x.opened u given is)
