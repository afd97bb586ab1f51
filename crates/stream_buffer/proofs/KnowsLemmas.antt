-- What a stream of the window knows, as the stream goes on and as its symbols are sent.
use Rattle.std.proofs.Common.{◌≡◌, ℕ, ◌+◌, ◌-◌, ◌*◌, ◌/◌, ◌%◌, ◌<◌, ◌≤◌, ◌⊎◌, inl, inr, Bool, true, false, refl, sym, ap, ◌∙◌, arith, List, [], ◌++◌, length, take, drop, Option, Some, None, length-append, length-drop}
use Rattle.std.specs.Prelude.{replicate, nat_lt, min, max, ◌==◌, Result, Ok, Err, MatchOption}
use Rattle.std.proofs.lemmas.Bool.{cases_lt, lt-ltb, ltb-true}
use Rattle.std.proofs.lemmas.List.{take_all}
use Rattle.std.proofs.lemmas.Nat.{div-add-mod'}
use Rattle.std.proofs.lemmas.List.FromFn.{length-map-range_with_len}
use Rattle.std.proofs.Math.Nat.{mod-lt, mul-le-mul_right}
use Rattle.norm_base.specs.Settings.{Settings}
use Rattle.fec_plan.specs.Partition.{Cut, encoding_symbols}
use Rattle.fec_plan.specs.Points.{Position}
use Rattle.norm_order.specs.Entries.{Part, Stream}
use Rattle.norm_order.specs.Segments.{closed_from}
use Rattle.norm_order.specs.Shapes.{shape_of, closed_in, is_full, encoded_in}
use Rattle.norm_order.proofs.StreamLemmas.{length-placed}
use Rattle.norm_send_rules.proofs.ShapeLemmas.{Blocks, shape_parity, encoded_in_more}
use Rattle.norm_send_rules.specs.declared.fault.StreamFault.{StreamFault}
use Rattle.stream_buffer.specs.StreamState.{StreamState, StandsFor, Goes, Answers, stream_fault, kept_from, closed_segments}
use Rattle.stream_buffer.proofs.StandingLemmas.{closed_is}
use Rattle.stream_buffer.specs.HeldState.{HeldState, Knows, AllSent, place_of, was_sent, marks_of}
use Rattle.stream_buffer.proofs.RangeLemmas.{marks_dropped, marks_more, none_pass, times_less}

-- how many segments of a stream are closed
abbrev pub closed_of : Settings → List Part → ℕ
closed_of p parts = length (closed_from p.e [] parts)

pub counted : (p : Settings) (parts : List Part) (s : StreamState) → StandsFor p parts s → closed_segments s ≡ closed_of p parts
counted p parts s st = closed_is p parts s st ∙ length-placed 0 (closed_from p.e [] parts)

-- a block is full where all its segments are closed
pub full_is : (p : Settings) (parts : List Part) (block : ℕ) → block * p.b + p.b ≤ closed_of p parts → is_full (shape_of p (Stream parts)) block ≡ true
full_is p parts block le =
    ap (λ n. n == p.b) (let e : min p.b (closed_of p parts - (block * p.b + 0)) ≡ p.b = omega (arith, le) in e) ∙ same p.b
  where
    same : (n : ℕ) → (n == n) ≡ true
    same n = grind (arith)

pub not_full : (p : Settings) (parts : List Part) (block : ℕ) → 0 < p.b → closed_of p parts < block * p.b + p.b → is_full (shape_of p (Stream parts)) block ≡ false
not_full p parts block some lt = apart (min p.b (closed_of p parts - (block * p.b + 0))) p.b (let e : min p.b (closed_of p parts - (block * p.b + 0)) < p.b = omega (arith, lt, some) in e)
  where
    apart : (m n : ℕ) → m < n → (m == n) ≡ false
    apart m n less = grind (arith)

-- a source symbol that is encoded is closed
pub is_closed : (p : Settings) (parts : List Part) (block symbol : ℕ) → symbol < p.b → nat_lt symbol (encoded_in (shape_of p (Stream parts)) block) ≡ true
    → block * p.b + symbol < closed_of p parts
is_closed p parts block symbol lt is = go (cases_lt (closed_of p parts) (block * p.b + p.b))
  where
    go : (closed_of p parts < block * p.b + p.b) ⊎ (block * p.b + p.b ≤ closed_of p parts) → block * p.b + symbol < closed_of p parts
    go (inl open_) =
        let less : symbol < min p.b (closed_of p parts - (block * p.b + 0)) =
        ltb-true symbol (closed_in (shape_of p (Stream parts)) block)
        (ap (λ (b : Bool). nat_lt symbol (elim b as (λ v. ℕ) [ true ↦ encoding_symbols (shape_of p (Stream parts)).cut block | false ↦ closed_in (shape_of p (Stream parts)) block ]))
        (sym (not_full p parts block (omega (arith, lt)) open_)) ∙ is) in
        omega (arith, less)
    go (inr full) = omega (arith, full, lt)

-- no segment was sent before it was closed
pub open_unsent : (p : Settings) (index : ℕ) (parts : List Part) (sent : List Position) (h : HeldState) (number : ℕ) → 0 < p.b → Knows p index parts sent h
    → closed_of p parts ≤ number → was_sent index p.b sent number ≡ false
open_unsent p index parts sent h number some knows past = go (was_sent index p.b sent number) refl
  where
    go : (b : Bool) → was_sent index p.b sent number ≡ b → b ≡ false
    go false e = refl
    go true e = absurd (
        let lt : number % p.b < p.b = mod-lt number some in
        let less = is_closed p parts (number / p.b) (number % p.b) lt (knows.only (place_of index p.b number) e refl) in
        omega (arith, less, past, div-add-mod' number p.b))

pub first_by : (p : Settings) (parts : List Part) (s : StreamState) → StandsFor p parts s → kept_from s ≡ s.first * p.b
first_by p parts s st = ap (λ (c : Cut). s.first * c.b) st.cut

-- the stream goes on, and some of its first segments that are kept are given up
pub goes_on : (p : Settings) (index : ℕ) (parts more : List Part) (sent : List Position) (h k : HeldState) → Blocks p → Knows p index parts sent h → StandsFor p more k.buffer
    → AllSent p index sent k.buffer.first → kept_from h.buffer ≤ kept_from k.buffer → kept_from k.buffer ≤ closed_segments h.buffer
    → closed_segments h.buffer ≤ closed_segments k.buffer → (gone : ℕ) → gone ≡ kept_from k.buffer - kept_from h.buffer
    → k.sent ≡ take (length k.buffer.rows) (drop gone h.sent) ++ replicate (length k.buffer.rows - (length h.sent - gone)) false
    → Knows p index more sent k
goes_on p index parts more sent h k blocks knows st gone_sent low high grows gone gone-is marks = record {
  buffer = st;
  marks =
      marks
      ∙ ap (λ (bs : List Bool). take (length k.buffer.rows) (drop gone bs) ++ replicate (length k.buffer.rows - (length bs - gone)) false) knows.marks
      ∙ ap (λ (bs : List Bool). take (length k.buffer.rows) bs ++ replicate (length k.buffer.rows - (length (marks_of index p.b sent from old) - gone)) false)
      (marks_dropped index p.b sent from old gone within)
      ∙ ap (λ (n : ℕ). take (length k.buffer.rows) (marks_of index p.b sent (from + gone) left) ++ replicate (length k.buffer.rows - (n - gone)) false)
      (length-map-range_with_len (was_sent index p.b sent) from old)
      ∙ ap (λ (bs : List Bool). bs ++ replicate (length k.buffer.rows - left) false)
      (take_all (length k.buffer.rows) (marks_of index p.b sent (from + gone) left)
      (omega (arith, length-map-range_with_len (was_sent index p.b sent) (from + gone) left, enough)))
      ∙ ap (λ (bs : List Bool). marks_of index p.b sent (from + gone) left ++ bs)
      (sym (none_pass (was_sent index p.b sent) (from + gone + left) (length k.buffer.rows - left)
      (λ number past lt. open_unsent p index parts sent h number blocks.b_pos knows (omega (arith, past, counted p parts h.buffer knows.buffer, from-is, within)))))
      ∙ sym (marks_more index p.b sent (from + gone) left (length k.buffer.rows - left))
      ∙ ap (λ n. marks_of index p.b sent (from + gone) n) (let e : left + (length k.buffer.rows - left) ≡ length k.buffer.rows = omega (arith, enough) in e)
      ∙ ap (λ n. marks_of index p.b sent n (length k.buffer.rows)) (let e : from + gone ≡ k.buffer.first * p.b = omega (arith, gone-is, from-is, to-is, low) in e);
  gone = gone_sent;
  only = λ at there same. encoded at (knows.only at there same);
}
  where
    from : ℕ
    from = h.buffer.first * p.b

    old : ℕ
    old = length h.buffer.rows

    left : ℕ
    left = length h.buffer.rows - gone

    from-is : kept_from h.buffer ≡ h.buffer.first * p.b
    from-is = first_by p parts h.buffer knows.buffer

    to-is : kept_from k.buffer ≡ k.buffer.first * p.b
    to-is = first_by p more k.buffer st

    within : gone ≤ length h.buffer.rows
    within = omega (arith, gone-is, high)

    enough : length h.buffer.rows - gone ≤ length k.buffer.rows
    enough = omega (arith, gone-is, low, high, grows)

    closed : closed_of p parts ≤ closed_of p more
    closed = omega (arith, counted p parts h.buffer knows.buffer, counted p more k.buffer st, grows)

    encoded : (at : Position) → nat_lt at.symbol (encoded_in (shape_of p (Stream parts)) at.block) ≡ true → nat_lt at.symbol (encoded_in (shape_of p (Stream more)) at.block) ≡ true
    encoded at is =
        let less = ltb-true at.symbol (encoded_in (shape_of p (Stream parts)) at.block) is in
        let le = encoded_in_more (shape_of p (Stream parts)) (shape_of p (Stream more)) at.block
        (record { cut = refl; closed = closed; info = refl; parity = shape_parity p blocks (Stream more) }) in
        lt-ltb at.symbol (encoded_in (shape_of p (Stream more)) at.block) (omega (arith, less, le))

-- ---- what a call of the buffer leaves

-- how profiles cut streams
pub blocks_by : (p : Settings) (parts : List Part) (s : StreamState) → StandsFor p parts s → 1 ≤ s.cut.e → 1 ≤ s.cut.b → s.cut.b ≤ s.cut.max_n → Blocks p
blocks_by p parts s st e b fits =
    let e-is = ap (λ (c : Cut). c.e) st.cut in
    let b-is = ap (λ (c : Cut). c.b) st.cut in
    let n-is = ap (λ (c : Cut). c.max_n) st.cut in
    record { e_pos = omega (arith, e, e-is); b_pos = omega (arith, b, b-is); most = omega (arith, fits, b-is, n-is) }

-- some blocks were given up, and more segments closed
pub grows : (s new : StreamState) (k : ℕ) (more : List (List ℕ)) → s.first ≤ k → kept_from new ≡ k * s.cut.b → kept_from new ≤ closed_segments s
    → new.rows ≡ drop (k * s.cut.b - kept_from s) s.rows ++ more → (kept_from s ≤ kept_from new) × (closed_segments s ≤ closed_segments new)
grows s new k more le from high rows =
    let low : s.first * s.cut.b ≤ k * s.cut.b = mul-le-mul_right s.cut.b le in
    let long = ap length rows ∙ length-append (drop (k * s.cut.b - kept_from s) s.rows) more in
    (omega (arith, from, low), omega (arith, from, low, high, long, length-drop (k * s.cut.b - kept_from s) s.rows))

pub longer : (s new : StreamState) (more : List (List ℕ)) → kept_from new ≡ kept_from s → new.rows ≡ s.rows ++ more → (kept_from s ≤ kept_from new) × (closed_segments s ≤ closed_segments new)
longer s new more from rows = (omega (arith, from), omega (arith, from, ap length rows, length-append s.rows more))

-- how many marks go
pub gone_is : (s new : StreamState) (x y g : ℕ) → x ≡ new.first → y ≡ s.first → g ≡ s.cut.b → new.cut.b ≡ s.cut.b → s.first ≤ new.first → (x - y) * g ≡ kept_from new - kept_from s
gone_is s new x y g x-is y-is g-is b-is le =
    ap (λ n. (n - y) * g) x-is
    ∙ ap (λ n. (new.first - n) * g) y-is
    ∙ ap (λ n. (new.first - s.first) * n) g-is
    ∙ times_less new.first s.first s.cut.b le
    ∙ ap (λ n. new.first * n - s.first * s.cut.b) (sym b-is)

-- so many marks that go are set, where those of all blocks are that may go
pub gone_set : (s new : StreamState) (x y g may_go run : ℕ) → x ≡ new.first → y ≡ s.first → g ≡ s.cut.b → new.first ≤ max s.first may_go → (may_go - s.first) * s.cut.b ≤ run → (x - y) * g ≤ run
gone_set s new x y g may_go run x-is y-is g-is low sent =
    let same : (x - y) * g ≡ (new.first - s.first) * s.cut.b = ap (λ n. (n - y) * g) x-is ∙ ap (λ n. (new.first - n) * g) y-is ∙ ap (λ n. (new.first - s.first) * n) g-is in
    let le : (new.first - s.first) * s.cut.b ≤ (may_go - s.first) * s.cut.b = mul-le-mul_right s.cut.b (omega (arith, low)) in
    omega (arith, same, le, sent)

-- what the stream is where the buffer accepted
pub went : {X : Type 0} (p : Settings) (parts more : List Part) (may_go : ℕ) (value x : X) (old new : StreamState) → Answers p parts more may_go value old new (Ok x)
    → Goes p parts more old new
went {X = X} p parts more may_go value x old new is = go (stream_fault p parts more old.first may_go) is
  where
    never : (fault : StreamFault) → ◌≡◌ {A = Result X StreamFault} (Ok x) (Err fault) → ⊥
    never fault e = cc

    go : (r : Option StreamFault) → MatchOption r (◌≡◌ {A = Result X StreamFault} (Ok x) (Ok value) × Goes p parts more old new) (λ fault. ◌≡◌ {A = Result X StreamFault} (Ok x) (Err fault) × (new ≡ old))
        → Goes p parts more old new
    go None m = m.1
    go (Some fault) m = absurd (never fault m.0)

-- the segments of all blocks before one, where that is none behind both
pub all_below : (p : Settings) (index : ℕ) (sent : List Position) (first may_go n : ℕ) → n ≤ max first may_go → AllSent p index sent first → AllSent p index sent may_go
    → AllSent p index sent n
all_below p index sent first may_go n le gone may number lt = go (cases_lt first may_go)
  where
    go : (first < may_go) ⊎ (may_go ≤ first) → was_sent index p.b sent number ≡ true
    go (inl less) = may number (let step : n * p.b ≤ may_go * p.b = mul-le-mul_right p.b (omega (arith, le, less)) in omega (arith, lt, step))
    go (inr more) = gone number (let step : n * p.b ≤ first * p.b = mul-le-mul_right p.b (omega (arith, le, more)) in omega (arith, lt, step))
