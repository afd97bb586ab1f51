-- Which blocks go for room, and what a call answers then.
use Rattle.std.proofs.Common.{◌≡◌, ℕ, zero, suc, ◌+◌, ◌-◌, ◌*◌, ◌/◌, ◌%◌, ◌<◌, ◌≤◌, ◌⊎◌, inl, inr, Bool, true, false, refl, sym, ap, subst, ◌∙◌, arith, List, [], ◌∷◌, ◌++◌, length, Option, Some, None}
use Rattle.std.specs.Prelude.{nat_lt, max, not, ◌&&◌, MatchOption, Result, Ok, Err, OnOk, OnErr}
use Rattle.std.specs.List.{range_with_len, list_all}
use Rattle.std.proofs.lemmas.Bool.{cases_lt}
use Rattle.std.proofs.lemmas.List.Folds.{list_all-map}
use Rattle.std.proofs.lemmas.Nat.{div-add-mod'}
use Rattle.std.proofs.Math.Nat.{mod-lt, mul-le-mul_right, div-mul-le_self}
use Rattle.norm_base.specs.Settings.{Settings}
use Rattle.fec_plan.specs.Points.{Position, position, position_before}
use Rattle.norm_order.specs.First.{first_where}
use Rattle.norm_order.specs.Entries.{Part, Stream}
use Rattle.norm_order.specs.Segments.{has_end, written}
use Rattle.norm_order.specs.Sets.{is_member}
use Rattle.norm_order.specs.Shapes.{shape_of, symbols_of, is_full}
use Rattle.norm_send_rules.specs.SenderState.{SenderState}
use Rattle.norm_send_rules.specs.Room.{all_sent, is_released, block_may_go, least_kept}
use Rattle.norm_send_rules.specs.Streaming.{used_segments, is_spent}
use Rattle.norm_send_rules.specs.declared.fault.StreamFault.{StreamFault}
use Rattle.norm_send_rules.specs.declared.fault.StreamFault.TheVariants.{Closed, Spent, Full}
use Rattle.stream_buffer.specs.StreamState.{Goes, Answers, stream_fault}
use Rattle.stream_buffer.specs.HeldState.{HeldState, Knows, AllSent, was_sent}
use Rattle.stream_buffer.specs.Growing.{has_room, growing_fault, Grows}

-- ---- what went was sent

pub both_left : (a b : Bool) → (a && b) ≡ true → a ≡ true
both_left true b e = refl
both_left false b e = absurd (cc)

pub both_right : (a b : Bool) → (a && b) ≡ true → b ≡ true
both_right true b e = e
both_right false b e = absurd (cc)

pub one_of_all : (f : ℕ → Bool) (a n k : ℕ) → list_all f (range_with_len a n) ≡ true → a ≤ k → k < a + n → f k ≡ true
one_of_all f a zero k e low high = absurd (omega arith)
one_of_all f a (suc n) k e low high =
    go (cases_lt a k) (λ lt. one_of_all f (a + 1) n k (both_right (f a) (list_all f (range_with_len (a + 1) n)) e) (omega (arith, lt)) (omega (arith, high)))
  where
    go : (a < k) ⊎ (k ≤ a) → (a < k → f k ≡ true) → f k ≡ true
    go (inl lt) more = more lt
    go (inr le) more = ap f (let same : k ≡ a = omega arith in same) ∙ both_left (f a) (list_all f (range_with_len (a + 1) n)) e

-- a symbol of a block that may go was sent
block_sent : (p : Settings) (s : SenderState) (index : ℕ) (parts : List Part) (block symbol : ℕ) → block_may_go p s index (shape_of p (Stream parts)) block ≡ true → symbol < p.b
    → is_member position_before (position index block symbol) s.sent ≡ true
block_sent p s index parts block symbol may lt =
    let both = both_left (is_full (shape_of p (Stream parts)) block && all_sent s (symbols_of index p.b block)) (is_released p s (Some (position index block (p.b - 1)))) may in
    let all = both_right (is_full (shape_of p (Stream parts)) block) (all_sent s (symbols_of index p.b block)) both in
    one_of_all (λ k. is_member position_before (position index block k) s.sent) 0 p.b symbol
    (sym (list_all-map (λ (at : Position). is_member position_before at s.sent) (λ k. position index block k) (range_with_len 0 p.b)) ∙ all) (omega arith) (omega (arith, lt))

pub gone_sent : (p : Settings) (s : SenderState) (index : ℕ) (parts : List Part) (h : HeldState) (to : ℕ) → 0 < p.b → Knows p index parts s.sent h
    → list_all (block_may_go p s index (shape_of p (Stream parts))) (range_with_len h.buffer.first (to - h.buffer.first)) ≡ true → AllSent p index s.sent to
gone_sent p s index parts h to some knows may number lt = go (cases_lt number (h.buffer.first * p.b))
  where
    go : (number < h.buffer.first * p.b) ⊎ (h.buffer.first * p.b ≤ number) → was_sent index p.b s.sent number ≡ true
    go (inl less) = knows.gone number less
    go (inr past) =
        block_sent p s index parts (number / p.b) (number % p.b)
        (one_of_all (block_may_go p s index (shape_of p (Stream parts))) h.buffer.first (to - h.buffer.first) (number / p.b) may low (omega (arith, low, high)))
        (mod-lt number some)
      where
        low : h.buffer.first ≤ number / p.b
        low = by (cases_lt (number / p.b) h.buffer.first)
          where
            by : (number / p.b < h.buffer.first) ⊎ (h.buffer.first ≤ number / p.b) → h.buffer.first ≤ number / p.b
            by (inr le) = le
            by (inl less) = absurd (
                let step : (number / p.b + 1) * p.b ≤ h.buffer.first * p.b = mul-le-mul_right p.b (omega (arith, less)) in
                let parts_of : (number / p.b + 1) * p.b ≡ number / p.b * p.b + p.b = omega arith in
                let below : number % p.b < p.b = mod-lt number some in
                omega (arith, step, parts_of, below, past, div-add-mod' number p.b))

        high : number / p.b < to
        high = by (cases_lt (number / p.b) to)
          where
            by : (number / p.b < to) ⊎ (to ≤ number / p.b) → number / p.b < to
            by (inl less) = less
            by (inr le) = absurd (
                let step : to * p.b ≤ number / p.b * p.b = mul-le-mul_right p.b le in
                omega (arith, step, lt, div-mul-le_self number p.b))

-- ---- the answer

-- the buffer's fault is the rules'
abbrev rows : Bool → Bool → Bool → ℕ → ℕ → Option StreamFault
rows ended spent full octets first = first_where ((ended, Closed) ∷ (spent, Spent octets) ∷ (full, Full first) ∷ [])

same_rows : (spent full room : Bool) (octets first : ℕ) → (spent ≡ false → full ≡ not room) → rows false spent full octets first ≡ first_where ((spent, Spent octets) ∷ (not room, Full first) ∷ [])
unfolding first_where
same_rows true full room octets first e = refl
same_rows false full room octets first e = ap (λ b. first_where ((b, Full first) ∷ [])) (e refl)

pub fault_is : (p : Settings) (s : SenderState) (index : ℕ) (parts more : List Part) (first may_go least : ℕ) (before : Bool) → has_end parts ≡ false
    → (is_spent p (parts ++ more) ≡ false → least ≡ least_kept p (used_segments p (parts ++ more)))
    → nat_lt (max first may_go) least ≡ not (has_room p s index parts first before least)
    → stream_fault p parts more first may_go ≡ growing_fault p s index parts more first before
fault_is p s index parts more first may_go least before unended least-is may =
    ap (λ b. rows b (is_spent p (parts ++ more)) (nat_lt (max first may_go) now) (length (written parts)) first) unended
    ∙ same_rows (is_spent p (parts ++ more)) (nat_lt (max first may_go) now) (has_room p s index parts first before now) (length (written parts)) first
    (λ free. ap (nat_lt (max first may_go)) (sym (least-is free)) ∙ may ∙ ap (λ n. not (has_room p s index parts first before n)) (least-is free))
  where
    now : ℕ
    now = least_kept p (used_segments p (parts ++ more))

-- what the call of the buffer answered is what the rules say
pub answers_grow : {X : Type 0} (p : Settings) (s : SenderState) (index : ℕ) (parts more : List Part) (may_go : ℕ) (before : Bool) (value : X) (old new : HeldState) (answer : Result X StreamFault)
    → stream_fault p parts more old.buffer.first may_go ≡ growing_fault p s index parts more old.buffer.first before
    → Answers p parts more may_go value old.buffer new.buffer answer → (answer ≡ Ok value → Knows p index (parts ++ more) s.sent new)
    → ((fault : StreamFault) → answer ≡ Err fault → new ≡ old)
    → Grows p s index parts more before value old new answer
answers_grow {X = X} p s index parts more may_go before value old new answer same is knows refused =
    subst (λ (r : Option StreamFault). MatchOption r
    (◌≡◌ {A = Result X StreamFault} answer (Ok value) × Knows p index (parts ++ more) s.sent new × (new.buffer.first ≡ max old.buffer.first (least_kept p (used_segments p (parts ++ more)))))
    (λ fault. ◌≡◌ {A = Result X StreamFault} answer (Err fault) × (new ≡ old))) same
    (go (stream_fault p parts more old.buffer.first may_go) is)
  where
    go : (r : Option StreamFault)
        → MatchOption r (◌≡◌ {A = Result X StreamFault} answer (Ok value) × Goes p parts more old.buffer new.buffer) (λ fault. ◌≡◌ {A = Result X StreamFault} answer (Err fault) × (new.buffer ≡ old.buffer))
        → MatchOption r
        (◌≡◌ {A = Result X StreamFault} answer (Ok value) × Knows p index (parts ++ more) s.sent new × (new.buffer.first ≡ max old.buffer.first (least_kept p (used_segments p (parts ++ more)))))
        (λ fault. ◌≡◌ {A = Result X StreamFault} answer (Err fault) × (new ≡ old))
    go None m = (m.0, knows m.0, m.1.first)
    go (Some fault) m = (m.0, refused fault m.0)

pub on_ok : {X : Type 0} (P : Type 0) (r : Result X StreamFault) (x : X) → OnOk r P → r ≡ Ok x → P
on_ok {X = X} P (Ok y) x h e = h
on_ok {X = X} P (Err fault) x h e = absurd (never e)
  where
    never : ◌≡◌ {A = Result X StreamFault} (Err fault) (Ok x) → ⊥
    never f = cc

pub on_err : {X : Type 0} (P : Type 0) (r : Result X StreamFault) (fault : StreamFault) → OnErr r P → r ≡ Err fault → P
on_err {X = X} P (Ok y) fault h e = absurd (never e)
  where
    never : ◌≡◌ {A = Result X StreamFault} (Ok y) (Err fault) → ⊥
    never f = cc
on_err {X = X} P (Err other) fault h e = h
