-- Which fault a call answers, and what the stream is where it answers none.
use Rattle.std.proofs.Common.{◌≡◌, ℕ, zero, suc, ◌+◌, ◌-◌, ◌*◌, ◌<◌, ◌≤◌, ◌⊎◌, inl, inr, List, [], ◌∷◌, ◌++◌, length, map, drop, Bool, true, false, Option, None, Some, refl, sym, ap, subst, ◌∙◌, arith, length-drop, length-append, append-nil}
use Rattle.std.specs.Prelude.{min, max, nat_lt, ◌||◌, Result, Ok, Err, MatchOption}
use Rattle.std.specs.Int.{div_ceil}
use Rattle.std.proofs.lemmas.Bool.{cases_lt, lt-ltb, le-ltb, ltb-false}
use Rattle.std.proofs.Math.Nat.{mul-le-mul_right, zero-div}
use Rattle.std.proofs.lemmas.Grind.{div_ceil_times}
use Rattle.norm_base.specs.Settings.{Settings}
use Rattle.norm_base.specs.declared.node.Origin.{Origin}
use Rattle.fec_plan.specs.Partition.{Cut}
use Rattle.norm_order.specs.Entries.{Part, Write, End}
use Rattle.norm_order.specs.First.{first_where}
use Rattle.norm_order.specs.Segments.{pieces, closed_from, placed, written, since_cut, has_end}
use Rattle.norm_send_rules.specs.Streaming.{used_segments, is_spent}
use Rattle.norm_send_rules.specs.Room.{least_kept}
use Rattle.norm_send_rules.specs.declared.fault.StreamFault.{StreamFault}
use Rattle.norm_send_rules.specs.declared.fault.StreamFault.TheVariants.{Closed, Spent, Full}
use Rattle.stream_buffer.specs.StreamState.{StreamState, StandsFor, Goes, Answers, stream_fault, empty_stream, closed_segments, coded}
use Rattle.stream_buffer.specs.StreamMoves.{with_octets, ended_here, kept_for, from_block, room_fault}
use Rattle.stream_buffer.proofs.CuttingLemmas.{none_behind, written-more, written-write, written-end}
use Rattle.stream_buffer.proofs.StandingLemmas.{wrote_stands, ended_stands, given_up_stands, used_written, used_ended}

-- a stream to which nothing was written
pub empty_stands : (p : Settings) → StandsFor p [] (empty_stream p)
unfolding closed_from pieces placed written since_cut has_end
empty_stands p = record {
  cut = refl;
  blocks = refl;
  within = omega arith;
  rows = sym (ap (λ n. map (coded p.e) (drop (0 * p.b) (placed 0 (pieces p.e n [])))) (zero-div p.e) ∙ nothing (0 * p.b));
  filling = sym (none_behind p.e);
  octets = refl;
  ended = refl;
}
  where
    nothing : (n : ℕ) → map (coded p.e) (drop n []) ≡ []
    nothing zero = refl
    nothing (suc n) = refl

-- ---- the first fault

-- the rows of the table behind the first
abbrev others : Settings → List Part → List Part → ℕ → ℕ → List (Bool × StreamFault)
others p parts more first may_go =
    (is_spent p (parts ++ more), Spent (length (written parts)))
    ∷ (nat_lt (max first may_go) (least_kept p (used_segments p (parts ++ more))), Full first)
    ∷ []

pub closed_first : (p : Settings) (parts more : List Part) (first may_go : ℕ) → has_end parts ≡ true → stream_fault p parts more first may_go ≡ Some Closed
unfolding first_where
closed_first p parts more first may_go is = ap (λ (b : Bool). first_where ((b, Closed) ∷ others p parts more first may_go)) is

pub spent_first : (p : Settings) (parts more : List Part) (first may_go : ℕ) → has_end parts ≡ false → 4294967295 < length (written (parts ++ more))
    → stream_fault p parts more first may_go ≡ Some (Spent (length (written parts)))
unfolding first_where
spent_first p parts more first may_go unended many =
    ap (λ (b : Bool). first_where ((b, Closed) ∷ others p parts more first may_go)) unended
    ∙ ap (λ (b : Bool). first_where ((b || nat_lt (16777216 * p.b) (used_segments p (parts ++ more)), Spent (length (written parts)))
    ∷ (nat_lt (max first may_go) (least_kept p (used_segments p (parts ++ more))), Full first) ∷ [])) (lt-ltb 4294967295 (length (written (parts ++ more))) many)

abbrev tests : Bool → Bool → ℕ → ℕ → Option StreamFault
tests spent full octets first = first_where ((spent, Spent octets) ∷ (full, Full first) ∷ [])

pub room_first : (p : Settings) (parts more : List Part) (s : StreamState) (used may_go : ℕ) → StandsFor p parts s → has_end parts ≡ false
    → length (written (parts ++ more)) ≤ 4294967295 → used_segments p (parts ++ more) ≡ used
    → stream_fault p parts more s.first may_go ≡ room_fault s used may_go
unfolding first_where
room_first p parts more s used may_go st unended few is =
    ap (λ (b : Bool). first_where ((b, Closed) ∷ others p parts more s.first may_go)) unended
    ∙ ap (λ (b : Bool). tests (b || nat_lt (16777216 * p.b) (used_segments p (parts ++ more))) (nat_lt (max s.first may_go) (least_kept p (used_segments p (parts ++ more)))) (length (written parts)) s.first)
    (le-ltb 4294967295 (length (written (parts ++ more))) few)
    ∙ ap (λ n. tests (nat_lt (16777216 * p.b) n) (nat_lt (max s.first may_go) (least_kept p n)) (length (written parts)) s.first) is
    ∙ ap (λ n. tests (nat_lt (16777216 * p.b) used) (nat_lt (max s.first may_go) (least_kept p used)) n s.first) (sym st.octets)
    ∙ ap (λ (c : Cut). tests (nat_lt (16777216 * c.b) used) (nat_lt (max s.first may_go) (div_ceil used c.b - p.blocks)) s.octets s.first) (sym st.cut)
    ∙ ap (λ n. tests (nat_lt (16777216 * s.cut.b) used) (nat_lt (max s.first may_go) (div_ceil used s.cut.b - n)) s.octets s.first) (sym st.blocks)

-- ---- the answer

pub refused : {X : Type 0} (p : Settings) (parts more : List Part) (may_go : ℕ) (value : X) (old new : StreamState) (answer : Result X StreamFault) (fault : StreamFault)
    → stream_fault p parts more old.first may_go ≡ Some fault → answer ≡ Err fault → new ≡ old → Answers p parts more may_go value old new answer
refused {X = X} p parts more may_go value old new answer fault is a same =
    subst (λ (o : Option StreamFault). MatchOption o ((answer ≡ Ok value) × Goes p parts more old new) (λ f. (answer ≡ Err f) × (new ≡ old))) (sym is) (a, same)

accepted : {X : Type 0} (p : Settings) (parts more : List Part) (may_go : ℕ) (value : X) (old new : StreamState) (answer : Result X StreamFault)
    → stream_fault p parts more old.first may_go ≡ None → answer ≡ Ok value → Goes p parts more old new → Answers p parts more may_go value old new answer
accepted {X = X} p parts more may_go value old new answer is a goes =
    subst (λ (o : Option StreamFault). MatchOption o ((answer ≡ Ok value) × Goes p parts more old new) (λ f. (answer ≡ Err f) × (new ≡ old))) (sym is) (a, goes)

-- what making room answers
abbrev pub Makes : StreamState → ℕ → ℕ → StreamState → Result Unit StreamFault → Type 0
Makes s used may_go mid answer = MatchOption (room_fault s used may_go)
    ((answer ≡ Ok tt) × (mid ≡ from_block (kept_for s used) s)) (λ fault. (answer ≡ Err fault) × (mid ≡ s))

not_ok : (fault : StreamFault) → ◌≡◌ {A = Result Unit StreamFault} (Ok tt) (Err fault) → ⊥
not_ok fault e = cc

same_fault : (one other : StreamFault) → ◌≡◌ {A = Result Unit StreamFault} (Err one) (Err other) → one ≡ other
same_fault one other e = cc

-- where it made no room
pub no_room : (s mid : StreamState) (used may_go : ℕ) (answer : Result Unit StreamFault) (fault : StreamFault) → Makes s used may_go mid answer → answer ≡ Err fault
    → (room_fault s used may_go ≡ Some fault) × (mid ≡ s)
no_room s mid used may_go answer fault made is = go (room_fault s used may_go) refl made
  where
    go : (o : Option StreamFault) → room_fault s used may_go ≡ o
        → MatchOption o ((answer ≡ Ok tt) × (mid ≡ from_block (kept_for s used) s)) (λ f. (answer ≡ Err f) × (mid ≡ s))
        → (room_fault s used may_go ≡ Some fault) × (mid ≡ s)
    go None e m = absurd (not_ok fault (sym m.0 ∙ is))
    go (Some other) e m = (e ∙ ap Some (same_fault other fault (sym m.0 ∙ is)), m.1)

-- where it made room
pub made_room : (s mid : StreamState) (used may_go : ℕ) (answer : Result Unit StreamFault) → Makes s used may_go mid answer → answer ≡ Ok tt
    → (room_fault s used may_go ≡ None) × (mid ≡ from_block (kept_for s used) s)
made_room s mid used may_go answer made is = go (room_fault s used may_go) refl made
  where
    go : (o : Option StreamFault) → room_fault s used may_go ≡ o
        → MatchOption o ((answer ≡ Ok tt) × (mid ≡ from_block (kept_for s used) s)) (λ f. (answer ≡ Err f) × (mid ≡ s))
        → (room_fault s used may_go ≡ None) × (mid ≡ from_block (kept_for s used) s)
    go None e m = (e, m.1)
    go (Some other) e m = absurd (not_ok other (sym is ∙ m.0))

-- what room is made for
free_room : (spent full : Bool) (octets first : ℕ) → tests spent full octets first ≡ None → (spent ≡ false) × (full ≡ false)
unfolding first_where
free_room true full octets first e = absurd (cc)
free_room false true octets first e = absurd (cc)
free_room false false octets first e = (refl, refl)

least_fits : (s : StreamState) (used may_go : ℕ) → room_fault s used may_go ≡ None → div_ceil used s.cut.b - s.blocks ≤ max s.first may_go
least_fits s used may_go none =
    ltb-false (max s.first may_go) (div_ceil used s.cut.b - s.blocks)
    (free_room (nat_lt (16777216 * s.cut.b) used) (nat_lt (max s.first may_go) (div_ceil used s.cut.b - s.blocks)) s.octets s.first none).1

-- no block is given up that may not be
pub first_fits : (s : StreamState) (used may_go : ℕ) → room_fault s used may_go ≡ None → kept_for s used ≤ max s.first may_go
first_fits s used may_go none = omega (arith, least_fits s used may_go none)

-- the first block that is kept then is one that may be
pub kept_fits : (s : StreamState) (used may_go : ℕ) → room_fault s used may_go ≡ None → may_go * s.cut.b ≤ closed_segments s → kept_for s used * s.cut.b ≤ closed_segments s
kept_fits s used may_go none may = go (cases_lt s.first may_go)
  where
    le : div_ceil used s.cut.b - s.blocks ≤ max s.first may_go
    le = least_fits s used may_go none

    go : (s.first < may_go) ⊎ (may_go ≤ s.first) → kept_for s used * s.cut.b ≤ closed_segments s
    go (inl lt) = let step : kept_for s used * s.cut.b ≤ may_go * s.cut.b = mul-le-mul_right s.cut.b (omega (arith, le, lt)) in omega (arith, step, may)
    go (inr ge) = let step : kept_for s used * s.cut.b ≤ s.first * s.cut.b = mul-le-mul_right s.cut.b (omega (arith, le, ge)) in omega (arith, step)

pub kept_more : (s : StreamState) (used : ℕ) → s.first * s.cut.b ≤ kept_for s used * s.cut.b
kept_more s used = mul-le-mul_right s.cut.b (omega arith)

first_is : (p : Settings) (parts : List Part) (s : StreamState) (used segments : ℕ) → StandsFor p parts s → segments ≡ used
    → kept_for s used ≡ max s.first (least_kept p segments)
first_is p parts s used segments st is =
    ap (λ (c : Cut). max s.first (div_ceil used c.b - s.blocks)) st.cut
    ∙ ap (λ n. max s.first (div_ceil used p.b - n)) st.blocks
    ∙ ap (λ n. max s.first (least_kept p n)) (sym is)

-- a write that is accepted
pub wrote : (p : Settings) (parts : List Part) (by : Origin) (octets : List ℕ) (s new : StreamState) (used may_go : ℕ) (answer : Result ℕ StreamFault)
    → StandsFor p parts s → 0 < p.e → has_end parts ≡ false → length (written (parts ++ Write by octets ∷ [])) ≤ 4294967295
    → used ≡ closed_segments s + div_ceil (length s.filling + length octets) s.cut.e → may_go * s.cut.b ≤ closed_segments s
    → room_fault s used may_go ≡ None → new ≡ with_octets octets (from_block (kept_for s used) s) → answer ≡ Ok s.octets
    → Answers p parts (Write by octets ∷ []) may_go s.octets s new answer
wrote p parts by octets s new used may_go answer st some unended few is may none new_is a =
    accepted p parts (Write by octets ∷ []) may_go s.octets s new answer (room_first p parts (Write by octets ∷ []) s used may_go st unended few same ∙ none) a
    (record {
      stands = subst (StandsFor p (parts ++ Write by octets ∷ [])) (sym new_is)
          (wrote_stands p parts by octets (from_block (kept_for s used) s) (given_up_stands p parts s (kept_for s used) st (kept_more s used) (kept_fits s used may_go none may)) some unended);
      first = ap (λ (v : StreamState). v.first) new_is ∙ first_is p parts s used (used_segments p (parts ++ Write by octets ∷ [])) st same;
    })
  where
    same : used_segments p (parts ++ Write by octets ∷ []) ≡ used
    same = used_written p parts by octets s st some unended ∙ sym is

-- an end that is accepted
pub closes : (p : Settings) (parts : List Part) (s new : StreamState) (used may_go : ℕ) (answer : Result Unit StreamFault)
    → StandsFor p parts s → 0 < p.e → has_end parts ≡ false → length (written (parts ++ End ∷ [])) ≤ 4294967295 → length s.filling < p.e
    → used ≡ closed_segments s + min 1 (length s.filling) + 1 → may_go * s.cut.b ≤ closed_segments s
    → room_fault s used may_go ≡ None → new ≡ ended_here (from_block (kept_for s used) s) → answer ≡ Ok tt
    → Answers p parts (End ∷ []) may_go tt s new answer
closes p parts s new used may_go answer st some unended few short is may none new_is a =
    accepted p parts (End ∷ []) may_go tt s new answer (room_first p parts (End ∷ []) s used may_go st unended few same ∙ none) a
    (record {
      stands = subst (StandsFor p (parts ++ End ∷ [])) (sym new_is)
          (ended_stands p parts (from_block (kept_for s used) s) (given_up_stands p parts s (kept_for s used) st (kept_more s used) (kept_fits s used may_go none may)) some unended);
      first = ap (λ (v : StreamState). v.first) new_is ∙ first_is p parts s used (used_segments p (parts ++ End ∷ [])) st same;
    })
  where
    same : used_segments p (parts ++ End ∷ []) ≡ used
    same = used_ended p parts s st some unended short ∙ sym is

-- ---- the room that was made

-- the closed segments stay as they are, and there are rows for those that come
pub made_free : (s mid : StreamState) (used may_go more : ℕ) → room_fault s used may_go ≡ None → mid ≡ from_block (kept_for s used) s
    → may_go * s.cut.b ≤ closed_segments s → used ≡ closed_segments s + more → 1 ≤ s.cut.b
    → (length mid.rows + more ≤ mid.blocks * mid.cut.b) × (closed_segments mid + more ≤ 16777216 * mid.cut.b)
made_free s mid used may_go more none is may many some =
    subst (λ (v : StreamState). (length v.rows + more ≤ v.blocks * v.cut.b) × (closed_segments v + more ≤ 16777216 * v.cut.b)) (sym is) (rows, named)
  where
    kept : kept_for s used * s.cut.b ≤ closed_segments s
    kept = kept_fits s used may_go none may

    from : s.first * s.cut.b ≤ kept_for s used * s.cut.b
    from = kept_more s used

    left : length (from_block (kept_for s used) s).rows ≡ length s.rows - (kept_for s used * s.cut.b - s.first * s.cut.b)
    left = length-drop (kept_for s used * s.cut.b - s.first * s.cut.b) s.rows

    enough : used ≤ (kept_for s used + s.blocks) * s.cut.b
    enough = omega (
      arith,
      (div_ceil_times used s.cut.b (omega (arith, some))).0,
      mul-le-mul_right s.cut.b (let h : div_ceil used s.cut.b ≤ kept_for s used + s.blocks = omega arith in h),
    )

    both : (kept_for s used + s.blocks) * s.cut.b ≡ kept_for s used * s.cut.b + s.blocks * s.cut.b
    both = omega arith

    rows : length (from_block (kept_for s used) s).rows + more ≤ s.blocks * s.cut.b
    rows = omega (arith, left, kept, from, enough, both, many)

    named : closed_segments (from_block (kept_for s used) s) + more ≤ 16777216 * s.cut.b
    named = omega (
      arith,
      left,
      kept,
      from,
      many,
      ltb-false (16777216 * s.cut.b) used
          (free_room (nat_lt (16777216 * s.cut.b) used) (nat_lt (max s.first may_go) (div_ceil used s.cut.b - s.blocks)) s.octets s.first none).0,
    )

pub length_wrote : (parts : List Part) (by : Origin) (octets : List ℕ) → length (written (parts ++ Write by octets ∷ [])) ≡ length (written parts) + length octets
length_wrote parts by octets = ap length (written-more parts (Write by octets ∷ []) ∙ ap (λ xs. written parts ++ xs) (written-write by octets)) ∙ length-append (written parts) octets

pub length_ended : (parts : List Part) → length (written (parts ++ End ∷ [])) ≡ length (written parts)
length_ended parts = ap length (written-more parts (End ∷ []) ∙ ap (λ xs. written parts ++ xs) written-end ∙ append-nil (written parts))

pub some_e : (p : Settings) (parts : List Part) (s : StreamState) → StandsFor p parts s → 64 ≤ s.cut.e → 0 < p.e
some_e p parts s st le = omega (arith, le, ap (λ (c : Cut). c.e) st.cut)

-- how many segments a write needs, as the call counts them
pub used_of : (v s : StreamState) (n closed filled pieces e from : ℕ) → v ≡ s → closed ≡ from + length v.rows → from ≡ v.first * v.cut.b → filled ≡ length v.filling
    → e ≡ v.cut.e → pieces ≡ div_ceil (filled + n) e → closed + pieces ≡ closed_segments s + div_ceil (length s.filling + n) s.cut.e
used_of v s n closed filled pieces e from same closed_is from_is filled_is e_is pieces_is =
    let last : pieces ≡ div_ceil (length s.filling + n) s.cut.e =
    pieces_is
    ∙ ap (λ m. div_ceil (m + n) e) filled_is
    ∙ ap (λ m. div_ceil (length v.filling + n) m) e_is
    ∙ ap (λ (w : StreamState). div_ceil (length w.filling + n) w.cut.e) same in
    omega (arith, last, closed_is, from_is, ap closed_segments same)

-- and how many an end needs
pub used_end : (v s : StreamState) (closed filled one from : ℕ) → v ≡ s → closed ≡ from + length v.rows → from ≡ v.first * v.cut.b → filled ≡ length v.filling
    → one ≡ min filled 1 → closed + one + 1 ≡ closed_segments s + min 1 (length s.filling) + 1
used_end v s closed filled one from same closed_is from_is filled_is one_is =
    omega (arith, ap closed_segments same, ap (λ (w : StreamState). length w.filling) same, closed_is, from_is, filled_is, one_is)

-- ---- the first block that has to be kept

not_spent : (a b : Bool) → (a || b) ≡ false → b ≡ false
not_spent true b e = absurd (cc)
not_spent false b e = e

-- as the call counts it, where the stream can have these parts
pub least_is : (p : Settings) (parts more : List Part) (s : StreamState) (used result : ℕ) → StandsFor p parts s → used_segments p (parts ++ more) ≡ used
    → is_spent p (parts ++ more) ≡ false → (used ≤ 16777216 * s.cut.b → result ≡ div_ceil used s.cut.b - s.blocks) → result ≡ least_kept p (used_segments p (parts ++ more))
least_is p parts more s used result st is free answer =
    let few : used_segments p (parts ++ more) ≤ 16777216 * p.b = ltb-false (16777216 * p.b) (used_segments p (parts ++ more))
    (not_spent (nat_lt 4294967295 (length (written (parts ++ more)))) (nat_lt (16777216 * p.b) (used_segments p (parts ++ more))) free) in
    answer (omega (arith, few, is, ap (λ (c : Cut). c.b) st.cut))
    ∙ ap (λ (c : Cut). div_ceil used c.b - s.blocks) st.cut
    ∙ ap (λ n. div_ceil used p.b - n) st.blocks
    ∙ ap (least_kept p) (sym is)
