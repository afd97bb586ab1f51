-- Opening a stream, writing to it, cutting and closing it, over what a sender keeps.
use Rattle.std.proofs.Common.{◌≡◌, ◌∙◌, ℕ, zero, suc, ◌+◌, ◌-◌, ◌*◌, ◌<◌, ◌≤◌, List, [], ◌∷◌, ◌++◌, length, Option, Some, None, Result, Ok, Err, Bool, true, false, inl, inr, ◌⊎◌, refl, sym, ap, subst, arith, is_none}
use Rattle.std.specs.Prelude.{unwrap_or, min, slice_get, nat_lt, nat_le, ◌==◌, ◌||◌, not, MatchResult}
use Rattle.std.specs.List.{list_any}
use Rattle.std.proofs.lemmas.Bool.{le-ltb}
use Rattle.std.proofs.lemmas.Bool.Decides.{nat_tests}
use Rattle.norm_base.specs.Settings.{Settings}
use Rattle.norm_base.specs.declared.node.Origin.{Origin}
use Rattle.fec_plan.specs.Partition.{stream_cut}
use Rattle.fec_plan.specs.Points.{Point, point}
use Rattle.norm_order.specs.Entries.{Part, Write, Cut as CutHere, End, Object, Stream, Entry}
use Rattle.norm_order.specs.First.{first_where}
use Rattle.norm_order.specs.Segments.{written, unclosed, has_end}
use Rattle.norm_order.specs.Shapes.{shape_of}
use Rattle.norm_order.proofs.StreamLemmas.{closed_grow}
use Rattle.norm_send_rules.specs.SenderState.{SenderState}
use Rattle.norm_send_rules.specs.InWindow.{last_index, next_index, stands_behind}
use Rattle.norm_send_rules.specs.Dropping.{dropped_to}
use Rattle.norm_send_rules.specs.Room.{size_of, window, has_to_go, first_kept, least_kept, stream_drop}
use Rattle.norm_send_rules.specs.Enqueuing.{open_stream, with_entry, joined}
use Rattle.norm_send_rules.specs.Streaming.{opened, open_fault, wrote, write_fault, closed, close_fault, cut, grown, parts_now, with_last, with_parts, used_segments, is_spent, is_crowded}
use Rattle.norm_send_rules.specs.declared.fault.EnqueueFault.{EnqueueFault}
use Rattle.norm_send_rules.specs.declared.fault.EnqueueFault.TheVariants.{Empty, TooBig, NoStream, Stream as OfStream}
use Rattle.norm_send_rules.specs.declared.fault.StreamFault.TheVariants.{Spent, Full}
use Rattle.norm_send_rules.specs.declared.job.Receipt.{Receipt}
use Rattle.norm_send_rules.specs.declared.job.Receipt.TheVariants.{Opened, Wrote, Closed}
use Rattle.norm_send_rules.proofs.WantLemmas.{ends_open}
use Rattle.stream_buffer.specs.StreamState.{with_cut}
use Rattle.tx_window.specs.Streams.{EndsIn, IsWritten, IsClosed}
use Rattle.tx_window.specs.WindowState.{WindowState, Stands as WindowStands, drop_of}
use Rattle.tx_window.proofs.GrownLemmas.{length-with_last, last_there}
use Rattle.tx_window.proofs.StreamLemmas.{none_closed}
use Rattle.nack_union.specs.Kept.{Marked, OfLast, MayGrow, admitted_stream, retired, with_object, shape_of_marked}
use Rattle.nack_union.specs.UnionState.{UnionState, Stands as UnionStands}
use Rattle.nack_union.specs.UnionMoves.{UnionMoves}
use Rattle.nack_union.proofs.Open.{open_streams_may_grow}
use Rattle.mark_book.specs.BookState.{Stands as BookStands}
use Rattle.norm_sender.specs.Pacing.{pace_of}
use Rattle.norm_sender.specs.SenderKept.{SenderKept, Agrees}
use Rattle.norm_sender.specs.SenderMoves.{IsBehind}
use Rattle.norm_sender.specs.Retiring.{IsOnward, CanRetire, GoesOn}
use Rattle.norm_sender.specs.Inside.{kept_of}
use Rattle.norm_sender.specs.declared.parts.Parts.{Parts}
use Rattle.norm_sender.specs.declared.pace.Pace.{Pace}
use Rattle.norm_sender.proofs.SenderLemmas.{anyone}
use Rattle.norm_sender.proofs.EnqueuingLemmas.{room_onward, goes_le}
use Rattle.norm_sender.proofs.RetiringLemmas.{stays_onward, onward_more, last_stream, front_is, kept_is}

parts_are : (s : SenderState) (parts : List Part) → open_stream s ≡ Some parts → parts_now s ≡ parts
parts_are s parts is = ap (λ (r : Option (List Part)). unwrap_or r []) is

-- ---- what the union needs, and leaves, as the open stream goes on

-- the order of a state whose open stream has these parts ends in it
pub ends_in : (s : SenderState) (parts : List Part) → s.current.drop.index < length s.current.order → EndsIn parts (with_parts parts s)
ends_in s parts kept = record {
  kept = omega (arith, kept, length-with_last (Stream parts) s.current.order);
  last = λ entry is. go entry (last_there (Stream parts) s.current.order (last_index (with_parts parts s)) entry is);
}
  where
    go : (entry : Entry) → ((last_index (with_parts parts s) + 1 ≡ length s.current.order) × (entry.object ≡ Stream parts))
        ⊎ ((last_index (with_parts parts s) + 1 < length s.current.order) × (slice_get s.current.order (last_index (with_parts parts s)) ≡ Some entry))
        → entry.object ≡ Stream parts
    go entry (inl there) = there.1
    go entry (inr behind) = absurd (omega (arith, behind.0, length-with_last (Stream parts) s.current.order))

-- how many segments are closed, under the union's profile
pub as_closed : (k : SenderKept) (s : SenderState) (parts : List Part) (segments : ℕ) → GoesOn k s parts → segments ≡ (shape_of k.window.p (Stream parts)).closed
    → segments ≡ (shape_of k.union.p (Stream parts)).closed
as_closed k s parts segments h is = subst (λ (q : Settings). segments ≡ (shape_of q (Stream parts)).closed) (h.window_profile ∙ sym h.union_profile) is

pub may_grow : (k : SenderKept) (s : SenderState) (parts : List Part) (segments : ℕ) → GoesOn k s parts → segments ≡ (shape_of k.window.p (Stream parts)).closed
    → segments ≤ min (first_kept (with_parts parts s) (last_index (with_parts parts s)) + k.window.p.blocks) 16777216 * k.window.p.b
    → OfLast (MayGrow k.union.p segments) k.union.kept
may_grow k s parts segments h is room =
    let profile = h.window_profile ∙ sym h.union_profile in
    let le : s.current.drop.index ≤ last_index s = omega (arith, h.kept) in
    let more : (shape_of k.union.p (Stream h.was)).closed ≤ segments =
    subst (λ n. (shape_of k.union.p (Stream h.was)).closed ≤ n) (sym (as_closed k s parts segments h is))
    (subst (λ (q : Settings). (shape_of q (Stream h.was)).closed ≤ (shape_of q (Stream parts)).closed) (sym h.union_profile) h.more) in
    let last : last_index (with_parts parts s) ≡ last_index s = ap (λ n. n - 1) (length-with_last (Stream parts) s.current.order) in
    open_streams_may_grow k.union s h.was segments h.union h.opened le more
    (subst (λ f. segments ≤ min (f + k.union.p.blocks) 16777216 * k.union.p.b) (ap (first_kept s) last ∙ front_is s le)
    (subst (λ (q : Settings). segments ≤ min (first_kept (with_parts parts s) (last_index (with_parts parts s)) + q.blocks) 16777216 * q.b) profile room))

-- ---- the steps by their fault

abbrev by_fault : SenderState → SenderState → Receipt → Option EnqueueFault → SenderState × Result Receipt EnqueueFault
by_fault s t receipt found = elim found [ Some fault ↦ (s, Err fault) | None ↦ (t, Ok receipt) ]

went : (s t : SenderState) (receipt given : Receipt) (found : Option EnqueueFault) → (by_fault s t receipt found).1 ≡ Ok given → (found ≡ None) × (given ≡ receipt)
went s t receipt given (Some fault) is = absurd (cc)
went s t receipt given None is = (refl, let same : given ≡ receipt = cc in same)

stayed : (s t : SenderState) (receipt : Receipt) (fault : EnqueueFault) (found : Option EnqueueFault) → (by_fault s t receipt found).1 ≡ Err fault
    → by_fault s t receipt found ≡ (s, Err fault)
stayed s t receipt fault (Some f) is = ap (λ (g : EnqueueFault). (s, Err g)) (let same : f ≡ fault = cc in same)
stayed s t receipt fault None is = absurd (cc)

pub wrote_refused : (p : Settings) (s : SenderState) (by : Origin) (octets : List ℕ) (fault : EnqueueFault) → (wrote p s by octets).1 ≡ Err fault
    → wrote p s by octets ≡ (s, Err fault)
wrote_refused p s by octets fault is =
    let parts : List Part = parts_now s ++ Write by octets ∷ [] in
    stayed s (grown p s parts) (Wrote (last_index s) (length (written (parts_now s))) (length octets)) fault (write_fault p s octets parts) is

pub closed_refused : (p : Settings) (s : SenderState) (fault : EnqueueFault) → (closed p s).1 ≡ Err fault → closed p s ≡ (s, Err fault)
closed_refused p s fault is =
    let parts : List Part = parts_now s ++ End ∷ [] in
    stayed s (grown p s parts) (Closed (last_index s)) fault (close_fault p s parts) is

-- without an open stream nothing goes on
write_table : (n : ℕ) (empty big spent crowded : Bool) (f g : EnqueueFault)
    → first_where ((empty, Empty) ∷ (big, TooBig n) ∷ (true, NoStream) ∷ (spent, f) ∷ (crowded, g) ∷ []) ≡ None → ⊥
unfolding first_where
write_table n true big spent crowded f g is = cc
write_table n false true spent crowded f g is = cc
write_table n false false spent crowded f g is = cc

close_table : (spent crowded : Bool) (f g : EnqueueFault) → first_where ((true, NoStream) ∷ (spent, f) ∷ (crowded, g) ∷ []) ≡ None → ⊥
unfolding first_where
close_table spent crowded f g is = cc

write_opened : (p : Settings) (s : SenderState) (octets : List ℕ) (parts : List Part) → write_fault p s octets parts ≡ None → (was : List Part) × (open_stream s ≡ Some was)
write_opened p s octets parts free = go (open_stream s) refl
  where
    f : EnqueueFault
    f = OfStream (Spent (length (written (parts_now s))))

    g : EnqueueFault
    g = OfStream (Full (first_kept s (last_index s)))

    table : Bool → Option EnqueueFault
    table b = first_where (
        (length octets == 0, Empty) ∷ (nat_lt ((p.blocks - 1) * p.b * p.e) (length octets), TooBig (length octets)) ∷ (b, NoStream)
        ∷ (is_spent p parts, f) ∷ (is_crowded p s parts, g) ∷ []
        )

    go : (r : Option (List Part)) → open_stream s ≡ r → (was : List Part) × (open_stream s ≡ Some was)
    go (Some was) is = (was, is)
    go None is = absurd (write_table (length octets) (length octets == 0) (nat_lt ((p.blocks - 1) * p.b * p.e) (length octets)) (is_spent p parts) (is_crowded p s parts) f g
        (sym (ap table (ap is_none is)) ∙ free))

close_opened : (p : Settings) (s : SenderState) (parts : List Part) → close_fault p s parts ≡ None → (was : List Part) × (open_stream s ≡ Some was)
close_opened p s parts free = go (open_stream s) refl
  where
    f : EnqueueFault
    f = OfStream (Spent (length (written (parts_now s))))

    g : EnqueueFault
    g = OfStream (Full (first_kept s (last_index s)))

    table : Bool → Option EnqueueFault
    table b = first_where ((b, NoStream) ∷ (is_spent p parts, f) ∷ (is_crowded p s parts, g) ∷ [])

    go : (r : Option (List Part)) → open_stream s ≡ r → (was : List Part) × (open_stream s ≡ Some was)
    go (Some was) is = (was, is)
    go None is = absurd (close_table (is_spent p parts) (is_crowded p s parts) f g (sym (ap table (ap is_none is)) ∙ free))

-- ---- the open stream grows

-- The window took the open stream on by these parts more.
pub record WentOn (k : SenderKept) (w : WindowState) (s : SenderState) (more : List Part) : Type 0 where
  pub was : List Part
  pub opened : open_stream s ≡ Some was
  pub profile : w.p ≡ k.window.p
  pub filling : w.filling ≡ None
  pub stands : WindowStands w (grown k.p s (parts_now s ++ more))

-- a write that was answered went on, under the last index
pub record HasWritten (p : Settings) (s : SenderState) (by : Origin) (octets : List ℕ) (index offset : ℕ) : Type 0 where
  pub was : List Part
  pub opened : open_stream s ≡ Some was
  pub place : index ≡ last_index s
  pub step : wrote p s by octets ≡ (grown p s (parts_now s ++ Write by octets ∷ []), Ok (Wrote index offset (length octets)))

pub has_written : (p : Settings) (s : SenderState) (by : Origin) (octets : List ℕ) (index offset : ℕ) → (wrote p s by octets).1 ≡ Ok (Wrote index offset (length octets))
    → HasWritten p s by octets index offset
has_written p s by octets index offset is =
    let parts : List Part = parts_now s ++ Write by octets ∷ [] in
    let given : Receipt = Wrote (last_index s) (length (written (parts_now s))) (length octets) in
    let found = went s (grown p s parts) given (Wrote index offset (length octets)) (write_fault p s octets parts) is in
    let there = write_opened p s octets parts found.0 in
    record {
      was = there.0;
      opened = there.1;
      place = let same : Wrote index offset (length octets) ≡ given = found.1 in (let i : index ≡ last_index s = cc in i);
      step = ap (by_fault s (grown p s parts) given) found.0 ∙ ap (λ (r : Receipt). (grown p s parts, Ok r)) (sym found.1);
    }

pub record HasClosed (p : Settings) (s : SenderState) (index : ℕ) : Type 0 where
  pub was : List Part
  pub opened : open_stream s ≡ Some was
  pub place : index ≡ last_index s
  pub step : closed p s ≡ (grown p s (parts_now s ++ End ∷ []), Ok (Closed index))

pub has_closed : (p : Settings) (s : SenderState) (index : ℕ) → (closed p s).1 ≡ Ok (Closed index) → HasClosed p s index
has_closed p s index is =
    let parts : List Part = parts_now s ++ End ∷ [] in
    let found = went s (grown p s parts) (Closed (last_index s)) (Closed index) (close_fault p s parts) is in
    let there = close_opened p s parts found.0 in
    record {
      was = there.0;
      opened = there.1;
      place = let same : Closed index ≡ Closed (last_index s) = found.1 in (let i : index ≡ last_index s = cc in i);
      step = ap (by_fault s (grown p s parts) (Closed (last_index s))) found.0 ∙ ap (λ (r : Receipt). (grown p s parts, Ok r)) (sym found.1);
    }

-- a write that the window answered
pub record WroteOn (k : SenderKept) (w : WindowState) (s : SenderState) (by : Origin) (octets : List ℕ) (index offset : ℕ) : Type 0 where
  pub on : WentOn k w s (Write by octets ∷ [])
  pub place : index ≡ last_index s
  pub step : wrote k.p s by octets ≡ (grown k.p s (parts_now s ++ Write by octets ∷ []), Ok (Wrote index offset (length octets)))

pub wrote_on : (k : SenderKept) (w : WindowState) (s : SenderState) (by : Origin) (octets : List ℕ) (at : ℕ × ℕ) (answer : Result (ℕ × ℕ) EnqueueFault)
    → Agrees k s → w.p ≡ k.window.p → w.filling ≡ None → IsWritten k.window.p s by octets answer w → answer ≡ Ok at → WroteOn k w s by octets at.0 at.1
wrote_on k w s by octets at answer h profile filling written is =
    let given = subst (λ (r : Result (ℕ × ℕ) EnqueueFault).
    MatchResult r (λ x. (wrote k.window.p s by octets).1 ≡ Ok (Wrote x.0 x.1 (length octets))) (λ fault. (wrote k.window.p s by octets).1 ≡ Err fault)) is written.answers in
    let here = has_written k.p s by octets at.0 at.1 (subst (λ (q : Settings). (wrote q s by octets).1 ≡ Ok (Wrote at.0 at.1 (length octets))) h.window_profile given) in
    record {
      on = record {
        was = here.was;
        opened = here.opened;
        profile = profile;
        filling = filling;
        stands = subst (λ (step : SenderState × Result Receipt EnqueueFault). WindowStands w step.0) here.step
            (subst (λ (q : Settings). WindowStands w (wrote q s by octets).0) h.window_profile written.stands);
      };
      place = here.place;
      step = here.step;
    }

-- or an end
pub record ClosedOn (k : SenderKept) (w : WindowState) (s : SenderState) (index : ℕ) : Type 0 where
  pub on : WentOn k w s (End ∷ [])
  pub place : index ≡ last_index s
  pub step : closed k.p s ≡ (grown k.p s (parts_now s ++ End ∷ []), Ok (Closed index))

pub closed_on : (k : SenderKept) (w : WindowState) (s : SenderState) (index : ℕ) (answer : Result ℕ EnqueueFault)
    → Agrees k s → w.p ≡ k.window.p → w.filling ≡ None → IsClosed k.window.p s answer w → answer ≡ Ok index → ClosedOn k w s index
closed_on k w s index answer h profile filling ended is =
    let given = subst (λ (r : Result ℕ EnqueueFault). MatchResult r (λ x. (closed k.window.p s).1 ≡ Ok (Closed x)) (λ fault. (closed k.window.p s).1 ≡ Err fault)) is ended.answers in
    let here = has_closed k.p s index (subst (λ (q : Settings). (closed q s).1 ≡ Ok (Closed index)) h.window_profile given) in
    record {
      on = record {
        was = here.was;
        opened = here.opened;
        profile = profile;
        filling = filling;
        stands = subst (λ (step : SenderState × Result Receipt EnqueueFault). WindowStands w step.0) here.step
            (subst (λ (q : Settings). WindowStands w (closed q s).0) h.window_profile ended.stands);
      };
      place = here.place;
      step = here.step;
    }

-- a refused one leaves all as it was
pub wrote_not : (k : SenderKept) (w : WindowState) (s : SenderState) (by : Origin) (octets : List ℕ) (fault : EnqueueFault) (answer : Result (ℕ × ℕ) EnqueueFault)
    → Agrees k s → IsWritten k.window.p s by octets answer w → answer ≡ Err fault → Agrees k (wrote k.p s by octets).0 × (Err fault ≡ (wrote k.p s by octets).1)
wrote_not k w s by octets fault answer h written is =
    let given = subst (λ (r : Result (ℕ × ℕ) EnqueueFault).
    MatchResult r (λ x. (wrote k.window.p s by octets).1 ≡ Ok (Wrote x.0 x.1 (length octets))) (λ f. (wrote k.window.p s by octets).1 ≡ Err f)) is written.answers in
    let step = wrote_refused k.p s by octets fault (subst (λ (q : Settings). (wrote q s by octets).1 ≡ Err fault) h.window_profile given) in (
      subst (λ (y : SenderState × Result Receipt EnqueueFault). Agrees k y.0) (sym step) h,
      sym (ap (λ (y : SenderState × Result Receipt EnqueueFault). y.1) step),
    )

pub closed_not : (k : SenderKept) (w : WindowState) (s : SenderState) (fault : EnqueueFault) (answer : Result ℕ EnqueueFault)
    → Agrees k s → IsClosed k.window.p s answer w → answer ≡ Err fault → Agrees k (closed k.p s).0 × (Err fault ≡ (closed k.p s).1)
closed_not k w s fault answer h ended is =
    let given = subst (λ (r : Result ℕ EnqueueFault). MatchResult r (λ x. (closed k.window.p s).1 ≡ Ok (Closed x)) (λ f. (closed k.window.p s).1 ≡ Err f)) is ended.answers in
    let step = closed_refused k.p s fault (subst (λ (q : Settings). (closed q s).1 ≡ Err fault) h.window_profile given) in (
      subst (λ (y : SenderState × Result Receipt EnqueueFault). Agrees k y.0) (sym step) h,
      sym (ap (λ (y : SenderState × Result Receipt EnqueueFault). y.1) step),
    )

past_of : (a b : ℕ) → nat_le a b ≡ false → b < a
past_of a b is = grind (arith, nat_tests, is)

-- where the window begins as the open stream grows
where_begins : (p : Settings) (w : WindowState) (s : SenderState) (segments : ℕ) (was : List Part) → WindowStands w s → open_stream s ≡ Some was
    → IsOnward w.p s (stream_drop p s (last_index s) segments) × ((stream_drop p s (last_index s) segments).index < length s.current.order)
where_begins p w s segments was stands open_ = go (nat_le (least_kept p segments) (first_kept s (last_index s))) refl
  where
    d : Point
    d = s.current.drop

    index : d.index ≡ w.dropped
    index = ap (λ (x : Point). x.index) stands.dropped

    kept : d.index < length s.current.order
    kept = omega (arith, index, stands.next, stands.opened was open_)

    at : Bool → Point
    at b = elim b as (λ v. Point) [ true ↦ s.current.drop | false ↦ point (last_index s) (least_kept p segments) ]

    here : (b : Bool) → d.index ≡ last_index s → nat_le (least_kept p segments) (first_kept s (last_index s)) ≡ b → b ≡ false → d.block ≤ least_kept p segments
    here b same is none =
        let first : first_kept s (last_index s) ≡ d.block = ap (λ (lt : Bool). elim lt as (λ v. ℕ) [ true ↦ 0 | false ↦ s.current.drop.block ])
        (le-ltb d.index (last_index s) (omega (arith, same))) in
        let past = past_of (least_kept p segments) (first_kept s (last_index s)) (is ∙ none) in
        omega (arith, first, past)

    go : (b : Bool) → nat_le (least_kept p segments) (first_kept s (last_index s)) ≡ b
        → IsOnward w.p s (stream_drop p s (last_index s) segments) × ((stream_drop p s (last_index s) segments).index < length s.current.order)
    go true is = subst (λ (x : Point). IsOnward w.p s x × (x.index < length s.current.order)) (sym (ap at is)) (stays_onward w s stands, kept)
    go false is = subst (λ (x : Point). IsOnward w.p s x × (x.index < length s.current.order)) (sym (ap at is)) (
      record {
        not_back = omega (arith, kept);
        within = omega arith;
        onward = λ same. here false (sym same) is refl;
        stream = λ some. last_stream w.p s was open_;
      },
      omega (arith, kept),
    )

-- the union may follow
pub grown_onward : (k : SenderKept) (w : WindowState) (s : SenderState) (more : List Part) → Agrees k s → WentOn k w s more → CanRetire k.union (drop_of w)
grown_onward k w s more h on = record {
  state = s;
  stands = h.union;
  onward = subst (λ (q : Settings). IsOnward q s (drop_of w)) (h.window_profile ∙ sym h.union_profile)
      (subst (λ (d : Point). IsOnward k.window.p s d) on.stands.dropped (where_begins k.p k.window s (used_segments k.p (parts_now s ++ more)) on.was h.window on.opened).0);
}

-- the state before the parts join
abbrev pub gone_for : Settings → SenderState → List Part → SenderState
gone_for p s parts = dropped_to (stream_drop p s (last_index s) (used_segments p parts)) s

-- no fewer segments are closed then
more_closed : (p : Settings) (s : SenderState) (was more : List Part) → 1 ≤ p.e → open_stream s ≡ Some was
    → (shape_of p (Stream was)).closed ≤ (shape_of p (Stream (parts_now s ++ more))).closed
more_closed p s was more least open_ =
    subst (λ (ps : List Part). (shape_of p (Stream was)).closed ≤ (shape_of p (Stream (ps ++ more))).closed) (sym (parts_are s was open_))
    (closed_grow p.e was more (omega (arith, least)) (ends_open s.current.order was open_).4)

pub grown_goes : (k : SenderKept) (w : WindowState) (u : UnionState) (pace : Pace) (s : SenderState) (more : List Part) → Agrees k s → WentOn k w s more → 1 ≤ k.p.e
    → u.p ≡ k.union.p → UnionStands u (dropped_to (drop_of w) s)
    → GoesOn (record k { window = w; union = u; pace = pace }) (gone_for k.p s (parts_now s ++ more)) (parts_now s ++ more)
grown_goes k w u pace s more h on least profile stands = record {
  window_profile = on.profile ∙ h.window_profile;
  union_profile = profile ∙ h.union_profile;
  window = on.stands;
  union = subst (λ (d : Point). UnionStands u (dropped_to d s)) (sym on.stands.dropped) stands;
  was = on.was;
  opened = on.opened;
  more = more_closed k.p s on.was more least on.opened;
  kept = (where_begins k.p k.window s (used_segments k.p (parts_now s ++ more)) on.was h.window on.opened).1;
}

pub grown_agrees : (k : SenderKept) (w : WindowState) (u : UnionState) (pace : Pace) (s : SenderState) (more : List Part) → Agrees k s → WentOn k w s more
    → u.p ≡ k.union.p → UnionStands u (grown k.p s (parts_now s ++ more))
    → pace ≡ record (k.pace) { squelch_due = k.pace.squelch_due || list_any (λ want. not (stands_behind (drop_of w) want)) s.wants }
    → Agrees (record k { window = w; union = u; pace = pace }) (grown k.p s (parts_now s ++ more))
grown_agrees k w u pace s more h on profile stands due = record {
  window_profile = on.profile ∙ h.window_profile;
  filling = on.filling;
  union_profile = profile ∙ h.union_profile;
  window = on.stands;
  union = stands;
  book = h.book;
  pace =
      due ∙ ap (λ (q : Pace). record q { squelch_due = q.squelch_due || list_any (λ want. not (stands_behind (drop_of w) want)) s.wants }) h.pace
      ∙ ap (λ (d : Point). record (pace_of s) { squelch_due = s.squelch_due || list_any (λ want. not (stands_behind d want)) s.wants }) (sym on.stands.dropped);
}

-- ---- a stream is opened

abbrev pub new_entry : Origin → Entry
new_entry by = record { by = by; object = Stream [] }

pub new_shape : (p : Settings) (m : Marked) → m ≡ admitted_stream (stream_cut p.e p.b p.max_n) p.blocks → shape_of p (Stream []) ≡ shape_of_marked m
new_shape p m is =
    ap (λ n. shape_of_marked (record (admitted_stream (stream_cut p.e p.b p.max_n) p.blocks) { closed = n })) (none_closed p.e) ∙ ap shape_of_marked (sym is)

-- The union admitted a stream, and the window opened it.
pub record TakesStream (k : SenderKept) (w : WindowState) (m : Marked) (u1 : UnionState) (s : SenderState) : Type 0 where
  pub profile : w.p ≡ k.window.p
  pub filling : w.filling ≡ None
  pub is : m ≡ admitted_stream (stream_cut k.p.e k.p.b k.p.max_n) k.union.p.blocks
  pub admits : u1 ≡ record (k.union) { kept = with_object m k.union.kept }
  pub joins : (entry : Entry) → shape_of k.union.p entry.object ≡ shape_of_marked m → UnionMoves k.union u1 (with_entry entry)
  pub index : ℕ
  pub answer : (by : Origin) → (opened k.window.p s by).1 ≡ Ok (Opened index)
  pub stands : (by : Origin) → WindowStands w (opened k.window.p s by).0

pub opened_is : (p : Settings) (s : SenderState) (by : Origin) (index : ℕ) → (opened p s by).1 ≡ Ok (Opened index)
    → opened p s by ≡ (joined p by (Stream []) s, Ok (Opened index))
opened_is p s by index is =
    let found = went s (joined p by (Stream []) s) (Opened (next_index s)) (Opened index) (open_fault p s) is in
    ap (by_fault s (joined p by (Stream []) s) (Opened (next_index s))) found.0 ∙ ap (λ (r : Receipt). (joined p by (Stream []) s, Ok r)) (sym found.1)

union_joins : (k : SenderKept) (w : WindowState) (m : Marked) (u1 : UnionState) (s : SenderState) (by : Origin) → Agrees k s → TakesStream k w m u1 s
    → UnionStands u1 (with_entry (new_entry by) s)
union_joins k w m u1 s by h takes =
    takes.joins (new_entry by)
    (subst (λ (q : Settings). shape_of q (Stream []) ≡ shape_of_marked m) (sym h.union_profile)
    (new_shape k.p m (takes.is ∙ ap (λ (q : Settings). admitted_stream (stream_cut k.p.e k.p.b k.p.max_n) q.blocks) h.union_profile)))
    s h.union

window_joins : (k : SenderKept) (w : WindowState) (m : Marked) (u1 : UnionState) (s : SenderState) (by : Origin) → Agrees k s → TakesStream k w m u1 s
    → WindowStands w (joined k.p by (Stream []) s)
window_joins k w m u1 s by h takes =
    subst (λ (q : Settings). WindowStands w (joined q by (Stream []) s)) h.window_profile
    (subst (λ (step : SenderState × Result Receipt EnqueueFault). WindowStands w step.0) (opened_is k.window.p s by takes.index (takes.answer by)) (takes.stands by))

pub opened_onward : (k : SenderKept) (w : WindowState) (m : Marked) (u1 : UnionState) (s : SenderState) → Agrees k s → TakesStream k w m u1 s → CanRetire u1 (drop_of w)
opened_onward k w m u1 s h takes =
    let size = size_of k.p (Stream []) in
    record {
      state = with_entry (new_entry anyone) s;
      stands = union_joins k w m u1 s anyone h takes;
      onward = subst (λ (q : Settings). IsOnward q (with_entry (new_entry anyone) s) (drop_of w)) (sym (ap (λ (u : UnionState). u.p) takes.admits))
          (onward_more k.union.p s (new_entry anyone) (drop_of w)
          (room_onward k w s (joined k.p anyone (Stream []) s) (has_to_go k.p size (window s)) h (window_joins k w m u1 s anyone h takes) refl (goes_le k.p size (window s))));
    }

pub opened_agrees : (k : SenderKept) (w : WindowState) (m : Marked) (u1 u2 : UnionState) (pace : Pace) (s : SenderState) (by : Origin) → Agrees k s
    → (takes : TakesStream k w m u1 s) → u2.p ≡ u1.p → UnionMoves u1 u2 (dropped_to (drop_of w))
    → ((t : SenderState) → UnionStands u1 t → pace ≡ record (k.pace) { squelch_due = k.pace.squelch_due || list_any (λ want. not (stands_behind (drop_of w) want)) t.wants })
    → Agrees (record k { window = w; union = u2; pace = pace }) (opened k.p s by).0 × (Ok (Opened takes.index) ≡ (opened k.p s by).1)
opened_agrees k w m u1 u2 pace s by h takes profile drops due =
    let st = window_joins k w m u1 s by h takes in
    let one = union_joins k w m u1 s by h takes in
    let is : opened k.p s by ≡ (joined k.p by (Stream []) s, Ok (Opened takes.index)) =
    opened_is k.p s by takes.index (subst (λ (q : Settings). (opened q s by).1 ≡ Ok (Opened takes.index)) h.window_profile (takes.answer by)) in
    let agrees : Agrees (record k { window = w; union = u2; pace = pace }) (joined k.p by (Stream []) s) = record {
      window_profile = takes.profile ∙ h.window_profile;
      filling = takes.filling;
      union_profile = profile ∙ ap (λ (u : UnionState). u.p) takes.admits ∙ h.union_profile;
      window = st;
      union = subst (λ (d : Point). UnionStands u2 (dropped_to d (with_entry (new_entry by) s))) (sym st.dropped) (drops (with_entry (new_entry by) s) one);
      book = h.book;
      pace =
          due (with_entry (new_entry by) s) one
          ∙ ap (λ (q : Pace). record q { squelch_due = q.squelch_due || list_any (λ want. not (stands_behind (drop_of w) want)) s.wants }) h.pace
          ∙ ap (λ (d : Point). record (pace_of s) { squelch_due = s.squelch_due || list_any (λ want. not (stands_behind d want)) s.wants }) (sym st.dropped);
    } in (
      subst (λ (step : SenderState × Result Receipt EnqueueFault). Agrees (record k { window = w; union = u2; pace = pace }) step.0) (sym is) agrees,
      sym (ap (λ (step : SenderState × Result Receipt EnqueueFault). step.1) is),
    )

-- ---- the open stream is cut

with_itself : (order : List Entry) (front : List Entry) (last : Entry) (object : Object) → order ≡ front ++ last ∷ [] → last.object ≡ object → with_last object order ≡ order
with_itself order front last object is same =
    ap (with_last object) is ∙ go front ∙ sym is
  where
    go : (xs : List Entry) → with_last object (xs ++ last ∷ []) ≡ xs ++ last ∷ []
    go [] = ap (λ (o : Object). record last { object = o } ∷ []) (sym same)
    go (x ∷ []) = ap (λ (es : List Entry). x ∷ es) (go [])
    go (x ∷ y ∷ xs) = ap (λ (es : List Entry). x ∷ es) (go (y ∷ xs))

-- a cut is the stream with its segment that fills closed, where there is one
pub cut_is : (p : Settings) (s : SenderState) (was : List Part) → open_stream s ≡ Some was → cut p s ≡ with_parts (with_cut p.e was) s
cut_is p s was open_ =
    ap (λ (ps : List Part). elim (unclosed p.e ps) as (λ v. SenderState) [ zero ↦ s | suc n ↦ with_parts (ps ++ CutHere ∷ []) s ]) (parts_are s was open_)
    ∙ go (unclosed p.e was)
  where
    go : (n : ℕ) → (elim n as (λ v. SenderState) [ zero ↦ s | suc m ↦ with_parts (was ++ CutHere ∷ []) s ])
        ≡ with_parts (elim n as (λ v. List Part) [ zero ↦ was | suc m ↦ was ++ CutHere ∷ [] ]) s
    go zero =
        let ends = ends_open s.current.order was open_ in
        ap (λ (order : List Entry). record s { current = record (s.current) { order = order } }) (sym (with_itself s.current.order ends.0 ends.1 (Stream was) ends.2 ends.3))
    go (suc n) = refl

cut_closed : (p : Settings) (was : List Part) → 1 ≤ p.e → has_end was ≡ false → (shape_of p (Stream was)).closed ≤ (shape_of p (Stream (with_cut p.e was))).closed
cut_closed p was least open_ = go (unclosed p.e was)
  where
    go : (n : ℕ) → (shape_of p (Stream was)).closed ≤ (shape_of p (Stream (elim n as (λ v. List Part) [ zero ↦ was | suc m ↦ was ++ CutHere ∷ [] ]))).closed
    go zero = omega arith
    go (suc n) = closed_grow p.e was (CutHere ∷ []) (omega (arith, least)) open_

pub cut_goes : (k : SenderKept) (w : WindowState) (s t : SenderState) (was : List Part) → IsBehind k s t → open_stream s ≡ Some was → 1 ≤ k.p.e → w.p ≡ k.window.p
    → WindowStands w (cut k.window.p s) → GoesOn (record k { window = w }) s (with_cut k.p.e was)
cut_goes k w s t was h open_ least profile stands = record {
  window_profile = profile ∙ h.window_profile;
  union_profile = h.union_profile;
  window = subst (WindowStands w) (cut_is k.p s was open_) (subst (λ (q : Settings). WindowStands w (cut q s)) h.window_profile stands);
  union = h.union;
  was = was;
  opened = open_;
  more = cut_closed k.p was least (ends_open s.current.order was open_).4;
  kept = omega (arith, ap (λ (d : Point). d.index) h.window.dropped, h.window.next, h.window.opened was open_);
}

pub cut_behind : (k : SenderKept) (w : WindowState) (u : UnionState) (s t : SenderState) (was : List Part) → IsBehind k s t → open_stream s ≡ Some was → w.p ≡ k.window.p
    → w.filling ≡ None → u.p ≡ k.union.p → WindowStands w (cut k.window.p s) → UnionStands u (with_parts (with_cut k.p.e was) s)
    → IsBehind (record k { window = w; union = u }) (cut k.p s) t
cut_behind k w u s t was h open_ profile filling union_profile stands union = record {
  window_profile = profile ∙ h.window_profile;
  filling = filling;
  union_profile = union_profile ∙ h.union_profile;
  window = subst (λ (q : Settings). WindowStands w (cut q s)) h.window_profile stands;
  union = subst (UnionStands u) (sym (cut_is k.p s was open_)) union;
  book = h.book;
  pace = h.pace ∙ ap pace_of (sym (cut_is k.p s was open_));
}

-- a sender that agrees is behind in nothing, and one that is not agrees
pub behind_here : (k : SenderKept) (s : SenderState) → Agrees k s → IsBehind k s s
behind_here k s h = record {
  window_profile = h.window_profile;
  filling = h.filling;
  union_profile = h.union_profile;
  window = h.window;
  union = h.union;
  book = h.book;
  pace = h.pace;
}

pub here_again : (k : SenderKept) (s : SenderState) → IsBehind k s s → Agrees k s
here_again k s h = record {
  window_profile = h.window_profile;
  filling = h.filling;
  union_profile = h.union_profile;
  window = h.window;
  union = h.union;
  book = h.book;
  pace = h.pace;
}

-- no cut is seen in a book
cut_in_book : (p : Settings) (s : SenderState) (book : Rattle.mark_book.specs.BookState.BookState) (parts : List Part) (n : ℕ) → BookStands p book s
    → BookStands p book (elim n as (λ v. SenderState) [ zero ↦ s | suc m ↦ with_parts (parts ++ CutHere ∷ []) s ])
cut_in_book p s book parts zero h = h
cut_in_book p s book parts (suc n) h = h

pub book_cut : (p : Settings) (s : SenderState) (book : Rattle.mark_book.specs.BookState.BookState) → BookStands p book s → BookStands p book (cut p s)
book_cut p s book h = cut_in_book p s book (parts_now s) (unclosed p.e (parts_now s)) h

-- a sender that agrees is behind a book that stands for the cut
pub book_behind : (k : SenderKept) (s : SenderState) → Agrees k s → IsBehind k s (cut k.p s)
book_behind k s h = record {
  window_profile = h.window_profile;
  filling = h.filling;
  union_profile = h.union_profile;
  window = h.window;
  union = h.union;
  book = book_cut k.p s k.book h.book;
  pace = h.pace;
}

-- or behind another book
pub other_book : (k : SenderKept) (book : Rattle.mark_book.specs.BookState.BookState) (s t : SenderState) → Agrees k s → BookStands k.p book t
    → IsBehind (record k { book = book }) s t
other_book k book s t h listed = record {
  window_profile = h.window_profile;
  filling = h.filling;
  union_profile = h.union_profile;
  window = h.window;
  union = h.union;
  book = listed;
  pace = h.pace;
}

-- ---- the union followed the window, and grew

-- The window took the open stream on, the union forgot what was dropped, and then grew.
pub record Followed (k : SenderKept) (w : WindowState) (one : Parts) : Type 0 where
  pub profile : one.profile ≡ k.p
  pub window : one.window ≡ w
  pub book : one.book ≡ k.book
  pub retires : one.union ≡ record (k.union) { kept = retired (drop_of w).index (drop_of w).block k.union.kept }
  pub drops : UnionMoves k.union one.union (dropped_to (drop_of w))
  pub due : (s : SenderState) → UnionStands k.union s
      → one.pace ≡ record (k.pace) { squelch_due = k.pace.squelch_due || list_any (λ want. not (stands_behind (drop_of w) want)) s.wants }

pub followed_goes : (k : SenderKept) (w : WindowState) (one : Parts) (s : SenderState) (more : List Part) → Agrees k s → WentOn k w s more → 1 ≤ k.p.e
    → Followed k w one → GoesOn (kept_of one) (gone_for k.p s (parts_now s ++ more)) (parts_now s ++ more)
followed_goes k w one s more h on least f =
    subst (λ (q : SenderKept). GoesOn q (gone_for k.p s (parts_now s ++ more)) (parts_now s ++ more)) (sym (kept_is one k w f.profile f.window f.book))
    (grown_goes k w one.union one.pace s more h on least (ap (λ (u : UnionState). u.p) f.retires) (f.drops s h.union))

pub followed_agrees : (k : SenderKept) (w : WindowState) (one two : Parts) (s : SenderState) (more : List Part) → Agrees k s → WentOn k w s more → Followed k w one
    → two ≡ record one { union = two.union } → two.union.p ≡ one.union.p → UnionStands two.union (grown k.p s (parts_now s ++ more))
    → Agrees (kept_of two) (grown k.p s (parts_now s ++ more))
followed_agrees k w one two s more h on f rest profile stands =
    subst (λ (q : SenderKept). Agrees q (grown k.p s (parts_now s ++ more)))
    (sym (ap (λ (x : Parts). kept_of x) rest ∙ ap (λ (q : SenderKept). record q { union = two.union }) (kept_is one k w f.profile f.window f.book)))
    (grown_agrees k w two.union one.pace s more h on (profile ∙ ap (λ (u : UnionState). u.p) f.retires) stands (f.due s h.union))

-- once the union grew as well, the sender stands for the state in which the stream went on, and answers what that step answers
pub went_on : (k : SenderKept) (w : WindowState) (one two : Parts) (s : SenderState) (more : List Part) (step : SenderState × Result Receipt EnqueueFault)
    (answer : Result Receipt EnqueueFault) → Agrees k s → WentOn k w s more → 1 ≤ k.p.e → Followed k w one
    → two ≡ record one { union = two.union } → two.union.p ≡ one.union.p
    → ((t : SenderState) (parts : List Part) → GoesOn (kept_of one) t parts → UnionStands two.union (with_parts parts t))
    → step ≡ (grown k.p s (parts_now s ++ more), answer) → Agrees (kept_of two) step.0 × (answer ≡ step.1)
went_on k w one two s more step answer h on least f rest profile stands is =
    let goes = followed_goes k w one s more h on least f in
    let agrees = followed_agrees k w one two s more h on f rest profile (stands (gone_for k.p s (parts_now s ++ more)) (parts_now s ++ more) goes) in (
      subst (λ (y : SenderState × Result Receipt EnqueueFault). Agrees (kept_of two) y.0) (sym is) agrees,
      sym (ap (λ (y : SenderState × Result Receipt EnqueueFault). y.1) is),
    )
