-- What a sender sends once by itself was sent, so far as it went: kept by each step of a sender.
use Rattle.std.proofs.Common.{◌≡◌, ℕ, zero, suc, ◌+◌, ◌<◌, ◌≤◌, List, [], ◌∷◌, ◌++◌, length, drop, Bool, true, false, Option, None, Some, Result, Ok, Err, refl, sym, ap, ◌∙◌, subst, arith, ◌⊎◌, inl, inr}
use Rattle.std.specs.Prelude.{◌||◌, not, nat_lt, nat_le, is_none, is_some}
use Rattle.std.specs.List.{AllByRecursion}
use Rattle.std.proofs.lemmas.Bool.Decides.{Decides-ltb}
use Rattle.std.proofs.lemmas.List.{length-append, append-nil}
use Rattle.norm_base.specs.Settings.{Settings, InRange}
use Rattle.norm_base.specs.declared.kinds.Kind.TheVariants as kind
use Rattle.norm_base.specs.declared.node.Origin.{Origin}
use Rattle.fec_plan.specs.Points.{Point, point, point_of, point_before, position_before}
use Rattle.fec_plan.specs.declared.position.Position.{Position}
use Rattle.fec_plan.proofs.PointLemmas.{behind_point, not_before}
use Rattle.norm_order.specs.Entries.{Part, Write, Cut, End, Object, Whole, Stream, Entry}
use Rattle.norm_order.specs.Segments.{closed_from, unclosed, has_end}
use Rattle.norm_order.specs.Sets.{is_member}
use Rattle.norm_order.specs.Shapes.{Shape, shape_of, shapes_of, last_source}
use Rattle.norm_send_rules.specs.SenderState.{SenderState, Instance}
use Rattle.norm_send_rules.specs.InWindow.{current_shapes, stands_behind, last_index}
use Rattle.norm_send_rules.specs.Commanding.{commanded, answered}
use Rattle.norm_send_rules.specs.Enqueuing.{open_stream, object_fault, joined}
use Rattle.norm_send_rules.specs.Hearing.{heard}
use Rattle.norm_send_rules.specs.Marking.{is_no_quorum, cut_and_marked}
use Rattle.norm_send_rules.specs.Restarting.{is_used, begun_anew}
use Rattle.norm_send_rules.specs.Room.{size_of, window, has_to_go, can_make_room, drop_after, first_kept, least_kept, blocks_may_go, stream_drop}
use Rattle.norm_send_rules.specs.Sending.{new_of, new_from, behind}
use Rattle.norm_send_rules.specs.Streaming.{open_fault, parts_now, with_last, with_parts, used_segments, is_crowded, write_fault, close_fault, grown, cut}
use Rattle.norm_send_rules.specs.Striking.{strike_fault, struck_off}
use Rattle.norm_send_rules.specs.Telling.{told}
use Rattle.norm_send_rules.specs.Wants.{want_before, want_index}
use Rattle.norm_send_rules.specs.declared.fault.EnqueueFault.{EnqueueFault}
use Rattle.norm_send_rules.specs.declared.fault.MarkFault.TheVariants.{Quorum}
use Rattle.norm_send_rules.specs.declared.fault.SendFault.{SendFault}
use Rattle.norm_send_rules.specs.declared.fault.SendFault.TheVariants.{Mark, Strike, IdUsed}
use Rattle.norm_send_rules.specs.declared.fault.StrikeFault.{StrikeFault}
use Rattle.norm_send_rules.specs.declared.job.Job.{Job}
use Rattle.norm_send_rules.specs.declared.job.Job.TheVariants as job
use Rattle.norm_send_rules.specs.declared.job.Receipt.{Receipt}
use Rattle.norm_send_rules.specs.declared.job.Receipt.TheVariants as receipt
use Rattle.norm_send_rules.specs.declared.want.Want.{Want}
use Rattle.norm_send_rules.specs.declared.want.Want.TheVariants.{Info, Symbol}
use Rattle.norm_safety.proofs.CommandSteps.{where_free, first_none}
use Rattle.norm_safety.proofs.GoesOn.{closed_later}
use Rattle.norm_safety.proofs.SenderHolds.{OpenEnds, open_ends, not_below, goes_within}
use Rattle.norm_safety.proofs.SizedOrders.{roomy}
use Rattle.norm_safety.proofs.EntryLemmas.{with_last_is}
use Rattle.norm_send_rules.proofs.CutNames.{cut_range}
use Rattle.norm_send_rules.specs.DropLaws.{DropHolds}
use Rattle.norm_laws.specs.SentOnce.{was_sent, sent_once_of}
use Rattle.norm_laws.proofs.WholeOrders.{cut_nothing}
use Rattle.norm_laws.proofs.StreamNew.{IsPlace, all_parts, place_more, place_grown, grown_new}
use Rattle.norm_laws.proofs.GoneSent.{GoneSent, gone_more, gone_none, gone_joined, gone_last, gone_blocks}
use Rattle.norm_laws.proofs.SentRests.{Leaves, heard_leaves, told_leaves, marked_leaves, struck_leaves}
use Rattle.norm_laws.proofs.NewOrder.{clash, all_implied, all_append, first_lower, none_first, IsAmong, new_among, new_more, shapes_more, shapes_many}

-- ---- what holds of a sender

-- of a want that lies before the next place
abbrev pub IsDone : SenderState → Want → Type 0
IsDone s w = want_before w s.next ≡ true → stands_behind s.current.drop w ≡ true → was_sent s w ≡ true

-- What lies before the next place was sent, or was dropped; the next place lies in the order, or is the first; and of what was dropped all
-- source symbols and infos were sent.
pub record SentSoFar (p : Settings) (s : SenderState) : Type 0 where
  pub sent : AllByRecursion (IsDone s) (sent_once_of p s)
  pub next : (want_index s.next < length s.current.order) ⊎ (s.next ≡ Info 0)
  pub place : IsPlace p (current_shapes p s) s.next
  pub gone : GoneSent p s.current.order s.current.drop s.sent s.sent_infos

-- a later state with the same order, drop point and next place, where what was sent counts as sent
pub record Quiet (old new : SenderState) : Type 0 where
  pub current : new.current ≡ old.current
  pub next : new.next ≡ old.next
  pub sent : (at : Position) → is_member position_before at old.sent ≡ true → is_member position_before at new.sent ≡ true
  pub infos : (index : ℕ) → is_member nat_lt index old.sent_infos ≡ true → is_member nat_lt index new.sent_infos ≡ true

-- one in which the same counts as sent is
pub quiet_of : (s t : SenderState) → Leaves s t → Quiet s t
quiet_of s t h = record {
  current = h.current;
  next = h.next;
  sent = λ at e. ap (is_member position_before at) h.sent ∙ e;
  infos = λ index e. ap (is_member nat_lt index) h.infos ∙ e;
}

pub same_quiet : (s : SenderState) → Quiet s s
same_quiet s = record { current = refl; next = refl; sent = λ at h. h; infos = λ i h. h }

pub where_quiet : (b : Bool) (s t : SenderState) → Quiet s t → Quiet s (elim b as (λ _. SenderState) [ true ↦ t | false ↦ s ])
where_quiet true s t h = h
where_quiet false s t h = same_quiet s

pub still_sent : (s t : SenderState) → ((at : Position) → is_member position_before at s.sent ≡ true → is_member position_before at t.sent ≡ true)
    → ((index : ℕ) → is_member nat_lt index s.sent_infos ≡ true → is_member nat_lt index t.sent_infos ≡ true) → (w : Want) → was_sent s w ≡ true → was_sent t w ≡ true
still_sent s t sent infos (Info index) h = infos index h
still_sent s t sent infos (Symbol at) h = sent at h

pub quiet_so_far : (p : Settings) (s t : SenderState) → Quiet s t → SentSoFar p s → SentSoFar p t
quiet_so_far p s t q h = record {
  sent = subst (AllByRecursion (IsDone t)) (sym (ap (λ (i : Instance). new_from p 0 (shapes_of p i.order)) q.current))
      (all_implied (IsDone s) (IsDone t) (sent_once_of p s) still h.sent);
  next = subst (λ (x : Want). (want_index x < length t.current.order) ⊎ (x ≡ Info 0)) (sym q.next)
      (subst (λ (i : Instance). (want_index s.next < length i.order) ⊎ (s.next ≡ Info 0)) (sym q.current) h.next);
  place = subst (λ (x : Want). IsPlace p (current_shapes p t) x) (sym q.next)
      (subst (λ (i : Instance). IsPlace p (shapes_of p i.order) s.next) (sym q.current) h.place);
  gone = subst (λ (i : Instance). GoneSent p i.order i.drop t.sent t.sent_infos) (sym q.current)
      (gone_more p s.current.order s.current.drop s.sent t.sent s.sent_infos t.sent_infos q.sent q.infos h.gone);
}
  where
    still : (w : Want) → IsDone s w → IsDone t w
    still w done before stands = still_sent s t q.sent q.infos w
        (done (ap (λ (x : Want). want_before w x) (sym q.next) ∙ before) (ap (λ (i : Instance). stands_behind i.drop w) (sym q.current) ∙ stands))

-- ---- what is heard and told

pub heard_so_far : (p : Settings) (s : SenderState) (bytes : List ℕ) (now : ℕ) → SentSoFar p s → SentSoFar p (heard p s bytes now)
heard_so_far p s bytes now h = quiet_so_far p s (heard p s bytes now) (quiet_of s (heard p s bytes now) (heard_leaves p s bytes now)) h

pub told_so_far : (p : Settings) (s : SenderState) → SentSoFar p s → SentSoFar p (told s).0
told_so_far p s h = quiet_so_far p s (told s).0 (quiet_of s (told s).0 (told_leaves s)) h

-- ---- an object joins

le_of : (a b : ℕ) → nat_lt a b ≡ false → b ≤ a
le_of a b e = go (nat_lt a b) refl
  where
    go : (t : Bool) → nat_lt a b ≡ t → b ≤ a
    go true is = absurd (clash (sym e ∙ is))
    go false is = (let no : a < b → ⊥ = λ lt. clash (sym e ∙ (Decides-ltb a b).1 lt) in omega arith)

not_lt : (a b : ℕ) → b ≤ a → nat_lt a b ≡ false
not_lt a b le = go (nat_lt a b) refl
  where
    go : (t : Bool) → nat_lt a b ≡ t → t ≡ false
    go true is = absurd (let lt = (Decides-ltb a b).0 is in omega (arith, le, lt))
    go false is = refl

false_of : (b : Bool) → not b ≡ true → b ≡ false
false_of true e = absurd (clash e)
false_of false e = refl

-- what stands behind a drop point stands behind an earlier one
stands_before : (d e : Point) → (d.index < e.index) ⊎ ((d.index ≡ e.index) × (d.block ≤ e.block)) → (w : Want) → stands_behind e w ≡ true → stands_behind d w ≡ true
stands_before d e earlier (Info index) stands =
    let behind = le_of index e.index (false_of (nat_lt index e.index) stands) in
    ap not (not_lt index d.index (omega (arith, earlier, behind)))
stands_before d e earlier (Symbol at) stands =
    ap not (not_before (point_of at) d (go earlier (behind_point (point_of at) e (false_of (point_before (point_of at) e) stands))))
  where
    go : (d.index < e.index) ⊎ ((d.index ≡ e.index) × (d.block ≤ e.block)) → (e.index < at.index) ⊎ ((e.index ≡ at.index) × (e.block ≤ at.block))
        → (d.index < at.index) ⊎ ((d.index ≡ at.index) × (d.block ≤ at.block))
    go (inl lt) (inl less) = inl (omega (arith, lt, less))
    go (inl lt) (inr same) = inl (let one = same.0 in omega (arith, lt, one))
    go (inr same) (inl less) = inl (let one = same.0 in omega (arith, one, less))
    go (inr same) (inr other) = inr (same.0 ∙ other.0, (let one = same.1 in let two = other.1 in omega (arith, one, two)))

-- the drop point after some objects went is no earlier
drop_later : (d : Point) (n : ℕ) → (d.index < (drop_after d n).index) ⊎ ((d.index ≡ (drop_after d n).index) × (d.block ≤ (drop_after d n).block))
drop_later d zero = inr (refl, omega arith)
drop_later d (suc n) = inl (omega arith)

pub from_zero : (n : ℕ) → 0 + n ≡ n
from_zero n = omega arith

-- nothing of an object that joins lies before the next place
not_yet : (s : SenderState) → (want_index s.next < length s.current.order) ⊎ (s.next ≡ Info 0) → (w : Want) → length s.current.order ≤ want_index w
    → want_before w s.next ≡ true → ⊥
not_yet s (inl lt) w le before = (let lower = first_lower w s.next before in omega (arith, lt, le, lower))
not_yet s (inr is) w le before = none_first w (ap (λ x. want_before w x) (sym is) ∙ before)

joined_so_far : (p : Settings) (s : SenderState) (by : Origin) (object : Object) → DropHolds s → can_make_room p s (size_of p object) ≡ true → SentSoFar p s
    → SentSoFar p (joined p by object s)
joined_so_far p s by object drops room h = record {
  sent = subst (AllByRecursion (IsDone t)) (sym all_is)
      (all_append (IsDone t) (sent_once_of p s) new (all_implied (IsDone s) (IsDone t) (sent_once_of p s) still h.sent)
      (all_implied (IsAmong (length (shapes_of p s.current.order)) 1) (IsDone t) new fresh (new_among p (length (shapes_of p s.current.order)) (shape_of p object ∷ []))));
  next = further h.next;
  place = subst (λ (xs : List Shape). IsPlace p xs s.next) (sym (shapes_more p s.current.order (entry ∷ [])))
      (place_more p (current_shapes p s) (shape_of p object ∷ []) s.next h.place);
  gone = gone_joined p s entry (has_to_go p (size_of p object) (window s)) drops.within (goes_within p (size_of p object) (window s)) room h.gone;
}
  where
    t : SenderState
    t = joined p by object s

    entry : Entry
    entry = record { by = by; object = object }

    new : List Want
    new = new_from p (length (shapes_of p s.current.order)) (shape_of p object ∷ [])

    all_is : sent_once_of p t ≡ sent_once_of p s ++ new
    all_is =
        ap (new_from p 0) (shapes_more p s.current.order (entry ∷ [])) ∙ new_more p 0 (shapes_of p s.current.order) (shape_of p object ∷ [])
        ∙ ap (λ n. sent_once_of p s ++ new_from p n (shape_of p object ∷ [])) (from_zero (length (shapes_of p s.current.order)))

    still : (w : Want) → IsDone s w → IsDone t w
    still w done before stands = done before (stands_before s.current.drop t.current.drop (drop_later s.current.drop (has_to_go p (size_of p object) (window s))) w stands)

    fresh : (w : Want) → IsAmong (length (shapes_of p s.current.order)) 1 w → IsDone t w
    fresh w among before stands =
        let many = shapes_many p s.current.order in let le = among.0 in absurd (not_yet s h.next w (omega (arith, many, le)) before)

    further : (want_index s.next < length s.current.order) ⊎ (s.next ≡ Info 0) → (want_index s.next < length t.current.order) ⊎ (s.next ≡ Info 0)
    further (inl lt) = inl (let more = length_more s.current.order entry in omega (arith, lt, more))
      where
        length_more : (order : List Entry) (x : Entry) → length (order ++ x ∷ []) ≡ length order + 1
        length_more [] x = refl
        length_more (y ∷ order) x = let rest = length_more order x in omega (arith, rest)
    further (inr is) = inr is

-- ---- the open stream goes on

-- an entry that is a stream
abbrev stream_entry : Origin → List Part → Entry
stream_entry by parts = record { by = by; object = Stream parts }

-- a state whose order ends with a stream that got a part, and whose drop point is no earlier
record Grown (p : Settings) (s t : SenderState) : Type 0 where
  front : List Entry
  own : Origin
  parts : List Part
  part : Part
  was : s.current.order ≡ front ++ stream_entry own parts ∷ []
  now : t.current.order ≡ front ++ stream_entry own (parts ++ part ∷ []) ∷ []
  unended : has_end parts ≡ false
  drop : (s.current.drop.index < t.current.drop.index) ⊎ ((s.current.drop.index ≡ t.current.drop.index) × (s.current.drop.block ≤ t.current.drop.block))
  next : t.next ≡ s.next
  sent : t.sent ≡ s.sent
  infos : t.sent_infos ≡ s.sent_infos
  gone : GoneSent p s.current.order s.current.drop s.sent s.sent_infos → GoneSent p t.current.order t.current.drop t.sent t.sent_infos

-- what is new of an order with one entry more
new_last : (p : Settings) (front : List Entry) (x : Entry)
    → new_from p 0 (shapes_of p (front ++ x ∷ [])) ≡ new_from p 0 (shapes_of p front) ++ new_of p (length (shapes_of p front)) (shape_of p x.object)
unfolding new_from
new_last p front x =
    ap (new_from p 0) (shapes_more p front (x ∷ [])) ∙ new_more p 0 (shapes_of p front) (shape_of p x.object ∷ [])
    ∙ ap (λ n. new_from p 0 (shapes_of p front) ++ new_from p n (shape_of p x.object ∷ [])) (from_zero (length (shapes_of p front)))
    ∙ ap (λ ws. new_from p 0 (shapes_of p front) ++ ws) (append-nil (new_of p (length (shapes_of p front)) (shape_of p x.object)))

grown_so_far : (p : Settings) → InRange p → (s t : SenderState) → Grown p s t → SentSoFar p s → SentSoFar p t
grown_so_far p range s t g h = record {
  sent = subst (AllByRecursion (IsDone t)) (sym (ap (λ xs. new_from p 0 (shapes_of p xs)) g.now ∙ new_last p g.front y))
      (all_append (IsDone t) front_new (new_of p n (shape_of p y.object)) (all_implied (IsDone s) (IsDone t) front_new still parts_done.0)
      (all_implied (λ w. want_before w s.next ≡ true → IsDone s w) (IsDone t) (new_of p n (shape_of p y.object)) late
      (grown_new p (cut_range p range) (shapes_of p g.front) g.parts (g.parts ++ g.part ∷ []) s.next longer place_was (IsDone s) parts_done.1)));
  next = subst (λ (x : Want). (want_index x < length t.current.order) ⊎ (x ≡ Info 0)) (sym g.next) (within h.next);
  place = subst (λ (x : Want). IsPlace p (current_shapes p t) x) (sym g.next)
      (subst (λ (xs : List Shape). IsPlace p xs s.next) (sym (ap (shapes_of p) g.now ∙ shapes_more p g.front (y ∷ [])))
      (place_grown p (cut_range p range) (shapes_of p g.front) g.parts (g.parts ++ g.part ∷ []) s.next longer place_was));
  gone = g.gone h.gone;
}
  where
    x : Entry
    x = stream_entry g.own g.parts

    y : Entry
    y = stream_entry g.own (g.parts ++ g.part ∷ [])

    n : ℕ
    n = length (shapes_of p g.front)

    front_new : List Want
    front_new = new_from p 0 (shapes_of p g.front)

    longer : length (closed_from p.e [] g.parts) ≤ length (closed_from p.e [] (g.parts ++ g.part ∷ []))
    longer =
        let some : 0 < p.e = (let least = range.e.0 in omega (arith, least)) in
        let begins = closed_later p.e g.parts (g.part ∷ []) some (λ e. absurd (clash (sym g.unended ∙ e))) in
        let sum = length-append (closed_from p.e [] g.parts) begins.0 in
        let long = ap (λ (xs : List (List ℕ)). length xs) begins.1 in
        omega (arith, sum, long)

    place_was : IsPlace p (shapes_of p g.front ++ shape_of p x.object ∷ []) s.next
    place_was = subst (λ (xs : List Shape). IsPlace p xs s.next) (ap (shapes_of p) g.was ∙ shapes_more p g.front (x ∷ [])) h.place

    parts_done : AllByRecursion (IsDone s) front_new × AllByRecursion (IsDone s) (new_of p n (shape_of p x.object))
    parts_done = all_parts (IsDone s) front_new (new_of p n (shape_of p x.object))
        (subst (AllByRecursion (IsDone s)) (ap (λ xs. new_from p 0 (shapes_of p xs)) g.was ∙ new_last p g.front x) h.sent)

    still : (w : Want) → IsDone s w → IsDone t w
    still w done before stands =
        still_sent s t (λ at e. ap (is_member position_before at) g.sent ∙ e) (λ i e. ap (is_member nat_lt i) g.infos ∙ e) w
        (done (ap (λ (x : Want). want_before w x) (sym g.next) ∙ before) (stands_before s.current.drop t.current.drop g.drop w stands))

    late : (w : Want) → (want_before w s.next ≡ true → IsDone s w) → IsDone t w
    late w done before stands = still w (done (ap (λ (x : Want). want_before w x) (sym g.next) ∙ before)) before stands

    within : (want_index s.next < length s.current.order) ⊎ (s.next ≡ Info 0) → (want_index s.next < length t.current.order) ⊎ (s.next ≡ Info 0)
    within (inl lt) =
        let was = ap (λ (xs : List Entry). length xs) g.was ∙ length-append g.front (x ∷ []) in
        let now = ap (λ (xs : List Entry). length xs) g.now ∙ length-append g.front (y ∷ []) in
        inl (omega (arith, lt, was, now))
    within (inr is) = inr is

-- an open stream was not dropped whole
lower : (s : SenderState) → DropHolds s → is_none (open_stream s) ≡ false → s.current.drop.index < length s.current.order
lower s drops there = drops.stream (some (open_stream s) there)
  where
    some : (o : Option (List Part)) → is_none o ≡ false → is_some o ≡ true
    some None e = absurd (clash (sym e))
    some (Some parts) e = refl

-- where the drop point comes to as the open stream takes room
stream_later : (p : Settings) (s : SenderState) (segments : ℕ) → DropHolds s → is_none (open_stream s) ≡ false
    → let d : Point = stream_drop p s (last_index s) segments in
    (s.current.drop.index < d.index) ⊎ ((s.current.drop.index ≡ d.index) × (s.current.drop.block ≤ d.block))
stream_later p s segments drops there = go (nat_le (least_kept p segments) (first_kept s (last_index s))) refl
  where
    kept : ℕ → Bool → ℕ
    kept block below = elim below [ true ↦ 0 | false ↦ block ]

    place : (below : Bool) → nat_lt s.current.drop.index (last_index s) ≡ below → kept s.current.drop.block below < least_kept p segments
        → (s.current.drop.index < last_index s) ⊎ ((s.current.drop.index ≡ last_index s) × (s.current.drop.block ≤ least_kept p segments))
    place true e lt = inl ((Decides-ltb s.current.drop.index (last_index s)).0 e)
    place false e lt =
        let ge = le_of s.current.drop.index (last_index s) e in
        let less = lower s drops there in
        inr ((let z : s.current.drop.index ≡ last_index s = omega (arith, ge, less) in z), omega (arith, lt))

    go : (b : Bool) → nat_le (least_kept p segments) (first_kept s (last_index s)) ≡ b
        → let d : Point = elim b [ true ↦ s.current.drop | false ↦ point (last_index s) (least_kept p segments) ] in
        (s.current.drop.index < d.index) ⊎ ((s.current.drop.index ≡ d.index) × (s.current.drop.block ≤ d.block))
    go true e = inr (refl, omega arith)
    go false e = place (nat_lt s.current.drop.index (last_index s)) refl (not_below (least_kept p segments) (first_kept s (last_index s)) e)

-- the stream's index, by the order that ends with it
last_is : (s : SenderState) (front : List Entry) (x : Entry) → s.current.order ≡ front ++ x ∷ [] → last_index s ≡ length front
last_is s front x was =
    let long = ap (λ (xs : List Entry). length xs) was ∙ length-append front (x ∷ []) in (let z : last_index s ≡ length front = omega (arith, long) in z)

part_so_far : (p : Settings) → InRange p → (s : SenderState) (part : Part) → DropHolds s → is_none (open_stream s) ≡ false
    → is_crowded p s (parts_now s ++ part ∷ []) ≡ false → SentSoFar p s → SentSoFar p (grown p s (parts_now s ++ part ∷ []))
part_so_far p range s part drops there crowded so =
    grown_so_far p range s (grown p s parts) (record {
      front = ends.front;
      own = ends.own;
      parts = parts_now s;
      part = part;
      was = ends.is;
      now = now;
      unended = ends.unended;
      drop = stream_later p s (used_segments p parts) drops there;
      next = refl;
      sent = refl;
      infos = refl;
      gone = λ h. subst (λ xs. GoneSent p xs (stream_drop p s (last_index s) (used_segments p parts)) s.sent s.sent_infos) (sym now)
          (gone (nat_le least (first_kept s (last_index s))) (roomy _ crowded) h);
    }) so
  where
    ends : OpenEnds s
    ends = open_ends s there

    parts : List Part
    parts = parts_now s ++ part ∷ []

    least : ℕ
    least = least_kept p (used_segments p parts)

    x : Entry
    x = stream_entry ends.own (parts_now s)

    y : Entry
    y = stream_entry ends.own parts

    now : with_last (Stream parts) s.current.order ≡ ends.front ++ y ∷ []
    now = ap (λ (xs : List Entry). with_last (Stream parts) xs) ends.is ∙ with_last_is (Stream parts) ends.front x

    shape : Shape
    shape = shape_of p (Stream (parts_now s))

    within : s.current.drop.index ≤ length ends.front
    within = (let le = lower s drops there in let is = last_is s ends.front x ends.is in omega (arith, le, is))

    gone : (b : Bool) → (b || blocks_may_go p s (last_index s) shape least) ≡ true → GoneSent p s.current.order s.current.drop s.sent s.sent_infos
        → GoneSent p (ends.front ++ y ∷ []) (elim b [ true ↦ s.current.drop | false ↦ point (last_index s) least ]) s.sent s.sent_infos
    gone true may h =
        gone_last p ends.front x y parts s.current.drop s.sent s.sent_infos refl within
        (subst (λ xs. GoneSent p xs s.current.drop s.sent s.sent_infos) ends.is h)
    gone false may h =
        let is = last_is s ends.front x ends.is in
        gone_blocks p s ends.front x y parts (last_index s) least shape ends.is is refl (let le = lower s drops there in omega (arith, le)) may h

cut_stream_so_far : (p : Settings) → InRange p → (s : SenderState) → DropHolds s → SentSoFar p s → SentSoFar p (cut p s)
cut_stream_so_far p range s drops so = go (open_stream s) refl
  where
    cuts : (n : ℕ) → is_none (open_stream s) ≡ false → SentSoFar p (elim n as (λ _. SenderState) [ zero ↦ s | suc k ↦ with_parts (parts_now s ++ Cut ∷ []) s ])
    cuts zero there = so
    cuts (suc n) there =
        let ends = open_ends s there in
        let x : Entry = stream_entry ends.own (parts_now s) in
        let parts : List Part = parts_now s ++ Cut ∷ [] in
        grown_so_far p range s (with_parts parts s) (record {
          front = ends.front;
          own = ends.own;
          parts = parts_now s;
          part = Cut;
          was = ends.is;
          now = ap (λ (xs : List Entry). with_last (Stream parts) xs) ends.is ∙ with_last_is (Stream parts) ends.front x;
          unended = ends.unended;
          drop = inr (refl, omega arith);
          next = refl;
          sent = refl;
          infos = refl;
          gone = λ h. subst (λ xs. GoneSent p xs s.current.drop s.sent s.sent_infos)
              (sym (ap (λ (xs : List Entry). with_last (Stream parts) xs) ends.is ∙ with_last_is (Stream parts) ends.front x))
              (gone_last p ends.front x (stream_entry ends.own parts) parts s.current.drop s.sent s.sent_infos refl
              (let le = lower s drops there in let is = last_is s ends.front x ends.is in omega (arith, le, is))
              (subst (λ xs. GoneSent p xs s.current.drop s.sent s.sent_infos) ends.is h));
        }) so

    go : (found : Option (List Part)) → open_stream s ≡ found → SentSoFar p (cut p s)
    go None e = subst (SentSoFar p) (sym (cut_nothing p s e)) so
    go (Some parts) e = cuts (unclosed p.e (parts_now s)) (ap is_none e)

-- ---- a command

free_so_far : (p : Settings) (found : Option EnqueueFault) (s after : SenderState) (receipt : Receipt) → (found ≡ None → SentSoFar p after) → SentSoFar p s
    → SentSoFar p (where_free found s after receipt).0
free_so_far p None s after receipt h so = h refl
free_so_far p (Some fault) s after receipt h so = so

cut_so_far : (p : Settings) → InRange p → (s : SenderState) (by : Origin) (quorum : Option ℕ) → DropHolds s → SentSoFar p s
    → SentSoFar p (answered Mark (cut_and_marked p s by quorum)).0
cut_so_far p range s by quorum drops so =
    quiet_so_far p (cut p s) (answered Mark (cut_and_marked p s by quorum)).0 (quiet_of (cut p s) _ (marked_leaves (cut p s) by quorum (last_source (current_shapes p (cut p s)))))
    (cut_stream_so_far p range s drops so)

begun_so_far : (p : Settings) (id : ℕ) (s : SenderState) → SentSoFar p (begun_anew id s)
unfolding new_from
begun_so_far p id s = record { sent = tt; next = inr refl; place = inl refl; gone = gone_none p [] }

-- an object without a fault finds room
has_room_now : (p : Settings) (s : SenderState) (info : Option (List ℕ)) (octets : List ℕ) → object_fault p s info octets ≡ None → can_make_room p s (length octets) ≡ true
has_room_now p s info octets e =
    let first = first_none _ _ _ e in
    let second = first_none _ _ _ first.1 in
    let third = first_none _ _ _ second.1 in
    let fourth = first_none _ _ _ third.1 in
    let fifth = first_none _ _ _ fourth.1 in
    roomy _ (first_none _ _ _ fifth.1).0

pub command_so_far : (p : Settings) → InRange p → (s : SenderState) (by : Origin) (job : Job) → DropHolds s → SentSoFar p s → SentSoFar p (commanded p s by job).0
command_so_far p range s by (job.Data info bytes) drops so =
    free_so_far p (object_fault p s info bytes) s (joined p by (Whole kind.Data info bytes) s) _
    (λ e. joined_so_far p s by (Whole kind.Data info bytes) drops (has_room_now p s info bytes e) so) so
command_so_far p range s by (job.File name bytes) drops so =
    free_so_far p (object_fault p s (Some name) bytes) s (joined p by (Whole kind.File (Some name) bytes) s) _
    (λ e. joined_so_far p s by (Whole kind.File (Some name) bytes) drops (has_room_now p s (Some name) bytes e) so) so
command_so_far p range s by job.Open drops so =
    free_so_far p (open_fault p s) s (joined p by (Stream []) s) _ (λ e. (
    let first = first_none _ _ _ e in
    let second = first_none _ _ _ first.1 in
    let third = first_none _ _ _ second.1 in
    joined_so_far p s by (Stream []) drops (roomy _ (first_none _ _ _ third.1).0) so
    )) so
command_so_far p range s by (job.Write bytes) drops so =
    let parts = parts_now s ++ Write by bytes ∷ [] in
    free_so_far p (write_fault p s bytes parts) s (grown p s parts) _ (λ e. (
    let first = first_none _ _ _ e in
    let second = first_none _ _ _ first.1 in
    let third = first_none _ _ _ second.1 in
    let fourth = first_none _ _ _ third.1 in
    part_so_far p range s (Write by bytes) drops third.0 (first_none _ _ _ fourth.1).0 so
    )) so
command_so_far p range s by job.Close drops so =
    let parts = parts_now s ++ End ∷ [] in
    free_so_far p (close_fault p s parts) s (grown p s parts) _ (λ e. (
    let first = first_none _ _ _ e in
    let second = first_none _ _ _ first.1 in
    part_so_far p range s End drops first.0 (first_none _ _ _ second.1).0 so
    )) so
command_so_far p range s by (job.Mark None) drops so = cut_so_far p range s by None drops so
command_so_far p range s by (job.Mark (Some q)) drops so = go (is_no_quorum p q)
  where
    state_of : SenderState × Result Receipt SendFault → SenderState
    state_of step = step.0

    go : (no : Bool) → SentSoFar p (state_of (answered Mark (elim no [ true ↦ (s, Err (Quorum q)) | false ↦ cut_and_marked p s by (Some q) ])))
    go true = so
    go false = cut_so_far p range s by (Some q) drops so
command_so_far p range s by (job.Restart id) drops so = go (is_used s id)
  where
    state_of : SenderState × Result Receipt SendFault → SenderState
    state_of step = step.0

    go : (used : Bool) → SentSoFar p (state_of (elim used [ true ↦ (s, Err (IdUsed id)) | false ↦ (begun_anew id s, Ok (receipt.Restarted id)) ]))
    go true = so
    go false = begun_so_far p id s
command_so_far p range s by (job.Strike node) drops so = go (strike_fault s node)
  where
    state_of : SenderState × Result Receipt SendFault → SenderState
    state_of step = step.0

    go : (found : Option StrikeFault) → SentSoFar p (state_of (answered Strike (elim found [
      | Some fault ↦ (s, Err fault)
      | None ↦ (struck_off node s, Ok (receipt.Struck node))
    ])))
    go (Some fault) = so
    go None = quiet_so_far p s (struck_off node s) (quiet_of s (struck_off node s) (struck_leaves node s)) so
