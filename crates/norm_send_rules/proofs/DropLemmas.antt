-- The drop point never falls in an instance.
use Rattle.std.proofs.Common.{◌≡◌, ℕ, zero, suc, ◌+◌, ◌-◌, ◌<◌, ◌≤◌, ◌⊎◌, inl, inr, List, [], ◌∷◌, ◌++◌, length, map, Bool, true, false, Option, None, Some, Result, Ok, Err, refl, sym, ap, subst, ◌∙◌, arith}
use Rattle.std.specs.Prelude.{drop, nat_lt, nat_le, unwrap_or, is_some, is_none, ◌==◌}
use Rattle.std.proofs.Math.Nat.{zero-mod}
use Rattle.std.proofs.lemmas.Bool.{cases_lt}
use Rattle.std.proofs.lemmas.Bool.Decides.{Decides-ltb, leb_tells}
use Rattle.std.proofs.lemmas.List.{length-append}
use Rattle.norm_base.specs.Settings.{Settings}
use Rattle.norm_base.specs.declared.kinds.Kind.TheVariants as kind
use Rattle.norm_base.specs.declared.node.Origin.{Origin}
use Rattle.fec_plan.specs.Points.{Point, point, point_before}
use Rattle.fec_plan.specs.declared.position.Position.{Position}
use Rattle.fec_plan.proofs.PointLemmas.{not_before, not_before_itself}
use Rattle.norm_ext.specs.Asking.{item_named}
use Rattle.norm_ext.specs.Message.{Message, Nack, Ack, AckContent, Mark, Unread}
use Rattle.norm_ext.specs.Reading.{decoded}
use Rattle.norm_ext.specs.Requests.{Request}
use Rattle.norm_order.specs.Entries.{Entry, Object, Part, Write, Cut, End, Whole, Stream}
use Rattle.norm_order.specs.Segments.{since_cut, unclosed}
use Rattle.norm_order.specs.Shapes.{last_source, is_source}
use Rattle.norm_order.specs.Sets.{with_member}
use Rattle.norm_send_rules.specs.Commanding.{commanded}
use Rattle.norm_send_rules.specs.DropLaws.{DropHolds, DropLaws}
use Rattle.norm_send_rules.specs.Enqueuing.{open_stream, object_fault, joined}
use Rattle.norm_send_rules.specs.Hearing.{nack_counts, ack_counts, joined_round, listed_past, rises, credited, credited_by, message_heard}
use Rattle.norm_send_rules.specs.InWindow.{last_index, current_shapes}
use Rattle.norm_send_rules.specs.Marking.{is_no_quorum, most_open, watermark_at, with_watermark, cut_and_marked}
use Rattle.norm_send_rules.specs.Restarting.{is_used, begun_anew}
use Rattle.norm_send_rules.specs.Room.{size_of, window, has_room, has_to_go, drop_after, first_kept, least_kept, stream_drop}
use Rattle.norm_send_rules.specs.SenderState.{SenderState, Instance, Watermark}
use Rattle.norm_send_rules.specs.SenderStep as events
use Rattle.norm_send_rules.specs.SenderStep.{SenderEvent, sender_step}
use Rattle.norm_send_rules.specs.Sending.{noted}
use Rattle.norm_send_rules.specs.Streaming.{open_fault, used_segments, with_last, with_parts, parts_now, write_fault, close_fault, grown, cut}
use Rattle.norm_send_rules.specs.Striking.{strike_fault, without_node, struck_off}
use Rattle.norm_send_rules.specs.Telling.{told, past_news, done_news, listing_of}
use Rattle.norm_send_rules.specs.Watermarks.{keeps_oldest, counted_anew, settled, end_where, open_watermarks, pending, watermark_of}
use Rattle.norm_send_rules.specs.declared.job.Job.{Job}
use Rattle.norm_send_rules.specs.declared.job.Job.TheVariants as job
use Rattle.norm_send_rules.specs.declared.news.News.{News}
use Rattle.norm_send_rules.specs.declared.news.Outcome.TheVariants.{Expired}
use Rattle.norm_send_rules.specs.declared.want.Want.{Want}
use Rattle.norm_send_rules.specs.declared.want.Want.TheVariants.{Info, Symbol}
use Rattle.norm_send_rules.proofs.ListingLemmas.{longer}
use Rattle.norm_send_rules.proofs.TickLemmas.{tick_keeps}
use Rattle.norm_send_rules.proofs.WantLemmas.{either, no_row}

clash : false ≡ true → ⊥
clash e = cc

-- what a step makes of an instance: it is within still, and its drop point is no earlier
record Moves (s t : SenderState) : Type 0 where
  holds : DropHolds t
  falls : point_before t.current.drop s.current.drop ≡ false

-- the same instance
still : (s t : SenderState) → t.current ≡ s.current → DropHolds s → Moves s t
still s t same h = record {
  holds = record {
    within = subst (λ (i : Instance). i.drop.index ≤ length i.order) (sym same) h.within;
    stream = subst (λ (i : Instance). is_some (open_stream (record s { current = i })) ≡ true → i.drop.index < length i.order) (sym same) h.stream;
  };
  falls = subst (λ (i : Instance). point_before i.drop s.current.drop ≡ false) (sym same) (not_before_itself s.current.drop);
}

-- ---- an object more

few_go : (p : Settings) (size : ℕ) (entries : List Entry) → has_to_go p size entries ≤ length entries
unfolding has_to_go
few_go p size [] = omega arith
few_go p size (x ∷ xs) = go (has_room p size (x ∷ xs)) (few_go p size xs)
  where
    go : (b : Bool) → has_to_go p size xs ≤ length xs → elim b [ true ↦ 0 | false ↦ suc (has_to_go p size xs) ] ≤ length (x ∷ xs)
    go true le = omega arith
    go false le = omega arith

dropped_length : (n : ℕ) (xs : List Entry) → length (drop n xs) ≡ length xs - n
dropped_length zero xs = omega arith
dropped_length (suc n) [] = omega arith
dropped_length (suc n) (x ∷ xs) = dropped_length n xs ∙ omega arith

after_index : (d : Point) (n : ℕ) → (drop_after d n).index ≡ d.index + n
after_index d zero = omega arith
after_index d (suc n) = refl

after_on : (d : Point) (n : ℕ) → point_before (drop_after d n) d ≡ false
after_on d zero = not_before_itself d
after_on d (suc n) = not_before (drop_after d (suc n)) d (inl (omega arith))

joins : (p : Settings) (by : Origin) (object : Object) (s : SenderState) → DropHolds s → Moves s (joined p by object s)
joins p by object s h =
    let n : ℕ = has_to_go p (size_of p object) (window s) in
    let few : n ≤ length (window s) = few_go p (size_of p object) (window s) in
    let left : length (window s) ≡ length s.current.order - s.current.drop.index = dropped_length s.current.drop.index s.current.order in
    let at : (drop_after s.current.drop n).index ≡ s.current.drop.index + n = after_index s.current.drop n in
    let long : length (joined p by object s).current.order ≡ length s.current.order + 1 = length-append s.current.order (record { by = by; object = object } ∷ []) in
    let le = h.within in
    record {
      holds = record { within = omega (arith, few, left, at, long, le); stream = λ yes. omega (arith, few, left, at, long, le) };
      falls = after_on s.current.drop n;
    }

-- ---- an open stream grows

last_long : (object : Object) (order : List Entry) → length (with_last object order) ≡ length order
last_long object [] = refl
last_long object (x ∷ []) = refl
last_long object (x ∷ y ∷ order) = ap suc (last_long object (y ∷ order))

not_none : {X : Type 0} (o : Option X) → is_none o ≡ false → is_some o ≡ true
not_none None e = absurd (clash (sym e))
not_none (Some x) e = refl

not_le : (a b : ℕ) → nat_le a b ≡ false → b < a
not_le a b e = go (leb_tells a b)
  where
    go : ((nat_le a b ≡ true) × (a ≤ b)) ⊎ ((nat_le a b ≡ false) × (b < a)) → b < a
    go (inl so) = absurd (clash (sym e ∙ so.0))
    go (inr is) = is.1

grows : (p : Settings) (s : SenderState) (parts : List Part) → is_some (open_stream s) ≡ true → DropHolds s → Moves s (grown p s parts)
grows p s parts is_there h = go (nat_le least (first_kept s (last_index s))) refl
  where
    least : ℕ
    least = least_kept p (used_segments p parts)

    within : s.current.drop.index < length s.current.order
    within = h.stream is_there

    to : Point → SenderState
    to first = with_parts parts (record s { current = record (s.current) { drop = first } })

    long : (first : Point) → length (to first).current.order ≡ length s.current.order
    long first = last_long (Stream parts) s.current.order

    DropIs : Point → Type 0
    DropIs first = (first.index < length (with_last (Stream parts) s.current.order)) × (point_before first s.current.drop ≡ false)

    later : nat_le least (first_kept s (last_index s)) ≡ false → (b : Bool) → nat_lt s.current.drop.index (last_index s) ≡ b
        → nat_le least (elim b [ true ↦ 0 | false ↦ s.current.drop.block ]) ≡ false
        → (s.current.drop.index < last_index s) ⊎ ((s.current.drop.index ≡ last_index s) × (s.current.drop.block ≤ least))
    later e true is f = inl ((Decides-ltb s.current.drop.index (last_index s)).0 is)
    later e false is f = inr (
      by (cases_lt s.current.drop.index (last_index s)),
      (let less = not_le least s.current.drop.block f in omega arith),
    )
      where
        by : (s.current.drop.index < last_index s) ⊎ (last_index s ≤ s.current.drop.index) → s.current.drop.index ≡ last_index s
        by (inl less) = absurd (clash (sym is ∙ (Decides-ltb s.current.drop.index (last_index s)).1 less))
        by (inr le) = let lt = within in omega arith

    place : (b : Bool) → nat_le least (first_kept s (last_index s)) ≡ b
        → DropIs (elim b as (λ _. Point) [ true ↦ s.current.drop | false ↦ point (last_index s) least ])
    place true e = ((let n = last_long (Stream parts) s.current.order in let lt = within in omega arith), not_before_itself s.current.drop)
    place false e = (
      (let n = last_long (Stream parts) s.current.order in let lt = within in omega arith),
      not_before (point (last_index s) least) s.current.drop (later e (nat_lt s.current.drop.index (last_index s)) refl e),
    )

    go : (b : Bool) → nat_le least (first_kept s (last_index s)) ≡ b → Moves s (grown p s parts)
    go b e =
        let is : DropIs (stream_drop p s (last_index s) (used_segments p parts)) = place (nat_le least (first_kept s (last_index s))) refl in
        record { holds = record { within = (let lt = is.0 in omega arith); stream = λ yes. is.0 }; falls = is.1 }

-- ---- a cut

cuts : (p : Settings) (s : SenderState) → DropHolds s → Moves s (cut p s)
unfolding since_cut
cuts p s h = go (open_stream s) refl
  where
    cut_where : ℕ → List Part → SenderState
    cut_where n parts = elim n [ zero ↦ s | suc k ↦ with_parts (parts ++ Cut ∷ []) s ]

    some : (parts : List Part) → open_stream s ≡ Some parts → (n : ℕ) → Moves s (cut_where n parts)
    some parts e zero = still s s refl h
    some parts e (suc n) =
        let within : s.current.drop.index < length s.current.order = h.stream (ap (λ (o : Option (List Part)). is_some o) e) in
        let long = last_long (Stream (parts ++ Cut ∷ [])) s.current.order in
        record {
          holds = record { within = omega (arith, within, long); stream = λ yes. omega (arith, within, long) };
          falls = not_before_itself s.current.drop;
        }

    go : (found : Option (List Part)) → open_stream s ≡ found → Moves s (cut_where (unclosed p.e (unwrap_or found [])) (unwrap_or found []))
    go None e = subst (λ (n : ℕ). Moves s (cut_where n [])) (sym (zero-mod p.e)) (still s s refl h)
    go (Some parts) e = some parts e (unclosed p.e parts)

-- ---- what leaves the instance

anew_current : (s t : SenderState) → (counted_anew s t).current ≡ t.current
anew_current s t = go (keeps_oldest s t)
  where
    go : (b : Bool) → (elim b as (λ _. SenderState) [ true ↦ t | false ↦ record t { flushes = 0 } ]).current ≡ t.current
    go true = refl
    go false = refl

either_same : {A : Type 0} (b : Bool) (s : SenderState) (t u : SenderState × A) → t.0.current ≡ s.current → u.0.current ≡ s.current
    → (either b t u).0.current ≡ s.current
either_same true s t u h k = h
either_same false s t u h k = k

watermark_same : (s : SenderState) (by : Origin) (quorum : Option ℕ) (found : Option Position) → (watermark_at s by quorum found).0.current ≡ s.current
watermark_same s by quorum None = refl
watermark_same s by quorum (Some at) =
    let w : Watermark = record { mark = length s.watermarks + 1; by = by; at = at; quorum = quorum; ended = None } in
    either_same (nat_le most_open (length (open_watermarks s))) s (s, _) (with_watermark s by quorum at, _) refl
    (anew_current s (settled (record s { watermarks = s.watermarks ++ w ∷ [] })))

mark_moves : (p : Settings) (s : SenderState) (by : Origin) (quorum : Option ℕ) → DropHolds s → Moves s (cut_and_marked p s by quorum).0
mark_moves p s by quorum h =
    let t : SenderState = cut p s in
    let k = cuts p s h in
    let same : (cut_and_marked p s by quorum).0.current ≡ t.current = watermark_same t by quorum (last_source (current_shapes p t)) in
    record {
      holds = (still t (cut_and_marked p s by quorum).0 same k.holds).holds;
      falls = ap (λ (i : Instance). point_before i.drop s.current.drop) same ∙ k.falls;
    }

unless : {A B : Type 0} (fault : Option A) (s t : SenderState) (refuses : A → B) (gives : B) → DropHolds s → (fault ≡ None → Moves s t)
    → Moves s (elim fault as (λ _. SenderState × B) [ Some f ↦ (s, refuses f) | None ↦ (t, gives) ]).0
unless (Some f) s t refuses gives h k = still s s refl h
unless None s t refuses gives h k = k refl

either_moves : {A : Type 0} (b : Bool) (s : SenderState) (t u : SenderState × A) → Moves s t.0 → Moves s u.0 → Moves s (either b t u).0
either_moves true s t u h k = h
either_moves false s t u h k = k

-- where no instance begins
record MovesOn (s t : SenderState) : Type 0 where
  holds : DropHolds t
  falls : t.earlier ≡ s.earlier → point_before t.current.drop s.current.drop ≡ false

moves_on : (s t : SenderState) → Moves s t → MovesOn s t
moves_on s t h = record { holds = h.holds; falls = λ e. h.falls }

restart_moves : (s : SenderState) (id : ℕ) (b : Bool) {A : Type 0} (refusal gives : A) → DropHolds s
    → MovesOn s (either b (s, refusal) (begun_anew id s, gives)).0
restart_moves s id true refusal gives h = moves_on s s (still s s refl h)
restart_moves s id false refusal gives h = record {
  holds = record { within = omega arith; stream = λ yes. absurd (clash yes) };
  falls = λ e. absurd (longer s.earlier s.current e);
}

commands_move : (p : Settings) (s : SenderState) (by : Origin) (job : Job) → DropHolds s → MovesOn s (commanded p s by job).0
commands_move p s by (job.Data info bytes) h = moves_on s _
    (unless (object_fault p s info bytes) s (joined p by (Whole kind.Data info bytes) s) Err (Ok _) h (λ e. joins p by (Whole kind.Data info bytes) s h))
commands_move p s by (job.File name bytes) h = moves_on s _
    (unless (object_fault p s (Some name) bytes) s (joined p by (Whole kind.File (Some name) bytes) s) Err (Ok _) h
    (λ e. joins p by (Whole kind.File (Some name) bytes) s h))
commands_move p s by job.Open h = moves_on s _
    (unless (open_fault p s) s (joined p by (Stream []) s) Err (Ok _) h (λ e. joins p by (Stream []) s h))
commands_move p s by (job.Write bytes) h =
    let parts = parts_now s ++ Write by bytes ∷ [] in
    moves_on s _ (unless (write_fault p s bytes parts) s (grown p s parts) Err (Ok _) h (λ e.
    let first = no_row _ _ _ e in
    let second = no_row _ _ _ first.1 in
    grows p s parts (not_none (open_stream s) (no_row _ _ _ second.1).0) h))
commands_move p s by job.Close h =
    let parts = parts_now s ++ End ∷ [] in
    moves_on s _ (unless (close_fault p s parts) s (grown p s parts) Err (Ok _) h (λ e. grows p s parts (not_none (open_stream s) (no_row _ _ _ e).0) h))
commands_move p s by (job.Mark None) h = moves_on s _ (mark_moves p s by None h)
commands_move p s by (job.Mark (Some q)) h =
    moves_on s _ (either_moves (is_no_quorum p q) s (s, _) (cut_and_marked p s by (Some q)) (still s s refl h) (mark_moves p s by (Some q) h))
commands_move p s by (job.Restart instance) h = restart_moves s instance (is_used s instance) _ _ h
commands_move p s by (job.Strike node) h = moves_on s _
    (unless (strike_fault s node) s (struck_off node s) Err (Ok _) h (λ e. still s (struck_off node s) (anew_current s (settled (without_node node s))) h))

-- ---- datagrams, ticks and news

heard_same : {E : Type 0} (p : Settings) (s : SenderState) (now : ℕ) (read : Result Message E) → (message_heard p s now read).current ≡ s.current
heard_same p s now (Ok (Nack m)) = go (nack_counts p s m) m.requests
  where
    go : (b : Bool) (requests : List Request) → (elim b as (λ _. SenderState) [ true ↦ joined_round p s now requests | false ↦ s ]).current ≡ s.current
    go false requests = refl
    go true [] = refl
    go true (r ∷ requests) = refl
heard_same p s now (Ok (Ack m)) = go (ack_counts p s m) m.content
  where
    up : (at : Position) → SenderState
    up at = record s { listings = map (listed_past m.source at) s.listings; untold_nodes = with_member nat_lt m.source s.untold_nodes }

    rising : (at : Position) (b : Bool) → (elim b as (λ _. SenderState) [ true ↦ counted_anew s (settled (up at)) | false ↦ s ]).current ≡ s.current
    rising at true = anew_current s (settled (up at))
    rising at false = refl

    source : (at : Position) (b : Bool) → (elim b as (λ _. SenderState) [ true ↦ credited m.source at s | false ↦ s ]).current ≡ s.current
    source at true = rising at (rises m.source at s)
    source at false = refl

    named : (o : Option Position) → (credited_by p m.source o s).current ≡ s.current
    named (Some at) = source at (is_source (current_shapes p s) at)
    named None = refl

    go : (b : Bool) (content : AckContent) → (elim b as (λ _. SenderState) [
      | true ↦ elim content [ Mark item ↦ credited_by p m.source (item_named p (last_index s) item) s | Unread octets ↦ s ]
      | false ↦ s
    ]).current ≡ s.current
    go true (Mark item) = named (item_named p (last_index s) item)
    go true (Unread octets) = refl
    go false content = refl
heard_same p s now _ = refl

noted_same : (w : Want) (s : SenderState) → (noted w s).current ≡ s.current
noted_same (Info index) s = refl
noted_same (Symbol at) s = refl

tick_same : (p : Settings) (s : SenderState) (now : ℕ) → (sender_step p s (events.Ticked now)).0.current ≡ s.current
tick_same p s now = tick_keeps p (λ t. t.current ≡ s.current) (record {
  closes = λ t r h. h;
  squelched = λ t h. h;
  repaired = λ t w wants e h. h;
  goes_on = λ t w e h. h;
  notes = λ t w h. noted_same w t ∙ h;
  flushes = λ t moment h. h;
  expires = λ t w e h. anew_current t (end_where (λ v. v.mark == w.mark) (λ v. Expired (length (pending t v.at))) t) ∙ h;
  spends = λ t moment h. h;
}) s now refl

told_same : (s : SenderState) → (told s).0.current ≡ s.current
told_same s = go s.untold_nodes s.untold_marks
  where
    news : List ℕ → List ℕ → SenderState × Option News
    news nodes marks = elim nodes [
      | node ∷ others ↦ (record s { untold_nodes = others }, past_news node (listing_of s node))
      | [] ↦ elim marks [
        | mark ∷ others ↦ (record s { untold_marks = others }, done_news s mark (watermark_of s mark))
        | [] ↦ (s, None)
      ]
    ]

    go : (nodes marks : List ℕ) → (news nodes marks).0.current ≡ s.current
    go (node ∷ nodes) marks = refl
    go [] (mark ∷ marks) = refl
    go [] [] = refl

steps_move : (p : Settings) (s : SenderState) (event : SenderEvent) → DropHolds s → MovesOn s (sender_step p s event).0
steps_move p s (events.Commanded by job now) h = commands_move p s by job h
steps_move p s (events.Delivered datagram now) h = moves_on s _ (still s _ (heard_same p s now (decoded datagram)) h)
steps_move p s (events.Ticked now) h = moves_on s _ (still s _ (tick_same p s now) h)
steps_move p s events.NewsAsked h = moves_on s _ (still s _ (told_same s) h)

pub drop_laws : DropLaws
drop_laws = record {
  begins = λ p instance. record { within = omega arith; stream = λ yes. absurd (clash yes) };
  always = λ p s event h. (steps_move p s event h).holds;
  never_falls = λ p s event h e. (steps_move p s event h).falls e;
}
