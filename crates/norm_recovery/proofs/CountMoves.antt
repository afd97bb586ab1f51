-- What the events of a steady session leave of what counts its turns: watermarks that ended, flushes, and what is new.
use Rattle.std.proofs.Common.{◌≡◌, ℕ, suc, ◌+◌, ◌<◌, ◌≤◌, cond, List, [], ◌∷◌, ◌++◌, length, map, filter, Bool, true, false, Option, None, Some, Result, Ok, Err, refl, sym, ap, ◌∙◌, subst, arith, inl, inr, append-nil, append_assoc}
use Rattle.std.specs.Prelude.{◌==◌, ◌&&◌, ◌⊎◌, not, find, nat_lt, nat_le}
use Rattle.std.proofs.lemmas.Bool.Decides.{Decides-eqb}
use Rattle.std.proofs.lemmas.List.{length-append, length-map, map-append}
use Rattle.std.proofs.lemmas.List.Elements.{filter-append}
use Rattle.std.proofs.lemmas.Option.{none-some}
use Rattle.norm_base.specs.Settings.{Settings}
use Rattle.norm_base.specs.declared.kinds.Kind.{Kind}
use Rattle.norm_base.specs.declared.kinds.Kind.TheVariants as kind
use Rattle.norm_base.specs.declared.node.Origin.{Origin}
use Rattle.fec_plan.specs.Points.{Point}
use Rattle.fec_plan.specs.declared.position.Position.{Position}
use Rattle.norm_ext.specs.Asking.{item_named}
use Rattle.norm_ext.specs.Message.{Message, Nack, Ack, AckContent, Mark as Marks, Unread}
use Rattle.norm_ext.specs.Reading.{decoded}
use Rattle.norm_ext.specs.Requests.{Request}
use Rattle.norm_order.specs.Entries.{Object, Whole, Entry}
use Rattle.norm_order.specs.Sets.{with_member}
use Rattle.norm_order.specs.Shapes.{Shape, shape_of, shapes_of, is_source, last_source}
use Rattle.norm_send_rules.specs.Commanding.{commanded, answered}
use Rattle.norm_send_rules.specs.Enqueuing.{object_fault, joined}
use Rattle.norm_send_rules.specs.Hearing.{listed_past, rises, credited_by, joined_round, nack_counts, ack_counts, message_heard, heard}
use Rattle.norm_send_rules.specs.InWindow.{last_index, current_shapes, stands_behind}
use Rattle.norm_send_rules.specs.Marking.{is_no_quorum, most_open, with_watermark, watermark_at, cut_and_marked}
use Rattle.norm_send_rules.specs.SenderState.{SenderState, Instance, Watermark}
use Rattle.norm_send_rules.specs.Sending.{new_of, new_from}
use Rattle.norm_send_rules.specs.Telling.{told, past_news, done_news, listing_of}
use Rattle.norm_send_rules.specs.Waiting.{may_wait}
use Rattle.norm_send_rules.specs.Wants.{want_before}
use Rattle.norm_send_rules.specs.Watermarks.{is_open, is_met, oldest, keeps_oldest, counted_anew, ended_with, settled, open_watermarks, watermark_of}
use Rattle.norm_send_rules.specs.declared.fault.EnqueueFault.{EnqueueFault}
use Rattle.norm_send_rules.specs.declared.fault.MarkFault.TheVariants.{TooMany, Quorum, NothingEnqueued}
use Rattle.norm_send_rules.specs.declared.fault.SendFault.{SendFault}
use Rattle.norm_send_rules.specs.declared.fault.SendFault.TheVariants.{Enqueue, Mark}
use Rattle.norm_send_rules.specs.declared.job.Job.{Job}
use Rattle.norm_send_rules.specs.declared.job.Job.TheVariants as job
use Rattle.norm_send_rules.specs.declared.job.Receipt.{Receipt}
use Rattle.norm_send_rules.specs.declared.job.Receipt.TheVariants as receipt
use Rattle.norm_send_rules.specs.declared.news.News.{News}
use Rattle.norm_send_rules.specs.declared.news.Outcome.TheVariants.{Satisfied}
use Rattle.norm_send_rules.specs.declared.want.Want.{Want}
use Rattle.norm_safety.proofs.EntryLemmas.{clash}
use Rattle.norm_laws.proofs.WholeOrders.{AreWhole, none_open, cut_nothing}
use Rattle.norm_recovery.specs.RunsOut.{all_new}
use Rattle.norm_recovery.proofs.AskedMoves.{ends_by, new_mark, with_mark}
use Rattle.norm_recovery.proofs.SteadyJobs.{IsPlainJob}

-- ---- watermarks that ended

abbrev is_ended : Watermark → Bool
is_ended w = not (is_open w)

-- how many ended
unfoldable pub ended_in : List Watermark → ℕ
ended_in ws = length (filter is_ended ws)

-- If some are satisfied, more ended; or none was.
ended_more : (test : Watermark → Bool) (ws : List Watermark) → (ended_in ws < ended_in (map (ends_by test) ws)) ⊎ (map (ends_by test) ws ≡ ws)
unfolding ended_in
ended_more test [] = inr refl
ended_more test (w ∷ ws) = go (is_open w) (test w) refl (ended_more test ws)
  where
    rest : List Watermark
    rest = map (ends_by test) ws

    go : (a b : Bool) → is_open w ≡ a → (length (filter is_ended ws) < length (filter is_ended (map (ends_by test) ws))) ⊎ (map (ends_by test) ws ≡ ws)
        → (length (cond (not (is_open w)) (w ∷ filter is_ended ws) (filter is_ended ws))
        < length (filter is_ended (cond (a && b) (ended_with Satisfied w) w ∷ map (ends_by test) ws)))
        ⊎ (cond (a && b) (ended_with Satisfied w) w ∷ map (ends_by test) ws ≡ w ∷ ws)
    go true true is more = inl (by more was)
      where
        was : length (cond (not (is_open w)) (w ∷ filter is_ended ws) (filter is_ended ws)) ≡ length (filter is_ended ws)
        was = ap (λ (c : Bool). length (cond (not c) (w ∷ filter is_ended ws) (filter is_ended ws))) is

        by : (length (filter is_ended ws) < length (filter is_ended (map (ends_by test) ws))) ⊎ (map (ends_by test) ws ≡ ws)
            → length (cond (not (is_open w)) (w ∷ filter is_ended ws) (filter is_ended ws)) ≡ length (filter is_ended ws)
            → length (cond (not (is_open w)) (w ∷ filter is_ended ws) (filter is_ended ws)) < suc (length (filter is_ended (map (ends_by test) ws)))
        by (inl lt) z = omega (arith, lt, z)
        by (inr same) z = (let e = ap (λ (vs : List Watermark). length (filter is_ended vs)) same in omega (arith, e, z))
    go true false is (inl lt) = inl (keeps (is_open w) lt)
      where
        keeps : (c : Bool) → length (filter is_ended ws) < length (filter is_ended (map (ends_by test) ws))
            → length (cond (not c) (w ∷ filter is_ended ws) (filter is_ended ws)) < length (cond (not c) (w ∷ filter is_ended (map (ends_by test) ws)) (filter is_ended (map (ends_by test) ws)))
        keeps true lt = lt
        keeps false lt = omega (arith, lt)
    go true false is (inr same) = inr (ap (λ (vs : List Watermark). w ∷ vs) same)
    go false b is (inl lt) = inl (keeps (is_open w) lt)
      where
        keeps : (c : Bool) → length (filter is_ended ws) < length (filter is_ended (map (ends_by test) ws))
            → length (cond (not c) (w ∷ filter is_ended ws) (filter is_ended ws)) < length (cond (not c) (w ∷ filter is_ended (map (ends_by test) ws)) (filter is_ended (map (ends_by test) ws)))
        keeps true lt = lt
        keeps false lt = omega (arith, lt)
    go false b is (inr same) = inr (ap (λ (vs : List Watermark). w ∷ vs) same)

ended_append : (ws more : List Watermark) → ended_in (ws ++ more) ≡ ended_in ws + ended_in more
unfolding ended_in
ended_append ws more = ap length (filter-append is_ended ws more) ∙ length-append (filter is_ended ws) (filter is_ended more)

-- ---- what an event makes of the oldest watermark and its flushes

-- More ended; or the oldest stays with its flushes; or there was none, and nothing is flushed.
pub data MarksOn (s t : SenderState) : Type 0 where
  More : ended_in s.watermarks < ended_in t.watermarks → MarksOn s t
  Same : oldest t ≡ oldest s → t.flushes ≡ s.flushes → ended_in t.watermarks ≡ ended_in s.watermarks → MarksOn s t
  Begins : oldest s ≡ None → t.flushes ≡ 0 → ended_in t.watermarks ≡ ended_in s.watermarks → MarksOn s t

-- the rest: what was flushed last, what is next, when it may go, and what joined the order
pub record CountsOn (s t : SenderState) : Type 0 where
  pub marks : MarksOn s t
  pub last : t.last_flush ≡ s.last_flush
  pub next : t.next ≡ s.next
  pub send : t.next_send ≡ s.next_send
  pub more : List Entry
  pub order : t.current.order ≡ s.current.order ++ more

pub same_counts : (s t : SenderState) → t.watermarks ≡ s.watermarks → t.flushes ≡ s.flushes → t.last_flush ≡ s.last_flush → t.next ≡ s.next → t.next_send ≡ s.next_send
    → (more : List Entry) → t.current.order ≡ s.current.order ++ more → CountsOn s t
same_counts s t marks flushes last next send more order = record {
  marks = Same (ap (λ (ws : List Watermark). find is_open ws) marks) flushes (ap ended_in marks);
  last = last;
  next = next;
  send = send;
  more = more;
  order = order;
}

pub itself_counts : (s : SenderState) → CountsOn s s
itself_counts s = same_counts s s refl refl refl refl refl [] (sym (append-nil s.current.order))

find_front : (ws more : List Watermark) (v : Watermark) → find is_open ws ≡ Some v → find is_open (ws ++ more) ≡ Some v
find_front [] more v e = absurd (none-some v e)
find_front (w ∷ ws) more v e = go (is_open w) e (find_front ws more v)
  where
    go : (b : Bool) → cond b (Some w) (find is_open ws) ≡ Some v → (find is_open ws ≡ Some v → find is_open (ws ++ more) ≡ Some v)
        → cond b (Some w) (find is_open (ws ++ more)) ≡ Some v
    go true e next = e
    go false e next = next e

settled_marks : (s r : SenderState) (more : List Watermark) → r.watermarks ≡ s.watermarks ++ more → ended_in more ≡ 0 → r.flushes ≡ s.flushes
    → MarksOn s (counted_anew s (settled r))
settled_marks s r more marks none flushes = by (ended_more (is_met r) (s.watermarks ++ more))
  where
    made : (settled r).watermarks ≡ map (ends_by (is_met r)) (s.watermarks ++ more)
    made = ap (λ (ws : List Watermark). map (ends_by (is_met r)) ws) marks

    count : ended_in (s.watermarks ++ more) ≡ ended_in s.watermarks
    count = (let both = ended_append s.watermarks more in omega (arith, both, none))

    anew_marks : (counted_anew s (settled r)).watermarks ≡ (settled r).watermarks
    anew_marks = go (keeps_oldest s (settled r))
      where
        go : (b : Bool) → (elim b as (λ _. SenderState) [ true ↦ settled r | false ↦ record (settled r) { flushes = 0 } ]).watermarks ≡ (settled r).watermarks
        go true = refl
        go false = refl

    keeps_by : Option Watermark → Option Watermark → Bool
    keeps_by now was = elim now [ Some w ↦ elim was [ Some v ↦ v.mark == w.mark | None ↦ false ] | None ↦ true ]

    by : (ended_in (s.watermarks ++ more) < ended_in (map (ends_by (is_met r)) (s.watermarks ++ more))) ⊎ (map (ends_by (is_met r)) (s.watermarks ++ more) ≡ s.watermarks ++ more)
        → MarksOn s (counted_anew s (settled r))
    by (inl lt) = More (let e = ap ended_in (anew_marks ∙ made) in omega (arith, lt, e, count))
    by (inr same) = old (oldest s) refl
      where
        stays : (counted_anew s (settled r)).watermarks ≡ s.watermarks ++ more
        stays = anew_marks ∙ made ∙ same

        same_count : ended_in (counted_anew s (settled r)).watermarks ≡ ended_in s.watermarks
        same_count = ap ended_in stays ∙ count

        u_oldest : oldest (settled r) ≡ find is_open (s.watermarks ++ more)
        u_oldest = ap (λ (ws : List Watermark). find is_open ws) (made ∙ same)

        kept : (b : Bool) → keeps_oldest s (settled r) ≡ b → b ≡ true → (counted_anew s (settled r)).flushes ≡ s.flushes
        kept true e is = ap (λ (c : Bool). (elim c as (λ _. SenderState) [ true ↦ settled r | false ↦ record (settled r) { flushes = 0 } ]).flushes) e ∙ flushes
        kept false e is = absurd (clash is)

        begun : keeps_oldest s (settled r) ≡ false → (counted_anew s (settled r)).flushes ≡ 0
        begun e = ap (λ (c : Bool). (elim c as (λ _. SenderState) [ true ↦ settled r | false ↦ record (settled r) { flushes = 0 } ]).flushes) e

        old : (o : Option Watermark) → oldest s ≡ o → MarksOn s (counted_anew s (settled r))
        old (Some v) e =
            let now = find_front s.watermarks more v e in
            let keeps : keeps_oldest s (settled r) ≡ true =
            ap (λ (x : Option Watermark). keeps_by x (oldest s)) (u_oldest ∙ now) ∙ ap (keeps_by (Some v)) e ∙ (Decides-eqb v.mark v.mark).1 refl in
            Same (ap (λ (ws : List Watermark). find is_open ws) stays ∙ now ∙ sym e) (kept (keeps_oldest s (settled r)) refl keeps) same_count
        old None e = first (find is_open (s.watermarks ++ more)) refl
          where
            first : (x : Option Watermark) → find is_open (s.watermarks ++ more) ≡ x → MarksOn s (counted_anew s (settled r))
            first None f =
                Same (ap (λ (ws : List Watermark). find is_open ws) stays ∙ f ∙ sym e)
                (kept (keeps_oldest s (settled r)) refl (ap (λ (x : Option Watermark). keeps_by x (oldest s)) (u_oldest ∙ f))) same_count
            first (Some w) f =
                Begins e (begun (ap (λ (x : Option Watermark). keeps_by x (oldest s)) (u_oldest ∙ f) ∙ ap (keeps_by (Some w)) e)) same_count

-- the count begins anew or not
settled_counts : (s r : SenderState) (more : List Watermark) → r.watermarks ≡ s.watermarks ++ more → ended_in more ≡ 0 → r.flushes ≡ s.flushes → r.last_flush ≡ s.last_flush
    → r.next ≡ s.next → r.next_send ≡ s.next_send → r.current ≡ s.current → CountsOn s (counted_anew s (settled r))
settled_counts s r more marks none flushes last next send current = record {
  marks = settled_marks s r more marks none flushes;
  last = field (λ (x : SenderState). x.last_flush) refl ∙ last;
  next = field (λ (x : SenderState). x.next) refl ∙ next;
  send = field (λ (x : SenderState). x.next_send) refl ∙ send;
  more = [];
  order = field (λ (x : SenderState). x.current.order) refl ∙ ap (λ (i : Instance). i.order) current ∙ sym (append-nil s.current.order);
}
  where
    field : {X : Type 0} (f : SenderState → X) → f (record (settled r) { flushes = 0 }) ≡ f (settled r) → f (counted_anew s (settled r)) ≡ f (settled r)
    field f e = go (keeps_oldest s (settled r)) e
      where
        go : (b : Bool) → f (record (settled r) { flushes = 0 }) ≡ f (settled r)
            → f (elim b as (λ _. SenderState) [ true ↦ settled r | false ↦ record (settled r) { flushes = 0 } ]) ≡ f (settled r)
        go true e = refl
        go false e = e

-- what a sender hears
heard_counts : {E : Type 0} (p : Settings) (s : SenderState) (now : ℕ) (read : Result Message E) → CountsOn s (message_heard p s now read)
unfolding ended_in
heard_counts p s now (Ok (Nack m)) = go (nack_counts p s m)
  where
    joins : (requests : List Request) → CountsOn s (joined_round p s now requests)
    joins [] = itself_counts s
    joins (r ∷ requests) = same_counts s (joined_round p s now (r ∷ requests)) refl refl refl refl refl [] (sym (append-nil s.current.order))

    go : (b : Bool) → CountsOn s (elim b as (λ _. SenderState) [ true ↦ joined_round p s now m.requests | false ↦ s ])
    go true = joins m.requests
    go false = itself_counts s
heard_counts p s now (Ok (Ack m)) = go (ack_counts p s m) m.content
  where
    by_rise : (due : Position) (b : Bool) → CountsOn s (elim b as (λ _. SenderState) [
      | true ↦ counted_anew s (settled (record s { listings = map (listed_past m.source due) s.listings; untold_nodes = with_member nat_lt m.source s.untold_nodes }))
      | false ↦ s
    ])
    by_rise due true = settled_counts s (record s { listings = map (listed_past m.source due) s.listings; untold_nodes = with_member nat_lt m.source s.untold_nodes }) []
        (sym (append-nil s.watermarks)) refl refl refl refl refl refl
    by_rise due false = itself_counts s

    by_source : (due : Position) (b : Bool) → CountsOn s (elim b as (λ _. SenderState) [
      | true ↦ elim (rises m.source due s) [
        | true ↦ counted_anew s (settled (record s { listings = map (listed_past m.source due) s.listings; untold_nodes = with_member nat_lt m.source s.untold_nodes }))
        | false ↦ s
      ]
      | false ↦ s
    ])
    by_source due true = by_rise due (rises m.source due s)
    by_source due false = itself_counts s

    by_name : (o : Option Position) → CountsOn s (credited_by p m.source o s)
    by_name None = itself_counts s
    by_name (Some due) = by_source due (is_source (current_shapes p s) due)

    go : (b : Bool) (c : AckContent) → CountsOn s (elim b as (λ _. SenderState) [
      | true ↦ elim c [ Marks item ↦ credited_by p m.source (item_named p (last_index s) item) s | Unread octets ↦ s ]
      | false ↦ s
    ])
    go true (Marks item) = by_name (item_named p (last_index s) item)
    go true (Unread octets) = itself_counts s
    go false c = itself_counts s
heard_counts p s now _ = itself_counts s

pub hears_counts : (p : Settings) (s : SenderState) (octets : List ℕ) (now : ℕ) → CountsOn s (heard p s octets now)
hears_counts p s octets now = heard_counts p s now (decoded octets)

pub told_counts : (s : SenderState) → CountsOn s (told s).0
told_counts s = go s.untold_nodes s.untold_marks
  where
    by : List ℕ → List ℕ → SenderState × Option News
    by nodes marks = elim nodes [
      | node ∷ others ↦ (record s { untold_nodes = others }, past_news node (listing_of s node))
      | [] ↦ elim marks [
        | mark ∷ others ↦ (record s { untold_marks = others }, done_news s mark (watermark_of s mark))
        | [] ↦ (s, None)
      ]
    ]

    go : (nodes marks : List ℕ) → CountsOn s (by nodes marks).0
    go (node ∷ nodes) marks = same_counts s (record s { untold_nodes = nodes }) refl refl refl refl refl [] (sym (append-nil s.current.order))
    go [] (mark ∷ marks) = same_counts s (record s { untold_marks = marks }) refl refl refl refl refl [] (sym (append-nil s.current.order))
    go [] [] = itself_counts s

-- ---- commands

-- one for a mark
abbrev pub made_by : Job → ℕ
made_by (job.Mark quorum) = 1
made_by _ = 0

-- What a command leaves, and answers: an object is refused; a mark is, for want of room only if so many watermarks are open; or it is accepted, and makes a
-- watermark if it is a mark.
pub data CommandOn (s : SenderState) (n : ℕ) (step : SenderState × Result Receipt SendFault) : Type 0 where
  Refuses : (fault : EnqueueFault) → step.1 ≡ Err (Enqueue fault) → CommandOn s n step
  Declines : (fault : SendFault) → step ≡ (s, Err fault) → (may_wait fault ≡ true → nat_le most_open (length (open_watermarks s)) ≡ true) → CommandOn s n step
  Accepts : (gave : Receipt) → step.1 ≡ Ok gave → CountsOn s step.0 → length step.0.watermarks ≡ length s.watermarks + n → CommandOn s n step

anew_many : (s t : SenderState) → length (counted_anew s t).watermarks ≡ length t.watermarks
anew_many s t = go (keeps_oldest s t)
  where
    go : (b : Bool) → length (elim b as (λ _. SenderState) [ true ↦ t | false ↦ record t { flushes = 0 } ]).watermarks ≡ length t.watermarks
    go true = refl
    go false = refl

marks_many : (s : SenderState) (by : Origin) (quorum : Option ℕ) (at : Position) → length (with_watermark s by quorum at).watermarks ≡ length s.watermarks + 1
marks_many s by quorum at =
    anew_many s (settled (with_mark s by quorum at))
    ∙ length-map (with_mark s by quorum at).watermarks (λ (w : Watermark). cond (is_open w && is_met (with_mark s by quorum at) w) (ended_with Satisfied w) w)
    ∙ length-append s.watermarks (new_mark s by quorum at ∷ [])

mark_counts : (s : SenderState) (by : Origin) (quorum : Option ℕ) (at : Position) → CountsOn s (with_watermark s by quorum at)
unfolding ended_in
mark_counts s by quorum at = settled_counts s (with_mark s by quorum at) (new_mark s by quorum at ∷ []) refl refl refl refl refl refl refl

joined_counts : (p : Settings) (by : Origin) (object : Object) (s : SenderState) → CountsOn s (joined p by object s)
joined_counts p by object s = same_counts s (joined p by object s) refl refl refl refl refl (record { by = by; object = object } ∷ []) refl

pub command_counts : (p : Settings) (s : SenderState) (by : Origin) (given : Job) → IsPlainJob given → AreWhole s.current.order → CommandOn s (made_by given) (commanded p s by given)
command_counts p s by given is whole = go given is
  where
    enqueues : (kind : Kind) (info : Option (List ℕ)) (octets : List ℕ) (found : Option EnqueueFault) → CommandOn s 0 (answered Enqueue (elim found [
      | Some fault ↦ (s, Err fault)
      | None ↦ (joined p by (Whole kind info octets) s, Ok (receipt.Object (length s.current.order) (length octets)))
    ]))
    enqueues kind info octets (Some fault) = Refuses fault refl
    enqueues kind info octets None =
        Accepts (receipt.Object (length s.current.order) (length octets)) refl (joined_counts p by (Whole kind info octets) s) (omega arith)

    room : (quorum : Option ℕ) (at : Position) (full : Bool) → nat_le most_open (length (open_watermarks s)) ≡ full → CommandOn s 1 (answered Mark (elim full [
      | true ↦ (s, Err (TooMany (length (open_watermarks s))))
      | false ↦ (with_watermark s by quorum at, Ok (receipt.Mark (length s.watermarks + 1) at))
    ]))
    room quorum at true e = Declines (Mark (TooMany (length (open_watermarks s)))) refl (λ w. e)
    room quorum at false e = Accepts (receipt.Mark (length s.watermarks + 1) at) refl (mark_counts s by quorum at) (marks_many s by quorum at)

    found : (quorum : Option ℕ) (at : Option Position) → CommandOn s 1 (answered Mark (watermark_at s by quorum at))
    found quorum None = Declines (Mark NothingEnqueued) refl (λ w. absurd (clash w))
    found quorum (Some at) = room quorum at (nat_le most_open (length (open_watermarks s))) refl

    mark : (quorum : Option ℕ) → CommandOn s 1 (answered Mark (cut_and_marked p s by quorum))
    mark quorum =
        let C : SenderState → Type 0 = λ u. CommandOn s 1 (answered Mark (watermark_at u by quorum (last_source (current_shapes p u)))) in
        subst C (sym (cut_nothing p s (none_open s.current.order whole))) (found quorum (last_source (current_shapes p s)))

    by_quorum : (q : ℕ) (no : Bool) → CommandOn s 1 (answered Mark (elim no [ true ↦ (s, Err (Quorum q)) | false ↦ cut_and_marked p s by (Some q) ]))
    by_quorum q true = Declines (Mark (Quorum q)) refl (λ w. absurd (clash w))
    by_quorum q false = mark (Some q)

    go : (x : Job) → IsPlainJob x → CommandOn s (made_by x) (commanded p s by x)
    go (job.Data info bytes) is = enqueues kind.Data info bytes (object_fault p s info bytes)
    go (job.File name bytes) is = enqueues kind.File (Some name) bytes (object_fault p s (Some name) bytes)
    go job.Open is = absurd is
    go (job.Write bytes) is = absurd is
    go job.Close is = absurd is
    go (job.Mark None) is = mark None
    go (job.Mark (Some q)) is = by_quorum q (is_no_quorum p q)
    go (job.Restart instance) is = absurd is
    go (job.Strike node) is = absurd is

-- ---- what is new

filter_few : (test : Want → Bool) (ws : List Want) → length (filter test ws) ≤ length ws
filter_few test [] = omega arith
filter_few test (w ∷ ws) = go (test w) (filter_few test ws)
  where
    go : (b : Bool) → length (filter test ws) ≤ length ws → length (cond b (w ∷ filter test ws) (filter test ws)) ≤ suc (length ws)
    go true le = omega (arith, le)
    go false le = omega (arith, le)

new_append : (p : Settings) (index : ℕ) (xs ys : List Shape) → (rest : List Want) × (new_from p index (xs ++ ys) ≡ new_from p index xs ++ rest)
unfolding new_from
new_append p index [] ys = (new_from p index ys, refl)
new_append p index (x ∷ xs) ys =
    let more = new_append p (index + 1) xs ys in
    (more.0, ap (λ (ws : List Want). new_of p index x ++ ws) more.1 ∙ sym (append_assoc (new_of p index x) (new_from p (index + 1) xs) more.0))

-- how much is new of a sender's order, sent or not
abbrev pub fresh_in : Settings → SenderState → ℕ
fresh_in p s = length (new_from p 0 (current_shapes p s))

-- what joins the order makes no more new than it is
pub new_more : (p : Settings) (s t : SenderState) (more : List Entry) → t.current.order ≡ s.current.order ++ more → t.next ≡ s.next → t.current.drop ≡ s.current.drop
    → length (all_new p t) + fresh_in p s ≤ length (all_new p s) + fresh_in p t
new_more p s t more order next drop =
    let all = new_append p 0 (shapes_of p s.current.order) (shapes_of p more) in
    let split : new_from p 0 (current_shapes p t) ≡ new_from p 0 (current_shapes p s) ++ all.0 =
    ap (λ (o : List Entry). new_from p 0 (shapes_of p o)) order
    ∙ ap (new_from p 0) (map-append (λ (x : Entry). shape_of p x.object) s.current.order more) ∙ all.1 in
    let T : Want → Bool = λ w. not (want_before w s.next) && stands_behind s.current.drop w in
    let tests : all_new p t ≡ filter T (new_from p 0 (current_shapes p t)) =
    ap (λ (n : Want). filter (λ w. not (want_before w n) && stands_behind t.current.drop w) (new_from p 0 (current_shapes p t))) next
    ∙ ap (λ (d : Point). filter (λ w. not (want_before w s.next) && stands_behind d w) (new_from p 0 (current_shapes p t))) drop in
    let n = ap length (tests ∙ ap (filter T) split ∙ filter-append T (new_from p 0 (current_shapes p s)) all.0)
    ∙ length-append (filter T (new_from p 0 (current_shapes p s))) (filter T all.0) in
    let f = ap length split ∙ length-append (new_from p 0 (current_shapes p s)) all.0 in
    let few = filter_few T all.0 in
    omega (arith, n, f, few)
