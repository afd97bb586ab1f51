-- Each step of the sender keeps its wants in order, of the order, and in the window.
use Rattle.std.proofs.Common.{◌≡◌, ℕ, zero, suc, ◌+◌, ◌%◌, List, [], ◌∷◌, ◌++◌, length, map, Bool, true, false, Option, None, Some, Result, Ok, Err, refl, sym, subst}
use Rattle.std.specs.Prelude.{filter, nat_lt, nat_le, unwrap_or, ◌==◌}
use Rattle.std.proofs.Math.Nat.{zero-mod}
use Rattle.norm_base.specs.Settings.{Settings}
use Rattle.norm_base.specs.declared.kinds.Kind.TheVariants as kind
use Rattle.norm_base.specs.declared.node.Origin.{Origin}
use Rattle.fec_plan.specs.declared.position.Position.{Position}
use Rattle.norm_ext.specs.Message.{Message, Nack, Ack, AckContent, Mark, Unread}
use Rattle.norm_ext.specs.Asking.{item_named}
use Rattle.norm_ext.specs.Reading.{decoded}
use Rattle.norm_ext.specs.Requests.{Request}
use Rattle.norm_order.specs.Entries.{Part, Write, Cut, End, Whole, Stream}
use Rattle.norm_order.specs.Segments.{since_cut, unclosed}
use Rattle.norm_order.specs.Shapes.{last_source, is_source}
use Rattle.norm_order.specs.Sets.{with_member}
use Rattle.norm_send_rules.specs.SenderState.{SenderState, Watermark, Round}
use Rattle.norm_send_rules.specs.SenderStep as events
use Rattle.norm_send_rules.specs.SenderStep.{SenderEvent, sender_step}
use Rattle.norm_send_rules.specs.InWindow.{stands_behind, last_index, current_shapes}
use Rattle.norm_send_rules.specs.Watermarks.{counted_anew, settled, end_where, open_watermarks, pending, watermark_of}
use Rattle.norm_send_rules.specs.Enqueuing.{open_stream, object_fault, joined}
use Rattle.norm_send_rules.specs.Streaming.{open_fault, with_parts, parts_now, write_fault, close_fault, grown, cut}
use Rattle.norm_send_rules.specs.Marking.{is_no_quorum, most_open, watermark_at, with_watermark, cut_and_marked}
use Rattle.norm_send_rules.specs.Restarting.{is_used, begun_anew}
use Rattle.norm_send_rules.specs.Striking.{strike_fault, without_node, struck_off}
use Rattle.norm_send_rules.specs.Commanding.{commanded}
use Rattle.norm_send_rules.specs.Closing.{asked_in, round_closed}
use Rattle.norm_send_rules.specs.Hearing.{nack_counts, ack_counts, joined_round, listed_past, rises, credited, credited_at, credited_by, message_heard, heard}
use Rattle.norm_send_rules.specs.Sending.{behind, noted}
use Rattle.norm_send_rules.specs.Flushing.{expired}
use Rattle.norm_send_rules.specs.Ticking.{closed_where_due}
use Rattle.norm_send_rules.specs.Telling.{told, past_news, done_news, listing_of}
use Rattle.norm_send_rules.specs.declared.job.Job.{Job}
use Rattle.norm_send_rules.specs.declared.job.Job.TheVariants as job
use Rattle.norm_send_rules.specs.declared.news.News.{News}
use Rattle.norm_send_rules.specs.declared.news.Outcome.TheVariants.{Expired}
use Rattle.norm_send_rules.specs.declared.want.Want.{Want}
use Rattle.norm_send_rules.specs.declared.want.Want.TheVariants.{Info, Symbol}
use Rattle.norm_send_rules.specs.Laws.{Rise, is_of_order, WantsHold, WantLaws}
use Rattle.norm_send_rules.proofs.ClosingLemmas.{Each, rise_more, each_more, kept_passes}
use Rattle.norm_send_rules.proofs.ShapeLemmas.{Blocks, blocks_of, shapes_parity}
use Rattle.norm_send_rules.proofs.AskingLemmas.{all_filtered, asked_in_order}
use Rattle.norm_send_rules.proofs.TickLemmas.{TickKeeps, closed_keep, tick_keeps}
use Rattle.norm_send_rules.proofs.WantLemmas.{Same, same_by, either, same_step, anew, hold_same, joins, unless, goes_on, grown_holds, no_row}

either_holds : {A : Type 0} (p : Settings) (b : Bool) (t u : SenderState × A) → WantsHold p t.0 → WantsHold p u.0 → WantsHold p (either b t u).0
either_holds p true t u h k = h
either_holds p false t u h k = k

-- Commands.

cut_holds : (p : Settings) → Blocks p → (s : SenderState) → WantsHold p s → WantsHold p (cut p s)
unfolding since_cut
cut_holds p blocks s h = go (open_stream s) refl
  where
    cut_where : ℕ → List Part → SenderState
    cut_where n parts = elim n [ zero ↦ s | suc k ↦ with_parts (parts ++ Cut ∷ []) s ]

    some : (parts : List Part) → open_stream s ≡ Some parts → (n : ℕ) → WantsHold p (cut_where n parts)
    some parts e zero = h
    some parts e (suc n) = goes_on p blocks s parts (Cut ∷ []) e h

    go : (found : Option (List Part)) → open_stream s ≡ found → WantsHold p (cut_where (unclosed p.e (unwrap_or found [])) (unwrap_or found []))
    go None e = subst (λ (n : ℕ). WantsHold p (cut_where n [])) (sym (zero-mod p.e)) h
    go (Some parts) e = some parts e (unclosed p.e parts)

watermark_holds : (p : Settings) (s : SenderState) (by : Origin) (quorum : Option ℕ) (found : Option Position) → WantsHold p s
    → WantsHold p (watermark_at s by quorum found).0
watermark_holds p s by quorum None h = h
watermark_holds p s by quorum (Some at) h =
    let w : Watermark = record { mark = length s.watermarks + 1; by = by; at = at; quorum = quorum; ended = None } in
    let more = record s { watermarks = s.watermarks ++ w ∷ [] } in
    hold_same p s (watermark_at s by quorum (Some at)).0
    (same_step (nat_le most_open (length (open_watermarks s))) s (s, _) (with_watermark s by quorum at, _) (refl, refl) (anew s s (settled more) (refl, refl))) h

mark_holds : (p : Settings) → Blocks p → (s : SenderState) (by : Origin) (quorum : Option ℕ) → WantsHold p s → WantsHold p (cut_and_marked p s by quorum).0
mark_holds p blocks s by quorum h = watermark_holds p (cut p s) by quorum (last_source (current_shapes p (cut p s))) (cut_holds p blocks s h)

commands_hold : (p : Settings) → Blocks p → (s : SenderState) (by : Origin) (job : Job) → WantsHold p s → WantsHold p (commanded p s by job).0
commands_hold p blocks s by (job.Data info bytes) h =
    unless p (object_fault p s info bytes) s (joined p by (Whole kind.Data info bytes) s) Err (Ok _) h (λ e. joins p blocks by (Whole kind.Data info bytes) s h)
commands_hold p blocks s by (job.File name bytes) h =
    unless p (object_fault p s (Some name) bytes) s (joined p by (Whole kind.File (Some name) bytes) s) Err (Ok _) h (λ e. joins p blocks by (Whole kind.File (Some name) bytes) s h)
commands_hold p blocks s by job.Open h =
    unless p (open_fault p s) s (joined p by (Stream []) s) Err (Ok _) h (λ e. joins p blocks by (Stream []) s h)
commands_hold p blocks s by (job.Write bytes) h =
    let parts = parts_now s ++ Write by bytes ∷ [] in
    unless p (write_fault p s bytes parts) s (grown p s parts) Err (Ok _) h (λ e.
    let first = no_row _ _ _ e in
    let second = no_row _ _ _ first.1 in
    grown_holds p blocks s (Write by bytes ∷ []) (no_row _ _ _ second.1).0 h)
commands_hold p blocks s by job.Close h =
    let parts = parts_now s ++ End ∷ [] in
    unless p (close_fault p s parts) s (grown p s parts) Err (Ok _) h (λ e. grown_holds p blocks s (End ∷ []) (no_row _ _ _ e).0 h)
commands_hold p blocks s by (job.Mark None) h = mark_holds p blocks s by None h
commands_hold p blocks s by (job.Mark (Some q)) h = either_holds p (is_no_quorum p q) (s, _) (cut_and_marked p s by (Some q)) h (mark_holds p blocks s by (Some q) h)
commands_hold p blocks s by (job.Restart instance) h =
    either_holds p (is_used s instance) (s, _) (begun_anew instance s, _) h (record { rise = tt; of_order = tt; in_window = tt })
commands_hold p blocks s by (job.Strike node) h =
    unless p (strike_fault s node) s (struck_off node s) Err (Ok _) h
    (λ e. hold_same p s (struck_off node s) (anew s s (settled (without_node node s)) (refl, refl)) h)

-- Datagrams.

round_same : (p : Settings) (s : SenderState) (now : ℕ) (requests : List Request) → Same s (joined_round p s now requests)
round_same p s now [] = (refl, refl)
round_same p s now (r ∷ requests) = (refl, refl)

credited_same : (node : ℕ) (at : Position) (s : SenderState) → Same s (credited node at s)
credited_same node at s =
    let risen = record s { listings = map (listed_past node at) s.listings; untold_nodes = with_member nat_lt node s.untold_nodes } in
    same_by (rises node at s) s (counted_anew s (settled risen)) s (anew s s (settled risen) (refl, refl)) (refl, refl)

credited_at_same : (p : Settings) (node : ℕ) (at : Position) (s : SenderState) → Same s (credited_at p node at s)
credited_at_same p node at s = same_by (is_source (current_shapes p s) at) s (credited node at s) s (credited_same node at s) (refl, refl)

credited_by_same : (p : Settings) (node : ℕ) (at : Option Position) (s : SenderState) → Same s (credited_by p node at s)
credited_by_same p node None s = (refl, refl)
credited_by_same p node (Some at) s = credited_at_same p node at s

pub heard_same : {E : Type 0} (p : Settings) (s : SenderState) (now : ℕ) (read : Result Message E) → Same s (message_heard p s now read)
heard_same p s now (Ok (Nack m)) =
    same_by (nack_counts p s m) s (joined_round p s now m.requests) s (round_same p s now m.requests) (refl, refl)
heard_same p s now (Ok (Ack m)) = same_by (ack_counts p s m) s _ s (go m.content) (refl, refl)
  where
    go : (content : AckContent) → Same s (elim content [
      | Mark item ↦ credited_by p m.source (item_named p (last_index s) item) s
      | Unread octets ↦ s
    ])
    go (Mark item) = credited_by_same p m.source (item_named p (last_index s) item) s
    go (Unread octets) = (refl, refl)
heard_same p s now _ = (refl, refl)

-- Ticks.

closed_holds : (p : Settings) → Blocks p → (r : Round) (s : SenderState) → WantsHold p s → WantsHold p (round_closed p r s)
closed_holds p blocks r s h =
    let asked = asked_in p s r.asked in
    let kept = filter (stands_behind s.current.drop) asked in
    let of_order = is_of_order (current_shapes p s) in
    record {
      rise = rise_more kept s.wants h.rise;
      of_order = each_more of_order kept s.wants (all_filtered (λ w. of_order w ≡ true) (stands_behind s.current.drop) asked
          (asked_in_order p s r.asked (shapes_parity p blocks s.current.order))) h.of_order;
      in_window = each_more (stands_behind s.current.drop) kept s.wants (kept_passes (stands_behind s.current.drop) asked) h.in_window;
    }

pub noted_same : (w : Want) (s : SenderState) → Same s (noted w s)
noted_same (Info index) s = (refl, refl)
noted_same (Symbol at) s = (refl, refl)

pub expired_same : (mark : ℕ) (s : SenderState) → Same s (expired mark s)
expired_same mark s = anew s s (end_where (λ w. w.mark == mark) (λ w. Expired (length (pending s w.at))) s) (refl, refl)

repaired_holds : (p : Settings) (s : SenderState) (w : Want) (wants : List Want) → s.wants ≡ w ∷ wants → WantsHold p s → WantsHold p (record s { wants = wants })
repaired_holds p s w wants e h =
    let rise = subst Rise e h.rise in
    let of_order = subst (Each (is_of_order (current_shapes p s))) e h.of_order in
    let in_window = subst (Each (stands_behind s.current.drop)) e h.in_window in
    record { rise = rise.1; of_order = of_order.1; in_window = in_window.1 }

ticks_hold : (p : Settings) → Blocks p → TickKeeps p (WantsHold p)
ticks_hold p blocks = record {
  closes = λ s r h. closed_holds p blocks r s h;
  squelched = λ s h. hold_same p s (record s { squelch_due = false }) (refl, refl) h;
  repaired = λ s w wants e h. repaired_holds p s w wants e h;
  goes_on = λ s w e h. hold_same p s (record s { next = behind w }) (refl, refl) h;
  notes = λ s w h. hold_same p s (noted w s) (noted_same w s) h;
  flushes = λ s now h. hold_same p s (record s { flushes = s.flushes + 1; last_flush = Some now }) (refl, refl) h;
  expires = λ s w e h. hold_same p s (expired w.mark s) (expired_same w.mark s) h;
  spends = λ s moment h. hold_same p s (record s { next_send = moment; sequence = (s.sequence + 1) % 65536 }) (refl, refl) h;
}

pub due_holds : (p : Settings) → Blocks p → (now : ℕ) (s : SenderState) → WantsHold p s → WantsHold p (closed_where_due p now s)
due_holds p blocks now s h = closed_keep p (WantsHold p) (ticks_hold p blocks) now s h

-- News.

pub told_same : (s : SenderState) → Same s (told s).0
told_same s = go s.untold_nodes s.untold_marks
  where
    news : List ℕ → List ℕ → SenderState × Option News
    news nodes marks = elim nodes [
      | node ∷ others ↦ (record s { untold_nodes = others }, past_news node (listing_of s node))
      | [] ↦ elim marks [
        | mark ∷ others ↦ (record s { untold_marks = others }, done_news s mark (watermark_of s mark))
        | [] ↦ (s, None)
      ]
    ]

    go : (nodes marks : List ℕ) → Same s (news nodes marks).0
    go (node ∷ nodes) marks = (refl, refl)
    go [] (mark ∷ marks) = (refl, refl)
    go [] [] = (refl, refl)

pub step_holds : (p : Settings) → Blocks p → (s : SenderState) (event : SenderEvent) → WantsHold p s → WantsHold p (sender_step p s event).0
step_holds p blocks s (events.Commanded by job now) h = commands_hold p blocks s by job h
step_holds p blocks s (events.Delivered datagram now) h = hold_same p s (heard p s datagram now) (heard_same p s now (decoded datagram)) h
step_holds p blocks s (events.Ticked now) h = tick_keeps p (WantsHold p) (ticks_hold p blocks) s now h
step_holds p blocks s events.NewsAsked h = hold_same p s (told s).0 (told_same s) h

pub want_laws : WantLaws
want_laws = record {
  at_first = λ p instance. record { rise = tt; of_order = tt; in_window = tt };
  always = λ p s event range h. step_holds p (blocks_of p range) s event h;
}
