-- No more outcomes are told than there are watermarks: each step of a sender keeps that those told, those to be told and the open ones are no more.
use Rattle.std.proofs.Common.{◌≡◌, ℕ, zero, suc, ◌+◌, ◌≤◌, cond, List, [], ◌∷◌, ◌++◌, length, map, Bool, true, false, Option, None, Some, Result, Ok, Err, refl, ap, ◌∙◌, arith}
use Rattle.std.specs.Prelude.{filter, nat_lt, nat_le, ◌==◌, ◌&&◌}
use Rattle.std.proofs.lemmas.List.{length-append}
use Rattle.norm_base.specs.Settings.{Settings}
use Rattle.norm_base.specs.declared.kinds.Kind.TheVariants as kind
use Rattle.norm_base.specs.declared.node.Origin.{Origin}
use Rattle.fec_plan.specs.declared.position.Position.{Position}
use Rattle.norm_ext.specs.Asking.{item_named}
use Rattle.norm_ext.specs.Message.{Message, Nack, Ack, AckContent, Mark, Unread}
use Rattle.norm_ext.specs.Requests.{Request}
use Rattle.norm_order.specs.Entries.{Write, End, Cut, Whole, Stream}
use Rattle.norm_order.specs.Segments.{unclosed}
use Rattle.norm_order.specs.Sets.{with_member}
use Rattle.norm_order.specs.Shapes.{is_source, last_source}
use Rattle.norm_send_rules.specs.SenderState.{SenderState, Watermark, sender_opening}
use Rattle.norm_send_rules.specs.InWindow.{last_index, current_shapes}
use Rattle.norm_send_rules.specs.Watermarks.{is_open, open_watermarks, keeps_oldest, counted_anew, ended_with, end_where, told_later, settled, is_met, pending}
use Rattle.norm_send_rules.specs.Enqueuing.{object_fault, joined}
use Rattle.norm_send_rules.specs.Streaming.{open_fault, parts_now, with_parts, write_fault, close_fault, grown, cut}
use Rattle.norm_send_rules.specs.Marking.{is_no_quorum, most_open, with_watermark, watermark_at, cut_and_marked}
use Rattle.norm_send_rules.specs.Striking.{strike_fault, without_node, struck_off}
use Rattle.norm_send_rules.specs.Restarting.{is_used, begun_anew}
use Rattle.norm_send_rules.specs.Commanding.{commanded}
use Rattle.norm_send_rules.specs.Hearing.{listed_past, rises, credited_at, credited_by, joined_round, nack_counts, ack_counts, message_heard}
use Rattle.norm_send_rules.specs.Sending.{noted}
use Rattle.norm_send_rules.specs.Flushing.{expired}
use Rattle.norm_send_rules.specs.Ticking.{ticked}
use Rattle.norm_send_rules.specs.declared.job.Job.{Job}
use Rattle.norm_send_rules.specs.declared.job.Job.TheVariants as job
use Rattle.norm_send_rules.specs.declared.news.Outcome.{Outcome}
use Rattle.norm_send_rules.specs.declared.news.Outcome.TheVariants.{Satisfied, Expired, Cut as CutOff}
use Rattle.norm_send_rules.specs.declared.want.Want.{Want}
use Rattle.norm_send_rules.specs.declared.want.Want.TheVariants.{Info, Symbol}
use Rattle.norm_send_rules.proofs.TickLemmas.{tick_keeps}
use Rattle.norm_send_rules.proofs.WantLemmas.{where_free, either}

-- those that are open of these
abbrev opens : List Watermark → ℕ
opens ws = length (filter is_open ws)

-- so many outcomes were told: with those to be told, and the watermarks that are open, no more than there are watermarks
abbrev pub Told : ℕ → SenderState → Type 0
Told n s = n + (length s.untold_marks + opens s.watermarks) ≤ length s.watermarks

-- one more member at most
with_one : (x : ℕ) (xs : List ℕ) → length (with_member nat_lt x xs) ≤ length xs + 1
unfolding with_member
with_one x [] = omega arith
with_one x (y ∷ ys) = go (nat_lt x y) (nat_lt y x) (with_one x ys)
  where
    go : (b c : Bool) → length (with_member nat_lt x ys) ≤ length ys + 1
        → length (elim b as (λ _. List ℕ) [ true ↦ x ∷ y ∷ ys | false ↦ elim c [ true ↦ y ∷ with_member nat_lt x ys | false ↦ y ∷ ys ] ]) ≤ suc (length ys) + 1
    go true c le = omega arith
    go false true le = omega (arith, le)
    go false false le = omega arith

with_all : (ws : List Watermark) (xs : List ℕ) → length (told_later ws xs) ≤ length xs + length ws
with_all [] xs = omega arith
with_all (w ∷ ws) xs =
    let one = with_one w.mark xs in
    let more = with_all ws (with_member nat_lt w.mark xs) in
    omega (arith, one, more)

-- the same watermarks, some of them ended
abbrev after : (Watermark → Bool) → (Watermark → Outcome) → List Watermark → List Watermark
after test outcome ws = map (λ w. cond (is_open w && test w) (ended_with (outcome w) w) w) ws

abbrev ends : (Watermark → Bool) → List Watermark → List Watermark
ends test ws = filter (λ w. is_open w && test w) ws

record Ended (test : Watermark → Bool) (outcome : Watermark → Outcome) (ws : List Watermark) : Type 0 where
  opens : opens (after test outcome ws) + length (ends test ws) ≡ opens ws
  length : length (after test outcome ws) ≡ length ws

ended : (test : Watermark → Bool) (outcome : Watermark → Outcome) (ws : List Watermark) → Ended test outcome ws
ended test outcome [] = record { opens = refl; length = refl }
ended test outcome (w ∷ ws) =
    let more = ended test outcome ws in
    record { opens = go (is_open w) refl (test w) more.opens; length = (let e = more.length in omega (arith, e)) }
  where
    now : Bool → Watermark
    now b = cond b (ended_with (outcome w) w) w

    go : (b : Bool) → is_open w ≡ b → (c : Bool) → opens (after test outcome ws) + length (ends test ws) ≡ opens ws
        → length (cond (is_open (now (b && c))) (now (b && c) ∷ filter is_open (after test outcome ws)) (filter is_open (after test outcome ws)))
        + length (cond (b && c) (w ∷ ends test ws) (ends test ws))
        ≡ length (cond b (w ∷ filter is_open ws) (filter is_open ws))
    go true is true e = omega (arith, e)
    go true is false e =
        ap (λ (x : Bool). length (cond x (w ∷ filter is_open (after test outcome ws)) (filter is_open (after test outcome ws))) + length (ends test ws)) is
        ∙ (let same = e in omega (arith, same))
    go false is c e =
        ap (λ (x : Bool). length (cond x (w ∷ filter is_open (after test outcome ws)) (filter is_open (after test outcome ws))) + length (ends test ws)) is
        ∙ e

ended_told : (n : ℕ) (test : Watermark → Bool) (outcome : Watermark → Outcome) (s : SenderState) → Told n s → Told n (end_where test outcome s)
ended_told n test outcome s h =
    let its = ended test outcome s.watermarks in
    let opens = its.opens in
    let many = its.length in
    let more = with_all (ends test s.watermarks) s.untold_marks in
    omega (arith, h, opens, many, more)

-- ---- each step

counted_told : (n : ℕ) (old new : SenderState) → Told n new → Told n (counted_anew old new)
counted_told n old new h = go (keeps_oldest old new)
  where
    go : (b : Bool) → Told n (elim b [ true ↦ new | false ↦ record new { flushes = 0 } ])
    go true = h
    go false = h

settled_told : (n : ℕ) (s : SenderState) → Told n s → Told n (settled s)
settled_told n s h = ended_told n (is_met s) (λ w. Satisfied) s h

-- a step that is refused where a fault was found
by_fault : {F A : Type 0} (n : ℕ) (found : Option F) (s after : SenderState) (refused : F → A) (given : A) → Told n s → Told n after
    → Told n (where_free found s after refused given).0
by_fault n None s after refused given h k = k
by_fault n (Some fault) s after refused given h k = h

by_test : {A : Type 0} (n : ℕ) (b : Bool) (t u : SenderState × A) → Told n t.0 → Told n u.0 → Told n (either b t u).0
by_test n true t u h k = h
by_test n false t u h k = k

cut_told : (n : ℕ) (p : Settings) (s : SenderState) → Told n s → Told n (cut p s)
cut_told n p s h = go (unclosed p.e (parts_now s))
  where
    go : (k : ℕ) → Told n (elim k [ zero ↦ s | suc m ↦ with_parts (parts_now s ++ Cut ∷ []) s ])
    go zero = h
    go (suc m) = h

-- one more watermark, which is open
opens_more : (ws : List Watermark) (w : Watermark) → is_open w ≡ true → opens (ws ++ w ∷ []) ≡ opens ws + 1
opens_more [] w is = ap (λ (b : Bool). length (cond b (w ∷ []) [])) is
opens_more (v ∷ ws) w is = go (is_open v) (opens_more ws w is)
  where
    go : (b : Bool) → opens (ws ++ w ∷ []) ≡ opens ws + 1
        → length (cond b (v ∷ filter is_open (ws ++ w ∷ [])) (filter is_open (ws ++ w ∷ []))) ≡ length (cond b (v ∷ filter is_open ws) (filter is_open ws)) + 1
    go true e = omega (arith, e)
    go false e = e

watermark_told : (n : ℕ) (s : SenderState) (by : Origin) (quorum : Option ℕ) (found : Option Position) → Told n s → Told n (watermark_at s by quorum found).0
watermark_told n s by quorum None h = h
watermark_told n s by quorum (Some at) h =
    let w : Watermark = record { mark = length s.watermarks + 1; by = by; at = at; quorum = quorum; ended = None } in
    let more : SenderState = record s { watermarks = s.watermarks ++ w ∷ [] } in
    let opened = opens_more s.watermarks w refl in
    let many = length-append s.watermarks (w ∷ []) in
    by_test n (nat_le most_open (length (open_watermarks s))) (s, _) (with_watermark s by quorum at, _) h
    (counted_told n s (settled more) (settled_told n more (omega (arith, h, opened, many))))

mark_told : (n : ℕ) (p : Settings) (s : SenderState) (by : Origin) (quorum : Option ℕ) → Told n s → Told n (cut_and_marked p s by quorum).0
mark_told n p s by quorum h = watermark_told n (cut p s) by quorum (last_source (current_shapes p (cut p s))) (cut_told n p s h)

pub command_told : (n : ℕ) (p : Settings) (s : SenderState) (by : Origin) (job : Job) → Told n s → Told n (commanded p s by job).0
command_told n p s by (job.Data info bytes) h =
    by_fault n (object_fault p s info bytes) s (joined p by (Whole kind.Data info bytes) s) Err (Ok _) h h
command_told n p s by (job.File name bytes) h =
    by_fault n (object_fault p s (Some name) bytes) s (joined p by (Whole kind.File (Some name) bytes) s) Err (Ok _) h h
command_told n p s by job.Open h = by_fault n (open_fault p s) s (joined p by (Stream []) s) Err (Ok _) h h
command_told n p s by (job.Write bytes) h =
    let parts = parts_now s ++ Write by bytes ∷ [] in by_fault n (write_fault p s bytes parts) s (grown p s parts) Err (Ok _) h h
command_told n p s by job.Close h =
    let parts = parts_now s ++ End ∷ [] in by_fault n (close_fault p s parts) s (grown p s parts) Err (Ok _) h h
command_told n p s by (job.Mark None) h = mark_told n p s by None h
command_told n p s by (job.Mark (Some q)) h = by_test n (is_no_quorum p q) (s, _) (cut_and_marked p s by (Some q)) h (mark_told n p s by (Some q) h)
command_told n p s by (job.Restart id) h = by_test n (is_used s id) (s, _) (begun_anew id s, _) h (ended_told n (λ w. true) (λ w. CutOff) s h)
command_told n p s by (job.Strike node) h =
    by_fault n (strike_fault s node) s (struck_off node s) Err (Ok _) h (counted_told n s (settled (without_node node s)) (settled_told n (without_node node s) h))

noted_told : (n : ℕ) (s : SenderState) (w : Want) → Told n s → Told n (noted w s)
noted_told n s (Info index) h = h
noted_told n s (Symbol at) h = h

expired_told : (n : ℕ) (s : SenderState) (w : Watermark) → Told n s → Told n (expired w.mark s)
expired_told n s w h = counted_told n s _ (ended_told n (λ v. v.mark == w.mark) (λ v. Expired (length (pending s v.at))) s h)

pub tick_told : (n : ℕ) (p : Settings) (s : SenderState) (now : ℕ) → Told n s → Told n (ticked p s now).0
tick_told n p s now h = tick_keeps p (Told n) (record {
  closes = λ t r h. h;
  squelched = λ t h. h;
  repaired = λ t w wants e h. h;
  goes_on = λ t w e h. h;
  notes = λ t w h. noted_told n t w h;
  flushes = λ t now h. h;
  expires = λ t w e h. expired_told n t w h;
  spends = λ t moment h. h;
}) s now h

credited_told : (n : ℕ) (p : Settings) (node : ℕ) (at : Position) (s : SenderState) → Told n s → Told n (credited_at p node at s)
credited_told n p node at s h = go (is_source (current_shapes p s) at) (rises node at s)
  where
    risen : SenderState
    risen = record s { listings = map (listed_past node at) s.listings; untold_nodes = with_member nat_lt node s.untold_nodes }

    go : (b c : Bool) → Told n (elim b [ true ↦ elim c [ true ↦ counted_anew s (settled risen) | false ↦ s ] | false ↦ s ])
    go true true = counted_told n s (settled risen) (settled_told n risen h)
    go true false = h
    go false c = h

pub heard_told : {E : Type 0} (n : ℕ) (p : Settings) (s : SenderState) (now : ℕ) (read : Result Message E) → Told n s → Told n (message_heard p s now read)
heard_told n p s now (Ok (Nack m)) h = go (nack_counts p s m) m.requests
  where
    go : (b : Bool) (requests : List Request) → Told n (elim b [ true ↦ joined_round p s now requests | false ↦ s ])
    go true [] = h
    go true (r ∷ requests) = h
    go false requests = h
heard_told n p s now (Ok (Ack m)) h = go (ack_counts p s m) m.content
  where
    by : (at : Option Position) → Told n (credited_by p m.source at s)
    by None = h
    by (Some at) = credited_told n p m.source at s h

    go : (b : Bool) (content : AckContent) → Told n (elim b [
      | true ↦ elim content [ Mark item ↦ credited_by p m.source (item_named p (last_index s) item) s | Unread octets ↦ s ]
      | false ↦ s
    ])
    go true (Mark item) = by (item_named p (last_index s) item)
    go true (Unread octets) = h
    go false content = h
heard_told n p s now _ h = h

pub opening_told : (p : Settings) → Told 0 (sender_opening p p.instance)
opening_told p = omega arith
