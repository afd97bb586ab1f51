-- In a tail all that is to be sent runs out.
use Rattle.std.proofs.Math.Nat.{min-le_left, mul-le-mul_right}
use Rattle.std.proofs.Common.{◌≡◌, ℕ, zero, suc, ◌+◌, ◌*◌, ◌≤◌, List, [], ◌∷◌, ◌++◌, length, Bool, true, false, Option, None, Some, Result, Ok, refl, sym, ap, ◌∙◌, subst, arith, ◌⊎◌, inl, inr}
use Rattle.std.specs.Prelude.{◌==◌, map, nat_le, nat_lt}
use Rattle.std.proofs.lemmas.Bool.Decides.{Decides-eqb}
use Rattle.norm_base.specs.Settings.{Settings, InRange}
use Rattle.fec_plan.specs.declared.position.Position.{Position}
use Rattle.norm_ext.specs.Asking.{item_named}
use Rattle.norm_ext.specs.Message.{Message, Nack, Ack, AckContent, Mark, Unread}
use Rattle.norm_ext.specs.Reading.{decoded}
use Rattle.norm_ext.specs.Requests.{Request}
use Rattle.norm_ext.specs.Written.{Written}
use Rattle.norm_order.specs.Moments.{moment_after}
use Rattle.norm_order.specs.Sets.{with_member}
use Rattle.norm_order.specs.Shapes.{is_source}
use Rattle.norm_send_rules.specs.Closing.{round_closed}
use Rattle.norm_send_rules.specs.Flushing.{expired}
use Rattle.norm_send_rules.specs.Hearing.{nack_counts, ack_counts, joined_round, listed_past, rises, credited, credited_by, message_heard, heard}
use Rattle.norm_send_rules.specs.InWindow.{current_shapes, last_index}
use Rattle.norm_send_rules.specs.Laws.{WantsHold}
use Rattle.norm_send_rules.specs.Repairable.{repairable}
use Rattle.norm_send_rules.specs.SenderState.{SenderState, Instance, Round}
use Rattle.norm_send_rules.specs.SenderStep as sender
use Rattle.norm_send_rules.specs.Sending.{noted}
use Rattle.norm_send_rules.specs.Telling.{told, past_news, done_news, listing_of}
use Rattle.norm_send_rules.specs.Ticking.{closed_where_due, sends_in_time, ticked}
use Rattle.norm_send_rules.specs.Watermarks.{keeps_oldest, counted_anew, end_where, settled, pending, watermark_of}
use Rattle.norm_send_rules.specs.declared.news.News.{News}
use Rattle.norm_send_rules.specs.declared.news.Outcome.TheVariants.{Expired}
use Rattle.norm_send_rules.specs.declared.want.Want.{Want}
use Rattle.norm_send_rules.specs.declared.want.Want.TheVariants.{Info, Symbol}
use Rattle.norm_send_rules.proofs.MomentLemmas.{tick_laws}
use Rattle.norm_send_rules.proofs.ShapeLemmas.{blocks_of}
use Rattle.norm_send_rules.proofs.StepLemmas.{heard_same, told_same, due_holds, want_laws}
use Rattle.norm_send_rules.proofs.TickLemmas.{tick_keeps}
use Rattle.norm_send_rules.proofs.WantLemmas.{hold_same}
use Rattle.norm_safety.specs.Events.{Event, Commanded, Delivered, Ticked, Offered, UpTaken, NewsAsked}
use Rattle.norm_safety.specs.History.{Happening}
use Rattle.norm_safety.specs.Tail.{Course, course_from, comes, sender_ticks, tail_turn, tail_turns}
use Rattle.norm_safety.specs.World.{World}
use Rattle.norm_safety.specs.WorldStep.{world_step, run}
use Rattle.norm_safety.proofs.SenderKeeps.{ticked_keeps}
use Rattle.norm_safety.proofs.WantRunLemmas.{wants_hold_in_runs}
use Rattle.norm_laws.proofs.CountSender.{sender_after, sender_is}
use Rattle.norm_laws.proofs.LaterTailLemmas.{Quiet, if_own}
use Rattle.norm_laws.proofs.SentRests.{heard_leaves, told_leaves}
use Rattle.norm_recovery.specs.RunsOut.{all_new, one_if, to_send, RunsOut, ClosesNone, closed_at, last_closing, TailRunsOut}
use Rattle.norm_recovery.proofs.RunsOutLaws.{few}
use Rattle.norm_recovery.proofs.RunsOutTick.{closed_rests, begins, goes_on, is_out, longer}
use Rattle.norm_recovery.proofs.RunsOutTurns.{tells_keep, round_keeps}
use Rattle.norm_recovery.proofs.TimelyWorld.{runs_are_timely}

-- ---- what is heard and told makes nothing to be sent

where_same : (b : Bool) (s t : SenderState) → t.squelch_due ≡ s.squelch_due → (elim b as (λ _. SenderState) [ true ↦ t | false ↦ s ]).squelch_due ≡ s.squelch_due
where_same true s t e = e
where_same false s t e = refl

anew_squelch : (before s : SenderState) → (counted_anew before s).squelch_due ≡ s.squelch_due
anew_squelch before s = go (keeps_oldest before s)
  where
    go : (b : Bool) → (elim b as (λ _. SenderState) [ true ↦ s | false ↦ record s { flushes = 0 } ]).squelch_due ≡ s.squelch_due
    go true = refl
    go false = refl

heard_squelch : {E : Type 0} (p : Settings) (s : SenderState) (now : ℕ) (read : Result Message E) → (message_heard p s now read).squelch_due ≡ s.squelch_due
heard_squelch p s now (Ok (Nack m)) = where_same (nack_counts p s m) s (joined_round p s now m.requests) (joined m.requests)
  where
    joined : (requests : List Request) → (joined_round p s now requests).squelch_due ≡ s.squelch_due
    joined [] = refl
    joined (r ∷ requests) = refl
heard_squelch p s now (Ok (Ack m)) = go (ack_counts p s m) m.content
  where
    risen : (at : Position) → (credited m.source at s).squelch_due ≡ s.squelch_due
    risen at =
        let listed : SenderState = record s { listings = map (listed_past m.source at) s.listings; untold_nodes = with_member nat_lt m.source s.untold_nodes } in
        where_same (rises m.source at s) s (counted_anew s (settled listed)) (anew_squelch s (settled listed))

    by : (at : Option Position) → (credited_by p m.source at s).squelch_due ≡ s.squelch_due
    by None = refl
    by (Some at) = where_same (is_source (current_shapes p s) at) s (credited m.source at s) (risen at)

    go : (b : Bool) (content : AckContent) → (elim b as (λ _. SenderState) [
      | true ↦ elim content [ Mark item ↦ credited_by p m.source (item_named p (last_index s) item) s | Unread octets ↦ s ]
      | false ↦ s
    ]).squelch_due ≡ s.squelch_due
    go true (Mark item) = by (item_named p (last_index s) item)
    go true (Unread octets) = refl
    go false content = refl
heard_squelch p s now _ = refl

told_squelch : (s : SenderState) → (told s).0.squelch_due ≡ s.squelch_due
told_squelch s = go s.untold_nodes s.untold_marks
  where
    state_of : SenderState × Option News → SenderState
    state_of step = step.0

    go : (nodes marks : List ℕ) → (state_of (elim nodes [
      | node ∷ others ↦ (record s { untold_nodes = others }, past_news node (listing_of s node))
      | [] ↦ elim marks [
        | mark ∷ others ↦ (record s { untold_marks = others }, done_news s mark (watermark_of s mark))
        | [] ↦ (s, None)
      ]
    ])).squelch_due ≡ s.squelch_due
    go (node ∷ nodes) marks = refl
    go [] (mark ∷ marks) = refl
    go [] [] = refl

-- the same is to be sent, in the same order, from the same moment on
pub record Rests (s t : SenderState) : Type 0 where
  pub current : t.current ≡ s.current
  pub wants : t.wants ≡ s.wants
  pub next : t.next ≡ s.next
  pub squelch : t.squelch_due ≡ s.squelch_due
  pub send : t.next_send ≡ s.next_send

rests_itself : (s : SenderState) → Rests s s
rests_itself s = record { current = refl; wants = refl; next = refl; squelch = refl; send = refl }

heard_rests : (p : Settings) (s : SenderState) (bytes : List ℕ) (now : ℕ) → Rests s (heard p s bytes now)
heard_rests p s bytes now =
    let same = heard_same p s now (decoded bytes) in
    record {
      current = same.0;
      wants = same.1;
      next = (heard_leaves p s bytes now).next;
      squelch = heard_squelch p s now (decoded bytes);
      send = tick_laws.stays p s (sender.Delivered bytes now) tt;
    }

told_rests : (p : Settings) (s : SenderState) → Rests s (told s).0
told_rests p s =
    let same = told_same s in
    record { current = same.0; wants = same.1; next = (told_leaves s).next; squelch = told_squelch s; send = tick_laws.stays p s sender.NewsAsked tt }

pub same_to_send : (p : Settings) (s t : SenderState) → Rests s t → to_send p t ≡ to_send p s
same_to_send p s t h =
    ap (λ b. one_if b + length t.wants + length (all_new p t)) h.squelch
    ∙ ap (λ ws. one_if s.squelch_due + length ws + length (all_new p t)) h.wants
    ∙ ap (λ n. one_if s.squelch_due + length s.wants + n) new
  where
    new : length (all_new p t) ≡ length (all_new p s)
    new = ap (λ (i : Instance). length (all_new p (record t { current = i }))) h.current
        ∙ ap (λ (w : Want). length (all_new p (record t { current = s.current; next = w }))) h.next

pub same_window : (p : Settings) (s t : SenderState) → t.current ≡ s.current → repairable p t ≡ repairable p s
same_window p s t e = ap (λ (i : Instance). repairable p (record t { current = i })) e

pub quiet_rests : (p : Settings) (w : World) (e : Event) → Quiet p e → Rests w.sender (world_step p w e).0.sender
quiet_rests p w e quiet = subst (Rests w.sender) (sym (sender_is p w e)) (after e quiet)
  where
    either : (b : Bool) (t : SenderState) → Rests w.sender t → Rests w.sender (elim b [ true ↦ t | false ↦ w.sender ])
    either true t k = k
    either false t k = rests_itself w.sender

    after : (e : Event) → Quiet p e → Rests w.sender (sender_after p w.sender e)
    after (Commanded by job now) quiet = absurd quiet
    after (Delivered node datagram now draw) quiet = either (node == p.sender) (heard p w.sender datagram now) (heard_rests p w.sender datagram now)
    after (Ticked node now) quiet = subst (Rests w.sender) (sym (ap (λ (b : Bool). if_own b (ticked p w.sender now).0 w.sender) quiet)) (rests_itself w.sender)
    after (Offered node octets) quiet = rests_itself w.sender
    after (UpTaken node) quiet = rests_itself w.sender
    after NewsAsked quiet = told_rests p w.sender

-- ---- the last closing

-- the moment of a tick that closed a round, if one was open before and none is after
abbrev pub closed_by : ℕ → (before after : Option Round) → Option ℕ
closed_by now before after = elim before [ Some b ↦ elim after [ Some a ↦ None | None ↦ Some now ] | None ↦ None ]

abbrev pub happening : Settings → World → Event → Happening
happening p w e = record { before = w; event = e; answer = (world_step p w e).1; after = (world_step p w e).0 }

-- the last closing with one more happening
abbrev pub closing_or : Option ℕ → ℕ → ℕ
closing_or found since = elim found [ Some now ↦ now | None ↦ since ]

pub closing_more : (last : ℕ) (hs : List Happening) (h : Happening) → last_closing last (hs ++ h ∷ []) ≡ closing_or (closed_at h) (last_closing last hs)
closing_more last [] h = refl
closing_more last (x ∷ hs) h = closing_more (closing_or (closed_at x) last) hs h

-- what is no tick closes no round
no_tick : (before after : Option Round) → (elim before as (λ _. Option ℕ) [ Some b ↦ elim after as (λ _. Option ℕ) [ Some a ↦ None | None ↦ None ] | None ↦ None ]) ≡ None
no_tick None after = refl
no_tick (Some b) None = refl
no_tick (Some b) (Some a) = refl

-- a quiet event closes no round
pub quiet_closes_none : (p : Settings) (w : World) (e : Event) → Quiet p e → closed_at (happening p w e) ≡ None
quiet_closes_none p w (Commanded by job now) quiet = absurd quiet
quiet_closes_none p w (Delivered node datagram now draw) quiet = no_tick w.sender.round (world_step p w (Delivered node datagram now draw)).0.sender.round
quiet_closes_none p w (Offered node octets) quiet = no_tick w.sender.round (world_step p w (Offered node octets)).0.sender.round
quiet_closes_none p w (UpTaken node) quiet = no_tick w.sender.round (world_step p w (UpTaken node)).0.sender.round
quiet_closes_none p w NewsAsked quiet = no_tick w.sender.round (world_step p w NewsAsked).0.sender.round
quiet_closes_none p w (Ticked node now) quiet =
    ap (closed_by now w.sender.round) same
    ∙ go w.sender.round
  where
    same : (world_step p w (Ticked node now)).0.sender.round ≡ w.sender.round
    same = ap (λ (s : SenderState). s.round) (sender_is p w (Ticked node now) ∙ ap (λ (b : Bool). if_own b (ticked p w.sender now).0 w.sender) quiet)

    go : (round : Option Round) → closed_by now round round ≡ None
    go None = refl
    go (Some r) = refl

-- ---- a turn

-- After the sender's tick at a moment, and until the next one: what is to be sent runs out, of a window of so many infos and symbols.
pub record Running (p : Settings) (last m now : ℕ) (c : Course) : Type 0 where
  pub runs : RunsOut p (last_closing last c.happened + p.grtt) now c.world.sender
  pub soon : c.world.sender.next_send ≤ now + p.gap
  pub hold : WantsHold p c.world.sender
  pub window : repairable p c.world.sender ≡ m

-- As a turn begins, a step after a moment: the first one, or one that follows another.
pub record Standing (p : Settings) (last m now : ℕ) (c : Course) : Type 0 where
  pub runs : (last_closing last c.happened ≡ now) ⊎ RunsOut p (last_closing last c.happened + p.grtt) now c.world.sender
  pub soon : c.world.sender.next_send ≤ now + p.gap
  pub hold : WantsHold p c.world.sender
  pub window : repairable p c.world.sender ≡ m

same_runs : (p : Settings) (by now : ℕ) (s t : SenderState) → Rests s t → RunsOut p by now s → RunsOut p by now t
same_runs p by now s t same (inl nothing) = inl (same_to_send p s t same ∙ nothing)
same_runs p by now s t same (inr (waits, fit)) =
    let send = same.send in
    let all = ap (λ n. n * (p.gap + p.step)) (same_to_send p s t same) in
    inr (omega (arith, send, waits), omega (arith, send, all, fit))

quiet_runs : (p : Settings) (last m now : ℕ) (e : Event) → Quiet p e → (c : Course) → Running p last m now c → Running p last m now (comes p e c)
quiet_runs p last m now e quiet c h =
    let w = c.world in
    let same = quiet_rests p w e quiet in
    let t = (world_step p w e).0.sender in
    let closing : last_closing last (comes p e c).happened ≡ last_closing last c.happened =
    closing_more last c.happened (happening p w e) ∙ ap (λ found. closing_or found (last_closing last c.happened)) (quiet_closes_none p w e quiet) in
    record {
      runs = subst (λ n. RunsOut p (n + p.grtt) now t) (sym closing) (same_runs p (last_closing last c.happened + p.grtt) now w.sender t same h.runs);
      soon = (let le = h.soon in let send = same.send in omega (arith, le, send));
      hold = hold_same p w.sender t (same.current, same.wants) h.hold;
      window = same_window p w.sender t same.current ∙ h.window;
    }

drawn_runs : (p : Settings) (last m now : ℕ) (c : Course) (n : ℕ) → Running p last m now c → Running p last m now (record c { used = n })
drawn_runs p last m now c n h = record { runs = h.runs; soon = h.soon; hold = h.hold; window = h.window }

-- ---- the sender's tick

at_most : (now span : ℕ) → moment_after now span ≤ now + span
at_most now span = min-le_left (now + span) 18446744073709551615

tick_soon : (p : Settings) (s : SenderState) (before now : ℕ) → before ≤ now → s.next_send ≤ before + p.gap → (ticked p s now).0.next_send ≤ now + p.gap
tick_soon p s before now le soon = go (ticked p s now).1 refl
  where
    go : (found : Option Written) → (ticked p s now).1 ≡ found → (ticked p s now).0.next_send ≤ now + p.gap
    go None e = (let same = tick_laws.stays p s (sender.Ticked now) e in omega (arith, same, soon, le))
    go (Some datagram) e = (let is = (tick_laws.in_time p s now datagram e).1 in let most = at_most now p.gap in omega (arith, is, most))

-- the tick of a sender that has no open round opens none
still_none : (p : Settings) (s : SenderState) (now : ℕ) → s.round ≡ None → (ticked p s now).0.round ≡ None
still_none p s now none = tick_keeps p (λ (t : SenderState). t.round ≡ None) (record {
  closes = λ t r h. refl;
  squelched = λ t h. h;
  repaired = λ t w wants e h. h;
  goes_on = λ t w e h. h;
  notes = λ t w h. noted_none t w h;
  flushes = λ t now h. h;
  expires = λ t w e h. expired_none t w.mark h;
  spends = λ t moment h. h;
}) s now none
  where
    noted_none : (t : SenderState) (w : Want) → t.round ≡ None → (noted w t).round ≡ None
    noted_none t (Info index) h = h
    noted_none t (Symbol at) h = h

    expired_none : (t : SenderState) (mark : ℕ) → t.round ≡ None → (expired mark t).round ≡ None
    expired_none t mark h = go (keeps_oldest t (end_where (λ w. w.mark == mark) (λ w. Expired (length (pending t w.at))) t))
      where
        go : (b : Bool) → (elim b as (λ _. SenderState) [
          | true ↦ end_where (λ w. w.mark == mark) (λ w. Expired (length (pending t w.at))) t
          | false ↦ record (end_where (λ w. w.mark == mark) (λ w. Expired (length (pending t w.at))) t) { flushes = 0 }
        ]).round ≡ None
        go true = h
        go false = h

-- a tick closes no round, or it closes one and leaves none
data Closes (p : Settings) (s : SenderState) (now : ℕ) : Type 0 where
  CloseNone : ClosesNone p now s → Closes p s now
  CloseOne : (r : Round) → s.round ≡ Some r → (ticked p s now).0.round ≡ None → Closes p s now

-- the state after the round is looked at
abbrev looked_at : Settings → ℕ → SenderState → Option Round → SenderState
looked_at p now s round = elim round [ Some r ↦ elim (nat_le r.closes now) [ true ↦ round_closed p r s | false ↦ s ] | None ↦ s ]

closes : (p : Settings) (s : SenderState) (now : ℕ) → Closes p s now
closes p s now = go s.round refl
  where
    by : (r : Round) (b : Bool) → s.round ≡ Some r → nat_le r.closes now ≡ b → Closes p s now
    by r true e is =
        let closed : closed_where_due p now s ≡ round_closed p r s = ap (looked_at p now s) e ∙ ap (λ b. elim b as (λ _. SenderState) [ true ↦ round_closed p r s | false ↦ s ]) is in
        CloseOne r e (ap (λ (t : SenderState). (sends_in_time p now t).0.round) closed ∙ still_none p (round_closed p r s) now refl)
    by r false e is = CloseNone (ap (looked_at p now s) e ∙ ap (λ b. elim b as (λ _. SenderState) [ true ↦ round_closed p r s | false ↦ s ]) is)

    go : (round : Option Round) → s.round ≡ round → Closes p s now
    go None e = CloseNone (ap (looked_at p now s) e)
    go (Some r) e = by r (nat_le r.closes now) e refl

pub own_tick : (p : Settings) (w : World) (now : ℕ) → (world_step p w (Ticked p.sender now)).0.sender ≡ (ticked p w.sender now).0
own_tick p w now =
    sender_is p w (Ticked p.sender now) ∙ ap (λ (b : Bool). if_own b (ticked p w.sender now).0 w.sender) ((Decides-eqb p.sender p.sender).1 refl)

-- what is to be sent after a closing goes within a round trip
in_a_round : (m n last gap ε grtt : ℕ) → n ≤ 2 * m + 1 → gap ≤ ε → 2 * (m + 1) * ε ≤ grtt → last + gap + n * ε ≤ last + grtt
in_a_round m n last gap ε grtt le short fits =
    let most : n * ε ≤ (2 * m + 1) * ε = mul-le-mul_right ε le in
    let all : 2 * (m + 1) * ε ≡ (2 * m + 1) * ε + ε = grind arith in
    omega (arith, most, all, short, fits)

ticks_on : (p : Settings) → InRange p → (last m before : ℕ) (c : Course) → 2 * (m + 1) * (p.gap + p.step) ≤ p.grtt → before + p.step ≤ 18446744073709551615
    → Standing p last m before c → Running p last m (before + p.step) (comes p (Ticked p.sender (before + p.step)) c)
ticks_on p range last m before c twice most h = record {
  runs = subst (λ (u : SenderState). RunsOut p (last_closing last (comes p (Ticked p.sender now) c).happened + p.grtt) now u) (sym (own_tick p w now)) (runs (closes p s now));
  soon = (let is = ap (λ (u : SenderState). u.next_send) (own_tick p w now) in let le = tick_soon p s before now (omega arith) h.soon in omega (arith, is, le));
  hold = subst (WantsHold p) (sym (own_tick p w now)) (want_laws.always p s (sender.Ticked now) range h.hold);
  window = same_window p s (world_step p w (Ticked p.sender now)).0.sender (ap (λ (u : SenderState). u.current) (own_tick p w now) ∙ (ticked_keeps p s now).current) ∙ h.window;
}
  where
    now : ℕ
    now = before + p.step

    w : World
    w = c.world

    s : SenderState
    s = w.sender

    t : SenderState
    t = (ticked p s now).0

    since : ℕ
    since = last_closing last c.happened

    -- the state in which the round is closed
    d : SenderState
    d = closed_where_due p now s

    soon_all : before + p.gap + to_send p d * (p.gap + p.step) ≤ before + p.grtt
    soon_all =
        let most_left = few p d range (due_holds p (blocks_of p range) now s h.hold) in
        let same : repairable p d ≡ m = same_window p s d (closed_rests p now s).0 ∙ h.window in
        in_a_round m (to_send p d) before p.gap (p.gap + p.step) p.grtt (omega (arith, most_left, same)) (omega arith) twice

    anew : (by : ℕ) → before + p.grtt ≤ by → RunsOut p by now t
    anew by le = longer p (before + p.gap + to_send p d * (p.gap + p.step)) by now t (let all = soon_all in omega (arith, all, le)) (begins p before s most h.soon)

    closed_is : closed_at (happening p w (Ticked p.sender now)) ≡ closed_by now s.round t.round
    closed_is = ap (λ (u : SenderState). closed_by now s.round u.round) (own_tick p w now)

    closing : last_closing last (comes p (Ticked p.sender now) c).happened
        ≡ closing_or (closed_by now s.round t.round) since
    closing = closing_more last c.happened (happening p w (Ticked p.sender now)) ∙ ap (λ found. closing_or found since) closed_is

    by_closing : (by : ℕ) → last_closing last (comes p (Ticked p.sender now) c).happened ≡ by → RunsOut p (by + p.grtt) now t
        → RunsOut p (last_closing last (comes p (Ticked p.sender now) c).happened + p.grtt) now t
    by_closing by is r = subst (λ n. RunsOut p (n + p.grtt) now t) (sym is) r

    closed : (r : Round) → s.round ≡ Some r → t.round ≡ None → RunsOut p (last_closing last (comes p (Ticked p.sender now) c).happened + p.grtt) now t
    closed r e f = by_closing now (closing ∙ ap (λ (o : Option Round). closing_or (closed_by now o t.round) since) e
        ∙ ap (λ (o : Option Round). closing_or (closed_by now (Some r) o) since) f) (anew (now + p.grtt) (omega arith))

    -- no round was closed, or the moment is that of a closing
    kept : ClosesNone p now s → (found : Option Round) → s.round ≡ found → (left : Option Round) → t.round ≡ left
        → RunsOut p (last_closing last (comes p (Ticked p.sender now) c).happened + p.grtt) now t
    kept none None e left f = by_closing since (closing ∙ ap (λ (o : Option Round). closing_or (closed_by now o t.round) since) e) (on none h.runs)
      where
        on : ClosesNone p now s → (since ≡ before) ⊎ RunsOut p (since + p.grtt) before s → RunsOut p (since + p.grtt) now t
        on none (inl first) = anew (since + p.grtt) (omega (arith, first))
        on none (inr runs) = goes_on p (since + p.grtt) before s most none runs
    kept none (Some r) e (Some left) f = by_closing since (closing ∙ ap (λ (o : Option Round). closing_or (closed_by now o t.round) since) e
        ∙ ap (λ (o : Option Round). closing_or (closed_by now (Some r) o) since) f) (on none h.runs)
      where
        on : ClosesNone p now s → (since ≡ before) ⊎ RunsOut p (since + p.grtt) before s → RunsOut p (since + p.grtt) now t
        on none (inl first) = anew (since + p.grtt) (omega (arith, first))
        on none (inr runs) = goes_on p (since + p.grtt) before s most none runs
    kept none (Some r) e None f = closed r e f

    runs : Closes p s now → RunsOut p (last_closing last (comes p (Ticked p.sender now) c).happened + p.grtt) now t
    runs (CloseNone none) = kept none s.round refl t.round refl
    runs (CloseOne r e f) = closed r e f

-- ---- turn after turn

pub turn_on : (p : Settings) → InRange p → (draws : ℕ → ℕ) (last m before : ℕ) (c : Course) → 2 * (m + 1) * (p.gap + p.step) ≤ p.grtt
    → before + p.step ≤ 18446744073709551615 → Standing p last m before c → Running p last m (before + p.step) (tail_turn p draws (before + p.step) c)
turn_on p range draws last m before c twice most h =
    round_keeps p draws (before + p.step) (Running p last m (before + p.step)) (λ e quiet by d k. quiet_runs p last m (before + p.step) e quiet d k)
    (drawn_runs p last m (before + p.step)) (sender_ticks p (before + p.step) c)
    (tells_keep p draws (before + p.step) (Running p last m (before + p.step)) (λ e quiet by d k. quiet_runs p last m (before + p.step) e quiet d k)
    (drawn_runs p last m (before + p.step)) (comes p (Ticked p.sender (before + p.step)) c) (ticks_on p range last m before c twice most h))

turns_on : (p : Settings) → InRange p → (draws : ℕ → ℕ) (last m n before : ℕ) (c : Course) → 2 * (m + 1) * (p.gap + p.step) ≤ p.grtt
    → before + suc n * p.step ≤ 18446744073709551615 → Standing p last m before c
    → Running p last m (before + suc n * p.step) (tail_turns (suc n) p draws before c)
unfolding tail_turns
turns_on p range draws last m zero before c twice most h =
    subst (λ now. Running p last m now (tail_turn p draws (before + p.step) c)) (one before p.step)
    (turn_on p range draws last m before c twice (let z = one before p.step in omega (arith, z, most)) h)
  where
    one : (before step : ℕ) → before + step ≡ before + suc 0 * step
    one before step = grind arith
turns_on p range draws last m (suc n) before c twice most h =
    subst (λ now. Running p last m now (tail_turns (suc n) p draws (before + p.step) (tail_turn p draws (before + p.step) c))) (more before p.step n)
    (turns_on p range draws last m n (before + p.step) (tail_turn p draws (before + p.step) c) twice (let z = more before p.step n in omega (arith, z, most))
    (record { runs = inr on.runs; soon = on.soon; hold = on.hold; window = on.window }))
  where
    more : (before step n : ℕ) → before + step + suc n * step ≡ before + suc (suc n) * step
    more before step n = grind arith

    first_fits : before + p.step ≤ 18446744073709551615
    first_fits = let z = more before p.step n in omega (arith, z, most)

    on : Running p last m (before + p.step) (tail_turn p draws (before + p.step) c)
    on = turn_on p range draws last m before c twice first_fits h

pub tail_runs_out : TailRunsOut
tail_runs_out p events last draws n range before twice most = record {
  runs_out = on.runs;
  is_out = λ le. is_out p (last_closing last (tail_turns (suc n) p draws last (course_from (run p events))).happened + p.grtt) (last + suc n * p.step)
      (tail_turns (suc n) p draws last (course_from (run p events))).world.sender (let least = range.gap.0 in omega (arith, le, least)) on.runs;
}
  where
    on : Running p last (repairable p (run p events).sender) (last + suc n * p.step) (tail_turns (suc n) p draws last (course_from (run p events)))
    on = turns_on p range draws last (repairable p (run p events).sender) n last (course_from (run p events)) twice most
        (record { runs = inl refl; soon = (runs_are_timely p events last before).sender.send; hold = wants_hold_in_runs p events range; window = refl })
