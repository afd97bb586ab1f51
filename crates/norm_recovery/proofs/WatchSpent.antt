-- Over a turn that leaves no less: once nothing new was left and every member had everything that was wanted, so it stays; and so it is once all is out.
use Rattle.std.proofs.Common.{◌≡◌, ℕ, ◌+◌, ◌*◌, ◌<◌, ◌≤◌, List, [], ◌∷◌, length, Bool, true, false, Option, None, Some, refl, sym, ap, ◌∙◌, subst, arith, ◌⊎◌, inl, inr}
use Rattle.std.specs.Prelude.{◌==◌, ◌&&◌, ◌||◌, not, find, nat_lt, nat_le}
use Rattle.std.specs.List.{list_all}
use Rattle.std.proofs.lemmas.Bool.{cases_lt}
use Rattle.std.proofs.lemmas.Bool.Decides.{Decides-eqb, Decides-ltb, leb_tells}
use Rattle.norm_base.specs.Members.{receivers_of}
use Rattle.norm_base.specs.Settings.{Settings}
use Rattle.norm_receive_rules.specs.ReceiverState.{ReceiverState}
use Rattle.norm_send_rules.specs.Closing.{round_closed}
use Rattle.norm_send_rules.specs.Flushing.{expired}
use Rattle.norm_send_rules.specs.SenderState.{SenderState, Instance, Round}
use Rattle.norm_send_rules.specs.Sending.{behind, noted}
use Rattle.norm_send_rules.specs.Ticking.{closed_where_due, ticked}
use Rattle.norm_send_rules.specs.Watermarks.{keeps_oldest, end_where, pending, has_member}
use Rattle.norm_send_rules.specs.declared.news.Outcome.TheVariants.{Expired}
use Rattle.norm_send_rules.specs.declared.want.Want.{Want}
use Rattle.norm_send_rules.specs.declared.want.Want.TheVariants.{Info, Symbol}
use Rattle.norm_send_rules.proofs.TickLemmas.{tick_keeps}
use Rattle.norm_safety.specs.Events.{Event, Ticked}
use Rattle.norm_safety.specs.Tail.{Course, course_from, events_of, comes, sender_ticks, tail_turn}
use Rattle.norm_safety.specs.World.{World, receiver_at}
use Rattle.norm_safety.specs.WorldLaws.{nodes_of}
use Rattle.norm_safety.specs.WorldStep.{world_step, run}
use Rattle.norm_safety.proofs.EntryLemmas.{clash}
use Rattle.norm_safety.proofs.FreshRun.{Differ, receivers_rise}
use Rattle.norm_safety.proofs.WorldLemmas.{world_laws}
use Rattle.norm_laws.proofs.LaterTailLemmas.{Quiet}
use Rattle.norm_recovery.specs.Asking.{all_have, have_wanted}
use Rattle.norm_recovery.specs.Left.{held_for, is_had, has, left}
use Rattle.norm_recovery.specs.RunsOut.{all_new, to_send, last_closing}
use Rattle.norm_recovery.specs.TailKeeps.{Stays}
use Rattle.norm_recovery.specs.TailLawful.{MayGoOn}
use Rattle.norm_recovery.specs.Watch.{Phase, is_spent, Watch}
use Rattle.norm_recovery.specs.WatchKeeps.{Follows, turn_after, goes_to}
use Rattle.norm_recovery.proofs.AsksOn.{tick_round}
use Rattle.norm_recovery.proofs.CleanSteps.{both, member_has}
use Rattle.norm_recovery.proofs.ClosingHelps.{closings_help}
use Rattle.norm_recovery.proofs.ClosingLists.{In, of_all}
use Rattle.norm_recovery.proofs.KeepsSender.{quiet_run_stays}
use Rattle.norm_recovery.proofs.LeftNever.{turn_wants, closed_stays, all_by_node}
use Rattle.norm_recovery.proofs.LeftTick.{Goes, Leaves, Brings, tick_goes}
use Rattle.norm_recovery.proofs.LeftTurn.{same_members, turn_had}
use Rattle.norm_recovery.proofs.MembersRun.{no_node}
use Rattle.norm_recovery.proofs.PassTurn.{is_other}
use Rattle.norm_recovery.proofs.RunsOutNew.{fewer_new}
use Rattle.norm_recovery.proofs.RunsOutTail.{closed_by, closing_or, own_tick, quiet_rests}
use Rattle.norm_recovery.proofs.RunsOutTick.{is_out}
use Rattle.norm_recovery.proofs.RunsOutTurns.{IsAt, tells_keep, round_keeps}
use Rattle.norm_recovery.proofs.TailCourses.{IsCalm, comes_calm, begins_calm, draw_calm}
use Rattle.norm_recovery.proofs.TailWalk.{no_receiver, turn_keeps}
use Rattle.norm_recovery.proofs.WatchTurn.{goes, runs_out}

none_some : {X : Type 0} (x : X) → None ≡ Some x → ⊥
none_some x e = cc

and_is : (a b : Bool) → a ≡ true → b ≡ true → (a && b) ≡ true
and_is true b e f = f
and_is false b e f = absurd (clash e)

le_of : (a b : ℕ) → nat_le a b ≡ true → a ≤ b
le_of a b e = go (leb_tells a b)
  where
    go : ((nat_le a b ≡ true) × (a ≤ b)) ⊎ ((nat_le a b ≡ false) × (b < a)) → a ≤ b
    go (inl tells) = tells.1
    go (inr tells) = absurd (clash (sym tells.0 ∙ e))

lt_of : (a b : ℕ) → nat_le a b ≡ false → b < a
lt_of a b e = go (leb_tells a b)
  where
    go : ((nat_le a b ≡ true) × (a ≤ b)) ⊎ ((nat_le a b ≡ false) × (b < a)) → b < a
    go (inl tells) = absurd (clash (sym e ∙ tells.0))
    go (inr tells) = tells.1

not_lt : (a b : ℕ) → nat_lt a b ≡ false → b ≤ a
not_lt a b e = go (cases_lt a b)
  where
    go : (a < b) ⊎ (b ≤ a) → b ≤ a
    go (inl lt) = absurd (clash (sym e ∙ (Decides-ltb a b).1 lt))
    go (inr le) = le

-- ---- nothing new

same_new : (p : Settings) (s t : SenderState) → t.current ≡ s.current → t.next ≡ s.next → length (all_new p t) ≡ length (all_new p s)
same_new p s t current next =
    ap (λ (i : Instance). length (all_new p (record t { current = i }))) current
    ∙ ap (λ (w : Want). length (all_new p (record t { current = s.current; next = w }))) next

-- a tick leaves nothing new where nothing is
tick_new : (p : Settings) (s : SenderState) (now : ℕ) → length (all_new p s) ≡ 0 → length (all_new p (ticked p s now).0) ≡ 0
tick_new p s now none = tick_keeps p (λ (t : SenderState). length (all_new p t) ≡ 0) (record {
  closes = λ t r h. h;
  squelched = λ t h. h;
  repaired = λ t w wants e h. h;
  goes_on = λ t w e h. absurd (let less = fewer_new p t (record t { next = behind w }) w e refl refl in omega (arith, less, h));
  notes = λ t w h. noted_new t w h;
  flushes = λ t now h. h;
  expires = λ t w e h. expired_new t w.mark h;
  spends = λ t moment h. h;
}) s now none
  where
    noted_new : (t : SenderState) (w : Want) → length (all_new p t) ≡ 0 → length (all_new p (noted w t)) ≡ 0
    noted_new t (Info index) h = h
    noted_new t (Symbol at) h = h

    expired_new : (t : SenderState) (mark : ℕ) → length (all_new p t) ≡ 0 → length (all_new p (expired mark t)) ≡ 0
    expired_new t mark h = go (keeps_oldest t (end_where (λ w. w.mark == mark) (λ w. Expired (length (pending t w.at))) t))
      where
        go : (b : Bool) → length (all_new p (elim b as (λ _. SenderState) [
          | true ↦ end_where (λ w. w.mark == mark) (λ w. Expired (length (pending t w.at))) t
          | false ↦ record (end_where (λ w. w.mark == mark) (λ w. Expired (length (pending t w.at))) t) { flushes = 0 }
        ])) ≡ 0
        go true = h
        go false = h

-- nothing is to be sent at all
out_spent : (p : Settings) (w : World) → to_send p w.sender ≡ 0 → is_spent p w ≡ true
out_spent p w none =
    and_is (length (all_new p w.sender) == 0) (have_wanted p w) ((Decides-eqb (length (all_new p w.sender)) 0).1 (omega (arith, none))) (wanted w.sender.wants (omega (arith, none)))
  where
    wanted : (wants : List Want) → length wants ≡ 0 → list_all (all_have p w) wants ≡ true
    wanted [] e = refl
    wanted (y ∷ wants) e = absurd (omega (arith, e))

-- ---- the turn

module _ (p : Settings) (events : List Event) (last : ℕ) (draws : ℕ → ℕ) (f : Follows p events last) (may : MayGoOn p events)
    (same : left p (record (run p events) { sender = closed_where_due p (last + p.step) (run p events).sender }) ≡ left p (run p events)) where
  abbrev w : World
  w = run p events

  abbrev s : SenderState
  s = (run p events).sender

  abbrev now : ℕ
  now = last + p.step

  abbrev closed : SenderState
  closed = closed_where_due p (last + p.step) (run p events).sender

  abbrev tick : SenderState
  tick = (ticked p (run p events).sender (last + p.step)).0

  abbrev turn : Course
  turn = tail_turn p draws (last + p.step) (course_from (run p events))

  abbrev after : World
  after = (tail_turn p draws (last + p.step) (course_from (run p events))).world

  calm : IsCalm p (run p events) (tail_turn p draws (last + p.step) (course_from (run p events)))
  calm = turn_keeps p draws (IsCalm p (run p events)) (λ c h. h.nodes ∙ world_laws.nodes p events) (comes_calm p (run p events)) (draw_calm p (run p events)) now
      (course_from (run p events)) (begins_calm p (run p events))

  pub stays : Stays (run p events).sender (tail_turn p draws (last + p.step) (course_from (run p events))).world.sender
  stays = subst (λ (v : World). Stays s v.sender) calm.leads (quiet_run_stays p (run p events) (events_of turn) calm.quiet)

  -- each receiver was one before, and no receiver is the sender
  pub record WasThere (x : ReceiverState) : Type 0 where
    pub r : ReceiverState
    pub found : receiver_at (run p events) x.node ≡ Some r
    pub other : (x.node == p.sender) ≡ false

  pub was_there : (x : ReceiverState) → receiver_at (tail_turn p draws (last + p.step) (course_from (run p events))).world x.node ≡ Some x → WasThere x
  was_there x there = go (receiver_at (run p events) x.node) refl
    where
      nodes : nodes_of after ≡ receivers_of p p.receivers
      nodes = calm.nodes ∙ world_laws.nodes p events

      go : (o : Option ReceiverState) → receiver_at (run p events) x.node ≡ o → WasThere x
      go None none =
          absurd (none_some x (sym (no_receiver x.node after.receivers
          (ap (find (λ (n : ℕ). n == x.node)) (nodes ∙ sym (world_laws.nodes p events)) ∙ no_node x.node (run p events).receivers none)) ∙ there))
      go (Some r) found = record { r = r; found = found; other = is_other p after nodes x.node x there }

  -- a test of each member, by its node
  pub each_after : (test : ReceiverState → Bool) → ((x : ReceiverState) → receiver_at (tail_turn p draws (last + p.step) (course_from (run p events))).world x.node ≡ Some x
      → has_member x.node (run p events).sender ≡ true → test x ≡ true)
      → list_all (λ (x : ReceiverState). not (has_member x.node (tail_turn p draws (last + p.step) (course_from (run p events))).world.sender) || test x)
      (tail_turn p draws (last + p.step) (course_from (run p events))).world.receivers ≡ true
  each_after test each =
      all_by_node (λ (x : ReceiverState). not (has_member x.node after.sender) || test x) after differ (λ x there. one x there (has_member x.node after.sender) refl)
    where
      differ : Differ (nodes_of after)
      differ = subst Differ (sym (calm.nodes ∙ world_laws.nodes p events)) (receivers_rise p p.receivers).1

      one : (x : ReceiverState) → receiver_at after x.node ≡ Some x → (b : Bool) → has_member x.node after.sender ≡ b → (not b || test x) ≡ true
      one x there false member = refl
      one x there true member = each x there (sym (same_members s after.sender x.node stays.members) ∙ member)

  -- ---- what every member had

  -- a closing that leaves no less adds only what every member has
  pub closed_have : have_wanted p (run p events) ≡ true
      → have_wanted p (record (run p events) { sender = closed_where_due p (last + p.step) (run p events).sender }) ≡ true
  closed_have have = go s.round same
    where
      L : SenderState → Type 0
      L t = left p (record (run p events) { sender = t }) ≡ left p (run p events)

      H : SenderState → Type 0
      H t = have_wanted p (record (run p events) { sender = t }) ≡ true

      by : (x : Round) (b : Bool) → L (elim b [ true ↦ round_closed p x s | false ↦ s ]) → H (elim b [ true ↦ round_closed p x s | false ↦ s ])
      by x true e = closings_help.keeps p f.profile (run p events) have x e
      by x false e = have

      go : (found : Option Round) → L (elim found [ Some x ↦ elim (nat_le x.closes now) [ true ↦ round_closed p x s | false ↦ s ] | None ↦ s ])
          → H (elim found [ Some x ↦ elim (nat_le x.closes now) [ true ↦ round_closed p x s | false ↦ s ] | None ↦ s ])
      go None e = have
      go (Some x) e = by x (nat_le x.closes now) e

  -- what all had after the closing they have after the turn
  all_on : (z : Want) → all_have p (record (run p events) { sender = closed_where_due p (last + p.step) (run p events).sender }) z ≡ true
      → all_have p (tail_turn p draws (last + p.step) (course_from (run p events))).world z ≡ true
  all_on z e = each_after (λ (x : ReceiverState). has p after.sender x z) (λ x there member. one x there member (was_there x there))
    where
      one : (x : ReceiverState) → receiver_at after x.node ≡ Some x → has_member x.node s ≡ true → WasThere x → has p after.sender x z ≡ true
      one x there member was =
          let member_then : has_member x.node closed ≡ true = same_members s closed x.node (closed_stays p now s).members ∙ member in
          let had : has p closed was.r z ≡ true = member_has p (record (run p events) { sender = closed }) z e x.node was.r was.found member_then in
          let in_s : is_had [] p s (held_for s was.r) z ≡ true =
          subst (λ (i : Instance). is_had [] p (record s { current = i }) (held_for (record s { current = i }) was.r) z ≡ true) (closed_stays p now s).current had in
          let later : is_had [] p s (held_for s x) z ≡ true = (turn_had p f.profile events may x.node was.other draws now was.r was.found [] z in_s).had x there in
          subst (λ (i : Instance). is_had [] p (record s { current = i }) (held_for (record s { current = i }) x) z ≡ true) (sym stays.current) later

  -- what is wanted after the tick was wanted after the closing
  tick_wants : (z : Want) → In z (ticked p (run p events).sender (last + p.step)).0.wants → In z (closed_where_due p (last + p.step) (run p events).sender).wants
  tick_wants z there = go (tick_goes p now s)
    where
      I : List Want → Type 0
      I ws = In z ws

      go : Goes closed (ticked p s now) → In z closed.wants
      go (Leaves e) = subst I e there
      go (Brings y d first gives brings_it) = subst I (sym first) (inr there)

  wanted_on : have_wanted p (run p events) ≡ true → have_wanted p (tail_turn p draws (last + p.step) (course_from (run p events))).world ≡ true
  wanted_on have = subst (λ (ws : List Want). list_all (all_have p after) ws ≡ true) (sym (turn_wants p draws now (run p events))) (each tick.wants (λ z h. tick_wants z h))
    where
      each : (ws : List Want) → ((z : Want) → In z ws → In z closed.wants) → list_all (all_have p after) ws ≡ true
      each [] within = refl
      each (z ∷ ws) within =
          and_is (all_have p after z) (list_all (all_have p after) ws)
          (all_on z (of_all (all_have p (record (run p events) { sender = closed })) z closed.wants (closed_have have) (within z (inl refl))))
          (each ws (λ y h. within y (inr h)))

  -- nothing new comes up
  new_on : length (all_new p (run p events).sender) ≡ 0 → length (all_new p (tail_turn p draws (last + p.step) (course_from (run p events))).world.sender) ≡ 0
  new_on none =
      round_keeps p draws now Kept each (λ c n h. h) (sender_ticks p now (course_from (run p events)))
      (tells_keep p draws now Kept each (λ c n h. h) (comes p (Ticked p.sender now) (course_from (run p events)))
      (ap (λ (t : SenderState). length (all_new p t)) (own_tick p (run p events) now) ∙ tick_new p s now none))
    where
      Kept : Course → Type 0
      Kept c = length (all_new p c.world.sender) ≡ 0

      each : (e : Event) → Quiet p e → IsAt now e → (c : Course) → length (all_new p c.world.sender) ≡ 0 → length (all_new p (comes p e c).world.sender) ≡ 0
      each e quiet at c h =
          let rests = quiet_rests p c.world e quiet in same_new p c.world.sender (world_step p c.world e).0.sender rests.current rests.next ∙ h

  spent_on : is_spent p (run p events) ≡ true → is_spent p (tail_turn p draws (last + p.step) (course_from (run p events))).world ≡ true
  spent_on e =
      let parts = both (length (all_new p s) == 0) (have_wanted p (run p events)) e in
      and_is (length (all_new p after.sender) == 0) (have_wanted p after)
      ((Decides-eqb (length (all_new p after.sender)) 0).1 (new_on ((Decides-eqb (length (all_new p s)) 0).0 parts.0))) (wanted_on parts.1)

  -- ---- when all is out

  module _ (ph : Phase) (h : Watch p ph last (run p events)) where
    abbrev since : ℕ
    since = last_closing ph.since (tail_turn p draws (last + p.step) (course_from (run p events))).happened

    -- the last closing is the one before, or of a round that was due
    data LastIs : Type 0 where
      Before : last_closing ph.since (tail_turn p draws (last + p.step) (course_from (run p events))).happened ≡ ph.since → LastIs
      Due : (x : Round) → (run p events).sender.round ≡ Some x → x.closes ≤ last + p.step
          → last_closing ph.since (tail_turn p draws (last + p.step) (course_from (run p events))).happened ≡ last + p.step → LastIs

    last_is : LastIs
    last_is = go s.round refl tick.round refl (goes p events last draws f ph.since).closing
      where
        due : (x : Round) → s.round ≡ Some x → tick.round ≡ None → x.closes ≤ last + p.step
        due x is none = by (nat_le x.closes now) refl
          where
            at : Option Round → SenderState
            at found = elim found [ Some x ↦ elim (nat_le x.closes now) [ true ↦ round_closed p x s | false ↦ s ] | None ↦ s ]

            by : (b : Bool) → nat_le x.closes now ≡ b → x.closes ≤ last + p.step
            by true e = le_of x.closes now e
            by false e =
                let still : closed.round ≡ Some x = ap (λ (found : Option Round). (at found).round) is
                ∙ ap (λ (b : Bool). (elim b as (λ _. SenderState) [ true ↦ round_closed p x s | false ↦ s ]).round) e ∙ is in
                absurd (none_some x (sym none ∙ tick_round p s now ∙ still))

        go : (before : Option Round) → s.round ≡ before → (left_open : Option Round) → tick.round ≡ left_open
            → last_closing ph.since turn.happened ≡ closing_or (closed_by (last + p.step) s.round tick.round) ph.since → LastIs
        go None e left_open g is = Before (is ∙ ap (λ (o : Option Round). closing_or (closed_by now o tick.round) ph.since) e)
        go (Some x) e (Some y) g is =
            Before (is ∙ ap (λ (o : Option Round). closing_or (closed_by now o tick.round) ph.since) e
            ∙ ap (λ (o : Option Round). closing_or (closed_by now (Some x) o) ph.since) g)
        go (Some x) e None g is =
            Due x e (due x e g) (is ∙ ap (λ (o : Option Round). closing_or (closed_by now o tick.round) ph.since) e
            ∙ ap (λ (o : Option Round). closing_or (closed_by now (Some x) o) ph.since) g)

    -- all was out before the tick
    out_before : ph.since ≤ ph.began + p.grtt → (x : Round) → (run p events).sender.round ≡ Some x → x.closes ≤ last + p.step → ph.began + p.grtt < last + p.step
        → is_spent p (run p events) ≡ true
    out_before early x is due late =
        out_spent p (run p events) (is_out p (ph.since + p.grtt) last s (by (ph.since == ph.began) refl h.apart) h.runs_out)
      where
        gap : 1 ≤ p.gap
        gap = f.profile.gap.0

        by : (b : Bool) → (ph.since == ph.began) ≡ b → (b || elim s.round [ Some r ↦ nat_le (ph.since + p.grtt) r.closes | None ↦ true ]) ≡ true
            → ph.since + p.grtt < last + (p.gap + p.step)
        by true e g = let z = (Decides-eqb ph.since ph.began).0 e in let some = gap in omega (arith, z, late, some)
        by false e g =
            let apart : nat_le (ph.since + p.grtt) x.closes ≡ true =
            sym (ap (λ (o : Option Round). elim o as (λ _. Bool) [ Some r ↦ nat_le (ph.since + p.grtt) r.closes | None ↦ true ]) is) ∙ g in
            let le = le_of (ph.since + p.grtt) x.closes apart in let some = gap in omega (arith, le, due, some)

    pub spent : (not (nat_lt (ph.began + p.grtt) (goes_to ph (turn_after p draws events last)).since || nat_le (ph.began + 2 * p.grtt) (last + p.step))
        || is_spent p (turn_after p draws events last).world) ≡ true
    spent = go (nat_lt (ph.began + p.grtt) (last_closing ph.since turn.happened)) (nat_le (ph.began + 2 * p.grtt) now) refl refl
      where
        some : 1 ≤ p.grtt
        some = f.profile.grtt.0

        gap : 1 ≤ p.gap
        gap = f.profile.gap.0

        or_true : (a b : Bool) → b ≡ true → (a || b) ≡ true
        or_true true b e = refl
        or_true false b e = e

        -- all goes out in the turn
        out_then : last_closing ph.since turn.happened ≤ ph.began + p.grtt → ph.began + 2 * p.grtt ≤ now → is_spent p after ≡ true
        out_then early late =
            out_spent p after (is_out p (last_closing ph.since turn.happened + p.grtt) now after.sender (let least = gap in omega (arith, early, late, least))
            (runs_out p events last draws f ph h))

        was : (a b : Bool) → nat_lt (ph.began + p.grtt) ph.since ≡ a → nat_le (ph.began + 2 * p.grtt) last ≡ b
            → (not (a || b) || is_spent p (run p events)) ≡ true → (ph.began + p.grtt < last_closing ph.since turn.happened) ⊎ (ph.began + 2 * p.grtt ≤ now) → LastIs
            → is_spent p after ≡ true
        was true b e g k late l = spent_on k
        was false true e g k late l = spent_on k
        was false false e g k (inl far) (Before is) = absurd (let le = not_lt (ph.began + p.grtt) ph.since e in omega (arith, le, far, is))
        was false false e g k (inr long) (Before is) =
            out_then (let le = not_lt (ph.began + p.grtt) ph.since e in omega (arith, le, is)) long
        was false false e g k (inl far) (Due x open_then due is) =
            spent_on (out_before (not_lt (ph.began + p.grtt) ph.since e) x open_then due (omega (arith, far, is)))
        was false false e g k (inr long) (Due x open_then due is) =
            spent_on (out_before (not_lt (ph.began + p.grtt) ph.since e) x open_then due (let least = some in omega (arith, long, least)))

        so : (ph.began + p.grtt < last_closing ph.since turn.happened) ⊎ (ph.began + 2 * p.grtt ≤ now) → is_spent p after ≡ true
        so late = was (nat_lt (ph.began + p.grtt) ph.since) (nat_le (ph.began + 2 * p.grtt) last) refl refl h.spent late last_is

        go : (a b : Bool) → nat_lt (ph.began + p.grtt) (last_closing ph.since turn.happened) ≡ a → nat_le (ph.began + 2 * p.grtt) now ≡ b
            → (not (a || b) || is_spent p after) ≡ true
        go false false e g = refl
        go true b e g = so (inl ((Decides-ltb (ph.began + p.grtt) (last_closing ph.since turn.happened)).0 e))
        go false true e g = so (inr (le_of (ph.began + 2 * p.grtt) now g))
