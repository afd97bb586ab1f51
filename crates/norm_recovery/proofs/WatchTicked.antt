-- Over a turn everybody does what is due: acknowledgements go, and back-offs end, those of receivers that a flush asks a turn later.
use Rattle.std.proofs.Common.{◌≡◌, ℕ, ◌+◌, ◌*◌, ◌<◌, ◌≤◌, List, [], ◌∷◌, Bool, true, false, Option, None, Some, refl, sym, ap, ◌∙◌, subst, arith, ◌⊎◌, inl, inr}
use Rattle.std.specs.Prelude.{◌==◌, ◌&&◌, ◌||◌, find, min, nat_lt, nat_le, is_none, IfSome, Result, Ok, ⊤}
use Rattle.std.specs.List.{list_all}
use Rattle.std.proofs.lemmas.Bool.{cases_lt}
use Rattle.std.proofs.lemmas.Bool.Decides.{Decides-eqb, Decides-ltb}
use Rattle.norm_base.specs.Members.{receivers_of}
use Rattle.norm_base.specs.Settings.{Settings}
use Rattle.norm_ext.specs.Message.{Message, Info, Data, Flush, Squelch, Eot, RepairAdv, AckReq, Opaque, Nack, Ack, Report}
use Rattle.norm_ext.specs.Written.{Written, writes}
use Rattle.norm_ext.specs.declared.refusal.Refusal.{Refusal}
use Rattle.norm_order.specs.Entries.{Object, Whole, Stream}
use Rattle.norm_order.specs.Moments.{moment_after}
use Rattle.norm_receive_rules.specs.ReceiverState.{ReceiverState}
use Rattle.norm_receive_rules.specs.Receiving.{message_received, received}
use Rattle.norm_receive_rules.specs.Ticking.{ticked as receiver_ticked}
use Rattle.norm_send_rules.specs.Flushing.{most_flushes, may_flush, flushes_for, expired, flushes_oldest, flushes_no_more, flushed, flushes_in_turn, flushes}
use Rattle.norm_send_rules.specs.Messages.{squelch_message}
use Rattle.norm_send_rules.specs.SenderState.{SenderState, Round, Watermark}
use Rattle.norm_send_rules.specs.Sending.{message_of, object_of, repair_flags, repairs_next, next_new, sends, sends_new, behind}
use Rattle.norm_send_rules.specs.Ticking.{closed_where_due, sends_further, sends_wanted, sends_first, sends_in_time, ticked}
use Rattle.norm_send_rules.specs.Wants.{want_index}
use Rattle.norm_send_rules.specs.Watermarks.{oldest}
use Rattle.norm_send_rules.specs.declared.want.Want.{Want}
use Rattle.norm_send_rules.specs.declared.want.Want.TheVariants as want
use Rattle.norm_safety.specs.Events.{Event, Ticked}
use Rattle.norm_send_rules.specs.Repairable.{repairable}
use Rattle.norm_safety.specs.Tail.{Course, course_from, comes, sender_ticks, tail_turn}
use Rattle.norm_safety.specs.World.{World, receiver_at}
use Rattle.norm_safety.specs.WorldLaws.{nodes_of}
use Rattle.norm_safety.specs.WorldStep.{run}
use Rattle.norm_safety.proofs.EntryLemmas.{clash}
use Rattle.norm_safety.proofs.FreshRun.{Differ, receivers_rise}
use Rattle.norm_safety.proofs.OrderRun.{found_holds}
use Rattle.norm_safety.proofs.WorldLemmas.{world_laws}
use Rattle.norm_laws.proofs.LaterTailLemmas.{Quiet}
use Rattle.norm_recovery.specs.MembersEnter.{IsOwnMessage, IsOwn}
use Rattle.norm_recovery.specs.TailLawful.{MayGoOn}
use Rattle.norm_recovery.specs.Watch.{Phase, flushed_at, owes_nothing, has_waited, has_ticked, Watch}
use Rattle.norm_recovery.specs.WatchKeeps.{Follows}
use Rattle.norm_recovery.specs.WatchTicks.{WatchTicks}
use Rattle.norm_recovery.proofs.HeardSteps.{IsPlain}
use Rattle.norm_recovery.proofs.LeftNever.{all_by_node, all_true}
use Rattle.norm_recovery.proofs.MembersEnter.{members_enter}
use Rattle.norm_recovery.proofs.MembersRun.{no_node}
use Rattle.norm_recovery.proofs.NodeTurn.{node_turn}
use Rattle.norm_recovery.proofs.PassTurn.{is_other}
use Rattle.norm_recovery.proofs.RunsOutTail.{own_tick}
use Rattle.norm_recovery.proofs.RunsOutTurns.{IsAt, tells_keep, round_keeps}
use Rattle.norm_recovery.proofs.TailCourses.{IsCalm, comes_calm, begins_calm, draw_calm}
use Rattle.norm_recovery.proofs.TailWalk.{no_receiver, turn_keeps}
use Rattle.norm_recovery.proofs.TickDone.{IsNoFlush, hears_backoff, hears_owes, tick_done}
use Rattle.norm_recovery.proofs.WatchFlushes.{Counts, None_more, One_more, tick_count, le_of, event_count}

none_some : {X : Type 0} (x : X) → None ≡ Some x → ⊥
none_some x e = cc

same_some : {X : Type 0} (x y : X) → Some x ≡ Some y → x ≡ y
same_some x y e = cc

and_is : (a b : Bool) → a ≡ true → b ≡ true → (a && b) ≡ true
and_is true b e f = f
and_is false b e f = absurd (clash e)

left_is : (a b : Bool) → a ≡ true → (a || b) ≡ true
left_is true b e = refl
left_is false b e = absurd (clash e)

right_is : (a b : Bool) → b ≡ true → (a || b) ≡ true
right_is true b e = refl
right_is false b e = e

-- ---- what a tick of the sender gives

-- whatever it gives is no flush, or it flushed at that moment
abbrev SentSo : ℕ → SenderState × Option Written → Type 0
SentSo now step = (d : Written) → step.1 ≡ Some d → IsNoFlush d.message ⊎ (step.0.last_flush ≡ Some now)

no_flush_want : (p : Settings) (s : SenderState) (y : Want) (o : Object) (repair : ℕ) → IsNoFlush (message_of p s y o repair)
no_flush_want p s (want.Info index) (Whole kind (Some info) octets) repair = tt
no_flush_want p s (want.Info index) (Whole kind None octets) repair = tt
no_flush_want p s (want.Info index) (Stream parts) repair = tt
no_flush_want p s (want.Symbol at) o repair = tt

flush_sent : (p : Settings) (now : ℕ) (s : SenderState) → SentSo now (flushes p now s)
flush_sent p now s = go (may_flush p s now)
  where
    then_oldest : (w : Watermark) (next : Option Watermark)
        → SentSo now (elim next [ Some v ↦ flushes_for p now v (expired w.mark s) | None ↦ (expired w.mark s, None) ])
    then_oldest w (Some v) d e = inr refl
    then_oldest w None d e = absurd (none_some d e)

    no_more : (w : Watermark) (round : Option Round) → SentSo now (elim round [ Some r ↦ (s, None) | None ↦ flushes_oldest p now (expired w.mark s) ])
    no_more w (Some r) d e = absurd (none_some d e)
    no_more w None d e = then_oldest w (oldest (expired w.mark s)) d e

    counts : (w : Watermark) (b : Bool) → SentSo now (elim b [ true ↦ flushes_for p now w s | false ↦ flushes_no_more p now w s ])
    counts w true d e = inr refl
    counts w false d e = no_more w s.round d e

    turn : (found : Option Watermark) → SentSo now (elim found [ Some w ↦ flushed p now w s | None ↦ (s, None) ])
    turn (Some w) d e = counts w (nat_lt s.flushes most_flushes) d e
    turn None d e = absurd (none_some d e)

    go : (b : Bool) → SentSo now (elim b [ true ↦ flushes_in_turn p now s | false ↦ (s, None) ])
    go true d e = turn (oldest s) d e
    go false d e = absurd (none_some d e)

sends_sent : (p : Settings) (now : ℕ) (s : SenderState) → SentSo now (sends_in_time p now s)
sends_sent p now s = go (nat_lt now s.next_send)
  where
    of_want : (t : SenderState) (y : Want) (repair : ℕ) (d : Written) → Some (writes (message_of p t y (object_of t y) repair) (want_index y ∷ [])) ≡ Some d → IsNoFlush d.message
    of_want t y repair d e = subst IsNoFlush (ap (λ (x : Written). x.message) (same_some (writes (message_of p t y (object_of t y) repair) (want_index y ∷ [])) d e))
        (no_flush_want p t y (object_of t y) repair)

    further : (found : Option Want) → SentSo now (elim found as (λ _. SenderState × Option Written) [ Some y ↦ sends_new p now y s | None ↦ flushes p now s ])
    further (Some y) d e = inl (of_want (record s { next = behind y }) y 0 d e)
    further None d e = flush_sent p now s d e

    wanted : (wants : List Want) → SentSo now (elim wants as (λ _. SenderState × Option Written) [ [] ↦ sends_further p now s | y ∷ more ↦ repairs_next p now y more s ])
    wanted [] d e = further (next_new p s) d e
    wanted (y ∷ more) d e = inl (of_want (record s { wants = more }) y (repair_flags p (object_of (record s { wants = more }) y) y) d e)

    first : (b : Bool) → SentSo now (elim b as (λ _. SenderState × Option Written) [
      | true ↦ sends p now (writes (squelch_message p s s.current.drop) (s.current.drop.index ∷ [])) (record s { squelch_due = false })
      | false ↦ sends_wanted p now s
    ])
    first true d e = inl (subst IsNoFlush (ap (λ (x : Written). x.message) (same_some (writes (squelch_message p s s.current.drop) (s.current.drop.index ∷ [])) d e)) tt)
    first false d e = wanted s.wants d e

    go : (b : Bool) → SentSo now (elim b as (λ _. SenderState × Option Written) [ true ↦ (s, None) | false ↦ sends_first p now s ])
    go true d e = absurd (none_some d e)
    go false d e = first s.squelch_due d e

-- ---- the turn

module _ (p : Settings) (events : List Event) (last : ℕ) (draws : ℕ → ℕ) (f : Follows p events last) (may : MayGoOn p events) (goes : 1 ≤ p.step) where
  abbrev s : SenderState
  s = (run p events).sender

  abbrev now : ℕ
  now = last + p.step

  abbrev tick : SenderState
  tick = (ticked p (run p events).sender (last + p.step)).0

  abbrev after : World
  after = (tail_turn p draws (last + p.step) (course_from (run p events))).world

  -- the turn flushed
  abbrev Flushes : Type 0
  Flushes = (ticked p (run p events).sender (last + p.step)).0.last_flush ≡ Some (last + p.step)

  fits : last + p.step ≤ 18446744073709551615
  fits = let most = f.fits in omega (arith, most)

  -- the last flush is that of the tick
  flush_stays : (tail_turn p draws (last + p.step) (course_from (run p events))).world.sender.last_flush ≡ (ticked p (run p events).sender (last + p.step)).0.last_flush
  flush_stays =
      round_keeps p draws now Kept each (λ c n h. h) (sender_ticks p now (course_from (run p events)))
      (tells_keep p draws now Kept each (λ c n h. h) (comes p (Ticked p.sender now) (course_from (run p events))) (ap (λ (t : SenderState). t.last_flush) (own_tick p (run p events) now)))
    where
      Kept : Course → Type 0
      Kept c = c.world.sender.last_flush ≡ tick.last_flush

      each : (e : Event) → Quiet p e → IsAt now e → (c : Course) → c.world.sender.last_flush ≡ tick.last_flush → (comes p e c).world.sender.last_flush ≡ tick.last_flush
      each e quiet at c h = (event_count p c.world e quiet).last ∙ h

  -- a test of each receiver, by what it was
  each_receiver : (test : ReceiverState → Bool) → ((x r : ReceiverState) → (x.node == p.sender) ≡ false → receiver_at (run p events) x.node ≡ Some r
      → receiver_at (tail_turn p draws (last + p.step) (course_from (run p events))).world x.node ≡ Some x → test x ≡ true)
      → list_all test (tail_turn p draws (last + p.step) (course_from (run p events))).world.receivers ≡ true
  each_receiver test each = all_by_node test after differ (λ x there. one x there (receiver_at (run p events) x.node) refl)
    where
      calm : IsCalm p (run p events) (tail_turn p draws (last + p.step) (course_from (run p events)))
      calm = turn_keeps p draws (IsCalm p (run p events)) (λ c h. h.nodes ∙ world_laws.nodes p events) (comes_calm p (run p events)) (draw_calm p (run p events)) now
          (course_from (run p events)) (begins_calm p (run p events))

      nodes : nodes_of after ≡ receivers_of p p.receivers
      nodes = calm.nodes ∙ world_laws.nodes p events

      differ : Differ (nodes_of after)
      differ = subst Differ (sym (calm.nodes ∙ world_laws.nodes p events)) (receivers_rise p p.receivers).1

      one : (x : ReceiverState) → receiver_at after x.node ≡ Some x → (o : Option ReceiverState) → receiver_at (run p events) x.node ≡ o → test x ≡ true
      one x there None none =
          absurd (none_some x (sym (no_receiver x.node after.receivers
          (ap (find (λ (n : ℕ). n == x.node)) (nodes ∙ sym (world_laws.nodes p events)) ∙ no_node x.node (run p events).receivers none)) ∙ there))
      one x there (Some r) found = each x r (is_other p after nodes x.node x there) found there

  -- ---- nobody owes an acknowledgement

  acked : list_all owes_nothing (tail_turn p draws (last + p.step) (course_from (run p events))).world.receivers ≡ true
  acked = each_receiver owes_nothing (λ x r other found there. ap (λ o. is_none o)
      (node_turn p f.profile events may x.node other draws now (λ t. ⊤) (λ t. t.knows.due ≡ None) (record { heard = λ t heard h. tt }) (λ t h. tt)
      (record { heard = λ t heard h. h }) (λ t h. (tick_done p (λ n. ⊤) t now).owes) r found tt (λ d gives t draw h. tt) x there))

  -- ---- back-offs

  module _ (B : ℕ → Type 0) (fresh : (ends : ℕ) → last + p.step ≤ ends → B ends) where
    -- before its tick
    abbrev Before : ReceiverState → Type 0
    Before t = ((t.knows.due ≡ None) ⊎ Flushes) × IfSome t.knows.backoff B

    -- and after it
    abbrev After : ReceiverState → Type 0
    After t = (t.knows.due ≡ None) × (IfSome t.knows.backoff (λ ends. last + p.step < ends) ⊎ (Flushes × IfSome t.knows.backoff B))

    ticks : (r : ReceiverState) → Before r → After (receiver_ticked p r (last + p.step)).0
    ticks r (inl none, b) = let d = tick_done p B r now in (d.owes, inl (d.later none))
    ticks r (inr gone, b) = let d = tick_done p B r now in (d.owes, inr (gone, d.keeps b))

    hears : (d : Written) → (ticked p (run p events).sender (last + p.step)).1 ≡ Some d → (r : ReceiverState) (draw : ℕ) → Before r → Before (received p r d.octets (last + p.step) draw)
    hears d gives r draw (owes, b) =
        subst (λ read. Before (message_received p now draw read r)) (sym own.read)
        (owed (sends_sent p now (closed_where_due p now s) d gives) owes, hears_backoff p now draw B fits fresh (Ok d.message) (plain d.message own.message) r b)
      where
        own : IsOwn p (run p events).sender.current.id d
        own = members_enter.own p f.profile events may.lawful may.jobs now d gives

        plain : (m : Message) → IsOwnMessage p (run p events).sender.current.id m → IsPlain (Ok m)
        plain (Info m) is = tt
        plain (Data m) is = tt
        plain (Flush m) is = tt
        plain (Squelch m) is = tt
        plain (Eot m) is = tt
        plain (RepairAdv m) is = is
        plain (AckReq m) is = tt
        plain (Opaque m) is = tt
        plain (Nack m) is = is
        plain (Ack m) is = tt
        plain (Report m) is = tt

        said : Result Message Refusal
        said = Ok d.message

        owed : IsNoFlush d.message ⊎ Flushes → (r.knows.due ≡ None) ⊎ Flushes → ((message_received p now draw said r).knows.due ≡ None) ⊎ Flushes
        owed (inr gone) o = inr gone
        owed (inl other) (inr gone) = inr gone
        owed (inl other) (inl none) = inl (hears_owes p now draw d.message other (plain d.message own.message) r none)

    at_end : (x r : ReceiverState) → (x.node == p.sender) ≡ false → receiver_at (run p events) x.node ≡ Some r
        → receiver_at (tail_turn p draws (last + p.step) (course_from (run p events))).world x.node ≡ Some x → Before r → After x
    at_end x r other found there before =
        node_turn p f.profile events may x.node other draws now Before After (record { heard = λ t heard h. h }) (λ t h. h)
        (record { heard = λ t heard h. h }) ticks r found before hears x there

  -- ---- the phase

  module _ (ph : Phase) (h : Watch p ph last (run p events)) where
    -- a test of each receiver as the turn begins
    each_was : (soon : Bool) (test : ReceiverState → Bool) → (soon || list_all test (run p events).receivers) ≡ true → soon ≡ false → (node : ℕ) (r : ReceiverState)
        → receiver_at (run p events) node ≡ Some r → test r ≡ true
    each_was true test e off node r found = absurd (clash (sym off))
    each_was false test e off node r found =
        found_holds (λ (x : ReceiverState). test x ≡ true) (λ (x : ReceiverState). x.node == node) (run p events).receivers r (all_true test (run p events).receivers e) found

    not_soon : (a b : ℕ) → b ≤ a → nat_lt a b ≡ false
    not_soon a b le = go (nat_lt a b) refl
      where
        go : (c : Bool) → nat_lt a b ≡ c → c ≡ false
        go true e = absurd (let lt = (Decides-ltb a b).0 e in omega (arith, lt, le))
        go false e = refl

    owed_none : ph.began + p.step ≤ last → (node : ℕ) (r : ReceiverState) → receiver_at (run p events) node ≡ Some r → r.knows.due ≡ None
    owed_none le node r found =
        of_none r.knows.due (each_was (nat_lt last (ph.began + p.step)) owes_nothing h.acked (not_soon last (ph.began + p.step) le) node r found)
      where
        of_none : {X : Type 0} (o : Option X) → is_none o ≡ true → o ≡ None
        of_none None e = refl
        of_none (Some x) e = absurd (clash e)

    flushed_now : Flushes → flushed_at (last + p.step) after.sender ≡ true
    flushed_now gone =
        ap (λ (o : Option ℕ). elim o as (λ _. Bool) [ Some x ↦ x == last + p.step | None ↦ false ]) (flush_stays ∙ gone) ∙ (Decides-eqb (last + p.step) (last + p.step)).1 refl

    waited_one : (x : ReceiverState) → After (λ n. ⊤) (λ ends le. tt) x → has_waited (last + p.step) after.sender x ≡ true
    waited_one x (none, later) = go x.knows.backoff later
      where
        go : (found : Option ℕ) → IfSome found (λ ends. last + p.step < ends) ⊎ (Flushes × IfSome found (λ n. ⊤))
            → (elim found as (λ _. Bool) [ Some ends ↦ nat_lt (last + p.step) ends || flushed_at (last + p.step) after.sender | None ↦ true ]) ≡ true
        go None l = refl
        go (Some ends) (inl lt) = left_is (nat_lt (last + p.step) ends) (flushed_at (last + p.step) after.sender) ((Decides-ltb (last + p.step) ends).1 lt)
        go (Some ends) (inr (gone, b)) = right_is (nat_lt (last + p.step) ends) (flushed_at (last + p.step) after.sender) (flushed_now gone)

    any : (o : Option ℕ) → IfSome o (λ n. ⊤)
    any None = tt
    any (Some n) = tt

    waited : (nat_lt (last + p.step) (ph.began + 2 * p.step) || list_all (has_waited (last + p.step) after.sender) after.receivers) ≡ true
    waited = go (cases_lt (last + p.step) (ph.began + 2 * p.step))
      where
        go : (last + p.step < ph.began + 2 * p.step) ⊎ (ph.began + 2 * p.step ≤ last + p.step)
            → (nat_lt (last + p.step) (ph.began + 2 * p.step) || list_all (has_waited (last + p.step) after.sender) after.receivers) ≡ true
        go (inl lt) = left_is (nat_lt (last + p.step) (ph.began + 2 * p.step)) (list_all (has_waited (last + p.step) after.sender) after.receivers) ((Decides-ltb (last + p.step) (ph.began + 2 * p.step)).1 lt)
        go (inr le) =
            right_is (nat_lt (last + p.step) (ph.began + 2 * p.step)) (list_all (has_waited (last + p.step) after.sender) after.receivers)
            (each_receiver (has_waited (last + p.step) after.sender) (λ x r other found there. waited_one x
            (at_end (λ n. ⊤) (λ ends le. tt) x r other found there (inl (owed_none (omega (arith, le)) x.node r found), any r.knows.backoff))))

    -- two turns in a row do not both flush
    one_flush : flushed_at last s ≡ true → Flushes → ⊥
    one_flush was gone = go s.last_flush refl was (tick_count p now s)
      where
        step_fits : (m : ℕ) → 2 * (m + 1) * (p.gap + p.step) ≤ p.grtt → 2 * p.step ≤ p.grtt
        step_fits m le =
            let more : 2 * (m + 1) * (p.gap + p.step) ≡ 2 * (m * (p.gap + p.step)) + 2 * (p.gap + p.step) = grind arith in
            omega (arith, le, more)

        go : (found : Option ℕ) → s.last_flush ≡ found → (elim found as (λ _. Bool) [ Some x ↦ x == last | None ↦ false ]) ≡ true → Counts p now s tick → ⊥
        go None is e c = clash e
        go (Some before) is e (None_more n) =
            let same = (Decides-eqb before last).0 e in
            let now_is = same_some before (last + p.step) (sym is ∙ sym n.last ∙ gone) in omega (arith, same, now_is, goes)
        go (Some before) is e (One_more may few at) =
            let same = (Decides-eqb before last).0 e in
            let passed : min (before + 2 * p.grtt) 18446744073709551615 ≤ last + p.step =
            le_of (moment_after before (2 * p.grtt)) (last + p.step) (sym (ap may_of is) ∙ may) in
            let few = step_fits (repairable p s) f.twice in
            let most = f.fits in
            omega (arith, same, passed, few, most, goes)
          where
            may_of : Option ℕ → Bool
            may_of found = elim found [ Some x ↦ nat_le (moment_after x (2 * p.grtt)) now | None ↦ true ]

    ticked_one : (x : ReceiverState) → After (λ n. last + p.step < n + p.step) (λ ends le. omega (arith, le, goes)) x → has_ticked p (last + p.step) after.sender x ≡ true
    ticked_one x (none, later) = and_is (owes_nothing x) (ends_of x.knows.backoff) (ap (λ o. is_none o) none) (go x.knows.backoff later)
      where
        ends_of : Option ℕ → Bool
        ends_of found = elim found [ Some ends ↦ nat_lt (last + p.step) ends || flushed_at (last + p.step) after.sender && nat_lt (last + p.step) (ends + p.step) | None ↦ true ]

        go : (found : Option ℕ) → IfSome found (λ ends. last + p.step < ends) ⊎ (Flushes × IfSome found (λ n. last + p.step < n + p.step)) → ends_of found ≡ true
        go None l = refl
        go (Some ends) (inl lt) =
            left_is (nat_lt (last + p.step) ends) (flushed_at (last + p.step) after.sender && nat_lt (last + p.step) (ends + p.step)) ((Decides-ltb (last + p.step) ends).1 lt)
        go (Some ends) (inr (gone, lt)) =
            right_is (nat_lt (last + p.step) ends) (flushed_at (last + p.step) after.sender && nat_lt (last + p.step) (ends + p.step))
            (and_is (flushed_at (last + p.step) after.sender) (nat_lt (last + p.step) (ends + p.step)) (flushed_now gone) ((Decides-ltb (last + p.step) (ends + p.step)).1 lt))

    -- if its back-off did not run on as the turn began, the turn before flushed, and this one does not
    stays_one : (x : ReceiverState) → flushed_at last s ≡ true → After (λ n. ⊤) (λ ends le. tt) x → has_ticked p (last + p.step) after.sender x ≡ true
    stays_one x was (none, inl later) = ticked_one x (none, inl later)
    stays_one x was (none, inr (gone, b)) = absurd (one_flush was gone)

    one : ph.began + 2 * p.step ≤ last → (x r : ReceiverState) → (x.node == p.sender) ≡ false → receiver_at (run p events) x.node ≡ Some r
        → receiver_at (tail_turn p draws (last + p.step) (course_from (run p events))).world x.node ≡ Some x → has_ticked p (last + p.step) after.sender x ≡ true
    one le x r other found there =
        go r.knows.backoff refl (each_was (nat_lt last (ph.began + 2 * p.step)) (has_waited last s) h.waited (not_soon last (ph.began + 2 * p.step) le) x.node r found)
      where
        none : r.knows.due ≡ None
        none = owed_none (omega (arith, le)) x.node r found

        runs : IfSome r.knows.backoff (λ n. last + p.step < n + p.step) → has_ticked p (last + p.step) after.sender x ≡ true
        runs b = ticked_one x (at_end (λ n. last + p.step < n + p.step) (λ ends le. omega (arith, le, goes)) x r other found there (inl none, b))

        go : (found : Option ℕ) → r.knows.backoff ≡ found → (elim found as (λ _. Bool) [ Some ends ↦ nat_lt last ends || flushed_at last s | None ↦ true ]) ≡ true
            → has_ticked p (last + p.step) after.sender x ≡ true
        go None is e = runs (subst (λ o. IfSome o (λ n. last + p.step < n + p.step)) (sym is) tt)
        go (Some ends) is e = before (nat_lt last ends) refl e
          where
            before : (lt : Bool) → nat_lt last ends ≡ lt → (lt || flushed_at last s) ≡ true → has_ticked p (last + p.step) after.sender x ≡ true
            before true lt e =
                let less = (Decides-ltb last ends).0 lt in
                runs (subst (λ o. IfSome o (λ n. last + p.step < n + p.step)) (sym is) (omega (arith, less)))
            before false lt e = stays_one x e (at_end (λ n. ⊤) (λ ends le. tt) x r other found there (inl none, any r.knows.backoff))

    does : (nat_lt (last + p.step) (ph.began + 3 * p.step) || list_all (has_ticked p (last + p.step) after.sender) after.receivers) ≡ true
    does = go (cases_lt (last + p.step) (ph.began + 3 * p.step))
      where
        go : (last + p.step < ph.began + 3 * p.step) ⊎ (ph.began + 3 * p.step ≤ last + p.step)
            → (nat_lt (last + p.step) (ph.began + 3 * p.step) || list_all (has_ticked p (last + p.step) after.sender) after.receivers) ≡ true
        go (inl lt) = left_is (nat_lt (last + p.step) (ph.began + 3 * p.step)) (list_all (has_ticked p (last + p.step) after.sender) after.receivers) ((Decides-ltb (last + p.step) (ph.began + 3 * p.step)).1 lt)
        go (inr le) =
            right_is (nat_lt (last + p.step) (ph.began + 3 * p.step)) (list_all (has_ticked p (last + p.step) after.sender) after.receivers)
            (each_receiver (has_ticked p (last + p.step) after.sender) (one (omega (arith, le))))

pub watch_ticks : WatchTicks
watch_ticks = record { acked = acked; waited = waited; ticked = does }
