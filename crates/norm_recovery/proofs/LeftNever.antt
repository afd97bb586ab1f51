-- Over a turn no more is left: a closing only adds wants, and what the tick sends every member has at the turn's end.
use Rattle.std.proofs.Common.{◌≡◌, ℕ, ◌≤◌, List, [], ◌∷◌, length, Bool, true, false, Option, None, Some, refl, sym, ap, ◌∙◌, subst, arith}
use Rattle.std.specs.Prelude.{◌==◌, ◌&&◌, ◌||◌, not, filter, find, nat_le}
use Rattle.std.specs.List.{AllByRecursion, list_all}
use Rattle.norm_base.specs.Members.{receivers_of}
use Rattle.norm_base.specs.Settings.{Settings, InRange}
use Rattle.norm_base.specs.declared.kinds.Mode.TheVariants.{Hold}
use Rattle.norm_order.specs.Sets.{is_member}
use Rattle.norm_receive_rules.specs.ReceiverState.{ReceiverState}
use Rattle.norm_send_rules.specs.Closing.{round_closed}
use Rattle.norm_send_rules.specs.InWindow.{stands_behind}
use Rattle.norm_send_rules.specs.Laws.{WantsHold, AreInWindow}
use Rattle.norm_send_rules.specs.Repairable.{streams}
use Rattle.norm_send_rules.specs.SenderState.{SenderState, Instance, Round}
use Rattle.norm_send_rules.specs.Ticking.{closed_where_due, ticked}
use Rattle.norm_send_rules.specs.Wants.{want_before}
use Rattle.norm_send_rules.specs.Watermarks.{has_member}
use Rattle.norm_send_rules.specs.declared.want.Want.{Want}
use Rattle.norm_send_rules.proofs.ShapeLemmas.{blocks_of}
use Rattle.norm_send_rules.proofs.StepLemmas.{due_holds}
use Rattle.norm_safety.specs.Events.{Event, Ticked}
use Rattle.norm_safety.specs.Tail.{Course, course_from, events_of, comes, sender_ticks, tail_turn}
use Rattle.norm_safety.specs.World.{World, receiver_at}
use Rattle.norm_safety.specs.WorldLaws.{nodes_of}
use Rattle.norm_safety.specs.WorldStep.{run}
use Rattle.norm_safety.proofs.EntryLemmas.{clash}
use Rattle.norm_safety.proofs.FreshRun.{Differ, receivers_rise, each_found}
use Rattle.norm_safety.proofs.OrderRun.{found_holds}
use Rattle.norm_safety.proofs.WantRunLemmas.{wants_hold_in_runs}
use Rattle.norm_safety.proofs.WorldLemmas.{world_laws}
use Rattle.norm_laws.proofs.LaterTailLemmas.{Quiet}
use Rattle.norm_recovery.specs.Left.{held_for, is_had, will_have, all_will_have, in_window, left}
use Rattle.norm_recovery.specs.LeftNeverRises.{LeftNeverRises}
use Rattle.norm_recovery.specs.TailKeeps.{Stays}
use Rattle.norm_recovery.specs.TailLawful.{MayGoOn}
use Rattle.norm_recovery.proofs.KeepsSender.{stays_itself, quiet_run_stays}
use Rattle.norm_recovery.proofs.LeftHeard.{or_right}
use Rattle.norm_recovery.proofs.LeftSent.{wanted_had}
use Rattle.norm_recovery.proofs.LeftStays.{more_pass}
use Rattle.norm_recovery.proofs.LeftTick.{due_lowers, Goes, Leaves, Brings, tick_goes}
use Rattle.norm_recovery.proofs.LeftTurn.{same_members, turn_had, turn_sends}
use Rattle.norm_recovery.proofs.MembersEnter.{members_enter}
use Rattle.norm_recovery.proofs.MembersRun.{no_node}
use Rattle.norm_recovery.proofs.PassTurn.{is_other}
use Rattle.norm_recovery.proofs.RunsOutTail.{own_tick, quiet_rests}
use Rattle.norm_recovery.proofs.RunsOutTurns.{IsAt, tells_keep, round_keeps}
use Rattle.norm_recovery.proofs.TailCourses.{IsCalm, comes_calm, begins_calm, draw_calm}
use Rattle.norm_recovery.proofs.TailWalk.{no_receiver, turn_keeps}

none_some : {X : Type 0} (x : X) → None ≡ Some x → ⊥
none_some x e = cc

-- ---- a turn changes wants in its tick alone

pub turn_wants : (p : Settings) (draws : ℕ → ℕ) (now : ℕ) (w : World) → (tail_turn p draws now (course_from w)).world.sender.wants ≡ (ticked p w.sender now).0.wants
turn_wants p draws now w =
    round_keeps p draws now Kept each drawn (sender_ticks p now (course_from w))
    (tells_keep p draws now Kept each drawn (comes p (Ticked p.sender now) (course_from w)) (ap (λ (s : SenderState). s.wants) (own_tick p w now)))
  where
    Kept : Course → Type 0
    Kept c = c.world.sender.wants ≡ (ticked p w.sender now).0.wants

    each : (e : Event) → Quiet p e → IsAt now e → (c : Course) → c.world.sender.wants ≡ (ticked p w.sender now).0.wants
        → (comes p e c).world.sender.wants ≡ (ticked p w.sender now).0.wants
    each e quiet by c h = (quiet_rests p c.world e quiet).wants ∙ h

    drawn : (c : Course) (n : ℕ) → c.world.sender.wants ≡ (ticked p w.sender now).0.wants → c.world.sender.wants ≡ (ticked p w.sender now).0.wants
    drawn c n h = h

-- a closing that is due leaves all but the wants
pub closed_stays : (p : Settings) (now : ℕ) (s : SenderState) → Stays s (closed_where_due p now s)
closed_stays p now s = go s.round
  where
    by : (r : Round) (b : Bool) → Stays s (elim b [ true ↦ round_closed p r s | false ↦ s ])
    by r true = record { earlier = refl; current = refl; members = refl; struck = refl; marks = refl }
    by r false = stays_itself s

    go : (round : Option Round) → Stays s (elim round [ Some r ↦ elim (nat_le r.closes now) [ true ↦ round_closed p r s | false ↦ s ] | None ↦ s ])
    go (Some r) = by r (nat_le r.closes now)
    go None = stays_itself s

-- ---- all members

-- a test that passes for each receiver by its node passes for all
pub all_by_node : (test : ReceiverState → Bool) (w : World) → Differ (nodes_of w) → ((r : ReceiverState) → receiver_at w r.node ≡ Some r → test r ≡ true)
    → list_all test w.receivers ≡ true
all_by_node test w differ each = go w.receivers (each_found w.receivers differ)
  where
    both : (a b : Bool) → a ≡ true → b ≡ true → (a && b) ≡ true
    both true b e f = f
    both false b e f = absurd (clash e)

    go : (rs : List ReceiverState) → AllByRecursion (λ (r : ReceiverState). receiver_at w r.node ≡ Some r) rs → list_all test rs ≡ true
    go [] all = refl
    go (r ∷ rs) all = both (test r) (list_all test rs) (each r all.0) (go rs all.1)

pub all_true : (test : ReceiverState → Bool) (rs : List ReceiverState) → list_all test rs ≡ true → AllByRecursion (λ (r : ReceiverState). test r ≡ true) rs
all_true test [] e = tt
all_true test (r ∷ rs) e = go (test r) refl e (all_true test rs)
  where
    go : (b : Bool) → test r ≡ b → (b && list_all test rs) ≡ true
        → (list_all test rs ≡ true → AllByRecursion (λ (x : ReceiverState). test x ≡ true) rs) → AllByRecursion (λ (x : ReceiverState). test x ≡ true) (r ∷ rs)
    go true is e more = (is, more e)
    go false is e more = absurd (clash e)

-- what is wanted or will be had by all, each member will have
member_had : (p : Settings) (w : World) (z : Want) → (is_member want_before z w.sender.wants || all_will_have p w z) ≡ true → (node : ℕ) (r : ReceiverState)
    → receiver_at w node ≡ Some r → has_member r.node w.sender ≡ true → is_had w.sender.wants p w.sender (held_for w.sender r) z ≡ true
member_had p w z e node r found member = go (is_member want_before z w.sender.wants) refl e
  where
    own : (a b : Bool) → a ≡ true → (not a || b) ≡ true → b ≡ true
    own true b is e = e
    own false b is e = absurd (clash is)

    go : (b : Bool) → is_member want_before z w.sender.wants ≡ b → (b || all_will_have p w z) ≡ true
        → is_had w.sender.wants p w.sender (held_for w.sender r) z ≡ true
    go true wanted e = wanted_had w.sender.wants p w.sender (held_for w.sender r) z wanted
    go false wanted e =
        own (has_member r.node w.sender) (will_have p w.sender r z) member
        (found_holds (λ (x : ReceiverState). (not (has_member x.node w.sender) || will_have p w.sender x z) ≡ true) (λ (x : ReceiverState). x.node == node) w.receivers r
        (all_true (λ (x : ReceiverState). not (has_member x.node w.sender) || will_have p w.sender x z) w.receivers e) found)

-- what passes neither of two tests passed neither of those from which one of the two follows
neither : (a b c d : Bool) → ((a || b) ≡ true → (c || d) ≡ true) → (not c && not d) ≡ true → (not a && not b) ≡ true
neither false false c d f e = refl
neither true b true d f e = absurd (clash e)
neither true b false true f e = absurd (clash e)
neither true b false false f e = absurd (clash (f refl))
neither false true true d f e = absurd (clash e)
neither false true false true f e = absurd (clash e)
neither false true false false f e = absurd (clash (f refl))

-- ---- the law

module _ (p : Settings) (range : InRange p) (hold : p.mode ≡ Hold) (events : List Event) (may : MayGoOn p events) (none : streams (run p events).sender ≡ 0)
    (draws : ℕ → ℕ) (now : ℕ) where
  abbrev s : SenderState
  s = (run p events).sender

  -- after a closing that is due
  abbrev closed : SenderState
  closed = closed_where_due p now (run p events).sender

  abbrev before : World
  before = record (run p events) { sender = closed_where_due p now (run p events).sender }

  abbrev turn : Course
  turn = tail_turn p draws now (course_from (run p events))

  abbrev after : World
  after = (tail_turn p draws now (course_from (run p events))).world

  calm : IsCalm p (run p events) turn
  calm = turn_keeps p draws (IsCalm p (run p events)) (λ c h. h.nodes ∙ world_laws.nodes p events) (comes_calm p (run p events)) (draw_calm p (run p events)) now
      (course_from (run p events)) (begins_calm p (run p events))

  stays : Stays s after.sender
  stays = subst (λ (v : World). Stays s v.sender) calm.leads (quiet_run_stays p (run p events) (events_of turn) calm.quiet)

  wants_hold : WantsHold p closed
  wants_hold = due_holds p (blocks_of p range) now s (wants_hold_in_runs p events range)

  -- a member will have after the turn what it would have had after the closing
  goes_on : (z : Want) (node : ℕ) (r : ReceiverState) → receiver_at (run p events) node ≡ Some r → (node == p.sender) ≡ false → has_member node s ≡ true
      → is_had closed.wants p s (held_for s r) z ≡ true → (x : ReceiverState) → receiver_at after node ≡ Some x
      → is_had (ticked p s now).0.wants p s (held_for s x) z ≡ true
  goes_on z node r found other member e x there = by (tick_goes p now s)
    where
      by : Goes closed (ticked p s now) → is_had (ticked p s now).0.wants p s (held_for s x) z ≡ true
      by (Leaves same) =
          (turn_had p range events may node other draws now r found (ticked p s now).0.wants z
          (ap (λ (ws : List Want). is_had ws p s (held_for s r) z) same ∙ e)).had x there
      by (Brings y d first gives brings_it) =
          (turn_sends p range events may node other draws now r found hold none member d (members_enter.own p range events may.lawful may.jobs now d gives) y brings_it
          behind (ticked p s now).0.wants z gives (ap (λ (ws : List Want). is_had ws p s (held_for s r) z) (sym first) ∙ e)).had x there
        where
          behind : stands_behind s.current.drop y ≡ true
          behind = ap (λ (i : Instance). stands_behind i.drop y) (sym (closed_stays p now s).current)
              ∙ (subst (AreInWindow closed) first wants_hold.in_window).0

  -- so what all will have they will have after the turn
  all_go_on : (z : Want) → (is_member want_before z closed.wants || all_will_have p before z) ≡ true → all_will_have p after z ≡ true
  all_go_on z e =
      all_by_node (λ (x : ReceiverState). not (has_member x.node after.sender) || will_have p after.sender x z) after differ
      (λ x there. one x there (has_member x.node after.sender) refl (receiver_at (run p events) x.node) refl)
    where
      nodes : nodes_of after ≡ receivers_of p p.receivers
      nodes = calm.nodes ∙ world_laws.nodes p events

      differ : Differ (nodes_of after)
      differ = subst Differ (sym nodes) (receivers_rise p p.receivers).1

      will : (x r : ReceiverState) → receiver_at after x.node ≡ Some x → receiver_at (run p events) x.node ≡ Some r → has_member x.node after.sender ≡ true
          → will_have p after.sender x z ≡ true
      will x r there found member =
          let in_run : has_member x.node s ≡ true = sym (same_members s after.sender x.node stays.members) ∙ member in
          let is : r.node ≡ x.node = world_laws.found (run p events) x.node r found in
          let own : has_member r.node closed ≡ true =
          same_members s closed r.node (closed_stays p now s).members ∙ ap (λ (n : ℕ). has_member n s) is ∙ in_run in
          let had : is_had closed.wants p closed (held_for closed r) z ≡ true = member_had p before z e x.node r found own in
          let in_s : is_had closed.wants p s (held_for s r) z ≡ true =
          subst (λ (i : Instance). is_had closed.wants p (record s { current = i }) (held_for (record s { current = i }) r) z ≡ true) (closed_stays p now s).current had in
          let later : is_had (ticked p s now).0.wants p s (held_for s x) z ≡ true =
          goes_on z x.node r found (is_other p after nodes x.node x there) in_run in_s x there in
          subst (λ (ws : List Want). is_had ws p after.sender (held_for after.sender x) z ≡ true) (sym (turn_wants p draws now (run p events)))
          (subst (λ (i : Instance). is_had (ticked p s now).0.wants p (record s { current = i }) (held_for (record s { current = i }) x) z ≡ true) (sym stays.current) later)

      gone : (x : ReceiverState) → receiver_at after x.node ≡ Some x → receiver_at (run p events) x.node ≡ None → ⊥
      gone x there none =
          none_some x (sym (no_receiver x.node after.receivers
          (ap (find (λ (n : ℕ). n == x.node)) (nodes ∙ sym (world_laws.nodes p events)) ∙ no_node x.node (run p events).receivers none)) ∙ there)

      one : (x : ReceiverState) → receiver_at after x.node ≡ Some x → (b : Bool) → has_member x.node after.sender ≡ b → (o : Option ReceiverState)
          → receiver_at (run p events) x.node ≡ o → (not b || will_have p after.sender x z) ≡ true
      one x there false member o found = refl
      one x there true member None found = absurd (gone x there found)
      one x there true member (Some r) found = will x r there found member

  window : in_window p after.sender ≡ in_window p closed
  window = ap (λ (i : Instance). in_window p (record closed { current = i })) (stays.current ∙ sym (closed_stays p now s).current)

  abbrev test : World → Want → Bool
  test w y = not (is_member want_before y w.sender.wants) && not (all_will_have p w y)

  no_more : length (filter (test after) (in_window p closed)) ≤ length (filter (test before) (in_window p closed))
  no_more =
      more_pass (test after) (test before) (in_window p closed)
      (λ y. neither (is_member want_before y closed.wants) (all_will_have p before y) (is_member want_before y after.sender.wants) (all_will_have p after y)
      (λ e. or_right (is_member want_before y after.sender.wants) (all_will_have p after y) (all_go_on y e)))

  -- no more is left than after the closing
  pub turn_lowers : left p (tail_turn p draws now (course_from (run p events))).world ≤ left p (record (run p events) { sender = closed_where_due p now (run p events).sender })
  turn_lowers = let same = ap (λ (ys : List Want). length (filter (test after) ys)) window in let turned = no_more in omega (arith, same, turned)

  never_rises : left p after ≤ left p (run p events)
  never_rises =
      let same = ap (λ (ys : List Want). length (filter (test after) ys)) window in
      let closing = due_lowers p now (run p events) in
      let turned = no_more in
      omega (arith, same, closing, turned)

pub left_never_rises : LeftNeverRises
left_never_rises p range hold events may none draws now = never_rises p range hold events may none draws now
