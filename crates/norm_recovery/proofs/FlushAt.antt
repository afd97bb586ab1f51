-- In the turn of a phase's flush each member that is behind after it is asked for, or backs off.
use Rattle.std.proofs.Common.{◌≡◌, ℕ, ◌+◌, ◌*◌, ◌<◌, ◌≤◌, List, Bool, true, false, Option, None, Some, refl, sym, ap, ◌∙◌, subst, arith, ◌⊎◌, inl, inr}
use Rattle.std.specs.Prelude.{◌==◌, ◌&&◌, ◌||◌, not, find, nat_lt, nat_le, IfSome}
use Rattle.std.specs.List.{list_all}
use Rattle.std.proofs.lemmas.Bool.{cases_lt}
use Rattle.std.proofs.lemmas.Bool.Decides.{Decides-eqb, Decides-ltb}
use Rattle.norm_base.specs.Members.{receivers_of}
use Rattle.norm_base.specs.Settings.{Settings}
use Rattle.fec_plan.specs.Points.{position_before}
use Rattle.fec_plan.specs.declared.position.Position.{Position}
use Rattle.norm_receive_rules.specs.AllNeeds.{needs_nothing}
use Rattle.norm_receive_rules.specs.Holding.{Holding, holding_nothing}
use Rattle.norm_receive_rules.specs.Leaving.{is_in}
use Rattle.norm_receive_rules.specs.ReceiverState.{ReceiverState}
use Rattle.norm_send_rules.specs.SenderState.{SenderState, Instance, Watermark}
use Rattle.norm_send_rules.specs.Ticking.{ticked}
use Rattle.norm_send_rules.specs.Watermarks.{oldest, has_member}
use Rattle.norm_safety.specs.Events.{Event}
use Rattle.norm_safety.specs.Tail.{Course, course_from, tail_turn}
use Rattle.norm_safety.specs.World.{World, receiver_at}
use Rattle.norm_safety.specs.WorldStep.{run}
use Rattle.norm_safety.proofs.EntryLemmas.{clash}
use Rattle.norm_safety.proofs.FreshRun.{receivers_rise}
use Rattle.norm_safety.proofs.OrderRun.{found_holds}
use Rattle.norm_safety.proofs.WorldLemmas.{world_laws}
use Rattle.norm_recovery.specs.Clean.{is_clean}
use Rattle.norm_recovery.specs.Flush.{KnowsFlush}
use Rattle.norm_recovery.specs.Watch.{Phase, is_asked, most_held, has_ticked, is_behind, is_waited, is_spent}
use Rattle.norm_recovery.specs.Left.{held_for}
use Rattle.norm_recovery.proofs.AskAfter.{same, asked_after, waits_after}
use Rattle.norm_recovery.proofs.BeforeFlush.{le_so, either, or_left, or_right}
use Rattle.norm_recovery.proofs.FlushTurn.{Known}
use Rattle.norm_recovery.proofs.NeedsMore.{needs_at}
use Rattle.norm_recovery.proofs.PhaseTurn.{InPhase}
use Rattle.norm_recovery.proofs.TailWalk.{no_receiver}
use Rattle.norm_recovery.proofs.WatchFlushes.{le_of}
use Rattle.norm_recovery.proofs.WatchTurn.{goes}
use Rattle.norm_recovery.proofs.WaitsAfter.{of_member, of_receiver, behind_of, not_so, false_so, inside_so, current_is, needs, late_clean, ends_late}
use Rattle.norm_recovery.proofs.AfterFlush.{few_of, any_of}
use Rattle.std.specs.Prelude.{is_some, is_none, option_and_then, unwrap_or, Result, Ok}
use Rattle.std.proofs.Common.{◌++◌}
use Rattle.norm_ext.specs.Message.{Message, Flush, FlushCommand}
use Rattle.norm_ext.specs.ObjectIds.{index_named}
use Rattle.norm_ext.specs.Reading.{decoded}
use Rattle.norm_ext.specs.Written.{Written}
use Rattle.norm_ext.specs.declared.refusal.Refusal.{Refusal}
use Rattle.norm_receive_rules.specs.BackingOff.{may_back_off, backs_off, backs_off_for_needs, may_need}
use Rattle.norm_receive_rules.specs.Leaving.{goes_to, enters, entered}
use Rattle.norm_receive_rules.specs.ReceiverState.{Knowledge}
use Rattle.norm_receive_rules.specs.ReceiverStep as receiver
use Rattle.norm_receive_rules.specs.Receiving.{flush_received, learns, takes_in, message_received, received}
use Rattle.norm_safety.specs.Events.{Delivered}
use Rattle.norm_safety.specs.Tail.{events_of, comes, passes_on, sender_ticks}
use Rattle.norm_safety.specs.WorldLaws.{to_receiver}
use Rattle.norm_laws.proofs.LaterTailLemmas.{not_sender}
use Rattle.norm_recovery.specs.BackOffEnds.{IsAsked}
use Rattle.norm_recovery.specs.TailLawful.{GoesOn}
use Rattle.norm_recovery.specs.Timely.{ReceiverTimely}
use Rattle.norm_recovery.proofs.AskAfter.{asked_of}
use Rattle.norm_recovery.proofs.BackOffTurn.{Running, running_on, running_drawn, Outcome, all_served}
use Rattle.norm_recovery.proofs.CleanTurn.{Clean, each_there, clean_passed}
use Rattle.norm_recovery.proofs.FlushConfirmed.{copies_spare}
use Rattle.norm_recovery.proofs.FlushKnown.{flush_of, GivesFlush, flush_command, FlushSays, flush_says, HearsIt, hears_it}
use Rattle.norm_recovery.proofs.FlushTurn.{arrives, known_after}
use Rattle.norm_recovery.proofs.LawfulTail.{goes_on}
use Rattle.norm_recovery.proofs.PassTurn.{same_id, Waits as PassWaits, comes_lawfully, passed}
use Rattle.norm_recovery.proofs.WaitsAfter.{held_is}

-- ---- a receiver hears a flush

-- as it hears it, it may need something
hears_is : (p : Settings) (r x : ReceiverState) (octets : List ℕ) (now draw index : ℕ) (m : FlushCommand) → decoded octets ≡ Ok (Flush m) → m.head.source ≡ p.sender
    → entered r m.head.instance ≡ Some x → index_named p x.knows.known m.object ≡ Some index
    → received p r octets now draw ≡ may_need p now draw (flush_received m index (record x { knows = learns index x.knows }))
hears_is p r x octets now draw index m read source enters_it named =
    ap (λ (said : Result Message Refusal). message_received p now draw said r) read
    ∙ ap (λ (b : Bool). elim b as (λ _. ReceiverState) [
      | true ↦ unwrap_or (option_and_then (takes_in p now draw m.object (flush_received m)) (entered r m.head.instance)) r
      | false ↦ r
    ]) ((Decides-eqb m.head.source p.sender).1 source)
    ∙ ap (λ (o : Option ReceiverState). unwrap_or (option_and_then (takes_in p now draw m.object (flush_received m)) o) r) enters_it
    ∙ ap (λ (o : Option ℕ). unwrap_or (elim o as (λ _. Option ReceiverState) [
      | Some i ↦ Some (may_need p now draw (flush_received m i (record x { knows = learns i x.knows })))
      | None ↦ None
    ]) r) named

-- it holds what it held
need_holds : (p : Settings) (now draw : ℕ) (f : ReceiverState) → (may_need p now draw f).holding ≡ f.holding
need_holds p now draw f = go (may_back_off now f.knows)
  where
    by : (b : Bool) → (elim b as (λ _. ReceiverState) [ true ↦ f | false ↦ record f { knows = backs_off p now draw f.knows } ]).holding ≡ f.holding
    by true = refl
    by false = refl

    go : (b : Bool) → (elim b as (λ _. ReceiverState) [ true ↦ backs_off_for_needs p now draw f | false ↦ f ]).holding ≡ f.holding
    go true = by (needs_nothing p f)
    go false = refl

-- if it may back off, and needs something then, it backs off
need_backs : (p : Settings) (now draw : ℕ) (f : ReceiverState) → may_back_off now f.knows ≡ true → needs_nothing p (may_need p now draw f) ≡ false
    → is_some (may_need p now draw f).knows.backoff ≡ true
need_backs p now draw f may needs = go (needs_nothing p f) refl
  where
    backs : (b : Bool) → needs_nothing p f ≡ b → may_need p now draw f
        ≡ (elim b as (λ _. ReceiverState) [ true ↦ f | false ↦ record f { knows = backs_off p now draw f.knows } ])
    backs b e =
        ap (λ (c : Bool). elim c as (λ _. ReceiverState) [ true ↦ backs_off_for_needs p now draw f | false ↦ f ]) may
        ∙ ap (λ (c : Bool). elim c as (λ _. ReceiverState) [ true ↦ f | false ↦ record f { knows = backs_off p now draw f.knows } ]) e

    go : (b : Bool) → needs_nothing p f ≡ b → is_some (may_need p now draw f).knows.backoff ≡ true
    go true e = absurd (clash (sym needs ∙ ap (needs_nothing p) (backs true e) ∙ e))
    go false e = ap (λ (y : ReceiverState). is_some y.knows.backoff) (backs false e)

-- it is in the instance, or goes on to it
pub data EnteredBy (r x : ReceiverState) (id : ℕ) : Type 0 where
  Inside : is_in r id ≡ true → x ≡ r → EnteredBy r x id
  Outside : is_in r id ≡ false → x ≡ enters id r → EnteredBy r x id

pub entered_by : (r x : ReceiverState) (id : ℕ) → entered r id ≡ Some x → EnteredBy r x id
entered_by r x id e = go (is_in r id) refl e
  where
    same_some : (a c : ReceiverState) → Some a ≡ Some c → c ≡ a
    same_some a c e = cc

    none_some : None ≡ Some x → ⊥
    none_some e = cc

    out : is_in r id ≡ false → (b : Bool) → (elim b as (λ _. Option ReceiverState) [ true ↦ Some (enters id r) | false ↦ None ]) ≡ Some x → EnteredBy r x id
    out is true f = Outside is (same_some (enters id r) x f)
    out is false f = absurd (none_some f)

    go : (b : Bool) → is_in r id ≡ b
        → (elim b as (λ _. Option ReceiverState) [ true ↦ Some r | false ↦ elim (goes_to r id) [ true ↦ Some (enters id r) | false ↦ None ] ]) ≡ Some x → EnteredBy r x id
    go true is f = Inside is (same_some r x f)
    go false is f = out is (goes_to r id) f

may_so : (now : ℕ) (k : Knowledge) → k.backoff ≡ None → k.holdoff ≤ now → may_back_off now k ≡ true
may_so now k none le =
    ap (λ (o : Option ℕ). is_none o && not (nat_lt now k.holdoff)) none
    ∙ ap not (false_so (nat_lt now k.holdoff) (λ e. let lt = (Decides-ltb now k.holdoff).0 e in omega (arith, lt, le)))

may_enter : (now : ℕ) (r x : ReceiverState) (id : ℕ) → EnteredBy r x id → r.knows.backoff ≡ None → r.knows.holdoff ≤ now → may_back_off now x.knows ≡ true
may_enter now r x id (Inside is same) none le = ap (λ (y : ReceiverState). may_back_off now y.knows) same ∙ may_so now r.knows none le
may_enter now r x id (Outside is same) none le = ap (λ (y : ReceiverState). may_back_off now y.knows) same ∙ may_so now (enters id r).knows refl (omega arith)

held_enter : (s : SenderState) (r x : ReceiverState) → EnteredBy r x s.current.id → x.holding ≡ held_for s r
held_enter s r x (Inside is same) = ap (λ (y : ReceiverState). y.holding) same ∙ sym (held_is s r is)
held_enter s r x (Outside is same) =
    ap (λ (y : ReceiverState). y.holding) same ∙ sym (ap (λ (b : Bool). elim b as (λ _. Holding) [ true ↦ r.holding | false ↦ holding_nothing ]) is)

-- ---- the turn

module _ (p : Settings) (events : List Event) (last : ℕ) (draws : ℕ → ℕ) (ph : Phase) (h : InPhase p events last ph) (spent : is_spent p (run p events) ≡ true)
    (w : Watermark) (old : oldest (run p events).sender ≡ Some w)
    (kept : oldest (tail_turn p draws (last + p.step) (course_from (run p events))).world.sender ≡ Some w)
    (gives : GivesFlush p (last + p.step) (run p events).sender w) (late : most_held p ph ≤ last + p.step) where
  abbrev s : SenderState
  s = (run p events).sender

  abbrev after : World
  after = (tail_turn p draws (last + p.step) (course_from (run p events))).world

  abbrev u : SenderState
  u = (tail_turn p draws (last + p.step) (course_from (run p events))).world.sender

  -- how late the turn is
  far : ph.began + 3 * p.step ≤ last
  far =
      let a : (2 * p.k + 4) * p.grtt ≡ 2 * (p.k * p.grtt) + 4 * p.grtt = grind arith in
      let few = few_of p events last ph h in
      let begins = late in
      omega (arith, a, begins, few)

  ends_far : (ends : ℕ) → last < ends + p.step → ph.began + (p.k + 2) * p.grtt + 1 ≤ ends
  ends_far ends lt =
      let a : (2 * p.k + 4) * p.grtt ≡ 2 * (p.k * p.grtt) + 4 * p.grtt = grind arith in
      let d : (p.k + 2) * p.grtt ≡ p.k * p.grtt + 2 * p.grtt = grind arith in
      let begins = late in
      let few = few_of p events last ph h in
      let some = h.follows.profile.grtt.0 in
      omega (arith, a, d, begins, lt, few, some)

  ticked_before : list_all (has_ticked p last (run p events).sender) (run p events).receivers ≡ true
  ticked_before = go (either (nat_lt last (ph.began + 3 * p.step)) (list_all (has_ticked p last s) (run p events).receivers) h.watch.ticked)
    where
      go : (nat_lt last (ph.began + 3 * p.step) ≡ true) ⊎ (list_all (has_ticked p last s) (run p events).receivers ≡ true)
          → list_all (has_ticked p last s) (run p events).receivers ≡ true
      go (inl lt) = absurd (let less = (Decides-ltb last (ph.began + 3 * p.step)).0 lt in let le = far in omega (arith, less, le))
      go (inr e) = e

  -- ---- one member

  module _ (node : ℕ) (other : (node == p.sender) ≡ false) (member : has_member node (run p events).sender ≡ true) (r t : ReceiverState)
      (found : receiver_at (run p events) node ≡ Some r) (is : receiver_at (tail_turn p draws (last + p.step) (course_from (run p events))).world node ≡ Some t) where
    pub knows : KnowsFlush t (run p events).sender.current.id w.at
    knows = known_after p h.follows.profile events h.may draws (last + p.step) w gives node t is

    early : is_behind u t ≡ true → position_before w.at t.holding.point ≡ false
    early e = not_so (position_before w.at t.holding.point) (sym (behind_of u w t kept) ∙ e)

    -- what it held as the flush came, and before it was past the position
    held_t : held_for u t ≡ t.holding
    held_t = held_is u t (inside_so t u.current.id (knows.inside ∙ ap (λ (i : Instance). Some i.id) (sym (current_is p events last draws ph h spent w old kept))))

    pub point_same : t.holding.point ≡ (held_for (run p events).sender r).point
    point_same = ap (λ (x : Holding). x.point) (sym held_t) ∙ (same p events last draws ph h spent node other member r t found is).point

    timely_after : (m : ℕ) → t.knows.backoff ≡ Some m → m ≤ last + p.step + p.k * p.grtt
    timely_after m e =
        subst (λ (o : Option ℕ). IfSome o (λ m. m ≤ last + p.step + p.k * p.grtt)) e
        (found_holds (ReceiverTimely p (last + p.step)) (λ (x : ReceiverState). x.node == node) after.receivers t (goes p events last draws h.follows 0).timely.receivers is).backoff

    timely_before : (m : ℕ) → r.knows.backoff ≡ Some m → m ≤ last + p.step + p.k * p.grtt
    timely_before m e =
        let by : m ≤ last + p.k * p.grtt = subst (λ (o : Option ℕ). IfSome o (λ m. m ≤ last + p.k * p.grtt)) e
        (found_holds (ReceiverTimely p last) (λ (x : ReceiverState). x.node == node) (run p events).receivers r h.watch.timely.receivers found).backoff in
        omega (arith, by)

    abbrev Waited : Type 0
    Waited = (is_asked p u t || elim t.knows.backoff [ Some m ↦ nat_le m (last + p.step + p.k * p.grtt) | None ↦ false ]) ≡ true

    asked_so : is_asked p u t ≡ true → Waited
    asked_so e = or_left (is_asked p u t) (elim t.knows.backoff as (λ _. Bool) [ Some m ↦ nat_le m (last + p.step + p.k * p.grtt) | None ↦ false ]) e

    backs_so : is_some t.knows.backoff ≡ true → Waited
    backs_so e = or_right (is_asked p u t) (elim t.knows.backoff as (λ _. Bool) [ Some m ↦ nat_le m (last + p.step + p.k * p.grtt) | None ↦ false ])
        (go t.knows.backoff refl e)
      where
        go : (o : Option ℕ) → t.knows.backoff ≡ o → is_some o ≡ true
            → (elim t.knows.backoff as (λ _. Bool) [ Some m ↦ nat_le m (last + p.step + p.k * p.grtt) | None ↦ false ]) ≡ true
        go None f e = absurd (clash e)
        go (Some m) f e = ap (λ (o : Option ℕ). elim o as (λ _. Bool) [ Some m ↦ nat_le m (last + p.step + p.k * p.grtt) | None ↦ false ]) f
            ∙ le_so m (last + p.step + p.k * p.grtt) (timely_after m f)

    -- ---- it backed off before

    backed : is_behind u t ≡ true → (ends : ℕ) → r.knows.backoff ≡ Some ends → Waited
    backed e ends backs =
        waits_after p events last draws ph h spent node other member r t found is ends (last + p.step + p.k * p.grtt) backs (timely_before ends backs)
        (late_clean p events last draws ph h spent w old kept node other member r t found is knows ends backs
        (ends_far ends (ends_late p events last draws ph h spent w old kept last s r ends (of_receiver (has_ticked p last s) (run p events) ticked_before node r found) backs)))
        (needs p events last draws ph h spent w old kept node other member r t found is knows (early e))

    -- ---- it was held off

    held_off : (last + p.step < r.knows.holdoff) → Waited
    held_off lt =
        asked_so (asked_after p events last draws ph h spent node other member r t found is
        (go (either (nat_le r.knows.holdoff (most_held p ph)) (is_asked p s r)
        (of_member (λ (x : ReceiverState). nat_le x.knows.holdoff (most_held p ph) || is_asked p s x) (run p events) h.watch.held_off node r found member))))
      where
        go : (nat_le r.knows.holdoff (most_held p ph) ≡ true) ⊎ (is_asked p s r ≡ true) → is_asked p s r ≡ true
        go (inl e) = absurd (let le = le_of r.knows.holdoff (most_held p ph) e in let begins = late in omega (arith, le, begins, lt))
        go (inr e) = e

    -- ---- it begins to back off as it hears the flush

    module _ (free : r.knows.backoff ≡ None) (soon : r.knows.holdoff ≤ last + p.step) (behind : is_behind u t ≡ true) where
      d : Written
      d = flush_of p (run p events).sender w

      says : FlushSays p (run p events).sender (flush_of p (run p events).sender w).octets (flush_command p (run p events).sender w) w.at
      says = flush_says p h.follows.profile events h.may (last + p.step) w gives

      abbrev K : Course → Type 0
      K c = Running p h.follows.profile events h.may node other c

      hears : (c : Course) → PassWaits p h.follows.profile events h.may node other (flush_of p (run p events).sender w) r c
          → Running p h.follows.profile events h.may node other
          (comes p (Delivered node (flush_of p (run p events).sender w).octets (last + p.step) (draws c.used)) (record c { used = c.used + 1 }))
      hears c k = record {
        calm = next.calm;
        r = x;
        found = moved;
        runs = runs;
        inside = (next.knows x moved).inside;
      }
        where
          next_c : Course
          next_c = comes p (Delivered node (flush_of p (run p events).sender w).octets (last + p.step) (draws c.used)) (record c { used = c.used + 1 })

          next : Known p h.follows.profile events h.may node other w.at
              (comes p (Delivered node (flush_of p (run p events).sender w).octets (last + p.step) (draws c.used)) (record c { used = c.used + 1 }))
          next = arrives p h.follows.profile events h.may node other w.at (flush_of p (run p events).sender w) (flush_command p (run p events).sender w) says draws
              (last + p.step) r c k

          x : ReceiverState
          x = received p r (flush_of p (run p events).sender w).octets (last + p.step) (draws c.used)

          to_is : (os : List ℕ) (n draw : ℕ) → to_receiver (Delivered node os n draw) ≡ Some (node, receiver.Delivered os n draw)
          to_is os n draw = refl

          moved : receiver_at (comes p (Delivered node (flush_of p (run p events).sender w).octets (last + p.step) (draws c.used)) (record c { used = c.used + 1 })).world node
              ≡ Some (received p r (flush_of p (run p events).sender w).octets (last + p.step) (draws c.used))
          moved = world_laws.moves p c.world (Delivered node (flush_of p (run p events).sender w).octets (last + p.step) (draws c.used)) node
              (receiver.Delivered (flush_of p (run p events).sender w).octets (last + p.step) (draws c.used)) r other
              (to_is (flush_of p (run p events).sender w).octets (last + p.step) (draws c.used)) k.found

          on : GoesOn p events c
          on = goes_on p h.follows.profile events h.may c k.calm

          it : HearsIt p r (flush_command p (run p events).sender w) w.at
          it = hears_it p h.follows.profile (events ++ events_of c) on.again.lawful on.again.jobs on.again.few node other r
              (ap (λ (v : World). receiver_at v node) on.leads ∙ k.found) (flush_of p (run p events).sender w).octets (flush_command p (run p events).sender w) w.at says.read
              (sym (same_id p h.follows.profile events h.may node other c k.calm)) refl says.small
              (comes_lawfully p h.follows.profile events h.may node other (flush_of p (run p events).sender w) draws (last + p.step) r c k)

          by : EnteredBy r it.t s.current.id
          by = entered_by r it.t s.current.id it.enters

          f : ReceiverState
          f = flush_received (flush_command p s w) w.at.index (record (it.t) { knows = learns w.at.index it.t.knows })

          is_x : received p r (flush_of p (run p events).sender w).octets (last + p.step) (draws c.used)
              ≡ may_need p (last + p.step) (draws c.used) (flush_received (flush_command p (run p events).sender w) w.at.index (record (it.t) { knows = learns w.at.index it.t.knows }))
          is_x = hears_is p r it.t (flush_of p s w).octets (last + p.step) (draws c.used) w.at.index (flush_command p s w) says.read refl it.enters it.named

          point_x : (received p r (flush_of p (run p events).sender w).octets (last + p.step) (draws c.used)).holding.point ≡ t.holding.point
          point_x = ap (λ (y : ReceiverState). y.holding.point) is_x
              ∙ ap (λ (y : Holding). y.point) (need_holds p (last + p.step) (draws c.used) f ∙ held_enter s r it.t by) ∙ sym point_same

          needs_x : needs_nothing p (received p r (flush_of p (run p events).sender w).octets (last + p.step) (draws c.used)) ≡ false
          needs_x = needs_at p h.follows.profile h.holds events h.may h.none node other member w old next_c next.calm x moved (next.knows x moved)
              (ap (λ (at : Position). position_before w.at at) point_x ∙ early behind)

          runs : is_some (received p r (flush_of p (run p events).sender w).octets (last + p.step) (draws c.used)).knows.backoff ≡ true
          runs = ap (λ (y : ReceiverState). is_some y.knows.backoff) is_x
              ∙ need_backs p (last + p.step) (draws c.used) f (may_enter (last + p.step) r it.t s.current.id by free soon) (sym (ap (needs_nothing p) is_x) ∙ needs_x)

      there : find (λ (to : ℕ). to == node) (receivers_of p p.receivers) ≡ None → ⊥
      there nobody = none_some r (sym (no_receiver node (run p events).receivers (ap (find (λ (n : ℕ). n == node)) (world_laws.nodes p events) ∙ nobody)) ∙ found)
        where
          none_some : (x : ReceiverState) → None ≡ Some x → ⊥
          none_some x e = cc

      passed_runs : Running p h.follows.profile events h.may node other
          (passes_on p draws (last + p.step) (sender_ticks p (last + p.step) (course_from (run p events))) p.sender)
      passed_runs =
          passed p h.follows.profile events h.may draws (last + p.step) (flush_of p (run p events).sender w) gives.gives node other r found K hears
          (copies_spare p draws node K (running_on p h.follows.profile events h.may node other) (running_drawn p h.follows.profile events h.may node other) (last + p.step)
          p.sender (flush_of p (run p events).sender w).octets)

      passed_clean : Clean p h.follows.profile events h.may node other 0
          (passes_on p draws (last + p.step) (sender_ticks p (last + p.step) (course_from (run p events))) p.sender)
      passed_clean =
          clean_passed p h.follows.profile events h.may draws (last + p.step) 0 node other r found
          (ap (λ (o : Option ℕ). elim o as (λ _. Bool) [ Some m ↦ nat_lt m 0 || is_clean p (ticked p s (last + p.step)).0 r | None ↦ true ]) free)

      outcome : Outcome p h.follows.profile events h.may node other (tail_turn p draws (last + p.step) (course_from (run p events))).world.sender t
      outcome =
          (all_served p h.follows.profile events h.may node other draws (last + p.step) h.holds h.none member (receivers_of p p.receivers) (not_sender p p.receivers)
          (each_there (receivers_of p p.receivers)) (receivers_rise p p.receivers).1 there
          (passes_on p draws (last + p.step) (sender_ticks p (last + p.step) (course_from (run p events))) p.sender) passed_clean passed_runs).so t is

      fresh : Waited
      fresh = go outcome
        where
          go : (is_some t.knows.backoff ≡ true) ⊎ IsAsked p (tail_turn p draws (last + p.step) (course_from (run p events))).world.sender t → Waited
          go (inl e) = backs_so e
          go (inr (inl nothing)) = absurd (clash (sym (needs p events last draws ph h spent w old kept node other member r t found is knows (early behind)) ∙ nothing))
          go (inr (inr a)) = asked_so (asked_of p events last draws ph h spent node other member r t found is a)

    waited_so : is_behind u t ≡ true → Waited
    waited_so e = go r.knows.backoff refl (cases_lt (last + p.step) r.knows.holdoff)
      where
        go : (o : Option ℕ) → r.knows.backoff ≡ o → (last + p.step < r.knows.holdoff) ⊎ (r.knows.holdoff ≤ last + p.step) → Waited
        go (Some ends) backs held = backed e ends backs
        go None free (inl lt) = held_off lt
        go None free (inr le) = fresh free le e

    pub waited : is_waited p (last + p.step) u t ≡ true
    waited = go (is_behind u t) refl
      where
        backs : Bool
        backs = elim t.knows.backoff [ Some m ↦ nat_le m (last + p.step + p.k * p.grtt) | None ↦ false ]

        go : (c : Bool) → is_behind u t ≡ c → is_waited p (last + p.step) u t ≡ true
        go false e = any_of (not (is_behind u t)) (is_asked p u t) backs (inl (ap not e))
        go true e = any_of (not (is_behind u t)) (is_asked p u t) backs (inr (waited_so e))
