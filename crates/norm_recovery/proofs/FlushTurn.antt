-- In the turn of a flush every receiver hears it, and then knows it to the turn's end.
use Rattle.std.proofs.Common.{◌≡◌, ℕ, ◌+◌, List, ◌++◌, Option, None, Some, false, refl, sym, ap, ◌∙◌, subst}
use Rattle.std.specs.Prelude.{◌==◌, find}
use Rattle.norm_base.specs.Members.{receivers_of}
use Rattle.norm_base.specs.Settings.{Settings, InRange}
use Rattle.fec_plan.specs.declared.position.Position.{Position}
use Rattle.norm_ext.specs.Message.{FlushCommand}
use Rattle.norm_ext.specs.Written.{Written}
use Rattle.norm_receive_rules.specs.ReceiverState.{ReceiverState}
use Rattle.norm_receive_rules.specs.ReceiverStep.{ReceiverEvent, receiver_step}
use Rattle.norm_receive_rules.specs.ReceiverStep as receiver
use Rattle.norm_receive_rules.specs.Receiving.{received}
use Rattle.norm_send_rules.specs.SenderState.{Watermark}
use Rattle.norm_safety.specs.Events.{Event, Delivered}
use Rattle.norm_safety.specs.Tail.{Course, course_from, events_of, comes, passes_on, sender_ticks, tail_turn}
use Rattle.norm_safety.specs.World.{World, receiver_at}
use Rattle.norm_safety.specs.WorldLaws.{nodes_of}
use Rattle.norm_safety.specs.WorldStep.{run}
use Rattle.norm_safety.proofs.WorldLemmas.{world_laws}
use Rattle.norm_recovery.specs.Flush.{KnowsFlush}
use Rattle.norm_recovery.specs.FlushTurn.{FlushComes}
use Rattle.norm_recovery.specs.TailLawful.{MayGoOn, GoesOn}
use Rattle.norm_recovery.specs.TailOf.{ComesInTail}
use Rattle.norm_recovery.proofs.FlushHeard.{flush_heard}
use Rattle.norm_recovery.proofs.FlushKnown.{flush_of, GivesFlush, gives_of, flush_command, FlushSays, flush_says, hears_flush}
use Rattle.norm_recovery.proofs.LawfulTail.{goes_on}
use Rattle.norm_recovery.proofs.MembersRun.{no_node}
use Rattle.norm_recovery.proofs.PassTurn.{After, Still, Steps, Before, before, same_id, stays_in, Waits, calm_then, comes_lawfully, is_other, passed}
use Rattle.norm_recovery.proofs.TailCourses.{IsCalm, comes_calm, begins_calm, draw_calm}
use Rattle.norm_recovery.proofs.TailWalk.{no_receiver, copies_keep, all_served, turn_keeps}

none_some : {X : Type 0} (x : X) → None ≡ Some x → ⊥
none_some x e = cc

same_some : {X : Type 0} (x y : X) → Some x ≡ Some y → x ≡ y
same_some x y e = cc

module _ (p : Settings) (range : InRange p) (events : List Event) (may : MayGoOn p events) (node : ℕ) (other : (node == p.sender) ≡ false) (at : Position) where
  -- ---- who knows the flush knows it further on

  pub record Known (c : Course) : Type 0 where
    pub calm : IsCalm p (run p events) c
    pub knows : (r : ReceiverState) → receiver_at c.world node ≡ Some r → KnowsFlush r (run p events).sender.current.id at

  pub known_on : (e : Event) (c : Course) → ComesInTail c.world e → Known c → Known (comes p e c)
  known_on e c comes_so h = record { calm = calm; knows = knows }
    where
      calm : IsCalm p (run p events) (comes p e c)
      calm = comes_calm p (run p events) e c comes_so h.calm

      knows : (t : ReceiverState) → receiver_at (comes p e c).world node ≡ Some t → KnowsFlush t (run p events).sender.current.id at
      knows t is = go (before p c.world e node other t is)
        where
          step : (r : ReceiverState) (own : ReceiverEvent) → KnowsFlush r (run p events).sender.current.id at → (receiver_step p r own).0.instance ≡ r.instance
              → KnowsFlush (receiver_step p r own).0 (run p events).sender.current.id at
          step r (receiver.Delivered octets now draw) k same = flush_heard.hears p r octets now draw (run p events).sender.current.id at same k
          step r (receiver.Ticked now) k same = flush_heard.ticks p r now (run p events).sender.current.id at k
          step r receiver.UpTaken k same = flush_heard.takes r (run p events).sender.current.id at k

          go : Before p c.world node t → KnowsFlush t (run p events).sender.current.id at
          go b = by b.after
            where
              by : After p b.r t → KnowsFlush t (run p events).sender.current.id at
              by (Still same) = subst (λ (x : ReceiverState). KnowsFlush x (run p events).sender.current.id at) (sym same) (h.knows b.r b.found)
              by (Steps own steps) =
                  let k = h.knows b.r b.found in
                  subst (λ (x : ReceiverState). KnowsFlush x (run p events).sender.current.id at) (sym steps)
                  (step b.r own k (stays_in p range events may node other (comes p e c) calm b.r t own is steps k.inside))

  pub known_drawn : (c : Course) (n : ℕ) → Known c → Known (record c { used = n })
  known_drawn c n h = record { calm = draw_calm p (run p events) c n h.calm; knows = h.knows }

  pub known_nodes : (c : Course) → Known c → nodes_of c.world ≡ receivers_of p p.receivers
  known_nodes c h = h.calm.nodes ∙ world_laws.nodes p events

  -- it comes to know it
  pub arrives : (d : Written) (m : FlushCommand) → FlushSays p (run p events).sender d.octets m at → (draws : ℕ → ℕ) (now : ℕ) (r : ReceiverState) (c : Course)
      → Waits p range events may node other d r c → Known (comes p (Delivered node d.octets now (draws c.used)) (record c { used = c.used + 1 }))
  arrives d m says draws now r c h = record { calm = calm_then p range events may node other d draws now r c h; knows = knows }
    where
      on : GoesOn p events c
      on = goes_on p range events may c h.calm

      t : ReceiverState
      t = received p r d.octets now (draws c.used)

      heard : KnowsFlush (received p r d.octets now (draws c.used)) (run p (events ++ events_of c)).sender.current.id at
      heard =
          hears_flush p range (events ++ events_of c) on.again.lawful on.again.jobs on.again.few node other r
          (ap (λ (v : World). receiver_at v node) on.leads ∙ h.found) d.octets now (draws c.used) m at says.read says.source
          (says.instance ∙ sym (same_id p range events may node other c h.calm)) says.object says.small says.place
          (comes_lawfully p range events may node other d draws now r c h)

      knows : (x : ReceiverState) → receiver_at (comes p (Delivered node d.octets now (draws c.used)) (record c { used = c.used + 1 })).world node ≡ Some x
          → KnowsFlush x (run p events).sender.current.id at
      knows x is =
          let moved_is = world_laws.moves p c.world (Delivered node d.octets now (draws c.used)) node (receiver.Delivered d.octets now (draws c.used)) r other refl h.found in
          subst (λ (x : ReceiverState). KnowsFlush x (run p events).sender.current.id at) (same_some t x (sym moved_is ∙ is))
          (subst (λ (n : ℕ). KnowsFlush t n at) (same_id p range events may node other c h.calm) heard)

-- ---- the turn

-- a watermark's flush, which the sender's tick gives, reaches a node that has a receiver
pub reaches_one : (p : Settings) (range : InRange p) (events : List Event) (may : MayGoOn p events) (draws : ℕ → ℕ) (now : ℕ) (wm : Watermark)
    → GivesFlush p now (run p events).sender wm → (node : ℕ) (other : (node == p.sender) ≡ false) (r : ReceiverState)
    → receiver_at (run p events) node ≡ Some r → Known p range events may node other wm.at (tail_turn p draws now (course_from (run p events)))
reaches_one p range events may draws now wm flush node other r found =
    all_served p draws K (known_nodes p range events may node other wm.at) (known_on p range events may node other wm.at)
    (known_drawn p range events may node other wm.at) now (receivers_of p p.receivers) (passes_on p draws now (sender_ticks p now (course_from (run p events))) p.sender)
    (passed p range events may draws now d flush.gives node other r found K
    (arrives p range events may node other wm.at d (flush_command p (run p events).sender wm) (flush_says p range events may now wm flush) draws now r)
    (copies_keep p draws K (known_nodes p range events may node other wm.at) (known_on p range events may node other wm.at)
    (known_drawn p range events may node other wm.at) now p.sender d.octets))
  where
    d : Written
    d = flush_of p (run p events).sender wm

    K : Course → Type 0
    K c = Known p range events may node other wm.at c

-- at its end each receiver knows it
pub known_after : (p : Settings) → InRange p → (events : List Event) → MayGoOn p events → (draws : ℕ → ℕ) (now : ℕ) (wm : Watermark)
    → GivesFlush p now (run p events).sender wm → (node : ℕ) (r : ReceiverState)
    → receiver_at (tail_turn p draws now (course_from (run p events))).world node ≡ Some r → KnowsFlush r (run p events).sender.current.id wm.at
known_after p range events may draws now wm flush node t found = go (receiver_at (run p events) node) refl
  where
    calm : IsCalm p (run p events) (tail_turn p draws now (course_from (run p events)))
    calm = turn_keeps p draws (IsCalm p (run p events)) (λ c h. h.nodes ∙ world_laws.nodes p events) (comes_calm p (run p events)) (draw_calm p (run p events)) now
        (course_from (run p events)) (begins_calm p (run p events))

    nodes : nodes_of (tail_turn p draws now (course_from (run p events))).world ≡ receivers_of p p.receivers
    nodes = calm.nodes ∙ world_laws.nodes p events

    other : (node == p.sender) ≡ false
    other = is_other p (tail_turn p draws now (course_from (run p events))).world nodes node t found

    gone : receiver_at (run p events) node ≡ None → ⊥
    gone none =
        none_some t (sym (no_receiver node (tail_turn p draws now (course_from (run p events))).world.receivers
        (ap (find (λ (n : ℕ). n == node)) (nodes ∙ sym (world_laws.nodes p events)) ∙ no_node node (run p events).receivers none)) ∙ found)

    go : (before : Option ReceiverState) → receiver_at (run p events) node ≡ before → KnowsFlush t (run p events).sender.current.id wm.at
    go None none = absurd (gone none)
    go (Some r) is =
        (reaches_one p range events may draws now wm flush node other r is).knows t found

pub flush_comes : FlushComes
flush_comes p range events may draws now wm flush node t found =
    known_after p range events may draws now wm (gives_of p now (run p events).sender wm flush) node t found
