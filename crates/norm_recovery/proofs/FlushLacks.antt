-- A member that knows a flush and is not past it lacks something of the window.
use Rattle.std.proofs.Common.{◌≡◌, ℕ, zero, suc, ◌+◌, ◌-◌, ◌*◌, ◌/◌, ◌≤◌, cond, List, [], ◌∷◌, ◌++◌, map, filter, drop, length, Bool, true, false, Option, None, Some, refl, sym, ap, ◌∙◌, subst, arith}
use Rattle.std.specs.Prelude.{◌==◌, not, slice_get, IfSome, IsSomeAnd}
use Rattle.std.specs.List.{AllByRecursion}
use Rattle.std.proofs.lemmas.Bool.Decides.{Decides-eqb}
use Rattle.norm_base.specs.Members.{receivers_of}
use Rattle.norm_base.specs.Settings.{Settings, InRange}
use Rattle.norm_base.specs.declared.kinds.Mode.TheVariants.{Hold}
use Rattle.fec_plan.specs.Partition.{Cut, blocks}
use Rattle.fec_plan.specs.Points.{position, point_of, point_before, position_before}
use Rattle.fec_plan.specs.declared.position.Position.{Position}
use Rattle.fec_plan.proofs.PointLemmas.{behind_point}
use Rattle.fec_plan.proofs.PositionLemmas.{behind}
use Rattle.norm_order.specs.Entries.{Object, Whole, Stream, Entry}
use Rattle.norm_order.specs.Shapes.{Shape, shape_of, closed_in, closed_blocks}
use Rattle.norm_receive_rules.specs.FarLaws.{IsFar}
use Rattle.norm_receive_rules.specs.Holding.{Holding, Plan}
use Rattle.norm_receive_rules.specs.Leaving.{is_in}
use Rattle.norm_receive_rules.specs.Plans.{plan_of, says_stream, cut_of_plan}
use Rattle.norm_receive_rules.specs.ReceiverState.{ReceiverState, receiver_opening}
use Rattle.norm_receive_rules.proofs.FarLemmas.{far_laws}
use Rattle.norm_send_rules.specs.Messages.{fti_of_object, object_flags}
use Rattle.norm_send_rules.specs.Repairable.{is_stream, streams}
use Rattle.norm_send_rules.specs.SenderState.{SenderState, Instance}
use Rattle.norm_send_rules.specs.Watermarks.{has_member}
use Rattle.norm_safety.specs.Acknowledges.{EndsPart, EndsPartOf}
use Rattle.norm_safety.specs.Events.{Event}
use Rattle.norm_safety.specs.Hands.{hands}
use Rattle.norm_safety.specs.InOrder.{is_stream_object}
use Rattle.norm_safety.specs.Jobs.{AreEvents}
use Rattle.norm_safety.specs.Lawful.{Lawful}
use Rattle.norm_safety.specs.Tail.{Course, course_from, events_of, tail_turn}
use Rattle.norm_safety.specs.World.{World, world_opening, receiver_at}
use Rattle.norm_safety.specs.WorldStep.{world_step, run_from, run}
use Rattle.norm_safety.proofs.Holding.{IsPlanOf, found_plan}
use Rattle.norm_safety.proofs.OrderRun.{found_holds}
use Rattle.norm_safety.proofs.ReceiverMoves.{StandingIn}
use Rattle.norm_safety.proofs.Spoken.{current_order}
use Rattle.norm_safety.proofs.WorldHolds.{AtReceiver, AtNode}
use Rattle.norm_safety.proofs.WorldLemmas.{world_laws}
use Rattle.norm_laws.proofs.HeldLengths.{PlanIs, says_its, its_cut}
use Rattle.norm_laws.proofs.NewOrder.{clash}
use Rattle.norm_recovery.specs.Flush.{KnowsFlush}
use Rattle.norm_recovery.specs.FlushLacks.{Lacks, FlushLacks}
use Rattle.norm_recovery.specs.FlushNeeds.{StandsBefore}
use Rattle.norm_recovery.specs.TailKeeps.{Stays}
use Rattle.norm_recovery.specs.TailLawful.{GoesOn}
use Rattle.norm_recovery.proofs.FlushKnown.{after_run}
use Rattle.norm_recovery.proofs.FlushNeeds.{flush_needs}
use Rattle.norm_recovery.proofs.FlushTurn.{flush_comes}
use Rattle.norm_recovery.proofs.KeepsSender.{quiet_run_stays}
use Rattle.norm_recovery.proofs.LawfulTail.{goes_on}
use Rattle.norm_recovery.proofs.MarksEnd.{oldest_ends, marks_end}
use Rattle.norm_recovery.proofs.MembersTail.{stands_in_run}
use Rattle.norm_recovery.proofs.PassTurn.{After, Still, Steps, Before, before, is_other}
use Rattle.norm_recovery.proofs.TailCourses.{IsCalm, comes_calm, begins_calm, draw_calm}
use Rattle.norm_recovery.proofs.TailWalk.{turn_keeps}

-- ---- nothing can be handed up after any run

-- nothing more can be handed up to any node
abbrev pub AllFar : Settings → World → Type 0
AllFar p w = (node : ℕ) (r : ReceiverState) → (node == p.sender) ≡ false → receiver_at w node ≡ Some r → IsFar p r.holding

pub far_from : (p : Settings) (w : World) (events : List Event) → AllFar p w → AllFar p (run_from p w events)
far_from p w [] h = h
far_from p w (e ∷ events) h = far_from p (world_step p w e).0 events next
  where
    next : AllFar p (world_step p w e).0
    next node t other found = go (before p w e node other t found)
      where
        go : Before p w node t → IsFar p t.holding
        go b = by b.after
          where
            by : After p b.r t → IsFar p t.holding
            by (Still same) = subst (λ (x : ReceiverState). IsFar p x.holding) (sym same) (h node b.r other b.found)
            by (Steps own is) = subst (λ (x : ReceiverState). IsFar p x.holding) (sym is) (far_laws.goes_on p b.r own (h node b.r other b.found))

pub far_opening : (p : Settings) → AllFar p (world_opening p)
far_opening p node r other found =
    found_holds (λ (x : ReceiverState). IsFar p x.holding) (λ (x : ReceiverState). x.node == node) (world_opening p).receivers r (each (receivers_of p p.receivers)) found
  where
    each : (nodes : List ℕ) → AllByRecursion (λ (x : ReceiverState). IsFar p x.holding) (map receiver_opening nodes)
    each [] = tt
    each (n ∷ nodes) = (far_laws.begins p n, each nodes)

-- ---- the object at the hand-up point

-- no entry is a stream among these
none_at : (xs : List Entry) (k : ℕ) (x : Entry) → length (filter is_stream xs) ≡ 0 → slice_get xs k ≡ Some x → is_stream x ≡ false
none_at [] k x none found = absurd (none_some found)
  where
    none_some : None ≡ Some x → ⊥
    none_some e = cc
none_at (y ∷ xs) k x none found = go (is_stream y) refl none (none_at xs)
  where
    same : Some y ≡ Some x → y ≡ x
    same e = cc

    at_place : (n : ℕ) → slice_get (y ∷ xs) n ≡ Some x → is_stream y ≡ false
        → ((m : ℕ) (z : Entry) → length (filter is_stream xs) ≡ 0 → slice_get xs m ≡ Some z → is_stream z ≡ false) → length (filter is_stream xs) ≡ 0
        → is_stream x ≡ false
    at_place zero found own more none = ap is_stream (sym (same found)) ∙ own
    at_place (suc n) found own more none = more n x none found

    go : (b : Bool) → is_stream y ≡ b → length (cond b (y ∷ filter is_stream xs) (filter is_stream xs)) ≡ 0
        → ((m : ℕ) (z : Entry) → length (filter is_stream xs) ≡ 0 → slice_get xs m ≡ Some z → is_stream z ≡ false) → is_stream x ≡ false
    go true own none more = absurd (omega (arith, none))
    go false own none more = at_place k found own more none

pub none_in_window : (d : ℕ) (order : List Entry) (i : ℕ) (x : Entry) → length (filter is_stream (drop d order)) ≡ 0 → d ≤ i → slice_get order i ≡ Some x
    → is_stream x ≡ false
none_in_window zero order i x none le found = none_at order i x none found
none_in_window (suc d) [] i x none le found = absurd (none_some found)
  where
    none_some : None ≡ Some x → ⊥
    none_some e = cc
none_in_window (suc d) (y ∷ order) zero x none le found = absurd (omega (arith, le))
none_in_window (suc d) (y ∷ order) (suc i) x none le found = none_in_window d order i x none (omega (arith, le)) found

-- the entry of a plan of the order, which is no stream
pub record PlannedBy (p : Settings) (order : List Entry) (plan : Plan) : Type 0 where
  pub entry : Entry
  pub found : slice_get order plan.index ≡ Some entry
  pub is : PlanIs p entry.object plan.fti plan.flags

pub planned_by : (p : Settings) (order : List Entry) (plan : Plan) → IsPlanOf p order plan → PlannedBy p order plan
planned_by p order plan h = go (slice_get order plan.index) refl h
  where
    go : (o : Option Entry) → slice_get order plan.index ≡ o
        → IsSomeAnd o (λ (x : Entry). (plan.fti ≡ fti_of_object p x.object) × (4 * (plan.flags / 4) ≡ object_flags x.object)) → PlannedBy p order plan
    go None e h = absurd h
    go (Some x) e h = record { entry = x; found = e; is = record { fti = h.0; flags = h.1 } }

-- the last block of data or a file is that of its last source symbol
ends_last : (p : Settings) (object : Object) (at : Position) → is_stream_object object ≡ false → EndsPart p at object → blocks (shape_of p object).cut ≤ at.block + 1
ends_last p (Stream parts) at kind ends = absurd (clash (sym kind))
ends_last p (Whole kind info octets) at none ends = go (s.closed == 0) ends
  where
    s : Shape
    s = shape_of p (Whole kind info octets)

    none_some : None ≡ Some at → ⊥
    none_some e = cc

    same : (x : Position) → Some x ≡ Some at → x ≡ at
    same x e = cc

    last : Position
    last = position at.index (closed_blocks (shape_of p (Whole kind info octets)) - 1)
        (closed_in (shape_of p (Whole kind info octets)) (closed_blocks (shape_of p (Whole kind info octets)) - 1) - 1)

    go : (b : Bool) → (elim b as (λ _. Option Position) [ true ↦ None | false ↦ Some last ]) ≡ Some at → blocks (shape_of p (Whole kind info octets)).cut ≤ at.block + 1
    go true e = absurd (none_some e)
    go false e = (let block = ap (λ (x : Position). x.block) (same last e) in omega (arith, block))

-- the plan at the hand-up point of a receiver, by its entry
record AtPoint (p : Settings) (order : List Entry) (h : Holding) (plan : Plan) : Type 0 where
  own : plan.index ≡ h.point.index
  by : PlannedBy p order plan
  kind : is_stream by.entry ≡ false

at_point : (p : Settings) (order : List Entry) (d : ℕ) (h : Holding) (plan : Plan) → AllByRecursion (IsPlanOf p order) h.plans → length (filter is_stream (drop d order)) ≡ 0
    → d ≤ h.point.index → plan_of h h.point.index ≡ Some plan → AtPoint p order h plan
at_point p order d h plan plans none le e =
    let of = found_plan (IsPlanOf p order) h.plans h.point.index plan plans e in
    let entry = planned_by p order plan of.0 in
    record {
      own = of.1;
      by = entry;
      kind = none_in_window d order plan.index entry.entry none (let own = of.1 in omega (arith, own, le)) entry.found;
    }

pub says_no_stream : (p : Settings) (x : Entry) (plan : Plan) → PlanIs p x.object plan.fti plan.flags → is_stream x ≡ false → says_stream plan.flags ≡ false
says_no_stream p x plan is kind = says_its x.object plan.flags is.flags ∙ go x.object kind
  where
    go : (o : Object) → is_stream (record x { object = o }) ≡ false → is_stream_object o ≡ false
    go (Whole kind info octets) e = refl
    go (Stream parts) e = e

no_more_blocks : (p : Settings) (order : List Entry) (at : Position) (plan : Plan) (x : Entry) → slice_get order plan.index ≡ Some x → PlanIs p x.object plan.fti plan.flags
    → is_stream x ≡ false → EndsPartOf p order at → plan.index ≡ at.index → blocks (cut_of_plan plan) ≤ at.block + 1
no_more_blocks p order at plan x found is kind ends same =
    let own : EndsPart p at x.object =
    subst (λ (o : Option Entry). IsSomeAnd o (λ (entry : Entry). EndsPart p at entry.object)) (ap (slice_get order) (sym same) ∙ found) ends in
    let fits = ends_last p x.object at (go x.object kind) own in
    subst (λ (c : Cut). blocks c ≤ at.block + 1) (sym (its_cut p x.object plan.fti plan.flags is)) fits
  where
    go : (o : Object) → is_stream (record x { object = o }) ≡ false → is_stream_object o ≡ false
    go (Whole kind info octets) e = refl
    go (Stream parts) e = e

-- ---- after a run

-- A receiver of the current instance that knows a flush, is not past it, and stands at the drop point or past it, stands before the flush.
pub before_in_run : (p : Settings) → InRange p → (events : List Event) → Lawful p events → AreEvents events → streams (run p events).sender ≡ 0
    → (node : ℕ) → (node == p.sender) ≡ false → (r : ReceiverState) → receiver_at (run p events) node ≡ Some r
    → (at : Position) → EndsPartOf p (run p events).sender.current.order at → KnowsFlush r (run p events).sender.current.id at
    → (run p events).sender.current.drop.index ≤ r.holding.point.index → position_before at r.holding.point ≡ false → StandsBefore p r at
before_in_run p range events lawful are none node other r found at ends knows not_dropped early = record {
  flush = knows.flush;
  before = (let further = behind at r.holding.point (ap not early) in omega (arith, further));
  stuck = (far_from p (world_opening p) events (far_opening p) node r other found).stuck;
  no_stream = no_stream (plan_of r.holding r.holding.point.index) refl;
  last = last (plan_of r.holding r.holding.point.index) refl;
}
  where
    s : SenderState
    s = (run p events).sender

    plans : AllByRecursion (IsPlanOf p (run p events).sender.current.order) r.holding.plans
    plans =
        let k = after_run p range events lawful are in
        let at_node : AtReceiver p s k.past node r = subst (AtNode p s k.past node) found (k.holds.nodes node) in
        let stands : StandingIn p s (hands k.past node) r (Some s.current.id) = subst (StandingIn p s (hands k.past node) r) knows.inside at_node.stands in
        subst (λ (order : List Entry). AllByRecursion (IsPlanOf p order) r.holding.plans) (current_order s k.holds.once.ids) stands.plans

    no_stream : (o : Option Plan) → plan_of r.holding r.holding.point.index ≡ o → IfSome o (λ (plan : Plan). says_stream plan.flags ≡ false)
    no_stream None e = tt
    no_stream (Some plan) e =
        let a = at_point p (run p events).sender.current.order (run p events).sender.current.drop.index r.holding plan plans none not_dropped e in
        says_no_stream p a.by.entry plan a.by.is a.kind

    last : (o : Option Plan) → plan_of r.holding r.holding.point.index ≡ o
        → IfSome o (λ (plan : Plan). plan.index ≡ at.index → blocks (cut_of_plan plan) ≤ at.block + 1)
    last None e = tt
    last (Some plan) e =
        let a = at_point p (run p events).sender.current.order (run p events).sender.current.drop.index r.holding plan plans none not_dropped e in
        no_more_blocks p (run p events).sender.current.order at plan a.by.entry a.by.found a.by.is a.kind ends

pub lacks_in_run : (p : Settings) → InRange p → p.mode ≡ Hold → (events : List Event) → Lawful p events → AreEvents events → streams (run p events).sender ≡ 0
    → (node : ℕ) → (node == p.sender) ≡ false → (r : ReceiverState) → receiver_at (run p events) node ≡ Some r → has_member node (run p events).sender ≡ true
    → (at : Position) → EndsPartOf p (run p events).sender.current.order at → KnowsFlush r (run p events).sender.current.id at
    → position_before at r.holding.point ≡ false → Lacks p (run p events).sender r
lacks_in_run p range hold events lawful are none node other r found member at ends knows early = record {
  needs = flush_needs p r at (before_in_run p range events lawful are none node other r found at ends knows
      (let past = behind_point (point_of r.holding.point) (run p events).sender.current.drop here.0 in omega (arith, past)) early);
  in_window = here.0;
}
  where
    inside : is_in r (run p events).sender.current.id ≡ true
    inside = ap (λ (o : Option ℕ). elim o as (λ _. Bool) [ Some current ↦ current == (run p events).sender.current.id | None ↦ false ]) knows.inside
        ∙ (Decides-eqb (run p events).sender.current.id (run p events).sender.current.id).1 refl

    here : (point_before (point_of r.holding.point) (run p events).sender.current.drop ≡ false) × (r.holding.lost ≡ [])
    here = (stands_in_run p range hold events lawful are node r found member).inside inside

-- ---- after the turn

pub flush_lacks : FlushLacks
flush_lacks p range hold events may none draws now wm flush node r found member early =
    subst (λ (v : World). Lacks p v.sender r) on.leads
    (lacks_in_run p range hold (events ++ events_of turn) on.again.lawful on.again.jobs
    (ap (λ (i : Instance). length (filter is_stream (drop i.drop.index i.order))) same ∙ none) node other r
    (ap (λ (v : World). receiver_at v node) on.leads ∙ found) (ap (λ (v : World). has_member node v.sender) on.leads ∙ member) wm.at
    (subst (λ (i : Instance). EndsPartOf p i.order wm.at) (sym same) ends)
    (subst (λ (i : Instance). KnowsFlush r i.id wm.at) (sym same) (flush_comes p range events may draws now wm flush node r found)) early)
  where
    ends : EndsPartOf p (run p events).sender.current.order wm.at
    ends = oldest_ends p (run p events).sender wm (marks_end p range events may.lawful may.jobs) flush.is_oldest

    turn : Course
    turn = tail_turn p draws now (course_from (run p events))

    calm : IsCalm p (run p events) (tail_turn p draws now (course_from (run p events)))
    calm = turn_keeps p draws (IsCalm p (run p events)) (λ c h. h.nodes ∙ world_laws.nodes p events) (comes_calm p (run p events)) (draw_calm p (run p events)) now
        (course_from (run p events)) (begins_calm p (run p events))

    on : GoesOn p events (tail_turn p draws now (course_from (run p events)))
    on = goes_on p range events may (tail_turn p draws now (course_from (run p events))) calm

    same : (run p (events ++ events_of (tail_turn p draws now (course_from (run p events))))).sender.current ≡ (run p events).sender.current
    same =
        let stays : Stays (run p events).sender (run_from p (run p events) (events_of turn)).sender = quiet_run_stays p (run p events) (events_of turn) calm.quiet in
        ap (λ (v : World). v.sender.current) on.leads ∙ ap (λ (v : World). v.sender.current) (sym calm.leads) ∙ stays.current

    other : (node == p.sender) ≡ false
    other = is_other p (tail_turn p draws now (course_from (run p events))).world (calm.nodes ∙ world_laws.nodes p events) node r found
