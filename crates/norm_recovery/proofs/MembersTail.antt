-- Where members stand after a lawful run in `hold` mode, and so at every moment of its tails.
use Rattle.std.proofs.Common.{◌≡◌, ℕ, ◌<◌, ◌≤◌, List, [], ◌∷◌, ◌++◌, map, cond, Bool, true, false, Option, None, Some, refl, sym, ap, ◌∙◌, subst, append_assoc, arith}
use Rattle.std.specs.Prelude.{◌==◌}
use Rattle.std.specs.List.{AllByRecursion}
use Rattle.std.proofs.lemmas.Bool.Decides.{Decides-eqb}
use Rattle.norm_base.specs.Settings.{Settings, InRange}
use Rattle.norm_base.specs.declared.kinds.Mode.TheVariants.{Hold}
use Rattle.norm_base.specs.declared.node.Origin.{Origin}
use Rattle.fec_plan.specs.Points.{point, point_of, point_before}
use Rattle.norm_ext.specs.InstanceIds.{rise}
use Rattle.norm_order.specs.declared.up.Up.{Up}
use Rattle.norm_receive_rules.specs.Leaving.{is_in}
use Rattle.norm_receive_rules.specs.ReceiverState.{ReceiverState}
use Rattle.norm_send_rules.specs.Restarting.{instances, first_id}
use Rattle.norm_send_rules.specs.SenderState.{Instance}
use Rattle.norm_safety.specs.Events.{Event}
use Rattle.norm_safety.specs.Fronts.{IsFront}
use Rattle.norm_safety.specs.Hands.{hands}
use Rattle.norm_safety.specs.History.{Happening, happens, last_world}
use Rattle.norm_safety.specs.InOrder.{came_to}
use Rattle.norm_safety.specs.Jobs.{AreEvents}
use Rattle.norm_safety.specs.Lawful.{Lawful}
use Rattle.norm_safety.specs.Tail.{Course, events_of}
use Rattle.norm_safety.specs.World.{World, world_opening, receiver_at}
use Rattle.norm_safety.specs.WorldStep.{world_step, run_from, run}
use Rattle.norm_safety.proofs.DropsLemmas.{dropped_parts}
use Rattle.norm_safety.proofs.EntryLemmas.{clash}
use Rattle.norm_safety.proofs.HoldRun.{Clear, Kept, kept_of}
use Rattle.norm_safety.proofs.Members.{listed_in}
use Rattle.norm_safety.proofs.Onward.{instance_in}
use Rattle.norm_safety.proofs.OrderRun.{run_of}
use Rattle.norm_safety.proofs.PlaceLemmas.{current_found}
use Rattle.norm_safety.proofs.ReceiverMoves.{StandingIn, in_instance_is}
use Rattle.norm_safety.proofs.RunFronts.{front_laws}
use Rattle.norm_safety.proofs.SenderHolds.{point_in, entries_in, current_within}
use Rattle.norm_safety.proofs.Spoken.{current_begun}
use Rattle.norm_safety.proofs.Through.{Handed}
use Rattle.norm_safety.proofs.WorldHolds.{IsAbove, CameTo, AtNode, AtReceiver, WorldHolds, all_end}
use Rattle.norm_laws.proofs.PassingWords.{same_height}
use Rattle.norm_recovery.specs.MembersStand.{Stands, MembersStand}
use Rattle.norm_recovery.specs.TailLawful.{MayGoOn}
use Rattle.norm_recovery.specs.TailOf.{IsTail, IsMoment}
use Rattle.norm_recovery.proofs.LawfulTail.{tail_is_lawful}
use Rattle.norm_recovery.proofs.MembersPoint.{none_lost, not_behind, nothing_dropped}
use Rattle.norm_recovery.proofs.MembersRun.{IsOfSender, Follows, FollowsAt, follows_in_run}
use Rattle.norm_recovery.proofs.TailCourses.{run_joined}

pub last_is_run : (p : Settings) (w : World) (events : List Event) → last_world w (happens p w events) ≡ run_from p w events
unfolding happens last_world
last_is_run p w [] = refl
last_is_run p w (e ∷ events) = last_is_run p (world_step p w e).0 events

-- ---- instances

-- what holds of the ids of all instances holds of one that is there
pub found_holds : (R : ℕ → Type 0) (all : List Instance) (id : ℕ) → AllByRecursion R (map (λ (i : Instance). i.id) all) → (instance_in all id ≡ None → ⊥) → R id
found_holds R [] id low has = absurd (has refl)
found_holds R (i ∷ all) id low has = go (i.id == id) refl has (found_holds R all id low.1)
  where
    go : (b : Bool) → (i.id == id) ≡ b → (cond b (Some i) (instance_in all id) ≡ None → ⊥) → ((instance_in all id ≡ None → ⊥) → R id) → R id
    go true e has more = subst R ((Decides-eqb i.id id).0 e) low.0
    go false e has more = more has

still_lower : (p : Settings) (ids : List ℕ) (current id : ℕ) → rise p.instance current < rise p.instance id → IsAbove p ids current → IsAbove p ids id
still_lower p [] current id lt above = tt
still_lower p (x ∷ ids) current id lt above = ((let less = above.0 in omega (arith, lt, less)), still_lower p ids current id lt above.1)

-- ---- a member

module _ (p : Settings) (range : InRange p) (past : List Happening) (accepted : List Origin) (w : World) (holds : WorldHolds p past accepted w) (node : ℕ)
    (r : ReceiverState) (here : AtReceiver p w.sender past node r) (follows : Follows w.sender past node r)
    (clear : IsFront (dropped_parts p w.sender.current.order w.sender.current.drop) (hands past node w.sender.current.id)) where
  abbrev id : ℕ
  id = w.sender.current.id

  -- what is found by the current instance's id is the current instance
  found : instance_in (instances w.sender) id ≡ Some w.sender.current
  found = current_found w.sender.earlier w.sender.current w.sender.current refl holds.once.ids

  inside : is_in r id ≡ true → (point_before (point_of r.holding.point) w.sender.current.drop ≡ false) × (r.holding.lost ≡ [])
  inside e =
      let is = in_instance_is r id e in
      let S : Option ℕ → Type 0 = λ instance. StandingIn p w.sender (hands past node) r instance in
      let ups : List Up = hands past node id ++ r.holding.ups in
      let G : Option Instance → Type 0 = λ found. Handed p (entries_in found) (point_in found) r.holding.lost ups r.holding.point in
      let gone = subst G found (subst S is here.stands).gone in
      let within = current_within p w.sender holds.sender in
      let all : IsFront (dropped_parts p w.sender.current.order w.sender.current.drop) ups = (
        clear.0 ++ r.holding.ups,
        ap (λ (us : List Up). us ++ r.holding.ups) clear.1
            ∙ append_assoc (dropped_parts p w.sender.current.order w.sender.current.drop) clear.0 r.holding.ups,
      ) in
      let none = none_lost p w.sender.current.order w.sender.current.drop r.holding.lost ups r.holding.point within gone all (omega (arith, range.b.0)) in
      let lost = follows.lost id is none in
      (not_behind p w.sender.current.order w.sender.current.drop r.holding.lost ups r.holding.point within gone all lost, lost)

  above_all : is_in r id ≡ false → IsAbove p (came_to node None past) id
  above_all e = go r.instance refl here.came follows.known
    where
      A : List ℕ → Type 0
      A ids = IsAbove p ids id

      go : (instance : Option ℕ) → r.instance ≡ instance → CameTo p (came_to node None past) instance → IsOfSender w.sender instance
          → IsAbove p (came_to node None past) id
      go None is came known = subst A (sym came) tt
      go (Some current) is came known =
          let F : ℕ → Type 0 = λ first. rise first current ≤ rise first id in
          let le : rise p.instance current ≤ rise p.instance id =
          subst F holds.sender.first
          (found_holds (λ (n : ℕ). rise (first_id w.sender) n ≤ rise (first_id w.sender) id) (instances w.sender) current holds.once.low known) in
          let out : current ≡ id → ⊥ =
          λ same. clash (sym e ∙ ap (λ (o : Option ℕ). elim o [ Some own ↦ own == id | None ↦ false ]) is ∙ (Decides-eqb current id).1 same) in
          let differ : rise p.instance current ≡ rise p.instance id → ⊥ =
          λ same. out (same_height p current id came.begun (current_begun p range w.sender holds.sender) same) in
          let lt : rise p.instance current < rise p.instance id = omega (arith, le, differ) in
          subst A (sym came.is)
          (all_end (λ (n : ℕ). rise p.instance n < rise p.instance id) came.before current (still_lower p came.before current id lt came.lower) lt)

  outside : is_in r id ≡ false → w.sender.current.drop ≡ point 0 0
  outside e =
      let F : List Up → Type 0 = λ ups. IsFront (dropped_parts p w.sender.current.order w.sender.current.drop) ups in
      let none = nothing_dropped p w.sender.current.order w.sender.current.drop (current_within p w.sender holds.sender)
      (subst F (here.never id (above_all e)) clear) in
      ap (λ (n : ℕ). point n w.sender.current.drop.block) none.0 ∙ ap (point 0) none.1

  member_stands : Stands w.sender r
  member_stands = record { inside = inside; outside = outside }

-- after a run
pub stands_in_run : (p : Settings) → InRange p → p.mode ≡ Hold → (events : List Event) → Lawful p events → AreEvents events → (node : ℕ) (r : ReceiverState)
    → receiver_at (run p events) node ≡ Some r → listed_in node (run p events).sender.listings ≡ true → Stands (run p events).sender r
stands_in_run p range hold events lawful are node r found member =
    let past : List Happening = happens p (world_opening p) events in
    let same = last_is_run p (world_opening p) events in
    let ran = run_of p range events lawful are in
    let w : World = run p events in
    let holds : WorldHolds p past ran.accepted w = subst (WorldHolds p past ran.accepted) same ran.holds in
    let kept : Kept p past w = subst (Kept p past) same (kept_of p range hold events lawful are).kept in
    let C : Option Instance → Type 0 = λ i. Clear p (hands past node w.sender.current.id) i in
    member_stands p range past ran.accepted w holds node r (subst (AtNode p w.sender past node) found (holds.nodes node))
    (subst (FollowsAt w.sender past node) found (follows_in_run p range events lawful are node))
    (subst C (current_found w.sender.earlier w.sender.current w.sender.current refl holds.once.ids) (kept.clear node w.sender.current.id member))

-- ---- a tail

-- a lawful run that leads to a world
pub record LedTo (p : Settings) (v : World) : Type 0 where
  pub events : List Event
  pub lawful : Lawful p events
  pub jobs : AreEvents events
  pub here : run p events ≡ v

-- a moment of a tail is one of a lawful run
pub at_moment : (p : Settings) → InRange p → (events : List Event) → MayGoOn p events → (c : Course) → IsTail p (run p events) c → (v : World)
    → IsMoment p (run p events) c v → LedTo p v
at_moment p range events may c tail v moment =
    let on = (tail_is_lawful p range events may c tail).again in
    let all : (events ++ moment.front) ++ moment.rest ≡ events ++ events_of c =
    append_assoc events moment.front moment.rest ∙ ap (λ (more : List Event). events ++ more) moment.all in
    record {
      events = events ++ moment.front;
      lawful = front_laws.lawful p (events ++ moment.front) moment.rest (subst (Lawful p) (sym all) on.lawful);
      jobs = front_laws.events (events ++ moment.front) moment.rest (subst AreEvents (sym all) on.jobs);
      here = run_joined p (world_opening p) events moment.front ∙ moment.here;
    }

pub members_stand : MembersStand
members_stand p range hold events may c tail v moment node r found member =
    let m : LedTo p v = at_moment p range events may c tail v moment in
    let S : World → Type 0 = λ x. receiver_at x node ≡ Some r → listed_in node x.sender.listings ≡ true → Stands x.sender r in
    subst S m.here (stands_in_run p range hold m.events m.lawful m.jobs node r) found member
