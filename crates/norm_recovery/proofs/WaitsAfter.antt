-- Over a turn of a phase after its flush that leaves no less: whoever is behind is waited for still.
use Rattle.std.proofs.Common.{◌≡◌, ℕ, ◌+◌, ◌*◌, ◌<◌, ◌≤◌, List, Bool, true, false, Option, None, Some, refl, sym, ap, ◌∙◌, arith, ◌⊎◌, inl, inr}
use Rattle.std.specs.Prelude.{◌==◌, ◌&&◌, ◌||◌, not, find, nat_lt}
use Rattle.std.specs.List.{list_all}
use Rattle.std.proofs.lemmas.Bool.Decides.{Decides-eqb, Decides-ltb}
use Rattle.norm_base.specs.Settings.{Settings}
use Rattle.fec_plan.specs.Points.{position_before, reached_by}
use Rattle.norm_receive_rules.specs.AllNeeds.{needs_nothing}
use Rattle.norm_receive_rules.specs.Holding.{Holding, holding_nothing}
use Rattle.norm_receive_rules.specs.Leaving.{is_in}
use Rattle.norm_receive_rules.specs.ReceiverState.{ReceiverState}
use Rattle.norm_send_rules.specs.SenderState.{SenderState, Instance, Round, Watermark}
use Rattle.norm_send_rules.specs.Watermarks.{oldest, has_member}
use Rattle.norm_send_rules.specs.declared.want.Want.{Want}
use Rattle.norm_safety.specs.Events.{Event}
use Rattle.norm_safety.specs.Tail.{course_from, tail_turn}
use Rattle.norm_safety.specs.World.{World, receiver_at}
use Rattle.norm_safety.specs.WorldStep.{run}
use Rattle.norm_safety.proofs.EntryLemmas.{clash}
use Rattle.norm_safety.proofs.OrderRun.{found_holds}
use Rattle.norm_safety.proofs.ReceiverMoves.{in_instance_is}
use Rattle.norm_safety.proofs.WorldLemmas.{world_laws}
use Rattle.norm_recovery.specs.Clean.{is_clean, is_clean_from}
use Rattle.norm_recovery.specs.Flush.{KnowsFlush}
use Rattle.norm_recovery.specs.Watch.{Phase, each_member, is_asked, flushed_at, has_ticked, owes_nothing, is_behind, knows_flush, is_spent}
use Rattle.norm_recovery.specs.Left.{in_window, has, held_for}
use Rattle.norm_recovery.specs.RoundAsks.{asks_open}
use Rattle.norm_recovery.specs.Asking.{asks}
use Rattle.norm_recovery.proofs.AskAfter.{same}
use Rattle.norm_recovery.proofs.BeforeFlush.{and_so, either}
use Rattle.norm_recovery.proofs.CleanSteps.{both}
use Rattle.norm_recovery.proofs.ClosingLists.{In, of_any}
use Rattle.norm_recovery.proofs.LeftNever.{all_true}
use Rattle.norm_recovery.proofs.LeftTurn.{same_members}
use Rattle.norm_recovery.proofs.MembersRun.{no_node}
use Rattle.norm_recovery.proofs.NeedsMore.{needs_at}
use Rattle.norm_recovery.proofs.PhaseTurn.{InPhase}
use Rattle.norm_recovery.proofs.TailCourses.{IsCalm, comes_calm, begins_calm, draw_calm}
use Rattle.norm_recovery.proofs.TailWalk.{no_receiver, turn_keeps}
use Rattle.norm_recovery.proofs.WatchSpent.{stays}

none_some : {X : Type 0} (x : X) → None ≡ Some x → ⊥
none_some x e = cc

-- ---- words

-- a test that holds of each member holds of the one that is found
pub of_member : (test : ReceiverState → Bool) (w : World) → each_member test w ≡ true → (node : ℕ) (r : ReceiverState) → receiver_at w node ≡ Some r
    → has_member node w.sender ≡ true → test r ≡ true
of_member test w e node r found member =
    own (has_member r.node w.sender) (test r) (ap (λ (n : ℕ). has_member n w.sender) (world_laws.found w node r found) ∙ member)
    (found_holds (λ (x : ReceiverState). (not (has_member x.node w.sender) || test x) ≡ true) (λ (x : ReceiverState). x.node == node) w.receivers r
    (all_true (λ (x : ReceiverState). not (has_member x.node w.sender) || test x) w.receivers e) found)
  where
    own : (a b : Bool) → a ≡ true → (not a || b) ≡ true → b ≡ true
    own true b is f = f
    own false b is f = absurd (clash is)

-- and one of all receivers
pub of_receiver : (test : ReceiverState → Bool) (w : World) → list_all test w.receivers ≡ true → (node : ℕ) (r : ReceiverState) → receiver_at w node ≡ Some r
    → test r ≡ true
of_receiver test w e node r found =
    found_holds (λ (x : ReceiverState). test x ≡ true) (λ (x : ReceiverState). x.node == node) w.receivers r (all_true test w.receivers e) found

pub known_of : (s : SenderState) (w : Watermark) (r : ReceiverState) → oldest s ≡ Some w → knows_flush s r ≡ true → KnowsFlush r s.current.id w.at
known_of s w r old e = record {
  inside = in_instance_is r s.current.id parts.0;
  flush = sym (ap (λ (o : Option Watermark). elim o as (λ _. Bool) [ Some x ↦ reached_by r.knows.flush x.at | None ↦ false ]) old) ∙ parts.1;
}
  where
    parts : (is_in r s.current.id ≡ true) × ((elim (oldest s) as (λ _. Bool) [ Some x ↦ reached_by r.knows.flush x.at | None ↦ false ]) ≡ true)
    parts = both (is_in r s.current.id) (elim (oldest s) as (λ _. Bool) [ Some x ↦ reached_by r.knows.flush x.at | None ↦ false ]) e

pub inside_so : (r : ReceiverState) (id : ℕ) → r.instance ≡ Some id → is_in r id ≡ true
inside_so r id e = ap (λ (o : Option ℕ). elim o as (λ _. Bool) [ Some current ↦ current == id | None ↦ false ]) e ∙ (Decides-eqb id id).1 refl

pub known_so : (s : SenderState) (w : Watermark) (r : ReceiverState) → oldest s ≡ Some w → KnowsFlush r s.current.id w.at → knows_flush s r ≡ true
known_so s w r old k =
    and_so (is_in r s.current.id) (elim (oldest s) as (λ _. Bool) [ Some x ↦ reached_by r.knows.flush x.at | None ↦ false ]) (inside_so r s.current.id k.inside)
    (ap (λ (o : Option Watermark). elim o as (λ _. Bool) [ Some x ↦ reached_by r.knows.flush x.at | None ↦ false ]) old ∙ k.flush)

pub behind_of : (s : SenderState) (w : Watermark) (r : ReceiverState) → oldest s ≡ Some w → is_behind s r ≡ not (position_before w.at r.holding.point)
behind_of s w r old = ap (λ (o : Option Watermark). elim o as (λ _. Bool) [ Some x ↦ not (position_before x.at r.holding.point) | None ↦ false ]) old

pub not_so : (b : Bool) → not b ≡ true → b ≡ false
not_so false e = refl
not_so true e = absurd (clash e)

pub false_so : (b : Bool) → (b ≡ true → ⊥) → b ≡ false
false_so false f = refl
false_so true f = absurd (f refl)

pub held_is : (s : SenderState) (r : ReceiverState) → is_in r s.current.id ≡ true → held_for s r ≡ r.holding
held_is s r e = ap (λ (b : Bool). elim b [ true ↦ r.holding | false ↦ holding_nothing ]) e

-- what is_asked gives of a round
pub asks_some : (p : Settings) (s : SenderState) (r : ReceiverState) → is_asked p s r ≡ true → (x : Round) × (s.round ≡ Some x)
asks_some p s r e = go s.round refl two.1
  where
    of : (y : Want) × In y (in_window p s) × ((not (has p s r y) && asks_open p s y) ≡ true)
    of = of_any (λ (y : Want). not (has p s r y) && asks_open p s y) (in_window p s) e

    two : (not (has p s r of.0) ≡ true) × (asks_open p s of.0 ≡ true)
    two = both (not (has p s r of.0)) (asks_open p s of.0) of.2

    go : (o : Option Round) → s.round ≡ o → (elim o as (λ _. Bool) [ Some round ↦ asks p s round of.0 | None ↦ false ]) ≡ true → (x : Round) × (s.round ≡ Some x)
    go None is f = absurd (clash f)
    go (Some x) is f = (x, is)

-- ---- the turn

module _ (p : Settings) (events : List Event) (last : ℕ) (draws : ℕ → ℕ) (ph : Phase) (h : InPhase p events last ph) (spent : is_spent p (run p events) ≡ true)
    (w : Watermark) (old : oldest (run p events).sender ≡ Some w)
    (kept : oldest (tail_turn p draws (last + p.step) (course_from (run p events))).world.sender ≡ Some w) where
  abbrev s : SenderState
  s = (run p events).sender

  abbrev after : World
  after = (tail_turn p draws (last + p.step) (course_from (run p events))).world

  abbrev u : SenderState
  u = (tail_turn p draws (last + p.step) (course_from (run p events))).world.sender

  pub calm : IsCalm p (run p events) (tail_turn p draws (last + p.step) (course_from (run p events)))
  calm = turn_keeps p draws (IsCalm p (run p events)) (λ c k. k.nodes ∙ world_laws.nodes p events) (comes_calm p (run p events)) (draw_calm p (run p events))
      (last + p.step) (course_from (run p events)) (begins_calm p (run p events))

  pub current_is : u.current ≡ s.current
  current_is = (stays p events last draws h.follows h.may h.no_less).current

  -- each receiver is one after the turn
  pub is_then : (node : ℕ) (r : ReceiverState) → receiver_at (run p events) node ≡ Some r
      → (t : ReceiverState) × (receiver_at (tail_turn p draws (last + p.step) (course_from (run p events))).world node ≡ Some t)
  is_then node r found = go (receiver_at after node) refl
    where
      go : (o : Option ReceiverState) → receiver_at after node ≡ o → (t : ReceiverState) × (receiver_at after node ≡ Some t)
      go (Some t) e = (t, e)
      go None none =
          absurd (none_some r (sym (no_receiver node (run p events).receivers (ap (find (λ (n : ℕ). n == node)) (sym calm.nodes)
          ∙ no_node node after.receivers none)) ∙ found))

  pub member_then : (node : ℕ) → has_member node (run p events).sender ≡ true → has_member node u ≡ true
  member_then node member = same_members s u node (stays p events last draws h.follows h.may h.no_less).members ∙ member

  -- ---- one member

  module _ (node : ℕ) (other : (node == p.sender) ≡ false) (member : has_member node (run p events).sender ≡ true) (r t : ReceiverState)
      (found : receiver_at (run p events) node ≡ Some r) (is : receiver_at (tail_turn p draws (last + p.step) (course_from (run p events))).world node ≡ Some t)
      (knows : KnowsFlush t (run p events).sender.current.id w.at) where
    inside_t : is_in t u.current.id ≡ true
    inside_t = inside_so t u.current.id (knows.inside ∙ ap (λ (i : Instance). Some i.id) (sym current_is))

    -- it stands where it stood
    pub point_same : is_in r (run p events).sender.current.id ≡ true → t.holding.point ≡ r.holding.point
    point_same inside =
        ap (λ (x : Holding). x.point) (sym (held_is u t inside_t)) ∙ (same p events last draws ph h spent node other member r t found is).point
        ∙ ap (λ (x : Holding). x.point) (held_is s r inside)

    -- if it is behind it needs something
    pub needs : position_before w.at t.holding.point ≡ false → needs_nothing p t ≡ false
    needs early = needs_at p h.follows.profile h.holds events h.may h.none node other member w old
        (tail_turn p draws (last + p.step) (course_from (run p events))) calm t is knows early

    -- a back-off that runs late began late, so it is clean
    pub late_clean : (ends : ℕ) → r.knows.backoff ≡ Some ends → ph.began + (p.k + 2) * p.grtt + 1 ≤ ends → is_clean p (run p events).sender r ≡ true
    late_clean ends backs late =
        go (either (nat_lt ends (ph.began + (p.k + 2) * p.grtt + 1)) (is_clean p s r)
        (sym (ap (λ (o : Option ℕ). elim o as (λ _. Bool) [ Some m ↦ nat_lt m (ph.began + (p.k + 2) * p.grtt + 1) || is_clean p s r | None ↦ true ]) backs)
        ∙ of_member (is_clean_from (ph.began + (p.k + 2) * p.grtt + 1) p s) (run p events) h.watch.clean node r found member))
      where
        go : (nat_lt ends (ph.began + (p.k + 2) * p.grtt + 1) ≡ true) ⊎ (is_clean p (run p events).sender r ≡ true) → is_clean p (run p events).sender r ≡ true
        go (inl lt) = absurd (let less = (Decides-ltb ends (ph.began + (p.k + 2) * p.grtt + 1)).0 lt in omega (arith, less, late))
        go (inr e) = e

  -- a back-off that runs did not end before the turn
  pub ends_late : (now : ℕ) (v : SenderState) (x : ReceiverState) (ends : ℕ) → has_ticked p now v x ≡ true → x.knows.backoff ≡ Some ends → now < ends + p.step
  ends_late now v x ends e backs =
      go (either (nat_lt now ends) (flushed_at now v && nat_lt now (ends + p.step))
      (sym (ap (λ (o : Option ℕ). elim o as (λ _. Bool) [ Some m ↦ nat_lt now m || flushed_at now v && nat_lt now (m + p.step) | None ↦ true ]) backs)
      ∙ (both (owes_nothing x) (elim x.knows.backoff as (λ _. Bool) [ Some m ↦ nat_lt now m || flushed_at now v && nat_lt now (m + p.step) | None ↦ true ]) e).1))
    where
      go : (nat_lt now ends ≡ true) ⊎ ((flushed_at now v && nat_lt now (ends + p.step)) ≡ true) → now < ends + p.step
      go (inl lt) = let less = (Decides-ltb now ends).0 lt in omega (arith, less)
      go (inr lt) = (Decides-ltb now (ends + p.step)).0 (both (flushed_at now v) (nat_lt now (ends + p.step)) lt).1
