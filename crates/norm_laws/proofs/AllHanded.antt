-- Wherever the sender of a run that passes on is idle, every receiver was handed everything of the order.
use Rattle.std.proofs.Common.{◌≡◌, ℕ, zero, suc, ◌+◌, ◌<◌, cond, List, [], ◌∷◌, ◌++◌, Bool, true, false, Option, None, Some, refl, sym, ap, ◌∙◌, subst, append_assoc, arith, inl}
use Rattle.std.specs.Prelude.{map, find, slice_get, ◌==◌, ◌&&◌, ◌||◌, not, nat_lt, Contains}
use Rattle.std.specs.List.{AllByRecursion}
use Rattle.std.proofs.lemmas.Bool.Decides.{Decides-eqb, Decides-ltb}
use Rattle.std.proofs.lemmas.List.{append-nil}
use Rattle.norm_base.specs.Settings.{Settings, InRange}
use Rattle.norm_base.specs.Members.{receivers_of}
use Rattle.norm_base.specs.declared.node.Origin.{Origin}
use Rattle.fec_plan.specs.Points.{position}
use Rattle.norm_ext.specs.InstanceIds.{rise}
use Rattle.norm_ext.specs.Written.{Written}
use Rattle.norm_order.specs.Entries.{Entry}
use Rattle.norm_order.specs.Sets.{is_member}
use Rattle.norm_order.specs.Shapes.{Shape, shape_of, shapes_of, closed_in, at_index}
use Rattle.norm_order.specs.Upto.{parts_of}
use Rattle.norm_order.specs.declared.up.Up.{Up}
use Rattle.norm_receive_rules.specs.Leaving.{is_in}
use Rattle.norm_receive_rules.specs.ReceiverState.{ReceiverState, receiver_opening}
use Rattle.norm_receive_rules.specs.ReceiverStep as receiver
use Rattle.norm_receive_rules.specs.Ticking.{ticked as receiver_ticked}
use Rattle.norm_receive_rules.proofs.FarLemmas.{far_laws}
use Rattle.norm_send_rules.specs.DropLaws.{DropHolds}
use Rattle.norm_send_rules.specs.SenderState.{SenderState, sender_opening}
use Rattle.norm_send_rules.specs.SenderStep as sender
use Rattle.norm_send_rules.specs.Ticking.{ticked as sender_ticked}
use Rattle.norm_safety.specs.Events.{Event, Commanded, Delivered, Ticked, Offered, UpTaken, NewsAsked}
use Rattle.norm_safety.specs.Hands.{hands}
use Rattle.norm_safety.specs.History.{Happening, happens}
use Rattle.norm_safety.specs.InOrder.{came_to, drop_of}
use Rattle.norm_safety.specs.Jobs.{AreEvents}
use Rattle.norm_safety.specs.Lawful.{accepted_with, LawfulFrom}
use Rattle.norm_safety.specs.World.{World, world_opening, receiver_at, with_receiver, is_of, offers}
use Rattle.norm_safety.specs.WorldStep.{world_step, moved, node_move, receiver_move, run_from, run}
use Rattle.norm_safety.proofs.EntryLemmas.{clash}
use Rattle.norm_safety.proofs.Holding.{HoldsOf}
use Rattle.norm_safety.proofs.ListRun.{given_leaves}
use Rattle.norm_safety.proofs.OrderRun.{happening, event_holds, opening_world}
use Rattle.norm_safety.proofs.ReceiverMoves.{StandingIn, in_instance_is}
use Rattle.norm_safety.proofs.SenderHolds.{current_sized}
use Rattle.norm_safety.proofs.Spoken.{sized_at, current_order, current_begun}
use Rattle.norm_safety.proofs.WorldHolds.{IsAbove, CameTo, AtReceiver, AtNode, WorldHolds, all_end, all_contains}
use Rattle.norm_safety.proofs.WorldLemmas.{world_laws}
use Rattle.norm_safety.proofs.WorldMoves.{at_node}
use Rattle.norm_laws.specs.HandedUp.{Passing, passing_after, is_passed_on, is_sender_tick, passes_on_from, everything_from, everything, AllIsHandedUp}
use Rattle.norm_laws.specs.SentOnce.{SourcesSent}
use Rattle.norm_laws.proofs.Everything.{AllHad, everything_handed}
use Rattle.norm_laws.proofs.HeldRoom.{FitsNow, fits_opening}
use Rattle.norm_laws.proofs.HeldWindow.{fits_step}
use Rattle.norm_laws.proofs.IdleRun.{Kept, event_keeps, opening_kept, idle_has_sources}
use Rattle.norm_laws.proofs.PassingRun.{HasAt, Passed, passed_at, event_passes}
use Rattle.norm_laws.proofs.PassingTicks.{HasAll, Same, all_passed, sits_below, has_all_later, first_closed}
use Rattle.norm_laws.proofs.PassingWords.{IsBelow, Has, same_height}
use Rattle.norm_laws.proofs.SentRests.{rests_itself}

-- ---- along the run

-- each event leaves the sender's window within the profile
event_fits : (p : Settings) → InRange p → (w : World) (e : Event) → DropHolds w.sender → FitsNow p w.sender → FitsNow p (world_step p w e).0.sender
event_fits p range w (Commanded by job now) drops h = fits_step p range w.sender (sender.Commanded by job now) drops h
event_fits p range w (Delivered node octets now draw) drops h = go (node == p.sender) (receiver_at w node)
  where
    go : (own : Bool) (found : Option ReceiverState)
        → FitsNow p (moved p w (node_move own found (sender.Delivered octets now) (receiver.Delivered octets now draw))).0.sender
    go true found = fits_step p range w.sender (sender.Delivered octets now) drops h
    go false None = h
    go false (Some r) = h
event_fits p range w (Ticked node now) drops h = go (node == p.sender) (receiver_at w node)
  where
    F : SenderState → Type 0
    F s = FitsNow p s

    go : (own : Bool) (found : Option ReceiverState) → FitsNow p (moved p w (node_move own found (sender.Ticked now) (receiver.Ticked now))).0.sender
    go true found =
        let v : World = record w { sender = (sender_ticked p w.sender now).0 } in
        subst F (sym (given_leaves p.sender (sender_ticked p w.sender now).1 v).0) (fits_step p range w.sender (sender.Ticked now) drops h)
    go false None = h
    go false (Some r) = subst F (sym (given_leaves r.node (receiver_ticked p r now).1 (with_receiver (receiver_ticked p r now).0 w)).0) h
event_fits p range w (Offered node octets) drops h = go (find (is_of node octets) w.given)
  where
    go : (found : Option (ℕ × Written)) → FitsNow p (offers found node w).sender
    go None = h
    go (Some o) = h
event_fits p range w (UpTaken node) drops h = go (receiver_at w node)
  where
    go : (found : Option ReceiverState) → FitsNow p (moved p w (receiver_move found receiver.UpTaken)).0.sender
    go None = h
    go (Some r) = h
event_fits p range w NewsAsked drops h = fits_step p range w.sender sender.NewsAsked drops h

-- what is kept of a world that a run comes to
record Along (p : Settings) (past : List Happening) (accepted : List Origin) (w : World) (x : Passing) : Type 0 where
  holds : WorldHolds p past accepted w
  kept : Kept p w.sender
  fits : FitsNow p w.sender
  passed : Passed p w x

-- the same at the end of events that pass on
record Ended (p : Settings) (past : List Happening) (w : World) (events : List Event) : Type 0 where
  accepted : List Origin
  passing : Passing
  along : Along p (past ++ happens p w events) accepted (run_from p w events) passing
  on : is_passed_on (run_from p w events) passing ≡ true

both_true : (a b : Bool) → (a && b) ≡ true → (a ≡ true) × (b ≡ true)
both_true true b e = (refl, e)
both_true false b e = absurd (clash e)

unless : (a b : Bool) → (not a || b) ≡ true → a ≡ true → b ≡ true
unless true b e is = e
unless false b e is = absurd (clash is)

runs_along : (p : Settings) → InRange p → (past : List Happening) (accepted : List Origin) (w : World) (x : Passing) (events : List Event) → LawfulFrom p w accepted events
    → AreEvents events → passes_on_from p w x events ≡ true → Along p past accepted w x → Ended p past w events
unfolding happens passes_on_from
runs_along p range past accepted w x [] lawful are on h =
    let A : List Happening → Type 0 = λ all. Along p all accepted w x in
    record { accepted = accepted; passing = x; along = subst A (sym (append-nil past)) h; on = on }
runs_along p range past accepted w x (e ∷ events) lawful are on h =
    let step = world_step p w e in
    let y : Passing = passing_after p w x e step.1 in
    let two = both_true (not (is_sender_tick p e) || is_passed_on w x) (passes_on_from p step.0 y events) on in
    let holds = event_holds p range past accepted w e lawful.0 are.0 h.holds in
    let kept = event_keeps p range w e h.kept in
    let fits = event_fits p range w e h.kept.drops h.fits in
    let passed = event_passes p range past accepted w x e lawful.0 h.holds h.kept.sent.gone (λ now. fits_step p range w.sender (sender.Ticked now) h.kept.drops h.fits)
    (unless (is_sender_tick p e) (is_passed_on w x) two.0) (record { past = _; accepted = _; holds = holds }) h.passed in
    let more : Along p (past ++ happening w e step ∷ []) (accepted_with accepted e step.1) step.0 y = record { holds = holds; kept = kept; fits = fits; passed = passed } in
    let rest = runs_along p range (past ++ happening w e step ∷ []) (accepted_with accepted e step.1) step.0 y events lawful.1 are.1 two.1 more in
    let A : List Happening → Type 0 = λ all. Along p all rest.accepted (run_from p step.0 events) rest.passing in
    record { accepted = rest.accepted; passing = rest.passing; along = subst A (append_assoc past (happening w e step ∷ []) (happens p step.0 events)) rest.along; on = rest.on }

-- as a world begins
opening_along : (p : Settings) → InRange p → Along p [] [] (world_opening p) (record { last = None; heard = [] })
unfolding is_member
opening_along p range = record {
  holds = opening_world p range;
  kept = opening_kept p;
  fits = fits_opening p p.instance;
  passed = record {
    ticked = sender_opening p p.instance;
    stands = record { past = []; accepted = []; holds = opening_world p range };
    fits = fits_opening p p.instance;
    sits = Same (rests_itself (sender_opening p p.instance));
    last = tt;
    nodes = λ node apart. at node (receivers_of p p.receivers);
  };
}
  where
    x : Passing
    x = record { last = None; heard = [] }

    begun : (node n : ℕ) → HasAt p (sender_opening p p.instance) x [] [] node (Some (receiver_opening n))
    begun node n = record {
      has = record {
        symbols = λ at e. absurd (clash e);
        infos = λ index e. absurd (clash e);
        past = inl refl;
        lost = refl;
        apart = tt;
        far = far_laws.begins p n;
        below = tt;
      };
      offered = tt;
      given = tt;
    }

    at : (node : ℕ) (nodes : List ℕ) → HasAt p (sender_opening p p.instance) x [] [] node (at_node (map receiver_opening nodes) node)
    at node [] = tt
    at node (n ∷ nodes) = by (n == node) (at node nodes)
      where
        by : (b : Bool) → HasAt p (sender_opening p p.instance) x [] [] node (at_node (map receiver_opening nodes) node)
            → HasAt p (sender_opening p p.instance) x [] [] node (cond b (Some (receiver_opening n)) (at_node (map receiver_opening nodes) node))
        by true rest = begun node n
        by false rest = rest

-- ---- the receivers of the profile

above_sender : (p : Settings) (n : ℕ) → AllByRecursion (λ (node : ℕ). p.sender < node) (receivers_of p n)
above_sender p zero = tt
above_sender p (suc n) = all_end (λ (node : ℕ). p.sender < node) (receivers_of p n) (p.sender + 1 + n) (above_sender p n) (omega arith)

-- a node of a world's receivers has one
is_there : (rs : List ReceiverState) (node : ℕ) → Contains (map (λ (r : ReceiverState). r.node) rs) node → (r : ReceiverState) × (at_node rs node ≡ Some r)
is_there [] node (k, lt, is) = absurd (omega (arith, lt))
is_there (a ∷ rs) node has = go (λ more. is_there rs node more) (a.node == node) refl
  where
    Rest : Type 0
    Rest = Contains (map (λ (r : ReceiverState). r.node) rs) node → (r : ReceiverState) × (at_node rs node ≡ Some r)

    rest : Rest → (a.node == node) ≡ false → Contains (map (λ (r : ReceiverState). r.node) (a ∷ rs)) node → (r : ReceiverState) × (at_node rs node ≡ Some r)
    rest there e (zero, lt, is) = absurd (clash (sym e ∙ (Decides-eqb a.node node).1 is))
    rest there e (suc k, lt, is) = there (k, omega (arith, lt), is)

    go : Rest → (b : Bool) → (a.node == node) ≡ b → (r : ReceiverState) × (cond b (Some a) (at_node rs node) ≡ Some r)
    go there true e = (a, refl)
    go there false e = rest there e has

-- ---- an order of which nothing is closed

nothing_closed : (p : Settings) (n : ℕ) (order : List Entry) → ((i : ℕ) (x : Entry) → slice_get order i ≡ Some x → (shape_of p x.object).closed ≡ 0)
    → everything_from p n order ≡ []
unfolding everything_from
nothing_closed p n [] none = refl
nothing_closed p n (x ∷ order) none =
    ap (λ (us : List Up). us ++ everything_from p (n + 1) order) (no_parts (shape_of p x.object).closed (parts_of p n x.object) (none 0 x refl))
    ∙ nothing_closed p (n + 1) order (λ i y found. none (suc i) y found)
  where
    no_parts : (closed : ℕ) (parts : List Up) → closed ≡ 0 → (elim closed as (λ _. List Up) [ zero ↦ [] | suc m ↦ parts ]) ≡ []
    no_parts zero parts e = refl
    no_parts (suc m) parts e = absurd (omega (arith, e))

-- a test of an entry is one of its shape in the order
shape_at : (p : Settings) (order : List Entry) (i : ℕ) (x : Entry) (test : Shape → Bool) → slice_get order i ≡ Some x → test (shape_of p x.object) ≡ true
    → at_index (shapes_of p order) i false test ≡ true
shape_at p [] i x test found e = absurd (none x found)
  where
    none : (y : Entry) → None ≡ Some y → ⊥
    none y e = cc
shape_at p (y ∷ order) zero x test found e = ap (λ (z : Entry). test (shape_of p z.object)) (same y x found) ∙ e
  where
    same : (a b : Entry) → Some a ≡ Some b → a ≡ b
    same a b e = cc
shape_at p (y ∷ order) (suc i) x test found e = shape_at p order i x test found e

-- ---- the law

module _ (p : Settings) (range : InRange p) (past : List Happening) (accepted : List Origin) (w : World) (x : Passing) (along : Along p past accepted w x)
    (on : is_passed_on w x ≡ true) (sources : SourcesSent p w.sender) (node : ℕ) (apart : (node == p.sender) ≡ false) (r : ReceiverState) (found : receiver_at w node ≡ Some r) where
  abbrev s : SenderState
  s = w.sender

  has : Has p along.passed.ticked x node r
  has = (let H : Option ReceiverState → Type 0 = λ o. HasAt p along.passed.ticked x w.offered w.given node o in (subst H found (along.passed.nodes node apart)).has)

  here : AtReceiver p s past node r
  here = let A : Option ReceiverState → Type 0 = λ o. AtNode p s past node o in subst A found (along.holds.nodes node)

  all : HasAll s r
  all = has_all_later p along.passed.ticked s r along.passed.sits (all_passed p along.passed.ticked x node r (passed_at w x node r on found).0 has)

  none_waiting : r.holding.ups ≡ []
  none_waiting = taken r.holding.ups (passed_at w x node r on found).1
    where
      taken : (ups : List Up) → (elim ups as (λ _. Bool) [ [] ↦ true | up ∷ more ↦ false ]) ≡ true → ups ≡ []
      taken [] e = refl
      taken (up ∷ more) e = absurd (clash e)

  -- each entry is had
  had : AllHad p s.current.order r.holding
  had index y there = record {
    symbols = λ block symbol e. (all.symbols (position index block symbol)
        (sources.symbols (position index block symbol) (shape_at p s.current.order index y (λ (z : Shape). nat_lt symbol (closed_in z block)) there e))).1;
    info = λ e. (all.infos index (sources.infos index (shape_at p s.current.order index y (λ (z : Shape). z.info) there e))).1;
  }

  inside_handed : r.instance ≡ Some s.current.id → hands past node s.current.id ≡ everything p s.current.order
  inside_handed is =
      let S : Option ℕ → Type 0 = λ instance. StandingIn p s (hands past node) r instance in
      let H : List Entry → Type 0 = λ order. HoldsOf p order (drop_of s s.current.id) (hands past node s.current.id) r.knows.due r.holding in
      let holds = subst H (current_order s along.holds.once.ids) (subst S is here.stands) in
      sym (append-nil (hands past node s.current.id)) ∙ ap (λ (ups : List Up). hands past node s.current.id ++ ups) (sym none_waiting)
      ∙ everything_handed p range s.current.order (drop_of s s.current.id) (hands past node s.current.id) r.knows.due r.holding (current_sized p s along.holds.sender)
      along.holds.sender.ends holds has.lost had has.far.stuck

  -- ---- a receiver that did not come to the instance

  outside_closed : (r.instance ≡ Some s.current.id → ⊥) → (i : ℕ) (y : Entry) → slice_get s.current.order i ≡ Some y → (shape_of p y.object).closed ≡ 0
  outside_closed out i y there = go (shape_of p y.object).closed refl
    where
      go : (n : ℕ) → (shape_of p y.object).closed ≡ n → (shape_of p y.object).closed ≡ 0
      go zero e = e
      go (suc n) e =
          let some : 0 < (shape_of p y.object).closed = omega (arith, e) in
          let first = first_closed p range y.object (sized_at p s.current.order i y (current_sized p s along.holds.sender) there) some in
          let sent = sources.symbols (position i 0 0) (shape_at p s.current.order i y (λ (z : Shape). nat_lt 0 (closed_in z 0)) there
          ((Decides-ltb 0 (closed_in (shape_of p y.object) 0)).1 first)) in
          absurd (out (all.symbols (position i 0 0) sent).0)

  still_lower : (ids : List ℕ) (current : ℕ) → rise p.instance current < rise p.instance s.current.id → IsAbove p ids current → IsAbove p ids s.current.id
  still_lower [] current lt above = tt
  still_lower (id ∷ ids) current lt above = ((let less = above.0 in omega (arith, lt, less)), still_lower ids current lt above.1)

  above_all : (r.instance ≡ Some s.current.id → ⊥) → IsAbove p (came_to node None past) s.current.id
  above_all out = go r.instance refl here.came (sits_below p along.passed.ticked s r.instance along.passed.sits has.below)
    where
      A : List ℕ → Type 0
      A ids = IsAbove p ids s.current.id

      go : (instance : Option ℕ) → r.instance ≡ instance → CameTo p (came_to node None past) instance → IsBelow p instance s.current.id → IsAbove p (came_to node None past) s.current.id
      go None is came below = subst A (sym came) tt
      go (Some current) is came below =
          let differ : rise p.instance current ≡ rise p.instance s.current.id → ⊥ =
          λ same. out (is ∙ ap (λ (n : ℕ). Some n) (same_height p current s.current.id came.begun (current_begun p range s along.holds.sender) same)) in
          let lt : rise p.instance current < rise p.instance s.current.id = omega (arith, below, differ) in
          subst A (sym came.is) (all_end (λ (id : ℕ). rise p.instance id < rise p.instance s.current.id) came.before current (still_lower came.before current lt came.lower) lt)

  outside_handed : (r.instance ≡ Some s.current.id → ⊥) → hands past node s.current.id ≡ everything p s.current.order
  outside_handed out = here.never s.current.id (above_all out) ∙ sym (nothing_closed p 0 s.current.order (outside_closed out))

  is_handed : hands past node s.current.id ≡ everything p s.current.order
  is_handed = go (is_in r s.current.id) refl
    where
      go : (b : Bool) → is_in r s.current.id ≡ b → hands past node s.current.id ≡ everything p s.current.order
      go true e = inside_handed (in_instance_is r s.current.id e)
      go false e = outside_handed (λ is. clash (sym e ∙ ap (λ (instance : Option ℕ). elim instance [ Some own ↦ own == s.current.id | None ↦ false ]) is
          ∙ (Decides-eqb s.current.id s.current.id).1 refl))

pub all_is_handed_up : AllIsHandedUp
all_is_handed_up p range events lawful are on idle node member =
    let ended = runs_along p range [] [] (world_opening p) (record { last = None; heard = [] }) events lawful are on (opening_along p range) in
    let w : World = run p events in
    let C : List ℕ → Type 0 = λ nodes. Contains nodes node in
    let there = is_there w.receivers node (subst C (sym (world_laws.nodes p events)) member) in
    is_handed p range (happens p (world_opening p) events) ended.accepted w ended.passing ended.along ended.on (idle_has_sources p range events idle) node
    (not_sender (all_contains (λ (n : ℕ). p.sender < n) (receivers_of p p.receivers) node (above_sender p p.receivers) member)) there.0 there.1
  where
    not_sender : p.sender < node → (node == p.sender) ≡ false
    not_sender lt = go (node == p.sender) refl
      where
        go : (b : Bool) → (node == p.sender) ≡ b → b ≡ false
        go true e = absurd (let same = (Decides-eqb node p.sender).0 e in omega (arith, lt, same))
        go false e = refl
