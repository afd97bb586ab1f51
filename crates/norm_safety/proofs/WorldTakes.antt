-- What holds of a world after a hand-up was taken.
use Rattle.std.proofs.Common.{◌≡◌, ℕ, List, [], ◌∷◌, ◌++◌, Bool, true, false, Option, None, Some, refl, sym, ap, ◌∙◌, subst, append_assoc}
use Rattle.std.specs.Prelude.{map, ◌==◌, nat_eq}
use Rattle.std.specs.List.{AllByRecursion, IsDistinct}
use Rattle.std.proofs.lemmas.Bool.Decides.{Decides-eqb}
use Rattle.std.proofs.lemmas.List.{append-nil}
use Rattle.norm_base.specs.Settings.{Settings, InRange}
use Rattle.fec_plan.specs.Points.{Point}
use Rattle.norm_base.specs.declared.node.Origin.{Origin}
use Rattle.norm_ext.specs.Written.{Written}
use Rattle.norm_order.specs.Entries.{Entry}
use Rattle.norm_order.specs.declared.up.Up.{Up}
use Rattle.norm_receive_rules.specs.ReceiverState.{ReceiverState}
use Rattle.norm_receive_rules.specs.Leaving.{is_in}
use Rattle.norm_send_rules.specs.SenderState.{SenderState}
use Rattle.norm_send_rules.specs.Restarting.{instances}
use Rattle.norm_safety.specs.Events.{UpTaken, Took}
use Rattle.norm_safety.specs.World.{World, receiver_at, with_receiver}
use Rattle.norm_safety.specs.History.{Happening}
use Rattle.norm_safety.specs.Hands.{hands, taken_in, is_at}
use Rattle.norm_safety.specs.InOrder.{came_to, drop_of}
use Rattle.norm_safety.specs.OnceEach.{order_of}
use Rattle.norm_safety.proofs.EntryLemmas.{clash}
use Rattle.norm_safety.proofs.Onward.{goes_on_itself}
use Rattle.norm_safety.proofs.OnceLemmas.{OnceSoFar}
use Rattle.norm_safety.proofs.Spoken.{SaysTrue}
use Rattle.norm_safety.proofs.Through.{Handed, handed_through, front_through}
use Rattle.norm_safety.proofs.Stood.{Due}
use Rattle.norm_safety.proofs.SenderHolds.{SenderHolds}
use Rattle.norm_safety.proofs.Holding.{ReceiverHolds}
use Rattle.norm_safety.proofs.ReceiverMoves.{StandingIn, in_instance_is}
use Rattle.norm_safety.proofs.WorldHolds.{Through, IsAbove, CameTo, AtReceiver, AtNode, WorldHolds, last_more, hands_more, hands_same, same_came, node_later, instance_of}
use Rattle.norm_safety.proofs.WorldMoves.{at_node, put_in, found_put, found_other, same_self, above_is_out}

-- what was taken went through the order
taken_through : (p : Settings) (s : SenderState) (id : ℕ) (taken : List Up) (r : ReceiverState) → ReceiverHolds p (order_of s id) (drop_of s id) taken r
    → Through p s id taken
taken_through p s id taken r h =
    front_through p (order_of s id) (drop_of s id) taken r.holding.ups
    (handed_through p (order_of s id) (drop_of s id) r.holding.lost (taken ++ r.holding.ups) r.holding.point h.gone)

-- the receiver behind its next hand-up
abbrev pub behind_up : List Up → ReceiverState → ReceiverState
behind_up ups r = record r { holding = record (r.holding) { ups = ups } }

-- what a holding is with one hand-up more that was taken
pub take_holding : (p : Settings) (order : List Entry) (d : Point) (taken : List Up) (up : Up) (ups : List Up) (r : ReceiverState) → r.holding.ups ≡ up ∷ ups
    → ReceiverHolds p order d taken r → ReceiverHolds p order d (taken ++ up ∷ []) (behind_up ups r)
take_holding p order d taken up ups r is h =
    let H : List Up → Type 0 = λ us. Handed p order d r.holding.lost us r.holding.point in
    let D : List Up → Type 0 = λ us. Due p order us r.knows.due in
    let same : taken ++ r.holding.ups ≡ (taken ++ up ∷ []) ++ ups = ap (λ (us : List Up). taken ++ us) is ∙ sym (append_assoc taken (up ∷ []) ups) in
    record {
      plans = h.plans;
      symbols = h.symbols;
      rising = h.rising;
      infos = h.infos;
      planned = h.planned;
      gone = subst H same h.gone;
      confirms = subst D same h.confirms;
    }

-- a hand-up, where it is this node's
abbrev taken_if : Bool → Up → List Up
taken_if own up = elim own [ true ↦ up ∷ [] | false ↦ [] ]

-- what was taken, where the node was in an instance
abbrev taken_where : Bool → List Up → List Up
taken_where inside taken = elim inside [ true ↦ taken | false ↦ [] ]

some_up : {up : Up} {ups : List Up} → (up ∷ ups) ≡ [] → ⊥
some_up e = cc

pub taken_world : (p : Settings) → InRange p → (past : List Happening) (accepted : List Origin) (w v : World) (node : ℕ) (r : ReceiverState) (up : Up) (ups : List Up)
    → receiver_at w node ≡ Some r → r.holding.ups ≡ up ∷ ups → v.sender ≡ w.sender → v.receivers ≡ (with_receiver (behind_up ups r) w).receivers
    → v.offered ≡ w.offered → v.given ≡ w.given → WorldHolds p past accepted w
    → WorldHolds p (past ++ record { before = w; event = UpTaken node; answer = Took (Some up); after = v } ∷ []) accepted v
taken_world p range past accepted w v node r up ups found is sender receivers offered given h = record {
  sender = subst HoldsOf (sym sender) h.sender;
  once = subst OnceOf (sym sender) h.once;
  offered = subst SaidOf (sym sender) (subst Said (sym offered) h.offered);
  given = subst GivenOf (sym sender) (subst Said (sym given) h.given);
  nodes = λ other. subst (NodeOf other) (sym sender) (nodes other (node == other) refl);
  through = λ other id. subst (ThroughOf other id) (sym sender) (through other id (node == other) (is_in r id) refl refl);
  latest = λ other. last_more other None past x;
}
  where
    x : Happening
    x = record { before = w; event = UpTaken node; answer = Took (Some up); after = v }

    t : ReceiverState
    t = behind_up ups r

    HoldsOf : SenderState → Type 0
    HoldsOf s = SenderHolds p s

    OnceOf : SenderState → Type 0
    OnceOf s = OnceSoFar s accepted

    Said : List (ℕ × Written) → Type 0
    Said said = AllByRecursion (λ (o : ℕ × Written). SaysTrue p w.sender o.1) said

    SaidOf : SenderState → Type 0
    SaidOf s = AllByRecursion (λ (o : ℕ × Written). SaysTrue p s o.1) v.offered

    GivenOf : SenderState → Type 0
    GivenOf s = AllByRecursion (λ (o : ℕ × Written). SaysTrue p s o.1) v.given

    now : List Happening
    now = past ++ record { before = w; event = UpTaken node; answer = Took (Some up); after = v } ∷ []

    NodeOf : ℕ → SenderState → Type 0
    NodeOf other s = AtNode p s (past ++ record { before = w; event = UpTaken node; answer = Took (Some up); after = v } ∷ []) other (receiver_at v other)

    ThroughOf : ℕ → ℕ → SenderState → Type 0
    ThroughOf other id s = Through p s id (hands (past ++ record { before = w; event = UpTaken node; answer = Took (Some up); after = v } ∷ []) other id)

    here : AtReceiver p w.sender past node r
    here = let A : Option ReceiverState → Type 0 = λ o. AtNode p w.sender past node o in subst A found (h.nodes node)

    nothing_at : (other : ℕ) → (node == other) ≡ false → taken_in other (UpTaken node) (Took (Some up)) ≡ []
    nothing_at other e = ap (λ (b : Bool). taken_if b up) e

    inside : (id : ℕ) → is_at w node id ≡ is_in r id
    inside id = ap (λ (o : Option ReceiverState). elim o [ Some y ↦ is_in y id | None ↦ false ]) found

    -- what was handed up at the node by then
    own_hands : (id : ℕ) → hands (past ++ record { before = w; event = UpTaken node; answer = Took (Some up); after = v } ∷ []) node id
        ≡ hands past node id ++ elim (is_in r id) [ true ↦ up ∷ [] | false ↦ [] ]
    own_hands id =
        hands_more past x node id
        ∙ ap (λ (b : Bool). hands past node id ++ taken_where b (taken_if (node == node) up)) (inside id)
        ∙ ap (λ (c : Bool). hands past node id ++ taken_where (is_in r id) (taken_if c up)) (same_self node)

    outside : (id : ℕ) → is_in r id ≡ false → hands (past ++ record { before = w; event = UpTaken node; answer = Took (Some up); after = v } ∷ []) node id ≡ hands past node id
    outside id out = own_hands id ∙ ap (λ (b : Bool). hands past node id ++ taken_where b (up ∷ [])) out ∙ append-nil (hands past node id)

    within : (id : ℕ) → is_in r id ≡ true → hands (past ++ record { before = w; event = UpTaken node; answer = Took (Some up); after = v } ∷ []) node id ≡ hands past node id ++ up ∷ []
    within id in_it = own_hands id ∙ ap (λ (b : Bool). hands past node id ++ taken_where b (up ∷ [])) in_it

    at_v : (other : ℕ) → receiver_at v other ≡ at_node (map (put_in (behind_up ups r)) w.receivers) other
    at_v other = ap (λ (rs : List ReceiverState). at_node rs other) receivers

    holds_in : (id : ℕ) → r.instance ≡ Some id → ReceiverHolds p (order_of w.sender id) (drop_of w.sender id) (hands past node id) r
    holds_in id e = let S : Option ℕ → Type 0 = λ instance. StandingIn p w.sender (hands past node) r instance in subst S e here.stands

    stands : (instance : Option ℕ) → r.instance ≡ instance → StandingIn p w.sender (hands (past ++ record { before = w; event = UpTaken node; answer = Took (Some up); after = v } ∷ []) node) (behind_up ups r) instance
    stands None e =
        let S : Option ℕ → Type 0 = λ instance. StandingIn p w.sender (hands past node) r instance in
        absurd (some_up (sym is ∙ (subst S e here.stands).0))
    stands (Some id) e =
        let inside_it : is_in r id ≡ true =
        ap (λ (instance : Option ℕ). elim instance [ Some current ↦ current == id | None ↦ false ]) e ∙ same_self id in
        let H : List Up → Type 0 = λ us. ReceiverHolds p (order_of w.sender id) (drop_of w.sender id) us (behind_up ups r) in
        subst H (sym (within id inside_it)) (take_holding p (order_of w.sender id) (drop_of w.sender id) (hands past node id) up ups r is (holds_in id e))

    own_there : at_node w.receivers r.node ≡ Some r
    own_there = ap (at_node w.receivers) here.here ∙ found

    own_found : receiver_at v node ≡ Some (behind_up ups r)
    own_found = at_v node ∙ ap (at_node (map (put_in (behind_up ups r)) w.receivers)) (sym here.here) ∙ found_put (behind_up ups r) r w.receivers own_there

    at_own : AtReceiver p w.sender (past ++ record { before = w; event = UpTaken node; answer = Took (Some up); after = v } ∷ []) node (behind_up ups r)
    at_own =
        let still : came_to node None (past ++ x ∷ []) ≡ came_to node None past =
        same_came p past x node (h.latest node ∙ ap instance_of found ∙ sym (ap instance_of own_found)) in
        let C : List ℕ → Type 0 = λ xs. CameTo p xs r.instance in
        let D : List ℕ → Type 0 = λ xs. IsDistinct nat_eq xs in
        record {
          here = here.here;
          member = here.member;
          sequence = here.sequence;
          came = subst C (sym still) here.came;
          once = subst D (sym still) here.once;
          stands = stands r.instance refl;
          never = λ id above. (
              let A : List ℕ → Type 0 = λ xs. IsAbove p xs id in
              let over = subst A still above in
              outside id (above_is_out p (came_to node None past) r.instance id here.came over) ∙ here.never id over
              );
        }

    nodes : (other : ℕ) (b : Bool) → (node == other) ≡ b
        → AtNode p w.sender (past ++ record { before = w; event = UpTaken node; answer = Took (Some up); after = v } ∷ []) other (receiver_at v other)
    nodes other true e =
        let A : Option ReceiverState → Type 0 = λ o. AtNode p w.sender (past ++ record { before = w; event = UpTaken node; answer = Took (Some up); after = v } ∷ []) node o in
        let N : ℕ → Type 0 = λ n. AtNode p w.sender (past ++ record { before = w; event = UpTaken node; answer = Took (Some up); after = v } ∷ []) n (receiver_at v n) in
        subst N ((Decides-eqb node other).0 e) (subst A (sym own_found) at_own)
    nodes other false e =
        let not_own : r.node ≡ other → ⊥ = λ is. clash (sym e ∙ (Decides-eqb node other).1 (sym here.here ∙ is)) in
        let at : receiver_at v other ≡ receiver_at w other = at_v other ∙ found_other (behind_up ups r) w.receivers other not_own in
        let A : Option ReceiverState → Type 0 = λ o. AtNode p w.sender (past ++ record { before = w; event = UpTaken node; answer = Took (Some up); after = v } ∷ []) other o in
        subst A (sym at) (node_later p range w.sender w.sender past x other (receiver_at w other) (goes_on_itself (instances w.sender)) (nothing_at other e)
        (h.latest other ∙ sym (ap instance_of at)) (h.nodes other))

    through : (other id : ℕ) (b c : Bool) → (node == other) ≡ b → is_in r id ≡ c
        → Through p w.sender id (hands (past ++ record { before = w; event = UpTaken node; answer = Took (Some up); after = v } ∷ []) other id)
    through other id true true e f =
        let N : ℕ → Type 0 = λ n. Through p w.sender id (hands (past ++ record { before = w; event = UpTaken node; answer = Took (Some up); after = v } ∷ []) n id) in
        let T : List Up → Type 0 = λ us. Through p w.sender id us in
        let held = take_holding p (order_of w.sender id) (drop_of w.sender id) (hands past node id) up ups r is (holds_in id (in_instance_is r id f)) in
        subst N ((Decides-eqb node other).0 e) (subst T (sym (within id f))
        (taken_through p w.sender id (hands past node id ++ up ∷ []) (behind_up ups r) held))
    through other id true false e f =
        let N : ℕ → Type 0 = λ n. Through p w.sender id (hands (past ++ record { before = w; event = UpTaken node; answer = Took (Some up); after = v } ∷ []) n id) in
        let T : List Up → Type 0 = λ us. Through p w.sender id us in
        subst N ((Decides-eqb node other).0 e) (subst T (sym (outside id f)) (h.through node id))
    through other id false c e f =
        let T : List Up → Type 0 = λ us. Through p w.sender id us in
        subst T (sym (hands_same past x other id (nothing_at other e))) (h.through other id)
