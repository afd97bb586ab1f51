-- On a run the test of the second part of safety looks at every node and instance of which there is a hand-up.
use Rattle.std.proofs.Common.{◌≡◌, ℕ, cond, ◌⊎◌, inl, inr, List, [], ◌∷◌, ◌++◌, map, Bool, true, false, Option, None, Some, refl, sym, ap, subst, ◌∙◌}
use Rattle.std.specs.Prelude.{◌==◌, ◌&&◌, ◌||◌, find, nat_eq}
use Rattle.std.specs.Bool.{Decides}
use Rattle.std.specs.List.{list_all, list_any, IsDistinct}
use Rattle.std.proofs.lemmas.Bool.Decides.{Decides-eqb}
use Rattle.norm_base.specs.Settings.{Settings}
use Rattle.norm_base.specs.Members.{receivers_of}
use Rattle.norm_order.specs.declared.up.Up.{Up}
use Rattle.norm_receive_rules.specs.ReceiverState.{ReceiverState, receiver_opening}
use Rattle.norm_receive_rules.specs.Leaving.{is_in}
use Rattle.norm_receive_rules.specs.ReceiverStep.{receiver_step}
use Rattle.norm_send_rules.specs.SenderStep.{sender_step}
use Rattle.norm_ext.specs.Written.{Written}
use Rattle.norm_safety.specs.Events.{Event, Answer, Gave, Sent, Took, Told, Silent}
use Rattle.norm_safety.specs.World.{World, world_opening, receiver_at, with_receiver, with_given, is_of, offers}
use Rattle.norm_safety.specs.WorldStep.{Move, OfSender, OfReceiver, OfNetwork, OfNobody, move_of, moved, answered, of_sender, of_receiver, world_step}
use Rattle.norm_safety.specs.WorldLaws.{nodes_of}
use Rattle.norm_safety.specs.HandsBegin.{HandsBeginInRuns}
use Rattle.norm_safety.specs.History.{Happening, History, happens, history}
use Rattle.norm_safety.specs.Hands.{is_at, taken_in, hands, instance_at}
use Rattle.norm_safety.specs.OnceEach.{order_of, are_distinct}
use Rattle.norm_safety.specs.InOrder.{GoesThrough, Stops, drop_of, is_same, newly, came_to, HandsInOrder, InOrder, hands_in_order, is_in_order}
use Rattle.norm_safety.proofs.FrontLemmas.{both, of_both}
use Rattle.norm_safety.proofs.OrderLemmas.{through_decides}
use Rattle.norm_safety.proofs.DistinctLemmas.{distinct_decides}

clash : false ≡ true → ⊥
clash e = cc

-- The nodes of a world's receivers, which no step changes.

abbrev put_where : Bool → ReceiverState → ReceiverState → ReceiverState
put_where b r x = elim b [ true ↦ r | false ↦ x ]

same_node : (r x : ReceiverState) (b : Bool) → (x.node == r.node) ≡ b → (put_where b r x).node ≡ x.node
same_node r x true e = sym ((Decides-eqb x.node r.node).0 e)
same_node r x false e = refl

abbrev put_in : ReceiverState → ReceiverState → ReceiverState
put_in r x = put_where (x.node == r.node) r x

nodes_with : (r : ReceiverState) (receivers : List ReceiverState)
    → map (λ (x : ReceiverState). x.node) (map (put_in r) receivers) ≡ map (λ (x : ReceiverState). x.node) receivers
nodes_with r [] = refl
nodes_with r (x ∷ receivers) =
    ap (λ n. n ∷ map (λ (y : ReceiverState). y.node) (map (put_in r) receivers)) (same_node r x (x.node == r.node) refl)
    ∙ ap (λ ns. x.node ∷ ns) (nodes_with r receivers)

given_nodes : (node : ℕ) (datagram : Option Written) (w : World) → nodes_of (with_given node datagram w) ≡ nodes_of w
given_nodes node None w = refl
given_nodes node (Some datagram) w = refl

answered_nodes : (node : ℕ) (answer : Answer) (w : World) → nodes_of (answered node answer w).0 ≡ nodes_of w
answered_nodes node (Sent datagram) w = given_nodes node datagram w
answered_nodes node (Gave result) w = refl
answered_nodes node (Took up) w = refl
answered_nodes node (Told news) w = refl
answered_nodes node Silent w = refl

offers_nodes : (found : Option (ℕ × Written)) (node : ℕ) (w : World) → nodes_of (offers found node w) ≡ nodes_of w
offers_nodes None node w = refl
offers_nodes (Some datagram) node w = refl

move_nodes : (p : Settings) (w : World) (move : Move) → nodes_of (moved p w move).0 ≡ nodes_of w
move_nodes p w (OfSender event) = (let step = sender_step p w.sender event in answered_nodes p.sender (of_sender step.1) (record w { sender = step.0 }))
move_nodes p w (OfReceiver r event) =
    let step = receiver_step p r event in answered_nodes r.node (of_receiver step.1) (with_receiver step.0 w) ∙ nodes_with step.0 w.receivers
move_nodes p w (OfNetwork node octets) = offers_nodes (find (is_of node octets) w.given) node w
move_nodes p w OfNobody = refl

pub step_nodes : (p : Settings) (w : World) (e : Event) → nodes_of (world_step p w e).0 ≡ nodes_of w
step_nodes p w e = move_nodes p w (move_of p w e)

-- A node without a receiver comes to no instance.

abbrev is_one : ℕ → List ℕ → Bool
is_one node ns = list_any (λ n. n == node) ns

neither : (a b : Bool) → (a || b) ≡ false → (a ≡ false) × (b ≡ false)
neither true b e = absurd (clash (sym e))
neither false b e = (refl, e)

no_receiver : (node : ℕ) (receivers : List ReceiverState) → is_one node (map (λ (r : ReceiverState). r.node) receivers) ≡ false
    → find (λ (r : ReceiverState). r.node == node) receivers ≡ None
no_receiver node [] e = refl
no_receiver node (r ∷ receivers) e =
    let two = neither (r.node == node) (is_one node (map (λ (x : ReceiverState). x.node) receivers)) e in
    ap (λ b. cond b (Some r) (find (λ (x : ReceiverState). x.node == node) receivers)) two.0 ∙ no_receiver node receivers two.1

no_instance : (node : ℕ) (w : World) → is_one node (nodes_of w) ≡ false → instance_at w node ≡ None
no_instance node w e = ap (λ (found : Option ReceiverState). elim found [ Some r ↦ r.instance | None ↦ None ]) (no_receiver node w.receivers e)

comes_nowhere : (p : Settings) (events : List Event) (w : World) (node : ℕ) → is_one node (nodes_of w) ≡ false → came_to node None (happens p w events) ≡ []
unfolding came_to happens
comes_nowhere p [] w node e = refl
comes_nowhere p (x ∷ events) w node e =
    let after = (world_step p w x).0 in
    let still = ap (is_one node) (step_nodes p w x) ∙ e in
    ap (λ (now : Option ℕ). newly None now ++ came_to node now (happens p after events)) (no_instance node after still)
    ∙ comes_nowhere p events after node still

-- Where something was handed up to a node in an instance, the node came to it.

at_instance : (w : World) (node id : ℕ) → is_at w node id ≡ true → instance_at w node ≡ Some id
at_instance w node id e = go (receiver_at w node) e
  where
    by : (now : Option ℕ) → elim now [ Some current ↦ current == id | None ↦ false ] ≡ true → now ≡ Some id
    by (Some current) is = ap Some ((Decides-eqb current id).0 is)
    by None is = absurd (clash is)

    go : (found : Option ReceiverState) → elim found [ Some r ↦ is_in r id | None ↦ false ] ≡ true
        → elim found [ Some r ↦ r.instance | None ↦ None ] ≡ Some id
    go (Some r) is = by r.instance is
    go None is = absurd (clash is)

one_behind : (id : ℕ) (front rest : List ℕ) → is_one id rest ≡ true → is_one id (front ++ rest) ≡ true
one_behind id [] rest e = e
one_behind id (x ∷ front) rest e = go (x == id) (one_behind id front rest e)
  where
    go : (b : Bool) → is_one id (front ++ rest) ≡ true → (b || is_one id (front ++ rest)) ≡ true
    go true more = refl
    go false more = more

one_first : (id : ℕ) (rest : List ℕ) → is_one id (id ∷ rest) ≡ true
one_first id rest = ap (λ b. b || is_one id rest) ((Decides-eqb id id).1 refl)

-- nothing was handed up to the node in the instance; or it was there, or came there
abbrev Came : List Up → Option ℕ → ℕ → List ℕ → Type 0
Came handed was id ids = (handed ≡ []) ⊎ ((was ≡ Some id) ⊎ (is_one id ids ≡ true))

same_id : (was : Option ℕ) (id : ℕ) → is_same was id ≡ true → was ≡ Some id
same_id (Some old) id e = ap Some ((Decides-eqb old id).0 e)
same_id None id e = absurd (clash e)

newly_there : (was : Option ℕ) (id : ℕ) (rest : List ℕ) → (was ≡ Some id) ⊎ (is_one id (newly was (Some id) ++ rest) ≡ true)
newly_there was id rest = go (is_same was id) refl
  where
    go : (b : Bool) → is_same was id ≡ b → (was ≡ Some id) ⊎ (is_one id (elim b [ true ↦ [] | false ↦ id ∷ [] ] ++ rest) ≡ true)
    go true e = inl (same_id was id e)
    go false e = inr (one_first id rest)

came : (p : Settings) (events : List Event) (w : World) (node id : ℕ)
    → Came (hands (happens p w events) node id) (instance_at w node) id (came_to node (instance_at w node) (happens p w events))
unfolding came_to happens
came p [] w node id = inl refl
came p (x ∷ events) w node id = go (is_at w node id) refl (came p events (world_step p w x).0 node id)
  where
    after : World
    after = (world_step p w x).0

    rest : List Up
    rest = hands (happens p after events) node id

    ids : List ℕ
    ids = came_to node (instance_at after node) (happens p after events)

    later : (instance_at after node ≡ Some id) ⊎ (is_one id ids ≡ true)
        → (instance_at w node ≡ Some id) ⊎ (is_one id (newly (instance_at w node) (instance_at after node) ++ ids) ≡ true)
    later (inl is) = subst (λ (now : Option ℕ). (instance_at w node ≡ Some id) ⊎ (is_one id (newly (instance_at w node) now ++ ids) ≡ true)) (sym is)
        (newly_there (instance_at w node) id ids)
    later (inr one) = inr (one_behind id (newly (instance_at w node) (instance_at after node)) ids one)

    go : (b : Bool) → is_at w node id ≡ b → Came rest (instance_at after node) id ids
        → Came (elim b [ true ↦ taken_in node x (world_step p w x).1 | false ↦ [] ] ++ rest) (instance_at w node) id
        (newly (instance_at w node) (instance_at after node) ++ ids)
    go true is more = inr (inl (at_instance w node id is))
    go false is (inl none) = inl none
    go false is (inr more) = inr (later more)

-- As a world begins.

pub opening_nodes : (ns : List ℕ) → map (λ (r : ReceiverState). r.node) (map receiver_opening ns) ≡ ns
opening_nodes [] = refl
opening_nodes (n ∷ ns) = ap (λ more. n ∷ more) (opening_nodes ns)

-- the instance that a receiver is in, where one was found
abbrev instance_of : Option ReceiverState → Option ℕ
instance_of found = elim found [ Some r ↦ r.instance | None ↦ None ]

opening_instance : (ns : List ℕ) (node : ℕ) → instance_of (find (λ (r : ReceiverState). r.node == node) (map receiver_opening ns)) ≡ None
opening_instance [] node = refl
opening_instance (n ∷ ns) node = go (n == node) (opening_instance ns node)
  where
    go : (b : Bool) → instance_of (find (λ (r : ReceiverState). r.node == node) (map receiver_opening ns)) ≡ None
        → instance_of (cond b (Some (receiver_opening n)) (find (λ (r : ReceiverState). r.node == node) (map receiver_opening ns))) ≡ None
    go true more = refl
    go false more = more

never_some : (id : ℕ) → None ≡ Some id → ⊥
never_some id e = cc

came_in_run : (p : Settings) (events : List Event) (node id : ℕ)
    → (hands (history p events).happened node id ≡ []) ⊎ (is_one id (came_to node None (history p events).happened) ≡ true)
came_in_run p events node id =
    let none = opening_instance (receivers_of p p.receivers) node in
    go (subst (λ (was : Option ℕ). Came (hands happened node id) was id (came_to node was happened)) none (came p events (world_opening p) node id))
  where
    happened : List Happening
    happened = happens p (world_opening p) events

    go : Came (hands happened node id) None id (came_to node None happened)
        → (hands happened node id ≡ []) ⊎ (is_one id (came_to node None happened) ≡ true)
    go (inl none) = inl none
    go (inr (inl is)) = absurd (never_some id is)
    go (inr (inr one)) = inr one

-- The test and the proposition.

all_of : (test : ℕ → Bool) (xs : List ℕ) → ((x : ℕ) → test x ≡ true) → list_all test xs ≡ true
all_of test [] each = refl
all_of test (x ∷ xs) each = of_both (test x) (list_all test xs) (each x) (all_of test xs each)

of_one : (test : ℕ → Bool) (x : ℕ) (xs : List ℕ) → list_all test xs ≡ true → is_one x xs ≡ true → test x ≡ true
of_one test x [] all one = absurd (clash one)
of_one test x (y ∷ xs) all one = let two = both (test y) (list_all test xs) all in go (y == x) refl one two (λ rest more. of_one test x xs rest more)
  where
    go : (b : Bool) → (y == x) ≡ b → (b || is_one x xs) ≡ true → (test y ≡ true) × (list_all test xs ≡ true)
        → (list_all test xs ≡ true → is_one x xs ≡ true → test x ≡ true) → test x ≡ true
    go true is one two later = ap test (sym ((Decides-eqb y x).0 is)) ∙ two.0
    go false is one two later = later two.1 one

-- the ids that a node came to, distinct and each with its hand-ups in order
abbrev is_node_right : Settings → History → ℕ → Bool
is_node_right p h node = let ids = came_to node None h.happened in are_distinct nat_eq ids && list_all (hands_in_order p h node) ids

none_in_order : (p : Settings) (h : History) (node id : ℕ) → hands h.happened node id ≡ [] → HandsInOrder p h node id
none_in_order p h node id e =
    subst (λ (handed : List Up). GoesThrough p (drop_of h.now.sender id) 0 (order_of h.now.sender id) handed) (sym e) Stops

-- a node of which the test is right
abbrev IsRight : Settings → History → ℕ → Type 0
IsRight p h node = ((id : ℕ) → HandsInOrder p h node id) × IsDistinct nat_eq (came_to node None h.happened)

abbrev CameWhere : History → ℕ → Type 0
CameWhere h node = (id : ℕ) → (hands h.happened node id ≡ []) ⊎ (is_one id (came_to node None h.happened) ≡ true)

right_of : (p : Settings) (h : History) (node : ℕ) → CameWhere h node → is_node_right p h node ≡ true → IsRight p h node
right_of p h node where_came e =
    let two = both (are_distinct nat_eq (came_to node None h.happened)) (list_all (hands_in_order p h node) (came_to node None h.happened)) e in
    (λ id. go two.1 id (where_came id), (distinct_decides nat_eq (came_to node None h.happened)).0 two.0)
  where
    go : list_all (hands_in_order p h node) (came_to node None h.happened) ≡ true → (id : ℕ)
        → (hands h.happened node id ≡ []) ⊎ (is_one id (came_to node None h.happened) ≡ true) → HandsInOrder p h node id
    go all id (inl none) = none_in_order p h node id none
    go all id (inr one) = (through_decides p (drop_of h.now.sender id) 0 (order_of h.now.sender id) (hands h.happened node id)).0
        (of_one (hands_in_order p h node) id (came_to node None h.happened) all one)

no_right : (p : Settings) (h : History) (node : ℕ) → CameWhere h node → came_to node None h.happened ≡ [] → IsRight p h node
unfolding are_distinct
no_right p h node where_came e = (
  λ id. go id (where_came id),
  (distinct_decides nat_eq (came_to node None h.happened)).0 (ap (are_distinct nat_eq) e),
)
  where
    go : (id : ℕ) → (hands h.happened node id ≡ []) ⊎ (is_one id (came_to node None h.happened) ≡ true) → HandsInOrder p h node id
    go id (inl none) = none_in_order p h node id none
    go id (inr one) = absurd (clash (sym (ap (is_one id) e) ∙ one))

node_right : (p : Settings) (events : List Event) (node : ℕ) → is_in_order p (history p events) ≡ true → IsRight p (history p events) node
node_right p events node e = go (is_one node (receivers_of p p.receivers)) refl
  where
    h : History
    h = history p events

    go : (b : Bool) → is_one node (receivers_of p p.receivers) ≡ b → IsRight p h node
    go true one = right_of p h node (came_in_run p events node) (of_one (is_node_right p h) node (receivers_of p p.receivers) e one)
    go false none = no_right p h node (came_in_run p events node)
        (comes_nowhere p events (world_opening p) node (ap (is_one node) (opening_nodes (receivers_of p p.receivers)) ∙ none))

pub order_decides : (p : Settings) (events : List Event) → Decides (is_in_order p (history p events)) (InOrder p (history p events))
order_decides p events = (
  λ e. record { through = λ node id. (node_right p events node e).0 id; once = λ node. (node_right p events node e).1 },
  λ order. all_of (is_node_right p h) (receivers_of p p.receivers) (λ node.
      of_both (are_distinct nat_eq (came_to node None h.happened)) (list_all (hands_in_order p h node) (came_to node None h.happened))
      ((distinct_decides nat_eq (came_to node None h.happened)).1 (order.once node))
      (all_of (hands_in_order p h node) (came_to node None h.happened) (λ id.
      (through_decides p (drop_of h.now.sender id) 0 (order_of h.now.sender id) (hands h.happened node id)).1 (order.through node id)))),
)
  where
    h : History
    h = history p events

-- what is handed up in an instance comes after the node does
pub hands_begin : HandsBeginInRuns
hands_begin p events node id never = go (came_in_run p events node id)
  where
    go : (hands (history p events).happened node id ≡ []) ⊎ (is_one id (came_to node None (history p events).happened) ≡ true)
        → hands (history p events).happened node id ≡ []
    go (inl none) = none
    go (inr one) = absurd (clash (sym never ∙ one))
