-- The second part of safety: a receiver hands up the transport order, with a loss only where the sender dropped data.
use Rattle.std.specs.Prelude.{ℕ, suc, ◌≡◌, ◌-◌, ◌/◌, ◌==◌, ◌&&◌, ◌||◌, List, [], ◌∷◌, ◌++◌, length, find, drop, nat_lt, nat_eq, Bool, true, false, Option, None, Some, IsTrue}
use Rattle.std.specs.List.{list_all, common_prefix_len, IsDistinct}
use Rattle.norm_base.specs.Settings.{Settings}
use Rattle.norm_base.specs.Members.{receivers_of}
use Rattle.fec_plan.specs.Points.{Point, point}
use Rattle.norm_order.specs.declared.up.Up.{Up}
use Rattle.norm_order.specs.declared.up.Up.TheVariants as up
use Rattle.norm_order.specs.Entries.{Object, Whole, Stream, Entry}
use Rattle.norm_order.specs.Upto.{parts_of}
use Rattle.norm_send_rules.specs.SenderState.{SenderState, Instance}
use Rattle.norm_send_rules.specs.Restarting.{instances}
use Rattle.norm_safety.specs.Fronts.{same_up}
use Rattle.norm_safety.specs.Hands.{hands, instance_at}
use Rattle.norm_safety.specs.History.{Happening, History}
use Rattle.norm_safety.specs.OnceEach.{order_of, are_distinct}

-- an object is a stream
abbrev pub is_stream_object : Object → Bool
is_stream_object (Whole kind info octets) = false
is_stream_object (Stream parts) = true

-- how many blocks of a stream were handed up whole with so many of its parts; the first part is its open
abbrev pub whole_blocks : Settings → ℕ → ℕ
whole_blocks p parts = (parts - 1) / p.b

-- The object with this index may be lost after so many of its parts: all of it was dropped, or it is a stream of which a
-- block was dropped that was not handed up whole.
abbrev pub may_be_lost : Settings → Point → ℕ → Object → ℕ → Bool
may_be_lost p dropped index object parts =
    nat_lt index dropped.index
    || (index == dropped.index && is_stream_object object && nat_lt (whole_blocks p parts) dropped.block)

-- a list of hand-ups is a front of others, and not all of them
abbrev pub IsLess : List Up → List Up → Type 0
IsLess front whole = (next : Up) × (rest : List Up) × (whole ≡ front ++ next ∷ rest)

-- these parts of an object may stand before its loss: none of data or a file, and of a stream not all
abbrev pub IsHandedOf : Settings → ℕ → Object → List Up → Type 0
IsHandedOf p index (Whole kind info octets) front = front ≡ []
IsHandedOf p index (Stream parts) front = IsLess front (parts_of p index (Stream parts))

-- Hand-ups go through an order, from an index on: at each index the parts of the entry, or those before its loss; only
-- at the last one a front of a stream's parts.
pub data GoesThrough (p : Settings) (dropped : Point) : ℕ → List Entry → List Up → Type 0 where
  Stops : {index : ℕ} {order : List Entry} → GoesThrough p dropped index order []
  Hands : {index : ℕ} {order : List Entry} {rest : List Up} (entry : Entry)
      → GoesThrough p dropped (suc index) order rest
      → GoesThrough p dropped index (entry ∷ order) (parts_of p index entry.object ++ rest)
  Loses : {index : ℕ} {order : List Entry} {rest : List Up} (entry : Entry) (front : List Up)
      → IsHandedOf p index entry.object front
      → IsTrue (may_be_lost p dropped index entry.object (length front))
      → GoesThrough p dropped (suc index) order rest
      → GoesThrough p dropped index (entry ∷ order) (front ++ up.Lost index ∷ rest)
  Within : {index : ℕ} {order : List Entry} (entry : Entry) (front : List Up)
      → IsTrue (is_stream_object entry.object)
      → IsHandedOf p index entry.object front
      → GoesThrough p dropped index (entry ∷ order) front

-- the drop point of an instance
abbrev pub drop_of : SenderState → ℕ → Point
drop_of s id = elim (find (λ (i : Instance). i.id == id) (instances s)) [ Some i ↦ i.drop | None ↦ point 0 0 ]

-- the same instance
abbrev pub is_same : Option ℕ → ℕ → Bool
is_same was id = elim was [ Some old ↦ old == id | None ↦ false ]

-- the instance, where a node came to it now
abbrev pub newly : Option ℕ → Option ℕ → List ℕ
newly was None = []
newly was (Some id) = elim (is_same was id) [ true ↦ [] | false ↦ id ∷ [] ]

-- the instances that a node came to, each as often as it came
unfoldable pub came_to : ℕ → Option ℕ → List Happening → List ℕ
came_to node was [] = []
came_to node was (h ∷ happened) =
    let now = instance_at h.after node in newly was now ++ came_to node now happened

-- what a node handed up in an instance goes through its order
abbrev pub HandsInOrder : Settings → History → ℕ → ℕ → Type 0
HandsInOrder p h node id =
    GoesThrough p (drop_of h.now.sender id) 0 (order_of h.now.sender id) (hands h.happened node id)

-- Of each receiver and each instance that it was in: its hand-ups go through the order, and it came there once.
pub record InOrder (p : Settings) (h : History) : Type 0 where
  pub through : (node id : ℕ) → HandsInOrder p h node id
  pub once : (node : ℕ) → IsDistinct nat_eq (came_to node None h.happened)

-- The same as tests.

-- after the loss of an object, where the next hand-up is that and it may be lost: what follows
abbrev pub behind_loss : Settings → Point → ℕ → Object → ℕ → List Up → Option (List Up)
behind_loss p dropped index object parts (up.Lost lost ∷ rest) = elim (lost == index && may_be_lost p dropped index object parts) [
  | true ↦ Some rest
  | false ↦ None
]
behind_loss p dropped index object parts _ = None

-- of hand-ups that begin with so many parts of an object: what follows it, or None where it is not right
abbrev pub behind_object : Settings → Point → ℕ → Object → ℕ → List Up → Option (List Up)
behind_object p dropped index object common handed = elim (common == length (parts_of p index object)) [
  | true ↦ Some (drop common handed)
  | false ↦ elim (drop common handed) [
    | [] ↦ Some []
    | next ∷ rest ↦ behind_loss p dropped index object common (next ∷ rest)
  ]
]

-- how many parts of an object the hand-ups begin with
abbrev pub parts_handed : Settings → ℕ → Object → List Up → ℕ
parts_handed p index object handed = common_prefix_len same_up (parts_of p index object) handed

-- what follows an object in the hand-ups
abbrev pub behind : Settings → Point → ℕ → Object → List Up → Option (List Up)
behind p dropped index object handed = behind_object p dropped index object (parts_handed p index object handed) handed

-- hand-ups go through an order, from an index on
unfoldable pub goes_through : Settings → Point → ℕ → List Entry → List Up → Bool
goes_through p dropped index order [] = true
goes_through p dropped index [] (x ∷ handed) = false
goes_through p dropped index (entry ∷ order) (x ∷ handed) = elim (behind p dropped index entry.object (x ∷ handed)) [
  | Some rest ↦ goes_through p dropped (suc index) order rest
  | None ↦ false
]

-- what a node handed up in one instance
abbrev pub hands_in_order : Settings → History → ℕ → ℕ → Bool
hands_in_order p h node id =
    goes_through p (drop_of h.now.sender id) 0 (order_of h.now.sender id) (hands h.happened node id)

-- of each receiver: in each instance that it was in
abbrev pub is_in_order : Settings → History → Bool
is_in_order p h = list_all
    (λ node. let ids = came_to node None h.happened in are_distinct nat_eq ids && list_all (hands_in_order p h node) ids)
    (receivers_of p p.receivers)
