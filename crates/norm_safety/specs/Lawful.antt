-- Which runs are lawful: what is presupposed of producers, of the network, and of who drives the nodes.
use Rattle.std.specs.Prelude.{ℕ, ◌≡◌, ◌≢◌, ◌+◌, ◌==◌, ◌&&◌, not, List, [], ◌∷◌, ◌++◌, Contains, Bool, true, false, nat_le, Option, None, Some, option_and_then, Ok, IsTrue, ⊤}
use Rattle.std.specs.List.{list_any, list_all}
use Rattle.std.specs.Option.{option_map}
use Rattle.norm_base.specs.Settings.{Settings}
use Rattle.norm_base.specs.declared.node.Origin.{Origin}
use Rattle.norm_ext.specs.Message.{Message, Info, Data, Flush, Squelch, RepairAdv, Nack, Ack}
use Rattle.norm_ext.specs.Written.{Written}
use Rattle.norm_send_rules.specs.SenderState.{SenderState}
use Rattle.norm_send_rules.specs.InWindow.{last_index}
use Rattle.norm_receive_rules.specs.ReceiverState.{ReceiverState}
use Rattle.norm_receive_rules.specs.Leaving.{is_in, entered}
use Rattle.norm_safety.specs.Events.{Event, Commanded, Delivered, Ticked, Offered, UpTaken, NewsAsked, Answer, Gave}
use Rattle.norm_safety.specs.World.{World, world_opening, receiver_at, same_octets, is_of}
use Rattle.norm_safety.specs.WorldStep.{world_step}

-- the origins of accepted commands, with this event's
abbrev pub accepted_with : List Origin → Event → Answer → List Origin
accepted_with accepted (Commanded by job now) (Gave (Ok receipt)) = accepted ++ by ∷ []
accepted_with accepted _ _ = accepted

-- all that was handed up to a node was taken
abbrev pub AllTaken : Option ReceiverState → Type 0
AllTaken (Some r) = r.holding.ups ≡ []
AllTaken None = ⊤

-- what a receiver knows of an instance that it is in, or goes on to with a message
abbrev pub knows_with : ReceiverState → ℕ → Option ℕ
knows_with r instance = option_map (λ (s : ReceiverState). s.knows.known) (entered r instance)

-- what a receiver knows of the instance that it is in
abbrev pub knows_in : ReceiverState → ℕ → Option ℕ
knows_in r instance = elim (is_in r instance) [ true ↦ Some r.knows.known | false ↦ None ]

-- The greatest index that a receiver knows of a message's instance: of the one that it is in, and of one that the message
-- begins.
abbrev pub receiver_knows : ReceiverState → Message → Option ℕ
receiver_knows r (Info m) = knows_with r m.head.instance
receiver_knows r (Data m) = knows_with r m.head.instance
receiver_knows r (Flush m) = knows_with r m.head.instance
receiver_knows r (Squelch m) = knows_with r m.head.instance
receiver_knows r (RepairAdv m) = knows_in r m.head.instance
receiver_knows r (Nack m) = knows_in r m.instance
receiver_knows r (Ack m) = knows_in r m.instance
receiver_knows r _ = None

-- what the sender knows of its instance
abbrev pub sender_knows_in : SenderState → ℕ → Option ℕ
sender_knows_in s instance = elim (instance == s.current.id) [ true ↦ Some (last_index s) | false ↦ None ]

-- the greatest index that the sender knows of the instance of a message to it
abbrev pub sender_knows : SenderState → Message → Option ℕ
sender_knows s (Nack m) = sender_knows_in s m.instance
sender_knows s (Ack m) = sender_knows_in s m.instance
sender_knows s _ = None

-- the greatest index that a node knows of a message's instance
abbrev pub node_knows : Settings → World → ℕ → Message → Option ℕ
node_knows p w node m = elim (node == p.sender) [
  | true ↦ sender_knows w.sender m
  | false ↦ option_and_then (λ r. receiver_knows r m) (receiver_at w node)
]

-- so far from the greatest index that is known an id names the index that it was written for
abbrev pub most_apart : ℕ
most_apart = 32767

-- an index lies near one that is known
abbrev pub is_near : ℕ → ℕ → Bool
is_near known index = nat_le index (known + most_apart) && nat_le known (index + most_apart)

-- the indices lie near what is known, where something is
abbrev pub are_near : Option ℕ → List ℕ → Bool
are_near None indices = true
are_near (Some known) indices = list_all (is_near known) indices

-- all indices of a datagram lie near what a node knows of its instance
abbrev pub comes_in_time : Settings → World → ℕ → Written → Bool
comes_in_time p w node datagram = are_near (node_knows p w node datagram.message) datagram.indices

-- A delivery is lawful where another node offered a datagram of these octets before, whose indices all lie near what the
-- node knows.
pub record LawfulDelivery (p : Settings) (w : World) (node : ℕ) (octets : List ℕ) : Type 0 where
  pub from : ℕ
  pub datagram : Written
  pub other : from ≢ node
  pub offered : Contains w.offered (from, datagram)
  pub same : datagram.octets ≡ octets
  pub near : IsTrue (comes_in_time p w node datagram)

-- a node's last tick gave a datagram of these octets
abbrev pub WasGiven : World → ℕ → List ℕ → Type 0
WasGiven w node octets = (datagram : Written) × Contains w.given (node, datagram) × (datagram.octets ≡ octets)

-- An event may come: a command by no origin of an accepted one; a delivery of what another node offered, not too late; a
-- tick of a receiver of which all hand-ups were taken; an offer of what the node's last tick gave.
abbrev pub MayCome : Settings → World → List Origin → Event → Type 0
MayCome p w accepted (Commanded by job now) = Contains accepted by → ⊥
MayCome p w accepted (Delivered node datagram now draw) = LawfulDelivery p w node datagram
MayCome p w accepted (Ticked node now) = AllTaken (receiver_at w node)
MayCome p w accepted (Offered node octets) = WasGiven w node octets
MayCome p w accepted (UpTaken node) = ⊤
MayCome p w accepted NewsAsked = ⊤

-- each event may come
abbrev pub LawfulFrom : Settings → World → List Origin → List Event → Type 0
LawfulFrom p w accepted [] = ⊤
LawfulFrom p w accepted (e ∷ events) =
    let step = world_step p w e in MayCome p w accepted e × LawfulFrom p step.0 (accepted_with accepted e step.1) events

-- a run is lawful where each of its events may come
abbrev pub Lawful : Settings → List Event → Type 0
Lawful p events = LawfulFrom p (world_opening p) [] events

-- The same as tests.

-- two origins are equal
abbrev pub same_origin : Origin → Origin → Bool
same_origin a b = a.producer == b.producer && a.number == b.number

-- all that was handed up to a node was taken
abbrev pub all_taken : Option ReceiverState → Bool
all_taken (Some r) = elim r.holding.ups [ [] ↦ true | up ∷ ups ↦ false ]
all_taken None = true

-- another node offered a datagram of these octets before, whose indices lie near what the node knows
abbrev pub is_lawful_delivery : Settings → World → ℕ → List ℕ → Bool
is_lawful_delivery p w node octets =
    list_any (λ (o : ℕ × Written). not (o.0 == node) && same_octets o.1.octets octets && comes_in_time p w node o.1) w.offered

-- an event may come
abbrev pub may_come : Settings → World → List Origin → Event → Bool
may_come p w accepted (Commanded by job now) = not (list_any (same_origin by) accepted)
may_come p w accepted (Delivered node datagram now draw) = is_lawful_delivery p w node datagram
may_come p w accepted (Ticked node now) = all_taken (receiver_at w node)
may_come p w accepted (Offered node octets) = list_any (is_of node octets) w.given
may_come p w accepted (UpTaken node) = true
may_come p w accepted NewsAsked = true

-- each event may come
unfoldable pub is_lawful_from : Settings → World → List Origin → List Event → Bool
is_lawful_from p w accepted [] = true
is_lawful_from p w accepted (e ∷ events) =
    let step = world_step p w e in
    elim (may_come p w accepted e) [ true ↦ is_lawful_from p step.0 (accepted_with accepted e step.1) events | false ↦ false ]

-- a run is lawful
abbrev pub is_lawful : Settings → List Event → Bool
is_lawful p events = is_lawful_from p (world_opening p) [] events
