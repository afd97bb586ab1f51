-- An entry of a window, an object or a stream: for which object of an order it stands, with what was sent of it.
use Rattle.std.specs.Prelude.{ℕ, ◌≡◌, List, map, nat_lt}
use Rattle.norm_base.specs.Settings.{Settings}
use Rattle.fec_plan.specs.Points.{Position, position_before}
use Rattle.norm_order.specs.Entries.{Part, Object, Stream}
use Rattle.norm_order.specs.Sets.{is_member}
use Rattle.norm_order.specs.Shapes.{shape_of, sources_in}
use Rattle.norm_send_rules.specs.SenderState.{SenderState}
use Rattle.tx_object.specs.Held.{HeldObject}
use Rattle.tx_object.specs.Placed.{IsPlaced, object_in}
use Rattle.stream_buffer.specs.HeldState.{HeldState, Knows}
use Rattle.tx_window.specs.declared.entry.HeldEntry.{HeldEntry}
use Rattle.tx_window.specs.declared.entry.HeldEntry.TheVariants as held

-- what an entry reads of its window and of a sender's state: the octets of the ring and the profile; its index and its object
-- in the order; and which symbols and infos were sent
pub record EntryReads : Type 0 where
  pub ring : List ℕ
  pub p : Settings
  pub index : ℕ
  pub object : Object
  pub sent : List Position
  pub infos : List ℕ

-- what the entry with this index and object reads of a state
abbrev pub reads_of : List ℕ → Settings → ℕ → Object → SenderState → EntryReads
reads_of ring p index object s = record { ring = ring; p = p; index = index; object = object; sent = s.sent; infos = s.sent_infos }

-- the object lies in the ring, and it is known which of its source symbols were sent, and whether its info was
pub record IsObject (r : EntryReads) (h : HeldObject) : Type 0 where
  pub placed : IsPlaced r.ring r.p h
  pub object : r.object ≡ object_in r.ring h
  pub symbols : h.sent ≡ map (λ at. is_member position_before at r.sent) (sources_in r.index (shape_of r.p r.object))
  pub info : h.info_sent ≡ is_member nat_lt r.index r.infos

-- it is the stream of these parts, and knows which of its segments were sent
pub record IsStream (r : EntryReads) (stream : HeldState) : Type 0 where
  pub parts : List Part
  pub object : r.object ≡ Stream parts
  pub knows : Knows r.p r.index parts r.sent stream

-- an entry stands for an object of an order
abbrev pub StandsFor : EntryReads → HeldEntry → Type 0
StandsFor r (held.Object h) = IsObject r h
StandsFor r (held.Stream stream) = IsStream r stream

-- the first block that is kept: of an object all are
abbrev pub first_of : HeldEntry → ℕ
first_of (held.Object h) = 0
first_of (held.Stream stream) = stream.buffer.first
