-- The NACK and the acknowledgement that a receiver writes (RFC 5740 section 4.3).
use Rattle.std.specs.Prelude.{ℕ, ◌+◌, ◌-◌, List, [], ◌∷◌, map, true, false, nat_le, Option, None, Some, unwrap_or}
use Rattle.norm_base.specs.Settings.{Settings}
use Rattle.fec_plan.specs.Points.{position}
use Rattle.fec_plan.specs.declared.position.Position.{Position}
use Rattle.norm_ext.specs.Message.{Message, Nack, Ack, Mark}
use Rattle.norm_ext.specs.Asked.{Asked, asked_for, octets_behind, requests_asked}
use Rattle.norm_ext.specs.Asking.{segment_flag, block_flag, info_flag, object_flag}
use Rattle.norm_ext.specs.Numbers.{flush_ack}
use Rattle.norm_ext.specs.ObjectIds.{object_id}
use Rattle.norm_ext.specs.declared.head.Item.{Item}
use Rattle.norm_ext.specs.declared.kinds.Form.TheVariants as form
use Rattle.norm_receive_rules.specs.Lazy.{Lazy, Nil, Next}
use Rattle.norm_receive_rules.specs.ReceiverState.{ReceiverState}
use Rattle.norm_receive_rules.specs.Needs.{Need, Object, ObjectInfo, Symbols, Source, Rest}
use Rattle.norm_receive_rules.specs.StreamNeeds.{last_block}

-- an item that names a position
abbrev pub item_of : Settings → Position → Item
item_of p at = record { object = object_id p at.index; id = record { block = at.block; symbol = at.symbol } }

-- an object, named by its first block's first symbol
abbrev pub object_item : Settings → ℕ → Item
object_item p index = item_of p (position index 0 0)

-- how a need is asked for: an object by OBJECT and INFO, an info by INFO, a count of symbols as erasures, a source symbol by
-- SEGMENT, and the rest of a stream as a range of blocks
abbrev pub asked_of : Settings → Need → Asked
asked_of p (Object index) = asked_for form.Items (object_flag + info_flag) (object_item p index) None
asked_of p (ObjectInfo index) = asked_for form.Items info_flag (object_item p index) None
asked_of p (Symbols index block wanted) = asked_for form.Erasures segment_flag (item_of p (position index block wanted)) None
asked_of p (Source at) = asked_for form.Items segment_flag (item_of p at) None
asked_of p (Rest index block) =
    asked_for form.Ranges block_flag (item_of p (position index block 0)) (Some (item_of p (position index last_block 0)))

-- the indices of its items
abbrev pub indices_of : Need → List ℕ
indices_of (Object index) = index ∷ []
indices_of (ObjectInfo index) = index ∷ []
indices_of (Symbols index block wanted) = index ∷ []
indices_of (Source at) = at.index ∷ []
indices_of (Rest index block) = index ∷ index ∷ []

-- The longest prefix of the needs whose requests fit so many octets. Neighbours of one form and the same flags share a
-- request.
unfoldable pub fitting : Settings → Lazy Need → Option Asked → ℕ → List Need
fitting p Nil before room = []
fitting p (Next need rest) before room =
    let asked = asked_of p need in
    elim (nat_le (octets_behind before asked) room) [
      | true ↦ need ∷ fitting p (rest tt) (Some asked) (room - octets_behind before asked)
      | false ↦ []
    ]

-- the current instance's id
abbrev pub instance_id : ReceiverState → ℕ
instance_id s = unwrap_or s.instance 0

-- a NACK to the sender
abbrev pub nack_message : Settings → ReceiverState → List Need → Message
nack_message p s needs = Nack (record {
  source = s.node;
  sequence = s.sequence;
  sender = p.sender;
  instance = instance_id s;
  extensions = [];
  requests = requests_asked (map (asked_of p) needs);
})

-- an acknowledgement of a position to the sender
abbrev pub ack_message : Settings → ReceiverState → Position → Message
ack_message p s at = Ack (record {
  source = s.node;
  sequence = s.sequence;
  sender = p.sender;
  instance = instance_id s;
  ack_type = flush_ack;
  ack_id = 0;
  extensions = [];
  content = Mark (item_of p at);
})
