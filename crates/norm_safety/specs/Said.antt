-- What the nodes of a world said: all messages that were offered, or given by a tick and not offered yet.
use Rattle.std.specs.Prelude.{ℕ, List, [], ◌∷◌, ◌++◌, flat_map, slice_get, Option}
use Rattle.fec_plan.specs.Points.{position}
use Rattle.fec_plan.specs.declared.position.Position.{Position}
use Rattle.norm_ext.specs.Message.{Message, Info, Data, Flush, Squelch, Ack, InfoMessage, DataMessage, FlushCommand, SquelchCommand, AckMessage}
use Rattle.norm_ext.specs.Written.{Written}
use Rattle.norm_order.specs.Entries.{Entry}
use Rattle.norm_send_rules.specs.SenderState.{SenderState}
use Rattle.norm_safety.specs.OnceEach.{order_of}
use Rattle.norm_safety.specs.World.{World}

-- the datagrams that were given to the network, or wait to be
abbrev pub said : World → List (ℕ × Written)
said w = w.offered ++ w.given

-- a message, with the index of the object that it is about
pub record About (M : Type 0) : Type 0 where
  pub index : ℕ
  pub message : M

-- the first index that a datagram has
abbrev pub first_index : List ℕ → ℕ
first_index [] = 0
first_index (index ∷ indices) = index

-- a message about the object of the first of these indices
abbrev pub about : {M : Type 0} → List ℕ → M → About M
about indices m = record { index = first_index indices; message = m }

-- an INFO
abbrev pub info_said : List ℕ → Message → List (About InfoMessage)
info_said indices (Info m) = about indices m ∷ []
info_said indices _ = []

-- a DATA
abbrev pub data_said : List ℕ → Message → List (About DataMessage)
data_said indices (Data m) = about indices m ∷ []
data_said indices _ = []

-- a flush
abbrev pub flush_said : List ℕ → Message → List (About FlushCommand)
flush_said indices (Flush m) = about indices m ∷ []
flush_said indices _ = []

-- a squelch
abbrev pub squelch_said : List ℕ → Message → List (About SquelchCommand)
squelch_said indices (Squelch m) = about indices m ∷ []
squelch_said indices _ = []

-- an acknowledgement
abbrev pub ack_said : List ℕ → Message → List (About AckMessage)
ack_said indices (Ack m) = about indices m ∷ []
ack_said indices _ = []

-- what of a kind was said
abbrev pub said_of : {M : Type 0} → (List ℕ → Message → List (About M)) → World → List (About M)
said_of kind w = flat_map (λ (o : ℕ × Written). kind o.1.indices o.1.message) (said w)

-- each INFO
abbrev pub said_infos : World → List (About InfoMessage)
said_infos w = said_of info_said w

-- each DATA
abbrev pub said_data : World → List (About DataMessage)
said_data w = said_of data_said w

-- each flush
abbrev pub said_flushes : World → List (About FlushCommand)
said_flushes w = said_of flush_said w

-- each squelch
abbrev pub said_squelches : World → List (About SquelchCommand)
said_squelches w = said_of squelch_said w

-- each acknowledgement
abbrev pub said_acks : World → List (About AckMessage)
said_acks w = said_of ack_said w

-- the position that a DATA names
abbrev pub place_of : About DataMessage → Position
place_of x = position x.index x.message.id.block x.message.id.symbol

-- the entry of an instance at an index
abbrev pub entry_at : SenderState → ℕ → ℕ → Option Entry
entry_at s id index = slice_get (order_of s id) index
