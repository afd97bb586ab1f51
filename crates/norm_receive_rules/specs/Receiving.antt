-- What a receiver does with a datagram (RFC 5740 section 5.2).
use Rattle.std.specs.Prelude.{ℕ, ◌==◌, List, max, true, false, Option, None, Some, unwrap_or, option_and_then, Result, Ok}
use Rattle.norm_base.specs.Settings.{Settings}
use Rattle.fec_plan.specs.Points.{point, position, point_of}
use Rattle.fec_plan.specs.declared.position.Position.{Position}
use Rattle.norm_ext.specs.Extensions.{Extension, fti_of}
use Rattle.norm_ext.specs.Message.{Message, Info, Data, Flush, Squelch, RepairAdv, Nack, InfoMessage, DataMessage, FlushCommand, SquelchCommand}
use Rattle.norm_ext.specs.ObjectIds.{index_named}
use Rattle.norm_ext.specs.Reading.{decoded}
use Rattle.norm_receive_rules.specs.Holding.{Holding}
use Rattle.norm_receive_rules.specs.ReceiverState.{ReceiverState, Knowledge}
use Rattle.norm_receive_rules.specs.Fitting.{fit_of, fitted, lets_put}
use Rattle.norm_receive_rules.specs.Putting.{put_symbol, put_info}
use Rattle.norm_receive_rules.specs.HandingUp.{handed_up}
use Rattle.norm_receive_rules.specs.Losing.{squelched}
use Rattle.norm_receive_rules.specs.Leaving.{entered}
use Rattle.norm_receive_rules.specs.Seeing.{sees_block, sees}
use Rattle.norm_receive_rules.specs.Acknowledging.{flushed, acknowledges}
use Rattle.norm_receive_rules.specs.Overhearing.{nack_overheard, adv_overheard}
use Rattle.norm_receive_rules.specs.BackingOff.{may_need}

-- What is held after an INFO or DATA of an object: its transmission information may be taken up, its block is seen, and
-- where the information fits, or there is none, what it brings is put. Then all that can be is handed up.
abbrev pub object_held : Settings → Position → List Extension → ℕ → (Holding → Holding) → Holding → Holding
object_held p at extensions flags put s = elim (fti_of extensions) [
  | Some f ↦ (
      let word = fit_of p s at.index f flags in
      let s' = sees_block (point_of at) (fitted word at.index f flags s) in
      elim (lets_put word) [ true ↦ handed_up p (put s') | false ↦ s' ]
      )
  | None ↦ handed_up p (put (sees_block (point_of at) s))
]

-- an INFO or DATA of an object
abbrev pub object_received : Settings → Position → List Extension → ℕ → (Holding → Holding) → ReceiverState → ReceiverState
object_received p at extensions flags put s =
    record s { holding = object_held p at extensions flags put s.holding; knows = sees (point_of at) s.knows }

-- an INFO counts as block 0, symbol 0 of its object
abbrev pub info_received : Settings → InfoMessage → ℕ → ReceiverState → ReceiverState
info_received p m index s = object_received p (position index 0 0) m.extensions m.head.flags (put_info p index m.info) s

-- a DATA
abbrev pub data_received : Settings → DataMessage → ℕ → ReceiverState → ReceiverState
data_received p m index s =
    let at = position index m.id.block m.id.symbol in
    object_received p at m.extensions m.head.flags (put_symbol p at m.payload) s

-- a flush
abbrev pub flush_received : FlushCommand → ℕ → ReceiverState → ReceiverState
flush_received m index s =
    let at = position index m.id.block m.id.symbol in
    record s { knows = flushed at (acknowledges s at m.nodes) s.knows }

-- a squelch
abbrev pub squelch_received : Settings → SquelchCommand → ℕ → ReceiverState → ReceiverState
squelch_received p m index s = record s { holding = squelched p (point index m.id.block) s.holding }

-- an index is known
abbrev pub learns : ℕ → Knowledge → Knowledge
learns index k = record k { known = max k.known index }

-- In the instance of a message: where its id names an index, that is known, the receiver does what the message says of it,
-- and may need something then.
abbrev pub takes_in : Settings → ℕ → ℕ → ℕ → (ℕ → ReceiverState → ReceiverState) → ReceiverState → Option ReceiverState
takes_in p now draw object received s = elim (index_named p s.knows.known object) [
  | Some index ↦ Some (may_need p now draw (received index (record s { knows = learns index s.knows })))
  | None ↦ None
]

-- A message of the profile's sender, in the receiver's instance or in one that it goes on to. Where the message names
-- nothing, nothing changes, and no instance begins.
abbrev pub in_instance : Settings → ℕ → ℕ → ℕ → ℕ → ℕ → (ℕ → ReceiverState → ReceiverState) → ReceiverState → ReceiverState
in_instance p now draw source instance object received s = elim (source == p.sender) [
  | true ↦ unwrap_or (option_and_then (takes_in p now draw object received) (entered s instance)) s
  | false ↦ s
]

-- of what a datagram spells
abbrev pub message_received : {E : Type 0} → Settings → ℕ → ℕ → Result Message E → ReceiverState → ReceiverState
message_received p now draw (Ok (Info m)) s = in_instance p now draw m.head.source m.head.instance m.head.object (info_received p m) s
message_received p now draw (Ok (Data m)) s = in_instance p now draw m.head.source m.head.instance m.head.object (data_received p m) s
message_received p now draw (Ok (Flush m)) s = in_instance p now draw m.head.source m.head.instance m.object (flush_received m) s
message_received p now draw (Ok (Squelch m)) s = in_instance p now draw m.head.source m.head.instance m.object (squelch_received p m) s
message_received p now draw (Ok (RepairAdv m)) s = elim (m.head.source == p.sender) [ true ↦ adv_overheard p m s | false ↦ s ]
message_received p now draw (Ok (Nack m)) s = nack_overheard p m s
message_received p now draw _ s = s

-- Octets that spell no message change nothing.
abbrev pub received : Settings → ReceiverState → List ℕ → ℕ → ℕ → ReceiverState
received p s bytes now draw = message_received p now draw (decoded bytes) s
