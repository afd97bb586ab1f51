-- What messages of the sender say of an object, in the words of the rules.
use Rattle.std.specs.Prelude.{ℕ, ◌≡◌, ◌%◌, List, true, false, length, ⊤}
use Rattle.norm_base.specs.Settings.{Settings}
use Rattle.fec_plan.specs.Points.{Point, point, point_of, position}
use Rattle.fec_plan.specs.declared.position.Position.{Position}
use Rattle.norm_ext.specs.Lists.{nodes_of}
use Rattle.norm_ext.specs.declared.fti.Fti.{Fti}
use Rattle.norm_receive_rules.specs.Holding.{Holding}
use Rattle.norm_receive_rules.specs.ReceiverState.{ReceiverState}
use Rattle.norm_receive_rules.specs.Putting.{put_symbol, put_info}
use Rattle.norm_receive_rules.specs.Fitting.{fit_of, fitted, lets_put}
use Rattle.norm_receive_rules.specs.HandingUp.{handed_up}
use Rattle.norm_receive_rules.specs.Losing.{squelched}
use Rattle.norm_receive_rules.specs.Seeing.{sees_block}
use Rattle.norm_receive_rules.specs.Acknowledging.{flushed, acknowledges}
use Rattle.norm_receive_rules.specs.Receiving.{object_received}
use Rattle.norm_receiver.specs.declared.receiving.Brought.{Brought}
use Rattle.norm_receiver.specs.declared.receiving.Brought.TheVariants as brought
use Rattle.norm_receiver.specs.declared.receiving.Said.{Said}
use Rattle.norm_receiver.specs.declared.receiving.Said.TheVariants as said

-- what an INFO or DATA of an object brings is put
abbrev pub puts : Settings → ℕ → Brought → Holding → Holding
puts p index (brought.Info info) = put_info p index info.now
puts p index (brought.Symbol id payload) = put_symbol p (position index id.block id.symbol) payload.now

-- where that is: an INFO counts as block 0, symbol 0
abbrev pub place_of : ℕ → Brought → Position
place_of index (brought.Info info) = position index 0 0
place_of index (brought.Symbol id payload) = position index id.block id.symbol

-- an INFO or DATA with transmission information
abbrev pub object_told : Settings → ℕ → Fti → ℕ → Brought → Holding → Holding
object_told p index f flags b s =
    let word = fit_of p s index f flags in
    let s' = sees_block (point_of (place_of index b)) (fitted word index f flags s) in
    elim (lets_put word) [ true ↦ handed_up p (puts p index b s') | false ↦ s' ]

-- a flush up to a position, which asks these nodes
abbrev pub flush_at : Position → List ℕ → ReceiverState → ReceiverState
flush_at at nodes s = record s { knows = flushed at (acknowledges s at nodes) s.knows }

-- a squelch: the window begins at this point
abbrev pub squelch_at : Settings → Point → ReceiverState → ReceiverState
squelch_at p first s = record s { holding = squelched p first s.holding }

-- what a message says of the object with this index happens
abbrev pub said_received : Settings → Said → ℕ → ReceiverState → ReceiverState
said_received p (said.Info flags exts info) index s =
    object_received p (position index 0 0) exts flags (put_info p index info.now) s
said_received p (said.Data flags exts id payload) index s =
    let at = position index id.block id.symbol in
    object_received p at exts flags (put_symbol p at payload.now) s
said_received p (said.Flush id nodes) index s = flush_at (position index id.block id.symbol) (nodes_of nodes.now) s
said_received p (said.Squelch block) index s = squelch_at p (point index block) s

-- what a message lends is whole: its extensions are, by their type
abbrev pub IsSaid : Said → Type 0
IsSaid (said.Info flags exts info) = ⊤
IsSaid (said.Data flags exts id payload) = ⊤
IsSaid (said.Flush id nodes) = length nodes.now % 4 ≡ 0
IsSaid (said.Squelch block) = ⊤
