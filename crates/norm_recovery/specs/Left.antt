-- What members have of the window, and how much of it is left to repair.
use Rattle.std.specs.Prelude.{◌≡◌, ◌≤◌, ℕ, Contains, ◌&&◌, ◌||◌, List, [], length, filter, slice_get, nat_le, Bool, true, false, not, Option, None, Some, is_some}
use Rattle.std.specs.List.{list_all}
use Rattle.norm_base.specs.Settings.{Settings}
use Rattle.fec_plan.specs.Partition.{source_symbols}
use Rattle.fec_plan.specs.declared.position.Position.{Position}
use Rattle.norm_order.specs.Sets.{is_member}
use Rattle.norm_order.specs.Shapes.{Shape, symbols_of, encoded_in}
use Rattle.norm_receive_rules.specs.Holding.{Holding, holding_nothing}
use Rattle.norm_receive_rules.specs.Leaving.{is_in}
use Rattle.norm_receive_rules.specs.Plans.{is_over, holds, info_of}
use Rattle.norm_receive_rules.specs.ReceiverState.{ReceiverState}
use Rattle.norm_receive_rules.specs.ReceiverStep.{ReceiverEvent, receiver_step}
use Rattle.norm_send_rules.specs.Closing.{round_closed}
use Rattle.norm_send_rules.specs.InWindow.{stands_behind, current_shapes}
use Rattle.norm_send_rules.specs.Repairable.{encoded_from, repairable}
use Rattle.norm_send_rules.specs.SenderState.{SenderState, Round}
use Rattle.norm_send_rules.specs.Wants.{want_before}
use Rattle.norm_send_rules.specs.Watermarks.{has_member}
use Rattle.norm_send_rules.specs.declared.want.Want.{Want}
use Rattle.norm_send_rules.specs.declared.want.Want.TheVariants.{Info, Symbol}
use Rattle.norm_safety.specs.World.{World}

-- what a receiver holds of the sender's current instance: nothing, if it is in another
abbrev pub held_for : SenderState → ReceiverState → Holding
held_for s r = elim (is_in r s.current.id) [ true ↦ r.holding | false ↦ holding_nothing ]

-- a symbol is held, or is one of these
abbrev pub is_there : List Want → Holding → Position → Bool
is_there wants h at = holds h at || is_member want_before (Symbol at) wants

-- as many encoded symbols of a block are there as it has source symbols
abbrev pub is_complete : List Want → Holding → ℕ → ℕ → Option Shape → Bool
is_complete wants h index block found = elim found [
  | Some shape ↦ nat_le (source_symbols shape.cut block) (length (filter (is_there wants h) (symbols_of index (encoded_in shape block) block)))
  | None ↦ false
]

-- With these, an info or a symbol is had: its object is over, or it is there, or its block is complete.
abbrev pub is_had : List Want → Settings → SenderState → Holding → Want → Bool
is_had wants p s h (Info index) = is_over h index || is_some (info_of h index) || is_member want_before (Info index) wants
is_had wants p s h (Symbol at) =
    is_over h at.index || is_there wants h at || is_complete wants h at.index at.block (slice_get (current_shapes p s) at.index)

-- a receiver has an info or a symbol of the window
abbrev pub has : Settings → SenderState → ReceiverState → Want → Bool
has p s r y = is_had [] p s (held_for s r) y

-- it will have it once it holds all that is wanted, too
abbrev pub will_have : Settings → SenderState → ReceiverState → Want → Bool
will_have p s r y = is_had s.wants p s (held_for s r) y

-- every member will have it
abbrev pub all_will_have : Settings → World → Want → Bool
all_will_have p w y = list_all (λ (r : ReceiverState). not (has_member r.node w.sender) || will_have p w.sender r y) w.receivers

-- the infos and encoded symbols of the window, as `repairable` counts them
abbrev pub in_window : Settings → SenderState → List Want
in_window p s = filter (stands_behind s.current.drop) (encoded_from 0 (current_shapes p s))

-- how many of them are not wanted and some member will not have
abbrev pub left : Settings → World → ℕ
left p w = length (filter (λ y. not (is_member want_before y w.sender.wants) && not (all_will_have p w y)) (in_window p w.sender))

-- What is left says of members.
pub record LeftTells : Type 0 where
  -- no more is left than may need repair
  pub most : (p : Settings) (w : World) → left p w ≤ repairable p w.sender
  -- if nothing is wanted and nothing left, every member has everything of the window
  pub none : (p : Settings) (w : World) → w.sender.wants ≡ [] → left p w ≡ 0 → (r : ReceiverState) → Contains w.receivers r → has_member r.node w.sender ≡ true
      → (y : Want) → Contains (in_window p w.sender) y → has p w.sender r y ≡ true
  -- what a receiver has, or will have, stays so whatever happens to it, unless it leaves the sender's instance
  pub stays : (wants : List Want) (p : Settings) (s : SenderState) (r : ReceiverState) (event : ReceiverEvent) (y : Want)
      → (is_in r s.current.id ≡ true → is_in (receiver_step p r event).0 s.current.id ≡ true) → is_had wants p s (held_for s r) y ≡ true
      → is_had wants p s (held_for s (receiver_step p r event).0) y ≡ true
  -- no more is left once a round was closed
  pub closes : (p : Settings) (round : Round) (w : World) → left p (record w { sender = round_closed p round w.sender }) ≤ left p w
