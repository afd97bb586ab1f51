-- Tied, part 7: in hold mode every member handed up all that was dropped.
use Rattle.std.specs.Prelude.{List, [], ◌∷◌, reverse, filter, Bool, true, Option, None, Some, IfSome, ⊤}
use Rattle.std.specs.List.{list_all, AllByRecursion}
use Rattle.norm_base.specs.Settings.{Settings}
use Rattle.norm_base.specs.declared.kinds.Mode.TheVariants as mode
use Rattle.fec_plan.specs.Points.{point_of, point_before}
use Rattle.fec_plan.specs.declared.position.Position.{Position}
use Rattle.norm_order.specs.Shapes.{shapes_of}
use Rattle.norm_order.specs.Upto.{upto}
use Rattle.norm_receive_rules.specs.ReceiverState.{ReceiverState}
use Rattle.norm_send_rules.specs.Asking.{all_sources}
use Rattle.norm_send_rules.specs.Restarting.{instances}
use Rattle.norm_send_rules.specs.SenderState.{Instance}
use Rattle.norm_send_rules.specs.Watermarks.{has_member}
use Rattle.norm_safety.specs.Fronts.{IsFront, is_front}
use Rattle.norm_safety.specs.Hands.{hands}
use Rattle.norm_safety.specs.History.{History}

-- the last of a list
abbrev pub last_of : {X : Type 0} → List X → Option X
last_of xs = elim (reverse xs) [ x ∷ rest ↦ Some x | [] ↦ None ]

-- the last source symbol before an instance's drop point
abbrev pub last_dropped : Settings → Instance → Option Position
last_dropped p i = last_of (filter (λ at. point_before (point_of at) i.drop) (all_sources 0 (shapes_of p i.order)))

-- a receiver handed up everything before an instance's drop point
abbrev pub HandedDropped : Settings → History → Instance → ReceiverState → Type 0
HandedDropped p h i r = IfSome (last_dropped p i) (λ at. IsFront (upto p i.order at) (hands h.happened r.node i.id))

-- only in hold mode
abbrev pub InHold : Settings → Type 0 → Type 0
InHold p Claim = elim p.mode as (λ m. Type 0) [ mode.Hold ↦ Claim | mode.Drop ↦ ⊤ ]

-- the receivers that are members
abbrev pub members_in : History → List ReceiverState
members_in h = filter (λ (r : ReceiverState). has_member r.node h.now.sender) h.now.receivers

-- of each instance and each member
pub record DropsConfirmed (p : Settings) (h : History) : Type 0 where
  pub each : InHold p (AllByRecursion (λ i. AllByRecursion (HandedDropped p h i) (members_in h)) (instances h.now.sender))

-- The same as a test.
abbrev pub handed_dropped : Settings → History → Instance → ReceiverState → Bool
handed_dropped p h i r = elim (last_dropped p i) [ Some at ↦ is_front (upto p i.order at) (hands h.happened r.node i.id) | None ↦ true ]

-- of each instance and each member
abbrev pub drops_confirmed : Settings → History → Bool
drops_confirmed p h = elim p.mode [
  | mode.Hold ↦ list_all (λ i. list_all (handed_dropped p h i) (members_in h)) (instances h.now.sender)
  | mode.Drop ↦ true
]
