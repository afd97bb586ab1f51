-- Tied, part 4: what a receiver acknowledges it handed up, everything before included.
use Rattle.std.specs.Prelude.{ℕ, ◌&&◌, List, Bool, true, Option, None, Some, IfSome}
use Rattle.std.specs.List.{list_all, AllByRecursion}
use Rattle.norm_base.specs.Settings.{Settings}
use Rattle.fec_plan.specs.Points.{position}
use Rattle.fec_plan.specs.declared.position.Position.{Position}
use Rattle.norm_ext.specs.Message.{AckMessage, Mark, Unread}
use Rattle.norm_order.specs.declared.up.Up.{Up}
use Rattle.norm_order.specs.Upto.{upto}
use Rattle.norm_receive_rules.specs.ReceiverState.{ReceiverState}
use Rattle.norm_safety.specs.Fronts.{IsFront, is_front}
use Rattle.norm_safety.specs.Hands.{hands}
use Rattle.norm_safety.specs.History.{History}
use Rattle.norm_safety.specs.HoldsSaid.{handed_by}
use Rattle.norm_safety.specs.OnceEach.{order_of}
use Rattle.norm_safety.specs.Said.{About, said_acks}

-- everything before a position of an instance
abbrev pub upto_in : Settings → History → ℕ → Position → List Up
upto_in p h id at = upto p (order_of h.now.sender id) at

-- the position that an acknowledgement names
abbrev pub acknowledged : About AckMessage → Option Position
acknowledged x = elim x.message.content [
  | Mark item ↦ Some (position x.index item.id.block item.id.symbol)
  | Unread octets ↦ None
]

-- everything before the acknowledgement that is due was handed up, taken or not
abbrev pub DueIsHanded : Settings → History → ReceiverState → Type 0
DueIsHanded p h r = IfSome r.instance (λ id. IfSome r.knows.due (λ at. IsFront (upto_in p h id at) (handed_by h r id)))

-- everything before an acknowledgement that was said was taken
abbrev pub SaidIsHanded : Settings → History → About AckMessage → Type 0
SaidIsHanded p h x = let m = x.message in
    IfSome (acknowledged x) (λ at. IsFront (upto_in p h m.instance at) (hands h.happened m.source m.instance))

-- the acknowledgements that are due, and those that were said
pub record AcknowledgesHanded (p : Settings) (h : History) : Type 0 where
  pub due : AllByRecursion (DueIsHanded p h) h.now.receivers
  pub said : AllByRecursion (SaidIsHanded p h) (said_acks h.now)

-- The same as a test.
abbrev pub due_is_handed : Settings → History → ReceiverState → Bool
due_is_handed p h r = elim r.instance [
  | Some id ↦ elim r.knows.due [ Some at ↦ is_front (upto_in p h id at) (handed_by h r id) | None ↦ true ]
  | None ↦ true
]

-- everything before an acknowledgement that was said was taken
abbrev pub said_is_handed : Settings → History → About AckMessage → Bool
said_is_handed p h x = let m = x.message in elim (acknowledged x) [
  | Some at ↦ is_front (upto_in p h m.instance at) (hands h.happened m.source m.instance)
  | None ↦ true
]

-- of all of them
abbrev pub acknowledges_handed : Settings → History → Bool
acknowledges_handed p h = list_all (due_is_handed p h) h.now.receivers && list_all (said_is_handed p h) (said_acks h.now)
