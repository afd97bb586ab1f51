-- The third part of safety: the sender lists a receiver past a watermark only after it handed up everything before.
use Rattle.std.specs.Prelude.{ℕ, List, Bool, true, None, Some, IfSome}
use Rattle.std.specs.List.{list_all, AllByRecursion}
use Rattle.norm_base.specs.Settings.{Settings}
use Rattle.fec_plan.specs.declared.position.Position.{Position}
use Rattle.norm_order.specs.declared.up.Up.{Up}
use Rattle.norm_order.specs.Upto.{upto}
use Rattle.norm_send_rules.specs.SenderState.{Listing}
use Rattle.norm_safety.specs.Fronts.{IsFront, is_front}
use Rattle.norm_safety.specs.Hands.{hands}
use Rattle.norm_safety.specs.History.{History}

-- what a node handed up in the current instance
abbrev pub handed_now : History → ℕ → List Up
handed_now h node = hands h.happened node h.now.sender.current.id

-- everything before a watermark of the current order
abbrev pub before_mark : Settings → History → Position → List Up
before_mark p h at = upto p h.now.sender.current.order at

-- Where a receiver is listed past a position, everything before that is a front of what it handed up.
pub record ListedAfter (p : Settings) (h : History) : Type 0 where
  pub each : AllByRecursion (λ (l : Listing). IfSome l.past (λ at. IsFront (before_mark p h at) (handed_now h l.node))) h.now.sender.listings

-- The same as a test.
abbrev pub is_listed_after : Settings → History → Bool
is_listed_after p h = list_all
    (λ (l : Listing). elim l.past [ Some at ↦ is_front (before_mark p h at) (handed_now h l.node) | None ↦ true ])
    h.now.sender.listings
