-- What a sender sends once by itself, and when all of it was sent.
use Rattle.std.specs.Prelude.{◌≡◌, ℕ, List, Bool, true, nat_lt}
use Rattle.std.specs.List.{AllByRecursion}
use Rattle.norm_base.specs.Settings.{Settings, InRange}
use Rattle.fec_plan.specs.Points.{position_before}
use Rattle.fec_plan.specs.declared.position.Position.{Position}
use Rattle.norm_order.specs.Sets.{is_member}
use Rattle.norm_order.specs.Shapes.{is_source, has_info}
use Rattle.norm_send_rules.specs.SenderState.{SenderState}
use Rattle.norm_send_rules.specs.InWindow.{current_shapes, stands_behind}
use Rattle.norm_send_rules.specs.Sending.{new_from}
use Rattle.norm_send_rules.specs.Ticking.{is_idle}
use Rattle.norm_send_rules.specs.declared.want.Want.{Want}
use Rattle.norm_send_rules.specs.declared.want.Want.TheVariants.{Info, Symbol}
use Rattle.norm_safety.specs.Events.{Event}
use Rattle.norm_safety.specs.WorldStep.{run}

-- it was sent in the current instance
abbrev pub was_sent : SenderState → Want → Bool
was_sent s (Info index) = is_member nat_lt index s.sent_infos
was_sent s (Symbol at) = is_member position_before at s.sent

-- all that is sent once by itself: of each entry of the order its info, and of each block its closed source symbols and, of one that is
-- closed, so many parity symbols as the profile says
abbrev pub sent_once_of : Settings → SenderState → List Want
sent_once_of p s = new_from p 0 (current_shapes p s)

-- each of it was sent, or was dropped
abbrev pub AllSent : Settings → SenderState → Type 0
AllSent p s = AllByRecursion (λ w. stands_behind s.current.drop w ≡ true → was_sent s w ≡ true) (sent_once_of p s)

-- Wherever a sender is idle, all that it sends once by itself was sent, or was dropped.
abbrev pub IdleHasSent : Type 0
IdleHasSent = (p : Settings) → InRange p → (events : List Event) → is_idle p (run p events).sender ≡ true → AllSent p (run p events).sender

-- Each closed source symbol of the order and each info of it was sent in the current instance, dropped or not.
pub record SourcesSent (p : Settings) (s : SenderState) : Type 0 where
  pub symbols : (at : Position) → is_source (current_shapes p s) at ≡ true → is_member position_before at s.sent ≡ true
  pub infos : (index : ℕ) → has_info (current_shapes p s) index ≡ true → is_member nat_lt index s.sent_infos ≡ true

-- Wherever a sender is idle, that is so.
abbrev pub IdleHasSources : Type 0
IdleHasSources = (p : Settings) → InRange p → (events : List Event) → is_idle p (run p events).sender ≡ true → SourcesSent p (run p events).sender
