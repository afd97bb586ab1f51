-- What lies before the next place of a sender was sent (RFC 5740 section 5.1).
use Rattle.std.specs.Prelude.{◌≡◌, ℕ, List, true, nat_lt}
use Rattle.norm_base.specs.Settings.{Settings, InRange}
use Rattle.fec_plan.specs.Points.{position_before}
use Rattle.fec_plan.specs.declared.position.Position.{Position}
use Rattle.norm_order.specs.Sets.{is_member}
use Rattle.norm_order.specs.Shapes.{is_source, has_info}
use Rattle.norm_send_rules.specs.InWindow.{current_shapes}
use Rattle.norm_send_rules.specs.SenderState.{SenderState}
use Rattle.norm_send_rules.specs.Wants.{want_before}
use Rattle.norm_send_rules.specs.declared.want.Want.TheVariants.{Info, Symbol}
use Rattle.norm_safety.specs.Events.{Event}
use Rattle.norm_safety.specs.WorldStep.{run}

-- Each closed source symbol of the order and each info of it that lies before the next place was sent in the current instance, dropped or not.
pub record SentBeforeNext (p : Settings) (s : SenderState) : Type 0 where
  pub symbols : (at : Position) → is_source (current_shapes p s) at ≡ true → want_before (Symbol at) s.next ≡ true → is_member position_before at s.sent ≡ true
  pub infos : (index : ℕ) → has_info (current_shapes p s) index ≡ true → want_before (Info index) s.next ≡ true → is_member nat_lt index s.sent_infos ≡ true

-- So it is at each moment of every run.
abbrev pub IsSentBeforeNext : Type 0
IsSentBeforeNext = (p : Settings) → InRange p → (events : List Event) → SentBeforeNext p (run p events).sender
