-- Handing up goes as far as it can (RFC 5740 section 5.2).
use Rattle.std.specs.Prelude.{◌≡◌, ℕ, Bool, true, not, nat_lt, is_some, None, Some}
use Rattle.std.specs.List.{list_all}
use Rattle.norm_base.specs.Settings.{Settings}
use Rattle.fec_plan.specs.Partition.{first_fault, source_symbols}
use Rattle.norm_receive_rules.specs.HandingUp.{hands_one, handed_up}
use Rattle.norm_receive_rules.specs.Holding.{Holding, Plan}
use Rattle.norm_receive_rules.specs.Laws.{HasPassed}
use Rattle.norm_receive_rules.specs.Plans.{cut_of_plan, plan_of}
use Rattle.norm_receive_rules.specs.ReceiverState.{ReceiverState, receiver_opening}
use Rattle.norm_receive_rules.specs.ReceiverStep.{ReceiverEvent, receiver_step}

-- nothing is wrong with any plan
abbrev pub has_sound_plans : Holding → Bool
has_sound_plans s = list_all (λ (plan : Plan). not (is_some (first_fault (cut_of_plan plan)))) s.plans

-- the hand-up point is a source symbol of its block, where the object's plan is known
abbrev pub is_at_source : Holding → Bool
is_at_source s = elim (plan_of s s.point.index) [
  | Some plan ↦ nat_lt s.point.symbol (source_symbols (cut_of_plan plan) s.point.block)
  | None ↦ true
]

-- What each receiver comes to hold: all before the hand-up point is there, the point is a source symbol, and plans are sound.
pub record IsSteady (p : Settings) (s : Holding) : Type 0 where
  pub passed : HasPassed p s
  pub sound : has_sound_plans s ≡ true
  pub source : is_at_source s ≡ true

-- and nothing more can be handed up
pub record IsFar (p : Settings) (s : Holding) : Type 0 where
  pub steady : IsSteady p s
  pub stuck : hands_one p s ≡ None

-- Handing up leaves nothing that can be handed up. So nothing can be as a receiver begins, nor after any step of it.
pub record FarLaws : Type 0 where
  pub far : (p : Settings) (s : Holding) → IsSteady p s → hands_one p (handed_up p s) ≡ None
  pub begins : (p : Settings) (node : ℕ) → IsFar p (receiver_opening node).holding
  pub goes_on : (p : Settings) (s : ReceiverState) (event : ReceiverEvent) → IsFar p s.holding → IsFar p (receiver_step p s event).0.holding
