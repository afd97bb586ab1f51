-- What is promised of a pump: whatever waits for the members below, they are asked.
use Rattle.std.specs.Prelude.{ℕ, ◌≡◌, ◌⊎◌, ◌||◌, List, [], ◌∷◌, ◌++◌, length, Bool, true, false, is_some, Option, None, Some, Ok}
use Rattle.norm_send_rules.specs.SenderState.{SenderState, Watermark}
use Rattle.norm_send_rules.specs.declared.news.Outcome.TheVariants.{Satisfied}
use Rattle.norm_relay.specs.Pumping.{begins_anew, enqueues_first, is_met, asks_nothing, pumped}
use Rattle.norm_relay.specs.RelayKept.{waits}
use Rattle.norm_relay.specs.RelayState.{Relaying, Pledge}

-- once what waits was enqueued, as far as there was room
abbrev pub enqueued : ℕ → Relaying → Relaying
enqueued now x = (enqueues_first now (begins_anew now x)).state

-- one more watermark was made, and was satisfied at once
pub record IsMadeMet (old new : SenderState) : Type 0 where
  pub before : List Watermark
  pub made : Watermark
  pub last : new.watermarks ≡ before ++ made ∷ []
  pub count : length before ≡ length old.watermarks
  pub met : made.ended ≡ Some Satisfied

-- a hand-up waits for room, or an acknowledgement for the members below
abbrev pub is_waiting : Relaying → Bool
is_waiting x = waits x || is_some x.pledge

-- the acknowledgement that has a watermark may be sent
abbrev pub MaySend : Relaying → Option Pledge → Type 0
MaySend x None = ⊥
MaySend x (Some pledge) = is_met x pledge ≡ true

-- a watermark is open, or the one that was made was satisfied at once, or the acknowledgement that has one may be sent
abbrev pub IsAsked : SenderState → Relaying → Type 0
IsAsked old x = ((asks_nothing x ≡ false) ⊎ IsMadeMet old x.lower.world.sender) ⊎ MaySend x x.pledge

-- After each pump that was not refused, if something waits, the members below are asked, or need not be.
abbrev pub AsksWhereItWaits : Type 0
AsksWhereItWaits = (now : ℕ) (x : Relaying) (count : ℕ) → (pumped now x).1 ≡ Ok count → is_waiting (pumped now x).0 ≡ true
    → IsAsked (enqueued now x).lower.world.sender (pumped now x).0
