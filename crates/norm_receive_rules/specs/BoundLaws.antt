-- What a receiver keeps of what others ask for has a bound (RFC 5401 section 3.2.2).
use Rattle.std.specs.Prelude.{ℕ, ◌≤◌, length}
use Rattle.norm_base.specs.Settings.{Settings}
use Rattle.norm_receive_rules.specs.Heard.{Heard}
use Rattle.norm_receive_rules.specs.Overhearing.{most_heard}
use Rattle.norm_receive_rules.specs.ReceiverState.{ReceiverState, receiver_opening}
use Rattle.norm_receive_rules.specs.ReceiverStep.{ReceiverEvent, receiver_step}

-- no more is kept of each kind than that
pub record IsBounded (heard : Heard) : Type 0 where
  pub symbols : length heard.symbols ≤ most_heard
  pub infos : length heard.infos ≤ most_heard
  pub counts : length heard.counts ≤ most_heard

-- So it is at first, and after each step.
pub record BoundLaws : Type 0 where
  pub begins : (node : ℕ) → IsBounded (receiver_opening node).knows.heard
  pub goes_on : (p : Settings) (s : ReceiverState) (event : ReceiverEvent)
      → IsBounded s.knows.heard → IsBounded (receiver_step p s event).0.knows.heard
