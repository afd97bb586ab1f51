-- The back-off before a NACK (RFC 5401 section 3.2.2, RFC 5740 section 5.3).
use Rattle.std.specs.Prelude.{ℕ, ◌+◌, ◌*◌, ◌%◌, ◌&&◌, not, Bool, true, false, nat_lt, Some, is_none}
use Rattle.norm_base.specs.Settings.{Settings}
use Rattle.norm_order.specs.Moments.{moment_after}
use Rattle.norm_receive_rules.specs.Heard.{heard_nothing}
use Rattle.norm_receive_rules.specs.ReceiverState.{ReceiverState, Knowledge}
use Rattle.norm_receive_rules.specs.AllNeeds.{needs_nothing}

-- no back-off runs, and none is held off
abbrev pub may_back_off : ℕ → Knowledge → Bool
may_back_off now k = is_none k.backoff && not (nat_lt now k.holdoff)

-- a back-off begins, by a draw of at most K round trips, and what was heard is forgotten
abbrev pub backs_off : Settings → ℕ → ℕ → Knowledge → Knowledge
backs_off p now draw k = record k { backoff = Some (moment_after now (draw % (p.k * p.grtt + 1))); heard = heard_nothing }

-- where something is needed a back-off begins
abbrev pub backs_off_for_needs : Settings → ℕ → ℕ → ReceiverState → ReceiverState
backs_off_for_needs p now draw s = elim (needs_nothing p s) [
  | true ↦ s
  | false ↦ record s { knows = backs_off p now draw s.knows }
]

-- after a message of the sender in the current instance
abbrev pub may_need : Settings → ℕ → ℕ → ReceiverState → ReceiverState
may_need p now draw s = elim (may_back_off now s.knows) [ true ↦ backs_off_for_needs p now draw s | false ↦ s ]
