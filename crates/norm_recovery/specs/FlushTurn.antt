-- In the turn of a flush every receiver comes to know it (RFC 5740 section 5.5.3).
use Rattle.std.specs.Prelude.{◌≡◌, ℕ, List, Some}
use Rattle.norm_base.specs.Settings.{Settings, InRange}
use Rattle.norm_receive_rules.specs.ReceiverState.{ReceiverState}
use Rattle.norm_send_rules.specs.SenderState.{Watermark}
use Rattle.norm_safety.specs.Events.{Event}
use Rattle.norm_safety.specs.Tail.{course_from, tail_turn}
use Rattle.norm_safety.specs.World.{receiver_at}
use Rattle.norm_safety.specs.WorldStep.{run}
use Rattle.norm_recovery.specs.Flush.{MayFlush, KnowsFlush}
use Rattle.norm_recovery.specs.TailLawful.{MayGoOn}

-- After a run that may go on comes a turn in which the sender flushes for a watermark, whatever the draws: at its end each receiver is in the
-- current instance, and knows that position or a further one.
abbrev pub FlushComes : Type 0
FlushComes = (p : Settings) → InRange p → (events : List Event) → MayGoOn p events → (draws : ℕ → ℕ) (now : ℕ) (w : Watermark)
    → MayFlush p now (run p events).sender w → (node : ℕ) (r : ReceiverState)
    → receiver_at (tail_turn p draws now (course_from (run p events))).world node ≡ Some r → KnowsFlush r (run p events).sender.current.id w.at
