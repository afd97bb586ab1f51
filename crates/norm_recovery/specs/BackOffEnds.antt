-- At the end of a clean back-off the open round asks for something that the member lacks, if it needs anything (RFC 5740 section 5.3).
use Rattle.std.specs.Prelude.{◌≡◌, ◌⊎◌, ℕ, List, true, None, Some, is_some}
use Rattle.norm_base.specs.Settings.{Settings, InRange}
use Rattle.norm_base.specs.declared.kinds.Mode.TheVariants.{Hold}
use Rattle.norm_receive_rules.specs.AllNeeds.{needs_nothing}
use Rattle.norm_receive_rules.specs.ReceiverState.{ReceiverState}
use Rattle.norm_send_rules.specs.Repairable.{streams}
use Rattle.norm_send_rules.specs.SenderState.{SenderState}
use Rattle.norm_send_rules.specs.Watermarks.{has_member}
use Rattle.norm_safety.specs.Events.{Event}
use Rattle.norm_safety.specs.Tail.{course_from, tail_turn}
use Rattle.norm_safety.specs.World.{receiver_at}
use Rattle.norm_safety.specs.WorldStep.{run}
use Rattle.norm_recovery.specs.Clean.{is_clean, ClosesInVain}
use Rattle.norm_recovery.specs.NackAsks.{AskedOf}
use Rattle.norm_recovery.specs.TailLawful.{MayGoOn}

-- A receiver needs nothing, or a sender's open round asks for something of the window that it lacks.
abbrev pub IsAsked : Settings → SenderState → ReceiverState → Type 0
IsAsked p s r = (needs_nothing p r ≡ true) ⊎ AskedOf p s s r

-- In `hold` mode, with no stream in the window, after a run that may go on comes a turn that closes no round, or one in vain, whatever the draws. If a
-- member backed off before and was clean, and does not back off after the turn, so it is: by its own NACK, or by what it heard others ask for.
abbrev pub BackOffEnds : Type 0
BackOffEnds = (p : Settings) → InRange p → p.mode ≡ Hold → (events : List Event) → MayGoOn p events → streams (run p events).sender ≡ 0 → (draws : ℕ → ℕ) (now : ℕ)
    → ClosesInVain p now (run p events) → (node : ℕ) → has_member node (run p events).sender ≡ true → (r t : ReceiverState)
    → receiver_at (run p events) node ≡ Some r → is_some r.knows.backoff ≡ true → is_clean p (run p events).sender r ≡ true
    → receiver_at (tail_turn p draws now (course_from (run p events))).world node ≡ Some t → t.knows.backoff ≡ None
    → IsAsked p (tail_turn p draws now (course_from (run p events))).world.sender t
