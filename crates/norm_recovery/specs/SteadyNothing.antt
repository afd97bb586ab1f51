-- In a steady session over a direct network nothing is ever needed (RFC 5740 section 5.3), so nobody asks for a repair.
use Rattle.std.specs.Prelude.{◌≡◌, ℕ, List, [], true, false, None, Some, ⊤}
use Rattle.std.specs.List.{AllByRecursion}
use Rattle.norm_base.specs.Settings.{Settings}
use Rattle.norm_ext.specs.Message.{Message, Nack}
use Rattle.norm_ext.specs.Written.{Written}
use Rattle.norm_receive_rules.specs.AllNeeds.{needs_nothing}
use Rattle.norm_receive_rules.specs.ReceiverState.{ReceiverState}
use Rattle.norm_send_rules.specs.SenderState.{SenderState}
use Rattle.norm_safety.specs.Said.{said}
use Rattle.norm_safety.specs.World.{World, receiver_at}
use Rattle.norm_script.specs.Commands.{Commands}
use Rattle.norm_journal.specs.declared.event.Event.{Event}
use Rattle.norm_journal.specs.Jobs.{Told}
use Rattle.norm_journal.specs.Judged.{Judged}
use Rattle.norm_recovery.specs.Steady.{Steady}
use Rattle.norm_recovery.specs.SteadyPasses.{RunsDirectly}

-- no receiver needs anything, and none backs off
pub record NeedsNothing (p : Settings) (r : ReceiverState) : Type 0 where
  pub needs : needs_nothing p r ≡ true
  pub backoff : r.knows.backoff ≡ None

-- no round is open, nothing is wanted, and no squelch is due
pub record AsksNothing (s : SenderState) : Type 0 where
  pub round : s.round ≡ None
  pub wants : s.wants ≡ []
  pub squelch : s.squelch_due ≡ false

-- a message is no NACK
abbrev pub IsNoNack : Message → Type 0
IsNoNack (Nack m) = ⊥
IsNoNack _ = ⊤

-- No receiver needs anything, the sender repairs nothing, and no NACK was ever given.
pub record NothingNeeded (p : Settings) (w : World) : Type 0 where
  pub receivers : (node : ℕ) (r : ReceiverState) → receiver_at w node ≡ Some r → NeedsNothing p r
  pub sender : AsksNothing w.sender
  pub said : AllByRecursion (λ (o : ℕ × Written). IsNoNack o.1.message) (said w)

-- So it is at each moment of a steady session over a direct network.
abbrev pub NothingIsNeeded : Type 0
NothingIsNeeded = (script : Commands) (files : Told) (events : List Event) (last : Judged) → RunsDirectly script files events last
    → Steady script files events → NothingNeeded script.profile last.world
