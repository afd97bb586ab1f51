-- Whole runs of a receiver alone.
use Rattle.std.specs.Prelude.{ℕ, ◌≡◌, ◌⊎◌, List}
use Rattle.norm_base.specs.Network.{Network, Starts}
use Rattle.norm_base.specs.Settings.{Settings}
use Rattle.norm_base.specs.declared.kinds.Local.TheVariants.{One}
use Rattle.norm_turns.specs.declared.fault.SessionFault.{SessionFault}
use Rattle.norm_turns.specs.declared.fault.SessionFault.TheVariants as fault
use Rattle.norm_node.specs.Lone.{Lone, Event, Between, lone_opening}
use Rattle.norm_node.specs.Shown.{Outside, Goes}
use Rattle.norm_node.specs.RunKept.{Begun, over}
use Rattle.norm_node.specs.Stopping.{Stopped}

-- a receiver's run over the network that was started
abbrev pub begun : Settings → ℕ → Outside → Begun
begun p node before = record { start = lone_opening p node; before = before }

-- A receiver's run was made, over the network that was started once, for its node: it did all turns of its profile, each of its steps
-- the defined one, and the outside has exactly what they show.
pub record RunsReceiver (p : Settings) (node : ℕ) (before after : Outside) : Type 0 where
  pub started : Network
  pub starts : Starts before.network started p (One node)
  pub events : List Event
  pub last : Lone
  pub goes : Goes (lone_opening p node) (over before started) events last after
  pub between : last.place ≡ Between
  pub turns : last.turn ≡ p.turns

-- Nothing was done: there was no memory, or the network was not started.
pub record NotBegun (failed : SessionFault) (before after : Outside) : Type 0 where
  pub why : (failed ≡ fault.Memory) ⊎ (failed ≡ fault.Fabric)
  pub same : after ≡ before

-- A fault broke a run off: what was done is the beginning of one, and that is what the outside has, and what the fault left.
pub record BreaksOff (failed : SessionFault) (p : Settings) (node : ℕ) (before after : Outside) : Type 0 where
  pub started : Network
  pub starts : Starts before.network started p (One node)
  pub stopped : Stopped (begun p node (over before started)) failed after

-- what a fault leaves of a receiver's run
abbrev pub StopsReceiver : SessionFault → Settings → ℕ → (before after : Outside) → Type 0
StopsReceiver failed p node before after = NotBegun failed before after ⊎ BreaksOff failed p node before after
