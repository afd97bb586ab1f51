-- The numbers of a task are in their ranges.
use Rattle.std.specs.Prelude.{ℕ, ◌≤◌, Option, IfSome}
use Rattle.norm_base.specs.Keys.{IsValue}
use Rattle.norm_base.specs.declared.key.Key.TheVariants as key
use Rattle.norm_args.specs.declared.node_tasks.NodeTask.{NodeTask}
use Rattle.norm_args.specs.declared.node_tasks.NodeTask.TheVariants.{Send, Receive, Hub, Gather, Relay}
use Rattle.norm_args.specs.declared.tasks.Options.{Options}
use Rattle.norm_args.specs.declared.tasks.Task.{Task}
use Rattle.norm_args.specs.declared.tasks.Task.TheVariants.{Session, Show, Generate, Mirror}

-- what an option gives is one of its key's values; a tail begins after a turn
pub record FitsOptions (o : Options) : Type 0 where
  pub chance : IfSome o.chance (IsValue key.Chance)
  pub turns : IfSome o.turns (IsValue key.Turns)
  pub tail : IfSome o.tail (IsValue key.Turns)

abbrev pub FitsTask : Task → Type 0
FitsTask (Session options) = FitsOptions options
FitsTask Show = Unit {0}
FitsTask (Generate n) = n ≤ 4294967295
FitsTask Mirror = Unit {0}

-- an instance that is given is one of its key's values
abbrev pub FitsInstance : Option ℕ → Type 0
FitsInstance instance = IfSome instance (IsValue key.Instance)

abbrev pub FitsNode : NodeTask → Type 0
FitsNode (Send profile instance) = FitsInstance instance
FitsNode (Receive profile node) = Unit {0}
FitsNode (Hub profile) = Unit {0}
FitsNode (Gather pairs) = Unit {0}
FitsNode (Relay up node down instance) = FitsInstance instance
