use Rattle.std.specs.Prelude.{ℕ, List}
use Rattle.norm_base.specs.Settings.{Settings}
use Rattle.norm_script.specs.declared.script.Line.{Line}

-- What a script says: a profile, and the commands in their order.
pub record Commands : Type 0 where
  pub profile : Settings
  pub lines : List Line

-- the most commands of a script
abbrev pub most_commands : ℕ
most_commands = 4096
