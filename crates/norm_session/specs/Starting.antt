-- A run that begins.
use Rattle.std.specs.Prelude.{◌≡◌, [], Bool, true, false}
use Rattle.norm_base.specs.Network.{Network}
use Rattle.norm_base.specs.Settings.{Settings}
use Rattle.norm_base.specs.declared.kinds.Local.{Local}
use Rattle.norm_base.specs.declared.kinds.Local.TheVariants as local
use Rattle.norm_script.specs.Commands.{Commands}
use Rattle.norm_session.specs.Context.{Context}
use Rattle.norm_session.specs.RunKept.{nodes_in}

-- what the network is started for: the sender alone, or all members
abbrev pub local_of : Bool → Settings → Local
local_of true p = local.One p.sender
local_of false p = local.All

-- A context as a run of a script begins over it: with the script, whether the sender is alone, the receivers that it has, and this
-- network; no turn began, and the board is as it was.
pub record IsBegun (x : Context) (commands : Commands) (alone : Bool) (told : Network) : Type 0 where
  pub script : x.script ≡ commands
  pub is_alone : x.alone ≡ alone
  pub nodes : x.nodes ≡ nodes_in alone commands.profile
  pub network : x.network ≡ told
  pub moments : x.moments ≡ []
  pub board : x.posted ≡ x.board
