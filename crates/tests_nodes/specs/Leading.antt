-- The nodes of a world between two calls of a test.
use Rattle.std.specs.Prelude.{◌≡◌}
use Rattle.norm_base.specs.Settings.{Settings}
use Rattle.norm_safety.specs.World.{World}
use Rattle.norm_world.specs.WorldKept.{WorldKept, StandsFor, IsReady}

-- They have this profile, no file is begun, and they stand for a world of the rules.
pub record IsLed (p : Settings) (k : WorldKept) : Type 0 where
  pub profile : k.p ≡ p
  pub ready : IsReady k
  pub rules : World
  pub stands : StandsFor k rules
