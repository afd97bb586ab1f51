-- What is promised of the instances that sends take.
use Rattle.std.specs.Prelude.{◌≡◌, ◌<◌, ℕ, Some, true}
use Rattle.norm_base.specs.Sizes.{id_count}
use Rattle.norm_ext.specs.InstanceIds.{is_above}
use Rattle.norm_host.specs.Instances.{next_instance}

-- A send's instance lies above the last one that was taken, whatever the clock says.
abbrev pub NextIsAbove : Type 0
NextIsAbove = (last minute : ℕ) → last < id_count → is_above last (next_instance (Some last) minute) ≡ true
