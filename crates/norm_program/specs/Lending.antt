-- What a call does with the parts of the outside that are lent to it.
use Rattle.std.specs.Prelude.{◌≡◌}
use Rattle.std.specs.Borrow.{GName}
use Rattle.norm_base.specs.declared.clock.Clock as clock
use Rattle.norm_base.specs.declared.fabric.Fabric as fabric
use Rattle.norm_base.specs.declared.files.Files as files
use Rattle.norm_base.specs.declared.sink.Sink as sink
use Rattle.norm_base.specs.declared.source.Source as source
use Rattle.norm_endings.specs.Outside.{Outside, outside, called_as}
use Rattle.norm_program.specs.declared.lent.Lent.{Lent}

-- what the parts tell
abbrev pub told : {S K F D C : Type 0} → source.Ghosts S → sink.Ghosts K → fabric.Ghosts F → files.Ghosts D → clock.Ghosts C → Lent S K F D C → Outside
told s k f d c lent =
    outside (s.left lent.input.now) (k.pieces lent.output.now) (s.fault_count lent.input.now) (k.fault_count lent.output.now)
    (called_as (f.told lent.fabric.now) (d.contents lent.files.now) (c.moments lent.clock.now) (f.fault_count lent.fabric.now) (d.fault_count lent.files.now))

-- which references they are
pub record Names : Type 0 where
  pub input : GName
  pub output : GName
  pub fabric : GName
  pub files : GName
  pub clock : GName

abbrev pub names : {S K F D C : Type 0} → Lent S K F D C → Names
names lent = record {
  input = lent.input.ghost_name;
  output = lent.output.ghost_name;
  fabric = lent.fabric.ghost_name;
  files = lent.files.ghost_name;
  clock = lent.clock.ghost_name;
}

-- The references are the same, and this holds of what the parts told before and after.
pub record GivesBack {S K F D C : Type 0} (s : source.Ghosts S) (k : sink.Ghosts K) (f : fabric.Ghosts F) (d : files.Ghosts D) (c : clock.Ghosts C)
    (Holds : Outside → Outside → Type 0) (before after : Lent S K F D C) : Type 0 where
  pub same : names after ≡ names before
  pub tells : Holds (told s k f d c before) (told s k f d c after)
