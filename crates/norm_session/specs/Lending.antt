-- What a run's turns do with the parts of the outside that are lent to them.
use Rattle.std.specs.Borrow.{GName}
use Rattle.norm_base.specs.declared.clock.Clock as clock
use Rattle.norm_base.specs.declared.fabric.Fabric as fabric
use Rattle.norm_base.specs.declared.files.Files as files
use Rattle.norm_base.specs.declared.sink.Sink as sink
use Rattle.norm_session.specs.Turning.{Span, span}
use Rattle.norm_session.specs.declared.lent.Lent.{Lent}
use Rattle.norm_turns.specs.Causes.{Counted, counted}
use Rattle.producer_gate.specs.Boards.{BoardState}

-- which references the parts are
pub record Names : Type 0 where
  pub output : GName
  pub fabric : GName
  pub files : GName
  pub clock : GName

abbrev pub names : {K F D C : Type 0} → Lent K F D C → Names
names lent = record {
  output = lent.output.ghost_name;
  fabric = lent.fabric.ghost_name;
  files = lent.files.ghost_name;
  clock = lent.clock.ghost_name;
}

-- what the parts and the board told before and after
abbrev pub spanned : {K F D C : Type 0} → sink.Ghosts K → fabric.Ghosts F → clock.Ghosts C → (before after : Lent K F D C) → (unposted posted : BoardState) → Span
spanned k f c before after unposted posted =
    span (f.told before.fabric.now) (f.told after.fabric.now) (k.pieces before.output.now) (k.pieces after.output.now)
    (c.moments before.clock.now) (c.moments after.clock.now) unposted posted

-- how often each part failed
abbrev pub failures : {K F D C : Type 0} → sink.Ghosts K → fabric.Ghosts F → files.Ghosts D → Lent K F D C → Counted
failures k f d lent = counted (k.fault_count lent.output.now) (f.fault_count lent.fabric.now) (d.fault_count lent.files.now)
