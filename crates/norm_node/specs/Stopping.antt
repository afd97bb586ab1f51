-- What a fault leaves of a receiver's run.
use Rattle.std.specs.Prelude.{ℕ, ⊤, ◌≡◌, List, Option, Some}
use Rattle.norm_base.specs.Contents.{ChangesOnly}
use Rattle.norm_base.specs.Told.{Pieces, GainsFront}
use Rattle.norm_order.specs.declared.up.Up.{Up}
use Rattle.norm_journal.specs.Jobs.{Told}
use Rattle.norm_journal.specs.Lines.{up_line}
use Rattle.norm_turns.specs.declared.fault.SessionFault.{SessionFault}
use Rattle.norm_turns.specs.declared.fault.SessionFault.TheVariants as fault
use Rattle.norm_node.specs.Lone.{Place, Taking, Offering, Handing, Lone, Event, next_up}
use Rattle.norm_node.specs.Shown.{Outside, Goes, file_of, IsPut}
use Rattle.norm_node.specs.RunKept.{Begun}

-- a call of the network is due
abbrev pub CallsNetwork : Place → Type 0
CallsNetwork (Taking count) = ⊤
CallsNetwork (Offering octets) = ⊤
CallsNetwork _ = ⊥

-- a hand-up is due
pub record IsNextUp (s : Lone) (instance : ℕ) (handed : Up) : Type 0 where
  pub place : s.place ≡ Handing
  pub next : next_up s.receiver ≡ Some (instance, handed)

-- A hand-up's file was put, and of its line a front was written.
pub record BrokenLine (s : Lone) (shown after : Outside) : Type 0 where
  pub instance : ℕ
  pub handed : Up
  pub due : IsNextUp s instance handed
  pub file : IsPut (file_of s.node instance handed) shown.files after.files
  pub line : GainsFront shown.written after.written (up_line s.node instance handed)
  pub rest : after ≡ record shown { written = after.written; files = after.files }

-- The put of a hand-up's file failed: what that name has is not known.
pub record FailedPut (s : Lone) (shown after : Outside) : Type 0 where
  pub instance : ℕ
  pub handed : Up
  pub file : List ℕ × List ℕ
  pub due : IsNextUp s instance handed
  pub file_is : file_of s.node instance handed ≡ Some file
  pub others : ChangesOnly shown.files after.files file.0
  pub rest : after ≡ record shown { files = after.files }

-- What the outside has of what was done, by the fault that stopped it.
abbrev pub Leaves : SessionFault → Lone → (shown after : Outside) → Type 0
Leaves fault.Write s shown after = BrokenLine s shown after
Leaves fault.Fabric s shown after = CallsNetwork s.place × (after ≡ shown)
Leaves fault.Files s shown after = FailedPut s shown after
Leaves (fault.Absent name) s shown after = ⊥
Leaves fault.Memory s shown after = after ≡ shown

-- A run that a fault stopped: events led to a state; the outside has what they show, and what the fault left.
pub record Stopped (x : Begun) (failed : SessionFault) (now : Outside) : Type 0 where
  pub events : List Event
  pub last : Lone
  pub shown : Outside
  pub goes : Goes x.start x.before events last shown
  pub leaves : Leaves failed last shown now
