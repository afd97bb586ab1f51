-- What the parts of a session with a tail say.
use Rattle.std.specs.Prelude.{◌≡◌, ℕ, Option}
use Rattle.norm_base.specs.Faults.{one_more}
use Rattle.norm_base.specs.Settings.{Settings}
use Rattle.norm_base.specs.Told.{Pieces, gained}
use Rattle.norm_journal.specs.Judged.{Judged, is_whole}
use Rattle.norm_safety.specs.World.{World}
use Rattle.norm_session.specs.Pausing.{has_commands}
use Rattle.norm_turns.specs.declared.fault.SessionFault.{SessionFault}
use Rattle.norm_world.specs.WorldKept.{WorldKept, IsReady, StandsFor}
use Rattle.driven_nodes.specs.Writing.{LeavesLines, WholeLines, BrokenLines}
use Rattle.norm_endings.specs.declared.status.Ending.{Ending}
use Rattle.norm_endings.specs.declared.status.Ending.TheVariants.{Memory, Write}
use Rattle.norm_endings.specs.declared.status.NoTail.{NoTail}
use Rattle.norm_program.specs.TailEnds.{TailsSoFar, Made, ending_after, lines_after}
use Rattle.norm_program.specs.declared.tail.Tails.{Tails}
use Rattle.norm_program.specs.declared.tail.Turned.{Turned}

-- nodes may go on: they are ready, under this profile, and stand for some world
pub record MayGoOn (p : Settings) (k : WorldKept) : Type 0 where
  pub profile : k.p ≡ p
  pub ready : IsReady k
  pub world : World
  pub stands : StandsFor k world

-- These tails were made so far, and their lines were written.
pub record AreMade (k : Tails) (t : TailsSoFar) (unwritten written : Pieces) : Type 0 where
  pub stands : StandsFor k.world t.world
  pub last : k.last ≡ t.last
  pub draws : k.draws ≡ t.draws
  pub turns : k.turns ≡ t.turns
  pub bound : k.bound ≡ t.bound
  pub totals : k.counts ≡ t.totals
  pub output : written ≡ gained unwritten t.lines

-- from whatever tails were made, a call led on to these
abbrev pub LeadsOn : (TailsSoFar → Made) → (old new : Tails) → (before after : Pieces) → Option NoTail → Type 0
LeadsOn on old new before after why =
    (t : TailsSoFar) (unwritten : Pieces) → AreMade old t unwritten before → AreMade new (on t).0 unwritten after × (why ≡ (on t).1)

-- or a fault stopped it on the way there
abbrev pub StopsOn : (TailsSoFar → Made) → SessionFault → Tails → (before after : Pieces) → Type 0
StopsOn on failed old before after =
    (t : TailsSoFar) (unwritten : Pieces) → AreMade old t unwritten before → LeavesLines failed unwritten after (on t).0.lines

-- what is said of the turns is read off the judge's state
pub record IsTurned (turned : Turned) (j : Judged) : Type 0 where
  pub whole : turned.whole ≡ is_whole j
  pub waiting : turned.waiting ≡ has_commands j
  pub turn : turned.turn ≡ j.turn

-- how a session ends the program whose turns left this state
abbrev pub IsTailsEnding : Ending → Settings → Judged → (unwritten written : Pieces) → (before after : ℕ) → Type 0
IsTailsEnding Memory p j unwritten written before after = WholeLines unwritten written (lines_after p j) × (after ≡ before)
IsTailsEnding Write p j unwritten written before after = BrokenLines unwritten written (lines_after p j) × (after ≡ one_more before)
IsTailsEnding ending p j unwritten written before after =
    (ending ≡ ending_after p j) × (written ≡ gained unwritten (lines_after p j)) × (after ≡ before)
