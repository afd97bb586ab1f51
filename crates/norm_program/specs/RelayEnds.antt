-- How `relay` ends: what a relay between two sessions makes of the datagrams and ticks that the lines of the input are.
use Rattle.std.specs.Prelude.{◌≡◌, ◌⊎◌, ℕ, List, true, false, codes, Option}
use Rattle.norm_base.specs.Faults.{one_more}
use Rattle.norm_base.specs.Settings.{Settings}
use Rattle.norm_base.specs.Told.{gained}
use Rattle.norm_relay.specs.RelayState.{can_relay}
use Rattle.norm_turns.specs.declared.fault.SessionFault.{SessionFault}
use Rattle.norm_turns.specs.declared.fault.SessionFault.TheVariants as fault
use Rattle.relay_words.specs.declared.ends.Losses.{Losses}
use Rattle.relay_words.specs.declared.ends.Patience.{Patience}
use Rattle.relay_words.specs.declared.ends.RelayEnd.{RelayEnd}
use Rattle.relay_words.specs.declared.ends.RelayEnd.TheVariants as stop
use Rattle.driven_nodes.specs.Writing.{LeavesLines}
use Rattle.driven_nodes.specs.Relayed.{relayed}
use Rattle.driven_nodes.specs.Misfits.{no_relay, patience_of}
use Rattle.norm_endings.specs.Outside.{Outside, Says, Undisturbed, Untouched, IsInput, FailedRead, refused_line}
use Rattle.norm_endings.specs.declared.status.Ending.{Ending}
use Rattle.norm_endings.specs.declared.status.Ending.TheVariants.{Memory, Event, Command, Profile, Relayed, Read, Write}
use Rattle.norm_endings.specs.declared.status.ProfileFault.{ProfileFault}
use Rattle.norm_endings.specs.declared.status.ProfileFault.TheVariants.{Relay}
use Rattle.norm_program.specs.Asked.{with_instance}
use Rattle.norm_program.specs.NodeEnds.{EndsUnder, NoFault}

-- All lines were taken, and what was written is what is printed of them.
pub record RelayedAll (p : Settings) (node : ℕ) (q : Settings) (lost : Losses) (patience : Patience) (before after : Outside) : Type 0 where
  pub text : List ℕ
  pub input : IsInput text before.input after.input
  pub ends : (relayed p node q text).end ≡ stop.All lost
  pub patience_is : patience ≡ patience_of p q
  pub output : after.written ≡ gained before.written (relayed p node q text).lines
  pub called : after.called ≡ before.called
  pub no_fault : NoFault before after

-- A line is no event, or a job was refused: what is printed until there was written, and a last line says so.
pub record RelayedTo (p : Settings) (node : ℕ) (q : Settings) (how : RelayEnd) (last : List ℕ) (before after : Outside) : Type 0 where
  pub text : List ℕ
  pub input : IsInput text before.input after.input
  pub ends : (relayed p node q text).end ≡ how
  pub output : Says (gained before.written (relayed p node q text).lines) after.written before.write_faults after.write_faults last
  pub called : after.called ≡ before.called
  pub undisturbed : Undisturbed before after

-- A fault left whole lines of what is printed; and if a write failed, a front of the next.
pub record RelayedLess (failed : SessionFault) (p : Settings) (node : ℕ) (q : Settings) (before after : Outside) : Type 0 where
  pub text : List ℕ
  pub input : IsInput text before.input after.input
  pub output : LeavesLines failed before.written after.written (relayed p node q text).lines
  pub called : after.called ≡ before.called

-- One write failed.
pub record RelayedWrite (p : Settings) (node : ℕ) (q : Settings) (before after : Outside) : Type 0 where
  pub cause : after.write_faults ≡ one_more before.write_faults
  pub less : RelayedLess fault.Write p node q before after
  pub undisturbed : Undisturbed before after

-- There was no memory, before anything was written or after whole lines. No call failed.
pub record RelayedSome (p : Settings) (node : ℕ) (q : Settings) (before after : Outside) : Type 0 where
  pub some : Untouched before after ⊎ RelayedLess fault.Memory p node q before after
  pub no_fault : NoFault before after

-- The two sessions are not relayed at this node. A last line says so, and the input is not read.
pub record RefusedSessions (p : Settings) (node : ℕ) (q : Settings) (why : ProfileFault) (before after : Outside) : Type 0 where
  pub is : can_relay p node q ≡ false
  pub why_is : why ≡ Relay (no_relay p node q)
  pub output : Says before.written after.written before.write_faults after.write_faults (codes "refused profile\n")
  pub unbegun : after ≡ record before { written = after.written; write_faults = after.write_faults }

-- what each ending says of a relay that was made
abbrev pub EndsMade : Settings → ℕ → Settings → Ending → Outside → Outside → Type 0
EndsMade p node q (Relayed lost patience) before after = RelayedAll p node q lost patience before after
EndsMade p node q (Event n why) before after = RelayedTo p node q (stop.NoEvent n why) (refused_line n) before after
EndsMade p node q (Command fault) before after = RelayedTo p node q (stop.Refused fault) (codes "refused command\n") before after
EndsMade p node q Read before after = FailedRead before after
EndsMade p node q Write before after = RelayedWrite p node q before after
EndsMade p node q _ before after = ⊥

-- what each ending says, under the profiles of both sessions
abbrev pub EndsBetween : Settings → ℕ → Settings → Ending → Outside → Outside → Type 0
EndsBetween p node q (Profile why) before after = RefusedSessions p node q why before after
EndsBetween p node q Memory before after = RelayedSome p node q before after
EndsBetween p node q ending before after = (can_relay p node q ≡ true) × EndsMade p node q ending before after

-- what each ending of a relay says, for the paths of both profiles: that above is loaded first, and the instance that is given stands in place
-- of that of the one below
abbrev pub EndsRelay : List ℕ → ℕ → List ℕ → Option ℕ → Ending → Outside → Outside → Type 0
EndsRelay up node down instance =
    EndsUnder up (λ p. EndsUnder down (λ q. EndsBetween p node (with_instance instance q)))
