-- How the parts of a relay's run end the program.
use Rattle.std.specs.Prelude.{◌≡◌, ℕ, false, codes}
use Rattle.norm_base.specs.Faults.{one_more}
use Rattle.norm_base.specs.Settings.{Settings}
use Rattle.norm_base.specs.Told.{Pieces, gained}
use Rattle.norm_relay.specs.RelayState.{can_relay}
use Rattle.norm_relay.specs.declared.relay.RelayFault.{RelayFault}
use Rattle.norm_relay.specs.declared.relay.RelayFault.TheVariants as relay
use Rattle.norm_turns.specs.declared.fault.SessionFault.TheVariants as fault
use Rattle.relay_words.specs.declared.ends.NoEvent.{NoEvent}
use Rattle.relay_words.specs.declared.ends.Patience.{Patience}
use Rattle.relay_words.specs.declared.ends.RelayEnd.{RelayEnd}
use Rattle.relay_words.specs.declared.ends.RelayEnd.TheVariants as stop
use Rattle.driven_nodes.specs.Relayed.{Printed}
use Rattle.driven_nodes.specs.Misfits.{no_relay}
use Rattle.driven_nodes.specs.Writing.{LeavesLines}
use Rattle.norm_endings.specs.Outside.{Says, refused_line}
use Rattle.norm_endings.specs.declared.status.Ending.{Ending}
use Rattle.norm_endings.specs.declared.status.Ending.TheVariants.{Memory, Event, Command, Profile, Relayed, Write}
use Rattle.norm_endings.specs.declared.status.ProfileFault.TheVariants.{Relay}

-- how sessions that are not relayed end the program
pub record IsRefusedEnding (p : Settings) (node : ℕ) (q : Settings) (ending : Ending) (unwritten written : Pieces) (before after : ℕ) : Type 0 where
  pub is : can_relay p node q ≡ false
  pub ends : ending ≡ Profile (Relay (no_relay p node q))
  pub output : Says unwritten written before after (codes "refused profile\n")

-- the same of a relay that was not made, by why
abbrev pub IsSessionsEnding : Settings → ℕ → Settings → RelayFault → Ending → (unwritten written : Pieces) → (before after : ℕ) → Type 0
IsSessionsEnding p node q relay.Profiles ending unwritten written before after = IsRefusedEnding p node q ending unwritten written before after
IsSessionsEnding p node q _ ending unwritten written before after = (ending ≡ Memory) × (written ≡ unwritten) × (after ≡ before)

-- how a line that is no event ends the program: it is said, or there was no memory for that
abbrev pub IsEventEnding : Ending → ℕ → NoEvent → (unwritten written : Pieces) → (before after : ℕ) → Type 0
IsEventEnding (Event m reason) n why unwritten written before after = (m ≡ n) × (reason ≡ why) × Says unwritten written before after (refused_line n)
IsEventEnding Memory n why unwritten written before after = (written ≡ unwritten) × (after ≡ before)
IsEventEnding _ n why unwritten written before after = ⊥

-- what is written of the lines' end after what is printed: nothing, or a last line
abbrev pub IsSaying : RelayEnd → Patience → Ending → (unwritten written : Pieces) → (before after : ℕ) → Type 0
IsSaying (stop.All lost) patience ending unwritten written before after =
    (ending ≡ Relayed lost patience) × (written ≡ unwritten) × (after ≡ before)
IsSaying (stop.NoEvent n why) patience ending unwritten written before after = IsEventEnding ending n why unwritten written before after
IsSaying (stop.Refused fault) patience ending unwritten written before after =
    (ending ≡ Command fault) × Says unwritten written before after (codes "refused command\n")

-- how the lines end the program, of which this is printed
abbrev pub IsPrintedEnding : Ending → Patience → Printed → (unwritten written : Pieces) → (before after : ℕ) → Type 0
IsPrintedEnding (Relayed lost patience) expected printed unwritten written before after =
    (printed.end ≡ stop.All lost) × (patience ≡ expected) × (written ≡ gained unwritten printed.lines) × (after ≡ before)
IsPrintedEnding (Event n why) expected printed unwritten written before after =
    (printed.end ≡ stop.NoEvent n why) × Says (gained unwritten printed.lines) written before after (refused_line n)
IsPrintedEnding (Command fault) expected printed unwritten written before after =
    (printed.end ≡ stop.Refused fault) × Says (gained unwritten printed.lines) written before after (codes "refused command\n")
IsPrintedEnding Write expected printed unwritten written before after =
    LeavesLines fault.Write unwritten written printed.lines × (after ≡ one_more before)
IsPrintedEnding Memory expected printed unwritten written before after = LeavesLines fault.Memory unwritten written printed.lines × (after ≡ before)
IsPrintedEnding _ expected printed unwritten written before after = ⊥
