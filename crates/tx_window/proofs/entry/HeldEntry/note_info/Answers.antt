use Rattle.std.proofs.Common.{subst}
use Rattle.tx_window.specs.EntryState.{StandsFor}
use Rattle.tx_window.proofs.EntryObjects.{info_noted}
use Rattle.tx_window.proofs.entry.HeldEntry.note_info.Goals as goal

pub returns-in-Object-clause-noted : goal.returns-in-Object-clause-noted
returns-in-Object-clause-noted c = λ r is. info_noted r c.in-Object.held c.note_info.new.self (subst (StandsFor r) c.in-Object.is is) c.note_info.ensures
