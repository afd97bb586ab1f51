use Rattle.std.proofs.Common.{subst, ◌∙◌}
use Rattle.tx_window.specs.EntryState.{StandsFor, reads_of}
use Rattle.tx_window.proofs.EntryObjects.{object_sent}
use Rattle.tx_window.proofs.entry.HeldEntry.is_sent.Goals as goal

pub returns-in-Object : goal.returns-in-Object
returns-in-Object c = λ ring p index object s is.
    c.is_sent.ensures ∙ object_sent ring p index object s c.in-Object.held (subst (StandsFor (reads_of ring p index object s)) c.in-Object.is is)
