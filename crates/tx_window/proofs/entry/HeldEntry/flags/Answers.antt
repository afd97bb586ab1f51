use Rattle.std.proofs.Common.{ap, sym, subst, ◌∙◌, take}
use Rattle.norm_send_rules.specs.Messages.{object_flags}
use Rattle.tx_object.specs.Held.{octets_of, octets_in}
use Rattle.tx_window.specs.EntryState.{StandsFor}
use Rattle.tx_window.proofs.entry.HeldEntry.flags.Goals as goal

pub returns-in-Object : goal.returns-in-Object
returns-in-Object c = λ r is.
    let h = c.in-Object.held in
    let known = subst (StandsFor r) c.in-Object.is is in
    c.flags.ensures (take (octets_of h.cut) (octets_in r.ring h)) ∙ ap object_flags (sym known.object)
