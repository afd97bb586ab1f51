use Rattle.std.proofs.Common.{ℕ, sym, subst}
use Rattle.tx_object.specs.NextIn.{IsNextIn}
use Rattle.tx_window.specs.EntryState.{StandsFor}
use Rattle.tx_window.proofs.EntryObjects.{object_next}
use Rattle.tx_window.proofs.entry.HeldEntry.next_in.Goals as goal

pub returns-in-Object-clause-next : goal.returns-in-Object-clause-next
returns-in-Object-clause-next c = λ r is auto.
    let h = c.in-Object.held in
    object_next r h c.args.at c.next_in.result (subst (StandsFor r) c.in-Object.is is)
    (subst (λ (n : ℕ). IsNextIn n h.cut c.args.at c.next_in.result) (sym auto) c.next_in.ensures.next)
