use Rattle.std.proofs.Common.{ℕ, sym, subst}
use Rattle.fec_plan.specs.Points.{position}
use Rattle.norm_order.specs.Shapes.{shape_of}
use Rattle.tx_object.specs.NextIn.{IsNextIn}
use Rattle.tx_window.specs.EntryState.{StandsFor, first_of}
use Rattle.tx_window.specs.EntryAsked.{IsNext}
use Rattle.tx_window.specs.declared.entry.HeldEntry.{HeldEntry}
use Rattle.tx_window.proofs.EntryObjects.{object_next}
use Rattle.tx_window.proofs.entry.HeldEntry.first_in.Goals as goal

pub returns-in-Object-clause-next : goal.returns-in-Object-clause-next
returns-in-Object-clause-next c = λ r is auto.
    let h = c.in-Object.held in
    subst (λ (e : HeldEntry). IsNext r.p (shape_of r.p r.object) (position c.args.index (first_of e) 0) c.next_in.result) (sym c.in-Object.is)
    (object_next r h (position c.args.index 0 0) c.next_in.result (subst (StandsFor r) c.in-Object.is is)
    (subst (λ (n : ℕ). IsNextIn n h.cut (position c.args.index 0 0) c.next_in.result) (sym auto) c.next_in.ensures.next))
