use Rattle.std.proofs.Common.{◌≡◌, sym, subst, true}
use Rattle.std.specs.Prelude.{nat_lt}
use Rattle.fec_plan.specs.Points.{position, position_before}
use Rattle.norm_order.specs.Entries.{Object}
use Rattle.norm_order.specs.Sets.{with_member}
use Rattle.norm_order.specs.Shapes.{shape_of, encoded_in}
use Rattle.tx_window.specs.EntryState.{StandsFor, IsObject}
use Rattle.tx_window.specs.EntryAsked.{IsKept}
use Rattle.tx_window.specs.declared.entry.HeldEntry.{HeldEntry}
use Rattle.tx_window.proofs.EntryObjects.{object_noted}
use Rattle.tx_window.proofs.entry.HeldEntry.note_sent.Goals as goal

pub returns-in-Object-clause-noted : goal.returns-in-Object-clause-noted
returns-in-Object-clause-noted c = λ r is encoded.
    subst (IsObject (record r { sent = with_member position_before (position r.index c.args.block c.args.symbol) r.sent })) (sym c.note_sent.ensures)
    (object_noted r c.in-Object.held c.args.block c.args.symbol (subst (StandsFor r) c.in-Object.is is)
    (subst (λ (e : HeldEntry). IsKept e c.args.block) c.in-Object.is c.requires))

pub returns-in-Stream-clause-noted : goal.returns-in-Stream-clause-noted
returns-in-Stream-clause-noted c = λ r is encoded.
    let known = subst (StandsFor r) c.in-Stream.is is in
    record {
      parts = known.parts;
      object = known.object;
      knows = c.note_sent-in-Stream.ensures.knows r.p r.index known.parts r.sent known.knows
          (subst (λ (o : Object). nat_lt c.args.symbol (encoded_in (shape_of r.p o) c.args.block) ≡ true) known.object encoded);
    }
