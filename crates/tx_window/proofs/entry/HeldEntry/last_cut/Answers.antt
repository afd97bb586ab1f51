use Rattle.std.proofs.Common.{List, ap, sym, subst, ◌∙◌}
use Rattle.norm_order.specs.Entries.{Stream, Part}
use Rattle.norm_order.specs.Shapes.{shape_of, last_in}
use Rattle.stream_buffer.specs.StreamState.{with_cut}
use Rattle.tx_window.specs.EntryState.{StandsFor}
use Rattle.tx_window.proofs.EntryOthers.{same_parts}
use Rattle.tx_window.proofs.entry.HeldEntry.last_cut.Goals as goal

pub returns-in-Stream : goal.returns-in-Stream
returns-in-Stream c = λ r parts is same.
    let known = subst (StandsFor r) c.in-Stream.is is in
    c.last_cut.ensures r.p known.parts known.knows.buffer
    ∙ ap (λ (ps : List Part). last_in c.args.index (shape_of r.p (Stream (with_cut r.p.e ps)))) (same_parts known.parts parts (sym known.object ∙ same))
