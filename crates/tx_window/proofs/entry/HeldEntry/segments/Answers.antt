use Rattle.std.proofs.Common.{ap, sym, subst, ◌∙◌}
use Rattle.norm_order.specs.Entries.{Object}
use Rattle.norm_order.specs.Shapes.{shape_of}
use Rattle.stream_buffer.proofs.KnowsLemmas.{counted}
use Rattle.tx_window.specs.EntryState.{StandsFor}
use Rattle.tx_window.proofs.entry.HeldEntry.segments.Goals as goal

pub returns-in-Stream : goal.returns-in-Stream
returns-in-Stream c = λ r parts is same.
    let known = subst (StandsFor r) c.in-Stream.is is in
    c.segments.ensures.exact ∙ counted r.p known.parts c.in-Stream.stream.buffer known.knows.buffer ∙ ap (λ (o : Object). (shape_of r.p o).closed) (sym known.object)
