use Rattle.std.proofs.Common.{ap, sym, ◌∙◌, length}
use Rattle.stream_buffer.specs.RowsState.{RowsState}
use Rattle.stream_buffer.proofs.RowsLemmas.{filled_long}
use Rattle.stream_buffer.proofs.rows.Rows.filled.Goals as goal

pub returns : goal.returns
returns c = sym (filled_long c.self.inside c.self.invariant) ∙ ap (λ (v : RowsState). length v.filling) c.self.view_is
