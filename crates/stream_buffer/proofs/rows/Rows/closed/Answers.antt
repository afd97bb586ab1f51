use Rattle.std.proofs.Common.{ap, arith, length}
use Rattle.stream_buffer.specs.RowsState.{RowsState}
use Rattle.stream_buffer.proofs.RowsLemmas.{many}
use Rattle.stream_buffer.proofs.rows.Rows.closed.Goals as goal

pub returns : goal.returns
returns c =
    omega (arith, ap (λ (v : RowsState). v.first) c.self.view_is, ap (λ (v : RowsState). length v.rows) c.self.view_is, many c.self.inside, c.self.invariant.from)
