use Rattle.std.proofs.Common.{◌+◌, ◌-◌, ◌∙◌, ap, sym, arith, [], ◌∷◌, length}
use Rattle.norm_order.specs.Entries.{Write}
use Rattle.stream_buffer.specs.StreamState.{StreamState}
use Rattle.stream_buffer.specs.StreamSound.{stream_view}
use Rattle.stream_buffer.proofs.FaultLemmas.{least_is, some_e, used_of}
use Rattle.stream_buffer.proofs.StandingLemmas.{used_written}
use Rattle.stream_buffer.proofs.stream.StreamBuf.least_for.Goals as goal

pub returns : goal.returns
returns c = λ p parts by st unended free.
    let s = c.args.self.now in
    let used = used_of (stream_view c.self.inside) s (length c.args.bytes.now) c.closed.result c.filled.result c.div_ceil-segments.result c.from.result c.self.inside.rows.first
    c.self.view_is c.closed.ensures c.self.invariant.first c.filled.ensures c.from.ensures c.div_ceil-segments.ensures in
    least_is p parts (Write by c.args.bytes.now ∷ []) s (c.closed.result + c.div_ceil-segments.result) c.least.result st
    (used_written p parts by c.args.bytes.now s st (some_e p parts s st (omega (arith, c.self.invariant.least_e, ap (λ (v : StreamState). v.cut.e) c.self.view_is))) unended ∙ sym used)
    free c.least.ensures
