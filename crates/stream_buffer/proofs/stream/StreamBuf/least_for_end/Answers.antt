use Rattle.std.proofs.Common.{◌+◌, ◌-◌, ◌<◌, ◌∙◌, ap, sym, arith, [], ◌∷◌, length}
use Rattle.fec_plan.specs.Partition.{Cut}
use Rattle.norm_order.specs.Entries.{End}
use Rattle.stream_buffer.specs.StreamState.{StreamState}
use Rattle.stream_buffer.specs.StreamSound.{stream_view}
use Rattle.stream_buffer.proofs.FaultLemmas.{least_is, some_e, used_end}
use Rattle.stream_buffer.proofs.StandingLemmas.{used_ended}
use Rattle.stream_buffer.proofs.stream.StreamBuf.least_for_end.Goals as goal

pub returns : goal.returns
returns c = λ p parts st unended free.
    let s = c.args.self.now in
    let used = used_end (stream_view c.self.inside) s c.closed.result c.filled.result c.min-filling.result c.self.inside.rows.first c.self.view_is c.closed.ensures c.self.invariant.first c.filled.ensures c.min-filling.ensures in
    let short : length s.filling < p.e = omega (arith, c.self.invariant.short, ap (λ (v : StreamState). length v.filling) c.self.view_is, ap (λ (v : StreamState). v.cut.e) c.self.view_is, ap (λ (k : Cut). k.e) st.cut) in
    least_is p parts (End ∷ []) s (c.closed.result + c.min-filling.result + 1) c.least.result st
    (used_ended p parts s st (some_e p parts s st (omega (arith, c.self.invariant.least_e, ap (λ (v : StreamState). v.cut.e) c.self.view_is))) unended short ∙ sym used)
    free c.least.ensures
