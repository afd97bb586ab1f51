use Rattle.std.proofs.Common.{◌≡◌, ◌+◌, ◌∙◌, ap, sym, subst, arith, length}
use Rattle.std.specs.Prelude.{min}
use Rattle.fec_plan.specs.Partition.{Cut}
use Rattle.stream_buffer.specs.StreamState.{StreamState, StandsFor, closed_segments}
use Rattle.stream_buffer.specs.StreamSound.{stream_view}
use Rattle.stream_buffer.proofs.StandingLemmas.{closed_cut}
use Rattle.stream_buffer.proofs.stream.StreamBuf.segments_cut.Goals as goal

pub returns-clause-exact : goal.returns-clause-exact
returns-clause-exact c = λ p parts st.
    let s : StreamState = stream_view c.self.inside in
    let here : StandsFor p parts s = subst (StandsFor p parts) (sym c.self.view_is) st in
    let e-is = ap (λ (k : Cut). k.e) here.cut in
    (let many : c.closed.result + c.min-filling.result ≡ closed_segments s + min 1 (length s.filling) =
    omega (arith, c.closed.ensures, c.filled.ensures, c.min-filling.ensures, c.self.invariant.first) in many)
    ∙ closed_cut p parts s here (omega (arith, e-is, c.self.invariant.least_e)) (omega (arith, e-is, c.self.invariant.short)) c.self.invariant.ended
