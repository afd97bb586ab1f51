use Rattle.std.proofs.Common.{ap, sym, subst, arith}
use Rattle.stream_buffer.specs.StreamState.{StandsFor, with_cut}
use Rattle.stream_buffer.specs.HeldState.{HeldState}
use Rattle.stream_buffer.proofs.held.HeldStream.last_cut.Goals as goal

pub last_of-requires : goal.last_of-requires
last_of-requires c = omega (arith, c.segments_cut.ensures.few, ap (λ (v : HeldState). v.buffer.cut.b) c.self.view_is)

pub returns : goal.returns
returns c = λ p parts st.
    let here : StandsFor p parts c.self.inside.buffer = subst (λ (v : HeldState). StandsFor p parts v.buffer) (sym c.self.view_is) st in
    c.last_of.ensures p parts (with_cut p.e parts) st (c.segments_cut.ensures.exact p parts here)
