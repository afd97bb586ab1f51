use Rattle.std.proofs.Common.{◌≡◌, ◌-◌, ◌*◌, ◌≤◌, ◌++◌, ap, sym, subst, ◌∙◌, arith, false, length, take}
use Rattle.std.specs.Prelude.{replicate}
use Rattle.stream_buffer.specs.StreamState.{StreamState, kept_from, closed_segments, with_cut}
use Rattle.stream_buffer.specs.HeldState.{Knows, AllSent}
use Rattle.stream_buffer.specs.HeldSound.{held_view}
use Rattle.stream_buffer.proofs.KnowsLemmas.{blocks_by, longer, goes_on}
use Rattle.stream_buffer.proofs.held.HeldStream.cut.Goals as goal

pub returns-clause-knows : goal.returns-clause-knows
returns-clause-knows c = λ p index parts sent knows.
    let s : StreamState = c.self.inside.buffer in
    let new : StreamState = c.cut.new.self in
    let here : Knows p index parts sent (held_view c.self.inside) = subst (Knows p index parts sent) (sym c.self.view_is) knows in
    let from : kept_from new ≡ s.first * s.cut.b = ap (λ (v : StreamState). kept_from v) c.cut.ensures.exact in
    let high : kept_from new ≤ closed_segments s = omega (arith, from) in
    let more = longer s new _ from (ap (λ (v : StreamState). v.rows) c.cut.ensures.exact) in
    goes_on p index parts (with_cut p.e parts) sent (held_view c.self.inside) (record { buffer = new; sent = c.follow.new.self.sent })
    (blocks_by p parts s here.buffer c.self.invariant.least_e (omega (arith, c.self.invariant.b, c.self.invariant.some)) (omega (arith, c.self.invariant.b, c.self.invariant.fits)))
    here (c.cut.ensures.cut p parts here.buffer) (subst (AllSent p index sent) (sym c.cut.ensures.first) here.gone)
    more.0 high more.1 0 (omega (arith, from))
    (c.follow.ensures.sent ∙ ap (λ m. take m c.self.inside.marks.sent ++ replicate (m - (length c.self.inside.marks.sent - 0)) false) c.kept-kept.ensures.exact)
