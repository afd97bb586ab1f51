use Rattle.std.proofs.Common.{◌+◌, ◌*◌, ◌≤◌, subst, arith, length}
use Rattle.stream_buffer.specs.StreamState.{closed_segments}
use Rattle.stream_buffer.specs.HeldState.{HeldState}
use Rattle.stream_buffer.proofs.GoingLemmas.{first_below, room_is}
use Rattle.stream_buffer.proofs.held.HeldStream.fits.Goals as goal

pub returns-clause-room : goal.returns-clause-room
returns-clause-room c =
    subst (λ (v : HeldState). closed_segments v.buffer ≤ (v.buffer.first + v.buffer.blocks) * v.buffer.cut.b) c.self.view_is
    (let s = c.self.inside.buffer in room_is s.first s.blocks s.cut.b (length s.rows) (omega (arith, c.kept-kept.ensures.exact, c.kept-kept.ensures.few)))

pub returns-clause-few : goal.returns-clause-few
returns-clause-few c =
    subst (λ (v : HeldState). closed_segments v.buffer ≤ 16777216 * v.buffer.cut.b) c.self.view_is
    (omega (arith, c.segments-closed.ensures.exact, c.segments-closed.ensures.few))

pub returns-clause-first : goal.returns-clause-first
returns-clause-first c =
    subst (λ (v : HeldState). v.buffer.first ≤ 16777216) c.self.view_is
    (let s = c.self.inside.buffer in
    first_below s.first s.cut.b (length s.rows) (omega (arith, c.self.invariant.some, c.self.invariant.b)) (omega (arith, c.segments-closed.ensures.exact, c.segments-closed.ensures.few)))
