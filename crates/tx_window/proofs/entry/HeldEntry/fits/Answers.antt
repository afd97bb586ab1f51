use Rattle.std.proofs.Common.{◌≡◌, ◌+◌, ◌*◌, ◌≤◌, ap, sym, subst, ◌∙◌, List}
use Rattle.fec_plan.specs.Partition.{Cut}
use Rattle.norm_order.specs.Entries.{Stream, Part}
use Rattle.norm_order.specs.Shapes.{shape_of}
use Rattle.stream_buffer.specs.StreamState.{closed_segments}
use Rattle.stream_buffer.proofs.KnowsLemmas.{counted}
use Rattle.tx_window.specs.EntryState.{StandsFor, first_of}
use Rattle.tx_window.proofs.EntryOthers.{same_parts}
use Rattle.tx_window.proofs.entry.HeldEntry.fits.Goals as goal

pub returns-in-Stream-clause-segments : goal.returns-in-Stream-clause-segments
returns-in-Stream-clause-segments c = λ r parts is same.
    let known = subst (StandsFor r) c.in-Stream.is is in
    let s = c.in-Stream.stream.buffer in
    let b : s.cut.b ≡ r.p.b = ap (λ (k : Cut). k.b) known.knows.buffer.cut in
    let blocks : s.blocks ≡ r.p.blocks = known.knows.buffer.blocks in
    let many : closed_segments s ≡ (shape_of r.p (Stream parts)).closed =
    counted r.p known.parts s known.knows.buffer ∙ ap (λ (ps : List Part). (shape_of r.p (Stream ps)).closed) (same_parts known.parts parts (sym known.object ∙ same)) in
    let first : first_of c.args.self.now ≡ s.first = ap first_of c.in-Stream.is in
    let room : closed_segments s ≤ (s.first + r.p.blocks) * r.p.b =
    subst (λ k. closed_segments s ≤ (s.first + r.p.blocks) * k) b (subst (λ k. closed_segments s ≤ (s.first + k) * s.cut.b) blocks c.fits.ensures.room) in (
      subst (λ n. n ≤ (first_of c.args.self.now + r.p.blocks) * r.p.b) many (subst (λ f. closed_segments s ≤ (f + r.p.blocks) * r.p.b) (sym first) room),
      subst (λ n. n ≤ 16777216 * r.p.b) many (subst (λ k. closed_segments s ≤ 16777216 * k) b c.fits.ensures.few),
    )
