use Rattle.std.proofs.Common.{◌≡◌, ◌+◌, ◌-◌, ◌*◌, ◌≤◌, ap, sym, subst, refl, ◌∙◌, arith}
use Rattle.std.proofs.Math.Nat.{mul-le-mul_right}
use Rattle.fec_plan.specs.Partition.{Cut}
use Rattle.stream_buffer.specs.HeldState.{HeldState, Knows}
use Rattle.stream_buffer.specs.MarksState.{MarksState}
use Rattle.stream_buffer.specs.HeldSound.{held_view}
use Rattle.stream_buffer.proofs.RangeLemmas.{place_at}
use Rattle.stream_buffer.proofs.NotedLemmas.{noted_parity, noted_segment, never_open}
use Rattle.stream_buffer.proofs.held.HeldStream.note_sent.Goals as goal

pub returns-then-symbol-self-clause-knows : goal.returns-then-symbol-self-clause-knows
returns-then-symbol-self-clause-knows c = λ p index parts sent knows encoded.
    let b : c.self.inside.b ≡ p.b = c.self.invariant.b ∙ ap (λ (v : HeldState). v.buffer.cut.b) c.self.view_is ∙ ap (λ (k : Cut). k.b) knows.buffer.cut in
    noted_parity p index parts sent c.args.self.now c.args.block c.args.symbol (omega (arith, b, c.self.invariant.some)) (omega (arith, b, c.if-symbol-self.true)) knows encoded

pub returns-then-place-len-clause-knows : goal.returns-then-place-len-clause-knows
returns-then-place-len-clause-knows c = λ p index parts sent knows encoded.
    let here : Knows p index parts sent (held_view c.self.inside) = subst (Knows p index parts sent) (sym c.self.view_is) knows in
    let b : c.self.inside.b ≡ p.b = c.self.invariant.b ∙ ap (λ (k : Cut). k.b) here.buffer.cut in
    let first : c.self.inside.buffer.first ≤ c.args.block = subst (λ (v : HeldState). v.buffer.first ≤ c.args.block) (sym c.self.view_is) c.requires in
    absurd (never_open p index parts sent (held_view c.self.inside) c.args.block c.args.symbol ((c.args.block - c.first_block-first.result) * c.from.result + c.from-2.result)
    (omega (arith, b, c.if-symbol-self.false)) here encoded
    (place_at c.self.inside.buffer.first c.args.block p.b c.first_block-first.result c.from.result c.from-2.result c.args.symbol c.first_block-first.ensures (c.from.ensures ∙ b) c.from-2.ensures
    (mul-le-mul_right p.b first) first)
    (omega (arith, c.if-place-len.true, c.len.ensures, c.self.invariant.marks)))

pub returns-clause-knows : goal.returns-clause-knows
returns-clause-knows c = λ p index parts sent knows encoded.
    let here : Knows p index parts sent (held_view c.self.inside) = subst (Knows p index parts sent) (sym c.self.view_is) knows in
    let b : c.self.inside.b ≡ p.b = c.self.invariant.b ∙ ap (λ (k : Cut). k.b) here.buffer.cut in
    let first : c.self.inside.buffer.first ≤ c.args.block = subst (λ (v : HeldState). v.buffer.first ≤ c.args.block) (sym c.self.view_is) c.requires in
    noted_segment p index parts sent (held_view c.self.inside) _ c.args.block c.args.symbol ((c.args.block - c.first_block-first.result) * c.from.result + c.from-2.result)
    (omega (arith, b, c.self.invariant.some)) (omega (arith, b, c.if-symbol-self.false)) here encoded
    (place_at c.self.inside.buffer.first c.args.block p.b c.first_block-first.result c.from.result c.from-2.result c.args.symbol c.first_block-first.ensures (c.from.ensures ∙ b) c.from-2.ensures
    (mul-le-mul_right p.b first) first)
    refl (ap (λ (m : MarksState). m.sent) c.note.ensures)
