use Rattle.std.proofs.Common.{◌≡◌, ◌+◌, ◌-◌, ◌*◌, ◌<◌, ◌≤◌, refl, ap, sym, subst, ◌∙◌, arith, ℕ, Bool, true, false}
use Rattle.std.proofs.lemmas.Bool.{leb-true, leb-false}
use Rattle.std.proofs.lemmas.List.Sums.{prefix_len-le-length}
use Rattle.norm_base.specs.Settings.{Settings}
use Rattle.norm_base.specs.declared.kinds.Mode.TheVariants as mode
use Rattle.fec_plan.specs.Partition.{Cut}
use Rattle.fec_plan.specs.Points.{position, reached_by}
use Rattle.stream_buffer.specs.StreamState.{closed_segments}
use Rattle.stream_buffer.specs.HeldState.{HeldState, Knows, run_of}
use Rattle.stream_buffer.specs.HeldSound.{held_view}
use Rattle.stream_buffer.proofs.GoingLemmas.{front, front_count, front_released, front_unsent, front_closed, released, block_below}
use Rattle.stream_buffer.proofs.held.HeldStream.front_may_go.Goals as goal

pub returns-then-not-are_sent-clause-exact : goal.returns-then-not-are_sent-clause-exact
returns-then-not-are_sent-clause-exact c = λ s parts knows past.
    let p : Settings = c.args.profile.now in
    let h : HeldState = held_view c.self.inside in
    let here : Knows p c.args.index parts s.sent h = subst (Knows p c.args.index parts s.sent) (sym c.self.view_is) knows in
    let b : c.self.inside.b ≡ p.b = c.self.invariant.b ∙ ap (λ (k : Cut). k.b) here.buffer.cut in
    let more : h.buffer.first < c.args.to = subst (λ (v : HeldState). v.buffer.first < c.args.to) (sym c.self.view_is) c.requires in
    let count : (c.args.to - c.first_block.result) * c.from.result ≡ (c.args.to - h.buffer.first) * h.buffer.cut.b =
    front_count h.buffer c.args.to c.first_block.result c.from.result c.first_block.ensures (c.from.ensures ∙ c.self.invariant.b) in
    let by : (c.args.to - h.buffer.first) * h.buffer.cut.b ≡ (c.args.to - h.buffer.first) * p.b = ap (λ (k : Cut). (c.args.to - h.buffer.first) * k.b) here.buffer.cut in
    let short : run_of h.sent < (c.args.to - c.first_block.result) * c.from.result = leb-false _ _ (sym c.are_sent.ensures ∙ c.if-not-are_sent.true) in
    sym (subst (λ (v : HeldState). front p s c.args.index parts v c.args.to ≡ false) c.self.view_is
    (front_unsent p s c.args.index parts h c.args.to (omega (arith, b, c.self.invariant.some)) here more (omega (arith, short, count, by))))

pub invariant_of-last : goal.invariant_of-last
invariant_of-last c =
    let h : HeldState = held_view c.self.inside in
    let more : h.buffer.first < c.args.to = subst (λ (v : HeldState). v.buffer.first < c.args.to) (sym c.self.view_is) c.requires in
    let b : ℕ = h.buffer.cut.b in
    let count : (c.args.to - c.first_block.result) * c.from.result ≡ (c.args.to - h.buffer.first) * b =
    front_count h.buffer c.args.to c.first_block.result c.from.result c.first_block.ensures (c.from.ensures ∙ c.self.invariant.b) in
    let sent : (c.args.to - c.first_block.result) * c.from.result ≤ run_of h.sent = leb-true _ _ (sym c.are_sent.ensures ∙ c.if-not-are_sent.false) in
    let closed : c.args.to * b ≤ closed_segments h.buffer =
    front_closed h c.args.to (run_of h.sent) (omega (arith, sent, count)) (omega (arith, prefix_len-le-length (λ b. b) h.sent, c.self.invariant.marks)) more in
    let next : c.args.to ≡ c.args.to - 1 + 1 = omega (arith, more) in
    let same : c.args.to * b ≡ (c.args.to - 1 + 1) * b = ap (λ k. k * b) next in
    let whole : (c.args.to - 1 + 1) * b ≡ (c.args.to - 1) * b + b = omega arith in
    block_below (c.args.to - 1) b c.segments-closed.result b (omega (arith, closed, same, whole, c.segments-closed.ensures.exact)) c.segments-closed.ensures.few refl
    (omega (arith, c.self.invariant.b, c.self.invariant.some))

pub returns-clause-exact : goal.returns-clause-exact
returns-clause-exact c = λ s parts knows past.
    let p : Settings = c.args.profile.now in
    let h : HeldState = held_view c.self.inside in
    let here : Knows p c.args.index parts s.sent h = subst (Knows p c.args.index parts s.sent) (sym c.self.view_is) knows in
    let b : c.self.inside.b ≡ p.b = c.self.invariant.b ∙ ap (λ (k : Cut). k.b) here.buffer.cut in
    let more : h.buffer.first < c.args.to = subst (λ (v : HeldState). v.buffer.first < c.args.to) (sym c.self.view_is) c.requires in
    let count : (c.args.to - c.first_block.result) * c.from.result ≡ (c.args.to - h.buffer.first) * h.buffer.cut.b =
    front_count h.buffer c.args.to c.first_block.result c.from.result c.first_block.ensures (c.from.ensures ∙ c.self.invariant.b) in
    let by : (c.args.to - h.buffer.first) * h.buffer.cut.b ≡ (c.args.to - h.buffer.first) * p.b = ap (λ (k : Cut). (c.args.to - h.buffer.first) * k.b) here.buffer.cut in
    let sent : (c.args.to - c.first_block.result) * c.from.result ≤ run_of h.sent = leb-true _ _ (sym c.are_sent.ensures ∙ c.if-not-are_sent.false) in
    c.is_released.ensures
    ∙ ap (λ n. elim p.mode as (λ v. Bool) [ mode.Hold ↦ reached_by c.args.past.now (position c.args.index (c.args.to - 1) (n - 1)) | mode.Drop ↦ true ]) b
    ∙ sym (released p s c.args.past.now (position c.args.index (c.args.to - 1) (p.b - 1)) past)
    ∙ sym (front_released p s c.args.index parts h c.args.past.now c.args.to (omega (arith, b, c.self.invariant.some)) here past more (omega (arith, sent, count, by)))
    ∙ ap (λ (v : HeldState). front p s c.args.index parts v c.args.to) c.self.view_is

pub returns-clause-closed : goal.returns-clause-closed
returns-clause-closed c = λ e.
    let h : HeldState = held_view c.self.inside in
    let more : h.buffer.first < c.args.to = subst (λ (v : HeldState). v.buffer.first < c.args.to) (sym c.self.view_is) c.requires in
    let count : (c.args.to - c.first_block.result) * c.from.result ≡ (c.args.to - h.buffer.first) * h.buffer.cut.b =
    front_count h.buffer c.args.to c.first_block.result c.from.result c.first_block.ensures (c.from.ensures ∙ c.self.invariant.b) in
    let sent : (c.args.to - c.first_block.result) * c.from.result ≤ run_of h.sent = leb-true _ _ (sym c.are_sent.ensures ∙ c.if-not-are_sent.false) in
    subst (λ (v : HeldState). c.args.to * v.buffer.cut.b ≤ closed_segments v.buffer) c.self.view_is
    (front_closed h c.args.to (run_of h.sent) (omega (arith, sent, count)) (omega (arith, prefix_len-le-length (λ b. b) h.sent, c.self.invariant.marks)) more)
