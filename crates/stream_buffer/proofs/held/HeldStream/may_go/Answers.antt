use Rattle.std.proofs.Common.{◌≡◌, ap, sym, ◌∙◌, arith}
use Rattle.fec_plan.specs.Partition.{Cut}
use Rattle.stream_buffer.specs.HeldState.{HeldState}
use Rattle.stream_buffer.proofs.GrowingLemmas.{gone_sent}
use Rattle.stream_buffer.proofs.held.HeldStream.may_go.Goals as goal

pub returns-clause-sent : goal.returns-clause-sent
returns-clause-sent c = λ s parts knows past.
    let b : c.self.inside.b ≡ c.args.profile.now.b = c.self.invariant.b ∙ ap (λ (v : HeldState). v.buffer.cut.b) c.self.view_is ∙ ap (λ (k : Cut). k.b) knows.buffer.cut in
    gone_sent c.args.profile.now s c.args.index parts c.args.self.now c.args.least (omega (arith, b, c.self.invariant.some)) knows
    (sym (c.front_may_go.ensures.exact s parts knows past) ∙ c.if-not-front_may_go.false)
