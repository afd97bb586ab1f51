use Rattle.std.proofs.Common.{◌≡◌, ap, ◌∙◌, arith}
use Rattle.std.specs.List.{list_all}
use Rattle.fec_plan.specs.Partition.{Cut}
use Rattle.stream_buffer.specs.HeldState.{HeldState}
use Rattle.stream_buffer.proofs.GoingLemmas.{all_sent_is}
use Rattle.stream_buffer.proofs.held.HeldStream.is_sent.Goals as goal

pub returns : goal.returns
returns c = λ p s index parts knows.
    let b : c.self.inside.b ≡ p.b = c.self.invariant.b ∙ ap (λ (v : HeldState). v.buffer.cut.b) c.self.view_is ∙ ap (λ (k : Cut). k.b) knows.buffer.cut in
    c.all_sent.ensures
    ∙ ap (λ (v : HeldState). list_all (λ x. x) v.sent) c.self.view_is
    ∙ all_sent_is p s index parts c.args.self.now (omega (arith, b, c.self.invariant.some)) knows
