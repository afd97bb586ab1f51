use Rattle.std.proofs.Common.{ap, sym, ◌∙◌}
use Rattle.norm_cmdmsg.proofs.Listed.{found_first, found_later}
use Rattle.norm_cmdmsg.proofs.lists.names.Goals as goal

pub returns-then-number-wanted : goal.returns-then-number-wanted
returns-then-number-wanted c =
    sym (found_first c.args.node c.in-Some.number c.loop-number.number-iterator (sym c.in-Some.is ∙ c.next.ensures.steps.0) (c.if-number-wanted.true ∙ c.number-wanted.ensures.value))
    ∙ c.loop-number.invariant.2

pub loop-number-preserved : goal.loop-number-preserved
loop-number-preserved c = (
  tt,
  tt,
  found_later c.args.node c.in-Some.number c.loop-number.number-iterator c.next.new.self (sym c.in-Some.is ∙ c.next.ensures.steps.0) c.next.ensures.steps.1
      (λ same. c.if-number-wanted.false (same ∙ sym c.number-wanted.ensures.value))
      ∙ c.loop-number.invariant.2,
)
