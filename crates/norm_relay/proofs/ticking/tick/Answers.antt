use Rattle.std.proofs.Common.{not, sym, ap, ◌∙◌}
use Rattle.norm_relay.proofs.UpperLemmas.{tick_passed, tick_held}
use Rattle.norm_relay.proofs.ticking.tick.Goals as goal

pub returns-then-is_some-clause-ticks : goal.returns-then-is_some-clause-ticks
returns-then-is_some-clause-ticks c s st =
    tick_held c.args.receiver.now c.tick-sent.new.self c.args.held.now c.keep.new.self c.args.now c.tick-sent.new.out c.tick-sent.result c.due-due.result s
    (c.due-due.ensures s st) (ap not (sym c.is_some.ensures ∙ c.if-is_some.true)) (c.tick-sent.ensures.stands s st) c.keep.ensures

pub returns-clause-ticks : goal.returns-clause-ticks
returns-clause-ticks c s st =
    tick_passed c.args.receiver.now c.tick-sent.new.self c.args.held.now c.args.now c.tick-sent.new.out c.tick-sent.result c.due-due.result s
    (c.due-due.ensures s st) (ap not (sym c.is_some.ensures ∙ c.if-is_some.false)) (c.tick-sent.ensures.stands s st)
