use Rattle.norm_relay.proofs.AskLemmas.{asks_nothing_held, asks_met, if_unmarked, if_again}
use Rattle.norm_relay.proofs.pumping.Lower.mark_for_held.Goals as goal

pub returns-in-Some-clause-asks : goal.returns-in-Some-clause-asks
returns-in-Some-clause-asks c =
    if_unmarked c.args.now c.in-Some.ack c.args.held.now c.mark_for.new.held c.args.self.now c.mark_for.new.self c.mark_for.result c.in-Some.is
    c.mark_for.ensures.marks

pub returns-in_default-promise-clause-asks : goal.returns-in_default-promise-clause-asks
returns-in_default-promise-clause-asks c = asks_nothing_held c.args.now c.args.held.now c.args.self.now c.in_default.is c.in_default-promise.is

pub returns-then-is_past-clause-asks : goal.returns-then-is_past-clause-asks
returns-then-is_past-clause-asks c =
    asks_met c.args.now c.in-Some-promise.promise c.args.held.now c.args.self.now c.is_past.result c.in_default.is c.in-Some-promise.is c.is_past.ensures
    c.if-is_past.true

pub returns-clause-asks : goal.returns-clause-asks
returns-clause-asks c =
    if_again c.args.now c.in-Some-promise.promise c.args.held.now c.mark_for-2.new.held c.args.self.now c.mark_for-2.new.self c.mark_for-2.result c.is_past.result
    c.in_default.is c.in-Some-promise.is c.is_past.ensures c.if-is_past.false c.mark_for-2.ensures.marks
