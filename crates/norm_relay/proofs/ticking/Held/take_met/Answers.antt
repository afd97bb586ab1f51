use Rattle.std.proofs.Common.{sym, ◌∙◌}
use Rattle.norm_send_rules.specs.Watermarks.{all_past}
use Rattle.norm_relay.proofs.UpperLemmas.{met_none, met_not, met_now}
use Rattle.norm_relay.proofs.ticking.Held.take_met.Goals as goal

pub returns-in_default-clause-met : goal.returns-in_default-clause-met
returns-in_default-clause-met c s st = met_none (all_past s) c.args.self.now.promise c.in_default.is

pub returns-then-not-is_past-clause-met : goal.returns-then-not-is_past-clause-met
returns-then-not-is_past-clause-met c s st =
    met_not (all_past s) c.args.self.now.promise c.in-Some.promise c.in-Some.is (sym (c.is_past.ensures s st) ∙ c.if-not-is_past.true)

pub returns-clause-met : goal.returns-clause-met
returns-clause-met c s st =
    met_now (all_past s) c.args.self.now.promise c.in-Some.promise c.in-Some.is (sym (c.is_past.ensures s st) ∙ c.if-not-is_past.false)
