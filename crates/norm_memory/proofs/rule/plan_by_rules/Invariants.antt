use Rattle.std.proofs.Common.{◌≡◌, ◌++◌, drop}
use Rattle.norm_memory.specs.Rules.{fate_by_rules}
use Rattle.norm_memory.specs.Fates.{plan_by, AreForOthers}
use Rattle.norm_memory.proofs.rule.plan_by_rules.Given as goal

-- the plan so far, and what it is of the members that are left
abbrev pub invariant-loop-to : goal.invariant-loop-to
invariant-loop-to l = record {
  whole : plan_by (fate_by_rules l.rules l.number l.from) l.from l.members ≡ l.plan.items ++ plan_by (fate_by_rules l.rules l.number l.from) l.from (drop l.to-index l.members);
  others : AreForOthers l.from l.plan.items;
}
