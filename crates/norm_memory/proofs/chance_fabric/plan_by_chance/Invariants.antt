use Rattle.std.proofs.Common.{◌≡◌, ◌++◌, drop}
use Rattle.norm_memory.specs.Chances.{chance_plan, drawn}
use Rattle.norm_memory.specs.Fates.{AreForOthers}
use Rattle.norm_memory.proofs.chance_fabric.plan_by_chance.Given as goal

-- the plan and the words so far, and what they are for the members that are left
abbrev pub invariant-loop-to : goal.invariant-loop-to
invariant-loop-to l = record {
  whole : chance_plan l.profile l.from l.members l.initial.draws ≡ l.plan.items ++ chance_plan l.profile l.from (drop l.to-index l.members) l.draws;
  words : drawn l.from l.members l.initial.draws ≡ drawn l.from (drop l.to-index l.members) l.draws;
  others : AreForOthers l.from l.plan.items;
}
