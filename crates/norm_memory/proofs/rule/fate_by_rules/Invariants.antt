use Rattle.std.proofs.Common.{◌≡◌, drop}
use Rattle.norm_memory.specs.Rules.{fate_by_rules}
use Rattle.norm_memory.proofs.rule.fate_by_rules.Given as goal

-- no rule so far names the offer and the member
abbrev pub invariant-loop-rule : goal.invariant-loop-rule
invariant-loop-rule l = fate_by_rules l.rules l.number l.from l.to ≡ fate_by_rules (drop l.rule-index l.rules) l.number l.from l.to
