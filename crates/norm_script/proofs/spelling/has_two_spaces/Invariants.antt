use Rattle.std.proofs.Common.{◌≡◌, false, drop}
use Rattle.norm_script.specs.Spelling.{has_two_spaces}
use Rattle.norm_script.proofs.spelling.has_two_spaces.Given as goal

-- what is left, behind what was last, decides
abbrev pub invariant-loop-octet : goal.invariant-loop-octet
invariant-loop-octet l = has_two_spaces false l.line ≡ has_two_spaces l.behind (drop l.octet-index l.line)
