use Rattle.std.proofs.Common.{◌≡◌, take}
use Rattle.norm_script.specs.Head.{last_set}
use Rattle.norm_script.proofs.head.last_set.Given as goal

-- the last line so far
abbrev pub invariant-loop-setting : goal.invariant-loop-setting
invariant-loop-setting l = l.line ≡ last_set (take l.setting-index l.settings)
