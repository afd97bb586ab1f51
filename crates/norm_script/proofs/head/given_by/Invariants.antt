use Rattle.std.proofs.Common.{◌≡◌, take}
use Rattle.norm_script.specs.Head.{given_by}
use Rattle.norm_script.proofs.head.given_by.Given as goal

-- the settings so far are given
abbrev pub invariant-loop-setting : goal.invariant-loop-setting
invariant-loop-setting l = l.given ≡ given_by (take l.setting-index l.settings)
