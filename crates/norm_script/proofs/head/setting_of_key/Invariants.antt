use Rattle.std.proofs.Common.{◌≡◌, drop}
use Rattle.norm_script.specs.Head.{setting_of_key}
use Rattle.norm_script.proofs.head.setting_of_key.Given as goal

-- no setting so far is of this key
abbrev pub invariant-loop-setting : goal.invariant-loop-setting
invariant-loop-setting l = setting_of_key l.key l.settings ≡ setting_of_key l.key (drop l.setting-index l.settings)
