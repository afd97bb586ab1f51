use Rattle.std.proofs.Common.{◌≡◌, map, take, drop, ◌++◌}
use Rattle.norm_persist.specs.Accounts.{passed_by}
use Rattle.norm_persist.proofs.accounts.pass_all.Given as goal

abbrev pub invariant-loop-account : goal.invariant-loop-account
invariant-loop-account l = l.accounts ≡ map (passed_by l.left) (take l.account-index l.initial.accounts) ++ drop l.account-index l.initial.accounts
