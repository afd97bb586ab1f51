use Rattle.std.proofs.Common.{◌≡◌, map, take, drop, ◌++◌}
use Rattle.norm_persist.specs.Accounts.{risen}
use Rattle.norm_persist.proofs.accounts.rise_all.Given as goal

abbrev pub invariant-loop-account : goal.invariant-loop-account
invariant-loop-account l = l.accounts ≡ map (risen l.node l.at) (take l.account-index l.initial.accounts) ++ drop l.account-index l.initial.accounts
