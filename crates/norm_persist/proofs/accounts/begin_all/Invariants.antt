use Rattle.std.proofs.Common.{◌≡◌, map, take, drop, ◌++◌}
use Rattle.norm_persist.specs.Accounts.{begun_anew}
use Rattle.norm_persist.proofs.accounts.begin_all.Given as goal

abbrev pub invariant-loop-account : goal.invariant-loop-account
invariant-loop-account l = l.accounts ≡ map begun_anew (take l.account-index l.initial.accounts) ++ drop l.account-index l.initial.accounts
