use Rattle.std.proofs.Common.{◌≡◌, map, take, drop, ◌++◌}
use Rattle.norm_persist.specs.Accounts.{excused_by}
use Rattle.norm_persist.proofs.accounts.excuse_all.Given as goal

abbrev pub invariant-loop-account : goal.invariant-loop-account
invariant-loop-account l = l.accounts ≡ map (excused_by l.node) (take l.account-index l.initial.accounts) ++ drop l.account-index l.initial.accounts
