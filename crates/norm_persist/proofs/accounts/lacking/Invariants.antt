use Rattle.std.specs.Prelude.{◌≡◌, take, filter}
use Rattle.norm_persist.specs.Accounts.{lacks}
use Rattle.norm_persist.proofs.accounts.lacking.Given as goal

abbrev pub invariant-loop-account : goal.invariant-loop-account
invariant-loop-account l = l.found.items ≡ filter (lacks l.last) (take l.account-index l.accounts)
