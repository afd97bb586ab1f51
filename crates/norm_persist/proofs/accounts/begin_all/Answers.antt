use Rattle.mark_book.proofs.Lists.{written_more}
use Rattle.norm_persist.specs.Accounts.{begun_anew}
use Rattle.norm_persist.proofs.accounts.begin_all.Goals as goal

pub loop-account-preserved : goal.loop-account-preserved
loop-account-preserved c =
    written_more begun_anew _ _ _ _ _ c.begun_anew.ensures c.loop-account-test.true c.loop-account.invariant c.account-item.is
