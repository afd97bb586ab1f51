use Rattle.mark_book.proofs.Lists.{written_more}
use Rattle.norm_persist.specs.Accounts.{passed_by}
use Rattle.norm_persist.proofs.accounts.pass_all.Goals as goal

pub loop-account-preserved : goal.loop-account-preserved
loop-account-preserved c =
    written_more (passed_by c.args.left.now) _ _ _ _ _ c.passed_by.ensures c.loop-account-test.true c.loop-account.invariant c.account-item.is
