use Rattle.mark_book.proofs.Lists.{written_more}
use Rattle.norm_persist.specs.Accounts.{excused_by}
use Rattle.norm_persist.proofs.accounts.excuse_all.Goals as goal

pub loop-account-preserved : goal.loop-account-preserved
loop-account-preserved c =
    written_more (excused_by c.args.node) _ _ _ _ _ c.excused_by.ensures c.loop-account-test.true c.loop-account.invariant c.account-item.is
