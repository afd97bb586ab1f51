use Rattle.mark_book.proofs.Lists.{written_more}
use Rattle.norm_persist.specs.Accounts.{risen}
use Rattle.norm_persist.proofs.accounts.rise_all.Goals as goal

pub loop-account-preserved : goal.loop-account-preserved
loop-account-preserved c =
    written_more (risen c.args.node c.args.at) _ _ _ _ _ c.risen.ensures c.loop-account-test.true c.loop-account.invariant c.account-item.is
