use Rattle.std.proofs.Common.{sym, ap, ◌∙◌}
use Rattle.norm_send_rules.specs.Watermarks.{has_member}
use Rattle.norm_persist.specs.declared.account.Account.{Account}
use Rattle.norm_persist.specs.Accounts.{lacks, last_position}
use Rattle.norm_persist.proofs.Loops.{any_on, any_here, not_first, not_second, yes_both}
use Rattle.norm_persist.proofs.accounts.one_lacks.Goals as goal
use Rattle.norm_persist.proofs.accounts.one_lacks.Goals.{else-lists-via-then-lists+else-lacks, else-lists-via-else-lists}

pub returns-then-lacks : goal.returns-then-lacks
returns-then-lacks c = λ p s stands same.
    sym (c.loop-account.invariant p s stands same ∙ any_here (lacks (last_position p s)) (λ (a : Account). has_member a.node s) c.args.accounts.now c.loop-account.account-index c.account-item.result c.account-item.result c.lists-lists.result c.lacks-lacks.result c.loop-account-test.true c.account-item.is (c.lists-lists.ensures p s stands) (c.lacks-lacks.ensures ∙ ap (λ o. lacks o c.account-item.result) same) (yes_both _ _ c.if-lists.true c.if-lacks.true))

pub loop-account-preserved : goal.loop-account-preserved
loop-account-preserved c = λ p s stands same.
    c.loop-account.invariant p s stands same ∙ elim c.else-lists.branch [
      | else-lists-via-then-lists+else-lacks w ↦ any_on (lacks (last_position p s)) (λ (a : Account). has_member a.node s) c.args.accounts.now c.loop-account.account-index c.account-item.result c.account-item.result c.lists-lists.result c.lacks-lacks.result c.loop-account-test.true c.account-item.is (c.lists-lists.ensures p s stands) (c.lacks-lacks.ensures ∙ ap (λ o. lacks o c.account-item.result) same) (not_second _ _ w.if-lacks.false)
      | else-lists-via-else-lists w ↦ any_on (lacks (last_position p s)) (λ (a : Account). has_member a.node s) c.args.accounts.now c.loop-account.account-index c.account-item.result c.account-item.result c.lists-lists.result c.lacks-lacks.result c.loop-account-test.true c.account-item.is (c.lists-lists.ensures p s stands) (c.lacks-lacks.ensures ∙ ap (λ o. lacks o c.account-item.result) same) (not_first _ _ w.if-lists.false)
    ]
