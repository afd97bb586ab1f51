use Rattle.std.proofs.Common.{sym, ap, ◌∙◌}
use Rattle.std.specs.Prelude.{not}
use Rattle.norm_send_rules.specs.Watermarks.{has_member}
use Rattle.norm_persist.specs.declared.account.Account.{Account}
use Rattle.norm_persist.specs.Accounts.{is_silent}
use Rattle.norm_persist.proofs.Loops.{all_on, all_here, not_first, not_second, yes_both, all_end}
use Rattle.norm_persist.proofs.accounts.all_silent.Goals as goal
use Rattle.norm_persist.proofs.accounts.all_silent.Goals.{else-lists-via-then-lists+else-not-silent, else-lists-via-else-lists}

pub returns-then-not-silent : goal.returns-then-not-silent
returns-then-not-silent c = λ p s stands.
    sym (c.loop-account.invariant p s stands ∙ all_here (is_silent c.args.give_up) (λ (a : Account). has_member a.node s) c.args.accounts.now c.loop-account.account-index c.account-item.result c.account-item.result c.lists-lists.result c.is_silent-silent.result c.loop-account-test.true c.account-item.is (c.lists-lists.ensures p s stands) c.is_silent-silent.ensures (yes_both _ _ c.if-lists.true (ap not c.if-not-silent.true)))

pub loop-account-preserved : goal.loop-account-preserved
loop-account-preserved c = λ p s stands.
    c.loop-account.invariant p s stands ∙ elim c.else-lists.branch [
      | else-lists-via-then-lists+else-not-silent w ↦ all_on (is_silent c.args.give_up) (λ (a : Account). has_member a.node s) c.args.accounts.now c.loop-account.account-index c.account-item.result c.account-item.result c.lists-lists.result c.is_silent-silent.result c.loop-account-test.true c.account-item.is (c.lists-lists.ensures p s stands) c.is_silent-silent.ensures (not_second _ _ (ap not w.if-not-silent.false))
      | else-lists-via-else-lists w ↦ all_on (is_silent c.args.give_up) (λ (a : Account). has_member a.node s) c.args.accounts.now c.loop-account.account-index c.account-item.result c.account-item.result c.lists-lists.result c.is_silent-silent.result c.loop-account-test.true c.account-item.is (c.lists-lists.ensures p s stands) c.is_silent-silent.ensures (not_first _ _ w.if-lists.false)
    ]

pub returns : goal.returns
returns c = λ p s stands.
    sym (c.loop-account.invariant p s stands ∙ all_end (is_silent c.args.give_up) (λ (a : Account). has_member a.node s) c.args.accounts.now c.loop-account.account-index c.loop-account-test.false)
