use Rattle.std.proofs.Common.{◌≡◌, List, sym, ap, subst, ◌∙◌}
use Rattle.norm_persist.specs.declared.account.Account.{Account}
use Rattle.norm_persist.specs.Persisting.{own_job, struck_unless, marked_if}
use Rattle.norm_persist.proofs.Deciding.{with_first, without_first}
use Rattle.norm_persist.proofs.accounts.Accounts.own_job.Goals as goal

pub returns-in-Some : goal.returns-in-Some
returns-in-Some c = λ p s stands idle last.
    subst (λ (accounts : List Account). c.struck_unless.result ≡ own_job p s c.args.give_up c.args.stopped accounts) c.all-accounts.ensures
    (c.struck_unless.ensures ∙ ap (λ all. struck_unless all c.in-Some.node) (c.all_silent-all.ensures p s stands)
    ∙ with_first _ _ _ c.in-Some.node (sym c.in-Some.is ∙ c.first_silent.ensures p s stands))

pub returns-in-None : goal.returns-in-None
returns-in-None c = λ p s stands idle last.
    subst (λ (accounts : List Account). c.marked_if.result ≡ own_job p s c.args.give_up c.args.stopped accounts) c.all-accounts.ensures
    (c.marked_if.ensures ∙ ap marked_if (c.calls_for_mark-called.ensures p s stands idle last)
    ∙ without_first _ _ _ (sym c.in-None.is ∙ c.first_silent.ensures p s stands))
