use Rattle.std.proofs.Common.{sym, ap, ◌∙◌}
use Rattle.std.specs.Prelude.{◌&&◌, ◌==◌, length}
use Rattle.norm_send_rules.specs.Ticking.{is_idle}
use Rattle.norm_send_rules.specs.Watermarks.{open_watermarks}
use Rattle.norm_persist.proofs.Deciding.{not_stopped, not_idle}
use Rattle.norm_persist.proofs.accounts.calls_for_mark.Goals as goal

pub returns-then-not-stopped : goal.returns-then-not-stopped
returns-then-not-stopped c = λ p s stands idle last. not_stopped c.args.stopped _ c.if-not-stopped.true

pub returns-then-not-idle : goal.returns-then-not-idle
returns-then-not-idle c = λ p s stands idle last. not_idle c.args.stopped (is_idle p s) _ _ (sym idle ∙ c.if-not-idle.true)

pub returns : goal.returns
returns c = λ p s stands idle last.
    c.all_four.ensures
    ∙ ap (λ i. c.args.stopped && (i && c.open-none.result == 0 && c.one_lacks-lacks.result)) idle
    ∙ ap (λ n. c.args.stopped && (is_idle p s && n == 0 && c.one_lacks-lacks.result)) (c.open-none.ensures p s stands)
    ∙ ap (λ b. c.args.stopped && (is_idle p s && length (open_watermarks s) == 0 && b)) (c.one_lacks-lacks.ensures p s stands last)
