use Rattle.std.proofs.Common.{[], refl, ap, ◌∙◌}
use Rattle.norm_journal.specs.declared.event.Event.TheVariants as event
use Rattle.norm_session.specs.Noting.{kept_of, noted}
use Rattle.norm_session.proofs.SoFarLemmas.{kept_more}
use Rattle.norm_session.proofs.starting.begun_journal.Goals as goal

pub returns : goal.returns
returns c =
    c.in_ok-push_start.ensures ∙ ap (λ kept. noted kept event.Start) c.new-journal.ensures ∙ kept_more c.args.alone (kept_of c.args.alone []) [] event.Start refl
