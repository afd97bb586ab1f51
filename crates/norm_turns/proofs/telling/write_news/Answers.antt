use Rattle.std.proofs.Common.{◌≡◌, ◌∙◌, ap, subst}
use Rattle.std.specs.Option.{option_to_list}
use Rattle.norm_base.specs.Told.{gained}
use Rattle.norm_journal.specs.Lines.{news_line}
use Rattle.norm_turns.specs.Printing.{IsUnwritten}
use Rattle.norm_turns.specs.Telling.{left_by}
use Rattle.norm_turns.proofs.FaultLemmas.{on_ok, on_err}
use Rattle.norm_turns.proofs.telling.write_news.Goals as goal

pub returns-clause-written : goal.returns-clause-written
returns-clause-written g c =
    let n = c.args.news.now in
    let i = c.instance-instance.result in
    on_ok c.write_line.result
    (λ out s st.
    let line = c.in_ok-has.ensures ∙ ap (λ ms. news_line i ms n) c.deref.ensures.value ∙ ap (λ ms. news_line i ms n) (c.in_ok-left.ensures s st)
    ∙ ap (λ j. news_line j (left_by s n) n) (c.instance-instance.ensures s st) in
    out ∙ ap (λ l. gained (g.K.Sink.pieces c.args.output.now) (option_to_list l)) line)
    c.write_line.ensures.written

pub returns-clause-stops : goal.returns-clause-stops
returns-clause-stops g c =
    let n = c.args.news.now in
    let i = c.instance-instance.result in
    on_err _ _ c.write_line.result
    (λ failed un s st.
    let line = c.in_ok-has.ensures ∙ ap (λ ms. news_line i ms n) c.deref.ensures.value ∙ ap (λ ms. news_line i ms n) (c.in_ok-left.ensures s st)
    ∙ ap (λ j. news_line j (left_by s n) n) (c.instance-instance.ensures s st) in
    subst (λ l. IsUnwritten failed (g.K.Sink.pieces c.args.output.now) (g.K.Sink.pieces c.write_line.new.output) l) line un)
    c.write_line.ensures.stops
