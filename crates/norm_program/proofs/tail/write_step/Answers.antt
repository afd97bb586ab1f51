use Rattle.std.proofs.Common.{◌∙◌, ap, sym, subst, [], ◌∷◌, Some}
use Rattle.std.specs.Option.{option_to_list}
use Rattle.norm_base.specs.Told.{gained}
use Rattle.norm_journal.specs.Lines.{up_line}
use Rattle.norm_turns.specs.Printing.{IsUnwritten}
use Rattle.norm_turns.proofs.FaultLemmas.{on_ok, on_err}
use Rattle.norm_program.specs.TailEnds.{step_line}
use Rattle.norm_program.proofs.tail.write_step.Goals as goal

pub returns-in-Up-clause-written : goal.returns-in-Up-clause-written
returns-in-Up-clause-written g c =
    on_ok c.write_up.result
    (λ out s st. out ∙ ap (λ i. gained (g.K.Sink.pieces c.args.output.now) (up_line c.in-Up.node i c.in-Up.up ∷ [])) (c.instance.ensures s st)
    ∙ ap (λ x. gained (g.K.Sink.pieces c.args.output.now) (option_to_list (step_line s x))) (sym c.in-Up.is))
    c.write_up.ensures.written

pub returns-in-Up-clause-stops : goal.returns-in-Up-clause-stops
returns-in-Up-clause-stops g c =
    on_err _ _ c.write_up.result
    (λ failed un s st.
    subst (λ x. IsUnwritten failed (g.K.Sink.pieces c.args.output.now) (g.K.Sink.pieces c.write_up.new.output) (step_line s x)) (sym c.in-Up.is)
    (subst (λ i. IsUnwritten failed (g.K.Sink.pieces c.args.output.now) (g.K.Sink.pieces c.write_up.new.output) (Some (up_line c.in-Up.node i c.in-Up.up)))
    (c.instance.ensures s st) un))
    c.write_up.ensures.stops
