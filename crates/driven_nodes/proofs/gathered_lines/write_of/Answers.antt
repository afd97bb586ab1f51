use Rattle.std.proofs.Common.{◌≡◌, ◌∷◌, [], List, ℕ, Some, subst}
use Rattle.std.specs.Prelude.{OnOk, IfErr}
use Rattle.norm_base.specs.Told.{gained}
use Rattle.norm_turns.specs.Printing.{IsUnwritten}
use Rattle.driven_nodes.proofs.gathered_lines.write_of.Goals as goal

pub returns-clause-written : goal.returns-clause-written
returns-clause-written g c =
    subst (λ (l : List ℕ). OnOk c.write_line.result (g.K.Sink.pieces c.write_line.new.output ≡ gained (g.K.Sink.pieces c.args.output.now) (l ∷ [])))
    c.in_ok-of_line.ensures c.write_line.ensures.written

pub returns-clause-stops : goal.returns-clause-stops
returns-clause-stops g c =
    subst (λ (l : List ℕ). IfErr c.write_line.result (λ fault. IsUnwritten fault (g.K.Sink.pieces c.args.output.now) (g.K.Sink.pieces c.write_line.new.output) (Some l)))
    c.in_ok-of_line.ensures c.write_line.ensures.stops
