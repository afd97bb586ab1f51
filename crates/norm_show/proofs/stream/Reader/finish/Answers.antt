use Rattle.std.proofs.lemmas.Result.{err_from_is_err_and}
use Rattle.norm_show.specs.Progress.{Progress}
use Rattle.norm_show.proofs.ShowLemmas.{shows-end, leaves-end}
use Rattle.norm_show.proofs.stream.Reader.finish.Goals as goal

pub returns-in_err-refused-clause-left : goal.returns-in_err-refused-clause-left
returns-in_err-refused-clause-left g c =
    let exit = err_from_is_err_and c.from_residual.result c.from_residual.ensures.1 in
    let p : Progress = record { rest = c.self.inside.rest.items; number = c.self.inside.number; refused = c.self.inside.is_refused } in
    rw (exit.1, exit.2, ← c.self.view_is) (leaves-end c.in_err-refused.field-0.0 p c.deref.result.now (g.K.Sink.pieces c.args.output.now) (g.K.Sink.pieces c.show_text.new.output)
    c.deref.ensures.value c.self.invariant c.in_err-refused.ensures.left)

pub returns-clause-shown : goal.returns-clause-shown
returns-clause-shown g c =
    let p : Progress = record { rest = c.self.inside.rest.items; number = c.self.inside.number; refused = c.self.inside.is_refused } in
    rw (← c.self.view_is) (shows-end p c.deref.result.now c.in_ok-refused.refused c.either.result
    (g.K.Sink.pieces c.args.output.now) (g.K.Sink.pieces c.show_text.new.output)
    c.deref.ensures.value c.self.invariant c.either.ensures c.in_ok-refused.ensures.shown)
