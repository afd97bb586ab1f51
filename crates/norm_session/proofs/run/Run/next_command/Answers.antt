use Rattle.std.proofs.Common.{◌∙◌, sym}
use Rattle.norm_session.proofs.CommandLemmas.{next_pulled, none_left, on_ok, on_fault}
use Rattle.norm_session.proofs.run.Run.next_command.Goals as goal

pub offer_command-requires : goal.offer_command-requires
offer_command-requires g c = c.in_ok-place.ensures.place

pub returns-then-has_pulled_all-clause-goes : goal.returns-then-has_pulled_all-clause-goes
returns-then-has_pulled_all-clause-goes g c x network over here =
    none_left x c.args.script.now.lines c.args.self.now network (g.K.Sink.pieces c.args.output.now) (sym c.has_pulled_all.ensures ∙ c.if-has_pulled_all.true) here

pub returns-clause-goes : goal.returns-clause-goes
returns-clause-goes g c =
    on_ok c.offer_command.result (λ went x network over here.
    went x network over
    (c.in_ok-place.ensures.goes x network (g.K.Sink.pieces c.args.output.now) over.script
    (next_pulled x c.args.script.now.lines c.args.self.now network (g.K.Sink.pieces c.args.output.now)
    (sym c.has_pulled_all.ensures ∙ c.if-has_pulled_all.false) here))) c.offer_command.ensures.goes

pub returns-clause-stops : goal.returns-clause-stops
returns-clause-stops g c =
    on_fault c.offer_command.result (λ stop stopped x network over here.
    stopped x network over
    (c.in_ok-place.ensures.goes x network (g.K.Sink.pieces c.args.output.now) over.script
    (next_pulled x c.args.script.now.lines c.args.self.now network (g.K.Sink.pieces c.args.output.now)
    (sym c.has_pulled_all.ensures ∙ c.if-has_pulled_all.false) here))) c.offer_command.ensures.stops
