use Rattle.std.proofs.Common.{◌≡◌, List, get_or, subst}
use Rattle.std.specs.Prelude.{MatchBool}
use Rattle.norm_script.specs.Commands.{Commands}
use Rattle.norm_script.specs.declared.script.Line.{Line}
use Rattle.norm_session.specs.Left.{IsTaken}
use Rattle.norm_session.proofs.CommandLemmas.{pulls_read}
use Rattle.norm_session.proofs.run.Run.pull_one.Goals as goal

pub returns-clause-goes : goal.returns-clause-goes
returns-clause-goes c x network written same here =
    let taken = subst (λ b. MatchBool b (IsTaken c.deref.result.now c.self.inside.left c.take.new.self c.args.arrived.producer c.args.arrived.place)
    (c.take.new.self ≡ c.self.inside.left)) c.if-not-take.false c.take.ensures in
    let of_script = subst (λ (v : Commands). IsTaken v.lines c.self.inside.left c.take.new.self c.args.arrived.producer c.args.arrived.place) c.script.view_is
    (subst (λ (ls : List Line). IsTaken ls c.self.inside.left c.take.new.self c.args.arrived.producer c.args.arrived.place) c.deref.ensures.value taken) in
    pulls_read x c.args.script.now _ c.args.self.now c.push_pull.new.self c.take.new.self c.args.arrived.producer c.args.arrived.place c.index.result.now
    c.origin_of.result network written same c.self.view_is of_script
    (subst (λ (v : Commands). c.index.result.now ≡ get_or v.lines c.args.arrived.place c.index.result.now) c.script.view_is c.index.ensures)
    c.origin_of.ensures c.in_ok-push_pull.ensures here
