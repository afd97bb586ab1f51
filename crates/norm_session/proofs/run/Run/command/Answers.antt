use Rattle.std.proofs.Common.{◌≡◌, ◌∙◌, length, ap, sym}
use Rattle.norm_script.specs.Commands.{Commands}
use Rattle.norm_session.specs.Commanding.{within_lines}
use Rattle.norm_session.specs.RunKept.{RunKept}
use Rattle.norm_session.proofs.CommandLemmas.{waits_again, none_waits, on_ok, on_fault}
use Rattle.norm_session.proofs.run.Run.command.Goals as goal

pub returns-in-Some-clause-goes : goal.returns-in-Some-clause-goes
returns-in-Some-clause-goes g c =
    let count : c.len.result ≡ length c.args.script.now.lines = c.len.ensures ∙ c.script.inside.lines.ok.0 ∙ ap (λ (v : Commands). length v.lines) c.script.view_is in
    let within = sym (c.within_lines.ensures.same ∙ ap (within_lines c.self.inside.waiting) count
    ∙ ap (λ (v : RunKept). within_lines v.waiting (length c.args.script.now.lines)) c.self.view_is) ∙ c.in-Some.is in
    on_ok c.offer_command.result (λ went x network over here. went x network over
    (waits_again x c.args.script.now.lines c.args.self.now c.in-Some.place network (g.K.Sink.pieces c.args.output.now) (ap (λ (v : Commands). v.lines) over.script) within here)) c.offer_command.ensures.goes

pub returns-in-Some-clause-stops : goal.returns-in-Some-clause-stops
returns-in-Some-clause-stops g c =
    let count : c.len.result ≡ length c.args.script.now.lines = c.len.ensures ∙ c.script.inside.lines.ok.0 ∙ ap (λ (v : Commands). length v.lines) c.script.view_is in
    let within = sym (c.within_lines.ensures.same ∙ ap (within_lines c.self.inside.waiting) count
    ∙ ap (λ (v : RunKept). within_lines v.waiting (length c.args.script.now.lines)) c.self.view_is) ∙ c.in-Some.is in
    on_fault c.offer_command.result (λ stop stopped x network over here. stopped x network over
    (waits_again x c.args.script.now.lines c.args.self.now c.in-Some.place network (g.K.Sink.pieces c.args.output.now) (ap (λ (v : Commands). v.lines) over.script) within here)) c.offer_command.ensures.stops

pub returns-in-None-clause-goes : goal.returns-in-None-clause-goes
returns-in-None-clause-goes g c =
    let count : c.len.result ≡ length c.args.script.now.lines = c.len.ensures ∙ c.script.inside.lines.ok.0 ∙ ap (λ (v : Commands). length v.lines) c.script.view_is in
    let within = sym (c.within_lines.ensures.same ∙ ap (within_lines c.self.inside.waiting) count
    ∙ ap (λ (v : RunKept). within_lines v.waiting (length c.args.script.now.lines)) c.self.view_is) ∙ c.in-None.is in
    on_ok c.next_command.result (λ went x network over here. went x network over
    (none_waits x c.args.script.now.lines c.args.self.now network (g.K.Sink.pieces c.args.output.now) (ap (λ (v : Commands). v.lines) over.script) within here)) c.next_command.ensures.goes

pub returns-in-None-clause-stops : goal.returns-in-None-clause-stops
returns-in-None-clause-stops g c =
    let count : c.len.result ≡ length c.args.script.now.lines = c.len.ensures ∙ c.script.inside.lines.ok.0 ∙ ap (λ (v : Commands). length v.lines) c.script.view_is in
    let within = sym (c.within_lines.ensures.same ∙ ap (within_lines c.self.inside.waiting) count
    ∙ ap (λ (v : RunKept). within_lines v.waiting (length c.args.script.now.lines)) c.self.view_is) ∙ c.in-None.is in
    on_fault c.next_command.result (λ stop stopped x network over here. stopped x network over
    (none_waits x c.args.script.now.lines c.args.self.now network (g.K.Sink.pieces c.args.output.now) (ap (λ (v : Commands). v.lines) over.script) within here)) c.next_command.ensures.stops
