use Rattle.std.proofs.Common.{subst, sym, refl}
use Rattle.norm_sender.specs.SenderKept.{Stands}
use Rattle.norm_session.specs.Commanding.{told_at}
use Rattle.norm_session.proofs.CommandLemmas.{gives_at, job_at_hand, on_ok, on_fault}
use Rattle.norm_session.proofs.run.Run.give_job.Goals as goal

pub returns-clause-goes : goal.returns-clause-goes
returns-clause-goes g c =
    on_ok c.note_job.result (λ noted x network due.
    noted (told_at c.args.first c.args.job) (job_at_hand _ c.args.first _ c.args.job _ c.in_ok-told.ensures c.tells.ensures) x network
    (gives_at x _ c.args.self.now c.offer_job.new.world c.args.place c.args.line.now c.args.first c.args.job (told_at c.args.first c.args.job) c.in_ok-gave.gave
    c.origin_of.result c.instance-instance.result network (g.K.Sink.pieces c.args.output.now) c.self.view_is c.origin_of.ensures refl
    c.requires.job c.in_ok-gave.ensures.profile c.in_ok-gave.ensures.gives
    (λ w st. c.instance-instance.ensures w.sender (subst (λ v. Stands v w.sender) (sym c.sender.ensures) st.sender)) due)) c.note_job.ensures.goes

pub returns-clause-stops : goal.returns-clause-stops
returns-clause-stops g c =
    on_fault c.note_job.result (λ stop stopped x network due. stopped (told_at c.args.first c.args.job) x network
    (gives_at x _ c.args.self.now c.offer_job.new.world c.args.place c.args.line.now c.args.first c.args.job (told_at c.args.first c.args.job) c.in_ok-gave.gave
    c.origin_of.result c.instance-instance.result network (g.K.Sink.pieces c.args.output.now) c.self.view_is c.origin_of.ensures refl
    c.requires.job c.in_ok-gave.ensures.profile c.in_ok-gave.ensures.gives
    (λ w st. c.instance-instance.ensures w.sender (subst (λ v. Stands v w.sender) (sym c.sender.ensures) st.sender)) due)) c.note_job.ensures.stops
