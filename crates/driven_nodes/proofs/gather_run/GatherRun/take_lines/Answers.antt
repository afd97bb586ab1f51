use Rattle.std.proofs.Common.{◌∙◌, sym, subst, ℕ, List, Option}
use Rattle.std.specs.Prelude.{IfOk, IfErr}
use Rattle.norm_base.specs.Settings.{Settings}
use Rattle.norm_show.specs.declared.fault.NoDatagram.{NoDatagram}
use Rattle.norm_turns.specs.declared.fault.SessionFault.{SessionFault}
use Rattle.driven_nodes.specs.Gathered.{opening, gathered}
use Rattle.driven_nodes.specs.Hearing.{StandsFor}
use Rattle.driven_nodes.specs.Writing.{TookLines, LeavesLines}
use Rattle.driven_nodes.proofs.RunLemmas.{gather_goes, gather_stops, gather_ready}
use Rattle.driven_nodes.proofs.gather_run.GatherRun.take_lines.Goals as goal

pub take_lines-requires : goal.take_lines-requires
take_lines-requires g c =
    let k = c.self.inside.gathering in
    gather_ready _ k (subst (λ (list : List (Settings × ℕ)). StandsFor list k (opening list)) (sym c.deref.ensures.value) c.self.invariant)

pub returns-clause-goes : goal.returns-clause-goes
returns-clause-goes g c =
    let k = c.self.inside.gathering in
    let u = g.K.Sink.pieces c.args.output.now in
    let w = g.K.Sink.pieces c.take_lines.new.output in
    subst (λ (list : List (Settings × ℕ)). IfOk c.take_lines.result (λ (stop : Option (ℕ × NoDatagram)). TookLines (gathered list c.args.text.now) u w stop))
    (c.deref.ensures.value ∙ c.self.view_is)
    (gather_goes c.take_lines.result _ k c.args.text.now u w
    (subst (λ (list : List (Settings × ℕ)). StandsFor list k (opening list)) (sym c.deref.ensures.value) c.self.invariant) c.take_lines.ensures.goes)

pub returns-clause-stops : goal.returns-clause-stops
returns-clause-stops g c =
    let k = c.self.inside.gathering in
    let u = g.K.Sink.pieces c.args.output.now in
    let w = g.K.Sink.pieces c.take_lines.new.output in
    subst (λ (list : List (Settings × ℕ)). IfErr c.take_lines.result (λ (f : SessionFault). LeavesLines f u w (gathered list c.args.text.now).lines))
    (c.deref.ensures.value ∙ c.self.view_is)
    (gather_stops c.take_lines.result _ k c.args.text.now u w
    (subst (λ (list : List (Settings × ℕ)). StandsFor list k (opening list)) (sym c.deref.ensures.value) c.self.invariant) c.take_lines.ensures.stops)
