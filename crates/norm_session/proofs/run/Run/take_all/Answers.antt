use Rattle.std.proofs.Common.{◌∙◌, ◌<◌, ap, rules}
use Rattle.std.proofs.lemmas.Result.{err_from_is_err_and}
use Rattle.norm_turns.specs.Causes.{Counted, counted}
use Rattle.norm_session.specs.Context.{with_posted}
use Rattle.norm_session.specs.SoFar.{takes_next}
use Rattle.norm_turns.proofs.FaultLemmas.{at_fault}
use Rattle.norm_session.proofs.ServingLemmas.{takes_more, took_one, cause_fault}
use Rattle.norm_session.proofs.run.Run.take_all.Goals as goal

pub returns-in_err-take-clause-stops : goal.returns-in_err-take-clause-stops
returns-in_err-take-clause-stops g c =
    let exit = err_from_is_err_and c.from_residual.result c.from_residual.ensures.1 in
    let lt : c.loop.counter < 512 = search rules in
    at_fault _ c.from_residual.result exit.0 c.in_err-take.field-0.0 exit.1 exit.2
    (λ x here.
    c.in_err-take.ensures.stops (with_posted x c.loop.board) (g.K.Sink.pieces c.loop.output) c.loop.counter
    (takes_more (with_posted x c.loop.board) c.loop.self c.loop.counter (g.F.Fabric.told c.loop.fabric) (g.K.Sink.pieces c.loop.output) lt (c.loop.invariant.takes x here)))

pub returns-then-not-branch-clause-cause : goal.returns-then-not-branch-clause-cause
returns-then-not-branch-clause-cause g c files =
    c.in_ok-take.ensures.cause (g.K.Sink.fault_count c.loop.output) files
    ∙ ap (λ n. counted n (g.F.Fabric.fault_count c.loop.fabric) files) c.loop.invariant.writes
    ∙ ap (λ n. counted (g.K.Sink.fault_count c.args.output.now) n files) c.loop.invariant.calls

pub returns-in_err-tell_all-clause-stops : goal.returns-in_err-tell_all-clause-stops
returns-in_err-tell_all-clause-stops g c =
    let exit = err_from_is_err_and c.from_residual-in_err-tell_all.result c.from_residual-in_err-tell_all.ensures.1 in
    let lt : c.loop.counter < 512 = search rules in
    at_fault _ c.from_residual-in_err-tell_all.result exit.0 c.in_err-tell_all.field-0.0 exit.1 exit.2
    (λ x here.
    c.in_err-tell_all.ensures.stops x (takes_next x c.loop.counter) (g.F.Fabric.told c.take.new.fabric)
    (took_one c.in_ok-take.field-0 (with_posted x c.loop.board) c.take.new.self c.loop.counter (g.F.Fabric.told c.take.new.fabric) (g.K.Sink.pieces c.loop.output) c.if-not-branch.false
    (c.in_ok-take.ensures.goes (with_posted x c.loop.board) (g.K.Sink.pieces c.loop.output) c.loop.counter
    (takes_more (with_posted x c.loop.board) c.loop.self c.loop.counter (g.F.Fabric.told c.loop.fabric) (g.K.Sink.pieces c.loop.output) lt (c.loop.invariant.takes x here)))))

pub returns-in_err-tell_all-clause-cause : goal.returns-in_err-tell_all-clause-cause
returns-in_err-tell_all-clause-cause g c files =
    let exit = err_from_is_err_and c.from_residual-in_err-tell_all.result c.from_residual-in_err-tell_all.ensures.1 in
    cause_fault c.from_residual-in_err-tell_all.result exit.0 c.in_err-tell_all.field-0.0 _
    (counted (g.K.Sink.fault_count c.loop.output) (g.F.Fabric.fault_count c.take.new.fabric) files) _ exit.1 exit.2
    (c.in_ok-take.ensures.cause (g.K.Sink.fault_count c.loop.output) files
    ∙ ap (λ n. counted n (g.F.Fabric.fault_count c.loop.fabric) files) c.loop.invariant.writes
    ∙ ap (λ n. counted (g.K.Sink.fault_count c.args.output.now) n files) c.loop.invariant.calls)
    (c.in_err-tell_all.ensures.cause (g.F.Fabric.fault_count c.take.new.fabric) files)

pub loop-preserved : goal.loop-preserved
loop-preserved g c =
    let lt : c.loop.counter < 512 = search rules in
    record {
      takes = λ x here.
          c.in_ok-tell_all.ensures.goes x (takes_next x c.loop.counter) (g.F.Fabric.told c.take.new.fabric)
          (took_one c.in_ok-take.field-0 (with_posted x c.loop.board) c.take.new.self c.loop.counter (g.F.Fabric.told c.take.new.fabric) (g.K.Sink.pieces c.loop.output)
          c.if-not-branch.false
          (c.in_ok-take.ensures.goes (with_posted x c.loop.board) (g.K.Sink.pieces c.loop.output) c.loop.counter
          (takes_more (with_posted x c.loop.board) c.loop.self c.loop.counter (g.F.Fabric.told c.loop.fabric) (g.K.Sink.pieces c.loop.output) lt (c.loop.invariant.takes x here))));
      writes = ap (λ (k : Counted). k.output) (c.in_ok-tell_all.ensures.cause 0 0) ∙ c.loop.invariant.writes;
      calls = ap (λ (k : Counted). k.network) (c.in_ok-take.ensures.cause 0 0) ∙ c.loop.invariant.calls;
    }
