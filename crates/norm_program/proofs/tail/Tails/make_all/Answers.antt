use Rattle.std.proofs.Common.{◌∙◌, ◌<◌, ◌≤◌, ◌-◌, ap, sym, subst, refl, rules}
use Rattle.std.proofs.lemmas.Result.{err_from_is_err_and}
use Rattle.norm_sender.specs.SenderKept.{SenderKept, Stands}
use Rattle.norm_turns.specs.Causes.{Counted, counted}
use Rattle.norm_turns.proofs.FaultLemmas.{at_fault}
use Rattle.norm_program.specs.TailEnds.{tails_of}
use Rattle.norm_program.proofs.TailLemmas.{going_begins, going_ends, going_past, going_refused, going_on_more, going_breaks}
use Rattle.norm_program.proofs.tail.Tails.make_all.Goals as goal

pub loop-init : goal.loop-init
loop-init g c = record {
  may = c.requires;
  going = λ t u here.
      going_begins c.args.profile.now c.open_requests-end.result c.args.self.now t u (g.K.Sink.pieces c.args.output.now)
      (c.open_requests-end.ensures t.world.sender (subst (λ (k : SenderKept). Stands k t.world.sender) (sym c.sender.ensures) here.stands.sender)) here;
  writes = refl;
}

-- no watermark is open any more
pub returns-then-not-has_open-clause-leads : goal.returns-then-not-has_open-clause-leads
returns-then-not-has_open-clause-leads g c t u here =
    going_ends c.args.profile.now c.args.turn (c.open_requests-end.result - c.loop.counter) (tails_of c.args.profile.now t) c.loop.self u (g.K.Sink.pieces c.loop.output)
    (λ v st. sym c.if-not-has_open.true ∙ c.has_open.ensures v st) (c.loop.invariant.going t u here)

pub returns-in_err-why-clause-stops : goal.returns-in_err-why-clause-stops
returns-in_err-why-clause-stops g c =
    let exit = err_from_is_err_and c.from_residual.result c.from_residual.ensures.1 in
    let lt : c.loop.counter < c.open_requests-end.result = search rules in
    at_fault _ c.from_residual.result exit.0 c.in_err-why.field-0.0 exit.1 exit.2
    (λ t u here.
    going_breaks c.in_err-why.field-0.0 c.args.profile.now c.args.turn c.open_requests-end.result c.loop.counter (tails_of c.args.profile.now t) c.loop.self u
    (g.K.Sink.pieces c.loop.output) (g.K.Sink.pieces c.make.new.output) lt (λ v st. sym c.if-not-has_open.false ∙ c.has_open.ensures v st)
    (λ r x at. c.in_err-why.ensures.stops r x at) (c.loop.invariant.going t u here))

pub returns-in-Some-clause-leads : goal.returns-in-Some-clause-leads
returns-in-Some-clause-leads g c t u here =
    let lt : c.loop.counter < c.open_requests-end.result = search rules in
    going_refused c.args.profile.now c.args.turn c.open_requests-end.result c.loop.counter (tails_of c.args.profile.now t) c.loop.self c.make.new.self u
    (g.K.Sink.pieces c.loop.output) (g.K.Sink.pieces c.make.new.output) c.in-Some.why lt (λ v st. sym c.if-not-has_open.false ∙ c.has_open.ensures v st)
    (λ r x at. ((c.in_ok-why.ensures.leads r x at).0, sym c.in-Some.is ∙ (c.in_ok-why.ensures.leads r x at).1)) (c.loop.invariant.going t u here)

pub returns-in-Some-clause-cause : goal.returns-in-Some-clause-cause
returns-in-Some-clause-cause g c network files =
    c.in_ok-why.ensures.cause network files ∙ ap (λ n. counted n network files) c.loop.invariant.writes

pub loop-preserved : goal.loop-preserved
loop-preserved g c =
    let lt : c.loop.counter < c.open_requests-end.result = search rules in
    record {
      may = c.in_ok-why.ensures.may;
      going = λ t u here.
          going_on_more c.args.profile.now c.args.turn c.open_requests-end.result c.loop.counter (tails_of c.args.profile.now t) c.loop.self c.make.new.self u
          (g.K.Sink.pieces c.loop.output) (g.K.Sink.pieces c.make.new.output) lt (λ v st. sym c.if-not-has_open.false ∙ c.has_open.ensures v st)
          (λ r x at. ((c.in_ok-why.ensures.leads r x at).0, sym c.in_default.is ∙ (c.in_ok-why.ensures.leads r x at).1)) (c.loop.invariant.going t u here);
      writes = ap (λ (k : Counted). k.output) (c.in_ok-why.ensures.cause 0 0) ∙ c.loop.invariant.writes;
    }

pub returns-clause-leads : goal.returns-clause-leads
returns-clause-leads g c t u here =
    let past : c.open_requests-end.result ≤ c.loop.counter = search rules in
    going_past c.args.profile.now c.args.turn c.open_requests-end.result c.loop.counter (tails_of c.args.profile.now t) c.loop.self u (g.K.Sink.pieces c.loop.output)
    past (c.loop.invariant.going t u here)
