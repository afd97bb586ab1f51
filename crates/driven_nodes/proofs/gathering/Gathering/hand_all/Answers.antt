use Rattle.std.proofs.Common.{◌∙◌, ap, arith, refl}
use Rattle.std.proofs.lemmas.Result.{err_from_is_err_and}
use Rattle.norm_turns.specs.Causes.{Counted}
use Rattle.norm_turns.proofs.FaultLemmas.{at_fault}
use Rattle.driven_nodes.proofs.HearerLemmas.{taken_all}
use Rattle.driven_nodes.proofs.GatherLemmas.{hands_begin, hands_both, hands_break, hands_lack, hands_end, keeps_still, keeps_both, no_ups}
use Rattle.driven_nodes.proofs.gathering.Gathering.hand_all.Goals as goal

pub loop-init : goal.loop-init
loop-init g c = record {
  hands = hands_begin c.args.sender c.args.node c.args.self.now (g.K.Sink.pieces c.args.output.now);
  keeps = keeps_still c.args.sender c.args.self.now;
  there = c.requires;
  writes = refl;
}

pub returns-in_err-hand_up-clause-stops : goal.returns-in_err-hand_up-clause-stops
returns-in_err-hand_up-clause-stops g c =
    let exit = err_from_is_err_and c.from_residual.result c.from_residual.ensures.1 in
    at_fault _ c.from_residual.result exit.0 c.in_err-hand_up.field-0.0 exit.1 exit.2
    (λ h at.
    hands_break c.in_err-hand_up.field-0.0 c.args.sender c.args.node c.args.self.now c.loop.self (g.K.Sink.pieces c.args.output.now) (g.K.Sink.pieces c.loop.output)
    (g.K.Sink.pieces c.hand_up.new.output) h c.loop.invariant.hands at c.in_err-hand_up.ensures.stops)

pub loop-preserved : goal.loop-preserved
loop-preserved g c = record {
  hands = hands_both c.args.sender c.args.node c.args.self.now c.loop.self c.hand_up.new.self (g.K.Sink.pieces c.args.output.now) (g.K.Sink.pieces c.loop.output)
      (g.K.Sink.pieces c.hand_up.new.output) c.loop.invariant.hands c.in_ok-hand_up.ensures.goes;
  keeps = keeps_both c.args.sender c.args.self.now c.loop.self c.hand_up.new.self c.loop.invariant.keeps c.in_ok-hand_up.ensures.keeps;
  there = c.in_ok-hand_up.ensures.keeps.there c.loop.invariant.there;
  writes = ap (λ (k : Counted). k.output) (c.in_ok-hand_up.ensures.cause 0 0) ∙ c.loop.invariant.writes;
}

pub returns-then-ups-gt0-clause-stops : goal.returns-then-ups-gt0-clause-stops
returns-then-ups-gt0-clause-stops g c h at =
    hands_lack c.args.sender c.args.node c.args.self.now c.loop.self (g.K.Sink.pieces c.args.output.now) (g.K.Sink.pieces c.loop.output) h c.loop.invariant.hands at

pub returns-clause-goes : goal.returns-clause-goes
returns-clause-goes g c =
    hands_end c.args.sender c.args.node c.args.self.now c.loop.self (g.K.Sink.pieces c.args.output.now) (g.K.Sink.pieces c.loop.output) c.ups.result
    c.receiver-2.result.now c.loop.invariant.hands c.receiver-2.ensures c.ups.ensures.stands (omega (arith, c.if-ups-gt0.false))

pub returns-clause-taken : goal.returns-clause-taken
returns-clause-taken g c =
    taken_all _ c.receiver-2.result.now c.receiver-2.ensures (no_ups c.receiver-2.result.now c.ups.result c.ups.ensures.exact (omega (arith, c.if-ups-gt0.false)))
