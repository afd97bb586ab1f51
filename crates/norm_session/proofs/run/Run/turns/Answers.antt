use Rattle.std.proofs.Common.{◌≡◌, ◌≤◌, refl, ap, ◌∙◌, subst, arith, rules}
use Rattle.std.specs.Prelude.{min}
use Rattle.std.proofs.lemmas.Result.{err_from_is_err_and}
use Rattle.norm_script.specs.Commands.{Commands}
use Rattle.norm_session.specs.Lending.{spanned}
use Rattle.norm_session.specs.Turning.{TakesTurn, StopsTurn}
use Rattle.norm_turns.proofs.FaultLemmas.{at_fault}
use Rattle.norm_session.proofs.TurnsLemmas.{has_not_turned, has_turned_on, turns_stop, turns_done, turns_spent}
use Rattle.norm_session.proofs.run.Run.turns.Goals as goal

pub loop-init : goal.loop-init
loop-init g c = record {
  turned = has_not_turned c.args.script.now (g.D.Files.contents c.args.lent.now.files.now) c.args.self.now
      (spanned g.K.Sink g.F.Fabric g.C.Clock c.args.lent.now c.args.lent.now c.args.board.now c.args.board.now) refl refl refl refl;
  same_parts = refl;
  within = search rules;
  same = refl;
  counts = refl;
}

pub returns-then-is_done-clause-goes : goal.returns-then-is_done-clause-goes
returns-then-is_done-clause-goes g c =
    turns_done c.args.script.now (g.D.Files.contents c.args.lent.now.files.now) c.args.until c.args.self.now c.loop.self _ c.loop.counter c.is_done.result
    c.loop.invariant.turned
    (subst (λ n. c.loop.counter ≤ n) (c.last_turn-end.ensures.value ∙ ap (λ (s : Commands). min c.args.until s.profile.turns) c.script.view_is) c.loop.invariant.within)
    c.is_done.ensures c.if-is_done.true

pub returns-in_err-turn-clause-stops : goal.returns-in_err-turn-clause-stops
returns-in_err-turn-clause-stops g c =
    let exit = err_from_is_err_and c.from_residual.result c.from_residual.ensures.1 in
    let e = c.in_err-turn.field-0.0 in
    at_fault _ c.from_residual.result exit.0 e exit.1 exit.2
    (turns_stop c.args.script.now (g.D.Files.contents c.args.lent.now.files.now) c.args.self.now c.loop.self _ _ c.loop.counter c.is_done.result e
    c.loop.invariant.turned c.is_done.ensures c.if-is_done.false refl refl refl refl
    (subst (λ f. StopsTurn c.args.script.now f c.loop.self e
    (spanned g.K.Sink g.F.Fabric g.C.Clock c.loop.lent c.turn.new.lent c.loop.board c.turn.new.board)) c.loop.invariant.same c.in_err-turn.ensures.stops))

pub loop-preserved : goal.loop-preserved
loop-preserved g c = record {
  turned = has_turned_on c.args.script.now (g.D.Files.contents c.args.lent.now.files.now) c.args.self.now c.loop.self c.turn.new.self _ _ c.loop.counter
      c.is_done.result c.loop.invariant.turned c.is_done.ensures c.if-is_done.false refl refl refl refl
      (subst (λ f. TakesTurn c.args.script.now f c.loop.self c.turn.new.self
      (spanned g.K.Sink g.F.Fabric g.C.Clock c.loop.lent c.turn.new.lent c.loop.board c.turn.new.board)) c.loop.invariant.same c.in_ok-turn.ensures.goes);
  same_parts = c.in_ok-turn.ensures.lent ∙ c.loop.invariant.same_parts;
  within = search rules;
  same = c.in_ok-turn.ensures.same ∙ c.loop.invariant.same;
  counts = c.in_ok-turn.ensures.cause ∙ c.loop.invariant.counts;
}

pub returns-clause-goes : goal.returns-clause-goes
returns-clause-goes g c =
    let past : c.last_turn-end.result ≤ c.loop.counter = search rules in
    let all : c.loop.counter ≡ c.last_turn-end.result = omega (arith, past, c.loop.invariant.within) in
    let last = c.last_turn-end.ensures.value ∙ ap (λ (s : Commands). min c.args.until s.profile.turns) c.script.view_is in
    turns_spent c.args.script.now (g.D.Files.contents c.args.lent.now.files.now) c.args.until c.args.self.now c.loop.self _ c.loop.counter c.loop.invariant.turned
    (all ∙ last) (subst (λ n. 1 ≤ n) last c.last_turn-end.ensures.least)
