use Rattle.std.proofs.Common.{◌∷◌, [], ◌∙◌}
use Rattle.std.proofs.lemmas.Result.{err_from_is_err_and}
use Rattle.norm_session.specs.Context.{with_moments}
use Rattle.norm_turns.proofs.FaultLemmas.{cause_exit, at_fault}
use Rattle.norm_session.proofs.run.Run.turn.Goals as goal

pub returns-in_err-open_turn-clause-stops : goal.returns-in_err-open_turn-clause-stops
returns-in_err-open_turn-clause-stops g c =
    let exit = err_from_is_err_and c.from_residual.result c.from_residual.ensures.1 in
    let s = c.in_err-open_turn.ensures.stops in
    at_fault _ c.from_residual.result exit.0 c.in_err-open_turn.field-0.0 exit.1 exit.2
    (s.0, λ x over here more. s.1 x (g.F.Fabric.told c.args.lent.now.fabric.now) over here more)

pub returns-in_err-exchange-clause-stops : goal.returns-in_err-exchange-clause-stops
returns-in_err-exchange-clause-stops g c =
    let exit = err_from_is_err_and c.from_residual-in_err-exchange.result c.from_residual-in_err-exchange.ensures.1 in
    let m = c.in_ok-open_turn.ensures.goes in
    at_fault _ c.from_residual-in_err-exchange.result exit.0 c.in_err-exchange.field-0.0 exit.1 exit.2 (
      m.0 ∷ [],
      λ x over here more.
          let o = m.1 x (g.F.Fabric.told c.args.lent.now.fabric.now) over here more in
          (o.0, c.in_err-exchange.ensures.stops (with_moments x (m.0 ∷ [])) o.1),
    )

pub returns-in_err-exchange-clause-cause : goal.returns-in_err-exchange-clause-cause
returns-in_err-exchange-clause-cause g c =
    let exit = err_from_is_err_and c.from_residual-in_err-exchange.result c.from_residual-in_err-exchange.ensures.1 in
    cause_exit _ c.from_residual-in_err-exchange.result exit.0 c.in_err-exchange.field-0.0 _ _ _ exit.1 exit.2
    (c.in_ok-open_turn.ensures.cause (g.F.Fabric.fault_count c.args.lent.now.fabric.now))
    (c.in_err-exchange.ensures.cause (g.D.Files.fault_count c.open_turn.new.files))

pub returns-clause-goes : goal.returns-clause-goes
returns-clause-goes g c =
    let m = c.in_ok-open_turn.ensures.goes in (
      m.0,
      λ x over here more.
          let o = m.1 x (g.F.Fabric.told c.args.lent.now.fabric.now) over here more in
          (o.0, c.in_ok-exchange.ensures.goes (with_moments x (m.0 ∷ [])) o.1),
    )

pub returns-clause-cause : goal.returns-clause-cause
returns-clause-cause g c =
    c.in_ok-exchange.ensures.cause (g.D.Files.fault_count c.open_turn.new.files) ∙ c.in_ok-open_turn.ensures.cause (g.F.Fabric.fault_count c.args.lent.now.fabric.now)
