use Rattle.norm_turns.proofs.FaultLemmas.{on_err}
use Rattle.norm_node.proofs.hub.HubRun.turn.Goals as goal

pub returns-clause-stops : goal.returns-clause-stops
returns-clause-stops g c =
    on_err _ _ c.pass_all.result
    (λ e h p o here. h p o c.begin_turn.new.self (g.C.Clock.moments c.begin_turn.new.clock) (c.begin_turn.ensures.goes p o (g.F.Fabric.told c.args.fabric.now) here))
    c.pass_all.ensures.stops
