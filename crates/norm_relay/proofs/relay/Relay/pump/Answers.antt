use Rattle.std.proofs.Common.{◌≡◌}
use Rattle.norm_relay.specs.RelayMoves.{counted}
use Rattle.norm_relay.specs.RelayStep.{PumpAsked, Counted}
use Rattle.norm_relay.proofs.CallLemmas.{call_of, pump_called}
use Rattle.norm_relay.proofs.relay.Relay.pump.Goals as goal

pub returns : goal.returns
returns c =
    let i = c.self.inside in
    record {
      call =
          λ other. call_of _ c.args.self.now _ (PumpAsked c.args.now) (λ answer. answer ≡ Counted (counted c.outcome.result)) c.self.view_is
          (pump_called i.receiver i.lower c.pump-told.new.self i.waiting.items c.pump-told.new.waiting.items i.held c.pump-told.new.held c.args.now c.pump-told.result
          c.outcome.result c.outcome.ensures c.pump-told.ensures.pumps other);
    }
