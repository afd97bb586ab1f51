use Rattle.std.proofs.Common.{◌≡◌}
use Rattle.norm_safety.specs.Events.{Gave}
use Rattle.norm_relay.specs.RelayMoves.{struck}
use Rattle.norm_relay.specs.RelayStep.{DownStruck, Other}
use Rattle.norm_relay.proofs.CallLemmas.{call_of, strike_called}
use Rattle.norm_relay.proofs.relay.Relay.strike.Goals as goal

pub returns : goal.returns
returns c =
    let i = c.self.inside in
    record {
      call =
          λ other. call_of _ c.args.self.now _ (DownStruck c.args.node c.args.now) (λ answer. answer ≡ Other (Gave (struck c.args.node c.strike_outcome.result))) c.self.view_is
          (strike_called i.receiver i.lower c.strike-told.new.self i.waiting.items i.held c.args.node c.args.now c.strike-told.result c.strike_outcome.result
          c.strike_outcome.ensures c.strike-told.ensures.strikes other);
    }
