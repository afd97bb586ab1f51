use Rattle.norm_relay.specs.RelayMoves.{IsSent}
use Rattle.norm_relay.specs.RelayStep.{DownTicked}
use Rattle.norm_relay.proofs.CallLemmas.{call_of, ticked_down}
use Rattle.norm_relay.proofs.relay.Relay.tick_down.Goals as goal

pub returns : goal.returns
returns c =
    let i = c.self.inside in
    record {
      call =
          call_of _ c.args.self.now _ (DownTicked c.args.now) (IsSent c.tick.result c.tick.new.out) c.self.view_is
          (ticked_down i.receiver i.lower c.tick.new.self i.waiting.items i.held c.args.now c.tick.new.out c.tick.result c.tick.ensures.profile c.tick.ensures.stands);
    }
