use Rattle.std.specs.Prelude.{⊤}
use Rattle.norm_relay.specs.RelayStep.{DownDelivered}
use Rattle.norm_relay.proofs.CallLemmas.{call_of, delivered_down}
use Rattle.norm_relay.proofs.relay.Relay.deliver_down.Goals as goal

pub returns : goal.returns
returns c =
    let i = c.self.inside in
    record {
      call =
          call_of _ c.args.self.now _ (DownDelivered c.args.bytes.now c.args.now) (λ answer. ⊤) c.self.view_is
          (delivered_down i.receiver i.lower c.deliver.new.self i.waiting.items i.held c.args.bytes.now c.args.now c.deliver.ensures.profile c.deliver.ensures.stands);
    }
