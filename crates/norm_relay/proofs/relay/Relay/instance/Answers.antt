use Rattle.norm_relay.proofs.CallLemmas.{kept, tells_instance}
use Rattle.norm_relay.proofs.relay.Relay.instance.Goals as goal

pub returns : goal.returns
returns c x st =
    let i = c.self.inside in
    tells_instance (kept i.receiver i.lower i.waiting.items i.held) c.args.self.now x c.instance.result c.self.view_is st c.instance.ensures
