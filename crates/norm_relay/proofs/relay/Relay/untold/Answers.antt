use Rattle.norm_relay.proofs.CallLemmas.{kept, tells_untold}
use Rattle.norm_relay.proofs.relay.Relay.untold.Goals as goal

pub returns : goal.returns
returns c x st =
    let i = c.self.inside in
    tells_untold (kept i.receiver i.lower i.waiting.items i.held) c.args.self.now x c.untold.result c.self.view_is st c.untold.ensures
