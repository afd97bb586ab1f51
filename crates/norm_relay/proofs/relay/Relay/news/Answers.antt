use Rattle.std.proofs.Common.{◌≡◌}
use Rattle.norm_safety.specs.Events.{Told}
use Rattle.norm_relay.specs.RelayStep.{DownNews, Other}
use Rattle.norm_relay.proofs.CallLemmas.{call_of, told_news}
use Rattle.norm_relay.proofs.relay.Relay.news.Goals as goal

pub returns : goal.returns
returns c =
    let i = c.self.inside in
    record {
      call =
          call_of _ c.args.self.now _ DownNews (λ answer. answer ≡ Other (Told c.news.result)) c.self.view_is
          (told_news i.receiver i.lower c.news.new.self i.waiting.items i.held c.news.result c.news.ensures.profile c.news.ensures.stands);
    }
