use Rattle.std.proofs.Common.{List, fold, map, ap, sym, ◌∙◌}
use Rattle.norm_ext.specs.Asking.{named}
use Rattle.norm_ext.specs.Requests.{Request}
use Rattle.norm_receive_rules.specs.Overhearing.{asked_also}
use Rattle.rx_heard.proofs.OverhearingLemmas.{no_request}
use Rattle.rx_heard.proofs.asked.Asked.read_requests.Goals as goal

pub returns : goal.returns
returns c =
    sym (ap (λ (rs : List Request). fold asked_also c.requests.self (map (named c.args.profile.now c.args.known) rs)) (no_request c.requests.request-iterator c.in-None.ensures.steps.0))
    ∙ c.requests.invariant
    ∙ ap (λ (rs : List Request). fold asked_also c.args.self.now (map (named c.args.profile.now c.args.known) rs)) c.into_iter-request-iterator.ensures.into_iter_gives
