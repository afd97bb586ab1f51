use Rattle.std.proofs.Common.{◌≡◌, sym, subst, length, rules}
use Rattle.norm_relay.specs.RelayKept.{RelayKept, StandsFor}
use Rattle.norm_relay.proofs.CallLemmas.{waits_is, is_emptied, is_filled}
use Rattle.norm_relay.proofs.relay.Relay.waits.Goals as goal

pub returns : goal.returns
returns c x st =
    let i = c.self.inside in
    let here = subst (λ (v : RelayKept). StandsFor v x) (sym c.self.view_is) st in
    let many : length i.waiting.items ≡ i.waiting.len = search rules in
    waits_is i.waiting.items x c.is_empty.result here.waiting (is_emptied i.waiting.items i.waiting.len c.is_empty.result many c.is_empty.ensures)
    (is_filled i.waiting.items i.waiting.len c.is_empty.result many c.is_empty.ensures)
