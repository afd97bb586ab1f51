use Rattle.std.proofs.Common.{◌≡◌, ◌∙◌, [], true, length, ap, rules}
use Rattle.norm_relay.specs.RelayKept.{RelayKept}
use Rattle.norm_relay.specs.RelayStep.{UpDelivered, Took}
use Rattle.norm_relay.proofs.CallLemmas.{call_of, is_busy, is_taken, is_emptied, is_filled}
use Rattle.norm_relay.proofs.relay.Relay.deliver_up.Goals as goal

pub returns-then-not-is_empty : goal.returns-then-not-is_empty
returns-then-not-is_empty c =
    let i = c.self.inside in
    let many : length i.waiting.items ≡ i.waiting.len = search rules in
    record {
      call =
          is_busy c.args.self.now c.args.bytes.now c.args.now c.args.draw
          (λ none. is_filled i.waiting.items i.waiting.len c.is_empty.result many c.is_empty.ensures c.if-not-is_empty.true
          (ap (λ (k : RelayKept). k.waiting) c.self.view_is ∙ none));
      memory = tt;
    }

pub returns : goal.returns
returns c =
    let i = c.self.inside in
    let many : length i.waiting.items ≡ i.waiting.len = search rules in
    let none : i.waiting.items ≡ [] = is_emptied i.waiting.items i.waiting.len c.is_empty.result many c.is_empty.ensures c.if-not-is_empty.false in
    record {
      call =
          call_of _ c.args.self.now _ (UpDelivered c.args.bytes.now c.args.now c.args.draw) (λ answer. answer ≡ Took true) c.self.view_is
          (is_taken i.receiver c.hear.new.receiver c.take_all.new.receiver i.lower i.waiting.items c.take_all.new.waiting.items i.held c.hear.new.held c.args.bytes.now
          c.args.now c.args.draw none c.in_ok-hear.ensures.profile c.in_ok-hear.ensures.stands c.in_ok-hear.ensures.leaves c.in_ok-take_all.ensures.profile
          c.in_ok-take_all.ensures.taken c.in_ok-take_all.ensures.waits);
      memory = tt;
    }
