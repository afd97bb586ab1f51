use Rattle.std.proofs.Common.{◌≡◌, ◌∙◌, ◌<◌, ◌++◌, [], ap, arith, length, rules, drop, Some}
use Rattle.norm_memory.specs.Feeding.{fed}
use Rattle.norm_memory.specs.Waiting.{first_of}
use Rattle.norm_memory.proofs.FeedLemmas.{first-fed}
use Rattle.norm_memory.proofs.feed_fabric.FeedFabricFabric.take.Goals as goal

pub returns-clause-answer : goal.returns-clause-answer
returns-clause-answer c =
    let octets : c.push-3.new.self ≡ c.index.result.now.1.items = c.push-3.ensures ∙ ap (λ front. front ++ c.deref.result.now) c.clear.ensures ∙ c.deref.ensures.value in
    let inside : c.self.inside.next < length c.self.inside.feed.items = search rules in
    ap (λ bytes. Some (c.index.result.now.0, bytes)) octets
    ∙ first-fed c.self.inside.feed.items c.self.inside.next c.index.result.now inside c.index.ensures
    ∙ ap (λ s. first_of s.left) c.self.view_is
