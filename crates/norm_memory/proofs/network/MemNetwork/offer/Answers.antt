use Rattle.std.proofs.Common.{◌≡◌, ◌∷◌, [], length, refl}
use Rattle.norm_memory.specs.Waiting.{put_copies}
use Rattle.norm_memory.specs.Fates.{copies_of}
use Rattle.norm_memory.proofs.NetworkLemmas.{of_offers-offered, answers_in-offered}
use Rattle.norm_memory.proofs.network.MemNetwork.offer.Goals as goal

waits : (c : goal.After-put) → c.put.new.self.copies ≡ put_copies (copies_of (length c.self.inside.offers) c.args.plan.now) c.self.inside.waiting.copies
waits c = rw (c.put.ensures, c.reserve.ensures.same, c.in_ok-copies.ensures, c.len.ensures.len) refl

pub invariant_of-self-2 : goal.invariant_of-self-2
invariant_of-self-2 c =
    rw (c.in_ok-push.ensures.ok, waits c) (of_offers-offered c.self.inside.offers c.args.from c.args.bytes.now c.args.plan.now c.self.inside.waiting.copies c.self.inside.answers.items c.requires.others c.self.invariant)

pub returns-clause-ok : goal.returns-clause-ok
returns-clause-ok c =
    rw (c.in_ok-push.ensures.ok, waits c, answers_in-offered c.self.inside.offers (c.args.from, c.args.bytes.now) c.self.inside.answers.items c.self.invariant.answers, ← c.self.view_is) refl
