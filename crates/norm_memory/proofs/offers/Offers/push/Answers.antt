use Rattle.std.proofs.Common.{◌≡◌, ◌∙◌, ◌≤◌, ◌+◌, ◌++◌, ◌∷◌, [], sym, ap, arith, length, rules}
use Rattle.norm_memory.specs.Offers.{IsWithin, AreWithin}
use Rattle.norm_memory.proofs.OfferLemmas.{offered-more, within-more}
use Rattle.norm_memory.proofs.offers.Offers.push.Goals as goal

start : (c : goal.After-unwrap) → c.len-start.result ≡ length c.self.inside.octets.items
start c = search rules

octets : (c : goal.After-unwrap) → c.extend_from_slice.new.self.items ≡ c.self.inside.octets.items ++ c.args.bytes.now
octets c = search rules

pub invariant_of-self-2 : goal.invariant_of-self-2
invariant_of-self-2 c =
    let len : length c.extend_from_slice.new.self.items ≡ c.len-start.result + length c.args.bytes.now = search rules in
    rw (c.in_ok-push.ensures.items, len) (within-more (length c.self.inside.octets.items) (c.len-start.result + length c.args.bytes.now) c.self.inside.offers.items _ (omega (arith, start c))
    (record { up = omega arith; within = omega arith; most = omega (arith, c.requires) }) c.self.invariant)

pub returns-clause-ok : goal.returns-clause-ok
returns-clause-ok c =
    rw (c.in_ok-push.ensures.items, octets c, ← c.self.view_is)
    (offered-more c.self.inside.octets.items c.args.bytes.now c.self.inside.offers.items c.args.from c.len-start.result (c.len-start.result + length c.args.bytes.now) (start c) (omega (arith, start c)) c.self.invariant)
