use Rattle.std.proofs.Common.{◌≡◌, ◌∙◌, ◌≤◌, ◌+◌, ◌++◌, ◌∷◌, [], sym, ap, arith, length, vec_len, rules}
use Rattle.norm_memory.specs.Writing.{MemSinkState, Climbs, pieces_at}
use Rattle.norm_memory.proofs.PieceLemmas.{pieces-more, climbs-more}
use Rattle.norm_memory.proofs.mem_sink.MemSink.add.Goals as goal

stop : (c : goal.After-unwrap) → c.len.result + length c.args.bytes.now ≡ length c.self.inside.octets.items + length c.args.bytes.now
stop c = omega (arith, c.self.inside.octets.ok.0)

climbs : (c : goal.After-unwrap) → Climbs c.self.inside.before c.self.inside.stops.items (length c.self.inside.octets.items)
climbs c = rw c.self.inside.octets.ok.0 at c.self.invariant

pub invariant_of-self-2 : goal.invariant_of-self-2
invariant_of-self-2 c =
    let len : vec_len c.extend_from_slice.new.self ≡ c.len.result + length c.args.bytes.now = search rules in
    rw (c.in_ok-push.ensures.items, len) (climbs-more c.self.inside.before c.self.inside.stops.items (length c.self.inside.octets.items) (c.len.result + length c.args.bytes.now) (climbs c) (omega (arith, stop c)))

pub returns-clause-ok : goal.returns-clause-ok
returns-clause-ok c =
    let octets : c.extend_from_slice.new.self.items ≡ c.self.inside.octets.items ++ c.args.bytes.now = search rules in
    rw (c.in_ok-push.ensures.items, octets, ← c.self.view_is) (
    ap (λ pieces. record { pieces = pieces; calls = c.self.inside.calls })
    (pieces-more c.self.inside.octets.items c.args.bytes.now c.self.inside.before c.self.inside.stops.items (c.len.result + length c.args.bytes.now) (stop c) (climbs c)))
