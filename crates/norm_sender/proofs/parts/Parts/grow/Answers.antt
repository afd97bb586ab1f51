use Rattle.std.proofs.Common.{◌-◌, ◌<◌, ap, arith, length}
use Rattle.norm_send_rules.specs.Streaming.{with_parts}
use Rattle.tx_window.proofs.ListLemmas.{get_some}
use Rattle.nack_union.specs.UnionState.{UnionState}
use Rattle.norm_sender.specs.Inside.{kept_of}
use Rattle.norm_sender.proofs.StreamingLemmas.{ends_in, as_closed, may_grow}
use Rattle.norm_sender.proofs.parts.Parts.grow.Goals as goal

pub grow-requires-clause-index : goal.grow-requires-clause-index
grow-requires-clause-index c =
    let r = c.requires in
    let holds = r.goes.union.holds in
    let first = holds.first in
    let next = holds.next in
    omega (arith, r.place, first, next, r.goes.kept)

pub grow-requires-clause-last : goal.grow-requires-clause-last
grow-requires-clause-last c =
    let r = c.requires in
    let ends = ends_in r.state r.parts r.goes.kept in
    may_grow (kept_of c.args.self.now) r.state r.parts c.segments-segments.result r.goes
    (c.segments-segments.ensures.exact (with_parts r.parts r.state) r.parts r.goes.window ends)
    (c.segments-segments.ensures.room (with_parts r.parts r.state) r.parts r.goes.window ends)

pub returns-clause-profile : goal.returns-clause-profile
returns-clause-profile c =
    let r = c.requires in
    let u = c.args.self.now.union in
    let holds = r.goes.union.holds in
    let first = holds.first in
    let next = holds.next in
    let some : 0 < length u.kept.objects = omega (arith, first, next, r.goes.kept) in
    let last = get_some (length u.kept.objects - 1) u.kept.objects (omega (arith, some)) in
    ap (λ (v : UnionState). v.p) (c.grow.ensures.exact last.0 last.1)

pub returns-clause-union : goal.returns-clause-union
returns-clause-union c s parts goes =
    let ends = ends_in s parts goes.kept in
    c.grow.ensures.stands parts (as_closed (kept_of c.args.self.now) s parts c.segments-segments.result goes
    (c.segments-segments.ensures.exact (with_parts parts s) parts goes.window ends)) s goes.union
