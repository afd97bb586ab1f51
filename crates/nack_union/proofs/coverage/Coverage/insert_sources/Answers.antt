use Rattle.std.proofs.Common.{◌≡◌, ℕ, ◌≤◌, subst, sym, ap, arith}
use Rattle.norm_order.specs.Shapes.{Shape, closed_in}
use Rattle.nack_union.specs.Coverage.{Covered, HasSources}
use Rattle.nack_union.proofs.Coverages.{sources_joined}
use Rattle.nack_union.proofs.coverage.Coverage.insert_sources.Goals as goal

pub note_complete-requires : goal.note_complete-requires
note_complete-requires c =
    subst (λ (x : Shape). HasSources x c.insert_between.new.self.members) (sym c.insert_between.ensures.shape)
    (sources_joined c.args.self.now.shape c.args.self.now.members c.insert_between.new.self.members c.args.self.now.room c.args.from c.args.to
    (subst (λ (v : Covered). (block : ℕ) → v.room ≤ block → closed_in v.shape block ≡ 0) c.self.view_is c.self.invariant.behind)
    (c.is_within.ensures.from c.if-is_within.true)
    (let high = c.is_within.ensures.to c.if-is_within.true in let many = c.len.ensures in let room = ap (λ (v : Covered). v.room) c.self.view_is in omega (arith, high, many, room))
    c.insert_between.ensures.members)
