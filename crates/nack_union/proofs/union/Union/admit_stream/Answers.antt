use Rattle.std.proofs.Common.{◌≡◌, sym, subst}
use Rattle.nack_union.specs.Kept.{asked_so_far}
use Rattle.nack_union.specs.UnionState.{UnionState, Stands}
use Rattle.norm_order.specs.Shapes.{shape_of}
use Rattle.nack_union.specs.Kept.{admitted_stream, shape_of_marked}
use Rattle.nack_union.proofs.Rooms.{room_stream}
use Rattle.nack_union.proofs.union.Union.admit_stream.Goals as goal

pub returns-clause-stands : goal.returns-clause-stands
returns-clause-stands c = λ entry shape s stands.
    let u = c.self.inside in
    let here = subst (λ (v : UnionState). Stands v s) (sym c.self.view_is) stands in
    record {
      holds = c.in_ok-admit_stream.ensures.stands u.profile s entry here.holds (subst (λ (v : UnionState). shape_of v.p entry.object ≡ shape_of_marked (admitted_stream c.args.plan.now v.p.blocks)) (sym c.self.view_is) shape) (room_stream u.profile c.args.plan.now);
      collects = c.in_ok-admit_stream.ensures.collects u.profile s (asked_so_far s) entry here.holds here.collects;
    }
