use Rattle.std.proofs.Common.{◌≡◌, sym, subst}
use Rattle.nack_union.specs.Kept.{asked_so_far}
use Rattle.nack_union.specs.UnionState.{UnionState, Stands}
use Rattle.norm_order.specs.Shapes.{shape_of}
use Rattle.nack_union.specs.Kept.{admitted, shape_of_marked}
use Rattle.nack_union.proofs.Rooms.{room_object}
use Rattle.nack_union.proofs.union.Union.admit.Goals as goal

pub returns-clause-stands : goal.returns-clause-stands
returns-clause-stands c = λ entry shape s stands.
    let u = c.self.inside in
    let here = subst (λ (v : UnionState). Stands v s) (sym c.self.view_is) stands in
    record {
      holds = c.in_ok-admit.ensures.stands u.profile s entry here.holds (subst (λ (v : UnionState). shape_of v.p entry.object ≡ shape_of_marked (admitted c.args.plan.now c.args.info)) (sym c.self.view_is) shape) (room_object u.profile c.args.plan.now c.args.info);
      collects = c.in_ok-admit.ensures.collects u.profile s (asked_so_far s) entry here.holds here.collects;
    }
