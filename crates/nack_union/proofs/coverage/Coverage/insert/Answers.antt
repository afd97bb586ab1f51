use Rattle.std.proofs.Common.{◌<◌, ℕ, List, length, sym, subst, ap, ◌∙◌, arith, nat_lt}
use Rattle.fec_plan.specs.Partition.{blocks}
use Rattle.norm_order.specs.Shapes.{Shape}
use Rattle.nack_union.specs.Repairs.{shape_closed}
use Rattle.norm_order.specs.Sets.{with_member}
use Rattle.nack_union.specs.Slots.{slots}
use Rattle.nack_union.specs.Coverage.{Covered, HasSources, covered_slots}
use Rattle.nack_union.proofs.Coverages.{slot_more, with_stays}
use Rattle.nack_union.proofs.coverage.Coverage.insert.Goals as goal

abbrev of : Shape → ℕ → List ℕ → Covered
of shape room members = record { shape = shape; room = room; members = members }

pub invariant_of-self : goal.invariant_of-self
invariant_of-self c = record {
  most = c.self.invariant.most;
  within = c.self.invariant.within;
  size = c.insert.ensures.size ∙ c.self.invariant.size;
  behind = c.self.invariant.behind;
  until = c.self.invariant.until;
  whole = c.self.invariant.whole;
  runs = c.self.invariant.runs;
  complete = λ e.
      let within : c.args.slot < slots (blocks c.self.inside.plan) =
      let lt = c.requires in let room = ap (λ (v : Covered). v.room) c.self.view_is in let fits = c.self.invariant.within in omega (arith, lt, room, fits) in
      subst (HasSources (shape_closed c.self.inside.plan c.self.inside.closed))
      (sym (ap (covered_slots (shape_closed c.self.inside.plan c.self.inside.closed) c.self.inside.ends.items) c.insert.ensures.members
      ∙ slot_more (shape_closed c.self.inside.plan c.self.inside.closed) c.self.inside.ends.items c.self.inside.alone.members c.args.slot within))
      (with_stays (shape_closed c.self.inside.plan c.self.inside.closed) _ c.args.slot (c.self.invariant.complete e));
}

pub returns : goal.returns
returns c =
    let within : c.args.slot < slots (blocks c.self.inside.plan) =
    let lt = c.requires in let room = ap (λ (v : Covered). v.room) c.self.view_is in let fits = c.self.invariant.within in omega (arith, lt, room, fits) in
    ap (λ (xs : List ℕ). of (shape_closed c.self.inside.plan c.self.inside.closed) (length c.self.inside.ends.items) (covered_slots (shape_closed c.self.inside.plan c.self.inside.closed) c.self.inside.ends.items xs)) c.insert.ensures.members
    ∙ ap (of (shape_closed c.self.inside.plan c.self.inside.closed) (length c.self.inside.ends.items)) (slot_more (shape_closed c.self.inside.plan c.self.inside.closed) c.self.inside.ends.items c.self.inside.alone.members c.args.slot within)
    ∙ ap (λ (v : Covered). of v.shape v.room (with_member nat_lt c.args.slot v.members)) c.self.view_is
