use Rattle.std.proofs.Common.{ap, sym, ◌∙◌, arith, nat_lt}
use Rattle.norm_order.specs.Sets.{is_member}
use Rattle.nack_union.specs.Repairs.{shape_closed}
use Rattle.nack_union.specs.Coverage.{Covered}
use Rattle.nack_union.proofs.Coverages.{info_covered}
use Rattle.nack_union.proofs.coverage.Coverage.has_info.Goals as goal

pub contains-requires : goal.contains-requires
contains-requires c = let size = c.self.invariant.size in omega (arith, size)

pub returns : goal.returns
returns c =
    c.contains.ensures ∙ sym (info_covered (shape_closed c.self.inside.plan c.self.inside.closed) c.self.inside.ends.items c.self.inside.alone.members)
    ∙ ap (λ (v : Covered). is_member nat_lt 0 v.members) c.self.view_is
