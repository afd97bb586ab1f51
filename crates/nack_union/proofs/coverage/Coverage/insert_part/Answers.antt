use Rattle.std.proofs.Common.{ap, ◌∙◌, nat_lt}
use Rattle.std.specs.Prelude.{◌||◌, ◌&&◌}
use Rattle.norm_order.specs.Sets.{is_member}
use Rattle.nack_union.specs.Repairs.{shape_closed}
use Rattle.nack_union.specs.More.{is_source_slot}
use Rattle.symbol_mask.specs.Words.{in_run}
use Rattle.nack_union.specs.Coverage.{Covered}
use Rattle.nack_union.proofs.Coverages.{part_more, sources_stay}
use Rattle.nack_union.proofs.coverage.Coverage.insert_part.Goals as goal

pub invariant_of-self : goal.invariant_of-self
invariant_of-self c = record {
  most = c.self.invariant.most;
  within = c.self.invariant.within;
  size = c.insert_sources.ensures.size ∙ c.self.invariant.size;
  behind = c.self.invariant.behind;
  until = c.self.invariant.until;
  whole = c.self.invariant.whole;
  runs = c.self.invariant.runs;
  complete = λ e.
      sources_stay (shape_closed c.self.inside.plan c.self.inside.closed) _ _ (λ slot. is_source_slot (shape_closed c.self.inside.plan c.self.inside.closed) slot && in_run c.args.from c.args.to slot)
      (part_more (shape_closed c.self.inside.plan c.self.inside.closed) c.self.inside.ends.items c.self.inside.alone.members c.insert_sources.new.set.members c.args.from c.args.to
      c.insert_sources.ensures.members) (c.self.invariant.complete e);
}

pub returns-clause-members : goal.returns-clause-members
returns-clause-members c = λ slot.
    part_more (shape_closed c.self.inside.plan c.self.inside.closed) c.self.inside.ends.items c.self.inside.alone.members c.insert_sources.new.set.members c.args.from c.args.to
    c.insert_sources.ensures.members slot
    ∙ ap (λ (v : Covered). is_member nat_lt slot v.members || (is_source_slot v.shape slot && in_run c.args.from c.args.to slot)) c.self.view_is
