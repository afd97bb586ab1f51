use Rattle.std.proofs.Common.{◌+◌, arith}
use Rattle.norm_ext.specs.Asking.{span}
use Rattle.nack_union.specs.More.{MoreOf, named_part}
use Rattle.nack_union.proofs.Came.{all_at}
use Rattle.nack_union.proofs.Planned.{planned_set}
use Rattle.nack_union.proofs.Named.{place_done, place_kept, not_in}
use Rattle.nack_union.proofs.asking.ask_range.Goals as goal

pub places-preserved : goal.places-preserved
places-preserved c = record {
  each = place_done (λ k m n. MoreOf (named_part c.args.named.flags (span c.args.named.first c.args.named.last)) (c.args.first + k) m n)
      c.args.objects.now c.places.objects c.args.from c.places.place c.index-objects-place.result c.ask_named.new.self c.places.auto.objects
      (let lt = c.places-test.true in let within = c.requires.within in let same = c.places.auto.objects in omega (arith, lt, within, same))
      c.places.invariant.each c.places.invariant.rest c.index-objects-place.is c.ask_named.ensures.more;
  rest = place_kept c.args.objects.now c.places.objects c.args.from c.places.place c.ask_named.new.self c.places.invariant.after c.places.invariant.rest;
  planned = λ all.
      let now = c.places.invariant.planned all in
      planned_set c.places.objects c.places.place c.ask_named.new.self now
      (c.ask_named.ensures.planned
      (all_at c.places.objects c.places.place c.index-objects-place.result now
      (let lt = c.places-test.true in let within = c.requires.within in let same = c.places.auto.objects in omega (arith, lt, within, same))));
  after = let after = c.places.invariant.after in omega (arith, after);
  most = let lt = c.places-test.true in omega (arith, lt);
}

pub returns-clause-rest : goal.returns-clause-rest
returns-clause-rest c = λ k d out. c.places.invariant.rest k d (not_in k c.args.from c.args.to c.places.place c.places.invariant.most out)
