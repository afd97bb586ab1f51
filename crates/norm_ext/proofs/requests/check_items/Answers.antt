use Rattle.std.proofs.Common.{arith}
use Rattle.norm_ext.proofs.RequestLemmas.{items_on}
use Rattle.norm_ext.proofs.requests.check_items.Goals as goal

pub loop-rest-preserved : goal.loop-rest-preserved
loop-rest-preserved c = record {
  so_far = rw c.split_at.ensures.back (items_on c.args.at c.loop-rest.place c.args.items.now c.loop-rest.rest.now c.loop-rest-test.true c.if-id-ne-ENCODING_ID.false c.loop-rest.invariant.so_far);
  place = omega (arith, c.split_at.ensures.back_len);
}
