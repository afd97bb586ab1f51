use Rattle.std.proofs.Common.{◌≡◌, ◌<◌, length, rules, arith}
use Rattle.norm_ext.proofs.ExtensionLemmas.{checks_on, list_ends}
use Rattle.norm_ext.proofs.extensions.check_list.Goals as goal

pub loop-rest-preserved : goal.loop-rest-preserved
loop-rest-preserved c =
    let some : 0 < length c.loop-rest.rest.now = search rules in
    let k = c.in_ok-len.ensures in
    record {
      so_far = rw (c.split_at.ensures.back, k.1) (checks_on c.args.from c.args.words.now c.loop-rest.rest.now c.loop-rest.at some k.0 c.loop-rest.invariant.so_far);
      place = omega (arith, c.split_at.ensures.back_len);
    }

pub returns-clause-whole : goal.returns-clause-whole
returns-clause-whole c =
    let none : length c.loop-rest.rest.now ≡ 0 = search rules in
    list_ends c.args.from c.loop-rest.at c.args.words.now c.loop-rest.rest.now none c.loop-rest.invariant.so_far
