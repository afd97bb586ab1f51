use Rattle.norm_ext.proofs.AskedLemmas.{two_ends}
use Rattle.norm_ext.proofs.writer.push_ends.Goals as goal

pub returns-in-Some : goal.returns-in-Some
returns-in-Some c =
    two_ends c.args.out.now c.push_one.new.out c.push_one-in-Some.new.out c.args.first.now c.in-Some.item c.args.last.now c.in-Some.is c.push_one.ensures c.push_one-in-Some.ensures
