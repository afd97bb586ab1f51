use Rattle.std.proofs.Common.{arith}
use Rattle.std.proofs.lemmas.Grind.{common_steps}
use Rattle.norm_show.proofs.ListLemmas.{objects_begin}
use Rattle.norm_show.proofs.lists.put_objects.Goals as goal

pub objects-init : goal.objects-init
objects-init c =
    objects_begin c.args.line.now c.args.list.now c.number.new.self c.split_at.result.1.now c.read_16.result c.if-list-lt-OBJECT.false
    (grind (arith, common_steps)) c.read_16.ensures c.split_at.ensures.back
