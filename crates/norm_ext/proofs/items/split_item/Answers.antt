use Rattle.std.proofs.Common.{arith}
use Rattle.norm_ext.proofs.ItemLemmas.{items_front}
use Rattle.norm_ext.proofs.items.split_item.Goals as goal

pub returns : goal.returns
returns c =
    rw (c.read_16.ensures, c.read_name.ensures, c.split_at.ensures.back)
    (items_front c.args.items.now (let le = c.if-items-lt-ITEM.false in omega (arith, le)))
