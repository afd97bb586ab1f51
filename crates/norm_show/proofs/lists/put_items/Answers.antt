use Rattle.norm_show.proofs.ListLemmas.{items_begin}
use Rattle.norm_show.proofs.lists.put_items.Goals as goal

pub items-init : goal.items-init
items-init c =
    items_begin c.args.line.now c.put_item.new.line c.args.items.now c.in-Some.behind.now c.in-Some.first c.in_ok-put_item.ensures
    c.in-Some.ensures
