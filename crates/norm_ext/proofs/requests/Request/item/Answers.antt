use Rattle.norm_ext.proofs.RequestLemmas.{item_is}
use Rattle.norm_ext.proofs.requests.Request.item.Goals as goal

pub returns : goal.returns
returns c = rw (c.read_16.ensures, c.read_name.ensures) (item_is c.args.i c.args.self.now.items.now c.requires)
