use Rattle.rx_stream.proofs.Inserting.{last_place}
use Rattle.rx_stream.proofs.block.place_for.Goals as goal

pub returns-then-is_above_all : goal.returns-then-is_above_all
returns-then-is_above_all c = last_place c.args.ids.now c.args.id (c.is_above_all.ensures c.if-is_above_all.true)
