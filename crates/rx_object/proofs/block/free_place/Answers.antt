use Rattle.rx_object.proofs.FreePlaces.{some_free}
use Rattle.rx_object.proofs.block.free_place.Goals as goal

pub unwrap-requires : goal.unwrap-requires
unwrap-requires c = some_free c.args.ids.now c.first_free.result c.requires c.first_free.ensures
