use Rattle.nack_union.proofs.Grown.{streams_grow}
use Rattle.nack_union.proofs.laws.streams_grow.Goals as goal

pub returns : goal.returns
returns c = streams_grow
