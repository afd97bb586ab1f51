use Rattle.nack_union.proofs.Open.{open_streams_may_grow}
use Rattle.nack_union.proofs.laws.open_streams_may_grow.Goals as goal

pub returns : goal.returns
returns c = open_streams_may_grow
