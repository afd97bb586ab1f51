use Rattle.nack_union.proofs.Retired.{may_be_retired}
use Rattle.nack_union.proofs.laws.may_be_retired.Goals as goal

pub returns : goal.returns
returns c = may_be_retired
