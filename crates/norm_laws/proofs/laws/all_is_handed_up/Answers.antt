use Rattle.norm_laws.proofs.AllHanded.{all_is_handed_up}
use Rattle.norm_laws.proofs.laws.all_is_handed_up.Goals as goal

pub returns : goal.returns
returns c = all_is_handed_up
