use Rattle.std.proofs.Common.{refl}
use Rattle.gf_field.specs.declared.lanes.TheConstants.{FOUR_TIMES}
use Rattle.gf_field.proofs.LaneLemmas.{picked_again}
use Rattle.gf_field.proofs.lanes.four_times.Goals as goal

pub returns : goal.returns
returns c = λ i h. picked_again c.args.lanes FOUR_TIMES i c.fits-lanes.0 refl tt refl h
