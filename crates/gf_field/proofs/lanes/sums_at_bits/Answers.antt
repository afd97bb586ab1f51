use Rattle.std.proofs.Common.{refl, arith}
use Rattle.gf_field.specs.declared.lanes.TheConstants.{LANES_WITH_1, LANES_WITH_2, LANES_WITH_4, LANES_WITH_8}
use Rattle.gf_field.proofs.LaneLemmas.{sums_from_masks}
use Rattle.gf_field.proofs.lanes.sums_at_bits.Goals as goal

pub returns : goal.returns
returns c =
    sums_from_masks LANES_WITH_1 LANES_WITH_2 LANES_WITH_4 LANES_WITH_8 c.args.a c.args.b c.args.c c.args.d
    refl refl refl refl refl refl refl refl (omega arith) (omega arith) (omega arith) (omega arith)
