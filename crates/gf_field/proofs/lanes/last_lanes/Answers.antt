use Rattle.std.proofs.Common.{arith, ◌∙◌, ◌+◌, refl}
use Rattle.gf_field.specs.declared.lanes.TheConstants.{EDGE}
use Rattle.gf_field.proofs.LaneLemmas.{edge_at, edge_zero, edge_one}
use Rattle.gf_field.proofs.lanes.last_lanes.Goals as goal

pub returns-clause-zeros : goal.returns-clause-zeros
returns-clause-zeros c = λ i h. edge_at EDGE c.args.count i c.requires (omega arith) ∙ edge_zero EDGE (c.args.count + i) refl (omega arith)

pub returns-clause-ones : goal.returns-clause-ones
returns-clause-ones c = λ i h l. edge_at EDGE c.args.count i c.requires h ∙ edge_one EDGE (c.args.count + i) refl (omega arith) (omega arith)
