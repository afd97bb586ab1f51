use Rattle.std.proofs.Common.{◌≤◌, sym, subst}
use Rattle.fec_plan.proofs.PartitionLemmas.{some_blocks_of}
use Rattle.obj_buffer.proofs.codes.Codes.of.Goals as goal

pub overflow_sub-last_block : goal.overflow_sub-last_block
overflow_sub-last_block c = subst (λ n. 1 ≤ n) (sym c.blocks-last_block.ensures.exact) (some_blocks_of c.args.plan.now c.blocks-last_block.ensures.sound)

pub code_of-requires : goal.code_of-requires
code_of-requires c = some_blocks_of c.args.plan.now c.blocks-last_block.ensures.sound
