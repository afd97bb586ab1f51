use Rattle.std.proofs.Common.{arith}
use Rattle.std.proofs.lemmas.Grind.{common_steps}
use Rattle.norm_text.proofs.WordLemmas.{one_more_number}
use Rattle.norm_text.proofs.line.Line.number_pieces.Goals as goal

pub loop-n-preserved : goal.loop-n-preserved
loop-n-preserved c =
    one_more_number c.args.by c.args.self.now c.loop-n.self c.number_piece.new.self c.args.numbers.now c.loop-n.n-index
    (grind (arith, common_steps)) c.loop-n.invariant (grind (arith, common_steps))
