use Rattle.std.proofs.Common.{arith}
use Rattle.producer_gate.proofs.WordSteps.{note_at}
use Rattle.producer_gate.proofs.steps.note.Goals as goal

pub split_seat-requires : goal.split_seat-requires
split_seat-requires c = (c.requires.0, omega (arith, c.requires.1), note_at _ _)
