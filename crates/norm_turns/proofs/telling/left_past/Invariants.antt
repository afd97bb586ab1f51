use Rattle.std.proofs.Common.{◌≡◌, take}
use Rattle.norm_send_rules.specs.SenderState.{SenderState}
use Rattle.norm_sender.specs.SenderKept.{Stands}
use Rattle.norm_turns.specs.Telling.{left_past}
use Rattle.norm_turns.proofs.telling.left_past.Given as goal

abbrev pub invariant-loop-i : goal.invariant-loop-i
invariant-loop-i l = (s : SenderState) → Stands l.sender s → l.left.items ≡ take l.i (left_past s l.mark)
