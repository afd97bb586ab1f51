use Rattle.std.proofs.Common.{◌≡◌}
use Rattle.norm_send_rules.specs.SenderState.{SenderState}
use Rattle.norm_send_rules.specs.Laws.{next_at}
use Rattle.norm_send_rules.specs.Sending.{next_new}
use Rattle.tx_window.specs.WindowState.{Stands}
use Rattle.tx_window.proofs.window.Window.first_new.Given as goal

abbrev pub invariant-loop-next : goal.invariant-loop-next
invariant-loop-next l = record {
  so_far : (s : SenderState) → Stands l.self s → next_new l.self.p (next_at l.index s) ≡ next_new l.self.p (next_at l.next s);
}
