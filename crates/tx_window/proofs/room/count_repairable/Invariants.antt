use Rattle.std.proofs.Common.{◌≡◌, ◌+◌, ◌*◌, ◌≤◌, ℕ, List, drop}
use Rattle.norm_base.specs.Settings.{Settings}
use Rattle.fec_plan.specs.Points.{point}
use Rattle.norm_order.specs.Entries.{Entry}
use Rattle.norm_order.specs.Shapes.{shapes_of}
use Rattle.norm_send_rules.specs.SenderState.{SenderState}
use Rattle.norm_send_rules.specs.Repairable.{encoded_from}
use Rattle.tx_window.specs.EntryFront.{AreEntries}
use Rattle.tx_window.specs.WindowState.{first_block, OnlyFirstLacks}
use Rattle.tx_window.proofs.RepairableLemmas.{behind}
use Rattle.tx_window.proofs.room.count_repairable.Given as goal

abbrev pub invariant-loop-place : goal.invariant-loop-place
invariant-loop-place l = record {
  few : l.repairable ≤ l.place * 4398046511104;
  total : (ring : List ℕ) (p : Settings) (first : ℕ) (s : SenderState) (entries : List Entry) → AreEntries ring p first entries s l.held.items → OnlyFirstLacks l.held.items
      → behind (point first (first_block l.held.items)) (encoded_from first (shapes_of p entries))
      ≡ l.repairable + behind (point first (first_block l.held.items)) (encoded_from (first + l.place) (shapes_of p (drop l.place entries)));
}
