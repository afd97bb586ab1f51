use Rattle.std.proofs.Common.{◌≡◌, ◌+◌, ℕ, List, take, drop}
use Rattle.fec_plan.specs.Points.{Position, reached_by}
use Rattle.norm_order.specs.Entries.{Entry}
use Rattle.norm_send_rules.specs.SenderState.{SenderState}
use Rattle.norm_send_rules.specs.Watermarks.{all_past}
use Rattle.norm_send_rules.specs.Room.{may_all_go}
use Rattle.tx_window.specs.EntryFront.{AreEntries}
use Rattle.tx_window.proofs.entry.front.may_all_go.Given as goal

abbrev pub invariant-loop-place : goal.invariant-loop-place
invariant-loop-place l = record {
  so_far : (ring : List ℕ) (s : SenderState) (entries : List Entry) → AreEntries ring l.profile l.first entries s l.held.items
      → ((at : Position) → all_past s at ≡ reached_by l.past at)
      → may_all_go l.profile s l.first (take l.count entries) ≡ may_all_go l.profile s (l.first + l.place) (drop l.place (take l.count entries));
}
