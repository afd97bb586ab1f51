use Rattle.std.proofs.Common.{◌≡◌, ◌+◌, ◌≤◌, ℕ, List, drop, length}
use Rattle.std.specs.Prelude.{filter}
use Rattle.norm_base.specs.Settings.{Settings}
use Rattle.norm_order.specs.Entries.{Entry}
use Rattle.norm_send_rules.specs.SenderState.{SenderState}
use Rattle.norm_send_rules.specs.Repairable.{is_stream}
use Rattle.tx_window.specs.EntryFront.{AreEntries}
use Rattle.tx_window.proofs.room.count_streams.Given as goal

abbrev pub invariant-loop-place : goal.invariant-loop-place
invariant-loop-place l = record {
  few : l.streams ≤ l.place;
  total : (ring : List ℕ) (p : Settings) (first : ℕ) (s : SenderState) (entries : List Entry) → AreEntries ring p first entries s l.held.items
      → length (filter is_stream entries) ≡ l.streams + length (filter is_stream (drop l.place entries));
}
