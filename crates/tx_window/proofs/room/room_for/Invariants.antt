use Rattle.std.proofs.Common.{◌≡◌, ◌+◌, ◌≤◌, List, drop, map}
use Rattle.norm_order.specs.Entries.{Entry}
use Rattle.norm_send_rules.specs.Room.{has_to_go}
use Rattle.tx_window.specs.WindowSound.{all_sizes}
use Rattle.tx_window.specs.EntryPlaces.{held_size}
use Rattle.tx_window.proofs.RoomLemmas.{AreSizes}
use Rattle.tx_window.proofs.room.room_for.Given as goal

abbrev pub invariant-loop-place : goal.invariant-loop-place
invariant-loop-place l = record {
  most : l.left ≤ l.octets;
  left : l.left ≡ all_sizes l.profile (drop l.place l.held.items);
  exact : (entries : List Entry) → AreSizes l.profile entries (map (held_size l.profile) l.held.items)
      → has_to_go l.profile l.len entries ≡ l.place + has_to_go l.profile l.len (drop l.place entries);
}
