-- Room that was made in a window for one entry more.
use Rattle.std.specs.Prelude.{ℕ, ◌≡◌, ◌+◌, ◌-◌, ◌<◌, ◌≤◌, List, length, map, drop}
use Rattle.norm_base.specs.Settings.{Settings}
use Rattle.norm_order.specs.Entries.{Entry}
use Rattle.norm_send_rules.specs.Room.{size_of, has_to_go}
use Rattle.tx_window.specs.EntryPlaces.{held_size}
use Rattle.tx_window.specs.declared.entry.HeldEntry.{HeldEntry}
use Rattle.tx_window.specs.WindowSound.{all_sizes}

-- For an entry of `len` octets so many went from the front, as many as have to, and the others take so many octets.
pub record IsRoomMade (p : Settings) (len : ℕ) (old new : List HeldEntry) (gone octets : ℕ) : Type 0 where
  pub entries : new ≡ drop gone old
  pub count : gone ≤ length old
  pub left : octets ≡ all_sizes p (drop gone old)
  pub few : length old - gone < p.window
  pub fit : octets + len ≤ p.octets
  pub exact : (es : List Entry) → map (λ (x : Entry). size_of p x.object) es ≡ map (held_size p) old → gone ≡ has_to_go p len es
