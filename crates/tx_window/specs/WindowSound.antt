-- How a window is seen, and what holds of each.
use Rattle.std.specs.Prelude.{ℕ, Bool, true, false, ◌≡◌, ◌+◌, ◌*◌, ◌/◌, ◌<◌, ◌≤◌, List, [], ◌∷◌, ◌++◌, length, map, sum, Some, slice_get, option_map, option_to_list}
use Rattle.std.specs.VecDeque.{deque_capacity}
use Rattle.norm_base.specs.Settings.{Settings}
use Rattle.tx_object.specs.Held.{HeldObject}
use Rattle.tx_object.specs.Placed.{IsPlaced}
use Rattle.tx_window.specs.EntryPlaces.{held_size}
use Rattle.tx_window.specs.declared.entry.HeldEntry.{HeldEntry}
use Rattle.tx_window.specs.declared.entry.HeldEntry.TheVariants as held
use Rattle.tx_window.specs.Rows.{all_octets, filling_in, IsFilling, IsRow}
use Rattle.tx_window.specs.Extents.{shape_of_extent, IsSized}
use Rattle.tx_window.specs.WindowState.{WindowState}
use Rattle.tx_window.specs.declared.extent.Extent.{Extent}
use Rattle.tx_window.specs.declared.window.Window.TheInside.{Inside}

-- how many octets of the window entries take
abbrev pub all_sizes : Settings → List HeldEntry → ℕ
all_sizes p es = sum (map (held_size p) es)

-- an entry is a stream
abbrev pub is_stream_held : HeldEntry → Bool
is_stream_held (held.Object h) = false
is_stream_held (held.Stream stream) = true

-- the objects among entries, which lie in the ring
abbrev pub objects_in : List HeldEntry → List HeldObject
objects_in [] = []
objects_in (held.Object h ∷ es) = h ∷ objects_in es
objects_in (held.Stream stream ∷ es) = objects_in es

-- the objects that were not dropped, and the one that is being filled
abbrev pub all_kept : Inside → List HeldObject
all_kept w = objects_in w.held.items ++ option_to_list w.begun

abbrev pub window_view : Inside → WindowState
window_view w = record {
  p = w.profile;
  ring = w.ring;
  dropped = w.dropped;
  entries = w.held.items;
  forgotten = w.forgotten;
  shapes = map (shape_of_extent w.profile) w.extents.items;
  filling = option_map (filling_in w.ring w.filled) w.begun;
  last = w.last;
  past = w.past;
}

-- Each object lies in the ring, behind the one before it; the entries fit into the profile's window, in number and in octets; there is
-- room for what is being filled; transport ids suffice; and each object has 1 to 16,777,216 octets.
pub record WindowSound (w : Inside) : Type 0 where
  pub ring_long : length w.ring ≡ (w.profile.octets / w.profile.e + w.profile.window) * w.profile.e
  pub octets : w.octets ≡ all_sizes w.profile w.held.items + all_octets (option_to_list w.begun)
  pub fit : w.octets ≤ w.profile.octets
  pub few : length w.held.items + length (option_to_list w.begun) ≤ w.profile.window
  pub row : IsRow w.ring w.profile (all_kept w) w.free
  pub placed : (i : ℕ) (h : HeldObject) → slice_get (objects_in w.held.items) i ≡ Some h → IsPlaced w.ring w.profile h
  pub filling : (h : HeldObject) → w.begun ≡ Some h → IsFilling w.ring w.profile w.filled h
  pub room : (h : HeldObject) → w.begun ≡ Some h → (length w.held.items < deque_capacity w.held) × (length w.extents.items < deque_capacity w.extents)
  pub counted : w.dropped + (length w.held.items + length (option_to_list w.begun)) ≤ 4294967295
  pub numbered : w.forgotten + length w.extents.items ≡ w.dropped + length w.held.items
  pub sized : (i : ℕ) (x : Extent) → slice_get w.extents.items i ≡ Some x → IsSized x
