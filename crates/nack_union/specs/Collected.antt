-- When a union has collected what the requests of the open round ask for.
use Rattle.std.specs.Prelude.{◌≡◌, ◌<◌, ◌≤◌, ℕ, ◌+◌, [], List, length, filter, get_or, slice_index, flat_map, map, None, IfSome}
use Rattle.std.specs.List.{AllByRecursion}
use Rattle.norm_base.specs.Settings.{Settings}
use Rattle.fec_plan.specs.Partition.{symbol_number}
use Rattle.fec_plan.specs.Points.{point}
use Rattle.norm_ext.specs.Asking.{Named}
use Rattle.norm_order.specs.Sets.{with_members}
use Rattle.norm_order.specs.Shapes.{last_source, shapes_of}
use Rattle.norm_send_rules.specs.SenderState.{SenderState, Asked}
use Rattle.norm_send_rules.specs.InWindow.{stands_behind, current_shapes, next_index}
use Rattle.norm_send_rules.specs.Asking.{wants_of, counts_of}
use Rattle.norm_send_rules.specs.Closing.{greatest}
use Rattle.norm_send_rules.specs.Wants.{want_before}
use Rattle.nack_union.specs.Earliest.{earliest_with}
use Rattle.nack_union.specs.Kept.{Marked, Kept, UnionReads, reads, listed}

-- a request by what it names, with how the order stands
abbrev pub asked_of : Settings → SenderState → Named → Asked
asked_of p s r = record { request = r; first = s.current.drop; next = next_index s; last = last_source (current_shapes p s) }

-- What is known of a request that came, of an order that now has so many entries: it had no more then; and where the last closed
-- source symbol of then is of an object of the window, it is closed still.
pub record IsKnownIn (u : Kept) (n : ℕ) (a : Asked) : Type 0 where
  pub next : a.next ≤ n
  pub last : IfSome a.last (λ at. (at.index < n) × ((k : ℕ) (d : Marked) → k < length u.objects → at.index ≡ u.first + k
      → symbol_number (get_or u.objects k d).cut at.block at.symbol + 1 ≤ (get_or u.objects k d).closed))

-- A union collected requests as each came, none before the order was as it stood then: the infos and symbols of the window
-- that they ask for by name, and of each kept block of the window the greatest count that is kept. The first point is the one from which they count.
pub record CollectsFor (p : Settings) (u : Kept) (r : UnionReads) (asked : List Asked) : Type 0 where
  pub known : AllByRecursion (IsKnownIn u (length r.order)) asked
  pub named : listed (λ m. m.asked) u.first u.objects
      ≡ with_members want_before (filter (stands_behind r.drop) (flat_map (wants_of (shapes_of p r.order)) asked)) []
  pub counts : (k : ℕ) (d : Marked) → k < length u.objects → (block : ℕ) → (get_or u.objects k d).first ≤ block
      → slice_index (get_or u.objects k d).counts block ≡ greatest (flat_map (counts_of (shapes_of p r.order)) asked) (point (u.first + k) block)
  pub earliest : u.earliest ≡ earliest_with None (map (λ (a : Asked). a.request) asked)

abbrev pub Collects : Settings → Kept → SenderState → List Asked → Type 0
Collects p u s asked = CollectsFor p u (reads s) asked
