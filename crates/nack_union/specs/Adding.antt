-- What requests add to what a union collected (RFC 5740 sections 4.3.1 and 5.4): of each object of the window the slots that
-- they ask for by name, and of each block the greatest count.
use Rattle.std.specs.Prelude.{ℕ, zero, suc, true, Some, ◌≡◌, ◌+◌, ◌<◌, ◌≤◌, ◌/◌, ◌%◌, ◌==◌, ◌&&◌, ◌||◌, List, length, max, Bool, nat_lt, get_or, slice_index, flat_map}
use Rattle.std.specs.List.{list_any}
use Rattle.fec_plan.specs.Partition.{IsSound, blocks, all_symbols, encoding_symbols}
use Rattle.fec_plan.specs.Points.{point, position}
use Rattle.fec_plan.specs.declared.position.Position.{Position}
use Rattle.norm_ext.specs.Asking.{Named, asks_source, asks_info, asked_symbols, asked_counts}
use Rattle.norm_order.specs.Sets.{is_member, Rises}
use Rattle.norm_order.specs.Shapes.{Shape, closed_in, encoded_in}
use Rattle.norm_send_rules.specs.Closing.{greatest}
use Rattle.norm_send_rules.specs.Laws.{Rise}
use Rattle.nack_union.specs.Slots.{stands_from}
use Rattle.nack_union.specs.More.{kept_count}
use Rattle.nack_union.specs.Earliest.{earliest_with}
use Rattle.nack_union.specs.Kept.{Marked, Kept, listed, shape_of_marked, symbols_of_marked}

-- a request names this encoded symbol, which may be a parity symbol
abbrev pub names_symbol : Named → Position → Bool
names_symbol r at = list_any
    (λ (x : Position). x.index == at.index && x.block == at.block && x.symbol == at.symbol) (asked_symbols r)

-- a request asks by name for a symbol of an object of this shape
abbrev pub asks_symbol : Named → Shape → Position → Bool
asks_symbol r c at = nat_lt at.block (blocks c.cut) && (
    (nat_lt at.symbol (closed_in c at.block) && asks_source r at)
    || (nat_lt at.symbol (encoded_in c at.block) && names_symbol r at))

-- a request asks by name for what stands at a slot of an object with this index
abbrev pub asks_slot : Named → ℕ → Marked → ℕ → Bool
asks_slot r index m zero = m.info && asks_info r index
asks_slot r index m (suc n) = asks_symbol r (symbols_of_marked m) (position index (n / 256) (n % 256))

-- one of these requests does
abbrev pub is_asked_slot : List Named → ℕ → Marked → ℕ → Bool
is_asked_slot requests index m slot = list_any (λ r. asks_slot r index m slot) requests

-- requests were added to what was collected of what is kept of the object with this index
pub record HasAsked (requests : List Named) (index : ℕ) (old new : Marked) : Type 0 where
  pub rest : new ≡ record old { asked = new.asked; counts = new.counts }
  pub asked : (slot : ℕ) → stands_from old.first slot ≡ true → is_member nat_lt slot new.asked ≡ (is_member nat_lt slot old.asked || is_asked_slot requests index old slot)
  pub blocks : length new.counts ≡ length old.counts
  pub counts : (block : ℕ) → old.first ≤ block → block < length old.counts
      → slice_index new.counts block
      ≡ max (slice_index old.counts block) (kept_count (symbols_of_marked old) block (greatest (flat_map asked_counts requests) (point index block)))

-- requests were added to what a union collected
pub record HasAdded (requests : List Named) (old new : Kept) : Type 0 where
  pub first : new.first ≡ old.first
  pub objects : length new.objects ≡ length old.objects
  pub each : (k : ℕ) (d : Marked) → k < length old.objects
      → HasAsked requests (old.first + k) (get_or old.objects k d) (get_or new.objects k d)
  pub rise : Rise (listed (λ m. m.asked) new.first new.objects)
  pub earliest : new.earliest ≡ earliest_with old.earliest requests

-- What holds of each object: nothing is wrong with its cut, no more symbols are closed than it has, and all that it has
-- where it has a length; its symbols' ids have 8 bits, each block of which something is closed has a count, and what is asked for is of
-- what is kept, and rises.
pub record IsPlanned (m : Marked) : Type 0 where
  pub sound : IsSound m.cut
  pub closed : m.closed ≤ all_symbols m.cut
  pub whole : (l : ℕ) → m.cut.l ≡ Some l → m.closed ≡ all_symbols m.cut
  pub few : (block : ℕ) → encoding_symbols m.cut block ≤ 255
  pub counts : (block : ℕ) → length m.counts ≤ block → closed_in (shape_of_marked m) block ≡ 0
  pub kept : (slot : ℕ) → is_member nat_lt slot m.asked ≡ true → stands_from m.first slot ≡ true
  pub rises : Rises m.asked
