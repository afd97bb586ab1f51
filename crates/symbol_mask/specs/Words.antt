-- A set of places as words of 64 bits, the lowest place in the lowest bit of the first word.
use Rattle.std.specs.Prelude.{◌≡◌, ◌≤◌, ℕ, ◌*◌, ◌/◌, ◌%◌, ◌^◌, ◌==◌, ◌&&◌, not, nat_lt, List, length, take, filter, Bool, false, slice_index}
use Rattle.std.specs.Int.{bit_at}
use Rattle.std.specs.List.{range_with_len, AllByRecursion}
use Rattle.symbol_mask.specs.Places.{Places}
use Rattle.symbol_mask.specs.declared.mask.Mask.TheInside.{Inside}

-- a place's bit is set
abbrev pub has_bit : List ℕ → ℕ → Bool
has_bit words place = bit_at (slice_index words (place / 64)) (place % 64) == 1

-- the places below a size whose bits are set
abbrev pub places_of : ℕ → List ℕ → Places
places_of size words = record { size = size; members = filter (has_bit words) (range_with_len 0 size) }

-- The words before the lowest one that may have a member are empty, a place is a number of 64 bits, each place below the
-- size has a bit, and no other bit is set.
pub record IsSound (m : Inside) : Type 0 where
  pub small : length m.words.items ≤ 2 ^ 58
  pub within : m.lowest ≤ length m.words.items
  pub empty : AllByRecursion (λ word. word ≡ 0) (take m.lowest m.words.items)
  pub room : m.size ≤ 64 * length m.words.items
  pub rest : (place : ℕ) → m.size ≤ place → has_bit m.words.items place ≡ false

abbrev pub mask_view : Inside → Places
mask_view m = places_of m.size m.words.items

-- from one number up to another
abbrev pub in_run : ℕ → ℕ → ℕ → Bool
in_run from to n = not (nat_lt n from) && nat_lt n to
