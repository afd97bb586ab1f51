-- What holds of each union.
use Rattle.std.specs.Prelude.{◌≡◌, ℕ, ◌+◌, ◌<◌, ◌≤◌, ◌^◌, ◌⊎◌, List, [], length, get_or, replicate, count_by, nat_lt}
use Rattle.std.specs.List.{AllByRecursion}
use Rattle.nack_union.specs.Kept.{Kept, Marked}
use Rattle.nack_union.specs.Adding.{IsPlanned}
use Rattle.nack_union.specs.declared.collection.Collection.TheInside.{Inside}

-- the open round asks for nothing of an object
abbrev pub IsIdle : Marked → Type 0
IsIdle m = (m.asked ≡ []) × (m.counts ≡ replicate (length m.counts) 0)

-- it asks for nothing of the objects before one place, and of those from another on
abbrev pub AreIdle : ℕ → ℕ → List Marked → Type 0
AreIdle low high ms = (k : ℕ) (d : Marked) → k < length ms → (k < low) ⊎ (high ≤ k) → IsIdle (get_or ms k d)

-- nothing is wanted of the objects before a place
abbrev pub AreQuiet : ℕ → List Marked → Type 0
AreQuiet quiet ms = (k : ℕ) (d : Marked) → k < length ms → k < quiet → (get_or ms k d).wants ≡ []

-- of how many objects something is wanted
abbrev pub wanting : List Marked → ℕ
wanting ms = count_by (λ m. nat_lt 0 (length m.wants)) ms

-- The indexes of all objects are numbers of 32 bits, the round asks for nothing outside of a range of places, nothing is
-- wanted before one, it is known of how many objects something is, and nothing is wrong with any.
pub record CollectionSound (u : Inside) : Type 0 where
  pub few : u.first + length u.objects.items ≤ 2 ^ 32
  pub idle : AreIdle u.low u.high u.objects.items
  pub quiet : AreQuiet u.quiet u.objects.items
  pub counted : u.wanting ≡ wanting u.objects.items
  pub planned : AllByRecursion IsPlanned u.objects.items

abbrev pub collection_view : Inside → Kept
collection_view u = record { first = u.first; objects = u.objects.items; earliest = u.earliest }
