-- The end of an object that was filled.
use Rattle.std.specs.Prelude.{ℕ, ◌≡◌, ◌-◌, List, ◌++◌, length, replicate}
use Rattle.tx_object.specs.Held.{HeldObject, octets_in}
use Rattle.tx_object.specs.Placed.{taken_by}
use Rattle.tx_object.specs.Round.{round, IsClear}

-- Zeros are behind so many octets of an object, up to the end of its last symbol, and what lies clear of the object in the ring is as it
-- was.
pub record IsEnded (ring new : List ℕ) (filled : ℕ) (h : HeldObject) : Type 0 where
  pub size : length new ≡ length ring
  pub octets : octets_in new h ≡ round ring h.start filled ++ replicate (taken_by h - filled) 0
  pub others : (other count : ℕ) → IsClear (length ring) h.start (taken_by h) other count → round new other count ≡ round ring other count
