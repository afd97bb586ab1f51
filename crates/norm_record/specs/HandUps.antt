-- Hand-ups, and the name by which one is found again.
use Rattle.std.specs.Prelude.{ℕ, ◌+◌, ◌*◌, ◌≡◌, List, map, slice_get, Some}
use Rattle.norm_order.specs.declared.up.Up.{Up}
use Rattle.norm_order.specs.declared.up.Up.TheVariants as up
use Rattle.norm_record.specs.declared.ups.HandUp.{HandUp}
use Rattle.norm_record.specs.Latest.{IsLast}

-- which part of its object a hand-up is, counted from 1 on, and the offset there
abbrev pub part_of : Up → ℕ × ℕ
part_of (up.Object index kind info octets) = (1, 0)
part_of (up.StreamOpen index) = (2, 0)
part_of (up.StreamBytes index offset octets) = (3, offset)
part_of (up.StreamEnd index) = (4, 0)
part_of (up.Lost index) = (5, 0)

-- its object's index
abbrev pub index_of : Up → ℕ
index_of (up.Object index kind info octets) = index
index_of (up.StreamOpen index) = index
index_of (up.StreamBytes index offset octets) = index
index_of (up.StreamEnd index) = index
index_of (up.Lost index) = index

-- its instance, part, index and offset, as one number
unfoldable pub up_name : ℕ → Up → ℕ
up_name instance up = ((instance * 256 + (part_of up).0) * 4294967296 + index_of up) * 4294967296 + (part_of up).1

abbrev pub kept_name : HandUp → ℕ
kept_name h = up_name h.instance h.up

abbrev pub kept_names : List HandUp → List ℕ
kept_names ups = map kept_name ups

-- this is the hand-up at this place, and no later one has its name
pub record IsLatestUp (ups : List HandUp) (hand_up : HandUp) (at : ℕ) : Type 0 where
  pub is : slice_get ups at ≡ Some hand_up
  pub last : IsLast (kept_names ups) (kept_name hand_up) at
