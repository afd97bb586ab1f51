-- The items of a request, one by one.
use Rattle.std.proofs.Common.{refl, ◌≡◌, ℕ, ◌≤◌, ◌<◌, List, [], ◌∷◌, length, drop, arith}
use Rattle.norm_ext.specs.Numbers.{number, name_at}
use Rattle.norm_ext.specs.Requests.{items_named}
use Rattle.norm_ext.specs.declared.head.Item.{Item}

-- the item at the front of octets
abbrev pub front_item : List ℕ → Item
front_item xs = record { object = number 2 2 xs; id = name_at 4 xs }

-- the first, and those of the octets behind it
pub items_front : (xs : List ℕ) → 8 ≤ length xs → items_named xs ≡ front_item xs ∷ items_named (drop 8 xs)
items_front [] le = absurd (omega arith)
items_front (a ∷ []) le = absurd (omega arith)
items_front (a ∷ b ∷ []) le = absurd (omega arith)
items_front (a ∷ b ∷ c ∷ []) le = absurd (omega arith)
items_front (a ∷ b ∷ c ∷ d ∷ []) le = absurd (omega arith)
items_front (a ∷ b ∷ c ∷ d ∷ e ∷ []) le = absurd (omega arith)
items_front (a ∷ b ∷ c ∷ d ∷ e ∷ f ∷ []) le = absurd (omega arith)
items_front (a ∷ b ∷ c ∷ d ∷ e ∷ f ∷ g ∷ []) le = absurd (omega arith)
items_front (a ∷ b ∷ c ∷ d ∷ e ∷ f ∷ g ∷ h ∷ rest) le = refl

-- fewer octets than an item has make none
pub items_none : (xs : List ℕ) → length xs < 8 → items_named xs ≡ []
items_none [] lt = refl
items_none (a ∷ []) lt = refl
items_none (a ∷ b ∷ []) lt = refl
items_none (a ∷ b ∷ c ∷ []) lt = refl
items_none (a ∷ b ∷ c ∷ d ∷ []) lt = refl
items_none (a ∷ b ∷ c ∷ d ∷ e ∷ []) lt = refl
items_none (a ∷ b ∷ c ∷ d ∷ e ∷ f ∷ []) lt = refl
items_none (a ∷ b ∷ c ∷ d ∷ e ∷ f ∷ g ∷ []) lt = refl
items_none (a ∷ b ∷ c ∷ d ∷ e ∷ f ∷ g ∷ h ∷ rest) lt = absurd (omega arith)
