-- Slots of a run, and of the source symbols of an object.
use Rattle.std.proofs.Common.{◌≡◌, ℕ, zero, suc, ◌+◌, ◌-◌, ◌*◌, ◌/◌, ◌%◌, ◌<◌, ◌≤◌, ◌⊎◌, inl, inr, false, refl, sym, ap, ◌∙◌, arith}
use Rattle.std.specs.Prelude.{◌&&◌, ◌||◌, nat_lt, min, max}
use Rattle.std.proofs.lemmas.Bool.Decides.{nat_tests}
use Rattle.std.proofs.lemmas.Bool.{cases_eq, cases_lt}
use Rattle.std.proofs.Math.Nat.{div-add-mod}
use Rattle.fec_plan.specs.Partition.{blocks}
use Rattle.norm_order.specs.Shapes.{Shape, closed_in}
use Rattle.nack_union.specs.More.{is_source_slot, is_below}
use Rattle.symbol_mask.specs.Words.{in_run}

-- a symbol of the block that comes next, or of another
plain_more : (n m k j b from to low high : ℕ) → j ≤ 256 → b < m → (n / 256 ≡ b → k ≡ j) → low ≡ max (256 * b + 0 + 1) from → high ≡ min (256 * b + 0 + 1 + j) to
    → ((nat_lt (n / 256) m && nat_lt (n % 256) k && in_run from to (suc n) && nat_lt (n / 256) b) || in_run low high (suc n))
    ≡ (nat_lt (n / 256) m && nat_lt (n % 256) k && in_run from to (suc n) && nat_lt (n / 256) (b + 1))
plain_more n m k j b from to low high few lt same first last = go (cases_eq (n / 256) b)
  where
    here : n / 256 ≡ b → k ≡ j
        → ((nat_lt (n / 256) m && nat_lt (n % 256) k && in_run from to (suc n) && nat_lt (n / 256) b) || in_run low high (suc n))
        ≡ (nat_lt (n / 256) m && nat_lt (n % 256) k && in_run from to (suc n) && nat_lt (n / 256) (b + 1))
    here e f = grind (arith, nat_tests, div-add-mod n 256)

    go : (n / 256 ≡ b) ⊎ (n / 256 ≡ b → ⊥)
        → ((nat_lt (n / 256) m && nat_lt (n % 256) k && in_run from to (suc n) && nat_lt (n / 256) b) || in_run low high (suc n))
        ≡ (nat_lt (n / 256) m && nat_lt (n % 256) k && in_run from to (suc n) && nat_lt (n / 256) (b + 1))
    go (inl e) = here e (same e)
    go (inr ne) = grind (arith, nat_tests, div-add-mod n 256)

-- the source symbols of one block more, by their slots
pub slot_more : (c : Shape) (slot b from to low high j : ℕ) → j ≡ closed_in c b → j ≤ 256 → b < blocks c.cut
    → low ≡ max (256 * b + 0 + 1) from → high ≡ min (256 * b + 0 + 1 + j) to
    → ((is_source_slot c slot && in_run from to slot && is_below b slot) || in_run low high slot)
    ≡ (is_source_slot c slot && in_run from to slot && is_below (b + 1) slot)
slot_more c zero b from to low high j is few lt first last = grind (arith, nat_tests)
slot_more c (suc n) b from to low high j is few lt first last =
    plain_more n (blocks c.cut) (closed_in c (n / 256)) j b from to low high few lt (λ e. ap (closed_in c) e ∙ sym is) first last

plain_none : (n m k from to start : ℕ) → start ≡ from - 1 → (nat_lt (n / 256) m && nat_lt (n % 256) k && in_run from to (suc n) && nat_lt (n / 256) (start / 256)) ≡ false
plain_none n m k from to start is = grind (arith, nat_tests, div-add-mod n 256, div-add-mod start 256)

-- none before the first block that has one
pub blocks_none : (c : Shape) (slot from to start : ℕ) → start ≡ from - 1 → (is_source_slot c slot && in_run from to slot && is_below (start / 256) slot) ≡ false
blocks_none c zero from to start is = refl
blocks_none c (suc n) from to start is = plain_none n (blocks c.cut) (closed_in c (n / 256)) from to start is

plain_end : (n m k from to start i top behind room : ℕ) → start ≡ from - 1 → behind ≡ min top room → (room ≤ n / 256 → k ≡ 0) → to - 1 ≤ 256 * top → i ≤ max (start / 256) behind → behind ≤ i
    → (nat_lt (n / 256) m && nat_lt (n % 256) k && in_run from to (suc n) && nat_lt (n / 256) i) ≡ (nat_lt (n / 256) m && nat_lt (n % 256) k && in_run from to (suc n))
plain_end n m k from to start i top behind room is last none cover most least = go (cases_lt (n / 256) room)
  where
    empty : k ≡ 0
        → (nat_lt (n / 256) m && nat_lt (n % 256) k && in_run from to (suc n) && nat_lt (n / 256) i) ≡ (nat_lt (n / 256) m && nat_lt (n % 256) k && in_run from to (suc n))
    empty e = grind (arith, nat_tests)

    go : (n / 256 < room) ⊎ (room ≤ n / 256)
        → (nat_lt (n / 256) m && nat_lt (n % 256) k && in_run from to (suc n) && nat_lt (n / 256) i) ≡ (nat_lt (n / 256) m && nat_lt (n % 256) k && in_run from to (suc n))
    go (inl lt) = grind (arith, nat_tests, div-add-mod n 256, div-add-mod start 256)
    go (inr past) = empty (none past)

-- and none behind the last of those that have room, behind which nothing is closed
pub blocks_end : (c : Shape) (slot from to start i top behind room : ℕ) → start ≡ from - 1 → behind ≡ min top room → ((block : ℕ) → room ≤ block → closed_in c block ≡ 0)
    → to - 1 ≤ 256 * top → i ≤ max (start / 256) behind → behind ≤ i
    → (is_source_slot c slot && in_run from to slot && is_below i slot) ≡ (is_source_slot c slot && in_run from to slot)
blocks_end c zero from to start i top behind room is last none cover most least = refl
blocks_end c (suc n) from to start i top behind room is last none cover most least =
    plain_end n (blocks c.cut) (closed_in c (n / 256)) from to start i top behind room is last (none (n / 256)) cover most least
