-- How much of an entry of a window may still have to be repaired.
use Rattle.std.specs.Prelude.{ℕ, ◌+◌, ◌-◌, true, false}
use Rattle.std.specs.List.{sum_by, range_with_len}
use Rattle.norm_order.specs.Shapes.{Shape, encoded_in, closed_blocks}

-- how many infos and encoded symbols an object of this shape has from one of its blocks on: its info counts whichever that is
abbrev pub repairable_from : Shape → ℕ → ℕ
repairable_from s first =
    (elim s.info as (λ x. ℕ) [ true ↦ 1 | false ↦ 0 ]) + sum_by (encoded_in s) (range_with_len first (closed_blocks s - first))
