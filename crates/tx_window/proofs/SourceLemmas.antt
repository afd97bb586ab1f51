-- Which source symbols of a whole object are closed.
use Rattle.std.proofs.Common.{◌≡◌, ℕ, ◌+◌, ◌-◌, ◌<◌, ◌≤◌, refl, arith}
use Rattle.std.specs.Prelude.{min}
use Rattle.fec_plan.specs.Partition.{IsSound, cut_of, symbols_in, blocks_in, blocks, source_symbols, all_symbols, symbol_number}
use Rattle.fec_plan.proofs.CutLemmas.{some_blocks}
use Rattle.norm_order.specs.Shapes.{closed_in}
use Rattle.fec_plan.proofs.PartitionLemmas.{sources_within}
use Rattle.norm_base.specs.Settings.{Settings}
use Rattle.tx_window.specs.WindowState.{shape_of_length}
use Rattle.tx_object.proofs.HeldLemmas.{all_before}

pub closed_here : (p : Settings) (l block : ℕ) → IsSound (cut_of l p.e p.b p.max_n) → block < blocks (cut_of l p.e p.b p.max_n)
    → closed_in (shape_of_length p l) block ≡ source_symbols (cut_of l p.e p.b p.max_n) block
closed_here p l block sound there =
    full (source_symbols (cut_of l p.e p.b p.max_n) block) (all_symbols (cut_of l p.e p.b p.max_n)) (symbol_number (cut_of l p.e p.b p.max_n) block 0)
    (sources_within (cut_of l p.e p.b p.max_n) block sound refl there)
  where
    full : (size all first : ℕ) → first + size ≤ all → min size (all - first) ≡ size
    full size all first le = omega arith

pub closed_past : (p : Settings) (l block : ℕ) → IsSound (cut_of l p.e p.b p.max_n) → blocks (cut_of l p.e p.b p.max_n) ≤ block
    → closed_in (shape_of_length p l) block ≡ 0
closed_past p l block sound past =
    none (source_symbols (cut_of l p.e p.b p.max_n) block) (all_symbols (cut_of l p.e p.b p.max_n)) (symbol_number (cut_of l p.e p.b p.max_n) block 0)
    (omega (
      arith,
      all_before (symbols_in l p.e) (blocks_in (symbols_in l p.e) p.b) block (some_blocks (symbols_in l p.e) p.b sound.some sound.least_b) past,
    ))
  where
    none : (size all first : ℕ) → all ≤ first → min size (all - first) ≡ 0
    none size all first le = omega arith
