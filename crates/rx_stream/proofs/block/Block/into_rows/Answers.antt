use Rattle.std.proofs.Common.{◌≡◌, ◌<◌, ℕ, List, length, true, sym, subst}
use Rattle.std.specs.Prelude.{is_some}
use Rattle.std.specs.List.{AllByRecursion}
use Rattle.rx_stream.specs.BlockState.{BlockState, source_of}
use Rattle.rx_stream.proofs.HandingLemmas.{all_there}
use Rattle.rx_stream.proofs.block.Block.into_rows.Goals as goal

pub returns-clause-count : goal.returns-clause-count
returns-clause-count c =
    subst (λ (b : BlockState). length c.self.inside.rows.items ≡ b.k) c.self.view_is
    (all_there c.self.inside.k c.self.inside.size c.self.inside.ids.items c.self.inside.rows.items c.self.invariant.sound
    (subst (λ (b : BlockState). (symbol : ℕ) → symbol < b.k → is_some (source_of b symbol) ≡ true) (sym c.self.view_is) c.requires))

pub returns-clause-sizes : goal.returns-clause-sizes
returns-clause-sizes c =
    subst (λ (b : BlockState). AllByRecursion (λ (row : List ℕ). length row ≡ b.size) c.self.inside.rows.items) c.self.view_is c.self.invariant.sound.sizes
