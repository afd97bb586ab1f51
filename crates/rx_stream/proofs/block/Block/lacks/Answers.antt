use Rattle.std.proofs.Common.{◌≡◌, ◌-◌, sym, ap, subst, ◌∙◌, length, arith}
use Rattle.rx_stream.specs.BlockState.{BlockState, lacks}
use Rattle.rx_stream.proofs.BlockLemmas.{block_lacks}
use Rattle.rx_stream.proofs.block.Block.lacks.Goals as goal

pub returns-clause-exact : goal.returns-clause-exact
returns-clause-exact c =
    subst (λ (b : BlockState). c.self.inside.k - c.len.result ≡ lacks b) c.self.view_is
    (ap (λ n. c.self.inside.k - n) (let e : c.len.result ≡ length c.self.inside.ids.items = omega (arith, c.len.ensures, c.self.inside.ids.ok) in e)
    ∙ sym (block_lacks c.self.inside.k c.self.inside.size c.self.inside.ids.items c.self.inside.rows.items c.self.invariant.sound.count))
