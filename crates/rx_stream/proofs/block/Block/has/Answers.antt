use Rattle.std.proofs.Common.{◌≡◌, sym, subst, ◌∙◌}
use Rattle.rx_stream.specs.BlockState.{BlockState, has_id}
use Rattle.rx_stream.proofs.BlockLemmas.{block_has}
use Rattle.rx_stream.proofs.block.Block.has.Goals as goal

pub returns : goal.returns
returns c =
    subst (λ (b : BlockState). c.contains.result ≡ has_id b c.args.id) c.self.view_is
    (c.contains.ensures ∙ c.self.invariant.mask c.args.id
    ∙ sym (block_has c.self.inside.k c.self.inside.size c.args.id c.self.inside.ids.items c.self.inside.rows.items c.self.invariant.sound.count))
