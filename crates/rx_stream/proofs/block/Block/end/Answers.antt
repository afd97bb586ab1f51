use Rattle.std.proofs.Common.{◌≡◌, sym, ap, subst, ◌∙◌, arith}
use Rattle.std.specs.Prelude.{None, vec_len}
use Rattle.std.proofs.lemmas.Bool.{eqb-true}
use Rattle.rx_stream.specs.BlockState.{BlockState, end_in_block, is_end_at}
use Rattle.rx_stream.specs.BlockSound.{block_of}
use Rattle.rx_stream.proofs.BlockLemmas.{none_came}
use Rattle.rx_stream.proofs.HandingLemmas.{no_end, found_at, found_none}
use Rattle.rx_stream.proofs.block.Block.end.Goals as goal

pub returns-then-is_empty : goal.returns-then-is_empty
returns-then-is_empty c =
    subst (λ (b : BlockState). None ≡ end_in_block c.args.most b) c.self.view_is
    (sym (no_end c.args.most (block_of c.self.inside.k c.self.inside.size c.self.inside.ids.items c.self.inside.rows.items)
    (none_came c.self.inside.k c.self.inside.size c.self.inside.ids.items c.self.inside.rows.items (let n = eqb-true (vec_len c.self.inside.ids) 0 (sym c.is_empty.ensures ∙ c.if-is_empty.true) in omega (arith, n, c.self.inside.ids.ok))) c.self.invariant.sound.some))

pub returns-then-is_end : goal.returns-then-is_end
returns-then-is_end c =
    sym (found_at (is_end_at c.args.most c.args.self.now) 0 c.args.self.now.k c.loop-symbol.symbol (omega arith) (omega (arith, c.loop-symbol-test.true, ap (λ (b : BlockState). b.k) c.self.view_is))
    (sym c.is_end.ensures ∙ c.if-is_end.true) (λ i up under. c.loop-symbol.invariant i under))

pub returns : goal.returns
returns c =
    sym (found_none (is_end_at c.args.most c.args.self.now) 0 c.args.self.now.k
    (λ i up under. c.loop-symbol.invariant i (omega (arith, under, c.loop-symbol-test.false, ap (λ (b : BlockState). b.k) c.self.view_is))))
