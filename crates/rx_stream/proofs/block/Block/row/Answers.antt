use Rattle.std.proofs.Common.{◌≡◌, sym, ap, subst, ◌∙◌, length, get_or, arith}
use Rattle.std.specs.Prelude.{Some, None}
use Rattle.rx_stream.specs.BlockState.{BlockState, source_of}
use Rattle.rx_stream.specs.BlockMoves.{IsRow}
use Rattle.rx_stream.proofs.BlockLemmas.{row_done, row_open, row_none}
use Rattle.rx_stream.proofs.block.Block.row.Goals as goal

pub returns-then-len-from-clause-coded : goal.returns-then-len-from-clause-coded
returns-then-len-from-clause-coded c =
    let k : c.self.inside.k ≡ c.args.self.now.k = ap (λ (b : BlockState). b.k) c.self.view_is in
    subst (λ (b : BlockState). IsRow b.size (source_of b c.args.symbol) (Some c.index.result.now)) c.self.view_is
    (row_done c.self.inside.k c.self.inside.size c.args.symbol c.self.inside.ids.items c.self.inside.rows.items c.index.result.now c.self.invariant.sound
    (omega (arith, c.if-len-from.true, c.len.ensures, c.from.ensures, c.self.inside.ids.ok))
    (let lt = c.requires in omega (arith, lt, k))
    (c.index.ensures ∙ ap (λ n. get_or c.self.inside.rows.items n c.index.result.now) c.from-then-len-from.ensures))

pub returns-in-Some-clause-coded : goal.returns-in-Some-clause-coded
returns-in-Some-clause-coded c =
    let k : c.self.inside.k ≡ c.args.self.now.k = ap (λ (b : BlockState). b.k) c.self.view_is in
    subst (λ (b : BlockState). IsRow b.size (source_of b c.args.symbol) (Some c.index-in-Some.result.now)) c.self.view_is
    (row_open c.self.inside.k c.self.inside.size c.args.symbol c.in-Some.place c.self.inside.ids.items c.self.inside.rows.items c.index-in-Some.result.now c.self.invariant.sound
    (let few = c.self.invariant.sound.few in omega (arith, few, c.if-len-from.false, c.len.ensures, c.from.ensures, c.self.inside.ids.ok))
    (let lt = c.requires in omega (arith, lt, k))
    (let lt = c.in-Some.ensures.0 in let e = ap length c.deref.ensures.value in omega (arith, lt, e))
    (sym (ap (λ xs. get_or xs c.in-Some.place 0) c.deref.ensures.value) ∙ c.in-Some.ensures.1)
    c.index-in-Some.ensures)

pub returns-in-None-clause-coded : goal.returns-in-None-clause-coded
returns-in-None-clause-coded c =
    subst (λ (b : BlockState). IsRow b.size (source_of b c.args.symbol) None) c.self.view_is
    (row_none c.self.inside.k c.self.inside.size c.args.symbol c.self.inside.ids.items c.self.inside.rows.items c.self.invariant.sound
    (let few = c.self.invariant.sound.few in omega (arith, few, c.if-len-from.false, c.len.ensures, c.from.ensures, c.self.inside.ids.ok))
    (λ i lt e. c.in-None.ensures i (let f = ap length c.deref.ensures.value in omega (arith, lt, f)) (ap (λ xs. get_or xs i 0) c.deref.ensures.value ∙ e)))
