use Rattle.std.proofs.Common.{◌<◌, ◌≤◌, ap, sym, subst, ◌∙◌, arith}
use Rattle.std.specs.Prelude.{nat_lt}
use Rattle.std.proofs.lemmas.Bool.{le-ltb}
use Rattle.fec_plan.specs.Partition.{Cut, IsSound, blocks, source_symbols}
use Rattle.tx_window.proofs.SourceLemmas.{closed_here, closed_past}
use Rattle.tx_window.proofs.extent.is_of_object.Goals as goal

pub returns-then-block-blocks : goal.returns-then-block-blocks
returns-then-block-blocks c =
    let p = c.args.profile.now in
    let plan = c.plan_of-plan.ensures in
    ap (nat_lt c.args.symbol) (c.source_len.ensures.exact ∙ ap (λ (k : Cut). source_symbols k c.args.block) plan
    ∙ sym (closed_here p c.args.len c.args.block (subst IsSound plan c.blocks-2.ensures.sound)
    (subst (λ (k : Cut). c.args.block < blocks k) plan (omega (arith, c.if-block-blocks.true, c.blocks-2.ensures.exact)))))

pub returns-else-block-blocks : goal.returns-else-block-blocks
returns-else-block-blocks c =
    let p = c.args.profile.now in
    let plan = c.plan_of-plan.ensures in
    le-ltb c.args.block c.blocks-2.result c.if-block-blocks.false
    ∙ sym (le-ltb c.args.symbol 0 (omega arith))
    ∙ ap (nat_lt c.args.symbol) (sym (closed_past p c.args.len c.args.block (subst IsSound plan c.blocks-2.ensures.sound)
    (subst (λ (k : Cut). blocks k ≤ c.args.block) plan (omega (arith, c.if-block-blocks.false, c.blocks-2.ensures.exact)))))
