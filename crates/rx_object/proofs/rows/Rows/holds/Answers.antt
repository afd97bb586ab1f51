use Rattle.std.proofs.Common.{[], ap, ◌∙◌, arith}
use Rattle.std.specs.Prelude.{nat_lt}
use Rattle.std.proofs.lemmas.List.{get_or_default}
use Rattle.norm_order.specs.Sets.{is_member}
use Rattle.rx_object.proofs.rows.Rows.holds.Goals as goal

pub returns : goal.returns
returns c =
    let rows = c.requires.rows in
    c.contains.ensures
    ∙ ap (λ m. is_member nat_lt c.args.symbol m) (c.index.ensures ∙ get_or_default c.args.self.now.masks.items c.args.block c.index.result.now [] (omega (arith, rows.masks, c.requires.block)))
    ∙ rows.came c.args.block c.requires.block c.args.symbol c.requires.id
