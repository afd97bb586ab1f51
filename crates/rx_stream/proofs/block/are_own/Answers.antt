use Rattle.std.proofs.Common.{◌-◌, sym, ◌∙◌, length, arith}
use Rattle.std.proofs.lemmas.Bool.{eq-eqb, eqb-true}
use Rattle.std.proofs.lemmas.Bool.Decides.{nat_tests}
use Rattle.rx_stream.proofs.BlockLemmas.{own_by_last}
use Rattle.rx_stream.proofs.block.are_own.Goals as goal

pub returns : goal.returns
returns c = (
  λ own i lt.
      own_by_last c.args.ids.now (length c.args.ids.now - 1) c.requires (omega (arith, lt))
      (sym c.from.ensures ∙ eqb-true c.from.result (length c.args.ids.now - 1) own) i lt,
  λ own. eq-eqb c.from.result (length c.args.ids.now - 1) (c.from.ensures ∙ own (length c.args.ids.now - 1) (let some = c.if-is_empty.false in let is = c.is_empty.ensures in grind (arith, nat_tests))),
)
