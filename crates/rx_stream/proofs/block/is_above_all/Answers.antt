use Rattle.std.proofs.Common.{sym, ◌∙◌, length}
use Rattle.std.proofs.lemmas.Bool.{eqb-true}
use Rattle.rx_stream.proofs.Inserting.{none_all, above_all}
use Rattle.rx_stream.proofs.block.is_above_all.Goals as goal

pub returns-then-is_empty : goal.returns-then-is_empty
returns-then-is_empty c = λ e. none_all c.args.ids.now c.args.id (eqb-true (length c.args.ids.now) 0 (sym c.is_empty.ensures ∙ c.if-is_empty.true))

pub returns : goal.returns
returns c = λ e. above_all c.args.ids.now c.args.id c.requires e
