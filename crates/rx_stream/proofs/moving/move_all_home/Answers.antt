use Rattle.rx_stream.specs.SameBlock.{SameBlock}
use Rattle.rx_stream.proofs.Solving.{same_kept, same_on}
use Rattle.rx_stream.proofs.moving.move_all_home.Goals as goal

pub loop-behind-init : goal.loop-behind-init
loop-behind-init c = λ k size most are symbols. same_kept k size c.args.ids.now c.args.rows.now are symbols

pub loop-behind-preserved : goal.loop-behind-preserved
loop-behind-preserved c = λ k size most are symbols.
    let before : SameBlock k size c.args.ids.now c.args.rows.now c.loop-behind.ids c.loop-behind.rows = c.loop-behind.invariant k size most are symbols in
    same_on k size c.args.ids.now c.loop-behind.ids c.move_home.new.ids c.args.rows.now c.loop-behind.rows c.move_home.new.rows before
    (c.move_home.ensures k size most before.ids_are before.symbols_are)
