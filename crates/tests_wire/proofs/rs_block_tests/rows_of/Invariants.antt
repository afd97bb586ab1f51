use Rattle.gf_field.specs.Symbol.{AreSymbols}
use Rattle.tests_wire.proofs.rs_block_tests.rows_of.Given as goal

abbrev pub invariant-loop-symbol : goal.invariant-loop-symbol
invariant-loop-symbol l = AreSymbols l.symbol-index 1 l.rows.items
