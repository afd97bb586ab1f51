-- The block that is looked at lacks symbols, where there is one.
use Rattle.std.specs.Prelude.{IfSome}
use Rattle.rx_hold.specs.Asked.{IsShortIn}
use Rattle.tests_receiver_parts.proofs.rx_walk_tests.short_blocks.Given as goal

abbrev pub invariant-loop-count : goal.invariant-loop-count
invariant-loop-count l = IfSome l.short (λ block. IsShortIn l.hold l.index block)
