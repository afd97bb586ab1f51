use Rattle.std.proofs.Common.{◌≡◌, ◌-◌, ◌^◌}
use Rattle.norm_base.specs.Told.{before_taking}
use Rattle.norm_endings.proofs.input.read_all.Given as goal

-- the text so far and what is left are the input, and no read failed
abbrev pub invariant-loop-text : goal.invariant-loop-text
invariant-loop-text g l =
    (g.S.Source.left l.fn.input ≡ before_taking l.text.items (g.S.Source.left l.input))
    × (g.S.Source.fault_count l.input ≡ g.S.Source.fault_count l.fn.input)

abbrev pub decreases-loop-text : goal.decreases-loop-text
decreases-loop-text g l = 2 ^ 63 - g.S.Source.given l.input
