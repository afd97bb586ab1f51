use Rattle.std.proofs.Common.{◌≡◌, ◌≤◌, [], length}
use Rattle.norm_script.specs.Reading.{take_lines}
use Rattle.norm_script.specs.Text.{text_lines}
use Rattle.norm_script.proofs.reader.read_from.Given as goal

-- the reading goes on from here
abbrev pub invariant-lines : goal.invariant-lines
invariant-lines l =
    (take_lines l.profile [] l.fn.n (text_lines l.text) ≡ take_lines l.profile l.lines.items l.n (text_lines l.rest))
    × (l.n ≤ 8193)

abbrev pub decreases-lines : goal.decreases-lines
decreases-lines l = length l.rest
