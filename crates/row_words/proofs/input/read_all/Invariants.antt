use Rattle.std.proofs.Common.{◌-◌, ◌^◌}
use Rattle.row_words.proofs.input.read_all.Given as goal

-- a source gives fewer than 2^63 octets
abbrev pub decreases-loop-n : goal.decreases-loop-n
decreases-loop-n g l = 2 ^ 63 - g.S.Source.given l.input
