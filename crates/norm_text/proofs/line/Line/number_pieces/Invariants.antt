use Rattle.std.proofs.Common.{◌≡◌, map, take}
use Rattle.std.specs.Fmt.{decimal}
use Rattle.norm_text.specs.Words.{with_pieces}
use Rattle.norm_text.proofs.line.Line.number_pieces.Given as goal

-- the numbers so far
abbrev pub invariant-loop-n : goal.invariant-loop-n
invariant-loop-n l = l.self ≡ with_pieces l.by l.fn.self (map decimal (take l.n-index l.numbers))
