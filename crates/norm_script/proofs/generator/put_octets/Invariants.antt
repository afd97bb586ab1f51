use Rattle.std.proofs.Common.{◌≡◌, ◌+◌, ◌%◌, ◌++◌, map}
use Rattle.std.specs.List.{range_with_len}
use Rattle.hex.specs.Hex.{encode_lower}
use Rattle.norm_script.proofs.generator.put_octets.Given as goal

-- the digits of the octets so far
abbrev pub invariant-loop-j : goal.invariant-loop-j
invariant-loop-j l = l.row.items ≡ l.fn.row.items ++ encode_lower (map (λ j. (l.n + l.p + l.i + j) % 256) (range_with_len 0 l.j))
