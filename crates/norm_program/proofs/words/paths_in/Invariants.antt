use Rattle.std.proofs.Common.{◌≡◌, List, ℕ, map, take}
use Rattle.norm_program.proofs.words.paths_in.Given as goal

-- the paths so far
abbrev pub invariant-loop-pair : goal.invariant-loop-pair
invariant-loop-pair l = l.paths.items ≡ map (λ (pair : List ℕ × ℕ). pair.0) (take l.pair-index l.pairs)
