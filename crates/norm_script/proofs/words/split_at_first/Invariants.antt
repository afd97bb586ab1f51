use Rattle.std.proofs.Common.{◌≡◌, ◌++◌, ℕ, List, take, drop}
use Rattle.std.specs.Option.{option_map}
use Rattle.norm_script.specs.Text.{split_at_first}
use Rattle.norm_script.proofs.words.split_at_first.Given as goal

-- none of these so far
abbrev pub invariant-loop-i : goal.invariant-loop-i
invariant-loop-i l =
    split_at_first l.octet l.bytes ≡ option_map (λ (p : List ℕ × List ℕ). (take l.i l.bytes ++ p.0, p.1)) (split_at_first l.octet (drop l.i l.bytes))
