use Rattle.std.proofs.Common.{◌≡◌, ◌*◌, ◌++◌, drop, map}
use Rattle.std.specs.Option.{option_map}
use Rattle.norm_args.specs.NodeTasks.{pairs_of}
use Rattle.norm_args.proofs.node_tasks.pairs_of.Given as goal

-- the pairs that are to follow make the whole
abbrev pub invariant-loop-i : goal.invariant-loop-i
invariant-loop-i l =
    pairs_of (map (λ word. word.now) l.words)
    ≡ option_map (λ others. l.pairs.items ++ others) (pairs_of (drop (2 * l.i) (map (λ word. word.now) l.words)))
