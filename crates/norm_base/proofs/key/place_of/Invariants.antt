use Rattle.std.proofs.Common.{◌≡◌, ◌+◌, drop, map}
use Rattle.std.specs.Option.{option_map}
use Rattle.norm_base.specs.Keys.{place_of_word}
use Rattle.norm_base.proofs.key.place_of.Given as goal

-- the words so far are others
abbrev pub invariant-loop-place : goal.invariant-loop-place
invariant-loop-place l =
    place_of_word l.fn.word (map (λ w. w.now) l.words)
    ≡ option_map (λ n. l.place + n) (place_of_word l.fn.word (map (λ w. w.now) (drop l.place l.words)))
