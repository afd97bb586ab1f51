use Rattle.std.proofs.Common.{◌≡◌, ℕ, ◌<◌, false, length, get_or, None}
use Rattle.udp_rules.specs.Listening.{still_counts}
use Rattle.udp_rules.proofs.listening.listeners_at.Given as goal

-- the receivers so far
abbrev pub invariant-loop-place : goal.invariant-loop-place
invariant-loop-place l =
    (length l.each ≡ 16) × ((k : ℕ) → k < l.place → get_or l.each k false ≡ still_counts l.now (get_or l.answered k None))
