-- One receiver after the other: whether its last answer still counts.
use Rattle.std.proofs.Common.{false, rules, get_or, None}
use Rattle.std.proofs.lemmas.List.FromFn.{fill_by_all}
use Rattle.udp_rules.specs.Listening.{still_counts}
use Rattle.udp_rules.proofs.listening.listeners_at.Goals as goal

pub returns : goal.returns
returns c =
    fill_by_all (λ k. still_counts c.args.now (get_or c.args.answered k None)) c.loop-place.each 16 false c.loop-place.invariant.0 (search rules)
