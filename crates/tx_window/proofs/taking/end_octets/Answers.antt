use Rattle.std.proofs.Common.{◌≡◌, ◌+◌, ◌-◌, ap, subst, ℕ}
use Rattle.std.specs.Prelude.{length, replicate}
use Rattle.tx_object.specs.Placed.{taken_by}
use Rattle.tx_object.specs.Round.{round, IsAround, IsClear}
use Rattle.tx_window.proofs.EndingLemmas.{ended}
use Rattle.tx_window.proofs.taking.end_octets.Goals as goal

pub returns-clause-ended : goal.returns-clause-ended
returns-clause-ended c =
    let ring = c.args.ring.now in
    let new = c.clear.new.self in
    let h = c.args.begun.now in
    let pad : c.taken.result - c.args.filled ≡ taken_by h - c.args.filled = ap (λ n. n - c.args.filled) c.taken.ensures.exact in
    ended ring new h c.args.filled c.behind-at.result c.requires.start c.requires.room c.requires.within c.clear.ensures.size
    (subst (λ n. IsAround (length ring) (n + c.args.filled) c.behind-at.result) c.start.ensures c.behind-at.ensures)
    (subst (λ n. round new c.behind-at.result n ≡ replicate n 0) pad c.clear.ensures.cleared)
    (subst (λ n. (other count : ℕ) → IsClear (length ring) c.behind-at.result n other count → round new other count ≡ round ring other count) pad c.clear.ensures.others)
