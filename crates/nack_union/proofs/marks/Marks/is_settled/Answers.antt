use Rattle.std.proofs.Common.{◌≡◌, true, false}
use Rattle.nack_union.proofs.Named.{settled_more}
use Rattle.nack_union.proofs.marks.Marks.is_settled.Goals as goal

clash : false ≡ true → ⊥
clash e = cc

pub returns-then-not-has_sources : goal.returns-then-not-has_sources
returns-then-not-has_sources c = λ e index s. absurd (clash e)

pub returns : goal.returns
returns c = λ e index s.
    settled_more c.args.flags c.args.self.now c.asks_sources.result c.has_flag.result c.asks_sources.ensures c.has_flag.ensures
    (c.has_sources.ensures c.if-not-has_sources.false) (c.has_info.ensures e) index s
