use Rattle.std.proofs.Common.{◌≡◌, ℕ, ◌⊎◌, inl, inr, true, false, sym, subst, ◌∙◌}
use Rattle.norm_order.specs.Shapes.{Shape}
use Rattle.nack_union.specs.Coverage.{HasSources, HasSourcesFrom}
use Rattle.nack_union.specs.Kept.{Marked, symbols_of_marked}
use Rattle.nack_union.proofs.Numbered.{sources_kept}
use Rattle.nack_union.proofs.Streams.{shifts}
use Rattle.nack_union.proofs.marks.Marks.has_sources.Goals as goal

clash : false ≡ true → ⊥
clash e = cc

stream_or_first : {P : Type 0} {Q : Type 0} (first : ℕ) → (first ≡ 0) ⊎ (P × Q) → (first ≡ 0) ⊎ P
stream_or_first first (inl e) = inl e
stream_or_first first (inr both) = inr both.0

pub returns-then-not-wanted : goal.returns-then-not-wanted
returns-then-not-wanted c = λ e wanted. absurd (clash (sym c.if-not-wanted.true ∙ wanted))

pub returns : goal.returns
returns c = λ e wanted.
    subst (λ (m : Marked). HasSourcesFrom m.first (symbols_of_marked m) m.asked) c.self.view_is
    (sources_kept c.self.inside.plan c.self.inside.closed c.self.inside.first c.self.inside.asked.members
    (shifts c.self.inside.plan c.self.inside.closed c.self.inside.first (stream_or_first c.self.inside.first c.self.invariant.moves))
    (subst (λ (x : Shape). HasSources x c.self.inside.asked.members) c.self.invariant.asked (c.is_complete.ensures e)))
