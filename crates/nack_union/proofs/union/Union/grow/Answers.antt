use Rattle.std.proofs.Common.{◌-◌, ℕ, length, sym, ap, subst, ◌∙◌}
use Rattle.std.specs.Prelude.{slice_get}
use Rattle.nack_union.specs.Kept.{Kept, CanGrow, MayGrow, OfLast, grown_to}
use Rattle.nack_union.specs.UnionState.{UnionState}
use Rattle.nack_union.proofs.Grown.{last_can_grow, union_grown}
use Rattle.nack_union.proofs.union.Union.grow.Goals as goal

pub grow-requires-clause-last : goal.grow-requires-clause-last
grow-requires-clause-last c =
    subst (λ (n : ℕ). OfLast (CanGrow n) c.self.inside.collection) (sym c.from.ensures)
    (last_can_grow c.args.segments (record { p = c.self.inside.profile; kept = c.self.inside.collection })
    (subst (λ (u : UnionState). OfLast (MayGrow u.p c.args.segments) u.kept) (sym c.self.view_is) c.requires.last))

pub returns-clause-exact : goal.returns-clause-exact
returns-clause-exact c = λ m is.
    ap held (c.grow.ensures m (ap (λ (u : UnionState). slice_get u.kept.objects (length u.kept.objects - 1)) c.self.view_is ∙ is))
    ∙ ap (λ (n : ℕ). held (grown_to n m c.self.inside.collection)) c.from.ensures
    ∙ ap (λ (u : UnionState). record u { kept = grown_to c.args.segments m u.kept }) c.self.view_is
  where
    held : Kept → UnionState
    held k = record { p = c.self.inside.profile; kept = k }

pub returns-clause-stands : goal.returns-clause-stands
returns-clause-stands c = λ parts is s stands.
    union_grown c.args.self.now s parts c.args.segments c.requires.last is _ (returns-clause-exact c) stands
