use Rattle.std.proofs.Common.{◌≡◌, List, [], ◌∷◌, Option, None, Some, sym, subst}
use Rattle.std.specs.Prelude.{MatchOption}
use Rattle.norm_base.specs.Settings.{Settings}
use Rattle.norm_send_rules.specs.SenderState.{SenderState}
use Rattle.norm_send_rules.specs.declared.want.Want.{Want}
use Rattle.nack_union.specs.Kept.{Kept, Holds, asked_so_far}
use Rattle.nack_union.specs.Collected.{Collects}
use Rattle.nack_union.specs.UnionState.{UnionState, Stands}
use Rattle.nack_union.proofs.union.Union.next.Goals as goal

-- the union that is left, by whether there was a want
left : (p : Settings) (s : SenderState) (new : Kept) (o : Option Want)
    → MatchOption o ((s.wants ≡ []) × Holds p new s) (λ want. (rest : List Want) × (s.wants ≡ want ∷ rest) × Holds p new (record s { wants = rest }))
    → ((rest : List Want) → Collects p new (record s { wants = rest }) (asked_so_far s))
    → MatchOption o ((s.wants ≡ []) × Stands (record { p = p; kept = new }) s)
    (λ want. (rest : List Want) × (s.wants ≡ want ∷ rest) × Stands (record { p = p; kept = new }) (record s { wants = rest }))
left p s new None (none, holds) collects = (none, record { holds = holds; collects = collects s.wants })
left p s new (Some want) (rest, is, holds) collects = (rest, is, record { holds = holds; collects = collects rest })

pub returns-clause-first : goal.returns-clause-first
returns-clause-first c = λ s stands.
    let u = c.self.inside in
    let here = subst (λ (v : UnionState). Stands v s) (sym c.self.view_is) stands in
    left u.profile s c.next.new.self c.next.result (c.next.ensures.first u.profile s here.holds)
    (λ rest. c.next.ensures.collects u.profile s (asked_so_far s) rest here.collects)
