use Rattle.std.proofs.Common.{◌∙◌, ap, sym, subst, List, length}
use Rattle.std.specs.Prelude.{nat_lt}
use Rattle.norm_send_rules.specs.declared.want.Want.{Want}
use Rattle.nack_union.specs.Kept.{Kept, Holds}
use Rattle.nack_union.proofs.Standing.{any_wanted}
use Rattle.nack_union.proofs.Wanting.{any_wanting}
use Rattle.nack_union.proofs.collection.Collection.is_wanted.Goals as goal

pub returns : goal.returns
returns c = λ p s st.
    let held = subst (λ (u : Kept). Holds p u s) (sym c.self.view_is) st in
    ap (nat_lt 0) c.self.invariant.counted
    ∙ sym (any_wanting c.self.inside.objects.items)
    ∙ any_wanted c.self.inside.first c.self.inside.objects.items
    ∙ ap (λ (ws : List Want). nat_lt 0 (length ws)) held.wants
