use Rattle.std.proofs.Common.{◌≡◌, sym, subst, ap, ◌∙◌, true, false, None, Option, List, ℕ, Bool, take}
use Rattle.norm_order.specs.declared.up.Up.TheVariants.{Object}
use Rattle.norm_ext.specs.Extensions.{Fti}
use Rattle.norm_receive_rules.specs.HandingUp.{is_whole, kind_of, told_info, object_octets}
use Rattle.norm_receive_rules.specs.Plans.{says_info}
use Rattle.rx_object.specs.ObjectState.{ObjectState, alone}
use Rattle.rx_object.specs.ObjectSound.{object_view}
use Rattle.rx_object.proofs.WholeLemmas.{object_bytes, own_info}
use Rattle.rx_object.proofs.object.Object.into_up.Goals as goal

abbrev told : Bool → Option (List ℕ) → Option (List ℕ)
told says info = elim says [ true ↦ info | false ↦ None ]

pub returns : goal.returns
returns c =
    subst (λ (o : ObjectState). Object c.self.inside.index c.kind_of.result c.told_info.result c.first_octets.result
    ≡ Object o.plan.index (kind_of o.plan.flags) (told_info (alone o) o.plan) (object_octets (alone o) o.plan)) c.self.view_is
    (ap (λ k. Object c.self.inside.index k c.told_info.result c.first_octets.result) c.kind_of.ensures
    ∙ ap (λ i. Object c.self.inside.index (kind_of c.self.inside.flags) i c.first_octets.result)
    (c.told_info.ensures ∙ ap (told (says_info c.self.inside.flags)) (sym (own_info (object_view c.self.inside))))
    ∙ ap (Object c.self.inside.index (kind_of c.self.inside.flags) (told_info (alone (object_view c.self.inside)) (object_view c.self.inside).plan))
    (c.first_octets.ensures.exact
    ∙ ap (λ (f : Fti). take f.l c.self.inside.rows.octets.items) c.fti.view_is
    ∙ object_bytes c.self.inside c.self.invariant c.first_octets.ensures.bytes (subst (λ (o : ObjectState). is_whole (alone o) o.plan ≡ true) (sym c.self.view_is) c.requires)))
