use Rattle.std.proofs.Common.{◌≡◌, ℕ, ◌⊎◌, inl, inr, Bool, true, false, sym, ap, subst, ◌∙◌, nat_lt}
use Rattle.norm_order.specs.Sets.{is_member}
use Rattle.nack_union.specs.Kept.{Marked}
use Rattle.nack_union.proofs.Numbered.{info_kept}
use Rattle.nack_union.proofs.marks.Marks.has_info.Goals as goal

clash : false ≡ true → ⊥
clash e = cc

-- an object that has info is kept whole
whole : {P : Type 0} (first : ℕ) (info : Bool) → (first ≡ 0) ⊎ (P × (info ≡ false)) → info ≡ true → first ≡ 0
whole first info (inl e) has = e
whole first info (inr both) has = absurd (clash (sym both.1 ∙ has))

pub returns-then-not-wanted : goal.returns-then-not-wanted
returns-then-not-wanted c = λ e wanted. absurd (clash (sym c.if-not-wanted.true ∙ wanted))

pub returns-then-not-self : goal.returns-then-not-self
returns-then-not-self c = λ e wanted has. absurd (clash (sym c.if-not-self.true ∙ ap (λ (m : Marked). m.info) c.self.view_is ∙ has))

pub returns : goal.returns
returns c = λ e wanted has.
    subst (λ (m : Marked). is_member nat_lt 0 m.asked ≡ true) c.self.view_is
    (sym (info_kept c.self.inside.first c.self.inside.asked.members (whole c.self.inside.first c.self.inside.info c.self.invariant.moves (ap (λ (m : Marked). m.info) c.self.view_is ∙ has)))
    ∙ sym c.has_info.ensures ∙ e)
