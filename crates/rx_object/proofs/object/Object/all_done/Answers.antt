use Rattle.std.proofs.Common.{◌≡◌, Bool, true, false, subst, sym, ◌∙◌, refl}
use Rattle.std.specs.Prelude.{not}
use Rattle.std.specs.List.{list_all, range_with_len}
use Rattle.fec_plan.specs.Partition.{blocks}
use Rattle.norm_receive_rules.specs.Plans.{cut_of_plan, is_done}
use Rattle.rx_object.specs.ObjectState.{ObjectState, alone}
use Rattle.rx_object.proofs.ObjectLemmas.{object_all_done}
use Rattle.rx_object.proofs.object.Object.all_done.Goals as goal

same_not : (a b : Bool) → not a ≡ not b → a ≡ b
same_not true true e = refl
same_not false false e = refl
same_not true false e = absurd (cc (e))
same_not false true e = absurd (cc (e))

pub returns : goal.returns
returns c =
    subst (λ (o : ObjectState). c.is_none.result ≡ list_all (is_done (alone o) o.plan) (range_with_len 0 (blocks (cut_of_plan o.plan)))) c.self.view_is
    (same_not c.is_none.result _ (sym c.is_none.ensures ∙ object_all_done c.self.inside c.first.result c.self.invariant c.first.ensures))
