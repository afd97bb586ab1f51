use Rattle.std.proofs.Common.{◌≡◌, ◌+◌, ℕ, List, [], ◌∷◌, length, get_or, cond, false, Bool, subst, sym, ap, ◌∙◌, arith}
use Rattle.std.specs.Prelude.{nat_lt, position, Option, MatchOption}
use Rattle.std.proofs.lemmas.List.Quantifiers.{position-Some}
use Rattle.fec_plan.specs.Partition.{stream_cut}
use Rattle.norm_send_rules.specs.declared.want.Want.{Want}
use Rattle.nack_union.specs.Kept.{Kept, Marked, Holds, admitted}
use Rattle.nack_union.proofs.Counting.{not_wanted, position-None}
use Rattle.nack_union.specs.Collected.{Collects}
use Rattle.nack_union.proofs.Quiet.{quiet_before, quiet_set, idle_set, few_set}
use Rattle.std.specs.List.{AllByRecursion}
use Rattle.norm_send_rules.specs.InWindow.{next_index}
use Rattle.nack_union.specs.Collected.{IsKnownIn}
use Rattle.nack_union.proofs.Collections.{collects_kept, known_kept}
use Rattle.nack_union.specs.Adding.{IsPlanned}
use Rattle.nack_union.proofs.Came.{all_at}
use Rattle.nack_union.proofs.Planned.{planned_set, planned_wants}
use Rattle.nack_union.proofs.Wanting.{one, other_is_one, wanting_set, wanting_same, none_wanting}
use Rattle.nack_union.proofs.Standing.{stands_next, stands_idle}
use Rattle.nack_union.proofs.collection.Collection.next.Goals as goal

abbrev wanted : Marked → Bool
wanted m = nat_lt 0 (length m.wants)

pub returns-then-self-eq0-clause-first : goal.returns-then-self-eq0-clause-first
returns-then-self-eq0-clause-first c = λ p s st.
    let d : Marked = admitted (stream_cut 0 0 0) false in
    (stands_idle p s _ d (none_wanting c.self.inside.objects.items d (sym c.self.invariant.counted ∙ c.if-self-eq0.true)) (subst (λ (u : Kept). Holds p u s) (sym c.self.view_is) st), st)

pub returns-in_err-place-clause-first : goal.returns-in_err-place-clause-first
returns-in_err-place-clause-first c = λ p s st.
    let at = ap (position wanted) (sym c.deref.ensures.value) ∙ sym c.first_wanted.ensures ∙ c.in_err-place.was in
    let d : Marked = admitted (stream_cut 0 0 0) false in
    let idle : s.wants ≡ [] = stands_idle p s _ d (λ j lt. not_wanted _ (position-None wanted c.self.inside.objects.items d at j lt))
    (subst (λ (u : Kept). Holds p u s) (sym c.self.view_is) st) in
    subst (λ (r : Option Want). MatchOption r ((s.wants ≡ []) × Holds p c.args.self.now s)
    (λ want. (rest : List Want) × (s.wants ≡ want ∷ rest) × Holds p c.args.self.now (record s { wants = rest })))
    (sym c.from_residual.ensures) (idle, st)

pub returns-in_err-slot-clause-first : goal.returns-in_err-slot-clause-first
returns-in_err-slot-clause-first c = λ p s st.
    let at = ap (position wanted) (sym c.deref.ensures.value) ∙ sym c.first_wanted.ensures ∙ c.in_ok-place.was in
    let there = (position-Some wanted c.self.inside.objects.items c.in_ok-place.place c.index_mut-object.result.now at).1 in
    let none = ap (λ (xs : List ℕ). nat_lt 0 (length xs)) (sym c.in_err-slot.ensures.0 ∙ ap (λ (m : Marked). m.wants) c.index_mut-object.ensures.value) in
    absurd (cc)

pub returns-in_err-slot-clause-collects : goal.returns-in_err-slot-clause-collects
returns-in_err-slot-clause-collects c = λ p s asked rest col.
    let at = ap (position wanted) (sym c.deref.ensures.value) ∙ sym c.first_wanted.ensures ∙ c.in_ok-place.was in
    let there = (position-Some wanted c.self.inside.objects.items c.in_ok-place.place c.index_mut-object.result.now at).1 in
    let none = ap (λ (xs : List ℕ). nat_lt 0 (length xs)) (sym c.in_err-slot.ensures.0 ∙ ap (λ (m : Marked). m.wants) c.index_mut-object.ensures.value) in
    absurd (cc)

pub returns-clause-first : goal.returns-clause-first
returns-clause-first c = λ p s st.
    let at = ap (position wanted) (sym c.deref.ensures.value) ∙ sym c.first_wanted.ensures ∙ c.in_ok-place.was in
    let there = position-Some wanted c.self.inside.objects.items c.in_ok-place.place c.index_mut-object.result.now at in
    let after = stands_next p s _ c.in_ok-place.place c.in_ok-slot.slot c.take_lowest.new.self c.index_mut-object.result.now
    there.0 (λ j lt. not_wanted _ (there.2 j lt)) (sym c.index_mut-object.ensures.value ∙ c.in_ok-slot.ensures.0)
    (subst (λ (u : Kept). Holds p u s) (sym c.self.view_is) st) in
    (after.0, after.1 ∙ ap (λ w. w ∷ after.0) (sym c.want_of.ensures), after.2)

pub returns-clause-collects : goal.returns-clause-collects
returns-clause-collects c = λ p s asked rest col.
    let at = ap (position wanted) (sym c.deref.ensures.value) ∙ sym c.first_wanted.ensures ∙ c.in_ok-place.was in
    let there = position-Some wanted c.self.inside.objects.items c.in_ok-place.place c.index_mut-object.result.now at in
    let same = sym c.index_mut-object.ensures.value ∙ c.in_ok-slot.ensures.0 in
    let kept = collects_kept p s (record { first = c.self.inside.first; objects = c.self.inside.objects.items; earliest = c.self.inside.earliest }) asked c.in_ok-place.place c.take_lowest.new.self c.index_mut-object.result.now
    there.0 (sym (ap (λ (m : Marked). m.asked) same)) (sym (ap (λ (m : Marked). m.counts) same)) (sym (ap (λ (m : Marked). m.first) same))
    (known_kept _ c.in_ok-place.place (next_index s) c.take_lowest.new.self c.index_mut-object.result.now asked
    there.0 (sym (ap (λ (m : Marked). m.cut) same)) (sym (ap (λ (m : Marked). m.closed) same))
    (subst (λ (u : Kept). AllByRecursion (IsKnownIn u (next_index s)) asked) (sym c.self.view_is) col.known))
    (subst (λ (u : Kept). Collects p u s asked) (sym c.self.view_is) col) in
    record { known = kept.known; named = kept.named; counts = kept.counts; earliest = kept.earliest }

pub invariant_of-self : goal.invariant_of-self
invariant_of-self c =
    let found = ap (position wanted) (sym c.deref.ensures.value) ∙ sym c.first_wanted.ensures ∙ c.in_ok-place.was in
    let within = (position-Some wanted c.self.inside.objects.items c.in_ok-place.place c.index_mut-object.result.now found).0 in
    let same = c.in_err-slot.ensures.1 ∙ c.index_mut-object.ensures.value in
    record {
      few = few_set c.self.inside.first c.self.inside.objects.items c.in_ok-place.place c.take_lowest.new.self c.self.invariant.few;
      idle = idle_set c.self.inside.low c.self.inside.high c.in_ok-place.place c.self.inside.objects.items c.take_lowest.new.self c.index_mut-object.result.now
          within (ap (λ (m : Marked). m.asked) same) (ap (λ (m : Marked). m.counts) same) c.self.invariant.idle;
      quiet = quiet_set c.self.inside.objects.items c.in_ok-place.place c.take_lowest.new.self (quiet_before c.self.inside.objects.items c.in_ok-place.place found);
      counted = c.self.invariant.counted ∙ sym (wanting_same c.self.inside.objects.items c.in_ok-place.place c.take_lowest.new.self c.index_mut-object.result.now within (ap (λ (m : Marked). m.wants) same));
      planned = planned_set c.self.inside.objects.items c.in_ok-place.place c.take_lowest.new.self c.self.invariant.planned
          (subst IsPlanned (sym same) (all_at c.self.inside.objects.items c.in_ok-place.place c.index_mut-object.result.now c.self.invariant.planned within));
    }

pub invariant_of-self-2 : goal.invariant_of-self-2
invariant_of-self-2 c =
    let found = ap (position wanted) (sym c.deref.ensures.value) ∙ sym c.first_wanted.ensures ∙ c.in_ok-place.was in
    let within = (position-Some wanted c.self.inside.objects.items c.in_ok-place.place c.index_mut-object.result.now found).0 in
    let same = sym c.index_mut-object.ensures.value ∙ c.in_ok-slot.ensures.0 in
    record {
      few = few_set c.self.inside.first c.self.inside.objects.items c.in_ok-place.place c.take_lowest.new.self c.self.invariant.few;
      idle = idle_set c.self.inside.low c.self.inside.high c.in_ok-place.place c.self.inside.objects.items c.take_lowest.new.self c.index_mut-object.result.now
          within (sym (ap (λ (m : Marked). m.asked) same)) (sym (ap (λ (m : Marked). m.counts) same)) c.self.invariant.idle;
      quiet = quiet_set c.self.inside.objects.items c.in_ok-place.place c.take_lowest.new.self (quiet_before c.self.inside.objects.items c.in_ok-place.place found);
      counted =
          let was = c.self.invariant.counted in
          let all = wanting_set c.self.inside.objects.items c.in_ok-place.place c.take_lowest.new.self c.index_mut-object.result.now within in
          let here : one (get_or c.self.inside.objects.items c.in_ok-place.place c.index_mut-object.result.now) ≡ 1 =
          ap (λ b. cond b 1 0) (position-Some wanted c.self.inside.objects.items c.in_ok-place.place c.index_mut-object.result.now found).1 in
          let gone : c.from.result + one c.take_lowest.new.self ≡ 1 =
          other_is_one c.take_lowest.new.self c.is_wanted.result c.from.result c.from.ensures c.is_wanted.ensures in
          omega (arith, was, all, here, gone);
      planned = planned_set c.self.inside.objects.items c.in_ok-place.place c.take_lowest.new.self c.self.invariant.planned
          (planned_wants _ c.take_lowest.new.self.wants
          (subst IsPlanned same (all_at c.self.inside.objects.items c.in_ok-place.place c.index_mut-object.result.now c.self.invariant.planned within)));
    }
