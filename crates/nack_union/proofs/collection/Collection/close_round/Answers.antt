use Rattle.std.proofs.Common.{◌≡◌, ℕ, ◌+◌, ◌-◌, List, ◌++◌, length, map, take, subst, refl, sym, ap, ◌∙◌, arith}
use Rattle.std.specs.Prelude.{min, None, Option}
use Rattle.std.specs.List.{AllByRecursion}
use Rattle.std.specs.Vec.{with_items}
use Rattle.std.proofs.lemmas.List.{with_items_is, length-map}
use borrow.Rule.Slice.PartMut.{mid_of, post_of}
use Rattle.fec_plan.specs.Points.{Point, point}
use Rattle.nack_union.specs.Kept.{Kept, Marked, Holds, IsCounted, closed_marks, closed_union, first_block}
use Rattle.nack_union.proofs.Fronts.{first_front, block_closed}
use Rattle.nack_union.specs.Rounds.{wants_closed, new_wants}
use Rattle.nack_union.specs.CollectionSound.{AreIdle, AreQuiet, wanting}
use Rattle.nack_union.proofs.Idle.{idle_outside, closed_range, counted_range, new_range, closed_are_idle}
use Rattle.nack_union.proofs.Quiet.{quiet_closed}
use Rattle.nack_union.specs.Adding.{IsPlanned}
use Rattle.nack_union.proofs.Planned.{all_closed}
use Rattle.nack_union.proofs.Wanting.{wanting_closed, wanting_range}
use Rattle.nack_union.proofs.Rounding.{stands_closed, all_queued}
use Rattle.norm_send_rules.specs.declared.want.Want.{Want}
use Rattle.norm_send_rules.specs.SenderState.{Asked}
use Rattle.nack_union.specs.Earliest.{is_before_window, earliest_with}
use Rattle.nack_union.proofs.Early.{early_is}
use Rattle.nack_union.proofs.ByRules.{by_rules, stands_by_rules, nothing_collected}
use Rattle.std.proofs.lemmas.Bool.{cases_lt as in_or_out}
use Rattle.nack_union.proofs.collection.Collection.close_round.Goals as goal

-- the union as it was, by its fields
abbrev before : (c : goal.After-self-6-1) → Kept
before c = record { first = c.self.inside.first; objects = c.self.inside.objects.items; earliest = c.self.inside.earliest }

-- the round asks for nothing outside of the range that is closed
outside : (c : goal.After-self-6-1) → AreIdle c.min-low.result (c.min-low.result + (c.min-high.result - c.min-low.result)) c.self.inside.objects.items
outside c =
    idle_outside c.self.inside.low c.self.inside.high c.min-low.result c.min-high.result c.self.inside.objects.items c.min-low.ensures
    (c.min-high.ensures ∙ ap (min c.self.inside.high) (c.len.ensures ∙ sym c.deref_mut.ensures.len ∙ ap length c.deref_mut.ensures.value)) c.self.invariant.idle

counted : (c : goal.After-self-6-1) → AllByRecursion IsCounted c.self.inside.objects.items
counted c =
    counted_range c.min-low.result (c.min-high.result - c.min-low.result) c.self.inside.objects.items (outside c)
    (subst (λ (ms : List Marked). AllByRecursion IsCounted (mid_of c.min-low.result (c.min-high.result - c.min-low.result) ms)) c.deref_mut.ensures.value c.close_all-queued.ensures.counted)

-- what is written back
written : (c : goal.After-self-6-1)
    → take c.min-low.result c.deref_mut.result.now ++ (c.close_all-queued.new.objects ++ post_of c.min-low.result (c.min-high.result - c.min-low.result) c.deref_mut.result.now)
    ≡ map closed_marks c.self.inside.objects.items
written c =
    ap (λ (ms : List Marked). take c.min-low.result c.deref_mut.result.now ++ (ms ++ post_of c.min-low.result (c.min-high.result - c.min-low.result) c.deref_mut.result.now)) c.close_all-queued.ensures.closed
    ∙ ap (λ (ms : List Marked). take c.min-low.result ms ++ (map closed_marks (mid_of c.min-low.result (c.min-high.result - c.min-low.result) ms) ++ post_of c.min-low.result (c.min-high.result - c.min-low.result) ms)) c.deref_mut.ensures.value
    ∙ closed_range c.min-low.result (c.min-high.result - c.min-low.result) c.self.inside.objects.items (outside c)

abbrev items : (c : goal.After-self-6-1) → List Marked
items c =
    (with_items c.self.inside.objects (take c.min-low.result c.deref_mut.result.now ++ (c.close_all-queued.new.objects ++ post_of c.min-low.result (c.min-high.result - c.min-low.result) c.deref_mut.result.now))).items

now : (c : goal.After-self-6-1) → items c ≡ map closed_marks c.self.inside.objects.items
now c =
    with_items_is c.self.inside.objects _ (ap length (written c) ∙ length-map c.self.inside.objects.items closed_marks ∙ ap length (sym c.deref_mut.ensures.value) ∙ c.deref_mut.ensures.len)
    ∙ written c

-- of how many objects of the range something was wanted, and is
some_before : (c : goal.After-self-6-1) → c.count_wanted-before.result ≡ wanting (mid_of c.min-low.result (c.min-high.result - c.min-low.result) c.self.inside.objects.items)
some_before c = c.count_wanted-before.ensures ∙ ap (λ (ms : List Marked). wanting (mid_of c.min-low.result (c.min-high.result - c.min-low.result) ms)) c.deref.ensures.value

some_after : (c : goal.After-self-6-1) → c.count_wanted-after.result ≡ wanting (mid_of c.min-low.result (c.min-high.result - c.min-low.result) (map closed_marks c.self.inside.objects.items))
some_after c =
    c.count_wanted-after.ensures ∙ ap (λ (ms : List Marked). wanting (mid_of c.min-low.result (c.min-high.result - c.min-low.result) ms)) (c.deref-2.ensures.value ∙ now c)

pub invariant_of-self : goal.invariant_of-self
invariant_of-self c = record {
  few = let few = c.self.invariant.few in let same = ap length (now c) in omega (arith, few, same, length-map c.self.inside.objects.items closed_marks);
  idle = λ k d lt out. subst (λ (ms : List Marked). AreIdle c.min-high.result c.min-high.result ms) (sym (now c)) (λ k d lt out. closed_are_idle c.self.inside.objects.items k d lt) k d lt out;
  quiet = subst (AreQuiet c.min-self-inside.result) (sym (now c))
      (quiet_closed c.self.inside.quiet c.min-low.result _ c.min-self-inside.result c.self.inside.objects.items c.self.invariant.quiet (outside c) c.min-self-inside.ensures);
  counted =
      let was = c.self.invariant.counted in
      let all = wanting_closed c.min-low.result (c.min-high.result - c.min-low.result) c.self.inside.objects.items (outside c) in
      let low = wanting_range c.self.inside.objects.items c.min-low.result (c.min-high.result - c.min-low.result) in
      let left = ap wanting (now c) in
      omega (arith, was, all, low, left, some_before c, some_after c);
  planned = subst (AllByRecursion IsPlanned) (sym (now c)) (all_closed c.self.inside.objects.items c.self.invariant.planned);
}

pub returns-clause-closed : goal.returns-clause-closed
returns-clause-closed c = λ p s st.
    subst (λ (u : Kept). Holds p (record { first = c.self.inside.first; objects = items c; earliest = None }) (record s { wants = wants_closed u s })) c.self.view_is
    (subst (λ (ms : List Marked). Holds p (record { first = c.self.inside.first; objects = ms; earliest = None }) (record s { wants = wants_closed (before c) s })) (sym (now c))
    (stands_closed p s (before c) (counted c) (subst (λ (u : Kept). Holds p u s) (sym c.self.view_is) st)))

pub returns-clause-queued : goal.returns-clause-queued
returns-clause-queued c = λ p s st.
    c.close_all-queued.ensures.queued
    ∙ ap (λ (ms : List Marked). min (new_wants (mid_of c.min-low.result (c.min-high.result - c.min-low.result) ms)) 4294967295) c.deref_mut.ensures.value
    ∙ ap (λ (n : ℕ). min n 4294967295) (new_range c.min-low.result (c.min-high.result - c.min-low.result) c.self.inside.objects.items (outside c))
    ∙ ap (λ (n : ℕ). min n 4294967295) (all_queued p s (before c) (counted c) (subst (λ (u : Kept). Holds p u s) (sym c.self.view_is) st))
    ∙ ap (λ (u : Kept). min (length (wants_closed u s) - length s.wants) 4294967295) c.self.view_is

all_counted : (c : goal.After-self-6-1) → AllByRecursion IsCounted c.args.self.now.objects
all_counted c = subst (λ (u : Kept). AllByRecursion IsCounted u.objects) c.self.view_is (counted c)

pub returns-clause-early : goal.returns-clause-early
returns-clause-early c =
    c.is_early-early.ensures
    ∙ ap (λ n. is_before_window c.self.inside.earliest (point c.self.inside.first n)) (c.first_block-block.ensures ∙ ap first_block (c.deref-3.ensures.value ∙ now c) ∙ block_closed c.self.inside.objects.items)
    ∙ ap (λ (u : Kept). is_before_window u.earliest (point u.first (first_block u.objects))) c.self.view_is

pub returns-clause-rules : goal.returns-clause-rules
returns-clause-rules c = λ p s r st col. (
  stands_by_rules p s r c.args.self.now (record { first = c.self.inside.first; objects = items c; earliest = None }) st col (all_counted c) (returns-clause-closed c p s st),
  returns-clause-queued c p s st ∙ ap (λ (ws : List Want). min (length ws - length s.wants) 4294967295) (by_rules p s c.args.self.now r.asked st col (all_counted c)),
  returns-clause-early c
      ∙ ap (λ (o : Option Point). is_before_window o (point c.args.self.now.first (first_block c.args.self.now.objects))) col.earliest
      ∙ ap (λ (n : ℕ). is_before_window (earliest_with None (map (λ (a : Asked). a.request) r.asked)) (point n (first_block c.args.self.now.objects))) st.first
      ∙ ap (λ (n : ℕ). is_before_window (earliest_with None (map (λ (a : Asked). a.request) r.asked)) (point s.current.drop.index n)) (first_front s.current.drop.block c.args.self.now.objects st.fronts)
      ∙ early_is s.current.drop r.asked,
)

pub returns-clause-begun : goal.returns-clause-begun
returns-clause-begun c = λ p s.
    nothing_collected p s (record { first = c.self.inside.first; objects = items c; earliest = None })
    (λ k d lt. subst (λ (ms : List Marked). AreIdle c.min-high.result c.min-high.result ms) (sym (now c)) (λ k d lt out. closed_are_idle c.self.inside.objects.items k d lt) k d lt
    (in_or_out k c.min-high.result)) refl

pub returns-clause-exact : goal.returns-clause-exact
returns-clause-exact c =
    ap (λ (ms : List Marked). record { first = c.self.inside.first; objects = ms; earliest = None }) (now c) ∙ ap closed_union c.self.view_is

pub overflow_sub-self : goal.overflow_sub-self
overflow_sub-self c =
    let was = c.self.invariant.counted in
    let low = wanting_range c.self.inside.objects.items c.min-low.result (c.min-high.result - c.min-low.result) in
    let part = c.count_wanted-before.ensures ∙ ap (λ (ms : List Marked). wanting (mid_of c.min-low.result (c.min-high.result - c.min-low.result) ms)) c.deref.ensures.value in
    omega (arith, was, low, part)
