use Rattle.std.proofs.Common.{◌≡◌, ◌+◌, ◌-◌, ◌<◌, ◌≤◌, ◌⊎◌, ℕ, List, length, get_or, sym, ap, ◌∙◌, arith, subst, refl}
use Rattle.std.specs.Prelude.{min}
use Rattle.std.specs.Vec.{with_items}
use Rattle.std.proofs.lemmas.List.{with_items_is}
use Rattle.norm_ext.specs.Asking.{span}
use Rattle.std.specs.List.{AllByRecursion}
use Rattle.nack_union.specs.Kept.{Kept, Marked}
use Rattle.nack_union.specs.Adding.{IsPlanned}
use Rattle.nack_union.specs.CollectionSound.{AreIdle, AreQuiet, wanting}
use Rattle.nack_union.specs.More.{HasPart, MoreOf, named_part}
use Rattle.nack_union.proofs.Quiet.{quiet_kept}
use Rattle.nack_union.proofs.Wanting.{wanting_kept}
use Rattle.nack_union.proofs.Outside.{named_in_all, idle_kept}
use Rattle.nack_union.proofs.collection.Collection.ask_named.Goals as goal

pub ask_range-requires-clause-high : goal.ask_range-requires-clause-high
ask_range-requires-clause-high c = λ some.
    let top = c.min-to.ensures in let less = c.place_behind.ensures in
    omega (arith, some, top, less)

abbrev items : (c : goal.After-self-3-1) → List Marked
items c = (with_items c.self.inside.objects c.ask_range.new.objects).items

now : (c : goal.After-self-3-1) → items c ≡ c.ask_range.new.objects
now c = with_items_is c.self.inside.objects c.ask_range.new.objects (c.ask_range.auto.objects ∙ c.deref_mut.ensures.len)

same_length : (c : goal.After-self-3-1) → length c.ask_range.new.objects ≡ length c.self.inside.objects.items
same_length c = c.ask_range.auto.objects ∙ ap length c.deref_mut.ensures.value

-- what the loop leaves as it is, in the union's own objects
kept : (c : goal.After-self-3-1) → (k : ℕ) (d : Marked) → (k < c.place_from-from.result) ⊎ (c.min-to.result ≤ k)
    → get_or c.ask_range.new.objects k d ≡ get_or c.self.inside.objects.items k d
kept c k d out = c.ask_range.ensures.rest k d out ∙ ap (λ (ms : List Marked). get_or ms k d) c.deref_mut.ensures.value

each : (c : goal.After-self-3-1) → (k : ℕ) (d : Marked) → k < length c.self.inside.objects.items
    → MoreOf (named_part c.args.named.flags (span c.args.named.first c.args.named.last)) (c.self.inside.first + k) (get_or c.self.inside.objects.items k d) (get_or c.ask_range.new.objects k d)
each c =
    named_in_all c.args.named.flags (span c.args.named.first c.args.named.last) c.self.inside.first c.place_from-from.result c.min-to.result
    c.self.inside.objects.items c.ask_range.new.objects c.place_from-from.ensures
    (c.min-to.ensures ∙ ap (λ n. min n c.len.result) c.place_behind.ensures ∙ ap (min (c.args.named.last.index + 1 - c.self.inside.first)) (c.len.ensures ∙ sym c.deref_mut.ensures.len ∙ ap length c.deref_mut.ensures.value))
    (subst (λ (ms : List Marked). (k : ℕ) (d : Marked) → k < length ms → c.place_from-from.result ≤ k → k < c.min-to.result
    → MoreOf (named_part c.args.named.flags (span c.args.named.first c.args.named.last)) (c.self.inside.first + k) (get_or ms k d) (get_or c.ask_range.new.objects k d))
    c.deref_mut.ensures.value c.ask_range.ensures.each)
    (kept c)

pub invariant_of-self : goal.invariant_of-self
invariant_of-self c = record {
  few = let few = c.self.invariant.few in let same = ap length (now c) ∙ same_length c in omega (arith, few, same);
  idle = subst (AreIdle c.min-self-inside.result c.max-self-inside.result) (sym (now c))
      (idle_kept c.self.inside.low c.self.inside.high c.place_from-from.result c.min-to.result c.min-self-inside.result c.max-self-inside.result
      c.self.inside.objects.items c.ask_range.new.objects c.min-self-inside.ensures c.max-self-inside.ensures (same_length c) (kept c) c.self.invariant.idle);
  quiet = subst (AreQuiet c.self.inside.quiet) (sym (now c))
      (quiet_kept c.self.inside.quiet c.self.inside.objects.items c.ask_range.new.objects (same_length c)
      (λ k d lt. ap (λ (m : Marked). m.wants) (each c k d lt).rest) c.self.invariant.quiet);
  counted =
      c.self.invariant.counted
      ∙ sym (ap wanting (now c) ∙ wanting_kept c.self.inside.objects.items c.ask_range.new.objects (same_length c) (λ k d lt. ap (λ (m : Marked). m.wants) (each c k d lt).rest));
  planned =
      subst (AllByRecursion IsPlanned) (sym (now c))
      (c.ask_range.ensures.planned (subst (AllByRecursion IsPlanned) (sym c.deref_mut.ensures.value) c.self.invariant.planned));
}

pub returns : goal.returns
returns c = subst (λ (u : Kept). HasPart (named_part c.args.named.flags (span c.args.named.first c.args.named.last)) u (record { first = c.self.inside.first; objects = items c; earliest = c.self.inside.earliest }))
    c.self.view_is
    (record {
      first = refl;
      objects = ap length (now c) ∙ same_length c;
      each = λ k d lt.
          subst (λ (ms : List Marked). MoreOf (named_part c.args.named.flags (span c.args.named.first c.args.named.last)) (c.self.inside.first + k) (get_or c.self.inside.objects.items k d) (get_or ms k d))
          (sym (now c)) (each c k d lt);
    })
