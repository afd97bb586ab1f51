use Rattle.std.proofs.Common.{◌≡◌, ◌+◌, ◌-◌, ◌<◌, ◌≤◌, ◌⊎◌, inl, inr, ℕ, get_or, List, length, take, drop, ap, sym, subst, ◌∙◌, arith}
use Rattle.std.specs.Prelude.{nat_lt}
use Rattle.std.specs.List.{list_any}
use Rattle.std.proofs.lemmas.List.{get_or-drop, length-drop}
use Rattle.nack_union.specs.Kept.{Kept, Marked}
use Rattle.nack_union.specs.CollectionSound.{IsIdle, AreIdle, AreQuiet, wanting}
use Rattle.std.specs.List.{AllByRecursion}
use Rattle.nack_union.specs.Adding.{IsPlanned}
use Rattle.nack_union.proofs.Planned.{planned_drop}
use Rattle.nack_union.proofs.Wanting.{any_wanting, wanting_parts}
use Rattle.nack_union.proofs.collection.Collection.drop_objects.Goals as goal

idle_dropped : (low high n from to : ℕ) (ms new : List Marked) → from ≡ low - n → to ≡ high - n → new ≡ drop n ms → AreIdle low high ms → AreIdle from to new
idle_dropped low high n from to ms new first last is idle k d lt out =
    let many = ap length is in
    subst IsIdle (sym (ap (λ (xs : List Marked). get_or xs k d) is ∙ get_or-drop n ms k d)) (idle (n + k) d (omega (arith, lt, many, length-drop n ms)) (on out))
  where
    on : (k < from) ⊎ (to ≤ k) → (n + k < low) ⊎ (high ≤ n + k)
    on (inl less) = inl (omega (arith, less, first))
    on (inr more) = inr (omega (arith, more, last))

quiet_dropped : (quiet n now : ℕ) (ms new : List Marked) → now ≡ quiet - n → new ≡ drop n ms → AreQuiet quiet ms → AreQuiet now new
quiet_dropped quiet n now ms new at is none k d lt below =
    let many = ap length is in
    ap (λ (m : Marked). m.wants) (ap (λ (xs : List Marked). get_or xs k d) is ∙ get_or-drop n ms k d) ∙ none (n + k) d (omega (arith, lt, many, length-drop n ms)) (omega (arith, below, at))

-- of how many objects that go something was wanted
gone : (c : goal.After-self-5-1) → c.count_wanted-gone.result ≡ wanting (take (c.args.index - c.self.inside.first) c.self.inside.objects.items)
gone c = c.count_wanted-gone.ensures ∙ ap (λ (ms : List Marked). wanting (take (c.args.index - c.self.inside.first) ms)) c.deref.ensures.value

pub returns-clause-dropped : goal.returns-clause-dropped
returns-clause-dropped c =
    ap (nat_lt 0) (gone c)
    ∙ sym (any_wanting (take (c.args.index - c.self.inside.first) c.self.inside.objects.items))
    ∙ ap (λ (u : Kept). list_any (λ (m : Marked). nat_lt 0 (length m.wants)) (take (c.args.index - u.first) u.objects)) c.self.view_is

pub overflow_sub-self : goal.overflow_sub-self
overflow_sub-self c =
    let all = wanting_parts c.self.inside.objects.items (c.args.index - c.self.inside.first) in
    let was = c.self.invariant.counted in
    let less = c.count_wanted-gone.ensures ∙ ap (λ (ms : List Marked). wanting (take (c.args.index - c.self.inside.first) ms)) c.deref.ensures.value in
    omega (arith, all, was, less)

pub invariant_of-self : goal.invariant_of-self
invariant_of-self c = record {
  few =
      let few = c.self.invariant.few in
      let first = ap (λ (u : Kept). u.first + length u.objects) c.self.view_is in
      let left = ap length c.drop_front.ensures in
      let from = c.requires.not_back in
      let same = ap (λ (u : Kept). u.first) c.self.view_is in
      let within = c.requires.within in
      omega (arith, few, first, left, from, same, within, length-drop (c.args.index - c.self.inside.first) c.self.inside.objects.items);
  idle =
      idle_dropped c.self.inside.low c.self.inside.high (c.args.index - c.self.inside.first) _ _ c.self.inside.objects.items c.drop_front.new.objects.items
      c.saturating_sub-self-inside.ensures c.saturating_sub-self-inside-2.ensures c.drop_front.ensures c.self.invariant.idle;
  quiet =
      quiet_dropped c.self.inside.quiet (c.args.index - c.self.inside.first) _ c.self.inside.objects.items c.drop_front.new.objects.items c.saturating_sub-self-inside-3.ensures c.drop_front.ensures
      c.self.invariant.quiet;
  counted =
      let all = wanting_parts c.self.inside.objects.items (c.args.index - c.self.inside.first) in
      let was = c.self.invariant.counted in
      let less = gone c in
      let left = ap wanting c.drop_front.ensures in
      omega (arith, all, was, less, left);
  planned = subst (AllByRecursion IsPlanned) (sym c.drop_front.ensures) (planned_drop (c.args.index - c.self.inside.first) c.self.inside.objects.items c.self.invariant.planned);
}
