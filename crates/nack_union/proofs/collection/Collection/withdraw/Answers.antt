use Rattle.std.proofs.Common.{◌≡◌, ◌+◌, ◌-◌, ◌<◌, ℕ, List, length, take, get_or, subst, sym, ap, ◌∙◌, arith}
use Rattle.std.proofs.lemmas.List.{get_or-take, length-take}
use Rattle.nack_union.specs.Kept.{Kept, Marked}
use Rattle.nack_union.specs.CollectionSound.{IsIdle, AreIdle, AreQuiet, wanting}
use Rattle.std.specs.List.{AllByRecursion}
use Rattle.nack_union.specs.Adding.{IsPlanned}
use Rattle.nack_union.proofs.Planned.{planned_take}
use Rattle.nack_union.proofs.Wanting.{one, one_is, wanting_last}
use Rattle.nack_union.proofs.collection.Collection.withdraw.Goals as goal

idle_front : (low high n : ℕ) (ms new : List Marked) → new ≡ take n ms → AreIdle low high ms → AreIdle low high new
idle_front low high n ms new is idle k d lt out =
    let many = ap length is in
    subst IsIdle (sym (ap (λ (xs : List Marked). get_or xs k d) is ∙ get_or-take n ms k d (omega (arith, lt, many, length-take n ms)))) (idle k d (omega (arith, lt, many, length-take n ms)) out)

quiet_front : (quiet n : ℕ) (ms new : List Marked) → new ≡ take n ms → AreQuiet quiet ms → AreQuiet quiet new
quiet_front quiet n ms new is none k d lt below =
    let many = ap length is in
    ap (λ (m : Marked). m.wants) (ap (λ (xs : List Marked). get_or xs k d) is ∙ get_or-take n ms k d (omega (arith, lt, many, length-take n ms))) ∙ none k d (omega (arith, lt, many, length-take n ms)) below

-- the last object counts once, and those before it are left
last_one : (items : List Marked) (len wanting_now from : ℕ) (m : Marked) → len ≡ length items → 0 < length items → m ≡ get_or items (len - 1) m → wanting_now ≡ wanting items → from ≡ one m
    → wanting_now ≡ wanting (take (len - 1) items) + from
last_one items len wanting_now from m many some at was is =
    let all = wanting_last items (len - 1) m (omega (arith, many, some)) in
    let here = is ∙ ap one at in
    omega (arith, all, here, was)

some_left : (u v : Kept) → u ≡ v → 0 < length v.objects → 0 < length u.objects
some_left u v same more = subst (λ (k : Kept). 0 < length k.objects) (sym same) more

counts : (c : goal.After-from) → c.self.inside.wanting ≡ wanting (take (c.self.inside.objects.len - 1) c.self.inside.objects.items) + c.from.result
counts c =
    last_one c.self.inside.objects.items c.self.inside.objects.len c.self.inside.wanting c.from.result c.index.result.now (c.self.inside.objects.ok.0) (some_left _ _ c.self.view_is c.requires)
    (c.index.ensures ∙ ap (λ (n : ℕ). get_or c.self.inside.objects.items (n - 1) c.index.result.now) c.len-last.ensures) c.self.invariant.counted
    (one_is c.index.result.now c.is_wanted.result c.from.result c.from.ensures c.is_wanted.ensures)

pub overflow_sub-self : goal.overflow_sub-self
overflow_sub-self c = let all = counts c in omega (arith, all)

pub invariant_of-self : goal.invariant_of-self
invariant_of-self c = record {
  few = let few = c.self.invariant.few in let less = ap length c.pop.ensures.rest in omega (arith, few, less, length-take (c.self.inside.objects.len - 1) c.self.inside.objects.items);
  idle = idle_front c.self.inside.low c.self.inside.high (c.self.inside.objects.len - 1) c.self.inside.objects.items c.pop.new.self.items c.pop.ensures.rest c.self.invariant.idle;
  quiet = quiet_front c.self.inside.quiet (c.self.inside.objects.len - 1) c.self.inside.objects.items c.pop.new.self.items c.pop.ensures.rest c.self.invariant.quiet;
  counted = let all = last_one c.self.inside.objects.items c.self.inside.objects.len c.self.inside.wanting c.from.result c.index.result.now (c.self.inside.objects.ok.0) (some_left _ _ c.self.view_is c.requires)
      (c.index.ensures ∙ ap (λ (n : ℕ). get_or c.self.inside.objects.items (n - 1) c.index.result.now) c.len-last.ensures) c.self.invariant.counted
      (one_is c.index.result.now c.is_wanted.result c.from.result c.from.ensures c.is_wanted.ensures) in
      let left = ap wanting c.pop.ensures.rest in
      omega (arith, all, left);
  planned = subst (AllByRecursion IsPlanned) (sym c.pop.ensures.rest) (planned_take (c.self.inside.objects.len - 1) c.self.inside.objects.items c.self.invariant.planned);
}
