use Rattle.std.proofs.Common.{◌≡◌, ◌+◌, ◌-◌, ◌<◌, ℕ, length, set, get_or, sym, ap, subst, ◌∙◌, arith}
use Rattle.std.specs.Prelude.{slice_get, Some}
use Rattle.nack_union.specs.Kept.{Kept, Marked, CanGrow, OfLast, grown_to}
use Rattle.nack_union.proofs.Heard.{there_at}
use Rattle.nack_union.proofs.Quiet.{quiet_same, idle_set, few_set}
use Rattle.nack_union.proofs.Wanting.{wanting_same}
use Rattle.nack_union.proofs.Planned.{planned_set}
use Rattle.nack_union.proofs.collection.Collection.grow.Goals as goal

-- the index is that of the last object
is_last : (index : ℕ) (u v : Kept) → u ≡ v → index + 1 ≡ v.first + length v.objects → length u.objects - 1 ≡ index - u.first
is_last index u v same is =
    let first = ap (λ (k : Kept). k.first) same in
    let many = ap (λ (k : Kept). length k.objects) same in
    omega (arith, first, many, is)

within : (index : ℕ) (u v : Kept) → u ≡ v → index + 1 ≡ v.first + length v.objects → 0 < length v.objects → index - u.first < length u.objects
within index u v same is some =
    let first = ap (λ (k : Kept). k.first) same in
    let many = ap (λ (k : Kept). length k.objects) same in
    omega (arith, first, many, is, some)

there : (index : ℕ) (u v : Kept) (m : Marked) → u ≡ v → index + 1 ≡ v.first + length v.objects → 0 < length v.objects → m ≡ get_or u.objects (index - u.first) m
    → slice_get u.objects (length u.objects - 1) ≡ Some m
there index u v m same is some at = ap (slice_get u.objects) (is_last index u v same is) ∙ there_at u.objects (index - u.first) m (within index u v same is some) at

one : {x y : Marked} → Some x ≡ Some y → x ≡ y
one e = cc

pub grow-requires : goal.grow-requires
grow-requires c =
    (subst (OfLast (CanGrow c.args.closed)) (sym c.self.view_is) c.requires.last).last c.index_mut-object.result.now
    (there c.args.index _ _ c.index_mut-object.result.now c.self.view_is c.requires.index c.requires.last.some c.index_mut-object.ensures.value)

pub returns : goal.returns
returns c = λ m is.
    let at = there c.args.index _ _ c.index_mut-object.result.now c.self.view_is c.requires.index c.requires.last.some c.index_mut-object.ensures.value in
    let was : c.index_mut-object.result.now ≡ m = one (sym at ∙ ap (λ (u : Kept). slice_get u.objects (length u.objects - 1)) c.self.view_is ∙ is) in
    ap (now (c.args.index - c.self.inside.first)) (c.grow.ensures ∙ ap (λ (x : Marked). record x { closed = c.args.closed }) was)
    ∙ ap (λ (n : ℕ). now n (record m { closed = c.args.closed })) (sym (is_last c.args.index _ _ c.self.view_is c.requires.index))
    ∙ ap (grown_to c.args.closed m) c.self.view_is
  where
    now : ℕ → Marked → Kept
    now i x = record { first = c.self.inside.first; objects = set c.self.inside.objects.items i x; earliest = c.self.inside.earliest }

pub invariant_of-self : goal.invariant_of-self
invariant_of-self c =
    let lt = within c.args.index _ _ c.self.view_is c.requires.index c.requires.last.some in
    let same = c.grow.ensures in
    let was = c.index_mut-object.ensures.value in
    record {
      few = few_set c.self.inside.first c.self.inside.objects.items (c.args.index - c.self.inside.first) c.grow.new.self c.self.invariant.few;
      idle = idle_set c.self.inside.low c.self.inside.high (c.args.index - c.self.inside.first) c.self.inside.objects.items c.grow.new.self c.index_mut-object.result.now
          lt (ap (λ (m : Marked). m.asked) same ∙ ap (λ (m : Marked). m.asked) was) (ap (λ (m : Marked). m.counts) same ∙ ap (λ (m : Marked). m.counts) was) c.self.invariant.idle;
      quiet = quiet_same c.self.inside.quiet c.self.inside.objects.items (c.args.index - c.self.inside.first) c.grow.new.self c.index_mut-object.result.now
          lt (ap (λ (m : Marked). m.wants) same ∙ ap (λ (m : Marked). m.wants) was) c.self.invariant.quiet;
      counted = c.self.invariant.counted ∙ sym (wanting_same c.self.inside.objects.items (c.args.index - c.self.inside.first) c.grow.new.self c.index_mut-object.result.now
          lt (ap (λ (m : Marked). m.wants) same ∙ ap (λ (m : Marked). m.wants) was));
      planned = planned_set c.self.inside.objects.items (c.args.index - c.self.inside.first) c.grow.new.self c.self.invariant.planned c.hold.ensures;
    }
