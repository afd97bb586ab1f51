use Rattle.std.proofs.Common.{◌≡◌, ◌<◌, ◌≤◌, ℕ, List, length, get_or, Some, sym, ap, subst, ◌∙◌, arith}
use Rattle.std.specs.Prelude.{slice_get}
use Rattle.nack_union.specs.Kept.{Kept, Marked, MayMoveOn, moved_front, any_gone}
use Rattle.nack_union.specs.CollectionSound.{AreIdle, AreQuiet}
use Rattle.nack_union.proofs.Heard.{there_at}
use Rattle.nack_union.proofs.Quiet.{few_set}
use Rattle.nack_union.proofs.Planned.{planned_set}
use Rattle.nack_union.proofs.Wanting.{one, one_is, wanting_set, wanting_one}
use Rattle.nack_union.proofs.Fronting.{set_front, gone_front, idle_front, quiet_front}
use Rattle.nack_union.proofs.collection.Collection.move_first.Goals as goal

some : (u v : Kept) → u ≡ v → 0 < length v.objects → 0 < length u.objects
some u v same more = subst (λ (k : Kept). 0 < length k.objects) (sym same) more

-- what is known of the first object
known : (u v : Kept) (block : ℕ) (m : Marked) → u ≡ v → 0 < length v.objects → m ≡ get_or u.objects 0 m
    → ((x : Marked) → slice_get v.objects 0 ≡ Some x → (x.first ≤ block) × MayMoveOn block x) → (m.first ≤ block) × MayMoveOn block m
known u v block m same more is each = each m (subst (λ (k : Kept). slice_get k.objects 0 ≡ Some m) same (there_at u.objects 0 m (some u v same more) is))

pub move_on-gone-requires-clause-stream : goal.move_on-gone-requires-clause-stream
move_on-gone-requires-clause-stream c = (known _ _ c.args.block c.index_mut-object.result.now c.self.view_is c.requires.some c.index_mut-object.ensures.value c.requires.first).1.stream

pub move_on-gone-requires-clause-plain : goal.move_on-gone-requires-clause-plain
move_on-gone-requires-clause-plain c = (known _ _ c.args.block c.index_mut-object.result.now c.self.view_is c.requires.some c.index_mut-object.ensures.value c.requires.first).1.plain

pub move_on-gone-requires-clause-onward : goal.move_on-gone-requires-clause-onward
move_on-gone-requires-clause-onward c = (known _ _ c.args.block c.index_mut-object.result.now c.self.view_is c.requires.some c.index_mut-object.ensures.value c.requires.first).0

pub returns-clause-exact : goal.returns-clause-exact
returns-clause-exact c =
    ap (λ (ms : List Marked). record { first = c.self.inside.first; objects = ms; earliest = c.self.inside.earliest })
    (set_front c.args.block c.self.inside.objects.items c.index_mut-object.result.now c.move_on-gone.new.self c.requires.later (some _ _ c.self.view_is c.requires.some) c.index_mut-object.ensures.value c.move_on-gone.ensures.exact)
    ∙ ap (λ (u : Kept). record u { objects = moved_front c.args.block u.objects }) c.self.view_is

pub returns-clause-gone : goal.returns-clause-gone
returns-clause-gone c =
    c.move_on-gone.ensures.gone
    ∙ gone_front c.args.block c.self.inside.objects.items c.index_mut-object.result.now c.requires.later (some _ _ c.self.view_is c.requires.some) c.index_mut-object.ensures.value
    ∙ ap (λ (u : Kept). any_gone c.args.block u.objects) c.self.view_is

pub invariant_of-self : goal.invariant_of-self
invariant_of-self c =
    let moved =
    set_front c.args.block c.self.inside.objects.items c.index_mut-object.result.now c.move_on-gone.new.self c.requires.later (some _ _ c.self.view_is c.requires.some) c.index_mut-object.ensures.value c.move_on-gone.ensures.exact in
    record {
      few = few_set c.self.inside.first c.self.inside.objects.items 0 c.move_on-gone.new.self c.self.invariant.few;
      idle = subst (AreIdle c.self.inside.low c.self.inside.high) (sym moved) (idle_front c.args.block c.self.inside.low c.self.inside.high c.self.inside.objects.items c.self.invariant.idle);
      quiet = subst (AreQuiet c.self.inside.quiet) (sym moved) (quiet_front c.args.block c.self.inside.quiet c.self.inside.objects.items c.self.invariant.quiet);
      counted =
          let was = c.self.invariant.counted in
          let all = wanting_set c.self.inside.objects.items 0 c.move_on-gone.new.self c.index_mut-object.result.now (some _ _ c.self.view_is c.requires.some) in
          let before : c.from-before.result ≡ one (get_or c.self.inside.objects.items 0 c.index_mut-object.result.now) =
          one_is c.index_mut-object.result.now c.is_wanted.result c.from-before.result c.from-before.ensures c.is_wanted.ensures ∙ ap one c.index_mut-object.ensures.value in
          let after : c.from-after.result ≡ one c.move_on-gone.new.self = one_is c.move_on-gone.new.self c.is_wanted-2.result c.from-after.result c.from-after.ensures c.is_wanted-2.ensures in
          let low = wanting_one c.self.inside.objects.items 0 c.index_mut-object.result.now (some _ _ c.self.view_is c.requires.some) in
          omega (arith, was, all, before, after, low);
      planned = planned_set c.self.inside.objects.items 0 c.move_on-gone.new.self c.self.invariant.planned c.hold.ensures;
    }

pub move_on-gone-requires-clause-most : goal.move_on-gone-requires-clause-most
move_on-gone-requires-clause-most c = (known _ _ c.args.block c.index_mut-object.result.now c.self.view_is c.requires.some c.index_mut-object.ensures.value c.requires.first).1.most
