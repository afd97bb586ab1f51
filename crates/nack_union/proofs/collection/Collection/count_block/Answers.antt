use Rattle.std.proofs.Common.{◌≡◌, ◌+◌, ◌-◌, ◌<◌, false, length, set, sym, ap, subst, ◌∙◌, arith}
use Rattle.std.proofs.lemmas.Bool.{MatchBool-at_true}
use Rattle.fec_plan.specs.declared.position.Position.{Position}
use Rattle.nack_union.specs.Kept.{Kept, Marked, symbols_of_marked}
use Rattle.nack_union.specs.More.{HasMore, HasPart, count_part, kept_count, count_at}
use Rattle.nack_union.proofs.Single.{part_single, idle_single, counted_there, counted_alone}
use Rattle.nack_union.proofs.Quiet.{quiet_same, few_set}
use Rattle.nack_union.proofs.Wanting.{wanting_same}
use Rattle.nack_union.proofs.Planned.{planned_set}
use Rattle.nack_union.proofs.collection.Collection.count_block.Goals as goal

pub invariant_of-self : goal.invariant_of-self
invariant_of-self c =
    let items = c.self.inside.objects.items in
    let i = c.at.inside.index - c.self.inside.first in
    let new = c.count_block.new.self in
    let m = c.index_mut-object.result.now in
    let first = ap (λ (u : Kept). u.first) c.self.view_is in
    let many = ap (λ (u : Kept). length u.objects) c.self.view_is in
    let there = MatchBool-at_true _ _ c.if-not-has.false c.has.ensures in
    let lt : i < length items = omega (arith, first, many, there) in
    let wants = ap (λ (x : Marked). x.wants) c.count_block.ensures.rest ∙ ap (λ (x : Marked). x.wants) c.index_mut-object.ensures.value in
    record {
      few = few_set c.self.inside.first items i new c.self.invariant.few;
      idle = idle_single c.self.inside.low c.self.inside.high c.min-self-inside.result c.max-self-inside.result i items new c.min-self-inside.ensures c.max-self-inside.ensures c.self.invariant.idle;
      quiet = quiet_same c.self.inside.quiet items i new m lt wants c.self.invariant.quiet;
      counted = c.self.invariant.counted ∙ sym (wanting_same items i new m lt wants);
      planned = planned_set items i new c.self.invariant.planned c.hold.ensures;
    }

pub returns : goal.returns
returns c =
    let items = c.self.inside.objects.items in
    let i = c.at.inside.index - c.self.inside.first in
    let new = c.count_block.new.self in
    let m = c.index_mut-object.result.now in
    let first = ap (λ (u : Kept). u.first) c.self.view_is in
    let many = ap (λ (u : Kept). length u.objects) c.self.view_is in
    let at = ap (λ (x : Position). x.index) c.at.view_is in
    let there = MatchBool-at_true _ _ c.if-not-has.false c.has.ensures in
    let lt : i < length items = omega (arith, first, many, there) in
    let is : c.args.at.index ≡ c.self.inside.first + i = omega (arith, first, there, at) in
    let more = subst (λ (x : Position). HasMore (λ slot. false) (λ block. kept_count (symbols_of_marked m) block (count_at x.block x.symbol block)) m new) c.at.view_is c.count_block.ensures in
    subst (λ (u : Kept). HasPart (count_part c.args.at) u (record { first = c.self.inside.first; objects = set items i new; earliest = c.self.inside.earliest })) c.self.view_is
    (part_single (count_part c.args.at) (record { first = c.self.inside.first; objects = items; earliest = c.self.inside.earliest }) i new m lt c.index_mut-object.ensures.value
    (counted_there c.args.at (c.self.inside.first + i) m new is more) (counted_alone c.args.at c.self.inside.first i is))
