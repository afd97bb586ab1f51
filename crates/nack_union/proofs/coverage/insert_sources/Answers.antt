use Rattle.std.proofs.Common.{◌≡◌, ◌<◌, ◌≤◌, ◌+◌, refl, ap, sym, ◌∙◌, arith, nat_lt}
use Rattle.std.specs.Prelude.{◌||◌, max, min}
use Rattle.std.proofs.Math.Nat.{div-add-mod}
use Rattle.std.proofs.Math.Bool.{or_assoc}
use Rattle.norm_order.specs.Sets.{is_member}
use Rattle.fec_plan.specs.Partition.{blocks}
use Rattle.norm_order.specs.Shapes.{closed_in}
use Rattle.nack_union.specs.Repairs.{shape_closed}
use Rattle.symbol_mask.specs.Words.{in_run}
use Rattle.symbol_mask.proofs.Puts.{or_false}
use Rattle.nack_union.proofs.Runs.{blocks_none, blocks_end, slot_more}
use Rattle.nack_union.proofs.coverage.insert_sources.Goals as goal

pub runs-init : goal.runs-init
runs-init c = record {
  members = λ slot. sym (or_false _ _ (blocks_none (shape_closed c.args.plan.now c.args.closed) slot c.args.from c.args.to _
      (c.saturating_sub-first.ensures)));
  size = refl;
  after = omega arith;
  most = omega arith;
}

pub insert_run-requires : goal.insert_run-requires
insert_run-requires c =
    let size = c.runs.invariant.size in
    let in_room : c.runs.block < c.args.room = let lt = c.runs-test.true in let last = c.min-behind.ensures in omega (arith, lt, last) in
    let most = c.requires.size in
    let end = c.min.ensures in
    let start = c.slot_of-start.ensures.slot in
    omega (arith, size, in_room, most, end, start)

pub runs-preserved : goal.runs-preserved
runs-preserved c = record {
  members = λ slot.
      let low = c.max.ensures ∙ ap (λ n. max n c.args.from) c.slot_of-start.ensures.slot in
      let high = c.min.ensures ∙ ap (λ n. min (n + c.from.result) c.args.to) c.slot_of-start.ensures.slot in
      let many : c.from.result ≡ closed_in (shape_closed c.args.plan.now c.args.closed) c.runs.block = c.from.ensures ∙ c.closed_len.ensures in
      let few : c.from.result ≤ 256 = let top = c.closed_len.type_inv in let same = c.from.ensures in omega (arith, top, same) in
      let in_object : c.runs.block < blocks c.args.plan.now = let lt = c.runs-test.true in let last = c.min-behind.ensures in let fits = c.requires.within in omega (arith, lt, last, fits) in
      c.insert_run.ensures.members slot
      ∙ ap (λ b. b || in_run c.max.result c.min.result slot) (c.runs.invariant.members slot)
      ∙ or_assoc (is_member nat_lt slot c.args.set.now.members) _ _
      ∙ ap (λ b. is_member nat_lt slot c.args.set.now.members || b)
      (slot_more (shape_closed c.args.plan.now c.args.closed) slot c.runs.block c.args.from c.args.to c.max.result c.min.result c.from.result many few in_object low high);
  size = c.insert_run.ensures.size ∙ c.runs.invariant.size;
  after = let after = c.runs.invariant.after in omega (arith, after);
  most = let lt = c.runs-test.true in omega (arith, lt);
}

pub returns-clause-members : goal.returns-clause-members
returns-clause-members c = λ slot.
    c.runs.invariant.members slot
    ∙ ap (λ b. is_member nat_lt slot c.args.set.now.members || b)
    (blocks_end (shape_closed c.args.plan.now c.args.closed) slot c.args.from c.args.to c.saturating_sub-first.result c.runs.block c.div_ceil.result c.min-behind.result c.args.room
    c.saturating_sub-first.ensures c.min-behind.ensures c.requires.behind
    (let up = c.div_ceil.ensures in let less = c.saturating_sub.ensures in omega (arith, up, less, div-add-mod c.saturating_sub.result 256))
    c.runs.invariant.most c.runs-test.false)
