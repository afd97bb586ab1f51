use Rattle.std.proofs.Common.{◌≡◌, ◌<◌, ◌≤◌, ◌+◌, refl, ap, sym, ◌∙◌, arith, nat_lt, take, suc, get_or}
use Rattle.std.specs.Prelude.{◌||◌, ◌&&◌, max}
use Rattle.std.proofs.Math.Bool.{or_assoc}
use Rattle.norm_order.specs.Sets.{is_member}
use Rattle.fec_plan.specs.Partition.{blocks}
use Rattle.norm_order.specs.Shapes.{closed_in}
use Rattle.nack_union.specs.Repairs.{shape_closed}
use Rattle.nack_union.specs.Coverage.{farthest}
use Rattle.symbol_mask.specs.Words.{in_run}
use Rattle.nack_union.specs.Slots.{symbol_slot}
use Rattle.nack_union.proofs.Coverages.{farthest_more, run_step, no_block, all_blocks}
use Rattle.symbol_mask.proofs.Puts.{or_false}
use Rattle.nack_union.proofs.Wholes.{sources_most}
use Rattle.nack_union.proofs.coverage.insert_runs.Goals as goal

pub covered-init : goal.covered-init
covered-init c = record {
  members = λ slot. sym (or_false _ _ (no_block (shape_closed c.args.plan.now c.args.closed) c.args.ends.now slot));
  farthest = refl;
  size = refl;
}

pub covered-preserved : goal.covered-preserved
covered-preserved c =
    let far : c.max-farthest.result ≡ farthest (take (suc c.covered.block) c.args.ends.now) =
    c.max-farthest.ensures ∙ ap (λ n. max n (get_or c.args.ends.now c.covered.block 0)) c.covered.invariant.farthest ∙ sym (farthest_more c.args.ends.now c.covered.block) in
    let within : c.covered.block < blocks c.args.plan.now = let lt = c.covered-test.true in let few = c.min-behind.ensures in let many = c.blocks-2.ensures.exact in omega (arith, lt, few, many) in
    let few : closed_in (shape_closed c.args.plan.now c.args.closed) c.covered.block ≤ 256 =
    let most = sources_most c.args.plan.now c.covered.block c.blocks-2.ensures.sound in let b = c.blocks-2.ensures.sound.most_b in omega (arith, most, b) in
    record {
      members = λ slot.
          c.insert_block.ensures.members slot
          ∙ ap (λ b. b || (nat_lt c.covered.block c.max-farthest.result && in_run (symbol_slot c.covered.block 0) (symbol_slot c.covered.block 0 + closed_in (shape_closed c.args.plan.now c.args.closed) c.covered.block) slot)) (c.covered.invariant.members slot)
          ∙ or_assoc (is_member nat_lt slot c.args.set.now.members) _ _
          ∙ ap (λ b. is_member nat_lt slot c.args.set.now.members || b)
          (run_step (shape_closed c.args.plan.now c.args.closed) c.args.ends.now slot c.covered.block _ few within (ap (nat_lt c.covered.block) far));
      farthest = far ∙ ap (λ n. farthest (take n c.args.ends.now)) (let e : suc c.covered.block ≡ c.covered.block + 1 = omega arith in e);
      size = c.insert_block.ensures.size ∙ c.covered.invariant.size;
    }

pub returns-clause-members : goal.returns-clause-members
returns-clause-members c = λ slot.
    c.covered.invariant.members slot
    ∙ ap (λ b. is_member nat_lt slot c.args.set.now.members || b)
    (all_blocks (shape_closed c.args.plan.now c.args.closed) c.args.ends.now slot c.covered.block
    (λ block le. c.requires.behind block (let many = c.blocks-2.ensures.exact in let few = c.min-behind.ensures in let done = c.covered-test.false in let fits = c.requires.within in omega (arith, many, few, done, fits, le))))

pub returns-clause-size : goal.returns-clause-size
returns-clause-size c = c.covered.invariant.size
