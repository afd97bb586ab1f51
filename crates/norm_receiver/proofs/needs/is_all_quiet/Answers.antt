use Rattle.std.proofs.Common.{sym, ◌∙◌, arith}
use Rattle.norm_receive_rules.specs.AllNeeds.{needs_by}
use Rattle.norm_receiver.specs.Quiet.{is_nil}
use Rattle.norm_receiver.proofs.NeedLemmas.{quiet_so_far, not_quiet, walked_to_end}
use Rattle.norm_receiver.proofs.needs.is_all_quiet.Goals as goal

pub returns-then-not-is_quiet : goal.returns-then-not-is_quiet
returns-then-not-is_quiet c = λ s stands seen.
    not_quiet c.last_known-last.result c.loop-index.index c.args.hold.now.p c.args.numbers.now.farthest c.args.numbers.now.flush s
    (is_nil (needs_by c.args.hold.now.p c.args.numbers.now.farthest c.args.numbers.now.flush s)) c.is_quiet.result
    (c.loop-index.invariant.quiet s stands seen) c.loop-index-test.true (c.is_quiet.ensures s stands seen) c.if-not-is_quiet.true

pub loop-index-preserved : goal.loop-index-preserved
loop-index-preserved c = record {
  reached = let le = c.loop-index.invariant.reached in omega arith;
  quiet = λ s stands seen.
      quiet_so_far c.last_known-last.result c.loop-index.index c.args.hold.now.p c.args.numbers.now.farthest c.args.numbers.now.flush s
      (is_nil (needs_by c.args.hold.now.p c.args.numbers.now.farthest c.args.numbers.now.flush s)) c.is_quiet.result
      (c.loop-index.invariant.quiet s stands seen) c.loop-index-test.true (c.is_quiet.ensures s stands seen) c.if-not-is_quiet.false;
}

pub returns : goal.returns
returns c = λ s stands seen.
    sym (c.loop-index.invariant.quiet s stands seen
    ∙ walked_to_end c.last_known-last.result c.loop-index.index c.args.hold.now.p c.args.numbers.now.farthest c.args.numbers.now.flush s (omega (arith, c.loop-index-test.false)))
