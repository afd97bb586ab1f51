use Rattle.std.proofs.Common.{◌≤◌, ◌≡◌, ◌+◌, false, subst}
use Rattle.fec_plan.specs.Partition.{Cut, blocks}
use Rattle.fec_plan.specs.Points.{point, point_before, point_of}
use Rattle.norm_receive_rules.specs.HeardNeeds.{is_heard}
use Rattle.norm_receive_rules.specs.Needs.{counts_from}
use Rattle.norm_receive_rules.specs.Holding.{Plan}
use Rattle.norm_receive_rules.specs.Plans.{plan_of, lacking}
use Rattle.norm_receive_rules.specs.Short.{IsShortFrom}
use Rattle.rx_hold.specs.Asked.{IsShortIn}
use Rattle.norm_receiver.specs.Walking.{Walked, IsAt, walk_lacking}
use Rattle.norm_receiver.proofs.AskLemmas.{for_some, of_some, counts_begun, counts_left, counts_more, counts_none, counts_over, fewer_left}
use Rattle.norm_receiver.proofs.NeedLemmas.{cut_same}
use Rattle.norm_receiver.proofs.WalkLemmas.{goes_begun, goes_more, goes_full, goes_ended}
use Rattle.norm_receiver.proofs.parts.Parts.ask_blocks.Goals as goal

pub loop-short-init : goal.loop-short-init
loop-short-init c = record {
  ahead = c.first_short-short.ensures.ahead;
  lacks = c.first_short-short.ensures.short;
  room = c.requires.room;
  walked = λ s front w stands at.
      for_some (plan_of s.holding c.args.index) (c.first_short-short.ensures.first s.holding stands.hold) (λ found is short.
      goes_begun c.args.self.now.profile (is_heard s.knows.heard s.holding) c.args.asking.now c.args.out.now front
      (counts_from s.holding found c.args.due 0) (counts_left s.holding found c.args.due c.first_short-short.result) w
      (counts_begun c.args.self.now.profile s.holding found c.args.due c.first_short-short.result w
      (subst (λ (cut : Cut). c.args.due ≤ blocks cut) (cut_same c.args.plan.now (plan_of s.holding c.args.index) found is (c.requires.plan.state s.holding stands.hold)) c.requires.due)
      short) at);
}

pub returns-then-block-due-clause-walked : goal.returns-then-block-due-clause-walked
returns-then-block-due-clause-walked c = λ s front w stands at.
    for_some (plan_of s.holding c.args.index) (c.loop-short.invariant.walked s front w stands at) (λ found is g.
    goes_ended c.args.self.now.profile (is_heard s.knows.heard s.holding) c.loop-short.asking c.loop-short.out front
    (counts_from s.holding found c.args.due 0) (counts_left s.holding found c.args.due c.loop-short.short) w
    (counts_over s.holding found c.args.due c.in-Some.block c.loop-short.short c.in-Some.is c.if-block-due.true) g)

pub returns-then-asking-clause-walked : goal.returns-then-asking-clause-walked
returns-then-asking-clause-walked c = λ s front w stands at.
    for_some (plan_of s.holding c.args.index) (c.loop-short.invariant.walked s front w stands at) (λ found is g.
    goes_full c.args.self.now.profile (is_heard s.knows.heard s.holding) c.loop-short.asking c.loop-short.out front
    (counts_from s.holding found c.args.due 0) (counts_left s.holding found c.args.due c.loop-short.short) w c.if-asking.true g)

pub ask_block-requires-clause-ahead : goal.ask_block-requires-clause-ahead
ask_block-requires-clause-ahead c =
    of_some (λ block. point_before (point c.args.index block) (point_of c.args.self.now.hold.point) ≡ false) c.loop-short.short c.in-Some.block c.in-Some.is c.loop-short.invariant.ahead

pub ask_block-requires-clause-short : goal.ask_block-requires-clause-short
ask_block-requires-clause-short c =
    of_some (λ block. IsShortIn c.args.self.now.hold c.args.index block) c.loop-short.short c.in-Some.block c.in-Some.is c.loop-short.invariant.lacks

pub next_short-short-requires-clause-short : goal.next_short-short-requires-clause-short
next_short-short-requires-clause-short c =
    of_some (λ block. IsShortIn c.args.self.now.hold c.args.index block) c.loop-short.short c.in-Some.block c.in-Some.is c.loop-short.invariant.lacks

pub loop-short-smaller : goal.loop-short-smaller
loop-short-smaller c = fewer_left c.args.due c.in-Some.block c.loop-short.short c.next_short-short.result c.in-Some.is c.if-block-due.false c.next_short-short.ensures.behind

pub loop-short-preserved : goal.loop-short-preserved
loop-short-preserved c = record {
  ahead = c.next_short-short.ensures.ahead;
  lacks = c.next_short-short.ensures.short;
  room = c.ask_block.ensures.room;
  walked = λ s front w stands at.
      for_some (plan_of s.holding c.args.index) (c.loop-short.invariant.walked s front w stands at) (λ found is g.
      goes_more c.args.self.now.profile (is_heard s.knows.heard s.holding) c.loop-short.asking c.ask_block.new.asking c.loop-short.out c.ask_block.new.out front
      (counts_from s.holding found c.args.due 0) (counts_left s.holding found c.args.due c.loop-short.short)
      (counts_left s.holding found c.args.due c.next_short-short.result) w
      (λ (v : Walked). walk_lacking c.args.self.now.profile found c.in-Some.block (lacking s.holding found c.in-Some.block) v)
      (λ v here. of_some (λ (x : Plan). IsAt c.args.self.now.profile (is_heard s.knows.heard s.holding) c.ask_block.new.asking c.ask_block.new.out front (walk_lacking c.args.self.now.profile x c.in-Some.block (lacking s.holding x c.in-Some.block) v)) (plan_of s.holding c.args.index) found is (c.ask_block.ensures.walked s front v stands here))
      (λ v. counts_more c.args.self.now.profile s.holding found c.args.due c.in-Some.block c.loop-short.short c.next_short-short.result v c.in-Some.is c.if-block-due.false
      (subst (λ (cut : Cut). c.args.due ≤ blocks cut) (cut_same c.args.plan.now (plan_of s.holding c.args.index) found is (c.requires.plan.state s.holding stands.hold)) c.requires.due)
      (of_some (λ (x : Plan). IsShortFrom s.holding x (c.in-Some.block + 1) c.next_short-short.result) (plan_of s.holding c.args.index) found is (c.next_short-short.ensures.next s.holding stands.hold))) g);
}

pub returns-clause-walked : goal.returns-clause-walked
returns-clause-walked c = λ s front w stands at.
    for_some (plan_of s.holding c.args.index) (c.loop-short.invariant.walked s front w stands at) (λ found is g.
    goes_ended c.args.self.now.profile (is_heard s.knows.heard s.holding) c.loop-short.asking c.loop-short.out front
    (counts_from s.holding found c.args.due 0) (counts_left s.holding found c.args.due c.loop-short.short) w
    (counts_none s.holding found c.args.due c.loop-short.short c.in_default.is) g)
