use Rattle.std.proofs.Common.{◌+◌, ◌-◌, arith}
use Rattle.norm_receive_rules.specs.AllNeeds.{needs, needs_of, needs_from}
use Rattle.norm_receive_rules.specs.HeardNeeds.{is_heard}
use Rattle.norm_receiver.specs.Walking.{Walked, walk_on}
use Rattle.norm_receiver.proofs.AskLemmas.{needs_step, needs_over}
use Rattle.norm_receiver.proofs.WalkLemmas.{goes_more, goes_full, goes_ended}
use Rattle.norm_receiver.proofs.parts.Parts.ask_all.Goals as goal

pub returns-then-asking-clause-walked : goal.returns-then-asking-clause-walked
returns-then-asking-clause-walked c = λ s front w stands at.
    goes_full c.args.self.now.profile (is_heard s.knows.heard s.holding) c.loop-index.asking c.loop-index.out front
    (needs c.args.self.now.profile s) (needs_from (c.last_known-last.result - c.loop-index.index) c.args.self.now.profile s.knows.farthest s.knows.flush s.holding c.loop-index.index) w
    c.if-asking.true (c.loop-index.invariant.walked s front w stands at)

pub loop-index-preserved : goal.loop-index-preserved
loop-index-preserved c = record {
  reached = let le = c.loop-index.invariant.reached in omega arith;
  room = c.ask_object.ensures.room;
  walked = λ s front w stands at.
      goes_more c.args.self.now.profile (is_heard s.knows.heard s.holding) c.loop-index.asking c.ask_object.new.asking c.loop-index.out c.ask_object.new.out front
      (needs c.args.self.now.profile s) (needs_from (c.last_known-last.result - c.loop-index.index) c.args.self.now.profile s.knows.farthest s.knows.flush s.holding c.loop-index.index)
      (needs_from (c.last_known-last.result - (c.loop-index.index + 1)) c.args.self.now.profile s.knows.farthest s.knows.flush s.holding (c.loop-index.index + 1)) w
      (λ (v : Walked). walk_on c.args.self.now.profile (needs_of c.args.self.now.profile s.knows.farthest s.knows.flush s.holding c.loop-index.index) v)
      (λ v here. c.ask_object.ensures.walked s front v stands here)
      (λ v. needs_step c.args.self.now.profile s.knows.farthest s.knows.flush s.holding c.last_known-last.result c.loop-index.index v c.loop-index-test.true)
      (c.loop-index.invariant.walked s front w stands at);
}

pub returns-clause-walked : goal.returns-clause-walked
returns-clause-walked c = λ s front w stands at.
    goes_ended c.args.self.now.profile (is_heard s.knows.heard s.holding) c.loop-index.asking c.loop-index.out front
    (needs c.args.self.now.profile s) (needs_from (c.last_known-last.result - c.loop-index.index) c.args.self.now.profile s.knows.farthest s.knows.flush s.holding c.loop-index.index) w
    (needs_over c.args.self.now.profile s.knows.farthest s.knows.flush s.holding c.last_known-last.result c.loop-index.index (omega (arith, c.loop-index-test.false)))
    (c.loop-index.invariant.walked s front w stands at)
