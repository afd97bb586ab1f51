use Rattle.std.proofs.Common.{ap, sym, subst, ◌∙◌, true, false}
use Rattle.norm_receive_rules.specs.HeardNeeds.{is_heard}
use Rattle.norm_receive_rules.specs.Needs.{ObjectInfo, is_covered, object_needs}
use Rattle.norm_receive_rules.specs.Holding.{Plan}
use Rattle.norm_receive_rules.specs.Plans.{plan_of}
use Rattle.norm_receive_rules.specs.StreamNeeds.{stream_needs}
use Rattle.norm_receiver.specs.Walking.{Walked, IsAt, walk_where, walk_on}
use Rattle.norm_receiver.specs.declared.numbers.Numbers.{Numbers}
use Rattle.norm_receiver.proofs.AskLemmas.{of_some, plan_found, object_unknown, object_planned}
use Rattle.norm_receiver.proofs.NeedLemmas.{no_plan}
use Rattle.norm_receiver.proofs.StreamLemmas.{stream_in}
use Rattle.norm_receiver.proofs.parts.Parts.ask_object.Goals as goal

pub returns-in_default-clause-walked : goal.returns-in_default-clause-walked
returns-in_default-clause-walked c = λ s front w stands at.
    subst (λ (v : Walked). IsAt c.args.self.now.profile (is_heard s.knows.heard s.holding) c.ask_unknown.new.asking c.ask_unknown.new.out front v)
    (sym (object_unknown c.args.self.now.profile s.knows.farthest s.knows.flush s.holding c.args.index c.is_covered-covered.result w
    (c.is_covered-covered.ensures ∙ ap (λ (n : Numbers). is_covered n.farthest n.flush c.args.index) stands.numbers)
    (c.in_default.ensures.state s.holding stands.hold)))
    (c.ask_unknown.ensures.walked s front w stands (no_plan (plan_of s.holding c.args.index) (sym (c.in_default.ensures.state s.holding stands.hold))) at)

pub returns-then-is_stream-clause-walked : goal.returns-then-is_stream-clause-walked
returns-then-is_stream-clause-walked c = λ s front w stands at.
    plan_found s.holding c.args.index c.in-Some.flags (c.in-Some.ensures.state s.holding stands.hold) (λ found is.
    subst (λ (v : Walked). IsAt c.args.self.now.profile (is_heard s.knows.heard s.holding) c.ask_stream.new.asking c.ask_stream.new.out front v)
    (sym (object_planned c.args.self.now.profile s.knows.farthest s.knows.flush s.holding c.args.index c.in-Some.flags c.is_covered-covered.result c.lacks_info-lacks.result true found w is
    (c.is_covered-covered.ensures ∙ ap (λ (n : Numbers). is_covered n.farthest n.flush c.args.index) stands.numbers)
    (c.in-Some.ensures.state s.holding stands.hold) (sym c.if-is_stream.true ∙ c.is_stream.ensures) (c.lacks_info-lacks.ensures s.holding stands.hold)))
    (of_some (λ (x : Plan). IsAt c.args.self.now.profile (is_heard s.knows.heard s.holding) c.ask_stream.new.asking c.ask_stream.new.out front
    (walk_on c.args.self.now.profile (stream_needs c.args.self.now.profile s.knows.farthest s.knows.flush s.holding x) (walk_where c.args.self.now.profile c.lacks_info-lacks.result w (ObjectInfo c.args.index))))
    (plan_of s.holding c.args.index) found is
    (c.ask_stream.ensures.walked s front (walk_where c.args.self.now.profile c.lacks_info-lacks.result w (ObjectInfo c.args.index)) stands (c.ask_info.ensures.walked s front w stands at))))

pub returns-clause-walked : goal.returns-clause-walked
returns-clause-walked c = λ s front w stands at.
    plan_found s.holding c.args.index c.in-Some.flags (c.in-Some.ensures.state s.holding stands.hold) (λ found is.
    subst (λ (v : Walked). IsAt c.args.self.now.profile (is_heard s.knows.heard s.holding) c.ask_counts.new.asking c.ask_counts.new.out front v)
    (sym (object_planned c.args.self.now.profile s.knows.farthest s.knows.flush s.holding c.args.index c.in-Some.flags c.is_covered-covered.result c.lacks_info-lacks.result false found w is
    (c.is_covered-covered.ensures ∙ ap (λ (n : Numbers). is_covered n.farthest n.flush c.args.index) stands.numbers)
    (c.in-Some.ensures.state s.holding stands.hold) (sym c.if-is_stream.false ∙ c.is_stream.ensures) (c.lacks_info-lacks.ensures s.holding stands.hold)))
    (of_some (λ (x : Plan). IsAt c.args.self.now.profile (is_heard s.knows.heard s.holding) c.ask_counts.new.asking c.ask_counts.new.out front
    (walk_on c.args.self.now.profile (object_needs s.knows.farthest s.knows.flush s.holding x) (walk_where c.args.self.now.profile c.lacks_info-lacks.result w (ObjectInfo c.args.index))))
    (plan_of s.holding c.args.index) found is
    (c.ask_counts.ensures.walked s front (walk_where c.args.self.now.profile c.lacks_info-lacks.result w (ObjectInfo c.args.index)) stands (c.ask_info.ensures.walked s front w stands at))))

pub ask_stream-requires : goal.ask_stream-requires
ask_stream-requires c = record {
  stream = record {
    known = record { held = sym c.in-Some-plan.ensures.exact; state = c.in-Some-plan.ensures.state };
    stream = stream_in c.args.self.now.hold c.args.index c.in-Some.flags c.in-Some-plan.plan c.in-Some.ensures.exact c.in-Some-plan.ensures.exact (sym c.if-is_stream.true ∙ c.is_stream.ensures);
    reached = c.requires.reached;
  };
  room = c.ask_info.ensures.room;
}
