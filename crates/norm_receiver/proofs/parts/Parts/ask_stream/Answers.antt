use Rattle.std.proofs.Common.{◌≡◌, ap, subst, ◌∙◌}
use Rattle.norm_base.specs.Settings.{Settings}
use Rattle.norm_receive_rules.specs.HeardNeeds.{is_heard}
use Rattle.norm_receive_rules.specs.Holding.{Plan}
use Rattle.norm_receive_rules.specs.Lazy.{lazily}
use Rattle.norm_receive_rules.specs.Needs.{counts_from}
use Rattle.norm_receive_rules.specs.Plans.{plan_of}
use Rattle.norm_receiver.specs.Streams.{missing_of, rest_of, sources, wants_of}
use Rattle.norm_receiver.specs.Walking.{Walked, IsAt, walk_on}
use Rattle.norm_receiver.specs.declared.numbers.Numbers.{Numbers}
use Rattle.norm_receiver.proofs.AskLemmas.{of_some, with_some}
use Rattle.norm_receiver.proofs.NeedLemmas.{index_of_found}
use Rattle.norm_receiver.proofs.StreamLemmas.{done_first, due_within, stream_walked}
use Rattle.norm_receiver.proofs.parts.Parts.ask_stream.Goals as goal

pub returns-clause-walked : goal.returns-clause-walked
returns-clause-walked c = λ s front w stands at.
    with_some (plan_of s.holding c.args.index) (λ found is.
    let own = index_of_found c.args.index s.holding.plans found is in
    subst (λ (v : Walked). IsAt c.args.self.now.profile (is_heard s.knows.heard s.holding) c.ask_behind.new.asking c.ask_behind.new.out front v)
    (stream_walked c.args.self.now.profile s.knows.farthest s.knows.flush s.holding c.args.index found c.stream_wants-wants.result w
    (of_some (λ (x : Plan). c.stream_wants-wants.result ≡ wants_of c.args.self.now.hold.p c.args.self.now.numbers.farthest c.args.self.now.numbers.flush s.holding x) (plan_of s.holding c.args.index) found is
    (c.stream_wants-wants.ensures.exact s.holding stands.hold stands.seen)
    ∙ ap (λ (p : Settings). wants_of p c.args.self.now.numbers.farthest c.args.self.now.numbers.flush s.holding found) stands.profile
    ∙ ap (λ (n : Numbers). wants_of c.args.self.now.profile n.farthest n.flush s.holding found) stands.numbers)
    own (done_first c.args.self.now.hold s.holding c.args.index found stands.hold is))
    (of_some (λ (x : Plan). IsAt c.args.self.now.profile (is_heard s.knows.heard s.holding) c.ask_behind.new.asking c.ask_behind.new.out front
    (walk_on c.args.self.now.profile (lazily (rest_of c.args.index c.stream_wants-wants.result.rest)) (walk_on c.args.self.now.profile (sources (missing_of s.holding x c.stream_wants-wants.result.ended))
    (walk_on c.args.self.now.profile (sources (missing_of s.holding x c.stream_wants-wants.result.flushed)) (walk_on c.args.self.now.profile (counts_from s.holding found c.stream_wants-wants.result.due 0) w)))))
    (plan_of s.holding c.args.index) found is
    (c.ask_behind.ensures.walked s front (walk_on c.args.self.now.profile (counts_from s.holding found c.stream_wants-wants.result.due 0) w) stands
    (of_some (λ (x : Plan). IsAt c.args.self.now.profile (is_heard s.knows.heard s.holding) c.ask_blocks.new.asking c.ask_blocks.new.out front
    (walk_on c.args.self.now.profile (counts_from s.holding x c.stream_wants-wants.result.due 0) w)) (plan_of s.holding c.args.index) found is
    (c.ask_blocks.ensures.walked s front w stands at)))))

pub ask_blocks-requires : goal.ask_blocks-requires
ask_blocks-requires c = record {
  reached = c.requires.stream.reached;
  plan = c.requires.stream.known;
  due = due_within c.args.plan.now c.stream_wants-wants.result.due c.requires.stream.stream c.stream_wants-wants.ensures.widths.due;
  room = c.requires.room;
}
