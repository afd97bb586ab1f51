use Rattle.norm_receive_rules.specs.HeardNeeds.{is_heard}
use Rattle.norm_receive_rules.specs.Holding.{Plan}
use Rattle.norm_receive_rules.specs.Lazy.{lazily}
use Rattle.norm_receive_rules.specs.Plans.{plan_of}
use Rattle.norm_receiver.specs.Streams.{missing_of, rest_of, sources}
use Rattle.norm_receiver.specs.Walking.{IsAt, walk_on}
use Rattle.norm_receiver.proofs.AskLemmas.{of_some, with_some}
use Rattle.norm_receiver.proofs.parts.Parts.ask_behind.Goals as goal

pub returns-clause-walked : goal.returns-clause-walked
returns-clause-walked c = λ s front w stands at.
    with_some (plan_of s.holding c.args.index) (λ found is.
    of_some (λ (x : Plan). IsAt c.args.self.now.profile (is_heard s.knows.heard s.holding) c.ask_rest.new.asking c.ask_rest.new.out front
    (walk_on c.args.self.now.profile (lazily (rest_of c.args.index c.args.wants.now.rest)) (walk_on c.args.self.now.profile (sources (missing_of s.holding found c.args.wants.now.ended))
    (walk_on c.args.self.now.profile (sources (missing_of s.holding found c.args.wants.now.flushed)) w)))) (plan_of s.holding c.args.index) found is
    (c.ask_rest.ensures.walked s front (walk_on c.args.self.now.profile (sources (missing_of s.holding found c.args.wants.now.ended))
    (walk_on c.args.self.now.profile (sources (missing_of s.holding found c.args.wants.now.flushed)) w)) stands
    (of_some (λ (x : Plan). IsAt c.args.self.now.profile (is_heard s.knows.heard s.holding) c.ask_missing-2.new.asking c.ask_missing-2.new.out front
    (walk_on c.args.self.now.profile (sources (missing_of s.holding x c.args.wants.now.ended)) (walk_on c.args.self.now.profile (sources (missing_of s.holding found c.args.wants.now.flushed)) w)))
    (plan_of s.holding c.args.index) found is
    (c.ask_missing-2.ensures.walked s front (walk_on c.args.self.now.profile (sources (missing_of s.holding found c.args.wants.now.flushed)) w) stands
    (of_some (λ (x : Plan). IsAt c.args.self.now.profile (is_heard s.knows.heard s.holding) c.ask_missing.new.asking c.ask_missing.new.out front
    (walk_on c.args.self.now.profile (sources (missing_of s.holding x c.args.wants.now.flushed)) w)) (plan_of s.holding c.args.index) found is
    (c.ask_missing.ensures.walked s front w stands at))))))
