use Rattle.std.proofs.Common.{ℕ, ◌∙◌, ap, sym, subst, Option}
use Rattle.norm_receive_rules.specs.HeardNeeds.{is_heard}
use Rattle.norm_receive_rules.specs.Lazy.{lazily}
use Rattle.norm_receive_rules.specs.Plans.{plan_of}
use Rattle.norm_receiver.specs.Streams.{rest_of}
use Rattle.norm_receiver.specs.Walking.{Walked, IsAt, walk_on}
use Rattle.norm_receiver.proofs.AskLemmas.{with_some, width_is}
use Rattle.norm_receiver.proofs.StreamLemmas.{rest_heard, walk_no_rest, walk_rest}
use Rattle.norm_receiver.proofs.parts.Parts.ask_rest.Goals as goal

pub returns-in-None-clause-walked : goal.returns-in-None-clause-walked
returns-in-None-clause-walked c = λ s front w stands at.
    with_some (plan_of s.holding c.args.index) (λ found is.
    subst (λ (v : Walked). IsAt c.args.self.now.profile (is_heard s.knows.heard s.holding) c.args.asking.now c.args.out.now front v)
    (sym (ap (λ (rest : Option ℕ). walk_on c.args.self.now.profile (lazily (rest_of c.args.index rest)) w) c.in-None.is ∙ walk_no_rest c.args.self.now.profile c.args.index w)) at)

pub returns-in-Some-clause-walked : goal.returns-in-Some-clause-walked
returns-in-Some-clause-walked c = λ s front w stands at.
    with_some (plan_of s.holding c.args.index) (λ found is.
    subst (λ (v : Walked). IsAt c.args.self.now.profile (is_heard s.knows.heard s.holding) c.add.new.self c.add.new.out front v)
    (sym (ap (λ (rest : Option ℕ). walk_on c.args.self.now.profile (lazily (rest_of c.args.index rest)) w) c.in-Some.is ∙ walk_rest c.args.self.now.profile c.args.index c.in-Some.block w))
    (c.add.ensures.walked (is_heard s.knows.heard s.holding) front w
    (rest_heard c.args.self.now.heard s.knows.heard s.holding c.args.index c.in-Some.block c.source_len.result c.has_rest-heard.result c.has_rest-heard.ensures stands.heard
    (width_is s.holding c.args.index c.in-Some.block c.source_len.result c.args.plan.now found is (c.requires.stream.known.state s.holding stands.hold) c.source_len.ensures.exact)) at))
