use Rattle.std.proofs.Common.{ap, subst, ◌∙◌}
use Rattle.norm_receive_rules.specs.HeardNeeds.{is_heard}
use Rattle.norm_receive_rules.specs.Lazy.{Lazy}
use Rattle.norm_receive_rules.specs.Needs.{Need, blocks_due}
use Rattle.norm_receive_rules.specs.Plans.{plan_of}
use Rattle.norm_receiver.specs.Walking.{IsAt, walk_on}
use Rattle.norm_receiver.specs.declared.numbers.Numbers.{Numbers}
use Rattle.norm_receiver.proofs.AskLemmas.{for_some}
use Rattle.norm_receiver.proofs.NeedLemmas.{due_needs}
use Rattle.norm_receiver.proofs.parts.Parts.ask_counts.Goals as goal

pub returns-clause-walked : goal.returns-clause-walked
returns-clause-walked c = λ s front w stands at.
    for_some (plan_of s.holding c.args.index) (c.ask_blocks.ensures.walked s front w stands at) (λ found is.
    subst (λ (needs : Lazy Need). IsAt c.args.self.now.profile (is_heard s.knows.heard s.holding) c.ask_blocks.new.asking c.ask_blocks.new.out front (walk_on c.args.self.now.profile needs w))
    (due_needs s.knows.farthest s.knows.flush s.holding c.args.index c.blocks_due-due.result c.blocks-2.result c.args.plan.now found is (c.requires.plan.state s.holding stands.hold) c.blocks-2.ensures.exact
    (c.blocks_due-due.ensures.exact ∙ ap (λ (n : Numbers). blocks_due n.farthest n.flush c.args.index c.blocks-2.result) stands.numbers)))
