use Rattle.std.proofs.Common.{sym, subst}
use Rattle.norm_receive_rules.specs.HeardNeeds.{is_heard}
use Rattle.norm_receive_rules.specs.Plans.{plan_of}
use Rattle.norm_receiver.specs.Walking.{Walked, IsAt}
use Rattle.norm_receiver.proofs.AskLemmas.{with_some, block_short, symbols_heard, width_is}
use Rattle.norm_receiver.proofs.parts.Parts.ask_block.Goals as goal

pub returns-in-Short-clause-walked : goal.returns-in-Short-clause-walked
returns-in-Short-clause-walked c = λ s front w stands at.
    with_some (plan_of s.holding c.args.index) (λ found is.
    subst (λ (v : Walked). IsAt c.args.self.now.profile (is_heard s.knows.heard s.holding) c.add.new.self c.add.new.out front v)
    (sym (block_short c.args.self.now.profile s.holding c.args.index c.args.block c.in-Short.wanted found w is (c.in-Short.ensures s.holding stands.hold)))
    (c.add.ensures.walked (is_heard s.knows.heard s.holding) front w
    (symbols_heard c.args.self.now.heard s.knows.heard s.holding c.args.index c.args.block c.source_len-width.result c.in-Short.wanted c.has_symbols-heard.result c.has_symbols-heard.ensures stands.heard
    (width_is s.holding c.args.index c.args.block c.source_len-width.result c.args.plan.now found is (c.requires.plan.state s.holding stands.hold) c.source_len-width.ensures.exact)) at))
