use Rattle.std.proofs.Common.{ap, sym, subst, ◌∙◌, not}
use Rattle.norm_receive_rules.specs.Heard.{Heard}
use Rattle.norm_receive_rules.specs.HeardNeeds.{is_asked, is_heard}
use Rattle.norm_receive_rules.specs.Needs.{Source}
use Rattle.norm_receiver.specs.Walking.{IsAt, walk_where}
use Rattle.norm_receiver.proofs.parts.Parts.ask_symbol.Goals as goal

pub returns-then-holds-clause-walked : goal.returns-then-holds-clause-walked
returns-then-holds-clause-walked c = λ s front w stands here.
    subst (λ b. IsAt c.args.self.now.profile (is_heard s.knows.heard s.holding) c.args.asking.now c.args.out.now front (walk_where c.args.self.now.profile (not b) w (Source c.args.at)))
    (sym c.if-holds.true ∙ c.holds.ensures s.holding stands.hold) here

pub returns-clause-walked : goal.returns-clause-walked
returns-clause-walked c = λ s front w stands here.
    subst (λ b. IsAt c.args.self.now.profile (is_heard s.knows.heard s.holding) c.add.new.self c.add.new.out front (walk_where c.args.self.now.profile (not b) w (Source c.args.at)))
    (sym c.if-holds.false ∙ c.holds.ensures s.holding stands.hold)
    (c.add.ensures.walked (is_heard s.knows.heard s.holding) front w (c.has_symbol-heard.ensures ∙ ap (λ (h : Heard). is_asked h.symbols c.args.at) stands.heard) here)
