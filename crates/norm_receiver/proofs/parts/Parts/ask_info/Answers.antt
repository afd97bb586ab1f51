use Rattle.std.proofs.Common.{ap, sym, subst, ◌∙◌}
use Rattle.norm_receive_rules.specs.Heard.{Heard}
use Rattle.norm_receive_rules.specs.HeardNeeds.{is_heard, info_heard}
use Rattle.norm_receive_rules.specs.Needs.{ObjectInfo}
use Rattle.norm_receiver.specs.Walking.{IsAt, walk_where}
use Rattle.norm_receiver.proofs.parts.Parts.ask_info.Goals as goal

pub returns-clause-walked : goal.returns-clause-walked
returns-clause-walked c = λ s front w stands at.
    subst (λ b. IsAt c.args.self.now.profile (is_heard s.knows.heard s.holding) c.add.new.self c.add.new.out front (walk_where c.args.self.now.profile b w (ObjectInfo c.args.index)))
    (sym c.if-not-lacks.false)
    (c.add.ensures.walked (is_heard s.knows.heard s.holding) front w (c.has_info-heard.ensures ∙ ap (λ (h : Heard). info_heard h c.args.index) stands.heard) at)
