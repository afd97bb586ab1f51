use Rattle.std.proofs.Common.{sym, subst}
use Rattle.norm_receive_rules.specs.HeardNeeds.{is_heard}
use Rattle.norm_receive_rules.specs.Needs.{Object}
use Rattle.norm_receiver.specs.Walking.{IsAt, walk_where}
use Rattle.norm_receiver.proofs.AskLemmas.{object_heard}
use Rattle.norm_receiver.proofs.parts.Parts.ask_unknown.Goals as goal

pub returns-clause-walked : goal.returns-clause-walked
returns-clause-walked c = λ s front w stands none at.
    subst (λ b. IsAt c.args.self.now.profile (is_heard s.knows.heard s.holding) c.add.new.self c.add.new.out front (walk_where c.args.self.now.profile b w (Object c.args.index)))
    (sym c.if-not-covered.false)
    (c.add.ensures.walked (is_heard s.knows.heard s.holding) front w
    (object_heard c.args.self.now.heard s.knows.heard s.holding c.args.index c.has_object-heard.result c.has_object-heard.ensures stands.heard none) at)
