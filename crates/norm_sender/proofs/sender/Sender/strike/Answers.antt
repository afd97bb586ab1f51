use Rattle.std.proofs.Common.{◌∙◌, ap, sym, subst}
use Rattle.norm_send_rules.specs.Striking.{strikes}
use Rattle.norm_send_rules.specs.declared.job.Job.TheVariants.{Strike}
use Rattle.norm_sender.specs.Inside.{kept_of}
use Rattle.norm_sender.specs.SenderKept.{SenderKept, Stands}
use Rattle.norm_sender.proofs.SenderLemmas.{stands_here, sound_standing, commands, anyone}
use Rattle.norm_sender.proofs.sender.Sender.strike.Goals as goal

pub returns-clause-profile : goal.returns-clause-profile
returns-clause-profile c = c.strike.ensures.profile ∙ ap (λ (k : SenderKept). k.p) c.self.view_is

pub returns-clause-stands : goal.returns-clause-stands
returns-clause-stands c s h =
    let k = kept_of c.self.inside.parts in
    let new = kept_of c.strike.new.self in
    let here = subst (λ (v : SenderKept). Stands v s) (sym c.self.view_is) h in
    let after = c.strike.ensures.stands s here.agrees in
    (commands k new anyone (Strike c.args.node) s c.strike.ensures.range c.strike.ensures.profile after.0 here.reached, after.1)

pub invariant_of-self : goal.invariant_of-self
invariant_of-self c =
    let k = kept_of c.self.inside.parts in
    let new = kept_of c.strike.new.self in
    let s = c.self.invariant.state in
    let here = stands_here k c.self.invariant (ap (λ (v : SenderKept). v.window.filling) c.self.view_is ∙ c.requires) in
    sound_standing new (strikes s c.args.node).0
    (commands k new anyone (Strike c.args.node) s c.strike.ensures.range c.strike.ensures.profile (c.strike.ensures.stands s here.agrees).0 here.reached)

pub returns-clause-ready : goal.returns-clause-ready
returns-clause-ready c =
    let k = kept_of c.self.inside.parts in
    let new = kept_of c.strike.new.self in
    let s = c.self.invariant.state in
    let here = stands_here k c.self.invariant (ap (λ (v : SenderKept). v.window.filling) c.self.view_is ∙ c.requires) in
    (commands k new anyone (Strike c.args.node) s c.strike.ensures.range c.strike.ensures.profile (c.strike.ensures.stands s here.agrees).0 here.reached).agrees.filling
