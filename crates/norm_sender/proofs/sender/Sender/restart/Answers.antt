use Rattle.std.proofs.Common.{◌∙◌, ap, sym, subst}
use Rattle.norm_send_rules.specs.Restarting.{restarted}
use Rattle.norm_send_rules.specs.declared.job.Job.TheVariants.{Restart}
use Rattle.norm_sender.specs.Inside.{kept_of}
use Rattle.norm_sender.specs.SenderKept.{SenderKept, Stands}
use Rattle.norm_sender.proofs.SenderLemmas.{stands_here, sound_standing, commands, anyone}
use Rattle.norm_sender.proofs.sender.Sender.restart.Goals as goal

pub returns-clause-profile : goal.returns-clause-profile
returns-clause-profile c = c.restart.ensures.profile ∙ ap (λ (k : SenderKept). k.p) c.self.view_is

pub returns-clause-stands : goal.returns-clause-stands
returns-clause-stands c s h =
    let k = kept_of c.self.inside.parts in
    let new = kept_of c.restart.new.self in
    let here = subst (λ (v : SenderKept). Stands v s) (sym c.self.view_is) h in
    let after = c.restart.ensures.stands s here.agrees in
    (commands k new anyone (Restart c.args.instance) s c.restart.ensures.range c.restart.ensures.profile after.0 here.reached, after.1)

pub invariant_of-self : goal.invariant_of-self
invariant_of-self c =
    let k = kept_of c.self.inside.parts in
    let new = kept_of c.restart.new.self in
    let s = c.self.invariant.state in
    let here = stands_here k c.self.invariant (ap (λ (v : SenderKept). v.window.filling) c.self.view_is ∙ c.requires) in
    sound_standing new (restarted s c.args.instance).0
    (commands k new anyone (Restart c.args.instance) s c.restart.ensures.range c.restart.ensures.profile (c.restart.ensures.stands s here.agrees).0 here.reached)

pub returns-clause-ready : goal.returns-clause-ready
returns-clause-ready c =
    let k = kept_of c.self.inside.parts in
    let new = kept_of c.restart.new.self in
    let s = c.self.invariant.state in
    let here = stands_here k c.self.invariant (ap (λ (v : SenderKept). v.window.filling) c.self.view_is ∙ c.requires) in
    (commands k new anyone (Restart c.args.instance) s c.restart.ensures.range c.restart.ensures.profile (c.restart.ensures.stands s here.agrees).0 here.reached).agrees.filling
