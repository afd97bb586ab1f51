use Rattle.std.proofs.Common.{◌∙◌, ap, sym, subst}
use Rattle.norm_send_rules.specs.Hearing.{heard}
use Rattle.norm_sender.specs.Inside.{kept_of}
use Rattle.norm_sender.specs.SenderKept.{SenderKept, Stands}
use Rattle.norm_sender.proofs.SenderLemmas.{stands_here, sound_standing, hears}
use Rattle.norm_sender.proofs.sender.Sender.deliver.Goals as goal

pub returns-clause-profile : goal.returns-clause-profile
returns-clause-profile c = c.deliver.ensures.profile ∙ ap (λ (k : SenderKept). k.p) c.self.view_is

pub returns-clause-stands : goal.returns-clause-stands
returns-clause-stands c s h =
    let k = kept_of c.self.inside.parts in
    let new = kept_of c.deliver.new.self in
    let here = subst (λ (v : SenderKept). Stands v s) (sym c.self.view_is) h in
    subst (λ (v : SenderKept). Stands new (heard v.p s c.args.bytes.now c.args.now)) c.self.view_is
    (hears k new c.args.bytes.now c.args.now s c.deliver.ensures.range c.deliver.ensures.profile (c.deliver.ensures.stands s here.agrees) here.reached)

pub invariant_of-self : goal.invariant_of-self
invariant_of-self c =
    let k = kept_of c.self.inside.parts in
    let new = kept_of c.deliver.new.self in
    let s = c.self.invariant.state in
    let here = stands_here k c.self.invariant (ap (λ (v : SenderKept). v.window.filling) c.self.view_is ∙ c.requires) in
    sound_standing new (heard k.p s c.args.bytes.now c.args.now)
    (hears k new c.args.bytes.now c.args.now s c.deliver.ensures.range c.deliver.ensures.profile (c.deliver.ensures.stands s here.agrees) here.reached)

pub returns-clause-ready : goal.returns-clause-ready
returns-clause-ready c =
    let k = kept_of c.self.inside.parts in
    let new = kept_of c.deliver.new.self in
    let s = c.self.invariant.state in
    let here = stands_here k c.self.invariant (ap (λ (v : SenderKept). v.window.filling) c.self.view_is ∙ c.requires) in
    (hears k new c.args.bytes.now c.args.now s c.deliver.ensures.range c.deliver.ensures.profile (c.deliver.ensures.stands s here.agrees) here.reached).agrees.filling
