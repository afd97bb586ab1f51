use Rattle.std.proofs.Common.{◌≡◌, ◌∙◌, ap, sym, subst}
use Rattle.std.specs.Prelude.{IfNone}
use Rattle.norm_send_rules.specs.Telling.{told}
use Rattle.norm_sender.specs.Inside.{kept_of}
use Rattle.norm_sender.specs.SenderKept.{SenderKept, Stands}
use Rattle.norm_sender.proofs.SenderLemmas.{stands_here, sound_standing, tells}
use Rattle.norm_sender.proofs.sender.Sender.news.Goals as goal

pub returns-clause-profile : goal.returns-clause-profile
returns-clause-profile c = c.news.ensures.profile ∙ ap (λ (k : SenderKept). k.p) c.self.view_is

pub returns-clause-stands : goal.returns-clause-stands
returns-clause-stands c s h =
    let k = kept_of c.self.inside.parts in
    let new = kept_of c.news.new.self in
    let here = subst (λ (v : SenderKept). Stands v s) (sym c.self.view_is) h in
    let after = c.news.ensures.stands s here.agrees in
    (tells k new s c.news.ensures.range c.news.ensures.profile after.0 here.reached, after.1)

pub returns-clause-same : goal.returns-clause-same
returns-clause-same c = subst (λ (v : SenderKept). IfNone c.news.result (kept_of c.news.new.self ≡ v)) c.self.view_is c.news.ensures.same

pub invariant_of-self : goal.invariant_of-self
invariant_of-self c =
    let k = kept_of c.self.inside.parts in
    let new = kept_of c.news.new.self in
    let s = c.self.invariant.state in
    let here = stands_here k c.self.invariant (ap (λ (v : SenderKept). v.window.filling) c.self.view_is ∙ c.requires) in
    sound_standing new (told s).0 (tells k new s c.news.ensures.range c.news.ensures.profile (c.news.ensures.stands s here.agrees).0 here.reached)

pub returns-clause-ready : goal.returns-clause-ready
returns-clause-ready c =
    let k = kept_of c.self.inside.parts in
    let new = kept_of c.news.new.self in
    let s = c.self.invariant.state in
    let here = stands_here k c.self.invariant (ap (λ (v : SenderKept). v.window.filling) c.self.view_is ∙ c.requires) in
    (tells k new s c.news.ensures.range c.news.ensures.profile (c.news.ensures.stands s here.agrees).0 here.reached).agrees.filling
