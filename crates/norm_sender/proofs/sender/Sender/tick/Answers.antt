use Rattle.std.proofs.Common.{◌∙◌, ap, sym, subst}
use Rattle.norm_send_rules.specs.Ticking.{ticked}
use Rattle.norm_sender.specs.Inside.{kept_of}
use Rattle.norm_sender.specs.SenderKept.{SenderKept, Stands}
use Rattle.norm_sender.specs.SenderMoves.{IsTick}
use Rattle.norm_sender.proofs.SenderLemmas.{stands_here, sound_standing, standing, ticks}
use Rattle.norm_sender.proofs.sender.Sender.tick.Goals as goal

pub tick-requires : goal.tick-requires
tick-requires c =
    let k = kept_of c.self.inside.parts in
    standing k c.self.invariant.state (stands_here k c.self.invariant (ap (λ (v : SenderKept). v.window.filling) c.self.view_is ∙ c.requires))

pub returns-clause-profile : goal.returns-clause-profile
returns-clause-profile c = c.tick.ensures.profile ∙ ap (λ (k : SenderKept). k.p) c.self.view_is

pub returns-clause-stands : goal.returns-clause-stands
returns-clause-stands c s h =
    let k = kept_of c.self.inside.parts in
    let new = kept_of c.tick.new.self in
    let here = subst (λ (v : SenderKept). Stands v s) (sym c.self.view_is) h in
    subst (λ (v : SenderKept). IsTick new c.tick.new.out c.tick.result (ticked v.p s c.args.now)) c.self.view_is
    (ticks k new c.tick.new.out c.tick.result c.args.now s c.tick.ensures.range c.tick.ensures.profile
    (c.tick.ensures.stands s here.agrees here.reached.wants) here.reached)

pub invariant_of-self : goal.invariant_of-self
invariant_of-self c =
    let k = kept_of c.self.inside.parts in
    let new = kept_of c.tick.new.self in
    let s = c.self.invariant.state in
    let here = stands_here k c.self.invariant (ap (λ (v : SenderKept). v.window.filling) c.self.view_is ∙ c.requires) in
    sound_standing new (ticked k.p s c.args.now).0
    (ticks k new c.tick.new.out c.tick.result c.args.now s c.tick.ensures.range c.tick.ensures.profile
    (c.tick.ensures.stands s here.agrees here.reached.wants) here.reached).stands

pub returns-clause-ready : goal.returns-clause-ready
returns-clause-ready c =
    let k = kept_of c.self.inside.parts in
    let new = kept_of c.tick.new.self in
    let s = c.self.invariant.state in
    let here = stands_here k c.self.invariant (ap (λ (v : SenderKept). v.window.filling) c.self.view_is ∙ c.requires) in
    (ticks k new c.tick.new.out c.tick.result c.args.now s c.tick.ensures.range c.tick.ensures.profile
    (c.tick.ensures.stands s here.agrees here.reached.wants) here.reached).stands.agrees.filling
