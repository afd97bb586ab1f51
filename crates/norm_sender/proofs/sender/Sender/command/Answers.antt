use Rattle.std.proofs.Common.{◌≡◌, ◌≢◌, ◌∙◌, ◌⊎◌, inl, inr, Err, None, ap, sym, subst}
use Rattle.norm_send_rules.specs.Commanding.{commanded}
use Rattle.norm_send_rules.specs.declared.fault.SendFault.TheVariants.{Memory}
use Rattle.norm_sender.specs.Commands.{answer_of}
use Rattle.norm_sender.specs.Inside.{kept_of}
use Rattle.norm_sender.specs.SenderKept.{SenderKept, Stands}
use Rattle.norm_sender.specs.SenderSound.{SenderSound}
use Rattle.norm_sender.proofs.CommandingLemmas.{lacking_or_not}
use Rattle.norm_sender.proofs.SenderLemmas.{stands_here, sound_standing, standing, commands}
use Rattle.norm_sender.proofs.sender.Sender.command.Goals as goal

pub command-requires : goal.command-requires
command-requires c =
    let k = kept_of c.self.inside.parts in
    standing k c.self.invariant.state (stands_here k c.self.invariant (ap (λ (v : SenderKept). v.window.filling) c.self.view_is ∙ c.requires))

pub returns-clause-profile : goal.returns-clause-profile
returns-clause-profile c = c.command.ensures.profile ∙ ap (λ (k : SenderKept). k.p) c.self.view_is

pub returns-clause-stands : goal.returns-clause-stands
returns-clause-stands c s h some =
    let k = kept_of c.self.inside.parts in
    let new = kept_of c.command.new.self in
    let by = c.args.by in
    let job = c.args.job in
    let here = subst (λ (v : SenderKept). Stands v s) (sym c.self.view_is) h in
    let after = c.command.ensures.obeys.stands s by here.agrees some in
    subst (λ (v : SenderKept). Stands new (commanded v.p s by job).0 × (answer_of c.command.result ≡ (commanded v.p s by job).1)) c.self.view_is
    (commands k new by job s c.command.ensures.range c.command.ensures.profile after.0 here.reached, after.1)

pub returns-clause-back : goal.returns-clause-back
returns-clause-back c = c.command.ensures.obeys.back

pub returns-clause-memory : goal.returns-clause-memory
returns-clause-memory c e = c.command.ensures.obeys.memory e ∙ c.self.view_is

pub invariant_of-self : goal.invariant_of-self
invariant_of-self c = go (lacking_or_not (answer_of c.command.result))
  where
    k : SenderKept
    k = kept_of c.self.inside.parts

    new : SenderKept
    new = kept_of c.command.new.self

    go : (answer_of c.command.result ≡ Err Memory) ⊎ (answer_of c.command.result ≢ Err Memory) → SenderSound new
    go (inl lacking) = subst SenderSound (sym (c.command.ensures.obeys.memory lacking)) c.self.invariant
    go (inr some) =
        let s = c.self.invariant.state in
        let by = c.args.by in
        let here = stands_here k c.self.invariant (ap (λ (v : SenderKept). v.window.filling) c.self.view_is ∙ c.requires) in
        sound_standing new (commanded k.p s by c.args.job).0
        (commands k new by c.args.job s c.command.ensures.range c.command.ensures.profile (c.command.ensures.obeys.stands s by here.agrees some).0 here.reached)

pub returns-clause-ready : goal.returns-clause-ready
returns-clause-ready c = go (lacking_or_not (answer_of c.command.result))
  where
    k : SenderKept
    k = kept_of c.self.inside.parts

    new : SenderKept
    new = kept_of c.command.new.self

    go : (answer_of c.command.result ≡ Err Memory) ⊎ (answer_of c.command.result ≢ Err Memory) → new.window.filling ≡ None
    go (inl lacking) = ap (λ (v : SenderKept). v.window.filling) (c.command.ensures.obeys.memory lacking ∙ c.self.view_is) ∙ c.requires
    go (inr some) =
        let s = c.self.invariant.state in
        let by = c.args.by in
        let here = stands_here k c.self.invariant (ap (λ (v : SenderKept). v.window.filling) c.self.view_is ∙ c.requires) in
        (commands k new by c.args.job s c.command.ensures.range c.command.ensures.profile (c.command.ensures.obeys.stands s by here.agrees some).0 here.reached).agrees.filling
