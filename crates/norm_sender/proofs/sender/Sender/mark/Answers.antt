use Rattle.std.proofs.Common.{◌≡◌, ◌≢◌, ◌∙◌, ◌⊎◌, inl, inr, Err, None, ap, sym, subst}
use Rattle.norm_send_rules.specs.Marking.{marked}
use Rattle.norm_send_rules.specs.declared.job.Job.TheVariants.{Mark}
use Rattle.norm_send_rules.specs.declared.fault.MarkFault.TheVariants.{Memory}
use Rattle.norm_sender.specs.Inside.{kept_of}
use Rattle.norm_sender.specs.SenderKept.{SenderKept, Stands}
use Rattle.norm_sender.specs.SenderSound.{SenderSound}
use Rattle.norm_sender.proofs.SenderLemmas.{stands_here, sound_standing, standing, commands, anyone}
use Rattle.norm_sender.proofs.MarkingLemmas.{memory_or_not}
use Rattle.norm_sender.proofs.sender.Sender.mark.Goals as goal

pub mark-requires : goal.mark-requires
mark-requires c =
    let k = kept_of c.self.inside.parts in
    standing k c.self.invariant.state (stands_here k c.self.invariant (ap (λ (v : SenderKept). v.window.filling) c.self.view_is ∙ c.requires))

pub returns-clause-profile : goal.returns-clause-profile
returns-clause-profile c = c.mark.ensures.profile ∙ ap (λ (k : SenderKept). k.p) c.self.view_is

pub returns-clause-stands : goal.returns-clause-stands
returns-clause-stands c s by h some =
    let k = kept_of c.self.inside.parts in
    let new = kept_of c.mark.new.self in
    let here = subst (λ (v : SenderKept). Stands v s) (sym c.self.view_is) h in
    let after = c.mark.ensures.stands s by here.agrees some in
    subst (λ (v : SenderKept). Stands new (marked v.p s by c.args.quorum).0 × (c.mark.result ≡ (marked v.p s by c.args.quorum).1)) c.self.view_is
    (commands k new by (Mark c.args.quorum) s c.mark.ensures.range c.mark.ensures.profile after.0 here.reached, after.1)

pub returns-clause-memory : goal.returns-clause-memory
returns-clause-memory c e = c.mark.ensures.memory e ∙ c.self.view_is

pub invariant_of-self : goal.invariant_of-self
invariant_of-self c = by (memory_or_not c.mark.result)
  where
    k : SenderKept
    k = kept_of c.self.inside.parts

    new : SenderKept
    new = kept_of c.mark.new.self

    by : (c.mark.result ≡ Err Memory) ⊎ (c.mark.result ≢ Err Memory) → SenderSound new
    by (inl lacking) = subst SenderSound (sym (c.mark.ensures.memory lacking)) c.self.invariant
    by (inr some) =
        let s = c.self.invariant.state in
        let here = stands_here k c.self.invariant (ap (λ (v : SenderKept). v.window.filling) c.self.view_is ∙ c.requires) in
        sound_standing new (marked k.p s anyone c.args.quorum).0
        (commands k new anyone (Mark c.args.quorum) s c.mark.ensures.range c.mark.ensures.profile (c.mark.ensures.stands s anyone here.agrees some).0 here.reached)

pub returns-clause-ready : goal.returns-clause-ready
returns-clause-ready c = by (memory_or_not c.mark.result)
  where
    k : SenderKept
    k = kept_of c.self.inside.parts

    new : SenderKept
    new = kept_of c.mark.new.self

    by : (c.mark.result ≡ Err Memory) ⊎ (c.mark.result ≢ Err Memory) → new.window.filling ≡ None
    by (inl lacking) = ap (λ (v : SenderKept). v.window.filling) (c.mark.ensures.memory lacking ∙ c.self.view_is) ∙ c.requires
    by (inr some) =
        let s = c.self.invariant.state in
        let here = stands_here k c.self.invariant (ap (λ (v : SenderKept). v.window.filling) c.self.view_is ∙ c.requires) in
        (commands k new anyone (Mark c.args.quorum) s c.mark.ensures.range c.mark.ensures.profile (c.mark.ensures.stands s anyone here.agrees some).0 here.reached).agrees.filling
