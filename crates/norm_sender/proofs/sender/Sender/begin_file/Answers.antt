use Rattle.std.proofs.Common.{◌≡◌, ◌∙◌, [], Err, ap, sym, subst}
use Rattle.norm_send_rules.specs.Commanding.{commanded}
use Rattle.norm_send_rules.specs.declared.job.Job.TheVariants.{File}
use Rattle.norm_sender.specs.Filling.{HasBegun}
use Rattle.norm_sender.specs.Inside.{kept_of}
use Rattle.norm_sender.specs.SenderKept.{SenderKept, Stands}
use Rattle.norm_sender.specs.SenderSound.{SenderSound}
use Rattle.norm_sender.proofs.FilingLemmas.{if_ok, if_err, either_way}
use Rattle.norm_sender.proofs.SenderLemmas.{stands_here, sound_begun, standing, under}
use Rattle.norm_sender.proofs.sender.Sender.begin_file.Goals as goal

pub begin_file-requires : goal.begin_file-requires
begin_file-requires c =
    let k = kept_of c.self.inside.parts in
    standing k c.self.invariant.state (stands_here k c.self.invariant (ap (λ (v : SenderKept). v.window.filling) c.self.view_is ∙ c.requires))

pub returns-clause-profile : goal.returns-clause-profile
returns-clause-profile c = c.begin_file.ensures.profile ∙ ap (λ (k : SenderKept). k.p) c.self.view_is

pub returns-clause-begun : goal.returns-clause-begun
returns-clause-begun c =
    let k = kept_of c.self.inside.parts in
    let new = kept_of c.begin_file.new.self in
    if_ok c.begin_file.result (λ begun s h.
    let here = subst (λ (v : SenderKept). Stands v s) (sym c.self.view_is) h in
    record { fills = begun s here.agrees; reached = under k.p new.p s c.begin_file.ensures.profile here.reached }) c.begin_file.ensures.begun

pub returns-clause-refused : goal.returns-clause-refused
returns-clause-refused c =
    if_err c.begin_file.result (λ refusal why s by octets h long some.
    let here = subst (λ (v : SenderKept). Stands v s) (sym c.self.view_is) h in
    subst (λ (v : SenderKept). commanded v.p s by (File c.args.name octets) ≡ (s, Err refusal.1)) c.self.view_is (why s by octets here.agrees long some))
    c.begin_file.ensures.refused

pub returns-clause-same : goal.returns-clause-same
returns-clause-same c e = c.begin_file.ensures.same e ∙ c.self.view_is

pub invariant_of-self : goal.invariant_of-self
invariant_of-self c =
    let k = kept_of c.self.inside.parts in
    let new = kept_of c.begin_file.new.self in
    let s = c.self.invariant.state in
    let here = stands_here k c.self.invariant (ap (λ (v : SenderKept). v.window.filling) c.self.view_is ∙ c.requires) in
    either_way c.begin_file.result
    (if_ok c.begin_file.result (λ begun.
    let h : HasBegun new s c.args.name c.args.len [] =
    record { fills = begun s here.agrees; reached = under k.p new.p s c.begin_file.ensures.profile here.reached } in
    sound_begun new s c.args.name c.args.len [] h) c.begin_file.ensures.begun)
    (λ e. subst SenderSound (sym (c.begin_file.ensures.same e)) c.self.invariant)
