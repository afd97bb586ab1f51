use Rattle.std.proofs.Common.{◌≡◌, ◌∙◌, length, Ok, Some, ap, sym, subst}
use Rattle.std.specs.Prelude.{MatchOption}
use Rattle.norm_base.specs.declared.kinds.Kind.TheVariants as kind
use Rattle.norm_send_rules.specs.Commanding.{commanded}
use Rattle.norm_send_rules.specs.Enqueuing.{enqueued}
use Rattle.norm_send_rules.specs.declared.job.Job.TheVariants.{File}
use Rattle.norm_sender.specs.Filling.{HasBegun, file_of}
use Rattle.norm_sender.specs.Inside.{kept_of}
use Rattle.norm_sender.specs.SenderKept.{SenderKept, Stands}
use Rattle.norm_sender.proofs.CommandingLemmas.{as_sender}
use Rattle.norm_sender.proofs.FilingLemmas.{has_filling}
use Rattle.norm_sender.proofs.SenderLemmas.{begun_here, sound_standing, commands}
use Rattle.norm_sender.proofs.sender.Sender.end_file.Goals as goal

pub finish-requires : goal.finish-requires
finish-requires c = subst (λ (v : SenderKept). MatchOption v.window.filling ⊥ (λ f. length f.octets ≡ f.len)) (sym c.self.view_is) c.requires

pub returns-clause-profile : goal.returns-clause-profile
returns-clause-profile c = c.finish.ensures.profile ∙ ap (λ (k : SenderKept). k.p) c.self.view_is

pub returns-clause-stands : goal.returns-clause-stands
returns-clause-stands c s name octets len h =
    let k = kept_of c.self.inside.parts in
    let new = kept_of c.finish.new.self in
    let by = c.args.by in
    let here = subst (λ (v : SenderKept). HasBegun v s name len octets) (sym c.self.view_is) h in
    let after = as_sender new c.finish.result (enqueued k.p s by kind.File (Some name) octets) (c.finish.ensures.stands s by (file_of name len octets) here.fills) in
    subst (λ (v : SenderKept). Stands new (commanded v.p s by (File name octets)).0 × (Ok c.finish.result ≡ (commanded v.p s by (File name octets)).1)) c.self.view_is
    (commands k new by (File name octets) s c.finish.ensures.range c.finish.ensures.profile after.0 here.reached, after.1)

pub invariant_of-self : goal.invariant_of-self
invariant_of-self c =
    let k = kept_of c.self.inside.parts in
    let new = kept_of c.finish.new.self in
    let found = has_filling k.window.filling (subst (λ (v : SenderKept). MatchOption v.window.filling ⊥ (λ f. length f.octets ≡ f.len)) (sym c.self.view_is) c.requires) in
    let f = found.filling in
    let here = begun_here k c.self.invariant f found.is in
    let s = c.self.invariant.state in
    let name = c.self.invariant.name in
    let by = c.args.by in
    let after = as_sender new c.finish.result (enqueued k.p s by kind.File (Some name) f.octets) (c.finish.ensures.stands s by (file_of name f.len f.octets) here.fills) in
    sound_standing new (commanded k.p s by (File name f.octets)).0 (commands k new by (File name f.octets) s c.finish.ensures.range c.finish.ensures.profile after.0 here.reached)

pub returns-clause-ready : goal.returns-clause-ready
returns-clause-ready c =
    let k = kept_of c.self.inside.parts in
    let new = kept_of c.finish.new.self in
    let found = has_filling k.window.filling (subst (λ (v : SenderKept). MatchOption v.window.filling ⊥ (λ f. length f.octets ≡ f.len)) (sym c.self.view_is) c.requires) in
    let f = found.filling in
    let here = begun_here k c.self.invariant f found.is in
    let s = c.self.invariant.state in
    let name = c.self.invariant.name in
    let by = c.args.by in
    let after = as_sender new c.finish.result (enqueued k.p s by kind.File (Some name) f.octets) (c.finish.ensures.stands s by (file_of name f.len f.octets) here.fills) in
    (commands k new by (File name f.octets) s c.finish.ensures.range c.finish.ensures.profile after.0 here.reached).agrees.filling
