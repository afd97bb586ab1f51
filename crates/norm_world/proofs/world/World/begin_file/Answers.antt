use Rattle.std.proofs.Common.{ap, subst, sym, ◌∙◌}
use Rattle.norm_sender.specs.SenderKept.{SenderKept}
use Rattle.norm_world.specs.WorldKept.{WorldKept, IsReady}
use Rattle.norm_world.proofs.SenderEvents.{if_begun, if_refused}
use Rattle.norm_world.proofs.WorldLemmas.{kept}
use Rattle.norm_world.proofs.world.World.begin_file.Goals as goal

pub begin_file-requires : goal.begin_file-requires
begin_file-requires c = subst (λ (v : WorldKept). IsReady v) (sym c.self.view_is) c.requires

pub returns-clause-begun : goal.returns-clause-begun
returns-clause-begun c =
    let i = c.self.inside in
    if_begun c.begin_file.result i.profile i.sender c.begin_file.new.self i.receivers.items c.args.self.now c.args.name c.args.len
    c.begin_file.ensures.profile c.self.view_is c.begin_file.ensures.begun

pub returns-clause-refused : goal.returns-clause-refused
returns-clause-refused c =
    let i = c.self.inside in
    if_refused c.begin_file.result i.profile i.sender c.begin_file.new.self i.receivers.items c.args.self.now c.args.name c.args.len
    c.self.view_is c.begin_file.ensures.same c.begin_file.ensures.refused

pub returns-clause-same : goal.returns-clause-same
returns-clause-same c e =
    let i = c.self.inside in
    ap (λ (s : SenderKept). kept i.profile s i.receivers.items) (c.begin_file.ensures.same e) ∙ c.self.view_is
