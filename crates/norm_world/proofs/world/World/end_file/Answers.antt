use Rattle.std.proofs.Common.{subst, sym}
use Rattle.norm_world.specs.WorldKept.{WorldKept, IsFilled}
use Rattle.norm_world.proofs.SenderEvents.{ends_file}
use Rattle.norm_world.proofs.world.World.end_file.Goals as goal

pub end_file-requires : goal.end_file-requires
end_file-requires c = subst (λ (v : WorldKept). IsFilled v) (sym c.self.view_is) c.requires

pub returns-clause-event : goal.returns-clause-event
returns-clause-event c =
    let i = c.self.inside in
    ends_file i.profile i.sender c.end_file.new.self i.receivers.items c.args.self.now c.args.by c.args.now c.end_file.result
    c.end_file.ensures.profile c.self.view_is c.end_file.ensures.stands
