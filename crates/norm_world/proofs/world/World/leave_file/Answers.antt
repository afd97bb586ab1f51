use Rattle.std.proofs.Common.{subst, sym}
use Rattle.norm_world.specs.WorldKept.{WorldKept, IsBegun}
use Rattle.norm_world.proofs.SenderEvents.{leaves_file}
use Rattle.norm_world.proofs.world.World.leave_file.Goals as goal

pub leave_file-requires : goal.leave_file-requires
leave_file-requires c = subst (λ (v : WorldKept). IsBegun v) (sym c.self.view_is) c.requires

pub returns-clause-left : goal.returns-clause-left
returns-clause-left c =
    let i = c.self.inside in
    leaves_file i.profile i.sender c.leave_file.new.self i.receivers.items c.args.self.now c.leave_file.ensures.profile c.self.view_is
    c.leave_file.ensures.left
