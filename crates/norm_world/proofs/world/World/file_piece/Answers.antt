use Rattle.std.proofs.Common.{length, ap, subst, sym, ◌∙◌}
use Rattle.norm_sender.specs.Filling.{file_of}
use Rattle.norm_world.specs.WorldKept.{WorldKept, IsMissing}
use Rattle.norm_world.proofs.SenderEvents.{takes_piece}
use Rattle.norm_world.proofs.world.World.file_piece.Goals as goal

pub file_piece-requires : goal.file_piece-requires
file_piece-requires c = subst (λ (v : WorldKept). IsMissing v (length c.args.piece.now)) (sym c.self.view_is) c.requires

pub returns-clause-filling : goal.returns-clause-filling
returns-clause-filling c name octets len is =
    c.file_piece.ensures.filling (file_of name len octets) (ap (λ (v : WorldKept). v.sender.window.filling) c.self.view_is ∙ is)

pub returns-clause-begun : goal.returns-clause-begun
returns-clause-begun c =
    let i = c.self.inside in
    takes_piece i.profile i.sender c.file_piece.new.self i.receivers.items c.args.self.now c.args.piece.now c.file_piece.ensures.profile c.self.view_is
    c.file_piece.ensures.begun
