use Rattle.std.proofs.Common.{◌∙◌, IsSome, ap, sym, subst}
use Rattle.tx_window.specs.Taking.{room_made}
use Rattle.norm_sender.specs.Filling.{HasBegun, file_of}
use Rattle.norm_sender.specs.Inside.{kept_of}
use Rattle.norm_sender.specs.SenderKept.{SenderKept, Stands}
use Rattle.norm_sender.proofs.FilingLemmas.{some_filling, is_admitted, room_stands}
use Rattle.norm_sender.proofs.SenderLemmas.{begun_here, sound_standing}
use Rattle.norm_sender.proofs.sender.Sender.leave_file.Goals as goal

pub leave-requires : goal.leave-requires
leave-requires c =
    let k = kept_of c.self.inside.parts in
    let found = some_filling k.window.filling (subst (λ (v : SenderKept). IsSome v.window.filling) (sym c.self.view_is) c.requires) in
    is_admitted k _ _ (begun_here k c.self.invariant found.filling found.is).fills

pub returns-clause-profile : goal.returns-clause-profile
returns-clause-profile c = c.leave.ensures.profile ∙ ap (λ (k : SenderKept). k.p) c.self.view_is

pub returns-clause-left : goal.returns-clause-left
returns-clause-left c s name octets len h =
    let k = kept_of c.self.inside.parts in
    let new = kept_of c.leave.new.self in
    let here = subst (λ (v : SenderKept). HasBegun v s name len octets) (sym c.self.view_is) h in
    subst (λ (v : SenderKept). Stands new (room_made v.p len s)) c.self.view_is
    (room_stands k new len s c.leave.ensures.profile here.reached (c.leave.ensures.left s (file_of name len octets) here.fills))

pub invariant_of-self : goal.invariant_of-self
invariant_of-self c =
    let k = kept_of c.self.inside.parts in
    let new = kept_of c.leave.new.self in
    let found = some_filling k.window.filling (subst (λ (v : SenderKept). IsSome v.window.filling) (sym c.self.view_is) c.requires) in
    let f = found.filling in
    let here = begun_here k c.self.invariant f found.is in
    let s = c.self.invariant.state in
    sound_standing new (room_made k.p f.len s)
    (room_stands k new f.len s c.leave.ensures.profile here.reached (c.leave.ensures.left s (file_of c.self.invariant.name f.len f.octets) here.fills))

pub returns-clause-ready : goal.returns-clause-ready
returns-clause-ready c =
    let k = kept_of c.self.inside.parts in
    let new = kept_of c.leave.new.self in
    let found = some_filling k.window.filling (subst (λ (v : SenderKept). IsSome v.window.filling) (sym c.self.view_is) c.requires) in
    let f = found.filling in
    let here = begun_here k c.self.invariant f found.is in
    let s = c.self.invariant.state in
    (room_stands k new f.len s c.leave.ensures.profile here.reached (c.leave.ensures.left s (file_of c.self.invariant.name f.len f.octets) here.fills)).agrees.filling
