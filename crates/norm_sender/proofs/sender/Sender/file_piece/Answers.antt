use Rattle.std.proofs.Common.{◌∙◌, ◌+◌, ◌≤◌, ◌++◌, length, ap, sym, subst}
use Rattle.std.specs.Prelude.{MatchOption}
use Rattle.norm_sender.specs.Filling.{HasBegun, file_of}
use Rattle.norm_sender.specs.Inside.{kept_of}
use Rattle.norm_sender.specs.SenderKept.{SenderKept}
use Rattle.norm_sender.proofs.FilingLemmas.{has_filling}
use Rattle.norm_sender.proofs.SenderLemmas.{begun_here, sound_begun, under}
use Rattle.norm_sender.proofs.sender.Sender.file_piece.Goals as goal

pub fill-requires : goal.fill-requires
fill-requires c =
    subst (λ (v : SenderKept). MatchOption v.window.filling ⊥ (λ f. length f.octets + length c.args.piece.now ≤ f.len)) (sym c.self.view_is) c.requires

pub returns-clause-profile : goal.returns-clause-profile
returns-clause-profile c = c.fill.ensures.profile ∙ ap (λ (k : SenderKept). k.p) c.self.view_is

pub returns-clause-filling : goal.returns-clause-filling
returns-clause-filling c f is = c.fill.ensures.filling f (ap (λ (v : SenderKept). v.window.filling) c.self.view_is ∙ is)

pub returns-clause-begun : goal.returns-clause-begun
returns-clause-begun c s name octets len h =
    let k = kept_of c.self.inside.parts in
    let new = kept_of c.fill.new.self in
    let here = subst (λ (v : SenderKept). HasBegun v s name len octets) (sym c.self.view_is) h in
    record {
      fills = c.fill.ensures.fills s (file_of name len octets) here.fills;
      reached = under k.p new.p s c.fill.ensures.profile here.reached;
    }

pub invariant_of-self : goal.invariant_of-self
invariant_of-self c =
    let k = kept_of c.self.inside.parts in
    let new = kept_of c.fill.new.self in
    let found = has_filling k.window.filling (subst (λ (v : SenderKept). MatchOption v.window.filling ⊥ (λ f. length f.octets + length c.args.piece.now ≤ f.len)) (sym c.self.view_is) c.requires) in
    let f = found.filling in
    let here = begun_here k c.self.invariant f found.is in
    let s = c.self.invariant.state in
    let name = c.self.invariant.name in
    let h : HasBegun new s name f.len (f.octets ++ c.args.piece.now) = record {
      fills = c.fill.ensures.fills s (file_of name f.len f.octets) here.fills;
      reached = under k.p new.p s c.fill.ensures.profile here.reached;
    } in
    sound_begun new s name f.len (f.octets ++ c.args.piece.now) h
