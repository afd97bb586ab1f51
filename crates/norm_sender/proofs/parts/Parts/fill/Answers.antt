use Rattle.norm_sender.specs.Inside.{kept_of}
use Rattle.norm_sender.proofs.EnqueuingLemmas.{filled_more}
use Rattle.norm_sender.proofs.parts.Parts.fill.Goals as goal

pub returns-clause-fills : goal.returns-clause-fills
returns-clause-fills c s f h = filled_more (kept_of c.args.self.now) c.fill.new.self s f c.args.piece.now c.fill.ensures.profile (c.fill.ensures.filling f h.filling) c.fill.ensures.stands h
