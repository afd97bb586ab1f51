use Rattle.norm_sender.proofs.parts.Parts.untold.Goals as goal

pub returns : goal.returns
returns c s h = c.untold.ensures c.args.self.now.profile s h.book
