use Rattle.norm_sender.proofs.parts.Parts.open_requests.Goals as goal

pub returns : goal.returns
returns c s h = c.open-count.ensures c.args.self.now.profile s h.book
