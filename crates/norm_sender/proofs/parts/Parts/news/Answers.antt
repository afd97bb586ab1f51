use Rattle.norm_sender.specs.Inside.{kept_of}
use Rattle.norm_sender.proofs.TellingLemmas.{told_agrees}
use Rattle.norm_sender.proofs.parts.Parts.news.Goals as goal

pub returns-clause-stands : goal.returns-clause-stands
returns-clause-stands c s h =
    let k = kept_of c.args.self.now in
    let after = c.news.ensures.stands k.p s h.book in
    (told_agrees k c.news.new.self s h after.0, after.1)
