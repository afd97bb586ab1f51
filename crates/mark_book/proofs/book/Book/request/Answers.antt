use Rattle.mark_book.proofs.Standing.{quorum_passes}
use Rattle.mark_book.proofs.book.Book.request.Goals as goal

pub returns-clause-stands : goal.returns-clause-stands
returns-clause-stands c = λ p s by stands other.
    quorum_passes by c.args.quorum c.args.at p _ s _ _ (c.quorum_fault.ensures p s stands) c.in_default.is (c.place.ensures.stands p s by stands other)
