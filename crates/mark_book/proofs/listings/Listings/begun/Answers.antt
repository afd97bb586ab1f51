use Rattle.std.proofs.Common.{map, ap, ◌∙◌}
use Rattle.mark_book.specs.Listed.{listing}
use Rattle.mark_book.proofs.Members.{begun_entries}
use Rattle.mark_book.proofs.listings.Listings.begun.Goals as goal

pub returns : goal.returns
returns c = ap (map listing) c.in_ok-past.ensures.0 ∙ begun_entries c.args.nodes.now
