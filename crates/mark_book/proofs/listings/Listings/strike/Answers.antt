use Rattle.std.proofs.Common.{map, ap, ◌∙◌}
use Rattle.std.specs.Prelude.{◌==◌, not, filter}
use Rattle.norm_send_rules.specs.SenderState.{Listing}
use Rattle.mark_book.specs.Listed.{listing}
use Rattle.mark_book.proofs.Members.{struck_at}
use Rattle.mark_book.proofs.listings.Listings.strike.Goals as goal

pub returns-clause-left : goal.returns-clause-left
returns-clause-left c =
    ap (map listing) c.shift_remove.ensures.entries ∙ struck_at c.args.node c.self.inside.past.entries c.self.invariant
    ∙ ap (filter (λ (l : Listing). not (l.node == c.args.node))) c.self.view_is
