use Rattle.std.proofs.Common.{List, map, ap, ◌∙◌}
use Rattle.norm_send_rules.specs.SenderState.{Listing, unlisted}
use Rattle.mark_book.specs.Listed.{listing}
use Rattle.mark_book.proofs.Members.{forgotten_entries}
use Rattle.mark_book.proofs.listings.Listings.forget.Goals as goal

pub returns : goal.returns
returns c =
    ap (map listing) c.forget_all.ensures.forgotten ∙ forgotten_entries c.self.inside.past.entries
    ∙ ap (λ (ls : List Listing). unlisted (map (λ (l : Listing). l.node) ls)) c.self.view_is
