use Rattle.std.proofs.Common.{sym, ap, ◌∙◌}
use Rattle.std.specs.Prelude.{◌==◌}
use Rattle.std.specs.List.{list_any}
use Rattle.norm_send_rules.specs.SenderState.{Listing}
use Rattle.mark_book.proofs.Members.{listed_at}
use Rattle.mark_book.proofs.listings.Listings.lists.Goals as goal

pub returns : goal.returns
returns c =
    c.contains_key.ensures ∙ sym (listed_at c.args.node c.self.inside.past.entries)
    ∙ ap (list_any (λ (l : Listing). l.node == c.args.node)) c.self.view_is
