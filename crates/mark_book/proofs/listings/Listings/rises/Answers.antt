use Rattle.std.proofs.Common.{sym, ap, ◌∙◌}
use Rattle.std.specs.Prelude.{◌==◌, ◌&&◌, not}
use Rattle.std.specs.List.{list_any}
use Rattle.std.specs.Option.{option_copied}
use Rattle.norm_send_rules.specs.SenderState.{Listing}
use Rattle.norm_send_rules.specs.Watermarks.{is_past}
use Rattle.mark_book.proofs.Members.{rises_from, rises_at}
use Rattle.mark_book.proofs.listings.Listings.rises.Goals as goal

pub returns-in-Some : goal.returns-in-Some
returns-in-Some c =
    let looked = sym c.get.ensures.value ∙ ap option_copied c.in-Some.is in
    ap not c.reached_by.ensures ∙ sym (ap (rises_from c.args.at) looked)
    ∙ sym (rises_at c.args.node c.args.at c.self.inside.past.entries c.self.invariant)
    ∙ ap (list_any (λ (l : Listing). l.node == c.args.node && not (is_past c.args.at l))) c.self.view_is

pub returns-in-None : goal.returns-in-None
returns-in-None c =
    let looked = sym c.get.ensures.value ∙ ap option_copied c.in-None.is in
    sym (ap (rises_from c.args.at) looked)
    ∙ sym (rises_at c.args.node c.args.at c.self.inside.past.entries c.self.invariant)
    ∙ ap (list_any (λ (l : Listing). l.node == c.args.node && not (is_past c.args.at l))) c.self.view_is
