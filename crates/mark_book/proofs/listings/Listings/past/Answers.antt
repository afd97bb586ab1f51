use Rattle.std.proofs.Common.{List, Option, sym, ap, ◌∙◌}
use Rattle.std.specs.Prelude.{option_and_then}
use Rattle.std.specs.Option.{option_copied}
use Rattle.fec_plan.specs.declared.position.Position.{Position}
use Rattle.norm_send_rules.specs.SenderState.{Listing}
use Rattle.mark_book.specs.BookMoves.{past_in}
use Rattle.mark_book.proofs.Members.{past_at}
use Rattle.mark_book.proofs.listings.Listings.past.Goals as goal

pub returns-in_err-past : goal.returns-in_err-past
returns-in_err-past c =
    let looked = sym c.get.ensures.value ∙ ap option_copied c.in_err-past.was in
    c.from_residual.ensures ∙ sym (ap (option_and_then (λ (o : Option Position). o)) looked)
    ∙ sym (past_at c.args.node c.self.inside.past.entries) ∙ ap (λ (ls : List Listing). past_in ls c.args.node) c.self.view_is

pub returns : goal.returns
returns c =
    let looked = sym c.get.ensures.value ∙ ap option_copied c.in_ok-past.was in
    sym (ap (option_and_then (λ (o : Option Position). o)) looked)
    ∙ sym (past_at c.args.node c.self.inside.past.entries) ∙ ap (λ (ls : List Listing). past_in ls c.args.node) c.self.view_is
