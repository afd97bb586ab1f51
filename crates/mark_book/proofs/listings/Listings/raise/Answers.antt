use Rattle.std.proofs.Common.{◌≡◌, Some, map, true, sym, ap, ◌∙◌}
use Rattle.std.specs.Prelude.{◌==◌, ◌&&◌, not, nat_eq}
use Rattle.std.specs.List.{list_any}
use Rattle.std.specs.Map.{lookup}
use Rattle.std.specs.Option.{option_copied_mut}
use Rattle.std.proofs.lemmas.Bool.{false≢true}
use Rattle.norm_send_rules.specs.SenderState.{Listing}
use Rattle.norm_send_rules.specs.Hearing.{listed_past}
use Rattle.norm_send_rules.specs.Watermarks.{is_past}
use Rattle.mark_book.specs.Listed.{listing}
use Rattle.mark_book.proofs.Members.{rises_from, rises_at, raised_at}
use Rattle.mark_book.proofs.listings.Listings.raise.Goals as goal

pub returns-in_default : goal.returns-in_default
returns-in_default c =
    let looked = sym c.get_mut.ensures.value ∙ ap option_copied_mut c.in_default.is in
    let news : rises_from c.args.at (lookup (nat_eq c.args.node) c.self.inside.past.entries) ≡ true =
    sym (rises_at c.args.node c.args.at c.self.inside.past.entries c.self.invariant)
    ∙ ap (list_any (λ (l : Listing). l.node == c.args.node && not (is_past c.args.at l))) c.self.view_is ∙ c.requires in
    absurd (false≢true (sym (ap (rises_from c.args.at) looked) ∙ news))

pub returns : goal.returns
returns c =
    let news : rises_from c.args.at (lookup (nat_eq c.args.node) c.self.inside.past.entries) ≡ true =
    sym (rises_at c.args.node c.args.at c.self.inside.past.entries c.self.invariant)
    ∙ ap (list_any (λ (l : Listing). l.node == c.args.node && not (is_past c.args.at l))) c.self.view_is ∙ c.requires in
    ap (map listing) (c.get_mut.follows.holds (Some c.args.at)).0
    ∙ raised_at c.args.node c.args.at c.self.inside.past.entries c.self.invariant news
    ∙ ap (map (listed_past c.args.node c.args.at)) c.self.view_is
