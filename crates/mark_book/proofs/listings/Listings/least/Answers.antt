use Rattle.std.proofs.Common.{sym, ap, ◌∙◌}
use Rattle.std.specs.List.{list_all}
use Rattle.fec_plan.specs.Points.{reached_by}
use Rattle.norm_send_rules.specs.Watermarks.{is_past}
use Rattle.mark_book.proofs.Members.{all_past_at}
use Rattle.mark_book.proofs.listings.Listings.least.Goals as goal

pub returns : goal.returns
returns c = λ at.
    ap (list_all (is_past at)) (sym c.self.view_is) ∙ all_past_at at c.self.inside.past.entries
    ∙ ap (list_all (λ o. reached_by o at)) (sym (c.as_slice.ensures ∙ c.values.ensures.rest)) ∙ c.least_of.ensures at
