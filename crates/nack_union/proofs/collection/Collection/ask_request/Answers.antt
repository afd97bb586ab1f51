use Rattle.std.proofs.Common.{◌≡◌, Bool, subst, true, sym, ap, ◌∙◌}
use Rattle.std.specs.Prelude.{◌||◌}
use Rattle.norm_ext.specs.Asking.{has_flag, segment_flag, block_flag}
use Rattle.norm_ext.specs.RequestView.{request_of}
use Rattle.nack_union.specs.Earliest.{least_where}
use Rattle.nack_union.specs.More.{HasPart, Part}
use Rattle.nack_union.proofs.Least.{least_at, least_items, least_ranges, least_erasures, erasures_give}
use Rattle.nack_union.proofs.PartsNamed.{of_items, of_ranges, of_erasures}
use Rattle.nack_union.proofs.collection.Collection.ask_request.Goals as goal

pub returns-in-Items-clause-asked : goal.returns-in-Items-clause-asked
returns-in-Items-clause-asked c =
    subst (λ (part : Part). HasPart part c.args.self.now c.ask_items-least.new.self) (of_items c.args.profile.now c.args.known (request_of c.args.request.now) c.in-Items.is) c.ask_items-least.ensures.asked

pub returns-in-Items-clause-earliest : goal.returns-in-Items-clause-earliest
returns-in-Items-clause-earliest c =
    c.least_where.ensures
    ∙ ap (least_where c.gives_something-gives.result) (c.ask_items-least.ensures.least ∙ least_items c.args.profile.now c.args.known (request_of c.args.request.now) c.in-Items.is)
    ∙ ap (λ (gives : Bool). least_where gives (least_at c.args.profile.now c.args.known (request_of c.args.request.now))) c.gives_something-gives.ensures

pub returns-in-Ranges-clause-asked : goal.returns-in-Ranges-clause-asked
returns-in-Ranges-clause-asked c =
    subst (λ (part : Part). HasPart part c.args.self.now c.ask_ranges-least.new.self) (of_ranges c.args.profile.now c.args.known (request_of c.args.request.now) c.in-Ranges.is) c.ask_ranges-least.ensures.asked

pub returns-in-Ranges-clause-earliest : goal.returns-in-Ranges-clause-earliest
returns-in-Ranges-clause-earliest c =
    c.least_where-in-Ranges.ensures
    ∙ ap (least_where c.gives_something-gives.result) (c.ask_ranges-least.ensures.least ∙ least_ranges c.args.profile.now c.args.known (request_of c.args.request.now) c.in-Ranges.is)
    ∙ ap (λ (gives : Bool). least_where gives (least_at c.args.profile.now c.args.known (request_of c.args.request.now))) c.gives_something-gives.ensures

pub returns-else-not-gives-clause-asked : goal.returns-else-not-gives-clause-asked
returns-else-not-gives-clause-asked c =
    subst (λ (part : Part). HasPart part c.args.self.now c.ask_counts.new.self) (of_erasures c.args.profile.now c.args.known (request_of c.args.request.now) true c.in-Erasures.is wanted) c.ask_counts.ensures.asked
  where
    wanted : (has_flag c.args.request.now.flags segment_flag || has_flag c.args.request.now.flags block_flag) ≡ true
    wanted = sym (erasures_give (request_of c.args.request.now) c.in-Erasures.is) ∙ sym c.gives_something-gives.ensures ∙ c.if-not-gives.false

pub returns-else-not-gives-clause-earliest : goal.returns-else-not-gives-clause-earliest
returns-else-not-gives-clause-earliest c =
    c.ask_counts.ensures.least
    ∙ least_erasures c.args.profile.now c.args.known (request_of c.args.request.now) c.in-Erasures.is
    ∙ ap (λ (gives : Bool). least_where gives (least_at c.args.profile.now c.args.known (request_of c.args.request.now))) (sym c.if-not-gives.false ∙ c.gives_something-gives.ensures)
