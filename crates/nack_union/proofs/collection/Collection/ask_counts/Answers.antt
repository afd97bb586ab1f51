use Rattle.std.proofs.Common.{◌≡◌, List, sym, subst, ap, ◌∙◌}
use Rattle.norm_ext.specs.Asking.{Span}
use Rattle.norm_ext.specs.Requests.{items_named}
use Rattle.norm_ext.specs.declared.head.Item.{Item}
use Rattle.nack_union.specs.Earliest.{least_with, firsts, items_spans}
use Rattle.nack_union.specs.More.{HasPart, counts_part}
use Rattle.nack_union.proofs.Least.{item_least}
use Rattle.nack_union.proofs.Parts.{part_none}
use Rattle.nack_union.proofs.PartsNamed.{count_more, item_gone}
use Rattle.nack_union.proofs.collection.Collection.ask_counts.Goals as goal

pub items-preserved-in-Some-position_of : goal.items-preserved-in-Some-position_of
items-preserved-in-Some-position_of c = record {
  asked = λ u more.
      c.items.invariant.asked u
      (subst (λ (xs : List Item). HasPart (counts_part (items_spans c.args.profile.now c.args.known xs)) c.items.self u) (sym c.in-Some.ensures)
      (count_more c.args.profile.now c.args.known c.in-Some.item c.in-Some-position_of.at (items_named c.in-Some.behind.now) c.items.self c.count_block.new.self u
      c.in-Some-position_of.ensures c.count_block.ensures more));
  least =
      ap (λ o. least_with o (firsts c.args.flags (items_spans c.args.profile.now c.args.known (items_named c.in-Some.behind.now)))) c.lesser_from-least.ensures
      ∙ item_least c.args.profile.now c.args.known c.args.flags c.items.least c.in-Some.item c.in-Some-position_of.at (items_named c.in-Some.behind.now) c.in-Some-position_of.ensures
      ∙ ap (λ (xs : List Item). least_with c.items.least (firsts c.args.flags (items_spans c.args.profile.now c.args.known xs))) (sym c.in-Some.ensures)
      ∙ c.items.invariant.least;
}

pub items-preserved : goal.items-preserved
items-preserved c = record {
  asked = λ u more. c.items.invariant.asked u (subst (λ (spans : List Span). HasPart (counts_part spans) c.items.self u) gone more);
  least = ap (λ (spans : List Span). least_with c.items.least (firsts c.args.flags spans)) gone ∙ c.items.invariant.least;
}
  where
    gone : items_spans c.args.profile.now c.args.known (items_named c.in-Some.behind.now) ≡ items_spans c.args.profile.now c.args.known (items_named c.items.rest.now)
    gone =
        item_gone c.args.profile.now c.args.known c.in-Some.item (items_named c.in-Some.behind.now) c.in_default-position_of.ensures
        ∙ ap (items_spans c.args.profile.now c.args.known) (sym c.in-Some.ensures)

pub returns-clause-asked : goal.returns-clause-asked
returns-clause-asked c =
    c.items.invariant.asked c.items.self
    (subst (λ (xs : List Item). HasPart (counts_part (items_spans c.args.profile.now c.args.known xs)) c.items.self c.items.self) (sym c.in_default.ensures) (part_none c.items.self))

pub returns-clause-least : goal.returns-clause-least
returns-clause-least c =
    sym (ap (λ (xs : List Item). least_with c.items.least (firsts c.args.flags (items_spans c.args.profile.now c.args.known xs))) c.in_default.ensures)
    ∙ c.items.invariant.least
