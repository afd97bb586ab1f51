use Rattle.std.proofs.Common.{◌≡◌, List, sym, subst, ap, ◌∙◌, None}
use Rattle.std.specs.Prelude.{filter}
use Rattle.norm_ext.specs.Asking.{Span, is_proper}
use Rattle.norm_ext.specs.Requests.{items_named}
use Rattle.norm_ext.specs.declared.head.Item.{Item}
use Rattle.nack_union.specs.Earliest.{least_with, firsts, pairs_spans}
use Rattle.nack_union.specs.More.{HasPart, ranges_part}
use Rattle.nack_union.proofs.Least.{pair_least}
use Rattle.nack_union.proofs.Parts.{part_none}
use Rattle.nack_union.proofs.PartsNamed.{pair_more, pair_spans, no_pairs}
use Rattle.nack_union.proofs.collection.Collection.ask_ranges.Goals as goal

pub pairs-preserved-in-Some-ends_of : goal.pairs-preserved-in-Some-ends_of
pairs-preserved-in-Some-ends_of c = record {
  asked = λ u more.
      c.pairs.invariant.asked u
      (subst (λ (xs : List Item). HasPart (ranges_part c.args.flags (pairs_spans c.args.profile.now c.args.known xs)) c.pairs.self u) (sym c.in-Some.ensures)
      (pair_more c.args.profile.now c.args.known c.args.flags c.in-Some.first c.in-Some.last c.in-Some-ends_of.ends.0 c.in-Some-ends_of.ends.1 (items_named c.in-Some.behind.now)
      c.pairs.self c.ask_pair.new.self u c.in-Some-ends_of.ensures c.ask_pair.ensures more));
  least =
      ap (λ o. least_with o (firsts c.args.flags (filter is_proper (pairs_spans c.args.profile.now c.args.known (items_named c.in-Some.behind.now))))) c.lesser_span-least.ensures
      ∙ pair_least c.args.profile.now c.args.known c.args.flags c.pairs.least c.in-Some.first c.in-Some.last c.in-Some-ends_of.ends.0 c.in-Some-ends_of.ends.1
      (items_named c.in-Some.behind.now) c.in-Some-ends_of.ensures
      ∙ ap (λ (xs : List Item). least_with c.pairs.least (firsts c.args.flags (filter is_proper (pairs_spans c.args.profile.now c.args.known xs)))) (sym c.in-Some.ensures)
      ∙ c.pairs.invariant.least;
}

pub pairs-preserved : goal.pairs-preserved
pairs-preserved c = record {
  asked = λ u more. c.pairs.invariant.asked u (subst (λ (spans : List Span). HasPart (ranges_part c.args.flags spans) c.pairs.self u) gone more);
  least = ap (λ (spans : List Span). least_with c.pairs.least (firsts c.args.flags (filter is_proper spans))) gone ∙ c.pairs.invariant.least;
}
  where
    gone : pairs_spans c.args.profile.now c.args.known (items_named c.in-Some.behind.now) ≡ pairs_spans c.args.profile.now c.args.known (items_named c.pairs.rest.now)
    gone =
        pair_spans c.args.profile.now c.args.known c.in-Some.first c.in-Some.last (items_named c.in-Some.behind.now) None c.in_default-ends_of.ensures
        ∙ ap (pairs_spans c.args.profile.now c.args.known) (sym c.in-Some.ensures)

pub returns-clause-asked : goal.returns-clause-asked
returns-clause-asked c =
    c.pairs.invariant.asked c.pairs.self
    (subst (λ (spans : List Span). HasPart (ranges_part c.args.flags spans) c.pairs.self c.pairs.self)
    (sym (no_pairs c.args.profile.now c.args.known (items_named c.pairs.rest.now) c.in_default.ensures)) (part_none c.pairs.self))

pub returns-clause-least : goal.returns-clause-least
returns-clause-least c =
    sym (ap (λ (spans : List Span). least_with c.pairs.least (firsts c.args.flags (filter is_proper spans))) (no_pairs c.args.profile.now c.args.known (items_named c.pairs.rest.now) c.in_default.ensures))
    ∙ c.pairs.invariant.least
