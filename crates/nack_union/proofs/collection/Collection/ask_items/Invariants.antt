use Rattle.std.proofs.Common.{◌≡◌, None, length}
use Rattle.nack_union.specs.Kept.{Kept}
use Rattle.norm_ext.specs.Requests.{items_named}
use Rattle.nack_union.specs.Earliest.{least_with, firsts, items_spans}
use Rattle.nack_union.specs.More.{HasPart, items_part}
use Rattle.nack_union.proofs.collection.Collection.ask_items.Given as goal

abbrev pub invariant-items : goal.invariant-items
invariant-items l = record {
  asked : (u : Kept) → HasPart (items_part l.flags (items_spans l.profile l.known (items_named l.rest))) l.self u
      → HasPart (items_part l.flags (items_spans l.profile l.known (items_named l.initial.rest))) l.initial.self u;
  least : least_with l.least (firsts l.flags (items_spans l.profile l.known (items_named l.rest))) ≡ least_with None (firsts l.flags (items_spans l.profile l.known (items_named l.initial.rest)));
}

abbrev pub decreases-items : goal.decreases-items
decreases-items l = length (items_named l.rest)
