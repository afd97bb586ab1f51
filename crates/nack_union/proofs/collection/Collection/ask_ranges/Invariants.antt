use Rattle.std.proofs.Common.{◌≡◌, None, length}
use Rattle.std.specs.Prelude.{filter}
use Rattle.norm_ext.specs.Asking.{is_proper}
use Rattle.nack_union.specs.Kept.{Kept}
use Rattle.norm_ext.specs.Requests.{items_named}
use Rattle.nack_union.specs.Earliest.{least_with, firsts, pairs_spans}
use Rattle.nack_union.specs.More.{HasPart, ranges_part}
use Rattle.nack_union.proofs.collection.Collection.ask_ranges.Given as goal

abbrev pub invariant-pairs : goal.invariant-pairs
invariant-pairs l = record {
  asked : (u : Kept) → HasPart (ranges_part l.flags (pairs_spans l.profile l.known (items_named l.rest))) l.self u
      → HasPart (ranges_part l.flags (pairs_spans l.profile l.known (items_named l.initial.rest))) l.initial.self u;
  least : least_with l.least (firsts l.flags (filter is_proper (pairs_spans l.profile l.known (items_named l.rest))))
      ≡ least_with None (firsts l.flags (filter is_proper (pairs_spans l.profile l.known (items_named l.initial.rest))));
}

abbrev pub decreases-pairs : goal.decreases-pairs
decreases-pairs l = length (items_named l.rest)
