use Rattle.std.proofs.Common.{◌≡◌, map}
use Rattle.norm_ext.specs.Asking.{named}
use Rattle.nack_union.specs.Kept.{Kept}
use Rattle.nack_union.specs.Earliest.{earliest_with}
use Rattle.nack_union.specs.More.{HasPart, requests_part}
use Rattle.nack_union.proofs.collection.Collection.ask_requests.Given as goal

abbrev pub invariant-requests : goal.invariant-requests
invariant-requests l = record {
  asked : (u : Kept) → HasPart (requests_part (map (named l.profile l.known) l.request-iterator)) l.self u → HasPart (requests_part (map (named l.profile l.known) l.initial.request-iterator)) l.initial.self u;
  least : earliest_with l.earliest (map (named l.profile l.known) l.request-iterator) ≡ earliest_with l.initial.earliest (map (named l.profile l.known) l.initial.request-iterator);
}
