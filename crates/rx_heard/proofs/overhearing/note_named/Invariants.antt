-- What is left of the spans makes the whole.
use Rattle.std.proofs.Common.{◌≡◌, length}
use Rattle.rx_heard.specs.Overhearing.{with_spans}
use Rattle.rx_heard.proofs.overhearing.note_named.Given as goal

abbrev pub invariant-noting : goal.invariant-noting
invariant-noting l = with_spans l.width l.spans.items l.rest ≡ with_spans l.width l.initial.spans.items l.initial.rest

abbrev pub decreases-noting : goal.decreases-noting
decreases-noting l = length l.rest
