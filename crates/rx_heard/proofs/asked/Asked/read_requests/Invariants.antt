-- What is left of the requests makes the whole.
use Rattle.std.proofs.Common.{◌≡◌, map, fold}
use Rattle.norm_ext.specs.Asking.{named}
use Rattle.norm_receive_rules.specs.Overhearing.{asked_also}
use Rattle.rx_heard.proofs.asked.Asked.read_requests.Given as goal

abbrev pub invariant-requests : goal.invariant-requests
invariant-requests l =
    fold asked_also l.self (map (named l.profile l.known) l.request-iterator) ≡ fold asked_also l.initial.self (map (named l.profile l.known) l.initial.request-iterator)
