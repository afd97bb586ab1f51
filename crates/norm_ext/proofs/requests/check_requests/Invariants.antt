use Rattle.std.proofs.Common.{◌≡◌, ◌+◌, length}
use Rattle.norm_ext.specs.Pieces.{checked_behind}
use Rattle.norm_ext.specs.Requests.{requests_checked, request_checked, request_length}
use Rattle.norm_ext.proofs.requests.check_requests.Given as goal

abbrev pub invariant-loop-rest : goal.invariant-loop-rest
invariant-loop-rest l = record {
  so_far : checked_behind request_checked request_length l.place 0 l.rest ≡ requests_checked l.at l.list;
  place : l.place + length l.rest ≡ l.at + length l.list;
}

abbrev pub decreases-loop-rest : goal.decreases-loop-rest
decreases-loop-rest l = length l.rest
