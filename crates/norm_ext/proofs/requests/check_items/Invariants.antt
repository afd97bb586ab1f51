use Rattle.std.proofs.Common.{◌≡◌, ◌+◌, length}
use Rattle.norm_ext.specs.Requests.{items_checked}
use Rattle.norm_ext.proofs.requests.check_items.Given as goal

abbrev pub invariant-loop-rest : goal.invariant-loop-rest
invariant-loop-rest l = record {
  so_far : items_checked l.place l.rest ≡ items_checked l.at l.items;
  place : l.place + length l.rest ≡ l.at + length l.items;
}

abbrev pub decreases-loop-rest : goal.decreases-loop-rest
decreases-loop-rest l = length l.rest
