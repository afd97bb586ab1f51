use Rattle.std.proofs.Common.{◌≡◌, ◌+◌, map, take, drop, ◌++◌}
use Rattle.std.specs.Prelude.{min}
use Rattle.std.specs.List.{AllByRecursion}
use Rattle.nack_union.specs.Kept.{closed_marks, IsCounted}
use Rattle.nack_union.specs.Rounds.{new_wants}
use Rattle.nack_union.proofs.collection.close_all.Given as goal

abbrev pub invariant-objects : goal.invariant-objects
invariant-objects l = record {
  closed : l.objects ≡ map closed_marks (take l.object-index l.initial.objects) ++ drop l.object-index l.initial.objects;
  counted : AllByRecursion IsCounted (take l.object-index l.initial.objects);
  queued : min (l.queued + new_wants (drop l.object-index l.initial.objects)) 4294967295 ≡ min (new_wants l.initial.objects) 4294967295;
}
