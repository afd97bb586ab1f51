use Rattle.std.proofs.Common.{◌≡◌}
use Rattle.norm_relay.proofs.UpperLemmas.{TakesFrom}
use Rattle.norm_relay.proofs.delivering.take_all.Given as goal

abbrev pub invariant-loop : goal.invariant-loop
invariant-loop l = record {
  profile : l.receiver.p ≡ l.initial.receiver.p;
  takes : TakesFrom l.initial.receiver l.initial.waiting.items l.counter l.receiver l.waiting.items;
}
