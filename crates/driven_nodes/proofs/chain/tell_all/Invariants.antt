use Rattle.std.proofs.Common.{◌≤◌}
use Rattle.driven_nodes.proofs.ChainLemmas.{Told}
use Rattle.driven_nodes.proofs.chain.tell_all.Given as goal

abbrev pub invariant-loop : goal.invariant-loop
invariant-loop l = record {
  told : Told l.initial.relay l.counter l.relay;
  within : l.counter ≤ l.end;
}
