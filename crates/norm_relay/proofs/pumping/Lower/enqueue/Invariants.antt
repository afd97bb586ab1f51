use Rattle.std.specs.VecDeque.{deque_len}
use Rattle.norm_relay.specs.RelayKept.{IsReady}
use Rattle.norm_relay.proofs.EnqueueLemmas.{Follow}
use Rattle.norm_relay.proofs.pumping.Lower.enqueue.Given as goal

abbrev pub invariant-loop-first : goal.invariant-loop-first
invariant-loop-first l = record {
  ready : IsReady l.self;
  follow : Follow l.now l.initial.self l.initial.waiting.items l.self l.waiting.items l.jobs;
}

abbrev pub decreases-loop-first : goal.decreases-loop-first
decreases-loop-first l = deque_len l.waiting
