-- The numbers of a receiver's state: all of it but what it holds and what it heard.
use Rattle.std.specs.Prelude.{ℕ, Bool, false, nat_le, Option, None, Some}
use Rattle.norm_receive_rules.specs.ReceiverState.{ReceiverState}
use Rattle.norm_receiver.specs.declared.numbers.Numbers.{Numbers}

-- the numbers of a state
abbrev pub numbers_of : ReceiverState → Numbers
numbers_of s = record {
  node = s.node;
  instance = s.instance;
  known = s.knows.known;
  farthest = s.knows.farthest;
  flush = s.knows.flush;
  backoff = s.knows.backoff;
  holdoff = s.knows.holdoff;
  due = s.knows.due;
  sequence = s.sequence;
}

-- as a node's receiver begins
abbrev pub opening_numbers : ℕ → Numbers
opening_numbers node = record {
  node = node;
  instance = None;
  known = 0;
  farthest = None;
  flush = None;
  backoff = None;
  holdoff = 0;
  due = None;
  sequence = 0;
}

-- as an instance begins: the node and the sequence number stay
abbrev pub entering_numbers : ℕ → Numbers → Numbers
entering_numbers instance n = record (opening_numbers n.node) { instance = Some instance; sequence = n.sequence }

-- whether a back-off runs whose moment is reached
abbrev pub has_ended : ℕ → Option ℕ → Bool
has_ended now backoff = elim backoff [ Some ends ↦ nat_le ends now | None ↦ false ]
