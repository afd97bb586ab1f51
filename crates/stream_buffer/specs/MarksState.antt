-- Marks of sent segments in a row: what they are seen as, and what is counted of them.
use Rattle.std.specs.Prelude.{ℕ, ◌≡◌, List, Bool}
use Rattle.std.specs.VecDeque.{deque_capacity}
use Rattle.stream_buffer.specs.HeldState.{run_of}
use Rattle.stream_buffer.specs.declared.marks.Marks.TheInside.{Inside}

-- for each of some segments, whether it was sent, and for how many there is room
pub record MarksState : Type 0 where
  pub sent : List Bool
  pub room : ℕ

abbrev pub marks_view : Inside → MarksState
marks_view m = record { sent = m.sent.items; room = deque_capacity m.sent }

-- what is counted is how many from the first on were sent
pub record MarksSound (m : Inside) : Type 0 where
  pub run : m.run ≡ run_of m.sent.items
