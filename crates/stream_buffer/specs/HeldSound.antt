-- How a stream of the window is seen, and what holds of each.
use Rattle.std.specs.Prelude.{◌≡◌, ◌*◌, ◌≤◌, length}
use Rattle.stream_buffer.specs.HeldState.{HeldState}
use Rattle.stream_buffer.specs.declared.held.HeldStream.TheInside.{Inside}

abbrev pub held_view : Inside → HeldState
held_view h = record { buffer = h.buffer; sent = h.marks.sent }

-- It is cut as profiles cut streams; there is a mark for each segment that is kept, and room for as many as the buffer can keep
pub record HeldSound (h : Inside) : Type 0 where
  pub b : h.b ≡ h.buffer.cut.b
  pub some : 1 ≤ h.b
  pub fits : h.b ≤ h.buffer.cut.max_n
  pub least_e : 1 ≤ h.buffer.cut.e
  pub marks : length h.marks.sent ≡ length h.buffer.rows
  pub room : h.buffer.blocks * h.buffer.cut.b ≤ h.marks.room
