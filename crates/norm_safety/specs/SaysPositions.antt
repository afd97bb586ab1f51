-- Tied, part 2: a flush names an enqueued source symbol, and a squelch a point that is not past the drop point.
use Rattle.std.specs.Prelude.{ℕ, ◌==◌, ◌&&◌, ◌||◌, not, Bool, false, None, Some, IsTrue}
use Rattle.std.specs.List.{list_all, AllByRecursion}
use Rattle.norm_base.specs.Settings.{Settings}
use Rattle.fec_plan.specs.Points.{point, point_before, position}
use Rattle.norm_ext.specs.Message.{FlushCommand, SquelchCommand}
use Rattle.norm_order.specs.Shapes.{shapes_of, is_source}
use Rattle.norm_send_rules.specs.SenderState.{SenderState}
use Rattle.norm_safety.specs.History.{History}
use Rattle.norm_safety.specs.InOrder.{drop_of, is_stream_object}
use Rattle.norm_safety.specs.OnceEach.{order_of}
use Rattle.norm_safety.specs.Said.{About, said_flushes, said_squelches, entry_at}

-- a flush names a closed source symbol of its instance's order
abbrev pub flushes_source : Settings → SenderState → About FlushCommand → Bool
flushes_source p s x =
    let m = x.message in is_source (shapes_of p (order_of s m.head.instance)) (position x.index m.id.block m.id.symbol)

-- the object with this index is a stream
abbrev pub is_stream_at : SenderState → ℕ → ℕ → Bool
is_stream_at s id index = elim (entry_at s id index) [ Some entry ↦ is_stream_object entry.object | None ↦ false ]

-- a squelch names a point that is not past its instance's drop point, and a block only of a stream
abbrev pub squelches_dropped : SenderState → About SquelchCommand → Bool
squelches_dropped s x =
    let m = x.message in
    not (point_before (drop_of s m.head.instance) (point x.index m.id.block))
    && (m.id.block == 0 || is_stream_at s m.head.instance x.index)

-- of each flush and each squelch that was said
pub record SaysPositions (p : Settings) (h : History) : Type 0 where
  pub flushes : AllByRecursion (λ m. IsTrue (flushes_source p h.now.sender m)) (said_flushes h.now)
  pub squelches : AllByRecursion (λ m. IsTrue (squelches_dropped h.now.sender m)) (said_squelches h.now)

-- The same as a test.
abbrev pub says_positions : Settings → History → Bool
says_positions p h =
    list_all (flushes_source p h.now.sender) (said_flushes h.now) && list_all (squelches_dropped h.now.sender) (said_squelches h.now)
