-- With the position of an open watermark a part of the order ends (RFC 5740 section 5.5.3).
use Rattle.std.specs.Prelude.{◌≡◌, List, true}
use Rattle.std.specs.List.{AllByRecursion}
use Rattle.norm_base.specs.Settings.{Settings, InRange}
use Rattle.norm_send_rules.specs.SenderState.{SenderState, Watermark}
use Rattle.norm_send_rules.specs.Watermarks.{is_open}
use Rattle.norm_safety.specs.Acknowledges.{EndsPartOf}
use Rattle.norm_safety.specs.Events.{Event}
use Rattle.norm_safety.specs.Jobs.{AreEvents}
use Rattle.norm_safety.specs.Lawful.{Lawful}
use Rattle.norm_safety.specs.WorldStep.{run}

-- each open watermark of a sender is of the last source symbol of data or a file of the current order, or of a closed segment of a stream
abbrev pub OpenMarksEnd : Settings → SenderState → Type 0
OpenMarksEnd p s = AllByRecursion (λ (w : Watermark). is_open w ≡ true → EndsPartOf p s.current.order w.at) s.watermarks

-- So it is after each lawful run whose commands a program can make. A watermark that ended may be of an earlier instance's order.
abbrev pub MarksEnd : Type 0
MarksEnd = (p : Settings) → InRange p → (events : List Event) → Lawful p events → AreEvents events → OpenMarksEnd p (run p events).sender
