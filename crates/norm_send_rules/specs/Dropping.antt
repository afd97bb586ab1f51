-- Dropping from the front of the window (RFC 5740 section 5.4.3).
use Rattle.std.specs.Prelude.{not, ◌||◌, filter}
use Rattle.std.specs.List.{list_any}
use Rattle.fec_plan.specs.Points.{Point}
use Rattle.norm_send_rules.specs.SenderState.{SenderState}
use Rattle.norm_send_rules.specs.InWindow.{stands_behind}

-- All before this point is dropped. Where that takes away a want, the want is removed and a squelch is due.
abbrev pub dropped_to : Point → SenderState → SenderState
dropped_to drop s = record s {
  current = record (s.current) { drop = drop };
  wants = filter (stands_behind drop) s.wants;
  squelch_due = s.squelch_due || list_any (λ w. not (stands_behind drop w)) s.wants;
}
