-- The drop point never falls in an instance (RFC 5740 section 5.1).
use Rattle.std.specs.Prelude.{◌≡◌, ◌<◌, ◌≤◌, ℕ, length, is_some, true, false}
use Rattle.norm_base.specs.Settings.{Settings}
use Rattle.fec_plan.specs.Points.{point_before}
use Rattle.norm_send_rules.specs.Enqueuing.{open_stream}
use Rattle.norm_send_rules.specs.SenderState.{SenderState, sender_opening}
use Rattle.norm_send_rules.specs.SenderStep.{SenderEvent, sender_step}

-- no more was dropped than there is, and an open stream was not dropped whole
pub record DropHolds (s : SenderState) : Type 0 where
  pub within : s.current.drop.index ≤ length s.current.order
  pub stream : is_some (open_stream s) ≡ true → s.current.drop.index < length s.current.order

-- So it is as a sender begins, and each step keeps it. And the drop point is no earlier after a step that begins no instance.
pub record DropLaws : Type 0 where
  pub begins : (p : Settings) (instance : ℕ) → DropHolds (sender_opening p instance)
  pub always : (p : Settings) (s : SenderState) (event : SenderEvent) → DropHolds s → DropHolds (sender_step p s event).0
  pub never_falls : (p : Settings) (s : SenderState) (event : SenderEvent) → DropHolds s → (sender_step p s event).0.earlier ≡ s.earlier
      → point_before (sender_step p s event).0.current.drop s.current.drop ≡ false
