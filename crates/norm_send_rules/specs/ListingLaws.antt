-- What a member is listed past never falls in an instance (RFC 5740 section 5.5.3).
use Rattle.std.specs.Prelude.{◌≡◌, ℕ, true, Some}
use Rattle.norm_base.specs.Settings.{Settings}
use Rattle.fec_plan.specs.Points.{reaches}
use Rattle.fec_plan.specs.declared.position.Position.{Position}
use Rattle.norm_send_rules.specs.SenderState.{SenderState}
use Rattle.norm_send_rules.specs.SenderStep.{SenderEvent, sender_step}
use Rattle.norm_send_rules.specs.Telling.{listing_of}
use Rattle.norm_send_rules.specs.Watermarks.{has_member}

-- who is still a member and was listed past a position is listed past it, or further
abbrev pub NoneFalls : SenderState → SenderState → Type 0
NoneFalls s t = (node : ℕ) (past : Position) → listing_of s node ≡ Some past → has_member node t ≡ true
    → (now : Position) × (listing_of t node ≡ Some now) × (reaches now past ≡ true)

-- so it is after each step that begins no instance
pub record ListingLaws : Type 0 where
  pub never_fall : (p : Settings) (s : SenderState) (event : SenderEvent) → (sender_step p s event).0.earlier ≡ s.earlier
      → NoneFalls s (sender_step p s event).0
