-- What a sender makes of an acknowledgement (RFC 5740 section 5.5.3).
use Rattle.std.specs.Prelude.{◌≡◌, ℕ, List, Some, Ok, true, ⊤}
use Rattle.norm_base.specs.Settings.{Settings}
use Rattle.fec_plan.specs.Points.{reaches}
use Rattle.fec_plan.specs.declared.position.Position.{Position}
use Rattle.norm_ext.specs.Message.{Ack, AckMessage}
use Rattle.norm_ext.specs.Reading.{decoded}
use Rattle.norm_order.specs.Shapes.{is_source}
use Rattle.norm_send_rules.specs.Hearing.{ack_counts, heard}
use Rattle.norm_send_rules.specs.InWindow.{current_shapes}
use Rattle.norm_send_rules.specs.SenderState.{SenderState}
use Rattle.norm_send_rules.specs.SenderStep.{SenderEvent, Commanded, sender_step}
use Rattle.norm_safety.specs.CreditsMembers.{is_listed_past, confirmed}

-- an event of a sender is no command
abbrev pub IsNoCommand : SenderEvent → Type 0
IsNoCommand (Commanded by job now) = ⊥
IsNoCommand _ = ⊤

-- Of one sender that hears a member confirm a position or a further one.
pub record FlushListed : Type 0 where
  -- that member is then listed past the position
  pub lists : (p : Settings) (s : SenderState) (octets : List ℕ) (now : ℕ) (m : AckMessage) (due at : Position) → decoded octets ≡ Ok (Ack m)
      → ack_counts p s m ≡ true → confirmed p s m ≡ Some due → is_source (current_shapes p s) due ≡ true → reaches due at ≡ true
      → is_listed_past (heard p s octets now) m.source at ≡ true
  -- and stays so through whatever is no command
  pub stays : (p : Settings) (s : SenderState) (event : SenderEvent) (node : ℕ) (at : Position) → IsNoCommand event → is_listed_past s node at ≡ true
      → is_listed_past (sender_step p s event).0 node at ≡ true
