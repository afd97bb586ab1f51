-- No want is forgotten (RFC 5740 sections 5.1 and 5.4): in each step of a sender it stays, or is sent, or is dropped, which makes a squelch
-- due, or another instance begins.
use Rattle.std.specs.Prelude.{ℕ, ◌≡◌, [], ◌∷◌, Contains, true, false, Some}
use Rattle.norm_base.specs.Settings.{Settings}
use Rattle.norm_ext.specs.Message.{Message, Info, Data}
use Rattle.norm_ext.specs.Written.{Written, writes}
use Rattle.norm_send_rules.specs.InWindow.{stands_behind}
use Rattle.norm_send_rules.specs.Restarting.{instances}
use Rattle.norm_send_rules.specs.SenderState.{SenderState}
use Rattle.norm_send_rules.specs.SenderStep.{SenderEvent, SenderAnswer, Sent, sender_step}
use Rattle.norm_send_rules.specs.Wants.{want_index}
use Rattle.norm_send_rules.specs.declared.want.Want.{Want}
use Rattle.norm_send_rules.specs.declared.want.Want.TheVariants.{Info as WantedInfo, Symbol}

-- a message of this instance brings this info or this symbol of its object
abbrev pub Brings : ℕ → Want → Message → Type 0
Brings instance (WantedInfo index) (Info m) = m.head.instance ≡ instance
Brings instance (Symbol at) (Data m) = (m.head.instance ≡ instance) × (m.id.block ≡ at.block) × (m.id.symbol ≡ at.symbol)
Brings instance w m = ⊥

-- a datagram is such a message, with the id of the object's index
pub record Carries (instance : ℕ) (datagram : Written) (w : Want) : Type 0 where
  pub written : datagram ≡ writes datagram.message (want_index w ∷ [])
  pub brings : Brings instance w datagram.message

-- What becomes of a want in a step: it is one still; the step sends it; it lies before the drop point then, and a squelch is due; or
-- another instance begins.
pub data Fate (s : SenderState) (step : SenderState × SenderAnswer) (w : Want) : Type 0 where
  Stays : Contains step.0.wants w → Fate s step w
  Goes : (datagram : Written) → step.1 ≡ Sent (Some datagram) → Carries s.current.id datagram w → Fate s step w
  Drops : stands_behind step.0.current.drop w ≡ false → step.0.squelch_due ≡ true → Fate s step w
  Ends : step.0.earlier ≡ instances s → Fate s step w

-- so it is of each want, in each step from each state
abbrev pub NoneForgotten : Type 0
NoneForgotten = (p : Settings) (s : SenderState) (event : SenderEvent) (w : Want) → Contains s.wants w → Fate s (sender_step p s event) w
