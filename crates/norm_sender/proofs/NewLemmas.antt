-- What is new next is an info or an encoded symbol of an object of the window.
use Rattle.std.proofs.Common.{◌≡◌, Some}
use Rattle.norm_base.specs.Settings.{Settings, InRange}
use Rattle.norm_send_rules.specs.SenderState.{SenderState}
use Rattle.norm_send_rules.specs.Sending.{next_new}
use Rattle.norm_send_rules.specs.declared.want.Want.{Want}
use Rattle.norm_send_rules.proofs.NewLemmas.{new_laws}
use Rattle.norm_sender.specs.Wanted.{IsValid}

pub next_valid : (p : Settings) → InRange p → (s : SenderState) (w : Want) → next_new p s ≡ Some w → IsValid p s w
next_valid p range s w e = record { of_order = new_laws.of_order p s w range e; behind = new_laws.in_window p s w e }

-- which does not depend on what is next
pub valid_on : (p : Settings) (s : SenderState) (w next : Want) → IsValid p s w → IsValid p (record s { next = next }) w
valid_on p s w next v = record { of_order = v.of_order; behind = v.behind }
