use Rattle.std.proofs.Common.{◌≡◌, ℕ, Result, Ok, Err, refl, sym, subst}
use Rattle.std.specs.Prelude.{IfOk, IsErr}
use Rattle.norm_base.specs.declared.node.Origin.{Origin}
use Rattle.norm_send_rules.specs.SenderState.{SenderState}
use Rattle.norm_send_rules.specs.Streaming.{opened}
use Rattle.norm_send_rules.specs.declared.fault.EnqueueFault.{EnqueueFault}
use Rattle.tx_window.specs.Standing.{IsStanding}
use Rattle.tx_window.specs.Taking.{IsOpened}
use Rattle.tx_window.specs.WindowState.{WindowState, Stands}
use Rattle.tests_sender_parts.proofs.window_steps.Standing.open_stream.Goals as goal

stays : (w new : WindowState) (r : Result ℕ EnqueueFault) → IsStanding w
    → IfOk r (λ index. (s : SenderState) (by : Origin) → Stands w s → IsOpened w.p s by index new) → (IsErr r → new ≡ w)
    → new.filling ≡ Rattle.std.specs.Prelude.None → IsStanding new
stays w new (Ok index) h opens same none =
    let by : Origin = record { producer = 1; number = 1 } in
    record { state = (opened w.p h.state by).0; stands = (opens h.state by h.stands).stands; filling = none }
stays w new (Err fault) h opens same none = subst IsStanding (sym (same refl)) h

pub invariant_of-self : goal.invariant_of-self
invariant_of-self c =
    stays c.self.inside.window c.open_stream.new.self c.open_stream.result c.self.invariant
    c.open_stream.ensures.opened c.open_stream.ensures.same c.open_stream.ensures.finished
