-- Nodes that are led by calls stand for a world of the rules.
use Rattle.std.proofs.Common.{◌≡◌, Result, Ok, Err, refl, sym, ◌∙◌, subst}
use Rattle.std.specs.Prelude.{◌≢◌, IfOk, OnErr}
use Rattle.norm_base.specs.Settings.{Settings}
use Rattle.norm_safety.specs.Events.{Event, Answer}
use Rattle.norm_safety.specs.WorldStep.{world_step}
use Rattle.norm_send_rules.specs.declared.fault.SendFault.{SendFault}
use Rattle.norm_send_rules.specs.declared.fault.SendFault.TheVariants as send
use Rattle.norm_send_rules.specs.declared.job.Receipt.{Receipt}
use Rattle.norm_world.specs.WorldKept.{WorldKept, IsReady}
use Rattle.norm_world.specs.WorldMoves.{IsEvent, IsNoEvent}
use Rattle.tests_nodes.specs.Leading.{IsLed}

-- by an event
pub led_on : (p : Settings) (old new : WorldKept) (e : Event) (Fits : Answer → Type 0) → IsLed p old → new.p ≡ old.p → IsReady new
    → IsEvent old new e Fits → IsLed p new
led_on p old new e Fits h same ready event = record {
  profile = same ∙ h.profile;
  ready = ready;
  rules = (world_step old.p h.rules e).0;
  stands = (event.steps h.rules h.stands).0;
}

-- by no event
pub led_still : (p : Settings) (old new : WorldKept) → IsLed p old → new.p ≡ old.p → IsReady new → IsNoEvent old new → IsLed p new
led_still p old new h same ready none = record { profile = same ∙ h.profile; ready = ready; rules = h.rules; stands = none h.rules h.stands }

-- by one or the other
pub led_or_not : {X Y : Type 0} (p : Settings) (old new : WorldKept) (e : Event) (Fits : Answer → Type 0) (r : Result X Y) → IsLed p old → new.p ≡ old.p
    → IsReady new → IfOk r (λ _. IsEvent old new e Fits) → OnErr r (IsNoEvent old new) → IsLed p new
led_or_not p old new e Fits (Ok done) h same ready event still = led_on p old new e Fits h same ready event
led_or_not p old new e Fits (Err why) h same ready event still = led_still p old new h same ready still

-- by a command, or by none without memory
pub led_by : (p : Settings) (old new : WorldKept) (e : Event) (Fits : Answer → Type 0) (a : Result Receipt SendFault) → IsLed p old → new.p ≡ old.p
    → IsReady new → (a ≢ Err send.Memory → IsEvent old new e Fits) → (a ≡ Err send.Memory → new ≡ old) → IsLed p new
led_by p old new e Fits a h same ready event still = go a event still
  where
    on : IsEvent old new e Fits → IsLed p new
    on = led_on p old new e Fits h same ready

    go : (a : Result Receipt SendFault) → (a ≢ Err send.Memory → IsEvent old new e Fits) → (a ≡ Err send.Memory → new ≡ old) → IsLed p new
    go (Ok receipt) event still = on (event (λ e. cc))
    go (Err (send.Enqueue why)) event still = on (event (λ e. cc))
    go (Err (send.Mark why)) event still = on (event (λ e. cc))
    go (Err (send.Strike why)) event still = on (event (λ e. cc))
    go (Err (send.IdUsed instance)) event still = on (event (λ e. cc))
    go (Err send.Memory) event still = subst (IsLed p) (sym (still refl)) h
