-- What a receiver stands for after each of its calls.
use Rattle.std.proofs.Common.{◌≡◌, ℕ, List, Option, Some, None, true, refl, subst, ap, ◌∙◌}
use Rattle.std.specs.Prelude.{Result, Ok, Err, IfOk, OnErr, IfSome, IsSome}
use Rattle.norm_base.specs.Settings.{Settings}
use Rattle.norm_order.specs.declared.up.Up.{Up}
use Rattle.norm_receive_rules.specs.Holding.{Holding, holding_nothing}
use Rattle.norm_receive_rules.specs.Laws.{HoldsNothingOutside}
use Rattle.norm_receive_rules.specs.ReceiverState.{ReceiverState}
use Rattle.norm_receive_rules.specs.ReceiverStep.{Delivered, UpTaken}
use Rattle.norm_receive_rules.specs.Receiving.{received}
use Rattle.norm_receive_rules.specs.Taking.{took, up_taken}
use Rattle.norm_receive_rules.specs.Wanting.{may_want}
use Rattle.norm_receive_rules.proofs.StepLemmas.{step_laws}
use Rattle.norm_receiver.specs.ReceiverKept.{ReceiverKept, Stands}
use Rattle.norm_receiver.specs.ReceiverSound.{StandsFor, ReceiverSound}

-- a datagram that is taken in
pub takes_in : (k new : ReceiverKept) (bytes : List ℕ) (now draw : ℕ) (s : ReceiverState) → Stands new (received k.p s bytes now draw) → HoldsNothingOutside s
    → StandsFor new (received k.p s bytes now draw)
takes_in k new bytes now draw s after outside = record { agrees = after; outside = step_laws.goes_on k.p s (Delivered bytes now draw) outside }

-- the same, where it was not refused
pub delivered : {T E : Type 0} (r : Result T E) (k v new : ReceiverKept) (bytes : List ℕ) (now draw : ℕ) → k ≡ v
    → IfOk r (λ _. (s : ReceiverState) → Stands k s → Stands new (received k.p s bytes now draw))
    → IfOk r (λ _. (s : ReceiverState) → StandsFor v s → StandsFor new (received v.p s bytes now draw))
delivered (Err e) k v new bytes now draw same h = h
delivered (Ok t) k v new bytes now draw same h =
    subst (λ (v : ReceiverKept). (s : ReceiverState) → StandsFor v s → StandsFor new (received v.p s bytes now draw)) same
    (λ s stands. takes_in k new bytes now draw s (h s stands.agrees) stands.outside)

-- a datagram that is refused
pub refused : {T E : Type 0} (r : Result T E) (k v new : ReceiverKept) → k ≡ v
    → OnErr r ((s : ReceiverState) → Stands k s → Stands new s) → OnErr r ((s : ReceiverState) → StandsFor v s → StandsFor new s)
refused (Ok t) k v new same h = h
refused (Err e) k v new same h =
    subst (λ (v : ReceiverKept). (s : ReceiverState) → StandsFor v s → StandsFor new s) same
    (λ s stands. record { agrees = h s stands.agrees; outside = stands.outside })

-- the same is one for which memory may be wanted
pub wanted : {T E : Type 0} (r : Result T E) (k v : ReceiverKept) (bytes : List ℕ) → k ≡ v
    → OnErr r ((s : ReceiverState) → Stands k s → may_want k.p s bytes ≡ true) → OnErr r ((s : ReceiverState) → StandsFor v s → may_want v.p s bytes ≡ true)
wanted (Ok t) k v bytes same h = h
wanted (Err e) k v bytes same h =
    subst (λ (v : ReceiverKept). (s : ReceiverState) → StandsFor v s → may_want v.p s bytes ≡ true) same (λ s stands. h s stands.agrees)

-- a receiver stands for some state after either
pub sound_after : {T E : Type 0} (r : Result T E) (k new : ReceiverKept) (bytes : List ℕ) (now draw : ℕ)
    → IfOk r (λ _. (s : ReceiverState) → Stands k s → Stands new (received k.p s bytes now draw))
    → OnErr r ((s : ReceiverState) → Stands k s → Stands new s) → ReceiverSound k → ReceiverSound new
sound_after (Ok t) k new bytes now draw h err sound = record {
  state = received k.p sound.state bytes now draw;
  stands = takes_in k new bytes now draw sound.state (h sound.state sound.stands.agrees) sound.stands.outside;
}
sound_after (Err e) k new bytes now draw h err sound =
    record { state = sound.state; stands = record { agrees = err sound.state sound.stands.agrees; outside = sound.stands.outside } }

-- a hand-up that is taken
pub takes_up : (p : Settings) (new : ReceiverKept) (s : ReceiverState) → Stands new (took s).0 → HoldsNothingOutside s → StandsFor new (took s).0
takes_up p new s after outside = record { agrees = after; outside = step_laws.goes_on p s UpTaken outside }

-- a hand-up is of an instance
in_some : (s : ReceiverState) (up : Up) → Some up ≡ (took s).1 → HoldsNothingOutside s → IsSome s.instance
in_some s up is outside = go s.instance outside
  where
    none : s.holding ≡ holding_nothing → Some up ≡ None
    none e = is ∙ ap (λ (h : Holding). (up_taken h).1) e

    never : Some up ≡ None → ⊥
    never e = cc

    go : (current : Option ℕ) → (current ≡ None → s.holding ≡ holding_nothing) → IsSome current
    go (Some current) h = refl
    go None h = absurd (never (none (h refl)))

pub given_in : (given : Option Up) (k v : ReceiverKept) → k ≡ v → ((s : ReceiverState) → Stands k s → given ≡ (took s).1)
    → IfSome given (λ _. (s : ReceiverState) → StandsFor v s → IsSome s.instance)
given_in None k v same is = tt
given_in (Some up) k v same is =
    subst (λ (v : ReceiverKept). (s : ReceiverState) → StandsFor v s → IsSome s.instance) same (λ s stands. in_some s up (is s stands.agrees) stands.outside)
