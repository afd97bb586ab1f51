-- A relay hands on below what it was handed up.
use Rattle.std.proofs.Common.{◌≡◌, ℕ, List, [], ◌∷◌, ◌++◌, Bool, true, false, Option, None, Some, sym, subst}
use Rattle.std.specs.Prelude.{IfSome}
use Rattle.norm_order.specs.declared.up.Up.{Up}
use Rattle.norm_relay.specs.HandLaws.{handed_in, HandsIn, AreFresh, HandsOnInRuns}
use Rattle.norm_relay.specs.Handing.{IsLawfulSide}
use Rattle.norm_relay.specs.OrderLaws.{AreNamed, AreNamedAlong}
use Rattle.norm_relay.specs.RelayState.{Relaying, relay_opening, upper_instance}
use Rattle.norm_relay.specs.RelayStep.{RelayEvent, relay_step, relay_from}
use Rattle.norm_relay.proofs.FreshLemmas.{back_from, fresh_run, hands_whole}
use Rattle.norm_relay.proofs.HandLemmas.{core_of, Handed, step_handed, begins_handed}
use Rattle.norm_relay.proofs.NamedLemmas.{rest_named, hands_named}
use Rattle.norm_relay.proofs.NewLemmas.{relays_member}
use Rattle.norm_relay.proofs.StepLemmas.{lower_order}

-- what waits was handed up
pub waiting_named : (anew : Bool) (handed : ℕ → List Up) (done waiting : List Up) (i : Option ℕ) → ((id : ℕ) → AreNamed (handed id))
    → HandsIn anew handed done waiting i → AreNamed waiting
waiting_named anew handed done waiting None named at = subst AreNamed (sym at.1) tt
waiting_named false handed done waiting (Some id) named at = rest_named done waiting (subst AreNamed at (named id))
waiting_named true handed done waiting (Some id) named at = subst AreNamed at (named id)

all_named : (x : Relaying) (events : List RelayEvent) → AreFresh x events → Handed (core_of x) → IsLawfulSide (relay_from x events).upper → AreNamedAlong x events
all_named x [] fresh h lawful = tt
all_named x (e ∷ events) fresh h lawful = (
  waiting_named x.anew (handed_in x.upper x.node) x.done x.waiting h.state.instance
      (λ id. hands_named x.upper x.node id ((back_from x (e ∷ events)).lawful lawful)) h.handed,
  all_named (relay_step x e).0 events fresh.1 (step_handed x e fresh.0 h) lawful,
)

pub hands_on : HandsOnInRuns
hands_on up node down events fits lawful =
    let x : Relaying = relay_from (relay_opening up node down) events in
    let named =
    all_named (relay_opening up node down) events (fresh_run up node down events fits lawful) (begins_handed up node down (relays_member up node down fits)) lawful in
    record {
      order = (lower_order up node down events named).order;
      whole = λ begun. go (upper_instance x)
          (subst (λ a. HandsIn a (handed_in x.upper x.node) x.done x.waiting (upper_instance x)) begun (hands_whole up node down events fits lawful));
    }
  where
    y : Relaying
    y = relay_from (relay_opening up node down) events

    go : (i : Option ℕ) → HandsIn false (handed_in y.upper y.node) y.done y.waiting i → IfSome i (λ id. handed_in y.upper y.node id ≡ y.done ++ y.waiting)
    go None at = tt
    go (Some id) at = at
