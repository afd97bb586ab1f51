-- A journal of a run that persists, in the nodes' world.
use Rattle.std.proofs.Common.{◌≡◌, ◌+◌, List, [], ◌∷◌, Option, None, Some, refl, sym, ap, subst, ◌∙◌, inl, inr}
use Rattle.std.specs.Prelude.{◌⊎◌, ℕ}
use Rattle.std.specs.Option.{option_to_list}
use Rattle.std.proofs.lemmas.Option.{same_Some, option_and_then_some}
use Rattle.std.proofs.lemmas.List.Sums.{fold-append}
use Rattle.norm_safety.specs.Events.{Event as WorldEvent}
use Rattle.norm_safety.specs.WorldStep.{world_step, run_from}
use Rattle.norm_journal.specs.declared.event.Event.{Event}
use Rattle.norm_journal.specs.declared.event.Event.TheVariants as event
use Rattle.norm_journal.specs.InWorld.{at}
use Rattle.norm_journal.specs.Judged.{Judged}
use Rattle.norm_journal.specs.Places.{Over}
use Rattle.norm_journal.specs.Turns.{in_turn}
use Rattle.norm_journal.specs.WorldEvents.{world_event}
use Rattle.norm_journal.proofs.WorldLemmas.{event_moves}
use Rattle.norm_persist.specs.Accepting.{accepts_persisting, persisted_from}
use Rattle.norm_persist.specs.InWorld.{world_events_persisting}
use Rattle.norm_persist.specs.Laws.{PersistingMovesTheWorld}
use Rattle.norm_persist.specs.Persisted.{Persisted, led_to, own_name}
use Rattle.norm_persist.proofs.EventKinds.{Kind, Own, Bound, AsEver, kind_of}

-- the nodes are in the world that an event leads to, under the same profile
record IsThere (x : Persisted) (e : Event) (next : Persisted) : Type 0 where
  profile : x.judged.profile ≡ next.judged.profile
  world : run_from x.judged.profile x.judged.world (option_to_list (world_event x.judged e)) ≡ next.judged.world

kind_moves : (x : Persisted) (e : Event) (next : Persisted) → Kind x e next → IsThere x e next
kind_moves x e next (Own o) =
    let E : Event = event.Job (own_name x) (Some o.own) o.gave in
    subst (λ (f : Event). IsThere x f next) (sym o.event_is)
    (subst (λ (y : Persisted). IsThere x E y) (sym o.then) (record { profile = refl; world = refl }))
kind_moves x e next (Bound b) = subst (λ (y : Persisted). IsThere x e y) (sym b.then) (by b.bound)
  where
    by : ((turn : ℕ) × (now : ℕ) × (e ≡ event.Turn turn now) × (b.after ≡ in_turn turn now x.judged) × (turn ≡ x.judged.turn + 1)) ⊎ ((e ≡ event.End) × (b.after ≡ at Over x.judged))
        → IsThere x e (led_to x e b.after)
    by (inl t) =
        subst (λ (f : Event). IsThere x f (led_to x f b.after)) (sym t.2)
        (subst (λ (j : Judged). IsThere x (event.Turn t.0 t.1) (led_to x (event.Turn t.0 t.1) j)) (sym t.3) (record { profile = refl; world = refl }))
    by (inr t) =
        subst (λ (f : Event). IsThere x f (led_to x f b.after)) (sym t.0)
        (subst (λ (j : Judged). IsThere x event.End (led_to x event.End j)) (sym t.1) (record { profile = refl; world = refl }))
kind_moves x e next (AsEver a) =
    let there = event_moves x.judged e a.after a.accepted in
    subst (λ (y : Persisted). IsThere x e y) (sym a.then) (record { profile = there.0; world = there.1 })

-- the events after one that was accepted
abbrev after_that : Option Persisted → List Event → List WorldEvent
after_that o events = elim o as (λ _. List WorldEvent) [ Some next ↦ world_events_persisting next events | None ↦ [] ]

pub moves_the_world : PersistingMovesTheWorld
unfolding persisted_from world_events_persisting
moves_the_world x last [] is = ap (λ (y : Persisted). y.judged.world) (same_Some x last is)
moves_the_world x last (e ∷ events) is = option_and_then_some (λ next. persisted_from next events) (accepts_persisting x e) last is (λ next comes more.
    let there = kind_moves x e next (kind_of x e next comes) in
    fold-append (λ w y. (world_step x.judged.profile w y).0) x.judged.world (option_to_list (world_event x.judged e)) (after_that (accepts_persisting x e) events)
    ∙ ap (λ w. run_from x.judged.profile w (after_that (accepts_persisting x e) events)) there.world
    ∙ ap (λ p. run_from p next.judged.world (after_that (accepts_persisting x e) events)) there.profile
    ∙ ap (λ o. run_from next.judged.profile next.judged.world (after_that o events)) comes
    ∙ moves_the_world next last events more)
