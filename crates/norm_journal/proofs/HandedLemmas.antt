-- The hand-ups that a journal says are those of its nodes' world.
use Rattle.std.proofs.Common.{◌≡◌, ℕ, List, [], ◌∷◌, ◌++◌, Bool, true, false, Option, None, Some, refl, sym, ap, subst, ◌∙◌}
use Rattle.std.specs.Prelude.{◌==◌, ◌&&◌, flat_map, option_and_then}
use Rattle.std.specs.Option.{option_map, option_to_list}
use Rattle.std.proofs.lemmas.Bool.{eqb-true}
use Rattle.std.proofs.lemmas.Option.{option_and_then_some}
use Rattle.norm_base.specs.declared.node.Origin.{Origin}
use Rattle.norm_order.specs.declared.up.Up.{Up}
use Rattle.norm_receive_rules.specs.Leaving.{is_in}
use Rattle.norm_receive_rules.specs.ReceiverState.{ReceiverState}
use Rattle.norm_send_rules.specs.declared.job.Job.{Job}
use Rattle.norm_safety.specs.Events.{Event as WorldEvent, Commanded, Delivered, UpTaken, Answer, Took}
use Rattle.norm_safety.specs.Hands.{is_at, taken_in, hands, instance_at}
use Rattle.norm_safety.specs.History.{happens}
use Rattle.norm_safety.specs.World.{World, receiver_at}
use Rattle.norm_safety.specs.WorldStep.{run_from}
use Rattle.norm_journal.specs.declared.event.Event.{Event}
use Rattle.norm_journal.specs.declared.event.Event.TheVariants as event
use Rattle.norm_journal.specs.Accepting.{accepts, judged_from}
use Rattle.norm_journal.specs.Draws.{next_draw}
use Rattle.norm_journal.specs.Handed.{up_in, ups_in, SaysTheHands}
use Rattle.norm_journal.specs.InWorld.{answer_to}
use Rattle.norm_journal.specs.Judged.{Judged, judged_opening}
use Rattle.norm_journal.specs.Takes.{is_receiver}
use Rattle.norm_journal.specs.WorldEvents.{job_at, delivery, world_event, world_events}
use Rattle.norm_journal.proofs.FollowLemmas.{judges_what_follows}
use Rattle.norm_journal.proofs.WorldLemmas.{event_moves}

-- what an event of the world, which may be none, takes from a node in an instance
abbrev takes : Judged → ℕ → ℕ → Option WorldEvent → List Up
takes j node id None = []
takes j node id (Some e) = elim (is_at j.world node id) [ true ↦ taken_in node e (answer_to e j) | false ↦ [] ]

nothing : (b : Bool) → ◌≡◌ {A = List Up} (elim b [ true ↦ [] | false ↦ [] ]) []
nothing true = refl
nothing false = refl

-- the instance that a node is in, as a test
at_instance : (w : World) (node instance id : ℕ) → instance_at w node ≡ Some instance → is_at w node id ≡ (instance == id)
at_instance w node instance id e = go (receiver_at w node) e
  where
    none : (x : ℕ) → None ≡ Some x → ⊥
    none x e = cc

    go : (found : Option ReceiverState) → (elim found [ Some r ↦ r.instance | None ↦ None ]) ≡ Some instance
        → (elim found [ Some r ↦ is_in r id | None ↦ false ]) ≡ (instance == id)
    go None e = absurd (none instance e)
    go (Some r) e = ap (λ (o : Option ℕ). elim o [ Some current ↦ current == id | None ↦ false ]) e

up_takes : (j : Judged) (node id other instance : ℕ) (up : Up) → instance_at j.world other ≡ Some instance → answer_to (UpTaken other) j ≡ Took (Some up)
    → takes j node id (Some (UpTaken other)) ≡ up_in node id (event.Up other instance up)
up_takes j node id other instance up within gives =
    ap (λ answer. elim (is_at j.world node id) [ true ↦ taken_in node (UpTaken other) answer | false ↦ [] ]) gives ∙ go (other == node) refl
  where
    here : (b : Bool) → is_at j.world node id ≡ b
        → ◌≡◌ {A = List Up} (elim (is_at j.world node id) [ true ↦ up ∷ [] | false ↦ [] ]) (elim b [ true ↦ up ∷ [] | false ↦ [] ])
    here b e = ap (λ (c : Bool). elim c as (λ _. List Up) [ true ↦ up ∷ [] | false ↦ [] ]) e

    go : (b : Bool) → (other == node) ≡ b
        → ◌≡◌ {A = List Up} (elim (is_at j.world node id) [ true ↦ elim b [ true ↦ up ∷ [] | false ↦ [] ] | false ↦ [] ])
        (elim (b && instance == id) [ true ↦ up ∷ [] | false ↦ [] ])
    go true e =
        let same = eqb-true other node e in
        here (instance == id) (at_instance j.world node instance id (subst (λ n. instance_at j.world n ≡ Some instance) same within))
    go false e = nothing (is_at j.world node id)

command_takes : (j : Judged) (node id : ℕ) (by : Origin) (found : Option Job) → takes j node id (option_map (λ (job : Job). Commanded by job j.now) found) ≡ []
command_takes j node id by None = refl
command_takes j node id by (Some job) = nothing (is_at j.world node id)

delivery_takes : (j : Judged) (node id to : ℕ) (octets : List ℕ) → takes j node id (delivery j to octets) ≡ []
delivery_takes j node id to octets = go (to == j.profile.sender) (is_receiver j to)
  where
    go : (own receives : Bool) → takes j node id (elim own [
      | true ↦ Some (Delivered to octets j.now 0)
      | false ↦ elim receives [ true ↦ Some (Delivered to octets j.now (next_draw j.draws)) | false ↦ None ]
    ]) ≡ []
    go true receives = nothing (is_at j.world node id)
    go false true = nothing (is_at j.world node id)
    go false false = refl

-- an accepted event takes what it says
event_takes : (j next : Judged) (e : Event) (node id : ℕ) → accepts j e ≡ Some next → takes j node id (world_event j e) ≡ up_in node id e
event_takes j next event.Start node id is = refl
event_takes j next (event.Turn turn now) node id is = refl
event_takes j next (event.Pull by) node id is = refl
event_takes j next (event.Job by job gave) node id is = command_takes j node id by (job_at j.place job)
event_takes j next (event.Length by name len fault) node id is = nothing (is_at j.world node id)
event_takes j next (event.Tick n sent) node id is = nothing (is_at j.world node id)
event_takes j next (event.Offer from octets) node id is = nothing (is_at j.world node id)
event_takes j next (event.Took to octets) node id is = delivery_takes j node id to octets
event_takes j next event.Empty node id is = refl
event_takes j next (event.Up other instance up) node id is =
    let handed = ((judges_what_follows j next (event.Up other instance up)).0 is).1 in up_takes j node id other instance up handed.within handed.gives
event_takes j next (event.News news) node id is = nothing (is_at j.world node id)
event_takes j next event.End node id is = refl

-- an event's part of the world, and what follows it
joins : (o : Option WorldEvent) (j next : Judged) (rest : List WorldEvent) (node id : ℕ) → j.profile ≡ next.profile
    → run_from j.profile j.world (option_to_list o) ≡ next.world
    → hands (happens j.profile j.world (option_to_list o ++ rest)) node id ≡ takes j node id o ++ hands (happens next.profile next.world rest) node id
unfolding happens
joins None j next rest node id profile world =
    ap (λ p. hands (happens p j.world rest) node id) profile ∙ ap (λ w. hands (happens next.profile w rest) node id) world
joins (Some e) j next rest node id profile world =
    ap (λ p. takes j node id (Some e) ++ hands (happens p (run_from j.profile j.world (e ∷ [])) rest) node id) profile
    ∙ ap (λ w. takes j node id (Some e) ++ hands (happens next.profile w rest) node id) world

-- the events after one that was accepted
abbrev after_that : Option Judged → List Event → List WorldEvent
after_that o events = elim o [ Some next ↦ world_events next events | None ↦ [] ]

hands_from : (events : List Event) (j last : Judged) (node id : ℕ) → judged_from j events ≡ Some last
    → hands (happens j.profile j.world (world_events j events)) node id ≡ ups_in events node id
unfolding judged_from world_events happens
hands_from [] j last node id is = refl
hands_from (e ∷ events) j last node id is =
    option_and_then_some (λ next. judged_from next events) (accepts j e) last is (λ next comes more.
    let moves = event_moves j e next comes in
    ap (λ o. hands (happens j.profile j.world (option_to_list (world_event j e) ++ after_that o events)) node id) comes
    ∙ joins (world_event j e) j next (world_events next events) node id moves.0 moves.1
    ∙ ap (λ own. own ++ hands (happens next.profile next.world (world_events next events)) node id) (event_takes j next e node id comes)
    ∙ ap (λ later. up_in node id e ++ later) (hands_from events next last node id more))

pub says_the_hands : SaysTheHands
says_the_hands script files nodes events last is node id = sym (hands_from events (judged_opening script files nodes) last node id is)
