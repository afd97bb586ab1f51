-- An accepted event is what it is in the world.
use Rattle.std.proofs.Common.{◌≡◌, ℕ, List, [], ◌∷◌, Bool, true, false, Option, None, Some, Result, Err, refl, sym, ap, subst, ◌∙◌}
use Rattle.std.specs.Prelude.{◌==◌, option_and_then}
use Rattle.std.specs.Option.{option_map, option_to_list}
use Rattle.std.proofs.lemmas.Option.{none-some, same_Some, option_and_then_some}
use Rattle.std.proofs.lemmas.List.Sums.{fold-append}
use Rattle.norm_base.specs.Settings.{Settings}
use Rattle.norm_base.specs.declared.node.Origin.{Origin}
use Rattle.norm_base.specs.declared.kinds.Sent.{Sent}
use Rattle.norm_order.specs.declared.up.Up.{Up}
use Rattle.norm_script.specs.declared.script.Line.{Line}
use Rattle.norm_send_rules.specs.declared.job.Job.{Job}
use Rattle.norm_send_rules.specs.declared.job.Receipt.{Receipt}
use Rattle.norm_send_rules.specs.declared.fault.SendFault.{SendFault}
use Rattle.norm_send_rules.specs.declared.news.News.{News}
use Rattle.norm_safety.specs.Events.{Event as WorldEvent, Commanded, Delivered, Ticked, Offered, UpTaken, NewsAsked, Answer, Gave, Sent as Gives, Took, Told, Silent}
use Rattle.norm_safety.specs.World.{World}
use Rattle.norm_safety.specs.WorldStep.{world_step, run_from}
use Rattle.norm_journal.specs.declared.event.Event.{Event}
use Rattle.norm_journal.specs.declared.event.Event.TheVariants as event
use Rattle.norm_journal.specs.Accepting.{accepts, accepts_news, accepts_next, told_of, judged_from}
use Rattle.norm_journal.specs.Commands.{offered, offers, line_pulled, pulls_at, telling, repeating, gives, repeats, jobs_at, refuses, lengths_at}
use Rattle.norm_journal.specs.Draws.{next_draw, draws_after}
use Rattle.norm_journal.specs.InWorld.{world_after, answer_to, at, comes}
use Rattle.norm_journal.specs.Jobs.{file_of_length}
use Rattle.norm_journal.specs.Judged.{Judged, news_due, is_done}
use Rattle.norm_journal.specs.Laws.{MovesTheWorld}
use Rattle.norm_journal.specs.Places.{Place, Starting, Between, Pulling, Sending, Offering, Taking, Handing}
use Rattle.norm_journal.specs.Pulling.{pulled}
use Rattle.norm_journal.specs.Same.{same_answer, same_sent}
use Rattle.norm_journal.specs.Takes.{takes_at, finds_none_at, is_receiver}
use Rattle.norm_journal.specs.Ticks.{gave_datagram, tick_of, ticks_at, offers_at, handed, ups_at}
use Rattle.norm_journal.specs.Turns.{starts_at, turns_at, ends_at}
use Rattle.norm_journal.specs.WorldEvents.{job_at, delivery, world_event, world_events}

-- the world after an event that may be none
abbrev moved : Judged → Option WorldEvent → World
moved j o = run_from j.profile j.world (option_to_list o)

-- the nodes are in this world then, under the same profile
record IsIn (p : Settings) (w : World) (next : Judged) : Type 0 where
  profile : p ≡ next.profile
  world : w ≡ next.world

-- whatever the judge answers is in the world that the event leads to
abbrev Moves : Judged → Option WorldEvent → Option Judged → Type 0
Moves j o after = (next : Judged) → after ≡ Some next → IsIn j.profile (moved j o) next

no_event : (j : Judged) (o : Option WorldEvent) → Moves j o None
no_event j o next e = absurd (none-some next e)

this : (j x : Judged) (o : Option WorldEvent) → IsIn j.profile (moved j o) x → Moves j o (Some x)
this j x o is next e = subst (λ y. IsIn j.profile (moved j o) y) (same_Some x next e) is

when : (b : Bool) (j : Judged) (o : Option WorldEvent) (after : Option Judged) → Moves j o after → Moves j o (elim b [ true ↦ after | false ↦ None ])
when true j o after moves = moves
when false j o after moves = no_event j o

then : (f : Judged → Judged) (j : Judged) (o : Option WorldEvent) (after : Option Judged)
    → ((x : Judged) → IsIn x.profile x.world (f x)) → Moves j o after → Moves j o (option_map f after)
then f j o None same moves next e = absurd (none-some next e)
then f j o (Some x) same moves next e =
    let was = moves x refl in
    subst (λ y. IsIn j.profile (moved j o) y) (same_Some (f x) next e)
    (record { profile = was.profile ∙ (same x).profile; world = was.world ∙ (same x).world })

-- an event that the world answers
comes_moves : (e : WorldEvent) (answer : Answer) (j : Judged) → Moves j (Some e) (comes e answer j)
comes_moves e answer j =
    when (same_answer (answer_to e j) answer) j (Some e) (Some (world_after e j))
    (this j (world_after e j) (Some e) (record { profile = refl; world = refl }))

-- one that the world does not have
stays : (j x : Judged) → IsIn j.profile j.world x → Moves j None (Some x)
stays j x is = this j x None is

same : (j x : Judged) → j.profile ≡ x.profile → j.world ≡ x.world → IsIn j.profile j.world x
same j x p w = record { profile = p; world = w }

starts_move : (place : Place) (j : Judged) → Moves j None (starts_at place j)
starts_move Starting j = stays j _ (same j _ refl refl)
starts_move _ j = no_event j None

turns_move : (place : Place) (j : Judged) (turn now : ℕ) → Moves j None (turns_at place j turn now)
turns_move Between j turn now = when _ j None _ (stays j _ (same j _ refl refl))
turns_move _ j turn now = no_event j None

ends_move : (place : Place) (j : Judged) → Moves j None (ends_at place j)
ends_move Between j = when (is_done j) j None _ (stays j _ (same j _ refl refl))
ends_move _ j = no_event j None

pulled_moves : (j : Judged) (o : Option (Line × List Line)) → Moves j None (option_map (line_pulled j) o)
pulled_moves j None = no_event j None
pulled_moves j (Some found) = stays j _ (same j _ refl refl)

pulls_move : (place : Place) (j : Judged) (by : Origin) → Moves j None (pulls_at place j by)
pulls_move Pulling j by = pulled_moves j (pulled by j.left)
pulls_move _ j by = no_event j None

through : {X : Type 0} (f : X → Option Judged) (j : Judged) (o : Option WorldEvent) (found : Option X) → ((x : X) → found ≡ Some x → Moves j o (f x))
    → Moves j o (option_and_then f found)
through f j o None moves = no_event j o
through f j o (Some x) moves = moves x refl

offers_move : (line : Line) (by : Origin) (job : Job) (gave : Result Receipt SendFault) (j : Judged)
    → Moves j (Some (Commanded by job j.now)) (offers line by job gave j)
offers_move line by job gave j =
    then (offered line gave) j (Some (Commanded by job j.now)) (comes (Commanded by job j.now) (Gave gave) j) (λ x. same x _ refl refl)
    (comes_moves (Commanded by job j.now) (Gave gave) j)

-- what an offer of a command is in the world
abbrev command : Place → Judged → Origin → Option Job → Option WorldEvent
command place j by job = option_map (λ (job : Job). Commanded by job j.now) (job_at place job)

-- what another offer of a known command is there
abbrev known_command : Judged → Origin → Option (Line × Job) → Option WorldEvent
known_command j by found = option_map (λ (job : Job). Commanded by job j.now) (option_map (λ (known : Line × Job). known.1) found)

jobs_move : (place : Place) (j : Judged) (by : Origin) (job : Option Job) (gave : Result Receipt SendFault)
    → Moves j (command place j by job) (jobs_at place j by job gave)
jobs_move place j by (Some job) gave =
    through (λ line. gives line by job gave j) j (Some (Commanded by job j.now)) (telling place) (λ line is.
    when _ j (Some (Commanded by job j.now)) _ (offers_move line by job gave j))
jobs_move place j by None gave =
    through (λ (known : Line × Job). repeats known by gave j) j (known_command j by (repeating place)) (repeating place) (λ known is.
    subst (λ found. Moves j (known_command j by found) (repeats known by gave j)) (sym is)
    (when _ j (Some (Commanded by known.1 j.now)) _ (offers_move known.0 by known.1 gave j)))

lengths_move : (place : Place) (j : Judged) (by : Origin) (name : List ℕ) (len : ℕ) (fault : SendFault)
    → Moves j (Some (Commanded by (file_of_length name len) j.now)) (lengths_at place j by name len fault)
lengths_move place j by name len fault =
    through (λ line. refuses line by name len fault j) j (Some (Commanded by (file_of_length name len) j.now)) (telling place) (λ line is.
    when _ j (Some (Commanded by (file_of_length name len) j.now)) _ (offers_move line by (file_of_length name len) (Err fault) j))

gave_moves : (node : ℕ) (sent : Sent) (next : Place) (answer : Answer) (e : WorldEvent) (j : Judged)
    → Moves j (Some e) (gave_datagram node sent next answer (world_after e j))
gave_moves node sent next (Gives datagram) e j =
    when (same_sent sent datagram) j (Some e) _ (this j _ (Some e) (record { profile = refl; world = refl }))
gave_moves node sent next (Gave result) e j = no_event j (Some e)
gave_moves node sent next (Took up) e j = no_event j (Some e)
gave_moves node sent next (Told news) e j = no_event j (Some e)
gave_moves node sent next Silent e j = no_event j (Some e)

tick_moves : (due : ℕ) (next : Place) (j : Judged) (node : ℕ) (sent : Sent) → Moves j (Some (Ticked node j.now)) (tick_of due next j node sent)
tick_moves due next j node sent =
    when _ j (Some (Ticked node j.now)) _ (gave_moves node sent next (answer_to (Ticked node j.now) j) (Ticked node j.now) j)

ticks_move : (place : Place) (j : Judged) (node : ℕ) (sent : Sent) → Moves j (Some (Ticked node j.now)) (ticks_at place j node sent)
ticks_move Sending j node sent = tick_moves _ _ j node sent
ticks_move (Handing due nodes) j node sent = tick_moves due _ j node sent
ticks_move _ j node sent = no_event j (Some (Ticked node j.now))

offers_at_move : (place : Place) (j : Judged) (from : ℕ) (octets : List ℕ) → Moves j (Some (Offered from octets)) (offers_at place j from octets)
offers_at_move (Offering node datagram next) j from octets =
    when _ j (Some (Offered from octets)) _ (then (at next) j (Some (Offered from octets)) (comes (Offered from octets) Silent j) (λ x. same x _ refl refl)
    (comes_moves (Offered from octets) Silent j))
offers_at_move _ j from octets = no_event j (Some (Offered from octets))

-- who a taken datagram is for decides what comes in the world, and what the judge has then
abbrev either : {X : Type 0} → Bool → Bool → X → X → X → X
either sender receiver a b c = elim sender [ true ↦ a | false ↦ elim receiver [ true ↦ b | false ↦ c ] ]

takes_move_by : (sender receiver : Bool) (place : Place) (j a b : Judged) (e f : WorldEvent)
    → IsIn j.profile (moved j (Some e)) a → IsIn j.profile (moved j (Some f)) b
    → IsIn j.profile (moved j (either sender receiver (Some e) (Some f) None)) (at place (either sender receiver a b j))
takes_move_by true receiver place j a b e f x y = record { profile = x.profile; world = x.world }
takes_move_by false true place j a b e f x y = record { profile = y.profile; world = y.world }
takes_move_by false false place j a b e f x y = record { profile = refl; world = refl }

takes_move : (place : Place) (j : Judged) (node : ℕ) (octets : List ℕ) → Moves j (delivery j node octets) (takes_at place j node octets)
takes_move (Taking taken) j node octets =
    this j _ (delivery j node octets)
    (takes_move_by (node == j.profile.sender) (is_receiver j node) _ j
    (world_after (Delivered node octets j.now 0) j)
    (record (world_after (Delivered node octets j.now (next_draw j.draws)) j) { draws = draws_after j.draws })
    (Delivered node octets j.now 0) (Delivered node octets j.now (next_draw j.draws))
    (record { profile = refl; world = refl }) (record { profile = refl; world = refl }))
takes_move _ j node octets = no_event j (delivery j node octets)

none_moves : (place : Place) (j : Judged) → Moves j None (finds_none_at place j)
none_moves (Taking taken) j = stays j _ (same j _ refl refl)
none_moves _ j = no_event j None

ups_move : (place : Place) (j : Judged) (node instance : ℕ) (up : Up) → Moves j (Some (UpTaken node)) (ups_at place j node instance up)
ups_move (Handing due nodes) j node instance up =
    when _ j (Some (UpTaken node)) _ (then (handed up) j (Some (UpTaken node)) (comes (UpTaken node) (Took (Some up)) j) (λ x. same x _ refl refl)
    (comes_moves (UpTaken node) (Took (Some up)) j))
ups_move _ j node instance up = no_event j (Some (UpTaken node))

next_moves : (j : Judged) (e : Event) → Moves j (world_event j e) (accepts_next j e)
next_moves j event.Start = starts_move j.place j
next_moves j (event.Turn turn now) = turns_move j.place j turn now
next_moves j (event.Pull by) = pulls_move j.place j by
next_moves j (event.Job by job gave) = jobs_move j.place j by job gave
next_moves j (event.Length by name len fault) = lengths_move j.place j by name len fault
next_moves j (event.Tick node sent) = ticks_move j.place j node sent
next_moves j (event.Offer from octets) = offers_at_move j.place j from octets
next_moves j (event.Took to octets) = takes_move j.place j to octets
next_moves j event.Empty = none_moves j.place j
next_moves j (event.Up node instance up) = ups_move j.place j node instance up
next_moves j (event.News news) = no_event j (Some NewsAsked)
next_moves j event.End = ends_move j.place j

news_moves : (j : Judged) (e : Event) → Moves j (world_event j e) (accepts_news j e)
news_moves j (event.News news) =
    then (told_of news) j (Some NewsAsked) (comes NewsAsked (Told (Some news)) j) (λ x. same x _ refl refl) (comes_moves NewsAsked (Told (Some news)) j)
news_moves j event.Start = no_event j (world_event j event.Start)
news_moves j (event.Turn turn now) = no_event j (world_event j (event.Turn turn now))
news_moves j (event.Pull by) = no_event j (world_event j (event.Pull by))
news_moves j (event.Job by job gave) = no_event j (world_event j (event.Job by job gave))
news_moves j (event.Length by name len fault) = no_event j (world_event j (event.Length by name len fault))
news_moves j (event.Tick node sent) = no_event j (world_event j (event.Tick node sent))
news_moves j (event.Offer from octets) = no_event j (world_event j (event.Offer from octets))
news_moves j (event.Took to octets) = no_event j (world_event j (event.Took to octets))
news_moves j event.Empty = no_event j (world_event j event.Empty)
news_moves j (event.Up node instance up) = no_event j (world_event j (event.Up node instance up))
news_moves j event.End = no_event j (world_event j event.End)

event_moves_by : (j : Judged) (e : Event) (due : Option News)
    → Moves j (world_event j e) (elim due [ Some news ↦ accepts_news j e | None ↦ accepts_next j e ])
event_moves_by j e (Some news) = news_moves j e
event_moves_by j e None = next_moves j e

pub event_moves : (j : Judged) (e : Event) (next : Judged) → accepts j e ≡ Some next
    → (j.profile ≡ next.profile) × (run_from j.profile j.world (option_to_list (world_event j e)) ≡ next.world)
event_moves j e next is = let there = event_moves_by j e (news_due j) next is in (there.profile, there.world)

-- the events after one that was accepted
abbrev after_that : Option Judged → List Event → List WorldEvent
after_that o events = elim o [ Some next ↦ world_events next events | None ↦ [] ]

pub moves_world : MovesTheWorld
unfolding judged_from world_events
moves_world j last [] is = ap (λ (x : Judged). x.world) (same_Some j last is)
moves_world j last (e ∷ events) is = option_and_then_some (λ next. judged_from next events) (accepts j e) last is (λ next comes more.
    let there = event_moves j e next comes in
    fold-append (λ w x. (world_step j.profile w x).0) j.world (option_to_list (world_event j e)) (after_that (accepts j e) events)
    ∙ ap (λ w. run_from j.profile w (after_that (accepts j e) events)) there.1
    ∙ ap (λ p. run_from p next.world (after_that (accepts j e) events)) there.0
    ∙ ap (λ o. run_from next.profile next.world (after_that o events)) comes
    ∙ moves_world next last events more)
