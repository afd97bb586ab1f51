-- What a journal means to the nodes: its events in their world, in order.
use Rattle.std.specs.Prelude.{ℕ, ◌==◌, ◌≤◌, List, [], ◌∷◌, ◌++◌, map, count_by, true, false, Option, None, Some, IfSome, ⊤}
use Rattle.std.specs.Option.{option_map, option_to_list}
use Rattle.norm_base.specs.declared.node.Origin.{Origin}
use Rattle.norm_script.specs.declared.script.Line.{Line}
use Rattle.norm_send_rules.specs.declared.job.Job.{Job}
use Rattle.norm_safety.specs.Events.{Event as WorldEvent, Commanded, Delivered, Ticked, Offered, UpTaken, NewsAsked}
use Rattle.norm_safety.specs.Lawful.{same_origin}
use Rattle.norm_journal.specs.declared.event.Event.{Event}
use Rattle.norm_journal.specs.declared.event.Event.TheVariants as event
use Rattle.norm_journal.specs.Accepting.{accepts}
use Rattle.norm_journal.specs.Commands.{repeating}
use Rattle.norm_journal.specs.Direct.{IsDirect, taken_with}
use Rattle.norm_journal.specs.Draws.{next_draw}
use Rattle.norm_journal.specs.Honest.{IsHonest}
use Rattle.norm_journal.specs.Jobs.{file_of_length}
use Rattle.norm_journal.specs.Judged.{Judged}
use Rattle.norm_journal.specs.Places.{Place}
use Rattle.norm_journal.specs.Pulling.{origin_of}
use Rattle.norm_journal.specs.Takes.{is_receiver}

-- the job that is offered: the one that came with the event, or that of the command which waited
abbrev pub job_at : Place → Option Job → Option Job
job_at place None = option_map (λ (known : Line × Job). known.1) (repeating place)
job_at place (Some job) = Some job

-- a take's delivery, where the run has its node
abbrev pub delivery : Judged → ℕ → List ℕ → Option WorldEvent
delivery j node octets = elim (node == j.profile.sender) [
  | true ↦ Some (Delivered node octets j.now 0)
  | false ↦ elim (is_receiver j node) [ true ↦ Some (Delivered node octets j.now (next_draw j.draws)) | false ↦ None ]
]

-- what an event is in the world, if it is anything there
abbrev pub world_event : Judged → Event → Option WorldEvent
world_event j (event.Job by job gave) = option_map (λ (job : Job). Commanded by job j.now) (job_at j.place job)
world_event j (event.Length by name len fault) = Some (Commanded by (file_of_length name len) j.now)
world_event j (event.Tick node sent) = Some (Ticked node j.now)
world_event j (event.Offer from octets) = Some (Offered from octets)
world_event j (event.Took to octets) = delivery j to octets
world_event j (event.Up node instance up) = Some (UpTaken node)
world_event j (event.News news) = Some NewsAsked
world_event j _ = None

-- the world's events of a journal from a state on
unfoldable pub world_events : Judged → List Event → List WorldEvent
world_events j [] = []
world_events j (e ∷ events) =
    option_to_list (world_event j e) ++ elim (accepts j e) [ Some next ↦ world_events next events | None ↦ [] ]

-- each take of a journal is one that an honest network may give
unfoldable pub TakesHonestly : Judged → List Event → Type 0
TakesHonestly j [] = ⊤
TakesHonestly j (e ∷ events) = IsHonest j e × IfSome (accepts j e) (λ next. TakesHonestly next events)

-- each take of a journal is one that a direct network may give, after this many copies
unfoldable pub TakesDirectly : ℕ → Judged → List Event → Type 0
TakesDirectly taken j [] = ⊤
TakesDirectly taken j (e ∷ events) = IsDirect taken j e × IfSome (accepts j e) (λ next. TakesDirectly (taken_with taken e) next events)

-- this many copies were taken with these events
unfoldable pub taken_after : ℕ → List Event → ℕ
taken_after taken [] = taken
taken_after taken (e ∷ events) = taken_after (taken_with taken e) events

-- each command has a name of its own
abbrev pub NamedOnce : List Line → Type 0
NamedOnce lines = (by : Origin) → count_by (same_origin by) (map origin_of lines) ≤ 1
