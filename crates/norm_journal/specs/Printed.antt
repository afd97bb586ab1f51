-- What a journal prints: the line of each event that has one, which the state before it decides.
use Rattle.std.specs.Prelude.{ℕ, List, [], ◌∷◌, ◌++◌, Option, None, Some, option_and_then}
use Rattle.std.specs.Option.{option_map, option_to_list}
use Rattle.std.specs.List.{concat}
use Rattle.norm_script.specs.declared.script.Verb.{Verb}
use Rattle.norm_send_rules.specs.Watermarks.{pending, watermark_of}
use Rattle.norm_send_rules.specs.declared.news.News.{News}
use Rattle.norm_send_rules.specs.declared.news.News.TheVariants as news
use Rattle.norm_journal.specs.declared.event.Event.{Event}
use Rattle.norm_journal.specs.declared.event.Event.TheVariants as event
use Rattle.norm_journal.specs.Accepting.{accepts}
use Rattle.norm_journal.specs.Judged.{Judged}
use Rattle.norm_journal.specs.Places.{Place, Giving, Again}
use Rattle.norm_journal.specs.Lines.{no_line, reason_of, gave_line, up_line, news_line, end_line}

-- the sender's instance
abbrev pub instance_now : Judged → ℕ
instance_now j = j.world.sender.current.id

-- the command that is offered at a place
abbrev pub command_at : Place → Option Verb
command_at (Giving line) = Some line.verb
command_at (Again line) = Some line.verb
command_at _ = None

-- the members that are not listed past a watermark
abbrev pub left_of : Judged → ℕ → List ℕ
left_of j number = elim (watermark_of j.world.sender number) [ Some w ↦ pending j.world.sender w.at | None ↦ [] ]

-- the members that a change speaks of as left
abbrev pub left_in : Judged → News → List ℕ
left_in j (news.Done number outcome) = left_of j number
left_in j (news.Past node at) = []

-- The line that is printed for an event, with its line feed, if any is.
abbrev pub line_of : Judged → Event → Option (List ℕ)
line_of j (event.Job by job gave) = option_and_then (λ v. gave_line by (instance_now j) v gave) (command_at j.place)
line_of j (event.Length by name len fault) = option_map (no_line by) (reason_of fault)
line_of j (event.Up node instance up) = Some (up_line node instance up)
line_of j (event.News news) = news_line (instance_now j) (left_in j news) news
line_of j event.End = Some (end_line j.totals)
line_of j _ = None

-- the lines of a journal from a state on, each of them one piece
unfoldable pub lines_from : Judged → List Event → List (List ℕ)
lines_from j [] = []
lines_from j (e ∷ events) =
    option_to_list (line_of j e) ++ elim (accepts j e) [ Some next ↦ lines_from next events | None ↦ [] ]

-- the text that a journal prints from a state on
abbrev pub printed_from : Judged → List Event → List ℕ
printed_from j events = concat (lines_from j events)
