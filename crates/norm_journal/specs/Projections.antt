-- What a journal says of the outside: a list for each part of it, in order.
use Rattle.std.specs.Prelude.{ℕ, List, [], ◌∷◌, Option, None, Some}
use Rattle.std.specs.List.{flat_map}
use Rattle.norm_base.specs.Network.{Network}
use Rattle.norm_base.specs.Told.{gained}
use Rattle.norm_send_rules.specs.declared.job.Job.TheVariants as job
use Rattle.norm_send_rules.specs.declared.news.News.TheVariants as news
use Rattle.norm_send_rules.specs.declared.news.Outcome.{Outcome}
use Rattle.norm_journal.specs.declared.event.Event.{Event}
use Rattle.norm_journal.specs.declared.event.Event.TheVariants as event

-- what a take of the network answered: a member and a datagram, or nothing
abbrev pub Answer : Type 0
Answer = Option (ℕ × List ℕ)

-- the datagram that an event offered, with the node that it is of
abbrev pub offer_of : Event → List (ℕ × List ℕ)
offer_of (event.Offer from octets) = (from, octets) ∷ []
offer_of _ = []

-- what an event's take answered, None included
abbrev pub answer_in : Event → List Answer
answer_in (event.Took to octets) = Some (to, octets) ∷ []
answer_in event.Empty = None ∷ []
answer_in _ = []

-- the moment of an event's turn
abbrev pub moment_in : Event → List ℕ
moment_in (event.Turn turn now) = now ∷ []
moment_in _ = []

-- the outcome that an event told, behind its watermark's number
abbrev pub outcome_in : Event → List (ℕ × Outcome)
outcome_in (event.News (news.Done mark outcome)) = (mark, outcome) ∷ []
outcome_in _ = []

-- the file that was read for an event: its name and its octets
abbrev pub file_in : Event → List (List ℕ × List ℕ)
file_in (event.Job by (Some (job.File name octets)) gave) = (name, octets) ∷ []
file_in _ = []

-- the same of whole journals
abbrev pub offers_in : List Event → List (ℕ × List ℕ)
offers_in events = flat_map offer_of events

abbrev pub answers_in : List Event → List Answer
answers_in events = flat_map answer_in events

abbrev pub moments_in : List Event → List ℕ
moments_in events = flat_map moment_in events

abbrev pub outcomes_in : List Event → List (ℕ × Outcome)
outcomes_in events = flat_map outcome_in events

abbrev pub files_in : List Event → List (List ℕ × List ℕ)
files_in events = flat_map file_in events

-- what a network tells after these events
abbrev pub network_after : Network → List Event → Network
network_after n events = record {
  starts = n.starts;
  offered = gained n.offered (offers_in events);
  answers = gained n.answers (answers_in events);
  honest = n.honest;
  direct = n.direct;
}
