-- What a run that persists prints: the lines of its events, and after the summary who lacks what.
use Rattle.std.specs.Prelude.{ℕ, ◌==◌, not, List, [], ◌∷◌, ◌++◌, map, filter, codes, true, false, Option, None, Some}
use Rattle.std.specs.Fmt.{decimal}
use Rattle.std.specs.Option.{option_to_list}
use Rattle.fec_plan.specs.declared.position.Position.{Position}
use Rattle.norm_script.specs.declared.script.Verb.{Verb}
use Rattle.norm_script.specs.declared.script.Verb.TheVariants as verb
use Rattle.norm_send_rules.specs.declared.job.Job.{Job}
use Rattle.norm_send_rules.specs.declared.job.Job.TheVariants as job
use Rattle.norm_send_rules.specs.declared.news.Outcome.{Outcome}
use Rattle.norm_text.specs.Words.{line}
use Rattle.norm_journal.specs.declared.event.Event.{Event}
use Rattle.norm_journal.specs.declared.event.Event.TheVariants as event
use Rattle.norm_journal.specs.Judged.{Judged}
use Rattle.norm_journal.specs.Lines.{gave_line}
use Rattle.norm_journal.specs.Printed.{instance_now, line_of}
use Rattle.norm_journal.specs.Projections.{outcomes_in}
use Rattle.norm_journal.specs.Words.{position_words}
use Rattle.norm_persist.specs.Accepting.{accepts_persisting}
use Rattle.norm_persist.specs.declared.account.Account.{Account}
use Rattle.norm_persist.specs.Persisted.{Persisted, is_sending, lacks_now}

-- what a receiver confirmed, or nothing
abbrev pub confirmed_words : Option Position → List (List ℕ)
confirmed_words (Some at) = position_words at
confirmed_words None = codes "-" ∷ []

-- a receiver lacks something of an instance
abbrev pub lacks_line : ℕ → Account → List ℕ
lacks_line instance a = line (codes "lacks") (decimal a.node ∷ decimal instance ∷ confirmed_words a.confirmed)

-- of each receiver that lacks something, struck ones too, in order
abbrev pub lacks_lines : Persisted → List (List ℕ)
lacks_lines x = map (lacks_line (instance_now x.judged)) (filter (lacks_now x) x.accounts)

-- the verb of an own command
abbrev pub verb_of : Job → Verb
verb_of (job.Strike node) = verb.Strike node
verb_of _ = verb.Mark None

-- The line of an event, by the state before it: as in a run that does not persist, except that a command at the sender's tick is an own one.
abbrev pub told_line : Judged → Event → Option (List ℕ)
told_line j (event.Job by (Some job) gave) = elim (is_sending j.place) [
  | true ↦ gave_line by (instance_now j) (verb_of job) gave
  | false ↦ line_of j (event.Job by (Some job) gave)
]
told_line j e = line_of j e

-- the lines of an event; after the summary who lacks what
abbrev pub lines_of : Persisted → Event → List (List ℕ)
lines_of x event.End = option_to_list (told_line x.judged event.End) ++ lacks_lines x
lines_of x e = option_to_list (told_line x.judged e)

-- the line of an event, without those of who lacks what
abbrev pub told_of : Persisted → Event → List (List ℕ)
told_of x e = option_to_list (told_line x.judged e)

-- the outcomes that an event told, except those of own marks
abbrev pub outcome_of : Persisted → Event → List (ℕ × Outcome)
outcome_of x e = filter (λ (told : ℕ × Outcome). not (told.0 == x.own_mark)) (outcomes_in (e ∷ []))

-- what the events of a journal give from a state on
unfoldable pub gathered : {X : Type 0} → (Persisted → Event → List X) → Persisted → List Event → List X
gathered of x [] = []
gathered of x (e ∷ events) = of x e ++ elim (accepts_persisting x e) [ Some next ↦ gathered of next events | None ↦ [] ]

-- the lines of a journal from a state on
abbrev pub lines_persisting : Persisted → List Event → List (List ℕ)
lines_persisting x events = gathered lines_of x events

-- the same up to the summary, without those of who lacks what
abbrev pub told_lines : Persisted → List Event → List (List ℕ)
told_lines x events = gathered told_of x events

-- the outcomes that a journal tells from a state on, except those of own marks
abbrev pub script_outcomes : Persisted → List Event → List (ℕ × Outcome)
script_outcomes x events = gathered outcome_of x events
