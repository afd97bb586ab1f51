-- The judge of a run that persists: as the judge of journals, but that own commands come before the sender's tick, and that it ends
-- otherwise.
use Rattle.std.specs.Prelude.{ℕ, ◌+◌, ◌==◌, ◌&&◌, not, List, [], ◌∷◌, Bool, true, false, Option, None, Some, Result, option_and_then}
use Rattle.std.specs.Option.{option_map}
use Rattle.norm_send_rules.specs.declared.fault.SendFault.{SendFault}
use Rattle.norm_send_rules.specs.declared.job.Job.{Job}
use Rattle.norm_send_rules.specs.declared.job.Job.TheVariants as job
use Rattle.norm_send_rules.specs.declared.job.Receipt.{Receipt}
use Rattle.norm_safety.specs.Events.{Commanded, Gave}
use Rattle.norm_safety.specs.Lawful.{same_origin}
use Rattle.norm_journal.specs.declared.event.Event.{Event}
use Rattle.norm_journal.specs.declared.event.Event.TheVariants as event
use Rattle.norm_journal.specs.Accepting.{accepts_news, accepts_next}
use Rattle.norm_journal.specs.InWorld.{comes, at}
use Rattle.norm_journal.specs.Judged.{Judged, news_due}
use Rattle.norm_journal.specs.Places.{Place, Between, Over}
use Rattle.norm_journal.specs.Totals.{with_gave}
use Rattle.norm_journal.specs.Turns.{is_moment, in_turn}
use Rattle.norm_persist.specs.Persisted.{Persisted, led_to, own_due, own_name, is_over, mark_after}

-- the jobs of own commands are one
abbrev pub same_own : Job → Job → Bool
same_own (job.Mark None) (job.Mark None) = true
same_own (job.Strike node) (job.Strike other) = node == other
same_own _ _ = false

-- what an own command gave is counted, and no command of the script waits for it
abbrev pub own_gave : Result Receipt SendFault → Judged → Judged
own_gave gave j = record j { totals = with_gave gave j.totals }

-- an own command was made in this turn, and was answered so
abbrev pub own_made : Persisted → Event → Result Receipt SendFault → Judged → Persisted
own_made x e gave next = record (led_to x e next) { own = x.own + 1; own_turn = x.judged.turn; own_mark = mark_after gave x.own_mark }

-- the own command that is due, under the next name, with the sender's answer
abbrev pub accepts_own : Job → Persisted → Event → Option Persisted
accepts_own due x (event.Job by (Some job) gave) = elim (same_origin (own_name x) by && same_own due job) [
  | true ↦ option_map (λ next. own_made x (event.Job by (Some job) gave) gave (own_gave gave next)) (comes (Commanded by job x.judged.now) (Gave gave) x.judged)
  | false ↦ None
]
accepts_own due x _ = None

-- the next turn begins, unless the last one was done
abbrev pub turns_persisting : Place → Persisted → ℕ → ℕ → Option Judged
turns_persisting Between x turn now = elim (turn == x.judged.turn + 1 && is_moment x.judged turn now && not (is_over x)) [
  | true ↦ Some (in_turn turn now x.judged)
  | false ↦ None
]
turns_persisting _ x turn now = None

-- the summary, where the last turn was done
abbrev pub ends_persisting : Place → Persisted → Option Judged
ends_persisting Between x = elim (is_over x) [ true ↦ Some (at Over x.judged) | false ↦ None ]
ends_persisting _ x = None

-- where the judge of journals is led where neither a change is to be told nor an own command is due
abbrev pub goes_on : Persisted → Event → Option Judged
goes_on x (event.Turn turn now) = turns_persisting x.judged.place x turn now
goes_on x event.End = ends_persisting x.judged.place x
goes_on x e = accepts_next x.judged e

-- Changes that an event made are told directly after it; then an own command that is due comes; then all else.
abbrev pub accepts_persisting : Persisted → Event → Option Persisted
accepts_persisting x e = elim (news_due x.judged) [
  | Some news ↦ option_map (led_to x e) (accepts_news x.judged e)
  | None ↦ elim (own_due x) [
    | Some due ↦ accepts_own due x e
    | None ↦ option_map (led_to x e) (goes_on x e)
  ]
]

-- the state after these events, each of which may come
unfoldable pub persisted_from : Persisted → List Event → Option Persisted
persisted_from x [] = Some x
persisted_from x (e ∷ events) = option_and_then (λ next. persisted_from next events) (accepts_persisting x e)
