-- How many commands a journal says were refused for good, and how many watermarks expired.
use Rattle.std.specs.Prelude.{◌+◌, ◌≡◌, Bool, false, not, List, count_by, Err, if◌then◌else◌}
use Rattle.norm_send_rules.specs.Waiting.{may_wait}
use Rattle.norm_journal.specs.Counts.{is_expired}
use Rattle.norm_journal.specs.declared.event.Event.{Event}
use Rattle.norm_journal.specs.declared.event.Event.TheVariants as event
use Rattle.norm_record.specs.declared.counts.Counts.{Counts}

-- a command was refused for good, and not only as long as there is no room
abbrev pub is_refused : Event → Bool
is_refused (event.Job by job (Err fault)) = not (may_wait fault)
is_refused (event.Length by name len fault) = not (may_wait fault)
is_refused _ = false

-- the counts with one more event
abbrev pub with_event : Event → Counts → Counts
with_event e counts = record {
  refused = counts.refused + (if is_refused e then 1 else 0);
  expired = counts.expired + (if is_expired e then 1 else 0);
}

-- the counts are those of the events
pub record AreCounts (counts : Counts) (events : List Event) : Type 0 where
  pub refused : counts.refused ≡ count_by is_refused events
  pub expired : counts.expired ≡ count_by is_expired events
