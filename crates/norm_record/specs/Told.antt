-- What an event that is lent says.
use Rattle.norm_journal.specs.declared.event.Event.{Event}
use Rattle.norm_journal.specs.declared.event.Event.TheVariants as event
use Rattle.norm_record.specs.declared.seen.Seen.{Seen}
use Rattle.norm_record.specs.declared.seen.Seen.TheVariants as seen

-- the event that is lent
abbrev pub told_of : Seen → Event
told_of seen.Start = event.Start
told_of (seen.Turn t now) = event.Turn t now
told_of (seen.Pull by) = event.Pull by
told_of (seen.Job by job gave) = event.Job by job.now gave.now
told_of (seen.Length by name len fault) = event.Length by name.now len fault.now
told_of (seen.Tick node sent) = event.Tick node sent
told_of (seen.Offer from bytes) = event.Offer from bytes.now
told_of (seen.Took to bytes) = event.Took to bytes.now
told_of seen.Empty = event.Empty
told_of (seen.Up node instance up) = event.Up node instance up.now
told_of (seen.News news) = event.News news.now
told_of seen.End = event.End
