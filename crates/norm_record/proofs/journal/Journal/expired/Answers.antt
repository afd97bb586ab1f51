-- The count that is kept is that of the events.
use Rattle.std.proofs.Common.{◌∙◌, ap, count_by}
use Rattle.norm_journal.specs.Counts.{is_expired}
use Rattle.norm_record.proofs.journal.Journal.expired.Goals as goal

pub returns : goal.returns
returns c = c.self.invariant.2.expired ∙ ap (count_by is_expired) c.self.view_is
