-- The count that is kept is that of the events.
use Rattle.std.proofs.Common.{◌∙◌, ap, count_by}
use Rattle.norm_record.specs.Counted.{is_refused}
use Rattle.norm_record.proofs.journal.Journal.refused.Goals as goal

pub returns : goal.returns
returns c = c.self.invariant.2.refused ∙ ap (count_by is_refused) c.self.view_is
