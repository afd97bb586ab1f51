-- What is kept, and which of it each hand-up is, are those of the invariant.
use Rattle.std.proofs.Common.{◌∙◌, ap, sym, subst}
use Rattle.norm_record.specs.HandedUp.{handed_up}
use Rattle.norm_record.specs.Once.{UpsAgree}
use Rattle.norm_record.proofs.journal.Journal.kept_ups.Goals as goal

pub returns-clause-there : goal.returns-clause-there
returns-clause-there c = rw (c.kept.ensures, c.as_slice.ensures.value) c.self.invariant.1.there

pub returns-clause-are : goal.returns-clause-are
returns-clause-are c = rw (c.kept.ensures, c.as_slice.ensures.value) (c.self.invariant.1.are ∙ ap handed_up c.self.view_is)

pub returns-clause-once : goal.returns-clause-once
returns-clause-once c = λ agree. rw c.kept.ensures (c.self.invariant.0.ups.once (subst UpsAgree (sym c.self.view_is) agree))
