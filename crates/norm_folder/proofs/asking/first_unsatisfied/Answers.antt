use Rattle.std.proofs.Common.{◌∙◌, Some, ap, rules, sym}
use Rattle.norm_folder.specs.Asking.{unsatisfied_by}
use Rattle.norm_folder.proofs.AskingLemmas.{none_all, none_at, some_at}
use Rattle.norm_folder.proofs.asking.first_unsatisfied.Goals as goal

pub returns-in-Some : goal.returns-in-Some
returns-in-Some c =
    sym (some_at unsatisfied_by c.args.journal.now c.loop-i.i c.in-Some.found (c.unsatisfied_at.ensures ∙ ap Some c.in-Some.is) c.loop-i.invariant)

pub loop-i-preserved : goal.loop-i-preserved
loop-i-preserved c = none_at unsatisfied_by c.args.journal.now c.loop-i.i (c.unsatisfied_at.ensures ∙ ap Some c.in_default.is) c.loop-i.invariant

pub returns : goal.returns
returns c = sym (none_all unsatisfied_by c.args.journal.now c.loop-i.i (search rules) c.loop-i.invariant)
