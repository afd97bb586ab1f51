use Rattle.std.proofs.Common.{ap, ◌∙◌}
use Rattle.norm_ext.specs.Extensions.{fti_of}
use Rattle.norm_receiver.proofs.ReceivingLemmas.{told_leaves}
use Rattle.norm_receiver.proofs.receiving.keep_object.Goals as goal

pub returns-in-Some-clause-state : goal.returns-in-Some-clause-state
returns-in-Some-clause-state c =
    told_leaves c.keep_told.result c.args.hold.now.p c.args.index c.args.flags c.args.brought.now c.args.exts.now c.in-Some.fti
    c.args.hold.now c.keep_told.new.hold (c.in-Some.ensures ∙ ap fti_of c.iter.ensures) c.keep_told.ensures.state
