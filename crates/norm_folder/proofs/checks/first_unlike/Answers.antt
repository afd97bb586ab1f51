use Rattle.std.proofs.Common.{◌∙◌, ℕ, List, ap, rules, sym}
use Rattle.norm_mirror.specs.Checking.{checked}
use Rattle.norm_order.specs.declared.up.Up.{Up}
use Rattle.norm_record.specs.HandedUp.{handed_up}
use Rattle.norm_arrival.specs.HandedBy.{ups_of}
use Rattle.norm_folder.proofs.CheckLemmas.{here_is, one_like, one_unlike}
use Rattle.norm_folder.proofs.checks.first_unlike.Goals as goal

-- a receiver that handed up something else
pub returns-in-Some : goal.returns-in-Some
returns-in-Some g c =
    let all = handed_up c.args.journal.now in
    sym (one_unlike all c.args.profile.now c.loop-i.i c.args.profile.now.receivers c.receiver-node.result c.in-Some.found (search rules) c.receiver-node.ensures
    c.loop-i.invariant
    (here_is all c.receiver-node.result _ c.in_ok-found.field-0 (c.in_ok-check.ensures ∙ ap (λ (l : List (ℕ × Up)). checked (ups_of c.receiver-node.result l)) c.kept_ups.ensures.are)
    c.in_ok-found.ensures ∙ c.in-Some.is))

-- one that did not
pub loop-i-preserved : goal.loop-i-preserved
loop-i-preserved g c =
    let all = handed_up c.args.journal.now in
    one_like all c.args.profile.now c.loop-i.i c.receiver-node.result c.receiver-node.ensures c.loop-i.invariant
    (here_is all c.receiver-node.result _ c.in_ok-found.field-0 (c.in_ok-check.ensures ∙ ap (λ (l : List (ℕ × Up)). checked (ups_of c.receiver-node.result l)) c.kept_ups.ensures.are)
    c.in_ok-found.ensures ∙ c.in_default.is)
