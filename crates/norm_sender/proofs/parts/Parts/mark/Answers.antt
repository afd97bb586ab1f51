use Rattle.std.proofs.Common.{◌≡◌, ◌∙◌, Some, None, Result, Err, refl, sym, subst}
use Rattle.norm_send_rules.specs.SenderState.{SenderState}
use Rattle.norm_send_rules.specs.Streaming.{cut}
use Rattle.norm_send_rules.specs.declared.job.Receipt.{Receipt}
use Rattle.norm_send_rules.specs.declared.fault.MarkFault.{MarkFault}
use Rattle.norm_send_rules.specs.declared.fault.MarkFault.TheVariants.{NothingEnqueued}
use Rattle.norm_sender.specs.Inside.{kept_of}
use Rattle.norm_sender.specs.SenderKept.{Agrees}
use Rattle.norm_sender.proofs.MarkingLemmas.{asked_nothing, marks_by, refuses_quorum}
use Rattle.norm_sender.proofs.StreamingLemmas.{behind_here, here_again, book_behind}
use Rattle.norm_sender.proofs.parts.Parts.mark.Goals as goal

pub cut-requires : goal.cut-requires
cut-requires c = record { state = c.requires.state; ahead = c.requires.state; behind = behind_here (kept_of c.args.self.now) c.requires.state c.requires.stands }

pub returns-in-Some-clause-stands : goal.returns-in-Some-clause-stands
returns-in-Some-clause-stands c s by h some =
    refuses_quorum (kept_of c.args.self.now) s by c.args.quorum c.in-Some.fault h (sym (c.quorum_fault.ensures c.args.self.now.profile s h.book) ∙ c.in-Some.is)

pub returns-in_default-end_cut-clause-stands : goal.returns-in_default-end_cut-clause-stands
returns-in_default-end_cut-clause-stands c s by h some =
    let k = kept_of c.args.self.now in
    let none = sym (c.quorum_fault.ensures k.p s h.book) ∙ c.in_default.is in
    let after = here_again (kept_of c.cut.new.self) (cut k.p s) (c.cut.ensures.stands s (cut k.p s) (book_behind k s h)) in
    marks_by k (kept_of c.cut.new.self) s by c.args.quorum None (Err NothingEnqueued) h none (sym c.in_default-end_cut.is ∙ c.end_cut.ensures s h.window)
    (subst (λ (step : SenderState × Result Receipt MarkFault). Agrees (kept_of c.cut.new.self) step.0 × (Err NothingEnqueued ≡ step.1))
    (sym (asked_nothing k.p (cut k.p s) by c.args.quorum none)) (after, refl))

pub returns-clause-stands : goal.returns-clause-stands
returns-clause-stands c s by h some =
    let k = kept_of c.args.self.now in
    marks_by k (kept_of c.mark_at.new.self) s by c.args.quorum (Some c.in-Some-end_cut.at) c.mark_at.result h (sym (c.quorum_fault.ensures k.p s h.book) ∙ c.in_default.is)
    (sym c.in-Some-end_cut.is ∙ c.end_cut.ensures s h.window)
    (c.mark_at.ensures.stands s by h some)
