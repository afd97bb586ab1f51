use Rattle.std.proofs.Common.{◌∙◌, sym, subst}
use Rattle.norm_sender.specs.declared.pace.Pace.{Pace}
use Rattle.norm_sender.specs.Inside.{kept_of}
use Rattle.norm_sender.specs.SenderKept.{Agrees}
use Rattle.norm_send_rules.specs.Ticking.{closed_where_due}
use Rattle.norm_sender.proofs.ClosingLemmas.{closed_stands}
use Rattle.norm_sender.proofs.parts.Parts.close_where_due.Goals as goal

pub returns-clause-stands : goal.returns-clause-stands
returns-clause-stands c s h =
    let k = kept_of c.args.self.now in
    subst (λ (q : Pace). Agrees (record k { union = c.close_round-closed.new.self; pace = q }) (closed_where_due k.p c.args.now s))
    (sym c.closed-self.ensures)
    (closed_stands k c.args.now c.close_round-closed.new.self c.close_round-closed.result.queued c.close_round-closed.result.early s
    c.close_round-closed.ensures.stands c.close_round-closed.ensures.answer c.close_round-closed.ensures.profile
    (sym c.is_round_over.ensures ∙ c.if-not-is_round_over.false) h)
