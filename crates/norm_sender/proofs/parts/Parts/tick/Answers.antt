use Rattle.std.proofs.Common.{◌∙◌, Bool, true, false, ap, sym, subst}
use Rattle.norm_base.specs.Settings.{Settings}
use Rattle.norm_send_rules.specs.Laws.{WantsHold}
use Rattle.norm_send_rules.specs.Ticking.{closed_where_due, sends_first}
use Rattle.norm_sender.specs.Inside.{kept_of}
use Rattle.norm_sender.specs.SenderMoves.{IsSent}
use Rattle.norm_sender.proofs.TickingLemmas.{in_time, closed_wants}
use Rattle.norm_sender.proofs.parts.Parts.tick.Goals as goal

pub send_first-requires : goal.send_first-requires
send_first-requires c =
    let r = c.requires in
    let p = c.args.self.now.profile in
    record {
      state = closed_where_due p c.args.now r.state;
      stands = c.close_where_due.ensures.stands r.state r.stands;
      wants =
          subst (λ (q : Settings). WantsHold q (closed_where_due p c.args.now r.state)) (sym c.close_where_due.ensures.profile)
          (closed_wants p c.hold_range.ensures c.args.now r.state r.wants);
    }

pub returns-clause-stands : goal.returns-clause-stands
returns-clause-stands c s h wants =
    let p = c.args.self.now.profile in
    let t = closed_where_due p c.args.now s in
    let mid = kept_of c.close_where_due.new.self in
    let after = c.close_where_due.ensures.stands s h in
    let held = closed_wants p c.hold_range.ensures c.args.now s wants in
    let held_there = subst (λ (q : Settings). WantsHold q t) (sym c.close_where_due.ensures.profile) held in
    in_time mid (kept_of c.send_first.new.self) c.send_first.new.out c.send_first.result p c.args.now t after
    (c.may_send.ensures ∙ ap (λ (b : Bool). elim b as (λ _. Bool) [ true ↦ false | false ↦ true ]) c.if-not-may_send.false)
    (subst (λ (q : Settings). IsSent (kept_of c.send_first.new.self) c.send_first.new.out c.send_first.result (sends_first q c.args.now t)) c.close_where_due.ensures.profile
    (c.send_first.ensures.stands t after held_there))
