use Rattle.std.proofs.Common.{List, false, sym, ap, subst, ◌∙◌}
use Rattle.norm_base.specs.Settings.{Settings}
use Rattle.norm_send_rules.specs.SenderState.{sender_opening}
use Rattle.norm_sender.specs.SenderKept.{Stands}
use Rattle.norm_relay.specs.RelayKept.{StandsFor}
use Rattle.norm_relay.specs.RelayState.{relay_opening}
use Rattle.norm_relay.specs.declared.waiting.Waiting.{Waiting}
use Rattle.norm_relay.proofs.CallLemmas.{kept}
use Rattle.norm_relay.proofs.LowerLemmas.{lower_of}
use Rattle.norm_relay.proofs.NewLemmas.{relay_begins, relays_member}
use Rattle.norm_relay.proofs.relay.Relay.new.Goals as goal

pub returns-clause-stands : goal.returns-clause-stands
returns-clause-stands c =
    let up = c.args.up.now in
    let down = c.args.down.now in
    subst (λ (ws : List Waiting). StandsFor (kept c.in_ok-receiver.receiver (lower_of c.in_ok-sender.sender false 0) ws c.nothing.result) (relay_opening up c.args.node down))
    (sym c.new-3.ensures.items)
    (relay_begins up down c.args.node c.in_ok-receiver.receiver c.in_ok-sender.sender c.nothing.result
    (relays_member up c.args.node down (sym c.can_relay.ensures ∙ c.if-not-can_relay.false)) c.in_ok-receiver.ensures.profile c.in_ok-receiver.ensures.stands
    c.in_ok-sender.ensures.profile
    (subst (λ i. Stands c.in_ok-sender.sender (sender_opening down i)) (ap (λ (q : Settings). q.instance) c.down.view_is) c.in_ok-sender.ensures.stands)
    c.nothing.ensures)
