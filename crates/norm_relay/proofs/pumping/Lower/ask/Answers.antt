use Rattle.std.proofs.Common.{None, sym, subst, ◌∙◌}
use Rattle.std.specs.Prelude.{IfOk}
use Rattle.mark_book.specs.Answers.{open_watermark}
use Rattle.mark_book.specs.BookState.{BookState}
use Rattle.mark_book.specs.BookState as book
use Rattle.norm_relay.specs.Offering.{stop_of}
use Rattle.norm_relay.specs.Pumping.{Emptied, Crowded, Refused, asks}
use Rattle.norm_relay.specs.declared.pumping.Stop.{Stop as Ended}
use Rattle.norm_relay.proofs.AskLemmas.{Steps, asks_not, asks_now, if_asks, if_room, asks_no_more}
use Rattle.norm_relay.proofs.pumping.Lower.ask.Goals as goal

pub returns-then-is_some-clause-asks : goal.returns-then-is_some-clause-asks
returns-then-is_some-clause-asks c =
    let k = c.args.self.now.sender in
    asks_not c.args.now (stop_of c.args.stop) c.args.held.now c.args.self.now open_watermark c.oldest.result
    (λ s st. c.oldest.ensures k.p s (subst (λ (b : BookState). book.Stands k.p b s) (sym c.book.ensures) st.agrees.book)) (sym c.is_some.ensures ∙ c.if-is_some.true)

pub returns-in-Emptied-clause-asks : goal.returns-in-Emptied-clause-asks
returns-in-Emptied-clause-asks c =
    let k = c.args.self.now.sender in
    subst (λ (e : Ended). IfOk c.mark_for_held.result (λ why. Steps c.args.held.now c.args.self.now c.mark_for_held.new.held c.mark_for_held.new.self why (asks c.args.now (stop_of e))))
    (sym c.in-Emptied.is)
    (if_asks c.args.now Emptied c.args.held.now c.mark_for_held.new.held c.args.self.now c.mark_for_held.new.self c.mark_for_held.result open_watermark
    c.oldest.result
    (λ s st. c.oldest.ensures k.p s (subst (λ (b : BookState). book.Stands k.p b s) (sym c.book.ensures) st.agrees.book)) (sym c.is_some.ensures ∙ c.if-is_some.false)
    c.mark_for_held.ensures.asks)

pub returns-in-Crowded-clause-asks : goal.returns-in-Crowded-clause-asks
returns-in-Crowded-clause-asks c =
    let k = c.args.self.now.sender in
    subst (λ (e : Ended). IfOk c.mark_for_room.result (λ why. Steps c.args.held.now c.args.self.now c.args.held.now c.mark_for_room.new.self why (asks c.args.now (stop_of e))))
    (sym c.in-Crowded.is)
    (if_asks c.args.now Crowded c.args.held.now c.args.held.now c.args.self.now c.mark_for_room.new.self c.mark_for_room.result open_watermark
    c.oldest.result
    (λ s st. c.oldest.ensures k.p s (subst (λ (b : BookState). book.Stands k.p b s) (sym c.book.ensures) st.agrees.book)) (sym c.is_some.ensures ∙ c.if-is_some.false)
    (if_room c.args.now c.args.held.now c.args.self.now c.mark_for_room.new.self c.mark_for_room.result c.mark_for_room.ensures.marks))

pub returns-in-Refused-clause-asks : goal.returns-in-Refused-clause-asks
returns-in-Refused-clause-asks c =
    let k = c.args.self.now.sender in
    subst (λ (e : Ended). Steps c.args.held.now c.args.self.now c.args.held.now c.args.self.now None (asks c.args.now (stop_of e))) (sym c.in-Refused.is)
    (asks_now c.args.now (Refused c.in-Refused.fault) c.args.held.now c.args.held.now c.args.self.now c.args.self.now None open_watermark c.oldest.result
    (λ s st. c.oldest.ensures k.p s (subst (λ (b : BookState). book.Stands k.p b s) (sym c.book.ensures) st.agrees.book)) (sym c.is_some.ensures ∙ c.if-is_some.false)
    (asks_no_more c.args.now c.in-Refused.fault c.args.held.now c.args.self.now))
