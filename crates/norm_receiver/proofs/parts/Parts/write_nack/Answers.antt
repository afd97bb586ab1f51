use Rattle.std.proofs.Common.{sym, ◌∙◌}
use Rattle.norm_receive_rules.specs.HeardNeeds.{is_heard}
use Rattle.norm_receiver.specs.Walking.{asked_nothing}
use Rattle.norm_receiver.proofs.WalkLemmas.{at_begin, room_begins, asks_for}
use Rattle.norm_receiver.proofs.parts.Parts.write_nack.Goals as goal

pub returns-then-asking : goal.returns-then-asking
returns-then-asking c = λ s stands.
    let begun = at_begin c.args.self.now.profile (is_heard s.knows.heard s.holding) _ c.write_nack_front.new.out c.new-asking.ensures.begun in
    let asks = asks_for c.args.self.now.profile s c.ask_all.new.asking c.ask_all.new.out c.write_nack_front.new.out (c.write_nack_front.ensures.exact s stands.numbers)
    (c.ask_all.ensures.walked s c.write_nack_front.new.out asked_nothing stands begun) in
    (sym (c.needs_nothing.ensures s stands) ∙ c.if-needs_nothing.false, sym asks.heard ∙ c.if-asking.true)

pub returns : goal.returns
returns c = λ s stands.
    let begun = at_begin c.args.self.now.profile (is_heard s.knows.heard s.holding) _ c.write_nack_front.new.out c.new-asking.ensures.begun in
    let asks = asks_for c.args.self.now.profile s c.ask_all.new.asking c.ask_all.new.out c.write_nack_front.new.out (c.write_nack_front.ensures.exact s stands.numbers)
    (c.ask_all.ensures.walked s c.write_nack_front.new.out asked_nothing stands begun) in
    (sym (c.needs_nothing.ensures s stands) ∙ c.if-needs_nothing.false, sym asks.heard ∙ c.if-asking.false, asks.octets)

pub ask_all-requires : goal.ask_all-requires
ask_all-requires c = record {
  room = room_begins c.args.self.now.profile c.new-asking.result c.write_nack_front.new.out c.new-asking.ensures.begun c.new-asking.ensures.few c.write_nack_front.ensures.size;
}
