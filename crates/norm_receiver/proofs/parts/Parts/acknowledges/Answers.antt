use Rattle.norm_ext.specs.Lists.{nodes_of}
use Rattle.fec_plan.specs.Points.{position}
use Rattle.norm_receiver.proofs.ReceivingLemmas.{named_all, not_named}
use Rattle.norm_receiver.proofs.parts.Parts.acknowledges.Goals as goal

pub returns-then-not-names : goal.returns-then-not-names
returns-then-not-names c = λ s stands.
    not_named s c.args.self.now.numbers c.args.at (nodes_of c.args.nodes.now) c.names.result stands.numbers c.names.ensures c.if-not-names.true

pub returns : goal.returns
returns c = λ s stands.
    let place = c.hand_up.result in
    named_all s c.args.self.now.numbers c.args.at (nodes_of c.args.nodes.now) c.names.result (position place.index place.block place.symbol) c.has_lost.result c.all_handed_up.result
    stands.numbers c.names.ensures c.if-not-names.false (c.hand_up.ensures.state s.holding stands.hold) (c.has_lost.ensures s.holding stands.hold) c.all_handed_up.ensures
