use Rattle.std.proofs.Common.{sym, ap, ◌∙◌, refl, rules}
use Rattle.norm_base.specs.Members.{is_node}
use Rattle.norm_relay.proofs.NewLemmas.{none_more, shares_first, shares_one, shares_none}
use Rattle.norm_relay.proofs.relay.share_nobody.Goals as goal

pub returns-then-is_node : goal.returns-then-is_node
returns-then-is_node c =
    shares_first c.args.up.now c.args.down.now (ap (is_node c.args.down.now) (sym c.sender_of.ensures) ∙ sym c.is_node.ensures ∙ c.if-is_node.true)

pub loop-i-init : goal.loop-i-init
loop-i-init c = refl

pub returns-then-is_node-2 : goal.returns-then-is_node-2
returns-then-is_node-2 c =
    shares_one c.args.up.now c.args.down.now c.loop-i.i c.receiver.result (search rules) c.receiver.ensures (sym c.is_node-in-loop-i.ensures ∙ c.if-is_node-2.true)

pub loop-i-preserved : goal.loop-i-preserved
loop-i-preserved c =
    none_more c.args.up.now c.args.down.now c.loop-i.i c.receiver.result c.loop-i.invariant c.receiver.ensures (sym c.is_node-in-loop-i.ensures ∙ c.if-is_node-2.false)

pub returns : goal.returns
returns c =
    shares_none c.args.up.now c.args.down.now c.loop-i.i
    (ap (is_node c.args.down.now) (sym c.sender_of.ensures) ∙ sym c.is_node.ensures ∙ c.if-is_node.false) c.loop-i.invariant (search rules)
