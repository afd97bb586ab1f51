use Rattle.std.proofs.Common.{sym, ap, ◌∙◌, refl, rules}
use Rattle.norm_base.specs.Members.{is_node}
use Rattle.relay_words.specs.declared.ends.NoRelay.TheVariants as no
use Rattle.driven_nodes.proofs.MisfitLemmas.{none_more, shared_first, shared_one, shared_none}
use Rattle.driven_nodes.proofs.misfit.shared.Goals as goal

pub returns-then-is_node : goal.returns-then-is_node
returns-then-is_node c =
    ap no.Shared c.sender_of-sender.ensures
    ∙ shared_first c.args.up.now c.args.down.now (ap (is_node c.args.down.now) (sym c.sender_of-sender.ensures) ∙ sym c.is_node.ensures ∙ c.if-is_node.true)

pub loop-i-init : goal.loop-i-init
loop-i-init c = refl

pub returns-then-is_node-2 : goal.returns-then-is_node-2
returns-then-is_node-2 c =
    shared_one c.args.up.now c.args.down.now c.loop-i.i c.receiver-node.result (search rules)
    (ap (is_node c.args.down.now) (sym c.sender_of-sender.ensures) ∙ sym c.is_node.ensures ∙ c.if-is_node.false) c.loop-i.invariant c.receiver-node.ensures
    (sym c.is_node-in-loop-i.ensures ∙ c.if-is_node-2.true)

pub loop-i-preserved : goal.loop-i-preserved
loop-i-preserved c =
    none_more c.args.up.now c.args.down.now c.loop-i.i c.receiver-node.result c.loop-i.invariant c.receiver-node.ensures
    (sym c.is_node-in-loop-i.ensures ∙ c.if-is_node-2.false)

pub returns : goal.returns
returns c =
    ap no.Shared c.sender_of-sender.ensures
    ∙ shared_none c.args.up.now c.args.down.now c.loop-i.i
    (ap (is_node c.args.down.now) (sym c.sender_of-sender.ensures) ∙ sym c.is_node.ensures ∙ c.if-is_node.false) c.loop-i.invariant (search rules)
