use Rattle.std.proofs.Common.{◌∙◌, sym, rules}
use Rattle.norm_args.proofs.PairLemmas.{no_pairs_odd, no_pairs, pairs_on}
use Rattle.norm_args.proofs.node_tasks.pairs_of.Goals as goal

pub returns-then-words-ne0 : goal.returns-then-words-ne0
returns-then-words-ne0 c = no_pairs_odd c.args.words.now c.if-words-ne0.true

pub returns-in_default : goal.returns-in_default
returns-in_default c =
    no_pairs c.args.words.now c.loop-i.i _ c.loop-i.pairs.items (search rules) c.loop-i.invariant (sym c.node_of.ensures ∙ c.in_default.is)

pub loop-i-preserved : goal.loop-i-preserved
loop-i-preserved c =
    pairs_on c.args.words.now c.loop-i.i _ c.loop-i.pairs.items c.push.new.self.items c.of-path.result c.in-Some.node (search rules) c.loop-i.invariant
    (sym c.node_of.ensures ∙ c.in-Some.is) (search rules) c.in_ok-push.ensures.items
