use Rattle.std.proofs.Common.{◌+◌, ap, ◌∙◌, rules}
use Rattle.norm_turns.specs.Causes.{Counted}
use Rattle.norm_node.proofs.hub.HubRun.turns.Goals as goal

pub loop-i-preserved : goal.loop-i-preserved
loop-i-preserved g c = record {
  turned = λ p o here. c.in_ok-turn.ensures.goes p o (c.loop-i.invariant.turned p o here);
  turn = c.in_ok-turn.ensures.turn.turn ∙ ap (λ n. n + 1) c.loop-i.invariant.turn;
  profile = c.in_ok-turn.ensures.turn.profile ∙ c.loop-i.invariant.profile;
  within = search rules;
  last = c.loop-i.invariant.last;
  calls = ap (λ (k : Counted). k.network) (c.in_ok-turn.ensures.cause 0 0) ∙ c.loop-i.invariant.calls;
}
