use Rattle.std.proofs.Common.{refl, ap, ◌∙◌}
use Rattle.norm_journal.specs.Draws.{next_draw, draws_after}
use Rattle.driven_nodes.proofs.chain.Chain.begin.Goals as goal

pub returns-clause-stands : goal.returns-clause-stands
returns-clause-stands c = record {
  relay = c.in_ok-relay.ensures.stands;
  draw = c.next_draw-draw.ensures.word ∙ ap next_draw c.first_draws-draws.ensures;
  draws = c.next_draw-draw.ensures.rest ∙ ap draws_after c.first_draws-draws.ensures;
  lines = refl;
  enqueued = refl;
  acknowledged = refl;
  lost = refl;
}
