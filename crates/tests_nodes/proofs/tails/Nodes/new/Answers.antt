use Rattle.norm_safety.specs.World.{world_opening}
use Rattle.tests_nodes.proofs.tails.Nodes.new.Goals as goal

pub invariant_of-nodes : goal.invariant_of-nodes
invariant_of-nodes c = record {
  profile = c.in_ok-world.ensures.profile;
  ready = c.in_ok-world.ensures.ready;
  rules = world_opening c.args.profile.now;
  stands = c.in_ok-world.ensures.stands;
}
