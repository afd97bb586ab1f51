use Rattle.norm_world.proofs.WorldLemmas.{an_offer}
use Rattle.norm_world.proofs.world.World.offered.Goals as goal

pub returns : goal.returns
returns c = an_offer c.args.self.now c.args.from c.args.bytes.now
