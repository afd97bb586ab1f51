use Rattle.std.proofs.Common.{refl}
use Rattle.driven_nodes.proofs.GatherLemmas.{ticked_at, keeps_ticked}
use Rattle.driven_nodes.proofs.gathering.Gathering.tick.Goals as goal

pub returns-clause-goes : goal.returns-clause-goes
returns-clause-goes c =
    let old = c.args.self.now in
    ticked_at old (record old { multi = c.tick.new.self; datagram = c.tick.new.out }) c.args.sender c.args.now c.tick.result c.tick.ensures.call c.tick.ensures.answer refl

pub returns-clause-keeps : goal.returns-clause-keeps
returns-clause-keeps c =
    let old = c.args.self.now in
    keeps_ticked old (record old { multi = c.tick.new.self; datagram = c.tick.new.out }) c.args.sender c.args.now c.tick.ensures.call refl refl refl
