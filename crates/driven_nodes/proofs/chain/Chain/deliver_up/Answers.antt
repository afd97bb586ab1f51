use Rattle.std.proofs.Common.{refl}
use Rattle.driven_nodes.proofs.ChainLemmas.{not_taken, is_taken_up}
use Rattle.driven_nodes.proofs.chain.Chain.deliver_up.Goals as goal

pub returns-then-not-taken-clause-goes : goal.returns-then-not-taken-clause-goes
returns-then-not-taken-clause-goes c =
    not_taken c.args.octets.now c.args.now c.args.self.now c.deliver_up.new.self c.in-Ok.taken c.in-Ok.ensures.call c.if-not-taken.true

pub returns-clause-goes : goal.returns-clause-goes
returns-clause-goes c =
    is_taken_up c.args.octets.now c.args.now c.args.self.now _ c.deliver_up.new.self c.in-Ok.taken c.in-Ok.ensures.call c.if-not-taken.false refl
    c.next_draw-self.ensures.word c.next_draw-self.ensures.rest refl refl refl c.in_ok-lost.ensures.losses
