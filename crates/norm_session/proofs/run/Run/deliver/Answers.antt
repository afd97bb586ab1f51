use Rattle.std.proofs.Common.{◌≡◌, true, false, subst, rules}
use Rattle.norm_base.specs.Members.{is_node, is_receiver}
use Rattle.norm_session.specs.RunKept.{RunKept}
use Rattle.norm_session.specs.Taking.{Delivers}
use Rattle.norm_session.proofs.TakingLemmas.{to_nobody, to_absent, to_receiver, turned_delivery}
use Rattle.norm_session.proofs.run.Run.deliver.Goals as goal

pub returns-then-not-is_member-clause-goes : goal.returns-then-not-is_member-clause-goes
returns-then-not-is_member-clause-goes c =
    let nobody : is_node c.self.inside.world.p c.args.to ≡ false = search rules in
    subst (λ (k : RunKept). Delivers k k c.args.to c.args.bytes.now) c.self.view_is (to_nobody _ c.args.to c.args.bytes.now nobody)

pub returns-then-self-clause-goes : goal.returns-then-self-clause-goes
returns-then-self-clause-goes c =
    let receiver : is_receiver c.self.inside.world.p c.args.to ≡ true = search rules in
    subst (λ (k : RunKept). Delivers k k c.args.to c.args.bytes.now) c.self.view_is (to_absent _ c.args.to c.args.bytes.now receiver c.if-self.true)

pub returns-clause-goes : goal.returns-clause-goes
returns-clause-goes c =
    let receiver : is_receiver c.self.inside.world.p c.args.to ≡ true = search rules in
    turned_delivery _ _ _ _ _ c.self.view_is
    (to_receiver _ c.deliver-2.new.self c.next_draw-draw.new.draws c.next_draw-draw.result c.args.to c.args.bytes.now receiver c.if-self.false
    c.next_draw-draw.ensures.word c.next_draw-draw.ensures.rest c.in_ok-deliver-2.ensures.profile c.in_ok-deliver-2.ensures.event)
