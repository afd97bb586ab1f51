use Rattle.norm_world.proofs.NewLemmas.{begun_none, begun_more}
use Rattle.norm_world.proofs.world.receivers.Goals as goal

pub loop-i-init : goal.loop-i-init
loop-i-init c = rw c.new-receivers.ensures.items (begun_none c.args.profile.now)

pub loop-i-preserved : goal.loop-i-preserved
loop-i-preserved c =
    rw c.in_ok-push.ensures.items (begun_more c.args.profile.now c.loop-i.receivers.items c.loop-i.i c.in_ok-receiver.receiver c.loop-i.invariant
    c.in_ok-receiver.ensures.profile (rw c.receiver.ensures at c.in_ok-receiver.ensures.stands))
