use Rattle.std.proofs.Common.{length, refl, take}
use Rattle.std.proofs.lemmas.Option.{slice_get_read}
use Rattle.norm_multi.proofs.BeginLemmas.{begun_next, begun_alone}
use Rattle.norm_multi.proofs.multi.Multi.new.Goals as goal

pub loop-member-preserved : goal.loop-member-preserved
loop-member-preserved c =
    let list = c.args.members.now in
    let i = c.loop-member.member-index in
    rw c.in_ok-push.ensures.items
    (begun_next list i c.member-item.result c.loop-member.list.items c.in_ok-begun.begun
    (slice_get_read list (length list) i c.member-item.result refl c.loop-member-test.true c.member-item.is) c.loop-member.invariant c.in_ok-begun.ensures)

pub returns-clause-stands : goal.returns-clause-stands
returns-clause-stands c =
    λ s. begun_alone (take c.loop-member.member-index c.args.members.now) c.loop-member.list.items s c.loop-member.invariant
