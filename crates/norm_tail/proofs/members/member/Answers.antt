use Rattle.std.proofs.Common.{◌≡◌, suc, ◌-◌, arith}
use Rattle.norm_tail.proofs.PassLemmas.{first_place, member_place, is_member, sender_is_node}
use Rattle.norm_tail.proofs.members.member.Goals as goal

pub returns-then-i-eq0-clause-place : goal.returns-then-i-eq0-clause-place
returns-then-i-eq0-clause-place c = first_place c.args.profile.now c.args.i c.sender_node.result c.if-i-eq0.true c.sender_node.ensures

pub returns-then-i-eq0-clause-member : goal.returns-then-i-eq0-clause-member
returns-then-i-eq0-clause-member c = sender_is_node c.args.profile.now c.sender_node.result c.sender_node.ensures

pub returns-clause-place : goal.returns-clause-place
returns-clause-place c =
    let next : c.args.i ≡ suc (c.args.i - 1) = omega (arith, c.if-i-eq0.false) in
    member_place c.args.profile.now c.args.i (c.args.i - 1) c.receiver.result next c.receiver.ensures.place

pub returns-clause-member : goal.returns-clause-member
returns-clause-member c = is_member c.args.profile.now c.receiver.result c.receiver.ensures.receiver
