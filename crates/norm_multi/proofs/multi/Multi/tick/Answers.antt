use Rattle.std.proofs.Common.{◌≡◌, ◌∙◌, sym, subst, ap, set, List, rules, Some, length, arith}
use Rattle.std.specs.Prelude.{IsSome}
use Rattle.norm_multi.specs.Calls.{Ticked, index_in, member_of}
use Rattle.norm_multi.specs.MultiMoves.{Answers, AreTaken, IsSent}
use Rattle.norm_receive_rules.specs.ReceiverStep as receiver
use Rattle.norm_multi.specs.declared.member.Member.{Member}
use Rattle.norm_multi.proofs.MemberLemmas.{index_within}
use Rattle.norm_multi.proofs.CallLemmas.{ticks, answers, changed, call_of, taken_there}
use Rattle.norm_multi.proofs.multi.Multi.tick.Goals as goal

pub known_index-at-requires : goal.known_index-at-requires
known_index-at-requires c =
    subst (λ (xs : List Member). IsSome (member_of xs c.args.sender)) (sym (c.deref.ensures.value ∙ c.self.view_is)) c.requires.there

pub index_mut-requires : goal.index_mut-requires
index_mut-requires c =
    let i = c.self.inside.members.items in
    let found : index_in c.args.sender i ≡ Some c.known_index-at.result = ap (index_in c.args.sender) (sym c.deref.ensures.value) ∙ c.known_index-at.ensures in
    let lt = index_within c.args.sender i c.known_index-at.result found in
    let many : length i ≡ c.self.inside.members.len = search rules in
    omega (arith, lt, many)

pub tick-requires : goal.tick-requires
tick-requires c =
    let i = c.self.inside.members.items in
    let m = c.index_mut.result.now in
    let n = c.known_index-at.result in
    let found : index_in c.args.sender i ≡ Some n = ap (index_in c.args.sender) (sym c.deref.ensures.value) ∙ c.known_index-at.ensures in
    record {
      taken = taken_there i c.args.sender n m found c.index_mut.ensures.value
          (subst (λ (xs : List Member). AreTaken (member_of xs c.args.sender)) (sym c.self.view_is) c.requires.taken);
    }

pub returns-clause-call : goal.returns-clause-call
returns-clause-call c =
    let i = c.self.inside.members.items in
    let m = c.index_mut.result.now in
    let n = c.known_index-at.result in
    let found : index_in c.args.sender i ≡ Some n = ap (index_in c.args.sender) (sym c.deref.ensures.value) ∙ c.known_index-at.ensures in
    call_of i (set i n (record m { receiver = c.tick.new.self })) c.args.self.now (Ticked c.args.sender c.args.now) c.self.view_is
    (ticks i c.args.sender n m (record m { receiver = c.tick.new.self }) c.args.now
    (changed i c.args.sender n m c.tick.new.self found c.index_mut.ensures.value c.tick.ensures.profile) (λ r st. (c.tick.ensures.stands r st).stands))

pub returns-clause-answer : goal.returns-clause-answer
returns-clause-answer c =
    let i = c.self.inside.members.items in
    let m = c.index_mut.result.now in
    let n = c.known_index-at.result in
    let found : index_in c.args.sender i ≡ Some n = ap (index_in c.args.sender) (sym c.deref.ensures.value) ∙ c.known_index-at.ensures in
    subst (λ (xs : List Member). Answers xs c.args.sender (receiver.Ticked c.args.now) (IsSent c.tick.result c.tick.new.out)) c.self.view_is
    (answers i c.args.sender n m (receiver.Ticked c.args.now) (IsSent c.tick.result c.tick.new.out) found
    (changed i c.args.sender n m c.tick.new.self found c.index_mut.ensures.value c.tick.ensures.profile).there
    (λ r st. (c.tick.ensures.stands r st).octets))
