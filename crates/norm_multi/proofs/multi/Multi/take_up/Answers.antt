use Rattle.std.proofs.Common.{◌≡◌, ◌∙◌, sym, subst, ap, set, List, rules, Some, length, arith}
use Rattle.std.specs.Prelude.{IfSome, IsSome}
use Rattle.norm_multi.specs.Calls.{Taken, index_in, member_of}
use Rattle.norm_multi.specs.MultiMoves.{Answers, IsInInstance}
use Rattle.norm_receive_rules.specs.ReceiverStep as receiver
use Rattle.norm_multi.specs.declared.member.Member.{Member}
use Rattle.norm_multi.proofs.MemberLemmas.{index_within}
use Rattle.norm_multi.proofs.CallLemmas.{takes, answers, changed, call_of, none_left, where_none, in_instance_there}
use Rattle.norm_multi.proofs.multi.Multi.take_up.Goals as goal

pub known_index-at-requires : goal.known_index-at-requires
known_index-at-requires c =
    subst (λ (xs : List Member). IsSome (member_of xs c.args.sender)) (sym (c.deref.ensures.value ∙ c.self.view_is)) c.requires.there

pub index_mut-requires : goal.index_mut-requires
index_mut-requires c =
    let i = c.self.inside.members.items in
    let found : index_in c.args.sender i ≡ Some c.known_index-at.result = ap (index_in c.args.sender) (sym c.deref.ensures.value) ∙ c.known_index-at.ensures in
    let lt = index_within c.args.sender i c.known_index-at.result found in
    let many : length i ≡ c.self.inside.members.len = search rules in
    omega (arith, lt, many)

pub returns-clause-call : goal.returns-clause-call
returns-clause-call c =
    let i = c.self.inside.members.items in
    let m = c.index_mut.result.now in
    let n = c.known_index-at.result in
    let found : index_in c.args.sender i ≡ Some n = ap (index_in c.args.sender) (sym c.deref.ensures.value) ∙ c.known_index-at.ensures in
    call_of i (set i n (record m { receiver = c.take_up.new.self })) c.args.self.now (Taken c.args.sender) c.self.view_is
    (takes i c.args.sender n m (record m { receiver = c.take_up.new.self })
    (changed i c.args.sender n m c.take_up.new.self found c.index_mut.ensures.value c.take_up.ensures.profile) (λ r st. (c.take_up.ensures.stands r st).0))

pub returns-clause-answer : goal.returns-clause-answer
returns-clause-answer c =
    let i = c.self.inside.members.items in
    let m = c.index_mut.result.now in
    let n = c.known_index-at.result in
    let found : index_in c.args.sender i ≡ Some n = ap (index_in c.args.sender) (sym c.deref.ensures.value) ∙ c.known_index-at.ensures in
    subst (λ (xs : List Member). Answers xs c.args.sender receiver.UpTaken (λ answer. answer ≡ receiver.Gave c.take_up.result)) c.self.view_is
    (answers i c.args.sender n m receiver.UpTaken (λ answer. answer ≡ receiver.Gave c.take_up.result) found
    (changed i c.args.sender n m c.take_up.new.self found c.index_mut.ensures.value c.take_up.ensures.profile).there
    (λ r st. ap receiver.Gave (sym (c.take_up.ensures.stands r st).1)))

pub returns-clause-none : goal.returns-clause-none
returns-clause-none c =
    let i = c.self.inside.members.items in
    let m = c.index_mut.result.now in
    let n = c.known_index-at.result in
    let found : index_in c.args.sender i ≡ Some n = ap (index_in c.args.sender) (sym c.deref.ensures.value) ∙ c.known_index-at.ensures in
    where_none c.take_up.result c.take_up.ensures.none
    (λ same. let left = none_left i c.args.sender n m c.take_up.new.self found c.index_mut.ensures.value same in (left.0, left.1 ∙ c.self.view_is))

pub returns-clause-some : goal.returns-clause-some
returns-clause-some c =
    let i = c.self.inside.members.items in
    let m = c.index_mut.result.now in
    let n = c.known_index-at.result in
    let found : index_in c.args.sender i ≡ Some n = ap (index_in c.args.sender) (sym c.deref.ensures.value) ∙ c.known_index-at.ensures in
    subst (λ (xs : List Member). IfSome c.take_up.result (λ up. IsInInstance (member_of xs c.args.sender))) c.self.view_is
    (in_instance_there i c.args.sender n m c.take_up.result found c.index_mut.ensures.value c.take_up.ensures.some)
