use Rattle.std.proofs.Common.{◌≡◌, ◌∙◌, sym, subst, ap, set, List, rules, Some, None, length, arith}
use Rattle.norm_multi.specs.Calls.{Delivered, index_in, owner_in}
use Rattle.norm_multi.specs.MultiMoves.{IsNoCall, MayLackMemory}
use Rattle.norm_multi.specs.Owner.{owner_of}
use Rattle.norm_multi.specs.declared.member.Member.{Member}
use Rattle.norm_multi.proofs.MemberLemmas.{index_within}
use Rattle.norm_multi.proofs.CallLemmas.{nobody, passes, owner_found, owner_lost, delivers, keeps, changed, on_err, call_of, may_lack}
use Rattle.norm_multi.proofs.multi.Multi.deliver.Goals as goal

pub returns-in_default-clause-call : goal.returns-in_default-clause-call
returns-in_default-clause-call c =
    passes c.args.self.now c.args.bytes.now c.args.now c.args.draw (nobody c.args.self.now c.args.bytes.now (sym c.owner_of.ensures ∙ c.in_default.is))

pub returns-in_default-index_of-clause-owner : goal.returns-in_default-index_of-clause-owner
returns-in_default-index_of-clause-owner c =
    let i = c.self.inside.members.items in
    let owner : owner_of c.args.bytes.now ≡ Some c.in-Some.sender = sym c.owner_of.ensures ∙ c.in-Some.is in
    let found : index_in c.in-Some.sender i ≡ None = ap (index_in c.in-Some.sender) (sym c.deref.ensures.value) ∙ sym c.index_of.ensures ∙ c.in_default-index_of.is in
    sym (subst (λ (xs : List Member). owner_in xs c.args.bytes.now ≡ None) c.self.view_is (owner_lost i c.in-Some.sender c.args.bytes.now owner found))

pub returns-in_default-index_of-clause-call : goal.returns-in_default-index_of-clause-call
returns-in_default-index_of-clause-call c =
    let i = c.self.inside.members.items in
    let owner : owner_of c.args.bytes.now ≡ Some c.in-Some.sender = sym c.owner_of.ensures ∙ c.in-Some.is in
    let found : index_in c.in-Some.sender i ≡ None = ap (index_in c.in-Some.sender) (sym c.deref.ensures.value) ∙ sym c.index_of.ensures ∙ c.in_default-index_of.is in
    passes c.args.self.now c.args.bytes.now c.args.now c.args.draw
    (subst (λ (xs : List Member). owner_in xs c.args.bytes.now ≡ None) c.self.view_is (owner_lost i c.in-Some.sender c.args.bytes.now owner found))

pub index_mut-requires : goal.index_mut-requires
index_mut-requires c =
    let i = c.self.inside.members.items in
    let found : index_in c.in-Some.sender i ≡ Some c.in-Some-index_of.at =
    ap (index_in c.in-Some.sender) (sym c.deref.ensures.value) ∙ sym c.index_of.ensures ∙ c.in-Some-index_of.is in
    let lt = index_within c.in-Some.sender i c.in-Some-index_of.at found in
    let many : length i ≡ c.self.inside.members.len = search rules in
    omega (arith, lt, many)

pub returns-in_err-deliver-clause-refused : goal.returns-in_err-deliver-clause-refused
returns-in_err-deliver-clause-refused c =
    let i = c.self.inside.members.items in
    let m = c.index_mut.result.now in
    let n = c.in-Some-index_of.at in
    let found : index_in c.in-Some.sender i ≡ Some n =
    ap (index_in c.in-Some.sender) (sym c.deref.ensures.value) ∙ sym c.index_of.ensures ∙ c.in-Some-index_of.is in
    on_err c.from_residual.result
    (subst (λ (xs : List Member). IsNoCall xs (set i n (record m { receiver = c.deliver.new.self }))) c.self.view_is
    (keeps i c.in-Some.sender n m (record m { receiver = c.deliver.new.self })
    (changed i c.in-Some.sender n m c.deliver.new.self found c.index_mut.ensures.value c.in_err-deliver.ensures.profile) c.in_err-deliver.ensures.refused))

pub returns-in_err-deliver-clause-wanted : goal.returns-in_err-deliver-clause-wanted
returns-in_err-deliver-clause-wanted c =
    let i = c.self.inside.members.items in
    let m = c.index_mut.result.now in
    let n = c.in-Some-index_of.at in
    let owner : owner_of c.args.bytes.now ≡ Some c.in-Some.sender = sym c.owner_of.ensures ∙ c.in-Some.is in
    let found : index_in c.in-Some.sender i ≡ Some n =
    ap (index_in c.in-Some.sender) (sym c.deref.ensures.value) ∙ sym c.index_of.ensures ∙ c.in-Some-index_of.is in
    let at = changed i c.in-Some.sender n m c.deliver.new.self found c.index_mut.ensures.value c.in_err-deliver.ensures.profile in
    on_err c.from_residual.result
    (subst (λ (xs : List Member). MayLackMemory xs c.args.bytes.now) c.self.view_is
    (may_lack i c.in-Some.sender n m c.args.bytes.now owner found at.there c.in_err-deliver.ensures.wanted))

pub returns-clause-owner : goal.returns-clause-owner
returns-clause-owner c =
    let i = c.self.inside.members.items in
    let m = c.index_mut.result.now in
    let n = c.in-Some-index_of.at in
    let owner : owner_of c.args.bytes.now ≡ Some c.in-Some.sender = sym c.owner_of.ensures ∙ c.in-Some.is in
    let found : index_in c.in-Some.sender i ≡ Some n =
    ap (index_in c.in-Some.sender) (sym c.deref.ensures.value) ∙ sym c.index_of.ensures ∙ c.in-Some-index_of.is in
    let at = changed i c.in-Some.sender n m c.deliver.new.self found c.index_mut.ensures.value c.in_ok-deliver.ensures.profile in
    sym (subst (λ (xs : List Member). owner_in xs c.args.bytes.now ≡ Some c.in-Some.sender) c.self.view_is
    (owner_found i c.in-Some.sender n m c.args.bytes.now owner found at.there))

pub returns-clause-call : goal.returns-clause-call
returns-clause-call c =
    let i = c.self.inside.members.items in
    let m = c.index_mut.result.now in
    let n = c.in-Some-index_of.at in
    let owner : owner_of c.args.bytes.now ≡ Some c.in-Some.sender = sym c.owner_of.ensures ∙ c.in-Some.is in
    let found : index_in c.in-Some.sender i ≡ Some n =
    ap (index_in c.in-Some.sender) (sym c.deref.ensures.value) ∙ sym c.index_of.ensures ∙ c.in-Some-index_of.is in
    call_of i (set i n (record m { receiver = c.deliver.new.self })) c.args.self.now (Delivered c.args.bytes.now c.args.now c.args.draw) c.self.view_is
    (delivers i c.in-Some.sender n m (record m { receiver = c.deliver.new.self }) c.args.bytes.now c.args.now c.args.draw owner
    (changed i c.in-Some.sender n m c.deliver.new.self found c.index_mut.ensures.value c.in_ok-deliver.ensures.profile) c.in_ok-deliver.ensures.stands)
