use Rattle.std.proofs.Common.{◌≡◌, ◌∙◌, sym, subst, ap, List, rules, Some, length, arith, refl}
use Rattle.std.specs.Prelude.{IsSome}
use Rattle.std.specs.Option.{option_map}
use Rattle.std.proofs.lemmas.Option.{slice_get_read}
use Rattle.norm_multi.specs.Calls.{index_in, member_of}
use Rattle.norm_multi.specs.declared.member.Member.{Member}
use Rattle.norm_multi.proofs.MemberLemmas.{index_within, member_at}
use Rattle.norm_multi.proofs.multi.Multi.receiver.Goals as goal

pub known_index-at-requires : goal.known_index-at-requires
known_index-at-requires c =
    subst (λ (xs : List Member). IsSome (member_of xs c.args.sender)) (sym (c.deref.ensures.value ∙ c.self.view_is)) c.requires

pub index-requires : goal.index-requires
index-requires c =
    let i = c.self.inside.members.items in
    let found : index_in c.args.sender i ≡ Some c.known_index-at.result = ap (index_in c.args.sender) (sym c.deref.ensures.value) ∙ c.known_index-at.ensures in
    let lt = index_within c.args.sender i c.known_index-at.result found in
    let many : length i ≡ c.self.inside.members.len = search rules in
    omega (arith, lt, many)

pub returns : goal.returns
returns c =
    let i = c.self.inside.members.items in
    let m = c.index.result.now in
    let n = c.known_index-at.result in
    let found : index_in c.args.sender i ≡ Some n = ap (index_in c.args.sender) (sym c.deref.ensures.value) ∙ c.known_index-at.ensures in
    ap (λ (xs : List Member). option_map (λ (x : Member). x.receiver) (member_of xs c.args.sender)) (sym c.self.view_is)
    ∙ ap (option_map (λ (x : Member). x.receiver)) (member_at c.args.sender i n m found
    (slice_get_read i (length i) n m refl (index_within c.args.sender i n found) c.index.ensures))
