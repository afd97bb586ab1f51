-- Members as they begin.
use Rattle.std.proofs.Common.{◌≡◌, ◌∙◌, ℕ, zero, suc, ◌+◌, List, [], ◌∷◌, ◌++◌, Bool, true, false, Some, take, sym, ap, subst, arith}
use Rattle.std.specs.Prelude.{slice_get, ◌==◌}
use Rattle.norm_base.specs.Settings.{Settings}
use Rattle.norm_receive_rules.specs.ReceiverState.{receiver_opening}
use Rattle.norm_receiver.specs.ReceiverSound.{StandsFor as ReceiverStands}
use Rattle.norm_multi.specs.Beginning.{AreBegun, IsBegun}
use Rattle.norm_multi.specs.Calls.{IsAlone, member_of}
use Rattle.norm_multi.specs.declared.member.Member.{Member}
use Rattle.norm_multi.proofs.MemberLemmas.{member_by}

pub begun_more : (list : List (Settings × ℕ)) (members : List Member) (x : Settings × ℕ) (m : Member) → AreBegun list members → IsBegun x m
    → AreBegun (list ++ x ∷ []) (members ++ m ∷ [])
begun_more [] [] x m h is = (is, tt)
begun_more [] (k ∷ members) x m h is = absurd h
begun_more (y ∷ list) [] x m h is = absurd h
begun_more (y ∷ list) (k ∷ members) x m h is = (h.0, begun_more list members x m h.1 is)

-- one more of a list
take_more : (list : List (Settings × ℕ)) (i : ℕ) (x : Settings × ℕ) → slice_get list i ≡ Some x → take (i + 1) list ≡ take i list ++ x ∷ []
take_more list i x h = let next : i + 1 ≡ suc i = omega arith in ap (λ n. take n list) next ∙ go list i x h
  where
    go : (list : List (Settings × ℕ)) (i : ℕ) (x : Settings × ℕ) → slice_get list i ≡ Some x → take (suc i) list ≡ take i list ++ x ∷ []
    go [] i x h = absurd (cc)
    go (y ∷ list) zero x h = ap (λ (z : Settings × ℕ). z ∷ []) (inside y x h)
      where
        inside : (y x : Settings × ℕ) → Some y ≡ Some x → y ≡ x
        inside y x h = cc
    go (y ∷ list) (suc i) x h = ap (λ zs. y ∷ zs) (go list i x h)

pub begun_next : (list : List (Settings × ℕ)) (i : ℕ) (x : Settings × ℕ) (members : List Member) (m : Member) → slice_get list i ≡ Some x
    → AreBegun (take i list) members → IsBegun x m → AreBegun (take (i + 1) list) (members ++ m ∷ [])
begun_next list i x members m here h is =
    subst (λ (xs : List (Settings × ℕ)). AreBegun xs (members ++ m ∷ [])) (sym (take_more list i x here)) (begun_more (take i list) members x m h is)

-- members as they begin, before any call
pub begun_alone : (list : List (Settings × ℕ)) (members : List Member) (s : ℕ) → AreBegun list members → IsAlone s [] (member_of members s)
begun_alone [] [] s h = tt
begun_alone [] (m ∷ members) s h = absurd h
begun_alone (x ∷ list) [] s h = absurd h
begun_alone (x ∷ list) (m ∷ members) s h = go (m.sender == s) (begun_alone list members s h.1)
  where
    go : (t : Bool) → IsAlone s [] (member_of members s) → IsAlone s [] (member_by t m members s)
    go true more = subst (λ node. ReceiverStands m.receiver (receiver_opening node)) (sym h.0.node) h.0.stands
    go false more = more
