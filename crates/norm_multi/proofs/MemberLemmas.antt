-- Members by their senders.
use Rattle.std.proofs.Common.{◌≡◌, ℕ, zero, suc, List, [], ◌∷◌, Bool, true, false, Option, None, Some, refl, sym, ap, ◌∙◌, ◌<◌, set, cond, length, arith}
use Rattle.std.specs.Prelude.{◌==◌, slice_get, IsSome}
use Rattle.std.specs.Option.{option_map}
use Rattle.std.proofs.lemmas.Bool.Decides.{Decides-eqb}
use Rattle.norm_multi.specs.Calls.{index_in, member_of}
use Rattle.norm_multi.specs.declared.member.Member.{Member}

pub is_same : (a b : ℕ) → (a == b) ≡ true → a ≡ b
is_same a b e = (Decides-eqb a b).0 e

pub same_self : (a : ℕ) → (a == a) ≡ true
same_self a = (Decides-eqb a a).1 refl

pub not_same : (a b : ℕ) → (a ≡ b → ⊥) → (a == b) ≡ false
not_same a b h = go (a == b) refl
  where
    go : (t : Bool) → (a == b) ≡ t → t ≡ false
    go true e = absurd (h (is_same a b e))
    go false e = refl

-- the first member, or one after it
abbrev pub member_by : Bool → Member → List Member → ℕ → Option Member
member_by here m members s = cond here (Some m) (member_of members s)

abbrev index_by : Bool → List Member → ℕ → Option ℕ
index_by here members s = cond here (Some 0) (option_map suc (index_in s members))

after : (o : Option ℕ) (n : ℕ) → option_map suc o ≡ Some (suc n) → o ≡ Some n
after None n e = absurd (cc)
after (Some k) n e = ap Some (inner k n e)
  where
    inner : (k n : ℕ) → Some (suc k) ≡ Some (suc n) → k ≡ n
    inner k n e = cc

never_first : (o : Option ℕ) → option_map suc o ≡ Some zero → ⊥
never_first None e = cc
never_first (Some k) e = cc

none_after : (o : Option ℕ) → option_map suc o ≡ None → o ≡ None
none_after None e = refl
none_after (Some k) e = absurd (cc)

pub member_in : (x m : Member) → Some x ≡ Some m → x ≡ m
member_in x m e = cc

-- the member that stands at a sender's index
pub member_at : (s : ℕ) (members : List Member) (n : ℕ) (m : Member) → index_in s members ≡ Some n → slice_get members n ≡ Some m → member_of members s ≡ Some m
member_at s [] n m e g = absurd (cc)
member_at s (x ∷ members) n m e g = go (x.sender == s) n e g (λ k. member_at s members k m)
  where
    go : (t : Bool) (n : ℕ) → index_by t members s ≡ Some n → slice_get (x ∷ members) n ≡ Some m
        → ((k : ℕ) → index_in s members ≡ Some k → slice_get members k ≡ Some m → member_of members s ≡ Some m) → member_by t x members s ≡ Some m
    go true zero e g more = g
    go true (suc n) e g more = absurd (cc)
    go false zero e g more = absurd (never_first (index_in s members) e)
    go false (suc n) e g more = more n (after (index_in s members) n e) g

-- an index is one of the list
pub index_within : (s : ℕ) (members : List Member) (n : ℕ) → index_in s members ≡ Some n → n < length members
index_within s [] n e = absurd (cc)
index_within s (x ∷ members) n e = go (x.sender == s) n e (index_within s members)
  where
    go : (t : Bool) (n : ℕ) → index_by t members s ≡ Some n → ((k : ℕ) → index_in s members ≡ Some k → k < length members) → n < length (x ∷ members)
    go true zero e more = omega arith
    go true (suc n) e more = absurd (cc)
    go false zero e more = absurd (never_first (index_in s members) e)
    go false (suc n) e more = let lt = more n (after (index_in s members) n e) in omega (arith, lt)

pub member_none : (s : ℕ) (members : List Member) → index_in s members ≡ None → member_of members s ≡ None
member_none s [] e = refl
member_none s (x ∷ members) e = go (x.sender == s) e (member_none s members)
  where
    go : (t : Bool) → index_by t members s ≡ None → (index_in s members ≡ None → member_of members s ≡ None) → member_by t x members s ≡ None
    go true e more = absurd (cc)
    go false e more = more (none_after (index_in s members) e)

-- a member replaces another of its sender: it is that sender's, and all others stay
pub member_set : (s : ℕ) (members : List Member) (n : ℕ) (m k : Member) → index_in s members ≡ Some n → slice_get members n ≡ Some m → k.sender ≡ m.sender
    → member_of (set members n k) s ≡ Some k
member_set s [] n m k e g same = absurd (cc)
member_set s (x ∷ members) n m k e g same = go (x.sender == s) refl n e g (λ i e g. member_set s members i m k e g same)
  where
    go : (t : Bool) → (x.sender == s) ≡ t → (n : ℕ) → index_by t members s ≡ Some n → slice_get (x ∷ members) n ≡ Some m
        → ((i : ℕ) → index_in s members ≡ Some i → slice_get members i ≡ Some m → member_of (set members i k) s ≡ Some k)
        → member_of (set (x ∷ members) n k) s ≡ Some k
    go true is zero e g more =
        ap (λ b. cond b (Some k) (member_of members s)) (ap (λ i. i == s) (same ∙ ap (λ (y : Member). y.sender) (sym (member_in x m g))) ∙ is)
    go true is (suc n) e g more = absurd (cc)
    go false is zero e g more = absurd (never_first (index_in s members) e)
    go false is (suc n) e g more =
        ap (λ b. cond b (Some x) (member_of (set members n k) s)) is ∙ more n (after (index_in s members) n e) g

pub member_stays : (s other : ℕ) (members : List Member) (n : ℕ) (m k : Member) → index_in s members ≡ Some n → slice_get members n ≡ Some m → k.sender ≡ m.sender
    → (s ≡ other → ⊥) → member_of (set members n k) other ≡ member_of members other
member_stays s other [] n m k e g same differs = absurd (cc)
member_stays s other (x ∷ members) n m k e g same differs =
    go (x.sender == s) refl n e g (λ i e g. member_stays s other members i m k e g same differs)
  where
    go : (t : Bool) → (x.sender == s) ≡ t → (n : ℕ) → index_by t members s ≡ Some n → slice_get (x ∷ members) n ≡ Some m
        → ((i : ℕ) → index_in s members ≡ Some i → slice_get members i ≡ Some m → member_of (set members i k) other ≡ member_of members other)
        → member_of (set (x ∷ members) n k) other ≡ member_of (x ∷ members) other
    go true is zero e g more =
        let x_is : x.sender ≡ s = is_same x.sender s is in
        let k_is : k.sender ≡ s = same ∙ ap (λ (y : Member). y.sender) (sym (member_in x m g)) ∙ x_is in
        ap (λ b. cond b (Some k) (member_of members other)) (not_same k.sender other (λ is. differs (sym k_is ∙ is)))
        ∙ sym (ap (λ b. cond b (Some x) (member_of members other)) (not_same x.sender other (λ is. differs (sym x_is ∙ is))))
    go true is (suc n) e g more = absurd (cc)
    go false is zero e g more = absurd (never_first (index_in s members) e)
    go false is (suc n) e g more = ap (λ o. cond (x.sender == other) (Some x) o) (more n (after (index_in s members) n e) g)

some_none : {X : Type 0} (o : Option X) → IsSome o → o ≡ None → ⊥
some_none None h e = cc
some_none (Some x) h e = cc

-- a sender that has a member has an index
pub index_missing : (s : ℕ) (members : List Member) → IsSome (member_of members s) → index_in s members ≡ None → ⊥
index_missing s members h e = some_none (member_of members s) h (member_none s members e)
