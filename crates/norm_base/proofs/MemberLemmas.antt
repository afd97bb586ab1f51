-- The receivers of a profile, one by one.
use Rattle.std.proofs.Common.{◌≡◌, ℕ, zero, suc, ◌+◌, ◌<◌, ◌≤◌, ◌⊎◌, inl, inr, List, [], ◌∷◌, ◌++◌, length, get_or, Bool, true, false, refl, sym, ap, ◌∙◌, arith, length-append}
use Rattle.std.specs.Prelude.{◌==◌, ◌||◌, nat_eq, nat_le}
use Rattle.std.specs.List.{list_any, AllByRecursion, IsDistinct}
use Rattle.std.specs.Bool.{Decides}
use Rattle.std.proofs.lemmas.Bool.{cases_lt}
use Rattle.std.proofs.lemmas.Bool.Decides.{Decides-ltb, Decides-eqb, Decides-and, Decides-or}
use Rattle.std.proofs.lemmas.List.{get_or_append_left, get_or-append-add}
use Rattle.std.proofs.lemmas.List.Folds.{list_any-append}
use Rattle.norm_base.specs.Settings.{Settings, InRange}
use Rattle.norm_base.specs.Member.{IsMember}
use Rattle.norm_base.specs.Members.{receivers_of, is_receiver}
use Rattle.norm_base.specs.MemberLaws.{MemberLaws}

count : (p : Settings) (n : ℕ) → length (receivers_of p n) ≡ n
count p zero = refl
count p (suc n) = omega (arith, length-append (receivers_of p n) ((p.sender + 1 + n) ∷ []), count p n)

each : (p : Settings) (n i d : ℕ) → i < n → get_or (receivers_of p n) i d ≡ p.sender + 1 + i
each p zero i d lt = absurd (omega arith)
each p (suc n) i d lt = go (each p n i d) (cases_lt i n)
  where
    last : ℕ → List ℕ
    last k = (p.sender + 1 + k) ∷ []

    go : (i < n → get_or (receivers_of p n) i d ≡ p.sender + 1 + i) → (i < n) ⊎ (n ≤ i) → get_or (receivers_of p n ++ last n) i d ≡ p.sender + 1 + i
    go front (inl less) =
        get_or_append_left (receivers_of p n) (last n) d i (omega (arith, count p n)) ∙ front less
    go front (inr more) =
        let is : i ≡ length (receivers_of p n) + 0 = omega (arith, count p n) in
        ap (λ k. get_or (receivers_of p n ++ last n) k d) is
        ∙ get_or-append-add (receivers_of p n) (last n) 0 d ∙ omega (arith, count p n)

-- each of the first receivers is before the next
others : (p : Settings) (n next : ℕ) → p.sender + n < next → AllByRecursion (λ r. nat_eq r next ≡ false) (receivers_of p n)
others p zero next lt = tt
others p (suc n) next lt = all_append (receivers_of p n) (others p n next (omega arith)) (differ (p.sender + 1 + n) (omega arith))
  where
    differ : (r : ℕ) → r < next → nat_eq r next ≡ false
    differ r less = go (nat_eq r next) refl
      where
        go : (b : Bool) → nat_eq r next ≡ b → nat_eq r next ≡ false
        go true e = let same = (Decides-eqb r next).0 e in absurd (omega arith)
        go false e = e

    all_append : (rs : List ℕ) → AllByRecursion (λ r. nat_eq r next ≡ false) rs → nat_eq (p.sender + 1 + n) next ≡ false
        → AllByRecursion (λ r. nat_eq r next ≡ false) (rs ++ (p.sender + 1 + n) ∷ [])
    all_append [] all one = (one, tt)
    all_append (r ∷ rs) all one = (all.0, all_append rs all.1 one)

distinct : (p : Settings) (n : ℕ) → IsDistinct nat_eq (receivers_of p n)
unfolding IsDistinct
distinct p zero = tt
distinct p (suc n) = with_last (receivers_of p n) (p.sender + 1 + n) (distinct p n) (others p n (p.sender + 1 + n) (omega arith))
  where
    all_onto : (x next : ℕ) (rs : List ℕ) → AllByRecursion (λ y. nat_eq x y ≡ false) rs → nat_eq x next ≡ false
        → AllByRecursion (λ y. nat_eq x y ≡ false) (rs ++ next ∷ [])
    all_onto x next [] all one = (one, tt)
    all_onto x next (r ∷ rs) all one = (all.0, all_onto x next rs all.1 one)

    with_last : (rs : List ℕ) (next : ℕ) → IsDistinct nat_eq rs → AllByRecursion (λ r. nat_eq r next ≡ false) rs → IsDistinct nat_eq (rs ++ next ∷ [])
    with_last [] next all apart = (tt, tt)
    with_last (r ∷ rs) next all apart = (all_onto r next rs all.0 apart.0, with_last rs next all.1 apart.1)

-- a node is one of the first receivers exactly where its id is among theirs
abbrev Among : Settings → ℕ → ℕ → Type 0
Among p n node = (p.sender < node) × (node ≤ p.sender + n)

same_test : {P : Type 0} (a b : Bool) → Decides a P → Decides b P → a ≡ b
same_test true b da db = sym (db.1 (da.0 refl))
same_test false true da db = da.1 (db.0 refl)
same_test false false da db = refl

among : (p : Settings) (n node : ℕ) → Decides (list_any (λ r. r == node) (receivers_of p n)) (Among p n node)
among p zero node = (λ e. absurd (no e), λ h. let a = h.0 in let b = h.1 in absurd (omega arith))
  where
    no : false ≡ true → ⊥
    no e = cc
among p (suc n) node = let two = either (among p n node) in (λ e. to (two.0 (sym split ∙ e)), λ h. split ∙ two.1 (from h))
  where
    split : list_any (λ r. r == node) (receivers_of p n ++ (p.sender + 1 + n) ∷ [])
        ≡ (list_any (λ r. r == node) (receivers_of p n) || (p.sender + 1 + n == node))
    split = list_any-append (λ r. r == node) (receivers_of p n) ((p.sender + 1 + n) ∷ [])
        ∙ ap (λ b. list_any (λ r. r == node) (receivers_of p n) || b) (or_false (p.sender + 1 + n == node))
      where
        or_false : (b : Bool) → (b || false) ≡ b
        or_false true = refl
        or_false false = refl

    either : Decides (list_any (λ r. r == node) (receivers_of p n)) (Among p n node)
        → Decides (list_any (λ r. r == node) (receivers_of p n) || (p.sender + 1 + n == node)) (Among p n node ⊎ (p.sender + 1 + n ≡ node))
    either front = Decides-or _ _ front (Decides-eqb (p.sender + 1 + n) node)

    to : Among p n node ⊎ (p.sender + 1 + n ≡ node) → Among p (suc n) node
    to (inl h) = let a = h.0 in let b = h.1 in (a, omega arith)
    to (inr is) = (omega arith, omega arith)

    from : Among p (suc n) node → Among p n node ⊎ (p.sender + 1 + n ≡ node)
    from h = let a = h.0 in let b = h.1 in elim (cases_lt (p.sender + n) node) [ inl more ↦ inr (omega arith) | inr le ↦ inl (a, le) ]

is_among : (p : Settings) (node : ℕ) → Decides (is_receiver p node) (Among p p.receivers node)
is_among p node = Decides-and _ _ (Decides-ltb p.sender node) (le_decides node (p.sender + p.receivers))
  where
    le_decides : (a b : ℕ) → Decides (nat_le a b) (a ≤ b)
    le_decides a b = (λ e. grind arith, λ h. grind arith)

receivers : (p : Settings) (node : ℕ) → list_any (λ r. r == node) (receivers_of p p.receivers) ≡ is_receiver p node
receivers p node = same_test _ _ (among p p.receivers node) (is_among p node)

turned : (a b : ℕ) → (a == b) ≡ (b == a)
turned a b = grind arith

-- what is promised of the members
pub member_laws : MemberLaws
member_laws = record {
  count = count;
  each = each;
  distinct = distinct;
  receivers = receivers;
  nodes = λ p node. ap (λ b. (p.sender == node) || b) (receivers p node) ∙ ap (λ b. b || is_receiver p node) (turned p.sender node);
  members = λ p range node e. inside p range node ((Decides-or _ _ (Decides-eqb node p.sender) (is_among p node)).0 e);
}
  where
    inside : (p : Settings) → InRange p → (node : ℕ) → (node ≡ p.sender) ⊎ Among p p.receivers node → IsMember node
    inside p range node (inl is) = (omega (arith, range.sender.0), omega (arith, range.sender.1))
    inside p range node (inr h) = let a = h.0 in let b = h.1 in (omega (arith, range.sender.0), omega (arith, range.sender.1, range.receivers.1))
