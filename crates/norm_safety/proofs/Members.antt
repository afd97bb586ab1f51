-- Members stay members until they are struck, and nobody becomes one.
use Rattle.std.proofs.Common.{◌≡◌, ℕ, ◌<◌, cond, List, [], ◌∷◌, Bool, true, false, refl, sym, ap, ◌∙◌, subst, arith, ◌⊎◌, inl, inr}
use Rattle.std.specs.Prelude.{map, filter, not, nat_lt, ◌==◌, ◌||◌}
use Rattle.std.specs.List.{list_any}
use Rattle.std.proofs.lemmas.Bool.Decides.{Decides-eqb, Decides-ltb}
use Rattle.norm_order.specs.Sets.{with_member}
use Rattle.norm_send_rules.specs.SenderState.{Listing}
use Rattle.norm_safety.proofs.EntryLemmas.{clash}

-- a node has a listing
abbrev pub listed_in : ℕ → List Listing → Bool
listed_in node ls = list_any (λ (l : Listing). l.node == node) ls

-- a node is one of these
abbrev pub struck_in : ℕ → List ℕ → Bool
struck_in node struck = list_any (λ other. other == node) struck

-- Who is listed later was so before; who was struck stays so; and who was listed is so later, or was struck.
pub record Strikes (ls later : List Listing) (struck now : List ℕ) : Type 0 where
  pub back : (node : ℕ) → listed_in node later ≡ true → listed_in node ls ≡ true
  pub stays : (node : ℕ) → struck_in node struck ≡ true → struck_in node now ≡ true
  pub goes : (node : ℕ) → listed_in node ls ≡ true → (listed_in node later ≡ true) ⊎ (struck_in node now ≡ true)

pub all_stay : (ls : List Listing) (struck : List ℕ) → Strikes ls ls struck struck
all_stay ls struck = record { back = λ node h. h; stays = λ node h. h; goes = λ node h. inl h }

pub strikes_on : (a b c : List Listing) (r s t : List ℕ) → Strikes a b r s → Strikes b c s t → Strikes a c r t
strikes_on a b c r s t h g = record {
  back = λ node is. h.back node (g.back node is);
  stays = λ node is. g.stays node (h.stays node is);
  goes = λ node is. then node (h.goes node is);
}
  where
    then : (node : ℕ) → (listed_in node b ≡ true) ⊎ (struck_in node s ≡ true) → (listed_in node c ≡ true) ⊎ (struck_in node t ≡ true)
    then node (inl is) = g.goes node is
    then node (inr is) = inr (g.stays node is)

-- who is listed, by the nodes alone
listed_by : (node : ℕ) (ls : List Listing) → listed_in node ls ≡ struck_in node (map (λ (l : Listing). l.node) ls)
listed_by node [] = refl
listed_by node (l ∷ ls) = ap (λ (b : Bool). (l.node == node) || b) (listed_by node ls)

pub same_members : (ls later : List Listing) (struck : List ℕ) → map (λ (l : Listing). l.node) later ≡ map (λ (l : Listing). l.node) ls → Strikes ls later struck struck
same_members ls later struck e = record {
  back = λ node h. sym (same node) ∙ h;
  stays = λ node h. h;
  goes = λ node h. inl (same node ∙ h);
}
  where
    same : (node : ℕ) → listed_in node later ≡ listed_in node ls
    same node = listed_by node later ∙ ap (λ (ns : List ℕ). struck_in node ns) e ∙ sym (listed_by node ls)

-- ---- a strike

pub or_first : (a b : Bool) → a ≡ true → (a || b) ≡ true
or_first true b e = refl
or_first false b e = absurd (clash e)

pub or_second : (a b : Bool) → b ≡ true → (a || b) ≡ true
or_second true b e = refl
or_second false b e = e

pub of_or : (a b : Bool) → (a || b) ≡ true → (a ≡ true) ⊎ (b ≡ true)
of_or true b e = inl refl
of_or false b e = inr e

-- who was struck stays so as one more is
pub kept_with : (node x : ℕ) (ys : List ℕ) → struck_in node ys ≡ true → struck_in node (with_member nat_lt x ys) ≡ true
unfolding with_member
kept_with node x [] e = absurd (clash e)
kept_with node x (y ∷ ys) e = go (nat_lt x y) (nat_lt y x) (kept_with node x ys)
  where
    go : (b c : Bool) → (struck_in node ys ≡ true → struck_in node (with_member nat_lt x ys) ≡ true)
        → struck_in node (elim b [ true ↦ x ∷ y ∷ ys | false ↦ elim c [ true ↦ y ∷ with_member nat_lt x ys | false ↦ y ∷ ys ] ]) ≡ true
    go true c more = or_second (x == node) _ e
    go false true more = by (of_or (y == node) _ e)
      where
        by : ((y == node) ≡ true) ⊎ (struck_in node ys ≡ true) → ((y == node) || struck_in node (with_member nat_lt x ys)) ≡ true
        by (inl is) = or_first (y == node) _ is
        by (inr is) = or_second (y == node) _ (more is)
    go false false more = e

-- and so is that one
pub there_with : (x : ℕ) (ys : List ℕ) → struck_in x (with_member nat_lt x ys) ≡ true
unfolding with_member
there_with x [] = or_first (x == x) false ((Decides-eqb x x).1 refl)
there_with x (y ∷ ys) = go (nat_lt x y) (nat_lt y x) refl refl (there_with x ys)
  where
    not_less : (a b : ℕ) → nat_lt a b ≡ false → a < b → ⊥
    not_less a b e lt = clash (sym e ∙ (Decides-ltb a b).1 lt)

    same : nat_lt x y ≡ false → nat_lt y x ≡ false → y ≡ x
    same e f =
        let no : x < y → ⊥ = not_less x y e in
        let never : y < x → ⊥ = not_less y x f in
        omega arith

    go : (b c : Bool) → nat_lt x y ≡ b → nat_lt y x ≡ c → struck_in x (with_member nat_lt x ys) ≡ true
        → struck_in x (elim b [ true ↦ x ∷ y ∷ ys | false ↦ elim c [ true ↦ y ∷ with_member nat_lt x ys | false ↦ y ∷ ys ] ]) ≡ true
    go true c e f more = or_first (x == x) _ ((Decides-eqb x x).1 refl)
    go false true e f more = or_second (y == x) _ more
    go false false e f more = or_first (y == x) _ ((Decides-eqb y x).1 (same e f))

-- the listings but for a node's
abbrev pub others : ℕ → List Listing → List Listing
others node ls = filter (λ (l : Listing). not (l.node == node)) ls

others_back : (node other : ℕ) (ls : List Listing) → listed_in other (others node ls) ≡ true → listed_in other ls ≡ true
others_back node other [] e = e
others_back node other (l ∷ ls) e = go (not (l.node == node)) (others_back node other ls) e
  where
    go : (b : Bool) → (listed_in other (others node ls) ≡ true → listed_in other ls ≡ true)
        → listed_in other (cond b (l ∷ others node ls) (others node ls)) ≡ true → listed_in other (l ∷ ls) ≡ true
    go true more e = by (of_or (l.node == other) _ e)
      where
        by : ((l.node == other) ≡ true) ⊎ (listed_in other (others node ls) ≡ true) → ((l.node == other) || listed_in other ls) ≡ true
        by (inl is) = or_first (l.node == other) _ is
        by (inr is) = or_second (l.node == other) _ (more is)
    go false more e = or_second (l.node == other) _ (more e)

-- who is not that node stays listed
others_stay : (node other : ℕ) (ls : List Listing) → (node ≡ other → ⊥) → listed_in other ls ≡ true → listed_in other (others node ls) ≡ true
others_stay node other [] differ e = e
others_stay node other (l ∷ ls) differ e = go (l.node == node) refl (others_stay node other ls differ) (of_or (l.node == other) _ e)
  where
    go : (b : Bool) → (l.node == node) ≡ b → (listed_in other ls ≡ true → listed_in other (others node ls) ≡ true)
        → ((l.node == other) ≡ true) ⊎ (listed_in other ls ≡ true) → listed_in other (cond (not b) (l ∷ others node ls) (others node ls)) ≡ true
    go true is more (inl at) = absurd (differ (sym ((Decides-eqb l.node node).0 is) ∙ (Decides-eqb l.node other).0 at))
    go true is more (inr h) = more h
    go false is more (inl at) = or_first (l.node == other) _ at
    go false is more (inr h) = or_second (l.node == other) _ (more h)

pub one_struck : (node : ℕ) (ls : List Listing) (struck : List ℕ) → Strikes ls (others node ls) struck (with_member nat_lt node struck)
one_struck node ls struck = record {
  back = λ other h. others_back node other ls h;
  stays = λ other h. kept_with other node struck h;
  goes = λ other h. go other (node == other) refl h;
}
  where
    go : (other : ℕ) (b : Bool) → (node == other) ≡ b → listed_in other ls ≡ true
        → (listed_in other (others node ls) ≡ true) ⊎ (struck_in other (with_member nat_lt node struck) ≡ true)
    go other true e h =
        let S : ℕ → Type 0 = λ n. struck_in n (with_member nat_lt node struck) ≡ true in inr (subst S ((Decides-eqb node other).0 e) (there_with node struck))
    go other false e h = inl (others_stay node other ls (λ same. clash (sym e ∙ (Decides-eqb node other).1 same)) h)
