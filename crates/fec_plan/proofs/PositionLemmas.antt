-- The order of positions, as propositions.
use Rattle.std.proofs.Common.{◌≡◌, ◌<◌, ◌≤◌, ◌⊎◌, inl, inr, Bool, true, false, refl, sym, ap, ◌∙◌, subst, arith}
use Rattle.std.specs.Bool.{Decides}
use Rattle.std.proofs.lemmas.Bool.{cases_lt}
use Rattle.std.proofs.lemmas.Bool.Decides.{Decides-ltb, Decides-eqb, Decides-and, Decides-or, Decides-not}
use Rattle.fec_plan.specs.OrderLaws.{PositionsAreOrdered}
use Rattle.fec_plan.specs.Points.{Position, position, position_before, same_position, reaches}

-- a is before b
abbrev pub Before : Position → Position → Type 0
Before a b =
    ((a.index < b.index) ⊎ ((a.index ≡ b.index) × (a.block < b.block)))
    ⊎ (((a.index ≡ b.index) × (a.block ≡ b.block)) × (a.symbol < b.symbol))

-- a is at b or behind it
abbrev pub Behind : Position → Position → Type 0
Behind a b = (b.index < a.index) ⊎ ((b.index ≡ a.index) × ((b.block < a.block) ⊎ ((b.block ≡ a.block) × (b.symbol ≤ a.symbol))))

pub before_decides : (a b : Position) → Decides (position_before a b) (Before a b)
before_decides a b = Decides-or _ _
    (Decides-or _ _ (Decides-ltb a.index b.index) (Decides-and _ _ (Decides-eqb a.index b.index) (Decides-ltb a.block b.block)))
    (Decides-and _ _ (Decides-and _ _ (Decides-eqb a.index b.index) (Decides-eqb a.block b.block)) (Decides-ltb a.symbol b.symbol))

reaches_decides : (a b : Position) → Decides (reaches a b) (Before a b → ⊥)
reaches_decides a b = Decides-not _ (before_decides a b)

pub behind : (a b : Position) → reaches a b ≡ true → Behind a b
behind a b e = go (cases_lt b.index a.index) (cases_lt b.block a.block) (cases_lt a.symbol b.symbol)
  where
    never : Before a b → ⊥
    never = (reaches_decides a b).0 e

    same : a.index ≤ b.index → b.index ≡ a.index
    same le = elim (cases_lt a.index b.index) [ inl lt ↦ absurd (never (inl (inl lt))) | inr ge ↦ omega arith ]

    same_block : a.index ≤ b.index → a.block ≤ b.block → b.block ≡ a.block
    same_block le below = elim (cases_lt a.block b.block) [ inl lt ↦ absurd (never (inl (inr (sym (same le), lt)))) | inr ge ↦ omega arith ]

    go : (b.index < a.index) ⊎ (a.index ≤ b.index) → (b.block < a.block) ⊎ (a.block ≤ b.block) → (a.symbol < b.symbol) ⊎ (b.symbol ≤ a.symbol) → Behind a b
    go (inl lt) q r = inl lt
    go (inr le) (inl lt) r = inr (same le, inl lt)
    go (inr le) (inr below) (inl lt) = absurd (never (inr ((sym (same le), sym (same_block le below)), lt)))
    go (inr le) (inr below) (inr at) = inr (same le, inr (same_block le below, at))

not_before : (a b : Position) → Behind a b → Before a b → ⊥
not_before a b (inl lt) (inl (inl less)) = omega arith
not_before a b (inl lt) (inl (inr (same, less))) = omega arith
not_before a b (inl lt) (inr ((f, g), less)) = omega arith
not_before a b (inr (same, inl lt)) (inl (inl less)) = omega arith
not_before a b (inr (same, inl lt)) (inl (inr (e, less))) = omega arith
not_before a b (inr (same, inl lt)) (inr ((e, f), less)) = omega arith
not_before a b (inr (same, inr (s, le))) (inl (inl less)) = omega arith
not_before a b (inr (same, inr (s, le))) (inl (inr (e, less))) = omega arith
not_before a b (inr (same, inr (s, le))) (inr ((e, f), less)) = omega arith

pub reached : (a b : Position) → Behind a b → reaches a b ≡ true
reached a b h = (reaches_decides a b).1 (not_before a b h)

pub behind_both : (a b c : Position) → Behind a b → Behind b c → Behind a c
behind_both a b c (inl h) (inl k) = inl (omega arith)
behind_both a b c (inl h) (inr (same, k)) = inl (omega arith)
behind_both a b c (inr (e, h)) (inl k) = inl (omega arith)
behind_both a b c (inr (e, inl h)) (inr (f, inl k)) = inr (omega arith, inl (omega arith))
behind_both a b c (inr (e, inl h)) (inr (f, inr (g, k))) = inr (omega arith, inl (omega arith))
behind_both a b c (inr (e, inr (g, h))) (inr (f, inl k)) = inr (omega arith, inl (omega arith))
behind_both a b c (inr (e, inr (g, h))) (inr (f, inr (i, k))) = inr (omega arith, inr (omega arith, omega arith))

pub before_both : (a b c : Position) → Before a b → Before b c → Before a c
before_both a b c (inl (inl h)) (inl (inl k)) = inl (inl (omega arith))
before_both a b c (inl (inl h)) (inl (inr (e, k))) = inl (inl (omega arith))
before_both a b c (inl (inl h)) (inr ((e, f), k)) = inl (inl (omega arith))
before_both a b c (inl (inr (e, h))) (inl (inl k)) = inl (inl (omega arith))
before_both a b c (inl (inr (e, h))) (inl (inr (f, k))) = inl (inr (omega arith, omega arith))
before_both a b c (inl (inr (e, h))) (inr ((f, g), k)) = inl (inr (omega arith, omega arith))
before_both a b c (inr ((e, g), h)) (inl (inl k)) = inl (inl (omega arith))
before_both a b c (inr ((e, g), h)) (inl (inr (f, k))) = inl (inr (omega arith, omega arith))
before_both a b c (inr ((e, g), h)) (inr ((f, i), k)) = inr ((omega arith, omega arith), omega arith)

no_way_back : (a b : Position) → Before a b → Before b a → ⊥
no_way_back a b (inl (inl h)) (inl (inl k)) = omega arith
no_way_back a b (inl (inl h)) (inl (inr (e, k))) = omega arith
no_way_back a b (inl (inl h)) (inr ((e, f), k)) = omega arith
no_way_back a b (inl (inr (e, h))) (inl (inl k)) = omega arith
no_way_back a b (inl (inr (e, h))) (inl (inr (f, k))) = omega arith
no_way_back a b (inl (inr (e, h))) (inr ((f, g), k)) = omega arith
no_way_back a b (inr ((e, g), h)) (inl (inl k)) = omega arith
no_way_back a b (inr ((e, g), h)) (inl (inr (f, k))) = omega arith
no_way_back a b (inr ((e, g), h)) (inr ((f, i), k)) = omega arith

not_itself : (a : Position) → Before a a → ⊥
not_itself a (inl (inl k)) = omega arith
not_itself a (inl (inr (e, k))) = omega arith
not_itself a (inr (e, k)) = omega arith

pub not_both : (a b : Position) → (a ≡ b) ⊎ Before a b → Before b a → ⊥
not_both a b (inl same) k = not_itself b (subst (λ (c : Position). Before b c) same k)
not_both a b (inr h) k = no_way_back a b h k

same_decides : (a b : Position) → Decides (same_position a b) (((a.index ≡ b.index) × (a.block ≡ b.block)) × (a.symbol ≡ b.symbol))
same_decides a b = Decides-and _ _ (Decides-and _ _ (Decides-eqb a.index b.index) (Decides-eqb a.block b.block)) (Decides-eqb a.symbol b.symbol)

-- positions that are the same by the test are equal
pub positions_same : (a b : Position) → same_position a b ≡ true → a ≡ b
positions_same a b e =
    let same = (same_decides a b).0 e in
    ap (λ x. position x a.block a.symbol) same.0.0
    ∙ ap (λ x. position b.index x a.symbol) same.0.1
    ∙ ap (λ x. position b.index b.block x) same.1

pub position_itself : (a : Position) → same_position a a ≡ true
position_itself a = (same_decides a a).1 ((refl, refl), refl)

false_where : (b : Bool) → (b ≡ true → ⊥) → b ≡ false
false_where true never = absurd (never refl)
false_where false never = refl

total : (a b : Position) → (a ≡ b) ⊎ ((position_before a b ≡ true) ⊎ (position_before b a ≡ true))
total a b = go (cases_lt a.index b.index) (cases_lt b.index a.index) (cases_lt a.block b.block) (cases_lt b.block a.block) (cases_lt a.symbol b.symbol) (cases_lt b.symbol a.symbol)
  where
    go : (a.index < b.index) ⊎ (b.index ≤ a.index) → (b.index < a.index) ⊎ (a.index ≤ b.index) → (a.block < b.block) ⊎ (b.block ≤ a.block)
        → (b.block < a.block) ⊎ (a.block ≤ b.block) → (a.symbol < b.symbol) ⊎ (b.symbol ≤ a.symbol) → (b.symbol < a.symbol) ⊎ (a.symbol ≤ b.symbol)
        → (a ≡ b) ⊎ ((position_before a b ≡ true) ⊎ (position_before b a ≡ true))
    go (inl lt) q r s t u = inr (inl ((before_decides a b).1 (inl (inl lt))))
    go (inr ge) (inl gt) r s t u = inr (inr ((before_decides b a).1 (inl (inl gt))))
    go (inr ge) (inr le) (inl lt) s t u = inr (inl ((before_decides a b).1 (inl (inr (omega arith, lt)))))
    go (inr ge) (inr le) (inr bge) (inl gt) t u = inr (inr ((before_decides b a).1 (inl (inr (omega arith, gt)))))
    go (inr ge) (inr le) (inr bge) (inr ble) (inl lt) u = inr (inl ((before_decides a b).1 (inr ((omega arith, omega arith), lt))))
    go (inr ge) (inr le) (inr bge) (inr ble) (inr sge) (inl gt) = inr (inr ((before_decides b a).1 (inr ((omega arith, omega arith), gt))))
    go (inr ge) (inr le) (inr bge) (inr ble) (inr sge) (inr sle) =
        inl (positions_same a b ((same_decides a b).1 ((omega arith, omega arith), omega arith)))

-- positions are in one order
pub positions_are_ordered : PositionsAreOrdered
positions_are_ordered = record {
  same = positions_same;
  never_itself = λ a. false_where (position_before a a) (λ e. not_itself a ((before_decides a a).0 e));
  transitive = λ a b c h k. (before_decides a c).1 (before_both a b c ((before_decides a b).0 h) ((before_decides b c).0 k));
  one_way = λ a b h. false_where (position_before b a) (λ e. no_way_back a b ((before_decides a b).0 h) ((before_decides b a).0 e));
  total = total;
}
