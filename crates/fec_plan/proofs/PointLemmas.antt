-- The order of points, as propositions.
use Rattle.std.proofs.Common.{◌≡◌, ◌<◌, ◌≤◌, Bool, true, false, refl, sym, ◌∙◌, arith, ◌⊎◌, inl, inr}
use Rattle.std.specs.Prelude.{◌==◌, ◌||◌, ◌&&◌, nat_lt}
use Rattle.std.proofs.lemmas.Bool.Decides.{Decides-ltb, Decides-eqb}
use Rattle.fec_plan.specs.Points.{Point, point_before}

clash : false ≡ true → ⊥
clash e = cc

not_true : (b : Bool) → (b ≡ true → ⊥) → b ≡ false
not_true true h = absurd (h refl)
not_true false h = refl

-- which of two points is before the other, as an order of numbers
pub point_before_is : (a b : Point) → point_before a b ≡ true → (a.index < b.index) ⊎ ((a.index ≡ b.index) × (a.block < b.block))
point_before_is a b e = go (nat_lt a.index b.index) (a.index == b.index) (nat_lt a.block b.block) refl refl refl e
  where
    go : (l s m : Bool) → nat_lt a.index b.index ≡ l → (a.index == b.index) ≡ s → nat_lt a.block b.block ≡ m → (l || (s && m)) ≡ true
        → (a.index < b.index) ⊎ ((a.index ≡ b.index) × (a.block < b.block))
    go true s m f g h e = inl ((Decides-ltb a.index b.index).0 f)
    go false true true f g h e = inr ((Decides-eqb a.index b.index).0 g, (Decides-ltb a.block b.block).0 h)
    go false true false f g h e = absurd (clash e)
    go false false m f g h e = absurd (clash e)

pub not_before : (a b : Point) → (b.index < a.index) ⊎ ((b.index ≡ a.index) × (b.block ≤ a.block)) → point_before a b ≡ false
not_before a b h = not_true (point_before a b) (λ e. go (point_before_is a b e) h)
  where
    go : (a.index < b.index) ⊎ ((a.index ≡ b.index) × (a.block < b.block)) → (b.index < a.index) ⊎ ((b.index ≡ a.index) × (b.block ≤ a.block)) → ⊥
    go (inl lt) (inl gt) = omega arith
    go (inl lt) (inr (same, le)) = omega arith
    go (inr (same, lt)) (inl gt) = omega arith
    go (inr (same, lt)) (inr (too, le)) = omega arith

pub behind_point : (a b : Point) → point_before a b ≡ false → (b.index < a.index) ⊎ ((b.index ≡ a.index) × (b.block ≤ a.block))
behind_point a b e = go (nat_lt a.index b.index) (a.index == b.index) (nat_lt a.block b.block) refl refl refl e
  where
    go : (l s m : Bool) → nat_lt a.index b.index ≡ l → (a.index == b.index) ≡ s → nat_lt a.block b.block ≡ m → (l || (s && m)) ≡ false
        → (b.index < a.index) ⊎ ((b.index ≡ a.index) × (b.block ≤ a.block))
    go true s m f g h e = absurd (clash (sym e))
    go false true true f g h e = absurd (clash (sym e))
    go false true false f g h e =
        let same = (Decides-eqb a.index b.index).0 g in
        let no : a.block < b.block → ⊥ = λ lt. clash (sym h ∙ (Decides-ltb a.block b.block).1 lt) in inr (sym same, omega arith)
    go false false m f g h e =
        let less : a.index < b.index → ⊥ = λ lt. clash (sym f ∙ (Decides-ltb a.index b.index).1 lt) in
        let same : a.index ≡ b.index → ⊥ = λ is. clash (sym g ∙ (Decides-eqb a.index b.index).1 is) in inl (omega arith)

pub not_before_itself : (a : Point) → point_before a a ≡ false
not_before_itself a = not_before a a (inr (refl, omega arith))

pub not_before_both : (a b c : Point) → point_before b a ≡ false → point_before c b ≡ false → point_before c a ≡ false
not_before_both a b c h g = not_before c a (go (behind_point b a h) (behind_point c b g))
  where
    go : (a.index < b.index) ⊎ ((a.index ≡ b.index) × (a.block ≤ b.block)) → (b.index < c.index) ⊎ ((b.index ≡ c.index) × (b.block ≤ c.block))
        → (a.index < c.index) ⊎ ((a.index ≡ c.index) × (a.block ≤ c.block))
    go (inl x) (inl y) = inl (omega arith)
    go (inl x) (inr (same, y)) = inl (omega arith)
    go (inr (same, x)) (inl y) = inl (omega arith)
    go (inr (same, x)) (inr (too, y)) = inr (same ∙ too, omega arith)
