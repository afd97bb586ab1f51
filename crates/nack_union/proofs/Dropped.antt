-- What stands behind a drop point.
use Rattle.std.proofs.Common.{◌≡◌, ℕ, zero, suc, ◌<◌, ◌≤◌, ◌⊎◌, inl, inr, List, [], ◌∷◌, map, cond, Bool, true, false, refl, sym, ap, ◌∙◌, arith}
use Rattle.std.specs.Prelude.{not, filter}
use Rattle.std.proofs.lemmas.Bool.{cases_lt, lt-ltb, le-ltb}
use Rattle.std.proofs.lemmas.Bool.Decides.{Decides-ltb, Decides-eqb, Decides-and, Decides-or}
use Rattle.std.specs.Bool.{Decides}
use Rattle.fec_plan.specs.Points.{Point, point_of, point_before, position_before}
use Rattle.fec_plan.specs.declared.position.Position.{Position}
use Rattle.norm_order.specs.Sets.{with_member}
use Rattle.norm_send_rules.specs.Laws.{Rise}
use Rattle.norm_send_rules.specs.Wants.{want_before, want_index}
use Rattle.norm_send_rules.specs.InWindow.{stands_behind}
use Rattle.norm_send_rules.specs.declared.want.Want.{Want}
use Rattle.norm_send_rules.specs.declared.want.Want.TheVariants.{Info, Symbol}
use Rattle.norm_send_rules.proofs.ClosingLemmas.{Each, rise_more}
use Rattle.nack_union.specs.Slots.{want_at}

is_false : (t : Bool) → (t ≡ true → ⊥) → t ≡ false
is_false true h = absurd (h refl)
is_false false h = refl

point_decides : (a b : Point) → Decides (point_before a b) ((a.index < b.index) ⊎ ((a.index ≡ b.index) × (a.block < b.block)))
point_decides a b = Decides-or _ _ (Decides-ltb a.index b.index) (Decides-and _ _ (Decides-eqb a.index b.index) (Decides-ltb a.block b.block))

-- what is of an earlier object does not stand behind a point
pub not_behind : (d : Point) (w : Want) → want_index w < d.index → stands_behind d w ≡ false
not_behind d (Info i) lt = ap not (lt-ltb i d.index lt)
not_behind d (Symbol at) lt = ap not ((point_decides (point_of at) d).1 (inl lt))

-- what is of a later one does
pub behind_later : (d : Point) (w : Want) → d.index < want_index w → stands_behind d w ≡ true
behind_later d (Info i) lt = ap not (le-ltb i d.index (omega (arith, lt)))
behind_later d (Symbol at) lt = ap not (is_false _ (λ h. go ((point_decides (point_of at) d).0 h)))
  where
    go : (at.index < d.index) ⊎ ((at.index ≡ d.index) × (at.block < d.block)) → ⊥
    go (inl less) = omega (arith, lt, less)
    go (inr (same, less)) = omega (arith, lt, same)

-- and a symbol of a block from that of the point on
pub behind_block : (d : Point) (at : Position) → d.index ≤ at.index → (at.index ≡ d.index → d.block ≤ at.block) → stands_behind d (Symbol at) ≡ true
behind_block d at le from = ap not (is_false _ (λ h. go ((point_decides (point_of at) d).0 h)))
  where
    go : (at.index < d.index) ⊎ ((at.index ≡ d.index) × (at.block < d.block)) → ⊥
    go (inl less) = omega (arith, le, less)
    go (inr (same, less)) = let on = from same in omega (arith, on, less)

-- where a symbol stands behind a point
pub block_behind : (d : Point) (at : Position) → stands_behind d (Symbol at) ≡ true → (d.index ≤ at.index) × (at.index ≡ d.index → d.block ≤ at.block)
block_behind d at e = (first (cases_lt at.index d.index), λ same. second same (cases_lt at.block d.block))
  where
    clash : false ≡ true → ⊥
    clash h = cc

    first : (at.index < d.index) ⊎ (d.index ≤ at.index) → d.index ≤ at.index
    first (inl lt) = absurd (clash (sym (ap not ((point_decides (point_of at) d).1 (inl lt))) ∙ e))
    first (inr le) = le

    second : at.index ≡ d.index → (at.block < d.block) ⊎ (d.block ≤ at.block) → d.block ≤ at.block
    second same (inl lt) = absurd (clash (sym (ap not ((point_decides (point_of at) d).1 (inr (same, lt)))) ∙ e))
    second same (inr le) = le

-- what stands behind a point is of its object or a later one
pub index_behind : (d : Point) (w : Want) → stands_behind d w ≡ true → d.index ≤ want_index w
index_behind d w e = go (cases_lt (want_index w) d.index)
  where
    clash : false ≡ true → ⊥
    clash h = cc

    go : (want_index w < d.index) ⊎ (d.index ≤ want_index w) → d.index ≤ want_index w
    go (inl lt) = absurd (clash (sym (not_behind d w lt) ∙ e))
    go (inr le) = le

-- the symbols of a list as wants
pub symbols_with : (at : Position) (xs : List Position) → map Symbol (with_member position_before at xs) ≡ with_member want_before (Symbol at) (map Symbol xs)
unfolding with_member
symbols_with at [] = refl
symbols_with at (x ∷ xs) = go (position_before at x) (position_before x at) (symbols_with at xs)
  where
    go : (b c : Bool) → map Symbol (with_member position_before at xs) ≡ with_member want_before (Symbol at) (map Symbol xs)
        → map Symbol (elim b as (λ _. List Position) [ true ↦ at ∷ x ∷ xs | false ↦ elim c [ true ↦ x ∷ with_member position_before at xs | false ↦ x ∷ xs ] ])
        ≡ elim b as (λ _. List Want) [ true ↦ Symbol at ∷ Symbol x ∷ map Symbol xs | false ↦ elim c [ true ↦ Symbol x ∷ with_member want_before (Symbol at) (map Symbol xs) | false ↦ Symbol x ∷ map Symbol xs ] ]
    go true c rest = refl
    go false true rest = ap (λ ys. Symbol x ∷ ys) rest
    go false false rest = refl

pub front : (w : Want) (zs : List Want) → Each (want_before w) zs → with_member want_before w zs ≡ w ∷ zs
unfolding with_member
front w [] all = refl
front w (z ∷ zs) all = go (want_before w z) all.0
  where
    go : (b : Bool) → b ≡ true → elim b as (λ _. List Want) [ true ↦ w ∷ z ∷ zs | false ↦ elim (want_before z w) [ true ↦ z ∷ with_member want_before w zs | false ↦ z ∷ zs ] ] ≡ w ∷ z ∷ zs
    go true e = refl
    go false e = absurd (cc)

-- where w is put in front of a rising list, it is before all of it
pub first_of : (w y : Want) (ys : List Want) → want_before w y ≡ true → Rise (y ∷ ys) → Each (want_before w) (y ∷ ys)
unfolding with_member
first_of w y ys e rise = go (want_before w y) e (rise_more (w ∷ []) (y ∷ ys) rise)
  where
    go : (b : Bool) → b ≡ true
        → Rise (elim b as (λ _. List Want) [ true ↦ w ∷ y ∷ ys | false ↦ elim (want_before y w) [ true ↦ y ∷ with_member want_before w ys | false ↦ y ∷ ys ] ])
        → Each (want_before w) (y ∷ ys)
    go true e rise = rise.0
    go false e rise = absurd (cc)

-- dropping twice
pub filter_twice : (d e : Point) (xs : List Want) → ((w : Want) → stands_behind e w ≡ true → stands_behind d w ≡ true)
    → filter (stands_behind e) (filter (stands_behind d) xs) ≡ filter (stands_behind e) xs
filter_twice d e [] later = refl
filter_twice d e (w ∷ xs) later = go (stands_behind d w) (stands_behind e w) refl refl (filter_twice d e xs later)
  where
    go : (b c : Bool) → stands_behind d w ≡ b → stands_behind e w ≡ c → filter (stands_behind e) (filter (stands_behind d) xs) ≡ filter (stands_behind e) xs
        → filter (stands_behind e) (cond b (w ∷ filter (stands_behind d) xs) (filter (stands_behind d) xs)) ≡ cond c (w ∷ filter (stands_behind e) xs) (filter (stands_behind e) xs)
    go true c f g rest = ap (λ t. cond t (w ∷ filter (stands_behind e) (filter (stands_behind d) xs)) (filter (stands_behind e) (filter (stands_behind d) xs))) g ∙ ap (λ zs. cond c (w ∷ zs) zs) rest
    go false true f g rest = let h = later w g in absurd (cc)
    go false false f g rest = rest

pub index_at : (i a : ℕ) → want_index (want_at i a) ≡ i
index_at i zero = refl
index_at i (suc n) = refl
