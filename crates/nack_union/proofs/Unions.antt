-- Sets of wants that are put together.
use Rattle.std.proofs.Common.{◌≡◌, ◌<◌, ◌≤◌, ◌⊎◌, inl, inr, List, [], ◌∷◌, Bool, true, false, refl, sym, ap, ◌∙◌, arith}
use Rattle.std.proofs.lemmas.Bool.{cases_order, cases_lt, lt-ltb, le-ltb, le-leb, lt-leb}
use Rattle.fec_plan.specs.Points.{position_before}
use Rattle.fec_plan.specs.declared.position.Position.{Position}
use Rattle.norm_order.specs.Sets.{with_member, with_members}
use Rattle.fec_plan.proofs.PositionLemmas.{Before, before_decides, not_both}
use Rattle.norm_send_rules.specs.Wants.{want_before}
use Rattle.norm_send_rules.specs.declared.want.Want.{Want}
use Rattle.norm_send_rules.specs.declared.want.Want.TheVariants.{Info, Symbol}
use Rattle.nack_union.specs.Laws.{RoundsAreCollected}
use Rattle.nack_union.proofs.Dropped.{first_of}

-- which of two wants is first, or that they are one
abbrev pub Side : Want → Want → Type 0
Side v w =
    ((want_before v w ≡ true) × (want_before w v ≡ false))
    ⊎ ((v ≡ w) ⊎ ((want_before v w ≡ false) × (want_before w v ≡ true)))

positions : (a b : Position) → Before a b → (position_before a b ≡ true) × (position_before b a ≡ false)
positions a b h = ((before_decides a b).1 h, is_false (position_before b a) (λ e. not_both a b (inr h) ((before_decides b a).0 e)))
  where
    is_false : (t : Bool) → (t ≡ true → ⊥) → t ≡ false
    is_false true k = absurd (k refl)
    is_false false k = refl

pub side : (v w : Want) → Side v w
side (Info i) (Info j) = go (cases_order i j)
  where
    go : (i ≡ j) ⊎ ((i < j) ⊎ (j < i)) → Side (Info i) (Info j)
    go (inl e) = inr (inl (ap Info e))
    go (inr (inl lt)) = inl (lt-ltb i j lt, le-ltb j i (omega arith))
    go (inr (inr lt)) = inr (inr (le-ltb i j (omega arith), lt-ltb j i lt))
side (Info i) (Symbol b) = go (cases_lt b.index i)
  where
    go : (b.index < i) ⊎ (i ≤ b.index) → Side (Info i) (Symbol b)
    go (inl lt) = inr (inr (lt-leb i b.index lt, lt-ltb b.index i lt))
    go (inr le) = inl (le-leb i b.index le, le-ltb b.index i le)
side (Symbol a) (Info j) = go (cases_lt a.index j)
  where
    go : (a.index < j) ⊎ (j ≤ a.index) → Side (Symbol a) (Info j)
    go (inl lt) = inl (lt-ltb a.index j lt, lt-leb j a.index lt)
    go (inr le) = inr (inr (le-ltb a.index j le, le-leb j a.index le))
side (Symbol a) (Symbol b) = go (cases_order a.index b.index) (cases_order a.block b.block) (cases_order a.symbol b.symbol)
  where
    first : Before a b → Side (Symbol a) (Symbol b)
    first h = inl (positions a b h)

    last : Before b a → Side (Symbol a) (Symbol b)
    last h = let both = positions b a h in inr (inr (both.1, both.0))

    go : (a.index ≡ b.index) ⊎ ((a.index < b.index) ⊎ (b.index < a.index)) → (a.block ≡ b.block) ⊎ ((a.block < b.block) ⊎ (b.block < a.block))
        → (a.symbol ≡ b.symbol) ⊎ ((a.symbol < b.symbol) ⊎ (b.symbol < a.symbol)) → Side (Symbol a) (Symbol b)
    go (inr (inl h)) k l = first (inl (inl h))
    go (inr (inr h)) k l = last (inl (inl h))
    go (inl e) (inr (inl h)) l = first (inl (inr (e, h)))
    go (inl e) (inr (inr h)) l = last (inl (inr (sym e, h)))
    go (inl e) (inl f) (inr (inl h)) = first (inr ((e, f), h))
    go (inl e) (inl f) (inr (inr h)) = last (inr ((sym e, sym f), h))
    go (inl e) (inl f) (inl g) = inr (inl (ap (λ i. Symbol (record { index = i; block = a.block; symbol = a.symbol })) e
        ∙ ap (λ i. Symbol (record { index = b.index; block = i; symbol = a.symbol })) f
        ∙ ap (λ i. Symbol (record { index = b.index; block = b.block; symbol = i })) g))

-- no want is before itself
pub not_itself : (w : Want) → want_before w w ≡ false
not_itself (Info i) = le-ltb i i (omega arith)
not_itself (Symbol a) = go (position_before a a) refl
  where
    go : (t : Bool) → position_before a a ≡ t → t ≡ false
    go true e = absurd (not_both a a (inl refl) ((before_decides a a).0 e))
    go false e = refl

trans : (u v w : Want) → want_before u v ≡ true → want_before v w ≡ true → want_before u w ≡ true
trans u v w e f = (first_of u v (w ∷ []) e ((f, tt), (tt, tt))).1.0

-- where a want goes
pub in_front : (x w : Want) (ws : List Want) → want_before x w ≡ true → with_member want_before x (w ∷ ws) ≡ x ∷ w ∷ ws
unfolding with_member
in_front x w ws e = go (want_before x w) e
  where
    go : (b : Bool) → b ≡ true → elim b as (λ _. List Want) [ true ↦ x ∷ w ∷ ws | false ↦ elim (want_before w x) [ true ↦ w ∷ with_member want_before x ws | false ↦ w ∷ ws ] ] ≡ x ∷ w ∷ ws
    go true e = refl
    go false e = absurd (cc)

pub further : (x w : Want) (ws : List Want) → want_before x w ≡ false → want_before w x ≡ true → with_member want_before x (w ∷ ws) ≡ w ∷ with_member want_before x ws
unfolding with_member
further x w ws e f = go (want_before x w) (want_before w x) e f
  where
    go : (b c : Bool) → b ≡ false → c ≡ true → elim b as (λ _. List Want) [ true ↦ x ∷ w ∷ ws | false ↦ elim c [ true ↦ w ∷ with_member want_before x ws | false ↦ w ∷ ws ] ] ≡ w ∷ with_member want_before x ws
    go true c e f = absurd (cc)
    go false true e f = refl
    go false false e f = absurd (cc)

pub there : (w : Want) (ws : List Want) → with_member want_before w (w ∷ ws) ≡ w ∷ ws
unfolding with_member
there w ws = go (want_before w w) (not_itself w)
  where
    go : (b : Bool) → b ≡ false → elim b as (λ _. List Want) [ true ↦ w ∷ w ∷ ws | false ↦ elim b [ true ↦ w ∷ with_member want_before w ws | false ↦ w ∷ ws ] ] ≡ w ∷ ws
    go true e = absurd (cc)
    go false e = refl

pub alone : (w : Want) → with_member want_before w [] ≡ w ∷ []
unfolding with_member
alone w = refl

-- put in twice
pub put_twice : (x : Want) (ws : List Want) → with_member want_before x (with_member want_before x ws) ≡ with_member want_before x ws
put_twice x [] = ap (with_member want_before x) (alone x) ∙ there x [] ∙ sym (alone x)
put_twice x (w ∷ ws) = go (side x w) (put_twice x ws)
  where
    go : Side x w → with_member want_before x (with_member want_before x ws) ≡ with_member want_before x ws
        → with_member want_before x (with_member want_before x (w ∷ ws)) ≡ with_member want_before x (w ∷ ws)
    go (inl h) rest = ap (with_member want_before x) (in_front x w ws h.0) ∙ there x (w ∷ ws) ∙ sym (in_front x w ws h.0)
    go (inr (inl e)) rest = ap (with_member want_before x) (ap (λ v. with_member want_before v (w ∷ ws)) e ∙ there w ws)
    go (inr (inr h)) rest =
        ap (with_member want_before x) (further x w ws h.0 h.1) ∙ further x w (with_member want_before x ws) h.0 h.1
        ∙ ap (λ zs. w ∷ zs) rest ∙ sym (further x w ws h.0 h.1)

-- put in in either order, where the first is before the second
ordered : (x y : Want) (ws : List Want) → want_before x y ≡ true → want_before y x ≡ false
    → with_member want_before x (with_member want_before y ws) ≡ with_member want_before y (with_member want_before x ws)
ordered x y [] e f =
    ap (with_member want_before x) (alone y) ∙ in_front x y [] e
    ∙ ap (λ zs. x ∷ zs) (sym (alone y)) ∙ sym (further y x [] f e) ∙ ap (with_member want_before y) (sym (alone x))
ordered x y (w ∷ ws) e f = go (side x w) (side y w) (ordered x y ws e f)
  where
    go : Side x w → Side y w → with_member want_before x (with_member want_before y ws) ≡ with_member want_before y (with_member want_before x ws)
        → with_member want_before x (with_member want_before y (w ∷ ws)) ≡ with_member want_before y (with_member want_before x (w ∷ ws))
    go (inl h) (inl k) rest =
        ap (with_member want_before x) (in_front y w ws k.0) ∙ in_front x y (w ∷ ws) e
        ∙ ap (λ zs. x ∷ zs) (sym (in_front y w ws k.0)) ∙ sym (further y x (w ∷ ws) f e) ∙ ap (with_member want_before y) (sym (in_front x w ws h.0))
    go (inl h) (inr (inl same)) rest =
        ap (with_member want_before x) (ap (λ v. with_member want_before v (w ∷ ws)) same ∙ there w ws) ∙ in_front x w ws h.0
        ∙ ap (λ zs. x ∷ zs) (sym (ap (λ v. with_member want_before v (w ∷ ws)) same ∙ there w ws)) ∙ sym (further y x (w ∷ ws) f e)
        ∙ ap (with_member want_before y) (sym (in_front x w ws h.0))
    go (inl h) (inr (inr k)) rest =
        ap (with_member want_before x) (further y w ws k.0 k.1) ∙ in_front x w (with_member want_before y ws) h.0
        ∙ ap (λ zs. x ∷ zs) (sym (further y w ws k.0 k.1)) ∙ sym (further y x (w ∷ ws) f e) ∙ ap (with_member want_before y) (sym (in_front x w ws h.0))
    go (inr (inl same)) (inl k) rest = let g = ap (λ v. want_before y v) same in absurd (cc)
    go (inr (inl same)) (inr (inl other)) rest = let g = ap (λ v. want_before v w) same in let n = not_itself w in let m = ap (λ v. want_before x v) other in absurd (cc)
    go (inr (inl same)) (inr (inr k)) rest =
        ap (with_member want_before x) (further y w ws k.0 k.1) ∙ ap (λ v. with_member want_before v (w ∷ with_member want_before y ws)) same ∙ there w (with_member want_before y ws)
        ∙ sym (further y w ws k.0 k.1) ∙ ap (with_member want_before y) (sym (ap (λ v. with_member want_before v (w ∷ ws)) same ∙ there w ws))
    go (inr (inr h)) (inl k) rest = let g = trans x y w e k.0 in absurd (cc)
    go (inr (inr h)) (inr (inl same)) rest = let g = ap (λ v. want_before x v) same in absurd (cc)
    go (inr (inr h)) (inr (inr k)) rest =
        ap (with_member want_before x) (further y w ws k.0 k.1) ∙ further x w (with_member want_before y ws) h.0 h.1
        ∙ ap (λ zs. w ∷ zs) rest
        ∙ sym (further y w (with_member want_before x ws) k.0 k.1) ∙ ap (with_member want_before y) (sym (further x w ws h.0 h.1))

-- put in in either order
pub put_either : (x y : Want) (ws : List Want)
    → with_member want_before x (with_member want_before y ws) ≡ with_member want_before y (with_member want_before x ws)
put_either x y ws = go (side x y)
  where
    go : Side x y → with_member want_before x (with_member want_before y ws) ≡ with_member want_before y (with_member want_before x ws)
    go (inl h) = ordered x y ws h.0 h.1
    go (inr (inl same)) = ap (λ v. with_member want_before v (with_member want_before y ws)) same ∙ ap (λ v. with_member want_before y (with_member want_before v ws)) (sym same)
    go (inr (inr h)) = sym (ordered y x ws h.1 h.0)

-- one that is put in first may be put in last
pub put_last : (more : List Want) (x : Want) (ws : List Want)
    → with_members want_before more (with_member want_before x ws) ≡ with_member want_before x (with_members want_before more ws)
put_last [] x ws = refl
put_last (y ∷ more) x ws = ap (with_members want_before more) (put_either y x ws) ∙ put_last more x (with_member want_before y ws)

-- those that are put in first may be put in last
pub put_swap : (xs ys ws : List Want) → with_members want_before xs (with_members want_before ys ws) ≡ with_members want_before ys (with_members want_before xs ws)
put_swap [] ys ws = refl
put_swap (x ∷ xs) ys ws = ap (with_members want_before xs) (sym (put_last ys x ws)) ∙ put_swap xs ys (with_member want_before x ws)

-- the members of a set with one more
pub put_set : (set : List Want) (x : Want) (ws : List Want)
    → with_members want_before (with_member want_before x set) ws ≡ with_member want_before x (with_members want_before set ws)
put_set [] x ws = ap (λ more. with_members want_before more ws) (alone x)
put_set (y ∷ set) x ws = go (side x y) (put_set set x (with_member want_before y ws))
  where
    go : Side x y → with_members want_before (with_member want_before x set) (with_member want_before y ws) ≡ with_member want_before x (with_members want_before set (with_member want_before y ws))
        → with_members want_before (with_member want_before x (y ∷ set)) ws ≡ with_member want_before x (with_members want_before set (with_member want_before y ws))
    go (inl h) rest =
        ap (λ more. with_members want_before more ws) (in_front x y set h.0)
        ∙ ap (with_members want_before set) (put_either y x ws) ∙ put_last set x (with_member want_before y ws)
    go (inr (inl same)) rest =
        ap (λ more. with_members want_before more ws) (ap (λ v. with_member want_before v (y ∷ set)) same ∙ there y set)
        ∙ ap (with_members want_before set) (sym (put_twice y ws)) ∙ put_last set y (with_member want_before y ws)
        ∙ ap (λ v. with_member want_before v (with_members want_before set (with_member want_before y ws))) (sym same)
    go (inr (inr h)) rest = ap (λ more. with_members want_before more ws) (further x y set h.0 h.1) ∙ rest

-- what is collected as a set first adds what it adds one by one
pub put_collected : (more set ws : List Want)
    → with_members want_before (with_members want_before more set) ws ≡ with_members want_before more (with_members want_before set ws)
put_collected [] set ws = refl
put_collected (x ∷ more) set ws =
    put_collected more (with_member want_before x set) ws ∙ ap (with_members want_before more) (put_set set x ws)

pub rounds_are_collected : RoundsAreCollected
rounds_are_collected asked wants = put_collected asked [] wants
