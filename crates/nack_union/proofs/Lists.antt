-- Lists that have the same members make the same set.
use Rattle.std.proofs.Common.{◌≡◌, ◌⊎◌, inl, inr, List, [], ◌∷◌, ◌++◌, Bool, true, false, refl, sym, ap, ◌∙◌, cond, subst}
use Rattle.std.specs.Prelude.{filter, flat_map}
use Rattle.norm_order.specs.Sets.{with_member, with_members}
use Rattle.norm_send_rules.specs.Wants.{want_before}
use Rattle.norm_send_rules.specs.declared.want.Want.{Want}
use Rattle.nack_union.proofs.Unions.{put_last, put_twice, put_swap}

-- x stands in the list
abbrev pub In : {X : Type 0} → X → List X → Type 0
In x [] = ⊥
In x (y ∷ ys) = (x ≡ y) ⊎ In x ys

pub in_left : {X : Type 0} (x : X) (xs ys : List X) → In x xs → In x (xs ++ ys)
in_left x [] ys here = absurd here
in_left x (y ∷ xs) ys (inl same) = inl same
in_left x (y ∷ xs) ys (inr later) = inr (in_left x xs ys later)

pub in_right : {X : Type 0} (x : X) (xs ys : List X) → In x ys → In x (xs ++ ys)
in_right x [] ys here = here
in_right x (y ∷ xs) ys here = inr (in_right x xs ys here)

pub in_either : {X : Type 0} (x : X) (xs ys : List X) → In x (xs ++ ys) → In x xs ⊎ In x ys
in_either x [] ys here = inr here
in_either x (y ∷ xs) ys (inl same) = inl (inl same)
in_either x (y ∷ xs) ys (inr later) = go (in_either x xs ys later)
  where
    go : In x xs ⊎ In x ys → ((x ≡ y) ⊎ In x xs) ⊎ In x ys
    go (inl l) = inl (inr l)
    go (inr r) = inr r

-- what is made of a member
pub flat_in : {X Y : Type 0} (f : Y → List X) (x : X) (y : Y) (ys : List Y) → In y ys → In x (f y) → In x (flat_map f ys)
flat_in f x y [] here there = absurd here
flat_in f x y (z ∷ ys) (inl same) there = in_left x (f z) (flat_map f ys) (subst (λ v. In x (f v)) same there)
flat_in f x y (z ∷ ys) (inr later) there = in_right x (f z) (flat_map f ys) (flat_in f x y ys later there)

pub in_flat : {X Y : Type 0} (f : Y → List X) (x : X) (ys : List Y) → In x (flat_map f ys) → (y : Y) × In y ys × In x (f y)
in_flat f x [] here = absurd here
in_flat {X} {Y} f x (y ∷ ys) here = go (in_either x (f y) (flat_map f ys) here) (in_flat f x ys)
  where
    go : In x (f y) ⊎ In x (flat_map f ys) → (In x (flat_map f ys) → (z : Y) × In z ys × In x (f z)) → (z : Y) × ((z ≡ y) ⊎ In z ys) × In x (f z)
    go (inl l) later = (y, inl refl, l)
    go (inr r) later = let found = later r in (found.0, inr found.1, found.2)

-- what passes a test
pub filter_in : {X : Type 0} (t : X → Bool) (x : X) (xs : List X) → In x xs → t x ≡ true → In x (filter t xs)
filter_in t x [] here passes = absurd here
filter_in t x (y ∷ xs) (inl same) passes = go (t y) (sym (ap t same) ∙ passes)
  where
    go : (b : Bool) → b ≡ true → In x (cond b (y ∷ filter t xs) (filter t xs))
    go true e = inl same
    go false e = absurd (cc)
filter_in t x (y ∷ xs) (inr later) passes = go (t y) (filter_in t x xs later passes)
  where
    go : (b : Bool) → In x (filter t xs) → In x (cond b (y ∷ filter t xs) (filter t xs))
    go true there = inr there
    go false there = there

pub in_filter : {X : Type 0} (t : X → Bool) (x : X) (xs : List X) → In x (filter t xs) → In x xs × (t x ≡ true)
in_filter t x [] here = absurd here
in_filter t x (y ∷ xs) here = go (t y) refl here (in_filter t x xs)
  where
    go : (b : Bool) → t y ≡ b → In x (cond b (y ∷ filter t xs) (filter t xs)) → (In x (filter t xs) → In x xs × (t x ≡ true)) → ((x ≡ y) ⊎ In x xs) × (t x ≡ true)
    go true e (inl same) later = (inl same, ap t same ∙ e)
    go true e (inr there) later = let rest = later there in (inr rest.0, rest.1)
    go false e there later = let rest = later there in (inr rest.0, rest.1)

-- a member is put in once
absorb : (w : Want) (ys ws : List Want) → In w ys → with_member want_before w (with_members want_before ys ws) ≡ with_members want_before ys ws
absorb w [] ws here = absurd here
absorb w (y ∷ ys) ws (inl same) =
    sym (put_last ys w (with_member want_before y ws))
    ∙ ap (with_members want_before ys) (ap (λ v. with_member want_before v (with_member want_before y ws)) same ∙ put_twice y ws)
absorb w (y ∷ ys) ws (inr later) = absorb w ys (with_member want_before y ws) later

absorbs : (xs ys ws : List Want) → ((w : Want) → In w xs → In w ys) → with_members want_before xs (with_members want_before ys ws) ≡ with_members want_before ys ws
absorbs [] ys ws all = refl
absorbs (x ∷ xs) ys ws all =
    ap (with_members want_before xs) (absorb x ys ws (all x (inl refl))) ∙ absorbs xs ys ws (λ w here. all w (inr here))

-- lists with the same members add the same
pub same_set : (xs ys ws : List Want) → ((w : Want) → In w xs → In w ys) → ((w : Want) → In w ys → In w xs)
    → with_members want_before xs ws ≡ with_members want_before ys ws
same_set xs ys ws there back = sym (absorbs ys xs ws back) ∙ put_swap ys xs ws ∙ absorbs xs ys ws there
