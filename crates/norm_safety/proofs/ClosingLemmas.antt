-- What a closing wants of a block completes it for whoever lacks no more of it than a request of the round counts.
use Rattle.std.proofs.Common.{◌≡◌, ℕ, zero, suc, ◌+◌, ◌<◌, ◌≤◌, cond, List, [], ◌∷◌, ◌++◌, length, map, Bool, true, false, Option, None, Some, refl, sym, ap, ◌∙◌, subst, arith, ◌⊎◌, inl, inr}
use Rattle.std.specs.Prelude.{filter, flat_map, fold, min, max, not, slice_get, nat_lt, nat_le, ◌==◌, ◌&&◌, ◌||◌, Contains}
use Rattle.std.specs.List.{AllByRecursion, list_any, list_all, range_with_len}
use Rattle.std.proofs.lemmas.Bool.Decides.{Decides-eqb, Decides-ltb, leb_tells}
use Rattle.norm_base.specs.Settings.{Settings}
use Rattle.fec_plan.specs.Partition.{source_symbols}
use Rattle.fec_plan.specs.Points.{Point, position, point_of, point_before, position_before, same_point, same_position}
use Rattle.fec_plan.specs.declared.position.Position.{Position}
use Rattle.fec_plan.proofs.PositionLemmas.{positions_same, position_itself, positions_are_ordered}
use Rattle.norm_ext.specs.Asking.{Count}
use Rattle.norm_order.specs.Sets.{is_member, with_member, with_members, IsRising}
use Rattle.norm_order.specs.Shapes.{Shape, is_full, closed_in}
use Rattle.norm_order.proofs.SetLemmas.{all_with, rises_with, numbers}
use Rattle.norm_receive_rules.specs.Holding.{Held}
use Rattle.norm_receive_rules.specs.ReceiverState.{ReceiverState}
use Rattle.norm_send_rules.specs.Asking.{wants_of, counts_of}
use Rattle.norm_send_rules.specs.Closing.{greatest, repairs, counted, asked_in, round_closed}
use Rattle.norm_send_rules.specs.InWindow.{stands_behind, current_shapes}
use Rattle.norm_send_rules.specs.RepairLaws.{AllDiffer, wants_of_ids, WasSent, AreDifferent, MakesWhole}
use Rattle.norm_send_rules.specs.SenderState.{SenderState, Round}
use Rattle.norm_send_rules.specs.Wants.{want_before}
use Rattle.norm_send_rules.specs.declared.want.Want.{Want}
use Rattle.norm_send_rules.specs.declared.want.Want.TheVariants.{Info, Symbol}
use Rattle.norm_send_rules.proofs.RepairLemmas.{repair_laws}
use Rattle.norm_safety.specs.RepairSuffices.{ids_in, wanted_symbols, are_enough, completes}
use Rattle.norm_safety.proofs.EntryLemmas.{clash}
use Rattle.norm_safety.proofs.HeldPasses.{HeldPass}
use Rattle.norm_safety.proofs.HoldRun.{any_append}
use Rattle.norm_safety.proofs.Members.{struck_in, or_first, or_second, of_or, kept_with, there_with}
use Rattle.norm_safety.proofs.TickNoted.{was_sent}
use Rattle.norm_safety.proofs.WorldHolds.{all_later}

-- ---- something that is there

any_flat : {X Y : Type 0} (test : Y → Bool) (f : X → List Y) (xs : List X) (x : X) → Contains xs x → list_any test (f x) ≡ true → list_any test (flat_map f xs) ≡ true
any_flat test f [] x has h = absurd (omega (arith, has.1))
any_flat {X} {Y} test f (y ∷ xs) x (zero, lt, is) h =
    any_append test (f y) (flat_map f xs) ∙ or_first _ _ (ap (λ (z : X). list_any test (f z)) is ∙ h)
any_flat test f (y ∷ xs) x (suc k, lt, is) h =
    any_append test (f y) (flat_map f xs) ∙ or_second _ _ (any_flat test f xs x (k, omega (arith, lt), is) h)

-- ---- the greatest count

fold_grows : (counts : List Count) (n : ℕ) → n ≤ fold (λ most c. max most c.lacking) n counts
fold_grows [] n = omega arith
fold_grows (c ∷ counts) n = let more = fold_grows counts (max n c.lacking) in omega (arith, more)

greatest_at : (counts : List Count) (at : Point) (c : Count) (n : ℕ) → Contains counts c → same_point c.of at ≡ true
    → c.lacking ≤ fold (λ most c. max most c.lacking) n (filter (λ (x : Count). same_point x.of at) counts)
greatest_at [] at c n has e = absurd (omega (arith, has.1))
greatest_at (x ∷ counts) at c n (zero, lt, is) e =
    let C : Count → Type 0 = λ y. same_point y.of at ≡ true in
    go (same_point x.of at) (subst C (sym is) e)
  where
    go : (b : Bool) → b ≡ true
        → c.lacking ≤ fold (λ most c. max most c.lacking) n (cond b (x ∷ filter (λ (x : Count). same_point x.of at) counts) (filter (λ (x : Count). same_point x.of at) counts))
    go false f = absurd (clash f)
    go true f =
        let more = fold_grows (filter (λ (x : Count). same_point x.of at) counts) (max n x.lacking) in
        let same : x.lacking ≡ c.lacking = ap (λ (y : Count). y.lacking) is in
        omega (arith, more, same)
greatest_at (x ∷ counts) at c n (suc k, lt, is) e = go (same_point x.of at) (λ m. greatest_at counts at c m (k, omega (arith, lt), is) e)
  where
    go : (b : Bool) → ((m : ℕ) → c.lacking ≤ fold (λ most c. max most c.lacking) m (filter (λ (x : Count). same_point x.of at) counts))
        → c.lacking ≤ fold (λ most c. max most c.lacking) n (cond b (x ∷ filter (λ (x : Count). same_point x.of at) counts) (filter (λ (x : Count). same_point x.of at) counts))
    go true more = more (max n x.lacking)
    go false more = more n

-- ---- wants

-- a want of this symbol
abbrev wants_it : Position → Want → Bool
wants_it at (Info index) = false
wants_it at (Symbol other) = same_position other at

any_kept : (at : Position) (w : Want) (ws : List Want) → list_any (wants_it at) ws ≡ true → list_any (wants_it at) (with_member want_before w ws) ≡ true
unfolding with_member
any_kept at w [] e = absurd (clash e)
any_kept at w (v ∷ ws) e = go (want_before w v) (want_before v w) (any_kept at w ws)
  where
    go : (b c : Bool) → (list_any (wants_it at) ws ≡ true → list_any (wants_it at) (with_member want_before w ws) ≡ true)
        → list_any (wants_it at) (elim b [ true ↦ w ∷ v ∷ ws | false ↦ elim c [ true ↦ v ∷ with_member want_before w ws | false ↦ v ∷ ws ] ]) ≡ true
    go true c more = or_second (wants_it at w) _ e
    go false true more = by (of_or (wants_it at v) _ e)
      where
        by : (wants_it at v ≡ true) ⊎ (list_any (wants_it at) ws ≡ true) → (wants_it at v || list_any (wants_it at) (with_member want_before w ws)) ≡ true
        by (inl is) = or_first (wants_it at v) _ is
        by (inr is) = or_second (wants_it at v) _ (more is)
    go false false more = e

-- neither want is before the other: they are of the same symbol
same_want : (at : Position) (w v : Want) → wants_it at w ≡ true → want_before w v ≡ false → want_before v w ≡ false → wants_it at v ≡ true
same_want at (Info index) v is e f = absurd (clash is)
same_want at (Symbol own) (Info index) is e f = absurd (neither own.index index e f)
  where
    neither : (a b : ℕ) → nat_lt a b ≡ false → nat_le b a ≡ false → ⊥
    neither a b e f = go (leb_tells b a)
      where
        go : ((nat_le b a ≡ true) × (b ≤ a)) ⊎ ((nat_le b a ≡ false) × (a < b)) → ⊥
        go (inl tells) = clash (sym f ∙ tells.0)
        go (inr tells) = clash (sym e ∙ (Decides-ltb a b).1 tells.1)
same_want at (Symbol own) (Symbol other) is e f = go (positions_are_ordered.total own other)
  where
    go : (own ≡ other) ⊎ ((position_before own other ≡ true) ⊎ (position_before other own ≡ true)) → same_position other at ≡ true
    go (inl same) = ap (λ (x : Position). same_position x at) (sym same) ∙ is
    go (inr (inl lt)) = absurd (clash (sym e ∙ lt))
    go (inr (inr gt)) = absurd (clash (sym f ∙ gt))

any_there : (at : Position) (w : Want) (ws : List Want) → wants_it at w ≡ true → list_any (wants_it at) (with_member want_before w ws) ≡ true
unfolding with_member
any_there at w [] is = or_first (wants_it at w) _ is
any_there at w (v ∷ ws) is = go (want_before w v) (want_before v w) refl refl (any_there at w ws is)
  where
    go : (b c : Bool) → want_before w v ≡ b → want_before v w ≡ c → list_any (wants_it at) (with_member want_before w ws) ≡ true
        → list_any (wants_it at) (elim b [ true ↦ w ∷ v ∷ ws | false ↦ elim c [ true ↦ v ∷ with_member want_before w ws | false ↦ v ∷ ws ] ]) ≡ true
    go true c e f more = or_first (wants_it at w) _ is
    go false true e f more = or_second (wants_it at v) _ more
    go false false e f more = or_first (wants_it at v) _ (same_want at w v is e f)

-- what was wanted stays so, and what is asked for is wanted
set_kept : (at : Position) (more ws : List Want) → list_any (wants_it at) ws ≡ true → list_any (wants_it at) (with_members want_before more ws) ≡ true
set_kept at [] ws e = e
set_kept at (w ∷ more) ws e = set_kept at more (with_member want_before w ws) (any_kept at w ws e)

set_there : (at : Position) (more ws : List Want) → list_any (wants_it at) more ≡ true → list_any (wants_it at) (with_members want_before more ws) ≡ true
set_there at [] ws e = absurd (clash e)
set_there at (w ∷ more) ws e = go (of_or (wants_it at w) _ e) (set_there at more (with_member want_before w ws))
  where
    go : (wants_it at w ≡ true) ⊎ (list_any (wants_it at) more ≡ true)
        → (list_any (wants_it at) more ≡ true → list_any (wants_it at) (with_members want_before more (with_member want_before w ws)) ≡ true)
        → list_any (wants_it at) (with_members want_before more (with_member want_before w ws)) ≡ true
    go (inl is) rest = set_kept at more (with_member want_before w ws) (any_there at w ws is)
    go (inr is) rest = rest is

-- a want behind the drop point stays
any_behind : (drop : Point) (at : Position) (ws : List Want) → point_before (point_of at) drop ≡ false → list_any (wants_it at) ws ≡ true
    → list_any (wants_it at) (filter (stands_behind drop) ws) ≡ true
any_behind drop at [] within e = absurd (clash e)
any_behind drop at (w ∷ ws) within e = go (stands_behind drop w) refl (of_or (wants_it at w) _ e) (any_behind drop at ws within)
  where
    stands : (w : Want) → wants_it at w ≡ true → stands_behind drop w ≡ true
    stands (Info index) is = absurd (clash is)
    stands (Symbol own) is = ap (λ (x : Position). not (point_before (point_of x) drop)) (positions_same own at is) ∙ ap not within

    go : (b : Bool) → stands_behind drop w ≡ b → (wants_it at w ≡ true) ⊎ (list_any (wants_it at) ws ≡ true)
        → (list_any (wants_it at) ws ≡ true → list_any (wants_it at) (filter (stands_behind drop) ws) ≡ true)
        → list_any (wants_it at) (cond b (w ∷ filter (stands_behind drop) ws) (filter (stands_behind drop) ws)) ≡ true
    go true e (inl is) more = or_first (wants_it at w) _ is
    go true e (inr is) more = or_second (wants_it at w) _ (more is)
    go false e (inl is) more = absurd (clash (sym e ∙ stands w is))
    go false e (inr is) more = more is

any_symbol : (at : Position) (ws : List Want) → list_any (wants_it at) ws ≡ true → list_any (λ x. same_position x at) (wanted_symbols ws) ≡ true
any_symbol at [] e = absurd (clash e)
any_symbol at (Info index ∷ ws) e = any_symbol at ws e
any_symbol at (Symbol own ∷ ws) e = go (of_or (same_position own at) _ e) (any_symbol at ws)
  where
    go : (same_position own at ≡ true) ⊎ (list_any (wants_it at) ws ≡ true)
        → (list_any (wants_it at) ws ≡ true → list_any (λ x. same_position x at) (wanted_symbols ws) ≡ true)
        → (same_position own at || list_any (λ x. same_position x at) (wanted_symbols ws)) ≡ true
    go (inl is) rest = or_first (same_position own at) _ is
    go (inr is) rest = or_second (same_position own at) _ (rest is)

any_id : (block : Point) (ids : List ℕ) (id : ℕ) → struck_in id ids ≡ true → list_any (wants_it (position block.index block.block id)) (wants_of_ids block ids) ≡ true
any_id block [] id e = absurd (clash e)
any_id block (n ∷ ids) id e = go (of_or (n == id) _ e) (any_id block ids id)
  where
    at : Position
    at = position block.index block.block id

    go : ((n == id) ≡ true) ⊎ (struck_in id ids ≡ true)
        → (struck_in id ids ≡ true → list_any (wants_it (position block.index block.block id)) (wants_of_ids block ids) ≡ true)
        → (same_position (position block.index block.block n) at || list_any (wants_it at) (wants_of_ids block ids)) ≡ true
    go (inl is) rest = or_first _ _ (ap (λ (m : ℕ). same_position (position block.index block.block m) at) ((Decides-eqb n id).0 is) ∙ position_itself at)
    go (inr is) rest = or_second _ _ (rest is)

-- ---- ids of a block

set_ids_kept : (more ids : List ℕ) (id : ℕ) → struck_in id ids ≡ true → struck_in id (with_members nat_lt more ids) ≡ true
set_ids_kept [] ids id e = e
set_ids_kept (n ∷ more) ids id e = set_ids_kept more (with_member nat_lt n ids) id (kept_with id n ids e)

set_ids : (more ids : List ℕ) (id : ℕ) → struck_in id more ≡ true → struck_in id (with_members nat_lt more ids) ≡ true
set_ids [] ids id e = absurd (clash e)
set_ids (n ∷ more) ids id e = go (of_or (n == id) _ e) (set_ids more (with_member nat_lt n ids) id)
  where
    go : ((n == id) ≡ true) ⊎ (struck_in id more ≡ true)
        → (struck_in id more ≡ true → struck_in id (with_members nat_lt more (with_member nat_lt n ids)) ≡ true)
        → struck_in id (with_members nat_lt more (with_member nat_lt n ids)) ≡ true
    go (inl is) rest =
        set_ids_kept more (with_member nat_lt n ids) id
        (ap (λ (m : ℕ). struck_in m (with_member nat_lt n ids)) (sym ((Decides-eqb n id).0 is)) ∙ there_with n ids)
    go (inr is) rest = rest is

-- a symbol of the block among positions has its id there
id_there : (block : Point) (symbols : List Position) (id : ℕ) → list_any (λ x. same_position x (position block.index block.block id)) symbols ≡ true
    → struck_in id (map (λ (at : Position). at.symbol) (filter (λ at. same_point (point_of at) block) symbols)) ≡ true
id_there block [] id e = absurd (clash e)
id_there block (x ∷ symbols) id e = go (same_point (point_of x) block) refl (of_or (same_position x at) _ e) (id_there block symbols id)
  where
    at : Position
    at = position block.index block.block id

    Rest : List Position
    Rest = filter (λ (y : Position). same_point (point_of y) block) symbols

    inside : same_position x at ≡ true → same_point (point_of x) block ≡ true
    inside is = ap (λ (y : Position). same_point (point_of y) block) (positions_same x at is) ∙ itself
      where
        itself : same_point block block ≡ true
        itself = ap (λ (b : Bool). b && block.block == block.block) ((Decides-eqb block.index block.index).1 refl) ∙ (Decides-eqb block.block block.block).1 refl

    go : (b : Bool) → same_point (point_of x) block ≡ b → (same_position x at ≡ true) ⊎ (list_any (λ y. same_position y at) symbols ≡ true)
        → (list_any (λ y. same_position y at) symbols ≡ true
        → struck_in id (map (λ (y : Position). y.symbol) (filter (λ (y : Position). same_point (point_of y) block) symbols)) ≡ true)
        → struck_in id (map (λ (y : Position). y.symbol) (cond b (x ∷ filter (λ (y : Position). same_point (point_of y) block) symbols) (filter (λ (y : Position). same_point (point_of y) block) symbols))) ≡ true
    go true e (inl is) more = or_first (x.symbol == id) _ (ap (λ (y : Position). y.symbol == id) (positions_same x at is) ∙ (Decides-eqb id id).1 refl)
    go true e (inr is) more = or_second (x.symbol == id) _ (more is)
    go false e (inl is) more = absurd (clash (sym e ∙ inside is))
    go false e (inr is) more = more is

in_ids : (block : Point) (symbols : List Position) (id : ℕ) → list_any (λ x. same_position x (position block.index block.block id)) symbols ≡ true
    → struck_in id (ids_in block symbols) ≡ true
in_ids block symbols id e = set_ids (map (λ (at : Position). at.symbol) (filter (λ at. same_point (point_of at) block) symbols)) [] id (id_there block symbols id e)

-- ---- so many different ones are no more than there are

without : ℕ → List ℕ → List ℕ
without n [] = []
without n (y ∷ ys) = elim (y == n) [ true ↦ ys | false ↦ y ∷ without n ys ]

without_one : (n : ℕ) (ys : List ℕ) → struck_in n ys ≡ true → length ys ≡ suc (length (without n ys))
unfolding without
without_one n [] e = absurd (clash e)
without_one n (y ∷ ys) e = go (y == n) e (without_one n ys)
  where
    go : (b : Bool) → (b || struck_in n ys) ≡ true → (struck_in n ys ≡ true → length ys ≡ suc (length (without n ys)))
        → suc (length ys) ≡ suc (length (elim b as (λ _. List ℕ) [ true ↦ ys | false ↦ y ∷ without n ys ]))
    go true e more = refl
    go false e more = ap suc (more e)

without_other : (n m : ℕ) (ys : List ℕ) → (n ≡ m → ⊥) → struck_in m ys ≡ true → struck_in m (without n ys) ≡ true
unfolding without
without_other n m [] differ e = absurd (clash e)
without_other n m (y ∷ ys) differ e = go (y == n) refl (of_or (y == m) _ e) (without_other n m ys differ)
  where
    go : (b : Bool) → (y == n) ≡ b → ((y == m) ≡ true) ⊎ (struck_in m ys ≡ true) → (struck_in m ys ≡ true → struck_in m (without n ys) ≡ true)
        → struck_in m (elim b [ true ↦ ys | false ↦ y ∷ without n ys ]) ≡ true
    go true e (inl is) more = absurd (differ (sym ((Decides-eqb y n).0 e) ∙ (Decides-eqb y m).0 is))
    go true e (inr is) more = is
    go false e (inl is) more = or_first (y == m) _ is
    go false e (inr is) more = or_second (y == m) _ (more is)

no_more : (xs ys : List ℕ) → AllDiffer xs → AllByRecursion (λ x. struck_in x ys ≡ true) xs → length xs ≤ length ys
no_more [] ys differ all = omega arith
no_more (x ∷ xs) ys differ all =
    let one = without_one x ys all.0 in
    let rest = no_more xs (without x ys) differ.1 (others xs differ.0 all.1) in
    omega (arith, one, rest)
  where
    others : (some : List ℕ) → AllByRecursion (λ m. x ≡ m → ⊥) some → AllByRecursion (λ m. struck_in m ys ≡ true) some
        → AllByRecursion (λ m. struck_in m (without x ys) ≡ true) some
    others [] differ all = tt
    others (m ∷ some) differ all = (without_other x m ys differ.0 all.0, others some differ.1 all.1)

-- ---- what is held

-- the ids of a block among positions differ
rising_set : (more ids : List ℕ) → IsRising nat_lt ids → IsRising nat_lt (with_members nat_lt more ids)
rising_set [] ids rise = rise
rising_set (n ∷ more) ids rise = rising_set more (with_member nat_lt n ids) (rises_with nat_lt n ids numbers rise)

rising_differs : (ids : List ℕ) → IsRising nat_lt ids → AllDiffer ids
rising_differs [] rise = tt
rising_differs (n ∷ ids) rise = (each ids rise.0, rising_differs ids rise.1)
  where
    each : (ids : List ℕ) → AllByRecursion (λ m. nat_lt n m ≡ true) ids → AllByRecursion (λ m. n ≡ m → ⊥) ids
    each [] all = tt
    each (m ∷ ids) all = (λ same. (let lt = (Decides-ltb n m).0 all.0 in omega (arith, lt, same)), each ids all.1)

-- a claim of each id of a block among positions
all_ids : (P : ℕ → Type 0) (more ids : List ℕ) → AllByRecursion P more → AllByRecursion P ids → AllByRecursion P (with_members nat_lt more ids)
all_ids P [] ids h all = all
all_ids P (n ∷ more) ids h all = all_ids P more (with_member nat_lt n ids) h.1 (all_with P nat_lt n ids h.0 all)

block_ids : (block : Point) (P : Position → Type 0) (symbols : List Position) → AllByRecursion P symbols
    → AllByRecursion (λ id. P (position block.index block.block id)) (map (λ (at : Position). at.symbol) (filter (λ at. same_point (point_of at) block) symbols))
block_ids block P [] all = tt
block_ids block P (x ∷ symbols) all = go (same_point (point_of x) block) refl (block_ids block P symbols all.1)
  where
    both : (a b : Bool) → (a && b) ≡ true → (a ≡ true) × (b ≡ true)
    both true b e = (refl, e)
    both false b e = absurd (clash e)

    there : same_point (point_of x) block ≡ true → P (position block.index block.block x.symbol)
    there e =
        let parts = both (x.index == block.index) (x.block == block.block) e in
        let I : ℕ → Type 0 = λ i. P (position i x.block x.symbol) in
        let B : ℕ → Type 0 = λ b. P (position block.index b x.symbol) in
        subst B ((Decides-eqb x.block block.block).0 parts.1) (subst I ((Decides-eqb x.index block.index).0 parts.0) all.0)

    go : (b : Bool) → same_point (point_of x) block ≡ b
        → AllByRecursion (λ id. P (position block.index block.block id)) (map (λ (at : Position). at.symbol) (filter (λ at. same_point (point_of at) block) symbols))
        → AllByRecursion (λ id. P (position block.index block.block id))
        (map (λ (at : Position). at.symbol) (cond b (x ∷ filter (λ (at : Position). same_point (point_of at) block) symbols) (filter (λ (at : Position). same_point (point_of at) block) symbols)))
    go true e rest = (there e, rest)
    go false e rest = rest

held_positions : (P : Position → Type 0) (held : List Held) → AllByRecursion (λ (x : Held). P x.at) held → AllByRecursion P (map (λ (x : Held). x.at) held)
held_positions P [] all = tt
held_positions P (x ∷ held) all = (all.0, held_positions P held all.1)

-- what is among these is among more
ids_first : (xs ys : List Position) (at : Position) → list_any (λ x. same_position x at) xs ≡ true → list_any (λ x. same_position x at) (xs ++ ys) ≡ true
ids_first xs ys at e = any_append (λ x. same_position x at) xs ys ∙ or_first _ _ e

ids_second : (xs ys : List Position) (at : Position) → list_any (λ x. same_position x at) ys ≡ true → list_any (λ x. same_position x at) (xs ++ ys) ≡ true
ids_second xs ys at e = any_append (λ x. same_position x at) xs ys ∙ or_second _ _ e

-- each position is among its list
each_there : (all some : List Position) → ((at : Position) → list_any (λ x. same_position x at) some ≡ true → list_any (λ x. same_position x at) all ≡ true)
    → AllByRecursion (λ at. list_any (λ x. same_position x at) all ≡ true) some
each_there all [] within = tt
each_there all (x ∷ some) within = (
  within x (or_first (same_position x x) _ (position_itself x)),
  each_there all some (λ at h. within at (or_second (same_position x at) _ h)),
)

ids_joined : (P : ℕ → Type 0) (xs ys : List ℕ) → AllByRecursion P xs → AllByRecursion P ys → AllByRecursion P (xs ++ ys)
ids_joined P [] ys h g = g
ids_joined P (x ∷ xs) ys h g = (h.0, ids_joined P xs ys h.1 g)

each_id : (ids : List ℕ) (P : ℕ → Type 0) → ((id : ℕ) → struck_in id ids ≡ true → P id) → AllByRecursion P ids
each_id [] P h = tt
each_id (n ∷ ids) P h = (h n (or_first (n == n) _ ((Decides-eqb n n).1 refl)), each_id ids P (λ id is. h id (or_second (n == id) _ is)))

ids_differ : (block : Point) (symbols : List Position) → AllDiffer (ids_in block symbols)
ids_differ block symbols =
    rising_differs (ids_in block symbols) (rising_set (map (λ (at : Position). at.symbol) (filter (λ at. same_point (point_of at) block) symbols)) [] tt)

ids_all : (block : Point) (P : Position → Type 0) (symbols : List Position) → AllByRecursion P symbols
    → AllByRecursion (λ id. P (position block.index block.block id)) (ids_in block symbols)
ids_all block P symbols all =
    all_ids (λ id. P (position block.index block.block id)) (map (λ (at : Position). at.symbol) (filter (λ at. same_point (point_of at) block) symbols)) []
    (block_ids block P symbols all) tt

-- ---- a closing

pub closing_completes : (p : Settings) (s : SenderState) (r : Round) (x : ReceiverState) (c : Count) (shape : Shape)
    → Contains (flat_map (counts_of (current_shapes p s)) r.asked) c → slice_get (current_shapes p s) c.of.index ≡ Some shape → is_full shape c.of.block ≡ true
    → source_symbols shape.cut c.of.block ≤ length (ids_in c.of (map (λ (h : Held). h.at) x.holding.held)) + c.lacking → HeldPass (was_sent s) x.holding
    → completes p (round_closed p r s) (round_closed p r s).wants x c.of ≡ true
closing_completes p s r x c shape has found full enough sent = go (point_before c.of s.current.drop) refl
  where
    same_block : same_point c.of c.of ≡ true
    same_block = ap (λ (b : Bool). b && c.of.block == c.of.block) ((Decides-eqb c.of.index c.of.index).1 refl) ∙ (Decides-eqb c.of.block c.of.block).1 refl

    differ : AllDiffer (ids_in c.of (map (λ (h : Held). h.at) x.holding.held))
    differ = ids_differ c.of (map (λ (h : Held). h.at) x.holding.held)

    was : AllByRecursion (WasSent s c.of) (ids_in c.of (map (λ (h : Held). h.at) x.holding.held))
    was = ids_all c.of (λ at. was_sent s at ≡ true) (map (λ (h : Held). h.at) x.holding.held) (held_positions (λ at. was_sent s at ≡ true) x.holding.held sent)

    lacks : source_symbols shape.cut c.of.block
        ≤ length (ids_in c.of (map (λ (h : Held). h.at) x.holding.held)) + min (greatest (flat_map (counts_of (current_shapes p s)) r.asked) c.of) (source_symbols shape.cut c.of.block)
    lacks = let most = greatest_at (flat_map (counts_of (current_shapes p s)) r.asked) c.of c 0 has same_block in omega (arith, enough, most)

    makes : MakesWhole s c.of shape (min (greatest (flat_map (counts_of (current_shapes p s)) r.asked) c.of) (source_symbols shape.cut c.of.block))
        (ids_in c.of (map (λ (h : Held). h.at) x.holding.held))
    makes = repair_laws.whole s c.of shape
        (min (greatest (flat_map (counts_of (current_shapes p s)) r.asked) c.of) (source_symbols shape.cut c.of.block))
        (ids_in c.of (map (λ (h : Held). h.at) x.holding.held)) full differ was lacks

    count_wants : Option Shape → List Want
    count_wants o = elim o [
      | Some shape ↦ repairs s c.of shape (min (greatest (flat_map (counts_of (current_shapes p s)) r.asked) c.of) (source_symbols shape.cut c.of.block))
      | None ↦ []
    ]

    -- each id that is chosen is wanted afterwards
    wanted : (id : ℕ) → point_before c.of s.current.drop ≡ false → struck_in id makes.ids ≡ true
        → struck_in id (ids_in c.of (map (λ (h : Held). h.at) x.holding.held ++ wanted_symbols (round_closed p r s).wants)) ≡ true
    wanted id within is =
        let at : Position = position c.of.index c.of.block id in
        let own : counted s (current_shapes p s) (flat_map (counts_of (current_shapes p s)) r.asked) c.of ≡ wants_of_ids c.of makes.ids =
        ap count_wants found ∙ makes.are in
        let one : list_any (wants_it at) (counted s (current_shapes p s) (flat_map (counts_of (current_shapes p s)) r.asked) c.of) ≡ true =
        ap (list_any (wants_it at)) own ∙ any_id c.of makes.ids id is in
        let asked : list_any (wants_it at) (asked_in p s r.asked) ≡ true =
        any_append (wants_it at) (flat_map (wants_of (current_shapes p s)) r.asked)
        (flat_map (λ (y : Count). counted s (current_shapes p s) (flat_map (counts_of (current_shapes p s)) r.asked) y.of) (flat_map (counts_of (current_shapes p s)) r.asked))
        ∙ or_second _ _ (any_flat (wants_it at) (λ (y : Count). counted s (current_shapes p s) (flat_map (counts_of (current_shapes p s)) r.asked) y.of)
        (flat_map (counts_of (current_shapes p s)) r.asked) c has one) in
        let set = set_there at (filter (stands_behind s.current.drop) (asked_in p s r.asked)) s.wants (any_behind s.current.drop at (asked_in p s r.asked) within asked) in
        in_ids c.of (map (λ (h : Held). h.at) x.holding.held ++ wanted_symbols (round_closed p r s).wants) id (ids_second (map (λ (h : Held). h.at) x.holding.held) (wanted_symbols (round_closed p r s).wants) at (any_symbol at (round_closed p r s).wants set))

    holds_ids : AllByRecursion (λ id. struck_in id (ids_in c.of (map (λ (h : Held). h.at) x.holding.held ++ wanted_symbols (round_closed p r s).wants)) ≡ true)
        (ids_in c.of (map (λ (h : Held). h.at) x.holding.held))
    holds_ids =
        let all : List Position = map (λ (h : Held). h.at) x.holding.held ++ wanted_symbols (round_closed p r s).wants in
        let there = ids_all c.of (λ at. list_any (λ y. same_position y at) all ≡ true) (map (λ (h : Held). h.at) x.holding.held)
        (each_there all (map (λ (h : Held). h.at) x.holding.held)
        (λ at h. ids_first (map (λ (h : Held). h.at) x.holding.held) (wanted_symbols (round_closed p r s).wants) at h)) in
        all_later (λ id. list_any (λ y. same_position y (position c.of.index c.of.block id)) all ≡ true) (λ id. struck_in id (ids_in c.of all) ≡ true)
        (ids_in c.of (map (λ (h : Held). h.at) x.holding.held)) (λ id h. in_ids c.of all id h) there

    many : point_before c.of s.current.drop ≡ false
        → source_symbols shape.cut c.of.block ≤ length (ids_in c.of (map (λ (h : Held). h.at) x.holding.held ++ wanted_symbols (round_closed p r s).wants))
    many within = by makes.enough
      where
        chosen : AllByRecursion (λ id. struck_in id (ids_in c.of (map (λ (h : Held). h.at) x.holding.held ++ wanted_symbols (round_closed p r s).wants)) ≡ true) makes.ids
        chosen = each_id makes.ids
            (λ id. struck_in id (ids_in c.of (map (λ (h : Held). h.at) x.holding.held ++ wanted_symbols (round_closed p r s).wants)) ≡ true)
            (λ id is. wanted id within is)

        by : AreDifferent (source_symbols shape.cut c.of.block) (ids_in c.of (map (λ (h : Held). h.at) x.holding.held) ++ makes.ids)
            ⊎ AreDifferent (source_symbols shape.cut c.of.block) makes.ids
            → source_symbols shape.cut c.of.block ≤ length (ids_in c.of (map (λ (h : Held). h.at) x.holding.held ++ wanted_symbols (round_closed p r s).wants))
        by (inl both) =
            let few = no_more (ids_in c.of (map (λ (h : Held). h.at) x.holding.held) ++ makes.ids)
            (ids_in c.of (map (λ (h : Held). h.at) x.holding.held ++ wanted_symbols (round_closed p r s).wants)) both.0
            (ids_joined (λ id. struck_in id (ids_in c.of (map (λ (h : Held). h.at) x.holding.held ++ wanted_symbols (round_closed p r s).wants)) ≡ true)
            (ids_in c.of (map (λ (h : Held). h.at) x.holding.held)) makes.ids holds_ids chosen) in
            let le = both.1 in omega (arith, few, le)
        by (inr own) = let few = no_more makes.ids
            (ids_in c.of (map (λ (h : Held). h.at) x.holding.held ++ wanted_symbols (round_closed p r s).wants)) own.0 chosen in let le = own.1 in omega (arith, few, le)

    test : Option Shape → Bool
    test o = elim o [
      | Some shape ↦ are_enough shape c.of.block (ids_in c.of (map (λ (h : Held). h.at) x.holding.held ++ wanted_symbols (round_closed p r s).wants))
      | None ↦ true
    ]

    le_true : (a b : ℕ) → a ≤ b → nat_le a b ≡ true
    le_true a b le = by (leb_tells a b)
      where
        by : ((nat_le a b ≡ true) × (a ≤ b)) ⊎ ((nat_le a b ≡ false) × (b < a)) → nat_le a b ≡ true
        by (inl tells) = tells.0
        by (inr tells) = absurd (omega (arith, le, tells.1))

    is_enough : (b : Bool) → is_full shape c.of.block ≡ b → b ≡ true → point_before c.of s.current.drop ≡ false
        → are_enough shape c.of.block (ids_in c.of (map (λ (h : Held). h.at) x.holding.held ++ wanted_symbols (round_closed p r s).wants)) ≡ true
    is_enough false e f within = absurd (clash f)
    is_enough true e f within = enough_by (is_full shape c.of.block) e (le_true _ _ (many within))
      where
        enough_by : (b : Bool) → b ≡ true
            → nat_le (source_symbols shape.cut c.of.block) (length (ids_in c.of (map (λ (h : Held). h.at) x.holding.held ++ wanted_symbols (round_closed p r s).wants))) ≡ true
            → (elim b as (λ _. Bool) [
              | true ↦ nat_le (source_symbols shape.cut c.of.block) (length (ids_in c.of (map (λ (h : Held). h.at) x.holding.held ++ wanted_symbols (round_closed p r s).wants)))
              | false ↦ list_all (λ symbol. is_member nat_lt symbol (ids_in c.of (map (λ (h : Held). h.at) x.holding.held ++ wanted_symbols (round_closed p r s).wants)))
                  (range_with_len 0 (closed_in shape c.of.block))
            ]) ≡ true
        enough_by true e h = h
        enough_by false e h = absurd (clash e)

    go : (b : Bool) → point_before c.of s.current.drop ≡ b → (b || test (slice_get (current_shapes p s) c.of.index)) ≡ true
    go true e = refl
    go false e = ap test found ∙ is_enough (is_full shape c.of.block) refl full e
