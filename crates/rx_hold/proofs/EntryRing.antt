-- A part of each object of a ring (its plan, its symbols, its info), and what becomes of all parts as one object changes.
use Rattle.std.proofs.Common.{◌≡◌, ℕ, zero, suc, ◌+◌, ◌<◌, ◌≤◌, Bool, true, false, cond, refl, sym, ap, ◌∙◌, arith, Option, Some, None, List, [], ◌∷◌, ◌++◌, length, append-nil}
use Rattle.std.specs.Prelude.{filter, flat_map, slice_set}
use Rattle.std.specs.List.{AllByRecursion}
use Rattle.std.proofs.lemmas.List.Elements.{filter-append}
use Rattle.norm_base.specs.Settings.{Settings}
use Rattle.norm_order.specs.Sets.{with_member}
use Rattle.rx_hold.specs.EntryState.{EntryState}
use Rattle.rx_hold.specs.EntryHold.{IsEntryAt, PlacedEntries, entry_at, entries_there}

-- ---- lists

module _ (Y : Type 0) where
  taken : (q : Y → Bool) (y : Y) (ys : List Y) → q y ≡ true → filter q (y ∷ ys) ≡ y ∷ filter q ys
  taken q y ys e = ap (λ b. cond b (y ∷ filter q ys) (filter q ys)) e

  left : (q : Y → Bool) (y : Y) (ys : List Y) → q y ≡ false → filter q (y ∷ ys) ≡ filter q ys
  left q y ys e = ap (λ b. cond b (y ∷ filter q ys) (filter q ys)) e

  pub filter_kept : (q : Y → Bool) (ys : List Y) → AllByRecursion (λ y. q y ≡ true) ys → filter q ys ≡ ys
  filter_kept q [] all = refl
  filter_kept q (y ∷ ys) all = taken q y ys all.0 ∙ ap (λ zs. y ∷ zs) (filter_kept q ys all.1)

  pub filter_gone : (q : Y → Bool) (ys : List Y) → AllByRecursion (λ y. q y ≡ false) ys → filter q ys ≡ []
  filter_gone q [] all = refl
  filter_gone q (y ∷ ys) all = left q y ys all.0 ∙ filter_gone q ys all.1

  -- a filter leaves a stricter one what it finds
  pub filter_twice : (q r : Y → Bool) → ((y : Y) → q y ≡ true → r y ≡ true) → (ys : List Y) → filter q (filter r ys) ≡ filter q ys
  filter_twice q r stricter [] = refl
  filter_twice q r stricter (y ∷ ys) = go (r y) (q y) refl refl (filter_twice q r stricter ys)
    where
      go : (b d : Bool) → r y ≡ b → q y ≡ d → filter q (filter r ys) ≡ filter q ys → filter q (filter r (y ∷ ys)) ≡ filter q (y ∷ ys)
      go true d e f rest = ap (filter q) (taken r y ys e) ∙ ap (λ zs. cond (q y) (y ∷ zs) zs) rest
      go false true e f rest = absurd (let yes = stricter y f in cc)
      go false false e f rest = ap (filter q) (left r y ys e) ∙ rest ∙ sym (left q y ys f)

  pub all_mapped : (P Q : Y → Type 0) → ((y : Y) → P y → Q y) → (ys : List Y) → AllByRecursion P ys → AllByRecursion Q ys
  all_mapped P Q follows [] all = tt
  all_mapped P Q follows (y ∷ ys) all = (follows y all.0, all_mapped P Q follows ys all.1)

-- ---- one member more, by what is before it and behind it

module _ (Y : Type 0) (before : Y → Y → Bool) where
  abbrev joined : Bool → Bool → Y → Y → List Y → List Y
  joined a b x y ys = elim a as (λ v. List Y) [
    | true ↦ x ∷ y ∷ ys
    | false ↦ elim b as (λ v. List Y) [ true ↦ y ∷ with_member before x ys | false ↦ y ∷ ys ]
  ]

  step : (x y : Y) (ys : List Y) → with_member before x (y ∷ ys) ≡ joined (before x y) (before y x) x y ys
  unfolding with_member
  step x y ys = refl

  pub alone_in : (x : Y) → with_member before x [] ≡ x ∷ []
  unfolding with_member
  alone_in x = refl

  abbrev IsBehind : Y → Y → Type 0
  IsBehind x y = (before x y ≡ false) × (before y x ≡ true)

  -- all of these are before the new one
  pub joins_behind : (x : Y) (xs bs : List Y) → AllByRecursion (IsBehind x) xs → with_member before x (xs ++ bs) ≡ xs ++ with_member before x bs
  joins_behind x [] bs all = refl
  joins_behind x (y ∷ xs) bs all =
      step x y (xs ++ bs)
      ∙ ap (λ a. joined a (before y x) x y (xs ++ bs)) all.0.0
      ∙ ap (λ b. joined false b x y (xs ++ bs)) all.0.1
      ∙ ap (λ zs. y ∷ zs) (joins_behind x xs bs all.1)

  in_front : (x : Y) (bs : List Y) → AllByRecursion (λ y. before x y ≡ true) bs → with_member before x bs ≡ x ∷ bs
  in_front x [] all = alone_in x
  in_front x (y ∷ bs) all = step x y bs ∙ ap (λ a. joined a (before y x) x y bs) all.0

  -- the new one is before all of those
  pub joins_before : (x : Y) (xs bs : List Y) → AllByRecursion (λ y. before x y ≡ true) bs → with_member before x (xs ++ bs) ≡ with_member before x xs ++ bs
  joins_before x [] bs all = in_front x bs all ∙ ap (λ zs. zs ++ bs) (sym (alone_in x))
  joins_before x (y ∷ xs) bs all =
      step x y (xs ++ bs) ∙ go (before x y) (before y x) (joins_before x xs bs all) ∙ ap (λ zs. zs ++ bs) (sym (step x y xs))
    where
      go : (a b : Bool) → with_member before x (xs ++ bs) ≡ with_member before x xs ++ bs → joined a b x y (xs ++ bs) ≡ joined a b x y xs ++ bs
      go true b rest = refl
      go false true rest = ap (λ zs. y ∷ zs) rest
      go false false rest = refl

  -- a member that a filter keeps joins what it keeps, where all that it leaves out is before that member
  pub filter_joins : (r : Y → Bool) (x : Y) (ys : List Y) → r x ≡ true → ((y : Y) → r y ≡ false → IsBehind x y)
      → filter r (with_member before x ys) ≡ with_member before x (filter r ys)
  filter_joins r x [] here out = ap (filter r) (alone_in x) ∙ taken Y r x [] here ∙ sym (alone_in x)
  filter_joins r x (y ∷ ys) here out =
      ap (filter r) (step x y ys) ∙ go (r y) (before x y) (before y x) refl refl refl (filter_joins r x ys here out)
    where
      go : (d a b : Bool) → r y ≡ d → before x y ≡ a → before y x ≡ b → filter r (with_member before x ys) ≡ with_member before x (filter r ys)
          → filter r (joined a b x y ys) ≡ with_member before x (filter r (y ∷ ys))
      go false true b e f g rest = absurd (let far = (out y e).0 in cc)
      go false false false e f g rest = absurd (let far = (out y e).1 in cc)
      go false false true e f g rest = left Y r y (with_member before x ys) e ∙ rest ∙ ap (with_member before x) (sym (left Y r y ys e))
      go true true b e f g rest =
          taken Y r x (y ∷ ys) here ∙ ap (λ zs. x ∷ zs) (taken Y r y ys e)
          ∙ sym (ap (with_member before x) (taken Y r y ys e) ∙ step x y (filter r ys) ∙ ap (λ a. joined a (before y x) x y (filter r ys)) f)
      go true false true e f g rest =
          taken Y r y (with_member before x ys) e ∙ ap (λ zs. y ∷ zs) rest
          ∙ sym (ap (with_member before x) (taken Y r y ys e) ∙ step x y (filter r ys) ∙ ap (λ a. joined a (before y x) x y (filter r ys)) f ∙ ap (λ b. joined false b x y (filter r ys)) g)
      go true false false e f g rest =
          taken Y r y ys e
          ∙ sym (ap (with_member before x) (taken Y r y ys e) ∙ step x y (filter r ys) ∙ ap (λ a. joined a (before y x) x y (filter r ys)) f ∙ ap (λ b. joined false b x y (filter r ys)) g)

-- ---- parts of the objects of a ring

-- the part of what is at a place
abbrev pub part_of : (Y : Type 0) → (EntryState → List Y) → Option EntryState → List Y
part_of Y f (Some o) = f o
part_of Y f None = []

-- each part is its object's own
abbrev pub IsOwn : (Y : Type 0) → Settings → (EntryState → List Y) → (Y → ℕ) → Type 0
IsOwn Y p f key = (k : ℕ) (o : EntryState) → IsEntryAt p k o → AllByRecursion (λ y. key y ≡ k) (f o)

module _ (Y : Type 0) (p : Settings) (f : EntryState → List Y) (key : Y → ℕ) (own : IsOwn Y p f key) where
  all_append : (P : Y → Type 0) (xs bs : List Y) → AllByRecursion P xs → AllByRecursion P bs → AllByRecursion P (xs ++ bs)
  all_append P [] bs l r = r
  all_append P (a ∷ xs) bs l r = (l.0, all_append P xs bs l.1 r)

  -- all parts of a ring are of its first object or a later one
  pub from_first : (m : ℕ) (ring : List (Option EntryState)) → PlacedEntries p m ring → AllByRecursion (λ y. m ≤ key y) (flat_map f (entries_there ring))
  from_first m [] placed = tt
  from_first m (None ∷ ring) placed =
      all_mapped Y (λ y. suc m ≤ key y) (λ y. m ≤ key y) (λ y le. omega arith) (flat_map f (entries_there ring)) (from_first (suc m) ring placed)
  from_first m (Some o ∷ ring) placed =
      all_append (λ y. m ≤ key y) (f o) (flat_map f (entries_there ring))
      (all_mapped Y (λ y. key y ≡ m) (λ y. m ≤ key y) (λ y same. omega arith) (f o) (own m o placed.0))
      (all_mapped Y (λ y. suc m ≤ key y) (λ y. m ≤ key y) (λ y le. omega arith) (flat_map f (entries_there ring)) (from_first (suc m) ring placed.1))

  abbrev IsAbout : (Y → Bool) → ℕ → Type 0
  IsAbout q index = (y : Y) → q y ≡ true → key y ≡ index

  passed_over : (q : Y → Bool) (index : ℕ) → IsAbout q index → (y : Y) → (key y ≡ index → ⊥) → q y ≡ false
  passed_over q index about y apart = go (q y) refl
    where
      go : (b : Bool) → q y ≡ b → b ≡ false
      go true e = absurd (apart (about y e))
      go false e = refl

  none_of : (q : Y → Bool) (index m : ℕ) → IsAbout q index → (ys : List Y) → AllByRecursion (λ y. key y ≡ m) ys → (m ≡ index → ⊥) → filter q ys ≡ []
  none_of q index m about ys all apart =
      filter_gone Y q ys (all_mapped Y (λ y. key y ≡ m) (λ y. q y ≡ false) (λ y same. passed_over q index about y (λ e. apart (sym same ∙ e))) ys all)

  none_behind : (q : Y → Bool) (index m : ℕ) → IsAbout q index → (ring : List (Option EntryState)) → PlacedEntries p m ring → index < m
      → filter q (flat_map f (entries_there ring)) ≡ []
  none_behind q index m about ring placed lt =
      filter_gone Y q (flat_map f (entries_there ring))
      (all_mapped Y (λ y. m ≤ key y) (λ y. q y ≡ false) (λ y le. passed_over q index about y (λ e. omega arith)) (flat_map f (entries_there ring)) (from_first m ring placed))

  -- what is asked of an index is found in the object at its place
  pub found_in : (q : Y → Bool) (index m i : ℕ) → IsAbout q index → (ring : List (Option EntryState)) → PlacedEntries p m ring → m + i ≡ index
      → filter q (flat_map f (entries_there ring)) ≡ filter q (part_of Y f (entry_at ring i))
  found_in q index m i about [] placed at = refl
  found_in q index m zero about (None ∷ ring) placed at = none_behind q index (suc m) about ring placed (omega arith)
  found_in q index m zero about (Some o ∷ ring) placed at =
      filter-append q (f o) (flat_map f (entries_there ring))
      ∙ ap (λ zs. filter q (f o) ++ zs) (none_behind q index (suc m) about ring placed.1 (omega arith))
      ∙ append-nil (filter q (f o))
  found_in q index m (suc i) about (None ∷ ring) placed at = found_in q index (suc m) i about ring placed (omega arith)
  found_in q index m (suc i) about (Some o ∷ ring) placed at =
      filter-append q (f o) (flat_map f (entries_there ring))
      ∙ ap (λ zs. zs ++ filter q (flat_map f (entries_there ring))) (none_of q index m about (f o) (own m o placed.0) (λ e. omega arith))
      ∙ found_in q index (suc m) i about ring placed.1 (omega arith)

  -- an object in place of another whose part is the same changes no parts
  pub same_parts : (ring : List (Option EntryState)) (i : ℕ) (new : Option EntryState) → i < length ring → part_of Y f new ≡ part_of Y f (entry_at ring i)
      → flat_map f (entries_there (slice_set ring i new)) ≡ flat_map f (entries_there ring)
  same_parts [] i new lt same = absurd (omega arith)
  same_parts (old ∷ ring) zero new lt same = head new ring ∙ ap (λ zs. zs ++ flat_map f (entries_there ring)) same ∙ sym (head old ring)
    where
      head : (o : Option EntryState) (rest : List (Option EntryState)) → flat_map f (entries_there (o ∷ rest)) ≡ part_of Y f o ++ flat_map f (entries_there rest)
      head None rest = refl
      head (Some o) rest = refl
  same_parts (None ∷ ring) (suc i) new lt same = same_parts ring i new (omega arith) same
  same_parts (Some o ∷ ring) (suc i) new lt same = ap (λ zs. f o ++ zs) (same_parts ring i new (omega arith) same)

  -- an object whose part has one member more
  module _ (before : Y → Y → Bool) (by_key : (x y : Y) → key x < key y → (before x y ≡ true) × (before y x ≡ false)) where
    all_before : (m : ℕ) (x : Y) (ys : List Y) → m < key x → AllByRecursion (λ y. key y ≡ m) ys → AllByRecursion (IsBehind Y before x) ys
    all_before m x ys lt all =
        all_mapped Y (λ y. key y ≡ m) (IsBehind Y before x) (λ y same. let apart = by_key y x (omega arith) in (apart.1, apart.0)) ys all

    all_behind : (m : ℕ) (x : Y) (ys : List Y) → key x < m → AllByRecursion (λ y. m ≤ key y) ys → AllByRecursion (λ y. before x y ≡ true) ys
    all_behind m x ys lt all = all_mapped Y (λ y. m ≤ key y) (λ y. before x y ≡ true) (λ y le. (by_key x y (omega arith)).0) ys all

    pub with_part : (x : Y) (m : ℕ) (ring : List (Option EntryState)) (i : ℕ) (o : EntryState) → PlacedEntries p m ring → i < length ring → m + i ≡ key x
        → f o ≡ with_member before x (part_of Y f (entry_at ring i))
        → with_member before x (flat_map f (entries_there ring)) ≡ flat_map f (entries_there (slice_set ring i (Some o)))
    with_part x m [] i o placed lt at is = absurd (omega arith)
    with_part x m (None ∷ ring) zero o placed lt at is =
        joins_before Y before x [] (flat_map f (entries_there ring)) (all_behind (suc m) x (flat_map f (entries_there ring)) (omega arith) (from_first (suc m) ring placed))
        ∙ ap (λ zs. zs ++ flat_map f (entries_there ring)) (sym is)
    with_part x m (Some old ∷ ring) zero o placed lt at is =
        joins_before Y before x (f old) (flat_map f (entries_there ring)) (all_behind (suc m) x (flat_map f (entries_there ring)) (omega arith) (from_first (suc m) ring placed.1))
        ∙ ap (λ zs. zs ++ flat_map f (entries_there ring)) (sym is)
    with_part x m (None ∷ ring) (suc i) o placed lt at is = with_part x (suc m) ring i o placed (omega arith) (omega arith) is
    with_part x m (Some old ∷ ring) (suc i) o placed lt at is =
        joins_behind Y before x (f old) (flat_map f (entries_there ring)) (all_before m x (f old) (omega arith) (own m old placed.0))
        ∙ ap (λ zs. f old ++ zs) (with_part x (suc m) ring i o placed.1 (omega arith) (omega arith) is)

  -- as the first place is left behind, its part is, and no other one
  pub without_first : (r : Y → Bool) (m : ℕ) (first : Option EntryState) (ring : List (Option EntryState)) → PlacedEntries p m (first ∷ ring)
      → ((y : Y) → key y ≡ m → r y ≡ false) → ((y : Y) → suc m ≤ key y → r y ≡ true)
      → filter r (flat_map f (entries_there (first ∷ ring))) ≡ flat_map f (entries_there ring)
  without_first r m None ring placed out kept =
      filter_kept Y r (flat_map f (entries_there ring)) (all_mapped Y (λ y. suc m ≤ key y) (λ y. r y ≡ true) kept (flat_map f (entries_there ring)) (from_first (suc m) ring placed))
  without_first r m (Some o) ring placed out kept =
      filter-append r (f o) (flat_map f (entries_there ring))
      ∙ ap (λ zs. zs ++ filter r (flat_map f (entries_there ring))) (filter_gone Y r (f o) (all_mapped Y (λ y. key y ≡ m) (λ y. r y ≡ false) out (f o) (own m o placed.0)))
      ∙ filter_kept Y r (flat_map f (entries_there ring)) (all_mapped Y (λ y. suc m ≤ key y) (λ y. r y ≡ true) kept (flat_map f (entries_there ring)) (from_first (suc m) ring placed.1))
