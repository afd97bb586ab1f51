-- What is held, listed by blocks and ids, with one symbol more.
use Rattle.std.proofs.Common.{◌≡◌, ℕ, zero, suc, ◌+◌, ◌<◌, ◌≤◌, ◌⊎◌, inl, inr, List, [], ◌∷◌, ◌++◌, take, Bool, true, false, Option, Some, None, refl, sym, ap, ◌∙◌, subst, arith}
use Rattle.std.specs.Prelude.{◌==◌, ◌≢◌, flat_map}
use Rattle.std.specs.List.{AllByRecursion, range_with_len}
use Rattle.std.proofs.lemmas.Bool.{cases_order, eq-eqb, ne_eqb}
use Rattle.std.proofs.lemmas.List.Concat.{flat_map-cons}
use Rattle.fec_plan.specs.Partition.{Cut, blocks, sent_octets}
use Rattle.norm_order.specs.Sets.{with_member}
use Rattle.fec_plan.proofs.PositionLemmas.{Before, before_decides, not_both}
use Rattle.norm_receive_rules.specs.Holding.{Held}
use Rattle.norm_receive_rules.specs.Putting.{held_before}
use Rattle.rx_object.specs.BlockState.{held_at}
use Rattle.rx_object.specs.Places.{with_one}
use Rattle.rx_object.specs.Rows.{all_ids, held_under, held_in, all_held, with_coded}

-- ---- one more among those before it and those behind it

-- with one more, by what the two comparisons say
abbrev joined : Bool → Bool → Held → Held → List Held → List Held
joined b c x y ys = elim b [
  | true ↦ x ∷ y ∷ ys
  | false ↦ elim c [ true ↦ y ∷ with_member held_before x ys | false ↦ y ∷ ys ]
]

in_front : (x y : Held) (ys : List Held) → held_before x y ≡ true → with_member held_before x (y ∷ ys) ≡ x ∷ y ∷ ys
unfolding with_member
in_front x y ys e = ap (λ b. joined b (held_before y x) x y ys) e

behind : (x y : Held) (ys : List Held) → held_before x y ≡ false → held_before y x ≡ true → with_member held_before x (y ∷ ys) ≡ y ∷ with_member held_before x ys
unfolding with_member
behind x y ys e f = ap (λ b. joined b (held_before y x) x y ys) e ∙ ap (λ b. joined false b x y ys) f

-- x is before it
abbrev pub Later : Held → Held → Type 0
Later x z = Before x.at z.at

is_before : (x z : Held) → Later x z → held_before x z ≡ true
is_before x z l = (before_decides x.at z.at).1 l

not_before : (x z : Held) → Later x z → held_before z x ≡ false
not_before x z l = go (held_before z x) refl
  where
    go : (b : Bool) → held_before z x ≡ b → b ≡ false
    go true e = absurd (not_both x.at z.at (inr l) ((before_decides z.at x.at).0 e))
    go false e = refl

before_all : (x : Held) (zs : List Held) → AllByRecursion (Later x) zs → with_member held_before x zs ≡ x ∷ zs
unfolding with_member
before_all x [] all = refl
before_all x (z ∷ zs) all = in_front x z zs (is_before x z all.0)

behind_all : (x : Held) (ys zs : List Held) → AllByRecursion (λ y. Later y x) ys → with_member held_before x (ys ++ zs) ≡ ys ++ with_member held_before x zs
behind_all x [] zs all = refl
behind_all x (y ∷ ys) zs all = behind x y (ys ++ zs) (not_before y x all.0) (is_before y x all.0) ∙ ap (λ hs. y ∷ hs) (behind_all x ys zs all.1)

within : (x : Held) (ys zs : List Held) → AllByRecursion (Later x) zs → with_member held_before x (ys ++ zs) ≡ with_member held_before x ys ++ zs
unfolding with_member
within x [] zs all = before_all x zs all
within x (y ∷ ys) zs all = go (held_before x y) (held_before y x) (within x ys zs all)
  where
    go : (b c : Bool) → with_member held_before x (ys ++ zs) ≡ with_member held_before x ys ++ zs → joined b c x y (ys ++ zs) ≡ joined b c x y ys ++ zs
    go true c rest = refl
    go false true rest = ap (λ hs. y ∷ hs) rest
    go false false rest = refl

-- ---- lists by slots of a range

pub all_append : (P : Held → Type 0) (xs ys : List Held) → AllByRecursion P xs → AllByRecursion P ys → AllByRecursion P (xs ++ ys)
all_append P [] ys all more = more
all_append P (x ∷ xs) ys all more = (all.0, all_append P xs ys all.1 more)

pub all_in : (P : Held → Type 0) (g : ℕ → List Held) (a n : ℕ) → ((m : ℕ) → a ≤ m → m < a + n → AllByRecursion P (g m)) → AllByRecursion P (flat_map g (range_with_len a n))
all_in P g a zero each = tt
all_in P g a (suc n) each = subst_all (all_append P (g a) (flat_map g (range_with_len (a + 1) n)) (each a (omega arith) (omega arith)) (all_in P g (a + 1) n (λ m le lt. each m (omega arith) (omega arith))))
  where
    subst_all : AllByRecursion P (g a ++ flat_map g (range_with_len (a + 1) n)) → AllByRecursion P (flat_map g (a ∷ range_with_len (a + 1) n))
    subst_all all = subst (AllByRecursion P) (sym (flat_map-cons g a (range_with_len (a + 1) n))) all

pub same_slots : (g h : ℕ → List Held) (a n : ℕ) → ((m : ℕ) → a ≤ m → m < a + n → h m ≡ g m) → flat_map h (range_with_len a n) ≡ flat_map g (range_with_len a n)
same_slots g h a zero same = refl
same_slots g h a (suc n) same =
    flat_map-cons h a (range_with_len (a + 1) n)
    ∙ ap (λ xs. xs ++ flat_map h (range_with_len (a + 1) n)) (same a (omega arith) (omega arith))
    ∙ ap (λ xs. g a ++ xs) (same_slots g h (a + 1) n (λ m le lt. same m (omega arith) (omega arith)))
    ∙ sym (flat_map-cons g a (range_with_len (a + 1) n))

-- one more in a slot, where all of an earlier slot are before it, and it is before all of a later one
pub slot_with : (x : Held) (g h : ℕ → List Held) (s a n : ℕ) → a ≤ s → s < a + n → h s ≡ with_member held_before x (g s) → ((m : ℕ) → m < a + n → m ≢ s → h m ≡ g m)
    → ((m : ℕ) → m < s → AllByRecursion (λ y. Later y x) (g m)) → ((m : ℕ) → s < m → AllByRecursion (Later x) (g m))
    → flat_map h (range_with_len a n) ≡ with_member held_before x (flat_map g (range_with_len a n))
slot_with x g h s a zero le lt here there early late = absurd (omega arith)
slot_with x g h s a (suc n) le lt here there early late = go (cases_order a s) (λ below. slot_with x g h s (a + 1) n (omega arith) (omega arith) here (λ m lt. there m (omega arith)) early late)
  where
    go : (a ≡ s) ⊎ ((a < s) ⊎ (s < a)) → (a < s → flat_map h (range_with_len (a + 1) n) ≡ with_member held_before x (flat_map g (range_with_len (a + 1) n)))
        → flat_map h (a ∷ range_with_len (a + 1) n) ≡ with_member held_before x (flat_map g (a ∷ range_with_len (a + 1) n))
    go (inl e) more =
        flat_map-cons h a (range_with_len (a + 1) n)
        ∙ ap (λ xs. xs ++ flat_map h (range_with_len (a + 1) n)) (ap h e ∙ here ∙ ap (λ m. with_member held_before x (g m)) (sym e))
        ∙ ap (λ xs. with_member held_before x (g a) ++ xs) (same_slots g h (a + 1) n (λ m up under. there m (omega arith) (λ f. omega arith)))
        ∙ sym (within x (g a) (flat_map g (range_with_len (a + 1) n)) (all_in (Later x) g (a + 1) n (λ m up under. late m (omega arith))))
        ∙ ap (with_member held_before x) (sym (flat_map-cons g a (range_with_len (a + 1) n)))
    go (inr (inl below)) more =
        flat_map-cons h a (range_with_len (a + 1) n)
        ∙ ap (λ xs. xs ++ flat_map h (range_with_len (a + 1) n)) (there a (omega arith) (λ f. omega arith))
        ∙ ap (λ xs. g a ++ xs) (more below)
        ∙ sym (behind_all x (g a) (flat_map g (range_with_len (a + 1) n)) (early a below))
        ∙ ap (with_member held_before x) (sym (flat_map-cons g a (range_with_len (a + 1) n)))
    go (inr (inr above)) more = absurd (omega arith)

-- ---- a block's slots are ids, and an object's blocks

ids_are : (n : ℕ) → n ≡ 255 → range_with_len 0 n ≡ all_ids
unfolding all_ids
ids_are n e = ap (range_with_len 0) e

-- what holds of the numbers below 255
pub by_ids : (P : List ℕ → Type 0) → ((n : ℕ) → n ≡ 255 → P (range_with_len 0 n)) → P all_ids
by_ids P h = subst P (ids_are 255 refl) (h 255 refl)

pub under_all : (P : Held → Type 0) (index : ℕ) (c : Cut) (block : ℕ) (f : ℕ → Option (List ℕ)) (id : ℕ)
    → ((x : List ℕ) → f id ≡ Some x → P (held_at index block id (take (sent_octets c block id) x))) → AllByRecursion P (held_under index c block f id)
under_all P index c block f id each = go (f id) each
  where
    go : (o : Option (List ℕ)) → ((x : List ℕ) → o ≡ Some x → P (held_at index block id (take (sent_octets c block id) x)))
        → AllByRecursion P (elim o as (λ _. List Held) [ Some octets ↦ held_at index block id (take (sent_octets c block id) octets) ∷ [] | None ↦ [] ])
    go (Some x) each = (each x refl, tt)
    go None each = tt

pub block_all : (P : Held → Type 0) (index : ℕ) (c : Cut) (f : ℕ → ℕ → Option (List ℕ)) (block : ℕ)
    → ((id : ℕ) (x : List ℕ) → f block id ≡ Some x → P (held_at index block id (take (sent_octets c block id) x))) → AllByRecursion P (held_in index c f block)
block_all P index c f block each =
    by_ids (λ ids. AllByRecursion P (flat_map (held_under index c block (f block)) ids))
    (λ n e. all_in P (held_under index c block (f block)) 0 n (λ id le lt. under_all P index c block (f block) id (each id)))

pub under_same : (index : ℕ) (c : Cut) (block id : ℕ) (f g : ℕ → Option (List ℕ)) → g id ≡ f id → held_under index c block g id ≡ held_under index c block f id
under_same index c block id f g same = go (f id) (g id) same
  where
    listed : Option (List ℕ) → List Held
    listed o = elim o as (λ _. List Held) [ Some octets ↦ held_at index block id (take (sent_octets c block id) octets) ∷ [] | None ↦ [] ]

    go : (o p : Option (List ℕ)) → p ≡ o
        → ◌≡◌ {A = List Held} (elim p [ Some octets ↦ held_at index block id (take (sent_octets c block id) octets) ∷ [] | None ↦ [] ])
        (elim o [ Some octets ↦ held_at index block id (take (sent_octets c block id) octets) ∷ [] | None ↦ [] ])
    go o p e = ap listed e

pub alone_with : (x : Held) → with_member held_before x [] ≡ x ∷ []
unfolding with_member
alone_with x = refl

pub with_one_here : (q : ℕ) (x : List ℕ) (f : ℕ → Option (List ℕ)) → with_one q x f q ≡ Some x
with_one_here q x f = go (q == q) (eq-eqb q q refl)
  where
    go : (b : Bool) → b ≡ true → ◌≡◌ {A = Option (List ℕ)} (elim b [ true ↦ Some x | false ↦ f q ]) (Some x)
    go true e = refl
    go false e = absurd (cc e)

pub with_one_there : (q id : ℕ) (x : List ℕ) (f : ℕ → Option (List ℕ)) → id ≢ q → with_one q x f id ≡ f id
with_one_there q id x f other = go (id == q) (ne_eqb id q other)
  where
    go : (b : Bool) → b ≡ false → ◌≡◌ {A = Option (List ℕ)} (elim b [ true ↦ Some x | false ↦ f id ]) (f id)
    go true e = absurd (cc e)
    go false e = refl

pub coded_here : (block q id : ℕ) (x : List ℕ) (f : ℕ → ℕ → Option (List ℕ)) → with_coded block q x f block id ≡ with_one q x (f block) id
coded_here block q id x f = go (block == block) (eq-eqb block block refl)
  where
    go : (b : Bool) → b ≡ true → ◌≡◌ {A = Option (List ℕ)} (elim b [ true ↦ with_one q x (f block) id | false ↦ f block id ]) (with_one q x (f block) id)
    go true e = refl
    go false e = absurd (cc e)

pub coded_there : (block q other id : ℕ) (x : List ℕ) (f : ℕ → ℕ → Option (List ℕ)) → other ≢ block → with_coded block q x f other id ≡ f other id
coded_there block q other id x f differ = go (other == block) (ne_eqb other block differ)
  where
    go : (b : Bool) → b ≡ false → ◌≡◌ {A = Option (List ℕ)} (elim b [ true ↦ with_one q x (f other) id | false ↦ f other id ]) (f other id)
    go true e = absurd (cc e)
    go false e = refl

-- a block with one symbol more
pub block_with : (index : ℕ) (c : Cut) (block q : ℕ) (x : List ℕ) (f g : ℕ → ℕ → Option (List ℕ)) → q < 255 → f block q ≡ None
    → ((id : ℕ) → id < 255 → g block id ≡ with_one q x (f block) id)
    → held_in index c g block ≡ with_member held_before (held_at index block q (take (sent_octets c block q) x)) (held_in index c f block)
block_with index c block q x f g small new is =
    by_ids (λ ids. flat_map (held_under index c block (g block)) ids ≡ with_member held_before it (flat_map (held_under index c block (f block)) ids))
    (λ n e. slot_with it (held_under index c block (f block)) (held_under index c block (g block)) q 0 n (omega arith) (omega (arith, e))
    (first (f block q) (g block q) new (is q small ∙ with_one_here q x (f block)))
    (λ m lt other. under_same index c block m (f block) (g block) (is m (omega (arith, e)) ∙ with_one_there q m x (f block) other))
    (λ m lt. under_all (λ y. Later y it) index c block (f block) m (λ y there. inr ((refl, refl), lt)))
    (λ m lt. under_all (Later it) index c block (f block) m (λ y there. inr ((refl, refl), lt))))
  where
    it : Held
    it = held_at index block q (take (sent_octets c block q) x)

    listed : Option (List ℕ) → List Held
    listed o = elim o as (λ _. List Held) [ Some octets ↦ held_at index block q (take (sent_octets c block q) octets) ∷ [] | None ↦ [] ]

    first : (o p : Option (List ℕ)) → o ≡ None → p ≡ Some x
        → ◌≡◌ {A = List Held} (elim p [ Some octets ↦ held_at index block q (take (sent_octets c block q) octets) ∷ [] | None ↦ [] ])
        (with_member held_before it (elim o as (λ _. List Held) [ Some octets ↦ held_at index block q (take (sent_octets c block q) octets) ∷ [] | None ↦ [] ]))
    first o p e f = ap listed f ∙ sym (ap (λ r. with_member held_before it (listed r)) e ∙ alone_with it)

pub block_same : (index : ℕ) (c : Cut) (block : ℕ) (f g : ℕ → ℕ → Option (List ℕ)) → ((id : ℕ) → id < 255 → g block id ≡ f block id)
    → held_in index c g block ≡ held_in index c f block
block_same index c block f g same =
    by_ids (λ ids. flat_map (held_under index c block (g block)) ids ≡ flat_map (held_under index c block (f block)) ids)
    (λ n e. same_slots (held_under index c block (f block)) (held_under index c block (g block)) 0 n
    (λ id le lt. under_same index c block id (f block) (g block) (same id (omega (arith, e)))))

-- an object with one symbol more
pub object_with : (index : ℕ) (c : Cut) (block q : ℕ) (x : List ℕ) (f g : ℕ → ℕ → Option (List ℕ)) → block < blocks c → q < 255 → f block q ≡ None
    → ((b id : ℕ) → b < blocks c → id < 255 → g b id ≡ with_coded block q x f b id)
    → all_held index c g ≡ with_member held_before (held_at index block q (take (sent_octets c block q) x)) (all_held index c f)
object_with index c block q x f g within small new is =
    slot_with it (held_in index c f) (held_in index c g) block 0 (blocks c) (omega arith) (omega (arith, within))
    (block_with index c block q x f g small new (λ id lt. is block id within lt ∙ coded_here block q id x f))
    (λ b lt other. block_same index c b f g (λ id less. is b id (omega (arith, lt)) less ∙ coded_there block q b id x f other))
    (λ b lt. block_all (λ y. Later y it) index c f b (λ id y there. inl (inr (refl, lt))))
    (λ b lt. block_all (Later it) index c f b (λ id y there. inl (inr (refl, lt))))
  where
    it : Held
    it = held_at index block q (take (sent_octets c block q) x)
