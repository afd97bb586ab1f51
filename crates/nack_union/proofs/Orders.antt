-- Slots and wants have one order.
use Rattle.std.proofs.Common.{◌≡◌, ℕ, zero, suc, ◌+◌, ◌*◌, ◌/◌, ◌%◌, ◌<◌, ◌⊎◌, inl, inr, List, [], ◌∷◌, ◌++◌, map, length, set, get_or, Bool, true, false, refl, sym, ap, ◌∙◌, arith}
use Rattle.std.specs.Prelude.{nat_lt}
use Rattle.std.proofs.Math.Nat.{div-add-mod}
use Rattle.std.proofs.lemmas.Bool.{cases_order, lt-ltb, le-ltb, le-leb, lt-leb, ltb-true}
use Rattle.std.proofs.lemmas.Bool.Decides.{same_from_decides}
use Rattle.fec_plan.specs.Points.{position}
use Rattle.fec_plan.proofs.PositionLemmas.{Before, before_decides}
use Rattle.nack_union.specs.Kept.{Marked, listed}
use Rattle.norm_order.specs.Sets.{with_member}
use Rattle.norm_send_rules.specs.Wants.{want_before, want_index}
use Rattle.norm_send_rules.specs.declared.want.Want.{Want}
use Rattle.norm_send_rules.specs.declared.want.Want.TheVariants.{Info, Symbol}
use Rattle.nack_union.specs.Slots.{want_at, symbol_slot, slot_of_want, IsNamed}

-- a symbol stands at its slot
pub symbol_at : (index block symbol : ℕ) → symbol < 256 → want_at index (symbol_slot block symbol) ≡ Symbol (position index block symbol)
symbol_at index block symbol lt = go (256 * block + symbol) refl
  where
    go : (n : ℕ) → n ≡ 256 * block + symbol → want_at index (n + 1) ≡ Symbol (position index block symbol)
    go n e =
        let high : n / 256 ≡ block = omega (arith, div-add-mod n 256) in
        let low : n % 256 ≡ symbol = omega (arith, div-add-mod n 256) in
        ap (want_at index) add_one
        ∙ ap (λ b. Symbol (position index b (n % 256))) high
        ∙ ap (λ s. Symbol (position index block s)) low
      where
        add_one : n + 1 ≡ suc n
        add_one = omega arith

pub want_there : (index : ℕ) (w : Want) → IsNamed w → want_index w ≡ index → want_at index (slot_of_want w) ≡ w
want_there index (Info i) few e = ap Info (sym e)
want_there index (Symbol at) few e = symbol_at index at.block at.symbol few ∙ ap (λ i. Symbol (position i at.block at.symbol)) (sym e)

-- of one object the order of wants is that of slots
pub same_order : (index a b : ℕ) → want_before (want_at index a) (want_at index b) ≡ nat_lt a b
same_order index zero zero = le-ltb index index (omega arith) ∙ sym (le-ltb 0 0 (omega arith))
same_order index zero (suc b) = le-leb index index (omega arith) ∙ sym (lt-ltb 0 (suc b) (omega arith))
same_order index (suc a) zero = le-ltb index index (omega arith) ∙ sym (le-ltb (suc a) 0 (omega arith))
same_order index (suc a) (suc b) =
    same_from_decides _ _ (before_decides (position index (a / 256) (a % 256)) (position index (b / 256) (b % 256)))
    ((λ e. split (ltb-true (suc a) (suc b) e)), (λ h. lt-ltb (suc a) (suc b) (joined h)))
  where
    split : suc a < suc b → Before (position index (a / 256) (a % 256)) (position index (b / 256) (b % 256))
    split lt = go (cases_order (a / 256) (b / 256))
      where
        go : (a / 256 ≡ b / 256) ⊎ ((a / 256 < b / 256) ⊎ (b / 256 < a / 256)) → Before (position index (a / 256) (a % 256)) (position index (b / 256) (b % 256))
        go (inl e) = inr ((refl, e), omega (arith, div-add-mod a 256, div-add-mod b 256))
        go (inr (inl h)) = inl (inr (refl, h))
        go (inr (inr h)) = absurd (omega (arith, div-add-mod a 256, div-add-mod b 256))

    joined : Before (position index (a / 256) (a % 256)) (position index (b / 256) (b % 256)) → suc a < suc b
    joined (inl (inl h)) = absurd (omega arith)
    joined (inl (inr (e, h))) = omega (arith, div-add-mod a 256, div-add-mod b 256)
    joined (inr ((e, f), h)) = omega (arith, div-add-mod a 256, div-add-mod b 256)

-- between objects the order is that of their indexes
pub earlier : (i j a b : ℕ) → i < j → want_before (want_at i a) (want_at j b) ≡ true
earlier i j zero zero lt = lt-ltb i j lt
earlier i j zero (suc b) lt = le-leb i j (omega arith)
earlier i j (suc a) zero lt = lt-ltb i j lt
earlier i j (suc a) (suc b) lt = (before_decides (position i (a / 256) (a % 256)) (position j (b / 256) (b % 256))).1 (inl (inl lt))

pub later : (i j a b : ℕ) → i < j → want_before (want_at j b) (want_at i a) ≡ false
later i j zero zero lt = le-ltb j i (omega arith)
later i j (suc a) zero lt = lt-leb j i lt
later i j zero (suc b) lt = le-ltb j i (omega arith)
later i j (suc a) (suc b) lt =
    is_false _ (λ e. go ((before_decides (position j (b / 256) (b % 256)) (position i (a / 256) (a % 256))).0 e))
  where
    is_false : (t : Bool) → (t ≡ true → ⊥) → t ≡ false
    is_false true h = absurd (h refl)
    is_false false h = refl

    go : Before (position j (b / 256) (b % 256)) (position i (a / 256) (a % 256)) → ⊥
    go (inl (inl h)) = omega arith
    go (inl (inr (e, h))) = omega arith
    go (inr ((e, f), h)) = omega arith

-- The sets of objects, one behind the other.

-- a member of an object goes to its place in the object's set
pub put_here : (index a : ℕ) (xs : List ℕ) (rest : List Want) → (with_member want_before (want_at index a) rest ≡ want_at index a ∷ rest)
    → with_member want_before (want_at index a) (map (want_at index) xs ++ rest) ≡ map (want_at index) (with_member nat_lt a xs) ++ rest
unfolding with_member
put_here index a [] rest front = front
put_here index a (x ∷ xs) rest front =
    go (nat_lt a x) (nat_lt x a) _ _ (same_order index a x) (same_order index x a) (put_here index a xs rest front)
  where
    go : (b c d e : Bool) → d ≡ b → e ≡ c
        → with_member want_before (want_at index a) (map (want_at index) xs ++ rest) ≡ map (want_at index) (with_member nat_lt a xs) ++ rest
        → elim d as (λ _. List Want) [
          | true ↦ want_at index a ∷ want_at index x ∷ (map (want_at index) xs ++ rest)
          | false ↦ elim e [ true ↦ want_at index x ∷ with_member want_before (want_at index a) (map (want_at index) xs ++ rest) | false ↦ want_at index x ∷ (map (want_at index) xs ++ rest) ]
        ]
        ≡ map (want_at index) (elim b as (λ _. List ℕ) [ true ↦ a ∷ x ∷ xs | false ↦ elim c [ true ↦ x ∷ with_member nat_lt a xs | false ↦ x ∷ xs ] ]) ++ rest
    go true c true e f g later = refl
    go true c false e f g later = absurd (cc)
    go false c true e f g later = absurd (cc)
    go false true false true f g later = ap (λ ys. want_at index x ∷ ys) later
    go false true false false f g later = absurd (cc)
    go false false false true f g later = absurd (cc)
    go false false false false f g later = refl

-- and passes the sets of earlier objects
pub put_behind : (i j a : ℕ) (xs : List ℕ) (rest : List Want) → i < j
    → with_member want_before (want_at j a) (map (want_at i) xs ++ rest) ≡ map (want_at i) xs ++ with_member want_before (want_at j a) rest
unfolding with_member
put_behind i j a [] rest lt = refl
put_behind i j a (x ∷ xs) rest lt =
    go _ _ (later i j x a lt) (earlier i j x a lt) (put_behind i j a xs rest lt)
  where
    go : (d e : Bool) → d ≡ false → e ≡ true
        → with_member want_before (want_at j a) (map (want_at i) xs ++ rest) ≡ map (want_at i) xs ++ with_member want_before (want_at j a) rest
        → elim d as (λ _. List Want) [
          | true ↦ want_at j a ∷ want_at i x ∷ (map (want_at i) xs ++ rest)
          | false ↦ elim e [ true ↦ want_at i x ∷ with_member want_before (want_at j a) (map (want_at i) xs ++ rest) | false ↦ want_at i x ∷ (map (want_at i) xs ++ rest) ]
        ]
        ≡ want_at i x ∷ (map (want_at i) xs ++ with_member want_before (want_at j a) rest)
    go true e f g rest = absurd (cc)
    go false true f g rest = ap (λ ys. want_at i x ∷ ys) rest
    go false false f g rest = absurd (cc)

-- a member goes before the sets of later objects
pub put_before : (slots : Marked → List ℕ) (i j a : ℕ) (ms : List Marked) → i < j
    → with_member want_before (want_at i a) (listed slots j ms) ≡ want_at i a ∷ listed slots j ms
unfolding with_member
put_before slots i j a [] lt = refl
put_before slots i j a (m ∷ ms) lt = go (slots m) (put_before slots i (suc j) a ms (omega arith))
  where
    first : (d : Bool) (w v : Want) (xs ys : List Want) → d ≡ true → elim d as (λ _. List Want) [ true ↦ w ∷ v ∷ xs | false ↦ ys ] ≡ w ∷ v ∷ xs
    first true w v xs ys e = refl
    first false w v xs ys e = absurd (cc)

    go : (xs : List ℕ) → with_member want_before (want_at i a) (listed slots (suc j) ms) ≡ want_at i a ∷ listed slots (suc j) ms
        → with_member want_before (want_at i a) (map (want_at j) xs ++ listed slots (suc j) ms) ≡ want_at i a ∷ (map (want_at j) xs ++ listed slots (suc j) ms)
    go [] rest = rest
    go (x ∷ xs) rest = first _ _ _ _ _ (earlier i j a x lt)

-- one object's set has one more member
pub put_at : (slots : Marked → List ℕ) (index k a : ℕ) (ms : List Marked) (new d : Marked) → k < length ms
    → slots new ≡ with_member nat_lt a (slots (get_or ms k d))
    → listed slots index (set ms k new) ≡ with_member want_before (want_at (index + k) a) (listed slots index ms)
put_at slots index k a [] new d lt e = absurd (omega arith)
put_at slots index zero a (m ∷ ms) new d lt e =
    ap (λ xs. map (want_at index) xs ++ listed slots (suc index) ms) e
    ∙ sym (put_here index a (slots m) (listed slots (suc index) ms) (put_before slots index (suc index) a ms (omega arith)))
    ∙ ap (λ i. with_member want_before (want_at i a) (listed slots index (m ∷ ms))) (let f : index ≡ index + 0 = omega arith in f)
put_at slots index (suc k) a (m ∷ ms) new d lt e =
    ap (λ xs. map (want_at index) (slots m) ++ xs) (put_at slots (suc index) k a ms new d (omega arith) e)
    ∙ sym (put_behind index (suc index + k) a (slots m) (listed slots (suc index) ms) (omega arith))
    ∙ ap (λ i. with_member want_before (want_at i a) (listed slots index (m ∷ ms))) (let f : suc index + k ≡ index + suc k = omega arith in f)

-- one object's set stays
pub same_at : (slots : Marked → List ℕ) (index k : ℕ) (ms : List Marked) (new d : Marked) → k < length ms
    → slots new ≡ slots (get_or ms k d) → listed slots index (set ms k new) ≡ listed slots index ms
same_at slots index k [] new d lt e = refl
same_at slots index zero (m ∷ ms) new d lt e = ap (λ xs. map (want_at index) xs ++ listed slots (suc index) ms) e
same_at slots index (suc k) (m ∷ ms) new d lt e =
    ap (λ xs. map (want_at index) (slots m) ++ xs) (same_at slots (suc index) k ms new d (omega arith) e)

-- the lowest member is that of the first object that has one
pub lowest_at : (slots : Marked → List ℕ) (index k a : ℕ) (ms : List Marked) (new d : Marked) → k < length ms
    → ((j : ℕ) → j < k → slots (get_or ms j d) ≡ []) → slots (get_or ms k d) ≡ a ∷ slots new
    → listed slots index ms ≡ want_at (index + k) a ∷ listed slots index (set ms k new)
lowest_at slots index k a [] new d lt none e = absurd (omega arith)
lowest_at slots index zero a (m ∷ ms) new d lt none e =
    ap (λ xs. map (want_at index) xs ++ listed slots (suc index) ms) e
    ∙ ap (λ i. want_at i a ∷ listed slots index (new ∷ ms)) (let f : index ≡ index + 0 = omega arith in f)
lowest_at slots index (suc k) a (m ∷ ms) new d lt none e =
    ap (λ xs. map (want_at index) xs ++ listed slots (suc index) ms) first
    ∙ lowest_at slots (suc index) k a ms new d (omega arith) (λ j h. none (suc j) (omega arith)) e
    ∙ ap (λ i. want_at i a ∷ listed slots (suc index) (set ms k new)) (let f : suc index + k ≡ index + suc k = omega arith in f)
    ∙ ap (λ xs. want_at (index + suc k) a ∷ (map (want_at index) xs ++ listed slots (suc index) (set ms k new))) (sym first)
  where
    first : slots m ≡ []
    first = none 0 (omega arith)

-- where no object has one, there is none
pub none_at : (slots : Marked → List ℕ) (index : ℕ) (ms : List Marked) (d : Marked) → ((j : ℕ) → j < length ms → slots (get_or ms j d) ≡ [])
    → listed slots index ms ≡ []
none_at slots index [] d none = refl
none_at slots index (m ∷ ms) d none =
    ap (λ xs. map (want_at index) xs ++ listed slots (suc index) ms) (none 0 (omega arith))
    ∙ none_at slots (suc index) ms d (λ j h. none (suc j) (omega arith))

-- one more object, of which there is none
pub joined_at : (slots : Marked → List ℕ) (index : ℕ) (ms : List Marked) (m : Marked) → slots m ≡ [] → listed slots index (ms ++ m ∷ []) ≡ listed slots index ms
joined_at slots index [] m e = ap (λ xs. map (want_at index) xs ++ []) e
joined_at slots index (n ∷ ms) m e = ap (λ xs. map (want_at index) (slots n) ++ xs) (joined_at slots (suc index) ms m e)
