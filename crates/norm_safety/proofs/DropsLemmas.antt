-- What of an order stands before a drop point: all parts of the objects before it, and of a stream within which it is those of the blocks
-- before it. It stays so as the order goes on.
use Rattle.std.proofs.Common.{◌≡◌, ℕ, zero, suc, ◌+◌, ◌*◌, ◌<◌, List, [], ◌∷◌, ◌++◌, take, Option, None, Some, refl, sym, ap, ◌∙◌, subst, append_assoc, arith}
use Rattle.std.specs.Prelude.{slice_get}
use Rattle.std.proofs.lemmas.List.{append-nil}
use Rattle.norm_base.specs.Settings.{Settings}
use Rattle.fec_plan.specs.Points.{Point, point}
use Rattle.norm_order.specs.Entries.{Object, Whole, Stream, Entry}
use Rattle.norm_order.specs.Upto.{parts_of, all_parts}
use Rattle.norm_order.specs.declared.up.Up.{Up}
use Rattle.norm_order.proofs.StreamLemmas.{take_of_front}
use Rattle.norm_safety.proofs.GoesOn.{ObjectLater, OrderLater, HasBlocks, DropWithin, finished_stays}
use Rattle.norm_safety.proofs.Passed.{parts_later, length-parts}

-- the parts of so many blocks of a stream, with its open before them
abbrev pub blocks_parts : Settings → ℕ → ℕ → Object → List Up
blocks_parts p index zero object = []
blocks_parts p index (suc n) object = take (1 + suc n * p.b) (parts_of p index object)

-- the parts of so many objects, the first of which has this index, and of so many blocks of the next one
abbrev pub drops : Settings → ℕ → ℕ → ℕ → List Entry → List Up
drops p index k block [] = []
drops p index zero block (x ∷ order) = blocks_parts p index block x.object
drops p index (suc k) block (x ∷ order) = parts_of p index x.object ++ drops p (suc index) k block order

-- all that was dropped
abbrev pub dropped_parts : Settings → List Entry → Point → List Up
dropped_parts p order d = drops p 0 d.index d.block order

-- of the next object, where there is one
abbrev pub next_parts : Settings → ℕ → ℕ → Option Entry → List Up
next_parts p index block found = elim found [ Some x ↦ blocks_parts p index block x.object | None ↦ [] ]

pub drops_is : (p : Settings) (index k n block : ℕ) (order : List Entry) → n ≡ index + k
    → drops p index k block order ≡ all_parts p index (take k order) ++ next_parts p n block (slice_get order k)
unfolding all_parts
drops_is p index zero n block [] e = refl
drops_is p index (suc k) n block [] e = refl
drops_is p index zero n block (x ∷ order) e = ap (λ (i : ℕ). blocks_parts p i block x.object) (let is : index ≡ n = omega arith in is)
drops_is p index (suc k) n block (x ∷ order) e =
    ap (λ (ups : List Up). parts_of p index x.object ++ ups)
    (drops_is p (suc index) k n block order (omega arith)
    ∙ ap (λ (i : ℕ). all_parts p i (take k order) ++ next_parts p n block (slice_get order k)) (let is : suc index ≡ index + 1 = omega arith in is))
    ∙ sym (append_assoc (parts_of p index x.object) (all_parts p (index + 1) (take k order)) (next_parts p n block (slice_get order k)))

-- no blocks of the next object
pub no_blocks : (p : Settings) (index k : ℕ) (order : List Entry) → drops p index k 0 order ≡ all_parts p index (take k order)
no_blocks p index k order =
    drops_is p index k (index + k) 0 order refl
    ∙ ap (λ (ups : List Up). all_parts p index (take k order) ++ ups) (none (slice_get order k)) ∙ append-nil (all_parts p index (take k order))
  where
    none : (found : Option Entry) → next_parts p (index + k) 0 found ≡ []
    none None = refl
    none (Some x) = refl

blocks_stay : (p : Settings) → 0 < p.e → (index block : ℕ) (o later : Object) → ObjectLater o later → (0 < block → HasBlocks p block o)
    → blocks_parts p index block later ≡ blocks_parts p index block o
blocks_stay p some index zero o later on has = refl
blocks_stay p some index (suc n) (Whole kind info octets) later on has = absurd (has (omega arith))
blocks_stay p some index (suc n) (Stream parts) later on has =
    take_of_front (1 + suc n * p.b) (parts_of p index (Stream parts)) (parts_of p index later) (parts_later p index (Stream parts) later some on)
    (let long = length-parts p index parts in let closed = has (omega arith) in omega (arith, long, closed))

-- the same within the rest of an order
rest_within : (p : Settings) (x : Entry) (order : List Entry) (k block : ℕ) → DropWithin p (x ∷ order) (point (suc k) block) → DropWithin p order (point k block)
rest_within p x order k block h = record {
  within = (let le = h.within in omega arith);
  finished = λ i y found lt. h.finished (suc i) y found (omega arith);
  blocks = h.blocks;
}

drops_later : (p : Settings) → 0 < p.e → (index k block : ℕ) (order later : List Entry) → OrderLater order later → DropWithin p order (point k block)
    → drops p index k block later ≡ drops p index k block order
drops_later p some index zero block [] [] on h = refl
drops_later p some index zero block [] (y ∷ later) on h = go block h.blocks
  where
    none_some : (x : Entry) → None ≡ Some x → ⊥
    none_some x e = cc

    go : (block : ℕ) → (0 < block → (x : Entry) × (slice_get [] 0 ≡ Some x) × HasBlocks p block x.object) → blocks_parts p index block y.object ≡ []
    go zero blocks = refl
    go (suc n) blocks = let found = blocks (omega arith) in absurd (none_some found.0 found.1)
drops_later p some index (suc k) block [] later on h = absurd (let le = h.within in omega arith)
drops_later p some index k block (x ∷ []) [] on h = absurd on
drops_later p some index k block (x ∷ z ∷ order) [] on h = absurd on
drops_later p some index zero block (x ∷ []) (y ∷ later) on h = blocks_stay p some index block x.object y.object on.1 (λ lt. first_blocks x [] (h.blocks lt))
  where
    same : (a b : Entry) → Some a ≡ Some b → a ≡ b
    same a b e = cc

    first_blocks : (x : Entry) (order : List Entry) → (z : Entry) × (slice_get (x ∷ order) 0 ≡ Some z) × HasBlocks p block z.object → HasBlocks p block x.object
    first_blocks x order (z, e, has) = let H : Entry → Type 0 = λ w. HasBlocks p block w.object in subst H (sym (same x z e)) has
drops_later p some index (suc k) block (x ∷ []) (y ∷ later) on h =
    let done = h.finished 0 x refl (omega arith) in
    let rest = rest_within p x [] k block h in
    let same = finished_stays x.object y.object done on.1 in
    ap (λ (o : Object). parts_of p index o ++ drops p (suc index) k block later) same
    ∙ ap (λ (ups : List Up). parts_of p index x.object ++ ups) (drops_later p some (suc index) k block [] later tt rest)
drops_later p some index zero block (x ∷ z ∷ order) (y ∷ later) on h = ap (λ (w : Entry). blocks_parts p index block w.object) on.0
drops_later p some index (suc k) block (x ∷ z ∷ order) (y ∷ later) on h =
    ap (λ (w : Entry). parts_of p index w.object ++ drops p (suc index) k block later) on.0
    ∙ ap (λ (ups : List Up). parts_of p index x.object ++ ups) (drops_later p some (suc index) k block (z ∷ order) later on.1 (rest_within p x (z ∷ order) k block h))

pub dropped_later : (p : Settings) → 0 < p.e → (order later : List Entry) (d : Point) → OrderLater order later → DropWithin p order d
    → dropped_parts p later d ≡ dropped_parts p order d
dropped_later p some order later d on h = drops_later p some 0 d.index d.block order later on h
