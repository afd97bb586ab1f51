-- A receiver that handed up all that was dropped, and lost nothing, stands at the drop point or past it.
use Rattle.std.proofs.Common.{◌≡◌, ℕ, zero, suc, ◌+◌, ◌*◌, ◌<◌, ◌≤◌, List, [], ◌∷◌, ◌++◌, length, take, get_or, false, Option, None, Some, refl, ap, ◌∙◌, subst, arith, ◌⊎◌, inl, inr}
use Rattle.std.specs.Prelude.{slice_get, min}
use Rattle.std.specs.List.{list_any}
use Rattle.std.proofs.Math.Nat.{mul-le-mul_right, add-mul}
use Rattle.std.proofs.lemmas.Bool.{cases_lt}
use Rattle.std.proofs.lemmas.List.{length-append, length-take}
use Rattle.norm_base.specs.Settings.{Settings}
use Rattle.fec_plan.specs.Points.{Point, point_of, point_before}
use Rattle.fec_plan.specs.declared.position.Position.{Position}
use Rattle.fec_plan.proofs.PointLemmas.{not_before}
use Rattle.norm_order.specs.Entries.{Object, Whole, Stream, Entry}
use Rattle.norm_order.specs.Segments.{closed_from}
use Rattle.norm_order.specs.Upto.{parts_of, all_parts}
use Rattle.norm_order.specs.declared.up.Up.{Up}
use Rattle.norm_safety.specs.Fronts.{IsFront}
use Rattle.norm_safety.specs.LosesNothing.{is_loss}
use Rattle.norm_safety.proofs.ClosedLemmas.{ended_empty}
use Rattle.norm_safety.proofs.DropsLemmas.{blocks_parts, drops, dropped_parts, next_parts, drops_is}
use Rattle.norm_safety.proofs.GoesOn.{IsFinished, HasBlocks, DropWithin}
use Rattle.norm_safety.proofs.NoLoss.{no_loss}
use Rattle.norm_safety.proofs.Passed.{StandsIn, StandsAt, begun, length-parts}
use Rattle.norm_safety.proofs.Stood.{entries_front}
use Rattle.norm_safety.proofs.Through.{Handed, handed_through}

entry_there : (order : List Entry) (n : ℕ) → n < length order → (x : Entry) × (slice_get order n ≡ Some x)
entry_there [] n lt = absurd (omega arith)
entry_there (x ∷ order) zero lt = (x, refl)
entry_there (x ∷ order) (suc n) lt = entry_there order n (omega (arith, lt))

some_parts : (p : Settings) (index : ℕ) (o : Object) → 0 < length (parts_of p index o)
some_parts p index (Whole kind info octets) = omega arith
some_parts p index (Stream parts) = let long = length-parts p index parts in omega (arith, long)

no_octets : (xs : List ℕ) → xs ≡ [] → 0 < length xs → ⊥
no_octets xs e lt = let none = ap length e in omega (arith, none, lt)

-- what stands within a finished object is less than its parts
begun_short : (p : Settings) (index block symbol : ℕ) (x : Entry) → StandsIn p x.object block symbol → IsFinished x.object
    → length (begun p index (block * p.b + symbol) (Some x)) < length (parts_of p index x.object)
begun_short p index block symbol x stands done = go x.object refl stands done (block * p.b + symbol) refl
  where
    nothing : block ≡ 0 → symbol ≡ 0 → block * p.b + symbol ≡ 0
    nothing b s = ap (λ (n : ℕ). n * p.b + symbol) b ∙ ap (λ (n : ℕ). 0 * p.b + n) s ∙ (let z : 0 * p.b + 0 ≡ 0 = omega arith in z)

    go : (o : Object) → x.object ≡ o → StandsIn p o block symbol → IsFinished o → (n : ℕ) → block * p.b + symbol ≡ n
        → length (begun p index n (Some x)) < length (parts_of p index x.object)
    go o is h f zero e = some_parts p index x.object
    go (Whole kind info octets) is h f (suc n) e = absurd (let z = nothing h.0 h.1 in omega (arith, z, e))
    go (Stream parts) is h f (suc n) e =
        let empty = ended_empty p.e [] parts f in
        let many : length (parts_of p index x.object) ≡ suc (length (closed_from p.e [] parts)) =
        ap (λ (o : Object). length (parts_of p index o)) is ∙ length-parts p index parts in
        let taken = length-take (suc (suc n)) (parts_of p index x.object) in
        let long = empty.long in
        by (cases_lt empty.last (block * p.b + symbol)) many taken long
      where
        by : (ended_empty p.e [] parts f).last < block * p.b + symbol ⊎ (block * p.b + symbol ≤ (ended_empty p.e [] parts f).last)
            → length (parts_of p index x.object) ≡ suc (length (closed_from p.e [] parts))
            → length (take (suc (suc n)) (parts_of p index x.object)) ≡ min (suc (suc n)) (length (parts_of p index x.object))
            → length (closed_from p.e [] parts) ≡ suc (ended_empty p.e [] parts f).last
            → length (take (suc (suc n)) (parts_of p index x.object)) < length (parts_of p index x.object)
        by (inl lt) many taken long =
            absurd (no_octets (get_or (closed_from p.e [] parts) (ended_empty p.e [] parts f).last []) (ended_empty p.e [] parts f).empty
            (h.2 (ended_empty p.e [] parts f).last lt))
        by (inr le) many taken long = omega (arith, le, many, taken, long, e)

begun_most : (p : Settings) (index n : ℕ) (found : Option Entry) → length (begun p index n found) ≤ suc n
begun_most p index zero found = omega arith
begun_most p index (suc n) None = omega arith
begun_most p index (suc n) (Some x) = let taken = length-take (suc (suc n)) (parts_of p index x.object) in omega (arith, taken)

-- so many blocks of a stream, with its open
blocks_many : (p : Settings) (index n : ℕ) (o : Object) → 0 < n → HasBlocks p n o → length (blocks_parts p index n o) ≡ 1 + n * p.b
blocks_many p index zero o some has = absurd (omega (arith, some))
blocks_many p index (suc n) (Whole kind info octets) some has = absurd has
blocks_many p index (suc n) (Stream parts) some has =
    let taken = length-take (1 + suc n * p.b) (parts_of p index (Stream parts)) in let long = length-parts p index parts in omega (arith, taken, long, has)

-- a place in a block before another lies before that
in_block : (b block symbol n : ℕ) → symbol < b → block < n → block * b + symbol < n * b
in_block b block symbol n low lt =
    let up_to : (block + 1) * b ≤ n * b = mul-le-mul_right b (let z : block + 1 ≤ n = omega (arith, lt) in z) in
    let next : (block + 1) * b ≡ block * b + 1 * b = add-mul block 1 b in
    omega (arith, up_to, next, low)

module _ (p : Settings) (order : List Entry) (d : Point) (lost : List ℕ) (ups : List Up) (at : Position) (within : DropWithin p order d)
    (gone : Handed p order d lost ups at) (clear : IsFront (dropped_parts p order d) ups) where
  -- hand-ups that begin with all that was dropped report no loss
  pub none_lost : 0 < p.b → list_any is_loss ups ≡ false
  none_lost some = no_loss p some d 0 order ups (handed_through p order d lost ups at gone) (λ k e. front k e)
    where
      front : (k : ℕ) → 0 + k ≡ d.index → IsFront (drops p 0 k d.block order) ups
      front k e = let N : ℕ → Type 0 = λ n. IsFront (drops p 0 n d.block order) ups in subst N (let z : d.index ≡ k = omega (arith, e) in z) clear

  all_long : lost ≡ [] → length ups
      ≡ length (all_parts p 0 (take at.index order)) + length (begun p at.index (at.block * p.b + at.symbol) (slice_get order at.index))
  all_long none =
      ap length (gone.all ∙ ap (λ (us : List Up). us ++ begun p at.index (at.block * p.b + at.symbol) (slice_get order at.index)) (gone.clean none).1)
      ∙ length-append (all_parts p 0 (take at.index order)) (begun p at.index (at.block * p.b + at.symbol) (slice_get order at.index))

  dropped_long : length (all_parts p 0 (take d.index order)) + length (next_parts p d.index d.block (slice_get order d.index)) ≤ length ups
  dropped_long =
      let is = drops_is p 0 d.index d.index d.block order (let z : d.index ≡ 0 + d.index = omega arith in z) in
      let many = ap length is ∙ length-append (all_parts p 0 (take d.index order)) (next_parts p d.index d.block (slice_get order d.index)) in
      let all = ap length clear.1 ∙ length-append (dropped_parts p order d) clear.0 in
      omega (arith, many, all)

  not_earlier : lost ≡ [] → at.index < d.index → ⊥
  not_earlier none lt =
      let le = within.within in
      go (entry_there order at.index (omega (arith, lt, le)))
    where
      go : (x : Entry) × (slice_get order at.index ≡ Some x) → ⊥
      go (x, found) =
          let S : Option Entry → Type 0 = λ o. StandsAt p o at.block at.symbol in
          let short = begun_short p at.index at.block at.symbol x (subst S found gone.stands) (within.finished at.index x found lt) in
          let front = entries_front p 0 at.index order at.index d.index x found lt (let z : at.index ≡ 0 + at.index = omega arith in z) in
          let parts = length-append (all_parts p 0 (take at.index order)) (parts_of p at.index x.object) in
          let more = ap length front.1 ∙ length-append (all_parts p 0 (take at.index order) ++ parts_of p at.index x.object) front.0 in
          let here = ap (λ (o : Option Entry). length (begun p at.index (at.block * p.b + at.symbol) o)) found in
          let all = all_long none in
          let least = dropped_long in
          omega (arith, short, parts, more, here, all, least)

  not_within : lost ≡ [] → at.index ≡ d.index → at.block < d.block → ⊥
  not_within none same lt = go (within.blocks (omega (arith, lt)))
    where
      low : (o : Object) → HasBlocks p d.block o → StandsIn p o at.block at.symbol → at.symbol < p.b
      low (Whole kind info octets) has stands = absurd has
      low (Stream parts) has stands = stands.0

      go : (x : Entry) × (slice_get order d.index ≡ Some x) × HasBlocks p d.block x.object → ⊥
      go (x, found, has) =
          let here : slice_get order at.index ≡ Some x = ap (slice_get order) same ∙ found in
          let S : Option Entry → Type 0 = λ o. StandsAt p o at.block at.symbol in
          let number = in_block p.b at.block at.symbol d.block (low x.object has (subst S here gone.stands)) lt in
          let most = begun_most p at.index (at.block * p.b + at.symbol) (slice_get order at.index) in
          let blocks = ap (λ (o : Option Entry). length (next_parts p d.index d.block o)) found ∙ blocks_many p d.index d.block x.object (omega (arith, lt)) has in
          let before = ap (λ (n : ℕ). length (all_parts p 0 (take n order))) same in
          let all = all_long none in
          let least = dropped_long in
          omega (arith, number, most, blocks, before, all, least)

  pub not_behind : lost ≡ [] → point_before (point_of at) d ≡ false
  not_behind none = not_before (point_of at) d (go (cases_lt at.index d.index) (cases_lt d.index at.index) (cases_lt at.block d.block))
    where
      go : (at.index < d.index) ⊎ (d.index ≤ at.index) → (d.index < at.index) ⊎ (at.index ≤ d.index) → (at.block < d.block) ⊎ (d.block ≤ at.block)
          → (d.index < at.index) ⊎ ((d.index ≡ at.index) × (d.block ≤ at.block))
      go (inl lt) b c = absurd (not_earlier none lt)
      go (inr le) (inl lt) c = inl lt
      go (inr le) (inr ge) (inl lt) = absurd (not_within none (omega (arith, le, ge)) lt)
      go (inr le) (inr ge) (inr more) = inr (omega (arith, le, ge), more)

-- where nothing of what was dropped was handed up, nothing was dropped
pub nothing_dropped : (p : Settings) (order : List Entry) (d : Point) → DropWithin p order d → IsFront (dropped_parts p order d) [] → (d.index ≡ 0) × (d.block ≡ 0)
nothing_dropped p order d within clear = (first (cases_lt 0 d.index), second (cases_lt 0 d.index) (cases_lt 0 d.block))
  where
    least : length (all_parts p 0 (take d.index order)) + length (next_parts p d.index d.block (slice_get order d.index)) ≡ 0
    least =
        let is = drops_is p 0 d.index d.index d.block order (let z : d.index ≡ 0 + d.index = omega arith in z) in
        let many = ap length is ∙ length-append (all_parts p 0 (take d.index order)) (next_parts p d.index d.block (slice_get order d.index)) in
        let all = ap length clear.1 ∙ length-append (dropped_parts p order d) clear.0 in
        omega (arith, many, all)

    some_first : 0 < d.index → ⊥
    some_first lt = (let le = within.within in go (entry_there order 0 (omega (arith, lt, le))))
      where
        go : (x : Entry) × (slice_get order 0 ≡ Some x) → ⊥
        go (x, found) =
            let front = entries_front p 0 0 order 0 d.index x found lt refl in
            let parts = length-append (all_parts p 0 (take 0 order)) (parts_of p 0 x.object) in
            let more = ap length front.1 ∙ length-append (all_parts p 0 (take 0 order) ++ parts_of p 0 x.object) front.0 in
            let some = some_parts p 0 x.object in
            let none = least in
            omega (arith, parts, more, some, none)

    some_block : 0 < d.block → ⊥
    some_block lt = go (within.blocks lt)
      where
        go : (x : Entry) × (slice_get order d.index ≡ Some x) × HasBlocks p d.block x.object → ⊥
        go (x, found, has) =
            let blocks = ap (λ (o : Option Entry). length (next_parts p d.index d.block o)) found ∙ blocks_many p d.index d.block x.object lt has in
            let none = least in
            omega (arith, blocks, none)

    first : (0 < d.index) ⊎ (d.index ≤ 0) → d.index ≡ 0
    first (inl lt) = absurd (some_first lt)
    first (inr le) = omega (arith, le)

    second : (0 < d.index) ⊎ (d.index ≤ 0) → (0 < d.block) ⊎ (d.block ≤ 0) → d.block ≡ 0
    second a (inl lt) = absurd (some_block lt)
    second a (inr le) = omega (arith, le)
