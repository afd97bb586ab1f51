use Rattle.std.proofs.Common.{◌≡◌, ◌+◌, ◌*◌, ◌%◌, ◌^◌, ◌<◌, ◌≤◌, [], ◌∷◌, List, ℕ, length, set, get_or, false, refl, sym, ap, subst, ◌∙◌, arith}
use Rattle.std.specs.Prelude.{Option, MatchOption, bit_and}
use Rattle.std.specs.Int.{w64, trailing_zeros, bit_not}
use Rattle.std.proofs.lemmas.List.{get_or_read, length-set}
use Rattle.std.proofs.lemmas.Nat.Bits.{bit_at-trailing_zeros}
use Rattle.symbol_mask.specs.Places.{Places}
use Rattle.symbol_mask.specs.Words.{has_bit, places_of}
use Rattle.symbol_mask.proofs.Bits.{nobody, zero_below, front_below, taken, positive}
use Rattle.symbol_mask.proofs.mask.Mask.take_lowest.Goals as goal

pub returns-in_err-word-clause-members : goal.returns-in_err-word-clause-members
returns-in_err-word-clause-members c =
    let e : c.args.self.now.members ≡ [] =
    ap (λ (p : Places). p.members) (sym c.self.view_is)
    ∙ nobody c.self.inside.words.items c.deref.result.now c.self.inside.size c.self.inside.lowest c.deref.ensures.value c.self.invariant.empty c.in_err-word.ensures.before in
    subst (λ (r : Option ℕ). MatchOption r ((c.args.self.now.members ≡ []) × (c.args.self.now.members ≡ [])) (λ place. c.args.self.now.members ≡ place ∷ c.args.self.now.members))
    (sym c.from_residual.ensures) (e, e)

-- the word that is found stands in the words
in_words : (c : goal.After-self-2-1) → c.in_ok-word.word < length c.self.inside.words.items
in_words c = let at : c.in_ok-word.word < length c.deref.result.now = c.in_ok-word.ensures.found.1 in let same = ap length c.deref.ensures.value in omega (arith, at, length-set {A = ℕ})

-- what is read there
reads : (c : goal.After-self-2-1) → c.index-bits.result.now ≡ get_or c.self.inside.words.items c.in_ok-word.word 0
reads c = get_or_read c.self.inside.words.items c.in_ok-word.word c.index-bits.result.now (in_words c) c.index-bits.ensures 0

filled : (c : goal.After-self-2-1) → 0 < c.index-bits.result.now
filled c = positive c.index-bits.result.now (λ e. c.in_ok-word.ensures.found.2 (ap (λ (ws : List ℕ). get_or ws c.in_ok-word.word 0) c.deref.ensures.value ∙ sym (reads c) ∙ e))

fits : (c : goal.After-self-2-1) → c.index-bits.result.now < 2 ^ 64
fits c = omega arith

zeros : (c : goal.After-self-2-1) → (j : ℕ) → j < c.in_ok-word.word → get_or c.self.inside.words.items j 0 ≡ 0
zeros c = zero_below c.self.inside.words.items c.deref.result.now c.self.inside.lowest c.in_ok-word.word c.deref.ensures.value c.self.invariant.empty c.in_ok-word.ensures.before

pub overflow_mul-result : goal.overflow_mul-result
overflow_mul-result c = let small = c.self.invariant.small in let at = in_words c in omega (arith, small, at)

pub overflow_add-result : goal.overflow_add-result
overflow_add-result c =
    let small = c.self.invariant.small in
    let at = in_words c in
    let low = (bit_at-trailing_zeros w64 c.index-bits.result.now (filled c) (fits c)).0 in
    omega (arith, small, at, low)

-- the words without the lowest bit
cleared : goal.After-self-2-1 → List ℕ
cleared c =
    set c.self.inside.words.items c.in_ok-word.word
    (bit_and c.index-bits.result.now (bit_not w64 (1 * 2 ^ trailing_zeros w64 c.index-bits.result.now % 2 ^ 64)))

-- what the cleared bit leaves
after : (c : goal.After-self-2-1)
    → (64 * c.in_ok-word.word + trailing_zeros w64 c.index-bits.result.now < c.self.inside.size)
    × ((places_of c.self.inside.size c.self.inside.words.items).members ≡ (64 * c.in_ok-word.word + trailing_zeros w64 c.index-bits.result.now)
    ∷ (places_of c.self.inside.size (cleared c)).members)
    × ((i : ℕ) → c.self.inside.size ≤ i → has_bit (cleared c) i ≡ false)
unfolding cleared
after c =
    taken c.self.inside.words.items (cleared c) c.self.inside.size c.in_ok-word.word c.index-bits.result.now (trailing_zeros w64 c.index-bits.result.now) (in_words c)
    (sym (reads c)) (zeros c) (bit_at-trailing_zeros w64 c.index-bits.result.now (filled c) (fits c)) refl c.self.invariant.rest

pub invariant_of-self : goal.invariant_of-self
unfolding cleared
invariant_of-self c =
    let small = c.self.invariant.small in
    let at = in_words c in
    record {
      small = omega (arith, small, length-set {A = ℕ});
      within = omega (arith, at, length-set {A = ℕ});
      empty = front_below c.self.inside.words.items c.in_ok-word.word _ (zeros c);
      room = let room = c.self.invariant.room in omega (arith, room, length-set {A = ℕ});
      rest = (after c).2;
    }

pub returns-clause-members : goal.returns-clause-members
unfolding cleared
returns-clause-members c = ap (λ (p : Places). p.members) (sym c.self.view_is) ∙ (after c).1

pub returns-clause-within : goal.returns-clause-within
returns-clause-within c =
    let at = (after c).0 in
    let size = ap (λ (p : Places). p.size) c.self.view_is in
    omega (arith, at, size)
