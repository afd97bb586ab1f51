-- A stream of which one more symbol was sent.
use Rattle.std.proofs.Common.{◌≡◌, ℕ, zero, suc, ◌+◌, ◌*◌, ◌/◌, ◌%◌, ◌<◌, ◌≤◌, ◌⊎◌, inl, inr, Bool, true, false, refl, sym, ap, subst, ◌∙◌, arith, List, ◌∷◌, length, map}
use Rattle.std.specs.Prelude.{nat_lt}
use Rattle.std.specs.List.{range_with_len}
use Rattle.std.proofs.Math.ListN.{set}
use Rattle.std.proofs.Math.Nat.{mod-lt}
use Rattle.std.proofs.lemmas.Nat.{div-add-mod'}
use Rattle.norm_base.specs.Settings.{Settings}
use Rattle.fec_plan.specs.Points.{Position, position, position_before, same_position}
use Rattle.fec_plan.proofs.PositionLemmas.{positions_same, position_itself}
use Rattle.norm_order.specs.Entries.{Part, Stream}
use Rattle.norm_order.specs.Sets.{is_member, with_member}
use Rattle.norm_order.specs.Shapes.{shape_of, encoded_in}
use Rattle.norm_order.proofs.SetLemmas.{self_in, others_in, positions}
use Rattle.stream_buffer.specs.HeldState.{HeldState, Knows, place_of, was_sent, marks_of}
use Rattle.stream_buffer.proofs.RangeLemmas.{place_is}
use Rattle.stream_buffer.proofs.KnowsLemmas.{counted, is_closed, first_by}

map_alike : (f g : ℕ → Bool) (a n : ℕ) → ((i : ℕ) → i < n → g (a + i) ≡ f (a + i)) → map f (range_with_len a n) ≡ map g (range_with_len a n)
map_alike f g a zero same = refl
map_alike f g a (suc n) same =
    ap (λ b. b ∷ map f (range_with_len (a + 1) n)) (ap f (let e : a ≡ a + 0 = omega arith in e) ∙ sym (same 0 (omega arith)) ∙ ap g (let e : a + 0 ≡ a = omega arith in e))
    ∙ ap (λ bs. g a ∷ bs) (map_alike f g (a + 1) n (λ i lt.
    ap g (let e : a + 1 + i ≡ a + suc i = omega arith in e) ∙ same (suc i) (omega arith) ∙ ap f (let e : a + suc i ≡ a + 1 + i = omega arith in e)))

set_one : (f g : ℕ → Bool) (a n k : ℕ) → k < n → g (a + k) ≡ true → ((i : ℕ) → i < n → (i ≡ k → ⊥) → g (a + i) ≡ f (a + i))
    → set (map f (range_with_len a n)) k true ≡ map g (range_with_len a n)
set_one f g a zero k lt is same = absurd (omega arith)
set_one f g a (suc n) zero lt is same =
    ap (λ b. b ∷ map f (range_with_len (a + 1) n)) (sym is ∙ ap g (let e : a + 0 ≡ a = omega arith in e))
    ∙ ap (λ bs. g a ∷ bs) (map_alike f g (a + 1) n (λ i less.
    ap g (let e : a + 1 + i ≡ a + suc i = omega arith in e) ∙ same (suc i) (omega arith) (λ z. omega arith) ∙ ap f (let e : a + suc i ≡ a + 1 + i = omega arith in e)))
set_one f g a (suc n) (suc k) lt is same =
    ap (λ b. b ∷ set (map f (range_with_len (a + 1) n)) k true)
    (ap f (let e : a ≡ a + 0 = omega arith in e) ∙ sym (same 0 (omega arith) (λ z. omega arith)) ∙ ap g (let e : a + 0 ≡ a = omega arith in e))
    ∙ ap (λ bs. g a ∷ bs) (set_one f g (a + 1) n k (omega arith) (ap g (let e : a + 1 + k ≡ a + suc k = omega arith in e) ∙ is) (λ i less apart.
    ap g (let e : a + 1 + i ≡ a + suc i = omega arith in e) ∙ same (suc i) (omega arith) (λ z. apart (omega arith)) ∙ ap f (let e : a + suc i ≡ a + 1 + i = omega arith in e)))

-- two positions are the same, or not
same_or : (x y : Position) → (x ≡ y) ⊎ (x ≡ y → ⊥)
same_or x y = go (same_position x y) refl
  where
    go : (b : Bool) → same_position x y ≡ b → (x ≡ y) ⊎ (x ≡ y → ⊥)
    go true e = inl (positions_same x y e)
    go false e = inr (λ same. never (sym (position_itself x) ∙ ap (same_position x) same ∙ e))
      where
        never : true ≡ false → ⊥
        never f = cc

-- what was sent stays so
stays_sent : (q at : Position) (sent : List Position) → is_member position_before q sent ≡ true → is_member position_before q (with_member position_before at sent) ≡ true
stays_sent q at sent there = go (same_or q at)
  where
    go : (q ≡ at) ⊎ (q ≡ at → ⊥) → is_member position_before q (with_member position_before at sent) ≡ true
    go (inl same) = ap (λ (x : Position). is_member position_before x (with_member position_before at sent)) same ∙ self_in position_before at sent positions
    go (inr apart) = others_in position_before q at sent positions apart ∙ there

-- what was sent besides is encoded
only_more : (p : Settings) (index : ℕ) (parts : List Part) (sent : List Position) (h : HeldState) (block symbol : ℕ) → Knows p index parts sent h
    → nat_lt symbol (encoded_in (shape_of p (Stream parts)) block) ≡ true → (q : Position)
    → is_member position_before q (with_member position_before (position index block symbol) sent) ≡ true → q.index ≡ index
    → nat_lt q.symbol (encoded_in (shape_of p (Stream parts)) q.block) ≡ true
only_more p index parts sent h block symbol knows encoded q there at = go (same_or q (position index block symbol))
  where
    go : (q ≡ position index block symbol) ⊎ (q ≡ position index block symbol → ⊥) → nat_lt q.symbol (encoded_in (shape_of p (Stream parts)) q.block) ≡ true
    go (inl same) = ap (λ (x : Position). nat_lt x.symbol (encoded_in (shape_of p (Stream parts)) x.block)) same ∙ encoded
    go (inr apart) = knows.only q (sym (others_in position_before q (position index block symbol) sent positions apart) ∙ there) at

-- a symbol of another entry
pub noted_other : (p : Settings) (index : ℕ) (parts : List Part) (sent : List Position) (h : HeldState) (at : Position) → (at.index ≡ index → ⊥) → Knows p index parts sent h
    → Knows p index parts (with_member position_before at sent) h
noted_other p index parts sent h at apart knows = record {
  buffer = knows.buffer;
  marks = knows.marks ∙ map_alike (was_sent index p.b sent) (was_sent index p.b (with_member position_before at sent)) (h.buffer.first * p.b) (length h.buffer.rows)
      (λ i lt. others_in position_before (place_of index p.b (h.buffer.first * p.b + i)) at sent positions (λ same. apart (sym (ap (λ (x : Position). x.index) same))));
  gone = λ number lt. stays_sent (place_of index p.b number) at sent (knows.gone number lt);
  only = λ q there is. knows.only q (sym (others_in position_before q at sent positions (λ same. apart (sym (ap (λ (x : Position). x.index) same) ∙ is))) ∙ there) is;
}

-- a symbol that is no segment
pub noted_parity : (p : Settings) (index : ℕ) (parts : List Part) (sent : List Position) (h : HeldState) (block symbol : ℕ) → 0 < p.b → p.b ≤ symbol → Knows p index parts sent h
    → nat_lt symbol (encoded_in (shape_of p (Stream parts)) block) ≡ true → Knows p index parts (with_member position_before (position index block symbol) sent) h
noted_parity p index parts sent h block symbol some past knows encoded = record {
  buffer = knows.buffer;
  marks = knows.marks ∙ map_alike (was_sent index p.b sent) (was_sent index p.b (with_member position_before (position index block symbol) sent)) (h.buffer.first * p.b) (length h.buffer.rows)
      (λ i lt. others_in position_before (place_of index p.b (h.buffer.first * p.b + i)) (position index block symbol) sent positions
      (λ same. apart (h.buffer.first * p.b + i) (ap (λ (x : Position). x.symbol) same)));
  gone = λ number lt. stays_sent (place_of index p.b number) (position index block symbol) sent (knows.gone number lt);
  only = only_more p index parts sent h block symbol knows encoded;
}
  where
    apart : (number : ℕ) → number % p.b ≡ symbol → ⊥
    apart number same = let below : number % p.b < p.b = mod-lt number some in omega (arith, same, past, below)

-- the mark of a segment
pub noted_segment : (p : Settings) (index : ℕ) (parts : List Part) (sent : List Position) (h k : HeldState) (block symbol place : ℕ) → 0 < p.b → symbol < p.b → Knows p index parts sent h
    → nat_lt symbol (encoded_in (shape_of p (Stream parts)) block) ≡ true → h.buffer.first * p.b + place ≡ block * p.b + symbol → k.buffer ≡ h.buffer
    → k.sent ≡ set h.sent place true → Knows p index parts (with_member position_before (position index block symbol) sent) k
noted_segment p index parts sent h k block symbol place some less knows encoded at same_buffer marks = record {
  buffer = subst (Rattle.stream_buffer.specs.StreamState.StandsFor p parts) (sym same_buffer) knows.buffer;
  marks =
      marks ∙ ap (λ (bs : List Bool). set bs place true) knows.marks
      ∙ set_one (was_sent index p.b sent) (was_sent index p.b new) from (length h.buffer.rows) place within
      (ap (λ n. was_sent index p.b new n) at ∙ ap (λ (x : Position). is_member position_before x new) (place_is index p.b block symbol less) ∙ self_in position_before (position index block symbol) sent positions)
      (λ i lt apart. others_in position_before (place_of index p.b (from + i)) (position index block symbol) sent positions (λ same. apart (other i same)))
      ∙ ap (λ (v : Rattle.stream_buffer.specs.StreamState.StreamState). marks_of index p.b new (v.first * p.b) (length v.rows)) (sym same_buffer);
  gone = λ number lt. stays_sent (place_of index p.b number) (position index block symbol) sent
      (knows.gone number (subst (λ (v : Rattle.stream_buffer.specs.StreamState.StreamState). number < v.first * p.b) same_buffer lt));
  only = only_more p index parts sent h block symbol knows encoded;
}
  where
    from : ℕ
    from = h.buffer.first * p.b

    new : List Position
    new = with_member position_before (position index block symbol) sent

    within : place < length h.buffer.rows
    within = omega (arith, at, is_closed p parts block symbol less encoded, counted p parts h.buffer knows.buffer, first_by p parts h.buffer knows.buffer)

    other : (i : ℕ) → place_of index p.b (h.buffer.first * p.b + i) ≡ position index block symbol → i ≡ place
    other i same =
        let q : (h.buffer.first * p.b + i) / p.b ≡ block = ap (λ (x : Position). x.block) same in
        let r : (h.buffer.first * p.b + i) % p.b ≡ symbol = ap (λ (x : Position). x.symbol) same in
        let whole : block * p.b + symbol ≡ h.buffer.first * p.b + i = ap (λ n. n * p.b + symbol) (sym q) ∙ ap (λ n. (h.buffer.first * p.b + i) / p.b * p.b + n) (sym r) ∙ div-add-mod' (h.buffer.first * p.b + i) p.b in
        omega (arith, whole, at)

-- a segment that is not closed was not sent
pub never_open : (p : Settings) (index : ℕ) (parts : List Part) (sent : List Position) (h : HeldState) (block symbol place : ℕ) → symbol < p.b → Knows p index parts sent h
    → nat_lt symbol (encoded_in (shape_of p (Stream parts)) block) ≡ true → h.buffer.first * p.b + place ≡ block * p.b + symbol → length h.buffer.rows ≤ place → ⊥
never_open p index parts sent h block symbol place less knows encoded at past =
    omega (arith, at, past, is_closed p parts block symbol less encoded, counted p parts h.buffer knows.buffer, first_by p parts h.buffer knows.buffer)
