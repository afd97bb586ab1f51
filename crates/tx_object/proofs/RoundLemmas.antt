-- Reading and writing round the end of a ring.
use Rattle.std.proofs.Common.{◌≡◌, ℕ, ◌+◌, ◌-◌, ◌<◌, ◌≤◌, ◌⊎◌, inl, inr, refl, sym, ap, ◌∙◌, arith, List, ◌++◌, length, length-append, take, drop, get_or}
use Rattle.std.specs.Prelude.{min}
use Rattle.std.proofs.Math.ListN.{get_or-append}
use Rattle.std.proofs.lemmas.Bool.{cases_lt}
use Rattle.std.proofs.lemmas.List.{get_or-append_right, get_or-take, get_or-drop, length-take, length-drop, ext_get_or, drop_all, take_all, append-nil}
use Rattle.tx_object.specs.Round.{round, IsClear}

-- the first lap of a ring
pub first_lap : (ring : List ℕ) (start len i : ℕ) → i < len → start + i < length ring → get_or (round ring start len) i 0 ≡ get_or ring (start + i) 0
first_lap ring start len i lt within =
    get_or-take len (drop start (ring ++ ring)) i 0 lt ∙ get_or-drop start (ring ++ ring) i 0 ∙ get_or-append ring ring 0 (start + i) within

-- and the second
pub second_lap : (ring : List ℕ) (start len i : ℕ) → i < len → length ring ≤ start + i → get_or (round ring start len) i 0 ≡ get_or ring (start + i - length ring) 0
second_lap ring start len i lt past =
    get_or-take len (drop start (ring ++ ring)) i 0 lt ∙ get_or-drop start (ring ++ ring) i 0
    ∙ get_or-append_right ring ring (length ring) (start + i) 0 refl past

pub length-round : (ring : List ℕ) (start len : ℕ) → start < length ring → len ≤ length ring → length (round ring start len) ≡ len
length-round ring start len lt le =
    omega (arith, length-take len (drop start (ring ++ ring)), length-drop start (ring ++ ring), length-append ring ring)

-- ---- writing

-- what a write of a piece left, octet by octet
pub record IsWritten (old new piece : List ℕ) (start : ℕ) : Type 0 where
  pub size : length new ≡ length old
  pub first : (i : ℕ) → i < length piece → start + i < length old → get_or new (start + i) 0 ≡ get_or piece i 0
  pub second : (i : ℕ) → i < length piece → length old ≤ start + i → get_or new (start + i - length old) 0 ≡ get_or piece i 0
  pub others : (q : ℕ) → q < length old → (q < start) ⊎ (start + length piece ≤ q) → (start + length piece ≤ q + length old) → get_or new q 0 ≡ get_or old q 0

pub written_round : (old new piece : List ℕ) (start : ℕ) → IsWritten old new piece start → start < length old → length piece ≤ length old
    → round new start (length piece) ≡ piece
written_round old new piece start is lt le =
    ext_get_or 0 (round new start (length piece)) piece (length-round new start (length piece) (omega (arith, is.size)) (omega (arith, is.size)))
    (λ i less.
    let within : i < length piece = omega (arith, length-round new start (length piece) (omega (arith, is.size)) (omega (arith, is.size))) in
    go i within (cases_lt (start + i) (length new)))
  where
    go : (i : ℕ) → i < length piece → (start + i < length new) ⊎ (length new ≤ start + i) → get_or (round new start (length piece)) i 0 ≡ get_or piece i 0
    go i within (inl before) = first_lap new start (length piece) i within before ∙ is.first i within (omega (arith, is.size))
    go i within (inr past) =
        second_lap new start (length piece) i within past
        ∙ ap (λ n. get_or new (start + i - n) 0) is.size
        ∙ is.second i within (omega (arith, is.size))

pub others_round : (old new piece : List ℕ) (start other len : ℕ) → IsWritten old new piece start → start < length old
    → IsClear (length old) start (length piece) other len → round new other len ≡ round old other len
others_round old new piece start other len is lt clear =
    same_where (cases_lt len (length old + 1))
  where
    apart_at : (i q : ℕ) → i < len → ((q ≡ other + i) × (other + i < length old)) ⊎ ((q + length old ≡ other + i) × (length old ≤ other + i))
        → ((start + length piece ≤ other) × (other + len ≤ start + length old)) ⊎ ((other + len ≤ start) × (start + length piece ≤ other + length old))
        → (q < length old) × (((q < start) ⊎ (start + length piece ≤ q)) × (start + length piece ≤ q + length old))
    apart_at i q less (inl at) (inl behind) = (omega arith, (inr (omega arith), omega arith))
    apart_at i q less (inl at) (inr before) = (omega arith, (inl (omega arith), omega arith))
    apart_at i q less (inr at) (inl behind) = (omega (arith, clear.within), (inl (omega arith), omega arith))
    apart_at i q less (inr at) (inr before) = absurd (omega arith)

    same_where : (len < length old + 1) ⊎ (length old + 1 ≤ len) → round new other len ≡ round old other len
    same_where (inr long) = absurd (too_long clear.apart)
      where
        too_long : ((start + length piece ≤ other) × (other + len ≤ start + length old)) ⊎ ((other + len ≤ start) × (start + length piece ≤ other + length old)) → ⊥
        too_long (inl p) = omega (arith, clear.within)
        too_long (inr p) = omega arith
    same_where (inl short) =
        ext_get_or 0 (round new other len) (round old other len) (new_long ∙ sym old_long)
        (λ i less. go i (omega (arith, new_long)) (cases_lt (other + i) (length old)))
      where
        new_long : length (round new other len) ≡ len
        new_long = length-round new other len (omega (arith, is.size, clear.within)) (omega (arith, is.size))

        old_long : length (round old other len) ≡ len
        old_long = length-round old other len clear.within (omega arith)

        go : (i : ℕ) → i < len → (other + i < length old) ⊎ (length old ≤ other + i) → get_or (round new other len) i 0 ≡ get_or (round old other len) i 0
        go i less (inl before) =
            let far = apart_at i (other + i) less (inl (refl, before)) clear.apart in
            first_lap new other len i less (omega (arith, is.size))
            ∙ is.others (other + i) far.0 far.1.0 far.1.1
            ∙ sym (first_lap old other len i less before)
        go i less (inr past) =
            let far = apart_at i (other + i - length old) less (inr (omega arith, past)) clear.apart in
            second_lap new other len i less (omega (arith, is.size))
            ∙ ap (λ n. get_or new (other + i - n) 0) is.size
            ∙ is.others (other + i - length old) far.0 far.1.0 far.1.1
            ∙ sym (second_lap old other len i less past)

-- ---- a piece put over others

-- the octets with a piece put over those from `start` on
abbrev over : List ℕ → ℕ → List ℕ → List ℕ
over old start piece = take start old ++ piece ++ drop (start + length piece) old

length-over : (old piece : List ℕ) (start : ℕ) → start + length piece ≤ length old → length (over old start piece) ≡ length old
length-over old piece start le =
    omega (
      arith,
      length-append (take start old ++ piece) (drop (start + length piece) old),
      length-append (take start old) piece,
      length-take start old,
      length-drop (start + length piece) old,
    )

front_long : (old piece : List ℕ) (start : ℕ) → start ≤ length old → length (take start old ++ piece) ≡ start + length piece
front_long old piece start le = omega (arith, length-append (take start old) piece, length-take start old)

over_within : (old piece : List ℕ) (start i : ℕ) → start + length piece ≤ length old → i < length piece → get_or (over old start piece) (start + i) 0 ≡ get_or piece i 0
over_within old piece start i le lt =
    get_or-append (take start old ++ piece) (drop (start + length piece) old) 0 (start + i) (omega (arith, front_long old piece start (omega arith)))
    ∙ get_or-append_right (take start old) piece start (start + i) 0 (omega (arith, length-take start old)) (omega arith)
    ∙ ap (λ n. get_or piece n 0) (let e : start + i - start ≡ i = omega arith in e)

over_before : (old piece : List ℕ) (start q : ℕ) → start + length piece ≤ length old → q < start → get_or (over old start piece) q 0 ≡ get_or old q 0
over_before old piece start q le lt =
    get_or-append (take start old ++ piece) (drop (start + length piece) old) 0 q (omega (arith, front_long old piece start (omega arith)))
    ∙ get_or-append (take start old) piece 0 q (omega (arith, length-take start old))
    ∙ get_or-take start old q 0 lt

over_behind : (old piece : List ℕ) (start q : ℕ) → start + length piece ≤ length old → start + length piece ≤ q → get_or (over old start piece) q 0 ≡ get_or old q 0
over_behind old piece start q le past =
    get_or-append_right (take start old ++ piece) (drop (start + length piece) old) (start + length piece) q 0 (front_long old piece start (omega arith)) past
    ∙ get_or-drop (start + length piece) old (q - (start + length piece)) 0
    ∙ ap (λ n. get_or old n 0) (let e : start + length piece + (q - (start + length piece)) ≡ q = omega arith in e)

-- a piece that is put in two parts, the second one at the ring's beginning
pub put_round : (old mid new first rest piece : List ℕ) (start n : ℕ) → mid ≡ over old start first → new ≡ over mid 0 rest
    → first ≡ take n piece → rest ≡ drop n piece → n ≡ min (length piece) (length old - start) → start < length old → length piece ≤ length old
    → IsWritten old new piece start
put_round old mid new first rest piece start n mid-is new-is first-is rest-is n-is lt le = record {
  size = ap length new-is ∙ length-over mid rest 0 (omega (arith, mid_long, rest_long)) ∙ mid_long;
  first = λ i less within.
      ap (λ (xs : List ℕ). get_or xs (start + i) 0) new-is
      ∙ over_behind mid rest 0 (start + i) (omega (arith, mid_long, rest_long)) (omega (arith, rest_long))
      ∙ ap (λ (xs : List ℕ). get_or xs (start + i) 0) mid-is
      ∙ over_within old first start i (omega (arith, first_long)) (omega (arith, first_long))
      ∙ ap (λ (xs : List ℕ). get_or xs i 0) first-is
      ∙ get_or-take n piece i 0 (omega arith);
  second = λ i less past.
      let at : 0 + (start + i - length old) ≡ start + i - length old = omega arith in
      ap (λ (xs : List ℕ). get_or xs (start + i - length old) 0) new-is
      ∙ ap (λ q. get_or (over mid 0 rest) q 0) (sym at)
      ∙ over_within mid rest 0 (start + i - length old) (omega (arith, mid_long, rest_long)) (omega (arith, rest_long))
      ∙ ap (λ (xs : List ℕ). get_or xs (start + i - length old) 0) rest-is
      ∙ get_or-drop n piece (start + i - length old) 0
      ∙ ap (λ q. get_or piece q 0) (let e : n + (start + i - length old) ≡ i = omega arith in e);
  others = λ q within side wrapped.
      ap (λ (xs : List ℕ). get_or xs q 0) new-is
      ∙ over_behind mid rest 0 q (omega (arith, mid_long, rest_long)) (omega (arith, rest_long))
      ∙ ap (λ (xs : List ℕ). get_or xs q 0) mid-is
      ∙ beside q side;
}
  where
    first_long : length first ≡ n
    first_long = omega (arith, ap length first-is, length-take n piece)

    rest_long : length rest ≡ length piece - n
    rest_long = ap length rest-is ∙ length-drop n piece

    mid_long : length mid ≡ length old
    mid_long = ap length mid-is ∙ length-over old first start (omega (arith, first_long))

    beside : (q : ℕ) → (q < start) ⊎ (start + length piece ≤ q) → get_or (over old start first) q 0 ≡ get_or old q 0
    beside q (inl before) = over_before old first start q (omega (arith, first_long)) before
    beside q (inr behind) = over_behind old first start q (omega (arith, first_long)) (omega (arith, first_long))

-- a vector's octets after a write of all of them
pub kept_back : (new old : List ℕ) (n : ℕ) → length new ≡ length old → n ≡ length old → take n (new ++ drop (length new) old) ≡ new
kept_back new old n same n-is =
    ap (λ (xs : List ℕ). take n (new ++ xs)) (drop_all (length new) old (omega arith))
    ∙ ap (take n) (append-nil new)
    ∙ take_all n new (omega arith)
