-- The closed segments of a stream: all have octets, but for the last one of a stream that ended; their octets and offsets.
use Rattle.std.proofs.Common.{◌≡◌, ℕ, zero, suc, ◌+◌, ◌-◌, ◌*◌, ◌/◌, ◌<◌, ◌≤◌, List, [], ◌∷◌, ◌++◌, length, take, drop, get_or, true, Some, refl, sym, ap, ◌∙◌, arith, ◌⊎◌, inl, inr}
use Rattle.std.specs.Prelude.{slice_get}
use Rattle.std.specs.Int.{div_ceil}
use Rattle.std.specs.List.{AllByRecursion}
use Rattle.std.proofs.lemmas.Grind.{div_ceil_times}
use Rattle.std.proofs.lemmas.List.{length-append, length-take, length-drop}
use Rattle.std.proofs.Math.Nat.{div-mul-le_self, mul-le-mul_right, add-mul}
use Rattle.gf_field.specs.Element.{AreElements}
use Rattle.norm_order.specs.Entries.{Part, Write, Cut, End}
use Rattle.norm_order.specs.Segments.{pieces, full_pieces, all_pieces, closed_from, Segment, placed, written, has_end}
use Rattle.norm_order.proofs.SegmentLemmas.{joined}
use Rattle.norm_safety.proofs.EntryLemmas.{clash}
use Rattle.norm_safety.proofs.SizedOrders.{IsOfOctets}
use Rattle.norm_safety.proofs.HeldLemmas.{octets-take, octets-drop}

-- ---- a stream that ended has an empty segment at its end

-- the last list is empty
pub record EndsEmpty (lists : List (List ℕ)) : Type 0 where
  pub last : ℕ
  pub long : length lists ≡ suc last
  pub empty : get_or lists last [] ≡ []

pub get_or_behind : (xs ys : List (List ℕ)) (i : ℕ) → get_or (xs ++ ys) (length xs + i) [] ≡ get_or ys i []
get_or_behind [] ys i = ap (λ (n : ℕ). get_or ys n []) (let z : 0 + i ≡ i = omega arith in z)
get_or_behind (x ∷ xs) ys i =
    ap (λ (n : ℕ). get_or (x ∷ (xs ++ ys)) n []) (let z : suc (length xs) + i ≡ suc (length xs + i) = omega arith in z) ∙ get_or_behind xs ys i

get_or_before : (xs ys : List (List ℕ)) (i : ℕ) → i < length xs → get_or (xs ++ ys) i [] ≡ get_or xs i []
get_or_before [] ys i lt = absurd (omega arith)
get_or_before (x ∷ xs) ys zero lt = refl
get_or_before (x ∷ xs) ys (suc i) lt = get_or_before xs ys i (omega arith)

behind_others : (xs ys : List (List ℕ)) → EndsEmpty ys → EndsEmpty (xs ++ ys)
behind_others xs ys h = record {
  last = length xs + h.last;
  long = (let sum = length-append xs ys in let n = h.long in omega (arith, sum, n));
  empty = get_or_behind xs ys h.last ∙ h.empty;
}

pub ended_empty : (e : ℕ) (since : List ℕ) (parts : List Part) → has_end parts ≡ true → EndsEmpty (closed_from e since parts)
unfolding closed_from has_end
ended_empty e since [] ended = absurd (clash ended)
ended_empty e since (Write by octets ∷ parts) ended = ended_empty e (since ++ octets) parts ended
ended_empty e since (Cut ∷ parts) ended = behind_others (all_pieces e since) (closed_from e [] parts) (ended_empty e [] parts ended)
ended_empty e since (End ∷ parts) ended =
    let one : EndsEmpty ([] ∷ []) = record { last = 0; long = refl; empty = refl } in behind_others (all_pieces e since) ([] ∷ []) one

-- ---- no other segment is empty

pub length-pieces : (e n : ℕ) (octets : List ℕ) → length (pieces e n octets) ≡ n
unfolding pieces
length-pieces e zero octets = refl
length-pieces e (suc n) octets = ap suc (length-pieces e n (drop e octets))

pieces_some : (e n i : ℕ) (octets : List ℕ) → 0 < e → i < n → i * e < length octets → 0 < length (get_or (pieces e n octets) i [])
unfolding pieces
pieces_some e zero i octets some lt within = absurd (omega arith)
pieces_some e (suc n) zero octets some lt within = let long = length-take e octets in omega (arith, long, some, within)
pieces_some e (suc n) (suc i) octets some lt within =
    pieces_some e n i (drop e octets) some (omega arith)
    (let long = length-drop e octets in let is : suc i * e ≡ e + i * e = omega arith in omega (arith, long, is, within))

begins_in : (e m i l : ℕ) → 0 < e → i < m → m * e < l + e → i * e < l
begins_in e m i l some lt most =
    let next : (i + 1) * e ≤ m * e = mul-le-mul_right e (let z : i + 1 ≤ m = omega arith in z) in
    let is : (i + 1) * e ≡ i * e + 1 * e = add-mul i 1 e in
    omega (arith, next, is, most)

full_some : (e i : ℕ) (octets : List ℕ) → 0 < e → i < length octets / e → 0 < length (get_or (full_pieces e octets) i [])
full_some e i octets some lt =
    pieces_some e (length octets / e) i octets some lt
    (begins_in e (length octets / e) i (length octets) some lt (let le = div-mul-le_self (length octets) e in omega (arith, le, some)))

all_some : (e i : ℕ) (octets : List ℕ) → 0 < e → i < div_ceil (length octets) e → 0 < length (get_or (all_pieces e octets) i [])
all_some e i octets some lt =
    pieces_some e (div_ceil (length octets) e) i octets some lt
    (begins_in e (div_ceil (length octets) e) i (length octets) some lt (div_ceil_times (length octets) e some).1)

-- a segment that is empty is the last one of a stream that ended
abbrev pub IsEnd : ℕ → List Part → List (List ℕ) → Type 0
IsEnd i parts closed = (has_end parts ≡ true) × (length closed ≡ suc i)

none_empty : (xs : List ℕ) → 0 < length xs → xs ≡ [] → ⊥
none_empty xs some e = let long : length xs ≡ 0 = ap (λ (ys : List ℕ). length ys) e in absurd (omega (arith, long, some))

-- before a place or from it on
pub split_at : (n i : ℕ) → (i < n) ⊎ (n ≤ i)
split_at n zero = first n
  where
    first : (n : ℕ) → (0 < n) ⊎ (n ≤ 0)
    first zero = inr (omega arith)
    first (suc n) = inl (omega arith)
split_at zero (suc i) = inr (omega arith)
split_at (suc n) (suc i) = go (split_at n i)
  where
    go : (i < n) ⊎ (n ≤ i) → (suc i < suc n) ⊎ (suc n ≤ suc i)
    go (inl lt) = inl (omega arith)
    go (inr le) = inr (omega arith)

pub empty_ends : (e : ℕ) (since : List ℕ) (parts : List Part) (i : ℕ) → 0 < e → i < length (closed_from e since parts)
    → get_or (closed_from e since parts) i [] ≡ [] → IsEnd i parts (closed_from e since parts)
unfolding closed_from has_end
empty_ends e since [] i some lt empty =
    absurd (none_empty (get_or (full_pieces e since) i []) (full_some e i since some (let n = length-pieces e (length since / e) since in omega (arith, n, lt))) empty)
empty_ends e since (Write by octets ∷ parts) i some lt empty = empty_ends e (since ++ octets) parts i some lt empty
empty_ends e since (Cut ∷ parts) i some lt empty =
    go (λ j less none. empty_ends e [] parts j some less none) (split_at (length (all_pieces e since)) i)
  where
    rest : List (List ℕ)
    rest = closed_from e [] parts

    go : ((j : ℕ) → j < length rest → get_or rest j [] ≡ [] → IsEnd j parts rest)
        → (i < length (all_pieces e since)) ⊎ (length (all_pieces e since) ≤ i) → IsEnd i parts (all_pieces e since ++ rest)
    go more (inl less) =
        let n = length-pieces e (div_ceil (length since) e) since in
        absurd (none_empty (get_or (all_pieces e since) i []) (all_some e i since some (omega (arith, n, less))) (sym (get_or_before (all_pieces e since) rest i less) ∙ empty))
    go more (inr le) =
        let j : ℕ = i - length (all_pieces e since) in
        let is : i ≡ length (all_pieces e since) + j = omega (arith, le) in
        let sum = length-append (all_pieces e since) rest in
        let at = more j (omega (arith, sum, lt, le)) (sym (get_or_behind (all_pieces e since) rest j) ∙ ap (λ (n : ℕ). get_or (all_pieces e since ++ rest) n []) (sym is) ∙ empty) in
        (at.0, (let m = at.1 in omega (arith, sum, m, le)))
empty_ends e since (End ∷ parts) i some lt empty = go (split_at (length (all_pieces e since)) i)
  where
    go : (i < length (all_pieces e since)) ⊎ (length (all_pieces e since) ≤ i) → IsEnd i (End ∷ parts) (all_pieces e since ++ [] ∷ [])
    go (inl less) =
        let n = length-pieces e (div_ceil (length since) e) since in
        absurd (none_empty (get_or (all_pieces e since) i []) (all_some e i since some (omega (arith, n, less))) (sym (get_or_before (all_pieces e since) ([] ∷ []) i less) ∙ empty))
    go (inr le) =
        let sum = length-append (all_pieces e since) ([] ∷ []) in
        (refl, omega (arith, sum, lt, le))

-- ---- octets and offsets

octets_append : (xs ys : List ℕ) → AreElements xs → AreElements ys → AreElements (xs ++ ys)
octets_append [] ys h k = k
octets_append (x ∷ xs) ys h k = (h.0, octets_append xs ys h.1 k)

pieces_octets : (e n : ℕ) (octets : List ℕ) → AreElements octets → AllByRecursion AreElements (pieces e n octets)
unfolding pieces
pieces_octets e zero octets are = tt
pieces_octets e (suc n) octets are = (octets-take e octets are, pieces_octets e n (drop e octets) (octets-drop e octets are))

all_append : (xs ys : List (List ℕ)) → AllByRecursion AreElements xs → AllByRecursion AreElements ys → AllByRecursion AreElements (xs ++ ys)
all_append [] ys h k = k
all_append (x ∷ xs) ys h k = (h.0, all_append xs ys h.1 k)

pub closed_octets : (e : ℕ) (since : List ℕ) (parts : List Part) → AreElements since → AllByRecursion IsOfOctets parts
    → AllByRecursion AreElements (closed_from e since parts)
unfolding closed_from
closed_octets e since [] are all = pieces_octets e (length since / e) since are
closed_octets e since (Write by octets ∷ parts) are all = closed_octets e (since ++ octets) parts (octets_append since octets are all.0) all.1
closed_octets e since (Cut ∷ parts) are all =
    all_append (all_pieces e since) (closed_from e [] parts) (pieces_octets e (div_ceil (length since) e) since are) (closed_octets e [] parts tt all.1)
closed_octets e since (End ∷ parts) are all =
    all_append (all_pieces e since) ([] ∷ []) (pieces_octets e (div_ceil (length since) e) since are) (tt, tt)

-- no segment has more than e octets
abbrev pub IsShort : ℕ → List ℕ → Type 0
IsShort e octets = length octets ≤ e

pieces_short : (e n : ℕ) (octets : List ℕ) → AllByRecursion (IsShort e) (pieces e n octets)
unfolding pieces
pieces_short e zero octets = tt
pieces_short e (suc n) octets = ((let long = length-take e octets in omega (arith, long)), pieces_short e n (drop e octets))

short_append : (e : ℕ) (xs ys : List (List ℕ)) → AllByRecursion (IsShort e) xs → AllByRecursion (IsShort e) ys → AllByRecursion (IsShort e) (xs ++ ys)
short_append e [] ys h k = k
short_append e (x ∷ xs) ys h k = (h.0, short_append e xs ys h.1 k)

pub closed_short : (e : ℕ) (since : List ℕ) (parts : List Part) → AllByRecursion (IsShort e) (closed_from e since parts)
unfolding closed_from
closed_short e since [] = pieces_short e (length since / e) since
closed_short e since (Write by octets ∷ parts) = closed_short e (since ++ octets) parts
closed_short e since (Cut ∷ parts) =
    short_append e (all_pieces e since) (closed_from e [] parts) (pieces_short e (div_ceil (length since) e) since) (closed_short e [] parts)
closed_short e since (End ∷ parts) =
    short_append e (all_pieces e since) ([] ∷ []) (pieces_short e (div_ceil (length since) e) since) ((omega arith), tt)

-- all octets together are no more than were written
joined_append : (xs ys : List (List ℕ)) → length (joined (xs ++ ys)) ≡ length (joined xs) + length (joined ys)
joined_append [] ys = omega arith
joined_append (x ∷ xs) ys =
    let a = length-append x (joined (xs ++ ys)) in let b = length-append x (joined xs) in let c = joined_append xs ys in omega (arith, a, b, c)

pieces_few : (e n : ℕ) (octets : List ℕ) → length (joined (pieces e n octets)) ≤ length octets
unfolding pieces
pieces_few e zero octets = omega arith
pieces_few e (suc n) octets =
    let a = length-append (take e octets) (joined (pieces e n (drop e octets))) in
    let b = length-take e octets in
    let c = length-drop e octets in
    let d = pieces_few e n (drop e octets) in
    omega (arith, a, b, c, d)

pub closed_few : (e : ℕ) (since : List ℕ) (parts : List Part) → length (joined (closed_from e since parts)) ≤ length since + length (written parts)
unfolding closed_from written
closed_few e since [] = let few = pieces_few e (length since / e) since in omega (arith, few)
closed_few e since (Write by octets ∷ parts) =
    let more = closed_few e (since ++ octets) parts in
    let a = length-append since octets in
    let b = length-append octets (written parts) in
    omega (arith, more, a, b)
closed_few e since (Cut ∷ parts) =
    let few = pieces_few e (div_ceil (length since) e) since in
    let more = closed_few e [] parts in
    let sum = joined_append (all_pieces e since) (closed_from e [] parts) in
    omega (arith, few, more, sum)
closed_few e since (End ∷ parts) =
    let few = pieces_few e (div_ceil (length since) e) since in
    let sum = joined_append (all_pieces e since) ([] ∷ []) in
    omega (arith, few, sum)

-- a segment is there, with its octets and below all offsets
pub record SegmentAt (offset : ℕ) (lists : List (List ℕ)) (i : ℕ) : Type 0 where
  pub segment : Segment
  pub found : slice_get (placed offset lists) i ≡ Some segment
  pub octets : segment.octets ≡ get_or lists i []
  pub ends : segment.offset ≤ offset + length (joined lists)

pub segment_there : (offset : ℕ) (lists : List (List ℕ)) (i : ℕ) → i < length lists → SegmentAt offset lists i
unfolding placed
segment_there offset [] i lt = absurd (omega arith)
segment_there offset (x ∷ lists) zero lt = record {
  segment = record { offset = offset; octets = x };
  found = refl;
  octets = refl;
  ends = omega arith;
}
segment_there offset (x ∷ lists) (suc i) lt =
    let more = segment_there (offset + length x) lists i (omega arith) in
    record {
      segment = more.segment;
      found = more.found;
      octets = more.octets;
      ends = (let a = length-append x (joined lists) in let b = more.ends in omega (arith, a, b));
    }

-- what holds of all lists holds of the one at a place
pub all_at : (P : List ℕ → Type 0) (lists : List (List ℕ)) (i : ℕ) → P [] → AllByRecursion P lists → P (get_or lists i [])
all_at P [] i h all = h
all_at P (x ∷ lists) zero h all = all.0
all_at P (x ∷ lists) (suc i) h all = all_at P lists i h all.1
