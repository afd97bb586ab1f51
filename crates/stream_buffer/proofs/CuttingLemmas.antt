-- How a stream that goes on is cut: the octets of its open segment, and what joins them.
use Rattle.std.proofs.Common.{◌≡◌, ℕ, zero, suc, ◌+◌, ◌-◌, ◌*◌, ◌/◌, ◌%◌, ◌<◌, ◌≤◌, List, [], ◌∷◌, ◌++◌, length, take, drop, true, false, refl, sym, ap, ◌∙◌, arith, append_assoc, append-nil, length-append, length-drop}
use Rattle.std.specs.Prelude.{min}
use Rattle.std.specs.Int.{div_ceil}
use Rattle.std.proofs.Math.ListN.{drop_of_length-le}
use Rattle.std.proofs.lemmas.List.{take-append-le, drop-append-le, drop-drop, length-take}
use Rattle.std.proofs.Math.Nat.{div-mul-le_self, mul-add-div_right, mod-add-div', mod-lt, mod-eq_of_lt, div-eq_of_lt}
use Rattle.norm_base.specs.declared.node.Origin.{Origin}
use Rattle.norm_order.specs.Entries.{Part, Write, Cut, End}
use Rattle.norm_order.specs.Segments.{pieces, full_pieces, all_pieces, closed_from, Segment, segments, placed, written, since_cut, unclosed, has_end}
use Rattle.norm_order.proofs.SegmentLemmas.{joined, joined-placed, segment_laws}
use Rattle.stream_buffer.specs.StreamState.{behind_full, open_octets}

-- ---- counts

pub more_full : (e m n : ℕ) → 0 < e → (m + n) / e ≡ m / e + (m % e + n) / e
more_full e m n some =
    ap (λ k. k / e) (let same : m + n ≡ m / e * e + (m % e + n) = omega (arith, mod-add-div' m e) in same)
    ∙ mul-add-div_right some (m / e) (m % e + n)

pub length-behind : (e : ℕ) (xs : List ℕ) → length (behind_full e xs) ≡ length xs % e
length-behind e xs = omega (arith, length-drop (length xs / e * e) xs, mod-add-div' (length xs) e)

pub length-pieces : (e n : ℕ) (xs : List ℕ) → length (pieces e n xs) ≡ n
unfolding pieces
length-pieces e zero xs = refl
length-pieces e (suc n) xs = ap suc (length-pieces e n (drop e xs))

-- of fewer octets than a segment has, none is full
pub short_full : (e : ℕ) (xs : List ℕ) → length xs < e → full_pieces e xs ≡ []
unfolding pieces
short_full e xs lt = ap (λ n. pieces e n xs) (div-eq_of_lt lt)

pub short_behind : (e : ℕ) (xs : List ℕ) → length xs < e → behind_full e xs ≡ xs
short_behind e xs lt = ap (λ n. drop (n * e) xs) (div-eq_of_lt lt) ∙ ap (λ n. drop n xs) (let none : 0 * e ≡ 0 = omega arith in none)

pub none_behind : (e : ℕ) → behind_full e [] ≡ []
none_behind e = drop_of_length-le [] (omega arith)

-- a segment's octets are one piece, and where there are none there is none
pub short_all : (e : ℕ) (xs : List ℕ) → length xs < e → div_ceil (length xs) e ≡ min 1 (length xs)
short_all e xs lt = let d : length xs / e ≡ 0 = div-eq_of_lt lt in let m : length xs % e ≡ length xs = mod-eq_of_lt lt in
    ap (λ k. k + min 1 (length xs % e)) d ∙ ap (λ k. 0 + min 1 k) m ∙ (let same : 0 + min 1 (length xs) ≡ min 1 (length xs) = omega arith in same)

-- ---- pieces in a row

pieces-more : (e n m : ℕ) (xs : List ℕ) → pieces e (n + m) xs ≡ pieces e n xs ++ pieces e m (drop (n * e) xs)
unfolding pieces
pieces-more e zero m xs =
    ap (λ k. pieces e k xs) (let same : zero + m ≡ m = omega arith in same)
    ∙ ap (λ k. pieces e m (drop k xs)) (let same : 0 ≡ zero * e = omega arith in same)
pieces-more e (suc n) m xs =
    ap (λ k. pieces e k xs) (let same : suc n + m ≡ suc (n + m) = omega arith in same)
    ∙ ap (λ rest. take e xs ∷ rest) (pieces-more e n m (drop e xs))
    ∙ ap (λ rest. take e xs ∷ pieces e n (drop e xs) ++ pieces e m rest)
    (drop-drop (n * e) e xs ∙ ap (λ k. drop k xs) (let same : e + n * e ≡ suc n * e = omega arith in same))

pieces-front : (e n : ℕ) (xs ys : List ℕ) → n * e ≤ length xs → pieces e n (xs ++ ys) ≡ pieces e n xs
unfolding pieces
pieces-front e zero xs ys le = refl
pieces-front e (suc n) xs ys le =
    let is : suc n * e ≡ e + n * e = omega arith in
    let first : e ≤ length xs = omega (arith, is, le) in
    ap (λ piece. piece ∷ pieces e n (drop e (xs ++ ys))) (take-append-le e xs ys first)
    ∙ ap (λ rest. take e xs ∷ pieces e n rest) (drop-append-le e xs ys first)
    ∙ ap (λ rest. take e xs ∷ rest) (pieces-front e n (drop e xs) ys (let h : n * e ≤ length (drop e xs) = omega (arith, is, le, length-drop e xs) in h))

within : (e : ℕ) (xs : List ℕ) → length xs / e * e ≤ length xs
within e xs = div-mul-le_self (length xs) e

count : (e : ℕ) (xs ys : List ℕ) → 0 < e → length (xs ++ ys) / e ≡ length xs / e + length (behind_full e xs ++ ys) / e
count e xs ys some =
    ap (λ n. n / e) (length-append xs ys)
    ∙ more_full e (length xs) (length ys) some
    ∙ ap (λ n. length xs / e + n / e) (sym (length-append (behind_full e xs) ys ∙ ap (λ n. n + length ys) (length-behind e xs)))

-- the full segments of octets and more, and what is behind them
pub full-more : (e : ℕ) (xs ys : List ℕ) → 0 < e → full_pieces e (xs ++ ys) ≡ full_pieces e xs ++ full_pieces e (behind_full e xs ++ ys)
full-more e xs ys some =
    ap (λ n. pieces e n (xs ++ ys)) (count e xs ys some)
    ∙ pieces-more e (length xs / e) (length (behind_full e xs ++ ys) / e) (xs ++ ys)
    ∙ ap (λ front. front ++ pieces e (length (behind_full e xs ++ ys) / e) (drop (length xs / e * e) (xs ++ ys))) (pieces-front e (length xs / e) xs ys (within e xs))
    ∙ ap (λ rest. pieces e (length xs / e) xs ++ pieces e (length (behind_full e xs ++ ys) / e) rest) (drop-append-le (length xs / e * e) xs ys (within e xs))

pub behind-more : (e : ℕ) (xs ys : List ℕ) → 0 < e → behind_full e (xs ++ ys) ≡ behind_full e (behind_full e xs ++ ys)
behind-more e xs ys some =
    ap (λ n. drop (n * e) (xs ++ ys)) (count e xs ys some)
    ∙ ap (λ n. drop n (xs ++ ys)) (let same : (length xs / e + m) * e ≡ length xs / e * e + m * e = omega arith in same)
    ∙ sym (drop-drop (m * e) (length xs / e * e) (xs ++ ys))
    ∙ ap (drop (m * e)) (drop-append-le (length xs / e * e) xs ys (within e xs))
  where
    m : ℕ
    m = length (behind_full e xs ++ ys) / e

all-behind : (e : ℕ) (xs : List ℕ) → 0 < e → all_pieces e xs ≡ full_pieces e xs ++ all_pieces e (behind_full e xs)
all-behind e xs some =
    ap (λ n. pieces e n xs) (let same : div_ceil (length xs) e ≡ length xs / e + div_ceil (length (behind_full e xs)) e = omega (arith, few, short_all e (behind_full e xs) (omega (arith, few, mod-lt (length xs) some))) in same)
    ∙ pieces-more e (length xs / e) (div_ceil (length (behind_full e xs)) e) xs
  where
    few : length (behind_full e xs) ≡ length xs % e
    few = length-behind e xs

-- ---- a stream that goes on

full_none : (e : ℕ) (xs : List ℕ) → 0 < e → full_pieces e (behind_full e xs) ≡ []
full_none e xs some = short_full e (behind_full e xs) (omega (arith, length-behind e xs, mod-lt (length xs) some))

-- what stands in front of the open segment is closed, whatever comes
from_open : (e : ℕ) (since : List ℕ) (more : List Part) → 0 < e → closed_from e since more ≡ full_pieces e since ++ closed_from e (behind_full e since) more
unfolding closed_from
from_open e since [] some = sym (append-nil (full_pieces e since)) ∙ ap (λ xs. full_pieces e since ++ xs) (sym (full_none e since some))
from_open e since (Write by octets ∷ more) some =
    from_open e (since ++ octets) more some
    ∙ ap (λ front. front ++ closed_from e (behind_full e (since ++ octets)) more) (full-more e since octets some)
    ∙ ap (λ left. (full_pieces e since ++ full_pieces e (behind_full e since ++ octets)) ++ closed_from e left more) (behind-more e since octets some)
    ∙ append_assoc (full_pieces e since) (full_pieces e (behind_full e since ++ octets)) (closed_from e (behind_full e (behind_full e since ++ octets)) more)
    ∙ ap (λ rest. full_pieces e since ++ rest) (sym (from_open e (behind_full e since ++ octets) more some))
from_open e since (Cut ∷ more) some =
    ap (λ front. front ++ closed_from e [] more) (all-behind e since some)
    ∙ append_assoc (full_pieces e since) (all_pieces e (behind_full e since)) (closed_from e [] more)
from_open e since (End ∷ more) some =
    ap (λ front. front ++ [] ∷ []) (all-behind e since some)
    ∙ append_assoc (full_pieces e since) (all_pieces e (behind_full e since)) ([] ∷ [])

-- the closed segments of an open stream with more parts: its own, and those that its open octets and the parts close
pub closed-more : (e : ℕ) (since : List ℕ) (parts more : List Part) → 0 < e → has_end parts ≡ false
    → closed_from e since (parts ++ more) ≡ closed_from e since parts ++ closed_from e (behind_full e (since_cut since parts)) more
unfolding closed_from since_cut has_end
closed-more e since [] more some unended = from_open e since more some
closed-more e since (Write by octets ∷ parts) more some unended = closed-more e (since ++ octets) parts more some unended
closed-more e since (Cut ∷ parts) more some unended =
    ap (λ rest. all_pieces e since ++ rest) (closed-more e [] parts more some unended)
    ∙ sym (append_assoc (all_pieces e since) (closed_from e [] parts) (closed_from e (behind_full e (since_cut [] parts)) more))
closed-more e since (End ∷ parts) more some unended = cc

pub since-more : (since : List ℕ) (parts more : List Part) → since_cut since (parts ++ more) ≡ since_cut (since_cut since parts) more
unfolding since_cut
since-more since [] more = refl
since-more since (Write by octets ∷ parts) more = since-more (since ++ octets) parts more
since-more since (Cut ∷ parts) more = since-more [] parts more
since-more since (End ∷ parts) more = since-more [] parts more

pub written-more : (parts more : List Part) → written (parts ++ more) ≡ written parts ++ written more
unfolding written
written-more [] more = refl
written-more (Write by octets ∷ parts) more = ap (λ rest. octets ++ rest) (written-more parts more) ∙ sym (append_assoc octets (written parts) (written more))
written-more (Cut ∷ parts) more = written-more parts more
written-more (End ∷ parts) more = written-more parts more

pub end-more : (parts more : List Part) → has_end parts ≡ false → has_end (parts ++ more) ≡ has_end more
unfolding has_end
end-more [] more unended = refl
end-more (Write by octets ∷ parts) more unended = end-more parts more unended
end-more (Cut ∷ parts) more unended = end-more parts more unended
end-more (End ∷ parts) more unended = cc

pub placed-more : (offset : ℕ) (xs ys : List (List ℕ)) → placed offset (xs ++ ys) ≡ placed offset xs ++ placed (offset + length (joined xs)) ys
unfolding placed
placed-more offset [] ys = ap (λ n. placed n ys) (let same : offset ≡ offset + 0 = omega arith in same)
placed-more offset (x ∷ xs) ys =
    ap (λ (rest : List Segment). record { offset = offset; octets = x } ∷ rest)
    (placed-more (offset + length x) xs ys
    ∙ ap (λ n. placed (offset + length x) xs ++ placed n ys)
    (let same : offset + length x + length (joined xs) ≡ offset + length (joined (x ∷ xs)) = omega (arith, length-append x (joined xs)) in same))

-- how many octets the closed segments of an open stream have
pub length-closed : (e : ℕ) (parts : List Part) → 0 < e → has_end parts ≡ false
    → length (joined (closed_from e [] parts)) ≡ length (written parts) - unclosed e parts
length-closed e parts some unended =
    ap length (sym (joined-placed 0 (closed_from e [] parts)) ∙ segment_laws.of_open e parts some unended)
    ∙ (let same : length (take (length (written parts) - unclosed e parts) (written parts)) ≡ length (written parts) - unclosed e parts =
    omega (arith, length-take (length (written parts) - unclosed e parts) (written parts)) in same)

-- the segments of an open stream with more parts
pub segments_more : (e : ℕ) (parts more : List Part) → 0 < e → has_end parts ≡ false
    → segments e (parts ++ more) ≡ segments e parts ++ placed (length (written parts) - length (open_octets e parts)) (closed_from e (open_octets e parts) more)
segments_more e parts more some unended =
    ap (placed 0) (closed-more e [] parts more some unended)
    ∙ placed-more 0 (closed_from e [] parts) (closed_from e (open_octets e parts) more)
    ∙ ap (λ n. segments e parts ++ placed n (closed_from e (open_octets e parts) more))
    (let same : 0 + length (joined (closed_from e [] parts)) ≡ length (written parts) - length (open_octets e parts) =
    omega (arith, length-closed e parts some unended, length-behind e (since_cut [] parts)) in same)

-- ---- one part

pub closed-write : (e : ℕ) (xs : List ℕ) (by : Origin) (octets : List ℕ) → closed_from e xs (Write by octets ∷ []) ≡ full_pieces e (xs ++ octets)
unfolding closed_from
closed-write e xs by octets = refl

pub closed-cut : (e : ℕ) (xs : List ℕ) → 0 < e → closed_from e xs (Cut ∷ []) ≡ all_pieces e xs
unfolding closed_from
closed-cut e xs some = ap (λ rest. all_pieces e xs ++ rest) (short_full e [] some) ∙ append-nil (all_pieces e xs)

pub closed-end : (e : ℕ) (xs : List ℕ) → closed_from e xs (End ∷ []) ≡ all_pieces e xs ++ [] ∷ []
unfolding closed_from
closed-end e xs = refl

pub since-write : (xs : List ℕ) (by : Origin) (octets : List ℕ) → since_cut xs (Write by octets ∷ []) ≡ xs ++ octets
unfolding since_cut
since-write xs by octets = refl

pub since-cut : (xs : List ℕ) → since_cut xs (Cut ∷ []) ≡ []
unfolding since_cut
since-cut xs = refl

pub since-end : (xs : List ℕ) → since_cut xs (End ∷ []) ≡ []
unfolding since_cut
since-end xs = refl

pub written-write : (by : Origin) (octets : List ℕ) → written (Write by octets ∷ []) ≡ octets
unfolding written
written-write by octets = append-nil octets

pub written-cut : written (Cut ∷ []) ≡ []
unfolding written
written-cut = refl

pub written-end : written (End ∷ []) ≡ []
unfolding written
written-end = refl

pub end-write : (by : Origin) (octets : List ℕ) → has_end (Write by octets ∷ []) ≡ false
unfolding has_end
end-write by octets = refl

pub end-cut : has_end (Cut ∷ []) ≡ false
unfolding has_end
end-cut = refl

pub end-end : has_end (End ∷ []) ≡ true
unfolding has_end
end-end = refl
