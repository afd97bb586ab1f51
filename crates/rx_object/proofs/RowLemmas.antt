-- What a write to one block's part of a list leaves of the others'.
use Rattle.std.proofs.Common.{◌≡◌, ℕ, ◌+◌, ◌-◌, ◌*◌, ◌<◌, ◌≤◌, ◌⊎◌, inl, inr, List, ◌++◌, length, take, drop, true, sym, ap, ◌∙◌, subst, arith}
use Rattle.std.specs.Prelude.{◌≢◌, is_some}
use Rattle.std.specs.List.{slice_range}
use Rattle.std.proofs.lemmas.Bool.{cases_order, cases_eq}
use Rattle.std.proofs.lemmas.List.{take_at, length-take, length-drop}
use Rattle.std.proofs.lemmas.Slice.{between_is, take-put_mid_below, drop-put_mid, between-put_mid}
use Rattle.std.proofs.Math.Nat.{add-mul, mul-le-mul_right}
use Rattle.fec_plan.specs.Partition.{Cut, IsSound, blocks, source_symbols, all_symbols}
use Rattle.rx_object.specs.Places.{symbol_in, with_one}
use Rattle.rx_object.specs.Rows.{start_of, end_of, block_ids, block_row, coded_symbol, with_coded}
use Rattle.rx_object.proofs.Listed.{coded_here, coded_there}
use Rattle.rx_object.proofs.SolvedLemmas.{with_one_same}
use Rattle.rx_object.proofs.Cuts.{ends_before, ends_within}

-- a list after a write to a part of it
abbrev pub written : ℕ → ℕ → List ℕ → List ℕ → List ℕ
written a k xs ys = take a xs ++ (ys ++ drop k (drop a xs))

before_it : (a k i j : ℕ) (xs ys : List ℕ) → j ≤ a → a ≤ length xs → slice_range (written a k xs ys) i j ≡ slice_range xs i j
before_it a k i j xs ys le within =
    between_is (written a k xs ys) i j ∙ ap (drop i) (take-put_mid_below a k xs ys j le within) ∙ sym (between_is xs i j)

behind_it : (a k i j : ℕ) (xs ys : List ℕ) → a + k ≤ i → a ≤ length xs → length ys ≡ k → slice_range (written a k xs ys) i j ≡ slice_range xs i j
behind_it a k i j xs ys le within long = ap (take (j - i)) (drop-put_mid a k xs ys i le within long)

-- the part that was written
pub there : (a k e : ℕ) (xs ys : List ℕ) → a ≤ length xs → length ys ≡ e - a → slice_range (written a k xs ys) a e ≡ ys
there a k e xs ys within long = between-put_mid a k xs ys e within long

-- ---- the ids of a block, and its octets

pub ids_there : (c : Cut) (block s e : ℕ) (ids new : List ℕ) → s ≡ start_of c block → e ≡ end_of c block → s ≤ length ids → length new ≡ e - s
    → block_ids c (written s (e - s) ids new) block ≡ new
ids_there c block s e ids new at to within long =
    ap (λ n. slice_range (written s (e - s) ids new) n (end_of c block)) (sym at)
    ∙ ap (λ n. slice_range (written s (e - s) ids new) s n) (sym to)
    ∙ there s (e - s) e ids new within long

pub ids_elsewhere : (c : Cut) (block other s e : ℕ) (ids new : List ℕ) → is_some c.l ≡ true → other ≢ block → s ≡ start_of c block → e ≡ end_of c block → s ≤ length ids → length new ≡ e - s
    → block_ids c (written s (e - s) ids new) other ≡ block_ids c ids other
ids_elsewhere c block other s e ids new object differ at to within long = go (cases_order other block)
  where
    go : (other ≡ block) ⊎ ((other < block) ⊎ (block < other)) → block_ids c (written s (e - s) ids new) other ≡ block_ids c ids other
    go (inl same) = absurd (differ same)
    go (inr (inl less)) =
        let le = ends_before c other block object less in
        before_it s (e - s) (start_of c other) (end_of c other) ids new (omega (arith, at, le)) within
    go (inr (inr more)) =
        let le = ends_before c block other object more in
        behind_it s (e - s) (start_of c other) (end_of c other) ids new (omega (arith, at, to, le)) within long

pub row_there : (c : Cut) (block s e z : ℕ) (octets new : List ℕ) → s ≡ start_of c block → e ≡ end_of c block → z ≡ c.e → s * z ≤ length octets → length new ≡ e * z - s * z
    → block_row c (written (s * z) (e * z - s * z) octets new) block ≡ new
row_there c block s e z octets new at to wide within long =
    ap (λ n. slice_range (written (s * z) (e * z - s * z) octets new) n (end_of c block * c.e)) (ap (λ n. n * c.e) (sym at) ∙ ap (λ n. s * n) (sym wide))
    ∙ ap (λ n. slice_range (written (s * z) (e * z - s * z) octets new) (s * z) n) (ap (λ n. n * c.e) (sym to) ∙ ap (λ n. e * n) (sym wide))
    ∙ there (s * z) (e * z - s * z) (e * z) octets new within long

pub row_elsewhere : (c : Cut) (block other s e z : ℕ) (octets new : List ℕ) → is_some c.l ≡ true → other ≢ block → s ≡ start_of c block → e ≡ end_of c block → z ≡ c.e
    → s * z ≤ length octets → length new ≡ e * z - s * z
    → block_row c (written (s * z) (e * z - s * z) octets new) other ≡ block_row c octets other
row_elsewhere c block other s e z octets new object differ at to wide within long = go (cases_order other block)
  where
    starts : s * z ≡ start_of c block * c.e
    starts = ap (λ n. n * z) at ∙ ap (λ n. start_of c block * n) wide

    ends : e * z ≡ end_of c block * c.e
    ends = ap (λ n. n * z) to ∙ ap (λ n. end_of c block * n) wide

    ordered : start_of c block * c.e ≤ end_of c block * c.e
    ordered = mul-le-mul_right c.e (omega arith)

    go : (other ≡ block) ⊎ ((other < block) ⊎ (block < other)) → block_row c (written (s * z) (e * z - s * z) octets new) other ≡ block_row c octets other
    go (inl same) = absurd (differ same)
    go (inr (inl less)) =
        let le : end_of c other * c.e ≤ start_of c block * c.e = mul-le-mul_right c.e (ends_before c other block object less) in
        before_it (s * z) (e * z - s * z) (start_of c other * c.e) (end_of c other * c.e) octets new (omega (arith, starts, le)) within
    go (inr (inr more)) =
        let le : end_of c block * c.e ≤ start_of c other * c.e = mul-le-mul_right c.e (ends_before c block other object more) in
        behind_it (s * z) (e * z - s * z) (start_of c other * c.e) (end_of c other * c.e) octets new (omega (arith, starts, ends, ordered, le)) within long

-- what was read of a block's part
pub ids_read : (c : Cut) (block s e : ℕ) (ids : List ℕ) → s ≡ start_of c block → e ≡ end_of c block → take (e - s) (drop s ids) ≡ block_ids c ids block
ids_read c block s e ids at to =
    ap (λ n. take (e - n) (drop n ids)) at ∙ ap (λ n. take (n - start_of c block) (drop (start_of c block) ids)) to

pub row_read : (c : Cut) (block s e z : ℕ) (octets : List ℕ) → s ≡ start_of c block → e ≡ end_of c block → z ≡ c.e
    → take (e * z - s * z) (drop (s * z) octets) ≡ block_row c octets block
row_read c block s e z octets at to wide =
    ap (λ n. take (e * z - n) (drop n octets)) (ap (λ n. n * z) at ∙ ap (λ n. start_of c block * n) wide)
    ∙ ap (λ n. take (n - start_of c block * c.e) (drop (start_of c block * c.e) octets)) (ap (λ n. n * z) to ∙ ap (λ n. end_of c block * n) wide)

-- ---- the symbols of an object after a write to a block

pub put_symbols : (c : Cut) (block q s e z : ℕ) (ids octets new_ids new_row y x : List ℕ) → is_some c.l ≡ true → s ≡ start_of c block → e ≡ end_of c block → z ≡ c.e → y ≡ x
    → e ≤ length ids → e * z ≤ length octets → length new_ids ≡ e - s → length new_row ≡ e * z - s * z
    → ((id : ℕ) → id < 255 → symbol_in z new_ids new_row id ≡ with_one q y (symbol_in z (take (e - s) (drop s ids)) (take (e * z - s * z) (drop (s * z) octets))) id)
    → (b id : ℕ) → b < blocks c → id < 255
    → coded_symbol c (written s (e - s) ids new_ids) (written (s * z) (e * z - s * z) octets new_row) b id ≡ with_coded block q x (coded_symbol c ids octets) b id
put_symbols c block q s e z ids octets new_ids new_row y x object at to wide same_octets whole_ids whole_octets ids_long long symbols b id less small = go (cases_eq b block)
  where
    first : s ≤ e
    first = omega (arith, at, to)

    ids_within : s ≤ length ids
    ids_within = omega (arith, first, whole_ids)

    within : s * z ≤ length octets
    within = let le : s * z ≤ e * z = mul-le-mul_right z first in omega (arith, le, whole_octets)

    here : coded_symbol c (written s (e - s) ids new_ids) (written (s * z) (e * z - s * z) octets new_row) block id ≡ with_coded block q x (coded_symbol c ids octets) block id
    here =
        ap (λ is. symbol_in c.e is (block_row c (written (s * z) (e * z - s * z) octets new_row) block) id) (ids_there c block s e ids new_ids at to ids_within ids_long)
        ∙ ap (λ row. symbol_in c.e new_ids row id) (row_there c block s e z octets new_row at to wide within long)
        ∙ ap (λ n. symbol_in n new_ids new_row id) (sym wide)
        ∙ symbols id small
        ∙ ap (λ xs. with_one q xs (symbol_in z (take (e - s) (drop s ids)) (take (e * z - s * z) (drop (s * z) octets))) id) same_octets
        ∙ with_one_same q id x (symbol_in z (take (e - s) (drop s ids)) (take (e * z - s * z) (drop (s * z) octets))) (coded_symbol c ids octets block)
        (ap (λ n. symbol_in n (take (e - s) (drop s ids)) (take (e * z - s * z) (drop (s * z) octets)) id) wide
        ∙ ap (λ is. symbol_in c.e is (take (e * z - s * z) (drop (s * z) octets)) id) (ids_read c block s e ids at to)
        ∙ ap (λ row. symbol_in c.e (block_ids c ids block) row id) (row_read c block s e z octets at to wide))
        ∙ sym (coded_here block q id x (coded_symbol c ids octets))

    go : (b ≡ block) ⊎ (b ≢ block) → coded_symbol c (written s (e - s) ids new_ids) (written (s * z) (e * z - s * z) octets new_row) b id ≡ with_coded block q x (coded_symbol c ids octets) b id
    go (inl same) =
        subst (λ n. coded_symbol c (written s (e - s) ids new_ids) (written (s * z) (e * z - s * z) octets new_row) n id ≡ with_coded block q x (coded_symbol c ids octets) n id) (sym same) here
    go (inr other) =
        ap (λ is. symbol_in c.e is (block_row c (written (s * z) (e * z - s * z) octets new_row) b) id) (ids_elsewhere c block b s e ids new_ids object other at to ids_within ids_long)
        ∙ ap (λ row. symbol_in c.e (block_ids c ids b) row id) (row_elsewhere c block b s e z octets new_row object other at to wide within long)
        ∙ sym (coded_there block q b id x (coded_symbol c ids octets) other)

-- a list that was lent whole is what was written
pub kept_back : (n : ℕ) (new old : List ℕ) → length new ≡ length old → n ≡ length old → take n (new ++ drop (length new) old) ≡ new
kept_back n new old long is = take_at new (drop (length new) old) n (long ∙ sym is)

-- ---- where a block lies, in numbers

pub ordered : (c : Cut) (block s e : ℕ) → s ≡ start_of c block → e ≡ end_of c block → s ≤ e
ordered c block s e at to = omega (arith, at, to)

pub ids_within : (c : Cut) (block e : ℕ) (ids : List ℕ) → IsSound c → is_some c.l ≡ true → block < blocks c → e ≡ end_of c block → length ids ≡ all_symbols c → e ≤ length ids
ids_within c block e ids sound object lt to count = let within = ends_within c block sound object lt in omega (arith, within, to, count)

pub octets_within : (c : Cut) (block e z : ℕ) (octets : List ℕ) → IsSound c → is_some c.l ≡ true → block < blocks c → e ≡ end_of c block → z ≡ c.e
    → length octets ≡ all_symbols c * c.e → e * z ≤ length octets
octets_within c block e z octets sound object lt to wide count =
    let within : end_of c block * c.e ≤ all_symbols c * c.e = mul-le-mul_right c.e (ends_within c block sound object lt) in
    let same : e * z ≡ end_of c block * c.e = ap (λ n. n * z) to ∙ ap (λ n. end_of c block * n) wide in
    omega (arith, within, same, count)

pub part_long : (s e : ℕ) (ids : List ℕ) → e ≤ length ids → length (take (e - s) (drop s ids)) ≡ e - s
part_long s e ids within = omega (arith, length-take (e - s) (drop s ids), length-drop s ids, within)

pub row_long : (s e z : ℕ) → s ≤ e → e * z - s * z ≡ (e - s) * z
row_long s e z le =
    let whole : e * z ≡ (s + (e - s)) * z = ap (λ n. n * z) (let sum : e ≡ s + (e - s) = omega (arith, le) in sum) in
    omega (arith, whole, add-mul s (e - s) z)

pub sources_are : (c : Cut) (block s e : ℕ) → s ≡ start_of c block → e ≡ end_of c block → e - s ≡ source_symbols c block
sources_are c block s e at to = omega (arith, at, to)

pub starts_within : (c : Cut) (block s e : ℕ) (ids : List ℕ) → s ≡ start_of c block → e ≡ end_of c block → e ≤ length ids → s ≤ length ids
starts_within c block s e ids at to within = omega (arith, at, to, within)

-- the symbols of lists that were lent whole are those of what was written
pub symbols_back : (c : Cut) (n m block q : ℕ) (x new_ids ids lent_ids new_octets octets lent_octets : List ℕ) → length new_ids ≡ length lent_ids → lent_ids ≡ ids → n ≡ length ids
    → length new_octets ≡ length lent_octets → lent_octets ≡ octets → m ≡ length octets
    → ((b id : ℕ) → b < blocks c → id < 255 → coded_symbol c new_ids new_octets b id ≡ with_coded block q x (coded_symbol c lent_ids lent_octets) b id)
    → (b id : ℕ) → b < blocks c → id < 255
    → coded_symbol c (take n (new_ids ++ drop (length new_ids) ids)) (take m (new_octets ++ drop (length new_octets) octets)) b id ≡ with_coded block q x (coded_symbol c ids octets) b id
symbols_back c n m block q x new_ids ids lent_ids new_octets octets lent_octets p same_ids e r same_octets f symbols b id less small =
    ap (λ xs. coded_symbol c xs (take m (new_octets ++ drop (length new_octets) octets)) b id) (kept_back n new_ids ids (p ∙ ap length same_ids) e)
    ∙ ap (λ xs. coded_symbol c new_ids xs b id) (kept_back m new_octets octets (r ∙ ap length same_octets) f)
    ∙ symbols b id less small
    ∙ ap (λ xs. with_coded block q x (coded_symbol c xs lent_octets) b id) same_ids
    ∙ ap (λ xs. with_coded block q x (coded_symbol c ids xs) b id) same_octets
