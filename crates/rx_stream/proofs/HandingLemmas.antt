-- What is handed up of a stream, from what is kept of its blocks: rows that have segments, and blocks that are there whole.
use Rattle.std.proofs.Common.{◌≡◌, ◌-◌, ℕ, zero, suc, ◌+◌, ◌<◌, ◌≤◌, ◌⊎◌, inl, inr, List, [], ◌∷◌, ◌++◌, length, map, replicate, take, drop, set, get_or, cond, Option, Some, None, Bool, true, false, refl, sym, ap, ◌∙◌, arith}
use Rattle.std.specs.Prelude.{◌==◌, ◌||◌, ◌≢◌, find, min, filter, is_some}
use Rattle.std.specs.List.{AllByRecursion, list_any, range_with_len}
use Rattle.std.proofs.lemmas.Bool.{cases_order, eq-eqb, eqb-true, ne_eqb}
use Rattle.std.proofs.lemmas.List.{drop-append-le, take-append-le}
use Rattle.gf_field.specs.Symbol.{given, solved_symbol}
use Rattle.norm_ext.specs.Numbers.{number}
use Rattle.norm_order.specs.Sets.{with_member, Rises}
use Rattle.fec_plan.specs.Points.{position}
use Rattle.norm_receive_rules.specs.Holding.{Held}
use Rattle.norm_receive_rules.specs.Putting.{held_before}
use Rattle.rx_stream.specs.BlockState.{Came, BlockState, came_before, came_under, lacks, source_of, is_end_at, end_in_block}
use Rattle.rx_stream.specs.BlockSound.{BlockSound, block_of}
use Rattle.rx_stream.specs.BlockMoves.{IsCoded, IsRow, with_came}
use Rattle.rx_stream.specs.StreamSound.{AreNamed, IsBegun, held_in, held_from}
use Rattle.rx_stream.proofs.BlockLemmas.{parts, source_open}

-- ---- a row that has a segment

len_front : (xs ys : List ℕ) → 8 ≤ length xs → number 2 0 (xs ++ ys) ≡ number 2 0 xs
len_front (a ∷ b ∷ xs) ys le = refl
len_front _ ys le = absurd (omega arith)

offset_front : (xs ys : List ℕ) → 8 ≤ length xs → number 4 4 (xs ++ ys) ≡ number 4 4 xs
offset_front (a ∷ b ∷ c ∷ d ∷ e ∷ f ∷ g ∷ h ∷ xs) ys le = refl
offset_front _ ys le = absurd (omega arith)

pub len_coded : (size : ℕ) (row symbol : List ℕ) → IsCoded size row symbol → number 2 0 row ≡ number 2 0 symbol
len_coded size row symbol c =
    ap (number 2 0) (sym c.is) ∙ len_front symbol (replicate (size - length symbol) 0) (let n = c.sent in omega (arith, n))

pub offset_coded : (size : ℕ) (row symbol : List ℕ) → IsCoded size row symbol → number 4 4 row ≡ number 4 4 symbol
offset_coded size row symbol c =
    ap (number 4 4) (sym c.is) ∙ offset_front symbol (replicate (size - length symbol) 0) (let n = c.sent in omega (arith, n))

pub octets_coded : (e n : ℕ) (row symbol : List ℕ) → IsCoded (e + 8) row symbol → n ≡ min (number 2 0 symbol) e → take n (drop 8 row) ≡ take n (drop 8 symbol)
octets_coded e n row symbol c is =
    let long : 8 + n ≤ length symbol = (let s = c.sent in let l = len_coded (e + 8) row symbol c in omega (arith, s, l, is)) in
    ap (λ xs. take n (drop 8 xs)) (sym c.is)
    ∙ ap (take n) (drop-append-le 8 symbol (replicate (e + 8 - length symbol) 0) (omega (arith, long)))
    ∙ take-append-le n (drop 8 symbol) (replicate (e + 8 - length symbol) 0) (let l = length_behind symbol 8 in omega (arith, long, l))
  where
    length_behind : (xs : List ℕ) (m : ℕ) → length xs ≤ m + length (drop m xs)
    length_behind xs zero = omega arith
    length_behind [] (suc m) = omega arith
    length_behind (x ∷ xs) (suc m) = (let l = length_behind xs m in omega (arith, l))

pub row_there : (size : ℕ) (symbol : Option (List ℕ)) (row : List ℕ) → IsRow size symbol (Some row) → is_some symbol ≡ true
row_there size (Some symbol) row is = refl
row_there size None row is = absurd is

-- ---- the first of a range that passes a test

pub found_at : (q : ℕ → Bool) (a n j : ℕ) → a ≤ j → j < a + n → q j ≡ true → ((i : ℕ) → a ≤ i → i < j → q i ≡ false) → find q (range_with_len a n) ≡ Some j
found_at q a zero j le lt passes none = absurd (omega arith)
found_at q a (suc n) j le lt passes none = go (cases_order a j) (λ below. found_at q (a + 1) n j (omega arith) (omega arith) passes (λ i up under. none i (omega arith) under))
  where
    go : (a ≡ j) ⊎ ((a < j) ⊎ (j < a)) → (a < j → find q (range_with_len (a + 1) n) ≡ Some j) → find q (range_with_len a (suc n)) ≡ Some j
    go (inl e) rest = ap (λ b. cond b (Some a) (find q (range_with_len (a + 1) n))) (ap q e ∙ passes) ∙ ap (λ (m : ℕ). Some m) e
    go (inr (inl below)) rest = ap (λ b. cond b (Some a) (find q (range_with_len (a + 1) n))) (none a (omega arith) below) ∙ rest below
    go (inr (inr above)) rest = absurd (omega arith)

pub found_none : (q : ℕ → Bool) (a n : ℕ) → ((i : ℕ) → a ≤ i → i < a + n → q i ≡ false) → find q (range_with_len a n) ≡ None
found_none q a zero none = refl
found_none q a (suc n) none =
    ap (λ b. cond b (Some a) (find q (range_with_len (a + 1) n))) (none a (omega arith) (omega arith))
    ∙ found_none q (a + 1) n (λ i up under. none i (omega arith) (omega arith))

-- what is found passes the test
pub found_in : (q : ℕ → Bool) (a n j : ℕ) → find q (range_with_len a n) ≡ Some j → q j ≡ true
found_in q a zero j e = absurd (cc e)
found_in q a (suc n) j e = go (q a) refl e (found_in q (a + 1) n j)
  where
    go : (b : Bool) → q a ≡ b → cond b (Some a) (find q (range_with_len (a + 1) n)) ≡ Some j → (find q (range_with_len (a + 1) n) ≡ Some j → q j ≡ true) → q j ≡ true
    go true passes f rest = (let same : a ≡ j = cc f in ap q (sym same) ∙ passes)
    go false passes f rest = rest f

-- ---- the end in a block

-- no symbol is there of a block of which nothing came
none_there : (b : BlockState) (symbol : ℕ) → b.came ≡ [] → 1 ≤ b.k → source_of b symbol ≡ None
none_there b symbol none some =
    ap (λ (cs : List Came). source_of (record b { came = cs }) symbol) none
    ∙ ap (λ t. elim t as (λ _. Option (List ℕ)) [ true ↦ Some (solved_symbol b.size [] [] symbol) | false ↦ None ]) (ne_eqb (b.k - 0) 0 (λ e. omega (arith, e, some)))

pub no_end : (e : ℕ) (b : BlockState) → b.came ≡ [] → 1 ≤ b.k → end_in_block e b ≡ None
no_end e b none some =
    found_none (is_end_at e b) 0 b.k
    (λ i up under. ap (λ (o : Option (List ℕ)). elim o as (λ _. Bool) [ Some octets ↦ min (number 2 0 octets) e == 0 | None ↦ false ]) (none_there b i none some))

-- what is there is of a block of which something came
pub some_came : (b : BlockState) (symbol : ℕ) → is_some (source_of b symbol) ≡ true → 1 ≤ b.k → 0 < length b.came
some_came b symbol there some = go b.came refl
  where
    go : (cs : List Came) → b.came ≡ cs → 0 < length cs
    go [] e = absurd (let f : false ≡ true = sym (ap (λ (o : Option (List ℕ)). is_some o) (none_there b symbol e some)) ∙ there in cc f)
    go (x ∷ cs) e = omega arith

pub end_there : (e : ℕ) (b : BlockState) (symbol : ℕ) → is_end_at e b symbol ≡ true → is_some (source_of b symbol) ≡ true
end_there e b symbol is = go (source_of b symbol) is
  where
    go : (o : Option (List ℕ)) → elim o as (λ _. Bool) [ Some octets ↦ min (number 2 0 octets) e == 0 | None ↦ false ] ≡ true → is_some o ≡ true
    go (Some octets) f = refl
    go None f = absurd (cc f)

-- ---- a block that is there whole

given_has : (ids : List ℕ) (xs : List (List ℕ)) (id : ℕ) → is_some (given ids xs id) ≡ true → list_any (λ (x : ℕ). x == id) ids ≡ true
unfolding given
given_has [] xs id e = absurd (cc e)
given_has (i ∷ is) [] id e = absurd (cc e)
given_has (i ∷ is) (x ∷ xs) id e = go (i == id) e (given_has is xs id)
  where
    go : (b : Bool) → is_some (elim b as (λ _. Option (List ℕ)) [ true ↦ Some x | false ↦ given is xs id ]) ≡ true
        → (is_some (given is xs id) ≡ true → list_any (λ (y : ℕ). y == id) is ≡ true) → (b || list_any (λ (y : ℕ). y == id) is) ≡ true
    go true f rest = refl
    go false f rest = rest f

none_below : (xs : List ℕ) (x a : ℕ) → a < x → AllByRecursion (λ (m : ℕ). x < m) xs → list_any (λ (y : ℕ). y == a) xs ≡ false
none_below [] x a lt all = refl
none_below (y ∷ ys) x a lt all =
    ap (λ b. b || list_any (λ (z : ℕ). z == a) ys) (ne_eqb y a (λ e. let more = all.0 in omega (arith, e, lt, more))) ∙ none_below ys x a lt all.1

above_more : (xs : List ℕ) (x a : ℕ) → x ≡ a → AllByRecursion (λ (m : ℕ). x < m) xs → AllByRecursion (λ (m : ℕ). a + 1 ≤ m) xs
above_more [] x a e all = tt
above_more (y ∷ ys) x a e all = ((let lt = all.0 in omega (arith, e, lt)), above_more ys x a e all.1)

-- rising numbers among which each of so many is are so many
enough : (ids : List ℕ) (a n : ℕ) → Rises ids → AllByRecursion (λ (x : ℕ). a ≤ x) ids
    → ((j : ℕ) → a ≤ j → j < a + n → list_any (λ (x : ℕ). x == j) ids ≡ true) → n ≤ length ids
enough ids a zero rises above each = omega arith
enough [] a (suc n) rises above each = absurd (let f : false ≡ true = each a (omega arith) (omega arith) in cc f)
enough (x ∷ xs) a (suc n) rises above each = go (cases_order x a) (λ e. enough xs (a + 1) n rises.1 (above_more xs x a e rises.0) (λ j up under. behind j (λ f. omega (arith, e, f, up)) (each j (omega (arith, up)) (omega (arith, under)))))
  where
    behind : (j : ℕ) → x ≢ j → ((x == j) || list_any (λ (y : ℕ). y == j) xs) ≡ true → list_any (λ (y : ℕ). y == j) xs ≡ true
    behind j other e = sym (ap (λ b. b || list_any (λ (y : ℕ). y == j) xs) (ne_eqb x j other)) ∙ e

    go : (x ≡ a) ⊎ ((x < a) ⊎ (a < x)) → (x ≡ a → n ≤ length xs) → suc n ≤ length (x ∷ xs)
    go (inl e) rest = (let le = rest e in omega (arith, le))
    go (inr (inl below)) rest = absurd (let le = above.0 in omega (arith, le, below))
    go (inr (inr more)) rest =
        absurd (let f : false ≡ true = sym (none_below xs x a more rises.0) ∙ behind a (λ f. omega (arith, f, more)) (each a (omega arith) (omega arith)) in cc f)

at_least_zero : (ids : List ℕ) → AllByRecursion (λ (x : ℕ). 0 ≤ x) ids
at_least_zero [] = tt
at_least_zero (x ∷ xs) = (omega arith, at_least_zero xs)

pub all_there : (k size : ℕ) (ids : List ℕ) (rows : List (List ℕ)) → BlockSound k size ids rows
    → ((symbol : ℕ) → symbol < k → is_some (source_of (block_of k size ids rows) symbol) ≡ true) → length rows ≡ k
all_there k size ids rows s each = go (cases_order (length ids) k)
  where
    go : (length ids ≡ k) ⊎ ((length ids < k) ⊎ (k < length ids)) → length rows ≡ k
    go (inl e) = s.count ∙ e
    go (inr (inl lt)) =
        absurd
        (let le : k ≤ length ids =
        enough ids 0 k s.rising (at_least_zero ids)
        (λ j up under. given_has ids (parts k size ids rows) j (ap (λ (o : Option (List ℕ)). is_some o) (sym (source_open k size j ids rows s.count lt)) ∙ each j (omega (arith, under)))) in
        omega (arith, le, lt))
    go (inr (inr gt)) = absurd (let few = s.few in omega (arith, few, gt))

-- ---- what is there stays there

some_cond : (b : Bool) (x : Came) (o : Option Came) → is_some o ≡ true → is_some (cond b (Some x) o) ≡ true
some_cond true x o e = refl
some_cond false x o e = e

some_first : (b : Bool) (x : Came) (o after : Option Came) → is_some (cond b (Some x) o) ≡ true → (is_some o ≡ true → is_some after ≡ true) → is_some (cond b (Some x) after) ≡ true
some_first true x o after e rest = refl
some_first false x o after e rest = rest e

find_more : (q : Came → Bool) (x : Came) (cs : List Came) → is_some (find q cs) ≡ true → is_some (find q (with_member came_before x cs)) ≡ true
unfolding with_member
find_more q x [] e = absurd (cc e)
find_more q x (c ∷ cs) e = go (came_before x c) (came_before c x) (find_more q x cs)
  where
    go : (a b : Bool) → (is_some (find q cs) ≡ true → is_some (find q (with_member came_before x cs)) ≡ true)
        → is_some (find q (elim a as (λ _. List Came) [ true ↦ x ∷ c ∷ cs | false ↦ elim b as (λ _. List Came) [ true ↦ c ∷ with_member came_before x cs | false ↦ c ∷ cs ] ])) ≡ true
    go true b rest = some_cond (q x) x (find q (c ∷ cs)) e
    go false true rest = some_first (q c) c (find q cs) (find q (with_member came_before x cs)) e rest
    go false false rest = e

some_of : (o : Option Came) → is_some (elim o as (λ _. Option (List ℕ)) [ Some c ↦ Some c.octets | None ↦ None ]) ≡ is_some o
some_of (Some c) = refl
some_of None = refl

under_more : (x : Came) (cs : List Came) (id : ℕ) → is_some (came_under cs id) ≡ true → is_some (came_under (with_member came_before x cs) id) ≡ true
under_more x cs id e =
    some_of (find (λ (c : Came). c.id == id) (with_member came_before x cs))
    ∙ find_more (λ (c : Came). c.id == id) x cs (sym (some_of (find (λ (c : Came). c.id == id) cs)) ∙ e)

longer : (x : Came) (cs : List Came) → length cs ≤ length (with_member came_before x cs)
unfolding with_member
longer x [] = omega arith
longer x (c ∷ cs) = go (came_before x c) (came_before c x) (longer x cs)
  where
    go : (a b : Bool) → length cs ≤ length (with_member came_before x cs)
        → length (c ∷ cs) ≤ length (elim a as (λ _. List Came) [ true ↦ x ∷ c ∷ cs | false ↦ elim b as (λ _. List Came) [ true ↦ c ∷ with_member came_before x cs | false ↦ c ∷ cs ] ])
    go true b rest = omega arith
    go false true rest = omega (arith, rest)
    go false false rest = omega arith

there_more : (b : BlockState) (id : ℕ) (octets : List ℕ) (symbol : ℕ) → is_some (source_of b symbol) ≡ true → is_some (source_of (with_came id octets b) symbol) ≡ true
there_more b id octets symbol e = go (lacks b == 0) (lacks (with_came id octets b) == 0) refl refl e
  where
    after : List Came
    after = with_member came_before (record { id = id; octets = octets }) b.came

    go : (t u : Bool) → (lacks b == 0) ≡ t → (b.k - length (with_member came_before (record { id = id; octets = octets }) b.came) == 0) ≡ u
        → is_some (elim t as (λ _. Option (List ℕ)) [
          | true ↦ Some (solved_symbol b.size (map (λ (c : Came). c.id) b.came) (map (λ (c : Came). c.octets) b.came) symbol)
          | false ↦ came_under b.came symbol
        ]) ≡ true
        → is_some (elim u as (λ _. Option (List ℕ)) [
          | true ↦ Some (solved_symbol b.size (map (λ (c : Came). c.id) (with_member came_before (record { id = id; octets = octets }) b.came)) (map (λ (c : Came). c.octets) (with_member came_before (record { id = id; octets = octets }) b.came)) symbol)
          | false ↦ came_under (with_member came_before (record { id = id; octets = octets }) b.came) symbol
        ]) ≡ true
    go t true f g h = refl
    go true false f g h =
        absurd
        (let none : b.k - length b.came ≡ 0 = eqb-true (b.k - length b.came) 0 f in
        let more = longer (record { id = id; octets = octets }) b.came in
        let all : b.k - length (with_member came_before (record { id = id; octets = octets }) b.came) ≡ 0 = omega (arith, none, more) in
        let wrong : true ≡ false = sym (eq-eqb (b.k - length (with_member came_before (record { id = id; octets = octets }) b.came)) 0 all) ∙ g in
        cc wrong)
    go false false f g h = under_more (record { id = id; octets = octets }) b.came symbol h

-- ---- what was handed up of the first block is there

pub begun_none : (bs : List BlockState) → IsBegun 0 bs
begun_none [] = tt
begun_none (b ∷ bs) = λ before lt. absurd (omega (arith, lt))

pub begun_more : (symbol i id : ℕ) (octets : List ℕ) (bs : List BlockState) (d : BlockState) → IsBegun symbol bs → i < length bs
    → IsBegun symbol (set bs i (with_came id octets (get_or bs i d)))
begun_more symbol i id octets [] d all lt = absurd (omega arith)
begun_more symbol zero id octets (b ∷ bs) d all lt = λ before below. there_more b id octets before (all before below)
begun_more symbol (suc i) id octets (b ∷ bs) d all lt = all

pub begun_at : (symbol : ℕ) (bs : List BlockState) (d : BlockState) → 0 < length bs → IsBegun symbol bs → (before : ℕ) → before < symbol → is_some (source_of (get_or bs 0 d) before) ≡ true
begun_at symbol [] d some all before lt = absurd (omega arith)
begun_at symbol (b ∷ bs) d some all before lt = all before lt

there_next : (symbol : ℕ) (b : BlockState) → ((before : ℕ) → before < symbol → is_some (source_of b before) ≡ true) → is_some (source_of b symbol) ≡ true
    → (before : ℕ) → before < symbol + 1 → is_some (source_of b before) ≡ true
there_next symbol b all here before lt = go (cases_order before symbol)
  where
    go : (before ≡ symbol) ⊎ ((before < symbol) ⊎ (symbol < before)) → is_some (source_of b before) ≡ true
    go (inl e) = ap (λ n. is_some (source_of b n)) e ∙ here
    go (inr (inl below)) = all before below
    go (inr (inr above)) = absurd (omega arith)

pub begun_next : (symbol : ℕ) (bs : List BlockState) (d : BlockState) → IsBegun symbol bs → is_some (source_of (get_or bs 0 d) symbol) ≡ true → IsBegun (symbol + 1) bs
begun_next symbol [] d all here = tt
begun_next symbol (b ∷ bs) d all here = there_next symbol b all here

pub begun_whole : (symbol : ℕ) (bs : List BlockState) (d : BlockState) → 0 < length bs → IsBegun symbol bs → is_some (source_of (get_or bs 0 d) symbol) ≡ true
    → (before : ℕ) → before < symbol + 1 → is_some (source_of (get_or bs 0 d) before) ≡ true
begun_whole symbol bs d some all here = begun_at (symbol + 1) bs d some (begun_next symbol bs d all here)

-- ---- blocks that 24 bits name

pub all_with : (P : Held → Type 0) (x : Held) (xs : List Held) → AllByRecursion P xs → P x → AllByRecursion P (with_member held_before x xs)
unfolding with_member
all_with P x [] all here = (here, tt)
all_with P x (y ∷ ys) all here = go (held_before x y) (held_before y x) (all_with P x ys all.1 here)
  where
    go : (a b : Bool) → AllByRecursion P (with_member held_before x ys)
        → AllByRecursion P (elim a as (λ _. List Held) [ true ↦ x ∷ y ∷ ys | false ↦ elim b as (λ _. List Held) [ true ↦ y ∷ with_member held_before x ys | false ↦ y ∷ ys ] ])
    go true b rest = (here, all)
    go false true rest = (all.0, rest)
    go false false rest = all

pub all_filter : (P : Held → Type 0) (q : Held → Bool) (xs : List Held) → AllByRecursion P xs → AllByRecursion P (filter q xs)
all_filter P q [] all = tt
all_filter P q (x ∷ xs) all = go (q x) (all_filter P q xs all.1)
  where
    go : (b : Bool) → AllByRecursion P (filter q xs) → AllByRecursion P (cond b (x ∷ filter q xs) (filter q xs))
    go true rest = (all.0, rest)
    go false rest = rest

all_front : (P : Held → Type 0) (xs ys : List Held) → AllByRecursion P (xs ++ ys) → AllByRecursion P xs
all_front P [] ys all = tt
all_front P (x ∷ xs) ys all = (all.0, all_front P xs ys all.1)

all_back : (P : Held → Type 0) (xs ys : List Held) → AllByRecursion P (xs ++ ys) → AllByRecursion P ys
all_back P [] ys all = all
all_back P (x ∷ xs) ys all = all_back P xs ys all.1

pub named_at : (index first i : ℕ) (bs : List BlockState) (d : BlockState) → AreNamed (held_from index first bs) → i < length bs → 0 < length (get_or bs i d).came → first + i < 16777216
unfolding held_from
named_at index first i [] d all lt some = absurd (omega arith)
named_at index first zero (b ∷ bs) d all lt some = go b.came some (all_front (λ (h : Held). h.at.block < 16777216) (held_in index first b) (held_from index (suc first) bs) all)
  where
    go : (cs : List Came) → 0 < length cs → AreNamed (map (λ (c : Came). record { at = position index first c.id; octets = c.octets }) cs) → first + 0 < 16777216
    go [] more named = absurd (omega arith)
    go (c ∷ cs) more named = (let lt = named.0 in omega (arith, lt))
named_at index first (suc i) (b ∷ bs) d all lt some =
    let rest = named_at index (suc first) i bs d (all_back (λ (h : Held). h.at.block < 16777216) (held_in index first b) (held_from index (suc first) bs) all) (omega arith) some in
    omega (arith, rest)

-- ---- spare rows

pub long_front : (size : ℕ) (n : ℕ) (rows : List (List ℕ)) → AllByRecursion (λ (row : List ℕ). length row ≡ size) rows → AllByRecursion (λ (row : List ℕ). length row ≡ size) (take n rows)
long_front size zero rows all = tt
long_front size (suc n) [] all = tt
long_front size (suc n) (row ∷ rows) all = (all.0, long_front size n rows all.1)

pub long_more : (size : ℕ) (rows : List (List ℕ)) (row : List ℕ) → AllByRecursion (λ (r : List ℕ). length r ≡ size) rows → length row ≡ size
    → AllByRecursion (λ (r : List ℕ). length r ≡ size) (rows ++ row ∷ [])
long_more size [] row all here = (here, tt)
long_more size (r ∷ rs) row all here = (all.0, long_more size rs row all.1 here)
