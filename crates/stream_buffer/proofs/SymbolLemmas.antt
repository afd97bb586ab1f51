-- The symbols of a stream, by the rows of its segments.
use Rattle.std.proofs.Common.{◌≡◌, ℕ, zero, suc, ◌+◌, ◌-◌, ◌*◌, ◌/◌, ◌%◌, ◌<◌, ◌≤◌, ◌⊎◌, inl, inr, List, [], ◌∷◌, ◌++◌, length, take, drop, map, replicate, get_or, Bool, true, false, Option, Some, None, refl, sym, ap, subst, ◌∙◌, arith, length-append, append-nil}
use Rattle.std.specs.Prelude.{min, nat_lt, ◌==◌, ◌&&◌, slice_get, MatchOption, option_map}
use Rattle.std.specs.List.{AllByRecursion, concat, range_with_len}
use Rattle.std.proofs.Math.Seq.{take-append_seam, drop-cons}
use Rattle.std.proofs.Math.Nat.{mul-le-mul_right, mul-div_cancel_left, mod-lt, suc-mul, mod-add-div', add-mul-mod_self_right, mod-eq_of_lt, mul-lt-mul_of_pos_right}
use Rattle.std.proofs.lemmas.Nat.{from_be_bytes-to_be_bytes_2}
use Rattle.std.proofs.lemmas.Bool.{cases_lt, lt-ltb, le-ltb, le-leb, eqb-true, eqb-false}
use Rattle.std.proofs.lemmas.List.{take_all, length-take, length-drop, length-map, length-replicate, drop-map, drop-drop}
use Rattle.std.proofs.lemmas.Option.{slice_get-get_or, slice_get-map}
use Rattle.norm_base.specs.Settings.{Settings}
use Rattle.norm_base.specs.Octets.{AreOctets}
use Rattle.fec_plan.specs.Partition.{Cut, place_octets}
use Rattle.gf_field.specs.Element.{AreElements}
use Rattle.gf_field.specs.Symbol.{encoded_symbol}
use Rattle.rs_block.proofs.Functions.{function_laws}
use Rattle.norm_order.specs.Entries.{Part, Write, Cut as CutHere, End, Stream}
use Rattle.norm_order.specs.Segments.{pieces, Segment, segments, placed, closed_from}
use Rattle.norm_order.specs.Symbols.{padded, segment_octets, segment_at, block_sources, symbol_octets}
use Rattle.norm_order.specs.Shapes.{shape_of, encoded_in}
use Rattle.norm_order.proofs.StreamLemmas.{length-placed}
use Rattle.obj_buffer.specs.Pieces.{AppendsSymbol}
use Rattle.stream_buffer.specs.StreamState.{StreamState, StandsFor, coded, sent_of, rows_of_block, block_code, kept_from, closed_segments, is_there, octets_of}
use Rattle.stream_buffer.proofs.StandingLemmas.{closed_is}
use Rattle.stream_buffer.proofs.FilledLemmas.{filled_encoded}

-- ---- segments are short

abbrev Short : ℕ → List ℕ → Type 0
Short e xs = length xs ≤ e

abbrev ShortSegment : ℕ → Segment → Type 0
ShortSegment e g = length g.octets ≤ e

all_more : (e : ℕ) (xs ys : List (List ℕ)) → AllByRecursion (Short e) xs → AllByRecursion (Short e) ys → AllByRecursion (Short e) (xs ++ ys)
all_more e [] ys a b = b
all_more e (x ∷ xs) ys a b = (a.0, all_more e xs ys a.1 b)

short_pieces : (e n : ℕ) (xs : List ℕ) → AllByRecursion (Short e) (pieces e n xs)
unfolding pieces
short_pieces e zero xs = tt
short_pieces e (suc n) xs = (let h : length (take e xs) ≤ e = omega (arith, length-take e xs) in h, short_pieces e n (drop e xs))

short_closed : (e : ℕ) (since : List ℕ) (parts : List Part) → AllByRecursion (Short e) (closed_from e since parts)
unfolding closed_from
short_closed e since [] = short_pieces e (length since / e) since
short_closed e since (Write by octets ∷ parts) = short_closed e (since ++ octets) parts
short_closed e since (CutHere ∷ parts) = all_more e (pieces e _ since) (closed_from e [] parts) (short_pieces e _ since) (short_closed e [] parts)
short_closed e since (End ∷ parts) = all_more e (pieces e _ since) ([] ∷ []) (short_pieces e _ since) (omega arith, tt)

short_placed : (e offset : ℕ) (xs : List (List ℕ)) → AllByRecursion (Short e) xs → AllByRecursion (ShortSegment e) (placed offset xs)
unfolding placed
short_placed e offset [] all = tt
short_placed e offset (x ∷ xs) all = (all.0, short_placed e (offset + length x) xs all.1)

pub short_segments : (e : ℕ) (parts : List Part) → AllByRecursion (ShortSegment e) (segments e parts)
short_segments e parts = short_placed e 0 (closed_from e [] parts) (short_closed e [] parts)

all_drop : (e n : ℕ) (gs : List Segment) → AllByRecursion (ShortSegment e) gs → AllByRecursion (ShortSegment e) (drop n gs)
all_drop e zero gs all = all
all_drop e (suc n) [] all = tt
all_drop e (suc n) (g ∷ gs) all = all_drop e n gs all.1

all_take : (e n : ℕ) (gs : List Segment) → AllByRecursion (ShortSegment e) gs → AllByRecursion (ShortSegment e) (take n gs)
all_take e zero gs all = tt
all_take e (suc n) [] all = tt
all_take e (suc n) (g ∷ gs) all = (all.0, all_take e n gs all.1)

short_at : (e : ℕ) (gs : List Segment) (i : ℕ) (g : Segment) → AllByRecursion (ShortSegment e) gs → slice_get gs i ≡ Some g → length g.octets ≤ e
short_at e [] i g all is = absurd (cc)
short_at e (x ∷ gs) zero g all is = subst (λ (o : Option Segment). MatchOption o ⊥ (ShortSegment e)) is all.0
short_at e (x ∷ gs) (suc i) g all is = short_at e gs i g all.1 is

-- ---- a segment as it is sent

length-segment : (g : Segment) → length (segment_octets g) ≡ 8 + length g.octets
length-segment g = omega arith

pub sent_is : (e : ℕ) (g : Segment) → length g.octets < 65536 → sent_of (coded e g) ≡ segment_octets g
sent_is e g lt =
    ap (λ n. take (8 + n) (coded e g)) (from_be_bytes-to_be_bytes_2 (length g.octets) lt)
    ∙ ap (λ n. take n (coded e g)) (sym (length-segment g))
    ∙ take-append_seam (segment_octets g) (replicate (e + place_octets - length (segment_octets g)) 0)

get_drop : {X : Type 0} (n i : ℕ) (xs : List X) → slice_get (drop n xs) i ≡ slice_get xs (n + i)
get_drop zero i xs = ap (slice_get xs) (let same : i ≡ 0 + i = omega arith in same)
get_drop (suc n) i [] = refl
get_drop (suc n) i (x ∷ xs) = get_drop n i xs ∙ ap (slice_get (x ∷ xs)) (let same : suc (n + i) ≡ suc n + i = omega arith in same)

no_segment : Segment
no_segment = record { offset = 0; octets = [] }

-- the row of a closed segment is sent as that segment
pub source_sent : (p : Settings) (parts : List Part) (s : StreamState) (number : ℕ) (old new : List ℕ) → StandsFor p parts s → p.e < 65536
    → kept_from s ≤ number → number < closed_segments s
    → MatchOption (slice_get s.rows (number - kept_from s)) ⊥ (λ row. new ≡ old ++ sent_of row)
    → new ≡ old ++ segment_at (segments p.e parts) number
source_sent p parts s number old new st few from to is = sent ∙ ap (λ xs. old ++ xs) (sent_is p.e g (omega (arith, few, short)) ∙ sym (ap (λ (o : Option Segment). elim o as (λ v. List ℕ) [ Some x ↦ segment_octets x | None ↦ [] ]) there))
  where
    g : Segment
    g = get_or (segments p.e parts) number no_segment

    there : slice_get (segments p.e parts) number ≡ Some (get_or (segments p.e parts) number no_segment)
    there = slice_get-get_or (segments p.e parts) number no_segment (omega (arith, to, closed_is p parts s st))

    short : length (get_or (segments p.e parts) number no_segment).octets ≤ p.e
    short = short_at p.e (segments p.e parts) number (get_or (segments p.e parts) number no_segment) (short_segments p.e parts) there

    b-is : s.first * s.cut.b ≡ s.first * p.b
    b-is = ap (λ (c : Cut). s.first * c.b) st.cut

    row : slice_get s.rows (number - kept_from s) ≡ Some (coded p.e (get_or (segments p.e parts) number no_segment))
    row =
        ap (λ (rows : List (List ℕ)). slice_get rows (number - kept_from s)) st.rows
        ∙ slice_get-map (coded p.e) (drop (s.first * p.b) (segments p.e parts)) (number - kept_from s)
        ∙ ap (option_map (coded p.e)) (get_drop (s.first * p.b) (number - kept_from s) (segments p.e parts)
        ∙ ap (slice_get (segments p.e parts)) (let same : s.first * p.b + (number - kept_from s) ≡ number = omega (arith, from, b-is) in same) ∙ there)

    sent : new ≡ old ++ sent_of (coded p.e g)
    sent = subst (λ (o : Option (List ℕ)). MatchOption o ⊥ (λ r. new ≡ old ++ sent_of r)) row is

-- ---- a block

block_rows : (e k : ℕ) (gs : List Segment) (a n : ℕ) → k + a + n ≤ length gs
    → map (padded (e + place_octets)) (map (λ i. segment_at gs (k + i)) (range_with_len a n)) ≡ map (coded e) (take n (drop (k + a) gs))
block_rows e k gs a zero le = refl
block_rows e k gs a (suc n) le =
    ap (λ xs. padded (e + place_octets) xs ∷ map (padded (e + place_octets)) (map (λ i. segment_at gs (k + i)) (range_with_len (a + 1) n)))
    (ap (λ (o : Option Segment). elim o as (λ v. List ℕ) [ Some x ↦ segment_octets x | None ↦ [] ]) (slice_get-get_or gs (k + a) no_segment lt))
    ∙ ap (λ rows. coded e (get_or gs (k + a) no_segment) ∷ rows) (block_rows e k gs (a + 1) n (omega (arith, le)) ∙ ap (λ m. map (coded e) (take n (drop m gs))) (let same : k + (a + 1) ≡ suc (k + a) = omega arith in same))
    ∙ ap (λ xs. map (coded e) (take (suc n) xs)) (sym (drop-cons gs (k + a) no_segment lt))
  where
    lt : k + a < length gs
    lt = omega (arith, le)

take_map : {X Y : Type 0} (f : X → Y) (n : ℕ) (xs : List X) → take n (map f xs) ≡ map f (take n xs)
take_map f zero xs = refl
take_map f (suc n) [] = refl
take_map f (suc n) (x ∷ xs) = ap (λ ys. f x ∷ ys) (take_map f n xs)

-- the rows of a block are its segments, coded
rows_are : (p : Settings) (parts : List Part) (s : StreamState) (block : ℕ) → StandsFor p parts s → s.first ≤ block
    → rows_of_block s block ≡ map (coded p.e) (take p.b (drop (block * p.b) (segments p.e parts)))
rows_are p parts s block st from =
    ap (λ (c : Cut). take c.b (drop (block * c.b - s.first * c.b) s.rows)) st.cut
    ∙ ap (λ rows. take p.b (drop (block * p.b - s.first * p.b) rows)) st.rows
    ∙ ap (take p.b) (drop-map (coded p.e) (block * p.b - s.first * p.b) (drop (s.first * p.b) (segments p.e parts)))
    ∙ ap (λ gs. take p.b (map (coded p.e) gs)) (drop-drop (block * p.b - s.first * p.b) (s.first * p.b) (segments p.e parts)
    ∙ ap (λ n. drop n (segments p.e parts)) (let same : s.first * p.b + (block * p.b - s.first * p.b) ≡ block * p.b = omega (arith, mul-le-mul_right p.b from) in same))
    ∙ take_map (coded p.e) p.b (drop (block * p.b) (segments p.e parts))

sizes : (e : ℕ) (gs : List Segment) → AllByRecursion (ShortSegment e) gs → AllByRecursion (λ x. length x ≡ e + place_octets) (map (coded e) gs)
sizes e [] all = tt
sizes e (g ∷ gs) all = (long, sizes e gs all.1)
  where
    short : length g.octets ≤ e
    short = all.0

    long : length (coded e g) ≡ e + place_octets
    long = omega (arith, short, length-segment g, length-append (segment_octets g) (replicate (e + place_octets - length (segment_octets g)) 0), length-replicate {A = ℕ} (e + place_octets - length (segment_octets g)) 0)

elements_of : (xs ys : List ℕ) → AreOctets (xs ++ ys) → AreElements xs × AreOctets ys
elements_of [] ys each = (tt, each)
elements_of (x ∷ xs) ys each = let rest = elements_of xs ys (λ i. each (suc i)) in ((each 0, rest.0), rest.1)

all_elements : (rows : List (List ℕ)) → AreOctets (concat rows) → AllByRecursion AreElements rows
all_elements [] each = tt
all_elements (row ∷ rows) each = let parts = elements_of row (concat rows) each in (parts.0, all_elements rows parts.1)

-- the parity of the rows is the block's
pub parity_sent : (p : Settings) (parts : List Part) (s : StreamState) (block symbol : ℕ) (old new : List ℕ) → StandsFor p parts s → s.first ≤ block
    → block * s.cut.b + s.cut.b ≤ closed_segments s → s.cut.b ≤ s.cut.max_n → s.cut.max_n ≤ 255 → symbol < s.cut.max_n
    → AppendsSymbol (block_code s) (s.cut.e + place_octets) (concat (rows_of_block s block)) symbol old new → AreOctets (concat (rows_of_block s block))
    → new ≡ old ++ encoded_symbol (p.e + place_octets) (block_sources p (Stream parts) block) symbol
parity_sent p parts s block symbol old new st from to fits few lt is each =
    is.appended
    ∙ ap (λ xs. old ++ xs)
    (function_laws.encoded_only s.cut.b s.cut.max_n (s.cut.e + place_octets) symbol (rows_of_block s block) is.symbol fits few lt
    (record {
      count = ap length rows ∙ length-map (take p.b (drop (block * p.b) (segments p.e parts))) (coded p.e)
          ∙ (let same : length (take p.b (drop (block * p.b) (segments p.e parts))) ≡ s.cut.b =
          omega (arith, length-take p.b (drop (block * p.b) (segments p.e parts)), length-drop (block * p.b) (segments p.e parts), room, b-is) in same);
      sizes = subst (λ (rs : List (List ℕ)). AllByRecursion (λ x. length x ≡ s.cut.e + place_octets) rs) (sym rows)
          (subst (λ e. AllByRecursion (λ x. length x ≡ e + place_octets) (map (coded p.e) (take p.b (drop (block * p.b) (segments p.e parts))))) (sym e-is)
          (sizes p.e (take p.b (drop (block * p.b) (segments p.e parts))) (all_take p.e p.b (drop (block * p.b) (segments p.e parts)) (all_drop p.e (block * p.b) (segments p.e parts) (short_segments p.e parts)))));
      octets = all_elements (rows_of_block s block) each;
    }) is.size is.is
    ∙ ap (λ e. encoded_symbol (e + place_octets) (rows_of_block s block) symbol) e-is
    ∙ ap (λ (rs : List (List ℕ)). encoded_symbol (p.e + place_octets) rs symbol) (rows ∙ sym sources)
    ∙ sym (filled_encoded (p.e + place_octets) (block_sources p (Stream parts) block) symbol))
  where
    e-is : s.cut.e ≡ p.e
    e-is = ap (λ (c : Cut). c.e) st.cut

    b-is : s.cut.b ≡ p.b
    b-is = ap (λ (c : Cut). c.b) st.cut

    room : block * p.b + p.b ≤ length (segments p.e parts)
    room = let start : block * s.cut.b ≡ block * p.b = ap (λ b. block * b) b-is in omega (arith, start, b-is, to, closed_is p parts s st)

    rows : rows_of_block s block ≡ map (coded p.e) (take p.b (drop (block * p.b) (segments p.e parts)))
    rows = rows_are p parts s block st from

    sources : map (padded (p.e + place_octets)) (block_sources p (Stream parts) block) ≡ map (coded p.e) (take p.b (drop (block * p.b) (segments p.e parts)))
    sources =
        block_rows p.e (block * p.b) (segments p.e parts) 0 p.b (omega (arith, room))
        ∙ ap (λ n. map (coded p.e) (take p.b (drop n (segments p.e parts)))) (let same : block * p.b + 0 ≡ block * p.b = omega arith in same)

-- ---- which symbols are there

eq_no : (a b : ℕ) → a < b → (a == b) ≡ false
eq_no a b lt = go (a == b) refl
  where
    go : (c : Bool) → (a == b) ≡ c → c ≡ false
    go false e = refl
    go true e = absurd (let same = eqb-true a b e in omega (arith, same, lt))

eq_yes : (a b : ℕ) → a ≡ b → (a == b) ≡ true
eq_yes a b is = go (a == b) refl
  where
    go : (c : Bool) → (a == b) ≡ c → c ≡ true
    go true e = refl
    go false e = absurd (eqb-false a b e is)

-- how many encoded symbols a block has that begins with this segment, by how many are closed
abbrev pub encoded_of : ℕ → ℕ → ℕ → ℕ → ℕ
encoded_of b n closed start = elim (min b (closed - (start + 0)) == b) as (λ v. ℕ) [ true ↦ b * n / b | false ↦ min b (closed - (start + 0)) ]

abbrev by_test : (t : Bool) → ℕ → ℕ → ℕ
by_test t x y = elim t as (λ v. ℕ) [ true ↦ x | false ↦ y ]

part_of : (b n closed start : ℕ) → closed < start + b → 0 < b → encoded_of b n closed start ≡ min b (closed - (start + 0))
part_of b n closed start lt some = ap (λ t. by_test t (b * n / b) (min b (closed - (start + 0)))) (eq_no (min b (closed - (start + 0))) b (omega (arith, lt, some)))

whole_of : (b n closed start : ℕ) → start + b ≤ closed → 0 < b → encoded_of b n closed start ≡ n
whole_of b n closed start le some =
    ap (λ t. by_test t (b * n / b) (min b (closed - (start + 0)))) (eq_yes (min b (closed - (start + 0))) b (omega (arith, le)))
    ∙ mul-div_cancel_left n some

pub source_there : (b n closed start symbol : ℕ) → symbol < b → b ≤ n → start + symbol < closed → nat_lt symbol (encoded_of b n closed start) ≡ true
source_there b n closed start symbol lt fits there = go (cases_lt closed (start + b))
  where
    go : (closed < start + b) ⊎ (start + b ≤ closed) → nat_lt symbol (encoded_of b n closed start) ≡ true
    go (inl less) = lt-ltb symbol (encoded_of b n closed start) (omega (arith, part_of b n closed start less (omega (arith, lt)), there, lt))
    go (inr more) = lt-ltb symbol (encoded_of b n closed start) (omega (arith, whole_of b n closed start more (omega (arith, lt)), fits, lt))

pub not_there : (b n closed start symbol : ℕ) → 0 < b → closed < start + b → closed ≤ start + symbol → nat_lt symbol (encoded_of b n closed start) ≡ false
not_there b n closed start symbol some less far =
    le-ltb symbol (encoded_of b n closed start) (omega (arith, part_of b n closed start less some, far))

pub parity_there : (b n closed start symbol : ℕ) → 0 < b → start + b ≤ closed → symbol < n → nat_lt symbol (encoded_of b n closed start) ≡ true
parity_there b n closed start symbol some more lt =
    lt-ltb symbol (encoded_of b n closed start) (omega (arith, whole_of b n closed start more some, lt))

pub take_min : (n : ℕ) (xs : List ℕ) → take (min n (length xs)) xs ≡ take n xs
take_min n xs = go (cases_lt n (length xs))
  where
    go : (n < length xs) ⊎ (length xs ≤ n) → take (min n (length xs)) xs ≡ take n xs
    go (inl lt) = ap (λ m. take m xs) (omega (arith, lt))
    go (inr le) = take_all (min n (length xs)) xs (omega (arith, le)) ∙ sym (take_all n xs le)

-- the rows of a block lie behind each other in a ring of whole blocks
pub block_whole : (block b blocks : ℕ) → 0 < b → 0 < blocks → block * b % (blocks * b) + b ≤ blocks * b
block_whole block b blocks some many =
    let step = mul-le-mul_right b (mod-lt block many) in
    let same : block * b % (blocks * b) ≡ block % blocks * b =
    ap (λ n. n * b % (blocks * b)) (sym (mod-add-div' block blocks))
    ∙ ap (λ n. n % (blocks * b)) (let e : (block % blocks + block / blocks * blocks) * b ≡ block % blocks * b + block / blocks * (blocks * b) = omega arith in e)
    ∙ add-mul-mod_self_right (block % blocks * b) (block / blocks) (blocks * b)
    ∙ mod-eq_of_lt (mul-lt-mul_of_pos_right (mod-lt block many) some) in
    omega (arith, same, step, suc-mul (block % blocks) b)

-- ---- what the call answers

abbrev shown : Bool → List ℕ → List ℕ
shown t octets = elim t as (λ v. List ℕ) [ true ↦ octets | false ↦ [] ]

is_closed : (p : Settings) (parts : List Part) (s : StreamState) → StandsFor p parts s → closed_segments s ≡ length (closed_from p.e [] parts)
is_closed p parts s st = closed_is p parts s st ∙ length-placed 0 (closed_from p.e [] parts)

begins : (p : Settings) (parts : List Part) (s : StreamState) (block : ℕ) → StandsFor p parts s → block * s.cut.b ≡ block * p.b
begins p parts s block st = ap (λ (c : Cut). block * c.b) st.cut

there_by : (p : Settings) (parts : List Part) (first block symbol : ℕ) (t : Bool) → first ≤ block
    → nat_lt symbol (encoded_of p.b p.max_n (length (closed_from p.e [] parts)) (block * p.b)) ≡ t → is_there p parts first block symbol ≡ t
there_by p parts first block symbol t from is =
    ap (λ (b : Bool). b && nat_lt symbol (encoded_in (shape_of p (Stream parts)) block)) (le-leb first block from) ∙ is

pub answered_no : (p : Settings) (parts : List Part) (s : StreamState) (block symbol : ℕ) (old : List ℕ) → StandsFor p parts s → s.first ≤ block → 0 < s.cut.b
    → closed_segments s < block * s.cut.b + s.cut.b → closed_segments s ≤ block * s.cut.b + symbol
    → (false ≡ is_there p parts s.first block symbol) × (old ≡ old ++ octets_of p parts s.first block symbol)
answered_no p parts s block symbol old st from some less far =
    (sym is, sym (ap (λ t. old ++ shown t (symbol_octets p (Stream parts) block symbol)) is ∙ append-nil old))
  where
    b-is : s.cut.b ≡ p.b
    b-is = ap (λ (c : Cut). c.b) st.cut

    is : is_there p parts s.first block symbol ≡ false
    is = there_by p parts s.first block symbol false from
        (not_there p.b p.max_n (length (closed_from p.e [] parts)) (block * p.b) symbol (omega (arith, some, b-is))
        (omega (arith, less, b-is, begins p parts s block st, is_closed p parts s st))
        (omega (arith, far, begins p parts s block st, is_closed p parts s st)))

answered_yes : (p : Settings) (parts : List Part) (s : StreamState) (block symbol : ℕ) (old new : List ℕ) → is_there p parts s.first block symbol ≡ true
    → new ≡ old ++ symbol_octets p (Stream parts) block symbol
    → (true ≡ is_there p parts s.first block symbol) × (new ≡ old ++ octets_of p parts s.first block symbol)
answered_yes p parts s block symbol old new is e =
    (sym is, e ∙ ap (λ t. old ++ shown t (symbol_octets p (Stream parts) block symbol)) (sym is))

pub answered_source : (p : Settings) (parts : List Part) (s : StreamState) (block symbol : ℕ) (old new : List ℕ) → StandsFor p parts s → s.first ≤ block
    → symbol < s.cut.b → s.cut.b ≤ s.cut.max_n → block * s.cut.b + symbol < closed_segments s
    → new ≡ old ++ segment_at (segments p.e parts) (block * s.cut.b + symbol)
    → (true ≡ is_there p parts s.first block symbol) × (new ≡ old ++ octets_of p parts s.first block symbol)
answered_source p parts s block symbol old new st from lt fits there is =
    answered_yes p parts s block symbol old new
    (there_by p parts s.first block symbol true from
    (source_there p.b p.max_n (length (closed_from p.e [] parts)) (block * p.b) symbol less (omega (arith, fits, b-is, n-is))
    (omega (arith, there, begins p parts s block st, is_closed p parts s st))))
    (is
    ∙ ap (λ n. old ++ segment_at (segments p.e parts) (n + symbol)) (begins p parts s block st)
    ∙ ap (λ t. old ++ (elim t as (λ v. List ℕ) [ true ↦ segment_at (segments p.e parts) (block * p.b + symbol) | false ↦ encoded_symbol (p.e + place_octets) (block_sources p (Stream parts) block) symbol ]))
    (sym (lt-ltb symbol p.b less)))
  where
    b-is : s.cut.b ≡ p.b
    b-is = ap (λ (c : Cut). c.b) st.cut

    n-is : s.cut.max_n ≡ p.max_n
    n-is = ap (λ (c : Cut). c.max_n) st.cut

    less : symbol < p.b
    less = omega (arith, lt, b-is)

pub answered_parity : (p : Settings) (parts : List Part) (s : StreamState) (block symbol : ℕ) (old new : List ℕ) → StandsFor p parts s → s.first ≤ block
    → 0 < s.cut.b → s.cut.b ≤ symbol → symbol < s.cut.max_n → block * s.cut.b + s.cut.b ≤ closed_segments s
    → new ≡ old ++ encoded_symbol (p.e + place_octets) (block_sources p (Stream parts) block) symbol
    → (true ≡ is_there p parts s.first block symbol) × (new ≡ old ++ octets_of p parts s.first block symbol)
answered_parity p parts s block symbol old new st from some le lt there is =
    answered_yes p parts s block symbol old new
    (there_by p parts s.first block symbol true from
    (parity_there p.b p.max_n (length (closed_from p.e [] parts)) (block * p.b) symbol (omega (arith, some, b-is))
    (omega (arith, there, b-is, begins p parts s block st, is_closed p parts s st)) (omega (arith, lt, n-is))))
    (is
    ∙ ap (λ t. old ++ (elim t as (λ v. List ℕ) [ true ↦ segment_at (segments p.e parts) (block * p.b + symbol) | false ↦ encoded_symbol (p.e + place_octets) (block_sources p (Stream parts) block) symbol ]))
    (sym (le-ltb symbol p.b (omega (arith, le, b-is)))))
  where
    b-is : s.cut.b ≡ p.b
    b-is = ap (λ (c : Cut). c.b) st.cut

    n-is : s.cut.max_n ≡ p.max_n
    n-is = ap (λ (c : Cut). c.max_n) st.cut
