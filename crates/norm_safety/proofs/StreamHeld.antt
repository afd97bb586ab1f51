-- What a receiver holds of a block of a stream: encoded symbols of the block, so that each source symbol that comes of them is its segment.
use Rattle.std.proofs.Common.{cond, ◌≡◌, ℕ, zero, suc, ◌+◌, ◌-◌, ◌*◌, ◌<◌, ◌≤◌, List, [], ◌∷◌, ◌++◌, length, map, take, drop, get_or, Bool, true, false, Option, None, Some, refl, sym, ap, ◌∙◌, subst, arith, zero-add, ◌⊎◌, inl, inr}
use Rattle.std.specs.Prelude.{slice_get, min, nat_lt, find, ◌==◌}
use Rattle.std.specs.Int.{to_be_bytes, w16, w32}
use Rattle.std.specs.List.{AllByRecursion, filter, range_with_len}
use Rattle.std.proofs.lemmas.Bool.{and_parts, eqb-true, ltb-false}
use Rattle.std.proofs.lemmas.Bool.Decides.{Decides-ltb}
use Rattle.std.proofs.lemmas.List.{append-nil, length-map, take-append-drop}
use Rattle.std.proofs.lemmas.List.FromFn.{length-map-range_with_len, get_or-map-range_with_len}
use Rattle.gf_field.specs.Element.{AreElements}
use Rattle.gf_field.specs.Symbol.{encoded_symbol, solved_symbol}
use Rattle.gf_field.proofs.Symbols.{symbol_laws}
use Rattle.norm_base.specs.Settings.{Settings}
use Rattle.fec_plan.specs.Partition.{stream_cut, cut_of, coded_octets, source_symbols}
use Rattle.norm_order.specs.Entries.{Part, Stream}
use Rattle.norm_order.specs.Segments.{Segment, closed_from, segments, written}
use Rattle.norm_order.specs.Shapes.{shape_of, encoded_in}
use Rattle.norm_order.specs.Symbols.{segment_octets, segment_at, block_sources, symbol_octets}
use Rattle.norm_order.proofs.StreamLemmas.{length-placed}
use Rattle.norm_send_rules.specs.Messages.{fti_of_object}
use Rattle.norm_receive_rules.specs.Holding.{Holding, Plan, Held}
use Rattle.norm_receive_rules.specs.Plans.{cut_of_plan, says_stream, held_of, is_done}
use Rattle.norm_receive_rules.specs.BlockValue.{ids_of, octets_of_held, held_symbol, block_value}
use Rattle.norm_send_rules.proofs.CutNames.{CutRange}
use Rattle.norm_safety.proofs.EntryLemmas.{clash}
use Rattle.norm_safety.proofs.SolvedLemmas.{own_octet}
use Rattle.norm_safety.proofs.BlockLemmas.{IsCoded, Climbing, solved_front}
use Rattle.norm_safety.proofs.HeldLemmas.{Rising, IsOfObject, is_in, climbs}
use Rattle.norm_safety.proofs.SizedOrders.{IsOfOctets}
use Rattle.norm_safety.proofs.ClosedLemmas.{segment_there, all_at, closed_octets, closed_short, closed_few, split_at, IsShort}
use Rattle.norm_safety.proofs.SymbolLater.{Encoded, is_encoded_of}

-- a stream of octets that 32 bits count
pub record OfOctets (parts : List Part) : Type 0 where
  pub octets : AllByRecursion IsOfOctets parts
  pub few : length (written parts) ≤ 4294967295

-- ---- segments

-- the octets of a segment that is sent are octets
two_octets : (n : ℕ) → AreElements (to_be_bytes w16 n)
two_octets n = (omega arith, (omega arith, tt))

four_octets : (n : ℕ) → AreElements (to_be_bytes w32 n)
four_octets n = (omega arith, (omega arith, (omega arith, (omega arith, tt))))

joined_octets : (xs ys : List ℕ) → AreElements xs → AreElements ys → AreElements (xs ++ ys)
joined_octets [] ys h k = k
joined_octets (x ∷ xs) ys h k = (h.0, joined_octets xs ys h.1 k)

pub length-segment : (g : Segment) → length (segment_octets g) ≡ 8 + length g.octets
length-segment g = omega arith

sent_octets : (g : Segment) → AreElements g.octets → AreElements (segment_octets g)
sent_octets g are =
    joined_octets ((to_be_bytes w16 (length g.octets) ++ to_be_bytes w16 0) ++ to_be_bytes w32 g.offset) g.octets
    (joined_octets (to_be_bytes w16 (length g.octets) ++ to_be_bytes w16 0) (to_be_bytes w32 g.offset)
    (joined_octets (to_be_bytes w16 (length g.octets)) (to_be_bytes w16 0) (two_octets (length g.octets)) (two_octets 0)) (four_octets g.offset)) are

-- A closed segment of a stream.
pub record ClosedAt (p : Settings) (parts : List Part) (i : ℕ) : Type 0 where
  pub segment : Segment
  pub found : slice_get (segments p.e parts) i ≡ Some segment
  pub is : segment.octets ≡ get_or (closed_from p.e [] parts) i []
  pub sent : segment_at (segments p.e parts) i ≡ segment_octets segment
  pub octets : AreElements segment.octets
  pub short : length segment.octets ≤ p.e
  pub offset : segment.offset < 4294967296

pub closed_there : (p : Settings) (parts : List Part) (i : ℕ) → OfOctets parts → i < length (closed_from p.e [] parts) → ClosedAt p parts i
closed_there p parts i of lt =
    let closed : List (List ℕ) = closed_from p.e [] parts in
    let at = segment_there 0 closed i lt in
    let few = closed_few p.e [] parts in
    let all = of.few in
    let S : List ℕ → Type 0 = λ xs. length xs ≤ p.e in
    record {
      segment = at.segment;
      found = at.found;
      is = at.octets;
      sent = ap found_octets at.found;
      octets = subst AreElements (sym at.octets) (all_at AreElements closed i tt (closed_octets p.e [] parts tt of.octets));
      short = subst S (sym at.octets) (all_at (IsShort p.e) closed i (omega arith) (closed_short p.e [] parts));
      offset = (let ends = at.ends in omega (arith, ends, few, all));
    }
  where
    found_octets : Option Segment → List ℕ
    found_octets found = elim found [ Some s ↦ segment_octets s | None ↦ [] ]

-- each segment, also one that is not closed yet, is sent with octets, and with no more than a coded symbol has
sent_each : (p : Settings) (parts : List Part) (i : ℕ) → OfOctets parts
    → AreElements (segment_at (segments p.e parts) i) × (length (segment_at (segments p.e parts) i) ≤ p.e + 8)
sent_each p parts i of = go (split_at (length (closed_from p.e [] parts)) i)
  where
    P : List ℕ → Type 0
    P xs = AreElements xs × (length xs ≤ p.e + 8)

    found_octets : Option Segment → List ℕ
    found_octets found = elim found [ Some s ↦ segment_octets s | None ↦ [] ]

    past : (xs : List Segment) (i : ℕ) → length xs ≤ i → slice_get xs i ≡ None
    past [] i le = refl
    past (x ∷ xs) zero le = absurd (omega arith)
    past (x ∷ xs) (suc i) le = past xs i (omega arith)

    go : (i < length (closed_from p.e [] parts)) ⊎ (length (closed_from p.e [] parts) ≤ i) → P (segment_at (segments p.e parts) i)
    go (inl lt) =
        let at = closed_there p parts i of lt in
        let long = length-segment at.segment in
        let short = at.short in
        subst P (sym at.sent) (sent_octets at.segment at.octets, omega (arith, long, short))
    go (inr le) =
        let none : slice_get (segments p.e parts) i ≡ None =
        past (segments p.e parts) i (let long = length-placed 0 (closed_from p.e [] parts) in omega (arith, long, le)) in
        subst P (sym (ap found_octets none)) (tt, omega arith)

-- ---- the sources of a block

-- the segments of a block, as they are sent
abbrev pub stream_sources : Settings → List Part → ℕ → List (List ℕ)
stream_sources p parts block = block_sources p (Stream parts) block

pub length-stream_sources : (p : Settings) (parts : List Part) (block : ℕ) → length (stream_sources p parts block) ≡ p.b
length-stream_sources p parts block = length-map-range_with_len (λ symbol. segment_at (segments p.e parts) (block * p.b + symbol)) 0 p.b

pub stream_source_at : (p : Settings) (parts : List Part) (block j : ℕ) → j < p.b
    → get_or (stream_sources p parts block) j [] ≡ segment_at (segments p.e parts) (block * p.b + j)
stream_source_at p parts block j lt =
    get_or-map-range_with_len (λ symbol. segment_at (segments p.e parts) (block * p.b + symbol)) 0 p.b j j [] lt (zero-add j)

each_octets : (f : ℕ → List ℕ) → ((j : ℕ) → AreElements (f j)) → (js : List ℕ) → AllByRecursion AreElements (map f js)
each_octets f are [] = tt
each_octets f are (j ∷ js) = (are j, each_octets f are js)

sources_octets : (p : Settings) (parts : List Part) (block : ℕ) → OfOctets parts → AllByRecursion AreElements (stream_sources p parts block)
sources_octets p parts block of =
    each_octets (λ symbol. segment_at (segments p.e parts) (block * p.b + symbol)) (λ j. (sent_each p parts (block * p.b + j) of).0) (range_with_len 0 p.b)

-- ---- what is held of a block is encoded

coded_one : (p : Settings) → CutRange p → (parts : List Part) → OfOctets parts → (h : Held)
    → nat_lt h.at.symbol (encoded_in (shape_of p (Stream parts)) h.at.block) ≡ true
    → h.octets ≡ symbol_octets p (Stream parts) h.at.block h.at.symbol
    → IsCoded (p.e + 8) (stream_sources p parts h.at.block) h
coded_one p range parts of h low is =
    let sources : List (List ℕ) = stream_sources p parts h.at.block in
    let encoded = is_encoded_of p range parts h.at.block h.at.symbol low in
    let below : h.at.symbol < 255 = (let lt = encoded.below in let most = range.most_n in omega (arith, lt, most)) in
    let count = length-stream_sources p parts h.at.block in
    let few = range.most_b in
    go below (omega (arith, count, few)) (sources_octets p parts h.at.block of) (nat_lt h.at.symbol p.b) refl is
  where
    go : h.at.symbol < 255 → length (stream_sources p parts h.at.block) ≤ 255 → AllByRecursion AreElements (stream_sources p parts h.at.block)
        → (b : Bool) → nat_lt h.at.symbol p.b ≡ b
        → h.octets ≡ elim b [
          | true ↦ segment_at (segments p.e parts) (h.at.block * p.b + h.at.symbol)
          | false ↦ encoded_symbol (p.e + 8) (stream_sources p parts h.at.block) h.at.symbol
        ]
        → IsCoded (p.e + 8) (stream_sources p parts h.at.block) h
    go below few all true e is =
        let sources : List (List ℕ) = stream_sources p parts h.at.block in
        let lt : h.at.symbol < p.b = (Decides-ltb h.at.symbol p.b).0 e in
        let own : h.octets ≡ get_or sources h.at.symbol [] = is ∙ sym (stream_source_at p parts h.at.block h.at.symbol lt) in
        let count = length-stream_sources p parts h.at.block in
        record {
          below = below;
          octets = subst AreElements (sym is) (sent_each p parts (h.at.block * p.b + h.at.symbol) of).0;
          coded = λ t within. ap (λ xs. get_or xs t 0) own ∙ sym (own_octet (p.e + 8) t h.at.symbol sources few all within (omega (arith, lt, count)));
          own = λ _. own;
        }
    go below few all false e is =
        let sources : List (List ℕ) = stream_sources p parts h.at.block in
        let count = length-stream_sources p parts h.at.block in
        record {
          below = below;
          octets = subst AreElements (sym is) (symbol_laws.octets (p.e + 8) h.at.symbol sources);
          coded = λ t within. ap (λ xs. get_or xs t 0) is;
          own = λ lt. let no : p.b ≤ h.at.symbol = ltb-false h.at.symbol p.b e in absurd (omega (arith, no, lt, count));
        }

held_coded : (p : Settings) → CutRange p → (parts : List Part) → OfOctets parts → (index block : ℕ) (held : List Held)
    → AllByRecursion (IsOfObject p (Stream parts) index) held
    → AllByRecursion (IsCoded (p.e + 8) (stream_sources p parts block)) (filter (is_in index block) held)
held_coded p range parts octets index block [] of = tt
held_coded p range parts octets index block (h ∷ held) of = go (is_in index block h) refl (held_coded p range parts octets index block held of.1)
  where
    go : (is : Bool) → is_in index block h ≡ is
        → AllByRecursion (IsCoded (p.e + 8) (stream_sources p parts block)) (filter (is_in index block) held)
        → AllByRecursion (IsCoded (p.e + 8) (stream_sources p parts block)) (cond is (h ∷ filter (is_in index block) held) (filter (is_in index block) held))
    go false e rest = rest
    go true e rest =
        let at = and_parts (h.at.index == index) (h.at.block == block) e in
        let is = of.0 (eqb-true h.at.index index at.0) in
        let one = coded_one p range parts octets h is.0 is.1 in
        (subst (λ (b : ℕ). IsCoded (p.e + 8) (stream_sources p parts b) h) (eqb-true h.at.block block at.1) one, rest)

-- ---- a block of which as many symbols are held as it has sources is closed

-- ids that climb from one number on and stay below another are no more than lie between them
climbing_few : (from top : ℕ) (ids : List ℕ) → AllByRecursion (λ y. from ≤ y) ids → AllByRecursion (λ y. y < top) ids → Climbing ids → length ids ≤ top - from
climbing_few from top [] low below up = omega arith
climbing_few from top (x ∷ ids) low below up =
    let more = climbing_few (suc x) top ids (raised ids up.0) below.1 up.1 in
    let first = low.0 in
    let last = below.0 in
    omega (arith, more, first, last)
  where
    raised : (ys : List ℕ) → AllByRecursion (λ y. x < y) ys → AllByRecursion (λ y. suc x ≤ y) ys
    raised [] all = tt
    raised (y ∷ ys) all = ((let lt = all.0 in omega (arith, lt)), raised ys all.1)

all_low : (ids : List ℕ) → AllByRecursion (λ y. 0 ≤ y) ids
all_low [] = tt
all_low (x ∷ ids) = (omega arith, all_low ids)

-- each symbol that is held of a block is encoded
encoded_ids : (p : Settings) → CutRange p → (parts : List Part) (index block : ℕ) (held : List Held) → AllByRecursion (IsOfObject p (Stream parts) index) held
    → AllByRecursion (Encoded p parts block) (ids_of (filter (is_in index block) held))
encoded_ids p range parts index block [] of = tt
encoded_ids p range parts index block (h ∷ held) of = go (is_in index block h) refl (encoded_ids p range parts index block held of.1)
  where
    go : (is : Bool) → is_in index block h ≡ is → AllByRecursion (Encoded p parts block) (ids_of (filter (is_in index block) held))
        → AllByRecursion (Encoded p parts block) (ids_of (cond is (h ∷ filter (is_in index block) held) (filter (is_in index block) held)))
    go false e rest = rest
    go true e rest =
        let at = and_parts (h.at.index == index) (h.at.block == block) e in
        let is = of.0 (eqb-true h.at.index index at.0) in
        let E : ℕ → Type 0 = λ b. Encoded p parts b h.at.symbol in
        (subst E (eqb-true h.at.block block at.1) (is_encoded_of p range parts h.at.block h.at.symbol is.0), rest)

-- of a block that is not closed whole all encoded symbols are closed segments
below_closed : (p : Settings) (parts : List Part) (block : ℕ) (ids : List ℕ) → length (closed_from p.e [] parts) < block * p.b + p.b
    → AllByRecursion (Encoded p parts block) ids → AllByRecursion (λ y. y < length (closed_from p.e [] parts) - block * p.b) ids
below_closed p parts block [] lt all = tt
below_closed p parts block (x ∷ ids) lt all = (one (split_at p.b x), below_closed p parts block ids lt all.1)
  where
    one : (x < p.b) ⊎ (p.b ≤ x) → x < length (closed_from p.e [] parts) - block * p.b
    one (inl less) = let at = all.0.source less in omega (arith, at)
    one (inr le) = let full = all.0.full le in absurd (omega (arith, full, lt))

block_closed : (p : Settings) (parts : List Part) (block : ℕ) (ids : List ℕ) → 1 ≤ p.b → p.b ≤ length ids → Climbing ids
    → AllByRecursion (Encoded p parts block) ids → block * p.b + p.b ≤ length (closed_from p.e [] parts)
block_closed p parts block ids some enough up all = go (split_at (block * p.b + p.b) (length (closed_from p.e [] parts)))
  where
    go : (length (closed_from p.e [] parts) < block * p.b + p.b) ⊎ (block * p.b + p.b ≤ length (closed_from p.e [] parts))
        → block * p.b + p.b ≤ length (closed_from p.e [] parts)
    go (inr le) = le
    go (inl lt) =
        let few = climbing_few 0 (length (closed_from p.e [] parts) - block * p.b) ids (all_low ids) (below_closed p parts block ids lt all) up in
        absurd (omega (arith, few, enough, lt, some))

-- ---- a source symbol that comes of what is held

-- a plan of a stream
pub record StreamPlan (p : Settings) (parts : List Part) (s : Holding) (plan : Plan) : Type 0 where
  pub fti : plan.fti ≡ fti_of_object p (Stream parts)
  pub stream : says_stream plan.flags ≡ true
  pub symbols : AllByRecursion (IsOfObject p (Stream parts) plan.index) s.held
  pub rising : Rising s.held

pub stream_plan_cut : (p : Settings) (parts : List Part) (s : Holding) (plan : Plan) → StreamPlan p parts s plan → cut_of_plan plan ≡ stream_cut p.e p.b p.max_n
stream_plan_cut p parts s plan h =
    ap (λ (b : Bool). elim b [ true ↦ stream_cut plan.fti.e plan.fti.b plan.fti.max_n | false ↦ cut_of plan.fti.l plan.fti.e plan.fti.b plan.fti.max_n ]) h.stream
    ∙ ap (λ f. stream_cut f.e f.b f.max_n) h.fti

-- octets begin as a closed segment is sent
pub record BeginsAs (p : Settings) (parts : List Part) (i : ℕ) (octets : List ℕ) : Type 0 where
  pub closed : i < length (closed_from p.e [] parts)
  pub rest : List ℕ
  pub is : octets ≡ segment_at (segments p.e parts) i ++ rest

-- a symbol that is held itself
held_one : (p : Settings) → CutRange p → (parts : List Part) (index block symbol : ℕ) (held : List Held) (octets : List ℕ) → symbol < p.b
    → AllByRecursion (IsOfObject p (Stream parts) index) held → held_symbol (filter (is_in index block) held) symbol ≡ Some octets
    → BeginsAs p parts (block * p.b + symbol) octets
held_one p range parts index block symbol [] octets lt of e = absurd (nothing octets e)
  where
    nothing : (x : List ℕ) → None ≡ Some x → ⊥
    nothing x e = cc
held_one p range parts index block symbol (h ∷ held) octets lt of e =
    go (is_in index block h) refl e (held_one p range parts index block symbol held octets lt of.1)
  where
    same : (x y : List ℕ) → Some x ≡ Some y → x ≡ y
    same x y e = cc

    mine : is_in index block h ≡ true → h.at.symbol ≡ symbol → h.octets ≡ octets → BeginsAs p parts (block * p.b + symbol) octets
    mine is at own =
        let place = and_parts (h.at.index == index) (h.at.block == block) is in
        let told = of.0 (eqb-true h.at.index index place.0) in
        let b : h.at.block ≡ block = eqb-true h.at.block block place.1 in
        let encoded = is_encoded_of p range parts h.at.block h.at.symbol told.0 in
        let E : ℕ → Type 0 = λ n. Encoded p parts n symbol in
        let F : ℕ → Type 0 = λ n. Encoded p parts h.at.block n in
        let here : Encoded p parts block symbol = subst E b (subst F at encoded) in
        record {
          closed = here.source lt;
          rest = [];
          is = sym own ∙ told.1 ∙ ap (λ (n : ℕ). symbol_octets p (Stream parts) n h.at.symbol) b
              ∙ ap (λ (n : ℕ). symbol_octets p (Stream parts) block n) at
              ∙ ap by_place ((Decides-ltb symbol p.b).1 lt)
              ∙ sym (append-nil (segment_at (segments p.e parts) (block * p.b + symbol)));
        }
      where
        by_place : Bool → List ℕ
        by_place b = elim b [
          | true ↦ segment_at (segments p.e parts) (block * p.b + symbol)
          | false ↦ encoded_symbol (p.e + 8) (stream_sources p parts block) symbol
        ]

    found : (b : Bool) → (h.at.symbol == symbol) ≡ b → is_in index block h ≡ true
        → (held_symbol (filter (is_in index block) held) symbol ≡ Some octets → BeginsAs p parts (block * p.b + symbol) octets)
        → ◌≡◌ {A = Option (List ℕ)} (elim (cond b (Some h) (find (λ (x : Held). x.at.symbol == symbol) (filter (is_in index block) held))) [ Some x ↦ Some x.octets | None ↦ None ]) (Some octets)
        → BeginsAs p parts (block * p.b + symbol) octets
    found true at is more e = mine is (eqb-true h.at.symbol symbol at) (same h.octets octets e)
    found false at is more e = more e

    go : (b : Bool) → is_in index block h ≡ b
        → held_symbol (cond b (h ∷ filter (is_in index block) held) (filter (is_in index block) held)) symbol ≡ Some octets
        → (held_symbol (filter (is_in index block) held) symbol ≡ Some octets → BeginsAs p parts (block * p.b + symbol) octets)
        → BeginsAs p parts (block * p.b + symbol) octets
    go false is e more = more e
    go true is e more = found (h.at.symbol == symbol) refl is more e

-- A source symbol of a stream that comes of what is held begins as its segment, which is closed.
pub value_begins : (p : Settings) → CutRange p → (parts : List Part) → OfOctets parts → (s : Holding) (plan : Plan) (block symbol : ℕ) (octets : List ℕ)
    → StreamPlan p parts s plan → symbol < p.b → block_value s plan block symbol ≡ Some octets → BeginsAs p parts (block * p.b + symbol) octets
value_begins p range parts of s plan block symbol octets h lt e = go (is_done s plan block) refl (says_stream plan.flags) h.stream e
  where
    held : List Held
    held = held_of s plan.index block

    same : (x y : List ℕ) → Some x ≡ Some y → x ≡ y
    same x y e = cc

    solved : is_done s plan block ≡ true → BeginsAs p parts (block * p.b + symbol) (solved_symbol (coded_octets (cut_of_plan plan)) (ids_of held) (octets_of_held held) symbol)
    solved done =
        let is : cut_of_plan plan ≡ stream_cut p.e p.b p.max_n = stream_plan_cut p parts s plan h in
        let none : source_symbols (cut_of_plan plan) block - length held ≡ 0 = eqb-true (source_symbols (cut_of_plan plan) block - length held) 0 done in
        let k : source_symbols (cut_of_plan plan) block ≡ p.b = ap (λ c. source_symbols c block) is in
        let enough : p.b ≤ length held = omega (arith, none, k) in
        let up = climbs plan.index block s.held h.rising in
        let ids : length (ids_of held) ≡ length held = length-map held (λ (x : Held). x.at.symbol) in
        let some = range.least_b in
        let all = block_closed p parts block (ids_of held) some (omega (arith, ids, enough)) up (encoded_ids p range parts plan.index block s.held h.symbols) in
        let sources : List (List ℕ) = stream_sources p parts block in
        let count : length sources ≡ p.b = length-stream_sources p parts block in
        let few = range.most_b in
        let own = stream_source_at p parts block symbol lt in
        let n : ℕ = length (segment_at (segments p.e parts) (block * p.b + symbol)) in
        let short = (sent_each p parts (block * p.b + symbol) of).1 in
        let value : List ℕ = solved_symbol (p.e + 8) (ids_of held) (octets_of_held held) symbol in
        let long : length (get_or sources symbol []) ≡ min (p.e + 8) n = ap (λ (xs : List ℕ). length xs) own ∙ (let z : n ≡ min (p.e + 8) n = omega (arith, short) in z) in
        let front : take n value ≡ segment_at (segments p.e parts) (block * p.b + symbol) =
        solved_front (p.e + 8) symbol n sources held (omega (arith, count, few)) (sources_octets p parts block of) (omega (arith, count, lt)) long
        (omega (arith, count, enough)) up (held_coded p range parts of plan.index block s.held h.symbols) ∙ own in
        record {
          closed = omega (arith, all, lt);
          rest = drop n value;
          is = ap (λ c. solved_symbol (coded_octets c) (ids_of held) (octets_of_held held) symbol) is
              ∙ sym (take-append-drop n value) ∙ ap (λ (xs : List ℕ). xs ++ drop n value) front;
        }

    go : (done : Bool) → is_done s plan block ≡ done → (stream : Bool) → stream ≡ true
        → ◌≡◌ {A = Option (List ℕ)} (elim done [
          | true ↦ Some (solved_symbol (coded_octets (cut_of_plan plan)) (ids_of held) (octets_of_held held) symbol)
          | false ↦ elim stream [ true ↦ held_symbol held symbol | false ↦ None ]
        ]) (Some octets)
        → BeginsAs p parts (block * p.b + symbol) octets
    go true done stream is e =
        let B : List ℕ → Type 0 = λ xs. BeginsAs p parts (block * p.b + symbol) xs in subst B (same _ octets e) (solved done)
    go false done true is e = held_one p range parts plan.index block symbol s.held octets lt h.symbols e
    go false done false is e = absurd (clash is)
