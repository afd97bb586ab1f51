-- An encoded symbol as the sender writes it fits the plan of its object: the block is one of the object's, the symbol one of the block's, and
-- the payload has its length.
use Rattle.std.proofs.Common.{◌≡◌, ℕ, zero, suc, ◌+◌, ◌-◌, ◌*◌, ◌/◌, ◌<◌, ◌≤◌, List, [], length, take, drop, Bool, true, false, Option, None, Some, refl, sym, ap, ◌∙◌, subst, arith, ◌⊎◌, inl, inr}
use Rattle.std.specs.Prelude.{min, not, nat_lt, nat_le, is_some, ◌==◌, ◌&&◌, ◌||◌, if◌then◌else◌}
use Rattle.std.proofs.Math.Nat.{mul-le-mul_right}
use Rattle.std.proofs.lemmas.Bool.Decides.{Decides-eqb, Decides-ltb, leb_tells}
use Rattle.std.proofs.lemmas.List.{length-take, length-drop}
use Rattle.gf_field.specs.Symbol.{encoded_symbol}
use Rattle.gf_field.proofs.Symbols.{length-encoded_symbol}
use Rattle.norm_base.specs.Settings.{Settings, InRange}
use Rattle.norm_base.specs.declared.kinds.Kind.{Kind}
use Rattle.fec_plan.specs.Partition.{Cut, cut_of, stream_cut, symbols_in, blocks_in, blocks, symbols_before, source_symbols, encoding_symbols, symbol_number, coded_octets, sent_octets, most_blocks, outside, first_fault}
use Rattle.fec_plan.specs.declared.plan.PlanFault.{PlanFault}
use Rattle.fec_plan.specs.declared.position.Position.{Position}
use Rattle.fec_plan.proofs.CoverLemmas.{before_step, all_before}
use Rattle.fec_plan.proofs.CutLemmas.{some_blocks}
use Rattle.fec_plan.proofs.PartitionLemmas.{some_sources, sources_fit}
use Rattle.norm_ext.specs.Numbers.{number}
use Rattle.norm_ext.specs.Segment.{Segment as Told}
use Rattle.norm_ext.specs.declared.fti.Fti.{Fti}
use Rattle.norm_order.specs.Entries.{Part, Object, Whole, Stream}
use Rattle.norm_order.specs.Segments.{Segment, segments, closed_from}
use Rattle.norm_order.specs.Shapes.{Shape, shape_of, closed_in, encoded_in}
use Rattle.norm_order.specs.Symbols.{segment_octets, segment_at, block_sources, symbol_octets}
use Rattle.norm_receive_rules.specs.Holding.{Plan}
use Rattle.norm_receive_rules.specs.Plans.{cut_by, cut_of_plan, says_stream}
use Rattle.norm_receive_rules.specs.Putting.{is_segment, fits_stream, has_length, is_misfit}
use Rattle.norm_send_rules.specs.Messages.{fti_of_object, object_flags}
use Rattle.norm_send_rules.specs.Streaming.{used_segments}
use Rattle.norm_send_rules.proofs.CutNames.{CutRange, cut_range, is_sound}
use Rattle.norm_safety.specs.InOrder.{is_stream_object}
use Rattle.norm_safety.proofs.ClosedLemmas.{split_at}
use Rattle.norm_safety.proofs.Holding.{flags_say, stream_says}
use Rattle.norm_safety.proofs.SizedOrders.{IsSized}
use Rattle.norm_safety.proofs.StreamHeld.{OfOctets, closed_there, length-segment}
use Rattle.norm_safety.proofs.SymbolLater.{Encoded, is_encoded_of, stream_encoding}

clash : false ≡ true → ⊥
clash e = cc

-- ---- tests as numbers

pub not_le : (a b : ℕ) → b < a → nat_le a b ≡ false
not_le a b lt = go (leb_tells a b)
  where
    go : ((nat_le a b ≡ true) × (a ≤ b)) ⊎ ((nat_le a b ≡ false) × (b < a)) → nat_le a b ≡ false
    go (inl tells) = absurd (let le = tells.1 in omega (arith, le, lt))
    go (inr tells) = tells.0

pub not_lt : (a b : ℕ) → b ≤ a → nat_lt a b ≡ false
not_lt a b le = go (nat_lt a b) refl
  where
    go : (t : Bool) → nat_lt a b ≡ t → nat_lt a b ≡ false
    go true e = absurd (let lt = (Decides-ltb a b).0 e in omega (arith, lt, le))
    go false e = e

pub is_le : (a b : ℕ) → a ≤ b → nat_le a b ≡ true
is_le a b le = go (leb_tells a b)
  where
    go : ((nat_le a b ≡ true) × (a ≤ b)) ⊎ ((nat_le a b ≡ false) × (b < a)) → nat_le a b ≡ true
    go (inl tells) = tells.0
    go (inr tells) = absurd (let lt = tells.1 in omega (arith, lt, le))

pub neither : (a b : Bool) → a ≡ false → b ≡ false → (a || b) ≡ false
neither true b e f = absurd (clash (sym e))
neither false b e f = f

both : (a b : Bool) → a ≡ true → b ≡ true → (a && b) ≡ true
both true b e f = f
both false b e f = absurd (clash e)

-- ---- a plan by its object

-- a plan is that of an object: its transmission information, and its flags but for those of a repair
pub record PlanIs (p : Settings) (object : Object) (told : Fti) (said : ℕ) : Type 0 where
  pub fti : told ≡ fti_of_object p object
  pub flags : 4 * (said / 4) ≡ object_flags object

pub says_its : (object : Object) (flags : ℕ) → 4 * (flags / 4) ≡ object_flags object → says_stream flags ≡ is_stream_object object
says_its (Whole kind info octets) flags e = (flags_say flags kind info octets e).stream
says_its (Stream parts) flags e = stream_says flags parts e

pub its_cut : (p : Settings) (object : Object) (f : Fti) (flags : ℕ) → PlanIs p object f flags → cut_by f flags ≡ (shape_of p object).cut
its_cut p object f flags is =
    ap (λ (g : Fti). cut_by g flags) is.fti ∙ ap by_kind (says_its object flags is.flags) ∙ its object
  where
    by_kind : Bool → Cut
    by_kind b = let g : Fti = fti_of_object p object in elim b [ true ↦ stream_cut g.e g.b g.max_n | false ↦ cut_of g.l g.e g.b g.max_n ]

    kind_cut : Object → Cut
    kind_cut o = let g : Fti = fti_of_object p o in elim (is_stream_object o) [ true ↦ stream_cut g.e g.b g.max_n | false ↦ cut_of g.l g.e g.b g.max_n ]

    its : (o : Object) → kind_cut o ≡ (shape_of p o).cut
    its (Whole kind info octets) = refl
    its (Stream parts) = refl

-- ---- a cut that is sound has no fault

none_fault : (z o1 o2 m t : Bool) (f1 f2 f3 f4 f5 : PlanFault) → z ≡ false → o1 ≡ false → o2 ≡ false → m ≡ false → t ≡ false
    → is_some (if z then Some f1 else (elim (if o1 then Some f2 else (if o2 then Some f3 else (if m then Some f4 else None))) as (λ _. Option PlanFault) [
      | Some fault ↦ Some fault
      | None ↦ if t then Some f5 else None
    ])) ≡ false
none_fault true o1 o2 m t f1 f2 f3 f4 f5 a b c d e = absurd (clash (sym a))
none_fault false true o2 m t f1 f2 f3 f4 f5 a b c d e = absurd (clash (sym b))
none_fault false false true m t f1 f2 f3 f4 f5 a b c d e = absurd (clash (sym c))
none_fault false false false true t f1 f2 f3 f4 f5 a b c d e = absurd (clash (sym d))
none_fault false false false false true f1 f2 f3 f4 f5 a b c d e = absurd (clash (sym e))
none_fault false false false false false f1 f2 f3 f4 f5 a b c d e = refl

-- nothing has no length
abbrev none_of : Option ℕ → Bool
none_of l = elim l [ Some n ↦ n == 0 | None ↦ false ]

faultless : (c : Cut) → none_of c.l ≡ false → 64 ≤ c.e → c.e ≤ 1400 → 1 ≤ c.b → c.b ≤ 200 → c.b ≤ c.max_n → blocks c ≤ most_blocks → is_some (first_fault c) ≡ false
faultless c some least_e most_e least_b most_b max_n few =
    none_fault (none_of c.l) (outside 64 1400 c.e) (outside 1 200 c.b) (nat_lt c.max_n c.b) (nat_lt most_blocks (blocks c)) _ _ _ _ _ some
    (neither (nat_lt c.e 64) (nat_lt 1400 c.e) (not_lt c.e 64 least_e) (not_lt 1400 c.e most_e))
    (neither (nat_lt c.b 1) (nat_lt 200 c.b) (not_lt c.b 1 least_b) (not_lt 200 c.b most_b)) (not_lt c.max_n c.b max_n) (not_lt most_blocks (blocks c) few)

some_long : (n : ℕ) → 0 < n → (n == 0) ≡ false
some_long n lt = go (n == 0) refl
  where
    go : (b : Bool) → (n == 0) ≡ b → (n == 0) ≡ false
    go true e = absurd (let none = (Decides-eqb n 0).0 e in omega (arith, none, lt))
    go false e = e

pub no_fault : (p : Settings) → InRange p → (object : Object) → IsSized p object → is_some (first_fault (shape_of p object).cut) ≡ false
no_fault p range (Whole kind info octets) sized =
    let cut = cut_range p range in
    let sound = is_sound p cut (length octets) sized.0 sized.1 in
    faultless (cut_of (length octets) p.e p.b p.max_n) (some_long (length octets) sized.0) sound.least_e sound.most_e sound.least_b sound.most_b sound.max_n sound.few
no_fault p range (Stream parts) sized =
    let cut = cut_range p range in
    faultless (stream_cut p.e p.b p.max_n) refl cut.least_e cut.most_e cut.least_b cut.most_b cut.max_n (let z : most_blocks ≤ most_blocks = omega arith in z)

-- ---- an encoded symbol's block and number

-- from the last block on all symbols of an object are before
all_passed : (t n k : ℕ) → 0 < n → t ≤ symbols_before t n (n + k)
all_passed t n zero some = (let z : n + 0 ≡ n = omega arith in let all = ap (symbols_before t n) z ∙ all_before t n some in omega (arith, all))
all_passed t n (suc k) some =
    let z : n + suc k ≡ n + k + 1 = omega arith in
    let more = ap (symbols_before t n) z ∙ before_step t n (n + k) in
    let le = all_passed t n k some in omega (arith, more, le)

-- a block that has an encoded symbol has a source symbol that is closed
some_closed : (s : Shape) (block : ℕ) → 1 ≤ source_symbols s.cut block → 0 < encoded_in s block → 0 < closed_in s block
some_closed s block some h = go (closed_in s block == source_symbols s.cut block) refl h
  where
    go : (b : Bool) → (closed_in s block == source_symbols s.cut block) ≡ b
        → 0 < elim b [ true ↦ encoding_symbols s.cut block | false ↦ closed_in s block ] → 0 < closed_in s block
    go true e h = (let is = (Decides-eqb (closed_in s block) (source_symbols s.cut block)).0 e in omega (arith, is, some))
    go false e h = h

few_encoded : (s : Shape) (block symbol : ℕ) → source_symbols s.cut block ≤ encoding_symbols s.cut block → symbol < encoded_in s block → symbol < encoding_symbols s.cut block
few_encoded s block symbol parity h = go (closed_in s block == source_symbols s.cut block) h
  where
    go : (b : Bool) → symbol < elim b [ true ↦ encoding_symbols s.cut block | false ↦ closed_in s block ] → symbol < encoding_symbols s.cut block
    go true lt = lt
    go false lt = omega (arith, lt, parity)

-- An encoded symbol's block is one of the object's, and its number one of the block's.
pub record IsNamed (cut : Cut) (b j : ℕ) : Type 0 where
  pub block : b < blocks cut
  pub symbol : j < encoding_symbols cut b

whole_named : (p : Settings) → CutRange p → (l : ℕ) (info : Bool) (block symbol : ℕ) → 0 < l → l ≤ p.octets
    → symbol < encoded_in (record { cut = cut_of l p.e p.b p.max_n; closed = symbols_in l p.e; info = info }) block → IsNamed (cut_of l p.e p.b p.max_n) block symbol
whole_named p range l info block symbol some most lt =
    let s : Shape = record { cut = cut_of l p.e p.b p.max_n; closed = symbols_in l p.e; info = info } in
    let t : ℕ = symbols_in l p.e in
    let n : ℕ = blocks_in t p.b in
    let sound = is_sound p range l some most in
    let closed = some_closed s block (some_sources (cut_of l p.e p.b p.max_n) block sound) (omega (arith, lt)) in
    let has : 0 < t = sound.some in
    let n_some : 0 < n = some_blocks t p.b has (omega (arith, range.least_b)) in
    record {
      block = by_place t n closed n_some (split_at n block);
      symbol = few_encoded s block symbol (sources_fit (cut_of l p.e p.b p.max_n) block sound) lt;
    }
  where
    by_place : (t n : ℕ) → 0 < min (source_symbols (cut_of l p.e p.b p.max_n) block) (t - (symbols_before t n block + 0)) → 0 < n
        → (block < n) ⊎ (n ≤ block) → block < n
    by_place t n closed some (inl lt) = lt
    by_place t n closed some (inr le) =
        let is : block ≡ n + (block - n) = omega (arith, le) in
        let all = all_passed t n (block - n) some in
        let same = ap (symbols_before t n) is in
        absurd (omega (arith, closed, all, same))

-- where a stream's blocks end
block_below : (p : Settings) (parts : List Part) (block symbol : ℕ) → Encoded p parts block symbol → 1 ≤ p.b → block * p.b < length (closed_from p.e [] parts)
block_below p parts block symbol is some = go (split_at p.b symbol)
  where
    go : (symbol < p.b) ⊎ (p.b ≤ symbol) → block * p.b < length (closed_from p.e [] parts)
    go (inl lt) = let at = is.source lt in omega (arith, at)
    go (inr le) = let all = is.full le in omega (arith, all, some)

-- so many blocks of b hold more than what begins at one of them
pub block_within : (block most b n : ℕ) → block * b < n → n ≤ most * b → block < most
block_within block most b n below all = go (split_at most block)
  where
    go : (block < most) ⊎ (most ≤ block) → block < most
    go (inl lt) = lt
    go (inr le) = let up : most * b ≤ block * b = mul-le-mul_right b le in absurd (omega (arith, up, below, all))

pub stream_block : (p : Settings) → CutRange p → (parts : List Part) (block symbol most : ℕ) → nat_lt symbol (encoded_in (shape_of p (Stream parts)) block) ≡ true
    → used_segments p parts ≤ most * p.b → block < most
stream_block p range parts block symbol most e le =
    let is = is_encoded_of p range parts block symbol e in
    let below = block_below p parts block symbol is range.least_b in
    block_within block most p.b (length (closed_from p.e [] parts)) below (omega (arith, le))

pub is_named : (p : Settings) → InRange p → (object : Object) (block symbol : ℕ) → IsSized p object → nat_lt symbol (encoded_in (shape_of p object) block) ≡ true
    → IsNamed (shape_of p object).cut block symbol
is_named p range (Whole kind info octets) block symbol sized e =
    whole_named p (cut_range p range) (length octets) (is_some info) block symbol sized.0 sized.1 ((Decides-ltb symbol _).0 e)
is_named p range (Stream parts) block symbol sized e =
    let cut = cut_range p range in
    let is = is_encoded_of p cut parts block symbol e in
    let all = stream_encoding p cut block in
    let low = is.below in
    record {
      block = stream_block p cut parts block symbol 16777216 e sized.0;
      symbol = omega (arith, all, low);
    }

-- ---- a payload's length

same_self : (n : ℕ) → (n == n) ≡ true
same_self n = (Decides-eqb n n).1 refl

whole_length : (p : Settings) (kind : Kind) (info : Option (List ℕ)) (octets : List ℕ) (block symbol : ℕ)
    → length (symbol_octets p (Whole kind info octets) block symbol) ≡ sent_octets (cut_of (length octets) p.e p.b p.max_n) block symbol
whole_length p kind info octets block symbol = go (nat_lt symbol (source_symbols cut block))
  where
    cut : Cut
    cut = cut_of (length octets) p.e p.b p.max_n

    n : ℕ
    n = symbol_number cut block symbol

    go : (b : Bool) → length (elim b as (λ _. List ℕ) [
      | true ↦ take p.e (drop (n * p.e) octets)
      | false ↦ encoded_symbol p.e (block_sources p (Whole kind info octets) block) symbol
    ]) ≡ (if b then min p.e (length octets - n * p.e) else p.e)
    go true = length-take p.e (drop (n * p.e) octets) ∙ ap (min p.e) (length-drop (n * p.e) octets)
    go false = length-encoded_symbol p.e symbol (block_sources p (Whole kind info octets) block)

-- a closed segment, as it is sent, is one
segment_is : (p : Settings) (g : Segment) → p.e ≤ 1400 → length g.octets ≤ p.e → is_segment p (segment_octets g) ≡ true
segment_is p g most short =
    ap told (neither (nat_lt (length (segment_octets g)) 8) (nat_lt (length (segment_octets g)) (8 + number 2 0 (segment_octets g)))
    (not_lt (length (segment_octets g)) 8 (omega (arith, long))) (not_lt (length (segment_octets g)) (8 + number 2 0 (segment_octets g)) (omega (arith, long, size))))
    ∙ both (nat_le (number 2 0 (segment_octets g)) p.e) (length (segment_octets g) == 8 + number 2 0 (segment_octets g))
    (is_le (number 2 0 (segment_octets g)) p.e (omega (arith, size, short)))
    ((Decides-eqb (length (segment_octets g)) (8 + number 2 0 (segment_octets g))).1 (let z : length (segment_octets g) ≡ 8 + number 2 0 (segment_octets g) = omega (arith, long, size) in z))
  where
    long : length (segment_octets g) ≡ 8 + length g.octets
    long = length-segment g

    size : number 2 0 (segment_octets g) ≡ length g.octets
    size = (let low : length g.octets < 65536 = omega (arith, most, short) in omega (arith, low))

    found : Bool → Option Told
    found b = if b then None else Some (record {
      size = number 2 0 (segment_octets g);
      msg_start = number 2 2 (segment_octets g);
      offset = number 4 4 (segment_octets g);
      octets = take (number 2 0 (segment_octets g)) (drop 8 (segment_octets g));
    })

    told : Bool → Bool
    told b = elim (found b) [ Some s ↦ nat_le s.size p.e && length (segment_octets g) == 8 + s.size | None ↦ false ]

stream_length : (p : Settings) → CutRange p → (parts : List Part) (block symbol : ℕ) → OfOctets parts → Encoded p parts block symbol → (b : Bool) → nat_lt symbol p.b ≡ b
    → elim b as (λ _. Bool) [
      | true ↦ is_segment p (symbol_octets p (Stream parts) block symbol)
      | false ↦ length (symbol_octets p (Stream parts) block symbol) == p.e + 8
    ] ≡ true
stream_length p range parts block symbol of is true e =
    let lt : symbol < p.b = (Decides-ltb symbol p.b).0 e in
    let c = closed_there p parts (block * p.b + symbol) of (is.source lt) in
    ap (λ (b : Bool). is_segment p (elim b as (λ _. List ℕ) [
      | true ↦ segment_at (segments p.e parts) (block * p.b + symbol)
      | false ↦ encoded_symbol (p.e + 8) (block_sources p (Stream parts) block) symbol
    ])) e ∙ ap (is_segment p) c.sent ∙ segment_is p c.segment range.most_e c.short
stream_length p range parts block symbol of is false e =
    ap (λ (b : Bool). length (elim b as (λ _. List ℕ) [
      | true ↦ segment_at (segments p.e parts) (block * p.b + symbol)
      | false ↦ encoded_symbol (p.e + 8) (block_sources p (Stream parts) block) symbol
    ]) == p.e + 8) e
    ∙ ap (λ (n : ℕ). n == p.e + 8) (length-encoded_symbol (p.e + 8) symbol (block_sources p (Stream parts) block)) ∙ same_self (p.e + 8)

-- the payload of an encoded symbol fits its object's plan
pub length_is : (p : Settings) → InRange p → (object : Object) (plan : Plan) (at : Position) → IsSized p object → PlanIs p object plan.fti plan.flags
    → nat_lt at.symbol (encoded_in (shape_of p object) at.block) ≡ true → has_length p plan at (symbol_octets p object at.block at.symbol) ≡ true
length_is p range (Whole kind info octets) plan at sized is e =
    ap by_kind (says_its (Whole kind info octets) plan.flags is.flags)
    ∙ ap (λ (c : Cut). length payload == sent_octets c at.block at.symbol) (its_cut p (Whole kind info octets) plan.fti plan.flags is)
    ∙ ap (λ (n : ℕ). n == sent_octets (cut_of (length octets) p.e p.b p.max_n) at.block at.symbol) (whole_length p kind info octets at.block at.symbol)
    ∙ same_self (sent_octets (cut_of (length octets) p.e p.b p.max_n) at.block at.symbol)
  where
    payload : List ℕ
    payload = symbol_octets p (Whole kind info octets) at.block at.symbol

    by_kind : Bool → Bool
    by_kind b = elim b [ true ↦ fits_stream p plan at payload | false ↦ length payload == sent_octets (cut_of_plan plan) at.block at.symbol ]
length_is p range (Stream parts) plan at sized is e =
    let cut = cut_range p range in
    ap by_kind (says_its (Stream parts) plan.flags is.flags) ∙ ap by_cut (its_cut p (Stream parts) plan.fti plan.flags is)
    ∙ stream_length p cut parts at.block at.symbol (record { octets = sized.2; few = sized.1 }) (is_encoded_of p cut parts at.block at.symbol e) (nat_lt at.symbol p.b) refl
  where
    payload : List ℕ
    payload = symbol_octets p (Stream parts) at.block at.symbol

    by_kind : Bool → Bool
    by_kind b = elim b [ true ↦ fits_stream p plan at payload | false ↦ length payload == sent_octets (cut_of_plan plan) at.block at.symbol ]

    by_cut : Cut → Bool
    by_cut c = elim (nat_lt at.symbol (source_symbols c at.block)) [ true ↦ is_segment p payload | false ↦ length payload == coded_octets c ]

pub no_misfit : (p : Settings) → InRange p → (object : Object) (plan : Plan) (at : Position) → IsSized p object → PlanIs p object plan.fti plan.flags
    → nat_lt at.symbol (encoded_in (shape_of p object) at.block) ≡ true → is_misfit p plan at (symbol_octets p object at.block at.symbol) ≡ false
no_misfit p range object plan at sized is e =
    let named = is_named p range object at.block at.symbol sized e in
    let cut : cut_of_plan plan ≡ (shape_of p object).cut = its_cut p object plan.fti plan.flags is in
    let low : at.block < blocks (cut_of_plan plan) = (let B : Cut → Type 0 = λ c. at.block < blocks c in subst B (sym cut) named.block) in
    let few : at.symbol < encoding_symbols (cut_of_plan plan) at.block = (let S : Cut → Type 0 = λ c. at.symbol < encoding_symbols c at.block in subst S (sym cut) named.symbol) in
    neither (nat_le (blocks (cut_of_plan plan)) at.block || nat_le (encoding_symbols (cut_of_plan plan) at.block) at.symbol)
    (not (has_length p plan at (symbol_octets p object at.block at.symbol)))
    (neither (nat_le (blocks (cut_of_plan plan)) at.block) (nat_le (encoding_symbols (cut_of_plan plan) at.block) at.symbol)
    (not_le (blocks (cut_of_plan plan)) at.block low) (not_le (encoding_symbols (cut_of_plan plan) at.block) at.symbol few))
    (ap not (length_is p range object plan at sized is e))
