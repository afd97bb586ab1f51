-- From the symbols that are held of an object to its octets: any k of a block's encoded symbols are one codeword's.
use Rattle.std.proofs.Common.{◌≡◌, ℕ, ◌+◌, ◌-◌, ◌*◌, ◌<◌, ◌≤◌, List, [], ◌++◌, length, take, drop, get_or, Bool, true, false, Option, Some, None, refl, sym, ap, ◌∙◌, subst, arith}
use Rattle.std.specs.Prelude.{min}
use Rattle.std.specs.List.{AllByRecursion, list_all, flat_map, range_with_len}
use Rattle.std.proofs.lemmas.Bool.{eqb-true}
use Rattle.std.proofs.lemmas.Grind.{div_ceil_times}
use Rattle.std.proofs.lemmas.List.{length-take, length-drop, take_all}
use Rattle.gf_field.specs.Element.{AreElements}
use Rattle.gf_field.specs.Symbol.{solved_symbol}
use Rattle.gf_field.proofs.Octets.{below_passes}
use Rattle.norm_base.specs.Settings.{Settings}
use Rattle.norm_base.specs.declared.kinds.Kind.{Kind}
use Rattle.fec_plan.specs.Partition.{Cut, cut_of, stream_cut, symbols_in, blocks_in, block_size, symbols_before, blocks, source_symbols, coded_octets}
use Rattle.fec_plan.proofs.CutLemmas.{some_blocks}
use Rattle.fec_plan.proofs.CoverLemmas.{before_step, all_before, none_before}
use Rattle.norm_order.specs.Entries.{Object, Whole}
use Rattle.norm_order.specs.Symbols.{block_sources}
use Rattle.norm_send_rules.specs.Messages.{fti_of_object}
use Rattle.norm_receive_rules.specs.Holding.{Holding, Plan, Held}
use Rattle.norm_receive_rules.specs.Plans.{cut_of_plan, says_stream, held_of, is_done}
use Rattle.norm_receive_rules.specs.BlockValue.{ids_of, octets_of_held, block_value}
use Rattle.norm_receive_rules.specs.HandingUp.{block_octets, object_octets}
use Rattle.norm_send_rules.proofs.CutNames.{CutRange, is_sound}
use Rattle.norm_safety.proofs.BlockLemmas.{solved_front}
use Rattle.norm_safety.proofs.PieceLemmas.{IsFront, piece, walked, number_low, begins_within}
use Rattle.norm_safety.proofs.HeldLemmas.{held_coded, climbs, sources-octets, length-sources, source_at, few_sources}
pub use Rattle.norm_safety.proofs.HeldLemmas.{Rising, IsOfObject}

-- an object of which as many symbols are held as each block has source symbols
pub record ObjectHeld (p : Settings) (object : Object) (s : Holding) (plan : Plan) : Type 0 where
  pub fti : plan.fti ≡ fti_of_object p object
  pub stream : says_stream plan.flags ≡ false
  pub symbols : AllByRecursion (IsOfObject p object plan.index) s.held
  pub rising : Rising s.held
  pub done : list_all (is_done s plan) (range_with_len 0 (blocks (cut_of_plan plan))) ≡ true

-- the partition of these octets
abbrev cut_for : Settings → List ℕ → Cut
cut_for p octets = cut_of (length octets) p.e p.b p.max_n

-- the source symbols of all blocks before a block
abbrev before_in : Settings → List ℕ → ℕ → ℕ
before_in p octets block = symbols_before (symbols_in (length octets) p.e) (blocks_in (symbols_in (length octets) p.e) p.b) block

plan_cut : (p : Settings) (kind : Kind) (info : Option (List ℕ)) (octets : List ℕ) (s : Holding) (plan : Plan)
    → ObjectHeld p (Whole kind info octets) s plan → cut_of_plan plan ≡ cut_for p octets
plan_cut p kind info octets s plan h =
    ap (λ (b : Bool). elim b [ true ↦ stream_cut plan.fti.e plan.fti.b plan.fti.max_n | false ↦ cut_of plan.fti.l plan.fti.e plan.fti.b plan.fti.max_n ]) h.stream
    ∙ ap (λ f. cut_of f.l f.e f.b f.max_n) h.fti

-- a source symbol that is solved is its piece of the object, but for zeros behind it
symbol_front : (p : Settings) → CutRange p → (kind : Kind) (info : Option (List ℕ)) (octets : List ℕ) → 0 < length octets
    → length octets ≤ p.octets → AreElements octets → (s : Holding) (plan : Plan) → ObjectHeld p (Whole kind info octets) s plan
    → (block symbol : ℕ) → symbol < source_symbols (cut_for p octets) block → is_done s plan block ≡ true
    → take (length octets - (before_in p octets block + symbol) * p.e)
    (elim (block_value s plan block symbol) [ Some found ↦ found | None ↦ [] ])
    ≡ take p.e (drop ((before_in p octets block + symbol) * p.e) octets)
symbol_front p range kind info octets some most are s plan h block symbol lt done =
    let n : ℕ = length octets - (before_in p octets block + symbol) * p.e in
    let held : List Held = held_of s plan.index block in
    let sources : List (List ℕ) = block_sources p (Whole kind info octets) block in
    let k : ℕ = source_symbols (cut_for p octets) block in
    let is : cut_of_plan plan ≡ cut_for p octets = plan_cut p kind info octets s plan h in
    let count : length sources ≡ k = length-sources p kind info octets block in
    let few : k ≤ 255 = few_sources p range (length octets) block some most in
    let own = source_at p kind info octets block symbol lt in
    let long : length (get_or sources symbol []) ≡ min p.e n =
    ap (λ (xs : List ℕ). length xs) own
    ∙ length-take p.e (drop ((before_in p octets block + symbol) * p.e) octets)
    ∙ ap (min p.e) (length-drop ((before_in p octets block + symbol) * p.e) octets) in
    let none : source_symbols (cut_of_plan plan) block - length held ≡ 0 = eqb-true (source_symbols (cut_of_plan plan) block - length held) 0 done in
    let same : source_symbols (cut_of_plan plan) block ≡ k = ap (λ c. source_symbols c block) is in
    let enough : length sources ≤ length held = omega (arith, none, same, count) in
    ap (λ xs. take n xs) (found_symbol done ∙ ap (λ c. solved_symbol (coded_octets c) (ids_of held) (octets_of_held held) symbol) is)
    ∙ solved_front p.e symbol n sources held (omega (arith, count, few)) (sources-octets p kind info octets block are)
    (omega (arith, count, lt)) long enough (climbs plan.index block s.held h.rising)
    (held_coded p range kind info octets some most are plan.index block s.held h.symbols)
    ∙ own
  where
    found_symbol : is_done s plan block ≡ true
        → ◌≡◌ {A = List ℕ} (elim (block_value s plan block symbol) [ Some found ↦ found | None ↦ [] ])
        (solved_symbol (coded_octets (cut_of_plan plan)) (ids_of (held_of s plan.index block)) (octets_of_held (held_of s plan.index block)) symbol)
    found_symbol done = rw done refl

-- the octets of a block stand behind those of the blocks before it
block_front : (p : Settings) → CutRange p → (kind : Kind) (info : Option (List ℕ)) (octets : List ℕ) → 0 < length octets
    → length octets ≤ p.octets → AreElements octets → (s : Holding) (plan : Plan) → ObjectHeld p (Whole kind info octets) s plan
    → (block : ℕ) (front : List ℕ) → block < blocks (cut_for p octets) → is_done s plan block ≡ true → IsFront p.e octets (before_in p octets block) front
    → IsFront p.e octets (before_in p octets (block + 1)) (front ++ block_octets s plan block)
block_front p range kind info octets some most are s plan h block front lt done start =
    let t : ℕ = symbols_in (length octets) p.e in
    let n : ℕ = blocks_in t p.b in
    let before : ℕ = symbols_before t n block in
    let same : source_symbols (cut_of_plan plan) block ≡ block_size t n block = ap (λ c. source_symbols c block) (plan_cut p kind info octets s plan h) in
    let value : ℕ → List ℕ = λ symbol. elim (block_value s plan block symbol) [ Some found ↦ found | None ↦ [] ] in
    let begin : IsFront p.e octets (before + 0) front = subst (λ (i : ℕ). IsFront p.e octets i front) (let z : before ≡ before + 0 = omega arith in z) start in
    let walk = walked (λ j xs. IsFront p.e octets (before + j) xs) value (block_size t n block)
    (λ j xs below is.
    let low = number_low t n block j lt below in
    let within = begins_within (length octets) p.e (before + j) (omega (arith, range.least_e)) low in
    subst (λ (i : ℕ). IsFront p.e octets i (xs ++ value j)) (let z : before + j + 1 ≡ before + (j + 1) = omega arith in z)
    (piece p.e octets (before + j) xs (value j) within is
    (symbol_front p range kind info octets some most are s plan h block j below done)))
    0 (source_symbols (cut_of_plan plan) block) (omega (arith, same)) front begin in
    subst (λ (i : ℕ). IsFront p.e octets i (front ++ block_octets s plan block))
    (let step = before_step t n block in omega (arith, same, step)) walk

-- Its octets are the object's.
pub object_again : (p : Settings) → CutRange p → (kind : Kind) (info : Option (List ℕ)) (octets : List ℕ) → 0 < length octets
    → length octets ≤ p.octets → AreElements octets → (s : Holding) (plan : Plan) → ObjectHeld p (Whole kind info octets) s plan
    → object_octets s plan ≡ octets
object_again p range kind info octets some most are s plan h =
    let t : ℕ = symbols_in (length octets) p.e in
    let n : ℕ = blocks_in t p.b in
    let size : 0 < p.e = omega (arith, range.least_e) in
    let count : blocks (cut_of_plan plan) ≡ n = ap (λ c. blocks c) (plan_cut p kind info octets s plan h) in
    let l-is : plan.fti.l ≡ length octets = ap (λ f. f.l) h.fti in
    let begin : IsFront p.e octets (symbols_before t n 0) [] = start t n in
    let walk = walked (λ j xs. IsFront p.e octets (symbols_before t n j) xs) (block_octets s plan) n
    (λ j xs below is.
    let done = below_passes (blocks (cut_of_plan plan)) (is_done s plan) h.done j (omega (arith, below, count)) in
    block_front p range kind info octets some most are s plan h j xs below done is)
    0 (blocks (cut_of_plan plan)) (omega (arith, count)) [] begin in
    let some_symbols : 0 < t = (is_sound p range (length octets) some most).some in
    let all : symbols_before t n n ≡ t = all_before t n (some_blocks t p.b some_symbols (omega (arith, range.least_b))) in
    let last : symbols_before t n (0 + blocks (cut_of_plan plan)) ≡ t = ap (symbols_before t n) (omega (arith, count)) ∙ all in
    let covers : length octets ≤ t * p.e = (div_ceil_times (length octets) p.e size).0 in
    ap (λ i. take i (flat_map (block_octets s plan) (range_with_len 0 (blocks (cut_of_plan plan))))) l-is
    ∙ walk
    ∙ ap (λ (i : ℕ). take (i * p.e) octets) last
    ∙ take_all (t * p.e) octets covers
  where
    start : (t n : ℕ) → take (length octets) [] ≡ take (symbols_before t n 0 * p.e) octets
    start t n =
        take_all {A = ℕ} (length octets) [] (omega arith)
        ∙ sym (ap (λ (i : ℕ). take i octets) (ap (λ (i : ℕ). i * p.e) (none_before t n) ∙ (let z : 0 * p.e ≡ 0 = omega arith in z)))
