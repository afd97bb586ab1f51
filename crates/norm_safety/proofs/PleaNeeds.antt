-- What a receiver needs of its instance's order: blocks that 24 bits name, and of a block that is closed as many symbols as it lacks.
use Rattle.std.proofs.Common.{◌≡◌, ℕ, zero, suc, ◌+◌, ◌-◌, ◌*◌, ◌/◌, ◌<◌, ◌≤◌, cond, List, [], ◌∷◌, ◌++◌, length, Bool, true, false, Option, None, Some, refl, sym, ap, ◌∙◌, subst, append_assoc, arith, ◌⊎◌, inl, inr}
use Rattle.std.specs.Prelude.{map, filter, find, max, min, not, is_none, slice_get, nat_lt, nat_le, ◌==◌, ◌&&◌, IsSomeAnd, ⊤}
use Rattle.std.specs.List.{AllByRecursion, range_with_len}
use Rattle.std.proofs.lemmas.Bool.Decides.{Decides-eqb, Decides-ltb, leb_tells}
use Rattle.std.proofs.lemmas.List.{append-nil, length-map}
use Rattle.std.proofs.Math.Nat.{mul-le-mul_right, add-mul}
use Rattle.norm_base.specs.Settings.{Settings, InRange}
use Rattle.norm_base.specs.declared.kinds.Kind.{Kind}
use Rattle.fec_plan.specs.Partition.{Cut, cut_of, stream_cut, source_symbols, blocks, symbols_in, blocks_in, block_size, symbols_before}
use Rattle.fec_plan.specs.Points.{Point, point, position, point_of, same_point}
use Rattle.fec_plan.specs.declared.position.Position.{Position}
use Rattle.norm_order.specs.Entries.{Part, Object, Whole, Stream, Entry}
use Rattle.norm_order.specs.Segments.{closed_from}
use Rattle.norm_order.specs.Sets.{with_member, with_members}
use Rattle.norm_order.specs.Shapes.{shape_of, shapes_of, closed_in, is_full, is_source, encoded_in}
use Rattle.norm_order.proofs.UptoLemmas.{source_entry}
use Rattle.norm_receive_rules.specs.AllNeeds.{planned_needs, needs_of, needs_from, needs, last_known}
use Rattle.norm_receive_rules.specs.BlockValue.{ids_of}
use Rattle.norm_receive_rules.specs.Holding.{Holding, Plan, Held}
use Rattle.norm_receive_rules.specs.Lazy.{Lazy, Nil, Next, followed_by, lazily, all_of}
use Rattle.norm_receive_rules.specs.Needs.{Need, Object as Unknown, ObjectInfo, Symbols, Source, Rest, is_covered, info_needs, blocks_before, blocks_due, counts_from, object_needs, unknown_needs}
use Rattle.norm_receive_rules.specs.Plans.{cut_of_plan, says_stream, has_its_info, holds, lacking, is_done, first_block, plan_of}
use Rattle.norm_receive_rules.specs.ReceiverState.{ReceiverState}
use Rattle.norm_receive_rules.specs.StreamNeeds.{last_block, flush_in, stream_due, earlier_needs, missing_symbols, flush_symbols, is_end, end_in, end_among, end_of, end_symbols, last_symbols, is_behind, open_block, rest_needs, stream_end_needs, stream_needs}
use Rattle.norm_send_rules.specs.Messages.{fti_of_object, object_flags}
use Rattle.norm_send_rules.proofs.CutNames.{CutRange, cut_range, is_sound}
use Rattle.norm_safety.specs.RepairSuffices.{ids_in}
use Rattle.norm_safety.proofs.BlockLemmas.{Climbing}
use Rattle.norm_safety.proofs.ClosedLemmas.{split_at}
use Rattle.norm_safety.proofs.EntryLemmas.{clash}
use Rattle.norm_safety.proofs.HeldLemmas.{Rising, is_in, climbs, few_sources}
use Rattle.norm_safety.proofs.Holding.{IsPlanOf, IsSymbolOf, flags_say, stream_says, found_plan, some_and}
use Rattle.norm_safety.proofs.PieceLemmas.{number_low}
use Rattle.norm_safety.proofs.SizedOrders.{IsSized, AreSized}
use Rattle.norm_safety.proofs.Spoken.{sized_at}
use Rattle.norm_safety.proofs.SymbolLater.{is_encoded_of}
use Rattle.norm_safety.proofs.PleaDefs.{Lacks}
use Rattle.norm_safety.proofs.SeenPasses.{IsSeen, PlanSeen, FlushSeen, SeenIn}

-- ---- needs

-- what is so of a need
abbrev pub IsNeedOf : Settings → List Entry → ReceiverState → Need → Type 0
IsNeedOf p order r (Unknown index) = ⊤
IsNeedOf p order r (ObjectInfo index) = ⊤
IsNeedOf p order r (Symbols index block wanted) = (block < 16777216) × (wanted < 256) × Lacks p order r (point index block) wanted
IsNeedOf p order r (Source at) = (at.block < 16777216) × (at.symbol < 256)
IsNeedOf p order r (Rest index block) = block < 16777216

-- of each that is needed
abbrev pub Each : (Need → Type 0) → Lazy Need → Type 0
Each P Nil = ⊤
Each P (Next need rest) = P need × Each P (rest tt)

each_followed : (P : Need → Type 0) (needs : Lazy Need) (more : ⊤ → Lazy Need) → Each P needs → Each P (more tt) → Each P (followed_by needs more)
unfolding followed_by
each_followed P Nil more h g = g
each_followed P (Next need rest) more h g = (h.0, each_followed P (rest tt) more h.1 g)

each_lazily : (P : Need → Type 0) (needs : List Need) → AllByRecursion P needs → Each P (lazily needs)
unfolding lazily
each_lazily P [] all = tt
each_lazily P (need ∷ needs) all = (all.0, each_lazily P needs all.1)

pub each_all : (P : Need → Type 0) (needs : Lazy Need) → Each P needs → AllByRecursion P (all_of needs)
unfolding all_of
each_all P Nil h = tt
each_all P (Next need rest) h = (h.0, each_all P (rest tt) h.1)

-- ---- the ids of a block that is held

behind_all : (set : List ℕ) (x : ℕ) → AllByRecursion (λ y. y < x) set → with_member nat_lt x set ≡ set ++ x ∷ []
unfolding with_member
behind_all [] x all = refl
behind_all (y ∷ set) x all = go (nat_lt x y) refl (nat_lt y x) refl (behind_all set x all.1)
  where
    go : (b : Bool) → nat_lt x y ≡ b → (c : Bool) → nat_lt y x ≡ c → with_member nat_lt x set ≡ set ++ x ∷ [] → (elim b [
      | true ↦ x ∷ y ∷ set
      | false ↦ elim c [ true ↦ y ∷ with_member nat_lt x set | false ↦ y ∷ set ]
    ]) ≡ y ∷ (set ++ x ∷ [])
    go true e c f more = absurd (let lt = (Decides-ltb x y).0 e in let less = all.0 in omega (arith, lt, less))
    go false e true f more = ap (λ (xs : List ℕ). y ∷ xs) more
    go false e false f more = absurd (clash (sym f ∙ (Decides-ltb y x).1 all.0))

all_end : (x n : ℕ) (set : List ℕ) → x < n → AllByRecursion (λ y. y < n) set → AllByRecursion (λ y. y < n) (set ++ x ∷ [])
all_end x n [] lt all = (lt, tt)
all_end x n (y ∷ set) lt all = (all.0, all_end x n set lt all.1)

-- ids that climb, each above all of a set, join it at its end
climbing_join : (ids set : List ℕ) → Climbing ids → AllByRecursion (λ x. AllByRecursion (λ y. y < x) set) ids → with_members nat_lt ids set ≡ set ++ ids
climbing_join [] set up above = sym (append-nil set)
climbing_join (x ∷ ids) set up above =
    ap (with_members nat_lt ids) (behind_all set x above.0)
    ∙ climbing_join ids (set ++ x ∷ []) up.1 (more ids up.0 above.1)
    ∙ append_assoc set (x ∷ []) ids
  where
    more : (ys : List ℕ) → AllByRecursion (λ y. x < y) ys → AllByRecursion (λ n. AllByRecursion (λ y. y < n) set) ys
        → AllByRecursion (λ n. AllByRecursion (λ y. y < n) (set ++ x ∷ [])) ys
    more [] lts above = tt
    more (y ∷ ys) lts above = (all_end x y set lts.0 above.0, more ys lts.1 above.1)

all_above : (ids : List ℕ) → AllByRecursion (λ x. AllByRecursion (λ y. y < x) []) ids
all_above [] = tt
all_above (x ∷ ids) = (tt, all_above ids)

-- the ids of a block among what is held are those of its symbols
ids_held : (index block : ℕ) (held : List Held) → map (λ (at : Position). at.symbol) (filter (λ at. same_point (point_of at) (point index block)) (map (λ (h : Held). h.at) held))
    ≡ ids_of (filter (is_in index block) held)
ids_held index block [] = refl
ids_held index block (h ∷ held) = go (is_in index block h) (ids_held index block held)
  where
    symbols : List Position → List ℕ
    symbols places = map (λ (at : Position). at.symbol) places

    go : (b : Bool) → symbols (filter (λ at. same_point (point_of at) (point index block)) (map (λ (h : Held). h.at) held)) ≡ ids_of (filter (is_in index block) held)
        → symbols (cond b (h.at ∷ filter (λ at. same_point (point_of at) (point index block)) (map (λ (h : Held). h.at) held)) (filter (λ at. same_point (point_of at) (point index block)) (map (λ (h : Held). h.at) held)))
        ≡ ids_of (cond b (h ∷ filter (is_in index block) held) (filter (is_in index block) held))
    go true e = ap (λ (xs : List ℕ). h.at.symbol ∷ xs) e
    go false e = e

many_ids : (index block : ℕ) (held : List Held) → Rising held
    → length (ids_in (point index block) (map (λ (h : Held). h.at) held)) ≡ length (filter (is_in index block) held)
many_ids index block held up =
    ap (λ (xs : List ℕ). length (with_members nat_lt xs [])) (ids_held index block held)
    ∙ ap (λ (xs : List ℕ). length xs) (climbing_join (ids_of (filter (is_in index block) held)) [] (climbs index block held up) (all_above (ids_of (filter (is_in index block) held))))
    ∙ length-map (filter (is_in index block) held) (λ (h : Held). h.at.symbol)

-- ---- an object with a plan

-- what is known of a plan's object
pub record PlanOf (p : Settings) (order : List Entry) (s : Holding) (plan : Plan) : Type 0 where
  pub entry : Entry
  pub found : slice_get order plan.index ≡ Some entry
  pub sized : IsSized p entry.object
  pub cut : cut_of_plan plan ≡ (shape_of p entry.object).cut
  pub flags : 4 * (plan.flags / 4) ≡ object_flags entry.object
  pub seen : IsSeen p entry.object plan.seen

plan_is : (p : Settings) (order : List Entry) (s : Holding) (index : ℕ) (plan : Plan) → AreSized p order → AllByRecursion (IsPlanOf p order) s.plans
    → AllByRecursion (PlanSeen p order) s.plans → plan_of s index ≡ Some plan → PlanOf p order s plan
plan_is p order s index plan sized plans seen e =
    let found = found_plan (IsPlanOf p order) s.plans index plan plans e in
    let entry = some_and _ (slice_get order plan.index) found.0 in
    let also = (found_plan (PlanSeen p order) s.plans index plan seen e).0 in
    let S : Option Entry → Type 0 = λ o. IsSomeAnd o (λ (x : Entry). IsSeen p x.object plan.seen) in
    record {
      entry = entry.0;
      found = entry.1;
      sized = sized_at p order plan.index entry.0 sized entry.1;
      cut = by_object entry.0.object entry.2.0 entry.2.1;
      flags = entry.2.1;
      seen = subst S entry.1 also;
    }
  where
    by_object : (o : Object) → plan.fti ≡ fti_of_object p o → 4 * (plan.flags / 4) ≡ object_flags o → cut_of_plan plan ≡ (shape_of p o).cut
    by_object (Whole kind info octets) fti flags =
        ap (λ (b : Bool). elim b [ true ↦ stream_cut plan.fti.e plan.fti.b plan.fti.max_n | false ↦ cut_of plan.fti.l plan.fti.e plan.fti.b plan.fti.max_n ]) (flags_say plan.flags kind info octets flags).stream
        ∙ ap (λ f. cut_of f.l f.e f.b f.max_n) fti
    by_object (Stream parts) fti flags =
        ap (λ (b : Bool). elim b [ true ↦ stream_cut plan.fti.e plan.fti.b plan.fti.max_n | false ↦ cut_of plan.fti.l plan.fti.e plan.fti.b plan.fti.max_n ]) (stream_says plan.flags parts flags)
        ∙ ap (λ f. stream_cut f.e f.b f.max_n) fti

-- a block of an entry is closed, of no more than 255 source symbols, and one that 24 bits name
record BlockIs (p : Settings) (o : Object) (block : ℕ) : Type 0 where
  low : block < 16777216
  full : 0 < source_symbols (shape_of p o).cut block → is_full (shape_of p o) block ≡ true
  few : source_symbols (shape_of p o).cut block ≤ 255

object_block : (p : Settings) → CutRange p → (octets : List ℕ) (info : Option (List ℕ)) (kind : Kind) → 0 < length octets → length octets ≤ p.octets → (block : ℕ)
    → block < blocks (cut_of (length octets) p.e p.b p.max_n) → BlockIs p (Whole kind info octets) block
object_block p range octets info kind some most block lt =
    let cut : Cut = cut_of (length octets) p.e p.b p.max_n in
    let t : ℕ = symbols_in (length octets) p.e in
    let n : ℕ = blocks_in t p.b in
    let sound = (is_sound p range (length octets) some most).few in
    record {
      low = omega (arith, lt, sound);
      full = λ has. (
          let k : ℕ = block_size t n block in
          let number = number_low t n block (k - 1) lt (let z : k - 1 < k = omega (arith, has) in z) in
          let all : min k (t - (symbols_before t n block + 0)) ≡ k = omega (arith, number, has) in
          (Decides-eqb (min k (t - (symbols_before t n block + 0))) k).1 all
          );
      few = few_sources p range (length octets) block some most;
    }

-- a block of a stream that has a closed segment
low_block : (p : Settings) (parts : List Part) → IsSized p (Stream parts) → (block : ℕ) → block * p.b < length (closed_from p.e [] parts) → block < 16777216
low_block p parts sized block lt = go (split_at 16777216 block)
  where
    go : (block < 16777216) ⊎ (16777216 ≤ block) → block < 16777216
    go (inl low) = low
    go (inr le) =
        let more : 16777216 * p.b ≤ block * p.b = mul-le-mul_right p.b le in
        let used = sized.0 in
        absurd (omega (arith, more, used, lt))

stream_block : (p : Settings) → CutRange p → (parts : List Part) → IsSized p (Stream parts) → (block : ℕ) → block * p.b + p.b ≤ length (closed_from p.e [] parts)
    → BlockIs p (Stream parts) block
stream_block p range parts sized block all =
    let few = range.most_b in
    let some = range.least_b in
    record {
      low = low_block p parts sized block (omega (arith, all, some));
      full = λ has. (
          let is : min p.b (length (closed_from p.e [] parts) - (block * p.b + 0)) ≡ p.b = omega (arith, all) in
          (Decides-eqb (min p.b (length (closed_from p.e [] parts) - (block * p.b + 0))) p.b).1 is
          );
      few = omega (arith, few);
    }

-- the counts of blocks that are closed
each_count : (p : Settings) (order : List Entry) (r : ReceiverState) (plan : Plan) (is : PlanOf p order r.holding plan) (n block : ℕ) → Rising r.holding.held
    → ((k : ℕ) → block ≤ k → k < block + n → BlockIs p is.entry.object k) → Each (IsNeedOf p order r) (counts_from r.holding plan n block)
unfolding counts_from
each_count p order r plan is zero block up all = tt
each_count p order r plan is (suc n) block up all =
    go (lacking r.holding plan block) refl (each_count p order r plan is n (suc block) up (λ k le lt. all k (omega (arith, le)) (omega (arith, lt))))
  where
    here : BlockIs p is.entry.object block
    here = all block (omega arith) (omega arith)

    same : source_symbols (cut_of_plan plan) block ≡ source_symbols (shape_of p is.entry.object).cut block
    same = ap (λ c. source_symbols c block) is.cut

    one : (less : ℕ) → lacking r.holding plan block ≡ suc less → IsNeedOf p order r (Symbols plan.index block (suc less))
    one less e =
        let many = many_ids plan.index block r.holding.held up in
        let few = here.few in
        let some : 0 < source_symbols (shape_of p is.entry.object).cut block = omega (arith, e, same) in (
          here.low,
          omega (arith, e, same, few),
          record {
            entry = is.entry;
            found = is.found;
            full = here.full some;
            some = some;
            enough = omega (arith, e, same, many);
          },
        )

    go : (lack : ℕ) → lacking r.holding plan block ≡ lack → Each (IsNeedOf p order r) (counts_from r.holding plan n (suc block)) → Each (IsNeedOf p order r) (elim lack [
      | zero ↦ counts_from r.holding plan n (suc block)
      | suc less ↦ Next (Symbols plan.index block (suc less)) (λ u. counts_from r.holding plan n (suc block))
    ])
    go zero e more = more
    go (suc less) e more = (one less e, more)

-- ---- data and files

few_due : (own all index count : ℕ) → blocks_before own all index count ≤ all
few_due own all index count = go (nat_lt own index) (own == index)
  where
    go : (a b : Bool) → elim a [ true ↦ all | false ↦ elim b [ true ↦ min count all | false ↦ 0 ] ] ≤ all
    go true b = omega arith
    go false true = omega arith
    go false false = omega arith

due_few : (farthest : Option Point) (flush : Option Position) (index all : ℕ) → blocks_due farthest flush index all ≤ all
due_few farthest flush index all = both (far farthest) (near flush)
  where
    far : (o : Option Point) → elim o [ Some at ↦ blocks_before index all at.index at.block | None ↦ 0 ] ≤ all
    far None = omega arith
    far (Some at) = few_due index all at.index at.block

    near : (o : Option Position) → elim o [ Some at ↦ blocks_before index all at.index (at.block + 1) | None ↦ 0 ] ≤ all
    near None = omega arith
    near (Some at) = few_due index all at.index (at.block + 1)

    both : {a b : ℕ} → a ≤ all → b ≤ all → max a b ≤ all
    both h g = omega (arith, h, g)

-- ---- streams

-- positions that a message can name
abbrev AreNamed : List Position → Type 0
AreNamed places = AllByRecursion (λ (at : Position). (at.block < 16777216) × (at.symbol < 256)) places

named_filter : (test : Position → Bool) (places : List Position) → AreNamed places → AreNamed (filter test places)
named_filter test [] all = tt
named_filter test (at ∷ places) all = go (test at) (named_filter test places all.1)
  where
    go : (b : Bool) → AreNamed (filter test places) → AreNamed (cond b (at ∷ filter test places) (filter test places))
    go true more = (all.0, more)
    go false more = more

named_range : (index block first n : ℕ) → block < 16777216 → (0 < n → first + n ≤ 256) → AreNamed (map (λ symbol. position index block symbol) (range_with_len first n))
named_range index block first zero low most = tt
named_range index block first (suc n) low most =
    let le = most (omega arith) in
    ((low, omega (arith, le)), named_range index block (first + 1) n low (λ some. omega (arith, le)))

named_missing : (s : Holding) (plan : Plan) (block first behind : ℕ) → block < 16777216 → behind ≤ 256 → AreNamed (missing_symbols s plan block first behind)
named_missing s plan block first behind low most = go (is_done s plan block)
  where
    go : (b : Bool) → AreNamed (elim b [
      | true ↦ []
      | false ↦ filter (λ at. not (holds s at)) (map (λ symbol. position plan.index block symbol) (range_with_len first (behind - first)))
    ])
    go true = tt
    go false = named_filter (λ at. not (holds s at)) _ (named_range plan.index block first (behind - first) low (λ some. omega (arith, most, some)))

named_append : (xs ys : List Position) → AreNamed xs → AreNamed ys → AreNamed (xs ++ ys)
named_append [] ys h g = g
named_append (x ∷ xs) ys h g = (h.0, named_append xs ys h.1 g)

each_source : (p : Settings) (order : List Entry) (r : ReceiverState) (places : List Position) → AreNamed places → AllByRecursion (IsNeedOf p order r) (map Source places)
each_source p order r [] all = tt
each_source p order r (at ∷ places) all = (all.0, each_source p order r places all.1)

both_all : (P : Need → Type 0) (xs ys : List Need) → AllByRecursion P xs → AllByRecursion P ys → AllByRecursion P (xs ++ ys)
both_all P [] ys h g = g
both_all P (x ∷ xs) ys h g = (h.0, both_all P xs ys h.1 g)

-- an end that is found stands in the block of a symbol that is held
abbrev EndIs : ℕ → ℕ → Option Position → Type 0
EndIs block k None = ⊤
EndIs block k (Some at) = (at.block ≡ block) × (at.symbol < k)

end_found : (test : Position → Bool) (index block first n k : ℕ) → first + n ≤ k → EndIs block k (find test (map (λ symbol. position index block symbol) (range_with_len first n)))
end_found test index block first zero k le = tt
end_found test index block first (suc n) k le = go (test (position index block first)) (end_found test index block (first + 1) n k (omega (arith, le)))
  where
    go : (b : Bool) → EndIs block k (find test (map (λ symbol. position index block symbol) (range_with_len (first + 1) n)))
        → EndIs block k (cond b (Some (position index block first)) (find test (map (λ symbol. position index block symbol) (range_with_len (first + 1) n))))
    go true more = (refl, omega (arith, le))
    go false more = more

-- a position of these
abbrev LowEnd : Option Position → Type 0
LowEnd None = ⊤
LowEnd (Some at) = (at.block < 16777216) × (at.symbol ≤ 256)

end_low : (p : Settings) (s : Holding) (plan : Plan) (held : List Held) → source_symbols (cut_of_plan plan) 0 ≤ 255
    → ((block : ℕ) → source_symbols (cut_of_plan plan) block ≤ 255) → AllByRecursion (λ (h : Held). h.at.block < 16777216) held → LowEnd (end_among p s plan held)
unfolding end_among
end_low p s plan [] few each all = tt
end_low p s plan (h ∷ held) few each all =
    go (end_in p s plan h.at.block) (end_found (is_end p s plan) plan.index h.at.block 0 (source_symbols (cut_of_plan plan) h.at.block) (source_symbols (cut_of_plan plan) h.at.block) (omega arith))
    (end_low p s plan held few each all.1)
  where
    go : (found : Option Position) → EndIs h.at.block (source_symbols (cut_of_plan plan) h.at.block) found → LowEnd (end_among p s plan held)
        → LowEnd (elim found [ Some at ↦ Some at | None ↦ end_among p s plan held ])
    go None is more = more
    go (Some at) is more =
        let low = all.0 in
        let same = is.0 in
        let lt = is.1 in
        let most = each h.at.block in
        (omega (arith, low, same), omega (arith, lt, most))

-- the symbols of a stream among what is held lie in blocks that 24 bits name
held_low : (p : Settings) → CutRange p → (order : List Entry) (index first : ℕ) (x : Entry) (parts : List Part) → slice_get order index ≡ Some x → x.object ≡ Stream parts
    → IsSized p (Stream parts) → (held : List Held) → AllByRecursion (IsSymbolOf p order) held
    → AllByRecursion (λ (h : Held). h.at.block < 16777216) (filter (λ (h : Held). h.at.index == index && nat_le first h.at.block) held)
held_low p range order index first x parts found is sized [] all = tt
held_low p range order index first x parts found is sized (h ∷ held) all =
    go (h.at.index == index) refl (nat_le first h.at.block) (held_low p range order index first x parts found is sized held all.1)
  where
    Rest : List Held
    Rest = filter (λ (h : Held). h.at.index == index && nat_le first h.at.block) held

    one : (a b : Entry) → Some a ≡ Some b → a ≡ b
    one a b e = cc

    low : h.at.index ≡ index → h.at.block < 16777216
    low same =
        let own = some_and _ (slice_get order h.at.index) all.0 in
        let entry : own.0 ≡ x = one own.0 x (sym own.1 ∙ ap (slice_get order) same ∙ found) in
        let E : Object → Type 0 = λ o. nat_lt h.at.symbol (encoded_in (shape_of p o) h.at.block) ≡ true in
        let encoded = is_encoded_of p range parts h.at.block h.at.symbol (subst E (ap (λ (y : Entry). y.object) entry ∙ is) own.2.0) in
        low_block p parts sized h.at.block (begun encoded.source encoded.full (split_at p.b h.at.symbol))
      where
        begun : (h.at.symbol < p.b → h.at.block * p.b + h.at.symbol < length (closed_from p.e [] parts))
            → (p.b ≤ h.at.symbol → h.at.block * p.b + p.b ≤ length (closed_from p.e [] parts))
            → (h.at.symbol < p.b) ⊎ (p.b ≤ h.at.symbol) → h.at.block * p.b < length (closed_from p.e [] parts)
        begun source full (inl lt) = let at = source lt in omega (arith, at)
        begun source full (inr le) = let at = full le in let some = range.least_b in omega (arith, at, some)

    go : (a : Bool) → (h.at.index == index) ≡ a → (b : Bool) → AllByRecursion (λ (h : Held). h.at.block < 16777216) Rest
        → AllByRecursion (λ (h : Held). h.at.block < 16777216) (cond (a && b) (h ∷ Rest) Rest)
    go true e true more = (low ((Decides-eqb h.at.index index).0 e), more)
    go true e false more = more
    go false e b more = more

-- what is needed of a stream
each_stream : (p : Settings) → InRange p → (order : List Entry) (r : ReceiverState) (plan : Plan) (is : PlanOf p order r.holding plan) (parts : List Part)
    → is.entry.object ≡ Stream parts → Rising r.holding.held → AllByRecursion (IsSymbolOf p order) r.holding.held → (farthest : Option Point) (flush : Option Position)
    → FlushSeen p order flush → Each (IsNeedOf p order r) (stream_needs p farthest flush r.holding plan)
each_stream p range order r plan is parts object up symbols farthest flush flushed =
    each_followed (IsNeedOf p order r) (earlier_needs flush r.holding plan) (λ u. lazily (stream_end_needs p farthest flush r.holding plan)) counts
    (each_lazily (IsNeedOf p order r) (stream_end_needs p farthest flush r.holding plan)
    (both_all (IsNeedOf p order r) (map Source (last_symbols (is_covered farthest flush plan.index) flush r.holding plan end))
    (rest_needs (is_behind farthest flush plan.index) r.holding plan end)
    (each_source p order r (last_symbols (is_covered farthest flush plan.index) flush r.holding plan end)
    (named_append (flush_symbols flush r.holding plan) (end_symbols (is_covered farthest flush plan.index) flush r.holding plan end)
    (flush_named (flush_in flush plan.index) within) (end_named (is_covered farthest flush plan.index) end end_is)))
    (rest (is_none end && is_behind farthest flush plan.index && nat_le (open_block r.holding plan) last_block) (open_low end))))
  where
    range_is : CutRange p
    range_is = cut_range p range

    sized : IsSized p (Stream parts)
    sized = let Z : Object → Type 0 = λ o. IsSized p o in subst Z object is.sized

    end : Option Position
    end = end_of p r.holding plan

    -- every block has b source symbols
    b_of : (block : ℕ) → source_symbols (cut_of_plan plan) block ≡ p.b
    b_of block = ap (λ c. source_symbols c block) (is.cut ∙ ap (λ (o : Object). (shape_of p o).cut) object)

    few_b : (block : ℕ) → source_symbols (cut_of_plan plan) block ≤ 255
    few_b block = let same = b_of block in let most = range_is.most_b in omega (arith, same, most)

    -- the flush position within the stream
    Within : Option Position → Type 0
    Within None = ⊤
    Within (Some at) = at.block * p.b < length (closed_from p.e [] parts)

    within : Within (flush_in flush plan.index)
    within = go flush flushed
      where
        one : (a b : Entry) → Some a ≡ Some b → a ≡ b
        one a b e = cc

        here : (at : Position) → is_source (shapes_of p order) at ≡ true → at.index ≡ plan.index → at.block * p.b < length (closed_from p.e [] parts)
        here at source same =
            let found = source_entry p order at.index (λ shape. nat_lt at.symbol (closed_in shape at.block)) source in
            let entry : found.0 ≡ is.entry = one found.0 is.entry (sym found.1.0 ∙ ap (slice_get order) same ∙ is.found) in
            let C : Object → Type 0 = λ o. nat_lt at.symbol (closed_in (shape_of p o) at.block) ≡ true in
            let lt = (Decides-ltb at.symbol (closed_in (shape_of p (Stream parts)) at.block)).0 (subst C (ap (λ (y : Entry). y.object) entry ∙ object) found.1.1) in
            omega (arith, lt)

        at_one : (at : Position) → is_source (shapes_of p order) at ≡ true → (b : Bool) → (at.index == plan.index) ≡ b
            → Within (elim b [ true ↦ Some at | false ↦ None ])
        at_one at source true e = here at source ((Decides-eqb at.index plan.index).0 e)
        at_one at source false e = tt

        go : (o : Option Position) → FlushSeen p order o → Within (flush_in o plan.index)
        go None h = tt
        go (Some at) h = at_one at h (at.index == plan.index) refl

    -- a block before the greatest that was seen, or before the flush's
    due : (k : ℕ) → k < stream_due plan.seen (flush_in flush plan.index) → BlockIs p (Stream parts) k
    due k lt = go (split_at plan.seen k) seen_is (flush_in flush plan.index) within lt
      where
        seen_is : IsSeen p (Stream parts) plan.seen
        seen_is = let S : Object → Type 0 = λ o. IsSeen p o plan.seen in subst S object is.seen

        below : (n : ℕ) → k < n → n * p.b < length (closed_from p.e [] parts) → BlockIs p (Stream parts) k
        below n less closed =
            let up_to : (k + 1) * p.b ≤ n * p.b = mul-le-mul_right p.b (let z : k + 1 ≤ n = omega (arith, less) in z) in
            let next : (k + 1) * p.b ≡ k * p.b + 1 * p.b = add-mul k 1 p.b in
            stream_block p range_is parts sized k (omega (arith, up_to, next, closed))

        go : (k < plan.seen) ⊎ (plan.seen ≤ k) → IsSeen p (Stream parts) plan.seen → (o : Option Position) → Within o → k < stream_due plan.seen o → BlockIs p (Stream parts) k
        go (inl less) (inl none) o h lt = absurd (omega (arith, less, none))
        go (inl less) (inr closed) o h lt = below plan.seen less closed
        go (inr le) seen None h lt = absurd (omega (arith, le, lt))
        go (inr le) seen (Some at) h lt = below at.block (omega (arith, le, lt)) h

    first : ℕ
    first = first_block r.holding plan.index

    counts : Each (IsNeedOf p order r) (earlier_needs flush r.holding plan)
    counts =
        let B : Object → ℕ → Type 0 = λ o k. BlockIs p o k in
        each_count p order r plan is (stream_due plan.seen (flush_in flush plan.index) - first) first up
        (λ k le lt. (
        let O : Object → Type 0 = λ o. BlockIs p o k in
        subst O (sym object) (due k (omega (arith, le, lt)))
        ))

    flush_named : (o : Option Position) → Within o → AreNamed (elim o [
      | Some at ↦ missing_symbols r.holding plan at.block 0 (min (at.symbol + 1) (source_symbols (cut_of_plan plan) at.block))
      | None ↦ []
    ])
    flush_named None h = tt
    flush_named (Some at) h =
        let few = few_b at.block in
        named_missing r.holding plan at.block 0 _ (low_block p parts sized at.block h) (omega (arith, few))

    end_is : LowEnd end
    end_is = end_low p r.holding plan _ (few_b 0) few_b (held_low p range_is order plan.index first is.entry parts is.found object sized r.holding.held symbols)

    end_named : (covered : Bool) (o : Option Position) → LowEnd o → AreNamed (end_symbols covered flush r.holding plan o)
    end_named true None h = tt
    end_named true (Some at) h = named_missing r.holding plan at.block _ at.symbol h.0 h.1
    end_named false o h = tt

    open_low : (o : Option Position) → (is_none o && is_behind farthest flush plan.index && nat_le (open_block r.holding plan) last_block) ≡ true → open_block r.holding plan < 16777216
    open_low o e = by (leb_tells (open_block r.holding plan) last_block)
      where
        second : (a b : Bool) → (a && b) ≡ true → b ≡ true
        second true b e = e
        second false b e = absurd (clash e)

        by : ((nat_le (open_block r.holding plan) last_block ≡ true) × (open_block r.holding plan ≤ last_block)) ⊎ ((nat_le (open_block r.holding plan) last_block ≡ false) × (last_block < open_block r.holding plan))
            → open_block r.holding plan < 16777216
        by (inl tells) = let le = tells.1 in omega (arith, le)
        by (inr tells) = absurd (clash (sym tells.0 ∙ second (is_none o && is_behind farthest flush plan.index) (nat_le (open_block r.holding plan) last_block) e))

    rest : (b : Bool) → (b ≡ true → open_block r.holding plan < 16777216) → AllByRecursion (IsNeedOf p order r) (elim b [ true ↦ Rest plan.index (open_block r.holding plan) ∷ [] | false ↦ [] ])
    rest true h = (h refl, tt)
    rest false h = tt

-- ---- all objects

each_planned : (p : Settings) → InRange p → (order : List Entry) (r : ReceiverState) (plan : Plan) (is : PlanOf p order r.holding plan) → Rising r.holding.held
    → AllByRecursion (IsSymbolOf p order) r.holding.held → (farthest : Option Point) (flush : Option Position) → FlushSeen p order flush
    → Each (IsNeedOf p order r) (planned_needs p farthest flush r.holding plan)
each_planned p range order r plan is up symbols farthest flush flushed =
    each_followed (IsNeedOf p order r) (lazily (info_needs r.holding plan (is_covered farthest flush plan.index)))
    (λ u. elim (says_stream plan.flags) [ true ↦ stream_needs p farthest flush r.holding plan | false ↦ object_needs farthest flush r.holding plan ])
    (each_lazily (IsNeedOf p order r) (info_needs r.holding plan (is_covered farthest flush plan.index)) (infos (is_covered farthest flush plan.index && not (has_its_info r.holding plan))))
    (by_object is.entry.object refl)
  where
    infos : (b : Bool) → AllByRecursion (IsNeedOf p order r) (elim b [ true ↦ ObjectInfo plan.index ∷ [] | false ↦ [] ])
    infos true = (tt, tt)
    infos false = tt

    kind : Bool → Lazy Need
    kind b = elim b [ true ↦ stream_needs p farthest flush r.holding plan | false ↦ object_needs farthest flush r.holding plan ]

    by_object : (o : Object) → is.entry.object ≡ o → Each (IsNeedOf p order r) (kind (says_stream plan.flags))
    by_object (Whole k info octets) object =
        let Z : Object → Type 0 = λ o. IsSized p o in
        let sized = subst Z object is.sized in
        let says : says_stream plan.flags ≡ false = (flags_say plan.flags k info octets (is.flags ∙ ap object_flags object)).stream in
        let E : Bool → Type 0 = λ b. Each (IsNeedOf p order r) (kind b) in
        let cut : cut_of_plan plan ≡ cut_of (length octets) p.e p.b p.max_n = is.cut ∙ ap (λ (o : Object). (shape_of p o).cut) object in
        let few = due_few farthest flush plan.index (blocks (cut_of_plan plan)) in
        let count : blocks (cut_of_plan plan) ≡ blocks (cut_of (length octets) p.e p.b p.max_n) = ap (λ c. blocks c) cut in
        subst E (sym says) (each_count p order r plan is (blocks_due farthest flush plan.index (blocks (cut_of_plan plan))) 0 up
        (λ n le lt. (
        let O : Object → Type 0 = λ o. BlockIs p o n in
        subst O (sym object) (object_block p (cut_range p range) octets info k sized.0 sized.1 n (omega (arith, few, count, lt)))
        )))
    by_object (Stream parts) object =
        let says : says_stream plan.flags ≡ true = stream_says plan.flags parts (is.flags ∙ ap object_flags object) in
        let E : Bool → Type 0 = λ b. Each (IsNeedOf p order r) (kind b) in
        subst E (sym says) (each_stream p range order r plan is parts object up symbols farthest flush flushed)

-- what a receiver needs, which holds what is of an order, and saw what is of it
pub each_need : (p : Settings) → InRange p → (order : List Entry) (r : ReceiverState) → AreSized p order → AllByRecursion (IsPlanOf p order) r.holding.plans
    → AllByRecursion (IsSymbolOf p order) r.holding.held → Rising r.holding.held → SeenIn p order r → Each (IsNeedOf p order r) (needs p r)
unfolding needs_from
each_need p range order r sized plans symbols up seen =
    from (last_known r.knows.farthest r.knows.flush - r.holding.point.index) r.holding.point.index
  where
    of : (index : ℕ) (found : Option Plan) → plan_of r.holding index ≡ found → Each (IsNeedOf p order r) (elim found [
      | Some plan ↦ planned_needs p r.knows.farthest r.knows.flush r.holding plan
      | None ↦ lazily (unknown_needs index (is_covered r.knows.farthest r.knows.flush index))
    ])
    of index (Some plan) e =
        each_planned p range order r plan (plan_is p order r.holding index plan sized plans seen.plans e) up symbols r.knows.farthest r.knows.flush seen.flush
    of index None e = each_lazily (IsNeedOf p order r) _ (unknown (is_covered r.knows.farthest r.knows.flush index))
      where
        unknown : (b : Bool) → AllByRecursion (IsNeedOf p order r) (elim b [ true ↦ Unknown index ∷ [] | false ↦ [] ])
        unknown true = (tt, tt)
        unknown false = tt

    from : (n index : ℕ) → Each (IsNeedOf p order r) (needs_from n p r.knows.farthest r.knows.flush r.holding index)
    from zero index = tt
    from (suc n) index =
        each_followed (IsNeedOf p order r) (needs_of p r.knows.farthest r.knows.flush r.holding index) (λ u. needs_from n p r.knows.farthest r.knows.flush r.holding (suc index))
        (of index (plan_of r.holding index) refl) (from n (suc index))
