-- An object of which a receiver has all source symbols and the info is handed up, and so is a stream's segment that it has.
use Rattle.std.proofs.Common.{◌≡◌, ℕ, zero, suc, ◌+◌, ◌-◌, ◌*◌, ◌/◌, ◌%◌, ◌<◌, ◌≤◌, List, [], ◌∷◌, length, Bool, true, false, Option, None, Some, refl, sym, ap, ◌∙◌, subst, arith, inl, inr}
use Rattle.std.specs.Prelude.{slice_get, min, nat_lt, is_some, ◌==◌, ◌&&◌, ◌||◌}
use Rattle.std.specs.List.{list_all, range_with_len, AllByRecursion}
use Rattle.std.proofs.lemmas.Bool.Decides.{Decides-eqb, Decides-ltb}
use Rattle.norm_base.specs.Settings.{Settings, InRange}
use Rattle.norm_base.specs.declared.kinds.Kind.{Kind}
use Rattle.fec_plan.specs.Partition.{Cut, IsSound, cut_of, symbols_in, blocks_in, blocks, block_size, symbols_before, source_symbols}
use Rattle.fec_plan.specs.Points.{position, position_before}
use Rattle.fec_plan.proofs.CutLemmas.{some_blocks}
use Rattle.fec_plan.proofs.PartitionLemmas.{block_within, some_sources}
use Rattle.fec_plan.proofs.PositionLemmas.{Before, before_decides}
use Rattle.norm_order.specs.Entries.{Part, Object, Whole, Stream, Entry}
use Rattle.norm_order.specs.Shapes.{shape_of, closed_in}
use Rattle.norm_receive_rules.specs.HandingUp.{after_object, handed, is_whole, object_octets, kind_of, told_info, next_segment, hands_segment, hands_object, hands_next, hands_one}
use Rattle.norm_order.specs.declared.up.Up.TheVariants as up
use Rattle.norm_receive_rules.specs.Holding.{Holding, Plan}
use Rattle.norm_receive_rules.specs.NothingMissing.{IsThere}
use Rattle.norm_receive_rules.specs.Plans.{cut_of_plan, says_stream, says_info, plan_of, held_of, holds, is_done, has_its_info, info_of}
use Rattle.norm_receive_rules.proofs.PassedLemmas.{many_ids, there_value}
use Rattle.norm_send_rules.proofs.CutNames.{cut_range, is_sound}
use Rattle.norm_safety.proofs.Holding.{IsPlanOf, FlagsSay, flags_say, found_plan}
use Rattle.norm_safety.proofs.SizedOrders.{IsSized}
use Rattle.norm_laws.proofs.HeldFits.{plan_is}
use Rattle.norm_laws.proofs.HeldLengths.{PlanIs, says_its, its_cut}
use Rattle.norm_laws.proofs.HeldWords.{HasSymbol, HasInfo}

clash : false ≡ true → ⊥
clash e = cc

same_plan : (x y : Plan) → Some x ≡ Some y → x ≡ y
same_plan x y e = cc

some_none : (h : Holding) → Some h ≡ None → ⊥
some_none h e = cc

-- ---- a block of which each source symbol is there

lacks_none : (k n : ℕ) → k ≤ n → (k - n == 0) ≡ true
lacks_none k n le = (Decides-eqb (k - n) 0).1 (omega (arith, le))

or_false : (a b : Bool) → (a || b) ≡ true → b ≡ false → a ≡ true
or_false true b e f = refl
or_false false b e f = absurd (clash (sym f ∙ e))

-- it is done
pub block_there : (h : Holding) (plan : Plan) (block : ℕ)
    → ((symbol : ℕ) → symbol < source_symbols (cut_of_plan plan) block → (holds h (position plan.index block symbol) || is_done h plan block) ≡ true) → is_done h plan block ≡ true
block_there h plan block each = go (is_done h plan block) refl
  where
    go : (b : Bool) → is_done h plan block ≡ b → is_done h plan block ≡ true
    go true e = e
    go false e =
        let k : ℕ = source_symbols (cut_of_plan plan) block in
        lacks_none k (length (held_of h plan.index block))
        (many_ids k (held_of h plan.index block) (λ symbol lt. or_false (holds h (position plan.index block symbol)) (is_done h plan block) (each symbol lt) e))

-- ---- what is at the hand-up point

-- no symbol of the object at the hand-up point is behind it where the object begins there
not_behind : (h : Holding) (block symbol : ℕ) → h.point.block ≡ 0 → h.point.symbol ≡ 0 → position_before (position h.point.index block symbol) h.point ≡ true → ⊥
not_behind h block symbol b s e = go ((before_decides (position h.point.index block symbol) h.point).0 e)
  where
    go : Before (position h.point.index block symbol) h.point → ⊥
    go (inl (inl lt)) = omega (arith, lt)
    go (inl (inr (same, lt))) = omega (arith, lt, b)
    go (inr (same, lt)) = omega (arith, lt, s)

-- a symbol there is held, or its block is done, by the plan that is known
there_by : (h : Holding) (block symbol : ℕ) (plan : Plan) → h.point.block ≡ 0 → h.point.symbol ≡ 0 → plan_of h h.point.index ≡ Some plan
    → HasSymbol h (position h.point.index block symbol) → (holds h (position h.point.index block symbol) || is_done h plan block) ≡ true
there_by h block symbol plan b s known (inl before) = absurd (not_behind h block symbol b s before)
there_by h block symbol plan b s known (inr (other, found, has)) =
    let D : Plan → Type 0 = λ q. (holds h (position h.point.index block symbol) || is_done h q block) ≡ true in
    subst D (same_plan other plan (sym found ∙ known)) has

all_range : (test : ℕ → Bool) (first n : ℕ) → ((i : ℕ) → first ≤ i → i < first + n → test i ≡ true) → list_all test (range_with_len first n) ≡ true
all_range test first zero each = refl
all_range test first (suc n) each =
    ap (λ (b : Bool). b && list_all test (range_with_len (first + 1) n)) (each first (omega arith) (omega arith))
    ∙ all_range test (first + 1) n (λ i le lt. each i (omega (arith, le)) (omega (arith, lt)))

both : (a b : Bool) → a ≡ true → b ≡ true → (a && b) ≡ true
both true b e f = f
both false b e f = absurd (clash e)

-- the first source symbol of an object is closed, and so is each of its blocks
symbol_closed : (p : Settings) → InRange p → (kind : Kind) (info : Option (List ℕ)) (octets : List ℕ) (block symbol : ℕ) → IsSized p (Whole kind info octets)
    → block < blocks (cut_of (length octets) p.e p.b p.max_n) → symbol < source_symbols (cut_of (length octets) p.e p.b p.max_n) block
    → nat_lt symbol (closed_in (shape_of p (Whole kind info octets)) block) ≡ true
symbol_closed p range kind info octets block symbol sized low lt =
    let t : ℕ = symbols_in (length octets) p.e in
    let n : ℕ = blocks_in t p.b in
    let within = block_within t n block (omega (arith, low)) low in
    (Decides-ltb symbol (closed_in (shape_of p (Whole kind info octets)) block)).1 (inside t n (block_size t n block) within lt)
  where
    inside : (t n size : ℕ) → symbols_before t n block + size ≤ t → symbol < size → symbol < min size (t - (symbols_before t n block + 0))
    inside t n size within lt = omega (arith, within, lt)

-- An object whose source symbols and info are there is handed up.
pub object_goes : (p : Settings) → InRange p → (order : List Entry) (h : Holding) (x : Entry) (kind : Kind) (info : Option (List ℕ)) (octets : List ℕ)
    → AllByRecursion (IsPlanOf p order) h.plans → slice_get order h.point.index ≡ Some x → x.object ≡ Whole kind info octets → IsSized p x.object → h.point.block ≡ 0 → h.point.symbol ≡ 0
    → ((block symbol : ℕ) → nat_lt symbol (closed_in (shape_of p x.object) block) ≡ true → HasSymbol h (position h.point.index block symbol))
    → ((shape_of p x.object).info ≡ true → HasInfo h h.point.index) → hands_one p h ≡ None → ⊥
object_goes p range order h x kind info octets plans found kind_is sized_x b s has has_info stuck = go (has 0 0 (closed 0 0 first_block first_symbol))
  where
    object : Object
    object = Whole kind info octets

    sized : IsSized p (Whole kind info octets)
    sized = let Z : Object → Type 0 = λ o. IsSized p o in subst Z kind_is sized_x

    cut : Cut
    cut = cut_of (length octets) p.e p.b p.max_n

    sound : IsSound (cut_of (length octets) p.e p.b p.max_n)
    sound = is_sound p (cut_range p range) (length octets) sized.0 sized.1

    closed : (block symbol : ℕ) → block < blocks cut → symbol < source_symbols cut block → nat_lt symbol (closed_in (shape_of p x.object) block) ≡ true
    closed block symbol low lt =
        let C : Object → Type 0 = λ o. nat_lt symbol (closed_in (shape_of p o) block) ≡ true in
        subst C (sym kind_is) (symbol_closed p range kind info octets block symbol sized low lt)

    first_block : 0 < blocks cut
    first_block = (let some = sound.some in let least = sound.least_b in some_blocks (symbols_in (length octets) p.e) p.b some (omega (arith, least)))

    first_symbol : 0 < source_symbols cut 0
    first_symbol = (let one = some_sources cut 0 sound in omega (arith, one))

    -- by the plan that is known
    whole : (plan : Plan) → plan_of h h.point.index ≡ Some plan → PlanIs p object plan.fti plan.flags → plan.index ≡ h.point.index → ⊥
    whole plan known is own =
        let flags = flags_say plan.flags kind info octets is.flags in
        let its : cut_of_plan plan ≡ cut = its_cut p object plan.fti plan.flags is in
        some_none after (sym (ap by_plan known ∙ ap by_kind flags.stream ∙ ap by_whole (done flags its)) ∙ stuck)
      where
        after : Holding
        after = handed (up.Object plan.index (kind_of plan.flags) (told_info h plan) (object_octets h plan) ∷ []) (after_object plan.index) h

        by_plan : Option Plan → Option Holding
        by_plan o = elim o [ Some plan ↦ elim (says_stream plan.flags) [ true ↦ hands_next p h plan | false ↦ hands_object h plan ] | None ↦ None ]

        by_kind : Bool → Option Holding
        by_kind b = elim b [ true ↦ hands_next p h plan | false ↦ hands_object h plan ]

        by_whole : Bool → Option Holding
        by_whole b = elim b [ true ↦ Some after | false ↦ None ]

        told : FlagsSay plan.flags kind info → has_its_info h plan ≡ true
        told flags = by (is_some info) refl
          where
            by_info : Bool → Bool
            by_info b = elim b [ true ↦ is_some (info_of h plan.index) | false ↦ true ]

            held : HasInfo h h.point.index → is_some (info_of h plan.index) ≡ true
            held (inl over) = absurd (let lt = (Decides-ltb h.point.index h.point.index).0 over in omega (arith, lt))
            held (inr there) = ap (λ (i : ℕ). is_some (info_of h i)) own ∙ there

            by : (b : Bool) → is_some info ≡ b → has_its_info h plan ≡ true
            by true e =
                let I : Object → Type 0 = λ o. (shape_of p o).info ≡ true in
                ap by_info (flags.infos ∙ e) ∙ held (has_info (subst I (sym kind_is) e))
            by false e = ap by_info (flags.infos ∙ e)

        done : FlagsSay plan.flags kind info → cut_of_plan plan ≡ cut → is_whole h plan ≡ true
        done flags its =
            both (has_its_info h plan) (list_all (is_done h plan) (range_with_len 0 (blocks (cut_of_plan plan)))) (told flags)
            (all_range (is_done h plan) 0 (blocks (cut_of_plan plan)) (λ block le lt. block_there h plan block (λ symbol less. each block symbol lt less)))
          where
            each : (block symbol : ℕ) → block < 0 + blocks (cut_of_plan plan) → symbol < source_symbols (cut_of_plan plan) block
                → (holds h (position plan.index block symbol) || is_done h plan block) ≡ true
            each block symbol lt less =
                let B : Cut → Type 0 = λ c. block < blocks c in
                let S : Cut → Type 0 = λ c. symbol < source_symbols c block in
                let low : block < blocks (cut_of_plan plan) = omega (arith, lt) in
                ap (λ (i : ℕ). holds h (position i block symbol) || is_done h plan block) own
                ∙ there_by h block symbol plan b s known (has block symbol (closed block symbol (subst B its low) (subst S its less)))

    go : HasSymbol h (position h.point.index 0 0) → ⊥
    go (inl before) = not_behind h 0 0 b s before
    go (inr (plan, known, there)) =
        let of = found_plan (IsPlanOf p order) h.plans h.point.index plan plans known in
        let is = plan_is p order x plan of.0 (ap (slice_get order) of.1 ∙ found) in
        let P : Object → Type 0 = λ o. PlanIs p o plan.fti plan.flags in
        whole plan known (subst P kind_is is) of.1

-- A segment of a stream that is there is handed up.
pub stream_goes : (p : Settings) → (order : List Entry) (h : Holding) (x : Entry) (parts : List Part) → AllByRecursion (IsPlanOf p order) h.plans
    → slice_get order h.point.index ≡ Some x → x.object ≡ Stream parts → HasSymbol h h.point → hands_one p h ≡ None → ⊥
stream_goes p order h x parts plans found kind_is has stuck = go has
  where
    itself : Before h.point h.point → ⊥
    itself (inl (inl lt)) = omega (arith, lt)
    itself (inl (inr (same, lt))) = omega (arith, lt)
    itself (inr (same, lt)) = omega (arith, lt)

    by_plan : Option Plan → Option Holding
    by_plan o = elim o [ Some plan ↦ elim (says_stream plan.flags) [ true ↦ hands_next p h plan | false ↦ hands_object h plan ] | None ↦ None ]

    by_kind : Plan → Bool → Option Holding
    by_kind plan b = elim b [ true ↦ hands_next p h plan | false ↦ hands_object h plan ]

    by_info : Plan → Bool → Option Holding
    by_info plan b = elim b [ true ↦ elim (next_segment h plan) [ Some symbol ↦ Some (hands_segment p h plan symbol) | None ↦ None ] | false ↦ None ]

    by_segment : Plan → Option (List ℕ) → Option Holding
    by_segment plan o = elim o [ Some symbol ↦ Some (hands_segment p h plan symbol) | None ↦ None ]

    -- a stream has no info
    no_info : (flags : ℕ) → 4 * (flags / 4) ≡ 32 → says_info flags ≡ false
    no_info flags e = let z : flags / 4 % 2 ≡ 0 = omega (arith, e) in ap (λ (n : ℕ). n == 1) z

    told : (plan : Plan) → says_info plan.flags ≡ false → has_its_info h plan ≡ true
    told plan e = ap (λ (b : Bool). elim b as (λ _. Bool) [ true ↦ is_some (info_of h plan.index) | false ↦ true ]) e

    there : (plan : Plan) → plan.index ≡ h.point.index → (a b : Bool) → holds h h.point ≡ a → is_done h plan h.point.block ≡ b → (a || b) ≡ true
        → IsThere h plan (position plan.index h.point.block h.point.symbol)
    there plan own true b e f g = inr (ap (λ (i : ℕ). holds h (position i h.point.block h.point.symbol)) own ∙ e)
    there plan own false b e f g = inl (f ∙ g)

    go : HasSymbol h h.point → ⊥
    go (inl before) = itself ((before_decides h.point h.point).0 before)
    go (inr (plan, known, has)) =
        let of = found_plan (IsPlanOf p order) h.plans h.point.index plan plans known in
        let its = plan_is p order x plan of.0 (ap (slice_get order) of.1 ∙ found) in
        let P : Object → Type 0 = λ o. PlanIs p o plan.fti plan.flags in
        let is = subst P kind_is its in
        let stream : says_stream plan.flags ≡ true = says_its (Stream parts) plan.flags is.flags in
        let value = there_value h plan h.point.block h.point.symbol stream
        (there plan of.1 (holds h h.point) (is_done h plan h.point.block) refl refl has) in
        some_none (hands_segment p h plan value.0)
        (sym (ap by_plan known ∙ ap (by_kind plan) stream ∙ ap (by_info plan) (told plan (no_info plan.flags is.flags)) ∙ ap (by_segment plan) value.1) ∙ stuck)
