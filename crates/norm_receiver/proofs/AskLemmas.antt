-- What is needed of an object, and of all objects, as a NACK goes through it.
use Rattle.std.proofs.Common.{◌≡◌, ℕ, zero, suc, ◌+◌, ◌-◌, ◌<◌, ◌≤◌, ◌⊎◌, inl, inr, List, [], ◌∷◌, Bool, true, false, not, Option, Some, None, refl, sym, ap, subst, ◌∙◌, arith}
use Rattle.std.specs.Prelude.{◌&&◌, ◌||◌, is_some, IfSome, option_map}
use Rattle.std.proofs.lemmas.Bool.{cases_lt, eqb-true}
use Rattle.norm_base.specs.Settings.{Settings}
use Rattle.fec_plan.specs.Partition.{Cut, blocks, source_symbols}
use Rattle.fec_plan.specs.Points.{Point, point}
use Rattle.fec_plan.specs.declared.position.Position.{Position}
use Rattle.norm_receive_rules.specs.Holding.{Holding, Plan}
use Rattle.norm_receive_rules.specs.Plans.{cut_of_plan, says_stream, says_info, plan_of, lacking, is_done, has_its_info, info_of}
use Rattle.norm_receive_rules.specs.Heard.{Heard}
use Rattle.norm_receive_rules.specs.HeardNeeds.{width_of, is_heard, asks_as_many, blocks_heard, info_heard}
use Rattle.norm_receive_rules.specs.Lazy.{Lazy, Nil, Next, lazily}
use Rattle.norm_receive_rules.specs.Needs.{Need, Object, ObjectInfo, Symbols, is_covered, info_needs, counts_from, unknown_needs}
use Rattle.norm_receive_rules.specs.AllNeeds.{planned_needs, needs_of, needs_from}
use Rattle.norm_receive_rules.specs.StreamNeeds.{last_block}
use Rattle.norm_receive_rules.specs.declared.words.Missing.{Missing}
use Rattle.norm_receive_rules.specs.declared.words.Missing.TheVariants as missing
use Rattle.norm_receive_rules.specs.Short.{IsShortFrom}
use Rattle.rx_hold.specs.Told.{IsFirstShort, flags_at, plan_at, missing_at, missing_by}
use Rattle.norm_receiver.specs.Walking.{Walked, walk_need, walk_where, walk_lacking, walk_on}
use Rattle.norm_receiver.proofs.NeedLemmas.{cut_same, index_of_found, its_info, no_plan, rest_by}
use Rattle.norm_receiver.proofs.WalkLemmas.{walk_both, walk_next, walk_none}

-- ---- where there is a plan

pub for_some : {X : Type 0} {P Q : X → Type 0} (o : Option X) → IfSome o P → ((x : X) → o ≡ Some x → P x → Q x) → IfSome o Q
for_some None h lead = h
for_some (Some x) h lead = lead x refl h

pub of_some : {X : Type 0} (P : X → Type 0) (o : Option X) (x : X) → o ≡ Some x → IfSome o P → P x
of_some {X} P o x is h = subst (λ (t : Option X). IfSome t P) is h

pub with_some : {X : Type 0} {Q : X → Type 0} (o : Option X) → ((x : X) → o ≡ Some x → Q x) → IfSome o Q
with_some None lead = tt
with_some (Some x) lead = lead x refl

-- ---- counts

counts_next : (p : Settings) (s : Holding) (plan : Plan) (n block : ℕ) (v : Walked)
    → walk_on p (counts_from s plan (suc n) block) v ≡ walk_on p (counts_from s plan n (suc block)) (walk_lacking p plan block (lacking s plan block) v)
unfolding counts_from
counts_next p s plan n block v = go (lacking s plan block)
  where
    go : (less : ℕ) → walk_on p (elim less as (λ _. Lazy Need) [
      | zero ↦ counts_from s plan n (suc block)
      | suc k ↦ Next (Symbols plan.index block (suc k)) (λ u. counts_from s plan n (suc block))
    ]) v ≡ walk_on p (counts_from s plan n (suc block)) (walk_lacking p plan block less v)
    go zero = refl
    go (suc k) = walk_next p (Symbols plan.index block (suc k)) (λ u. counts_from s plan n (suc block)) v

pub counts_end : (s : Holding) (plan : Plan) (n block : ℕ) → n ≡ 0 → counts_from s plan n block ≡ Nil
unfolding counts_from
counts_end s plan zero block e = refl
counts_end s plan (suc n) block e = absurd (omega arith)

counts_at : (p : Settings) (s : Holding) (plan : Plan) (m n a b : ℕ) (v : Walked) → m ≡ n → a ≡ b → walk_on p (counts_from s plan m a) v ≡ walk_on p (counts_from s plan n b) v
counts_at p s plan m n a b v e f = ap (λ k. walk_on p (counts_from s plan k a) v) e ∙ ap (λ k. walk_on p (counts_from s plan n k) v) f

-- blocks that are done are passed over
counts_passed : (p : Settings) (s : Holding) (plan : Plan) (k n first : ℕ) (v : Walked) → ((block : ℕ) → first ≤ block → block < first + k → is_done s plan block ≡ true)
    → k ≤ n → walk_on p (counts_from s plan n first) v ≡ walk_on p (counts_from s plan (n - k) (first + k)) v
counts_passed p s plan zero n first v all le = counts_at p s plan n (n - zero) first (first + zero) v (omega arith) (omega arith)
counts_passed p s plan (suc k) zero first v all le = absurd (omega arith)
counts_passed p s plan (suc k) (suc n) first v all le =
    counts_next p s plan n first v
    ∙ ap (λ less. walk_on p (counts_from s plan n (suc first)) (walk_lacking p plan first less v)) (eqb-true (lacking s plan first) 0 (all first (omega arith) (omega arith)))
    ∙ counts_passed p s plan k n (suc first) v (λ block a lt. all block (omega arith) (omega arith)) (omega arith)
    ∙ counts_at p s plan (n - k) (suc n - suc k) (suc first + k) (first + suc k) v (omega arith) (omega arith)

-- what is asked for of the blocks before this one, from a block that lacks symbols on, where there is one
abbrev pub counts_left : Holding → Plan → ℕ → Option ℕ → Lazy Need
counts_left s plan due short = elim short [ Some block ↦ counts_from s plan (due - block) block | None ↦ Nil ]

-- up to the next block that lacks symbols nothing is asked for
counts_skipped : (p : Settings) (s : Holding) (plan : Plan) (due from : ℕ) (next : Option ℕ) (v : Walked) → from ≤ due → due ≤ blocks (cut_of_plan plan) → IsShortFrom s plan from next
    → walk_on p (counts_from s plan (due - from) from) v ≡ walk_on p (counts_left s plan due next) v
counts_skipped p s plan due from None v le most is =
    counts_passed p s plan (due - from) (due - from) from v (λ block a below. is.before block a (omega (arith, most, below, le))) (omega arith)
    ∙ ap (λ l. walk_on p l v) (counts_end s plan (due - from - (due - from)) (from + (due - from)) (omega arith))
counts_skipped p s plan due from (Some next) v le most is = go (cases_lt next due)
  where
    go : (next < due) ⊎ (due ≤ next) → walk_on p (counts_from s plan (due - from) from) v ≡ walk_on p (counts_from s plan (due - next) next) v
    go (inl lt) =
        let up : from ≤ next = is.short.0 in
        counts_passed p s plan (next - from) (due - from) from v (λ block a below. is.before block a (omega (arith, up, below))) (omega (arith, up, lt))
        ∙ counts_at p s plan (due - from - (next - from)) (due - next) (from + (next - from)) next v (omega (arith, up, lt)) (omega (arith, up))
    go (inr ge) =
        counts_passed p s plan (due - from) (due - from) from v (λ block a below. is.before block a (omega (arith, le, below, ge))) (omega arith)
        ∙ ap (λ l. walk_on p l v) (counts_end s plan (due - from - (due - from)) (from + (due - from)) (omega arith) ∙ sym (counts_end s plan (due - next) next (omega (arith, ge))))

-- from the first block that lacks symbols
pub counts_begun : (p : Settings) (s : Holding) (plan : Plan) (due : ℕ) (first : Option ℕ) (v : Walked) → due ≤ blocks (cut_of_plan plan) → IsFirstShort s plan first
    → walk_on p (counts_from s plan due 0) v ≡ walk_on p (counts_left s plan due first) v
counts_begun p s plan due first v most is =
    counts_at p s plan due (due - 0) 0 0 v (omega arith) refl ∙ counts_skipped p s plan due 0 first v (omega arith) most (go first is)
  where
    go : (found : Option ℕ) → IsFirstShort s plan found → IsShortFrom s plan 0 found
    go None h = record { before = λ block le lt. h.before block lt; short = tt }
    go (Some j) h = record { before = λ block le lt. h.before block lt; short = (omega arith, h.short.0, h.short.1) }

pub counts_step : (p : Settings) (s : Holding) (plan : Plan) (due block : ℕ) (v : Walked) → block < due
    → walk_on p (counts_from s plan (due - block) block) v ≡ walk_on p (counts_from s plan (due - (block + 1)) (block + 1)) (walk_lacking p plan block (lacking s plan block) v)
counts_step p s plan due block v lt =
    counts_at p s plan (due - block) (suc (due - (block + 1))) block block v (omega arith) refl
    ∙ counts_next p s plan (due - (block + 1)) block v
    ∙ counts_at p s plan (due - (block + 1)) (due - (block + 1)) (suc block) (block + 1) (walk_lacking p plan block (lacking s plan block) v) refl (omega arith)

-- from a block that lacks symbols to the next one
pub counts_more : (p : Settings) (s : Holding) (plan : Plan) (due block : ℕ) (short next : Option ℕ) (v : Walked) → short ≡ Some block → block < due → due ≤ blocks (cut_of_plan plan)
    → IsShortFrom s plan (block + 1) next
    → walk_on p (counts_left s plan due short) v ≡ walk_on p (counts_left s plan due next) (walk_lacking p plan block (lacking s plan block) v)
counts_more p s plan due block short next v here lt most is =
    ap (λ found. walk_on p (counts_left s plan due found) v) here
    ∙ counts_step p s plan due block v lt
    ∙ counts_skipped p s plan due (block + 1) next (walk_lacking p plan block (lacking s plan block) v) (omega (arith, lt)) most is

pub counts_over : (s : Holding) (plan : Plan) (due block : ℕ) (short : Option ℕ) → short ≡ Some block → due ≤ block → counts_left s plan due short ≡ Nil
counts_over s plan due block short here le = ap (counts_left s plan due) here ∙ counts_end s plan (due - block) block (omega arith)

pub counts_none : (s : Holding) (plan : Plan) (due : ℕ) (short : Option ℕ) → short ≡ None → counts_left s plan due short ≡ Nil
counts_none s plan due short here = ap (counts_left s plan due) here

-- so many blocks are left at most
abbrev pub blocks_left : ℕ → Option ℕ → ℕ
blocks_left due short = elim short [ Some block ↦ due - block | None ↦ 0 ]

pub fewer_left : (due block : ℕ) (short next : Option ℕ) → short ≡ Some block → block < due → IfSome next (λ n. block < n) → blocks_left due next < blocks_left due short
fewer_left due block short next here lt behind = subst (λ (o : Option ℕ). blocks_left due next < blocks_left due o) (sym here) (go next behind)
  where
    go : (found : Option ℕ) → IfSome found (λ n. block < n) → blocks_left due found < due - block
    go None h = omega (arith, lt)
    go (Some n) h = omega (arith, h, lt)

-- ---- a block

abbrev missing_of : Holding → ℕ → Option Plan → Missing
missing_of s block found = elim found [ Some plan ↦ missing_by (lacking s plan block) | None ↦ missing.Unseen ]

lacking_short : (p : Settings) (plan : Plan) (block wanted n : ℕ) (v : Walked) → missing.Short wanted ≡ missing_by n → walk_lacking p plan block n v ≡ walk_need p v (Symbols plan.index block wanted)
lacking_short p plan block wanted zero v e = absurd (let h : missing.Short wanted ≡ missing.Done = e in cc)
lacking_short p plan block wanted (suc n) v e =
    let same : wanted ≡ suc n = (let h : missing.Short wanted ≡ missing.Short (suc n) = e in cc) in
    ap (λ k. walk_need p v (Symbols plan.index block k)) (sym same)

lacking_not : (p : Settings) (plan : Plan) (block n : ℕ) (v : Walked) (word : Missing) → ((wanted : ℕ) → word ≡ missing.Short wanted → ⊥) → word ≡ missing_by n → walk_lacking p plan block n v ≡ v
lacking_not p plan block zero v word never e = refl
lacking_not p plan block (suc n) v word never e = absurd (never (suc n) e)

-- so many symbols are wanted of a block of this object
pub block_short : (p : Settings) (s : Holding) (index block wanted : ℕ) (plan : Plan) (v : Walked) → plan_of s index ≡ Some plan → missing.Short wanted ≡ missing_at s index block
    → walk_lacking p plan block (lacking s plan block) v ≡ walk_need p v (Symbols index block wanted)
block_short p s index block wanted plan v found e =
    lacking_short p plan block wanted (lacking s plan block) v (e ∙ ap (missing_of s block) found)
    ∙ ap (λ n. walk_need p v (Symbols n block wanted)) (index_of_found index s.plans plan found)

pub block_not_short : (p : Settings) (s : Holding) (index block : ℕ) (plan : Plan) (v : Walked) (word : Missing) → plan_of s index ≡ Some plan
    → ((wanted : ℕ) → word ≡ missing.Short wanted → ⊥) → word ≡ missing_at s index block
    → walk_lacking p plan block (lacking s plan block) v ≡ v
block_not_short p s index block plan v word found never e = lacking_not p plan block (lacking s plan block) v word never (e ∙ ap (missing_of s block) found)

abbrev width_by : ℕ → Option Plan → ℕ
width_by block found = elim found [ Some plan ↦ source_symbols (cut_of_plan plan) block | None ↦ 256 ]

pub width_is : (s : Holding) (index block width : ℕ) (cut : Cut) (plan : Plan) → plan_of s index ≡ Some plan → Some cut ≡ plan_at s index
    → width ≡ source_symbols cut block → width ≡ width_of s (point index block)
width_is s index block width cut plan found e w =
    w ∙ ap (λ (c : Cut). source_symbols c block) (cut_same cut (plan_of s index) plan found e) ∙ sym (ap (width_by block) found)

-- that all of a block was heard, by what is kept of it
pub symbols_heard : (heard own : Heard) (s : Holding) (index block width wanted : ℕ) (result : Bool)
    → result ≡ (asks_as_many heard.counts (point index block) wanted || blocks_heard heard width index block block)
    → heard ≡ own → width ≡ width_of s (point index block) → result ≡ is_heard own s (Symbols index block wanted)
symbols_heard heard own s index block width wanted result is same w =
    is ∙ ap (λ (h : Heard). asks_as_many h.counts (point index block) wanted || blocks_heard h width index block block) same
    ∙ ap (λ n. asks_as_many own.counts (point index block) wanted || blocks_heard own n index block block) w

-- ---- an object

-- where an object has flags it has a plan
pub plan_found : {Q : Type 0} (s : Holding) (index flags : ℕ) → Some flags ≡ flags_at s index → ((plan : Plan) → plan_of s index ≡ Some plan → Q) → Q
plan_found {Q} s index flags known lead = go (plan_of s index) known lead
  where
    go : (found : Option Plan) → Some flags ≡ option_map (λ (plan : Plan). plan.flags) found → ((plan : Plan) → found ≡ Some plan → Q) → Q
    go None e lead = absurd (let h : Some flags ≡ None = e in cc)
    go (Some plan) e lead = lead plan refl

-- a need that was heard, by what is kept of it
pub object_heard : (heard own : Heard) (s : Holding) (index : ℕ) (result : Bool)
    → result ≡ (blocks_heard heard 256 index 0 last_block && info_heard heard index) → heard ≡ own → plan_of s index ≡ None → result ≡ is_heard own s (Object index)
object_heard heard own s index result is same none =
    is ∙ ap (λ (h : Heard). blocks_heard h 256 index 0 last_block && info_heard h index) same
    ∙ ap (λ n. blocks_heard own n index 0 last_block && info_heard own index) (sym (ap (width_by 0) none))

abbrev needs_by_plan : Settings → Option Point → Option Position → Holding → ℕ → Option Plan → Lazy Need
needs_by_plan p farthest flush s index found = elim found [
  | Some plan ↦ planned_needs p farthest flush s plan
  | None ↦ lazily (unknown_needs index (is_covered farthest flush index))
]

walk_one : (p : Settings) (test : Bool) (need : Need) (w : Walked) → walk_on p (lazily (elim test as (λ _. List Need) [ true ↦ need ∷ [] | false ↦ [] ])) w ≡ walk_where p test w need
unfolding lazily
walk_one p true need w = walk_next p need (λ u. Nil) w ∙ walk_none p (walk_need p w need)
walk_one p false need w = walk_none p w

pub object_unknown : (p : Settings) (farthest : Option Point) (flush : Option Position) (s : Holding) (index : ℕ) (covered : Bool) (w : Walked)
    → covered ≡ is_covered farthest flush index → None ≡ flags_at s index → walk_on p (needs_of p farthest flush s index) w ≡ walk_where p covered w (Object index)
object_unknown p farthest flush s index covered w is none =
    ap (λ (found : Option Plan). walk_on p (needs_by_plan p farthest flush s index found) w) (no_plan (plan_of s index) (sym none))
    ∙ walk_one p (is_covered farthest flush index) (Object index) w
    ∙ ap (λ b. walk_where p b w (Object index)) (sym is)

pub object_planned : (p : Settings) (farthest : Option Point) (flush : Option Position) (s : Holding) (index flags : ℕ) (covered lacks stream : Bool) (plan : Plan) (w : Walked)
    → plan_of s index ≡ Some plan → covered ≡ is_covered farthest flush index → Some flags ≡ flags_at s index → stream ≡ says_stream flags
    → lacks ≡ (covered && (says_info flags && not (is_some (info_of s index))))
    → walk_on p (needs_of p farthest flush s index) w ≡ walk_on p (rest_by p farthest flush s plan stream) (walk_where p lacks w (ObjectInfo index))
object_planned p farthest flush s index flags covered lacks stream plan w found is known kind lacking_is =
    ap (λ (o : Option Plan). walk_on p (needs_by_plan p farthest flush s index o) w) found
    ∙ walk_both p (lazily (info_needs s plan (is_covered farthest flush plan.index))) (λ u. rest_by p farthest flush s plan (says_stream plan.flags)) w
    ∙ ap (λ b. walk_on p (rest_by p farthest flush s plan b) (walk_on p (lazily (info_needs s plan (is_covered farthest flush plan.index))) w)) (ap says_stream same ∙ sym kind)
    ∙ ap (λ v. walk_on p (rest_by p farthest flush s plan stream) v) info
  where
    own : plan.index ≡ index
    own = index_of_found index s.plans plan found

    same : plan.flags ≡ flags
    same = (let h : Some flags ≡ Some plan.flags = known ∙ ap (option_map (λ (x : Plan). x.flags)) found in cc)

    info : walk_on p (lazily (info_needs s plan (is_covered farthest flush plan.index))) w ≡ walk_where p lacks w (ObjectInfo index)
    info =
        walk_one p (is_covered farthest flush plan.index && not (has_its_info s plan)) (ObjectInfo plan.index) w
        ∙ ap (λ b. walk_where p (is_covered farthest flush plan.index && b) w (ObjectInfo plan.index)) (its_info s plan (says_info flags) (ap says_info same))
        ∙ ap (λ n. walk_where p (is_covered farthest flush n && (says_info flags && not (is_some (info_of s n)))) w (ObjectInfo n)) own
        ∙ ap (λ b. walk_where p (b && (says_info flags && not (is_some (info_of s index)))) w (ObjectInfo index)) (sym is)
        ∙ ap (λ b. walk_where p b w (ObjectInfo index)) (sym lacking_is)

-- ---- all objects

needs_next : (p : Settings) (farthest : Option Point) (flush : Option Position) (s : Holding) (n index : ℕ) (v : Walked)
    → walk_on p (needs_from (suc n) p farthest flush s index) v ≡ walk_on p (needs_from n p farthest flush s (suc index)) (walk_on p (needs_of p farthest flush s index) v)
unfolding needs_from
needs_next p farthest flush s n index v = walk_both p (needs_of p farthest flush s index) (λ u. needs_from n p farthest flush s (suc index)) v

needs_end : (p : Settings) (farthest : Option Point) (flush : Option Position) (s : Holding) (n index : ℕ) → n ≡ 0 → needs_from n p farthest flush s index ≡ Nil
unfolding needs_from
needs_end p farthest flush s zero index e = refl
needs_end p farthest flush s (suc n) index e = absurd (omega arith)

pub needs_step : (p : Settings) (farthest : Option Point) (flush : Option Position) (s : Holding) (last index : ℕ) (v : Walked) → index < last
    → walk_on p (needs_from (last - index) p farthest flush s index) v
    ≡ walk_on p (needs_from (last - (index + 1)) p farthest flush s (index + 1)) (walk_on p (needs_of p farthest flush s index) v)
needs_step p farthest flush s last index v lt =
    ap (λ n. walk_on p (needs_from n p farthest flush s index) v) count
    ∙ needs_next p farthest flush s (last - (index + 1)) index v
    ∙ ap (λ n. walk_on p (needs_from (last - (index + 1)) p farthest flush s n) (walk_on p (needs_of p farthest flush s index) v)) next
  where
    count : last - index ≡ suc (last - (index + 1))
    count = omega arith

    next : suc index ≡ index + 1
    next = omega arith

pub needs_over : (p : Settings) (farthest : Option Point) (flush : Option Position) (s : Holding) (last index : ℕ) → last ≤ index → needs_from (last - index) p farthest flush s index ≡ Nil
needs_over p farthest flush s last index le = needs_end p farthest flush s (last - index) index (omega arith)
