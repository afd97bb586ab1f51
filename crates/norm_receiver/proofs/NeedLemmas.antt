-- Whether anything is needed, object by object.
use Rattle.std.proofs.Common.{◌≡◌, ℕ, zero, suc, cond, ◌+◌, ◌-◌, ◌<◌, ◌≤◌, ◌⊎◌, inl, inr, List, [], ◌∷◌, Bool, true, false, not, Option, None, Some, refl, sym, ap, subst, ◌∙◌, arith}
use Rattle.std.specs.Prelude.{find, nat_le, ◌==◌, ◌&&◌, is_some, IfSome, ⊤, option_map}
use Rattle.std.proofs.lemmas.Bool.{cases_lt, le-leb, lt-leb, eqb-true}
use Rattle.norm_base.specs.Settings.{Settings}
use Rattle.fec_plan.specs.Partition.{Cut, blocks}
use Rattle.fec_plan.specs.Points.{Point}
use Rattle.fec_plan.specs.declared.position.Position.{Position}
use Rattle.norm_receive_rules.specs.Lazy.{Lazy, Nil, Next, followed_by, lazily}
use Rattle.norm_receive_rules.specs.Holding.{Holding, Plan}
use Rattle.norm_receive_rules.specs.Plans.{cut_of_plan, says_stream, says_info, plan_of, lacking, is_done, has_its_info, info_of}
use Rattle.norm_receive_rules.specs.Needs.{Need, ObjectInfo, Symbols, object_needs, is_covered, info_needs, blocks_due, counts_from, unknown_needs}
use Rattle.norm_receive_rules.specs.AllNeeds.{planned_needs, needs_of, needs_from}
use Rattle.norm_receive_rules.specs.StreamNeeds.{stream_needs}
use Rattle.rx_hold.specs.Told.{IsFirstShort, flags_at, plan_at}
use Rattle.norm_receiver.specs.Quiet.{is_nil, is_behind}

pub clash : {X : Type 0} → false ≡ true → X
clash e = absurd (go e)
  where
    go : false ≡ true → ⊥
    go e = cc

pub nil_both : (l : Lazy Need) (more : ⊤ → Lazy Need) → is_nil (followed_by l more) ≡ (is_nil l && is_nil (more tt))
unfolding followed_by
nil_both Nil more = refl
nil_both (Next x rest) more = refl

-- ---- counts

abbrev counted : Holding → Plan → ℕ → ℕ → ℕ → Lazy Need
counted s plan n first less = elim less [
  | zero ↦ counts_from s plan n (suc first)
  | suc k ↦ Next (Symbols plan.index first (suc k)) (λ u. counts_from s plan n (suc first))
]

-- where a block is done it lacks nothing
none_lacking : (s : Holding) (plan : Plan) (block less : ℕ) → lacking s plan block ≡ less → is_done s plan block ≡ true → less ≡ 0
none_lacking s plan block less e done = sym e ∙ eqb-true (lacking s plan block) 0 done

counts_none : (s : Holding) (plan : Plan) (n first less : ℕ) → less ≡ 0 → is_nil (counts_from s plan n (suc first)) ≡ true → is_nil (counted s plan n first less) ≡ true
counts_none s plan n first zero e rest = rest
counts_none s plan n first (suc k) e rest = absurd (omega arith)

counts_done : (s : Holding) (plan : Plan) (n first : ℕ) → ((block : ℕ) → first ≤ block → block < first + n → is_done s plan block ≡ true)
    → is_nil (counts_from s plan n first) ≡ true
unfolding counts_from
counts_done s plan zero first all = refl
counts_done s plan (suc n) first all =
    counts_none s plan n first (lacking s plan first) (none_lacking s plan first (lacking s plan first) refl (all first (omega arith) (omega arith)))
    (counts_done s plan n (suc first) (λ block le lt. all block (omega arith) (omega arith)))

counts_some : (s : Holding) (plan : Plan) (n first block less : ℕ) → lacking s plan first ≡ less → first ≤ block → is_done s plan block ≡ false
    → (suc first ≤ block → is_nil (counts_from s plan n (suc first)) ≡ false) → is_nil (counted s plan n first less) ≡ false
counts_some s plan n first block (suc k) e le short rest = refl
counts_some s plan n first block zero e le short rest = go (cases_lt first block)
  where
    go : (first < block) ⊎ (block ≤ first) → is_nil (counts_from s plan n (suc first)) ≡ false
    go (inl lt) = rest (omega arith)
    go (inr ge) =
        let same : block ≡ first = omega arith in
        clash (sym short ∙ ap (λ b. lacking s plan b == 0) same ∙ ap (λ k. k == 0) e)

counts_short : (s : Holding) (plan : Plan) (n first block : ℕ) → first ≤ block → block < first + n → is_done s plan block ≡ false
    → is_nil (counts_from s plan n first) ≡ false
unfolding counts_from
counts_short s plan zero first block le lt short = absurd (omega arith)
counts_short s plan (suc n) first block le lt short =
    counts_some s plan n first block (lacking s plan first) refl le short (λ more. counts_short s plan n (suc first) block more (omega arith) short)

-- by the first block that is not done
pub blocks_quiet : (s : Holding) (plan : Plan) (n : ℕ) (first : Option ℕ) → IsFirstShort s plan first → n ≤ blocks (cut_of_plan plan)
    → is_nil (counts_from s plan n 0) ≡ is_behind first n
blocks_quiet s plan n None is le = counts_done s plan n 0 (λ block a lt. is.before block (omega arith))
blocks_quiet s plan n (Some b) is le = go (cases_lt b n)
  where
    go : (b < n) ⊎ (n ≤ b) → is_nil (counts_from s plan n 0) ≡ nat_le n b
    go (inl lt) = counts_short s plan n 0 b (omega arith) (omega arith) is.short.1 ∙ sym (lt-leb n b lt)
    go (inr ge) = counts_done s plan n 0 (λ block a lt. is.before block (omega arith)) ∙ sym (le-leb n b ge)

-- ---- an object

-- the plan that is found of an index is of that index
same_plan : (x y : Plan) → Some x ≡ Some y → x ≡ y
same_plan x y e = cc

pub never_plan : (plan : Plan) → None ≡ Some plan → ⊥
never_plan plan e = cc

pub index_of_found : (index : ℕ) (plans : List Plan) (plan : Plan) → find (λ (x : Plan). x.index == index) plans ≡ Some plan → plan.index ≡ index
index_of_found index [] plan e = absurd (never_plan plan e)
index_of_found index (x ∷ plans) plan e = go (x.index == index) refl e (λ found. index_of_found index plans plan found)
  where
    go : (b : Bool) → (x.index == index) ≡ b → cond b (Some x) (find (λ (y : Plan). y.index == index) plans) ≡ Some plan
        → (find (λ (y : Plan). y.index == index) plans ≡ Some plan → plan.index ≡ index) → plan.index ≡ index
    go true is found more = ap (λ (y : Plan). y.index) (sym (same_plan x plan found)) ∙ eqb-true x.index index is
    go false is found more = more found

-- what is needed of an object, by its plan
abbrev needs_by_plan : Settings → Option Point → Option Position → Holding → ℕ → Option Plan → Lazy Need
needs_by_plan p farthest flush s index found = elim found [
  | Some plan ↦ planned_needs p farthest flush s plan
  | None ↦ lazily (unknown_needs index (is_covered farthest flush index))
]

unknown_quiet : (index : ℕ) (covered : Bool) → is_nil (lazily (unknown_needs index covered)) ≡ not covered
unfolding lazily
unknown_quiet index true = refl
unknown_quiet index false = refl

info_quiet : (s : Holding) (plan : Plan) (covered : Bool) → is_nil (lazily (info_needs s plan covered)) ≡ not (covered && not (has_its_info s plan))
unfolding lazily
info_quiet s plan false = refl
info_quiet s plan true = go (has_its_info s plan)
  where
    go : (has : Bool) → is_nil (lazily (elim (not has) as (λ _. List Need) [ true ↦ ObjectInfo plan.index ∷ [] | false ↦ [] ])) ≡ not (not has)
    go true = refl
    go false = refl

-- what is needed of an object behind its info, by whether it is a stream
abbrev pub rest_by : Settings → Option Point → Option Position → Holding → Plan → Bool → Lazy Need
rest_by p farthest flush s plan stream = elim stream [ true ↦ stream_needs p farthest flush s plan | false ↦ object_needs farthest flush s plan ]

-- the rest of an object follows its info
planned_quiet : (p : Settings) (farthest : Option Point) (flush : Option Position) (s : Holding) (plan : Plan)
    → is_nil (planned_needs p farthest flush s plan)
    ≡ (not (is_covered farthest flush plan.index && not (has_its_info s plan)) && is_nil (rest_by p farthest flush s plan (says_stream plan.flags)))
planned_quiet p farthest flush s plan =
    nil_both (lazily (info_needs s plan (is_covered farthest flush plan.index))) (λ u. rest_by p farthest flush s plan (says_stream plan.flags))
    ∙ ap (λ b. b && is_nil (rest_by p farthest flush s plan (says_stream plan.flags))) (info_quiet s plan (is_covered farthest flush plan.index))

-- ---- the answers of the code

pub no_plan : (found : Option Plan) → option_map (λ (plan : Plan). plan.flags) found ≡ None → found ≡ None
no_plan None e = refl
no_plan (Some plan) e = absurd (no e)
  where
    no : Some plan.flags ≡ None → ⊥
    no e = cc

no_cut : (found : Option Plan) → option_map cut_of_plan found ≡ None → found ≡ None
no_cut None e = refl
no_cut (Some plan) e = absurd (no e)
  where
    no : Some (cut_of_plan plan) ≡ None → ⊥
    no e = cc

-- an object without a plan
pub quiet_unknown : (p : Settings) (farthest : Option Point) (flush : Option Position) (s : Holding) (index : ℕ) (covered : Bool)
    → covered ≡ is_covered farthest flush index → plan_of s index ≡ None → not covered ≡ is_nil (needs_of p farthest flush s index)
quiet_unknown p farthest flush s index covered is found =
    ap not is ∙ sym (ap (λ (found : Option Plan). is_nil (needs_by_plan p farthest flush s index found)) found ∙ unknown_quiet index (is_covered farthest flush index))

pub quiet_no_flags : (p : Settings) (farthest : Option Point) (flush : Option Position) (s : Holding) (index : ℕ) (covered : Bool)
    → covered ≡ is_covered farthest flush index → None ≡ flags_at s index → not covered ≡ is_nil (needs_of p farthest flush s index)
quiet_no_flags p farthest flush s index covered is none = quiet_unknown p farthest flush s index covered is (no_plan (plan_of s index) (sym none))

pub quiet_no_cut : (p : Settings) (farthest : Option Point) (flush : Option Position) (s : Holding) (index : ℕ) (covered : Bool)
    → covered ≡ is_covered farthest flush index → None ≡ plan_at s index → not covered ≡ is_nil (needs_of p farthest flush s index)
quiet_no_cut p farthest flush s index covered is none = quiet_unknown p farthest flush s index covered is (no_cut (plan_of s index) (sym none))

-- that an object with these flags lacks its info
pub its_info : (s : Holding) (plan : Plan) (info : Bool) → says_info plan.flags ≡ info → not (has_its_info s plan) ≡ (info && not (is_some (info_of s plan.index)))
its_info s plan info e = ap (λ b. not (elim b as (λ _. Bool) [ true ↦ is_some (info_of s plan.index) | false ↦ true ])) e ∙ go info
  where
    go : (b : Bool) → not (elim b as (λ _. Bool) [ true ↦ is_some (info_of s plan.index) | false ↦ true ]) ≡ (b && not (is_some (info_of s plan.index)))
    go true = refl
    go false = refl

pub flags_found : (flags : ℕ) (found : Option Plan) → Some flags ≡ option_map (λ (plan : Plan). plan.flags) found
    → (Q : Option Plan → Type 0) → ((plan : Plan) → found ≡ Some plan → plan.flags ≡ flags → Q (Some plan)) → Q found
flags_found flags None e Q h = absurd (no e)
  where
    no : Some flags ≡ None → ⊥
    no e = cc
flags_found flags (Some plan) e Q h = h plan refl (same (sym e))
  where
    same : Some plan.flags ≡ Some flags → plan.flags ≡ flags
    same e = cc

-- what an object with a plan needs, in the numbers of the code
planned_at : (p : Settings) (farthest : Option Point) (flush : Option Position) (s : Holding) (index flags : ℕ) (plan : Plan)
    → plan_of s index ≡ Some plan → plan.flags ≡ flags
    → is_nil (planned_needs p farthest flush s plan)
    ≡ (not (is_covered farthest flush index && (says_info flags && not (is_some (info_of s index)))) && is_nil (rest_by p farthest flush s plan (says_stream flags)))
planned_at p farthest flush s index flags plan found is =
    planned_quiet p farthest flush s plan
    ∙ ap (λ b. not (is_covered farthest flush plan.index && b) && is_nil (rest_by p farthest flush s plan (says_stream plan.flags))) (its_info s plan (says_info flags) (ap says_info is))
    ∙ ap (λ n. not (is_covered farthest flush n && (says_info flags && not (is_some (info_of s n)))) && is_nil (rest_by p farthest flush s plan (says_stream plan.flags)))
    (index_of_found index s.plans plan found)
    ∙ ap (λ f. not (is_covered farthest flush index && (says_info flags && not (is_some (info_of s index)))) && is_nil (rest_by p farthest flush s plan (says_stream f))) is

-- an object whose info is missing
pub quiet_no_info : (p : Settings) (farthest : Option Point) (flush : Option Position) (s : Holding) (index flags : ℕ) (covered lacks : Bool)
    → covered ≡ is_covered farthest flush index → Some flags ≡ flags_at s index
    → lacks ≡ (covered && (says_info flags && not (is_some (info_of s index)))) → lacks ≡ true → false ≡ is_nil (needs_of p farthest flush s index)
quiet_no_info p farthest flush s index flags covered lacks is known lacking needed =
    flags_found flags (plan_of s index) known (λ (found : Option Plan). false ≡ is_nil (needs_by_plan p farthest flush s index found))
    (λ plan found same. sym (planned_at p farthest flush s index flags plan found same
    ∙ ap (λ b. not b && is_nil (rest_by p farthest flush s plan (says_stream flags)))
    (ap (λ c. c && (says_info flags && not (is_some (info_of s index)))) (sym is) ∙ sym lacking ∙ needed)))

-- an object whose info is not needed, by its rest
pub quiet_rest : (p : Settings) (farthest : Option Point) (flush : Option Position) (s : Holding) (index flags : ℕ) (covered lacks stream quiet : Bool)
    → covered ≡ is_covered farthest flush index → Some flags ≡ flags_at s index → stream ≡ says_stream flags
    → lacks ≡ (covered && (says_info flags && not (is_some (info_of s index)))) → lacks ≡ false
    → IfSome (plan_of s index) (λ plan. quiet ≡ is_nil (rest_by p farthest flush s plan stream))
    → quiet ≡ is_nil (needs_of p farthest flush s index)
quiet_rest p farthest flush s index flags covered lacks stream quiet is known kind lacking needless rest =
    flags_found flags (plan_of s index) known
    (λ (found : Option Plan). IfSome found (λ plan. quiet ≡ is_nil (rest_by p farthest flush s plan stream)) → quiet ≡ is_nil (needs_by_plan p farthest flush s index found))
    (λ plan found same of_rest. of_rest ∙ ap (λ b. is_nil (rest_by p farthest flush s plan b)) kind
    ∙ ap (λ b. not b && is_nil (rest_by p farthest flush s plan (says_stream flags)))
    (sym (ap (λ c. c && (says_info flags && not (is_some (info_of s index)))) (sym is) ∙ sym lacking ∙ needless))
    ∙ sym (planned_at p farthest flush s index flags plan found same)) rest

-- no block that is due lacks symbols, by the first one that does
pub quiet_before : (s : Holding) (index due : ℕ) (first : Option ℕ) → IfSome (plan_of s index) (λ plan. IsFirstShort s plan first)
    → IfSome (plan_of s index) (λ plan. due ≤ blocks (cut_of_plan plan) → is_behind first due ≡ is_nil (counts_from s plan due 0))
quiet_before s index due first = go (plan_of s index)
  where
    go : (found : Option Plan) → IfSome found (λ plan. IsFirstShort s plan first)
        → IfSome found (λ plan. due ≤ blocks (cut_of_plan plan) → is_behind first due ≡ is_nil (counts_from s plan due 0))
    go None h = h
    go (Some plan) h = λ few. sym (blocks_quiet s plan due first h few)

-- the cut that is told of an object is its plan's
pub cut_same : (cut : Cut) (found : Option Plan) (plan : Plan) → found ≡ Some plan → Some cut ≡ option_map cut_of_plan found → cut ≡ cut_of_plan plan
cut_same cut found plan is e = let h : Some cut ≡ Some (cut_of_plan plan) = e ∙ ap (option_map cut_of_plan) is in cc

-- the blocks of an object that are due, as they were counted
pub due_needs : (farthest : Option Point) (flush : Option Position) (s : Holding) (index due all : ℕ) (cut : Cut) (plan : Plan)
    → plan_of s index ≡ Some plan → Some cut ≡ plan_at s index → all ≡ blocks cut → due ≡ blocks_due farthest flush index all
    → counts_from s plan due 0 ≡ object_needs farthest flush s plan
due_needs farthest flush s index due all cut plan found known all_is due_is =
    ap (λ n. counts_from s plan n 0)
    (due_is ∙ ap (λ n. blocks_due farthest flush index n) all_is ∙ ap (λ (c : Cut). blocks_due farthest flush index (blocks c)) (cut_same cut (plan_of s index) plan found known)
    ∙ ap (λ n. blocks_due farthest flush n (blocks (cut_of_plan plan))) (sym (index_of_found index s.plans plan found)))

-- of data or a file nothing is needed by its blocks
pub object_quiet : (farthest : Option Point) (flush : Option Position) (s : Holding) (index due all : ℕ) (cut : Cut) (quiet : Bool)
    → Some cut ≡ plan_at s index → all ≡ blocks cut → due ≡ blocks_due farthest flush index all → due ≤ all
    → IfSome (plan_of s index) (λ plan. due ≤ blocks (cut_of_plan plan) → quiet ≡ is_nil (counts_from s plan due 0))
    → IfSome (plan_of s index) (λ plan. quiet ≡ is_nil (object_needs farthest flush s plan))
object_quiet farthest flush s index due all cut quiet known all_is due_is few are =
    go (plan_of s index) refl are
  where
    go : (found : Option Plan) → plan_of s index ≡ found → IfSome found (λ plan. due ≤ blocks (cut_of_plan plan) → quiet ≡ is_nil (counts_from s plan due 0))
        → IfSome found (λ plan. quiet ≡ is_nil (object_needs farthest flush s plan))
    go None is h = tt
    go (Some plan) is h =
        h (subst (λ (c : Cut). due ≤ blocks c) (cut_same cut (plan_of s index) plan is known) (subst (λ n. due ≤ n) all_is few))
        ∙ ap is_nil (due_needs farthest flush s index due all cut plan is known all_is due_is)

-- ---- all objects

-- what is needed from an index on, of so many objects, is nothing so far as this one
pub needs_more : (n : ℕ) (p : Settings) (farthest : Option Point) (flush : Option Position) (s : Holding) (index : ℕ)
    → is_nil (needs_from (suc n) p farthest flush s index) ≡ (is_nil (needs_of p farthest flush s index) && is_nil (needs_from n p farthest flush s (suc index)))
unfolding needs_from
needs_more n p farthest flush s index = nil_both (needs_of p farthest flush s index) (λ u. needs_from n p farthest flush s (suc index))

pub needs_end : (p : Settings) (farthest : Option Point) (flush : Option Position) (s : Holding) (index : ℕ) → is_nil (needs_from 0 p farthest flush s index) ≡ true
unfolding needs_from
needs_end p farthest flush s index = refl

-- a step of the walk from one index to a last one
pub walked_on : (last index : ℕ) (p : Settings) (farthest : Option Point) (flush : Option Position) (s : Holding) → index < last
    → is_nil (needs_from (last - index) p farthest flush s index)
    ≡ (is_nil (needs_of p farthest flush s index) && is_nil (needs_from (last - suc index) p farthest flush s (suc index)))
walked_on last index p farthest flush s lt =
    ap (λ n. is_nil (needs_from n p farthest flush s index)) count ∙ needs_more (last - suc index) p farthest flush s index
  where
    count : last - index ≡ suc (last - suc index)
    count = omega arith

pub walked_to_end : (last index : ℕ) (p : Settings) (farthest : Option Point) (flush : Option Position) (s : Holding) → last ≤ index
    → is_nil (needs_from (last - index) p farthest flush s index) ≡ true
walked_to_end last index p farthest flush s le = ap (λ n. is_nil (needs_from n p farthest flush s index)) count ∙ needs_end p farthest flush s index
  where
    count : last - index ≡ 0
    count = omega arith

-- the answer, where what is left from here on is what was asked
pub quiet_so_far : (last index : ℕ) (p : Settings) (farthest : Option Point) (flush : Option Position) (s : Holding) (whole quiet : Bool)
    → whole ≡ is_nil (needs_from (last - index) p farthest flush s index) → index < last → quiet ≡ is_nil (needs_of p farthest flush s index) → quiet ≡ true
    → whole ≡ is_nil (needs_from (last - (index + 1)) p farthest flush s (index + 1))
quiet_so_far last index p farthest flush s whole quiet is lt of_this e =
    is ∙ walked_on last index p farthest flush s lt ∙ ap (λ b. b && is_nil (needs_from (last - suc index) p farthest flush s (suc index))) (sym of_this ∙ e)
    ∙ ap (λ n. is_nil (needs_from (last - n) p farthest flush s n)) next
  where
    next : suc index ≡ index + 1
    next = omega arith

pub not_quiet : (last index : ℕ) (p : Settings) (farthest : Option Point) (flush : Option Position) (s : Holding) (whole quiet : Bool)
    → whole ≡ is_nil (needs_from (last - index) p farthest flush s index) → index < last → quiet ≡ is_nil (needs_of p farthest flush s index) → quiet ≡ false
    → false ≡ whole
not_quiet last index p farthest flush s whole quiet is lt of_this e =
    sym (is ∙ walked_on last index p farthest flush s lt ∙ ap (λ b. b && is_nil (needs_from (last - suc index) p farthest flush s (suc index))) (sym of_this ∙ e))
