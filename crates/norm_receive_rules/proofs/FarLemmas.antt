-- Handing up goes as far as it can.
use Rattle.std.proofs.Common.{◌≡◌, ℕ, zero, suc, cond, ◌+◌, ◌-◌, ◌*◌, ◌<◌, ◌≤◌, ◌⊎◌, inl, inr, List, [], ◌∷◌, ◌++◌, map, length, Bool, true, false, Option, None, Some, refl, sym, ap, subst, ◌∙◌, arith}
use Rattle.std.specs.Prelude.{filter, find, max, not, nat_lt, is_some, ◌==◌, ◌&&◌, ◌||◌, option_map, if◌then◌else◌}
use Rattle.std.specs.List.{list_all, list_any, range_with_len}
use Rattle.std.proofs.lemmas.Bool.{cases_lt}
use Rattle.std.proofs.lemmas.Bool.Decides.{Decides-ltb, Decides-eqb}
use Rattle.norm_base.specs.Settings.{Settings}
use Rattle.fec_plan.specs.Partition.{Cut, IsSound, symbols_in, blocks, source_symbols, most_blocks, outside, first_fault}
use Rattle.fec_plan.specs.Points.{Point, point, point_of, point_before, position}
use Rattle.fec_plan.specs.declared.plan.PlanFault.{PlanFault}
use Rattle.fec_plan.specs.declared.position.Position.{Position}
use Rattle.fec_plan.proofs.CutLemmas.{some_blocks}
use Rattle.fec_plan.proofs.PartitionLemmas.{some_sources, some_blocks_of}
use Rattle.fec_plan.proofs.PointLemmas.{not_before, behind_point}
use Rattle.norm_ext.specs.Extensions.{Extension, fti_of}
use Rattle.norm_ext.specs.declared.fti.Fti.{Fti}
use Rattle.norm_order.specs.Sets.{with_member}
use Rattle.norm_order.specs.declared.up.Up.{Up}
use Rattle.norm_order.specs.declared.up.Up.TheVariants as up
use Rattle.norm_receive_rules.specs.FarLaws.{has_sound_plans, is_at_source, IsSteady, IsFar, FarLaws}
use Rattle.norm_receive_rules.specs.Fitting.{is_known_plan, is_away, is_unfit, fit_of, fitted, lets_put, plan_before, with_plan}
use Rattle.norm_receive_rules.specs.HandingUp.{after_object, handed, is_whole, kind_of, told_info, object_octets, hands_object, segment_length, segment_up, open_before, next_segment, hands_segment, hands_next, hands_one, hands_most, handed_up}
use Rattle.norm_receive_rules.specs.Holding.{Holding, Plan, Held, new_plan}
use Rattle.norm_receive_rules.specs.Laws.{HoldsSame, IsAtStart, IsPassed, PassedBy, HasPassed}
use Rattle.norm_receive_rules.specs.Losing.{loses_one, loses_before, is_cut_off, squelched}
use Rattle.norm_receive_rules.specs.NothingMissing.{IsThere}
use Rattle.norm_receive_rules.specs.Plans.{cut_of_plan, says_stream, plan_of, is_over, held_of, is_done, has_its_info}
use Rattle.norm_receive_rules.specs.Putting.{put_of, put_symbol, with_symbol, put_info_of, put_info, with_info}
use Rattle.norm_receive_rules.specs.Receiving.{object_held}
use Rattle.norm_receive_rules.specs.Seeing.{plan_seen, sees_block}
use Rattle.norm_receive_rules.specs.Taking.{up_taken}
use Rattle.norm_receive_rules.specs.declared.words.Fit.{Fit}
use Rattle.norm_receive_rules.specs.declared.words.Fit.TheVariants as fit
use Rattle.norm_receive_rules.specs.declared.words.Put.{Put}
use Rattle.norm_receive_rules.specs.declared.words.Put.TheVariants as put
use Rattle.norm_receive_rules.proofs.BesideLemmas.{one_hands}
use Rattle.norm_receive_rules.proofs.HandUpLemmas.{index_of_found}
use Rattle.norm_receive_rules.proofs.HoldingSteps.{HoldingIsKept, steps_keep}
use Rattle.norm_receive_rules.proofs.PassedLemmas.{filter_few, many_ids, new_found, taken_new, unfit, or_false, both_true, fitted_passed, symbol_passed, info_passed}
use Rattle.norm_receive_rules.proofs.PassedSteps.{seen_found, seen_passed, value_there, one_passed, lost_passed, taken_passed}

clash : false ≡ true → ⊥
clash e = cc

not_true : (b : Bool) → not b ≡ true → b ≡ false
not_true true e = absurd (clash e)
not_true false e = refl

-- ---- a plan with no fault is sound

false_lt : (a b : ℕ) → nat_lt a b ≡ false → b ≤ a
false_lt a b e = elim (cases_lt a b) [ inl less ↦ absurd (clash (sym e ∙ (Decides-ltb a b).1 less)) | inr le ↦ le ]

record NoFault (z o1 o2 m t : Bool) : Type 0 where
  some : z ≡ false
  size : o1 ≡ false
  sources : o2 ≡ false
  most : m ≡ false
  few : t ≡ false

no_fault : (z o1 o2 m t : Bool) (f1 f2 f3 f4 f5 : PlanFault)
    → is_some (if z then Some f1 else (elim (if o1 then Some f2 else (if o2 then Some f3 else (if m then Some f4 else None))) as (λ _. Option PlanFault) [
      | Some fault ↦ Some fault
      | None ↦ if t then Some f5 else None
    ])) ≡ false → NoFault z o1 o2 m t
no_fault true o1 o2 m t f1 f2 f3 f4 f5 e = absurd (clash (sym e))
no_fault false true o2 m t f1 f2 f3 f4 f5 e = absurd (clash (sym e))
no_fault false false true m t f1 f2 f3 f4 f5 e = absurd (clash (sym e))
no_fault false false false true t f1 f2 f3 f4 f5 e = absurd (clash (sym e))
no_fault false false false false true f1 f2 f3 f4 f5 e = absurd (clash (sym e))
no_fault false false false false false f1 f2 f3 f4 f5 e = record { some = refl; size = refl; sources = refl; most = refl; few = refl }

sound_of : (c : Cut) → is_some (first_fault c) ≡ false → IsSound c
sound_of c e =
    let h = no_fault (none_of c.l) (outside 64 1400 c.e) (outside 1 200 c.b) (nat_lt c.max_n c.b) (nat_lt most_blocks (blocks c)) _ _ _ _ _ e in
    let size = or_false (nat_lt c.e 64) (nat_lt 1400 c.e) h.size in
    let sources = or_false (nat_lt c.b 1) (nat_lt 200 c.b) h.sources in
    let least_e : 64 ≤ c.e = false_lt c.e 64 size.0 in
    let least_b : 1 ≤ c.b = false_lt c.b 1 sources.0 in
    record {
      some = some c.l h.some (omega (arith, least_e)) least_b;
      least_e = least_e;
      most_e = false_lt 1400 c.e size.1;
      least_b = least_b;
      most_b = false_lt 200 c.b sources.1;
      max_n = false_lt c.max_n c.b h.most;
      few = false_lt most_blocks (blocks c) h.few;
    }
  where
    none_of : Option ℕ → Bool
    none_of l = elim l [ Some l ↦ l == 0 | None ↦ false ]

    positive : (n : ℕ) → (n == 0) ≡ false → 0 < n
    positive n f = elim (cases_lt 0 n) [
      | inl less ↦ less
      | inr le ↦ absurd (clash (sym f ∙ (Decides-eqb n 0).1 (omega arith)))
    ]

    some : (l : Option ℕ) → none_of l ≡ false → 0 < c.e → 1 ≤ c.b → 0 < elim l [ Some l ↦ symbols_in l c.e | None ↦ most_blocks * c.b ]
    some (Some l) f some_e some_b = some_blocks l c.e (positive l f) some_e
    some None f some_e some_b = omega arith

-- a plan that is found is sound
found_sound : (index : ℕ) (plans : List Plan) (plan : Plan) → list_all (λ (x : Plan). not (is_some (first_fault (cut_of_plan x)))) plans ≡ true
    → find (λ (x : Plan). x.index == index) plans ≡ Some plan → IsSound (cut_of_plan plan)
found_sound index plans plan all e = sound_of (cut_of_plan plan) (not_true _ (of plans all e))
  where
    test : Plan → Bool
    test x = not (is_some (first_fault (cut_of_plan x)))

    none : None ≡ Some plan → ⊥
    none h = cc

    same : (x : Plan) → Some x ≡ Some plan → x ≡ plan
    same x h = cc

    of : (plans : List Plan) → list_all test plans ≡ true → find (λ (x : Plan). x.index == index) plans ≡ Some plan → test plan ≡ true
    of [] all e = absurd (none e)
    of (x ∷ plans) all e = go (x.index == index) e (of plans (both_true (test x) (list_all test plans) all).1)
      where
        go : (b : Bool) → cond b (Some x) (find (λ (y : Plan). y.index == index) plans) ≡ Some plan
            → (find (λ (y : Plan). y.index == index) plans ≡ Some plan → test plan ≡ true) → test plan ≡ true
        go true f more = ap test (sym (same x f)) ∙ (both_true (test x) (list_all test plans) all).0
        go false f more = more f

-- ---- plans stay sound

all_joined : (test : Plan → Bool) (x : Plan) → test x ≡ true → (xs : List Plan) → list_all test xs ≡ true → list_all test (with_member plan_before x xs) ≡ true
unfolding with_member
all_joined test x own [] e = both (test x) true own refl
  where
    both : (a b : Bool) → a ≡ true → b ≡ true → (a && b) ≡ true
    both true b e f = f
    both false b e f = absurd (clash e)
all_joined test x own (y ∷ xs) e = go (plan_before x y) (plan_before y x) (all_joined test x own xs parts.1)
  where
    both : (a b : Bool) → a ≡ true → b ≡ true → (a && b) ≡ true
    both true b e f = f
    both false b e f = absurd (clash e)

    parts : (test y ≡ true) × (list_all test xs ≡ true)
    parts = both_true (test y) (list_all test xs) e

    go : (b c : Bool) → list_all test (with_member plan_before x xs) ≡ true → list_all test (elim b as (λ _. List Plan) [
      | true ↦ x ∷ y ∷ xs
      | false ↦ elim c [ true ↦ y ∷ with_member plan_before x xs | false ↦ y ∷ xs ]
    ]) ≡ true
    go true c more = both (test x) (list_all test (y ∷ xs)) own e
    go false true more = both (test y) (list_all test (with_member plan_before x xs)) parts.0 more
    go false false more = e

fitted_sound : (p : Settings) (word : Fit) (index : ℕ) (f : Fti) (flags : ℕ) (s : Holding) → fit_of p s index f flags ≡ word
    → has_sound_plans s ≡ true → has_sound_plans (fitted word index f flags s) ≡ true
fitted_sound p fit.Known index f flags s e h = h
fitted_sound p fit.Away index f flags s e h = h
fitted_sound p fit.Unfit index f flags s e h = h
fitted_sound p fit.Taken index f flags s e h =
    let no = unfit (is_over s index || is_known_plan s index f flags) (is_away p s index f flags) (is_unfit p s index f flags) e in
    let first = or_false _ _ (or_false _ _ no).0 in
    all_joined (λ (x : Plan). not (is_some (first_fault (cut_of_plan x)))) (new_plan index f flags) (ap not first.0) s.plans h

seen_sound : (at : Point) (plans : List Plan) → list_all (λ (x : Plan). not (is_some (first_fault (cut_of_plan x)))) plans ≡ true
    → list_all (λ (x : Plan). not (is_some (first_fault (cut_of_plan x)))) (map (plan_seen at) plans) ≡ true
seen_sound at [] e = refl
seen_sound at (x ∷ plans) e =
    ap (λ b. b && list_all test (map (plan_seen at) plans)) (one (x.index == at.index && says_stream x.flags) ∙ parts.0)
    ∙ seen_sound at plans parts.1
  where
    test : Plan → Bool
    test x = not (is_some (first_fault (cut_of_plan x)))

    parts : (test x ≡ true) × (list_all test plans ≡ true)
    parts = both_true (test x) (list_all test plans) e

    one : (b : Bool) → test (elim b as (λ _. Plan) [ true ↦ record x { seen = max x.seen at.block } | false ↦ x ]) ≡ test x
    one true = refl
    one false = refl

-- ---- the point stays a source symbol

at_first : (s : Holding) → has_sound_plans s ≡ true → s.point.symbol ≡ 0 → is_at_source s ≡ true
at_first s sound zero_here = go (plan_of s s.point.index) refl
  where
    go : (found : Option Plan) → plan_of s s.point.index ≡ found → elim found [
      | Some plan ↦ nat_lt s.point.symbol (source_symbols (cut_of_plan plan) s.point.block)
      | None ↦ true
    ] ≡ true
    go None is = refl
    go (Some plan) is =
        let some = some_sources (cut_of_plan plan) s.point.block (found_sound s.point.index s.plans plan sound is) in
        (Decides-ltb s.point.symbol (source_symbols (cut_of_plan plan) s.point.block)).1 (omega arith)

fitted_source : (p : Settings) (word : Fit) (index : ℕ) (f : Fti) (flags : ℕ) (s : Holding) → fit_of p s index f flags ≡ word → IsSteady p s
    → is_at_source (fitted word index f flags s) ≡ true
fitted_source p fit.Known index f flags s e h = h.source
fitted_source p fit.Away index f flags s e h = h.source
fitted_source p fit.Unfit index f flags s e h = h.source
fitted_source p fit.Taken index f flags s e h = go (new_found s.point.index (new_plan index f flags) s.plans)
  where
    t : Holding
    t = with_plan index f flags s

    source_by : Option Plan → Bool
    source_by found = elim found [ Some plan ↦ nat_lt s.point.symbol (source_symbols (cut_of_plan plan) s.point.block) | None ↦ true ]

    go : (plan_of t s.point.index ≡ plan_of s s.point.index) ⊎ ((index == s.point.index) ≡ true) → is_at_source t ≡ true
    go (inl same) = ap source_by same ∙ h.source
    go (inr own) =
        let none : plan_of s s.point.index ≡ None =
        ap (λ (n : ℕ). plan_of s n) (sym ((Decides-eqb index s.point.index).0 own)) ∙ taken_new p s index f flags e in
        let P : Option Plan → Type 0 = λ found. PassedBy p s found in
        let start : IsAtStart s = subst P none h.passed in
        at_first t (fitted_sound p fit.Taken index f flags s e h.sound) start.symbol

seen_source : (at : Point) (s : Holding) → is_at_source s ≡ true → is_at_source (sees_block at s) ≡ true
seen_source at s h = ap source_by (seen_found at s.point.index s.plans) ∙ go (plan_of s s.point.index) ∙ h
  where
    source_by : Option Plan → Bool
    source_by found = elim found [ Some plan ↦ nat_lt s.point.symbol (source_symbols (cut_of_plan plan) s.point.block) | None ↦ true ]

    one : (plan : Plan) (b : Bool)
        → source_by (Some (elim b as (λ _. Plan) [ true ↦ record plan { seen = max plan.seen at.block } | false ↦ plan ])) ≡ source_by (Some plan)
    one plan true = refl
    one plan false = refl

    go : (found : Option Plan) → source_by (option_map (plan_seen at) found) ≡ source_by found
    go None = refl
    go (Some plan) = one plan (plan.index == at.index && says_stream plan.flags)

-- ---- what puts, fits and sees keeps all of it

fitted_steady : (p : Settings) (word : Fit) (index : ℕ) (f : Fti) (flags : ℕ) (s : Holding) → fit_of p s index f flags ≡ word → IsSteady p s
    → IsSteady p (fitted word index f flags s)
fitted_steady p word index f flags s e h = record {
  passed = fitted_passed p word index f flags s e h.passed;
  sound = fitted_sound p word index f flags s e h.sound;
  source = fitted_source p word index f flags s e h;
}

seen_steady : (p : Settings) (at : Point) (s : Holding) → IsSteady p s → IsSteady p (sees_block at s)
seen_steady p at s h = record {
  passed = seen_passed p at s h.passed;
  sound = seen_sound at s.plans h.sound;
  source = seen_source at s h.source;
}

symbol_steady : (p : Settings) (word : Put) (at : Position) (payload : List ℕ) (s : Holding) → put_of p s at payload ≡ word → IsSteady p s
    → IsSteady p (with_symbol word at payload s)
symbol_steady p put.Had at payload s e h = h
symbol_steady p put.Away at payload s e h = h
symbol_steady p put.Unfit at payload s e h = h
symbol_steady p put.Kept at payload s e h =
    record { passed = symbol_passed p put.Kept at payload s e h.passed; sound = h.sound; source = h.source }

info_steady : (p : Settings) (word : Put) (index : ℕ) (info : List ℕ) (s : Holding) → IsSteady p s → IsSteady p (with_info word index info s)
info_steady p put.Had index info s h = h
info_steady p put.Away index info s h = h
info_steady p put.Unfit index info s h = h
info_steady p put.Kept index info s h =
    record { passed = info_passed p put.Kept index info s h.passed; sound = h.sound; source = h.source }

-- ---- a hand-up

this_state : (x y : Holding) → Some x ≡ Some y → x ≡ y
this_state x y e = cc

none_is : (x : Holding) → None ≡ Some x → ⊥
none_is x e = cc

-- what is held of blocks from a point on
abbrev from_point : Point → Held → Bool
from_point at h = not (point_before (point_of h.at) at)

abbrev count : Holding → ℕ
count s = length (filter (from_point (point_of s.point)) s.held)

-- a hand-up leaves the point a source symbol; there is more held from it on than its symbol says; and each takes one at least
record HandsOn (s t : Holding) : Type 0 where
  source : is_at_source t ≡ true
  some : s.point.symbol < count s
  takes : count t + s.point.symbol + 1 ≤ count s + t.point.symbol

apart : (q r t : Held → Bool) → ((h : Held) → q h ≡ true → t h ≡ true) → ((h : Held) → r h ≡ true → t h ≡ true)
    → ((h : Held) → q h ≡ true → r h ≡ true → ⊥) → (xs : List Held) → length (filter q xs) + length (filter r xs) ≤ length (filter t xs)
apart q r t first second never [] = omega arith
apart q r t first second never (x ∷ xs) = go (q x) (r x) (t x) refl refl refl (apart q r t first second never xs)
  where
    go : (a b c : Bool) → q x ≡ a → r x ≡ b → t x ≡ c → length (filter q xs) + length (filter r xs) ≤ length (filter t xs)
        → length (cond a (x ∷ filter q xs) (filter q xs)) + length (cond b (x ∷ filter r xs) (filter r xs)) ≤ length (cond c (x ∷ filter t xs) (filter t xs))
    go true true c e f g le = absurd (never x e f)
    go true false true e f g le = omega arith
    go true false false e f g le = absurd (clash (sym g ∙ first x e))
    go false true true e f g le = omega arith
    go false true false e f g le = absurd (clash (sym g ∙ second x f))
    go false false true e f g le = omega arith
    go false false false e f g le = le

-- what is held behind a block, and of it, is held from it on
block_apart : (index block : ℕ) (to : Point) → (index < to.index) ⊎ ((index ≡ to.index) × (block < to.block)) → (xs : List Held)
    → length (filter (from_point to) xs) + length (filter (λ (h : Held). h.at.index == index && h.at.block == block) xs)
    ≤ length (filter (from_point (point index block)) xs)
block_apart index block to on xs =
    apart (from_point to) (λ (h : Held). h.at.index == index && h.at.block == block) (from_point (point index block))
    (λ h e. ap not (not_before (point_of h.at) (point index block) (later h (behind_point (point_of h.at) to (not_true _ e)) on)))
    (λ h e. ap not (not_before (point_of h.at) (point index block) (own h e)))
    (λ h e f. never h (behind_point (point_of h.at) to (not_true _ e)) (own_is h f) on) xs
  where
    own_is : (h : Held) → (h.at.index == index && h.at.block == block) ≡ true → (h.at.index ≡ index) × (h.at.block ≡ block)
    own_is h e =
        let parts = both_true (h.at.index == index) (h.at.block == block) e in
        ((Decides-eqb h.at.index index).0 parts.0, (Decides-eqb h.at.block block).0 parts.1)

    own : (h : Held) → (h.at.index == index && h.at.block == block) ≡ true → (index < h.at.index) ⊎ ((index ≡ h.at.index) × (block ≤ h.at.block))
    own h e = let is = own_is h e in inr (sym is.0, let b = is.1 in omega arith)

    later : (h : Held) → (to.index < h.at.index) ⊎ ((to.index ≡ h.at.index) × (to.block ≤ h.at.block))
        → (index < to.index) ⊎ ((index ≡ to.index) × (block < to.block)) → (index < h.at.index) ⊎ ((index ≡ h.at.index) × (block ≤ h.at.block))
    later h (inl more) (inl less) = inl (omega arith)
    later h (inl more) (inr (same, less)) = inl (omega arith)
    later h (inr (same, more)) (inl less) = inl (omega arith)
    later h (inr (same, more)) (inr (also, less)) = inr (also ∙ same, omega arith)

    never : (h : Held) → (to.index < h.at.index) ⊎ ((to.index ≡ h.at.index) × (to.block ≤ h.at.block)) → (h.at.index ≡ index) × (h.at.block ≡ block)
        → (index < to.index) ⊎ ((index ≡ to.index) × (block < to.block)) → ⊥
    never h (inl more) is (inl less) = let a = is.0 in omega arith
    never h (inl more) is (inr (same, less)) = let a = is.0 in omega arith
    never h (inr (same, more)) is (inl less) = let a = is.0 in omega arith
    never h (inr (same, more)) is (inr (also, less)) = let a = is.1 in omega arith

done_many : (s : Holding) (plan : Plan) (block : ℕ) → is_done s plan block ≡ true
    → source_symbols (cut_of_plan plan) block ≤ length (held_of s plan.index block)
done_many s plan block e =
    let none = (Decides-eqb (source_symbols (cut_of_plan plan) block - length (held_of s plan.index block)) 0).0 e in omega (arith, none)

one_on : (p : Settings) (s after : Holding) → hands_one p s ≡ Some after → IsSteady p s → HandsOn s after
one_on p s after e h = go (plan_of s s.point.index) refl e
  where
    Of : Plan → Bool → Type 0
    Of plan b = elim b as (λ _. Type 0) [ true ↦ IsPassed p s plan | false ↦ IsAtStart s ]

    by_kind : (plan : Plan) (b : Bool) → plan_of s s.point.index ≡ Some plan → says_stream plan.flags ≡ b → Of plan b
    by_kind plan b found kind = let P : Option Plan → Type 0 = λ o. PassedBy p s o in subst (Of plan) kind (subst P found h.passed)

    here : (plan : Plan) → plan_of s s.point.index ≡ Some plan → plan.index ≡ s.point.index
    here plan found = index_of_found s.point.index s.plans plan found

    -- to a later block, where as many are held of this one as its symbol says
    to_block : (plan : Plan) → plan_of s s.point.index ≡ Some plan → (ups : List Up) (point : Position) → point.symbol ≡ 0
        → (s.point.index < point.index) ⊎ ((s.point.index ≡ point.index) × (s.point.block < point.block))
        → s.point.symbol + 1 ≤ length (held_of s plan.index s.point.block) → HandsOn s (handed ups point s)
    to_block plan found ups point first on many =
        let split = block_apart s.point.index s.point.block (point_of point) on s.held in
        let same : length (held_of s plan.index s.point.block) ≡ length (held_of s s.point.index s.point.block) =
        ap (λ n. length (held_of s n s.point.block)) (here plan found) in
        record {
          source = at_first (handed ups point s) h.sound first;
          some = omega (arith, split, same, many);
          takes = omega (arith, split, same, many, first);
        }

    -- a block of which the symbol at the point is there has so many
    many_held : (plan : Plan) → plan_of s s.point.index ≡ Some plan → says_stream plan.flags ≡ true
        → IsThere s plan (position plan.index s.point.block s.point.symbol) → s.point.symbol + 1 ≤ length (held_of s plan.index s.point.block)
    many_held plan found stream there = by (is_done s plan s.point.block) refl
      where
        passed : IsPassed p s plan
        passed = by_kind plan true found stream

        source_by : Option Plan → Bool
        source_by o = elim o [ Some plan ↦ nat_lt s.point.symbol (source_symbols (cut_of_plan plan) s.point.block) | None ↦ true ]

        within : s.point.symbol < source_symbols (cut_of_plan plan) s.point.block
        within = (Decides-ltb s.point.symbol (source_symbols (cut_of_plan plan) s.point.block)).0 (sym (ap source_by found) ∙ h.source)

        by : (b : Bool) → is_done s plan s.point.block ≡ b → s.point.symbol + 1 ≤ length (held_of s plan.index s.point.block)
        by true done = let many = done_many s plan s.point.block done in omega (arith, within)
        by false undone = many_ids (s.point.symbol + 1) (held_of s plan.index s.point.block) (λ id lt. held id (up_to id (cases_lt id s.point.symbol) lt))
          where
            up_to : (id : ℕ) → (id < s.point.symbol) ⊎ (s.point.symbol ≤ id) → id < s.point.symbol + 1
                → IsThere s plan (position plan.index s.point.block id)
            up_to id (inl less) lt = passed.there id less
            up_to id (inr ge) lt =
                subst (λ n. IsThere s plan (position plan.index s.point.block n)) (let same : s.point.symbol ≡ id = omega arith in same) there

            held : (id : ℕ) → IsThere s plan (position plan.index s.point.block id)
                → list_any (λ (x : Held). x.at.symbol == id) (held_of s plan.index s.point.block) ≡ true
            held id (inl done) = absurd (clash (sym undone ∙ done))
            held id (inr is) = is

    this : (t : Holding) → HandsOn s t → Some t ≡ Some after → HandsOn s after
    this t k f = let P : Holding → Type 0 = λ x. HandsOn s x in subst P (this_state t after f) k

    whole : (plan : Plan) → plan_of s s.point.index ≡ Some plan → says_stream plan.flags ≡ false → (b : Bool) → is_whole s plan ≡ b
        → elim b as (λ _. Option Holding) [
          | true ↦ Some (handed (up.Object plan.index (kind_of plan.flags) (told_info s plan) (object_octets s plan) ∷ []) (after_object plan.index) s)
          | false ↦ None
        ] ≡ Some after → HandsOn s after
    whole plan found kind false is f = absurd (none_is after f)
    whole plan found kind true is f =
        this _ (to_block plan found _ (after_object plan.index) refl (inl (let z = here plan found in omega arith))
        (let k = some_sources (cut_of_plan plan) s.point.block sound in let z = start.symbol in let many = done_many s plan s.point.block done in omega arith)) f
      where
        start : IsAtStart s
        start = by_kind plan false found kind

        sound : IsSound (cut_of_plan plan)
        sound = found_sound s.point.index s.plans plan h.sound found

        first_done : (n : ℕ) → 0 < n → list_all (is_done s plan) (range_with_len 0 n) ≡ true → is_done s plan 0 ≡ true
        first_done zero some all = absurd (omega arith)
        first_done (suc n) some all = (both_true (is_done s plan 0) (list_all (is_done s plan) (range_with_len 1 n)) all).0

        done : is_done s plan s.point.block ≡ true
        done = subst (λ n. is_done s plan n ≡ true) (sym start.block)
            (first_done (blocks (cut_of_plan plan)) (some_blocks_of (cut_of_plan plan) sound)
            (both_true (has_its_info s plan) (list_all (is_done s plan) (range_with_len 0 (blocks (cut_of_plan plan)))) is).1)

    segment : (plan : Plan) → plan_of s s.point.index ≡ Some plan → says_stream plan.flags ≡ true → (o : Option (List ℕ)) → next_segment s plan ≡ o
        → elim o as (λ _. Option Holding) [ Some symbol ↦ Some (hands_segment p s plan symbol) | None ↦ None ] ≡ Some after → HandsOn s after
    segment plan found stream None is f = absurd (none_is after f)
    segment plan found stream (Some symbol) is f = this (hands_segment p s plan symbol) (long (segment_length p symbol)) f
      where
        ups : List Up
        ups = open_before s.point ++ segment_up p s.point.index symbol ∷ []

        many : s.point.symbol + 1 ≤ length (held_of s plan.index s.point.block)
        many = many_held plan found stream (value_there s plan s.point.block s.point.symbol symbol stream is)

        source_by : Option Plan → Bool
        source_by o = elim o [ Some plan ↦ nat_lt (s.point.symbol + 1) (source_symbols (cut_of_plan plan) s.point.block) | None ↦ true ]

        goes : (b : Bool) → nat_lt (s.point.symbol + 1) (source_symbols (cut_of_plan plan) s.point.block) ≡ b → HandsOn s (handed ups (elim b as (λ _. Position) [
          | true ↦ position s.point.index s.point.block (s.point.symbol + 1)
          | false ↦ position s.point.index (s.point.block + 1) 0
        ]) s)
        goes false e = to_block plan found ups (position s.point.index (s.point.block + 1) 0) refl (inr (refl, omega arith)) many
        goes true e =
            let next = to_block plan found ups (position s.point.index (s.point.block + 1) 0) refl (inr (refl, omega arith)) many in
            record { source = ap source_by found ∙ e; some = next.some; takes = omega arith }

        long : (n : ℕ) → HandsOn s (handed ups (elim n as (λ _. Position) [
          | zero ↦ after_object s.point.index
          | suc n ↦ elim (nat_lt (s.point.symbol + 1) (source_symbols (cut_of_plan plan) s.point.block)) [
            | true ↦ position s.point.index s.point.block (s.point.symbol + 1)
            | false ↦ position s.point.index (s.point.block + 1) 0
          ]
        ]) s)
        long zero = to_block plan found ups (after_object s.point.index) refl (inl (omega arith)) many
        long (suc n) = goes (nat_lt (s.point.symbol + 1) (source_symbols (cut_of_plan plan) s.point.block)) refl

    streams : (plan : Plan) → plan_of s s.point.index ≡ Some plan → says_stream plan.flags ≡ true → (b : Bool)
        → elim b as (λ _. Option Holding) [
          | true ↦ elim (next_segment s plan) [ Some symbol ↦ Some (hands_segment p s plan symbol) | None ↦ None ]
          | false ↦ None
        ] ≡ Some after → HandsOn s after
    streams plan found stream true f = segment plan found stream (next_segment s plan) refl f
    streams plan found stream false f = absurd (none_is after f)

    kinds : (plan : Plan) → plan_of s s.point.index ≡ Some plan → (b : Bool) → says_stream plan.flags ≡ b
        → elim b as (λ _. Option Holding) [ true ↦ hands_next p s plan | false ↦ hands_object s plan ] ≡ Some after → HandsOn s after
    kinds plan found true kind f = streams plan found kind (has_its_info s plan) f
    kinds plan found false kind f = whole plan found kind (is_whole s plan) refl f

    go : (o : Option Plan) → plan_of s s.point.index ≡ o → elim o as (λ _. Option Holding) [
      | Some plan ↦ elim (says_stream plan.flags) [ true ↦ hands_next p s plan | false ↦ hands_object s plan ]
      | None ↦ None
    ] ≡ Some after → HandsOn s after
    go None found f = absurd (none_is after f)
    go (Some plan) found f = kinds plan found (says_stream plan.flags) refl f

same_sound : (s t : Holding) → HoldsSame s t → has_sound_plans s ≡ true → has_sound_plans t ≡ true
same_sound s t same e = ap (λ (plans : List Plan). list_all (λ (x : Plan). not (is_some (first_fault (cut_of_plan x)))) plans) same.plans ∙ e

one_steady : (p : Settings) (s after : Holding) → hands_one p s ≡ Some after → IsSteady p s → IsSteady p after
one_steady p s after e h = record {
  passed = one_passed p s after e h.passed;
  sound = same_sound s after (one_hands p s after e).holds h.sound;
  source = (one_on p s after e h).source;
}

-- ---- as far as it can

most_far : (n : ℕ) (p : Settings) (s : Holding) → IsSteady p s → count s ≤ n + s.point.symbol → IsFar p (hands_most n p s)
unfolding hands_most
most_far zero p s h le = go (hands_one p s) refl
  where
    go : (next : Option Holding) → hands_one p s ≡ next → IsFar p s
    go None e = record { steady = h; stuck = e }
    go (Some after) e = absurd (let more = (one_on p s after e h).some in omega arith)
most_far (suc n) p s h le = go (hands_one p s) refl (λ t k small. most_far n p t k small)
  where
    go : (next : Option Holding) → hands_one p s ≡ next
        → ((t : Holding) → IsSteady p t → count t ≤ n + t.point.symbol → IsFar p (hands_most n p t))
        → IsFar p (elim next as (λ _. Holding) [ Some after ↦ hands_most n p after | None ↦ s ])
    go None e more = record { steady = h; stuck = e }
    go (Some after) e more = more after (one_steady p s after e h) (let takes = (one_on p s after e h).takes in omega arith)

pub up_far : (p : Settings) (s : Holding) → IsSteady p s → IsFar p (handed_up p s)
up_far p s h = most_far (length s.held) p s h (let few = filter_few (from_point (point_of s.point)) s.held in omega arith)

-- ---- a message, and a squelch

-- something can be handed up, by the plan at the point
abbrev can_hand : Holding → Option Plan → Bool
can_hand s found = elim found [
  | Some plan ↦ elim (says_stream plan.flags) [ true ↦ has_its_info s plan && is_some (next_segment s plan) | false ↦ is_whole s plan ]
  | None ↦ false
]

can_is : (p : Settings) (s : Holding) → is_some (hands_one p s) ≡ can_hand s (plan_of s s.point.index)
can_is p s = go (plan_of s s.point.index)
  where
    object : (plan : Plan) (x : Holding) (b : Bool) → is_some (elim b as (λ _. Option Holding) [ true ↦ Some x | false ↦ None ]) ≡ b
    object plan x true = refl
    object plan x false = refl

    value : (plan : Plan) (o : Option (List ℕ))
        → is_some (elim o as (λ _. Option Holding) [ Some symbol ↦ Some (hands_segment p s plan symbol) | None ↦ None ]) ≡ is_some o
    value plan (Some symbol) = refl
    value plan None = refl

    stream : (plan : Plan) (b : Bool) → is_some (elim b as (λ _. Option Holding) [
      | true ↦ elim (next_segment s plan) [ Some symbol ↦ Some (hands_segment p s plan symbol) | None ↦ None ]
      | false ↦ None
    ]) ≡ (b && is_some (next_segment s plan))
    stream plan true = value plan (next_segment s plan)
    stream plan false = refl

    kinds : (plan : Plan) (b : Bool) → is_some (elim b as (λ _. Option Holding) [ true ↦ hands_next p s plan | false ↦ hands_object s plan ])
        ≡ elim b [ true ↦ has_its_info s plan && is_some (next_segment s plan) | false ↦ is_whole s plan ]
    kinds plan true = stream plan (has_its_info s plan)
    kinds plan false = object plan _ (is_whole s plan)

    go : (o : Option Plan) → is_some (elim o as (λ _. Option Holding) [
      | Some plan ↦ elim (says_stream plan.flags) [ true ↦ hands_next p s plan | false ↦ hands_object s plan ]
      | None ↦ None
    ]) ≡ can_hand s o
    go None = refl
    go (Some plan) = kinds plan (says_stream plan.flags)

-- where the same can be handed up, and nothing could be, nothing can be
still_stuck : (p : Settings) (s t : Holding) → can_hand t (plan_of t t.point.index) ≡ can_hand s (plan_of s s.point.index)
    → hands_one p s ≡ None → hands_one p t ≡ None
still_stuck p s t same e = go (hands_one p t) (can_is p t ∙ same ∙ sym (can_is p s) ∙ ap (λ (o : Option Holding). is_some o) e)
  where
    go : (o : Option Holding) → is_some o ≡ false → o ≡ None
    go None f = refl
    go (Some x) f = absurd (clash (sym f))

seen_stuck : (p : Settings) (at : Point) (s : Holding) → hands_one p s ≡ None → hands_one p (sees_block at s) ≡ None
seen_stuck p at s e =
    still_stuck p s (sees_block at s) (ap (can_hand (sees_block at s)) (seen_found at s.point.index s.plans) ∙ go (plan_of s s.point.index)) e
  where
    one : (plan : Plan) (b : Bool)
        → can_hand (sees_block at s) (Some (elim b as (λ _. Plan) [ true ↦ record plan { seen = max plan.seen at.block } | false ↦ plan ]))
        ≡ can_hand s (Some plan)
    one plan true = refl
    one plan false = refl

    go : (found : Option Plan) → can_hand (sees_block at s) (option_map (plan_seen at) found) ≡ can_hand s found
    go None = refl
    go (Some plan) = one plan (plan.index == at.index && says_stream plan.flags)

seen_far : (p : Settings) (at : Point) (s : Holding) → IsFar p s → IsFar p (sees_block at s)
seen_far p at s h = record { steady = seen_steady p at s h.steady; stuck = seen_stuck p at s h.stuck }

object_far : (p : Settings) (at : Position) (extensions : List Extension) (flags : ℕ) (brings : Holding → Holding) (s : Holding)
    → ((t : Holding) → IsSteady p t → IsSteady p (brings t)) → IsFar p s → IsFar p (object_held p at extensions flags brings s)
object_far p at extensions flags brings s kept h = go (fti_of extensions)
  where
    put : (t : Holding) → IsSteady p t → IsFar p (handed_up p (brings (sees_block (point_of at) t)))
    put t k = up_far p (brings (sees_block (point_of at) t)) (kept (sees_block (point_of at) t) (seen_steady p (point_of at) t k))

    by : (f : Fti) (word : Fit) → fit_of p s at.index f flags ≡ word → IsFar p (elim (lets_put word) as (λ _. Holding) [
      | true ↦ handed_up p (brings (sees_block (point_of at) (fitted word at.index f flags s)))
      | false ↦ sees_block (point_of at) (fitted word at.index f flags s)
    ])
    by f fit.Known e = put s h.steady
    by f fit.Away e = seen_far p (point_of at) s h
    by f fit.Unfit e = seen_far p (point_of at) s h
    by f fit.Taken e = put (fitted fit.Taken at.index f flags s) (fitted_steady p fit.Taken at.index f flags s e h.steady)

    go : (found : Option Fti) → IsFar p (elim found as (λ _. Holding) [
      | Some f ↦ (
          let word = fit_of p s at.index f flags in
          let s' = sees_block (point_of at) (fitted word at.index f flags s) in
          elim (lets_put word) [ true ↦ handed_up p (brings s') | false ↦ s' ]
          )
      | None ↦ handed_up p (brings (sees_block (point_of at) s))
    ])
    go None = put s h.steady
    go (Some f) = by f (fit_of p s at.index f flags) refl

lost_steady : (p : Settings) (s : Holding) → IsSteady p s → IsSteady p (loses_one s)
lost_steady p s h = record { passed = lost_passed p s; sound = h.sound; source = at_first (loses_one s) h.sound refl }

before_far : (p : Settings) (n index : ℕ) (s : Holding) → IsSteady p s → IsFar p (loses_before n p index s)
unfolding loses_before
before_far p zero index s h = up_far p s h
before_far p (suc n) index s h = go (nat_lt (handed_up p s).point.index index) (λ t k. before_far p n index t k)
  where
    go : (b : Bool) → ((t : Holding) → IsSteady p t → IsFar p (loses_before n p index t))
        → IsFar p (elim b as (λ _. Holding) [ true ↦ loses_before n p index (loses_one (handed_up p s)) | false ↦ handed_up p s ])
    go true more = more (loses_one (handed_up p s)) (lost_steady p (handed_up p s) (up_far p s h).steady)
    go false more = up_far p s h

squelch_far : (p : Settings) (first : Point) (s : Holding) → IsSteady p s → IsFar p (squelched p first s)
squelch_far p first s h =
    let t : Holding = loses_before (first.index - s.point.index) p first.index s in
    go t (t.point.index == first.index && is_cut_off t first) (before_far p (first.index - s.point.index) first.index s h)
  where
    go : (t : Holding) (b : Bool) → IsFar p t → IsFar p (elim b as (λ _. Holding) [ true ↦ handed_up p (loses_one t) | false ↦ t ])
    go t true k = up_far p (loses_one t) (lost_steady p t k.steady)
    go t false k = k

taken_far : (p : Settings) (s : Holding) → IsFar p s → IsFar p (up_taken s).0
taken_far p s h = go s.ups (taken_passed p s h.steady.passed)
  where
    holding_of : Holding × Option Up → Holding
    holding_of step = step.0

    go : (ups : List Up) → HasPassed p (holding_of (elim ups [ up ∷ more ↦ (record s { ups = more }, Some up) | [] ↦ (s, None) ]))
        → IsFar p (holding_of (elim ups [ up ∷ more ↦ (record s { ups = more }, Some up) | [] ↦ (s, None) ]))
    go [] passed = h
    go (up ∷ more) passed = record {
      steady = record { passed = passed; sound = h.steady.sound; source = h.steady.source };
      stuck = still_stuck p s (record s { ups = more }) refl h.stuck;
    }

is_kept : (p : Settings) → HoldingIsKept p (λ s. IsFar p s)
is_kept p = record {
  nothing = record { steady = record { passed = record { block = refl; symbol = refl }; sound = refl; source = refl }; stuck = refl };
  symbol = λ at extensions flags payload s h.
      object_far p at extensions flags (put_symbol p at payload) s (λ t k. symbol_steady p (put_of p t at payload) at payload t refl k) h;
  info = λ at extensions flags index info s h.
      object_far p at extensions flags (put_info p index info) s (λ t k. info_steady p (put_info_of p t index info) index info t k) h;
  squelch = λ first s h. squelch_far p first s h.steady;
  take = λ s h. taken_far p s h;
}

pub far_laws : FarLaws
far_laws = record {
  far = λ p s h. (up_far p s h).stuck;
  begins = λ p node. record { steady = record { passed = record { block = refl; symbol = refl }; sound = refl; source = refl }; stuck = refl };
  goes_on = λ p s event h. steps_keep p (λ t. IsFar p t) (is_kept p) s event h;
}
