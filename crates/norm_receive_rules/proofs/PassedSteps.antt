-- Of a stream each block before the hand-up point's is done: kept by hand-ups, messages and squelches.
use Rattle.std.proofs.Common.{◌≡◌, ℕ, zero, suc, cond, ◌+◌, ◌-◌, ◌<◌, ◌≤◌, inl, inr, List, [], ◌∷◌, ◌++◌, map, length, Bool, true, false, Option, None, Some, refl, sym, ap, subst, ◌∙◌, arith}
use Rattle.std.specs.Prelude.{find, max, nat_lt, ◌==◌, ◌&&◌, option_map}
use Rattle.std.specs.List.{list_any}
use Rattle.std.proofs.lemmas.Bool.{cases_lt, ne_eqb}
use Rattle.std.proofs.lemmas.Bool.Decides.{Decides-ltb, Decides-eqb}
use Rattle.norm_base.specs.Settings.{Settings}
use Rattle.fec_plan.specs.Partition.{source_symbols}
use Rattle.fec_plan.specs.Points.{Point, point_of, position}
use Rattle.fec_plan.specs.declared.position.Position.{Position}
use Rattle.norm_ext.specs.Extensions.{Extension, fti_of}
use Rattle.norm_ext.specs.declared.fti.Fti.{Fti}
use Rattle.norm_order.specs.declared.up.Up.{Up}
use Rattle.norm_order.specs.declared.up.Up.TheVariants as up
use Rattle.norm_receive_rules.specs.BlockValue.{block_value, held_symbol}
use Rattle.norm_receive_rules.specs.Fitting.{fit_of, fitted, lets_put}
use Rattle.norm_receive_rules.specs.HandingUp.{after_object, handed, is_whole, kind_of, told_info, object_octets, hands_object, segment_length, segment_up, open_before, next_segment, hands_segment, hands_next, hands_one, hands_most, handed_up}
use Rattle.norm_receive_rules.specs.Holding.{Holding, Plan, Held}
use Rattle.norm_receive_rules.specs.Laws.{IsAtStart, IsPassed, PassedBy, HasPassed, PassedLaws}
use Rattle.norm_receive_rules.specs.Losing.{loses_one, loses_before, is_cut_off, squelched}
use Rattle.norm_receive_rules.specs.NothingMissing.{IsThere}
use Rattle.norm_receive_rules.specs.Plans.{cut_of_plan, says_stream, plan_of, held_of, is_done, has_its_info}
use Rattle.norm_receive_rules.specs.StreamNeeds.{is_end}
use Rattle.norm_receive_rules.specs.Putting.{put_of, put_symbol, put_info_of, put_info}
use Rattle.norm_receive_rules.specs.Receiving.{object_held}
use Rattle.norm_receive_rules.specs.Seeing.{plan_seen, sees_block}
use Rattle.norm_receive_rules.specs.Taking.{up_taken}
use Rattle.norm_receive_rules.proofs.HoldingSteps.{HoldingIsKept, steps_keep}
use Rattle.norm_receive_rules.proofs.PassedLemmas.{clash, many_ids, starts_here, found_any, more_passed, symbol_passed, same_held, info_passed, fitted_passed}

-- ---- a block that is seen

pub seen_found : (at : Point) (index : ℕ) (plans : List Plan) → find (λ (y : Plan). y.index == index) (map (plan_seen at) plans)
    ≡ option_map (plan_seen at) (find (λ (y : Plan). y.index == index) plans)
seen_found at index [] = refl
seen_found at index (x ∷ plans) =
    same (x.index == at.index && says_stream x.flags)
    ∙ ap (λ (o : Option Plan). cond (x.index == index) (Some (plan_seen at x)) o) (seen_found at index plans)
    ∙ moves (x.index == index)
  where
    rest : Option Plan
    rest = find (λ (y : Plan). y.index == index) (map (plan_seen at) plans)

    seen : Bool → Plan
    seen b = elim b as (λ _. Plan) [ true ↦ record x { seen = max x.seen at.block } | false ↦ x ]

    same : (b : Bool) → ◌≡◌ {A = Option Plan} (cond ((seen b).index == index) (Some (seen b)) rest) (cond (x.index == index) (Some (seen b)) rest)
    same true = refl
    same false = refl

    moves : (b : Bool) → cond b (Some (plan_seen at x)) (option_map (plan_seen at) (find (λ (y : Plan). y.index == index) plans))
        ≡ option_map (plan_seen at) (cond b (Some x) (find (λ (y : Plan). y.index == index) plans))
    moves true = refl
    moves false = refl

pub seen_passed : (p : Settings) (at : Point) (s : Holding) → HasPassed p s → HasPassed p (sees_block at s)
seen_passed p at s h =
    let P : Option Plan → Type 0 = λ found. PassedBy p (sees_block at s) found in
    subst P (sym (seen_found at s.point.index s.plans)) (go (plan_of s s.point.index) (more_passed p s (sees_block at s) (plan_of s s.point.index)
    (same_held s (sees_block at s) refl refl) (λ plan found stream symbol octets v. v) h))
  where
    t : Holding
    t = sees_block at s

    one : (plan : Plan) (b c : Bool) → says_stream plan.flags ≡ c → elim c as (λ _. Type 0) [ true ↦ IsPassed p t plan | false ↦ IsAtStart t ]
        → PassedBy p t (Some (elim b as (λ _. Plan) [ true ↦ record plan { seen = max plan.seen at.block } | false ↦ plan ]))
    one plan true c e k = by c (says_stream plan.flags) (sym e) k
      where
        by : (c d : Bool) → c ≡ d → elim c as (λ _. Type 0) [ true ↦ IsPassed p t plan | false ↦ IsAtStart t ]
            → elim d as (λ _. Type 0) [ true ↦ IsPassed p t (record plan { seen = max plan.seen at.block }) | false ↦ IsAtStart t ]
        by true true f k = record { done = k.done; there = k.there; no_end = k.no_end }
        by false false f k = k
        by true false f k = absurd (clash (sym f))
        by false true f k = absurd (clash f)
    one plan false c e k = subst (λ (d : Bool). elim d as (λ _. Type 0) [ true ↦ IsPassed p t plan | false ↦ IsAtStart t ]) (sym e) k

    go : (found : Option Plan) → PassedBy p t found → PassedBy p t (option_map (plan_seen at) found)
    go None k = k
    go (Some plan) k = one plan (plan.index == at.index && says_stream plan.flags) (says_stream plan.flags) refl k

-- ---- hand-ups

at_next : (p : Settings) (ups : List Up) (index : ℕ) (s : Holding) → HasPassed p (handed ups (after_object index) s)
at_next p ups index s = starts_here p (handed ups (after_object index) s) (record { block = refl; symbol = refl })

-- a symbol of a stream that has a value is there
pub value_there : (s : Holding) (plan : Plan) (block symbol : ℕ) (octets : List ℕ) → says_stream plan.flags ≡ true
    → block_value s plan block symbol ≡ Some octets → IsThere s plan (position plan.index block symbol)
value_there s plan block symbol octets stream e = go (is_done s plan block) _ refl e
  where
    held : List Held
    held = held_of s plan.index block

    by_kind : Bool → Option (List ℕ)
    by_kind b = elim b as (λ _. Option (List ℕ)) [ true ↦ held_symbol held symbol | false ↦ None ]

    go : (b : Bool) (x : List ℕ) → is_done s plan block ≡ b → elim b as (λ _. Option (List ℕ)) [ true ↦ Some x | false ↦ by_kind (says_stream plan.flags) ] ≡ Some octets
        → IsThere s plan (position plan.index block symbol)
    go true x is f = inl is
    go false x is f = inr (found_any symbol octets held (sym (ap by_kind stream) ∙ f))

-- a block of which each source symbol is there is done
block_done : (s : Holding) (plan : Plan) (block : ℕ)
    → ((symbol : ℕ) → symbol < source_symbols (cut_of_plan plan) block → IsThere s plan (position plan.index block symbol)) → is_done s plan block ≡ true
block_done s plan block each = go (is_done s plan block) refl
  where
    none_left : (k n : ℕ) → k ≤ n → (k - n == 0) ≡ true
    none_left k n le = (Decides-eqb (k - n) 0).1 (omega arith)

    held : is_done s plan block ≡ false → (symbol : ℕ) → symbol < source_symbols (cut_of_plan plan) block
        → list_any (λ (h : Held). h.at.symbol == symbol) (held_of s plan.index block) ≡ true
    held e symbol lt = elim (each symbol lt) [ inl done ↦ absurd (clash (sym e ∙ done)) | inr is ↦ is ]

    go : (b : Bool) → is_done s plan block ≡ b → is_done s plan block ≡ true
    go true e = e
    go false e = none_left (source_symbols (cut_of_plan plan) block) (length (held_of s plan.index block))
        (many_ids (source_symbols (cut_of_plan plan) block) (held_of s plan.index block) (held e))

-- the place behind a segment, by its length and by whether its block goes on
abbrev behind : ℕ → Bool → Position → Position
behind long goes_on at = elim long [
  | zero ↦ after_object at.index
  | suc n ↦ elim goes_on [ true ↦ position at.index at.block (at.symbol + 1) | false ↦ position at.index (at.block + 1) 0 ]
]

segment_passed : (p : Settings) (plan : Plan) (ups : List Up) (s : Holding) (octets : List ℕ) (long : ℕ) → segment_length p octets ≡ long
    → plan_of s s.point.index ≡ Some plan → says_stream plan.flags ≡ true → HasPassed p s
    → IsThere s plan (position plan.index s.point.block s.point.symbol)
    → block_value s plan s.point.block s.point.symbol ≡ Some octets
    → HasPassed p (handed ups (behind long (nat_lt (s.point.symbol + 1) (source_symbols (cut_of_plan plan) s.point.block)) s.point) s)
segment_passed p plan ups s octets zero is found stream h next value = at_next p ups s.point.index s
segment_passed p plan ups s octets (suc n) is found stream h next value = go (nat_lt (s.point.symbol + 1) (source_symbols (cut_of_plan plan) s.point.block)) refl
  where
    Of : Holding → Bool → Type 0
    Of t b = elim b as (λ _. Type 0) [ true ↦ IsPassed p t plan | false ↦ IsAtStart t ]

    passed : IsPassed p s plan
    passed = let P : Option Plan → Type 0 = λ o. PassedBy p s o in subst (Of s) stream (subst P found h)

    up_to : (symbol : ℕ) → symbol < s.point.symbol + 1 → IsThere s plan (position plan.index s.point.block symbol)
    up_to symbol lt = elim (cases_lt symbol s.point.symbol) [
      | inl less ↦ passed.there symbol less
      | inr ge ↦ (
          let T : ℕ → Type 0 = λ n. IsThere s plan (position plan.index s.point.block n) in
          subst T (let same : s.point.symbol ≡ symbol = omega arith in same) next
          )
    ]

    segment_ends : Option (List ℕ) → Bool
    segment_ends o = elim o [ Some octets ↦ segment_length p octets == 0 | None ↦ false ]

    no_end : (symbol : ℕ) → symbol < s.point.symbol + 1 → is_end p s plan (position plan.index s.point.block symbol) ≡ false
    no_end symbol lt = elim (cases_lt symbol s.point.symbol) [
      | inl less ↦ passed.no_end symbol less
      | inr ge ↦ (
          let E : ℕ → Type 0 = λ n. is_end p s plan (position plan.index s.point.block n) ≡ false in
          subst E (let same : s.point.symbol ≡ symbol = omega arith in same) (ap segment_ends value ∙ ap (λ n. n == 0) is ∙ ne_eqb (suc n) 0 (λ e. absurd (omega arith)))
          )
    ]

    before : nat_lt (s.point.symbol + 1) (source_symbols (cut_of_plan plan) s.point.block) ≡ false → (block : ℕ) → block < s.point.block + 1
        → is_done s plan block ≡ true
    before e block lt = elim (cases_lt block s.point.block) [
      | inl less ↦ passed.done block less
      | inr ge ↦ (
          let D : ℕ → Type 0 = λ n. is_done s plan n ≡ true in
          subst D (let same : s.point.block ≡ block = omega arith in same)
          (block_done s plan s.point.block (λ symbol small. up_to symbol (last e symbol small)))
          )
    ]
      where
        last : nat_lt (s.point.symbol + 1) (source_symbols (cut_of_plan plan) s.point.block) ≡ false → (symbol : ℕ)
            → symbol < source_symbols (cut_of_plan plan) s.point.block → symbol < s.point.symbol + 1
        last e symbol small = elim (cases_lt symbol (s.point.symbol + 1)) [
          | inl less ↦ less
          | inr ge ↦ absurd (clash (sym e ∙ (Decides-ltb (s.point.symbol + 1) (source_symbols (cut_of_plan plan) s.point.block)).1 (omega arith)))
        ]

    of_stream : (t : Holding) → plan_of t t.point.index ≡ Some plan → IsPassed p t plan → HasPassed p t
    of_stream t there k = let P : Option Plan → Type 0 = λ o. PassedBy p t o in subst P (sym there) (subst (Of t) (sym stream) k)

    go : (b : Bool) → nat_lt (s.point.symbol + 1) (source_symbols (cut_of_plan plan) s.point.block) ≡ b
        → HasPassed p (handed ups (elim b as (λ _. Position) [
          | true ↦ position s.point.index s.point.block (s.point.symbol + 1)
          | false ↦ position s.point.index (s.point.block + 1) 0
        ]) s)
    go true e = of_stream (handed ups (position s.point.index s.point.block (s.point.symbol + 1)) s) found (record { done = passed.done; there = up_to; no_end = no_end })
    go false e = of_stream (handed ups (position s.point.index (s.point.block + 1) 0) s) found
        (record { done = before e; there = λ symbol lt. absurd (omega arith); no_end = λ symbol lt. absurd (omega arith) })

same_state : (x y : Holding) → Some x ≡ Some y → x ≡ y
same_state x y e = cc

no_state : (x : Holding) → None ≡ Some x → ⊥
no_state x e = cc

pub one_passed : (p : Settings) (s after : Holding) → hands_one p s ≡ Some after → HasPassed p s → HasPassed p after
one_passed p s after e h = go (plan_of s s.point.index) refl e
  where
    same : (t : Holding) → Some t ≡ Some after → HasPassed p t → HasPassed p after
    same t f k = let P : Holding → Type 0 = λ x. HasPassed p x in subst P (same_state t after f) k

    objects : (plan : Plan) (b : Bool)
        → elim b as (λ _. Option Holding) [
          | true ↦ Some (handed (up.Object plan.index (kind_of plan.flags) (told_info s plan) (object_octets s plan) ∷ []) (after_object plan.index) s)
          | false ↦ None
        ] ≡ Some after → HasPassed p after
    objects plan true f = same _ f (at_next p _ plan.index s)
    objects plan false f = absurd (no_state after f)

    segments : (plan : Plan) → plan_of s s.point.index ≡ Some plan → says_stream plan.flags ≡ true → (o : Option (List ℕ)) → next_segment s plan ≡ o
        → elim o as (λ _. Option Holding) [ Some symbol ↦ Some (hands_segment p s plan symbol) | None ↦ None ] ≡ Some after → HasPassed p after
    segments plan found stream None is f = absurd (no_state after f)
    segments plan found stream (Some symbol) is f =
        same (hands_segment p s plan symbol) f
        (segment_passed p plan (open_before s.point ++ segment_up p s.point.index symbol ∷ []) s symbol (segment_length p symbol) refl found stream h
        (value_there s plan s.point.block s.point.symbol symbol stream is) is)

    streams : (plan : Plan) → plan_of s s.point.index ≡ Some plan → says_stream plan.flags ≡ true → (b : Bool)
        → elim b as (λ _. Option Holding) [
          | true ↦ elim (next_segment s plan) [ Some symbol ↦ Some (hands_segment p s plan symbol) | None ↦ None ]
          | false ↦ None
        ] ≡ Some after → HasPassed p after
    streams plan found stream true f = segments plan found stream (next_segment s plan) refl f
    streams plan found stream false f = absurd (no_state after f)

    kinds : (plan : Plan) → plan_of s s.point.index ≡ Some plan → (b : Bool) → says_stream plan.flags ≡ b
        → elim b as (λ _. Option Holding) [ true ↦ hands_next p s plan | false ↦ hands_object s plan ] ≡ Some after → HasPassed p after
    kinds plan found true stream f = streams plan found stream (has_its_info s plan) f
    kinds plan found false stream f = objects plan (is_whole s plan) f

    go : (o : Option Plan) → plan_of s s.point.index ≡ o
        → elim o as (λ _. Option Holding) [
          | Some plan ↦ elim (says_stream plan.flags) [ true ↦ hands_next p s plan | false ↦ hands_object s plan ]
          | None ↦ None
        ] ≡ Some after → HasPassed p after
    go None found f = absurd (no_state after f)
    go (Some plan) found f = kinds plan found (says_stream plan.flags) refl f

most_passed : (p : Settings) (n : ℕ) (s : Holding) → HasPassed p s → HasPassed p (hands_most n p s)
unfolding hands_most
most_passed p zero s h = h
most_passed p (suc n) s h = go (hands_one p s) refl (λ t k. most_passed p n t k)
  where
    go : (next : Option Holding) → hands_one p s ≡ next → ((t : Holding) → HasPassed p t → HasPassed p (hands_most n p t))
        → HasPassed p (elim next as (λ _. Holding) [ Some after ↦ hands_most n p after | None ↦ s ])
    go None e more = h
    go (Some after) e more = more after (one_passed p s after e h)

up_passed : (p : Settings) (s : Holding) → HasPassed p s → HasPassed p (handed_up p s)
up_passed p s h = most_passed p (length s.held) s h

-- ---- a message, and a squelch

object_passed : (p : Settings) (at : Position) (extensions : List Extension) (flags : ℕ) (brings : Holding → Holding) (s : Holding)
    → ((t : Holding) → HasPassed p t → HasPassed p (brings t)) → HasPassed p s → HasPassed p (object_held p at extensions flags brings s)
object_passed p at extensions flags brings s kept h = go (fti_of extensions)
  where
    put : (t : Holding) → HasPassed p t → (b : Bool) → HasPassed p (elim b as (λ _. Holding) [ true ↦ handed_up p (brings t) | false ↦ t ])
    put t k true = up_passed p (brings t) (kept t k)
    put t k false = k

    go : (found : Option Fti) → HasPassed p (elim found as (λ _. Holding) [
      | Some f ↦ (
          let word = fit_of p s at.index f flags in
          let s' = sees_block (point_of at) (fitted word at.index f flags s) in
          elim (lets_put word) [ true ↦ handed_up p (brings s') | false ↦ s' ]
          )
      | None ↦ handed_up p (brings (sees_block (point_of at) s))
    ])
    go None = put (sees_block (point_of at) s) (seen_passed p (point_of at) s h) true
    go (Some f) = put (sees_block (point_of at) (fitted (fit_of p s at.index f flags) at.index f flags s))
        (seen_passed p (point_of at) _ (fitted_passed p (fit_of p s at.index f flags) at.index f flags s refl h)) (lets_put (fit_of p s at.index f flags))

pub lost_passed : (p : Settings) (s : Holding) → HasPassed p (loses_one s)
lost_passed p s = starts_here p (loses_one s) (record { block = refl; symbol = refl })

before_passed : (p : Settings) (n index : ℕ) (s : Holding) → HasPassed p s → HasPassed p (loses_before n p index s)
unfolding loses_before
before_passed p zero index s h = up_passed p s h
before_passed p (suc n) index s h = go (nat_lt (handed_up p s).point.index index) (λ t k. before_passed p n index t k)
  where
    go : (b : Bool) → ((t : Holding) → HasPassed p t → HasPassed p (loses_before n p index t))
        → HasPassed p (elim b as (λ _. Holding) [ true ↦ loses_before n p index (loses_one (handed_up p s)) | false ↦ handed_up p s ])
    go true more = more (loses_one (handed_up p s)) (lost_passed p (handed_up p s))
    go false more = up_passed p s h

squelched_passed : (p : Settings) (first : Point) (s : Holding) → HasPassed p s → HasPassed p (squelched p first s)
squelched_passed p first s h =
    let t : Holding = loses_before (first.index - s.point.index) p first.index s in
    go t (t.point.index == first.index && is_cut_off t first) (before_passed p (first.index - s.point.index) first.index s h)
  where
    go : (t : Holding) (b : Bool) → HasPassed p t → HasPassed p (elim b as (λ _. Holding) [ true ↦ handed_up p (loses_one t) | false ↦ t ])
    go t true k = up_passed p (loses_one t) (lost_passed p t)
    go t false k = k

pub taken_passed : (p : Settings) (s : Holding) → HasPassed p s → HasPassed p (up_taken s).0
taken_passed p s h = go s.ups
  where
    holding_of : Holding × Option Up → Holding
    holding_of step = step.0

    go : (ups : List Up) → HasPassed p (holding_of (elim ups [ up ∷ more ↦ (record s { ups = more }, Some up) | [] ↦ (s, None) ]))
    go [] = h
    go (up ∷ more) = more_passed p s (record s { ups = more }) (plan_of s s.point.index) (same_held s (record s { ups = more }) refl refl)
        (λ plan found stream symbol octets e. e) h

is_kept : (p : Settings) → HoldingIsKept p (λ s. HasPassed p s)
is_kept p = record {
  nothing = record { block = refl; symbol = refl };
  symbol = λ at extensions flags payload s h.
      object_passed p at extensions flags (put_symbol p at payload) s (λ t k. symbol_passed p (put_of p t at payload) at payload t refl k) h;
  info = λ at extensions flags index info s h.
      object_passed p at extensions flags (put_info p index info) s (λ t k. info_passed p (put_info_of p t index info) index info t k) h;
  squelch = λ first s h. squelched_passed p first s h;
  take = λ s h. taken_passed p s h;
}

pub passed_laws : PassedLaws
passed_laws = record {
  begins = λ p node. record { block = refl; symbol = refl };
  goes_on = λ p s event h. steps_keep p (λ t. HasPassed p t) (is_kept p) s event h;
}
