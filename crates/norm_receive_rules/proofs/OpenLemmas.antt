-- Of a stream's parts none comes before its open.
use Rattle.std.proofs.Common.{◌≡◌, ℕ, zero, suc, ◌+◌, ◌-◌, List, [], ◌∷◌, ◌++◌, length, Bool, true, false, Option, None, Some, refl, sym, ap, subst, ◌∙◌}
use Rattle.std.specs.Prelude.{take, drop, nat_lt, ◌==◌, ◌&&◌}
use Rattle.std.proofs.lemmas.Bool.Decides.{Decides-eqb}
use Rattle.norm_base.specs.Settings.{Settings}
use Rattle.fec_plan.specs.Partition.{source_symbols}
use Rattle.fec_plan.specs.Points.{Point, point_of, position}
use Rattle.fec_plan.specs.declared.position.Position.{Position}
use Rattle.norm_ext.specs.Extensions.{Extension, fti_of}
use Rattle.norm_ext.specs.Numbers.{number}
use Rattle.norm_ext.specs.declared.fti.Fti.{Fti}
use Rattle.norm_order.specs.declared.up.Up.{Up}
use Rattle.norm_order.specs.declared.up.Up.TheVariants as up
use Rattle.norm_receive_rules.specs.Fitting.{fit_of, fitted, lets_put}
use Rattle.norm_receive_rules.specs.HandingUp.{after_object, handed, is_whole, kind_of, told_info, object_octets, hands_object, segment_length, segment_up, open_before, next_segment, hands_segment, hands_next, hands_one, hands_most, handed_up}
use Rattle.norm_receive_rules.specs.Holding.{Holding, Plan}
use Rattle.norm_receive_rules.specs.Losing.{loses_one, loses_before, is_cut_off, squelched}
use Rattle.norm_receive_rules.specs.OpenLaws.{opened, last_opened, may_come, each_may_come, IsOpened, OpenLaws}
use Rattle.norm_receive_rules.specs.Plans.{cut_of_plan, says_stream, plan_of, has_its_info}
use Rattle.norm_receive_rules.specs.Putting.{put_of, put_symbol, with_symbol, put_info_of, put_info, with_info}
use Rattle.norm_receive_rules.specs.Receiving.{object_held}
use Rattle.norm_receive_rules.specs.Seeing.{sees_block}
use Rattle.norm_receive_rules.specs.Taking.{up_taken}
use Rattle.norm_receive_rules.specs.declared.words.Fit.{Fit}
use Rattle.norm_receive_rules.specs.declared.words.Fit.TheVariants as fit
use Rattle.norm_receive_rules.specs.declared.words.Put.{Put}
use Rattle.norm_receive_rules.specs.declared.words.Put.TheVariants as put

clash : false ≡ true → ⊥
clash e = cc

both : (a b : Bool) → a ≡ true → b ≡ true → (a && b) ≡ true
both true b e f = f
both false b e f = absurd (clash e)

both_true : (a b : Bool) → (a && b) ≡ true → (a ≡ true) × (b ≡ true)
both_true true b e = (refl, e)
both_true false b e = absurd (clash e)

this_state : (x y : Holding) → Some x ≡ Some y → x ≡ y
this_state x y e = cc

none_is : (x : Holding) → None ≡ Some x → ⊥
none_is x e = cc

-- hand-ups behind others
each_joined : (last : Option ℕ) (ups more : List Up) → each_may_come last ups ≡ true → each_may_come (last_opened last ups) more ≡ true
    → each_may_come last (ups ++ more) ≡ true
unfolding each_may_come
each_joined last [] more e f = f
each_joined last (u ∷ ups) more e f =
    let parts = both_true (may_come last u) (each_may_come (opened last u) ups) e in
    both (may_come last u) (each_may_come (opened last u) (ups ++ more)) parts.0 (each_joined (opened last u) ups more parts.1 f)

last_joined : (last : Option ℕ) (ups more : List Up) → last_opened last (ups ++ more) ≡ last_opened (last_opened last ups) more
last_joined last [] more = refl
last_joined last (u ∷ ups) more = last_joined (opened last u) ups more

nothing_waits : each_may_come None [] ≡ true
unfolding each_may_come
nothing_waits = refl

-- these come, and the point is at the begin of an object then
at_begin : (last : Option ℕ) (ups : List Up) (point : Position) (s : Holding) → IsOpened last s → each_may_come (last_opened last s.ups) ups ≡ true
    → (point.block == 0 && point.symbol == 0) ≡ true → IsOpened last (handed ups point s)
at_begin last ups point s h e first = record {
  ups = each_joined last s.ups ups h.ups e;
  begun = λ no. absurd (clash (sym no ∙ first));
}

one_alone : (last : Option ℕ) (u : Up) → may_come last u ≡ true → each_may_come last (u ∷ []) ≡ true
unfolding each_may_come
one_alone last u e = both (may_come last u) true e refl

open_then : (last : Option ℕ) (index : ℕ) (u : Up) → may_come (Some index) u ≡ true → each_may_come last (up.StreamOpen index ∷ u ∷ []) ≡ true
unfolding each_may_come
open_then last index u e = both (may_come (Some index) u) true e refl

-- a segment is a part of its stream, and opens none
abbrev IsPart : ℕ → Up → Type 0
IsPart index u = (may_come (Some index) u ≡ true) × ((last : Option ℕ) → opened last u ≡ last)

part_is : (p : Settings) (index : ℕ) (symbol : List ℕ) → IsPart index (segment_up p index symbol)
part_is p index symbol = go (segment_length p symbol)
  where
    go : (n : ℕ) → IsPart index (elim n as (λ _. Up) [
      | zero ↦ up.StreamEnd index
      | suc n ↦ up.StreamBytes index (number 4 4 symbol) (take (suc n) (drop 8 symbol))
    ])
    go zero = ((Decides-eqb index index).1 refl, λ last. refl)
    go (suc n) = ((Decides-eqb index index).1 refl, λ last. refl)

-- the segment at the point comes, and then its stream's open came last
segment_comes : (last : Option ℕ) (s : Holding) (u : Up) → IsOpened last s → IsPart s.point.index u
    → (each_may_come (last_opened last s.ups) (open_before s.point ++ u ∷ []) ≡ true)
    × (last_opened (last_opened last s.ups) (open_before s.point ++ u ∷ []) ≡ Some s.point.index)
segment_comes last s u h part = go (s.point.block == 0 && s.point.symbol == 0) h.begun
  where
    before : Option ℕ
    before = last_opened last s.ups

    go : (b : Bool) → (b ≡ false → before ≡ Some s.point.index)
        → (each_may_come before (elim b as (λ _. List Up) [ true ↦ up.StreamOpen s.point.index ∷ [] | false ↦ [] ] ++ u ∷ []) ≡ true)
        × (last_opened before (elim b as (λ _. List Up) [ true ↦ up.StreamOpen s.point.index ∷ [] | false ↦ [] ] ++ u ∷ []) ≡ Some s.point.index)
    go true begun = (open_then before s.point.index u part.0, part.1 (Some s.point.index))
    go false begun = (
      one_alone before u (ap (λ (o : Option ℕ). may_come o u) (begun refl) ∙ part.0),
      part.1 before ∙ begun refl,
    )

one_opened : (p : Settings) (last : Option ℕ) (s after : Holding) → hands_one p s ≡ Some after → IsOpened last s → IsOpened last after
one_opened p last s after e h = go (plan_of s s.point.index) e
  where
    this : (t : Holding) → IsOpened last t → Some t ≡ Some after → IsOpened last after
    this t k f = let P : Holding → Type 0 = λ x. IsOpened last x in subst P (this_state t after f) k

    whole : (plan : Plan) (b : Bool) → elim b as (λ _. Option Holding) [
      | true ↦ Some (handed (up.Object plan.index (kind_of plan.flags) (told_info s plan) (object_octets s plan) ∷ []) (after_object plan.index) s)
      | false ↦ None
    ] ≡ Some after → IsOpened last after
    whole plan true f = this _ (at_begin last _ (after_object plan.index) s h (one_alone (last_opened last s.ups) _ refl) refl) f
    whole plan false f = absurd (none_is after f)

    segment : (plan : Plan) (o : Option (List ℕ))
        → elim o as (λ _. Option Holding) [ Some symbol ↦ Some (hands_segment p s plan symbol) | None ↦ None ] ≡ Some after → IsOpened last after
    segment plan None f = absurd (none_is after f)
    segment plan (Some symbol) f = this (hands_segment p s plan symbol) (long (segment_length p symbol)) f
      where
        ups : List Up
        ups = open_before s.point ++ segment_up p s.point.index symbol ∷ []

        comes : (each_may_come (last_opened last s.ups) ups ≡ true) × (last_opened (last_opened last s.ups) ups ≡ Some s.point.index)
        comes = segment_comes last s (segment_up p s.point.index symbol) h (part_is p s.point.index symbol)

        within : (to : Position) → to.index ≡ s.point.index → IsOpened last (handed ups to s)
        within to same = record {
          ups = each_joined last s.ups ups h.ups comes.0;
          begun = λ no. last_joined last s.ups ups ∙ comes.1 ∙ ap (λ (n : ℕ). Some n) (sym same);
        }

        goes : (b : Bool) → IsOpened last (handed ups (elim b as (λ _. Position) [
          | true ↦ position s.point.index s.point.block (s.point.symbol + 1)
          | false ↦ position s.point.index (s.point.block + 1) 0
        ]) s)
        goes true = within (position s.point.index s.point.block (s.point.symbol + 1)) refl
        goes false = within (position s.point.index (s.point.block + 1) 0) refl

        long : (n : ℕ) → IsOpened last (handed ups (elim n as (λ _. Position) [
          | zero ↦ after_object s.point.index
          | suc n ↦ elim (nat_lt (s.point.symbol + 1) (source_symbols (cut_of_plan plan) s.point.block)) [
            | true ↦ position s.point.index s.point.block (s.point.symbol + 1)
            | false ↦ position s.point.index (s.point.block + 1) 0
          ]
        ]) s)
        long zero = at_begin last ups (after_object s.point.index) s h comes.0 refl
        long (suc n) = goes (nat_lt (s.point.symbol + 1) (source_symbols (cut_of_plan plan) s.point.block))

    streams : (plan : Plan) (b : Bool) → elim b as (λ _. Option Holding) [
      | true ↦ elim (next_segment s plan) [ Some symbol ↦ Some (hands_segment p s plan symbol) | None ↦ None ]
      | false ↦ None
    ] ≡ Some after → IsOpened last after
    streams plan true f = segment plan (next_segment s plan) f
    streams plan false f = absurd (none_is after f)

    kinds : (plan : Plan) (b : Bool)
        → elim b as (λ _. Option Holding) [ true ↦ hands_next p s plan | false ↦ hands_object s plan ] ≡ Some after → IsOpened last after
    kinds plan true f = streams plan (has_its_info s plan) f
    kinds plan false f = whole plan (is_whole s plan) f

    go : (o : Option Plan) → elim o as (λ _. Option Holding) [
      | Some plan ↦ elim (says_stream plan.flags) [ true ↦ hands_next p s plan | false ↦ hands_object s plan ]
      | None ↦ None
    ] ≡ Some after → IsOpened last after
    go None f = absurd (none_is after f)
    go (Some plan) f = kinds plan (says_stream plan.flags) f

most_opened : (p : Settings) (last : Option ℕ) (n : ℕ) (s : Holding) → IsOpened last s → IsOpened last (hands_most n p s)
unfolding hands_most
most_opened p last zero s h = h
most_opened p last (suc n) s h = go (hands_one p s) refl (λ t k. most_opened p last n t k)
  where
    go : (next : Option Holding) → hands_one p s ≡ next → ((t : Holding) → IsOpened last t → IsOpened last (hands_most n p t))
        → IsOpened last (elim next as (λ _. Holding) [ Some after ↦ hands_most n p after | None ↦ s ])
    go None e more = h
    go (Some after) e more = more after (one_opened p last s after e h)

up_opened : (p : Settings) (last : Option ℕ) (s : Holding) → IsOpened last s → IsOpened last (handed_up p s)
up_opened p last s h = most_opened p last (length s.held) s h

-- ---- the same hand-ups and the same point

same_opened : (last : Option ℕ) (s t : Holding) → t.ups ≡ s.ups → t.point ≡ s.point → IsOpened last s → IsOpened last t
same_opened last s t ups at h = record {
  ups = ap (each_may_come last) ups ∙ h.ups;
  begun = λ no. ap (last_opened last) ups ∙ h.begun (sym (ap (λ (x : Position). x.block == 0 && x.symbol == 0) at) ∙ no)
      ∙ ap (λ (x : Position). Some (x.index)) (sym at);
}

fitted_opened : (last : Option ℕ) (word : Fit) (index : ℕ) (f : Fti) (flags : ℕ) (s : Holding) → IsOpened last s → IsOpened last (fitted word index f flags s)
fitted_opened last fit.Known index f flags s h = h
fitted_opened last fit.Away index f flags s h = h
fitted_opened last fit.Unfit index f flags s h = h
fitted_opened last fit.Taken index f flags s h = record { ups = h.ups; begun = h.begun }

symbol_opened : (last : Option ℕ) (word : Put) (at : Position) (payload : List ℕ) (s : Holding) → IsOpened last s → IsOpened last (with_symbol word at payload s)
symbol_opened last put.Kept at payload s h = record { ups = h.ups; begun = h.begun }
symbol_opened last put.Had at payload s h = h
symbol_opened last put.Away at payload s h = h
symbol_opened last put.Unfit at payload s h = h

info_opened : (last : Option ℕ) (word : Put) (index : ℕ) (info : List ℕ) (s : Holding) → IsOpened last s → IsOpened last (with_info word index info s)
info_opened last put.Kept index info s h = record { ups = h.ups; begun = h.begun }
info_opened last put.Had index info s h = h
info_opened last put.Away index info s h = h
info_opened last put.Unfit index info s h = h

object_opened : (p : Settings) (last : Option ℕ) (at : Position) (extensions : List Extension) (flags : ℕ) (brings : Holding → Holding) (s : Holding)
    → ((t : Holding) → IsOpened last t → IsOpened last (brings t)) → IsOpened last s → IsOpened last (object_held p at extensions flags brings s)
object_opened p last at extensions flags brings s kept h = go (fti_of extensions)
  where
    put : (t : Holding) → IsOpened last t → (b : Bool) → IsOpened last (elim b as (λ _. Holding) [ true ↦ handed_up p (brings t) | false ↦ t ])
    put t k true = up_opened p last (brings t) (kept t k)
    put t k false = k

    seen : (t : Holding) → IsOpened last t → IsOpened last (sees_block (point_of at) t)
    seen t k = record { ups = k.ups; begun = k.begun }

    go : (found : Option Fti) → IsOpened last (elim found as (λ _. Holding) [
      | Some f ↦ (
          let word = fit_of p s at.index f flags in
          let s' = sees_block (point_of at) (fitted word at.index f flags s) in
          elim (lets_put word) [ true ↦ handed_up p (brings s') | false ↦ s' ]
          )
      | None ↦ handed_up p (brings (sees_block (point_of at) s))
    ])
    go None = put (sees_block (point_of at) s) (seen s h) true
    go (Some f) = put (sees_block (point_of at) (fitted (fit_of p s at.index f flags) at.index f flags s))
        (seen (fitted (fit_of p s at.index f flags) at.index f flags s) (fitted_opened last (fit_of p s at.index f flags) at.index f flags s h))
        (lets_put (fit_of p s at.index f flags))

lost_opened : (last : Option ℕ) (s : Holding) → IsOpened last s → IsOpened last (loses_one s)
lost_opened last s h =
    let k = at_begin last (up.Lost s.point.index ∷ []) (after_object s.point.index) s h (one_alone (last_opened last s.ups) (up.Lost s.point.index) refl) refl in
    record { ups = k.ups; begun = k.begun }

before_opened : (p : Settings) (last : Option ℕ) (n index : ℕ) (s : Holding) → IsOpened last s → IsOpened last (loses_before n p index s)
unfolding loses_before
before_opened p last zero index s h = up_opened p last s h
before_opened p last (suc n) index s h = go (nat_lt (handed_up p s).point.index index) (λ t k. before_opened p last n index t k)
  where
    go : (b : Bool) → ((t : Holding) → IsOpened last t → IsOpened last (loses_before n p index t))
        → IsOpened last (elim b as (λ _. Holding) [ true ↦ loses_before n p index (loses_one (handed_up p s)) | false ↦ handed_up p s ])
    go true more = more (loses_one (handed_up p s)) (lost_opened last (handed_up p s) (up_opened p last s h))
    go false more = up_opened p last s h

squelch_opened : (p : Settings) (last : Option ℕ) (first : Point) (s : Holding) → IsOpened last s → IsOpened last (squelched p first s)
squelch_opened p last first s h =
    let t : Holding = loses_before (first.index - s.point.index) p first.index s in
    go t (t.point.index == first.index && is_cut_off t first) (before_opened p last (first.index - s.point.index) first.index s h)
  where
    go : (t : Holding) (b : Bool) → IsOpened last t → IsOpened last (elim b as (λ _. Holding) [ true ↦ handed_up p (loses_one t) | false ↦ t ])
    go t true k = up_opened p last (loses_one t) (lost_opened last t k)
    go t false k = k

-- ---- taking

take_opened : (last : Option ℕ) (s : Holding) (u : Up) → (up_taken s).1 ≡ Some u → IsOpened last s
    → (may_come last u ≡ true) × IsOpened (opened last u) (up_taken s).0
unfolding each_may_come
take_opened last s u e h = go s.ups e h.ups h.begun
  where
    Step : Type 0
    Step = Holding × Option Up

    taking : List Up → Holding × Option Up
    taking ups = elim ups [ up ∷ more ↦ (record s { ups = more }, Some up) | [] ↦ (s, None) ]

    none : None ≡ Some u → ⊥
    none f = cc

    same : (x : Up) → Some x ≡ Some u → x ≡ u
    same x f = cc

    go : (ups : List Up) → (taking ups).1 ≡ Some u → each_may_come last ups ≡ true
        → ((s.point.block == 0 && s.point.symbol == 0) ≡ false → last_opened last ups ≡ Some s.point.index)
        → (may_come last u ≡ true) × IsOpened (opened last u) (taking ups).0
    go [] f each begun = absurd (none f)
    go (x ∷ more) f each begun =
        let parts = both_true (may_come last x) (each_may_come (opened last x) more) each in
        let P : Up → Type 0 = λ y. (may_come last y ≡ true) × IsOpened (opened last y) (record s { ups = more }) in
        subst P (same x f) (parts.0, record { ups = parts.1; begun = begun })

pub open_laws : OpenLaws
open_laws = record {
  nothing = record { ups = nothing_waits; begun = λ no. absurd (clash (sym no)) };
  symbol = λ p last at extensions flags payload s h.
      object_opened p last at extensions flags (put_symbol p at payload) s (λ t k. symbol_opened last (put_of p t at payload) at payload t k) h;
  info = λ p last at extensions flags index info s h.
      object_opened p last at extensions flags (put_info p index info) s (λ t k. info_opened last (put_info_of p t index info) index info t k) h;
  squelch = squelch_opened;
  take = take_opened;
}
