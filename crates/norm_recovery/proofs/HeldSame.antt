-- What is held stays as it is, where a symbol or an info comes that is had, or a squelch up to the hand-up point.
use Rattle.std.proofs.Common.{◌≡◌, ℕ, zero, suc, ◌-◌, ◌≤◌, ◌⊎◌, inl, inr, List, [], ◌∷◌, length, map, Bool, true, false, Option, None, Some, refl, sym, ap, ◌∙◌, arith}
use Rattle.std.specs.Prelude.{◌==◌, ◌&&◌, ◌||◌, max, nat_lt, is_some, is_none, not}
use Rattle.std.specs.List.{AllByRecursion}
use Rattle.std.proofs.lemmas.Bool.Decides.{Decides-eqb}
use Rattle.norm_base.specs.Settings.{Settings}
use Rattle.fec_plan.specs.Partition.{first_fault}
use Rattle.fec_plan.specs.Points.{Point, point_of}
use Rattle.fec_plan.specs.declared.position.Position.{Position}
use Rattle.norm_ext.specs.Extensions.{Extension, fti_of}
use Rattle.norm_ext.specs.declared.fti.Fti.{Fti}
use Rattle.norm_order.specs.First.{first_where}
use Rattle.norm_receive_rules.specs.Fitting.{is_known_plan, is_away, is_unfit, fit_of, fitted, lets_put}
use Rattle.norm_receive_rules.specs.HandingUp.{hands_one, hands_most, handed_up, next_segment}
use Rattle.norm_receive_rules.specs.Holding.{Holding, Plan}
use Rattle.norm_receive_rules.specs.Losing.{loses_one, loses_before, is_cut_off, loses_at, squelched}
use Rattle.norm_receive_rules.specs.Plans.{cut_by, says_stream, says_info, plan_of, is_over, holds, is_done, info_of}
use Rattle.norm_receive_rules.specs.Putting.{is_far, is_misfit, put_by, with_symbol, put_symbol, put_info_by, with_info, put_info}
use Rattle.norm_receive_rules.specs.Receiving.{object_held}
use Rattle.norm_receive_rules.specs.Seeing.{plan_seen, sees_block}
use Rattle.norm_receive_rules.specs.declared.words.Fit.{Fit}
use Rattle.norm_receive_rules.specs.declared.words.Fit.TheVariants as fit
use Rattle.norm_receive_rules.specs.declared.words.Put.{Put}
use Rattle.norm_receive_rules.specs.declared.words.Put.TheVariants as put
use Rattle.norm_safety.proofs.EntryLemmas.{clash}

-- ---- nothing is handed up where nothing can be

stuck_most : (n : ℕ) (p : Settings) (h : Holding) → hands_one p h ≡ None → hands_most n p h ≡ h
unfolding hands_most
stuck_most zero p h e = refl
stuck_most (suc n) p h e = ap (λ (o : Option Holding). elim o as (λ _. Holding) [ Some after ↦ hands_most n p after | None ↦ h ]) e

pub stuck_same : (p : Settings) (h : Holding) → hands_one p h ≡ None → handed_up p h ≡ h
stuck_same p h e = stuck_most (length h.held) p h e

none_lost : (p : Settings) (index : ℕ) (h : Holding) → hands_one p h ≡ None → loses_before 0 p index h ≡ h
unfolding loses_before
none_lost p index h e = stuck_same p h e

-- A squelch up to an object that is not behind the hand-up point, and of which no block was dropped.
pub squelch_same : (p : Settings) (first : Point) (h : Holding) → hands_one p h ≡ None → first.index ≤ h.point.index
    → (h.point.index ≡ first.index → is_cut_off h first ≡ false) → squelched p first h ≡ h
squelch_same p first h stuck le kept =
    ap (loses_at p first) (ap (λ (n : ℕ). loses_before n p first.index h) (let z : first.index - h.point.index ≡ 0 = omega (arith, le) in z) ∙ none_lost p first.index h stuck)
    ∙ go (h.point.index == first.index) (is_cut_off h first) refl refl
  where
    go : (a b : Bool) → (h.point.index == first.index) ≡ a → is_cut_off h first ≡ b
        → (elim (a && b) as (λ _. Holding) [ true ↦ handed_up p (loses_one h) | false ↦ h ]) ≡ h
    go true true e f = absurd (clash (sym (kept ((Decides-eqb h.point.index first.index).0 e)) ∙ f))
    go true false e f = refl
    go false b e f = refl

pub not_cut_off : (h : Holding) (first : Point) → first.block ≡ 0 → ((plan : Plan) → plan_of h h.point.index ≡ Some plan → says_stream plan.flags ≡ false)
    → is_cut_off h first ≡ false
not_cut_off h first zero_block whole = go (plan_of h h.point.index) refl
  where
    go : (o : Option Plan) → plan_of h h.point.index ≡ o → (elim o as (λ _. Bool) [
      | Some plan ↦ says_stream plan.flags && nat_lt h.point.block first.block && is_none (next_segment h plan)
      | None ↦ nat_lt 0 first.block
    ]) ≡ false
    go None e = ap (nat_lt 0) zero_block
    go (Some plan) e = ap (λ (b : Bool). b && nat_lt h.point.block first.block && is_none (next_segment h plan)) (whole plan e)

-- ---- what comes with an object

-- a block is seen of an object that is no stream
pub seen_same : (at : Point) (h : Holding) → AllByRecursion (λ (plan : Plan). plan.index ≡ at.index → says_stream plan.flags ≡ false) h.plans
    → sees_block at h ≡ h
seen_same at h all = ap (λ (plans : List Plan). record h { plans = plans }) (each h.plans all)
  where
    one : (q : Plan) → (q.index ≡ at.index → says_stream q.flags ≡ false) → plan_seen at q ≡ q
    one q whole = go (q.index == at.index) (says_stream q.flags) refl refl
      where
        go : (a b : Bool) → (q.index == at.index) ≡ a → says_stream q.flags ≡ b
            → (elim (a && b) as (λ _. Plan) [ true ↦ record q { seen = max q.seen at.block } | false ↦ q ]) ≡ q
        go true true e f = absurd (clash (sym (whole ((Decides-eqb q.index at.index).0 e)) ∙ f))
        go true false e f = refl
        go false b e f = refl

    each : (plans : List Plan) → AllByRecursion (λ (plan : Plan). plan.index ≡ at.index → says_stream plan.flags ≡ false) plans → map (plan_seen at) plans ≡ plans
    each [] all = refl
    each (q ∷ plans) all = ap (λ (x : Plan). x ∷ map (plan_seen at) plans) (one q all.0) ∙ ap (λ (xs : List Plan). q ∷ xs) (each plans all.1)

-- an object is over, or has a plan
abbrev pub IsKnown : Holding → ℕ → Type 0
IsKnown h index = (is_over h index ≡ true) ⊎ ((plan : Plan) × (plan_of h index ≡ Some plan))

pub fits_same : (p : Settings) (h : Holding) (index : ℕ) (f : Fti) (flags : ℕ) → IsKnown h index → fitted (fit_of p h index f flags) index f flags h ≡ h
unfolding first_where
fits_same p h index f flags known = go (is_over h index) (is_known_plan h index f flags) (is_away p h index f flags) (is_unfit p h index f flags) refl refl (of known)
  where
    of : IsKnown h index → (is_over h index ≡ true) ⊎ (is_unfit p h index f flags ≡ true)
    of (inl e) = inl e
    of (inr (plan, e)) =
        inr (by (is_some (first_fault (cut_by f flags))) (is_some (plan_of h index)) _ (ap (λ (o : Option Plan). is_some o) e))
      where
        by : (a b c : Bool) → b ≡ true → (a || b || c) ≡ true
        by true b c e = refl
        by false true c e = refl
        by false false c e = absurd (clash e)

    go : (over same away unfit : Bool) → is_over h index ≡ over → is_unfit p h index f flags ≡ unfit → (is_over h index ≡ true) ⊎ (is_unfit p h index f flags ≡ true)
        → fitted (elim (first_where ((over || same, fit.Known) ∷ (away, fit.Away) ∷ (unfit, fit.Unfit) ∷ [])) as (λ _. Fit) [ Some word ↦ word | None ↦ fit.Taken ])
        index f flags h ≡ h
    go true same away unfit e g k = refl
    go false true away unfit e g k = refl
    go false false true unfit e g k = refl
    go false false false true e g k = refl
    go false false false false e g (inl is) = absurd (clash (sym e ∙ is))
    go false false false false e g (inr is) = absurd (clash (sym g ∙ is))

-- a symbol's object is over; or its plan is known, and the symbol is held or its block is done
abbrev pub HasIt : Holding → Position → Type 0
HasIt h at = (is_over h at.index ≡ true) ⊎ ((plan : Plan) × (plan_of h at.index ≡ Some plan) × ((holds h at || is_done h plan at.block) ≡ true))

pub symbol_same : (p : Settings) (h : Holding) (at : Position) (payload : List ℕ) → HasIt h at → put_symbol p at payload h ≡ h
unfolding first_where
symbol_same p h at payload has = go (is_over h at.index) refl has
  where
    planned : Option Plan → Put
    planned o = elim o as (λ _. Put) [ Some plan ↦ put_by p h plan at payload | None ↦ put.Away ]

    by_plan : (plan : Plan) → (holds h at || is_done h plan at.block) ≡ true → with_symbol (put_by p h plan at payload) at payload h ≡ h
    by_plan plan e = ap (λ (b : Bool). with_symbol (elim (first_where (
        (b, put.Had) ∷ (is_far p h plan at.block, put.Away) ∷ (is_misfit p plan at payload, put.Unfit) ∷ []
        )) as (λ _. Put) [ Some word ↦ word | None ↦ put.Kept ]) at payload h) e

    go : (over : Bool) → is_over h at.index ≡ over → HasIt h at
        → with_symbol (elim over as (λ _. Put) [ true ↦ put.Had | false ↦ planned (plan_of h at.index) ]) at payload h ≡ h
    go true e has = refl
    go false e (inl is) = absurd (clash (sym e ∙ is))
    go false e (inr (plan, known, own)) = ap (λ (o : Option Plan). with_symbol (planned o) at payload h) known ∙ by_plan plan own

-- an object is over; or its plan is known, and its info is held
abbrev pub HasItsInfo : Holding → ℕ → Type 0
HasItsInfo h index = (is_over h index ≡ true) ⊎ ((plan : Plan) × (plan_of h index ≡ Some plan) × (is_some (info_of h plan.index) ≡ true))

pub info_same : (p : Settings) (h : Holding) (index : ℕ) (info : List ℕ) → HasItsInfo h index → put_info p index info h ≡ h
info_same p h index info has = go (is_over h index) refl has
  where
    planned : Option Plan → Put
    planned o = elim o as (λ _. Put) [ Some plan ↦ put_info_by p h plan info | None ↦ put.Away ]

    by_plan : (plan : Plan) → is_some (info_of h plan.index) ≡ true → with_info (put_info_by p h plan info) index info h ≡ h
    by_plan plan e =
        ap (λ (b : Bool). with_info (elim b as (λ _. Put) [
          | true ↦ put.Had
          | false ↦ elim (nat_lt p.e (length info) || not (says_info plan.flags)) [ true ↦ put.Unfit | false ↦ put.Kept ]
        ]) index info h) e

    go : (over : Bool) → is_over h index ≡ over → HasItsInfo h index
        → with_info (elim over as (λ _. Put) [ true ↦ put.Had | false ↦ planned (plan_of h index) ]) index info h ≡ h
    go true e has = refl
    go false e (inl is) = absurd (clash (sym e ∙ is))
    go false e (inr (plan, known, own)) = ap (λ (o : Option Plan). with_info (planned o) index info h) known ∙ by_plan plan own

-- all of it
pub object_same : (p : Settings) (at : Position) (extensions : List Extension) (flags : ℕ) (brings : Holding → Holding) (h : Holding) → hands_one p h ≡ None
    → sees_block (point_of at) h ≡ h → ((f : Fti) → fitted (fit_of p h at.index f flags) at.index f flags h ≡ h) → brings h ≡ h
    → object_held p at extensions flags brings h ≡ h
object_same p at extensions flags brings h stuck seen fits same = go (fti_of extensions)
  where
    up : (x : Holding) → x ≡ h → handed_up p (brings x) ≡ h
    up x e = ap (λ (y : Holding). handed_up p (brings y)) e ∙ ap (handed_up p) same ∙ stuck_same p h stuck

    by : (f : Fti) (b : Bool) → (
        let s' = sees_block (point_of at) (fitted (fit_of p h at.index f flags) at.index f flags h) in
        elim b as (λ _. Holding) [ true ↦ handed_up p (brings s') | false ↦ s' ]
        ) ≡ h
    by f true = up _ (ap (sees_block (point_of at)) (fits f) ∙ seen)
    by f false = ap (sees_block (point_of at)) (fits f) ∙ seen

    go : (found : Option Fti) → (elim found as (λ _. Holding) [
      | Some f ↦ (
          let word = fit_of p h at.index f flags in
          let s' = sees_block (point_of at) (fitted word at.index f flags h) in
          elim (lets_put word) [ true ↦ handed_up p (brings s') | false ↦ s' ]
          )
      | None ↦ handed_up p (brings (sees_block (point_of at) h))
    ]) ≡ h
    go None = up (sees_block (point_of at) h) seen
    go (Some f) = by f (lets_put (fit_of p h at.index f flags))
