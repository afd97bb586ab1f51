-- Each symbol that a receiver holds is of an object whose plan it knows: kept by each step.
use Rattle.std.proofs.Common.{◌≡◌, ℕ, cond, List, [], ◌∷◌, Bool, true, false, Option, None, Some, refl, sym, subst}
use Rattle.std.specs.Prelude.{map, max, find, ◌==◌, ◌&&◌, ◌||◌}
use Rattle.std.specs.List.{AllByRecursion, list_any}
use Rattle.norm_base.specs.Settings.{Settings}
use Rattle.fec_plan.specs.Points.{Point, point_of}
use Rattle.fec_plan.specs.declared.position.Position.{Position}
use Rattle.norm_ext.specs.Extensions.{Extension, fti_of}
use Rattle.norm_ext.specs.declared.fti.Fti.{Fti}
use Rattle.norm_order.specs.Sets.{with_member}
use Rattle.norm_order.proofs.SetLemmas.{all_with}
use Rattle.norm_receive_rules.specs.Fitting.{fit_of, fitted, lets_put, plan_before}
use Rattle.norm_receive_rules.specs.HandingUp.{handed_up}
use Rattle.norm_receive_rules.specs.Holding.{Holding, Plan, Held, new_plan}
use Rattle.norm_receive_rules.specs.Laws.{HoldsSame}
use Rattle.norm_receive_rules.specs.Plans.{says_stream, plan_of, is_over}
use Rattle.norm_receive_rules.specs.Putting.{held_before, put_by, with_symbol, put_symbol, put_info_of, with_info, put_info}
use Rattle.norm_receive_rules.specs.ReceiverState.{ReceiverState}
use Rattle.norm_receive_rules.specs.ReceiverStep.{ReceiverEvent, receiver_step}
use Rattle.norm_receive_rules.specs.Receiving.{object_held}
use Rattle.norm_receive_rules.specs.Seeing.{plan_seen, sees_block}
use Rattle.norm_receive_rules.specs.declared.words.Fit.{Fit}
use Rattle.norm_receive_rules.specs.declared.words.Fit.TheVariants as fit
use Rattle.norm_receive_rules.specs.declared.words.Put.{Put}
use Rattle.norm_receive_rules.specs.declared.words.Put.TheVariants as put
use Rattle.norm_receive_rules.proofs.BesideLemmas.{handing_up, losing, taking}
use Rattle.norm_receive_rules.proofs.HoldingSteps.{HoldingIsKept, steps_keep}
use Rattle.norm_safety.proofs.EntryLemmas.{clash}
use Rattle.norm_safety.proofs.WorldHolds.{all_later}

-- one of the plans has this index
abbrev pub has_plan : List Plan → ℕ → Bool
has_plan plans index = list_any (λ (q : Plan). q.index == index) plans

-- so it is of the index of each held symbol
abbrev Of : List Plan → List Held → Type 0
Of plans held = AllByRecursion (λ (x : Held). has_plan plans x.at.index ≡ true) held

abbrev pub ArePlanned : Holding → Type 0
ArePlanned h = Of h.plans h.held

or_right : (a b : Bool) → b ≡ true → (a || b) ≡ true
or_right true b e = refl
or_right false b e = e

-- what is found is one of them
pub found_has : (plans : List Plan) (index : ℕ) (plan : Plan) → find (λ (q : Plan). q.index == index) plans ≡ Some plan → has_plan plans index ≡ true
found_has [] index plan e = absurd (none_some e)
  where
    none_some : None ≡ Some plan → ⊥
    none_some e = cc
found_has (q ∷ plans) index plan e = go (q.index == index) e (found_has plans index plan)
  where
    go : (b : Bool) → cond b (Some q) (find (λ (x : Plan). x.index == index) plans) ≡ Some plan
        → (find (λ (x : Plan). x.index == index) plans ≡ Some plan → has_plan plans index ≡ true) → (b || has_plan plans index) ≡ true
    go true f more = refl
    go false f more = more f

-- if none is found, none is
pub none_has : (plans : List Plan) (index : ℕ) → find (λ (q : Plan). q.index == index) plans ≡ None → has_plan plans index ≡ false
none_has [] index e = refl
none_has (q ∷ plans) index e = go (q.index == index) e (none_has plans index)
  where
    some_none : Some q ≡ None → ⊥
    some_none e = cc

    go : (b : Bool) → cond b (Some q) (find (λ (x : Plan). x.index == index) plans) ≡ None
        → (find (λ (x : Plan). x.index == index) plans ≡ None → has_plan plans index ≡ false) → (b || has_plan plans index) ≡ false
    go true f more = absurd (some_none f)
    go false f more = more f

-- ---- plans go on

pub joined_has : (new : Plan) (plans : List Plan) (index : ℕ) → has_plan plans index ≡ true → has_plan (with_member plan_before new plans) index ≡ true
unfolding with_member
joined_has new [] index e = absurd (clash e)
joined_has new (q ∷ plans) index e = go (plan_before new q) (plan_before q new) (joined_has new plans index)
  where
    own : Bool
    own = q.index == index

    keep : (b : Bool) → (has_plan plans index ≡ true → has_plan (with_member plan_before new plans) index ≡ true) → (b || has_plan plans index) ≡ true
        → (b || has_plan (with_member plan_before new plans) index) ≡ true
    keep true more f = refl
    keep false more f = more f

    go : (b c : Bool) → (has_plan plans index ≡ true → has_plan (with_member plan_before new plans) index ≡ true)
        → has_plan (elim b as (λ _. List Plan) [
          | true ↦ new ∷ q ∷ plans
          | false ↦ elim c as (λ _. List Plan) [ true ↦ q ∷ with_member plan_before new plans | false ↦ q ∷ plans ]
        ]) index ≡ true
    go true c more = or_right (new.index == index) (has_plan (q ∷ plans) index) e
    go false true more = keep own more e
    go false false more = e

pub seen_has : (at : Point) (plans : List Plan) (index : ℕ) → has_plan plans index ≡ true → has_plan (map (plan_seen at) plans) index ≡ true
seen_has at [] index e = e
seen_has at (q ∷ plans) index e = go (q.index == at.index && says_stream q.flags) (seen_has at plans index) e
  where
    keep : (b : Bool) → (has_plan plans index ≡ true → has_plan (map (plan_seen at) plans) index ≡ true) → (b || has_plan plans index) ≡ true
        → (b || has_plan (map (plan_seen at) plans) index) ≡ true
    keep true more f = refl
    keep false more f = more f

    index_of : Plan → ℕ
    index_of x = x.index

    go : (b : Bool) → (has_plan plans index ≡ true → has_plan (map (plan_seen at) plans) index ≡ true) → (q.index == index || has_plan plans index) ≡ true
        → (index_of (elim b as (λ _. Plan) [ true ↦ record q { seen = max q.seen at.block } | false ↦ q ]) == index || has_plan (map (plan_seen at) plans) index) ≡ true
    go true more f = keep (q.index == index) more f
    go false more f = keep (q.index == index) more f

fitted_has : (word : Fit) (index : ℕ) (f : Fti) (flags : ℕ) (s : Holding) → ArePlanned s → ArePlanned (fitted word index f flags s)
fitted_has fit.Known index f flags s h = h
fitted_has fit.Away index f flags s h = h
fitted_has fit.Unfit index f flags s h = h
fitted_has fit.Taken index f flags s h =
    all_later (λ (x : Held). has_plan s.plans x.at.index ≡ true) (λ (x : Held). has_plan (with_member plan_before (new_plan index f flags) s.plans) x.at.index ≡ true) s.held
    (λ x e. joined_has (new_plan index f flags) s.plans x.at.index e) h

sees_has : (at : Point) (s : Holding) → ArePlanned s → ArePlanned (sees_block at s)
sees_has at s h =
    all_later (λ (x : Held). has_plan s.plans x.at.index ≡ true) (λ (x : Held). has_plan (map (plan_seen at) s.plans) x.at.index ≡ true) s.held
    (λ x e. seen_has at s.plans x.at.index e) h

same_has : (s after : Holding) → HoldsSame s after → ArePlanned s → ArePlanned after
same_has s after same h = subst (λ (plans : List Plan). Of plans after.held) (sym same.plans) (subst (λ (held : List Held). Of s.plans held) (sym same.held) h)

-- ---- what comes

object_has : (p : Settings) (at : Position) (extensions : List Extension) (flags : ℕ) (brings : Holding → Holding) (s : Holding)
    → ((t : Holding) → ArePlanned t → ArePlanned (brings t)) → ArePlanned s → ArePlanned (object_held p at extensions flags brings s)
object_has p at extensions flags brings s keeps h = go (fti_of extensions)
  where
    up : (t : Holding) → ArePlanned t → ArePlanned (handed_up p (brings t))
    up t k = same_has (brings t) (handed_up p (brings t)) (handing_up p (brings t)).holds (keeps t k)

    seen : (f : Fti) → ArePlanned (sees_block (point_of at) (fitted (fit_of p s at.index f flags) at.index f flags s))
    seen f = sees_has (point_of at) (fitted (fit_of p s at.index f flags) at.index f flags s) (fitted_has (fit_of p s at.index f flags) at.index f flags s h)

    fits : (f : Fti) (b : Bool) → ArePlanned (
        let s' = sees_block (point_of at) (fitted (fit_of p s at.index f flags) at.index f flags s) in elim b as (λ _. Holding) [ true ↦ handed_up p (brings s') | false ↦ s' ]
        )
    fits f true = up _ (seen f)
    fits f false = seen f

    go : (found : Option Fti) → ArePlanned (elim found as (λ _. Holding) [
      | Some f ↦ (
          let word = fit_of p s at.index f flags in
          let s' = sees_block (point_of at) (fitted word at.index f flags s) in
          elim (lets_put word) [ true ↦ handed_up p (brings s') | false ↦ s' ]
          )
      | None ↦ handed_up p (brings (sees_block (point_of at) s))
    ])
    go None = up (sees_block (point_of at) s) (sees_has (point_of at) s h)
    go (Some f) = fits f (lets_put (fit_of p s at.index f flags))

symbol_has : (p : Settings) (at : Position) (payload : List ℕ) (s : Holding) → ArePlanned s → ArePlanned (put_symbol p at payload s)
symbol_has p at payload s h = go (is_over s at.index) (plan_of s at.index) refl
  where
    word : (w : Put) → has_plan s.plans at.index ≡ true → ArePlanned (with_symbol w at payload s)
    word put.Had e = h
    word put.Away e = h
    word put.Unfit e = h
    word put.Kept e =
        all_with (λ (x : Held). has_plan s.plans x.at.index ≡ true) held_before (record { at = at; octets = payload }) s.held e h

    go : (over : Bool) (found : Option Plan) → plan_of s at.index ≡ found → ArePlanned (with_symbol (elim over as (λ _. Put) [
      | true ↦ put.Had
      | false ↦ elim found as (λ _. Put) [ Some plan ↦ put_by p s plan at payload | None ↦ put.Away ]
    ]) at payload s)
    go true found e = h
    go false None e = h
    go false (Some plan) e = word (put_by p s plan at payload) (found_has s.plans at.index plan e)

info_has : (p : Settings) (index : ℕ) (info : List ℕ) (s : Holding) → ArePlanned s → ArePlanned (put_info p index info s)
info_has p index info s h = go (put_info_of p s index info)
  where
    go : (w : Put) → ArePlanned (with_info w index info s)
    go put.Had = h
    go put.Away = h
    go put.Unfit = h
    go put.Kept = h

planned_kept : (p : Settings) → HoldingIsKept p ArePlanned
planned_kept p = record {
  nothing = tt;
  symbol = λ at extensions flags payload s h. object_has p at extensions flags (put_symbol p at payload) s (λ t k. symbol_has p at payload t k) h;
  info = λ at extensions flags index info s h. object_has p at extensions flags (put_info p index info) s (λ t k. info_has p index info t k) h;
  squelch = λ first s h. same_has s _ (losing p first s).holds h;
  take = λ s h. same_has s _ (taking s).holds h;
}

pub planned_step : (p : Settings) (r : ReceiverState) (event : ReceiverEvent) → ArePlanned r.holding → ArePlanned (receiver_step p r event).0.holding
planned_step p r event h = steps_keep p ArePlanned (planned_kept p) r event h
