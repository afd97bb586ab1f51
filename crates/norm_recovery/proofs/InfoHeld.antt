-- Each info that a receiver holds is of an object whose plan it knows: kept by each step.
use Rattle.std.proofs.Common.{◌≡◌, ℕ, List, [], ◌∷◌, Bool, true, false, Option, None, Some, refl, sym, subst}
use Rattle.std.specs.Prelude.{map, ◌==◌}
use Rattle.std.specs.List.{AllByRecursion}
use Rattle.norm_base.specs.Members.{receivers_of}
use Rattle.norm_base.specs.Settings.{Settings}
use Rattle.fec_plan.specs.Points.{Point, point_of}
use Rattle.fec_plan.specs.declared.position.Position.{Position}
use Rattle.norm_ext.specs.Extensions.{Extension, fti_of}
use Rattle.norm_ext.specs.declared.fti.Fti.{Fti}
use Rattle.norm_order.specs.Sets.{with_member}
use Rattle.norm_order.proofs.SetLemmas.{all_with}
use Rattle.norm_receive_rules.specs.Fitting.{fit_of, fitted, lets_put, plan_before}
use Rattle.norm_receive_rules.specs.HandingUp.{handed_up}
use Rattle.norm_receive_rules.specs.Holding.{Holding, Plan, HeldInfo, new_plan}
use Rattle.norm_receive_rules.specs.Laws.{HoldsSame}
use Rattle.norm_receive_rules.specs.Plans.{plan_of, is_over}
use Rattle.norm_receive_rules.specs.Putting.{info_before, put_of, with_symbol, put_symbol, put_info_by, with_info, put_info}
use Rattle.norm_receive_rules.specs.ReceiverState.{ReceiverState, receiver_opening}
use Rattle.norm_receive_rules.specs.ReceiverStep.{ReceiverEvent, receiver_step}
use Rattle.norm_receive_rules.specs.Receiving.{object_held}
use Rattle.norm_receive_rules.specs.Seeing.{plan_seen, sees_block}
use Rattle.norm_receive_rules.specs.declared.words.Fit.{Fit}
use Rattle.norm_receive_rules.specs.declared.words.Fit.TheVariants as fit
use Rattle.norm_receive_rules.specs.declared.words.Put.{Put}
use Rattle.norm_receive_rules.specs.declared.words.Put.TheVariants as put
use Rattle.norm_receive_rules.proofs.BesideLemmas.{handing_up, losing, taking}
use Rattle.norm_receive_rules.proofs.HoldingSteps.{HoldingIsKept, steps_keep}
use Rattle.norm_safety.specs.Events.{Event}
use Rattle.norm_safety.specs.World.{World, world_opening, receiver_at}
use Rattle.norm_safety.specs.WorldStep.{world_step, run_from, run}
use Rattle.norm_safety.proofs.OrderRun.{found_holds}
use Rattle.norm_safety.proofs.WorldHolds.{all_later}
use Rattle.norm_recovery.proofs.NeedHeld.{has_plan, found_has, joined_has, seen_has}
use Rattle.norm_recovery.proofs.PassTurn.{After, Still, Steps, Before, before}

abbrev Of : List Plan → List HeldInfo → Type 0
Of plans infos = AllByRecursion (λ (x : HeldInfo). has_plan plans x.index ≡ true) infos

abbrev pub InfosArePlanned : Holding → Type 0
InfosArePlanned h = Of h.plans h.infos

fitted_has : (word : Fit) (index : ℕ) (f : Fti) (flags : ℕ) (s : Holding) → InfosArePlanned s → InfosArePlanned (fitted word index f flags s)
fitted_has fit.Known index f flags s h = h
fitted_has fit.Away index f flags s h = h
fitted_has fit.Unfit index f flags s h = h
fitted_has fit.Taken index f flags s h =
    all_later (λ (x : HeldInfo). has_plan s.plans x.index ≡ true) (λ (x : HeldInfo). has_plan (with_member plan_before (new_plan index f flags) s.plans) x.index ≡ true) s.infos
    (λ x e. joined_has (new_plan index f flags) s.plans x.index e) h

sees_has : (at : Point) (s : Holding) → InfosArePlanned s → InfosArePlanned (sees_block at s)
sees_has at s h =
    all_later (λ (x : HeldInfo). has_plan s.plans x.index ≡ true) (λ (x : HeldInfo). has_plan (map (plan_seen at) s.plans) x.index ≡ true) s.infos
    (λ x e. seen_has at s.plans x.index e) h

same_has : (s after : Holding) → HoldsSame s after → InfosArePlanned s → InfosArePlanned after
same_has s after same h = subst (λ (plans : List Plan). Of plans after.infos) (sym same.plans) (subst (λ (infos : List HeldInfo). Of s.plans infos) (sym same.infos) h)

-- ---- what comes

object_has : (p : Settings) (at : Position) (extensions : List Extension) (flags : ℕ) (brings : Holding → Holding) (s : Holding)
    → ((t : Holding) → InfosArePlanned t → InfosArePlanned (brings t)) → InfosArePlanned s → InfosArePlanned (object_held p at extensions flags brings s)
object_has p at extensions flags brings s keeps h = go (fti_of extensions)
  where
    up : (t : Holding) → InfosArePlanned t → InfosArePlanned (handed_up p (brings t))
    up t k = same_has (brings t) (handed_up p (brings t)) (handing_up p (brings t)).holds (keeps t k)

    seen : (f : Fti) → InfosArePlanned (sees_block (point_of at) (fitted (fit_of p s at.index f flags) at.index f flags s))
    seen f = sees_has (point_of at) (fitted (fit_of p s at.index f flags) at.index f flags s) (fitted_has (fit_of p s at.index f flags) at.index f flags s h)

    fits : (f : Fti) (b : Bool) → InfosArePlanned (
        let s' = sees_block (point_of at) (fitted (fit_of p s at.index f flags) at.index f flags s) in elim b as (λ _. Holding) [ true ↦ handed_up p (brings s') | false ↦ s' ]
        )
    fits f true = up _ (seen f)
    fits f false = seen f

    go : (found : Option Fti) → InfosArePlanned (elim found as (λ _. Holding) [
      | Some f ↦ (
          let word = fit_of p s at.index f flags in
          let s' = sees_block (point_of at) (fitted word at.index f flags s) in
          elim (lets_put word) [ true ↦ handed_up p (brings s') | false ↦ s' ]
          )
      | None ↦ handed_up p (brings (sees_block (point_of at) s))
    ])
    go None = up (sees_block (point_of at) s) (sees_has (point_of at) s h)
    go (Some f) = fits f (lets_put (fit_of p s at.index f flags))

symbol_has : (p : Settings) (at : Position) (payload : List ℕ) (s : Holding) → InfosArePlanned s → InfosArePlanned (put_symbol p at payload s)
symbol_has p at payload s h = go (put_of p s at payload)
  where
    go : (w : Put) → InfosArePlanned (with_symbol w at payload s)
    go put.Had = h
    go put.Away = h
    go put.Unfit = h
    go put.Kept = h

info_has : (p : Settings) (index : ℕ) (info : List ℕ) (s : Holding) → InfosArePlanned s → InfosArePlanned (put_info p index info s)
info_has p index info s h = go (is_over s index) (plan_of s index) refl
  where
    word : (w : Put) → has_plan s.plans index ≡ true → InfosArePlanned (with_info w index info s)
    word put.Had e = h
    word put.Away e = h
    word put.Unfit e = h
    word put.Kept e = all_with (λ (x : HeldInfo). has_plan s.plans x.index ≡ true) info_before (record { index = index; info = info }) s.infos e h

    go : (over : Bool) (found : Option Plan) → plan_of s index ≡ found → InfosArePlanned (with_info (elim over as (λ _. Put) [
      | true ↦ put.Had
      | false ↦ elim found as (λ _. Put) [ Some plan ↦ put_info_by p s plan info | None ↦ put.Away ]
    ]) index info s)
    go true found e = h
    go false None e = h
    go false (Some plan) e = word (put_info_by p s plan info) (found_has s.plans index plan e)

infos_kept : (p : Settings) → HoldingIsKept p InfosArePlanned
infos_kept p = record {
  nothing = tt;
  symbol = λ at extensions flags payload s h. object_has p at extensions flags (put_symbol p at payload) s (λ t k. symbol_has p at payload t k) h;
  info = λ at extensions flags index info s h. object_has p at extensions flags (put_info p index info) s (λ t k. info_has p index info t k) h;
  squelch = λ first s h. same_has s _ (losing p first s).holds h;
  take = λ s h. same_has s _ (taking s).holds h;
}

infos_step : (p : Settings) (r : ReceiverState) (event : ReceiverEvent) → InfosArePlanned r.holding → InfosArePlanned (receiver_step p r event).0.holding
infos_step p r event h = steps_keep p InfosArePlanned (infos_kept p) r event h

-- ---- along runs

abbrev AllInfos : Settings → World → Type 0
AllInfos p w = (node : ℕ) (r : ReceiverState) → (node == p.sender) ≡ false → receiver_at w node ≡ Some r → InfosArePlanned r.holding

infos_from : (p : Settings) (w : World) (events : List Event) → AllInfos p w → AllInfos p (run_from p w events)
infos_from p w [] h = h
infos_from p w (e ∷ events) h = infos_from p (world_step p w e).0 events next
  where
    next : AllInfos p (world_step p w e).0
    next node t other found = go (before p w e node other t found)
      where
        go : Before p w node t → InfosArePlanned t.holding
        go b = by b.after
          where
            by : After p b.r t → InfosArePlanned t.holding
            by (Still same) = subst (λ (x : ReceiverState). InfosArePlanned x.holding) (sym same) (h node b.r other b.found)
            by (Steps own is) = subst (λ (x : ReceiverState). InfosArePlanned x.holding) (sym is) (infos_step p b.r own (h node b.r other b.found))

infos_opening : (p : Settings) → AllInfos p (world_opening p)
infos_opening p node r other found =
    found_holds (λ (x : ReceiverState). InfosArePlanned x.holding) (λ (x : ReceiverState). x.node == node) (world_opening p).receivers r (each (receivers_of p p.receivers)) found
  where
    each : (nodes : List ℕ) → AllByRecursion (λ (x : ReceiverState). InfosArePlanned x.holding) (map receiver_opening nodes)
    each [] = tt
    each (n ∷ nodes) = (tt, each nodes)

pub infos_in_run : (p : Settings) (events : List Event) (node : ℕ) (r : ReceiverState) → (node == p.sender) ≡ false → receiver_at (run p events) node ≡ Some r
    → InfosArePlanned r.holding
infos_in_run p events = infos_from p (world_opening p) events (infos_opening p)
