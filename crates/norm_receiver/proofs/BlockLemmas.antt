-- The greatest block seen of each stream stays one that messages name, whatever comes.
use Rattle.std.proofs.Common.{◌≡◌, ℕ, Bool, true, false, cond, refl, sym, subst, Option, Some, None, List, [], ◌∷◌, map, arith}
use Rattle.std.specs.Prelude.{◌==◌, ◌&&◌, find, max}
use Rattle.std.specs.List.{AllByRecursion}
use Rattle.norm_base.specs.Settings.{Settings}
use Rattle.fec_plan.specs.Points.{IsBlock, Point, point_of}
use Rattle.fec_plan.specs.declared.position.Position.{Position}
use Rattle.norm_ext.specs.Extensions.{Extension, fti_of}
use Rattle.norm_ext.specs.declared.fti.Fti.{Fti}
use Rattle.norm_order.proofs.SetLemmas.{all_with}
use Rattle.norm_receive_rules.specs.Fitting.{fit_of, fitted, lets_put, plan_before}
use Rattle.norm_receive_rules.specs.HandingUp.{handed_up}
use Rattle.norm_receive_rules.specs.Holding.{Holding, Plan, new_plan}
use Rattle.norm_receive_rules.specs.Losing.{squelched}
use Rattle.norm_receive_rules.specs.Plans.{plan_of, says_stream}
use Rattle.norm_receive_rules.specs.Putting.{put_info_of, put_of, with_info, with_symbol}
use Rattle.norm_receive_rules.specs.Receiving.{object_held}
use Rattle.norm_receive_rules.specs.Seeing.{plan_seen, sees_block}
use Rattle.norm_receive_rules.specs.Taking.{up_taken}
use Rattle.norm_receive_rules.specs.declared.words.Fit.{Fit}
use Rattle.norm_receive_rules.specs.declared.words.Fit.TheVariants as fit
use Rattle.norm_receive_rules.specs.declared.words.Put.{Put}
use Rattle.norm_receive_rules.specs.declared.words.Put.TheVariants as put
use Rattle.norm_receive_rules.proofs.BesideLemmas.{beside_laws}
use Rattle.norm_receiver.specs.Receiving.{place_of, puts}
use Rattle.norm_receiver.specs.ReceiverKept.{HasSeenBlocks}
use Rattle.norm_receiver.specs.declared.receiving.Brought.{Brought}
use Rattle.norm_receiver.specs.declared.receiving.Brought.TheVariants as brought

-- ---- of an object's plan

-- what is said of all plans is said of the one that is found
pub of_found : (P : Plan → Type 0) (index : ℕ) (plans : List Plan) (plan : Plan) → AllByRecursion P plans → find (λ (x : Plan). x.index == index) plans ≡ Some plan → P plan
of_found P index [] plan all e = absurd (let h : None ≡ Some plan = e in cc)
of_found P index (x ∷ plans) plan all e = by (x.index == index) e (of_found P index plans plan all.1)
  where
    by : (b : Bool) → cond b (Some x) (find (λ (y : Plan). y.index == index) plans) ≡ Some plan
        → (find (λ (y : Plan). y.index == index) plans ≡ Some plan → P plan) → P plan
    by true e rest = subst P (let h : Some x ≡ Some plan = e in let same : x ≡ plan = cc in same) all.0
    by false e rest = rest e

pub seen_block : (s : Holding) (index : ℕ) (plan : Plan) → HasSeenBlocks s → plan_of s index ≡ Some plan → IsBlock plan.seen
seen_block s index plan all found = of_found (λ (x : Plan). IsBlock x.seen) index s.plans plan all found

-- ---- what leaves the plans

pub same_plans : (s t : Holding) → t.plans ≡ s.plans → HasSeenBlocks s → HasSeenBlocks t
same_plans s t e h = subst (λ (plans : List Plan). AllByRecursion (λ (plan : Plan). IsBlock plan.seen) plans) (sym e) h

symbol_plans : (word : Put) (at : Position) (payload : List ℕ) (s : Holding) → (with_symbol word at payload s).plans ≡ s.plans
symbol_plans put.Kept at payload s = refl
symbol_plans put.Had at payload s = refl
symbol_plans put.Away at payload s = refl
symbol_plans put.Unfit at payload s = refl

info_plans : (word : Put) (index : ℕ) (info : List ℕ) (s : Holding) → (with_info word index info s).plans ≡ s.plans
info_plans put.Kept index info s = refl
info_plans put.Had index info s = refl
info_plans put.Away index info s = refl
info_plans put.Unfit index info s = refl

puts_plans : (p : Settings) (index : ℕ) (b : Brought) (s : Holding) → (puts p index b s).plans ≡ s.plans
puts_plans p index (brought.Info info) s = info_plans (put_info_of p s index info.now) index info.now s
puts_plans p index (brought.Symbol id payload) s =
    let at : Position = place_of index (brought.Symbol id payload) in
    symbol_plans (put_of p s at payload.now) at payload.now s

pub lost_blocks : (p : Settings) (first : Point) (s : Holding) → HasSeenBlocks s → HasSeenBlocks (squelched p first s)
lost_blocks p first s all = same_plans s (squelched p first s) (beside_laws.loses p first s).holds.plans all

pub taken_blocks : (s : Holding) → HasSeenBlocks s → HasSeenBlocks (up_taken s).0
taken_blocks s all = same_plans s (up_taken s).0 (beside_laws.takes s).holds.plans all

-- ---- what comes

seen_blocks : (at : Point) (plans : List Plan) → IsBlock at.block → AllByRecursion (λ (plan : Plan). IsBlock plan.seen) plans
    → AllByRecursion (λ (plan : Plan). IsBlock plan.seen) (map (plan_seen at) plans)
seen_blocks at [] block all = tt
seen_blocks at (plan ∷ plans) block all = (one (plan.index == at.index && says_stream plan.flags), seen_blocks at plans block all.1)
  where
    most : IsBlock plan.seen
    most = all.0

    one : (b : Bool) → IsBlock (elim b as (λ _. Plan) [ true ↦ record plan { seen = max plan.seen at.block } | false ↦ plan ]).seen
    one true = omega (arith, block, most)
    one false = all.0

fitted_blocks : (word : Fit) (index : ℕ) (f : Fti) (flags : ℕ) (s : Holding) → HasSeenBlocks s → HasSeenBlocks (fitted word index f flags s)
fitted_blocks fit.Taken index f flags s all = all_with (λ (plan : Plan). IsBlock plan.seen) plan_before (new_plan index f flags) s.plans (omega arith) all
fitted_blocks fit.Known index f flags s all = all
fitted_blocks fit.Away index f flags s all = all
fitted_blocks fit.Unfit index f flags s all = all

pub held_blocks : (p : Settings) (index flags : ℕ) (b : Brought) (exts : List Extension) (s : Holding) → IsBlock (place_of index b).block → HasSeenBlocks s
    → HasSeenBlocks (object_held p (place_of index b) exts flags (puts p index b) s)
held_blocks p index flags b exts s block all = go (fti_of exts)
  where
    at : Position
    at = place_of index b

    kept : (t : Holding) → HasSeenBlocks t → HasSeenBlocks (handed_up p (puts p index b (sees_block (point_of at) t)))
    kept t h =
        let seen : Holding = sees_block (point_of at) t in
        same_plans (puts p index b seen) (handed_up p (puts p index b seen)) (beside_laws.hands_up p (puts p index b seen)).holds.plans
        (same_plans seen (puts p index b seen) (puts_plans p index b seen) (seen_blocks (point_of at) t.plans block h))

    by_word : (lets : Bool) (t : Holding) → HasSeenBlocks t
        → HasSeenBlocks (elim lets as (λ _. Holding) [ true ↦ handed_up p (puts p index b (sees_block (point_of at) t)) | false ↦ sees_block (point_of at) t ])
    by_word true t h = kept t h
    by_word false t h = seen_blocks (point_of at) t.plans block h

    go : (found : Option Fti) → HasSeenBlocks (elim found as (λ _. Holding) [
      | Some f ↦ (
          let word = fit_of p s at.index f flags in
          let s' = sees_block (point_of at) (fitted word at.index f flags s) in
          elim (lets_put word) as (λ _. Holding) [ true ↦ handed_up p (puts p index b s') | false ↦ s' ]
          )
      | None ↦ handed_up p (puts p index b (sees_block (point_of at) s))
    ])
    go (Some f) =
        let word = fit_of p s at.index f flags in
        by_word (lets_put word) (fitted word at.index f flags s) (fitted_blocks word at.index f flags s all)
    go None = kept s all
