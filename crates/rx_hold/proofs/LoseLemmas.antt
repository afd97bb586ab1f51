-- Losing what is not there before the sender's window.
use Rattle.std.proofs.Common.{◌≡◌, ℕ, zero, suc, ◌+◌, ◌-◌, ◌<◌, ◌≤◌, Bool, true, false, refl, sym, ap, ◌∙◌, arith, Option, Some, None, List, [], ◌∷◌, ◌++◌}
use Rattle.std.specs.Prelude.{nat_lt, ◌==◌, ◌&&◌, is_none, is_some, not, option_map}
use Rattle.std.proofs.lemmas.Bool.{lt-ltb, le-ltb}
use Rattle.norm_base.specs.Settings.{Settings}
use Rattle.fec_plan.specs.Points.{point}
use Rattle.fec_plan.specs.declared.position.Position.{Position}
use Rattle.norm_order.specs.declared.up.Up.TheVariants as up
use Rattle.norm_receive_rules.specs.Holding.{Holding, Plan}
use Rattle.norm_receive_rules.specs.Plans.{plan_of, says_stream}
use Rattle.norm_receive_rules.specs.HandingUp.{next_segment, handed_up}
use Rattle.norm_receive_rules.specs.Losing.{loses_one, loses_before, is_cut_off, loses_at, squelched}
use Rattle.norm_receive_rules.proofs.PassedSteps.{lost_passed}
use Rattle.rx_hold.specs.EntryState.{EntryState, entry_of}
use Rattle.rx_hold.specs.EntryHold.{EntryHold, StandsFor, at_place}
use Rattle.rx_hold.specs.declared.entry.Entry.{Entry}
use Rattle.rx_hold.specs.declared.entry.Entry.TheVariants as kinds
use Rattle.rx_stream.specs.BlockMoves.{IsRow}
use Rattle.rx_stream.specs.StreamState.{alone as stream_alone}
use Rattle.rx_hold.specs.FrontSound.{IsFront, front_view}
use Rattle.rx_hold.specs.Handing.{HasTold, IsPast, cut_by_entry, cut_by_place}
use Rattle.rx_hold.specs.declared.front.Front.{Front}
use Rattle.rx_hold.specs.declared.ring.Seat.{Seat}
use Rattle.rx_hold.proofs.HandingLemmas.{found_plan, object_kind, stream_kind, stream_point, stream_value}
use Rattle.rx_hold.proofs.PastLemmas.{past_stands}

-- what is still to be lost from here, where n more objects may be
abbrev pub loses_rest : ℕ → Settings → ℕ → Holding → Holding
loses_rest n p index t = elim (nat_lt t.point.index index) as (λ _. Holding) [ true ↦ loses_before n p index (loses_one t) | false ↦ t ]

loses_step : (n : ℕ) (p : Settings) (index : ℕ) (t : Holding) → index ≤ t.point.index + n → t.point.index ≤ (handed_up p t).point.index
    → loses_before n p index t ≡ loses_rest (n - 1) p index (handed_up p t)
unfolding loses_before
loses_step zero p index t near on =
    sym (ap (λ b. elim b as (λ _. Holding) [ true ↦ loses_before (0 - 1) p index (loses_one (handed_up p t)) | false ↦ handed_up p t ])
    (le-ltb (handed_up p t).point.index index (omega arith)))
loses_step (suc n) p index t near on = ap (λ k. loses_rest k p index (handed_up p t)) (let k : n ≡ suc n - 1 = omega arith in k)

-- what a hold stands for after some losses
pub record LosesOn (index : ℕ) (first now : EntryHold) (s : Holding) : Type 0 where
  pub after : Holding
  pub count : ℕ
  pub leads : loses_before (index - s.point.index) first.p index s ≡ loses_rest count first.p index after
  pub near : index ≤ now.point.index + count + 1
  pub stands : StandsFor now after

point_of_hold : (h : EntryHold) (s : Holding) → StandsFor h s → s.point.index ≡ h.point.index
point_of_hold h s stands = ap (λ (at : Position). at.index) stands.point

pub loses_start : (index : ℕ) (first now : EntryHold) (s : Holding) → StandsFor first s → StandsFor now (handed_up first.p s) → first.point.index ≤ now.point.index
    → LosesOn index first now s
loses_start index first now s stands after on =
    let here = point_of_hold first s stands in
    let there = point_of_hold now (handed_up first.p s) after in
    record {
      after = handed_up first.p s;
      count = index - s.point.index - 1;
      leads = loses_step (index - s.point.index) first.p index s (omega arith) (omega arith);
      near = omega arith;
      stands = after;
    }

pub loses_more : (index : ℕ) (first middle lost now : EntryHold) (s : Holding) → LosesOn index first middle s → middle.point.index < index
    → ((t : Holding) → StandsFor middle t → StandsFor lost (loses_one t)) → lost.point.index ≡ middle.point.index + 1
    → ((t : Holding) → StandsFor lost t → StandsFor now (handed_up first.p t)) → lost.point.index ≤ now.point.index → LosesOn index first now s
loses_more index first middle lost now s so_far before loses at hands on =
    let t : Holding = so_far.after in
    let gone = loses t so_far.stands in
    let after = hands (loses_one t) gone in
    let was = point_of_hold middle t so_far.stands in
    let here = point_of_hold lost (loses_one t) gone in
    let there = point_of_hold now (handed_up first.p (loses_one t)) after in
    let near = so_far.near in
    record {
      after = handed_up first.p (loses_one t);
      count = so_far.count - 1;
      leads =
          so_far.leads
          ∙ ap (λ b. elim b as (λ _. Holding) [ true ↦ loses_before so_far.count first.p index (loses_one t) | false ↦ t ]) (lt-ltb t.point.index index (omega arith))
          ∙ loses_step so_far.count first.p index (loses_one t) (omega arith) (omega arith);
      near = omega arith;
      stands = after;
    }

-- ---- the object at the hand-up point is lost

lost_some : (xs : List ℕ) (n : ℕ) → (elim (xs ++ n ∷ []) as (λ _. Bool) [ [] ↦ true | x ∷ ys ↦ false ]) ≡ false
lost_some [] n = refl
lost_some (x ∷ xs) n = refl

pub lost_stands : (f g : Front) (s : Holding) → IsFront f → IsPast f g → HasTold f g (up.Lost f.point ∷ []) → g.lost ≡ true → StandsFor (front_view f) s → StandsFor (front_view g) (loses_one s)
lost_stands f g s front is told lost stands =
    let at : s.point.index ≡ f.point = ap (λ (x : Position). x.index) stands.point in
    past_stands f g s (up.Lost s.point.index ∷ []) (s.lost ++ s.point.index ∷ []) front is
    (record { ups = told.ups ∙ ap (λ n. f.ups.items ++ up.Lost n ∷ []) (sym at); room = told.room }) stands
    (lost_some s.lost s.point.index ∙ ap not (sym lost)) (lost_passed f.profile s)

-- ---- the object at the window's beginning

abbrev cut_by_plan : Holding → ℕ → Option Plan → Bool
cut_by_plan t block found = elim found as (λ _. Bool) [
  | Some plan ↦ says_stream plan.flags && nat_lt t.point.block block && is_none (next_segment t plan)
  | None ↦ nat_lt 0 block
]

pub cut_off_is : (f : Front) (t : Holding) (index block : ℕ) → IsFront f → StandsFor (front_view f) t
    → ((f.point == index) && cut_by_place block (at_place f.ring.items 0)) ≡ (t.point.index == index && is_cut_off t (point index block))
cut_off_is f t index block front stands =
    let at : t.point.index ≡ f.point = ap (λ (x : Position). x.index) stands.point in
    ap (λ n. (n == index) && cut_by_place block (at_place f.ring.items 0)) (sym at)
    ∙ ap (λ b. (t.point.index == index) && b) (go (at_place f.ring.items 0) refl)
  where
    go : (found : Option Seat) → at_place f.ring.items 0 ≡ found → cut_by_place block (at_place f.ring.items 0) ≡ is_cut_off t (point index block)
    go None e =
        ap (cut_by_place block) e
        ∙ sym (ap (cut_by_plan t block) (found_plan f t front stands ∙ ap (λ (place : Option Seat). option_map (λ (o : EntryState). o.plan) (Rattle.rx_hold.specs.Seats.state_of place)) e))
    go (Some seat) e = ap (cut_by_place block) e ∙ by seat.entry refl
      where
        planned : (kind : Entry) → seat.entry ≡ kind → plan_of t t.point.index ≡ Some (entry_of kind).plan
        planned kind k =
            found_plan f t front stands ∙ ap (λ (place : Option Seat). option_map (λ (o : EntryState). o.plan) (Rattle.rx_hold.specs.Seats.state_of place)) e
            ∙ ap (λ (x : Entry). Some (entry_of x).plan) k

        by : (kind : Entry) → seat.entry ≡ kind → cut_by_entry block seat.entry ≡ is_cut_off t (point index block)
        by (kinds.Object o) k =
            ap (cut_by_entry block) k
            ∙ sym (ap (cut_by_plan t block) (planned (kinds.Object o) k)
            ∙ ap (λ b. (b && nat_lt t.point.block block) && is_none (next_segment t o.plan)) (object_kind f t front stands seat e o k))
        by (kinds.Stream o) k =
            ap (cut_by_entry block) k
            ∙ ap (λ n. nat_lt n block && is_none (next_segment (stream_alone o) o.plan))
            (ap (λ (x : Position). x.block) (stream_point f t front stands seat e o k) ∙ sym (ap (λ (x : Position). x.block) stands.point))
            ∙ ap (λ v. nat_lt t.point.block block && is_none v) (sym (stream_value f t front stands seat e o k))
            ∙ sym (ap (cut_by_plan t block) (planned (kinds.Stream o) k)
            ∙ ap (λ b. (b && nat_lt t.point.block block) && is_none (next_segment t o.plan)) (stream_kind f t front stands seat e o k))

pub cut_off : (p : Settings) (index block : ℕ) (s t : Holding) → t ≡ loses_before (index - s.point.index) p index s
    → (t.point.index == index && is_cut_off t (point index block)) ≡ true → squelched p (point index block) s ≡ handed_up p (loses_one t)
cut_off p index block s t is e =
    ap (loses_at p (point index block)) (sym is)
    ∙ ap (λ b. elim b as (λ _. Holding) [ true ↦ handed_up p (loses_one t) | false ↦ t ]) e

-- what is lent is there where the symbol is
pub none_lent : (size : ℕ) (symbol row : Option (List ℕ)) → IsRow size symbol row → is_none row ≡ is_none symbol
none_lent size None None is = refl
none_lent size (Some symbol) (Some row) is = refl
none_lent size None (Some row) is = absurd is
none_lent size (Some symbol) None is = absurd is

pub none_is : (X Y : Type 0) (f : X → Y) (r : Option X) (b : Bool) → is_some r ≡ not b → b ≡ is_none (option_map f r)
none_is X Y f None true e = refl
none_is X Y f None false e = absurd (cc e)
none_is X Y f (Some x) true e = absurd (cc e)
none_is X Y f (Some x) false e = refl
