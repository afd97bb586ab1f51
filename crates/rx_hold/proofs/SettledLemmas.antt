-- A hold of which all that could be was handed up: an empty one, and one of which a hand-up was taken.
use Rattle.std.proofs.Common.{◌≡◌, ℕ, List, [], ◌∷◌, replicate, Bool, true, false, Option, None, Some, refl, sym, ap, ◌∙◌, subst, arith}
use Rattle.std.specs.Prelude.{option_map}
use Rattle.fec_plan.specs.declared.position.Position.{Position}
use Rattle.norm_base.specs.Settings.{Settings}
use Rattle.norm_order.specs.declared.up.Up.{Up}
use Rattle.norm_order.specs.declared.up.Up.TheVariants as up
use Rattle.norm_receive_rules.specs.HandingUp.{after_object, handed, is_whole, kind_of, told_info, object_octets, hands_object, next_segment, hands_segment, hands_next, hands_one}
use Rattle.norm_receive_rules.specs.Holding.{Holding, Plan}
use Rattle.norm_receive_rules.specs.Plans.{says_stream, plan_of, has_its_info}
use Rattle.norm_receive_rules.specs.Laws.{HasPassed, IsAtStart, IsPassed, PassedBy}
use Rattle.rx_hold.specs.EntryState.{EntryState}
use Rattle.rx_hold.specs.EntryHold.{EntryHold, at_place, entry_at}
use Rattle.rx_hold.proofs.EntryStands.{plan_found, view_with}
use Rattle.rx_hold.specs.Seats.{AreSeats, begins_at, states_of}
use Rattle.rx_hold.specs.Handing.{IsSettled}
use Rattle.rx_hold.specs.declared.ring.Seat.{Seat}
use Rattle.rx_hold.proofs.HandingLemmas.{by_plan}
use Rattle.rx_hold.proofs.SeatLemmas.{placed}
use Rattle.rx_hold.proofs.TakeLemmas.{none_at}

-- of places that are all empty
pub none_settled : (p : Settings) (ring : List (Option Seat)) (ups : List Up) → ring ≡ replicate 256 None
    → IsSettled (view_with p (begins_at 0 (entry_at (states_of ring) 0)) (states_of ring) ups false)
none_settled p ring ups is s stands =
    let at : s.point.index ≡ 0 = ap (λ (x : Position). x.index) stands.point in
    ap (by_plan p s)
    (plan_found p (begins_at 0 (entry_at (states_of ring) 0)) (states_of ring) ups false s (placed p 0 ring seats) stands s.point.index 0 (omega (arith, at))
    ∙ ap (λ (r : List (Option Seat)). option_map (λ (o : EntryState). o.plan) (entry_at (states_of r) 0)) is)
  where
    seats : AreSeats p 0 ring
    seats = λ i seat e. absurd (none_at 256 i seat (sym (ap (λ (r : List (Option Seat)). at_place r i) is) ∙ e))

-- whether something can be handed up does not depend on what was
ups_apart : (p : Settings) (s : Holding) (ups : List Up) → hands_one p (record s { ups = ups }) ≡ None → hands_one p s ≡ None
ups_apart p s ups = go (plan_of s s.point.index)
  where
    t : Holding
    t = record s { ups = ups }

    never : (x : Holding) → Some x ≡ None → ⊥
    never x e = cc

    object : Holding → Plan → Bool → Option Holding
    object u plan b = elim b as (λ _. Option Holding) [
      | true ↦ Some (handed (up.Object plan.index (kind_of plan.flags) (told_info u plan) (object_octets u plan) ∷ []) (after_object plan.index) u)
      | false ↦ None
    ]

    segment : Holding → Plan → Option (List ℕ) → Option Holding
    segment u plan o = elim o as (λ _. Option Holding) [ Some symbol ↦ Some (hands_segment p u plan symbol) | None ↦ None ]

    stream : Holding → Plan → Bool → Option Holding
    stream u plan b = elim b as (λ _. Option Holding) [ true ↦ segment u plan (next_segment u plan) | false ↦ None ]

    objects : (plan : Plan) (b : Bool) → object t plan b ≡ None → object s plan b ≡ None
    objects plan true e = absurd (never _ e)
    objects plan false e = refl

    segments : (plan : Plan) (o : Option (List ℕ)) → segment t plan o ≡ None → segment s plan o ≡ None
    segments plan (Some symbol) e = absurd (never _ e)
    segments plan None e = refl

    streams : (plan : Plan) (b : Bool) → stream t plan b ≡ None → stream s plan b ≡ None
    streams plan true e = segments plan (next_segment s plan) e
    streams plan false e = refl

    kinds : (plan : Plan) (b : Bool) → elim b as (λ _. Option Holding) [ true ↦ hands_next p t plan | false ↦ hands_object t plan ] ≡ None
        → elim b as (λ _. Option Holding) [ true ↦ hands_next p s plan | false ↦ hands_object s plan ] ≡ None
    kinds plan true e = streams plan (has_its_info s plan) e
    kinds plan false e = objects plan (is_whole s plan) e

    of : Holding → Option Plan → Option Holding
    of u o = elim o as (λ _. Option Holding) [
      | Some plan ↦ elim (says_stream plan.flags) [ true ↦ hands_next p u plan | false ↦ hands_object u plan ]
      | None ↦ None
    ]

    go : (o : Option Plan) → of t o ≡ None → of s o ≡ None
    go None e = refl
    go (Some plan) e = kinds plan (says_stream plan.flags) e

-- nor does what was passed
with_ups : (p : Settings) (s : Holding) (ups : List Up) → HasPassed p s → HasPassed p (record s { ups = ups })
with_ups p s ups h = go (plan_of s s.point.index) h
  where
    go : (found : Option Plan) → PassedBy p s found → PassedBy p (record s { ups = ups }) found
    go None h = record { block = h.block; symbol = h.symbol }
    go (Some plan) h = by (says_stream plan.flags) h
      where
        by : (b : Bool) → elim b as (λ _. Type 0) [ true ↦ IsPassed p s plan | false ↦ IsAtStart s ]
            → elim b as (λ _. Type 0) [ true ↦ IsPassed p (record s { ups = ups }) plan | false ↦ IsAtStart (record s { ups = ups }) ]
        by true h = record { done = h.done; there = h.there; no_end = h.no_end }
        by false h = record { block = h.block; symbol = h.symbol }

pub taken_settled : (old new : EntryHold) → new ≡ record old { ups = new.ups } → IsSettled old → IsSettled new
taken_settled old new is settled =
    subst (λ (h : EntryHold). IsSettled h) (sym is) (λ s stands.
    ups_apart old.p s old.ups (settled (record s { ups = old.ups }) (record {
      point = stands.point;
      plans = stands.plans;
      held = stands.held;
      infos = stands.infos;
      ups = refl;
      lost = stands.lost;
      passed = with_ups old.p s old.ups stands.passed;
    })))
