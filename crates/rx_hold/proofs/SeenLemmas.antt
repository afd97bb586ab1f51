-- A block that is seen of an object of a front, and an info that comes to one.
use Rattle.std.proofs.Common.{◌≡◌, ◌≢◌, ℕ, zero, suc, ◌+◌, ◌-◌, ◌<◌, refl, sym, ap, ◌∙◌, subst, arith, Option, Some, None, List, [], ◌∷◌, length, map, cond, Bool, true, false}
use Rattle.std.specs.Prelude.{slice_set, MatchOption, ⊤, filter, max, not, nat_lt, ◌==◌, ◌&&◌}
use Rattle.std.specs.List.{AllByRecursion}
use Rattle.std.specs.VecDeque.{deque_capacity}
use Rattle.std.proofs.lemmas.Bool.{le-ltb, lt-ltb, ltb-true, ne_eqb}
use Rattle.std.proofs.lemmas.List.{length-map}
use Rattle.norm_base.specs.Settings.{Settings}
use Rattle.fec_plan.specs.Points.{Point, point}
use Rattle.fec_plan.specs.declared.position.Position.{Position}
use Rattle.norm_order.specs.Sets.{with_member}
use Rattle.norm_receive_rules.specs.Holding.{Holding, Plan, Held, HeldInfo}
use Rattle.norm_receive_rules.specs.Plans.{is_over, says_stream}
use Rattle.norm_receive_rules.specs.Putting.{info_before, with_info}
use Rattle.norm_receive_rules.specs.Seeing.{plan_seen, sees_block}
use Rattle.norm_receive_rules.specs.declared.words.Put.TheVariants as put
use Rattle.norm_receive_rules.proofs.PassedLemmas.{info_passed}
use Rattle.norm_receive_rules.proofs.PassedSteps.{seen_passed}
use Rattle.rx_hold.specs.EntryState.{EntryState, IsOfKind, entry_of, infos_in, with_seen}
use Rattle.rx_hold.specs.EntryHold.{EntryHold, PlacedEntries, StandsFor, at_place, entries_there, entry_at}
use Rattle.rx_hold.proofs.EntryRing.{alone_in, filter_joins, part_of, same_parts, with_part}
use Rattle.rx_hold.proofs.EntryStands.{held_in, held_key, own_held, own_info, own_plan, not_over, placed_at, plans_in, plans_joined}
use Rattle.rx_hold.specs.Seats.{Becomes, IsInformed, IsSeat, IsSeen, opening, state_of, states_of, waiting}
use Rattle.rx_hold.specs.FrontSound.{IsFront, front_view, view_states}
use Rattle.rx_hold.specs.declared.front.Front.{Front}
use Rattle.rx_hold.specs.declared.ring.Seat.{Seat}
use Rattle.rx_hold.proofs.ChangeLemmas.{GoesOn, IsChanged, begins_same, seat_on, sound_same, sound_set, view_changed}
use Rattle.rx_hold.proofs.SeatLemmas.{placed, state_at, states_set}

-- ---- a plan of which a block is seen

abbrev seen_by : Point → Plan → Bool → Plan
seen_by at plan b = elim b as (λ _. Plan) [ true ↦ record plan { seen = max plan.seen at.block } | false ↦ plan ]

seen_index : (at : Point) (plan : Plan) (b : Bool) → (seen_by at plan b).index ≡ plan.index
seen_index at plan true = refl
seen_index at plan false = refl

seen_fti : (at : Point) (plan : Plan) (b : Bool) → (seen_by at plan b).fti ≡ plan.fti
seen_fti at plan true = refl
seen_fti at plan false = refl

seen_flags : (at : Point) (plan : Plan) (b : Bool) → (seen_by at plan b).flags ≡ plan.flags
seen_flags at plan true = refl
seen_flags at plan false = refl

other_seen : (at : Point) (plan : Plan) → plan.index ≢ at.index → plan_seen at plan ≡ plan
other_seen at plan other = ap (λ b. seen_by at plan (b && says_stream plan.flags)) (ne_eqb plan.index at.index other)

seen_on : (block : ℕ) (o : EntryState) → GoesOn o (with_seen block o)
seen_on block o =
    let b = o.plan.index == o.plan.index && says_stream o.plan.flags in
    record {
      index = seen_index (point o.plan.index block) o.plan b;
      fti = seen_fti (point o.plan.index block) o.plan b;
      flags = seen_flags (point o.plan.index block) o.plan b;
      point = refl;
      room = refl;
    }

abbrev is_open : Holding → Plan → Bool
is_open s plan = not (is_over s plan.index)

filter_seen : (s : Holding) (at : Point) (plans : List Plan)
    → filter (λ (plan : Plan). not (is_over s plan.index)) (map (plan_seen at) plans) ≡ map (plan_seen at) (filter (λ (plan : Plan). not (is_over s plan.index)) plans)
filter_seen s at [] = refl
filter_seen s at (plan ∷ plans) =
    ap (λ n. cond (not (is_over s n)) (plan_seen at plan ∷ filter (is_open s) (map (plan_seen at) plans)) (filter (is_open s) (map (plan_seen at) plans)))
    (seen_index at plan (plan.index == at.index && says_stream plan.flags))
    ∙ go (not (is_over s plan.index)) (filter_seen s at plans)
  where
    go : (b : Bool) → filter (is_open s) (map (plan_seen at) plans) ≡ map (plan_seen at) (filter (is_open s) plans) → cond b (plan_seen at plan ∷ filter (is_open s) (map (plan_seen at) plans)) (filter (is_open s) (map (plan_seen at) plans))
        ≡ map (plan_seen at) (cond b (plan ∷ filter (is_open s) plans) (filter (is_open s) plans))
    go true rest = ap (λ (xs : List Plan). plan_seen at plan ∷ xs) rest
    go false rest = rest

-- the plans of a ring
abbrev plans_of : List (Option EntryState) → List Plan
plans_of ring = map (λ (o : EntryState). o.plan) (entries_there ring)

later_seen : (p : Settings) (at : Point) (n : ℕ) (ring : List (Option EntryState)) → PlacedEntries p n ring → at.index < n → map (plan_seen at) (plans_of ring) ≡ plans_of ring
later_seen p at n [] placed lt = refl
later_seen p at n (None ∷ ring) placed lt = later_seen p at (suc n) ring placed (omega arith)
later_seen p at n (Some o ∷ ring) placed lt =
    ap (λ (plan : Plan). plan ∷ map (plan_seen at) (plans_of ring)) (other_seen at o.plan (λ e. let is = placed.0.index in omega (arith, is, e, lt)))
    ∙ ap (λ (plans : List Plan). o.plan ∷ plans) (later_seen p at (suc n) ring placed.1 (omega arith))

none_seen : (p : Settings) (block n i : ℕ) (ring : List (Option EntryState)) → PlacedEntries p n ring → entry_at ring i ≡ None
    → map (plan_seen (point (n + i) block)) (plans_of ring) ≡ plans_of ring
none_seen p block n i [] placed e = refl
none_seen p block n zero (None ∷ ring) placed e = later_seen p (point (n + 0) block) (suc n) ring placed (omega arith)
none_seen p block n zero (Some o ∷ ring) placed e = absurd (cc)
none_seen p block n (suc i) (None ∷ ring) placed e =
    ap (λ k. map (plan_seen (point k block)) (plans_of ring)) (let k : n + suc i ≡ suc n + i = omega arith in k) ∙ none_seen p block (suc n) i ring placed e
none_seen p block n (suc i) (Some o ∷ ring) placed e =
    ap (λ (plan : Plan). plan ∷ map (plan_seen (point (n + suc i) block)) (plans_of ring)) (other_seen (point (n + suc i) block) o.plan (λ f. let is = placed.0.index in omega (arith, is, f)))
    ∙ ap (λ (plans : List Plan). o.plan ∷ plans)
    (ap (λ k. map (plan_seen (point k block)) (plans_of ring)) (let k : n + suc i ≡ suc n + i = omega arith in k) ∙ none_seen p block (suc n) i ring placed.1 e)

some_seen : (p : Settings) (block n i : ℕ) (ring : List (Option EntryState)) (o : EntryState) → PlacedEntries p n ring → entry_at ring i ≡ Some o
    → map (plan_seen (point (n + i) block)) (plans_of ring) ≡ plans_of (slice_set ring i (Some (with_seen block o)))
some_seen p block n i [] o placed e = absurd (cc)
some_seen p block n zero (None ∷ ring) o placed e = absurd (cc)
some_seen p block n zero (Some x ∷ ring) o placed e =
    let same : x ≡ o = cc in
    ap (λ (plan : Plan). plan ∷ map (plan_seen (point (n + 0) block)) (plans_of ring))
    (ap (λ k. plan_seen (point k block) x.plan) (let k : n + 0 ≡ x.plan.index = (let is = placed.0.index in omega (arith, is)) in k) ∙ ap (λ (y : EntryState). (with_seen block y).plan) same)
    ∙ ap (λ (plans : List Plan). (with_seen block o).plan ∷ plans) (later_seen p (point (n + 0) block) (suc n) ring placed.1 (omega arith))
some_seen p block n (suc i) (None ∷ ring) o placed e =
    ap (λ k. map (plan_seen (point k block)) (plans_of ring)) (let k : n + suc i ≡ suc n + i = omega arith in k) ∙ some_seen p block (suc n) i ring o placed e
some_seen p block n (suc i) (Some x ∷ ring) o placed e =
    ap (λ (plan : Plan). plan ∷ map (plan_seen (point (n + suc i) block)) (plans_of ring)) (other_seen (point (n + suc i) block) x.plan (λ f. let is = placed.0.index in omega (arith, is, f)))
    ∙ ap (λ (plans : List Plan). x.plan ∷ plans)
    (ap (λ k. map (plan_seen (point k block)) (plans_of ring)) (let k : n + suc i ≡ suc n + i = omega arith in k) ∙ some_seen p block (suc n) i ring o placed.1 e)

-- ---- a front of which a block is seen

pub seen_sound : (f g : Front) (i block : ℕ) → IsFront f → IsChanged f g → Becomes f.ring.items g.ring.items i (IsSeen block) → g.waiting ≡ f.waiting → IsFront g
seen_sound f g i block front is became count = go (at_place f.ring.items i) refl became
  where
    go : (found : Option Seat) → at_place f.ring.items i ≡ found
        → MatchOption found (g.ring.items ≡ f.ring.items) (λ (seat : Seat). (next : Seat) × (g.ring.items ≡ slice_set f.ring.items i (Some next)) × IsSeen block seat next) → IsFront g
    go None e r = sound_same f g front is r count
    go (Some seat) e r =
        let o = entry_of seat.entry in
        let seen = r.2 in
        let on : GoesOn o (entry_of r.0.entry) = subst (λ (x : EntryState). GoesOn o x) (sym seen.entry) (seen_on block o) in
        let was = front.seats i seat e in
        let waits : waiting (entry_of r.0.entry) ≡ waiting o = ap waiting seen.entry ∙ waits_same o in
        let new : IsSeat f.profile i (f.point + i) r.0 =
        seat_on f.profile i (f.point + i) seat r.0 on (subst (λ (x : EntryState). AllByRecursion (λ (h : Held). h.at.index ≡ f.point + i) x.held) (sym seen.entry) was.entry.own)
        seen.kind (let room = was.room in let more = seen.waiting in omega (arith, waits, room, more)) was in
        let ups_long : length g.ups.items ≡ length f.ups.items = ap (λ u. length u.items) is.ups in
        let ups_room : deque_capacity g.ups ≡ deque_capacity f.ups = ap (λ u. deque_capacity u) is.ups in
        let more = seen.waiting in
        sound_set f g i seat r.0 front is e r.1 on new (omega (arith, count, more)) (omega (arith, front.room, count, ups_long, ups_room))
      where
        by_flags : EntryState → ℕ → ℕ
        by_flags x flags = elim (says_stream flags) as (λ _. ℕ) [ true ↦ length x.held - x.point.symbol + (1 + opening x.point) | false ↦ 1 ]

        waits_same : (x : EntryState) → waiting (with_seen block x) ≡ waiting x
        waits_same x = ap (by_flags x) (seen_on block x).flags

-- a block is seen where nothing is
pub seen_none : (f : Front) (s : Holding) (i : ℕ) → IsFront f → StandsFor (front_view f) s → (block : ℕ) → entry_at (states_of f.ring.items) i ≡ None
    → StandsFor (front_view f) (sees_block (point (f.point + i) block) s)
seen_none f s i front stands block e = record {
  point = stands.point;
  plans =
      filter_seen s (point (f.point + i) block) s.plans ∙ ap (map (plan_seen (point (f.point + i) block))) stands.plans
      ∙ none_seen f.profile block f.point i (states_of f.ring.items) (placed f.profile f.point f.ring.items front.seats) e;
  held = stands.held;
  infos = stands.infos;
  ups = stands.ups;
  lost = stands.lost;
  passed = seen_passed f.profile (point (f.point + i) block) s stands.passed;
}

-- a block is seen of an object that was handed up or lost
pub seen_over : (f : Front) (s : Holding) (index block : ℕ) → IsFront f → StandsFor (front_view f) s → index < f.point
    → StandsFor (front_view f) (sees_block (point index block) s)
seen_over f s index block front stands lt = record {
  point = stands.point;
  plans =
      filter_seen s (point index block) s.plans ∙ ap (map (plan_seen (point index block))) stands.plans
      ∙ later_seen f.profile (point index block) f.point (states_of f.ring.items) (placed f.profile f.point f.ring.items front.seats) lt;
  held = stands.held;
  infos = stands.infos;
  ups = stands.ups;
  lost = stands.lost;
  passed = seen_passed f.profile (point index block) s stands.passed;
}

module _ (f : Front) (s : Holding) (i : ℕ) (front : IsFront f) (stands : StandsFor (front_view f) s) (lt : i < length f.ring.items) where
  abbrev states : List (Option EntryState)
  states = states_of f.ring.items

  long : i < length states
  long = (let n : length states ≡ length f.ring.items = length-map f.ring.items state_of in omega (arith, lt, n))

  are_placed : PlacedEntries f.profile f.point states
  are_placed = placed f.profile f.point f.ring.items front.seats

  seen_some : (block : ℕ) (o : EntryState) → entry_at states i ≡ Some o
      → StandsFor (view_states f (slice_set states i (Some (with_seen block o)))) (sees_block (point (f.point + i) block) s)
  seen_some block o e =
      let at : Point = point (f.point + i) block in
      let x : EntryState = with_seen block o in
      record {
        point = stands.point ∙ sym (begins_same f.point i states o x e refl);
        plans = filter_seen s at s.plans ∙ ap (map (plan_seen at)) stands.plans ∙ some_seen f.profile block f.point i states o are_placed e;
        held =
            stands.held
            ∙ sym (same_parts Held f.profile held_in held_key (own_held f.profile) states i (Some x) long (sym (ap (λ (found : Option EntryState). part_of Held held_in found) e)));
        infos =
            stands.infos
            ∙ sym (same_parts HeldInfo f.profile infos_in (λ y. y.index) (own_info f.profile) states i (Some x) long
            (infos_same o.info ∙ sym (ap (λ (found : Option EntryState). part_of HeldInfo infos_in found) e)));
        ups = stands.ups;
        lost = stands.lost;
        passed = seen_passed f.profile at s stands.passed;
      }
    where
      infos_same : (info : Option (List ℕ)) → (elim info as (λ _. List HeldInfo) [ Some octets ↦ record { index = (with_seen block o).plan.index; info = octets } ∷ [] | None ↦ [] ])
          ≡ (elim info as (λ _. List HeldInfo) [ Some octets ↦ record { index = o.plan.index; info = octets } ∷ [] | None ↦ [] ])
      infos_same (Some octets) = ap (λ n. record { index = n; info = octets } ∷ []) (seen_on block o).index
      infos_same None = refl

  pub seen_stands : (g : Front) (block : ℕ) → IsChanged f g → Becomes f.ring.items g.ring.items i (IsSeen block) → StandsFor (front_view g) (sees_block (point (f.point + i) block) s)
  seen_stands g block is became = go (at_place f.ring.items i) refl became
    where
      go : (found : Option Seat) → at_place f.ring.items i ≡ found
          → MatchOption found (g.ring.items ≡ f.ring.items) (λ (seat : Seat). (next : Seat) × (g.ring.items ≡ slice_set f.ring.items i (Some next)) × IsSeen block seat next)
          → StandsFor (front_view g) (sees_block (point (f.point + i) block) s)
      go None e r =
          subst (λ (h : EntryHold). StandsFor h (sees_block (point (f.point + i) block) s)) (sym (view_changed f g is states (ap states_of r)))
          (seen_none f s i front stands block (state_at f.ring.items i ∙ ap state_of e))
      go (Some seat) e r =
          let now : states_of g.ring.items ≡ slice_set states i (Some (with_seen block (entry_of seat.entry))) =
          ap states_of r.1 ∙ states_set f.ring.items i (Some r.0) ∙ ap (λ (x : EntryState). slice_set states i (Some x)) r.2.entry in
          subst (λ (h : EntryHold). StandsFor h (sees_block (point (f.point + i) block) s)) (sym (view_changed f g is _ now))
          (seen_some block (entry_of seat.entry) (state_at f.ring.items i ∙ ap state_of e))

  -- ---- an info comes

  informed_some : (info : List ℕ) (o : EntryState) → entry_at states i ≡ Some o → o.info ≡ None
      → StandsFor (view_states f (slice_set states i (Some (record o { info = Some info })))) (with_info put.Kept (f.point + i) info s)
  informed_some info o e none =
      let index = f.point + i in
      let new : HeldInfo = record { index = index; info = info } in
      let x : EntryState = record o { info = Some info } in
      let here : o.plan.index ≡ index = (placed_at f.profile f.point i states o are_placed e).index in
      let at : s.point.index ≡ f.point = ap (λ (y : Position). y.index) stands.point in
      record {
        point = stands.point ∙ sym (begins_same f.point i states o x e refl);
        plans =
            stands.plans
            ∙ sym (plans_joined (entries_there states))
            ∙ sym (same_parts Plan f.profile plans_in (λ plan. plan.index) (own_plan f.profile) states i (Some x) long (sym (ap (λ (found : Option EntryState). part_of Plan plans_in found) e)))
            ∙ plans_joined (entries_there (slice_set states i (Some x)));
        held =
            stands.held
            ∙ sym (same_parts Held f.profile held_in held_key (own_held f.profile) states i (Some x) long (sym (ap (λ (found : Option EntryState). part_of Held held_in found) e)));
        infos =
            filter_joins HeldInfo info_before (λ y. not (is_over s y.index)) new s.infos (ap not (not_over s f.point index at (omega arith)))
            (λ y out. let less = over_less s y.index out at in (le-ltb index y.index (omega (arith, less)), lt-ltb y.index index less))
            ∙ ap (with_member info_before new) stands.infos
            ∙ with_part HeldInfo f.profile infos_in (λ y. y.index) (own_info f.profile) info_before by_index new f.point states i x are_placed long refl
            (ap (λ n. record { index = n; info = info } ∷ []) here
            ∙ sym (alone_in HeldInfo info_before new)
            ∙ ap (λ (told : Option (List ℕ)). with_member info_before new (infos_by told)) (sym none)
            ∙ ap (λ (found : Option EntryState). with_member info_before new (part_of HeldInfo infos_in found)) (sym e));
        ups = stands.ups;
        lost = stands.lost;
        passed = info_passed f.profile put.Kept index info s stands.passed;
      }
    where
      infos_by : Option (List ℕ) → List HeldInfo
      infos_by told = elim told as (λ _. List HeldInfo) [ Some octets ↦ record { index = o.plan.index; info = octets } ∷ [] | None ↦ [] ]

      by_index : (x y : HeldInfo) → x.index < y.index → (info_before x y ≡ true) × (info_before y x ≡ false)
      by_index x y less = (lt-ltb x.index y.index less, le-ltb y.index x.index (omega (arith, less)))

      over_less : (t : Holding) (n : ℕ) → not (is_over t n) ≡ false → t.point.index ≡ f.point → n < f.point + i
      over_less t n out at = go (nat_lt n t.point.index) refl out
        where
          go : (b : Bool) → nat_lt n t.point.index ≡ b → not b ≡ false → n < f.point + i
          go true d h = (let less = ltb-true n t.point.index d in omega (arith, less, at))
          go false d h = absurd (cc h)

  pub informed_stands : (g : Front) (info : List ℕ) → IsChanged f g → MatchOption (entry_at (states_of f.ring.items) i) ⊥ (λ (o : EntryState). o.info ≡ None)
      → Becomes f.ring.items g.ring.items i (IsInformed info) → StandsFor (front_view g) (with_info put.Kept (f.point + i) info s)
  informed_stands g info is new became = go (at_place f.ring.items i) refl became
    where
      go : (found : Option Seat) → at_place f.ring.items i ≡ found
          → MatchOption found (g.ring.items ≡ f.ring.items) (λ (seat : Seat). (next : Seat) × (g.ring.items ≡ slice_set f.ring.items i (Some next)) × IsInformed info seat next)
          → StandsFor (front_view g) (with_info put.Kept (f.point + i) info s)
      go None e r = absurd (subst (λ (x : Option EntryState). MatchOption x ⊥ (λ (o : EntryState). o.info ≡ None)) (state_at f.ring.items i ∙ ap state_of e) new)
      go (Some seat) e r =
          let there : entry_at states i ≡ Some (entry_of seat.entry) = state_at f.ring.items i ∙ ap state_of e in
          let now : states_of g.ring.items ≡ slice_set states i (Some (record (entry_of seat.entry) { info = Some info })) =
          ap states_of r.1 ∙ states_set f.ring.items i (Some r.0) ∙ ap (λ (x : EntryState). slice_set states i (Some x)) r.2.entry in
          subst (λ (h : EntryHold). StandsFor h (with_info put.Kept (f.point + i) info s)) (sym (view_changed f g is _ now))
          (informed_some info (entry_of seat.entry) there (subst (λ (x : Option EntryState). MatchOption x ⊥ (λ (o : EntryState). o.info ≡ None)) there new))

pub informed_sound : (f g : Front) (i : ℕ) (info : List ℕ) → IsFront f → IsChanged f g → Becomes f.ring.items g.ring.items i (IsInformed info) → g.waiting ≡ f.waiting → IsFront g
informed_sound f g i info front is became count = go (at_place f.ring.items i) refl became
  where
    go : (found : Option Seat) → at_place f.ring.items i ≡ found
        → MatchOption found (g.ring.items ≡ f.ring.items) (λ (seat : Seat). (next : Seat) × (g.ring.items ≡ slice_set f.ring.items i (Some next)) × IsInformed info seat next) → IsFront g
    go None e r = sound_same f g front is r count
    go (Some seat) e r =
        let o = entry_of seat.entry in
        let seen = r.2 in
        let itself : GoesOn o (record o { info = Some info }) = record { index = refl; fti = refl; flags = refl; point = refl; room = refl } in
        let on : GoesOn o (entry_of r.0.entry) = subst (λ (x : EntryState). GoesOn o x) (sym seen.entry) itself in
        let was = front.seats i seat e in
        let waits : waiting (entry_of r.0.entry) ≡ waiting o = ap waiting seen.entry in
        let new : IsSeat f.profile i (f.point + i) r.0 =
        seat_on f.profile i (f.point + i) seat r.0 on (subst (λ (x : EntryState). AllByRecursion (λ (h : Held). h.at.index ≡ f.point + i) x.held) (sym seen.entry) was.entry.own)
        seen.kind (let room = was.room in let more = seen.waiting in omega (arith, waits, room, more)) was in
        let ups_long : length g.ups.items ≡ length f.ups.items = ap (λ u. length u.items) is.ups in
        let ups_room : deque_capacity g.ups ≡ deque_capacity f.ups = ap (λ u. deque_capacity u) is.ups in
        let more = seen.waiting in
        sound_set f g i seat r.0 front is e r.1 on new (omega (arith, count, more)) (omega (arith, front.room, count, ups_long, ups_room))

-- each is of its kind
pub kinds_at : (f : Front) (i : ℕ) → IsFront f → MatchOption (at_place f.ring.items i) ⊤ (λ (seat : Seat). IsOfKind seat.entry)
kinds_at f i front = go (at_place f.ring.items i) refl
  where
    go : (found : Option Seat) → at_place f.ring.items i ≡ found → MatchOption found ⊤ (λ (seat : Seat). IsOfKind seat.entry)
    go None e = tt
    go (Some seat) e = (front.seats i seat e).kind

pub uninformed : (f : Front) (i : ℕ) → MatchOption (entry_at (states_of f.ring.items) i) ⊥ (λ (o : EntryState). o.info ≡ None)
    → MatchOption (at_place f.ring.items i) ⊤ (λ (seat : Seat). (entry_of seat.entry).info ≡ None)
uninformed f i new = go (at_place f.ring.items i) refl
  where
    go : (found : Option Seat) → at_place f.ring.items i ≡ found → MatchOption found ⊤ (λ (seat : Seat). (entry_of seat.entry).info ≡ None)
    go None e = tt
    go (Some seat) e = subst (λ (x : Option EntryState). MatchOption x ⊥ (λ (o : EntryState). o.info ≡ None)) (state_at f.ring.items i ∙ ap state_of e) new
