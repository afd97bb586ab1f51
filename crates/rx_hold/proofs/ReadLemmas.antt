-- What a front is asked, answered by the object at its place.
use Rattle.std.proofs.Common.{◌≡◌, ℕ, zero, suc, ◌+◌, ◌-◌, ◌<◌, ◌≤◌, refl, sym, ap, ◌∙◌, subst, arith, Option, Some, None, List, [], ◌∷◌, length, Bool, true, false}
use Rattle.std.specs.Prelude.{option_map, is_some, cond, filter, find, not, IfOk, Result, Ok, Err, ◌==◌, ◌&&◌, ◌||◌, nat_lt}
use Rattle.std.specs.List.{list_any}
use Rattle.std.proofs.lemmas.Bool.{eq-eqb, eqb-true, le-ltb, ltb-false, ne_eqb}
use Rattle.norm_base.specs.Settings.{Settings}
use Rattle.fec_plan.specs.Points.{point, point_of, point_before, position}
use Rattle.fec_plan.specs.declared.position.Position.{Position}
use Rattle.norm_receive_rules.specs.Holding.{Holding, Plan, Held, HeldInfo}
use Rattle.norm_receive_rules.specs.Plans.{cut_of_plan, holds, info_of, lacking, plan_of}
use Rattle.norm_receive_rules.specs.Putting.{put_of, with_symbol}
use Rattle.norm_receive_rules.specs.declared.words.Missing.{Missing}
use Rattle.norm_receive_rules.specs.declared.words.Missing.TheVariants as missing
use Rattle.norm_receive_rules.specs.declared.words.Put.{Put}
use Rattle.norm_receive_rules.specs.declared.words.Put.TheVariants as put
use Rattle.rx_hold.specs.EntryState.{EntryState, alone_in, entry_of, infos_in}
use Rattle.rx_hold.specs.EntryHold.{EntryHold, PlacedEntries, StandsFor, at_place, entries_there, entry_at}
use Rattle.rx_hold.specs.Told.{is_passed, plan_at, flags_at, missing_at, missing_by}
use Rattle.rx_hold.proofs.EntryLemmas.{AreAlikeAt, holds_at, lacking_at}
use Rattle.rx_hold.proofs.EntryRing.{filter_twice, found_in, part_of}
use Rattle.rx_hold.proofs.EntryStands.{alike_at, found_same, held_in, held_key, info_at, own_held, own_info, placed_at, plan_found}
use Rattle.rx_hold.proofs.EntryWords.{first_at_place, put_nowhere, put_passed}
use Rattle.rx_hold.specs.Seats.{begins_at, states_of}
use Rattle.rx_hold.specs.FrontSound.{IsFront, front_view, object_in, point_of_front}
use Rattle.rx_hold.specs.declared.front.Front.{Front}
use Rattle.rx_hold.specs.declared.ring.Seat.{Seat}
use Rattle.rx_hold.proofs.SeatLemmas.{far, placed, state_at, state_seat}

-- the info that an object alone has
told_alone : (o : EntryState) (info : Option (List ℕ)) → o.info ≡ info → info_of (alone_in o) o.plan.index ≡ info
told_alone o info e = ap (λ (i : Option (List ℕ)). info_of (alone_in (record o { info = i })) o.plan.index) e ∙ go info
  where
    go : (i : Option (List ℕ)) → info_of (alone_in (record o { info = i })) o.plan.index ≡ i
    go None = refl
    go (Some octets) =
        ap (λ b. elim (cond {A = Option HeldInfo} b (Some (record { index = o.plan.index; info = octets })) None) as (λ _. Option (List ℕ)) [ Some x ↦ Some x.info | None ↦ None ])
        (eq-eqb o.plan.index o.plan.index refl)

-- a block that was not handed up whole is one from the object's next one on
pub reached_block : (f : Front) (index : ℕ) → IsFront f → f.point ≤ index → (block : ℕ) (o : EntryState) → point_before (point index block) (point_of (point_of_front f)) ≡ false
    → entry_at (states_of f.ring.items) (index - f.point) ≡ Some o → o.point.block ≤ block
reached_block f index front reached block o ahead e = by (index - f.point) refl
  where
    both_off : (a b d : Bool) → (a || (b && d)) ≡ false → b ≡ true → d ≡ false
    both_off true b d h g = absurd (cc h)
    both_off false true d h g = h
    both_off false false d h g = absurd (cc g)

    by : (j : ℕ) → index - f.point ≡ j → o.point.block ≤ block
    by zero first =
        let here : entry_at (states_of f.ring.items) 0 ≡ Some o = sym (ap (entry_at (states_of f.ring.items)) first) ∙ e in
        let same : (point_of_front f).block ≡ o.point.block = ap (λ (x : Option EntryState). (begins_at f.point x).block) here in
        let le = ltb-false block (point_of_front f).block
        (both_off (nat_lt index f.point) (index == f.point) (nat_lt block (point_of_front f).block) ahead (eq-eqb index f.point (omega (arith, first, reached)))) in
        omega (arith, le, same)
    by (suc j) first =
        let there = state_seat (at_place f.ring.items (index - f.point)) o (sym (state_at f.ring.items (index - f.point)) ∙ e) in
        let none = ((front.seats (index - f.point) there.0 there.1).later (omega (arith, first))).0 in
        let same : o.point.block ≡ (entry_of there.0.entry).point.block = ap (λ (x : EntryState). x.point.block) there.2 in
        omega (arith, none, same)

module _ (f : Front) (s : Holding) (index : ℕ) (front : IsFront f) (stands : StandsFor (front_view f) s) (reached : f.point ≤ index) where
  abbrev states : List (Option EntryState)
  states = states_of f.ring.items

  are_placed : PlacedEntries f.profile f.point states
  are_placed = placed f.profile f.point f.ring.items front.seats

  at : f.point + (index - f.point) ≡ index
  at = omega (arith, reached)

  found : plan_of s index ≡ option_map (λ (o : EntryState). o.plan) (entry_at states (index - f.point))
  found = plan_found f.profile (point_of_front f) states f.ups.items f.lost s are_placed stands index (index - f.point) at

  pub read_plan : (o : EntryState) → entry_at (states_of f.ring.items) (index - f.point) ≡ Some o → plan_of s index ≡ Some o.plan
  read_plan o e = found ∙ ap (λ (x : Option EntryState). option_map (λ (y : EntryState). y.plan) x) e

  pub read_none : entry_at (states_of f.ring.items) (index - f.point) ≡ None → plan_of s index ≡ None
  read_none e = found ∙ ap (λ (x : Option EntryState). option_map (λ (y : EntryState). y.plan) x) e

  pub read_cut : (o : EntryState) → entry_at (states_of f.ring.items) (index - f.point) ≡ Some o → Some (cut_of_plan o.plan) ≡ plan_at s index
  read_cut o e = sym (ap (λ (x : Option Plan). option_map cut_of_plan x) (read_plan o e))

  pub read_no_cut : entry_at (states_of f.ring.items) (index - f.point) ≡ None → None ≡ plan_at s index
  read_no_cut e = sym (ap (λ (x : Option Plan). option_map cut_of_plan x) (read_none e))

  pub read_flags : (o : EntryState) → entry_at (states_of f.ring.items) (index - f.point) ≡ Some o → Some o.plan.flags ≡ flags_at s index
  read_flags o e = sym (ap (λ (x : Option Plan). option_map (λ (plan : Plan). plan.flags) x) (read_plan o e))

  pub read_no_flags : entry_at (states_of f.ring.items) (index - f.point) ≡ None → None ≡ flags_at s index
  read_no_flags e = sym (ap (λ (x : Option Plan). option_map (λ (plan : Plan). plan.flags) x) (read_none e))

  pub read_info : (o : EntryState) → entry_at (states_of f.ring.items) (index - f.point) ≡ Some o → is_some o.info ≡ is_some (info_of s index)
  read_info o e =
      ap (λ (x : Option (List ℕ)). is_some x)
      (sym (told_alone o o.info refl)
      ∙ ap (info_of (alone_in o)) ((placed_at f.profile f.point (index - f.point) states o are_placed e).index ∙ at)
      ∙ sym (info_at f.profile (point_of_front f) states f.ups.items f.lost s are_placed stands index (index - f.point) o at e))

  pub read_held : (block symbol : ℕ) (o : EntryState) → point_before (point index block) (point_of (point_of_front f)) ≡ false
      → entry_at (states_of f.ring.items) (index - f.point) ≡ Some o → holds (alone_in o) (position o.plan.index block symbol) ≡ holds s (position index block symbol)
  read_held block symbol o ahead e =
      let own : o.plan.index ≡ index = (placed_at f.profile f.point (index - f.point) states o are_placed e).index ∙ at in
      ap (λ n. holds (alone_in o) (position n block symbol)) own
      ∙ sym (holds_at s (alone_in o) (position index block symbol)
      (alike_at f.profile (point_of_front f) states f.ups.items f.lost s are_placed stands index (index - f.point) block o at e
      (ap (λ (x : Position). point_before (point index block) (point_of x)) stands.point ∙ ahead)
      (first_at_place f.profile (point_of_front f) states f.ups.items f.lost s are_placed (far f.profile f.point f.ring.items front.seats) stands index (index - f.point) o at e)))

  -- what is lacking of a block of which so many symbols are lacking
  pub read_missing : (block n : ℕ) (o : EntryState) → point_before (point index block) (point_of (point_of_front f)) ≡ false
      → entry_at (states_of f.ring.items) (index - f.point) ≡ Some o → n ≡ lacking (alone_in o) o.plan block → missing_by n ≡ missing_at s index block
  read_missing block n o ahead e same =
      let own : o.plan.index ≡ index = (placed_at f.profile f.point (index - f.point) states o are_placed e).index ∙ at in
      sym (ap (λ (x : Option Plan). elim x as (λ _. Missing) [ Some plan ↦ missing_by (lacking s plan block) | None ↦ missing.Unseen ]) (read_plan o e)
      ∙ ap missing_by
      (lacking_at s (alone_in o) o.plan block
      (subst (λ k. AreAlikeAt s (alone_in o) k block) (sym own)
      (alike_at f.profile (point_of_front f) states f.ups.items f.lost s are_placed stands index (index - f.point) block o at e
      (ap (λ (x : Position). point_before (point index block) (point_of x)) stands.point ∙ ahead)
      (first_at_place f.profile (point_of_front f) states f.ups.items f.lost s are_placed (far f.profile f.point f.ring.items front.seats) stands index (index - f.point) o at e)))
      ∙ sym same))

  pub read_unseen : (block : ℕ) → entry_at (states_of f.ring.items) (index - f.point) ≡ None → missing.Unseen ≡ missing_at s index block
  read_unseen block e =
      sym (ap (λ (x : Option Plan). elim x as (λ _. Missing) [ Some plan ↦ missing_by (lacking s plan block) | None ↦ missing.Unseen ]) (read_none e))

  both_left : (a b : Bool) → (a && b) ≡ true → a ≡ true
  both_left true b h = refl
  both_left false b h = absurd (cc h)

  both_right : (a b : Bool) → (a && b) ≡ true → b ≡ true
  both_right true b h = h
  both_right false b h = absurd (cc h)

  pub read_not_held : (block symbol : ℕ) → point_before (point index block) (point_of (point_of_front f)) ≡ false
      → entry_at (states_of f.ring.items) (index - f.point) ≡ None → false ≡ holds s (position index block symbol)
  read_not_held block symbol ahead e = sym (ap (list_any (λ (h : Held). h.at.symbol == symbol)) none)
    where
      q : Held → Bool
      q h = h.at.index == index && h.at.block == block

      ahead_here : is_passed s (position index block 0) ≡ false
      ahead_here = ap (λ (x : Position). point_before (point index block) (point_of x)) stands.point ∙ ahead

      none : filter (λ (h : Held). h.at.index == index && h.at.block == block) s.held ≡ []
      none =
          sym (filter_twice Held (λ h. h.at.index == index && h.at.block == block) (λ x. not (is_passed s x.at))
          (λ x passes. ap not
          (ap (λ n. point_before (point n x.at.block) (point_of s.point)) (eqb-true x.at.index index (both_left (x.at.index == index) (x.at.block == block) passes))
          ∙ ap (λ n. point_before (point index n) (point_of s.point)) (eqb-true x.at.block block (both_right (x.at.index == index) (x.at.block == block) passes))
          ∙ ahead_here))
          s.held)
          ∙ ap (filter (λ (h : Held). h.at.index == index && h.at.block == block)) stands.held
          ∙ found_in Held f.profile held_in held_key (own_held f.profile) (λ h. h.at.index == index && h.at.block == block) index f.point (index - f.point)
          (λ h yes. eqb-true h.at.index index (both_left (h.at.index == index) (h.at.block == block) yes)) states are_placed at
          ∙ ap (λ (x : Option EntryState). filter (λ (h : Held). h.at.index == index && h.at.block == block) (part_of Held held_in x)) e

  pub read_no_info : entry_at (states_of f.ring.items) (index - f.point) ≡ None → false ≡ is_some (info_of s index)
  read_no_info e =
      sym (ap (λ (x : Option HeldInfo). is_some (elim x as (λ _. Option (List ℕ)) [ Some h ↦ Some h.info | None ↦ None ])) none)
    where
      open_here : (n : ℕ) → n ≡ index → not (nat_lt n s.point.index) ≡ true
      open_here n same = (let here : s.point.index ≡ f.point = ap (λ (x : Position). x.index) stands.point in ap not (le-ltb n s.point.index (omega (arith, here, same, reached))))

      none : find (λ (h : HeldInfo). h.index == index) s.infos ≡ None
      none =
          found_same HeldInfo (λ h. h.index == index) s.infos []
          (sym (filter_twice HeldInfo (λ h. h.index == index) (λ x. not (nat_lt x.index s.point.index)) (λ x yes. open_here x.index (eqb-true x.index index yes)) s.infos)
          ∙ ap (filter (λ (h : HeldInfo). h.index == index)) stands.infos
          ∙ found_in HeldInfo f.profile infos_in (λ h. h.index) (own_info f.profile) (λ h. h.index == index) index f.point (index - f.point)
          (λ h yes. eqb-true h.index index yes) states are_placed at
          ∙ ap (λ (x : Option EntryState). filter (λ (h : HeldInfo). h.index == index) (part_of HeldInfo infos_in x)) e)

  -- ---- a symbol that nothing is kept of

  pub put_away : (block symbol : ℕ) (payload : List ℕ) → entry_at (states_of f.ring.items) (index - f.point) ≡ None → put.Away ≡ put_of f.profile s (position index block symbol) payload
  put_away block symbol payload e =
      sym (put_nowhere f.profile (point_of_front f) states f.ups.items f.lost s are_placed (far f.profile f.point f.ring.items front.seats) stands index (index - f.point) block symbol payload at e)

pub put_earlier : (f : Front) (s : Holding) (index block symbol : ℕ) (payload : List ℕ) → IsFront f → StandsFor (front_view f) s → f.point ≤ index → index - f.point ≡ 0
    → block < (point_of_front f).block → put.Had ≡ put_of f.profile s (position index block symbol) payload
put_earlier f s index block symbol payload front stands reached first lt =
    sym (subst (λ n. put_of f.profile s (position n block symbol) payload ≡ put.Had) (let same : f.point ≡ index = omega (arith, reached, first) in same)
    (go (entry_at (states_of f.ring.items) 0) refl))
  where
    go : (found : Option EntryState) → entry_at (states_of f.ring.items) 0 ≡ found → put_of f.profile s (position f.point block symbol) payload ≡ put.Had
    go None e = absurd (let none : (point_of_front f).block ≡ 0 = ap (λ (x : Option EntryState). (begins_at f.point x).block) e in omega (arith, none, lt))
    go (Some o) e =
        put_passed f.profile (point_of_front f) (states_of f.ring.items) f.ups.items f.lost s (placed f.profile f.point f.ring.items front.seats)
        (far f.profile f.point f.ring.items front.seats) stands block symbol payload o e lt

pub past_end : (ring : List (Option Seat)) (i : ℕ) → length ring ≤ i → entry_at (states_of ring) i ≡ None
past_end [] i le = refl
past_end (x ∷ ring) zero le = absurd (omega arith)
past_end (x ∷ ring) (suc i) le = past_end ring i (omega arith)

pub if_ok : (T E : Type 0) (r : Result T E) (P Q : T → Type 0) → ((x : T) → P x → Q x) → IfOk r P → IfOk r Q
if_ok T E (Ok x) P Q h is = h x is
if_ok T E (Err e) P Q h is = is

-- what is said of a front with more room for hand-ups is said of it
pub put_moved : (f g : Front) (h : EntryHold) (index place block symbol : ℕ) (payload : List ℕ) (word : Put) → front_view g ≡ front_view f → g.profile ≡ f.profile → g.point + place ≡ index
    → ((s : Holding) → StandsFor (front_view g) s
    → (word ≡ put_of g.profile s (position (g.point + place) block symbol) payload) × StandsFor h (with_symbol word (position (g.point + place) block symbol) payload s))
    → (s : Holding) → StandsFor (front_view f) s → (word ≡ put_of f.profile s (position index block symbol) payload) × StandsFor h (with_symbol word (position index block symbol) payload s)
put_moved f g h index place block symbol payload word view profile at is s stands =
    subst (λ n. (word ≡ put_of f.profile s (position n block symbol) payload) × StandsFor h (with_symbol word (position n block symbol) payload s)) at
    (subst (λ (p : Settings). (word ≡ put_of p s (position (g.point + place) block symbol) payload) × StandsFor h (with_symbol word (position (g.point + place) block symbol) payload s)) profile
    (is s (subst (λ (v : EntryHold). StandsFor v s) (sym view) stands)))

-- ---- the object with an index, by its place

none_later : (p : Settings) (index m : ℕ) (ring : List (Option EntryState)) → PlacedEntries p m ring → index < m
    → find (λ (o : EntryState). o.plan.index == index) (entries_there ring) ≡ None
none_later p index m [] are lt = refl
none_later p index m (None ∷ ring) are lt = none_later p index (suc m) ring are (omega arith)
none_later p index m (Some o ∷ ring) are lt =
    ap (λ b. cond b (Some o) (find (λ (x : EntryState). x.plan.index == index) (entries_there ring)))
    (ne_eqb o.plan.index index (λ e. let here = are.0.index in omega (arith, here, e, lt)))
    ∙ none_later p index (suc m) ring are.1 (omega arith)

found_by : (p : Settings) (index m i : ℕ) (ring : List (Option EntryState)) → PlacedEntries p m ring → m + i ≡ index
    → find (λ (o : EntryState). o.plan.index == index) (entries_there ring) ≡ entry_at ring i
found_by p index m i [] are at = refl
found_by p index m zero (None ∷ ring) are at = none_later p index (suc m) ring are (omega arith)
found_by p index m zero (Some o ∷ ring) are at =
    ap (λ b. cond b (Some o) (find (λ (x : EntryState). x.plan.index == index) (entries_there ring))) (eq-eqb o.plan.index index (let here = are.0.index in omega (arith, here, at)))
found_by p index m (suc i) (None ∷ ring) are at = found_by p index (suc m) i ring are (omega arith)
found_by p index m (suc i) (Some o ∷ ring) are at =
    ap (λ b. cond b (Some o) (find (λ (x : EntryState). x.plan.index == index) (entries_there ring)))
    (ne_eqb o.plan.index index (λ e. let here = are.0.index in omega (arith, here, e, at)))
    ∙ found_by p index (suc m) i ring are.1 (omega arith)

pub looked_up : (f : Front) (index : ℕ) → IsFront f → f.point ≤ index → object_in (front_view f) index ≡ entry_at (states_of f.ring.items) (index - f.point)
looked_up f index front reached =
    found_by f.profile index f.point (index - f.point) (states_of f.ring.items) (placed f.profile f.point f.ring.items front.seats) (omega (arith, reached))
