-- The end of a stream, from what a front has of it.
use Rattle.std.proofs.Common.{◌≡◌, ℕ, ◌+◌, ◌-◌, ◌≤◌, Bool, true, false, cond, refl, sym, ap, ◌∙◌, subst, arith, Option, Some, None, List, [], ◌∷◌, map}
use Rattle.std.specs.Prelude.{find, filter, not, option_map, nat_le, ◌==◌, ◌&&◌}
use Rattle.std.specs.List.{AllByRecursion, range_with_len}
use Rattle.std.proofs.lemmas.Bool.{eqb-true, leb-true}
use Rattle.norm_base.specs.Settings.{Settings}
use Rattle.fec_plan.specs.Partition.{source_symbols}
use Rattle.fec_plan.specs.Payload.{Name}
use Rattle.fec_plan.specs.Points.{position}
use Rattle.fec_plan.specs.declared.position.Position.{Position}
use Rattle.norm_receive_rules.specs.HandingUp.{segment_length}
use Rattle.norm_receive_rules.specs.Holding.{Holding, Plan, Held}
use Rattle.norm_receive_rules.specs.Plans.{cut_of_plan, first_block, says_stream}
use Rattle.norm_receive_rules.specs.StreamNeeds.{end_among, end_in as end_of_block, end_of, is_end}
use Rattle.rx_hold.specs.EntryState.{EntryState, IsOfKind, alone_in, entry_of}
use Rattle.rx_hold.specs.EntryHold.{PlacedEntries, StandsFor, at_place, entry_at}
use Rattle.rx_hold.specs.Told.{is_passed}
use Rattle.rx_hold.specs.declared.entry.Entry.{Entry}
use Rattle.rx_hold.specs.declared.entry.Entry.TheVariants as kinds
use Rattle.rx_hold.proofs.EntryHands.{value_at}
use Rattle.rx_hold.proofs.EntryLemmas.{AreAlikeAt}
use Rattle.rx_hold.proofs.EntryRing.{all_mapped, filter_twice, found_in, part_of}
use Rattle.rx_hold.proofs.EntryStands.{alike_at, held_in, held_key, own_held, placed_at}
use Rattle.rx_hold.proofs.EntryWords.{first_at_place, is_ahead}
use Rattle.rx_hold.specs.Asked.{end_at, end_in}
use Rattle.rx_hold.specs.Seats.{begins_at, state_of, states_of}
use Rattle.rx_hold.specs.FrontSound.{IsFront, front_view, point_of_front}
use Rattle.rx_hold.specs.declared.front.Front.{Front}
use Rattle.rx_hold.specs.declared.ring.Seat.{Seat}
use Rattle.rx_hold.proofs.ReadLemmas.{read_none, read_plan}
use Rattle.rx_hold.proofs.SeatLemmas.{far, own_block, placed, state_at, state_seat}

-- ---- what a filter keeps passes its test

all_kept : (Y : Type 0) (q : Y → Bool) (ys : List Y) → AllByRecursion (λ y. q y ≡ true) (filter q ys)
all_kept Y q [] = tt
all_kept Y q (y ∷ ys) = go (q y) refl (all_kept Y q ys)
  where
    go : (b : Bool) → q y ≡ b → AllByRecursion (λ y. q y ≡ true) (filter q ys) → AllByRecursion (λ y. q y ≡ true) (cond b (y ∷ filter q ys) (filter q ys))
    go true e rest = (e, rest)
    go false e rest = rest

-- ---- the end in a block, and among blocks, of two states that hold the same of these

find_same : (f g : Position → Bool) (at : ℕ → Position) → ((n : ℕ) → f (at n) ≡ g (at n)) → (ns : List ℕ) → find f (map at ns) ≡ find g (map at ns)
find_same f g at same [] = refl
find_same f g at same (n ∷ ns) =
    ap (λ b. cond b (Some (at n)) (find f (map at ns))) (same n) ∙ ap (λ (o : Option Position). cond (g (at n)) (Some (at n)) o) (find_same f g at same ns)

abbrev empty_by : Settings → Option (List ℕ) → Bool
empty_by p value = elim value as (λ _. Bool) [ Some octets ↦ segment_length p octets == 0 | None ↦ false ]

block_same : (p : Settings) (s t : Holding) (plan : Plan) (block : ℕ) → AreAlikeAt s t plan.index block → end_of_block p s plan block ≡ end_of_block p t plan block
block_same p s t plan block alike =
    find_same (is_end p s plan) (is_end p t plan) (λ symbol. position plan.index block symbol) (λ n. ap (empty_by p) (value_at s t plan block n alike))
    (range_with_len 0 (source_symbols (cut_of_plan plan) block))

among_same : (p : Settings) (s t : Holding) (plan : Plan) (first : ℕ) → ((block : ℕ) → first ≤ block → AreAlikeAt s t plan.index block)
    → (hs : List Held) → AllByRecursion (λ (h : Held). first ≤ h.at.block) hs → end_among p s plan hs ≡ end_among p t plan hs
unfolding end_among
among_same p s t plan first alike [] all = refl
among_same p s t plan first alike (h ∷ hs) all =
    ap (λ (o : Option Position). elim o as (λ _. Option Position) [ Some at ↦ Some at | None ↦ end_among p s plan hs ])
    (block_same p s t plan h.at.block (alike h.at.block all.0))
    ∙ ap (λ (o : Option Position). elim (end_of_block p t plan h.at.block) as (λ _. Option Position) [ Some at ↦ Some at | None ↦ o ]) (among_same p s t plan first alike hs all.1)

both_left : (a b : Bool) → (a && b) ≡ true → a ≡ true
both_left true b h = refl
both_left false b h = absurd (cc h)

both_right : (a b : Bool) → (a && b) ≡ true → b ≡ true
both_right true b h = h
both_right false b h = absurd (cc h)

-- a symbol of an object, from a block on
abbrev is_from : ℕ → ℕ → Held → Bool
is_from index first h = h.at.index == index && nat_le first h.at.block

-- ---- of a front

module _ (f : Front) (s : Holding) (index : ℕ) (front : IsFront f) (stands : StandsFor (front_view f) s) (reached : f.point ≤ index) where
  abbrev states : List (Option EntryState)
  states = states_of f.ring.items

  are_placed : PlacedEntries f.profile f.point states
  are_placed = placed f.profile f.point f.ring.items front.seats

  at : f.point + (index - f.point) ≡ index
  at = omega (arith, reached)

  point_is : s.point.index ≡ f.point
  point_is = ap (λ (x : Position). x.index) stands.point

  end_there : (o : EntryState) → entry_at (states_of f.ring.items) (index - f.point) ≡ Some o → end_of f.profile s o.plan ≡ end_of f.profile (alone_in o) o.plan
  end_there o e =
      ap (λ n. end_among f.profile s o.plan (filter (is_from o.plan.index n) s.held)) (first_is ∙ own_first)
      ∙ ap (end_among f.profile s o.plan) held
      ∙ among_same f.profile s (alone_in o) o.plan o.point.block alike (filter q o.held)
      (all_mapped Held (λ h. q h ≡ true) (λ h. o.point.block ≤ h.at.block)
      (λ h passes. leb-true o.point.block h.at.block (both_right (h.at.index == o.plan.index) (nat_le o.point.block h.at.block) passes)) (filter q o.held) (all_kept Held q o.held))
      ∙ sym (ap (λ n. end_among f.profile (alone_in o) o.plan (filter (is_from o.plan.index n) o.held)) own_first)
    where
      q : Held → Bool
      q = is_from o.plan.index o.point.block

      own : o.plan.index ≡ index
      own = (placed_at f.profile f.point (index - f.point) states o are_placed e).index ∙ at

      own_first : first_block (alone_in o) o.plan.index ≡ o.point.block
      own_first =
          let there = state_seat (at_place f.ring.items (index - f.point)) o (sym (state_at f.ring.items (index - f.point)) ∙ e) in
          ap (λ (x : EntryState). first_block (alone_in x) x.plan.index) there.2
          ∙ own_block f.profile (index - f.point) (f.point + (index - f.point)) there.0 (front.seats (index - f.point) there.0 there.1)
          ∙ sym (ap (λ (x : EntryState). x.point.block) there.2)

      first_at : first_block s index ≡ first_block (alone_in o) index
      first_at =
          first_at_place f.profile (point_of_front f) states f.ups.items f.lost s are_placed (far f.profile f.point f.ring.items front.seats) stands index (index - f.point) o at e

      first_is : first_block s o.plan.index ≡ first_block (alone_in o) o.plan.index
      first_is = subst (λ n. first_block s n ≡ first_block (alone_in o) n) (sym own) first_at

      first_point : index - f.point ≡ 0 → s.point.block ≡ o.point.block
      first_point here =
          ap (λ (x : Position). x.block) stands.point
          ∙ ap (λ (found : Option EntryState). (begins_at f.point found).block) (ap (entry_at states) (sym here) ∙ e)

      ahead : (n block : ℕ) → n ≡ index → o.point.block ≤ block → is_passed s (position n block 0) ≡ false
      ahead n block same le =
          is_ahead s n block (omega (arith, point_is, reached, same))
          (λ here. let b = first_point (omega (arith, here, point_is, same)) in omega (arith, b, le))

      alike : (block : ℕ) → o.point.block ≤ block → AreAlikeAt s (alone_in o) o.plan.index block
      alike block le =
          subst (λ n. AreAlikeAt s (alone_in o) n block) (sym own)
          (alike_at f.profile (point_of_front f) states f.ups.items f.lost s are_placed stands index (index - f.point) block o at e (ahead index block refl le) first_at)

      of_own : (h : Held) → q h ≡ true → h.at.index ≡ index
      of_own h passes = eqb-true h.at.index o.plan.index (both_left (h.at.index == o.plan.index) (nat_le o.point.block h.at.block) passes) ∙ own

      held : filter q s.held ≡ filter q o.held
      held =
          sym (filter_twice Held q (λ x. not (is_passed s x.at))
          (λ h passes. ap not (ahead h.at.index h.at.block (of_own h passes)
          (leb-true o.point.block h.at.block (both_right (h.at.index == o.plan.index) (nat_le o.point.block h.at.block) passes))))
          s.held)
          ∙ ap (filter q) stands.held
          ∙ found_in Held f.profile held_in held_key (own_held f.profile) q index f.point (index - f.point) of_own states are_placed at
          ∙ ap (λ (x : Option EntryState). filter q (part_of Held held_in x)) e

  end_by : Option Plan → Option Position
  end_by found = elim found as (λ _. Option Position) [
    | Some plan ↦ elim (says_stream plan.flags) as (λ _. Option Position) [ true ↦ end_of f.profile s plan | false ↦ None ]
    | None ↦ None
  ]

  -- the place that an entry names
  abbrev named : ℕ → Option Name → Option Position
  named n found = option_map (λ (id : Name). position n id.block id.symbol) found

  pub read_end : (kind : Entry) (found : Option Name) → Some kind ≡ option_map (λ (seat : Seat). seat.entry) (at_place f.ring.items (index - f.point))
      → ((p : Settings) → p.e ≡ (entry_of kind).plan.fti.e → option_map (λ (id : Name). position (entry_of kind).plan.index id.block id.symbol) found ≡ end_in p kind)
      → option_map (λ (id : Name). position index id.block id.symbol) found ≡ end_at f.profile s index
  unfolding end_by
  read_end kind found is says = go (at_place f.ring.items (index - f.point)) refl is
    where
      by_plan : (k : Entry) → entry_at (states_of f.ring.items) (index - f.point) ≡ Some (entry_of k) → IsOfKind k → end_in f.profile k ≡ end_at f.profile s index
      by_plan (kinds.Object o) e of_kind =
          sym (ap end_by (read_plan f s index front stands reached (entry_of (kinds.Object o)) e)
          ∙ ap (λ b. elim b as (λ _. Option Position) [ true ↦ end_of f.profile s o.plan | false ↦ None ]) of_kind)
      by_plan (kinds.Stream o) e of_kind =
          sym (ap end_by (read_plan f s index front stands reached (entry_of (kinds.Stream o)) e)
          ∙ ap (λ b. elim b as (λ _. Option Position) [ true ↦ end_of f.profile s o.plan | false ↦ None ]) of_kind
          ∙ end_there (entry_of (kinds.Stream o)) e)

      go : (place : Option Seat) → at_place f.ring.items (index - f.point) ≡ place → Some kind ≡ option_map (λ (seat : Seat). seat.entry) place
          → option_map (λ (id : Name). position index id.block id.symbol) found ≡ end_at f.profile s index
      go None e h = absurd (cc h)
      go (Some seat) e h =
          let same : kind ≡ seat.entry = cc h in
          let there : entry_at (states_of f.ring.items) (index - f.point) ≡ Some (entry_of kind) =
          state_at f.ring.items (index - f.point) ∙ ap state_of e ∙ ap (λ (k : Entry). Some (entry_of k)) (sym same) in
          let is_entry = placed_at f.profile f.point (index - f.point) states (entry_of kind) are_placed there in
          ap (λ n. named n found) (sym (is_entry.index ∙ at))
          ∙ says f.profile is_entry.profile.e
          ∙ by_plan kind there (subst (λ (k : Entry). IsOfKind k) (sym same) (front.seats (index - f.point) seat e).kind)

  pub read_no_end : None ≡ option_map (λ (seat : Seat). seat.entry) (at_place f.ring.items (index - f.point)) → None ≡ end_at f.profile s index
  unfolding end_by
  read_no_end is = go (at_place f.ring.items (index - f.point)) refl is
    where
      go : (place : Option Seat) → at_place f.ring.items (index - f.point) ≡ place → None ≡ option_map (λ (seat : Seat). seat.entry) place → None ≡ end_at f.profile s index
      go None e h = sym (ap end_by (read_none f s index front stands reached (state_at f.ring.items (index - f.point) ∙ ap state_of e)))
      go (Some seat) e h = absurd (cc h)
