-- A symbol that comes to a front.
use Rattle.std.proofs.Common.{◌≡◌, ℕ, zero, suc, ◌+◌, ◌-◌, ◌*◌, ◌<◌, ◌≤◌, refl, sym, ap, ◌∙◌, subst, arith, Option, Some, None, List, [], ◌∷◌, length, Bool, true, false}
use Rattle.std.specs.Prelude.{slice_set, sum_by, MatchOption, ⊤}
use Rattle.std.specs.List.{AllByRecursion}
use Rattle.std.specs.VecDeque.{deque_capacity}
use Rattle.std.proofs.lemmas.List.{length-map}
use Rattle.std.proofs.lemmas.List.Sums.{sum_by-cons}
use Rattle.norm_base.specs.Settings.{Settings}
use Rattle.fec_plan.specs.Points.{position}
use Rattle.fec_plan.specs.declared.position.Position.{Position}
use Rattle.norm_order.specs.Sets.{with_member}
use Rattle.norm_receive_rules.specs.Holding.{Holding, Held}
use Rattle.norm_receive_rules.specs.Plans.{says_stream}
use Rattle.norm_receive_rules.specs.Putting.{put_of, held_before, with_symbol}
use Rattle.norm_receive_rules.specs.declared.words.Put.{Put}
use Rattle.norm_receive_rules.specs.declared.words.Put.TheVariants as put
use Rattle.rs_block.specs.Solver.{SolverState}
use Rattle.rx_object.specs.BlockState.{held_at}
use Rattle.rx_hold.specs.EntryState.{EntryState, entry_of, with_word}
use Rattle.rx_hold.specs.EntryHold.{EntryHold, StandsFor, at_place, entry_at}
use Rattle.rx_hold.specs.Told.{is_passed}
use Rattle.rx_hold.proofs.EntryWords.{is_ahead, put_nowhere, put_there}
use Rattle.rx_hold.proofs.EntryKept.{entry_kept}
use Rattle.rx_hold.specs.Seats.{Becomes, GetsWord, IsOffered, IsSame, IsSeat, MayOffer, begins_at, counted, opening, state_of, states_of, stream_at, waiting, waiting_at}
use Rattle.rx_hold.specs.FrontSound.{HasRoom, IsFront, front_view, point_of_front, view_states}
use Rattle.rx_hold.specs.declared.front.Front.{Front}
use Rattle.rx_hold.specs.declared.ring.Seat.{Seat}
use Rattle.rx_hold.proofs.ChangeLemmas.{GoesOn, IsChanged, begins_same, seat_on, set_there, sound_same, sound_set, view_changed}
use Rattle.rx_hold.proofs.SeatLemmas.{counted_few, far, placed, state_at, states_set}

-- ---- an object to which a symbol came

all_with : (P : Held → Type 0) (x : Held) (ys : List Held) → P x → AllByRecursion P ys → AllByRecursion P (with_member held_before x ys)
unfolding with_member
all_with P x [] new all = (new, tt)
all_with P x (y ∷ ys) new all = go (held_before x y) (held_before y x) (all_with P x ys new all.1)
  where
    go : (a b : Bool) → AllByRecursion P (with_member held_before x ys) → AllByRecursion P (elim a as (λ _. List Held) [
      | true ↦ x ∷ y ∷ ys
      | false ↦ elim b as (λ _. List Held) [ true ↦ y ∷ with_member held_before x ys | false ↦ y ∷ ys ]
    ])
    go true b rest = (new, all)
    go false true rest = (all.0, rest)
    go false false rest = all

one_longer : (x : Held) (ys : List Held) → length (with_member held_before x ys) ≤ length ys + 1
unfolding with_member
one_longer x [] = omega arith
one_longer x (y ∷ ys) = go (held_before x y) (held_before y x) (one_longer x ys)
  where
    go : (a b : Bool) → length (with_member held_before x ys) ≤ length ys + 1 → length (elim a as (λ _. List Held) [
      | true ↦ x ∷ y ∷ ys
      | false ↦ elim b as (λ _. List Held) [ true ↦ y ∷ with_member held_before x ys | false ↦ y ∷ ys ]
    ]) ≤ length (y ∷ ys) + 1
    go true b rest = omega arith
    go false true rest = omega (arith, rest)
    go false false rest = omega arith

pub word_on : (o : EntryState) (word : Put) (block symbol : ℕ) (payload : List ℕ) → GoesOn o (with_word word block symbol payload o)
word_on o word block symbol payload = record { index = refl; fti = refl; flags = refl; point = refl; room = refl }

word_own : (n : ℕ) (o : EntryState) (word : Put) (block symbol : ℕ) (payload : List ℕ) → o.plan.index ≡ n → AllByRecursion (λ (h : Held). h.at.index ≡ n) o.held
    → AllByRecursion (λ (h : Held). h.at.index ≡ n) (with_word word block symbol payload o).held
word_own n o put.Kept block symbol payload is own = all_with (λ (h : Held). h.at.index ≡ n) (held_at o.plan.index block symbol payload) o.held is own
word_own n o put.Had block symbol payload is own = own
word_own n o put.Away block symbol payload is own = own
word_own n o put.Unfit block symbol payload is own = own

word_longer : (o : EntryState) (word : Put) (block symbol : ℕ) (payload : List ℕ) → length (with_word word block symbol payload o).held ≤ length o.held + counted true word
word_longer o put.Kept block symbol payload = one_longer (held_at o.plan.index block symbol payload) o.held
word_longer o put.Had block symbol payload = omega arith
word_longer o put.Away block symbol payload = omega arith
word_longer o put.Unfit block symbol payload = omega arith

word_waits : (o : EntryState) (word : Put) (block symbol : ℕ) (payload : List ℕ) → waiting (with_word word block symbol payload o) ≤ waiting o + counted (says_stream o.plan.flags) word
word_waits o word block symbol payload = go (says_stream o.plan.flags)
  where
    go : (b : Bool) → elim b as (λ _. ℕ) [ true ↦ length (with_word word block symbol payload o).held - o.point.symbol + (1 + opening o.point) | false ↦ 1 ]
        ≤ elim b as (λ _. ℕ) [ true ↦ length o.held - o.point.symbol + (1 + opening o.point) | false ↦ 1 ] + counted b word
    go true = (let le = word_longer o word block symbol payload in omega (arith, le))
    go false = omega arith

pub seat_offered : (p : Settings) (i n : ℕ) (seat next : Seat) (word : Put) (block symbol : ℕ) (payload : List ℕ) → IsSeat p i n seat → IsOffered word block symbol payload seat next
    → (IsSeat p i n next) × GoesOn (entry_of seat.entry) (entry_of next.entry)
seat_offered p i n seat next word block symbol payload is came =
    let o = entry_of seat.entry in
    let on : GoesOn o (entry_of next.entry) = subst (λ (x : EntryState). GoesOn o x) (sym came.entry) (word_on o word block symbol payload) in (
      seat_on p i n seat next on
          (subst (λ (x : EntryState). AllByRecursion (λ (h : Held). h.at.index ≡ n) x.held) (sym came.entry) (word_own n o word block symbol payload is.entry.index is.entry.own))
          came.kind
          (let le = word_waits o word block symbol payload in let same = ap waiting came.entry in let room = is.room in let count = came.waiting in omega (arith, le, same, room, count)) is,
      on,
    )

-- ---- a front

pub offered_sound : (f g : Front) (i block symbol : ℕ) (payload : List ℕ) (word : Put) → IsFront f → IsChanged f g → HasRoom 1 f → i < length f.ring.items
    → Becomes f.ring.items g.ring.items i (IsOffered word block symbol payload) → g.waiting ≡ f.waiting + counted (stream_at (at_place f.ring.items i)) word → IsFront g
offered_sound f g i block symbol payload word front is room lt = go (at_place f.ring.items i) refl
  where
    go : (found : Option Seat) → at_place f.ring.items i ≡ found
        → MatchOption found (g.ring.items ≡ f.ring.items) (λ (seat : Seat). (next : Seat) × (g.ring.items ≡ slice_set f.ring.items i (Some next)) × IsOffered word block symbol payload seat next)
        → g.waiting ≡ f.waiting + counted (stream_at found) word → IsFront g
    go None e r count = sound_same f g front is r (let none : g.waiting ≡ f.waiting + 0 = count in omega (arith, none))
    go (Some seat) e r count =
        let next = r.0 in
        let came = r.2 in
        let new = seat_offered f.profile i (f.point + i) seat next word block symbol payload (front.seats i seat e) came in
        let ups_long : length g.ups.items ≡ length f.ups.items = ap (λ u. length u.items) is.ups in
        let ups_room : deque_capacity g.ups ≡ deque_capacity f.ups = ap (λ u. deque_capacity u) is.ups in
        let stream = says_stream (entry_of seat.entry).plan.flags in
        let all : g.waiting ≡ f.waiting + counted stream word = count in
        let more = came.waiting in
        sound_set f g i seat next front is e r.1 new.1 new.0 (omega (arith, all, more)) (omega (arith, room, all, counted_few stream word, ups_long, ups_room))

module _ (f : Front) (s : Holding) (index i : ℕ) (front : IsFront f) (stands : StandsFor (front_view f) s) (at : f.point + i ≡ index) (lt : i < length f.ring.items) where
  index_is : s.point.index ≡ f.point
  index_is = ap (λ (x : Position). x.index) stands.point

  pub ahead : (block : ℕ) → (i ≡ 0 → (point_of_front f).block ≤ block) → is_passed s (position index block 0) ≡ false
  ahead block reached =
      is_ahead s index block (omega (arith, at, index_is))
      (λ same. let le = reached (omega (arith, at, index_is, same)) in let is : s.point.block ≡ (point_of_front f).block = ap (λ (x : Position). x.block) stands.point in omega (arith, le, is))

  pub offered_word : (block symbol : ℕ) (payload : List ℕ) (word : Put) → (i ≡ 0 → (point_of_front f).block ≤ block) → GetsWord (at_place f.ring.items i) word block symbol payload
      → word ≡ put_of f.profile s (position index block symbol) payload
  offered_word block symbol payload word reached = go (at_place f.ring.items i) refl
    where
      states : List (Option EntryState)
      states = states_of f.ring.items

      go : (found : Option Seat) → at_place f.ring.items i ≡ found → GetsWord found word block symbol payload → word ≡ put_of f.profile s (position index block symbol) payload
      go None e away =
          away
          ∙ sym (put_nowhere f.profile (point_of_front f) states f.ups.items f.lost s (placed f.profile f.point f.ring.items front.seats) (far f.profile f.point f.ring.items front.seats) stands
          index i block symbol payload at (state_at f.ring.items i ∙ ap state_of e))
      go (Some seat) e gets =
          gets f.profile (front.seats i seat e).entry.profile
          ∙ sym (put_there f.profile (point_of_front f) states f.ups.items f.lost s (placed f.profile f.point f.ring.items front.seats) (far f.profile f.point f.ring.items front.seats) stands
          index i block symbol payload (entry_of seat.entry) at (state_at f.ring.items i ∙ ap state_of e) (ahead block reached))

  pub offered_stands : (g : Front) (block symbol : ℕ) (payload : List ℕ) (word : Put) → (i ≡ 0 → (point_of_front f).block ≤ block) → IsChanged f g
      → Becomes f.ring.items g.ring.items i (IsOffered word block symbol payload) → GetsWord (at_place f.ring.items i) word block symbol payload
      → StandsFor (front_view g) (with_symbol word (position index block symbol) payload s)
  offered_stands g block symbol payload word reached is became gets_all = go (at_place f.ring.items i) refl became gets_all
    where
      states : List (Option EntryState)
      states = states_of f.ring.items

      long : i < length states
      long = (let n : length states ≡ length f.ring.items = length-map f.ring.items state_of in omega (arith, lt, n))

      stays : (o x : EntryState) → entry_at states i ≡ Some o → x ≡ o → StandsFor (view_states f (slice_set states i (Some x))) s
      stays o x there same =
          subst (λ (r : List (Option EntryState)). StandsFor (view_states f r) s)
          (sym (ap (λ (y : EntryState). slice_set states i (Some y)) same ∙ set_there states i o there)) stands

      same_kept : (w : Put) → put_of f.profile s (position index block symbol) payload ≡ w → (o : EntryState) → entry_at states i ≡ Some o
          → StandsFor (view_states f (slice_set states i (Some (with_word w block symbol payload o)))) (with_symbol w (position index block symbol) payload s)
      same_kept put.Kept e o there =
          subst (λ (x : Position). StandsFor (record (view_states f (slice_set states i (Some (with_word put.Kept block symbol payload o)))) { point = x }) (with_symbol put.Kept (position index block symbol) payload s))
          (sym (begins_same f.point i states o (with_word put.Kept block symbol payload o) there refl))
          (entry_kept f.profile (point_of_front f) states f.ups.items f.lost s (placed f.profile f.point f.ring.items front.seats) stands index i block symbol payload o at
          long there (ahead block reached) e)
      same_kept put.Had e o there = stays o (with_word put.Had block symbol payload o) there refl
      same_kept put.Away e o there = stays o (with_word put.Away block symbol payload o) there refl
      same_kept put.Unfit e o there = stays o (with_word put.Unfit block symbol payload o) there refl

      go : (found : Option Seat) → at_place f.ring.items i ≡ found
          → MatchOption found (g.ring.items ≡ f.ring.items) (λ (seat : Seat). (next : Seat) × (g.ring.items ≡ slice_set f.ring.items i (Some next)) × IsOffered word block symbol payload seat next)
          → GetsWord found word block symbol payload → StandsFor (front_view g) (with_symbol word (position index block symbol) payload s)
      go None e r away =
          subst (λ (w : Put). StandsFor (front_view g) (with_symbol w (position index block symbol) payload s)) (sym away)
          (subst (λ (h : EntryHold). StandsFor h s) (sym (view_changed f g is states (ap states_of r))) stands)
      go (Some seat) e r gets =
          let there : entry_at states i ≡ Some (entry_of seat.entry) = state_at f.ring.items i ∙ ap state_of e in
          let now : states_of g.ring.items ≡ slice_set states i (Some (with_word word block symbol payload (entry_of seat.entry))) =
          ap states_of r.1 ∙ states_set f.ring.items i (Some r.0) ∙ ap (λ (x : EntryState). slice_set states i (Some x)) r.2.entry in
          subst (λ (h : EntryHold). StandsFor h (with_symbol word (position index block symbol) payload s)) (sym (view_changed f g is _ now))
          (same_kept word (sym (offered_word block symbol payload word reached gets_all)) (entry_of seat.entry) there)

-- ---- what may be offered

pub sum_least : (g : Option Seat → ℕ) (ring : List (Option Seat)) (i : ℕ) (seat : Seat) → at_place ring i ≡ Some seat → g (Some seat) ≤ sum_by g ring
sum_least g [] i seat e = absurd (cc)
sum_least g (x ∷ ring) zero seat e = (let same : g x ≡ g (Some seat) = ap g e in omega (arith, same, sum_by-cons g x ring))
sum_least g (x ∷ ring) (suc i) seat e = (let rest = sum_least g ring i seat e in omega (arith, rest, sum_by-cons g x ring))

pub may_offer : (f : Front) (i block : ℕ) (solver stream_solver : SolverState) → IsFront f → HasRoom 1 f → (i ≡ 0 → (point_of_front f).block ≤ block)
    → solver ≡ record { k = f.profile.b; size = f.profile.e } → stream_solver ≡ record { k = f.profile.b; size = f.profile.e + 8 }
    → MatchOption (at_place f.ring.items i) ⊤ (λ (seat : Seat). MayOffer seat block solver stream_solver)
may_offer f i block solver stream_solver front room reached lent streams = go (at_place f.ring.items i) refl
  where
    go : (found : Option Seat) → at_place f.ring.items i ≡ found → MatchOption found ⊤ (λ (seat : Seat). MayOffer seat block solver stream_solver)
    go None e = tt
    go (Some seat) e =
        let is = front.seats i seat e in
        let o = entry_of seat.entry in
        record {
          kind = is.kind;
          reached = by i refl is.later;
          lent = lent ∙ ap (λ b. record { k = b; size = f.profile.e }) (sym is.entry.b) ∙ ap (λ n. record { k = o.plan.fti.b; size = n }) is.entry.profile.e;
          streams =
              streams ∙ ap (λ b. record { k = b; size = f.profile.e + 8 }) (sym is.entry.b)
              ∙ ap (λ n. record { k = o.plan.fti.b; size = n + 8 }) is.entry.profile.e;
          count = (let least = sum_least waiting_at f.ring.items i seat e in let all = front.waiting in let x : f.ups.ok ≡ f.ups.ok = refl in let y : f.ups.small ≡ f.ups.small = refl in omega (arith, least, all, room, f.ups.ok, f.ups.small));
        }
      where
        by : (j : ℕ) → i ≡ j → (0 < i → ((entry_of seat.entry).point.block ≡ 0) × ((entry_of seat.entry).point.symbol ≡ 0)) → (entry_of seat.entry).point.block ≤ block
        by zero first later =
            let le = reached first in
            let same : (point_of_front f).block ≡ (entry_of seat.entry).point.block =
            ap (λ (x : Option EntryState). (begins_at f.point x).block) (state_at f.ring.items 0 ∙ ap state_of (ap (at_place f.ring.items) (sym first) ∙ e)) in
            omega (arith, le, same)
        by (suc j) first later = (let none = (later (omega (arith, first))).0 in omega (arith, none))

-- ---- what was refused

seat_same : (p : Settings) (i n : ℕ) (seat next : Seat) → IsSeat p i n seat → IsSame seat next → (IsSeat p i n next) × GoesOn (entry_of seat.entry) (entry_of next.entry)
seat_same p i n seat next is same =
    let o = entry_of seat.entry in
    let itself : GoesOn o o = record { index = refl; fti = refl; flags = refl; point = refl; room = refl } in
    let on : GoesOn o (entry_of next.entry) = subst (λ (x : EntryState). GoesOn o x) (sym same.entry) itself in (
      seat_on p i n seat next on (subst (λ (x : EntryState). AllByRecursion (λ (h : Held). h.at.index ≡ n) x.held) (sym same.entry) is.entry.own) same.kind
          (let waits = ap waiting same.entry in let room = is.room in let count = same.waiting in omega (arith, waits, room, count)) is,
      on,
    )

pub refused_sound : (f g : Front) (i : ℕ) → IsFront f → IsChanged f g → Becomes f.ring.items g.ring.items i IsSame → g.waiting ≡ f.waiting → IsFront g
refused_sound f g i front is became count = go (at_place f.ring.items i) refl became
  where
    go : (found : Option Seat) → at_place f.ring.items i ≡ found
        → MatchOption found (g.ring.items ≡ f.ring.items) (λ (seat : Seat). (next : Seat) × (g.ring.items ≡ slice_set f.ring.items i (Some next)) × IsSame seat next) → IsFront g
    go None e r = sound_same f g front is r count
    go (Some seat) e r =
        let new = seat_same f.profile i (f.point + i) seat r.0 (front.seats i seat e) r.2 in
        let ups_long : length g.ups.items ≡ length f.ups.items = ap (λ u. length u.items) is.ups in
        let ups_room : deque_capacity g.ups ≡ deque_capacity f.ups = ap (λ u. deque_capacity u) is.ups in
        let more = r.2.waiting in
        sound_set f g i seat r.0 front is e r.1 new.1 new.0 (omega (arith, count, more)) (omega (arith, front.room, count, ups_long, ups_room))

pub refused_states : (ring after : List (Option Seat)) (i : ℕ) → Becomes ring after i IsSame → states_of after ≡ states_of ring
refused_states ring after i became = go (at_place ring i) refl became
  where
    go : (found : Option Seat) → at_place ring i ≡ found → MatchOption found (after ≡ ring) (λ (seat : Seat). (next : Seat) × (after ≡ slice_set ring i (Some next)) × IsSame seat next)
        → states_of after ≡ states_of ring
    go None e r = ap states_of r
    go (Some seat) e r =
        ap states_of r.1 ∙ states_set ring i (Some r.0) ∙ ap (λ (x : EntryState). slice_set (states_of ring) i (Some x)) r.2.entry
        ∙ set_there (states_of ring) i (entry_of seat.entry) (state_at ring i ∙ ap state_of e)

pub refused_view : (f g : Front) (i : ℕ) → IsChanged f g → Becomes f.ring.items g.ring.items i IsSame → front_view g ≡ front_view f
refused_view f g i is became = view_changed f g is (states_of f.ring.items) (refused_states f.ring.items g.ring.items i became)
