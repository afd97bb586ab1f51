-- What is at a place of a ring, what the ring is seen as, and what becomes of both as something else comes there.
use Rattle.std.proofs.Common.{◌≡◌, ◌≢◌, ℕ, zero, suc, ◌+◌, ◌<◌, ◌≤◌, ◌⊎◌, inl, inr, refl, sym, ap, ◌∙◌, subst, arith, Option, Some, None, List, [], ◌∷◌, length, get_or, Bool, true, false}
use Rattle.std.specs.Prelude.{slice_set, MatchOption, ⊤, sum_by, ◌==◌}
use Rattle.std.proofs.lemmas.Bool.{cases_order, eq-eqb}
use Rattle.std.proofs.lemmas.List.{map-set}
use Rattle.std.proofs.lemmas.List.Sums.{sum_by-cons}
use Rattle.norm_base.specs.Settings.{Settings}
use Rattle.norm_receive_rules.specs.Plans.{first_block, says_stream}
use Rattle.norm_receive_rules.specs.declared.words.Put.{Put}
use Rattle.norm_receive_rules.specs.declared.words.Put.TheVariants as put
use Rattle.rx_hold.specs.EntryState.{EntryState, IsOfKind, alone_in, entry_of}
use Rattle.rx_hold.specs.declared.entry.Entry.{Entry}
use Rattle.rx_hold.specs.declared.entry.Entry.TheVariants as kinds
use Rattle.rx_hold.specs.EntryHold.{AreAsFar, IsEntryAt, PlacedEntries, at_place, entry_at}
use Rattle.rx_hold.proofs.PlaceLemmas.{read_there, set_same}
use Rattle.rx_hold.specs.Seats.{AreSeats, Becomes, IsSeat, begins_at, counted, state_of, states_of}
use Rattle.rx_hold.specs.declared.ring.Seat.{Seat}

-- ---- what is read

pub seat_there : (ring : List (Option Seat)) (i : ℕ) (v : Option Seat) (seat : Seat) → i < length ring → v ≡ get_or ring i v → v ≡ Some seat → at_place ring i ≡ Some seat
seat_there ring i v seat lt read is = read_there (Seat) ring i v lt read ∙ is

pub there_has : (P : Seat → Type 0) (found : Option Seat) (seat : Seat) → found ≡ Some seat → MatchOption found ⊤ P → P seat
there_has P found seat e h = subst (λ (x : Option Seat). MatchOption x ⊤ P) e h

pub none_becomes : (ring : List (Option Seat)) (i : ℕ) (v : Option Seat) (R : Seat → Seat → Type 0) → i < length ring → v ≡ get_or ring i v → v ≡ None
    → Becomes ring (slice_set ring i v) i R
none_becomes ring i v R lt read is =
    subst (λ (found : Option Seat). MatchOption found (slice_set ring i v ≡ ring) (λ (seat : Seat). (next : Seat) × (slice_set ring i v ≡ slice_set ring i (Some next)) × R seat next))
    (sym (read_there (Seat) ring i v lt read ∙ is)) (set_same (Seat) ring i v read)

pub some_becomes : (ring : List (Option Seat)) (i : ℕ) (v : Option Seat) (seat next : Seat) (R : Seat → Seat → Type 0) → i < length ring → v ≡ get_or ring i v → v ≡ Some seat → R seat next
    → Becomes ring (slice_set ring i (Some next)) i R
some_becomes ring i v seat next R lt read is r =
    subst (λ (found : Option Seat). MatchOption found (slice_set ring i (Some next) ≡ ring) (λ (x : Seat). (y : Seat) × (slice_set ring i (Some next) ≡ slice_set ring i (Some y)) × R x y))
    (sym (seat_there ring i v seat lt read is)) (next, refl, r)

-- ---- places

pub within : (ring : List (Option Seat)) (i : ℕ) (seat : Seat) → at_place ring i ≡ Some seat → i < length ring
within [] i seat e = absurd (cc)
within (x ∷ ring) zero seat e = omega arith
within (x ∷ ring) (suc i) seat e = let rest = within ring i seat e in omega (arith, rest)

pub set_here : (ring : List (Option Seat)) (i : ℕ) (v : Option Seat) → i < length ring → at_place (slice_set ring i v) i ≡ v
set_here [] i v lt = absurd (omega arith)
set_here (x ∷ ring) zero v lt = refl
set_here (x ∷ ring) (suc i) v lt = set_here ring i v (omega arith)

pub set_other : (ring : List (Option Seat)) (i j : ℕ) (v : Option Seat) → j ≢ i → at_place (slice_set ring i v) j ≡ at_place ring j
set_other [] i j v other = refl
set_other (x ∷ ring) zero zero v other = absurd (other refl)
set_other (x ∷ ring) zero (suc j) v other = refl
set_other (x ∷ ring) (suc i) zero v other = refl
set_other (x ∷ ring) (suc i) (suc j) v other = set_other ring i j v (λ e. other (ap suc e))

pub state_at : (ring : List (Option Seat)) (i : ℕ) → entry_at (states_of ring) i ≡ state_of (at_place ring i)
state_at [] i = refl
state_at (x ∷ ring) zero = refl
state_at (x ∷ ring) (suc i) = state_at ring i

pub states_set : (ring : List (Option Seat)) (i : ℕ) (v : Option Seat) → states_of (slice_set ring i v) ≡ slice_set (states_of ring) i (state_of v)
states_set ring i v = map-set state_of ring i v

pub sum_set : (g : Option Seat → ℕ) (ring : List (Option Seat)) (i : ℕ) (v : Option Seat) → i < length ring → sum_by g (slice_set ring i v) + g (at_place ring i) ≡ sum_by g ring + g v
sum_set g [] i v lt = absurd (omega arith)
sum_set g (x ∷ ring) zero v lt = omega (arith, sum_by-cons g v ring, sum_by-cons g x ring)
sum_set g (x ∷ ring) (suc i) v lt = omega (arith, sum_set g ring i v (omega arith), sum_by-cons g x ring, sum_by-cons g x (slice_set ring i v))

-- ---- each seat

pub seats_set : (p : Settings) (n i : ℕ) (ring : List (Option Seat)) (next : Seat) → AreSeats p n ring → IsSeat p i (n + i) next → AreSeats p n (slice_set ring i (Some next))
seats_set p n i ring next all new j seat e = go (cases_order j i)
  where
    there : i < length ring → j ≡ i → next ≡ seat
    there lt same = (let is : Some next ≡ Some seat = sym (set_here ring i (Some next) lt) ∙ ap (λ k. at_place (slice_set ring i (Some next)) k) (sym same) ∙ e in cc is)

    long : (r : List (Option Seat)) (k : ℕ) (v : Option Seat) → length (slice_set r k v) ≡ length r
    long [] k v = refl
    long (x ∷ r) zero v = refl
    long (x ∷ r) (suc k) v = ap suc (long r k v)

    go : (j ≡ i) ⊎ ((j < i) ⊎ (i < j)) → IsSeat p j (n + j) seat
    go (inl same) =
        let lt : j < length (slice_set ring i (Some next)) = within (slice_set ring i (Some next)) j seat e in
        let is = there (omega (arith, lt, same, long ring i (Some next))) same in
        subst (λ (k : ℕ). IsSeat p k (n + k) seat) (sym same) (subst (λ (x : Seat). IsSeat p i (n + i) x) is new)
    go (inr (inl lt)) = all j seat (sym (set_other ring i j (Some next) (λ same. omega (arith, same, lt))) ∙ e)
    go (inr (inr gt)) = all j seat (sym (set_other ring i j (Some next) (λ same. omega (arith, same, gt))) ∙ e)

pub placed_from : (p : Settings) (n : ℕ) (ring : List (Option Seat)) → ((i : ℕ) (seat : Seat) → at_place ring i ≡ Some seat → IsEntryAt p (n + i) (entry_of seat.entry))
    → PlacedEntries p n (states_of ring)
placed_from p n [] all = tt
placed_from p n (None ∷ ring) all =
    placed_from p (suc n) ring (λ i seat e. subst (λ k. IsEntryAt p k (entry_of seat.entry)) (let k : n + suc i ≡ suc n + i = omega arith in k) (all (suc i) seat e))
placed_from p n (Some x ∷ ring) all = (
  subst (λ k. IsEntryAt p k (entry_of x.entry)) (let k : n + 0 ≡ n = omega arith in k) (all 0 x refl),
  placed_from p (suc n) ring (λ i seat e. subst (λ k. IsEntryAt p k (entry_of seat.entry)) (let k : n + suc i ≡ suc n + i = omega arith in k) (all (suc i) seat e)),
)

pub placed : (p : Settings) (n : ℕ) (ring : List (Option Seat)) → AreSeats p n ring → PlacedEntries p n (states_of ring)
placed p n ring all = placed_from p n ring (λ i seat e. (all i seat e).entry)

-- an object of which a seat is seen
pub state_seat : (found : Option Seat) (o : EntryState) → state_of found ≡ Some o → (seat : Seat) × (found ≡ Some seat) × (o ≡ entry_of seat.entry)
state_seat None o e = absurd (cc)
state_seat (Some seat) o e = (seat, refl, (let same : entry_of seat.entry ≡ o = cc in sym same))

-- how far it is
own_first : (o : EntryState) → (says_stream o.plan.flags ≡ true → o.point.index ≡ o.plan.index) → (says_stream o.plan.flags ≡ false → o.point.block ≡ 0)
    → first_block (alone_in o) o.plan.index ≡ o.point.block
own_first o stream object = go (o.point.index == o.plan.index) refl
  where
    go : (b : Bool) → (o.point.index == o.plan.index) ≡ b → elim b as (λ _. ℕ) [ true ↦ o.point.block | false ↦ 0 ] ≡ o.point.block
    go true e = refl
    go false e = by (says_stream o.plan.flags) refl
      where
        by : (k : Bool) → says_stream o.plan.flags ≡ k → 0 ≡ o.point.block
        by true f = absurd (let same = stream f in let wrong : true ≡ false = sym (eq-eqb o.point.index o.plan.index same) ∙ e in cc wrong)
        by false f = sym (object f)

pub counted_few : (stream : Bool) (word : Put) → counted stream word ≤ 1
counted_few true put.Kept = omega arith
counted_few true put.Had = omega arith
counted_few true put.Away = omega arith
counted_few true put.Unfit = omega arith
counted_few false word = omega arith

pub none_there : (ring : List (Option Seat)) (i : ℕ) (v : Option Seat) → i < length ring → v ≡ get_or ring i v → v ≡ None → at_place ring i ≡ None
none_there ring i v lt read is = read_there (Seat) ring i v lt read ∙ is

-- of a seat
pub own_block : (p : Settings) (i n : ℕ) (seat : Seat) → IsSeat p i n seat → first_block (alone_in (entry_of seat.entry)) (entry_of seat.entry).plan.index ≡ (entry_of seat.entry).point.block
own_block p i n seat is = own_first (entry_of seat.entry) is.own (at_start seat.entry is.kind)
  where
    at_start : (e : Entry) → IsOfKind e → says_stream (entry_of e).plan.flags ≡ false → (entry_of e).point.block ≡ 0
    at_start (kinds.Object o) kind f = refl
    at_start (kinds.Stream o) kind f = absurd (let wrong : true ≡ false = sym kind ∙ f in cc wrong)

-- each is as far as the hand-up point says
pub far : (p : Settings) (n : ℕ) (ring : List (Option Seat)) → AreSeats p n ring → AreAsFar (begins_at n (entry_at (states_of ring) 0)).block (states_of ring)
far p n ring all zero o e =
    let there = state_seat (at_place ring 0) o (sym (state_at ring 0) ∙ e) in
    ap (λ (x : EntryState). first_block (alone_in x) x.plan.index) there.2
    ∙ own_block p 0 (n + 0) there.0 (all 0 there.0 there.1)
    ∙ sym (ap (λ (found : Option EntryState). (begins_at n found).block) e ∙ ap (λ (x : EntryState). x.point.block) there.2)
far p n ring all (suc i) o e =
    let there = state_seat (at_place ring (suc i)) o (sym (state_at ring (suc i)) ∙ e) in
    ap (λ (x : EntryState). first_block (alone_in x) x.plan.index) there.2
    ∙ own_block p (suc i) (n + suc i) there.0 (all (suc i) there.0 there.1)
    ∙ ((all (suc i) there.0 there.1).later (omega arith)).0
