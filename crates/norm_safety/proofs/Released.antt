-- In hold mode every member handed up all that was dropped: what goes was released by all members.
use Rattle.std.proofs.Common.{◌≡◌, ℕ, zero, suc, ◌+◌, ◌-◌, ◌*◌, ◌<◌, ◌≤◌, List, [], ◌∷◌, ◌++◌, length, take, drop, Bool, true, false, Option, None, Some, refl, sym, ap, ◌∙◌, subst, append_assoc, arith, inr}
use Rattle.std.specs.Prelude.{slice_get, min, nat_lt, ◌==◌, ◌&&◌, ◌||◌}
use Rattle.std.specs.Int.{div_ceil}
use Rattle.std.specs.List.{AllByRecursion, list_all}
use Rattle.std.proofs.lemmas.Bool.Decides.{Decides-eqb, Decides-ltb}
use Rattle.std.proofs.lemmas.Grind.{div_ceil_times}
use Rattle.std.proofs.lemmas.List.{length-take, length-drop, take_all, take-append-drop}
use Rattle.norm_base.specs.Settings.{Settings, InRange}
use Rattle.norm_base.specs.declared.kinds.Mode.{Mode}
use Rattle.norm_base.specs.declared.kinds.Mode.TheVariants as mode
use Rattle.fec_plan.specs.Points.{point, position, reaches}
use Rattle.fec_plan.specs.declared.position.Position.{Position}
use Rattle.fec_plan.proofs.PositionLemmas.{reached}
use Rattle.norm_order.specs.Entries.{Part, Object, Whole, Stream, Entry}
use Rattle.norm_order.specs.Segments.{closed_from}
use Rattle.norm_order.specs.Shapes.{Shape, shape_of, shapes_of, closed_in, closed_blocks, is_source, last_in, last_from, last_source}
use Rattle.norm_order.specs.Upto.{parts_of, all_parts, ends_at, parts_through, upto}
use Rattle.norm_order.specs.declared.up.Up.{Up}
use Rattle.norm_order.proofs.UptoLemmas.{there as at_place, grows_with_position}
use Rattle.norm_send_rules.specs.SenderState.{SenderState, Listing}
use Rattle.norm_send_rules.specs.Room.{window, has_to_go, may_go, may_all_go, block_may_go, is_released, can_make_room}
use Rattle.norm_send_rules.specs.Watermarks.{is_past, all_past}
use Rattle.norm_send_rules.proofs.CutNames.{cut_range}
use Rattle.norm_safety.specs.Fronts.{IsFront}
use Rattle.norm_safety.proofs.EntryLemmas.{clash}
use Rattle.norm_safety.proofs.Through.{take_next}
use Rattle.norm_safety.proofs.GoesOn.{IsFinished, HasBlocks}
use Rattle.norm_safety.proofs.ClosedLemmas.{ended_empty}
use Rattle.norm_safety.proofs.Passed.{length-parts}
use Rattle.norm_safety.proofs.DropsLemmas.{blocks_parts, dropped_parts, next_parts, drops_is}
use Rattle.norm_order.proofs.GoingOnLemmas.{entry_source}
use Rattle.norm_safety.proofs.LastLemmas.{last_is_source, source_still}
use Rattle.norm_safety.proofs.Listed.{ListedDue}
use Rattle.norm_safety.proofs.Members.{listed_in}
use Rattle.norm_safety.proofs.ReceiverHolds.{there}
use Rattle.norm_safety.proofs.SenderHolds.{goes_within}
use Rattle.norm_safety.proofs.Spoken.{sized_at}
use Rattle.norm_safety.proofs.Stood.{Due, all_parts_end}
use Rattle.norm_safety.proofs.SizedOrders.{IsSized, AreSized}

-- ---- places in parts of a list

taken_place : (order : List Entry) (n k : ℕ) (x : Entry) → slice_get (take n order) k ≡ Some x → slice_get order k ≡ Some x
taken_place [] n k x e = absurd (nothing n k x e)
  where
    nothing : (n k : ℕ) (x : Entry) → slice_get (take n []) k ≡ Some x → ⊥
    nothing zero k x e = cc
    nothing (suc n) k x e = cc
taken_place (y ∷ order) zero k x e = absurd (none x e)
  where
    none : (x : Entry) → None ≡ Some x → ⊥
    none x e = cc
taken_place (y ∷ order) (suc n) zero x e = e
taken_place (y ∷ order) (suc n) (suc k) x e = taken_place order n k x e

dropped_place : (order : List Entry) (d k n : ℕ) (x : Entry) → n ≡ d + k → slice_get (drop d order) k ≡ Some x → slice_get order n ≡ Some x
dropped_place order zero k n x is e = ap (slice_get order) (let z : n ≡ k = omega arith in z) ∙ e
dropped_place [] (suc d) k n x is e = absurd (none x e)
  where
    none : (x : Entry) → None ≡ Some x → ⊥
    none x e = cc
dropped_place (y ∷ order) (suc d) k zero x is e = absurd (omega arith)
dropped_place (y ∷ order) (suc d) k (suc n) x is e = dropped_place order d k n x (omega arith) e

-- ---- the last source symbol of an object

-- where it is, in an object of some octets
abbrev pub last_position : ℕ → Shape → Position
last_position index s = position index (closed_blocks s - 1) (closed_in s (closed_blocks s - 1) - 1)

-- a finished object has a closed symbol
pub some_closed : (p : Settings) → InRange p → (object : Object) → IsSized p object → IsFinished object → (shape_of p object).closed ≡ 0 → ⊥
some_closed p range (Whole kind info octets) sized done e =
    let times = div_ceil_times (length octets) p.e (omega (arith, range.e.0)) in
    let less : div_ceil (length octets) p.e * p.e ≡ 0 = ap (λ (k : ℕ). k * p.e) e ∙ (let z : 0 * p.e ≡ 0 = omega arith in z) in
    omega (arith, sized.0, times.0, less)
some_closed p range (Stream parts) sized done e = (let long = (ended_empty p.e [] parts done).long in omega (arith, e, long))

pub has_last : (p : Settings) → InRange p → (index : ℕ) (object : Object) → IsSized p object → IsFinished object
    → last_in index (shape_of p object) ≡ Some (last_position index (shape_of p object))
has_last p range index object sized done = go ((shape_of p object).closed == 0) refl
  where
    go : (b : Bool) → ((shape_of p object).closed == 0) ≡ b
        → (elim b [ true ↦ None | false ↦ Some (last_position index (shape_of p object)) ]) ≡ Some (last_position index (shape_of p object))
    go true e = absurd (some_closed p range object sized done ((Decides-eqb (shape_of p object).closed 0).0 e))
    go false e = refl

-- the last of an order's last entry is that of the order
pub last_of_end : (found : Option Position) (first index : ℕ) (shapes : List Shape) (s : Shape) (at : Position) → index ≡ first + length shapes → last_in index s ≡ Some at
    → last_from first found (shapes ++ s ∷ []) ≡ Some at
unfolding last_from
last_of_end found first index [] s at e is =
    let same : first ≡ index = omega arith in
    ap (λ (i : ℕ). by (last_in i s)) same ∙ ap by is
  where
    by : Option Position → Option Position
    by own = elim own [ Some at ↦ Some at | None ↦ found ]
last_of_end found first index (x ∷ shapes) s at e is = last_of_end (by (last_in first x)) (first + 1) index shapes s at (omega arith) is
  where
    by : Option Position → Option Position
    by own = elim own [ Some at ↦ Some at | None ↦ found ]

pub shapes_end : (p : Settings) (order : List Entry) (x : Entry) → shapes_of p (order ++ x ∷ []) ≡ shapes_of p order ++ shape_of p x.object ∷ []
shapes_end p [] x = refl
shapes_end p (y ∷ order) x = ap (λ (ss : List Shape). shape_of p y.object ∷ ss) (shapes_end p order x)

pub shapes_many : (p : Settings) (order : List Entry) → length (shapes_of p order) ≡ length order
shapes_many p [] = refl
shapes_many p (x ∷ order) = ap suc (shapes_many p order)

sized_take : (p : Settings) (n : ℕ) (order : List Entry) → AreSized p order → AreSized p (take n order)
sized_take p zero order all = tt
sized_take p (suc n) [] all = tt
sized_take p (suc n) (x ∷ order) all = (all.0, sized_take p n order all.1)

-- the last source symbol of an entry is a source symbol of the order
last_is_there : (p : Settings) → InRange p → (order : List Entry) (j : ℕ) (x : Entry) → AreSized p order → j < length order → slice_get order j ≡ Some x
    → IsFinished x.object → is_source (shapes_of p order) (last_position j (shape_of p x.object)) ≡ true
last_is_there p range order j x sized lt found done =
    let at : Position = last_position j (shape_of p x.object) in
    let many = length-take j order in
    let shapes = shapes_many p (take j order) in
    let last : last_source (shapes_of p (take j order ++ x ∷ [])) ≡ Some at =
    ap (λ (ss : List Shape). last_from 0 None ss) (shapes_end p (take j order) x)
    ∙ last_of_end None 0 j (shapes_of p (take j order)) (shape_of p x.object) at (omega arith) (has_last p range j x.object (sized_at p order j x sized found) done) in
    let next = take_next order j x found in
    let L : List Entry → Type 0 = λ xs. last_source (shapes_of p xs) ≡ Some at in
    let S : List Entry → Type 0 = λ xs. is_source (shapes_of p xs) at ≡ true in
    let front = last_is_source p (cut_range p range) (take (suc j) order) at (sized_take p (suc j) order sized) (subst L (sym next) last) in
    subst S (take-append-drop (suc j) order) (source_still p (take (suc j) order) (drop (suc j) order) at front)

-- the last segment of a stream, by its number
pub last_number : (b closed : ℕ) → 0 < b → 0 < closed
    → (div_ceil closed b - 1) * b + (min b (closed - ((div_ceil closed b - 1) * b + 0)) - 1) ≡ closed - 1
last_number b closed some has =
    let times = div_ceil_times closed b some in
    go (div_ceil closed b) times.0 times.1
  where
    go : (n : ℕ) → closed ≤ n * b → n * b < closed + b → (n - 1) * b + (min b (closed - ((n - 1) * b + 0)) - 1) ≡ closed - 1
    go zero le lt = absurd (let z : 0 * b ≡ 0 = omega arith in omega (arith, le, z, has))
    go (suc n) le lt =
        let next : suc n * b ≡ b + n * b = omega arith in
        at n (suc n - 1) (let z : suc n - 1 ≡ n = omega arith in z) (omega (arith, le, next)) (omega (arith, lt, next))
      where
        at : (n m : ℕ) → m ≡ n → closed ≤ b + n * b → n * b < closed → m * b + (min b (closed - (m * b + 0)) - 1) ≡ closed - 1
        at n m e le lt =
            let M : ℕ → Type 0 = λ k. k * b + (min b (closed - (k * b + 0)) - 1) ≡ closed - 1 in
            subst M (sym e) (let z : n * b + (min b (closed - (n * b + 0)) - 1) ≡ closed - 1 = omega (arith, le, lt, some) in z)

-- and all through it are the parts of the entries through its own
pub upto_last : (p : Settings) → InRange p → (order : List Entry) (j : ℕ) (x : Entry) → j < length order → slice_get order j ≡ Some x → IsSized p x.object
    → IsFinished x.object → last_in j (shape_of p x.object) ≡ Some (last_position j (shape_of p x.object))
    → upto p order (last_position j (shape_of p x.object)) ≡ all_parts p 0 (take (suc j) order)
upto_last p range order j x lt found sized done last =
    let many = length-take j order in
    ap (λ (o : Option Entry). all_parts p 0 (take j order) ++ at_place p (last_position j (shape_of p x.object)) o) found
    ∙ ap (λ (ups : List Up). all_parts p 0 (take j order) ++ ups) (whole x.object sized done last)
    ∙ sym (all_parts_end p 0 j (take j order) x (omega arith))
    ∙ ap (all_parts p 0) (sym (take_next order j x found))
  where
    itself : (at : Position) → reaches at at ≡ true
    itself at = reached at at (inr (refl, inr (refl, omega arith)))

    whole : (object : Object) → IsSized p object → IsFinished object → last_in j (shape_of p object) ≡ Some (last_position j (shape_of p object))
        → parts_through p (last_position j (shape_of p object)) object ≡ parts_of p j object
    whole (Stream parts) sized done last =
        let closed : ℕ = length (closed_from p.e [] parts) in
        let some = (ended_empty p.e [] parts done).long in
        let number = last_number p.b closed (omega (arith, range.b.0)) (omega (arith, some)) in
        let long = length-parts p j parts in
        take_all _ (parts_of p j (Stream parts)) (omega (arith, number, long, some))
    whole (Whole kind info octets) sized done last =
        let at : Position = last_position j (shape_of p (Whole kind info octets)) in
        let ends : ends_at p (Whole kind info octets) at ≡ true =
        ap (λ (o : Option Position). elim o [ Some l ↦ reaches at l | None ↦ false ]) last ∙ itself at in
        ap (λ (b : Bool). elim b [ true ↦ parts_of p j (Whole kind info octets) | false ↦ [] ]) ends

-- ---- what has to go

both : (a b : Bool) → (a && b) ≡ true → (a ≡ true) × (b ≡ true)
both true b e = (refl, e)
both false b e = absurd (clash e)

-- each of those that may all go may go
goes_at : (p : Settings) (s : SenderState) (first index k : ℕ) (entries : List Entry) (x : Entry) → index ≡ first + k → slice_get entries k ≡ Some x
    → may_all_go p s first entries ≡ true → may_go p s index (shape_of p x.object) ≡ true
unfolding may_all_go
goes_at p s first index k [] x e found all = absurd (none x found)
  where
    none : (x : Entry) → None ≡ Some x → ⊥
    none x e = cc
goes_at p s first index zero (y ∷ entries) x e found all =
    let same : index ≡ first = omega arith in
    let is : y ≡ x = one y x found in
    ap (λ (i : ℕ). may_go p s i (shape_of p x.object)) same ∙ ap (λ (z : Entry). may_go p s first (shape_of p z.object)) (sym is) ∙ (both _ _ all).0
  where
    one : (a b : Entry) → Some a ≡ Some b → a ≡ b
    one a b e = cc
goes_at p s first index (suc k) (y ∷ entries) x e found all =
    goes_at p s (suc first) index k entries x (omega arith) found (both (may_go p s first (shape_of p y.object)) (may_all_go p s (suc first) entries) all).1

-- in hold mode every member is listed past the last source symbol of an object that may go
released : (p : Settings) (s : SenderState) (index : ℕ) (shape : Shape) (at : Position) → p.mode ≡ mode.Hold → last_in index shape ≡ Some at
    → may_go p s index shape ≡ true → all_past s at ≡ true
released p s index shape at hold last e =
    sym (ap (λ (m : Mode). by m (last_in index shape)) hold ∙ ap (by mode.Hold) last) ∙ (both _ (is_released p s (last_in index shape)) e).1
  where
    by : Mode → Option Position → Bool
    by m last = elim m [ mode.Hold ↦ elim last [ Some at ↦ all_past s at | None ↦ true ] | mode.Drop ↦ true ]

-- a member is listed past a position that every listing is past
pub member_past : (P : Listing → Type 0) (node : ℕ) (at : Position) (ls : List Listing) → listed_in node ls ≡ true → list_all (is_past at) ls ≡ true
    → AllByRecursion P ls → (l : Listing) × (l.node ≡ node) × (is_past at l ≡ true) × P l
member_past P node at [] e past all = absurd (clash e)
member_past P node at (l ∷ ls) e past all =
    let parts = both (is_past at l) (list_all (is_past at) ls) past in
    go (l.node == node) refl e parts (λ is. member_past P node at ls is parts.1 all.1)
  where
    go : (b : Bool) → (l.node == node) ≡ b → (b || listed_in node ls) ≡ true → (is_past at l ≡ true) × (list_all (is_past at) ls ≡ true)
        → (listed_in node ls ≡ true → (x : Listing) × (x.node ≡ node) × (is_past at x ≡ true) × P x)
        → (x : Listing) × (x.node ≡ node) × (is_past at x ≡ true) × P x
    go true is e parts more = (l, (Decides-eqb l.node node).0 is, parts.0, all.0)
    go false is e parts more = more e

-- what such a member handed up begins with all through that position
pub past_front : (p : Settings) (order : List Entry) (handed : ℕ → List Up) (node : ℕ) (at : Position) (l : Listing) → is_source (shapes_of p order) at ≡ true
    → l.node ≡ node → is_past at l ≡ true → ListedDue p order handed l → IsFront (upto p order at) (handed node)
past_front p order handed node at l source same past h =
    let F : ℕ → Type 0 = λ n. IsFront (upto p order at) (handed n) in
    subst F same (go l.past past h)
  where
    go : (o : Option Position) → (elim o [ Some further ↦ reaches further at | None ↦ false ]) ≡ true → Due p order (handed l.node) o
        → IsFront (upto p order at) (handed l.node)
    go None e h = absurd (clash e)
    go (Some further) e h =
        let more = grows_with_position p order at further source e in
        (more.0 ++ h.1.0, h.1.1 ∙ ap (λ (ups : List Up). ups ++ h.1.0) (sym more.1) ∙ append_assoc (upto p order at) more.0 h.1.0)

-- In hold mode, where room can be made and something goes for it, each member handed up all that goes.
pub gone_handed : (p : Settings) → InRange p → (s : SenderState) (size k node : ℕ) (handed : ℕ → List Up) → p.mode ≡ mode.Hold → AreSized p s.current.order
    → ((i : ℕ) (x : Entry) → slice_get s.current.order i ≡ Some x → IsFinished x.object) → s.current.drop.index ≤ length s.current.order → can_make_room p s size ≡ true → has_to_go p size (window s) ≡ suc k → listed_in node s.listings ≡ true
    → AllByRecursion (ListedDue p s.current.order handed) s.listings
    → (s.current.drop.index + suc k ≤ length s.current.order)
    × IsFront (all_parts p 0 (take (s.current.drop.index + suc k) s.current.order)) (handed node)
gone_handed p range s size k node handed hold sized all_done within room going member listed =
    let order : List Entry = s.current.order in
    let d : ℕ = s.current.drop.index in
    let all : List Entry = window s in
    let many = goes_within p size all in
    let left = length-drop d order in
    let first : List Entry = take (has_to_go p size all) all in
    let few = length-take (has_to_go p size all) all in
    let found = there first k (omega (arith, few, many, going)) in
    let x : Entry = found.0 in
    let place : slice_get order (d + k) ≡ Some x = dropped_place order d k (d + k) x refl (taken_place all (has_to_go p size all) k x found.1) in
    let lt : d + k < length order = omega (arith, many, left, going, within) in
    let is_sized = sized_at p order (d + k) x sized place in
    let done = all_done (d + k) x place in
    let last = has_last p range (d + k) x.object is_sized done in
    let at : Position = last_position (d + k) (shape_of p x.object) in
    let past = released p s (d + k) (shape_of p x.object) at hold last (goes_at p s d (d + k) k first x refl found.1 room) in
    let one = member_past (ListedDue p order handed) node at s.listings member past listed in
    let front = past_front p order handed node at one.0 (last_is_there p range order (d + k) x sized lt place done) one.1 one.2 one.3 in
    let F : List Up → Type 0 = λ ups. IsFront ups (handed node) in
    let N : ℕ → Type 0 = λ n. IsFront (all_parts p 0 (take n order)) (handed node) in (
      omega (arith, lt),
      subst N (let z : suc (d + k) ≡ d + suc k = omega arith in z) (subst F (upto_last p range order (d + k) x lt place is_sized done last) front),
    )

-- In hold mode, where blocks of the open stream go, each member handed up all before the last of them, that included.
pub block_handed : (p : Settings) → InRange p → (s : SenderState) (index block node : ℕ) (x : Entry) (parts : List Part) (handed : ℕ → List Up) → p.mode ≡ mode.Hold
    → slice_get s.current.order index ≡ Some x → x.object ≡ Stream parts → HasBlocks p (suc block) (Stream parts)
    → block_may_go p s index (shape_of p (Stream parts)) block ≡ true → listed_in node s.listings ≡ true
    → AllByRecursion (ListedDue p s.current.order handed) s.listings
    → IsFront (dropped_parts p s.current.order (point index (suc block))) (handed node)
block_handed p range s index block node x parts handed hold found is has may member listed =
    let order : List Entry = s.current.order in
    let at : Position = position index block (p.b - 1) in
    let past : all_past s at ≡ true = sym (ap by hold) ∙ (both _ (is_released p s (Some at)) may).1 in
    let one = member_past (ListedDue p order handed) node at s.listings member past listed in
    let next : suc block * p.b ≡ p.b + block * p.b = omega arith in
    let lt : nat_lt (p.b - 1) (closed_in (shape_of p (Stream parts)) block) ≡ true =
    (Decides-ltb (p.b - 1) (closed_in (shape_of p (Stream parts)) block)).1 (omega (arith, has, next, range.b.0)) in
    let source : is_source (shapes_of p order) at ≡ true =
    entry_source p order index (λ s. nat_lt (p.b - 1) (closed_in s block)) x found (ap (λ (o : Object). nat_lt (p.b - 1) (closed_in (shape_of p o) block)) is ∙ lt) in
    let front = past_front p order handed node at one.0 source one.1 one.2 one.3 in
    let F : List Up → Type 0 = λ ups. IsFront ups (handed node) in
    let through : parts_through p at x.object ≡ blocks_parts p index (suc block) x.object =
    ap (parts_through p at) is
    ∙ ap (λ (n : ℕ). take n (parts_of p index (Stream parts))) (let z : 2 + (block * p.b + (p.b - 1)) ≡ 1 + suc block * p.b = omega (arith, next, range.b.0) in z)
    ∙ ap (λ (o : Object). take (1 + suc block * p.b) (parts_of p index o)) (sym is) in
    let all : upto p order at ≡ dropped_parts p order (point index (suc block)) =
    ap (λ (o : Option Entry). all_parts p 0 (take index order) ++ at_place p at o) found
    ∙ ap (λ (ups : List Up). all_parts p 0 (take index order) ++ ups) through
    ∙ ap (λ (o : Option Entry). all_parts p 0 (take index order) ++ next_parts p index (suc block) o) (sym found)
    ∙ sym (drops_is p 0 index index (suc block) order (let z : index ≡ 0 + index = omega arith in z)) in
    subst F all front
  where
    by : Mode → Bool
    by m = elim m [ mode.Hold ↦ all_past s (position index block (p.b - 1)) | mode.Drop ↦ true ]
