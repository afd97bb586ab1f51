-- Which objects of an order are finished, and where its drop point lies, as the order goes on.
use Rattle.std.proofs.Common.{◌≡◌, ℕ, zero, suc, ◌+◌, ◌-◌, ◌*◌, ◌<◌, ◌≤◌, List, [], ◌∷◌, ◌++◌, length, Bool, true, false, Option, None, Some, refl, sym, ap, ◌∙◌, subst, arith, ◌⊎◌, inl, inr}
use Rattle.std.specs.Prelude.{slice_get, min, nat_le, ◌&&◌, ◌||◌}
use Rattle.std.specs.List.{list_all, range_with_len}
use Rattle.std.proofs.lemmas.Bool.{cases_lt}
use Rattle.std.proofs.lemmas.Bool.Decides.{Decides-eqb}
use Rattle.std.proofs.lemmas.List.{length-append, reverse-append}
use Rattle.std.proofs.lemmas.Option.{slice_get_within}
use Rattle.norm_base.specs.Settings.{Settings}
use Rattle.fec_plan.specs.Points.{Point}
use Rattle.norm_order.specs.Entries.{Part, Object, Whole, Stream, Entry}
use Rattle.norm_order.specs.Segments.{closed_from, has_end}
use Rattle.norm_order.specs.Shapes.{Shape, shape_of, is_full}
use Rattle.norm_order.proofs.UptoLemmas.{same_entry, nothing_there, found_front}
use Rattle.norm_order.proofs.GoingOnLemmas.{before_or_last, last_there}
use Rattle.norm_send_rules.specs.SenderState.{SenderState}
use Rattle.norm_send_rules.specs.Enqueuing.{open_parts}
use Rattle.norm_send_rules.specs.Room.{first_kept, least_kept, block_may_go, blocks_may_go, stream_has_room}
use Rattle.norm_safety.proofs.EntryLemmas.{open_in, ends, clash}
use Rattle.norm_safety.proofs.GoesOn.{ObjectLater, OrderLater, IsFinished, HasBlocks, DropWithin, finished_stays, closed_later, later_entry, later_long}

-- each entry but the last is finished
abbrev pub OnlyLast : List Entry → Type 0
OnlyLast order = (i : ℕ) (x : Entry) → slice_get order i ≡ Some x → suc i < length order → IsFinished x.object

finished_of : (object : Object) → open_parts object ≡ None → IsFinished object
finished_of (Whole kind info octets) e = tt
finished_of (Stream parts) e = go (has_end parts) e
  where
    some_none : Some parts ≡ None → ⊥
    some_none e = cc

    open_by : Bool → Option (List Part)
    open_by b = elim b [ true ↦ None | false ↦ Some parts ]

    go : (b : Bool) → open_by b ≡ None → b ≡ true
    go true e = refl
    go false e = absurd (some_none e)

-- the open stream's parts, by the entries from the last one on
abbrev last_open : List Entry → Option (List Part)
last_open entries = elim entries [ [] ↦ None | entry ∷ more ↦ open_parts entry.object ]

-- where no stream is open, each entry is finished
pub all_finished : (order : List Entry) → OnlyLast order → open_in order ≡ None → (i : ℕ) (x : Entry) → slice_get order i ≡ Some x → IsFinished x.object
all_finished order only none i x found = go (ends order)
  where
    go : (order ≡ []) ⊎ ((front : List Entry) × (last : Entry) × (order ≡ front ++ last ∷ [])) → IsFinished x.object
    go (inl is) = absurd (nothing_there x (sym (ap (λ (xs : List Entry). slice_get xs i) is) ∙ found))
    go (inr (front, last, is)) = at (before_or_last front last i x (sym (ap (λ (xs : List Entry). slice_get xs i) is) ∙ found))
      where
        at : (slice_get front i ≡ Some x) ⊎ ((i ≡ length front) × (last ≡ x)) → IsFinished x.object
        at (inl e) =
            let lt = slice_get_within front i x e in
            let long = length-append front (last ∷ []) in
            let all = ap (λ (xs : List Entry). length xs) is in
            only i x found (omega arith)
        at (inr (e, same)) =
            let seen : open_in (front ++ last ∷ []) ≡ open_parts last.object = ap last_open (reverse-append front (last ∷ [])) in
            let F : Entry → Type 0 = λ y. IsFinished y.object in
            subst F same (finished_of last.object (sym seen ∙ sym (ap open_in is) ∙ none))

-- one more entry joins, where no stream is open
pub only_last_joined : (order : List Entry) (x : Entry) → OnlyLast order → open_in order ≡ None → OnlyLast (order ++ x ∷ [])
only_last_joined order x only none i y found lt = go (before_or_last order x i y found)
  where
    go : (slice_get order i ≡ Some y) ⊎ ((i ≡ length order) × (x ≡ y)) → IsFinished y.object
    go (inl e) = all_finished order only none i y e
    go (inr (e, same)) = (let long = length-append order (x ∷ []) in absurd (omega arith))

-- the last entry goes on
pub only_last_grown : (front : List Entry) (x y : Entry) → OnlyLast (front ++ x ∷ []) → OnlyLast (front ++ y ∷ [])
only_last_grown front x y only i z found lt = go (before_or_last front y i z found)
  where
    was : length (front ++ x ∷ []) ≡ length front + 1
    was = length-append front (x ∷ [])

    now : length (front ++ y ∷ []) ≡ length front + 1
    now = length-append front (y ∷ [])

    go : (slice_get front i ≡ Some z) ⊎ ((i ≡ length front) × (y ≡ z)) → IsFinished z.object
    go (inl e) = only i z (found_front front (x ∷ []) i z e) (let w = was in let n = now in omega arith)
    go (inr (e, same)) = (let n = now in absurd (omega arith))

-- ---- a drop point

pub blocks_later : (p : Settings) → 0 < p.e → (n : ℕ) (o later : Object) → ObjectLater o later → HasBlocks p n o → HasBlocks p n later
blocks_later p some n (Whole kind info octets) later h has = absurd has
blocks_later p some n (Stream parts) later (more, is, none) has =
    let begins = closed_later p.e parts more some none in
    let long = ap (λ (xs : List (List ℕ)). length xs) begins.1 in
    let sum = length-append (closed_from p.e [] parts) begins.0 in
    let H : Object → Type 0 = λ o. HasBlocks p n o in
    let closed : n * p.b ≤ length (closed_from p.e [] (parts ++ more)) = omega arith in
    subst H (sym is) closed

-- an entry below the length of an order
entry_there : (order : List Entry) (n : ℕ) → n < length order → (x : Entry) × (slice_get order n ≡ Some x)
entry_there [] n lt = absurd (omega arith)
entry_there (x ∷ order) zero lt = (x, refl)
entry_there (x ∷ order) (suc n) lt = entry_there order n (omega arith)

-- it stays within the order as that goes on
pub drop_later : (p : Settings) → 0 < p.e → (order later : List Entry) (d : Point) → OrderLater order later → DropWithin p order d → DropWithin p later d
drop_later p some order later d h drop = record {
  within = (let le = later_long order later h in let w = drop.within in omega arith);
  finished = λ i x found lt. (
      let was = entry_there order i (let w = drop.within in omega arith) in
      let ended = drop.finished i was.0 was.1 lt in
      let now = later_entry order later i was.0 h was.1 in
      let same = finished_stays was.0.object now.0.object ended now.3 in
      let F : Object → Type 0 = λ o. IsFinished o in
      let E : Entry → Type 0 = λ y. IsFinished y.object in
      subst E (same_entry now.0 x (sym now.1 ∙ found)) (subst F (sym same) ended)
      );
  blocks = λ lt. (
      let was = drop.blocks lt in
      let now = later_entry order later d.index was.0 h was.1 in
      (now.0, now.1, blocks_later p some d.block was.0.object now.0.object now.3 was.2)
      );
}

-- a drop point between objects of an order without an open stream, where an entry joins
pub drop_joined : (p : Settings) (order : List Entry) (x : Entry) (d : Point) → d.block ≡ 0 → d.index ≤ length order → OnlyLast order → open_in order ≡ None
    → DropWithin p (order ++ x ∷ []) d
drop_joined p order x d none le only closed = record {
  within = (let long = length-append order (x ∷ []) in omega arith);
  finished = λ i y found lt. go i y (before_or_last order x i y found) lt;
  blocks = λ lt. absurd (omega arith);
}
  where
    go : (i : ℕ) (y : Entry) → (slice_get order i ≡ Some y) ⊎ ((i ≡ length order) × (x ≡ y)) → i < d.index → IsFinished y.object
    go i y (inl e) lt = all_finished order only closed i y e
    go i y (inr (e, same)) lt = absurd (omega arith)

-- a drop point within the last entry, a stream of which the blocks before it are closed
pub drop_grown : (p : Settings) (front : List Entry) (x : Entry) (d : Point) → d.index ≡ length front → OnlyLast (front ++ x ∷ []) → HasBlocks p d.block x.object
    → DropWithin p (front ++ x ∷ []) d
drop_grown p front x d is only has = record {
  within = (let long = length-append front (x ∷ []) in omega arith);
  finished = λ i y found lt. only i y found (let long = length-append front (x ∷ []) in omega arith);
  blocks = λ lt. (x, ap (λ (n : ℕ). slice_get (front ++ x ∷ []) n) is ∙ last_there front x, has);
}

-- ---- blocks that may go are closed

in_range : (test : ℕ → Bool) (first n i : ℕ) → list_all test (range_with_len first n) ≡ true → first ≤ i → i < first + n → test i ≡ true
in_range test first zero i all le lt = absurd (omega arith)
in_range test first (suc n) i all le lt = go (test first) refl all (cases_lt first i) (λ rest less. in_range test (first + 1) n i rest (omega arith) (omega arith))
  where
    go : (b : Bool) → test first ≡ b → (b && list_all test (range_with_len (first + 1) n)) ≡ true → (first < i) ⊎ (i ≤ first)
        → (list_all test (range_with_len (first + 1) n) ≡ true → first < i → test i ≡ true) → test i ≡ true
    go false e all c more = absurd (clash all)
    go true e all (inl less) more = more all less
    go true e all (inr same) more = ap test (let is : i ≡ first = omega arith in is) ∙ e

first_of : (a b : Bool) → (a && b) ≡ true → a ≡ true
first_of true b e = refl
first_of false b e = absurd (clash e)

second_of : (a b : Bool) → (a && b) ≡ true → b ≡ true
second_of true b e = e
second_of false b e = absurd (clash e)

-- where blocks of the open stream go, the last of them may go
pub room_last : (p : Settings) (s : SenderState) (index segments : ℕ) (parts : List Part)
    → stream_has_room p s index (shape_of p (Stream parts)) segments ≡ true → nat_le (least_kept p segments) (first_kept s index) ≡ false
    → first_kept s index < least_kept p segments → block_may_go p s index (shape_of p (Stream parts)) (least_kept p segments - 1) ≡ true
room_last p s index segments parts room more lt =
    let least : ℕ = least_kept p segments in
    let kept : ℕ = first_kept s index in
    let shape : Shape = shape_of p (Stream parts) in
    let may = or_second (nat_le least kept) (blocks_may_go p s index shape least) room more in
    let all = second_of _ (list_all (block_may_go p s index shape) (range_with_len kept (least - kept))) may in
    in_range (block_may_go p s index shape) kept (least - kept) (least - 1) all (omega arith) (omega arith)
  where
    or_second : (a b : Bool) → (a || b) ≡ true → a ≡ false → b ≡ true
    or_second true b e f = absurd (clash (sym f))
    or_second false b e f = e

-- and all segments of those blocks are closed
pub room_closed : (p : Settings) → 0 < p.b → (s : SenderState) (index segments : ℕ) (parts : List Part)
    → stream_has_room p s index (shape_of p (Stream parts)) segments ≡ true → nat_le (least_kept p segments) (first_kept s index) ≡ false
    → first_kept s index < least_kept p segments → HasBlocks p (least_kept p segments) (Stream parts)
room_closed p some s index segments parts room more lt =
    let least : ℕ = least_kept p segments in
    let full = first_of (is_full (shape_of p (Stream parts)) (least - 1)) _ (first_of _ _ (room_last p s index segments parts room more lt)) in
    let is = (Decides-eqb (min p.b (length (closed_from p.e [] parts) - ((least - 1) * p.b + 0))) p.b).0 full in
    closes least (length (closed_from p.e [] parts)) (omega arith) is
  where
    closes : (n closed : ℕ) → 0 < n → min p.b (closed - ((n - 1) * p.b + 0)) ≡ p.b → n * p.b ≤ closed
    closes zero closed lt is = absurd (omega arith)
    closes (suc n) closed lt is = times n closed (ap (λ (m : ℕ). min p.b (closed - (m * p.b + 0))) (one_less n) ∙ is)
      where
        one_less : (n : ℕ) → n ≡ suc n - 1
        one_less n = omega arith

        times : (n closed : ℕ) → min p.b (closed - (n * p.b + 0)) ≡ p.b → suc n * p.b ≤ closed
        times n closed is = (let e : suc n * p.b ≡ p.b + n * p.b = omega arith in omega arith)
