-- What stands before a source symbol of an order does not end with the beginning of a stream.
use Rattle.std.proofs.Common.{◌≡◌, ℕ, zero, suc, ◌+◌, ◌<◌, List, [], ◌∷◌, ◌++◌, length, take, Bool, true, false, Option, Some, refl, sym, ap, ◌∙◌, subst, append_assoc, arith, ◌⊎◌, inl, inr}
use Rattle.std.specs.Prelude.{map, ⊤, nat_lt, slice_get}
use Rattle.std.specs.List.{AllByRecursion}
use Rattle.std.proofs.lemmas.Bool.Decides.{Decides-ltb}
use Rattle.std.proofs.lemmas.List.{append-nil, length-append}
use Rattle.norm_base.specs.Settings.{Settings}
use Rattle.fec_plan.specs.Partition.{symbol_number}
use Rattle.fec_plan.specs.declared.position.Position.{Position}
use Rattle.norm_order.specs.Entries.{Part, Write, Cut, End, Object, Whole, Stream, Entry}
use Rattle.norm_order.specs.Segments.{all_pieces, closed_from, Segment, placed, has_end}
use Rattle.norm_order.specs.Shapes.{shape_of, shapes_of, closed_in, is_source}
use Rattle.norm_order.specs.Upto.{segment_up, parts_of, all_parts, ends_at, parts_through, upto}
use Rattle.norm_order.specs.declared.up.Up.{Up}
use Rattle.norm_order.specs.declared.up.Up.TheVariants as up
use Rattle.norm_order.proofs.UptoLemmas.{there, source_entry}
use Rattle.norm_safety.proofs.EntryLemmas.{clash, ends}
use Rattle.norm_safety.specs.Fronts.{IsFront}
use Rattle.norm_safety.specs.LastUpto.{IsBeginning}
use Rattle.norm_relay.specs.Flat.{Item, Thing, Begins, Octet, Ends, leaves_open, items_of, flat_from, flat}
use Rattle.norm_relay.proofs.EndedOrders.{IsDone, AreDone, AreEnded}

-- ---- the last hand-up

-- it brings something, and is no beginning
abbrev IsFine : Up → Type 0
IsFine (up.Object index kind info bytes) = ⊤
IsFine (up.StreamOpen index) = ⊥
IsFine (up.StreamBytes index offset []) = ⊥
IsFine (up.StreamBytes index offset (octet ∷ bytes)) = ⊤
IsFine (up.StreamEnd index) = ⊤
IsFine (up.Lost index) = ⊥

abbrev LastFine : List Up → Type 0
LastFine [] = ⊤
LastFine (u ∷ []) = IsFine u
LastFine (u ∷ v ∷ ups) = LastFine (v ∷ ups)

last_append : (xs ys : List Up) → LastFine xs → LastFine ys → LastFine (xs ++ ys)
last_append [] ys h k = k
last_append (x ∷ []) [] h k = h
last_append (x ∷ []) (y ∷ ys) h k = k
last_append (x ∷ z ∷ xs) ys h k = last_append (z ∷ xs) ys h k

abbrev AreFine : List Up → Type 0
AreFine ups = AllByRecursion IsFine ups

fine_last : (ups : List Up) → AreFine ups → LastFine ups
fine_last [] h = tt
fine_last (u ∷ []) h = h.0
fine_last (u ∷ v ∷ ups) h = fine_last (v ∷ ups) h.1

fine_take : (n : ℕ) (ups : List Up) → AreFine ups → AreFine (take n ups)
fine_take zero ups h = tt
fine_take (suc n) [] h = tt
fine_take (suc n) (u ∷ ups) h = (h.0, fine_take n ups h.1)

-- ---- of an order

segment_fine : (index : ℕ) (s : Segment) → IsFine (segment_up index s)
segment_fine index s = go s.octets
  where
    go : (octets : List ℕ) → IsFine (elim octets [ [] ↦ up.StreamEnd index | octet ∷ more ↦ up.StreamBytes index s.offset (octet ∷ more) ])
    go [] = tt
    go (octet ∷ more) = tt

segments_fine : (index : ℕ) (all : List Segment) → AreFine (map (segment_up index) all)
segments_fine index [] = tt
segments_fine index (s ∷ all) = (segment_fine index s, segments_fine index all)

-- a stream of which something is closed
some_last : (index : ℕ) (lists : List (List ℕ)) → 0 < length lists → LastFine (up.StreamOpen index ∷ map (segment_up index) (placed 0 lists))
unfolding placed
some_last index [] some = absurd (omega (arith, some))
some_last index (list ∷ lists) some = fine_last (map (segment_up index) (placed 0 (list ∷ lists))) (segments_fine index (placed 0 (list ∷ lists)))

ended_some : (e : ℕ) (since : List ℕ) (front : List Part) → has_end front ≡ false → 0 < length (closed_from e since (front ++ End ∷ []))
unfolding closed_from has_end
ended_some e since [] unended = let long = length-append (all_pieces e since) ([] ∷ []) in omega (arith, long)
ended_some e since (Write by octets ∷ parts) unended = ended_some e (since ++ octets) parts unended
ended_some e since (Cut ∷ parts) unended =
    let more = ended_some e [] parts unended in
    let long = length-append (all_pieces e since) (closed_from e [] (parts ++ End ∷ [])) in
    omega (arith, more, long)
ended_some e since (End ∷ parts) unended = absurd (clash (sym unended))

done_last : (p : Settings) (index : ℕ) (o : Object) → IsDone o → LastFine (parts_of p index o)
done_last p index (Whole kind info octets) done = tt
done_last p index (Stream parts) done =
    some_last index (closed_from p.e [] parts)
    (subst (λ (ps : List Part). 0 < length (closed_from p.e [] ps)) (sym done.is) (ended_some p.e [] done.front done.unended))

all_last : (p : Settings) (first : ℕ) (order : List Entry) → AreDone order → LastFine (all_parts p first order)
unfolding all_parts
all_last p first [] done = tt
all_last p first (x ∷ order) done =
    last_append (parts_of p first x.object) (all_parts p (first + 1) order) (done_last p first x.object done.0) (all_last p (first + 1) order done.1)

take_done : (n : ℕ) (order : List Entry) (x : Entry) → AreEnded order → slice_get order n ≡ Some x → AreDone (take n order)
take_done zero order x h e = tt
take_done (suc n) [] x h e = tt
take_done (suc n) (y ∷ []) x h e = absurd (cc)
take_done (suc n) (y ∷ z ∷ order) x h e = (h.0, take_done n (z ∷ order) x h.1 e)

-- what ends at a source symbol
through_last : (p : Settings) (at : Position) (o : Object) → nat_lt at.symbol (closed_in (shape_of p o) at.block) ≡ true → LastFine (parts_through p at o)
unfolding placed
through_last p at (Whole kind info octets) lt = go (ends_at p (Whole kind info octets) at)
  where
    go : (b : Bool) → LastFine (elim b [ true ↦ parts_of p at.index (Whole kind info octets) | false ↦ [] ])
    go true = tt
    go false = tt
through_last p at (Stream parts) lt =
    let less = (Decides-ltb at.symbol (closed_in (shape_of p (Stream parts)) at.block)).0 lt in
    go (closed_from p.e [] parts) (omega (arith, less)) (2 + symbol_number (shape_of p (Stream parts)).cut at.block at.symbol) (omega arith)
  where
    go : (lists : List (List ℕ)) → 0 < length lists → (m : ℕ) → 1 < m → LastFine (take m (up.StreamOpen at.index ∷ map (segment_up at.index) (placed 0 lists)))
    go [] some m two = absurd (omega (arith, some))
    go (list ∷ lists) some zero two = absurd (omega (arith, two))
    go (list ∷ lists) some (suc zero) two = absurd (omega (arith, two))
    go (list ∷ lists) some (suc (suc n)) two =
        let s : Segment = record { offset = 0; octets = list } in
        let rest : List Up = map (segment_up at.index) (placed (0 + length list) lists) in
        fine_last (segment_up at.index s ∷ take n rest) (segment_fine at.index s, fine_take n rest (segments_fine at.index (placed (0 + length list) lists)))

upto_last : (p : Settings) (order : List Entry) (at : Position) → AreEnded order → is_source (shapes_of p order) at ≡ true → LastFine (upto p order at)
upto_last p order at ended source =
    let found = source_entry p order at.index (λ s. nat_lt at.symbol (closed_in s at.block)) source in
    let T : Option Entry → Type 0 = λ o. LastFine (there p at o) in
    last_append (all_parts p 0 (take at.index order)) (there p at (slice_get order at.index))
    (all_last p 0 (take at.index order) (take_done at.index order found.0 ended found.1.0))
    (subst T (sym found.1.0) (through_last p at found.0.object found.1.1))

-- ---- the last item

abbrev IsLater : Item → Type 0
IsLater (Thing kind info octets) = ⊤
IsLater Begins = ⊥
IsLater (Octet octet) = ⊤
IsLater Ends = ⊤

record EndsLater (items : List Item) : Type 0 where
  front : List Item
  last : Item
  is : items ≡ front ++ last ∷ []
  later : IsLater last

octets_end : (o : ℕ) (os : List ℕ) → EndsLater (map Octet (o ∷ os))
octets_end o [] = record { front = []; last = Octet o; is = refl; later = tt }
octets_end o (n ∷ os) =
    let more = octets_end n os in
    record { front = Octet o ∷ more.front; last = more.last; is = ap (λ (zs : List Item). Octet o ∷ zs) more.is; later = more.later }

one_ends : (opened : Bool) (u : Up) → IsFine u → EndsLater (items_of opened u)
one_ends opened (up.Object index kind info bytes) h = record { front = []; last = Thing kind info bytes; is = refl; later = tt }
one_ends opened (up.StreamOpen index) h = absurd h
one_ends opened (up.StreamBytes index offset []) h = absurd h
one_ends opened (up.StreamBytes index offset (octet ∷ bytes)) h = octets_end octet bytes
one_ends opened (up.StreamEnd index) h = record { front = []; last = Ends; is = refl; later = tt }
one_ends opened (up.Lost index) h = absurd h

fine_ends : (opened : Bool) (u : Up) (ups : List Up) → LastFine (u ∷ ups) → EndsLater (flat_from opened (u ∷ ups))
unfolding flat_from
fine_ends opened u [] h =
    let one = one_ends opened u h in record { front = one.front; last = one.last; is = append-nil (items_of opened u) ∙ one.is; later = one.later }
fine_ends opened u (v ∷ ups) h =
    let more = fine_ends (leaves_open u) v ups h in
    record {
      front = items_of opened u ++ more.front;
      last = more.last;
      is = ap (λ (zs : List Item). items_of opened u ++ zs) more.is ∙ sym (append_assoc (items_of opened u) more.front (more.last ∷ []));
      later = more.later;
    }

same_ends : (xs ys : List Item) (a b : Item) → xs ++ a ∷ [] ≡ ys ++ b ∷ [] → (xs ≡ ys) × (a ≡ b)
same_ends [] [] a b e = (refl, first e)
  where
    first : a ∷ [] ≡ b ∷ [] → a ≡ b
    first e = cc
same_ends [] (y ∷ []) a b e = absurd (cc)
same_ends [] (y ∷ z ∷ ys) a b e = absurd (cc)
same_ends (x ∷ []) [] a b e = absurd (cc)
same_ends (x ∷ w ∷ xs) [] a b e = absurd (cc)
same_ends (x ∷ xs) (y ∷ ys) a b e =
    let rest = same_ends xs ys a b (tail (xs ++ a ∷ []) (ys ++ b ∷ []) e) in (both rest.0 (head (xs ++ a ∷ []) (ys ++ b ∷ []) e), rest.1)
  where
    head : (us vs : List Item) → x ∷ us ≡ y ∷ vs → x ≡ y
    head us vs e = cc

    tail : (us vs : List Item) → x ∷ us ≡ y ∷ vs → us ≡ vs
    tail us vs e = cc

    both : xs ≡ ys → x ≡ y → x ∷ xs ≡ y ∷ ys
    both e f = cc

-- What ends otherwise is a front of these items too, without the beginning after them.
without_begin : (items whole rest : List Item) → EndsLater items → whole ++ Begins ∷ [] ≡ items ++ rest → IsFront items whole
without_begin items whole rest h e = go (ends rest)
  where
    go : (rest ≡ []) ⊎ ((front : List Item) × (last : Item) × (rest ≡ front ++ last ∷ [])) → IsFront items whole
    go (inl none) =
        let same = same_ends whole h.front Begins h.last (e ∙ ap (λ (zs : List Item). items ++ zs) none ∙ append-nil items ∙ h.is) in
        absurd (subst IsLater (sym same.1) h.later)
    go (inr (front, last, is)) =
        (front, (same_ends whole (items ++ front) Begins last (e ∙ ap (λ (zs : List Item). items ++ zs) is ∙ sym (append_assoc items front (last ∷ [])))).0)

-- So everything before a source symbol above is a front of what stands before the beginning of a stream below.
pub front_before : (p : Settings) (above : List Entry) (at : Position) (whole : List Item) (opened : Bool) (rest : List Up) → AreEnded above
    → is_source (shapes_of p above) at ≡ true → IsBeginning rest → IsFront (flat (upto p above at)) (whole ++ flat_from opened rest)
    → IsFront (flat (upto p above at)) whole
unfolding flat_from
front_before p above at whole opened rest ended source (inl none) front =
    (front.0, sym (append-nil whole) ∙ ap (λ (ups : List Up). whole ++ flat_from opened ups) (sym none) ∙ front.1)
front_before p above at whole opened rest ended source (inr (index, is)) front = go (upto p above at) (upto_last p above at ended source) front
  where
    go : (ups : List Up) → LastFine ups → IsFront (flat ups) (whole ++ flat_from opened rest) → IsFront (flat ups) whole
    go [] h f = (whole, refl)
    go (u ∷ ups) h f =
        without_begin (flat (u ∷ ups)) whole f.0 (fine_ends false u ups h) (ap (λ (us : List Up). whole ++ flat_from opened us) (sym is) ∙ f.1)
