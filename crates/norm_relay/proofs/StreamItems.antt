-- An order as items is what is handed up of it, if its streams ended, except the last, which may be open and cut.
use Rattle.std.proofs.Common.{◌≡◌, ℕ, zero, suc, ◌+◌, ◌-◌, ◌*◌, ◌/◌, ◌<◌, List, [], ◌∷◌, ◌++◌, length, take, drop, Bool, true, false, refl, sym, ap, ◌∙◌, subst, append_assoc, arith, ◌⊎◌, inl, inr}
use Rattle.std.specs.Prelude.{map, ⊤}
use Rattle.std.specs.Int.{div_ceil}
use Rattle.std.specs.List.{AllByRecursion}
use Rattle.std.proofs.lemmas.Grind.{div_ceil_times, flat_map-append}
use Rattle.std.proofs.lemmas.List.{append-nil, map-append, length-take, length-drop, take_all}
use Rattle.std.proofs.Math.Nat.{div-mul-le_self}
use Rattle.norm_base.specs.Settings.{Settings}
use Rattle.norm_order.specs.Entries.{Part, Write, Cut, End, Object, Whole, Stream, Entry}
use Rattle.norm_order.specs.Segments.{pieces, full_pieces, all_pieces, closed_from, placed, written, unclosed, has_end}
use Rattle.norm_order.specs.Upto.{segment_up, parts_of, all_parts}
use Rattle.norm_order.specs.declared.up.Up.{Up}
use Rattle.norm_order.proofs.SegmentLemmas.{joined, joined-placed, segment_laws}
use Rattle.norm_safety.proofs.EntryLemmas.{clash}
use Rattle.norm_safety.proofs.Stood.{all_parts_end}
use Rattle.norm_relay.specs.Flat.{Item, Begins, Octet, Ends, flat_from, flat, open_behind, end_items, object_items, order_items}
use Rattle.norm_relay.proofs.EndedOrders.{HasEnded, IsDone, AreDone}
use Rattle.norm_relay.proofs.FlatLemmas.{flat_append, open_append, items_entry, open_items, end_brings}

-- a list of some octets
abbrev IsSome : List ℕ → Type 0
IsSome octets = 0 < length octets

abbrev AreSome : List (List ℕ) → Type 0
AreSome lists = AllByRecursion IsSome lists

some_append : (xs ys : List (List ℕ)) → AreSome xs → AreSome ys → AreSome (xs ++ ys)
some_append [] ys h k = k
some_append (x ∷ xs) ys h k = (h.0, some_append xs ys h.1 k)

-- pieces of which the last begins within the octets have some octets each
pieces_are_some : (e n : ℕ) (octets : List ℕ) → 0 < e → n * e < length octets + e → AreSome (pieces e n octets)
unfolding pieces
pieces_are_some e zero octets some lt = tt
pieces_are_some e (suc n) octets some lt =
    let next : suc n * e ≡ e + n * e = omega arith in
    let first = length-take e octets in
    let rest = length-drop e octets in
    (omega (arith, some, lt, next, first), pieces_are_some e n (drop e octets) some (omega (arith, some, lt, next, rest)))

full_are_some : (e : ℕ) (octets : List ℕ) → 0 < e → AreSome (full_pieces e octets)
full_are_some e octets some = pieces_are_some e (length octets / e) octets some (let le = div-mul-le_self (length octets) e in omega (arith, le, some))

all_are_some : (e : ℕ) (octets : List ℕ) → 0 < e → AreSome (all_pieces e octets)
all_are_some e octets some = pieces_are_some e (div_ceil (length octets) e) octets some (div_ceil_times (length octets) e some).1

-- the closed segments of an open stream have some octets each
open_are_some : (e : ℕ) (since : List ℕ) (parts : List Part) → 0 < e → has_end parts ≡ false → AreSome (closed_from e since parts)
unfolding closed_from has_end
open_are_some e since [] some unended = full_are_some e since some
open_are_some e since (Write by octets ∷ parts) some unended = open_are_some e (since ++ octets) parts some unended
open_are_some e since (Cut ∷ parts) some unended =
    some_append (all_pieces e since) (closed_from e [] parts) (all_are_some e since some) (open_are_some e [] parts some unended)
open_are_some e since (End ∷ parts) some unended = absurd (clash (sym unended))

-- those of a stream that ended have, except the last
record EndsSome (closed : List (List ℕ)) : Type 0 where
  front : List (List ℕ)
  is : closed ≡ front ++ [] ∷ []
  some : AreSome front

ended_are_some : (e : ℕ) (since : List ℕ) (parts : List Part) → 0 < e → has_end parts ≡ false → EndsSome (closed_from e since (parts ++ End ∷ []))
unfolding closed_from has_end
ended_are_some e since [] some unended = record { front = all_pieces e since; is = refl; some = all_are_some e since some }
ended_are_some e since (Write by octets ∷ parts) some unended = ended_are_some e (since ++ octets) parts some unended
ended_are_some e since (Cut ∷ parts) some unended =
    let more = ended_are_some e [] parts some unended in
    record {
      front = all_pieces e since ++ more.front;
      is = ap (λ (xs : List (List ℕ)). all_pieces e since ++ xs) more.is ∙ sym (append_assoc (all_pieces e since) more.front ([] ∷ []));
      some = some_append (all_pieces e since) more.front (all_are_some e since some) more.some;
    }
ended_are_some e since (End ∷ parts) some unended = absurd (clash (sym unended))

-- ---- segments as items

-- the hand-ups of segments in a row
abbrev ups_from : ℕ → ℕ → List (List ℕ) → List Up
ups_from index offset lists = map (segment_up index) (placed offset lists)

-- segments of some octets bring these
some_items : (index offset : ℕ) (lists : List (List ℕ)) → AreSome lists → flat_from true (ups_from index offset lists) ≡ map Octet (joined lists)
unfolding placed flat_from
some_items index offset [] all = refl
some_items index offset ([] ∷ lists) all = absurd (omega (arith, all.0))
some_items index offset ((o ∷ os) ∷ lists) all =
    ap (λ (zs : List Item). map Octet (o ∷ os) ++ zs) (some_items index (offset + length (o ∷ os)) lists all.1)
    ∙ sym (map-append Octet (o ∷ os) (joined lists))

-- and one without octets ends the stream
ended_items : (index offset : ℕ) (lists : List (List ℕ)) → AreSome lists
    → (flat_from true (ups_from index offset (lists ++ [] ∷ [])) ≡ map Octet (joined lists) ++ Ends ∷ [])
    × (open_behind true (ups_from index offset (lists ++ [] ∷ [])) ≡ false)
unfolding placed flat_from open_behind
ended_items index offset [] all = (refl, refl)
ended_items index offset ([] ∷ lists) all = absurd (omega (arith, all.0))
ended_items index offset ((o ∷ os) ∷ lists) all =
    let more = ended_items index (offset + length (o ∷ os)) lists all.1 in (
      ap (λ (zs : List Item). map Octet (o ∷ os) ++ zs) more.0
          ∙ sym (append_assoc (map Octet (o ∷ os)) (map Octet (joined lists)) (Ends ∷ []))
          ∙ ap (λ (zs : List Item). zs ++ Ends ∷ []) (sym (map-append Octet (o ∷ os) (joined lists))),
      more.1,
    )

-- ---- streams

-- a stream is open, and no octets stand in a segment that is not closed
abbrev pub IsOpenCut : ℕ → List Part → Type 0
IsOpenCut e parts = (has_end parts ≡ false) × (unclosed e parts ≡ 0)

take_none_off : (n : ℕ) (xs : List ℕ) → n ≡ 0 → take (length xs - n) xs ≡ xs
take_none_off n xs e = take_all (length xs - n) xs (omega (arith, e))

-- the octets of an open stream that is cut stand in its segments
cut_joined : (e : ℕ) (parts : List Part) → 0 < e → IsOpenCut e parts → joined (closed_from e [] parts) ≡ written parts
cut_joined e parts some (unended, none) =
    sym (joined-placed 0 (closed_from e [] parts)) ∙ segment_laws.of_open e parts some unended ∙ take_none_off (unclosed e parts) (written parts) none

ended_joined : (e : ℕ) (front : List Part) (lists : List (List ℕ)) → 0 < e → has_end front ≡ false → closed_from e [] (front ++ End ∷ []) ≡ lists ++ [] ∷ []
    → joined lists ≡ written front
ended_joined e front lists some unended is =
    sym (flat_map-append (λ (list : List ℕ). list) lists ([] ∷ []) ∙ append-nil (joined lists))
    ∙ ap joined (sym is)
    ∙ sym (joined-placed 0 (closed_from e [] (front ++ End ∷ [])))
    ∙ segment_laws.of_ended e front some unended

-- what is handed up of an open stream that is cut
cut_parts : (p : Settings) (index : ℕ) (parts : List Part) → 0 < p.e → IsOpenCut p.e parts
    → flat (parts_of p index (Stream parts)) ≡ object_items (Stream parts)
unfolding flat_from
cut_parts p index parts some cut =
    ap (λ (zs : List Item). Begins ∷ zs) (
    some_items index 0 (closed_from p.e [] parts) (open_are_some p.e [] parts some cut.0)
    ∙ ap (λ (xs : List ℕ). map Octet xs) (cut_joined p.e parts some cut)
    ∙ sym (append-nil (map Octet (written parts)))
    ∙ ap (λ (b : Bool). map Octet (written parts) ++ end_items b) (sym cut.0)
    )

-- what is handed up of a stream that ended, after which none is open
ended_parts : (p : Settings) (index : ℕ) (front : List Part) → 0 < p.e → has_end front ≡ false
    → (flat (parts_of p index (Stream (front ++ End ∷ []))) ≡ Begins ∷ (map Octet (written front) ++ Ends ∷ []))
    × (open_behind false (parts_of p index (Stream (front ++ End ∷ []))) ≡ false)
unfolding flat_from open_behind
ended_parts p index front some unended =
    let all = ended_are_some p.e [] front some unended in
    let items = ended_items index 0 all.front all.some in
    let same : ups_from index 0 (closed_from p.e [] (front ++ End ∷ [])) ≡ ups_from index 0 (all.front ++ [] ∷ []) = ap (ups_from index 0) all.is in (
      ap (λ (zs : List Item). Begins ∷ zs) (
          ap (λ (us : List Up). flat_from true us) same ∙ items.0
          ∙ ap (λ (xs : List ℕ). map Octet xs ++ Ends ∷ []) (ended_joined p.e front all.front some unended all.is)
          ),
      ap (λ (us : List Up). open_behind true us) same ∙ items.1,
    )

-- ---- an order

-- what is handed up of an object that is done is its items, and no stream is open after it
done_items : (p : Settings) (index : ℕ) (o : Object) → 0 < p.e → IsDone o
    → (flat (parts_of p index o) ≡ object_items o) × (open_behind false (parts_of p index o) ≡ false)
unfolding flat_from open_behind
done_items p index (Whole kind info octets) some done = (refl, refl)
done_items p index (Stream parts) some done =
    let P : List Part → Type 0 = λ ps. (flat (parts_of p index (Stream ps)) ≡ object_items (Stream ps)) × (open_behind false (parts_of p index (Stream ps)) ≡ false) in
    let ended = ended_parts p index done.front some done.unended in
    let items : object_items (Stream (done.front ++ End ∷ [])) ≡ Begins ∷ (map Octet (written done.front) ++ Ends ∷ []) =
    ap (λ (zs : List Item). Begins ∷ zs) (end_brings done.front done.unended ∙ ap (λ (zs : List Item). zs ++ Ends ∷ []) (open_items done.front done.unended)) in
    subst P (sym done.is) (ended.0 ∙ sym items, ended.1)

done_order : (p : Settings) (first : ℕ) (order : List Entry) → 0 < p.e → AreDone order
    → (flat (all_parts p first order) ≡ order_items order) × (open_behind false (all_parts p first order) ≡ false)
unfolding all_parts flat_from open_behind
done_order p first [] some done = (refl, refl)
done_order p first (x ∷ order) some done =
    let one = done_items p first x.object some done.0 in
    let more = done_order p (first + 1) order some done.1 in
    let parts : List Up = parts_of p first x.object in
    let rest : List Up = all_parts p (first + 1) order in (
      flat_append false parts rest ∙ ap (λ (b : Bool). flat_from false parts ++ flat_from b rest) one.1
          ∙ ap (λ (zs : List Item). zs ++ flat_from false rest) one.0 ∙ ap (λ (zs : List Item). object_items x.object ++ zs) more.0,
      open_append false parts rest ∙ ap (λ (b : Bool). open_behind b rest) one.1 ∙ more.1,
    )

-- data, a file, a stream that ended, or one that is cut
abbrev pub IsCutOrDone : ℕ → Object → Type 0
IsCutOrDone e (Whole kind info octets) = ⊤
IsCutOrDone e (Stream parts) = HasEnded parts ⊎ IsOpenCut e parts

-- what is handed up of an order of which the last entry is so
pub cut_order : (p : Settings) (front : List Entry) (x : Entry) → 0 < p.e → AreDone front → IsCutOrDone p.e x.object
    → flat (all_parts p 0 (front ++ x ∷ [])) ≡ order_items (front ++ x ∷ [])
cut_order p front x some done last =
    let all = done_order p 0 front some done in
    let parts : List Up = parts_of p (length front) x.object in
    ap flat (all_parts_end p 0 (length front) front x (omega arith))
    ∙ flat_append false (all_parts p 0 front) parts
    ∙ ap (λ (b : Bool). flat_from false (all_parts p 0 front) ++ flat_from b parts) all.1
    ∙ ap (λ (zs : List Item). zs ++ flat_from false parts) all.0
    ∙ ap (λ (zs : List Item). order_items front ++ zs) (one x.object last)
    ∙ sym (items_entry front x)
  where
    one : (o : Object) → IsCutOrDone p.e o → flat (parts_of p (length front) o) ≡ object_items o
    one (Whole kind info octets) last = (done_items p (length front) (Whole kind info octets) some last).0
    one (Stream parts) (inl ended) = (done_items p (length front) (Stream parts) some ended).0
    one (Stream parts) (inr cut) = cut_parts p (length front) parts some cut
