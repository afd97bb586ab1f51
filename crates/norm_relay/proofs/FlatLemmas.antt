-- Hand-ups as items, one after the other; and an order as items, as it grows at its end.
use Rattle.std.proofs.Common.{◌≡◌, ℕ, List, [], ◌∷◌, ◌++◌, Bool, true, false, refl, sym, ap, ◌∙◌, append_assoc}
use Rattle.std.specs.Prelude.{map}
use Rattle.std.proofs.lemmas.List.{append-nil, map-append}
use Rattle.norm_order.specs.declared.up.Up.{Up}
use Rattle.norm_order.specs.Entries.{Part, Write, Cut, End, Stream, Entry}
use Rattle.norm_order.specs.Segments.{written, has_end}
use Rattle.norm_send_rules.specs.Streaming.{with_last}
use Rattle.norm_safety.proofs.EntryLemmas.{clash, with_last_is, EndsOpen}
use Rattle.norm_safety.proofs.WrittenLemmas.{written_append}
use Rattle.norm_relay.specs.Flat.{Item, Begins, Octet, Ends, leaves_open, items_of, flat_from, flat, open_behind, end_items, object_items, order_items}

pub flat_append : (opened : Bool) (xs ys : List Up) → flat_from opened (xs ++ ys) ≡ flat_from opened xs ++ flat_from (open_behind opened xs) ys
unfolding flat_from open_behind
flat_append opened [] ys = refl
flat_append opened (x ∷ xs) ys =
    ap (λ (zs : List Item). items_of opened x ++ zs) (flat_append (leaves_open x) xs ys)
    ∙ sym (append_assoc (items_of opened x) (flat_from (leaves_open x) xs) (flat_from (open_behind (leaves_open x) xs) ys))

pub open_append : (opened : Bool) (xs ys : List Up) → open_behind opened (xs ++ ys) ≡ open_behind (open_behind opened xs) ys
unfolding open_behind
open_append opened [] ys = refl
open_append opened (x ∷ xs) ys = open_append (leaves_open x) xs ys

-- one hand-up more
pub flat_one : (xs : List Up) (u : Up) → flat (xs ++ u ∷ []) ≡ flat xs ++ items_of (open_behind false xs) u
unfolding flat_from
flat_one xs u =
    flat_append false xs (u ∷ [])
    ∙ ap (λ (zs : List Item). flat_from false xs ++ zs) (append-nil (items_of (open_behind false xs) u))

pub open_one : (xs : List Up) (u : Up) → open_behind false (xs ++ u ∷ []) ≡ leaves_open u
unfolding open_behind
open_one xs u = open_append false xs (u ∷ [])

-- ---- an order

pub items_append : (order more : List Entry) → order_items (order ++ more) ≡ order_items order ++ order_items more
items_append [] more = refl
items_append (x ∷ order) more =
    ap (λ (zs : List Item). object_items x.object ++ zs) (items_append order more)
    ∙ sym (append_assoc (object_items x.object) (order_items order) (order_items more))

pub items_entry : (order : List Entry) (x : Entry) → order_items (order ++ x ∷ []) ≡ order_items order ++ object_items x.object
items_entry order x =
    items_append order (x ∷ []) ∙ ap (λ (zs : List Item). order_items order ++ zs) (append-nil (object_items x.object))

-- the items of a stream after its beginning
abbrev pub behind_begin : List Part → List Item
behind_begin parts = map Octet (written parts) ++ end_items (has_end parts)

-- the last entry's stream gets more parts, which bring these items
pub items_grown : (parts more : List Part) (items : List Item) (order : List Entry) → behind_begin (parts ++ more) ≡ behind_begin parts ++ items
    → EndsOpen order parts → order_items (with_last (Stream (parts ++ more)) order) ≡ order_items order ++ items
items_grown parts more items order brings ends =
    let last : Entry = record { by = ends.by; object = Stream parts } in
    let now : Entry = record { by = ends.by; object = Stream (parts ++ more) } in
    let front : List Item = order_items ends.front in
    ap (λ (xs : List Entry). order_items (with_last (Stream (parts ++ more)) xs)) ends.is
    ∙ ap (λ (xs : List Entry). order_items xs) (with_last_is (Stream (parts ++ more)) ends.front last)
    ∙ items_entry ends.front now
    ∙ ap (λ (zs : List Item). front ++ (Begins ∷ zs)) brings
    ∙ sym (append_assoc front (Begins ∷ behind_begin parts) items)
    ∙ ap (λ (zs : List Item). zs ++ items) (sym (items_entry ends.front last))
    ∙ ap (λ (xs : List Entry). order_items xs ++ items) (sym ends.is)

-- ---- what parts bring

still_open : (parts : List Part) (part : Part) → has_end (part ∷ []) ≡ false → has_end parts ≡ false → has_end (parts ++ part ∷ []) ≡ false
unfolding has_end
still_open [] part one e = one
still_open (Write by octets ∷ parts) part one e = still_open parts part one e
still_open (Cut ∷ parts) part one e = still_open parts part one e
still_open (End ∷ parts) part one e = absurd (clash (sym e))

now_ended : (parts : List Part) → has_end (parts ++ End ∷ []) ≡ true
unfolding has_end
now_ended [] = refl
now_ended (Write by octets ∷ parts) = now_ended parts
now_ended (Cut ∷ parts) = now_ended parts
now_ended (End ∷ parts) = refl

-- without an end after them, the items of an open stream are its octets
pub open_items : (parts : List Part) → has_end parts ≡ false → behind_begin parts ≡ map Octet (written parts)
open_items parts e = ap (λ (b : Bool). map Octet (written parts) ++ end_items b) e ∙ append-nil (map Octet (written parts))

pub write_brings : (parts : List Part) (part : Part) (octets : List ℕ) → has_end parts ≡ false → has_end (part ∷ []) ≡ false → written (part ∷ []) ≡ octets
    → behind_begin (parts ++ part ∷ []) ≡ behind_begin parts ++ map Octet octets
write_brings parts part octets e one is =
    open_items (parts ++ part ∷ []) (still_open parts part one e)
    ∙ ap (λ (xs : List ℕ). map Octet xs) (written_append parts (part ∷ []) ∙ ap (λ (xs : List ℕ). written parts ++ xs) is)
    ∙ map-append Octet (written parts) octets
    ∙ ap (λ (zs : List Item). zs ++ map Octet octets) (sym (open_items parts e))

pub end_brings : (parts : List Part) → has_end parts ≡ false → behind_begin (parts ++ End ∷ []) ≡ behind_begin parts ++ Ends ∷ []
unfolding written
end_brings parts e =
    ap (λ (b : Bool). map Octet (written (parts ++ End ∷ [])) ++ end_items b) (now_ended parts)
    ∙ ap (λ (xs : List ℕ). map Octet xs ++ Ends ∷ []) (written_append parts (End ∷ []) ∙ append-nil (written parts))
    ∙ ap (λ (zs : List Item). zs ++ Ends ∷ []) (sym (open_items parts e))
