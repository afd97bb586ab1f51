-- Entries keep their places while orders grow at their ends, and a command adds its origin to all origins at most.
use Rattle.std.proofs.Common.{◌≡◌, ℕ, zero, suc, cond, List, [], ◌∷◌, ◌++◌, Bool, true, false, Option, None, Some, refl, sym, ap, ◌∙◌, subst, append_assoc, ◌⊎◌, inl, inr}
use Rattle.std.specs.Prelude.{find, flat_map, reverse, slice_get, ◌==◌}
use Rattle.std.proofs.lemmas.List.{append-nil, reverse-append}
use Rattle.std.proofs.lemmas.Grind.{flat_map-append}
use Rattle.norm_base.specs.declared.node.Origin.{Origin}
use Rattle.fec_plan.specs.Points.{Point}
use Rattle.norm_order.specs.Entries.{Part, Object, Whole, Stream, Entry}
use Rattle.norm_order.specs.Segments.{has_end}
use Rattle.norm_send_rules.specs.SenderState.{Instance, begun}
use Rattle.norm_send_rules.specs.Enqueuing.{open_parts}
use Rattle.norm_send_rules.specs.Streaming.{with_last}
use Rattle.norm_safety.specs.OnceEach.{origin_of_part, origins_of}

pub clash : false ≡ true → ⊥
clash e = cc

-- a test of an entry that stays true as a stream gets more parts
abbrev pub Stays : (Entry → Bool) → Type 0
Stays test = (own : Origin) (parts more : List Part) → test (record { by = own; object = Stream parts }) ≡ true
    → test (record { by = own; object = Stream (parts ++ more) }) ≡ true

-- this is true of the entry of an order at an index
abbrev pub true_at : List Entry → ℕ → (Entry → Bool) → Bool
true_at order index test = elim (slice_get order index) [ Some entry ↦ test entry | None ↦ false ]

-- each entry of an order has its place in another, where a stream may have more parts
abbrev pub PlacesKept : List Entry → List Entry → Type 0
PlacesKept order later = (index : ℕ) (test : Entry → Bool) → Stays test → true_at order index test ≡ true → true_at later index test ≡ true

pub append_places : (order more : List Entry) → PlacesKept order (order ++ more)
append_places [] more index test stays h = absurd (clash h)
append_places (entry ∷ order) more zero test stays h = h
append_places (entry ∷ order) more (suc index) test stays h = append_places order more index test stays h

pub with_last_is : (object : Object) (front : List Entry) (last : Entry)
    → with_last object (front ++ last ∷ []) ≡ front ++ (record last { object = object }) ∷ []
with_last_is object [] last = refl
with_last_is object (entry ∷ []) last = refl
with_last_is object (entry ∷ next ∷ front) last = ap (λ (xs : List Entry). entry ∷ xs) (with_last_is object (next ∷ front) last)

-- an entry that is a stream
abbrev stream_entry : Origin → List Part → Entry
stream_entry by parts = record { by = by; object = Stream parts }

last_places : (parts more : List Part) (front : List Entry) (own : Origin)
    → PlacesKept (front ++ stream_entry own parts ∷ []) (front ++ stream_entry own (parts ++ more) ∷ [])
last_places parts more [] own zero test stays h = stays own parts more h
last_places parts more [] own (suc index) test stays h = h
last_places parts more (entry ∷ front) own zero test stays h = h
last_places parts more (entry ∷ front) own (suc index) test stays h = last_places parts more front own index test stays h

pub with_last_places : (parts more : List Part) (front : List Entry) (own : Origin)
    → PlacesKept (front ++ record { by = own; object = Stream parts } ∷ [])
    (with_last (Stream (parts ++ more)) (front ++ record { by = own; object = Stream parts } ∷ []))
with_last_places parts more front own index test stays h =
    let P : List Entry → Type 0 = λ order. true_at order index test ≡ true in
    subst P (sym (with_last_is (Stream (parts ++ more)) front (stream_entry own parts))) (last_places parts more front own index test stays h)

-- the order of an instance among others
abbrev pub order_in : List Instance → ℕ → List Entry
order_in all id = elim (find (λ (i : Instance). i.id == id) all) [ Some i ↦ i.order | None ↦ [] ]

-- each entry of each instance has its place
abbrev pub AllKept : List Instance → List Instance → Type 0
AllKept all later = (id : ℕ) → PlacesKept (order_in all id) (order_in later id)

-- an instance
abbrev now_of : ℕ → List Entry → Point → Instance
now_of id order drop = record { id = id; order = order; drop = drop }

pub current_kept : (earlier : List Instance) (id : ℕ) (order later : List Entry) (drop point : Point) → PlacesKept order later
    → AllKept (earlier ++ record { id = id; order = order; drop = drop } ∷ []) (earlier ++ record { id = id; order = later; drop = point } ∷ [])
current_kept [] id order later drop point kept of = go (id == of)
  where
    go : (b : Bool) → PlacesKept
        (elim (cond b (Some (now_of id order drop)) None) [ Some i ↦ i.order | None ↦ [] ])
        (elim (cond b (Some (now_of id later point)) None) [ Some i ↦ i.order | None ↦ [] ])
    go true index test stays h = kept index test stays h
    go false index test stays h = h
current_kept (i ∷ earlier) id order later drop point kept of =
    go (i.id == of) (earlier ++ now_of id order drop ∷ []) (earlier ++ now_of id later point ∷ []) (current_kept earlier id order later drop point kept of)
  where
    go : (b : Bool) (xs ys : List Instance) → PlacesKept (order_in xs of) (order_in ys of)
        → PlacesKept (elim (cond b (Some i) (find (λ (i : Instance). i.id == of) xs)) [ Some i ↦ i.order | None ↦ [] ])
        (elim (cond b (Some i) (find (λ (i : Instance). i.id == of) ys)) [ Some i ↦ i.order | None ↦ [] ])
    go true xs ys more index test stays h = h
    go false xs ys more index test stays h = more index test stays h

pub begun_kept : (all : List Instance) (id : ℕ) → AllKept all (all ++ begun id ∷ [])
begun_kept [] id of index test stays h = absurd (clash h)
begun_kept (i ∷ all) id of index test stays h = go (i.id == of) (begun_kept all id of) index test stays h
  where
    go : (b : Bool) → PlacesKept (order_in all of) (order_in (all ++ begun id ∷ []) of)
        → PlacesKept (elim (cond b (Some i) (find (λ (i : Instance). i.id == of) all)) [ Some i ↦ i.order | None ↦ [] ])
        (elim (cond b (Some i) (find (λ (i : Instance). i.id == of) (all ++ begun id ∷ []))) [ Some i ↦ i.order | None ↦ [] ])
    go true more index test stays h = h
    go false more index test stays h = more index test stays h

-- Origins: an order that grows at its end adds them behind its own.
abbrev pub origins_in : List Entry → List Origin
origins_in order = flat_map origins_of order

-- all origins among instances
abbrev pub origins_of_all : List Instance → List Origin
origins_of_all all = flat_map (λ (i : Instance). origins_in i.order) all

pub origins_last : (earlier : List Instance) (current : Instance)
    → origins_of_all (earlier ++ current ∷ []) ≡ origins_of_all earlier ++ origins_in current.order
origins_last earlier current =
    flat_map-append (λ (i : Instance). origins_in i.order) earlier (current ∷ [])
    ∙ ap (λ (xs : List Origin). origins_of_all earlier ++ xs) (append-nil (origins_in current.order))

pub origins_entry : (order : List Entry) (by : Origin) (object : Object) → origins_of (record { by = by; object = object }) ≡ by ∷ []
    → origins_in (order ++ record { by = by; object = object } ∷ []) ≡ origins_in order ++ by ∷ []
origins_entry order by object e =
    flat_map-append origins_of order (record { by = by; object = object } ∷ [])
    ∙ ap (λ (xs : List Origin). origins_in order ++ (xs ++ [])) e

-- the origins of a stream's parts
abbrev origins_of_parts : List Part → List Origin
origins_of_parts parts = flat_map origin_of_part parts

pub origins_with_last : (front : List Entry) (by : Origin) (parts : List Part) (part : Part)
    → origins_in (with_last (Stream (parts ++ part ∷ [])) (front ++ record { by = by; object = Stream parts } ∷ []))
    ≡ origins_in (front ++ record { by = by; object = Stream parts } ∷ []) ++ origin_of_part part
origins_with_last front by parts part =
    ap origins_in (with_last_is (Stream (parts ++ part ∷ [])) front (record { by = by; object = Stream parts }))
    ∙ flat_map-append origins_of front (record { by = by; object = Stream (parts ++ part ∷ []) } ∷ [])
    ∙ ap (λ (xs : List Origin). origins_in front ++ xs) (
    append-nil (by ∷ origins_of_parts (parts ++ part ∷ []))
    ∙ ap (λ (xs : List Origin). by ∷ xs) (
    flat_map-append origin_of_part parts (part ∷ []) ∙ ap (λ (xs : List Origin). origins_of_parts parts ++ xs) (append-nil (origin_of_part part))
    )
    ∙ sym (ap (λ (xs : List Origin). xs ++ origin_of_part part) (append-nil (by ∷ origins_of_parts parts)))
    )
    ∙ sym (append_assoc (origins_in front) (origins_in (record { by = by; object = Stream parts } ∷ [])) (origin_of_part part))
    ∙ sym (ap (λ (xs : List Origin). xs ++ origin_of_part part)
    (flat_map-append origins_of front (record { by = by; object = Stream parts } ∷ [])))

-- where the last entry is an open stream, it is the last of the order
pub record EndsOpen (order : List Entry) (parts : List Part) : Type 0 where
  pub front : List Entry
  pub by : Origin
  pub is : order ≡ front ++ record { by = by; object = Stream parts } ∷ []

-- a list is empty or has a last element
pub ends : {X : Type 0} (xs : List X) → (xs ≡ []) ⊎ ((front : List X) × (last : X) × (xs ≡ front ++ last ∷ []))
ends [] = inl refl
ends {X} (x ∷ xs) = go (ends xs)
  where
    go : (xs ≡ []) ⊎ ((front : List X) × (last : X) × (xs ≡ front ++ last ∷ []))
        → ((x ∷ xs) ≡ []) ⊎ ((front : List X) × (last : X) × ((x ∷ xs) ≡ front ++ last ∷ []))
    go (inl e) = inr ([], x, ap (λ (ys : List X). x ∷ ys) e)
    go (inr (front, last, e)) = inr (x ∷ front, last, ap (λ (ys : List X). x ∷ ys) e)

-- the open stream's parts, by the last entry
abbrev pub open_in : List Entry → Option (List Part)
open_in order = elim (reverse order) [ [] ↦ None | entry ∷ entries ↦ open_parts entry.object ]

open_object : (object : Object) (parts : List Part) → open_parts object ≡ Some parts → object ≡ Stream parts
open_object (Whole kind info octets) parts e = absurd (none e)
  where
    none : {X : Type 0} {x : X} → None ≡ Some x → ⊥
    none e = cc
open_object (Stream own) parts e = go (has_end own) e
  where
    go : (b : Bool) → (elim b [ true ↦ None | false ↦ Some own ]) ≡ Some parts → Stream own ≡ Stream parts
    go true e = absurd (cc)
    go false e = cc

-- the open stream's parts, by the entries from the last one on
abbrev last_open : List Entry → Option (List Part)
last_open entries = elim entries [ [] ↦ None | entry ∷ more ↦ open_parts entry.object ]

pub ends_open : (order : List Entry) (parts : List Part) → open_in order ≡ Some parts → EndsOpen order parts
ends_open order parts e = go (ends order)
  where
    go : (order ≡ []) ⊎ ((front : List Entry) × (last : Entry) × (order ≡ front ++ last ∷ [])) → EndsOpen order parts
    go (inl is) = absurd (cc (sym (ap open_in is) ∙ e))
    go (inr (front, last, is)) =
        let seen : open_in (front ++ last ∷ []) ≡ open_parts last.object = ap last_open (reverse-append front (last ∷ [])) in
        let stream = open_object last.object parts (sym seen ∙ sym (ap open_in is) ∙ e) in
        record {
          front = front;
          by = last.by;
          is = is ∙ ap (λ (object : Object). front ++ record { by = last.by; object = object } ∷ []) stream;
        }
