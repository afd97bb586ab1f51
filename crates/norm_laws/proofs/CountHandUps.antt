-- The receivers of a session hand up or lose each entry of each order once at most.
use Rattle.std.proofs.Common.{◌≡◌, ℕ, ◌+◌, ◌*◌, ◌≤◌, cond, List, [], ◌∷◌, ◌++◌, length, Bool, true, false, None, Some, refl, ap, ◌∙◌, arith, ◌⊎◌, inl, inr}
use Rattle.std.specs.Prelude.{map, find, flat_map, ◌==◌, ◌&&◌, nat_eq, ⊤}
use Rattle.std.specs.List.{AllByRecursion, IsDistinct}
use Rattle.std.proofs.lemmas.Bool.Decides.{Decides-eqb}
use Rattle.std.proofs.lemmas.List.{length-append, length-map}
use Rattle.norm_order.specs.Entries.{Entry}
use Rattle.norm_order.specs.declared.up.Up.{Up}
use Rattle.norm_send_rules.specs.SenderState.{SenderState, Instance, Watermark}
use Rattle.norm_send_rules.specs.Restarting.{instances}
use Rattle.norm_safety.specs.OnceEach.{origins_of, origins, instance_ids, order_of}
use Rattle.norm_journal.specs.declared.event.Event.{Event}
use Rattle.norm_journal.specs.declared.event.Event.TheVariants as event
use Rattle.norm_journal.specs.Handed.{up_in, ups_in}

-- ---- sums over nodes and instances

-- the sum of a number over a list
abbrev pub total : {X : Type 0} → (X → ℕ) → List X → ℕ
total f [] = 0
total f (x ∷ xs) = f x + total f xs

total_adds : {X : Type 0} (f g : X → ℕ) (xs : List X) → total (λ x. f x + g x) xs ≡ total f xs + total g xs
total_adds f g [] = refl
total_adds f g (x ∷ xs) = let more = total_adds f g xs in omega (arith, more)

total_same : {X : Type 0} (f g : X → ℕ) (xs : List X) → ((x : X) → f x ≡ g x) → total f xs ≡ total g xs
total_same f g [] same = refl
total_same f g (x ∷ xs) same = let more = total_same f g xs same in let one = same x in omega (arith, more, one)

total_most : {X : Type 0} (f g : X → ℕ) (xs : List X) → ((x : X) → f x ≤ g x) → total f xs ≤ total g xs
total_most f g [] most = omega arith
total_most f g (x ∷ xs) most = let more = total_most f g xs most in let one = most x in omega (arith, more, one)

pub total_append : {X : Type 0} (f : X → ℕ) (xs ys : List X) → total f (xs ++ ys) ≡ total f xs + total f ys
total_append f [] ys = omega arith
total_append f (x ∷ xs) ys = let more = total_append f xs ys in omega (arith, more)

total_const : {X : Type 0} (n : ℕ) (xs : List X) → total (λ (x : X). n) xs ≡ length xs * n
total_const n [] = omega arith
total_const n (x ∷ xs) = let more = total_const n xs in omega (arith, more)

-- a list has an element
abbrev pub IsIn : {X : Type 0} → List X → X → Type 0
IsIn [] x = ⊥
IsIn (y ∷ ys) x = (y ≡ x) ⊎ IsIn ys x

total_one : {X : Type 0} (f : X → ℕ) (xs : List X) (x : X) → IsIn xs x → f x ≤ total f xs
total_one f [] x here = absurd here
total_one f (y ∷ xs) x (inl same) = let one = ap f same in omega (arith, one)
total_one f (y ∷ xs) x (inr later) = let more = total_one f xs x later in omega (arith, more)

-- ---- the hand-ups of all receivers in all instances

-- 1 of a hand-up
abbrev pub up_one : Event → ℕ
up_one (event.Up node instance up) = 1
up_one _ = 0

-- how many hand-ups a journal has
abbrev pub ups_many : List Event → ℕ
ups_many events = total up_one events

-- a hand-up is of one of these nodes
abbrev pub OfNodes : List ℕ → Event → Type 0
OfNodes nodes (event.Up node instance up) = IsIn nodes node
OfNodes nodes _ = ⊤

-- the hand-ups of these nodes in these instances
abbrev ups_over : List ℕ → List ℕ → List Event → ℕ
ups_over nodes ids events = total (λ node. total (λ id. length (ups_in events node id)) ids) nodes

abbrev own_over : List ℕ → List ℕ → Event → ℕ
own_over nodes ids e = total (λ node. total (λ id. length (up_in node id e)) ids) nodes

both_adds : (nodes ids : List ℕ) (e : Event) (events : List Event) → ups_over nodes ids (e ∷ events) ≡ own_over nodes ids e + ups_over nodes ids events
both_adds nodes ids e events =
    total_same _ (λ node. total (λ id. length (up_in node id e)) ids + total (λ id. length (ups_in events node id)) ids) nodes (λ node.
    total_same _ (λ id. length (up_in node id e) + length (ups_in events node id)) ids (λ id. length-append (up_in node id e) (ups_in events node id))
    ∙ total_adds (λ id. length (up_in node id e)) (λ id. length (ups_in events node id)) ids)
    ∙ total_adds (λ node. total (λ id. length (up_in node id e)) ids) (λ node. total (λ id. length (ups_in events node id)) ids) nodes

same_self : (n : ℕ) → (n == n) ≡ true
same_self n = (Decides-eqb n n).1 refl

own_up : (node id : ℕ) (up : Up) → length (up_in node id (event.Up node id up)) ≡ 1
own_up node id up =
    ap (λ (b : Bool). length (elim (b && id == id) as (λ _. List Up) [ true ↦ up ∷ [] | false ↦ [] ])) (same_self node)
    ∙ ap (λ (b : Bool). length (elim b as (λ _. List Up) [ true ↦ up ∷ [] | false ↦ [] ])) (same_self id)

-- a hand-up of one of the nodes in one of the instances is among theirs
own_counts : (nodes ids : List ℕ) (node id : ℕ) (up : Up) → IsIn nodes node → IsIn ids id → 1 ≤ own_over nodes ids (event.Up node id up)
own_counts nodes ids node id up here there =
    let one = own_up node id up in
    let of_id = total_one (λ i. length (up_in node i (event.Up node id up))) ids id there in
    let of_node = total_one (λ n. total (λ i. length (up_in n i (event.Up node id up))) ids) nodes node here in
    omega (arith, one, of_id, of_node)

-- Where each hand-up is of one of these nodes, and in each instance a node has no more than a number that is 0 but for some instances: all are of these nodes
-- in these instances.
all_over : (nodes ids : List ℕ) (most : ℕ → ℕ) → ((id : ℕ) → 1 ≤ most id → IsIn ids id) → (events : List Event) → AllByRecursion (OfNodes nodes) events
    → ((node id : ℕ) → length (ups_in events node id) ≤ most id) → ups_many events ≤ ups_over nodes ids events
all_over nodes ids most some [] of few = omega arith
all_over nodes ids most some (e ∷ events) of few =
    let rest = all_over nodes ids most some events of.1 (λ node id. fewer node id) in
    let adds = both_adds nodes ids e events in
    let own = one e of.0 (λ node id. first node id) in
    omega (arith, rest, adds, own)
  where
    fewer : (node id : ℕ) → length (ups_in events node id) ≤ most id
    fewer node id =
        let both = length-append (up_in node id e) (ups_in events node id) in let le = few node id in omega (arith, both, le)

    first : (node id : ℕ) → length (up_in node id e) ≤ most id
    first node id =
        let both = length-append (up_in node id e) (ups_in events node id) in let le = few node id in omega (arith, both, le)

    one : (e : Event) → OfNodes nodes e → ((node id : ℕ) → length (up_in node id e) ≤ most id) → up_one e ≤ own_over nodes ids e
    one (event.Up node id up) here most_of =
        let own = own_up node id up in
        let le = most_of node id in
        own_counts nodes ids node id up here (some id (omega (arith, own, le)))
    one event.Start here most_of = omega arith
    one (event.Turn turn now) here most_of = omega arith
    one (event.Pull by) here most_of = omega arith
    one (event.Job by job gave) here most_of = omega arith
    one (event.Length by name len fault) here most_of = omega arith
    one (event.Tick node sent) here most_of = omega arith
    one (event.Offer from octets) here most_of = omega arith
    one (event.Took to octets) here most_of = omega arith
    one event.Empty here most_of = omega arith
    one (event.News news) here most_of = omega arith
    one event.End here most_of = omega arith

-- ---- the entries of all orders

-- how many entries an instance's order has
abbrev pub entries_of : Instance → ℕ
entries_of i = length i.order

-- how many entries all orders have
abbrev pub entries : SenderState → ℕ
entries s = total entries_of (instances s)

-- the order of an instance among these
abbrev order_among : List Instance → ℕ → List Entry
order_among all id = elim (find (λ (i : Instance). i.id == id) all) [ Some i ↦ i.order | None ↦ [] ]

-- where no instance has this id, one more in front is none of it
among_others : (x : Instance) (all : List Instance) (ids : List ℕ) → AllByRecursion (λ id. (x.id == id) ≡ false) ids
    → total (λ id. length (order_among (x ∷ all) id)) ids ≡ total (λ id. length (order_among all id)) ids
among_others x all [] apart = refl
among_others x all (id ∷ ids) apart =
    let more = among_others x all ids apart.1 in
    let own = ap (λ (b : Bool). length (elim (cond b (Some x) (find (λ (i : Instance). i.id == id) all)) as (λ _. List Entry) [ Some i ↦ i.order | None ↦ [] ])) apart.0 in
    omega (arith, more, own)

-- the orders of different ids are those of the instances
by_ids : (all : List Instance) → IsDistinct nat_eq (map (λ (i : Instance). i.id) all)
    → total (λ id. length (order_among all id)) (map (λ (i : Instance). i.id) all) ≡ total entries_of all
unfolding IsDistinct
by_ids [] distinct = refl
by_ids (x ∷ all) distinct =
    let more = by_ids all distinct.1 in
    let others = among_others x all (map (λ (i : Instance). i.id) all) distinct.0 in
    let own = ap (λ (b : Bool). length (elim (cond b (Some x) (find (λ (i : Instance). i.id == x.id) all)) as (λ _. List Entry) [ Some i ↦ i.order | None ↦ [] ])) (same_self x.id) in
    omega (arith, more, others, own)

-- an id whose order has entries is an instance's
has_instance : (all : List Instance) (id : ℕ) → 1 ≤ length (order_among all id) → IsIn (map (λ (i : Instance). i.id) all) id
has_instance [] id some = absurd (nothing some)
  where
    nothing : 1 ≤ 0 → ⊥
    nothing le = omega arith
has_instance (x ∷ all) id some = go (x.id == id) refl (λ more. has_instance all id more) some
  where
    go : (b : Bool) → (x.id == id) ≡ b → (1 ≤ length (order_among all id) → IsIn (map (λ (i : Instance). i.id) all) id)
        → 1 ≤ length (elim (cond b (Some x) (find (λ (i : Instance). i.id == id) all)) as (λ _. List Entry) [ Some i ↦ i.order | None ↦ [] ])
        → IsIn (map (λ (i : Instance). i.id) (x ∷ all)) id
    go true e later some = inl ((Decides-eqb x.id id).0 e)
    go false e later some = inr (later some)

-- Hand-ups of these nodes, in each instance no more than its order has entries: together no more than all orders have, for each node.
pub ups_few : (s : SenderState) (nodes : List ℕ) (events : List Event) → IsDistinct nat_eq (instance_ids s) → AllByRecursion (OfNodes nodes) events
    → ((node id : ℕ) → length (ups_in events node id) ≤ length (order_of s id)) → ups_many events ≤ length nodes * entries s
ups_few s nodes events distinct of few =
    let all = all_over nodes (instance_ids s) (λ id. length (order_of s id)) (has_instance (instances s)) events of few in
    let each = total_most (λ node. total (λ id. length (ups_in events node id)) (instance_ids s)) (λ (node : ℕ). entries s) nodes (λ node.
    (let most = total_most (λ id. length (ups_in events node id)) (λ id. length (order_of s id)) (instance_ids s) (few node) in
    let same = by_ids (instances s) distinct in
    omega (arith, most, same))) in
    let sum = total_const (entries s) nodes in
    omega (arith, all, each, sum)

-- ---- entries among origins

-- each entry has an origin, and each watermark
pub entries_few : (s : SenderState) → entries s + length s.watermarks ≤ length (origins s)
entries_few s =
    let both = length-append (flat_map (λ (i : Instance). flat_map origins_of i.order) (instances s)) (map (λ (w : Watermark). w.by) s.watermarks) in
    let marks = length-map s.watermarks (λ (w : Watermark). w.by) in
    let all = instances_few (instances s) in
    omega (arith, both, marks, all)
  where
    order_few : (order : List Entry) → length order ≤ length (flat_map origins_of order)
    order_few [] = omega arith
    order_few (x ∷ order) =
        let both = length-append (origins_of x) (flat_map origins_of order) in let more = order_few order in omega (arith, both, more)

    instances_few : (all : List Instance) → total entries_of all ≤ length (flat_map (λ (i : Instance). flat_map origins_of i.order) all)
    instances_few [] = omega arith
    instances_few (i ∷ all) =
        let both = length-append (flat_map origins_of i.order) (flat_map (λ (i : Instance). flat_map origins_of i.order) all) in
        let own = order_few i.order in
        let more = instances_few all in
        omega (arith, both, own, more)
