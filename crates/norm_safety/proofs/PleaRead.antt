-- A NACK that a receiver's tick gives is read again, and each block that it counts is counted, by whoever knows indices near it, by as many
-- symbols as its receiver lacked, where all its ids name what they were written for.
use Rattle.std.proofs.Common.{◌≡◌, ℕ, zero, suc, ◌+◌, ◌*◌, ◌%◌, ◌<◌, ◌≤◌, cond, List, [], ◌∷◌, ◌++◌, length, Bool, true, false, Option, None, Some, Ok, refl, sym, ap, ◌∙◌, subst, arith, ◌⊎◌, inl, inr, length-append}
use Rattle.std.specs.Prelude.{Contains, map, flat_map, nat_le, ◌||◌, unwrap_or}
use Rattle.std.specs.List.{AllByRecursion}
use Rattle.norm_base.specs.Member.{IsMember}
use Rattle.norm_base.specs.Settings.{Settings, InRange}
use Rattle.fec_plan.specs.Points.{Point, point, position, point_of}
use Rattle.fec_plan.specs.declared.position.Position.{Position}
use Rattle.norm_ext.specs.Asked.{Asked, IsAsked, LastFits, ends_of, asked_items, written_item, request_alone, asked_before, requests_asked, asked_octets}
use Rattle.norm_ext.specs.Asking.{Span, span, spans_of, named, named_by, item_span, Count, asked_counts, has_flag, segment_flag, block_flag}
use Rattle.norm_ext.specs.Message.{Nack, Ack, NackMessage, AckMessage}
use Rattle.norm_ext.specs.ObjectIds.{object_id}
use Rattle.norm_ext.specs.Octets.{octets_of, requests_octets}
use Rattle.norm_ext.specs.Reading.{decoded}
use Rattle.norm_ext.specs.Requests.{Request, RequestItem, IsRequestItem, IsItem, IsRequest, item_size, request_octets}
use Rattle.norm_ext.specs.Written.{Written, writes}
use Rattle.norm_ext.specs.declared.head.Item.{Item}
use Rattle.norm_ext.specs.declared.kinds.Form.{Form}
use Rattle.norm_ext.specs.declared.kinds.Form.TheVariants as form
use Rattle.norm_ext.proofs.AskedLemmas.{alike, alike_is}
use Rattle.norm_ext.proofs.IdLemmas.{named_again_law, names_nearest_law}
use Rattle.norm_ext.proofs.LawsHold.{read_again_law}
use Rattle.norm_ext.proofs.RequestLemmas.{items_size}
use Rattle.norm_order.specs.Entries.{Entry}
use Rattle.norm_order.specs.declared.up.Up.{Up}
use Rattle.norm_receive_rules.specs.AllNeeds.{needs, needs_nothing}
use Rattle.norm_receive_rules.specs.Nack.{item_of, asked_of, indices_of, fitting, instance_id, nack_message, ack_message}
use Rattle.norm_receive_rules.specs.Needs.{Need, Object as Unknown, ObjectInfo, Symbols, Source, Rest}
use Rattle.norm_receive_rules.specs.ReceiverState.{ReceiverState}
use Rattle.norm_receive_rules.specs.Ticking.{sends, holds_off, are_heard, asks, asks_where_needed, ends_back_off, ticked}
use Rattle.norm_receive_rules.proofs.NackLemmas.{nack_laws}
use Rattle.norm_send_rules.specs.SenderState.{SenderState}
use Rattle.norm_safety.specs.OnceEach.{order_of}
use Rattle.norm_safety.specs.InOrder.{drop_of}
use Rattle.norm_safety.specs.RepairSuffices.{counted_blocks}
use Rattle.norm_safety.proofs.Holding.{ReceiverHolds}
use Rattle.norm_safety.proofs.SizedOrders.{AreSized}
use Rattle.norm_safety.proofs.LowNeeds.{asked_up_to}
use Rattle.norm_safety.proofs.ReceiverMoves.{StandingIn, Standing}
use Rattle.norm_safety.proofs.SenderHolds.{OrdersHold}
use Rattle.norm_safety.proofs.PleaDefs.{Lacks, Counted, IsPlain, GivesPlea}
use Rattle.norm_safety.proofs.PleaNeeds.{IsNeedOf, each_need, each_all}
use Rattle.norm_safety.proofs.SeenPasses.{KnowsOf, SeenIn, SeenBy, Seen}

-- ---- members of lists

-- a member
abbrev IsIn : {X : Type 0} → List X → X → Type 0
IsIn [] x = ⊥
IsIn (y ∷ ys) x = (y ≡ x) ⊎ IsIn ys x

in_of : {X : Type 0} (xs : List X) (x : X) → Contains xs x → IsIn xs x
in_of [] x has = absurd (omega (arith, has.1))
in_of (y ∷ xs) x (zero, lt, is) = inl is
in_of (y ∷ xs) x (suc k, lt, is) = inr (in_of xs x (k, omega (arith, lt), is))

contains_of : {X : Type 0} (xs : List X) (x : X) → IsIn xs x → Contains xs x
contains_of [] x has = absurd has
contains_of (y ∷ xs) x (inl is) = (zero, omega arith, is)
contains_of (y ∷ xs) x (inr has) = let more = contains_of xs x has in (suc more.0, (let lt = more.1 in omega (arith, lt)), more.2)

in_front : {X : Type 0} (xs ys : List X) (x : X) → IsIn xs x → IsIn (xs ++ ys) x
in_front [] ys x has = absurd has
in_front (y ∷ xs) ys x (inl is) = inl is
in_front (y ∷ xs) ys x (inr has) = inr (in_front xs ys x has)

in_behind : {X : Type 0} (xs ys : List X) (x : X) → IsIn ys x → IsIn (xs ++ ys) x
in_behind [] ys x has = has
in_behind (y ∷ xs) ys x has = inr (in_behind xs ys x has)

in_both : {X : Type 0} (xs ys : List X) (x : X) → IsIn (xs ++ ys) x → IsIn xs x ⊎ IsIn ys x
in_both [] ys x has = inr has
in_both (y ∷ xs) ys x (inl is) = inl (inl is)
in_both {X} (y ∷ xs) ys x (inr has) = go (in_both xs ys x has)
  where
    go : IsIn xs x ⊎ IsIn ys x → IsIn (y ∷ xs) x ⊎ IsIn ys x
    go (inl h) = inl (inr h)
    go (inr h) = inr h

in_map : {X Y : Type 0} (f : X → Y) (xs : List X) (y : Y) → IsIn (map f xs) y → (x : X) × IsIn xs x × (f x ≡ y)
in_map f [] y has = absurd has
in_map f (x ∷ xs) y (inl is) = (x, inl refl, is)
in_map f (x ∷ xs) y (inr has) = let more = in_map f xs y has in (more.0, inr more.1, more.2)

map_in : {X Y : Type 0} (f : X → Y) (xs : List X) (x : X) → IsIn xs x → IsIn (map f xs) (f x)
map_in f [] x has = absurd has
map_in f (y ∷ xs) x (inl is) = inl (ap f is)
map_in f (y ∷ xs) x (inr has) = inr (map_in f xs x has)

in_flat : {X Y : Type 0} (f : X → List Y) (xs : List X) (y : Y) → IsIn (flat_map f xs) y → (x : X) × IsIn xs x × IsIn (f x) y
in_flat f [] y has = absurd has
in_flat {X} {Y} f (x ∷ xs) y has = go (λ h. in_flat f xs y h) (in_both (f x) (flat_map f xs) y has)
  where
    go : (IsIn (flat_map f xs) y → (z : X) × IsIn xs z × IsIn (f z) y) → IsIn (f x) y ⊎ IsIn (flat_map f xs) y → (z : X) × IsIn (x ∷ xs) z × IsIn (f z) y
    go later (inl h) = (x, inl refl, h)
    go later (inr h) = let more = later h in (more.0, inr more.1, more.2)

flat_in : {X Y : Type 0} (f : X → List Y) (xs : List X) (x : X) (y : Y) → IsIn xs x → IsIn (f x) y → IsIn (flat_map f xs) y
flat_in f [] x y has h = absurd has
flat_in {X} {Y} f (z ∷ xs) x y (inl is) h = let F : X → Type 0 = λ w. IsIn (f w) y in in_front (f z) (flat_map f xs) y (subst F (sym is) h)
flat_in f (z ∷ xs) x y (inr has) h = in_behind (f z) (flat_map f xs) y (flat_in f xs x y has h)

all_in : {X : Type 0} (P : X → Type 0) (xs : List X) (x : X) → AllByRecursion P xs → IsIn xs x → P x
all_in P [] x all has = absurd has
all_in P (y ∷ xs) x all (inl is) = subst P is all.0
all_in P (y ∷ xs) x all (inr has) = all_in P xs x all.1 has

all_of : {X : Type 0} (P : X → Type 0) (xs : List X) → ((x : X) → IsIn xs x → P x) → AllByRecursion P xs
all_of P [] f = tt
all_of P (x ∷ xs) f = (f x (inl refl), all_of P xs (λ y has. f y (inr has)))

-- ---- what a need is asked by fits

item_fits : (p : Settings) (index block symbol : ℕ) → block < 16777216 → symbol < 256 → IsItem (item_of p (position index block symbol))
item_fits p index block symbol low lt = record { object = omega arith; id = (omega (arith, low), lt) }

asked_fits : (p : Settings) (order : List Entry) (r : ReceiverState) (need : Need) → IsNeedOf p order r need → IsAsked (asked_of p need)
asked_fits p order r (Unknown index) h = record { flags = omega arith; first = item_fits p index 0 0 (omega arith) (omega arith); last = λ e. cc }
asked_fits p order r (ObjectInfo index) h = record { flags = omega arith; first = item_fits p index 0 0 (omega arith) (omega arith); last = λ e. cc }
asked_fits p order r (Symbols index block wanted) h = record { flags = omega arith; first = item_fits p index block wanted h.0 h.1; last = λ e. cc }
asked_fits p order r (Source at) h = record { flags = omega arith; first = item_fits p at.index at.block at.symbol h.0 h.1; last = λ e. cc }
asked_fits p order r (Rest index block) h = record {
  flags = omega arith;
  first = item_fits p index block 0 h (omega arith);
  last = (refl, item_fits p index 16777215 0 (omega arith) (omega arith));
}

-- a request that can be spelled but for its length
record Fits (r : Request) : Type 0 where
  flags : r.flags < 256
  items : AllByRecursion IsRequestItem r.items
  pairs : 8 * length r.items % item_size r.form ≡ 0

all_append : (xs ys : List RequestItem) → AllByRecursion IsRequestItem xs → AllByRecursion IsRequestItem ys → AllByRecursion IsRequestItem (xs ++ ys)
all_append [] ys a b = b
all_append (x ∷ xs) ys a b = (a.0, all_append xs ys a.1 b)

written_fits : (item : Item) → IsItem item → IsRequestItem (written_item item)
written_fits item is = record { reserved = omega arith; item = is }

ends_fit : (f : Form) (first : Item) (last : Option Item) → IsItem first → LastFits f last → AllByRecursion IsRequestItem (ends_of first last)
ends_fit f first None is fits = (written_fits first is, tt)
ends_fit f first (Some item) is fits = (written_fits first is, (written_fits item fits.1, tt))

ends_pair : (f : Form) (first : Item) (last : Option Item) → LastFits f last → 8 * length (ends_of first last) % item_size f ≡ 0
ends_pair form.Items first None fits = refl
ends_pair form.Erasures first None fits = refl
ends_pair form.Ranges first None fits = absurd (fits refl)
ends_pair f first (Some item) fits = ap (λ (f : Form). 16 % item_size f) fits.0

both_pair : (f : Form) (m n : ℕ) → 8 * m % item_size f ≡ 0 → 8 * n % item_size f ≡ 0 → 8 * (m + n) % item_size f ≡ 0
both_pair form.Items m n a b = omega (arith, a, b)
both_pair form.Ranges m n a b = omega (arith, a, b)
both_pair form.Erasures m n a b = omega (arith, a, b)

alone_fits : (a : Asked) → IsAsked a → Fits (request_alone a)
alone_fits a is = record {
  flags = is.flags;
  items = ends_fit a.form a.first a.last is.first is.last;
  pairs = ends_pair a.form a.first a.last is.last;
}

joins_fits : (a : Asked) (r : Request) → IsAsked a → a.form ≡ r.form → Fits r → Fits (record r { items = asked_items a ++ r.items })
joins_fits a r is same fits =
    let own : 8 * length (asked_items a) % item_size r.form ≡ 0 = ap (λ (f : Form). 8 * length (asked_items a) % item_size f) (sym same) ∙ ends_pair a.form a.first a.last is.last in
    record {
      flags = fits.flags;
      items = all_append (asked_items a) r.items (ends_fit a.form a.first a.last is.first is.last) fits.items;
      pairs = ap (λ (n : ℕ). 8 * n % item_size r.form) (length-append (asked_items a) r.items) ∙ both_pair r.form (length (asked_items a)) (length r.items) own fits.pairs;
    }

-- what holds of each request, where what is asked for keeps it
before_keeps : (Q : Request → Type 0) (a : Asked) (rs : List Request) → Q (request_alone a)
    → ((r : Request) → a.form ≡ r.form → a.flags ≡ r.flags → Q r → Q (record r { items = asked_items a ++ r.items })) → AllByRecursion Q rs → AllByRecursion Q (asked_before a rs)
before_keeps Q a [] alone joins all = (alone, tt)
before_keeps Q a (r ∷ rs) alone joins all = go (alike a.form a.flags r.form r.flags) refl
  where
    go : (t : Bool) → alike a.form a.flags r.form r.flags ≡ t
        → AllByRecursion Q (cond t (record r { items = asked_items a ++ r.items } ∷ rs) (request_alone a ∷ r ∷ rs))
    go true e = let same = alike_is a.form a.flags r.form r.flags e in (joins r same.0 same.1 all.0, all.1)
    go false e = (alone, all)

all_fit : (asked : List Asked) → AllByRecursion IsAsked asked → AllByRecursion Fits (requests_asked asked)
all_fit [] all = tt
all_fit (a ∷ asked) all =
    before_keeps Fits a (requests_asked asked) (alone_fits a all.0) (λ r same flags fits. joins_fits a r all.0 same fits) (all_fit asked all.1)

are_requests : (rs : List Request) → AllByRecursion Fits rs → length (requests_octets rs) < 65536 → AllByRecursion IsRequest rs
are_requests [] all few = tt
are_requests (r ∷ rs) all few =
    let size = items_size r.items in
    let whole = length-append (request_octets r) (requests_octets rs) in (
      record { flags = all.0.flags; items = all.0.items; pairs = all.0.pairs; most = omega (arith, few, size, whole) },
      are_requests rs all.1 (omega (arith, few, whole)),
    )

asked_all : (p : Settings) (order : List Entry) (r : ReceiverState) (wanted : List Need) → AllByRecursion (IsNeedOf p order r) wanted → AllByRecursion IsAsked (map (asked_of p) wanted)
asked_all p order r [] all = tt
asked_all p order r (need ∷ wanted) all = (asked_fits p order r need all.0, asked_all p order r wanted all.1)

-- ---- the items of counts

-- an item counts symbols that the receiver lacks of a block, with one of these indices
record CountsOf (p : Settings) (order : List Entry) (r : ReceiverState) (indices : List ℕ) (x : RequestItem) : Type 0 where
  index : ℕ
  block : ℕ
  wanted : ℕ
  is : x ≡ written_item (item_of p (position index block wanted))
  lacks : Lacks p order r (point index block) wanted
  among : IsIn indices index

-- so do all items of a request of counts
record AreCounts (p : Settings) (order : List Entry) (r : ReceiverState) (indices : List ℕ) (q : Request) : Type 0 where
  counts : q.form ≡ form.Erasures → (q.flags ≡ 1) × AllByRecursion (CountsOf p order r indices) q.items

-- a need has only these indices
abbrev IsAmong : List ℕ → Need → Type 0
IsAmong indices need = AllByRecursion (λ i. IsIn indices i) (indices_of need)

alone_counts : (p : Settings) (order : List Entry) (r : ReceiverState) (indices : List ℕ) (need : Need) → IsNeedOf p order r need → IsAmong indices need
    → AreCounts p order r indices (request_alone (asked_of p need))
alone_counts p order r indices (Unknown index) h among = record { counts = λ e. absurd (cc e) }
alone_counts p order r indices (ObjectInfo index) h among = record { counts = λ e. absurd (cc e) }
alone_counts p order r indices (Symbols index block wanted) h among = record {
  counts = λ e. (refl, (record { index = index; block = block; wanted = wanted; is = refl; lacks = h.2; among = among.0 }, tt));
}
alone_counts p order r indices (Source at) h among = record { counts = λ e. absurd (cc e) }
alone_counts p order r indices (Rest index block) h among = record { counts = λ e. absurd (cc e) }

items_append : (P : RequestItem → Type 0) (xs ys : List RequestItem) → AllByRecursion P xs → AllByRecursion P ys → AllByRecursion P (xs ++ ys)
items_append P [] ys a b = b
items_append P (x ∷ xs) ys a b = (a.0, items_append P xs ys a.1 b)

all_counts : (p : Settings) (order : List Entry) (r : ReceiverState) (indices : List ℕ) (wanted : List Need) → AllByRecursion (IsNeedOf p order r) wanted
    → AllByRecursion (IsAmong indices) wanted → AllByRecursion (AreCounts p order r indices) (requests_asked (map (asked_of p) wanted))
all_counts p order r indices [] all among = tt
all_counts p order r indices (need ∷ wanted) all among =
    let own = alone_counts p order r indices need all.0 among.0 in
    before_keeps (AreCounts p order r indices) (asked_of p need) (requests_asked (map (asked_of p) wanted)) own
    (λ q same flags h. record {
      counts = λ e. (
          let mine = own.counts (same ∙ e) in
          let theirs = h.counts e in
          (theirs.0, items_append (CountsOf p order r indices) (asked_items (asked_of p need)) q.items mine.1 theirs.1)
          );
    }) (all_counts p order r indices wanted all.1 among.1)

-- ---- what a request of counts names

-- the count of an item
abbrev count_of : Span → Count
count_of s = record { of = point_of s.first; lacking = s.first.symbol }

names_it : (p : Settings) (known index block wanted : ℕ) → known ≤ index + 32767 → index ≤ known + 32767 → index ≤ 4294967294
    → named_by p known (written_item (item_of p (position index block wanted))) ≡ Some (position index block wanted)
names_it p known index block wanted low high most =
    ap (λ (found : Option ℕ). elim found [ Some i ↦ Some (position i block wanted) | None ↦ None ]) (named_again_law p known index low high most)

-- a receiver's own ids name as far as 32,768 below what it knows
names_own : (p : Settings) (known index block wanted : ℕ) → known ≤ index + 32768 → index ≤ known → index ≤ 4294967294
    → named_by p known (written_item (item_of p (position index block wanted))) ≡ Some (position index block wanted)
names_own p known index block wanted low high most =
    ap (λ (found : Option ℕ). elim found [ Some i ↦ Some (position i block wanted) | None ↦ None ])
    ((names_nearest_law p known (object_id p index) index (omega arith)).1 ((low, omega (arith, high), most), refl))

-- a request of counts gives the count of each of its items
gives_count : (p : Settings) (known : ℕ) (q : Request) (x : RequestItem) (at : Position) → q.form ≡ form.Erasures → q.flags ≡ 1 → IsIn q.items x
    → named_by p known x ≡ Some at → IsIn (asked_counts (named p known q)) (record { of = point_of at; lacking = at.symbol })
gives_count p known q x at kind flags has names = by_form q.form kind
  where
    items : List (Option Position)
    items = map (named_by p known) q.items

    spans : List Span
    spans = flat_map item_span items

    one : (o : Option Position) → o ≡ Some at → IsIn (item_span o) (span at at)
    one None e = absurd (cc e)
    one (Some other) e = inl (ap (λ (z : Position). span z z) (same other at e))
      where
        same : (a b : Position) → Some a ≡ Some b → a ≡ b
        same a b e = cc

    there : IsIn spans (span at at)
    there = flat_in item_span items (named_by p known x) (span at at) (map_in (named_by p known) q.items x has) (one (named_by p known x) names)

    flagged : (has_flag q.flags segment_flag || has_flag q.flags block_flag) ≡ true
    flagged = ap (λ (n : ℕ). has_flag n segment_flag || has_flag n block_flag) flags

    by_form : (f : Form) → f ≡ form.Erasures → IsIn (asked_counts (record { form = f; flags = q.flags; spans = spans_of f items })) (record { of = point_of at; lacking = at.symbol })
    by_form form.Items e = absurd (cc e)
    by_form form.Ranges e = absurd (cc e)
    by_form form.Erasures e =
        let B : Bool → Type 0 = λ b. IsIn (elim b [ true ↦ map count_of spans | false ↦ [] ]) (record { of = point_of at; lacking = at.symbol }) in
        subst B (sym flagged) (map_in count_of spans (span at at) there)

-- and what it gives is of one of them
count_given : (p : Settings) (known : ℕ) (q : Request) (c : Count) → IsIn (asked_counts (named p known q)) c
    → (q.form ≡ form.Erasures) × (x : RequestItem) × IsIn q.items x × IsIn (map count_of (item_span (named_by p known x))) c
count_given p known q c has = by_form q.form refl has
  where
    items : List (Option Position)
    items = map (named_by p known) q.items

    spans : List Span
    spans = flat_map item_span items

    of_span : IsIn (map count_of spans) c → (x : RequestItem) × IsIn q.items x × IsIn (map count_of (item_span (named_by p known x))) c
    of_span h =
        let s = in_map count_of spans c h in
        let o = in_flat item_span items s.0 s.1 in
        let x = in_map (named_by p known) q.items o.0 o.1 in
        let C : Count → Type 0 = λ z. IsIn (map count_of (item_span (named_by p known x.0))) z in
        let O : Option Position → Type 0 = λ z. IsIn (item_span z) s.0 in
        (x.0, x.1, subst C s.2 (map_in count_of (item_span (named_by p known x.0)) s.0 (subst O (sym x.2) o.2)))

    by_flags : (b : Bool) → IsIn (elim b [ true ↦ map count_of spans | false ↦ [] ]) c
        → (x : RequestItem) × IsIn q.items x × IsIn (map count_of (item_span (named_by p known x))) c
    by_flags true h = of_span h
    by_flags false h = absurd h

    by_form : (f : Form) → q.form ≡ f → IsIn (asked_counts (record { form = f; flags = q.flags; spans = spans_of f items })) c
        → (q.form ≡ form.Erasures) × (x : RequestItem) × IsIn q.items x × IsIn (map count_of (item_span (named_by p known x))) c
    by_form form.Items e h = absurd h
    by_form form.Ranges e h = absurd h
    by_form form.Erasures e h = let x = by_flags (has_flag q.flags segment_flag || has_flag q.flags block_flag) h in (e, x.0, x.1, x.2)

-- ---- a tick

-- what a receiver asks for, where it asks
abbrev wanted_of : Settings → ReceiverState → List Need
wanted_of p r = fitting p (needs p r) None p.e

-- what a tick sends, where that is a NACK
abbrev AsksAs : Settings → ReceiverState → Option Written → Type 0
AsksAs p r sent = (o : Written) (m : NackMessage) → sent ≡ Some o → o.message ≡ Nack m → o ≡ writes (nack_message p r (wanted_of p r)) (flat_map indices_of (wanted_of p r))

abbrev sent_is : ReceiverState × Option Written → Option Written
sent_is step = step.1

-- no NACK is sent
abbrev AsksNot : Option Written → Type 0
AsksNot sent = (o : Written) (m : NackMessage) → sent ≡ Some o → o.message ≡ Nack m → ⊥

same_sent : (a b : Written) → Some a ≡ Some b → a ≡ b
same_sent a b e = cc

no_sent : (b : Written) → None ≡ Some b → ⊥
no_sent b e = cc

nack_is : (p : Settings) (r : ReceiverState) (now : ℕ) → AsksAs p r (ticked p r now).1
nack_is p r now = due r.knows.due
  where
    nothing : AsksAs p r None
    nothing o m e is = absurd (no_sent o e)

    t : ReceiverState
    t = record r { knows = record (r.knows) { backoff = None } }

    asked : (all : Bool) → AsksAs p r (sent_is (elim all [
      | true ↦ (record t { knows = holds_off p now t.knows }, None)
      | false ↦ sends (writes (nack_message p t (wanted_of p t)) (flat_map indices_of (wanted_of p t))) (record t { knows = holds_off p now t.knows })
    ]))
    asked true = nothing
    asked false = λ o m e is. sym (same_sent _ o e)

    needed : (none : Bool) → AsksAs p r (sent_is (elim none [
      | true ↦ (t, None)
      | false ↦ asks p now (fitting p (needs p t) None p.e) t
    ]))
    needed true = nothing
    needed false = asked (are_heard t (wanted_of p t))

    ended : (reached : Bool) → AsksAs p r (sent_is (elim reached [ true ↦ asks_where_needed p now t | false ↦ (r, None) ]))
    ended true = needed (needs_nothing p t)
    ended false = nothing

    backed : (backoff : Option ℕ) → AsksAs p r (sent_is (elim backoff [
      | Some ends ↦ elim (nat_le ends now) [ true ↦ asks_where_needed p now t | false ↦ (r, None) ]
      | None ↦ (r, None)
    ]))
    backed None = nothing
    backed (Some ends) = ended (nat_le ends now)

    acks : (at : Position) → AsksAs p r (Some (writes (ack_message p r at) (at.index ∷ [])))
    acks at o m e is = absurd (differ (ap (λ (x : Written). x.message) (same_sent (writes (ack_message p r at) (at.index ∷ [])) o e) ∙ is))
      where
        differ : {a : AckMessage} → Ack a ≡ Nack m → ⊥
        differ e = cc

    due : (at : Option Position) → AsksAs p r (sent_is (elim at [
      | Some at ↦ sends (writes (ack_message p r at) (at.index ∷ [])) (record r { knows = record (r.knows) { due = None } })
      | None ↦ ends_back_off p now r
    ]))
    due None = backed r.knows.backoff
    due (Some at) = acks at

-- ---- a plea

front_all : {X : Type 0} (P : X → Type 0) (xs ys : List X) → AllByRecursion P (xs ++ ys) → AllByRecursion P xs
front_all P [] ys all = tt
front_all P (x ∷ xs) ys all = (all.0, front_all P xs ys all.1)

among_all : (indices : List ℕ) (wanted : List Need) → AllByRecursion (λ i. IsIn indices i) (flat_map indices_of wanted) → AllByRecursion (IsAmong indices) wanted
among_all indices [] all = tt
among_all indices (need ∷ wanted) all =
    (front_all (λ i. IsIn indices i) (indices_of need) (flat_map indices_of wanted) all, among_all indices wanted (behind (indices_of need) all))
  where
    behind : (xs : List ℕ) → AllByRecursion (λ i. IsIn indices i) (xs ++ flat_map indices_of wanted) → AllByRecursion (λ i. IsIn indices i) (flat_map indices_of wanted)
    behind [] h = h
    behind (x ∷ xs) h = behind xs h.1

-- what is wanted of an instance's order
wanted_is : (p : Settings) → InRange p → (order : List Entry) (d : Point) (taken : List Up) (r : ReceiverState) → AreSized p order → ReceiverHolds p order d taken r → SeenIn p order r
    → AllByRecursion (IsNeedOf p order r) (wanted_of p r)
wanted_is p range order d taken r sized h seen =
    let longest = nack_laws.longest p (needs p r) p.e in
    let all = each_all (IsNeedOf p order r) (needs p r) (each_need p range order r sized h.plans h.symbols h.rising seen) in
    let A : List Need → Type 0 = λ xs. AllByRecursion (IsNeedOf p order r) xs in
    front_all (IsNeedOf p order r) (wanted_of p r) longest.rest (subst A longest.begins all)

-- A NACK is a plea, of which all counts are what its receiver lacked where its ids name what they were written for.
pub plea_in : (p : Settings) → InRange p → (s : SenderState) (taken : ℕ → List Up) (r : ReceiverState) (now : ℕ) (o : Written) (m : NackMessage) → OrdersHold p s
    → IsMember r.node → r.sequence < 65536 → ((id : ℕ) → r.instance ≡ Some id → id < 65536) → Standing p s taken r → Seen p s r
    → (ticked p r now).1 ≡ Some o → o.message ≡ Nack m → (id : ℕ) → r.instance ≡ Some id
    → GivesPlea p s (record { receiver = r; octets = o.octets; indices = o.indices; nack = m })
plea_in p range s taken r now o m orders member sequence few stands seen sent is id inside = in_one (subst S inside stands) (subst K inside seen)
  where
    W : List Need
    W = wanted_of p r

    asked : List Asked
    asked = map (asked_of p) W

    written : o ≡ writes (nack_message p r W) (flat_map indices_of W)
    written = nack_is p r now o m sent is

    fields : NackMessage
    fields = record {
      source = r.node;
      sequence = r.sequence;
      sender = p.sender;
      instance = instance_id r;
      extensions = [];
      requests = requests_asked asked;
    }

    same_nack : (a b : NackMessage) → Nack a ≡ Nack b → a ≡ b
    same_nack a b e = cc

    m_is : m ≡ fields
    m_is = sym (same_nack fields m (sym (ap (λ (x : Written). x.message) written) ∙ is))

    size : length (asked_octets asked) < 65536
    size = let longest = nack_laws.longest p (needs p r) p.e in let fits = longest.fits in let most = range.e.1 in omega (arith, fits, most)

    indices : List ℕ
    indices = flat_map indices_of W

    indices_is : o.indices ≡ indices
    indices_is = ap (λ (x : Written). x.indices) written

    among : AllByRecursion (IsAmong indices) W
    among = among_all indices W (all_of (λ (i : ℕ). IsIn indices i) indices (λ i has. has))

    nack_id : m.instance ≡ id
    nack_id = ap (λ (x : NackMessage). x.instance) m_is ∙ ap (λ (x : Option ℕ). unwrap_or x 0) inside

    spelled : (order : List Entry) → AllByRecursion (IsNeedOf p order r) W → instance_id r < 65536 → decoded o.octets ≡ Ok (Nack m)
    spelled order all id =
        let requests = are_requests (requests_asked asked) (all_fit asked (asked_all p order r W all)) size in
        let again : decoded (octets_of (Nack fields)) ≡ Ok (Nack fields) = read_again_law (Nack fields) (record {
          source = member;
          sequence = sequence;
          sender = (omega (arith, range.sender.0), omega (arith, range.sender.1));
          instance = id;
          extensions = record { each = tt; most = omega arith };
          requests = requests;
        }) in
        ap decoded (ap (λ (x : Written). x.octets) written) ∙ again ∙ ap (λ (x : NackMessage). Ok (Nack x)) (sym m_is)

    counted : (order : List Entry) (at_id : ℕ) → order ≡ order_of s at_id → instance_id r ≡ at_id → AllByRecursion (IsNeedOf p order r) W → KnowsOf order r.knows
        → IsPlain (record { receiver = r; octets = o.octets; indices = o.indices; nack = m }) → (b : Point)
        → Contains (counted_blocks p (record { receiver = r; octets = o.octets; indices = o.indices; nack = m })) b
        → Counted p s (record { receiver = r; octets = o.octets; indices = o.indices; nack = m }) b
    counted order at_id order_is id_is all knows plain b has =
        let P : NackMessage → Type 0 = λ x. IsIn (map (λ (c : Count). c.of) (flat_map (λ (q : Request). asked_counts (named p r.knows.known q)) x.requests)) b in
        let here = subst P m_is (in_of _ b has) in
        let c = in_map (λ (c : Count). c.of) (flat_map (λ (q : Request). asked_counts (named p r.knows.known q)) (requests_asked asked)) b here in
        let q = in_flat (λ (q : Request). asked_counts (named p r.knows.known q)) (requests_asked asked) c.0 c.1 in
        let given = count_given p r.knows.known q.0 c.0 q.2 in
        let counts = (all_in (AreCounts p order r indices) (requests_asked asked) q.0 (all_counts p order r indices W all among) q.1).counts given.0 in
        let item = all_in (CountsOf p order r indices) q.0.items given.1 counts.1 given.2 in
        let up : item.index ≤ r.knows.known = all_in (λ (i : ℕ). i ≤ r.knows.known) indices item.index (asked_up_to r.knows.known p r knows.farthest knows.flush) item.among in
        let L : List ℕ → Type 0 = λ xs. AllByRecursion (λ i. r.knows.known ≤ i + 32768) xs in
        let low : r.knows.known ≤ item.index + 32768 = all_in (λ (i : ℕ). r.knows.known ≤ i + 32768) indices item.index (subst L indices_is plain) item.among in
        let known_most = knows.most in
        let most : item.index ≤ 4294967294 = omega (arith, up, known_most) in
        let names : named_by p r.knows.known given.1 ≡ Some (position item.index item.block item.wanted) =
        ap (named_by p r.knows.known) item.is ∙ names_own p r.knows.known item.index item.block item.wanted low up most in
        let C : Option Position → Type 0 = λ found. IsIn (map count_of (item_span found)) c.0 in
        let one = subst C names given.3 in
        let b_is : point item.index item.block ≡ b = first_of (record { of = point item.index item.block; lacking = item.wanted }) c.0 one c.2 in
        let R : NackMessage → Type 0 = λ x. IsIn x.requests q.0 in
        let M : ℕ → Type 0 = λ i. Lacks p (order_of s i) r b item.wanted in
        let lack_order : Lacks p (order_of s at_id) r b item.wanted =
        (let A : List Entry → Type 0 = λ xs. Lacks p xs r b item.wanted in let B : Point → Type 0 = λ at. Lacks p order r at item.wanted in subst A order_is (subst B b_is item.lacks)) in
        record {
          request = q.0;
          has = contains_of m.requests q.0 (subst R (sym m_is) q.1);
          among = (
              let N : List ℕ → Type 0 = λ xs. Contains xs b.index in
              let I : ℕ → Type 0 = λ i. Contains indices i in
              subst N (sym indices_is) (subst I (ap (λ (at : Point). at.index) b_is) (contains_of indices item.index item.among))
              );
          inside = inside ∙ ap (λ (n : ℕ). Some n) (sym nack_id);
          lack = item.wanted;
          lacks = (let I : NackMessage → Type 0 = λ x. Lacks p (order_of s x.instance) r b item.wanted in subst I (sym m_is) (subst M (sym id_is) lack_order));
          names = λ k below above. (
              let B : Point → Type 0 = λ at. IsIn (asked_counts (named p k q.0)) (record { of = at; lacking = item.wanted }) in
              let index : item.index ≡ b.index = ap (λ (at : Point). at.index) b_is in
              contains_of (asked_counts (named p k q.0)) (record { of = b; lacking = item.wanted })
              (subst B b_is (gives_count p k q.0 given.1 (position item.index item.block item.wanted) given.0 counts.0 given.2
              (ap (named_by p k) item.is ∙ names_it p k item.index item.block item.wanted (omega (arith, below, index)) (omega (arith, above, index)) most)))
              );
        }
      where
        first_of : (one c : Count) → IsIn (one ∷ []) c → c.of ≡ b → one.of ≡ b
        first_of one c (inl e) is = ap (λ (x : Count). x.of) e ∙ is
        first_of one c (inr h) is = absurd h

    S : Option ℕ → Type 0
    S instance = StandingIn p s taken r instance

    K : Option ℕ → Type 0
    K instance = SeenBy p s r instance

    in_one : StandingIn p s taken r (Some id) → SeenBy p s r (Some id) → GivesPlea p s (record { receiver = r; octets = o.octets; indices = o.indices; nack = m })
    in_one h k =
        let order : List Entry = order_of s id in
        let all = wanted_is p range order (drop_of s id) (taken id) r (orders.sized id) h k in
        let same : instance_id r ≡ id = ap (λ (x : Option ℕ). unwrap_or x 0) inside in
        let F : ℕ → Type 0 = λ n. n < 65536 in
        let L : ℕ → Type 0 = λ i. r.knows.known ≤ length (order_of s i) in
        record {
          read = spelled order all (subst F (sym same) (few id inside));
          within = subst L (sym nack_id) k.knows.within;
          counts = counted order id refl same all k.knows;
        }

-- The same of each receiver: one that is in no instance gives no NACK.
pub plea_gives : (p : Settings) → InRange p → (s : SenderState) (taken : ℕ → List Up) (r : ReceiverState) (now : ℕ) (o : Written) (m : NackMessage) → OrdersHold p s
    → IsMember r.node → r.sequence < 65536 → ((id : ℕ) → r.instance ≡ Some id → id < 65536) → Standing p s taken r → Seen p s r
    → (ticked p r now).1 ≡ Some o → o.message ≡ Nack m → GivesPlea p s (record { receiver = r; octets = o.octets; indices = o.indices; nack = m })
plea_gives p range s taken r now o m orders member sequence few stands seen sent is = by_instance r.instance refl seen
  where
    nothing : (backoff : Option ℕ) → backoff ≡ None → AsksNot (sent_is (elim backoff [
      | Some ends ↦ elim (nat_le ends now) [ true ↦ asks_where_needed p now (record r { knows = record (r.knows) { backoff = None } }) | false ↦ (r, None) ]
      | None ↦ (r, None)
    ]))
    nothing None e o m f g = no_sent o f
    nothing (Some ends) e o m f g = absurd (cc e)

    acks : (at : Position) → AsksNot (Some (writes (ack_message p r at) (at.index ∷ [])))
    acks at o m e is = differ (ap (λ (x : Written). x.message) (same_sent (writes (ack_message p r at) (at.index ∷ [])) o e) ∙ is)
      where
        differ : {a : AckMessage} → Ack a ≡ Nack m → ⊥
        differ e = cc

    due : r.knows.backoff ≡ None → (at : Option Position) → AsksNot (sent_is (elim at [
      | Some at ↦ sends (writes (ack_message p r at) (at.index ∷ [])) (record r { knows = record (r.knows) { due = None } })
      | None ↦ ends_back_off p now r
    ]))
    due idle None = nothing r.knows.backoff idle
    due idle (Some at) = acks at

    by_instance : (instance : Option ℕ) → r.instance ≡ instance → SeenBy p s r instance → GivesPlea p s (record { receiver = r; octets = o.octets; indices = o.indices; nack = m })
    by_instance None e k = absurd (due k r.knows.due o m sent is)
    by_instance (Some id) e k = plea_in p range s taken r now o m orders member sequence few stands seen sent is id e
