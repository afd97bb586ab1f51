-- The window after its last entry, the open stream, went on.
use Rattle.std.proofs.Common.{◌≡◌, ℕ, zero, suc, ◌+◌, ◌-◌, ◌<◌, ◌≤◌, ◌⊎◌, inl, inr, Bool, true, false, refl, sym, ap, ◌∙◌, subst, arith, Option, Some, None, List, [], ◌∷◌, length, map, drop, set}
use Rattle.std.specs.Prelude.{slice_get, slice_set, nat_lt}
use Rattle.std.proofs.lemmas.Bool.{cases_lt, lt-ltb}
use Rattle.std.proofs.lemmas.List.{length-drop, length-map, length-set, drop-set-add, map-set}
use Rattle.norm_base.specs.Settings.{Settings}
use Rattle.fec_plan.specs.Points.{Point, point}
use Rattle.fec_plan.specs.declared.position.Position.{Position}
use Rattle.norm_order.specs.Entries.{Part, Object, Stream, Entry}
use Rattle.norm_order.specs.Shapes.{Shape, shape_of, shapes_of, last_in, last_from}
use Rattle.norm_send_rules.specs.SenderState.{SenderState}
use Rattle.norm_send_rules.specs.InWindow.{last_index}
use Rattle.norm_send_rules.specs.Dropping.{dropped_to}
use Rattle.norm_send_rules.specs.Streaming.{with_last, with_parts}
use Rattle.tx_window.specs.EntryState.{first_of, StandsFor as StandsForEntry}
use Rattle.tx_window.specs.declared.entry.HeldEntry.{HeldEntry}
use Rattle.tx_window.specs.WindowState.{reads, without_info, most_kept, WindowState, Stands, first_block, drop_of, entry_reads}
use Rattle.tx_window.proofs.ListLemmas.{slice_get-drop, set_get}
use Rattle.tx_window.specs.Streams.{followed, given_up, last_or}
use Rattle.tx_window.proofs.KeptLemmas.{chosen, passed_over}

-- ---- the last entry of an order

pub length-with_last : (object : Object) (order : List Entry) → length (with_last object order) ≡ length order
length-with_last object [] = refl
length-with_last object (entry ∷ []) = refl
length-with_last object (entry ∷ next ∷ order) = ap suc (length-with_last object (next ∷ order))

pub last_set : (p : Settings) (object : Object) (order : List Entry) → shapes_of p (with_last object order) ≡ set (shapes_of p order) (length order - 1) (shape_of p object)
last_set p object [] = refl
last_set p object (entry ∷ []) = refl
last_set p object (entry ∷ next ∷ order) =
    ap (λ (xs : List Shape). shape_of p entry.object ∷ xs)
    (last_set p object (next ∷ order) ∙ ap (λ n. set (shapes_of p (next ∷ order)) n (shape_of p object)) (let e : length (next ∷ order) - 1 ≡ length order = omega arith in e))
    ∙ ap (λ n. set (shapes_of p (entry ∷ next ∷ order)) n (shape_of p object)) (let e : suc (length order) ≡ length (entry ∷ next ∷ order) - 1 = omega arith in e)

-- the last one has this object, and the others stay
pub last_there : (object : Object) (order : List Entry) (n : ℕ) (entry : Entry) → slice_get (with_last object order) n ≡ Some entry
    → ((n + 1 ≡ length order) × (entry.object ≡ object)) ⊎ ((n + 1 < length order) × (slice_get order n ≡ Some entry))
last_there object [] n entry is = absurd (cc)
last_there object (x ∷ []) zero entry is = inl (refl, ap (λ (e : Entry). e.object) (let same : entry ≡ record x { object = object } = cc in same))
last_there object (x ∷ []) (suc n) entry is = absurd (cc)
last_there object (x ∷ y ∷ order) zero entry is = inr (omega arith, is)
last_there object (x ∷ y ∷ order) (suc n) entry is = go (last_there object (y ∷ order) n entry is)
  where
    go : ((n + 1 ≡ length (y ∷ order)) × (entry.object ≡ object)) ⊎ ((n + 1 < length (y ∷ order)) × (slice_get (y ∷ order) n ≡ Some entry))
        → ((suc n + 1 ≡ length (x ∷ y ∷ order)) × (entry.object ≡ object)) ⊎ ((suc n + 1 < length (x ∷ y ∷ order)) × (slice_get (y ∷ order) n ≡ Some entry))
    go (inl here) = inl (omega (arith, here.0), here.1)
    go (inr there) = inr (omega (arith, there.0), there.1)

-- the last position, before and after the last shape was replaced
record Replaced (index : ℕ) (found : Option Position) (xs : List Shape) (n : ℕ) (x v : Shape) : Type 0 where
  front : Option Position
  before : last_from index found xs ≡ last_or (last_in (index + n) x) front
  after : last_from index found (set xs n v) ≡ last_or (last_in (index + n) v) front

replaced : (index : ℕ) (found : Option Position) (xs : List Shape) (n : ℕ) (x v : Shape) → n + 1 ≡ length xs → slice_get xs n ≡ Some x → Replaced index found xs n x v
unfolding last_from
replaced index found [] n x v long is = absurd (cc)
replaced index found (y ∷ []) zero x v long is = record {
  front = found;
  before = ap (λ (s : Shape). last_or (last_in index s) found) (let same : y ≡ x = cc in same) ∙ ap (λ i. last_or (last_in i x) found) (let e : index ≡ index + 0 = omega arith in e);
  after = ap (λ i. last_or (last_in i v) found) (let e : index ≡ index + 0 = omega arith in e);
}
replaced index found (y ∷ []) (suc n) x v long is = absurd (omega (arith, long))
replaced index found (y ∷ z ∷ xs) zero x v long is = absurd (omega (arith, long))
replaced index found (y ∷ z ∷ xs) (suc n) x v long is =
    let rest = replaced (index + 1) (last_or (last_in index y) found) (z ∷ xs) n x v (omega (arith, long)) is in
    let at : index + 1 + n ≡ index + suc n = omega arith in
    record {
      front = rest.front;
      before = rest.before ∙ ap (λ i. last_or (last_in i x) rest.front) at;
      after = rest.after ∙ ap (λ i. last_or (last_in i v) rest.front) at;
    }

pub last_now : (index : ℕ) (found : Option Position) (xs : List Shape) (n : ℕ) (x v : Shape) → n + 1 ≡ length xs → slice_get xs n ≡ Some x
    → (last_in (index + n) v ≡ None → last_in (index + n) x ≡ None)
    → last_from index found (set xs n v) ≡ last_or (last_in (index + n) v) (last_from index found xs)
last_now index found xs n x v long is more = go (last_in (index + n) v) refl
  where
    both : Replaced index found xs n x v
    both = replaced index found xs n x v long is

    go : (r : Option Position) → last_in (index + n) v ≡ r → last_from index found (set xs n v) ≡ last_or (last_in (index + n) v) (last_from index found xs)
    go (Some at) e = both.after ∙ ap (λ (r : Option Position). last_or r both.front) e ∙ sym (ap (λ (r : Option Position). last_or r (last_from index found xs)) e)
    go None e =
        both.after ∙ ap (λ (r : Option Position). last_or r both.front) e
        ∙ sym (ap (λ (r : Option Position). last_or r (last_from index found xs)) e ∙ both.before ∙ ap (λ (r : Option Position). last_or r both.front) (more e))

-- ---- the window

-- the state whose last entry is a stream of these parts, behind another drop point
abbrev pub gone_on : List Part → Point → SenderState → SenderState
gone_on parts d s = with_parts parts (dropped_to d s)

-- What is known of the last entry as it went on: the window and the state that it stood for, its entry as it was and as it is, and where
-- the window begins now.
pub record GoesOn (w : WindowState) (s : SenderState) (e now : HeldEntry) (was : Object) (parts : List Part) (d : Point) : Type 0 where
  pub stands : Stands w s
  pub some : 0 < length w.entries
  pub found : slice_get w.entries (length w.entries - 1) ≡ Some e
  pub here : slice_get (shapes_of w.p s.current.order) (length s.current.order - 1) ≡ Some (shape_of w.p was)
  pub is : StandsForEntry (entry_reads w (reads s) (w.dropped + (length w.entries - 1)) (Stream parts)) now
  pub more : last_in (last_index s) (shape_of w.p (Stream parts)) ≡ None → last_in (last_index s) (shape_of w.p was) ≡ None
  pub drop : d ≡ drop_of (given_up now (record w { entries = slice_set w.entries (length w.entries - 1) now }))

abbrev pub gone_window : WindowState → HeldEntry → List Part → WindowState
gone_window w now parts = followed now (shape_of w.p (Stream parts)) (record w { entries = slice_set w.entries (length w.entries - 1) now })

-- the parts of the relation that hold whether entries were dropped or not
record Common (w : WindowState) (s : SenderState) (now : HeldEntry) (parts : List Part) (d : Point) : Type 0 where
  long : length (gone_on parts d s).current.order ≡ length s.current.order
  shapes : map without_info (drop w.forgotten (shapes_of w.p (gone_on parts d s).current.order)) ≡ slice_set w.shapes (length w.shapes - 1) (without_info (shape_of w.p (Stream parts)))
  last : last_from 0 None (shapes_of w.p (gone_on parts d s).current.order) ≡ last_or (last_in (w.dropped + (length (slice_set w.entries (length w.entries - 1) now) - 1)) (shape_of w.p (Stream parts))) w.last

common : (w : WindowState) (s : SenderState) (e now : HeldEntry) (was : Object) (parts : List Part) (d : Point) → GoesOn w s e now was parts d → Common w s now parts d
common w s e now was parts d on = record {
  long = length-with_last (Stream parts) s.current.order;
  shapes =
      ap (λ (xs : List Shape). map without_info (drop w.forgotten xs)) (last_set w.p (Stream parts) s.current.order)
      ∙ ap (λ n. map without_info (drop w.forgotten (set (shapes_of w.p s.current.order) n shape))) (let z : length s.current.order - 1 ≡ w.forgotten + (length w.shapes - 1) = omega (arith, some, stands.kept, shapes_long) in z)
      ∙ ap (map without_info) (drop-set-add w.forgotten (shapes_of w.p s.current.order) (length w.shapes - 1) shape)
      ∙ map-set without_info (drop w.forgotten (shapes_of w.p s.current.order)) (length w.shapes - 1) shape
      ∙ ap (λ (xs : List Shape). set xs (length w.shapes - 1) (without_info shape)) stands.shapes;
  last =
      ap (last_from 0 None) (last_set w.p (Stream parts) s.current.order)
      ∙ last_now 0 None (shapes_of w.p s.current.order) (length s.current.order - 1) (shape_of w.p was) shape (omega (arith, order_long, some)) on.here
      (λ none. ap (λ i. last_in i (shape_of w.p was)) at ∙ on.more (ap (λ i. last_in i shape) (sym at) ∙ none))
      ∙ ap (λ i. last_or (last_in i shape) (last_from 0 None (shapes_of w.p s.current.order)))
      (let z : 0 + (length s.current.order - 1) ≡ w.dropped + (length (slice_set w.entries (length w.entries - 1) now) - 1) =
      omega (arith, stands.next, on.some, length-set w.entries (length w.entries - 1) now) in z)
      ∙ ap (last_or (last_in (w.dropped + (length (slice_set w.entries (length w.entries - 1) now) - 1)) shape)) stands.last;
}
  where
    stands : Stands w s
    stands = on.stands

    shape : Shape
    shape = shape_of w.p (Stream parts)

    some : 0 < length s.current.order
    some = omega (arith, stands.next, on.some)

    order_long : length (shapes_of w.p s.current.order) ≡ length s.current.order
    order_long = length-map s.current.order (λ (x : Entry). shape_of w.p x.object)

    shapes_long : length w.shapes ≡ length s.current.order - w.forgotten
    shapes_long = omega (
      arith,
      ap length stands.shapes,
      length-map (drop w.forgotten (shapes_of w.p s.current.order)) without_info,
      length-drop w.forgotten (shapes_of w.p s.current.order),
      order_long,
    )

    at : 0 + (length s.current.order - 1) ≡ last_index s
    at = omega arith

pub last_alone : (es : List HeldEntry) (n : ℕ) (now : HeldEntry) → n + 1 ≡ length es → drop n (slice_set es n now) ≡ now ∷ []
last_alone [] n now long = absurd (omega (arith, long))
last_alone (x ∷ []) zero now long = refl
last_alone (x ∷ []) (suc n) now long = absurd (omega (arith, long))
last_alone (x ∷ y ∷ es) zero now long = absurd (omega (arith, long))
last_alone (x ∷ y ∷ es) (suc n) now long = last_alone (y ∷ es) n now (omega (arith, long))

nothing_behind : (now k : HeldEntry) (n : ℕ) → slice_get (now ∷ []) (suc n) ≡ Some k → ⊥
nothing_behind now k n e = cc

-- entries before the stream are dropped: it is the first
alone : (w : WindowState) (s : SenderState) (e now : HeldEntry) (was : Object) (parts : List Part) (d : Point) → GoesOn w s e now was parts d → nat_lt 0 (first_of now) ≡ true
    → drop (length (slice_set w.entries (length w.entries - 1) now) - 1) (slice_set w.entries (length w.entries - 1) now) ≡ now ∷ []
alone w s e now was parts d on some =
    ap (λ n. drop (n - 1) (slice_set w.entries (length w.entries - 1) now)) (length-set w.entries (length w.entries - 1) now)
    ∙ last_alone w.entries (length w.entries - 1) now (let z : length w.entries - 1 + 1 ≡ length w.entries = omega (arith, on.some) in z)

-- ---- both cases

entries_on : (w : WindowState) (s : SenderState) (e now : HeldEntry) (was : Object) (parts : List Part) (d : Point) → GoesOn w s e now was parts d
    → (n : ℕ) (entry : Entry) (k : HeldEntry) → slice_get (drop w.dropped (with_last (Stream parts) s.current.order)) n ≡ Some entry
    → slice_get (slice_set w.entries (length w.entries - 1) now) n ≡ Some k → StandsForEntry (entry_reads w (reads s) (w.dropped + n) entry.object) k
entries_on w s e now was parts d on n entry k there at =
    go (last_there (Stream parts) s.current.order (w.dropped + n) entry (sym (slice_get-drop w.dropped (with_last (Stream parts) s.current.order) n) ∙ there))
    (set_get w.entries (length w.entries - 1) n now k at)
  where
    next : length s.current.order ≡ w.dropped + length w.entries
    next = on.stands.next

    go : ((w.dropped + n + 1 ≡ length s.current.order) × (entry.object ≡ Stream parts)) ⊎ ((w.dropped + n + 1 < length s.current.order) × (slice_get s.current.order (w.dropped + n) ≡ Some entry))
        → ((n ≡ length w.entries - 1) × (k ≡ now)) ⊎ ((n ≡ length w.entries - 1 → ⊥) × (slice_get w.entries n ≡ Some k)) → StandsForEntry (entry_reads w (reads s) (w.dropped + n) entry.object) k
    go (inl last) (inl here) =
        subst (λ (o : Object). StandsForEntry (entry_reads w (reads s) (w.dropped + n) o) k) (sym last.1)
        (subst (λ (x : HeldEntry). StandsForEntry (entry_reads w (reads s) (w.dropped + n) (Stream parts)) x) (sym here.1)
        (subst (λ m. StandsForEntry (entry_reads w (reads s) (w.dropped + m) (Stream parts)) now) (sym here.0) on.is))
    go (inl last) (inr other) = absurd (other.0 (omega (arith, last.0, next, on.some)))
    go (inr before) (inl here) = absurd (omega (arith, before.0, here.0, next, on.some))
    go (inr before) (inr other) = on.stands.entries n entry k (slice_get-drop w.dropped s.current.order n ∙ before.1) other.1

pub stands_gone : (w : WindowState) (s : SenderState) (e now : HeldEntry) (was : Object) (parts : List Part) (d : Point) → GoesOn w s e now was parts d
    → Stands (gone_window w now parts) (gone_on parts d s)
stands_gone w s e now was parts d on = go (nat_lt 0 (first_of now)) refl
  where
    stands : Stands w s
    stands = on.stands

    parts-of : Common w s now parts d
    parts-of = common w s e now was parts d on

    inner : WindowState
    inner = record w {
      entries = slice_set w.entries (length w.entries - 1) now;
      shapes = slice_set w.shapes (length w.shapes - 1) (without_info (shape_of w.p (Stream parts)));
      last = last_or (last_in (w.dropped + (length (slice_set w.entries (length w.entries - 1) now) - 1)) (shape_of w.p (Stream parts))) w.last;
    }

    set_long : length (slice_set w.entries (length w.entries - 1) now) ≡ length w.entries
    set_long = length-set w.entries (length w.entries - 1) now

    kept : w.forgotten ≤ length (with_last (Stream parts) s.current.order) - most_kept
    kept = omega (arith, stands.kept, parts-of.long)

    sent_before : (at : Position) → Rattle.norm_order.specs.Sets.is_member Rattle.fec_plan.specs.Points.position_before at s.sent ≡ true → at.index < length (with_last (Stream parts) s.current.order)
    sent_before at there = omega (arith, stands.sent_before at there, parts-of.long)

    infos_before : (index : ℕ) → Rattle.norm_order.specs.Sets.is_member nat_lt index s.sent_infos ≡ true → index < length (with_last (Stream parts) s.current.order)
    infos_before index there = omega (arith, stands.infos_before index there, parts-of.long)

    go : (b : Bool) → nat_lt 0 (first_of now) ≡ b → Stands (gone_window w now parts) (gone_on parts d s)
    go false less = subst (λ (v : WindowState). Stands v (gone_on parts d s)) (sym (passed_over (nat_lt 0 (first_of now)) _ inner less)) (record {
      dropped = on.drop ∙ ap drop_of (passed_over (nat_lt 0 (first_of now)) _ (record w { entries = slice_set w.entries (length w.entries - 1) now }) less);
      next = omega (arith, parts-of.long, stands.next, set_long);
      entries = entries_on w s e now was parts d on;
      whole = λ n k at. whole n k (set_get w.entries (length w.entries - 1) (suc n) now k at);
      opened = λ ps is. omega (arith, set_long, on.some);
      kept = kept;
      shapes = parts-of.shapes;
      last = parts-of.last;
      past = stands.past;
      sent_before = sent_before;
      infos_before = infos_before;
    })
      where
        none : (n : ℕ) → nat_lt 0 n ≡ false → n ≡ 0
        none n is = by (cases_lt 0 n)
          where
            clash : true ≡ false → ⊥
            clash e = cc

            by : (0 < n) ⊎ (n ≤ 0) → n ≡ 0
            by (inl lt) = absurd (clash (sym (lt-ltb 0 n lt) ∙ is))
            by (inr le) = omega (arith, le)

        whole : (n : ℕ) (k : HeldEntry) → ((suc n ≡ length w.entries - 1) × (k ≡ now)) ⊎ ((suc n ≡ length w.entries - 1 → ⊥) × (slice_get w.entries (suc n) ≡ Some k)) → first_of k ≡ 0
        whole n k (inl here) = ap first_of here.1 ∙ none (first_of now) less
        whole n k (inr other) = stands.whole n k other.1
    go true more = subst (λ (v : WindowState). Stands v (gone_on parts d s)) (sym (chosen (nat_lt 0 (first_of now)) _ inner more ∙ ap (λ (es : List HeldEntry). record inner { dropped = w.dropped + (length inner.entries - 1); entries = es }) only)) (record {
      dropped = on.drop
          ∙ ap drop_of (chosen (nat_lt 0 (first_of now)) _ (record w { entries = slice_set w.entries (length w.entries - 1) now }) more)
          ∙ ap (λ (es : List HeldEntry). point (w.dropped + (length inner.entries - 1)) (first_block es)) only;
      next = omega (arith, parts-of.long, stands.next, set_long, on.some);
      entries = λ n entry k there at. entries n entry k there at;
      whole = λ n k at. absurd (nothing_behind now k n at);
      opened = λ ps is. omega arith;
      kept = kept;
      shapes = parts-of.shapes;
      last = parts-of.last;
      past = stands.past;
      sent_before = sent_before;
      infos_before = infos_before;
    })
      where
        only : drop (length inner.entries - 1) inner.entries ≡ now ∷ []
        only = alone w s e now was parts d on more

        entries : (n : ℕ) (entry : Entry) (k : HeldEntry) → slice_get (drop (w.dropped + (length inner.entries - 1)) (with_last (Stream parts) s.current.order)) n ≡ Some entry → slice_get (now ∷ []) n ≡ Some k
            → StandsForEntry (entry_reads w (reads s) (w.dropped + (length inner.entries - 1) + n) entry.object) k
        entries zero entry k there at =
            subst (λ i. StandsForEntry (entry_reads w (reads s) i entry.object) k) (let z : w.dropped + (length w.entries - 1) ≡ w.dropped + (length inner.entries - 1) + 0 = omega (arith, set_long) in z)
            (entries_on w s e now was parts d on (length w.entries - 1) entry k
            (slice_get-drop w.dropped (with_last (Stream parts) s.current.order) (length w.entries - 1)
            ∙ ap (slice_get (with_last (Stream parts) s.current.order)) (let z : w.dropped + (length w.entries - 1) ≡ w.dropped + (length inner.entries - 1) + 0 = omega (arith, set_long) in z)
            ∙ sym (slice_get-drop (w.dropped + (length inner.entries - 1)) (with_last (Stream parts) s.current.order) 0) ∙ there)
            (sym (slice_get-drop (length inner.entries - 1) inner.entries 0 ∙ ap (slice_get inner.entries) (let z : length inner.entries - 1 + 0 ≡ length w.entries - 1 = omega (arith, set_long) in z))
            ∙ ap (λ (es : List HeldEntry). slice_get es 0) only ∙ at))
        entries (suc n) entry k there at = absurd (nothing_behind now k n at)
