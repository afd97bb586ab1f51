-- For which states a window stands as it begins, and after what it does.
use Rattle.std.proofs.Common.{◌≡◌, ℕ, zero, suc, ◌+◌, ◌-◌, ◌<◌, ◌≤◌, ◌⊎◌, inl, inr, Bool, true, false, refl, sym, ap, ◌∙◌, subst, arith, Option, Some, None, List, [], ◌∷◌, ◌++◌, length, length-append, map, drop}
use Rattle.std.specs.Prelude.{slice_get, slice_set, nat_lt, not, ◌||◌, ◌&&◌, ◌==◌}
use Rattle.std.specs.List.{list_all}
use Rattle.std.proofs.lemmas.Bool.{cases_lt, lt-ltb}
use Rattle.std.proofs.lemmas.List.{length-drop, length-map, length-set, drop-drop, drop-append-le, map-append}
use Rattle.std.proofs.lemmas.Option.{slice_get_within}
use Rattle.norm_base.specs.Settings.{Settings}
use Rattle.norm_base.specs.Members.{receivers_of}
use Rattle.norm_base.specs.declared.node.Origin.{Origin}
use Rattle.fec_plan.specs.Points.{point, position, position_before, reached_by}
use Rattle.fec_plan.specs.declared.position.Position.{Position}
use Rattle.norm_order.specs.Entries.{Part, Object, Entry}
use Rattle.norm_order.specs.Sets.{is_member, with_member}
use Rattle.norm_order.specs.Shapes.{Shape, shape_of, shapes_of, last_in, last_from}
use Rattle.norm_send_rules.specs.SenderState.{SenderState, Listing, sender_opening}
use Rattle.norm_send_rules.specs.InWindow.{next_index}
use Rattle.norm_send_rules.specs.Dropping.{dropped_to}
use Rattle.norm_send_rules.specs.Room.{drop_after}
use Rattle.norm_send_rules.specs.Enqueuing.{with_entry}
use Rattle.norm_send_rules.specs.Restarting.{begun_anew}
use Rattle.norm_send_rules.specs.Sending.{noted}
use Rattle.norm_send_rules.specs.Watermarks.{is_past, members}
use Rattle.norm_send_rules.specs.declared.want.Want.TheVariants.{Info, Symbol}
use Rattle.tx_object.specs.Held.{HeldObject, octets_in, octets_of}
use Rattle.tx_object.specs.Placed.{IsPlaced, object_in}
use Rattle.tx_object.proofs.SourcesLemmas.{get_front, get_back}
use Rattle.tx_window.specs.EntryState.{EntryReads, first_of, StandsFor as StandsForEntry}
use Rattle.tx_window.specs.declared.entry.HeldEntry.{HeldEntry}
use Rattle.tx_window.specs.declared.entry.HeldEntry.TheVariants as held
use Rattle.tx_window.proofs.EntryOthers.{others_stay}
use Rattle.tx_window.specs.WindowState.{Filling, reads, without_info, most_kept, WindowState, Stands, StandsFor, first_block, open_of, entry_reads}
use Rattle.tx_window.proofs.ListLemmas.{slice_get-drop, map_drop, set_get}
use Rattle.norm_order.proofs.SetLemmas.{others_in, positions, numbers}
use Rattle.tx_window.specs.Streams.{last_or}
use Rattle.tx_window.proofs.KeptLemmas.{dropped_is}

-- ---- a window as it begins

-- a window of no entries
abbrev pub empty_window : Settings → List ℕ → WindowState
empty_window p ring = record { p = p; ring = ring; dropped = 0; entries = []; forgotten = 0; shapes = []; filling = None; last = None; past = None }

none_past : (at : Position) (nodes : List ℕ) → 0 < length nodes
    → list_all (is_past at) (map (λ node. record { node = node; past = None }) nodes) ≡ false
none_past at [] some = absurd (omega arith)
none_past at (n ∷ ns) some = refl

some_receivers : (p : Settings) (n : ℕ) → 1 ≤ n → 0 < length (receivers_of p n)
some_receivers p zero some = absurd (omega arith)
some_receivers p (suc i) some = omega (arith, length-append (receivers_of p i) ((p.sender + 1 + i) ∷ []))

pub begins : (p : Settings) (ring : List ℕ) → 1 ≤ p.receivers → (instance : ℕ) → Stands (empty_window p ring) (sender_opening p instance)
unfolding last_from is_member
begins p ring some instance = record {
  dropped = refl;
  next = refl;
  entries = λ n entry e there here. absurd (cc);
  whole = λ n e there. absurd (cc);
  opened = λ parts is. absurd (cc);
  kept = omega arith;
  shapes = refl;
  last = refl;
  past = λ at. none_past at (receivers_of p p.receivers) (some_receivers p p.receivers some);
  sent_before = λ at there. absurd (cc);
  infos_before = λ index there. absurd (cc);
}

-- a window stands for no state without members
some_listed : (w : WindowState) (s : SenderState) → Stands w s → 0 < length s.listings
some_listed w s stands = go s.listings w.past stands.past
  where
    never : (b : Bool) → true ≡ b → b ≡ false → ⊥
    never b e f = cc

    beyond : (q : Position) → reached_by (Some q) (position (q.index + 1) 0 0) ≡ false
    beyond q = ap not (ap (λ b. b || (q.index == q.index + 1 && nat_lt q.block 0) || (q.index == q.index + 1 && q.block == 0 && nat_lt q.symbol 0)) (lt-ltb q.index (q.index + 1) (omega arith)))

    go : (ls : List Listing) (r : Option Position) → ((at : Position) → list_all (is_past at) ls ≡ reached_by r at) → 0 < length ls
    go (l ∷ ls) r all = omega arith
    go [] r all = by r all
      where
        by : (r : Option Position) → ((at : Position) → true ≡ reached_by r at) → 0 < 0
        by None all = absurd (never (reached_by None (position 0 0 0)) (all (position 0 0 0)) refl)
        by (Some q) all = absurd (never (reached_by (Some q) (position (q.index + 1) 0 0)) (all (position (q.index + 1) 0 0)) (beyond q))

-- as another instance begins
pub begins_anew : (w : WindowState) (s : SenderState) (id : ℕ) → Stands w s → Stands (empty_window w.p w.ring) (begun_anew id s)
unfolding last_from is_member
begins_anew w s id stands = record {
  dropped = refl;
  next = refl;
  entries = λ n entry e there here. absurd (cc);
  whole = λ n e there. absurd (cc);
  opened = λ parts is. absurd (cc);
  kept = omega arith;
  shapes = refl;
  last = refl;
  past = λ at. none_past at (members s) (omega (arith, some_listed w s stands, length-map s.listings (λ (l : Listing). l.node)));
  sent_before = λ at there. absurd (cc);
  infos_before = λ index there. absurd (cc);
}

-- ---- what is being filled is no part of the state

-- an object whose octets lie in another ring as they lay
abbrev pub IsMoved : List ℕ → List ℕ → Settings → HeldObject → Type 0
IsMoved ring new p h = IsPlaced new p h × (octets_in new h ≡ octets_in ring h)

moved : (r : EntryReads) (new : List ℕ) (e : HeldEntry) → ((h : HeldObject) → e ≡ held.Object h → IsMoved r.ring new r.p h) → StandsForEntry r e → StandsForEntry (record r { ring = new }) e
moved r new (held.Object h) lies is = record {
  placed = (lies h refl).0;
  object = is.object ∙ ap (λ (xs : List ℕ). Rattle.norm_order.specs.Entries.Whole h.kind h.info (Rattle.std.specs.Prelude.take (octets_of h.cut) xs)) (sym (lies h refl).1);
  symbols = is.symbols;
  info = is.info;
}
moved r new (held.Stream stream) lies is = record { parts = is.parts; object = is.object; knows = is.knows }

pub stands_filling : (w : WindowState) (s : SenderState) (new : List ℕ) (f : Option Filling) → ((n : ℕ) (h : HeldObject) → slice_get w.entries n ≡ Some (held.Object h) → IsMoved w.ring new w.p h)
    → Stands w s → Stands (record w { ring = new; filling = f }) s
stands_filling w s new f lies stands = record {
  dropped = stands.dropped;
  next = stands.next;
  entries = λ n entry e there here. moved (entry_reads w (reads s) (w.dropped + n) entry.object) new e (λ h is. lies n h (here ∙ ap Some is)) (stands.entries n entry e there here);
  whole = stands.whole;
  opened = stands.opened;
  kept = stands.kept;
  shapes = stands.shapes;
  last = stands.last;
  past = stands.past;
  sent_before = stands.sent_before;
  infos_before = stands.infos_before;
}

-- ---- some were dropped

first_dropped : (n : ℕ) (es : List HeldEntry) → ((e : HeldEntry) → slice_get es n ≡ Some e → first_of e ≡ 0) → first_block (drop n es) ≡ 0
first_dropped zero [] whole = refl
first_dropped zero (e ∷ es) whole = whole e refl
first_dropped (suc n) [] whole = refl
first_dropped (suc n) (e ∷ es) whole = first_dropped n es whole

pub dropped_point : (w : WindowState) (s : SenderState) (n : ℕ) → Stands w s → drop_after s.current.drop n ≡ point (w.dropped + n) (first_block (drop n w.entries))
dropped_point w s zero stands = stands.dropped ∙ ap (λ i. point i (first_block w.entries)) (let e : w.dropped ≡ w.dropped + 0 = omega arith in e)
dropped_point w s (suc n) stands =
    ap (λ i. point (i + suc n) 0) (dropped_is w s stands) ∙ ap (point (w.dropped + suc n)) (sym (first_dropped (suc n) w.entries (λ e is. stands.whole n e is)))

pub stands_dropped : (w : WindowState) (s : SenderState) (n : ℕ) (f : Option Filling) → n ≤ length w.entries → ((parts : List Part) → open_of s.current.order ≡ Some parts → ⊥) → Stands w s
    → Stands (record w { dropped = w.dropped + n; entries = drop n w.entries; filling = f }) (dropped_to (drop_after s.current.drop n) s)
stands_dropped w s n f le none stands = record {
  dropped = dropped_point w s n stands;
  next = omega (arith, stands.next, length-drop n w.entries, le);
  entries = λ k entry e there here.
      let at : slice_get (drop w.dropped s.current.order) (n + k) ≡ Some entry =
      slice_get-drop w.dropped s.current.order (n + k) ∙ ap (slice_get s.current.order) (let same : w.dropped + (n + k) ≡ w.dropped + n + k = omega arith in same)
      ∙ sym (slice_get-drop (w.dropped + n) s.current.order k) ∙ there in
      subst (λ i. StandsForEntry (entry_reads w (reads s) i entry.object) e) (let same : w.dropped + (n + k) ≡ w.dropped + n + k = omega arith in same)
      (stands.entries (n + k) entry e at (sym (slice_get-drop n w.entries k) ∙ here));
  whole = λ k e here. stands.whole (n + k) e (ap (slice_get w.entries) (let same : suc (n + k) ≡ n + suc k = omega arith in same) ∙ sym (slice_get-drop n w.entries (suc k)) ∙ here);
  opened = λ parts is. absurd (none parts is);
  kept = stands.kept;
  shapes = stands.shapes;
  last = stands.last;
  past = stands.past;
  sent_before = stands.sent_before;
  infos_before = stands.infos_before;
}

-- ---- one joined

pub last_append : (index : ℕ) (found : Option Position) (shapes : List Shape) (shape : Shape)
    → last_from index found (shapes ++ shape ∷ []) ≡ last_or (last_in (index + length shapes) shape) (last_from index found shapes)
unfolding last_from
last_append index found [] shape = ap (λ i. last_or (last_in i shape) found) (let e : index ≡ index + 0 = omega arith in e)
last_append index found (x ∷ xs) shape =
    last_append (index + 1) (last_or (last_in index x) found) xs shape
    ∙ ap (λ i. last_or (last_in i shape) (last_from (index + 1) (last_or (last_in index x) found) xs)) (let e : index + 1 + length xs ≡ index + length (x ∷ xs) = omega arith in e)

first_more : (es : List HeldEntry) (e : HeldEntry) → first_of e ≡ 0 → first_block (es ++ e ∷ []) ≡ first_block es
first_more [] e is = is
first_more (x ∷ es) e is = refl

abbrev pub joined_window : WindowState → HeldEntry → ℕ → Shape → Option Position → Option Filling → WindowState
joined_window w e forgotten shape last f = record w {
  entries = w.entries ++ e ∷ [];
  forgotten = forgotten;
  shapes = drop (forgotten - w.forgotten) (w.shapes ++ shape ∷ []);
  last = last;
  filling = f;
}

-- so many are forgotten as one more joins
abbrev pub IsCounted : ℕ → ℕ → ℕ → Type 0
IsCounted old new next = (new ≡ old) ⊎ ((new ≡ old + 1) × (old + most_kept ≤ next))

pub stands_joined : (w : WindowState) (s : SenderState) (by : Origin) (object : Object) (e : HeldEntry) (forgotten : ℕ) (shape : Shape) (last : Option Position) (f : Option Filling)
    → IsCounted w.forgotten forgotten (next_index s) → without_info (shape_of w.p object) ≡ shape → StandsForEntry (entry_reads w (reads s) (next_index s) object) e → first_of e ≡ 0
    → last ≡ last_or (last_in (next_index s) (shape_of w.p object)) w.last → Stands w s
    → Stands (joined_window w e forgotten shape last f) (with_entry (record { by = by; object = object }) s)
stands_joined w s by object e forgotten shape last f counted shape-is here first last-is stands = record {
  dropped = stands.dropped ∙ ap (point w.dropped) (sym (first_more w.entries e first));
  next = omega (arith, stands.next, long, length-append w.entries (e ∷ []));
  entries = λ n x k there at. known n x k there at (cases_lt n (length w.entries));
  whole = λ n k at. whole n k at (cases_lt (suc n) (length w.entries));
  opened = λ parts is. omega (arith, length-append w.entries (e ∷ []));
  kept = still counted;
  shapes = shapes-joined;
  last =
      ap (last_from 0 None) (map-append (λ (x : Entry). shape_of w.p x.object) s.current.order (entry ∷ []))
      ∙ last_append 0 None (shapes_of w.p s.current.order) (shape_of w.p object)
      ∙ ap (λ i. last_or (last_in i (shape_of w.p object)) (last_from 0 None (shapes_of w.p s.current.order)))
      (let same : 0 + length (shapes_of w.p s.current.order) ≡ next_index s = omega (arith, length-map s.current.order (λ (x : Entry). shape_of w.p x.object)) in same)
      ∙ ap (last_or (last_in (next_index s) (shape_of w.p object))) stands.last
      ∙ sym last-is;
  past = stands.past;
  sent_before = λ at there. omega (arith, stands.sent_before at there, long);
  infos_before = λ index there. omega (arith, stands.infos_before index there, long);
}
  where
    entry : Entry
    entry = record { by = by; object = object }

    t : SenderState
    t = with_entry (record { by = by; object = object }) s

    long : length t.current.order ≡ next_index s + 1
    long = length-append s.current.order (entry ∷ [])

    split : drop w.dropped t.current.order ≡ drop w.dropped s.current.order ++ entry ∷ []
    split = drop-append-le w.dropped s.current.order (entry ∷ []) (omega (arith, stands.next))

    behind : length (drop w.dropped s.current.order) ≡ length w.entries
    behind = omega (arith, stands.next, length-drop w.dropped s.current.order)

    same_entry : (a b : Entry) → Some a ≡ Some b → a ≡ b
    same_entry a b g = cc

    same_held : (a b : HeldEntry) → Some a ≡ Some b → a ≡ b
    same_held a b g = cc

    -- the one that joined
    is_new : (n : ℕ) (k : HeldEntry) → slice_get (w.entries ++ e ∷ []) n ≡ Some k → length w.entries ≤ n → (n ≡ length w.entries) × (e ≡ k)
    is_new n k at le =
        let within = slice_get_within (w.entries ++ e ∷ []) n k at in
        let n-is : n ≡ length w.entries = omega (arith, within, le, length-append w.entries (e ∷ [])) in
        (n-is, same_held e k (ap (slice_get (e ∷ [])) (let z : 0 ≡ n - length w.entries = omega (arith, n-is) in z) ∙ sym (get_back w.entries (e ∷ []) n le) ∙ at))

    known : (n : ℕ) (x : Entry) (k : HeldEntry) → slice_get (drop w.dropped t.current.order) n ≡ Some x → slice_get (w.entries ++ e ∷ []) n ≡ Some k
        → (n < length w.entries) ⊎ (length w.entries ≤ n) → StandsForEntry (entry_reads w (reads s) (w.dropped + n) x.object) k
    known n x k there at (inl lt) =
        stands.entries n x k (sym (get_front (drop w.dropped s.current.order) (entry ∷ []) n (omega (arith, lt, behind))) ∙ ap (λ xs. slice_get xs n) (sym split) ∙ there)
        (sym (get_front w.entries (e ∷ []) n lt) ∙ at)
    known n x k there at (inr le) =
        let is = is_new n k at le in
        let x-is : entry ≡ x = same_entry entry x (ap (slice_get (entry ∷ [])) (let z : 0 ≡ n - length (drop w.dropped s.current.order) = omega (arith, is.0, behind) in z)
        ∙ sym (get_back (drop w.dropped s.current.order) (entry ∷ []) n (omega (arith, le, behind))) ∙ ap (λ xs. slice_get xs n) (sym split) ∙ there) in
        subst (λ (y : Entry). StandsForEntry (entry_reads w (reads s) (w.dropped + n) y.object) k) x-is
        (subst (λ (y : HeldEntry). StandsForEntry (entry_reads w (reads s) (w.dropped + n) object) y) is.1
        (subst (λ i. StandsForEntry (entry_reads w (reads s) i object) e) (let z : next_index s ≡ w.dropped + n = omega (arith, is.0, stands.next) in z) here))

    whole : (n : ℕ) (k : HeldEntry) → slice_get (w.entries ++ e ∷ []) (suc n) ≡ Some k → (suc n < length w.entries) ⊎ (length w.entries ≤ suc n) → first_of k ≡ 0
    whole n k at (inl lt) = stands.whole n k (sym (get_front w.entries (e ∷ []) (suc n) lt) ∙ at)
    whole n k at (inr le) = ap first_of (sym (is_new (suc n) k at le).1) ∙ first

    still : IsCounted w.forgotten forgotten (next_index s) → forgotten ≤ length t.current.order - most_kept
    still (inl same) = omega (arith, same, stands.kept, long)
    still (inr more) = omega (arith, more, long)

    at_least : IsCounted w.forgotten forgotten (next_index s) → w.forgotten ≤ forgotten
    at_least (inl same) = omega (arith, same)
    at_least (inr more) = omega (arith, more)

    shapes-before : map without_info (drop w.forgotten (shapes_of w.p t.current.order)) ≡ w.shapes ++ shape ∷ []
    shapes-before =
        ap (λ (xs : List Shape). map without_info (drop w.forgotten xs)) (map-append (λ (x : Entry). shape_of w.p x.object) s.current.order (entry ∷ []))
        ∙ ap (map without_info) (drop-append-le w.forgotten (shapes_of w.p s.current.order) (shape_of w.p object ∷ [])
        (omega (arith, stands.kept, length-map s.current.order (λ (x : Entry). shape_of w.p x.object))))
        ∙ map-append without_info (drop w.forgotten (shapes_of w.p s.current.order)) (shape_of w.p object ∷ [])
        ∙ ap (λ xs. xs ++ without_info (shape_of w.p object) ∷ []) stands.shapes
        ∙ ap (λ x. w.shapes ++ x ∷ []) shape-is

    shapes-joined : map without_info (drop forgotten (shapes_of w.p t.current.order)) ≡ drop (forgotten - w.forgotten) (w.shapes ++ shape ∷ [])
    shapes-joined =
        ap (λ n. map without_info (drop n (shapes_of w.p t.current.order))) (let z : forgotten ≡ w.forgotten + (forgotten - w.forgotten) = omega (arith, at_least counted) in z)
        ∙ ap (map without_info) (sym (drop-drop (forgotten - w.forgotten) w.forgotten (shapes_of w.p t.current.order)))
        ∙ map_drop without_info (forgotten - w.forgotten) (drop w.forgotten (shapes_of w.p t.current.order))
        ∙ ap (drop (forgotten - w.forgotten)) shapes-before

-- ---- something was sent

-- one entry in place of another that lacks the same front
pub stands_set : (w : WindowState) (s t : SenderState) (i : ℕ) (e k : HeldEntry) → slice_get w.entries i ≡ Some e → first_of k ≡ first_of e
    → t.current ≡ s.current → ((at : Position) → (reads t).past at ≡ (reads s).past at)
    → ((at : Position) → is_member position_before at t.sent ≡ true → at.index < next_index s)
    → ((index : ℕ) → is_member nat_lt index t.sent_infos ≡ true → index < next_index s)
    → ((object : Object) → StandsForEntry (entry_reads w (reads s) (w.dropped + i) object) e → StandsForEntry (entry_reads w (reads t) (w.dropped + i) object) k)
    → ((n : ℕ) (object : Object) (x : HeldEntry) → (n ≡ i → ⊥) → StandsForEntry (entry_reads w (reads s) (w.dropped + n) object) x → StandsForEntry (entry_reads w (reads t) (w.dropped + n) object) x)
    → Stands w s → Stands (record w { entries = slice_set w.entries i k }) t
stands_set w s t i e k found first same past sent_before infos_before here others stands = record {
  dropped = ap (λ (c : Rattle.norm_send_rules.specs.SenderState.Instance). c.drop) same ∙ stands.dropped ∙ ap (point w.dropped) (sym (first_set i w.entries found));
  next = ap (λ (c : Rattle.norm_send_rules.specs.SenderState.Instance). length c.order) same ∙ stands.next ∙ ap (λ n. w.dropped + n) (sym (length-set w.entries i k));
  entries = λ n entry x there at. known n entry x (subst (λ (c : Rattle.norm_send_rules.specs.SenderState.Instance). slice_get (drop w.dropped c.order) n ≡ Some entry) same there) (set_get w.entries i n k x at);
  whole = λ n x at. whole n x (set_get w.entries i (suc n) k x at);
  opened = λ parts is. omega (
    arith,
    length-set w.entries i k,
    stands.opened parts (subst (λ (c : Rattle.norm_send_rules.specs.SenderState.Instance). open_of c.order ≡ Some parts) same is),
  );
  kept = subst (λ (c : Rattle.norm_send_rules.specs.SenderState.Instance). w.forgotten ≤ length c.order - most_kept) (sym same) stands.kept;
  shapes = ap (λ (c : Rattle.norm_send_rules.specs.SenderState.Instance). map without_info (drop w.forgotten (shapes_of w.p c.order))) same ∙ stands.shapes;
  last = ap (λ (c : Rattle.norm_send_rules.specs.SenderState.Instance). last_from 0 None (shapes_of w.p c.order)) same ∙ stands.last;
  past = λ at. past at ∙ stands.past at;
  sent_before = λ at there. omega (arith, sent_before at there, ap (λ (c : Rattle.norm_send_rules.specs.SenderState.Instance). length c.order) same);
  infos_before = λ index there. omega (arith, infos_before index there, ap (λ (c : Rattle.norm_send_rules.specs.SenderState.Instance). length c.order) same);
}
  where
    first_set : (n : ℕ) (es : List HeldEntry) → slice_get es n ≡ Some e → first_block (slice_set es n k) ≡ first_block es
    first_set n [] is = absurd (cc)
    first_set zero (x ∷ es) is = first ∙ ap first_of (let z : e ≡ x = cc in z)
    first_set (suc n) (x ∷ es) is = refl

    known : (n : ℕ) (entry : Entry) (x : HeldEntry) → slice_get (drop w.dropped s.current.order) n ≡ Some entry → ((n ≡ i) × (x ≡ k)) ⊎ ((n ≡ i → ⊥) × (slice_get w.entries n ≡ Some x))
        → StandsForEntry (entry_reads w (reads t) (w.dropped + n) entry.object) x
    known n entry x there (inl is) =
        subst (λ m. StandsForEntry (entry_reads w (reads t) (w.dropped + m) entry.object) x) (sym is.0)
        (subst (λ (y : HeldEntry). StandsForEntry (entry_reads w (reads t) (w.dropped + i) entry.object) y) (sym is.1)
        (here entry.object (stands.entries i entry e (ap (slice_get (drop w.dropped s.current.order)) (sym is.0) ∙ there) found)))
    known n entry x there (inr other) = others n entry.object x other.0 (stands.entries n entry x there other.1)

    whole : (n : ℕ) (x : HeldEntry) → ((suc n ≡ i) × (x ≡ k)) ⊎ ((suc n ≡ i → ⊥) × (slice_get w.entries (suc n) ≡ Some x)) → first_of x ≡ 0
    whole n x (inl is) = ap first_of is.1 ∙ first ∙ stands.whole n e (ap (slice_get w.entries) is.0 ∙ found)
    whole n x (inr other) = stands.whole n x other.1

cases_same : (a b : ℕ) → (a ≡ b) ⊎ (a ≡ b → ⊥)
cases_same a b = elim (cases_lt a b) [
  | inl lt ↦ inr (λ e. omega arith)
  | inr le ↦ elim (cases_lt b a) [ inl gt ↦ inr (λ e. omega arith) | inr ge ↦ inl (omega arith) ]
]

pub stands_sent : (w : WindowState) (s : SenderState) (i : ℕ) (e k : HeldEntry) (at : Position) → slice_get w.entries i ≡ Some e → first_of k ≡ first_of e → at.index ≡ w.dropped + i
    → ((r : EntryReads) → StandsForEntry r e → StandsForEntry (record r { sent = with_member position_before (position r.index at.block at.symbol) r.sent }) k)
    → Stands w s → Stands (record w { entries = slice_set w.entries i k }) (noted (Symbol at) s)
stands_sent w s i e k at found first index marks stands =
    stands_set w s (noted (Symbol at) s) i e k found first refl (λ q. refl) before stands.infos_before
    (λ object is. subst (λ n. StandsForEntry (record (entry_reads w (reads s) (w.dropped + i) object) { sent = with_member position_before (position n at.block at.symbol) s.sent }) k) (sym index)
    (marks (entry_reads w (reads s) (w.dropped + i) object) is))
    (λ n object x apart is. others_stay.symbol (entry_reads w (reads s) (w.dropped + n) object) x at is (λ same. apart (omega (arith, same, index)))) stands
  where
    within : at.index < next_index s
    within = omega (arith, slice_get_within w.entries i e found, stands.next, index)

    before : (q : Position) → is_member position_before q (with_member position_before at s.sent) ≡ true → q.index < next_index s
    before q there = elim (cases_lt q.index (next_index s)) [
      | inl less ↦ less
      | inr past ↦ stands.sent_before q (sym (others_in position_before q at s.sent positions (λ same. far q same past)) ∙ there)
    ]
      where
        far : (q : Position) → q ≡ at → next_index s ≤ q.index → ⊥
        far q same le = omega (arith, ap (λ (y : Position). y.index) same, le, within)

pub stands_info : (w : WindowState) (s : SenderState) (i : ℕ) (e k : HeldEntry) (index : ℕ) → slice_get w.entries i ≡ Some e → first_of k ≡ first_of e → index ≡ w.dropped + i
    → ((r : EntryReads) → StandsForEntry r e → StandsForEntry (record r { infos = with_member nat_lt r.index r.infos }) k)
    → Stands w s → Stands (record w { entries = slice_set w.entries i k }) (noted (Info index) s)
stands_info w s i e k index found first index-is marks stands =
    stands_set w s (noted (Info index) s) i e k found first refl (λ q. refl) stands.sent_before before
    (λ object is. subst (λ n. StandsForEntry (record (entry_reads w (reads s) (w.dropped + i) object) { infos = with_member nat_lt n s.sent_infos }) k) (sym index-is)
    (marks (entry_reads w (reads s) (w.dropped + i) object) is))
    (λ n object x apart is. others_stay.info (entry_reads w (reads s) (w.dropped + n) object) x index is (λ same. apart (omega (arith, same, index-is)))) stands
  where
    within : index < next_index s
    within = omega (arith, slice_get_within w.entries i e found, stands.next, index-is)

    go : (q : ℕ) → is_member nat_lt q (with_member nat_lt index s.sent_infos) ≡ true → (q ≡ index) ⊎ (q ≡ index → ⊥) → q < next_index s
    go q there (inl same) = omega (arith, same, within)
    go q there (inr other) = stands.infos_before q (sym (others_in nat_lt q index s.sent_infos numbers other) ∙ there)

    before : (q : ℕ) → is_member nat_lt q (with_member nat_lt index s.sent_infos) ≡ true → q < next_index s
    before q there = go q there (cases_same q index)

-- ---- an object of which nothing was sent

all_false : (f : Position → Bool) (xs : List Position) → ((k : ℕ) (at : Position) → slice_get xs k ≡ Some at → f at ≡ false) → map f xs ≡ Rattle.std.specs.Prelude.replicate (length xs) false
all_false f [] none = refl
all_false f (x ∷ xs) none = ap (λ y. y ∷ map f xs) (none 0 x refl) ∙ ap (λ ys. false ∷ ys) (all_false f xs (λ k at e. none (suc k) at e))

false_where : (b : Bool) → (b ≡ true → ⊥) → b ≡ false
false_where true never = absurd (never refl)
false_where false never = refl

pub new_object : (w : WindowState) (s : SenderState) (h : HeldObject) (object : Object) → Stands w s → IsPlaced w.ring w.p h → object ≡ object_in w.ring h
    → h ≡ Rattle.tx_object.specs.Held.begun_at h.cut h.kind h.info h.start → StandsForEntry (entry_reads w (reads s) (next_index s) object) (held.Object h)
new_object w s h object stands placed is fresh = record {
  placed = placed;
  object = is;
  symbols =
      ap (λ (k : HeldObject). k.sent) fresh
      ∙ ap (λ n. Rattle.std.specs.Prelude.replicate n false)
      (ap (λ (c : Rattle.fec_plan.specs.Partition.Cut). Rattle.fec_plan.specs.Partition.all_symbols c) placed.holds.cut
      ∙ sym (Rattle.tx_object.proofs.SourcesLemmas.sources_long (next_index s) l w.p.e w.p.b w.p.max_n (Rattle.std.specs.Prelude.is_some h.info) sound))
      ∙ sym (all_false (λ at. is_member position_before at s.sent) (Rattle.norm_order.specs.Shapes.sources_in (next_index s) (shape_of w.p (object_in w.ring h))) none_sent)
      ∙ ap (λ (o : Object). map (λ at. is_member position_before at s.sent) (Rattle.norm_order.specs.Shapes.sources_in (next_index s) (shape_of w.p o))) (sym is);
  info = ap (λ (k : HeldObject). k.info_sent) fresh ∙ sym (false_where (is_member nat_lt (next_index s) s.sent_infos) (λ there. omega (arith, stands.infos_before (next_index s) there)));
}
  where
    l : ℕ
    l = length (Rattle.std.specs.Prelude.take (octets_of h.cut) (octets_in w.ring h))

    sound : Rattle.fec_plan.specs.Partition.IsSound (Rattle.fec_plan.specs.Partition.cut_of l w.p.e w.p.b w.p.max_n)
    sound = subst Rattle.fec_plan.specs.Partition.IsSound placed.holds.cut placed.sound

    none_sent : (k : ℕ) (at : Position) → slice_get (Rattle.norm_order.specs.Shapes.sources_in (next_index s) (shape_of w.p (object_in w.ring h))) k ≡ Some at → is_member position_before at s.sent ≡ false
    none_sent k at e =
        let at-is = Rattle.tx_object.proofs.SourcesLemmas.source_at (next_index s) l w.p.e w.p.b w.p.max_n (Rattle.std.specs.Prelude.is_some h.info) k at sound e in
        false_where (is_member position_before at s.sent) (λ there. omega (arith, stands.sent_before at there, at-is.0.0))

-- what is being filled is given up
pub stands_given_up : (w : WindowState) (s : SenderState) (f : Option Filling) → Stands w s → Stands (record w { filling = f }) s
stands_given_up w s f stands = record {
  dropped = stands.dropped;
  next = stands.next;
  entries = stands.entries;
  whole = stands.whole;
  opened = stands.opened;
  kept = stands.kept;
  shapes = stands.shapes;
  last = stands.last;
  past = stands.past;
  sent_before = stands.sent_before;
  infos_before = stands.infos_before;
}

-- another state of which only who is past differs
pub stands_past : (w : WindowState) (s t : SenderState) (through : Option Position) → Stands w s → reads t ≡ record (reads s) { past = Rattle.norm_send_rules.specs.Watermarks.all_past t }
    → ((at : Position) → Rattle.norm_send_rules.specs.Watermarks.all_past t at ≡ reached_by through at) → Stands (record w { past = through }) t
stands_past w s t through stands same past = subst (StandsFor (record w { past = through })) (sym same) (record {
  dropped = stands.dropped;
  next = stands.next;
  entries = stands.entries;
  whole = stands.whole;
  opened = stands.opened;
  kept = stands.kept;
  shapes = stands.shapes;
  last = stands.last;
  past = past;
  sent_before = stands.sent_before;
  infos_before = stands.infos_before;
})
