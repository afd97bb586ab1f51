-- The objects among the entries of a window, which lie in its ring.
use Rattle.std.proofs.Common.{◌≡◌, ℕ, zero, suc, ◌+◌, ◌-◌, ◌*◌, ◌/◌, ◌<◌, ◌≤◌, refl, sym, ap, subst, arith, Some, List, [], ◌∷◌, ◌++◌, length, length-append, drop}
use Rattle.std.specs.Prelude.{slice_get}
use Rattle.norm_base.specs.Settings.{Settings}
use Rattle.fec_plan.specs.Partition.{Cut, all_symbols}
use Rattle.tx_object.specs.Held.{HeldObject, octets_of}
use Rattle.tx_object.specs.Placed.{IsPlaced, taken_by}
use Rattle.tx_object.specs.Round.{IsAround}
use Rattle.tx_object.proofs.MarkedLemmas.{placed_as}
use Rattle.tx_window.specs.EntryPlaces.{Stays, AllStay, held_size}
use Rattle.tx_window.specs.EntryAsked.{Lies}
use Rattle.tx_window.specs.declared.entry.HeldEntry.{HeldEntry}
use Rattle.tx_window.specs.declared.entry.HeldEntry.TheVariants as held
use Rattle.tx_window.specs.Rows.{all_octets, IsRow, LieInRow}
use Rattle.tx_window.proofs.RowLemmas.{octets_cons, octets_append, AreCutBy, RowFrom, row_dropped, all_fit}
use Rattle.tx_window.specs.WindowSound.{all_sizes, objects_in}
use Rattle.tx_window.proofs.RoomLemmas.{sizes_cons}

-- ---- some are dropped

-- so many objects are among the first n entries
pub gone_of : ℕ → List HeldEntry → ℕ
gone_of zero es = 0
gone_of (suc n) [] = 0
gone_of (suc n) (held.Object h ∷ es) = suc (gone_of n es)
gone_of (suc n) (held.Stream stream ∷ es) = gone_of n es

pub objects_dropped : (n : ℕ) (es : List HeldEntry) → objects_in (drop n es) ≡ drop (gone_of n es) (objects_in es)
unfolding gone_of
objects_dropped zero es = refl
objects_dropped (suc n) [] = refl
objects_dropped (suc n) (held.Object h ∷ es) = objects_dropped n es
objects_dropped (suc n) (held.Stream stream ∷ es) = objects_dropped n es

pub objects_few : (es : List HeldEntry) → length (objects_in es) ≤ length es
objects_few [] = omega arith
objects_few (held.Object h ∷ es) = omega (arith, objects_few es)
objects_few (held.Stream stream ∷ es) = omega (arith, objects_few es)

pub objects_fit : (p : Settings) (es : List HeldEntry) → all_octets (objects_in es) ≤ all_sizes p es
objects_fit p [] = omega arith
objects_fit p (held.Object h ∷ es) = omega (arith, octets_cons h (objects_in es), sizes_cons p (held.Object h) es, objects_fit p es)
objects_fit p (held.Stream stream ∷ es) = omega (arith, sizes_cons p (held.Stream stream) es, objects_fit p es)

-- of those that are left no more are objects
pub objects_left : (n : ℕ) (es : List HeldEntry) → length (objects_in es) - gone_of n es ≤ length es - n
unfolding gone_of
objects_left zero es = omega (arith, objects_few es)
objects_left (suc n) [] = omega arith
objects_left (suc n) (held.Object h ∷ es) = let rest = objects_left n es in less (length (objects_in es)) (gone_of n es) (length es) n rest
  where
    less : (a b x y : ℕ) → a - b ≤ x - y → suc a - suc b ≤ suc x - suc y
    less a b x y le = omega (arith, le)
objects_left (suc n) (held.Stream stream ∷ es) = let rest = objects_left n es in same (length (objects_in es)) (gone_of n es) (length es) n rest
  where
    same : (a b x y : ℕ) → a - b ≤ x - y → a - b ≤ suc x - suc y
    same a b x y le = omega (arith, le)

pub objects_append : (es fs : List HeldEntry) → objects_in (es ++ fs) ≡ objects_in es ++ objects_in fs
objects_append [] fs = refl
objects_append (held.Object h ∷ es) fs = ap (λ hs. h ∷ hs) (objects_append es fs)
objects_append (held.Stream stream ∷ es) fs = objects_append es fs

pub sizes_append : (p : Settings) (es fs : List HeldEntry) → all_sizes p (es ++ fs) ≡ all_sizes p es + all_sizes p fs
sizes_append p [] fs = omega arith
sizes_append p (e ∷ es) fs = omega (arith, sizes_cons p e (es ++ fs), sizes_cons p e es, sizes_append p es fs)

-- ---- an entry that is an object lies in the ring

pub lies_there : (ring : List ℕ) (p : Settings) (es : List HeldEntry) → ((i : ℕ) (h : HeldObject) → slice_get (objects_in es) i ≡ Some h → IsPlaced ring p h)
    → (n : ℕ) (e : HeldEntry) → slice_get es n ≡ Some e → Lies ring e
lies_there ring p [] placed n e is = absurd (cc)
lies_there ring p (held.Object h ∷ es) placed zero e is =
    subst (Lies ring) (let same : held.Object h ≡ e = cc in same) (let here = placed 0 h refl in (here.lies, here.sound))
lies_there ring p (held.Object h ∷ es) placed (suc n) e is = lies_there ring p es (λ i k f. placed (suc i) k f) n e is
lies_there ring p (held.Stream stream ∷ es) placed zero e is = subst (Lies ring) (let same : held.Stream stream ≡ e = cc in same) tt
lies_there ring p (held.Stream stream ∷ es) placed (suc n) e is = lies_there ring p es placed n e is

pub placed_there : (ring : List ℕ) (p : Settings) (es : List HeldEntry) → ((i : ℕ) (h : HeldObject) → slice_get (objects_in es) i ≡ Some h → IsPlaced ring p h)
    → (n : ℕ) (h : HeldObject) → slice_get es n ≡ Some (held.Object h) → IsPlaced ring p h
placed_there ring p [] placed n h is = absurd (cc)
placed_there ring p (held.Object k ∷ es) placed zero h is = subst (IsPlaced ring p) (same k h is) (placed 0 k refl)
  where
    same : (a b : HeldObject) → ◌≡◌ {A = Rattle.std.specs.Prelude.Option HeldEntry} (Some (held.Object a)) (Some (held.Object b)) → a ≡ b
    same a b e = cc
placed_there ring p (held.Object k ∷ es) placed (suc n) h is = placed_there ring p es (λ i o f. placed (suc i) o f) n h is
placed_there ring p (held.Stream stream ∷ es) placed zero h is = absurd (never is)
  where
    never : ◌≡◌ {A = Rattle.std.specs.Prelude.Option HeldEntry} (Some (held.Stream stream)) (Some (held.Object h)) → ⊥
    never e = cc
placed_there ring p (held.Stream stream ∷ es) placed (suc n) h is = placed_there ring p es placed n h is

-- ---- all stay where they are

-- objects of the same cuts, places and infos
pub record AreAlike (hs ks : List HeldObject) : Type 0 where
  pub long : length ks ≡ length hs
  pub each : (i : ℕ) (h k : HeldObject) → slice_get hs i ≡ Some h → slice_get ks i ≡ Some k → (k.cut ≡ h.cut) × (k.start ≡ h.start) × (k.info ≡ h.info)

none_alike : AreAlike [] []
none_alike = record { long = refl; each = λ i h k e f. absurd (cc) }

more_alike : (h k : HeldObject) (hs ks : List HeldObject) → (k.cut ≡ h.cut) × (k.start ≡ h.start) × (k.info ≡ h.info) → AreAlike hs ks → AreAlike (h ∷ hs) (k ∷ ks)
more_alike h k hs ks one alike = record { long = let long = alike.long in omega (arith, long); each = each }
  where
    each : (i : ℕ) (x y : HeldObject) → slice_get (h ∷ hs) i ≡ Some x → slice_get (k ∷ ks) i ≡ Some y → (y.cut ≡ x.cut) × (y.start ≡ x.start) × (y.info ≡ x.info)
    each zero x y e f = subst (λ (a : HeldObject). (y.cut ≡ a.cut) × (y.start ≡ a.start) × (y.info ≡ a.info)) (is h x e)
        (subst (λ (b : HeldObject). (b.cut ≡ h.cut) × (b.start ≡ h.start) × (b.info ≡ h.info)) (is k y f) one)
      where
        is : (a b : HeldObject) → Some a ≡ Some b → a ≡ b
        is a b g = cc
    each (suc i) x y e f = alike.each i x y e f

tail_stays : (e k : HeldEntry) (es ks : List HeldEntry) → AllStay (e ∷ es) (k ∷ ks) → AllStay es ks
tail_stays e k es ks stay = record {
  long = let long = stay.long in omega (arith, long);
  each = λ n x y f g. stay.each (suc n) x y f g;
}

pub alike : (es ks : List HeldEntry) → AllStay es ks → AreAlike (objects_in es) (objects_in ks)
alike [] [] stay = none_alike
alike [] (k ∷ ks) stay = absurd (let long = stay.long in omega (arith, long))
alike (e ∷ es) [] stay = absurd (let long = stay.long in omega (arith, long))
alike (held.Object h ∷ es) (held.Object k ∷ ks) stay =
    more_alike h k (objects_in es) (objects_in ks) (stay.each 0 (held.Object h) (held.Object k) refl refl) (alike es ks (tail_stays (held.Object h) (held.Object k) es ks stay))
alike (held.Object h ∷ es) (held.Stream t ∷ ks) stay = absurd (stay.each 0 (held.Object h) (held.Stream t) refl refl)
alike (held.Stream s ∷ es) (held.Object k ∷ ks) stay = absurd (stay.each 0 (held.Stream s) (held.Object k) refl refl)
alike (held.Stream s ∷ es) (held.Stream t ∷ ks) stay = alike es ks (tail_stays (held.Stream s) (held.Stream t) es ks stay)

pub sizes_stay : (p : Settings) (es ks : List HeldEntry) → AllStay es ks → all_sizes p ks ≡ all_sizes p es
sizes_stay p [] [] stay = refl
sizes_stay p [] (k ∷ ks) stay = absurd (let long = stay.long in omega (arith, long))
sizes_stay p (e ∷ es) [] stay = absurd (let long = stay.long in omega (arith, long))
sizes_stay p (e ∷ es) (k ∷ ks) stay = omega (
  arith,
  sizes_cons p e es,
  sizes_cons p k ks,
  one e k (stay.each 0 e k refl refl),
  sizes_stay p es ks (tail_stays e k es ks stay),
)
  where
    one : (x y : HeldEntry) → Stays x y → held_size p y ≡ held_size p x
    one (held.Object h) (held.Object l) same = ap octets_of same.0
    one (held.Object h) (held.Stream t) same = absurd same
    one (held.Stream s) (held.Object l) same = absurd same
    one (held.Stream s) (held.Stream t) same = refl

pub placed_stay : (ring : List ℕ) (p : Settings) (hs ks : List HeldObject) → AreAlike hs ks → ((i : ℕ) (h : HeldObject) → slice_get hs i ≡ Some h → IsPlaced ring p h)
    → (i : ℕ) (k : HeldObject) → slice_get ks i ≡ Some k → IsPlaced ring p k
placed_stay ring p hs ks are placed i k is =
    let within = Rattle.std.proofs.lemmas.Option.slice_get_within ks i k is in
    let there = Rattle.tx_window.proofs.ListLemmas.get_some i hs (let long = are.long in omega (arith, within, long)) in
    let same = are.each i there.0 k there.1 is in
    placed_as ring p there.0 k same.0 same.1 same.2 (placed i there.0 there.1)

tail_alike : (h k : HeldObject) (hs ks : List HeldObject) → AreAlike (h ∷ hs) (k ∷ ks) → AreAlike hs ks
tail_alike h k hs ks are = record {
  long = let long = are.long in omega (arith, long);
  each = λ i x y e f. are.each (suc i) x y e f;
}

row_of : (size counted : ℕ) (hs ks rest : List HeldObject) (next : ℕ) → AreAlike hs ks → LieInRow size counted (hs ++ rest) next → LieInRow size counted (ks ++ rest) next
unfolding LieInRow
row_of size counted [] [] rest next are row = row
row_of size counted [] (k ∷ ks) rest next are row = absurd (let long = are.long in omega (arith, long))
row_of size counted (h ∷ hs) [] rest next are row = absurd (let long = are.long in omega (arith, long))
row_of size counted (h ∷ hs) (k ∷ ks) rest next are row =
    let same = are.each 0 h k refl refl in
    let long : taken_by h ≡ taken_by k = ap (λ (c : Cut). all_symbols c * c.e) (sym same.0) in (
      subst (IsAround size counted) (sym same.1) row.0,
      row_of size (counted + taken_by k) hs ks rest next (tail_alike h k hs ks are) (subst (λ n. LieInRow size (counted + n) (hs ++ rest) next) long row.1),
    )

octets_alike : (hs ks : List HeldObject) → AreAlike hs ks → all_octets ks ≡ all_octets hs
octets_alike [] [] are = refl
octets_alike [] (k ∷ ks) are = absurd (let long = are.long in omega (arith, long))
octets_alike (h ∷ hs) [] are = absurd (let long = are.long in omega (arith, long))
octets_alike (h ∷ hs) (k ∷ ks) are =
    let same = are.each 0 h k refl refl in
    let one : octets_of k.cut ≡ octets_of h.cut = ap octets_of same.0 in
    omega (arith, octets_cons h hs, octets_cons k ks, one, octets_alike hs ks (tail_alike h k hs ks are))

pub row_stays : (ring : List ℕ) (p : Settings) (hs ks rest : List HeldObject) (next : ℕ) → AreAlike hs ks → IsRow ring p (hs ++ rest) next → IsRow ring p (ks ++ rest) next
row_stays ring p hs ks rest next are row = record {
  head = row.head;
  head_within = row.head_within;
  in_row = row_of (length ring) row.head hs ks rest next are row.in_row;
  next_whole = row.next_whole;
  few = let long = are.long in let few = row.few in omega (arith, few, length-append hs rest, length-append ks rest, long);
  fit = let fit = row.fit in omega (arith, fit, octets_append hs rest, octets_append ks rest, octets_alike hs ks are);
}

-- an entry that is an object is one of the objects
pub object_there : (es : List HeldEntry) (n : ℕ) (h : HeldObject) → slice_get es n ≡ Some (held.Object h) → (i : ℕ) × (slice_get (objects_in es) i ≡ Some h)
object_there [] n h is = absurd (cc)
object_there (held.Object k ∷ es) zero h is = (0, ap Some (same k h is))
  where
    same : (a b : HeldObject) → ◌≡◌ {A = Rattle.std.specs.Prelude.Option HeldEntry} (Some (held.Object a)) (Some (held.Object b)) → a ≡ b
    same a b e = cc
object_there (held.Object k ∷ es) (suc n) h is = let rest = object_there es n h is in (suc rest.0, rest.1)
object_there (held.Stream stream ∷ es) zero h is = absurd (never is)
  where
    never : ◌≡◌ {A = Rattle.std.specs.Prelude.Option HeldEntry} (Some (held.Stream stream)) (Some (held.Object h)) → ⊥
    never e = cc
object_there (held.Stream stream ∷ es) (suc n) h is = object_there es n h is

-- ---- a row of fewer

octets_fewer : (n : ℕ) (hs : List HeldObject) → all_octets (drop n hs) ≤ all_octets hs
octets_fewer zero hs = omega arith
octets_fewer (suc n) [] = omega arith
octets_fewer (suc n) (h ∷ hs) = omega (arith, octets_cons h hs, octets_fewer n hs)

pub row_fewer : (ring : List ℕ) (p : Settings) (hs : List HeldObject) (n next : ℕ) → 0 < p.e → length ring ≡ (p.octets / p.e + p.window) * p.e → AreCutBy p hs → IsRow ring p hs next
    → IsRow ring p (drop n hs) next
row_fewer ring p hs n next some long cut row =
    let rest : RowFrom (length ring) (drop n hs) next =
    row_dropped (length ring) n hs next (omega (arith, long, all_fit p hs some cut row.few row.fit)) (record { head = row.head; head_within = row.head_within; in_row = row.in_row }) in
    record {
      head = rest.head;
      head_within = rest.head_within;
      in_row = rest.in_row;
      next_whole = row.next_whole;
      few = let few = row.few in omega (arith, few, Rattle.std.proofs.lemmas.List.length-drop n hs);
      fit = let fit = row.fit in omega (arith, fit, octets_fewer n hs);
    }

pub none_sized : (p : Settings) (es : List HeldEntry) → es ≡ [] → 0 ≡ all_sizes p es + all_octets []
none_sized p es none = sym (ap (λ (fs : List HeldEntry). all_sizes p fs + all_octets []) none)
