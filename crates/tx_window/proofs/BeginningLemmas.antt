-- A window in which an object is begun: it lies behind all that are kept.
use Rattle.std.proofs.Common.{◌≡◌, ℕ, zero, suc, ◌+◌, ◌-◌, ◌*◌, ◌/◌, ◌%◌, ◌<◌, ◌≤◌, ◌⊎◌, inl, inr, refl, sym, ap, ◌∙◌, subst, arith, Option, Some, List, [], ◌∷◌, ◌++◌, length, length-append, drop}
use Rattle.std.specs.Prelude.{slice_get, IsSome}
use Rattle.std.proofs.lemmas.Bool.{cases_lt}
use Rattle.std.proofs.lemmas.List.{length-drop}
use Rattle.std.proofs.lemmas.Nat.{div-add-mod'}
use Rattle.std.proofs.lemmas.Option.{slice_get_within}
use Rattle.std.proofs.Math.Nat.{mul-mod_left}
use Rattle.norm_base.specs.Settings.{Settings}
use Rattle.norm_base.specs.declared.kinds.Kind.{Kind}
use Rattle.fec_plan.specs.Partition.{Cut, IsSound, cut_of, all_symbols}
use Rattle.norm_send_rules.specs.Enqueuing.{info_length}
use Rattle.tx_object.specs.Held.{HeldObject, octets_of, begun_at}
use Rattle.tx_object.specs.Round.{IsAround}
use Rattle.tx_window.specs.Rows.{IsFilling, IsRow, LieInRow, all_octets}
use Rattle.tx_object.specs.Placed.{IsPlaced, taken_by}
use Rattle.tx_window.proofs.ListLemmas.{slice_get-drop}
use Rattle.tx_object.proofs.SourcesLemmas.{get_front, get_back}
use Rattle.tx_window.proofs.RowLemmas.{IsCutBy, AreCutBy, RowFrom, all_taken, taken_append, taken_cons, octets_append, octets_cons, all_fit, row_more, row_last, row_dropped, symbols_taken}

pub placed_cut : (ring : List ℕ) (p : Settings) (h : HeldObject) → IsPlaced ring p h → IsCutBy p h
placed_cut ring p h placed =
    placed.holds.cut ∙ ap (λ n. cut_of n p.e p.b p.max_n) (sym (ap octets_of placed.holds.cut))

pub cut_dropped : (p : Settings) (n : ℕ) (hs : List HeldObject) → AreCutBy p hs → AreCutBy p (drop n hs)
cut_dropped p n hs cut i h e = cut (n + i) h (sym (slice_get-drop n hs i) ∙ e)

pub cut_more : (p : Settings) (hs : List HeldObject) (h : HeldObject) → AreCutBy p hs → IsCutBy p h → AreCutBy p (hs ++ h ∷ [])
cut_more p hs h cut one i k e = go (cases_lt i (length hs))
  where
    go : (i < length hs) ⊎ (length hs ≤ i) → IsCutBy p k
    go (inl lt) = cut i k (sym (get_front hs (h ∷ []) i lt) ∙ e)
    go (inr le) =
        let within = slice_get_within (hs ++ h ∷ []) i k e in
        let at : i - length hs ≡ 0 = omega (arith, within, length-append hs (h ∷ [])) in
        let first : slice_get (h ∷ []) 0 ≡ Some k = ap (slice_get (h ∷ [])) (sym at) ∙ sym (get_back hs (h ∷ []) i le) ∙ e in
        subst (IsCutBy p) (is h k first) one
      where
        is : (a b : HeldObject) → Some a ≡ Some b → a ≡ b
        is a b f = cc

pub row_within : (size counted : ℕ) (hs : List HeldObject) (next : ℕ) → LieInRow size counted hs next → next < size
unfolding LieInRow
row_within size counted [] next row = row.0
row_within size counted (h ∷ hs) next row = row_within size (counted + taken_by h) hs next row.1

whole_behind : (e slots k at next : ℕ) → at % e ≡ 0 → IsAround (slots * e) (at + k * e) next → next % e ≡ 0
whole_behind e slots k at next whole (lt, inl is) =
    ap (λ n. n % e) (let z : next ≡ (at / e + k) * e = omega (arith, is, div-add-mod' at e, whole) in z) ∙ mul-mod_left (at / e + k) e
whole_behind e slots k at next whole (lt, inr once) =
    ap (λ n. n % e) (let z : next ≡ (at / e + k - slots) * e = less (at / e + k) slots (omega (arith, once, div-add-mod' at e, whole)) in z) ∙ mul-mod_left (at / e + k - slots) e
  where
    less : (a b : ℕ) → next + b * e ≡ a * e → next ≡ (a - b) * e
    less a b is = go (cases_lt a b)
      where
        go : (a < b) ⊎ (b ≤ a) → next ≡ (a - b) * e
        go (inl few) =
            let whole : a * e ≤ b * e = Rattle.std.proofs.Math.Nat.mul-le-mul_right e (let z : a ≤ b = omega arith in z) in
            let none : a - b ≡ 0 = omega arith in
            let times = ap (λ n. n * e) none in omega arith
        go (inr le) =
            let sum : (a - b) * e + b * e ≡ (a - b + b) * e = omega arith in
            let all : (a - b + b) * e ≡ a * e = ap (λ n. n * e) (let z : a - b + b ≡ a = omega arith in z) in
            omega arith

-- an object behind those that are left
pub row_begun : (ring : List ℕ) (p : Settings) (hs : List HeldObject) (n : ℕ) (h : HeldObject) (free next : ℕ) → 0 < p.e
    → length ring ≡ (p.octets / p.e + p.window) * p.e → IsRow ring p hs free → AreCutBy p hs → IsCutBy p h → h.start ≡ free
    → all_octets (drop n hs) + octets_of h.cut ≤ p.octets → length hs - n < p.window → IsAround (length ring) (free + taken_by h) next
    → IsRow ring p (drop n hs ++ h ∷ []) next
row_begun ring p hs n h free next some long row cut one at fit few after =
    let rest : RowFrom (length ring) (drop n hs) free =
    row_dropped (length ring) n hs free (omega (arith, long, all_fit p hs some cut row.few row.fit)) (record { head = row.head; head_within = row.head_within; in_row = row.in_row }) in
    let count : length (drop n hs ++ h ∷ []) ≤ p.window = omega (arith, length-append (drop n hs) (h ∷ []), length-drop n hs) in
    let octets : all_octets (drop n hs ++ h ∷ []) ≤ p.octets = omega (arith, octets_append (drop n hs) (h ∷ []), octets_cons h [], fit) in
    let all : all_taken (drop n hs ++ h ∷ []) ≤ (p.octets / p.e + p.window) * p.e =
    all_fit p (drop n hs ++ h ∷ []) some (cut_more p (drop n hs) h (cut_dropped p n hs cut) one) count octets in
    let parts : all_taken (drop n hs ++ h ∷ []) ≡ all_taken (drop n hs) + taken_by h = omega (arith, taken_append (drop n hs) (h ∷ []), taken_cons h []) in
    record {
      head = rest.head;
      head_within = rest.head_within;
      in_row = row_more (length ring) rest.head (drop n hs) h free next (omega (arith, rest.head_within, all, parts, long)) at rest.in_row after;
      next_whole = whole_behind p.e (p.octets / p.e + p.window) (all_symbols h.cut) free next row.next_whole
          (subst (λ m. IsAround m (free + all_symbols h.cut * p.e) next) long
          (subst (λ m. IsAround (length ring) (free + m) next) (symbols_taken p h some one).0 after));
      few = count;
      fit = octets;
    }

-- the object that was begun
pub filling_begun : (ring : List ℕ) (p : Settings) (hs : List HeldObject) (h : HeldObject) (kind : Kind) (info : Option (List ℕ)) (len free : ℕ)
    → length ring ≡ (p.octets / p.e + p.window) * p.e → IsRow ring p hs free → IsSound h.cut → 1 ≤ p.window
    → h ≡ begun_at (cut_of len p.e p.b p.max_n) kind info free → 1 ≤ len → len ≤ p.octets → len ≤ 16777216 → info_length info ≤ p.e → IsFilling ring p 0 h
filling_begun ring p hs h kind info len free long row sound window is least most small short =
    let cut : h.cut ≡ cut_of len p.e p.b p.max_n = ap (λ (k : HeldObject). k.cut) is in
    let e-is : h.cut.e ≡ p.e = ap (λ (k : Cut). k.e) cut in
    let some : 0 < p.e = omega (arith, e-is, sound.least_e) in
    let octets : octets_of h.cut ≡ len = ap octets_of cut in
    let one : IsCutBy p h = cut ∙ ap (λ n. cut_of n p.e p.b p.max_n) (sym octets) in
    let fits = all_fit p (h ∷ []) some (λ i k e. subst (IsCutBy p) (only i k e) one) (omega arith) (omega (arith, octets_cons h [], octets)) in
    let whole : length ring % p.e ≡ 0 = ap (λ n. n % p.e) long ∙ mul-mod_left (p.octets / p.e + p.window) p.e in
    record {
      lies = record {
        object = subst (λ (k : Cut). IsSome k.l) (sym cut) refl;
        start = omega (arith, ap (λ (k : HeldObject). k.start) is, row_within (length ring) row.head hs free row.in_row);
        room = omega (arith, fits, long, taken_cons h []);
        ring_whole = ap (λ e. length ring % e) e-is ∙ whole;
        start_whole = ap (λ (k : HeldObject). k.start % k.cut.e) is ∙ row.next_whole;
      };
      sound = sound;
      cut = one;
      some = omega (arith, octets);
      most = omega (arith, octets, small);
      short = subst (λ (i : Option (List ℕ)). info_length i ≤ p.e) (sym (ap (λ (k : HeldObject). k.info) is)) short;
      fresh = is ∙ (sym (again is));
      within = omega arith;
    }
  where
    only : (i : ℕ) (k : HeldObject) → slice_get (h ∷ []) i ≡ Some k → h ≡ k
    only zero k e = cc
    only (suc i) k e = absurd (cc)

    again : h ≡ begun_at (cut_of len p.e p.b p.max_n) kind info free → begun_at h.cut h.kind h.info h.start ≡ begun_at (cut_of len p.e p.b p.max_n) kind info free
    again e = ap (λ (k : HeldObject). begun_at k.cut k.kind k.info k.start) e

-- where the last one is given up, the others are a row
pub row_left : (ring : List ℕ) (p : Settings) (hs : List HeldObject) (h : HeldObject) (next : ℕ) → p.e ≡ h.cut.e → h.start % h.cut.e ≡ 0 → IsRow ring p (hs ++ h ∷ []) next
    → IsRow ring p hs h.start
row_left ring p hs h next e-is whole row = record {
  head = row.head;
  head_within = row.head_within;
  in_row = row_last (length ring) row.head hs h next row.in_row;
  next_whole = ap (λ e. h.start % e) e-is ∙ whole;
  few = omega (arith, row.few, length-append hs (h ∷ []));
  fit = omega (arith, row.fit, octets_append hs (h ∷ []));
}

pub placed_more : (ring : List ℕ) (p : Settings) (hs : List HeldObject) (h : HeldObject) → ((i : ℕ) (k : HeldObject) → slice_get hs i ≡ Some k → IsPlaced ring p k) → IsPlaced ring p h
    → (i : ℕ) (k : HeldObject) → slice_get (hs ++ h ∷ []) i ≡ Some k → IsPlaced ring p k
placed_more ring p hs h placed one i k e = go (cases_lt i (length hs))
  where
    is : (a b : HeldObject) → Some a ≡ Some b → a ≡ b
    is a b f = cc

    go : (i < length hs) ⊎ (length hs ≤ i) → IsPlaced ring p k
    go (inl lt) = placed i k (sym (get_front hs (h ∷ []) i lt) ∙ e)
    go (inr le) =
        let within = slice_get_within (hs ++ h ∷ []) i k e in
        let at : i - length hs ≡ 0 = omega (arith, within, length-append hs (h ∷ [])) in
        let first : slice_get (h ∷ []) 0 ≡ Some k = ap (slice_get (h ∷ [])) (sym at) ∙ sym (get_back hs (h ∷ []) i le) ∙ e in
        subst (IsPlaced ring p) (is h k first) one
