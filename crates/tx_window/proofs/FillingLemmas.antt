-- A window into whose ring octets of the object that is being filled were written.
use Rattle.std.proofs.Common.{◌≡◌, ℕ, zero, suc, ◌+◌, ◌-◌, ◌*◌, ◌/◌, ◌%◌, ◌<◌, ◌≤◌, ◌⊎◌, inl, inr, refl, sym, ap, ◌∙◌, subst, arith, Some, List, [], ◌∷◌, ◌++◌, length, length-append, take, get_or}
use Rattle.std.specs.Prelude.{slice_get, replicate}
use Rattle.std.proofs.Math.ListN.{get_or-append}
use Rattle.std.proofs.lemmas.Bool.{cases_lt}
use Rattle.std.proofs.lemmas.List.{get_or-append_right, ext_get_or, length-replicate}
use Rattle.norm_base.specs.Settings.{Settings}
use Rattle.fec_plan.specs.Partition.{Cut, cut_of, all_symbols, symbols_in}
use Rattle.obj_buffer.specs.Pieces.{HoldsObject}
use Rattle.tx_object.specs.Held.{HeldObject, octets_of, octets_in, LiesIn}
use Rattle.tx_object.specs.Round.{round, IsAround, IsClear}
use Rattle.tx_window.specs.Rows.{IsFilling, IsRow, LieInRow}
use Rattle.tx_object.specs.Placed.{IsPlaced, taken_by}
use Rattle.tx_object.proofs.RoundLemmas.{first_lap, second_lap, length-round}
use Rattle.tx_window.proofs.RowLemmas.{AreCutBy, all_fit, taken_append, taken_cons, clear_behind, row_clear}

pub round_joined : (ring : List ℕ) (start k n at : ℕ) → start < length ring → k + n ≤ length ring → IsAround (length ring) (start + k) at
    → round ring start (k + n) ≡ round ring start k ++ round ring at n
round_joined ring start k n at lt le around =
    ext_get_or 0 (round ring start (k + n)) (round ring start k ++ round ring at n)
    (all_long ∙ sym (length-append (round ring start k) (round ring at n) ∙ ap (λ m. m + length (round ring at n)) front_long ∙ ap (λ m. k + m) back_long))
    (λ i less. same i (omega (arith, all_long)) (cases_lt i k))
  where
    all_long : length (round ring start (k + n)) ≡ k + n
    all_long = length-round ring start (k + n) lt le

    front_long : length (round ring start k) ≡ k
    front_long = length-round ring start k lt (omega arith)

    back_long : length (round ring at n) ≡ n
    back_long = length-round ring at n around.0 (omega arith)

    in_front : (i : ℕ) → i < k → (start + i < length ring) ⊎ (length ring ≤ start + i) → get_or (round ring start (k + n)) i 0 ≡ get_or (round ring start k) i 0
    in_front i less (inl before) = first_lap ring start (k + n) i (omega arith) before ∙ sym (first_lap ring start k i less before)
    in_front i less (inr past) = second_lap ring start (k + n) i (omega arith) past ∙ sym (second_lap ring start k i less past)

    behind : (i : ℕ) → k ≤ i → i < k + n → (start + i < length ring) ⊎ (length ring ≤ start + i) → (at ≡ start + k) ⊎ (at + length ring ≡ start + k)
        → get_or (round ring start (k + n)) i 0 ≡ get_or (round ring at n) (i - k) 0
    behind i ge less (inl before) (inl is) =
        first_lap ring start (k + n) i less before ∙ ap (λ q. get_or ring q 0) (let e : start + i ≡ at + (i - k) = omega arith in e)
        ∙ sym (first_lap ring at n (i - k) (omega arith) (omega arith))
    behind i ge less (inl before) (inr once) = absurd (omega arith)
    behind i ge less (inr past) (inl is) =
        second_lap ring start (k + n) i less past ∙ ap (λ q. get_or ring q 0) (let e : start + i - length ring ≡ at + (i - k) - length ring = omega arith in e)
        ∙ sym (second_lap ring at n (i - k) (omega arith) (omega arith))
    behind i ge less (inr past) (inr once) =
        second_lap ring start (k + n) i less past ∙ ap (λ q. get_or ring q 0) (let e : start + i - length ring ≡ at + (i - k) = omega arith in e)
        ∙ sym (first_lap ring at n (i - k) (omega arith) (omega arith))

    same : (i : ℕ) → i < k + n → (i < k) ⊎ (k ≤ i) → get_or (round ring start (k + n)) i 0 ≡ get_or (round ring start k ++ round ring at n) i 0
    same i less (inl front) =
        in_front i front (cases_lt (start + i) (length ring)) ∙ sym (get_or-append (round ring start k) (round ring at n) 0 i (omega (arith, front_long)))
    same i less (inr ge) =
        behind i ge less (cases_lt (start + i) (length ring)) around.1
        ∙ sym (get_or-append_right (round ring start k) (round ring at n) k i 0 front_long ge)

-- octets were put behind the first k of the object, and all that is clear of them is as it was
pub record IsPut (ring new piece : List ℕ) (start k at : ℕ) : Type 0 where
  pub size : length new ≡ length ring
  pub around : IsAround (length ring) (start + k) at
  pub written : round new at (length piece) ≡ piece
  pub others : (other count : ℕ) → IsClear (length ring) at (length piece) other count → round new other count ≡ round ring other count

pub filled_more : (ring new piece : List ℕ) (start k at : ℕ) → IsPut ring new piece start k at → start < length ring → k + length piece ≤ length ring
    → round new start (k + length piece) ≡ round ring start k ++ piece
filled_more ring new piece start k at put lt le =
    round_joined new start k (length piece) at (omega (arith, put.size)) (omega (arith, put.size)) (subst (λ n. IsAround n (start + k) at) (sym put.size) put.around)
    ∙ ap (λ xs. xs ++ round new at (length piece))
    (put.others start k (clear_behind (length ring) start start k (start + k) (length piece) at start (omega arith) (omega arith) (omega arith) lt (lt, inl refl) put.around))
    ∙ ap (λ xs. round ring start k ++ xs) put.written

-- each object before it is as it was
pub kept_octets : (ring new piece : List ℕ) (p : Settings) (hs : List HeldObject) (h : HeldObject) (next k at : ℕ) → IsPut ring new piece h.start k at → 0 < p.e
    → length ring ≡ (p.octets / p.e + p.window) * p.e → IsRow ring p (hs ++ h ∷ []) next → AreCutBy p (hs ++ h ∷ []) → k + length piece ≤ taken_by h
    → (i : ℕ) (o : HeldObject) → slice_get hs i ≡ Some o → octets_in new o ≡ octets_in ring o
kept_octets ring new piece p hs h next k at put some long row cut within i o found =
    let all = all_fit p (hs ++ h ∷ []) some cut row.few row.fit in
    put.others o.start (taken_by o)
    (row_clear (length ring) row.head row.head hs h next k (length piece) at (omega arith) row.head_within
    (omega (arith, all, long, taken_append hs (h ∷ []), taken_cons h [])) row.in_row within put.around i o found)

lies_kept : (ring new : List ℕ) (h : HeldObject) → length new ≡ length ring → LiesIn ring h → LiesIn new h
lies_kept ring new h size lies = record {
  object = lies.object;
  start = omega (arith, lies.start, size);
  room = omega (arith, lies.room, size);
  ring_whole = ap (λ n. n % h.cut.e) size ∙ lies.ring_whole;
  start_whole = lies.start_whole;
}

pub placed_kept : (ring new : List ℕ) (p : Settings) (h : HeldObject) → length new ≡ length ring → octets_in new h ≡ octets_in ring h → IsPlaced ring p h → IsPlaced new p h
placed_kept ring new p h size same placed = record {
  lies = lies_kept ring new h size placed.lies;
  sound = placed.sound;
  holds = subst (λ (xs : List ℕ). HoldsObject h.cut xs p (take (octets_of h.cut) xs)) (sym same) placed.holds;
  most = placed.most;
  short = placed.short;
}

pub row_kept : (ring new : List ℕ) (p : Settings) (hs : List HeldObject) (next : ℕ) → length new ≡ length ring → IsRow ring p hs next → IsRow new p hs next
row_kept ring new p hs next size row = record {
  head = row.head;
  head_within = omega (arith, row.head_within, size);
  in_row = subst (λ n. LieInRow n row.head hs next) (sym size) row.in_row;
  next_whole = row.next_whole;
  few = row.few;
  fit = row.fit;
}

pub filling_kept : (ring new : List ℕ) (p : Settings) (count more : ℕ) (h : HeldObject) → length new ≡ length ring → more ≤ octets_of h.cut → IsFilling ring p count h
    → IsFilling new p more h
filling_kept ring new p count more h size le filling = record {
  lies = lies_kept ring new h size filling.lies;
  sound = filling.sound;
  cut = filling.cut;
  some = filling.some;
  most = filling.most;
  short = filling.short;
  fresh = filling.fresh;
  within = le;
}

pub octets_taken : (xs ys : List ℕ) (n : ℕ) → length xs ≡ n → take n (xs ++ ys) ≡ xs
octets_taken [] ys n is = ap (λ m. take m ys) (sym is)
octets_taken (x ∷ xs) ys zero is = absurd (omega arith)
octets_taken (x ∷ xs) ys (suc n) is = ap (λ zs. x ∷ zs) (octets_taken xs ys n (omega arith))

-- its octets, with zeros behind them, are the padded object
pub whole_placed : (new octets : List ℕ) (p : Settings) (count pad : ℕ) (h : HeldObject) → IsFilling new p count h → length octets ≡ octets_of h.cut
    → taken_by h ≡ octets_of h.cut + pad → octets_in new h ≡ octets ++ replicate pad 0 → IsPlaced new p h
whole_placed new octets p count pad h filling long taken is =
    let cut : h.cut ≡ cut_of (length octets) p.e p.b p.max_n = filling.cut ∙ ap (λ n. cut_of n p.e p.b p.max_n) (sym long) in
    let size : taken_by h ≡ symbols_in (length octets) p.e * p.e = ap (λ (k : Cut). all_symbols k * k.e) cut in
    let padding : pad ≡ symbols_in (length octets) p.e * p.e - length octets = omega (arith, size, taken, long) in
    record {
      lies = filling.lies;
      sound = filling.sound;
      holds = subst (HoldsObject h.cut (octets_in new h) p) (sym (ap (take (octets_of h.cut)) is ∙ octets_taken octets (replicate pad 0) (octets_of h.cut) long)) (record {
        cut = cut;
        padded = is ∙ ap (λ n. octets ++ replicate n 0) padding;
      });
      most = filling.most;
      short = filling.short;
    }

pub put_zeros : (ring new : List ℕ) (start k at pad : ℕ) → length new ≡ length ring → IsAround (length ring) (start + k) at → round new at pad ≡ replicate pad 0
    → ((other count : ℕ) → IsClear (length ring) at pad other count → round new other count ≡ round ring other count) → IsPut ring new (replicate pad 0) start k at
put_zeros ring new start k at pad size around cleared others = record {
  size = size;
  around = around;
  written = ap (round new at) (length-replicate {A = ℕ} pad 0) ∙ cleared;
  others = λ other count clear. others other count (subst (λ n. IsClear (length ring) at n other count) (length-replicate {A = ℕ} pad 0) clear);
}
