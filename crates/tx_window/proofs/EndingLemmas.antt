-- The object that was begun is ended: zeros are put behind its octets in the ring, and nothing of the other objects changes.
use Rattle.std.proofs.Common.{◌≡◌, ℕ, ◌+◌, ◌-◌, ◌*◌, ◌/◌, ◌<◌, ◌≤◌, ◌⊎◌, inl, inr, sym, ap, ◌∙◌, arith, Some, List, [], ◌∷◌, ◌++◌, length}
use Rattle.std.specs.Prelude.{slice_get, replicate}
use Rattle.std.proofs.lemmas.List.{length-replicate}
use Rattle.norm_base.specs.Settings.{Settings}
use Rattle.fec_plan.specs.Partition.{Cut}
use Rattle.tx_object.specs.Held.{HeldObject, octets_of, octets_in}
use Rattle.tx_object.specs.Placed.{taken_by}
use Rattle.tx_object.specs.Round.{round, IsAround, IsClear}
use Rattle.tx_object.proofs.RoundLemmas.{length-round}
use Rattle.tx_window.specs.Rows.{IsFilling, IsRow}
use Rattle.tx_window.specs.Ending.{IsEnded}
use Rattle.tx_window.proofs.RowLemmas.{AreCutBy, all_fit, symbols_taken, taken_append, taken_cons, row_clear}
use Rattle.tx_window.proofs.FillingLemmas.{IsPut, put_zeros, filled_more}

-- what is clear of an object is clear of the end of its last symbol
clear_end : (size start filled taken at other count : ℕ) → filled ≤ taken → IsAround size (start + filled) at → IsClear size start taken other count
    → IsClear size at (taken - filled) other count
clear_end size start filled taken at other count le around clear = record { within = clear.within; apart = apart around.1 clear.apart }
  where
    apart : (at ≡ start + filled) ⊎ (at + size ≡ start + filled)
        → ((start + taken ≤ other) × (other + count ≤ start + size)) ⊎ ((other + count ≤ start) × (start + taken ≤ other + size))
        → ((at + (taken - filled) ≤ other) × (other + count ≤ at + size)) ⊎ ((other + count ≤ at) × (at + (taken - filled) ≤ other + size))
    apart (inl is) (inl clear-by) = inl (omega (arith, is, le, clear-by.0), omega (arith, is, clear-by.1))
    apart (inl is) (inr clear-by) = inr (omega (arith, is, clear-by.0), omega (arith, is, le, clear-by.1))
    apart (inr is) (inl clear-by) = absurd (omega (arith, is, le, clear-by.0, clear.within))
    apart (inr is) (inr clear-by) = inl (omega (arith, is, le, clear-by.1), omega (arith, is, clear-by.0))

-- zeros behind its octets end an object
pub ended : (ring new : List ℕ) (h : HeldObject) (filled at : ℕ) → h.start < length ring → taken_by h ≤ length ring → filled ≤ taken_by h
    → length new ≡ length ring → IsAround (length ring) (h.start + filled) at → round new at (taken_by h - filled) ≡ replicate (taken_by h - filled) 0
    → ((other count : ℕ) → IsClear (length ring) at (taken_by h - filled) other count → round new other count ≡ round ring other count)
    → IsEnded ring new filled h
ended ring new h filled at start room within size around cleared others =
    let put : IsPut ring new (replicate (taken_by h - filled) 0) h.start filled at = put_zeros ring new h.start filled at (taken_by h - filled) size around cleared others in
    let long = length-replicate {A = ℕ} (taken_by h - filled) 0 in
    record {
      size = size;
      octets =
          ap (round new h.start) (let e : taken_by h ≡ filled + length (replicate {A = ℕ} (taken_by h - filled) 0) = omega (arith, long, within) in e)
          ∙ filled_more ring new (replicate (taken_by h - filled) 0) h.start filled at put start (omega (arith, long, within, room));
      others = λ other count clear. others other count (clear_end (length ring) h.start filled (taken_by h) at other count within around clear);
    }

-- all octets of an object that is being filled are there
pub record AreThere (ring : List ℕ) (filled : ℕ) (h : HeldObject) : Type 0 where
  pub within : filled ≤ taken_by h
  pub least : taken_by h - filled ≤ 1400
  pub long : length (round ring h.start filled) ≡ octets_of h.cut
  pub all : filled ≡ octets_of h.cut

pub are_there : (ring : List ℕ) (p : Settings) (filled : ℕ) (h : HeldObject) → IsFilling ring p filled h → length (round ring h.start filled) ≡ octets_of h.cut
    → AreThere ring filled h
are_there ring p filled h filling whole =
    let e-is : h.cut.e ≡ p.e = ap (λ (k : Cut). k.e) filling.cut in
    let taken = symbols_taken p h (omega (arith, e-is, filling.sound.least_e)) filling.cut in
    let within : filled ≤ taken_by h = omega (arith, filling.within, taken.1.0) in
    let long = length-round ring h.start filled filling.lies.start (omega (arith, within, filling.lies.room)) in
    record {
      within = within;
      least = omega (arith, taken.1.1, long, whole, e-is, filling.sound.most_e);
      long = whole;
      all = sym long ∙ whole;
    }

-- each object before it is as it was
pub kept_ended : (ring new : List ℕ) (p : Settings) (hs : List HeldObject) (h : HeldObject) (next filled : ℕ) → IsEnded ring new filled h → h.start < length ring
    → 0 < p.e → length ring ≡ (p.octets / p.e + p.window) * p.e → IsRow ring p (hs ++ h ∷ []) next → AreCutBy p (hs ++ h ∷ [])
    → (i : ℕ) (o : HeldObject) → slice_get hs i ≡ Some o → octets_in new o ≡ octets_in ring o
kept_ended ring new p hs h next filled end start some long row cut i o found =
    let all = all_fit p (hs ++ h ∷ []) some cut row.few row.fit in
    end.others o.start (taken_by o)
    (row_clear (length ring) row.head row.head hs h next 0 (taken_by h) h.start (omega arith) row.head_within
    (omega (arith, all, long, taken_append hs (h ∷ []), taken_cons h [])) row.in_row (omega arith) (start, inl (omega arith)) i o found)
