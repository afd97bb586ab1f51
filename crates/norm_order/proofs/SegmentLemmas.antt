-- The segments of a stream hold its octets in order.
use Rattle.std.proofs.Common.{◌≡◌, ℕ, zero, suc, ◌+◌, ◌-◌, ◌*◌, ◌/◌, ◌%◌, ◌<◌, List, [], ◌∷◌, ◌++◌, length, take, drop, false, refl, sym, ap, ◌∙◌, arith, append_assoc, append-nil, length-append, length-drop, flat_map}
use Rattle.std.specs.Int.{div_ceil}
use Rattle.std.proofs.lemmas.Grind.{div_ceil_times, flat_map-append}
use Rattle.std.proofs.lemmas.List.{take-append-drop, take_all}
use Rattle.std.proofs.Math.Seq.{take-add, take-append_seam}
use Rattle.std.proofs.Math.Nat.{div-add-mod, mul_comm}
use Rattle.norm_order.specs.Entries.{Part, Write, Cut, End}
use Rattle.norm_order.specs.Segments.{pieces, full_pieces, all_pieces, closed_from, placed, written, since_cut, unclosed, has_end}
use Rattle.norm_order.specs.Laws.{joined_octets, SegmentLaws}

-- lists in a row
abbrev pub joined : List (List ℕ) → List ℕ
joined lists = flat_map (λ list. list) lists

pub joined-placed : (offset : ℕ) (lists : List (List ℕ)) → joined_octets (placed offset lists) ≡ joined lists
unfolding placed
joined-placed offset [] = refl
joined-placed offset (x ∷ lists) = ap (λ rest. x ++ rest) (joined-placed (offset + length x) lists)

joined-pieces : (e n : ℕ) (octets : List ℕ) → joined (pieces e n octets) ≡ take (n * e) octets
unfolding pieces
joined-pieces e zero octets = ap (λ m. take m octets) (let none : 0 ≡ zero * e = omega arith in none)
joined-pieces e (suc n) octets =
    ap (λ rest. take e octets ++ rest) (joined-pieces e n (drop e octets)) ∙ sym (take-add e (n * e) octets)
    ∙ ap (λ m. take m octets) (let m : e + n * e ≡ suc n * e = omega arith in m)

joined-all : (e : ℕ) (octets : List ℕ) → 0 < e → joined (all_pieces e octets) ≡ octets
joined-all e octets e_pos =
    joined-pieces e (div_ceil (length octets) e) octets
    ∙ take_all (div_ceil (length octets) e * e) octets (div_ceil_times (length octets) e e_pos).0

-- the octets of the segment that is not closed
abbrev pub left_over : ℕ → List ℕ → List ℕ
left_over e since = drop (length since / e * e) since

joined-full : (e : ℕ) (since : List ℕ) → joined (full_pieces e since) ++ left_over e since ≡ since
joined-full e since =
    ap (λ front. front ++ left_over e since) (joined-pieces e (length since / e) since)
    ∙ take-append-drop (length since / e * e) since

length-left_over : (e : ℕ) (since : List ℕ) → length (left_over e since) ≡ length since % e
length-left_over e since = omega (arith, length-drop (length since / e * e) since, div-add-mod (length since) e, mul_comm e (length since / e))

abbrev IsOpen : List Part → Type 0
IsOpen parts = has_end parts ≡ false

closed-left : (e : ℕ) (since : List ℕ) (parts : List Part) → 0 < e → IsOpen parts
    → joined (closed_from e since parts) ++ left_over e (since_cut since parts) ≡ since ++ written parts
unfolding closed_from since_cut written has_end
closed-left e since [] e_pos unended = joined-full e since ∙ sym (append-nil since)
closed-left e since (Write by octets ∷ parts) e_pos unended =
    closed-left e (since ++ octets) parts e_pos unended ∙ append_assoc since octets (written parts)
closed-left e since (Cut ∷ parts) e_pos unended =
    ap (λ front. front ++ left_over e (since_cut [] parts)) (flat_map-append (λ (list : List ℕ). list) (all_pieces e since) (closed_from e [] parts))
    ∙ append_assoc (joined (all_pieces e since)) (joined (closed_from e [] parts)) (left_over e (since_cut [] parts))
    ∙ ap (λ rest. joined (all_pieces e since) ++ rest) (closed-left e [] parts e_pos unended)
    ∙ ap (λ front. front ++ written parts) (joined-all e since e_pos)
closed-left e since (End ∷ parts) e_pos unended = cc

ended : (e : ℕ) (since : List ℕ) (parts : List Part) → 0 < e → IsOpen parts
    → joined (closed_from e since (parts ++ End ∷ [])) ≡ since ++ written parts
unfolding closed_from written has_end
ended e since [] e_pos unended =
    flat_map-append (λ (list : List ℕ). list) (all_pieces e since) ([] ∷ [])
    ∙ ap (λ front. front ++ []) (joined-all e since e_pos)
ended e since (Write by octets ∷ parts) e_pos unended =
    ended e (since ++ octets) parts e_pos unended ∙ append_assoc since octets (written parts)
ended e since (Cut ∷ parts) e_pos unended =
    flat_map-append (λ (list : List ℕ). list) (all_pieces e since) (closed_from e [] (parts ++ End ∷ []))
    ∙ ap (λ rest. joined (all_pieces e since) ++ rest) (ended e [] parts e_pos unended)
    ∙ ap (λ front. front ++ written parts) (joined-all e since e_pos)
ended e since (End ∷ parts) e_pos unended = cc

-- a front by its length
front_of : (xs ys zs : List ℕ) (n : ℕ) → xs ++ ys ≡ zs → length ys ≡ n → xs ≡ take (length zs - n) zs
front_of xs ys zs n is many =
    sym (take-append_seam xs ys)
    ∙ ap (λ list. take (length xs) list) is
    ∙ ap (λ m. take m zs) (let long : length xs ≡ length zs - n = omega (arith, length-append xs ys, ap length is) in long)

pub segment_laws : SegmentLaws
segment_laws = record {
  of_ended = λ e parts e_pos unended. joined-placed 0 (closed_from e [] (parts ++ End ∷ [])) ∙ ended e [] parts e_pos unended;
  of_open = λ e parts e_pos unended. joined-placed 0 (closed_from e [] parts)
      ∙ front_of (joined (closed_from e [] parts)) (left_over e (since_cut [] parts)) (written parts) (unclosed e parts)
      (closed-left e [] parts e_pos unended) (length-left_over e (since_cut [] parts));
}
