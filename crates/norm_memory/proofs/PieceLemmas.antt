use Rattle.std.proofs.Common.{◌≡◌, ◌∙◌, sym, ap, refl, ℕ, zero, suc, ◌+◌, ◌≤◌, List, [], ◌∷◌, ◌++◌, length, take, drop, arith, append_assoc}
use Rattle.std.specs.List.{concat, slice_range}
use Rattle.std.proofs.lemmas.List.{take-append-drop, append-nil, drop_all, take-append-le}
use Rattle.std.proofs.lemmas.List.Folds.{drop_split, concat-append}
use Rattle.norm_base.specs.Told.{front_piece}
use Rattle.norm_memory.specs.Writing.{cut_at, pieces_at, Climbs}
use Rattle.norm_memory.proofs.RangeLemmas.{range-append, range-appended}

climbs-le : (start : ℕ) (stops : List ℕ) (last : ℕ) → Climbs start stops last → start ≤ last
climbs-le start [] last e = omega arith
climbs-le start (stop ∷ stops) last h = omega (arith, h.0, climbs-le stop stops last h.1)

-- one more place
pub climbs-more : (start : ℕ) (stops : List ℕ) (last next : ℕ) → Climbs start stops last → last ≤ next → Climbs start (stops ++ next ∷ []) next
climbs-more start [] last next e up = (omega arith, refl)
climbs-more start (stop ∷ stops) last next h up = (h.0, climbs-more stop stops last next h.1 up)

-- one more piece
cut-more : (octets more : List ℕ) (start : ℕ) (stops : List ℕ) (next : ℕ) → next ≡ length octets + length more → Climbs start stops (length octets)
    → cut_at (octets ++ more) start (stops ++ next ∷ []) ≡ cut_at octets start stops ++ more ∷ []
cut-more octets more start [] next is e = ap (λ piece. piece ∷ []) (rw e (range-appended octets more next is))
cut-more octets more start (stop ∷ stops) next is h =
    ap (λ piece. piece ∷ cut_at (octets ++ more) stop (stops ++ next ∷ [])) (range-append octets more start stop h.0 (climbs-le stop stops (length octets) h.1))
    ∙ ap (λ rest. slice_range octets start stop ∷ rest) (cut-more octets more stop stops next is h.1)

front-more : (octets more : List ℕ) (before : ℕ) → before ≤ length octets → front_piece before (octets ++ more) ≡ front_piece before octets
front-more octets more zero within = refl
front-more octets more (suc k) within = ap (λ piece. piece ∷ []) (take-append-le (suc k) octets more within)

pub pieces-more : (octets more : List ℕ) (before : ℕ) (stops : List ℕ) (next : ℕ) → next ≡ length octets + length more → Climbs before stops (length octets)
    → pieces_at (octets ++ more) before (stops ++ next ∷ []) ≡ pieces_at octets before stops ++ more ∷ []
pieces-more octets more before stops next is h =
    ap (λ front. front ++ cut_at (octets ++ more) before (stops ++ next ∷ [])) (front-more octets more before (climbs-le before stops (length octets) h))
    ∙ ap (λ rest. front_piece before octets ++ rest) (cut-more octets more before stops next is h)
    ∙ sym (append_assoc (front_piece before octets) (cut_at octets before stops) (more ∷ []))

-- the octets are those of all pieces, one after the other
cut-whole : (octets : List ℕ) (start : ℕ) (stops : List ℕ) → Climbs start stops (length octets) → concat (cut_at octets start stops) ≡ drop start octets
cut-whole octets start [] e = sym (rw e (drop_all (length octets) octets (omega arith)))
cut-whole octets start (stop ∷ stops) h =
    ap (λ rest. slice_range octets start stop ++ rest) (cut-whole octets stop stops h.1) ∙ sym (drop_split octets start stop h.0)

front-whole : (octets : List ℕ) (before : ℕ) → concat (front_piece before octets) ≡ take before octets
front-whole octets zero = refl
front-whole octets (suc k) = append-nil (take (suc k) octets)

pub pieces-whole : (octets : List ℕ) (before : ℕ) (stops : List ℕ) → Climbs before stops (length octets) → concat (pieces_at octets before stops) ≡ octets
pieces-whole octets before stops h =
    concat-append (front_piece before octets) (cut_at octets before stops)
    ∙ ap (λ front. front ++ concat (cut_at octets before stops)) (front-whole octets before)
    ∙ ap (λ rest. take before octets ++ rest) (cut-whole octets before stops h)
    ∙ take-append-drop before octets
