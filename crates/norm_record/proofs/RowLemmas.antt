-- A row keeps its pieces as another one joins.
use Rattle.std.proofs.Common.{◌≡◌, ℕ, ◌+◌, List, [], ◌∷◌, ◌++◌, length, take, drop, All, refl, sym, subst, ap, ◌∙◌, arith, rules, sum_by}
use Rattle.std.proofs.lemmas.List.{map-append, drop-append-le, take-append-le, length-drop, length-append, drop_at, take_all}
use Rattle.std.proofs.lemmas.List.Elements.{All-head, All-tail, All-append, All-weaker, All-cons}
use Rattle.std.proofs.lemmas.List.Sums.{sum_by_push}
use Rattle.norm_record.specs.declared.row.Piece.{Piece}
use Rattle.norm_record.specs.Pieces.{piece_in, pieces_of, IsWithin, ArePieces}

piece_stays : (octets more : List ℕ) (p : Piece) → IsWithin (length octets) p → piece_in (octets ++ more) p ≡ piece_in octets p
piece_stays octets more p fits =
    ap (take p.len) (drop-append-le p.from octets more (omega (arith, fits)))
    ∙ take-append-le p.len (drop p.from octets) more (let e = length-drop p.from octets in omega (arith, e, fits))

pieces_stay : (octets more : List ℕ) (ps : List Piece) → All (IsWithin (length octets)) ps → pieces_of (octets ++ more) ps ≡ pieces_of octets ps
pieces_stay octets more [] fit = refl
pieces_stay octets more (p ∷ ps) fit =
    ap (λ x. x ∷ pieces_of (octets ++ more) ps) (piece_stays octets more p (All-head (IsWithin (length octets)) p ps fit))
    ∙ ap (λ xs. piece_in octets p ∷ xs) (pieces_stay octets more ps (All-tail (IsWithin (length octets)) p ps fit))

-- the piece that joins
abbrev behind : List ℕ → List ℕ → Piece
behind octets more = record { from = length octets; len = length more }

is_behind : (octets more : List ℕ) → piece_in (octets ++ more) (behind octets more) ≡ more
is_behind octets more = ap (take (length more)) (drop_at octets more (length octets) refl) ∙ take_all (length more) more (omega arith)

pub piece_joins : (octets more : List ℕ) (ps : List Piece) → ArePieces octets ps
    → pieces_of (octets ++ more) (ps ++ behind octets more ∷ []) ≡ pieces_of octets ps ++ more ∷ []
piece_joins octets more ps sound =
    map-append (piece_in (octets ++ more)) ps (behind octets more ∷ [])
    ∙ ap (λ xs. xs ++ piece_in (octets ++ more) (behind octets more) ∷ []) (pieces_stay octets more ps sound.within)
    ∙ ap (λ x. pieces_of octets ps ++ x ∷ []) (is_behind octets more)

pub still_pieces : (octets more : List ℕ) (ps : List Piece) → ArePieces octets ps → ArePieces (octets ++ more) (ps ++ behind octets more ∷ [])
still_pieces octets more ps sound = record {
  within = All-append (IsWithin (length (octets ++ more))) ps (behind octets more ∷ [])
      (All-weaker (IsWithin (length octets)) (IsWithin (length (octets ++ more))) (λ p h. let e = length-append octets more in omega (arith, e, h)) ps sound.within)
      (All-cons (IsWithin (length (octets ++ more))) (behind octets more) [] (let e = length-append octets more in omega (arith, e)) (λ k. search rules));
  count =
      ap (sum_by length) (piece_joins octets more ps sound)
      ∙ sum_by_push length (pieces_of octets ps) more
      ∙ ap (λ n. n + length more) sound.count
      ∙ (let e = length-append octets more in omega (arith, e));
}

-- a row after one more piece
abbrev Joins : List ℕ → List Piece → List ℕ → List ℕ → List Piece → Type 0
Joins octets ps more octets' ps' = ArePieces octets' ps' × (pieces_of octets' ps' ≡ pieces_of octets ps ++ more ∷ [])

-- the same where the new row is known by equations
pub joins : (octets more : List ℕ) (ps : List Piece) (octets' : List ℕ) (ps' : List Piece) (n m : ℕ) → ArePieces octets ps
    → octets' ≡ octets ++ more → ps' ≡ ps ++ record { from = n; len = m } ∷ [] → n ≡ length octets → m ≡ length more
    → Joins octets ps more octets' ps'
joins octets more ps octets' ps' n m sound os pieces from len =
    subst (λ os'. Joins octets ps more os' ps') (sym os)
    (subst (λ new. Joins octets ps more (octets ++ more) new)
    (sym (pieces ∙ ap (λ k. ps ++ record { from = k; len = m } ∷ []) from ∙ ap (λ k. ps ++ record { from = length octets; len = k } ∷ []) len))
    (still_pieces octets more ps sound, piece_joins octets more ps sound))
