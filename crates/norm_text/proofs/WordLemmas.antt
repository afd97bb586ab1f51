-- Words of several pieces.
use Rattle.std.proofs.Common.{◌≡◌, ℕ, ◌+◌, ◌<◌, List, [], ◌∷◌, ◌++◌, length, get_or, map, take, refl, sym, ap, ◌∙◌, append_assoc}
use Rattle.std.proofs.lemmas.List.{map_more}
use Rattle.std.proofs.lemmas.List.Sums.{fold_push}
use Rattle.std.specs.Fmt.{decimal}
use Rattle.norm_text.specs.Words.{with_piece, with_pieces}

-- pieces behind a text with a word at its end are a text with the longer word
pub pieces_onto : (by : ℕ) (text word : List ℕ) (pieces : List (List ℕ)) → with_pieces by (text ++ word) pieces ≡ text ++ with_pieces by word pieces
pieces_onto by text word [] = refl
pieces_onto by text word (piece ∷ pieces) =
    ap (λ (t : List ℕ). with_pieces by t pieces) (append_assoc text word (by ∷ piece)) ∙ pieces_onto by text (word ++ by ∷ piece) pieces

-- one more number is put
pub one_more_number : (by : ℕ) (start text after numbers : List ℕ) (i : ℕ) → i < length numbers
    → text ≡ with_pieces by start (map decimal (take i numbers)) → after ≡ with_piece by text (decimal (get_or numbers i 0))
    → after ≡ with_pieces by start (map decimal (take (i + 1) numbers))
one_more_number by start text after numbers i within so_far put =
    put
    ∙ ap (λ (t : List ℕ). with_piece by t (decimal (get_or numbers i 0))) so_far
    ∙ sym (fold_push (with_piece by) start (map decimal (take i numbers)) (decimal (get_or numbers i 0)))
    ∙ ap (λ (words : List (List ℕ)). with_pieces by start words) (sym (map_more decimal numbers i 0 within))

-- a piece of pieces is put
pub joined_put : (by within : ℕ) (start text after word : List ℕ) (others : List (List ℕ)) → text ≡ with_piece by start word → after ≡ with_pieces within text others
    → after ≡ with_piece by start (with_pieces within word others)
joined_put by within start text after word others first put =
    put
    ∙ ap (λ (t : List ℕ). with_pieces within t others) first
    ∙ pieces_onto within start (by ∷ word) others
    ∙ ap (λ (t : List ℕ). start ++ t) (pieces_onto within (by ∷ []) word others)

-- a loop that puts the pieces of a list: one more of them
pub pieces_more : {A : Type 0} (f : A → List ℕ) (by : ℕ) (text after whole : List ℕ) (all rest : List A) (x : A) → all ≡ x ∷ rest → after ≡ with_piece by text (f x)
    → with_pieces by text (map f all) ≡ whole → with_pieces by after (map f rest) ≡ whole
pieces_more f by text after whole all rest x is put so =
    ap (λ (t : List ℕ). with_pieces by t (map f rest)) put ∙ sym (ap (λ (xs : List _). with_pieces by text (map f xs)) is) ∙ so

-- and none is left
pub pieces_end : {A : Type 0} (f : A → List ℕ) (by : ℕ) (text whole : List ℕ) (all : List A) → all ≡ [] → with_pieces by text (map f all) ≡ whole → text ≡ whole
pieces_end f by text whole all is so = sym (ap (λ (xs : List _). with_pieces by text (map f xs)) is) ∙ so
