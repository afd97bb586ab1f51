-- Words that are read in pairs.
use Rattle.std.proofs.Common.{◌≡◌, ◌∙◌, sym, ap, refl, arith, ℕ, zero, suc, ◌+◌, ◌*◌, ◌/◌, ◌%◌, ◌<◌, List, [], ◌∷◌, ◌++◌, map, drop, length, get_or, append_assoc, Option, Some, None, Bor}
use Rattle.std.specs.Option.{option_map}
use Rattle.std.proofs.lemmas.List.{length-map, drop_more}
use Rattle.norm_script.specs.Words.{number_within}
use Rattle.norm_args.specs.NodeTasks.{pairs_of, onto_pairs}

abbrev Pairs : Type 0
Pairs = List (List ℕ × ℕ)

abbrev texts : List (Bor (List ℕ)) → List (List ℕ)
texts words = map (λ word. word.now) words

-- what the code reads beyond the words
abbrev pub nothing : Bor (List ℕ)
nothing = record { ref_ptr = (0, 0); now = [] }

-- with these before it
abbrev behind : Pairs → Option Pairs → Option Pairs
behind front pairs = option_map (λ (others : Pairs). front ++ others) pairs

one_more : (front : Pairs) (pair : List ℕ × ℕ) (pairs : Option Pairs)
    → behind front (option_map (λ (others : Pairs). pair ∷ others) pairs) ≡ behind (front ++ pair ∷ []) pairs
one_more front pair None = refl
one_more front pair (Some pairs) = ap Some (sym (append_assoc front (pair ∷ []) pairs))

none_onto : (path : List ℕ) (node : Option ℕ) → onto_pairs path node None ≡ None
none_onto path None = refl
none_onto path (Some node) = refl

-- an odd number of words
odd : (words : List (List ℕ)) → (length words % 2 ≡ 0 → ⊥) → pairs_of words ≡ None
odd [] differs = absurd (differs refl)
odd (x ∷ []) differs = refl
odd (x ∷ y ∷ words) differs =
    ap (onto_pairs x (number_within 1 4294967294 y)) (odd words (λ e. differs (omega (arith, e)))) ∙ none_onto x (number_within 1 4294967294 y)

pub no_pairs_odd : (words : List (Bor (List ℕ))) → (length words % 2 ≡ 0 → ⊥) → None ≡ pairs_of (texts words)
no_pairs_odd words differs = sym (odd (texts words) (λ e. differs (sym (ap (λ n. n % 2) (length-map words (λ word. word.now))) ∙ e)))

read_at : (words : List (Bor (List ℕ))) (k : ℕ) → get_or (texts words) k [] ≡ (get_or words k nothing).now
read_at [] k = refl
read_at (word ∷ words) zero = refl
read_at (word ∷ words) (suc k) = read_at words k

-- the words from a pair on
from_pair : (words : List (Bor (List ℕ))) (i : ℕ) → i < length words / 2
    → drop (2 * i) (texts words) ≡ (get_or words (2 * i) nothing).now ∷ (get_or words (2 * i + 1) nothing).now ∷ drop (2 * (i + 1)) (texts words)
from_pair words i lt =
    let len = length-map words (λ word. word.now) in
    let next : 2 * i + 1 + 1 ≡ 2 * (i + 1) = omega arith in
    drop_more (texts words) (2 * i) [] (omega (arith, lt, len))
    ∙ ap (λ ws. get_or (texts words) (2 * i) [] ∷ ws) (drop_more (texts words) (2 * i + 1) [] (omega (arith, lt, len)))
    ∙ ap (λ w. w ∷ get_or (texts words) (2 * i + 1) [] ∷ drop (2 * i + 1 + 1) (texts words)) (read_at words (2 * i))
    ∙ ap (λ w. (get_or words (2 * i) nothing).now ∷ w ∷ drop (2 * i + 1 + 1) (texts words)) (read_at words (2 * i + 1))
    ∙ ap (λ n. (get_or words (2 * i) nothing).now ∷ (get_or words (2 * i + 1) nothing).now ∷ drop n (texts words)) next

-- the next pair
pub pairs_on : (words : List (Bor (List ℕ))) (i : ℕ) (whole : Option Pairs) (front now : Pairs) (path : List ℕ) (node : ℕ) → i < length words / 2
    → whole ≡ behind front (pairs_of (drop (2 * i) (texts words))) → number_within 1 4294967294 (get_or words (2 * i + 1) nothing).now ≡ Some node
    → path ≡ (get_or words (2 * i) nothing).now → now ≡ front ++ (path, node) ∷ [] → whole ≡ behind now (pairs_of (drop (2 * (i + 1)) (texts words)))
pairs_on words i whole front now path node lt so_far is path_is put =
    so_far ∙ ap (λ ws. behind front (pairs_of ws)) (from_pair words i lt)
    ∙ ap (λ n. behind front (onto_pairs (get_or words (2 * i) nothing).now n (pairs_of (drop (2 * (i + 1)) (texts words))))) is
    ∙ ap (λ p. behind front (onto_pairs p (Some node) (pairs_of (drop (2 * (i + 1)) (texts words))))) (sym path_is)
    ∙ one_more front (path, node) (pairs_of (drop (2 * (i + 1)) (texts words)))
    ∙ ap (λ f. behind f (pairs_of (drop (2 * (i + 1)) (texts words)))) (sym put)

-- a node that is none
pub no_pairs : (words : List (Bor (List ℕ))) (i : ℕ) (whole : Option Pairs) (front : Pairs) → i < length words / 2
    → whole ≡ behind front (pairs_of (drop (2 * i) (texts words))) → number_within 1 4294967294 (get_or words (2 * i + 1) nothing).now ≡ None → None ≡ whole
no_pairs words i whole front lt so_far none =
    sym (so_far ∙ ap (λ ws. behind front (pairs_of ws)) (from_pair words i lt)
    ∙ ap (λ n. behind front (onto_pairs (get_or words (2 * i) nothing).now n (pairs_of (drop (2 * (i + 1)) (texts words))))) none)
