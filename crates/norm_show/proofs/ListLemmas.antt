-- The words of a list, one after the other.
use Rattle.std.proofs.Common.{◌≡◌, ℕ, ◌≤◌, ◌<◌, List, [], ◌∷◌, length, drop, map, Some, refl, sym, ap, ◌∙◌, arith}
use Rattle.std.specs.Prelude.{slice_get}
use Rattle.std.specs.Fmt.{decimal}
use Rattle.norm_ext.specs.Lists.{nodes_of, objects_of}
use Rattle.norm_ext.specs.Numbers.{number}
use Rattle.norm_ext.specs.Requests.{Request, items_named}
use Rattle.norm_ext.specs.declared.head.Item.{Item}
use Rattle.norm_text.specs.Words.{with_piece, with_pieces, with_word, joined, numbers_word}
use Rattle.norm_text.proofs.WordLemmas.{joined_put, pieces_more}
use Rattle.norm_show.specs.Words.{item_word, request_word, requests_word}

pub nodes_step : (xs : List ℕ) → 4 ≤ length xs → nodes_of xs ≡ number 4 0 xs ∷ nodes_of (drop 4 xs)
nodes_step [] long = absurd (omega (arith, long))
nodes_step (a ∷ []) long = absurd (omega (arith, long))
nodes_step (a ∷ b ∷ []) long = absurd (omega (arith, long))
nodes_step (a ∷ b ∷ c ∷ []) long = absurd (omega (arith, long))
nodes_step (a ∷ b ∷ c ∷ d ∷ rest) long = refl

pub nodes_end : (xs : List ℕ) → length xs < 4 → nodes_of xs ≡ []
nodes_end [] short = refl
nodes_end (a ∷ []) short = refl
nodes_end (a ∷ b ∷ []) short = refl
nodes_end (a ∷ b ∷ c ∷ []) short = refl
nodes_end (a ∷ b ∷ c ∷ d ∷ rest) short = absurd (omega (arith, short))

pub objects_step : (xs : List ℕ) → 2 ≤ length xs → objects_of xs ≡ number 2 0 xs ∷ objects_of (drop 2 xs)
objects_step [] long = absurd (omega (arith, long))
objects_step (a ∷ []) long = absurd (omega (arith, long))
objects_step (a ∷ b ∷ rest) long = refl

pub objects_end : (xs : List ℕ) → length xs < 2 → objects_of xs ≡ []
objects_end [] short = refl
objects_end (a ∷ []) short = refl
objects_end (a ∷ b ∷ rest) short = absurd (omega (arith, short))

-- ---- the first piece of a list is put, and one more

-- behind a separator stands the first piece, and the others are put behind it
begin : {A : Type 0} (f : A → List ℕ) (by within : ℕ) (start text : List ℕ) (x : A) (rest all : List A) → text ≡ with_piece by start (f x) → all ≡ x ∷ rest
    → with_pieces within text (map f rest) ≡ with_piece by start (joined within (map f all))
begin f by within start text x rest all is every =
    joined_put by within start text (with_pieces within text (map f rest)) (f x) (map f rest) is refl
    ∙ ap (λ (xs : List _). with_piece by start (joined within (map f xs))) (sym every)

numbers_begin : (start text : List ℕ) (first : ℕ) (rest all : List ℕ) → text ≡ with_word start (decimal first) → all ≡ first ∷ rest
    → with_pieces 44 text (map decimal rest) ≡ with_word start (numbers_word all)
numbers_begin start text first rest all is every =
    begin decimal 32 44 start text first rest (first ∷ rest) is refl ∙ ap (λ (ns : List ℕ). with_word start (numbers_word ns)) (sym every)

pub nodes_begin : (start list text rest : List ℕ) (first : ℕ) → 4 ≤ length list → text ≡ with_word start (decimal first) → first ≡ number 4 0 list → rest ≡ drop 4 list
    → with_pieces 44 text (map decimal (nodes_of rest)) ≡ with_word start (numbers_word (nodes_of list))
nodes_begin start list text rest first long is value back =
    numbers_begin start text first (nodes_of rest) (nodes_of list) is
    (nodes_step list long ∙ ap (λ (n : ℕ). n ∷ nodes_of (drop 4 list)) (sym value) ∙ ap (λ (r : List ℕ). first ∷ nodes_of r) (sym back))

pub nodes_more : (rest behind text after whole : List ℕ) (n : ℕ) → 4 ≤ length rest → n ≡ number 4 0 rest → after ≡ with_piece 44 text (decimal n) → behind ≡ drop 4 rest
    → with_pieces 44 text (map decimal (nodes_of rest)) ≡ whole → with_pieces 44 after (map decimal (nodes_of behind)) ≡ whole
nodes_more rest behind text after whole n long value put back so =
    pieces_more decimal 44 text after whole (nodes_of rest) (nodes_of behind) n
    (nodes_step rest long ∙ ap (λ (m : ℕ). m ∷ nodes_of (drop 4 rest)) (sym value) ∙ ap (λ (r : List ℕ). n ∷ nodes_of r) (sym back)) put so

pub objects_begin : (start list text rest : List ℕ) (first : ℕ) → 2 ≤ length list → text ≡ with_word start (decimal first) → first ≡ number 2 0 list → rest ≡ drop 2 list
    → with_pieces 44 text (map decimal (objects_of rest)) ≡ with_word start (numbers_word (objects_of list))
objects_begin start list text rest first long is value back =
    numbers_begin start text first (objects_of rest) (objects_of list) is
    (objects_step list long ∙ ap (λ (n : ℕ). n ∷ objects_of (drop 2 list)) (sym value) ∙ ap (λ (r : List ℕ). first ∷ objects_of r) (sym back))

pub objects_more : (rest behind text after whole : List ℕ) (n : ℕ) → 2 ≤ length rest → n ≡ number 2 0 rest → after ≡ with_piece 44 text (decimal n) → behind ≡ drop 2 rest
    → with_pieces 44 text (map decimal (objects_of rest)) ≡ whole → with_pieces 44 after (map decimal (objects_of behind)) ≡ whole
objects_more rest behind text after whole n long value put back so =
    pieces_more decimal 44 text after whole (objects_of rest) (objects_of behind) n
    (objects_step rest long ∙ ap (λ (m : ℕ). m ∷ objects_of (drop 2 rest)) (sym value) ∙ ap (λ (r : List ℕ). n ∷ objects_of r) (sym back)) put so

pub items_begin : (start text items rest : List ℕ) (x : Item) → text ≡ with_piece 58 start (item_word x) → items_named items ≡ x ∷ items_named rest
    → with_pieces 43 text (map item_word (items_named rest)) ≡ with_piece 58 start (joined 43 (map item_word (items_named items)))
items_begin start text items rest x is every = begin item_word 58 43 start text x (items_named rest) (items_named items) is every

pub items_more : (rest behind text after whole : List ℕ) (x : Item) → items_named rest ≡ x ∷ items_named behind → after ≡ with_piece 43 text (item_word x)
    → with_pieces 43 text (map item_word (items_named rest)) ≡ whole → with_pieces 43 after (map item_word (items_named behind)) ≡ whole
items_more rest behind text after whole x is put so =
    pieces_more item_word 43 text after whole (items_named rest) (items_named behind) x is put so

pub requests_begin : (start text : List ℕ) (x : Request) (all left : List Request) → text ≡ with_word start (request_word x) → Some x ≡ slice_get all 0 → left ≡ drop 1 all
    → with_pieces 44 text (map request_word left) ≡ with_word start (requests_word all)
requests_begin start text x [] left is first rest = absurd cc
requests_begin start text x (y ∷ ys) left is first rest =
    let same : x ≡ y = cc in
    ap (λ (l : List Request). with_pieces 44 text (map request_word l)) rest
    ∙ begin request_word 32 44 start text y ys (y ∷ ys) (is ∙ ap (λ (r : Request). with_word start (request_word r)) same) refl
