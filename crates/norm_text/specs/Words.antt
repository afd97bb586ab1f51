-- The words of printed lines.
use Rattle.std.specs.Prelude.{ℕ, List, [], ◌∷◌, ◌++◌, fold, map, codes, Option, None, Some}
use Rattle.std.specs.Fmt.{decimal}
use Rattle.hex.specs.Hex.{encode_lower}
use Rattle.norm_base.specs.declared.kinds.Kind.{Kind}
use Rattle.norm_base.specs.declared.kinds.Kind.TheVariants as kind

-- one more piece behind a separator
abbrev pub with_piece : ℕ → List ℕ → List ℕ → List ℕ
with_piece by text piece = text ++ by ∷ piece

-- more pieces, each behind a separator
abbrev pub with_pieces : ℕ → List ℕ → List (List ℕ) → List ℕ
with_pieces by text pieces = fold (with_piece by) text pieces

-- one more word behind a space
abbrev pub with_word : List ℕ → List ℕ → List ℕ
with_word text word = with_piece 32 text word

-- more words
abbrev pub with_words : List ℕ → List (List ℕ) → List ℕ
with_words text words = with_pieces 32 text words

-- a line: its first word, the further words, and a line feed
abbrev pub line : List ℕ → List (List ℕ) → List ℕ
line word words = with_words word words ++ codes "\n"

-- a word of pieces with a separator between them
abbrev pub joined : ℕ → List (List ℕ) → List ℕ
joined by [] = []
joined by (piece ∷ pieces) = with_pieces by piece pieces

-- a list of pieces with commas between them; a dash stands for none
abbrev pub list_word : List (List ℕ) → List ℕ
list_word [] = codes "-"
list_word (piece ∷ pieces) = joined 44 (piece ∷ pieces)

-- a list of numbers
abbrev pub numbers_word : List ℕ → List ℕ
numbers_word numbers = list_word (map decimal numbers)

-- contents in lower-case hexadecimal; a dash stands for none
abbrev pub contents_word : List ℕ → List ℕ
contents_word [] = codes "-"
contents_word (octet ∷ octets) = encode_lower (octet ∷ octets)

-- an object's info in lower-case hexadecimal; a dash stands for no info
abbrev pub info_word : Option (List ℕ) → List ℕ
info_word None = codes "-"
info_word (Some octets) = encode_lower octets

-- what an object is
abbrev pub kind_word : Kind → List ℕ
kind_word kind.Data = codes "data"
kind_word kind.File = codes "file"
