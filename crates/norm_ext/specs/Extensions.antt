-- Header extensions (RFC 5740 section 4.1).
use Rattle.std.specs.Prelude.{ℕ, ◌+◌, ◌-◌, ◌*◌, ◌/◌, ◌==◌, ◌&&◌, ◌≡◌, ◌≤◌, ◌<◌, ◌^◌, nat_lt, List, [], ◌∷◌, ◌++◌, length, take, drop, Option, None, Some, Result, Ok, Err, if◌then◌else◌}
use Rattle.byteorder.specs.Endian.{big_bytes}
use Rattle.norm_ext.specs.Pieces.{pieces_behind, checked_behind}
use Rattle.norm_ext.specs.Numbers.{octet, number, fti_type, first_short_type}
use Rattle.norm_ext.specs.declared.refusal.ExtFault.{ExtFault}
use Rattle.norm_ext.specs.declared.refusal.ExtFault.TheVariants.{ZeroLength, Overrun}

-- an extension: its type, and what stands behind the type and the length
pub record Extension : Type 0 where
  pub kind : ℕ
  pub content : List ℕ

-- An extension of a type below 128 has its length in words behind its type. One of another type is a single word,
-- and has none.
abbrev pub extension_octets : Extension → List ℕ
extension_octets x =
    if nat_lt x.kind first_short_type then x.kind ∷ ((2 + length x.content) / 4) ∷ x.content else x.kind ∷ x.content

-- an extension's length is at most 255 words, and where its type says no length it is one
abbrev pub most_words : ℕ → ℕ
most_words kind = if nat_lt kind first_short_type then 255 else 1

-- an extension that can be spelled: whole words
pub record IsExtension (x : Extension) : Type 0 where
  pub kind : x.kind < 256
  pub words : ℕ
  pub whole : length (extension_octets x) ≡ 4 * words
  pub most : words ≤ most_words x.kind

-- the octets that the extension at the front says it has
abbrev pub extension_length : List ℕ → ℕ
extension_length octets = if nat_lt (octet 0 octets) first_short_type then 4 * octet 1 octets else 4

-- the octets before an extension's content
abbrev pub content_at : ℕ → ℕ
content_at kind = if nat_lt kind first_short_type then 2 else 1

-- the extension at the front
abbrev pub first_extension : List ℕ → Extension
first_extension octets =
    record {
      kind = octet 0 octets;
      content = take (extension_length octets - content_at (octet 0 octets)) (drop (content_at (octet 0 octets)) octets);
    }

-- the extensions of a list of whole extensions
abbrev pub extensions_of : List ℕ → List Extension
extensions_of octets = pieces_behind first_extension extension_length 0 octets

-- what is wrong with the extension at the front, which stands at a place
abbrev pub extension_checked : ℕ → List ℕ → Result (Unit {0}) ExtFault
extension_checked at octets =
    if nat_lt (length octets) 4 then Err (Overrun at) else
    (if extension_length octets == 0 then Err (ZeroLength at) else
    (if nat_lt (length octets) (extension_length octets) then Err (Overrun at) else Ok tt))

-- the first that is wrong with a list of extensions that begins at a place
abbrev pub extensions_checked : ℕ → List ℕ → Result (Unit {0}) ExtFault
extensions_checked at octets = checked_behind extension_checked extension_length at 0 octets

-- a list of whole extensions
pub record IsChecked (octets : List ℕ) : Type 0 where
  pub checked : extensions_checked 0 octets ≡ Ok tt

-- an extension of its parts
abbrev pub extension_of : ℕ → List ℕ → Extension
extension_of kind content = record { kind = kind; content = content }

-- an object's length, the octets of a symbol, the source symbols of a block, and the most encoding symbols of one
pub record Fti : Type 0 where
  pub l : ℕ
  pub e : ℕ
  pub b : ℕ
  pub max_n : ℕ

-- an object's length has 48 bits
abbrev pub IsLength : ℕ → Type 0
IsLength l = l < 2 ^ 48

-- what the FEC Object Transmission Information says (RFC 5740 section 4.1, RFC 5510 section 5.2.4.1): 48 bits of the
-- object's length, 16 of the symbol length, 8 of the block length, 8 of the most encoding symbols of a block
abbrev pub fti_in : List ℕ → Fti
fti_in content = record { l = number 6 0 content; e = number 2 6 content; b = octet 8 content; max_n = octet 9 content }

-- it is the first extension of its type that has three words
abbrev pub fti_of : List Extension → Option Fti
fti_of [] = None
fti_of (x ∷ rest) = if (x.kind == fti_type) && (length x.content == 10) then Some (fti_in x.content) else fti_of rest

-- the extension that says so
abbrev pub fti_extension : Fti → Extension
fti_extension f = record { kind = fti_type; content = big_bytes 6 f.l ++ big_bytes 2 f.e ++ f.b ∷ f.max_n ∷ [] }
