-- The script of a folder can be run: its manifest is ASCII text, and its commands are few and numbered.
use Rattle.std.proofs.Common.{◌≡◌, ℕ, zero, suc, ◌+◌, ◌<◌, ◌≤◌, cond, List, [], ◌∷◌, ◌++◌, length, map, Bool, true, None, refl, ap, arith, nat_le, slice_index, decimal}
use Rattle.std.specs.Prelude.{◌==◌, ◌&&◌, not, count_by}
use Rattle.std.specs.List.{AllByRecursion, list_all}
use Rattle.std.specs.Str.{IsAscii}
use Rattle.std.proofs.lemmas.Fmt.{IsAscii-decimal}
use Rattle.std.proofs.lemmas.List.Sums.{list_all-from_AllPass, sum_by_push}
use Rattle.hex.specs.Hex.{encode_lower, is_hex_digit}
use Rattle.hex.proofs.HexLemmas.{decode_of-ok, decode_of-encode_lower}
use Rattle.norm_base.specs.Octets.{AreOctets}
use Rattle.norm_script.specs.Scripts.{CanOffer, CanSubmit, AreNumbered}
use Rattle.norm_script.specs.Words.{is_name_octet, is_name, is_numbered}
use Rattle.norm_script.specs.Written.{ended}
use Rattle.norm_script.specs.declared.script.Line.{Line}
use Rattle.norm_script.specs.declared.script.Verb.{Verb}
use Rattle.norm_script.specs.declared.script.Verb.TheVariants as verb
use Rattle.norm_script.proofs.WordLemmas.{both}
use Rattle.norm_mirror.specs.Manifest.{IsEntry, entry_line, manifest_text}
use Rattle.norm_mirror.specs.declared.entry.Entry.{Entry}
use Rattle.norm_arrival.specs.FolderCanRun.{FolderCanRun}
use Rattle.norm_arrival.specs.FolderScript.{folder_objects, command, with_marks}

-- ---- a manifest is ASCII text

ascii_onto : (x : ℕ) (xs : List ℕ) → x < 128 → IsAscii xs → IsAscii (x ∷ xs)
ascii_onto x xs lt all zero = lt
ascii_onto x xs lt all (suc i) = all i

ascii_more : (xs ys : List ℕ) → IsAscii xs → IsAscii ys → IsAscii (xs ++ ys)
ascii_more [] ys first second = second
ascii_more (x ∷ xs) ys first second = ascii_onto x (xs ++ ys) (first 0) (ascii_more xs ys (λ i. first (suc i)) second)

ascii_all : (test : ℕ → Bool) → ((c : ℕ) → test c ≡ true → c < 128) → (xs : List ℕ) → list_all test xs ≡ true → IsAscii xs
ascii_all test low [] e i = omega arith
ascii_all test low (x ∷ xs) e zero = low x (both (test x) (list_all test xs) e).0
ascii_all test low (x ∷ xs) e (suc i) = ascii_all test low xs (both (test x) (list_all test xs) e).1 i

name_low : (c : ℕ) → is_name_octet c ≡ true → c < 128
name_low c e = grind arith

digit_low : (c : ℕ) → is_hex_digit c ≡ true → c < 128
digit_low c e = grind arith

name_ascii : (name : List ℕ) → (is_name name && not (is_numbered name)) ≡ true → IsAscii name
name_ascii name is =
    let own = both (is_name name) (not (is_numbered name)) is in
    let a = both (nat_le 1 (length name) && nat_le (length name) 64 && list_all is_name_octet name) (not (slice_index name 0 == 46)) own.0 in
    ascii_all is_name_octet name_low name (both (nat_le 1 (length name) && nat_le (length name) 64) (list_all is_name_octet name) a.0).1

digest_ascii : (digest : List ℕ) → AreOctets digest → IsAscii (encode_lower digest)
digest_ascii digest are =
    ascii_all is_hex_digit digit_low (encode_lower digest)
    (list_all-from_AllPass is_hex_digit (encode_lower digest) (decode_of-ok (encode_lower digest) digest (decode_of-encode_lower digest are)).1)

entry_ascii : (e : Entry) → IsEntry e → IsAscii (entry_line e)
entry_ascii e is =
    ascii_more e.name (32 ∷ (decimal e.len ++ 32 ∷ encode_lower e.digest)) (name_ascii e.name is.name)
    (ascii_onto 32 (decimal e.len ++ 32 ∷ encode_lower e.digest) (omega arith)
    (ascii_more (decimal e.len) (32 ∷ encode_lower e.digest) (IsAscii-decimal e.len (let most = is.most in omega (arith, most)))
    (ascii_onto 32 (encode_lower e.digest) (omega arith) (digest_ascii e.digest is.octets))))

ascii_none : IsAscii []
ascii_none i = omega arith

manifest_ascii : (entries : List Entry) → AllByRecursion IsEntry entries → IsAscii (manifest_text entries)
manifest_ascii [] each = ascii_none
manifest_ascii (e ∷ entries) each =
    ascii_more (entry_line e) (10 ∷ ended (map entry_line entries)) (entry_ascii e each.0)
    (ascii_onto 10 (ended (map entry_line entries)) (omega arith) (manifest_ascii entries each.1))

are_octets : (xs : List ℕ) → IsAscii xs → AreOctets xs
are_octets xs ascii i = (let low = ascii i in omega (arith, low))

-- ---- its commands

-- the verbs of objects can be offered
abbrev OfferAll : List Verb → Type 0
OfferAll verbs = AllByRecursion CanOffer verbs

marks_submit : (producers number : ℕ) (verbs : List Verb) → 1 ≤ producers → OfferAll verbs → AllByRecursion (CanSubmit producers) (with_marks number verbs)
marks_submit producers number [] some offer = tt
marks_submit producers number (v ∷ verbs) some offer = (
  record { first = omega arith; last = some; verb = offer.0 },
  (record { first = omega arith; last = some; verb = tt }, marks_submit producers (number + 2) verbs some offer.1),
)

names_many : (entries : List Entry) → length (map (λ (e : Entry). verb.File e.name) entries) ≡ length entries
names_many [] = refl
names_many (e ∷ entries) = ap suc (names_many entries)

files_offer : (entries : List Entry) → OfferAll (map (λ (e : Entry). verb.File e.name) entries)
files_offer [] = tt
files_offer (e ∷ entries) = (tt, files_offer entries)

marks_many : (number : ℕ) (verbs : List Verb) → length (with_marks number verbs) ≡ length verbs + length verbs
marks_many number [] = refl
marks_many number (v ∷ verbs) = (let more = marks_many (number + 2) verbs in omega (arith, more))

-- how many of these are producer 1's
abbrev ones : List Line → ℕ
ones lines = count_by (λ (l : Line). l.producer == 1) lines

ones_more : (lines : List Line) (number : ℕ) (v : Verb) → ones (lines ++ command number v ∷ []) ≡ ones lines + 1
ones_more lines number v = sum_by_push (λ (l : Line). cond (l.producer == 1) 1 0) lines (command number v)

marks_numbered : (before : List Line) (number : ℕ) (verbs : List Verb) → number ≡ ones before + 1 → AreNumbered before (with_marks number verbs)
marks_numbered before number [] is = tt
marks_numbered before number (v ∷ verbs) is =
    let first = ones_more before number v in
    let second = ones_more (before ++ command number v ∷ []) (number + 1) (verb.Mark None) in (
      is,
      (
        omega (arith, is, first),
        marks_numbered ((before ++ command number v ∷ []) ++ command (number + 1) (verb.Mark None) ∷ []) (number + 2) verbs (omega (arith, is, first, second)),
      ),
    )

pub folder_can_run : FolderCanRun
folder_can_run p range entries is = record {
  range = range;
  few = (
      let many = marks_many 1 (folder_objects entries) in
      let names = names_many entries in
      let few = is.front.few in
      omega (arith, many, names, few)
      );
  each = marks_submit p.producers 1 (folder_objects entries) (range.producers.0) (are_octets (manifest_text entries) (manifest_ascii entries is.front.each), files_offer entries);
  numbered = marks_numbered [] 1 (folder_objects entries) refl;
}
