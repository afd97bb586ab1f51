-- A file that is read in pieces.
use Rattle.std.proofs.Common.{◌≡◌, ℕ, ◌+◌, ◌<◌, ◌≤◌, List, [], ◌++◌, length, take, drop, Option, None, Some, refl, sym, ap, ◌∙◌, subst, arith}
use Rattle.std.specs.Prelude.{◌↔◌, Bool, true, false, nat_lt, IsUtf8, if◌then◌else◌, Result, Ok, Err, IfSome, IsNone, IsErrOf}
use Rattle.std.specs.Option.{option_map}
use Rattle.std.proofs.Math.Seq.{take-add}
use Rattle.std.proofs.lemmas.List.{length-append, take_all}
use Rattle.norm_base.specs.Contents.{content_of}
use Rattle.norm_base.specs.declared.fault.FileFault.{FileFault}
use Rattle.norm_base.specs.declared.fault.FileFault.TheVariants as file
use Rattle.norm_profile.specs.Profiles.{document_in, profile_of}
use Rattle.norm_profile.specs.declared.document.Document.{Document}
use Rattle.norm_profile.specs.declared.refusal.ProfileRefusal.{ProfileRefusal}
use Rattle.norm_profile.specs.declared.refusal.ProfileRefusal.TheVariants as refusal
use Rattle.norm_profile.specs.Loading.{Told, IsContent, IsLength, IsFront, IsReading, IsOfFile, IsDocumentOf, IsUnread, load_fault}

-- ---- a call of the files that gave nothing

absent_none : (found : Option (List ℕ)) → IsNone found → found ≡ None
absent_none None e = refl
absent_none (Some x) e = absurd (cc)

pub unread : {T : Type 0} (files : Told) (name : List ℕ) (result : Result T FileFault) (why : FileFault)
    → IfSome files (λ fs. IsErrOf result file.Absent ↔ IsNone (content_of fs name)) → result ≡ Err why → IsUnread files name (load_fault why)
unread files name result file.Failed h e = tt
unread None name result file.Absent h e = tt
unread (Some fs) name result file.Absent h e = absent_none (content_of fs name) (h.0 e)

pub length_is : (files : Told) (name : List ℕ) (len : ℕ) (result : Result ℕ FileFault)
    → IfSome files (λ fs. IsErrOf result file.Absent ↔ IsNone (content_of fs name)) → result ≡ Ok len
    → IfSome files (λ fs. IfSome (content_of fs name) (λ octets. len ≡ length octets)) → IsLength files name len
length_is None name len result absent e value = tt
length_is (Some fs) name len result absent e value = go (content_of fs name) absent value
  where
    go : (found : Option (List ℕ)) → (IsErrOf result file.Absent ↔ IsNone found) → IfSome found (λ octets. len ≡ length octets)
        → option_map length found ≡ Some len
    go None absent value = absurd (let no = absent.1 refl in cc)
    go (Some octets) absent value = ap Some (sym value)

-- ---- reading on

-- where the length of a file is known and it is longer, an offset is within it
pub within_file : (files : Told) (name : List ℕ) (len done : ℕ) → IsLength files name len → done < len
    → IfSome files (λ fs. IfSome (content_of fs name) (λ octets. done < length octets))
within_file None name len done is lt = tt
within_file (Some fs) name len done is lt = go (content_of fs name) is
  where
    go : (found : Option (List ℕ)) → option_map length found ≡ Some len → IfSome found (λ octets. done < length octets)
    go None e = absurd (cc)
    go (Some octets) e = let same : length octets ≡ len = cc in omega (arith, same, lt)

front_on : (files : Told) (name octets piece buf : List ℕ) (done n : ℕ) → done ≡ length octets → IsFront files name octets → piece ≡ take n buf → length piece ≡ n
    → IfSome files (λ fs. IfSome (content_of fs name) (λ all. take n buf ≡ take n (drop done all)))
    → IsFront files name (octets ++ piece)
front_on None name octets piece buf done n at front is long read = tt
front_on (Some fs) name octets piece buf done n at front is long read = λ all there.
    let found = subst (λ o. IfSome o (λ all. take n buf ≡ take n (drop done all))) there read in
    let first = front all there in
    let count : length (octets ++ piece) ≡ length octets + n = length-append octets piece ∙ ap (λ m. length octets + m) long in
    ap (λ ys. ys ++ piece) first ∙ ap (λ ys. take (length octets) all ++ ys) (is ∙ found ∙ ap (λ d. take n (drop d all)) at) ∙ sym (take-add (length octets) n all) ∙ ap (λ m. take m all) (sym count)

-- a piece of some octets was read
pub record IsLonger (files : Told) (name : List ℕ) (len : ℕ) (octets more : List ℕ) : Type 0 where
  pub grows : length octets < length more
  pub goes : IsReading files name len octets → IsReading files name len more

pub reads_on : (files : Told) (name octets more piece buf : List ℕ) (len done n : ℕ) → done ≡ length octets → more ≡ octets ++ piece
    → piece ≡ take n buf → length piece ≡ n → 0 < n → length octets + n ≤ len
    → IfSome files (λ fs. IfSome (content_of fs name) (λ all. take n buf ≡ take n (drop done all))) → IsLonger files name len octets more
reads_on files name octets more piece buf len done n at is piece_is long some fits read =
    let count : length (octets ++ piece) ≡ length octets + n = length-append octets piece ∙ ap (λ m. length octets + m) long in
    subst (λ ys. IsLonger files name len octets ys) (sym is) (record {
      grows = omega (arith, count, some);
      goes = λ r. record { within = omega (arith, count, fits); front = front_on files name octets piece buf done n at r.front piece_is long read };
    })

-- nothing was read yet
pub reads_nothing : (files : Told) (name : List ℕ) (len : ℕ) → IsReading files name len []
reads_nothing None name len = record { within = omega arith; front = tt }
reads_nothing (Some fs) name len = record { within = omega arith; front = λ all there. refl }

-- a file of which all was read
pub front_whole : (files : Told) (name octets : List ℕ) (len : ℕ) → IsLength files name len → len ≤ length octets → IsReading files name len octets
    → IsContent files name octets
front_whole None name octets len is most r = tt
front_whole (Some fs) name octets len is most r = go (content_of fs name) refl is
  where
    go : (found : Option (List ℕ)) → content_of fs name ≡ found → option_map length found ≡ Some len → content_of fs name ≡ Some octets
    go None there e = absurd (cc)
    go (Some all) there e =
        let same : length all ≡ len = cc in
        let at_most : length all ≤ length octets = omega (arith, same, most) in
        there ∙ ap Some (sym (r.front all there ∙ take_all (length octets) all at_most))

-- ---- what a file gives

-- a text that is too long, and octets that are no text
abbrev too_long : Result Document ProfileRefusal
too_long = Err refusal.TooLong

abbrev no_document : Result Document ProfileRefusal
no_document = Err refusal.NoDocument

pub gives : (files : Told) (name octets : List ℕ) (answer : Result Document ProfileRefusal) → IsContent files name octets
    → (IsUtf8 octets → answer ≡ document_in octets)
    → (¬ (IsUtf8 octets) → answer ≡ (if nat_lt 65536 (length octets) then too_long else no_document))
    → length octets ≤ 65536 → IsDocumentOf files name answer
gives files name octets answer content text other short = record {
  octets = octets;
  content = content;
  gives = record { text = text; other = λ no. other no ∙ short_one (nat_lt 65536 (length octets)) (not_long (length octets) short) };
}
  where
    not_long : (n : ℕ) → n ≤ 65536 → nat_lt 65536 n ≡ false
    not_long n le = grind (arith, le)

    short_one : (b : Bool) → b ≡ false → (if b then too_long else no_document) ≡ no_document
    short_one true e = absurd (cc)
    short_one false e = refl

-- what a file gives, its profile alone
pub gives_profile : (files : Told) (name : List ℕ) (answer : Result Document ProfileRefusal) → IsDocumentOf files name answer
    → IsOfFile files name (profile_of answer)
gives_profile files name answer document = record {
  octets = document.octets;
  content = document.content;
  gives = record { text = λ is. ap profile_of (document.gives.text is); other = λ no. ap profile_of (document.gives.other no) };
}
