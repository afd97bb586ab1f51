-- A file that is asked for its length, and read for its digest.
use Rattle.std.proofs.Common.{◌≡◌, ◌∙◌, ℕ, ◌+◌, ◌<◌, ◌≤◌, List, [], ◌++◌, length, take, drop, Option, None, Some, Result, Ok, Err, true, refl, sym, ap, subst, inl, inr, arith, length-append, take-add}
use Rattle.std.specs.Prelude.{◌↔◌, IfSome, IsErrOf, IsNone, is_none}
use Rattle.std.specs.Option.{option_map}
use Rattle.std.proofs.lemmas.List.{take_all}
use Rattle.sha2.specs.Hashers.{Holds256}
use Rattle.sha2.specs.Sha256.{sha256}
use Rattle.sha2.specs.declared.Sha256.{Sha256}
use Rattle.norm_base.specs.Contents.{content_of}
use Rattle.norm_base.specs.declared.fault.FileFault.{FileFault}
use Rattle.norm_base.specs.declared.fault.FileFault.TheVariants as file
use Rattle.norm_journal.specs.Follows.{IsLength}
use Rattle.norm_journal.specs.Jobs.{Told, may_be_absent}
use Rattle.norm_turns.specs.declared.fault.SessionFault.{SessionFault}
use Rattle.norm_folder.specs.Entries.{IsDigest, IsFaultOf, IsUnread}
use Rattle.norm_folder.specs.Reading.{BeginsWith, HasRead, ReadsOn}

-- ---- a call of the files that gave nothing

absent_none : (found : Option (List ℕ)) → IsNone found → is_none found ≡ true
absent_none None e = refl
absent_none (Some x) e = absurd (cc)

may_be : {T : Type 0} (files : Told) (name : List ℕ) (result : Result T FileFault)
    → IfSome files (λ fs. IsErrOf result file.Absent ↔ IsNone (content_of fs name)) → result ≡ Err file.Absent → may_be_absent files name ≡ true
may_be None name result h e = refl
may_be (Some fs) name result h e = absent_none (content_of fs name) (h.0 e)

-- why a call gave nothing
pub unread : {T : Type 0} (files : Told) (name : List ℕ) (result : Result T FileFault) (failed : FileFault) (stop : SessionFault)
    → IfSome files (λ fs. IsErrOf result file.Absent ↔ IsNone (content_of fs name)) → result ≡ Err failed → IsFaultOf failed name stop → IsUnread files name stop
unread files name result file.Failed stop h e is = subst (IsUnread files name) (sym is) tt
unread files name result file.Absent stop h e (inl is) = subst (IsUnread files name) (sym is) (refl, may_be files name result h e)
unread files name result file.Absent stop h e (inr is) = subst (IsUnread files name) (sym is) tt

pub length_is : (files : Told) (name : List ℕ) (len : ℕ) (result : Result ℕ FileFault)
    → IfSome files (λ fs. IsErrOf result file.Absent ↔ IsNone (content_of fs name)) → result ≡ Ok len
    → IfSome files (λ fs. IfSome (content_of fs name) (λ octets. len ≡ length octets)) → IsLength files name len
length_is None name len result absent e value = tt
length_is (Some fs) name len result absent e value = go (content_of fs name) absent value
  where
    go : (found : Option (List ℕ)) → (IsErrOf result file.Absent ↔ IsNone found) → IfSome found (λ octets. len ≡ length octets)
        → option_map length found ≡ Some len
    go None absent value = absurd (let no = absent.1 refl in cc)
    go (Some octets) absent value = ap Some (sym value)

-- ---- reading on

-- where the length of a file is known and it is longer, an offset is within it
pub within_file : (files : Told) (name : List ℕ) (len done : ℕ) → IsLength files name len → done < len
    → IfSome files (λ fs. IfSome (content_of fs name) (λ octets. done < length octets))
within_file None name len done is lt = tt
within_file (Some fs) name len done is lt = go (content_of fs name) is
  where
    go : (found : Option (List ℕ)) → option_map length found ≡ Some len → IfSome found (λ octets. done < length octets)
    go None e = absurd (cc)
    go (Some octets) e = let same : length octets ≡ len = cc in omega (arith, same, lt)

begins_on : (files : Told) (name octets piece buf : List ℕ) (done n : ℕ) → done ≡ length octets → BeginsWith files name octets → piece ≡ take n buf → length piece ≡ n
    → IfSome files (λ fs. IfSome (content_of fs name) (λ all. take n buf ≡ take n (drop done all)))
    → BeginsWith files name (octets ++ piece)
begins_on None name octets piece buf done n at front is long read = tt
begins_on (Some fs) name octets piece buf done n at front is long read = λ all there.
    let found = subst (λ o. IfSome o (λ all. take n buf ≡ take n (drop done all))) there read in
    let first = front all there in
    let count : length (octets ++ piece) ≡ length octets + n = length-append octets piece ∙ ap (λ m. length octets + m) long in
    ap (λ ys. ys ++ piece) first ∙ ap (λ ys. take (length octets) all ++ ys) (is ∙ found ∙ ap (λ d. take n (drop d all)) at) ∙ sym (take-add (length octets) n all) ∙ ap (λ m. take m all) (sym count)

-- a piece was read and fed
pub reads_on : (files : Told) (name piece buf : List ℕ) (len done n : ℕ) (hasher after : Sha256) → piece ≡ take n buf → length piece ≡ n → 0 < n → done + n ≤ len
    → IfSome files (λ fs. IfSome (content_of fs name) (λ all. take n buf ≡ take n (drop done all)))
    → ((m : List ℕ) → Holds256 hasher m → Holds256 after (m ++ piece)) → ReadsOn files name len done (done + n) hasher after
reads_on files name piece buf len done n hasher after is long some fits read fed = record {
  more = omega (arith, some);
  on = λ h.
      let at = h.count in record {
        octets = h.octets ++ piece;
        holds = fed h.octets h.holds;
        count = omega (arith, length-append h.octets piece, long, at);
        within = fits;
        begins = begins_on files name h.octets piece buf done n h.count h.begins is long read;
      };
}

pub nothing_read : (files : Told) (name : List ℕ) (len : ℕ) (hasher : Sha256) → Holds256 hasher [] → HasRead files name len 0 hasher
nothing_read files name len hasher holds = record { octets = []; holds = holds; count = refl; within = omega arith; begins = begins_with_nothing files name }
  where
    begins_with_nothing : (files : Told) (name : List ℕ) → BeginsWith files name []
    begins_with_nothing None name = tt
    begins_with_nothing (Some fs) name = λ all there. refl

-- all was read
pub digest_is : (files : Told) (name : List ℕ) (len done : ℕ) (hasher : Sha256) (digest : List ℕ) → HasRead files name len done hasher → len ≤ done
    → IsLength files name len → ((m : List ℕ) → Holds256 hasher m → digest ≡ sha256 m) → IsDigest files name digest
digest_is None name len done hasher digest h all is made = tt
digest_is (Some fs) name len done hasher digest h all is made = go (content_of fs name) refl is
  where
    go : (found : Option (List ℕ)) → content_of fs name ≡ found → option_map length found ≡ Some len → IsDigest (Some fs) name digest
    go None e long = absurd (cc)
    go (Some octets) e long =
        let same : length octets ≡ len = cc in
        let count = h.count in
        let within = h.within in
        let read : h.octets ≡ octets = h.begins octets e ∙ take_all (length h.octets) octets (omega (arith, same, count, all)) in
        (octets, e, made h.octets h.holds ∙ ap sha256 read)

-- one piece more
pub reads_here : (files now : Told) (name : List ℕ) (len done next : ℕ) (hasher after : Sha256) → now ≡ files → ReadsOn now name len done next hasher after
    → HasRead files name len done hasher → HasRead files name len next after
reads_here files now name len done next hasher after same h read = (subst (λ n. ReadsOn n name len done next hasher after) same h).on read
