-- A file with another length or digest than its entry is refused.
use Rattle.std.proofs.Common.{◌≡◌, ◌∙◌, ℕ, zero, suc, ◌+◌, ◌⊎◌, inl, inr, Ordering, Less, Equal, Greater, List, [], ◌∷◌, length, true, Option, None, Some, refl, sym, ap, subst}
use Rattle.std.specs.Prelude.{◌≢◌, slice_get}
use Rattle.std.specs.Cmp.Lexicographic.{slice_cmp}
use Rattle.std.specs.Ordering.{nat_cmp, is_lt}
use Rattle.std.proofs.lemmas.Cmp.{nat_list_cmp_total, tied_itself}
use Rattle.sha2.specs.Sha256.{sha256}
use Rattle.norm_base.specs.declared.kinds.Kind.TheVariants as kind
use Rattle.norm_order.specs.declared.up.Up.{Up}
use Rattle.norm_order.specs.declared.up.Up.TheVariants as up
use Rattle.norm_mirror.specs.Checking.{Checked, checked_nothing, is_named, file_fault, after_file, file_by, first_read, taken}
use Rattle.norm_mirror.specs.Folder.{IsFileOf, IsOtherThan}
use Rattle.norm_mirror.specs.Laws.{DiffersLaw}
use Rattle.norm_mirror.specs.Manifest.{IsManifest, RiseFrom, manifest_text, name_before}
use Rattle.norm_mirror.specs.declared.check.CheckFault.{CheckFault}
use Rattle.norm_mirror.specs.declared.check.CheckFault.TheVariants as fault
use Rattle.norm_mirror.specs.declared.entry.Entry.{Entry}
use Rattle.norm_mirror.proofs.CheckLemmas.{goes, at_file, refused_stays, file_is}
use Rattle.norm_mirror.proofs.SpellLemmas.{manifest_laws}

-- ---- names that rise differ

is_less : (o : Ordering) → is_lt o ≡ true → o ≡ Less
is_less Less e = refl
is_less Equal e = absurd (cc)
is_less Greater e = absurd (cc)

before_trans : (a b c : List ℕ) → name_before a b ≡ true → name_before b c ≡ true → name_before a c ≡ true
before_trans a b c ab bc =
    ap is_lt (nat_list_cmp_total.trans a b c (is_less (slice_cmp nat_cmp a b) ab) (is_less (slice_cmp nat_cmp b c) bc))

not_before_itself : (a : List ℕ) → name_before a a ≡ true → ⊥
not_before_itself a e = clash (slice_cmp nat_cmp a a) (is_less (slice_cmp nat_cmp a a) e) (tied_itself nat_list_cmp_total a)
  where
    clash : (o : Ordering) → o ≡ Less → o ≡ Equal → ⊥
    clash o e f = cc

inside : (x e : Entry) → Some x ≡ Some e → x ≡ e
inside x e h = cc

-- each name is above the one before all
rises : (last : List ℕ) (entries : List Entry) (i : ℕ) (e : Entry) → RiseFrom last entries → slice_get entries i ≡ Some e → name_before last e.name ≡ true
rises last [] i e h there = absurd (cc)
rises last (x ∷ entries) zero e h there = subst (λ (y : Entry). name_before last y.name ≡ true) (inside x e there) h.0
rises last (x ∷ entries) (suc i) e h there = before_trans last x.name e.name h.0 (rises x.name entries i e h.1 there)

-- entries of one name are one
one_entry : (last : List ℕ) (entries : List Entry) (i j : ℕ) (a b : Entry) → RiseFrom last entries → slice_get entries i ≡ Some a
    → slice_get entries j ≡ Some b → a.name ≡ b.name → a ≡ b
one_entry last [] i j a b h at_i at_j same = absurd (cc)
one_entry last (x ∷ entries) zero zero a b h at_i at_j same = sym (inside x a at_i) ∙ inside x b at_j
one_entry last (x ∷ entries) (suc i) (suc j) a b h at_i at_j same = one_entry x.name entries i j a b h.1 at_i at_j same
one_entry last (x ∷ entries) zero (suc j) a b h at_i at_j same =
    let above : name_before x.name b.name ≡ true = rises x.name entries j b h.1 at_j in
    let its : b.name ≡ x.name = sym same ∙ ap (λ (y : Entry). y.name) (sym (inside x a at_i)) in
    absurd (not_before_itself x.name (subst (λ name. name_before x.name name ≡ true) its above))
one_entry last (x ∷ entries) (suc i) zero a b h at_i at_j same =
    let above : name_before x.name a.name ≡ true = rises x.name entries i a h.1 at_i in
    let its : a.name ≡ x.name = same ∙ ap (λ (y : Entry). y.name) (sym (inside x b at_j)) in
    absurd (not_before_itself x.name (subst (λ name. name_before x.name name ≡ true) its above))

-- ---- what was not refused is a file of some entry

record HasEntry (entries : List Entry) (hand_up : Up) : Type 0 where
  at : ℕ
  entry : Entry
  there : slice_get entries at ≡ Some entry
  is : IsFileOf entry hand_up

-- each of the files that come after this many others
each_has : (entries : List Entry) (k : ℕ) (files : List Up) (n : ℕ) (hand_up : Up) → (goes (at_file entries k) files).refused ≡ None
    → slice_get files n ≡ Some hand_up → HasEntry entries hand_up
each_has entries k [] n hand_up clean there = absurd (cc)
each_has entries k (up.StreamOpen index ∷ files) n hand_up clean there = absurd (refused_stays (at_file entries k) (fault.Stream index) files clean)
each_has entries k (up.StreamBytes index offset octets ∷ files) n hand_up clean there = absurd (refused_stays (at_file entries k) (fault.Stream index) files clean)
each_has entries k (up.StreamEnd index ∷ files) n hand_up clean there = absurd (refused_stays (at_file entries k) (fault.Stream index) files clean)
each_has entries k (up.Lost index ∷ files) n hand_up clean there = absurd (refused_stays (at_file entries k) (fault.Lost index) files clean)
each_has entries k (up.Object index of_kind info octets ∷ files) n hand_up clean there =
    by_next (slice_get entries k) refl clean (λ m. each_has entries (k + 1) files m hand_up)
  where
    this : Up
    this = up.Object index of_kind info octets

    Behind : Type 0
    Behind = (m : ℕ) → (goes (at_file entries (k + 1)) files).refused ≡ None → slice_get files m ≡ Some hand_up → HasEntry entries hand_up

    one_up : (x : Up) → Some x ≡ Some hand_up → x ≡ hand_up
    one_up x e = cc

    by_place : (e : Entry) → slice_get entries k ≡ Some e → file_fault index (is_named of_kind info e.name) octets e ≡ None
        → (goes (at_file entries (k + 1)) files).refused ≡ None → (m : ℕ) → slice_get (this ∷ files) m ≡ Some hand_up → Behind → HasEntry entries hand_up
    by_place e here none clean zero there behind =
        subst (HasEntry entries) (one_up this there) (record { at = k; entry = e; there = here; is = file_is index of_kind info octets e none })
    by_place e here none clean (suc m) there behind = behind m clean there

    by_fault : (e : Entry) → slice_get entries k ≡ Some e → (o : Option CheckFault) → file_fault index (is_named of_kind info e.name) octets e ≡ o
        → (goes (after_file (at_file entries k) o) files).refused ≡ None → Behind → HasEntry entries hand_up
    by_fault e here (Some why) is clean behind = absurd (refused_stays (at_file entries k) why files clean)
    by_fault e here None is clean behind = by_place e here is clean n there behind

    by_next : (o : Option Entry) → slice_get entries k ≡ o → (goes (file_by (at_file entries k) index of_kind info octets o) files).refused ≡ None
        → Behind → HasEntry entries hand_up
    by_next None here clean behind = absurd (refused_stays (at_file entries k) (fault.Extra index) files clean)
    by_next (Some e) here clean behind = by_fault e here (file_fault index (is_named of_kind info e.name) octets e) refl clean behind

-- ---- the law

-- one file has one name and one content
record SameFile (a b : List ℕ) (xs ys : List ℕ) : Type 0 where
  name : a ≡ b
  octets : xs ≡ ys

same_file : (i j : ℕ) (a b : List ℕ) (xs ys : List ℕ) → up.Object i kind.File (Some a) xs ≡ up.Object j kind.File (Some b) ys → SameFile a b xs ys
same_file i j a b xs ys e = record { name = cc; octets = cc }

not_other : (entries : List Entry) (i : ℕ) (e : Entry) (hand_up : Up) → RiseFrom [] entries → slice_get entries i ≡ Some e → HasEntry entries hand_up
    → IsOtherThan e hand_up → ⊥
not_other entries i e hand_up rise there has other =
    let one = same_file has.is.index other.index has.entry.name e.name has.is.octets other.octets (sym has.is.is ∙ other.is) in
    let entry : has.entry ≡ e = one_entry [] entries has.at i has.entry e rise has.there there one.name in
    let len : length other.octets ≡ e.len = ap (λ (xs : List ℕ). length xs) (sym one.octets) ∙ has.is.len ∙ ap (λ (y : Entry). y.len) entry in
    let digest : sha256 other.octets ≡ e.digest = ap sha256 (sym one.octets) ∙ has.is.digest ∙ ap (λ (y : Entry). y.digest) entry in
    by other.other len digest
  where
    by : (length other.octets ≢ e.len) ⊎ (sha256 other.octets ≢ e.digest) → length other.octets ≡ e.len → sha256 other.octets ≡ e.digest → ⊥
    by (inl differs) len digest = differs len
    by (inr differs) len digest = differs digest

-- the manifest is taken first
begins : (entries : List Entry) (index : ℕ) (info : Option (List ℕ)) → IsManifest entries
    → taken checked_nothing (up.Object index kind.Data info (manifest_text entries)) ≡ at_file entries 0
begins entries index info is = ap (first_read checked_nothing index) (manifest_laws.back entries is)

pub differs_law : DiffersLaw
differs_law = record {
  refused = λ entries index info files i n e hand_up is there file other clean.
      not_other entries i e hand_up is.front.rise there
      (each_has entries 0 files n hand_up (ap (λ (s : Checked). (goes s files).refused) (sym (begins entries index info is)) ∙ clean) file) other;
}
