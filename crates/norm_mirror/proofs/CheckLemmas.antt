-- Hand-ups that pass are a manifest and its files.
use Rattle.std.proofs.Common.{◌≡◌, ◌∙◌, ℕ, zero, suc, ◌+◌, ◌-◌, ◌≤◌, List, [], ◌∷◌, Bool, true, false, Option, None, Some, Result, Ok, Err, refl, sym, ap, subst, nat_eq, length, drop, arith}
use Rattle.std.specs.Prelude.{◌==◌, fold, slice_get}
use Rattle.std.specs.Cmp.Lexicographic.{pointwise, bytes_decides}
use Rattle.std.proofs.lemmas.Bool.Decides.{Decides-eqb}
use Rattle.sha2.specs.Sha256.{sha256}
use Rattle.norm_base.specs.declared.kinds.Kind.{Kind}
use Rattle.norm_base.specs.declared.kinds.Kind.TheVariants as kind
use Rattle.norm_order.specs.declared.up.Up.{Up}
use Rattle.norm_order.specs.declared.up.Up.TheVariants as up
use Rattle.norm_mirror.specs.Checking.{Checked, checked_nothing, is_named, digest_fault, length_fault, file_fault, after_file, file_by, first_read, object_by, looked_at, taken_by, refuses, taken, is_done}
use Rattle.norm_mirror.specs.Folder.{IsFileOf, AreFilesOf, IsFolder}
use Rattle.norm_mirror.specs.Laws.{CheckLaws}
use Rattle.norm_mirror.specs.Reading.{manifest_of}
use Rattle.norm_mirror.specs.declared.check.CheckFault.{CheckFault}
use Rattle.norm_mirror.specs.declared.check.CheckFault.TheVariants as fault
use Rattle.norm_mirror.specs.declared.entry.Entry.{Entry}
use Rattle.norm_mirror.proofs.SpellLemmas.{manifest_laws}

-- all of these hand-ups, from a state on
abbrev pub goes : Checked → List Up → Checked
goes s ups = fold taken s ups

-- after a fault nothing changes
stays : (s : Checked) (why : CheckFault) (ups : List Up) → s.refused ≡ Some why → goes s ups ≡ s
stays s why [] e = refl
stays s why (u ∷ ups) e = ap (λ (t : Checked). goes t ups) (same u) ∙ stays s why ups e
  where
    same : (u : Up) → taken s u ≡ s
    same u = ap (λ (o : Option CheckFault). taken_by o s u) e

no_fault : (why : CheckFault) → Some why ≡ None → ⊥
no_fault why e = cc

-- so what was refused stays refused
pub refused_stays : (s : Checked) (why : CheckFault) (ups : List Up) → (goes (refuses s why) ups).refused ≡ None → ⊥
refused_stays s why ups e = no_fault why (sym (ap (λ (t : Checked). t.refused) (stays (refuses s why) why ups refl)) ∙ e)

-- a manifest was read, and this many of its files were taken
abbrev pub at_file : List Entry → ℕ → Checked
at_file entries n = record { entries = Some entries; files = n; refused = None }

next_of : (n : ℕ) → n + 1 ≡ suc n
next_of n = omega arith

get_drop_suc : (entries : List Entry) (n : ℕ) (e : Entry) → slice_get entries n ≡ Some e → drop n entries ≡ e ∷ drop (suc n) entries
get_drop_suc [] n e h = absurd (cc)
get_drop_suc (x ∷ entries) zero e h = ap (λ (y : Entry). y ∷ entries) (inside h)
  where
    inside : Some x ≡ Some e → x ≡ e
    inside h = cc
get_drop_suc (x ∷ entries) (suc n) e h = get_drop_suc entries n e h

get_drop : (entries : List Entry) (n : ℕ) (e : Entry) → slice_get entries n ≡ Some e → drop n entries ≡ e ∷ drop (n + 1) entries
get_drop entries n e h = get_drop_suc entries n e h ∙ ap (λ k. e ∷ drop k entries) (sym (next_of n))

drop_all : (entries : List Entry) → drop (length entries) entries ≡ []
drop_all [] = refl
drop_all (x ∷ entries) = drop_all entries

drop_get_suc : (entries : List Entry) (n : ℕ) (e : Entry) (rest : List Entry) → drop n entries ≡ e ∷ rest
    → (slice_get entries n ≡ Some e) × (drop (suc n) entries ≡ rest)
drop_get_suc [] zero e rest h = absurd (cc)
drop_get_suc [] (suc n) e rest h = absurd (cc)
drop_get_suc (x ∷ entries) zero e rest h = (ap Some (head h), tail h)
  where
    head : x ∷ entries ≡ e ∷ rest → x ≡ e
    head h = cc

    tail : x ∷ entries ≡ e ∷ rest → entries ≡ rest
    tail h = cc
drop_get_suc (x ∷ entries) (suc n) e rest h = drop_get_suc entries n e rest h

drop_get : (entries : List Entry) (n : ℕ) (e : Entry) (rest : List Entry) → drop n entries ≡ e ∷ rest → (slice_get entries n ≡ Some e) × (drop (n + 1) entries ≡ rest)
drop_get entries n e rest h = let x = drop_get_suc entries n e rest h in (x.0, ap (λ k. drop k entries) (next_of n) ∙ x.1)

drop_none : (entries : List Entry) (n : ℕ) → n ≤ length entries → drop n entries ≡ [] → n ≡ length entries
drop_none [] zero le h = refl
drop_none [] (suc n) le h = absurd (omega (arith, le))
drop_none (x ∷ entries) zero le h = absurd (cc)
drop_none (x ∷ entries) (suc n) le h = ap suc (drop_none entries n (omega (arith, le)) h)

-- ---- a file

-- what has this name
named_is : (of_kind : Kind) (info : Option (List ℕ)) (name : List ℕ) → is_named of_kind info name ≡ true → (of_kind ≡ kind.File) × (info ≡ Some name)
named_is kind.Data info name h = absurd (cc)
named_is kind.File None name h = absurd (cc)
named_is kind.File (Some other) name h = (refl, ap Some ((bytes_decides other name).0 h))

pub file_is : (index : ℕ) (of_kind : Kind) (info : Option (List ℕ)) (octets : List ℕ) (e : Entry) → file_fault index (is_named of_kind info e.name) octets e ≡ None
    → IsFileOf e (up.Object index of_kind info octets)
file_is index of_kind info octets e h = by_name (is_named of_kind info e.name) refl h
  where
    by_digest : (of_kind ≡ kind.File) × (info ≡ Some e.name) → length octets ≡ e.len → (d : Bool) → pointwise nat_eq (sha256 octets) e.digest ≡ d
        → digest_fault index d ≡ None → IsFileOf e (up.Object index of_kind info octets)
    by_digest named len true is h = record {
      index = index;
      octets = octets;
      is = ap (λ k. up.Object index k info octets) named.0 ∙ ap (λ i. up.Object index kind.File i octets) named.1;
      len = len;
      digest = (bytes_decides (sha256 octets) e.digest).0 is;
    }
    by_digest named len false is h = absurd (no_fault (fault.Digest index) h)

    by_len : (of_kind ≡ kind.File) × (info ≡ Some e.name) → (b : Bool) → (length octets == e.len) ≡ b
        → length_fault index b octets e ≡ None → IsFileOf e (up.Object index of_kind info octets)
    by_len named true is h = by_digest named ((Decides-eqb (length octets) e.len).0 is) (pointwise nat_eq (sha256 octets) e.digest) refl h
    by_len named false is h = absurd (no_fault (fault.Length index) h)

    by_name : (b : Bool) → is_named of_kind info e.name ≡ b → file_fault index b octets e ≡ None → IsFileOf e (up.Object index of_kind info octets)
    by_name true is h = by_len (named_is of_kind info e.name is) (length octets == e.len) refl h
    by_name false is h = absurd (no_fault (fault.Name index) h)

-- ---- all files

files_of : (entries : List Entry) (n : ℕ) (ups : List Up) → (goes (at_file entries n) ups).refused ≡ None → is_done (goes (at_file entries n) ups) ≡ true
    → AreFilesOf (drop n entries) ups
files_of entries n [] h done =
    subst (λ (xs : List Entry). AreFilesOf xs []) (sym (ap (λ k. drop k entries) (sym ((Decides-eqb (length entries) n).0 done)) ∙ drop_all entries)) tt
files_of entries n (up.StreamOpen index ∷ ups) h done = absurd (refused_stays (at_file entries n) (fault.Stream index) ups h)
files_of entries n (up.StreamBytes index offset octets ∷ ups) h done = absurd (refused_stays (at_file entries n) (fault.Stream index) ups h)
files_of entries n (up.StreamEnd index ∷ ups) h done = absurd (refused_stays (at_file entries n) (fault.Stream index) ups h)
files_of entries n (up.Lost index ∷ ups) h done = absurd (refused_stays (at_file entries n) (fault.Lost index) ups h)
files_of entries n (up.Object index of_kind info octets ∷ ups) h done = by_next (slice_get entries n) refl h done (files_of entries (n + 1) ups)
  where
    u : Up
    u = up.Object index of_kind info octets

    -- what the files behind this one are
    Behind : Type 0
    Behind = (goes (at_file entries (n + 1)) ups).refused ≡ None → is_done (goes (at_file entries (n + 1)) ups) ≡ true → AreFilesOf (drop (n + 1) entries) ups

    by_fault : (e : Entry) → slice_get entries n ≡ Some e → (o : Option CheckFault) → file_fault index (is_named of_kind info e.name) octets e ≡ o
        → (goes (after_file (at_file entries n) o) ups).refused ≡ None → is_done (goes (after_file (at_file entries n) o) ups) ≡ true
        → Behind → AreFilesOf (drop n entries) (u ∷ ups)
    by_fault e there (Some why) is h done behind = absurd (refused_stays (at_file entries n) why ups h)
    by_fault e there None is h done behind =
        subst (λ (xs : List Entry). AreFilesOf xs (u ∷ ups)) (sym (get_drop entries n e there)) (file_is index of_kind info octets e is, behind h done)

    by_next : (o : Option Entry) → slice_get entries n ≡ o → (goes (file_by (at_file entries n) index of_kind info octets o) ups).refused ≡ None
        → is_done (goes (file_by (at_file entries n) index of_kind info octets o) ups) ≡ true → Behind → AreFilesOf (drop n entries) (u ∷ ups)
    by_next None there h done behind = absurd (refused_stays (at_file entries n) (fault.Extra index) ups h)
    by_next (Some e) there h done behind = by_fault e there (file_fault index (is_named of_kind info e.name) octets e) refl h done behind

-- a file of the next entry is taken
takes_file : (entries : List Entry) (n : ℕ) (e : Entry) (u : Up) → slice_get entries n ≡ Some e → IsFileOf e u → taken (at_file entries n) u ≡ at_file entries (n + 1)
takes_file entries n e u there is =
    ap (taken (at_file entries n)) is.is
    ∙ ap (file_by (at_file entries n) is.index kind.File (Some e.name) is.octets) there
    ∙ ap (after_file (at_file entries n)) none
  where
    none : file_fault is.index (is_named kind.File (Some e.name) e.name) is.octets e ≡ None
    none =
        ap (λ b. file_fault is.index b is.octets e) ((bytes_decides e.name e.name).1 refl)
        ∙ ap (λ b. length_fault is.index b is.octets e) ((Decides-eqb (length is.octets) e.len).1 is.len)
        ∙ ap (digest_fault is.index) ((bytes_decides (sha256 is.octets) e.digest).1 is.digest)

files_pass : (entries : List Entry) (n : ℕ) (rest : List Entry) (ups : List Up) → n ≤ length entries → drop n entries ≡ rest → AreFilesOf rest ups
    → goes (at_file entries n) ups ≡ at_file entries (length entries)
files_pass entries n [] [] le is files = ap (at_file entries) (drop_none entries n le is)
files_pass entries n [] (u ∷ ups) le is files = absurd files
files_pass entries n (e ∷ rest) [] le is files = absurd files
files_pass entries n (e ∷ rest) (u ∷ ups) le is files =
    let here = drop_get entries n e rest is in
    ap (λ (t : Checked). goes t ups) (takes_file entries n e u here.0 files.0)
    ∙ files_pass entries (n + 1) rest ups (within entries n e here.0) here.1 files.1
  where
    within : (entries : List Entry) (n : ℕ) (e : Entry) → slice_get entries n ≡ Some e → n + 1 ≤ length entries
    within [] n e h = absurd (cc)
    within (x ∷ entries) zero e h = omega arith
    within (x ∷ entries) (suc n) e h = let le = within entries n e h in omega (arith, le)

-- ---- the manifest first

-- the manifest stays as it is
entries_kept : (s : Checked) (entries : List Entry) (u : Up) → s.entries ≡ Some entries → (taken s u).entries ≡ Some entries
entries_kept s entries u is = by_refused s.refused
  where
    by_fault : (o : Option CheckFault) → (after_file s o).entries ≡ Some entries
    by_fault (Some why) = is
    by_fault None = is

    by_next : (index : ℕ) (of_kind : Kind) (info : Option (List ℕ)) (octets : List ℕ) (o : Option Entry) → (file_by s index of_kind info octets o).entries ≡ Some entries
    by_next index of_kind info octets None = is
    by_next index of_kind info octets (Some e) = by_fault (file_fault index (is_named of_kind info e.name) octets e)

    looked : (u : Up) → (looked_at s u).entries ≡ Some entries
    looked (up.Object index of_kind info octets) =
        ap (λ (o : Option (List Entry)). (object_by s index of_kind info octets o).entries) is ∙ by_next index of_kind info octets (slice_get entries s.files)
    looked (up.StreamOpen index) = is
    looked (up.StreamBytes index offset octets) = is
    looked (up.StreamEnd index) = is
    looked (up.Lost index) = is

    by_refused : (o : Option CheckFault) → (taken_by o s u).entries ≡ Some entries
    by_refused (Some why) = is
    by_refused None = looked u

entries_stay : (s : Checked) (entries : List Entry) (ups : List Up) → s.entries ≡ Some entries → (goes s ups).entries ≡ Some entries
entries_stay s entries [] is = is
entries_stay s entries (u ∷ ups) is = entries_stay (taken s u) entries ups (entries_kept s entries u is)

folder_of : (ups : List Up) (entries : List Entry) → (goes checked_nothing ups).refused ≡ None → (goes checked_nothing ups).entries ≡ Some entries
    → is_done (goes checked_nothing ups) ≡ true → IsFolder entries ups
folder_of [] entries h is done = absurd (cc)
folder_of (up.StreamOpen index ∷ ups) entries h is done = absurd (refused_stays checked_nothing (fault.Stream index) ups h)
folder_of (up.StreamBytes index offset octets ∷ ups) entries h is done = absurd (refused_stays checked_nothing (fault.Stream index) ups h)
folder_of (up.StreamEnd index ∷ ups) entries h is done = absurd (refused_stays checked_nothing (fault.Stream index) ups h)
folder_of (up.Lost index ∷ ups) entries h is done = absurd (refused_stays checked_nothing (fault.Lost index) ups h)
folder_of (up.Object index kind.File info octets ∷ ups) entries h is done = absurd (refused_stays checked_nothing (fault.NoManifest index) ups h)
folder_of (up.Object index kind.Data info octets ∷ ups) entries h is done = by_read (manifest_of octets) refl h is done
  where
    begun : Result (List Entry) ℕ → Checked
    begun r = first_read checked_nothing index r

    inside : (xs ys : List Entry) → Some xs ≡ Some ys → xs ≡ ys
    inside xs ys e = cc

    by_read : (r : Result (List Entry) ℕ) → manifest_of octets ≡ r → (goes (begun r) ups).refused ≡ None → (goes (begun r) ups).entries ≡ Some entries
        → is_done (goes (begun r) ups) ≡ true → IsFolder entries (up.Object index kind.Data info octets ∷ ups)
    by_read (Err n) read h is done = absurd (refused_stays checked_nothing (fault.NoManifest index) ups h)
    by_read (Ok xs) read h is done =
        let spelt = manifest_laws.spelt octets xs read in
        let same : xs ≡ entries = inside xs entries (sym (entries_stay (at_file xs 0) xs ups refl) ∙ is) in
        subst (λ (ys : List Entry). IsFolder ys (up.Object index kind.Data info octets ∷ ups)) same
        (record {
          index = index;
          info = info;
          files = ups;
          are = ap (λ o. up.Object index kind.Data info o ∷ ups) spelt.text;
          manifest = spelt.is;
          each = files_of xs 0 ups h done;
        })

passes_all : (ups : List Up) (entries : List Entry) → IsFolder entries ups → goes checked_nothing ups ≡ at_file entries (length entries)
passes_all ups entries f =
    ap (goes checked_nothing) f.are
    ∙ ap (λ (r : Result (List Entry) ℕ). goes (first_read checked_nothing f.index r) f.files) (manifest_laws.back entries f.manifest)
    ∙ files_pass entries 0 entries f.files (omega arith) refl f.each

pub check_laws : CheckLaws
check_laws = record {
  folder = λ ups entries p. folder_of ups entries p.clean p.read p.done;
  passes = λ ups entries f.
      let all = passes_all ups entries f in
      record {
        clean = ap (λ (t : Checked). t.refused) all;
        read = ap (λ (t : Checked). t.entries) all;
        done = ap is_done all ∙ (Decides-eqb (length entries) (length entries)).1 refl;
      };
}
