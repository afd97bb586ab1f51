-- The files of a folder, one after the other: lengths, entries, and the manifest that these are.
use Rattle.std.proofs.Common.{◌≡◌, ◌∙◌, ℕ, ◌+◌, ◌<◌, ◌≤◌, List, [], ◌∷◌, ◌++◌, length, take, drop, get_or, Result, Err, true, refl, sym, ap, subst, arith}
use Rattle.std.specs.Prelude.{IfErr}
use Rattle.std.specs.List.{AllByRecursion}
use Rattle.std.proofs.lemmas.List.{drop_more, length-map, take_all, take_more, take-append-drop}
use Rattle.norm_journal.specs.Follows.{IsLength}
use Rattle.norm_journal.specs.Jobs.{Told}
use Rattle.norm_mirror.specs.Manifest.{IsEntry, RiseFrom}
use Rattle.norm_mirror.specs.declared.entry.Entry.{Entry}
use Rattle.norm_script.specs.Folder.{Folder}
use Rattle.norm_script.specs.Words.{is_file_name}
use Rattle.norm_turns.specs.Causes.{FilesCause, counted}
use Rattle.norm_turns.specs.declared.fault.SessionFault.{SessionFault}
use Rattle.norm_turns.specs.declared.fault.SessionFault.TheVariants as fault
use Rattle.norm_folder.specs.Entries.{AreEntries, AreMeasured, AreRead, IsAbsent, IsDigest, IsEntryFor, IsEntryOf, IsFirstUnread, IsFolder, IsMeasured, IsStopBy, IsUnread, IsUnready, IsUnsendable, MaySend, ReadyCause, UnreadyCause, entry_names, ordered}
use Rattle.norm_folder.specs.declared.entries.Measured.{Measured}
use Rattle.norm_folder.specs.declared.entries.Unready.{Unready}
use Rattle.norm_folder.specs.declared.entries.Unready.TheVariants.{Unsendable, Unread}
use Rattle.norm_folder.proofs.OrderLemmas.{Rise, in_order_is, in_order_some}

-- ---- lengths

pub measured_more : (files : Told) (front : List (List ℕ)) (list : List Measured) (name : List ℕ) (m : Measured) → AreMeasured files front list
    → IsMeasured files name m → AreMeasured files (front ++ name ∷ []) (list ++ m ∷ [])
measured_more files [] [] name m h is = (is, tt)
measured_more files [] (y ∷ list) name m h is = absurd h
measured_more files (q ∷ front) [] name m h is = absurd h
measured_more files (q ∷ front) (y ∷ list) name m h is = (h.0, measured_more files front list name m h.1 is)

-- each of them may be sent
may_send : (files : Told) (names : List (List ℕ)) (list : List Measured) → AreMeasured files names list → AllByRecursion (MaySend files) names
may_send files [] [] h = tt
may_send files [] (m ∷ list) h = absurd h
may_send files (name ∷ names) [] h = absurd h
may_send files (name ∷ names) (m ∷ list) h = ((m.len, h.0.len, h.0.sendable), may_send files names list h.1)

at_name : {X : Type 0} (xs : List X) (i : ℕ) (x : X) → i < length xs → x ≡ get_or xs i x → xs ≡ take i xs ++ x ∷ drop (i + 1) xs
at_name xs i x lt is =
    sym (take-append-drop i xs) ∙ ap (λ ps. take i xs ++ ps) (drop_more xs i x lt) ∙ ap (λ p. take i xs ++ p ∷ drop (i + 1) xs) (sym is)

pub names_more : (files now : Told) (names : List (List ℕ)) (list after : List Measured) (i : ℕ) (name : List ℕ) (m : Measured) → i < length names
    → name ≡ get_or names i name → AreMeasured files (take i names) list → now ≡ files → IsMeasured now name m → after ≡ list ++ m ∷ []
    → AreMeasured files (take (i + 1) names) after
names_more files now names list after i name m lt is h same one put =
    let these : take (i + 1) names ≡ take i names ++ name ∷ [] = take_more names i name lt ∙ ap (λ x. take i names ++ x ∷ []) (sym is) in
    subst (λ ps. AreMeasured files ps after) (sym these)
    (subst (λ l. AreMeasured files (take i names ++ name ∷ []) l) (sym put)
    (measured_more files (take i names) list name m h (subst (λ n. IsMeasured n name m) same one)))

pub names_all : (files : Told) (names : List (List ℕ)) (list : List Measured) (i : ℕ) → length names ≤ i → AreMeasured files (take i names) list → AreMeasured files names list
names_all files names list i past h = subst (λ ps. AreMeasured files ps list) (take_all i names past) h

-- one of them stops the reading
unread_first : (files : Told) (names before rest : List (List ℕ)) (name : List ℕ) (why : SessionFault) → names ≡ before ++ name ∷ rest
    → AllByRecursion (MaySend files) before → IsUnread files name why → IsFirstUnread files names why
unread_first files names before rest name fault.Write is each h = absurd h
unread_first files names before rest name fault.Fabric is each h = absurd h
unread_first files names before rest name fault.Files is each h = tt
unread_first files names before rest name fault.Memory is each h = tt
unread_first files names before rest name (fault.Absent other) is each h = record {
  before = before;
  rest = rest;
  is = is ∙ ap (λ n. before ++ n ∷ rest) (sym h.0);
  each = each;
  stops = subst (IsAbsent files) (sym h.0) h.1;
}

stop_first : (files : Told) (names before rest : List (List ℕ)) (name : List ℕ) (why : Unready) → names ≡ before ++ name ∷ rest
    → AllByRecursion (MaySend files) before → IsStopBy files name why → IsUnready files names why
stop_first files names before rest name (Unread why) is each h = unread_first files names before rest name why is each h
stop_first files names before rest name (Unsendable other len) is each h = record {
  before = before;
  rest = rest;
  is = is ∙ ap (λ n. before ++ n ∷ rest) (sym h.0);
  each = each;
  stops = subst (IsUnsendable files len) (sym h.0) h.1;
}

pub names_stop : (files now : Told) (names : List (List ℕ)) (list : List Measured) (i : ℕ) (name : List ℕ) (why : Unready) → i < length names
    → name ≡ get_or names i name → AreMeasured files (take i names) list → now ≡ files → IsStopBy now name why → IsUnready files names why
names_stop files now names list i name why lt is h same stop =
    stop_first files names (take i names) (drop (i + 1) names) name why (at_name names i name lt is) (may_send files (take i names) list h)
    (subst (λ n. IsStopBy n name why) same stop)

-- ---- entries

pub read_more : (files : Told) (front : List Measured) (list : List Entry) (m : Measured) (e : Entry) → AreRead files front list
    → IsEntryFor files m e → AreRead files (front ++ m ∷ []) (list ++ e ∷ [])
read_more files [] [] m e h is = (is, tt)
read_more files [] (y ∷ list) m e h is = absurd h
read_more files (q ∷ front) [] m e h is = absurd h
read_more files (q ∷ front) (y ∷ list) m e h is = (h.0, read_more files front list m e h.1 is)

pub files_more : (files now : Told) (measured : List Measured) (list after : List Entry) (i : ℕ) (m : Measured) (e : Entry) → i < length measured
    → m ≡ get_or measured i m → AreRead files (take i measured) list → now ≡ files → IsEntryFor now m e → after ≡ list ++ e ∷ []
    → AreRead files (take (i + 1) measured) after
files_more files now measured list after i m e lt is h same one put =
    let these : take (i + 1) measured ≡ take i measured ++ m ∷ [] = take_more measured i m lt ∙ ap (λ x. take i measured ++ x ∷ []) (sym is) in
    subst (λ ps. AreRead files ps after) (sym these)
    (subst (λ l. AreRead files (take i measured ++ m ∷ []) l) (sym put)
    (read_more files (take i measured) list m e h (subst (λ n. IsEntryFor n m e) same one)))

pub files_all : (files : Told) (measured : List Measured) (list : List Entry) (i : ℕ) → length measured ≤ i → AreRead files (take i measured) list
    → AreRead files measured list
files_all files measured list i past h = subst (λ ps. AreRead files ps list) (take_all i measured past) h

-- the length of one of them, and what stands before it
pub record Found (files : Told) (names : List (List ℕ)) (m : Measured) : Type 0 where
  pub before : List (List ℕ)
  pub rest : List (List ℕ)
  pub is : names ≡ before ++ m.name ∷ rest
  pub each : AllByRecursion (MaySend files) before
  pub len : IsLength files m.name m.len

found_in : (files : Told) (names : List (List ℕ)) (front rest : List Measured) (m : Measured) → AreMeasured files names (front ++ m ∷ rest) → Found files names m
found_in files [] [] rest m h = absurd h
found_in files [] (q ∷ front) rest m h = absurd h
found_in files (name ∷ names) [] rest m h = record {
  before = [];
  rest = names;
  is = ap (λ n. n ∷ names) (sym h.0.is);
  each = tt;
  len = subst (λ n. IsLength files n m.len) (sym h.0.is) h.0.len;
}
found_in files (name ∷ names) (q ∷ front) rest m h =
    let found = found_in files names front rest m h.1 in record {
      before = name ∷ found.before;
      rest = found.rest;
      is = ap (λ l. name ∷ l) found.is;
      each = ((q.len, h.0.len, h.0.sendable), found.each);
      len = found.len;
    }

pub found : (files : Told) (names : List (List ℕ)) (measured : List Measured) (i : ℕ) (m : Measured) → i < length measured → m ≡ get_or measured i m
    → AreMeasured files names measured → Found files names m
found files names measured i m lt is h =
    found_in files names (take i measured) (drop (i + 1) measured) m (subst (AreMeasured files names) (at_name measured i m lt is) h)

pub files_stop : (files now : Told) (names : List (List ℕ)) (m : Measured) (why : SessionFault) → Found files names m → now ≡ files → IsUnread now m.name why
    → IsFirstUnread files names why
files_stop files now names m why f same h = unread_first files names f.before f.rest m.name why f.is f.each (subst (λ n. IsUnread n m.name why) same h)

-- ---- the manifest

names_are : (files : Told) (names : List (List ℕ)) (measured : List Measured) (entries : List Entry) → AreMeasured files names measured → AreRead files measured entries
    → entry_names entries ≡ names
names_are files [] [] [] h r = refl
names_are files [] [] (e ∷ entries) h r = absurd r
names_are files [] (m ∷ measured) entries h r = absurd h
names_are files (name ∷ names) [] entries h r = absurd h
names_are files (name ∷ names) (m ∷ measured) [] h r = absurd r
names_are files (name ∷ names) (m ∷ measured) (e ∷ entries) h r =
    ap (λ n. n ∷ entry_names entries) (r.0.name ∙ h.0.is) ∙ ap (λ l. name ∷ l) (names_are files names measured entries h.1 r.1)

each_of : (files : Told) (names : List (List ℕ)) (measured : List Measured) (entries : List Entry) → AreMeasured files names measured → AreRead files measured entries
    → AllByRecursion (IsEntryOf files) entries
each_of files names [] [] h r = tt
each_of files names [] (e ∷ entries) h r = absurd r
each_of files names (m ∷ measured) [] h r = absurd r
each_of files [] (m ∷ measured) (e ∷ entries) h r = absurd h
each_of files (name ∷ names) (m ∷ measured) (e ∷ entries) h r = (
  record {
    length = subst (λ n. IsLength files n e.len) (sym (r.0.name ∙ h.0.is)) (subst (IsLength files name) (sym r.0.len) h.0.len);
    digest = subst (λ n. IsDigest files n e.digest) (sym r.0.name) r.0.digest;
  },
  each_of files names measured entries h.1 r.1,
)

are_entries : (files : Told) (names : List (List ℕ)) (measured : List Measured) (entries : List Entry) → AllByRecursion (λ (n : List ℕ). is_file_name n ≡ true) names
    → AreMeasured files names measured → AreRead files measured entries → AllByRecursion IsEntry entries
are_entries files names [] [] each h r = tt
are_entries files names [] (e ∷ entries) each h r = absurd r
are_entries files names (m ∷ measured) [] each h r = absurd r
are_entries files [] (m ∷ measured) (e ∷ entries) each h r = absurd h
are_entries files (name ∷ names) (m ∷ measured) (e ∷ entries) each h r =
    let some = h.0.sendable.some in
    let most = h.0.sendable.most in
    let len = r.0.len in (
      record {
        name = subst (λ n. is_file_name n ≡ true) (sym (r.0.name ∙ h.0.is)) each.0;
        some = omega (arith, some, len);
        most = omega (arith, most, len);
        digest = r.0.long;
        octets = r.0.octets;
      },
      are_entries files names measured entries each.1 h.1 r.1,
    )

rise_of : (last : List ℕ) (entries : List Entry) → Rise last (entry_names entries) → RiseFrom last entries
rise_of last [] h = tt
rise_of last (e ∷ entries) h = (h.0, rise_of e.name entries h.1)

count_of : (entries : List Entry) → length (entry_names entries) ≡ length entries
count_of entries = length-map entries (λ (e : Entry). e.name)

-- what was read of a folder's files
pub entries_are : (files now : Told) (folder : Folder) (names : List (List ℕ)) (measured : List Measured) (entries : List Entry) → IsFolder folder → names ≡ ordered folder
    → now ≡ files → AreMeasured files names measured → AreRead now measured entries → AreEntries files (ordered folder) entries
entries_are files now folder names measured entries f at same h s =
    let r = subst (λ n. AreRead n measured entries) same s in
    let in_order = in_order_is folder.names f.each in
    let some = in_order_some folder.names f.some in
    let few = in_order.few in
    let most = f.few in
    let are : entry_names entries ≡ ordered folder = names_are files names measured entries h r ∙ at in
    let count : length (ordered folder) ≡ length entries = ap length (sym are) ∙ count_of entries in record {
      manifest = record {
        some = omega (arith, some, count);
        front = record {
          few = omega (arith, few, most, count);
          each = are_entries files names measured entries (subst (AllByRecursion (λ (n : List ℕ). is_file_name n ≡ true)) (sym at) in_order.each) h r;
          rise = rise_of [] entries (subst (Rise []) (sym are) in_order.rise);
        };
      };
      named = are;
      each = each_of files names measured entries h r;
    }

-- what `?` hands on
pub at_error : {T E : Type 0} → (P : E → Type 0) (r : Result T E) (y e : E) → r ≡ Err y → y ≡ e → P e → IfErr r P
at_error P r y e is same h = subst (λ s. IfErr s P) (sym is) (subst P (sym same) h)

pub at_cause : {T : Type 0} (r : Result T Unready) (y e : Unready) (before now : ℕ) → r ≡ Err y → y ≡ e → ReadyCause {T = T} (Err e) before now → ReadyCause r before now
at_cause {T} r y e before now is same h = subst (λ s. ReadyCause s before now) (sym is) (subst (λ z. ReadyCause {T = T} (Err z) before now) (sym same) h)

pub at_files : {T : Type 0} (r : Result T SessionFault) (y e : SessionFault) (before now : ℕ) → r ≡ Err y → y ≡ e → FilesCause {T = T} (Err e) before now → FilesCause r before now
at_files {T} r y e before now is same h = subst (λ s. FilesCause s before now) (sym is) (subst (λ z. FilesCause {T = T} (Err z) before now) (sym same) h)

pub memory_cause : (before now : ℕ) → now ≡ before → ReadyCause {T = ℕ} (Err (Unread fault.Memory)) before now
memory_cause before now same output network = ap (counted output network) same

pub cause_on : (e : Unready) (first before now : ℕ) → before ≡ first → UnreadyCause e before now → UnreadyCause e first now
cause_on (Unsendable name len) first before now same h = h ∙ same
cause_on (Unread why) first before now same h = subst (λ n. FilesCause {T = ℕ} (Err why) n now) same h

pub files_lack : (before now : ℕ) → now ≡ before → FilesCause {T = ℕ} (Err fault.Memory) before now
files_lack before now same output network = ap (counted output network) same

pub files_cause : (e : SessionFault) (first before now : ℕ) → before ≡ first → FilesCause {T = ℕ} (Err e) before now → FilesCause {T = ℕ} (Err e) first now
files_cause e first before now same h = subst (λ n. FilesCause {T = ℕ} (Err e) n now) same h
