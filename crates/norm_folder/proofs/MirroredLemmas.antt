-- A folder that arrived: no check refuses, and its copies are the folder.
use Rattle.std.proofs.Common.{◌≡◌, ◌∙◌, ℕ, zero, suc, ◌+◌, ◌<◌, ◌≤◌, ◌⊎◌, inl, inr, Ordering, Less, Equal, Greater, List, [], ◌∷◌, ◌++◌, length, Bool, true, false, cond, Option, None, Some, refl, sym, ap, subst, arith}
use Rattle.std.specs.Prelude.{◌≢◌, ◌^◌, Contains, fold, slice_get, unwrap_or}
use Rattle.std.specs.Cmp.Lexicographic.{slice_cmp, same_text, texts_ties}
use Rattle.std.specs.List.{AllByRecursion, flat_map}
use Rattle.std.specs.Option.{option_map}
use Rattle.std.specs.Ordering.{is_eq, match_ordering, nat_cmp}
use Rattle.std.proofs.lemmas.Option.{same_Some}
use Rattle.norm_base.specs.Contents.{content_of}
use Rattle.norm_base.specs.Members.{receivers_of}
use Rattle.norm_base.specs.Settings.{Settings, InRange}
use Rattle.norm_order.specs.declared.up.Up.{Up}
use Rattle.norm_script.specs.Commands.{Commands}
use Rattle.norm_safety.proofs.PleaKept.{IsIn, in_of, contains_of}
use Rattle.norm_journal.specs.Jobs.{Told}
use Rattle.norm_journal.specs.SessionRun.{SessionRun, Whole, judged}
use Rattle.norm_record.specs.HandedUp.{handed_up}
use Rattle.norm_mirror.specs.Checking.{checked, is_done}
use Rattle.norm_mirror.specs.Folder.{IsFolder as IsFolderOf, IsOtherThan}
use Rattle.norm_mirror.specs.Manifest.{IsEntry}
use Rattle.norm_mirror.specs.declared.check.CheckFault.{CheckFault}
use Rattle.norm_mirror.specs.declared.entry.Entry.{Entry}
use Rattle.norm_mirror.proofs.CheckLemmas.{check_laws}
use Rattle.norm_arrival.specs.FolderArrives.{AreEntriesOf, IsEntryOf as IsEntryIn}
use Rattle.norm_arrival.specs.FolderHandsUp.{file_ups, folder_ups}
use Rattle.norm_arrival.specs.FolderScript.{folder_script}
use Rattle.norm_arrival.specs.HandedBy.{ups_of}
use Rattle.norm_arrival.proofs.DifferLemmas.{folder_differs}
use Rattle.norm_arrival.proofs.FolderLemmas.{folder_arrives, folder_hands_up}
use Rattle.norm_folder.specs.Checks.{first_unlike, is_like, unlike}
use Rattle.norm_folder.specs.Copies.{ArePut, copies, copy_name, copy_of}
use Rattle.norm_folder.specs.Entries.{IsEntryOf, entry_names, in_order, names_of, put_name}
use Rattle.norm_folder.specs.Laws.{ChangesAreRefused, CopiesMirror, IsSafeRun, NoneIsUnlike, nodes_of}
use Rattle.norm_folder.specs.Mirrored.{IsCopyName, Mirrored}
use Rattle.norm_folder.specs.Sending.{IsFolderScript}
use Rattle.norm_folder.proofs.FolderLemmas.{folder_range}
use Rattle.norm_folder.proofs.PutLemmas.{File, ThenHas, HasName, has_front, has_behind, puts_then, then_is, then_kept, same_file}

-- ---- lists

all_on : {X : Type 0} (P : X → Type 0) (xs ys : List X) → AllByRecursion P xs → AllByRecursion P ys → AllByRecursion P (xs ++ ys)
all_on P [] ys all more = more
all_on P (x ∷ xs) ys all more = (all.0, all_on P xs ys all.1 more)

all_in : {X : Type 0} (P : X → Type 0) (xs : List X) → ((x : X) → IsIn xs x → P x) → AllByRecursion P xs
all_in P [] h = tt
all_in P (x ∷ xs) h = (h x (inl refl), all_in P xs (λ y there. h y (inr there)))

-- what holds of each holds of one
of_one : {X : Type 0} (P : X → Type 0) (xs : List X) (x : X) → AllByRecursion P xs → IsIn xs x → P x
of_one P [] x all there = absurd there
of_one P (y ∷ xs) x all (inl is) = subst P is all.0
of_one P (y ∷ xs) x all (inr there) = of_one P xs x all.1 there

-- ---- names in order are the names

equal_names : (a b : List ℕ) → slice_cmp nat_cmp a b ≡ Equal → a ≡ b
equal_names a b is = same_text a b (sym (texts_ties a b ∙ ap is_eq is))

put_holds : (names : List (List ℕ)) (name x : List ℕ) → IsIn names x → IsIn (put_name names name) x
put_holds [] name x there = absurd there
put_holds (y ∷ names) name x there = go (slice_cmp nat_cmp name y) there (put_holds names name x)
  where
    go : (o : Ordering) → IsIn (y ∷ names) x → (IsIn names x → IsIn (put_name names name) x)
        → IsIn (match_ordering o (name ∷ y ∷ names) (y ∷ names) (y ∷ put_name names name)) x
    go Less there on = inr there
    go Equal there on = there
    go Greater (inl is) on = inl is
    go Greater (inr more) on = inr (on more)

put_there : (names : List (List ℕ)) (name : List ℕ) → IsIn (put_name names name) name
put_there [] name = inl refl
put_there (y ∷ names) name = go (slice_cmp nat_cmp name y) refl (put_there names name)
  where
    go : (o : Ordering) → slice_cmp nat_cmp name y ≡ o → IsIn (put_name names name) name
        → IsIn (match_ordering o (name ∷ y ∷ names) (y ∷ names) (y ∷ put_name names name)) name
    go Less is on = inl refl
    go Equal is on = inl (sym (equal_names name y is))
    go Greater is on = inr on

put_from : (names : List (List ℕ)) (name x : List ℕ) → IsIn (put_name names name) x → (name ≡ x) ⊎ IsIn names x
put_from [] name x (inl is) = inl is
put_from [] name x (inr none) = absurd none
put_from (y ∷ names) name x there = go (slice_cmp nat_cmp name y) (put_from names name x) there
  where
    go : (o : Ordering) → (IsIn (put_name names name) x → (name ≡ x) ⊎ IsIn names x)
        → IsIn (match_ordering o (name ∷ y ∷ names) (y ∷ names) (y ∷ put_name names name)) x → (name ≡ x) ⊎ IsIn (y ∷ names) x
    go Less on (inl is) = inl is
    go Less on (inr more) = inr more
    go Equal on more = inr more
    go Greater on (inl is) = inr (inl is)
    go Greater on (inr more) = behind (on more)
      where
        behind : (name ≡ x) ⊎ IsIn names x → (name ≡ x) ⊎ IsIn (y ∷ names) x
        behind (inl is) = inl is
        behind (inr there) = inr (inr there)

fold_holds : (sorted names : List (List ℕ)) (x : List ℕ) → IsIn sorted x ⊎ IsIn names x → IsIn (fold put_name sorted names) x
fold_holds sorted [] x (inl there) = there
fold_holds sorted [] x (inr none) = absurd none
fold_holds sorted (y ∷ names) x (inl there) = fold_holds (put_name sorted y) names x (inl (put_holds sorted y x there))
fold_holds sorted (y ∷ names) x (inr (inl is)) = fold_holds (put_name sorted y) names x (inl (subst (IsIn (put_name sorted y)) is (put_there sorted y)))
fold_holds sorted (y ∷ names) x (inr (inr more)) = fold_holds (put_name sorted y) names x (inr more)

fold_from : (sorted names : List (List ℕ)) (x : List ℕ) → IsIn (fold put_name sorted names) x → IsIn sorted x ⊎ IsIn names x
fold_from sorted [] x there = inl there
fold_from sorted (y ∷ names) x there = go (fold_from (put_name sorted y) names x there)
  where
    by : (y ≡ x) ⊎ IsIn sorted x → IsIn sorted x ⊎ IsIn (y ∷ names) x
    by (inl is) = inr (inl is)
    by (inr more) = inl more

    go : IsIn (put_name sorted y) x ⊎ IsIn names x → IsIn sorted x ⊎ IsIn (y ∷ names) x
    go (inl put) = by (put_from sorted y x put)
    go (inr more) = inr (inr more)

in_order_holds : (names : List (List ℕ)) (x : List ℕ) → IsIn names x → IsIn (in_order names) x
in_order_holds names x there = fold_holds [] names x (inr there)

in_order_from : (names : List (List ℕ)) (x : List ℕ) → IsIn (in_order names) x → IsIn names x
in_order_from names x there = go (fold_from [] names x there)
  where
    go : IsIn [] x ⊎ IsIn names x → IsIn names x
    go (inl none) = absurd none
    go (inr more) = more

-- ---- entries say what their files hold

entry_is : (files : List File) (e : Entry) → IsEntryOf (Some files) e → IsEntryIn files e
entry_is files e h = record {
  octets = h.digest.0;
  there = h.digest.1;
  len = same_Some (length h.digest.0) e.len (sym (ap (λ (o : Option (List ℕ)). option_map (λ (xs : List ℕ). length xs) o) h.digest.1) ∙ h.length);
  digest = sym h.digest.2;
}

entries_are : (files : List File) (entries : List Entry) → AllByRecursion (IsEntryOf (Some files)) entries → AllByRecursion (IsEntryIn files) entries
entries_are files [] each = tt
entries_are files (e ∷ entries) each = (entry_is files e each.0, entries_are files entries each.1)

-- ---- the copies of a folder

-- one receiver's copies of these files
abbrev file_copies : List File → ℕ → List Entry → List File
file_copies files node [] = []
file_copies files node (e ∷ entries) = (copy_name node e.name, unwrap_or (content_of files e.name) []) ∷ file_copies files node entries

abbrev all_copies : List File → List Entry → List ℕ → List File
all_copies files entries nodes = flat_map (λ (node : ℕ). file_copies files node entries) nodes

files_copied : (files : List File) (node n : ℕ) (entries : List Entry) → AllByRecursion IsEntry entries
    → flat_map (copy_of node) (file_ups files n entries) ≡ file_copies files node entries
files_copied files node n [] each = refl
files_copied files node n (e ∷ entries) each =
    let copy : File = (copy_name node e.name, unwrap_or (content_of files e.name) []) in
    ap (λ (named : Bool). cond named (copy ∷ []) [] ++ flat_map (copy_of node) (file_ups files (n + 1) entries)) each.0.name
    ∙ ap (λ (rest : List File). copy ∷ rest) (files_copied files node (n + 1) entries each.1)

copies_are : (files : List File) (entries : List Entry) (handed : List (ℕ × Up)) (nodes : List ℕ) → AllByRecursion IsEntry entries
    → AllByRecursion (λ (node : ℕ). ups_of node handed ≡ folder_ups files entries) nodes → copies handed nodes ≡ all_copies files entries nodes
copies_are files entries handed [] named each = refl
copies_are files entries handed (node ∷ nodes) named each =
    ap (λ (ups : List Up). flat_map (copy_of node) ups ++ copies handed nodes) each.0
    ∙ ap (λ (front : List File). front ++ copies handed nodes) (files_copied files node 1 entries named)
    ∙ ap (λ (rest : List File). file_copies files node entries ++ rest) (copies_are files entries handed nodes named each.1)

-- what holds of each receiver's copy of each file
each_copy : (P : File → Type 0) (files : List File) (entries : List Entry) (nodes : List ℕ)
    → AllByRecursion (λ (node : ℕ). AllByRecursion (λ (e : Entry). P (copy_name node e.name, unwrap_or (content_of files e.name) [])) entries) nodes
    → AllByRecursion P (all_copies files entries nodes)
each_copy P files entries [] all = tt
each_copy P files entries (node ∷ nodes) all =
    all_on P (file_copies files node entries) (all_copies files entries nodes) (of_node entries all.0) (each_copy P files entries nodes all.1)
  where
    of_node : (es : List Entry) → AllByRecursion (λ (e : Entry). P (copy_name node e.name, unwrap_or (content_of files e.name) [])) es
        → AllByRecursion P (file_copies files node es)
    of_node [] all = tt
    of_node (e ∷ es) all = (all.0, of_node es all.1)

-- each receiver has a copy of each file
has_file : (files : List File) (node : ℕ) (entries : List Entry) (name : List ℕ) → IsIn (entry_names entries) name
    → HasName (copy_name node name) (file_copies files node entries)
has_file files node [] name there = absurd there
has_file files node (e ∷ entries) name (inl is) = inl (ap (λ (x : List ℕ). copy_name node x) is)
has_file files node (e ∷ entries) name (inr there) = inr (has_file files node entries name there)

has_copy : (files : List File) (entries : List Entry) (nodes : List ℕ) (node : ℕ) (name : List ℕ) → IsIn nodes node → IsIn (entry_names entries) name
    → HasName (copy_name node name) (all_copies files entries nodes)
has_copy files entries [] node name there named = absurd there
has_copy files entries (n ∷ nodes) node name (inl is) named =
    has_front (copy_name node name) (file_copies files n entries) (all_copies files entries nodes)
    (subst (λ (m : ℕ). HasName (copy_name node name) (file_copies files m entries)) (sym is) (has_file files node entries name named))
has_copy files entries (n ∷ nodes) node name (inr there) named =
    has_behind (copy_name node name) (file_copies files n entries) (all_copies files entries nodes) (has_copy files entries nodes node name there named)

-- a name that an entry has
entry_name_in : (entries : List Entry) (e : Entry) → IsIn entries e → IsIn (entry_names entries) e.name
entry_name_in [] e there = absurd there
entry_name_in (x ∷ entries) e (inl is) = inl (ap (λ (y : Entry). y.name) is)
entry_name_in (x ∷ entries) e (inr there) = inr (entry_name_in entries e there)

-- the ids of receivers are numbers of 32 bits
receivers_small : (p : Settings) (k : ℕ) → p.sender ≤ 4294967278 → k ≤ 16 → AllByRecursion (λ (n : ℕ). n < 2 ^ 64) (receivers_of p k)
receivers_small p zero sender few = tt
receivers_small p (suc k) sender few =
    let small : p.sender + 1 + k < 18446744073709551616 = omega (arith, sender, few) in
    all_on (λ (n : ℕ). n < 2 ^ 64) (receivers_of p k) ((p.sender + 1 + k) ∷ []) (receivers_small p k sender (omega (arith, few))) (small, tt)

-- ---- the copies that were put are the folder

put_mirrors : (files : List File) (entries : List Entry) (nodes : List ℕ) (names : List (List ℕ)) (after : Told) → AllByRecursion (IsEntryIn files) entries
    → AllByRecursion (λ (n : ℕ). n < 2 ^ 64) nodes → ((name : List ℕ) → IsIn names name → IsIn (entry_names entries) name)
    → ((name : List ℕ) → IsIn (entry_names entries) name → IsIn names name) → ArePut (all_copies files entries nodes) (Some files) after
    → Mirrored files after nodes names
put_mirrors files entries nodes names after each small to from put =
    let M : Told → Type 0 = λ told. Mirrored files told nodes names in subst M (sym then.is) (record { copied = copied; others = others })
  where
    pairs : List File
    pairs = all_copies files entries nodes

    then : ThenHas pairs files after
    then = puts_then pairs files after put

    has : (e : Entry) → IsEntryIn files e → Some (unwrap_or (content_of files e.name) []) ≡ content_of files e.name
    has e is = ap (λ (o : Option (List ℕ)). Some (unwrap_or o [])) is.there ∙ sym is.there

    copied : (node : ℕ) (name : List ℕ) → Contains nodes node → Contains names name → content_of then.b (copy_name node name) ≡ content_of files name
    copied node name there named =
        then.each (copy_name node name)
        ∙ then_is pairs (content_of files (copy_name node name)) (content_of files name) (copy_name node name)
        (each_copy Own files entries nodes (all_in Node nodes (λ n its. all_in (Of n) entries (λ e entry. own n e its entry))))
        (inr (has_copy files entries nodes node name (in_of nodes node there) (to name (in_of names name named))))
      where
        Own : File → Type 0
        Own f = f.0 ≡ copy_name node name → Some f.1 ≡ content_of files name

        Of : ℕ → Entry → Type 0
        Of n e = Own (copy_name n e.name, unwrap_or (content_of files e.name) [])

        Node : ℕ → Type 0
        Node n = AllByRecursion (Of n) entries

        fits : (n : ℕ) → IsIn nodes n → n < 2 ^ 64
        fits n its = of_one (λ (m : ℕ). m < 2 ^ 64) nodes n small its

        own : (n : ℕ) (e : Entry) → IsIn nodes n → IsIn entries e → Of n e
        own n e its entry same =
            has e (of_one (IsEntryIn files) entries e each entry)
            ∙ ap (content_of files) (same_file n node e.name name (fits n its) (fits node (in_of nodes node there)) same)

    others : (other : List ℕ) → (IsCopyName nodes names other → ⊥) → content_of then.b other ≡ content_of files other
    others other none =
        then.each other
        ∙ then_kept pairs (content_of files other) other
        (each_copy Own files entries nodes (all_in Node nodes (λ n its. all_in (Of n) entries (λ e entry. own n e its entry))))
      where
        Own : File → Type 0
        Own f = f.0 ≡ other → ⊥

        Of : ℕ → Entry → Type 0
        Of n e = Own (copy_name n e.name, unwrap_or (content_of files e.name) [])

        Node : ℕ → Type 0
        Node n = AllByRecursion (Of n) entries

        own : (n : ℕ) (e : Entry) → IsIn nodes n → IsIn entries e → Of n e
        own n e its entry same =
            none (n, e.name, contains_of nodes n its, contains_of names e.name (from e.name (entry_name_in entries e entry)), sym same)

-- ---- a folder that was sent

entries_of : (files : List File) (text : List ℕ) (script : Commands) → (s : IsFolderScript (Some files) text script) → AreEntriesOf files s.entries
entries_of files text script s = record { manifest = s.are.manifest; each = entries_are files s.entries s.are.each }

-- hand-ups that are a folder pass
folder_like : (entries : List Entry) (ups : List Up) → IsFolderOf entries ups → is_like (checked ups) ≡ true
folder_like entries ups is =
    let passes = check_laws.passes ups entries is in
    ap (λ (refused : Option CheckFault). by refused) passes.clean ∙ passes.done
  where
    by : Option CheckFault → Bool
    by refused = elim refused [ Some why ↦ false | None ↦ is_done (checked ups) ]

none_unlike : (handed : List (ℕ × Up)) (nodes : List ℕ) → AllByRecursion (λ (node : ℕ). is_like (checked (ups_of node handed)) ≡ true) nodes
    → first_unlike handed nodes ≡ None
none_unlike handed [] each = refl
none_unlike handed (node ∷ nodes) each =
    ap (λ (like : Bool). cond like (first_unlike handed nodes) (Some (unlike node (checked (ups_of node handed))))) each.0
    ∙ none_unlike handed nodes each.1

pub none_is_unlike : NoneIsUnlike
none_is_unlike files text script journal sent =
    subst N (sym s.script_is) arrives sent.run sent.safe
  where
    s : IsFolderScript (Some files) text script
    s = sent.folder

    N : Commands → Type 0
    N c = SessionRun c (Some files) journal Whole → IsSafeRun c (Some files) journal → first_unlike (handed_up journal) (nodes_of c) ≡ None

    p : Settings
    p = s.folder.profile

    Like : ℕ → Type 0
    Like node = is_like (checked (ups_of node (handed_up journal))) ≡ true

    arrives : N (folder_script p s.entries)
    arrives run safe =
        none_unlike (handed_up journal) (receivers_of p p.receivers)
        (all_in Like (receivers_of p p.receivers) (λ node there. folder_like s.entries (ups_of node (handed_up journal))
        (folder_arrives p (folder_range text s.folder s.read) s.entries files (entries_of files text script s) journal run safe sent.clean node
        (contains_of (receivers_of p p.receivers) node there))))

pub copies_mirror : CopiesMirror
copies_mirror files text script journal sent after = subst N (sym s.script_is) mirrors sent.run sent.safe
  where
    s : IsFolderScript (Some files) text script
    s = sent.folder

    names : List (List ℕ)
    names = names_of s.folder.names

    N : Commands → Type 0
    N c = SessionRun c (Some files) journal Whole → IsSafeRun c (Some files) journal → ArePut (copies (handed_up journal) (nodes_of c)) (Some files) after
        → Mirrored files after (nodes_of c) names

    p : Settings
    p = s.folder.profile

    range : InRange p
    range = folder_range text s.folder s.read

    nodes : List ℕ
    nodes = receivers_of p p.receivers

    handed : List (ℕ × Up)
    handed = handed_up journal

    in_names : (name : List ℕ) → IsIn names name → IsIn (entry_names s.entries) name
    in_names name there = subst (λ (l : List (List ℕ)). IsIn l name) (sym s.are.named) (in_order_holds names name there)

    of_names : (name : List ℕ) → IsIn (entry_names s.entries) name → IsIn names name
    of_names name there = in_order_from names name (subst (λ (l : List (List ℕ)). IsIn l name) s.are.named there)

    Hands : ℕ → Type 0
    Hands node = ups_of node handed ≡ folder_ups files s.entries

    mirrors : N (folder_script p s.entries)
    mirrors run safe put =
        let sender : p.sender ≤ 4294967278 = range.sender.1 in
        let few : p.receivers ≤ 16 = range.receivers.1 in
        let are = copies_are files s.entries handed nodes s.are.manifest.front.each
        (all_in Hands nodes (λ node there. folder_hands_up p range s.entries files journal run safe sent.clean node (contains_of nodes node there))) in
        put_mirrors files s.entries nodes names after (entries_are files s.entries s.are.each) (receivers_small p p.receivers sender few) in_names of_names
        (subst (λ (l : List File). ArePut l (Some files) after) are put)

pub changes_are_refused : ChangesAreRefused
changes_are_refused files text script s journal last = subst N (sym s.script_is) refused
  where
    N : Commands → Type 0
    N c = judged c files (nodes_of c) journal ≡ Some last → IsSafeRun c files journal
        → (node i n : ℕ) (e : Entry) (hand_up : Up) → slice_get s.entries i ≡ Some e
        → slice_get (ups_of node (handed_up journal)) n ≡ Some hand_up → IsOtherThan e hand_up
        → (checked (ups_of node (handed_up journal))).refused ≢ None

    refused : N (folder_script s.folder.profile s.entries)
    refused begun safe node i n e hand_up at there other =
        folder_differs s.folder.profile s.entries files s.are.manifest journal last begun safe node i n e hand_up at there other
