-- Manifests that are written read back, and what is read is spelt so.
use Rattle.std.proofs.Common.{◌≡◌, ◌∙◌, ℕ, ◌+◌, ◌≤◌, ◌<◌, ◌^◌, List, [], ◌∷◌, ◌++◌, Bool, true, false, Option, None, Some, Result, Ok, Err, refl, sym, ap, subst, nat_eq, length, decimal, arith, cond, append_assoc, append-nil, length-append}
use Rattle.std.specs.Prelude.{◌==◌, not, nat_lt, fold, IfSome}
use Rattle.std.specs.Cmp.Lexicographic.{pointwise, bytes_decides}
use Rattle.std.specs.List.{list_all, AllByRecursion}
use Rattle.std.proofs.lemmas.List.Folds.{list_all-append}
use Rattle.std.proofs.lemmas.List.Sums.{fold-append}
use Rattle.hex.specs.Hex.{decode_sized, encode_lower}
use Rattle.hex.specs.declared.error.FromHexError.{FromHexError}
use Rattle.hex.proofs.HexLemmas.{decode_of-ok, decode_sized-encode_lower, decode_sized-ok, decode_sized-twice}
use Rattle.norm_base.specs.Octets.{AreOctets}
use Rattle.norm_script.specs.Text.{split_at_first}
use Rattle.norm_script.specs.Words.{is_file_name, is_name, is_numbered, number_within}
use Rattle.norm_script.specs.Written.{ended}
use Rattle.norm_script.proofs.BackLemmas.{split_is, within_is}
use Rattle.norm_script.proofs.SoundLemmas.{number-some}
use Rattle.norm_script.proofs.WordLemmas.{both, and_true, all_weaker, is_inner, is_word, split-word, decimal-word, within-written, hex-word, name-word}
use Rattle.norm_mirror.specs.Laws.{ManifestLaws}
use Rattle.norm_mirror.specs.Manifest.{IsEntry, IsFront, RiseFrom, IsFirstOther, entry_line, last_name, manifest_text, most_files, most_octets, name_before}
use Rattle.norm_mirror.specs.Reading.{cut, digest_if, digest_by, digest_of, entry_with, entry_behind, entry_in, entry_of, goes_on, kept_if, next_entry, is_end, read_end, read_on, read_behind, manifest_of}
use Rattle.norm_mirror.specs.declared.entry.Entry.{Entry}
use Rattle.norm_mirror.proofs.CutLemmas.{is_inside, has_no_feed, HaveNoFeed, cut_whole, cut_no_feed, cut_some, cut_none, split_feed, split_no_feed}

-- ---- a digest

-- what a word is that gives a digest
record IsDigest (word digest : List ℕ) : Type 0 where
  is : encode_lower digest ≡ word
  long : length digest ≡ 32
  octets : AreOctets digest

digest_is : (word : List ℕ) → IfSome (digest_of word) (IsDigest word)
digest_is word = go (decode_sized word 32) refl
  where
    by : (bytes : List ℕ) → decode_sized word 32 ≡ Ok bytes → (b : Bool) → pointwise nat_eq (encode_lower bytes) word ≡ b
        → IfSome (digest_if b bytes) (IsDigest word)
    by bytes e false is = tt
    by bytes e true is =
        let twice = decode_sized-ok word 32 bytes e in
        let ok = decode_of-ok word bytes (sym (decode_sized-twice word 32 twice) ∙ e) in
        record { is = (bytes_decides (encode_lower bytes) word).0 is; long = omega (arith, twice, ok.2); octets = ok.3 }

    go : (r : Result (List ℕ) FromHexError) → decode_sized word 32 ≡ r → IfSome (digest_by word r) (IsDigest word)
    go (Ok bytes) e = by bytes e (pointwise nat_eq (encode_lower bytes) word) refl
    go (Err fault) e = tt

digest_back : (digest : List ℕ) → length digest ≡ 32 → AreOctets digest → digest_of (encode_lower digest) ≡ Some digest
digest_back digest long octets =
    ap (digest_by (encode_lower digest)) (decode_sized-encode_lower digest 32 long octets)
    ∙ ap (λ b. digest_if b digest) ((bytes_decides (encode_lower digest) (encode_lower digest)).1 refl)

-- ---- a line

-- what a line is that gives an entry
record IsLineOf (line : List ℕ) (e : Entry) : Type 0 where
  is : line ≡ entry_line e
  entry : IsEntry e

entry_is : (line : List ℕ) → IfSome (entry_of line) (IsLineOf line)
entry_is line = first (split_at_first 32 line) refl
  where
    named : (p q : List ℕ × List ℕ) (n : ℕ) (d : List ℕ) → line ≡ p.0 ++ 32 ∷ p.1 → p.1 ≡ q.0 ++ 32 ∷ q.1 → decimal n ≡ q.0 → 1 ≤ n → n ≤ most_octets
        → IsDigest q.1 d → (b : Bool) → is_file_name p.0 ≡ b → IfSome (cond b (Some (record { name = p.0; len = n; digest = d })) None) (IsLineOf line)
    named p q n d whole rest number least most is false e = tt
    named p q n d whole rest number least most is true e = record {
      is = whole ∙ ap (λ xs. p.0 ++ 32 ∷ xs) (rest ∙ ap (λ xs. xs ++ 32 ∷ q.1) (sym number) ∙ ap (λ xs. decimal n ++ 32 ∷ xs) (sym is.is));
      entry = record { name = e; some = least; most = most; digest = is.long; octets = is.octets };
    }

    both_of : (p q : List ℕ × List ℕ) → line ≡ p.0 ++ 32 ∷ p.1 → p.1 ≡ q.0 ++ 32 ∷ q.1 → (n : Option ℕ) (d : Option (List ℕ))
        → IfSome n (λ k. decimal k ≡ q.0) → IfSome n (λ k. (1 ≤ k) × (k ≤ most_octets) × (1 ≤ length q.0)) → IfSome d (IsDigest q.1)
        → IfSome (entry_with p.0 n d) (IsLineOf line)
    both_of p q whole rest (Some n) (Some d) number range is = named p q n d whole rest number range.0 range.1 is (is_file_name p.0) refl
    both_of p q whole rest None d number range is = tt
    both_of p q whole rest (Some n) None number range is = tt

    second : (p : List ℕ × List ℕ) → line ≡ p.0 ++ 32 ∷ p.1 → (o : Option (List ℕ × List ℕ)) → split_at_first 32 p.1 ≡ o
        → IfSome (entry_behind p.0 o) (IsLineOf line)
    second p whole None e = tt
    second p whole (Some q) e =
        both_of p q whole (split_is 32 p.1 q e) (number_within 1 most_octets q.0) (digest_of q.1) (within_is 1 most_octets q.0 (omega arith))
        (number-some 1 most_octets q.0) (digest_is q.1)

    first : (o : Option (List ℕ × List ℕ)) → split_at_first 32 line ≡ o → IfSome (entry_in o) (IsLineOf line)
    first None e = tt
    first (Some p) e = second p (split_is 32 line p e) (split_at_first 32 p.1) refl

name_of_file : (name : List ℕ) → is_file_name name ≡ true → is_name name ≡ true
name_of_file name is = (both (is_name name) (not (is_numbered name)) is).0

entry_back : (e : Entry) → IsEntry e → entry_of (entry_line e) ≡ Some e
entry_back e is =
    let small : e.len < 2 ^ 64 = omega (arith, is.most) in
    let name = name-word e.name (name_of_file e.name is.name) in
    ap entry_in (split-word e.name (decimal e.len ++ 32 ∷ encode_lower e.digest) name)
    ∙ ap (entry_behind e.name) (split-word (decimal e.len) (encode_lower e.digest) (decimal-word e.len small))
    ∙ ap (λ n. entry_with e.name n (digest_of (encode_lower e.digest))) (within-written 1 most_octets e.len is.some is.most (omega arith))
    ∙ ap (λ d. entry_with e.name (Some e.len) d) (digest_back e.digest is.digest is.octets)
    ∙ ap (λ b. cond b (Some e) None) is.name

inner_inside : (c : ℕ) → is_inner c ≡ true → is_inside c ≡ true
inner_inside c h = grind arith

word_no_feed : (w : List ℕ) → is_word w ≡ true → has_no_feed w ≡ true
word_no_feed w h = all_weaker is_inner is_inside inner_inside w h

-- a word, a space, and what has no line feed
spaced : (w rest : List ℕ) → is_word w ≡ true → has_no_feed rest ≡ true → has_no_feed (w ++ 32 ∷ rest) ≡ true
spaced w rest word none =
    list_all-append is_inside w (32 ∷ rest) ∙ and_true (has_no_feed w) (has_no_feed (32 ∷ rest)) (word_no_feed w word) none

pub line_no_feed : (e : Entry) → IsEntry e → has_no_feed (entry_line e) ≡ true
line_no_feed e is =
    let small : e.len < 2 ^ 64 = omega (arith, is.most) in
    spaced e.name (decimal e.len ++ 32 ∷ encode_lower e.digest) (name-word e.name (name_of_file e.name is.name))
    (spaced (decimal e.len) (encode_lower e.digest) (decimal-word e.len small) (word_no_feed (encode_lower e.digest) (hex-word e.digest is.octets)))

-- ---- fronts of manifests

-- an entry may stand behind these
record GoesOn (before : List Entry) (e : Entry) : Type 0 where
  few : length before < most_files
  after : name_before (last_name before) e.name ≡ true

goes_on_is : (before : List Entry) (e : Entry) → goes_on before e ≡ true → GoesOn before e
goes_on_is before e h =
    let b = both (nat_lt (length before) most_files) (name_before (last_name before) e.name) h in
    record { few = (let lt = b.0 in grind arith); after = b.1 }

goes_on_from : (before : List Entry) (e : Entry) → GoesOn before e → goes_on before e ≡ true
goes_on_from before e g =
    and_true (nat_lt (length before) most_files) (name_before (last_name before) e.name) (let lt = g.few in grind arith) g.after

last_more : (before : List Entry) (e : Entry) → last_name (before ++ e ∷ []) ≡ e.name
last_more before e = fold-append (λ name (x : Entry). x.name) [] before (e ∷ [])

rise_more : (last : List ℕ) (before : List Entry) (e : Entry) → RiseFrom last before
    → name_before (fold (λ name (x : Entry). x.name) last before) e.name ≡ true → RiseFrom last (before ++ e ∷ [])
rise_more last [] e h after = (after, tt)
rise_more last (x ∷ before) e h after = (h.0, rise_more x.name before e h.1 after)

all_more : (before : List Entry) (e : Entry) → AllByRecursion IsEntry before → IsEntry e → AllByRecursion IsEntry (before ++ e ∷ [])
all_more [] e h is = (is, tt)
all_more (x ∷ before) e h is = (h.0, all_more before e h.1 is)

front_more : (before : List Entry) (e : Entry) → IsFront before → IsEntry e → GoesOn before e → IsFront (before ++ e ∷ [])
front_more before e front is g = record {
  few = omega (arith, length-append before (e ∷ []), g.few);
  each = all_more before e front.each is;
  rise = rise_more [] before e front.rise g.after;
}

-- and the way back
rise_last : (last : List ℕ) (before : List Entry) (e : Entry) → RiseFrom last (before ++ e ∷ [])
    → name_before (fold (λ name (x : Entry). x.name) last before) e.name ≡ true
rise_last last [] e h = h.0
rise_last last (x ∷ before) e h = rise_last x.name before e h.1

all_last : (before : List Entry) (e : Entry) → AllByRecursion IsEntry (before ++ e ∷ []) → IsEntry e
all_last [] e h = h.0
all_last (x ∷ before) e h = all_last before e h.1

goes_on_in : (before : List Entry) (e : Entry) → IsFront (before ++ e ∷ []) → GoesOn before e
goes_on_in before e front = record {
  few = omega (arith, length-append before (e ∷ []), front.few);
  after = rise_last [] before e front.rise;
}

next_is : (before : List Entry) (line : List ℕ) (e : Entry) → next_entry before line ≡ Some e → IsLineOf line e × GoesOn before e
next_is before line e h = go (entry_of line) (entry_is line) h
  where
    same : (x : Entry) → Some x ≡ Some e → x ≡ e
    same x e = cc

    by : (x : Entry) → IsLineOf line x → (b : Bool) → goes_on before x ≡ b → cond b (Some x) None ≡ Some e → IsLineOf line e × GoesOn before e
    by x is true g h = let it = same x h in subst (λ (y : Entry). IsLineOf line y × GoesOn before y) it (is, goes_on_is before x g)
    by x is false g h = absurd (cc)

    go : (o : Option Entry) → IfSome o (IsLineOf line) → kept_if before o ≡ Some e → IsLineOf line e × GoesOn before e
    go None is h = absurd (cc)
    go (Some x) is h = by x is (goes_on before x) refl h

next_back : (before : List Entry) (e : Entry) → IsEntry e → GoesOn before e → next_entry before (entry_line e) ≡ Some e
next_back before e is g = ap (kept_if before) (entry_back e is) ∙ ap (λ b. cond b (Some e) None) (goes_on_from before e g)

-- ---- reading on

pub reads_more : (before : List Entry) (octets : List ℕ) (p : List ℕ × List ℕ) (e : Entry) → split_at_first 10 octets ≡ Some p → next_entry before p.0 ≡ Some e
    → read_behind before octets ≡ read_behind (before ++ e ∷ []) p.1
reads_more before octets p e split next =
    ap (λ (c : List (List ℕ) × List ℕ). read_on before c.0 c.1) (cut_some octets p split)
    ∙ ap (λ (o : Option Entry). elim o [ Some x ↦ read_on (before ++ x ∷ []) (cut p.1).0 (cut p.1).1 | None ↦ Err (length before + 1) ]) next

pub reads_none : (before : List Entry) (octets : List ℕ) (p : List ℕ × List ℕ) → split_at_first 10 octets ≡ Some p → next_entry before p.0 ≡ None
    → read_behind before octets ≡ Err (length before + 1)
reads_none before octets p split next =
    ap (λ (c : List (List ℕ) × List ℕ). read_on before c.0 c.1) (cut_some octets p split)
    ∙ ap (λ (o : Option Entry). elim o [ Some x ↦ read_on (before ++ x ∷ []) (cut p.1).0 (cut p.1).1 | None ↦ Err (length before + 1) ]) next

pub reads_end : (before : List Entry) (octets : List ℕ) → split_at_first 10 octets ≡ None
    → read_behind before octets ≡ read_end (is_end before octets) before
reads_end before octets split = ap (λ (c : List (List ℕ) × List ℕ). read_on before c.0 c.1) (cut_none octets split)

-- an entry that is next leaves room
pub next_few : (before : List Entry) (line : List ℕ) (e : Entry) → next_entry before line ≡ Some e → length before < most_files
next_few before line e next = (next_is before line e next).1.few

-- ---- reading back

back_from : (before entries : List Entry) → IsFront (before ++ entries) → 1 ≤ length (before ++ entries)
    → read_behind before (manifest_text entries) ≡ Ok (before ++ entries)
back_from before [] front some =
    ap (λ b. read_end b before) ended_so ∙ ap Ok (sym (append-nil before))
  where
    ended_so : is_end before [] ≡ true
    ended_so = let len : 1 ≤ length before = subst (λ (xs : List Entry). 1 ≤ length xs) (append-nil before) some in grind arith
back_from before (e ∷ entries) front some =
    let moved : before ++ e ∷ entries ≡ (before ++ e ∷ []) ++ entries = sym (append_assoc before (e ∷ []) entries) in
    let front' : IsFront ((before ++ e ∷ []) ++ entries) = subst IsFront moved front in
    let this : IsFront (before ++ e ∷ []) = front_of (before ++ e ∷ []) entries front' in
    let is : IsEntry e = all_last before e this.each in
    reads_more before (entry_line e ++ 10 ∷ manifest_text entries) (entry_line e, manifest_text entries) e
    (split_feed (entry_line e) (manifest_text entries) (line_no_feed e is)) (next_back before e is (goes_on_in before e this))
    ∙ back_from (before ++ e ∷ []) entries front' (subst (λ (xs : List Entry). 1 ≤ length xs) moved some)
    ∙ ap Ok (sym moved)
  where
    all_of : (xs ys : List Entry) → AllByRecursion IsEntry (xs ++ ys) → AllByRecursion IsEntry xs
    all_of [] ys h = tt
    all_of (x ∷ xs) ys h = (h.0, all_of xs ys h.1)

    rise_of : (last : List ℕ) (xs ys : List Entry) → RiseFrom last (xs ++ ys) → RiseFrom last xs
    rise_of last [] ys h = tt
    rise_of last (x ∷ xs) ys h = (h.0, rise_of x.name xs ys h.1)

    front_of : (xs ys : List Entry) → IsFront (xs ++ ys) → IsFront xs
    front_of xs ys front = record {
      few = omega (arith, length-append xs ys, front.few);
      each = all_of xs ys front.each;
      rise = rise_of [] xs ys front.rise;
    }

-- ---- what is read

text_more : (entries : List Entry) (e : Entry) (rest : List ℕ) → manifest_text (entries ++ e ∷ []) ++ rest ≡ manifest_text entries ++ (entry_line e ++ 10 ∷ rest)
text_more [] e rest = append_assoc (entry_line e) (10 ∷ []) rest
text_more (x ∷ entries) e rest =
    append_assoc (entry_line x) (10 ∷ manifest_text (entries ++ e ∷ [])) rest
    ∙ ap (λ xs. entry_line x ++ 10 ∷ xs) (text_more entries e rest)
    ∙ sym (append_assoc (entry_line x) (10 ∷ manifest_text entries) (entry_line e ++ 10 ∷ rest))

-- what a reading found, behind these: entries that end the octets, or the first line that is none
record Found (before : List Entry) (octets : List ℕ) (r : Result (List Entry) ℕ) : Type 0 where
  ok : (entries : List Entry) → r ≡ Ok entries → (1 ≤ length entries) × IsFront entries × (manifest_text before ++ octets ≡ manifest_text entries)
  err : (n : ℕ) → r ≡ Err n → IsFirstOther n (manifest_text before ++ octets)

clash : (o : Option (List ℕ × List ℕ)) (p : List ℕ × List ℕ) → o ≡ None → o ≡ Some p → ⊥
clash o p e f = cc

line_number : (r : Result (List Entry) ℕ) (a b : ℕ) → r ≡ Err a → r ≡ Err b → b ≡ a
line_number r a b e f = cc

read_entries : (r : Result (List Entry) ℕ) (a b : List Entry) → r ≡ Ok a → r ≡ Ok b → a ≡ b
read_entries r a b e f = cc

not_both : (r : Result (List Entry) ℕ) (a : List Entry) (n : ℕ) → r ≡ Ok a → r ≡ Err n → ⊥
not_both r a n e f = cc

nil_of : {X : Type 0} (xs : List X) → length xs ≡ 0 → xs ≡ []
nil_of [] e = refl
nil_of (x ∷ xs) e = absurd (omega (arith, e))

found_end : (before : List Entry) (rest : List ℕ) → IsFront before → has_no_feed rest ≡ true
    → Found before rest (read_end (is_end before rest) before)
found_end before rest front none = go (is_end before rest) refl
  where
    no_line : (e : Entry) (more : List ℕ) → rest ≡ entry_line e ++ 10 ∷ more → IsFront (before ++ e ∷ []) → ⊥
    no_line e more is front =
        clash (split_at_first 10 rest) (entry_line e, more) (split_no_feed rest none)
        (ap (split_at_first 10) is ∙ split_feed (entry_line e) more (line_no_feed e (all_last before e front.each)))

    go : (b : Bool) → is_end before rest ≡ b → Found before rest (read_end b before)
    go true e =
        let two = both (length rest == 0) (not (length before == 0)) e in
        let empty : length rest ≡ 0 = (let h = two.0 in grind arith) in
        let some : 1 ≤ length before = (let h = two.1 in grind arith) in
        record {
          ok = λ entries is.
              subst (λ (xs : List Entry). (1 ≤ length xs) × IsFront xs × (manifest_text before ++ rest ≡ manifest_text xs)) (read_entries (Ok before) before entries refl is)
              (some, front, ap (λ xs. manifest_text before ++ xs) (nil_of rest empty) ∙ append-nil (manifest_text before));
          err = λ n is. absurd (not_both (Ok before) before n refl is);
        }
    go false e = record {
      ok = λ entries is. absurd (not_both (Err (length before + 1)) entries (length before + 1) is refl);
      err = λ n is. record {
        entries = before;
        rest = rest;
        text = refl;
        number = line_number (Err (length before + 1)) (length before + 1) n refl is;
        front = front;
        left = λ empty. nil_of before (zero_of (ap (λ (xs : List ℕ). length xs) empty));
        none = no_line;
      };
    }
      where
        zero_of : length rest ≡ 0 → length before ≡ 0
        zero_of empty = grind (arith, e, empty)

found_from : (before : List Entry) (lines : List (List ℕ)) (rest : List ℕ) → IsFront before → HaveNoFeed lines rest
    → Found before (ended lines ++ rest) (read_on before lines rest)
found_from before [] rest front h = found_end before rest front h.left
found_from before (line ∷ lines) rest front h =
    go (next_entry before line) refl (λ e front'. found_from (before ++ e ∷ []) lines rest front' (record { each = h.each.1; left = h.left }))
  where
    behind : List ℕ
    behind = ended lines ++ rest

    whole : ended (line ∷ lines) ++ rest ≡ line ++ 10 ∷ behind
    whole = append_assoc line (10 ∷ ended lines) rest

    go : (o : Option Entry) → next_entry before line ≡ o
        → ((e : Entry) → IsFront (before ++ e ∷ []) → Found (before ++ e ∷ []) behind (read_on (before ++ e ∷ []) lines rest))
        → Found before (ended (line ∷ lines) ++ rest) (elim o [ Some e ↦ read_on (before ++ e ∷ []) lines rest | None ↦ Err (length before + 1) ])
    go (Some e) next goes =
        let is = next_is before line e next in
        let more = goes e (front_more before e front is.0.entry is.1) in
        let same : manifest_text before ++ (ended (line ∷ lines) ++ rest) ≡ manifest_text (before ++ e ∷ []) ++ behind =
        ap (λ xs. manifest_text before ++ xs) (whole ∙ ap (λ xs. xs ++ 10 ∷ behind) is.0.is) ∙ sym (text_more before e behind) in
        record {
          ok = λ entries r. let x = more.ok entries r in (x.0, x.1, same ∙ x.2);
          err = λ n r. subst (IsFirstOther n) (sym same) (more.err n r);
        }
    go None next goes = record {
      ok = λ entries r. absurd (not_both (Err (length before + 1)) entries (length before + 1) r refl);
      err = λ n r. record {
        entries = before;
        rest = ended (line ∷ lines) ++ rest;
        text = refl;
        number = line_number (Err (length before + 1)) (length before + 1) n refl r;
        front = front;
        left = λ empty. absurd (full line (ended lines) rest empty);
        none = λ e more is front'. other e more is front';
      };
    }
      where
        full : (xs ys zs : List ℕ) → (xs ++ 10 ∷ ys) ++ zs ≡ [] → ⊥
        full [] ys zs e = cc
        full (x ∷ xs) ys zs e = cc

        some_line : (o : Option (List ℕ × List ℕ)) (p q : List ℕ × List ℕ) → o ≡ Some p → o ≡ Some q → p ≡ q
        some_line o p q e f = cc

        none_some : (o : Option Entry) (e : Entry) → o ≡ None → o ≡ Some e → ⊥
        none_some o e f g = cc

        other : (e : Entry) (more : List ℕ) → ended (line ∷ lines) ++ rest ≡ entry_line e ++ 10 ∷ more → IsFront (before ++ e ∷ []) → ⊥
        other e more is front' =
            let entry = all_last before e front'.each in
            let line_is : line ≡ entry_line e =
            ap (λ (p : List ℕ × List ℕ). p.0)
            (some_line (split_at_first 10 (line ++ 10 ∷ behind)) (line, behind) (entry_line e, more) (split_feed line behind h.each.0)
            (ap (split_at_first 10) (sym whole ∙ is) ∙ split_feed (entry_line e) more (line_no_feed e entry))) in
            none_some (next_entry before line) e next (ap (next_entry before) line_is ∙ next_back before e entry (goes_on_in before e front'))

nothing : IsFront []
nothing = record { few = omega arith; each = tt; rise = tt }

found : (octets : List ℕ) → Found [] octets (manifest_of octets)
found octets =
    subst (λ xs. Found [] xs (manifest_of octets)) (sym (cut_whole octets)) (found_from [] (cut octets).0 (cut octets).1 nothing (cut_no_feed octets))

pub manifest_laws : ManifestLaws
manifest_laws = record {
  back = λ entries is. back_from [] entries is.front is.some;
  spelt = λ octets entries r. let x = (found octets).ok entries r in record { is = record { some = x.0; front = x.1 }; text = x.2 };
  first = λ octets n r. (found octets).err n r;
}
