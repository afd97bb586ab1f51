-- Header extensions as pieces.
use Rattle.std.proofs.Common.{◌≡◌, ℕ, zero, suc, ◌+◌, ◌-◌, ◌*◌, ◌/◌, ◌%◌, ◌<◌, ◌≤◌, cond, ltb, eqb, Bool, true, false, List, [], ◌∷◌, ◌++◌, length, get_or, take, drop, Result, Ok, Err, refl, sym, ap, ◌∙◌, arith, inl, inr, lt-ltb, ne_eqb, length-append}
use Rattle.std.specs.List.{flat_map, AllByRecursion}
use Rattle.std.proofs.lemmas.Bool.{cases_lt, ltb-false, le-ltb}
use Rattle.std.proofs.lemmas.List.{take_at, drop-take, length-take}
use Rattle.norm_ext.specs.Extensions.{Extension, extension_octets, extension_length, first_extension, extension_checked, extensions_of, extensions_checked, IsExtension, IsChecked, most_words, extension_of, content_at}
use Rattle.norm_ext.specs.declared.refusal.ExtFault.TheVariants.{ZeroLength, Overrun}
use Rattle.norm_ext.specs.Pieces.{checked_behind}
use Rattle.norm_base.specs.Octets.{AreOctets}
use Rattle.norm_ext.proofs.PieceLemmas.{IsKind, unroll, ok_first, ok_rest, unroll_checked, first_checked, ok_anywhere, together}

-- a test that refuses nothing
passes : {A : Type 0} (b : Bool) (x : A) (r : Result (Unit {0}) A) → cond b (Err x) r ≡ Ok tt → (b ≡ false) × (r ≡ Ok tt)
passes true x r e = absurd cc
passes false x r e = (refl, e)

pub record Passes (xs : List ℕ) : Type 0 where
  pub four : 4 ≤ length xs
  pub some : 0 < extension_length xs
  pub within : extension_length xs ≤ length xs

positive : (n : ℕ) → eqb n 0 ≡ false → 0 < n
positive zero e = absurd cc
positive (suc n) e = omega arith

pub passed : (at : ℕ) (xs : List ℕ) → extension_checked at xs ≡ Ok tt → Passes xs
passed at xs e =
    let a = passes (ltb (length xs) 4) (Overrun at) _ e in
    let b = passes (eqb (extension_length xs) 0) (ZeroLength at) _ a.1 in
    let c = passes (ltb (length xs) (extension_length xs)) (Overrun at) _ b.1 in
    record { four = ltb-false _ _ a.0; some = positive (extension_length xs) b.0; within = ltb-false _ _ c.0 }

eqb_positive : (n : ℕ) → 0 < n → eqb n 0 ≡ false
eqb_positive n h = ne_eqb n 0 (λ e. absurd (omega arith))

pub passes_so : (at : ℕ) (xs : List ℕ) → Passes xs → extension_checked at xs ≡ Ok tt
passes_so at xs p =
    rw (le-ltb (length xs) 4 p.four, eqb_positive (extension_length xs) p.some, le-ltb (length xs) (extension_length xs) p.within) refl

take_one : (n a : ℕ) (rest : List ℕ) → 1 ≤ n → take n (a ∷ rest) ≡ a ∷ take (n - 1) rest
take_one zero a rest h = absurd (omega arith)
take_one (suc n) a rest h = let e : suc n - 1 ≡ n = omega arith in rw e refl

take_two : (n a b : ℕ) (rest : List ℕ) → 2 ≤ n → take n (a ∷ b ∷ rest) ≡ a ∷ b ∷ take (n - 2) rest
take_two n a b rest h =
    let e : n - 1 - 1 ≡ n - 2 = omega arith in
    take_one n a (b ∷ rest) (omega arith) ∙ ap (λ (t : List ℕ). a ∷ t) (take_one (n - 1) b rest (omega arith) ∙ rw e refl)

-- an extension at the front that says its length, and one that does not
length_long : (kind words : ℕ) (rest : List ℕ) → kind < 128 → extension_length (kind ∷ words ∷ rest) ≡ 4 * words
length_long kind words rest low = rw (lt-ltb kind 128 low) refl

length_short : (kind : ℕ) (rest : List ℕ) → 128 ≤ kind → extension_length (kind ∷ rest) ≡ 4
length_short kind rest high = rw (le-ltb kind 128 high) refl

first_long : (kind words : ℕ) (rest : List ℕ) → kind < 128 → first_extension (kind ∷ words ∷ rest) ≡ record { kind = kind; content = take (4 * words - 2) rest }
first_long kind words rest low = rw (lt-ltb kind 128 low) refl

first_short : (kind : ℕ) (rest : List ℕ) → 128 ≤ kind → first_extension (kind ∷ rest) ≡ record { kind = kind; content = take 3 rest }
first_short kind rest high = rw (le-ltb kind 128 high) refl

octets_long : (kind : ℕ) (content : List ℕ) → kind < 128 → extension_octets (record { kind = kind; content = content }) ≡ kind ∷ ((2 + length content) / 4) ∷ content
octets_long kind content low = rw (lt-ltb kind 128 low) refl

octets_short : (kind : ℕ) (content : List ℕ) → 128 ≤ kind → extension_octets (record { kind = kind; content = content }) ≡ kind ∷ content
octets_short kind content high = rw (le-ltb kind 128 high) refl

most_long : (kind : ℕ) → kind < 128 → most_words kind ≡ 255
most_long kind low = rw (lt-ltb kind 128 low) refl

most_short : (kind : ℕ) → 128 ≤ kind → most_words kind ≡ 1
most_short kind high = rw (le-ltb kind 128 high) refl

-- the octets of the extension at the front, by its type
spelled_long : (kind words : ℕ) (rest : List ℕ) → kind < 128 → 0 < 4 * words → 4 * words ≤ length (kind ∷ words ∷ rest)
    → extension_octets (first_extension (kind ∷ words ∷ rest)) ≡ take (4 * words) (kind ∷ words ∷ rest)
spelled_long kind words rest low some within =
    let content : List ℕ = take (4 * words - 2) rest in
    let size : (2 + length content) / 4 ≡ words = omega (arith, length-take (4 * words - 2) rest) in
    ap extension_octets (first_long kind words rest low) ∙ octets_long kind content low
    ∙ ap (λ (n : ℕ). kind ∷ n ∷ content) size ∙ sym (take_two (4 * words) kind words rest (omega arith))

spelled_short : (kind : ℕ) (rest : List ℕ) → 128 ≤ kind → extension_octets (first_extension (kind ∷ rest)) ≡ take 4 (kind ∷ rest)
spelled_short kind rest high = ap extension_octets (first_short kind rest high) ∙ octets_short kind (take 3 rest) high

first_spelled : (at : ℕ) (xs : List ℕ) → Passes xs → extension_octets (first_extension xs) ≡ take (extension_length xs) xs
first_spelled at [] p = absurd (omega (arith, p.four))
first_spelled at (kind ∷ []) p = absurd (omega (arith, p.four))
first_spelled at (kind ∷ words ∷ rest) p =
    elim (cases_lt kind 128) [
      | inl low ↦
          let e = length_long kind words rest low in
          let some : 0 < 4 * words = omega (arith, p.some, e) in
          let within : 4 * words ≤ length (kind ∷ words ∷ rest) = omega (arith, p.within, e) in
          spelled_long kind words rest low some within ∙ ap (λ (n : ℕ). take n (kind ∷ words ∷ rest)) (sym e)
      | inr high ↦ spelled_short kind (words ∷ rest) high ∙ ap (λ (n : ℕ). take n (kind ∷ words ∷ rest)) (sym (length_short kind (words ∷ rest) high))
    ]

first_fits : (at : ℕ) (xs : List ℕ) → AreOctets xs → Passes xs → IsExtension (first_extension xs)
first_fits at [] fits p = absurd (omega (arith, p.four))
first_fits at (kind ∷ []) fits p = absurd (omega (arith, p.four))
first_fits at (kind ∷ words ∷ rest) fits p =
    let spelled = first_spelled at (kind ∷ words ∷ rest) p in
    elim (cases_lt kind 128) [
      | inl low ↦
          let e = length_long kind words rest low in
          let most = most_long kind low in
          record {
            kind = fits 0;
            words = words;
            whole = ap length spelled ∙ omega (arith, p.within, e, length-take (extension_length (kind ∷ words ∷ rest)) (kind ∷ words ∷ rest));
            most = rw most (omega (arith, fits 1));
          }
      | inr high ↦
          let e = length_short kind (words ∷ rest) high in
          let most = most_short kind high in
          record {
            kind = fits 0;
            words = 1;
            whole = ap length spelled ∙ omega (arith, p.within, e, length-take (extension_length (kind ∷ words ∷ rest)) (kind ∷ words ∷ rest));
            most = rw most (omega arith);
          }
    ]

-- ---- an extension that is spelled is there again

pub record Again (x : Extension) (rest : List ℕ) : Type 0 where
  pub len : extension_length (extension_octets x ++ rest) ≡ length (extension_octets x)
  pub first : first_extension (extension_octets x ++ rest) ≡ x
  pub some : 4 ≤ length (extension_octets x)

again_long : (x : Extension) (rest : List ℕ) → IsExtension x → x.kind < 128 → Again x rest
again_long x rest is low =
    let o = octets_long x.kind x.content low in
    let whole : 2 + length x.content ≡ 4 * is.words = omega (arith, is.whole, ap length o) in
    let size : 4 * ((2 + length x.content) / 4) ≡ 2 + length x.content = omega arith in
    let size_less : 4 * ((2 + length x.content) / 4) - 2 ≡ length x.content = omega arith in
    let l = length_long x.kind ((2 + length x.content) / 4) (x.content ++ rest) low in
    let f = first_long x.kind ((2 + length x.content) / 4) (x.content ++ rest) low in
    record {
      len = ap (λ (t : List ℕ). extension_length (t ++ rest)) o ∙ l ∙ size ∙ omega (arith, ap length o);
      first = ap (λ (t : List ℕ). first_extension (t ++ rest)) o ∙ f ∙ rw (size_less, take_at x.content rest (length x.content) refl) refl;
      some = omega (arith, ap length o);
    }

again_short : (x : Extension) (rest : List ℕ) → IsExtension x → 128 ≤ x.kind → Again x rest
again_short x rest is high =
    let o = octets_short x.kind x.content high in
    let most = most_short x.kind high in
    let three : length x.content ≡ 3 = omega (arith, is.whole, ap length o, is.most, most) in
    let l = length_short x.kind (x.content ++ rest) high in
    let f = first_short x.kind (x.content ++ rest) high in
    record {
      len = ap (λ (t : List ℕ). extension_length (t ++ rest)) o ∙ l ∙ omega (arith, ap length o);
      first = ap (λ (t : List ℕ). first_extension (t ++ rest)) o ∙ f ∙ rw (take_at x.content rest 3 three) refl;
      some = omega (arith, ap length o);
    }

again : (x : Extension) (rest : List ℕ) → IsExtension x → Again x rest
again x rest is = elim (cases_lt x.kind 128) [ inl low ↦ again_long x rest is low | inr high ↦ again_short x rest is high ]

again_passes : (x : Extension) (rest : List ℕ) → IsExtension x → Passes (extension_octets x ++ rest)
again_passes x rest is =
    let a = again x rest is in
    record {
      four = omega (arith, a.some, length-append (extension_octets x) rest);
      some = omega (arith, a.len, a.some);
      within = omega (arith, a.len, length-append (extension_octets x) rest);
    }

pub extension_kind : IsKind extension_octets IsExtension first_extension extension_length extension_checked
extension_kind = record {
  some = λ at xs e. (passed at xs e).some;
  within = λ at xs e. (passed at xs e).within;
  anywhere = λ at other xs e. passes_so other xs (passed at xs e);
  spelled = λ at xs fits e. first_spelled at xs (passed at xs e);
  fits = λ at xs fits e. first_fits at xs fits (passed at xs e);
  again_some = λ x is. omega (arith, (again x [] is).some);
  again_len = λ x rest is. (again x rest is).len;
  again_first = λ x rest is. (again x rest is).first;
  again_checked = λ x rest at is. passes_so at (extension_octets x ++ rest) (again_passes x rest is);
}

-- ---- what the walk over a list uses

pub record Unrolled (xs : List ℕ) : Type 0 where
  pub long : Passes xs
  pub parts : extensions_of xs ≡ first_extension xs ∷ extensions_of (drop (extension_length xs) xs)
  pub rest : IsChecked (drop (extension_length xs) xs)

pub unrolled : (xs : List ℕ) → 0 < length xs → IsChecked xs → Unrolled xs
unrolled xs some is =
    let here = ok_first extension_checked extension_length 0 xs some is.checked in
    let p = passed 0 xs here in
    record {
      long = p;
      parts = unroll first_extension extension_length xs some p.some;
      rest = record { checked = ok_rest extension_length extension_checked extension_kind 0 0 xs some is.checked };
    }

-- ---- what the check of a list keeps

-- what is found from here on is what is found in the whole
pub checks_on : (from : ℕ) (words rest : List ℕ) (at : ℕ) → 0 < length rest → extension_checked at rest ≡ Ok tt
    → checked_behind extension_checked extension_length at 0 rest ≡ extensions_checked from words
    → checked_behind extension_checked extension_length (at + extension_length rest) 0 (drop (extension_length rest) rest) ≡ extensions_checked from words
checks_on from words rest at some ok so_far =
    let p = passed at rest ok in
    sym (first_checked (extension_checked at rest) (checked_behind extension_checked extension_length (at + extension_length rest) 0 (drop (extension_length rest) rest)) ok)
    ∙ sym (unroll_checked extension_checked extension_length at rest some p.some p.within) ∙ so_far

content_small : (kind : ℕ) → content_at kind ≤ 2
content_small kind =
    elim (cases_lt kind 128) [ inl low ↦ rw (lt-ltb kind 128 low) (omega arith) | inr high ↦ rw (le-ltb kind 128 high) (omega arith) ]

long_enough : (xs : List ℕ) → Passes xs → 2 ≤ extension_length xs
long_enough [] p = absurd (omega (arith, p.four))
long_enough (kind ∷ []) p = absurd (omega (arith, p.four))
long_enough (kind ∷ words ∷ rest) p =
    elim (cases_lt kind 128) [
      | inl low ↦ omega (arith, length_long kind words rest low, p.some)
      | inr high ↦ omega (arith, length_short kind (words ∷ rest) high)
    ]

-- the first extension of a list, cut out
pub cut_parts : (words : List ℕ) → 0 < length words → IsChecked words
    → (extensions_of words ≡ extension_of (get_or words 0 0) (drop (content_at (get_or words 0 0)) (take (extension_length words) words)) ∷ extensions_of (drop (extension_length words) words))
    × IsChecked (drop (extension_length words) words)
cut_parts words some is =
    let u = unrolled words some is in
    let at : ℕ = content_at (get_or words 0 0) in
    let len : ℕ = extension_length words in
    let e : at + (len - at) ≡ len = omega (arith, content_small (get_or words 0 0), long_enough words u.long) in
    let cut : drop at (take len words) ≡ take (len - at) (drop at words) = ap (λ (n : ℕ). drop at (take n words)) (sym e) ∙ drop-take at (len - at) words in (
      u.parts ∙ ap (λ (t : List ℕ). extension_of (get_or words 0 0) t ∷ extensions_of (drop len words)) (sym cut),
      u.rest,
    )

-- extensions are whole words
pub extension_size : (list : List Extension) → AllByRecursion IsExtension list → length (flat_map extension_octets list) % 4 ≡ 0
extension_size [] all = refl
extension_size (x ∷ list) all =
    let rest = extension_size list all.1 in
    omega (arith, rest, all.0.whole, length-append (extension_octets x) (flat_map extension_octets list))

-- the extensions of a list put together again are the list
pub exts_together : (exts : List ℕ) → AreOctets exts → IsChecked exts → flat_map extension_octets (extensions_of exts) ≡ exts
exts_together exts fits is = together extension_octets first_extension extension_length extension_checked extension_kind 0 0 exts fits (omega arith) is.checked

-- a list that is walked to its end and refused nowhere is whole
pub list_ends : (from at : ℕ) (list rest : List ℕ) → length rest ≡ 0 → checked_behind extension_checked extension_length at 0 rest ≡ extensions_checked from list
    → IsChecked list
list_ends from at list [] none so_far =
    record { checked = ok_anywhere extension_length extension_checked extension_kind from 0 0 list (sym so_far) }
list_ends from at list (x ∷ rest) none so_far = absurd (omega arith)
