use Rattle.std.proofs.Common.{◌≡◌, ◌≢◌, ◌∙◌, sym, ap, ℕ, suc, ◌<◌, ◌≤◌, List, [], ◌∷◌, ◌++◌, length, set, get_or, true, false, Some, refl, cond, arith, nat_eq}
use Rattle.std.specs.Prelude.{String, Vec, string_bytes}
use Rattle.std.specs.Cmp.Lexicographic.{pointwise, same_text}
use Rattle.std.proofs.lemmas.Cmp.{nat_list_eq_equiv}
use Rattle.std.specs.declared.alloc.Global.{Global}
use Rattle.norm_base.specs.Contents.{content_of}
use Rattle.norm_memory.specs.Filing.{put_in, place_of, named}

-- the name's content is what was put
pub content_of-put_in : (files : List (List ℕ × List ℕ)) (name octets : List ℕ) → content_of (put_in files name octets) name ≡ Some octets
content_of-put_in [] name octets = rw (nat_list_eq_equiv.refl name) refl
content_of-put_in (file ∷ files) name octets =
    elim (pointwise nat_eq file.0 name) as (λ b. pointwise nat_eq file.0 name ≡ b → content_of (put_in (file ∷ files) name octets) name ≡ Some octets) [
      | true ↦ λ e. rw e (rw e refl)
      | false ↦ λ e. rw e (rw e (content_of-put_in files name octets))
    ] refl

names_differ : (a b : List ℕ) → a ≢ b → pointwise nat_eq a b ≡ false
names_differ a b ne = elim (pointwise nat_eq a b) as (λ x. x ≡ pointwise nat_eq a b → x ≡ false) [
  | true ↦ λ e. absurd (ne (same_text a b e))
  | false ↦ λ e. refl
] refl

-- other names keep their contents
pub content_of-put_in_other : (files : List (List ℕ × List ℕ)) (name octets other : List ℕ) → other ≢ name
    → content_of (put_in files name octets) other ≡ content_of files other
content_of-put_in_other [] name octets other ne = rw (names_differ name other (λ e. ne (sym e))) refl
content_of-put_in_other (file ∷ files) name octets other ne =
    elim (pointwise nat_eq file.0 name) as (λ b. b ≡ pointwise nat_eq file.0 name → content_of (put_in (file ∷ files) name octets) other ≡ content_of (file ∷ files) other) [
      | true ↦ λ e. rw (sym e) (rw (names_differ file.0 other (λ same. ne (sym same ∙ same_text file.0 name e))) refl)
      | false ↦ λ e. rw (sym e) (ap (cond (pointwise nat_eq file.0 other) (Some file.1)) (content_of-put_in_other files name octets other ne))
    ] refl

-- octets that replace those in the name's place
pub named-set : (files : List (String Global × Vec ℕ Global)) (name octets : List ℕ) (o : String Global × Vec ℕ Global) (v : Vec ℕ Global)
    → place_of (named files) name < length files → o ≡ get_or files (place_of (named files) name) o → v.items ≡ octets
    → named (set files (place_of (named files) name) (o.0, v)) ≡ put_in (named files) name octets
named-set [] name octets o v inside is same = absurd (omega arith)
named-set (file ∷ files) name octets o v inside is same =
    elim (pointwise nat_eq (string_bytes file.0) name) as (λ b. pointwise nat_eq (string_bytes file.0) name ≡ b
    → named (set (file ∷ files) (place_of (named (file ∷ files)) name) (o.0, v)) ≡ put_in (named (file ∷ files)) name octets) [
      | true ↦ λ e.
          let here : o ≡ file = rw e at is in
          rw e (rw same (ap (λ (x : String Global × Vec ℕ Global). (string_bytes x.0, octets) ∷ named files) here))
      | false ↦ λ e.
          let within : suc (place_of (named files) name) < suc (length files) = rw e at inside in
          let there : o ≡ get_or files (place_of (named files) name) o = rw e at is in
          rw e (ap (λ rest. (string_bytes file.0, file.1.items) ∷ rest) (named-set files name octets o v (omega arith) there same))
    ] refl

-- octets that come last, since no file has the name
pub named-append : (files : List (String Global × Vec ℕ Global)) (name octets : List ℕ) (n : String Global) (v : Vec ℕ Global)
    → length files ≤ place_of (named files) name → string_bytes n ≡ name → v.items ≡ octets
    → named (files ++ (n, v) ∷ []) ≡ put_in (named files) name octets
named-append [] name octets n v past is same = rw (is, same) refl
named-append (file ∷ files) name octets n v past is same =
    elim (pointwise nat_eq (string_bytes file.0) name) as (λ b. pointwise nat_eq (string_bytes file.0) name ≡ b
    → named (file ∷ (files ++ (n, v) ∷ [])) ≡ put_in (named (file ∷ files)) name octets) [
      | true ↦ λ e. let none : suc (length files) ≤ 0 = rw e at past in absurd (omega arith)
      | false ↦ λ e.
          let further : suc (length files) ≤ suc (place_of (named files) name) = rw e at past in
          rw e (ap (λ rest. (string_bytes file.0, file.1.items) ∷ rest) (named-append files name octets n v (omega arith) is same))
    ] refl

-- the same, at a place that was found
pub named-set_at : (files : List (String Global × Vec ℕ Global)) (name octets : List ℕ) (o : String Global × Vec ℕ Global) (v : Vec ℕ Global) (place : ℕ)
    → place ≡ place_of (named files) name → place < length files → o ≡ get_or files place o → v.items ≡ octets
    → named (set files place (o.0, v)) ≡ put_in (named files) name octets
named-set_at files name octets o v place found inside is same =
    let within : place_of (named files) name < length files = rw found at inside in
    let there : o ≡ get_or files (place_of (named files) name) o = rw found at is in
    rw found (named-set files name octets o v within there same)

pub named-append_at : (files : List (String Global × Vec ℕ Global)) (name octets : List ℕ) (n : String Global) (v : Vec ℕ Global) (place : ℕ)
    → place ≡ place_of (named files) name → length files ≤ place → string_bytes n ≡ name → v.items ≡ octets
    → named (files ++ (n, v) ∷ []) ≡ put_in (named files) name octets
named-append_at files name octets n v place found past is same =
    let further : length files ≤ place_of (named files) name = rw found at past in
    named-append files name octets n v further is same
