-- What a name has after files were put one after the other, and which names copies have.
use Rattle.std.proofs.Common.{◌≡◌, ◌∙◌, ℕ, ◌<◌, ◌⊎◌, inl, inr, List, [], ◌∷◌, ◌++◌, Bool, true, false, cond, Option, Some, refl, sym, ap, subst}
use Rattle.std.specs.Prelude.{◌&&◌, ◌^◌, None, decimal, nat_eq}
use Rattle.std.specs.Cmp.Lexicographic.{pointwise, same_text}
use Rattle.std.specs.List.{AllByRecursion, list_all}
use Rattle.std.proofs.lemmas.Cmp.{nat_list_eq_equiv}
use Rattle.norm_base.specs.Contents.{content_of}
use Rattle.norm_journal.specs.Jobs.{Told}
use Rattle.norm_script.specs.Words.{is_digit}
use Rattle.norm_script.proofs.WordLemmas.{digits-written}
use Rattle.norm_folder.specs.Copies.{ArePut, IsPut, copy_name}

abbrev pub File : Type 0
File = List ℕ × List ℕ

pub clash : false ≡ true → ⊥
clash e = cc

pub is_same : (a b : List ℕ) → a ≡ b → pointwise nat_eq a b ≡ true
is_same a b same = subst (λ x. pointwise nat_eq a x ≡ true) same (nat_list_eq_equiv.refl a)

differs : (a b : List ℕ) → (a ≡ b → ⊥) → pointwise nat_eq a b ≡ false
differs a b apart = go (pointwise nat_eq a b) refl
  where
    go : (r : Bool) → r ≡ pointwise nat_eq a b → r ≡ false
    go true e = absurd (apart (same_text a b e))
    go false e = refl

-- ---- the last file of a name

-- what a name has after these files were put, if it had this before
abbrev pub has_then : List File → Option (List ℕ) → List ℕ → Option (List ℕ)
has_then [] had name = had
has_then (file ∷ files) had name = has_then files (cond (pointwise nat_eq file.0 name) (Some file.1) had) name

one_then : (file : File) (a b : List File) → IsPut file (Some a) (Some b) → (name : List ℕ)
    → content_of b name ≡ cond (pointwise nat_eq file.0 name) (Some file.1) (content_of a name)
one_then file a b one name = go (pointwise nat_eq file.0 name) refl
  where
    by : Bool → Option (List ℕ)
    by r = cond r (Some file.1) (content_of a name)

    go : (r : Bool) → r ≡ pointwise nat_eq file.0 name → content_of b name ≡ by (pointwise nat_eq file.0 name)
    go true e = ap (λ n. content_of b n) (sym (same_text file.0 name e)) ∙ one.content ∙ ap by e
    go false e = one.others name (λ same. clash (e ∙ is_same file.0 name (sym same))) ∙ ap by e

-- the files tell what they hold then
pub record ThenHas (files : List File) (a : List File) (after : Told) : Type 0 where
  pub b : List File
  pub is : after ≡ Some b
  pub each : (name : List ℕ) → content_of b name ≡ has_then files (content_of a name) name

pub puts_then : (files : List File) (a : List File) (after : Told) → ArePut files (Some a) after → ThenHas files a after
puts_then [] a after put = record { b = a; is = put; each = λ name. refl }
puts_then (file ∷ files) a after put = go put.0 put.1 put.2 (λ m rest. puts_then files m after rest)
  where
    go : (between : Told) → IsPut file (Some a) between → ArePut files between after
        → ((m : List File) → ArePut files (Some m) after → ThenHas files m after) → ThenHas (file ∷ files) a after
    go None one rest on = absurd one.others
    go (Some m) one rest on =
        let more = on m rest in
        record {
          b = more.b;
          is = more.is;
          each = λ name. more.each name ∙ ap (λ (had : Option (List ℕ)). has_then files had name) (one_then file a m one name);
        }

-- no file of this name was put
pub then_kept : (files : List File) (had : Option (List ℕ)) (name : List ℕ) → AllByRecursion (λ (f : File). f.0 ≡ name → ⊥) files → has_then files had name ≡ had
then_kept [] had name none = refl
then_kept (file ∷ files) had name none =
    ap (λ (r : Bool). has_then files (cond r (Some file.1) had) name) (differs file.0 name none.0) ∙ then_kept files had name none.1

-- one of these files has the name
abbrev pub HasName : List ℕ → List File → Type 0
HasName name [] = ⊥
HasName name (file ∷ files) = (file.0 ≡ name) ⊎ HasName name files

pub has_front : (name : List ℕ) (xs ys : List File) → HasName name xs → HasName name (xs ++ ys)
has_front name [] ys h = absurd h
has_front name (x ∷ xs) ys (inl is) = inl is
has_front name (x ∷ xs) ys (inr h) = inr (has_front name xs ys h)

pub has_behind : (name : List ℕ) (xs ys : List File) → HasName name ys → HasName name (xs ++ ys)
has_behind name [] ys h = h
has_behind name (x ∷ xs) ys h = inr (has_behind name xs ys h)

-- files of this name were put, each with the same octets
pub then_is : (files : List File) (had want : Option (List ℕ)) (name : List ℕ) → AllByRecursion (λ (f : File). f.0 ≡ name → Some f.1 ≡ want) files
    → (had ≡ want) ⊎ HasName name files → has_then files had name ≡ want
then_is [] had want name each (inl is) = is
then_is [] had want name each (inr none) = absurd none
then_is (file ∷ files) had want name each has = then_is files (by (pointwise nat_eq file.0 name)) want name each.1 (go (pointwise nat_eq file.0 name) refl has)
  where
    by : Bool → Option (List ℕ)
    by r = cond r (Some file.1) had

    go : (r : Bool) → r ≡ pointwise nat_eq file.0 name → (had ≡ want) ⊎ HasName name (file ∷ files) → (by (pointwise nat_eq file.0 name) ≡ want) ⊎ HasName name files
    go true e h = inl (sym (ap by e) ∙ each.0 (same_text file.0 name e))
    go false e (inl is) = inl (sym (ap by e) ∙ is)
    go false e (inr (inl same)) = absurd (clash (e ∙ is_same file.0 name same))
    go false e (inr (inr h)) = inr h

-- ---- the names of copies

halves : (a b : Bool) → (a && b) ≡ true → (a ≡ true) × (b ≡ true)
halves true b h = (refl, h)
halves false b h = absurd (clash h)

heads : (x y : ℕ) (xs ys : List ℕ) → (x ∷ xs) ≡ y ∷ ys → x ≡ y
heads x y xs ys e = cc

tails : (x y : ℕ) (xs ys : List ℕ) → (x ∷ xs) ≡ y ∷ ys → xs ≡ ys
tails x y xs ys e = cc

no_dash : (c : ℕ) → c ≡ 45 → is_digit c ≡ true → ⊥
no_dash c is digit = clash (subst (λ x. is_digit x ≡ true) is digit)

-- digits end at a `-`
behind_digits : (a b x y : List ℕ) → list_all is_digit a ≡ true → list_all is_digit b ≡ true → a ++ 45 ∷ x ≡ b ++ 45 ∷ y → x ≡ y
behind_digits [] [] x y own its e = tails 45 45 x y e
behind_digits [] (d ∷ b) x y own its e = absurd (no_dash d (sym (heads 45 d x (b ++ 45 ∷ y) e)) (halves (is_digit d) (list_all is_digit b) its).0)
behind_digits (c ∷ a) [] x y own its e = absurd (no_dash c (heads c 45 (a ++ 45 ∷ x) y e) (halves (is_digit c) (list_all is_digit a) own).0)
behind_digits (c ∷ a) (d ∷ b) x y own its e =
    behind_digits a b x y (halves (is_digit c) (list_all is_digit a) own).1 (halves (is_digit d) (list_all is_digit b) its).1
    (tails c d (a ++ 45 ∷ x) (b ++ 45 ∷ y) e)

-- a copy's name says of which file it is
pub same_file : (node other : ℕ) (name its : List ℕ) → node < 2 ^ 64 → other < 2 ^ 64 → copy_name node name ≡ copy_name other its → name ≡ its
unfolding copy_name
same_file node other name its small fits e =
    behind_digits (decimal node) (decimal other) name its (digits-written node small) (digits-written other fits)
    (tails 110 110 (decimal node ++ 45 ∷ name) (decimal other ++ 45 ∷ its) e)
