-- Octets cut at their line feeds.
use Rattle.std.proofs.Common.{◌≡◌, ◌∙◌, ℕ, List, [], ◌∷◌, ◌++◌, Bool, true, false, None, Some, refl, ap, nat_eq}
use Rattle.std.specs.Prelude.{◌==◌, not}
use Rattle.std.specs.List.{list_all, AllByRecursion}
use Rattle.std.proofs.lemmas.Bool.Decides.{Decides-eqb}
use Rattle.norm_script.specs.Text.{split_at_first}
use Rattle.norm_script.specs.Written.{ended}
use Rattle.norm_script.proofs.LineLemmas.{map_none, map_some}
use Rattle.norm_script.proofs.WordLemmas.{both, and_true}
use Rattle.norm_mirror.specs.Reading.{cut, onto_cut}

-- no octet is a line feed
abbrev pub is_inside : ℕ → Bool
is_inside c = not (c == 10)

abbrev pub has_no_feed : List ℕ → Bool
has_no_feed line = list_all is_inside line

-- what is cut makes the whole
whole_more : (x : ℕ) (xs : List ℕ) (lines : List (List ℕ)) (rest : List ℕ) → xs ≡ ended lines ++ rest
    → x ∷ xs ≡ ended (onto_cut false x (lines, rest)).0 ++ (onto_cut false x (lines, rest)).1
whole_more x xs [] rest h = ap (λ ys. x ∷ ys) h
whole_more x xs (line ∷ lines) rest h = ap (λ ys. x ∷ ys) h

whole_feed : (x : ℕ) (xs : List ℕ) (lines : List (List ℕ)) (rest : List ℕ) → x ≡ 10 → xs ≡ ended lines ++ rest
    → x ∷ xs ≡ ended (onto_cut true x (lines, rest)).0 ++ (onto_cut true x (lines, rest)).1
whole_feed x xs lines rest is h = ap (λ y. y ∷ xs) is ∙ ap (λ ys. 10 ∷ ys) h

pub cut_whole : (xs : List ℕ) → xs ≡ ended (cut xs).0 ++ (cut xs).1
cut_whole [] = refl
cut_whole (x ∷ xs) = go (x == 10) refl (cut_whole xs)
  where
    go : (b : Bool) → (x == 10) ≡ b → xs ≡ ended (cut xs).0 ++ (cut xs).1 → x ∷ xs ≡ ended (onto_cut b x (cut xs)).0 ++ (onto_cut b x (cut xs)).1
    go true e h = whole_feed x xs (cut xs).0 (cut xs).1 ((Decides-eqb x 10).0 e) h
    go false e h = whole_more x xs (cut xs).0 (cut xs).1 h

-- Lines, and what is left behind them, have no line feed.
pub record HaveNoFeed (lines : List (List ℕ)) (rest : List ℕ) : Type 0 where
  pub each : AllByRecursion (λ line. has_no_feed line ≡ true) lines
  pub left : has_no_feed rest ≡ true

no_feed_more : (x : ℕ) (lines : List (List ℕ)) (rest : List ℕ) → is_inside x ≡ true → HaveNoFeed lines rest
    → HaveNoFeed (onto_cut false x (lines, rest)).0 (onto_cut false x (lines, rest)).1
no_feed_more x [] rest is h = record { each = tt; left = and_true (is_inside x) (has_no_feed rest) is h.left }
no_feed_more x (line ∷ lines) rest is h =
    record { each = (and_true (is_inside x) (has_no_feed line) is h.each.0, h.each.1); left = h.left }

pub cut_no_feed : (xs : List ℕ) → HaveNoFeed (cut xs).0 (cut xs).1
cut_no_feed [] = record { each = tt; left = refl }
cut_no_feed (x ∷ xs) = go (x == 10) refl (cut_no_feed xs)
  where
    go : (b : Bool) → (x == 10) ≡ b → HaveNoFeed (cut xs).0 (cut xs).1 → HaveNoFeed (onto_cut b x (cut xs)).0 (onto_cut b x (cut xs)).1
    go true e h = record { each = (refl, h.each); left = h.left }
    go false e h = no_feed_more x (cut xs).0 (cut xs).1 (ap not e) h

-- a line and its line feed are split there
pub split_feed : (line rest : List ℕ) → has_no_feed line ≡ true → split_at_first 10 (line ++ 10 ∷ rest) ≡ Some (line, rest)
split_feed [] rest h = refl
split_feed (x ∷ xs) rest h =
    let b = both (is_inside x) (has_no_feed xs) h in
    let other : nat_eq x 10 ≡ false = not_feed (nat_eq x 10) b.0 in
    rw (other, split_feed xs rest b.1) refl
  where
    not_feed : (t : Bool) → not t ≡ true → t ≡ false
    not_feed true e = absurd (cc)
    not_feed false e = refl

pub split_no_feed : (xs : List ℕ) → has_no_feed xs ≡ true → split_at_first 10 xs ≡ None
split_no_feed [] h = refl
split_no_feed (x ∷ xs) h =
    let b = both (is_inside x) (has_no_feed xs) h in
    let other : nat_eq x 10 ≡ false = not_feed (nat_eq x 10) b.0 in
    rw (other, split_no_feed xs b.1) refl
  where
    not_feed : (t : Bool) → not t ≡ true → t ≡ false
    not_feed true e = absurd (cc)
    not_feed false e = refl

-- what is split off is the first line of what is cut
pub cut_some : (xs : List ℕ) (p : List ℕ × List ℕ) → split_at_first 10 xs ≡ Some p → cut xs ≡ (p.0 ∷ (cut p.1).0, (cut p.1).1)
cut_some [] p some = absurd (cc)
cut_some (x ∷ xs) p some =
    elim (nat_eq x 10) as (λ b. nat_eq x 10 ≡ b → cut (x ∷ xs) ≡ (p.0 ∷ (cut p.1).0, (cut p.1).1)) [
      | true ↦ λ e.
          let it : Some ([], xs) ≡ Some p = rw e at some in
          let same : ([], xs) ≡ p = cc in
          rw e (ap (λ (q : List ℕ × List ℕ). (q.0 ∷ (cut q.1).0, (cut q.1).1)) same)
      | false ↦ λ e.
          let it = rw e at some in
          let q = map_some (λ (p : List ℕ × List ℕ). (x ∷ p.0, p.1)) (split_at_first 10 xs) p it in
          rw e (ap (onto_cut false x) (cut_some xs q.0 q.1.0) ∙ ap (λ (r : List ℕ × List ℕ). (r.0 ∷ (cut r.1).0, (cut r.1).1)) q.1.1)
    ] refl

pub cut_none : (xs : List ℕ) → split_at_first 10 xs ≡ None → cut xs ≡ ([], xs)
cut_none [] none = refl
cut_none (x ∷ xs) none =
    elim (nat_eq x 10) as (λ b. nat_eq x 10 ≡ b → cut (x ∷ xs) ≡ ([], x ∷ xs)) [
      | true ↦ λ e. let no = rw e at none in absurd (cc)
      | false ↦ λ e.
          let no = rw e at none in
          rw e (ap (onto_cut false x) (cut_none xs (map_none (λ (p : List ℕ × List ℕ). (x ∷ p.0, p.1)) (split_at_first 10 xs) no)))
    ] refl
