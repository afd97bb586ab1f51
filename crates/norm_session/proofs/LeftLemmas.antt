-- What is left to pull, as its places say it.
use Rattle.std.proofs.Common.{◌≡◌, ◌≢◌, ℕ, zero, suc, ◌+◌, ◌<◌, ◌≤◌, All, List, length, [], ◌∷◌, ◌++◌, Option, None, Some, Bool, true, false, refl, sym, ap, ◌∙◌, subst, take, drop, get_or, arith}
use Rattle.std.specs.Prelude.{◌==◌, slice_get}
use Rattle.std.specs.List.{remove}
use Rattle.std.specs.Option.{option_to_list}
use Rattle.std.proofs.lemmas.Bool.Decides.{Decides-eqb}
use Rattle.std.proofs.lemmas.List.{append-nil, take_more, take_all}
use Rattle.std.proofs.lemmas.List.Concat.{flat_map-append}
use Rattle.std.proofs.lemmas.List.Elements.{All-nil, All-cons, All-append}
use Rattle.std.proofs.lemmas.Option.{get_or_from_slice_get, slice_get-get_or, slice_get_past}
use Rattle.norm_script.specs.declared.script.Line.{Line}
use Rattle.norm_session.specs.Left.{IsFirstOf, IsTaken, is_of, lines_at}

-- a place behind others
lines_more : (lines : List Line) (places : List ℕ) (place : ℕ) → lines_at lines (places ++ place ∷ []) ≡ lines_at lines places ++ option_to_list (slice_get lines place)
lines_more lines places place =
    flat_map-append (λ p. option_to_list (slice_get lines p)) places (place ∷ [])
    ∙ ap (λ ls. lines_at lines places ++ ls) (append-nil (option_to_list (slice_get lines place)))

-- what stands at a place
pub some_there : {X : Type 0} (xs : List X) (n : ℕ) → n < length xs → (x : X) × (slice_get xs n ≡ Some x)
some_there [] n lt = absurd (omega (arith, lt))
some_there (x ∷ xs) zero lt = (x, refl)
some_there (x ∷ xs) (suc n) lt = some_there xs n (omega (arith, lt))

-- what is read there
read_there : {X : Type 0} (xs : List X) (i : ℕ) (x : X) → i < length xs → x ≡ get_or xs i x → slice_get xs i ≡ Some x
read_there xs i x lt is = slice_get-get_or xs i x lt ∙ ap Some (sym is)

-- the places below one more
pub all_more : (lines : List Line) (places : List ℕ) (n : ℕ) → n < length lines → lines_at lines places ≡ take n lines
    → lines_at lines (places ++ n ∷ []) ≡ take (n + 1) lines
all_more lines places n lt so =
    let line = some_there lines n lt in
    lines_more lines places n ∙ ap (λ ls. ls ++ option_to_list (slice_get lines n)) so ∙ ap (λ o. take n lines ++ option_to_list o) line.1
    ∙ ap (λ l. take n lines ++ l ∷ []) (sym (get_or_from_slice_get lines n line.0 line.0 line.1)) ∙ sym (take_more lines n line.0 lt)

-- all of them
pub all_there : (lines : List Line) (places : List ℕ) (n : ℕ) → length lines ≤ n → lines_at lines places ≡ take n lines → lines_at lines places ≡ lines
all_there lines places n le so = so ∙ take_all n lines le

-- more than none
not_none : (n : ℕ) → (suc n == 0) ≡ false
not_none n = go (suc n == 0) refl
  where
    go : (b : Bool) → (suc n == 0) ≡ b → b ≡ false
    go false said = refl
    go true said = let none : suc n ≡ 0 = (Decides-eqb (suc n) 0).0 said in absurd (omega (arith, none))

still_some : (o : Option Line) (ls : List Line) → (length ls == 0) ≡ false → (length (option_to_list o ++ ls) == 0) ≡ false
still_some None ls some = some
still_some (Some l) ls some = not_none (length ls)

-- where a line is left there is one
pub some_left : (lines : List Line) (places : List ℕ) (at place : ℕ) (line : Line) → slice_get places at ≡ Some place → slice_get lines place ≡ Some line
    → (length (lines_at lines places) == 0) ≡ false
some_left lines [] at place line there is = absurd (cc)
some_left lines (p ∷ places) zero place line there is =
    let same : p ≡ place = cc in
    ap (λ o. length (option_to_list o ++ lines_at lines places) == 0) (ap (slice_get lines) same ∙ is) ∙ not_none (length (lines_at lines places))
some_left lines (p ∷ places) (suc at) place line there is =
    still_some (slice_get lines p) (lines_at lines places) (some_left lines places at place line there is)

pub some_left_read : (lines : List Line) (places : List ℕ) (at place : ℕ) → at < length places → place ≡ get_or places at place → place < length lines
    → (length (lines_at lines places) == 0) ≡ false
some_left_read lines places at place lt read within =
    let line = some_there lines place within in
    some_left lines places at place line.0 (read_there places at place lt read) line.1

-- one place more without a line
pub none_more : (lines : List Line) (places : List ℕ) (at place : ℕ) → at < length places → place ≡ get_or places at place → length lines ≤ place
    → lines_at lines (take at places) ≡ [] → lines_at lines (take (at + 1) places) ≡ []
none_more lines places at place lt read past so =
    ap (lines_at lines) (take_more places at place lt ∙ ap (λ p. take at places ++ p ∷ []) (sym read)) ∙ lines_more lines (take at places) place
    ∙ ap (λ ls. ls ++ option_to_list (slice_get lines place)) so ∙ ap option_to_list (slice_get_past lines place past)

-- none is left
pub none_left_at : (lines : List Line) (places : List ℕ) (n : ℕ) → length places ≤ n → lines_at lines (take n places) ≡ []
    → (length (lines_at lines places) == 0) ≡ true
none_left_at lines places n le so =
    ap (λ ls. length ls == 0) (ap (lines_at lines) (sym (take_all n places le)) ∙ so)

-- ---- the first line of a producer

-- one place more without a line of it
pub first_later : (lines : List Line) (places : List ℕ) (producer at place : ℕ) → at < length places → place ≡ get_or places at place
    → is_of lines producer place ≡ false → All (λ (l : Line). l.producer ≢ producer) (lines_at lines (take at places))
    → All (λ (l : Line). l.producer ≢ producer) (lines_at lines (take (at + 1) places))
first_later lines places producer at place lt read other so =
    subst (λ ls. All (λ (l : Line). l.producer ≢ producer) ls)
    (sym (ap (lines_at lines) (take_more places at place lt ∙ ap (λ p. take at places ++ p ∷ []) (sym read)) ∙ lines_more lines (take at places) place))
    (All-append (λ (l : Line). l.producer ≢ producer) (lines_at lines (take at places)) (option_to_list (slice_get lines place)) so
    (go (slice_get lines place) other))
  where
    go : (o : Option Line) → elim o [ Some line ↦ line.producer == producer | None ↦ false ] ≡ false
        → All (λ (l : Line). l.producer ≢ producer) (option_to_list o)
    go None said = All-nil (λ (l : Line). l.producer ≢ producer)
    go (Some line) said =
        All-cons (λ (l : Line). l.producer ≢ producer) line []
        (λ same. let yes : (line.producer == producer) ≡ true = (Decides-eqb line.producer producer).1 same in absurd (cc))
        (All-nil (λ (l : Line). l.producer ≢ producer))

-- its first line
pub first_found : (lines : List Line) (places : List ℕ) (producer at place : ℕ) → at < length places → place ≡ get_or places at place
    → is_of lines producer place ≡ true → All (λ (l : Line). l.producer ≢ producer) (lines_at lines (take at places))
    → IsFirstOf lines places producer at
first_found lines places producer at place lt read its so = go (slice_get lines place) refl its
  where
    go : (o : Option Line) → slice_get lines place ≡ o → elim o [ Some line ↦ line.producer == producer | None ↦ false ] ≡ true
        → IsFirstOf lines places producer at
    go None there said = absurd (cc)
    go (Some line) there said = record {
      place = place;
      line = line;
      there = read_there places at place lt read;
      line_is = there;
      its = (Decides-eqb line.producer producer).0 said;
      before = so;
    }

-- ---- what is taken

around_more : (o : Option Line) (xs ys zs : List Line) → xs ≡ ys ++ zs → option_to_list o ++ xs ≡ (option_to_list o ++ ys) ++ zs
around_more None xs ys zs e = e
around_more (Some l) xs ys zs e = ap (λ ls. l ∷ ls) e

lines_around : (lines : List Line) (places : List ℕ) (at place : ℕ) (line : Line) → slice_get places at ≡ Some place → slice_get lines place ≡ Some line
    → lines_at lines places ≡ lines_at lines (take at places) ++ line ∷ lines_at lines (drop (suc at) places)
lines_around lines [] at place line there is = absurd (cc)
lines_around lines (p ∷ places) zero place line there is =
    let same : p ≡ place = cc in
    ap (λ o. option_to_list o ++ lines_at lines places) (ap (slice_get lines) same ∙ is)
lines_around lines (p ∷ places) (suc at) place line there is =
    around_more (slice_get lines p) (lines_at lines places) (lines_at lines (take at places)) (line ∷ lines_at lines (drop (suc at) places))
    (lines_around lines places at place line there is)

pub is_taken : (lines : List Line) (old new : List ℕ) (producer at place found : ℕ) → IsFirstOf lines old producer at → found ≡ get_or old at found
    → found ≡ place → new ≡ remove old at → IsTaken lines old new producer place
is_taken lines old new producer at place found f read same is =
    let one : f.place ≡ place = sym (get_or_from_slice_get old at f.place found f.there) ∙ sym read ∙ same in record {
      line = f.line;
      line_is = ap (slice_get lines) (sym one) ∙ f.line_is;
      its = f.its;
      first = record {
        named = refl;
        before = lines_at lines (take at old);
        behind = lines_at lines (drop (suc at) old);
        its_place = lines_around lines old at f.place f.line f.there f.line_is;
        rest_is = ap (lines_at lines) is
            ∙ flat_map-append (λ p. option_to_list (slice_get lines p)) (take at old) (drop (suc at) old);
        first = subst (λ p. All (λ (l : Line). l.producer ≢ p) (lines_at lines (take at old))) (sym f.its) f.before;
      };
    }
