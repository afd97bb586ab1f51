use Rattle.std.proofs.Common.{◌≡◌, ◌∙◌, sym, ap, subst, ◌+◌, ◌*◌, ◌%◌, ◌≤◌, ◌<◌, ◌==◌, ℕ, zero, suc, List, [], ◌∷◌, ◌++◌, length, Option, Some, Ok, Bool, true, false, refl, arith, map, slice_index, lit≤, ◌/◌, append_assoc}
use Rattle.std.specs.Prelude.{◌&&◌, IfSome, count_by}
use Rattle.std.specs.List.{AllByRecursion, concat, range_with_len}
use Rattle.std.proofs.lemmas.Bool.{eqb-true}
use Rattle.norm_base.specs.Given.{profile_given}
use Rattle.norm_base.specs.Settings.{Settings, InRange}
use Rattle.norm_script.specs.Generated.{generated_settings, generated_octets, generated_kind, generated_verb, generated_command, generated_lines, generated_pieces, setting_piece, command_piece, generate_text, generated_profile, generated_script}
use Rattle.norm_script.specs.Head.{given_by}
use Rattle.norm_script.specs.Reading.{script_of}
use Rattle.norm_script.specs.Scripts.{IsContents, IsVerb, IsLine, AreNumbered, IsScript}
use Rattle.norm_base.specs.declared.key.Key.{Key}
use Rattle.norm_script.specs.Written.{setting_line, command_line, ended}
use Rattle.norm_script.specs.declared.script.Line.{Line}
use Rattle.norm_script.proofs.AgainLemmas.{AreFresh, numbered, written-read}
use Rattle.norm_script.proofs.TakingLemmas.{given-range}
use Rattle.norm_script.proofs.WordLemmas.{at_least, both}

-- The generated script means what it was made of.

all_ranged : {Y : Type 0} (P : Y → Type 0) (f : ℕ → Y) (a k b : ℕ) → a + k ≤ b → ((x : ℕ) → x < b → P (f x)) → AllByRecursion P (map f (range_with_len a k))
all_ranged P f a zero b within h = tt
all_ranged P f a (suc k) b within h = (h a (omega arith), all_ranged P f (a + 1) k b (omega arith) h)

octets_are : (f : ℕ → ℕ) (xs : List ℕ) (i : ℕ) → slice_index (map (λ j. f j % 256) xs) i < 256
octets_are f [] i = omega arith
octets_are f (x ∷ xs) zero = omega arith
octets_are f (x ∷ xs) (suc i) = octets_are f xs i

mapped_length : (f : ℕ → ℕ) (xs : List ℕ) → length (map f xs) ≡ length xs
mapped_length f [] = refl
mapped_length f (x ∷ xs) = ap suc (mapped_length f xs)

ranged_length : (a k : ℕ) → length (range_with_len a k) ≡ k
ranged_length a zero = refl
ranged_length a (suc k) = ap suc (ranged_length (a + 1) k)

contents-generated : (n p i : ℕ) → IsContents (generated_octets n p i)
contents-generated n p i =
    let k = 1 + (n + 37 * p + 101 * i) % 500 in
    let len : length (generated_octets n p i) ≡ k = mapped_length (λ j. (n + p + i + j) % 256) (range_with_len 0 k) ∙ ranged_length 0 k in
    record { some = omega (arith, len); most = omega (arith, len); octets = octets_are (λ j. n + p + i + j) (range_with_len 0 k) }

verb-generated : (tenth : Bool) (octets : List ℕ) → IsContents octets → IsVerb (generated_kind tenth octets)
verb-generated true octets h = tt
verb-generated false octets h = h

all-generated : (n : ℕ) → AllByRecursion (IsLine 3) (generated_lines n)
unfolding generated_lines
all-generated n =
    all_ranged (IsLine 3) (generated_command n) 0 300 300 (omega arith)
    (λ k h. record {
      first = omega arith;
      last = omega arith;
      verb = verb-generated (k % 100 % 10 == 9) (generated_octets n (k / 100 + 1) (k % 100)) (contents-generated n (k / 100 + 1) (k % 100));
    })

abbrev are_numbered : List Line → List Line → Bool
are_numbered before [] = true
are_numbered before (l ∷ lines) = (l.number == count_by (λ k. k.producer == l.producer) before + 1) && are_numbered (before ++ l ∷ []) lines

numbered-true : (before lines : List Line) → are_numbered before lines ≡ true → AreNumbered before lines
numbered-true before [] h = tt
numbered-true before (l ∷ lines) h =
    let b = both (l.number == count_by (λ k. k.producer == l.producer) before + 1) (are_numbered (before ++ l ∷ []) lines) h in
    (eqb-true l.number (count_by (λ k. k.producer == l.producer) before + 1) b.0, numbered-true (before ++ l ∷ []) lines b.1)

fresh-generated : (n : ℕ) → n ≤ 4294967295 → AreFresh [] 1 (generated_settings n)
fresh-generated n h = (
  (lit≤ tt, lit≤ tt),
  refl,
  (
    (lit≤ tt, lit≤ tt),
    refl,
    (
      (lit≤ tt, lit≤ tt),
      refl,
      (
        (lit≤ tt, lit≤ tt),
        refl,
        (
          (lit≤ tt, lit≤ tt),
          refl,
          (
            (lit≤ tt, lit≤ tt),
            refl,
            (
              (lit≤ tt, lit≤ tt),
              refl,
              (
                (omega arith, h),
                refl,
                (
                  (lit≤ tt, lit≤ tt),
                  refl,
                  (
                    (lit≤ tt, lit≤ tt),
                    refl,
                    ((lit≤ tt, lit≤ tt), refl, tt),
                  ),
                ),
              ),
            ),
          ),
        ),
      ),
    ),
  ),
)

given-generated : (n : ℕ) → n ≤ 4294967295 → profile_given (given_by (numbered 1 (generated_settings n))) ≡ Some (generated_profile n)
given-generated n h = rw (at_least 0 n (omega arith), at_least n 4294967295 h) refl

range-generated : (n : ℕ) → n ≤ 4294967295 → InRange (generated_profile n)
range-generated n h =
    let P : Option Settings → Type 0 = λ o. IfSome o InRange in
    subst P (given-generated n h) (given-range (given_by (numbered 1 (generated_settings n))))

few-generated : (n : ℕ) → length (generated_lines n) ≤ 4096
unfolding generated_lines
few-generated n = lit≤ tt

numbered-generated : (n : ℕ) → AreNumbered [] (generated_lines n)
unfolding generated_lines
numbered-generated n = numbered-true [] (generated_lines n) refl

script-generated : (n : ℕ) → n ≤ 4294967295 → IsScript (generated_script n)
script-generated n h = record {
  range = range-generated n h;
  few = few-generated n;
  each = all-generated n;
  numbered = numbered-generated n;
}

pub generated-read : (n : ℕ) → n ≤ 4294967295 → script_of (generate_text n) ≡ Ok (generated_script n)
unfolding generate_text
generated-read n h =
    written-read (generated_settings n) (generated_profile n) (generated_lines n) (fresh-generated n h) (lit≤ tt) (given-generated n h) (script-generated n h)

-- the pieces that are written are the text

ended_piece : (line pieces rest : List ℕ) → line ++ 10 ∷ (pieces ++ rest) ≡ ((line ++ 10 ∷ []) ++ pieces) ++ rest
ended_piece line pieces rest = sym (append_assoc (line ++ 10 ∷ []) pieces rest ∙ append_assoc line (10 ∷ []) (pieces ++ rest))

ended_settings : (settings : List (Key × ℕ)) (rest : List (List ℕ))
    → ended (map (λ (s : Key × ℕ). setting_line s.0 s.1) settings ++ rest) ≡ concat (map setting_piece settings) ++ ended rest
ended_settings [] rest = refl
ended_settings (s ∷ settings) rest =
    ap (λ t. setting_line s.0 s.1 ++ 10 ∷ t) (ended_settings settings rest)
    ∙ ended_piece (setting_line s.0 s.1) (concat (map setting_piece settings)) (ended rest)

ended_commands : (n : ℕ) (ks : List ℕ)
    → ended (map (λ l. command_line l.producer l.verb) (map (generated_command n) ks)) ≡ concat (map (command_piece n) ks)
ended_commands n [] = refl
ended_commands n (k ∷ ks) =
    let line = command_line (k / 100 + 1) (generated_verb n (k / 100 + 1) (k % 100)) in
    ap (λ t. line ++ 10 ∷ t) (ended_commands n ks) ∙ sym (append_assoc line (10 ∷ []) (concat (map (command_piece n) ks)))

concat_append : (xs ys : List (List ℕ)) → concat (xs ++ ys) ≡ concat xs ++ concat ys
concat_append [] ys = refl
concat_append (x ∷ xs) ys = ap (λ t. x ++ t) (concat_append xs ys) ∙ sym (append_assoc x (concat xs) (concat ys))

pub pieces-text : (n : ℕ) → concat (generated_pieces n) ≡ generate_text n
unfolding generated_pieces generate_text generated_lines
pieces-text n =
    concat_append (map setting_piece (generated_settings n)) (map (command_piece n) (range_with_len 0 300))
    ∙ ap (λ t. concat (map setting_piece (generated_settings n)) ++ t) (sym (ended_commands n (range_with_len 0 300)))
    ∙ sym (ended_settings (generated_settings n) (map (λ l. command_line l.producer l.verb) (map (generated_command n) (range_with_len 0 300))))

pub ruleset generated_laws = (generated-read)
