-- The words of a line, read back from its text.
use Rattle.std.proofs.Common.{◌≡◌, ℕ, List, [], ◌∷◌, ◌++◌, true, false, None, Some, refl, sym, ap, ◌∙◌, arith, append_assoc, nat_eq}
use Rattle.std.specs.Prelude.{⊤}
use Rattle.std.proofs.lemmas.Option.{none-some, some_pair_parts}
use Rattle.norm_script.specs.Text.{split_at_first}
use Rattle.norm_script.proofs.WordLemmas.{is_inner, is_word, both, split-word}
use Rattle.norm_text.specs.Words.{with_words, line}

-- each of these is a word: without a space or a line feed
abbrev pub AreWords : List (List ℕ) → Type 0
AreWords [] = ⊤
AreWords (w ∷ words) = (is_word w ≡ true) × AreWords words

-- a line from its first word on
spoken : List ℕ → List (List ℕ) → List ℕ
spoken w [] = w ++ 10 ∷ []
spoken w (x ∷ words) = w ++ 32 ∷ spoken x words

spoken-behind : (front w : List ℕ) (words : List (List ℕ)) → with_words (front ++ w) words ++ 10 ∷ [] ≡ front ++ spoken w words
unfolding spoken
spoken-behind front w [] = append_assoc front w (10 ∷ [])
spoken-behind front w (x ∷ words) =
    ap (λ (text : List ℕ). with_words text words ++ 10 ∷ []) (joined front w x)
    ∙ spoken-behind (front ++ (w ++ 32 ∷ [])) x words
    ∙ append_assoc front (w ++ 32 ∷ []) (spoken x words)
    ∙ ap (λ rest. front ++ rest) (append_assoc w (32 ∷ []) (spoken x words))
  where
    joined : (front w x : List ℕ) → (front ++ w) ++ 32 ∷ x ≡ (front ++ (w ++ 32 ∷ [])) ++ x
    joined front w x =
        append_assoc front w (32 ∷ x)
        ∙ ap (λ rest. front ++ rest) (sym (append_assoc w (32 ∷ []) x))
        ∙ sym (append_assoc front (w ++ 32 ∷ []) x)

line-spoken : (w : List ℕ) (words : List (List ℕ)) → line w words ≡ spoken w words
line-spoken w words = spoken-behind [] w words

split-end : (w : List ℕ) → is_word w ≡ true → split_at_first 10 (w ++ 10 ∷ []) ≡ Some (w, [])
split-end [] h = refl
split-end (x ∷ xs) h =
    let b = both (is_inner x) (is_word xs) h in
    let other : nat_eq x 10 ≡ false = grind arith in
    rw (other, split-end xs b.1) refl

no_space : (w : List ℕ) → is_word w ≡ true → split_at_first 32 (w ++ 10 ∷ []) ≡ None
no_space [] h = refl
no_space (x ∷ xs) h =
    let b = both (is_inner x) (is_word xs) h in
    let other : nat_eq x 32 ≡ false = grind arith in
    rw (other, no_space xs b.1) refl

spoken-back : (w v : List ℕ) (ws vs : List (List ℕ)) → AreWords (w ∷ ws) → AreWords (v ∷ vs) → spoken w ws ≡ spoken v vs → w ∷ ws ≡ v ∷ vs
unfolding spoken
spoken-back w v [] [] a b e =
    let same = some_pair_parts w v [] [] (sym (split-end w a.0) ∙ ap (split_at_first 10) e ∙ split-end v b.0) in
    ap (λ x. x ∷ []) same.0
spoken-back w v [] (y ∷ vs) a b e =
    absurd (none-some _ (sym (no_space w a.0) ∙ ap (split_at_first 32) e ∙ split-word v (spoken y vs) b.0))
spoken-back w v (x ∷ ws) [] a b e =
    absurd (none-some _ (sym (no_space v b.0) ∙ ap (split_at_first 32) (sym e) ∙ split-word w (spoken x ws) a.0))
spoken-back w v (x ∷ ws) (y ∷ vs) a b e =
    let same = some_pair_parts w v (spoken x ws) (spoken y vs)
    (sym (split-word w (spoken x ws) a.0) ∙ ap (split_at_first 32) e ∙ split-word v (spoken y vs) b.0) in
    ap (λ z. z ∷ x ∷ ws) same.0 ∙ ap (λ rest. v ∷ rest) (spoken-back x y ws vs a.1 b.1 same.1)

-- two lines with one text have the same words
pub line-back : (w v : List ℕ) (ws vs : List (List ℕ)) → AreWords (w ∷ ws) → AreWords (v ∷ vs) → line w ws ≡ line v vs → w ∷ ws ≡ v ∷ vs
line-back w v ws vs a b e = spoken-back w v ws vs a b (sym (line-spoken w ws) ∙ e ∙ line-spoken v vs)
