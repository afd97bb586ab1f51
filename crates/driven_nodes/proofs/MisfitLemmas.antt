-- An id in both sessions.
use Rattle.std.proofs.Common.{◌≡◌, ◌∙◌, sym, ap, arith, cond, ℕ, zero, suc, ◌+◌, [], ◌∷◌, true, false, Option, None, Some, inl, inr}
use Rattle.std.specs.Prelude.{find, ◌⊎◌, ◌<◌, ◌≤◌}
use Rattle.std.specs.Option.{option_or}
use Rattle.std.proofs.lemmas.Bool.{cases_lt}
use Rattle.std.proofs.lemmas.List.Folds.{find-append}
use Rattle.norm_base.specs.Members.{is_node, receivers_of}
use Rattle.norm_base.specs.Settings.{Settings}
use Rattle.relay_words.specs.declared.ends.NoRelay.TheVariants as no
use Rattle.driven_nodes.specs.Misfits.{shared, shared_of}

-- none of these so far
abbrev pub NoneOf : Settings → Settings → ℕ → Type 0
NoneOf p q n = find (is_node q) (receivers_of p n) ≡ None

-- one more is none
pub none_more : (p q : Settings) (i id : ℕ) → NoneOf p q i → id ≡ p.sender + 1 + i → is_node q id ≡ false → NoneOf p q (i + 1)
none_more p q i id none is isnt =
    let more : i + 1 ≡ suc i = omega arith in
    ap (λ n. find (is_node q) (receivers_of p n)) more ∙ find-append (is_node q) (receivers_of p i) ((p.sender + 1 + i) ∷ [])
    ∙ ap (λ o. option_or o (find (is_node q) ((p.sender + 1 + i) ∷ []))) none
    ∙ ap (λ b. option_or None (cond b (Some (p.sender + 1 + i)) None)) (ap (is_node q) (sym is) ∙ isnt)

found_at : (p q : Settings) (n i : ℕ) → i < n → NoneOf p q i → is_node q (p.sender + 1 + i) ≡ true
    → find (is_node q) (receivers_of p n) ≡ Some (p.sender + 1 + i)
found_at p q zero i lt none is = absurd (omega (arith, lt))
found_at p q (suc n) i lt none is =
    find-append (is_node q) (receivers_of p n) ((p.sender + 1 + n) ∷ []) ∙ go (cases_lt i n) (λ less. found_at p q n i less none is)
  where
    last : ℕ → Option ℕ
    last k = find (is_node q) ((p.sender + 1 + k) ∷ [])

    go : (i < n) ⊎ (n ≤ i) → (i < n → find (is_node q) (receivers_of p n) ≡ Some (p.sender + 1 + i))
        → option_or (find (is_node q) (receivers_of p n)) (last n) ≡ Some (p.sender + 1 + i)
    go (inl less) front = ap (λ o. option_or o (last n)) (front less)
    go (inr more) front =
        let same : n ≡ i = omega (arith, lt, more) in
        ap (λ k. option_or (find (is_node q) (receivers_of p k)) (last k)) same ∙ ap (λ o. option_or o (last i)) none
        ∙ ap (λ b. option_or None (cond b (Some (p.sender + 1 + i)) None)) is

pub shared_first : (p q : Settings) → is_node q p.sender ≡ true → no.Shared p.sender ≡ shared p q
shared_first p q is = sym (ap (λ b. shared_of p.sender (cond b (Some p.sender) (find (is_node q) (receivers_of p p.receivers)))) is)

pub shared_one : (p q : Settings) (i id : ℕ) → i < p.receivers → is_node q p.sender ≡ false → NoneOf p q i → id ≡ p.sender + 1 + i → is_node q id ≡ true
    → no.Shared id ≡ shared p q
shared_one p q i id lt first none is found =
    ap no.Shared is ∙ sym (ap (λ b. shared_of p.sender (cond b (Some p.sender) (find (is_node q) (receivers_of p p.receivers)))) first
    ∙ ap (shared_of p.sender) (found_at p q p.receivers i lt none (ap (is_node q) (sym is) ∙ found)))

pub shared_none : (p q : Settings) (i : ℕ) → is_node q p.sender ≡ false → NoneOf p q i → i ≡ p.receivers → no.Shared p.sender ≡ shared p q
shared_none p q i first none all =
    sym (ap (λ b. shared_of p.sender (cond b (Some p.sender) (find (is_node q) (receivers_of p p.receivers)))) first
    ∙ ap (shared_of p.sender) (ap (λ n. find (is_node q) (receivers_of p n)) (sym all) ∙ none))
