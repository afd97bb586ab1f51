-- Each step on the board's words keeps their rule, by what the seat knows that makes it.
use Rattle.std.proofs.Common.{◌≡◌, ◌≢◌, ℕ, ◌+◌, ◌*◌, ◌<◌, List, [], ◌∷◌, ◌++◌, length, set, replicate, slice_index, sym, refl, ap, ◌∙◌, subst, length-append, length-set, get_or-set_other, get_or-set_same, zero-le, arith}
use mathlib.Core.Option.{some, none}
use mathlib.Core.List.{IsPrefix}
use mathlib.Core.Logic.{dite}
use native.Mathlib.Decide.{ℕ_discrete}
use lib.ListN.{get_elem?}
use Rattle.std.proofs.lemmas.List.{get_or_append_left, get_or-replicate, length-replicate, set-get_or}
use Rattle.std.proofs.Math.Seq.{get_or-append_seam}
use Rattle.atomic_table.specs.Table.{State, keeps, step, stepped, opening, Allows, Splits, Joins}
use Rattle.atomic_table.proofs.Lists.{set_again}
use Rattle.producer_gate.specs.declared.words.Role.{Role}
use Rattle.producer_gate.specs.declared.words.Role.TheVariants.{Writes, Reads, Gone}
use Rattle.producer_gate.specs.Posts.{words_at, Holds, Fits, Posts}
use Rattle.producer_gate.specs.Plays.{known_in, noted, heard, PutFirst, PutSecond, Shown, Looked, Read, Compared}
use Rattle.producer_gate.proofs.Prefixes.{prefix_self, prefix_nil, prefix_more, prefix_length, prefix_at}
use Rattle.producer_gate.proofs.Views.{AllFit, only_view, all_set, all_snoc, stood}

abbrev Log : Type 0
Log = List (ℕ × ℕ)

-- a word behind the entries may be anything
behind : (words : List ℕ) (log : Log) (i x : ℕ) → Holds words log → 2 * length log < i → Holds (set words i x) log
behind words log i x h far = record {
  wide = length-set words i x ∙ h.wide;
  few = h.few;
  count = get_or-set_other words i 0 x 0 (λ (e : 0 ≡ i). absurd (omega arith)) ∙ h.count;
  first = λ k lt. get_or-set_other words i (2 * k + 1) x 0 (λ (e : 2 * k + 1 ≡ i). absurd (omega arith)) ∙ h.first k lt;
  second = λ k lt. get_or-set_other words i (2 * k + 2) x 0 (λ (e : 2 * k + 2 ≡ i). absurd (omega arith)) ∙ h.second k lt;
}

-- who does not write knows nothing of the words
others_fit : (words words' : List ℕ) (log : Log) (writer j : ℕ) (u : Role) → j ≢ writer → Fits words log writer j u → Fits words' log writer j u
others_fit words words' log writer j (Writes l a b q) apart h = absurd (apart h.0)
others_fit words words' log writer j (Reads known told) apart h = h
others_fit words words' log writer j Gone apart h = tt

more_fit : (words words' : List ℕ) (log : Log) (e : ℕ × ℕ) (writer j : ℕ) (u : Role) → j ≢ writer → Fits words log writer j u → Fits words' (log ++ e ∷ []) writer j u
more_fit words words' log e writer j (Writes l a b q) apart h = absurd (apart h.0)
more_fit words words' log e writer j (Reads known told) apart h = (prefix_more known log (e ∷ []) h.0, prefix_more told log (e ∷ []) h.1)
more_fit words words' log e writer j Gone apart h = tt

pub put_first_at : (slots id : ℕ) (l : Log) (a b : ℕ) (q : Log) (n x : ℕ) → n ≡ length l → n < 4096
    → Allows Posts slots id (Writes l a b q, []) (2 * n + 1) (λ _. x) (λ _. PutFirst (step slots (2 * n + 1) x 0 none) (Writes l a b q, []) x)
put_first_at slots id l a b q n x same few s p homes at lim =
    let log : Log = p.0 in
    let mine : Fits s.words log p.1 id (Writes l a b q) = p.3 id (Writes l a b q) at in
    let m : n ≡ length log = same ∙ ap length mine.1 in
    let words' : List ℕ = set s.words (2 * n + 1) x in
    let wide = p.2.wide in
    let here : slice_index words' (2 * length log + 1) ≡ x =
    ap (λ (z : ℕ). slice_index words' (2 * z + 1)) (sym m) ∙ get_or-set_same s.words (2 * n + 1) x 0 (omega arith) in
    let there : slice_index words' (2 * length log + 2) ≡ slice_index s.words (2 * length log + 2) =
    get_or-set_other s.words (2 * n + 1) (2 * length log + 2) x 0 (λ (e : 2 * length log + 2 ≡ 2 * n + 1). absurd (omega arith)) in (
      Writes l x b q,
      keeps,
      tt,
      (
        log,
        p.1,
        behind s.words log (2 * n + 1) x p.2 (omega arith),
        all_set (Fits words' log p.1) s.views id (Writes l x b q) (mine.0, mine.1, sym here, mine.3 ∙ sym there, mine.4)
            (λ j u other e. others_fit s.words words' log p.1 j u (λ (z : j ≡ p.1). other (z ∙ sym mine.0)) (p.3 j u e)),
      ),
      (tt, refl, refl, refl, refl),
    )

pub put_second_at : (slots id : ℕ) (l : Log) (a b : ℕ) (q : Log) (n x : ℕ) → n ≡ length l → n < 4096
    → Allows Posts slots id (Writes l a b q, []) (2 * n + 2) (λ _. x) (λ _. PutSecond (step slots (2 * n + 2) x 0 none) (Writes l a b q, []) x)
put_second_at slots id l a b q n x same few s p homes at lim =
    let log : Log = p.0 in
    let mine : Fits s.words log p.1 id (Writes l a b q) = p.3 id (Writes l a b q) at in
    let m : n ≡ length log = same ∙ ap length mine.1 in
    let words' : List ℕ = set s.words (2 * n + 2) x in
    let wide = p.2.wide in
    let here : slice_index words' (2 * length log + 2) ≡ x =
    ap (λ (z : ℕ). slice_index words' (2 * z + 2)) (sym m) ∙ get_or-set_same s.words (2 * n + 2) x 0 (omega arith) in
    let there : slice_index words' (2 * length log + 1) ≡ slice_index s.words (2 * length log + 1) =
    get_or-set_other s.words (2 * n + 2) (2 * length log + 1) x 0 (λ (e : 2 * length log + 1 ≡ 2 * n + 2). absurd (omega arith)) in (
      Writes l a x q,
      keeps,
      tt,
      (
        log,
        p.1,
        behind s.words log (2 * n + 2) x p.2 (omega arith),
        all_set (Fits words' log p.1) s.views id (Writes l a x q) (mine.0, mine.1, mine.2 ∙ sym there, sym here, mine.4)
            (λ j u other e. others_fit s.words words' log p.1 j u (λ (z : j ≡ p.1). other (z ∙ sym mine.0)) (p.3 j u e)),
      ),
      (tt, refl, refl, refl, refl),
    )

-- one entry more, whose words stand behind the others
holds_more : (words : List ℕ) (log : Log) (a b n : ℕ) → Holds words log → n ≡ length log → n < 4096 → a ≡ slice_index words (2 * length log + 1) → b ≡ slice_index words (2 * length log + 2)
    → Holds (set words 0 (n + 1)) (log ++ (a, b) ∷ [])
holds_more words log a b n h same few a_is b_is =
    let log' : Log = log ++ (a, b) ∷ [] in
    let words' : List ℕ = set words 0 (n + 1) in
    let longer : length log' ≡ length log + 1 = length-append log ((a, b) ∷ []) in
    let wide = h.wide in
    let kept : (i : ℕ) → i ≢ 0 → slice_index words' i ≡ slice_index words i = λ i ne. get_or-set_other words 0 i (n + 1) 0 ne in
    let seam : words_at log' (length log) ≡ (a, b) = get_or-append_seam log (a, b) [] (0, 0) in
    record {
      wide = length-set words 0 (n + 1) ∙ h.wide;
      few = omega (arith, longer);
      count = get_or-set_same words 0 (n + 1) 0 (omega arith) ∙ omega (arith, longer);
      first = λ k lt.
          kept (2 * k + 1) (λ (e : 2 * k + 1 ≡ 0). absurd (omega arith))
          ∙ dite (ℕ_discrete k (length log))
          (λ (e : k ≡ length log). ap (λ (z : ℕ). slice_index words (2 * z + 1)) e ∙ sym a_is ∙ ap (λ (w : ℕ × ℕ). w.0) (sym seam) ∙ ap (λ (z : ℕ). (words_at log' z).0) (sym e))
          (λ ne. let low : k < length log = omega (arith, longer) in h.first k low ∙ ap (λ (w : ℕ × ℕ). w.0) (sym (get_or_append_left log ((a, b) ∷ []) (0, 0) k low)));
      second = λ k lt.
          kept (2 * k + 2) (λ (e : 2 * k + 2 ≡ 0). absurd (omega arith))
          ∙ dite (ℕ_discrete k (length log))
          (λ (e : k ≡ length log). ap (λ (z : ℕ). slice_index words (2 * z + 2)) e ∙ sym b_is ∙ ap (λ (w : ℕ × ℕ). w.1) (sym seam) ∙ ap (λ (z : ℕ). (words_at log' z).1) (sym e))
          (λ ne. let low : k < length log = omega (arith, longer) in h.second k low ∙ ap (λ (w : ℕ × ℕ). w.1) (sym (get_or_append_left log ((a, b) ∷ []) (0, 0) k low)));
    }

pub show_at : (slots id : ℕ) (l : Log) (a b : ℕ) (q : Log) (n : ℕ) → n ≡ length l → n < 4096
    → Allows Posts slots id (Writes l a b q, []) 0 (λ _. n + 1) (λ _. Shown (step slots 0 (n + 1) 0 none) (Writes l a b q, []) (n + 1))
show_at slots id l a b q n same few s p homes at lim =
    let log : Log = p.0 in
    let e : ℕ × ℕ = (a, b) in
    let mine : Fits s.words log p.1 id (Writes l a b q) = p.3 id (Writes l a b q) at in
    let m : n ≡ length log = same ∙ ap length mine.1 in
    let words' : List ℕ = set s.words 0 (n + 1) in
    let log' : Log = log ++ e ∷ [] in
    let w : Role = Writes (l ++ e ∷ []) (slice_index words' (2 * length log' + 1)) (slice_index words' (2 * length log' + 2)) q in (
      w,
      keeps,
      tt,
      (
        log',
        p.1,
        holds_more s.words log a b n p.2 m few mine.2 mine.3,
        all_set (Fits words' log' p.1) s.views id w (mine.0, ap (λ (z : Log). z ++ e ∷ []) mine.1, refl, refl, prefix_more q log (e ∷ []) mine.4)
            (λ j u other t. more_fit s.words words' log e p.1 j u (λ (z : j ≡ p.1). other (z ∙ sym mine.0)) (p.3 j u t)),
      ),
      (tt, refl, refl),
    )

-- a load changes no word
loaded : (s : State ℕ Role) (i id : ℕ) (w : Role) → Posts record { words = s.words; homes = s.homes; views = set s.views id w } → Posts (stepped s i (slice_index s.words i) id [] w keeps)
loaded s i id w h = subst (λ (z : List ℕ). Posts record { words = z; homes = s.homes; views = set s.views id w }) (sym (set-get_or s.words i 0)) h

still : (s : State ℕ Role) (id : ℕ) (v : Role) → Posts s → get_elem? s.views id ≡ some v → Posts record { words = s.words; homes = s.homes; views = set s.views id v }
still s id v h at = subst (λ (z : List Role). Posts record { words = s.words; homes = s.homes; views = z }) (sym (set_again s.views id v at)) h

pub look_at : (slots id : ℕ) (known told : Log) → Allows Posts slots id (Reads known told, []) 0 (λ n. n) (Looked (step slots 0 0 0 none) (Reads known told, []))
look_at slots id known told s p homes at lim =
    let log : Log = p.0 in
    let mine : Fits s.words log p.1 id (Reads known told) = p.3 id (Reads known told) at in
    let w : Role = Reads log [] in
    let count = p.2.count in
    let few = p.2.few in (
      w,
      keeps,
      tt,
      loaded s 0 id w (log, p.1, p.2, all_set (Fits s.words log p.1) s.views id w (prefix_self log, prefix_nil log) (λ j u other t. p.3 j u t)),
      (tt, mine.0, mine.1, sym count, omega arith, refl),
    )

pub read_at : (slots id i : ℕ) (known told : Log) → Allows Posts slots id (Reads known told, []) i (λ n. n) (Read (step slots i 0 0 none) (Reads known told, []))
read_at slots id i known told s p homes at lim =
    let log : Log = p.0 in
    let mine : Fits s.words log p.1 id (Reads known told) = p.3 id (Reads known told) at in
    let v : Role = Reads known told in
    let shorter = prefix_length known log mine.0 in (
      v,
      keeps,
      tt,
      loaded s i id v (still s id v p at),
      (
        refl,
        (λ k lt is.
            ap (slice_index s.words) is ∙ p.2.first k (omega arith) ∙ ap (λ (w : ℕ × ℕ). w.0) (prefix_at known log (0, 0) k mine.0 lt)),
        (λ k lt is.
            ap (slice_index s.words) is ∙ p.2.second k (omega arith) ∙ ap (λ (w : ℕ × ℕ). w.1) (prefix_at known log (0, 0) k mine.0 lt)),
      ),
    )

pub compare_at : (slots id i : ℕ) (l : Log) (a b : ℕ) (q : Log) → Allows Posts slots id (Writes l a b q, []) i (λ n. n) (Compared (step slots i 0 0 none) (Writes l a b q, []))
compare_at slots id i l a b q s p homes at lim =
    let log : Log = p.0 in
    let v : Role = Writes l a b q in
    let mine : Fits s.words log p.1 id v = p.3 id v at in (
      v,
      keeps,
      tt,
      loaded s i id v (still s id v p at),
      (refl, subst (λ (z : Log). IsPrefix q z) (sym mine.1) mine.4),
    )

note_fits : (words : List ℕ) (log : Log) (writer j k : ℕ) (v : Role) → Fits words log writer j v → Fits words log writer k (noted v)
note_fits words log writer j k (Writes l a b q) h = (subst (λ (z : Log). IsPrefix z log) (sym h.1) (prefix_self log), prefix_nil log)
note_fits words log writer j k (Reads known told) h = (h.0, prefix_nil log)
note_fits words log writer j k Gone h = tt

pub note_at : (id : ℕ) (v : Role) → Splits Posts id v v (noted v)
note_at id v s p at =
    let log : Log = p.0 in
    let F = Fits s.words log p.1 in
    let vs : List Role = set s.views id v in
    let old : AllFit F vs = all_set F s.views id v (p.3 id v at) (λ j u other t. p.3 j u t) in
    (log, p.1, p.2, all_snoc F vs (noted v) old (note_fits s.words log p.1 id (length vs) v (p.3 id v at)))

knows : (words : List ℕ) (log : Log) (writer j : ℕ) (v : Role) → Fits words log writer j v → IsPrefix (known_in v) log
knows words log writer j (Writes l a b q) h = prefix_nil log
knows words log writer j (Reads known told) h = h.0
knows words log writer j Gone h = prefix_nil log

hear_fits : (words : List ℕ) (log : Log) (writer j : ℕ) (v note : Role) → Fits words log writer j v → IsPrefix (known_in note) log → Fits words log writer j (heard v note)
hear_fits words log writer j (Writes l a b q) note h p = (h.0, h.1, h.2, h.3, p)
hear_fits words log writer j (Reads known told) note h p = (h.0, p)
hear_fits words log writer j Gone note h p = tt

pub hear_at : (id : ℕ) (v : Role) (other : ℕ) (note : Role) → Joins Posts id v other note (heard v note) Gone
hear_at id v other note s p at apart there =
    let log : Log = p.0 in
    let F = Fits s.words log p.1 in
    let both : Role = heard v note in
    let was = stood s.views id other both note apart there in
    let known = knows s.words log p.1 other note (p.3 other note was) in
    let mid : AllFit F (set s.views id both) = all_set F s.views id both (hear_fits s.words log p.1 id v note (p.3 id v at) known) (λ j u far t. p.3 j u t) in
    (log, p.1, p.2, all_set F (set s.views id both) other Gone tt (λ j u far t. mid j u t))

pub begins : (n : ℕ) (words : List ℕ) → n ≡ 8193 → words ≡ replicate n 0 → Posts (opening words [] (Writes [] 0 0 []))
begins n words wide is =
    let at : (i : ℕ) → i < n → slice_index words i ≡ 0 = λ i lt. ap (λ (z : List ℕ). slice_index z i) is ∙ get_or-replicate n i 0 0 lt in (
      [],
      0,
      record {
        wide = ap length is ∙ length-replicate {A = ℕ} n 0 ∙ wide;
        few = zero-le;
        count = at 0 (omega arith);
        first = λ k lt. absurd (omega arith);
        second = λ k lt. absurd (omega arith);
      },
      only_view (Fits words [] 0) (Writes [] 0 0 []) (refl, refl, sym (at 1 (omega arith)), sym (at 2 (omega arith)), prefix_nil []),
    )
