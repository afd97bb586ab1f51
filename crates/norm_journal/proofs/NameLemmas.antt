-- Names of commands, and how often one stands in a list.
use Rattle.std.proofs.Common.{◌≡◌, ℕ, zero, suc, ◌+◌, ◌≤◌, ◌<◌, List, [], ◌∷◌, ◌++◌, length, Bool, true, false, cond, Option, None, Some, Result, Ok, Err, refl, ap, subst, ◌∙◌, arith}
use Rattle.std.specs.Prelude.{◌==◌, ◌&&◌, map, count_by, slice_index_or}
use Rattle.std.specs.Option.{option_map}
use Rattle.std.proofs.lemmas.Option.{none-some, some_pair_parts}
use Rattle.std.proofs.lemmas.Bool.{eqb-true, eq-eqb}
use Rattle.std.proofs.lemmas.List.Sums.{sum_by-append}
use Rattle.norm_base.specs.declared.node.Origin.{Origin}
use Rattle.norm_script.specs.declared.script.Line.{Line}
use Rattle.norm_send_rules.specs.declared.job.Job.{Job}
use Rattle.norm_send_rules.specs.declared.job.Receipt.{Receipt}
use Rattle.norm_send_rules.specs.declared.fault.SendFault.{SendFault}
use Rattle.norm_safety.specs.Events.{Commanded, Gave}
use Rattle.norm_safety.specs.Lawful.{same_origin, accepted_with}
use Rattle.norm_send_rules.specs.Waiting.{may_wait}
use Rattle.norm_journal.specs.Commands.{waiting_after}
use Rattle.norm_journal.specs.Pulling.{origin_of, first_line}
use Rattle.norm_journal.specs.Same.{same_gave}
use Rattle.norm_journal.proofs.PullLemmas.{same_name}

clash : false ≡ true → ⊥
clash e = cc

pub both : (a b : Bool) → (a && b) ≡ true → (a ≡ true) × (b ≡ true)
both true b e = (refl, e)
both false b e = absurd (clash e)

pub both_true : (a b : Bool) → a ≡ true → b ≡ true → (a && b) ≡ true
both_true true b e f = f
both_true false b e f = absurd (clash e)

-- two names that are equal by the test are one
pub one_name : (a b : Origin) → same_origin a b ≡ true → a ≡ b
one_name a b e =
    let two = both (a.producer == b.producer) (a.number == b.number) e in
    same_name a.producer a.number b.producer b.number (eqb-true a.producer b.producer two.0) (eqb-true a.number b.number two.1)

-- how many names of a list pass a test
abbrev pub count : (Origin → Bool) → List Origin → ℕ
count q names = count_by q names

-- 1 where this name does
abbrev here : (Origin → Bool) → Origin → ℕ
here q x = cond (q x) 1 0

count_cons : (q : Origin → Bool) (x : Origin) (names : List Origin) → count q (x ∷ names) ≡ here q x + count q names
count_cons q x names = let parts = sum_by-append (λ y. here q y) (x ∷ []) names in omega (arith, parts)

itself : (q : Origin) → same_origin q q ≡ true
itself q = both_true (q.producer == q.producer) (q.number == q.number) (eq-eqb q.producer q.producer refl) (eq-eqb q.number q.number refl)

here_itself : (q : Origin) → here (same_origin q) q ≡ 1
here_itself q = ap (λ b. cond b 1 0) (itself q)

pub count_itself : (q : Origin) → count (same_origin q) (q ∷ []) ≡ 1
count_itself q = let one = here_itself q in let c = count_cons (same_origin q) q [] in omega (arith, one, c)

-- all names pass the test that each does
pub count_all : (names : List Origin) → count (λ x. true) names ≡ length names
count_all [] = refl
count_all (x ∷ names) = let more = count_all names in let c = count_cons (λ y. true) x names in omega (arith, more, c)

pub count_push : (q : Origin → Bool) (x : Origin) (names : List Origin) → count q (names ++ x ∷ []) ≡ count q names + count q (x ∷ [])
count_push q x [] = omega arith
count_push q x (y ∷ names) =
    let more = count_push q x names in
    let whole = count_cons q y (names ++ x ∷ []) in
    let part = count_cons q y names in
    omega (arith, more, whole, part)

-- a name that a list contains is counted there
pub counted_at : (names : List Origin) (q : Origin) (k : ℕ) → k < length names → slice_index_or names k q ≡ q → 1 ≤ count (same_origin q) names
counted_at [] q k within is = absurd (omega (arith, within))
counted_at (x ∷ names) q zero within is =
    let one = ap (λ y. here (same_origin q) y) is ∙ here_itself q in
    let c = count_cons (same_origin q) x names in
    omega (arith, one, c)
counted_at (x ∷ names) q (suc k) within is =
    let more = counted_at names q k (omega (arith, within)) is in
    let c = count_cons (same_origin q) x names in
    omega (arith, more, c)

exchanged : (all rest whole more one a b : ℕ) → all ≡ one + rest → whole ≡ a + all → one ≡ b + 0 → more ≡ a + rest → whole ≡ one + more
exchanged all rest whole more one a b inner is_whole is_one is_more = omega (arith, inner, is_whole, is_one, is_more)

-- the names of lines in which one is found, and of those that are left
pub count_found : (q : Origin → Bool) (producer : ℕ) (lines : List Line) (line : Line) (rest : List Line)
    → ◌≡◌ {A = Option (Line × List Line)} (first_line producer lines) (Some (line, rest))
    → count q (map origin_of lines) ≡ count q (origin_of line ∷ []) + count q (map origin_of rest)
unfolding first_line
count_found q producer [] line rest e = absurd (none-some _ e)
count_found q producer (l ∷ lines) line rest e =
    at_head (l.producer == producer) (first_line producer lines) (λ found more is. count_found q producer lines found more is) e where
      later : (o : Option (Line × List Line))
          → ((found : Line) (more : List Line) → ◌≡◌ {A = Option (Line × List Line)} o (Some (found, more))
          → count q (map origin_of lines) ≡ count q (origin_of found ∷ []) + count q (map origin_of more))
          → ◌≡◌ {A = Option (Line × List Line)} (option_map (λ (found : Line × List Line). (found.0, l ∷ found.1)) o) (Some (line, rest))
          → count q (map origin_of (l ∷ lines)) ≡ count q (origin_of line ∷ []) + count q (map origin_of rest)
      later None each is = absurd (none-some _ is)
      later (Some found) each is =
          let two = some_pair_parts found.0 line (l ∷ found.1) rest is in
          let inner = each found.0 found.1 refl in
          subst (λ (x : Line). count q (map origin_of (l ∷ lines)) ≡ count q (origin_of x ∷ []) + count q (map origin_of rest)) two.0
          (subst (λ (xs : List Line). count q (map origin_of (l ∷ lines)) ≡ count q (origin_of found.0 ∷ []) + count q (map origin_of xs)) two.1
          (exchanged _ _ _ _ _ (here q (origin_of l)) (here q (origin_of found.0)) inner
          (count_cons q (origin_of l) (map origin_of lines)) (count_cons q (origin_of found.0) [])
          (count_cons q (origin_of l) (map origin_of found.1))))

      at_head : (b : Bool) (o : Option (Line × List Line))
          → ((found : Line) (more : List Line) → ◌≡◌ {A = Option (Line × List Line)} o (Some (found, more))
          → count q (map origin_of lines) ≡ count q (origin_of found ∷ []) + count q (map origin_of more))
          → ◌≡◌ {A = Option (Line × List Line)}
          (elim b [ true ↦ Some (l, lines) | false ↦ option_map (λ (found : Line × List Line). (found.0, l ∷ found.1)) o ]) (Some (line, rest))
          → count q (map origin_of (l ∷ lines)) ≡ count q (origin_of line ∷ []) + count q (map origin_of rest)
      at_head true o each is =
          let two = some_pair_parts l line lines rest is in
          subst (λ (x : Line). count q (map origin_of (l ∷ lines)) ≡ count q (origin_of x ∷ []) + count q (map origin_of rest)) two.0
          (subst (λ (xs : List Line). count q (map origin_of (l ∷ lines)) ≡ count q (origin_of l ∷ []) + count q (map origin_of xs)) two.1
          (sum_by-append (λ y. here q y) (origin_of l ∷ []) (map origin_of lines)))
      at_head false o each is = later o each is

-- the name of a command that waits
abbrev pub names_waiting : Option Line → List Origin
names_waiting None = []
names_waiting (Some line) = origin_of line ∷ []

if_waits : (b : Bool) (q : Origin → Bool) (by : Origin) (line : Line) → origin_of line ≡ by
    → count q (names_waiting (elim b [ true ↦ Some line | false ↦ None ])) ≤ count q (by ∷ [])
if_waits true q by line named = let same = ap (λ o. count q (o ∷ [])) named in omega (arith, same)
if_waits false q by line named = omega arith

-- a command that was given is accepted, or waits, or is done with
pub given_once : (q : Origin → Bool) (by : Origin) (line : Line) (job : Job) (now : ℕ) (accepted : List Origin) (r gave : Result Receipt SendFault)
    → origin_of line ≡ by → same_gave r gave ≡ true
    → count q (accepted_with accepted (Commanded by job now) (Gave r)) + count q (names_waiting (waiting_after line gave))
    ≤ count q accepted + count q (by ∷ [])
given_once q by line job now accepted (Ok a) (Ok b) named same = let more = count_push q by accepted in omega (arith, more)
given_once q by line job now accepted (Ok a) (Err b) named same = absurd (clash same)
given_once q by line job now accepted (Err a) (Ok b) named same = absurd (clash same)
given_once q by line job now accepted (Err a) (Err b) named same = let w = if_waits (may_wait b) q by line named in omega (arith, w)
