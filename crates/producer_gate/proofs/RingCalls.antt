-- The steps as the calls ask for them: of a view that is known by an equation.
use Rattle.std.proofs.Common.{◌≡◌, ℕ, ◌+◌, ◌<◌, List, [], length, sym, ◌∙◌, subst}
use Rattle.crossbeam_queue.specs.Fifo.{Pushes, Pops, Forks, Merges, Learns}
use Rattle.producer_gate.specs.declared.command.Submitted.{Submitted}
use Rattle.producer_gate.specs.declared.knows.Knows.{Knows}
use Rattle.producer_gate.specs.declared.knows.Knows.TheVariants.{Pulls, Submits, Spent}
use Rattle.producer_gate.specs.Commands.{IsBeginning}
use Rattle.producer_gate.specs.Inside.{pulled_in}
use Rattle.producer_gate.specs.Ring.{Balances}
use Rattle.producer_gate.specs.Views.{one_more, newcomer, taken_in, Added, Taken, Compared, IsPulling}
use Rattle.producer_gate.proofs.RingSteps.{push_at, pop_at, fork_at, join_at, compare_at}

pub pushes : (n pass : ℕ) (v : Knows) (p : ℕ) (xs : List ℕ) (c : Submitted) → v ≡ Submits p xs → length xs < 4096 → c.producer ≡ p → c.number ≡ length xs + 1 → Pushes Balances n pass v c (Added v c)
pushes n pass v p xs c is few e f = subst (λ (z : Knows). Pushes Balances n pass z c (Added z c)) (sym is) (push_at n pass p xs c few e f)

pub pops : (pass : ℕ) (v : Knows) (g : ℕ) (ps : List Submitted) (e : ℕ) (la : List ℕ) → v ≡ Pulls g ps e la → Pops Balances pass v (Taken v)
pops pass v g ps e la is = subst (λ (z : Knows). Pops Balances pass z (Taken z)) (sym is) (pop_at pass g ps e la)

pub forks : (pass : ℕ) (v : Knows) (g : ℕ) (ps : List Submitted) → v ≡ Pulls g ps 0 [] → Forks Balances pass v (one_more v) (newcomer v)
forks pass v g ps is = subst (λ (z : Knows). Forks Balances pass z (one_more z) (newcomer z)) (sym is) (fork_at pass g ps)

merge_at : (pass : ℕ) (v : Knows) (other p : ℕ) (xs : List ℕ) → IsPulling v → Merges Balances pass v other (Submits p xs) (taken_in v (Submits p xs)) Spent
merge_at pass (Pulls g ps e la) other p xs h = join_at pass g ps e la other p xs
merge_at pass (Submits q ys) other p xs h = absurd h
merge_at pass Spent other p xs h = absurd h

pub merges : (pass : ℕ) (v : Knows) (other : ℕ) (w : Knows) (p : ℕ) (xs : List ℕ) → IsPulling v → w ≡ Submits p xs → Merges Balances pass v other w (taken_in v w) Spent
merges pass v other w p xs h is = subst (λ (z : Knows). Merges Balances pass v other z (taken_in v z) Spent) (sym is) (merge_at pass v other p xs h)

learn_at : (pass : ℕ) (v : Knows) → IsPulling v → Learns Balances pass v (Compared v)
learn_at pass (Pulls g ps e la) h = compare_at pass g ps e la
learn_at pass (Submits q ys) h = absurd h
learn_at pass Spent h = absurd h

pub still_pulls : (v w z : Knows) (p : ℕ) (xs : List ℕ) → IsPulling v → w ≡ Submits p xs → z ≡ taken_in v w → IsPulling z × (pulled_in z ≡ pulled_in v)
still_pulls (Pulls g ps e la) w z p xs h is e' =
    let t : z ≡ Pulls g ps p xs = e' ∙ (λ i. taken_in (Pulls g ps e la) (is i)) in
    (subst IsPulling (sym t) tt, λ i. pulled_in (t i))
still_pulls (Submits q ys) w z p xs h is e' = absurd h
still_pulls Spent w z p xs h is e' = absurd h

pub learns : (pass : ℕ) (v w z : Knows) (p : ℕ) (xs : List ℕ) → IsPulling v → w ≡ Submits p xs → z ≡ taken_in v w → Learns Balances pass z (Compared z)
learns pass v w z p xs h is e = learn_at pass z (still_pulls v w z p xs h is e).0

-- what was learned, in the words of the seat
pub compared : (v w z : Knows) (p : ℕ) (xs : List ℕ) → IsPulling v → w ≡ Submits p xs → z ≡ taken_in v w → (ring : List Submitted) × Compared z ring → IsBeginning (pulled_in v) p xs
compared (Pulls g ps e la) w z p xs h is e' c =
    let t : z ≡ Pulls g ps p xs = e' ∙ (λ i. taken_in (Pulls g ps e la) (is i)) in
    subst (λ (y : Knows). Compared y c.0) t c.1
compared (Submits q ys) w z p xs h is e' c = absurd h
compared Spent w z p xs h is e' c = absurd h
