-- Seats that are taken in from the last one on: what is known of those that were, and one more.
use Rattle.std.proofs.Common.{◌≡◌, ℕ, ◌+◌, ◌*◌, ◌≤◌, List, [], ◌∷◌, ◌++◌, length, All, Contains, sum_by, sym, ap, ◌∙◌, subst, append_assoc, arith}
use Rattle.std.proofs.lemmas.List.Sums.{sum_by-append}
use Rattle.std.proofs.lemmas.List.Elements.{All-cons, All-same, All-contains, Contains-push, Contains-append_left}
use Rattle.producer_gate.specs.declared.command.Submitted.{Submitted}
use Rattle.producer_gate.specs.Seats.{SeatState, IsFront, left_of}

-- of so many seats, the last ones were taken in
pub record Settled (pulled : List Submitted) (all seats done : List SeatState) (sum_so_far : ℕ) : Type 0 where
  pub split : all ≡ seats ++ done
  pub front : All (IsFront pulled) done
  pub rest : sum_so_far ≡ sum_by (left_of pulled) done
  pub small : sum_so_far ≤ 4096 * length done

pub settled_more : (pulled now : List Submitted) (all seats shorter done : List SeatState) (rest more : ℕ) (seat : SeatState) → Settled pulled all seats done rest → now ≡ pulled
    → seats ≡ shorter ++ seat ∷ [] → IsFront now seat → more ≡ left_of now seat → more ≤ 4096 → Settled pulled all shorter (seat ∷ done) (rest + more)
settled_more pulled now all seats shorter done rest more seat s same cut f m few =
    let here : IsFront pulled seat = subst (λ (z : List Submitted). IsFront z seat) same f in
    let m' : more ≡ left_of pulled seat = m ∙ ap (λ (z : List Submitted). left_of z seat) same in
    let sums = sum_by-append (left_of pulled) (seat ∷ []) done in
    let r = s.rest in
    let b = s.small in
    record {
      split = s.split ∙ ap (λ (z : List SeatState). z ++ done) cut ∙ append_assoc shorter (seat ∷ []) done;
      front = All-cons (IsFront pulled) seat done here s.front;
      rest = omega (arith, r, m', sums);
      small = omega (arith, b, few);
    }

-- what holds of all seats holds of the one that is taken in
pub of_next : (P : SeatState → Type 0) (all seats shorter done : List SeatState) (seat : SeatState) → All P all → all ≡ seats ++ done → seats ≡ shorter ++ seat ∷ [] → P seat
of_next P all seats shorter done seat h split cut =
    All-contains P (seats ++ done) seat (All-same P (seats ++ done) all (sym split) h)
    (Contains-append_left seats done seat (subst (λ (z : List SeatState). Contains z seat) (sym cut) (Contains-push shorter seat)))
