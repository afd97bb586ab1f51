-- Each step keeps the rule of the ring, by what the pass knows that makes it.
use Rattle.std.proofs.Common.{◌≡◌, ◌≢◌, ◌⊎◌, ℕ, suc, ◌+◌, ◌*◌, ◌<◌, ◌≤◌, List, [], ◌∷◌, ◌++◌, length, set, sym, refl, ap, ◌∙◌, subst, inl, inr, ⊎_elim, zero-le, append_assoc, append-nil, length-append, eq-zero-or-pos, lt_of_not-le, arith}
use mathlib.Core.Option.{some}
use mathlib.Core.Logic.{dite}
use native.Mathlib.Decide.{dec_le, ℕ_discrete}
use lib.ListN.{get_elem?}
use Rattle.crossbeam_queue.specs.Fifo.{Pushes, Pops, Forks, Merges, Learns}
use Rattle.producer_gate.specs.declared.command.Submitted.{Submitted}
use Rattle.producer_gate.specs.declared.knows.Knows.{Knows}
use Rattle.producer_gate.specs.declared.knows.Knows.TheVariants.{Pulls, Submits, Spent}
use Rattle.producer_gate.specs.Commands.{of_producer, numbered}
use Rattle.producer_gate.specs.Ring.{Ledger, IsLedger, Fits, Balances, WasSo}
use Rattle.producer_gate.specs.Views.{Added, Taken, Compared}
use Rattle.producer_gate.proofs.Views.{AllFit, only_view, all_set, all_snoc, stood}
use Rattle.producer_gate.proofs.Numbered.{command, numbered-append, front, next, of_here, of_else, of_both, changed, changed_here, changed_else, changed_all, total-one, total-bound}

abbrev opened : Ledger
opened = record { given = 0; puller = 0; seat = λ _. 0; pulled = []; items = λ _. []; ended = 0 }

pub begins : Balances [] (Pulls 0 [] 0 [] ∷ [])
begins = (opened, record { order = λ p. refl; none = λ p _. refl; short = λ p. zero-le; count = refl }, only_view (Fits opened) (Pulls 0 [] 0 []) (refl, refl, refl, refl, refl))

-- a push
push_fits : (l : Ledger) (p : ℕ) (ys : List ℕ) (j : ℕ) (u : Knows) → j ≢ l.seat p → p ≢ l.ended → Fits l j u → Fits (record l { items = changed l.items p ys }) j u
push_fits l p ys j (Pulls g ps e la) apart live h =
    (h.0, h.1, h.2, h.3, h.4 ∙ sym (changed_else l.items p ys e (λ (x : e ≡ p). live (sym x ∙ h.3))))
push_fits l p ys j (Submits q xs) apart live h =
    (h.0, h.1, h.2, h.3 ∙ sym (changed_else l.items p ys q (λ (x : q ≡ p). apart (h.0 ∙ ap l.seat x))), h.4)
push_fits l p ys j Spent apart live h = tt

push_here : (p : ℕ) (xs : List ℕ) (c : Submitted) (done : List Submitted) → c.producer ≡ p → c.number ≡ length xs + 1 → of_producer p done ≡ numbered p 1 xs → of_producer p (done ++ c ∷ []) ≡ numbered p 1 (xs ++ c.item ∷ [])
push_here p xs c done e f h =
    let n : c.number ≡ 1 + length xs = omega (arith, f) in
    let one : of_producer p (c ∷ []) ≡ numbered p (1 + length xs) (c.item ∷ []) = of_here p c [] e ∙ (λ i. command (e i) (n i) c.item ∷ []) in
    of_both p done (c ∷ []) ∙ (λ i. h i ++ one i) ∙ sym (numbered-append p 1 xs (c.item ∷ []))

push_else : (p q : ℕ) (xs : List ℕ) (c : Submitted) (done : List Submitted) → c.producer ≡ p → q ≢ p → of_producer q done ≡ numbered q 1 xs → of_producer q (done ++ c ∷ []) ≡ numbered q 1 xs
push_else p q xs c done e ne h =
    of_both q done (c ∷ []) ∙ (λ i. h i ++ of_else q c [] (λ (x : c.producer ≡ q). ne (sym x ∙ e)) i) ∙ append-nil (numbered q 1 xs)

push_order : (p : ℕ) (xs : List ℕ) (c : Submitted) (done : List Submitted) (items : ℕ → List ℕ) → c.producer ≡ p → c.number ≡ length xs + 1 → xs ≡ items p
    → ((q : ℕ) → of_producer q done ≡ numbered q 1 (items q)) → (q : ℕ) → of_producer q (done ++ c ∷ []) ≡ numbered q 1 (changed items p (xs ++ c.item ∷ []) q)
push_order p xs c done items e f own h q =
    let ys : List ℕ = xs ++ c.item ∷ [] in
    let here : of_producer p (done ++ c ∷ []) ≡ numbered p 1 (changed items p ys p) =
    push_here p xs c done e f (h p ∙ ap (numbered p 1) (sym own)) ∙ ap (numbered p 1) (sym (changed_here items p ys)) in
    dite (ℕ_discrete q p)
    (λ (same : q ≡ p). subst (λ (k : ℕ). of_producer k (done ++ c ∷ []) ≡ numbered k 1 (changed items p ys k)) (sym same) here)
    (λ ne. push_else p q (items q) c done e ne (h q) ∙ ap (numbered q 1) (sym (changed_else items p ys q ne)))

not_given : (g p q : ℕ) → 0 < p → p ≤ g → (q ≡ 0) ⊎ (g < q) → q ≢ p
not_given g p q some_p le h same = ⊎_elim (λ (z : q ≡ 0). absurd (omega arith)) (λ (z : g < q). absurd (omega arith)) h

push_ledger : (l : Ledger) (ring : List Submitted) (p : ℕ) (xs : List ℕ) (c : Submitted) → IsLedger l ring → c.producer ≡ p → c.number ≡ length xs + 1 → length xs < 4096
    → 0 < p → p ≤ l.given → xs ≡ l.items p → IsLedger (record l { items = changed l.items p (xs ++ c.item ∷ []) }) (ring ++ c ∷ [])
push_ledger l ring p xs c k e f few some_p le own =
    let ys : List ℕ = xs ++ c.item ∷ [] in
    let longer : length ys ≡ length xs + 1 = length-append xs (c.item ∷ []) in
    let flat : (l.pulled ++ ring) ++ c ∷ [] ≡ l.pulled ++ (ring ++ c ∷ []) = append_assoc l.pulled ring (c ∷ []) in
    let here : length (changed l.items p ys p) ≡ length (l.items p) + 1 = ap length (changed_here l.items p ys) ∙ longer ∙ ap (λ (z : List ℕ). length z + 1) own in
    let more = total-one l.items (changed l.items p ys) l.given p some_p le here (λ q ne. ap length (changed_else l.items p ys q ne)) in
    record {
      order = λ q. ap (of_producer q) (sym flat) ∙ push_order p xs c (l.pulled ++ ring) l.items e f own k.order q;
      none = λ q h. changed_else l.items p ys q (not_given l.given p q some_p le h) ∙ k.none q h;
      short = changed_all (λ (z : List ℕ). length z ≤ 4096) l.items p ys (omega (arith, longer)) k.short;
      count = omega (arith, ap length flat, length-append (l.pulled ++ ring) (c ∷ []), k.count, more);
    }

pub push_at : (n pass p : ℕ) (xs : List ℕ) (c : Submitted) → length xs < 4096 → c.producer ≡ p → c.number ≡ length xs + 1 → Pushes Balances n pass (Submits p xs) c (Added (Submits p xs) c)
push_at n pass p xs c few e f ring views room b at =
    let l : Ledger = b.0 in
    let ys : List ℕ = xs ++ c.item ∷ [] in
    let mine : Fits l pass (Submits p xs) = b.2 pass (Submits p xs) at in
    let l' : Ledger = record l { items = changed l.items p ys } in (
      Submits p ys,
      (
        l',
        push_ledger l ring p xs c b.1 e f few mine.1 mine.2 mine.3,
        all_set (Fits l') views pass (Submits p ys) (mine.0, mine.1, mine.2, sym (changed_here l.items p ys), mine.4)
            (λ j u other there. push_fits l p ys j u (λ (x : j ≡ l.seat p). other (x ∙ sym mine.0)) mine.4 (b.2 j u there)),
      ),
      refl,
    )

-- a pull
pop_fits : (l : Ledger) (ps : List Submitted) (j : ℕ) (u : Knows) → j ≢ l.puller → Fits l j u → Fits (record l { pulled = ps }) j u
pop_fits l ps j (Pulls g qs e la) apart h = absurd (apart h.0)
pop_fits l ps j (Submits q xs) apart h = h
pop_fits l ps j Spent apart h = tt

-- who has an item has a seat
has_seat : (l : Ledger) (ring : List Submitted) (q : ℕ) → IsLedger l ring → 0 < length (l.items q) → (0 < q) × (q ≤ l.given)
has_seat l ring q k some_item =
    let nothing : (q ≡ 0) ⊎ (l.given < q) → ⊥ = λ h. absurd (omega (arith, ap length (k.none q h))) in (
      ⊎_elim (λ (z : q ≡ 0). absurd (nothing (inl z))) (λ (z : 0 < q). z) (eq-zero-or-pos q),
      dite (dec_le q l.given) (λ z. z) (λ z. absurd (nothing (inr (lt_of_not-le z)))),
    )

pop_tells : (l : Ledger) (c : Submitted) (ring : List Submitted) → IsLedger l (c ∷ ring)
    → (0 < c.producer) × (c.producer ≤ l.given) × (c.number ≡ length (of_producer c.producer l.pulled) + 1) × (length l.pulled < l.given * 4096)
pop_tells l c ring k =
    let q : ℕ = c.producer in
    let split : of_producer q (l.pulled ++ c ∷ ring) ≡ of_producer q l.pulled ++ c ∷ of_producer q ring = of_both q l.pulled (c ∷ ring) ∙ ap (λ (z : List Submitted). of_producer q l.pulled ++ z) (of_here q c ring refl) in
    let r = next q 1 (of_producer q l.pulled) c (of_producer q ring) (l.items q) (sym split ∙ k.order q) in
    let s = has_seat l (c ∷ ring) q k (omega (arith, r.1)) in
    let bound = total-bound l.items l.given 4096 k.short in
    (s.0, s.1, omega (arith, r.0), omega (arith, length-append l.pulled (c ∷ ring), k.count, bound))

pub pop_at : (pass g : ℕ) (ps : List Submitted) (e : ℕ) (la : List ℕ) → Pops Balances pass (Pulls g ps e la) (Taken (Pulls g ps e la))
pop_at pass g ps e la c ring views b at =
    let l : Ledger = b.0 in
    let k : IsLedger l (c ∷ ring) = b.1 in
    let mine : Fits l pass (Pulls g ps e la) = b.2 pass (Pulls g ps e la) at in
    let w : Knows = Pulls g (ps ++ c ∷ []) e la in
    let l' : Ledger = record l { pulled = l.pulled ++ c ∷ [] } in
    let flat : (l.pulled ++ c ∷ []) ++ ring ≡ l.pulled ++ c ∷ ring = append_assoc l.pulled (c ∷ []) ring in
    let t = pop_tells l c ring k in (
      w,
      (
        l',
        record { order = λ q. ap (of_producer q) flat ∙ k.order q; none = k.none; short = k.short; count = ap length flat ∙ k.count },
        all_set (Fits l') views pass w (mine.0, mine.1, ap (λ (z : List Submitted). z ++ c ∷ []) mine.2, mine.3, mine.4)
            (λ j u other there. pop_fits l (l.pulled ++ c ∷ []) j u (λ (x : j ≡ l.puller). other (x ∙ sym mine.0)) (b.2 j u there)),
      ),
      (
        refl,
        t.0,
        subst (λ (z : ℕ). c.producer ≤ z) (sym mine.1) t.1,
        subst (λ (z : List Submitted). c.number ≡ length (of_producer c.producer z) + 1) (sym mine.2) t.2,
        subst (λ (z : ℕ × List Submitted). length z.1 < z.0 * 4096) (λ i. (sym mine.1 i, sym mine.2 i)) t.3,
      ),
    )

-- a new seat
fork_fits : (l : Ledger) (n j : ℕ) (u : Knows) → j ≢ l.puller → Fits l j u → Fits (record l { given = suc l.given; seat = changed l.seat (suc l.given) n }) j u
fork_fits l n j (Pulls g ps e la) apart h = absurd (apart h.0)
fork_fits l n j (Submits q xs) apart h =
    let old = h.2 in
    (h.0 ∙ sym (changed_else l.seat (suc l.given) n q (λ (x : q ≡ suc l.given). absurd (omega arith))), h.1, omega arith, h.3, h.4)
fork_fits l n j Spent apart h = tt

pub fork_at : (pass g : ℕ) (ps : List Submitted) → Forks Balances pass (Pulls g ps 0 []) (Pulls (g + 1) ps 0 []) (Submits (g + 1) [])
fork_at pass g ps ring views b at =
    let l : Ledger = b.0 in
    let k : IsLedger l ring = b.1 in
    let mine : Fits l pass (Pulls g ps 0 []) = b.2 pass (Pulls g ps 0 []) at in
    let left : Knows = Pulls (g + 1) ps 0 [] in
    let vs : List Knows = set views pass left in
    let n : ℕ = length vs in
    let l' : Ledger = record l { given = suc l.given; seat = changed l.seat (suc l.given) n } in
    let up : g + 1 ≡ suc l.given = omega (arith, mine.1) in
    let no_item : l.items (suc l.given) ≡ [] = k.none (suc l.given) (inr (omega arith)) in
    let old : AllFit (Fits l') vs = all_set (Fits l') views pass left (mine.0, up, mine.2, mine.3, mine.4)
    (λ j u other there. fork_fits l n j u (λ (x : j ≡ l.puller). other (x ∙ sym mine.0)) (b.2 j u there)) in
    let first : Fits l' n (Submits (suc l.given) []) =
    (sym (changed_here l.seat (suc l.given) n), omega arith, omega arith, sym no_item, λ (x : suc l.given ≡ l.ended). absurd (omega (arith, x, mine.3))) in
    let new : Fits l' n (Submits (g + 1) []) = subst (λ (z : ℕ). Fits l' n (Submits z [])) (sym up) first in (
      l',
      record {
        order = k.order;
        none = λ q h. k.none q (⊎_elim (λ (z : q ≡ 0). inl z) (λ (z : suc l.given < q). inr (omega arith)) h);
        short = k.short;
        count = omega (arith, k.count, ap length no_item);
      },
      all_snoc (Fits l') vs (Submits (g + 1) []) old new,
    )

-- a seat that is taken in
join_fits : (l : Ledger) (p j : ℕ) (u : Knows) → j ≢ l.puller → j ≢ l.seat p → Fits l j u → Fits (record l { ended = p }) j u
join_fits l p j (Pulls g ps e la) apart other h = absurd (apart h.0)
join_fits l p j (Submits q xs) apart other h = (h.0, h.1, h.2, h.3, λ (x : q ≡ p). other (h.0 ∙ ap l.seat x))
join_fits l p j Spent apart other h = tt

pub join_at : (pass g : ℕ) (ps : List Submitted) (e : ℕ) (la : List ℕ) (other p : ℕ) (xs : List ℕ) → Merges Balances pass (Pulls g ps e la) other (Submits p xs) (Pulls g ps p xs) Spent
join_at pass g ps e la other p xs ring views b at apart there =
    let l : Ledger = b.0 in
    let k : IsLedger l ring = b.1 in
    let mine : Fits l pass (Pulls g ps e la) = b.2 pass (Pulls g ps e la) at in
    let both : Knows = Pulls g ps p xs in
    let was : get_elem? views other ≡ some (Submits p xs) = stood views pass other both (Submits p xs) apart there in
    let theirs : Fits l other (Submits p xs) = b.2 other (Submits p xs) was in
    let l' : Ledger = record l { ended = p } in
    let Late : ℕ → Knows → Type 0 = λ j u. j ≢ other → Fits l' j u in
    let late : AllFit Late (set views pass both) = all_set Late views pass both (λ _. (mine.0, mine.1, mine.2, refl, theirs.3))
    (λ j u aside at' far. join_fits l p j u (λ (x : j ≡ l.puller). aside (x ∙ sym mine.0)) (λ (x : j ≡ l.seat p). far (x ∙ sym theirs.0)) (b.2 j u at')) in (
      l',
      record { order = k.order; none = k.none; short = k.short; count = k.count },
      all_set (Fits l') (set views pass both) other Spent tt (λ j u far at'. late j u at' far),
    )

-- what the rule tells
pub compare_at : (pass g : ℕ) (ps : List Submitted) (e : ℕ) (la : List ℕ) → Learns Balances pass (Pulls g ps e la) (Compared (Pulls g ps e la))
compare_at pass g ps e la ring views b at =
    let l : Ledger = b.0 in
    let mine : Fits l pass (Pulls g ps e la) = b.2 pass (Pulls g ps e la) at in
    let whole : of_producer e ps ++ of_producer e ring ≡ numbered e 1 la =
    sym (of_both e ps ring) ∙ ap (λ (z : List Submitted). of_producer e (z ++ ring)) mine.2 ∙ b.1.order e ∙ ap (numbered e 1) (sym mine.4) in
    front e 1 (of_producer e ps) (of_producer e ring) la whole

pub was_so : (pass : ℕ) (v : Knows) → Learns Balances pass v (WasSo v)
was_so pass v ring views b at = (views, pass, b, at)
