-- A network in memory that loses nothing keeps each copy until it is taken, in order.
use Rattle.std.proofs.Common.{◌≡◌, ◌∙◌, sym, ap, subst, refl, ℕ, zero, suc, ◌+◌, ◌≤◌, ◌<◌, ◌==◌, not, List, [], ◌∷◌, ◌++◌, length, map, filter, slice_get, Option, Some, None, Bool, true, false, cond, arith, length-append, nat_cmp, Less}
use Rattle.std.specs.Prelude.{nat_le, ⊤}
use Rattle.std.specs.List.{AllByRecursion}
use Rattle.std.specs.Ordering.{is_lt, ordering_then}
use Rattle.std.proofs.lemmas.Cmp.{nat_cmp_total, tied_itself, ranked, by_ranked}
use Rattle.std.proofs.lemmas.List.{append-nil, append_assoc, map-append}
use Rattle.std.proofs.lemmas.List.Concat.{flat_map-append}
use Rattle.std.proofs.lemmas.List.Elements.{filter_map-append}
use Rattle.norm_base.specs.Settings.{Settings}
use Rattle.norm_base.specs.Copies.{members_at, copies_for, copies_in, next_copy}
use Rattle.norm_base.specs.Members.{receivers_of}
use Rattle.norm_base.specs.Network.{IsDirectAnswer, taken_of}
use Rattle.norm_base.specs.declared.kinds.Local.{Local}
use Rattle.norm_base.proofs.CopyLemmas.{members_last}
use Rattle.norm_memory.specs.declared.copy.WaitingCopy.{WaitingCopy}
use Rattle.norm_memory.specs.Direct.{direct_offer, direct_told, copy_of, IsReady, KeepsCopies}
use Rattle.norm_memory.specs.Fates.{once, plan_by, copies_of}
use Rattle.norm_memory.specs.Networks.{NetworkState, unstarted, started, after_take, answered, ready_copy, without_ready, next_answer}
use Rattle.norm_memory.specs.Waiting.{put_copy, put_copies, first_of}
use Rattle.norm_memory.proofs.NetworkLemmas.{offer_at-before, offer_at-last}
use Rattle.norm_memory.proofs.Turns.{before, not_behind, put_first}

-- ---- the members of a session rise

-- each is above all before it
abbrev Rise : List ℕ → Type 0
Rise [] = ⊤
Rise (m ∷ ms) = AllByRecursion (λ k. m < k) ms × Rise ms

all_onto : (P : ℕ → Type 0) (ms : List ℕ) (m : ℕ) → AllByRecursion P ms → P m → AllByRecursion P (ms ++ m ∷ [])
all_onto P [] m all one = (one, tt)
all_onto P (k ∷ ms) m all one = (all.0, all_onto P ms m all.1 one)

rise_onto : (ms : List ℕ) (m : ℕ) → Rise ms → AllByRecursion (λ k. k < m) ms → Rise (ms ++ m ∷ [])
rise_onto [] m rise all = (tt, tt)
rise_onto (k ∷ ms) m rise all = (all_onto (λ x. k < x) ms m rise.0 all.0, rise_onto ms m rise.1 all.1)

-- the first receivers are above the sender, and below the next
above : (p : Settings) (n : ℕ) → AllByRecursion (λ r. p.sender < r) (receivers_of p n)
above p zero = tt
above p (suc n) = all_onto (λ r. p.sender < r) (receivers_of p n) (p.sender + 1 + n) (above p n) (omega arith)

below : (p : Settings) (n next : ℕ) → p.sender + n < next → AllByRecursion (λ r. r < next) (receivers_of p n)
below p zero next lt = tt
below p (suc n) next lt = all_onto (λ r. r < next) (receivers_of p n) (p.sender + 1 + n) (below p n next (omega arith)) (omega arith)

receivers_rise : (p : Settings) (n : ℕ) → Rise (receivers_of p n)
receivers_rise p zero = tt
receivers_rise p (suc n) = rise_onto (receivers_of p n) (p.sender + 1 + n) (receivers_rise p n) (below p n (p.sender + 1 + n) (omega arith))

members_rise : (starts : List (Settings × Local)) → Rise (members_at starts)
members_rise [] = tt
members_rise (start ∷ []) = (above start.0 start.0.receivers, receivers_rise start.0 start.0.receivers)
members_rise (start ∷ next ∷ starts) = members_rise (next ∷ starts)

-- the members that did not offer
abbrev others : ℕ → List ℕ → List ℕ
others from members = filter (λ m. not (m == from)) members

all_filtered : (P : ℕ → Type 0) (test : ℕ → Bool) (ms : List ℕ) → AllByRecursion P ms → AllByRecursion P (filter test ms)
all_filtered P test [] all = tt
all_filtered P test (m ∷ ms) all = elim (test m) as (λ b. AllByRecursion P (cond b (m ∷ filter test ms) (filter test ms))) [
  | true ↦ (all.0, all_filtered P test ms all.1)
  | false ↦ all_filtered P test ms all.1
]

rise_filtered : (test : ℕ → Bool) (ms : List ℕ) → Rise ms → Rise (filter test ms)
rise_filtered test [] rise = tt
rise_filtered test (m ∷ ms) rise = elim (test m) as (λ b. Rise (cond b (m ∷ filter test ms) (filter test ms))) [
  | true ↦ (all_filtered (λ k. m < k) test ms rise.0, rise_filtered test ms rise.1)
  | false ↦ rise_filtered test ms rise.1
]

-- ---- the copies of a new offer come last

-- the copy of the offer at a place
abbrev fresh : ℕ → ℕ → WaitingCopy
fresh n to = record { ready = n + 1 + 0; offer = n; to = to }

planned : (n from : ℕ) (members : List ℕ) → copies_of n (plan_by (λ to. once) from members) ≡ map (fresh n) (others from members)
planned n from [] = refl
planned n from (m ∷ members) =
    elim (m == from) as (λ b. copies_of n (cond b (plan_by (λ to. once) from members) ((m, once) ∷ plan_by (λ to. once) from members))
    ≡ map (fresh n) (cond (not b) (m ∷ others from members) (others from members))) [
      | true ↦ planned n from members
      | false ↦ ap (λ cs. fresh n m ∷ cs) (planned n from members)
    ]

less_first : (a b : ℕ) → a < b → nat_cmp a b ≡ Less
less_first a b lt =
    by_ranked _ _ _ (nat_cmp a b) (ranked a b (nat_cmp a b) refl) (λ l _. l) (λ _ s. absurd (omega (arith, lt, s))) (λ _ g. absurd (omega (arith, lt, g)))

-- what is ready goes before the copies of the next offer
waits_before : (n to : ℕ) (d : WaitingCopy) → d.ready ≤ n → before d (fresh n to) ≡ true
waits_before n to d le =
    ap (λ o. is_lt (ordering_then o (ordering_then (nat_cmp d.offer n) (nat_cmp d.to to)))) (less_first d.ready (n + 1 + 0) (omega (arith, le)))

-- and of these the one for the lower member
lower_before : (n m k : ℕ) → m < k → before (fresh n m) (fresh n k) ≡ true
lower_before n m k lt =
    ap (λ o. is_lt (ordering_then o (ordering_then (nat_cmp n n) (nat_cmp m k)))) (tied_itself nat_cmp_total (n + 1 + 0))
    ∙ ap (λ o. is_lt (ordering_then o (nat_cmp m k))) (tied_itself nat_cmp_total n)
    ∙ ap is_lt (less_first m k lt)

earlier_ones : (n to : ℕ) (waits : List WaitingCopy) → AllByRecursion (IsReady n) waits → AllByRecursion (λ d. before d (fresh n to) ≡ true) waits
earlier_ones n to [] all = tt
earlier_ones n to (d ∷ waits) all = (waits_before n to d all.0.ready, earlier_ones n to waits all.1)

later_ones : (n m : ℕ) (ms : List ℕ) → AllByRecursion (λ k. m < k) ms → AllByRecursion (λ d. before d (fresh n m) ≡ false) (map (fresh n) ms)
later_ones n m [] all = tt
later_ones n m (k ∷ ms) all = (not_behind (fresh n m) (fresh n k) (lower_before n m k all.0), later_ones n m ms all.1)

-- a copy goes behind what goes before it
put_between : (c : WaitingCopy) (waits rest : List WaitingCopy) → AllByRecursion (λ d. before d c ≡ true) waits
    → AllByRecursion (λ d. before d c ≡ false) rest → put_copy c (waits ++ rest) ≡ waits ++ c ∷ rest
put_between c [] rest all later = put_first c rest later
put_between c (d ∷ waits) rest all later =
    ap (λ b. cond b (d ∷ put_copy c (waits ++ rest)) (c ∷ d ∷ (waits ++ rest))) all.0
    ∙ ap (λ cs. d ∷ cs) (put_between c waits rest all.1 later)

put_last : (n : ℕ) (waits : List WaitingCopy) (ms : List ℕ) → AllByRecursion (IsReady n) waits → Rise ms
    → put_copies (map (fresh n) ms) waits ≡ waits ++ map (fresh n) ms
put_last n waits [] ready rise = sym (append-nil waits)
put_last n waits (m ∷ ms) ready rise =
    ap (put_copy (fresh n m)) (put_last n waits ms ready rise.1)
    ∙ put_between (fresh n m) waits (map (fresh n) ms) (earlier_ones n m waits ready) (later_ones n m ms rise.0)

-- ---- an offer

all_append : (P : WaitingCopy → Type 0) (xs ys : List WaitingCopy) → AllByRecursion P xs → AllByRecursion P ys → AllByRecursion P (xs ++ ys)
all_append P [] ys all rest = rest
all_append P (x ∷ xs) ys all rest = (all.0, all_append P xs ys all.1 rest)

still_ready : (n : ℕ) (waits : List WaitingCopy) → AllByRecursion (IsReady n) waits → AllByRecursion (IsReady (n + 1)) waits
still_ready n [] all = tt
still_ready n (c ∷ waits) all =
    (record { inside = omega (arith, all.0.inside); ready = omega (arith, all.0.ready) }, still_ready n waits all.1)

fresh_ready : (n : ℕ) (ms : List ℕ) → AllByRecursion (IsReady (n + 1)) (map (fresh n) ms)
fresh_ready n [] = tt
fresh_ready n (m ∷ ms) = (record { inside = omega arith; ready = omega arith }, fresh_ready n ms)

still_of : (offered : List (ℕ × List ℕ)) (o : ℕ × List ℕ) (waits : List WaitingCopy) → AllByRecursion (IsReady (length offered)) waits
    → map (copy_of (offered ++ o ∷ [])) waits ≡ map (copy_of offered) waits
still_of offered o [] all = refl
still_of offered o (c ∷ waits) all =
    ap (λ (x : ℕ × List ℕ). (c.to, x.1) ∷ map (copy_of (offered ++ o ∷ [])) waits) (offer_at-before offered o c.offer all.0.inside)
    ∙ ap (λ rest. copy_of offered c ∷ rest) (still_of offered o waits all.1)

fresh_of : (offered : List (ℕ × List ℕ)) (o : ℕ × List ℕ) (ms : List ℕ)
    → map (copy_of (offered ++ o ∷ [])) (map (fresh (length offered)) ms) ≡ map (λ to. (to, o.1)) ms
fresh_of offered o [] = refl
fresh_of offered o (m ∷ ms) =
    ap (λ (x : ℕ × List ℕ). (m, x.1) ∷ map (copy_of (offered ++ o ∷ [])) (map (fresh (length offered)) ms)) (offer_at-last offered o)
    ∙ ap (λ rest. (m, o.1) ∷ rest) (fresh_of offered o ms)

copies_more : (members : List ℕ) (offered : List (ℕ × List ℕ)) (o : ℕ × List ℕ)
    → copies_in members (offered ++ o ∷ []) ≡ copies_in members offered ++ copies_for members o
copies_more members offered o =
    flat_map-append (copies_for members) offered (o ∷ []) ∙ ap (λ cs. copies_in members offered ++ cs) (append-nil (copies_for members o))

-- what waits after an offer
waits_on : (s : NetworkState) (from : ℕ) (bytes : List ℕ) → KeepsCopies s
    → (direct_offer s from bytes).waiting ≡ s.waiting ++ map (fresh (length s.offered)) (others from s.members)
waits_on s from bytes k =
    ap (λ cs. put_copies cs s.waiting) (planned (length s.offered) from s.members)
    ∙ put_last (length s.offered) s.waiting (others from s.members) k.ready
    (rise_filtered (λ m. not (m == from)) s.members (subst Rise (sym k.members) (members_rise s.starts)))

ready_on : (s : NetworkState) (o : ℕ × List ℕ) (ms : List ℕ) → AllByRecursion (IsReady (length s.offered)) s.waiting
    → AllByRecursion (IsReady (length (s.offered ++ o ∷ []))) (s.waiting ++ map (fresh (length s.offered)) ms)
ready_on s o ms ready =
    subst (λ n. AllByRecursion (IsReady n) (s.waiting ++ map (fresh (length s.offered)) ms)) (sym (length-append s.offered (o ∷ [])))
    (all_append (IsReady (length s.offered + 1)) s.waiting (map (fresh (length s.offered)) ms) (still_ready (length s.offered) s.waiting ready)
    (fresh_ready (length s.offered) ms))

whole_on : (s : NetworkState) (from : ℕ) (bytes : List ℕ) → KeepsCopies s
    → taken_of s.answers ++ map (copy_of (s.offered ++ (from, bytes) ∷ [])) (s.waiting ++ map (fresh (length s.offered)) (others from s.members))
    ≡ copies_in s.members (s.offered ++ (from, bytes) ∷ [])
whole_on s from bytes k =
    let taken = taken_of s.answers in
    let o : ℕ × List ℕ = (from, bytes) in
    let ms = others from s.members in
    let new = map (fresh (length s.offered)) ms in
    ap (λ cs. taken ++ cs) (map-append (copy_of (s.offered ++ o ∷ [])) s.waiting new)
    ∙ ap (λ cs. taken ++ (cs ++ map (copy_of (s.offered ++ o ∷ [])) new)) (still_of s.offered o s.waiting k.ready)
    ∙ ap (λ cs. taken ++ (map (copy_of s.offered) s.waiting ++ cs)) (fresh_of s.offered o ms)
    ∙ sym (append_assoc taken (map (copy_of s.offered) s.waiting) (copies_for s.members o))
    ∙ ap (λ cs. cs ++ copies_for s.members o) k.whole
    ∙ sym (copies_more s.members s.offered o)

pub keeps_offered : (s : NetworkState) (from : ℕ) (bytes : List ℕ) → KeepsCopies s → KeepsCopies (direct_offer s from bytes)
keeps_offered s from bytes k =
    let o : ℕ × List ℕ = (from, bytes) in
    let waits = waits_on s from bytes k in
    record {
      members = k.members;
      ready = subst (λ cs. AllByRecursion (IsReady (length (s.offered ++ o ∷ []))) cs) (sym waits) (ready_on s o (others from s.members) k.ready);
      whole = ap (λ cs. taken_of s.answers ++ map (copy_of (s.offered ++ o ∷ [])) cs) waits ∙ whole_on s from bytes k;
    }

-- ---- a start

pub keeps_unstarted : KeepsCopies unstarted
keeps_unstarted = record { members = refl; ready = tt; whole = refl }

pub keeps_started : (s : NetworkState) (profile : Settings) (local : Local) → KeepsCopies (started s profile local)
keeps_started s profile local = record { members = sym (members_last s.starts (profile, local)); ready = tt; whole = refl }

-- ---- a take

is_ready : (a b : ℕ) → a ≤ b → nat_le a b ≡ true
is_ready a b le = grind arith

left_ready : (n : ℕ) (waits : List WaitingCopy) → AllByRecursion (IsReady n) waits → AllByRecursion (IsReady n) (without_ready n waits)
left_ready n [] all = tt
left_ready n (c ∷ waits) all = elim (nat_le c.ready n) as (λ b. AllByRecursion (IsReady n) (cond b waits (c ∷ waits))) [ true ↦ all.1 | false ↦ all ]

-- what is taken stood first of what waited
taken_on : (offered : List (ℕ × List ℕ)) (answers : List (Option (ℕ × List ℕ))) (waits : List WaitingCopy) → AllByRecursion (IsReady (length offered)) waits
    → taken_of (answers ++ answered offered (ready_copy (length offered) waits) ∷ []) ++ map (copy_of offered) (without_ready (length offered) waits)
    ≡ taken_of answers ++ map (copy_of offered) waits
taken_on offered answers [] all =
    ap (λ cs. cs ++ []) (filter_map-append (λ answer. answer) answers (None ∷ []) ∙ append-nil (taken_of answers))
taken_on offered answers (c ∷ waits) all =
    ap (λ b. taken_of (answers ++ answered offered (cond b (Some c) None) ∷ []) ++ map (copy_of offered) (cond b waits (c ∷ waits)))
    (is_ready c.ready (length offered) all.0.ready)
    ∙ ap (λ cs. cs ++ map (copy_of offered) waits) (filter_map-append (λ answer. answer) answers (Some (copy_of offered c) ∷ []))
    ∙ append_assoc (taken_of answers) (copy_of offered c ∷ []) (map (copy_of offered) waits)

pub keeps_taken : (s : NetworkState) → KeepsCopies s → KeepsCopies (after_take s)
keeps_taken s k = record {
  members = k.members;
  ready = left_ready (length s.offered) s.waiting k.ready;
  whole = taken_on s.offered s.answers s.waiting k.ready ∙ k.whole;
}

-- ---- what a take answers

first_ready : (offered : List (ℕ × List ℕ)) (waits : List WaitingCopy) → AllByRecursion (IsReady (length offered)) waits
    → answered offered (ready_copy (length offered) waits) ≡ first_of (map (copy_of offered) waits)
first_ready offered [] all = refl
first_ready offered (c ∷ waits) all = ap (λ b. answered offered (cond b (Some c) None)) (is_ready c.ready (length offered) all.0.ready)

-- behind these comes the first of the rest
at_seam : {X : Type 0} (xs ys : List X) → slice_get (xs ++ ys) (length xs) ≡ first_of ys
at_seam [] [] = refl
at_seam [] (y ∷ ys) = refl
at_seam (x ∷ xs) ys = at_seam xs ys

pub gives_directly : (s : NetworkState) (answer : Option (ℕ × List ℕ)) → KeepsCopies s → answer ≡ next_answer s
    → IsDirectAnswer (direct_told s) answer
gives_directly s answer k is = λ told.
    is
    ∙ first_ready s.offered s.waiting k.ready
    ∙ sym (at_seam (taken_of s.answers) (map (copy_of s.offered) s.waiting))
    ∙ ap (λ cs. slice_get cs (length (taken_of s.answers))) k.whole
    ∙ ap (λ ms. next_copy ms s.offered (length (taken_of s.answers))) k.members
