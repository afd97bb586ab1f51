-- The parts of a turn: of its receivers, and its takes.
use Rattle.std.proofs.Common.{◌≡◌, ℕ, suc, ◌+◌, ◌<◌, ◌≤◌, List, ◌∷◌, length, drop, Bool, true, false, refl, sym, ap, ◌∙◌, subst, arith}
use Rattle.std.specs.Prelude.{◌==◌, ◌&&◌, nat_lt, nat_le, Result, Ok, Err, OnOk, IfErr}
use Rattle.std.proofs.lemmas.Bool.Decides.{Decides-ltb}
use Rattle.std.proofs.lemmas.List.{drop_all}
use Rattle.std.proofs.Math.Seq.{drop-cons}
use Rattle.norm_base.proofs.MemberLemmas.{member_laws}
use Rattle.norm_base.specs.Members.{receivers_of, is_receiver}
use Rattle.norm_base.specs.Network.{Network}
use Rattle.norm_base.specs.Settings.{Settings}
use Rattle.norm_base.specs.Told.{Pieces}
use Rattle.norm_base.specs.declared.kinds.Sent.{Sent}
use Rattle.norm_base.specs.declared.kinds.Sent.TheVariants as sent
use Rattle.norm_journal.specs.Places.{Place, Handing, Between, Taking, Offering, handing}
use Rattle.norm_journal.specs.Takes.{most_takes}
use Rattle.norm_world.proofs.ReceiverEvents.{not_same}
use Rattle.norm_turns.specs.Causes.{Counted, HasCause, counts_after}
use Rattle.norm_session.specs.Context.{Context}
use Rattle.norm_session.specs.RunKept.{RunKept, nodes_in}
use Rattle.norm_session.specs.SoFar.{At, IsTelling, HasTaken, hands_next, takes_next, after_sent}
use Rattle.norm_turns.specs.declared.fault.SessionFault.{SessionFault}
use Rattle.norm_turns.specs.declared.fault.SessionFault.TheVariants as fault

-- ---- the receivers in their order

is_among : (p : Settings) (i node : ℕ) → i < p.receivers → node ≡ p.sender + 1 + i → is_receiver p node ≡ true
is_among p i node lt is =
    both (nat_lt p.sender node) (nat_le node (p.sender + p.receivers)) ((Decides-ltb p.sender node).1 (omega (arith, is)))
    (le_true node (p.sender + p.receivers) (omega (arith, is, lt)))
  where
    both : (a b : Bool) → a ≡ true → b ≡ true → (a && b) ≡ true
    both true true ea eb = refl
    both true false ea eb = eb
    both false b ea eb = ea

    le_true : (a b : ℕ) → a ≤ b → nat_le a b ≡ true
    le_true a b le = grind (arith, le)

next_part : (p : Settings) (nodes : List ℕ) (i node : ℕ) → nodes ≡ receivers_of p p.receivers → i < p.receivers → node ≡ p.sender + 1 + i
    → drop i nodes ≡ node ∷ drop (i + 1) nodes
next_part p nodes i node all lt is =
    let many = member_laws.count p p.receivers in
    let one_more : suc i ≡ i + 1 = omega arith in
    ap (drop i) all ∙ drop-cons (receivers_of p p.receivers) i 0 (omega (arith, many, lt))
    ∙ ap (λ n. n ∷ drop (suc i) (receivers_of p p.receivers)) (member_laws.each p p.receivers i 0 lt ∙ sym is)
    ∙ ap (λ n. node ∷ drop n (receivers_of p p.receivers)) one_more ∙ ap (λ ns. node ∷ drop (i + 1) ns) (sym all)

-- a run and how it began are under one profile
one_profile : (x : Context) (old k : RunKept) (before now : Place) (n m : Network) (unwritten written : Pieces) → At x old before n unwritten
    → At x k now m written → old.p ≡ k.p
one_profile x old k before now n m unwritten written there here = there.so_far.all.script ∙ sym here.so_far.all.script

-- where the sender is alone, no receiver has a part
pub none_served : (x : Context) (k : RunKept) (network : Network) (written : Pieces) → k.alone ≡ true → At x k (handing x.nodes) network written
    → At x k Between network written
none_served x k network written alone here =
    subst (λ (place : Place). At x k place network written) (ap handing (here.so_far.all.receivers ∙ ap (λ b. nodes_in b k.p) alone)) here

-- else a run has all receivers of its profile
has_all_of_them : (x : Context) (k : RunKept) (p : Settings) (place : Place) (network : Network) (written : Pieces) → p ≡ k.p → k.alone ≡ false
    → At x k place network written → x.nodes ≡ receivers_of p p.receivers
has_all_of_them x k p place network written under present here =
    here.so_far.all.receivers ∙ ap (λ b. nodes_in b k.p) present ∙ ap (λ (q : Settings). receivers_of q q.receivers) (sym under)

-- the next receiver has its part
pub record IsNext (x : Context) (k : RunKept) (node i : ℕ) (network : Network) (written : Pieces) : Type 0 where
  pub receiver : is_receiver k.p node ≡ true
  pub here : At x k (Handing node (drop (i + 1) x.nodes)) network written

pub next_served : (x : Context) (old k : RunKept) (p : Settings) (i node : ℕ) (before : Place) (n m : Network) (unwritten written : Pieces) → p ≡ old.p
    → old.alone ≡ false → i < p.receivers → node ≡ p.sender + 1 + i → At x old before n unwritten → At x k (handing (drop i x.nodes)) m written
    → IsNext x k node i m written
next_served x old k p i node before n m unwritten written under present lt is there here =
    let same : p ≡ k.p = under ∙ one_profile x old k before (handing (drop i x.nodes)) n m unwritten written there here in
    let all = has_all_of_them x old p before n unwritten under present there in
    record {
      receiver = subst (λ (q : Settings). is_receiver q node ≡ true) same (is_among p i node lt is);
      here = subst (λ (place : Place). At x k place m written) (ap handing (next_part p x.nodes i node all lt is)) here;
    }

-- all receivers had theirs
pub all_served : (x : Context) (old k : RunKept) (p : Settings) (i : ℕ) (before : Place) (n m : Network) (unwritten written : Pieces) → p ≡ old.p
    → old.alone ≡ false → p.receivers ≤ i → At x old before n unwritten → At x k (handing (drop i x.nodes)) m written → At x k Between m written
all_served x old k p i before n m unwritten written under present past there here =
    let all = has_all_of_them x old p before n unwritten under present there in
    let many = ap length all ∙ member_laws.count p p.receivers in
    subst (λ (place : Place). At x k place m written) (ap handing (drop_all i x.nodes (omega (arith, many, past)))) here

-- ---- takes

-- after so many takes of a turn
abbrev pub takes_from : Context → ℕ → Place
takes_from x count = elim (count == most_takes) [ true ↦ hands_next x | false ↦ Taking count ]

-- fewer than a turn takes
pub takes_more : (x : Context) (k : RunKept) (count : ℕ) (network : Network) (written : Pieces) → count < 512 → At x k (takes_from x count) network written
    → At x k (Taking count) network written
takes_more x k count network written lt here =
    subst (λ b. At x k (elim b [ true ↦ hands_next x | false ↦ Taking count ]) network written) (not_same count most_takes (λ is. omega (arith, lt, is))) here

-- what a take gave
pub took_one : (took : Bool) (x : Context) (k : RunKept) (count : ℕ) (network : Network) (written : Pieces) → took ≡ true
    → HasTaken took x k count network written → IsTelling x k (takes_next x count) network written
took_one took x k count network written is h = subst (λ b. HasTaken b x k count network written) is h

-- ---- causes

-- a fault behind calls that went well
pub cause_fault : {T : Type 0} (r : Result T SessionFault) (y failed : SessionFault) (before mid now : Counted) → r ≡ Err y → y ≡ failed → mid ≡ before
    → now ≡ counts_after failed mid → HasCause r before now
cause_fault r y failed before mid now is same still h =
    subst (λ s. HasCause s before now) (sym is)
    (subst (λ f. now ≡ counts_after f before) (sym same) (subst (λ (c : Counted). now ≡ counts_after failed c) still h))

-- want of memory is no call's fault
pub cause_memory : {T : Type 0} (r : Result T SessionFault) (y failed : SessionFault) (before now : Counted) → r ≡ Err y → y ≡ failed → failed ≡ fault.Memory
    → now ≡ before → HasCause r before now
cause_memory r y failed before now is same memory still =
    subst (λ s. HasCause s before now) (sym is) (subst (λ f. now ≡ counts_after f before) (sym (same ∙ memory)) still)

-- the cause of the last call is that of all, where those before it went well
pub cause_of_last : {T : Type 0} (r : Result T SessionFault) (before mid now : Counted) → mid ≡ before → HasCause r mid now → HasCause r before now
cause_of_last r before mid now still h = subst (λ (c : Counted). HasCause r c now) still h

-- ---- clauses of a last call

pub last_goes : {T P Q : Type 0} (r : Result T SessionFault) → OnOk r P → (P → Q) → OnOk r Q
last_goes (Ok t) h f = f h
last_goes (Err e) h f = h

pub last_stops : {T : Type 0} {P Q : SessionFault → Type 0} (r : Result T SessionFault) → IfErr r P → ((e : SessionFault) → P e → Q e) → IfErr r Q
last_stops (Ok t) h f = h
last_stops (Err e) h f = f e h

-- what a tick gave, by what it said
pub sent_none : (x : Context) (k : RunKept) (node : ℕ) (said : Sent) (out : List ℕ) (next : Place) (network : Network) (written : Pieces) → said ≡ sent.Nothing
    → At x k (after_sent node said out next) network written → At x k next network written
sent_none x k node said out next network written is h = subst (λ (s : Sent). At x k (after_sent node s out next) network written) is h

pub sent_one : (x : Context) (k : RunKept) (node : ℕ) (said : Sent) (out octets : List ℕ) (next : Place) (network : Network) (written : Pieces)
    → said ≡ sent.Datagram → octets ≡ out → At x k (after_sent node said out next) network written → At x k (Offering node octets next) network written
sent_one x k node said out octets next network written is same h =
    subst (λ (o : List ℕ). At x k (Offering node o next) network written) (sym same)
    (subst (λ (s : Sent). At x k (after_sent node s out next) network written) is h)
