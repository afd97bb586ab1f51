-- What is kept at each place of a turn over a direct network, and what each step of a node leaves of it: whoever did not hear the sender's last
-- datagram is to take its copy.
use Rattle.std.proofs.Common.{◌≡◌, ℕ, zero, suc, ◌+◌, ◌<◌, ◌≤◌, List, [], ◌∷◌, ◌++◌, length, map, Bool, true, false, cond, Option, None, Some, Ok, refl, sym, ap, subst, ◌∙◌, arith, inl, inr, append-nil, append_assoc}
use Rattle.std.specs.Prelude.{◌==◌, ◌&&◌, ◌||◌, ◌⊎◌, not, find, filter, slice_get, Contains, Result}
use Rattle.std.specs.List.{list_any, list_all, AllByRecursion}
use Rattle.std.proofs.lemmas.Bool.Decides.{Decides-eqb}
use Rattle.std.proofs.lemmas.List.{map-append}
use Rattle.std.proofs.lemmas.List.Elements.{Contains-push}
use Rattle.std.proofs.lemmas.Option.{none-some, same_Some}
use Rattle.norm_base.specs.Copies.{copies_for, copies_in}
use Rattle.norm_base.specs.Members.{members_of, receivers_of}
use Rattle.norm_base.specs.Settings.{Settings, InRange}
use Rattle.norm_base.specs.declared.node.Origin.{Origin}
use Rattle.norm_ext.specs.Reading.{decoded}
use Rattle.norm_ext.specs.Written.{Written}
use Rattle.norm_receive_rules.specs.Holding.{Holding}
use Rattle.norm_receive_rules.specs.ReceiverState.{ReceiverState}
use Rattle.norm_receive_rules.specs.ReceiverStep as receiver
use Rattle.norm_order.specs.declared.up.Up.{Up}
use Rattle.norm_receive_rules.specs.Taking.{took}
use Rattle.norm_receive_rules.specs.Ticking.{ticked as receiver_ticked}
use Rattle.norm_send_rules.specs.SenderStep as sender
use Rattle.norm_send_rules.specs.Ticking.{ticked as sender_ticked}
use Rattle.norm_safety.specs.Events.{Ticked, Offered, UpTaken, Answer, Gave, Sent as Gives, Took, Told, Silent}
use Rattle.norm_safety.specs.History.{Happening}
use Rattle.norm_safety.specs.Lawful.{all_taken, AllTaken}
use Rattle.norm_safety.specs.World.{World, receiver_at, with_receiver, with_given, given_others, same_octets, is_of, offers}
use Rattle.norm_safety.specs.WorldLaws.{nodes_of}
use Rattle.norm_safety.specs.WorldStep.{world_step, moved, node_move, receiver_move, answered}
use Rattle.norm_safety.proofs.EntryLemmas.{clash}
use Rattle.norm_safety.proofs.FrontLemmas.{list_itself}
use Rattle.norm_safety.proofs.ReceiverMoves.{tick_same}
use Rattle.norm_safety.proofs.Spoken.{IsSpoken}
use Rattle.norm_safety.proofs.TickTrue.{SentTrue, tick_true}
use Rattle.norm_safety.proofs.WorldHolds.{WorldHolds}
use Rattle.norm_safety.proofs.WorldLemmas.{world_laws}
use Rattle.norm_laws.specs.HandedUp.{Passing, passing_after, has_heard, is_passed_on}
use Rattle.norm_journal.specs.Commands.{telling}
use Rattle.norm_journal.specs.Follows.{OfferedAndTold, OfferedAgain}
use Rattle.norm_journal.specs.Jobs.{job_of}
use Rattle.norm_journal.specs.Judged.{Judged}
use Rattle.norm_journal.specs.Laws.{octets_given}
use Rattle.norm_journal.specs.Places.{Place, Starting, Between, Pulling, Giving, Again, Sending, Offering, Taking, Handing, Over, handing, after_tick, command_due}
use Rattle.norm_journal.proofs.OfferLemmas.{told_at, repeated_at}
use Rattle.norm_script.specs.declared.script.Line.{Line}
use Rattle.norm_send_rules.specs.declared.fault.SendFault.{SendFault}
use Rattle.norm_send_rules.specs.declared.job.Job.{Job}
use Rattle.norm_send_rules.specs.declared.job.Receipt.{Receipt}
use Rattle.norm_recovery.proofs.DirectTakes.{copies, is_one, all_in, in_more}
use Rattle.norm_recovery.proofs.DirectComes.{both_true}

-- ---- what is kept

-- a node is to hear the sender's last datagram: that was offered, and its copy was not taken yet
pub record Awaits (p : Settings) (taken : ℕ) (w : World) (x : Passing) (node : ℕ) : Type 0 where
  pub datagram : Written
  pub last : x.last ≡ Some datagram
  pub read : decoded datagram.octets ≡ Ok datagram.message
  pub spoken : IsSpoken datagram.message
  pub offered : Contains w.offered (p.sender, datagram)
  pub place : ℕ
  pub later : taken ≤ place
  pub copy : slice_get (copies p w) place ≡ Some (node, datagram.octets)

-- a node heard it, or is to
abbrev pub Hears : Settings → ℕ → World → Passing → ℕ → Type 0
Hears p taken w x node = (has_heard x node ≡ true) ⊎ Awaits p taken w x node

-- the sender's last datagram is to be offered: its octets are found among what was given
pub record LastGiven (p : Settings) (w : World) (x : Passing) (node : ℕ) (octets : List ℕ) : Type 0 where
  pub own : node ≡ p.sender
  pub datagram : Written
  pub last : x.last ≡ Some datagram
  pub read : decoded datagram.octets ≡ Ok datagram.message
  pub spoken : IsSpoken datagram.message
  pub same : datagram.octets ≡ octets
  pub found : find (is_of node octets) w.given ≡ Some (p.sender, datagram)

-- a receiver's hand-ups were all taken, or it is one of those that are to tick in this turn
abbrev pub Rests : List ℕ → ReceiverState → Type 0
Rests waiting r = (is_one r.node waiting ≡ true) ⊎ (r.holding.ups ≡ [])

-- all heard it, and all hand-ups were taken of those that are not to tick in this turn
pub record Rested (p : Settings) (w : World) (x : Passing) (waiting : List ℕ) : Type 0 where
  pub heard : AllByRecursion (λ node. has_heard x node ≡ true) (receivers_of p p.receivers)
  pub taken : AllByRecursion (Rests waiting) w.receivers
  pub own : AllByRecursion (λ node. is_one node (receivers_of p p.receivers) ≡ true) waiting

-- what is kept at a place
abbrev pub AtPlace : Settings → ℕ → World → Passing → Place → Type 0
AtPlace p taken w x (Taking count) = AllByRecursion (Hears p taken w x) (receivers_of p p.receivers)
AtPlace p taken w x (Handing node nodes) = Rested p w x (node ∷ nodes)
AtPlace p taken w x (Offering node octets (Taking count)) = LastGiven p w x node octets
AtPlace p taken w x (Offering node octets (Handing other nodes)) = Rested p w x (other ∷ nodes)
AtPlace p taken w x (Offering node octets (Offering other datagram next)) = ⊥
AtPlace p taken w x (Offering node octets next) = Rested p w x []
AtPlace p taken w x _ = Rested p w x []

-- ---- what each event leaves

-- no answer changes receivers or what was offered
answered_receivers : (node : ℕ) (answer : Answer) (w : World) → (answered node answer w).0.receivers ≡ w.receivers
answered_receivers node (Gives None) w = refl
answered_receivers node (Gives (Some datagram)) w = refl
answered_receivers node (Gave result) w = refl
answered_receivers node (Took up) w = refl
answered_receivers node (Told news) w = refl
answered_receivers node Silent w = refl

-- each receiver as it is after that of a node became another one
put_each : (P Q : ReceiverState → Type 0) (t : ReceiverState) (rs : List ReceiverState) → Q t → ((x : ReceiverState) → (x.node == t.node) ≡ false → P x → Q x)
    → AllByRecursion P rs → AllByRecursion Q (map (λ (x : ReceiverState). elim (x.node == t.node) [ true ↦ t | false ↦ x ]) rs)
put_each P Q t [] own others all = tt
put_each P Q t (x ∷ rs) own others all = (go (x.node == t.node) refl, put_each P Q t rs own others all.1)
  where
    go : (b : Bool) → (x.node == t.node) ≡ b → Q (elim b [ true ↦ t | false ↦ x ])
    go true e = own
    go false e = others x e all.0

pub all_as : {X : Type 0} (P Q : X → Type 0) (xs : List X) → ((x : X) → P x → Q x) → AllByRecursion P xs → AllByRecursion Q xs
all_as P Q [] each all = tt
all_as P Q (x ∷ xs) each all = (each x all.0, all_as P Q xs each all.1)

differs : (a b : ℕ) → (a ≡ b → ⊥) → (a == b) ≡ false
differs a b h = go (a == b) refl
  where
    go : (t : Bool) → (a == b) ≡ t → t ≡ false
    go true e = absurd (h ((Decides-eqb a b).0 e))
    go false e = refl

apart : (a b : ℕ) → (a == b) ≡ false → a ≡ b → ⊥
apart a b e same = clash (sym e ∙ (Decides-eqb a b).1 same)

-- a receiver that is one of some nodes behind the first, and not the first, is one of the others
of_others : (n m : ℕ) (nodes : List ℕ) → (m == n) ≡ false → is_one m (n ∷ nodes) ≡ true → is_one m nodes ≡ true
of_others n m nodes e is = sym (ap (λ (b : Bool). b || is_one m nodes) (differs n m (λ same. apart m n e (sym same)))) ∙ is

-- no receiver is the sender
none_sends : (p : Settings) (n : ℕ) → AllByRecursion (λ (node : ℕ). p.sender < node) (receivers_of p n)
none_sends p zero = tt
none_sends p (suc n) = push (receivers_of p n) (p.sender + 1 + n) (none_sends p n) (omega arith)
  where
    push : (xs : List ℕ) (x : ℕ) → AllByRecursion (λ (node : ℕ). p.sender < node) xs → p.sender < x → AllByRecursion (λ (node : ℕ). p.sender < node) (xs ++ x ∷ [])
    push [] x all lt = (lt, tt)
    push (y ∷ xs) x all lt = (all.0, push xs x all.1 lt)

one_above : (s node : ℕ) (nodes : List ℕ) → AllByRecursion (λ (n : ℕ). s < n) nodes → is_one node nodes ≡ true → s < node
one_above s node [] all e = absurd (clash e)
one_above s node (n ∷ nodes) all e = go (n == node) refl e (λ more. one_above s node nodes all.1 more)
  where
    go : (b : Bool) → (n == node) ≡ b → (b || is_one node nodes) ≡ true → (is_one node nodes ≡ true → s < node) → s < node
    go true is e more = let lt = all.0 in let same = (Decides-eqb n node).0 is in omega (arith, lt, same)
    go false is e more = more e

pub no_sender : (p : Settings) (node : ℕ) → is_one node (receivers_of p p.receivers) ≡ true → (node == p.sender) ≡ false
no_sender p node is =
    let lt = one_above p.sender node (receivers_of p p.receivers) (none_sends p p.receivers) is in
    differs node p.sender (λ same. (let equal = same in omega (arith, lt, equal)))

-- a node that is not the sender's, with its receiver
abbrev other_step : Settings → World → ℕ → ℕ → Option ReceiverState → World
other_step p w node now found = (moved p w (receiver_move found (receiver.Ticked now))).0

pub tick_receivers : (p : Settings) (w : World) (node now : ℕ) (waiting : List ℕ) → (node == p.sender) ≡ false → AllTaken (receiver_at w node)
    → AllByRecursion (Rests (node ∷ waiting)) w.receivers → AllByRecursion (Rests waiting) (world_step p w (Ticked node now)).0.receivers
tick_receivers p w node now waiting other taken all =
    let R : Bool → Type 0 = λ own. AllByRecursion (Rests waiting) (moved p w (node_move own (receiver_at w node) (sender.Ticked now) (receiver.Ticked now))).0.receivers in
    subst R (sym other) (go (receiver_at w node) refl taken)
  where
    none_here : (rs : List ReceiverState) → find (λ (r : ReceiverState). r.node == node) rs ≡ None → AllByRecursion (Rests (node ∷ waiting)) rs → AllByRecursion (Rests waiting) rs
    none_here [] e all = tt
    none_here (x ∷ rs) e all = by (x.node == node) refl e (λ more. none_here rs more all.1)
      where
        by : (b : Bool) → (x.node == node) ≡ b → cond b (Some x) (find (λ (r : ReceiverState). r.node == node) rs) ≡ None
            → (find (λ (r : ReceiverState). r.node == node) rs ≡ None → AllByRecursion (Rests waiting) rs) → AllByRecursion (Rests waiting) (x ∷ rs)
        by true is e more = absurd (none-some x (sym e))
        by false is e more = (less is all.0, more e)
          where
            less : (x.node == node) ≡ false → Rests (node ∷ waiting) x → Rests waiting x
            less is (inl one) = inl (of_others node x.node waiting is one)
            less is (inr none) = inr none

    go : (found : Option ReceiverState) → receiver_at w node ≡ found → AllTaken found → AllByRecursion (Rests waiting) (other_step p w node now found).receivers
    go None at taken = none_here w.receivers at all
    go (Some r) at taken =
        let t : ReceiverState = (receiver_ticked p r now).0 in
        let own : t.node ≡ node = (tick_same p r now).node ∙ world_laws.found w node r at in
        let A : List ReceiverState → Type 0 = λ rs. AllByRecursion (Rests waiting) rs in
        subst A (sym (answered_receivers r.node (Gives (receiver_ticked p r now).1) (with_receiver t w)))
        (put_each (Rests (node ∷ waiting)) (Rests waiting) t w.receivers (inr (ap (λ (h : Holding). h.ups) (tick_same p r now).holding ∙ taken))
        (λ x e rests. less own x e rests) all)
      where
        less : {m : ℕ} → m ≡ node → (x : ReceiverState) → (x.node == m) ≡ false → Rests (node ∷ waiting) x → Rests waiting x
        less same x e (inl one) = inl (of_others node x.node waiting (differs x.node node (λ is. apart x.node _ e (is ∙ sym same))) one)
        less same x e (inr none) = inr none

-- a hand-up is taken of a receiver that is to tick
pub up_receivers : (p : Settings) (w : World) (node : ℕ) (waiting : List ℕ) → is_one node waiting ≡ true → AllByRecursion (Rests waiting) w.receivers
    → AllByRecursion (Rests waiting) (world_step p w (UpTaken node)).0.receivers
up_receivers p w node waiting is all = go (receiver_at w node) refl
  where
    go : (found : Option ReceiverState) → receiver_at w node ≡ found → AllByRecursion (Rests waiting) (moved p w (receiver_move found receiver.UpTaken)).0.receivers
    go None at = all
    go (Some r) at =
        put_each (Rests waiting) (Rests waiting) (took r).0 w.receivers
        (inl (subst (λ (n : ℕ). is_one n waiting ≡ true) (sym (world_laws.found w node r at)) is)) (λ x e rests. rests) all

-- where nothing waits all was passed on
pub rested_passed : (p : Settings) (w : World) (x : Passing) → nodes_of w ≡ receivers_of p p.receivers → Rested p w x [] → is_passed_on w x ≡ true
rested_passed p w x nodes h =
    go w.receivers (subst (λ (ns : List ℕ). AllByRecursion (λ node. has_heard x node ≡ true) ns) (sym nodes) h.heard) h.taken
  where
    taken : (ups : List Up) → ups ≡ [] → (elim ups as (λ _. Bool) [ [] ↦ true | up ∷ more ↦ false ]) ≡ true
    taken [] e = refl
    taken (up ∷ more) e = absurd (cons e)
      where
        cons : {a : Up} {rest : List Up} → a ∷ rest ≡ [] → ⊥
        cons e = cc

    none : (r : ReceiverState) → Rests [] r → r.holding.ups ≡ []
    none r (inl one) = absurd (clash one)
    none r (inr empty) = empty

    go : (rs : List ReceiverState) → AllByRecursion (λ node. has_heard x node ≡ true) (map (λ (r : ReceiverState). r.node) rs) → AllByRecursion (Rests []) rs
        → list_all (λ (r : ReceiverState). has_heard x r.node && all_taken (Some r)) rs ≡ true
    go [] heard rests = refl
    go (r ∷ rs) heard rests =
        both_true (has_heard x r.node && all_taken (Some r)) (list_all (λ (r : ReceiverState). has_heard x r.node && all_taken (Some r)) rs)
        (both_true (has_heard x r.node) (all_taken (Some r)) heard.0 (taken r.holding.ups (none r rests.0))) (go rs heard.1 rests.1)

-- ---- the sender's tick and its offer

pub sender_step : (p : Settings) (w : World) (node now : ℕ) → node ≡ p.sender → world_step p w (Ticked node now)
    ≡ (with_given p.sender (sender_ticked p w.sender now).1 (record w { sender = (sender_ticked p w.sender now).0 }), Gives (sender_ticked p w.sender now).1)
sender_step p w node now own =
    ap (λ (b : Bool). moved p w (node_move b (receiver_at w node) (sender.Ticked now) (receiver.Ticked now))) ((Decides-eqb node p.sender).1 own)

-- a datagram of a node
abbrev of_node : ℕ → Written → ℕ × Written
of_node node d = (node, d)

-- behind what others gave a node's datagram is found
pub found_last : (node : ℕ) (d : Written) (given : List (ℕ × Written))
    → find (is_of node d.octets) (filter (λ (g : ℕ × Written). not (g.0 == node)) given ++ of_node node d ∷ []) ≡ Some (of_node node d)
found_last node d [] = here (both_true (node == node) (same_octets d.octets d.octets) ((Decides-eqb node node).1 refl) (list_itself d.octets))
  where
    here : is_of node d.octets (of_node node d) ≡ true → cond (is_of node d.octets (of_node node d)) (Some (of_node node d)) None ≡ Some (of_node node d)
    here e = ap (λ (b : Bool). cond b (Some (of_node node d)) None) e
found_last node d (g ∷ given) = go (g.0 == node) refl (found_last node d given)
  where
    go : (b : Bool) → (g.0 == node) ≡ b
        → find (is_of node d.octets) (filter (λ (x : ℕ × Written). not (x.0 == node)) given ++ of_node node d ∷ []) ≡ Some (of_node node d)
        → find (is_of node d.octets) (cond (not b) (g ∷ filter (λ (x : ℕ × Written). not (x.0 == node)) given) (filter (λ (x : ℕ × Written). not (x.0 == node)) given)
        ++ of_node node d ∷ []) ≡ Some (of_node node d)
    go true e more = more
    go false e more =
        ap (λ (b : Bool). cond b (Some g) (find (is_of node d.octets) (filter (λ (x : ℕ × Written). not (x.0 == node)) given ++ of_node node d ∷ [])))
        (ap (λ (b : Bool). b && same_octets g.1.octets d.octets) e) ∙ more

-- after the sender's tick with which something was given or not
tick_of_sender : (p : Settings) (taken : ℕ) (w v : World) (node : ℕ) (sent : Option Written) → node ≡ p.sender → SentTrue p w.sender sent
    → AtPlace p taken (with_given p.sender sent v) (record { last = sent; heard = [] }) (after_tick node sent (Taking 0))
tick_of_sender p taken w v node None own says = each (receivers_of p p.receivers)
  where
    each : (nodes : List ℕ) → AllByRecursion (Hears p taken (with_given p.sender None v) (record { last = None; heard = [] })) nodes
    each [] = tt
    each (n ∷ nodes) = (inl refl, each nodes)
tick_of_sender p taken w v node (Some d) own says = record {
  own = own;
  datagram = d;
  last = refl;
  read = says.read;
  spoken = says.spoken;
  same = refl;
  found = subst (λ (n : ℕ). find (is_of n d.octets) (given_others p.sender v ++ (p.sender, d) ∷ []) ≡ Some (p.sender, d)) (sym own) (found_last p.sender d v.given);
}

pub sender_tick_at : (p : Settings) → InRange p → (past : List Happening) (accepted : List Origin) (w : World) (x : Passing) (node now taken : ℕ) (o : Option Written)
    → WorldHolds p past accepted w → node ≡ p.sender → (world_step p w (Ticked node now)).1 ≡ Gives o
    → AtPlace p taken (world_step p w (Ticked node now)).0 (passing_after p w x (Ticked node now) (world_step p w (Ticked node now)).1) (after_tick node o (Taking 0))
sender_tick_at p range past accepted w x node now taken o holds own gives =
    let sent : Option Written = (sender_ticked p w.sender now).1 in
    let v : World = record w { sender = (sender_ticked p w.sender now).0 } in
    let step = sender_step p w node now own in
    let same : sent ≡ o = given_same sent o (sym (ap (λ (s : World × Answer). s.1) step) ∙ gives) in
    let A : World × Answer → Type 0 = λ s. AtPlace p taken s.0 (passing_after p w x (Ticked node now) s.1) (after_tick node o (Taking 0)) in
    let B : Bool → Type 0 = λ b. AtPlace p taken (with_given p.sender sent v) (elim b [ true ↦ record { last = sent; heard = [] } | false ↦ x ]) (after_tick node o (Taking 0)) in
    let C : Option Written → Type 0 = λ given. AtPlace p taken (with_given p.sender sent v) (record { last = sent; heard = [] }) (after_tick node given (Taking 0)) in
    subst A (sym step) (subst B (sym ((Decides-eqb node p.sender).1 own))
    (subst C same (tick_of_sender p taken w v node sent own (tick_true p range w.sender now holds.sender holds.once.ids))))
  where
    given_same : (a b : Option Written) → ◌≡◌ {A = Answer} (Gives a) (Gives b) → a ≡ b
    given_same a b e = cc

pub copies_push : (members : List ℕ) (offered : List (ℕ × List ℕ)) (offer : ℕ × List ℕ) → copies_in members (offered ++ offer ∷ []) ≡ copies_in members offered ++ copies_for members offer
copies_push members [] offer = append-nil (copies_for members offer)
copies_push members (o ∷ offered) offer =
    ap (λ (xs : List (ℕ × List ℕ)). copies_for members o ++ xs) (copies_push members offered offer)
    ∙ sym (append_assoc (copies_for members o) (copies_in members offered) (copies_for members offer))

pub slice_behind : {X : Type 0} (xs ys : List X) (n k : ℕ) → n ≡ length xs + k → slice_get (xs ++ ys) n ≡ slice_get ys k
slice_behind [] ys n k e = ap (slice_get ys) (omega (arith, e))
slice_behind (x ∷ xs) ys zero k e = absurd (omega (arith, e))
slice_behind (x ∷ xs) ys (suc n) k e = slice_behind xs ys n k (omega (arith, e))

-- a copy for a node
abbrev pub copy_to : List ℕ → ℕ → ℕ × List ℕ
copy_to octets to = (to, octets)

-- among the copies of an offer is one for each other member
pub copy_for : (from node : ℕ) (octets : List ℕ) (members : List ℕ) → (node == from) ≡ false → is_one node members ≡ true
    → (k : ℕ) × (slice_get (map (copy_to octets) (filter (λ m. not (m == from)) members)) k ≡ Some (copy_to octets node))
copy_for from node octets [] other e = absurd (clash e)
copy_for from node octets (m ∷ members) other e = go (m == node) refl e (λ more. copy_for from node octets members other more)
  where
    Copy : List ℕ → Type 0
    Copy ms = (k : ℕ) × (slice_get (map (copy_to octets) ms) k ≡ Some (copy_to octets node))

    kept : (b : Bool) → Copy (filter (λ n. not (n == from)) members) → Copy (cond (not b) (m ∷ filter (λ n. not (n == from)) members) (filter (λ n. not (n == from)) members))
    kept true (k, is) = (k, is)
    kept false (k, is) = (suc k, is)

    go : (b : Bool) → (m == node) ≡ b → (b || is_one node members) ≡ true → (is_one node members ≡ true → Copy (filter (λ n. not (n == from)) members))
        → Copy (cond (not (m == from)) (m ∷ filter (λ n. not (n == from)) members) (filter (λ n. not (n == from)) members))
    go true same e more =
        let is : m ≡ node = (Decides-eqb m node).0 same in
        let keeps : (m == from) ≡ false = ap (λ (n : ℕ). n == from) is ∙ other in
        let K : Bool → Type 0 = λ b. Copy (cond (not b) (m ∷ filter (λ n. not (n == from)) members) (filter (λ n. not (n == from)) members)) in
        subst K (sym keeps) (0, ap (λ (n : ℕ). Some (copy_to octets n)) is)
    go false same e more = kept (m == from) (more e)

offer_at : (p : Settings) (taken count : ℕ) (w : World) (x : Passing) (node : ℕ) (octets : List ℕ) → taken ≤ length (copies p w) → LastGiven p w x node octets
    → AtPlace p taken (world_step p w (Offered node octets)).0 x (Taking count)
offer_at p taken count w x node octets some h =
    let d : Written = h.datagram in
    let g : ℕ × Written = (p.sender, d) in
    let v : World = offers (Some g) node w in
    let A : Option (ℕ × Written) → Type 0 = λ found. AtPlace p taken (offers found node w) x (Taking count) in
    let all : copies p v ≡ copies p w ++ copies_for (members_of p) (p.sender, d.octets) =
    ap (copies_in (members_of p)) (map-append octets_given w.offered (g ∷ []))
    ∙ copies_push (members_of p) (map octets_given w.offered) (p.sender, d.octets) in
    subst A (sym h.found) (each all (receivers_of p p.receivers) (all_in (receivers_of p p.receivers)))
  where
    one : copies p (offers (Some (p.sender, h.datagram)) node w) ≡ copies p w ++ copies_for (members_of p) (p.sender, h.datagram.octets) → (n : ℕ)
        → is_one n (receivers_of p p.receivers) ≡ true → Awaits p taken (offers (Some (p.sender, h.datagram)) node w) x n
    one all n is =
        let copy = copy_for p.sender n h.datagram.octets (members_of p) (no_sender p n is) (in_more n p.sender (receivers_of p p.receivers) is) in
        record {
          datagram = h.datagram;
          last = h.last;
          read = h.read;
          spoken = h.spoken;
          offered = Contains-push w.offered (p.sender, h.datagram);
          place = length (copies p w) + copy.0;
          later = omega (arith, some);
          copy = ap (λ (cs : List (ℕ × List ℕ)). slice_get cs (length (copies p w) + copy.0)) all
              ∙ slice_behind (copies p w) (copies_for (members_of p) (p.sender, h.datagram.octets)) (length (copies p w) + copy.0) copy.0 refl ∙ copy.1;
        }

    each : copies p (offers (Some (p.sender, h.datagram)) node w) ≡ copies p w ++ copies_for (members_of p) (p.sender, h.datagram.octets) → (nodes : List ℕ)
        → AllByRecursion (λ n. is_one n (receivers_of p p.receivers) ≡ true) nodes → AllByRecursion (Hears p taken (offers (Some (p.sender, h.datagram)) node w) x) nodes
    each all [] is = tt
    each all (n ∷ nodes) is = (inr (one all n is.0), each all nodes is.1)

-- ---- a take

abbrev pub heard_by : Passing → ℕ → Bool → Passing
heard_by x node is = elim is [ true ↦ record x { heard = node ∷ x.heard } | false ↦ x ]

pub last_by : (x : Passing) (node : ℕ) (b : Bool) → (heard_by x node b).last ≡ x.last
last_by x node true = refl
last_by x node false = refl

pub heard_more : (x : Passing) (to node : ℕ) (b : Bool) → has_heard x node ≡ true → has_heard (heard_by x to b) node ≡ true
heard_more x to node false e = e
heard_more x to node true e = go x.last e
  where
    either : (a b : Bool) → b ≡ true → (a || b) ≡ true
    either true b e = refl
    either false b e = e

    go : (last : Option Written) → (elim last as (λ _. Bool) [ Some datagram ↦ list_any (λ n. n == node) x.heard | None ↦ true ]) ≡ true
        → (elim last as (λ _. Bool) [ Some datagram ↦ (to == node) || list_any (λ n. n == node) x.heard | None ↦ true ]) ≡ true
    go None e = refl
    go (Some datagram) e = either (to == node) (list_any (λ n. n == node) x.heard) e

pub heard_own : (x : Passing) (node : ℕ) → has_heard (heard_by x node true) node ≡ true
heard_own x node = go x.last
  where
    go : (last : Option Written) → (elim last as (λ _. Bool) [ Some datagram ↦ (node == node) || list_any (λ n. n == node) x.heard | None ↦ true ]) ≡ true
    go None = refl
    go (Some datagram) = ap (λ (b : Bool). b || list_any (λ n. n == node) x.heard) ((Decides-eqb node node).1 refl)

-- a copy that is awaited is the one that was taken, or is awaited still
still_awaits : (p : Settings) (taken : ℕ) (w v : World) (x y : Passing) (node : ℕ) → v.offered ≡ w.offered → y.last ≡ x.last → (a : Awaits p taken w x node) → (taken ≡ a.place → ⊥)
    → Awaits p (taken + 1) v y node
still_awaits p taken w v x y node same last a differ = record {
  datagram = a.datagram;
  last = last ∙ a.last;
  read = a.read;
  spoken = a.spoken;
  offered = subst (λ (os : List (ℕ × Written)). Contains os (p.sender, a.datagram)) (sym same) a.offered;
  place = a.place;
  later = (let le = a.later in omega (arith, le, differ));
  copy = ap (λ (os : List (ℕ × Written)). slice_get (copies_in (members_of p) (map octets_given os)) a.place) same ∙ a.copy;
}

-- who hears or waits after a take, where the copy's own node heard it
pub take_hears : (p : Settings) (taken : ℕ) (w v : World) (x y : Passing) (to : ℕ) (octets : List ℕ) → slice_get (copies p w) taken ≡ Some (to, octets) → v.offered ≡ w.offered → y.last ≡ x.last
    → ((node : ℕ) → has_heard x node ≡ true → has_heard y node ≡ true)
    → ((a : Awaits p taken w x to) → is_one to (receivers_of p p.receivers) ≡ true → a.datagram.octets ≡ octets → has_heard y to ≡ true)
    → AllByRecursion (Hears p taken w x) (receivers_of p p.receivers) → AllByRecursion (Hears p (taken + 1) v y) (receivers_of p p.receivers)
take_hears p taken w v x y to octets due same last more own all = each (receivers_of p p.receivers) (all_in (receivers_of p p.receivers)) all
  where
    taken_one : (node : ℕ) (a : Awaits p taken w x node) → taken ≡ a.place → (node ≡ to) × (a.datagram.octets ≡ octets)
    taken_one node a is =
        let own : ℕ × List ℕ = (node, a.datagram.octets) in
        let its : ℕ × List ℕ = (to, octets) in
        pair_of (same_Some own its (sym a.copy ∙ ap (slice_get (copies p w)) (sym is) ∙ due))
      where
        pair_of : {m n : ℕ} {xs ys : List ℕ} → ◌≡◌ {A = ℕ × List ℕ} (m, xs) (n, ys) → (m ≡ n) × (xs ≡ ys)
        pair_of e = (ap (λ (q : ℕ × List ℕ). q.0) e, ap (λ (q : ℕ × List ℕ). q.1) e)

    now : (node : ℕ) → is_one node (receivers_of p p.receivers) ≡ true → (a : Awaits p taken w x node) → (b : Bool) → (taken == a.place) ≡ b → Hears p (taken + 1) v y node
    now node is a false e = inr (still_awaits p taken w v x y node same last a (apart taken a.place e))
    now node is a true e =
        let two = taken_one node a ((Decides-eqb taken a.place).0 e) in
        let H : ℕ → Type 0 = λ n. (b : Awaits p taken w x n) → is_one n (receivers_of p p.receivers) ≡ true → b.datagram.octets ≡ octets → has_heard y n ≡ true in
        inl (subst H (sym two.0) own a is two.1)

    one : (node : ℕ) → is_one node (receivers_of p p.receivers) ≡ true → Hears p taken w x node → Hears p (taken + 1) v y node
    one node is (inl heard) = inl (more node heard)
    one node is (inr a) = now node is a (taken == a.place) refl

    each : (nodes : List ℕ) → AllByRecursion (λ n. is_one n (receivers_of p p.receivers) ≡ true) nodes → AllByRecursion (Hears p taken w x) nodes → AllByRecursion (Hears p (taken + 1) v y) nodes
    each [] is all = tt
    each (n ∷ nodes) is all = (one n is.0 all.0, each nodes is.1 all.1)

-- ---- places

pub rested_still : (p : Settings) (w v : World) (x : Passing) (waiting : List ℕ) → v.receivers ≡ w.receivers → Rested p w x waiting → Rested p v x waiting
rested_still p w v x waiting same h = record {
  heard = h.heard;
  taken = subst (λ (rs : List ReceiverState). AllByRecursion (Rests waiting) rs) (sym same) h.taken;
  own = h.own;
}

pub at_handing : (p : Settings) (taken : ℕ) (w : World) (x : Passing) (nodes : List ℕ) → Rested p w x nodes → AtPlace p taken w x (handing nodes)
at_handing p taken w x [] h = h
at_handing p taken w x (node ∷ nodes) h = h

at_offering : (p : Settings) (taken : ℕ) (w : World) (x : Passing) (node : ℕ) (octets : List ℕ) (nodes : List ℕ) → Rested p w x nodes
    → AtPlace p taken w x (Offering node octets (handing nodes))
at_offering p taken w x node octets [] h = h
at_offering p taken w x node octets (other ∷ nodes) h = h

pub after_ticks : (p : Settings) (taken : ℕ) (w : World) (x : Passing) (node : ℕ) (o : Option Written) (nodes : List ℕ) → Rested p w x nodes
    → AtPlace p taken w x (after_tick node o (handing nodes))
after_ticks p taken w x node None nodes h = at_handing p taken w x nodes h
after_ticks p taken w x node (Some d) nodes h = at_offering p taken w x node d.octets nodes h

pub at_due : (p : Settings) (taken : ℕ) (w : World) (x : Passing) (waiting : Option Line) (lines : List Line) → Rested p w x [] → AtPlace p taken w x (command_due waiting lines)
at_due p taken w x (Some line) lines h = h
at_due p taken w x None [] h = h
at_due p taken w x None (line ∷ lines) h = h

-- where a command is offered nothing waits
pub told_rested : (p : Settings) (taken : ℕ) (w : World) (x : Passing) (place : Place) (line : Line) → telling place ≡ Some line → AtPlace p taken w x place → Rested p w x []
told_rested p taken w x place line e h = go (told_at place line e)
  where
    A : Place → Type 0
    A q = AtPlace p taken w x q

    go : (place ≡ Giving line) ⊎ ((place ≡ Again line) × (job_of line.verb ≡ None)) → Rested p w x []
    go (inl is) = subst A is h
    go (inr is) = subst A is.0 h

pub job_rested : (p : Settings) (taken : ℕ) (x : Passing) (j : Judged) (line : Line) (told : Option Job) (job : Job) (gave : Result Receipt SendFault)
    → OfferedAndTold j line told job gave ⊎ OfferedAgain j line told job → AtPlace p taken j.world x j.place → Rested p j.world x []
job_rested p taken x j line told job gave (inl due) h = told_rested p taken j.world x j.place line due.place h
job_rested p taken x j line told job gave (inr due) h =
    let A : Place → Type 0 = λ q. AtPlace p taken j.world x q in subst A (repeated_at j.place line job due.place).0 h

-- an event that changes the sender alone leaves all, wherever it comes
pub at_still : (p : Settings) (taken : ℕ) (w v : World) (x : Passing) (place : Place) → v.receivers ≡ w.receivers → v.given ≡ w.given → v.offered ≡ w.offered
    → AtPlace p taken w x place → AtPlace p taken v x place
at_still p taken w v x (Taking count) receivers given offered h = go (receivers_of p p.receivers) h
  where
    one : (node : ℕ) → Hears p taken w x node → Hears p taken v x node
    one node (inl heard) = inl heard
    one node (inr a) = inr (record {
      datagram = a.datagram;
      last = a.last;
      read = a.read;
      spoken = a.spoken;
      offered = subst (λ (os : List (ℕ × Written)). Contains os (p.sender, a.datagram)) (sym offered) a.offered;
      place = a.place;
      later = a.later;
      copy = ap (λ (os : List (ℕ × Written)). slice_get (copies_in (members_of p) (map octets_given os)) a.place) offered ∙ a.copy;
    })

    go : (nodes : List ℕ) → AllByRecursion (Hears p taken w x) nodes → AllByRecursion (Hears p taken v x) nodes
    go nodes all = all_as (Hears p taken w x) (Hears p taken v x) nodes one all
at_still p taken w v x (Handing node nodes) receivers given offered h = rested_still p w v x (node ∷ nodes) receivers h
at_still p taken w v x (Offering node octets (Taking count)) receivers given offered h = record {
  own = h.own;
  datagram = h.datagram;
  last = h.last;
  read = h.read;
  spoken = h.spoken;
  same = h.same;
  found = ap (find (is_of node octets)) given ∙ h.found;
}
at_still p taken w v x (Offering node octets (Handing other nodes)) receivers given offered h = rested_still p w v x (other ∷ nodes) receivers h
at_still p taken w v x (Offering node octets (Offering other datagram next)) receivers given offered h = absurd h
at_still p taken w v x (Offering node octets Starting) receivers given offered h = rested_still p w v x [] receivers h
at_still p taken w v x (Offering node octets Between) receivers given offered h = rested_still p w v x [] receivers h
at_still p taken w v x (Offering node octets Pulling) receivers given offered h = rested_still p w v x [] receivers h
at_still p taken w v x (Offering node octets (Giving line)) receivers given offered h = rested_still p w v x [] receivers h
at_still p taken w v x (Offering node octets (Again line)) receivers given offered h = rested_still p w v x [] receivers h
at_still p taken w v x (Offering node octets Sending) receivers given offered h = rested_still p w v x [] receivers h
at_still p taken w v x (Offering node octets Over) receivers given offered h = rested_still p w v x [] receivers h
at_still p taken w v x Starting receivers given offered h = rested_still p w v x [] receivers h
at_still p taken w v x Between receivers given offered h = rested_still p w v x [] receivers h
at_still p taken w v x Pulling receivers given offered h = rested_still p w v x [] receivers h
at_still p taken w v x (Giving line) receivers given offered h = rested_still p w v x [] receivers h
at_still p taken w v x (Again line) receivers given offered h = rested_still p w v x [] receivers h
at_still p taken w v x Sending receivers given offered h = rested_still p w v x [] receivers h
at_still p taken w v x Over receivers given offered h = rested_still p w v x [] receivers h

-- an offer is made: of the sender's datagram, or of a receiver's
offered_receivers : (w : World) (node : ℕ) (found : Option (ℕ × Written)) → (offers found node w).receivers ≡ w.receivers
offered_receivers w node None = refl
offered_receivers w node (Some d) = refl

pub offer_leads : (p : Settings) (taken : ℕ) (w : World) (x : Passing) (node : ℕ) (octets : List ℕ) (after : Place) → taken ≤ length (copies p w)
    → AtPlace p taken w x (Offering node octets after) → AtPlace p taken (world_step p w (Offered node octets)).0 x after
offer_leads p taken w x node octets (Taking count) some h = offer_at p taken count w x node octets some h
offer_leads p taken w x node octets (Handing other nodes) some h =
    rested_still p w _ x (other ∷ nodes) (offered_receivers w node (find (is_of node octets) w.given)) h
offer_leads p taken w x node octets (Offering other datagram next) some h = absurd h
offer_leads p taken w x node octets Starting some h = rested_still p w _ x [] (offered_receivers w node (find (is_of node octets) w.given)) h
offer_leads p taken w x node octets Between some h = rested_still p w _ x [] (offered_receivers w node (find (is_of node octets) w.given)) h
offer_leads p taken w x node octets Pulling some h = rested_still p w _ x [] (offered_receivers w node (find (is_of node octets) w.given)) h
offer_leads p taken w x node octets (Giving line) some h = rested_still p w _ x [] (offered_receivers w node (find (is_of node octets) w.given)) h
offer_leads p taken w x node octets (Again line) some h = rested_still p w _ x [] (offered_receivers w node (find (is_of node octets) w.given)) h
offer_leads p taken w x node octets Sending some h = rested_still p w _ x [] (offered_receivers w node (find (is_of node octets) w.given)) h
offer_leads p taken w x node octets Over some h = rested_still p w _ x [] (offered_receivers w node (find (is_of node octets) w.given)) h
