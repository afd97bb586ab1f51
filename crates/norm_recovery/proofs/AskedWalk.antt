-- Whom a flush asks: in its turn each of them hears it and acknowledges it, and in the next turn the sender hears that.
use Rattle.std.proofs.Common.{◌≡◌, ℕ, zero, suc, ◌+◌, ◌≤◌, List, [], ◌∷◌, ◌++◌, length, map, cond, Bool, true, false, Option, None, Some, refl, sym, ap, ◌∙◌, subst, arith, inl, inr}
use Rattle.std.specs.Prelude.{◌==◌, ◌⊎◌, find, slice_get, ⊤}
use Rattle.std.specs.List.{AllByRecursion}
use Rattle.std.proofs.lemmas.Bool.Decides.{Decides-eqb}
use Rattle.std.proofs.lemmas.List.{map-append}
use Rattle.std.proofs.lemmas.Option.{none-some}
use Rattle.norm_base.specs.Copies.{copies_for, copies_in}
use Rattle.norm_base.specs.Members.{members_of, receivers_of}
use Rattle.norm_base.specs.Settings.{Settings}
use Rattle.fec_plan.specs.declared.position.Position.{Position}
use Rattle.norm_ext.specs.Written.{Written}
use Rattle.norm_send_rules.specs.SenderState.{SenderState}
use Rattle.norm_receive_rules.specs.ReceiverState.{ReceiverState}
use Rattle.norm_safety.specs.Acknowledges.{owes}
use Rattle.norm_safety.specs.CreditsMembers.{is_listed_past}
use Rattle.norm_safety.specs.Events.{Offered}
use Rattle.norm_safety.specs.Lawful.{WasGiven}
use Rattle.norm_safety.specs.World.{World, receiver_at, is_of, offers, same_octets}
use Rattle.norm_safety.specs.WorldStep.{world_step}
use Rattle.norm_safety.proofs.EntryLemmas.{clash}
use Rattle.norm_safety.proofs.FrontLemmas.{list_itself, same_list}
use Rattle.norm_safety.proofs.WorldHolds.{all_contains}
use Rattle.norm_journal.specs.Laws.{octets_given}
use Rattle.norm_journal.specs.Places.{Place, Starting, Between, Pulling, Giving, Again, Sending, Offering, Taking, Handing, Over, handing}
use Rattle.norm_journal.proofs.NameLemmas.{both, both_true}
use Rattle.norm_recovery.proofs.AskedHears.{FlushAsk, Lists}
use Rattle.norm_recovery.proofs.AskedMoves.{Goes, goes_itself, goes_both}
use Rattle.norm_recovery.proofs.DirectKept.{copies_push, slice_behind, copy_for, no_sender}
use Rattle.norm_recovery.proofs.DirectTakes.{copies, is_one, is_first, all_in, in_more, is_found, due_more}

-- ---- what became of the asking of a node

-- its acknowledgement was offered, and the copy for the sender was not taken yet
pub record Acked (p : Settings) (taken : ℕ) (w : World) (at : Position) (node : ℕ) : Type 0 where
  pub octets : List ℕ
  pub lists : Lists p w.sender node at octets
  pub place : ℕ
  pub later : taken ≤ place
  pub copy : slice_get (copies p w) place ≡ Some (p.sender, octets)

-- it is listed, or its acknowledgement is on its way
abbrev pub Settling : Settings → ℕ → World → Position → ℕ → Type 0
Settling p taken w at node = (is_listed_past w.sender node at ≡ true) ⊎ Acked p taken w at node

-- the copy of a flush for it was not taken yet
pub record Hearing (p : Settings) (taken : ℕ) (w : World) (at : Position) (node : ℕ) : Type 0 where
  pub octets : List ℕ
  pub asks : FlushAsk p w.sender.current.id at node octets
  pub place : ℕ
  pub later : taken ≤ place
  pub copy : slice_get (copies p w) place ≡ Some (node, octets)

-- its receiver owes an acknowledgement
pub record Owing (w : World) (at : Position) (node : ℕ) : Type 0 where
  pub r : ReceiverState
  pub found : receiver_at w node ≡ Some r
  pub owes : owes r at ≡ true
  pub inside : r.instance ≡ Some w.sender.current.id

-- a turn takes; a node is still to tick in this turn; what its tick gave is to be offered; and so is what the sender's gave
abbrev pub HasTaking : Place → Type 0
HasTaking (Taking taken) = ⊤
HasTaking _ = ⊥

abbrev pub MayOwe : Place → ℕ → Type 0
MayOwe (Taking taken) node = ⊤
MayOwe (Handing first nodes) node = is_one node (first ∷ nodes) ≡ true
MayOwe (Offering from octets (Handing first nodes)) node = is_one node (first ∷ nodes) ≡ true
MayOwe _ node = ⊥

abbrev pub GivesAck : Place → ℕ → List ℕ → Type 0
GivesAck (Offering from given next) node octets = (from ≡ node) × (given ≡ octets)
GivesAck _ node octets = ⊥

abbrev pub GivesFlush : Settings → Place → List ℕ → Type 0
GivesFlush p (Offering from given (Taking taken)) octets = (from ≡ p.sender) × (given ≡ octets)
GivesFlush p _ octets = ⊥

-- what became of it, by the place in the turn of the flush
pub data Answer (p : Settings) (taken : ℕ) (w : World) (at : Position) (place : Place) (node : ℕ) : Type 0 where
  Listed : is_listed_past w.sender node at ≡ true → Answer p taken w at place node
  Acks : Acked p taken w at node → Answer p taken w at place node
  ToHear : Hearing p taken w at node → HasTaking place → Answer p taken w at place node
  Owes : Owing w at node → MayOwe place node → Answer p taken w at place node
  Gave : (octets : List ℕ) → GivesAck place node octets → Lists p w.sender node at octets → Answer p taken w at place node
  Asked : (octets : List ℕ) → GivesFlush p place octets → FlushAsk p w.sender.current.id at node octets → Answer p taken w at place node

-- what holds of each receiver's node
abbrev pub EachNode : Settings → (ℕ → Type 0) → Type 0
EachNode p P = AllByRecursion P (receivers_of p p.receivers)

pub each_node : (p : Settings) (P Q : ℕ → Type 0) → ((node : ℕ) → is_one node (receivers_of p p.receivers) ≡ true → P node → Q node) → EachNode p P → EachNode p Q
each_node p P Q each all = go (receivers_of p p.receivers) (all_in (receivers_of p p.receivers)) all
  where
    go : (nodes : List ℕ) → AllByRecursion (λ (n : ℕ). is_one n (receivers_of p p.receivers) ≡ true) nodes → AllByRecursion P nodes → AllByRecursion Q nodes
    go [] is all = tt
    go (n ∷ nodes) is all = (each n is.0 all.0, go nodes is.1 all.1)

pub for_each : (p : Settings) (Q : ℕ → Type 0) → ((node : ℕ) → is_one node (receivers_of p p.receivers) ≡ true → Q node) → EachNode p Q
for_each p Q each = go (receivers_of p p.receivers) (all_in (receivers_of p p.receivers))
  where
    go : (nodes : List ℕ) → AllByRecursion (λ (n : ℕ). is_one n (receivers_of p p.receivers) ≡ true) nodes → AllByRecursion Q nodes
    go [] is = tt
    go (n ∷ nodes) is = (each n is.0, go nodes is.1)

-- ---- as the world goes on

-- the sender goes on, and copies stay
pub record Moves (p : Settings) (w v : World) : Type 0 where
  pub goes : Goes w.sender v.sender
  pub copies : (k : ℕ) (c : ℕ × List ℕ) → slice_get (copies p w) k ≡ Some c → slice_get (copies p v) k ≡ Some c

pub moves_itself : (p : Settings) (w : World) → Moves p w w
moves_itself p w = record { goes = goes_itself w.sender; copies = λ k c e. e }

pub moves_same : (p : Settings) (w v : World) → Goes w.sender v.sender → v.offered ≡ w.offered → Moves p w v
moves_same p w v goes same = record {
  goes = goes;
  copies = λ k c e. ap (λ (os : List (ℕ × Written)). slice_get (copies_in (members_of p) (map octets_given os)) k) same ∙ e;
}

pub lists_on : (p : Settings) (s t : SenderState) (node : ℕ) (at : Position) (octets : List ℕ) → Goes s t → Lists p s node at octets → Lists p t node at octets
lists_on p s t node at octets goes lists u now on few = lists u now (goes_both s t u goes on) few

pub acked_on : (p : Settings) (taken : ℕ) (w v : World) (at : Position) (node : ℕ) → Moves p w v → Acked p taken w at node → Acked p taken v at node
acked_on p taken w v at node m a = record {
  octets = a.octets;
  lists = lists_on p w.sender v.sender node at a.octets m.goes a.lists;
  place = a.place;
  later = a.later;
  copy = m.copies a.place (p.sender, a.octets) a.copy;
}

pub settling_on : (p : Settings) (taken : ℕ) (w v : World) (at : Position) (node : ℕ) → Moves p w v → Settling p taken w at node → Settling p taken v at node
settling_on p taken w v at node m (inl listed) = inl (m.goes.listed node at listed)
settling_on p taken w v at node m (inr a) = inr (acked_on p taken w v at node m a)

ask_on : (p : Settings) (w v : World) (at : Position) (node : ℕ) (octets : List ℕ) → Moves p w v → FlushAsk p w.sender.current.id at node octets
    → FlushAsk p v.sender.current.id at node octets
ask_on p w v at node octets m asks = subst (λ (id : ℕ). FlushAsk p id at node octets) (sym m.goes.id) asks

-- at the same place, where the receiver goes on to owe
pub answer_on : (p : Settings) (taken : ℕ) (w v : World) (at : Position) (place : Place) (node : ℕ) → Moves p w v → (Owing w at node → Owing v at node)
    → Answer p taken w at place node → Answer p taken v at place node
answer_on p taken w v at place node m owing (Listed is) = Listed (m.goes.listed node at is)
answer_on p taken w v at place node m owing (Acks a) = Acks (acked_on p taken w v at node m a)
answer_on p taken w v at place node m owing (ToHear h taking) = ToHear (record {
  octets = h.octets;
  asks = ask_on p w v at node h.octets m h.asks;
  place = h.place;
  later = h.later;
  copy = m.copies h.place (node, h.octets) h.copy;
}) taking
answer_on p taken w v at place node m owing (Owes o may) = Owes (owing o) may
answer_on p taken w v at place node m owing (Gave octets gives lists) = Gave octets gives (lists_on p w.sender v.sender node at octets m.goes lists)
answer_on p taken w v at place node m owing (Asked octets gives asks) = Asked octets gives (ask_on p w v at node octets m asks)

-- a receiver that stays as it was goes on to owe
pub owing_still : (w v : World) (at : Position) (node : ℕ) → Goes w.sender v.sender → receiver_at v node ≡ receiver_at w node → Owing w at node → Owing v at node
owing_still w v at node goes same o = record { r = o.r; found = same ∙ o.found; owes = o.owes; inside = o.inside ∙ ap (λ (n : ℕ). Some n) (sym goes.id) }

-- ---- at a place where nothing is on its way to receivers

abbrev pub IsCalm : Place → Type 0
IsCalm Starting = ⊤
IsCalm Between = ⊤
IsCalm Pulling = ⊤
IsCalm (Giving line) = ⊤
IsCalm (Again line) = ⊤
IsCalm Sending = ⊤
IsCalm Over = ⊤
IsCalm _ = ⊥

-- no node is waited for there
record Waits (p : Settings) (place : Place) : Type 0 where
  taking : HasTaking place → ⊥
  owing : (node : ℕ) → MayOwe place node → ⊥
  ack : (node : ℕ) (octets : List ℕ) → GivesAck place node octets → ⊥
  flush : (octets : List ℕ) → GivesFlush p place octets → ⊥

calm_waits : (p : Settings) (place : Place) → IsCalm place → Waits p place
calm_waits p Starting calm = record { taking = λ h. h; owing = λ n h. h; ack = λ n o h. h; flush = λ o h. h }
calm_waits p Between calm = record { taking = λ h. h; owing = λ n h. h; ack = λ n o h. h; flush = λ o h. h }
calm_waits p Pulling calm = record { taking = λ h. h; owing = λ n h. h; ack = λ n o h. h; flush = λ o h. h }
calm_waits p (Giving line) calm = record { taking = λ h. h; owing = λ n h. h; ack = λ n o h. h; flush = λ o h. h }
calm_waits p (Again line) calm = record { taking = λ h. h; owing = λ n h. h; ack = λ n o h. h; flush = λ o h. h }
calm_waits p Sending calm = record { taking = λ h. h; owing = λ n h. h; ack = λ n o h. h; flush = λ o h. h }
calm_waits p Over calm = record { taking = λ h. h; owing = λ n h. h; ack = λ n o h. h; flush = λ o h. h }
calm_waits p (Offering from octets next) calm = absurd calm
calm_waits p (Taking taken) calm = absurd calm
calm_waits p (Handing node nodes) calm = absurd calm

pub calm_settles : (p : Settings) (taken : ℕ) (w : World) (at : Position) (place : Place) (node : ℕ) → IsCalm place → Answer p taken w at place node → Settling p taken w at node
calm_settles p taken w at place node calm (Listed is) = inl is
calm_settles p taken w at place node calm (Acks a) = inr a
calm_settles p taken w at place node calm (ToHear h taking) = absurd ((calm_waits p place calm).taking taking)
calm_settles p taken w at place node calm (Owes o may) = absurd ((calm_waits p place calm).owing node may)
calm_settles p taken w at place node calm (Gave octets gives lists) = absurd ((calm_waits p place calm).ack node octets gives)
calm_settles p taken w at place node calm (Asked octets gives asks) = absurd ((calm_waits p place calm).flush octets gives)

pub settles_so : (p : Settings) (taken : ℕ) (w : World) (at : Position) (place : Place) (node : ℕ) → Settling p taken w at node → Answer p taken w at place node
settles_so p taken w at place node (inl is) = Listed is
settles_so p taken w at place node (inr a) = Acks a

-- ---- an offer makes copies

none_found : (test : ℕ × Written → Bool) (gs : List (ℕ × Written)) → find test gs ≡ None → AllByRecursion (λ (g : ℕ × Written). test g ≡ false) gs
none_found test [] e = tt
none_found test (g ∷ gs) e = go (test g) refl e (λ more. none_found test gs more)
  where
    go : (b : Bool) → test g ≡ b → cond b (Some g) (find test gs) ≡ None → (find test gs ≡ None → AllByRecursion (λ (x : ℕ × Written). test x ≡ false) gs)
        → AllByRecursion (λ (x : ℕ × Written). test x ≡ false) (g ∷ gs)
    go true is e next = absurd (none-some g (sym e))
    go false is e next = (is, next e)

pub offer_copies_are : (p : Settings) (w : World) (from : ℕ) (octets : List ℕ) → WasGiven w from octets
    → copies p (world_step p w (Offered from octets)).0 ≡ copies p w ++ copies_for (members_of p) (from, octets)
offer_copies_are p w from octets given = go (find (is_of from octets) w.given) refl
  where
    go : (found : Option (ℕ × Written)) → find (is_of from octets) w.given ≡ found → copies p (offers found from w) ≡ copies p w ++ copies_for (members_of p) (from, octets)
    go None e =
        let no = all_contains (λ (g : ℕ × Written). is_of from octets g ≡ false) w.given (from, given.0) (none_found (is_of from octets) w.given e) given.1 in
        let is = both_true (from == from) (same_octets given.0.octets octets) ((Decides-eqb from from).1 refl)
        (ap (λ (xs : List ℕ). same_octets xs octets) given.2 ∙ list_itself octets) in
        absurd (clash (sym no ∙ is))
    go (Some d) e =
        let test = both (d.0 == from) (same_octets d.1.octets octets) (is_found from octets d w.given e) in
        let node : d.0 ≡ from = (Decides-eqb d.0 from).0 test.0 in
        let same : d.1.octets ≡ octets = same_list d.1.octets octets test.1 in
        ap (copies_in (members_of p)) (map-append octets_given w.offered (d ∷ []))
        ∙ copies_push (members_of p) (map octets_given w.offered) (d.0, d.1.octets)
        ∙ ap (λ (n : ℕ). copies p w ++ copies_for (members_of p) (n, d.1.octets)) node
        ∙ ap (λ (xs : List ℕ). copies p w ++ copies_for (members_of p) (from, xs)) same

slice_front : {X : Type 0} (xs ys : List X) (k : ℕ) (x : X) → slice_get xs k ≡ Some x → slice_get (xs ++ ys) k ≡ Some x
slice_front [] ys k x e = absurd (none-some x e)
slice_front (y ∷ xs) ys zero x e = e
slice_front (y ∷ xs) ys (suc k) x e = slice_front xs ys k x e

pub offer_moves : (p : Settings) (w : World) (from : ℕ) (octets : List ℕ) → WasGiven w from octets → Goes w.sender (world_step p w (Offered from octets)).0.sender
    → Moves p w (world_step p w (Offered from octets)).0
offer_moves p w from octets given goes = record {
  goes = goes;
  copies = λ k c e. ap (λ (cs : List (ℕ × List ℕ)). slice_get cs k) (offer_copies_are p w from octets given)
      ∙ slice_front (copies p w) (copies_for (members_of p) (from, octets)) k c e;
}

-- a new copy, for another member
pub record NewCopy (p : Settings) (taken : ℕ) (v : World) (to : ℕ) (octets : List ℕ) : Type 0 where
  pub place : ℕ
  pub later : taken ≤ place
  pub copy : slice_get (copies p v) place ≡ Some (to, octets)

pub new_copy : (p : Settings) (taken : ℕ) (w : World) (from to : ℕ) (octets : List ℕ) → WasGiven w from octets → taken ≤ length (copies p w) → (to == from) ≡ false
    → is_one to (members_of p) ≡ true → NewCopy p taken (world_step p w (Offered from octets)).0 to octets
new_copy p taken w from to octets given some other is =
    let copy = copy_for from to octets (members_of p) other is in
    record {
      place = length (copies p w) + copy.0;
      later = omega (arith, some);
      copy = ap (λ (cs : List (ℕ × List ℕ)). slice_get cs (length (copies p w) + copy.0)) (offer_copies_are p w from octets given)
          ∙ slice_behind (copies p w) (copies_for (members_of p) (from, octets)) (length (copies p w) + copy.0) copy.0 refl ∙ copy.1;
    }

-- an offer: an acknowledgement that was given was offered then, and a flush that was given is to be heard
pub offer_answers : (p : Settings) (taken : ℕ) (w : World) (at : Position) (from : ℕ) (octets : List ℕ) (after : Place) (node : ℕ)
    → is_one node (receivers_of p p.receivers) ≡ true → WasGiven w from octets → taken ≤ length (copies p w)
    → Moves p w (world_step p w (Offered from octets)).0 → receiver_at (world_step p w (Offered from octets)).0 node ≡ receiver_at w node
    → Answer p taken w at (Offering from octets after) node → Answer p taken (world_step p w (Offered from octets)).0 at after node
offer_answers p taken w at from octets after node is given some m same (Listed listed) = Listed (m.goes.listed node at listed)
offer_answers p taken w at from octets after node is given some m same (Acks a) = Acks (acked_on p taken w _ at node m a)
offer_answers p taken w at from octets after node is given some m same (ToHear h taking) = absurd taking
offer_answers p taken w at from octets after node is given some m same (Owes o may) = Owes (owing_still w _ at node m.goes same o) (owes_on after may)
  where
    owes_on : (next : Place) → MayOwe (Offering from octets next) node → MayOwe next node
    owes_on (Handing first nodes) h = h
    owes_on (Taking n) h = tt
    owes_on (Offering f o next) h = absurd h
    owes_on Starting h = absurd h
    owes_on Between h = absurd h
    owes_on Pulling h = absurd h
    owes_on (Giving line) h = absurd h
    owes_on (Again line) h = absurd h
    owes_on Sending h = absurd h
    owes_on Over h = absurd h
offer_answers p taken w at from octets after node is given some m same (Gave given_octets gives lists) =
    let v : World = (world_step p w (Offered from octets)).0 in
    let no : (node == p.sender) ≡ false = no_sender p node is in
    let c = new_copy p taken w from p.sender octets given some (differs p.sender from (λ e. clash (sym no ∙ (Decides-eqb node p.sender).1 (sym gives.0 ∙ sym e))))
    (is_first (receivers_of p p.receivers) p.sender) in
    Acks (record {
      octets = octets;
      lists = subst (λ (xs : List ℕ). Lists p v.sender node at xs) (sym gives.1) (lists_on p w.sender v.sender node at given_octets m.goes lists);
      place = c.place;
      later = c.later;
      copy = c.copy;
    })
  where
    differs : (a b : ℕ) → (a ≡ b → ⊥) → (a == b) ≡ false
    differs a b h = go (a == b) refl
      where
        go : (t : Bool) → (a == b) ≡ t → t ≡ false
        go true e = absurd (h ((Decides-eqb a b).0 e))
        go false e = refl
offer_answers p taken w at from octets after node is given some m same (Asked asked_octets gives asks) = by after gives
  where
    by : (next : Place) → GivesFlush p (Offering from octets next) asked_octets → Answer p taken (world_step p w (Offered from octets)).0 at next node
    by (Taking n) (own, its) =
        let v : World = (world_step p w (Offered from octets)).0 in
        let no : (node == from) ≡ false = ap (λ (m : ℕ). node == m) own ∙ no_sender p node is in
        let c = new_copy p taken w from node octets given some no (in_more node p.sender (receivers_of p p.receivers) is) in
        ToHear (record {
          octets = octets;
          asks = subst (λ (xs : List ℕ). FlushAsk p v.sender.current.id at node xs) (sym its) (ask_on p w v at node asked_octets m asks);
          place = c.place;
          later = c.later;
          copy = c.copy;
        }) tt
    by (Handing first nodes) h = absurd h
    by (Offering f o next) h = absurd h
    by Starting h = absurd h
    by Between h = absurd h
    by Pulling h = absurd h
    by (Giving line) h = absurd h
    by (Again line) h = absurd h
    by Sending h = absurd h
    by Over h = absurd h

-- ---- no copy is left

pub none_left_settles : (p : Settings) (taken : ℕ) (w : World) (at : Position) (node : ℕ) → length (copies p w) ≤ taken → Settling p taken w at node
    → is_listed_past w.sender node at ≡ true
none_left_settles p taken w at node le (inl is) = is
none_left_settles p taken w at node le (inr a) =
    let lt = due_more (copies p w) a.place (p.sender, a.octets) a.copy in let later = a.later in absurd (omega (arith, lt, later, le))

pub none_left_answers : (p : Settings) (taken count : ℕ) (w : World) (at : Position) (node : ℕ) (nodes : List ℕ) → length (copies p w) ≤ taken → is_one node nodes ≡ true
    → Answer p taken w at (Taking count) node → Answer p taken w at (handing nodes) node
none_left_answers p taken count w at node nodes le is (Listed listed) = Listed listed
none_left_answers p taken count w at node nodes le is (Acks a) = Listed (none_left_settles p taken w at node le (inr a))
none_left_answers p taken count w at node nodes le is (ToHear h taking) =
    let lt = due_more (copies p w) h.place (node, h.octets) h.copy in let later = h.later in absurd (omega (arith, lt, later, le))
none_left_answers p taken count w at node nodes le is (Owes o may) = Owes o (by nodes is)
  where
    by : (ns : List ℕ) → is_one node ns ≡ true → MayOwe (handing ns) node
    by [] e = absurd (clash e)
    by (n ∷ ns) e = e
none_left_answers p taken count w at node nodes le is (Gave octets gives lists) = absurd gives
none_left_answers p taken count w at node nodes le is (Asked octets gives asks) = absurd gives
