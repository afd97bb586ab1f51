-- The relay's receiver in the session above.
use Rattle.std.proofs.Common.{◌≡◌, ℕ, zero, suc, ◌+◌, ◌<◌, ◌≤◌, List, [], ◌∷◌, ◌++◌, map, Bool, true, false, Option, None, Some, refl, sym, ap, ◌∙◌, subst, length, take, drop, append_assoc, arith}
use Rattle.std.specs.Prelude.{◌==◌, ◌&&◌, nat_lt, nat_le, is_none, flat_map}
use Rattle.std.specs.Option.{option_map}
use Rattle.std.proofs.lemmas.Bool.Decides.{Decides-eqb, Decides-ltb}
use Rattle.std.proofs.lemmas.List.{append-nil, map-append}
use Rattle.norm_base.specs.Datagrams.{datagram_of}
use Rattle.norm_base.specs.Members.{is_receiver}
use Rattle.norm_base.specs.Settings.{Settings}
use Rattle.norm_base.specs.declared.kinds.Sent.{Sent as Said}
use Rattle.norm_base.specs.declared.kinds.Sent.TheVariants as said
use Rattle.fec_plan.specs.declared.position.Position.{Position}
use Rattle.norm_ext.specs.Octets.{octets_of}
use Rattle.norm_ext.specs.Written.{Written, writes}
use Rattle.norm_order.specs.declared.up.Up.{Up}
use Rattle.norm_receive_rules.specs.AllNeeds.{needs, needs_nothing}
use Rattle.norm_receive_rules.specs.Holding.{Holding}
use Rattle.norm_receive_rules.specs.Nack.{indices_of, fitting, nack_message, ack_message}
use Rattle.norm_receive_rules.specs.Needs.{Need}
use Rattle.norm_receive_rules.specs.ReceiverState.{ReceiverState}
use Rattle.norm_receive_rules.specs.ReceiverStep as receiver
use Rattle.norm_receive_rules.specs.Receiving.{received}
use Rattle.norm_receive_rules.specs.Taking.{took}
use Rattle.norm_receive_rules.specs.Ticking.{sends, holds_off, are_heard, asks, asks_where_needed, ends_back_off, ticked}
use Rattle.norm_receiver.specs.ReceiverKept.{ReceiverKept}
use Rattle.norm_receiver.specs.ReceiverSound.{StandsFor as ReceiverStands, IsTick}
use Rattle.norm_safety.proofs.ReceiverMoves.{tick_same}
use Rattle.norm_safety.proofs.WorldLemmas.{world_laws}
use Rattle.norm_safety.specs.Events.{Delivered, Ticked, Offered, UpTaken}
use Rattle.norm_safety.specs.World.{receiver_at}
use Rattle.norm_safety.specs.WorldStep.{receiver_move, node_move, moved}
use Rattle.norm_send_rules.specs.SenderStep as sender
use Rattle.norm_relay.specs.Holding.{with_unmarked, met_by, HoldsIf, HoldsBack, IsHeldTick}
use Rattle.norm_relay.specs.RelayKept.{IsReceiver, with_ups}
use Rattle.norm_relay.specs.RelayStep.{takes, is_ack, given_by}
use Rattle.norm_relay.specs.Sides.{Side, happens_in}
use Rattle.norm_relay.specs.Waiting.{waiting_of}
use Rattle.norm_relay.specs.declared.ticking.Held.{Held}
use Rattle.norm_relay.specs.declared.ticking.Promise.{Promise}
use Rattle.norm_relay.specs.declared.waiting.Waiting.{Waiting}

-- ---- the node

first_of : (a b : Bool) → (a && b) ≡ true → a ≡ true
first_of true b e = refl
first_of false b e = absurd (no e)
  where
    no : false ≡ true → ⊥
    no e = cc

not_same : (a b : ℕ) → (a ≡ b → ⊥) → (a == b) ≡ false
not_same a b h = go (a == b) refl
  where
    go : (t : Bool) → (a == b) ≡ t → t ≡ false
    go true e = absurd (h ((Decides-eqb a b).0 e))
    go false e = refl

pub no_sender : (p : Settings) (node : ℕ) → is_receiver p node ≡ true → (node == p.sender) ≡ false
no_sender p node e =
    let lt : p.sender < node = (Decides-ltb p.sender node).0 (first_of (nat_lt p.sender node) (nat_le node (p.sender + p.receivers)) e) in
    not_same node p.sender (λ same. omega (arith, lt, same))

-- the state that the relay's receiver stands for
pub record Found (k : ReceiverKept) (found : Option ReceiverState) : Type 0 where
  pub state : ReceiverState
  pub is : found ≡ Some state
  pub stands : ReceiverStands k state
  pub taken : state.holding.ups ≡ []

pub found_in : (k : ReceiverKept) (found : Option ReceiverState) → IsReceiver k found → Found k found
found_in k None h = absurd h
found_in k (Some r) h = record { state = r; is = refl; stands = h.0; taken = h.1 }

-- ---- what happens to it

pub delivered_at : (s : Side) (node now draw : ℕ) (bytes : List ℕ) (r : ReceiverState) → is_receiver s.p node ≡ true → receiver_at s.world node ≡ Some r
    → receiver_at (happens_in s (Delivered node bytes now draw)).0.world node ≡ Some (received s.p r bytes now draw)
delivered_at s node now draw bytes r member found =
    world_laws.moves s.p s.world (Delivered node bytes now draw) node (receiver.Delivered bytes now draw) r (no_sender s.p node member) refl found

took_by : ReceiverState → List Up → ReceiverState
took_by r ups = with_ups ups r

-- all hand-ups are taken
pub takes_profile : (node : ℕ) (ups : List Up) (s : Side) → (takes node ups s).p ≡ s.p
unfolding takes
takes_profile node [] s = refl
takes_profile node (u ∷ ups) s = takes_profile node ups (happens_in s (UpTaken node)).0

pub after_take : (r : ReceiverState) (u : Up) (ups : List Up) → r.holding.ups ≡ u ∷ ups → (took r).0 ≡ with_ups ups r
after_take r u ups e = go r.holding.ups e
  where
    left : List Up → Holding × Option Up
    left us = elim us [ up ∷ rest ↦ (record (r.holding) { ups = rest }, Some up) | [] ↦ (r.holding, None) ]

    go : (us : List Up) → us ≡ u ∷ ups → record r { holding = (left us).0 } ≡ with_ups ups r
    go [] e = absurd (cc)
    go (up ∷ rest) e = ap (λ (xs : List Up). with_ups xs r) (tail up u rest ups e)
      where
        tail : (a b : Up) (xs ys : List Up) → a ∷ xs ≡ b ∷ ys → xs ≡ ys
        tail a b xs ys e = cc

pub takes_at : (node : ℕ) (ups : List Up) (s : Side) (r : ReceiverState) → receiver_at s.world node ≡ Some r → r.holding.ups ≡ ups
    → receiver_at (takes node ups s).world node ≡ Some (with_ups [] r)
unfolding takes
takes_at node [] s r found e = found ∙ ap (λ (us : List Up). Some (with_ups us r)) e
takes_at node (u ∷ ups) s r found e =
    takes_at node ups (happens_in s (UpTaken node)).0 (with_ups ups r)
    (world_laws.moves s.p s.world (UpTaken node) node receiver.UpTaken r refl refl found ∙ ap Some (after_take r u ups e)) refl

pub ticked_at : (s : Side) (node now : ℕ) (r : ReceiverState) → is_receiver s.p node ≡ true → receiver_at s.world node ≡ Some r
    → receiver_at (happens_in s (Ticked node now)).0.world node ≡ Some (ticked s.p r now).0
ticked_at s node now r member found =
    world_laws.moves s.p s.world (Ticked node now) node (receiver.Ticked now) r (no_sender s.p node member) refl found

pub ticked_says : (s : Side) (node now : ℕ) (r : ReceiverState) → is_receiver s.p node ≡ true → receiver_at s.world node ≡ Some r
    → given_by (happens_in s (Ticked node now)).1 ≡ (ticked s.p r now).1
ticked_says s node now r member found =
    ap (λ b. given_by (moved s.p s.world (node_move b (receiver_at s.world node) (sender.Ticked now) (receiver.Ticked now))).1) (no_sender s.p node member)
    ∙ ap (λ o. given_by (moved s.p s.world (receiver_move o (receiver.Ticked now))).1) found

pub ticked_taken : (p : Settings) (r : ReceiverState) (now : ℕ) → r.holding.ups ≡ [] → (ticked p r now).0.holding.ups ≡ []
ticked_taken p r now e = ap (λ (h : Holding). h.ups) (tick_same p r now).holding ∙ e

-- an offer leaves it
pub offered_at : (s : Side) (node : ℕ) (octets : List ℕ) → receiver_at (happens_in s (Offered node octets)).0.world node ≡ receiver_at s.world node
offered_at s node octets = world_laws.others s.p s.world (Offered node octets) node refl

-- ---- taking all hand-ups, as the code does

-- The receiver stands for a state of which this many hand-ups were taken, and those wait.
pub record Took (many : ℕ) (s : ReceiverState) (k : ReceiverKept) (before waiting : List Waiting) : Type 0 where
  pub stands : ReceiverStands k (with_ups (drop many s.holding.ups) s)
  pub waits : waiting ≡ before ++ map waiting_of (take many s.holding.ups)

-- the same, for whatever it stood for at first
abbrev pub TakesFrom : ReceiverKept → List Waiting → ℕ → ReceiverKept → List Waiting → Type 0
TakesFrom old before many k waiting = (s : ReceiverState) → ReceiverStands old s → Took many s k before waiting

pub take_first : (k : ReceiverKept) (waiting : List Waiting) → TakesFrom k waiting 0 k waiting
take_first k waiting s st = record { stands = st; waits = sym (append-nil waiting) }

-- the next of a list
next_of : (n : ℕ) (xs : List Up) (u : Up) (rest : List Up) → drop n xs ≡ u ∷ rest → (drop (n + 1) xs ≡ rest) × (take (n + 1) xs ≡ take n xs ++ u ∷ [])
next_of n xs u rest e = let more : n + 1 ≡ suc n = omega arith in subst (λ m. (drop m xs ≡ rest) × (take m xs ≡ take n xs ++ u ∷ [])) (sym more) (go n xs e)
  where
    go : (n : ℕ) (xs : List Up) → drop n xs ≡ u ∷ rest → (drop (suc n) xs ≡ rest) × (take (suc n) xs ≡ take n xs ++ u ∷ [])
    go zero [] e = absurd (cc)
    go (suc n) [] e = absurd (cc)
    go zero (x ∷ xs) e = (cc, one x xs e)
      where
        one : (x : Up) (xs : List Up) → x ∷ xs ≡ u ∷ rest → x ∷ [] ≡ u ∷ []
        one x xs e = cc
    go (suc n) (x ∷ xs) e = let more = go n xs e in (more.0, ap (λ (ys : List Up). x ∷ ys) more.1)

-- one more was taken, and waits
takes_next : (n : ℕ) (up : Up) (s : ReceiverState) (k new : ReceiverKept) (before waiting waiting' : List Waiting) → Took n s k before waiting
    → ((t : ReceiverState) → ReceiverStands k t → ReceiverStands new (took t).0 × (Some up ≡ (took t).1))
    → waiting' ≡ waiting ++ waiting_of up ∷ [] → Took (n + 1) s new before waiting'
takes_next n up s k new before waiting waiting' t h put =
    go (drop n s.holding.ups) refl (h (with_ups (drop n s.holding.ups) s) t.stands)
  where
    same : (u : Up) → Some up ≡ Some u → up ≡ u
    same u e = cc

    none : Some up ≡ None → ⊥
    none e = cc

    go : (us : List Up) → drop n s.holding.ups ≡ us → ReceiverStands new (took (with_ups us s)).0 × (Some up ≡ (took (with_ups us s)).1)
        → Took (n + 1) s new before waiting'
    go [] e after = absurd (none after.1)
    go (u ∷ rest) e after =
        let next = next_of n s.holding.ups u rest e in
        let fronts : List Waiting = map waiting_of (take n s.holding.ups) in
        record {
          stands = subst (λ (us : List Up). ReceiverStands new (with_ups us s)) (sym next.0) after.0;
          waits =
              put ∙ ap (λ (ws : List Waiting). ws ++ waiting_of up ∷ []) t.waits ∙ append_assoc before fronts (waiting_of up ∷ [])
              ∙ ap (λ (x : Up). before ++ (fronts ++ waiting_of x ∷ [])) (same u after.1)
              ∙ ap (λ (ws : List Waiting). before ++ ws)
              (sym (map-append waiting_of (take n s.holding.ups) (u ∷ [])) ∙ ap (map waiting_of) (sym next.1));
        }

pub take_next : (old k new : ReceiverKept) (before waiting waiting' : List Waiting) (n : ℕ) (up : Up) (took_up : Option Up) → TakesFrom old before n k waiting
    → ((t : ReceiverState) → ReceiverStands k t → ReceiverStands new (took t).0 × (took_up ≡ (took t).1)) → took_up ≡ Some up
    → waiting' ≡ waiting ++ waiting_of up ∷ [] → TakesFrom old before (n + 1) new waiting'
take_next old k new before waiting waiting' n up took_up f h is put s st =
    takes_next n up s k new before waiting waiting' (f s st)
    (λ t stands. let after = h t stands in (after.0, sym is ∙ after.1)) put

drop_all : (n : ℕ) (xs : List Up) → length xs ≤ n → drop n xs ≡ []
drop_all zero [] le = refl
drop_all (suc n) [] le = refl
drop_all zero (x ∷ xs) le = absurd (omega (arith, le))
drop_all (suc n) (x ∷ xs) le = drop_all n xs (omega (arith, le))

take_all : (n : ℕ) (xs : List Up) → length xs ≤ n → take n xs ≡ xs
take_all zero [] le = refl
take_all (suc n) [] le = refl
take_all zero (x ∷ xs) le = absurd (omega (arith, le))
take_all (suc n) (x ∷ xs) le = ap (λ (ys : List Up). x ∷ ys) (take_all n xs (omega (arith, le)))

pub all_taken : (old k : ReceiverKept) (before waiting : List Waiting) (n many : ℕ) → TakesFrom old before n k waiting → many ≤ n
    → ((s : ReceiverState) → ReceiverStands old s → many ≡ length s.holding.ups) → (s : ReceiverState) → ReceiverStands old s → ReceiverStands k (with_ups [] s)
all_taken old k before waiting n many f past is s st =
    let e = is s st in
    subst (λ (us : List Up). ReceiverStands k (with_ups us s)) (drop_all n s.holding.ups (omega (arith, past, e))) (f s st).stands

pub all_wait : (old k : ReceiverKept) (before waiting : List Waiting) (n many : ℕ) → TakesFrom old before n k waiting → many ≤ n
    → ((s : ReceiverState) → ReceiverStands old s → many ≡ length s.holding.ups) → (s : ReceiverState) → ReceiverStands old s
    → waiting ≡ before ++ map waiting_of s.holding.ups
all_wait old k before waiting n many f past is s st =
    let e = is s st in
    (f s st).waits ∙ ap (λ (us : List Up). before ++ map waiting_of us) (take_all n s.holding.ups (omega (arith, past, e)))

-- ---- a tick, as the code does it

abbrev pub IsNoAck : Option Written → Type 0
IsNoAck None = Unit {0}
IsNoAck (Some datagram) = is_ack datagram.message ≡ false

abbrev says : ReceiverState × Option Written → Option Written
says step = step.1

-- without an acknowledgement that is due a tick gives none
pub no_ack : (p : Settings) (r : ReceiverState) (now : ℕ) → r.knows.due ≡ None → IsNoAck (ticked p r now).1
no_ack p r now none = due r.knows.due none
  where
    asked : (wanted : List Need) (s : ReceiverState) (all : Bool) → IsNoAck (says (elim all [
      | true ↦ (record s { knows = holds_off p now s.knows }, None)
      | false ↦ sends (writes (nack_message p s wanted) (flat_map indices_of wanted)) (record s { knows = holds_off p now s.knows })
    ]))
    asked wanted s true = tt
    asked wanted s false = refl

    needed : (s : ReceiverState) (nothing : Bool) → IsNoAck (says (elim nothing [
      | true ↦ (s, None)
      | false ↦ asks p now (fitting p (needs p s) None p.e) s
    ]))
    needed s true = tt
    needed s false = asked (fitting p (needs p s) None p.e) s (are_heard s (fitting p (needs p s) None p.e))

    ended : (s : ReceiverState) (reached : Bool) → IsNoAck (says (elim reached [ true ↦ asks_where_needed p now s | false ↦ (r, None) ]))
    ended s true = needed s (needs_nothing p s)
    ended s false = tt

    backed : (backoff : Option ℕ) → IsNoAck (says (elim backoff [
      | Some ends ↦ elim (nat_le ends now) [ true ↦ asks_where_needed p now (record r { knows = record (r.knows) { backoff = None } }) | false ↦ (r, None) ]
      | None ↦ (r, None)
    ]))
    backed None = tt
    backed (Some ends) = ended (record r { knows = record (r.knows) { backoff = None } }) (nat_le ends now)

    due : (at : Option Position) → at ≡ None → IsNoAck (says (elim at [
      | Some at ↦ sends (writes (ack_message p r at) (at.index ∷ [])) (record r { knows = record (r.knows) { due = None } })
      | None ↦ ends_back_off p now r
    ]))
    due None e = backed r.knows.backoff
    due (Some at) e = absurd (cc)

none_of : (o : Option Position) → is_none o ≡ true → o ≡ None
none_of None e = refl
none_of (Some at) e = absurd (cc)

pub tick_passed : (k new : ReceiverKept) (held : Held) (now : ℕ) (out : List ℕ) (answer : Said) (due : Option Position) (s : ReceiverState)
    → due ≡ s.knows.due → is_none due ≡ true → IsTick new out answer (ticked k.p s now) → IsHeldTick new held held out answer (ticked k.p s now)
tick_passed k new held now out answer due s is none t = record {
  stands = t.stands;
  says = go (ticked k.p s now).1 (no_ack k.p s now (sym is ∙ none_of due none)) t.octets;
}
  where
    go : (o : Option Written) → IsNoAck o → datagram_of answer out ≡ option_map (λ (w : Written). w.octets) o → HoldsBack held held (datagram_of answer out) o
    go None other e = (refl, e)
    go (Some datagram) other e = subst (λ b. HoldsIf b held held (datagram_of answer out) datagram.octets) (sym other) (refl, e)

ack_length : (p : Settings) (s : ReceiverState) (at : Position) → length (octets_of (ack_message p s at)) ≡ 32
ack_length p s at = refl

wrote : (answer : Said) (out octets : List ℕ) → datagram_of answer out ≡ Some octets → out ≡ octets
wrote said.Nothing out octets e = absurd (cc)
wrote said.Datagram out octets e = cc

pub tick_held : (k new : ReceiverKept) (held held' : Held) (now : ℕ) (out : List ℕ) (answer : Said) (due : Option Position) (s : ReceiverState)
    → due ≡ s.knows.due → is_none due ≡ false → IsTick new out answer (ticked k.p s now) → (length out ≡ 32 → held' ≡ with_unmarked out held)
    → IsHeldTick new held held' out said.Nothing (ticked k.p s now)
tick_held k new held held' now out answer due s is some t kept = go s.knows.due (subst (λ (o : Option Position). is_none o ≡ false) is some) t
  where
    by : Option Position → ReceiverState × Option Written
    by due = elim due [
      | Some at ↦ sends (writes (ack_message k.p s at) (at.index ∷ [])) (record s { knows = record (s.knows) { due = None } })
      | None ↦ ends_back_off k.p now s
    ]

    go : (o : Option Position) → is_none o ≡ false → IsTick new out answer (by o) → IsHeldTick new held held' out said.Nothing (by o)
    go None none t = absurd (cc)
    go (Some at) none t =
        let is : out ≡ octets_of (ack_message k.p s at) = wrote answer out (octets_of (ack_message k.p s at)) t.octets in
        record {
          stands = t.stands;
          says = (kept (ap length is ∙ ack_length k.p s at) ∙ ap (λ octets. with_unmarked octets held) is, refl);
        }

-- ---- the acknowledgement that is met

pub met_none : (past : Position → Bool) (o : Option Promise) → o ≡ None → None ≡ met_by past o
met_none past None e = refl
met_none past (Some promise) e = absurd (cc)

abbrev met_when : Promise → Bool → Option (List ℕ)
met_when promise past = elim past [ true ↦ Some promise.ack | false ↦ None ]

same_promise : (p q : Promise) → Some p ≡ Some q → p ≡ q
same_promise p q e = cc

pub met_not : (past : Position → Bool) (o : Option Promise) (promise : Promise) → o ≡ Some promise → past promise.at ≡ false → None ≡ met_by past o
met_not past None promise e isnt = absurd (cc)
met_not past (Some p) promise e isnt = ap (met_when p) (sym isnt ∙ ap (λ (q : Promise). past q.at) (sym (same_promise p promise e)))

pub met_now : (past : Position → Bool) (o : Option Promise) (promise : Promise) → o ≡ Some promise → past promise.at ≡ true → Some promise.ack ≡ met_by past o
met_now past None promise e sure = absurd (cc)
met_now past (Some p) promise e sure =
    let same = same_promise p promise e in
    ap (λ (q : Promise). Some q.ack) (sym same) ∙ ap (met_when p) (sym sure ∙ ap (λ (q : Promise). past q.at) (sym same))

-- a list of no length
pub no_ups : (ups : List Up) → length ups ≡ 0 → ups ≡ []
no_ups [] e = refl
no_ups (u ∷ ups) e = absurd (omega (arith, e))
