-- The calls of a relay.
use Rattle.std.proofs.Common.{◌≡◌, ℕ, ◌+◌, List, [], ◌∷◌, ◌++◌, map, Bool, true, false, Option, None, Some, Result, Ok, Err, refl, sym, ap, ◌∙◌, subst, arith}
use Rattle.std.specs.Prelude.{⊤, ◌==◌, ◌≢◌, not, length, IfOk}
use Rattle.std.specs.Option.{option_map}
use Rattle.std.proofs.lemmas.Bool.Decides.{Decides-eqb}
use Rattle.norm_base.specs.Datagrams.{datagram_of}
use Rattle.norm_base.specs.Members.{is_receiver}
use Rattle.norm_base.specs.Settings.{Settings}
use Rattle.norm_base.specs.declared.fault.Memory.{Memory as NoMemory}
use Rattle.norm_base.specs.declared.kinds.Sent.{Sent as Said}
use Rattle.norm_base.specs.declared.kinds.Sent.TheVariants as said
use Rattle.norm_ext.specs.Written.{Written}
use Rattle.norm_order.specs.declared.up.Up.{Up}
use Rattle.norm_receive_rules.specs.ReceiverState.{ReceiverState}
use Rattle.norm_receive_rules.specs.ReceiverStep as heard_by
use Rattle.norm_receive_rules.specs.Receiving.{received}
use Rattle.norm_receive_rules.specs.Ticking.{ticked}
use Rattle.norm_receiver.specs.ReceiverKept.{ReceiverKept}
use Rattle.norm_receiver.specs.ReceiverSound.{StandsFor as ReceiverStands}
use Rattle.norm_safety.specs.Events.{Event, Delivered, Ticked, Offered, UpTaken, NewsAsked, Answer, Gave, Told}
use Rattle.norm_safety.specs.Events as world
use Rattle.norm_safety.specs.World.{World, receiver_at, with_given}
use Rattle.norm_safety.specs.WorldStep.{node_move, moved, world_step}
use Rattle.norm_send_rules.specs.Commanding.{refused_as}
use Rattle.norm_send_rules.specs.Hearing.{heard}
use Rattle.norm_send_rules.specs.SenderState.{SenderState}
use Rattle.norm_send_rules.specs.SenderStep as sender
use Rattle.norm_send_rules.specs.Striking.{strike_fault, struck_off}
use Rattle.norm_send_rules.specs.Telling.{told}
use Rattle.norm_send_rules.specs.Ticking.{ticked as sender_ticked}
use Rattle.norm_send_rules.specs.Watermarks.{all_past}
use Rattle.norm_send_rules.specs.declared.fault.SendFault.{SendFault}
use Rattle.norm_send_rules.specs.declared.fault.SendFault.TheVariants.{Strike as StrikeRefused}
use Rattle.norm_send_rules.specs.declared.fault.StrikeFault.{StrikeFault}
use Rattle.norm_send_rules.specs.declared.job.Job.TheVariants as job
use Rattle.norm_send_rules.specs.declared.job.Receipt.{Receipt}
use Rattle.norm_send_rules.specs.declared.job.Receipt.TheVariants.{Struck}
use Rattle.norm_send_rules.specs.declared.news.News.{News}
use Rattle.norm_sender.specs.SenderKept.{SenderKept, Stands}
use Rattle.norm_sender.specs.SenderMoves.{IsTick}
use Rattle.norm_relay.specs.Holding.{left, with_unmarked, met_by, without_promise, HoldsIf, HoldsBack, IsHeldTick}
use Rattle.norm_relay.specs.Offering.{without_receipt, given_struck}
use Rattle.norm_relay.specs.Pumping.{commands, is_met}
use Rattle.norm_relay.specs.RelayKept.{RelayKept, Agrees, StandsFor, IsReceiver, Hears, below, held_of, promise_of, with_ups, waits}
use Rattle.norm_relay.specs.RelayMoves.{IsCall, IsSent, outcome, counted, struck}
use Rattle.norm_relay.specs.RelayState.{Relaying, Pledge, upper_instance, untold}
use Rattle.norm_relay.specs.RelayStep.{RelayEvent, UpDelivered, DownDelivered, PumpAsked, UpTicked, DownTicked, DownNews, DownStruck, RelayAnswer, Took, Counted, Sent, Other, goes_on, leaves, takes, takes_all, ups_of, receiver_hears, hears_up, says_up, given_by, is_ack, receiver_ticks}
use Rattle.norm_relay.specs.Sides.{Side, happens_in}
use Rattle.norm_relay.specs.Waiting.{waiting_of}
use Rattle.norm_relay.specs.declared.pumping.Lower.{Lower}
use Rattle.norm_relay.specs.declared.relay.RelayFault.{RelayFault}
use Rattle.norm_relay.specs.declared.relay.RelayFault.TheVariants as fault
use Rattle.norm_relay.specs.declared.ticking.Held.{Held}
use Rattle.norm_relay.specs.declared.ticking.Promise.{Promise}
use Rattle.norm_relay.specs.declared.waiting.Waiting.{Waiting}
use Rattle.norm_relay.proofs.AskLemmas.{Pumps}
use Rattle.norm_relay.proofs.LowerLemmas.{Commands, lower_of}
use Rattle.norm_relay.proofs.UpperLemmas.{found_in, delivered_at, takes_profile, takes_at, ticked_at, ticked_says, ticked_taken, offered_at}

abbrev pub kept : ReceiverKept → Lower → List Waiting → Held → RelayKept
kept receiver lower waiting held = record { receiver = receiver; lower = lower; waiting = waiting; held = held }

-- a state of the rules and an answer that a relay stands for and that fits
abbrev FitsStep : RelayKept → (RelayAnswer → Type 0) → Relaying × RelayAnswer → Type 0
FitsStep k Fits step = StandsFor k step.0 × Fits step.1

-- ---- the session below

at_sender : (p : Settings) → (p.sender == p.sender) ≡ true
at_sender p = (Decides-eqb p.sender p.sender).1 refl

-- a relay after a step of its sender that leaves this world
lower_moved : (receiver : ReceiverKept) (l : Lower) (new : SenderKept) (waiting : List Waiting) (held : Held) (x : Relaying) (s : Side)
    → StandsFor (kept receiver l waiting held) x → new.p ≡ l.sender.p → s.p ≡ x.lower.p → Stands new s.world.sender
    → StandsFor (kept receiver (lower_of new l.opened l.jobs) waiting held) (record x { lower = s })
lower_moved receiver l new waiting held x s st same profile after = record {
  agrees = record {
    upper = record { profile = st.agrees.upper.profile; member = st.agrees.upper.member; receiver = st.agrees.upper.receiver };
    lower = record { profile = same ∙ st.agrees.lower.profile ∙ sym profile; sender = after; opened = st.agrees.lower.opened; jobs = st.agrees.lower.jobs };
    held = st.agrees.held;
  };
  waiting = st.waiting;
}

pub delivered_down : (receiver : ReceiverKept) (l : Lower) (new : SenderKept) (waiting : List Waiting) (held : Held) (bytes : List ℕ) (now : ℕ)
    → new.p ≡ l.sender.p → ((s : SenderState) → Stands l.sender s → Stands new (heard l.sender.p s bytes now))
    → IsCall (kept receiver l waiting held) (kept receiver (lower_of new l.opened l.jobs) waiting held) (DownDelivered bytes now) (λ answer. ⊤)
delivered_down receiver l new waiting held bytes now same h x st =
    let p = x.lower.p in
    let w = x.lower.world in
    let is : (world_step p w (Delivered p.sender bytes now 0)).0.sender ≡ heard p w.sender bytes now =
    ap (λ b. (moved p w (node_move b (receiver_at w p.sender) (sender.Delivered bytes now) (heard_by.Delivered bytes now 0))).0.sender) (at_sender p) in
    let after = subst (λ (q : Settings). Stands new (heard q w.sender bytes now)) st.agrees.lower.profile (h w.sender st.agrees.lower.sender) in (
      lower_moved receiver l new waiting held x (happens_in x.lower (Delivered p.sender bytes now 0)).0 st same refl
          (subst (λ (t : SenderState). Stands new t) (sym is) after),
      tt,
    )

given_sender : (node : ℕ) (datagram : Option Written) (w : World) → (with_given node datagram w).sender ≡ w.sender
given_sender node None w = refl
given_sender node (Some datagram) w = refl

pub ticked_down : (receiver : ReceiverKept) (l : Lower) (new : SenderKept) (waiting : List Waiting) (held : Held) (now : ℕ) (out : List ℕ) (answer : Said)
    → new.p ≡ l.sender.p → ((s : SenderState) → Stands l.sender s → IsTick new out answer (sender_ticked l.sender.p s now))
    → IsCall (kept receiver l waiting held) (kept receiver (lower_of new l.opened l.jobs) waiting held) (DownTicked now) (IsSent answer out)
ticked_down receiver l new waiting held now out answer same h x st =
    let p = x.lower.p in
    let w = x.lower.world in
    let step = sender_ticked p w.sender now in
    let is : world_step p w (Ticked p.sender now) ≡ (with_given p.sender step.1 (record w { sender = step.0 }), world.Sent step.1) =
    ap (λ b. moved p w (node_move b (receiver_at w p.sender) (sender.Ticked now) (heard_by.Ticked now))) (at_sender p) in
    let after = subst (λ (q : Settings). IsTick new out answer (sender_ticked q w.sender now)) st.agrees.lower.profile (h w.sender st.agrees.lower.sender) in (
      lower_moved receiver l new waiting held x (happens_in x.lower (Ticked p.sender now)).0 st same refl
          (subst (λ (t : SenderState). Stands new t)
          (sym (ap (λ (v : World × Answer). v.0.sender) is ∙ given_sender p.sender step.1 (record w { sender = step.0 }))) after.stands),
      subst (λ (a : Answer). IsSent answer out (Sent (given_by a))) (sym (ap (λ (v : World × Answer). v.1) is)) after.octets,
    )

pub told_news : (receiver : ReceiverKept) (l : Lower) (new : SenderKept) (waiting : List Waiting) (held : Held) (news : Option News)
    → new.p ≡ l.sender.p → ((s : SenderState) → Stands l.sender s → Stands new (told s).0 × (news ≡ (told s).1))
    → IsCall (kept receiver l waiting held) (kept receiver (lower_of new l.opened l.jobs) waiting held) DownNews (λ answer. answer ≡ Other (Told news))
told_news receiver l new waiting held news same h x st =
    let after = h x.lower.world.sender st.agrees.lower.sender in (
      lower_moved receiver l new waiting held x (happens_in x.lower NewsAsked).0 st same refl after.0,
      ap (λ (n : Option News). Other (Told n)) (sym after.1),
    )

-- ---- strikes

abbrev strikes_by : SenderState → ℕ → Option StrikeFault → SenderState × Result Receipt StrikeFault
strikes_by s node o = elim o [ Some fault ↦ (s, Err fault) | None ↦ (struck_off node s, Ok (Struck node)) ]

struck_receipt : (s : SenderState) (node : ℕ) (receipt : Receipt) (o : Option StrikeFault) → (refused_as StrikeRefused (strikes_by s node o).1) ≡ Ok receipt
    → receipt ≡ Struck node
struck_receipt s node receipt None e = inside (Struck node) receipt (refused_as StrikeRefused (Ok (Struck node))) refl e
  where
    inside : (a b : Receipt) (r : Result Receipt SendFault) → r ≡ Ok a → r ≡ Ok b → b ≡ a
    inside a b r e f = cc
struck_receipt s node receipt (Some fault) e = absurd (cc)

-- a relay agrees after a strike, which is told so
abbrev pub Strikes : Lower → Lower → ℕ → ℕ → Result (Unit {0}) SendFault → Type 0
Strikes l new now node t = (k : RelayKept) (x : Relaying) → Agrees (below l k) x
    → Agrees (below new k) (commands now (job.Strike node) x).0 × (given_struck node t ≡ (commands now (job.Strike node) x).1)

pub strike_told : (l new : Lower) (now node : ℕ) (answer : Result Receipt SendFault) (t : Result (Unit {0}) SendFault) → Commands l new now (job.Strike node) answer
    → t ≡ without_receipt answer → Strikes l new now node t
strike_told l new now node answer t h is k x a =
    let step = h k x a in (step.0, ap (given_struck node) is ∙ go answer step.1)
  where
    go : (r : Result Receipt SendFault) → r ≡ (commands now (job.Strike node) x).1 → given_struck node (without_receipt r) ≡ (commands now (job.Strike node) x).1
    go (Ok receipt) e =
        ap (λ (r : Receipt). Ok r) (sym (struck_receipt x.lower.world.sender node receipt (strike_fault x.lower.world.sender node) (sym e))) ∙ e
    go (Err fault) e = e

given_again : (node : ℕ) (t : Result (Unit {0}) SendFault) → struck node (outcome (Ok t)) ≡ given_struck node t
given_again node (Ok unit) = refl
given_again node (Err fault) = refl

pub strike_called : (receiver : ReceiverKept) (l new : Lower) (waiting : List Waiting) (held : Held) (node now : ℕ)
    (told : Result (Result (Unit {0}) SendFault) NoMemory) (result : Result (Unit {0}) RelayFault) → result ≡ outcome told
    → IfOk told (λ t. Strikes l new now node t) → result ≢ Err fault.Memory
    → IsCall (kept receiver l waiting held) (kept receiver new waiting held) (DownStruck node now) (λ answer. answer ≡ Other (Gave (struck node result)))
strike_called receiver l new waiting held node now (Err memory) result is h other x st = absurd (other is)
strike_called receiver l new waiting held node now (Ok t) result is h other x st =
    let step = h (kept receiver l waiting held) x st.agrees in (
      record { agrees = step.0; waiting = st.waiting },
      ap (λ r. Other (Gave r)) (sym step.1 ∙ sym (given_again node t) ∙ ap (struck node) (sym is)),
    )

-- ---- a pump

counts_again : (t : Result ℕ SendFault) → counted (outcome (Ok t)) ≡ t
counts_again (Ok count) = refl
counts_again (Err fault) = refl

pub pump_called : (receiver : ReceiverKept) (l new : Lower) (waiting waiting' : List Waiting) (held held' : Held) (now : ℕ)
    (told : Result (Result ℕ SendFault) NoMemory) (result : Result ℕ RelayFault) → result ≡ outcome told
    → IfOk told (λ t. Pumps now waiting held l waiting' held' new t) → result ≢ Err fault.Memory
    → IsCall (kept receiver l waiting held) (kept receiver new waiting' held') (PumpAsked now) (λ answer. answer ≡ Counted (counted result))
pump_called receiver l new waiting waiting' held held' now (Err memory) result is h other x st = absurd (other is)
pump_called receiver l new waiting waiting' held held' now (Ok t) result is h other x st =
    let step = h (kept receiver l waiting held) x st in
    (step.0, ap Counted (sym step.1 ∙ sym (counts_again t) ∙ ap counted (sym is)))

-- ---- what comes from above

abbrev by_waiting : List ℕ → ℕ → ℕ → Relaying → List Up → Relaying × RelayAnswer
by_waiting bytes now draw x waiting = elim waiting [
  | u ∷ ups ↦ (x, Took false)
  | [] ↦ (takes_all (hears_up bytes now draw x), Took true)
]

pub is_busy : (k : RelayKept) (bytes : List ℕ) (now draw : ℕ) → (k.waiting ≡ [] → ⊥) → IsCall k k (UpDelivered bytes now draw) (λ answer. answer ≡ Took false)
is_busy k bytes now draw some x st = go x.waiting st.waiting
  where
    go : (ups : List Up) → k.waiting ≡ map waiting_of ups → FitsStep k (λ answer. answer ≡ Took false) (by_waiting bytes now draw x ups)
    go [] e = absurd (some e)
    go (u ∷ ups) e = (st, refl)

-- all hand-ups are taken, of a side whose receiver is in this state
abbrev taken_side : ℕ → Side → Side
taken_side node s = takes node (ups_of (receiver_at s.world node)) s

hears_then : (new : ReceiverKept) (node : ℕ) (s : Side) (r : ReceiverState) → is_receiver s.p node ≡ true → receiver_at s.world node ≡ Some r → new.p ≡ s.p
    → ReceiverStands new (with_ups [] r) → Hears new node (taken_side node s)
hears_then new node s r member found profile stands =
    let ups = ups_of (receiver_at s.world node) in
    let same : r.holding.ups ≡ ups = sym (ap ups_of found) in
    let p : (takes node ups s).p ≡ s.p = takes_profile node ups s in
    record {
      profile = profile ∙ sym p;
      member = ap (λ (q : Settings). is_receiver q node) p ∙ member;
      receiver = subst (IsReceiver new) (sym (takes_at node ups s r found same)) (stands, refl);
    }

-- a relay after its receiver heard a datagram, by whether that went on to another instance
heard_stands : (goes : Bool) (receiver : ReceiverKept) (l : Lower) (waiting waiting' : List Waiting) (held held' : Held) (x : Relaying) (s : Side)
    → StandsFor (kept receiver l waiting held) x → (new : ReceiverKept) → Hears new x.node (taken_side x.node s)
    → held' ≡ left goes held → waiting' ≡ map waiting_of (x.waiting ++ ups_of (receiver_at s.world x.node))
    → StandsFor (kept new l waiting' held') (takes_all (leaves goes (record x { upper = s })))
heard_stands true receiver l waiting waiting' held held' x s st new hears is waits = record {
  agrees = record {
    upper = record { profile = hears.profile; member = hears.member; receiver = hears.receiver };
    lower = record { profile = st.agrees.lower.profile; sender = st.agrees.lower.sender; opened = st.agrees.lower.opened; jobs = st.agrees.lower.jobs };
    held = is;
  };
  waiting = waits;
}
heard_stands false receiver l waiting waiting' held held' x s st new hears is waits = record {
  agrees = record {
    upper = record { profile = hears.profile; member = hears.member; receiver = hears.receiver };
    lower = record { profile = st.agrees.lower.profile; sender = st.agrees.lower.sender; opened = st.agrees.lower.opened; jobs = st.agrees.lower.jobs };
    held = is ∙ st.agrees.held;
  };
  waiting = waits;
}

pub is_taken : (receiver heard new : ReceiverKept) (l : Lower) (waiting waiting' : List Waiting) (held held' : Held) (bytes : List ℕ) (now draw : ℕ)
    → waiting ≡ [] → heard.p ≡ receiver.p
    → ((s : ReceiverState) → ReceiverStands receiver s → ReceiverStands heard (received receiver.p s bytes now draw))
    → ((s : ReceiverState) → ReceiverStands receiver s → held' ≡ left (goes_on s.instance (received receiver.p s bytes now draw).instance) held)
    → new.p ≡ heard.p → ((s : ReceiverState) → ReceiverStands heard s → ReceiverStands new (with_ups [] s))
    → ((s : ReceiverState) → ReceiverStands heard s → waiting' ≡ waiting ++ map waiting_of s.holding.ups)
    → IsCall (kept receiver l waiting held) (kept new l waiting' held') (UpDelivered bytes now draw) (λ answer. answer ≡ Took true)
is_taken receiver heard new l waiting waiting' held held' bytes now draw none heard_p hears leaving new_p taken waits x st = go x.waiting refl (sym none ∙ st.waiting)
  where
    s : Side
    s = (happens_in x.upper (Delivered x.node bytes now draw)).0

    takes_it : (r : ReceiverState) → receiver_at x.upper.world x.node ≡ Some r → ReceiverStands receiver r → x.waiting ≡ []
        → StandsFor (kept new l waiting' held') (takes_all (hears_up bytes now draw x))
    takes_it r found stands empty =
        let q = x.upper.p in
        let after : ReceiverState = received q r bytes now draw in
        let now_there : receiver_at s.world x.node ≡ Some after = delivered_at x.upper x.node now draw bytes r st.agrees.upper.member found in
        let heard_stands_for : ReceiverStands heard after =
        subst (λ (p : Settings). ReceiverStands heard (received p r bytes now draw)) st.agrees.upper.profile (hears r stands) in
        let was : upper_instance x ≡ r.instance = ap (λ (o : Option ReceiverState). elim o [ Some r ↦ r.instance | None ↦ None ]) found in
        let is : upper_instance (receiver_hears bytes now draw x) ≡ after.instance =
        ap (λ (o : Option ReceiverState). elim o [ Some r ↦ r.instance | None ↦ None ]) now_there in
        let left_so : held' ≡ left (goes_on (upper_instance x) (upper_instance (receiver_hears bytes now draw x))) held =
        subst (λ (p : Settings). held' ≡ left (goes_on r.instance (received p r bytes now draw).instance) held) st.agrees.upper.profile (leaving r stands)
        ∙ ap (λ i. left (goes_on i after.instance) held) (sym was) ∙ ap (λ i. left (goes_on (upper_instance x) i) held) (sym is) in
        heard_stands (goes_on (upper_instance x) (upper_instance (receiver_hears bytes now draw x))) receiver l waiting waiting' held held' x s st new
        (hears_then new x.node s after st.agrees.upper.member now_there (new_p ∙ heard_p ∙ st.agrees.upper.profile) (taken after heard_stands_for))
        left_so
        (waits after heard_stands_for ∙ ap (λ (ws : List Waiting). ws ++ map waiting_of after.holding.ups) none
        ∙ ap (map waiting_of) (sym (ap (λ (ups : List Up). ups ++ ups_of (receiver_at s.world x.node)) empty ∙ ap ups_of now_there)))

    go : (ups : List Up) → x.waiting ≡ ups → [] ≡ map waiting_of ups
        → FitsStep (kept new l waiting' held') (λ answer. answer ≡ Took true) (by_waiting bytes now draw x ups)
    go [] empty e =
        let f = found_in receiver (receiver_at x.upper.world x.node) st.agrees.upper.receiver in
        (takes_it f.state f.is f.stands empty, refl)
    go (u ∷ ups) empty e = absurd (cc)

-- ---- a tick above

abbrev by_pledge : ℕ → Relaying → Option Pledge → Relaying × RelayAnswer
by_pledge now x pledge = elim pledge [
  | Some pledge ↦ elim (is_met x pledge) [
    | true ↦ (record x { pledge = None }, Sent (Some pledge.datagram))
    | false ↦ receiver_ticks now x
  ]
  | None ↦ receiver_ticks now x
]

abbrev met_if : ℕ → Relaying → Pledge → Bool → Relaying × RelayAnswer
met_if now x pledge met = elim met [ true ↦ (record x { pledge = None }, Sent (Some pledge.datagram)) | false ↦ receiver_ticks now x ]

abbrev met_when : Promise → Bool → Option (List ℕ)
met_when promise past = elim past [ true ↦ Some promise.ack | false ↦ None ]

nothing_met : (octets : List ℕ) → None ≡ Some octets → ⊥
nothing_met octets e = cc

some_met : (octets : List ℕ) → Some octets ≡ None → ⊥
some_met octets e = cc

-- the acknowledgement that is met is written
pub is_met_up : (receiver : ReceiverKept) (l : Lower) (waiting : List Waiting) (held held' : Held) (now : ℕ) (ack out : List ℕ) (met : Option (List ℕ))
    → ((s : SenderState) → Stands l.sender s → met ≡ met_by (all_past s) held.promise) → met ≡ Some ack → held' ≡ without_promise held → out ≡ ack
    → IsCall (kept receiver l waiting held) (kept receiver l waiting held') (UpTicked now) (IsSent said.Datagram out)
is_met_up receiver l waiting held held' now ack out met is some gone wrote x st =
    go x.pledge
    (sym some ∙ is x.lower.world.sender st.agrees.lower.sender
    ∙ ap (λ (h : Held). met_by (all_past x.lower.world.sender) h.promise) st.agrees.held)
  where
    stands : StandsFor (kept receiver l waiting held') (record x { pledge = None })
    stands = record {
      agrees = record {
        upper = record { profile = st.agrees.upper.profile; member = st.agrees.upper.member; receiver = st.agrees.upper.receiver };
        lower = record { profile = st.agrees.lower.profile; sender = st.agrees.lower.sender; opened = st.agrees.lower.opened; jobs = st.agrees.lower.jobs };
        held = gone ∙ ap without_promise st.agrees.held;
      };
      waiting = st.waiting;
    }

    same : (a b : List ℕ) → Some a ≡ Some b → a ≡ b
    same a b e = cc

    by : (pledge : Pledge) (past : Bool) → Some ack ≡ met_when (promise_of pledge) past
        → FitsStep (kept receiver l waiting held') (IsSent said.Datagram out) (met_if now x pledge past)
    by pledge true e = (stands, ap Some (wrote ∙ same ack pledge.datagram.octets e))
    by pledge false e = absurd (some_met ack e)

    go : (o : Option Pledge) → Some ack ≡ met_by (all_past x.lower.world.sender) (option_map promise_of o)
        → FitsStep (kept receiver l waiting held') (IsSent said.Datagram out) (by_pledge now x o)
    go None e = absurd (some_met ack e)
    go (Some pledge) e = by pledge (is_met x pledge) e

-- nothing is met: the receiver ticks
unmet : (l : Lower) (held : Held) (now : ℕ) (met : Option (List ℕ)) (x : Relaying) → Stands l.sender x.lower.world.sender → held ≡ held_of x
    → ((s : SenderState) → Stands l.sender s → met ≡ met_by (all_past s) held.promise) → met ≡ None → by_pledge now x x.pledge ≡ receiver_ticks now x
unmet l held now met x st same is none =
    go x.pledge (sym none ∙ is x.lower.world.sender st ∙ ap (λ (h : Held). met_by (all_past x.lower.world.sender) h.promise) same)
  where
    by : (pledge : Pledge) (past : Bool) → None ≡ met_when (promise_of pledge) past → met_if now x pledge past ≡ receiver_ticks now x
    by pledge true e = absurd (nothing_met pledge.datagram.octets e)
    by pledge false e = refl

    go : (o : Option Pledge) → None ≡ met_by (all_past x.lower.world.sender) (option_map promise_of o) → by_pledge now x o ≡ receiver_ticks now x
    go None e = refl
    go (Some pledge) e = by pledge (is_met x pledge) e

-- the receiver's hand-ups were all taken
pub none_untaken : (k : RelayKept) (x : Relaying) (many : ℕ) → StandsFor k x → ((s : ReceiverState) → ReceiverStands k.receiver s → many ≡ length s.holding.ups)
    → many ≡ 0
none_untaken k x many st h =
    let f = found_in k.receiver (receiver_at x.upper.world x.node) st.agrees.upper.receiver in
    h f.state f.stands ∙ ap (λ (ups : List Up). length ups) f.taken

-- what the receiver says, by whether it is an acknowledgement
abbrev says_if : Written → Relaying → Bool → Relaying × RelayAnswer
says_if datagram x ack = elim ack [
  | true ↦ (record x { upper = (happens_in x.upper (Offered x.node datagram.octets)).0; unmarked = Some datagram }, Sent None)
  | false ↦ (x, Sent (Some datagram))
]

-- what a tick leaves above
hears_ticked : (new : ReceiverKept) (node now : ℕ) (s : Side) (r : ReceiverState) → is_receiver s.p node ≡ true → receiver_at s.world node ≡ Some r
    → new.p ≡ s.p → r.holding.ups ≡ [] → ReceiverStands new (ticked s.p r now).0 → Hears new node (happens_in s (Ticked node now)).0
hears_ticked new node now s r member found profile taken stands = record {
  profile = profile;
  member = member;
  receiver = subst (IsReceiver new) (sym (ticked_at s node now r member found)) (stands, ticked_taken s.p r now taken);
}

hears_offered : (new : ReceiverKept) (node : ℕ) (s : Side) (octets : List ℕ) → Hears new node s → Hears new node (happens_in s (Offered node octets)).0
hears_offered new node s octets h = record {
  profile = h.profile;
  member = h.member;
  receiver = subst (IsReceiver new) (sym (offered_at s node octets)) h.receiver;
}

says_stands : (receiver new : ReceiverKept) (l : Lower) (waiting : List Waiting) (held held' : Held) (out : List ℕ) (answer : Said) (x : Relaying) (s : Side)
    (gives : Option Written) → StandsFor (kept receiver l waiting held) x → Hears new x.node s → HoldsBack held held' (datagram_of answer out) gives
    → FitsStep (kept new l waiting held') (IsSent answer out) (says_up gives (record x { upper = s }))
says_stands receiver new l waiting held held' out answer x s None st hears holds = (
  record {
    agrees = record {
      upper = record { profile = hears.profile; member = hears.member; receiver = hears.receiver };
      lower = record { profile = st.agrees.lower.profile; sender = st.agrees.lower.sender; opened = st.agrees.lower.opened; jobs = st.agrees.lower.jobs };
      held = holds.0 ∙ st.agrees.held;
    };
    waiting = st.waiting;
  },
  holds.1,
)
says_stands receiver new l waiting held held' out answer x s (Some datagram) st hears holds = go (is_ack datagram.message) holds
  where
    go : (b : Bool) → HoldsIf b held held' (datagram_of answer out) datagram.octets
        → FitsStep (kept new l waiting held') (IsSent answer out) (says_if datagram (record x { upper = s }) b)
    go true h =
        let offered = hears_offered new x.node s datagram.octets hears in (
          record {
            agrees = record {
              upper = record { profile = offered.profile; member = offered.member; receiver = offered.receiver };
              lower = record { profile = st.agrees.lower.profile; sender = st.agrees.lower.sender; opened = st.agrees.lower.opened; jobs = st.agrees.lower.jobs };
              held = h.0 ∙ ap (with_unmarked datagram.octets) st.agrees.held;
            };
            waiting = st.waiting;
          },
          h.1,
        )
    go false h = (
      record {
        agrees = record {
          upper = record { profile = hears.profile; member = hears.member; receiver = hears.receiver };
          lower = record { profile = st.agrees.lower.profile; sender = st.agrees.lower.sender; opened = st.agrees.lower.opened; jobs = st.agrees.lower.jobs };
          held = h.0 ∙ st.agrees.held;
        };
        waiting = st.waiting;
      },
      h.1,
    )

pub is_ticked_up : (receiver new : ReceiverKept) (l : Lower) (waiting : List Waiting) (held held' : Held) (now : ℕ) (out : List ℕ) (answer : Said)
    (met : Option (List ℕ)) → ((s : SenderState) → Stands l.sender s → met ≡ met_by (all_past s) held.promise) → met ≡ None → new.p ≡ receiver.p
    → ((s : ReceiverState) → ReceiverStands receiver s → IsHeldTick new held held' out answer (ticked receiver.p s now))
    → IsCall (kept receiver l waiting held) (kept new l waiting held') (UpTicked now) (IsSent answer out)
is_ticked_up receiver new l waiting held held' now out answer met is none same ticks x st =
    let f = found_in receiver (receiver_at x.upper.world x.node) st.agrees.upper.receiver in
    let t = subst (λ (p : Settings). IsHeldTick new held held' out answer (ticked p f.state now)) st.agrees.upper.profile (ticks f.state f.stands) in
    let s : Side = (happens_in x.upper (Ticked x.node now)).0 in
    let hears = hears_ticked new x.node now x.upper f.state st.agrees.upper.member f.is (same ∙ st.agrees.upper.profile) f.taken t.stands in
    subst (FitsStep (kept new l waiting held') (IsSent answer out)) (sym (unmet l held now met x st.agrees.lower.sender st.agrees.held is none))
    (subst (λ (o : Option Written). FitsStep (kept new l waiting held') (IsSent answer out) (says_up o (record x { upper = s })))
    (sym (ticked_says x.upper x.node now f.state st.agrees.upper.member f.is))
    (says_stands receiver new l waiting held held' out answer x s (ticked x.upper.p f.state now).1 st hears t.says))

-- what holds of a relay by its parts holds of its value
pub call_of : (k v new : RelayKept) (event : RelayEvent) (Fits : RelayAnswer → Type 0) → k ≡ v → IsCall k new event Fits → IsCall v new event Fits
call_of k v new event Fits same h = subst (λ (u : RelayKept). IsCall u new event Fits) same h

-- what a relay's parts tell
pub tells_untold : (k v : RelayKept) (x : Relaying) (count : ℕ) → k ≡ v → StandsFor v x
    → ((s : SenderState) → Stands k.lower.sender s → count ≡ length s.untold_nodes + length s.untold_marks) → count ≡ untold x
tells_untold k v x count same st h = h x.lower.world.sender (subst (λ (u : RelayKept). StandsFor u x) (sym same) st).agrees.lower.sender

pub tells_instance : (k v : RelayKept) (x : Relaying) (instance : Option ℕ) → k ≡ v → StandsFor v x
    → ((s : ReceiverState) → ReceiverStands k.receiver s → instance ≡ s.instance) → instance ≡ upper_instance x
tells_instance k v x instance same st h =
    let f = found_in k.receiver (receiver_at x.upper.world x.node) (subst (λ (u : RelayKept). StandsFor u x) (sym same) st).agrees.upper.receiver in
    h f.state f.stands ∙ sym (ap (λ (o : Option ReceiverState). elim o [ Some r ↦ r.instance | None ↦ None ]) f.is)

-- whether a hand-up waits
pub waits_is : (waiting : List Waiting) (x : Relaying) (empty : Bool) → waiting ≡ map waiting_of x.waiting → (empty ≡ true → waiting ≡ [])
    → (empty ≡ false → waiting ≡ [] → ⊥) → not empty ≡ waits x
waits_is waiting x empty is none some = go x.waiting empty is none some
  where
    go : (ups : List Up) (empty : Bool) → waiting ≡ map waiting_of ups → (empty ≡ true → waiting ≡ []) → (empty ≡ false → waiting ≡ [] → ⊥)
        → not empty ≡ elim ups [ u ∷ ups ↦ true | [] ↦ false ]
    go [] true is none some = refl
    go [] false is none some = absurd (some refl is)
    go (u ∷ ups) true is none some = absurd (no (sym (none refl) ∙ is))
      where
        no : [] ≡ map waiting_of (u ∷ ups) → ⊥
        no e = cc
    go (u ∷ ups) false is none some = refl

-- whether a queue is empty
pub is_emptied : (ws : List Waiting) (len : ℕ) (empty : Bool) → length ws ≡ len → empty ≡ (len == 0) → empty ≡ true → ws ≡ []
is_emptied ws len empty many is e = go ws (many ∙ (Decides-eqb len 0).0 (sym is ∙ e))
  where
    go : (ws : List Waiting) → length ws ≡ 0 → ws ≡ []
    go [] e = refl
    go (w ∷ ws) e = absurd (omega (arith, e))

pub is_filled : (ws : List Waiting) (len : ℕ) (empty : Bool) → length ws ≡ len → empty ≡ (len == 0) → empty ≡ false → ws ≡ [] → ⊥
is_filled ws len empty many is e none = clash (sym e ∙ is ∙ (Decides-eqb len 0).1 (sym many ∙ ap length none))
  where
    clash : false ≡ true → ⊥
    clash e = cc
