-- A receiver that needs nothing and hears a flush that asks it owes an acknowledgement, and the sender that hears that lists it.
use Rattle.std.proofs.Common.{◌≡◌, ℕ, zero, suc, ◌≤◌, List, [], ◌∷◌, ◌++◌, filter, drop, length, Bool, true, false, Option, None, Some, Ok, refl, sym, ap, ◌∙◌, subst, arith, inl, inr}
use Rattle.std.specs.Prelude.{◌==◌, ◌⊎◌, cond, IfSome}
use Rattle.std.specs.List.{list_any}
use Rattle.norm_base.specs.Settings.{Settings, InRange}
use Rattle.fec_plan.specs.Points.{Point, point, position, position_before, reaches}
use Rattle.fec_plan.specs.declared.position.Position.{Position}
use Rattle.norm_ext.specs.InstanceIds.{rise, is_above}
use Rattle.norm_ext.specs.Message.{Flush, FlushCommand, Ack}
use Rattle.norm_ext.specs.ObjectIds.{object_id}
use Rattle.norm_ext.specs.Octets.{octets_of}
use Rattle.norm_ext.specs.Reading.{decoded}
use Rattle.norm_ext.specs.Written.{Written}
use Rattle.norm_order.specs.Entries.{Whole, Stream, Object, Entry}
use Rattle.norm_order.specs.Shapes.{is_source}
use Rattle.norm_order.proofs.LaterLemmas.{source_later}
use Rattle.norm_order.specs.declared.up.Up.{Up}
use Rattle.norm_receive_rules.specs.Acknowledging.{acknowledges, lost_nothing}
use Rattle.norm_receive_rules.specs.AllNeeds.{needs_nothing}
use Rattle.norm_receive_rules.specs.Holding.{Holding}
use Rattle.norm_receive_rules.specs.Leaving.{is_in, goes_to, enters, entered}
use Rattle.norm_receive_rules.specs.ReceiverState.{ReceiverState}
use Rattle.norm_receive_rules.specs.ReceiverStep.{ReceiverEvent, receiver_step}
use Rattle.norm_receive_rules.specs.ReceiverStep as receiver
use Rattle.norm_receive_rules.specs.Receiving.{flush_received, learns, received}
use Rattle.norm_receive_rules.proofs.StepLemmas.{step_laws}
use Rattle.norm_send_rules.specs.Flushing.{flushes_for}
use Rattle.norm_send_rules.specs.Hearing.{heard}
use Rattle.norm_send_rules.specs.InWindow.{current_shapes}
use Rattle.norm_send_rules.specs.Repairable.{is_stream, streams}
use Rattle.norm_send_rules.specs.SenderState.{SenderState, Instance, Watermark}
use Rattle.norm_send_rules.specs.Ticking.{ticked}
use Rattle.norm_send_rules.specs.Watermarks.{members, oldest}
use Rattle.norm_safety.specs.Acknowledges.{owes}
use Rattle.norm_safety.specs.CreditsMembers.{is_listed_past}
use Rattle.norm_safety.specs.Events.{Event, Delivered}
use Rattle.norm_safety.specs.Fronts.{IsFront}
use Rattle.norm_safety.specs.Hands.{hands}
use Rattle.norm_safety.specs.History.{Happening, happens}
use Rattle.norm_safety.specs.InTime.{FewObjects}
use Rattle.norm_safety.specs.Jobs.{AreEvents}
use Rattle.norm_safety.specs.Lawful.{Lawful, LawfulDelivery}
use Rattle.norm_safety.specs.World.{World, world_opening, receiver_at}
use Rattle.norm_safety.specs.WorldLaws.{to_receiver}
use Rattle.norm_safety.specs.WorldStep.{world_step, run}
use Rattle.norm_safety.proofs.DropsLemmas.{dropped_parts}
use Rattle.norm_safety.proofs.Feedback.{ack_of}
use Rattle.norm_safety.proofs.OrderRun.{run_of}
use Rattle.norm_safety.proofs.PlaceLemmas.{current_found}
use Rattle.norm_safety.proofs.ReceiverMoves.{StandingIn, need_same}
use Rattle.norm_safety.proofs.RunFronts.{front_laws}
use Rattle.norm_safety.proofs.SenderHolds.{point_in, entries_in, current_within}
use Rattle.norm_safety.proofs.Spoken.{IsBegun, current_begun, SpeaksTrue}
use Rattle.norm_safety.proofs.Through.{Handed}
use Rattle.norm_safety.proofs.TickTrue.{SentTrue, tick_true}
use Rattle.norm_safety.proofs.WorldHolds.{AtReceiver, AtNode, WorldHolds}
use Rattle.norm_safety.proofs.WorldLemmas.{world_laws}
use Rattle.norm_journal.proofs.NameLemmas.{both_true}
use Rattle.norm_laws.proofs.PassingWords.{goes_higher}
use Rattle.norm_laws.proofs.WholeOrders.{IsWhole, AreWhole}
use Rattle.norm_recovery.specs.Flush.{KnowsFlush}
use Rattle.norm_recovery.specs.FlushConfirmed.{is_asked}
use Rattle.norm_recovery.proofs.AskedMoves.{Goes}
use Rattle.norm_recovery.proofs.FlushHeard.{flush_heard, heard_is}
use Rattle.norm_recovery.proofs.FlushKnown.{after_run, last_came, flush_of, flush_command, small_index, HearsIt, hears_it, hears_flush, no_higher}
use Rattle.norm_recovery.proofs.FlushLacks.{before_in_run}
use Rattle.norm_recovery.proofs.FlushListed.{flush_listed}
use Rattle.norm_recovery.proofs.FlushNeeds.{flush_missing}
use Rattle.norm_recovery.proofs.FlushOwed.{ack_reads, ack_is_counted, names_due}
use Rattle.norm_recovery.proofs.MarksEnd.{oldest_ends, marks_end}
use Rattle.norm_recovery.proofs.MembersPoint.{none_lost}
use Rattle.norm_recovery.proofs.MembersRun.{Follows, FollowsAt, follows_in_run}
use Rattle.norm_recovery.proofs.MembersTail.{last_is_run}
use Rattle.norm_recovery.proofs.TailCourses.{run_joined}

-- ---- what a flush asks

-- octets are a flush of the sender's instance up to a position, which asks a node
pub record FlushAsk (p : Settings) (id : ℕ) (at : Position) (node : ℕ) (octets : List ℕ) : Type 0 where
  pub m : FlushCommand
  pub read : decoded octets ≡ Ok (Flush m)
  pub source : m.head.source ≡ p.sender
  pub instance : m.head.instance ≡ id
  pub object : m.object ≡ object_id p at.index
  pub small : at.index ≤ 32767
  pub place : position at.index m.id.block m.id.symbol ≡ at
  pub names : list_any (λ (n : ℕ). n == node) m.nodes ≡ true

pub flush_asks : (p : Settings) → InRange p → (events : List Event) → Lawful p events → AreEvents events → FewObjects (run p events).sender → (now : ℕ) (wm : Watermark)
    → ticked p (run p events).sender now ≡ flushes_for p now wm (run p events).sender → (node : ℕ) → is_asked (run p events).sender wm.at node ≡ true
    → FlushAsk p (run p events).sender.current.id wm.at node (flush_of p (run p events).sender wm).octets
flush_asks p range events lawful are few now wm goes node asked =
    let s : SenderState = (run p events).sender in
    let k = after_run p range events lawful are in
    let says : SpeaksTrue p s (flush_of p s wm) =
    subst (SentTrue p s) (ap (λ (step : SenderState × Option Written). step.1) goes) (tick_true p range s now k.holds.sender k.holds.once.ids) in
    record {
      m = flush_command p s wm;
      read = says.read;
      source = refl;
      instance = refl;
      object = refl;
      small = small_index p s (wm.at.index ∷ []) (flush_command p s wm) few says.says.1;
      place = refl;
      names = asked;
    }

-- ---- nothing is lost where nothing was dropped

nothing_dropped : (p : Settings) (order : List Entry) (ups : List Up) → dropped_parts p order (point 0 0) ++ ups ≡ ups
nothing_dropped p [] ups = refl
nothing_dropped p (x ∷ order) ups = refl

pub loses_none : (p : Settings) → InRange p → (events : List Event) → Lawful p events → AreEvents events → (node : ℕ) (r : ReceiverState)
    → receiver_at (run p events) node ≡ Some r → r.instance ≡ Some (run p events).sender.current.id → (run p events).sender.current.drop ≡ point 0 0 → r.holding.lost ≡ []
loses_none p range events lawful are node r found is none =
    let past : List Happening = happens p (world_opening p) events in
    let same = last_is_run p (world_opening p) events in
    let ran = run_of p range events lawful are in
    let w : World = run p events in
    let s : SenderState = w.sender in
    let id : ℕ = s.current.id in
    let holds : WorldHolds p past ran.accepted w = subst (WorldHolds p past ran.accepted) same ran.holds in
    let here : AtReceiver p s past node r = subst (AtNode p s past node) found (holds.nodes node) in
    let follows : Follows s past node r = subst (FollowsAt s past node) found (follows_in_run p range events lawful are node) in
    let stands : StandingIn p s (hands past node) r (Some id) = subst (StandingIn p s (hands past node) r) is here.stands in
    let ups : List Up = hands past node id ++ r.holding.ups in
    let G : Option Instance → Type 0 = λ i. Handed p (entries_in i) (point_in i) r.holding.lost ups r.holding.point in
    let found_it = current_found s.earlier s.current s.current refl holds.once.ids in
    let gone : Handed p s.current.order s.current.drop r.holding.lost ups r.holding.point = subst G found_it stands.gone in
    let clear : IsFront (dropped_parts p s.current.order s.current.drop) ups =
    (ups, sym (ap (λ (d : Point). dropped_parts p s.current.order d ++ ups) none ∙ nothing_dropped p s.current.order ups)) in
    let clean = none_lost p s.current.order s.current.drop r.holding.lost ups r.holding.point (current_within p s holds.sender) gone clear (let some = range.b.0 in some) in
    follows.lost id is clean

-- ---- a receiver hears it

-- an order of data and files has no stream
none_streams : (n : ℕ) (order : List Entry) → AreWhole order → length (filter is_stream (drop n order)) ≡ 0
none_streams n order all = none (drop n order) (dropped n order all)
  where
    dropped : (n : ℕ) (xs : List Entry) → AreWhole xs → AreWhole (drop n xs)
    dropped zero xs all = all
    dropped (suc n) [] all = tt
    dropped (suc n) (x ∷ xs) all = dropped n xs all.1

    none : (xs : List Entry) → AreWhole xs → length (filter is_stream xs) ≡ 0
    none [] all = refl
    none (x ∷ xs) all = ap (λ (b : Bool). length (cond b (x ∷ filter is_stream xs) (filter is_stream xs))) (no_stream x.object all.0) ∙ none xs all.1
      where
        no_stream : (o : Object) → IsWhole o → is_stream (record x { object = o }) ≡ false
        no_stream (Whole kind info octets) h = refl
        no_stream (Stream parts) h = absurd h

same_node : (r t : ReceiverState) (id : ℕ) → entered r id ≡ Some t → t.node ≡ r.node
same_node r t id = go (is_in r id) (goes_to r id)
  where
    same : (x y : ReceiverState) → Some x ≡ Some y → x ≡ y
    same x y e = cc

    none_some : None ≡ Some t → ⊥
    none_some e = cc

    go : (a b : Bool) → (elim a as (λ _. Option ReceiverState) [ true ↦ Some r | false ↦ elim b [ true ↦ Some (enters id r) | false ↦ None ] ]) ≡ Some t → t.node ≡ r.node
    go true b e = ap (λ (x : ReceiverState). x.node) (sym (same r t e))
    go false true e = ap (λ (x : ReceiverState). x.node) (sym (same (enters id r) t e))
    go false false e = absurd (none_some e)

-- it owes an acknowledgement then, in the sender's instance
pub record Owes (p : Settings) (id : ℕ) (at : Position) (r : ReceiverState) : Type 0 where
  pub owes : owes r at ≡ true
  pub inside : r.instance ≡ Some id

pub hears_and_owes : (p : Settings) → InRange p → (events : List Event) (node : ℕ) (octets : List ℕ) (now draw : ℕ)
    → Lawful p (events ++ Delivered node octets now draw ∷ []) → AreEvents (events ++ Delivered node octets now draw ∷ []) → FewObjects (run p events).sender
    → (node == p.sender) ≡ false → (r : ReceiverState) → receiver_at (run p events) node ≡ Some r → (wm : Watermark) → oldest (run p events).sender ≡ Some wm
    → FlushAsk p (run p events).sender.current.id wm.at node octets → AreWhole (run p events).sender.current.order
    → (run p events).sender.current.drop ≡ point 0 0 → needs_nothing p (received p r octets now draw) ≡ true
    → Owes p (run p events).sender.current.id wm.at (received p r octets now draw)
hears_and_owes p range events node octets now draw lawful' are' few other r found wm is asks whole none needs = record {
  owes = subst (λ (x : Position). owes r' x ≡ true) asks.place
      (flush_heard.owed p r it.t octets now draw wm.at.index asks.m asks.read asks.source it.enters it.named
      (subst (λ (x : Position). acknowledges it.t x asks.m.nodes ≡ true) (sym asks.place)
      (both_true (list_any (λ (n : ℕ). n == it.t.node) asks.m.nodes) _
      (ap (λ (n : ℕ). list_any (λ (m : ℕ). m == n) asks.m.nodes) (same_node r it.t asks.m.head.instance it.enters ∙ world_laws.found w node r found) ∙ asks.names)
      (both_true (position_before wm.at it.t.holding.point) (lost_nothing it.t.holding)
      (ap (λ (h : Holding). position_before wm.at h.point) (sym held) ∙ passed)
      (ap lost_none (ap (λ (h : Holding). h.lost) (sym held) ∙ lost))))));
  inside = knows.inside;
}
  where
    w : World
    w = run p events

    e : Event
    e = Delivered node octets now draw

    r' : ReceiverState
    r' = received p r octets now draw

    after : List Event
    after = events ++ Delivered node octets now draw ∷ []

    lawful : Lawful p events
    lawful = front_laws.lawful p events (Delivered node octets now draw ∷ []) lawful'

    are : AreEvents events
    are = front_laws.events events (Delivered node octets now draw ∷ []) are'

    delivery : LawfulDelivery p (run p events) node octets
    delivery = (last_came p (world_opening p) [] events (Delivered node octets now draw) lawful').1

    led : run p (events ++ Delivered node octets now draw ∷ []) ≡ (world_step p (run p events) (Delivered node octets now draw)).0
    led = run_joined p (world_opening p) events (Delivered node octets now draw ∷ [])

    to_is : to_receiver (Delivered node octets now draw) ≡ Some (node, receiver.Delivered octets now draw)
    to_is = refl

    found' : receiver_at (run p (events ++ Delivered node octets now draw ∷ [])) node ≡ Some (received p r octets now draw)
    found' = ap (λ (v : World). receiver_at v node) led ∙ world_laws.moves p (run p events) (Delivered node octets now draw) node (receiver.Delivered octets now draw) r other to_is found

    same_sender : (run p (events ++ Delivered node octets now draw ∷ [])).sender ≡ (run p events).sender
    same_sender = ap (λ (v : World). v.sender) led ∙ world_laws.sender p (run p events) (Delivered node octets now draw) other

    it : HearsIt p r asks.m wm.at
    it = hears_it p range events lawful are few node other r found octets asks.m wm.at asks.read asks.instance asks.object asks.small delivery

    knows : KnowsFlush (received p r octets now draw) (run p events).sender.current.id wm.at
    knows = hears_flush p range events lawful are few node other r found octets now draw asks.m wm.at asks.read asks.source asks.instance asks.object asks.small asks.place delivery

    held : (received p r octets now draw).holding ≡ it.t.holding
    held = ap (λ (x : ReceiverState). x.holding) (heard_is p r it.t octets now draw wm.at.index asks.m asks.read asks.source it.enters it.named)
        ∙ (need_same p now draw (flush_received asks.m wm.at.index (record (it.t) { knows = learns wm.at.index it.t.knows }))).holding

    passed : position_before wm.at (received p r octets now draw).holding.point ≡ true
    passed = go (position_before wm.at (received p r octets now draw).holding.point) refl
      where
        go : (b : Bool) → position_before wm.at (received p r octets now draw).holding.point ≡ b → b ≡ true
        go true is = refl
        go false early =
            let ends = oldest_ends p (run p after).sender wm (marks_end p range after lawful' are') (ap oldest same_sender ∙ is) in
            let D : SenderState → Type 0 = λ s. s.current.drop.index ≤ (received p r octets now draw).holding.point.index in
            let N : SenderState → Type 0 = λ s. streams s ≡ 0 in
            let K : SenderState → Type 0 = λ s. KnowsFlush (received p r octets now draw) s.current.id wm.at in
            absurd (flush_missing p (received p r octets now draw) wm.at
            (before_in_run p range after lawful' are'
            (subst N (sym same_sender) (none_streams (run p events).sender.current.drop.index (run p events).sender.current.order whole))
            node other (received p r octets now draw) found' wm.at ends (subst K (sym same_sender) knows)
            (subst D (sym same_sender) (let z = ap (λ (d : Point). d.index) none in omega (arith, z))) early) needs)

    lost : (received p r octets now draw).holding.lost ≡ []
    lost = loses_none p range after lawful' are' node (received p r octets now draw) found' (knows.inside ∙ ap (λ (s : SenderState). Some s.current.id) (sym same_sender))
        (ap (λ (s : SenderState). s.current.drop) same_sender ∙ none)

    lost_none : List ℕ → Bool
    lost_none xs = elim xs [ [] ↦ true | index ∷ more ↦ false ]

-- ---- the sender hears the acknowledgement

-- octets list a node past a position, whenever a sender that went on from this one hears them
abbrev pub Lists : Settings → SenderState → ℕ → Position → List ℕ → Type 0
Lists p s node at octets = (t : SenderState) (now : ℕ) → Goes s t → length t.current.order ≤ 32768 → is_listed_past (heard p t octets now) node at ≡ true

pub ack_lists : (p : Settings) → InRange p → (events : List Event) → Lawful p events → AreEvents events → (node : ℕ) (x : ReceiverState)
    → receiver_at (run p events) node ≡ Some x → x.instance ≡ Some (run p events).sender.current.id
    → list_any (λ (n : ℕ). n == node) (members (run p events).sender) ≡ true → (due at : Position) → x.knows.due ≡ Some due → reaches due at ≡ true
    → Lists p (run p events).sender node at (octets_of (Ack (ack_of p x due)))
ack_lists p range events lawful are node x found inside member due at is further t now goes many =
    let w : World = run p events in
    let s : SenderState = w.sender in
    let k = after_run p range events lawful are in
    let reads = ack_reads p range k.past k.accepted w k.holds node x found inside due is in
    let source : is_source (current_shapes p t) due ≡ true = source_later p s.current.order t.current.order due (let some = range.e.0 in omega (arith, some)) goes.order reads.source in
    let own : x.node ≡ node = world_laws.found w node x found in
    let in_it : x.instance ≡ Some t.current.id = inside ∙ ap (λ (n : ℕ). Some n) (sym goes.id) in
    let among : list_any (λ (n : ℕ). n == node) (members t) ≡ true = ap (list_any (λ (n : ℕ). n == node)) goes.nodes ∙ member in
    ap (λ (n : ℕ). is_listed_past (heard p t (octets_of (Ack (ack_of p x due))) now) n at) (sym own)
    ∙ flush_listed.lists p t (octets_of (Ack (ack_of p x due))) now (ack_of p x due) due at reads.read (ack_is_counted p t x node due own among in_it) (names_due p t x due many source) source further

-- ---- a receiver in the current instance does not leave it

pub stays_current : (p : Settings) → InRange p → (events : List Event) → Lawful p events → AreEvents events → (node id : ℕ) (r t : ReceiverState) (own : ReceiverEvent)
    → receiver_at (run p events) node ≡ Some t → t ≡ (receiver_step p r own).0 → (run p events).sender.current.id ≡ id → r.instance ≡ Some id
    → (receiver_step p r own).0.instance ≡ r.instance
stays_current p range events lawful are node id r t own found is current inside = go (step_laws.instance p r own)
  where
    higher : (next : ℕ) → t.instance ≡ Some next → is_above id next ≡ true → ⊥
    higher next at_next above =
        let low = no_higher p range events lawful are node t found next at_next in
        let begun = current_begun p range (run p events).sender (after_run p range events lawful are).holds.sender in
        let lt = goes_higher p id next (subst (IsBegun p) current begun) low.begun above in
        let le = low.rises in
        let same = ap (rise p.instance) current in
        omega (arith, lt, le, same)

    go : ((receiver_step p r own).0.instance ≡ r.instance) ⊎ ((next : ℕ) × ((receiver_step p r own).0.instance ≡ Some next)
        × IfSome r.instance (λ current. is_above current next ≡ true)) → (receiver_step p r own).0.instance ≡ r.instance
    go (inl same) = same
    go (inr (next, there', above)) =
        absurd (higher next (ap (λ (x : ReceiverState). x.instance) is ∙ there')
        (subst (λ (o : Option ℕ). IfSome o (λ current. is_above current next ≡ true)) inside above))
