-- Nobody holds a symbol of the current instance that was never sent: kept by each event of a lawful run.
use Rattle.std.proofs.Common.{◌≡◌, ℕ, zero, suc, ◌+◌, ◌<◌, cond, List, [], ◌∷◌, ◌++◌, Bool, true, false, Option, None, Some, refl, sym, ap, ◌∙◌, subst, arith}
use Rattle.std.specs.Prelude.{map, find, not, slice_get, ◌==◌, ◌&&◌, ◌||◌, option_and_then, IsTrue, IsSomeAnd, ⊤}
use Rattle.std.specs.List.{AllByRecursion, list_all, list_any}
use Rattle.std.proofs.lemmas.Bool.Decides.{Decides-eqb}
use Rattle.norm_base.specs.Settings.{Settings, InRange}
use Rattle.norm_base.specs.Members.{receivers_of}
use Rattle.norm_base.specs.declared.node.Origin.{Origin}
use Rattle.fec_plan.specs.Points.{position_before, same_position}
use Rattle.fec_plan.specs.declared.position.Position.{Position}
use Rattle.fec_plan.proofs.PositionLemmas.{positions_same}
use Rattle.norm_ext.specs.Message.{Message, Info, Data, Flush, Eot, Squelch, RepairAdv, AckReq, Opaque, Nack, Ack, Report}
use Rattle.norm_ext.specs.Written.{Written}
use Rattle.norm_order.specs.Entries.{Part, Cut, Entry}
use Rattle.norm_order.specs.Segments.{unclosed}
use Rattle.norm_send_rules.specs.Streaming.{parts_now, with_parts, cut}
use Rattle.norm_order.specs.Sets.{is_member}
use Rattle.norm_order.specs.declared.up.Up.{Up}
use Rattle.norm_receive_rules.specs.Holding.{Holding, Held}
use Rattle.norm_receive_rules.specs.Leaving.{is_in}
use Rattle.norm_receive_rules.specs.ReceiverState.{ReceiverState, receiver_opening}
use Rattle.norm_receive_rules.specs.ReceiverStep as receiver
use Rattle.norm_receive_rules.specs.Receiving.{received}
use Rattle.norm_receive_rules.specs.Ticking.{ticked as receiver_ticked}
use Rattle.norm_send_rules.specs.Closing.{round_closed}
use Rattle.norm_send_rules.specs.Commanding.{commanded}
use Rattle.norm_send_rules.specs.Hearing.{heard}
use Rattle.norm_send_rules.specs.SenderState.{SenderState, Instance, Round}
use Rattle.norm_send_rules.specs.SenderStep as sender
use Rattle.norm_send_rules.specs.Telling.{told}
use Rattle.norm_send_rules.specs.Ticking.{ticked as sender_ticked}
use Rattle.norm_send_rules.specs.declared.job.Job.{Job}
use Rattle.norm_safety.specs.Events.{Event, Commanded, Delivered, Ticked, Offered, UpTaken, NewsAsked, Answer}
use Rattle.norm_safety.specs.ClosingCompletes.{EventCompletes, ClosingCompletes}
use Rattle.norm_safety.specs.FreshWants.{wants_are_fresh, FreshWants}
use Rattle.norm_safety.specs.Hands.{hands}
use Rattle.norm_safety.specs.History.{Happening, happens, history}
use Rattle.norm_safety.specs.Jobs.{IsJob, IsEvent, AreEvents}
use Rattle.norm_safety.specs.Lawful.{sender_knows, receiver_knows, are_near, accepted_with, MayCome, LawfulFrom, Lawful}
use Rattle.norm_safety.specs.OnceEach.{order_of}
use Rattle.norm_safety.specs.RepairSuffices.{closes_by, wanted_symbols, holds, is_fresh}
use Rattle.norm_safety.specs.Said.{first_index}
use Rattle.norm_safety.specs.World.{World, world_opening, receiver_at, with_receiver, with_given, given_others, is_of, offers}
use Rattle.norm_safety.specs.WorldLaws.{nodes_of}
use Rattle.norm_safety.specs.WorldStep.{world_step, moved, node_move, receiver_move}
use Rattle.norm_safety.proofs.ClosingLemmas.{closing_completes}
use Rattle.norm_safety.proofs.EntryLemmas.{clash}
use Rattle.norm_safety.proofs.Feedback.{IsOther, SendsNothingOf, receiver_says_nothing}
use Rattle.norm_safety.proofs.HeldPasses.{HeldPass, InPass, DataPasses, received_passes}
use Rattle.norm_safety.proofs.Holding.{IsSymbolOf}
use Rattle.norm_safety.proofs.ListRun.{given_leaves}
use Rattle.norm_safety.proofs.OrderRun.{moved_node_is, happening, taken_by, found_holds, event_holds, opening_world}
use Rattle.norm_safety.proofs.ReceiverMoves.{StandingIn, SameHeld, tick_same, received_moves}
use Rattle.norm_safety.proofs.RunLemmas.{step_nodes, opening_nodes}
use Rattle.norm_safety.proofs.SenderHolds.{orders_hold}
use Rattle.norm_safety.proofs.SenderKeeps.{Keeps, heard_keeps, ticked_keeps, told_keeps}
use Rattle.norm_safety.proofs.Spoken.{IsTrueOf, SaysTrue, current_order}
use Rattle.norm_safety.proofs.TickNoted.{was_sent, SentCounts, tick_counts}
use Rattle.norm_safety.proofs.SizedOrders.{OrderCase, Rests, Enqueues, Grows, Marks, Begins, order_case}
use Rattle.norm_safety.proofs.WorldHolds.{AtNode, WorldHolds, all_filter, all_end, all_contains, all_later}
use Rattle.norm_safety.proofs.WorldLemmas.{world_laws}
use Rattle.norm_safety.proofs.WorldMoves.{at_node, put_in, found_put, found_other}

-- what a datagram says of a symbol of the current instance counts as sent
abbrev pub Counts : SenderState → Written → Type 0
Counts s o = DataPasses (was_sent s) s.current.id o.indices o.message

-- what a receiver of the current instance holds was sent
abbrev pub HoldsSent : SenderState → Option ReceiverState → Type 0
HoldsSent s None = ⊤
HoldsSent s (Some r) = InPass (was_sent s) s.current.id r

-- What is kept of a world: each symbol of the current instance that was said, or is held by a receiver there, counts as sent.
pub record Sent (w : World) : Type 0 where
  pub offered : AllByRecursion (λ (o : ℕ × Written). Counts w.sender o.1) w.offered
  pub given : AllByRecursion (λ (o : ℕ × Written). Counts w.sender o.1) w.given
  pub held : (node : ℕ) → HoldsSent w.sender (receiver_at w node)

-- ---- a sender that goes on

-- in the same instance, in which what was sent stays so
pub record SendsOn (s t : SenderState) : Type 0 where
  pub id : t.current.id ≡ s.current.id
  pub sent : (at : Position) → was_sent s at ≡ true → was_sent t at ≡ true

counts_later : (s t : SenderState) (o : Written) → SendsOn s t → Counts s o → Counts t o
counts_later s t o on h = go o.message h
  where
    go : (m : Message) → DataPasses (was_sent s) s.current.id o.indices m → DataPasses (was_sent t) t.current.id o.indices m
    go (Data m) h = λ same. on.sent _ (h (same ∙ on.id))
    go (Info m) h = tt
    go (Flush m) h = tt
    go (Eot m) h = tt
    go (Squelch m) h = tt
    go (RepairAdv m) h = tt
    go (AckReq m) h = tt
    go (Opaque m) h = tt
    go (Nack m) h = tt
    go (Ack m) h = tt
    go (Report m) h = tt

holds_later : (s t : SenderState) (found : Option ReceiverState) → SendsOn s t → HoldsSent s found → HoldsSent t found
holds_later s t None on h = tt
holds_later s t (Some r) on h =
    λ is. all_later (λ (x : Held). was_sent s x.at ≡ true) (λ (x : Held). was_sent t x.at ≡ true) r.holding.held (λ x n. on.sent x.at n)
    (h (is ∙ ap (λ (n : ℕ). Some n) on.id))

all_counts : (s t : SenderState) (said : List (ℕ × Written)) → SendsOn s t → AllByRecursion (λ (o : ℕ × Written). Counts s o.1) said
    → AllByRecursion (λ (o : ℕ × Written). Counts t o.1) said
all_counts s t said on all = all_later (λ (o : ℕ × Written). Counts s o.1) (λ (o : ℕ × Written). Counts t o.1) said (λ o h. counts_later s t o.1 on h) all

-- a world whose sender goes on, and whose receivers stay
quiet_sent : (w v : World) → v.receivers ≡ w.receivers → SendsOn w.sender v.sender → AllByRecursion (λ (o : ℕ × Written). Counts v.sender o.1) v.offered
    → AllByRecursion (λ (o : ℕ × Written). Counts v.sender o.1) v.given → Sent w → Sent v
quiet_sent w v same on offered given h = record {
  offered = offered;
  given = given;
  held = λ node. (
      let H : List ReceiverState → Type 0 = λ rs. HoldsSent v.sender (at_node rs node) in
      subst H (sym same) (holds_later w.sender v.sender (receiver_at w node) on (h.held node))
      );
}

same_on : (s : SenderState) → SendsOn s s
same_on s = record { id = refl; sent = λ at n. n }

keeps_on : (s t : SenderState) → Keeps s t → SendsOn s t
keeps_on s t keeps = record { id = ap (λ (i : Instance). i.id) keeps.current; sent = keeps.sent }

-- ---- an instance that began now: nobody said or holds anything of it

nothing_at : (P : Entry → Type 0) (order : List Entry) (index : ℕ) → order ≡ [] → IsSomeAnd (slice_get order index) P → ⊥
nothing_at P order index none h = (let S : List Entry → Type 0 = λ entries. IsSomeAnd (slice_get entries index) P in subst S none h)

anew_sent : (p : Settings) (past : List Happening) (accepted : List Origin) (v : World) → v.sender.current.order ≡ [] → WorldHolds p past accepted v → Sent v
anew_sent p past accepted v none holds = record {
  offered = each v.offered holds.offered;
  given = each v.given holds.given;
  held = λ node. held node (receiver_at v node) (holds.nodes node);
}
  where
    nothing : order_of v.sender v.sender.current.id ≡ []
    nothing = current_order v.sender holds.once.ids ∙ none

    one : (indices : List ℕ) (m : Message) → IsTrueOf p v.sender indices m → DataPasses (was_sent v.sender) v.sender.current.id indices m
    one indices (Data m) h = λ same. absurd (nothing_at _ (order_of v.sender m.head.instance) (first_index indices) (ap (order_of v.sender) same ∙ nothing) h.1)
    one indices (Info m) h = tt
    one indices (Flush m) h = tt
    one indices (Eot m) h = tt
    one indices (Squelch m) h = tt
    one indices (RepairAdv m) h = tt
    one indices (AckReq m) h = tt
    one indices (Opaque m) h = tt
    one indices (Nack m) h = tt
    one indices (Ack m) h = tt
    one indices (Report m) h = tt

    each : (said : List (ℕ × Written)) → AllByRecursion (λ (o : ℕ × Written). SaysTrue p v.sender o.1) said → AllByRecursion (λ (o : ℕ × Written). Counts v.sender o.1) said
    each [] all = tt
    each (o ∷ said) all = (one o.1.indices o.1.message all.0.1, each said all.1)

    none_held : (symbols : List Held) → AllByRecursion (IsSymbolOf p (order_of v.sender v.sender.current.id)) symbols
        → AllByRecursion (λ (x : Held). was_sent v.sender x.at ≡ true) symbols
    none_held [] all = tt
    none_held (x ∷ symbols) all = absurd (nothing_at _ (order_of v.sender v.sender.current.id) x.at.index nothing all.0)

    held : (node : ℕ) (found : Option ReceiverState) → AtNode p v.sender past node found → HoldsSent v.sender found
    held node None at = tt
    held node (Some r) at = λ is. (
        let S : Option ℕ → Type 0 = λ instance. StandingIn p v.sender (hands past node) r instance in
        none_held r.holding.held (subst S is at.stands).symbols
        )

-- ---- a receiver that moved

put_sent : (s : SenderState) (w v : World) (node : ℕ) (r t : ReceiverState) → receiver_at w node ≡ Some r → t.node ≡ r.node
    → v.receivers ≡ (with_receiver t w).receivers → HoldsSent s (Some t) → ((other : ℕ) → HoldsSent s (receiver_at w other)) → (other : ℕ)
    → HoldsSent s (receiver_at v other)
put_sent s w v node r t found same receivers now all other = go (t.node == other) refl
  where
    here : r.node ≡ node
    here = world_laws.found w node r found

    at_v : receiver_at v other ≡ at_node (map (put_in t) w.receivers) other
    at_v = ap (λ (rs : List ReceiverState). at_node rs other) receivers

    go : (b : Bool) → (t.node == other) ≡ b → HoldsSent s (receiver_at v other)
    go true e =
        let t_is : t.node ≡ other = (Decides-eqb t.node other).0 e in
        let there : at_node w.receivers t.node ≡ Some r = ap (at_node w.receivers) (same ∙ here) ∙ found in
        let at : receiver_at v other ≡ Some t = at_v ∙ ap (at_node (map (put_in t) w.receivers)) (sym t_is) ∙ found_put t r w.receivers there in
        let H : Option ReceiverState → Type 0 = λ o. HoldsSent s o in subst H (sym at) now
    go false e =
        let not_t : t.node ≡ other → ⊥ = λ is. clash (sym e ∙ (Decides-eqb t.node other).1 is) in
        let at : receiver_at v other ≡ receiver_at w other = at_v ∙ found_other t w.receivers other not_t in
        let H : Option ReceiverState → Type 0 = λ o. HoldsSent s o in subst H (sym at) (all other)

moved_sent : (w v : World) (node : ℕ) (r t : ReceiverState) → receiver_at w node ≡ Some r → t.node ≡ r.node → v.sender ≡ w.sender
    → v.receivers ≡ (with_receiver t w).receivers → v.offered ≡ w.offered → AllByRecursion (λ (o : ℕ × Written). Counts w.sender o.1) v.given
    → InPass (was_sent w.sender) w.sender.current.id t → Sent w → Sent v
moved_sent w v node r t found same sender receivers offered given now h = record {
  offered = (
      let O : SenderState → Type 0 = λ s. AllByRecursion (λ (o : ℕ × Written). Counts s o.1) v.offered in
      let L : List (ℕ × Written) → Type 0 = λ said. AllByRecursion (λ (o : ℕ × Written). Counts w.sender o.1) said in
      subst O (sym sender) (subst L (sym offered) h.offered)
      );
  given = (let G : SenderState → Type 0 = λ s. AllByRecursion (λ (o : ℕ × Written). Counts s o.1) v.given in subst G (sym sender) given);
  held = λ other. (
      let H : SenderState → Type 0 = λ s. HoldsSent s (receiver_at v other) in
      subst H (sym sender) (put_sent w.sender w v node r t found same receivers now h.held other)
      );
}

-- ---- an event

command_sent : (p : Settings) (past : List Happening) (accepted after : List Origin) (w : World) (by : Origin) (job : Job) → IsJob job
    → WorldHolds p past accepted w → (next : List Happening) → WorldHolds p next after (record w { sender = (commanded p w.sender by job).0 }) → Sent w
    → Sent (record w { sender = (commanded p w.sender by job).0 })
command_sent p past accepted after w by job is holds next then h =
    go (commanded p w.sender by job).0 (order_case p w.sender by job is) then
  where
    still : (t : SenderState) → SendsOn w.sender t → Sent (record w { sender = t })
    still t on = quiet_sent w (record w { sender = t }) refl on (all_counts w.sender t w.offered on h.offered) (all_counts w.sender t w.given on h.given) h

    -- a cut sends nothing
    cuts : (n : ℕ) (parts : List Part) → SendsOn w.sender (elim n [ zero ↦ w.sender | suc k ↦ with_parts parts w.sender ])
    cuts zero parts = same_on w.sender
    cuts (suc n) parts = record { id = refl; sent = λ at n. n }

    cut_on : SendsOn w.sender (cut p w.sender)
    cut_on = cuts (unclosed p.e (parts_now w.sender)) (parts_now w.sender ++ Cut ∷ [])

    go : (t : SenderState) → OrderCase p w.sender by t → WorldHolds p next after (record w { sender = t }) → Sent (record w { sender = t })
    go t (Rests same) then = still t (record { id = ap (λ (i : Instance). i.id) same.current; sent = same.sent })
    go t (Enqueues object sized none few room) then = still t (record { id = refl; sent = λ at n. n })
    go t (Grows part octets there spent crowded) then = still t (record { id = refl; sent = λ at n. n })
    go t (Marks same) then =
        still t (record { id = ap (λ (i : Instance). i.id) same.current ∙ cut_on.id; sent = λ at n. same.sent at (cut_on.sent at n) })
    go t (Begins id unused few) then = anew_sent p next after (record w { sender = t }) refl then

other_counts : (s : SenderState) (indices : List ℕ) (m : Message) → IsOther m → DataPasses (was_sent s) s.current.id indices m
other_counts s indices (Data m) h = absurd h
other_counts s indices (Info m) h = tt
other_counts s indices (Flush m) h = tt
other_counts s indices (Eot m) h = tt
other_counts s indices (Squelch m) h = tt
other_counts s indices (RepairAdv m) h = tt
other_counts s indices (AckReq m) h = tt
other_counts s indices (Opaque m) h = tt
other_counts s indices (Nack m) h = tt
other_counts s indices (Ack m) h = tt
other_counts s indices (Report m) h = tt

given_counts : (s : SenderState) (node : ℕ) (sent : Option Written) (w : World) → SentCounts s sent → AllByRecursion (λ (o : ℕ × Written). Counts s o.1) w.given
    → AllByRecursion (λ (o : ℕ × Written). Counts s o.1) (with_given node sent w).given
given_counts s node None w h all = all_filter (λ (o : ℕ × Written). Counts s o.1) _ w.given all
given_counts s node (Some datagram) w h all =
    all_end (λ (o : ℕ × Written). Counts s o.1) (given_others node w) (node, datagram) (all_filter (λ (o : ℕ × Written). Counts s o.1) _ w.given all) h

nothing_counts : (s : SenderState) (sent : Option Written) → SendsNothingOf sent → SentCounts s sent
nothing_counts s None h = tt
nothing_counts s (Some o) h = other_counts s o.indices o.message h.1

given_receivers : (node : ℕ) (sent : Option Written) (w : World) → (with_given node sent w).receivers ≡ w.receivers
given_receivers node None w = refl
given_receivers node (Some datagram) w = refl

-- what stays held stays sent
same_passes : (s : SenderState) (r t : ReceiverState) → SameHeld r t → InPass (was_sent s) s.current.id r → InPass (was_sent s) s.current.id t
same_passes s r t same h =
    λ is. (let A : Holding → Type 0 = λ holding. HeldPass (was_sent s) holding in subst A (sym same.holding) (h (sym same.instance ∙ is)))

event_sent : (p : Settings) → InRange p → (past next : List Happening) (accepted after : List Origin) (w : World) (e : Event) → MayCome p w accepted e → IsEvent e
    → WorldHolds p past accepted w → WorldHolds p next after (world_step p w e).0 → Sent w → Sent (world_step p w e).0
event_sent p range past next accepted after w (Commanded by job now) may is holds then h = command_sent p past accepted after w by job is holds next then h
event_sent p range past next accepted after w (Delivered node octets now draw) may is holds then h = go (node == p.sender) (receiver_at w node) refl may.near
  where
    o : Written
    o = may.datagram

    says : SaysTrue p w.sender may.datagram
    says = all_contains (λ (o : ℕ × Written). SaysTrue p w.sender o.1) w.offered (may.from, may.datagram) holds.offered may.offered

    counts : Counts w.sender may.datagram
    counts = all_contains (λ (o : ℕ × Written). Counts w.sender o.1) w.offered (may.from, may.datagram) h.offered may.offered

    go : (own : Bool) (found : Option ReceiverState) → receiver_at w node ≡ found
        → are_near (elim own [ true ↦ sender_knows w.sender may.datagram.message | false ↦ option_and_then (λ r. receiver_knows r may.datagram.message) found ]) may.datagram.indices ≡ true
        → Sent (moved p w (node_move own found (sender.Delivered octets now) (receiver.Delivered octets now draw))).0
    go true found e close =
        let t : SenderState = heard p w.sender octets now in
        let on = keeps_on w.sender t (heard_keeps p w.sender octets now) in
        quiet_sent w (record w { sender = t }) refl on (all_counts w.sender t w.offered on h.offered) (all_counts w.sender t w.given on h.given) h
    go false None e close = h
    go false (Some r) e close =
        let t : ReceiverState = received p r octets now draw in
        let H : Option ReceiverState → Type 0 = λ found. HoldsSent w.sender found in
        moved_sent w (with_receiver t w) node r t e (moved_node_is p w.sender r t (received_moves p range w.sender r may.datagram octets now draw (orders_hold p w.sender holds.sender) says may.same close)) refl refl refl h.given
        (received_passes (was_sent w.sender) w.sender.current.id p w.sender r may.datagram octets now draw says counts may.same close (subst H e (h.held node))) h
event_sent p range past next accepted after w (Ticked node now) may is holds then h = go (node == p.sender) (receiver_at w node) refl
  where
    go : (own : Bool) (found : Option ReceiverState) → receiver_at w node ≡ found
        → Sent (moved p w (node_move own found (sender.Ticked now) (receiver.Ticked now))).0
    go true found e =
        let t : SenderState = (sender_ticked p w.sender now).0 in
        let sent : Option Written = (sender_ticked p w.sender now).1 in
        let v : World = record w { sender = t } in
        let on = keeps_on w.sender t (ticked_keeps p w.sender now) in
        let leaves = given_leaves p.sender sent v in
        let S : SenderState → Type 0 = λ s. SendsOn w.sender s in
        let O : List (ℕ × Written) → Type 0 = λ said. AllByRecursion (λ (o : ℕ × Written). Counts t o.1) said in
        let P : SenderState → List (ℕ × Written) → Type 0 = λ s said. AllByRecursion (λ (o : ℕ × Written). Counts s o.1) said in
        let Q : SenderState → Type 0 = λ s. P s (with_given p.sender sent v).offered in
        let R : SenderState → Type 0 = λ s. P s (with_given p.sender sent v).given in
        quiet_sent w (with_given p.sender sent v) (given_receivers p.sender sent v) (subst S (sym leaves.0) on)
        (subst Q (sym leaves.0) (subst O (sym leaves.1) (all_counts w.sender t w.offered on h.offered)))
        (subst R (sym leaves.0) (given_counts t p.sender sent v (tick_counts p w.sender now) (all_counts w.sender t w.given on h.given))) h
    go false None e = h
    go false (Some r) e =
        let t : ReceiverState = (receiver_ticked p r now).0 in
        let sent : Option Written = (receiver_ticked p r now).1 in
        let same = tick_same p r now in
        let v : World = with_receiver t w in
        let leaves = given_leaves r.node sent v in
        let H : Option ReceiverState → Type 0 = λ found. HoldsSent w.sender found in
        moved_sent w (with_given r.node sent v) node r t e same.node leaves.0 (given_receivers r.node sent v) leaves.1
        (given_counts w.sender r.node sent v (nothing_counts w.sender sent (receiver_says_nothing p r now)) h.given)
        (same_passes w.sender r t same (subst H e (h.held node))) h
event_sent p range past next accepted after w (Offered node octets) may is holds then h = go (find (is_of node octets) w.given) refl
  where
    go : (found : Option (ℕ × Written)) → find (is_of node octets) w.given ≡ found → Sent (offers found node w)
    go None e = h
    go (Some o) e = quiet_sent w (offers (Some o) node w) refl (same_on w.sender)
        (all_end (λ (o : ℕ × Written). Counts w.sender o.1) w.offered o h.offered
        (found_holds (λ (o : ℕ × Written). Counts w.sender o.1) (is_of node octets) w.given o h.given e))
        (all_filter (λ (o : ℕ × Written). Counts w.sender o.1) _ w.given h.given) h
event_sent p range past next accepted after w (UpTaken node) may is holds then h = go (receiver_at w node) refl
  where
    ups : (r : ReceiverState) → receiver_at w node ≡ Some r → (waiting : List Up)
        → Sent (taken_by w r (elim waiting [ up ∷ more ↦ (record (r.holding) { ups = more }, Some up) | [] ↦ (r.holding, None) ])).0
    ups r e [] =
        let H : Option ReceiverState → Type 0 = λ found. HoldsSent w.sender found in
        moved_sent w (with_receiver r w) node r r e refl refl refl refl h.given (subst H e (h.held node)) h
    ups r e (up ∷ more) =
        let H : Option ReceiverState → Type 0 = λ found. HoldsSent w.sender found in
        let t : ReceiverState = record r { holding = record (r.holding) { ups = more } } in
        moved_sent w (with_receiver t w) node r t e refl refl refl refl h.given (subst H e (h.held node)) h

    go : (found : Option ReceiverState) → receiver_at w node ≡ found → Sent (moved p w (receiver_move found receiver.UpTaken)).0
    go None e = h
    go (Some r) e = ups r e r.holding.ups
event_sent p range past next accepted after w NewsAsked may is holds then h =
    let t : SenderState = (told w.sender).0 in
    let on = keeps_on w.sender t (told_keeps w.sender) in
    quiet_sent w (record w { sender = t }) refl on (all_counts w.sender t w.offered on h.offered) (all_counts w.sender t w.given on h.given) h

-- ---- nobody holds what was never sent

-- each of these numbers differs from those behind it
abbrev pub Differ : List ℕ → Type 0
Differ [] = ⊤
Differ (n ∷ ns) = AllByRecursion (λ m. (n == m) ≡ false) ns × Differ ns

differ_end : (ns : List ℕ) (x : ℕ) → AllByRecursion (λ n. n < x) ns → Differ ns → Differ (ns ++ x ∷ [])
differ_end [] x below differ = (tt, tt)
differ_end (n ∷ ns) x below differ = (all_end (λ m. (n == m) ≡ false) ns x differ.0 (apart n x below.0), differ_end ns x below.1 differ.1)
  where
    apart : (n x : ℕ) → n < x → (n == x) ≡ false
    apart n x lt = go (n == x) refl
      where
        go : (b : Bool) → (n == x) ≡ b → b ≡ false
        go true e = absurd (let same = (Decides-eqb n x).0 e in omega (arith, lt, same))
        go false e = refl

-- the receivers' ids rise
pub receivers_rise : (p : Settings) (n : ℕ) → AllByRecursion (λ m. m < p.sender + 1 + n) (receivers_of p n) × Differ (receivers_of p n)
receivers_rise p zero = (tt, tt)
receivers_rise p (suc n) =
    let more = receivers_rise p n in (
      all_end (λ m. m < p.sender + 1 + suc n) (receivers_of p n) (p.sender + 1 + n)
          (all_later (λ m. m < p.sender + 1 + n) (λ m. m < p.sender + 1 + suc n) (receivers_of p n) (λ m lt. omega arith) more.0) (omega arith),
      differ_end (receivers_of p n) (p.sender + 1 + n) more.0 more.1,
    )

-- each receiver is found by its node, where nodes differ
pub each_found : (rs : List ReceiverState) → Differ (map (λ (r : ReceiverState). r.node) rs) → AllByRecursion (λ (r : ReceiverState). at_node rs r.node ≡ Some r) rs
each_found [] differ = tt
each_found (r ∷ rs) differ = (first, later rs differ.0 (each_found rs differ.1))
  where
    first : cond (r.node == r.node) (Some r) (at_node rs r.node) ≡ Some r
    first = ap (λ (b : Bool). cond b (Some r) (at_node rs r.node)) ((Decides-eqb r.node r.node).1 refl)

    later : (some : List ReceiverState) → AllByRecursion (λ m. (r.node == m) ≡ false) (map (λ (x : ReceiverState). x.node) some)
        → AllByRecursion (λ (x : ReceiverState). at_node rs x.node ≡ Some x) some → AllByRecursion (λ (x : ReceiverState). at_node (r ∷ rs) x.node ≡ Some x) some
    later [] apart all = tt
    later (x ∷ some) apart all = (ap (λ (b : Bool). cond b (Some r) (at_node rs x.node)) apart.0 ∙ all.0, later some apart.1 all.1)

-- a symbol that is held was sent
held_sent : (test : Position → Bool) (at : Position) (held : List Held) → list_any (λ (x : Held). same_position x.at at) held ≡ true
    → AllByRecursion (λ (x : Held). test x.at ≡ true) held → test at ≡ true
held_sent test at [] e all = absurd (clash e)
held_sent test at (x ∷ held) e all = go (same_position x.at at) refl e (λ more. held_sent test at held more all.1)
  where
    go : (b : Bool) → same_position x.at at ≡ b → (b || list_any (λ (x : Held). same_position x.at at) held) ≡ true
        → (list_any (λ (x : Held). same_position x.at at) held ≡ true → test at ≡ true) → test at ≡ true
    go true is e more = (let T : Position → Type 0 = λ y. test y ≡ true in subst T (positions_same x.at at is) all.0)
    go false is e more = more e

pub fresh_at : (w : World) → Differ (nodes_of w) → Sent w → (at : Position) → is_fresh w at ≡ true
fresh_at w differ h at = go (is_member position_before at w.sender.sent) refl
  where
    one : (r : ReceiverState) → receiver_at w r.node ≡ Some r → was_sent w.sender at ≡ false → holds w.sender.current.id at r ≡ false
    one r found unsent = by (is_in r w.sender.current.id) refl
      where
        there : is_in r w.sender.current.id ≡ true → r.instance ≡ Some w.sender.current.id
        there e = of r.instance e
          where
            of : (o : Option ℕ) → (elim o [ Some current ↦ current == w.sender.current.id | None ↦ false ]) ≡ true → o ≡ Some w.sender.current.id
            of None e = absurd (clash e)
            of (Some current) e = ap (λ (n : ℕ). Some n) ((Decides-eqb current w.sender.current.id).0 e)

        never : (b : Bool) → list_any (λ (x : Held). same_position x.at at) r.holding.held ≡ b → is_in r w.sender.current.id ≡ true → b ≡ false
        never true e inside =
            let H : Option ReceiverState → Type 0 = λ found. HoldsSent w.sender found in
            let all : InPass (was_sent w.sender) w.sender.current.id r = subst H found (h.held r.node) in
            absurd (clash (sym unsent ∙ held_sent (was_sent w.sender) at r.holding.held e (all (there inside))))
        never false e inside = refl

        by : (b : Bool) → is_in r w.sender.current.id ≡ b → (b && list_any (λ (x : Held). same_position x.at at) r.holding.held) ≡ false
        by false e = refl
        by true e = never (list_any (λ (x : Held). same_position x.at at) r.holding.held) refl e

    nobody : (rs : List ReceiverState) → was_sent w.sender at ≡ false → AllByRecursion (λ (r : ReceiverState). receiver_at w r.node ≡ Some r) rs
        → list_any (holds w.sender.current.id at) rs ≡ false
    nobody [] unsent all = refl
    nobody (r ∷ rs) unsent all =
        ap (λ (b : Bool). b || list_any (holds w.sender.current.id at) rs) (one r all.0 unsent) ∙ nobody rs unsent all.1

    go : (b : Bool) → was_sent w.sender at ≡ b → (b || not (list_any (holds w.sender.current.id at) w.receivers)) ≡ true
    go true e = refl
    go false e = ap not (nobody w.receivers e (each_found w.receivers differ))

all_true : (test : Position → Bool) (xs : List Position) → ((x : Position) → test x ≡ true) → list_all test xs ≡ true
all_true test [] h = refl
all_true test (x ∷ xs) h = ap (λ (b : Bool). b && list_all test xs) (h x) ∙ all_true test xs h

-- ---- a run

fresh_event : (p : Settings) (w : World) (e : Event) (answer : Answer) (v : World) → Differ (nodes_of w) → Sent w
    → IsTrue (wants_are_fresh p (record { before = w; event = e; answer = answer; after = v }))
fresh_event p w e answer v differ h = go (closes_by p w e)
  where
    go : (found : Option Round) → (elim found [
      | Some r ↦ list_all (is_fresh w) (wanted_symbols (round_closed p r w.sender).wants)
      | None ↦ true
    ]) ≡ true
    go None = refl
    go (Some r) = all_true (is_fresh w) (wanted_symbols (round_closed p r w.sender).wants) (fresh_at w differ h)

-- What is so of each event before which it is kept is so along a run.
pub run_claims : (p : Settings) → InRange p → (Claim : Happening → Type 0)
    → ((w : World) (e : Event) (answer : Answer) (v : World) → Differ (nodes_of w) → Sent w → Claim (record { before = w; event = e; answer = answer; after = v }))
    → (past : List Happening) (accepted : List Origin) (w : World) (events : List Event) → LawfulFrom p w accepted events
    → AreEvents events → WorldHolds p past accepted w → Differ (nodes_of w) → Sent w → AllByRecursion Claim (happens p w events)
unfolding happens
run_claims p range Claim each past accepted w [] lawful are holds differ h = tt
run_claims p range Claim each past accepted w (e ∷ events) lawful are holds differ h =
    let step = world_step p w e in
    let x : Happening = happening w e step in
    let next = event_holds p range past accepted w e lawful.0 are.0 holds in
    let sent = event_sent p range past (past ++ x ∷ []) accepted (accepted_with accepted e step.1) w e lawful.0 are.0 holds next h in
    let D : List ℕ → Type 0 = λ nodes. Differ nodes in (
      each w e step.1 step.0 differ h,
      run_claims p range Claim each (past ++ x ∷ []) (accepted_with accepted e step.1) step.0 events lawful.1 are.1 next (subst D (sym (step_nodes p w e)) differ) sent,
    )

nothing_held : (p : Settings) (s : SenderState) (nodes : List ℕ) (node : ℕ) → HoldsSent s (at_node (map receiver_opening nodes) node)
nothing_held p s [] node = tt
nothing_held p s (n ∷ nodes) node = go (n == node) (nothing_held p s nodes node)
  where
    go : (b : Bool) → HoldsSent s (at_node (map receiver_opening nodes) node) → HoldsSent s (cond b (Some (receiver_opening n)) (at_node (map receiver_opening nodes) node))
    go true more = λ is. tt
    go false more = more

pub claims_of : (p : Settings) → InRange p → (Claim : Happening → Type 0)
    → ((w : World) (e : Event) (answer : Answer) (v : World) → Differ (nodes_of w) → Sent w → Claim (record { before = w; event = e; answer = answer; after = v }))
    → (events : List Event) → Lawful p events → AreEvents events → AllByRecursion Claim (history p events).happened
claims_of p range Claim each events lawful are =
    let D : List ℕ → Type 0 = λ nodes. Differ nodes in
    run_claims p range Claim each [] [] (world_opening p) events lawful are (opening_world p range)
    (subst D (sym (opening_nodes (receivers_of p p.receivers))) (receivers_rise p p.receivers).1)
    (record { offered = tt; given = tt; held = λ node. nothing_held p (world_opening p).sender (receivers_of p p.receivers) node })

-- What is wanted as a round closes and was never sent is held by nobody.
pub fresh_run : (p : Settings) → InRange p → (events : List Event) → Lawful p events → AreEvents events
    → FreshWants p (history p events)
fresh_run p range events lawful are = claims_of p range (λ (x : Happening). IsTrue (wants_are_fresh p x)) (fresh_event p) events lawful are

-- What a closing wants completes a block for whoever lacks no more of it than is counted.
pub closing_run : (p : Settings) → InRange p → (events : List Event) → Lawful p events → AreEvents events
    → ClosingCompletes p (history p events)
closing_run p range events lawful are = claims_of p range (EventCompletes p) one events lawful are
  where
    one : (w : World) (e : Event) (answer : Answer) (v : World) → Differ (nodes_of w) → Sent w
        → EventCompletes p (record { before = w; event = e; answer = answer; after = v })
    one w e answer v differ h r node x c shape closes lacks =
        let H : Option ReceiverState → Type 0 = λ found. HoldsSent w.sender found in
        let sent : InPass (was_sent w.sender) w.sender.current.id x = subst H lacks.there (h.held node) in
        closing_completes p w.sender r x c shape lacks.counted lacks.is lacks.full lacks.enough (sent lacks.inside)
