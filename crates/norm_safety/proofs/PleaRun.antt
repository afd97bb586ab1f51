-- Coded repair suffices in each lawful run: what the NACKs of a round count is completed as it closes.
use Rattle.std.proofs.Common.{◌≡◌, ℕ, zero, suc, ◌+◌, ◌<◌, ◌≤◌, cond, List, [], ◌∷◌, ◌++◌, length, map, Bool, true, false, Option, None, Some, Result, Ok, refl, sym, ap, ◌∙◌, subst, append-nil, arith, ◌⊎◌, inl, inr}
use Rattle.std.specs.Prelude.{Contains, find, filter, slice_get, nat_eq, nat_le, ◌==◌, ◌&&◌, ⊤}
use Rattle.std.specs.List.{AllByRecursion, IsDistinct, list_all}
use Rattle.std.proofs.lemmas.Bool.Decides.{Decides-eqb}
use Rattle.norm_base.specs.Settings.{Settings, InRange}
use Rattle.norm_base.specs.declared.node.Origin.{Origin}
use Rattle.fec_plan.specs.Points.{Point, point_before}
use Rattle.fec_plan.specs.declared.position.Position.{Position}
use Rattle.norm_base.specs.Members.{is_receiver}
use Rattle.norm_ext.specs.Message.{Message, Info, Data, Flush, Eot, Squelch, RepairAdv, AckReq, Opaque, Nack, Ack, Report, NackMessage}
use Rattle.norm_ext.specs.Requests.{Request}
use Rattle.norm_ext.specs.Reading.{decoded}
use Rattle.norm_ext.specs.Written.{Written}
use Rattle.norm_ext.specs.declared.refusal.Refusal.{Refusal}
use Rattle.norm_order.specs.Entries.{Part, Cut, Object, Whole, Stream, Entry}
use Rattle.norm_order.specs.Segments.{closed_from, unclosed}
use Rattle.norm_order.specs.Shapes.{shape_of, shapes_of}
use Rattle.norm_order.proofs.UptoLemmas.{nothing_there}
use Rattle.norm_receive_rules.specs.ReceiverState.{ReceiverState}
use Rattle.norm_receive_rules.specs.ReceiverStep as receiver
use Rattle.norm_receive_rules.specs.Ticking.{ticked as receiver_ticked}
use Rattle.norm_send_rules.specs.SenderState.{SenderState, Asked, Round}
use Rattle.norm_send_rules.specs.SenderStep as sender
use Rattle.norm_send_rules.specs.SenderStep.{SenderEvent, sender_step}
use Rattle.norm_send_rules.specs.Restarting.{instances}
use Rattle.norm_send_rules.specs.Closing.{round_closed}
use Rattle.norm_send_rules.specs.InWindow.{last_index}
use Rattle.norm_send_rules.specs.Commanding.{commanded}
use Rattle.norm_send_rules.specs.Hearing.{nack_counts, message_heard, joined_round, heard, asked_now}
use Rattle.norm_send_rules.specs.Reached.{IsReached}
use Rattle.norm_send_rules.specs.Streaming.{parts_now, with_parts}
use Rattle.norm_send_rules.specs.Telling.{told}
use Rattle.norm_send_rules.specs.Ticking.{ticked as sender_ticked}
use Rattle.norm_send_rules.specs.declared.job.Job.{Job}
use Rattle.norm_send_rules.proofs.ListingLemmas.{longer}
use Rattle.norm_send_rules.proofs.ReachedLemmas.{reached_laws}
use Rattle.norm_send_rules.proofs.ShapeLemmas.{blocks_of}
use Rattle.norm_send_rules.proofs.StepLemmas.{step_holds as wants_step}
use Rattle.norm_safety.specs.Events.{Event, Commanded, Delivered, Ticked, Offered, UpTaken, NewsAsked, Answer, Sent}
use Rattle.norm_safety.specs.Jobs.{IsJob, IsEvent, AreEvents}
use Rattle.norm_safety.specs.OnceEach.{order_of, instance_ids}
use Rattle.norm_safety.specs.InOrder.{drop_of}
use Rattle.norm_safety.specs.RepairSuffices.{Plea, Pleas, plea_of, gave_plea, joins_by, joins, counted_blocks, closes_by, pleas_after, completes, is_fresh, wanted_symbols, closing_suffices, event_suffices, suffices_from, RepairSuffices}
use Rattle.norm_safety.specs.History.{Happening, happens, history}
use Rattle.norm_safety.specs.Lawful.{accepted_with, most_apart, is_near, are_near, MayCome, LawfulFrom, Lawful}
use Rattle.norm_safety.specs.WorldLaws.{nodes_of}
use Rattle.norm_safety.specs.World.{same_octets, World, world_opening, receiver_at, with_receiver, with_given, is_of, offers}
use Rattle.norm_safety.specs.WorldStep.{world_step, moved, node_move, receiver_move}
use Rattle.norm_safety.proofs.EntryLemmas.{clash}
use Rattle.norm_safety.proofs.FreshRun.{HoldsSent, Sent as SentHolds, Differ, fresh_at, claims_of}
use Rattle.norm_safety.proofs.FrontLemmas.{same_list}
use Rattle.norm_safety.proofs.HeldPasses.{HeldPass}
use Rattle.norm_safety.proofs.GoesOn.{ObjectLater, OrderLater, closed_later, later_long}
use Rattle.norm_safety.proofs.Onward.{Onward, goes_on_itself}
use Rattle.norm_safety.proofs.OrderRun.{happening, event_holds, opening_world}
use Rattle.norm_safety.proofs.PlaceLemmas.{current_found}
use Rattle.norm_safety.proofs.SenderHolds.{SenderHolds, Steps, OrderGoes, some_octets, order_later, command_steps, keeps_steps, point_in}
use Rattle.norm_safety.proofs.SenderKeeps.{heard_keeps, ticked_keeps, told_keeps}
use Rattle.norm_safety.proofs.SizedOrders.{OrderCase, Rests, Enqueues, Grows, Marks, Begins, order_case}
use Rattle.norm_safety.proofs.Spoken.{IsSpoken, current_order}
use Rattle.norm_safety.proofs.TickTrue.{SentTrue, tick_true}
use Rattle.norm_safety.proofs.TickNoted.{was_sent}
use Rattle.norm_safety.proofs.ReceiverMoves.{le_true}
use Rattle.norm_safety.proofs.WorldHolds.{WorldHolds, all_contains}
use Rattle.norm_safety.specs.AsItCame.{asked_yet}
use Rattle.norm_safety.proofs.AsItCame.{Moves, step_moves}
use Rattle.norm_safety.proofs.RoundAsks.{StepRound, step_round, joined_asks}
use Rattle.norm_safety.proofs.ShapesThen.{Longer, Grew}
use Rattle.norm_safety.proofs.PleaDefs.{Lacks, Counted, IsPlain, GivesPlea}
use Rattle.norm_safety.proofs.PleaKept.{RoundOn, Awaits, in_of, all_tested, all_is, contains_of, lacks_on, held_on, awaits_on, closing_of, joins_round}

-- ---- orders that go on have shapes that grew

longer_of : (p : Settings) → 0 < p.e → (o later : Object) → ObjectLater o later → Longer (shape_of p o) (shape_of p later)
longer_of p some (Whole kind info octets) later is =
    let L : Object → Type 0 = λ x. Longer (shape_of p (Whole kind info octets)) (shape_of p x) in
    subst L (sym is) (record { cut = refl; closed = omega arith; info = refl })
longer_of p some (Stream parts) later (more, is, none) =
    let L : Object → Type 0 = λ x. Longer (shape_of p (Stream parts)) (shape_of p x) in
    let grows = closed_later p.e parts more some none in
    let long = ap (λ (xs : List (List ℕ)). length xs) grows.1 in
    let sum = length_append (closed_from p.e [] parts) grows.0 in
    subst L (sym is) (record { cut = refl; closed = omega (arith, long, sum); info = refl })
  where
    length_append : (xs ys : List (List ℕ)) → length (xs ++ ys) ≡ length xs + length ys
    length_append [] ys = omega arith
    length_append (x ∷ xs) ys = let rest = length_append xs ys in omega (arith, rest)

pub grew_of : (p : Settings) → 0 < p.e → (order later : List Entry) → OrderLater order later → Grew (shapes_of p order) (shapes_of p later)
grew_of p some [] later h = tt
grew_of p some (x ∷ []) [] h = absurd h
grew_of p some (x ∷ []) (y ∷ later) h = longer_of p some x.object y.object h.1
grew_of p some (x ∷ z ∷ order) [] h = absurd h
grew_of p some (x ∷ z ∷ order) (y ∷ later) h = (ap (λ (w : Entry). shape_of p w.object) h.0, grew_of p some (z ∷ order) later h.1)

-- ---- what an event does to the sender

-- in the same instance, what was sent stays so, and the round has more requests, or is none
pub record Stayed (s t : SenderState) : Type 0 where
  pub id : t.current.id ≡ s.current.id
  pub sent : (at : Position) → was_sent s at ≡ true → was_sent t at ≡ true
  pub asked : (t.round ≡ None) ⊎ ((more : List Asked) × (asked_yet t ≡ asked_yet s ++ more))

-- or an instance begins, without a round
pub record Began (t : SenderState) : Type 0 where
  pub order : t.current.order ≡ []
  pub round : t.round ≡ None

pub record SenderGoes (p : Settings) (s t : SenderState) : Type 0 where
  pub steps : Steps p s t
  pub goes : Stayed s t ⊎ Began t
  pub reached : IsReached p t

same_goes : (p : Settings) (s : SenderState) → SenderHolds p s → IsReached p s → SenderGoes p s s
same_goes p s h reached = record {
  steps = record { holds = h; onward = goes_on_itself (instances s) };
  goes = inl (record { id = refl; sent = λ at n. n; asked = inr ([], sym (append-nil (asked_yet s))) });
  reached = reached;
}

-- a command leaves what was sent, where no instance begins
sent_on : (p : Settings) (s : SenderState) (by : Origin) (job : Job) → IsJob job → (commanded p s by job).0.earlier ≡ s.earlier
    → (at : Position) → was_sent s at ≡ true → was_sent (commanded p s by job).0 at ≡ true
sent_on p s by job is = go (commanded p s by job).0 (order_case p s by job is)
  where
    cuts : (n : ℕ) (parts : List Part) (at : Position) → was_sent s at ≡ true
        → was_sent (elim n as (λ _. SenderState) [ zero ↦ s | suc k ↦ with_parts parts s ]) at ≡ true
    cuts zero parts at n = n
    cuts (suc k) parts at n = n

    go : (t : SenderState) → OrderCase p s by t → t.earlier ≡ s.earlier → (at : Position) → was_sent s at ≡ true → was_sent t at ≡ true
    go t (Rests same) e at n = same.sent at n
    go t (Enqueues object sized none few room) e at n = n
    go t (Grows part octets there spent crowded) e at n = n
    go t (Marks same) e at n = same.sent at (cuts (unclosed p.e (parts_now s)) (parts_now s ++ Cut ∷ []) at n)
    go t (Begins id unused few) e at n = absurd (longer s.earlier s.current e)

-- a sender's event is one that a program can make
abbrev IsMade : SenderEvent → Type 0
IsMade (sender.Commanded by job now) = IsJob job
IsMade _ = ⊤

step_goes : (p : Settings) → InRange p → (s : SenderState) (event : SenderEvent) → IsMade event → SenderHolds p s → IsReached p s
    → SenderGoes p s (sender_step p s event).0
step_goes p range s event is h reached = record {
  steps = steps event is;
  goes = go (step_moves p (some_octets p range) s event);
  reached = reached_laws.always p s event range reached;
}
  where
    steps : (event : SenderEvent) → IsMade event → Steps p s (sender_step p s event).0
    steps (sender.Commanded by job now) is = command_steps p range s by job now is h
    steps (sender.Delivered datagram now) is =
        keeps_steps p s (heard p s datagram now) (heard_keeps p s datagram now) (wants_step p (blocks_of p range) s (sender.Delivered datagram now) h.wants) h
    steps (sender.Ticked now) is =
        keeps_steps p s (sender_ticked p s now).0 (ticked_keeps p s now) (wants_step p (blocks_of p range) s (sender.Ticked now) h.wants) h
    steps sender.NewsAsked is = keeps_steps p s (told s).0 (told_keeps s) (wants_step p (blocks_of p range) s sender.NewsAsked h.wants) h

    sent : (event : SenderEvent) → IsMade event → (sender_step p s event).0.earlier ≡ s.earlier → (at : Position) → was_sent s at ≡ true
        → was_sent (sender_step p s event).0 at ≡ true
    sent (sender.Commanded by job now) is e at n = sent_on p s by job is e at n
    sent (sender.Delivered datagram now) is e at n = (heard_keeps p s datagram now).sent at n
    sent (sender.Ticked now) is e at n = (ticked_keeps p s now).sent at n
    sent sender.NewsAsked is e at n = (told_keeps s).sent at n

    asked_of : Option Round → List Asked
    asked_of round = elim round [ Some r ↦ r.asked | None ↦ [] ]

    round : StepRound p s event (sender_step p s event).0
        → ((sender_step p s event).0.round ≡ None) ⊎ ((more : List Asked) × (asked_yet (sender_step p s event).0 ≡ asked_yet s ++ more))
    round (inl (inl e)) = inr ([], ap asked_of e ∙ sym (append-nil (asked_yet s)))
    round (inl (inr e)) = inl e
    round (inr (datagram, moment, e, adds)) = inr (map (asked_now p s) adds.nack.requests, adds.asked)

    go : Moves p s (sender_step p s event).0 → Stayed s (sender_step p s event).0 ⊎ Began (sender_step p s event).0
    go (inl stays) = inl (record { id = stays.id; sent = sent event is stays.earlier; asked = round (step_round p s event) })
    go (inr (id, unused, e)) = inr (record {
      order = ap (λ (x : SenderState). x.current.order) e;
      round = ap (λ (x : SenderState). x.round) e;
    })

given_goes : (p : Settings) (s : SenderState) (node : ℕ) (sent : Option Written) (v : World) → SenderGoes p s v.sender → SenderGoes p s (with_given node sent v).sender
given_goes p s node None v goes = goes
given_goes p s node (Some datagram) v goes = goes

pub world_goes : (p : Settings) → InRange p → (w : World) (e : Event) → IsEvent e → SenderHolds p w.sender → IsReached p w.sender
    → SenderGoes p w.sender (world_step p w e).0.sender
world_goes p range w (Commanded by job now) is h reached = step_goes p range w.sender (sender.Commanded by job now) is h reached
world_goes p range w (Delivered node octets now draw) is h reached = go (node == p.sender) (receiver_at w node)
  where
    go : (own : Bool) (found : Option ReceiverState)
        → SenderGoes p w.sender (moved p w (node_move own found (sender.Delivered octets now) (receiver.Delivered octets now draw))).0.sender
    go true found = step_goes p range w.sender (sender.Delivered octets now) tt h reached
    go false None = same_goes p w.sender h reached
    go false (Some r) = same_goes p w.sender h reached
world_goes p range w (Ticked node now) is h reached = go (node == p.sender) (receiver_at w node)
  where
    go : (own : Bool) (found : Option ReceiverState) → SenderGoes p w.sender (moved p w (node_move own found (sender.Ticked now) (receiver.Ticked now))).0.sender
    go true found =
        given_goes p w.sender p.sender (sender_ticked p w.sender now).1 (record w { sender = (sender_ticked p w.sender now).0 })
        (step_goes p range w.sender (sender.Ticked now) tt h reached)
    go false None = same_goes p w.sender h reached
    go false (Some r) = given_goes p w.sender r.node (receiver_ticked p r now).1 (with_receiver (receiver_ticked p r now).0 w) (same_goes p w.sender h reached)
world_goes p range w (Offered node octets) is h reached = go (find (is_of node octets) w.given)
  where
    go : (found : Option (ℕ × Written)) → SenderGoes p w.sender (offers found node w).sender
    go None = same_goes p w.sender h reached
    go (Some o) = same_goes p w.sender h reached
world_goes p range w (UpTaken node) is h reached = go (receiver_at w node)
  where
    go : (found : Option ReceiverState) → SenderGoes p w.sender (moved p w (receiver_move found receiver.UpTaken)).0.sender
    go None = same_goes p w.sender h reached
    go (Some r) = same_goes p w.sender h reached
world_goes p range w NewsAsked is h reached = step_goes p range w.sender sender.NewsAsked tt h reached

-- the current instance, where the sender stayed in it
pub round_on : (p : Settings) → InRange p → (s t : SenderState) → IsDistinct nat_eq (instance_ids s) → IsDistinct nat_eq (instance_ids t) → Onward s t
    → t.current.id ≡ s.current.id → ((at : Position) → was_sent s at ≡ true → was_sent t at ≡ true) → (more : List Asked) → asked_yet t ≡ asked_yet s ++ more
    → RoundOn p s t
round_on p range s t differ differs onward id sent more asked =
    let later = order_later s t onward s.current.id in
    let L : List Entry → Type 0 = λ order. OrderLater order t.current.order in
    let M : List Entry → Type 0 = λ order. OrderLater (order_of s s.current.id) order in
    let D : Point → Type 0 = λ d. point_before t.current.drop d ≡ false in
    let E : Point → Type 0 = λ d. point_before d (drop_of s s.current.id) ≡ false in
    let was = current_order s differ in
    let now : order_of t s.current.id ≡ t.current.order = ap (order_of t) (sym id) ∙ current_order t differs in
    let was_drop : drop_of s s.current.id ≡ s.current.drop = ap point_in (current_found s.earlier s.current s.current refl differ) in
    let now_drop : drop_of t s.current.id ≡ t.current.drop = ap (drop_of t) (sym id) ∙ ap point_in (current_found t.earlier t.current t.current refl differs) in
    let on : OrderLater s.current.order t.current.order = subst L was (subst M now later.order) in
    record {
      order = on;
      grew = grew_of p (some_octets p range) s.current.order t.current.order on;
      drop = subst D was_drop (subst E now_drop later.drop);
      more = more;
      asked = asked;
      sent = sent;
    }

-- ---- NACKs that were given, and those that joined

-- A NACK that was given is read again, and counts what it counted, however the sender goes on; and what its receiver held was sent, while
-- the instance is the current one.
pub record GivenHolds (p : Settings) (s : SenderState) (x : Plea) : Type 0 where
  pub read : decoded x.octets ≡ Ok (Nack x.nack)
  pub within : x.receiver.knows.known ≤ length (order_of s x.nack.instance)
  pub counts : IsPlain x → (b : Point) → Contains (counted_blocks p x) b
      → Counted p s x b × (x.nack.instance ≡ s.current.id → HeldPass (was_sent s) x.receiver.holding)

-- what a NACK that joined the round counts is in it, or was dropped
abbrev pub JoinedHolds : Settings → SenderState → Plea → Type 0
JoinedHolds p s x = (b : Point) → Contains (counted_blocks p x) b → Awaits p s x b

-- of all of them
pub record PleasHold (p : Settings) (s : SenderState) (x : Pleas) : Type 0 where
  pub given : AllByRecursion (GivenHolds p s) x.given
  pub joined : AllByRecursion (JoinedHolds p s) x.joined

given_on : (p : Settings) → InRange p → (s t : SenderState) (x : Plea) → SenderGoes p s t → IsDistinct nat_eq (instance_ids t) → GivenHolds p s x → GivenHolds p t x
given_on p range s t x on differs h = record {
  read = h.read;
  within = (
      let le = h.within in
      let long = later_long (order_of s x.nack.instance) (order_of t x.nack.instance) (order_later s t on.steps.onward x.nack.instance).order in
      omega (arith, le, long)
      );
  counts = λ plain b has. counts b (h.counts plain b has);
}
  where
    counts : (b : Point) → Counted p s x b × (x.nack.instance ≡ s.current.id → HeldPass (was_sent s) x.receiver.holding)
        → Counted p t x b × (x.nack.instance ≡ t.current.id → HeldPass (was_sent t) x.receiver.holding)
    counts b (c, held) = (now, still on.goes)
      where
        later : OrderGoes s t x.nack.instance
        later = order_later s t on.steps.onward x.nack.instance

        lacks : Lacks p (order_of t x.nack.instance) x.receiver b c.lack
        lacks = lacks_on p (order_of s x.nack.instance) (order_of t x.nack.instance) x.receiver b c.lack later.order
            (grew_of p (some_octets p range) (order_of s x.nack.instance) (order_of t x.nack.instance) later.order) c.lacks

        now : Counted p t x b
        now = record { inside = c.inside; request = c.request; has = c.has; among = c.among; lack = c.lack; lacks = lacks; names = c.names }

        still : Stayed s t ⊎ Began t → x.nack.instance ≡ t.current.id → HeldPass (was_sent t) x.receiver.holding
        still (inl stayed) e = held_on s t x.receiver stayed.sent (held (e ∙ stayed.id))
        still (inr began) e =
            let none : order_of t x.nack.instance ≡ [] = ap (order_of t) e ∙ current_order t differs ∙ began.order in
            absurd (nothing_there lacks.entry (sym (ap (λ (order : List Entry). slice_get order b.index) none) ∙ lacks.found))

all_on : {X : Type 0} (P Q : X → Type 0) (xs : List X) → ((x : X) → P x → Q x) → AllByRecursion P xs → AllByRecursion Q xs
all_on P Q [] f all = tt
all_on P Q (x ∷ xs) f all = (f x all.0, all_on P Q xs f all.1)

all_append : {X : Type 0} (P : X → Type 0) (xs ys : List X) → AllByRecursion P xs → AllByRecursion P ys → AllByRecursion P (xs ++ ys)
all_append P [] ys h g = g
all_append P (x ∷ xs) ys h g = (h.0, all_append P xs ys h.1 g)

and_parts : (a b : Bool) → (a && b) ≡ true → (a ≡ true) × (b ≡ true)
and_parts true b e = (refl, e)
and_parts false b e = absurd (clash e)

-- an index lies near one that is known
abbrev IsNearBy : ℕ → ℕ → Type 0
IsNearBy known i = (i ≤ known + 32767) × (known ≤ i + 32767)

-- the same of each
near_all : (known : ℕ) (indices : List ℕ) → are_near (Some known) indices ≡ true → AllByRecursion (λ i. IsNearBy known i) indices
near_all known [] e = tt
near_all known (i ∷ indices) e =
    let both = and_parts (is_near known i) (are_near (Some known) indices) e in
    let ends = and_parts (nat_le i (known + most_apart)) (nat_le known (i + most_apart)) both.0 in
    ((le_true i (known + most_apart) ends.0, le_true known (i + most_apart) ends.1), near_all known indices both.1)

-- A NACK that is near the last index of the sender's order names to its receiver what it was written for: the receiver knew no index above
-- the order's length.
near_plain : (last known : ℕ) (indices : List ℕ) → known ≤ last + 1 → AllByRecursion (λ i. IsNearBy last i) indices
    → AllByRecursion (λ i. known ≤ i + 32768) indices
near_plain last known [] le all = tt
near_plain last known (i ∷ indices) le all = (let near : last ≤ i + 32767 = all.0.1 in omega (arith, le, near), near_plain last known indices le all.1)

-- a NACK that is delivered to the sender, and joins
joins_one : (p : Settings) → InRange p → (s : SenderState) (octets : List ℕ) (now : ℕ) (y : Plea) → IsReached p s → IsDistinct nat_eq (instance_ids s)
    → joins p s octets y ≡ true → GivenHolds p s y → JoinedHolds p (heard p s octets now) y
joins_one p range s octets now y reached differ e h b has =
    let parts = and_parts (same_octets y.octets octets && nack_counts p s y.nack) (are_near (Some (last_index s)) y.indices) e in
    let both = and_parts (same_octets y.octets octets) (nack_counts p s y.nack) parts.0 in
    let is : y.octets ≡ octets = same_list y.octets octets both.0 in
    let read : decoded octets ≡ Ok (Nack y.nack) = ap decoded (sym is) ∙ h.read in
    let step : heard p s octets now ≡ joined_round p s now y.nack.requests =
    ap (λ (said : Result Message Refusal). message_heard p s now said) read
    ∙ ap (λ (b : Bool). elim b as (λ _. SenderState) [ true ↦ joined_round p s now y.nack.requests | false ↦ s ]) both.1 in
    let to = and_parts (is_receiver p y.nack.source) (y.nack.sender == p.sender && y.nack.instance == s.current.id) both.1 in
    let own : y.nack.instance ≡ s.current.id = (Decides-eqb y.nack.instance s.current.id).0 (and_parts (y.nack.sender == p.sender) (y.nack.instance == s.current.id) to.1).1 in
    let order : order_of s y.nack.instance ≡ s.current.order = ap (order_of s) own ∙ current_order s differ in
    let near = near_all (last_index s) y.indices parts.1 in
    let known : y.receiver.knows.known ≤ last_index s + 1 =
    (let le = h.within in let same = ap (λ (order : List Entry). length order) order in omega (arith, le, same)) in
    let counts = h.counts (near_plain (last_index s) y.receiver.knows.known y.indices known near) b has in
    let c = counts.0 in
    let by = all_contains (λ (i : ℕ). IsNearBy (last_index s) i) y.indices b.index near c.among in
    let L : List Entry → Type 0 = λ order. Lacks p order y.receiver b c.lack in
    let A : SenderState → Type 0 = λ t. Awaits p t y b in
    subst A (sym step) (joins_round p range s (joined_round p s now y.nack.requests) y b c.request y.nack.requests c.lack reached by.1 by.0
    (in_of y.nack.requests c.request c.has) (subst L order c.lacks) c.names (counts.1 own)
    (same y.nack.requests) (joined_asks p s now y.nack.requests) (sent y.nack.requests))
  where
    same : (requests : List Request) → (joined_round p s now requests).current ≡ s.current
    same [] = refl
    same (r ∷ requests) = refl

    sent : (requests : List Request) → (at : Position) → was_sent s at ≡ true → was_sent (joined_round p s now requests) at ≡ true
    sent [] at n = n
    sent (r ∷ requests) at n = n

joins_all : (p : Settings) → InRange p → (s : SenderState) (octets : List ℕ) (now : ℕ) (given : List Plea) → IsReached p s → IsDistinct nat_eq (instance_ids s)
    → AllByRecursion (GivenHolds p s) given → AllByRecursion (JoinedHolds p (heard p s octets now)) (filter (joins p s octets) given)
joins_all p range s octets now [] reached differ all = tt
joins_all p range s octets now (y ∷ given) reached differ all = go (joins p s octets y) refl (joins_all p range s octets now given reached differ all.1)
  where
    rest : List Plea
    rest = filter (joins p s octets) given

    go : (b : Bool) → joins p s octets y ≡ b → AllByRecursion (JoinedHolds p (heard p s octets now)) (filter (joins p s octets) given)
        → AllByRecursion (JoinedHolds p (heard p s octets now)) (cond b (y ∷ rest) rest)
    go true e more = (joins_one p range s octets now y reached differ e all.0, more)
    go false e more = more

joins_new : (p : Settings) → InRange p → (w : World) (e : Event) (given : List Plea) → IsReached p w.sender → IsDistinct nat_eq (instance_ids w.sender)
    → AllByRecursion (GivenHolds p w.sender) given → AllByRecursion (JoinedHolds p (world_step p w e).0.sender) (joins_by p w given e)
joins_new p range w (Commanded by job now) given reached differ all = tt
joins_new p range w (Ticked node now) given reached differ all = tt
joins_new p range w (Offered node octets) given reached differ all = tt
joins_new p range w (UpTaken node) given reached differ all = tt
joins_new p range w NewsAsked given reached differ all = tt
joins_new p range w (Delivered node octets now draw) given reached differ all = go (node == p.sender) (receiver_at w node)
  where
    go : (own : Bool) (found : Option ReceiverState)
        → AllByRecursion (JoinedHolds p (moved p w (node_move own found (sender.Delivered octets now) (receiver.Delivered octets now draw))).0.sender)
        (elim own [ true ↦ filter (joins p w.sender octets) given | false ↦ [] ])
    go true found = joins_all p range w.sender octets now given reached differ all
    go false None = tt
    go false (Some r) = tt

-- ---- a NACK that is given

-- what a receiver's tick gives
abbrev Gives : Settings → World → Type 0
Gives p w = (node : ℕ) (r : ReceiverState) (now : ℕ) (o : Written) (m : NackMessage) → receiver_at w node ≡ Some r → (receiver_ticked p r now).1 ≡ Some o
    → o.message ≡ Nack m → GivesPlea p w.sender (record { receiver = r; octets = o.octets; indices = o.indices; nack = m })

gives_given : (p : Settings) (w : World) (node : ℕ) (r : ReceiverState) (octets indices : List ℕ) (m : NackMessage) → SentHolds w → receiver_at w node ≡ Some r
    → GivesPlea p w.sender (record { receiver = r; octets = octets; indices = indices; nack = m })
    → GivenHolds p w.sender (record { receiver = r; octets = octets; indices = indices; nack = m })
gives_given p w node r octets indices m sent found gives = record {
  read = gives.read;
  within = gives.within;
  counts = λ plain b has. (
      let c = gives.counts plain b has in
      let H : Option ReceiverState → Type 0 = λ o. HoldsSent w.sender o in
      (c, λ e. subst H found (sent.held node) (c.inside ∙ ap (λ (n : ℕ). Some n) e))
      );
}

-- a message that is no NACK
spoken_none : (p : Settings) (s : SenderState) (r : ReceiverState) (octets indices : List ℕ) (m : Message) → IsSpoken m
    → AllByRecursion (GivenHolds p s) (plea_of r octets indices m)
spoken_none p s r octets indices (Info m) h = tt
spoken_none p s r octets indices (Data m) h = tt
spoken_none p s r octets indices (Flush m) h = tt
spoken_none p s r octets indices (Squelch m) h = tt
spoken_none p s r octets indices (Eot m) h = absurd h
spoken_none p s r octets indices (RepairAdv m) h = absurd h
spoken_none p s r octets indices (AckReq m) h = absurd h
spoken_none p s r octets indices (Opaque m) h = absurd h
spoken_none p s r octets indices (Nack m) h = absurd h
spoken_none p s r octets indices (Ack m) h = absurd h
spoken_none p s r octets indices (Report m) h = absurd h

pleas_of : (p : Settings) (s : SenderState) (r : ReceiverState) (octets indices : List ℕ) (m : Message)
    → ((n : NackMessage) → m ≡ Nack n → GivenHolds p s (record { receiver = r; octets = octets; indices = indices; nack = n }))
    → AllByRecursion (GivenHolds p s) (plea_of r octets indices m)
pleas_of p s r octets indices (Nack m) h = (h m refl, tt)
pleas_of p s r octets indices (Info m) h = tt
pleas_of p s r octets indices (Data m) h = tt
pleas_of p s r octets indices (Flush m) h = tt
pleas_of p s r octets indices (Squelch m) h = tt
pleas_of p s r octets indices (Eot m) h = tt
pleas_of p s r octets indices (RepairAdv m) h = tt
pleas_of p s r octets indices (AckReq m) h = tt
pleas_of p s r octets indices (Opaque m) h = tt
pleas_of p s r octets indices (Ack m) h = tt
pleas_of p s r octets indices (Report m) h = tt

-- what a node that ticks gave, by its receiver
abbrev gave_plea_by : Option ReceiverState → Option Written → List Plea
gave_plea_by found None = []
gave_plea_by found (Some o) = elim found [ Some r ↦ plea_of r o.octets o.indices o.message | None ↦ [] ]

abbrev gave_plea_from : Option ReceiverState → Answer → List Plea
gave_plea_from found (Sent (Some datagram)) = elim found [ Some r ↦ plea_of r datagram.octets datagram.indices datagram.message | None ↦ [] ]
gave_plea_from found _ = []

given_new : (p : Settings) → InRange p → (w : World) (e : Event) → SenderHolds p w.sender → IsDistinct nat_eq (instance_ids w.sender) → SentHolds w → Gives p w
    → AllByRecursion (GivenHolds p (world_step p w e).0.sender) (gave_plea w e (world_step p w e).1)
given_new p range w (Commanded by job now) h differ sent gives = tt
given_new p range w (Delivered node octets now draw) h differ sent gives = tt
given_new p range w (Offered node octets) h differ sent gives = tt
given_new p range w (UpTaken node) h differ sent gives = tt
given_new p range w NewsAsked h differ sent gives = tt
given_new p range w (Ticked node now) h differ sent gives = go (node == p.sender) (receiver_at w node) refl
  where
    by_sender : (t : SenderState) (found : Option ReceiverState) (o : Option Written) → SentTrue p w.sender o
        → AllByRecursion (GivenHolds p (with_given p.sender o (record w { sender = t })).sender) (gave_plea_by found o)
    by_sender t found None says = tt
    by_sender t None (Some o) says = tt
    by_sender t (Some r) (Some o) says = spoken_none p t r o.octets o.indices o.message says.spoken

    by_receiver : (r t : ReceiverState) → receiver_at w node ≡ Some r → (o : Option Written) → (receiver_ticked p r now).1 ≡ o
        → AllByRecursion (GivenHolds p (with_given r.node o (with_receiver t w)).sender) (gave_plea_by (Some r) o)
    by_receiver r t found None e = tt
    by_receiver r t found (Some o) e =
        pleas_of p w.sender r o.octets o.indices o.message (λ n is. gives_given p w node r o.octets o.indices n sent found (gives node r now o n found e is))

    go : (own : Bool) (found : Option ReceiverState) → receiver_at w node ≡ found
        → AllByRecursion (GivenHolds p (moved p w (node_move own found (sender.Ticked now) (receiver.Ticked now))).0.sender)
        (gave_plea_from (receiver_at w node) (moved p w (node_move own found (sender.Ticked now) (receiver.Ticked now))).1)
    go true found e = by_sender (sender_ticked p w.sender now).0 (receiver_at w node) (sender_ticked p w.sender now).1 (tick_true p range w.sender now h differ)
    go false None e = tt
    go false (Some r) e =
        let G : Option ReceiverState → Type 0 = λ found.
        AllByRecursion (GivenHolds p (with_given r.node (receiver_ticked p r now).1 (with_receiver (receiver_ticked p r now).0 w)).sender) (gave_plea_by found (receiver_ticked p r now).1) in
        subst G (sym e) (by_receiver r (receiver_ticked p r now).0 e (receiver_ticked p r now).1 refl)

-- ---- an event

pleas_step : (p : Settings) → InRange p → (w : World) (e : Event) (x : Pleas) → SenderGoes p w.sender (world_step p w e).0.sender → SenderHolds p w.sender
    → IsReached p w.sender → IsDistinct nat_eq (instance_ids w.sender) → IsDistinct nat_eq (instance_ids (world_step p w e).0.sender)
    → SentHolds w → Gives p w → PleasHold p w.sender x
    → PleasHold p (world_step p w e).0.sender (pleas_after p (happening w e (world_step p w e)) x)
pleas_step p range w e x on holds reached differ differs sent gives h = record {
  given = all_append (GivenHolds p (world_step p w e).0.sender) x.given (gave_plea w e (world_step p w e).1)
      (all_on (GivenHolds p w.sender) (GivenHolds p (world_step p w e).0.sender) x.given
      (λ y given. given_on p range w.sender (world_step p w e).0.sender y on differs given) h.given)
      (given_new p range w e holds differ sent gives);
  joined = go (world_step p w e).0.sender.round refl;
}
  where
    some_round : (r : Round) → None ≡ Some r → ⊥
    some_round r f = cc

    on_round : (r : Round) → (world_step p w e).0.sender.round ≡ Some r → RoundOn p w.sender (world_step p w e).0.sender
    on_round r is = by on.goes
      where
        by : Stayed w.sender (world_step p w e).0.sender ⊎ Began (world_step p w e).0.sender → RoundOn p w.sender (world_step p w e).0.sender
        by (inr began) = absurd (some_round r (sym began.round ∙ is))
        by (inl stayed) = asked stayed.asked
          where
            asked : ((world_step p w e).0.sender.round ≡ None) ⊎ ((more : List Asked) × (asked_yet (world_step p w e).0.sender ≡ asked_yet w.sender ++ more))
                → RoundOn p w.sender (world_step p w e).0.sender
            asked (inl none) = absurd (some_round r (sym none ∙ is))
            asked (inr (more, same)) =
                round_on p range w.sender (world_step p w e).0.sender differ differs on.steps.onward stayed.id stayed.sent more same

    go : (round : Option Round) → (world_step p w e).0.sender.round ≡ round
        → AllByRecursion (JoinedHolds p (world_step p w e).0.sender) (elim round [ Some r ↦ x.joined ++ joins_by p w x.given e | None ↦ [] ])
    go None is = tt
    go (Some r) is = all_append (JoinedHolds p (world_step p w e).0.sender) x.joined (joins_by p w x.given e)
        (all_on (JoinedHolds p w.sender) (JoinedHolds p (world_step p w e).0.sender) x.joined
        (λ y waits b has. awaits_on p w.sender (world_step p w e).0.sender y b (on_round r is) (waits b has)) h.joined)
        (joins_new p range w e x.given reached differ h.given)

-- the round that an event closes is the sender's
closes_round : (p : Settings) (w : World) (e : Event) (r : Round) → closes_by p w e ≡ Some r → w.sender.round ≡ Some r
closes_round p w (Commanded by job now) r is = absurd (cc)
closes_round p w (Delivered node octets now draw) r is = absurd (cc)
closes_round p w (Offered node octets) r is = absurd (cc)
closes_round p w (UpTaken node) r is = absurd (cc)
closes_round p w NewsAsked r is = absurd (cc)
closes_round p w (Ticked node now) r is = go (node == p.sender) w.sender.round is
  where
    none : None ≡ Some r → ⊥
    none f = cc

    ends_by : Round → Bool → Option Round
    ends_by x b = elim b [ true ↦ Some x | false ↦ None ]

    ended : (x : Round) (b : Bool) → ends_by x b ≡ Some r → Some x ≡ Some r
    ended x true f = f
    ended x false f = absurd (none f)

    go : (own : Bool) (round : Option Round) → (elim own [
      | true ↦ elim round [ Some x ↦ elim (nat_le x.closes now) [ true ↦ Some x | false ↦ None ] | None ↦ None ]
      | false ↦ None
    ]) ≡ Some r → round ≡ Some r
    go true (Some x) f = ended x (nat_le x.closes now) f
    go true None f = absurd (none f)
    go false round f = absurd (none f)

event_enough : (p : Settings) → InRange p → (w : World) (e : Event) (answer : Answer) (v : World) (joined : List Plea) → SentHolds w → Differ (nodes_of w)
    → AllByRecursion (JoinedHolds p w.sender) joined → event_suffices p (record { before = w; event = e; answer = answer; after = v }) joined ≡ true
event_enough p range w e answer v joined sent differ all = go (closes_by p w e) refl
  where
    both : (a b : Bool) → a ≡ true → b ≡ true → (a && b) ≡ true
    both true b f g = g
    both false b f g = absurd (clash f)

    go : (found : Option Round) → closes_by p w e ≡ found → (elim found [ Some r ↦ closing_suffices p w joined r | None ↦ true ]) ≡ true
    go None is = refl
    go (Some r) is =
        let s : SenderState = round_closed p r w.sender in
        both _ _
        (all_tested (λ (x : Plea). list_all (completes p (round_closed p r w.sender) (round_closed p r w.sender).wants x.receiver) (counted_blocks p x)) joined (λ x has.
        all_tested (completes p (round_closed p r w.sender) (round_closed p r w.sender).wants x.receiver) (counted_blocks p x) (λ b own.
        closing_of p range w.sender r x b (closes_round p w e r is)
        (all_is (JoinedHolds p w.sender) joined x all has b (contains_of (counted_blocks p x) b own)))))
        (all_tested (is_fresh w) (wanted_symbols (round_closed p r w.sender).wants) (λ at has. fresh_at w differ sent at))

-- ---- a run

-- at each event all that a receiver in the current instance holds was sent, and the receivers differ
abbrev SentBefore : Happening → Type 0
SentBefore x = SentHolds x.before × Differ (nodes_of x.before)

-- What is kept of a world beside, by each event, and of which it follows that NACKs are as they should be.
pub record Extra (p : Settings) (Holds : World → Type 0) : Type 1 where
  pub steps : (past : List Happening) (accepted : List Origin) (w : World) (e : Event) → MayCome p w accepted e → IsEvent e → WorldHolds p past accepted w
      → Holds w → Holds (world_step p w e).0
  pub gives : (past : List Happening) (accepted : List Origin) (w : World) → WorldHolds p past accepted w → Holds w → Gives p w

run_suffices : (p : Settings) → InRange p → (Holds : World → Type 0) → Extra p Holds → (past : List Happening) (accepted : List Origin) (w : World) (events : List Event)
    → LawfulFrom p w accepted events → AreEvents events → WorldHolds p past accepted w → IsReached p w.sender
    → AllByRecursion SentBefore (happens p w events) → Holds w → (x : Pleas) → PleasHold p w.sender x → suffices_from p x (happens p w events) ≡ true
unfolding happens suffices_from
run_suffices p range Holds extra past accepted w [] lawful are holds reached sent kept x h = refl
run_suffices p range Holds extra past accepted w (e ∷ events) lawful are holds reached sent kept x h =
    let step = world_step p w e in
    let on = world_goes p range w e are.0 holds.sender reached in
    let next = event_holds p range past accepted w e lawful.0 are.0 holds in
    let pleas = pleas_step p range w e x on holds.sender reached holds.once.ids next.once.ids sent.0.0 (extra.gives past accepted w holds kept) h in
    ap (λ (b : Bool). b && suffices_from p (pleas_after p (happening w e (world_step p w e)) x) (happens p (world_step p w e).0 events))
    (event_enough p range w e step.1 step.0 x.joined sent.0.0 sent.0.1 h.joined)
    ∙ run_suffices p range Holds extra (past ++ happening w e step ∷ []) (accepted_with accepted e step.1) step.0 events lawful.1 are.1 next on.reached sent.1
    (extra.steps past accepted w e lawful.0 are.0 holds kept) (pleas_after p (happening w e (world_step p w e)) x) pleas

pub repairs_suffice : (p : Settings) → InRange p → (Holds : World → Type 0) → Extra p Holds → Holds (world_opening p) → (events : List Event) → Lawful p events → AreEvents events
    → RepairSuffices p (history p events)
repairs_suffice p range Holds extra opening events lawful are =
    run_suffices p range Holds extra [] [] (world_opening p) events lawful are (opening_world p range) (reached_laws.at_first p p.instance range)
    (claims_of p range SentBefore (λ w e answer v differ sent. (sent, differ)) events lawful are) opening (record { given = []; joined = [] })
    (record { given = tt; joined = tt })
