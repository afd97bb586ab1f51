-- The orders of a run that opens no stream have none.
use Rattle.std.proofs.Common.{◌≡◌, ℕ, zero, suc, ◌≤◌, cond, List, [], ◌∷◌, ◌++◌, length, Bool, true, false, Option, None, Some, Result, Ok, Err, refl, sym, ap, ◌∙◌, subst, arith, ◌⊎◌, inl, inr}
use Rattle.std.specs.Prelude.{find, ◌==◌, is_none, unwrap_or, ⊤}
use Rattle.std.specs.List.{AllByRecursion}
use Rattle.std.proofs.lemmas.List.{reverse-append, length-append}
use Rattle.norm_base.specs.Settings.{Settings}
use Rattle.norm_base.specs.declared.kinds.Kind.{Kind}
use Rattle.norm_base.specs.declared.kinds.Kind.TheVariants as kind
use Rattle.norm_base.specs.declared.node.Origin.{Origin}
use Rattle.norm_ext.specs.Written.{Written}
use Rattle.fec_plan.specs.Points.{Point}
use Rattle.norm_order.specs.Entries.{Part, Write, Cut, End, Object, Whole, Stream, Entry}
use Rattle.norm_order.specs.Segments.{unclosed}
use Rattle.norm_order.specs.Shapes.{last_source}
use Rattle.norm_order.specs.Upto.{parts_of}
use Rattle.norm_order.specs.declared.up.Up.{Up}
use Rattle.norm_order.specs.declared.up.Up.TheVariants as up
use Rattle.norm_receive_rules.specs.ReceiverState.{ReceiverState}
use Rattle.norm_receive_rules.specs.ReceiverStep as receiver
use Rattle.norm_receive_rules.specs.Ticking.{ticked as receiver_ticked}
use Rattle.norm_send_rules.specs.SenderState.{SenderState, Instance, begun}
use Rattle.norm_send_rules.specs.SenderStep as sender
use Rattle.norm_send_rules.specs.InWindow.{current_shapes}
use Rattle.norm_send_rules.specs.Restarting.{instances, is_used, begun_anew}
use Rattle.norm_send_rules.specs.Room.{size_of, window, has_to_go, drop_after}
use Rattle.norm_send_rules.specs.Enqueuing.{open_parts, open_stream, object_fault, joined}
use Rattle.norm_send_rules.specs.Streaming.{parts_now, write_fault, close_fault, grown, with_parts, cut}
use Rattle.norm_send_rules.specs.Marking.{is_no_quorum, cut_and_marked}
use Rattle.norm_send_rules.specs.Striking.{strike_fault, struck_off}
use Rattle.norm_send_rules.specs.Telling.{told}
use Rattle.norm_send_rules.specs.Ticking.{ticked as sender_ticked}
use Rattle.norm_send_rules.specs.Commanding.{commanded, answered}
use Rattle.norm_send_rules.specs.declared.fault.EnqueueFault.{EnqueueFault}
use Rattle.norm_send_rules.specs.declared.fault.MarkFault.TheVariants.{Quorum}
use Rattle.norm_send_rules.specs.declared.fault.StrikeFault.{StrikeFault}
use Rattle.norm_send_rules.specs.declared.fault.SendFault.{SendFault}
use Rattle.norm_send_rules.specs.declared.fault.SendFault.TheVariants.{Mark, Strike, IdUsed}
use Rattle.norm_send_rules.specs.declared.job.Job.{Job}
use Rattle.norm_send_rules.specs.declared.job.Job.TheVariants as job
use Rattle.norm_send_rules.specs.declared.job.Receipt.{Receipt}
use Rattle.norm_send_rules.specs.declared.job.Receipt.TheVariants as receipt
use Rattle.norm_safety.specs.Events.{Event, Commanded, Delivered, Ticked, Offered, UpTaken, NewsAsked}
use Rattle.norm_safety.specs.InOrder.{GoesThrough, Stops, Hands, Loses, Within, IsHandedOf, is_stream_object}
use Rattle.norm_safety.specs.Jobs.{OpensNone, IsOfObjects, AreOfObjects}
use Rattle.norm_safety.specs.OnceEach.{order_of}
use Rattle.norm_safety.specs.World.{World, world_opening, receiver_at, with_receiver, with_given, is_of, offers}
use Rattle.norm_safety.specs.WorldStep.{world_step, moved, node_move, receiver_move, run_from}
use Rattle.norm_safety.proofs.CommandSteps.{where_free, first_none, no_parts}
use Rattle.norm_safety.proofs.EntryLemmas.{open_in, ends}
use Rattle.norm_safety.proofs.SenderKeeps.{Keeps, heard_keeps, ticked_keeps, told_keeps, struck_keeps}
use Rattle.norm_safety.proofs.SizedOrders.{mark_steady}
use Rattle.norm_laws.proofs.NewOrder.{clash}

-- data or a file
abbrev pub IsWhole : Object → Type 0
IsWhole (Whole kind info octets) = ⊤
IsWhole (Stream parts) = ⊥

-- an order without streams
abbrev pub AreWhole : List Entry → Type 0
AreWhole order = AllByRecursion (λ (x : Entry). IsWhole x.object) order

-- so is each instance's
abbrev AllWhole : List Instance → Type 0
AllWhole all = AllByRecursion (λ (i : Instance). AreWhole i.order) all

-- A sender's orders are such, and its drop point lies before a block 0.
pub record WholeHolds (s : SenderState) : Type 0 where
  pub orders : AllWhole (instances s)
  pub block : s.current.drop.block ≡ 0

last_whole : (front : List Entry) (last : Entry) → AreWhole (front ++ last ∷ []) → IsWhole last.object
last_whole [] last all = all.0
last_whole (x ∷ front) last all = last_whole front last all.1

-- the open stream's parts, by the entries from the last one on
abbrev last_open : List Entry → Option (List Part)
last_open entries = elim entries [ [] ↦ None | entry ∷ more ↦ open_parts entry.object ]

pub none_open : (order : List Entry) → AreWhole order → open_in order ≡ None
none_open order all = go (ends order)
  where
    not_open : (object : Object) → IsWhole object → open_parts object ≡ None
    not_open (Whole kind info octets) h = refl
    not_open (Stream parts) h = absurd h

    go : (order ≡ []) ⊎ ((front : List Entry) × (last : Entry) × (order ≡ front ++ last ∷ [])) → open_in order ≡ None
    go (inl is) = ap open_in is
    go (inr (front, last, is)) =
        let A : List Entry → Type 0 = λ xs. AreWhole xs in
        ap open_in is ∙ ap last_open (reverse-append front (last ∷ [])) ∙ not_open last.object (last_whole front last (subst A is all))

last_of : (P : Instance → Type 0) (earlier : List Instance) (was : Instance) → AllByRecursion P (earlier ++ was ∷ []) → P was
last_of P [] was all = all.0
last_of P (x ∷ earlier) was all = last_of P earlier was all.1

pub current_whole : (s : SenderState) → WholeHolds s → AreWhole s.current.order
current_whole s h = last_of (λ (i : Instance). AreWhole i.order) s.earlier s.current h.orders

-- a mark cuts nothing
pub cut_nothing : (p : Settings) (s : SenderState) → open_stream s ≡ None → cut p s ≡ s
cut_nothing p s none =
    let nothing : unclosed p.e (parts_now s) ≡ 0 = ap (λ (o : Option (List Part)). unclosed p.e (unwrap_or o [])) none ∙ no_parts p.e in
    ap (λ (n : ℕ). cut_by n) nothing
  where
    cut_by : ℕ → SenderState
    cut_by n = elim n [ zero ↦ s | suc n ↦ with_parts (parts_now s ++ Cut ∷ []) s ]

-- ---- steps

same_whole : (s t : SenderState) → t.earlier ≡ s.earlier → t.current ≡ s.current → WholeHolds s → WholeHolds t
same_whole s t earlier current h =
    let A : List Instance → Type 0 = λ all. AllWhole (all ++ t.current ∷ []) in
    let C : Instance → Type 0 = λ i. AllWhole (s.earlier ++ i ∷ []) in
    let B : Instance → Type 0 = λ i. i.drop.block ≡ 0 in
    record { orders = subst A (sym earlier) (subst C (sym current) h.orders); block = subst B (sym current) h.block }

keeps_whole : (s t : SenderState) → Keeps s t → WholeHolds s → WholeHolds t
keeps_whole s t keeps h = same_whole s t keeps.earlier keeps.current h

last_more : (P : Instance → Type 0) (earlier : List Instance) (was now : Instance) → P now → AllByRecursion P (earlier ++ was ∷ []) → AllByRecursion P (earlier ++ now ∷ [])
last_more P [] was now h all = (h, tt)
last_more P (x ∷ earlier) was now h all = (all.0, last_more P earlier was now h all.1)

all_more : {X : Type 0} (P : X → Type 0) (xs : List X) (x : X) → P x → AllByRecursion P xs → AllByRecursion P (xs ++ x ∷ [])
all_more P [] x h all = (h, tt)
all_more P (y ∷ xs) x h all = (all.0, all_more P xs x h all.1)

joins_whole : (p : Settings) (by : Origin) (kind : Kind) (info : Option (List ℕ)) (octets : List ℕ) (s : SenderState) → WholeHolds s
    → WholeHolds (joined p by (Whole kind info octets) s)
joins_whole p by kind info octets s h = record {
  orders = last_more (λ (i : Instance). AreWhole i.order) s.earlier s.current (joined p by (Whole kind info octets) s).current
      (all_more (λ (x : Entry). IsWhole x.object) s.current.order (record { by = by; object = Whole kind info octets }) tt (current_whole s h)) h.orders;
  block = block (has_to_go p (size_of p (Whole kind info octets)) (window s));
}
  where
    block : (n : ℕ) → (drop_after s.current.drop n).block ≡ 0
    block zero = h.block
    block (suc n) = refl

free_whole : (found : Option EnqueueFault) (s after : SenderState) (receipt : Receipt) → (found ≡ None → WholeHolds after) → WholeHolds s
    → WholeHolds (where_free found s after receipt).0
free_whole None s after receipt h so = h refl
free_whole (Some fault) s after receipt h so = so

-- a write or a close finds no open stream
closed_whole : (s : SenderState) → (found : Option EnqueueFault) → (found ≡ None → is_none (open_stream s) ≡ false)
    → (after : SenderState) (receipt : Receipt) → WholeHolds s → WholeHolds (where_free found s after receipt).0
closed_whole s found says after receipt so =
    free_whole found s after receipt (λ e. absurd (clash (sym (says e) ∙ ap is_none (none_open s.current.order (current_whole s so))))) so

-- the state of a step
abbrev state_of : SenderState × Result Receipt SendFault → SenderState
state_of step = step.0

cut_whole : (p : Settings) (s : SenderState) (by : Origin) (quorum : Option ℕ) → WholeHolds s → WholeHolds (answered Mark (cut_and_marked p s by quorum)).0
cut_whole p s by quorum h =
    let C : SenderState → Type 0 = λ x. WholeHolds x in
    let steady = mark_steady p by quorum (cut p s) (last_source (current_shapes p (cut p s))) refl in
    same_whole (cut p s) _ steady.earlier steady.current (subst C (sym (cut_nothing p s (none_open s.current.order (current_whole s h)))) h)

command_whole : (p : Settings) (s : SenderState) (by : Origin) (job : Job) → OpensNone job → WholeHolds s → WholeHolds (commanded p s by job).0
command_whole p s by (job.Data info bytes) opens h =
    free_whole (object_fault p s info bytes) s (joined p by (Whole kind.Data info bytes) s) _ (λ e. joins_whole p by kind.Data info bytes s h) h
command_whole p s by (job.File name bytes) opens h =
    free_whole (object_fault p s (Some name) bytes) s (joined p by (Whole kind.File (Some name) bytes) s) _ (λ e. joins_whole p by kind.File (Some name) bytes s h) h
command_whole p s by job.Open opens h = absurd opens
command_whole p s by (job.Write bytes) opens h =
    let parts = parts_now s ++ Write by bytes ∷ [] in
    closed_whole s (write_fault p s bytes parts)
    (λ e. (let first = first_none _ _ _ e in let second = first_none _ _ _ first.1 in (first_none _ _ _ second.1).0)) (grown p s parts) _ h
command_whole p s by job.Close opens h =
    let parts = parts_now s ++ End ∷ [] in closed_whole s (close_fault p s parts) (λ e. (first_none _ _ _ e).0) (grown p s parts) _ h
command_whole p s by (job.Mark None) opens h = cut_whole p s by None h
command_whole p s by (job.Mark (Some q)) opens h = go (is_no_quorum p q)
  where
    go : (no : Bool) → WholeHolds (state_of (answered Mark (elim no [ true ↦ (s, Err (Quorum q)) | false ↦ cut_and_marked p s by (Some q) ])))
    go true = h
    go false = cut_whole p s by (Some q) h
command_whole p s by (job.Restart id) opens h = go (is_used s id)
  where
    go : (used : Bool) → WholeHolds (state_of (elim used [ true ↦ (s, Err (IdUsed id)) | false ↦ (begun_anew id s, Ok (receipt.Restarted id)) ]))
    go true = h
    go false = record { orders = all_more (λ (i : Instance). AreWhole i.order) (instances s) (begun id) tt h.orders; block = refl }
command_whole p s by (job.Strike node) opens h = go (strike_fault s node)
  where
    go : (found : Option StrikeFault) → WholeHolds (state_of (answered Strike (elim found [
      | Some fault ↦ (s, Err fault)
      | None ↦ (struck_off node s, Ok (receipt.Struck node))
    ])))
    go (Some fault) = h
    go None = keeps_whole s (struck_off node s) (struck_keeps node s) h

given_whole : (node : ℕ) (sent : Option Written) (w : World) → WholeHolds w.sender → WholeHolds (with_given node sent w).sender
given_whole node None w h = h
given_whole node (Some datagram) w h = h

-- an event of a run that opens no stream
pub event_whole : (p : Settings) (w : World) (e : Event) → IsOfObjects e → WholeHolds w.sender → WholeHolds (world_step p w e).0.sender
event_whole p w (Commanded by job now) of h = command_whole p w.sender by job of h
event_whole p w (Delivered node octets now draw) of h = go (node == p.sender) (receiver_at w node)
  where
    go : (own : Bool) (found : Option ReceiverState)
        → WholeHolds (moved p w (node_move own found (sender.Delivered octets now) (receiver.Delivered octets now draw))).0.sender
    go true found = keeps_whole w.sender _ (heard_keeps p w.sender octets now) h
    go false None = h
    go false (Some r) = h
event_whole p w (Ticked node now) of h = go (node == p.sender) (receiver_at w node)
  where
    go : (own : Bool) (found : Option ReceiverState) → WholeHolds (moved p w (node_move own found (sender.Ticked now) (receiver.Ticked now))).0.sender
    go true found =
        given_whole p.sender (sender_ticked p w.sender now).1 (record w { sender = (sender_ticked p w.sender now).0 })
        (keeps_whole w.sender _ (ticked_keeps p w.sender now) h)
    go false None = h
    go false (Some r) = given_whole r.node (receiver_ticked p r now).1 (with_receiver (receiver_ticked p r now).0 w) h
event_whole p w (Offered node octets) of h = go (find (is_of node octets) w.given)
  where
    go : (found : Option (ℕ × Written)) → WholeHolds (offers found node w).sender
    go None = h
    go (Some o) = h
event_whole p w (UpTaken node) of h = go (receiver_at w node)
  where
    go : (found : Option ReceiverState) → WholeHolds (moved p w (receiver_move found receiver.UpTaken)).0.sender
    go None = h
    go (Some r) = h
event_whole p w NewsAsked of h = keeps_whole w.sender (told w.sender).0 (told_keeps w.sender) h

run_whole : (p : Settings) (w : World) (events : List Event) → AreOfObjects events → WholeHolds w.sender → WholeHolds (run_from p w events).sender
run_whole p w [] of h = h
run_whole p w (e ∷ events) of h = run_whole p (world_step p w e).0 events of.1 (event_whole p w e of.0 h)

-- a run that opens no stream
pub whole_run : (p : Settings) (events : List Event) → AreOfObjects events → WholeHolds (run_from p (world_opening p) events).sender
whole_run p events of = run_whole p (world_opening p) events of (record { orders = (tt, tt); block = refl })

-- ---- what is handed up

-- the order of an instance
pub order_whole : (s : SenderState) (id : ℕ) → WholeHolds s → AreWhole (order_of s id)
order_whole s id h = go (instances s) h.orders
  where
    go : (all : List Instance) → AllWhole all → AreWhole (elim (find (λ (i : Instance). i.id == id) all) as (λ _. List Entry) [ Some i ↦ i.order | None ↦ [] ])
    go [] all = tt
    go (i ∷ more) all = by (i.id == id) (go more all.1)
      where
        by : (b : Bool) → AreWhole (elim (find (λ (i : Instance). i.id == id) more) as (λ _. List Entry) [ Some i ↦ i.order | None ↦ [] ])
            → AreWhole (elim (cond b (Some i) (find (λ (i : Instance). i.id == id) more)) as (λ _. List Entry) [ Some i ↦ i.order | None ↦ [] ])
        by true rest = all.0
        by false rest = rest

-- hand-ups that go through such an order are no more than it has entries
pub through_few : (p : Settings) (d : Point) (index : ℕ) (order : List Entry) (ups : List Up) → AreWhole order → GoesThrough p d index order ups
    → length ups ≤ length order
through_few p d index order [] whole Stops = omega arith
through_few p d index (_ ∷ order) _ whole (Hands {rest = rest} x goes) =
    let later = through_few p d (suc index) order rest whole.1 goes in
    let one = one_part x.object whole.0 in
    let both = length-append (parts_of p index x.object) rest in
    omega (arith, later, one, both)
  where
    one_part : (object : Object) → IsWhole object → length (parts_of p index object) ≡ 1
    one_part (Whole kind info octets) h = refl
    one_part (Stream parts) h = absurd h
through_few p d index (_ ∷ order) _ whole (Loses {rest = rest} x front part may goes) =
    let later = through_few p d (suc index) order rest whole.1 goes in
    let none = ap length (nothing x.object whole.0 part) in
    let both = length-append front (lost ∷ rest) in
    omega (arith, later, none, both)
  where
    lost : Up
    lost = up.Lost index

    nothing : (object : Object) → IsWhole object → IsHandedOf p index object front → front ≡ []
    nothing (Whole kind info octets) h part = part
    nothing (Stream parts) h part = absurd h
through_few p d index (_ ∷ order) ups whole (Within x front stream part) = absurd (never x.object whole.0 stream)
  where
    never : (object : Object) → IsWhole object → is_stream_object object ≡ true → ⊥
    never (Whole kind info octets) h stream = clash stream
    never (Stream parts) h stream = h
