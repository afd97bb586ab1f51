-- The order below is, as items, what was enqueued: each event of a relay and its sessions keeps that.
use Rattle.std.proofs.Common.{◌≡◌, ℕ, List, [], ◌∷◌, Bool, true, false, Option, None, Some, Result, Ok, Err, refl, sym, ap, ◌∙◌, subst}
use Rattle.std.proofs.lemmas.Bool.Decides.{Decides-eqb}
use Rattle.norm_base.specs.Settings.{Settings}
use Rattle.norm_ext.specs.Written.{Written}
use Rattle.norm_order.specs.declared.up.Up.{Up}
use Rattle.norm_send_rules.specs.SenderState.{SenderState, Instance}
use Rattle.norm_send_rules.specs.SenderStep as sender
use Rattle.norm_send_rules.specs.Striking.{strikes, strike_fault, struck_off}
use Rattle.norm_send_rules.specs.declared.fault.StrikeFault.{StrikeFault}
use Rattle.norm_send_rules.specs.declared.job.Receipt.{Receipt}
use Rattle.norm_send_rules.specs.declared.job.Receipt.TheVariants.{Struck}
use Rattle.norm_receive_rules.specs.ReceiverStep as receiver
use Rattle.norm_safety.specs.Events.{Event, Delivered, Ticked, Offered, NewsAsked, Answer}
use Rattle.norm_safety.specs.Events as world
use Rattle.norm_safety.specs.World.{World, receiver_at, with_given}
use Rattle.norm_safety.specs.WorldLaws.{is_senders, comes_to}
use Rattle.norm_safety.specs.WorldStep.{world_step, node_move, moved}
use Rattle.norm_safety.proofs.SenderKeeps.{heard_keeps, ticked_keeps, told_keeps, struck_keeps}
use Rattle.norm_safety.proofs.WorldLemmas.{world_laws}
use Rattle.norm_relay.specs.Flat.{flat_from, open_behind, order_items}
use Rattle.norm_relay.specs.Sides.{happens_in}
use Rattle.norm_relay.specs.RelayState.{Relaying, Pledge, relay_opening, upper_instance}
use Rattle.norm_relay.specs.Pumping.{is_met}
use Rattle.norm_relay.specs.RelayStep.{RelayEvent, UpDelivered, DownDelivered, PumpAsked, UpTicked, DownTicked, DownNews, DownStruck, Above, Below, RelayAnswer, Took, Sent, Other, relay_step, delivers_up, ticks_up, receiver_ticks, says_up, leaves, goes_on, takes_all, is_ack, given_by, above, below, relay_from}
use Rattle.norm_relay.specs.OrderLaws.{Ordered, AreNamed, AreNamedAlong, LowerOrder}
use Rattle.norm_relay.proofs.OrderLemmas.{pumped_ordered}

-- of what a step leaves
abbrev pub OrderedStep : Relaying × RelayAnswer → Type 0
OrderedStep step = Ordered step.0

-- the current instance of the sender is the same after what it hears, after its tick, and as it tells news
pub heard_current : (p : Settings) (w : World) (datagram : List ℕ) (now : ℕ)
    → (world_step p w (Delivered p.sender datagram now 0)).0.sender.current ≡ w.sender.current
heard_current p w datagram now =
    let G : Bool → Type 0 = λ b. (moved p w (node_move b (receiver_at w p.sender) (sender.Delivered datagram now) (receiver.Delivered datagram now 0))).0.sender.current ≡ w.sender.current in
    subst G (sym ((Decides-eqb p.sender p.sender).1 refl)) (heard_keeps p w.sender datagram now).current

given_current : (node : ℕ) (datagram : Option Written) (w : World) (i : Instance) → w.sender.current ≡ i → (with_given node datagram w).sender.current ≡ i
given_current node None w i e = e
given_current node (Some datagram) w i e = e

pub ticked_current : (p : Settings) (w : World) (now : ℕ) → (world_step p w (Ticked p.sender now)).0.sender.current ≡ w.sender.current
ticked_current p w now =
    let G : Bool → Type 0 = λ b. (moved p w (node_move b (receiver_at w p.sender) (sender.Ticked now) (receiver.Ticked now))).0.sender.current ≡ w.sender.current in
    subst G (sym ((Decides-eqb p.sender p.sender).1 refl)) (given_current p.sender _ _ w.sender.current (ticked_keeps p w.sender now).current)

-- an event below that leaves the sender's instance
below_ordered : (word : Answer → RelayAnswer) (event : Event) (x : Relaying) → (world_step x.lower.p x.lower.world event).0.sender.current ≡ x.lower.world.sender.current
    → Ordered x → Ordered (below word event x).0
below_ordered word event x kept h = record { order = ap (λ (i : Instance). order_items i.order) kept ∙ h.order; opened = h.opened }

above_ordered : (event : Event) (x : Relaying) → Ordered x → Ordered (above event x).0
above_ordered event x h = record { order = h.order; opened = h.opened }

delivers_ordered : (datagram : List ℕ) (now draw : ℕ) (x : Relaying) → Ordered x → Ordered (delivers_up datagram now draw x).0
delivers_ordered datagram now draw x h = go x.waiting
  where
    after : Relaying
    after = record x { upper = (happens_in x.upper (Delivered x.node datagram now draw)).0 }

    left : (b : Bool) → Ordered (takes_all (leaves b after))
    left true = record { order = h.order; opened = h.opened }
    left false = record { order = h.order; opened = h.opened }

    go : (waiting : List Up) → OrderedStep (elim waiting [
      | u ∷ ups ↦ (x, Took false)
      | [] ↦ (takes_all (leaves (goes_on (upper_instance x) (upper_instance after)) after), Took true)
    ])
    go [] = left (goes_on (upper_instance x) (upper_instance after))
    go (u ∷ ups) = h

says_ordered : (given : Option Written) (x : Relaying) → Ordered x → Ordered (says_up given x).0
says_ordered None x h = h
says_ordered (Some datagram) x h = go (is_ack datagram.message)
  where
    go : (b : Bool) → OrderedStep (elim b [
      | true ↦ (record x { upper = (happens_in x.upper (Offered x.node datagram.octets)).0; unmarked = Some datagram }, Sent None)
      | false ↦ (x, Sent (Some datagram))
    ])
    go true = record { order = h.order; opened = h.opened }
    go false = h

receiver_ordered : (now : ℕ) (x : Relaying) → Ordered x → Ordered (receiver_ticks now x).0
receiver_ordered now x h =
    let step = happens_in x.upper (Ticked x.node now) in
    let k : Ordered (record x { upper = step.0 }) = record { order = h.order; opened = h.opened } in
    says_ordered (given_by step.1) (record x { upper = step.0 }) k

ticks_ordered : (now : ℕ) (x : Relaying) → Ordered x → Ordered (ticks_up now x).0
ticks_ordered now x h = go x.pledge
  where
    met : (pledge : Pledge) (b : Bool) → OrderedStep (elim b [ true ↦ (record x { pledge = None }, Sent (Some pledge.datagram)) | false ↦ receiver_ticks now x ])
    met pledge true = record { order = h.order; opened = h.opened }
    met pledge false = receiver_ordered now x h

    go : (o : Option Pledge) → OrderedStep (elim o [
      | Some pledge ↦ elim (is_met x pledge) [ true ↦ (record x { pledge = None }, Sent (Some pledge.datagram)) | false ↦ receiver_ticks now x ]
      | None ↦ receiver_ticks now x
    ])
    go None = receiver_ordered now x h
    go (Some pledge) = met pledge (is_met x pledge)

abbrev strikes_by : SenderState → ℕ → Option StrikeFault → SenderState × Result Receipt StrikeFault
strikes_by s node o = elim o [ Some fault ↦ (s, Err fault) | None ↦ (struck_off node s, Ok (Struck node)) ]

-- a strike leaves the order
struck_current : (s : SenderState) (node : ℕ) → (strikes s node).0.current ≡ s.current
struck_current s node = go (strike_fault s node)
  where
    go : (o : Option StrikeFault) → (strikes_by s node o).0.current ≡ s.current
    go None = (struck_keeps node s).current
    go (Some fault) = refl

-- Each event keeps it, if what waits has names.
pub step_ordered : (x : Relaying) (e : RelayEvent) → AreNamed x.waiting → Ordered x → Ordered (relay_step x e).0
step_ordered x (UpDelivered datagram now draw) named h = delivers_ordered datagram now draw x h
step_ordered x (DownDelivered datagram now) named h = below_ordered Other (Delivered x.lower.p.sender datagram now 0) x (heard_current x.lower.p x.lower.world datagram now) h
step_ordered x (PumpAsked now) named h = pumped_ordered now x named h
step_ordered x (UpTicked now) named h = ticks_ordered now x h
step_ordered x (DownTicked now) named h = below_ordered (λ (answer : Answer). Sent (given_by answer)) (Ticked x.lower.p.sender now) x (ticked_current x.lower.p x.lower.world now) h
step_ordered x DownNews named h = below_ordered Other NewsAsked x (told_keeps x.lower.world.sender).current h
step_ordered x (DownStruck node now) named h = record {
  order = ap (λ (i : Instance). order_items i.order) (struck_current x.lower.world.sender node) ∙ h.order;
  opened = h.opened;
}
step_ordered x (Above event) named h = go (comes_to x.node event)
  where
    go : (b : Bool) → OrderedStep (elim b [ true ↦ (x, Other world.Silent) | false ↦ above event x ])
    go true = h
    go false = above_ordered event x h
step_ordered x (Below event) named h = go (is_senders x.lower.p event) refl
  where
    go : (b : Bool) → is_senders x.lower.p event ≡ b → OrderedStep (elim b [ true ↦ (x, Other world.Silent) | false ↦ below Other event x ])
    go true e = h
    go false e = below_ordered Other event x (ap (λ (s : SenderState). s.current) (world_laws.sender x.lower.p x.lower.world event e)) h

ordered_from : (x : Relaying) (events : List RelayEvent) → AreNamedAlong x events → Ordered x → Ordered (relay_from x events)
ordered_from x [] named h = h
ordered_from x (e ∷ events) named h = ordered_from (relay_step x e).0 events named.1 (step_ordered x e named.0 h)

pub lower_order : LowerOrder
unfolding flat_from open_behind
lower_order up node down events named = ordered_from (relay_opening up node down) events named (record { order = refl; opened = refl })
