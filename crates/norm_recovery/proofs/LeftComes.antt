-- A member that hears a DATA or INFO of the window has it then.
use Rattle.std.proofs.Common.{◌≡◌, ℕ, ◌≤◌, ◌⊎◌, inl, inr, List, [], ◌∷◌, ◌++◌, map, Bool, true, false, Option, None, Some, Result, Ok, refl, sym, ap, ◌∙◌, subst, arith}
use Rattle.std.specs.Prelude.{◌==◌, ◌||◌, not, slice_get}
use Rattle.std.specs.List.{AllByRecursion}
use Rattle.std.proofs.lemmas.Bool.Decides.{Decides-eqb}
use Rattle.norm_base.specs.Members.{receivers_of}
use Rattle.norm_base.specs.Settings.{Settings, InRange}
use Rattle.norm_base.specs.declared.kinds.Mode.TheVariants.{Hold}
use Rattle.fec_plan.specs.Points.{point, point_of, position, point_before}
use Rattle.fec_plan.specs.declared.position.Position.{Position}
use Rattle.fec_plan.proofs.PointLemmas.{behind_point}
use Rattle.norm_ext.specs.Message.{Message, Info, Data, Flush, Eot, Squelch, RepairAdv, AckReq, Opaque, Nack, Ack, Report, InfoMessage, DataMessage}
use Rattle.norm_ext.specs.ObjectIds.{index_named}
use Rattle.norm_ext.specs.Reading.{decoded}
use Rattle.norm_ext.specs.Written.{Written}
use Rattle.norm_ext.specs.declared.refusal.Refusal.{Refusal}
use Rattle.norm_order.specs.Entries.{Object, Whole, Stream, Entry}
use Rattle.norm_order.specs.declared.up.Up.{Up}
use Rattle.norm_receive_rules.specs.Holding.{Holding, holding_nothing}
use Rattle.norm_receive_rules.specs.Leaving.{is_in, goes_to, enters, entered}
use Rattle.norm_receive_rules.specs.ReceiverState.{ReceiverState, receiver_opening}
use Rattle.norm_receive_rules.specs.ReceiverStep as receiver
use Rattle.norm_receive_rules.specs.Receiving.{message_received, received}
use Rattle.norm_send_rules.specs.DropLaws.{DropHolds}
use Rattle.norm_send_rules.specs.InWindow.{stands_behind}
use Rattle.norm_send_rules.specs.Repairable.{is_stream, streams}
use Rattle.norm_send_rules.specs.SenderState.{SenderState}
use Rattle.norm_send_rules.specs.SenderStep.{SenderEvent, sender_step}
use Rattle.norm_send_rules.specs.SenderStep as sender
use Rattle.norm_send_rules.specs.Watermarks.{has_member}
use Rattle.norm_send_rules.specs.declared.want.Want.{Want}
use Rattle.norm_send_rules.specs.declared.want.Want.TheVariants as want
use Rattle.norm_send_rules.proofs.DropLemmas.{drop_laws}
use Rattle.norm_safety.specs.Events.{Event, Commanded, Delivered, Ticked, Offered, UpTaken, NewsAsked}
use Rattle.norm_safety.specs.Hands.{hands}
use Rattle.norm_safety.specs.InOrder.{is_stream_object, drop_of}
use Rattle.norm_safety.specs.InTime.{FewObjects}
use Rattle.norm_safety.specs.Jobs.{AreEvents}
use Rattle.norm_safety.specs.Lawful.{LawfulDelivery, Lawful, most_apart, are_near, receiver_knows}
use Rattle.norm_safety.specs.OnceEach.{order_of}
use Rattle.norm_safety.specs.Said.{first_index}
use Rattle.norm_safety.specs.World.{World, world_opening, receiver_at}
use Rattle.norm_safety.specs.WorldStep.{world_step, run_from, run}
use Rattle.norm_safety.proofs.EntryLemmas.{clash}
use Rattle.norm_safety.proofs.Feedback.{SaysNothing}
use Rattle.norm_safety.proofs.Holding.{HoldsOf, some_and}
use Rattle.norm_safety.proofs.InTime.{near_small, true_low}
use Rattle.norm_safety.proofs.LowNeeds.{AreUpTo}
use Rattle.norm_safety.proofs.OrderRun.{found_holds}
use Rattle.norm_safety.proofs.ReceiverMoves.{StandingIn, near_named}
use Rattle.norm_safety.proofs.RunFronts.{front_laws}
use Rattle.norm_safety.proofs.SenderHolds.{current_sized, orders_hold}
use Rattle.norm_safety.proofs.SizedOrders.{AreSized}
use Rattle.norm_safety.proofs.Spoken.{Speaks, IsTrueOf, SaysTrue, current_order}
use Rattle.norm_safety.proofs.WorldHolds.{AtReceiver, AtNode, all_contains}
use Rattle.norm_safety.proofs.WorldLemmas.{world_laws}
use Rattle.norm_laws.proofs.CountSender.{sender_after, sender_is}
use Rattle.norm_laws.proofs.HeldArrives.{Awaits, Arrived, data_arrives, info_arrives}
use Rattle.norm_laws.proofs.HeldRoom.{Fits, FitsNow, fits_opening}
use Rattle.norm_laws.proofs.HeldStays.{Apart, apart_step}
use Rattle.norm_laws.proofs.HeldWindow.{fits_step}
use Rattle.norm_laws.proofs.HeldWords.{HasSymbol, HasInfo}
use Rattle.norm_recovery.specs.Left.{held_for, is_had}
use Rattle.norm_recovery.specs.LeftHeard.{brings, LeftHeard}
use Rattle.norm_recovery.specs.MembersEnter.{IsOwnMessage}
use Rattle.norm_recovery.specs.MembersStand.{Stands}
use Rattle.norm_recovery.specs.TailLawful.{MayGoOn}
use Rattle.norm_recovery.proofs.FlushKnown.{HoldsIn, after_run, last_came, may_enter, near_by}
use Rattle.norm_recovery.proofs.FlushLacks.{none_in_window}
use Rattle.norm_recovery.proofs.LeftHeard.{symbol_had, info_had}
use Rattle.norm_recovery.proofs.MembersTail.{stands_in_run}
use Rattle.norm_recovery.proofs.PassTurn.{After, Still, Steps, Before, before}
use Rattle.norm_recovery.proofs.TailCourses.{run_joined}

-- ---- the window fits along every run

pub record Fit (p : Settings) (s : SenderState) : Type 0 where
  pub drops : DropHolds s
  pub fits : FitsNow p s

step_fits : (p : Settings) → InRange p → (s : SenderState) (event : SenderEvent) → Fit p s → Fit p (sender_step p s event).0
step_fits p range s event h = record { drops = drop_laws.always p s event h.drops; fits = fits_step p range s event h.drops h.fits }

pub event_fits : (p : Settings) → InRange p → (w : World) (e : Event) → Fit p w.sender → Fit p (world_step p w e).0.sender
event_fits p range w e h = subst (Fit p) (sym (sender_is p w e)) (after e)
  where
    either : (b : Bool) (t : SenderState) → Fit p t → Fit p (elim b [ true ↦ t | false ↦ w.sender ])
    either true t fit = fit
    either false t fit = h

    after : (e : Event) → Fit p (sender_after p w.sender e)
    after (Commanded by job now) = step_fits p range w.sender (sender.Commanded by job now) h
    after (Delivered node octets now draw) =
        either (node == p.sender) (sender_step p w.sender (sender.Delivered octets now)).0 (step_fits p range w.sender (sender.Delivered octets now) h)
    after (Ticked node now) = either (node == p.sender) (sender_step p w.sender (sender.Ticked now)).0 (step_fits p range w.sender (sender.Ticked now) h)
    after (Offered node octets) = h
    after (UpTaken node) = h
    after NewsAsked = step_fits p range w.sender sender.NewsAsked h

run_fits : (p : Settings) → InRange p → (w : World) (events : List Event) → Fit p w.sender → Fit p (run_from p w events).sender
run_fits p range w [] h = h
run_fits p range w (e ∷ events) h = run_fits p range (world_step p w e).0 events (event_fits p range w e h)

-- ---- plans rise at every receiver

abbrev AllApart : Settings → World → Type 0
AllApart p w = (node : ℕ) (r : ReceiverState) → (node == p.sender) ≡ false → receiver_at w node ≡ Some r → Apart r.holding.plans

apart_from : (p : Settings) (w : World) (events : List Event) → AllApart p w → AllApart p (run_from p w events)
apart_from p w [] h = h
apart_from p w (e ∷ events) h = apart_from p (world_step p w e).0 events next
  where
    next : AllApart p (world_step p w e).0
    next node t other found = go (before p w e node other t found)
      where
        go : Before p w node t → Apart t.holding.plans
        go b = by b.after
          where
            by : After p b.r t → Apart t.holding.plans
            by (Still same) = subst (λ (x : ReceiverState). Apart x.holding.plans) (sym same) (h node b.r other b.found)
            by (Steps own is) = subst (λ (x : ReceiverState). Apart x.holding.plans) (sym is) (apart_step p b.r own (h node b.r other b.found))

apart_opening : (p : Settings) → AllApart p (world_opening p)
apart_opening p node r other found =
    found_holds (λ (x : ReceiverState). Apart x.holding.plans) (λ (x : ReceiverState). x.node == node) (world_opening p).receivers r (each (receivers_of p p.receivers)) found
  where
    each : (nodes : List ℕ) → AllByRecursion (λ (x : ReceiverState). Apart x.holding.plans) (map receiver_opening nodes)
    each [] = tt
    each (n ∷ nodes) = (tt, each nodes)

-- ---- what a receiver holds of the current instance

-- what is held of an order, with what was handed up before
record Held (p : Settings) (s : SenderState) (r : ReceiverState) : Type 0 where
  taken : List Up
  holds : HoldsOf p s.current.order (drop_of s s.current.id) taken r.knows.due r.holding

holds_in_run : (p : Settings) → InRange p → (events : List Event) → Lawful p events → AreEvents events → (node : ℕ) (r : ReceiverState)
    → receiver_at (run p events) node ≡ Some r → r.instance ≡ Some (run p events).sender.current.id → Held p (run p events).sender r
holds_in_run p range events lawful are node r found inside =
    let s : SenderState = (run p events).sender in
    let k = after_run p range events lawful are in
    let at_node : AtReceiver p s k.past node r = subst (AtNode p s k.past node) found (k.holds.nodes node) in
    let stands : StandingIn p s (hands k.past node) r (Some s.current.id) = subst (StandingIn p s (hands k.past node) r) inside at_node.stands in
    record {
      taken = hands k.past node s.current.id;
      holds = subst (λ (order : List Entry). HoldsOf p order (drop_of s s.current.id) (hands k.past node s.current.id) r.knows.due r.holding)
          (current_order s k.holds.once.ids) stands;
    }

pub inside_is : (r : ReceiverState) (id : ℕ) → r.instance ≡ Some id → is_in r id ≡ true
inside_is r id e = ap (λ (o : Option ℕ). elim o as (λ _. Bool) [ Some current ↦ current == id | None ↦ false ]) e ∙ (Decides-eqb id id).1 refl

-- two lists of small indices that an id was written for are the same
alike : (p : Settings) (id object : ℕ) (xs ys : List ℕ) → Speaks p id object xs → Speaks p id object ys → AreUpTo most_apart xs → AreUpTo most_apart ys → xs ≡ ys
alike p id object xs ys x y low_x low_y = x.alone ∙ ap (λ (n : ℕ). n ∷ []) (same_some (sym (named xs x low_x) ∙ named ys y low_y)) ∙ sym y.alone
  where
    same_some : {a b : ℕ} → Some a ≡ Some b → a ≡ b
    same_some e = cc

    named : (zs : List ℕ) (z : Speaks p id object zs) → AreUpTo most_apart zs → index_named p 0 object ≡ Some z.index
    named zs z low =
        let near : AreUpTo most_apart (z.index ∷ []) = subst (AreUpTo most_apart) z.alone low in
        near_named p 0 object z.index z.named z.most (near_small 0 (z.index ∷ []) (omega arith) near)

-- ---- a delivery

module _ (p : Settings) (range : InRange p) (hold : p.mode ≡ Hold) (events : List Event) (node : ℕ) (other : (node == p.sender) ≡ false) (octets : List ℕ)
    (now draw : ℕ) (may : MayGoOn p (events ++ Delivered node octets now draw ∷ [])) (none : streams (run p events).sender ≡ 0) (r : ReceiverState)
    (found : receiver_at (run p events) node ≡ Some r) (member : has_member node (run p events).sender ≡ true) where
  abbrev s : SenderState
  s = (run p events).sender

  abbrev t : ReceiverState
  t = received p r octets now draw

  pub lawful : Lawful p events
  lawful = front_laws.lawful p events (Delivered node octets now draw ∷ []) may.lawful

  pub jobs : AreEvents events
  jobs = front_laws.events events (Delivered node octets now draw ∷ []) may.jobs

  pub k : HoldsIn p (run p events)
  k = after_run p range events lawful jobs

  delivery : LawfulDelivery p (run p events) node octets
  delivery = (last_came p (world_opening p) [] events (Delivered node octets now draw) may.lawful).1

  next : run p (events ++ Delivered node octets now draw ∷ []) ≡ (world_step p (run p events) (Delivered node octets now draw)).0
  next = run_joined p (world_opening p) events (Delivered node octets now draw ∷ [])

  same_sender : (run p (events ++ Delivered node octets now draw ∷ [])).sender ≡ s
  same_sender = ap (λ (v : World). v.sender) next ∙ world_laws.sender p (run p events) (Delivered node octets now draw) other

  found_next : receiver_at (run p (events ++ Delivered node octets now draw ∷ [])) node ≡ Some t
  found_next = ap (λ (v : World). receiver_at v node) next
      ∙ world_laws.moves p (run p events) (Delivered node octets now draw) node (receiver.Delivered octets now draw) r other refl found

  pub few : FewObjects s
  few = subst FewObjects same_sender may.few

  -- what it holds after it
  held_next : t.instance ≡ Some s.current.id → Held p s t
  held_next inside =
      let H : SenderState → Type 0 = λ u. t.instance ≡ Some u.current.id → Held p u t in
      subst H same_sender (λ is. holds_in_run p range (events ++ Delivered node octets now draw ∷ []) may.lawful may.jobs node t found_next is) inside

  pub order_is : order_of s s.current.id ≡ s.current.order
  order_is = current_order s k.holds.once.ids

  pub stands : Stands s r
  stands = stands_in_run p range hold events lawful jobs node r found member

  comes : (is_in r s.current.id || goes_to r s.current.id) ≡ true
  comes = go (is_in r s.current.id) (goes_to r s.current.id) enter.1
    where
      enter : (x : ReceiverState) × (entered r s.current.id ≡ Some x)
      enter = may_enter p range events lawful jobs node r found

      none_some : None ≡ Some enter.0 → ⊥
      none_some e = cc

      go : (a b : Bool) → (elim a as (λ _. Option ReceiverState) [ true ↦ Some r | false ↦ elim b as (λ _. Option ReceiverState) [ true ↦ Some (enters s.current.id r) | false ↦ None ] ]) ≡ Some enter.0
          → (a || b) ≡ true
      go true b e = refl
      go false true e = refl
      go false false e = absurd (none_some e)

  awaits : Awaits p s.current.order s.current.drop s.current.id r
  awaits = record {
    comes = comes;
    inside = λ is. record {
      plans = (holds_in_run p range events lawful jobs node r found is).holds.plans;
      apart = apart_from p (world_opening p) events (apart_opening p) node r other found;
      front = (stands.inside (inside_is r s.current.id is)).0;
    };
    outside = λ e. ap (point_before (point 0 0)) (stands.outside e);
  }

  fits : Fits p s.current.order s.current.drop
  fits = (run_fits p range (world_opening p) events (record { drops = drop_laws.begins p p.instance; fits = fits_opening p p.instance })).fits

  pub sized : AreSized p s.current.order
  sized = current_sized p s k.holds.sender

  -- the datagram that came is this message, and its indices are near
  pub near : (m : Message) (id object : ℕ) (indices : List ℕ) → decoded octets ≡ Ok m → (SaysNothing (Ok m) → ⊥) → Speaks p id object indices
      → AreUpTo most_apart indices
      → ((xs : List ℕ) → IsTrueOf p s xs m → Speaks p id object xs × AreUpTo most_apart xs) → are_near (receiver_knows r m) indices ≡ true
  near m id object indices read something speaks low of =
      near_by p (run p events) node other r found o m is indices (alike p id object o.indices indices there.0 speaks there.1 low) delivery.near
    where
      o : Written
      o = delivery.datagram

      says : SaysTrue p s o
      says = all_contains (λ (x : ℕ × Written). SaysTrue p s x.1) (run p events).offered (delivery.from, o) k.holds.offered delivery.offered

      ok_of : Message → Result Message Refusal
      ok_of x = Ok x

      same_message : {a b : Message} → ok_of a ≡ ok_of b → a ≡ b
      same_message e = cc

      pick : (decoded o.octets ≡ Ok o.message) ⊎ SaysNothing (decoded o.octets) → o.message ≡ m
      pick (inl own) = same_message (sym own ∙ ap decoded delivery.same ∙ read)
      pick (inr nothing) = absurd (something (subst SaysNothing (ap decoded delivery.same ∙ read) nothing))

      is : o.message ≡ m
      is = pick says.0

      there : Speaks p id object o.indices × AreUpTo most_apart o.indices
      there = of o.indices (subst (IsTrueOf p s o.indices) is says.1)

  -- an object of the window is no stream
  is_whole : (x : Entry) (index : ℕ) → slice_get s.current.order index ≡ Some x → s.current.drop.index ≤ index → is_stream_object x.object ≡ false
  is_whole x index there le = go x.object (none_in_window s.current.drop.index s.current.order index x none le there)
    where
      go : (o : Object) → is_stream (record x { object = o }) ≡ false → is_stream_object o ≡ false
      go (Whole kind info octets) e = refl
      go (Stream parts) e = e

  in_instance : (wants : List Want) (y : Want) → t.instance ≡ Some s.current.id → is_had wants p s t.holding y ≡ true → is_had wants p s (held_for s t) y ≡ true
  in_instance wants y inside has =
      let B : Bool → Type 0 = λ b. is_had wants p s (elim b as (λ _. Holding) [ true ↦ t.holding | false ↦ holding_nothing ]) y ≡ true in
      subst B (sym (inside_is t s.current.id inside)) has

  pub hears_data : (wants : List Want) (m : DataMessage) (indices : List ℕ) → decoded octets ≡ Ok (Data m) → m.head.source ≡ p.sender
      → m.head.instance ≡ s.current.id → IsTrueOf p s indices (Data m)
      → stands_behind s.current.drop (want.Symbol (position (first_index indices) m.id.block m.id.symbol)) ≡ true
      → is_had wants p s (held_for s t) (want.Symbol (position (first_index indices) m.id.block m.id.symbol)) ≡ true
  hears_data wants m indices read source instance says behind = in_instance wants (want.Symbol at) inside had
    where
      at : Position
      at = position (first_index indices) m.id.block m.id.symbol

      order : order_of s m.head.instance ≡ s.current.order
      order = ap (order_of s) instance ∙ order_is

      arrived : Arrived (λ h. HasSymbol h at) m.head.instance (message_received {E = Refusal} p now draw (Ok (Data m)) r)
      arrived = data_arrives p range s s.current.drop r indices now draw m (subst (AreSized p) (sym order) sized)
          (subst (λ (o : List Entry). Fits p o s.current.drop) (sym order) fits) source says
          (near (Data m) m.head.instance m.head.object indices read (λ none. none) says.0
          (true_low p s indices (Data m) (orders_hold p s k.holds.sender) few tt says)
          (λ xs true_of. (true_of.0, true_low p s xs (Data m) (orders_hold p s k.holds.sender) few tt true_of)))
          (subst (λ (o : List Entry). Awaits p o s.current.drop m.head.instance r) (sym order)
          (subst (λ (id : ℕ). Awaits p s.current.order s.current.drop id r) (sym instance) awaits))

      here : Arrived (λ h. HasSymbol h at) m.head.instance t
      here = subst (λ (said : Result Message Refusal). Arrived (λ h. HasSymbol h at) m.head.instance (message_received p now draw said r)) (sym read) arrived

      inside : t.instance ≡ Some s.current.id
      inside = here.inside ∙ ap (λ (n : ℕ). Some n) instance

      had : is_had wants p s t.holding (want.Symbol at) ≡ true
      had =
          let entry = some_and _ (slice_get (order_of s m.head.instance) (first_index indices)) says.1 in
          let there : slice_get s.current.order at.index ≡ Some entry.0 = ap (λ (o : List Entry). slice_get o (first_index indices)) (sym order) ∙ entry.1 in
          let held = held_next inside in
          symbol_had wants p s (drop_of s s.current.id) held.taken t.knows.due t.holding at entry.0 held.holds there
          (is_whole entry.0 at.index there (not_dropped (point_before (point_of at) s.current.drop) refl behind)) here.has
        where
          not_dropped : (b : Bool) → point_before (point_of at) s.current.drop ≡ b → not b ≡ true → s.current.drop.index ≤ at.index
          not_dropped true e is = absurd (clash is)
          not_dropped false e is = let past = behind_point (point_of at) s.current.drop e in omega (arith, past)

  pub hears_info : (wants : List Want) (m : InfoMessage) (indices : List ℕ) → decoded octets ≡ Ok (Info m) → m.head.source ≡ p.sender
      → m.head.instance ≡ s.current.id → IsTrueOf p s indices (Info m) → is_had wants p s (held_for s t) (want.Info (first_index indices)) ≡ true
  hears_info wants m indices read source instance says = in_instance wants (want.Info index) inside (info_had wants p s t.holding index here.has)
    where
      index : ℕ
      index = first_index indices

      order : order_of s m.head.instance ≡ s.current.order
      order = ap (order_of s) instance ∙ order_is

      arrived : Arrived (λ h. HasInfo h index) m.head.instance (message_received {E = Refusal} p now draw (Ok (Info m)) r)
      arrived = info_arrives p range s s.current.drop r indices now draw m (subst (AreSized p) (sym order) sized)
          (subst (λ (o : List Entry). Fits p o s.current.drop) (sym order) fits) source says
          (near (Info m) m.head.instance m.head.object indices read (λ none. none) says.0
          (true_low p s indices (Info m) (orders_hold p s k.holds.sender) few tt says)
          (λ xs true_of. (true_of.0, true_low p s xs (Info m) (orders_hold p s k.holds.sender) few tt true_of)))
          (subst (λ (o : List Entry). Awaits p o s.current.drop m.head.instance r) (sym order)
          (subst (λ (id : ℕ). Awaits p s.current.order s.current.drop id r) (sym instance) awaits))

      here : Arrived (λ h. HasInfo h index) m.head.instance t
      here = subst (λ (said : Result Message Refusal). Arrived (λ h. HasInfo h index) m.head.instance (message_received p now draw said r)) (sym read) arrived

      inside : t.instance ≡ Some s.current.id
      inside = here.inside ∙ ap (λ (n : ℕ). Some n) instance

-- ---- the law

pub left_heard : LeftHeard
left_heard p range hold events node now draw from d may none other r found member offered own y is behind wants = go d.message own.message says own.read is
  where
    k : HoldsIn p (run p events)
    k = after_run p range events (front_laws.lawful p events (Delivered node d.octets now draw ∷ []) may.lawful)
        (front_laws.events events (Delivered node d.octets now draw ∷ []) may.jobs)

    says : IsTrueOf p (run p events).sender d.indices d.message
    says = (all_contains (λ (x : ℕ × Written). SaysTrue p (run p events).sender x.1) (run p events).offered (from, d) k.holds.offered offered).1

    same : {a b : Want} → Some a ≡ Some b → a ≡ b
    same e = cc

    none_some : None ≡ Some y → ⊥
    none_some e = cc

    Had : Want → Type 0
    Had z = is_had wants p (run p events).sender (held_for (run p events).sender (received p r d.octets now draw)) z ≡ true

    go : (m : Message) → IsOwnMessage p (run p events).sender.current.id m → IsTrueOf p (run p events).sender d.indices m → decoded d.octets ≡ Ok m
        → brings (first_index d.indices) m ≡ Some y → Had y
    go (Info m) mine true_of read is =
        subst Had (same is)
        (hears_info p range hold events node other d.octets now draw may none r found member wants m d.indices read mine.0 mine.1 true_of)
    go (Data m) mine true_of read is =
        subst Had (same is)
        (hears_data p range hold events node other d.octets now draw may none r found member wants m d.indices read mine.0 mine.1 true_of
        (subst (λ (z : Want). stands_behind (run p events).sender.current.drop z ≡ true) (sym (same is)) behind))
    go (Flush m) mine true_of read is = absurd (none_some is)
    go (Squelch m) mine true_of read is = absurd (none_some is)
    go (RepairAdv m) mine true_of read is = absurd mine
    go (Nack m) mine true_of read is = absurd mine
    go (Eot m) mine true_of read is = absurd mine
    go (AckReq m) mine true_of read is = absurd mine
    go (Opaque m) mine true_of read is = absurd mine
    go (Ack m) mine true_of read is = absurd mine
    go (Report m) mine true_of read is = absurd mine
