-- In a run of few objects no receiver knows of an index above 32,767.
use Rattle.std.proofs.Common.{◌≡◌, ℕ, List, [], ◌∷◌, ◌++◌, map, Bool, true, false, Option, None, Some, refl, sym, ◌∙◌, subst, arith}
use Rattle.std.specs.Prelude.{◌==◌, option_and_then}
use Rattle.std.specs.List.{AllByRecursion}
use Rattle.std.proofs.lemmas.Bool.Decides.{Decides-eqb}
use Rattle.norm_base.specs.Members.{receivers_of}
use Rattle.norm_base.specs.Settings.{Settings, InRange}
use Rattle.norm_base.specs.declared.node.Origin.{Origin}
use Rattle.norm_ext.specs.Message.{Message, Info, Data, Flush, Squelch, Eot, RepairAdv, AckReq, Opaque, Nack, Ack, Report}
use Rattle.norm_ext.specs.Written.{Written}
use Rattle.norm_receive_rules.specs.ReceiverState.{ReceiverState, receiver_opening}
use Rattle.norm_receive_rules.specs.ReceiverStep as receiver
use Rattle.norm_receive_rules.specs.ReceiverStep.{ReceiverEvent, receiver_step}
use Rattle.norm_receive_rules.specs.Receiving.{received}
use Rattle.norm_send_rules.specs.Reached.{IsReached}
use Rattle.norm_send_rules.specs.Restarting.{instances}
use Rattle.norm_send_rules.specs.SenderState.{SenderState}
use Rattle.norm_send_rules.proofs.ReachedLemmas.{reached_laws}
use Rattle.norm_safety.specs.Events.{Event, Commanded, Delivered, Ticked, Offered, UpTaken, NewsAsked}
use Rattle.norm_safety.specs.History.{Happening}
use Rattle.norm_safety.specs.InTime.{FewObjects}
use Rattle.norm_safety.specs.Jobs.{AreEvents}
use Rattle.norm_safety.specs.Lawful.{receiver_knows, sender_knows, are_near, accepted_with, LawfulDelivery, MayCome, LawfulFrom}
use Rattle.norm_safety.specs.OnceEach.{order_of}
use Rattle.norm_safety.specs.World.{World, world_opening, receiver_at}
use Rattle.norm_safety.specs.WorldLaws.{to_receiver}
use Rattle.norm_safety.specs.WorldStep.{world_step, run_from, run}
use Rattle.norm_safety.proofs.GoesOn.{later_long}
use Rattle.norm_safety.proofs.InTime.{true_low}
use Rattle.norm_safety.proofs.LowKnown.{IsLow, low_nothing, received_low, tick_low}
use Rattle.norm_safety.proofs.Onward.{Onward, goes_on_itself, go_on_both}
use Rattle.norm_safety.proofs.OrderRun.{event_holds, opening_world, happening, found_holds}
use Rattle.norm_safety.proofs.PleaRun.{world_goes}
use Rattle.norm_safety.proofs.SenderHolds.{SenderHolds, OrdersHold, order_later, orders_hold}
use Rattle.norm_safety.proofs.Spoken.{IsTrueOf, IsSpoken, SaysTrue}
use Rattle.norm_safety.proofs.WorldHolds.{WorldHolds, all_contains}
use Rattle.norm_safety.proofs.WorldLemmas.{world_laws}
use Rattle.norm_recovery.specs.TailLawful.{MayGoOn}
use Rattle.norm_recovery.proofs.MembersRun.{none_stays}

none_some : {X : Type 0} (x : X) → None ≡ Some x → ⊥
none_some x e = cc

same_some : {X : Type 0} (x y : X) → Some x ≡ Some y → x ≡ y
same_some x y e = cc

-- ---- an instance has no more objects than later

onward : (p : Settings) → InRange p → (w : World) (events : List Event) → AreEvents events → SenderHolds p w.sender → IsReached p w.sender
    → Onward w.sender (run_from p w events).sender
onward p range w [] are holds reach = goes_on_itself (instances w.sender)
onward p range w (e ∷ events) are holds reach =
    let goes = world_goes p range w e are.0 holds reach in
    go_on_both (instances w.sender) (instances (world_step p w e).0.sender) (instances (run_from p w (e ∷ events)).sender) goes.steps.onward
    (onward p range (world_step p w e).0 events are.1 goes.steps.holds goes.reached)

few_before : (s t : SenderState) → Onward s t → FewObjects t → FewObjects s
few_before s t on few id =
    let longer = later_long (order_of s id) (order_of t id) (order_later s t on id).order in
    let most = few id in
    omega (arith, longer, most)

-- ---- what is heard

nothing_near : (known : Option ℕ) → are_near known [] ≡ true
nothing_near None = refl
nothing_near (Some known) = refl

-- what says the truth of few objects leaves it so
hears_low : (p : Settings) (s : SenderState) (r : ReceiverState) (o : Written) (octets : List ℕ) (now draw : ℕ) → OrdersHold p s → FewObjects s → SaysTrue p s o
    → o.octets ≡ octets → are_near (receiver_knows r o.message) o.indices ≡ true → IsLow 32767 r.knows → IsLow 32767 (received p r octets now draw).knows
hears_low p s r o octets now draw orders few says same near low = go o.message refl
  where
    spoken : IsSpoken o.message → IsLow 32767 (received p r octets now draw).knows
    spoken is = received_low 32767 p s r o octets now draw says same (true_low p s o.indices o.message orders few is says.1) near low

    -- of no indices anything else says as much
    other : IsTrueOf p s [] o.message → IsLow 32767 (received p r octets now draw).knows
    other is = received_low 32767 p s r (record o { indices = [] }) octets now draw (says.0, is) same tt (nothing_near (receiver_knows r o.message)) low

    go : (m : Message) → o.message ≡ m → IsLow 32767 (received p r octets now draw).knows
    go (Info m) e = spoken (subst IsSpoken (sym e) tt)
    go (Data m) e = spoken (subst IsSpoken (sym e) tt)
    go (Flush m) e = spoken (subst IsSpoken (sym e) tt)
    go (Squelch m) e = spoken (subst IsSpoken (sym e) tt)
    go (Eot m) e = other (subst (IsTrueOf p s []) (sym e) tt)
    go (RepairAdv m) e = other (subst (IsTrueOf p s []) (sym e) tt)
    go (AckReq m) e = other (subst (IsTrueOf p s []) (sym e) tt)
    go (Opaque m) e = other (subst (IsTrueOf p s []) (sym e) tt)
    go (Nack m) e = other (subst (IsTrueOf p s []) (sym e) tt)
    go (Ack m) e = other (subst (IsTrueOf p s []) (sym e) tt)
    go (Report m) e = other (subst (IsTrueOf p s []) (sym e) tt)

-- ---- a run

-- what each receiver knows is low
abbrev pub AllLow : Settings → World → Type 0
AllLow p w = (node : ℕ) (r : ReceiverState) → (node == p.sender) ≡ false → receiver_at w node ≡ Some r → IsLow 32767 r.knows

module _ (p : Settings) (range : InRange p) (past : List Happening) (accepted : List Origin) (w : World) (holds : WorldHolds p past accepted w)
    (few : FewObjects w.sender) (low : AllLow p w) (node : ℕ) (other : (node == p.sender) ≡ false) where
  -- the node's receiver, if an event is for it
  for_node : (to : ℕ) (own : ReceiverEvent) (e : ℕ → Event) → ((n : ℕ) → to_receiver (e n) ≡ Some (n, own)) → (t : ReceiverState)
      → ((r : ReceiverState) → receiver_at w node ≡ Some r → receiver_at (world_step p w (e node)).0 node ≡ Some (receiver_step p r own).0)
      → ((to == node) ≡ false → receiver_at (world_step p w (e to)).0 node ≡ receiver_at w node)
      → ((to ≡ node) → (r : ReceiverState) → receiver_at w node ≡ Some r → IsLow 32767 (receiver_step p r own).0.knows)
      → receiver_at (world_step p w (e to)).0 node ≡ Some t → IsLow 32767 t.knows
  for_node to own e names t moves others steps is = go (to == node) refl
    where
      by : (same : to ≡ node) (found : Option ReceiverState) → receiver_at w node ≡ found → receiver_at (world_step p w (e node)).0 node ≡ Some t → IsLow 32767 t.knows
      by same None none at = absurd (none_some t (sym (none_stays p w (e node) node none) ∙ at))
      by same (Some r) found at =
          subst (λ (x : ReceiverState). IsLow 32767 x.knows) (same_some (receiver_step p r own).0 t (sym (moves r found) ∙ at)) (steps same r found)

      go : (b : Bool) → (to == node) ≡ b → IsLow 32767 t.knows
      go false apart = low node t other (sym (others apart) ∙ is)
      go true e' =
          let same : to ≡ node = (Decides-eqb to node).0 e' in
          by same (receiver_at w node) refl (subst (λ (n : ℕ). receiver_at (world_step p w (e n)).0 node ≡ Some t) same is)

  event_low : (e : Event) → MayCome p w accepted e → (t : ReceiverState) → receiver_at (world_step p w e).0 node ≡ Some t → IsLow 32767 t.knows
  event_low (Commanded by job now) may t is = low node t other (sym (world_laws.others p w (Commanded by job now) node refl) ∙ is)
  event_low (Delivered to octets now draw) may t is =
      for_node to (receiver.Delivered octets now draw) (λ n. Delivered n octets now draw) (λ n. refl) t
      (λ r found. world_laws.moves p w (Delivered node octets now draw) node (receiver.Delivered octets now draw) r other refl found)
      (λ apart. world_laws.others p w (Delivered to octets now draw) node apart)
      (λ same r found. heard (subst (λ (n : ℕ). LawfulDelivery p w n octets) same may) r found) is
    where
      heard : LawfulDelivery p w node octets → (r : ReceiverState) → receiver_at w node ≡ Some r → IsLow 32767 (received p r octets now draw).knows
      heard came r found =
          let near : are_near (option_and_then (λ r. receiver_knows r came.datagram.message) (receiver_at w node)) came.datagram.indices ≡ true =
          subst (λ (b : Bool). are_near (elim b as (λ _. Option ℕ) [
            | true ↦ sender_knows w.sender came.datagram.message
            | false ↦ option_and_then (λ r. receiver_knows r came.datagram.message) (receiver_at w node)
          ]) came.datagram.indices ≡ true) other came.near in
          hears_low p w.sender r came.datagram octets now draw (orders_hold p w.sender holds.sender) few
          (all_contains (λ (o : ℕ × Written). SaysTrue p w.sender o.1) w.offered (came.from, came.datagram) holds.offered came.offered) came.same
          (subst (λ (o : Option ReceiverState). are_near (option_and_then (λ r. receiver_knows r came.datagram.message) o) came.datagram.indices ≡ true) found near)
          (low node r other found)
  event_low (Ticked to now) may t is =
      for_node to (receiver.Ticked now) (λ n. Ticked n now) (λ n. refl) t
      (λ r found. world_laws.moves p w (Ticked node now) node (receiver.Ticked now) r other refl found)
      (λ apart. world_laws.others p w (Ticked to now) node apart) (λ same r found. (tick_low 32767 p r now (low node r other found)).0) is
  event_low (Offered to octets) may t is = low node t other (sym (world_laws.others p w (Offered to octets) node refl) ∙ is)
  event_low (UpTaken to) may t is =
      for_node to receiver.UpTaken (λ n. UpTaken n) (λ n. refl) t
      (λ r found. world_laws.moves p w (UpTaken node) node receiver.UpTaken r refl refl found)
      (λ apart. world_laws.others p w (UpTaken to) node apart) (λ same r found. low node r other found) is
  event_low NewsAsked may t is = low node t other (sym (world_laws.others p w NewsAsked node refl) ∙ is)

low_from : (p : Settings) → InRange p → (past : List Happening) (accepted : List Origin) (w : World) (events : List Event) → LawfulFrom p w accepted events
    → AreEvents events → WorldHolds p past accepted w → IsReached p w.sender → FewObjects (run_from p w events).sender → AllLow p w → AllLow p (run_from p w events)
low_from p range past accepted w [] lawful are holds reach few low = low
low_from p range past accepted w (e ∷ events) lawful are holds reach few low =
    let step = world_step p w e in
    low_from p range (past ++ happening w e step ∷ []) (accepted_with accepted e step.1) step.0 events lawful.1 are.1
    (event_holds p range past accepted w e lawful.0 are.0 holds) (world_goes p range w e are.0 holds.sender reach).reached few
    (λ node t other is. event_low p range past accepted w holds
    (few_before w.sender (run_from p w (e ∷ events)).sender (onward p range w (e ∷ events) are holds.sender reach) few) low node other e lawful.0 t is)

low_opening : (p : Settings) → AllLow p (world_opening p)
low_opening p node r other found =
    found_holds (λ (x : ReceiverState). IsLow 32767 x.knows) (λ (x : ReceiverState). x.node == node) (world_opening p).receivers r (each (receivers_of p p.receivers)) found
  where
    each : (nodes : List ℕ) → AllByRecursion (λ (x : ReceiverState). IsLow 32767 x.knows) (map receiver_opening nodes)
    each [] = tt
    each (n ∷ nodes) = (low_nothing 32767, each nodes)

pub low_known : (p : Settings) → InRange p → (events : List Event) → MayGoOn p events → AllLow p (run p events)
low_known p range events may =
    low_from p range [] [] (world_opening p) events may.lawful may.jobs (opening_world p range) (reached_laws.at_first p p.instance range) may.few (low_opening p)
