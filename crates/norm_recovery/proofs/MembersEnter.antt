-- Whoever hears a datagram of the sender's current instance is in that instance then.
use Rattle.std.proofs.Common.{◌≡◌, ℕ, ◌≤◌, List, [], ◌∷◌, Bool, true, false, Option, None, Some, Result, Ok, refl, sym, ap, ◌∙◌, subst, arith, ◌⊎◌, inl, inr}
use Rattle.std.specs.Prelude.{Contains, ◌==◌, unwrap_or, option_and_then}
use Rattle.std.proofs.lemmas.Bool.Decides.{Decides-eqb}
use Rattle.norm_base.specs.Settings.{Settings, InRange}
use Rattle.norm_base.specs.declared.node.Origin.{Origin}
use Rattle.norm_ext.specs.InstanceIds.{rise, is_above}
use Rattle.norm_ext.specs.Message.{Message, Info, Data, Flush, Eot, Squelch, RepairAdv, AckReq, Opaque, Nack, Ack, Report}
use Rattle.norm_ext.specs.ObjectIds.{index_named}
use Rattle.norm_ext.specs.Written.{Written}
use Rattle.norm_ext.specs.declared.refusal.Refusal.{Refusal}
use Rattle.norm_receive_rules.specs.BackingOff.{may_need}
use Rattle.norm_receive_rules.specs.Leaving.{is_in, goes_to, enters, entered}
use Rattle.norm_receive_rules.specs.ReceiverState.{ReceiverState}
use Rattle.norm_receive_rules.specs.Receiving.{info_received, data_received, flush_received, squelch_received, takes_in, in_instance, message_received, received}
use Rattle.norm_send_rules.specs.Restarting.{instances, first_id}
use Rattle.norm_send_rules.specs.Ticking.{ticked}
use Rattle.norm_safety.specs.Events.{Event}
use Rattle.norm_safety.specs.History.{Happening, happens}
use Rattle.norm_safety.specs.InOrder.{came_to}
use Rattle.norm_safety.specs.InTime.{FewObjects}
use Rattle.norm_safety.specs.Jobs.{AreEvents}
use Rattle.norm_safety.specs.Lawful.{Lawful, most_apart}
use Rattle.norm_safety.specs.World.{World, world_opening, receiver_at}
use Rattle.norm_safety.specs.WorldStep.{run}
use Rattle.norm_safety.proofs.EntryLemmas.{clash}
use Rattle.norm_safety.proofs.InTime.{near_small, true_low}
use Rattle.norm_safety.proofs.LowNeeds.{AreUpTo}
use Rattle.norm_safety.proofs.OrderRun.{run_of}
use Rattle.norm_safety.proofs.ReceiverMoves.{need_same, knowing, near_named}
use Rattle.norm_safety.proofs.SenderHolds.{orders_hold}
use Rattle.norm_safety.proofs.Spoken.{Speaks, IsTrueOf, SaysTrue, IsSpoken, SpeaksTrue, current_begun}
use Rattle.norm_safety.proofs.TickTrue.{SentTrue, tick_true}
use Rattle.norm_safety.proofs.WorldHolds.{CameTo, AtNode, AtReceiver, WorldHolds, all_contains}
use Rattle.norm_laws.proofs.PassingWords.{same_or_above}
use Rattle.norm_recovery.specs.MembersEnter.{IsOwnMessage, IsOwn, MembersEnter}
use Rattle.norm_recovery.proofs.KeepsTail.{tail_keeps}
use Rattle.norm_recovery.proofs.LawfulTail.{few_still}
use Rattle.norm_recovery.proofs.MembersOwn.{GivesOwn, tick_own}
use Rattle.norm_recovery.proofs.MembersRun.{IsOfSender, Follows, FollowsAt, follows_in_run}
use Rattle.norm_recovery.proofs.MembersTail.{last_is_run, found_holds, LedTo, at_moment}

-- ---- a message

-- a receiver is in an instance, or goes on to it with a message whose id then names an index
abbrev MayEnter : Settings → ReceiverState → (id object : ℕ) → Type 0
MayEnter p r id object = (is_in r id ≡ true) ⊎ ((is_in r id ≡ false) × (goes_to r id ≡ true) × ((index : ℕ) × (index_named p 0 object ≡ Some index)))

is_there : (r : ReceiverState) (id : ℕ) → r.instance ≡ Some id → is_in r id ≡ true
is_there r id e = ap (λ (o : Option ℕ). elim o [ Some current ↦ current == id | None ↦ false ]) e ∙ (Decides-eqb id id).1 refl

enters_instance : (p : Settings) (now draw source id object : ℕ) (brings : ℕ → ReceiverState → ReceiverState) (r : ReceiverState) → source ≡ p.sender
    → ((index : ℕ) (t : ReceiverState) → (brings index t).instance ≡ t.instance) → MayEnter p r id object
    → is_in (in_instance p now draw source id object brings r) id ≡ true
enters_instance p now draw source id object brings r from same may =
    ap (λ (own : Bool). is_in (by own (entered r id)) id) ((Decides-eqb source p.sender).1 from) ∙ go may
  where
    by : Bool → Option ReceiverState → ReceiverState
    by own found = elim own [ true ↦ unwrap_or (option_and_then (takes_in p now draw object brings) found) r | false ↦ r ]

    left : ReceiverState → Option ℕ → ReceiverState
    left t named = unwrap_or (elim named [ Some index ↦ Some (may_need p now draw (brings index (knowing index t))) | None ↦ None ]) r

    stands : (t : ReceiverState) (index : ℕ) → (may_need p now draw (brings index (knowing index t))).instance ≡ t.instance
    stands t index = (need_same p now draw (brings index (knowing index t))).instance ∙ same index (knowing index t)

    found_by : Bool → Bool → Option ReceiverState
    found_by inside above = elim inside [ true ↦ Some r | false ↦ elim above [ true ↦ Some (enters id r) | false ↦ None ] ]

    inside : is_in r id ≡ true → (named : Option ℕ) → is_in (left r named) id ≡ true
    inside e None = e
    inside e (Some index) =
        ap (λ (o : Option ℕ). elim o [ Some current ↦ current == id | None ↦ false ]) (stands r index) ∙ e

    go : MayEnter p r id object → is_in (by true (entered r id)) id ≡ true
    go (inl e) = ap (λ (b : Bool). is_in (by true (found_by b (goes_to r id))) id) e ∙ inside e (index_named p r.knows.known object)
    go (inr (out, above, (index, named))) =
        ap (λ (b : Bool). is_in (by true (found_by b (goes_to r id))) id) out
        ∙ ap (λ (b : Bool). is_in (by true (found_by false b)) id) above
        ∙ ap (λ (o : Option ℕ). is_in (left (enters id r) o) id) named
        ∙ is_there (left (enters id r) (Some index)) id (stands (enters id r) index)

-- ---- where a receiver may go

module _ (p : Settings) (range : InRange p) (past : List Happening) (accepted : List Origin) (w : World) (holds : WorldHolds p past accepted w)
    (few : FewObjects w.sender) (node : ℕ) (r : ReceiverState) (here : AtReceiver p w.sender past node r) (follows : Follows w.sender past node r) where
  abbrev id : ℕ
  id = w.sender.current.id

  in_or_on : (is_in r id ≡ true) ⊎ ((is_in r id ≡ false) × (goes_to r id ≡ true))
  in_or_on = go (is_in r id) refl
    where
      by : (instance : Option ℕ) → r.instance ≡ instance → CameTo p (came_to node None past) instance → IsOfSender w.sender instance → is_in r id ≡ false
          → goes_to r id ≡ true
      by None is came known out = ap (λ (o : Option ℕ). elim o [ Some own ↦ is_above own id | None ↦ true ]) is
      by (Some current) is came known out =
          ap (λ (o : Option ℕ). elim o [ Some own ↦ is_above own id | None ↦ true ]) is
          ∙ pick (same_or_above p current id came.begun (current_begun p range w.sender holds.sender) le)
        where
          F : ℕ → Type 0
          F first = rise first current ≤ rise first id

          le : rise p.instance current ≤ rise p.instance id
          le =
              subst F holds.sender.first
              (found_holds (λ (n : ℕ). rise (first_id w.sender) n ≤ rise (first_id w.sender) id) (instances w.sender) current holds.once.low known)

          pick : (current ≡ id) ⊎ (is_above current id ≡ true) → is_above current id ≡ true
          pick (inl same) =
              absurd (clash (sym out ∙ ap (λ (o : Option ℕ). elim o [ Some own ↦ own == id | None ↦ false ]) is ∙ (Decides-eqb current id).1 same))
          pick (inr above) = above

      go : (b : Bool) → is_in r id ≡ b → (is_in r id ≡ true) ⊎ ((is_in r id ≡ false) × (goes_to r id ≡ true))
      go true e = inl e
      go false e = inr (e, by r.instance refl here.came follows.known e)

  may_enter : (object instance : ℕ) (indices : List ℕ) → Speaks p instance object indices → AreUpTo most_apart indices → MayEnter p r id object
  may_enter object instance indices speaks low = go in_or_on
    where
      named : index_named p 0 object ≡ Some speaks.index
      named =
          let near : AreUpTo most_apart (speaks.index ∷ []) = subst (AreUpTo most_apart) speaks.alone low in
          near_named p 0 object speaks.index speaks.named speaks.most (near_small 0 (speaks.index ∷ []) (omega arith) near)

      go : (is_in r id ≡ true) ⊎ ((is_in r id ≡ false) × (goes_to r id ≡ true)) → MayEnter p r id object
      go (inl e) = inl e
      go (inr (out, above)) = inr (out, above, (speaks.index, named))

  message_enters : (indices : List ℕ) (m : Message) → IsTrueOf p w.sender indices m → IsOwnMessage p id m → (now draw : ℕ)
      → is_in (message_received {E = Refusal} p now draw (Ok m) r) id ≡ true
  message_enters indices m says own now draw = go m says own
    where
      low : (m : Message) → IsSpoken m → IsTrueOf p w.sender indices m → AreUpTo most_apart indices
      low m spoken says = true_low p w.sender indices m (orders_hold p w.sender holds.sender) few spoken says

      there : (t : ReceiverState) (instance : ℕ) → instance ≡ id → is_in t instance ≡ true → is_in t id ≡ true
      there t instance same e = subst (λ (n : ℕ). is_in t n ≡ true) same e

      back : (instance object : ℕ) → instance ≡ id → MayEnter p r id object → MayEnter p r instance object
      back instance object same may = subst (λ (n : ℕ). MayEnter p r n object) (sym same) may

      go : (m : Message) → IsTrueOf p w.sender indices m → IsOwnMessage p id m → is_in (message_received {E = Refusal} p now draw (Ok m) r) id ≡ true
      go (Info m) says own = there (message_received {E = Refusal} p now draw (Ok (Info m)) r) m.head.instance own.1
          (enters_instance p now draw m.head.source m.head.instance m.head.object (info_received p m) r own.0 (λ index t. refl)
          (back m.head.instance m.head.object own.1 (may_enter m.head.object m.head.instance indices says.0 (low (Info m) tt says))))
      go (Data m) says own = there (message_received {E = Refusal} p now draw (Ok (Data m)) r) m.head.instance own.1
          (enters_instance p now draw m.head.source m.head.instance m.head.object (data_received p m) r own.0 (λ index t. refl)
          (back m.head.instance m.head.object own.1 (may_enter m.head.object m.head.instance indices says.0 (low (Data m) tt says))))
      go (Flush m) says own = there (message_received {E = Refusal} p now draw (Ok (Flush m)) r) m.head.instance own.1
          (enters_instance p now draw m.head.source m.head.instance m.object (flush_received m) r own.0 (λ index t. refl)
          (back m.head.instance m.object own.1 (may_enter m.object m.head.instance indices says.0 (low (Flush m) tt says))))
      go (Squelch m) says own = there (message_received {E = Refusal} p now draw (Ok (Squelch m)) r) m.head.instance own.1
          (enters_instance p now draw m.head.source m.head.instance m.object (squelch_received p m) r own.0 (λ index t. refl)
          (back m.head.instance m.object own.1 (may_enter m.object m.head.instance indices says.0 (low (Squelch m) tt says))))
      go (RepairAdv m) says own = absurd own
      go (Nack m) says own = absurd own
      go (Eot m) says own = absurd own
      go (AckReq m) says own = absurd own
      go (Opaque m) says own = absurd own
      go (Ack m) says own = absurd own
      go (Report m) says own = absurd own

  datagram_enters : (from : ℕ) (d : Written) → Contains w.offered (from, d) → IsOwn p id d → (now draw : ℕ) → is_in (received p r d.octets now draw) id ≡ true
  datagram_enters from d offered own now draw =
      let says : SaysTrue p w.sender d = all_contains (λ (o : ℕ × Written). SaysTrue p w.sender o.1) w.offered (from, d) holds.offered offered in
      subst (λ (said : Result Message Refusal). is_in (message_received p now draw said r) id ≡ true) (sym own.read)
      (message_enters d.indices d.message says.1 own.message now draw)

-- after a run
pub enters_in_run : (p : Settings) → InRange p → (events : List Event) → Lawful p events → AreEvents events → FewObjects (run p events).sender → (from : ℕ) (d : Written)
    → Contains (run p events).offered (from, d) → IsOwn p (run p events).sender.current.id d → (node : ℕ) (r : ReceiverState) → receiver_at (run p events) node ≡ Some r
    → (now draw : ℕ) → is_in (received p r d.octets now draw) (run p events).sender.current.id ≡ true
enters_in_run p range events lawful are few from d offered own node r found now draw =
    let past : List Happening = happens p (world_opening p) events in
    let ran = run_of p range events lawful are in
    let w : World = run p events in
    let holds : WorldHolds p past ran.accepted w = subst (WorldHolds p past ran.accepted) (last_is_run p (world_opening p) events) ran.holds in
    datagram_enters p range past ran.accepted w holds few node r (subst (AtNode p w.sender past node) found (holds.nodes node))
    (subst (FollowsAt w.sender past node) found (follows_in_run p range events lawful are node)) from d offered own now draw

-- what a tick gives after a run
gives_in_run : (p : Settings) → InRange p → (events : List Event) → Lawful p events → AreEvents events → (now : ℕ) (d : Written)
    → (ticked p (run p events).sender now).1 ≡ Some d → IsOwn p (run p events).sender.current.id d
gives_in_run p range events lawful are now d e =
    let past : List Happening = happens p (world_opening p) events in
    let ran = run_of p range events lawful are in
    let w : World = run p events in
    let holds : WorldHolds p past ran.accepted w = subst (WorldHolds p past ran.accepted) (last_is_run p (world_opening p) events) ran.holds in
    let speaks : SpeaksTrue p w.sender d = subst (SentTrue p w.sender) e (tick_true p range w.sender now holds.sender holds.once.ids) in
    record { message = subst (GivesOwn p w.sender.current.id) e (tick_own p w.sender now); read = speaks.read }

pub members_enter : MembersEnter
members_enter = record {
  own = gives_in_run;
  enters = λ p range events may c tail v moment from d offered own node r found now draw. (
      let m : LedTo p v = at_moment p range events may c tail v moment in
      let few : FewObjects v.sender = few_still (run p events).sender v.sender (tail_keeps p events c tail v moment) may.few in
      let E : World → Type 0 = λ x. FewObjects x.sender → Contains x.offered (from, d) → IsOwn p x.sender.current.id d → receiver_at x node ≡ Some r
      → is_in (received p r d.octets now draw) x.sender.current.id ≡ true in
      subst E m.here (λ few offered own found. enters_in_run p range m.events m.lawful m.jobs few from d offered own node r found now draw) few offered own found
      );
}
