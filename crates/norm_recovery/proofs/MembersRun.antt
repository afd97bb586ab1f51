-- What holds of each receiver in a lawful run: what it lost it handed up as lost, and the sender began the instance that it is in.
use Rattle.std.proofs.Common.{◌≡◌, ℕ, cond, List, [], ◌∷◌, ◌++◌, map, Bool, true, false, Option, None, Some, Result, Ok, Err, refl, sym, ap, ◌∙◌, subst, append_assoc, ◌⊎◌, inl, inr}
use Rattle.std.specs.Prelude.{⊤, find, slice_get, ◌==◌, IsSomeAnd}
use Rattle.std.specs.List.{list_any}
use Rattle.std.proofs.lemmas.Bool.Decides.{Decides-eqb}
use Rattle.std.proofs.lemmas.List.{append-nil}
use Rattle.norm_base.specs.Members.{receivers_of}
use Rattle.norm_base.specs.Settings.{Settings, InRange}
use Rattle.norm_base.specs.declared.node.Origin.{Origin}
use Rattle.fec_plan.specs.Points.{position}
use Rattle.norm_ext.specs.Message.{Message, Info, Data, Flush, Eot, Squelch, RepairAdv, AckReq, Opaque, Nack, Ack, Report}
use Rattle.norm_ext.specs.Reading.{decoded}
use Rattle.norm_ext.specs.Written.{Written}
use Rattle.norm_ext.specs.declared.refusal.Refusal.{Refusal}
use Rattle.norm_order.specs.Entries.{Entry}
use Rattle.norm_order.specs.Shapes.{shapes_of, is_source}
use Rattle.norm_order.specs.declared.up.Up.{Up}
use Rattle.norm_receive_rules.specs.Holding.{Holding}
use Rattle.norm_receive_rules.specs.Leaving.{is_in}
use Rattle.norm_receive_rules.specs.ReceiverState.{ReceiverState, receiver_opening}
use Rattle.norm_receive_rules.specs.ReceiverStep.{ReceiverEvent, receiver_step}
use Rattle.norm_receive_rules.specs.ReceiverStep as receiver
use Rattle.norm_receive_rules.specs.Receiving.{received}
use Rattle.norm_receive_rules.specs.Taking.{took}
use Rattle.norm_receive_rules.specs.Ticking.{ticked}
use Rattle.norm_send_rules.specs.Restarting.{instances}
use Rattle.norm_send_rules.specs.SenderState.{SenderState, Instance}
use Rattle.norm_safety.specs.Events.{Event, Commanded, Delivered, Ticked, Offered, UpTaken, NewsAsked, Answer, Gave, Sent, Took, Told, Silent}
use Rattle.norm_safety.specs.Hands.{hands, taken_in, is_at}
use Rattle.norm_safety.specs.History.{Happening, happens}
use Rattle.norm_safety.specs.Jobs.{IsEvent, AreEvents}
use Rattle.norm_safety.specs.Lawful.{accepted_with, MayCome, LawfulFrom, Lawful}
use Rattle.norm_safety.specs.LosesNothing.{is_loss}
use Rattle.norm_safety.specs.OnceEach.{order_of}
use Rattle.norm_safety.specs.Said.{first_index}
use Rattle.norm_safety.specs.World.{World, world_opening, receiver_at}
use Rattle.norm_safety.specs.WorldLaws.{is_senders, to_receiver}
use Rattle.norm_safety.specs.WorldStep.{world_step, run_from, run}
use Rattle.norm_safety.proofs.EntryLemmas.{clash}
use Rattle.norm_safety.proofs.Feedback.{SaysNothing}
use Rattle.norm_safety.proofs.Onward.{Onward, GoOn, instance_in, goes_on_itself}
use Rattle.norm_safety.proofs.OrderRun.{happening, event_holds, opening_world}
use Rattle.norm_safety.proofs.ReceiverMoves.{tick_same}
use Rattle.norm_safety.proofs.SenderHolds.{command_steps}
use Rattle.norm_safety.proofs.Spoken.{IsTrueOf, SaysTrue}
use Rattle.norm_safety.proofs.WorldHolds.{WorldHolds, hands_more, hands_same, all_contains}
use Rattle.norm_safety.proofs.WorldLemmas.{world_laws}
use Rattle.norm_laws.proofs.PassingHears.{IsOfInstance}
use Rattle.norm_recovery.specs.TailOf.{IsQuiet}
use Rattle.norm_recovery.proofs.KeepsSender.{event_stays}
use Rattle.norm_recovery.proofs.LawfulTail.{same_instances}
use Rattle.norm_recovery.proofs.MembersLost.{HandsMore, same_more, without_loss, HandsOn, More, Anew, message_more}
use Rattle.norm_recovery.proofs.TailWalk.{no_receiver}

-- ---- instances that a sender began

-- a sender has an instance
abbrev pub HasInstance : SenderState → ℕ → Type 0
HasInstance s id = instance_in (instances s) id ≡ None → ⊥

-- a sender began the instance that a receiver is in
abbrev pub IsOfSender : SenderState → Option ℕ → Type 0
IsOfSender s None = ⊤
IsOfSender s (Some id) = HasInstance s id

none_some : {X : Type 0} (x : X) → None ≡ Some x → ⊥
none_some x e = cc

has_later : (s t : SenderState) (id : ℕ) → Onward s t → HasInstance s id → HasInstance t id
has_later s t id onward has = go (instance_in (instances s) id) refl
  where
    go : (found : Option Instance) → instance_in (instances s) id ≡ found → HasInstance t id
    go None e = absurd (has e)
    go (Some i) e = (let j = onward id i e in λ none. none_some j.0 (sym none ∙ j.1))

of_later : (s t : SenderState) (instance : Option ℕ) → Onward s t → IsOfSender s instance → IsOfSender t instance
of_later s t None onward h = tt
of_later s t (Some id) onward h = has_later s t id onward h

abbrev order_in : Option Instance → List Entry
order_in found = elim found [ Some i ↦ i.order | None ↦ [] ]

-- a true message of the sender is of an instance that it began
true_known : (p : Settings) (s : SenderState) (indices : List ℕ) (m : Message) (id : ℕ) → IsTrueOf p s indices m → IsOfInstance (Ok m) id → HasInstance s id
true_known p s indices m id says of = go m says of
  where
    nothing : (P : Entry → Type 0) (instance index : ℕ) → IsSomeAnd (slice_get (order_of s instance) index) P → HasInstance s instance
    nothing P instance index h none = (let S : Option Instance → Type 0 = λ found. IsSomeAnd (slice_get (order_in found) index) P in subst S none h)

    go : (m : Message) → IsTrueOf p s indices m → IsOfInstance (Ok m) id → HasInstance s id
    go (Data m) says of = subst (HasInstance s) of (nothing _ m.head.instance (first_index indices) says.1)
    go (Info m) says of = subst (HasInstance s) of (nothing _ m.head.instance (first_index indices) says.1)
    go (Flush m) says of = subst (HasInstance s) of (λ none. (
        let F : Option Instance → Type 0 = λ found. is_source (shapes_of p (order_in found)) (position (first_index indices) m.id.block m.id.symbol) ≡ true in
        clash (subst F none says.1)
        ))
    go (Squelch m) says of = subst (HasInstance s) of (λ none. none_some says.1.0 (sym none ∙ says.1.1))
    go (RepairAdv m) says of = absurd of
    go (Nack m) says of = absurd of
    go (Eot m) says of = absurd of
    go (AckReq m) says of = absurd of
    go (Opaque m) says of = absurd of
    go (Ack m) says of = absurd of
    go (Report m) says of = absurd of

nothing_of : (said : Result Message Refusal) (id : ℕ) → SaysNothing said → IsOfInstance said id → ⊥
nothing_of (Ok (Info m)) id nothing of = nothing
nothing_of (Ok (Data m)) id nothing of = nothing
nothing_of (Ok (Flush m)) id nothing of = nothing
nothing_of (Ok (Squelch m)) id nothing of = nothing
nothing_of (Ok (RepairAdv m)) id nothing of = of
nothing_of (Ok (Nack m)) id nothing of = of
nothing_of (Ok (Eot m)) id nothing of = of
nothing_of (Ok (AckReq m)) id nothing of = of
nothing_of (Ok (Opaque m)) id nothing of = of
nothing_of (Ok (Ack m)) id nothing of = of
nothing_of (Ok (Report m)) id nothing of = of
nothing_of (Err refusal) id nothing of = of

-- and so is what its octets spell
octets_known : (p : Settings) (s : SenderState) (o : Written) (id : ℕ) → SaysTrue p s o → IsOfInstance (decoded o.octets) id → HasInstance s id
octets_known p s o id says of = go says.0
  where
    go : (decoded o.octets ≡ Ok o.message) ⊎ SaysNothing (decoded o.octets) → HasInstance s id
    go (inl read) = true_known p s o.indices o.message id says.1 (subst (λ (said : Result Message Refusal). IsOfInstance said id) read of)
    go (inr nothing) = absurd (nothing_of (decoded o.octets) id nothing of)

-- ---- a receiver

-- What holds of a node's receiver, with what happened: if none of its hand-ups in its instance reports a loss, it lost nothing there; and
-- the sender began that instance.
pub record Follows (s : SenderState) (past : List Happening) (node : ℕ) (r : ReceiverState) : Type 0 where
  pub lost : (id : ℕ) → r.instance ≡ Some id → list_any is_loss (hands past node id ++ r.holding.ups) ≡ false → r.holding.lost ≡ []
  pub known : IsOfSender s r.instance

-- where the node has a receiver
abbrev pub FollowsAt : SenderState → List Happening → ℕ → Option ReceiverState → Type 0
FollowsAt s past node None = ⊤
FollowsAt s past node (Some r) = Follows s past node r

-- one that stays as it is
same_follows : (s t : SenderState) (past : List Happening) (x : Happening) (node : ℕ) (found : Option ReceiverState) → Onward s t
    → taken_in node x.event x.answer ≡ [] → FollowsAt s past node found → FollowsAt t (past ++ x ∷ []) node found
same_follows s t past x node None onward none h = tt
same_follows s t past x node (Some r) onward none h = record {
  lost = λ id is clean. h.lost id is (ap (λ (ups : List Up). list_any is_loss (ups ++ r.holding.ups)) (sym (hands_same past x node id none)) ∙ clean);
  known = of_later s t r.instance onward h.known;
}

-- one that ticks, or hears
held_follows : (s : SenderState) (past : List Happening) (x : Happening) (node : ℕ) (r t : ReceiverState) → taken_in node x.event x.answer ≡ []
    → t.instance ≡ r.instance → HandsMore r.holding t.holding → Follows s past node r → Follows s (past ++ x ∷ []) node t
held_follows s past x node r t none same more h = record {
  lost = λ id is clean. (
      let all : (hands past node id ++ r.holding.ups) ++ more.more ≡ hands (past ++ x ∷ []) node id ++ t.holding.ups =
      append_assoc (hands past node id) r.holding.ups more.more ∙ ap (λ (ups : List Up). hands past node id ++ ups) (sym more.ups)
      ∙ ap (λ (ups : List Up). ups ++ t.holding.ups) (sym (hands_same past x node id none)) in
      let two = without_loss (hands past node id ++ r.holding.ups) more.more (ap (list_any is_loss) all ∙ clean) in
      more.lost two.1 ∙ h.lost id (sym same ∙ is) two.0
      );
  known = subst (IsOfSender s) (sym same) h.known;
}

heard_follows : (p : Settings) (s : SenderState) (past : List Happening) (x : Happening) (node : ℕ) (r : ReceiverState) (o : Written) (octets : List ℕ) (now draw : ℕ)
    → taken_in node x.event x.answer ≡ [] → SaysTrue p s o → o.octets ≡ octets → Follows s past node r
    → Follows s (past ++ x ∷ []) node (received p r octets now draw)
heard_follows p s past x node r o octets now draw none says same h = go (message_more p r now draw (decoded octets))
  where
    t : ReceiverState
    t = received p r octets now draw

    go : HandsOn r (decoded octets) t → Follows s (past ++ x ∷ []) node t
    go (More instance more) = held_follows s past x node r t none instance more h
    go (Anew id is of begun nothing more) = record {
      lost = λ other at clean. (
          let two = without_loss (hands (past ++ x ∷ []) node other) t.holding.ups clean in
          let new = without_loss begun.ups more.more (ap (list_any is_loss) (sym more.ups) ∙ two.1) in
          more.lost new.1 ∙ nothing
          );
      known = subst (IsOfSender s) (sym is)
          (octets_known p s o id says (subst (λ (bytes : List ℕ). IsOfInstance (decoded bytes) id) (sym same) of));
    }

-- one whose next hand-up is taken
took_follows : (s : SenderState) (past : List Happening) (w v : World) (node : ℕ) (r : ReceiverState) → receiver_at w node ≡ Some r → Follows s past node r
    → Follows s (past ++ record { before = w; event = UpTaken node; answer = Took (took r).1; after = v } ∷ []) node (took r).0
took_follows s past w v node r found h = go r.holding.ups refl
  where
    happened : Option Up → Happening
    happened given = record { before = w; event = UpTaken node; answer = Took given; after = v }

    left : Holding × Option Up → ReceiverState
    left step = record r { holding = step.0 }

    given : Holding × Option Up → Option Up
    given step = step.1

    own : (up : Up) → taken_in node (UpTaken node) (Took (Some up)) ≡ up ∷ []
    own up = ap (λ (b : Bool). elim b as (λ _. List Up) [ true ↦ up ∷ [] | false ↦ [] ]) ((Decides-eqb node node).1 refl)

    here : (id : ℕ) → r.instance ≡ Some id → is_at w node id ≡ true
    here id is =
        ap (λ (o : Option ReceiverState). elim o [ Some x ↦ is_in x id | None ↦ false ]) found
        ∙ ap (λ (o : Option ℕ). elim o [ Some current ↦ current == id | None ↦ false ]) is ∙ (Decides-eqb id id).1 refl

    go : (ups : List Up) → r.holding.ups ≡ ups → (
        let step = elim ups as (λ _. Holding × Option Up) [ up ∷ more ↦ (record (r.holding) { ups = more }, Some up) | [] ↦ (r.holding, None) ] in
        Follows s (past ++ happened (given step) ∷ []) node (left step)
        )
    go [] e = record {
      lost = λ id is clean. h.lost id is (ap (λ (us : List Up). list_any is_loss (us ++ r.holding.ups)) (sym (hands_same past (happened None) node id refl)) ∙ clean);
      known = h.known;
    }
    go (up ∷ more) e = record {
      lost = λ id is clean. (
          let joins : hands (past ++ happened (Some up) ∷ []) node id ≡ hands past node id ++ up ∷ [] =
          hands_more past (happened (Some up)) node id
          ∙ ap (λ (b : Bool). hands past node id ++ elim b as (λ _. List Up) [ true ↦ taken_in node (UpTaken node) (Took (Some up)) | false ↦ [] ]) (here id is)
          ∙ ap (λ (us : List Up). hands past node id ++ us) (own up) in
          let all : hands past node id ++ r.holding.ups ≡ hands (past ++ happened (Some up) ∷ []) node id ++ more =
          ap (λ (us : List Up). hands past node id ++ us) e ∙ sym (append_assoc (hands past node id) (up ∷ []) more)
          ∙ ap (λ (us : List Up). us ++ more) (sym joins) in
          h.lost id is (ap (list_any is_loss) all ∙ clean)
          );
      known = h.known;
    }

-- ---- an event

same_onward : (s t : SenderState) → instances t ≡ instances s → Onward s t
same_onward s t e = subst (GoOn (instances s)) (sym e) (goes_on_itself (instances s))

-- a take of another node takes nothing of this one
not_taken : (node other : ℕ) (answer : Answer) → (other == node) ≡ false → taken_in node (UpTaken other) answer ≡ []
not_taken node other (Took (Some up)) e = ap (λ (b : Bool). elim b as (λ _. List Up) [ true ↦ up ∷ [] | false ↦ [] ]) e
not_taken node other (Took None) e = refl
not_taken node other (Gave result) e = refl
not_taken node other (Sent datagram) e = refl
not_taken node other (Told news) e = refl
not_taken node other Silent e = refl

-- a node without a receiver is none of the nodes
pub no_node : (node : ℕ) (rs : List ReceiverState) → find (λ (r : ReceiverState). r.node == node) rs ≡ None
    → find (λ (n : ℕ). n == node) (map (λ (r : ReceiverState). r.node) rs) ≡ None
no_node node [] e = refl
no_node node (r ∷ rs) e = go (r.node == node) e (no_node node rs)
  where
    go : (b : Bool) → cond b (Some r) (find (λ (x : ReceiverState). x.node == node) rs) ≡ None
        → (find (λ (x : ReceiverState). x.node == node) rs ≡ None → find (λ (n : ℕ). n == node) (map (λ (x : ReceiverState). x.node) rs) ≡ None)
        → cond b (Some r.node) (find (λ (n : ℕ). n == node) (map (λ (x : ReceiverState). x.node) rs)) ≡ None
    go true e more = absurd (none_some r (sym e))
    go false e more = more e

pub none_stays : (p : Settings) (w : World) (e : Event) (node : ℕ) → receiver_at w node ≡ None → receiver_at (world_step p w e).0 node ≡ None
none_stays p w e node none =
    no_receiver node (world_step p w e).0.receivers
    (ap (find (λ (n : ℕ). n == node)) (world_laws.stays p w e) ∙ no_node node w.receivers none)

module _ (p : Settings) (range : InRange p) (past : List Happening) (accepted : List Origin) (w : World) (holds : WorldHolds p past accepted w)
    (h : (node : ℕ) → FollowsAt w.sender past node (receiver_at w node)) (node : ℕ) where
  -- what follows an event
  abbrev AfterEvent : Event → Option ReceiverState → Type 0
  AfterEvent e found = FollowsAt (world_step p w e).0.sender (past ++ happening w e (world_step p w e) ∷ []) node found

  -- the node's receiver stays as it is
  left : (e : Event) → Onward w.sender (world_step p w e).0.sender → taken_in node e (world_step p w e).1 ≡ []
      → receiver_at (world_step p w e).0 node ≡ receiver_at w node → AfterEvent e (receiver_at (world_step p w e).0 node)
  left e onward none same =
      subst (AfterEvent e) (sym same)
      (same_follows w.sender (world_step p w e).0.sender past (happening w e (world_step p w e)) node (receiver_at w node) onward none (h node))

  quiet : (e : Event) → IsQuiet e → Onward w.sender (world_step p w e).0.sender
  quiet e calm = same_onward w.sender (world_step p w e).0.sender (same_instances w.sender (world_step p w e).0.sender (event_stays p w e calm))

  receivers_same : (e : Event) → is_senders p e ≡ true → receiver_at (world_step p w e).0 node ≡ receiver_at w node
  receivers_same e own = ap (find (λ (r : ReceiverState). r.node == node)) (world_laws.receivers p w e own)

  -- it moves, if it is there
  moves : (e : Event) (own : ReceiverEvent) → is_senders p e ≡ false → to_receiver e ≡ Some (node, own)
      → ((r : ReceiverState) → receiver_at w node ≡ Some r → Follows w.sender past node r
      → Follows w.sender (past ++ happening w e (world_step p w e) ∷ []) node (receiver_step p r own).0)
      → AfterEvent e (receiver_at (world_step p w e).0 node)
  moves e own other to steps = go (receiver_at w node) refl (h node)
    where
      go : (found : Option ReceiverState) → receiver_at w node ≡ found → FollowsAt w.sender past node found → AfterEvent e (receiver_at (world_step p w e).0 node)
      go None found k = subst (AfterEvent e) (sym (none_stays p w e node found)) tt
      go (Some r) found k =
          subst (AfterEvent e) (sym (world_laws.moves p w e node own r other to found))
          (subst (λ (s : SenderState). Follows s (past ++ happening w e (world_step p w e) ∷ []) node (receiver_step p r own).0)
          (sym (world_laws.sender p w e other)) (steps r found k))

  delivery : (other : ℕ) (octets : List ℕ) (now draw : ℕ) (o : Written) → SaysTrue p w.sender o → o.octets ≡ octets
      → AfterEvent (Delivered other octets now draw) (receiver_at (world_step p w (Delivered other octets now draw)).0 node)
  delivery other octets now draw o says same = go (other == p.sender) refl (other == node) refl
    where
      e : Event
      e = Delivered other octets now draw

      go : (own : Bool) → (other == p.sender) ≡ own → (here : Bool) → (other == node) ≡ here → AfterEvent e (receiver_at (world_step p w e).0 node)
      go true own here is = left e (quiet e tt) refl (receivers_same e own)
      go false own false is = left e (quiet e tt) refl (world_laws.others p w e node is)
      go false own true is =
          let to : to_receiver e ≡ Some (node, receiver.Delivered octets now draw) =
          ap (λ (n : ℕ). Some (n, receiver.Delivered octets now draw)) ((Decides-eqb other node).0 is) in
          moves e (receiver.Delivered octets now draw) own to
          (λ r found k. heard_follows p w.sender past (happening w e (world_step p w e)) node r o octets now draw refl says same k)

  tick : (other now : ℕ) → AfterEvent (Ticked other now) (receiver_at (world_step p w (Ticked other now)).0 node)
  tick other now = go (other == p.sender) refl (other == node) refl
    where
      e : Event
      e = Ticked other now

      go : (own : Bool) → (other == p.sender) ≡ own → (here : Bool) → (other == node) ≡ here → AfterEvent e (receiver_at (world_step p w e).0 node)
      go true own here is = left e (quiet e tt) refl (receivers_same e own)
      go false own false is = left e (quiet e tt) refl (world_laws.others p w e node is)
      go false own true is =
          let to : to_receiver e ≡ Some (node, receiver.Ticked now) = ap (λ (n : ℕ). Some (n, receiver.Ticked now)) ((Decides-eqb other node).0 is) in
          moves e (receiver.Ticked now) own to
          (λ r found k. held_follows w.sender past (happening w e (world_step p w e)) node r (ticked p r now).0 refl (tick_same p r now).instance
          (same_more r.holding (ticked p r now).0.holding (tick_same p r now).holding) k)

  own_take : AfterEvent (UpTaken node) (receiver_at (world_step p w (UpTaken node)).0 node)
  own_take = moves (UpTaken node) receiver.UpTaken refl refl
      (λ r found k. (
      let v : World = (world_step p w (UpTaken node)).0 in
      let F : Answer → Type 0 = λ answer. Follows w.sender (past ++ record { before = w; event = UpTaken node; answer = answer; after = v } ∷ []) node (took r).0 in
      subst F (sym (world_laws.takes p w node r found)) (took_follows w.sender past w v node r found k)
      ))

  take_of : (other : ℕ) → AfterEvent (UpTaken other) (receiver_at (world_step p w (UpTaken other)).0 node)
  take_of other = go (other == node) refl
    where
      go : (here : Bool) → (other == node) ≡ here → AfterEvent (UpTaken other) (receiver_at (world_step p w (UpTaken other)).0 node)
      go false is =
          left (UpTaken other) (quiet (UpTaken other) tt) (not_taken node other (world_step p w (UpTaken other)).1 is)
          (world_laws.others p w (UpTaken other) node is)
      go true is =
          subst (λ (n : ℕ). AfterEvent (UpTaken n) (receiver_at (world_step p w (UpTaken n)).0 node)) (sym ((Decides-eqb other node).0 is)) own_take

  event_follows : (e : Event) → MayCome p w accepted e → IsEvent e → AfterEvent e (receiver_at (world_step p w e).0 node)
  event_follows (Commanded by job now) may is =
      left (Commanded by job now) (command_steps p range w.sender by job now is holds.sender).onward refl (receivers_same (Commanded by job now) refl)
  event_follows (Delivered other octets now draw) may is =
      delivery other octets now draw may.datagram
      (all_contains (λ (o : ℕ × Written). SaysTrue p w.sender o.1) w.offered (may.from, may.datagram) holds.offered may.offered) may.same
  event_follows (Ticked other now) may is = tick other now
  event_follows (Offered other octets) may is =
      left (Offered other octets) (quiet (Offered other octets) tt) refl (world_laws.others p w (Offered other octets) node refl)
  event_follows (UpTaken other) may is = take_of other
  event_follows NewsAsked may is = left NewsAsked (quiet NewsAsked tt) refl (receivers_same NewsAsked refl)

-- ---- a run

run_follows : (p : Settings) → InRange p → (past : List Happening) (accepted : List Origin) (w : World) (events : List Event) → LawfulFrom p w accepted events
    → AreEvents events → WorldHolds p past accepted w → ((node : ℕ) → FollowsAt w.sender past node (receiver_at w node)) → (node : ℕ)
    → FollowsAt (run_from p w events).sender (past ++ happens p w events) node (receiver_at (run_from p w events) node)
unfolding happens
run_follows p range past accepted w [] lawful are holds h node =
    subst (λ (all : List Happening). FollowsAt w.sender all node (receiver_at w node)) (sym (append-nil past)) (h node)
run_follows p range past accepted w (e ∷ events) lawful are holds h node =
    let step = world_step p w e in
    let x : Happening = happening w e step in
    let next = event_holds p range past accepted w e lawful.0 are.0 holds in
    let rest = run_follows p range (past ++ x ∷ []) (accepted_with accepted e step.1) step.0 events lawful.1 are.1 next
    (λ other. event_follows p range past accepted w holds h other e lawful.0 are.0) node in
    subst (λ (all : List Happening). FollowsAt (run_from p step.0 events).sender all node (receiver_at (run_from p step.0 events) node))
    (append_assoc past (x ∷ []) (happens p step.0 events)) rest

opening_follows : (p : Settings) (node : ℕ) → FollowsAt (world_opening p).sender [] node (receiver_at (world_opening p) node)
opening_follows p node = go (receivers_of p p.receivers)
  where
    go : (nodes : List ℕ) → FollowsAt (world_opening p).sender [] node (find (λ (r : ReceiverState). r.node == node) (map receiver_opening nodes))
    go [] = tt
    go (n ∷ nodes) = by (n == node) (go nodes)
      where
        by : (b : Bool) → FollowsAt (world_opening p).sender [] node (find (λ (r : ReceiverState). r.node == node) (map receiver_opening nodes))
            → FollowsAt (world_opening p).sender [] node (cond b (Some (receiver_opening n)) (find (λ (r : ReceiverState). r.node == node) (map receiver_opening nodes)))
        by true rest = record { lost = λ id is clean. refl; known = tt }
        by false rest = rest

pub follows_in_run : (p : Settings) → InRange p → (events : List Event) → Lawful p events → AreEvents events → (node : ℕ)
    → FollowsAt (run p events).sender (happens p (world_opening p) events) node (receiver_at (run p events) node)
follows_in_run p range events lawful are node =
    run_follows p range [] [] (world_opening p) events lawful are (opening_world p range) (opening_follows p) node
