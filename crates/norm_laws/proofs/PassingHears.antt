-- A datagram that comes to a receiver while each of the sender is passed on: nothing is lost by it, and what was awaited is had.
use Rattle.std.proofs.Common.{◌≡◌, ℕ, ◌≤◌, cond, List, [], ◌∷◌, Bool, true, false, Option, None, Some, Result, Ok, Err, refl, sym, ap, ◌∙◌, subst, arith, ◌⊎◌, inl, inr}
use Rattle.std.specs.Prelude.{map, find, slice_get, ◌==◌, ◌&&◌, ◌||◌, not, unwrap_or, option_and_then, nat_eq, IsSomeAnd}
use Rattle.std.specs.List.{AllByRecursion, IsDistinct}
use Rattle.std.proofs.lemmas.Bool.Decides.{Decides-eqb}
use Rattle.norm_base.specs.Settings.{Settings, InRange}
use Rattle.fec_plan.specs.Points.{point, point_of, point_before, position}
use Rattle.fec_plan.specs.declared.position.Position.{Position}
use Rattle.norm_ext.specs.InstanceIds.{rise, is_above}
use Rattle.norm_ext.specs.Message.{Message, Info, Data, Flush, Eot, Squelch, RepairAdv, AckReq, Opaque, Nack, Ack, Report, SquelchCommand}
use Rattle.norm_ext.specs.ObjectIds.{index_named}
use Rattle.norm_ext.specs.Reading.{decoded}
use Rattle.norm_ext.specs.Written.{Written}
use Rattle.norm_ext.specs.declared.refusal.Refusal.{Refusal}
use Rattle.norm_order.specs.Entries.{Entry}
use Rattle.norm_order.specs.Shapes.{shapes_of, is_source}
use Rattle.norm_receive_rules.specs.BackingOff.{may_need}
use Rattle.norm_receive_rules.specs.HandingUp.{hands_one}
use Rattle.norm_receive_rules.specs.Leaving.{is_in, goes_to, enters, entered}
use Rattle.norm_receive_rules.specs.Overhearing.{overheard, adv_overheard}
use Rattle.norm_receive_rules.specs.ReceiverState.{ReceiverState}
use Rattle.norm_receive_rules.specs.Receiving.{info_received, data_received, flush_received, squelch_received, takes_in, in_instance, message_received, received}
use Rattle.norm_send_rules.specs.Restarting.{instances, first_id}
use Rattle.norm_send_rules.specs.SenderState.{SenderState, Instance}
use Rattle.norm_safety.specs.Hands.{hands}
use Rattle.norm_safety.specs.History.{Happening}
use Rattle.norm_safety.specs.InOrder.{came_to, drop_of}
use Rattle.norm_safety.specs.Lawful.{receiver_knows, are_near}
use Rattle.norm_safety.specs.OnceEach.{order_of, instance_ids}
use Rattle.norm_safety.specs.Said.{first_index}
use Rattle.norm_safety.proofs.EntryLemmas.{clash}
use Rattle.norm_safety.proofs.Feedback.{SaysNothing}
use Rattle.norm_safety.proofs.Holding.{IsPlanOf, ReceiverHolds}
use Rattle.norm_safety.proofs.OnceLemmas.{AreLow}
use Rattle.norm_safety.proofs.ReceiverMoves.{StandingIn, need_same, knowing, known_in, near_named, in_instance_is, received_moves}
use Rattle.norm_safety.proofs.SenderHolds.{SenderHolds, orders_hold}
use Rattle.norm_safety.proofs.Spoken.{IsBegun, IsTrueOf, SaysTrue, current_order, current_begun}
use Rattle.norm_safety.proofs.WorldHolds.{AtReceiver, CameTo}
use Rattle.norm_laws.specs.HandedUp.{Passing}
use Rattle.norm_laws.proofs.GivenTicks.{BringsSymbol, BringsInfo}
use Rattle.norm_laws.proofs.HeldArrives.{Awaits, data_arrives, info_arrives}
use Rattle.norm_laws.proofs.HeldRoom.{Fits, FitsNow}
use Rattle.norm_laws.proofs.HeldWords.{HasSymbol, HasInfo}
use Rattle.norm_laws.proofs.PassingWords.{IsPast, IsBelow, Has, IsSparedBy, SparedBy, Goes, goes_higher, same_or_above, moved_goes, past_front}
use Rattle.norm_laws.proofs.SquelchSpares.{IsSpared, Spares, message_clean}

-- ---- the instance of a message

-- a message of the sender is of this instance
abbrev pub IsOfInstance : Result Message Refusal → ℕ → Type 0
IsOfInstance (Ok (Info m)) id = m.head.instance ≡ id
IsOfInstance (Ok (Data m)) id = m.head.instance ≡ id
IsOfInstance (Ok (Flush m)) id = m.head.instance ≡ id
IsOfInstance (Ok (Squelch m)) id = m.head.instance ≡ id
IsOfInstance _ id = ⊥

-- a receiver stays in its instance, or goes to the message's
abbrev ComesTo : ReceiverState → ReceiverState → Result Message Refusal → Type 0
ComesTo r t said = (t.instance ≡ r.instance) ⊎ ((id : ℕ) × (t.instance ≡ Some id) × IsOfInstance said id)

instance_comes : (p : Settings) (now draw source id object : ℕ) (brings : ℕ → ReceiverState → ReceiverState) (r : ReceiverState)
    → ((index : ℕ) (t : ReceiverState) → (brings index t).instance ≡ t.instance)
    → ((in_instance p now draw source id object brings r).instance ≡ r.instance) ⊎ ((in_instance p now draw source id object brings r).instance ≡ Some id)
instance_comes p now draw source id object brings r same = go (source == p.sender) (is_in r id) (goes_to r id)
  where
    Comes : ReceiverState → Type 0
    Comes t = (t.instance ≡ r.instance) ⊎ (t.instance ≡ Some id)

    carried : (t u : ReceiverState) → u.instance ≡ t.instance → Comes t → Comes u
    carried t u is (inl e) = inl (is ∙ e)
    carried t u is (inr e) = inr (is ∙ e)

    in_state : (t : ReceiverState) → Comes t → (named : Option ℕ)
        → Comes (unwrap_or (elim named as (λ _. Option ReceiverState) [ Some index ↦ Some (may_need p now draw (brings index (knowing index t))) | None ↦ None ]) r)
    in_state t h None = inl refl
    in_state t h (Some index) =
        let b : ReceiverState = brings index (knowing index t) in
        let is : (may_need p now draw b).instance ≡ t.instance = (need_same p now draw b).instance ∙ same index (knowing index t) in
        carried t (may_need p now draw b) is h

    go : (own inside above : Bool) → Comes (elim own as (λ _. ReceiverState) [
      | true ↦ unwrap_or (option_and_then (takes_in p now draw object brings)
          (elim inside [ true ↦ Some r | false ↦ elim above [ true ↦ Some (enters id r) | false ↦ None ] ])) r
      | false ↦ r
    ])
    go false inside above = inl refl
    go true true above = in_state r (inl refl) (index_named p r.knows.known object)
    go true false true = in_state (enters id r) (inr refl) (index_named p (enters id r).knows.known object)
    go true false false = inl refl

where_comes : (b : Bool) (r t : ReceiverState) → t.instance ≡ r.instance → (elim b as (λ _. ReceiverState) [ true ↦ t | false ↦ r ]).instance ≡ r.instance
where_comes true r t e = e
where_comes false r t e = refl

message_comes : (p : Settings) (r : ReceiverState) (now draw : ℕ) (said : Result Message Refusal) → ComesTo r (message_received p now draw said r) said
message_comes p r now draw = go
  where
    by : (t : ReceiverState) (said : Result Message Refusal) (id : ℕ) → IsOfInstance said id → (t.instance ≡ r.instance) ⊎ (t.instance ≡ Some id) → ComesTo r t said
    by t said id of (inl same) = inl same
    by t said id of (inr is) = inr (id, is, of)

    go : (said : Result Message Refusal) → ComesTo r (message_received p now draw said r) said
    go (Ok (Info m)) = by (in_instance p now draw m.head.source m.head.instance m.head.object (info_received p m) r) (Ok (Info m)) m.head.instance refl
        (instance_comes p now draw m.head.source m.head.instance m.head.object (info_received p m) r (λ index t. refl))
    go (Ok (Data m)) = by (in_instance p now draw m.head.source m.head.instance m.head.object (data_received p m) r) (Ok (Data m)) m.head.instance refl
        (instance_comes p now draw m.head.source m.head.instance m.head.object (data_received p m) r (λ index t. refl))
    go (Ok (Flush m)) = by (in_instance p now draw m.head.source m.head.instance m.object (flush_received m) r) (Ok (Flush m)) m.head.instance refl
        (instance_comes p now draw m.head.source m.head.instance m.object (flush_received m) r (λ index t. refl))
    go (Ok (Squelch m)) = by (in_instance p now draw m.head.source m.head.instance m.object (squelch_received p m) r) (Ok (Squelch m)) m.head.instance refl
        (instance_comes p now draw m.head.source m.head.instance m.object (squelch_received p m) r (λ index t. refl))
    go (Ok (RepairAdv m)) = inl (where_comes (m.head.source == p.sender) r (adv_overheard p m r)
        (where_comes (is_in r m.head.instance) r (overheard p m.requests r) refl))
    go (Ok (Nack m)) = inl (where_comes (not (m.source == r.node) && m.sender == p.sender && is_in r m.instance) r (overheard p m.requests r) refl)
    go (Ok (Eot m)) = inl refl
    go (Ok (AckReq m)) = inl refl
    go (Ok (Opaque m)) = inl refl
    go (Ok (Ack m)) = inl refl
    go (Ok (Report m)) = inl refl
    go (Err refusal) = inl refl

-- ---- the instances that a sender began

found_low : (R : ℕ → Type 0) (all : List Instance) (id : ℕ) → AllByRecursion R (map (λ (i : Instance). i.id) all)
    → (find (λ (i : Instance). i.id == id) all ≡ None) ⊎ R id
found_low R [] id low = inl refl
found_low R (i ∷ all) id low = go (i.id == id) refl (found_low R all id low.1)
  where
    go : (b : Bool) → (i.id == id) ≡ b → (find (λ (j : Instance). j.id == id) all ≡ None) ⊎ R id
        → (cond b (Some i) (find (λ (j : Instance). j.id == id) all) ≡ None) ⊎ R id
    go true e rest = inr (subst R ((Decides-eqb i.id id).0 e) low.0)
    go false e rest = rest

-- the id lies no higher than the current one
abbrev IsLow : Settings → SenderState → ℕ → Type 0
IsLow p s id = rise p.instance id ≤ rise p.instance s.current.id

abbrev order_in : Option Instance → List Entry
order_in found = elim found [ Some i ↦ i.order | None ↦ [] ]

-- what a message of the sender says truly is of an instance that it began
true_low : (p : Settings) (s : SenderState) (indices : List ℕ) (m : Message) (id : ℕ) → first_id s ≡ p.instance → AreLow (first_id s) s.current.id (instance_ids s)
    → IsTrueOf p s indices m → IsOfInstance (Ok m) id → IsLow p s id
true_low p s indices m id first low says of = go m says of
  where
    R : ℕ → Type 0
    R n = rise (first_id s) n ≤ rise (first_id s) s.current.id

    as_first : R id → IsLow p s id
    as_first h = let F : ℕ → Type 0 = λ f. rise f id ≤ rise f s.current.id in subst F first h

    by : (instance : ℕ) → instance ≡ id → (find (λ (i : Instance). i.id == instance) (instances s) ≡ None → ⊥) → IsLow p s id
    by instance is some = as_first (subst R is (pick (found_low R (instances s) instance low)))
      where
        pick : (find (λ (i : Instance). i.id == instance) (instances s) ≡ None) ⊎ R instance → R instance
        pick (inl none) = absurd (some none)
        pick (inr h) = h

    nothing : (P : Entry → Type 0) (instance index : ℕ) → IsSomeAnd (slice_get (order_of s instance) index) P → find (λ (i : Instance). i.id == instance) (instances s) ≡ None → ⊥
    nothing P instance index h none = (let S : Option Instance → Type 0 = λ found. IsSomeAnd (slice_get (order_in found) index) P in subst S none h)

    go : (m : Message) → IsTrueOf p s indices m → IsOfInstance (Ok m) id → IsLow p s id
    go (Data m) says of = by m.head.instance of (nothing _ m.head.instance (first_index indices) says.1)
    go (Info m) says of = by m.head.instance of (nothing _ m.head.instance (first_index indices) says.1)
    go (Flush m) says of = by m.head.instance of (λ none. (
        let F : Option Instance → Type 0 = λ found. is_source (shapes_of p (order_in found)) (position (first_index indices) m.id.block m.id.symbol) ≡ true in
        clash (subst F none says.1)
        ))
    go (Squelch m) says of = by m.head.instance of (λ none. no_instance says.1.0 (sym none ∙ says.1.1))
      where
        no_instance : (i : Instance) → None ≡ Some i → ⊥
        no_instance i e = cc
    go (RepairAdv m) says of = absurd of
    go (Nack m) says of = absurd of
    go (Eot m) says of = absurd of
    go (AckReq m) says of = absurd of
    go (Opaque m) says of = absurd of
    go (Ack m) says of = absurd of
    go (Report m) says of = absurd of

-- ---- what is known as a datagram comes

-- A sender's state and a node's receiver as a true datagram comes to it in time.
pub record Coming (p : Settings) (s : SenderState) (past : List Happening) (node : ℕ) (r : ReceiverState) (o : Written) : Type 0 where
  pub sender : SenderHolds p s
  pub ids : IsDistinct nat_eq (instance_ids s)
  pub low : AreLow (first_id s) s.current.id (instance_ids s)
  pub fits : FitsNow p s
  pub here : AtReceiver p s past node r
  pub says : SaysTrue p s o
  pub near : are_near (receiver_knows r o.message) o.indices ≡ true
  pub spared : SparedBy p r o.indices o.message

module _ (p : Settings) (range : InRange p) (s : SenderState) (past : List Happening) (node : ℕ) (r : ReceiverState) (o : Written) (now draw : ℕ) (c : Coming p s past node r o) where
  begun_in : (current : ℕ) → r.instance ≡ Some current → IsBegun p current
  begun_in current is = (let C : Option ℕ → Type 0 = λ instance. CameTo p (came_to node None past) instance in (subst C is c.here.came).begun)

  holds_in : (id : ℕ) → r.instance ≡ Some id → ReceiverHolds p (order_of s id) (drop_of s id) (hands past node id) r
  holds_in id is = (let S : Option ℕ → Type 0 = λ instance. StandingIn p s (hands past node) r instance in subst S is c.here.stands)

  pub heard_goes : Goes p r (received p r o.octets now draw)
  heard_goes = moved_goes p s r (received p r o.octets now draw) begun_in
      (received_moves p range s r o o.octets now draw (orders_hold p s c.sender) c.says refl c.near)

  pub heard_below : IsBelow p r.instance s.current.id → IsBelow p (received p r o.octets now draw).instance s.current.id
  heard_below below = by_reads c.says.0
    where
      t : ReceiverState
      t = received p r o.octets now draw

      nothing_of : (said : Result Message Refusal) (id : ℕ) → SaysNothing said → IsOfInstance said id → ⊥
      nothing_of (Ok (Info m)) id nothing of = nothing
      nothing_of (Ok (Data m)) id nothing of = nothing
      nothing_of (Ok (Flush m)) id nothing of = nothing
      nothing_of (Ok (Squelch m)) id nothing of = nothing
      nothing_of (Ok (RepairAdv m)) id nothing of = of
      nothing_of (Ok (Nack m)) id nothing of = of
      nothing_of (Ok (Eot m)) id nothing of = of
      nothing_of (Ok (AckReq m)) id nothing of = of
      nothing_of (Ok (Opaque m)) id nothing of = of
      nothing_of (Ok (Ack m)) id nothing of = of
      nothing_of (Ok (Report m)) id nothing of = of
      nothing_of (Err refusal) id nothing of = of

      B : Option ℕ → Type 0
      B instance = IsBelow p instance s.current.id

      by_comes : ((id : ℕ) → IsOfInstance (decoded o.octets) id → rise p.instance id ≤ rise p.instance s.current.id)
          → ComesTo r t (decoded o.octets) → IsBelow p t.instance s.current.id
      by_comes low (inl same) = subst B (sym same) below
      by_comes low (inr (id, is, of)) = subst B (sym is) (low id of)

      by_reads : (decoded o.octets ≡ Ok o.message) ⊎ SaysNothing (decoded o.octets) → IsBelow p t.instance s.current.id
      by_reads (inl read) = by_comes
          (λ id of. (
          let I : Result Message Refusal → Type 0 = λ said. IsOfInstance said id in
          true_low p s o.indices o.message id c.sender.first c.low c.says.1 (subst I read of)
          )) (message_comes p r now draw (decoded o.octets))
      by_reads (inr nothing) = by_comes (λ id of. absurd (nothing_of (decoded o.octets) id nothing of)) (message_comes p r now draw (decoded o.octets))

  -- ---- nothing is lost

  none_some : {X : Type 0} (x : X) → None ≡ Some x → ⊥
  none_some x e = cc

  spares : (m : SquelchCommand) → o.message ≡ Squelch m → hands_one p r.holding ≡ None → Spares p r (Ok (Squelch m))
  spares m is stuck t index e f = go (is_in r id) (goes_to r id) refl refl (sym by_tests ∙ e)
    where
      id : ℕ
      id = m.head.instance

      says : IsTrueOf p s o.indices (Squelch m)
      says = let T : Message → Type 0 = λ x. IsTrueOf p s o.indices x in subst T is c.says.1

      spared : IsSparedBy p r id (point (first_index o.indices) m.id.block)
      spared = let S : Message → Type 0 = λ x. SparedBy p r o.indices x in subst S is c.spared

      found_by : Bool → Bool → Option ReceiverState
      found_by inside above = elim inside [ true ↦ Some r | false ↦ elim above [ true ↦ Some (enters id r) | false ↦ None ] ]

      by_tests : entered r id ≡ found_by (is_in r id) (goes_to r id)
      by_tests = refl

      close : are_near (Some t.knows.known) (first_index o.indices ∷ []) ≡ true
      close =
          let near : are_near (receiver_knows r (Squelch m)) o.indices ≡ true = (let N : Message → Type 0 = λ x. are_near (receiver_knows r x) o.indices ≡ true in subst N is c.near) in
          let alone : o.indices ≡ first_index o.indices ∷ [] = says.0.alone ∙ ap (λ (n : ℕ). n ∷ []) (sym (ap first_index says.0.alone)) in
          ap (are_near (Some t.knows.known)) (sym alone) ∙ sym (ap (λ (found : Option ReceiverState). are_near (known_in found) o.indices) e) ∙ near

      named : index ≡ first_index o.indices
      named =
          let first : says.0.index ≡ first_index o.indices = sym (ap first_index says.0.alone) in
          let N : ℕ → Type 0 = λ n. index_named p t.knows.known m.object ≡ Some n in
          some_same (sym f ∙ subst N first (near_named p t.knows.known m.object says.0.index says.0.named says.0.most
          (ap (λ (n : ℕ). are_near (Some t.knows.known) (n ∷ [])) first ∙ close)))
        where
          some_same : {a b : ℕ} → Some a ≡ Some b → a ≡ b
          some_same e = cc

      P : ReceiverState → Type 0
      P u = IsSpared p (point index m.id.block) u.holding

      inside_spared : r.instance ≡ Some id → IsPast id (point (first_index o.indices) m.id.block) r → P r
      inside_spared inside past =
          let F : ℕ → Type 0 = λ n. point_before (point_of r.holding.point) (point n m.id.block) ≡ false in
          record {
            stuck = stuck;
            front = subst F (sym named) (past_front id (point (first_index o.indices) m.id.block) r past);
            planned = λ none. ((holds_in id inside).planned none).0;
          }

      inside_by : r.instance ≡ Some id → IsSparedBy p r id (point (first_index o.indices) m.id.block) → P r
      inside_by inside (inl past) = inside_spared inside past
      inside_by inside (inr (current, at, lt)) =
          let same : current ≡ id = some_same (sym at ∙ inside) in
          let heights = ap (rise p.instance) same in absurd (omega (arith, lt, heights))
        where
          some_same : {a b : ℕ} → Some a ≡ Some b → a ≡ b
          some_same e = cc

      outside_spared : point_before (point 0 0) (point (first_index o.indices) m.id.block) ≡ false → P (enters id r)
      outside_spared none =
          let F : ℕ → Type 0 = λ n. point_before (point 0 0) (point n m.id.block) ≡ false in
          record { stuck = refl; front = subst F (sym named) none; planned = λ none. refl }

      self_in : r.instance ≡ Some id → is_in r id ≡ true
      self_in at = ap (λ (instance : Option ℕ). elim instance [ Some own ↦ own == id | None ↦ false ]) at ∙ (Decides-eqb id id).1 refl

      above_in : (current : ℕ) → r.instance ≡ Some current → goes_to r id ≡ true → is_above current id ≡ true
      above_in current at goes = sym (ap (λ (instance : Option ℕ). elim instance [ Some own ↦ is_above own id | None ↦ true ]) at) ∙ goes

      outside_by : is_in r id ≡ false → goes_to r id ≡ true → IsSparedBy p r id (point (first_index o.indices) m.id.block) → P (enters id r)
      outside_by out goes (inl (inl none)) = outside_spared none
      outside_by out goes (inl (inr (at, front))) = absurd (clash (sym out ∙ self_in at))
      outside_by out goes (inr (current, at, lt)) =
          let up = goes_higher p current id (begun_in current at) says.0.begun (above_in current at goes) in absurd (omega (arith, lt, up))

      same_state : {a b : ReceiverState} → Some a ≡ Some b → a ≡ b
      same_state e = cc

      go : (inside above : Bool) → is_in r id ≡ inside → goes_to r id ≡ above → found_by inside above ≡ Some t → P t
      go true above out goes there = subst P (same_state there) (inside_by (in_instance_is r id out) spared)
      go false true out goes there = subst P (same_state there) (outside_by out goes spared)
      go false false out goes there = absurd (none_some t there)

  pub heard_clean : hands_one p r.holding ≡ None → r.holding.lost ≡ [] → (received p r o.octets now draw).holding.lost ≡ []
  heard_clean stuck lost = message_clean p r now draw (decoded o.octets) (by_reads c.says.0) lost
    where
      of_nothing : (said : Result Message Refusal) → SaysNothing said → Spares p r said
      of_nothing (Ok (Info m)) nothing = tt
      of_nothing (Ok (Data m)) nothing = tt
      of_nothing (Ok (Flush m)) nothing = tt
      of_nothing (Ok (Squelch m)) nothing = absurd nothing
      of_nothing (Ok (RepairAdv m)) nothing = tt
      of_nothing (Ok (Nack m)) nothing = tt
      of_nothing (Ok (Eot m)) nothing = tt
      of_nothing (Ok (AckReq m)) nothing = tt
      of_nothing (Ok (Opaque m)) nothing = tt
      of_nothing (Ok (Ack m)) nothing = tt
      of_nothing (Ok (Report m)) nothing = tt
      of_nothing (Err refusal) nothing = tt

      of_message : (m : Message) → o.message ≡ m → Spares p r (Ok m)
      of_message (Info m) is = tt
      of_message (Data m) is = tt
      of_message (Flush m) is = tt
      of_message (Squelch m) is = spares m is stuck
      of_message (RepairAdv m) is = tt
      of_message (Nack m) is = tt
      of_message (Eot m) is = tt
      of_message (AckReq m) is = tt
      of_message (Opaque m) is = tt
      of_message (Ack m) is = tt
      of_message (Report m) is = tt

      by_reads : (decoded o.octets ≡ Ok o.message) ⊎ SaysNothing (decoded o.octets) → Spares p r (decoded o.octets)
      by_reads (inl read) = let S : Result Message Refusal → Type 0 = λ said. Spares p r said in subst S (sym read) (of_message o.message refl)
      by_reads (inr nothing) = of_nothing (decoded o.octets) nothing

  -- ---- what was awaited comes

  -- the receiver awaits what is of the sender's instance
  awaits : (x : Passing) → Has p s x node r → Awaits p s.current.order s.current.drop s.current.id r
  awaits x h = record {
    comes = comes r.instance refl h.below;
    inside = λ is. record {
      plans = (let O : List Entry → Type 0 = λ order. AllByRecursion (IsPlanOf p order) r.holding.plans in subst O (current_order s c.ids) (holds_in s.current.id is).plans);
      apart = h.apart;
      front = past_front s.current.id s.current.drop r h.past;
    };
    outside = λ out. outside out h.past;
  }
    where
      id : ℕ
      id = s.current.id

      either : (a b : Bool) → (a ≡ true) ⊎ (b ≡ true) → (a || b) ≡ true
      either true b h = refl
      either false b (inl e) = absurd (clash e)
      either false b (inr e) = e

      comes : (instance : Option ℕ) → r.instance ≡ instance → IsBelow p instance id → (is_in r id || goes_to r id) ≡ true
      comes None is below = either (is_in r id) (goes_to r id) (inr (ap (λ (i : Option ℕ). elim i [ Some own ↦ is_above own id | None ↦ true ]) is))
      comes (Some current) is below = either (is_in r id) (goes_to r id) (by (same_or_above p current id (begun_in current is) (current_begun p range s c.sender) below))
        where
          by : (current ≡ id) ⊎ (is_above current id ≡ true) → (is_in r id ≡ true) ⊎ (goes_to r id ≡ true)
          by (inl same) = inl (ap (λ (i : Option ℕ). elim i [ Some own ↦ own == id | None ↦ false ]) is ∙ (Decides-eqb current id).1 same)
          by (inr above) = inr (ap (λ (i : Option ℕ). elim i [ Some own ↦ is_above own id | None ↦ true ]) is ∙ above)

      outside : is_in r id ≡ false → IsPast id s.current.drop r → point_before (point 0 0) s.current.drop ≡ false
      outside out (inl none) = none
      outside out (inr (is, front)) =
          absurd (clash (sym out ∙ ap (λ (i : Option ℕ). elim i [ Some own ↦ own == id | None ↦ false ]) is ∙ (Decides-eqb id id).1 refl))

abbrev ok_of : Message → Result Message Refusal
ok_of m = Ok m

-- A symbol that was awaited is had once its datagram came.
pub symbol_comes : (p : Settings) → InRange p → (s : SenderState) (past : List Happening) (node : ℕ) (r : ReceiverState) (o : Written) (now draw : ℕ)
    → Coming p s past node r o → decoded o.octets ≡ Ok o.message → (x : Passing) → Has p s x node r → (at : Position) → BringsSymbol p s.current.id at o
    → ((received p r o.octets now draw).instance ≡ Some s.current.id) × HasSymbol (received p r o.octets now draw).holding at
symbol_comes p range s past node r o now draw c read x h at brings =
    let m = brings.message in
    let id : ℕ = m.head.instance in
    let T : Message → Type 0 = λ message. IsTrueOf p s o.indices message in
    let N : Message → Type 0 = λ message. are_near (receiver_knows r message) o.indices ≡ true in
    let O : List Entry → Type 0 = λ order. Fits p order s.current.drop in
    let current : order_of s id ≡ s.current.order = ap (order_of s) brings.instance ∙ current_order s c.ids in
    let W : List Entry → Type 0 = λ order. Awaits p order s.current.drop id r in
    let I : ℕ → Type 0 = λ n. Awaits p s.current.order s.current.drop n r in
    let arrived = data_arrives p range s s.current.drop r o.indices now draw m ((orders_hold p s c.sender).sized id) (subst O (sym current) c.fits) brings.source
    (subst T brings.is c.says.1) (subst N brings.is c.near) (subst W (sym current) (subst I (sym brings.instance) (awaits p range s past node r o now draw c x h))) in
    let R : Result Message Refusal → Type 0 = λ said. ((message_received p now draw said r).instance ≡ Some s.current.id) × HasSymbol (message_received p now draw said r).holding at in
    let place : position (first_index o.indices) m.id.block m.id.symbol ≡ at =
    ap (λ (n : ℕ). position n m.id.block m.id.symbol) (ap first_index brings.indices) ∙ ap (λ (n : ℕ). position at.index n m.id.symbol) brings.block
    ∙ ap (λ (n : ℕ). position at.index at.block n) brings.symbol in
    let H : Position → Type 0 = λ q. HasSymbol (message_received {E = Refusal} p now draw (Ok (Data m)) r).holding q in
    subst R (sym (read ∙ ap ok_of brings.is)) (arrived.inside ∙ ap (λ (n : ℕ). Some n) brings.instance, subst H place arrived.has)

-- And so is an info.
pub info_comes : (p : Settings) → InRange p → (s : SenderState) (past : List Happening) (node : ℕ) (r : ReceiverState) (o : Written) (now draw : ℕ)
    → Coming p s past node r o → decoded o.octets ≡ Ok o.message → (x : Passing) → Has p s x node r → (index : ℕ) → BringsInfo p s.current.id index o
    → ((received p r o.octets now draw).instance ≡ Some s.current.id) × HasInfo (received p r o.octets now draw).holding index
info_comes p range s past node r o now draw c read x h index brings =
    let m = brings.message in
    let id : ℕ = m.head.instance in
    let T : Message → Type 0 = λ message. IsTrueOf p s o.indices message in
    let N : Message → Type 0 = λ message. are_near (receiver_knows r message) o.indices ≡ true in
    let O : List Entry → Type 0 = λ order. Fits p order s.current.drop in
    let current : order_of s id ≡ s.current.order = ap (order_of s) brings.instance ∙ current_order s c.ids in
    let W : List Entry → Type 0 = λ order. Awaits p order s.current.drop id r in
    let I : ℕ → Type 0 = λ n. Awaits p s.current.order s.current.drop n r in
    let arrived = info_arrives p range s s.current.drop r o.indices now draw m ((orders_hold p s c.sender).sized id) (subst O (sym current) c.fits) brings.source
    (subst T brings.is c.says.1) (subst N brings.is c.near) (subst W (sym current) (subst I (sym brings.instance) (awaits p range s past node r o now draw c x h))) in
    let R : Result Message Refusal → Type 0 = λ said. ((message_received p now draw said r).instance ≡ Some s.current.id) × HasInfo (message_received p now draw said r).holding index in
    let H : ℕ → Type 0 = λ n. HasInfo (message_received {E = Refusal} p now draw (Ok (Info m)) r).holding n in
    subst R (sym (read ∙ ap ok_of brings.is))
    (arrived.inside ∙ ap (λ (n : ℕ). Some n) brings.instance, subst H (ap first_index brings.indices) arrived.has)
