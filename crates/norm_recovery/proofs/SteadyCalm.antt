-- A world in which nothing is needed stays so, event by event, while each datagram of the sender is passed on, and commands are of data, files and marks
-- alone.
use Rattle.std.proofs.Common.{◌≡◌, ℕ, ◌*◌, cond, List, [], ◌∷◌, ◌++◌, Bool, true, false, Option, None, Some, Result, Ok, Err, refl, sym, ap, ◌∙◌, subst, inl, inr}
use Rattle.std.specs.Prelude.{map, find, ◌==◌, nat_eq, nat_lt, nat_le, option_and_then, Contains, ⊤}
use Rattle.std.specs.List.{AllByRecursion, IsDistinct}
use Rattle.std.proofs.lemmas.Bool.Decides.{Decides-eqb}
use Rattle.std.proofs.lemmas.List.Elements.{Contains-push}
use Rattle.norm_base.specs.Settings.{Settings, InRange}
use Rattle.norm_base.specs.Members.{receivers_of}
use Rattle.norm_base.specs.declared.node.Origin.{Origin}
use Rattle.fec_plan.specs.Points.{position_before}
use Rattle.fec_plan.specs.declared.position.Position.{Position}
use Rattle.norm_ext.specs.Message.{Message, Info, Data, Flush, Eot, Squelch, RepairAdv, AckReq, Opaque, Nack, Ack, Report, AckMessage}
use Rattle.norm_ext.specs.Octets.{octets_of}
use Rattle.norm_ext.specs.Numbers.{octet, number}
use Rattle.norm_ext.specs.Reading.{decoded, words_of, content_of, source_of, header_checked, header_extensions_checked, member_checked, ack_encoding_checked, ack_length_checked, ack_read}
use Rattle.norm_ext.specs.declared.kinds.MessageType.TheVariants as types
use Rattle.norm_ext.specs.declared.refusal.Refusal.{Refusal}
use Rattle.norm_ext.specs.Written.{Written, writes}
use Rattle.norm_ext.proofs.MessageLemmas.{pass_ok}
use Rattle.norm_order.specs.Later.{OrderLater}
use Rattle.norm_order.proofs.LaterLemmas.{order_itself}
use Rattle.norm_order.specs.Sets.{is_member}
use Rattle.norm_order.specs.Shapes.{is_source, has_info, shapes_of}
use Rattle.norm_receive_rules.specs.AllNeeds.{needs_nothing}
use Rattle.norm_receive_rules.specs.Holding.{Holding}
use Rattle.norm_receive_rules.specs.Nack.{ack_message}
use Rattle.norm_receive_rules.specs.ReceiverState.{ReceiverState, receiver_opening}
use Rattle.norm_receive_rules.specs.ReceiverStep as receiver
use Rattle.norm_receive_rules.specs.Receiving.{received}
use Rattle.norm_receive_rules.specs.Taking.{took, up_taken}
use Rattle.norm_receive_rules.specs.Ticking.{sends, asks_where_needed, ends_back_off, ticked as receiver_ticked}
use Rattle.norm_send_rules.specs.Commanding.{commanded}
use Rattle.norm_send_rules.specs.Hearing.{heard}
use Rattle.norm_send_rules.specs.SenderState.{SenderState, Instance}
use Rattle.norm_send_rules.specs.SenderStep as sender
use Rattle.norm_send_rules.specs.Telling.{told}
use Rattle.norm_send_rules.specs.Ticking.{ticked as sender_ticked}
use Rattle.norm_safety.specs.Events.{Event, Commanded, Delivered, Ticked, Offered, UpTaken, NewsAsked}
use Rattle.norm_safety.specs.History.{Happening}
use Rattle.norm_safety.specs.Jobs.{IsEvent}
use Rattle.norm_safety.specs.Lawful.{receiver_knows, sender_knows, are_near, LawfulDelivery, MayCome}
use Rattle.norm_safety.specs.OnceEach.{instance_ids}
use Rattle.norm_safety.specs.World.{World, world_opening, receiver_at, with_receiver, with_given, given_others, is_of, offers}
use Rattle.norm_safety.specs.WorldStep.{world_step, moved, node_move, receiver_move}
use Rattle.norm_safety.proofs.EntryLemmas.{clash}
use Rattle.norm_safety.proofs.Feedback.{by_type, ack_of}
use Rattle.norm_safety.proofs.ListRun.{given_leaves}
use Rattle.norm_safety.proofs.OrderRun.{moved_node_is, found_holds}
use Rattle.norm_safety.proofs.ReceiverMoves.{tick_same, received_moves}
use Rattle.norm_safety.proofs.SenderHolds.{command_steps, orders_hold}
use Rattle.norm_safety.proofs.SenderKeeps.{heard_keeps, ticked_keeps, told_keeps}
use Rattle.norm_safety.proofs.Spoken.{IsSpoken, SaysTrue}
use Rattle.norm_safety.proofs.TickTrue.{SentTrue, tick_true}
use Rattle.norm_safety.proofs.WorldHolds.{AtReceiver, AtNode, WorldHolds, all_filter, all_end, all_contains, all_later}
use Rattle.norm_safety.proofs.WorldLemmas.{world_laws}
use Rattle.norm_safety.proofs.WorldMoves.{at_node, put_in, found_put, found_other}
use Rattle.norm_laws.specs.HandedUp.{Passing, passing_after}
use Rattle.norm_laws.specs.SentOnce.{SourcesSent}
use Rattle.norm_laws.proofs.GivenTicks.{BringsSymbol, BringsInfo}
use Rattle.norm_laws.proofs.HeldWords.{HasSymbol, HasInfo}
use Rattle.norm_laws.proofs.IdleRun.{Kept}
use Rattle.norm_laws.proofs.PassingRun.{HasAt, Passed}
use Rattle.norm_laws.proofs.PassingTicks.{Sits as SenderSits, Same, Newer}
use Rattle.norm_laws.proofs.PassingWords.{Got, Has}
use Rattle.norm_laws.proofs.SentTicks.{idle_so_far, sources_sent}
use Rattle.norm_laws.proofs.WholeOrders.{AreWhole, WholeHolds, current_whole, event_whole}
use Rattle.norm_recovery.specs.SteadyNothing.{NeedsNothing, AsksNothing, IsNoNack}
use Rattle.norm_recovery.proofs.SteadyBefore.{SawHad, saw_later, order_on, before_moves, far_moves, flush_moves, saw_needs_none, none_needed}
use Rattle.norm_recovery.proofs.SteadyJobs.{IsPlainEvent, plain_opens_none, KeepsCalm, command_calm, ReadsNoNack, message_calm, told_calm}
use Rattle.norm_recovery.proofs.SteadySees.{SameSight, sight_itself, Sees, SeesNothing, received_sees, Sits, sees_still, sees_sits, sees_had, sees_backoff}
use Rattle.norm_recovery.proofs.SteadySent.{before_next}
use Rattle.norm_recovery.proofs.SteadyTells.{NamesWant, IsFlushOf, TickSays, SaysNew, SaysFlush, tick_says, none_idle, Leads, leads_later, leads_moves, new_leads, flush_leads}

-- ---- words

-- a datagram is no NACK, and none is read of it
abbrev pub NoNack : ℕ × Written → Type 0
NoNack o = IsNoNack o.1.message × ReadsNoNack (decoded o.1.octets)

-- each datagram leads a receiver where it has all before
abbrev pub AllLead : Settings → Instance → ReceiverState → List (ℕ × Written) → Type 0
AllLead p i r said = AllByRecursion (λ (o : ℕ × Written). Leads p i r o.1.indices o.1.message) said

-- What is kept of a receiver: it is in no instance, or in the sender's; it has all before what it saw, and before whatever was offered or given; and it
-- does not back off.
pub record CalmReceiver (p : Settings) (i : Instance) (all waiting : List (ℕ × Written)) (r : ReceiverState) : Type 0 where
  pub sits : Sits i r
  pub saw : SawHad p i r
  pub backoff : r.knows.backoff ≡ None
  pub offered : AllLead p i r all
  pub given : AllLead p i r waiting

-- the same at a node, where it has a receiver
abbrev pub CalmAt : Settings → Instance → List (ℕ × Written) → List (ℕ × Written) → Option ReceiverState → Type 0
CalmAt p i all waiting None = ⊤
CalmAt p i all waiting (Some r) = CalmReceiver p i all waiting r

-- of all nodes but the sender's
abbrev pub AreCalm : Settings → Instance → World → Type 0
AreCalm p i w = (node : ℕ) → (node == p.sender) ≡ false → CalmAt p i w.offered w.given (receiver_at w node)

-- What is kept of a world: no stream is in an order, the sender repairs nothing, no NACK was given, and each receiver has all before what it saw.
pub record CalmWorld (p : Settings) (w : World) : Type 0 where
  pub whole : WholeHolds w.sender
  pub asks : AsksNothing w.sender
  pub offered : AllByRecursion NoNack w.offered
  pub given : AllByRecursion NoNack w.given
  pub nodes : AreCalm p w.sender.current w

-- ---- an acknowledgement is read as one

ack_reads : (octets : List ℕ) (m : Message) → ack_read octets ≡ Ok m → IsNoNack m
unfolding ack_read
ack_reads octets m e =
    let a = pass_ok (header_checked types.Ack octets) _ m e in
    let b = pass_ok (header_extensions_checked 24 octets) _ m a.1 in
    let c = pass_ok (ack_encoding_checked (octet 14 octets) (4 * words_of octets) (content_of octets)) _ m b.1 in
    let d = pass_ok (member_checked (source_of octets)) _ m c.1 in
    let f = pass_ok (member_checked (number 4 8 octets)) _ m d.1 in
    let g = pass_ok (ack_length_checked (octet 14 octets) (content_of octets)) _ m f.1 in
    no_nack _ m tt g.1
  where
    as_ok : Message → Result Message Refusal
    as_ok m = Ok m

    no_nack : (a b : Message) → IsNoNack a → as_ok a ≡ as_ok b → IsNoNack b
    no_nack a b h e = subst IsNoNack (same e) h
      where
        same : as_ok a ≡ as_ok b → a ≡ b
        same e = cc

no_nack_read : (said : Result Message Refusal) → ((m : Message) → said ≡ Ok m → IsNoNack m) → ReadsNoNack said
no_nack_read (Ok (Info m)) h = tt
no_nack_read (Ok (Data m)) h = tt
no_nack_read (Ok (Flush m)) h = tt
no_nack_read (Ok (Squelch m)) h = tt
no_nack_read (Ok (Eot m)) h = tt
no_nack_read (Ok (RepairAdv m)) h = tt
no_nack_read (Ok (AckReq m)) h = tt
no_nack_read (Ok (Opaque m)) h = tt
no_nack_read (Ok (Nack m)) h = h (Nack m) refl
no_nack_read (Ok (Ack m)) h = tt
no_nack_read (Ok (Report m)) h = tt
no_nack_read (Err refusal) h = tt

acks_read : (m : AckMessage) → ReadsNoNack (decoded (octets_of (Ack m)))
acks_read m = no_nack_read (decoded (octets_of (Ack m))) (λ n e. ack_reads (octets_of (Ack m)) n (by_type (octets_of (Ack m)) types.Ack n refl e))

-- nor is a NACK read of what the sender gives
spoken_reads : (o : Written) → decoded o.octets ≡ Ok o.message → IsSpoken o.message → IsNoNack o.message × ReadsNoNack (decoded o.octets)
spoken_reads o read spoken =
    let R : Result Message Refusal → Type 0 = λ said. ReadsNoNack said in
    let two = go o.message spoken in (two.0, subst R (sym read) two.1)
  where
    ok_of : Message → Result Message Refusal
    ok_of m = Ok m

    go : (m : Message) → IsSpoken m → IsNoNack m × ReadsNoNack (ok_of m)
    go (Info m) h = (tt, tt)
    go (Data m) h = (tt, tt)
    go (Flush m) h = (tt, tt)
    go (Squelch m) h = (tt, tt)
    go (Eot m) h = absurd h
    go (RepairAdv m) h = absurd h
    go (AckReq m) h = absurd h
    go (Opaque m) h = absurd h
    go (Nack m) h = absurd h
    go (Ack m) h = absurd h
    go (Report m) h = absurd h

-- ---- a receiver's tick

-- what it gives is no NACK, and leads nowhere
abbrev GivesCalm : Option Written → Type 0
GivesCalm None = ⊤
GivesCalm (Some o) = (IsNoNack o.message × ReadsNoNack (decoded o.octets)) × ((p : Settings) (i : Instance) (r : ReceiverState) → Leads p i r o.indices o.message)

-- where no back-off runs a tick gives an acknowledgement or nothing
tick_calm : (p : Settings) (r : ReceiverState) (now : ℕ) → r.knows.backoff ≡ None → SameSight r (receiver_ticked p r now).0 × GivesCalm (receiver_ticked p r now).1
tick_calm p r now none = due r.knows.due
  where
    S : ReceiverState × Option Written → Type 0
    S step = SameSight r step.0 × GivesCalm step.1

    B : Option ℕ → Type 0
    B backoff = S (elim backoff [
      | Some ends ↦ elim (nat_le ends now) [
        | true ↦ asks_where_needed p now (record r { knows = record (r.knows) { backoff = None } })
        | false ↦ (r, None)
      ]
      | None ↦ (r, None)
    ])

    due : (at : Option Position) → S (elim at [
      | Some at ↦ sends (writes (ack_message p r at) (at.index ∷ [])) (record r { knows = record (r.knows) { due = None } })
      | None ↦ ends_back_off p now r
    ])
    due None = subst B (sym none) (sight_itself r, tt)
    due (Some at) = (
      record { instance = refl; holding = refl; farthest = refl; flush = refl; backoff = refl },
      ((tt, acks_read (ack_of p r at)), λ q i a. tt),
    )

-- ---- as receivers and orders go on

receiver_later : (p : Settings) (i j : Instance) (all waiting : List (ℕ × Written)) (r : ReceiverState) → AreWhole i.order → OrderLater i.order j.order → j.id ≡ i.id
    → CalmReceiver p i all waiting r → CalmReceiver p j all waiting r
receiver_later p i j all waiting r whole on same k = record {
  sits = go k.sits;
  saw = saw_later p i j r whole on same k.saw;
  backoff = k.backoff;
  offered = all_later (λ (o : ℕ × Written). Leads p i r o.1.indices o.1.message) (λ (o : ℕ × Written). Leads p j r o.1.indices o.1.message) all
      (λ o leads. leads_later p i j r o.1.indices o.1.message whole on same leads) k.offered;
  given = all_later (λ (o : ℕ × Written). Leads p i r o.1.indices o.1.message) (λ (o : ℕ × Written). Leads p j r o.1.indices o.1.message) waiting
      (λ o leads. leads_later p i j r o.1.indices o.1.message whole on same leads) k.given;
}
  where
    go : Sits i r → Sits j r
    go (inl none) = inl none
    go (inr is) = inr (is ∙ ap (λ (n : ℕ). Some n) (sym same))

at_later : (p : Settings) (i j : Instance) (all waiting : List (ℕ × Written)) (found : Option ReceiverState) → AreWhole i.order → OrderLater i.order j.order → j.id ≡ i.id
    → CalmAt p i all waiting found → CalmAt p j all waiting found
at_later p i j all waiting None whole on same k = tt
at_later p i j all waiting (Some r) whole on same k = receiver_later p i j all waiting r whole on same k

receiver_moves : (p : Settings) (i : Instance) (all waiting : List (ℕ × Written)) (r : ReceiverState) (event : receiver.ReceiverEvent)
    → (r.instance ≡ Some i.id → (receiver.receiver_step p r event).0.instance ≡ Some i.id) → Sits i (receiver.receiver_step p r event).0
    → SawHad p i (receiver.receiver_step p r event).0 → (receiver.receiver_step p r event).0.knows.backoff ≡ None → CalmReceiver p i all waiting r
    → CalmReceiver p i all waiting (receiver.receiver_step p r event).0
receiver_moves p i all waiting r event still sits saw backoff k = record {
  sits = sits;
  saw = saw;
  backoff = backoff;
  offered = all_later (λ (o : ℕ × Written). Leads p i r o.1.indices o.1.message)
      (λ (o : ℕ × Written). Leads p i (receiver.receiver_step p r event).0 o.1.indices o.1.message) all
      (λ o leads. leads_moves p i r event o.1.indices o.1.message still leads) k.offered;
  given = all_later (λ (o : ℕ × Written). Leads p i r o.1.indices o.1.message)
      (λ (o : ℕ × Written). Leads p i (receiver.receiver_step p r event).0 o.1.indices o.1.message) waiting
      (λ o leads. leads_moves p i r event o.1.indices o.1.message still leads) k.given;
}

-- one receiver in place of another
put_at : (P : ℕ → Option ReceiverState → Type 0) (w : World) (node : ℕ) (r t : ReceiverState) → receiver_at w node ≡ Some r → t.node ≡ r.node → P node (Some t)
    → ((other : ℕ) → P other (receiver_at w other)) → (other : ℕ) → P other (receiver_at (with_receiver t w) other)
put_at P w node r t found same own others other = go (t.node == other) refl
  where
    here : t.node ≡ node
    here = same ∙ world_laws.found w node r found

    H : Option ReceiverState → Type 0
    H o = P other o

    go : (b : Bool) → (t.node == other) ≡ b → H (receiver_at (with_receiver t w) other)
    go true e =
        let is : t.node ≡ other = (Decides-eqb t.node other).0 e in
        let N : ℕ → Type 0 = λ n. P n (Some t) in
        subst H (sym (ap (at_node (map (put_in t) w.receivers)) (sym is) ∙ found_put t r w.receivers (ap (at_node w.receivers) here ∙ found)))
        (subst N (sym here ∙ is) own)
    go false e = subst H (sym (found_other t w.receivers other (λ is. clash (sym e ∙ (Decides-eqb t.node other).1 is)))) (others other)

-- ---- what the sender's tick leaves

-- what counts as sent now, and not only at the last tick, a receiver has or awaits
got_symbol : (p : Settings) (s t : SenderState) (x : Passing) (node : ℕ) (r : ReceiverState) → SenderSits p s t → Has p s x node r → (at : Position)
    → is_member position_before at t.sent ≡ true → Got x node r t.current.id (λ (g : Holding). HasSymbol g at) (BringsSymbol p t.current.id at)
unfolding is_member
got_symbol p s t x node r (Same same) has at e =
    let G : ℕ → Type 0 = λ id. Got x node r id (λ (g : Holding). HasSymbol g at) (BringsSymbol p id at) in
    subst G (sym same.id) (has.symbols at (ap (is_member position_before at) (sym same.sent) ∙ e))
got_symbol p s t x node r (Newer lt sent infos) has at e = absurd (clash (sym (ap (is_member position_before at) sent) ∙ e))

got_info : (p : Settings) (s t : SenderState) (x : Passing) (node : ℕ) (r : ReceiverState) → SenderSits p s t → Has p s x node r → (index : ℕ)
    → is_member nat_lt index t.sent_infos ≡ true → Got x node r t.current.id (λ (g : Holding). HasInfo g index) (BringsInfo p t.current.id index)
unfolding is_member
got_info p s t x node r (Same same) has index e =
    let G : ℕ → Type 0 = λ id. Got x node r id (λ (g : Holding). HasInfo g index) (BringsInfo p id index) in
    subst G (sym same.id) (has.infos index (ap (is_member nat_lt index) (sym same.infos) ∙ e))
got_info p s t x node r (Newer lt sent infos) has index e = absurd (clash (sym (ap (is_member nat_lt index) infos) ∙ e))

-- a tick of the sender, as its world
abbrev ticked_world : Settings → World → SenderState → Option Written → World
ticked_world p w t sent = with_given p.sender sent (record w { sender = t })

abbrev passing_now : Option Written → Passing
passing_now sent = record { last = sent; heard = [] }

module _ (p : Settings) (range : InRange p) (past : List Happening) (accepted : List Origin) (w : World) (now : ℕ) (holds : WorldHolds p past accepted w) (kept : Kept p w.sender)
    (c : CalmWorld p w) where
  abbrev s : SenderState
  s = w.sender

  abbrev t : SenderState
  t = (sender_ticked p w.sender now).0

  current : t.current ≡ s.current
  current = (ticked_keeps p s now).current

  -- all that was sent before a flush counts as sent after it
  sources : SourcesSent p s → t.sent ≡ s.sent → t.sent_infos ≡ s.sent_infos → SourcesSent p t
  sources all sent infos = record {
    symbols = λ at e. ap (is_member position_before at) sent
        ∙ all.symbols at (ap (λ (i : Instance). is_source (shapes_of p i.order) at) (sym current) ∙ e);
    infos = λ n e. ap (is_member nat_lt n) infos ∙ all.infos n (ap (λ (i : Instance). has_info (shapes_of p i.order) n) (sym current) ∙ e);
  }

  -- what is given leads each receiver where it has all before
  given_leads : (o : Written) → TickSays p s t (Some o) → SaysTrue p t o → IsDistinct nat_eq (instance_ids t) → Kept p t → (ticked : SenderState)
      → SenderSits p ticked t → (node : ℕ) (r : ReceiverState) → Has p ticked (passing_now (Some o)) node r → Leads p t.current r o.indices o.message
  given_leads o (SaysNew want next names) says ids after ticked sits node r has =
      let N : Instance → Type 0 = λ i. NamesWant i.id o.indices o.message want in
      new_leads p t (passing_now (Some o)) o refl node r ids says (λ at e. got_symbol p ticked t (passing_now (Some o)) node r sits has at e)
      (λ n e. got_info p ticked t (passing_now (Some o)) node r sits has n e) (before_next p range t after.sent) want next (subst N (sym current) names)
  given_leads o (SaysFlush none sent infos flushes) says ids after ticked sits node r has =
      let F : Instance → Type 0 = λ i. IsFlushOf i.id o.message in
      let all = sources_sent p range s kept.sent (idle_so_far p s (none_idle p now s c.asks none) kept.sent) in
      flush_leads p t (passing_now (Some o)) o refl node r ids says (λ at e. got_symbol p ticked t (passing_now (Some o)) node r sits has at e)
      (λ n e. got_info p ticked t (passing_now (Some o)) node r sits has n e) (sources all sent infos) (subst F (sym current) flushes)

  given_calm : (sent : Option Written) → TickSays p s t sent → AsksNothing t → SentTrue p s sent → (after : List Happening) (known : List Origin)
      → WorldHolds p after known (ticked_world p w t sent) → Kept p t → WholeHolds t → Passed p (ticked_world p w t sent) (passing_now sent)
      → CalmWorld p (ticked_world p w t sent)
  given_calm None says asks true_of after known holds kept whole passed = record {
    whole = whole;
    asks = asks;
    offered = c.offered;
    given = all_filter NoNack _ w.given c.given;
    nodes = λ node apart. at node (receiver_at w node) (c.nodes node apart);
  }
    where
      at : (node : ℕ) (found : Option ReceiverState) → CalmAt p s.current w.offered w.given found → CalmAt p t.current w.offered (given_others p.sender w) found
      at node None k = tt
      at node (Some r) k =
          let C : Instance → Type 0 = λ i. CalmReceiver p i w.offered (given_others p.sender w) r in
          subst C (sym current) (record {
            sits = k.sits;
            saw = k.saw;
            backoff = k.backoff;
            offered = k.offered;
            given = all_filter (λ (o : ℕ × Written). Leads p s.current r o.1.indices o.1.message) _ w.given k.given;
          })
  given_calm (Some o) says asks true_of after known holds kept whole passed = record {
    whole = whole;
    asks = asks;
    offered = c.offered;
    given = all_end NoNack (given_others p.sender w) (p.sender, o) (all_filter NoNack _ w.given c.given) (spoken_reads o true_of.read true_of.spoken);
    nodes = λ node apart. at node (receiver_at w node) (c.nodes node apart) (passed.nodes node apart);
  }
    where
      says_now : SaysTrue p t o
      says_now = all_contains (λ (a : ℕ × Written). SaysTrue p t a.1) (given_others p.sender w ++ (p.sender, o) ∷ []) (p.sender, o) holds.given
          (Contains-push (given_others p.sender w) (p.sender, o))

      at : (node : ℕ) (found : Option ReceiverState) → CalmAt p s.current w.offered w.given found
          → HasAt p passed.ticked (passing_now (Some o)) w.offered (given_others p.sender w ++ (p.sender, o) ∷ []) node found
          → CalmAt p t.current w.offered (given_others p.sender w ++ (p.sender, o) ∷ []) found
      at node None k has = tt
      at node (Some r) k has =
          let A : Instance → Type 0 = λ i. AllLead p i r w.offered in
          let G : Instance → Type 0 = λ i. AllLead p i r (given_others p.sender w) in
          let S : Instance → Type 0 = λ i. SawHad p i r in
          let I : Instance → Type 0 = λ i. Sits i r in
          record {
            sits = subst I (sym current) k.sits;
            saw = subst S (sym current) k.saw;
            backoff = k.backoff;
            offered = subst A (sym current) k.offered;
            given = all_end (λ (a : ℕ × Written). Leads p t.current r a.1.indices a.1.message) (given_others p.sender w) (p.sender, o)
                (subst G (sym current) (all_filter (λ (a : ℕ × Written). Leads p s.current r a.1.indices a.1.message) _ w.given k.given))
                (given_leads o says says_now holds.once.ids kept passed.ticked passed.sits node r has.has);
          }

-- ---- each event

-- an event that leaves the receivers and what was said, with a sender that goes on in its instance
sender_calm : (p : Settings) (w : World) (t : SenderState) → OrderLater w.sender.current.order t.current.order → KeepsCalm w.sender t → WholeHolds t → CalmWorld p w
    → CalmWorld p (record w { sender = t })
sender_calm p w t on keeps whole c = record {
  whole = whole;
  asks = keeps.asks c.asks;
  offered = c.offered;
  given = c.given;
  nodes = λ node apart. at_later p w.sender.current t.current w.offered w.given (receiver_at w node) (current_whole w.sender c.whole) on keeps.id (c.nodes node apart);
}

same_on : (s t : SenderState) → t.current ≡ s.current → OrderLater s.current.order t.current.order
same_on s t same = let L : Instance → Type 0 = λ i. OrderLater s.current.order i.order in subst L (sym same) (order_itself s.current.order)

-- a receiver that moved
moved_calm : (p : Settings) (w : World) (node : ℕ) (r t : ReceiverState) → receiver_at w node ≡ Some r → t.node ≡ r.node → CalmReceiver p w.sender.current w.offered w.given t
    → CalmWorld p w → CalmWorld p (with_receiver t w)
moved_calm p w node r t found same own c = record {
  whole = c.whole;
  asks = c.asks;
  offered = c.offered;
  given = c.given;
  nodes = put_at (λ n o. (n == p.sender) ≡ false → CalmAt p w.sender.current w.offered w.given o) w node r t found same (λ apart. own) c.nodes;
}

-- the receiver of a node that is not the sender's
calm_found : (p : Settings) (w : World) (node : ℕ) (r : ReceiverState) → receiver_at w node ≡ Some r → (node == p.sender) ≡ false → CalmWorld p w
    → CalmReceiver p w.sender.current w.offered w.given r
calm_found p w node r found apart c =
    let C : Option ReceiverState → Type 0 = λ o. CalmAt p w.sender.current w.offered w.given o in subst C found (c.nodes node apart)

-- a receiver hears what was offered
module _ (p : Settings) (range : InRange p) (past : List Happening) (accepted : List Origin) (w : World) (holds : WorldHolds p past accepted w) (c : CalmWorld p w)
    (node now draw : ℕ) (r : ReceiverState) (found : receiver_at w node ≡ Some r) (apart : (node == p.sender) ≡ false) (from : ℕ) (o : Written)
    (offered : Contains w.offered (from, o)) (near : are_near (receiver_knows r o.message) o.indices ≡ true) where
  abbrev i : Instance
  i = w.sender.current

  abbrev u : ReceiverState
  u = received p r o.octets now draw

  abbrev hearing : receiver.ReceiverEvent
  hearing = receiver.Delivered o.octets now draw

  k : CalmReceiver p i w.offered w.given r
  k = calm_found p w node r found apart c

  says : SaysTrue p w.sender o
  says = all_contains (λ (a : ℕ × Written). SaysTrue p w.sender a.1) w.offered (from, o) holds.offered offered

  sees : Sees p now draw i r u
  sees = received_sees p w.sender i now draw r o says near
      (all_contains (λ (a : ℕ × Written). Leads p i r a.1.indices a.1.message) w.offered (from, o) k.offered offered)

  still : r.instance ≡ Some i.id → u.instance ≡ Some i.id
  still = sees_still p now draw i r u sees

  saw : SawHad p i u
  saw = sees_had p now draw i r u (λ index block h. before_moves p i r hearing index block still h) (far_moves p i r hearing r.knows.farthest still k.saw.farthest)
      (flush_moves p i r hearing r.knows.flush still k.saw.flush) sees

  same_node : u.node ≡ r.node
  same_node = moved_node_is p w.sender r u (received_moves p range w.sender r o o.octets now draw (orders_hold p w.sender holds.sender) says refl near)

  pub hears_calm : (after : List Happening) (known : List Origin) → WorldHolds p after known (with_receiver u w) → CalmWorld p (with_receiver u w)
  hears_calm after known next =
      moved_calm p w node r u found same_node
      (receiver_moves p i w.offered w.given r hearing still sits saw (sees_backoff p now draw i r u sees (needs sits) k.backoff) k) c
    where
      sits : Sits i u
      sits = sees_sits p now draw i r u sees k.sits

      at_u : receiver_at (with_receiver u w) node ≡ Some u
      at_u =
          let here : u.node ≡ node = same_node ∙ world_laws.found w node r found in
          ap (at_node (map (put_in u) w.receivers)) (sym here) ∙ found_put u r w.receivers (ap (at_node w.receivers) here ∙ found)

      here : AtReceiver p w.sender after node u
      here = let A : Option ReceiverState → Type 0 = λ o. AtNode p w.sender after node o in subst A at_u (next.nodes node)

      needs : Sits i u → needs_nothing p u ≡ true
      needs (inl none) = none_needed p u none.1 none.2 none.3
      needs (inr inside) =
          saw_needs_none p range w.sender after node u holds.sender holds.once.ids (current_whole w.sender c.whole) here inside saw

delivery_calm : (p : Settings) → InRange p → (past : List Happening) (accepted : List Origin) (w : World) (node : ℕ) (octets : List ℕ) (now draw : ℕ)
    → LawfulDelivery p w node octets → WorldHolds p past accepted w → (after : List Happening) (known : List Origin)
    → WorldHolds p after known (world_step p w (Delivered node octets now draw)).0 → WholeHolds (world_step p w (Delivered node octets now draw)).0.sender → CalmWorld p w
    → CalmWorld p (world_step p w (Delivered node octets now draw)).0
delivery_calm p range past accepted w node octets now draw may holds after known next whole c = go (node == p.sender) (receiver_at w node) refl refl next whole
  where
    o : Written
    o = may.datagram

    read : ReadsNoNack (decoded octets)
    read =
        let R : List ℕ → Type 0 = λ bytes. ReadsNoNack (decoded bytes) in
        subst R may.same (all_contains NoNack w.offered (may.from, o) c.offered may.offered).1

    near : (r : ReceiverState) → receiver_at w node ≡ Some r → (node == p.sender) ≡ false → are_near (receiver_knows r o.message) o.indices ≡ true
    near r found apart =
        let N : Bool → Type 0 = λ own. are_near (elim own [
          | true ↦ sender_knows w.sender o.message
          | false ↦ option_and_then (λ (a : ReceiverState). receiver_knows a o.message) (receiver_at w node)
        ]) o.indices ≡ true in
        let R : Option ReceiverState → Type 0 = λ at. are_near (option_and_then (λ (a : ReceiverState). receiver_knows a o.message) at) o.indices ≡ true in
        subst R found (subst N apart may.near)

    After : Bool → Option ReceiverState → World
    After own found = (moved p w (node_move own found (sender.Delivered octets now) (receiver.Delivered octets now draw))).0

    go : (own : Bool) (found : Option ReceiverState) → (node == p.sender) ≡ own → receiver_at w node ≡ found → WorldHolds p after known (After own found)
        → WholeHolds (After own found).sender → CalmWorld p (After own found)
    go true found own at next whole =
        let t : SenderState = heard p w.sender octets now in
        sender_calm p w t (same_on w.sender t (heard_keeps p w.sender octets now).current) (message_calm p w.sender now (decoded octets) read) whole c
    go false None own at next whole = c
    go false (Some r) own at next whole =
        let W : List ℕ → Type 0 = λ bytes. WorldHolds p after known (with_receiver (received p r bytes now draw) w) in
        let C : List ℕ → Type 0 = λ bytes. CalmWorld p (with_receiver (received p r bytes now draw) w) in
        subst C may.same (hears_calm p range past accepted w holds c node now draw r at own may.from o may.offered (near r at own) after known
        (subst W (sym may.same) next))

-- ticks
receiver_tick_calm : (p : Settings) (w : World) (node now : ℕ) (r : ReceiverState) → receiver_at w node ≡ Some r → (node == p.sender) ≡ false → CalmWorld p w
    → CalmWorld p (with_given r.node (receiver_ticked p r now).1 (with_receiver (receiver_ticked p r now).0 w))
receiver_tick_calm p w node now r found apart c = build (receiver_ticked p r now).1 calm.1
  where
    i : Instance
    i = w.sender.current

    u : ReceiverState
    u = (receiver_ticked p r now).0

    event : receiver.ReceiverEvent
    event = receiver.Ticked now

    k : CalmReceiver p i w.offered w.given r
    k = calm_found p w node r found apart c

    calm : SameSight r u × GivesCalm (receiver_ticked p r now).1
    calm = tick_calm p r now k.backoff

    sees : Sees p now 0 i r u
    sees = SeesNothing calm.0

    still : r.instance ≡ Some i.id → u.instance ≡ Some i.id
    still = sees_still p now 0 i r u sees

    v : CalmWorld p (with_receiver u w)
    v = moved_calm p w node r u found (tick_same p r now).node
        (receiver_moves p i w.offered w.given r event still (sees_sits p now 0 i r u sees k.sits)
        (sees_had p now 0 i r u (λ index block h. before_moves p i r event index block still h) (far_moves p i r event r.knows.farthest still k.saw.farthest)
        (flush_moves p i r event r.knows.flush still k.saw.flush) sees) (calm.0.backoff ∙ k.backoff) k) c

    less : (other : ℕ) (found : Option ReceiverState) → CalmAt p i w.offered w.given found → CalmAt p i w.offered (given_others r.node w) found
    less other None h = tt
    less other (Some a) h = record {
      sits = h.sits;
      saw = h.saw;
      backoff = h.backoff;
      offered = h.offered;
      given = all_filter (λ (o : ℕ × Written). Leads p i a o.1.indices o.1.message) _ w.given h.given;
    }

    more : (o : Written) → GivesCalm (Some o) → (other : ℕ) (found : Option ReceiverState) → CalmAt p i w.offered (given_others r.node w) found
        → CalmAt p i w.offered (given_others r.node w ++ (r.node, o) ∷ []) found
    more o gives other None h = tt
    more o gives other (Some a) h = record {
      sits = h.sits;
      saw = h.saw;
      backoff = h.backoff;
      offered = h.offered;
      given = all_end (λ (x : ℕ × Written). Leads p i a x.1.indices x.1.message) (given_others r.node w) (r.node, o) h.given (gives.1 p i a);
    }

    build : (sent : Option Written) → GivesCalm sent → CalmWorld p (with_given r.node sent (with_receiver u w))
    build None gives = record {
      whole = c.whole;
      asks = c.asks;
      offered = c.offered;
      given = all_filter NoNack _ w.given c.given;
      nodes = λ other apart. less other (receiver_at (with_receiver u w) other) (v.nodes other apart);
    }
    build (Some o) gives = record {
      whole = c.whole;
      asks = c.asks;
      offered = c.offered;
      given = all_end NoNack (given_others r.node w) (r.node, o) (all_filter NoNack _ w.given c.given) gives.0;
      nodes = λ other apart. more o gives other (receiver_at (with_receiver u w) other) (less other (receiver_at (with_receiver u w) other) (v.nodes other apart));
    }

abbrev tick_by : Passing → Option Written → Bool → Passing
tick_by x sent own = elim own [ true ↦ record { last = sent; heard = [] } | false ↦ x ]

tick_step_calm : (p : Settings) → InRange p → (past : List Happening) (accepted : List Origin) (w : World) (x : Passing) (node now : ℕ) → WorldHolds p past accepted w
    → Kept p w.sender → (after : List Happening) (known : List Origin) → WorldHolds p after known (world_step p w (Ticked node now)).0
    → Kept p (world_step p w (Ticked node now)).0.sender → WholeHolds (world_step p w (Ticked node now)).0.sender
    → Passed p (world_step p w (Ticked node now)).0 (passing_after p w x (Ticked node now) (world_step p w (Ticked node now)).1) → CalmWorld p w
    → CalmWorld p (world_step p w (Ticked node now)).0
tick_step_calm p range past accepted w x node now holds kept after known next kept_next whole passed c =
    go (node == p.sender) (receiver_at w node) refl refl next kept_next whole passed
  where
    After : Bool → Option ReceiverState → World
    After own found = (moved p w (node_move own found (sender.Ticked now) (receiver.Ticked now))).0

    go : (own : Bool) (found : Option ReceiverState) → (node == p.sender) ≡ own → receiver_at w node ≡ found → WorldHolds p after known (After own found)
        → Kept p (After own found).sender → WholeHolds (After own found).sender
        → Passed p (After own found) (passing_after p w x (Ticked node now) (moved p w (node_move own found (sender.Ticked now) (receiver.Ticked now))).1)
        → CalmWorld p (After own found)
    go true found own at next kept_next whole passed =
        let sent : Option Written = (sender_ticked p w.sender now).1 in
        let t : SenderState = (sender_ticked p w.sender now).0 in
        let v : World = record w { sender = t } in
        let says = tick_says p now w.sender c.asks in
        let leaves = (given_leaves p.sender sent v).0 in
        let P : Bool → Type 0 = λ b. Passed p (with_given p.sender sent v) (tick_by x sent b) in
        given_calm p range past accepted w now holds kept c sent says.0 says.1 (tick_true p range w.sender now holds.sender holds.once.ids) after known next
        (subst (Kept p) leaves kept_next) (subst WholeHolds leaves whole) (subst P own passed)
    go false None own at next kept_next whole passed = c
    go false (Some r) own at next kept_next whole passed = receiver_tick_calm p w node now r at own c

-- offers and hand-ups
offer_calm : (p : Settings) (w : World) (node : ℕ) (octets : List ℕ) → CalmWorld p w → CalmWorld p (world_step p w (Offered node octets)).0
offer_calm p w node octets c = go (find (is_of node octets) w.given) refl
  where
    go : (found : Option (ℕ × Written)) → find (is_of node octets) w.given ≡ found → CalmWorld p (offers found node w)
    go None e = c
    go (Some o) e = record {
      whole = c.whole;
      asks = c.asks;
      offered = all_end NoNack w.offered o c.offered (found_holds NoNack (is_of node octets) w.given o c.given e);
      given = all_filter NoNack _ w.given c.given;
      nodes = λ other apart. at (receiver_at w other) (c.nodes other apart);
    }
      where
        at : (found : Option ReceiverState) → CalmAt p w.sender.current w.offered w.given found → CalmAt p w.sender.current (w.offered ++ o ∷ []) (given_others node w) found
        at None k = tt
        at (Some r) k =
            let L : ℕ × Written → Type 0 = λ a. Leads p w.sender.current r a.1.indices a.1.message in
            record {
              sits = k.sits;
              saw = k.saw;
              backoff = k.backoff;
              offered = all_end L w.offered o k.offered (found_holds L (is_of node octets) w.given o k.given e);
              given = all_filter L _ w.given k.given;
            }

up_calm : (p : Settings) (w : World) (node : ℕ) → ((r : ReceiverState) → receiver_at w node ≡ Some r → (node == p.sender) ≡ false) → CalmWorld p w
    → CalmWorld p (world_step p w (UpTaken node)).0
up_calm p w node apart c = go (receiver_at w node) refl
  where
    go : (found : Option ReceiverState) → receiver_at w node ≡ found → CalmWorld p (moved p w (receiver_move found receiver.UpTaken)).0
    go None e = c
    go (Some r) e =
        let k = calm_found p w node r e (apart r e) c in
        let i : Instance = w.sender.current in
        let event : receiver.ReceiverEvent = receiver.UpTaken in
        moved_calm p w node r (took r).0 e refl (receiver_moves p i w.offered w.given r event (λ is. is) (sits k.sits)
        (record { farthest = far_moves p i r event r.knows.farthest (λ is. is) k.saw.farthest; flush = flush_moves p i r event r.knows.flush (λ is. is) k.saw.flush })
        k.backoff k) c
      where
        sits : Sits w.sender.current r → Sits w.sender.current (took r).0
        sits (inl none) = inl (none.0, ap (λ (h : Holding). (up_taken h).0) none.1, none.2, none.3)
        sits (inr is) = inr is

pub event_calm : (p : Settings) → InRange p → (past : List Happening) (accepted : List Origin) (w : World) (x : Passing) (e : Event) → MayCome p w accepted e → IsEvent e
    → IsPlainEvent e → ((node : ℕ) (r : ReceiverState) → receiver_at w node ≡ Some r → (node == p.sender) ≡ false) → WorldHolds p past accepted w → Kept p w.sender
    → (after : List Happening) (known : List Origin) → WorldHolds p after known (world_step p w e).0 → Kept p (world_step p w e).0.sender
    → Passed p (world_step p w e).0 (passing_after p w x e (world_step p w e).1) → CalmWorld p w → CalmWorld p (world_step p w e).0
event_calm p range past accepted w x (Commanded by job now) may is plain apart holds kept after known next kept_next passed c =
    let t : SenderState = (commanded p w.sender by job).0 in
    let keeps = command_calm p w.sender by job plain (current_whole w.sender c.whole) in
    let onward = (command_steps p range w.sender by job now is holds.sender).onward in
    sender_calm p w t (order_on w.sender t holds.once.ids next.once.ids onward keeps.id) keeps
    (event_whole p w (Commanded by job now) (plain_opens_none (Commanded by job now) plain) c.whole) c
event_calm p range past accepted w x (Delivered node octets now draw) may is plain apart holds kept after known next kept_next passed c =
    delivery_calm p range past accepted w node octets now draw may holds after known next (event_whole p w (Delivered node octets now draw) tt c.whole) c
event_calm p range past accepted w x (Ticked node now) may is plain apart holds kept after known next kept_next passed c =
    tick_step_calm p range past accepted w x node now holds kept after known next kept_next (event_whole p w (Ticked node now) tt c.whole) passed c
event_calm p range past accepted w x (Offered node octets) may is plain apart holds kept after known next kept_next passed c = offer_calm p w node octets c
event_calm p range past accepted w x (UpTaken node) may is plain apart holds kept after known next kept_next passed c = up_calm p w node (apart node) c
event_calm p range past accepted w x NewsAsked may is plain apart holds kept after known next kept_next passed c =
    sender_calm p w (told w.sender).0 (same_on w.sender (told w.sender).0 (told_keeps w.sender).current) (told_calm w.sender)
    (event_whole p w NewsAsked tt c.whole) c

-- ---- as a world begins

pub opening_calm : (p : Settings) → CalmWorld p (world_opening p)
opening_calm p = record {
  whole = record { orders = (tt, tt); block = refl };
  asks = record { round = refl; wants = refl; squelch = refl };
  offered = tt;
  given = tt;
  nodes = λ node apart. at node (receivers_of p p.receivers);
}
  where
    i : Instance
    i = (world_opening p).sender.current

    at : (node : ℕ) (nodes : List ℕ) → CalmAt p i [] [] (at_node (map receiver_opening nodes) node)
    at node [] = tt
    at node (n ∷ nodes) = by (n == node) (at node nodes)
      where
        by : (b : Bool) → CalmAt p i [] [] (at_node (map receiver_opening nodes) node)
            → CalmAt p i [] [] (cond b (Some (receiver_opening n)) (at_node (map receiver_opening nodes) node))
        by true rest = record { sits = inl (refl, refl, refl, refl); saw = record { farthest = tt; flush = tt }; backoff = refl; offered = tt; given = tt }
        by false rest = rest

-- ---- nothing is needed

pub calm_needs_none : (p : Settings) → InRange p → (past : List Happening) (accepted : List Origin) (w : World) → WorldHolds p past accepted w → CalmWorld p w → (node : ℕ)
    (r : ReceiverState) → receiver_at w node ≡ Some r → (node == p.sender) ≡ false → NeedsNothing p r
calm_needs_none p range past accepted w holds c node r found apart = record { needs = needs k.sits; backoff = k.backoff }
  where
    k : CalmReceiver p w.sender.current w.offered w.given r
    k = calm_found p w node r found apart c

    here : AtReceiver p w.sender past node r
    here = let A : Option ReceiverState → Type 0 = λ o. AtNode p w.sender past node o in subst A found (holds.nodes node)

    needs : Sits w.sender.current r → needs_nothing p r ≡ true
    needs (inl none) = none_needed p r none.1 none.2 none.3
    needs (inr inside) = saw_needs_none p range w.sender past node r holds.sender holds.once.ids (current_whole w.sender c.whole) here inside k.saw
