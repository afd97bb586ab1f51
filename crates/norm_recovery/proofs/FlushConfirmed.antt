-- In the turn of a flush a member that is asked and handed up all through its position is listed.
use Rattle.std.proofs.Common.{◌≡◌, ◌≢◌, ℕ, zero, suc, ◌+◌, ◌≤◌, cond, List, [], ◌∷◌, ◌++◌, filter, length, Bool, true, false, Option, None, Some, refl, sym, ap, ◌∙◌, subst, arith}
use Rattle.std.specs.Prelude.{◌==◌, not, find, fold, ⊤}
use Rattle.std.specs.Fn.{iterate}
use Rattle.std.specs.List.{AllByRecursion, list_any}
use Rattle.std.proofs.lemmas.Bool.Decides.{Decides-eqb}
use Rattle.norm_base.specs.Members.{receivers_of, members_of}
use Rattle.norm_base.specs.Settings.{Settings, InRange}
use Rattle.fec_plan.specs.Points.{reaches}
use Rattle.fec_plan.specs.declared.position.Position.{Position}
use Rattle.norm_ext.specs.Message.{Ack}
use Rattle.norm_ext.specs.Octets.{octets_of}
use Rattle.norm_ext.specs.Reading.{decoded}
use Rattle.norm_ext.specs.Written.{Written, writes}
use Rattle.norm_order.specs.Entries.{Entry}
use Rattle.norm_order.specs.Shapes.{shapes_of, is_source}
use Rattle.norm_receive_rules.specs.Nack.{ack_message}
use Rattle.norm_receive_rules.specs.ReceiverState.{ReceiverState}
use Rattle.norm_receive_rules.specs.ReceiverStep.{ReceiverEvent, receiver_step}
use Rattle.norm_receive_rules.specs.ReceiverStep as receiver
use Rattle.norm_receive_rules.specs.Receiving.{received}
use Rattle.norm_receive_rules.specs.Ticking.{ticked as receiver_ticked}
use Rattle.norm_send_rules.specs.Hearing.{heard}
use Rattle.norm_send_rules.specs.InWindow.{current_shapes}
use Rattle.norm_send_rules.specs.SenderState.{SenderState, Instance, Watermark}
use Rattle.norm_send_rules.specs.SenderStep as sender
use Rattle.norm_send_rules.specs.Ticking.{ticked}
use Rattle.norm_send_rules.specs.Watermarks.{members}
use Rattle.norm_safety.specs.Acknowledges.{owes, EndsPartOf, HandedAll}
use Rattle.norm_safety.specs.CreditsMembers.{is_listed_past}
use Rattle.norm_safety.specs.Events.{Event, Commanded, Delivered, Ticked, Offered, UpTaken, NewsAsked, Sent}
use Rattle.norm_safety.specs.History.{history}
use Rattle.norm_safety.specs.Tail.{Course, course_from, events_of, comes, untold, tells, untaken, takes, copy_comes, others_than, given_by, passes_on, sender_ticks, receiver_ticks, serves, tail_turn}
use Rattle.norm_safety.specs.OnceEach.{order_of}
use Rattle.norm_safety.specs.World.{World, world_opening, receiver_at}
use Rattle.norm_safety.specs.WorldLaws.{is_senders, to_receiver, comes_to, nodes_of}
use Rattle.norm_safety.specs.WorldStep.{node_move, receiver_move, moved, world_step, run}
use Rattle.norm_safety.proofs.Feedback.{ack_of}
use Rattle.norm_safety.proofs.Owing.{owing_laws}
use Rattle.norm_safety.proofs.Spoken.{current_order}
use Rattle.norm_safety.proofs.TailLemmas.{tail_laws}
use Rattle.norm_safety.proofs.WorldLemmas.{world_laws}
use Rattle.norm_laws.proofs.CountSender.{sender_after, sender_is}
use Rattle.norm_laws.proofs.LaterTailLemmas.{if_own}
use Rattle.norm_laws.proofs.NewOrder.{clash}
use Rattle.norm_recovery.specs.FlushConfirmed.{is_asked, HandedThrough, FlushConfirmed}
use Rattle.norm_recovery.specs.TailKeeps.{Stays}
use Rattle.norm_recovery.specs.TailLawful.{MayGoOn, GoesOn}
use Rattle.norm_recovery.specs.TailOf.{ComesInTail}
use Rattle.norm_recovery.proofs.FlushKnown.{after_run, flush_of, GivesFlush, gives_of, flush_command, FlushSays, flush_says, HearsIt, hears_it}
use Rattle.norm_recovery.proofs.FlushListed.{flush_listed}
use Rattle.norm_recovery.proofs.FlushOwed.{handed_there, owes_flush, Says, says_due, ack_reads, member_asked, ack_is_counted, names_due}
use Rattle.norm_recovery.proofs.KeepsSender.{quiet_run_stays}
use Rattle.norm_recovery.proofs.LawfulTail.{goes_on}
use Rattle.norm_recovery.proofs.MarksEnd.{oldest_ends, marks_end}
use Rattle.norm_recovery.proofs.MembersTail.{last_is_run}
use Rattle.norm_recovery.proofs.PassTurn.{stays_in, same_id, Waits, calm_then, comes_lawfully, is_other, passed}
use Rattle.norm_recovery.proofs.TailCourses.{IsCalm, comes_calm, draw_calm}
use Rattle.norm_recovery.proofs.TailWalk.{HasOffered, Gift, no_receiver, all_are_taken, given_may_come, given_offered, offered_may_come, others_differ, copy_offered, copies_keep, tells_keep, all_served}

none_some : {X : Type 0} (x : X) → None ≡ Some x → ⊥
none_some x e = cc

-- ---- a walk along a turn without the node's own tick

-- the event is no tick of the node
abbrev pub Spares : ℕ → Event → Type 0
Spares node (Ticked to now) = (to == node) ≡ false
Spares node _ = ⊤

module _ (p : Settings) (draws : ℕ → ℕ) (node : ℕ) (Kept : Course → Type 0)
    (each : (e : Event) (c : Course) → Spares node e → ComesInTail c.world e → Kept c → Kept (comes p e c))
    (drawn : (c : Course) (n : ℕ) → Kept c → Kept (record c { used = n })) where
  pub news_spare : (n : ℕ) (c : Course) → Kept c → Kept (iterate (comes p NewsAsked) n c)
  news_spare zero c h = h
  news_spare (suc n) c h = news_spare n (comes p NewsAsked c) (each NewsAsked c tt tt h)

  pub takes_spare : (to n : ℕ) (c : Course) → Kept c → Kept (iterate (comes p (UpTaken to)) n c)
  takes_spare to zero c h = h
  takes_spare to (suc n) c h = takes_spare to n (comes p (UpTaken to) c) (each (UpTaken to) c tt tt h)

  pub copy_spare : (now from : ℕ) (octets : List ℕ) (c : Course) (to : ℕ) → from ≢ to → HasOffered from octets c.world → Kept c
      → Kept (copy_comes p draws now octets c to)
  copy_spare now from octets c to apart has h = go (to == p.sender)
    where
      go : (b : Bool) → Kept (elim b as (λ _. Course) [
        | true ↦ tells p (comes p (Delivered to octets now 0) c)
        | false ↦ comes p (Delivered to octets now (draws c.used)) (record c { used = c.used + 1 })
      ])
      go true =
          news_spare (untold (comes p (Delivered to octets now 0) c).world.sender) (comes p (Delivered to octets now 0) c)
          (each (Delivered to octets now 0) c tt (offered_may_come c.world from to octets apart has) h)
      go false =
          each (Delivered to octets now (draws c.used)) (record c { used = c.used + 1 }) tt (offered_may_come c.world from to octets apart has)
          (drawn c (c.used + 1) h)

  pub copies_spare : (now from : ℕ) (octets : List ℕ) (others : List ℕ) → AllByRecursion (λ (to : ℕ). from ≢ to) others → (c : Course)
      → HasOffered from octets c.world → Kept c → Kept (fold (copy_comes p draws now octets) c others)
  copies_spare now from octets [] apart c has h = h
  copies_spare now from octets (to ∷ others) apart c has h =
      copies_spare now from octets others apart.1 (copy_comes p draws now octets c to)
      (subst (Gift from octets) (sym (copy_offered p draws now octets c to)) has) (copy_spare now from octets c to apart.0 has h)

  pub passes_spare : (now : ℕ) (c : Course) (to : ℕ) → Kept c → Kept (passes_on p draws now c to)
  passes_spare now c to h = go (given_by c.world to) refl
    where
      go : (given : Option Written) → given_by c.world to ≡ given → Kept (elim given as (λ _. Course) [
        | Some d ↦ fold (copy_comes p draws now d.octets) (comes p (Offered to d.octets) c) (others_than p to)
        | None ↦ c
      ])
      go None e = h
      go (Some d) e =
          copies_spare now to d.octets (others_than p to) (others_differ to (members_of p)) (comes p (Offered to d.octets) c)
          (given_offered p c.world to d e) (each (Offered to d.octets) c tt (given_may_come c.world to d e) h)

  pub serves_spare : (now : ℕ) (c : Course) (to : ℕ) → (to == node) ≡ false → Kept c → Kept (serves p draws now c to)
  serves_spare now c to apart h =
      passes_spare now (receiver_ticks p now c to) to
      (each (Ticked to now) (takes p to c) apart (all_are_taken p to (untaken c.world to) c refl) (takes_spare to (untaken c.world to) c h))

-- a receiver's tick answers with its datagram
pub receiver_answer : (p : Settings) (w : World) (node now : ℕ) (x : ReceiverState) → (node == p.sender) ≡ false → receiver_at w node ≡ Some x
    → (world_step p w (Ticked node now)).1 ≡ Sent (receiver_ticked p x now).1
receiver_answer p w node now x other found =
    ap (λ (b : Bool). (moved p w (node_move b (receiver_at w node) (sender.Ticked now) (receiver.Ticked now))).1) other
    ∙ ap (λ (o : Option ReceiverState). (moved p w (receiver_move o (receiver.Ticked now))).1) found

-- ---- a member that owes

module _ (p : Settings) (range : InRange p) (events : List Event) (may : MayGoOn p events) (node : ℕ) (other : (node == p.sender) ≡ false) (at : Position) where
  -- its receiver owes an acknowledgement of the position or of a further one, in the current instance
  record Owed (c : Course) : Type 0 where
    calm : IsCalm p (run p events) c
    r : ReceiverState
    found : receiver_at c.world node ≡ Some r
    owed : owes r at ≡ true
    inside : r.instance ≡ Some (run p events).sender.current.id

  owed_on : (e : Event) (c : Course) → Spares node e → ComesInTail c.world e → Owed c → Owed (comes p e c)
  owed_on e c spares comes_so h = go e spares refl
    where
      calm : IsCalm p (run p events) (comes p e c)
      calm = comes_calm p (run p events) e c comes_so h.calm

      still : receiver_at (world_step p c.world e).0 node ≡ receiver_at c.world node → Owed (comes p e c)
      still same = record { calm = calm; r = h.r; found = same ∙ h.found; owed = h.owed; inside = h.inside }

      same_instance : (own : ReceiverEvent) → receiver_at (world_step p c.world e).0 node ≡ Some (receiver_step p h.r own).0
          → (receiver_step p h.r own).0.instance ≡ h.r.instance
      same_instance own found = stays_in p range events may node other (comes p e c) calm h.r (receiver_step p h.r own).0 own found refl h.inside

      by_node : (to : ℕ) (own : ReceiverEvent) → to_receiver e ≡ Some (to, own) → ((to == p.sender) ≡ false → is_senders p e ≡ false)
          → ((to == node) ≡ false → receiver_at (world_step p c.world e).0 node ≡ receiver_at c.world node)
          → (receiver_at (world_step p c.world e).0 node ≡ Some (receiver_step p h.r own).0 → Owed (comes p e c)) → Owed (comes p e c)
      by_node to own names theirs stays steps = by (to == node) refl
        where
          by : (b : Bool) → (to == node) ≡ b → Owed (comes p e c)
          by false apart = still (stays apart)
          by true is =
              let same : to ≡ node = (Decides-eqb to node).0 is in
              steps (world_laws.moves p c.world e node own h.r (theirs (ap (λ (n : ℕ). n == p.sender) same ∙ other))
              (names ∙ ap (λ (n : ℕ). Some (n, own)) same) h.found)

      go : (x : Event) → Spares node x → e ≡ x → Owed (comes p e c)
      go (Commanded by job now) spares is = still (world_laws.others p c.world e node (ap (comes_to node) is))
      go (Delivered to octets now draw) spares is =
          by_node to (receiver.Delivered octets now draw) (ap to_receiver is) (λ f. ap (is_senders p) is ∙ f)
          (λ apart. world_laws.others p c.world e node (ap (comes_to node) is ∙ apart))
          (λ found. record {
            calm = calm;
            r = (receiver_step p h.r (receiver.Delivered octets now draw)).0;
            found = found;
            owed = owing_laws.hears p h.r octets now draw at (same_instance (receiver.Delivered octets now draw) found) h.owed;
            inside = same_instance (receiver.Delivered octets now draw) found ∙ h.inside;
          })
      go (Ticked to now) spares is = still (world_laws.others p c.world e node (ap (comes_to node) is ∙ spares))
      go (Offered to octets) spares is = still (world_laws.others p c.world e node (ap (comes_to node) is))
      go (UpTaken to) spares is =
          by_node to receiver.UpTaken (ap to_receiver is) (λ f. ap (is_senders p) is) (λ apart. world_laws.others p c.world e node (ap (comes_to node) is ∙ apart))
          (λ found. record {
            calm = calm;
            r = (receiver_step p h.r receiver.UpTaken).0;
            found = found;
            owed = owing_laws.takes h.r at h.owed;
            inside = same_instance receiver.UpTaken found ∙ h.inside;
          })
      go NewsAsked spares is = still (world_laws.others p c.world e node (ap (comes_to node) is))

  owed_drawn : (c : Course) (n : ℕ) → Owed c → Owed (record c { used = n })
  owed_drawn c n h = record { calm = draw_calm p (run p events) c n h.calm; r = h.r; found = h.found; owed = h.owed; inside = h.inside }

  -- ---- a member that is listed

  pub record Listed (c : Course) : Type 0 where
    pub calm : IsCalm p (run p events) c
    pub listed : is_listed_past c.world.sender node at ≡ true

  pub listed_on : (e : Event) (c : Course) → ComesInTail c.world e → Listed c → Listed (comes p e c)
  listed_on e c comes_so h = record {
    calm = comes_calm p (run p events) e c comes_so h.calm;
    listed = ap (λ (s : SenderState). is_listed_past s node at) (sender_is p c.world e) ∙ go e comes_so;
  }
    where
      either : (b : Bool) (t : SenderState) → is_listed_past t node at ≡ true → is_listed_past (elim b as (λ _. SenderState) [ true ↦ t | false ↦ c.world.sender ]) node at ≡ true
      either true t k = k
      either false t k = h.listed

      go : (x : Event) → ComesInTail c.world x → is_listed_past (sender_after p c.world.sender x) node at ≡ true
      go (Commanded by job now) comes_so = absurd comes_so
      go (Delivered to octets now draw) comes_so =
          either (to == p.sender) (heard p c.world.sender octets now) (flush_listed.stays p c.world.sender (sender.Delivered octets now) node at tt h.listed)
      go (Ticked to now) comes_so =
          either (to == p.sender) (ticked p c.world.sender now).0 (flush_listed.stays p c.world.sender (sender.Ticked now) node at tt h.listed)
      go (Offered to octets) comes_so = h.listed
      go (UpTaken to) comes_so = h.listed
      go NewsAsked comes_so = flush_listed.stays p c.world.sender sender.NewsAsked node at tt h.listed

  pub listed_drawn : (c : Course) (n : ℕ) → Listed c → Listed (record c { used = n })
  listed_drawn c n h = record { calm = draw_calm p (run p events) c n h.calm; listed = h.listed }

  pub listed_nodes : (c : Course) → Listed c → nodes_of c.world ≡ receivers_of p p.receivers
  listed_nodes c h = h.calm.nodes ∙ world_laws.nodes p events

  -- ---- its turn comes

  same_sender : (c : Course) → IsCalm p (run p events) c → Stays (run p events).sender c.world.sender
  same_sender c calm = subst (λ (v : World). Stays (run p events).sender v.sender) calm.leads (quiet_run_stays p (run p events) (events_of c) calm.quiet)

  module _ (asked : is_asked (run p events).sender at node ≡ true) (draws : ℕ → ℕ) (now : ℕ) where
    few : length (run p events).sender.current.order ≤ 32768
    few =
        let same = ap length (current_order (run p events).sender (after_run p range events may.lawful may.jobs).holds.once.ids) in
        let le = may.few (run p events).sender.current.id in
        omega (arith, same, le)

    -- the sender hears what the member's tick gave
    sender_hears : (c o : Course) (h : Owed c) → IsCalm p (run p events) o → (octets : List ℕ) (due : Position) → h.r.knows.due ≡ Some due → reaches due at ≡ true
        → octets ≡ octets_of (Ack (ack_of p h.r due)) → is_listed_past (heard p o.world.sender octets now) node at ≡ true
    sender_hears c o h calm octets due is further written =
        let on = goes_on p range events may c h.calm in
        let k = after_run p range (events ++ events_of c) on.again.lawful on.again.jobs in
        let there : receiver_at (run p (events ++ events_of c)) node ≡ Some h.r = ap (λ (v : World). receiver_at v node) on.leads ∙ h.found in
        let inside : h.r.instance ≡ Some (run p (events ++ events_of c)).sender.current.id =
        h.inside ∙ ap (λ (n : ℕ). Some n) (sym (same_id p range events may node other c h.calm)) in
        let reads = ack_reads p range k.past k.accepted (run p (events ++ events_of c)) k.holds node h.r there inside due is in
        let stays = same_sender o calm in
        let was = same_sender c h.calm in
        let current : (run p (events ++ events_of c)).sender.current ≡ o.world.sender.current =
        ap (λ (v : World). v.sender.current) on.leads ∙ was.current ∙ sym stays.current in
        let source : is_source (current_shapes p o.world.sender) due ≡ true =
        subst (λ (i : Instance). is_source (shapes_of p i.order) due ≡ true) current reads.source in
        let own : h.r.node ≡ node = world_laws.found c.world node h.r h.found in
        let member : list_any (λ (n : ℕ). n == node) (members o.world.sender) ≡ true =
        ap (list_any (λ (n : ℕ). n == node)) stays.members ∙ member_asked (run p events).sender at node asked in
        let in_it : h.r.instance ≡ Some o.world.sender.current.id = h.inside ∙ ap (λ (i : Instance). Some i.id) (sym stays.current) in
        let many : length o.world.sender.current.order ≤ 32768 =
        (let same = ap (λ (i : Instance). length i.order) stays.current in let le = few in omega (arith, same, le)) in
        let lists = flush_listed.lists p o.world.sender octets now (ack_of p h.r due) due at (ap decoded written ∙ reads.read)
        (ack_is_counted p o.world.sender h.r node due own member in_it) (names_due p o.world.sender h.r due many source) source further in
        ap (λ (n : ℕ). is_listed_past (heard p o.world.sender octets now) n at) (sym own) ∙ lists

    serves_me : (c : Course) → Owed c → Listed (serves p draws now c node)
    serves_me c h0 =
        subst Listed (sym passes_is)
        (subst Listed (sym (ap (fold (copy_comes p draws now ack.octets) offered_c) others_are))
        (subst (λ (d : Course). Listed (fold (copy_comes p draws now ack.octets) d rest)) (sym first_is)
        (copies_keep p draws Listed listed_nodes listed_on listed_drawn now node ack.octets rest rest_apart (tells p heard_c)
        (subst (Gift node ack.octets) first_offered (given_offered p ticked_c.world node ack given))
        (tells_keep p draws Listed listed_nodes listed_on listed_drawn heard_c listed_c))))
      where
        h : Owed (takes p node c)
        h = takes_spare p draws node Owed owed_on owed_drawn node (untaken c.world node) c h0

        says : Says p (takes_spare p draws node Owed owed_on owed_drawn node (untaken c.world node) c h0).r now at
        says = says_due p h.r now at h.owed

        ack : Written
        ack = writes (ack_message p h.r says.due) (says.due.index ∷ [])

        ticked_c : Course
        ticked_c = receiver_ticks p now c node

        offered_c : Course
        offered_c = comes p (Offered node ack.octets) (receiver_ticks p now c node)

        heard_c : Course
        heard_c = comes p (Delivered p.sender ack.octets now 0) offered_c

        rest : List ℕ
        rest = filter (λ (to : ℕ). not (to == node)) (receivers_of p p.receivers)

        apart : (p.sender == node) ≡ false
        apart = go (p.sender == node) refl
          where
            go : (b : Bool) → (p.sender == node) ≡ b → b ≡ false
            go false e = refl
            go true e = absurd (clash (sym other ∙ (Decides-eqb node p.sender).1 (sym ((Decides-eqb p.sender node).0 e))))

        node_not : node ≢ p.sender
        node_not same = clash (sym other ∙ (Decides-eqb node p.sender).1 same)

        given : given_by ticked_c.world node ≡ Some ack
        given = tail_laws.given p (takes p node c).world node now (Some ack)
            (receiver_answer p (takes p node c).world node now h.r other h.found ∙ ap Sent says.sent)

        calm_t : IsCalm p (run p events) ticked_c
        calm_t = comes_calm p (run p events) (Ticked node now) (takes p node c) (all_are_taken p node (untaken c.world node) c refl) h.calm

        calm_o : IsCalm p (run p events) offered_c
        calm_o = comes_calm p (run p events) (Offered node ack.octets) ticked_c (given_may_come ticked_c.world node ack given) calm_t

        calm_h : IsCalm p (run p events) heard_c
        calm_h = comes_calm p (run p events) (Delivered p.sender ack.octets now 0) offered_c
            (offered_may_come offered_c.world node p.sender ack.octets node_not (given_offered p ticked_c.world node ack given)) calm_o

        own : (p.sender == p.sender) ≡ true
        own = (Decides-eqb p.sender p.sender).1 refl

        listed_c : Listed heard_c
        listed_c = record {
          calm = calm_h;
          listed = ap (λ (s : SenderState). is_listed_past s node at)
              (sender_is p offered_c.world (Delivered p.sender ack.octets now 0) ∙ ap (λ (b : Bool). if_own b (heard p offered_c.world.sender ack.octets now) offered_c.world.sender) own)
              ∙ sender_hears (takes p node c) offered_c h calm_o ack.octets says.due says.is says.further refl;
        }

        passes_is : passes_on p draws now ticked_c node ≡ fold (copy_comes p draws now ack.octets) offered_c (others_than p node)
        passes_is = ap (λ (g : Option Written). elim g as (λ _. Course) [
          | Some d ↦ fold (copy_comes p draws now d.octets) (comes p (Offered node d.octets) ticked_c) (others_than p node)
          | None ↦ ticked_c
        ]) given

        others_are : others_than p node ≡ p.sender ∷ rest
        others_are = ap (λ (b : Bool). cond (not b) (p.sender ∷ rest) rest) apart

        rest_apart : AllByRecursion (λ (to : ℕ). node ≢ to) rest
        rest_apart = others_differ node (receivers_of p p.receivers)

        first_is : copy_comes p draws now ack.octets offered_c p.sender ≡ tells p heard_c
        first_is = ap (λ (b : Bool). elim b as (λ _. Course) [
          | true ↦ tells p (comes p (Delivered p.sender ack.octets now 0) offered_c)
          | false ↦ comes p (Delivered p.sender ack.octets now (draws offered_c.used)) (record offered_c { used = offered_c.used + 1 })
        ]) own

        first_offered : offered_c.world.offered ≡ (tells p heard_c).world.offered
        first_offered = sym (copy_offered p draws now ack.octets offered_c p.sender) ∙ ap (λ (d : Course). d.world.offered) first_is

    -- one of some receivers is the member
    all_served_list : (nodes : List ℕ) → (find (λ (to : ℕ). to == node) nodes ≡ None → ⊥) → (c : Course) → Owed c → Listed (fold (serves p draws now) c nodes)
    all_served_list [] has c h = absurd (has refl)
    all_served_list (to ∷ nodes) has c h = go (to == node) refl has (λ more. all_served_list nodes more)
      where
        go : (b : Bool) → (to == node) ≡ b → (cond b (Some to) (find (λ (x : ℕ). x == node) nodes) ≡ None → ⊥)
            → ((find (λ (x : ℕ). x == node) nodes ≡ None → ⊥) → (d : Course) → Owed d → Listed (fold (serves p draws now) d nodes))
            → Listed (fold (serves p draws now) (serves p draws now c to) nodes)
        go true is there more =
            let A : ℕ → Type 0 = λ n. Listed (serves p draws now c n) in
            all_served p draws Listed listed_nodes listed_on listed_drawn now nodes (serves p draws now c to) (subst A (sym ((Decides-eqb to node).0 is)) (serves_me c h))
        go false is there more = more there (serves p draws now c to) (serves_spare p draws node Owed owed_on owed_drawn now c to is h)

-- ---- the turn

-- a part of the order ends with the position of a watermark
handed_part : (p : Settings) → InRange p → (events : List Event) → MayGoOn p events → (now : ℕ) (wm : Watermark) → GivesFlush p now (run p events).sender wm
    → (node : ℕ) (r : ReceiverState) → HandedThrough p (history p events) node (run p events).sender.current.id r wm.at
    → HandedAll p (history p events) node (run p events).sender.current.id r wm.at
handed_part p range events may now wm flush node r through = record {
  there = through.there;
  inside = through.inside;
  ends = subst (λ (w : World). EndsPartOf p (order_of w.sender s.current.id) wm.at) (sym (last_is_run p (world_opening p) events))
      (subst (λ (order : List Entry). EndsPartOf p order wm.at) (sym (current_order s (after_run p range events may.lawful may.jobs).holds.once.ids))
      (oldest_ends p s wm (marks_end p range events may.lawful may.jobs) flush.is_oldest));
  lost = through.lost;
  front = through.front;
}
  where
    s : SenderState
    s = (run p events).sender

pub is_listed : (p : Settings) → InRange p → (events : List Event) → MayGoOn p events → (draws : ℕ → ℕ) (now : ℕ) (wm : Watermark)
    → GivesFlush p now (run p events).sender wm → (node : ℕ) (r : ReceiverState) → is_asked (run p events).sender wm.at node ≡ true
    → receiver_at (run p events) node ≡ Some r → r.instance ≡ Some (run p events).sender.current.id
    → ((now draw : ℕ) → HearsIt p r (flush_command p (run p events).sender wm) wm.at
    → owes (received p r (flush_of p (run p events).sender wm).octets now draw) wm.at ≡ true)
    → is_listed_past (tail_turn p draws now (course_from (run p events))).world.sender node wm.at ≡ true
is_listed p range events may draws now wm flush node r asked found inside owed =
    (all_served_list p range events may node other wm.at asked draws now (receivers_of p p.receivers) there
    (passes_on p draws now (sender_ticks p now (course_from (run p events))) p.sender)
    (passed p range events may draws now (flush_of p (run p events).sender wm) flush.gives node other r found K hears
    (copies_spare p draws node K (owed_on p range events may node other wm.at) (owed_drawn p range events may node other wm.at) now p.sender octets))).listed
  where
    octets : List ℕ
    octets = (flush_of p (run p events).sender wm).octets

    other : (node == p.sender) ≡ false
    other = is_other p (run p events) (world_laws.nodes p events) node r found

    K : Course → Type 0
    K c = Owed p range events may node other wm.at c

    there : find (λ (to : ℕ). to == node) (receivers_of p p.receivers) ≡ None → ⊥
    there none = none_some r (sym (no_receiver node (run p events).receivers (ap (find (λ (n : ℕ). n == node)) (world_laws.nodes p events) ∙ none)) ∙ found)

    says : FlushSays p (run p events).sender (flush_of p (run p events).sender wm).octets (flush_command p (run p events).sender wm) wm.at
    says = flush_says p range events may now wm flush

    hears : (c : Course) → Waits p range events may node other (flush_of p (run p events).sender wm) r c
        → Owed p range events may node other wm.at (comes p (Delivered node (flush_of p (run p events).sender wm).octets now (draws c.used)) (record c { used = c.used + 1 }))
    hears c h = record {
      calm = calm;
      r = received p r octets now (draws c.used);
      found = moved_is;
      owed = owed now (draws c.used) it;
      inside = stays_in p range events may node other next calm r (received p r octets now (draws c.used)) (receiver.Delivered octets now (draws c.used)) moved_is refl inside
          ∙ inside;
    }
      where
        next : Course
        next = comes p (Delivered node (flush_of p (run p events).sender wm).octets now (draws c.used)) (record c { used = c.used + 1 })

        calm : IsCalm p (run p events) (comes p (Delivered node (flush_of p (run p events).sender wm).octets now (draws c.used)) (record c { used = c.used + 1 }))
        calm = calm_then p range events may node other (flush_of p (run p events).sender wm) draws now r c h

        to_is : (os : List ℕ) (n draw : ℕ) → to_receiver (Delivered node os n draw) ≡ Some (node, receiver.Delivered os n draw)
        to_is os n draw = refl

        moved_is : receiver_at (world_step p c.world (Delivered node octets now (draws c.used))).0 node ≡ Some (received p r octets now (draws c.used))
        moved_is = world_laws.moves p c.world (Delivered node octets now (draws c.used)) node (receiver.Delivered octets now (draws c.used)) r other
            (to_is octets now (draws c.used)) h.found

        on : GoesOn p events c
        on = goes_on p range events may c h.calm

        it : HearsIt p r (flush_command p (run p events).sender wm) wm.at
        it = hears_it p range (events ++ events_of c) on.again.lawful on.again.jobs on.again.few node other r
            (ap (λ (v : World). receiver_at v node) on.leads ∙ h.found) octets (flush_command p (run p events).sender wm) wm.at says.read
            (sym (same_id p range events may node other c h.calm)) refl says.small
            (comes_lawfully p range events may node other (flush_of p (run p events).sender wm) draws now r c h)

pub flush_confirmed : FlushConfirmed
flush_confirmed p range events may draws now wm flush node r asked through =
    is_listed p range events may draws now wm gives node r asked (handed_there p events node (run p events).sender.current.id r wm.at handed) handed.inside
    (λ moment draw hears. owes_flush p range events may wm node r asked handed (flush_of p (run p events).sender wm).octets moment draw
    (flush_says p range events may now wm gives).read hears)
  where
    gives : GivesFlush p now (run p events).sender wm
    gives = gives_of p now (run p events).sender wm flush

    handed : HandedAll p (history p events) node (run p events).sender.current.id r wm.at
    handed = handed_part p range events may now wm gives node r through
