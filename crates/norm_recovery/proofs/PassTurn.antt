-- In a turn what the sender's tick gives comes to each receiver, which is until then as it was before the turn.
use Rattle.std.proofs.Common.{◌≡◌, ◌≢◌, ℕ, zero, suc, ◌+◌, cond, List, [], ◌∷◌, ◌++◌, filter, Bool, true, false, Option, None, Some, refl, sym, ap, ◌∙◌, subst, append_assoc, arith, ◌⊎◌, inl, inr}
use Rattle.std.specs.Prelude.{◌==◌, not, find, fold, Contains, IfSome}
use Rattle.std.specs.Fn.{iterate}
use Rattle.std.specs.List.{AllByRecursion}
use Rattle.std.specs.Option.{option_map}
use Rattle.std.proofs.lemmas.Bool.Decides.{Decides-eqb}
use Rattle.std.proofs.lemmas.List.{map-append}
use Rattle.norm_base.specs.Members.{receivers_of, members_of}
use Rattle.norm_base.specs.Settings.{Settings, InRange}
use Rattle.norm_ext.specs.InstanceIds.{rise, is_above}
use Rattle.norm_ext.specs.Written.{Written}
use Rattle.norm_receive_rules.specs.ReceiverState.{ReceiverState}
use Rattle.norm_receive_rules.specs.ReceiverStep.{ReceiverEvent, receiver_step}
use Rattle.norm_receive_rules.specs.ReceiverStep as receiver
use Rattle.norm_receive_rules.proofs.StepLemmas.{step_laws}
use Rattle.norm_send_rules.specs.SenderState.{Instance}
use Rattle.norm_send_rules.specs.SenderStep as sender
use Rattle.norm_send_rules.specs.Ticking.{ticked}
use Rattle.norm_safety.specs.Events.{Event, Commanded, Delivered, Ticked, Offered, UpTaken, NewsAsked, Sent}
use Rattle.norm_safety.specs.Lawful.{LawfulDelivery}
use Rattle.norm_safety.specs.Tail.{Course, course_from, events_of, comes, untold, tells, copy_comes, others_than, given_by, passes_on, sender_ticks}
use Rattle.norm_safety.specs.World.{World, world_opening, receiver_at}
use Rattle.norm_safety.specs.WorldLaws.{is_senders, to_receiver, comes_to, nodes_of}
use Rattle.norm_safety.specs.WorldStep.{node_move, moved, world_step, run_from, run}
use Rattle.norm_safety.proofs.Spoken.{IsBegun, current_begun}
use Rattle.norm_safety.proofs.TailLemmas.{tail_laws}
use Rattle.norm_safety.proofs.WorldLemmas.{world_laws}
use Rattle.norm_laws.proofs.LaterTailLemmas.{not_sender}
use Rattle.norm_laws.proofs.NewOrder.{clash}
use Rattle.norm_laws.proofs.PassingWords.{goes_higher}
use Rattle.norm_recovery.specs.TailKeeps.{Stays}
use Rattle.norm_recovery.specs.TailLawful.{MayGoOn, GoesOn}
use Rattle.norm_recovery.proofs.FlushKnown.{after_run, last_came, no_higher}
use Rattle.norm_recovery.proofs.KeepsSender.{quiet_run_stays}
use Rattle.norm_recovery.proofs.LawfulTail.{goes_on}
use Rattle.norm_recovery.proofs.MembersRun.{none_stays}
use Rattle.norm_recovery.proofs.TailCourses.{IsCalm, comes_calm, begins_calm, draw_calm}
use Rattle.norm_recovery.proofs.TailWalk.{HasOffered, no_receiver, given_may_come, given_itself, offered_may_come, others_differ, own_tick_keeps}

none_some : {X : Type 0} (x : X) → None ≡ Some x → ⊥
none_some x e = cc

same_some : {X : Type 0} (x y : X) → Some x ≡ Some y → x ≡ y
same_some x y e = cc

-- ---- what an event makes of a node's receiver

-- it stays as it is, or takes a step
pub data After (p : Settings) (r t : ReceiverState) : Type 0 where
  Still : t ≡ r → After p r t
  Steps : (own : ReceiverEvent) → t ≡ (receiver_step p r own).0 → After p r t

-- the receiver of a node before and after an event
pub record Before (p : Settings) (w : World) (node : ℕ) (t : ReceiverState) : Type 0 where
  pub r : ReceiverState
  pub found : receiver_at w node ≡ Some r
  pub after : After p r t

pub before : (p : Settings) (w : World) (e : Event) (node : ℕ) → (node == p.sender) ≡ false → (t : ReceiverState)
    → receiver_at (world_step p w e).0 node ≡ Some t → Before p w node t
before p w e node other t is = go (receiver_at w node) refl
  where
    still : (r : ReceiverState) → receiver_at w node ≡ Some r → comes_to node e ≡ false → Before p w node t
    still r found none =
        record { r = r; found = found; after = Still (same_some t r (sym is ∙ world_laws.others p w e node none ∙ found)) }

    steps : (r : ReceiverState) → receiver_at w node ≡ Some r → (own : ReceiverEvent) → is_senders p e ≡ false → to_receiver e ≡ Some (node, own)
        → Before p w node t
    steps r found own theirs to =
        record { r = r; found = found; after = Steps own (same_some t (receiver_step p r own).0 (sym is ∙ world_laws.moves p w e node own r theirs to found)) }

    -- an event that is for one node
    for_one : (r : ReceiverState) → receiver_at w node ≡ Some r → (to : ℕ) (own : ReceiverEvent) → to_receiver e ≡ Some (to, own)
        → ((to == p.sender) ≡ false → is_senders p e ≡ false) → Before p w node t
    for_one r found to own names theirs = by (to == node) refl
      where
        by : (b : Bool) → (to == node) ≡ b → Before p w node t
        by false e' = still r found (ap (λ (o : Option (ℕ × ReceiverEvent)). elim o as (λ _. Bool) [ Some x ↦ x.0 == node | None ↦ false ]) names ∙ e')
        by true e' =
            let same : to ≡ node = (Decides-eqb to node).0 e' in
            steps r found own (theirs (ap (λ (n : ℕ). n == p.sender) same ∙ other)) (names ∙ ap (λ (n : ℕ). Some (n, own)) same)

    by_event : (r : ReceiverState) → receiver_at w node ≡ Some r → (x : Event) → e ≡ x → Before p w node t
    by_event r found (Commanded by job now) same = still r found (ap (comes_to node) same)
    by_event r found (Delivered to octets now draw) same =
        for_one r found to (receiver.Delivered octets now draw) (ap to_receiver same) (λ h. ap (is_senders p) same ∙ h)
    by_event r found (Ticked to now) same = for_one r found to (receiver.Ticked now) (ap to_receiver same) (λ h. ap (is_senders p) same ∙ h)
    by_event r found (Offered to octets) same = still r found (ap (comes_to node) same)
    by_event r found (UpTaken to) same = for_one r found to receiver.UpTaken (ap to_receiver same) (λ h. ap (is_senders p) same)
    by_event r found NewsAsked same = still r found (ap (comes_to node) same)

    go : (found : Option ReceiverState) → receiver_at w node ≡ found → Before p w node t
    go None found = absurd (none_some t (sym (none_stays p w e node found) ∙ is))
    go (Some r) found = by_event r found e refl

-- ---- the tail of a run

module _ (p : Settings) (range : InRange p) (events : List Event) (may : MayGoOn p events) (node : ℕ) (other : (node == p.sender) ≡ false) where
  -- with a calm course the run may go on
  abbrev pub on : (c : Course) → IsCalm p (run p events) c → GoesOn p events c
  on c calm = goes_on p range events may c calm

  pub same_id : (c : Course) → IsCalm p (run p events) c → (run p (events ++ events_of c)).sender.current.id ≡ (run p events).sender.current.id
  same_id c calm =
      let stays : Stays (run p events).sender (run_from p (run p events) (events_of c)).sender = quiet_run_stays p (run p events) (events_of c) calm.quiet in
      ap (λ (v : World). v.sender.current.id) (on c calm).leads ∙ ap (λ (v : World). v.sender.current.id) (sym calm.leads)
      ∙ ap (λ (i : Instance). i.id) stays.current

  -- a receiver in the current instance does not leave it
  pub stays_in : (c : Course) → IsCalm p (run p events) c → (r t : ReceiverState) (own : ReceiverEvent) → receiver_at c.world node ≡ Some t
      → t ≡ (receiver_step p r own).0 → r.instance ≡ Some (run p events).sender.current.id → (receiver_step p r own).0.instance ≡ r.instance
  stays_in c calm r t own found is inside = go (step_laws.instance p r own)
    where
      ev : List Event
      ev = events ++ events_of c

      there : receiver_at (run p (events ++ events_of c)) node ≡ Some t
      there = ap (λ (v : World). receiver_at v node) (on c calm).leads ∙ found

      higher : (next : ℕ) → t.instance ≡ Some next → is_above (run p events).sender.current.id next ≡ true → ⊥
      higher next at_next above =
          let again = (on c calm).again in
          let low = no_higher p range (events ++ events_of c) again.lawful again.jobs node t there next at_next in
          let begun = current_begun p range (run p (events ++ events_of c)).sender (after_run p range (events ++ events_of c) again.lawful again.jobs).holds.sender in
          let lt = goes_higher p (run p events).sender.current.id next (subst (IsBegun p) (same_id c calm) begun) low.begun above in
          let le = low.rises in
          let same = ap (rise p.instance) (same_id c calm) in
          omega (arith, lt, le, same)

      go : ((receiver_step p r own).0.instance ≡ r.instance) ⊎ ((next : ℕ) × ((receiver_step p r own).0.instance ≡ Some next)
          × IfSome r.instance (λ current. is_above current next ≡ true)) → (receiver_step p r own).0.instance ≡ r.instance
      go (inl same) = same
      go (inr (next, there', above)) =
          absurd (higher next (ap (λ (x : ReceiverState). x.instance) is ∙ there')
          (subst (λ (o : Option ℕ). IfSome o (λ current. is_above current next ≡ true)) inside above))

  -- ---- a datagram of the sender's comes to each receiver in turn

  -- the node waits for what the sender offered
  pub record Waits (d : Written) (r : ReceiverState) (c : Course) : Type 0 where
    pub calm : IsCalm p (run p events) c
    pub found : receiver_at c.world node ≡ Some r
    pub offered : Contains c.world.offered (p.sender, d)

  -- the datagram, as it comes with a draw to the node
  module _ (d : Written) (draws : ℕ → ℕ) (now : ℕ) (r : ReceiverState) where
    pub sender_not : (to : ℕ) → (to == p.sender) ≡ false → p.sender ≢ to
    sender_not to e same = clash (sym e ∙ (Decides-eqb to p.sender).1 (sym same))

    -- the datagram comes lawfully, and leaves a tail of the run
    pub calm_then : (c : Course) → Waits d r c
        → IsCalm p (run p events) (comes p (Delivered node d.octets now (draws c.used)) (record c { used = c.used + 1 }))
    calm_then c h =
        comes_calm p (run p events) (Delivered node d.octets now (draws c.used)) (record c { used = c.used + 1 })
        (offered_may_come c.world p.sender node d.octets (sender_not node other) (d, h.offered, refl)) (draw_calm p (run p events) c (c.used + 1) h.calm)

    pub may_then : (c : Course) → Waits d r c → MayGoOn p ((events ++ events_of c) ++ Delivered node d.octets now (draws c.used) ∷ [])
    may_then c h =
        let e : Event = Delivered node d.octets now (draws c.used) in
        let all : events ++ events_of (comes p e (record c { used = c.used + 1 })) ≡ (events ++ events_of c) ++ e ∷ [] =
        ap (λ (more : List Event). events ++ more) (map-append _ c.happened _) ∙ sym (append_assoc events (events_of c) (e ∷ [])) in
        subst (MayGoOn p) all (on (comes p e (record c { used = c.used + 1 })) (calm_then c h)).again

    pub comes_lawfully : (c : Course) → Waits d r c → LawfulDelivery p (run p (events ++ events_of c)) node d.octets
    comes_lawfully c h =
        (last_came p (world_opening p) [] (events ++ events_of c) (Delivered node d.octets now (draws c.used)) (may_then c h).lawful).1

    stays_offered : (c : Course) (to : ℕ) → Waits d r c
        → Contains (world_step p c.world (Delivered to d.octets now (draws c.used))).0.offered (p.sender, d)
    stays_offered c to h =
        subst (λ (os : List (ℕ × Written)). Contains os (p.sender, d)) (sym (world_laws.offered p c.world (Delivered to d.octets now (draws c.used)) refl)) h.offered

    -- a copy to another receiver
    pub passes_by : (c : Course) (to : ℕ) → (to == node) ≡ false → (to == p.sender) ≡ false → Waits d r c
        → Waits d r (comes p (Delivered to d.octets now (draws c.used)) (record c { used = c.used + 1 }))
    passes_by c to apart mine h = record {
      calm = comes_calm p (run p events) (Delivered to d.octets now (draws c.used)) (record c { used = c.used + 1 })
          (offered_may_come c.world p.sender to d.octets (sender_not to mine) (d, h.offered, refl)) (draw_calm p (run p events) c (c.used + 1) h.calm);
      found = world_laws.others p c.world (Delivered to d.octets now (draws c.used)) node apart ∙ h.found;
      offered = stays_offered c to h;
    }

    pub copy_is : (c : Course) (to : ℕ) → (to == p.sender) ≡ false
        → copy_comes p draws now d.octets c to ≡ comes p (Delivered to d.octets now (draws c.used)) (record c { used = c.used + 1 })
    copy_is c to mine = ap (λ (b : Bool). elim b as (λ _. Course) [
      | true ↦ tells p (comes p (Delivered to d.octets now 0) c)
      | false ↦ comes p (Delivered to d.octets now (draws c.used)) (record c { used = c.used + 1 })
    ]) mine

    -- What holds once the node heard it, and is kept by copies to others, holds after copies to nodes of which the node is one.
    pub all_hear : (Kept : Course → Type 0) → ((c : Course) → Waits d r c → Kept (comes p (Delivered node d.octets now (draws c.used)) (record c { used = c.used + 1 })))
        → ((nodes : List ℕ) → AllByRecursion (λ (to : ℕ). p.sender ≢ to) nodes → (c : Course) → HasOffered p.sender d.octets c.world → Kept c
        → Kept (fold (copy_comes p draws now d.octets) c nodes))
        → (nodes : List ℕ) → AllByRecursion (λ (to : ℕ). (to == p.sender) ≡ false) nodes → AllByRecursion (λ (to : ℕ). p.sender ≢ to) nodes
        → (find (λ (to : ℕ). to == node) nodes ≡ None → ⊥) → (c : Course) → Waits d r c → Kept (fold (copy_comes p draws now d.octets) c nodes)
    all_hear Kept hears copies [] mine apart has c h = absurd (has refl)
    all_hear Kept hears copies (to ∷ nodes) mine apart has c h = go (to == node) refl has (λ more. all_hear Kept hears copies nodes mine.1 apart.1 more)
      where
        go : (b : Bool) → (to == node) ≡ b → (cond b (Some to) (find (λ (x : ℕ). x == node) nodes) ≡ None → ⊥)
            → ((find (λ (x : ℕ). x == node) nodes ≡ None → ⊥) → (v : Course) → Waits d r v → Kept (fold (copy_comes p draws now d.octets) v nodes))
            → Kept (fold (copy_comes p draws now d.octets) (copy_comes p draws now d.octets c to) nodes)
        go true is there more =
            let next : Course = comes p (Delivered to d.octets now (draws c.used)) (record c { used = c.used + 1 }) in
            let A : ℕ → Type 0 = λ n. Kept (comes p (Delivered n d.octets now (draws c.used)) (record c { used = c.used + 1 })) in
            let heard : Kept next = subst A (sym ((Decides-eqb to node).0 is)) (hears c h) in
            let off : HasOffered p.sender d.octets next.world = (d, stays_offered c to h, refl) in
            subst (λ (v : Course). Kept (fold (copy_comes p draws now d.octets) v nodes)) (sym (copy_is c to mine.0)) (copies nodes apart.1 next off heard)
        go false is there more =
            subst (λ (v : Course). Kept (fold (copy_comes p draws now d.octets) v nodes)) (sym (copy_is c to mine.0))
            (more there (comes p (Delivered to d.octets now (draws c.used)) (record c { used = c.used + 1 })) (passes_by c to is mine.0 h))

-- ---- the turn

-- news leave the receivers and what was given
pub news_leave : (p : Settings) (n node : ℕ) (c : Course) → (receiver_at (iterate (comes p NewsAsked) n c).world node ≡ receiver_at c.world node)
    × ((iterate (comes p NewsAsked) n c).world.given ≡ c.world.given)
news_leave p zero node c = (refl, refl)
news_leave p (suc n) node c =
    let rest = news_leave p n node (comes p NewsAsked c) in
    (rest.0 ∙ world_laws.others p c.world NewsAsked node refl, rest.1)

-- the sender's tick answers with its datagram, and leaves the receivers
pub own_answer : (p : Settings) (w : World) (now : ℕ) → (world_step p w (Ticked p.sender now)).1 ≡ Sent (ticked p w.sender now).1
own_answer p w now = ap (λ (b : Bool). (moved p w (node_move b (receiver_at w p.sender) (sender.Ticked now) (receiver.Ticked now))).1) own ∙ refl
  where
    own : (p.sender == p.sender) ≡ true
    own = (Decides-eqb p.sender p.sender).1 refl

-- other nodes than the sender are those that are left without it
pub still_there : (p : Settings) (node : ℕ) → (node == p.sender) ≡ false → (nodes : List ℕ)
    → find (λ (to : ℕ). to == node) (filter (λ (to : ℕ). not (to == p.sender)) nodes) ≡ None → find (λ (to : ℕ). to == node) nodes ≡ None
still_there p node other [] e = refl
still_there p node other (x ∷ nodes) e = go (x == p.sender) (x == node) refl refl e (still_there p node other nodes)
  where
    left : List ℕ
    left = filter (λ (to : ℕ). not (to == p.sender)) nodes

    go : (a b : Bool) → (x == p.sender) ≡ a → (x == node) ≡ b → find (λ (to : ℕ). to == node) (cond (not a) (x ∷ left) left) ≡ None
        → (find (λ (to : ℕ). to == node) left ≡ None → find (λ (to : ℕ). to == node) nodes ≡ None)
        → cond b (Some x) (find (λ (to : ℕ). to == node) nodes) ≡ None
    go true true mine is none more =
        absurd (clash (sym other ∙ ap (λ (n : ℕ). n == p.sender) (sym ((Decides-eqb x node).0 is)) ∙ mine))
    go true false mine is none more = more none
    go false true mine is none more = absurd (none_some x (sym none ∙ ap (λ (c : Bool). cond c (Some x) (find (λ (to : ℕ). to == node) left)) is))
    go false false mine is none more = more (ap (λ (c : Bool). cond c (Some x) (find (λ (to : ℕ). to == node) left)) (sym is) ∙ none)

-- nobody but the sender is left out
pub others_mine : (p : Settings) (nodes : List ℕ) → AllByRecursion (λ (to : ℕ). (to == p.sender) ≡ false) (filter (λ (to : ℕ). not (to == p.sender)) nodes)
others_mine p [] = tt
others_mine p (x ∷ nodes) = go (x == p.sender) refl (others_mine p nodes)
  where
    go : (b : Bool) → (x == p.sender) ≡ b → AllByRecursion (λ (to : ℕ). (to == p.sender) ≡ false) (filter (λ (to : ℕ). not (to == p.sender)) nodes)
        → AllByRecursion (λ (to : ℕ). (to == p.sender) ≡ false) (cond (not b) (x ∷ filter (λ (to : ℕ). not (to == p.sender)) nodes) (filter (λ (to : ℕ). not (to == p.sender)) nodes))
    go true e more = more
    go false e more = (e, more)

-- a receiver that is there is another node than the sender
pub is_other : (p : Settings) (w : World) → nodes_of w ≡ receivers_of p p.receivers → (node : ℕ) (r : ReceiverState) → receiver_at w node ≡ Some r
    → (node == p.sender) ≡ false
is_other p w nodes node r found = go (node == p.sender) refl
  where
    in_list : (xs : List ℕ) → AllByRecursion (λ (to : ℕ). (to == p.sender) ≡ false) xs → node ≡ p.sender → find (λ (to : ℕ). to == node) xs ≡ None
    in_list [] all same = refl
    in_list (x ∷ xs) all same =
        ap (λ (c : Bool). cond c (Some x) (find (λ (to : ℕ). to == node) xs)) (ap (λ (n : ℕ). x == n) same ∙ all.0) ∙ in_list xs all.1 same

    go : (b : Bool) → (node == p.sender) ≡ b → b ≡ false
    go false e = refl
    go true e =
        let same : node ≡ p.sender = (Decides-eqb node p.sender).0 e in
        let none = no_receiver node w.receivers (ap (find (λ (n : ℕ). n == node)) nodes ∙ in_list (receivers_of p p.receivers) (not_sender p p.receivers) same) in
        absurd (none_some r (sym none ∙ found))

-- a node with a receiver is among the others
pub is_there : (p : Settings) (w : World) → nodes_of w ≡ receivers_of p p.receivers → (node : ℕ) → (node == p.sender) ≡ false → (r : ReceiverState)
    → receiver_at w node ≡ Some r → find (λ (to : ℕ). to == node) (others_than p p.sender) ≡ None → ⊥
is_there p w nodes node other r found none = by (p.sender == node) (still_there p node other (members_of p) none)
  where
    by : (b : Bool) → cond b (Some p.sender) (find (λ (to : ℕ). to == node) (receivers_of p p.receivers)) ≡ None → ⊥
    by true e = none_some p.sender (sym e)
    by false e = none_some r (sym (no_receiver node w.receivers (ap (find (λ (n : ℕ). n == node)) nodes ∙ e)) ∙ found)

-- What holds once a node heard what the sender's tick gave, and is kept by copies to others, holds after that was passed on.
pub passed : (p : Settings) (range : InRange p) (events : List Event) (may : MayGoOn p events) (draws : ℕ → ℕ) (now : ℕ) (d : Written)
    → (ticked p (run p events).sender now).1 ≡ Some d → (node : ℕ) (other : (node == p.sender) ≡ false) (r : ReceiverState)
    → receiver_at (run p events) node ≡ Some r → (Kept : Course → Type 0)
    → ((c : Course) → Waits p range events may node other d r c
    → Kept (comes p (Delivered node d.octets now (draws c.used)) (record c { used = c.used + 1 })))
    → ((nodes : List ℕ) → AllByRecursion (λ (to : ℕ). p.sender ≢ to) nodes → (c : Course) → HasOffered p.sender d.octets c.world → Kept c
    → Kept (fold (copy_comes p draws now d.octets) c nodes))
    → Kept (passes_on p draws now (sender_ticks p now (course_from (run p events))) p.sender)
passed p range events may draws now d gives node other r found Kept hears copies =
    subst Kept (sym passes_is)
    (all_hear p range events may node other d draws now r Kept hears copies (others_than p p.sender) (others_mine p (members_of p))
    (others_differ p.sender (members_of p)) (is_there p (run p events) (world_laws.nodes p events) node other r found) c2 waits)
  where
    ticks : Course
    ticks = comes p (Ticked p.sender now) (course_from (run p events))

    c1 : Course
    c1 = sender_ticks p now (course_from (run p events))

    c2 : Course
    c2 = comes p (Offered p.sender d.octets) (sender_ticks p now (course_from (run p events)))

    calm1 : IsCalm p (run p events) (sender_ticks p now (course_from (run p events)))
    calm1 = own_tick_keeps p draws (IsCalm p (run p events)) (λ c h. h.nodes ∙ world_laws.nodes p events) (comes_calm p (run p events)) (draw_calm p (run p events)) now
        (course_from (run p events)) (begins_calm p (run p events))

    leave : (receiver_at (sender_ticks p now (course_from (run p events))).world node ≡ receiver_at (comes p (Ticked p.sender now) (course_from (run p events))).world node)
        × ((sender_ticks p now (course_from (run p events))).world.given ≡ (comes p (Ticked p.sender now) (course_from (run p events))).world.given)
    leave = news_leave p (untold ticks.world.sender) node ticks

    given1 : given_by (sender_ticks p now (course_from (run p events))).world p.sender ≡ Some d
    given1 = ap (λ (gifts : List (ℕ × Written)). option_map (λ (g : ℕ × Written). g.1) (find (λ (g : ℕ × Written). g.0 == p.sender) gifts)) leave.1
        ∙ tail_laws.given p (run p events) p.sender now (Some d) (own_answer p (run p events) now ∙ ap Sent gives)

    found1 : receiver_at (sender_ticks p now (course_from (run p events))).world node ≡ Some r
    found1 = leave.0
        ∙ ap (find (λ (x : ReceiverState). x.node == node)) (world_laws.receivers p (run p events) (Ticked p.sender now) ((Decides-eqb p.sender p.sender).1 refl))
        ∙ found

    waits : Waits p range events may node other d r c2
    waits = record {
      calm = comes_calm p (run p events) (Offered p.sender d.octets) c1 (given_may_come c1.world p.sender d given1) calm1;
      found = world_laws.others p c1.world (Offered p.sender d.octets) node refl ∙ found1;
      offered = given_itself p c1.world p.sender d given1;
    }

    passes_is : passes_on p draws now (sender_ticks p now (course_from (run p events))) p.sender
        ≡ fold (copy_comes p draws now d.octets) c2 (others_than p p.sender)
    passes_is = ap (λ (g : Option Written). elim g as (λ _. Course) [
      | Some x ↦ fold (copy_comes p draws now x.octets) (comes p (Offered p.sender x.octets) (sender_ticks p now (course_from (run p events)))) (others_than p p.sender)
      | None ↦ sender_ticks p now (course_from (run p events))
    ]) given1
