-- Over a turn that closes no round, or one in vain, a member that backs off stays clean.
use Rattle.std.proofs.Common.{◌≡◌, ◌≢◌, ℕ, zero, suc, ◌+◌, ◌≤◌, cond, List, [], ◌∷◌, ◌++◌, length, Bool, true, false, Option, None, Some, refl, sym, ap, ◌∙◌, subst, arith, ◌⊎◌, inl, inr}
use Rattle.std.specs.Prelude.{Contains, ◌==◌, find, fold, Ok}
use Rattle.std.specs.Fn.{iterate}
use Rattle.std.specs.List.{AllByRecursion}
use Rattle.std.specs.Option.{option_map}
use Rattle.std.proofs.lemmas.Bool.Decides.{Decides-eqb}
use Rattle.norm_base.specs.Members.{receivers_of, members_of}
use Rattle.norm_base.specs.Settings.{Settings, InRange}
use Rattle.norm_ext.specs.Message.{Message, Info, Data, Flush, Squelch, Eot, RepairAdv, AckReq, Opaque, Nack, Ack, Report}
use Rattle.norm_ext.specs.Reading.{decoded}
use Rattle.norm_ext.specs.Written.{Written}
use Rattle.norm_receive_rules.specs.Leaving.{is_in}
use Rattle.norm_receive_rules.specs.ReceiverState.{ReceiverState}
use Rattle.norm_receive_rules.specs.ReceiverStep.{ReceiverEvent, receiver_step}
use Rattle.norm_receive_rules.specs.ReceiverStep as receiver
use Rattle.norm_receive_rules.specs.Receiving.{received}
use Rattle.norm_send_rules.specs.SenderState.{SenderState, Instance}
use Rattle.norm_send_rules.specs.Ticking.{ticked}
use Rattle.norm_safety.specs.Events.{Event, Delivered, Ticked, Offered, UpTaken}
use Rattle.norm_safety.specs.Tail.{Course, course_from, events_of, comes, untold, tells, untaken, takes, copy_comes, others_than, given_by, passes_on, sender_ticks, serves, tail_turn}
use Rattle.norm_safety.specs.World.{World, receiver_at}
use Rattle.norm_safety.specs.WorldLaws.{is_senders, to_receiver, comes_to}
use Rattle.norm_safety.specs.WorldStep.{world_step, run}
use Rattle.norm_safety.proofs.TailLemmas.{tail_laws}
use Rattle.norm_safety.proofs.WorldLemmas.{world_laws}
use Rattle.norm_laws.proofs.LaterTailLemmas.{Quiet, not_sender}
use Rattle.norm_recovery.specs.Clean.{is_clean_from, CleanStays}
use Rattle.norm_recovery.specs.MembersEnter.{IsOwnMessage, IsOwn}
use Rattle.norm_recovery.specs.TailKeeps.{Stays}
use Rattle.norm_recovery.specs.TailLawful.{MayGoOn, GoesOn}
use Rattle.norm_recovery.specs.TailOf.{ComesInTail}
use Rattle.norm_recovery.proofs.AsksOn.{event_on}
use Rattle.norm_recovery.proofs.CleanHears.{feed_clean}
use Rattle.norm_recovery.proofs.CleanSteps.{sender_clean, keeps_clean, next_clean, tick_clean}
use Rattle.norm_recovery.proofs.ClosingLists.{In}
use Rattle.norm_recovery.proofs.FeedRead.{Feed, Joined}
use Rattle.norm_recovery.proofs.HeardSteps.{Keeps, IsPlain, next_hears, tick_keeps, has_heard}
use Rattle.norm_recovery.proofs.KeepsSender.{quiet_run_stays}
use Rattle.norm_recovery.proofs.LawfulTail.{goes_on}
use Rattle.norm_recovery.proofs.LeftStays.{had_stays}
use Rattle.norm_recovery.proofs.LowRun.{low_known}
use Rattle.norm_recovery.proofs.MembersEnter.{members_enter, enters_in_run}
use Rattle.norm_recovery.proofs.MembersRun.{none_stays}
use Rattle.norm_recovery.proofs.NackAsks.{few_here}
use Rattle.norm_recovery.proofs.PassTurn.{news_leave, own_answer, is_other, others_mine}
use Rattle.norm_recovery.proofs.RunsOutTail.{own_tick}
use Rattle.norm_recovery.proofs.ServeWalk.{KeptServing, news_rest, gave_passes, has_receiver, serves_other}
use Rattle.norm_recovery.proofs.TailCourses.{IsCalm, comes_calm, begins_calm, draw_calm}
use Rattle.norm_recovery.proofs.TailWalk.{all_are_taken, no_receiver, sender_takes_none, given_may_come, given_itself, offered_may_come, others_differ}

none_some : {X : Type 0} (x : X) → None ≡ Some x → ⊥
none_some x e = cc

same_some : {X : Type 0} (x y : X) → Some x ≡ Some y → x ≡ y
same_some x y e = cc

-- ---- a member along a turn

module _ (p : Settings) (range : InRange p) (events : List Event) (may : MayGoOn p events) (node : ℕ) (other : (node == p.sender) ≡ false) (late : ℕ) where
  -- its receiver does not back off, or only up to a moment, or is clean
  pub record Clean (c : Course) : Type 0 where
    pub calm : IsCalm p (run p events) c
    pub clean : (t : ReceiverState) → receiver_at c.world node ≡ Some t → is_clean_from late p c.world.sender t ≡ true

  pub clean_rests : (e : Event) (c : Course) → ComesInTail c.world e → Quiet p e → comes_to node e ≡ false → Clean c → Clean (comes p e c)
  clean_rests e c may_come quiet apart h = record {
    calm = comes_calm p (run p events) e c may_come h.calm;
    clean = λ t is. sender_clean p late c.world.sender (world_step p c.world e).0.sender t (event_on p c.world e quiet)
        (h.clean t (sym (world_laws.others p c.world e node apart) ∙ is));
  }

  pub clean_drawn : (c : Course) (n : ℕ) → Clean c → Clean (record c { used = n })
  clean_drawn c n h = record { calm = draw_calm p (run p events) c n h.calm; clean = h.clean }

  -- an event of the receiver's own
  own_step : (e : Event) (c : Course) (own : ReceiverEvent) → ComesInTail c.world e → is_senders p e ≡ false → to_receiver e ≡ Some (node, own)
      → ((r : ReceiverState) → receiver_at c.world node ≡ Some r → is_clean_from late p c.world.sender r ≡ true
      → is_clean_from late p c.world.sender (receiver_step p r own).0 ≡ true) → Clean c → Clean (comes p e c)
  own_step e c own may_come theirs to steps h = record { calm = comes_calm p (run p events) e c may_come h.calm; clean = λ t is. go t is (receiver_at c.world node) refl }
    where
      go : (t : ReceiverState) → receiver_at (world_step p c.world e).0 node ≡ Some t → (found : Option ReceiverState) → receiver_at c.world node ≡ found
          → is_clean_from late p (world_step p c.world e).0.sender t ≡ true
      go t is None none = absurd (none_some t (sym (none_stays p c.world e node none) ∙ is))
      go t is (Some r) found =
          subst (λ (x : ReceiverState). is_clean_from late p (world_step p c.world e).0.sender x ≡ true)
          (same_some (receiver_step p r own).0 t (sym (world_laws.moves p c.world e node own r theirs to found) ∙ is))
          (subst (λ (s : SenderState). is_clean_from late p s (receiver_step p r own).0 ≡ true) (sym (world_laws.sender p c.world e theirs))
          (steps r found (h.clean r found)))

  -- what it is in, it stays in
  inside_on : (id : ℕ) (r t : ReceiverState) → Keeps r t → is_in r id ≡ true → is_in t id ≡ true
  inside_on id r t k e = ap (λ (o : Option ℕ). elim o as (λ _. Bool) [ Some current ↦ current == id | None ↦ false ]) k.instance ∙ e

  keeps_step : (s : SenderState) (r : ReceiverState) (own : ReceiverEvent) → Keeps r (receiver_step p r own).0 → is_clean_from late p s r ≡ true
      → is_clean_from late p s (receiver_step p r own).0 ≡ true
  keeps_step s r own k e =
      keeps_clean p late s r (receiver_step p r own).0 k (λ y had. had_stays [] p s r own y (inside_on s.current.id r (receiver_step p r own).0 k) had) e

  pub takes_own : (n : ℕ) (c : Course) → Clean c → Clean (iterate (comes p (UpTaken node)) n c)
  takes_own zero c h = h
  takes_own (suc n) c h =
      takes_own n (comes p (UpTaken node) c)
      (own_step (UpTaken node) c receiver.UpTaken tt refl refl
      (λ r found e. keeps_step c.world.sender r receiver.UpTaken (record { heard = refl; instance = refl; backoff = inl refl }) e) h)

  -- ---- the receivers are served

  module _ (draws : ℕ → ℕ) (now : ℕ) where
    pub hears_feed : (c : Course) (d : Written) (f : Feed p d) (draw : ℕ) → ComesInTail c.world (Delivered node d.octets now draw) → Joined p d f c.world.sender
        → Clean c → Clean (comes p (Delivered node d.octets now draw) c)
    hears_feed c d f draw may_come joined h =
        own_step (Delivered node d.octets now draw) c (receiver.Delivered d.octets now draw) may_come other refl
        (λ r found e. hears r (ap (λ (v : World). receiver_at v node) on.leads ∙ found) e) h
      where
        on : GoesOn p events c
        on = goes_on p range events may c h.calm

        hears : (r : ReceiverState) → receiver_at (run p (events ++ events_of c)) node ≡ Some r → is_clean_from late p c.world.sender r ≡ true
            → is_clean_from late p c.world.sender (received p r d.octets now draw) ≡ true
        hears r there e =
            let few : length c.world.sender.current.order ≤ 32768 =
            subst (λ (v : World). length v.sender.current.order ≤ 32768) on.leads (few_here p range (events ++ events_of c) on.again node r there) in
            feed_clean p late c.world.sender r (has_heard p (events ++ events_of c) node r other there)
            (low_known p range (events ++ events_of c) on.again node r other there).known (omega (arith, few)) d f joined now draw e

    pub kept : KeptServing p (run p events) node now Clean
    kept = record { calm = λ c h. h.calm; rests = clean_rests; drawn = clean_drawn; hears = hears_feed }

    serves_me : (r : ReceiverState) → receiver_at (run p events) node ≡ Some r → (c : Course) → Clean c → Clean (serves p draws now c node)
    serves_me r0 found0 c h =
        gave_passes p range events may node other draws now Clean kept node other (takes p node c) who.0 taken.calm who.1
        (own_step (Ticked node now) (takes p node c) (receiver.Ticked now) (all_are_taken p node (untaken c.world node) c refl) other refl
        (λ r found e. keeps_step (takes p node c).world.sender r (receiver.Ticked now) (tick_keeps p r now) e) taken)
      where
        taken : Clean (takes p node c)
        taken = takes_own (untaken c.world node) c h

        who : (r : ReceiverState) × (receiver_at (takes p node c).world node ≡ Some r)
        who = has_receiver p range events may node other draws now Clean kept (takes p node c) taken.calm node
            (λ none. none_some r0 (sym (no_receiver node (run p events).receivers (ap (find (λ (n : ℕ). n == node)) (world_laws.nodes p events) ∙ none)) ∙ found0))

    served_list : (r : ReceiverState) → receiver_at (run p events) node ≡ Some r → (nodes : List ℕ) → AllByRecursion (λ (q : ℕ). (q == p.sender) ≡ false) nodes
        → AllByRecursion (λ (q : ℕ). find (λ (to : ℕ). to == q) (receivers_of p p.receivers) ≡ None → ⊥) nodes → (c : Course) → Clean c
        → Clean (fold (serves p draws now) c nodes)
    served_list r found [] apart there c h = h
    served_list r found (q ∷ nodes) apart there c h = served_list r found nodes apart.1 there.1 (serves p draws now c q) (go (q == node) refl)
      where
        go : (b : Bool) → (q == node) ≡ b → Clean (serves p draws now c q)
        go true e = let A : ℕ → Type 0 = λ n. Clean (serves p draws now c n) in subst A (sym ((Decides-eqb q node).0 e)) (serves_me r found c h)
        go false e = serves_other p range events may node other draws now Clean kept q apart.0 e there.0 c h

    -- ---- what the sender's tick gave is heard

    module _ (d : Written) (own : IsOwn p (run p events).sender.current.id d) where
      plain : IsPlain (decoded d.octets)
      plain = subst IsPlain (sym own.read) (by d.message own.message)
        where
          by : (m : Message) → IsOwnMessage p (run p events).sender.current.id m → IsPlain (Ok m)
          by (Info m) is = tt
          by (Data m) is = tt
          by (Flush m) is = tt
          by (Squelch m) is = tt
          by (Eot m) is = tt
          by (RepairAdv m) is = is
          by (AckReq m) is = tt
          by (Opaque m) is = tt
          by (Nack m) is = is
          by (Ack m) is = tt
          by (Report m) is = tt

      record Passed (c : Course) : Type 0 where
        kept : Clean c
        offered : Contains c.world.offered (p.sender, d)

      hears_own : (c : Course) → Passed c → (draw : ℕ) → ComesInTail c.world (Delivered node d.octets now draw) → Clean (comes p (Delivered node d.octets now draw) c)
      hears_own c h draw may_come =
          own_step (Delivered node d.octets now draw) c (receiver.Delivered d.octets now draw) may_come other refl
          (λ r found e. next_clean p late c.world.sender r (received p r d.octets now draw) (next_hears p now draw (decoded d.octets) plain r)
          (λ y had. had_stays [] p c.world.sender r (receiver.Delivered d.octets now draw) y (λ within. inside r found) had) (inside r found) e) h.kept
        where
          on : GoesOn p events c
          on = goes_on p range events may c h.kept.calm

          stays : Stays (run p events).sender c.world.sender
          stays = subst (λ (v : World). Stays (run p events).sender v.sender) h.kept.calm.leads
              (quiet_run_stays p (run p events) (events_of c) h.kept.calm.quiet)

          own_there : IsOwn p (run p (events ++ events_of c)).sender.current.id d
          own_there =
              subst (λ (v : World). IsOwn p v.sender.current.id d) (sym on.leads) (subst (λ (i : Instance). IsOwn p i.id d) (sym stays.current) own)

          inside : (r : ReceiverState) → receiver_at c.world node ≡ Some r → is_in (received p r d.octets now draw) c.world.sender.current.id ≡ true
          inside r found =
              subst (λ (v : World). is_in (received p r d.octets now draw) v.sender.current.id ≡ true) on.leads
              (enters_in_run p range (events ++ events_of c) on.again.lawful on.again.jobs on.again.few p.sender d
              (subst (λ (v : World). Contains v.offered (p.sender, d)) (sym on.leads) h.offered) own_there node r
              (ap (λ (v : World). receiver_at v node) on.leads ∙ found) now draw)

      copy_passed : (to : ℕ) → (to == p.sender) ≡ false → p.sender ≢ to → (c : Course) → Passed c → Passed (copy_comes p draws now d.octets c to)
      copy_passed to mine apart c h =
          subst Passed (sym (ap (λ (b : Bool). elim b as (λ _. Course) [
            | true ↦ tells p (comes p (Delivered to d.octets now 0) c)
            | false ↦ comes p (Delivered to d.octets now (draws c.used)) (record c { used = c.used + 1 })
          ]) mine)) (record { kept = go (to == node) refl; offered = subst (λ (os : List (ℕ × Written)). Contains os (p.sender, d)) (sym same) h.offered })
        where
          v : Course
          v = record c { used = c.used + 1 }

          comes_so : ComesInTail c.world (Delivered to d.octets now (draws c.used))
          comes_so = offered_may_come c.world p.sender to d.octets apart (d, h.offered, refl)

          same : (world_step p c.world (Delivered to d.octets now (draws c.used))).0.offered ≡ c.world.offered
          same = world_laws.offered p c.world (Delivered to d.octets now (draws c.used)) refl

          go : (b : Bool) → (to == node) ≡ b → Clean (comes p (Delivered to d.octets now (draws c.used)) v)
          go false e = clean_rests (Delivered to d.octets now (draws c.used)) v comes_so tt e (clean_drawn c (c.used + 1) h.kept)
          go true e =
              let A : ℕ → Type 0 = λ n. ComesInTail c.world (Delivered n d.octets now (draws c.used)) → Clean (comes p (Delivered n d.octets now (draws c.used)) v) in
              subst A (sym ((Decides-eqb to node).0 e))
              (λ may_come. hears_own v (record { kept = clean_drawn c (c.used + 1) h.kept; offered = h.offered }) (draws c.used) may_come) comes_so

      copies_passed : (nodes : List ℕ) → AllByRecursion (λ (to : ℕ). (to == p.sender) ≡ false) nodes → AllByRecursion (λ (to : ℕ). p.sender ≢ to) nodes → (c : Course)
          → Passed c → Passed (fold (copy_comes p draws now d.octets) c nodes)
      copies_passed [] mine apart c h = h
      copies_passed (to ∷ nodes) mine apart c h =
          copies_passed nodes mine.1 apart.1 (copy_comes p draws now d.octets c to) (copy_passed to mine.0 apart.0 c h)

    passes_own : (c : Course) (given : Option Written) → given_by c.world p.sender ≡ given
        → ((d : Written) → given ≡ Some d → IsOwn p (run p events).sender.current.id d) → Clean c → Clean (passes_on p draws now c p.sender)
    passes_own c None is own h = subst Clean (sym (ap (λ (g : Option Written). elim g as (λ _. Course) [
      | Some x ↦ fold (copy_comes p draws now x.octets) (comes p (Offered p.sender x.octets) c) (others_than p p.sender)
      | None ↦ c
    ]) is)) h
    passes_own c (Some d) is own h = subst Clean (sym (ap (λ (g : Option Written). elim g as (λ _. Course) [
      | Some x ↦ fold (copy_comes p draws now x.octets) (comes p (Offered p.sender x.octets) c) (others_than p p.sender)
      | None ↦ c
    ]) is))
        (copies_passed d (own d refl) (others_than p p.sender) (others_mine p (members_of p)) (others_differ p.sender (members_of p)) (comes p (Offered p.sender d.octets) c)
        (record {
          kept = clean_rests (Offered p.sender d.octets) c (given_may_come c.world p.sender d is) tt refl h;
          offered = given_itself p c.world p.sender d is;
        })).kept

-- ---- the turn

-- each receiver is there
found_in : (q : ℕ) (xs : List ℕ) → In q xs → find (λ (to : ℕ). to == q) xs ≡ None → ⊥
found_in q [] h e = h
found_in q (x ∷ xs) h e = go h e (λ more. found_in q xs more)
  where
    go : (q ≡ x) ⊎ In q xs → find (λ (to : ℕ). to == q) (x ∷ xs) ≡ None → (In q xs → find (λ (to : ℕ). to == q) xs ≡ None → ⊥) → ⊥
    go (inl same) f more = none_some x (sym f ∙ ap (λ (b : Bool). cond b (Some x) (find (λ (to : ℕ). to == q) xs)) ((Decides-eqb x q).1 (sym same)))
    go (inr there) f more = by (x == q) f
      where
        by : (b : Bool) → cond b (Some x) (find (λ (to : ℕ). to == q) xs) ≡ None → ⊥
        by true g = none_some x (sym g)
        by false g = more there g

pub each_there : (all : List ℕ) → AllByRecursion (λ (q : ℕ). find (λ (to : ℕ). to == q) all ≡ None → ⊥) all
each_there all = go all (λ q h. h)
  where
    go : (xs : List ℕ) → ((q : ℕ) → In q xs → In q all) → AllByRecursion (λ (q : ℕ). find (λ (to : ℕ). to == q) all ≡ None → ⊥) xs
    go [] within = tt
    go (x ∷ xs) within = (found_in x all (within x (inl refl)), go xs (λ q h. within q (inr h)))

-- after the sender's datagram was passed on
pub clean_passed : (p : Settings) (range : InRange p) (events : List Event) (may : MayGoOn p events) (draws : ℕ → ℕ) (now late : ℕ) (node : ℕ)
    (other : (node == p.sender) ≡ false) (r : ReceiverState) → receiver_at (run p events) node ≡ Some r
    → is_clean_from late p (ticked p (run p events).sender now).0 r ≡ true
    → Clean p range events may node other late (passes_on p draws now (sender_ticks p now (course_from (run p events))) p.sender)
clean_passed p range events may draws now late node other r found clean =
    passes_own p range events may node other late draws now (sender_ticks p now (course_from (run p events))) (ticked p s now).1 given
    (λ d gives. members_enter.own p range events may.lawful may.jobs now d gives) told
  where
    s : SenderState
    s = (run p events).sender

    ticks : Course
    ticks = comes p (Ticked p.sender now) (course_from (run p events))

    after_tick : Clean p range events may node other late ticks
    after_tick = record {
      calm = comes_calm p (run p events) (Ticked p.sender now) (course_from (run p events)) (sender_takes_none p (run p events) (world_laws.nodes p events))
          (begins_calm p (run p events));
      clean = λ x there.
          subst (λ (u : SenderState). is_clean_from late p u x ≡ true) (sym (own_tick p (run p events) now))
          (subst (λ (x : ReceiverState). is_clean_from late p (ticked p s now).0 x ≡ true) (same_some r x (sym found ∙ sym still ∙ there)) clean);
    }
      where
        still : receiver_at ticks.world node ≡ receiver_at (run p events) node
        still = ap (find (λ (x : ReceiverState). x.node == node)) (world_laws.receivers p (run p events) (Ticked p.sender now) ((Decides-eqb p.sender p.sender).1 refl))

    told : Clean p range events may node other late (sender_ticks p now (course_from (run p events)))
    told = news_rest p range events may node other draws now (Clean p range events may node other late) (kept p range events may node other late draws now)
        (untold ticks.world.sender) ticks after_tick

    given : given_by (sender_ticks p now (course_from (run p events))).world p.sender ≡ (ticked p s now).1
    given = ap (λ (gifts : List (ℕ × Written)). option_map (λ (g : ℕ × Written). g.1) (find (λ (g : ℕ × Written). g.0 == p.sender) gifts))
        (news_leave p (untold ticks.world.sender) node ticks).1
        ∙ tail_laws.given p (run p events) p.sender now (ticked p s now).1 (own_answer p (run p events) now)

-- after the turn of a tick that leaves it so
pub clean_turn : (p : Settings) → InRange p → (events : List Event) → MayGoOn p events → (draws : ℕ → ℕ) (now late : ℕ) (node : ℕ) (r t : ReceiverState)
    → receiver_at (run p events) node ≡ Some r → is_clean_from late p (ticked p (run p events).sender now).0 r ≡ true
    → receiver_at (tail_turn p draws now (course_from (run p events))).world node ≡ Some t
    → is_clean_from late p (tail_turn p draws now (course_from (run p events))).world.sender t ≡ true
clean_turn p range events may draws now late node r t found clean is =
    (served_list p range events may node other late draws now r found (receivers_of p p.receivers) (not_sender p p.receivers) (each_there (receivers_of p p.receivers))
    (passes_on p draws now (sender_ticks p now (course_from (run p events))) p.sender)
    (clean_passed p range events may draws now late node other r found clean)).clean t is
  where
    other : (node == p.sender) ≡ false
    other = is_other p (run p events) (world_laws.nodes p events) node r found

pub clean_stays : CleanStays
clean_stays p range events may draws now late vain node member r t found clean is =
    clean_turn p range events may draws now late node r t found (tick_clean p range events may.lawful may.jobs now vain node r found member late clean) is
