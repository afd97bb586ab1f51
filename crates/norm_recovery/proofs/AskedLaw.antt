-- Each event of a steady session over a direct network keeps what is known of whom a flush asks; so each watermark is asked for once or twice.
use Rattle.std.proofs.Common.{◌≡◌, ℕ, ◌+◌, ◌≤◌, List, [], ◌∷◌, ◌++◌, length, map, Bool, true, false, Option, None, Some, Result, refl, sym, ap, ◌∙◌, subst, arith, inl, inr}
use Rattle.std.specs.Prelude.{◌==◌, ◌⊎◌, slice_get, ⊤}
use Rattle.std.specs.List.{AllByRecursion}
use Rattle.std.specs.Option.{option_map, option_to_list}
use Rattle.std.proofs.lemmas.Bool.Decides.{Decides-eqb}
use Rattle.norm_base.specs.Members.{receivers_of}
use Rattle.norm_base.specs.Settings.{Settings, InRange}
use Rattle.fec_plan.specs.declared.position.Position.{Position}
use Rattle.norm_receive_rules.specs.ReceiverStep as receiver
use Rattle.norm_script.specs.Commands.{Commands}
use Rattle.norm_script.specs.declared.script.Line.{Line}
use Rattle.norm_ext.specs.Written.{Written}
use Rattle.norm_send_rules.specs.Hearing.{heard}
use Rattle.norm_send_rules.specs.Reached.{IsReached}
use Rattle.norm_send_rules.specs.SenderState.{SenderState, Listing, Watermark, unlisted}
use Rattle.norm_send_rules.specs.SenderStep.{SenderEvent, sender_step}
use Rattle.norm_send_rules.specs.SenderStep as sender
use Rattle.norm_send_rules.specs.Watermarks.{members, oldest}
use Rattle.norm_send_rules.specs.declared.fault.SendFault.{SendFault}
use Rattle.norm_send_rules.specs.declared.job.Job.{Job}
use Rattle.norm_send_rules.specs.declared.job.Receipt.{Receipt}
use Rattle.norm_send_rules.proofs.ReachedLemmas.{reached_laws}
use Rattle.norm_safety.specs.CreditsMembers.{is_listed_past}
use Rattle.norm_safety.specs.Events.{Event as WorldEvent, Commanded, Delivered, Ticked, Offered, UpTaken, NewsAsked, Sent as Gives}
use Rattle.norm_safety.specs.Lawful.{WasGiven}
use Rattle.norm_safety.specs.World.{World, world_opening, receiver_at}
use Rattle.norm_safety.specs.WorldLaws.{to_receiver}
use Rattle.norm_safety.specs.WorldStep.{world_step, run_from}
use Rattle.norm_safety.proofs.EntryLemmas.{clash}
use Rattle.norm_safety.proofs.MetLemmas.{NoneMet, Steps, none_after, sender_steps, same_steps, met_by}
use Rattle.norm_safety.proofs.Owing.{owing_laws}
use Rattle.norm_safety.proofs.WorldLemmas.{world_laws}
use Rattle.norm_journal.specs.declared.event.Event.{Event}
use Rattle.norm_journal.specs.declared.event.Event.TheVariants as event
use Rattle.norm_journal.specs.Accepting.{accepts}
use Rattle.norm_journal.specs.Direct.{IsDirect, taken_with}
use Rattle.norm_journal.specs.Draws.{next_draw, draws_after}
use Rattle.norm_journal.specs.Follows.{Follows, OfferedAndTold, OfferedAgain, SendersTick, ReceiversTick}
use Rattle.norm_journal.specs.InWorld.{world_after}
use Rattle.norm_journal.specs.Jobs.{Told, file_of_length}
use Rattle.norm_journal.specs.Judged.{Judged}
use Rattle.norm_journal.specs.Places.{Place, Starting, Between, Pulling, Giving, Again, Sending, Offering, Taking, Handing, Over, handing, after_tick, command_due}
use Rattle.norm_journal.specs.Takes.{is_receiver, delivered}
use Rattle.norm_journal.specs.WorldEvents.{job_at, world_event, taken_after}
use Rattle.norm_journal.proofs.FollowLemmas.{judges_what_follows}
use Rattle.norm_journal.proofs.WorldLemmas.{event_moves}
use Rattle.norm_laws.proofs.CountSender.{sender_after, sender_is}
use Rattle.norm_recovery.specs.SteadyAsked.{IsAskedOnceOrTwice}
use Rattle.norm_recovery.specs.SteadyPasses.{session_opening}
use Rattle.norm_recovery.proofs.AskedHears.{FlushAsk, Lists}
use Rattle.norm_recovery.proofs.AskedMoves.{Goes, goes_itself, event_goes, same_asks, event_asks, RisingNodes, receivers_rise, all_listed_met, oldest_unmet}
use Rattle.norm_recovery.proofs.AskedSteps.{At, stands_at, last_plain, led_by, few_now, MayBeOld, Asked, Once, calm_asked, fresh_asked, settles_old, Stepped, asks_on, asked_same, sending_asked, CommandPlace, told_place, job_place, asked_takes, settles_take, answers_take, hears_still, hears_flush_so, has_receiver, tick_says, other_ticks, Asking, no_tick, sender_asks, due_old}
use Rattle.norm_recovery.proofs.AskedWalk.{Settling, Owing, Answer, EachNode, each_node, Moves, moves_itself, moves_same, owing_still, offer_moves, offer_answers, none_left_settles, none_left_answers}
use Rattle.norm_recovery.proofs.DirectKept.{no_sender}
use Rattle.norm_recovery.proofs.DirectTakes.{copies, is_one, all_in, another_take, due_more, none_due, most_members, follows_waits, begins_waiting, spent}
use Rattle.norm_recovery.proofs.FlushKnown.{last_came}
use Rattle.norm_recovery.proofs.SteadyFronts.{happened, Stands, stands, Walks, walks_steadily}

-- the nodes that are still to tick are receivers
abbrev pub OfReceivers : Settings → Place → Type 0
OfReceivers p (Handing node nodes) = AllByRecursion (λ (n : ℕ). is_one n (receivers_of p p.receivers) ≡ true) (node ∷ nodes)
OfReceivers p (Offering from octets next) = OfReceivers p next
OfReceivers p _ = ⊤

-- what an event leads to
record Left (p : Settings) (taken : ℕ) (next : Judged) : Type 0 where
  led : Once p taken next.world next.now next.place
  own : OfReceivers p next.place

-- at this moment and place
left_at : (p : Settings) (taken : ℕ) (next : Judged) (now : ℕ) (place : Place) → next.now ≡ now → next.place ≡ place → Once p taken next.world now place → OfReceivers p place
    → Left p taken next
left_at p taken next now place moment at h own =
    let N : ℕ → Type 0 = λ n. Once p taken next.world n next.place in
    let P : Place → Type 0 = λ q. Once p taken next.world now q in
    let O : Place → Type 0 = λ q. OfReceivers p q in
    record { led = subst N (sym moment) (subst P (sym at) h); own = subst O (sym at) own }

-- of the same world
same_world : (p : Settings) (taken : ℕ) (w v : World) (now : ℕ) (place : Place) → w ≡ v → Once p taken w now place → Once p taken v now place
same_world p taken w v now place same h = subst (λ (x : World). Once p taken x now place) same h

-- the job of a command is that of its event
pub job_is : (j : Judged) (line : Line) (told : Option Job) (job : Job) (gave : Result Receipt SendFault) → OfferedAndTold j line told job gave ⊎ OfferedAgain j line told job
    → job_at j.place told ≡ Some job
job_is j line told job gave (inl due) = ap (job_at j.place) due.told_is
job_is j line told job gave (inr due) = ap (job_at j.place) due.told_is ∙ ap (λ (o : Option (Line × Job)). option_map (λ (known : Line × Job). known.1) o) due.place

pub differs : (a b : ℕ) → (a ≡ b → ⊥) → (a == b) ≡ false
differs a b h = go (a == b) refl
  where
    go : (t : Bool) → (a == b) ≡ t → t ≡ false
    go true e = absurd (h ((Decides-eqb a b).0 e))
    go false e = refl

-- ---- each event

module _ (p : Settings) (events : List WorldEvent) (taken : ℕ) (w v : World) (a : At p events w) (reached : IsReached p w.sender) where
  -- an event of the world
  module _ (own : WorldEvent) (b : At p (events ++ own ∷ []) v) where
    led : (world_step p w own).0 ≡ v
    led = led_by p events own w v a b

    goes : Goes w.sender v.sender
    goes = subst (λ (x : World). Goes w.sender x.sender) (led_by p events own w v a b) (event_goes p w own (last_plain events own b.plain) a.whole)

    steps : ((now : ℕ) → own ≡ Ticked p.sender now → ⊥) → Stepped w v
    steps none = subst (λ (x : World). Stepped w x) (led_by p events own w v a b)
        (record { goes = event_goes p w own (last_plain events own b.plain) a.whole; asks = event_asks p w own (last_plain events own b.plain) a.whole reached.book none })

    other_node : (node : ℕ) → receiver_at (world_step p w own).0 node ≡ receiver_at w node → receiver_at v node ≡ receiver_at w node
    other_node node same = ap (λ (x : World). receiver_at x node) (sym (led_by p events own w v a b)) ∙ same

    moves : (world_step p w own).0.offered ≡ w.offered → Moves p w v
    moves same = moves_same p w v (subst (λ (x : World). Goes w.sender x.sender) (led_by p events own w v a b) (event_goes p w own (last_plain events own b.plain) a.whole))
        (ap (λ (x : World). x.offered) (sym (led_by p events own w v a b)) ∙ same)

-- a command
commands : (p : Settings) (events : List WorldEvent) (taken : ℕ) (w v : World) (a : At p events w) → IsReached p w.sender → (own : WorldEvent)
    → At p (events ++ own ∷ []) v → ((now : ℕ) → own ≡ Ticked p.sender now → ⊥) → (world_step p w own).0.offered ≡ w.offered → (now : ℕ) (place : Place)
    → CommandPlace place → Once p taken w now place → Once p taken v now Sending
commands p events taken w v a reached own b none same now place at h =
    asks_on p taken taken w v now now place Sending (steps p events taken w v a reached own b none)
    (λ wm was count last asked. sending_asked p taken w v now wm place (moves p events taken w v a reached own b same) at.calm at.most count asked) h

-- a receiver ticks
receiver_asks : (p : Settings) (events : List WorldEvent) (taken : ℕ) (w v : World) (a : At p events w) → IsReached p w.sender → (node now : ℕ)
    → At p (events ++ Ticked node now ∷ []) v → is_one node (receivers_of p p.receivers) ≡ true → members w.sender ≡ receivers_of p p.receivers
    → (d : Option Written) → (world_step p w (Ticked node now)).1 ≡ Gives d → (nodes : List ℕ) → Once p taken w now (Handing node nodes)
    → Once p taken v now (after_tick node d (handing nodes))
receiver_asks p events taken w v a reached node now b is all d gives nodes h =
    asks_on p taken taken w v now now (Handing node nodes) (after_tick node d (handing nodes))
    (steps p events taken w v a reached (Ticked node now) b (no_tick p node now (no_sender p node is)))
    (λ wm was count last asked. go wm count last asked) h
  where
    m : Moves p w v
    m = moves p events taken w v a reached (Ticked node now) b (world_laws.offered p w (Ticked node now) refl)

    still : (at : Position) (n : ℕ) → (node == n) ≡ false → Owing w at n → Owing v at n
    still at n e o =
        owing_still w v at n m.goes (other_node p events taken w v a reached (Ticked node now) b n (world_laws.others p w (Ticked node now) n e)) o

    says : (at : Position) (n : ℕ) → (node == n) ≡ true → Owing w at n → Answer p taken v at (after_tick node d (handing nodes)) n
    says at n e =
        let N : ℕ → Type 0 = λ k. Owing w at k → Answer p taken v at (after_tick node d (handing nodes)) k in
        subst N ((Decides-eqb node n).0 e) (λ o. tick_says p events taken w v node now d nodes a m all is gives at o)

    go : (wm : Watermark) → v.sender.flushes ≡ w.sender.flushes → v.sender.last_flush ≡ w.sender.last_flush → Asked p taken w now wm (Handing node nodes)
        → Asked p taken v now wm (after_tick node d (handing nodes))
    go wm count last (inl fresh) =
        inl (
          count ∙ fresh.0,
          last ∙ fresh.1,
          each_node p _ _ (λ n one h. other_ticks p taken w v wm.at m node n d nodes (still wm.at n) (says wm.at n) h) fresh.2,
        )
    go wm count last (inr old) = absurd old.0

-- an offer
offer_asks : (p : Settings) (events : List WorldEvent) (taken : ℕ) (w v : World) (a : At p events w) → IsReached p w.sender → (from : ℕ) (octets : List ℕ)
    → At p (events ++ Offered from octets ∷ []) v → taken ≤ length (copies p w) → (now : ℕ) (after : Place) → Once p taken w now (Offering from octets after)
    → Once p taken v now after
offer_asks p events taken w v a reached from octets b some now after h =
    asks_on p taken taken w v now now (Offering from octets after) after (steps p events taken w v a reached (Offered from octets) b (λ n e. (none n e)))
    (λ wm was count last asked. go wm count last asked) h
  where
    none : (n : ℕ) → ◌≡◌ {A = WorldEvent} (Offered from octets) (Ticked p.sender n) → ⊥
    none n e = cc

    given : WasGiven w from octets
    given = subst (λ (x : World). WasGiven x from octets) a.world (last_came p (world_opening p) [] events (Offered from octets) b.lawful).1

    u : World
    u = (world_step p w (Offered from octets)).0

    is : (world_step p w (Offered from octets)).0 ≡ v
    is = led_by p events (Offered from octets) w v a b

    m : Moves p w (world_step p w (Offered from octets)).0
    m = offer_moves p w from octets given (event_goes p w (Offered from octets) tt a.whole)

    later_old : (next : Place) (n : ℕ) → MayBeOld (Offering from octets next) n → MayBeOld next n
    later_old (Taking k) n le = le
    later_old (Handing x xs) n le = absurd le
    later_old (Offering f o next) n le = absurd le
    later_old Starting n le = absurd le
    later_old Between n le = absurd le
    later_old Pulling n le = absurd le
    later_old (Giving line) n le = absurd le
    later_old (Again line) n le = absurd le
    later_old Sending n le = absurd le
    later_old Over n le = absurd le

    go : (wm : Watermark) → v.sender.flushes ≡ w.sender.flushes → v.sender.last_flush ≡ w.sender.last_flush → Asked p taken w now wm (Offering from octets after)
        → Asked p taken v now wm after
    go wm count last (inl fresh) =
        inl (
          count ∙ fresh.0,
          last ∙ fresh.1,
          each_node p _ _ (λ n one h. subst (λ (x : World). Answer p taken x wm.at after n) is
              (offer_answers p taken w wm.at from octets after n one given some m (world_laws.others p w (Offered from octets) n refl) h)) fresh.2,
        )
    go wm count last (inr old) =
        inr (
          subst (MayBeOld after) (sym count) (later_old after w.sender.flushes old.0),
          subst (λ (x : World). EachNode p (Settling p taken x wm.at)) is (settles_old p taken w (world_step p w (Offered from octets)).0 wm m old.1),
        )

-- a hand-up
up_asks : (p : Settings) (events : List WorldEvent) (taken : ℕ) (w v : World) (a : At p events w) → IsReached p w.sender → (node : ℕ)
    → At p (events ++ UpTaken node ∷ []) v → (now : ℕ) (place : Place) → Once p taken w now place → Once p taken v now place
up_asks p events taken w v a reached node b now place h =
    asks_on p taken taken w v now now place place (steps p events taken w v a reached (UpTaken node) b (λ n e. none n e))
    (λ wm was count last asked. asked_same p taken w v now wm place m (owing wm.at) count last asked) h
  where
    none : (n : ℕ) → ◌≡◌ {A = WorldEvent} (UpTaken node) (Ticked p.sender n) → ⊥
    none n e = cc

    m : Moves p w v
    m = moves p events taken w v a reached (UpTaken node) b (world_laws.offered p w (UpTaken node) refl)

    owing : (at : Position) (n : ℕ) → is_one n (receivers_of p p.receivers) ≡ true → Owing w at n → Owing v at n
    owing at n one o = by (node == n) refl
      where
        by : (c : Bool) → (node == n) ≡ c → Owing v at n
        by false e = owing_still w v at n m.goes (other_node p events taken w v a reached (UpTaken node) b n (world_laws.others p w (UpTaken node) n e)) o
        by true e =
            hears_still p events w v (UpTaken node) a b m at n (no_sender p n one) receiver.UpTaken refl
            (ap (λ (k : ℕ). to_receiver (UpTaken k)) ((Decides-eqb node n).0 e)) (λ r same owes. owing_laws.takes r at owes) o

-- news
news_asks : (p : Settings) (events : List WorldEvent) (taken : ℕ) (w v : World) (a : At p events w) → IsReached p w.sender → At p (events ++ NewsAsked ∷ []) v
    → (now : ℕ) (place : Place) → Once p taken w now place → Once p taken v now place
news_asks p events taken w v a reached b now place h =
    asks_on p taken taken w v now now place place (steps p events taken w v a reached NewsAsked b (λ n e. none n e))
    (λ wm was count last asked. asked_same p taken w v now wm place m (λ n one o.
    owing_still w v wm.at n m.goes (other_node p events taken w v a reached NewsAsked b n (world_laws.others p w NewsAsked n refl)) o) count last asked) h
  where
    none : (n : ℕ) → ◌≡◌ {A = WorldEvent} NewsAsked (Ticked p.sender n) → ⊥
    none n e = cc

    m : Moves p w v
    m = moves p events taken w v a reached NewsAsked b (world_laws.offered p w NewsAsked refl)

-- ---- a take

delivered_none : (p : Settings) (to : ℕ) (octets : List ℕ) (now draw n : ℕ) → ◌≡◌ {A = WorldEvent} (Delivered to octets now draw) (Ticked p.sender n) → ⊥
delivered_none p to octets now draw n e = cc

-- by the sender
sender_takes : (p : Settings) (events : List WorldEvent) (taken count : ℕ) (w v : World) (a : At p events w) → IsReached p w.sender → (to : ℕ) (octets : List ℕ) (now : ℕ)
    → At p (events ++ Delivered to octets now 0 ∷ []) v → slice_get (copies p w) taken ≡ Some (to, octets) → (to == p.sender) ≡ true
    → Once p taken w now (Taking count) → Once p (taken + 1) v now (Taking (count + 1))
sender_takes p events taken count w v a reached to octets now b due is h =
    asks_on p taken (taken + 1) w v now now (Taking count) (Taking (count + 1))
    (steps p events taken w v a reached (Delivered to octets now 0) b (λ n e. delivered_none p to octets now 0 n e))
    (λ wm was same last asked. asked_takes p taken count (count + 1) w v now wm
    (λ n one. settles_take p taken w v to octets due m wm.at n (hears wm.at n))
    (λ n one. answers_take p taken w v to octets due m wm.at count (count + 1) n (hears wm.at n) (owes wm.at n one) (still wm.at n one)) same last asked) h
  where
    m : Moves p w v
    m = moves p events taken w v a reached (Delivered to octets now 0) b (world_laws.offered p w (Delivered to octets now 0) refl)

    then : v.sender ≡ heard p w.sender octets now
    then = ap (λ (x : World). x.sender) (sym (led_by p events (Delivered to octets now 0) w v a b)) ∙ sender_is p w (Delivered to octets now 0)
        ∙ ap (λ (c : Bool). elim c as (λ _. SenderState) [ true ↦ heard p w.sender octets now | false ↦ w.sender ]) is

    hears : (at : Position) (n : ℕ) (its : List ℕ) → p.sender ≡ to → its ≡ octets → Lists p w.sender n at its → is_listed_past v.sender n at ≡ true
    hears at n its own same lists =
        ap (λ (t : SenderState). is_listed_past t n at) then
        ∙ subst (λ (os : List ℕ). is_listed_past (heard p w.sender os now) n at ≡ true) same (lists w.sender now (goes_itself w.sender) (few_now p events w a))

    apart_from : (n : ℕ) → is_one n (receivers_of p p.receivers) ≡ true → n ≡ to → ⊥
    apart_from n one e = clash (sym (no_sender p n one) ∙ ap (λ (k : ℕ). k == p.sender) e ∙ is)

    owes : (at : Position) (n : ℕ) → is_one n (receivers_of p p.receivers) ≡ true → (its : List ℕ) → n ≡ to → its ≡ octets → FlushAsk p w.sender.current.id at n its → Owing v at n
    owes at n one its e same ask = absurd (apart_from n one e)

    still : (at : Position) (n : ℕ) → is_one n (receivers_of p p.receivers) ≡ true → Owing w at n → Owing v at n
    still at n one o =
        owing_still w v at n m.goes (other_node p events taken w v a reached (Delivered to octets now 0) b n
        (world_laws.others p w (Delivered to octets now 0) n (differs to n (λ e. apart_from n one (sym e))))) o

-- by a receiver
receiver_takes : (p : Settings) (events : List WorldEvent) (taken count : ℕ) (w v : World) (a : At p events w) → IsReached p w.sender → (to : ℕ) (octets : List ℕ) (now draw : ℕ)
    → At p (events ++ Delivered to octets now draw ∷ []) v → slice_get (copies p w) taken ≡ Some (to, octets) → (to == p.sender) ≡ false
    → Once p taken w now (Taking count) → Once p (taken + 1) v now (Taking (count + 1))
receiver_takes p events taken count w v a reached to octets now draw b due other h =
    asks_on p taken (taken + 1) w v now now (Taking count) (Taking (count + 1))
    (steps p events taken w v a reached (Delivered to octets now draw) b (λ n e. delivered_none p to octets now draw n e))
    (λ wm was same last asked. asked_takes p taken count (count + 1) w v now wm
    (λ n one. settles_take p taken w v to octets due m wm.at n (hears wm.at n))
    (λ n one. answers_take p taken w v to octets due m wm.at count (count + 1) n (hears wm.at n) (owes wm was n one) (still wm.at n)) same last asked) h
  where
    m : Moves p w v
    m = moves p events taken w v a reached (Delivered to octets now draw) b (world_laws.offered p w (Delivered to octets now draw) refl)

    hears : (at : Position) (n : ℕ) (its : List ℕ) → p.sender ≡ to → its ≡ octets → Lists p w.sender n at its → is_listed_past v.sender n at ≡ true
    hears at n its own same lists = absurd (clash (sym other ∙ (Decides-eqb to p.sender).1 (sym own)))

    owes : (wm : Watermark) → oldest w.sender ≡ Some wm → (n : ℕ) → is_one n (receivers_of p p.receivers) ≡ true → (its : List ℕ) → n ≡ to → its ≡ octets
        → FlushAsk p w.sender.current.id wm.at n its → Owing v wm.at n
    owes wm was n one its e same ask =
        let r = has_receiver p events w a to (subst (λ (k : ℕ). is_one k (receivers_of p p.receivers) ≡ true) e one) in
        let N : ℕ → List ℕ → Type 0 = λ k os. FlushAsk p w.sender.current.id wm.at k os in
        subst (λ (k : ℕ). Owing v wm.at k) (sym e)
        (hears_flush_so p events w v to octets now draw a b m other wm was (subst (N to) same (subst (λ (k : ℕ). N k its) e ask)) r.0 r.1)

    still : (at : Position) (n : ℕ) → Owing w at n → Owing v at n
    still at n o = by (to == n) refl
      where
        by : (c : Bool) → (to == n) ≡ c → Owing v at n
        by false e = owing_still w v at n m.goes (other_node p events taken w v a reached (Delivered to octets now draw) b n
            (world_laws.others p w (Delivered to octets now draw) n e)) o
        by true e =
            let same = (Decides-eqb to n).0 e in
            hears_still p events w v (Delivered to octets now draw) a b m at n (ap (λ (k : ℕ). k == p.sender) (sym same) ∙ other) (receiver.Delivered octets now draw)
            other (ap (λ (k : ℕ). to_receiver (Delivered k octets now draw)) same) (λ r stays owed. owing_laws.hears p r octets now draw at stays owed) o

-- by nobody
nobody_takes : (p : Settings) (taken count : ℕ) (w : World) (to : ℕ) (octets : List ℕ) (now : ℕ) → slice_get (copies p w) taken ≡ Some (to, octets)
    → (to == p.sender) ≡ false → is_one to (receivers_of p p.receivers) ≡ false → Once p taken w now (Taking count) → Once p (taken + 1) w now (Taking (count + 1))
nobody_takes p taken count w to octets now due other none h =
    asks_on p taken (taken + 1) w w now now (Taking count) (Taking (count + 1)) (record { goes = goes_itself w.sender; asks = same_asks w.sender w.sender refl refl refl })
    (λ wm was same last asked. asked_takes p taken count (count + 1) w w now wm
    (λ n one. settles_take p taken w w to octets due (moves_itself p w) wm.at n (hears wm.at n))
    (λ n one. answers_take p taken w w to octets due (moves_itself p w) wm.at count (count + 1) n (hears wm.at n)
    (λ its e eq ask. absurd (clash (sym none ∙ subst (λ (k : ℕ). is_one k (receivers_of p p.receivers) ≡ true) e one))) (λ o. o)) same last asked) h
  where
    hears : (at : Position) (n : ℕ) (its : List ℕ) → p.sender ≡ to → its ≡ octets → Lists p w.sender n at its → is_listed_past w.sender n at ≡ true
    hears at n its own same lists = absurd (clash (sym other ∙ (Decides-eqb to p.sender).1 (sym own)))

-- no copy is left
empty_asks : (p : Settings) (taken count : ℕ) (w : World) (now : ℕ) (nodes : List ℕ) → nodes ≡ receivers_of p p.receivers → members w.sender ≡ receivers_of p p.receivers
    → NoneMet w.sender → length (copies p w) ≤ taken → Once p taken w now (Taking count) → Once p taken w now (handing nodes)
empty_asks p taken count w now nodes same all none le h = record { once = h.once; asks = λ wm is some. go wm is (h.asks wm is some) }
  where
    go : (wm : Watermark) → oldest w.sender ≡ Some wm → Asked p taken w now wm (Taking count) → Asked p taken w now wm (handing nodes)
    go wm is (inl fresh) =
        inl (
          fresh.0,
          fresh.1,
          each_node p _ _ (λ n one x. none_left_answers p taken count w wm.at n nodes le
              (subst (λ (ns : List ℕ). is_one n ns ≡ true) (sym same) one) x) fresh.2,
        )
    go wm is (inr old) =
        let listed : EachNode p (λ (n : ℕ). is_listed_past w.sender n wm.at ≡ true) = each_node p _ _ (λ n one x. none_left_settles p taken w wm.at n le x) old.1 in
        let met = all_listed_met w.sender.listings wm (subst RisingNodes (sym all) (receivers_rise p p.receivers))
        (subst (λ (ns : List ℕ). AllByRecursion (λ (n : ℕ). is_listed_past w.sender n wm.at ≡ true) ns) (sym all) listed) in
        absurd (clash (sym (oldest_unmet w.sender wm none is) ∙ met))

-- ---- the journal

-- the event of the world is this one
pub with_event : (p : Settings) (events : List WorldEvent) (v : World) (o : Option WorldEvent) (own : WorldEvent) → o ≡ Some own → At p (events ++ option_to_list o) v
    → At p (events ++ own ∷ []) v
with_event p events v o own is b = subst (λ (x : Option WorldEvent). At p (events ++ option_to_list x) v) is b

abbrev pub NextAt : List WorldEvent → Judged → Event → Judged → Type 0
NextAt events j e next = At j.profile (events ++ option_to_list (world_event j e)) next.world

took_asks : (events : List WorldEvent) (taken count : ℕ) (j next : Judged) (to : ℕ) (octets : List ℕ) → At j.profile events j.world → NextAt events j (event.Took to octets) next
    → accepts j (event.Took to octets) ≡ Some next → Asking j.profile taken j → slice_get (copies j.profile j.world) taken ≡ Some (to, octets) → j.place ≡ Taking count
    → Once j.profile (taken + 1) next.world j.now (Taking (count + 1))
took_asks events taken count j next to octets a b comes h due place =
    go (to == j.profile.sender) (is_receiver j to) refl refl (event_moves j (event.Took to octets) next comes).1 b
  where
    p : Settings
    p = j.profile

    was : Once j.profile taken j.world j.now (Taking count)
    was = subst (λ (q : Place). Once j.profile taken j.world j.now q) place h.asked

    event_of : Bool → Bool → Option WorldEvent
    event_of own receives = elim own [
      | true ↦ Some (Delivered to octets j.now 0)
      | false ↦ elim receives [ true ↦ Some (Delivered to octets j.now (next_draw j.draws)) | false ↦ None ]
    ]

    go : (own receives : Bool) → (to == j.profile.sender) ≡ own → is_receiver j to ≡ receives → run_from j.profile j.world (option_to_list (event_of own receives)) ≡ next.world
        → At j.profile (events ++ option_to_list (event_of own receives)) next.world → Once j.profile (taken + 1) next.world j.now (Taking (count + 1))
    go true receives e f world b = sender_takes j.profile events taken count j.world next.world a h.reached to octets j.now b due e was
    go false true e f world b = receiver_takes j.profile events taken count j.world next.world a h.reached to octets j.now (next_draw j.draws) b due e was
    go false false e f world b =
        same_world j.profile (taken + 1) j.world next.world j.now (Taking (count + 1)) world
        (nobody_takes j.profile taken count j.world to octets j.now due e
        (sym (ap (λ (ns : List ℕ). is_one to ns) h.waits.nodes) ∙ f) was)

-- a delivery leaves the moment
pub delivered_now : (j : Judged) (to : ℕ) (octets : List ℕ) → (delivered to octets j).now ≡ j.now
delivered_now j to octets = go (to == j.profile.sender) (is_receiver j to)
  where
    by : Bool → Bool → Judged
    by own receives = elim own [
      | true ↦ world_after (Delivered to octets j.now 0) j
      | false ↦ elim receives [
        | true ↦ record (world_after (Delivered to octets j.now (next_draw j.draws)) j) { draws = draws_after j.draws }
        | false ↦ j
      ]
    ]

    go : (own receives : Bool) → (by own receives).now ≡ j.now
    go true receives = refl
    go false true = refl
    go false false = refl

event_left : (events : List WorldEvent) (taken : ℕ) (j next : Judged) (e : Event) → At j.profile events j.world → NextAt events j e next → accepts j e ≡ Some next
    → Follows j e next → IsDirect taken j e → Asking j.profile taken j → OfReceivers j.profile j.place → Left j.profile (taken_with taken e) next
event_left events taken j next event.Start a b comes f direct h own =
    let L : Judged → Type 0 = λ n. Left j.profile taken n in
    subst L (sym f.1.then) (record {
      led = record {
        once = h.asked.once;
        asks = λ wm is some. inl (fresh_asked j.profile taken j.world j.now wm Starting Between tt (λ n x. x)
            (subst (λ (q : Place). Asked j.profile taken j.world j.now wm q) f.1.place (h.asked.asks wm is some)));
      };
      own = tt;
    })
event_left events taken j next (event.Turn turn now) a b comes f direct h own =
    let L : Judged → Type 0 = λ n. Left j.profile taken n in
    subst L (sym f.1.then) (record {
      led = record {
        once = h.asked.once;
        asks = λ wm is some. (
            let c = calm_asked j.profile taken j.world j.now wm Between tt (λ n x. absurd x)
            (subst (λ (q : Place). Asked j.profile taken j.world j.now wm q) f.1.place (h.asked.asks wm is some)) in
            inr (due_old j.waiting j.left j.world.sender.flushes c.0, c.1)
            );
      };
      own = due_own j.waiting j.left;
    })
  where
    due_own : (waiting : Option Line) (lines : List Line) → OfReceivers j.profile (command_due waiting lines)
    due_own (Some line) lines = tt
    due_own None [] = tt
    due_own None (line ∷ lines) = tt
event_left events taken j next (event.Pull by) a b comes f direct h own =
    let L : Judged → Type 0 = λ n. Left j.profile taken n in
    subst L (sym f.1.then) (record {
      led = record {
        once = h.asked.once;
        asks = λ wm is some. inr (calm_asked j.profile taken j.world j.now wm Pulling tt (λ n le. le)
            (subst (λ (q : Place). Asked j.profile taken j.world j.now wm q) f.1.place (h.asked.asks wm is some)));
      };
      own = tt;
    })
event_left events taken j next (event.Job by told gave) a b comes f direct h own =
    left_at j.profile taken next j.now Sending (ap (λ (n : Judged). n.now) f.1.then) (ap (λ (n : Judged). n.place) f.1.then)
    (commands j.profile events taken j.world next.world a h.reached (Commanded by f.1.job j.now)
    (with_event j.profile events next.world (world_event j (event.Job by told gave)) (Commanded by f.1.job j.now)
    (ap (λ (o : Option Job). option_map (λ (job : Job). Commanded by job j.now) o) (job_is j f.1.line told f.1.job gave f.1.due)) b)
    (λ n e. none f.1.job n e) (world_laws.offered j.profile j.world (Commanded by f.1.job j.now) refl) j.now j.place
    (job_place j f.1.line told f.1.job gave f.1.due) h.asked) tt
  where
    none : (x : Job) (n : ℕ) → ◌≡◌ {A = WorldEvent} (Commanded by x j.now) (Ticked j.profile.sender n) → ⊥
    none x n e = cc
event_left events taken j next (event.Length by name len fault) a b comes f direct h own =
    left_at j.profile taken next j.now Sending (ap (λ (n : Judged). n.now) f.1.then) (ap (λ (n : Judged). n.place) f.1.then)
    (commands j.profile events taken j.world next.world a h.reached (Commanded by (file_of_length name len) j.now) b
    (λ n e. none (file_of_length name len) n e) (world_laws.offered j.profile j.world (Commanded by (file_of_length name len) j.now) refl) j.now j.place
    (told_place j.place f.1.line f.1.place) h.asked) tt
  where
    none : (x : Job) (n : ℕ) → ◌≡◌ {A = WorldEvent} (Commanded by x j.now) (Ticked j.profile.sender n) → ⊥
    none x n e = cc
event_left events taken j next (event.Tick node said) a b comes f direct h own = go f.1.due
  where
    at_next : next.place ≡ after_tick node f.1.datagram f.1.after
    at_next = ap (λ (n : Judged). n.place) f.1.then

    tick_own : (d : Option Written) (after : Place) → OfReceivers j.profile after → OfReceivers j.profile (after_tick node d after)
    tick_own None after is = is
    tick_own (Some d) after is = is

    handing_own : (nodes : List ℕ) → AllByRecursion (λ (n : ℕ). is_one n (receivers_of j.profile j.profile.receivers) ≡ true) nodes → OfReceivers j.profile (handing nodes)
    handing_own [] all = tt
    handing_own (n ∷ nodes) all = all

    go : SendersTick j node f.1.after ⊎ ReceiversTick j node f.1.after → Left j.profile taken next
    go (inl due) =
        left_at j.profile taken next j.now (after_tick node f.1.datagram (Taking 0)) (ap (λ (n : Judged). n.now) f.1.then)
        (ap (λ (n : Judged). n.place) f.1.then ∙ ap (λ (q : Place). after_tick node f.1.datagram q) due.after_is)
        (sender_asks j.profile events taken j.world next.world node j.now f.1.datagram a b due.node_is h.nodes f.1.gives
        (subst (λ (q : Place). Once j.profile taken j.world j.now q) due.place h.asked)) (tick_own f.1.datagram (Taking 0) tt)
    go (inr due) =
        let its = subst (OfReceivers j.profile) due.place own in
        left_at j.profile taken next j.now (after_tick node f.1.datagram (handing due.nodes)) (ap (λ (n : Judged). n.now) f.1.then)
        (ap (λ (n : Judged). n.place) f.1.then ∙ ap (λ (q : Place). after_tick node f.1.datagram q) due.after_is)
        (receiver_asks j.profile events taken j.world next.world a h.reached node j.now b its.0 h.nodes f.1.datagram f.1.gives due.nodes
        (subst (λ (q : Place). Once j.profile taken j.world j.now q) due.place h.asked)) (tick_own f.1.datagram (handing due.nodes) (handing_own due.nodes its.1))
event_left events taken j next (event.Offer from octets) a b comes f direct h own =
    left_at j.profile taken next j.now f.1.after (ap (λ (n : Judged). n.now) f.1.then) (ap (λ (n : Judged). n.place) f.1.then)
    (offer_asks j.profile events taken j.world next.world a h.reached from octets b h.waits.some j.now f.1.after
    (subst (λ (q : Place). Once j.profile taken j.world j.now q) f.1.place h.asked)) (subst (OfReceivers j.profile) f.1.place own)
event_left events taken j next (event.Took to octets) a b comes f direct h own =
    let p : Settings = j.profile in
    let lt = due_more (copies p j.world) taken (to, octets) direct in
    let spends = ap (spent p.receivers) f.1.place in
    let room = h.waits.room in
    let most = most_members p.receivers a.range.receivers.1 in
    let goes : next.place ≡ Taking (f.1.count + 1) = ap (λ (n : Judged). n.place) f.1.then ∙ another_take f.1.count j (omega (arith, lt, spends, room, most)) in
    left_at p (taken + 1) next j.now (Taking (f.1.count + 1)) (ap (λ (n : Judged). n.now) f.1.then ∙ delivered_now j to octets) goes
    (took_asks events taken f.1.count j next to octets a b comes h direct f.1.place) tt
event_left events taken j next event.Empty a b comes f direct h own =
    let p : Settings = j.profile in
    left_at p taken next j.now (handing j.nodes) (ap (λ (n : Judged). n.now) f.1.then) (ap (λ (n : Judged). n.place) f.1.then)
    (same_world p taken j.world next.world j.now (handing j.nodes) (sym (ap (λ (n : Judged). n.world) f.1.then))
    (empty_asks p taken f.1.count j.world j.now j.nodes h.waits.nodes h.nodes h.none (none_due (copies p j.world) taken direct)
    (subst (λ (q : Place). Once p taken j.world j.now q) f.1.place h.asked)))
    (subst (λ (ns : List ℕ). OfReceivers p (handing ns)) (sym h.waits.nodes) (own_all (receivers_of p p.receivers) (all_in (receivers_of p p.receivers))))
  where
    own_all : (nodes : List ℕ) → AllByRecursion (λ (n : ℕ). is_one n (receivers_of j.profile j.profile.receivers) ≡ true) nodes → OfReceivers j.profile (handing nodes)
    own_all [] all = tt
    own_all (n ∷ nodes) all = all
event_left events taken j next (event.Up node instance up) a b comes f direct h own =
    left_at j.profile taken next j.now j.place (ap (λ (n : Judged). n.now) f.1.then) (ap (λ (n : Judged). n.place) f.1.then)
    (up_asks j.profile events taken j.world next.world a h.reached node b j.now j.place h.asked) own
event_left events taken j next (event.News news) a b comes f direct h own =
    left_at j.profile taken next j.now j.place (ap (λ (n : Judged). n.now) f.then) (ap (λ (n : Judged). n.place) f.then)
    (news_asks j.profile events taken j.world next.world a h.reached b j.now j.place h.asked) own
event_left events taken j next event.End a b comes f direct h own =
    let L : Judged → Type 0 = λ n. Left j.profile taken n in
    subst L (sym f.1.then) (record {
      led = record {
        once = h.asked.once;
        asks = λ wm is some. inl (fresh_asked j.profile taken j.world j.now wm Between Over tt (λ n x. x)
            (subst (λ (q : Place). Asked j.profile taken j.world j.now wm q) f.1.place (h.asked.asks wm is some)));
      };
      own = tt;
    })

-- ---- what holds of the sender

-- what holds of a state and itself, and of it and each step, holds of what an event leaves
sender_part : (p : Settings) (P : SenderState → Type 0) (w : World) (e : WorldEvent) → P w.sender → ((x : SenderEvent) → P (sender_step p w.sender x).0)
    → P (world_step p w e).0.sender
sender_part p P w e same each = subst P (sym (sender_is p w e)) (go e)
  where
    either : (b : Bool) (t : SenderState) → P t → P (elim b as (λ _. SenderState) [ true ↦ t | false ↦ w.sender ])
    either true t h = h
    either false t h = same

    go : (x : WorldEvent) → P (sender_after p w.sender x)
    go (Commanded by job now) = each (sender.Commanded by job now)
    go (Delivered to octets now draw) = either (to == p.sender) (sender_step p w.sender (sender.Delivered octets now)).0 (each (sender.Delivered octets now))
    go (Ticked to now) = either (to == p.sender) (sender_step p w.sender (sender.Ticked now)).0 (each (sender.Ticked now))
    go (Offered to octets) = same
    go (UpTaken to) = same
    go NewsAsked = each sender.NewsAsked

-- of the event of the journal, if it is one of the world
record Sender (p : Settings) (t : SenderState) : Type 0 where
  nodes : members t ≡ receivers_of p p.receivers
  none : NoneMet t
  reached : IsReached p t

sender_left : (events : List WorldEvent) (taken : ℕ) (j next : Judged) (e : Event) → At j.profile events j.world → NextAt events j e next → accepts j e ≡ Some next
    → Asking j.profile taken j → Sender j.profile next.world.sender
sender_left events taken j next e a b comes h = go (world_event j e) (event_moves j e next comes).1 b
  where
    p : Settings
    p = j.profile

    go : (o : Option WorldEvent) → run_from j.profile j.world (option_to_list o) ≡ next.world → At j.profile (events ++ option_to_list o) next.world → Sender j.profile next.world.sender
    go None world b = subst (λ (v : World). Sender j.profile v.sender) world (record { nodes = h.nodes; none = h.none; reached = h.reached })
    go (Some own) world b =
        let s : SenderState = j.world.sender in
        let t : SenderState = (world_step j.profile j.world own).0.sender in
        let goes = event_goes j.profile j.world own (last_plain events own b.plain) a.whole in
        let went = sender_part j.profile (Steps s) j.world own (same_steps s h.none) (λ x. sender_steps j.profile s x h.none) in
        subst (λ (v : World). Sender j.profile v.sender) world (record {
          nodes = goes.nodes ∙ h.nodes;
          none = none_after (met_by t.listings) s.watermarks t.watermarks went;
          reached = sender_part j.profile (IsReached j.profile) j.world own h.reached (λ x. reached_laws.always j.profile s x a.range h.reached);
        })

-- ---- the law

-- what is kept along the journal
pub record Kept (taken : ℕ) (j : Judged) : Type 0 where
  pub asking : Asking j.profile taken j
  pub own : OfReceivers j.profile j.place

kept_at : (p q : Settings) (taken : ℕ) (j : Judged) → p ≡ q → Asking p taken j → OfReceivers p j.place → Asking q taken j × OfReceivers q j.place
kept_at p q taken j same asking own = (subst (λ (x : Settings). Asking x taken j) same asking, subst (λ (x : Settings). OfReceivers x j.place) same own)

members_begin : (nodes : List ℕ) → map (λ (l : Listing). l.node) (unlisted nodes) ≡ nodes
members_begin [] = refl
members_begin (n ∷ nodes) = ap (λ (ns : List ℕ). n ∷ ns) (members_begin nodes)

pub asking_begins : (script : Commands) (files : Told) → InRange script.profile → Kept 0 (session_opening script files)
asking_begins script files range = record {
  asking = record {
    nodes = members_begin (receivers_of script.profile script.profile.receivers);
    none = tt;
    reached = reached_laws.at_first script.profile script.profile.instance range;
    waits = begins_waiting script files;
    asked = record { once = record { flushes = omega arith; ended = tt }; asks = λ wm is some. absurd (omega (arith, some)) };
  };
  own = tt;
}

pub asking_goes_on : (script : Commands) (files : Told) (front : List Event) (e : Event) (j next : Judged) → Walks script files front e j next
    → Kept (taken_after 0 front) j → Kept (taken_with (taken_after 0 front) e) next
asking_goes_on script files front e j next k h =
    let n : ℕ = taken_after 0 front in
    let st : Stands script files front j = stands script files front j k.before in
    let es : List WorldEvent = happened script files front in
    let a : At j.profile es j.world = subst (λ (q : Settings). At q es j.world) st.profile (stands_at script files front j k.before) in
    let b : NextAt es j e next =
    subst (λ (q : Settings). At q (es ++ option_to_list (world_event j e)) next.world) st.profile
    (subst (λ (xs : List WorldEvent). At script.profile xs next.world) k.happens (stands_at script files (front ++ e ∷ []) next k.after)) in
    let f = (judges_what_follows j next e).0 k.comes in
    let same = (event_moves j e next k.comes).0 in
    let left = event_left es n j next e a b k.comes f k.direct h.asking h.own in
    let sends = sender_left es n j next e a b k.comes h.asking in
    let on = kept_at j.profile next.profile (taken_with n e) next same (record {
      nodes = sends.nodes;
      none = sends.none;
      reached = sends.reached;
      waits = follows_waits j.profile a.range.receivers.1 n j next e f k.direct h.asking.waits;
      asked = left.led;
    }) left.own in
    record { asking = on.0; own = on.1 }

pub asked_once_or_twice : IsAskedOnceOrTwice
asked_once_or_twice script files events last runs steady =
    (walks_steadily script files Kept (asking_begins script files runs.can_run.range) (asking_goes_on script files) events last
    (record { runs = runs; steady = steady })).asking.asked.once
