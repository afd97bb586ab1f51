-- A journal tells no more outcomes than its sender has watermarks.
use Rattle.std.proofs.Common.{◌≡◌, ℕ, ◌+◌, ◌≤◌, List, [], ◌∷◌, length, Bool, true, false, Option, None, Some, Result, Ok, refl, sym, ap, ◌∙◌, subst, arith}
use Rattle.std.specs.Prelude.{◌==◌, ⊤}
use Rattle.std.specs.Option.{option_map, option_to_list}
use Rattle.std.proofs.lemmas.Option.{same_Some, option_and_then_some}
use Rattle.norm_base.specs.Settings.{Settings}
use Rattle.norm_base.specs.declared.node.Origin.{Origin}
use Rattle.fec_plan.specs.declared.position.Position.{Position}
use Rattle.norm_ext.specs.Reading.{decoded}
use Rattle.norm_order.specs.declared.up.Up.{Up}
use Rattle.norm_order.specs.declared.up.Up.TheVariants as up
use Rattle.norm_send_rules.specs.SenderState.{SenderState}
use Rattle.norm_send_rules.specs.Telling.{listing_of, past_news, done_news, told}
use Rattle.norm_send_rules.specs.Hearing.{heard}
use Rattle.norm_send_rules.specs.Ticking.{ticked}
use Rattle.norm_send_rules.specs.Watermarks.{watermark_of}
use Rattle.norm_send_rules.specs.declared.job.Job.{Job}
use Rattle.norm_send_rules.specs.declared.job.Receipt.{Receipt}
use Rattle.norm_send_rules.specs.declared.job.Receipt.TheVariants as receipt
use Rattle.norm_send_rules.specs.declared.fault.SendFault.{SendFault}
use Rattle.norm_send_rules.specs.declared.news.News.{News}
use Rattle.norm_send_rules.specs.declared.news.News.TheVariants as news
use Rattle.norm_send_rules.specs.declared.news.Outcome.TheVariants as outcome
use Rattle.norm_safety.specs.Events.{Event as WorldEvent, Commanded, Delivered, Ticked, Offered, UpTaken, NewsAsked}
use Rattle.norm_safety.specs.World.{World}
use Rattle.norm_safety.specs.WorldStep.{world_step, run_from}
use Rattle.norm_journal.specs.declared.event.Event.{Event}
use Rattle.norm_journal.specs.declared.event.Event.TheVariants as event
use Rattle.norm_journal.specs.declared.totals.Totals.{Totals}
use Rattle.norm_journal.specs.Accepting.{accepts, judged_from}
use Rattle.norm_journal.specs.Draws.{next_draw}
use Rattle.norm_journal.specs.Judged.{Judged}
use Rattle.norm_journal.specs.Takes.{is_receiver}
use Rattle.norm_journal.specs.Totals.{with_gave, with_up, with_news}
use Rattle.norm_journal.specs.WorldEvents.{job_at, delivery, world_event}
use Rattle.norm_journal.proofs.FollowLemmas.{judges_what_follows}
use Rattle.norm_journal.proofs.WorldLemmas.{event_moves}
use Rattle.norm_laws.proofs.CountSender.{sender_after, sender_is}
use Rattle.norm_laws.proofs.CountSteps.{counted, follows_counts}
use Rattle.norm_laws.proofs.CountOutcomes.{Told, command_told, heard_told, tick_told}

-- the outcomes that were counted
abbrev pub outcomes : Totals → ℕ
outcomes t = t.satisfied + t.expired + t.cut

-- ---- in the world

-- the event asks for no news
abbrev AsksNone : Option WorldEvent → Type 0
AsksNone (Some NewsAsked) = ⊥
AsksNone _ = ⊤

-- what another event than one that asks for news leaves
step_told : (n : ℕ) (p : Settings) (w : World) (e : WorldEvent) → AsksNone (Some e) → Told n w.sender → Told n (world_step p w e).0.sender
step_told n p w e asks h = subst (Told n) (sym (sender_is p w e)) (after e asks)
  where
    either : (b : Bool) (t : SenderState) → Told n t → Told n (elim b [ true ↦ t | false ↦ w.sender ])
    either true t k = k
    either false t k = h

    after : (e : WorldEvent) → AsksNone (Some e) → Told n (sender_after p w.sender e)
    after (Commanded by job now) asks = command_told n p w.sender by job h
    after (Delivered node datagram now draw) asks = either (node == p.sender) (heard p w.sender datagram now) (heard_told n p w.sender now (decoded datagram) h)
    after (Ticked node now) asks = either (node == p.sender) (ticked p w.sender now).0 (tick_told n p w.sender now h)
    after (Offered node octets) asks = h
    after (UpTaken node) asks = h
    after NewsAsked asks = absurd asks

-- the same of an event that may be none
events_told : (n : ℕ) (p : Settings) (w : World) (o : Option WorldEvent) → AsksNone o → Told n w.sender → Told n (run_from p w (option_to_list o)).sender
events_told n p w None asks h = h
events_told n p w (Some e) asks h = step_told n p w e asks h

-- ---- of a journal

asks_command : (by : Origin) (now : ℕ) (found : Option Job) → AsksNone (option_map (λ (job : Job). Commanded by job now) found)
asks_command by now None = tt
asks_command by now (Some job) = tt

asks_delivery : (j : Judged) (to : ℕ) (octets : List ℕ) → AsksNone (delivery j to octets)
asks_delivery j to octets = go (to == j.profile.sender) (is_receiver j to)
  where
    go : (own receives : Bool) → AsksNone (elim own [
      | true ↦ Some (Delivered to octets j.now 0)
      | false ↦ elim receives [ true ↦ Some (Delivered to octets j.now (next_draw j.draws)) | false ↦ None ]
    ])
    go true receives = tt
    go false true = tt
    go false false = tt

-- so many outcomes does a change tell
abbrev outcomes_in : News → ℕ
outcomes_in (news.Done mark outcome.Satisfied) = 1
outcomes_in (news.Done mark (outcome.Expired left)) = 1
outcomes_in (news.Done mark outcome.Cut) = 1
outcomes_in _ = 0

one_at_most : (n : News) → outcomes_in n ≤ 1
one_at_most (news.Done mark outcome.Satisfied) = omega arith
one_at_most (news.Done mark (outcome.Expired left)) = omega arith
one_at_most (news.Done mark outcome.Cut) = omega arith
one_at_most _ = omega arith

with_news_counts : (n : News) (t : Totals) → outcomes (with_news n t) ≡ outcomes t + outcomes_in n
with_news_counts (news.Done mark outcome.Satisfied) t = omega arith
with_news_counts (news.Done mark (outcome.Expired left)) t = omega arith
with_news_counts (news.Done mark outcome.Cut) t = omega arith
with_news_counts _ t = omega arith

-- a change that is told is no longer to be told
news_told : (n : ℕ) (s : SenderState) (change : News) → (told s).1 ≡ Some change → Told n s → Told (n + outcomes_in change) (told s).0
news_told n s change is h = go s.untold_nodes s.untold_marks refl is
  where
    by : List ℕ → List ℕ → SenderState × Option News
    by nodes marks = elim nodes [
      | node ∷ others ↦ (record s { untold_nodes = others }, past_news node (listing_of s node))
      | [] ↦ elim marks [
        | mark ∷ others ↦ (record s { untold_marks = others }, done_news s mark (watermark_of s mark))
        | [] ↦ (s, None)
      ]
    ]

    listed : (node : ℕ) (past : Option Position) → past_news node past ≡ Some change → outcomes_in change ≡ 0
    listed node None e = absurd (cc)
    listed node (Some at) e = ap outcomes_in (sym (same_Some _ change e))

    go : (nodes marks : List ℕ) → s.untold_marks ≡ marks → (by nodes marks).1 ≡ Some change → Told (n + outcomes_in change) (by nodes marks).0
    go (node ∷ nodes) marks has e = let none = listed node (listing_of s node) e in omega (arith, h, none)
    go [] (mark ∷ marks) has e =
        let most = one_at_most change in let many = ap length has in omega (arith, h, most, many)
    go [] [] has e = absurd (cc)

abbrev told_by : Judged → Type 0
told_by j = Told (outcomes j.totals) j.world.sender

-- an event that tells no change
quiet_told : (j next : Judged) (e : Event) → accepts j e ≡ Some next → AsksNone (world_event j e)
    → ((t : Totals) → outcomes (counted e t) ≡ outcomes t) → told_by j → told_by next
quiet_told j next e is asks same h =
    let moves = event_moves j e next is in
    let counts : outcomes next.totals ≡ outcomes j.totals = ap outcomes (follows_counts j next e ((judges_what_follows j next e).0 is)) ∙ same j.totals in
    subst (λ n. Told n next.world.sender) (sym counts) (subst (λ (w : World). Told (outcomes j.totals) w.sender) moves.1
    (events_told (outcomes j.totals) j.profile j.world (world_event j e) asks h))

gave_counts : (gave : Result Receipt SendFault) (t : Totals) → outcomes (with_gave gave t) ≡ outcomes t
gave_counts (Ok (receipt.Object index len)) t = refl
gave_counts (Ok (receipt.Opened index)) t = refl
gave_counts (Ok (receipt.Wrote index offset len)) t = refl
gave_counts _ t = refl

up_counts : (up : Up) (t : Totals) → outcomes (with_up up t) ≡ outcomes t
up_counts (up.Object index kind info octets) t = refl
up_counts (up.StreamEnd index) t = refl
up_counts (up.Lost index) t = refl
up_counts _ t = refl

event_told : (j next : Judged) (e : Event) → accepts j e ≡ Some next → told_by j → told_by next
event_told j next event.Start is h = quiet_told j next event.Start is tt (λ t. refl) h
event_told j next (event.Turn turn now) is h = quiet_told j next (event.Turn turn now) is tt (λ t. refl) h
event_told j next (event.Pull by) is h = quiet_told j next (event.Pull by) is tt (λ t. refl) h
event_told j next (event.Job by job gave) is h =
    quiet_told j next (event.Job by job gave) is (asks_command by j.now (job_at j.place job)) (gave_counts gave) h
event_told j next (event.Length by name len fault) is h = quiet_told j next (event.Length by name len fault) is tt (λ t. refl) h
event_told j next (event.Tick node sent) is h = quiet_told j next (event.Tick node sent) is tt (λ t. refl) h
event_told j next (event.Offer from octets) is h = quiet_told j next (event.Offer from octets) is tt (λ t. refl) h
event_told j next (event.Took to octets) is h = quiet_told j next (event.Took to octets) is (asks_delivery j to octets) (λ t. refl) h
event_told j next event.Empty is h = quiet_told j next event.Empty is tt (λ t. refl) h
event_told j next (event.Up node instance up) is h = quiet_told j next (event.Up node instance up) is tt (up_counts up) h
event_told j next (event.News change) is h =
    let follows = (judges_what_follows j next (event.News change)).0 is in
    subst told_by (sym follows.then) (subst (λ n. Told n (told j.world.sender).0) (sym (with_news_counts change j.totals))
    (news_told (outcomes j.totals) j.world.sender change follows.due h))
event_told j next event.End is h = quiet_told j next event.End is tt (λ t. refl) h

pub run_told : (events : List Event) (j last : Judged) → judged_from j events ≡ Some last → told_by j → told_by last
unfolding judged_from
run_told [] j last is h = subst told_by (same_Some j last is) h
run_told (e ∷ events) j last is h =
    option_and_then_some (λ next. judged_from next events) (accepts j e) last is (λ next comes more. run_told events next last more (event_told j next e comes h))
