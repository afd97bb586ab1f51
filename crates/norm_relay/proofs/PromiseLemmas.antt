-- What is held back keeps its promises: each event of a relay and its sessions keeps that.
use Rattle.std.proofs.Common.{◌≡◌, ℕ, ◌<◌, inl, inr, List, [], ◌∷◌, Bool, true, false, Option, None, Some, Result, Ok, Err, refl, sym, ap, ◌∙◌, subst}
use Rattle.std.specs.Prelude.{◌==◌, not, IfSome}
use Rattle.std.proofs.lemmas.Bool.Decides.{Decides-eqb}
use Rattle.norm_base.specs.Settings.{Settings}
use Rattle.fec_plan.specs.declared.position.Position.{Position}
use Rattle.norm_ext.specs.Written.{Written}
use Rattle.norm_order.specs.Entries.{Entry}
use Rattle.norm_order.specs.declared.up.Up.{Up}
use Rattle.norm_receive_rules.proofs.StepLemmas.{step_laws}
use Rattle.norm_receive_rules.specs.Laws.{GoesOnTo}
use Rattle.norm_receive_rules.specs.ReceiverState.{ReceiverState}
use Rattle.norm_receive_rules.specs.ReceiverStep as heard_by
use Rattle.norm_receive_rules.specs.Receiving.{received}
use Rattle.norm_receive_rules.specs.Ticking.{ticked}
use Rattle.norm_safety.proofs.EntryLemmas.{clash}
use Rattle.norm_safety.proofs.GoesOn.{OrderLater, order_itself}
use Rattle.norm_safety.proofs.ReceiverMoves.{tick_same}
use Rattle.norm_safety.proofs.SenderHolds.{some_octets}
use Rattle.norm_safety.proofs.SenderKeeps.{told_keeps}
use Rattle.norm_safety.proofs.WorldLemmas.{world_laws}
use Rattle.norm_safety.specs.Events.{Event, Commanded, Delivered, Ticked, Offered, UpTaken, NewsAsked, Answer}
use Rattle.norm_safety.specs.Events as world
use Rattle.norm_safety.specs.Hands.{instance_at}
use Rattle.norm_safety.specs.World.{receiver_at}
use Rattle.norm_safety.specs.WorldLaws.{is_senders, comes_to}
use Rattle.norm_safety.specs.WorldStep.{world_step}
use Rattle.norm_send_rules.specs.SenderState.{SenderState, Instance}
use Rattle.norm_send_rules.specs.Waiting.{may_wait}
use Rattle.norm_send_rules.specs.declared.fault.SendFault.{SendFault}
use Rattle.norm_send_rules.specs.declared.job.Job.{Job}
use Rattle.norm_send_rules.specs.declared.job.Job.TheVariants as job
use Rattle.norm_send_rules.specs.declared.job.Receipt.{Receipt}
use Rattle.norm_relay.specs.Handing.{IsLawfulSide, AreLawful}
use Rattle.norm_relay.specs.HandLaws.{IsFresh}
use Rattle.norm_relay.specs.OrderLaws.{Ordered, AreNamed}
use Rattle.norm_relay.specs.Pumping.{Stop, Emptied, Crowded, Refused, Pumped, job_of, commands, passes, enqueues, stops, stop_by, one_more, begins_anew, anew_is_done, restart_job, enqueues_first, mark_position, pledges, with_pledge, marks, marks_for, marks_again, is_met, asks_nothing, asks_for, asks, pumped}
use Rattle.norm_relay.specs.RelayKept.{with_ups}
use Rattle.norm_relay.specs.RelayState.{Relaying, Pledge, upper_instance, next_origin}
use Rattle.norm_relay.specs.RelayStep.{RelayEvent, UpDelivered, DownDelivered, PumpAsked, UpTicked, DownTicked, DownNews, DownStruck, Above, Below, RelayAnswer, Took, Sent, Other, relay_step, ups_of, takes, goes_on, leaves, takes_all, receiver_hears, hears_up, delivers_up, is_ack, says_up, given_by, receiver_ticks, ticks_up, below, above}
use Rattle.norm_relay.specs.Sides.{Side, happens_in}
use Rattle.norm_relay.proofs.ConfirmLemmas.{Confirmed, Pledged, StaysIn, Promises, PromisesOf, confirmed_later, promises_below, promises_above, tick_confirmed}
use Rattle.norm_relay.proofs.FreshLemmas.{side_lawful, takes_lawful}
use Rattle.norm_relay.proofs.GoesOnLemmas.{Goes, goes_itself, goes_with, goes_both, command_later, job_keeps}
use Rattle.norm_relay.proofs.HandLemmas.{IsRun, side_run, core_of, Handed, moves_handed, first_moves, begins_moves, step_handed}
use Rattle.norm_relay.proofs.OrderLemmas.{first_ordered}
use Rattle.norm_relay.proofs.PledgeLemmas.{pledge_begins}
use Rattle.norm_relay.proofs.StepLemmas.{heard_current, ticked_current, step_ordered}
use Rattle.norm_relay.proofs.UpperLemmas.{delivered_at, after_take, ticked_at, ticked_says, offered_at}

-- ---- the session below

current_later : (s t : SenderState) → t.current ≡ s.current → OrderLater s.current.order t.current.order
current_later s t same = subst (λ (i : Instance). OrderLater s.current.order i.order) (sym same) (order_itself s.current.order)

-- a job that begins no instance
job_promises : (now : ℕ) (x : Relaying) (given : Job) → 0 < x.lower.p.e
    → OrderLater x.lower.world.sender.current.order (commands now given x).0.lower.world.sender.current.order → PromisesOf x
    → PromisesOf (commands now given x).0
job_promises now x given some later h =
    promises_below x.upper x.node x.anew x.unmarked x.pledge x.lower.p x.lower.world.sender.current.order
    (commands now given x).0.lower.world.sender.current.order some later h

abbrev PromisesTo : Pumped → Type 0
PromisesTo done = PromisesOf done.state

enqueues_promises : (now : ℕ) (ups : List Up) (x : Relaying) → 0 < x.lower.p.e → PromisesOf x → PromisesOf (enqueues now ups x).state
unfolding enqueues
enqueues_promises now [] x some h = h
enqueues_promises now (u ∷ ups) x some h = go (job_of x.opened u) refl (λ y more k. enqueues_promises now ups y more k)
  where
    answered : (y : Relaying) (r : Result Receipt SendFault) → 0 < y.lower.p.e → PromisesOf y
        → ((z : Relaying) → 0 < z.lower.p.e → PromisesOf z → PromisesOf (enqueues now ups z).state)
        → PromisesTo (elim r [ Ok receipt ↦ one_more (enqueues now ups (passes u y)) | Err fault ↦ stops (stop_by fault) (u ∷ ups) y ])
    answered y (Ok receipt) few k more = more (passes u y) few k
    answered y (Err fault) few k more = k

    go : (o : Option Job) → job_of x.opened u ≡ o → ((z : Relaying) → 0 < z.lower.p.e → PromisesOf z → PromisesOf (enqueues now ups z).state)
        → PromisesTo (elim o [
          | None ↦ enqueues now ups (passes u x)
          | Some job ↦ let step = commands now job x in elim step.1 [
            | Ok receipt ↦ one_more (enqueues now ups (passes u step.0))
            | Err fault ↦ stops (stop_by fault) (u ∷ ups) step.0
          ]
        ])
    go None e more = more (passes u x) some h
    go (Some given) e more =
        answered (commands now given x).0 (commands now given x).1 some
        (job_promises now x given some (command_later x.lower.p x.lower.world.sender (next_origin x) given (job_keeps x.opened u given e)) h) more

abbrev GoesTo : Relaying → Pumped → Type 0
GoesTo x done = Goes x.lower done.state.lower

enqueues_goes : (now : ℕ) (ups : List Up) (x : Relaying) → Goes x.lower (enqueues now ups x).state.lower
unfolding enqueues
enqueues_goes now [] x = goes_itself x.lower
enqueues_goes now (u ∷ ups) x = go (job_of x.opened u) (λ y. enqueues_goes now ups y)
  where
    answered : (given : Job) (r : Result Receipt SendFault) → ((z : Relaying) → Goes z.lower (enqueues now ups z).state.lower)
        → GoesTo x (elim r [
          | Ok receipt ↦ one_more (enqueues now ups (passes u (commands now given x).0))
          | Err fault ↦ stops (stop_by fault) (u ∷ ups) (commands now given x).0
        ])
    answered given (Ok receipt) more =
        goes_both x.lower (commands now given x).0.lower _ (goes_with x.lower (Commanded (next_origin x) given now)) (more (passes u (commands now given x).0))
    answered given (Err fault) more = goes_with x.lower (Commanded (next_origin x) given now)

    go : (o : Option Job) → ((z : Relaying) → Goes z.lower (enqueues now ups z).state.lower) → GoesTo x (elim o [
      | None ↦ enqueues now ups (passes u x)
      | Some job ↦ let step = commands now job x in elim step.1 [
        | Ok receipt ↦ one_more (enqueues now ups (passes u step.0))
        | Err fault ↦ stops (stop_by fault) (u ∷ ups) step.0
      ]
    ])
    go None more = more (passes u x)
    go (Some given) more = answered given (commands now given x).1 more

-- after all was enqueued nothing waits
abbrev IsEmptied : Pumped → Type 0
IsEmptied done = done.stop ≡ Emptied → done.state.waiting ≡ []

enqueues_emptied : (now : ℕ) (ups : List Up) (x : Relaying) → IsEmptied (enqueues now ups x)
unfolding enqueues
enqueues_emptied now [] x = λ e. refl
enqueues_emptied now (u ∷ ups) x = go (job_of x.opened u) (λ y. enqueues_emptied now ups y)
  where
    stopped : (fault : SendFault) (y : Relaying) → IsEmptied (stops (stop_by fault) (u ∷ ups) y)
    stopped fault y = by (may_wait fault)
      where
        by : (b : Bool) → elim b [ true ↦ Crowded | false ↦ Refused fault ] ≡ Emptied → u ∷ ups ≡ []
        by true e = absurd (cc)
        by false e = absurd (cc)

    answered : (y : Relaying) (r : Result Receipt SendFault) → ((z : Relaying) → IsEmptied (enqueues now ups z))
        → IsEmptied (elim r [ Ok receipt ↦ one_more (enqueues now ups (passes u y)) | Err fault ↦ stops (stop_by fault) (u ∷ ups) y ])
    answered y (Ok receipt) more = more (passes u y)
    answered y (Err fault) more = stopped fault y

    go : (o : Option Job) → ((z : Relaying) → IsEmptied (enqueues now ups z)) → IsEmptied (elim o [
      | None ↦ enqueues now ups (passes u x)
      | Some job ↦ let step = commands now job x in elim step.1 [
        | Ok receipt ↦ one_more (enqueues now ups (passes u step.0))
        | Err fault ↦ stops (stop_by fault) (u ∷ ups) step.0
      ]
    ])
    go None more = more (passes u x)
    go (Some given) more = answered (commands now given x).0 (commands now given x).1 more

-- ---- beginning anew

-- nothing has a watermark while a restart waits
none_pledged : (P : Pledge → Type 0) (anew : Bool) (pledge : Option Pledge) → anew ≡ true → IfSome pledge (λ held. anew ≡ false) → IfSome pledge P
none_pledged P anew None e h = tt
none_pledged P anew (Some held) e h = absurd (clash (sym h ∙ e))

abbrev PromisesAsked : Relaying × Option SendFault → Type 0
PromisesAsked step = PromisesOf step.0

begins_promises : (now : ℕ) (x : Relaying) → PromisesOf x → PromisesOf (begins_anew now x).0
begins_promises now x h = go x.anew refl
  where
    y : Relaying
    y = (commands now (restart_job x) x).0

    IsPledged : Pledge → Type 0
    IsPledged held = Pledged x.upper x.node x.lower.p (commands now (restart_job x) x).0.lower.world.sender.current.order held.datagram held.at

    answered : x.anew ≡ true → (r : Result Receipt SendFault) → PromisesAsked (elim r [ Ok receipt ↦ (anew_is_done y, None) | Err fault ↦ (y, Some fault) ])
    answered e (Ok receipt) = record {
      unmarked = h.unmarked;
      pledged = none_pledged IsPledged x.anew x.pledge e h.begun;
      begun = none_pledged (λ (held : Pledge). false ≡ false) x.anew x.pledge e h.begun;
    }
    answered e (Err fault) = record { unmarked = h.unmarked; pledged = none_pledged IsPledged x.anew x.pledge e h.begun; begun = h.begun }

    go : (b : Bool) → x.anew ≡ b → PromisesAsked (elim b [
      | false ↦ (x, None)
      | true ↦ let step = commands now (restart_job x) x in elim step.1 [
        | Ok receipt ↦ (anew_is_done step.0, None)
        | Err fault ↦ (step.0, Some fault)
      ]
    ])
    go false e = h
    go true e = answered e (commands now (restart_job x) x).1

abbrev GoesAsked : Relaying → Relaying × Option SendFault → Type 0
GoesAsked x step = Goes x.lower step.0.lower

begins_goes : (now : ℕ) (x : Relaying) → Goes x.lower (begins_anew now x).0.lower
begins_goes now x = go x.anew
  where
    y : Relaying
    y = (commands now (restart_job x) x).0

    answered : (r : Result Receipt SendFault) → GoesAsked x (elim r [ Ok receipt ↦ (anew_is_done y, None) | Err fault ↦ (y, Some fault) ])
    answered (Ok receipt) = goes_with x.lower (Commanded (next_origin x) (restart_job x) now)
    answered (Err fault) = goes_with x.lower (Commanded (next_origin x) (restart_job x) now)

    go : (b : Bool) → GoesAsked x (elim b [
      | false ↦ (x, None)
      | true ↦ let step = commands now (restart_job x) x in elim step.1 [
        | Ok receipt ↦ (anew_is_done step.0, None)
        | Err fault ↦ (step.0, Some fault)
      ]
    ])
    go false = goes_itself x.lower
    go true = answered (commands now (restart_job x) x).1

-- ---- enqueuing what waits

first_promises : (now : ℕ) (step : Relaying × Option SendFault) → 0 < step.0.lower.p.e → PromisesOf step.0 → PromisesOf (enqueues_first now step).state
first_promises now step some h = go step.1
  where
    go : (o : Option SendFault) → PromisesTo (elim o [
      | None ↦ enqueues now (step.0).waiting step.0
      | Some fault ↦ stops (Refused fault) (step.0).waiting step.0
    ])
    go None = enqueues_promises now step.0.waiting step.0 some h
    go (Some fault) = h

first_goes : (now : ℕ) (step : Relaying × Option SendFault) → Goes step.0.lower (enqueues_first now step).state.lower
first_goes now step = go step.1
  where
    go : (o : Option SendFault) → GoesTo step.0 (elim o [
      | None ↦ enqueues now (step.0).waiting step.0
      | Some fault ↦ stops (Refused fault) (step.0).waiting step.0
    ])
    go None = enqueues_goes now step.0.waiting step.0
    go (Some fault) = goes_itself step.0.lower

first_emptied : (now : ℕ) (step : Relaying × Option SendFault) → IsEmptied (enqueues_first now step)
first_emptied now step = go step.1
  where
    never : (fault : SendFault) → Refused fault ≡ Emptied → step.0.waiting ≡ []
    never fault e = absurd (cc)

    go : (o : Option SendFault) → IsEmptied (elim o [
      | None ↦ enqueues now (step.0).waiting step.0
      | Some fault ↦ stops (Refused fault) (step.0).waiting step.0
    ])
    go None = enqueues_emptied now step.0.waiting step.0
    go (Some fault) = never fault

-- after enqueuing all that waits, no restart waits
abbrev IsAnewOnly : Pumped → Type 0
IsAnewOnly done = done.stop ≡ Emptied → done.state.anew ≡ false

enqueues_anew : (now : ℕ) (ups : List Up) (x : Relaying) → (enqueues now ups x).state.anew ≡ x.anew
unfolding enqueues
enqueues_anew now [] x = refl
enqueues_anew now (u ∷ ups) x = go (job_of x.opened u) (λ y. enqueues_anew now ups y)
  where
    anew_of : Pumped → Bool
    anew_of done = done.state.anew

    answered : (y : Relaying) (r : Result Receipt SendFault) → ((z : Relaying) → (enqueues now ups z).state.anew ≡ z.anew)
        → anew_of (elim r [ Ok receipt ↦ one_more (enqueues now ups (passes u y)) | Err fault ↦ stops (stop_by fault) (u ∷ ups) y ]) ≡ y.anew
    answered y (Ok receipt) more = more (passes u y)
    answered y (Err fault) more = refl

    go : (o : Option Job) → ((z : Relaying) → (enqueues now ups z).state.anew ≡ z.anew) → anew_of (elim o [
      | None ↦ enqueues now ups (passes u x)
      | Some job ↦ let step = commands now job x in elim step.1 [
        | Ok receipt ↦ one_more (enqueues now ups (passes u step.0))
        | Err fault ↦ stops (stop_by fault) (u ∷ ups) step.0
      ]
    ]) ≡ x.anew
    go None more = more (passes u x)
    go (Some given) more = answered (commands now given x).0 (commands now given x).1 more

first_anew : (now : ℕ) (step : Relaying × Option SendFault) → (step.1 ≡ None → step.0.anew ≡ false) → IsAnewOnly (enqueues_first now step)
first_anew now step begun = go step.1 begun
  where
    never : (fault : SendFault) → Refused fault ≡ Emptied → step.0.anew ≡ false
    never fault e = absurd (cc)

    go : (o : Option SendFault) → (o ≡ None → step.0.anew ≡ false) → IsAnewOnly (elim o [
      | None ↦ enqueues now (step.0).waiting step.0
      | Some fault ↦ stops (Refused fault) (step.0).waiting step.0
    ])
    go None h = λ e. enqueues_anew now step.0.waiting step.0 ∙ h refl
    go (Some fault) h = never fault

-- ---- asking the members below

-- what is held back keeps its promises after a step of asking, if the session below is lawful then
abbrev Asks : Relaying × Option SendFault → Type 0
Asks step = IsLawfulSide step.0.lower → PromisesOf step.0

marks_goes : (now : ℕ) (x : Relaying) → Goes x.lower (marks now x).0.lower
marks_goes now x = goes_with x.lower (Commanded (next_origin x) (job.Mark None) now)

marks_promises : (now : ℕ) (x : Relaying) → 0 < x.lower.p.e → PromisesOf x → PromisesOf (marks now x).0
marks_promises now x some h =
    job_promises now x (job.Mark None) some (command_later x.lower.p x.lower.world.sender (next_origin x) (job.Mark None) tt) h

-- a state in which all was enqueued
record IsReady (x : Relaying) : Type 0 where
  handed : Handed (core_of x)
  ordered : Ordered x
  below : IsRun x.lower
  begun : x.anew ≡ false
  empty : x.waiting ≡ []

for_promises : (now : ℕ) (datagram : Written) (x : Relaying) → 0 < x.lower.p.e → IsReady x → Confirmed x.upper x.node datagram → PromisesOf x
    → Asks (marks_for now datagram x)
for_promises now datagram x some ready c h = by (marks now x).1 refl
  where
    y : Relaying
    y = (marks now x).0

    k : PromisesOf (marks now x).0
    k = marks_promises now x some h

    Kept : Relaying → Type 0
    Kept z = IsLawfulSide z.lower → PromisesOf z

    by : (r : Result Receipt SendFault) → (marks now x).1 ≡ r → Kept (with_pledge datagram r (marks now x).0)
    by (Err fault) e = λ l. k
    by (Ok receipt) e = at (mark_position receipt) refl
      where
        at : (o : Option Position) → mark_position receipt ≡ o
            → Kept (elim o [ Some at ↦ pledges datagram at (marks now x).0 | None ↦ (marks now x).0 ])
        at None is = λ l. k
        at (Some mark) is = λ l. record {
          unmarked = tt;
          pledged = pledge_begins now x datagram ready.handed ready.ordered ready.below ready.begun ready.empty c l receipt mark e is;
          begun = ready.begun;
        }

again_promises : (now : ℕ) (x : Relaying) → 0 < x.lower.p.e → IsReady x → PromisesOf x → Asks (marks_again now x)
again_promises now x some ready h = go x.pledge h.pledged
  where
    met : (held : Pledge) → Confirmed x.upper x.node held.datagram → (b : Bool) → Asks (elim b [ true ↦ (x, None) | false ↦ marks_for now held.datagram x ])
    met held c true = λ l. h
    met held c false = for_promises now held.datagram x some ready c h

    go : (o : Option Pledge) → IfSome o (λ held. Pledged x.upper x.node x.lower.p x.lower.world.sender.current.order held.datagram held.at) → Asks (elim o [
      | Some held ↦ elim (is_met x held) [ true ↦ (x, None) | false ↦ marks_for now held.datagram x ]
      | None ↦ (x, None)
    ])
    go None g = λ l. h
    go (Some held) g = met held g.confirmed (is_met x held)

asks_promises : (now : ℕ) (stop : Stop) (x : Relaying) → 0 < x.lower.p.e → (stop ≡ Emptied → IsReady x) → PromisesOf x → Asks (asks now stop x)
asks_promises now stop x some ready h = go (asks_nothing x)
  where
    emptied : IsReady x → (o : Option Written) → IfSome o (λ datagram. Confirmed x.upper x.node datagram)
        → Asks (elim o [ Some datagram ↦ marks_for now datagram x | None ↦ marks_again now x ])
    emptied r None c = again_promises now x some r h
    emptied r (Some datagram) c = for_promises now datagram x some r c h

    by : (stop : Stop) → (stop ≡ Emptied → IsReady x) → Asks (asks_for now stop x)
    by Emptied r = emptied (r refl) x.unmarked h.unmarked
    by Crowded r = λ l. marks_promises now x some h
    by (Refused fault) r = λ l. h

    go : (b : Bool) → Asks (elim b [ true ↦ asks_for now stop x | false ↦ (x, None) ])
    go true = by stop ready
    go false = λ l. h

asks_goes : (now : ℕ) (stop : Stop) (x : Relaying) → Goes x.lower (asks now stop x).0.lower
asks_goes now stop x = go (asks_nothing x)
  where
    marked : (datagram : Written) → Goes x.lower (marks_for now datagram x).0.lower
    marked datagram = by (marks now x).1
      where
        by : (r : Result Receipt SendFault) → Goes x.lower (with_pledge datagram r (marks now x).0).lower
        by (Err fault) = marks_goes now x
        by (Ok receipt) = at (mark_position receipt)
          where
            pledged_by : Option Position → Relaying
            pledged_by o = elim o [ Some at ↦ pledges datagram at (marks now x).0 | None ↦ (marks now x).0 ]

            at : (o : Option Position) → Goes x.lower (pledged_by o).lower
            at None = marks_goes now x
            at (Some mark) = marks_goes now x

    met : (held : Pledge) (b : Bool) → GoesAsked x (elim b [ true ↦ (x, None) | false ↦ marks_for now held.datagram x ])
    met held true = goes_itself x.lower
    met held false = marked held.datagram

    again : (o : Option Pledge) → GoesAsked x (elim o [
      | Some held ↦ elim (is_met x held) [ true ↦ (x, None) | false ↦ marks_for now held.datagram x ]
      | None ↦ (x, None)
    ])
    again None = goes_itself x.lower
    again (Some held) = met held (is_met x held)

    emptied : (o : Option Written) → GoesAsked x (elim o [ Some datagram ↦ marks_for now datagram x | None ↦ marks_again now x ])
    emptied None = again x.pledge
    emptied (Some datagram) = marked datagram

    by : (stop : Stop) → GoesAsked x (asks_for now stop x)
    by Emptied = emptied x.unmarked
    by Crowded = marks_goes now x
    by (Refused fault) = goes_itself x.lower

    go : (b : Bool) → GoesAsked x (elim b [ true ↦ asks_for now stop x | false ↦ (x, None) ])
    go true = by stop
    go false = goes_itself x.lower

-- ---- all that is kept

pub record Good (x : Relaying) : Type 0 where
  pub handed : Handed (core_of x)
  pub ordered : Ordered x
  pub below : IsRun x.lower
  pub promises : PromisesOf x

-- what is held back keeps its promises after an event
abbrev PromisesStep : Relaying × RelayAnswer → Type 0
PromisesStep step = PromisesOf step.0

abbrev GoesStep : Relaying → Relaying × RelayAnswer → Type 0
GoesStep x step = Goes x.lower step.0.lower

-- the session above is lawful after an event
abbrev LawfulAbove : Relaying × RelayAnswer → Type 0
LawfulAbove step = IsLawfulSide step.0.upper

pumped_promises : (now : ℕ) (x : Relaying) → 0 < x.lower.p.e → AreNamed x.waiting → Good x → IsLawfulSide (pumped now x).0.lower → PromisesOf (pumped now x).0
pumped_promises now x some named g lawful =
    let step : Relaying × Option SendFault = begins_anew now x in
    let done : Pumped = enqueues_first now step in
    let first : Goes x.lower step.0.lower = begins_goes now x in
    let goes : Goes x.lower done.state.lower = goes_both x.lower step.0.lower done.state.lower first (first_goes now step) in
    let few : 0 < step.0.lower.p.e = subst (λ (p : Settings). 0 < p.e) (sym first.profile) some in
    let less : 0 < done.state.lower.p.e = subst (λ (p : Settings). 0 < p.e) (sym goes.profile) some in
    let begun = begins_moves now x in
    asks_promises now done.stop done.state less (λ stop. record {
      handed = moves_handed x done.state (first_moves now x step begun) g.handed;
      ordered = first_ordered now x named g.ordered;
      below = goes.run g.below;
      begun = first_anew now step begun.1 stop;
      empty = first_emptied now step stop;
    }) (first_promises now step few (begins_promises now x g.promises)) lawful

-- the session below goes on through a pump
pumped_goes : (now : ℕ) (x : Relaying) → Goes x.lower (pumped now x).0.lower
pumped_goes now x =
    let step : Relaying × Option SendFault = begins_anew now x in
    let done : Pumped = enqueues_first now step in
    goes_both x.lower step.0.lower _ (begins_goes now x) (goes_both step.0.lower done.state.lower _ (first_goes now step) (asks_goes now done.stop done.state))

-- ---- what is heard and said above

receiver_promises : (now : ℕ) (x : Relaying) → Handed (core_of x) → PromisesOf x → IsLawfulSide (receiver_ticks now x).0.upper
    → PromisesStep (receiver_ticks now x)
receiver_promises now x h k lawful = said (given_by (happens_in x.upper (Ticked x.node now)).1) refl lawful
  where
    s : Side
    s = (happens_in x.upper (Ticked x.node now)).0

    y : Relaying
    y = record x { upper = (happens_in x.upper (Ticked x.node now)).0 }

    found : receiver_at (happens_in x.upper (Ticked x.node now)).0.world x.node ≡ Some (ticked x.upper.p h.state now).0
    found = ticked_at x.upper x.node now h.state h.member h.found

    in_of : Option ReceiverState → Option ℕ
    in_of o = elim o [ Some r ↦ r.instance | None ↦ None ]

    stays : StaysIn x.upper (happens_in x.upper (Ticked x.node now)).0 x.node
    stays id e =
        ap in_of found ∙ (tick_same x.upper.p h.state now).instance ∙ sym (ap in_of h.found) ∙ e

    ticks : IsLawfulSide (happens_in x.upper (Ticked x.node now)).0 → PromisesOf y
    ticks l = promises_above x.upper (Ticked x.node now) x.node x.anew x.unmarked x.pledge x.lower.p x.lower.world.sender.current.order h.run l stays k

    offers : (octets : List ℕ) → StaysIn s (happens_in s (Offered x.node octets)).0 x.node
    offers octets id e = ap in_of (offered_at s x.node octets) ∙ e

    offered : (datagram : Written) → given_by (happens_in x.upper (Ticked x.node now)).1 ≡ Some datagram → is_ack datagram.message ≡ true
        → IsLawfulSide (happens_in s (Offered x.node datagram.octets)).0
        → PromisesOf (record y { upper = (happens_in s (Offered x.node datagram.octets)).0; unmarked = Some datagram })
    offered datagram e ack l =
        let first = side_lawful s (Offered x.node datagram.octets) l in
        let run = side_run x.upper (Ticked x.node now) h.run in
        let kept =
        promises_above s (Offered x.node datagram.octets) x.node x.anew x.unmarked x.pledge x.lower.p x.lower.world.sender.current.order run l
        (offers datagram.octets) (ticks first) in
        let c =
        tick_confirmed x.upper x.node now h.state datagram h.run h.found first (sym (ticked_says x.upper x.node now h.state h.member h.found) ∙ e) ack in
        record {
          unmarked =
              confirmed_later s (Offered x.node datagram.octets) x.node datagram run l (offers datagram.octets)
              (confirmed_later x.upper (Ticked x.node now) x.node datagram h.run first stays c);
          pledged = kept.pledged;
          begun = kept.begun;
        }

    by : Written → Bool → Relaying × RelayAnswer
    by datagram b = elim b [
      | true ↦ (record y { upper = (happens_in y.upper (Offered x.node datagram.octets)).0; unmarked = Some datagram }, Sent None)
      | false ↦ (y, Sent (Some datagram))
    ]

    acked : (datagram : Written) → given_by (happens_in x.upper (Ticked x.node now)).1 ≡ Some datagram → (b : Bool) → is_ack datagram.message ≡ b
        → LawfulAbove (by datagram b) → PromisesStep (by datagram b)
    acked datagram e true ack l = offered datagram e ack l
    acked datagram e false ack l = ticks l

    said : (o : Option Written) → given_by (happens_in x.upper (Ticked x.node now)).1 ≡ o → LawfulAbove (says_up o y) → PromisesStep (says_up o y)
    said None e l = ticks l
    said (Some datagram) e l = acked datagram e (is_ack datagram.message) refl l

ticks_promises : (now : ℕ) (x : Relaying) → Handed (core_of x) → PromisesOf x → LawfulAbove (ticks_up now x) → PromisesStep (ticks_up now x)
ticks_promises now x h k lawful = go x.pledge lawful
  where
    met_by : Pledge → Bool → Relaying × RelayAnswer
    met_by held b = elim b [ true ↦ (record x { pledge = None }, Sent (Some held.datagram)) | false ↦ receiver_ticks now x ]

    met : (held : Pledge) (b : Bool) → LawfulAbove (met_by held b) → PromisesStep (met_by held b)
    met held true l = record { unmarked = k.unmarked; pledged = tt; begun = tt }
    met held false l = receiver_promises now x h k l

    by : Option Pledge → Relaying × RelayAnswer
    by o = elim o [ Some held ↦ met_by held (is_met x held) | None ↦ receiver_ticks now x ]

    go : (o : Option Pledge) → LawfulAbove (by o) → PromisesStep (by o)
    go None l = receiver_promises now x h k l
    go (Some held) l = met held (is_met x held) l

-- the node stays in its instance, unless it goes on to another
stays_with : (i i' : Option ℕ) → GoesOnTo i i' → goes_on i i' ≡ false → (id : ℕ) → i ≡ Some id → i' ≡ Some id
stays_with None i' goes e id is = absurd (never is)
  where
    never : None ≡ Some id → ⊥
    never is = cc
stays_with (Some a) None (inl same) e id is = absurd (cc)
stays_with (Some a) None (inr (b, to, above)) e id is = absurd (cc)
stays_with (Some a) (Some b) goes e id is = ap Some (sym ((Decides-eqb a b).0 (same (a == b) e))) ∙ is
  where
    same : (t : Bool) → not t ≡ false → t ≡ true
    same true e = refl
    same false e = absurd (clash (sym e))

-- all hand-ups are taken
takes_promises : (node : ℕ) (ups : List Up) (s : Side) (r : ReceiverState) (anew : Bool) (unmarked : Option Written) (pledge : Option Pledge) (q : Settings)
    (order : List Entry) → receiver_at s.world node ≡ Some r → r.holding.ups ≡ ups → IsRun s → IsLawfulSide (takes node ups s)
    → Promises s node anew unmarked pledge q order → Promises (takes node ups s) node anew unmarked pledge q order
unfolding takes
takes_promises node [] s r anew unmarked pledge q order found e is l h = h
takes_promises node (u ∷ ups) s r anew unmarked pledge q order found e is l h =
    let t : Side = (happens_in s (UpTaken node)).0 in
    let after : receiver_at t.world node ≡ Some (with_ups ups r) =
    world_laws.moves s.p s.world (UpTaken node) node heard_by.UpTaken r refl refl found ∙ ap Some (after_take r u ups e) in
    takes_promises node ups t (with_ups ups r) anew unmarked pledge q order after refl (side_run s (UpTaken node) is) l
    (promises_above s (UpTaken node) node anew unmarked pledge q order is (takes_lawful node ups t l) (λ id was. in_one t (with_ups ups r) after ∙ sym (in_one s r found) ∙ was) h)
  where
    in_one : (w : Side) (state : ReceiverState) → receiver_at w.world node ≡ Some state → instance_at w.world node ≡ state.instance
    in_one w state e = ap (λ (o : Option ReceiverState). elim o [ Some r ↦ r.instance | None ↦ None ]) e

delivers_promises : (datagram : List ℕ) (now draw : ℕ) (x : Relaying) → Handed (core_of x) → PromisesOf x → LawfulAbove (delivers_up datagram now draw x)
    → PromisesStep (delivers_up datagram now draw x)
delivers_promises datagram now draw x h k lawful = go x.waiting lawful
  where
    event : Event
    event = Delivered x.node datagram now draw

    s : Side
    s = (happens_in x.upper (Delivered x.node datagram now draw)).0

    r : ReceiverState
    r = received x.upper.p h.state datagram now draw

    found : receiver_at (happens_in x.upper (Delivered x.node datagram now draw)).0.world x.node ≡ Some r
    found = delivered_at x.upper x.node now draw datagram h.state h.member h.found

    in_of : Option ReceiverState → Option ℕ
    in_of o = elim o [ Some r ↦ r.instance | None ↦ None ]

    ups : List Up
    ups = ups_of (receiver_at (happens_in x.upper (Delivered x.node datagram now draw)).0.world x.node)

    stays : goes_on (upper_instance x) (upper_instance (receiver_hears datagram now draw x)) ≡ false → StaysIn x.upper s x.node
    stays e id is =
        ap in_of found
        ∙ stays_with h.state.instance r.instance (step_laws.instance x.upper.p h.state (heard_by.Delivered datagram now draw))
        (sym (ap (λ i. goes_on i (upper_instance (receiver_hears datagram now draw x))) (ap in_of h.found) ∙ ap (goes_on h.state.instance) (ap in_of found)) ∙ e)
        id (sym (ap in_of h.found) ∙ is)

    heard : (b : Bool) → goes_on (upper_instance x) (upper_instance (receiver_hears datagram now draw x)) ≡ b
        → IsLawfulSide (takes_all (leaves b (receiver_hears datagram now draw x))).upper
        → PromisesOf (takes_all (leaves b (receiver_hears datagram now draw x)))
    heard true e l = record { unmarked = tt; pledged = tt; begun = tt }
    heard false e l =
        takes_promises x.node ups s r x.anew x.unmarked x.pledge x.lower.p x.lower.world.sender.current.order found (sym (ap ups_of found))
        (side_run x.upper event h.run) l
        (promises_above x.upper event x.node x.anew x.unmarked x.pledge x.lower.p x.lower.world.sender.current.order h.run (takes_lawful x.node ups s l) (stays e) k)

    by : List Up → Relaying × RelayAnswer
    by waiting = elim waiting [ u ∷ ups ↦ (x, Took false) | [] ↦ (takes_all (hears_up datagram now draw x), Took true) ]

    go : (waiting : List Up) → LawfulAbove (by waiting) → PromisesStep (by waiting)
    go [] l = heard (goes_on (upper_instance x) (upper_instance (receiver_hears datagram now draw x))) refl l
    go (u ∷ ups) l = k

above_promises : (event : Event) (x : Relaying) → comes_to x.node event ≡ false → Handed (core_of x) → PromisesOf x → LawfulAbove (above event x)
    → PromisesStep (above event x)
above_promises event x e h k l =
    promises_above x.upper event x.node x.anew x.unmarked x.pledge x.lower.p x.lower.world.sender.current.order h.run l
    (λ id is. (
    ap (λ (o : Option ReceiverState). elim o [ Some r ↦ r.instance | None ↦ None ]) (world_laws.others x.upper.p x.upper.world event x.node e) ∙ is
    )) k

-- an event below that leaves the sender's instance
below_promises : (word : Answer → RelayAnswer) (event : Event) (x : Relaying) → 0 < x.lower.p.e
    → (world_step x.lower.p x.lower.world event).0.sender.current ≡ x.lower.world.sender.current → PromisesOf x → PromisesStep (below word event x)
below_promises word event x some kept h =
    promises_below x.upper x.node x.anew x.unmarked x.pledge x.lower.p x.lower.world.sender.current.order
    (happens_in x.lower event).0.world.sender.current.order some (current_later x.lower.world.sender (happens_in x.lower event).0.world.sender kept) h

-- ---- each event

-- the session below goes on
delivers_below : (datagram : List ℕ) (now draw : ℕ) (x : Relaying) → Goes x.lower (delivers_up datagram now draw x).0.lower
delivers_below datagram now draw x = go x.waiting
  where
    heard : (b : Bool) → Goes x.lower (takes_all (leaves b (receiver_hears datagram now draw x))).lower
    heard true = goes_itself x.lower
    heard false = goes_itself x.lower

    go : (waiting : List Up) → GoesStep x (elim waiting [ u ∷ ups ↦ (x, Took false) | [] ↦ (takes_all (hears_up datagram now draw x), Took true) ])
    go [] = heard (goes_on (upper_instance x) (upper_instance (receiver_hears datagram now draw x)))
    go (u ∷ ups) = goes_itself x.lower

ticks_below : (now : ℕ) (x : Relaying) → Goes x.lower (ticks_up now x).0.lower
ticks_below now x = go x.pledge
  where
    says : (given : Option Written) (y : Relaying) → Goes y.lower (says_up given y).0.lower
    says None y = goes_itself y.lower
    says (Some datagram) y = by (is_ack datagram.message)
      where
        by : (b : Bool) → GoesStep y (elim b [
          | true ↦ (record y { upper = (happens_in y.upper (Offered y.node datagram.octets)).0; unmarked = Some datagram }, Sent None)
          | false ↦ (y, Sent (Some datagram))
        ])
        by true = goes_itself y.lower
        by false = goes_itself y.lower

    receiver : Goes x.lower (receiver_ticks now x).0.lower
    receiver = (
        let step = happens_in x.upper (Ticked x.node now) in says (given_by step.1) (record x { upper = step.0 })
        )

    met : (held : Pledge) (b : Bool)
        → GoesStep x (elim b [ true ↦ (record x { pledge = None }, Sent (Some held.datagram)) | false ↦ receiver_ticks now x ])
    met held true = goes_itself x.lower
    met held false = receiver

    go : (o : Option Pledge) → GoesStep x (elim o [
      | Some held ↦ elim (is_met x held) [ true ↦ (record x { pledge = None }, Sent (Some held.datagram)) | false ↦ receiver_ticks now x ]
      | None ↦ receiver_ticks now x
    ])
    go None = receiver
    go (Some held) = met held (is_met x held)

pub step_goes : (x : Relaying) (e : RelayEvent) → Goes x.lower (relay_step x e).0.lower
step_goes x (UpDelivered datagram now draw) = delivers_below datagram now draw x
step_goes x (DownDelivered datagram now) = goes_with x.lower (Delivered x.lower.p.sender datagram now 0)
step_goes x (PumpAsked now) = pumped_goes now x
step_goes x (UpTicked now) = ticks_below now x
step_goes x (DownTicked now) = goes_with x.lower (Ticked x.lower.p.sender now)
step_goes x DownNews = goes_with x.lower NewsAsked
step_goes x (DownStruck node now) = goes_with x.lower (Commanded (next_origin x) (job.Strike node) now)
step_goes x (Above event) = go (comes_to x.node event)
  where
    go : (b : Bool) → GoesStep x (elim b [ true ↦ (x, Other world.Silent) | false ↦ above event x ])
    go true = goes_itself x.lower
    go false = goes_itself x.lower
step_goes x (Below event) = go (is_senders x.lower.p event)
  where
    go : (b : Bool) → GoesStep x (elim b [ true ↦ (x, Other world.Silent) | false ↦ below Other event x ])
    go true = goes_itself x.lower
    go false = goes_with x.lower event

step_promises : (x : Relaying) (e : RelayEvent) → AreNamed x.waiting → AreLawful (relay_step x e).0 → Good x → PromisesStep (relay_step x e)
step_promises x e named lawful g = go e lawful
  where
    some_of : (y : Relaying) → Goes x.lower y.lower → AreLawful y → 0 < x.lower.p.e
    some_of y goes l = some_octets x.lower.p (goes.lawful l.lower).range

    go : (e : RelayEvent) → AreLawful (relay_step x e).0 → PromisesStep (relay_step x e)
    go (UpDelivered datagram now draw) l = delivers_promises datagram now draw x g.handed g.promises l.upper
    go (DownDelivered datagram now) l =
        below_promises Other (Delivered x.lower.p.sender datagram now 0) x (some_of _ (step_goes x (DownDelivered datagram now)) l)
        (heard_current x.lower.p x.lower.world datagram now) g.promises
    go (PumpAsked now) l = pumped_promises now x (some_of _ (step_goes x (PumpAsked now)) l) named g l.lower
    go (UpTicked now) l = ticks_promises now x g.handed g.promises l.upper
    go (DownTicked now) l =
        below_promises (λ (answer : Answer). Sent (given_by answer)) (Ticked x.lower.p.sender now) x (some_of _ (step_goes x (DownTicked now)) l)
        (ticked_current x.lower.p x.lower.world now) g.promises
    go DownNews l = below_promises Other NewsAsked x (some_of _ (step_goes x DownNews) l) (told_keeps x.lower.world.sender).current g.promises
    go (DownStruck node now) l =
        job_promises now x (job.Strike node) (some_of _ (step_goes x (DownStruck node now)) l)
        (command_later x.lower.p x.lower.world.sender (next_origin x) (job.Strike node) tt) g.promises
    go (Above event) l = by (comes_to x.node event) refl l.upper
      where
        at : Bool → Relaying × RelayAnswer
        at b = elim b [ true ↦ (x, Other world.Silent) | false ↦ above event x ]

        by : (b : Bool) → comes_to x.node event ≡ b → LawfulAbove (at b) → PromisesStep (at b)
        by true e u = g.promises
        by false e u = above_promises event x e g.handed g.promises u
    go (Below event) l = by (is_senders x.lower.p event) refl
      where
        by : (b : Bool) → is_senders x.lower.p event ≡ b → PromisesStep (elim b [ true ↦ (x, Other world.Silent) | false ↦ below Other event x ])
        by true e = g.promises
        by false e =
            below_promises Other event x (some_of _ (step_goes x (Below event)) l)
            (ap (λ (s : SenderState). s.current) (world_laws.sender x.lower.p x.lower.world event e)) g.promises

pub step_good : (x : Relaying) (e : RelayEvent) → IsFresh x e → AreNamed x.waiting → AreLawful (relay_step x e).0 → Good x → Good (relay_step x e).0
step_good x e fresh named lawful g = record {
  handed = step_handed x e fresh g.handed;
  ordered = step_ordered x e named g.ordered;
  below = (step_goes x e).run g.below;
  promises = step_promises x e named lawful g;
}
