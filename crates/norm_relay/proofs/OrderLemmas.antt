-- The order below is, as items, what was enqueued: each pump keeps that.
use Rattle.std.proofs.Common.{◌≡◌, ℕ, List, [], ◌∷◌, ◌++◌, Bool, true, false, Option, None, Some, Result, Ok, Err, refl, sym, ap, ◌∙◌}
use Rattle.std.specs.Prelude.{◌+◌, ◌%◌}
use Rattle.std.proofs.lemmas.List.{append-nil}
use Rattle.fec_plan.specs.declared.position.Position.{Position}
use Rattle.norm_ext.specs.Written.{Written}
use Rattle.norm_order.specs.declared.up.Up.{Up}
use Rattle.norm_order.specs.declared.up.Up.TheVariants as up
use Rattle.norm_send_rules.specs.SenderState.{SenderState}
use Rattle.norm_send_rules.specs.Commanding.{commanded}
use Rattle.norm_send_rules.specs.Restarting.{restarted, is_used, begun_anew}
use Rattle.norm_send_rules.specs.declared.fault.SendFault.{SendFault}
use Rattle.norm_send_rules.specs.declared.fault.SendFault.TheVariants.{IdUsed}
use Rattle.norm_send_rules.specs.declared.job.Job.{Job}
use Rattle.norm_send_rules.specs.declared.job.Job.TheVariants as job
use Rattle.norm_send_rules.specs.declared.job.Receipt.{Receipt}
use Rattle.norm_send_rules.specs.declared.job.Receipt.TheVariants as receipt
use Rattle.norm_relay.specs.Flat.{Item, items_of, flat_from, flat, open_behind}
use Rattle.norm_relay.specs.RelayState.{Relaying, Pledge, lower_instance, next_origin}
use Rattle.norm_relay.specs.Pumping.{job_of, commands, passes, Stop, Emptied, Crowded, Refused, Pumped, enqueues, stops, stop_by, one_more, begins_anew, anew_is_done, enqueues_first, mark_position, pledges, with_pledge, marks, marks_for, marks_again, is_met, asks_nothing, asks_for, asks, pumped}
use Rattle.norm_relay.proofs.FlatLemmas.{flat_one, open_one}
use Rattle.norm_relay.proofs.JobItems.{AddsItems, job_adds, mark_keeps}
use Rattle.norm_relay.specs.OrderLaws.{now_items, Ordered, AreNamed}

-- of what enqueuing led to
abbrev pub OrderedPumped : Pumped → Type 0
OrderedPumped done = Ordered done.state

-- a hand-up that becomes nothing brings nothing
none_items : (opened : Bool) (u : Up) → job_of opened u ≡ None → items_of opened u ≡ []
none_items opened (up.Object index kind info bytes) e = absurd (cc)
none_items opened (up.StreamOpen index) e = absurd (cc)
none_items opened (up.StreamBytes index offset bytes) e = absurd (cc)
none_items opened (up.StreamEnd index) e = absurd (cc)
none_items true (up.Lost index) e = absurd (cc)
none_items false (up.Lost index) e = refl

-- one hand-up is done, whose items the order gained
passes_ordered : (u : Up) (x y : Relaying) → Ordered x → y.done ≡ x.done → now_items y.lower.world.sender ≡ now_items x.lower.world.sender ++ items_of x.opened u
    → Ordered (passes u y)
passes_ordered u x y h done gained = record {
  order =
      gained ∙ ap (λ (zs : List Item). zs ++ items_of x.opened u) h.order
      ∙ ap (λ (b : Bool). flat x.done ++ items_of b u) (sym h.opened)
      ∙ sym (flat_one x.done u) ∙ ap (λ (us : List Up). flat (us ++ u ∷ [])) (sym done);
  opened = open_one y.done u;
}

pub enqueues_ordered : (now : ℕ) (ups : List Up) (x : Relaying) → AreNamed ups → Ordered x → Ordered (enqueues now ups x).state
unfolding enqueues
enqueues_ordered now [] x named h = record { order = h.order; opened = h.opened }
enqueues_ordered now (u ∷ ups) x named h = go (job_of x.opened u) refl (λ y k. enqueues_ordered now ups y named.1 k)
  where
    -- by the answer of a job
    by : (j : Job) (new : SenderState) (answer : Result Receipt SendFault) → AddsItems x.lower.world.sender (items_of x.opened u) (new, answer)
        → (y : Relaying) → y.done ≡ x.done → y.opened ≡ x.opened → y.lower.world.sender ≡ new → ((z : Relaying) → Ordered z → Ordered (enqueues now ups z).state)
        → OrderedPumped (elim answer [
          | Ok receipt ↦ one_more (enqueues now ups (passes u y))
          | Err fault ↦ stops (stop_by fault) (u ∷ ups) y
        ])
    by j new (Ok receipt) adds y done opened same more = more (passes u y) (passes_ordered u x y h done (ap now_items same ∙ adds))
    by j new (Err fault) adds y done opened same more = record {
      order = ap now_items same ∙ adds ∙ h.order ∙ ap flat (sym done);
      opened = ap (open_behind false) done ∙ h.opened ∙ sym opened;
    }

    go : (found : Option Job) → job_of x.opened u ≡ found → ((z : Relaying) → Ordered z → Ordered (enqueues now ups z).state)
        → OrderedPumped (elim found [
          | None ↦ enqueues now ups (passes u x)
          | Some j ↦ let step = commands now j x in elim step.1 [
            | Ok receipt ↦ one_more (enqueues now ups (passes u step.0))
            | Err fault ↦ stops (stop_by fault) (u ∷ ups) step.0
          ]
        ])
    go None e more =
        more (passes u x) (passes_ordered u x x h refl (
        sym (append-nil (now_items x.lower.world.sender)) ∙ ap (λ (zs : List Item). now_items x.lower.world.sender ++ zs) (sym (none_items x.opened u e))
        ))
    go (Some j) e more =
        let own = commanded x.lower.p x.lower.world.sender (next_origin x) j in
        by j own.0 own.1 (job_adds x.lower.p x.lower.world.sender (next_origin x) x.opened u j named.0 e) (commands now j x).0 refl refl refl more

-- a restart leaves an empty order, or changes nothing
abbrev BeginsEmpty : SenderState → SenderState × Result Receipt SendFault → Type 0
BeginsEmpty s step = elim step.1 [ Ok receipt ↦ now_items step.0 ≡ [] | Err fault ↦ now_items step.0 ≡ now_items s ]

restart_empties : (s : SenderState) (id : ℕ) → BeginsEmpty s (restarted s id)
restart_empties s id = go (is_used s id)
  where
    go : (used : Bool) → BeginsEmpty s (elim used [ true ↦ (s, Err (IdUsed id)) | false ↦ (begun_anew id s, Ok (receipt.Restarted id)) ])
    go true = refl
    go false = refl

-- what waits is enqueued, after the lower session began anew if it has to
pub first_ordered : (now : ℕ) (x : Relaying) → AreNamed x.waiting → Ordered x → Ordered (enqueues_first now (begins_anew now x)).state
unfolding flat_from open_behind
first_ordered now x named h = go x.anew
  where
    id : ℕ
    id = (lower_instance x + 1) % 65536

    by : (new : SenderState) (answer : Result Receipt SendFault) → BeginsEmpty x.lower.world.sender (new, answer)
        → (y : Relaying) → AreNamed y.waiting → y.done ≡ x.done → y.opened ≡ x.opened → y.lower.world.sender ≡ new
        → Ordered (enqueues_first now (elim answer [ Ok receipt ↦ (anew_is_done y, None) | Err fault ↦ (y, Some fault) ])).state
    by new (Ok receipt) empty y named done opened same =
        enqueues_ordered now y.waiting (anew_is_done y) named (record { order = ap now_items same ∙ empty; opened = refl })
    by new (Err fault) kept y named done opened same = record {
      order = ap now_items same ∙ kept ∙ h.order ∙ ap flat (sym done);
      opened = ap (open_behind false) done ∙ h.opened ∙ sym opened;
    }

    go : (b : Bool) → Ordered (enqueues_first now (elim b [
      | false ↦ (x, None)
      | true ↦ let step = commands now (job.Restart id) x in elim step.1 [ Ok receipt ↦ (anew_is_done step.0, None) | Err fault ↦ (step.0, Some fault) ]
    ])).state
    go false = enqueues_ordered now x.waiting x named h
    go true =
        let own = restarted x.lower.world.sender id in
        by own.0 own.1 (restart_empties x.lower.world.sender id) (commands now (job.Restart id) x).0 named refl refl refl

pub marks_ordered : (now : ℕ) (x : Relaying) → Ordered x → Ordered (marks now x).0
marks_ordered now x h = record { order = mark_keeps x.lower.p x.lower.world.sender (next_origin x) ∙ h.order; opened = h.opened }

-- what a step of asking leaves
abbrev OrderedAsked : Relaying × Option SendFault → Type 0
OrderedAsked step = Ordered step.0

pledged_ordered : (datagram : Written) (answer : Result Receipt SendFault) (x : Relaying) → Ordered x → Ordered (with_pledge datagram answer x)
pledged_ordered datagram (Err fault) x h = h
pledged_ordered datagram (Ok receipt) x h = go (mark_position receipt)
  where
    go : (at : Option Position) → Ordered (elim at [ Some at ↦ pledges datagram at x | None ↦ x ])
    go None = h
    go (Some at) = record { order = h.order; opened = h.opened }

for_ordered : (now : ℕ) (datagram : Written) (x : Relaying) → Ordered x → OrderedAsked (marks_for now datagram x)
for_ordered now datagram x h = pledged_ordered datagram (marks now x).1 (marks now x).0 (marks_ordered now x h)

again_ordered : (now : ℕ) (x : Relaying) → Ordered x → OrderedAsked (marks_again now x)
again_ordered now x h = go x.pledge
  where
    met : (pledge : Pledge) (b : Bool) → OrderedAsked (elim b [ true ↦ (x, None) | false ↦ marks_for now pledge.datagram x ])
    met pledge true = h
    met pledge false = for_ordered now pledge.datagram x h

    go : (o : Option Pledge) → OrderedAsked (elim o [
      | Some pledge ↦ elim (is_met x pledge) [ true ↦ (x, None) | false ↦ marks_for now pledge.datagram x ]
      | None ↦ (x, None)
    ])
    go None = h
    go (Some pledge) = met pledge (is_met x pledge)

asks_ordered : (now : ℕ) (stop : Stop) (x : Relaying) → Ordered x → OrderedAsked (asks now stop x)
asks_ordered now stop x h = go (asks_nothing x)
  where
    unmarked : (o : Option Written) → OrderedAsked (elim o [ Some datagram ↦ marks_for now datagram x | None ↦ marks_again now x ])
    unmarked None = again_ordered now x h
    unmarked (Some datagram) = for_ordered now datagram x h

    by : (stop : Stop) → OrderedAsked (asks_for now stop x)
    by Emptied = unmarked x.unmarked
    by Crowded = marks_ordered now x h
    by (Refused fault) = h

    go : (b : Bool) → OrderedAsked (elim b [ true ↦ asks_for now stop x | false ↦ (x, None) ])
    go true = by stop
    go false = h

pub pumped_ordered : (now : ℕ) (x : Relaying) → AreNamed x.waiting → Ordered x → Ordered (pumped now x).0
pumped_ordered now x named h =
    let done = enqueues_first now (begins_anew now x) in
    asks_ordered now done.stop done.state (first_ordered now x named h)
