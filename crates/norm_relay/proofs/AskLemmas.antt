-- A restart below, watermarks, and a pump as a whole.
use Rattle.std.proofs.Common.{◌≡◌, ℕ, ◌+◌, List, map, Bool, true, false, Option, None, Some, Result, Ok, Err, refl, sym, ap, ◌∙◌, subst}
use Rattle.std.specs.Prelude.{◌%◌, is_none, is_some, IfOk}
use Rattle.std.specs.Option.{option_map}
use Rattle.fec_plan.specs.declared.position.Position.{Position}
use Rattle.norm_base.specs.declared.fault.Memory.{Memory as NoMemory}
use Rattle.norm_ext.specs.Written.{Written}
use Rattle.norm_order.specs.declared.up.Up.{Up}
use Rattle.norm_send_rules.specs.SenderState.{SenderState, Watermark}
use Rattle.norm_send_rules.specs.Watermarks.{all_past, oldest}
use Rattle.norm_send_rules.specs.declared.fault.SendFault.{SendFault}
use Rattle.norm_send_rules.specs.declared.job.Job.{Job}
use Rattle.norm_send_rules.specs.declared.job.Job.TheVariants as job
use Rattle.norm_send_rules.specs.declared.job.Receipt.{Receipt}
use Rattle.norm_sender.specs.SenderKept.{Stands}
use Rattle.norm_relay.specs.Holding.{with_promise}
use Rattle.norm_relay.specs.Offering.{stop_of, IsEnqueued}
use Rattle.norm_relay.specs.Pumping.{Stop, Emptied, Crowded, Refused, Pumped, commands, fault_of, anew_is_done, restart_job, begins_anew, enqueues, enqueues_first, mark_position, with_pledge, marks_for, marks_for_room, marks_again, is_met, asks_nothing, asks_for, asks, told_of, finishes, pumped}
use Rattle.norm_relay.specs.RelayKept.{RelayKept, Agrees, StandsFor, below, holding, having, promise_of}
use Rattle.norm_relay.specs.RelayState.{Relaying, Pledge}
use Rattle.norm_relay.specs.Waiting.{waiting_of}
use Rattle.norm_relay.specs.declared.pumping.Enqueued.{Enqueued}
use Rattle.norm_relay.specs.declared.pumping.Lower.{Lower}
use Rattle.norm_relay.specs.declared.ticking.Held.{Held}
use Rattle.norm_relay.specs.declared.ticking.Promise.{Promise}
use Rattle.norm_relay.specs.declared.waiting.Waiting.{Waiting}
use Rattle.norm_relay.proofs.LowerLemmas.{Commands, lower_of}

-- a relay agrees with a step of the rules, which answers so
abbrev pub Steps : Held → Lower → Held → Lower → Option SendFault → (Relaying → Relaying × Option SendFault) → Type 0
Steps held l held' l' why step = (k : RelayKept) (x : Relaying) → Agrees (holding held (below l k)) x
    → Agrees (holding held' (below l' k)) (step x).0 × (why ≡ (step x).1)

-- ---- a restart

abbrev anew_by : Relaying → Result Receipt SendFault → Relaying × Option SendFault
anew_by x (Ok receipt) = (anew_is_done x, None)
anew_by x (Err fault) = (x, Some fault)

abbrev anew_if : ℕ → Relaying → Bool → Relaying × Option SendFault
anew_if now x anew = elim anew [ false ↦ (x, None) | true ↦ anew_by (commands now (restart_job x) x).0 (commands now (restart_job x) x).1 ]

by_anew : (now : ℕ) (x : Relaying) → begins_anew now x ≡ anew_if now x x.anew
by_anew now x = go x.anew
  where
    answered : (y : Relaying) (r : Result Receipt SendFault)
        → (elim r [ Ok receipt ↦ (anew_is_done y, None) | Err fault ↦ (y, Some fault) ]) ≡ anew_by y r
    answered y (Ok receipt) = refl
    answered y (Err fault) = refl

    go : (b : Bool) → (elim b [
      | false ↦ (x, None)
      | true ↦ let step = commands now (restart_job x) x in elim step.1 [
        | Ok receipt ↦ (anew_is_done step.0, None)
        | Err fault ↦ (step.0, Some fault)
      ]
    ]) ≡ anew_if now x b
    go false = refl
    go true = answered (commands now (restart_job x) x).0 (commands now (restart_job x) x).1

-- to agree with a step, and to answer as it does
abbrev Fits : RelayKept → Option SendFault → Relaying × Option SendFault → Type 0
Fits k why step = Agrees k step.0 × (why ≡ step.1)

pub begins_not : (now : ℕ) (held : Held) (l : Lower) → held.anew ≡ false → Steps held l held l None (begins_anew now)
begins_not now held l isnt k x a =
    let e : x.anew ≡ false = sym (ap (λ (h : Held). h.anew) a.held) ∙ isnt in
    subst (Fits (holding held (below l k)) None) (sym (by_anew now x ∙ ap (anew_if now x) e)) (a, refl)

restarts : (now id : ℕ) (held : Held) (l new : Lower) (answer : Result Receipt SendFault) (why : Option SendFault) (final : RelayKept)
    (k : RelayKept) (x : Relaying) → held.anew ≡ true
    → ((s : SenderState) → Stands l.sender s → id ≡ (s.current.id + 1) % 65536) → Commands l new now (job.Restart id) answer
    → Agrees (holding held (below l k)) x
    → ((y : Relaying) → Agrees (holding held (below new k)) y → Fits final why (anew_by y answer))
    → Fits final why (begins_anew now x)
restarts now id held l new answer why final k x sure id_is h a so =
    let e : x.anew ≡ true = sym (ap (λ (h : Held). h.anew) a.held) ∙ sure in
    let same : job.Restart id ≡ restart_job x = ap job.Restart (id_is x.lower.world.sender a.lower.sender) in
    let step = subst (λ (j : Job). Agrees (below new (holding held k)) (commands now j x).0 × (answer ≡ (commands now j x).1)) same (h (holding held k) x a) in
    let y : Relaying = (commands now (restart_job x) x).0 in
    subst (Fits final why) (sym (by_anew now x ∙ ap (anew_if now x) e ∙ ap (anew_by y) (sym step.1))) (so y step.0)

pub restart_refused : (now id : ℕ) (held : Held) (l new : Lower) (fault : SendFault) → held.anew ≡ true
    → ((s : SenderState) → Stands l.sender s → id ≡ (s.current.id + 1) % 65536) → Commands l new now (job.Restart id) (Err fault)
    → Steps held l held new (Some fault) (begins_anew now)
restart_refused now id held l new fault sure id_is h k x a =
    restarts now id held l new (Err fault) (Some fault) (holding held (below new k)) k x sure id_is h a (λ y b. (b, refl))

abbrev begun_held : Held → Held
begun_held h = record { anew = false; unmarked = h.unmarked; promise = h.promise }

pub restart_made : (now id : ℕ) (held : Held) (l new : Lower) (receipt : Receipt) → held.anew ≡ true
    → ((s : SenderState) → Stands l.sender s → id ≡ (s.current.id + 1) % 65536) → Commands l new now (job.Restart id) (Ok receipt)
    → Steps held l (record { anew = false; unmarked = held.unmarked; promise = held.promise }) (lower_of new.sender false new.jobs) None (begins_anew now)
restart_made now id held l new receipt sure id_is h k x a =
    let held' : Held = record { anew = false; unmarked = held.unmarked; promise = held.promise } in
    restarts now id held l new (Ok receipt) None (holding held' (below (lower_of new.sender false new.jobs) k)) k x sure id_is h a
    (λ y b. (
      record {
        upper = record { profile = b.upper.profile; member = b.upper.member; receiver = b.upper.receiver };
        lower = record { profile = b.lower.profile; sender = b.lower.sender; opened = refl; jobs = b.lower.jobs };
        held = ap begun_held b.held;
      },
      refl,
    ))

-- ---- watermarks

pub room_made : (now : ℕ) (l new : Lower) (answer : Result Receipt SendFault) → Commands l new now (job.Mark None) answer
    → (k : RelayKept) (x : Relaying) → Agrees (below l k) x
    → Agrees (below new k) (marks_for_room now x).0 × (fault_of answer ≡ (marks_for_room now x).1)
room_made now l new answer h k x a = let step = h k x a in (step.0, ap fault_of step.1)

abbrev pub MarksFor : ℕ → List ℕ → Held → Lower → Held → Lower → Option SendFault → Type 0
MarksFor now ack held l held' l' why = (k : RelayKept) (x : Relaying) (datagram : Written) → datagram.octets ≡ ack → Agrees (holding held (below l k)) x
    → Fits (holding held' (below l' k)) why (marks_for now datagram x)

-- what is held back once a mark was answered
abbrev held_by : List ℕ → Held → Result Receipt SendFault → Held
held_by ack held (Ok receipt) = with_promise ack (mark_position receipt) held
held_by ack held (Err fault) = held

marked_agrees : (datagram : Written) (answer : Result Receipt SendFault) (held : Held) (k : RelayKept) (y : Relaying) → Agrees (holding held k) y
    → Agrees (holding (held_by datagram.octets held answer) k) (with_pledge datagram answer y)
marked_agrees datagram (Err fault) held k y a = a
marked_agrees datagram (Ok receipt) held k y a = go (mark_position receipt)
  where
    pledged : Position → Relaying
    pledged at = record y { unmarked = None; pledge = Some (record { datagram = datagram; at = at }) }

    go : (at : Option Position) → Agrees (holding (with_promise datagram.octets at held) k) (elim at [ Some at ↦ pledged at | None ↦ y ])
    go None = a
    go (Some at) = record {
      upper = record { profile = a.upper.profile; member = a.upper.member; receiver = a.upper.receiver };
      lower = record { profile = a.lower.profile; sender = a.lower.sender; opened = a.lower.opened; jobs = a.lower.jobs };
      held = ap (λ (h : Held). with_promise datagram.octets (Some at) h) a.held;
    }

marks_by : (now : ℕ) (held : Held) (l new : Lower) (answer : Result Receipt SendFault) → Commands l new now (job.Mark None) answer
    → (k : RelayKept) (x : Relaying) (datagram : Written) → Agrees (holding held (below l k)) x
    → Fits (holding (held_by datagram.octets held answer) (below new k)) (fault_of answer) (marks_for now datagram x)
marks_by now held l new answer h k x datagram a =
    let step = h (holding held k) x a in
    let y : Relaying = (commands now (job.Mark None) x).0 in (
      subst (λ (r : Result Receipt SendFault). Agrees (holding (held_by datagram.octets held answer) (below new k)) (with_pledge datagram r y)) step.1
          (marked_agrees datagram answer held (below new k) y step.0),
      ap fault_of step.1,
    )

pub mark_made : (now : ℕ) (ack : List ℕ) (held held' : Held) (l new : Lower) (receipt : Receipt) → Commands l new now (job.Mark None) (Ok receipt)
    → held' ≡ with_promise ack (mark_position receipt) held → MarksFor now ack held l held' new None
mark_made now ack held held' l new receipt h is k x datagram same a =
    subst (λ (e : Held). Fits (holding e (below new k)) None (marks_for now datagram x))
    (ap (λ octets. with_promise octets (mark_position receipt) held) same ∙ sym is)
    (marks_by now held l new (Ok receipt) h k x datagram a)

pub mark_refused : (now : ℕ) (ack : List ℕ) (held : Held) (l new : Lower) (fault : SendFault) → Commands l new now (job.Mark None) (Err fault)
    → MarksFor now ack held l held new (Some fault)
mark_refused now ack held l new fault h k x datagram same a = marks_by now held l new (Err fault) h k x datagram a

-- ---- for what is held back

no_ack : (octets : List ℕ) → Some octets ≡ None → ⊥
no_ack octets e = cc

same_ack : (a b : List ℕ) → Some a ≡ Some b → a ≡ b
same_ack a b e = cc

octets_in : Option Written → Option (List ℕ)
octets_in o = option_map (λ (w : Written). w.octets) o

-- an acknowledgement without a watermark
pub asks_unmarked : (now : ℕ) (ack : List ℕ) (held held' : Held) (l new : Lower) (why : Option SendFault) → held.unmarked ≡ Some ack
    → MarksFor now ack held l held' new why → Steps held l held' new why (asks_for now Emptied)
asks_unmarked now ack held held' l new why some h k x a =
    go x.unmarked (sym (ap (λ (e : Held). e.unmarked) a.held) ∙ some)
  where
    go : (o : Option Written) → option_map (λ (w : Written). w.octets) o ≡ Some ack
        → Fits (holding held' (below new k)) why (elim o [ Some datagram ↦ marks_for now datagram x | None ↦ marks_again now x ])
    go None is = absurd (no_ack ack (sym is))
    go (Some datagram) is = h k x datagram (same_ack datagram.octets ack is) a

-- without one, by the one that has one
again_by : (now : ℕ) (held : Held) (k final : RelayKept) (l : Lower) (why : Option SendFault) (x : Relaying) → held.unmarked ≡ None
    → Agrees (holding held (below l k)) x → Fits final why (marks_again now x) → Fits final why (asks_for now Emptied x)
again_by now held k final l why x none a fits = go x.unmarked (sym (ap (λ (e : Held). e.unmarked) a.held) ∙ none)
  where
    go : (o : Option Written) → option_map (λ (w : Written). w.octets) o ≡ None
        → Fits final why (elim o [ Some datagram ↦ marks_for now datagram x | None ↦ marks_again now x ])
    go None is = fits
    go (Some datagram) is = absurd (no_ack datagram.octets is)

abbrev again_if : ℕ → Relaying → Written → Bool → Relaying × Option SendFault
again_if now x datagram met = elim met [ true ↦ (x, None) | false ↦ marks_for now datagram x ]

no_promise : (p : Promise) → Some p ≡ None → ⊥
no_promise p e = cc

same_promise : (p q : Promise) → Some p ≡ Some q → p ≡ q
same_promise p q e = cc

pub asks_nothing_held : (now : ℕ) (held : Held) (l : Lower) → held.unmarked ≡ None → held.promise ≡ None
    → Steps held l held l None (asks_for now Emptied)
asks_nothing_held now held l none isnt k x a =
    again_by now held k (holding held (below l k)) l None x none a (go x.pledge (sym (ap (λ (e : Held). e.promise) a.held) ∙ isnt))
  where
    go : (o : Option Pledge) → option_map promise_of o ≡ None
        → Fits (holding held (below l k)) None (elim o [
          | Some pledge ↦ elim (is_met x pledge) [ true ↦ (x, None) | false ↦ marks_for now pledge.datagram x ]
          | None ↦ (x, None)
        ])
    go None is = (a, refl)
    go (Some pledge) is = absurd (no_promise (promise_of pledge) is)

-- what is promised, by whether that is met
promised : (now : ℕ) (promise : Promise) (held : Held) (k final : RelayKept) (l : Lower) (why : Option SendFault) (x : Relaying) (past : Bool)
    → held.unmarked ≡ None → held.promise ≡ Some promise → ((s : SenderState) → Stands l.sender s → past ≡ all_past s promise.at)
    → Agrees (holding held (below l k)) x
    → ((pledge : Pledge) → pledge.datagram.octets ≡ promise.ack → Fits final why (again_if now x pledge.datagram past))
    → Fits final why (asks_for now Emptied x)
promised now promise held k final l why x past none some is a so =
    again_by now held k final l why x none a (go x.pledge (sym (ap (λ (e : Held). e.promise) a.held) ∙ some))
  where
    go : (o : Option Pledge) → option_map promise_of o ≡ Some promise
        → Fits final why (elim o [
          | Some pledge ↦ elim (is_met x pledge) [ true ↦ (x, None) | false ↦ marks_for now pledge.datagram x ]
          | None ↦ (x, None)
        ])
    go None e = absurd (no_promise promise (sym e))
    go (Some pledge) e =
        let same : promise_of pledge ≡ promise = same_promise (promise_of pledge) promise e in
        let met : past ≡ is_met x pledge =
        is x.lower.world.sender a.lower.sender ∙ ap (λ (p : Promise). all_past x.lower.world.sender p.at) (sym same) in
        subst (λ b. Fits final why (again_if now x pledge.datagram b)) met (so pledge (ap (λ (p : Promise). p.ack) same))

pub asks_met : (now : ℕ) (promise : Promise) (held : Held) (l : Lower) (past : Bool) → held.unmarked ≡ None → held.promise ≡ Some promise
    → ((s : SenderState) → Stands l.sender s → past ≡ all_past s promise.at) → past ≡ true → Steps held l held l None (asks_for now Emptied)
asks_met now promise held l past none some is sure k x a =
    promised now promise held k (holding held (below l k)) l None x past none some is a
    (λ pledge same. subst (λ b. Fits (holding held (below l k)) None (again_if now x pledge.datagram b)) (sym sure) (a, refl))

pub asks_again : (now : ℕ) (promise : Promise) (held held' : Held) (l new : Lower) (why : Option SendFault) (past : Bool) → held.unmarked ≡ None
    → held.promise ≡ Some promise → ((s : SenderState) → Stands l.sender s → past ≡ all_past s promise.at) → past ≡ false
    → MarksFor now promise.ack held l held' new why → Steps held l held' new why (asks_for now Emptied)
asks_again now promise held held' l new why past none some is isnt h k x a =
    promised now promise held k (holding held' (below new k)) l why x past none some is a
    (λ pledge same. subst (λ b. Fits (holding held' (below new k)) why (again_if now x pledge.datagram b)) (sym isnt) (h k x pledge.datagram same a))

-- ---- whether it asks

abbrev asks_if : ℕ → Stop → Relaying → Bool → Relaying × Option SendFault
asks_if now stop x nothing = elim nothing [ true ↦ asks_for now stop x | false ↦ (x, None) ]

none_mapped : {X Y : Type 0} (f : X → Y) (o : Option X) → is_none (option_map f o) ≡ is_none o
none_mapped f None = refl
none_mapped f (Some x) = refl

some_not : {X : Type 0} (o : Option X) → is_some o ≡ true → is_none o ≡ false
some_not None e = absurd (cc)
some_not (Some x) e = refl

not_some : {X : Type 0} (o : Option X) → is_some o ≡ false → is_none o ≡ true
not_some None e = refl
not_some (Some x) e = absurd (cc)

-- a watermark is open
pub asks_not : {X : Type 0} (now : ℕ) (stop : Stop) (held : Held) (l : Lower) (word : Watermark → X) (found : Option X)
    → ((s : SenderState) → Stands l.sender s → found ≡ option_map word (oldest s)) → is_some found ≡ true → Steps held l held l None (asks now stop)
asks_not now stop held l word found is sure k x a =
    let opens : asks_nothing x ≡ false =
    sym (ap is_none (is x.lower.world.sender a.lower.sender) ∙ none_mapped word (oldest x.lower.world.sender)) ∙ some_not found sure in
    subst (λ b. Fits (holding held (below l k)) None (asks_if now stop x b)) (sym opens) (a, refl)

-- none is open
pub asks_now : {X : Type 0} (now : ℕ) (stop : Stop) (held held' : Held) (l new : Lower) (why : Option SendFault) (word : Watermark → X) (found : Option X)
    → ((s : SenderState) → Stands l.sender s → found ≡ option_map word (oldest s)) → is_some found ≡ false
    → Steps held l held' new why (asks_for now stop) → Steps held l held' new why (asks now stop)
asks_now now stop held held' l new why word found is isnt h k x a =
    let none : asks_nothing x ≡ true =
    sym (ap is_none (is x.lower.world.sender a.lower.sender) ∙ none_mapped word (oldest x.lower.world.sender)) ∙ not_some found isnt in
    subst (λ b. Fits (holding held' (below new k)) why (asks_if now stop x b)) (sym none) (h k x a)

-- ---- a pump

abbrev pub Pumps : ℕ → List Waiting → Held → Lower → List Waiting → Held → Lower → Result ℕ SendFault → Type 0
Pumps now waiting held l waiting' held' l' told = (k : RelayKept) (x : Relaying) → StandsFor (having waiting (holding held (below l k))) x
    → StandsFor (having waiting' (holding held' (below l' k))) (pumped now x).0 × (told ≡ (pumped now x).1)

abbrev FitsPumped : RelayKept → Result ℕ SendFault → Relaying × Result ℕ SendFault → Type 0
FitsPumped k told step = StandsFor k step.0 × (told ≡ step.1)

-- what waits stays as it is in all but enqueuing
begins_waiting : (now : ℕ) (x : Relaying) → (begins_anew now x).0.waiting ≡ x.waiting
begins_waiting now x = ap (λ (step : Relaying × Option SendFault). step.0.waiting) (by_anew now x) ∙ go x.anew
  where
    answered : (y : Relaying) (r : Result Receipt SendFault) → (anew_by y r).0.waiting ≡ y.waiting
    answered y (Ok receipt) = refl
    answered y (Err fault) = refl

    go : (b : Bool) → (anew_if now x b).0.waiting ≡ x.waiting
    go false = refl
    go true = answered (commands now (restart_job x) x).0 (commands now (restart_job x) x).1

for_waiting : (now : ℕ) (datagram : Written) (y : Relaying) (r : Result Receipt SendFault) → (with_pledge datagram r y).waiting ≡ y.waiting
for_waiting now datagram y (Err fault) = refl
for_waiting now datagram y (Ok receipt) = go (mark_position receipt)
  where
    pledged : Option Position → Relaying
    pledged at = elim at [ Some at ↦ record y { unmarked = None; pledge = Some (record { datagram = datagram; at = at }) } | None ↦ y ]

    go : (at : Option Position) → (pledged at).waiting ≡ y.waiting
    go None = refl
    go (Some at) = refl

state_of : Relaying × Option SendFault → Relaying
state_of step = step.0

asks_waiting : (now : ℕ) (stop : Stop) (x : Relaying) → (asks now stop x).0.waiting ≡ x.waiting
asks_waiting now stop x = opens (asks_nothing x)
  where
    marks : (datagram : Written) → (marks_for now datagram x).0.waiting ≡ x.waiting
    marks datagram = for_waiting now datagram (commands now (job.Mark None) x).0 (commands now (job.Mark None) x).1

    met : (datagram : Written) (b : Bool) → (again_if now x datagram b).0.waiting ≡ x.waiting
    met datagram true = refl
    met datagram false = marks datagram

    again_by : Option Pledge → Relaying × Option SendFault
    again_by o = elim o [
      | Some pledge ↦ elim (is_met x pledge) [ true ↦ (x, None) | false ↦ marks_for now pledge.datagram x ]
      | None ↦ (x, None)
    ]

    again : (o : Option Pledge) → (again_by o).0.waiting ≡ x.waiting
    again None = refl
    again (Some pledge) = met pledge.datagram (is_met x pledge)

    emptied_by : Option Written → Relaying × Option SendFault
    emptied_by o = elim o [ Some datagram ↦ marks_for now datagram x | None ↦ marks_again now x ]

    emptied : (o : Option Written) → (emptied_by o).0.waiting ≡ x.waiting
    emptied None = again x.pledge
    emptied (Some datagram) = marks datagram

    by : (stop : Stop) → (asks_for now stop x).0.waiting ≡ x.waiting
    by Emptied = emptied x.unmarked
    by Crowded = refl
    by (Refused fault) = refl

    opens : (b : Bool) → (asks_if now stop x b).0.waiting ≡ x.waiting
    opens true = by stop
    opens false = refl

-- the restart below was refused
refused_asks : (now : ℕ) (fault : SendFault) (x : Relaying) → asks now (Refused fault) x ≡ (x, None)
refused_asks now fault x = go (asks_nothing x)
  where
    go : (b : Bool) → asks_if now (Refused fault) x b ≡ (x, None)
    go true = refl
    go false = refl

-- what waits is enqueued, by whether the restart was refused
abbrev first_by : ℕ → Relaying → Option SendFault → Pumped
first_by now x why = enqueues_first now (x, why)

pub pump_refused : (now : ℕ) (waiting : List Waiting) (held held' : Held) (l new : Lower) (fault : SendFault)
    → Steps held l held' new (Some fault) (begins_anew now) → Pumps now waiting held l waiting held' new (Err fault)
pump_refused now waiting held held' l new fault h k x st =
    let y : Relaying = (begins_anew now x).0 in
    let begun = h (having waiting k) x st.agrees in
    subst (λ (o : Option SendFault). FitsPumped final (Err fault) (finishes now (first_by now y o))) begun.1
    (last (record y { waiting = y.waiting }) (again y begun.0) (begins_waiting now x)
    (asks now (Refused fault) (record y { waiting = y.waiting })) (refused_asks now fault (record y { waiting = y.waiting })))
  where
    final : RelayKept
    final = having waiting (holding held' (below new k))

    again : (y : Relaying) → Agrees final y → Agrees final (record y { waiting = y.waiting })
    again y a = record {
      upper = record { profile = a.upper.profile; member = a.upper.member; receiver = a.upper.receiver };
      lower = record { profile = a.lower.profile; sender = a.lower.sender; opened = a.lower.opened; jobs = a.lower.jobs };
      held = a.held;
    }

    last : (y : Relaying) → Agrees final y → y.waiting ≡ x.waiting → (step : Relaying × Option SendFault) → step ≡ (y, None)
        → FitsPumped final (Err fault) (step.0, told_of 0 (Refused fault) step.1)
    last y b same step is =
        subst (λ (s : Relaying × Option SendFault). FitsPumped final (Err fault) (s.0, told_of 0 (Refused fault) s.1)) (sym is)
        (record { agrees = b; waiting = st.waiting ∙ ap (map waiting_of) (sym same) }, refl)

pub pump_done : (now : ℕ) (waiting waiting' : List Waiting) (held held1 held2 : Held) (l l1 l2 l3 : Lower) (done : Enqueued) (why : Option SendFault)
    → Steps held l held1 l1 None (begins_anew now)
    → ((k : RelayKept) (x : Relaying) (ups : List Up) → Agrees (below l1 k) x → waiting ≡ map waiting_of ups
    → IsEnqueued k l2 waiting' done (enqueues now ups x))
    → Steps held1 l2 held2 l3 why (asks now (stop_of done.stop))
    → Pumps now waiting held l waiting' held2 l3 (told_of done.jobs (stop_of done.stop) why)
pump_done now waiting waiting' held held1 held2 l l1 l2 l3 done why first enqueued asked k x st =
    let y : Relaying = (begins_anew now x).0 in
    let begun = first (having waiting k) x st.agrees in
    let e = enqueued (holding held1 (having waiting k)) y y.waiting begun.0 (st.waiting ∙ ap (map waiting_of) (sym (begins_waiting now x))) in
    subst (λ (o : Option SendFault). FitsPumped final told (finishes now (first_by now y o))) begun.1
    (ends (enqueues now y.waiting y) e)
  where
    final : RelayKept
    final = having waiting' (holding held2 (below l3 k))

    told : Result ℕ SendFault
    told = told_of done.jobs (stop_of done.stop) why

    ends : (d : Pumped) → IsEnqueued (holding held1 (having waiting k)) l2 waiting' done d → FitsPumped final told (finishes now d)
    ends d e =
        let a = asked (having waiting' k) d.state e.stands.agrees in
        subst (λ (s : Stop). FitsPumped final told ((asks now s d.state).0, told_of d.count s (asks now s d.state).1)) e.stop (
          record { agrees = a.0; waiting = e.stands.waiting ∙ ap (map waiting_of) (sym (asks_waiting now (stop_of done.stop) d.state)) },
          ap (λ n. told_of n (stop_of done.stop) why) e.jobs ∙ ap (told_of d.count (stop_of done.stop)) a.1,
        )

-- ---- the same of answers that may be want of memory

pub if_unmarked : (now : ℕ) (ack : List ℕ) (held held' : Held) (l new : Lower) (answer : Result (Option SendFault) NoMemory) → held.unmarked ≡ Some ack
    → IfOk answer (λ why. MarksFor now ack held l held' new why) → IfOk answer (λ why. Steps held l held' new why (asks_for now Emptied))
if_unmarked now ack held held' l new (Ok why) some h = asks_unmarked now ack held held' l new why some h
if_unmarked now ack held held' l new (Err memory) some h = h

pub if_again : (now : ℕ) (promise : Promise) (held held' : Held) (l new : Lower) (answer : Result (Option SendFault) NoMemory) (past : Bool)
    → held.unmarked ≡ None → held.promise ≡ Some promise → ((s : SenderState) → Stands l.sender s → past ≡ all_past s promise.at) → past ≡ false
    → IfOk answer (λ why. MarksFor now promise.ack held l held' new why) → IfOk answer (λ why. Steps held l held' new why (asks_for now Emptied))
if_again now promise held held' l new (Ok why) past none some is isnt h = asks_again now promise held held' l new why past none some is isnt h
if_again now promise held held' l new (Err memory) past none some is isnt h = h

pub if_asks : {X : Type 0} (now : ℕ) (stop : Stop) (held held' : Held) (l new : Lower) (answer : Result (Option SendFault) NoMemory) (word : Watermark → X)
    (found : Option X) → ((s : SenderState) → Stands l.sender s → found ≡ option_map word (oldest s)) → is_some found ≡ false
    → IfOk answer (λ why. Steps held l held' new why (asks_for now stop)) → IfOk answer (λ why. Steps held l held' new why (asks now stop))
if_asks now stop held held' l new (Ok why) word found is isnt h = asks_now now stop held held' l new why word found is isnt h
if_asks now stop held held' l new (Err memory) word found is isnt h = h

-- a mark for room leaves what is held back
pub if_room : (now : ℕ) (held : Held) (l new : Lower) (answer : Result (Option SendFault) NoMemory)
    → IfOk answer (λ why. (k : RelayKept) (x : Relaying) → Agrees (below l k) x
    → Agrees (below new k) (marks_for_room now x).0 × (why ≡ (marks_for_room now x).1))
    → IfOk answer (λ why. Steps held l held new why (asks_for now Crowded))
if_room now held l new (Ok why) h = λ k x a. h (holding held k) x a
if_room now held l new (Err memory) h = h

-- nothing is asked after a refusal
pub asks_no_more : (now : ℕ) (fault : SendFault) (held : Held) (l : Lower) → Steps held l held l None (asks_for now (Refused fault))
asks_no_more now fault held l k x a = (a, refl)
