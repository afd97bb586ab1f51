-- Whatever waits for the members below, they are asked.
use Rattle.std.proofs.Common.{◌≡◌, ℕ, zero, suc, ◌+◌, ◌⊎◌, inl, inr, cond, List, [], ◌∷◌, ◌++◌, length, map, Bool, true, false, Option, None, Some, Result, Ok, Err, refl, sym, ap, ◌∙◌, subst}
use Rattle.std.specs.Prelude.{find, nat_le, ◌&&◌, ◌||◌, is_none, is_some}
use Rattle.std.proofs.lemmas.List.{map-append, length-map}
use Rattle.norm_base.specs.Settings.{Settings}
use Rattle.norm_base.specs.declared.node.Origin.{Origin}
use Rattle.fec_plan.specs.declared.position.Position.{Position}
use Rattle.norm_ext.specs.Written.{Written}
use Rattle.norm_order.specs.Entries.{Cut}
use Rattle.norm_order.specs.Segments.{unclosed}
use Rattle.norm_order.specs.Shapes.{last_source}
use Rattle.norm_order.specs.declared.up.Up.{Up}
use Rattle.norm_send_rules.specs.Commanding.{refused_as}
use Rattle.norm_send_rules.specs.InWindow.{current_shapes}
use Rattle.norm_send_rules.specs.Marking.{most_open, with_watermark, watermark_at}
use Rattle.norm_send_rules.specs.SenderState.{SenderState, Watermark}
use Rattle.norm_send_rules.specs.Streaming.{parts_now, with_parts, cut}
use Rattle.norm_send_rules.specs.Waiting.{may_wait}
use Rattle.norm_send_rules.specs.Watermarks.{is_open, is_met, oldest, open_watermarks, keeps_oldest, counted_anew, ended_with, settled}
use Rattle.norm_send_rules.specs.declared.fault.MarkFault.{MarkFault}
use Rattle.norm_send_rules.specs.declared.fault.MarkFault.TheVariants.{NothingEnqueued, TooMany}
use Rattle.norm_send_rules.specs.declared.fault.SendFault.{SendFault}
use Rattle.norm_send_rules.specs.declared.fault.SendFault.TheVariants.{Mark as MarkRefused}
use Rattle.norm_send_rules.specs.declared.job.Job.{Job}
use Rattle.norm_send_rules.specs.declared.job.Receipt.{Receipt}
use Rattle.norm_send_rules.specs.declared.job.Receipt.TheVariants.{Mark}
use Rattle.norm_send_rules.specs.declared.news.Outcome.TheVariants.{Satisfied}
use Rattle.norm_relay.specs.AskLaws.{IsMadeMet, is_waiting, MaySend, IsAsked, AsksWhereItWaits}
use Rattle.norm_relay.specs.Pumping.{Stop, Emptied, Crowded, Refused, Pumped, job_of, commands, passes, stops, stop_by, one_more, enqueues, begins_anew, enqueues_first, fault_of, mark_position, pledges, with_pledge, marks, marks_for, marks_again, asks_nothing, asks_for, asks, told_unless, told_of, pumped}
use Rattle.norm_relay.specs.Pumping as pumping
use Rattle.norm_relay.specs.RelayKept.{waits}
use Rattle.norm_relay.specs.RelayState.{Relaying, Pledge, next_origin}

-- ---- one more watermark

cut_watermarks : (p : Settings) (s : SenderState) → (cut p s).watermarks ≡ s.watermarks
cut_watermarks p s = go (unclosed p.e (parts_now s))
  where
    cuts : ℕ → SenderState
    cuts n = elim n [ zero ↦ s | suc n ↦ with_parts (parts_now s ++ Cut ∷ []) s ]

    go : (n : ℕ) → (cuts n).watermarks ≡ s.watermarks
    go zero = refl
    go (suc n) = refl

find_end : (xs : List Watermark) (w : Watermark) → is_open w ≡ true → is_none (find is_open (xs ++ w ∷ [])) ≡ false
find_end [] w opens = ap (λ b. is_none (cond b (Some w) None)) opens
find_end (x ∷ xs) w opens = go (is_open x) (find_end xs w opens)
  where
    go : (b : Bool) → is_none (find is_open (xs ++ w ∷ [])) ≡ false → is_none (cond b (Some x) (find is_open (xs ++ w ∷ []))) ≡ false
    go true more = refl
    go false more = more

-- the watermarks of a state in which those that are met were satisfied
abbrev settle : SenderState → Watermark → Watermark
settle t v = cond (is_open v && is_met t v) (ended_with Satisfied v) v

made : (old t new : SenderState) (ws : List Watermark) (w : Watermark) → w.ended ≡ None → t.watermarks ≡ ws ++ w ∷ [] → length ws ≡ length old.watermarks
    → new.watermarks ≡ map (settle t) t.watermarks → (is_none (oldest new) ≡ false) ⊎ IsMadeMet old new
made old t new ws w not_ended all count is = go (is_met t w) refl
  where
    opens : is_open w ≡ true
    opens = ap is_none not_ended

    settled_as : new.watermarks ≡ map (settle t) ws ++ settle t w ∷ []
    settled_as = is ∙ ap (map (settle t)) all ∙ map-append (settle t) ws (w ∷ [])

    by : (b : Bool) → is_met t w ≡ b → settle t w ≡ cond b (ended_with Satisfied w) w
    by b met = ap (λ a. cond (a && is_met t w) (ended_with Satisfied w) w) opens ∙ ap (λ a. cond a (ended_with Satisfied w) w) met

    go : (b : Bool) → is_met t w ≡ b → (is_none (oldest new) ≡ false) ⊎ IsMadeMet old new
    go true met = inr (record {
      before = map (settle t) ws;
      made = ended_with Satisfied w;
      last = settled_as ∙ ap (λ (v : Watermark). map (settle t) ws ++ v ∷ []) (by true met);
      count = length-map ws (settle t) ∙ count;
      met = refl;
    })
    go false met =
        inl (ap (λ (vs : List Watermark). is_none (find is_open vs)) (settled_as ∙ ap (λ (v : Watermark). map (settle t) ws ++ v ∷ []) (by false met))
        ∙ find_end (map (settle t) ws) w opens)

counted_same : (old new : SenderState) → (counted_anew old new).watermarks ≡ new.watermarks
counted_same old new = go (keeps_oldest old new)
  where
    counts : Bool → SenderState
    counts b = elim b [ true ↦ new | false ↦ record new { flushes = 0 } ]

    go : (b : Bool) → (counts b).watermarks ≡ new.watermarks
    go true = refl
    go false = refl

with_made : (old s : SenderState) (by : Origin) (at : Position) → s.watermarks ≡ old.watermarks
    → (is_none (oldest (with_watermark s by None at)) ≡ false) ⊎ IsMadeMet old (with_watermark s by None at)
with_made old s by at same =
    let w : Watermark = record { mark = length s.watermarks + 1; by = by; at = at; quorum = None; ended = None } in
    let t : SenderState = record s { watermarks = s.watermarks ++ w ∷ [] } in
    made old t (with_watermark s by None at) s.watermarks w refl refl (ap length same) (counted_same s (settled t))

-- a mark that is accepted
marked_so : (p : Settings) (old s : SenderState) (by : Origin) (receipt : Receipt) → s.watermarks ≡ old.watermarks
    → (at : Option Position) → refused_as MarkRefused (watermark_at s by None at).1 ≡ Ok receipt
    → (is_none (oldest (watermark_at s by None at).0) ≡ false) ⊎ IsMadeMet old (watermark_at s by None at).0
marked_so p old s by receipt same None e = absurd (no e)
  where
    no : Err (MarkRefused NothingEnqueued) ≡ Ok receipt → ⊥
    no e = cc
marked_so p old s by receipt same (Some at) e = go (nat_le most_open (length (open_watermarks s))) e
  where
    no : Err (MarkRefused (TooMany (length (open_watermarks s)))) ≡ Ok receipt → ⊥
    no e = cc

    step : Bool → SenderState × Result Receipt MarkFault
    step b = elim b [
      | true ↦ (s, Err (TooMany (length (open_watermarks s))))
      | false ↦ (with_watermark s by None at, Ok (Mark (length s.watermarks + 1) at))
    ]

    go : (b : Bool) → refused_as MarkRefused (step b).1 ≡ Ok receipt → (is_none (oldest (step b).0) ≡ false) ⊎ IsMadeMet old (step b).0
    go true e = absurd (no e)
    go false e = with_made old s by at same

-- of a relay's mark
marked : (now : ℕ) (x : Relaying) (receipt : Receipt) → (marks now x).1 ≡ Ok receipt
    → (asks_nothing (marks now x).0 ≡ false) ⊎ IsMadeMet x.lower.world.sender (marks now x).0.lower.world.sender
marked now x receipt e =
    let p = x.lower.p in
    let s : SenderState = cut p x.lower.world.sender in
    marked_so p x.lower.world.sender s (next_origin x) receipt (cut_watermarks p x.lower.world.sender) (last_source (current_shapes p s)) e

-- ---- what a pump asks

-- it is told of no fault
told_ok : (count many : ℕ) (stop : Stop) (refused : Option SendFault) → told_of count stop refused ≡ Ok many → refused ≡ None
told_ok count many Emptied None e = refl
told_ok count many Crowded None e = refl
told_ok count many (Refused fault) None e = refl
told_ok count many Emptied (Some fault) e = absurd (cc)
told_ok count many Crowded (Some fault) e = absurd (cc)
told_ok count many (Refused other) (Some fault) e = absurd (cc)

-- an answer without a fault
record Accepted (answer : Result Receipt SendFault) : Type 0 where
  receipt : Receipt
  is : answer ≡ Ok receipt

accepted : (answer : Result Receipt SendFault) → fault_of answer ≡ None → Accepted answer
accepted (Ok receipt) e = record { receipt = receipt; is = refl }
accepted (Err fault) e = absurd (cc)

-- what a mark was made for does not matter
promised_so : (old : SenderState) (datagram : Written) (y : Relaying) (answer : Result Receipt SendFault)
    → (asks_nothing y ≡ false) ⊎ IsMadeMet old y.lower.world.sender → IsAsked old (with_pledge datagram answer y)
promised_so old datagram y (Err fault) asked = inl asked
promised_so old datagram y (Ok receipt) asked = go (mark_position receipt)
  where
    go : (at : Option Position) → IsAsked old (elim at [ Some at ↦ pledges datagram at y | None ↦ y ])
    go None = inl asked
    go (Some at) = inl asked

marked_for : (now : ℕ) (x : Relaying) (datagram : Written) → (marks_for now datagram x).1 ≡ None
    → IsAsked x.lower.world.sender (marks_for now datagram x).0
marked_for now x datagram e =
    let a = accepted (marks now x).1 e in
    promised_so x.lower.world.sender datagram (marks now x).0 (marks now x).1 (marked now x a.receipt a.is)

abbrev Asked : SenderState → Relaying × Option SendFault → Type 0
Asked old step = step.1 ≡ None → is_waiting step.0 ≡ true → IsAsked old step.0

asked_for : (now : ℕ) (x : Relaying) (stop : Stop) (many count : ℕ) → (stop ≡ Emptied → x.waiting ≡ []) → told_of count stop (asks_for now stop x).1 ≡ Ok many
    → Asked x.lower.world.sender (asks_for now stop x)
asked_for now x (Refused fault) many count empty told none waiting = absurd (no told)
  where
    no : Err fault ≡ Ok many → ⊥
    no e = cc
asked_for now x Crowded many count empty told none waiting = let a = accepted (marks now x).1 none in inl (marked now x a.receipt a.is)
asked_for now x Emptied many count empty told none waiting = unmarked x.unmarked none waiting
  where
    again : (pledge : Pledge) (b : Bool) → pumping.is_met x pledge ≡ b → x.pledge ≡ Some pledge
        → Asked x.lower.world.sender (elim b [ true ↦ (x, None) | false ↦ marks_for now pledge.datagram x ])
    again pledge true met is none waiting = inr (subst (λ (o : Option Pledge). MaySend x o) (sym is) met)
    again pledge false met is none waiting = marked_for now x pledge.datagram none

    nothing : x.pledge ≡ None → is_waiting x ≡ true → ⊥
    nothing is waiting = no (sym (ap (λ (o : Option Pledge). waits x || is_some o) is ∙ ap (λ (ups : List Up). (elim ups [ u ∷ rest ↦ true | [] ↦ false ]) || false) (empty refl)) ∙ waiting)
      where
        no : false ≡ true → ⊥
        no e = cc

    pledged : (o : Option Pledge) → x.pledge ≡ o → Asked x.lower.world.sender (elim o [
      | Some pledge ↦ elim (pumping.is_met x pledge) [ true ↦ (x, None) | false ↦ marks_for now pledge.datagram x ]
      | None ↦ (x, None)
    ])
    pledged None is none waiting = absurd (nothing is waiting)
    pledged (Some pledge) is none waiting = again pledge (pumping.is_met x pledge) refl is none waiting

    unmarked : (o : Option Written) → Asked x.lower.world.sender (elim o [ Some datagram ↦ marks_for now datagram x | None ↦ marks_again now x ])
    unmarked (Some datagram) none waiting = marked_for now x datagram none
    unmarked None none waiting = pledged x.pledge refl none waiting

asked : (now : ℕ) (x : Relaying) (stop : Stop) (many count : ℕ) → (stop ≡ Emptied → x.waiting ≡ []) → told_of count stop (asks now stop x).1 ≡ Ok many
    → Asked x.lower.world.sender (asks now stop x)
asked now x stop many count empty told none waiting = go (asks_nothing x) refl told none waiting
  where
    asks_if : Bool → Relaying × Option SendFault
    asks_if b = elim b [ true ↦ asks_for now stop x | false ↦ (x, None) ]

    go : (b : Bool) → asks_nothing x ≡ b → told_of count stop (asks_if b).1 ≡ Ok many → Asked x.lower.world.sender (asks_if b)
    go true is told none waiting = asked_for now x stop many count empty told none waiting
    go false is told none waiting = inl (inl is)

-- ---- once all was enqueued nothing waits

abbrev EmptiesAll : Pumped → Type 0
EmptiesAll d = d.stop ≡ Emptied → d.state.waiting ≡ []

no_stop : (fault : SendFault) → stop_by fault ≡ Emptied → ⊥
no_stop fault e = go (may_wait fault) e
  where
    go : (b : Bool) → (elim b [ true ↦ Crowded | false ↦ Refused fault ]) ≡ Emptied → ⊥
    go true e = cc
    go false e = cc

empties : (now : ℕ) (ups : List Up) (x : Relaying) → EmptiesAll (enqueues now ups x)
unfolding enqueues
empties now [] x e = refl
empties now (u ∷ ups) x e = go (job_of x.opened u) (λ y. empties now ups y) e
  where
    answered : (y : Relaying) (r : Result Receipt SendFault) → ((z : Relaying) → EmptiesAll (enqueues now ups z))
        → EmptiesAll (elim r [ Ok receipt ↦ one_more (enqueues now ups (passes u y)) | Err fault ↦ stops (stop_by fault) (u ∷ ups) y ])
    answered y (Ok receipt) more e = more (passes u y) e
    answered y (Err fault) more e = absurd (no_stop fault e)

    go : (o : Option Job) → ((z : Relaying) → EmptiesAll (enqueues now ups z)) → EmptiesAll (elim o [
      | None ↦ enqueues now ups (passes u x)
      | Some job ↦ let step = commands now job x in elim step.1 [
        | Ok receipt ↦ one_more (enqueues now ups (passes u step.0))
        | Err fault ↦ stops (stop_by fault) (u ∷ ups) step.0
      ]
    ])
    go None more e = more (passes u x) e
    go (Some job) more e = answered (commands now job x).0 (commands now job x).1 more e

first_empties : (now : ℕ) (step : Relaying × Option SendFault) → EmptiesAll (enqueues_first now step)
first_empties now step = go step.1
  where
    go : (o : Option SendFault) → EmptiesAll (elim o [
      | None ↦ enqueues now (step.0).waiting step.0
      | Some fault ↦ stops (Refused fault) (step.0).waiting step.0
    ])
    go None e = empties now (step.0).waiting step.0 e
    go (Some fault) e = absurd (no e)
      where
        no : Refused fault ≡ Emptied → ⊥
        no e = cc

pub asks_where_it_waits : AsksWhereItWaits
asks_where_it_waits now x count told waiting =
    let d : Pumped = enqueues_first now (begins_anew now x) in
    asked now d.state d.stop count d.count (first_empties now (begins_anew now x)) told (told_ok d.count count d.stop (asks now d.stop d.state).1 told) waiting
