-- Each event of a steady session over a direct network keeps the count of its turns; so as many turns as its script tells are enough.
use Rattle.std.proofs.Common.{◌≡◌, ℕ, zero, suc, ◌+◌, ◌*◌, ◌<◌, ◌≤◌, List, [], ◌∷◌, ◌++◌, length, filter, cond, Bool, true, false, Option, None, Some, Result, refl, sym, ap, ◌∙◌, subst, arith, inl, inr}
use Rattle.std.specs.Prelude.{◌==◌, ◌&&◌, ◌||◌, ◌⊎◌, not, find, is_none, is_some, nat_le}
use Rattle.std.specs.List.{AllByRecursion}
use Rattle.std.specs.Option.{option_map, option_to_list}
use Rattle.std.proofs.Math.Nat.{mul-le-mul_right}
use Rattle.std.proofs.lemmas.Bool.Decides.{Decides-eqb}
use Rattle.std.proofs.lemmas.List.{length-append, length-map}
use Rattle.std.proofs.lemmas.Option.{none-some}
use Rattle.norm_base.specs.Settings.{Settings}
use Rattle.norm_base.specs.declared.node.Origin.{Origin}
use Rattle.fec_plan.specs.Points.{point}
use Rattle.norm_script.specs.Commands.{Commands}
use Rattle.norm_script.specs.declared.script.Line.{Line}
use Rattle.norm_script.specs.declared.script.Verb.{Verb}
use Rattle.norm_script.specs.declared.script.Verb.TheVariants as verb
use Rattle.norm_send_rules.specs.Commanding.{commanded}
use Rattle.norm_send_rules.specs.Hearing.{heard}
use Rattle.norm_send_rules.specs.Marking.{most_open}
use Rattle.norm_send_rules.specs.SenderState.{SenderState, Watermark}
use Rattle.norm_send_rules.specs.Sending.{new_from, next_new}
use Rattle.norm_send_rules.specs.Telling.{told}
use Rattle.norm_send_rules.specs.Ticking.{ticked}
use Rattle.norm_send_rules.specs.Waiting.{may_wait}
use Rattle.norm_send_rules.specs.Watermarks.{is_open, oldest, open_watermarks}
use Rattle.norm_send_rules.specs.declared.fault.SendFault.{SendFault}
use Rattle.norm_send_rules.specs.declared.job.Job.{Job}
use Rattle.norm_send_rules.specs.declared.job.Receipt.{Receipt}
use Rattle.norm_send_rules.specs.declared.news.Outcome.{Outcome}
use Rattle.norm_send_rules.specs.declared.news.Outcome.TheVariants.{Satisfied}
use Rattle.norm_safety.specs.Events.{Event as WorldEvent, Commanded, Delivered, Ticked, Offered, UpTaken, Answer, Gave}
use Rattle.norm_safety.specs.World.{World}
use Rattle.norm_safety.specs.WorldStep.{world_step}
use Rattle.norm_safety.proofs.EntryLemmas.{clash}
use Rattle.norm_safety.proofs.WorldLemmas.{world_laws}
use Rattle.norm_journal.specs.declared.event.Event.{Event}
use Rattle.norm_journal.specs.declared.event.Event.TheVariants as event
use Rattle.norm_journal.specs.Commands.{telling, waiting_after}
use Rattle.norm_journal.specs.Direct.{IsDirect, taken_with}
use Rattle.norm_journal.specs.Draws.{next_draw, draws_after}
use Rattle.norm_journal.specs.Follows.{Follows, OfferedAndTold, OfferedAgain, SendersTick, ReceiversTick}
use Rattle.norm_journal.specs.InWorld.{world_after, at as at_judged}
use Rattle.norm_journal.specs.Jobs.{Told, may_be_absent, job_of}
use Rattle.norm_journal.specs.Judged.{Judged, is_whole, is_done}
use Rattle.norm_journal.specs.Places.{Place, Starting, Between, Pulling, Giving, Again, Sending, Offering, Taking, Handing, Over, handing, after_tick, command_due}
use Rattle.norm_journal.specs.SessionRun.{Ending, Whole, Spent, Absent, absent_of, ends_in, ending_of}
use Rattle.norm_journal.specs.Takes.{is_receiver, delivered}
use Rattle.norm_journal.specs.WorldEvents.{world_event, taken_after}
use Rattle.norm_journal.proofs.FollowLemmas.{judges_what_follows}
use Rattle.norm_journal.proofs.FrontLemmas.{whole_done}
use Rattle.norm_journal.proofs.OfferLemmas.{told_at, repeated_at}
use Rattle.norm_journal.proofs.WorldLemmas.{event_moves}
use Rattle.norm_laws.proofs.CountSender.{sender_is}
use Rattle.norm_recovery.specs.Steady.{Steady, RefusesNoObject, marks_of}
use Rattle.norm_recovery.specs.SteadyAsked.{IsOpenOrSatisfied}
use Rattle.norm_recovery.specs.SteadyPasses.{RunsDirectly, session_opening}
use Rattle.norm_recovery.specs.SteadyTurns.{IsSatisfied, EndsWell, TurnsSuffice}
use Rattle.norm_recovery.specs.TailKeeps.{as_made}
use Rattle.norm_recovery.specs.TailOf.{IsQuiet}
use Rattle.norm_recovery.proofs.AskedLaw.{OfReceivers, Kept, NextAt, with_event, job_is, asking_begins, asking_goes_on}
use Rattle.norm_recovery.proofs.AskedSteps.{At, stands_at, last_plain, Once, MayBeOld, Asked, Asking}
use Rattle.norm_recovery.proofs.CountMoves.{ended_in, fresh_in, CountsOn, itself_counts, hears_counts, CommandOn, Refuses, Declines, Accepts, command_counts, made_by}
use Rattle.norm_recovery.proofs.CountPlaces.{is_all_done, Timed, Due, AtTick, Rested, CountAt, handing_rests, ticked_rests, ticked_takes, offered_counts, tells_counts, told_same, one_mark, waiting_mark, pending_mark, marks_split, made_told, made_known, due_pending, handing_pending, ticked_pending, offered_pending, none_open, not_whole}
use Rattle.norm_recovery.proofs.CountTicks as ticks
use Rattle.norm_recovery.proofs.CountTicks.{trips, trips_are, some_trips, Within, FlushedBy, Waited, ForNone, Before, Behind, waited_on, tick_counts}
use Rattle.norm_recovery.proofs.DirectHands.{direct_passes}
use Rattle.norm_recovery.proofs.DirectKept.{no_sender}
use Rattle.norm_recovery.proofs.DirectTakes.{copies, another_take, due_more, most_members, spent}
use Rattle.norm_recovery.proofs.KeepsSender.{event_stays}
use Rattle.norm_recovery.proofs.SteadyFronts.{happened, Stands, stands, Walks, walks_steadily}
use Rattle.norm_recovery.proofs.SteadyJobs.{IsPlainJob}

-- what a session's pace is
pub record Paced (p : Settings) : Type 0 where
  pub spaced : 1 ≤ p.gap
  pub paced : p.gap ≤ p.step
  pub some : 1 ≤ trips p

-- what is kept along the journal
pub record Counting (commands marks : ℕ) (p : Settings) (j : Judged) : Type 0 where
  pub moment : j.now ≡ j.turn * p.step
  pub many : length j.world.sender.watermarks + marks_of j.left + pending_mark j.place j.waiting ≤ marks
  pub at : CountAt p commands j.turn (length j.left) j.now j.waiting j.world.sender j.place

-- the same sender at another place
at_place : (p : Settings) (commands : ℕ) (j : Judged) (place : Place) → j.place ≡ place → CountAt p commands j.turn (length j.left) j.now j.waiting j.world.sender j.place
    → CountAt p commands j.turn (length j.left) j.now j.waiting j.world.sender place
at_place p commands j place is h = subst (λ (q : Place). CountAt p commands j.turn (length j.left) j.now j.waiting j.world.sender q) is h

many_at : (marks : ℕ) (j : Judged) (place : Place) → j.place ≡ place → length j.world.sender.watermarks + marks_of j.left + pending_mark j.place j.waiting ≤ marks
    → length j.world.sender.watermarks + marks_of j.left + pending_mark place j.waiting ≤ marks
many_at marks j place is h = subst (λ (q : Place). length j.world.sender.watermarks + marks_of j.left + pending_mark q j.waiting ≤ marks) is h

-- ---- an event that leaves the sender

-- the same but for world and place, with the same sender
still_counts : (commands marks : ℕ) (p : Settings) (j : Judged) (s : SenderState) (place : Place) → s ≡ j.world.sender → pending_mark place j.waiting ≡ pending_mark j.place j.waiting
    → j.now ≡ j.turn * p.step → length j.world.sender.watermarks + marks_of j.left + pending_mark j.place j.waiting ≤ marks
    → CountAt p commands j.turn (length j.left) j.now j.waiting j.world.sender place
    → (length s.watermarks + marks_of j.left + pending_mark place j.waiting ≤ marks) × CountAt p commands j.turn (length j.left) j.now j.waiting s place
still_counts commands marks p j s place same pending moment many at = (
  (let e = ap (λ (t : SenderState). length t.watermarks) same in omega (arith, e, pending, many)),
  subst (λ (t : SenderState). CountAt p commands j.turn (length j.left) j.now j.waiting t place) (sym same) at,
)

-- a quiet event makes no watermark
quiet_many : (p : Settings) (w : World) (e : WorldEvent) → IsQuiet e → length (world_step p w e).0.sender.watermarks ≡ length w.sender.watermarks
quiet_many p w e quiet =
    sym (length-map (world_step p w e).0.sender.watermarks as_made) ∙ ap (λ (ws : List Watermark). length ws) (event_stays p w e quiet).marks ∙ length-map w.sender.watermarks as_made

-- ---- a command

-- before a command is offered
pub record Offers (commands marks : ℕ) (p : Settings) (j : Judged) (line : Line) : Type 0 where
  d : ℕ
  most : d ≤ 1
  due : Due p commands j.turn (length j.left) j.now (is_some j.waiting) j.world.sender d
  strict : 1 ≤ d → is_some j.waiting ≡ true
  many : length j.world.sender.watermarks + marks_of j.left + one_mark line ≤ marks

giving_offers : (commands marks : ℕ) (p : Settings) (j : Judged) (line : Line) → j.place ≡ Giving line → Counting commands marks p j → Offers commands marks p j line
giving_offers commands marks p j line is h = record {
  d = 0;
  most = omega arith;
  due = (at_place p commands j (Giving line) is h.at).1;
  strict = λ one. absurd (omega (arith, one));
  many = many_at marks j (Giving line) is h.many;
}

again_offers : (commands marks : ℕ) (p : Settings) (j : Judged) (line : Line) → j.place ≡ Again line → Counting commands marks p j → Offers commands marks p j line
again_offers commands marks p j line is h =
    let at = at_place p commands j (Again line) is h.at in
    record {
      d = 1;
      most = omega arith;
      due = at.1;
      strict = λ one. ap (λ (o : Option Line). is_some o) at.0;
      many = (let le = many_at marks j (Again line) is h.many in let e = ap waiting_mark at.0 in omega (arith, le, e));
    }

told_offers : (commands marks : ℕ) (p : Settings) (j : Judged) (line : Line) → telling j.place ≡ Some line → Counting commands marks p j → Offers commands marks p j line
told_offers commands marks p j line e h = go (told_at j.place line e)
  where
    go : (j.place ≡ Giving line) ⊎ ((j.place ≡ Again line) × (job_of line.verb ≡ None)) → Offers commands marks p j line
    go (inl is) = giving_offers commands marks p j line is h
    go (inr is) = again_offers commands marks p j line is.0 h

-- what an offer leads to: a line that waits or none, and the sender's tick
abbrev pub Given : (commands marks : ℕ) → Settings → Judged → Line → SenderState → Result Receipt SendFault → Type 0
Given commands marks p j line t gave =
    (length t.watermarks + marks_of j.left + waiting_mark (waiting_after line gave) ≤ marks)
    × AtTick p commands j.turn (length j.left) j.now (is_some (waiting_after line gave)) t

gives_so : (commands marks : ℕ) (p : Settings) (j : Judged) (line : Line) (t : SenderState) (waiting : Option Line) → 1 ≤ trips p → (o : Offers commands marks p j line)
    → CountsOn j.world.sender t → t.current.drop ≡ j.world.sender.current.drop → (is_some waiting ≡ true → oldest t ≡ None → ⊥)
    → AtTick p commands j.turn (length j.left) j.now (is_some waiting) t
gives_so commands marks p j line t waiting some o on drop opens =
    let w = waited_on p commands j.turn (length j.left) j.now None j.world.sender t (is_some j.waiting) (is_some waiting) o.due.x o.d some on drop o.due.timed.flushed
    (λ is none. absurd (opens is none)) o.due.waited o.due.within in
    record {
      d = o.d;
      most = o.most;
      due = record {
        begun = o.due.begun;
        x = w.x;
        within = w.within;
        waited = w.waited;
        timed = record {
          flushed = subst (FlushedBy p j.now) (sym on.last) o.due.timed.flushed;
          send = (let e = on.send in let le = o.due.timed.send in omega (arith, e, le));
        };
      };
      free = λ one none next. w.strict (o.strict one) none;
      opens = opens;
    }

-- many open watermarks are some
some_open : (s : SenderState) → nat_le most_open (length (open_watermarks s)) ≡ true → oldest s ≡ None → ⊥
some_open s e none = clash (sym (ap (λ (ws : List Watermark). nat_le most_open (length ws)) (none_open s.watermarks none)) ∙ e)

pub command_given : (commands marks : ℕ) (p : Settings) (j : Judged) (line : Line) (by : Origin) (given : Job) (told_is : Option Job) (gave : Result Receipt SendFault) → 1 ≤ trips p
    → Offers commands marks p j line → CommandOn j.world.sender (made_by given) (commanded p j.world.sender by given) → (commanded p j.world.sender by given).1 ≡ gave
    → (commanded p j.world.sender by given).0.current.drop ≡ j.world.sender.current.drop → made_by given ≡ one_mark line → RefusesNoObject (event.Job by told_is gave)
    → Given commands marks p j line (commanded p j.world.sender by given).0 gave
command_given commands marks p j line by given told_is gave some o on same drop made refuse = go on
  where
    s : SenderState
    s = j.world.sender

    step : SenderState × Result Receipt SendFault
    step = commanded p j.world.sender by given

    go : CommandOn j.world.sender (made_by given) (commanded p j.world.sender by given) → Given commands marks p j line (commanded p j.world.sender by given).0 gave
    go (Refuses fault e) =
        absurd (clash (sym (subst (λ (g : Result Receipt SendFault). RefusesNoObject (event.Job by told_is g)) (sym same ∙ e) refuse)))
    go (Declines fault e why) =
        let G : SenderState → Result Receipt SendFault → Type 0 = λ t g. Given commands marks p j line t g in
        subst (λ (t : SenderState). G t gave) (sym (ap (λ (x : SenderState × Result Receipt SendFault). x.0) e))
        (subst (λ (g : Result Receipt SendFault). G j.world.sender g) (sym (ap (λ (x : SenderState × Result Receipt SendFault). x.1) e) ∙ same)
        (by_wait (may_wait fault) refl))
      where
        waits_by : Bool → Option Line
        waits_by b = elim b [ true ↦ Some line | false ↦ None ]

        by_wait : (b : Bool) → may_wait fault ≡ b
            → (length j.world.sender.watermarks + marks_of j.left + waiting_mark (waits_by b) ≤ marks)
            × AtTick p commands j.turn (length j.left) j.now (is_some (waits_by b)) j.world.sender
        by_wait true e = (o.many, gives_so commands marks p j line j.world.sender (Some line) some o (itself_counts j.world.sender) refl (λ w none. some_open j.world.sender (why e) none))
        by_wait false e = (
          (let le = o.many in omega (arith, le)),
          gives_so commands marks p j line j.world.sender None some o (itself_counts j.world.sender) refl (λ w none. clash w),
        )
    go (Accepts receipt e counts many) =
        subst (λ (g : Result Receipt SendFault). Given commands marks p j line (commanded p j.world.sender by given).0 g) (sym e ∙ same) (
          (let le = o.many in omega (arith, le, many, made)),
          gives_so commands marks p j line (commanded p j.world.sender by given).0 None some o counts drop (λ w none. clash w),
        )

-- ---- each event

module _ (commands marks : ℕ) (events : List WorldEvent) (taken : ℕ) (j next : Judged) (paced : Paced j.profile) (a : At j.profile events j.world) where
  same_drop : (own : SenderState) → own ≡ next.world.sender → next.world.sender.current.drop ≡ point 0 0 → own.current.drop ≡ j.world.sender.current.drop
  same_drop own is kept = ap (λ (t : SenderState). t.current.drop) is ∙ kept ∙ sym a.kept

  -- the turn's moment
  pub turn_due : (turn now : ℕ) → turn ≡ j.turn + 1 → now ≡ j.now + j.profile.step → is_done j ≡ false → Rested j.profile commands j.turn (length j.left) j.now (is_some j.waiting) j.world.sender
      → CountAt j.profile commands turn (length j.left) now j.waiting j.world.sender (command_due j.waiting j.left)
  turn_due turn now number moment more r = go j.waiting j.left refl refl
    where
      p : Settings
      p = j.profile

      due : Due j.profile commands turn (length j.left) now (is_some j.waiting) j.world.sender 1
      due = record {
        begun = omega (arith, number);
        x = r.x;
        within = (let le = r.within in omega (arith, le, number));
        waited = subst (λ (by : ℕ). Waited j.profile by None j.world.sender (is_some j.waiting) r.x) (sym moment) r.waited;
        timed = subst (λ (by : ℕ). Timed j.profile by j.world.sender) (sym moment) r.timed;
      }

      go : (w : Option Line) (ls : List Line) → j.waiting ≡ w → j.left ≡ ls
          → CountAt j.profile commands turn (length j.left) now j.waiting j.world.sender (command_due w ls)
      go (Some line) ls e f = (e, due)
      go None (line ∷ ls) e f = (e, due)
      go None [] e f = record {
        d = 1;
        most = omega arith;
        due = record {
          begun = omega (arith, number);
          x = r.x;
          within = (let le = r.within in omega (arith, le, number));
          waited = subst (λ (by : ℕ). Waited j.profile by None j.world.sender (is_some j.waiting) r.x) (sym moment) r.waited;
          timed = subst (λ (by : ℕ). Timed j.profile by j.world.sender) (sym moment) r.timed;
        };
        free = λ one none new. by_turn j.turn refl none new;
        opens = λ w none. clash (sym (ap (λ (o : Option Line). is_some o) e) ∙ w);
      }
        where
          by_turn : (n : ℕ) → j.turn ≡ n → oldest j.world.sender ≡ None → next_new j.profile j.world.sender ≡ None → r.x ≤ 0
          by_turn zero t none new = r.first t
          by_turn (suc n) t none new = absurd (not_whole j a.needed.sender more (omega (arith, t)) f e none new)

  -- a take of the sender
  pub takes_on : (t : SenderState) → CountsOn j.world.sender t → t.current.drop ≡ j.world.sender.current.drop
      → ticks.Ticked j.profile commands j.turn (length j.left) j.now (is_some j.waiting) j.world.sender
      → ticks.Ticked j.profile commands j.turn (length j.left) j.now (is_some j.waiting) t
  takes_on t on drop h =
      let p : Settings = j.profile in
      let zero_more : Within p commands j.turn (length j.left) j.world.sender (h.x + 0) = (let le = h.within in omega (arith, le)) in
      let w = waited_on p commands j.turn (length j.left) (j.now + p.step) (Some j.now) j.world.sender t (is_some j.waiting) (is_some j.waiting) h.x 0 paced.some on drop h.flushed
      (λ is none. is) h.waited zero_more in
      record {
        x = w.x;
        within = (let le = w.within in omega (arith, le));
        waited = w.waited;
        flushed = subst (FlushedBy p (j.now + p.step)) (sym on.last) h.flushed;
        send = (let e = on.send in let le = h.send in omega (arith, e, le));
      }

  -- no copy is left
  pub empty_rests : (nodes : List ℕ) → Once j.profile taken j.world j.now (handing nodes) → (1 ≤ j.turn) × ticks.Ticked j.profile commands j.turn (length j.left) j.now (is_some j.waiting) j.world.sender
      → Rested j.profile commands j.turn (length j.left) j.now (is_some j.waiting) j.world.sender
  empty_rests nodes once (begun, h) = record {
    x = h.x;
    within = h.within;
    waited = go h.waited;
    timed = record { flushed = h.flushed; send = h.send };
    first = λ e. absurd (omega (arith, begun, e));
  }
    where
      none_old : (ns : List ℕ) (n : ℕ) → MayBeOld (handing ns) n → ⊥
      none_old [] n h = h
      none_old (x ∷ ns) n h = h

      asked : (wm : Watermark) → Asked j.profile taken j.world j.now wm (handing nodes) → (j.world.sender.flushes ≡ 1) × (j.world.sender.last_flush ≡ Some j.now)
      asked wm (inl fresh) = (fresh.0, fresh.1)
      asked wm (inr old) = absurd (none_old nodes j.world.sender.flushes old.0)

      go : Waited j.profile (j.now + j.profile.step) (Some j.now) j.world.sender (is_some j.waiting) h.x → Waited j.profile (j.now + j.profile.step) None j.world.sender (is_some j.waiting) h.x
      go (ForNone none le strict) = ForNone none le strict
      go (Before wm is count le since) = Before wm is count le since
      go (Behind wm is count most) = (let fresh = asked wm (once.asks wm is count) in Behind wm is count (most.1 fresh.0 fresh.1))

abbrev delivered_by : Judged → ℕ → List ℕ → Bool → Bool → Judged
delivered_by j to octets own receives = elim own [
  | true ↦ world_after (Delivered to octets j.now 0) j
  | false ↦ elim receives [
    | true ↦ record (world_after (Delivered to octets j.now (next_draw j.draws)) j) { draws = draws_after j.draws }
    | false ↦ j
  ]
]

one_more : (t step : ℕ) → (t + 1) * step ≡ t * step + step
one_more t step = omega arith

count_event : (commands marks : ℕ) (events : List WorldEvent) (taken : ℕ) (j next : Judged) (e : Event) → Paced j.profile → At j.profile events j.world → NextAt events j e next
    → Follows j e next → RefusesNoObject e → Asking j.profile taken j → IsDirect taken j e → OfReceivers j.profile j.place → Once j.profile (taken_with taken e) next.world next.now next.place
    → Counting commands marks j.profile j → Counting commands marks j.profile next
count_event commands marks events taken j next event.Start paced a b f refuse asking direct own_nodes once h =
    subst (λ (n : Judged). Counting commands marks j.profile n) (sym f.1.then)
    (record { moment = h.moment; many = many_at marks j Starting f.1.place h.many; at = at_place j.profile commands j Starting f.1.place h.at })
count_event commands marks events taken j next (event.Turn turn now) paced a b f refuse asking direct own_nodes once h =
    let p : Settings = j.profile in
    let steps : now ≡ turn * p.step = f.1.moment.stepped (λ zero_is. (let le = paced.paced in let some = paced.spaced in omega (arith, le, some, zero_is))) in
    let number = f.1.number in
    let product : turn * p.step ≡ j.turn * p.step + p.step = ap (λ (t : ℕ). t * p.step) number ∙ one_more j.turn p.step in
    let moment : now ≡ j.now + p.step = (let was = h.moment in omega (arith, steps, product, was)) in
    subst (λ (n : Judged). Counting commands marks j.profile n) (sym f.1.then) (record {
      moment = steps;
      many = (let le = many_at marks j Between f.1.place h.many in let e = due_pending j.waiting j.left j.waiting in omega (arith, le, e));
      at = turn_due commands marks events taken j next paced a turn now number moment f.1.more (at_place p commands j Between f.1.place h.at);
    })
count_event commands marks events taken j next (event.Pull by) paced a b f refuse asking direct own_nodes once h =
    let p : Settings = j.profile in
    let l = f.1.is_first in
    let was = at_place p commands j Pulling f.1.place h.at in
    let longer : length j.left ≡ length f.1.rest + 1 =
    (let x = ap length l.its_place ∙ length-append l.before (f.1.line ∷ l.behind) in let y = ap length l.rest_is ∙ length-append l.before l.behind in omega (arith, x, y)) in
    let marked : marks_of j.left ≡ marks_of f.1.rest + one_mark f.1.line =
    ap marks_of l.its_place ∙ marks_split l.before l.behind f.1.line ∙ ap (λ (ls : List Line). marks_of ls + one_mark f.1.line) (sym l.rest_is) in
    subst (λ (n : Judged). Counting commands marks j.profile n) (sym f.1.then) (record {
      moment = h.moment;
      many = (let le = many_at marks j Pulling f.1.place h.many in omega (arith, le, marked));
      at = (
        was.0,
        record {
          begun = was.1.begun;
          x = was.1.x;
          within = (let le = was.1.within in omega (arith, le, longer));
          waited = was.1.waited;
          timed = was.1.timed;
        },
      );
    })
count_event commands marks events taken j next (event.Job by told gave) paced a b f refuse asking direct own_nodes once h =
    subst (λ (n : Judged). Counting commands marks j.profile n) (sym f.1.then) (record { moment = h.moment; many = given.0; at = given.1 })
  where
    own : At j.profile (events ++ Commanded by f.1.job j.now ∷ []) next.world
    own = with_event j.profile events next.world (world_event j (event.Job by told gave)) (Commanded by f.1.job j.now)
        (ap (λ (o : Option Job). option_map (λ (job : Job). Commanded by job j.now) o) (job_is j f.1.line told f.1.job gave f.1.due)) b

    is_plain : IsPlainJob f.1.job
    is_plain = last_plain events (Commanded by f.1.job j.now) own.plain

    same_gave : (x y : Result Receipt SendFault) → ◌≡◌ {A = Answer} (Gave x) (Gave y) → x ≡ y
    same_gave x y e = cc

    drops : (commanded j.profile j.world.sender by f.1.job).0.current.drop ≡ j.world.sender.current.drop
    drops = sym (ap (λ (n : Judged). n.world.sender.current.drop) f.1.then) ∙ b.kept ∙ sym a.kept

    offers : OfferedAndTold j f.1.line told f.1.job gave ⊎ OfferedAgain j f.1.line told f.1.job → Offers commands marks j.profile j f.1.line
    offers (inl due) = told_offers commands marks j.profile j f.1.line due.place h
    offers (inr due) = again_offers commands marks j.profile j f.1.line (repeated_at j.place f.1.line f.1.job due.place).0 h

    made : OfferedAndTold j f.1.line told f.1.job gave ⊎ OfferedAgain j f.1.line told f.1.job → made_by f.1.job ≡ one_mark f.1.line
    made (inl due) = made_told j.files f.1.line.verb f.1.job is_plain due.its_job
    made (inr due) = made_known f.1.line.verb f.1.job is_plain (repeated_at j.place f.1.line f.1.job due.place).1

    given : Given commands marks j.profile j f.1.line (commanded j.profile j.world.sender by f.1.job).0 gave
    given = command_given commands marks j.profile j f.1.line by f.1.job told gave paced.some (offers f.1.due)
        (command_counts j.profile j.world.sender by f.1.job is_plain a.whole) (same_gave _ gave f.1.gives) drops (made f.1.due) refuse
count_event commands marks events taken j next (event.Length by name len fault) paced a b f refuse asking direct own_nodes once h = absurd (clash (sym refuse))
count_event commands marks events taken j next (event.Tick node said) paced a b f refuse asking direct own_nodes once h =
    subst (λ (n : Judged). Counting commands marks j.profile n) (sym f.1.then) (record { moment = h.moment; many = (go f.1.due).0; at = (go f.1.due).1 })
  where
    p : Settings
    p = j.profile

    t : SenderState
    t = (world_step j.profile j.world (Ticked node j.now)).0.sender

    Next : Place → Type 0
    Next place = (length (world_step j.profile j.world (Ticked node j.now)).0.sender.watermarks + marks_of j.left + pending_mark place j.waiting ≤ marks)
        × CountAt j.profile commands j.turn (length j.left) j.now j.waiting (world_step j.profile j.world (Ticked node j.now)).0.sender place

    as_many : length (world_step j.profile j.world (Ticked node j.now)).0.sender.watermarks ≡ length j.world.sender.watermarks
    as_many = quiet_many j.profile j.world (Ticked node j.now) tt

    ticks_at : (tick : AtTick j.profile commands j.turn (length j.left) j.now (is_some j.waiting) j.world.sender) → node ≡ j.profile.sender
        → ticks.Ticked j.profile commands j.turn (length j.left) j.now (is_some j.waiting) (world_step j.profile j.world (Ticked node j.now)).0.sender
    ticks_at tick own =
        let S : SenderState → Type 0 = λ x. ticks.Ticked j.profile commands j.turn (length j.left) j.now (is_some j.waiting) x in
        let same = sender_is j.profile j.world (Ticked node j.now)
        ∙ ap (λ (c : Bool). elim c as (λ _. SenderState) [ true ↦ (ticked j.profile j.world.sender j.now).0 | false ↦ j.world.sender ]) ((Decides-eqb node j.profile.sender).1 own) in
        subst S (sym same)
        (tick_counts j.profile commands j.turn (length j.left) j.now (is_some j.waiting) j.world.sender tick.due.x tick.d paced.spaced paced.paced a.needed.sender
        (let few = asking.asked.once.flushes in omega (arith, few)) tick.due.timed.send tick.due.timed.flushed tick.most tick.due.within tick.due.waited tick.free tick.opens)

    go : SendersTick j node f.1.after ⊎ ReceiversTick j node f.1.after → Next (after_tick node f.1.datagram f.1.after)
    go (inl due) =
        let tick = at_place j.profile commands j Sending due.place h.at in
        subst (λ (q : Place). Next (after_tick node f.1.datagram q)) (sym due.after_is) (
          (let le = many_at marks j Sending due.place h.many in
              let e = ticked_pending j.waiting node f.1.datagram (Taking 0) refl in let m = as_many in omega (arith, le, e, m)),
          ticked_takes j.profile commands j.turn (length j.left) j.now j.waiting _ node f.1.datagram (tick.due.begun, ticks_at tick due.node_is),
        )
    go (inr due) =
        let own = no_sender j.profile node (subst (OfReceivers j.profile) due.place own_nodes).0 in
        let same : t ≡ j.world.sender = world_laws.sender j.profile j.world (Ticked node j.now) own in
        let R : SenderState → Type 0 = λ x. Rested j.profile commands j.turn (length j.left) j.now (is_some j.waiting) x in
        subst (λ (q : Place). Next (after_tick node f.1.datagram q)) (sym due.after_is) (
          (let le = many_at marks j (Handing node due.nodes) due.place h.many in
              let e = ticked_pending j.waiting node f.1.datagram (handing due.nodes) (handing_pending j.waiting due.nodes) in let m = as_many in omega (arith, le, e, m)),
          ticked_rests j.profile commands j.turn (length j.left) j.now j.waiting _ node f.1.datagram due.nodes
              (subst R (sym same) (at_place j.profile commands j (Handing node due.nodes) due.place h.at)),
        )
count_event commands marks events taken j next (event.Offer from octets) paced a b f refuse asking direct own_nodes once h =
    let same : (world_step j.profile j.world (Offered from octets)).0.sender ≡ j.world.sender = world_laws.sender j.profile j.world (Offered from octets) refl in
    let was = at_place j.profile commands j (Offering from octets f.1.after) f.1.place h.at in
    let pend = offered_pending j.profile commands j.turn (length j.left) j.now j.waiting j.world.sender from octets f.1.after was in
    let on = still_counts commands marks j.profile j _ f.1.after same (pend ∙ sym (ap (λ (q : Place). pending_mark q j.waiting) f.1.place)) h.moment h.many
    (offered_counts j.profile commands j.turn (length j.left) j.now j.waiting j.world.sender from octets f.1.after was) in
    subst (λ (n : Judged). Counting commands marks j.profile n) (sym f.1.then) (record { moment = h.moment; many = on.0; at = on.1 })
count_event commands marks events taken j next (event.Took to octets) paced a b f refuse asking direct own_nodes once h =
    let p : Settings = j.profile in
    let lt = due_more (copies p j.world) taken (to, octets) direct in
    let spends = ap (spent p.receivers) f.1.place in
    let room = asking.waits.room in
    let most = most_members p.receivers a.range.receivers.1 in
    let then : next ≡ at_judged (Taking (f.1.count + 1)) (delivered to octets j) =
    f.1.then ∙ ap (λ (q : Place). at_judged q (delivered to octets j)) (another_take f.1.count j (omega (arith, lt, spends, room, most))) in
    subst (λ (n : Judged). Counting commands marks j.profile n) (sym then)
    (go (to == j.profile.sender) (is_receiver j to) refl (sym (ap (λ (n : Judged). n.world.sender.current.drop) then) ∙ b.kept))
  where
    was : (1 ≤ j.turn) × ticks.Ticked j.profile commands j.turn (length j.left) j.now (is_some j.waiting) j.world.sender
    was = at_place j.profile commands j (Taking f.1.count) f.1.place h.at

    le : length j.world.sender.watermarks + marks_of j.left + waiting_mark j.waiting ≤ marks
    le = many_at marks j (Taking f.1.count) f.1.place h.many

    go : (own receives : Bool) → (to == j.profile.sender) ≡ own → (delivered_by j to octets own receives).world.sender.current.drop ≡ point 0 0
        → Counting commands marks j.profile (at_judged (Taking (f.1.count + 1)) (delivered_by j to octets own receives))
    go true receives e kept =
        let s : SenderState = j.world.sender in
        let same : (world_step j.profile j.world (Delivered to octets j.now 0)).0.sender ≡ heard j.profile s octets j.now =
        sender_is j.profile j.world (Delivered to octets j.now 0)
        ∙ ap (λ (c : Bool). elim c as (λ _. SenderState) [ true ↦ heard j.profile j.world.sender octets j.now | false ↦ j.world.sender ]) e in
        let T : SenderState → Type 0 = λ x. ticks.Ticked j.profile commands j.turn (length j.left) j.now (is_some j.waiting) x in
        let m = quiet_many j.profile j.world (Delivered to octets j.now 0) tt in
        let low = le in
        record {
          moment = h.moment;
          many = omega (arith, low, m);
          at = (
            was.0,
            subst T (sym same) (takes_on commands marks events taken j next paced a (heard j.profile s octets j.now) (hears_counts j.profile s octets j.now)
                (ap (λ (x : SenderState). x.current.drop) (sym same) ∙ kept ∙ sym a.kept) was.1),
          );
        }
    go false true e kept =
        let same : (world_step j.profile j.world (Delivered to octets j.now (next_draw j.draws))).0.sender ≡ j.world.sender =
        world_laws.sender j.profile j.world (Delivered to octets j.now (next_draw j.draws)) e in
        let T : SenderState → Type 0 = λ x. ticks.Ticked j.profile commands j.turn (length j.left) j.now (is_some j.waiting) x in
        let m = ap (λ (x : SenderState). length x.watermarks) same in
        let low = le in
        record { moment = h.moment; many = omega (arith, low, m); at = (was.0, subst T (sym same) was.1) }
    go false false e kept = record { moment = h.moment; many = le; at = was }
count_event commands marks events taken j next event.Empty paced a b f refuse asking direct own_nodes once h =
    let p : Settings = j.profile in
    let was = at_place p commands j (Taking f.1.count) f.1.place h.at in
    let later : Once p taken j.world j.now (handing j.nodes) = subst (λ (n : Judged). Once p taken n.world n.now n.place) f.1.then once in
    subst (λ (n : Judged). Counting commands marks j.profile n) (sym f.1.then) (record {
      moment = h.moment;
      many = (let le = many_at marks j (Taking f.1.count) f.1.place h.many in let e = handing_pending j.waiting j.nodes in omega (arith, le, e));
      at = handing_rests p commands j.turn (length j.left) j.now j.waiting j.world.sender j.nodes (empty_rests commands marks events taken j next paced a j.nodes later was);
    })
count_event commands marks events taken j next (event.Up node instance up) paced a b f refuse asking direct own_nodes once h =
    let same : (world_step j.profile j.world (UpTaken node)).0.sender ≡ j.world.sender = world_laws.sender j.profile j.world (UpTaken node) refl in
    let on = still_counts commands marks j.profile j _ j.place same refl h.moment h.many h.at in
    subst (λ (n : Judged). Counting commands marks j.profile n) (sym f.1.then) (record { moment = h.moment; many = on.0; at = on.1 })
count_event commands marks events taken j next (event.News news) paced a b f refuse asking direct own_nodes once h =
    let told_so = told_same j.world.sender in
    subst (λ (n : Judged). Counting commands marks j.profile n) (sym f.then) (record {
      moment = h.moment;
      many = (let le = h.many in let e = ap (λ (ws : List Watermark). length ws) told_so.marks in omega (arith, le, e));
      at = tells_counts j.profile commands j.turn (length j.left) j.now j.world.sender (told j.world.sender).0 told_so j.waiting j.place h.at;
    })
count_event commands marks events taken j next event.End paced a b f refuse asking direct own_nodes once h =
    subst (λ (n : Judged). Counting commands marks j.profile n) (sym f.1.then)
    (record {
      moment = h.moment;
      many = many_at marks j Between f.1.place h.many;
      at = (at_place j.profile commands j Between f.1.place h.at, done (nat_le 1 j.turn) (is_whole j) (j.turn == j.profile.turns) refl refl f.1.done);
    })
  where
    done : (begun whole spent : Bool) → is_whole j ≡ whole → (j.turn == j.profile.turns) ≡ spent → (begun && (whole || spent)) ≡ true
        → (is_all_done j.profile (length j.left) j.waiting j.world.sender ≡ true) ⊎ (j.turn ≡ j.profile.turns)
    done false whole spent e g is = absurd (clash is)
    done true true spent e g is = inl e
    done true false true e g is = inr ((Decides-eqb j.turn j.profile.turns).0 g)
    done true false false e g is = absurd (clash is)

-- ---- the law

pub record Counted (commands marks taken : ℕ) (j : Judged) : Type 0 where
  pub kept : Kept taken j
  pub paced : Paced j.profile
  pub count : Counting commands marks j.profile j

count_begins : (script : Commands) (files : Told) → Counting (length script.lines) (marks_of script.lines) script.profile (session_opening script files)
unfolding new_from ended_in
count_begins script files = record {
  moment = omega arith;
  many = omega arith;
  at = record {
    x = 0;
    within = omega arith;
    waited = ForNone refl (omega arith) (λ w. omega arith);
    timed = record { flushed = tt; send = omega arith };
    first = λ e. omega arith;
  };
}

last_one : {X : Type 0} (P : X → Type 0) (xs : List X) (x : X) → AllByRecursion P (xs ++ x ∷ []) → P x
last_one P [] x all = all.0
last_one P (y ∷ xs) x all = last_one P xs x all.1

counted_on : (script : Commands) (files : Told) (front : List Event) (e : Event) (j next : Judged) → Walks script files front e j next
    → Counted (length script.lines) (marks_of script.lines) (taken_after 0 front) j
    → Counted (length script.lines) (marks_of script.lines) (taken_with (taken_after 0 front) e) next
counted_on script files front e j next k h =
    let n : ℕ = taken_after 0 front in
    let st : Stands script files front j = stands script files front j k.before in
    let es : List WorldEvent = happened script files front in
    let a : At j.profile es j.world = subst (λ (q : Settings). At q es j.world) st.profile (stands_at script files front j k.before) in
    let b : NextAt es j e next =
    subst (λ (q : Settings). At q (es ++ option_to_list (world_event j e)) next.world) st.profile
    (subst (λ (xs : List WorldEvent). At script.profile xs next.world) k.happens (stands_at script files (front ++ e ∷ []) next k.after)) in
    let f = (judges_what_follows j next e).0 k.comes in
    let same = (event_moves j e next k.comes).0 in
    let kept = asking_goes_on script files front e j next k h.kept in
    let once : Once j.profile (taken_with n e) next.world next.now next.place =
    subst (λ (q : Settings). Once q (taken_with n e) next.world next.now next.place) (sym same) kept.asking.asked in
    let count = count_event (length script.lines) (marks_of script.lines) es n j next e h.paced a b f (last_one RefusesNoObject front e k.after.steady.accepted) h.kept.asking k.direct
    h.kept.own once h.count in
    record {
      kept = kept;
      paced = subst Paced same h.paced;
      count = subst (λ (q : Settings). Counting (length script.lines) (marks_of script.lines) q next) same count;
    }

pub counted : (script : Commands) (files : Told) (events : List Event) (last : Judged) → RunsDirectly script files events last → Steady script files events
    → Counted (length script.lines) (marks_of script.lines) (taken_after 0 events) last
counted script files events last runs steady =
    walks_steadily script files (Counted (length script.lines) (marks_of script.lines)) (record {
      kept = asking_begins script files runs.can_run.range;
      paced = record {
        spaced = steady.spaced;
        paced = steady.paced;
        some = some_trips script.profile (let one = steady.spaced in let two = steady.paced in omega (arith, one, two)) runs.can_run.range.grtt.0;
      };
      count = count_begins script files;
    }) (counted_on script files) events last (record { runs = runs; steady = steady })

-- so many ended of so many watermarks
few_ended : (ws : List Watermark) → ended_in ws ≤ length ws
unfolding ended_in
few_ended [] = omega arith
few_ended (w ∷ ws) = go (is_open w) (few_ended ws)
  where
    go : (b : Bool) → ended_in ws ≤ length ws → length (cond (not b) (w ∷ filter (λ (x : Watermark). not (is_open x)) ws) (filter (λ (x : Watermark). not (is_open x)) ws)) ≤ suc (length ws)
    go true le = omega (arith, le)
    go false le = omega (arith, le)

one_is_open : (ws : List Watermark) (wm : Watermark) → find is_open ws ≡ Some wm → ended_in ws + 1 ≤ length ws
unfolding ended_in
one_is_open [] wm e = absurd (none-some wm e)
one_is_open (w ∷ ws) wm e = go (is_open w) e (few_ended ws) (one_is_open ws wm)
  where
    go : (b : Bool) → cond b (Some w) (find is_open ws) ≡ Some wm → ended_in ws ≤ length ws → (find is_open ws ≡ Some wm → ended_in ws + 1 ≤ length ws)
        → length (cond (not b) (w ∷ filter (λ (x : Watermark). not (is_open x)) ws) (filter (λ (x : Watermark). not (is_open x)) ws)) + 1 ≤ suc (length ws)
    go true e le next = omega (arith, le)
    go false e le next = (let more = next e in omega (arith, more))

-- behind the takes of a turn there are fewer turns than enough
few_turns : (p : Settings) (commands marks turn left now : ℕ) (waits : Bool) (s : SenderState) → length s.watermarks ≤ marks → Rested p commands turn left now waits s
    → turn < commands + fresh_in p s + marks * (trips p + 2) + 2
few_turns p commands marks turn left now waits s many r = go r.waited
  where
    less : (e : ℕ) → e ≤ marks → e * (trips p + 2) ≤ marks * (trips p + 2)
    less e le = mul-le-mul_right (trips p + 2) le

    with_open : (wm : Watermark) → oldest s ≡ Some wm → r.x ≤ trips p + 1 → turn < commands + fresh_in p s + marks * (trips p + 2) + 2
    with_open wm is le =
        let one = one_is_open s.watermarks wm is in
        let most = less (ended_in s.watermarks + 1) (omega (arith, one, many)) in
        let more : (ended_in s.watermarks + 1) * (trips p + 2) ≡ ended_in s.watermarks * (trips p + 2) + (trips p + 2) = omega arith in
        let within = r.within in
        omega (arith, most, more, within, le)

    go : Waited p (now + p.step) None s waits r.x → turn < commands + fresh_in p s + marks * (trips p + 2) + 2
    go (ForNone none le strict) =
        let few = few_ended s.watermarks in
        let most = less (ended_in s.watermarks) (omega (arith, few, many)) in
        let within = r.within in
        omega (arith, most, within, le)
    go (Before wm is count le since) = with_open wm is (omega (arith, le))
    go (Behind wm is count most) = with_open wm is most

-- a file that is not there spends no turns
no_file : (files : Told) (v : Verb) → absent_of files v ≡ Some Spent → ⊥
no_file files (verb.File name) e = by (may_be_absent files name) e
  where
    absent_spent : ◌≡◌ {A = Option Ending} (Some (Absent name)) (Some Spent) → ⊥
    absent_spent e = cc

    by : (b : Bool) → ◌≡◌ {A = Option Ending} (elim b [ true ↦ Some (Absent name) | false ↦ None ]) (Some Spent) → ⊥
    by true e = absent_spent e
    by false e = none-some Spent e
no_file files _ e = none-some Spent e

-- the place of an ending with the turns spent
spent_over : (place : Place) (j : Judged) → ends_in place j ≡ Some Spent → (place ≡ Over) × (is_whole j ≡ false)
spent_over Over j e = (refl, by (is_whole j) refl e)
  where
    whole_spent : ◌≡◌ {A = Option Ending} (Some Whole) (Some Spent) → ⊥
    whole_spent e = cc

    by : (b : Bool) → is_whole j ≡ b → ◌≡◌ {A = Option Ending} (elim b [ true ↦ Some Whole | false ↦ Some Spent ]) (Some Spent) → b ≡ false
    by true is e = absurd (whole_spent e)
    by false is e = refl
spent_over (Giving line) j e = absurd (no_file j.files line.verb e)
spent_over (Again line) j e = absurd (no_file j.files line.verb e)
spent_over _ j e = absurd (none-some Spent e)

-- each watermark was satisfied, if none is open
all_satisfied : (ws : List Watermark) → filter is_open ws ≡ [] → AllByRecursion IsOpenOrSatisfied ws → AllByRecursion IsSatisfied ws
all_satisfied [] none all = tt
all_satisfied (w ∷ ws) none all = go w.ended refl all.0 none (λ more. all_satisfied ws more all.1)
  where
    cons_none : w ∷ filter is_open ws ≡ [] → ⊥
    cons_none e = cc

    go : (o : Option Outcome) → w.ended ≡ o → (w.ended ≡ Some Satisfied) ⊎ (w.ended ≡ None) → cond (is_open w) (w ∷ filter is_open ws) (filter is_open ws) ≡ []
        → (filter is_open ws ≡ [] → AllByRecursion IsSatisfied ws) → (w.ended ≡ Some Satisfied) × AllByRecursion IsSatisfied ws
    go o e (inl is) none next =
        (is, next (sym (ap (λ (x : Option Outcome). cond (is_none x) (w ∷ filter is_open ws) (filter is_open ws)) is) ∙ none))
    go o e (inr is) none next =
        absurd (cons_none (sym (ap (λ (x : Option Outcome). cond (is_none x) (w ∷ filter is_open ws) (filter is_open ws)) is) ∙ none))

pub turns_suffice : TurnsSuffice
turns_suffice script files events last ending runs steady turns ended = go ending ended
  where
    c : Counted (length script.lines) (marks_of script.lines) (taken_after 0 events) last
    c = counted script files events last runs steady

    own : script.profile ≡ last.profile
    own = (stands script files events last (record { runs = runs; steady = steady })).profile

    over : last.place ≡ Over → is_whole last ≡ false → ⊥
    over place whole =
        let at = at_place last.profile (length script.lines) last Over place c.count.at in
        let many = many_at (marks_of script.lines) last Over place c.count.many in
        let few = few_turns last.profile (length script.lines) (marks_of script.lines) last.turn (length last.left) last.now (is_some last.waiting) last.world.sender
        (omega (arith, many)) at.0 in
        let enough : length script.lines + fresh_in last.profile last.world.sender + marks_of script.lines * (trips last.profile + 2) + 2 ≤ last.profile.turns =
        subst (λ (q : Settings). length script.lines + fresh_in q last.world.sender + marks_of script.lines * (trips q + 2) + 2 ≤ q.turns) own
        (subst (λ (n : ℕ). length script.lines + fresh_in script.profile last.world.sender + marks_of script.lines * (n + 2) + 2 ≤ script.profile.turns) (sym (trips_are script.profile)) turns) in
        by at.1 few enough
      where
        by : (is_all_done last.profile (length last.left) last.waiting last.world.sender ≡ true) ⊎ (last.turn ≡ last.profile.turns)
            → last.turn < length script.lines + fresh_in last.profile last.world.sender + marks_of script.lines * (trips last.profile + 2) + 2
            → length script.lines + fresh_in last.profile last.world.sender + marks_of script.lines * (trips last.profile + 2) + 2 ≤ last.profile.turns → ⊥
        by (inl done) few enough = clash (sym whole ∙ done)
        by (inr spent) few enough = omega (arith, few, enough, spent)

    go : (x : Ending) → ending_of last ≡ Some x → EndsWell script events last x
    go Whole e = record {
      satisfied = all_satisfied last.world.sender.watermarks (whole_done last e).watermarks c.kept.asking.asked.once.ended;
      handed = λ node is. direct_passes.whole script files events last runs e node is;
    }
    go Spent e = (let at = spent_over last.place last e in over at.0 at.1)
    go (Absent name) e = tt
