-- In a steady session over a direct network each watermark is asked for once or twice, and is satisfied then.
use Rattle.std.proofs.Common.{◌≡◌, ℕ, zero, suc, ◌+◌, ◌≤◌, List, [], ◌∷◌, ◌++◌, length, map, filter, cond, Bool, true, false, Option, None, Some, Result, refl, sym, ap, ◌∙◌, subst, arith, inl, inr}
use Rattle.std.specs.Prelude.{◌==◌, ◌&&◌, ◌||◌, ◌⊎◌, not, find, slice_get}
use Rattle.std.specs.List.{AllByRecursion, list_any}
use Rattle.std.proofs.lemmas.Bool.Decides.{Decides-eqb}
use Rattle.std.proofs.lemmas.Option.{same_Some}
use Rattle.norm_base.specs.Members.{receivers_of}
use Rattle.norm_base.specs.Settings.{Settings, InRange}
use Rattle.fec_plan.specs.Points.{point}
use Rattle.fec_plan.specs.declared.position.Position.{Position}
use Rattle.norm_ext.specs.Written.{Written, writes}
use Rattle.norm_receive_rules.specs.Nack.{ack_message}
use Rattle.norm_receive_rules.specs.ReceiverState.{ReceiverState}
use Rattle.norm_receive_rules.specs.ReceiverStep.{ReceiverEvent, receiver_step}
use Rattle.norm_receive_rules.specs.ReceiverStep as receiver
use Rattle.norm_receive_rules.specs.Receiving.{received}
use Rattle.norm_receive_rules.specs.Ticking.{ticked as receiver_ticked}
use Rattle.norm_script.specs.Commands.{Commands}
use Rattle.norm_script.specs.declared.script.Line.{Line}
use Rattle.norm_send_rules.specs.Flushing.{flushes_for}
use Rattle.norm_send_rules.specs.Reached.{IsReached}
use Rattle.norm_send_rules.specs.SenderState.{SenderState, Listing, Watermark}
use Rattle.norm_send_rules.specs.SenderStep as sender
use Rattle.norm_send_rules.specs.Ticking.{ticked}
use Rattle.norm_send_rules.specs.Watermarks.{is_past, members, oldest}
use Rattle.norm_send_rules.specs.declared.fault.SendFault.{SendFault}
use Rattle.norm_send_rules.specs.declared.job.Job.{Job}
use Rattle.norm_send_rules.specs.declared.job.Receipt.{Receipt}
use Rattle.norm_safety.specs.Acknowledges.{owes}
use Rattle.norm_safety.specs.CreditsMembers.{is_listed_past}
use Rattle.norm_safety.specs.Events.{Event as WorldEvent, Delivered, Ticked, Answer as Answered, Sent as Gives}
use Rattle.norm_safety.specs.InTime.{FewObjects}
use Rattle.norm_safety.specs.Jobs.{AreEvents}
use Rattle.norm_safety.specs.Lawful.{Lawful}
use Rattle.norm_safety.specs.World.{World, world_opening, receiver_at}
use Rattle.norm_safety.specs.WorldLaws.{is_senders, to_receiver}
use Rattle.norm_safety.specs.WorldStep.{world_step, moved, node_move, receiver_move, run}
use Rattle.norm_safety.proofs.EntryLemmas.{clash}
use Rattle.norm_safety.proofs.MetLemmas.{NoneMet}
use Rattle.norm_safety.proofs.Spoken.{current_order}
use Rattle.norm_safety.proofs.WorldLemmas.{world_laws}
use Rattle.norm_journal.specs.declared.event.Event.{Event}
use Rattle.norm_journal.specs.Commands.{telling}
use Rattle.norm_journal.specs.Follows.{OfferedAndTold, OfferedAgain}
use Rattle.norm_journal.specs.Jobs.{Told, job_of}
use Rattle.norm_journal.specs.Judged.{Judged}
use Rattle.norm_journal.specs.Places.{Place, Pulling, Giving, Again, Sending, Offering, Taking, Handing, handing, after_tick, command_due}
use Rattle.norm_journal.proofs.OfferLemmas.{told_at, repeated_at}
use Rattle.norm_laws.proofs.CountSender.{sender_is}
use Rattle.norm_laws.proofs.WholeOrders.{AreWhole}
use Rattle.norm_recovery.specs.FlushConfirmed.{is_asked}
use Rattle.norm_recovery.specs.SteadyAsked.{IsOpenOrSatisfied, AskedOnceOrTwice}
use Rattle.norm_recovery.specs.SteadyNothing.{NothingNeeded}
use Rattle.norm_recovery.proofs.AskedHears.{FlushAsk, flush_asks, Owes, hears_and_owes, Lists, ack_lists, stays_current}
use Rattle.norm_recovery.proofs.AskedMoves.{Goes, event_goes, AsksOn, same_asks, event_asks, TickCase, Early, New, Waits, Asks, tick_case, new_leaves}
use Rattle.norm_recovery.proofs.AskedWalk as walk
use Rattle.norm_recovery.proofs.AskedWalk.{Settling, Owing, MayOwe, Answer, EachNode, each_node, for_each, Moves, moves_same, lists_on, acked_on, settling_on, answer_on, IsCalm, calm_settles, settles_so}
use Rattle.norm_recovery.proofs.DirectKept.{no_sender, sender_step as sender_moves}
use Rattle.norm_recovery.proofs.DirectTakes.{copies, is_one}
use Rattle.norm_recovery.proofs.DirectTakes as takes
use Rattle.norm_recovery.proofs.FlushKnown.{after_run, flush_of}
use Rattle.norm_recovery.proofs.FlushOwed.{Says, says_due}
use Rattle.norm_recovery.proofs.SteadyFronts.{happened, Reaches, Stands, stands}
use Rattle.norm_recovery.proofs.SteadyJobs.{IsPlainEvent}
use Rattle.norm_recovery.proofs.SteadyNothing.{nothing_is_needed}
use Rattle.norm_recovery.proofs.TailCourses.{run_joined}

-- ---- a world in which nothing is needed, after so many events

pub record At (p : Settings) (events : List WorldEvent) (w : World) : Type 0 where
  pub range : InRange p
  pub world : run p events ≡ w
  pub lawful : Lawful p events
  pub jobs : AreEvents events
  pub few : FewObjects (run p events).sender
  pub plain : AllByRecursion IsPlainEvent events
  pub whole : AreWhole w.sender.current.order
  pub kept : w.sender.current.drop ≡ point 0 0
  pub needed : NothingNeeded p w

pub stands_at : (script : Commands) (files : Told) (events : List Event) (j : Judged) → Reaches script files events j
    → At script.profile (happened script files events) j.world
stands_at script files events j h =
    let s : Stands script files events j = stands script files events j h in
    record {
      range = h.runs.can_run.range;
      world = s.world;
      lawful = s.lawful;
      jobs = s.jobs;
      few = s.few;
      plain = s.plain;
      whole = s.whole;
      kept = s.kept;
      needed = nothing_is_needed script files events j h.runs h.steady;
    }

-- the last event is plain
pub last_plain : (events : List WorldEvent) (e : WorldEvent) → AllByRecursion IsPlainEvent (events ++ e ∷ []) → IsPlainEvent e
last_plain [] e all = all.0
last_plain (x ∷ events) e all = last_plain events e all.1

-- the world after one event more
pub led_by : (p : Settings) (events : List WorldEvent) (e : WorldEvent) (w v : World) → At p events w → At p (events ++ e ∷ []) v → (world_step p w e).0 ≡ v
led_by p events e w v a b = sym (ap (λ (x : World). (world_step p x e).0) a.world) ∙ sym (run_joined p (world_opening p) events (e ∷ [])) ∙ b.world

-- few objects are in the current order
pub few_now : (p : Settings) (events : List WorldEvent) (w : World) → At p events w → length w.sender.current.order ≤ 32768
few_now p events w a =
    subst (λ (v : World). length v.sender.current.order ≤ 32768) a.world
    (let same = ap length (current_order (run p events).sender (after_run p a.range events a.lawful a.jobs).holds.once.ids) in
    let le = a.few (run p events).sender.current.id in omega (arith, same, le))

-- ---- how a watermark is asked for, by the place

-- it was flushed in an earlier turn, and this often
abbrev pub MayBeOld : Place → ℕ → Type 0
MayBeOld Pulling n = n ≤ 1
MayBeOld (Giving line) n = n ≤ 1
MayBeOld (Again line) n = n ≤ 1
MayBeOld Sending n = n ≤ 1
MayBeOld (Taking taken) n = n ≤ 2
MayBeOld (Offering from octets (Taking taken)) n = n ≤ 2
MayBeOld _ n = ⊥

abbrev pub Fresh : Settings → ℕ → World → ℕ → Watermark → Place → Type 0
Fresh p taken w now wm place = (w.sender.flushes ≡ 1) × (w.sender.last_flush ≡ Some now) × EachNode p (Answer p taken w wm.at place)

abbrev pub Old : Settings → ℕ → World → Watermark → Place → Type 0
Old p taken w wm place = MayBeOld place w.sender.flushes × EachNode p (Settling p taken w wm.at)

abbrev pub Asked : Settings → ℕ → World → ℕ → Watermark → Place → Type 0
Asked p taken w now wm place = Fresh p taken w now wm place ⊎ Old p taken w wm place

-- what is kept of a sender's asking
pub record Once (p : Settings) (taken : ℕ) (w : World) (now : ℕ) (place : Place) : Type 0 where
  pub once : AskedOnceOrTwice w.sender
  pub asks : (wm : Watermark) → oldest w.sender ≡ Some wm → 1 ≤ w.sender.flushes → Asked p taken w now wm place

-- a flush of an earlier turn, where nothing is on its way to receivers
pub calm_asked : (p : Settings) (taken : ℕ) (w : World) (now : ℕ) (wm : Watermark) (place : Place) → IsCalm place → ((n : ℕ) → MayBeOld place n → n ≤ 1)
    → Asked p taken w now wm place → (w.sender.flushes ≤ 1) × EachNode p (Settling p taken w wm.at)
calm_asked p taken w now wm place calm most (inl fresh) =
    ((let one = fresh.0 in omega (arith, one)), each_node p _ _ (λ node is h. calm_settles p taken w wm.at place node calm h) fresh.2)
calm_asked p taken w now wm place calm most (inr old) = (most w.sender.flushes old.0, old.1)

-- one of this turn, at a place to which no older flush comes
pub fresh_asked : (p : Settings) (taken : ℕ) (w : World) (now : ℕ) (wm : Watermark) (place next : Place) → IsCalm place → ((n : ℕ) → MayBeOld place n → ⊥)
    → Asked p taken w now wm place → Fresh p taken w now wm next
fresh_asked p taken w now wm place next calm none (inl fresh) =
    (fresh.0, fresh.1, each_node p _ _ (λ node is h. settles_so p taken w wm.at next node (calm_settles p taken w wm.at place node calm h)) fresh.2)
fresh_asked p taken w now wm place next calm none (inr old) = absurd (none w.sender.flushes old.0)

pub settles_old : (p : Settings) (taken : ℕ) (w v : World) (wm : Watermark) → Moves p w v → EachNode p (Settling p taken w wm.at) → EachNode p (Settling p taken v wm.at)
settles_old p taken w v wm m all = each_node p _ _ (λ node is h. settling_on p taken w v wm.at node m h) all

-- ---- an event of the world that is no tick of the sender

pub record Stepped (w v : World) : Type 0 where
  pub goes : Goes w.sender v.sender
  pub asks : AsksOn w.sender v.sender

stepped : (p : Settings) (events : List WorldEvent) (e : WorldEvent) (w v : World) → At p events w → At p (events ++ e ∷ []) v → IsReached p w.sender
    → ((now : ℕ) → e ≡ Ticked p.sender now → ⊥) → Stepped w v
stepped p events e w v a b reached none =
    let plain = last_plain events e b.plain in
    subst (λ (x : World). Stepped w x) (led_by p events e w v a b)
    (record { goes = event_goes p w e plain a.whole; asks = event_asks p w e plain a.whole reached.book none })

pub once_on : (s t : SenderState) → AsksOn s t → AskedOnceOrTwice s → AskedOnceOrTwice t
once_on s t on h = record { flushes = (let few = on.few in let most = h.flushes in omega (arith, few, most)); ended = on.ended h.ended }

-- from what was asked before to what is asked after such an event
pub asks_on : (p : Settings) (taken other : ℕ) (w v : World) (was now : ℕ) (place next : Place) → Stepped w v
    → ((wm : Watermark) → oldest w.sender ≡ Some wm → v.sender.flushes ≡ w.sender.flushes → v.sender.last_flush ≡ w.sender.last_flush
    → Asked p taken w was wm place → Asked p other v now wm next)
    → Once p taken w was place → Once p other v now next
asks_on p taken other w v was now place next s each h = record {
  once = once_on w.sender v.sender s.asks h.once;
  asks = λ wm is some. (
      let before = s.asks.same wm is some in
      let count = before.1 in
      each wm before.0 before.1 before.2 (h.asks wm before.0 (omega (arith, some, count)))
      );
}

-- at the same place
pub asked_same : (p : Settings) (taken : ℕ) (w v : World) (now : ℕ) (wm : Watermark) (place : Place) → Moves p w v
    → ((node : ℕ) → is_one node (receivers_of p p.receivers) ≡ true → Owing w wm.at node → Owing v wm.at node)
    → v.sender.flushes ≡ w.sender.flushes → v.sender.last_flush ≡ w.sender.last_flush → Asked p taken w now wm place → Asked p taken v now wm place
asked_same p taken w v now wm place m owing count last (inl fresh) =
    inl (count ∙ fresh.0, last ∙ fresh.1, each_node p _ _ (λ node is h. answer_on p taken w v wm.at place node m (owing node is) h) fresh.2)
asked_same p taken w v now wm place m owing count last (inr old) =
    inr (subst (MayBeOld place) (sym count) old.0, settles_old p taken w v wm m old.1)

-- ---- commands

pub sending_asked : (p : Settings) (taken : ℕ) (w v : World) (now : ℕ) (wm : Watermark) (place : Place) → Moves p w v → IsCalm place → ((n : ℕ) → MayBeOld place n → n ≤ 1)
    → v.sender.flushes ≡ w.sender.flushes → Asked p taken w now wm place → Asked p taken v now wm Sending
sending_asked p taken w v now wm place m calm most count asked =
    let was = calm_asked p taken w now wm place calm most asked in
    inr ((let le = was.0 in omega (arith, le, count)), settles_old p taken w v wm m was.1)

pub record CommandPlace (place : Place) : Type 0 where
  pub calm : IsCalm place
  pub most : (n : ℕ) → MayBeOld place n → n ≤ 1

giving_place : (line : Line) → CommandPlace (Giving line)
giving_place line = record { calm = tt; most = λ n h. h }

again_place : (line : Line) → CommandPlace (Again line)
again_place line = record { calm = tt; most = λ n h. h }

pub told_place : (place : Place) (line : Line) → telling place ≡ Some line → CommandPlace place
told_place place line e = go (told_at place line e)
  where
    go : (place ≡ Giving line) ⊎ ((place ≡ Again line) × (job_of line.verb ≡ None)) → CommandPlace place
    go (inl is) = subst CommandPlace (sym is) (giving_place line)
    go (inr is) = subst CommandPlace (sym is.0) (again_place line)

pub job_place : (j : Judged) (line : Line) (told : Option Job) (job : Job) (gave : Result Receipt SendFault)
    → OfferedAndTold j line told job gave ⊎ OfferedAgain j line told job → CommandPlace j.place
job_place j line told job gave (inl due) = told_place j.place line due.place
job_place j line told job gave (inr due) = subst CommandPlace (sym (repeated_at j.place line job due.place).0) (again_place line)

-- ---- the sender's tick

-- the node is asked, or listed
not_asked : (s : SenderState) (at : Position) (node : ℕ) → list_any (λ (n : ℕ). n == node) (members s) ≡ true → is_asked s at node ≡ false → is_listed_past s node at ≡ true
not_asked s at node = go s.listings
  where
    go : (ls : List Listing) → list_any (λ (n : ℕ). n == node) (map (λ (l : Listing). l.node) ls) ≡ true
        → list_any (λ (n : ℕ). n == node) (map (λ (l : Listing). l.node) (filter (λ (l : Listing). not (is_past at l)) ls)) ≡ false
        → list_any (λ (l : Listing). l.node == node && is_past at l) ls ≡ true
    go [] is none = absurd (clash is)
    go (l ∷ ls) is none = by (l.node == node) (is_past at l) refl is none (go ls)
      where
        rest : List ℕ
        rest = map (λ (x : Listing). x.node) (filter (λ (x : Listing). not (is_past at x)) ls)

        or_right : (a b : Bool) → b ≡ true → (a || b) ≡ true
        or_right true b e = refl
        or_right false b e = e

        by : (a b : Bool) → (l.node == node) ≡ a → (a || list_any (λ (n : ℕ). n == node) (map (λ (x : Listing). x.node) ls)) ≡ true
            → list_any (λ (n : ℕ). n == node) (map (λ (x : Listing). x.node) (cond (not b) (l ∷ filter (λ (x : Listing). not (is_past at x)) ls) (filter (λ (x : Listing). not (is_past at x)) ls))) ≡ false
            → (list_any (λ (n : ℕ). n == node) (map (λ (x : Listing). x.node) ls) ≡ true → list_any (λ (n : ℕ). n == node) rest ≡ false
            → list_any (λ (x : Listing). x.node == node && is_past at x) ls ≡ true)
            → ((a && b) || list_any (λ (x : Listing). x.node == node && is_past at x) ls) ≡ true
        by true true e is none more = refl
        by true false e is none more = absurd (clash (sym none ∙ ap (λ (c : Bool). c || list_any (λ (n : ℕ). n == node) rest) e))
        by false true e is none more = more is none
        by false false e is none more = more is (sym (ap (λ (c : Bool). c || list_any (λ (n : ℕ). n == node) rest) e) ∙ none)

due_taking : (node : ℕ) (d : Option Written) (n : ℕ) → n ≤ 2 → MayBeOld (after_tick node d (Taking 0)) n
due_taking node None n le = le
due_taking node (Some d) n le = le

-- ---- a take

-- what is asked for while a turn takes
pub asked_takes : (p : Settings) (taken count next : ℕ) (w v : World) (now : ℕ) (wm : Watermark)
    → ((node : ℕ) → is_one node (receivers_of p p.receivers) ≡ true → Settling p taken w wm.at node → Settling p (taken + 1) v wm.at node)
    → ((node : ℕ) → is_one node (receivers_of p p.receivers) ≡ true → Answer p taken w wm.at (Taking count) node → Answer p (taken + 1) v wm.at (Taking next) node)
    → v.sender.flushes ≡ w.sender.flushes → v.sender.last_flush ≡ w.sender.last_flush → Asked p taken w now wm (Taking count) → Asked p (taken + 1) v now wm (Taking next)
asked_takes p taken count next w v now wm settles answers count_is last (inl fresh) =
    inl (count_is ∙ fresh.0, last ∙ fresh.1, each_node p _ _ answers fresh.2)
asked_takes p taken count next w v now wm settles answers count_is last (inr old) =
    inr (subst (MayBeOld (Taking next)) (sym count_is) old.0, each_node p _ _ settles old.1)

apart : (a b : ℕ) → (a == b) ≡ false → a ≡ b → ⊥
apart a b e same = clash (sym e ∙ (Decides-eqb a b).1 same)

-- a copy that is due is another one, or this
record IsCopy (to : ℕ) (octets : List ℕ) (own : ℕ) (its : List ℕ) : Type 0 where
  node : own ≡ to
  same : its ≡ octets

module _ (p : Settings) (taken : ℕ) (w v : World) (to : ℕ) (octets : List ℕ) (due : slice_get (copies p w) taken ≡ Some (to, octets)) (m : Moves p w v) where
  its_copy : (own : ℕ) (its : List ℕ) (place : ℕ) → taken ≡ place → slice_get (copies p w) place ≡ Some (own, its) → IsCopy to octets own its
  its_copy own its place is copy =
      let a : ℕ × List ℕ = (own, its) in
      let b : ℕ × List ℕ = (to, octets) in
      let e = same_Some a b (sym copy ∙ ap (slice_get (copies p w)) (sym is) ∙ due) in
      record { node = ap (λ (q : ℕ × List ℕ). q.0) e; same = ap (λ (q : ℕ × List ℕ). q.1) e }

  -- of the copies for the sender: this one lists the node, if it is the sender's
  pub settles_take : (at : Position) (node : ℕ) → ((its : List ℕ) → p.sender ≡ to → its ≡ octets → Lists p w.sender node at its → is_listed_past v.sender node at ≡ true)
      → Settling p taken w at node → Settling p (taken + 1) v at node
  settles_take at node hears (inl is) = inl (m.goes.listed node at is)
  settles_take at node hears (inr a) = go (taken == a.place) refl
    where
      go : (b : Bool) → (taken == a.place) ≡ b → Settling p (taken + 1) v at node
      go true e =
          let c = its_copy p.sender a.octets a.place ((Decides-eqb taken a.place).0 e) a.copy in
          inl (hears a.octets c.node c.same a.lists)
      go false e = inr (record {
        octets = a.octets;
        lists = lists_on p w.sender v.sender node at a.octets m.goes a.lists;
        place = a.place;
        later = (let le = a.later in let differ = apart taken a.place e in omega (arith, le, differ));
        copy = m.copies a.place (p.sender, a.octets) a.copy;
      })

  pub answers_take : (at : Position) (count next node : ℕ)
      → ((its : List ℕ) → p.sender ≡ to → its ≡ octets → Lists p w.sender node at its → is_listed_past v.sender node at ≡ true)
      → ((its : List ℕ) → node ≡ to → its ≡ octets → FlushAsk p w.sender.current.id at node its → Owing v at node)
      → (Owing w at node → Owing v at node)
      → Answer p taken w at (Taking count) node → Answer p (taken + 1) v at (Taking next) node
  answers_take at count next node hears owes still (walk.Listed is) = walk.Listed (m.goes.listed node at is)
  answers_take at count next node hears owes still (walk.Acks a) = settles_so p (taken + 1) v at (Taking next) node (settles_take at node hears (inr a))
  answers_take at count next node hears owes still (walk.ToHear h taking) = go (taken == h.place) refl
    where
      go : (b : Bool) → (taken == h.place) ≡ b → Answer p (taken + 1) v at (Taking next) node
      go true e =
          let c = its_copy node h.octets h.place ((Decides-eqb taken h.place).0 e) h.copy in
          walk.Owes (owes h.octets c.node c.same h.asks) tt
      go false e = walk.ToHear (record {
        octets = h.octets;
        asks = subst (λ (id : ℕ). FlushAsk p id at node h.octets) (sym m.goes.id) h.asks;
        place = h.place;
        later = (let le = h.later in let differ = apart taken h.place e in omega (arith, le, differ));
        copy = m.copies h.place (node, h.octets) h.copy;
      }) tt
  answers_take at count next node hears owes still (walk.Owes o may) = walk.Owes (still o) tt
  answers_take at count next node hears owes still (walk.Gave given gives lists) = absurd gives
  answers_take at count next node hears owes still (walk.Asked given gives asks) = absurd gives

-- ---- receivers

-- a receiver that is no sender hears, ticks, or hands up
pub hears_still : (p : Settings) (events : List WorldEvent) (w v : World) (own : WorldEvent) → At p events w → At p (events ++ own ∷ []) v → Moves p w v → (at : Position) (node : ℕ)
    → (node == p.sender) ≡ false → (event : ReceiverEvent) → is_senders p own ≡ false → to_receiver own ≡ Some (node, event)
    → ((r : ReceiverState) → (receiver_step p r event).0.instance ≡ r.instance → owes r at ≡ true → owes (receiver_step p r event).0 at ≡ true)
    → Owing w at node → Owing v at node
hears_still p events w v own a b m at node other event theirs to keeps o =
    let t : ReceiverState = (receiver_step p o.r event).0 in
    let found : receiver_at v node ≡ Some t =
    ap (λ (x : World). receiver_at x node) (sym (led_by p events own w v a b)) ∙ world_laws.moves p w own node event o.r theirs to o.found in
    let id : (run p (events ++ own ∷ [])).sender.current.id ≡ w.sender.current.id = ap (λ (x : World). x.sender.current.id) b.world ∙ m.goes.id in
    let same = stays_current p a.range (events ++ own ∷ []) b.lawful b.jobs node w.sender.current.id o.r t event
    (ap (λ (x : World). receiver_at x node) b.world ∙ found) refl id o.inside in
    record { r = t; found = found; owes = keeps o.r same o.owes; inside = same ∙ o.inside ∙ ap (λ (n : ℕ). Some n) (sym m.goes.id) }

-- a receiver that is asked hears the flush
pub hears_flush_so : (p : Settings) (events : List WorldEvent) (w v : World) (node : ℕ) (octets : List ℕ) (now draw : ℕ) → At p events w
    → At p (events ++ Delivered node octets now draw ∷ []) v → Moves p w v → (node == p.sender) ≡ false → (wm : Watermark) → oldest w.sender ≡ Some wm
    → FlushAsk p w.sender.current.id wm.at node octets → (r : ReceiverState) → receiver_at w node ≡ Some r → Owing v wm.at node
hears_flush_so p events w v node octets now draw a b m other wm is asks r found =
    let t : ReceiverState = received p r octets now draw in
    let found' : receiver_at v node ≡ Some t =
    ap (λ (x : World). receiver_at x node) (sym (led_by p events (Delivered node octets now draw) w v a b))
    ∙ world_laws.moves p w (Delivered node octets now draw) node (receiver.Delivered octets now draw) r other (to_is octets now draw) found in
    let Hears : World → Type 0 = λ x. receiver_at x node ≡ Some r → oldest x.sender ≡ Some wm → FlushAsk p x.sender.current.id wm.at node octets
    → AreWhole x.sender.current.order → x.sender.current.drop ≡ point 0 0 → Owes p x.sender.current.id wm.at t in
    let own : Owes p w.sender.current.id wm.at t =
    (subst Hears a.world (λ f o k wh d. hears_and_owes p a.range events node octets now draw b.lawful b.jobs a.few other r f wm o k wh d
    (b.needed.receivers node t found').needs)) found is asks a.whole a.kept in
    record { r = t; found = found'; owes = own.owes; inside = own.inside ∙ ap (λ (n : ℕ). Some n) (sym m.goes.id) }
  where
    to_is : (os : List ℕ) (n d : ℕ) → to_receiver (Delivered node os n d) ≡ Some (node, receiver.Delivered os n d)
    to_is os n d = refl

-- every receiver's node has a receiver
found_one : (node : ℕ) (rs : List ReceiverState) → is_one node (map (λ (r : ReceiverState). r.node) rs) ≡ true
    → (r : ReceiverState) × (find (λ (x : ReceiverState). x.node == node) rs ≡ Some r)
found_one node [] e = absurd (clash e)
found_one node (x ∷ rs) e = by (x.node == node) e (λ more. found_one node rs more)
  where
    by : (b : Bool) → (b || is_one node (map (λ (r : ReceiverState). r.node) rs)) ≡ true
        → (is_one node (map (λ (r : ReceiverState). r.node) rs) ≡ true → (r : ReceiverState) × (find (λ (y : ReceiverState). y.node == node) rs ≡ Some r))
        → (r : ReceiverState) × (cond b (Some x) (find (λ (y : ReceiverState). y.node == node) rs) ≡ Some r)
    by true e next = (x, refl)
    by false e next = next e

pub has_receiver : (p : Settings) (events : List WorldEvent) (w : World) → At p events w → (node : ℕ) → is_one node (receivers_of p p.receivers) ≡ true
    → (r : ReceiverState) × (receiver_at w node ≡ Some r)
has_receiver p events w a node is =
    found_one node w.receivers
    (subst (λ (ns : List ℕ). is_one node ns ≡ true)
    (sym (ap (λ (x : World). map (λ (r : ReceiverState). r.node) x.receivers) (sym a.world) ∙ world_laws.nodes p events)) is)

-- a receiver's own tick says what it owes
pub tick_says : (p : Settings) (events : List WorldEvent) (taken : ℕ) (w v : World) (node now : ℕ) (d : Option Written) (nodes : List ℕ) → At p events w → Moves p w v
    → members w.sender ≡ receivers_of p p.receivers → is_one node (receivers_of p p.receivers) ≡ true
    → (world_step p w (Ticked node now)).1 ≡ Gives d → (at : Position) → Owing w at node → Answer p taken v at (after_tick node d (handing nodes)) node
tick_says p events taken w v node now d nodes a m all is gives at o =
    subst (λ (x : Option Written). Answer p taken v at (after_tick node x (handing nodes)) node) (sym given)
    (walk.Gave ack.octets (refl, refl) (lists_on p w.sender v.sender node at ack.octets m.goes lists))
  where
    says : Says p o.r now at
    says = says_due p o.r now at o.owes

    ack : Written
    ack = writes (ack_message p o.r (says_due p o.r now at o.owes).due) ((says_due p o.r now at o.owes).due.index ∷ [])

    given_same : (x y : Option Written) → ◌≡◌ {A = Answered} (Gives x) (Gives y) → x ≡ y
    given_same x y e = cc

    answer : (world_step p w (Ticked node now)).1 ≡ Gives (receiver_ticked p o.r now).1
    answer = ap (λ (b : Bool). (moved p w (node_move b (receiver_at w node) (sender.Ticked now) (receiver.Ticked now))).1) (no_sender p node is)
        ∙ ap (λ (f : Option ReceiverState). (moved p w (receiver_move f (receiver.Ticked now))).1) o.found

    given : d ≡ Some ack
    given = given_same d (Some ack) (sym gives ∙ answer ∙ ap Gives says.sent)

    member : list_any (λ (n : ℕ). n == node) (members w.sender) ≡ true
    member = ap (list_any (λ (n : ℕ). n == node)) all ∙ is

    lists : Lists p w.sender node at ack.octets
    lists =
        let L : World → Type 0 = λ x. receiver_at x node ≡ Some o.r → o.r.instance ≡ Some x.sender.current.id → list_any (λ (n : ℕ). n == node) (members x.sender) ≡ true
        → Lists p x.sender node at ack.octets in
        (subst L a.world (λ f inside among. ack_lists p a.range events a.lawful a.jobs node o.r f inside among says.due at says.is says.further)) o.found o.inside member

-- another receiver's tick
pub other_ticks : (p : Settings) (taken : ℕ) (w v : World) (at : Position) (m : Moves p w v) (own node : ℕ) (d : Option Written) (nodes : List ℕ)
    → ((own == node) ≡ false → Owing w at node → Owing v at node)
    → ((own == node) ≡ true → Owing w at node → Answer p taken v at (after_tick own d (handing nodes)) node)
    → Answer p taken w at (Handing own nodes) node → Answer p taken v at (after_tick own d (handing nodes)) node
other_ticks p taken w v at m own node d nodes still says (walk.Listed is) = walk.Listed (m.goes.listed node at is)
other_ticks p taken w v at m own node d nodes still says (walk.Acks a) = walk.Acks (acked_on p taken w v at node m a)
other_ticks p taken w v at m own node d nodes still says (walk.ToHear h taking) = absurd taking
other_ticks p taken w v at m own node d nodes still says (walk.Owes o may) = go (own == node) refl may
  where
    later : (e : Option Written) (ns : List ℕ) → is_one node ns ≡ true → MayOwe (after_tick own e (handing ns)) node
    later None [] is = absurd (clash is)
    later None (n ∷ ns) is = is
    later (Some x) [] is = absurd (clash is)
    later (Some x) (n ∷ ns) is = is

    go : (b : Bool) → (own == node) ≡ b → (b || is_one node nodes) ≡ true → Answer p taken v at (after_tick own d (handing nodes)) node
    go true e is = says e o
    go false e is = walk.Owes (still e o) (later d nodes is)
other_ticks p taken w v at m own node d nodes still says (walk.Gave given gives lists) = absurd gives
other_ticks p taken w v at m own node d nodes still says (walk.Asked given gives asks) = absurd gives

-- ---- each event of the journal

-- what is kept
pub record Asking (p : Settings) (taken : ℕ) (j : Judged) : Type 0 where
  pub nodes : members j.world.sender ≡ receivers_of p p.receivers
  pub none : NoneMet j.world.sender
  pub reached : IsReached p j.world.sender
  pub waits : takes.Waits p taken j
  pub asked : Once p taken j.world j.now j.place

abbrev Led : Settings → ℕ → Judged → Type 0
Led p taken next = Once p taken next.world next.now next.place

pub no_tick : (p : Settings) (node now : ℕ) → (node == p.sender) ≡ false → (n : ℕ) → ◌≡◌ {A = WorldEvent} (Ticked node now) (Ticked p.sender n) → ⊥
no_tick p node now other n e = clash (sym other ∙ (Decides-eqb node p.sender).1 (same e))
  where
    same : ◌≡◌ {A = WorldEvent} (Ticked node now) (Ticked p.sender n) → node ≡ p.sender
    same e = cc

-- the sender's own tick
pub sender_asks : (p : Settings) (events : List WorldEvent) (taken : ℕ) (w v : World) (node now : ℕ) (d : Option Written) → At p events w → At p (events ++ Ticked node now ∷ []) v
    → node ≡ p.sender → members w.sender ≡ receivers_of p p.receivers → (world_step p w (Ticked node now)).1 ≡ Gives d → Once p taken w now Sending
    → Once p taken v now (after_tick node d (Taking 0))
sender_asks p events taken w v node now d a b own all gives h = go (tick_case p now w.sender a.needed.sender (let few = h.once.flushes in omega (arith, few)))
  where
    s : SenderState
    s = w.sender

    is : (node == p.sender) ≡ true
    is = (Decides-eqb node p.sender).1 own

    led : (world_step p w (Ticked node now)).0 ≡ v
    led = led_by p events (Ticked node now) w v a b

    then : v.sender ≡ (ticked p w.sender now).0
    then = ap (λ (x : World). x.sender) (sym led) ∙ sender_is p w (Ticked node now)
        ∙ ap (λ (c : Bool). elim c as (λ _. SenderState) [ true ↦ (ticked p w.sender now).0 | false ↦ w.sender ]) is

    goes : Goes w.sender v.sender
    goes = subst (λ (x : World). Goes w.sender x.sender) led (event_goes p w (Ticked node now) tt a.whole)

    m : Moves p w v
    m = moves_same p w v goes (ap (λ (x : World). x.offered) (sym led) ∙ world_laws.offered p w (Ticked node now) refl)

    given_same : (x y : Option Written) → ◌≡◌ {A = Answered} (Gives x) (Gives y) → x ≡ y
    given_same x y e = cc

    given : (ticked p w.sender now).1 ≡ d
    given = given_same _ d (sym (ap (λ (x : World × Answered). x.1) (sender_moves p w node now own)) ∙ gives)

    -- nothing is asked
    rests : AsksOn w.sender (ticked p w.sender now).0 → Once p taken v now (after_tick node d (Taking 0))
    rests on =
        let on' : AsksOn w.sender v.sender = subst (AsksOn w.sender) (sym then) on in
        asks_on p taken taken w v now now Sending (after_tick node d (Taking 0)) (record { goes = goes; asks = on' })
        (λ wm was count last asked. (
        let calm = calm_asked p taken w now wm Sending tt (λ n le. le) asked in
        inr (due_taking node d v.sender.flushes (let le = calm.0 in omega (arith, le, count)), settles_old p taken w v wm m calm.1)
        )) h

    -- a flush goes
    flushes : (wm : Watermark) → oldest w.sender ≡ Some wm → ticked p w.sender now ≡ flushes_for p now wm w.sender → Once p taken v now (after_tick node d (Taking 0))
    flushes wm old goes_so = record {
      once = record {
        flushes = (let le = once_before in omega (arith, count, le));
        ended = subst (λ (t : SenderState). AllByRecursion IsOpenOrSatisfied t.watermarks) (sym after) h.once.ended;
      };
      asks = λ x old' some. subst (λ (y : Watermark). Asked p taken v now y (after_tick node d (Taking 0))) (same_Some wm x (sym old ∙ ap oldest (sym after) ∙ old')) (by w.sender.flushes refl);
    }
      where
        after : v.sender ≡ (flushes_for p now wm w.sender).0
        after = then ∙ ap (λ (x : SenderState × Option Written). x.0) goes_so

        count : v.sender.flushes ≡ w.sender.flushes + 1
        count = ap (λ (t : SenderState). t.flushes) after

        settled : 1 ≤ w.sender.flushes → (w.sender.flushes ≤ 1) × EachNode p (Settling p taken w wm.at)
        settled some = calm_asked p taken w now wm Sending tt (λ n le. le) (h.asks wm old some)

        once_before : w.sender.flushes ≤ 1
        once_before = one w.sender.flushes refl
          where
            one : (n : ℕ) → w.sender.flushes ≡ n → w.sender.flushes ≤ 1
            one zero e = omega (arith, e)
            one (suc n) e = (settled (omega (arith, e))).0

        sent : d ≡ Some (flush_of p w.sender wm)
        sent = sym given ∙ ap (λ (x : SenderState × Option Written). x.1) goes_so

        asks : (n : ℕ) → is_one n (receivers_of p p.receivers) ≡ true → (c : Bool) → is_asked w.sender wm.at n ≡ c → Answer p taken v wm.at (after_tick node d (Taking 0)) n
        asks n one false e = walk.Listed (goes.listed n wm.at (not_asked w.sender wm.at n (ap (list_any (λ (x : ℕ). x == n)) all ∙ one) e))
        asks n one true e =
            let F : World → Type 0 = λ x. ticked p x.sender now ≡ flushes_for p now wm x.sender → is_asked x.sender wm.at n ≡ true
            → FlushAsk p x.sender.current.id wm.at n (flush_of p x.sender wm).octets in
            let ask : FlushAsk p w.sender.current.id wm.at n (flush_of p w.sender wm).octets =
            (subst F a.world (λ so is. flush_asks p a.range events a.lawful a.jobs a.few now wm so n is)) goes_so e in
            subst (λ (x : Option Written). Answer p taken v wm.at (after_tick node x (Taking 0)) n) (sym sent)
            (walk.Asked (flush_of p w.sender wm).octets (own, refl) (subst (λ (id : ℕ). FlushAsk p id wm.at n (flush_of p w.sender wm).octets) (sym goes.id) ask))

        by : (n : ℕ) → w.sender.flushes ≡ n → Asked p taken v now wm (after_tick node d (Taking 0))
        by zero e = inl (count ∙ ap (λ (n : ℕ). n + 1) e, ap (λ (t : SenderState). t.last_flush) after, for_each p _ (λ n one. asks n one (is_asked w.sender wm.at n) refl))
        by (suc n) e =
            let was = settled (omega (arith, e)) in
            inr (due_taking node d v.sender.flushes (let le = was.0 in omega (arith, count, le)), settles_old p taken w v wm m was.1)

    go : TickCase p now w.sender → Once p taken v now (after_tick node d (Taking 0))
    go (Early lt goes_so) = rests (subst (λ (x : SenderState × Option Written). AsksOn w.sender x.0) (sym goes_so) (same_asks w.sender w.sender refl refl refl))
    go (New x next goes_so) = rests (subst (λ (x : SenderState × Option Written). AsksOn w.sender x.0) (sym goes_so) (new_leaves p now w.sender x))
    go (Waits none why goes_so) = rests (subst (λ (x : SenderState × Option Written). AsksOn w.sender x.0) (sym goes_so) (same_asks w.sender w.sender refl refl refl))
    go (Asks wm none old goes_so) = flushes wm old goes_so

-- the place after the turn's moment
pub due_old : (waiting : Option Line) (lines : List Line) (n : ℕ) → n ≤ 1 → MayBeOld (command_due waiting lines) n
due_old (Some line) lines n le = le
due_old None [] n le = le
due_old None (line ∷ lines) n le = le
