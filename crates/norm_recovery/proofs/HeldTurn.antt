-- Once all is spent, a member holds at a turn's end what it held before, but for the hand-ups that were taken.
use Rattle.std.proofs.Common.{◌≡◌, ℕ, List, [], ◌∷◌, ◌++◌, length, flat_map, Bool, true, false, Option, None, Some, refl, sym, ap, ◌∙◌, subst, append_assoc, arith, inl, inr}
use Rattle.std.specs.Prelude.{Contains, ◌==◌, ◌&&◌, nat_lt, nat_le}
use Rattle.std.proofs.lemmas.Bool.Decides.{Decides-eqb}
use Rattle.std.proofs.lemmas.List.{map-append}
use Rattle.norm_base.specs.Settings.{Settings, InRange}
use Rattle.norm_base.specs.declared.kinds.Mode.TheVariants.{Hold}
use Rattle.fec_plan.specs.Points.{point, same_point, position}
use Rattle.fec_plan.specs.declared.position.Position.{Position}
use Rattle.norm_ext.specs.Message.{Message, Info, Data, Flush, Eot, Squelch, RepairAdv, AckReq, Opaque, Nack, Ack, Report}
use Rattle.norm_ext.specs.Written.{Written, writes}
use Rattle.norm_order.specs.declared.up.Up.{Up}
use Rattle.norm_receive_rules.specs.AllNeeds.{needs, needs_nothing}
use Rattle.norm_receive_rules.specs.Holding.{Holding, holding_nothing}
use Rattle.norm_receive_rules.specs.Leaving.{is_in}
use Rattle.norm_receive_rules.specs.Nack.{indices_of, fitting, nack_message, ack_message}
use Rattle.norm_receive_rules.specs.Needs.{Need}
use Rattle.norm_receive_rules.specs.ReceiverState.{ReceiverState}
use Rattle.norm_receive_rules.specs.ReceiverStep as receiver
use Rattle.norm_receive_rules.specs.Receiving.{received}
use Rattle.norm_receive_rules.specs.Taking.{up_taken, took}
use Rattle.norm_receive_rules.specs.Ticking.{sends as receiver_sends, holds_off, are_heard, asks, asks_where_needed, ends_back_off, ticked as receiver_ticked}
use Rattle.norm_send_rules.specs.Closing.{round_closed}
use Rattle.norm_send_rules.specs.Flushing.{most_flushes, expired, flushes_for, flushes_oldest, flushes_no_more, flushed, flushes_in_turn, may_flush, flushes}
use Rattle.norm_send_rules.specs.InWindow.{stands_behind}
use Rattle.norm_send_rules.specs.Laws.{WantsHold, AreInWindow}
use Rattle.norm_send_rules.specs.Messages.{squelch_message}
use Rattle.norm_send_rules.specs.Repairable.{streams}
use Rattle.norm_send_rules.specs.SenderState.{SenderState, Instance, Round, Watermark}
use Rattle.norm_send_rules.specs.Sending.{behind, next_new, sends, sends_new, repairs_next, object_of, repair_flags}
use Rattle.norm_send_rules.specs.Ticking.{closed_where_due, sends_further, sends_wanted, sends_first, sends_in_time, ticked}
use Rattle.norm_send_rules.specs.Watermarks.{oldest, has_member}
use Rattle.norm_send_rules.specs.declared.want.Want.{Want}
use Rattle.norm_send_rules.specs.declared.want.Want.TheVariants as want
use Rattle.norm_send_rules.proofs.ShapeLemmas.{blocks_of}
use Rattle.norm_send_rules.proofs.StepLemmas.{due_holds}
use Rattle.norm_safety.specs.Events.{Event, Delivered}
use Rattle.norm_safety.specs.Said.{first_index}
use Rattle.norm_safety.specs.Tail.{course_from, events_of, comes, tail_turn}
use Rattle.norm_safety.specs.World.{World, receiver_at}
use Rattle.norm_safety.specs.WorldStep.{run}
use Rattle.norm_safety.proofs.EntryLemmas.{clash}
use Rattle.norm_safety.proofs.ReceiverMoves.{in_instance_is}
use Rattle.norm_safety.proofs.WantRunLemmas.{wants_hold_in_runs}
use Rattle.norm_safety.proofs.WorldLemmas.{world_laws}
use Rattle.norm_recovery.specs.Asking.{all_have, have_wanted}
use Rattle.norm_recovery.specs.HadBringsNothing.{says_nothing_more}
use Rattle.norm_recovery.specs.Left.{held_for, is_had}
use Rattle.norm_recovery.specs.LeftHeard.{brings}
use Rattle.norm_recovery.specs.MembersEnter.{IsOwn}
use Rattle.norm_recovery.specs.RunsOut.{all_new}
use Rattle.norm_recovery.specs.TailKeeps.{Stays}
use Rattle.norm_recovery.specs.TailLawful.{MayGoOn, GoesOn}
use Rattle.norm_recovery.proofs.CleanSteps.{member_has}
use Rattle.norm_recovery.proofs.ClosingLists.{In, of_all}
use Rattle.norm_recovery.proofs.HadNothing.{had_brings_nothing}
use Rattle.norm_recovery.proofs.KeepsSender.{quiet_run_stays}
use Rattle.norm_recovery.proofs.LawfulTail.{goes_on}
use Rattle.norm_recovery.proofs.LeftComes.{inside_is}
use Rattle.norm_recovery.proofs.LeftNever.{closed_stays}
use Rattle.norm_recovery.proofs.LeftTick.{brings_it}
use Rattle.norm_recovery.proofs.LeftTurn.{same_members}
use Rattle.norm_recovery.proofs.MembersEnter.{members_enter}
use Rattle.norm_recovery.proofs.NodeTurn.{Plain, Hears, node_turn_in}
use Rattle.norm_recovery.proofs.PassTurn.{stays_in}
use Rattle.norm_recovery.proofs.RunsOutNew.{fewer_new}
use Rattle.norm_recovery.proofs.TailCourses.{IsCalm, comes_calm}

no_some : {X : Type 0} (x : X) → None ≡ Some x → ⊥
no_some x e = cc

some_is : {X : Type 0} (x y : X) → Some x ≡ Some y → x ≡ y
some_is x y e = cc

-- ---- what a tick gives once all is spent

-- what is held, without the hand-ups that wait
abbrev pub bare : Holding → Holding
bare h = record h { ups = [] }

-- an info or a symbol of the window is had
abbrev HadOf : Settings → SenderState → Holding → Want → Bool
HadOf p s h y = stands_behind s.current.drop y && is_had [] p s h y

-- a message says nothing more to whoever holds this
abbrev quiet : Settings → SenderState → Holding → ℕ → Message → Bool
quiet p s h index (Info m) = HadOf p s h (want.Info index)
quiet p s h index (Data m) = HadOf p s h (want.Symbol (position index m.id.block m.id.symbol))
quiet p s h index (Flush m) = true
quiet p s h index (Squelch m) = same_point (point index m.id.block) s.current.drop
quiet p s h index _ = false

quiet_is : (p : Settings) (s : SenderState) (r : ReceiverState) (index : ℕ) (m : Message) → quiet p s (bare (held_for s r)) index m ≡ true
    → says_nothing_more p s r index m ≡ true
quiet_is p s r index (Info m) e = e
quiet_is p s r index (Data m) e = e
quiet_is p s r index (Flush m) e = refl
quiet_is p s r index (Squelch m) e = e
quiet_is p s r index (RepairAdv m) e = absurd (clash e)
quiet_is p s r index (Nack m) e = absurd (clash e)
quiet_is p s r index (Eot m) e = absurd (clash e)
quiet_is p s r index (AckReq m) e = absurd (clash e)
quiet_is p s r index (Opaque m) e = absurd (clash e)
quiet_is p s r index (Ack m) e = absurd (clash e)
quiet_is p s r index (Report m) e = absurd (clash e)

quiet_want : (p : Settings) (s : SenderState) (h : Holding) (index : ℕ) (m : Message) (y : Want) → brings index m ≡ Some y → HadOf p s h y ≡ true
    → quiet p s h index m ≡ true
quiet_want p s h index (Info m) y is e = ap (HadOf p s h) (some_is (want.Info index) y is) ∙ e
quiet_want p s h index (Data m) y is e = ap (HadOf p s h) (some_is (want.Symbol (position index m.id.block m.id.symbol)) y is) ∙ e
quiet_want p s h index (Flush m) y is e = refl
quiet_want p s h index (Squelch m) y is e = absurd (no_some y is)
quiet_want p s h index (RepairAdv m) y is e = absurd (no_some y is)
quiet_want p s h index (Nack m) y is e = absurd (no_some y is)
quiet_want p s h index (Eot m) y is e = absurd (no_some y is)
quiet_want p s h index (AckReq m) y is e = absurd (no_some y is)
quiet_want p s h index (Opaque m) y is e = absurd (no_some y is)
quiet_want p s h index (Ack m) y is e = absurd (no_some y is)
quiet_want p s h index (Report m) y is e = absurd (no_some y is)

module _ (p : Settings) (now : ℕ) (c : SenderState) (h : Holding) (had : (y : Want) → In y c.wants → HadOf p c h y ≡ true) (none : length (all_new p c) ≡ 0) where
  -- a datagram that goes says nothing more
  abbrev QuietStep : SenderState × Option Written → Type 0
  QuietStep step = (d : Written) → step.1 ≡ Some d → quiet p c h (first_index d.indices) d.message ≡ true

  gives : (d : Written) → quiet p c h (first_index d.indices) d.message ≡ true → (x : Written) → Some d ≡ Some x → quiet p c h (first_index x.indices) x.message ≡ true
  gives d e x is = subst (λ (o : Written). quiet p c h (first_index o.indices) o.message ≡ true) (some_is d x is) e

  flush_quiet : QuietStep (flushes p now c)
  flush_quiet = go (may_flush p c now)
    where
      oldest_quiet : (t : SenderState) → QuietStep (flushes_oldest p now t)
      oldest_quiet t = by (oldest t)
        where
          by : (found : Option Watermark) → QuietStep (elim found as (λ _. SenderState × Option Written) [ Some w ↦ flushes_for p now w t | None ↦ (t, None) ])
          by (Some w) x is = gives _ refl x is
          by None x is = absurd (no_some x is)

      no_more : (w : Watermark) (round : Option Round)
          → QuietStep (elim round as (λ _. SenderState × Option Written) [ Some r ↦ (c, None) | None ↦ flushes_oldest p now (expired w.mark c) ])
      no_more w (Some r) x is = absurd (no_some x is)
      no_more w None x is = oldest_quiet (expired w.mark c) x is

      counts : (w : Watermark) (b : Bool) → QuietStep (elim b as (λ _. SenderState × Option Written) [ true ↦ flushes_for p now w c | false ↦ flushes_no_more p now w c ])
      counts w true x is = gives _ refl x is
      counts w false x is = no_more w c.round x is

      turn : (found : Option Watermark) → QuietStep (elim found as (λ _. SenderState × Option Written) [ Some w ↦ flushed p now w c | None ↦ (c, None) ])
      turn (Some w) x is = counts w (nat_lt c.flushes most_flushes) x is
      turn None x is = absurd (no_some x is)

      go : (b : Bool) → QuietStep (elim b as (λ _. SenderState × Option Written) [ true ↦ flushes_in_turn p now c | false ↦ (c, None) ])
      go true x is = turn (oldest c) x is
      go false x is = absurd (no_some x is)

  further_quiet : (found : Option Want) → next_new p c ≡ found → QuietStep (elim found as (λ _. SenderState × Option Written) [ Some y ↦ sends_new p now y c | None ↦ flushes p now c ])
  further_quiet (Some y) e x is = absurd (let less = fewer_new p c (record c { next = behind y }) y e refl refl in omega (arith, less, none))
  further_quiet None e x is = flush_quiet x is

  wanted_quiet : (wants : List Want) → c.wants ≡ wants
      → QuietStep (elim wants as (λ _. SenderState × Option Written) [ [] ↦ sends_further p now c | y ∷ more ↦ repairs_next p now y more c ])
  wanted_quiet [] e x is = further_quiet (next_new p c) refl x is
  wanted_quiet (y ∷ more) e x is =
      gives _ (quiet_want p c h _ _ y
      (brings_it p (record c { wants = more }) y (object_of (record c { wants = more }) y) (repair_flags p (object_of (record c { wants = more }) y) y))
      (had y (subst (λ (ws : List Want). In y ws) (sym e) (inl refl)))) x is

  itself : same_point c.current.drop c.current.drop ≡ true
  itself = both (c.current.drop.index == c.current.drop.index) (c.current.drop.block == c.current.drop.block) ((Decides-eqb c.current.drop.index c.current.drop.index).1 refl)
      ((Decides-eqb c.current.drop.block c.current.drop.block).1 refl)
    where
      both : (a b : Bool) → a ≡ true → b ≡ true → (a && b) ≡ true
      both true b e f = f
      both false b e f = absurd (clash e)

  pub step_quiet : QuietStep (sends_in_time p now c)
  step_quiet = go (nat_lt now c.next_send)
    where
      first : (b : Bool) → QuietStep (elim b as (λ _. SenderState × Option Written) [
        | true ↦ sends p now (writes (squelch_message p c c.current.drop) (c.current.drop.index ∷ [])) (record c { squelch_due = false })
        | false ↦ sends_wanted p now c
      ])
      first true x is = gives (writes (squelch_message p c c.current.drop) (c.current.drop.index ∷ [])) itself x is
      first false x is = wanted_quiet c.wants refl x is

      go : (b : Bool) → QuietStep (elim b as (λ _. SenderState × Option Written) [ true ↦ (c, None) | false ↦ sends_first p now c ])
      go true x is = absurd (no_some x is)
      go false x is = first c.squelch_due x is

-- ---- a receiver's own steps

-- its tick leaves what it holds, and its instance
pub record HoldsOn (r t : ReceiverState) : Type 0 where
  pub holding : t.holding ≡ r.holding
  pub instance : t.instance ≡ r.instance

pub tick_holds : (p : Settings) (r : ReceiverState) (now : ℕ) → HoldsOn r (receiver_ticked p r now).0
tick_holds p r now = due r.knows.due
  where
    t : ReceiverState
    t = record r { knows = record (r.knows) { backoff = None } }

    state_of : ReceiverState × Option Written → ReceiverState
    state_of step = step.0

    here : HoldsOn r r
    here = record { holding = refl; instance = refl }

    asked : (wanted : List Need) (all : Bool) → HoldsOn r (state_of (elim all [
      | true ↦ (record t { knows = holds_off p now t.knows }, None)
      | false ↦ receiver_sends (writes (nack_message p t wanted) (flat_map indices_of wanted)) (record t { knows = holds_off p now t.knows })
    ]))
    asked wanted true = record { holding = refl; instance = refl }
    asked wanted false = record { holding = refl; instance = refl }

    needed : (none : Bool) → HoldsOn r (state_of (elim none [ true ↦ (t, None) | false ↦ asks p now (fitting p (needs p t) None p.e) t ]))
    needed true = record { holding = refl; instance = refl }
    needed false = asked (fitting p (needs p t) None p.e) (are_heard t (fitting p (needs p t) None p.e))

    ended : (reached : Bool) → HoldsOn r (state_of (elim reached [ true ↦ asks_where_needed p now t | false ↦ (r, None) ]))
    ended true = needed (needs_nothing p t)
    ended false = here

    backed : (backoff : Option ℕ) → HoldsOn r (state_of (elim backoff [ Some ends ↦ elim (nat_le ends now) [ true ↦ asks_where_needed p now t | false ↦ (r, None) ] | None ↦ (r, None) ]))
    backed None = here
    backed (Some ends) = ended (nat_le ends now)

    due : (at : Option Position) → HoldsOn r (state_of (elim at [
      | Some at ↦ receiver_sends (writes (ack_message p r at) (at.index ∷ [])) (record r { knows = record (r.knows) { due = None } })
      | None ↦ ends_back_off p now r
    ]))
    due None = backed r.knows.backoff
    due (Some at) = record { holding = refl; instance = refl }

-- what is held of an instance, by where a receiver is and what it holds
abbrev in_it : ℕ → Option ℕ → Holding → Holding
in_it id o h = elim (elim o as (λ _. Bool) [ Some current ↦ current == id | None ↦ false ]) [ true ↦ h | false ↦ holding_nothing ]

taken_bare : (s : SenderState) (r : ReceiverState) → bare (held_for s (took r).0) ≡ bare (held_for s r)
taken_bare s r = go (is_in r s.current.id)
  where
    by : (ups : List Up) → bare (elim ups as (λ _. Holding × Option Up) [ up ∷ more ↦ (record (r.holding) { ups = more }, Some up) | [] ↦ (r.holding, None) ]).0 ≡ bare r.holding
    by [] = refl
    by (up ∷ more) = refl

    go : (b : Bool) → bare (elim b as (λ _. Holding) [ true ↦ (up_taken r.holding).0 | false ↦ holding_nothing ]) ≡ bare (elim b as (λ _. Holding) [ true ↦ r.holding | false ↦ holding_nothing ])
    go true = by r.holding.ups
    go false = refl

-- ---- the turn

module _ (p : Settings) (range : InRange p) (hold : p.mode ≡ Hold) (events : List Event) (may : MayGoOn p events) (none : streams (run p events).sender ≡ 0)
    (draws : ℕ → ℕ) (now : ℕ) (have : have_wanted p (record (run p events) { sender = closed_where_due p now (run p events).sender }) ≡ true)
    (no_new : length (all_new p (run p events).sender) ≡ 0) (node : ℕ) (other : (node == p.sender) ≡ false) (r0 : ReceiverState)
    (found0 : receiver_at (run p events) node ≡ Some r0) (member : has_member node (run p events).sender ≡ true) where
  abbrev s : SenderState
  s = (run p events).sender

  abbrev closed : SenderState
  closed = closed_where_due p now (run p events).sender

  -- it holds what it held, and is in the instance if it was
  pub record SameHeld (t : ReceiverState) : Type 0 where
    pub held : bare (held_for (run p events).sender t) ≡ bare (held_for (run p events).sender r0)
    pub inside : is_in r0 (run p events).sender.current.id ≡ true → is_in t (run p events).sender.current.id ≡ true

  same_plain : Plain SameHeld
  same_plain = record {
    heard = λ r heard h. record { held = h.held; inside = h.inside };
  }

  ticks_same : (r : ReceiverState) → SameHeld r → SameHeld (receiver_ticked p r now).0
  ticks_same r h =
      let on = tick_holds p r now in
      record {
        held = ap (λ (o : Option ℕ). bare (in_it s.current.id o (receiver_ticked p r now).0.holding)) on.instance
            ∙ ap (λ (x : Holding). bare (in_it s.current.id r.instance x)) on.holding ∙ h.held;
        inside = λ e. ap (λ (o : Option ℕ). elim o as (λ _. Bool) [ Some current ↦ current == s.current.id | None ↦ false ]) on.instance ∙ h.inside e;
      }

  closed_new : length (all_new p (closed_where_due p now (run p events).sender)) ≡ 0
  closed_new = go s.round
    where
      by : (x : Round) (b : Bool) → length (all_new p (elim b as (λ _. SenderState) [ true ↦ round_closed p x s | false ↦ s ])) ≡ 0
      by x true = no_new
      by x false = no_new

      go : (found : Option Round) → length (all_new p (elim found as (λ _. SenderState) [
        | Some x ↦ elim (nat_le x.closes now) [ true ↦ round_closed p x s | false ↦ s ]
        | None ↦ s
      ])) ≡ 0
      go None = no_new
      go (Some x) = by x (nat_le x.closes now)

  wants_hold : WantsHold p (closed_where_due p now (run p events).sender)
  wants_hold = due_holds p (blocks_of p range) now s (wants_hold_in_runs p events range)

  -- what the tick gives says nothing more
  quiet_tick : (d : Written) → (ticked p (run p events).sender now).1 ≡ Some d
      → quiet p (run p events).sender (bare (held_for (run p events).sender r0)) (first_index d.indices) d.message ≡ true
  quiet_tick d gives =
      subst (λ (i : Instance). quiet p (record closed { current = i }) (bare (held_for s r0)) (first_index d.indices) d.message ≡ true) same
      (step_quiet p now closed (bare (held_for s r0)) had closed_new d gives)
    where
      same : closed.current ≡ s.current
      same = (closed_stays p now s).current

      both : (a b : Bool) → a ≡ true → b ≡ true → (a && b) ≡ true
      both true b e f = f
      both false b e f = absurd (clash e)

      in_all : (ws : List Want) → AreInWindow closed ws → (y : Want) → In y ws → stands_behind closed.current.drop y ≡ true
      in_all [] all y there = absurd there
      in_all (w ∷ ws) all y (inl is) = subst (λ (x : Want). stands_behind closed.current.drop x ≡ true) (sym is) all.0
      in_all (w ∷ ws) all y (inr more) = in_all ws all.1 y more

      had : (y : Want) → In y closed.wants → HadOf p closed (bare (held_for s r0)) y ≡ true
      had y there =
          both (stands_behind closed.current.drop y) (is_had [] p closed (bare (held_for s r0)) y) (in_all closed.wants wants_hold.in_window y there)
          (subst (λ (i : Instance). is_had [] p closed (held_for (record s { current = i }) r0) y ≡ true) same
          (member_has p (record (run p events) { sender = closed }) y (of_all (all_have p (record (run p events) { sender = closed })) y closed.wants have there) node r0 found0
          (same_members s closed node (closed_stays p now s).members ∙ member)))

  hears_same : (d : Written) → (ticked p (run p events).sender now).1 ≡ Some d → Hears p range events may node other draws now SameHeld same_plain d
  hears_same d gives c calm offered draw may_come r found h = record { held = held; inside = inside }
    where
      e : Event
      e = Delivered node d.octets now draw

      on : GoesOn p events c
      on = goes_on p range events may c calm

      ran : List Event
      ran = events ++ events_of c

      next : IsCalm p (run p events) (comes p (Delivered node d.octets now draw) c)
      next = comes_calm p (run p events) (Delivered node d.octets now draw) c may_come calm

      may' : MayGoOn p ((events ++ events_of c) ++ Delivered node d.octets now draw ∷ [])
      may' =
          let all : events ++ events_of (comes p e c) ≡ (events ++ events_of c) ++ e ∷ [] =
          ap (λ (more : List Event). events ++ more) (map-append _ c.happened _) ∙ sym (append_assoc events (events_of c) (e ∷ [])) in
          subst (MayGoOn p) all (goes_on p range events may (comes p e c) next).again

      u : SenderState
      u = (run p (events ++ events_of c)).sender

      stays : Stays (run p events).sender (run p (events ++ events_of c)).sender
      stays = subst (λ (v : World). Stays (run p events).sender v.sender) (calm.leads ∙ sym on.leads) (quiet_run_stays p (run p events) (events_of c) calm.quiet)

      own : IsOwn p (run p (events ++ events_of c)).sender.current.id d
      own = subst (λ (i : Instance). IsOwn p i.id d) (sym stays.current) (members_enter.own p range events may.lawful may.jobs now d gives)

      says : quiet p u (bare (held_for u r)) (first_index d.indices) d.message ≡ true
      says =
          subst (λ (i : Instance). quiet p (record u { current = i }) (bare (held_for (record u { current = i }) r)) (first_index d.indices) d.message ≡ true) (sym stays.current)
          (subst (λ (x : Holding). quiet p s x (first_index d.indices) d.message ≡ true) (sym h.held) (quiet_tick d gives))

      same : held_for u (received p r d.octets now draw) ≡ held_for u r
      same =
          had_brings_nothing p range hold (events ++ events_of c) node now draw p.sender d may'
          (ap (λ (i : Instance). streams (record u { current = i })) stays.current ∙ none) other r
          (ap (λ (v : World). receiver_at v node) on.leads ∙ found) (same_members s u node stays.members ∙ member)
          (subst (λ (v : World). Contains v.offered (p.sender, d)) (sym on.leads) offered) own (quiet_is p u r (first_index d.indices) d.message says)

      held : bare (held_for s (received p r d.octets now draw)) ≡ bare (held_for s r0)
      held =
          subst (λ (i : Instance). bare (held_for (record u { current = i }) (received p r d.octets now draw)) ≡ bare (held_for (record u { current = i }) r)) stays.current (ap bare same)
          ∙ h.held

      inside : is_in r0 s.current.id ≡ true → is_in (received p r d.octets now draw) s.current.id ≡ true
      inside within =
          let there = in_instance_is r s.current.id (h.inside within) in
          inside_is (received p r d.octets now draw) s.current.id
          (stays_in p range events may node other (comes p (Delivered node d.octets now draw) c) next r (received p r d.octets now draw) (receiver.Delivered d.octets now draw)
          (world_laws.moves p c.world (Delivered node d.octets now draw) node (receiver.Delivered d.octets now draw) r other refl found) refl there ∙ there)

  pub member_turn : (t : ReceiverState) → receiver_at (tail_turn p draws now (course_from (run p events))).world node ≡ Some t → SameHeld t
  member_turn t there =
      node_turn_in p range events may node other draws now SameHeld SameHeld same_plain (λ r h. record { held = taken_bare s r ∙ h.held; inside = h.inside }) same_plain
      ticks_same r0 found0 (record { held = refl; inside = λ e. e }) hears_same t there
