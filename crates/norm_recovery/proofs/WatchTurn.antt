-- Over a turn nodes stay timely; a round that stays open or is opened closes later, and no sooner than a round trip after the last closing.
use Rattle.std.proofs.Common.{◌≡◌, ℕ, ◌+◌, ◌*◌, ◌<◌, ◌≤◌, List, [], ◌∷◌, Bool, true, false, Option, None, Some, refl, sym, ap, ◌∙◌, subst, arith, ◌⊎◌, inl, inr}
use Rattle.std.specs.Prelude.{◌==◌, ◌||◌, nat_lt, nat_le, Result, Ok}
use Rattle.std.specs.List.{AllByRecursion}
use Rattle.std.proofs.lemmas.Bool.Decides.{Decides-ltb, leb_tells}
use Rattle.norm_base.specs.Settings.{Settings}
use Rattle.fec_plan.specs.declared.position.Position.{Position}
use Rattle.norm_ext.specs.Asking.{item_named}
use Rattle.norm_ext.specs.Message.{Message, Nack, Ack, AckContent, Mark, Unread}
use Rattle.norm_ext.specs.Reading.{decoded}
use Rattle.norm_ext.specs.Requests.{Request}
use Rattle.norm_order.specs.Moments.{moment_after}
use Rattle.norm_send_rules.specs.Closing.{round_closed}
use Rattle.norm_send_rules.specs.Hearing.{nack_counts, ack_counts, credited_by, joined_round, message_heard, heard}
use Rattle.norm_send_rules.specs.InWindow.{last_index}
use Rattle.norm_send_rules.specs.Repairable.{repairable}
use Rattle.norm_send_rules.specs.SenderState.{SenderState, Round}
use Rattle.norm_send_rules.specs.Ticking.{closed_where_due, ticked}
use Rattle.norm_safety.specs.Events.{Event, Commanded, Delivered, Ticked, Offered, UpTaken, NewsAsked}
use Rattle.norm_safety.specs.Recovery.{ComesBy}
use Rattle.norm_safety.specs.Tail.{Course, course_from, comes, sender_ticks, tail_turn}
use Rattle.norm_safety.specs.World.{World}
use Rattle.norm_safety.specs.WorldStep.{world_step, run}
use Rattle.norm_safety.proofs.EntryLemmas.{clash}
use Rattle.norm_safety.proofs.WantRunLemmas.{wants_hold_in_runs}
use Rattle.norm_laws.proofs.CountSender.{sender_after, sender_is}
use Rattle.norm_laws.proofs.LaterTailLemmas.{Quiet, if_own}
use Rattle.norm_recovery.specs.RunsOut.{RunsOut, last_closing}
use Rattle.norm_recovery.specs.Timely.{WorldTimely}
use Rattle.norm_recovery.specs.Watch.{Phase, closes_later, closes_apart, Watch}
use Rattle.norm_recovery.specs.WatchKeeps.{Follows, turn_after, goes_to}
use Rattle.norm_recovery.proofs.AsksOn.{tick_round, credited_round, told_round}
use Rattle.norm_recovery.proofs.RunsOutTail.{own_tick, closed_by, happening, closing_or, closing_more, quiet_closes_none, turn_on}
use Rattle.norm_recovery.proofs.RunsOutTurns.{IsAt, tells_keep, round_keeps}
use Rattle.norm_recovery.proofs.TimelyWorld.{event_timely, runs_are_timely}

-- ---- rounds of a turn

-- when an open round closes
abbrev pub closing_of : Option Round → Option ℕ
closing_of found = elim found [ Some r ↦ Some r.closes | None ↦ None ]

-- A round is as it was, but for what is asked in it; or none was open, and it closes K + 1 round trips after the turn's moment.
pub data RoundGoes (p : Settings) (now : ℕ) (was is : Option Round) : Type 0 where
  Stays : closing_of is ≡ closing_of was → RoundGoes p now was is
  Opens : closing_of was ≡ None → closing_of is ≡ Some (moment_after now ((p.k + 1) * p.grtt)) → RoundGoes p now was is

goes_both : (p : Settings) (now : ℕ) (a b c : Option Round) → RoundGoes p now a b → RoundGoes p now b c → RoundGoes p now a c
goes_both p now a b c (Stays e) (Stays f) = Stays (f ∙ e)
goes_both p now a b c (Stays e) (Opens none f) = Opens (sym e ∙ none) f
goes_both p now a b c (Opens none e) (Stays f) = Opens none (f ∙ e)
goes_both p now a b c (Opens none e) (Opens other f) = Opens none f

joined_goes : (p : Settings) (now : ℕ) (s : SenderState) (requests : List Request) → RoundGoes p now s.round (joined_round p s now requests).round
joined_goes p now s [] = Stays refl
joined_goes p now s (r ∷ requests) = go s.round refl
  where
    one : Option Round → Option ℕ
    one found = Some (elim found as (λ _. Round) [ Some x ↦ x | None ↦ record { closes = moment_after now ((p.k + 1) * p.grtt); asked = [] } ]).closes

    closes : closing_of (joined_round p s now (r ∷ requests)).round ≡ one s.round
    closes = refl

    go : (found : Option Round) → s.round ≡ found → RoundGoes p now s.round (joined_round p s now (r ∷ requests)).round
    go None e = Opens (ap closing_of e) (closes ∙ ap one e)
    go (Some x) e = Stays (closes ∙ ap one e ∙ sym (ap closing_of e))

message_goes : {E : Type 0} (p : Settings) (s : SenderState) (now : ℕ) (read : Result Message E) → RoundGoes p now s.round (message_heard p s now read).round
message_goes p s now (Ok (Nack m)) = go (nack_counts p s m)
  where
    go : (b : Bool) → RoundGoes p now s.round (elim b as (λ _. SenderState) [ true ↦ joined_round p s now m.requests | false ↦ s ]).round
    go true = joined_goes p now s m.requests
    go false = Stays refl
message_goes p s now (Ok (Ack m)) = go (ack_counts p s m) m.content
  where
    by : (at : Option Position) → RoundGoes p now s.round (credited_by p m.source at s).round
    by None = Stays refl
    by (Some at) = Stays (ap closing_of (credited_round p m.source at s))

    go : (b : Bool) (content : AckContent) → RoundGoes p now s.round (elim b as (λ _. SenderState) [
      | true ↦ elim content [ Mark item ↦ credited_by p m.source (item_named p (last_index s) item) s | Unread octets ↦ s ]
      | false ↦ s
    ]).round
    go true (Mark item) = by (item_named p (last_index s) item)
    go true (Unread octets) = Stays refl
    go false content = Stays refl
message_goes p s now _ = Stays refl

event_goes : (p : Settings) (now : ℕ) (w : World) (e : Event) → Quiet p e → IsAt now e → RoundGoes p now w.sender.round (world_step p w e).0.sender.round
event_goes p now w e quiet at = subst (λ (s : SenderState). RoundGoes p now w.sender.round s.round) (sym (sender_is p w e)) (after e quiet at)
  where
    either : (b : Bool) (t : SenderState) → RoundGoes p now w.sender.round t.round
        → RoundGoes p now w.sender.round (elim b as (λ _. SenderState) [ true ↦ t | false ↦ w.sender ]).round
    either true t h = h
    either false t h = Stays refl

    after : (e : Event) → Quiet p e → IsAt now e → RoundGoes p now w.sender.round (sender_after p w.sender e).round
    after (Commanded by job moment) quiet at = absurd quiet
    after (Delivered node datagram moment draw) quiet at =
        either (node == p.sender) (heard p w.sender datagram moment)
        (subst (λ (m : ℕ). RoundGoes p m w.sender.round (heard p w.sender datagram moment).round) at (message_goes p w.sender moment (decoded datagram)))
    after (Ticked node moment) quiet at =
        subst (λ (s : SenderState). RoundGoes p now w.sender.round s.round) (sym (ap (λ (b : Bool). if_own b (ticked p w.sender moment).0 w.sender) quiet)) (Stays refl)
    after (Offered node octets) quiet at = Stays refl
    after (UpTaken node) quiet at = Stays refl
    after NewsAsked quiet at = Stays (ap closing_of (told_round w.sender))

pub by_moment : (now : ℕ) (e : Event) → IsAt now e → ComesBy now e
by_moment now (Commanded by job moment) at = omega (arith, at)
by_moment now (Delivered node datagram moment draw) at = omega (arith, at)
by_moment now (Ticked node moment) at = omega (arith, at)
by_moment now (Offered node octets) at = tt
by_moment now (UpTaken node) at = tt
by_moment now NewsAsked at = tt

-- ---- a closing that is due

lt_of : (a b : ℕ) → nat_le a b ≡ false → nat_lt b a ≡ true
lt_of a b e = go (leb_tells a b)
  where
    go : ((nat_le a b ≡ true) × (a ≤ b)) ⊎ ((nat_le a b ≡ false) × (b < a)) → nat_lt b a ≡ true
    go (inl tells) = absurd (clash (sym e ∙ tells.0))
    go (inr tells) = (Decides-ltb b a).1 tells.1

-- by when it closes
abbrev later_by : ℕ → Option ℕ → Bool
later_by now found = elim found [ Some closes ↦ nat_lt now closes | None ↦ true ]

later_is : (now : ℕ) (s : SenderState) → closes_later now s ≡ later_by now (closing_of s.round)
later_is now s = go s.round
  where
    go : (found : Option Round) → (elim found as (λ _. Bool) [ Some r ↦ nat_lt now r.closes | None ↦ true ]) ≡ later_by now (closing_of found)
    go None = refl
    go (Some r) = refl

-- none is left open that is due
due_later : (p : Settings) (now : ℕ) (s : SenderState) → later_by now (closing_of (closed_where_due p now s).round) ≡ true
due_later p now s = go s.round refl
  where
    by : (r : Round) (b : Bool) → s.round ≡ Some r → nat_le r.closes now ≡ b
        → later_by now (closing_of (elim b as (λ _. SenderState) [ true ↦ round_closed p r s | false ↦ s ]).round) ≡ true
    by r true e is = refl
    by r false e is = ap (λ (found : Option Round). later_by now (closing_of found)) e ∙ lt_of r.closes now is

    go : (found : Option Round) → s.round ≡ found → later_by now (closing_of (elim found as (λ _. SenderState) [
      | Some r ↦ elim (nat_le r.closes now) [ true ↦ round_closed p r s | false ↦ s ]
      | None ↦ s
    ]).round) ≡ true
    go None e = ap (λ (found : Option Round). later_by now (closing_of found)) e
    go (Some r) e = by r (nat_le r.closes now) e refl

-- ---- the turn

module _ (p : Settings) (events : List Event) (last : ℕ) (draws : ℕ → ℕ) (f : Follows p events last) where
  abbrev w : World
  w = run p events

  abbrev now : ℕ
  now = last + p.step

  abbrev tick : SenderState
  tick = (ticked p (run p events).sender (last + p.step)).0

  abbrev turn : Course
  turn = tail_turn p draws (last + p.step) (course_from (run p events))

  -- what holds from the sender's tick on
  pub record Goes (since : ℕ) (c : Course) : Type 0 where
    pub timely : WorldTimely p (last + p.step) c.world
    pub round : RoundGoes p (last + p.step) (ticked p (run p events).sender (last + p.step)).0.round c.world.sender.round
    pub closing : last_closing since c.happened ≡ closing_or (closed_by (last + p.step) (run p events).sender.round (ticked p (run p events).sender (last + p.step)).0.round) since

  each : (since : ℕ) (e : Event) → Quiet p e → IsAt (last + p.step) e → (c : Course) → Goes since c → Goes since (comes p e c)
  each since e quiet at c h = record {
    timely = event_timely p now c.world e (by_moment now e at) h.timely;
    round = goes_both p now tick.round c.world.sender.round (world_step p c.world e).0.sender.round h.round (event_goes p now c.world e quiet at);
    closing = closing_more since c.happened (happening p c.world e)
        ∙ ap (λ (found : Option ℕ). closing_or found (last_closing since c.happened)) (quiet_closes_none p c.world e quiet) ∙ h.closing;
  }

  drawn : (since : ℕ) (c : Course) (n : ℕ) → Goes since c → Goes since (record c { used = n })
  drawn since c n h = record { timely = h.timely; round = h.round; closing = h.closing }

  timely_first : WorldTimely p (last + p.step) (run p events)
  timely_first = runs_are_timely p events now (all events f.before)
    where
      one : (e : Event) → ComesBy last e → ComesBy (last + p.step) e
      one (Commanded by job moment) le = omega (arith, le)
      one (Delivered node datagram moment draw) le = omega (arith, le)
      one (Ticked node moment) le = omega (arith, le)
      one (Offered node octets) le = tt
      one (UpTaken node) le = tt
      one NewsAsked le = tt

      all : (es : List Event) → AllByRecursion (ComesBy last) es → AllByRecursion (ComesBy (last + p.step)) es
      all [] h = tt
      all (e ∷ es) h = (one e h.0, all es h.1)

  ticks : (since : ℕ) → Goes since (comes p (Ticked p.sender (last + p.step)) (course_from (run p events)))
  ticks since = record {
    timely = event_timely p now (run p events) (Ticked p.sender (last + p.step)) (omega arith) timely_first;
    round = Stays (ap (λ (s : SenderState). closing_of s.round) (own_tick p (run p events) now));
    closing = ap (λ (s : SenderState). closing_or (closed_by now (run p events).sender.round s.round) since) (own_tick p (run p events) now);
  }

  pub goes : (since : ℕ) → Goes since (tail_turn p draws (last + p.step) (course_from (run p events)))
  goes since =
      round_keeps p draws now (Goes since) (each since) (drawn since) (sender_ticks p now (course_from (run p events)))
      (tells_keep p draws now (Goes since) (each since) (drawn since) (comes p (Ticked p.sender now) (course_from (run p events))) (ticks since))

  -- when a round closes that is opened in it
  opened : (last + p.step) + p.grtt ≤ moment_after (last + p.step) ((p.k + 1) * p.grtt)
  opened =
      let fits = f.fits in
      let more : (p.k + 1) * p.grtt ≡ p.k * p.grtt + p.grtt = grind arith in
      omega (arith, fits, more)

  pub later : closes_later (last + p.step) (tail_turn p draws (last + p.step) (course_from (run p events))).world.sender ≡ true
  later = later_is now turn.world.sender ∙ by (goes 0).round
    where
      at_tick : later_by now (closing_of tick.round) ≡ true
      at_tick = ap (λ (found : Option Round). later_by now (closing_of found)) (tick_round p (run p events).sender now) ∙ due_later p now (run p events).sender

      by : RoundGoes p now tick.round turn.world.sender.round → later_by now (closing_of turn.world.sender.round) ≡ true
      by (Stays e) = ap (later_by now) e ∙ at_tick
      by (Opens none e) = ap (later_by now) e
          ∙ (Decides-ltb now (moment_after now ((p.k + 1) * p.grtt))).1 (let least = opened in let some = f.profile.grtt.0 in omega (arith, least, some))

  -- the last closing is the one before, or the tick closed the round
  closing_is : (since : ℕ) → (last_closing since (tail_turn p draws (last + p.step) (course_from (run p events))).happened ≡ since)
      ⊎ (last_closing since (tail_turn p draws (last + p.step) (course_from (run p events))).happened ≡ last + p.step)
  closing_is since = go (run p events).sender.round tick.round (goes since).closing
    where
      go : (before after : Option Round) → last_closing since turn.happened ≡ closing_or (closed_by (last + p.step) before after) since
          → (last_closing since (tail_turn p draws (last + p.step) (course_from (run p events))).happened ≡ since)
          ⊎ (last_closing since (tail_turn p draws (last + p.step) (course_from (run p events))).happened ≡ last + p.step)
      go None after e = inl e
      go (Some b) (Some a) e = inl e
      go (Some b) None e = inr e

  module _ (ph : Phase) (lies : (ph.began ≤ ph.since) × (ph.since ≤ last)) (was_apart : closes_apart p ph (run p events).sender ≡ true) where
    pub within_from : (ph.began ≤ (goes_to ph (turn_after p draws events last)).since) × ((goes_to ph (turn_after p draws events last)).since ≤ last + p.step)
    within_from = go (closing_is ph.since)
      where
        go : (last_closing ph.since turn.happened ≡ ph.since) ⊎ (last_closing ph.since turn.happened ≡ last + p.step)
            → (ph.began ≤ last_closing ph.since turn.happened) × (last_closing ph.since turn.happened ≤ last + p.step)
        go (inl e) = let a = lies.0 in let b = lies.1 in (omega (arith, e, a), omega (arith, e, b))
        go (inr e) = let a = lies.0 in let b = lies.1 in (omega (arith, e, a, b), omega (arith, e))

    -- a round that closes at a moment does so a round trip after the last closing
    abbrev apart_by : ℕ → Option ℕ → Bool
    apart_by since found = since == ph.began || elim found [ Some closes ↦ nat_le (since + p.grtt) closes | None ↦ true ]

    apart_is : (since : ℕ) (found : Option Round)
        → (since == ph.began || elim found as (λ _. Bool) [ Some r ↦ nat_le (since + p.grtt) r.closes | None ↦ true ]) ≡ apart_by since (closing_of found)
    apart_is since None = refl
    apart_is since (Some r) = refl

    or_so : (a b : Bool) → b ≡ true → (a || b) ≡ true
    or_so true b e = refl
    or_so false b e = e

    le_so : (a b : ℕ) → a ≤ b → nat_le a b ≡ true
    le_so a b le = go (leb_tells a b)
      where
        go : ((nat_le a b ≡ true) × (a ≤ b)) ⊎ ((nat_le a b ≡ false) × (b < a)) → nat_le a b ≡ true
        go (inl tells) = tells.0
        go (inr tells) = absurd (let lt = tells.1 in omega (arith, lt, le))

    -- the round is closed, or as it was
    due_round : (s : SenderState) → ((closed_where_due p (last + p.step) s).round ≡ None) ⊎ ((closed_where_due p (last + p.step) s).round ≡ s.round)
    due_round s = go s.round
      where
        by : (r : Round) (b : Bool) → ((elim b as (λ _. SenderState) [ true ↦ round_closed p r s | false ↦ s ]).round ≡ None)
            ⊎ ((elim b as (λ _. SenderState) [ true ↦ round_closed p r s | false ↦ s ]).round ≡ s.round)
        by r true = inl refl
        by r false = inr refl

        go : (found : Option Round) → ((elim found as (λ _. SenderState) [ Some r ↦ elim (nat_le r.closes (last + p.step)) [ true ↦ round_closed p r s | false ↦ s ] | None ↦ s ]).round ≡ None)
            ⊎ ((elim found as (λ _. SenderState) [ Some r ↦ elim (nat_le r.closes (last + p.step)) [ true ↦ round_closed p r s | false ↦ s ] | None ↦ s ]).round ≡ s.round)
        go None = inr refl
        go (Some r) = by r (nat_le r.closes (last + p.step))

    pub apart_from : closes_apart p (goes_to ph (turn_after p draws events last)) (turn_after p draws events last).world.sender ≡ true
    apart_from = apart_is (last_closing ph.since turn.happened) turn.world.sender.round ∙ go (goes ph.since).round (due_round (run p events).sender)
      where
        same_closing : (found : Option Round) → closing_or (closed_by (last + p.step) found found) ph.since ≡ ph.since
        same_closing None = refl
        same_closing (Some r) = refl

        go : RoundGoes p (last + p.step) tick.round turn.world.sender.round
            → ((closed_where_due p (last + p.step) (run p events).sender).round ≡ None) ⊎ ((closed_where_due p (last + p.step) (run p events).sender).round ≡ (run p events).sender.round)
            → apart_by (last_closing ph.since turn.happened) (closing_of turn.world.sender.round) ≡ true
        go (Opens none e) due =
            ap (apart_by (last_closing ph.since turn.happened)) e
            ∙ or_so (last_closing ph.since turn.happened == ph.began) (nat_le (last_closing ph.since turn.happened + p.grtt) (moment_after (last + p.step) ((p.k + 1) * p.grtt)))
            (le_so (last_closing ph.since turn.happened + p.grtt) (moment_after (last + p.step) ((p.k + 1) * p.grtt))
            (let least = opened in let le = within_from.1 in omega (arith, least, le)))
        go (Stays e) (inl none) =
            ap (apart_by (last_closing ph.since turn.happened)) (e ∙ ap closing_of (tick_round p (run p events).sender (last + p.step) ∙ none))
            ∙ or_so (last_closing ph.since turn.happened == ph.began) true refl
        go (Stays e) (inr same) =
            ap (λ (since : ℕ). apart_by since (closing_of turn.world.sender.round))
            ((goes ph.since).closing
            ∙ ap (λ (after : Option Round). closing_or (closed_by (last + p.step) (run p events).sender.round after) ph.since) (tick_round p (run p events).sender (last + p.step) ∙ same)
            ∙ same_closing (run p events).sender.round)
            ∙ ap (apart_by ph.since) (e ∙ ap closing_of (tick_round p (run p events).sender (last + p.step) ∙ same))
            ∙ sym (apart_is ph.since (run p events).sender.round) ∙ was_apart

  module _ (ph : Phase) (h : Watch p ph last (run p events)) where
    pub within : (ph.began ≤ (goes_to ph (turn_after p draws events last)).since) × ((goes_to ph (turn_after p draws events last)).since ≤ last + p.step)
    within = within_from ph h.within h.apart

    pub runs_out : RunsOut p ((goes_to ph (turn_after p draws events last)).since + p.grtt) (last + p.step) (turn_after p draws events last).world.sender
    runs_out =
        (turn_on p f.profile draws ph.since (repairable p (run p events).sender) last (course_from (run p events)) f.twice (let fits = f.fits in omega (arith, fits))
        (record { runs = inr h.runs_out; soon = h.timely.sender.send; hold = wants_hold_in_runs p events f.profile; window = refl })).runs

    pub apart : closes_apart p (goes_to ph (turn_after p draws events last)) (turn_after p draws events last).world.sender ≡ true
    apart = apart_from ph h.within h.apart
