-- Who knows a flush and is not past it needs something, and so does not find that it needs nothing.
use Rattle.std.proofs.Common.{◌≡◌, ℕ, zero, suc, ◌≤◌, List, ◌++◌, length, filter, drop, Bool, true, false, Option, None, Some, refl, sym, ap, ◌∙◌, subst, arith}
use Rattle.std.specs.Prelude.{◌-◌, ◌==◌}
use Rattle.std.proofs.lemmas.Bool.Decides.{Decides-eqb}
use Rattle.norm_base.specs.Settings.{Settings, InRange}
use Rattle.norm_base.specs.declared.kinds.Mode.TheVariants.{Hold}
use Rattle.fec_plan.specs.Points.{Point, point_of, position_before, reached_by}
use Rattle.fec_plan.specs.declared.position.Position.{Position}
use Rattle.fec_plan.proofs.PositionLemmas.{behind}
use Rattle.fec_plan.proofs.PointLemmas.{behind_point}
use Rattle.norm_send_rules.specs.Repairable.{is_stream}
use Rattle.norm_receive_rules.specs.AllNeeds.{needs_of, needs_from, last_known, needs_nothing}
use Rattle.norm_receive_rules.specs.Holding.{Holding}
use Rattle.norm_receive_rules.specs.Lazy.{Lazy, Nil, Next, followed_by}
use Rattle.norm_receive_rules.specs.Leaving.{is_in}
use Rattle.norm_receive_rules.specs.Needs.{Need}
use Rattle.norm_receive_rules.specs.ReceiverState.{ReceiverState}
use Rattle.norm_send_rules.specs.Repairable.{streams}
use Rattle.norm_send_rules.specs.SenderState.{SenderState, Instance, Watermark}
use Rattle.norm_send_rules.specs.Watermarks.{oldest, has_member}
use Rattle.norm_safety.specs.Acknowledges.{EndsPartOf}
use Rattle.norm_safety.specs.Events.{Event}
use Rattle.norm_safety.specs.Tail.{Course, events_of}
use Rattle.norm_safety.specs.World.{World, receiver_at}
use Rattle.norm_safety.specs.WorldStep.{run}
use Rattle.norm_safety.proofs.EntryLemmas.{clash}
use Rattle.norm_recovery.specs.Flush.{KnowsFlush}
use Rattle.norm_recovery.specs.FlushNeeds.{StandsBefore}
use Rattle.norm_recovery.specs.MembersStand.{Stands}
use Rattle.norm_recovery.specs.TailKeeps.{Stays}
use Rattle.norm_recovery.specs.TailLawful.{MayGoOn, GoesOn}
use Rattle.norm_recovery.proofs.FlushLacks.{before_in_run}
use Rattle.norm_recovery.proofs.FlushNeeds.{flush_needs}
use Rattle.norm_recovery.proofs.KeepsSender.{quiet_run_stays}
use Rattle.norm_recovery.proofs.LawfulTail.{goes_on}
use Rattle.norm_recovery.proofs.LeftTurn.{same_members}
use Rattle.norm_recovery.proofs.MarksEnd.{oldest_ends, marks_end}
use Rattle.norm_recovery.proofs.MembersTail.{stands_in_run}
use Rattle.norm_recovery.proofs.TailCourses.{IsCalm}

-- a list of needs is empty
abbrev is_nil : Lazy Need → Bool
is_nil needs = elim needs [ Nil ↦ true | Next need rest ↦ false ]

some_first : (p : Settings) (farthest : Option Point) (flush : Option Position) (s : Holding) (index n : ℕ) → is_nil (needs_of p farthest flush s index) ≡ false
    → is_nil (needs_from (suc n) p farthest flush s index) ≡ false
unfolding needs_from followed_by
some_first p farthest flush s index n e = go (needs_of p farthest flush s index) e
  where
    go : (first : Lazy Need) → is_nil first ≡ false → is_nil (followed_by first (λ u. needs_from n p farthest flush s (suc index))) ≡ false
    go Nil f = absurd (clash (sym f))
    go (Next need rest) f = refl

pub needs_more : (p : Settings) (r : ReceiverState) (at : Position) → StandsBefore p r at → needs_nothing p r ≡ false
needs_more p r at h = go (last_known r.knows.farthest r.knows.flush - r.holding.point.index) refl
  where
    known : (flush : Option Position) → reached_by flush at ≡ true → at.index ≤ (elim flush as (λ _. ℕ) [ Some f ↦ f.index | None ↦ 0 ])
    known None e = absurd (clash e)
    known (Some f) e = let further = behind f at e in omega (arith, further)

    go : (n : ℕ) → last_known r.knows.farthest r.knows.flush - r.holding.point.index ≡ n → needs_nothing p r ≡ false
    go zero e =
        absurd (
        let le = h.before in
        let far = known r.knows.flush h.flush in
        omega (arith, e, le, far)
        )
    go (suc n) e =
        ap (λ (k : ℕ). is_nil (needs_from k p r.knows.farthest r.knows.flush r.holding r.holding.point.index)) e
        ∙ some_first p r.knows.farthest r.knows.flush r.holding r.holding.point.index n (flush_needs p r at h)

-- ---- at a moment of a tail

pub needs_at : (p : Settings) → InRange p → p.mode ≡ Hold → (events : List Event) → MayGoOn p events → streams (run p events).sender ≡ 0 → (node : ℕ)
    → (node == p.sender) ≡ false → has_member node (run p events).sender ≡ true → (w : Watermark) → oldest (run p events).sender ≡ Some w
    → (c : Course) → IsCalm p (run p events) c → (x : ReceiverState) → receiver_at c.world node ≡ Some x
    → KnowsFlush x (run p events).sender.current.id w.at → position_before w.at x.holding.point ≡ false → needs_nothing p x ≡ false
needs_at p range hold events may none node other member w old c calm x found knows early =
    needs_more p x w.at (before_in_run p range ran on.again.lawful on.again.jobs
    (ap (λ (i : Instance). length (filter is_stream (drop i.drop.index i.order))) same ∙ none) node other x there w.at
    (subst (λ (i : Instance). EndsPartOf p i.order w.at) (sym same) ends) (subst (λ (i : Instance). KnowsFlush x i.id w.at) (sym same) knows)
    (let past = behind_point (point_of x.holding.point) (run p ran).sender.current.drop (stands.inside inside).0 in omega (arith, past)) early)
  where
    s : SenderState
    s = (run p events).sender

    ran : List Event
    ran = events ++ events_of c

    on : GoesOn p events c
    on = goes_on p range events may c calm

    stays : Stays (run p events).sender c.world.sender
    stays = subst (λ (v : World). Stays s v.sender) calm.leads (quiet_run_stays p (run p events) (events_of c) calm.quiet)

    same : (run p (events ++ events_of c)).sender.current ≡ (run p events).sender.current
    same = ap (λ (v : World). v.sender.current) on.leads ∙ stays.current

    there : receiver_at (run p (events ++ events_of c)) node ≡ Some x
    there = ap (λ (v : World). receiver_at v node) on.leads ∙ found

    ends : EndsPartOf p (run p events).sender.current.order w.at
    ends = oldest_ends p s w (marks_end p range events may.lawful may.jobs) old

    inside : is_in x (run p (events ++ events_of c)).sender.current.id ≡ true
    inside = ap (λ (o : Option ℕ). elim o as (λ _. Bool) [ Some current ↦ current == (run p ran).sender.current.id | None ↦ false ])
        (knows.inside ∙ ap (λ (i : Instance). Some i.id) (sym same)) ∙ (Decides-eqb (run p ran).sender.current.id (run p ran).sender.current.id).1 refl

    stands : Stands (run p (events ++ events_of c)).sender x
    stands = stands_in_run p range hold ran on.again.lawful on.again.jobs node x there
        (ap (λ (v : World). has_member node v.sender) on.leads ∙ same_members s c.world.sender node stays.members ∙ member)
