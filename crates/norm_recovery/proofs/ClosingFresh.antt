-- After a lawful run no receiver of the sender's instance holds a symbol that was never sent there.
use Rattle.std.proofs.Common.{◌≡◌, List, [], ◌∷◌, ◌++◌, Bool, true, false, refl, sym, ap, ◌∙◌}
use Rattle.std.specs.Prelude.{◌==◌, ◌&&◌, ◌||◌, not}
use Rattle.std.specs.List.{AllByRecursion, list_any}
use Rattle.norm_base.specs.Settings.{Settings, InRange}
use Rattle.norm_base.specs.declared.node.Origin.{Origin}
use Rattle.fec_plan.specs.Points.{position_before, same_position}
use Rattle.fec_plan.specs.declared.position.Position.{Position}
use Rattle.norm_order.specs.Sets.{is_member}
use Rattle.norm_receive_rules.specs.Holding.{Holding, Held, holding_nothing}
use Rattle.norm_receive_rules.specs.Leaving.{is_in}
use Rattle.norm_receive_rules.specs.Plans.{holds}
use Rattle.norm_receive_rules.specs.ReceiverState.{ReceiverState}
use Rattle.norm_send_rules.specs.SenderState.{SenderState}
use Rattle.norm_safety.specs.Events.{Event, NewsAsked}
use Rattle.norm_safety.specs.History.{Happening, happens}
use Rattle.norm_safety.specs.Jobs.{IsEvent, AreEvents}
use Rattle.norm_safety.specs.Lawful.{accepted_with, LawfulFrom, Lawful}
use Rattle.norm_safety.specs.RepairSuffices.{holds as is_held_by}
use Rattle.norm_safety.specs.World.{World, world_opening}
use Rattle.norm_safety.specs.WorldLaws.{nodes_of}
use Rattle.norm_safety.specs.WorldStep.{world_step, run_from, run}
use Rattle.norm_safety.proofs.EntryLemmas.{clash}
use Rattle.norm_safety.proofs.FreshRun.{Sent, Differ, fresh_at, claims_of}
use Rattle.norm_safety.proofs.OrderRun.{happening}
use Rattle.norm_safety.proofs.WorldHolds.{all_end}
use Rattle.norm_recovery.specs.Left.{held_for}
use Rattle.norm_recovery.proofs.ClosingLists.{In, of_any, no_any, of_kept}

-- ---- a lawful run may go on by asking for news

lawful_on : (p : Settings) (w : World) (accepted : List Origin) (events : List Event) → LawfulFrom p w accepted events
    → LawfulFrom p w accepted (events ++ NewsAsked ∷ [])
lawful_on p w accepted [] lawful = (tt, tt)
lawful_on p w accepted (e ∷ events) lawful =
    (lawful.0, lawful_on p (world_step p w e).0 (accepted_with accepted e (world_step p w e).1) events lawful.1)

last_claim : (Claim : Happening → Type 0) (p : Settings) (w : World) (events : List Event) (e : Event) → AllByRecursion Claim (happens p w (events ++ e ∷ []))
    → Claim (happening (run_from p w events) e (world_step p (run_from p w events) e))
unfolding happens
last_claim Claim p w [] e all = all.0
last_claim Claim p w (x ∷ events) e all = last_claim Claim p (world_step p w x).0 events e all.1

-- what is said or held of the sender's instance was sent there
abbrev SentBefore : Happening → Type 0
SentBefore x = Sent x.before × Differ (nodes_of x.before)

sent_in_run : (p : Settings) → InRange p → (events : List Event) → Lawful p events → AreEvents events → Sent (run p events) × Differ (nodes_of (run p events))
sent_in_run p range events lawful are =
    last_claim SentBefore p (world_opening p) events NewsAsked
    (claims_of p range SentBefore (λ w e answer v differ sent. (sent, differ)) (events ++ NewsAsked ∷ [])
    (lawful_on p (world_opening p) [] events lawful) (all_end IsEvent events NewsAsked are tt))

-- ---- nobody holds it

same_at : (h : Held) (at : Position) → (h.at.index == at.index && h.at.block == at.block) ≡ true → (h.at.symbol == at.symbol) ≡ true → same_position h.at at ≡ true
same_at h at e f = ap (λ (b : Bool). b && (h.at.symbol == at.symbol)) e ∙ f

-- a receiver that has none of a position's symbols among those that it holds does not hold it
not_held : (h : Holding) (at : Position) → list_any (λ (x : Held). same_position x.at at) h.held ≡ false → holds h at ≡ false
not_held h at none = go (holds h at) refl
  where
    go : (b : Bool) → holds h at ≡ b → b ≡ false
    go false e = refl
    go true e =
        let found = of_any (λ (x : Held). x.at.symbol == at.symbol) _ e in
        let kept = of_kept (λ (x : Held). x.at.index == at.index && x.at.block == at.block) found.0 h.held found.1 in
        absurd (clash (sym (no_any (λ (x : Held). same_position x.at at) found.0 h.held none kept.0) ∙ same_at found.0 at kept.1 found.2))

pub nobody_holds : (p : Settings) → InRange p → (events : List Event) → Lawful p events → AreEvents events → (at : Position)
    → is_member position_before at (run p events).sender.sent ≡ false → (r : ReceiverState) → In r (run p events).receivers
    → holds (held_for (run p events).sender r) at ≡ false
nobody_holds p range events lawful are at unsent r there =
    let sent = sent_in_run p range events lawful are in
    let fresh = fresh_at (run p events) sent.1 sent.0 at in
    by (is_in r s.current.id) refl (no_any (is_held_by s.current.id at) r (run p events).receivers (none (is_member position_before at s.sent) _ unsent fresh) there)
  where
    s : SenderState
    s = (run p events).sender

    none : (a b : Bool) → a ≡ false → (a || not b) ≡ true → b ≡ false
    none true b e f = absurd (clash (sym e))
    none false true e f = absurd (clash f)
    none false false e f = refl

    held_by : Bool → Holding
    held_by b = elim b [ true ↦ r.holding | false ↦ holding_nothing ]

    by : (b : Bool) → is_in r s.current.id ≡ b → (b && list_any (λ (x : Held). same_position x.at at) r.holding.held) ≡ false → holds (held_by b) at ≡ false
    by true e f = not_held r.holding at f
    by false e f = refl
