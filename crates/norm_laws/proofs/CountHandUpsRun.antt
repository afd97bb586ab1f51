-- Each hand-up that a journal counts is one of a receiver of the profile.
use Rattle.std.proofs.Common.{◌≡◌, ℕ, ◌+◌, ◌≤◌, cond, List, [], ◌∷◌, Bool, true, false, Option, None, Some, Result, Ok, refl, sym, ap, ◌∙◌, subst, arith, inl, inr}
use Rattle.std.specs.Prelude.{map, find, ◌==◌}
use Rattle.std.specs.List.{AllByRecursion}
use Rattle.std.specs.Option.{option_to_list}
use Rattle.std.proofs.lemmas.Bool.Decides.{Decides-eqb}
use Rattle.std.proofs.lemmas.Option.{option_and_then_some, same_Some}
use Rattle.norm_base.specs.Settings.{Settings}
use Rattle.norm_order.specs.declared.up.Up.{Up}
use Rattle.norm_order.specs.declared.up.Up.TheVariants as up
use Rattle.norm_receive_rules.specs.ReceiverState.{ReceiverState}
use Rattle.norm_send_rules.specs.declared.fault.SendFault.{SendFault}
use Rattle.norm_send_rules.specs.declared.job.Receipt.{Receipt}
use Rattle.norm_send_rules.specs.declared.job.Receipt.TheVariants as receipt
use Rattle.norm_send_rules.specs.declared.news.News.{News}
use Rattle.norm_send_rules.specs.declared.news.News.TheVariants as news
use Rattle.norm_send_rules.specs.declared.news.Outcome.TheVariants as outcome
use Rattle.norm_safety.specs.Events.{Event as WorldEvent}
use Rattle.norm_safety.specs.World.{World}
use Rattle.norm_safety.specs.WorldLaws.{nodes_of}
use Rattle.norm_safety.specs.WorldStep.{run_from}
use Rattle.norm_safety.proofs.WorldLemmas.{world_laws}
use Rattle.norm_journal.specs.declared.event.Event.{Event}
use Rattle.norm_journal.specs.declared.event.Event.TheVariants as event
use Rattle.norm_journal.specs.declared.totals.Totals.{Totals}
use Rattle.norm_journal.specs.Accepting.{accepts, judged_from}
use Rattle.norm_journal.specs.Judged.{Judged}
use Rattle.norm_journal.specs.Totals.{with_gave, with_up, with_news}
use Rattle.norm_journal.specs.WorldEvents.{world_event}
use Rattle.norm_journal.proofs.FollowLemmas.{judges_what_follows}
use Rattle.norm_journal.proofs.WorldLemmas.{event_moves}
use Rattle.norm_laws.proofs.CountSteps.{counted, follows_counts}
use Rattle.norm_laws.proofs.CountHandUps.{IsIn, OfNodes, up_one, ups_many}

-- ---- whose hand-ups

-- a receiver that is in an instance is one of the world's
found_in : (rs : List ReceiverState) (node instance : ℕ) → (elim (find (λ (r : ReceiverState). r.node == node) rs) as (λ _. Option ℕ) [ Some r ↦ r.instance | None ↦ None ]) ≡ Some instance
    → IsIn (map (λ (r : ReceiverState). r.node) rs) node
found_in [] node instance e = absurd (none instance e)
  where
    none : (x : ℕ) → None ≡ Some x → ⊥
    none x e = cc
found_in (r ∷ rs) node instance e = go (r.node == node) refl (λ later. found_in rs node instance later) e
  where
    go : (b : Bool) → (r.node == node) ≡ b
        → ((elim (find (λ (r : ReceiverState). r.node == node) rs) as (λ _. Option ℕ) [ Some r ↦ r.instance | None ↦ None ]) ≡ Some instance
        → IsIn (map (λ (r : ReceiverState). r.node) rs) node)
        → (elim (cond b (Some r) (find (λ (r : ReceiverState). r.node == node) rs)) as (λ _. Option ℕ) [ Some r ↦ r.instance | None ↦ None ]) ≡ Some instance
        → IsIn (map (λ (r : ReceiverState). r.node) (r ∷ rs)) node
    go true is later e = inl ((Decides-eqb r.node node).0 is)
    go false is later e = inr (later e)

event_of : (j next : Judged) (e : Event) → accepts j e ≡ Some next → OfNodes (nodes_of j.world) e
event_of j next (event.Up node instance up) is =
    found_in j.world.receivers node instance ((judges_what_follows j next (event.Up node instance up)).0 is).1.within
event_of j next event.Start is = tt
event_of j next (event.Turn turn now) is = tt
event_of j next (event.Pull by) is = tt
event_of j next (event.Job by told gave) is = tt
event_of j next (event.Length by name len fault) is = tt
event_of j next (event.Tick node sent) is = tt
event_of j next (event.Offer from octets) is = tt
event_of j next (event.Took to octets) is = tt
event_of j next event.Empty is = tt
event_of j next (event.News change) is = tt
event_of j next event.End is = tt

nodes_stay : (p : Settings) (w : World) (o : Option WorldEvent) → nodes_of (run_from p w (option_to_list o)) ≡ nodes_of w
nodes_stay p w None = refl
nodes_stay p w (Some e) = world_laws.stays p w e

-- each hand-up of a journal is of a node that the world has
pub ups_of : (events : List Event) (j last : Judged) → judged_from j events ≡ Some last → AllByRecursion (OfNodes (nodes_of j.world)) events
unfolding judged_from
ups_of [] j last is = tt
ups_of (e ∷ events) j last is =
    option_and_then_some (λ next. judged_from next events) (accepts j e) last is (λ next comes more.
    let moves = event_moves j e next comes in
    let same : nodes_of next.world ≡ nodes_of j.world = ap nodes_of (sym moves.1) ∙ nodes_stay j.profile j.world (world_event j e) in
    (event_of j next e comes, subst (λ nodes. AllByRecursion (OfNodes nodes) events) same (ups_of events next last more)))

-- ---- how many

-- the hand-ups and losses that were counted
abbrev pub handed_of : Totals → ℕ
handed_of t = t.handed + t.lost

gave_handed : (gave : Result Receipt SendFault) (t : Totals) → handed_of (with_gave gave t) ≤ handed_of t + 0
gave_handed (Ok (receipt.Object index len)) t = omega arith
gave_handed (Ok (receipt.Opened index)) t = omega arith
gave_handed (Ok (receipt.Wrote index offset len)) t = omega arith
gave_handed _ t = omega arith

up_handed : (up : Up) (t : Totals) → handed_of (with_up up t) ≤ handed_of t + 1
up_handed (up.Object index kind info octets) t = omega arith
up_handed (up.StreamEnd index) t = omega arith
up_handed (up.Lost index) t = omega arith
up_handed _ t = omega arith

news_handed : (n : News) (t : Totals) → handed_of (with_news n t) ≤ handed_of t + 0
news_handed (news.Done mark outcome.Satisfied) t = omega arith
news_handed (news.Done mark (outcome.Expired left)) t = omega arith
news_handed (news.Done mark outcome.Cut) t = omega arith
news_handed _ t = omega arith

event_handed : (e : Event) (t : Totals) → handed_of (counted e t) ≤ handed_of t + up_one e
event_handed (event.Job by told gave) t = gave_handed gave t
event_handed (event.Up node instance up) t = up_handed up t
event_handed (event.News change) t = news_handed change t
event_handed event.Start t = omega arith
event_handed (event.Turn turn now) t = omega arith
event_handed (event.Pull by) t = omega arith
event_handed (event.Length by name len fault) t = omega arith
event_handed (event.Tick node sent) t = omega arith
event_handed (event.Offer from octets) t = omega arith
event_handed (event.Took to octets) t = omega arith
event_handed event.Empty t = omega arith
event_handed event.End t = omega arith

pub run_handed : (events : List Event) (j last : Judged) → judged_from j events ≡ Some last → handed_of last.totals ≤ handed_of j.totals + ups_many events
unfolding judged_from
run_handed [] j last is = let same = ap (λ (x : Judged). handed_of x.totals) (same_Some j last is) in omega (arith, same)
run_handed (e ∷ events) j last is =
    option_and_then_some (λ next. judged_from next events) (accepts j e) last is (λ next comes more.
    let counts = ap handed_of (follows_counts j next e ((judges_what_follows j next e).0 comes)) in
    let own = event_handed e j.totals in
    let rest = run_handed events next last more in
    (let h : handed_of last.totals ≤ handed_of j.totals + ups_many (e ∷ events) = omega (arith, counts, own, rest) in h))
