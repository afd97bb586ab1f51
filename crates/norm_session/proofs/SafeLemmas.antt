-- What was done over an honest network is a lawful run of the nodes, and safe at each moment.
use Rattle.std.proofs.Common.{◌≡◌, ℕ, zero, suc, List, [], ◌∷◌, ◌++◌, Option, None, Some, refl, sym, ap, ◌∙◌, subst, arith}
use Rattle.std.specs.Prelude.{map, Contains, IsTrue, IsSome, IfSome, option_and_then}
use Rattle.std.specs.List.{AllByRecursion}
use Rattle.std.proofs.lemmas.Option.{option_and_then_some}
use Rattle.norm_base.specs.Network as network
use Rattle.norm_base.specs.Network.{Network}
use Rattle.norm_base.specs.Told.{Pieces, gained}
use Rattle.norm_script.specs.Commands.{Commands}
use Rattle.norm_script.specs.Scripts.{CanRun}
use Rattle.norm_safety.specs.InTime.{WasOffered}
use Rattle.norm_safety.specs.Jobs.{AreEvents}
use Rattle.norm_safety.specs.Lawful.{Lawful}
use Rattle.norm_safety.proofs.CreditLemmas.{credit_run}
use Rattle.norm_safety.proofs.FreshRun.{fresh_run, closing_run}
use Rattle.norm_safety.proofs.HoldRun.{hold_run}
use Rattle.norm_safety.proofs.Owing.{acknowledge_run}
use Rattle.norm_safety.proofs.RepairRun.{repair_run}
use Rattle.norm_safety.proofs.RunFronts.{front_laws}
use Rattle.norm_safety.proofs.SafeRun.{safe_run}
use Rattle.norm_safety.proofs.SaidRun.{said_run}
use Rattle.norm_journal.specs.declared.event.Event.{Event}
use Rattle.norm_journal.specs.declared.event.Event.TheVariants as event
use Rattle.norm_journal.specs.Accepting.{accepts, judged_from}
use Rattle.norm_journal.specs.Honest.{IsHonest}
use Rattle.norm_journal.specs.Jobs.{Told}
use Rattle.norm_journal.specs.Judged.{Judged}
use Rattle.norm_journal.specs.Laws.{HasOctets, octets_given}
use Rattle.norm_journal.specs.Projections.{offers_in, network_after}
use Rattle.norm_journal.specs.SessionRun.{Begun}
use Rattle.norm_journal.specs.WorldEvents.{world_events, TakesHonestly}
use Rattle.norm_journal.proofs.FrontLemmas.{judged_from-append, events_after, fronts_happen}
use Rattle.norm_journal.proofs.OctetLemmas.{commands_are_events}
use Rattle.norm_journal.proofs.OfferedLemmas.{offers_are_the_worlds}
use Rattle.norm_journal.proofs.TimeLemmas.{begins_lawfully}
use Rattle.norm_session.specs.Context.{Context, opening}
use Rattle.norm_session.specs.Session.{IsSafe, IsSafeThroughout, OverHonest, nodes_of, session_opening, session_events}
use Rattle.norm_session.specs.SoFar.{Leads, IsTakenFrom, AreTakenFrom}
use Rattle.norm_session.specs.Stopping.{Stopped}
use Rattle.norm_turns.specs.declared.fault.SessionFault.{SessionFault}
use Rattle.norm_session.proofs.SoFarLemmas.{judged_one}

-- ---- what was offered is the world's

-- an element of a mapped list is of one of the list
found_in : {X Y : Type 0} (f : X → Y) (xs : List X) (y : Y) → Contains (map f xs) y → (x : X) × Contains xs x × (f x ≡ y)
found_in f [] y has = absurd (omega (arith, has.1))
found_in f (x ∷ xs) y (zero, less, is) = (x, (0, omega arith, refl), is)
found_in f (x ∷ xs) y (suc k, less, is) =
    let rest = found_in f xs y (k, omega (arith, less), is) in (rest.0, (suc rest.1.0, omega (arith, rest.1.1), rest.1.2), rest.2)

-- a take of what another member had offered is honest
take_was_offered : (j : Judged) (past : List Event) (to : ℕ) (octets : List ℕ) → map octets_given j.world.offered ≡ offers_in past
    → network.WasOffered (offers_in past) to octets → WasOffered j.world to octets
take_was_offered j past to octets told was =
    let its = found_in octets_given j.world.offered (was.0, octets) (subst (λ xs. Contains xs (was.0, octets)) (sym told) was.2) in
    let from : its.0.0 ≡ was.0 = ap (λ (g : ℕ × List ℕ). g.0) its.2 in
    let same : its.0.1.octets ≡ octets = ap (λ (g : ℕ × List ℕ). g.1) its.2 in
    record { from = its.0.0; datagram = its.0.1; other = λ is. was.1 (sym from ∙ is); offered = its.1; same = same }

-- what an honest network gave was offered before, if it had told nothing of offers as it was started
was_offered : (n : Network) (past : List Event) (to : ℕ) (octets : List ℕ) → IsTrue n.honest → n.offered ≡ Some []
    → network.IsHonestAnswer (network_after n past) (Some (to, octets)) → network.WasOffered (offers_in past) to octets
was_offered n past to octets honest none answer =
    subst (λ (o : Option (List (ℕ × List ℕ))). IfSome (gained o (offers_in past)) (λ offered. network.WasOffered offered to octets)) none (answer honest)

take_is_honest : (n : Network) (j : Judged) (past : List Event) (e : Event) → IsTrue n.honest → n.offered ≡ Some []
    → map octets_given j.world.offered ≡ offers_in past → IsTakenFrom n past e → IsHonest j e
take_is_honest n j past (event.Took to octets) honest none told may =
    take_was_offered j past to octets told (was_offered n past to octets honest none may.0)
take_is_honest n j past event.Start honest none told may = tt
take_is_honest n j past (event.Turn turn now) honest none told may = tt
take_is_honest n j past (event.Pull by) honest none told may = tt
take_is_honest n j past (event.Job by job gave) honest none told may = tt
take_is_honest n j past (event.Length by name len fault) honest none told may = tt
take_is_honest n j past (event.Tick node sent) honest none told may = tt
take_is_honest n j past (event.Offer from octets) honest none told may = tt
take_is_honest n j past event.Empty honest none told may = tt
take_is_honest n j past (event.Up node instance up) honest none told may = tt
take_is_honest n j past (event.News news) honest none told may = tt
take_is_honest n j past event.End honest none told may = tt

-- ---- the takes of a session

pub judged_more : (start j next : Judged) (past : List Event) (e : Event) → judged_from start past ≡ Some j → accepts j e ≡ Some next
    → judged_from start (past ++ e ∷ []) ≡ Some next
judged_more start j next past e so is =
    judged_from-append start past (e ∷ []) ∙ ap (λ o. option_and_then (λ n. judged_from n (e ∷ [])) o) so ∙ judged_one j next e is

pub some_holds : {X : Type 0} (o : Option X) (P : X → Type 0) (x : X) → o ≡ Some x → P x → IfSome o P
some_holds o P x is holds = subst (λ y. IfSome y P) (sym is) holds

take_honestly : (script : Commands) (files : Told) (n : Network) (past events : List Event) (j last : Judged) → IsTrue n.honest → n.offered ≡ Some []
    → judged_from (session_opening script files) past ≡ Some j → judged_from j events ≡ Some last → AreTakenFrom n past events → TakesHonestly j events
unfolding judged_from AreTakenFrom TakesHonestly
take_honestly script files n past [] j last honest none so is taken = tt
take_honestly script files n past (e ∷ events) j last honest none so is taken =
    option_and_then_some (λ next. judged_from next events) (accepts j e) last is (λ next comes more. (
      take_is_honest n j past e honest none (offers_are_the_worlds script files (nodes_of script) past j so) taken.0,
      some_holds (accepts j e) (λ next. TakesHonestly next events) next comes
          (take_honestly script files n (past ++ e ∷ []) events next last honest none
          (judged_more (session_opening script files) j next past e so comes) more taken.1),
    ))

pub starts_there : (j : Judged) → judged_from j [] ≡ Some j
unfolding judged_from
starts_there j = refl

-- ---- what was done is safe

is_some : {X : Type 0} (o : Option X) (x : X) → o ≡ Some x → IsSome o
is_some o x is = subst IsSome (sym is) refl

-- a lawful run of a script's nodes
lawful_is_safe : (script : Commands) (files : Told) (journal : List Event) → CanRun script → Lawful script.profile (session_events script files journal)
    → AreEvents (session_events script files journal) → IsSafe script files journal
lawful_is_safe script files journal is lawful are =
    let events = session_events script files journal in
    let range = is.range in
    record {
      lawful = lawful;
      safe = safe_run.safe script.profile range events lawful are;
      credited = credit_run script.profile events;
      kept = hold_run script.profile range events lawful are;
      said = said_run script.profile range events lawful are;
      fresh = fresh_run script.profile range events lawful are;
      completes = closing_run script.profile range events lawful are;
      repaired = repair_run script.profile range events lawful are;
      acknowledged = acknowledge_run.handed script.profile range events lawful are;
      owed = acknowledge_run.owed script.profile range events lawful are;
    }

-- each front of it is one too
pub safe_throughout : (script : Commands) (files : Told) (n : Network) (journal : List Event) (last : Judged) → CanRun script
    → IsTrue n.honest → n.offered ≡ Some [] → judged_from (session_opening script files) journal ≡ Some last → AreTakenFrom n [] journal
    → AllByRecursion HasOctets journal → IsSafeThroughout script files journal
safe_throughout script files n journal last is honest none so taken octets front rest joined =
    let start = session_opening script files in
    let begun : Begun script files (nodes_of script) journal = is_some (judged_from start journal) last so in
    let takes = take_honestly script files n [] journal start last honest none (starts_there start) so taken in
    let before = session_events script files front in
    let more = events_after (judged_from start front) rest in
    let events : session_events script files journal ≡ before ++ more = ap (world_events start) joined ∙ fronts_happen start front rest in
    let lawful = subst (Lawful script.profile) events (begins_lawfully script files (nodes_of script) journal is begun octets takes) in
    let are = subst AreEvents events (commands_are_events script files (nodes_of script) journal is begun octets) in
    lawful_is_safe script files front is (front_laws.lawful script.profile before more lawful) (front_laws.events before more are)

-- ---- over an honest network

-- a network that tells nothing yet of offers, or nothing of them at all
over_honest : (x : Context) (Promise : Type 0) → IfSome x.network.offered (λ now. now ≡ []) → ((IsTrue x.network.honest) → x.network.offered ≡ Some [] → Promise)
    → OverHonest x.network Promise
over_honest x Promise none f honest = by_told x.network.offered refl none where
  by_told : (o : Option (List (ℕ × List ℕ))) → x.network.offered ≡ o → IfSome o (λ now. now ≡ []) → IfSome o (λ offered. Promise)
  by_told None is none = tt
  by_told (Some now) is none = f honest (is ∙ ap Some none)

-- the state that a session of all receivers begins with
session_judged : (x : Context) (journal : List Event) (last : Judged) → x.nodes ≡ nodes_of x.script → judged_from (opening x) journal ≡ Some last
    → judged_from (session_opening x.script x.files) journal ≡ Some last
session_judged x journal last nodes so = subst (λ n. judged_from (opening (record x { nodes = n })) journal ≡ Some last) nodes so

pub safe_over : (x : Context) (journal : List Event) (j : Judged) (network : Network) (written : Pieces) → Leads x journal j network written
    → x.nodes ≡ nodes_of x.script → CanRun x.script → IfSome x.network.offered (λ now. now ≡ [])
    → OverHonest x.network (IsSafeThroughout x.script x.files journal)
safe_over x journal j network written s nodes is none =
    over_honest x (IsSafeThroughout x.script x.files journal) none (λ honest told.
    safe_throughout x.script x.files x.network journal j is honest told (session_judged x journal j nodes s.judged) s.taken s.octets)

-- the same where a fault stopped it
pub safe_stopped : (x : Context) (fault : SessionFault) (network : Network) (written : Pieces) (s : Stopped x fault network written)
    → x.nodes ≡ nodes_of x.script → CanRun x.script → IfSome x.network.offered (λ now. now ≡ [])
    → OverHonest x.network (IsSafeThroughout x.script x.files s.journal)
safe_stopped x fault network written s nodes is none =
    over_honest x (IsSafeThroughout x.script x.files s.journal) none (λ honest told.
    safe_throughout x.script x.files x.network s.journal s.last is honest told (session_judged x s.journal s.last nodes s.begun) s.taken s.octets)
